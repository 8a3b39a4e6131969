-- The worked conference, computed.
use Rattle.std.proofs.Common.{◌≡◌, [], ◌∷◌, refl, arith}
use Rattle.bridge_replay.specs.Worked.{worked_settings, note, history, octets, OneEmptyTick}
use Rattle.pel_model.specs.declared.Quad.{Quad}
use Rattle.pel_model.specs.declared.Quad.TheVariants.{One, Two, Three, Four}
use Rattle.cif_pack.specs.Packets.{out}
use Rattle.cif_pack.specs.Payload.{bits_packed}
use Rattle.cif_pack.specs.PicturesWritten.{pictures_written}
use Rattle.cif_pack.specs.Tallies.{tally_of}
use Rattle.pel_bits.specs.Bits.{field as bits_field, number}
use Rattle.pel_model.specs.Bits.{field}
use Rattle.pel_model.specs.Headers.{picture_header_text, group_header_text}
use Rattle.pel_model.specs.Text.{macroblocks_text}
use Rattle.conf_file.specs.Entries.{Tick as TickEntry, End as EndEntry}
use Rattle.pel_model.specs.History.{Tick, taken_in}
use Rattle.pel_model.specs.Legal.{IsNote}
use Rattle.pel_model.specs.Takes.{take}

takes-none : (q : Quad) → taken_in q note ≡ take 1 [] q
takes-none One = refl
takes-none Two = refl
takes-none Three = refl
takes-none Four = refl

pub is-note : IsNote 1 [] note
is-note = record { low = omega arith; high = omega arith; total = refl; takes = takes-none; waits = refl }

goes-on : TickEntry 1 ≡ EndEntry → ⊥
goes-on e = cc

writes-so : out worked_settings 0 (pictures_written 1 history) ≡ octets
unfolding picture_header_text group_header_text macroblocks_text field bits_field number bits_packed
writes-so = refl

counts-so : tally_of worked_settings 1 history history ≡ record { ticks = 1; pictures = 0; gaps = 0; commands = 0; refused = 0; taken = 0; packets = 1; octets = 61 }
unfolding picture_header_text group_header_text macroblocks_text field bits_field number bits_packed
counts-so = refl

pub one-empty-tick : OneEmptyTick
one-empty-tick = record {
  says = (
    84 ∷ 1 ∷ 69 ∷ [],
    refl,
    (omega arith, omega arith),
    record {
      at = 13;
      left = [];
      begins = record {
        entries = (84 ∷ 1 ∷ []) ∷ (69 ∷ []) ∷ [];
        cut = refl;
        spelled = ((refl, (omega arith, omega arith)), (refl, tt));
        counted = refl;
      };
      stops = (TickEntry 1 ∷ [], refl, (goes-on, tt));
    },
  );
  steps = (Tick note ∷ [], ([], refl, (note, refl, is-note, refl)), refl);
  writes = writes-so;
  counts = counts-so;
}
