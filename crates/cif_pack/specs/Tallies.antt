-- What a tally counts.
use Rattle.std.specs.Prelude.{ℕ, ◌+◌, Bool, if◌then◌else◌, is_some, [], ◌∷◌, length, not}
use Rattle.cif_pack.specs.declared.packer.Sent.{Sent}
use Rattle.cif_pack.specs.declared.packer.Settings.{Settings}
use Rattle.cif_pack.specs.declared.tally.Tally.{Tally}
use Rattle.cif_pack.specs.Packets.{sent_packets, out}
use Rattle.cif_pack.specs.PicturesWritten.{pictures_written}
use Rattle.pel_model.specs.declared.note.TickNote.{TickNote}
use Rattle.pel_model.specs.History.{Step, Post, Gap, Order, Tick, End, History}
use Rattle.pel_model.specs.Plan.{is_done}

-- a tally in which nothing is counted
abbrev pub nothing_counted : Tally
nothing_counted = record { ticks = 0; pictures = 0; gaps = 0; commands = 0; refused = 0; taken = 0; packets = 0; octets = 0 }

abbrev pub one_if : Bool → ℕ
one_if b = if b then 1 else 0

-- how many places took a picture
abbrev pub takes_in : TickNote → ℕ
takes_in note =
    one_if (is_some note.taken_one) + one_if (is_some note.taken_two)
    + one_if (is_some note.taken_three) + one_if (is_some note.taken_four)

-- the tally with one step more
abbrev pub with_step : Tally → Step → Tally
with_step t (Post lane picture) = record t { pictures = t.pictures + 1 }
with_step t (Gap lane) = record t { gaps = t.gaps + 1 }
with_step t (Order command reply) =
    record t { commands = t.commands + 1; refused = t.refused + one_if (not (is_done reply)) }
with_step t (Tick note) = record t { ticks = t.ticks + 1; taken = t.taken + takes_in note }
with_step t End = t

-- the steps of a history
abbrev pub steps_counted : History → Tally
steps_counted [] = nothing_counted
steps_counted (s ∷ history) = with_step (steps_counted history) s

-- what a tally tells of packets
abbrev pub sent_of : Tally → Sent
sent_of t = record { packets = t.packets; octets = t.octets }

-- the tally with these packets and octets more
abbrev pub with_sent : Tally → Sent → Tally
with_sent t sent = record t { packets = t.packets + sent.packets; octets = t.octets + sent.octets }

-- the steps of this history, and the packets of the pictures that were written whole, which are those of the other, and
-- their octets, with those of the frames' lengths
abbrev pub tally_of : Settings → ℕ → (history whole : History) → Tally
tally_of set lanes history whole = record (steps_counted history) {
  packets = length (sent_packets set 0 (pictures_written lanes whole));
  octets = length (out set 0 (pictures_written lanes whole));
}
