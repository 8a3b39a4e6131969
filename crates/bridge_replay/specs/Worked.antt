-- A worked conference: one lane, a tick of one step, and the end.
use Rattle.std.specs.Prelude.{◌≡◌, ℕ, ◌++◌, List, [], ◌∷◌, None, codes}
use Rattle.bridge_replay.specs.FileHistory.{oldest_first, IsHistory}
use Rattle.cif_pack.specs.declared.packer.Settings.{Settings}
use Rattle.cif_pack.specs.Packets.{out}
use Rattle.cif_pack.specs.PicturesWritten.{pictures_written}
use Rattle.cif_pack.specs.Tallies.{tally_of}
use Rattle.conf_file.specs.Entries.{Content, Tick as TickEntry, End as EndEntry}
use Rattle.conf_file.specs.File.{Whole, Conference, IsFile}
use Rattle.pel_model.specs.declared.note.TickNote.{TickNote}
use Rattle.pel_model.specs.History.{History, Tick, End}

abbrev pub worked_settings : Settings
worked_settings = record { mtu = 1400; seq = 0; stamp = 0; ssrc = 1211250225 }

abbrev pub note : TickNote
note = record { step = 1; total = 1; taken_one = None; taken_two = None; taken_three = None; taken_four = None; waiting = 0 }

abbrev pub entries : List Content
entries = EndEntry ∷ TickEntry 1 ∷ []

abbrev pub history : History
history = End ∷ Tick note ∷ []

-- H261CONF, version 1, one lane; T and a step of 1; E
abbrev pub file : List ℕ
file = codes "H261CONF" ++ 1 ∷ 1 ∷ 84 ∷ 1 ∷ 69 ∷ []

-- one frame: its length, the headers, and a picture whose groups send nothing
abbrev pub octets : List ℕ
octets =
    0 ∷ 59 ∷ 128 ∷ 159 ∷ 0 ∷ 0 ∷ 0 ∷ 0 ∷ 11 ∷ 187 ∷ 72 ∷ 50 ∷ 54 ∷ 49 ∷ 1 ∷ 0 ∷ 0 ∷ 0 ∷
    0 ∷ 1 ∷ 0 ∷ 142 ∷ 0 ∷ 1 ∷ 16 ∷ 128 ∷ 0 ∷ 72 ∷ 32 ∷ 0 ∷ 19 ∷ 8 ∷ 0 ∷ 5 ∷ 2 ∷ 0 ∷ 1 ∷ 80 ∷ 128 ∷ 0 ∷ 88 ∷ 32 ∷
    0 ∷ 23 ∷ 8 ∷ 0 ∷ 6 ∷ 2 ∷ 0 ∷ 1 ∷ 144 ∷ 128 ∷ 0 ∷ 104 ∷ 32 ∷ 0 ∷ 27 ∷ 8 ∷ 0 ∷ 7 ∷ 2 ∷ []

pub record OneEmptyTick : Type 0 where
  pub says : IsFile file (Conference 1 (oldest_first entries) Whole)
  pub steps : IsHistory 1 entries history
  pub writes : out worked_settings 0 (pictures_written 1 history) ≡ octets
  pub counts :
      tally_of worked_settings 1 history history
      ≡ record { ticks = 1; pictures = 0; gaps = 0; commands = 0; refused = 0; taken = 0; packets = 1; octets = 61 }
