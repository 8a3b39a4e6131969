-- Inner contracts alone use this; nothing here has to be believed.
-- Pieces put one behind the other, and counted.
use Rattle.std.specs.Prelude.{◌≡◌, ℕ, ◌+◌, ◌*◌, ◌^◌, ◌<◌, ◌≤◌, nat_lt, Bool, if◌then◌else◌, List, [], ◌∷◌, ◌++◌, length, take, map, Option, Result, Ok, Err}
use Rattle.std.specs.List.{concat}
use Rattle.std.specs.Io.KnownBytes.{Appends}
use Rattle.io_edge.specs.Causes.{HasCause}
use Rattle.io_edge.specs.Outside.{Output}
use Rattle.conf_file.specs.Entries.{Content, Chair}
use Rattle.pel_bits.specs.Buffer.{Buffer}
use Rattle.pel_model.specs.declared.Quad.{Quad}
use Rattle.pel_model.specs.declared.chair.Command.TheVariants.{Place}
use Rattle.conf_make.specs.declared.output.MakeTally.{MakeTally}
use Rattle.conf_make.specs.declared.maker.MakeStop.{MakeStop}
use Rattle.conf_make.specs.declared.maker.MakeStop.TheVariants.{Done, WriteFault}
use Rattle.conf_make.specs.Ends.{no_entries}
use Rattle.conf_make.specs.Made.{is_grey, entry_of}
use Rattle.conf_make.specs.Pictures.{behind_picture}

-- some of these pieces were put whole and counted, and of the next one a front that is not all of it
pub record PutsSome (old new : Option (List ℕ)) (all : List (List ℕ)) (before now : MakeTally) : Type 0 where
  pub whole : List (List ℕ)
  pub broken : List ℕ
  pub rest : List (List ℕ)
  pub order : all ≡ whole ++ broken ∷ rest
  pub count : ℕ
  pub front : count < length broken
  pub bytes : Appends old new (concat whole ++ take count broken)
  pub records : now.records ≡ before.records + length whole
  pub octets : now.octets ≡ before.octets + length (concat whole)

-- all these pieces were put and counted
pub record PutsAllOf (old new : Option (List ℕ)) (all : List (List ℕ)) (before now : MakeTally) : Type 0 where
  pub bytes : Appends old new (concat all)
  pub records : now.records ≡ before.records + length all
  pub octets : now.octets ≡ before.octets + length (concat all)

abbrev pub PutsPieces : {E : Type 0} → Result Unit E → (old new : Option (List ℕ)) → List (List ℕ) → (before now : MakeTally)
    → Type 0
PutsPieces (Ok _) old new all before now = PutsAllOf old new all before now
PutsPieces (Err _) old new all before now = PutsSome old new all before now

-- of all these entries some were put, and the rest not yet
pub record HasPut (old new : Option (List ℕ)) (all rest : List Content) (before now : MakeTally) : Type 0 where
  pub done : List Content
  pub order : all ≡ done ++ rest
  pub put : PutsAllOf old new (map entry_of done) before now

-- no more than so many entries more were counted, each of 1,000 octets at most
pub record Grows (most : ℕ) (before now : MakeTally) : Type 0 where
  pub records : now.records ≤ before.records + most
  pub octets : now.octets ≤ before.octets + 1000 * most

-- so many entries more can be counted
abbrev pub CanCountEntries : (most : ℕ) → MakeTally → Type 0
CanCountEntries most tally = (tally.records + most < 2 ^ 62) × (tally.octets + 1000 * most < 2 ^ 62)

-- a call put these pieces, so many entries at most; or some of them, and the sink failed
pub record PutsEntries {E : Type 0} (most : ℕ) (all : List (List ℕ)) (before after : Output) (old new : MakeTally)
    (result : Result Unit E) : Type 0 where
  pub pieces : PutsPieces result before.written after.written all old new
  pub grows : Grows most old new
  pub cause : HasCause before.faults after.faults result

-- the header was put, or a front of it and not all
abbrev pub PutsHeader : {E : Type 0} → Result Unit E → (old new : Option (List ℕ)) → List ℕ → (now : MakeTally) → Type 0
PutsHeader (Ok _) old new header now = Appends old new header × (now ≡ record { records = 0; octets = 10 })
PutsHeader (Err _) old new header now =
    ((n : ℕ) × (n < length header) × Appends old new (take n header)) × (now ≡ no_entries)

-- why the making stopped
abbrev pub written_stop : {E : Type 0} → Result Unit E → MakeStop
written_stop (Ok _) = Done
written_stop (Err _) = WriteFault

-- the most bits of a picture
abbrev pub most_bits : ℕ
most_bits = 6545

-- the most octets of an entry
abbrev pub most_entry_octets : ℕ
most_entry_octets = 1000

-- a place's command, if there is its lane
abbrev pub place_entry : (lanes : ℕ) → Quad → (lane : ℕ) → List Content
place_entry lanes quad lane = if nat_lt lane lanes then Chair (Place quad lane) ∷ [] else []

-- the state of the generator behind the picture of a lane
abbrev pub behind_made : (tick lane state : ℕ) → ℕ
behind_made tick lane state = if is_grey tick lane then state else behind_picture state

abbrev pub with_bits : Buffer → List Bool → Buffer
with_bits buffer bits = record buffer { list = buffer.list ++ bits }
