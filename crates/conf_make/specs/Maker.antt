-- Inner contracts alone use this; nothing here has to be believed.
-- What the calls of a maker write, and the state in which they leave it.
use Rattle.std.specs.Prelude.{◌≡◌, ℕ, List, map, Option, Result, Ok, Err, OnOk}
use Rattle.io_edge.specs.Causes.{HasCause}
use Rattle.io_edge.specs.Outside.{Output}
use Rattle.conf_file.specs.Entries.{Content}
use Rattle.conf_make.specs.declared.maker.Maker.{Maker}
use Rattle.conf_make.specs.declared.output.MakeTally.{MakeTally}
use Rattle.conf_make.specs.Ends.{WritesFile, WritesFront}
use Rattle.conf_make.specs.Made.{entry_of}
use Rattle.conf_make.specs.Writing.{PutsEntries}

-- a call put these entries, so many at most, and left the generator in this state; or some of them, and the sink failed
pub record MakesEntries {E : Type 0} (most : ℕ) (entries : List Content) (end : ℕ) (before after : Output)
    (old new : Maker) (result : Result Unit E) : Type 0 where
  pub puts : PutsEntries most (map entry_of entries) before after old.tally new.tally result
  pub state : OnOk result (new.state ≡ end)
  pub lanes : new.lanes ≡ old.lanes

-- the file was written, or the front of it that the counts tell
abbrev pub PutsFile : {E : Type 0} → Result Unit E → (old new : Option (List ℕ)) → (seed ticks lanes : ℕ) → MakeTally → Type 0
PutsFile (Ok _) old new seed ticks lanes tally = WritesFile seed ticks lanes old new tally
PutsFile (Err _) old new seed ticks lanes tally = WritesFront seed ticks lanes old new tally

pub record MakesFile {E : Type 0} (ticks : ℕ) (before after : Output) (old new : Maker) (result : Result Unit E) : Type 0
  where
    pub file : PutsFile result before.written after.written old.state ticks old.lanes new.tally
    pub cause : HasCause before.faults after.faults result
