-- Inner contracts alone use this; nothing here has to be believed.
use Rattle.std.specs.Prelude.{◌≡◌, List, ℕ}
use Rattle.bridge_cli.specs.Lives.{status_of_mixer}
use Rattle.bridge_cli.specs.Notes.{fault_line, line_for, tally_line}
use Rattle.bridge_cli.specs.Runs.{Did, IsDoneWhole, Notes}
use Rattle.bridge_cli.specs.declared.live.LiveEnd.{LiveEnd}
use Rattle.bridge_cli.specs.declared.live.LiveEnd.TheVariants.{Refused, Served}
use Rattle.bridge_cli.specs.declared.status.Status.{Status}
use Rattle.command_words.specs.Options.{Text}
use Rattle.io_edge.specs.Outside.{Output, Outside}

-- what the words ask for was done, and is whole where its input is
pub record DoesAsked (words : List Text) (before after : Outside) (told : Status) (line : List ℕ) : Type 0 where
  pub did : Did words before after told line
  pub complete : IsDoneWhole words before after told

-- the line of this end was written, and the other end is the same with the status of that
abbrev pub Retells : {S C K : Type 0} → (end told : LiveEnd S C K) → (old new : Output) → Type 0
Retells (Refused status ticker sink) (Refused status_now ticker_now sink_now) old new =
    (ticker_now ≡ ticker) × (sink_now ≡ sink) × Notes status (fault_line status) status_now old new
Retells (Served status end) (Served status_now end_now) old new =
    (end_now ≡ end)
    × Notes (status_of_mixer end.stop) (line_for (tally_line end.tally) (status_of_mixer end.stop)) status_now old new
Retells _ _ old new = ⊥
