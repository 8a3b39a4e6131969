-- Inner contracts alone use this; nothing here has to be believed.
-- The picture of one tick, composed and sent.
use Rattle.std.specs.Prelude.{◌≡◌, ℕ, ◌^◌, ◌≤◌, false, List, Result, IfOk}
use Rattle.cif_mix.specs.Taken.{Took}
use Rattle.cif_pack.specs.declared.packer.Sent.{Sent}
use Rattle.cif_pack.specs.declared.packer.Settings.{Settings}
use Rattle.cif_pack.specs.PicturesWritten.{picture_at}
use Rattle.cif_pack.specs.State.{PackerState, AreFew, HasSent, HasSentNext}
use Rattle.h261_pic.specs.declared.hand.Hand.{Hand}
use Rattle.io_edge.specs.declared.edges.Failed.{Failed}
use Rattle.io_edge.specs.Causes.{HasCause}
use Rattle.io_edge.specs.Outside.{Output}
use Rattle.pel_model.specs.declared.note.TickNote.{TickNote}
use Rattle.pel_model.specs.History.{History}
use Rattle.pel_model.specs.Records.{Picture}

-- the picture of a tick may be sent, whose takes stand in the hand
pub record MaySend (note : TickNote) (hand : Hand) (writer : PackerState) : Type 0 where
  pub usable : writer.spent ≡ false
  pub took : (lanes : ℕ) × (H : History) × Took lanes H note hand
  pub total : note.total ≤ 2 ^ 50

-- it was sent behind those that were sent before; or the sink failed at it
pub record SendsTick (note : TickNote) (hand : Hand) (sink now : Output) (old new : PackerState) (result : Result Sent Failed) :
    Type 0 where
  pub usable : IfOk result (λ sent. new.spent ≡ false)
  pub few : IfOk result AreFew
  pub cause : HasCause sink.faults now.faults result
  pub sends : (lanes : ℕ) (H : History) → Took lanes H note hand →
      (set : Settings) (pictures : List (ℕ × Picture)) (former : Sent) (first : Output) →
      HasSent set pictures old former first sink →
      HasSentNext set pictures (picture_at lanes H note) new former first now result
