-- How a watch over a stream ends.
use Rattle.std.specs.Prelude.{◌≡◌, ℕ}
use Rattle.io_edge.specs.Outside.{Outside}
use Rattle.pel_model.specs.declared.Format.{Format}
use Rattle.rtp_h261.specs.UnitEnds.{ReadsUnits, whole_pieces}
use Rattle.update_watch.specs.declared.frames.WatchEnd.{WatchEnd}
use Rattle.update_watch.specs.Late.{late}

-- the lines of what happens at the packets were written, and those that were written whole are counted
pub record WatchesFrames (format : Format) (budget : ℕ) (before after : Outside) (end : WatchEnd) : Type 0 where
  pub reads : ReadsUnits format budget late before after end.end
  pub counts : end.overdue ≡ whole_pieces reads
