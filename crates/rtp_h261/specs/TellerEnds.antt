-- How a reading ends, and how it leaves the teller.
use Rattle.std.specs.Prelude.{ℕ}
use Rattle.io_edge.specs.Outside.{Outside}
use Rattle.pel_model.specs.declared.Format.{Format}
use Rattle.rtp_h261.specs.declared.unit_end.UnitEnd.{UnitEnd}
use Rattle.rtp_h261.specs.Tellers.{Duty, CountsMore}
use Rattle.rtp_h261.specs.UnitEnds.{ReadsUnits, whole_pieces}

-- what the teller had to write was written, and it counted the pieces that were written whole
pub record TellsUnits (format : Format) (budget : ℕ) (old new : Duty) (before after : Outside) (end : UnitEnd) : Type 0 where
  pub reads : ReadsUnits format budget (old.pieces 1) before after end
  pub counts : CountsMore old.counts new.counts (whole_pieces reads)
