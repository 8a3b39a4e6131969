-- The laws of histories.
use Rattle.std.specs.Prelude.{◌≡◌, ℕ, false, Some, ◌∷◌}
use Rattle.pel_model.specs.declared.Quad.{Quad}
use Rattle.pel_model.specs.declared.note.TickNote.{TickNote}
use Rattle.pel_model.specs.Headline.{Headline, Tenancies}
use Rattle.pel_model.specs.History.{History, Tick, lane_at}
use Rattle.pel_model.specs.Lanes.{low_after}
use Rattle.pel_model.specs.Legal.{Legal}
use Rattle.pel_model.specs.Plan.{is_lane}
use Rattle.pel_model.specs.Takes.{last_taken, low_serial, held_pictures}

abbrev pub HeadlineLaw : Type 0
HeadlineLaw = (lanes : ℕ) (H : History) → Legal lanes H → Headline lanes H

abbrev pub TenancyLaw : Type 0
TenancyLaw = (lanes : ℕ) (H : History) → Legal lanes H → Tenancies lanes H

-- what a tick takes or passes of a lane: where the lane stands in a place, what the rule of takes says there; else nothing
pub record PassingLaw : Type 0 where
  pub standing :
      (lanes : ℕ) (H : History) (note : TickNote) (q : Quad) (c : ℕ) → lane_at lanes H q ≡ Some c →
      low_serial lanes (Tick note ∷ H) c
      ≡ low_after (last_taken lanes H q) (held_pictures lanes H c) (low_serial lanes H c)
  pub elsewhere :
      (lanes : ℕ) (H : History) (note : TickNote) (c : ℕ) →
      ((q : Quad) → is_lane c (lane_at lanes H q) ≡ false) →
      low_serial lanes (Tick note ∷ H) c ≡ low_serial lanes H c
