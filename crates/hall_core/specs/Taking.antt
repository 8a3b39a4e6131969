-- Inner contracts alone use this; nothing here has to be believed.
-- What a tick makes of a hall in one place, and for which lanes it waits then.
use Rattle.std.specs.Prelude.{ℕ, ◌+◌, ◌^◌, ◌==◌, Bool, true, not, nat_lt, ◌&&◌, if◌then◌else◌, Option, Some, None, List, [], slice_index_or, slice_set, sum_by}
use Rattle.std.specs.List.{after_first, list_any, range_with_len}
use Rattle.h261_pic.specs.Coded.{Coding}
use Rattle.pel_model.specs.declared.Quad.{Quad}
use Rattle.pel_model.specs.declared.held.Held.{Held}
use Rattle.pel_model.specs.declared.note.Take.{Take}
use Rattle.pel_model.specs.Lanes.{may_follow, first_to_show}
use Rattle.pel_model.specs.Plan.{places, is_lane}
use Rattle.pel_model.specs.Takes.{serial_or}
use Rattle.stage_plan.specs.PerPlace.{in_place, with_place}
use Rattle.stage_plan.specs.Places.{lane_in}
use Rattle.hall_core.specs.Hall.{RingView, HallView}

-- the ring of a lane
abbrev pub ring_in : HallView → ℕ → RingView
ring_in hall c = slice_index_or hall.rings c (record { held = []; count = 0 })

-- what may be shown next in a place
abbrev pub next_of : HallView → Quad → Option ℕ → Option (Held Coding)
next_of hall q None = None
next_of hall q (Some c) = first_to_show (in_place hall.last q) (ring_in hall c).held

abbrev pub next_in : HallView → Quad → Option (Held Coding)
next_in hall q = next_of hall q (lane_in hall.plan q)

abbrev pub told_as : Option ℕ → Option (Held Coding) → Option Take
told_as None picture = None
told_as (Some c) None = None
told_as (Some c) (Some h) = Some (record { lane = c; serial = h.serial })

-- what is told of it
abbrev pub told_in : HallView → Quad → Option Take
told_in hall q = told_as (lane_in hall.plan q) (next_in hall q)

-- what stands in the place's box then
abbrev pub left_in : Option (Held Coding) → Coding → Coding
left_in None former = former
left_in (Some h) former = h.item

-- a ring whose first pictures were passed, up to the one that was taken behind `last`
abbrev pub drained : Option ℕ → RingView → RingView
drained last ring = record { held = after_first (may_follow last) ring.held; count = ring.count }

abbrev pub rings_behind : HallView → Quad → Option ℕ → List RingView
rings_behind hall q None = hall.rings
rings_behind hall q (Some c) = slice_set hall.rings c (drained (in_place hall.last q) (ring_in hall c))

-- the hall behind a take in one place
abbrev pub behind_take : HallView → Quad → HallView
behind_take hall q = record hall {
  rings = rings_behind hall q (lane_in hall.plan q);
  last = with_place hall.last q (serial_or (told_in hall q) (in_place hall.last q));
}

-- ---- for which lanes the conference waits

-- the tenancy took nothing yet, or the serial behind the one it took last was given out and is not held
abbrev pub is_ring_at_loss : Option ℕ → RingView → Bool
is_ring_at_loss None ring = true
is_ring_at_loss (Some last) ring =
    nat_lt last ring.count && not (list_any (λ (h : Held Coding). h.serial == last + 1) ring.held)

abbrev pub is_waited_at : HallView → ℕ → Quad → Bool
is_waited_at hall c q =
    is_lane c (lane_in hall.plan q) && is_ring_at_loss (in_place hall.last q) (ring_in hall c)

abbrev pub is_waited_in : HallView → ℕ → Bool
is_waited_in hall c = list_any (is_waited_at hall c) places

abbrev pub waiting_in : HallView → ℕ
waiting_in hall =
    sum_by (λ c. if is_waited_in hall c then 2 ^ c else 0) (range_with_len 0 hall.plan.lanes)
