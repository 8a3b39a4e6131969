-- What the joins and the sums of counts behind a live conference need to know of its workers.
use Rattle.std.proofs.Common.{◌≡◌, ℕ, ◌+◌, ◌≤◌, List, [], ◌∷◌, ◌++◌, length, map, sum_by, sym, ap, subst, ◌∙◌, arith}
use Rattle.std.specs.List.{AllByRecursion}
use Rattle.cif_pack.specs.declared.packer.Settings.{Settings}
use Rattle.cif_pack.specs.declared.tally.Tally.{Tally}
use Rattle.hall_core.specs.Hall.{HallView}
use Rattle.io_edge.specs.Outside.{Input}
use Rattle.pel_model.specs.History.{Step}
use Rattle.hall_lock.specs.Own.{made, InOrder}
use Rattle.hall_lock.specs.Sorting.{WorkFrom}
use Rattle.bridge_live.specs.declared.mixer.MixCounts.{MixCounts}
use Rattle.bridge_live.specs.Endings.{HandedIn, LaneEnding, Ending, seats_of}
use Rattle.bridge_live.specs.Gathered.{LanesRan, ChairRan, MixerRan, Gathered}
use Rattle.bridge_live.specs.Worker.{HallSeat, owner, IsNew, HasMade}
use Rattle.bridge_live.proofs.Serving.{gathered-serves}
use Rattle.bridge_live.proofs.Tallying.{few-counted-steps}
use Rattle.bridge_live.proofs.Telling.{HallTurn, no-more-steps}

-- ---- the seats may be joined

record OneWorks (lanes w : ℕ) (seat : HallSeat) : Type 0 where
  order : InOrder seat
  past : seat.past ≡ []
  owned : AllByRecursion (λ (t : HallTurn). owner lanes t ≡ w) (made seat)

one-works : (lanes w : ℕ) (first seat : HallSeat) (steps : List Step) → IsNew first → HasMade lanes w first seat steps → OneWorks lanes w seat
one-works lanes w first seat steps new made-it = record {
  order = made-it.works.order;
  past = made-it.works.kept.2 ∙ new.past;
  owned = made-it.works.owned;
}

two-work : (lanes w : ℕ) (chair mixer : HallSeat) → w ≡ lanes → OneWorks lanes lanes chair → OneWorks lanes (lanes + 1) mixer
    → WorkFrom (owner lanes) w (chair ∷ mixer ∷ [])
two-work lanes w chair mixer at c m =
    subst (λ (v : ℕ). WorkFrom (owner lanes) v (chair ∷ mixer ∷ [])) (sym at) (c.order, c.past, c.owned, (m.order, m.past, m.owned, tt))

lanes-work : (lanes lane : ℕ) (befores : List Input) (ends : List LaneEnding) (chair mixer : HallSeat) → lane + length befores ≡ lanes
    → LanesRan lanes lane befores ends → OneWorks lanes lanes chair → OneWorks lanes (lanes + 1) mixer
    → WorkFrom (owner lanes) lane (map (λ (e : LaneEnding). e.seat) ends ++ chair ∷ mixer ∷ [])
lanes-work lanes lane [] [] chair mixer all ran c m = two-work lanes lane chair mixer (omega (arith, all)) c m
lanes-work lanes lane [] (e ∷ es) chair mixer all ran c m = absurd ran
lanes-work lanes lane (b ∷ bs) [] chair mixer all ran c m = absurd ran
lanes-work lanes lane (b ∷ bs) (e ∷ es) chair mixer all ran c m =
    let one : OneWorks lanes lane e.seat = one-works lanes lane ran.0.0 e.seat ran.0.2.steps ran.0.1 ran.0.2.has_made in
    (one.order, one.past, one.owned, lanes-work lanes (lane + 1) bs es chair mixer (omega (arith, all)) ran.1 c m)

pub work-from : (set : Settings) (given : HandedIn) (end : Ending) (counts : MixCounts) → LanesRan (length given.lanes) 0 given.lanes end.lanes
    → ChairRan (length given.lanes) given.chair end.chair → MixerRan (length given.lanes) set given.ticker given.sink end.mixer counts
    → WorkFrom (owner (length given.lanes)) 0 (seats_of end)
work-from set given end counts ran chair mixer =
    let lanes : ℕ = length given.lanes in
    lanes-work lanes 0 given.lanes end.lanes end.chair.seat end.mixer.seat (omega arith) ran
    (one-works lanes lanes chair.0 end.chair.seat chair.2.steps chair.1 chair.2.has_made)
    (one-works lanes (lanes + 1) mixer.0 end.mixer.seat mixer.2.mixes.steps mixer.1 mixer.2.mixes.has_made)

-- ---- the counts are small

-- the posts and the gaps of all lanes together are no more than the turns
pub few-counted : (set : Settings) (turns : ℕ) (opening : HallView) (given : HandedIn) (end : Ending) (counts : MixCounts) → Gathered set turns opening given end counts
    → sum_by (λ (e : LaneEnding). e.counts.posts) end.lanes + sum_by (λ (e : LaneEnding). e.counts.gaps) end.lanes ≤ end.number
few-counted set turns opening given end counts g =
    let s = gathered-serves set turns opening given end counts g in
    omega (
      arith,
      few-counted-steps s.history,
      ap (λ (t : Tally). t.pictures) s.counted,
      ap (λ (t : Tally). t.gaps) s.counted,
      no-more-steps [] s.history end.turns s.told,
      g.number.0,
    )
