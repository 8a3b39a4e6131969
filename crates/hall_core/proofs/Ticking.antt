-- The four takes of a tick, one behind another, and the history with the tick.
use Rattle.std.proofs.Common.{◌≡◌, ℕ, ◌+◌, ◌<◌, ◌≢◌, ◌==◌, Bool, true, false, Option, None, Some, List, [], ◌∷◌, length, map, slice_get, refl, sym, ap, ap₂, ◌∙◌, arith}
use Rattle.std.proofs.lemmas.Bool.Decides.{nat_tests}
use Rattle.std.proofs.lemmas.Option.{get_or_from_slice_get, slice_get_within}
use Rattle.std.specs.Option.{option_map}
use Rattle.h261_pic.specs.Coded.{Coding, coding}
use Rattle.history_laws.proofs.Standing.{Here, only, lane-is, passing-law}
use Rattle.lane_ring.specs.Arrivals.{held_as}
use Rattle.lane_ring.proofs.Rising.{tick_law}
use Rattle.lane_ring.proofs.Views.{view_law}
use Rattle.pel_model.specs.declared.Format.TheVariants.{Qcif}
use Rattle.pel_model.specs.declared.Quad.{Quad}
use Rattle.pel_model.specs.declared.Quad.TheVariants.{One, Two, Three, Four}
use Rattle.pel_model.specs.declared.held.Held.{Held}
use Rattle.pel_model.specs.declared.note.TickNote.{TickNote}
use Rattle.pel_model.specs.History.{History, Tick, arrivals, commands, lane_at, taken_in}
use Rattle.pel_model.specs.Lanes.{held_above, first_to_show}
use Rattle.pel_model.specs.Plan.{is_lane}
use Rattle.pel_model.specs.Records.{Picture}
use Rattle.pel_model.specs.Regions.{number_of}
use Rattle.pel_model.specs.Takes.{serial_or, last_taken, low_serial, held_pictures, choice_of, choice, take_of, take}
use Rattle.stage_plan.specs.PerPlace.{in_place}
use Rattle.stage_plan.specs.Places.{lane_in}
use Rattle.stage_plan.proofs.Standing.{seating}
use Rattle.hall_core.specs.Hall.{RingView, HallView}
use Rattle.hall_core.specs.Stands.{ring_behind, StandsFor, box_behind}
use Rattle.hall_core.specs.Taking.{next_of, next_in, told_as, told_in, left_in, drained, rings_behind, behind_take}
use Rattle.hall_core.proofs.Rings.{get-set-same, get-set-other}
use Rattle.hall_core.proofs.Taking.{drained-map}

-- ---- a ring behind a take in one place

other-lane : (c d : ℕ) → (c == d) ≡ false → c ≢ d
other-lane c d e = grind (arith, nat_tests)

kept-at : (hall : HallView) (q : Quad) (lane : Option ℕ) (c : ℕ) (r : RingView) → is_lane c lane ≡ false → slice_get hall.rings c ≡ Some r →
    slice_get (rings_behind hall q lane) c ≡ Some r
kept-at hall q None c r away found = found
kept-at hall q (Some d) c r away found = get-set-other hall.rings d c _ (other-lane c d away) ∙ found

taken-at : (hall : HallView) (q : Quad) (c : ℕ) (r : RingView) → slice_get hall.rings c ≡ Some r →
    slice_get (rings_behind hall q (Some c)) c ≡ Some (drained (in_place hall.last q) r)
taken-at hall q c r found =
    get-set-same hall.rings c _ (slice_get_within hall.rings c r found)
    ∙ ap (λ k. Some (drained (in_place hall.last q) k)) (get_or_from_slice_get hall.rings c r (record { held = []; count = 0 }) found)

ring-kept : (hall : HallView) (q : Quad) (c : ℕ) (r : RingView) → is_lane c (lane_in hall.plan q) ≡ false → slice_get hall.rings c ≡ Some r →
    slice_get (behind_take hall q).rings c ≡ Some r
ring-kept hall q c r away found = kept-at hall q (lane_in hall.plan q) c r away found

ring-taken : (hall : HallView) (q : Quad) (c : ℕ) (r : RingView) → lane_in hall.plan q ≡ Some c → slice_get hall.rings c ≡ Some r →
    slice_get (behind_take hall q).rings c ≡ Some (drained (in_place hall.last q) r)
ring-taken hall q c r here found =
    ap (λ lane. slice_get (rings_behind hall q lane) c) here ∙ taken-at hall q c r found

-- ---- a ring behind a tick, by the history

tick-here : (lanes : ℕ) (H : History) (note : TickNote) (q : Quad) (c : ℕ) → lane_at lanes H q ≡ Some c →
    ring_behind lanes (Tick note ∷ H) c ≡ drained (last_taken lanes H q) (ring_behind lanes H c)
tick-here lanes H note q c stands =
    ap (λ (hs : List (Held Picture)). record { held = map (held_as (coding Qcif)) hs; count = length (arrivals H c) })
    (ap (λ low. held_above low (arrivals H c)) (passing-law.standing lanes H note q c stands)
    ∙ sym (tick_law.rest (last_taken lanes H q) (low_serial lanes H c) (arrivals H c)))
    ∙ drained-map (coding Qcif) (last_taken lanes H q) (held_pictures lanes H c) (length (arrivals H c))

tick-away : (lanes : ℕ) (H : History) (note : TickNote) (c : ℕ) → ((q : Quad) → Here lanes H c q ≡ false) →
    ring_behind lanes (Tick note ∷ H) c ≡ ring_behind lanes H c
tick-away lanes H note c away =
    ap (λ low. record { held = map (held_as (coding Qcif)) (held_above low (arrivals H c)); count = length (arrivals H c) })
    (passing-law.elsewhere lanes H note c away)

-- in no lower place
before : (lanes : ℕ) (H : History) (c : ℕ) (p q : Quad) → number_of p < number_of q → Here lanes H c q ≡ true → Here lanes H c p ≡ false
before lanes H c p q apart there =
    elim (Here lanes H c p) as (λ v. Here lanes H c p ≡ v → v ≡ false) [
      | true ↦ λ here. absurd (both (sym there ∙ only lanes H c p q apart here))
      | false ↦ λ _. refl
    ] refl
  where
    both : true ≡ false → Prim.⊥
    both e = cc

told-same : (lane : Option ℕ) (found : Option (Held Picture)) → told_as lane (option_map (held_as (coding Qcif)) found) ≡ take_of lane found
told-same None found = refl
told-same (Some c) None = refl
told-same (Some c) (Some h) = refl

pub left-same : (found : Option (Held Picture)) (former : Coding) → left_in (option_map (held_as (coding Qcif)) found) former ≡ box_behind found former
left-same None former = refl
left-same (Some h) former = refl

module _ (lanes : ℕ) (H : History) (hall : HallView) (q : Quad) (seat : lane_in hall.plan q ≡ lane_at lanes H q)
    (last : in_place hall.last q ≡ last_taken lanes H q) (rings : (c : ℕ) → lane_at lanes H q ≡ Some c → slice_get hall.rings c ≡ Some (ring_behind lanes H c)) where
  next-at : (lane : Option ℕ) → ((c : ℕ) → lane ≡ Some c → slice_get hall.rings c ≡ Some (ring_behind lanes H c)) →
      next_of hall q lane ≡ option_map (held_as (coding Qcif)) (choice_of lanes H q lane)
  next-at None is = refl
  next-at (Some c) is =
      ap₂ (λ (l : Option ℕ) (r : RingView). first_to_show l r.held) last
      (get_or_from_slice_get hall.rings c (ring_behind lanes H c) (record { held = []; count = 0 }) (is c refl))
      ∙ view_law.first (coding Qcif) (last_taken lanes H q) (held_pictures lanes H c)

  pub next-same : next_in hall q ≡ option_map (held_as (coding Qcif)) (choice lanes H q)
  next-same = ap (next_of hall q) seat ∙ next-at (lane_at lanes H q) rings

  pub told-take : told_in hall q ≡ take lanes H q
  told-take = ap₂ told_as seat next-same ∙ told-same (lane_at lanes H q) (choice lanes H q)

-- ---- the four takes

module _ (hall : HallView) (H : History) (stands : StandsFor hall H) where
  abbrev pub after_one : HallView
  after_one = behind_take hall One

  abbrev pub after_two : HallView
  after_two = behind_take after_one Two

  abbrev pub after_three : HallView
  after_three = behind_take after_two Three

  abbrev pub after_four : HallView
  after_four = behind_take after_three Four

  abbrev n : ℕ
  n = hall.plan.lanes

  seat : (q : Quad) → lane_in hall.plan q ≡ lane_at n H q
  seat q = stands.plan.seats q

  away : (c : ℕ) (q : Quad) → Here n H c q ≡ false → is_lane c (lane_in hall.plan q) ≡ false
  away c q none = ap (is_lane c) (seat q) ∙ none

  here : (c : ℕ) (q : Quad) → Here n H c q ≡ true → lane_in hall.plan q ≡ Some c
  here c q there = seat q ∙ lane-is c (lane_at n H q) there

  itself : (c : ℕ) (q : Quad) → lane_at n H q ≡ Some c → Here n H c q ≡ true
  itself c q at = ap (is_lane c) at ∙ same c
    where
      same : (c : ℕ) → (c == c) ≡ true
      same c = grind (arith, nat_tests)

  real : (c : ℕ) (q : Quad) → lane_at n H q ≡ Some c → c < n
  real c q at = (seating n (commands H)).real q c at

  -- what stands in a lane's ring until its place comes
  at-one : (c : ℕ) → c < n → slice_get hall.rings c ≡ Some (ring_behind n H c)
  at-one c below = stands.rings c below

  at-two : (c : ℕ) → c < n → Here n H c One ≡ false → slice_get after_one.rings c ≡ Some (ring_behind n H c)
  at-two c below e1 = ring-kept hall One c _ (away c One e1) (at-one c below)

  at-three : (c : ℕ) → c < n → Here n H c One ≡ false → Here n H c Two ≡ false → slice_get after_two.rings c ≡ Some (ring_behind n H c)
  at-three c below e1 e2 = ring-kept after_one Two c _ (away c Two e2) (at-two c below e1)

  at-four : (c : ℕ) → c < n → Here n H c One ≡ false → Here n H c Two ≡ false → Here n H c Three ≡ false →
      slice_get after_three.rings c ≡ Some (ring_behind n H c)
  at-four c below e1 e2 e3 = ring-kept after_two Three c _ (away c Three e3) (at-three c below e1 e2)

  -- what each place takes
  pub told-one : told_in hall One ≡ take n H One
  told-one = told-take n H hall One (seat One) (stands.last One) (λ c at. at-one c (real c One at))

  rings-two : (c : ℕ) → lane_at n H Two ≡ Some c → slice_get after_one.rings c ≡ Some (ring_behind n H c)
  rings-two c at = at-two c (real c Two at) (before n H c One Two (omega arith) (itself c Two at))

  rings-three : (c : ℕ) → lane_at n H Three ≡ Some c → slice_get after_two.rings c ≡ Some (ring_behind n H c)
  rings-three c at =
      at-three c (real c Three at) (before n H c One Three (omega arith) (itself c Three at)) (before n H c Two Three (omega arith) (itself c Three at))

  rings-four : (c : ℕ) → lane_at n H Four ≡ Some c → slice_get after_three.rings c ≡ Some (ring_behind n H c)
  rings-four c at =
      at-four c (real c Four at) (before n H c One Four (omega arith) (itself c Four at)) (before n H c Two Four (omega arith) (itself c Four at))
      (before n H c Three Four (omega arith) (itself c Four at))

  pub told-two : told_in after_one Two ≡ take n H Two
  told-two = told-take n H after_one Two (seat Two) (stands.last Two) rings-two

  pub told-three : told_in after_two Three ≡ take n H Three
  told-three = told-take n H after_two Three (seat Three) (stands.last Three) rings-three

  pub told-four : told_in after_three Four ≡ take n H Four
  told-four = told-take n H after_three Four (seat Four) (stands.last Four) rings-four

  pub next-one : next_in hall One ≡ option_map (held_as (coding Qcif)) (choice n H One)
  next-one = next-same n H hall One (seat One) (stands.last One) (λ c at. at-one c (real c One at))

  pub next-two : next_in after_one Two ≡ option_map (held_as (coding Qcif)) (choice n H Two)
  next-two = next-same n H after_one Two (seat Two) (stands.last Two) rings-two

  pub next-three : next_in after_two Three ≡ option_map (held_as (coding Qcif)) (choice n H Three)
  next-three = next-same n H after_two Three (seat Three) (stands.last Three) rings-three

  pub next-four : next_in after_three Four ≡ option_map (held_as (coding Qcif)) (choice n H Four)
  next-four = next-same n H after_three Four (seat Four) (stands.last Four) rings-four

  -- a lane's ring behind all four
  module _ (note : TickNote) (c : ℕ) (below : c < n) where
    was-taken : (q : Quad) (last : Option ℕ) → Here n H c q ≡ true → last ≡ last_taken n H q →
        Some (drained last (ring_behind n H c)) ≡ Some (ring_behind n (Tick note ∷ H) c)
    was-taken q last there is =
        ap (λ l. Some (drained l (ring_behind n H c))) is ∙ ap Some (sym (tick-here n H note q c (lane-is c (lane_at n H q) there)))

    ring-by : (b1 b2 b3 b4 : Bool) → Here n H c One ≡ b1 → Here n H c Two ≡ b2 → Here n H c Three ≡ b3 → Here n H c Four ≡ b4 →
        slice_get after_four.rings c ≡ Some (ring_behind n (Tick note ∷ H) c)
    ring-by true b2 b3 b4 e1 e2 e3 e4 =
        ring-kept after_three Four c _ (away c Four (only n H c One Four (omega arith) e1))
        (ring-kept after_two Three c _ (away c Three (only n H c One Three (omega arith) e1))
        (ring-kept after_one Two c _ (away c Two (only n H c One Two (omega arith) e1))
        (ring-taken hall One c _ (here c One e1) (at-one c below))))
        ∙ was-taken One _ e1 (stands.last One)
    ring-by false true b3 b4 e1 e2 e3 e4 =
        ring-kept after_three Four c _ (away c Four (only n H c Two Four (omega arith) e2))
        (ring-kept after_two Three c _ (away c Three (only n H c Two Three (omega arith) e2))
        (ring-taken after_one Two c _ (here c Two e2) (at-two c below e1)))
        ∙ was-taken Two _ e2 (stands.last Two)
    ring-by false false true b4 e1 e2 e3 e4 =
        ring-kept after_three Four c _ (away c Four (only n H c Three Four (omega arith) e3))
        (ring-taken after_two Three c _ (here c Three e3) (at-three c below e1 e2))
        ∙ was-taken Three _ e3 (stands.last Three)
    ring-by false false false true e1 e2 e3 e4 =
        ring-taken after_three Four c _ (here c Four e4) (at-four c below e1 e2 e3) ∙ was-taken Four _ e4 (stands.last Four)
    ring-by false false false false e1 e2 e3 e4 =
        ring-kept after_three Four c _ (away c Four e4) (at-four c below e1 e2 e3)
        ∙ ap Some (sym (tick-away n H note c (nowhere e1 e2 e3 e4)))
      where
        nowhere : Here n H c One ≡ false → Here n H c Two ≡ false → Here n H c Three ≡ false → Here n H c Four ≡ false → (q : Quad) → Here n H c q ≡ false
        nowhere a b c d One = a
        nowhere a b c d Two = b
        nowhere a b c d Three = c
        nowhere a b c d Four = d

    pub ring-ticked : slice_get after_four.rings c ≡ Some (ring_behind n (Tick note ∷ H) c)
    ring-ticked = ring-by (Here n H c One) (Here n H c Two) (Here n H c Three) (Here n H c Four) refl refl refl refl

  -- the hall stands for the history with the tick
  abbrev pub ticked : ℕ → HallView
  ticked step = record after_four { steps = hall.steps + 1; total = hall.total + step }

  pub record IsTold (step : ℕ) (note : TickNote) : Type 0 where
    pub is_step : note.step ≡ step
    pub one : note.taken_one ≡ told_in hall One
    pub two : note.taken_two ≡ told_in after_one Two
    pub three : note.taken_three ≡ told_in after_two Three
    pub four : note.taken_four ≡ told_in after_three Four

  last-ticked : (step : ℕ) (note : TickNote) → IsTold step note → (q : Quad) → in_place after_four.last q ≡ last_taken n (Tick note ∷ H) q
  last-ticked step note told One = ap₂ serial_or (sym told.one) (stands.last One)
  last-ticked step note told Two = ap₂ serial_or (sym told.two) (stands.last Two)
  last-ticked step note told Three = ap₂ serial_or (sym told.three) (stands.last Three)
  last-ticked step note told Four = ap₂ serial_or (sym told.four) (stands.last Four)

  pub tick-stands : (step : ℕ) (note : TickNote) → IsTold step note → StandsFor (ticked step) (Tick note ∷ H)
  tick-stands step note told = record {
    rings = λ c below. ring-ticked note c below;
    plan = stands.plan;
    last = last-ticked step note told;
    total = omega (arith, stands.total, told.is_step);
    steps = omega (arith, stands.steps);
    ended = stands.ended;
  }

  pub takes-told : (step : ℕ) (note : TickNote) → IsTold step note → (q : Quad) → taken_in q note ≡ take n H q
  takes-told step note told One = told.one ∙ told-one
  takes-told step note told Two = told.two ∙ told-two
  takes-told step note told Three = told.three ∙ told-three
  takes-told step note told Four = told.four ∙ told-four
