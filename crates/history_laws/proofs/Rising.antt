-- The serials that ticks take of a lane rise, from tick to tick and within one tick, since no lane stands in two places.
use Rattle.std.proofs.Common.{◌≡◌, ℕ, zero, suc, ◌+◌, ◌<◌, ◌≤◌, ◌==◌, Bool, true, false, cond, Option, Some, None, List, [], ◌∷◌, ◌++◌, refl, sym, ap, ap₂, subst, ◌∙◌, arith}
use Rattle.std.proofs.lemmas.List.{append-nil}
use Rattle.std.proofs.lemmas.Bool.Decides.{nat_tests}
use Rattle.pel_model.specs.declared.Quad.{Quad}
use Rattle.pel_model.specs.declared.Quad.TheVariants.{One, Two, Three, Four}
use Rattle.pel_model.specs.declared.held.Held.{Held}
use Rattle.pel_model.specs.declared.note.Take.{Take}
use Rattle.pel_model.specs.declared.note.TickNote.{TickNote}
use Rattle.pel_model.specs.Headline.{serial_of_lane, serials_in, serials_taken}
use Rattle.pel_model.specs.History.{Step, Post, Gap, Order, Tick, End, History, arrivals, commands, lane_at, taken_in}
use Rattle.pel_model.specs.Lanes.{Arrival, RiseAbove, held_above, first_to_show, low_by, low_after}
use Rattle.pel_model.specs.Legal.{Legal}
use Rattle.pel_model.specs.Plan.{is_lane}
use Rattle.pel_model.specs.Records.{Picture}
use Rattle.pel_model.specs.Regions.{number_of}
use Rattle.pel_model.specs.Takes.{last_taken, place_of, low_behind, low_serial, held_pictures, choice_of, choice, take_of, take}
use Rattle.lane_ring.proofs.Rising.{tick_law}
use Rattle.history_laws.proofs.Finding.{first-from}
use Rattle.history_laws.proofs.Standing.{lane-is, Here, only}

-- the numbers rise from above lo, up to top at most
abbrev pub RisesTo : ℕ → ℕ → List ℕ → Type 0
RisesTo lo top [] = lo ≤ top
RisesTo lo top (n ∷ ns) = (lo < n) × RisesTo n top ns

rises-more : (lo m top : ℕ) (ns : List ℕ) → m ≤ top → RisesTo lo m ns → RisesTo lo top ns
rises-more lo m top [] more r = omega (arith, r)
rises-more lo m top (n ∷ ns) more r = (r.0, rises-more n m top ns more r.1)

rises-one : (lo m n top : ℕ) (ns : List ℕ) → m < n → n ≤ top → RisesTo lo m ns → RisesTo lo top (ns ++ n ∷ [])
rises-one lo m n top [] above under r = (omega (arith, r), under)
rises-one lo m n top (k ∷ ks) above under r = (r.0, rises-one k m n top ks above under r.1)

rises : (lo top : ℕ) (ns : List ℕ) → RisesTo lo top ns → RiseAbove lo ns
rises lo top [] r = tt
rises lo top (n ∷ ns) r = (r.0, rises n top ns r.1)

-- ---- four lists of which one alone has members

first-alone : (a b c d : List ℕ) → b ≡ [] → c ≡ [] → d ≡ [] → a ++ b ++ c ++ d ≡ a
first-alone a b c d eb ec ed = simp (eb, ec, ed, append-nil) refl

second-alone : (a b c d : List ℕ) → a ≡ [] → c ≡ [] → d ≡ [] → a ++ b ++ c ++ d ≡ b
second-alone a b c d ea ec ed = simp (ea, ec, ed, append-nil) refl

third-alone : (a b c d : List ℕ) → a ≡ [] → b ≡ [] → d ≡ [] → a ++ b ++ c ++ d ≡ c
third-alone a b c d ea eb ed = simp (ea, eb, ed, append-nil) refl

fourth-alone : (a b c d : List ℕ) → a ≡ [] → b ≡ [] → c ≡ [] → a ++ b ++ c ++ d ≡ d
fourth-alone a b c d ea eb ec = simp (ea, eb, ec) refl

-- ---- the serial that one tick takes of a lane

abbrev serial_list : Option (Held Picture) → List ℕ
serial_list None = []
serial_list (Some h) = h.serial ∷ []

told-here : (c : ℕ) (lane : Option ℕ) (picture : Option (Held Picture)) → lane ≡ Some c → serial_of_lane c (take_of lane picture) ≡ serial_list picture
told-here c lane None here = ap (λ (l : Option ℕ). serial_of_lane c (take_of l None)) here
told-here c lane (Some h) here =
    let itself : (c == c) ≡ true = grind (arith, nat_tests) in
    ap (λ (l : Option ℕ). serial_of_lane c (take_of l (Some h))) here ∙ ap (λ (b : Bool). cond b (h.serial ∷ []) []) itself

told-elsewhere : (c : ℕ) (lane : Option ℕ) (picture : Option (Held Picture)) → is_lane c lane ≡ false → serial_of_lane c (take_of lane picture) ≡ []
told-elsewhere c None picture other = refl
told-elsewhere c (Some d) None other = refl
told-elsewhere c (Some d) (Some h) other =
    let differs : (d == c) ≡ false = grind (arith, nat_tests) in ap (λ (b : Bool). cond b (h.serial ∷ []) []) differs

module _ (lanes : ℕ) (H : History) (c : ℕ) where
  -- the serials are those of what is chosen in this place, or none where the lane stands nowhere
  abbrev AreOf : Option Quad → List ℕ → Type 0
  AreOf None ns = ns ≡ []
  AreOf (Some q) ns = (lane_at lanes H q ≡ Some c) × (ns ≡ serial_list (choice lanes H q))

  abbrev told : Quad → List ℕ
  told q = serial_of_lane c (take lanes H q)

  here-told : (q : Quad) → Here lanes H c q ≡ true → told q ≡ serial_list (choice lanes H q)
  here-told q here = told-here c (lane_at lanes H q) (choice lanes H q) (lane-is c (lane_at lanes H q) here)

  away-told : (q : Quad) → Here lanes H c q ≡ false → told q ≡ []
  away-told q away = told-elsewhere c (lane_at lanes H q) (choice lanes H q) away

  found-at : (b1 b2 b3 b4 : Bool) → Here lanes H c One ≡ b1 → Here lanes H c Two ≡ b2 → Here lanes H c Three ≡ b3 → Here lanes H c Four ≡ b4 →
      AreOf (cond b1 (Some One) (cond b2 (Some Two) (cond b3 (Some Three) (cond b4 (Some Four) None)))) (told One ++ told Two ++ told Three ++ told Four)
  found-at true b2 b3 b4 e1 e2 e3 e4 = (
    lane-is c (lane_at lanes H One) e1,
    first-alone (told One) (told Two) (told Three) (told Four) (away-told Two (only lanes H c One Two (omega arith) e1))
        (away-told Three (only lanes H c One Three (omega arith) e1)) (away-told Four (only lanes H c One Four (omega arith) e1)) ∙ here-told One e1,
  )
  found-at false true b3 b4 e1 e2 e3 e4 = (
    lane-is c (lane_at lanes H Two) e2,
    second-alone (told One) (told Two) (told Three) (told Four) (away-told One e1) (away-told Three (only lanes H c Two Three (omega arith) e2))
        (away-told Four (only lanes H c Two Four (omega arith) e2)) ∙ here-told Two e2,
  )
  found-at false false true b4 e1 e2 e3 e4 = (
    lane-is c (lane_at lanes H Three) e3,
    third-alone (told One) (told Two) (told Three) (told Four) (away-told One e1) (away-told Two e2) (away-told Four (only lanes H c Three Four (omega arith) e3)) ∙ here-told Three e3,
  )
  found-at false false false true e1 e2 e3 e4 = (
    lane-is c (lane_at lanes H Four) e4,
    fourth-alone (told One) (told Two) (told Three) (told Four) (away-told One e1) (away-told Two e2) (away-told Three e3) ∙ here-told Four e4,
  )
  found-at false false false false e1 e2 e3 e4 =
      fourth-alone (told One) (told Two) (told Three) (told Four) (away-told One e1) (away-told Two e2) (away-told Three e3) ∙ away-told Four e4

  serials-of : (note : TickNote) → ((q : Quad) → taken_in q note ≡ take lanes H q) → AreOf (place_of lanes H c) (serials_in c note)
  serials-of note rule =
      let same : serials_in c note ≡ told One ++ told Two ++ told Three ++ told Four =
      rw (rule One, rule Two, rule Three, rule Four) refl in
      subst (AreOf (place_of lanes H c)) (sym same) (found-at (Here lanes H c One) (Here lanes H c Two) (Here lanes H c Three) (Here lanes H c Four) refl refl refl refl)

  found-rises : (last : Option ℕ) (came : List (Arrival Picture)) (low : ℕ) (ns : List ℕ) (found : Option (Held Picture)) →
      first_to_show last (held_above low came) ≡ found → RisesTo 0 low ns → RisesTo 0 (low_by found (held_above low came) low) (ns ++ serial_list found)
  found-rises last came low ns None is r =
      subst (RisesTo 0 (low_by None (held_above low came) low)) (sym (append-nil ns))
      (rises-more 0 low _ ns (subst (λ f. low ≤ low_by f (held_above low came) low) is (tick_law.rises last low came)) r)
  found-rises last came low ns (Some h) is r = rises-one 0 low h.serial h.serial ns (first-from came low last h is).0.above (omega arith) r

  step-rises : (place : Option Quad) (taken ns : List ℕ) → AreOf place taken → RisesTo 0 (low_serial lanes H c) ns →
      RisesTo 0 (low_behind lanes H place (arrivals H c) (low_serial lanes H c)) (ns ++ taken)
  step-rises None taken ns is r = subst (RisesTo 0 (low_serial lanes H c)) (sym (ap (λ ks. ns ++ ks) is ∙ append-nil ns)) r
  step-rises (Some q) taken ns is r =
      let chosen : choice lanes H q ≡ first_to_show (last_taken lanes H q) (held_pictures lanes H c) = ap (choice_of lanes H q) is.0 in
      subst (RisesTo 0 (low_after (last_taken lanes H q) (held_pictures lanes H c) (low_serial lanes H c)))
      (ap (λ ks. ns ++ ks) (sym (is.1 ∙ ap serial_list chosen)))
      (found-rises (last_taken lanes H q) (arrivals H c) (low_serial lanes H c) ns _ refl r)

serials-rise : (lanes : ℕ) (H : History) (c : ℕ) → Legal lanes H → RisesTo 0 (low_serial lanes H c) (serials_taken H c)
serials-rise lanes [] c legal = omega arith
serials-rise lanes (Post lane picture ∷ H) c legal = serials-rise lanes H c legal.0
serials-rise lanes (Gap lane ∷ H) c legal = serials-rise lanes H c legal.0
serials-rise lanes (Order command reply ∷ H) c legal = serials-rise lanes H c legal.0
serials-rise lanes (Tick note ∷ H) c legal =
    step-rises lanes H c (place_of lanes H c) (serials_in c note) (serials_taken H c) (serials-of lanes H c note legal.2.takes)
    (serials-rise lanes H c legal.0)
serials-rise lanes (End ∷ H) c legal = serials-rise lanes H c legal.0

pub in-order : (lanes : ℕ) (H : History) (c : ℕ) → Legal lanes H → RiseAbove 0 (serials_taken H c)
in-order lanes H c legal = rises 0 (low_serial lanes H c) (serials_taken H c) (serials-rise lanes H c legal)
