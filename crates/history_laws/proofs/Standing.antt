-- Where a lane stands: in one place at most, and so the place that is found for it.
use Rattle.std.proofs.Common.{◌≡◌, ℕ, ◌+◌, ◌<◌, ◌==◌, Bool, true, false, cond, Option, Some, None, List, [], ◌∷◌, refl, sym, ap, ◌∙◌, arith}
use Rattle.std.proofs.lemmas.Bool.Decides.{nat_tests}
use Rattle.pel_model.specs.declared.Quad.{Quad}
use Rattle.pel_model.specs.declared.Quad.TheVariants.{One, Two, Three, Four}
use Rattle.pel_model.specs.declared.note.TickNote.{TickNote}
use Rattle.pel_model.specs.History.{History, Tick, arrivals, commands, lane_at}
use Rattle.pel_model.specs.Plan.{is_lane}
use Rattle.pel_model.specs.Regions.{number_of}
use Rattle.pel_model.specs.Takes.{place_of, low_behind, low_serial}
use Rattle.stage_plan.proofs.Standing.{seating}
use Rattle.history_laws.specs.Histories.{PassingLaw}

pub lane-is : (c : ℕ) (lane : Option ℕ) → is_lane c lane ≡ true → lane ≡ Some c
lane-is c None e = absurd (no e)
  where
    no : false ≡ true → ⊥
    no f = cc
lane-is c (Some d) e = let same : d ≡ c = grind (arith, nat_tests) in ap Some same

lane-itself : (c : ℕ) → is_lane c (Some c) ≡ true
lane-itself c = grind (arith, nat_tests)

module _ (lanes : ℕ) (H : History) (c : ℕ) where
  abbrev pub Here : Quad → Bool
  Here q = is_lane c (lane_at lanes H q)

  stands-here : (q : Quad) → lane_at lanes H q ≡ Some c → Here q ≡ true
  stands-here q stands = ap (is_lane c) stands ∙ lane-itself c

  same-place : (p q : Quad) → Here p ≡ true → Here q ≡ true → p ≡ q
  same-place p q here there =
      (seating lanes (commands H)).once p q c (lane-is c (lane_at lanes H p) here) (lane-is c (lane_at lanes H q) there)

  pub only : (p q : Quad) → number_of p < number_of q → Here p ≡ true → Here q ≡ false
  only p q apart here =
      elim (Here q) as (λ v. Here q ≡ v → v ≡ false) [
        | true ↦ λ there. absurd (omega (arith, ap number_of (same-place p q here there)))
        | false ↦ λ _. refl
      ] refl

  -- in no lower place
  lower : (p q : Quad) → number_of p < number_of q → Here q ≡ true → Here p ≡ false
  lower p q apart there =
      elim (Here p) as (λ v. Here p ≡ v → v ≡ false) [
        | true ↦ λ here. absurd (omega (arith, ap number_of (same-place p q here there)))
        | false ↦ λ _. refl
      ] refl

  abbrev first_of : (b1 b2 b3 b4 : Bool) → Option Quad
  first_of b1 b2 b3 b4 = cond b1 (Some One) (cond b2 (Some Two) (cond b3 (Some Three) (cond b4 (Some Four) None)))

  place-found : (q : Quad) → Here q ≡ true → place_of lanes H c ≡ Some q
  place-found One here = ap (λ b. first_of b (Here Two) (Here Three) (Here Four)) here
  place-found Two here =
      ap (λ b. first_of b (Here Two) (Here Three) (Here Four)) (lower One Two (omega arith) here)
      ∙ ap (λ b. first_of false b (Here Three) (Here Four)) here
  place-found Three here =
      ap (λ b. first_of b (Here Two) (Here Three) (Here Four)) (lower One Three (omega arith) here)
      ∙ ap (λ b. first_of false b (Here Three) (Here Four)) (lower Two Three (omega arith) here)
      ∙ ap (λ b. first_of false false b (Here Four)) here
  place-found Four here =
      ap (λ b. first_of b (Here Two) (Here Three) (Here Four)) (lower One Four (omega arith) here)
      ∙ ap (λ b. first_of false b (Here Three) (Here Four)) (lower Two Four (omega arith) here)
      ∙ ap (λ b. first_of false false b (Here Four)) (lower Three Four (omega arith) here)
      ∙ ap (λ b. first_of false false false b) here

  nowhere-found : ((q : Quad) → Here q ≡ false) → place_of lanes H c ≡ None
  nowhere-found away =
      ap (λ b. first_of b (Here Two) (Here Three) (Here Four)) (away One)
      ∙ ap (λ b. first_of false b (Here Three) (Here Four)) (away Two)
      ∙ ap (λ b. first_of false false b (Here Four)) (away Three)
      ∙ ap (λ b. first_of false false false b) (away Four)

pub passing-law : PassingLaw
passing-law = record {
  standing = λ lanes H note q c stands.
      ap (λ place. low_behind lanes H place (arrivals H c) (low_serial lanes H c)) (place-found lanes H c q (stands-here lanes H c q stands));
  elsewhere = λ lanes H note c away.
      ap (λ place. low_behind lanes H place (arrivals H c) (low_serial lanes H c)) (nowhere-found lanes H c away);
}
