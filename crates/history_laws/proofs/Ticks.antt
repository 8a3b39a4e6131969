-- What a tick takes in a place: its lane and its picture, or nothing.
use Rattle.std.proofs.Common.{◌≡◌, ◌⊎◌, inl, inr, ℕ, ◌+◌, ◌-◌, ◌<◌, ◌≤◌, ◌==◌, ◌||◌, Bool, true, false, cond, not, Option, Some, None, List, [], ◌∷◌, length, slice_get, refl, sym, ap, subst, ◌∙◌, arith}
use Rattle.std.proofs.lemmas.Bool.Decides.{nat_tests}
use Rattle.std.proofs.lemmas.Option.{none-some}
use Rattle.pel_model.specs.declared.Format.TheVariants.{Qcif}
use Rattle.pel_model.specs.declared.Quad.{Quad}
use Rattle.pel_model.specs.declared.held.Held.{Held}
use Rattle.pel_model.specs.declared.note.Take.{Take}
use Rattle.pel_model.specs.History.{History, arrivals, lane_at}
use Rattle.pel_model.specs.Lanes.{Received, is_next, held_above, may_follow, first_to_show}
use Rattle.pel_model.specs.Legal.{IsPostable, Legal}
use Rattle.pel_model.specs.Plan.{is_same_lane}
use Rattle.pel_model.specs.Records.{Picture}
use Rattle.pel_model.specs.Refresh.{is_refresh}
use Rattle.pel_model.specs.Takes.{last_taken, low_serial, held_pictures, choice_of, choice, take_of, take}
use Rattle.history_laws.proofs.Finding.{IsFrom, first-from}
use Rattle.history_laws.proofs.Came.{good-received}

-- a tick takes this picture in a place
pub record Chooses (lanes : ℕ) (H : History) (q : Quad) (c : ℕ) (h : Held Picture) : Type 0 where
  pub lane : lane_at lanes H q ≡ Some c
  pub picture : choice lanes H q ≡ Some h
  pub from : IsFrom (arrivals H c) (low_serial lanes H c) h
  pub follows : may_follow (last_taken lanes H q) h ≡ true

choice-in : (lanes : ℕ) (H : History) (q : Quad) (c : ℕ) → lane_at lanes H q ≡ Some c →
    choice lanes H q ≡ first_to_show (last_taken lanes H q) (held_pictures lanes H c)
choice-in lanes H q c stands = ap (choice_of lanes H q) stands

pub chooses : (lanes : ℕ) (H : History) (q : Quad) (c : ℕ) (h : Held Picture) → lane_at lanes H q ≡ Some c → choice lanes H q ≡ Some h →
    Chooses lanes H q c h
chooses lanes H q c h stands chosen =
    let found = first-from (arrivals H c) (low_serial lanes H c) (last_taken lanes H q) h (sym (choice-in lanes H q c stands) ∙ chosen) in
    record { lane = stands; picture = chosen; from = found.0; follows = found.1 }

-- a take that is told is of a picture that was chosen
taken-of : (lane : Option ℕ) (picture : Option (Held Picture)) (told : Take) → take_of lane picture ≡ Some told →
    (c : ℕ) × (h : Held Picture) × (lane ≡ Some c) × (picture ≡ Some h) × (c ≡ told.lane) × (h.serial ≡ told.serial)
taken-of None picture told e = absurd (none-some told e)
taken-of (Some c) None told e = absurd (none-some told e)
taken-of (Some c) (Some h) told e =
    let same : (record { lane = c; serial = h.serial }) ≡ told = cc in
    (c, h, refl, refl, ap (λ (k : Take). k.lane) same, ap (λ (k : Take). k.serial) same)

pub taken : (lanes : ℕ) (H : History) (q : Quad) (told : Take) → take lanes H q ≡ Some told →
    (c : ℕ) × (h : Held Picture) × Chooses lanes H q c h × (c ≡ told.lane) × (h.serial ≡ told.serial)
taken lanes H q told e =
    let found = taken-of (lane_at lanes H q) (choice lanes H q) told e in
    (found.0, found.1, chooses lanes H q found.0 found.1 found.2 found.3, found.4, found.5)

-- nothing is told where nothing was chosen
none-of : (lane : Option ℕ) (picture : Option (Held Picture)) → (lane ≡ None → picture ≡ None) → take_of lane picture ≡ None → picture ≡ None
none-of None picture empty e = empty refl
none-of (Some c) None empty e = refl
none-of (Some c) (Some h) empty e = absurd (none-some _ (sym e))

pub none-chosen : (lanes : ℕ) (H : History) (q : Quad) → take lanes H q ≡ None → choice lanes H q ≡ None
none-chosen lanes H q e =
    none-of (lane_at lanes H q) (choice lanes H q) (λ empty. ap (choice_of lanes H q) empty) e

-- what follows is a refresh, or comes next
next-or : (refresh next : Bool) → (refresh || next) ≡ true → (refresh ≡ true) ⊎ (next ≡ true)
next-or true next e = inl refl
next-or false next e = inr e

next-is : (last : Option ℕ) (serial : ℕ) → is_next last serial ≡ true → (m : ℕ) × (last ≡ Some m) × (serial ≡ m + 1)
next-is None serial e = absurd (no e)
  where
    no : false ≡ true → ⊥
    no f = cc
next-is (Some m) serial e = (m, refl, grind (arith, nat_tests))

pub follows : (last : Option ℕ) (h : Held Picture) → may_follow last h ≡ true →
    (h.refresh ≡ true) ⊎ ((m : ℕ) × (last ≡ Some m) × (h.serial ≡ m + 1))
follows last h e =
    elim (next-or h.refresh (is_next last h.serial) e) as (λ _. (h.refresh ≡ true) ⊎ ((m : ℕ) × (last ≡ Some m) × (h.serial ≡ m + 1))) [
      | inl refreshes ↦ inl refreshes
      | inr next ↦ inr (next-is last h.serial next)
    ]

-- the picture is valid, and the test of refreshes says of it what it was received as
pub chosen-good : (lanes : ℕ) (H : History) (q : Quad) (c : ℕ) (h : Held Picture) → Legal lanes H → Chooses lanes H q c h →
    IsPostable h.item × (h.refresh ≡ is_refresh Qcif h.item)
chosen-good lanes H q c h legal chosen =
    good-received lanes H c (h.serial - 1) h.refresh h.item legal chosen.from.received

-- lanes that are the same
pub same-lane : (a b : Option ℕ) → is_same_lane a b ≡ true → a ≡ b
same-lane None None e = refl
same-lane (Some c) (Some d) e = let same : c ≡ d = grind (arith, nat_tests) in ap Some same
same-lane None (Some d) e = absurd (no e)
  where
    no : false ≡ true → ⊥
    no f = cc
same-lane (Some c) None e = absurd (no e)
  where
    no : false ≡ true → ⊥
    no f = cc
