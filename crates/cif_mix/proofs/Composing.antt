-- The composed picture, from its upper and its lower row of places.
use Rattle.std.proofs.Common.{◌≡◌, ℕ, ◌+◌, ◌≤◌, Bool, true, false, [], length, Option, None, Some, IfSome, refl, ◌∙◌, ap, inl, inr, arith}
use Rattle.frame_laws.proofs.ComposedPictures.{by-four, or-blank-valid}
use Rattle.frame_laws.proofs.TextLengths.{length-text}
use Rattle.frame_laws.proofs.ThreeGroups.{of_three}
use Rattle.h261_pic.specs.Coded.{Coding, coding}
use Rattle.pel_model.specs.declared.Format.{Format}
use Rattle.pel_model.specs.declared.Format.TheVariants.{Qcif, Cif}
use Rattle.pel_model.specs.declared.Quad.{Quad}
use Rattle.pel_model.specs.declared.Quad.TheVariants.{One, Two, Three, Four}
use Rattle.pel_model.specs.Composed.{or_blank, composed_of}
use Rattle.pel_model.specs.Records.{Group, Picture}
use Rattle.pel_model.specs.Regions.{composed}
use Rattle.pel_model.specs.Valid.{IsValid, group_count}
use Rattle.cif_mix.specs.Rows.{with_rows, IsAtRow, IsRowAdded}
use Rattle.cif_mix.specs.Shows.{Shows, IsComposed}

-- a picture that has no groups yet
abbrev pub begun : ℕ → Picture
begun tr = record { tr = tr; groups = [] }

pub begun-is : (old new : Coding) (tr : ℕ) → old.format ≡ Cif → new ≡ coding old.format (begun tr) → new ≡ coding Cif (begun tr)
begun-is old new tr cif started = started ∙ ap (λ (f : Format). coding f (begun tr)) cif

pub upper-row : (new : Coding) (tr : ℕ) → new ≡ coding Cif (begun tr) → IsAtRow new
upper-row new tr is =
    let long : length new.bits ≡ 32 = ap (λ (c : Coding). length c.bits) is ∙ length-text Cif (begun tr) in
    let none : length new.groups ≡ 0 = ap (λ (c : Coding). length c.groups) is in
    record { cif = ap (λ (c : Coding). c.format) is; begun = omega (arith, long); row = inl none; room = omega (arith, long, none) }

module _ (one two three four : Bool) (first second third fourth : Coding) where
  pub lower-row : (start mid : Coding) (tr : ℕ) → start ≡ coding Cif (begun tr) → IsRowAdded one first two second start mid → IsAtRow mid
  lower-row start mid tr is row =
      let long : length start.bits ≡ 32 = ap (λ (c : Coding). length c.bits) is ∙ length-text Cif (begun tr) in
      let six : length mid.groups ≡ 6 = row.more ∙ ap (λ (c : Coding). length c.groups + 6) is in
      record { cif = row.cif; begun = row.begun; row = inr six; room = omega (arith, row.long, long, six) }

  pub whole-composed : (start mid new : Coding) (tr : ℕ) → start ≡ coding Cif (begun tr) → IsRowAdded one first two second start mid
      → IsRowAdded three third four fourth mid new → IsComposed new
  whole-composed start mid new tr is upper lower =
      let long : length start.bits ≡ 32 = ap (λ (c : Coding). length c.bits) is ∙ length-text Cif (begun tr) in
      let none : length start.groups ≡ 0 = ap (λ (c : Coding). length c.groups) is in
      record {
        cif = lower.cif;
        finished = (lower.begun, omega (arith, lower.more, upper.more, none, ap group_count lower.cif));
        within = omega (arith, long, upper.long, lower.long);
      }

abbrev AreRows : (tr : ℕ) → (one two three four : Picture) → Type 0
AreRows tr one two three four = with_rows (with_rows (begun tr) one two 0 3) three four 6 3 ≡ composed tr one two three four

rows-of-three : (tr : ℕ) (i : ℕ) (a b c : Group) (j : ℕ) (d e f : Group) (k : ℕ) (g h m : Group) (l : ℕ) (n o q : Group)
    → AreRows tr (of_three i a b c) (of_three j d e f) (of_three k g h m) (of_three l n o q)
rows-of-three tr i a b c j d e f k g h m l n o q = refl

shown-valid : (shown : Bool) (box : Coding) (p : Option Picture) → Shows shown box p → IfSome p (IsValid Qcif)
shown-valid true box None shows = absurd shows
shown-valid true box (Some p) shows = shows.1
shown-valid false box None shows = tt
shown-valid false box (Some p) shows = absurd (some-none p shows)
  where
    some-none : (q : Picture) → Some q ≡ None → Prim.⊥
    some-none q e = cc

pub whole-is : (one two three four : Bool) (first second third fourth start mid new : Coding) (tr : ℕ) → start ≡ coding Cif (begun tr)
    → IsRowAdded one first two second start mid → IsRowAdded three third four fourth mid new
    → (shown : Quad → Option Picture) → Shows one first (shown One) → Shows two second (shown Two) → Shows three third (shown Three) → Shows four fourth (shown Four)
    → new ≡ coding Cif (composed_of tr shown)
whole-is one two three four first second third fourth start mid new tr is upper lower shown in_one in_two in_three in_four =
    let p : Picture = or_blank (shown One) in
    let q : Picture = or_blank (shown Two) in
    let r : Picture = or_blank (shown Three) in
    let s : Picture = or_blank (shown Four) in
    let none : length start.groups ≡ 0 = ap (λ (c : Coding). length c.groups) is in
    let six : length mid.groups ≡ 6 = upper.more ∙ ap (λ (n : ℕ). n + 6) none in
    let mid_is : mid ≡ coding Cif (with_rows (begun tr) p q 0 3) =
    upper.is (shown One) (shown Two) (begun tr) in_one in_two is ∙ ap (λ (n : ℕ). coding Cif (with_rows (begun tr) p q n 3)) none in
    lower.is (shown Three) (shown Four) (with_rows (begun tr) p q 0 3) in_three in_four mid_is
    ∙ ap (λ (n : ℕ). coding Cif (with_rows (with_rows (begun tr) p q 0 3) r s n 3)) six
    ∙ ap (coding Cif)
    (by-four (AreRows tr) (rows-of-three tr) p q r s
    (or-blank-valid (shown One) (shown-valid one first (shown One) in_one))
    (or-blank-valid (shown Two) (shown-valid two second (shown Two) in_two))
    (or-blank-valid (shown Three) (shown-valid three third (shown Three) in_three))
    (or-blank-valid (shown Four) (shown-valid four fourth (shown Four) in_four)))
