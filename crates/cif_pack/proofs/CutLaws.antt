-- The cuts of a picture are those of the definition, and nothing else is.
use Rattle.std.proofs.Common.{◌≡◌, ℕ, zero, suc, ◌-◌, ◌<◌, ◌≤◌, Bool, true, false, List, [], ◌∷◌, ◌++◌, length, slice_index_or, refl, sym, ◌∙◌, ap, ap₂, subst, arith, append_assoc}
use Rattle.std.proofs.lemmas.Bool.{leb-true, leb-false, not-true}
use Rattle.std.proofs.lemmas.List.Elements.{All-cons, All-nil, All-append, All-push, All-weaker, All-contains, Contains-append_right}
use Rattle.std.specs.Prelude.{All, Contains}
use Rattle.cif_pack.specs.declared.atoms.AtomEnd.{AtomEnd}
use Rattle.cif_pack.specs.Atoms.{atom_ends}
use Rattle.cif_pack.specs.Cuts.{octets_between, fits, IsCut, AreCuts, is_cut, with_cut, from_behind, cuts}
use Rattle.cif_pack.specs.Sending.{Rises}
use Rattle.cif_pack.proofs.AtomsRise.{atoms-rise}
use Rattle.cif_pack.proofs.CutLemmas.{Ahead, ahead, rises-on}
use Rattle.cif_pack.proofs.TextEnds.{last_end, text-end}
use Rattle.pel_model.specs.declared.Format.TheVariants.{Cif}
use Rattle.pel_model.specs.Records.{Picture}
use Rattle.pel_model.specs.Text.{text}
use Rattle.pel_model.specs.Valid.{IsValid}

-- where an end does not fit, none further on does
none-beyond : (mtu from to more : ℕ) → fits mtu from to ≡ false → to ≤ more → fits mtu from more ≡ true → ⊥
none-beyond mtu from to more is_not up is_so =
    omega (arith, leb-false (octets_between from to) (mtu - 16) is_not, leb-true (octets_between from more) (mtu - 16) is_so, up)

above : (mtu last low : ℕ) (es : List AtomEnd) → Rises mtu last low es → All (λ (e : AtomEnd). low < e.at) es
above mtu last low [] rise = All-nil (λ (e : AtomEnd). low < e.at)
above mtu last low (e ∷ es) rise =
    let a = ahead mtu last low e es rise in
    All-cons (λ (x : AtomEnd). low < x.at) e es a.behind
    (All-weaker (λ (x : AtomEnd). e.at < x.at) (λ (x : AtomEnd). low < x.at) (λ x h. omega (arith, h, a.behind)) es (above mtu last e.at es a.rest))

pub within : (mtu last low : ℕ) (es : List AtomEnd) → Rises mtu last low es → All (λ (e : AtomEnd). e.at ≤ last) es
within mtu last low [] rise = All-nil (λ (e : AtomEnd). e.at ≤ last)
within mtu last low (e ∷ es) rise =
    let a = ahead mtu last low e es rise in
    All-cons (λ (x : AtomEnd). x.at ≤ last) e es a.within (within mtu last e.at es a.rest)

-- an end fits only where it lies no further on than another
abbrev Nearer : (mtu from to : ℕ) → AtomEnd → Type 0
Nearer mtu from to e = fits mtu from e.at ≡ true → e.at ≤ to

none-further : (mtu last from to : ℕ) (es : List AtomEnd) → Rises mtu last to es → is_cut mtu from es ≡ true → All (Nearer mtu from to) es
none-further mtu last from to [] rise ends = All-nil (Nearer mtu from to)
none-further mtu last from to (f ∷ fs) rise ends =
    let a = ahead mtu last to f fs rise in
    let is_not : fits mtu from f.at ≡ false = not-true (fits mtu from f.at) ends in
    All-cons (Nearer mtu from to) f fs (λ is_so. absurd (none-beyond mtu from f.at f.at is_not (omega arith) is_so))
    (All-weaker (λ (x : AtomEnd). f.at < x.at) (Nearer mtu from to) (λ x h is_so. absurd (none-beyond mtu from f.at x.at is_not (omega (arith, h)) is_so)) fs (above mtu last f.at fs a.rest))

cut-is : (mtu last from low : ℕ) (passed : List AtomEnd) (e : AtomEnd) (es : List AtomEnd)
    → Ahead mtu last from e es → low < e.at → All (λ (x : AtomEnd). x.at ≤ low) passed → is_cut mtu from es ≡ true → IsCut mtu (passed ++ e ∷ es) from e
cut-is mtu last from low passed e es a up before ends = record {
  there = Contains-append_right passed (e ∷ es) e (0, omega arith, refl);
  behind = a.behind;
  within = a.fit;
  furthest = All-append (Nearer mtu from e.at) passed (e ∷ es)
      (All-weaker (λ (x : AtomEnd). x.at ≤ low) (Nearer mtu from e.at) (λ x h is_so. omega (arith, h, up)) passed before)
      (All-cons (Nearer mtu from e.at) e es (λ is_so. omega arith) (none-further mtu last from e.at es a.rest ends));
}

by-cut : (b : Bool) (mtu last from : ℕ) (all : List AtomEnd) (e : AtomEnd) (es : List AtomEnd)
    → (b ≡ true → IsCut mtu all from e × AreCuts mtu all last e.at (cuts mtu e.at es)) → (b ≡ false → AreCuts mtu all last from (cuts mtu from es))
    → AreCuts mtu all last from (with_cut b e (cuts mtu (from_behind b from e) es))
by-cut true mtu last from all e es is_so is_not = is_so refl
by-cut false mtu last from all e es is_so is_not = is_not refl

same-end : (mtu from : ℕ) (e : AtomEnd) (es : List AtomEnd) → is_cut mtu from es ≡ false → last_end from es ≡ last_end e.at es
same-end mtu from e [] goes = absurd (cc)
same-end mtu from e (f ∷ es) goes = refl

-- the ends that were passed lie at `low` at most, and those that are left behind it
are-cuts : (mtu last from low : ℕ) (passed left : List AtomEnd) → Rises mtu last from left → Rises mtu last low left → All (λ (x : AtomEnd). x.at ≤ low) passed
    → last_end from left ≡ last → AreCuts mtu (passed ++ left) last from (cuts mtu from left)
are-cuts mtu last from low passed [] rise over before is = is
are-cuts mtu last from low passed (e ∷ es) rise over before is =
    let a = ahead mtu last from e es rise in
    let b = ahead mtu last low e es over in
    let all = passed ++ e ∷ es in
    let join : (passed ++ e ∷ []) ++ es ≡ all = append_assoc passed (e ∷ []) es in
    let more : All (λ (x : AtomEnd). x.at ≤ e.at) (passed ++ e ∷ []) =
    All-push (λ (x : AtomEnd). x.at ≤ e.at) passed e (All-weaker (λ (x : AtomEnd). x.at ≤ low) (λ (x : AtomEnd). x.at ≤ e.at) (λ x h. omega (arith, h, b.behind)) passed before) (omega arith) in
    by-cut (is_cut mtu from es) mtu last from all e es
    (λ is_so. (
      cut-is mtu last from low passed e es a b.behind before is_so,
      subst (λ (t : List AtomEnd). AreCuts mtu t last e.at (cuts mtu e.at es)) join (are-cuts mtu last e.at e.at (passed ++ e ∷ []) es a.rest a.rest more is),
    ))
    (λ is_not. subst (λ (t : List AtomEnd). AreCuts mtu t last from (cuts mtu from es)) join
    (are-cuts mtu last from e.at (passed ++ e ∷ []) es (rises-on mtu last from e es rise is_not) a.rest more (same-end mtu from e es is_not ∙ is)))

pub cuts-are-furthest : (mtu : ℕ) (p : Picture) → 1000 ≤ mtu → IsValid Cif p → AreCuts mtu (atom_ends p) (length (text Cif p)) 0 (cuts mtu 0 (atom_ends p))
cuts-are-furthest mtu p most valid =
    let rise = atoms-rise mtu p most valid in
    are-cuts mtu (length (text Cif p)) 0 0 [] (atom_ends p) rise rise (All-nil (λ (x : AtomEnd). x.at ≤ 0)) (text-end p valid)

-- ---- one list alone

-- the first of rising ends is the only one at its place
first-alone : (mtu last low : ℕ) (e : AtomEnd) (es : List AtomEnd) (f : AtomEnd) → Rises mtu last low (e ∷ es) → Contains es f → e.at ≡ f.at → ⊥
first-alone mtu last low e es f rise there same =
    let h = All-contains (λ (x : AtomEnd). e.at < x.at) es f (above mtu last e.at es (ahead mtu last low e es rise).rest) there in
    omega (arith, h, same)

-- ends that lie at the same place are one
one-at : (mtu last low : ℕ) (es : List AtomEnd) (e f : AtomEnd) (i k : ℕ) → Rises mtu last low es → i < length es → slice_index_or es i e ≡ e → k < length es → slice_index_or es k f ≡ f
    → e.at ≡ f.at → e ≡ f
one-at mtu last low [] e f i k rise i_in e_is k_in f_is same = absurd (omega (arith, i_in))
one-at mtu last low (x ∷ xs) e f zero zero rise i_in e_is k_in f_is same = sym e_is ∙ f_is
one-at mtu last low (x ∷ xs) e f zero (suc k) rise i_in e_is k_in f_is same =
    absurd (first-alone mtu last low x xs f rise (k, omega (arith, k_in), f_is) (ap (λ (t : AtomEnd). t.at) e_is ∙ same))
one-at mtu last low (x ∷ xs) e f (suc i) zero rise i_in e_is k_in f_is same =
    absurd (first-alone mtu last low x xs e rise (i, omega (arith, i_in), e_is) (ap (λ (t : AtomEnd). t.at) f_is ∙ sym same))
one-at mtu last low (x ∷ xs) e f (suc i) (suc k) rise i_in e_is k_in f_is same =
    one-at mtu last x.at xs e f i k (ahead mtu last low x xs rise).rest (omega (arith, i_in)) e_is (omega (arith, k_in)) f_is same

same-cut : (mtu last from : ℕ) (all : List AtomEnd) (e f : AtomEnd) → Rises mtu last 0 all → IsCut mtu all from e → IsCut mtu all from f → e ≡ f
same-cut mtu last from all e f rise one two =
    let up = All-contains (Nearer mtu from f.at) all e two.furthest one.there one.within in
    let down = All-contains (Nearer mtu from e.at) all f one.furthest two.there two.within in
    one-at mtu last 0 all e f one.there.0 two.there.0 rise one.there.1 one.there.2 two.there.1 two.there.2 (omega (arith, up, down))

no-more : (mtu last from : ℕ) (all : List AtomEnd) (e : AtomEnd) → Rises mtu last 0 all → from ≡ last → IsCut mtu all from e → ⊥
no-more mtu last from all e rise is cut =
    let h = All-contains (λ (x : AtomEnd). x.at ≤ last) all e (within mtu last 0 all rise) cut.there in
    omega (arith, h, is, cut.behind)

pub only-cuts : (mtu last from : ℕ) (all xs ys : List AtomEnd) → Rises mtu last 0 all → AreCuts mtu all last from xs → AreCuts mtu all last from ys → xs ≡ ys
only-cuts mtu last from all [] [] rise one two = refl
only-cuts mtu last from all [] (y ∷ ys) rise one two = absurd (no-more mtu last from all y rise one two.0)
only-cuts mtu last from all (x ∷ xs) [] rise one two = absurd (no-more mtu last from all x rise two one.0)
only-cuts mtu last from all (x ∷ xs) (y ∷ ys) rise one two =
    let same : y ≡ x = same-cut mtu last from all y x rise two.0 one.0 in
    ap₂ (λ (e : AtomEnd) (es : List AtomEnd). e ∷ es) (sym same)
    (only-cuts mtu last x.at all xs ys rise one.1 (subst (λ (e : AtomEnd). AreCuts mtu all last e.at ys) same two.1))
