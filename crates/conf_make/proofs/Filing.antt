-- The header and the entries as a file.
use Rattle.std.proofs.Common.{◌≡◌, ℕ, zero, suc, ◌<◌, ◌≤◌, nat_lt, Bool, true, false, if◌then◌else◌, List, [], ◌∷◌, ◌++◌, take, map, Option, Result, Ok, Err, IsErr, refl, sym, ◌∙◌, ap, ap₂, subst, arith, append_assoc, length-append}
use Rattle.std.proofs.lemmas.Bool.Decides.{nat_tests}
use Rattle.std.specs.List.{concat}
use Rattle.std.specs.Io.KnownBytes.{Appends}
use Rattle.std.proofs.KnownBytes.{Appends-trans}
use Rattle.std.proofs.lemmas.List.{length-map}
use Rattle.io_edge.specs.Causes.{HasCause, Rose}
use Rattle.conf_file.specs.Entries.{Content, Chair}
use Rattle.conf_file.specs.Header.{header_of}
use Rattle.pel_model.specs.declared.Quad.{Quad}
use Rattle.pel_model.specs.declared.Quad.TheVariants.{One, Two, Three, Four}
use Rattle.pel_model.specs.declared.chair.Command.TheVariants.{Place}
use Rattle.conf_make.specs.declared.output.MakeTally.{MakeTally}
use Rattle.conf_make.specs.Ends.{MakeStopsBy}
use Rattle.io_edge.specs.Outside.{Output}
use Rattle.conf_make.specs.Maker.{PutsFile}
use Rattle.conf_make.specs.Made.{placed_lanes, contents, entry_of}
use Rattle.conf_make.specs.Writing.{PutsHeader, PutsPieces, written_stop, place_entry}

-- the sink failed at the header
pub header-failed : {E F : Type 0} (result : Result Unit E) (e : F) (old new : Option (List ℕ)) (seed ticks lanes : ℕ) (now : MakeTally) → IsErr result
    → PutsHeader (Err e) old new (header_of lanes) now → PutsFile result old new seed ticks lanes now
header-failed (Ok x) e old new seed ticks lanes now is h = absurd (cc)
header-failed (Err f) e old new seed ticks lanes now is h = record {
  whole = [];
  broken = header_of lanes;
  rest = map entry_of (contents seed ticks lanes);
  order = refl;
  count = h.0.0;
  front = h.0.1;
  bytes = h.0.2;
  records = ap (λ (t : MakeTally). t.records) h.1;
  octets = ap (λ (t : MakeTally). t.octets) h.1;
}

-- what became of the entries behind it
pub file-of : {E : Type 0} (result : Result Unit E) (x : Unit) (old mid new : Option (List ℕ)) (seed ticks lanes : ℕ) (then_ now : MakeTally)
    → PutsHeader {E = E} (Ok x) old mid (header_of lanes) then_ → PutsPieces result mid new (map entry_of (contents seed ticks lanes)) then_ now
    → PutsFile result old new seed ticks lanes now
file-of (Ok y) x old mid new seed ticks lanes then_ now h k =
    let records : then_.records ≡ 0 = ap (λ (t : MakeTally). t.records) h.1 in
    let octets : then_.octets ≡ 10 = ap (λ (t : MakeTally). t.octets) h.1 in
    let entries = map entry_of (contents seed ticks lanes) in
    record {
      bytes = Appends-trans old mid new (header_of lanes) (concat entries) h.0 k.bytes;
      records = omega (arith, k.records, records, length-map (contents seed ticks lanes) entry_of);
      octets = omega (arith, k.octets, octets, length-append (header_of lanes) (concat entries));
    }
file-of (Err e) x old mid new seed ticks lanes then_ now h k =
    let records : then_.records ≡ 0 = ap (λ (t : MakeTally). t.records) h.1 in
    let octets : then_.octets ≡ 10 = ap (λ (t : MakeTally). t.octets) h.1 in
    record {
      whole = header_of lanes ∷ k.whole;
      broken = k.broken;
      rest = k.rest;
      order = ap (λ (ls : List (List ℕ)). header_of lanes ∷ ls) k.order;
      count = k.count;
      front = k.front;
      bytes =
          subst (Appends old new) (sym (append_assoc (header_of lanes) (concat k.whole) (take k.count k.broken)))
          (Appends-trans old mid new (header_of lanes) (concat k.whole ++ take k.count k.broken) h.0 k.bytes);
      records = omega (arith, k.records, records);
      octets = omega (arith, k.octets, octets, length-append (header_of lanes) (concat k.whole));
    }

pub cause-failed : {T U E F : Type 0} (result : Result T E) (e : F) (before now : ℕ) → IsErr result → HasCause {T = U} before now (Err e) → HasCause before now result
cause-failed (Ok x) e before now is h = absurd (cc)
cause-failed (Err f) e before now is h = record { later = h.later; counted = h.counted; kept = tt; failed = h.failed }

pub causes-both : {T U E F : Type 0} (result : Result T E) (x : U) (before mid now : ℕ) → HasCause {E = F} before mid (Ok x) → HasCause mid now result → HasCause before now result
causes-both (Ok y) x before mid now h k = record {
  later = omega (arith, h.later, k.later);
  counted = λ small. k.counted (h.counted small);
  kept = k.kept ∙ h.kept;
  failed = tt;
}
causes-both (Err f) x before mid now h k = record {
  later = omega (arith, h.later, k.later);
  counted = λ small. k.counted (h.counted small);
  kept = tt;
  failed = subst (λ (n : ℕ). Rose n now) h.kept k.failed;
}

pub ended : {E : Type 0} (result : Result Unit E) (before after : Output) (seed ticks lanes : ℕ) (tally : MakeTally)
    → PutsFile result before.written after.written seed ticks lanes tally → HasCause before.faults after.faults result
    → MakeStopsBy (written_stop result) seed ticks lanes before after tally
ended (Ok x) before after seed ticks lanes tally h cause = (h, cause.kept)
ended (Err e) before after seed ticks lanes tally h cause = (h, cause.failed)

-- ---- the places

test-true : (k n : ℕ) → k < n → nat_lt k n ≡ true
test-true k n h = grind (arith, nat_tests)

test-false : (k n : ℕ) → n ≤ k → nat_lt k n ≡ false
test-false k n h = grind (arith, nat_tests)

placed-there : (lanes : ℕ) (quad : Quad) (lane : ℕ) → lane < lanes → place_entry lanes quad lane ≡ Chair (Place quad lane) ∷ []
placed-there lanes quad lane h = ap (λ (b : Bool). if b then Chair (Place quad lane) ∷ [] else []) (test-true lane lanes h)

placed-not : (lanes : ℕ) (quad : Quad) (lane : ℕ) → lanes ≤ lane → place_entry lanes quad lane ≡ []
placed-not lanes quad lane h = ap (λ (b : Bool). if b then Chair (Place quad lane) ∷ [] else []) (test-false lane lanes h)

four-lists : (a b c d e f g h : List Content) → a ≡ e → b ≡ f → c ≡ g → d ≡ h → a ++ (b ++ (c ++ d)) ≡ e ++ (f ++ (g ++ h))
four-lists a b c d e f g h p q r s =
    ap₂ (λ (x : List Content) (y : List Content). x ++ y) p (ap₂ (λ (x : List Content) (y : List Content). x ++ y) q (ap₂ (λ (x : List Content) (y : List Content). x ++ y) r s))

abbrev none : List Content
none = []

none-of-none : (n : ℕ) → take n none ≡ none
none-of-none zero = refl
none-of-none (suc n) = refl

pub placed-is : (lanes : ℕ) → place_entry lanes One 0 ++ (place_entry lanes Two 1 ++ (place_entry lanes Three 2 ++ place_entry lanes Four 3)) ≡ placed_lanes lanes
unfolding placed_lanes
placed-is zero =
    four-lists _ _ _ _ [] [] [] [] (placed-not 0 One 0 (omega arith)) (placed-not 0 Two 1 (omega arith)) (placed-not 0 Three 2 (omega arith)) (placed-not 0 Four 3 (omega arith))
placed-is (suc zero) =
    four-lists _ _ _ _ (Chair (Place One 0) ∷ []) [] [] []
    (placed-there 1 One 0 (omega arith)) (placed-not 1 Two 1 (omega arith)) (placed-not 1 Three 2 (omega arith)) (placed-not 1 Four 3 (omega arith))
placed-is (suc (suc zero)) =
    four-lists _ _ _ _ (Chair (Place One 0) ∷ []) (Chair (Place Two 1) ∷ []) [] []
    (placed-there 2 One 0 (omega arith)) (placed-there 2 Two 1 (omega arith)) (placed-not 2 Three 2 (omega arith)) (placed-not 2 Four 3 (omega arith))
placed-is (suc (suc (suc zero))) =
    four-lists _ _ _ _ (Chair (Place One 0) ∷ []) (Chair (Place Two 1) ∷ []) (Chair (Place Three 2) ∷ []) []
    (placed-there 3 One 0 (omega arith)) (placed-there 3 Two 1 (omega arith)) (placed-there 3 Three 2 (omega arith)) (placed-not 3 Four 3 (omega arith))
placed-is (suc (suc (suc (suc n)))) =
    let lanes : ℕ = suc (suc (suc (suc n))) in
    four-lists _ _ _ _ (Chair (Place One 0) ∷ []) (Chair (Place Two 1) ∷ []) (Chair (Place Three 2) ∷ []) (Chair (Place Four 3) ∷ [])
    (placed-there lanes One 0 (omega arith)) (placed-there lanes Two 1 (omega arith)) (placed-there lanes Three 2 (omega arith)) (placed-there lanes Four 3 (omega arith))
    ∙ ap (λ (cs : List Content). Chair (Place One 0) ∷ Chair (Place Two 1) ∷ Chair (Place Three 2) ∷ Chair (Place Four 3) ∷ cs) (sym (none-of-none n))
