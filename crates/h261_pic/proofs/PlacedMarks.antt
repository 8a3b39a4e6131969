-- Marks of macroblocks that stand one behind another, and the bits that stand at marks.
use Rattle.std.proofs.Common.{◌≡◌, ℕ, suc, ◌+◌, ◌≤◌, Bool, List, [], ◌∷◌, ◌++◌, length, take, drop, All, Option, Some, None, refl, sym, ◌∙◌, ap, ap₂, subst, arith, append_assoc, append-nil, length-append}
use Rattle.std.proofs.Math.Seq.{take-add}
use Rattle.std.proofs.lemmas.List.{flat_map_more, length-drop, length-take-le, take_at, drop_at, drop-drop, take-append-drop}
use Rattle.std.proofs.lemmas.List.Concat.{flat_map-append}
use Rattle.std.proofs.lemmas.List.Elements.{All-nil, All-cons, All-head, All-tail}
use Rattle.h261_pic.specs.Coded.{placed}
use Rattle.pel_bits.specs.Buffer.{Buffer}
use Rattle.pel_model.specs.declared.Mark.{Mark}
use Rattle.pel_model.specs.Marks.{mark_of, macroblock_marks}
use Rattle.pel_model.specs.Records.{Macroblock, quantiser_after}
use Rattle.pel_model.specs.Text.{macroblock_text, macroblocks_text}
use Rattle.pel_model.specs.Valid.{AddressesRise}
use Rattle.h261_pic.specs.Adding.{bits_at}

-- the marks lie within so many bits
abbrev pub LieWithin : ℕ → List Mark → Type 0
LieWithin n ms = All (λ (m : Mark). m.at + m.len ≤ n) ms

pub length-placed : (at number : ℕ) (ms : List Mark) → length (placed at number ms) ≡ length ms
length-placed at number [] = refl
length-placed at number (m ∷ ms) = ap suc (length-placed (at + m.len) number ms)

-- ---- the bits at marks

abbrev pub bits_of : List Bool → Mark → List Bool
bits_of bits m = take m.len (drop m.at bits)

pub length-bits_of : (bits : List Bool) (m : Mark) → m.at + m.len ≤ length bits → length (bits_of bits m) ≡ m.len
length-bits_of bits m inside = length-take-le m.len (drop m.at bits) (omega (arith, length-drop m.at bits))

pub bits_at-push : (bits : List Bool) (ms : List Mark) (m : Mark) → bits_at bits (ms ++ m ∷ []) ≡ bits_at bits ms ++ bits_of bits m
bits_at-push bits ms m = sym (flat_map_more (bits_of bits) [] ms m)

-- the marks of one more macroblock
pub placed-push : (bits : List Bool) (at number : ℕ) (ms : List Mark) (m : Mark) → LieWithin (length bits) ms
    → placed at number (ms ++ m ∷ []) ≡ placed at number ms ++ record m { at = at + length (bits_at bits ms); group = number } ∷ []
placed-push bits at number [] m inside = ap (λ (n : ℕ). record m { at = n; group = number } ∷ []) (omega arith)
placed-push bits at number (n ∷ ms) m inside =
    let P : Mark → Type 0 = λ k. k.at + k.len ≤ length bits in
    ap (λ (ks : List Mark). record n { at = at; group = number } ∷ ks)
    (placed-push bits (at + n.len) number ms m (All-tail P n ms inside)
    ∙ ap (λ (k : ℕ). placed (at + n.len) number ms ++ record m { at = k; group = number } ∷ [])
    (omega (arith, length-append (bits_of bits n) (bits_at bits ms), length-bits_of bits n (All-head P n ms inside))))

-- the front of the marks has no more bits than all of them
pub length-bits_at-take : (bits : List Bool) (ms : List Mark) (i : ℕ) → length (bits_at bits (take i ms)) ≤ length (bits_at bits ms)
length-bits_at-take bits ms i =
    omega (
      arith,
      ap length (sym (flat_map-append (bits_of bits) (take i ms) (drop i ms)) ∙ ap (bits_at bits) (take-append-drop i ms)),
      length-append (bits_at bits (take i ms)) (bits_at bits (drop i ms)),
    )

-- a run and the macroblock that stands behind it
pub longer_run : (bits : List Bool) (from len : ℕ) (m : Mark) → m.at ≡ from + len
    → take (len + m.len) (drop from bits) ≡ take len (drop from bits) ++ bits_of bits m
longer_run bits from len m is =
    take-add len m.len (drop from bits)
    ∙ ap (λ (bs : List Bool). take len (drop from bits) ++ take m.len bs)
    (drop-drop len from bits ∙ ap (λ n. drop n bits) (sym is))

-- ---- the marks of macroblocks

pub length-macroblock_marks : (at number quant : ℕ) (last : Option Macroblock) (ms : List Macroblock)
    → length (macroblock_marks at number quant last ms) ≡ length ms
length-macroblock_marks at number quant last [] = refl
length-macroblock_marks at number quant last (m ∷ ms) =
    ap suc (length-macroblock_marks (at + length (macroblock_text last m)) number (quantiser_after quant m.mquant) (Some m) ms)

-- they may be placed anew
pub placed-macroblock_marks : (at at' number number' quant : ℕ) (last : Option Macroblock) (ms : List Macroblock)
    → placed at' number' (macroblock_marks at number quant last ms) ≡ macroblock_marks at' number' quant last ms
placed-macroblock_marks at at' number number' quant last [] = refl
placed-macroblock_marks at at' number number' quant last (m ∷ ms) =
    ap (λ (ks : List Mark). mark_of at' number' quant last m ∷ ks)
    (placed-macroblock_marks (at + length (macroblock_text last m)) (at' + length (macroblock_text last m)) number number'
    (quantiser_after quant m.mquant) (Some m) ms)

-- what stands at them is their text
pub bits_at-macroblock_marks : (front rest : List Bool) (number quant : ℕ) (last : Option Macroblock) (ms : List Macroblock)
    → bits_at (front ++ macroblocks_text last ms ++ rest) (macroblock_marks (length front) number quant last ms) ≡ macroblocks_text last ms
unfolding macroblocks_text
bits_at-macroblock_marks front rest number quant last [] = refl
bits_at-macroblock_marks front rest number quant last (m ∷ ms) =
    let here = macroblock_text last m in
    let more = macroblocks_text (Some m) ms in
    let first : take (length here) (drop (length front) (front ++ (here ++ more) ++ rest)) ≡ here =
    ap (λ (bs : List Bool). take (length here) (drop (length front) bs))
    (append_assoc front (here ++ more) rest ∙ ap (λ (bs : List Bool). front ++ bs) (append_assoc here more rest))
    ∙ ap (take (length here)) (drop_at front (here ++ (more ++ rest)) (length front) refl)
    ∙ take_at here (more ++ rest) (length here) refl in
    let regroup : front ++ (here ++ more) ++ rest ≡ (front ++ here) ++ more ++ rest =
    ap (λ (bs : List Bool). bs ++ rest) (sym (append_assoc front here more)) in
    ap₂ (λ (bs : List Bool) (cs : List Bool). bs ++ cs) first
    (ap₂ (λ (bs : List Bool) (n : ℕ). bits_at bs (macroblock_marks n number (quantiser_after quant m.mquant) (Some m) ms))
    regroup (sym (length-append front here))
    ∙ bits_at-macroblock_marks (front ++ here) rest number (quantiser_after quant m.mquant) (Some m) ms)

-- they lie within their text
pub macroblock_marks-inside : (at number quant end : ℕ) (last : Option Macroblock) (ms : List Macroblock)
    → at + length (macroblocks_text last ms) ≤ end → LieWithin end (macroblock_marks at number quant last ms)
unfolding macroblocks_text
macroblock_marks-inside at number quant end last [] inside = All-nil (λ (m : Mark). m.at + m.len ≤ end)
macroblock_marks-inside at number quant end last (m ∷ ms) inside =
    let long = length-append (macroblock_text last m) (macroblocks_text (Some m) ms) in
    All-cons (λ (k : Mark). k.at + k.len ≤ end) (mark_of at number quant last m)
    (macroblock_marks (at + length (macroblock_text last m)) number (quantiser_after quant m.mquant) (Some m) ms)
    (omega arith)
    (macroblock_marks-inside (at + length (macroblock_text last m)) number (quantiser_after quant m.mquant) end (Some m) ms (omega arith))

-- marks that are placed as a group's macroblocks stand are as many as these
pub length-from_placed : (number quant : ℕ) (marks : List Mark) (ms : List Macroblock)
    → ((at : ℕ) → placed at number marks ≡ macroblock_marks at number quant None ms) → length marks ≡ length ms
length-from_placed number quant marks ms same =
    sym (length-placed 0 number marks) ∙ ap length (same 0) ∙ length-macroblock_marks 0 number quant None ms

-- ---- macroblocks that are appended in runs

-- the macroblocks at these marks were appended, the last `len` bits of them not yet: they stand from `from` on
pub record IsAppended (bits : List Bool) (old text : Buffer) (before marks : List Mark) (group from len : ℕ) (found : List Mark) : Type 0 where
  pub inside : from + len ≤ length bits
  pub capacity : text.capacity ≡ old.capacity
  pub list : text.list ++ take len (drop from bits) ≡ old.list ++ bits_at bits found
  pub marks_are : marks ≡ before ++ placed (length old.list) group found

-- what is not yet appended fits behind what is
pub length-appended : (bits : List Bool) (old text : Buffer) (before marks : List Mark) (group from len : ℕ) (found : List Mark)
    → IsAppended bits old text before marks group from len found
    → length text.list + len ≡ length old.list + length (bits_at bits found)
length-appended bits old text before marks group from len found is =
    let run : length (take len (drop from bits)) ≡ len = length-take-le len (drop from bits) (omega (arith, is.inside, length-drop from bits)) in
    omega (arith, length-append text.list (take len (drop from bits)), length-append old.list (bits_at bits found), ap length is.list)

-- the run is appended, and the next one begins at another place
pub appended_run : (bits : List Bool) (old text text' : Buffer) (before marks : List Mark) (group from from' len : ℕ) (found : List Mark)
    → IsAppended bits old text before marks group from len found → from' ≤ length bits
    → text' ≡ record text { list = text.list ++ take len (drop from bits) }
    → IsAppended bits old text' before marks group from' 0 found
appended_run bits old text text' before marks group from from' len found is inside text_is = record {
  inside = omega arith;
  capacity = ap (λ (b : Buffer). b.capacity) text_is ∙ is.capacity;
  list = append-nil text'.list ∙ ap (λ (b : Buffer). b.list) text_is ∙ is.list;
  marks_are = is.marks_are;
}

-- one more macroblock, which stands behind the run
pub appended_more : (bits : List Bool) (old text : Buffer) (before marks marks' : List Mark) (group from len : ℕ) (found : List Mark) (m : Mark)
    → IsAppended bits old text before marks group from len found → LieWithin (length bits) found
    → m.at + m.len ≤ length bits → m.at ≡ from + len
    → marks' ≡ marks ++ record m { at = length text.list + len; group = group } ∷ []
    → IsAppended bits old text before marks' group from (len + m.len) (found ++ m ∷ [])
appended_more bits old text before marks marks' group from len found m is all_inside inside here marks_are = record {
  inside = omega arith;
  capacity = is.capacity;
  list =
      ap (λ (bs : List Bool). text.list ++ bs) (longer_run bits from len m here)
      ∙ sym (append_assoc text.list (take len (drop from bits)) (bits_of bits m))
      ∙ ap (λ (bs : List Bool). bs ++ bits_of bits m) is.list
      ∙ append_assoc old.list (bits_at bits found) (bits_of bits m)
      ∙ ap (λ (bs : List Bool). old.list ++ bs) (sym (bits_at-push bits found m));
  marks_are =
      marks_are
      ∙ ap₂ (λ (ms : List Mark) (n : ℕ). ms ++ record m { at = n; group = group } ∷ []) is.marks_are
      (length-appended bits old text before marks group from len found is)
      ∙ append_assoc before (placed (length old.list) group found) (record m { at = length old.list + length (bits_at bits found); group = group } ∷ [])
      ∙ ap (λ (ms : List Mark). before ++ ms) (sym (placed-push bits (length old.list) group found m all_inside));
}

pub same_appended : (bits : List Bool) (old text text' : Buffer) (before marks : List Mark) (group from from' len len' : ℕ) (found : List Mark)
    → text' ≡ text → from' ≡ from → len' ≡ len → IsAppended bits old text before marks group from len found
    → IsAppended bits old text' before marks group from' len' found
same_appended bits old text text' before marks group from from' len len' found text_is from_is len_is is =
    subst (λ (b : Buffer). IsAppended bits old b before marks group from' len' found) (sym text_is)
    (subst (λ (n : ℕ). IsAppended bits old text before marks group n len' found) (sym from_is)
    (subst (λ (n : ℕ). IsAppended bits old text before marks group from n found) (sym len_is) is))
