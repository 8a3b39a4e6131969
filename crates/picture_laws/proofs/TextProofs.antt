-- Lengths of strict texts, the bits at their marks, and groups in a place.
use Rattle.std.proofs.Common.{◌≡◌, ℕ, ◌+◌, ◌≤◌, ◌%◌, ◌==◌, ◌||◌, Bool, true, false, cond, ℤ, pos, negsuc, nat_le, List, [], ◌∷◌, ◌++◌, length, map, flat_map, take, drop, slice_index_or, Option, Some, None, MatchBool, refl, sym, ◌∙◌, ap, ap₂, subst, inl, inr, ◌⊎◌, arith, append_assoc, append-nil, length-append}
use Rattle.std.proofs.lemmas.Bool.{cases_Bool, leb-true, le-leb, eqb-true}
use Rattle.std.proofs.lemmas.List.{take_at, drop_at, map-append}
use Rattle.pel_model.specs.declared.Format.{Format}
use Rattle.pel_model.specs.declared.Format.TheVariants.{Qcif, Cif}
use Rattle.pel_model.specs.declared.Mark.{Mark}
use Rattle.pel_model.specs.declared.Quad.{Quad}
use Rattle.pel_model.specs.declared.Quad.TheVariants.{One, Two, Three, Four}
use Rattle.pel_model.specs.Bits.{field}
use Rattle.pel_model.specs.Codes.{has_vector}
use Rattle.pel_model.specs.Grammar.{is_group}
use Rattle.pel_model.specs.Headers.{picture_header_text, group_header_text}
use Rattle.pel_model.specs.Marks.{macroblock_marks, group_marks, marks_of}
use Rattle.pel_model.specs.Records.{Axis, Across, Down, Macroblock, Group, Picture, component, quantiser_after}
use Rattle.pel_model.specs.Regions.{number_in, renumbered_for, right, below}
use Rattle.pel_model.specs.Text.{picture_header, group_header, group_text, macroblock_text, macroblocks_text, text}
use Rattle.pel_model.specs.Valid.{side, corner, stays_within, ComponentFits, IsValidMacroblock, IsValidGroup}
use Rattle.picture_laws.specs.TextLaws.{TextsHaveLengths, IsInPlace, ValidInEachPlace, marked_bits, macroblock_texts, LieInOrder, MarksCut, MarksCutGroups, MarksCutText, MarksCutPictures}

-- ---- lengths

length-picture_header : (format : Format) (tr : ℕ) → length (picture_header format tr) ≡ 32
unfolding picture_header_text field
length-picture_header Qcif tr = refl
length-picture_header Cif tr = refl

length-group_header : (number quant : ℕ) → length (group_header number quant) ≡ 26
unfolding group_header_text field
length-group_header number quant = refl

length-group_text : (g : Group) → length (group_text g) ≡ 26 + length (macroblocks_text None g.macroblocks)
length-group_text g =
    length-append (group_header g.number g.quant) (macroblocks_text None g.macroblocks)
    ∙ ap (λ n. n + length (macroblocks_text None g.macroblocks)) (length-group_header g.number g.quant)

length-text : (format : Format) (p : Picture) → length (text format p) ≡ 32 + length (flat_map group_text p.groups)
length-text format p =
    length-append (picture_header format p.tr) (flat_map group_text p.groups)
    ∙ ap (λ n. n + length (flat_map group_text p.groups)) (length-picture_header format p.tr)

pub texts-lengths : TextsHaveLengths
texts-lengths = record {
  of_picture_header = length-picture_header;
  of_group_header = length-group_header;
  of_group = length-group_text;
  of_picture = length-text;
}

-- ---- groups in a place

right_of : (a b c d n : ℕ) → (a + n + 16 ≤ b → c + n + 16 ≤ d) → stays_within b a (pos n) ≡ true → stays_within d c (pos n) ≡ true
right_of a b c d n more h = le-leb (c + n + 16) d (more (leb-true (a + n + 16) b h))

left_of : (a b c d n : ℕ) → (n + 1 ≤ a → n + 1 ≤ c) → stays_within b a (negsuc n) ≡ true → stays_within d c (negsuc n) ≡ true
left_of a b c d n more h = le-leb (n + 1) c (more (leb-true (n + 1) a h))

-- a vector that stays in the QCIF picture stays in the CIF picture
moved_within : (axis : Axis) (place : Quad) (number address : ℕ) (c : ℤ) → number % 2 ≡ 1 → stays_within (side Qcif axis) (corner axis number address) c ≡ true → stays_within (side Cif axis) (corner axis (number_in place number) address) c ≡ true
moved_within Across One number address (pos n) odd stays = right_of (corner Across number address) (side Qcif Across) (corner Across (number_in One number) address) (side Cif Across) n (λ h. omega (arith, odd, h)) stays
moved_within Across Two number address (pos n) odd stays = right_of (corner Across number address) (side Qcif Across) (corner Across (number_in Two number) address) (side Cif Across) n (λ h. omega (arith, odd, h)) stays
moved_within Across Three number address (pos n) odd stays = right_of (corner Across number address) (side Qcif Across) (corner Across (number_in Three number) address) (side Cif Across) n (λ h. omega (arith, odd, h)) stays
moved_within Across Four number address (pos n) odd stays = right_of (corner Across number address) (side Qcif Across) (corner Across (number_in Four number) address) (side Cif Across) n (λ h. omega (arith, odd, h)) stays
moved_within Across One number address (negsuc n) odd stays = left_of (corner Across number address) (side Qcif Across) (corner Across (number_in One number) address) (side Cif Across) n (λ h. omega (arith, odd, h)) stays
moved_within Across Two number address (negsuc n) odd stays = left_of (corner Across number address) (side Qcif Across) (corner Across (number_in Two number) address) (side Cif Across) n (λ h. omega (arith, odd, h)) stays
moved_within Across Three number address (negsuc n) odd stays = left_of (corner Across number address) (side Qcif Across) (corner Across (number_in Three number) address) (side Cif Across) n (λ h. omega (arith, odd, h)) stays
moved_within Across Four number address (negsuc n) odd stays = left_of (corner Across number address) (side Qcif Across) (corner Across (number_in Four number) address) (side Cif Across) n (λ h. omega (arith, odd, h)) stays
moved_within Down One number address (pos n) odd stays = right_of (corner Down number address) (side Qcif Down) (corner Down (number_in One number) address) (side Cif Down) n (λ h. omega (arith, odd, h)) stays
moved_within Down Two number address (pos n) odd stays = right_of (corner Down number address) (side Qcif Down) (corner Down (number_in Two number) address) (side Cif Down) n (λ h. omega (arith, odd, h)) stays
moved_within Down Three number address (pos n) odd stays = right_of (corner Down number address) (side Qcif Down) (corner Down (number_in Three number) address) (side Cif Down) n (λ h. omega (arith, odd, h)) stays
moved_within Down Four number address (pos n) odd stays = right_of (corner Down number address) (side Qcif Down) (corner Down (number_in Four number) address) (side Cif Down) n (λ h. omega (arith, odd, h)) stays
moved_within Down One number address (negsuc n) odd stays = left_of (corner Down number address) (side Qcif Down) (corner Down (number_in One number) address) (side Cif Down) n (λ h. omega (arith, odd, h)) stays
moved_within Down Two number address (negsuc n) odd stays = left_of (corner Down number address) (side Qcif Down) (corner Down (number_in Two number) address) (side Cif Down) n (λ h. omega (arith, odd, h)) stays
moved_within Down Three number address (negsuc n) odd stays = left_of (corner Down number address) (side Qcif Down) (corner Down (number_in Three number) address) (side Cif Down) n (λ h. omega (arith, odd, h)) stays
moved_within Down Four number address (negsuc n) odd stays = left_of (corner Down number address) (side Qcif Down) (corner Down (number_in Four number) address) (side Cif Down) n (λ h. omega (arith, odd, h)) stays

fits_by : (b : Bool) (P P' Q : Type 0) → (P → P') → MatchBool b P Q → MatchBool b P' Q
fits_by true P P' Q more fits = more fits
fits_by false P P' Q more fits = fits

component_in_place : (axis : Axis) (place : Quad) (number : ℕ) (m : Macroblock) → number % 2 ≡ 1 → ComponentFits Qcif number axis m → ComponentFits Cif (number_in place number) axis m
component_in_place axis place number m odd fits =
    fits_by (has_vector m.kind) _ _ _ (λ stays. (stays.0, moved_within axis place number m.address (component axis m) odd stays.1)) fits

macroblock_in_place : (place : Quad) (number : ℕ) (m : Macroblock) → number % 2 ≡ 1 → IsValidMacroblock Qcif number m → IsValidMacroblock Cif (number_in place number) m
macroblock_in_place place number m odd valid = record {
  mquant = valid.mquant;
  across = component_in_place Across place number m odd valid.across;
  down = component_in_place Down place number m odd valid.down;
  six = valid.six;
  blocks = valid.blocks;
}

-- a number of a QCIF group
one_of : (n : ℕ) → is_group Qcif n ≡ true → (n ≡ 1) ⊎ ((n ≡ 3) ⊎ (n ≡ 5))
one_of n is = elim (cases_Bool (1 == n)) [
  | inl first ↦ inl (sym (eqb-true 1 n first))
  | inr not_first ↦ elim (cases_Bool (3 == n)) [
    | inl second ↦ inr (inl (sym (eqb-true 3 n second)))
    | inr not_second ↦ elim (cases_Bool (5 == n)) [
      | inl third ↦ inr (inr (sym (eqb-true 5 n third)))
      | inr not_third ↦ absurd (none (1 == n) (3 == n) (5 == n) not_first not_second not_third is)
    ]
  ]
]
  where
    none : (a b c : Bool) → a ≡ false → b ≡ false → c ≡ false → (a || (b || (c || false))) ≡ true → ⊥
    none false false false x y z t = cc
    none true b c x y z t = cc
    none false true c x y z t = cc
    none false false true x y z t = cc

first_number : (place : Quad) → is_group Cif (number_in place 1) ≡ true
first_number One = refl
first_number Two = refl
first_number Three = refl
first_number Four = refl

second_number : (place : Quad) → is_group Cif (number_in place 3) ≡ true
second_number One = refl
second_number Two = refl
second_number Three = refl
second_number Four = refl

third_number : (place : Quad) → is_group Cif (number_in place 5) ≡ true
third_number One = refl
third_number Two = refl
third_number Three = refl
third_number Four = refl

number_in_place : (place : Quad) (n : ℕ) → (n ≡ 1) ⊎ ((n ≡ 3) ⊎ (n ≡ 5)) → is_group Cif (number_in place n) ≡ true
number_in_place place n is = elim is [
  | inl e ↦ ap (λ k. is_group Cif (number_in place k)) e ∙ first_number place
  | inr more ↦ elim more [
    | inl e ↦ ap (λ k. is_group Cif (number_in place k)) e ∙ second_number place
    | inr e ↦ ap (λ k. is_group Cif (number_in place k)) e ∙ third_number place
  ]
]

odd_number : (n : ℕ) → (n ≡ 1) ⊎ ((n ≡ 3) ⊎ (n ≡ 5)) → n % 2 ≡ 1
odd_number n is = elim is [
  | inl e ↦ ap (λ k. k % 2) e
  | inr more ↦ elim more [ inl e ↦ ap (λ k. k % 2) e | inr e ↦ ap (λ k. k % 2) e ]
]

pub valid-in-place : ValidInEachPlace
valid-in-place place g is valid = record {
  valid = record {
    quant = valid.quant;
    addresses = valid.addresses;
    macroblocks = λ k d l. macroblock_in_place place g.number (slice_index_or g.macroblocks k d) (odd_number g.number (one_of g.number is)) (valid.macroblocks k d l);
  };
  number = number_in_place place g.number (one_of g.number is);
}

-- ---- marks

first_text : (front here behind : List Bool) → take (length here) (drop (length front) (front ++ (here ++ behind))) ≡ here
first_text front here behind = ap (take (length here)) (drop_at front (here ++ behind) (length front) refl) ∙ take_at here behind (length here) refl

in_order : (at number quant : ℕ) (last : Option Macroblock) (ms : List Macroblock) → LieInOrder at (at + length (macroblocks_text last ms)) (macroblock_marks at number quant last ms)
unfolding macroblocks_text
in_order at number quant last [] = omega arith
in_order at number quant last (m ∷ ms) = (
  omega arith,
  subst (λ n. LieInOrder (at + length (macroblock_text last m)) n (macroblock_marks (at + length (macroblock_text last m)) number (quantiser_after quant m.mquant) (Some m) ms))
      (omega (arith, length-append (macroblock_text last m) (macroblocks_text (Some m) ms)))
      (in_order (at + length (macroblock_text last m)) number (quantiser_after quant m.mquant) (Some m) ms),
)

-- the bits at the marks of macroblocks, behind some bits and in front of others
cut : (front behind : List Bool) (number quant : ℕ) (last : Option Macroblock) (ms : List Macroblock) → map (marked_bits (front ++ (macroblocks_text last ms ++ behind))) (macroblock_marks (length front) number quant last ms) ≡ macroblock_texts last ms
unfolding macroblocks_text
cut front behind number quant last [] = refl
cut front behind number quant last (m ∷ ms) =
    let here = macroblock_text last m in
    let more = macroblocks_text (Some m) ms in
    let inner : (here ++ more) ++ behind ≡ here ++ (more ++ behind) = append_assoc here more behind in
    let regroup : front ++ ((here ++ more) ++ behind) ≡ (front ++ here) ++ (more ++ behind) = ap (λ t. front ++ t) inner ∙ sym (append_assoc front here (more ++ behind)) in
    let first : take (length here) (drop (length front) (front ++ ((here ++ more) ++ behind))) ≡ here = ap (λ t. take (length here) (drop (length front) (front ++ t))) inner ∙ first_text front here (more ++ behind) in
    ap₂ (λ (b : List Bool) (bs : List (List Bool)). b ∷ bs) first
    (ap₂ (λ (bs : List Bool) (n : ℕ). map (marked_bits bs) (macroblock_marks n number (quantiser_after quant m.mquant) (Some m) ms)) regroup (sym (length-append front here))
    ∙ cut (front ++ here) behind number (quantiser_after quant m.mquant) (Some m) ms)

pub marks-cut : MarksCutGroups
marks-cut front behind number quant last ms = record {
  bits = cut front behind number quant last ms;
  order = in_order (length front) number quant last ms;
}

-- marks that lie up to one place, and others from there on
order-append : (from mid end : ℕ) (ms ns : List Mark) → LieInOrder from mid ms → LieInOrder mid end ns → LieInOrder from end (ms ++ ns)
order-append from mid end [] [] here there = omega (arith, here, there)
order-append from mid end [] (n ∷ ns) here there = (omega (arith, here, there.0), there.1)
order-append from mid end (m ∷ ms) ns here there = (here.0, order-append (m.at + m.len) mid end ms ns here.1 there)

order-earlier : (from from' end : ℕ) (ms : List Mark) → from ≤ from' → LieInOrder from' end ms → LieInOrder from end ms
order-earlier from from' end [] less h = omega (arith, less, h)
order-earlier from from' end (m ∷ ms) less h = (omega (arith, less, h.0), h.1)

groups_cut : (front : List Bool) (gs : List Group) → map (marked_bits (front ++ flat_map group_text gs)) (group_marks (length front) gs) ≡ flat_map (λ (g : Group). macroblock_texts None g.macroblocks) gs
groups_cut front [] = refl
groups_cut front (g ∷ gs) =
    let header = group_header g.number g.quant in
    let here = macroblocks_text None g.macroblocks in
    let more = flat_map group_text gs in
    let whole = front ++ ((header ++ here) ++ more) in
    let regroup : whole ≡ (front ++ header) ++ (here ++ more) = ap (λ t. front ++ t) (append_assoc header here more) ∙ sym (append_assoc front header (here ++ more)) in
    let long : length front + 26 ≡ length (front ++ header) = omega (arith, length-append front header, length-group_header g.number g.quant) in
    let first : map (marked_bits whole) (macroblock_marks (length front + 26) g.number g.quant None g.macroblocks) ≡ macroblock_texts None g.macroblocks =
    ap₂ (λ (bs : List Bool) (n : ℕ). map (marked_bits bs) (macroblock_marks n g.number g.quant None g.macroblocks)) regroup long
    ∙ (marks-cut (front ++ header) more g.number g.quant None g.macroblocks).bits in
    let later : map (marked_bits whole) (group_marks (length front + length (group_text g)) gs) ≡ flat_map (λ (g : Group). macroblock_texts None g.macroblocks) gs =
    ap₂ (λ (bs : List Bool) (n : ℕ). map (marked_bits bs) (group_marks n gs)) (sym (append_assoc front (header ++ here) more)) (sym (length-append front (group_text g)))
    ∙ groups_cut (front ++ group_text g) gs in
    map-append (marked_bits whole) (macroblock_marks (length front + 26) g.number g.quant None g.macroblocks) (group_marks (length front + length (group_text g)) gs)
    ∙ ap₂ (λ (bs : List (List Bool)) (cs : List (List Bool)). bs ++ cs) first later

groups_in_order : (at : ℕ) (gs : List Group) → LieInOrder at (at + length (flat_map group_text gs)) (group_marks at gs)
groups_in_order at [] = omega arith
groups_in_order at (g ∷ gs) =
    let here = macroblocks_text None g.macroblocks in
    let long : at + 26 + length here ≡ at + length (group_text g) = omega (arith, length-group_text g) in
    let first : LieInOrder (at + 26) (at + length (group_text g)) (macroblock_marks (at + 26) g.number g.quant None g.macroblocks) =
    subst (λ n. LieInOrder (at + 26) n (macroblock_marks (at + 26) g.number g.quant None g.macroblocks)) long (in_order (at + 26) g.number g.quant None g.macroblocks) in
    let later : LieInOrder (at + length (group_text g)) (at + length (flat_map group_text (g ∷ gs))) (group_marks (at + length (group_text g)) gs) =
    subst (λ n. LieInOrder (at + length (group_text g)) n (group_marks (at + length (group_text g)) gs))
    (omega (arith, length-append (group_text g) (flat_map group_text gs))) (groups_in_order (at + length (group_text g)) gs) in
    order-append at (at + length (group_text g)) (at + length (flat_map group_text (g ∷ gs))) (macroblock_marks (at + 26) g.number g.quant None g.macroblocks) (group_marks (at + length (group_text g)) gs)
    (order-earlier at (at + 26) (at + length (group_text g)) (macroblock_marks (at + 26) g.number g.quant None g.macroblocks) (omega arith) first) later

pub marks-cut_text : MarksCutPictures
marks-cut_text format p =
    record {
      bits = ap (λ n. map (marked_bits (text format p)) (group_marks n p.groups)) (sym (length-picture_header format p.tr)) ∙ groups_cut (picture_header format p.tr) p.groups;
      order = subst (λ n. LieInOrder 32 n (marks_of p)) (sym (length-text format p)) (groups_in_order 32 p.groups);
    }
