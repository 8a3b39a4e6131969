-- What is read from left to right joins what was read before it.
use Rattle.std.proofs.Common.{ℤ, false, ◌%◌, ◌≡◌, ◌≢◌, ℕ, zero, suc, ◌+◌, ◌-◌, ◌<◌, ◌≤◌, ◌==◌, Bool, true, List, [], ◌∷◌, ◌++◌, length, map, take, replicate, Option, Some, None, refl, sym, ◌∙◌, ap, subst, inl, inr, append_assoc, append-nil, arith}
use Rattle.std.proofs.lemmas.Bool.{cases_Bool, cond-false, cond-true, eqb-false}
use Rattle.std.proofs.lemmas.List.{length-append, take_more}
use Rattle.std.proofs.lemmas.List.Elements.{All-push, All-nil}
use Rattle.pel_model.specs.declared.Format.{Format}
use Rattle.pel_model.specs.declared.MbKind.{MbKind}
use Rattle.pel_model.specs.declared.Why.TheVariants.{BadQuant}
use Rattle.pel_model.specs.Codes.{has_vector, has_cbp}
use Rattle.pel_model.specs.Records.{Across, Down, Block, Macroblock, Group, Picture, with_group, quantiser_after, quantiser_behind}
use Rattle.pel_model.specs.Text.{coded_block_pattern, address_of, macroblock_text, macroblocks_text}
use Rattle.pel_model.specs.Valid.{IsQuantiser, IsValidMacroblock, AddressesRise, IsValidGroup, IsValidSoFar, group_numbers, group_count}
use Rattle.pel_model.specs.Spelling.{GroupForm, LeftOut, Sent, GroupFits, GroupsFit}
use Rattle.pel_model.specs.Accepts.{Accepts}
use Rattle.pel_model.specs.Walk.{after, Goes}
use Rattle.pel_model.specs.Grammar.{address, vector_component, Slot, quantiser, Cbp, Element, Psc, Tr, Ptype, Gbsc, Gn, Gquant, Gei, Gspare, Stuffing, Mba, Mtype, AtGroup, AtGquant, AtMacroblock, slot, may_end, next}
use Rattle.pel_model.proofs.Walks.{after-append}
use Rattle.pel_model.proofs.InsideElements.{inside-right}
use Rattle.picture_laws.specs.Laws.{StandInside}
use Rattle.pel_model.specs.Elements.{block_elements, blocks_elements, mquant_elements, AreInside, spare_elements}
use Rattle.picture_laws.specs.PictureElements.{mvd_element, elements_of_vector, elements_of_pattern, elements_of_macroblock, elements_of_macroblocks, elements_of_group, elements_of_groups, elements_of_header}
use Rattle.picture_laws.specs.SoFar.{IsBehind, last_sent, group_with, IsGroupSoFar, GroupBegins, StuffingJoins, IsJoined, MacroblockJoins, IsPictureSoFar, number_due, HeaderBegins, GroupIsLeftOut, GroupIsSent, PictureIsTold, PictureIsAccepted, InsideStands}
use Rattle.picture_laws.proofs.Slots.{Takes, IsStep}
use Rattle.picture_laws.proofs.Chains.{Chain, words, goes-walk}
use Rattle.picture_laws.proofs.Blocks.{one_passed}
use Rattle.pel_model.proofs.BlockElements.{pass_block}
use Rattle.picture_laws.proofs.Macroblocks.{says-macroblock, body, headed, after-body}
use Rattle.picture_laws.proofs.Groups.{says-gspares, stuffed_behind}
use Rattle.picture_laws.proofs.ReadBlocks.{IsRest, rest-after, rest-step}
use Rattle.picture_laws.proofs.ReadMacroblocks.{ReadsMacroblock, read-macroblock}
use Rattle.picture_laws.proofs.ReadGroups.{ReadsSpares, read-gspares, behind_header}
use Rattle.picture_laws.proofs.Told.{told-one}
use Rattle.picture_laws.proofs.ReadPictures.{walk-record, ReadsHeader, read_header, header_slot}

-- ---- nothing more

-- where a macroblock or a group is due and none of these elements is one, there are none
no_more : (format : Format) (before es : List Element) → slot before ≡ AtMacroblock → IsRest format before es → AreInside es → es ≡ []
no_more format before [] at r inside = refl
no_more format before (e ∷ es) at r inside =
    let t : Takes AtMacroblock e = subst (λ s. Takes s e) at r.chain.0.takes in
    elim t [
      | inl a ↦ absurd (subst (λ x. AreInside (x ∷ es)) a.2 inside)
      | inr a ↦ elim a [
        | inl b ↦ absurd (subst (λ x. AreInside (x ∷ es)) b inside)
        | inr b ↦ absurd (subst (λ x. AreInside (x ∷ es)) b inside)
      ]
    ]

no_group : (format : Format) (before es : List Element) → slot before ≡ AtGroup → IsRest format before es → AreInside es → es ≡ []
no_group format before [] at r inside = refl
no_group format before (e ∷ es) at r inside = let t : Takes AtGroup e = subst (λ s. Takes s e) at r.chain.0.takes in absurd (subst (λ x. AreInside (x ∷ es)) t inside)

-- a walk to where an end may be
rest_of : (format : Format) (before : List Element) (r end : List Bool × ℕ) (es : List Element) → Goes (next format) before r es end → may_end (slot (after before es)) ≡ true → IsRest format before es
rest_of format before r end es goes final = record { chain = (goes-walk format before r es end goes).chain; final = final }

-- ---- lists with one more

more_joined : (s st m more : List Element) → (s ++ (st ++ m)) ++ more ≡ s ++ (st ++ (m ++ more))
more_joined s st m more = append_assoc s (st ++ m) more ∙ ap (λ t. s ++ t) (append_assoc st m more)

last-snoc : (last : Option Macroblock) (ms : List Macroblock) (m : Macroblock) → last_sent last (ms ++ m ∷ []) ≡ Some m
last-snoc last [] m = refl
last-snoc last (x ∷ ms) m = last-snoc (Some x) ms m

elements-snoc : (last : Option Macroblock) (behind : List ℕ) (ms : List Macroblock) (m : Macroblock) → length behind ≡ length ms → elements_of_macroblocks last (behind ++ 0 ∷ []) (ms ++ m ∷ []) ≡ elements_of_macroblocks last behind ms ++ elements_of_macroblock (last_sent last ms) m
elements-snoc last [] [] m each = append-nil (elements_of_macroblock last m)
elements-snoc last (b ∷ bs) [] m each = absurd (omega (arith, each))
elements-snoc last [] (x ∷ ms) m each = absurd (omega (arith, each))
elements-snoc last (b ∷ bs) (x ∷ ms) m each =
    ap (λ t. elements_of_macroblock last x ++ (replicate b Stuffing ++ t)) (elements-snoc (Some x) bs ms m (omega (arith, each)))
    ∙ sym (more_joined (elements_of_macroblock last x) (replicate b Stuffing) (elements_of_macroblocks (Some x) bs ms) (elements_of_macroblock (last_sent (Some x) ms) m))

text-snoc : (last : Option Macroblock) (ms : List Macroblock) (m : Macroblock) → macroblocks_text last (ms ++ m ∷ []) ≡ macroblocks_text last ms ++ macroblock_text (last_sent last ms) m
unfolding macroblocks_text
text-snoc last [] m = append-nil (macroblock_text last m)
text-snoc last (x ∷ ms) m =
    ap (λ t. macroblock_text last x ++ t) (text-snoc (Some x) ms m)
    ∙ sym (append_assoc (macroblock_text last x) (macroblocks_text (Some x) ms) (macroblock_text (last_sent (Some x) ms) m))

rise-snoc : (last : Option Macroblock) (ms : List Macroblock) (m : Macroblock) → AddressesRise (address_of last) ms → address_of (last_sent last ms) < m.address → m.address ≤ 33 → AddressesRise (address_of last) (ms ++ m ∷ [])
rise-snoc last [] m rise above most = (above, most, tt)
rise-snoc last (x ∷ ms) m rise above most = (rise.0, rise.1, rise-snoc (Some x) ms m rise.2 above most)

-- one more behind the last macroblock
bump : List ℕ → List ℕ
bump [] = []
bump (n ∷ []) = suc n ∷ []
bump (n ∷ b ∷ bs) = n ∷ bump (b ∷ bs)

bump-length : (ns : List ℕ) → length (bump ns) ≡ length ns
unfolding bump
bump-length [] = refl
bump-length (n ∷ []) = refl
bump-length (n ∷ b ∷ bs) = let e = bump-length (b ∷ bs) in omega (arith, e)

stuffing-snoc : (n : ℕ) → replicate n Stuffing ++ Stuffing ∷ [] ≡ replicate (suc n) Stuffing
stuffing-snoc zero = refl
stuffing-snoc (suc n) = ap (λ t. Stuffing ∷ t) (stuffing-snoc n)

bump-elements : (last : Option Macroblock) (behind : List ℕ) (m : Macroblock) (ms : List Macroblock) → length behind ≡ length (m ∷ ms) → elements_of_macroblocks last (bump behind) (m ∷ ms) ≡ elements_of_macroblocks last behind (m ∷ ms) ++ Stuffing ∷ []
unfolding bump
bump-elements last [] m ms each = absurd (omega (arith, each))
bump-elements last (n ∷ []) m [] each =
    ap (λ t. elements_of_macroblock last m ++ t) (append-nil (replicate (suc n) Stuffing) ∙ (sym (stuffing-snoc n) ∙ ap (λ t. t ++ Stuffing ∷ []) (sym (append-nil (replicate n Stuffing)))))
    ∙ sym (append_assoc (elements_of_macroblock last m) (replicate n Stuffing ++ []) (Stuffing ∷ []))
bump-elements last (n ∷ []) m (x ∷ ms) each = absurd (omega (arith, each))
bump-elements last (n ∷ b ∷ bs) m [] each = absurd (omega (arith, each))
bump-elements last (n ∷ b ∷ bs) m (x ∷ ms) each =
    ap (λ t. elements_of_macroblock last m ++ (replicate n Stuffing ++ t)) (bump-elements (Some m) (b ∷ bs) x ms (omega (arith, each)))
    ∙ sym (more_joined (elements_of_macroblock last m) (replicate n Stuffing) (elements_of_macroblocks (Some m) (b ∷ bs) (x ∷ ms)) (Stuffing ∷ []))

-- ---- the quantiser in effect

gspares-quant : (before : List Element) (spares : List ℕ) → quantiser (after before (spare_elements Gei Gspare spares)) ≡ quantiser before
gspares-quant before [] = refl
gspares-quant before (n ∷ ns) = gspares-quant (Gspare (n % 256) ∷ Gei true ∷ before) ns

block-quant : (before : List Element) (b : Block) → quantiser (after before (block_elements b)) ≡ quantiser before
block-quant before b = ap (λ (s : MbKind × ℕ × ℕ × ℕ × ℤ × ℤ). s.3) (pass_block before b)

blocks-quant : (before : List Element) (bs : List (Option Block)) → quantiser (after before (blocks_elements bs)) ≡ quantiser before
blocks-quant before [] = refl
blocks-quant before (None ∷ bs) = blocks-quant before bs
blocks-quant before (Some b ∷ bs) = ap quantiser (after-append before (block_elements b) (blocks_elements bs)) ∙ (blocks-quant (after before (block_elements b)) bs ∙ block-quant before b)

mquant-quant : (before : List Element) (q : Option ℕ) → quantiser (after before (mquant_elements q)) ≡ quantiser_after (quantiser before) q
mquant-quant before None = refl
mquant-quant before (Some q) = refl

vector-quant : (before : List Element) (last : Option Macroblock) (m : Macroblock) → quantiser (after before (elements_of_vector last m)) ≡ quantiser before
vector-quant before last m = elim (cases_Bool (has_vector m.kind)) [
  | inl has ↦ ap (λ es. quantiser (after before es)) (cond-true (has_vector m.kind) (mvd_element Across last m ∷ mvd_element Down last m ∷ []) [] has)
  | inr none ↦ ap (λ es. quantiser (after before es)) (cond-false (has_vector m.kind) (mvd_element Across last m ∷ mvd_element Down last m ∷ []) [] none)
]

cbp-quant : (before : List Element) (m : Macroblock) → quantiser (after before (elements_of_pattern m)) ≡ quantiser before
cbp-quant before m = elim (cases_Bool (has_cbp m.kind)) [
  | inl has ↦ ap (λ es. quantiser (after before es)) (cond-true (has_cbp m.kind) (Cbp (coded_block_pattern m.blocks) ∷ []) [] has)
  | inr none ↦ ap (λ es. quantiser (after before es)) (cond-false (has_cbp m.kind) (Cbp (coded_block_pattern m.blocks) ∷ []) [] none)
]

macroblock-quant : (before : List Element) (last : Option Macroblock) (m : Macroblock) → quantiser (after before (elements_of_macroblock last m)) ≡ quantiser_after (quantiser before) m.mquant
macroblock-quant before last m =
    ap quantiser (after-body (headed before last m) last m)
    ∙ (ap quantiser (after-append (after (after (headed before last m) (mquant_elements m.mquant)) (elements_of_vector last m)) (elements_of_pattern m) (blocks_elements m.blocks))
    ∙ (blocks-quant (after (after (after (headed before last m) (mquant_elements m.mquant)) (elements_of_vector last m)) (elements_of_pattern m)) m.blocks
    ∙ (cbp-quant (after (after (headed before last m) (mquant_elements m.mquant)) (elements_of_vector last m)) m
    ∙ (vector-quant (after (headed before last m) (mquant_elements m.mquant)) last m ∙ mquant-quant (headed before last m) m.mquant))))

effect-snoc : (q : ℕ) (ms : List Macroblock) (m : Macroblock) → quantiser_behind q (ms ++ m ∷ []) ≡ quantiser_after (quantiser_behind q ms) m.mquant
effect-snoc q [] m = refl
effect-snoc q (x ∷ ms) m = effect-snoc (quantiser_after q x.mquant) ms m

-- ---- a group so far

-- the elements of a group, with more behind them
group_more : (number quant : ℕ) (spares : List ℕ) (n : ℕ) (m more : List Element) → (Gbsc ∷ (Gn number ∷ (Gquant quant ∷ (spare_elements Gei Gspare spares ++ (replicate n Stuffing ++ m))))) ++ more ≡ Gbsc ∷ (Gn number ∷ (Gquant quant ∷ (spare_elements Gei Gspare spares ++ (replicate n Stuffing ++ (m ++ more)))))
group_more number quant spares n m more = ap (λ t. Gbsc ∷ (Gn number ∷ (Gquant quant ∷ t))) (more_joined (spare_elements Gei Gspare spares) (replicate n Stuffing) m more)

same_quant : (a b : ℕ) → Gquant a ≡ Gquant b → a ≡ b
same_quant a b h = cc

group_begun : (format : Format) (before es : List Element) (number q : ℕ) → IsQuantiser q → (s : ReadsSpares Gei Gspare es) → s.rest ≡ [] → IsGroupSoFar format before number q [] (Gbsc ∷ (Gn number ∷ (Gquant q ∷ es)))
group_begun format before es number q ok s none =
    let is : es ≡ spare_elements Gei Gspare s.spares = s.is ∙ (ap (λ t. spare_elements Gei Gspare s.spares ++ t) none ∙ append-nil (spare_elements Gei Gspare s.spares)) in
    record {
      spares = s.spares;
      stuffings = 0;
      behind = [];
      each = refl;
      elements = ap (λ t. Gbsc ∷ (Gn number ∷ (Gquant q ∷ t))) (is ∙ sym (append-nil (spare_elements Gei Gspare s.spares)));
      valid = record { quant = ok; addresses = tt; macroblocks = All-nil (IsValidMacroblock format number) };
      place = subst (λ t. IsBehind number None (after (Gquant q ∷ Gn number ∷ Gbsc ∷ before) t)) (sym is) (behind_header format number q before s.spares);
      quant_is = ap (λ t. quantiser (after (Gquant q ∷ Gn number ∷ Gbsc ∷ before) t)) is ∙ gspares-quant (Gquant q ∷ Gn number ∷ Gbsc ∷ before) s.spares;
    }

pub group-begins : GroupBegins
group-begins format before r end number quant es goes inside at =
    let all = rest_of format before r end (Gbsc ∷ (Gn number ∷ (Gquant quant ∷ es))) goes (ap may_end at) in
    let s0 = rest-step format before Gbsc Gbsc (Gn number ∷ (Gquant quant ∷ es)) all refl in
    let s1 = rest-step format (Gbsc ∷ before) (Gn number) (Gn number) (Gquant quant ∷ es) s0.1 refl in
    let s2 = rest-step format (Gn number ∷ Gbsc ∷ before) (Gquant quant) (Gquant quant) es s1.1 refl in
    let t : Takes AtGquant (Gquant quant) = s2.0.takes in
    let small : quant ≡ t.0 = same_quant quant t.0 t.2 in
    let some : quant ≢ 0 = eqb-false quant 0 (one_passed (quant == 0) BadQuant s2.0.good) in
    let s = read-gspares format (Gquant quant ∷ Gn number ∷ Gbsc ∷ before) es refl s2.1 in
    let left = rest-after format (Gquant quant ∷ Gn number ∷ Gbsc ∷ before) es (spare_elements Gei Gspare s.spares) s.rest s2.1 s.is in
    let none = no_more format (after (Gquant quant ∷ Gn number ∷ Gbsc ∷ before) (spare_elements Gei Gspare s.spares)) s.rest (says-gspares format (Gquant quant ∷ Gn number ∷ Gbsc ∷ before) s.spares refl).1 left (inside-right (spare_elements Gei Gspare s.spares) s.rest (subst AreInside s.is inside)) in
    group_begun format before es number quant (omega (arith, some), omega (arith, small, t.1)) s none

stuffing_place : (format : Format) (before : List Element) (number quant : ℕ) (ms : List Macroblock) (es : List Element) → IsGroupSoFar format before number quant ms es → IsBehind number (last_sent None ms) (after before (es ++ Stuffing ∷ []))
stuffing_place format before number quant ms es g = subst (λ b. IsBehind number (last_sent None ms) b) (sym (after-append before es (Stuffing ∷ []))) (stuffed_behind number (last_sent None ms) (after before es) g.place)

pub stuffing-joins : StuffingJoins
stuffing-joins format before number quant [] es g = record {
  spares = g.spares;
  stuffings = suc g.stuffings;
  behind = g.behind;
  each = g.each;
  elements = ap (λ t. t ++ Stuffing ∷ []) g.elements ∙ (group_more number quant g.spares g.stuffings [] (Stuffing ∷ [])
      ∙ ap (λ t. Gbsc ∷ (Gn number ∷ (Gquant quant ∷ (spare_elements Gei Gspare g.spares ++ t)))) (stuffing-snoc g.stuffings ∙ sym (append-nil (replicate (suc g.stuffings) Stuffing))));
  valid = g.valid;
  place = stuffing_place format before number quant [] es g;
  quant_is = ap quantiser (after-append before es (Stuffing ∷ [])) ∙ g.quant_is;
}
stuffing-joins format before number quant (m ∷ ms) es g = record {
  spares = g.spares;
  stuffings = g.stuffings;
  behind = bump g.behind;
  each = bump-length g.behind ∙ g.each;
  elements = ap (λ t. t ++ Stuffing ∷ []) g.elements ∙ (group_more number quant g.spares g.stuffings (elements_of_macroblocks None g.behind (m ∷ ms)) (Stuffing ∷ [])
      ∙ ap (λ t. Gbsc ∷ (Gn number ∷ (Gquant quant ∷ (spare_elements Gei Gspare g.spares ++ (replicate g.stuffings Stuffing ++ t))))) (sym (bump-elements None g.behind m ms g.each)));
  valid = g.valid;
  place = stuffing_place format before number quant (m ∷ ms) es g;
  quant_is = ap quantiser (after-append before es (Stuffing ∷ [])) ∙ g.quant_is;
}

same_tail : (x y : Element) (xs ys : List Element) → x ∷ xs ≡ y ∷ ys → xs ≡ ys
same_tail x y xs ys h = cc

not_stuffing : (n : ℕ) → Mba n ≡ Stuffing → ⊥
not_stuffing n h = cc

not_gbsc : (n : ℕ) → Mba n ≡ Gbsc → ⊥
not_gbsc n h = cc

same_step : (a b : ℕ) → Mba a ≡ Mba b → a ≡ b
same_step a b h = cc

step_of : (n : ℕ) → Takes AtMacroblock (Mba n) → IsStep n
step_of n t = elim t [
  | inl a ↦ subst IsStep (sym (same_step n a.0 a.2)) a.1
  | inr a ↦ elim a [ inl b ↦ absurd (not_stuffing n b) | inr b ↦ absurd (not_gbsc n b) ]
]

joined : (format : Format) (before : List Element) (number quant : ℕ) (ms : List Macroblock) (es more : List Element) (r end : List Bool × ℕ) → IsGroupSoFar format before number quant ms es → Goes (next format) (after before es) r more end → (m : ReadsMacroblock format number (last_sent None ms) more) → m.rest ≡ [] → IsJoined format before number quant ms es more r end
joined format before number quant ms es more r end g goes m none =
    let is : more ≡ elements_of_macroblock (last_sent None ms) m.m = m.is ∙ (ap (λ t. elements_of_macroblock (last_sent None ms) m.m ++ t) none ∙ append-nil (elements_of_macroblock (last_sent None ms) m.m)) in
    let says = says-macroblock format number (last_sent None ms) m.m (after before es) g.place m.rise m.most m.valid in
    let walk = goes-walk format (after before es) r more end goes in
    let text : words (after before es) more ≡ macroblock_text (last_sent None ms) m.m = ap (words (after before es)) is ∙ says.0.text in
    let here : IsBehind number (Some m.m) (after before (es ++ more)) = subst (λ b. IsBehind number (Some m.m) b) (ap (after (after before es)) (sym is) ∙ sym (after-append before es more)) says.1 in
    record {
      macroblock = m.m;
      elements = is;
      bits = walk.bits ∙ ap (λ t. t ++ end.0) text;
      text = text-snoc None ms m.m;
      address_is = ap (λ t. address (after (after before es) t)) is ∙ says.1.address_is;
      vector_is = λ axis. ap (λ t. vector_component axis (after (after before es) t)) is ∙ says.1.vector_is axis;
      quant_is = ap (λ t. quantiser (after (after before es) t)) is ∙ macroblock-quant (after before es) (last_sent None ms) m.m;
      so_far = record {
        spares = g.spares;
        stuffings = g.stuffings;
        behind = g.behind ++ 0 ∷ [];
        each = length-append g.behind (0 ∷ []) ∙ (ap (λ n. n + 1) g.each ∙ sym (length-append ms (m.m ∷ [])));
        elements = ap (λ t. t ++ more) g.elements ∙ (group_more number quant g.spares g.stuffings (elements_of_macroblocks None g.behind ms) more
            ∙ ap (λ t. Gbsc ∷ (Gn number ∷ (Gquant quant ∷ (spare_elements Gei Gspare g.spares ++ (replicate g.stuffings Stuffing ++ t))))) (ap (λ t. elements_of_macroblocks None g.behind ms ++ t) is ∙ sym (elements-snoc None g.behind ms m.m g.each)));
        valid = record { quant = g.valid.quant; addresses = rise-snoc None ms m.m g.valid.addresses m.rise m.most; macroblocks = All-push (IsValidMacroblock format number) ms m.m g.valid.macroblocks m.valid };
        place = subst (λ l. IsBehind number l (after before (es ++ more))) (sym (last-snoc None ms m.m)) here;
        quant_is = ap quantiser (after-append before es more) ∙ (ap (λ t. quantiser (after (after before es) t)) is
            ∙ (macroblock-quant (after before es) (last_sent None ms) m.m ∙ (ap (λ q. quantiser_after q m.m.mquant) g.quant_is ∙ sym (effect-snoc quant ms m.m))));
      };
    }

pub macroblock-joins : MacroblockJoins
macroblock-joins format before number quant ms es r end n more g goes inside at =
    let all = rest_of format (after before es) r end (Mba n ∷ more) goes (ap may_end at) in
    let t : Takes AtMacroblock (Mba n) = subst (λ s. Takes s (Mba n)) g.place.at all.chain.0.takes in
    let s = rest-step format (after before es) (Mba n) (Mba n) more all refl in
    let m = read-macroblock format (after before es) more number (last_sent None ms) n g.place (step_of n t) s.0 s.1 in
    let says = says-macroblock format number (last_sent None ms) m.m (after before es) g.place m.rise m.most m.valid in
    let left = rest-after format (after before es) (Mba n ∷ more) (elements_of_macroblock (last_sent None ms) m.m) m.rest all m.is in
    let tail : more ≡ (Mtype m.m.kind ∷ body (last_sent None ms) m.m) ++ m.rest = same_tail (Mba n) (Mba (m.m.address - address_of (last_sent None ms))) more ((Mtype m.m.kind ∷ body (last_sent None ms) m.m) ++ m.rest) m.is in
    let none = no_more format (after (after before es) (elements_of_macroblock (last_sent None ms) m.m)) m.rest says.1.at left (inside-right (Mtype m.m.kind ∷ body (last_sent None ms) m.m) m.rest (subst AreInside tail inside)) in
    joined format before number quant ms es (Mba n ∷ more) r end g goes m none

-- ---- a picture so far

fits-snoc : (forms : List GroupForm) (gs : List Group) (f : GroupForm) (g : Group) → GroupsFit forms gs → GroupFits f g → GroupsFit (forms ++ f ∷ []) (gs ++ g ∷ [])
fits-snoc [] [] f g fit one = (one, tt)
fits-snoc [] (x ∷ gs) f g fit one = absurd fit
fits-snoc (y ∷ forms) [] f g fit one = absurd fit
fits-snoc (y ∷ forms) (x ∷ gs) f g fit one = (fit.0, fits-snoc forms gs f g fit.1 one)

groups-snoc : (forms : List GroupForm) (gs : List Group) (f : GroupForm) (g : Group) → GroupsFit forms gs → elements_of_groups (forms ++ f ∷ []) (gs ++ g ∷ []) ≡ elements_of_groups forms gs ++ elements_of_group f g
groups-snoc [] [] f g fit = append-nil (elements_of_group f g)
groups-snoc [] (x ∷ gs) f g fit = absurd fit
groups-snoc (y ∷ forms) [] f g fit = absurd fit
groups-snoc (y ∷ forms) (x ∷ gs) f g fit =
    ap (λ t. elements_of_group y x ++ t) (groups-snoc forms gs f g fit.1) ∙ sym (append_assoc (elements_of_group y x) (elements_of_groups forms gs) (elements_of_group f g))

map-snoc : (gs : List Group) (g : Group) → map (λ (g : Group). g.number) (gs ++ g ∷ []) ≡ map (λ (g : Group). g.number) gs ++ g.number ∷ []
map-snoc [] g = refl
map-snoc (x ∷ gs) g = ap (λ t. x.number ∷ t) (map-snoc gs g)

valid-snoc : (format : Format) (picture : Picture) (g : Group) → IsValidSoFar format picture → length picture.groups < group_count format → g.number ≡ number_due format picture → IsValidGroup format g → IsValidSoFar format (with_group picture g)
valid-snoc format picture g valid few number ok =
    let size : length (picture.groups ++ g ∷ []) ≡ length picture.groups + 1 = length-append picture.groups (g ∷ []) in
    record {
      tr = valid.tr;
      numbers = map-snoc picture.groups g ∙ (ap (λ t. t ++ g.number ∷ []) valid.numbers
          ∙ (ap (λ n. take (length picture.groups) (group_numbers format) ++ n ∷ []) number
          ∙ (sym (take_more (group_numbers format) (length picture.groups) 0 few) ∙ ap (λ k. take k (group_numbers format)) (sym size))));
      groups = All-push (IsValidGroup format) picture.groups g valid.groups ok;
    }

one_more_group : (format : Format) (picture : Picture) (es more : List Element) (f : GroupForm) (g : Group) → IsPictureSoFar format picture es → length picture.groups < group_count format → g.number ≡ number_due format picture → IsValidGroup format g → GroupFits f g → more ≡ elements_of_group f g → IsPictureSoFar format (with_group picture g) (es ++ more)
one_more_group format picture es more f g p few number ok fit is = record {
  free = p.free;
  spares = p.spares;
  forms = p.forms ++ f ∷ [];
  fits = fits-snoc p.forms picture.groups f g p.fits fit;
  elements = ap (λ t. t ++ more) p.elements ∙ (append_assoc (elements_of_header format p.free p.spares picture.tr) (elements_of_groups p.forms picture.groups) more
      ∙ ap (λ t. elements_of_header format p.free p.spares picture.tr ++ t) (ap (λ t. elements_of_groups p.forms picture.groups ++ t) is ∙ sym (groups-snoc p.forms picture.groups f g p.fits)));
  valid = valid-snoc format picture g p.valid few number ok;
}

pub group-left-out : GroupIsLeftOut
group-left-out format picture es p few =
    let ok : IsValidGroup format (group_with (number_due format picture) 1 []) = record { quant = (omega arith, omega arith); addresses = tt; macroblocks = All-nil (IsValidMacroblock format (number_due format picture)) } in
    subst (λ t. IsPictureSoFar format (with_group picture (group_with (number_due format picture) 1 [])) t) (append-nil es) (one_more_group format picture es [] LeftOut (group_with (number_due format picture) 1 []) p few refl ok (refl, refl) refl)

pub group-sent : GroupIsSent
group-sent format picture es quant ms more p few g =
    one_more_group format picture es more (Sent g.spares g.stuffings g.behind) (group_with (number_due format picture) quant ms) p few refl g.valid tt g.elements

same_tr : (a b : ℕ) (xs ys : List Element) → Psc ∷ (Tr a ∷ xs) ≡ Psc ∷ (Tr b ∷ ys) → a ≡ b
same_tr a b xs ys h = cc

header_begun : (format : Format) (tr : ℕ) (es : List Element) → (h : ReadsHeader format es) → h.rest ≡ [] → h.tr ≡ tr → IsPictureSoFar format (record { tr = tr; groups = [] }) es
header_begun format tr es h none same = record {
  free = h.free;
  spares = h.spares;
  forms = [];
  fits = tt;
  elements = h.is ∙ (ap (λ t. elements_of_header format h.free h.spares h.tr ++ t) none ∙ ap (λ k. elements_of_header format h.free h.spares k ++ []) same);
  valid = record { tr = omega (arith, h.fits, same); numbers = refl; groups = All-nil (IsValidGroup format) };
}

pub header-begins : HeaderBegins
header-begins format r end tr ptype es goes inside at =
    let all = rest_of format [] r end (Psc ∷ (Tr tr ∷ (Ptype ptype ∷ es))) goes (ap may_end at) in
    let h = read_header format (Psc ∷ (Tr tr ∷ (Ptype ptype ∷ es))) all in
    let left = rest-after format [] (Psc ∷ (Tr tr ∷ (Ptype ptype ∷ es))) (elements_of_header format h.free h.spares h.tr) h.rest all h.is in
    let none = no_group format (after [] (elements_of_header format h.free h.spares h.tr)) h.rest (header_slot format h.free h.spares h.tr h.fits) left (inside-right (elements_of_header format h.free h.spares h.tr) h.rest (subst AreInside h.is inside)) in
    header_begun format tr (Psc ∷ (Tr tr ∷ (Ptype ptype ∷ es))) h none (sym (same_tr tr h.tr _ _ h.is))

pub picture-told : PictureIsTold
picture-told format picture es p whole = (record { so_far = p.valid; whole = whole }, (record { free = p.free; spares = p.spares; groups = p.forms; zeros = 0 }, p.fits, p.elements))

pub picture-accepted : PictureIsAccepted
picture-accepted format picture bits es p whole reads =
    let told = picture-told format picture es p whole in
    let w = walk-record format bits es reads in
    subst (λ p. Accepts format bits p) (told-one format es w.0 picture w.1 w.2.1.valid told.1 told.0) w.2

-- ---- inside

inside_slot : (s : Slot) (e : Element) → Takes s e → AreInside (e ∷ []) → may_end s ≡ false
inside_slot AtGroup e t h = absurd (subst (λ x. AreInside (x ∷ [])) t h)
inside_slot AtMacroblock e t h = elim t [
  | inl a ↦ absurd (subst (λ x. AreInside (x ∷ [])) a.2 h)
  | inr a ↦ elim a [
    | inl b ↦ absurd (subst (λ x. AreInside (x ∷ [])) b h)
    | inr b ↦ absurd (subst (λ x. AreInside (x ∷ [])) b h)
  ]
]
inside_slot _ e t h = refl

inside_head : (e : Element) (es : List Element) → AreInside (e ∷ es) → AreInside (e ∷ []) × AreInside es
inside_head Gbsc es h = absurd h
inside_head Stuffing es h = absurd h
inside_head (Mba n) es h = absurd h
inside_head _ es h = (tt, h)

chain_inside : (format : Format) (before es : List Element) → Chain format before es → AreInside es → StandInside before es
chain_inside format before [] chain inside = tt
chain_inside format before (e ∷ es) chain inside =
    let both = inside_head e es inside in
    (inside_slot (slot before) e chain.0.takes both.0, chain_inside format (e ∷ before) es chain.1 both.1)

pub inside-stands : InsideStands
inside-stands format before r end es goes inside = chain_inside format before es (goes-walk format before r es end goes).chain inside
