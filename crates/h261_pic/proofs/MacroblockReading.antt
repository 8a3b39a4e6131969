-- A macroblock that was read joins its group, with its mark.
use Rattle.std.proofs.Common.{◌≡◌, ℕ, ◌+◌, ◌-◌, ◌<◌, ◌≤◌, Bool, ℤ, List, [], ◌∷◌, ◌++◌, length, take, drop, Option, None, Some, sym, ◌∙◌, ap, subst, arith, length-append, length-drop}
use Rattle.std.proofs.lemmas.List.Elements.{All-push}
use Rattle.std.proofs.Math.Seq.{take-append_seam}
use Rattle.pel_model.specs.declared.Format.{Format}
use Rattle.pel_model.specs.declared.Mark.{Mark}
use Rattle.pel_model.specs.declared.MbKind.{MbKind}
use Rattle.pel_model.specs.declared.MbKind.TheVariants.{Intra}
use Rattle.pel_model.specs.Codes.{is_intra}
use Rattle.pel_model.specs.Marks.{mark_of, macroblock_marks}
use Rattle.pel_model.specs.Records.{Across, Down, Macroblock, quantiser_after, quantiser_behind}
use Rattle.pel_model.specs.Text.{macroblock_text, macroblocks_text}
use Rattle.pel_model.specs.Valid.{limit}
use Rattle.pel_model.specs.Walk.{after, Goes}
use Rattle.pel_model.specs.Elements.{elements_behind_mba, macroblock_elements}
use Rattle.pel_model.proofs.InsideElements.{inside-macroblock}
use Rattle.pel_model.specs.Grammar.{Element, Mba, Mtype, slot, begun, counted, next, next_within_limit}
use Rattle.pel_model.proofs.Walks.{goes-append, after-append}
use Rattle.picture_laws.specs.SoFar.{IsJoined, last_sent}
use Rattle.picture_laws.specs.PictureElements as by_record
use Rattle.picture_laws.proofs.Chains.{goes-walk, words, word_in, next-is}
use Rattle.picture_laws.proofs.Joins.{macroblock-joins}
use Rattle.picture_laws.proofs.Limits.{goes-next, goes-within}
use Rattle.picture_laws.proofs.Longs.{word-some}
use Rattle.h261_mb.specs.declared.state.MbState.{MbState}
use Rattle.h261_mb.specs.State.{Stands, IsRead}
use Rattle.h261_pic.specs.Coded.{placed}
use Rattle.h261_pic.proofs.HeadersInside.{begun-inside}
use Rattle.h261_pic.proofs.PlacedMarks.{bits_at-push, placed-push}
use Rattle.h261_pic.proofs.GroupReading.{GroupSoFar, walk-place}
use Rattle.h261_pic.specs.Adding.{bits_at}

-- ---- its mark

marks-more : (at number quant : ℕ) (last : Option Macroblock) (ms : List Macroblock) (m : Macroblock) → macroblock_marks at number quant last (ms ++ m ∷ []) ≡ macroblock_marks at number quant last ms ++ mark_of (at + length (macroblocks_text last ms)) number (quantiser_behind quant ms) (last_sent last ms) m ∷ []
unfolding macroblocks_text
marks-more at number quant last [] m = ap (λ (k : ℕ). mark_of k number quant last m ∷ []) (omega arith)
marks-more at number quant last (x ∷ ms) m =
    let behind : at + length (macroblock_text last x) + length (macroblocks_text (Some x) ms) ≡ at + length (macroblock_text last x ++ macroblocks_text (Some x) ms) = omega (arith, length-append (macroblock_text last x) (macroblocks_text (Some x) ms)) in
    ap (λ (t : List Mark). mark_of at number quant last x ∷ t)
    (marks-more (at + length (macroblock_text last x)) number (quantiser_after quant x.mquant) (Some x) ms m
    ∙ ap (λ (k : ℕ). macroblock_marks (at + length (macroblock_text last x)) number (quantiser_after quant x.mquant) (Some x) ms ++ mark_of k number (quantiser_behind (quantiser_after quant x.mquant) ms) (last_sent (Some x) ms) m ∷ []) behind)

abbrev made : (at len group address quant : ℕ) → (h v : ℤ) → Bool → Mark
made at len group address quant h v intra = record { at = at; len = len; group = group; address = address; quant_after = quant; h_after = h; v_after = v; intra = intra }

-- the mark of the macroblock that joined, placed behind the others
joined_mark : (at number from end : ℕ) (state : MbState) (mark : Mark) (intra : Bool) (quant : ℕ) (last : Option Macroblock) (p : Macroblock) → mark ≡ made from (end - from) number state.address state.quant state.h state.v intra → end - from ≡ length (macroblock_text last p) → state.address ≡ p.address → state.quant ≡ quantiser_after quant p.mquant → state.h ≡ p.across → state.v ≡ p.down → intra ≡ is_intra p.kind → record mark { at = at; group = number } ≡ mark_of at number quant last p
joined_mark at number from end state mark intra quant last p is len address q h v i =
    ap (λ (m : Mark). record m { at = at; group = number }) is ∙ cc

-- ---- it moves on, from its MBA

goes_on : (format : Format) (before : List Element) (r end : List Bool × ℕ) (d : ℕ) (es : List Element) → Goes (next format) before r (Mba d ∷ es) end → r.1 < end.1
goes_on format before r end d es goes =
    let w = goes-walk format before r (Mba d ∷ es) end goes in
    let takes = (next-is format before r (Mba d) goes.0 goes.1).0.takes in
    let some = word-some (slot before) (Mba d) takes in
    omega (arith, w.place, some, length-append (word_in before (Mba d)) (words (Mba d ∷ before) es))

pub macroblock-on : (format : Format) (before : List Element) (r new : List Bool × ℕ) (number : ℕ) (state : MbState) (mark : Mark) (es : List Element) → Goes (next_within_limit format) before r es new → IsRead number r.1 before state mark es new → r.1 < new.1
macroblock-on format before r new number state mark es goes is =
    goes_on format before r new is.difference (elements_behind_mba is.across is.down is.macroblock) (goes-next format before r (Mba is.difference ∷ elements_behind_mba is.across is.down is.macroblock) new (subst (λ (x : List Element). Goes (next_within_limit format) before r x new) is.elements goes))

-- ---- the group with it

kind_in : List Element → MbKind
kind_in (Mba n ∷ Mtype k ∷ es) = k
kind_in _ = Intra

same_kind : (d : ℕ) (across down : ℤ × ℤ) (m p : Macroblock) (last : Option Macroblock) → macroblock_elements d across down m ≡ by_record.elements_of_macroblock last p → m.kind ≡ p.kind
unfolding kind_in
same_kind d across down m p last is = ap kind_in is

pub macroblock-read : (format : Format) (bits : List Bool) (groups : ℕ) (before : List Element) (from r new : List Bool × ℕ) (number quant : ℕ) (state state' : MbState) (marks : List Mark) (mark : Mark) (es : List Element) → (s : GroupSoFar format bits groups before from number quant state marks r) → from.0 ≡ drop from.1 bits → Goes (next_within_limit format) (after before s.es) r es new → IsRead number r.1 (after before s.es) state' mark es new → GroupSoFar format bits groups before from number quant state' (marks ++ mark ∷ []) new
macroblock-read format bits groups before from r new number quant state state' marks mark es s place goes is =
    let more : List Element = Mba is.difference ∷ elements_behind_mba is.across is.down is.macroblock in
    let there : List Element = after before s.es in
    let walk : Goes (next_within_limit format) there r more new = subst (λ (x : List Element). Goes (next_within_limit format) there r x new) is.elements goes in
    let plain = goes-next format there r more new walk in
    let stands : Stands number state' (after there more) = subst (λ (x : List Element). Stands number state' (after there x)) is.elements is.stands in
    let j : IsJoined format before number quant s.macroblocks s.es more r new = macroblock-joins format before number quant s.macroblocks s.es r new is.difference (elements_behind_mba is.across is.down is.macroblock) s.so_far plain (inside-macroblock is.across is.down is.macroblock) stands.due in
    let m : Macroblock = j.macroblock in
    let text : List Bool = macroblock_text (last_sent None s.macroblocks) m in
    let w = goes-walk format there r more new plain in
    let on = goes_on format there r new is.difference (elements_behind_mba is.across is.down is.macroblock) plain in
    let here : r.0 ≡ drop r.1 bits = walk-place format bits before from r s.es s.walk place in
    let size : new.1 - r.1 ≡ length text = omega (arith, w.place, ap length w.bits, ap length j.bits, length-append (words there more) new.0, length-append text new.0) in
    let taken : take (new.1 - r.1) (drop r.1 bits) ≡ text = ap (λ (k : ℕ). take k (drop r.1 bits)) size ∙ (ap (take (length text)) (sym here ∙ j.bits) ∙ take-append_seam text new.0) in
    let kind_is : is.macroblock.kind ≡ m.kind = same_kind is.difference is.across is.down is.macroblock m (last_sent None s.macroblocks) j.elements in
    let quant_is : state'.quant ≡ quantiser_after (quantiser_behind quant s.macroblocks) m.mquant = sym stands.say.quant_is ∙ (j.quant_is ∙ ap (λ (q : ℕ). quantiser_after q m.mquant) s.so_far.quant_is) in
    let marked : (at : ℕ) → record mark { at = at; group = number } ≡ mark_of at number (quantiser_behind quant s.macroblocks) (last_sent None s.macroblocks) m = λ at.
    joined_mark at number r.1 new.1 state' mark (is_intra is.macroblock.kind) (quantiser_behind quant s.macroblocks) (last_sent None s.macroblocks) m is.mark_is size (sym stands.say.address_is ∙ j.address_is) quant_is (sym stands.say.across_is ∙ j.vector_is Across) (sym stands.say.down_is ∙ j.vector_is Down) (ap is_intra kind_is) in
    let mark_at : mark.at ≡ r.1 = ap (λ (k : Mark). k.at) is.mark_is in
    let mark_len : mark.len ≡ new.1 - r.1 = ap (λ (k : Mark). k.len) is.mark_is in
    let all_text : length (macroblocks_text None (s.macroblocks ++ m ∷ [])) ≡ length (macroblocks_text None s.macroblocks) + length text = ap length j.text ∙ length-append (macroblocks_text None s.macroblocks) text in
    let behind : after there more ≡ after before (s.es ++ more) = sym (after-append before s.es more) in
    record {
      macroblocks = s.macroblocks ++ m ∷ [];
      es = s.es ++ more;
      walk = goes-append (next_within_limit format) before from r new s.es more s.walk walk;
      so_far = j.so_far;
      stands = subst (Stands number state') behind stands;
      begun_is = ap begun (sym behind) ∙ (begun-inside (Mba is.difference ∷ there) (elements_behind_mba is.across is.down is.macroblock) (inside-macroblock is.across is.down is.macroblock) ∙ s.begun_is);
      fits = subst (λ (b : List Element). counted format b new.1 ≤ limit format) behind (goes-within format there r more new walk s.fits);
      bits_are = bits_at-push bits marks mark ∙ (ap (λ (t : List Bool). bits_at bits marks ++ t) (ap (λ (k : ℕ). take mark.len (drop k bits)) mark_at ∙ (ap (λ (k : ℕ). take k (drop r.1 bits)) mark_len ∙ taken)) ∙ (ap (λ (t : List Bool). t ++ text) s.bits_are ∙ sym j.text));
      marks_are = λ at.
          placed-push bits at number marks mark s.inside
          ∙ (ap (λ (t : List Bool). placed at number marks ++ record mark { at = at + length t; group = number } ∷ []) s.bits_are
          ∙ (ap (λ (t : List Mark). t ++ record mark { at = at + length (macroblocks_text None s.macroblocks); group = number } ∷ []) (s.marks_are at)
          ∙ (ap (λ (k : Mark). macroblock_marks at number quant None s.macroblocks ++ k ∷ []) (marked (at + length (macroblocks_text None s.macroblocks)))
          ∙ sym (marks-more at number quant None s.macroblocks m))));
      inside = All-push (λ (m : Mark). m.at + m.len ≤ length bits) marks mark s.inside (omega (arith, mark_at, mark_len, size, on, ap length here, ap length j.bits, length-append text new.0, length-drop r.1 bits));
      count = length-append marks (mark ∷ []) ∙ (ap (λ (k : ℕ). k + 1) s.count ∙ sym (length-append s.macroblocks (m ∷ [])));
      long = omega (arith, s.long, size, on, all_text);
    }
