-- A group as far as it was read: its header, then stuffing and macroblocks one by one, with their marks.
use Rattle.std.proofs.Common.{◌≡◌, ℕ, ◌+◌, ◌-◌, ◌*◌, ◌<◌, ◌≤◌, Bool, pos, List, [], ◌∷◌, ◌++◌, length, drop, None, refl, sym, ◌∙◌, ap, subst, arith, length-append}
use Rattle.std.proofs.lemmas.List.{drop-drop}
use Rattle.std.proofs.lemmas.List.Elements.{All-nil}
use Rattle.pel_model.specs.declared.Format.{Format}
use Rattle.pel_model.specs.declared.Format.TheVariants.{Qcif, Cif}
use Rattle.pel_model.specs.declared.Mark.{Mark}
use Rattle.pel_model.specs.Marks.{macroblock_marks}
use Rattle.pel_model.specs.Records.{Across, Down, Macroblock}
use Rattle.pel_model.specs.Text.{macroblocks_text}
use Rattle.pel_model.specs.Valid.{group_count, limit}
use Rattle.pel_model.specs.Walk.{Good, skipped, after, Goes}
use Rattle.pel_model.specs.Grammar.{Element, Gbsc, Gn, Gquant, Stuffing, Slot, AtMacroblock, slot, begun, counted, next_within_limit}
use Rattle.pel_model.proofs.Walks.{after-append, goes_more}
use Rattle.picture_laws.specs.SoFar.{IsGroupSoFar}
use Rattle.picture_laws.proofs.Chains.{goes-walk, words, next-is}
use Rattle.picture_laws.proofs.Joins.{group-begins, stuffing-joins}
use Rattle.picture_laws.proofs.Limits.{goes-next, goes-within, picture-next}
use Rattle.picture_laws.proofs.Slots.{word_at}
use Rattle.h261_mb.specs.declared.state.MbState.{MbState}
use Rattle.h261_mb.specs.State.{Stands, IsReady}
use Rattle.std.proofs.lemmas.Int.{ints}
use Rattle.h261_pic.specs.Coded.{placed}
use Rattle.h261_pic.specs.HeaderElements.{OfGroup, spares_of, group_header_elements}
use Rattle.h261_pic.specs.Reached.{EndsAt}
use Rattle.h261_pic.specs.ReadGroup.{GroupComes}
use Rattle.h261_pic.proofs.HeaderLengths.{group_header_long}
use Rattle.h261_pic.proofs.HeadersInside.{inside-spares, slot-spares, begun-inside}
use Rattle.picture_laws.proofs.LongestMacroblocks.{few_addresses}
use Rattle.h261_pic.proofs.PlacedMarks.{LieWithin}
use Rattle.h261_pic.proofs.Texts.{nothing_sent}
use Rattle.h261_pic.specs.Adding.{bits_at}

-- ---- places of a walk

-- the end of a walk stands among the same bits
pub walk-place : (format : Format) (bits : List Bool) (before : List Element) (r end : List Bool × ℕ) (es : List Element) → Goes (next_within_limit format) before r es end → r.0 ≡ drop r.1 bits → end.0 ≡ drop end.1 bits
walk-place format bits before r end [] goes at = subst (λ (x : List Bool × ℕ). x.0 ≡ drop x.1 bits) (sym goes) at
walk-place format bits before r end (e ∷ es) goes at =
    walk-place format bits (e ∷ before) (skipped goes.0 r) end es goes.2 (ap (drop goes.0) at ∙ drop-drop goes.0 r.1 bits)

-- the place at which elements behind these may end
pub ends-at : (format : Format) (before : List Element) (n : ℕ) → begun before ≡ n → EndsAt format before (limit format - 26 * (group_count format - n))
ends-at Qcif before n is = omega (arith, is)
ends-at Cif before n is = omega (arith, is)

pub within-end : (format : Format) (before : List Element) (place n : ℕ) → begun before ≡ n → counted format before place ≤ limit format → place ≤ limit format - 26 * (group_count format - n)
within-end format before place n is fits = omega (arith, is, fits, ap (λ (k : ℕ). 26 * (group_count format - k)) is)

-- ---- the group so far

pub record GroupSoFar (format : Format) (bits : List Bool) (groups : ℕ) (before : List Element) (from : List Bool × ℕ) (number quant : ℕ) (state : MbState) (marks : List Mark) (r : List Bool × ℕ) : Type 0 where
  pub macroblocks : List Macroblock
  pub es : List Element
  pub walk : Goes (next_within_limit format) before from es r
  pub so_far : IsGroupSoFar format before number quant macroblocks es
  pub stands : Stands number state (after before es)
  pub begun_is : begun (after before es) ≡ groups
  pub fits : counted format (after before es) r.1 ≤ limit format
  pub bits_are : bits_at bits marks ≡ macroblocks_text None macroblocks
  pub marks_are : (at : ℕ) → placed at number marks ≡ macroblock_marks at number quant None macroblocks
  pub inside : LieWithin (length bits) marks
  pub count : length marks ≡ length macroblocks
  pub long : from.1 + 26 + length (macroblocks_text None macroblocks) ≤ r.1

-- ---- the header

-- the state of a beginning
abbrev pub at_first : ℕ → MbState
at_first quant = record { address = 0; quant = quant; h = pos 0; v = pos 0 }

-- the header was read
pub header-read : (format : Format) (bits : List Bool) (last groups : ℕ) (before : List Element) (from r0 r : List Bool × ℕ) (number quant : ℕ) (es : List Element) (spares : List ℕ) → GroupComes format bits last groups before from r0 → Goes (next_within_limit format) (Gbsc ∷ before) r0 es r → es ≡ group_header_elements number quant spares → GroupSoFar format bits groups before from number quant (at_first quant) [] r
header-read format bits last groups before from r0 r number quant es spares comes goes is =
    let all : List Element = Gbsc ∷ group_header_elements number quant spares in
    let behind : Goes (next_within_limit format) (Gbsc ∷ before) (skipped comes.size from) (group_header_elements number quant spares) r =
    subst (λ (x : List Element). Goes (next_within_limit format) (Gbsc ∷ before) (skipped comes.size from) x r) is (subst (λ (x : List Bool × ℕ). Goes (next_within_limit format) (Gbsc ∷ before) x es r) comes.behind goes) in
    let walk : Goes (next_within_limit format) before from all r = (comes.size, comes.starts, behind) in
    let plain = goes-next format before from all r walk in
    let begins = group-begins format before from r number quant (spares_of OfGroup spares) plain (inside-spares OfGroup spares) (slot-spares OfGroup (Gquant quant ∷ Gn number ∷ Gbsc ∷ before) spares) in
    record {
      macroblocks = [];
      es = all;
      walk = walk;
      so_far = begins;
      stands = record {
        due = begins.place.at;
        say = record {
          number_is = begins.place.group_is;
          address_is = begins.place.address_is;
          quant_is = begins.quant_is;
          across_is = begins.place.vector_is Across;
          down_is = begins.place.vector_is Down;
        };
      };
      begun_is = begun-inside (Gquant quant ∷ Gn number ∷ Gbsc ∷ before) (spares_of OfGroup spares) (inside-spares OfGroup spares) ∙ comes.begun_is;
      fits = goes-within format (Gbsc ∷ before) (skipped comes.size from) (group_header_elements number quant spares) r behind (picture-next format before from Gbsc comes.size comes.starts).1;
      bits_are = nothing_sent;
      marks_are = λ at. refl;
      inside = All-nil (λ (m : Mark). m.at + m.len ≤ length bits);
      count = refl;
      long = omega (arith, group_header_long format before from r number quant spares comes.due plain, ap length nothing_sent);
    }

-- stuffing was read
pub stuffing-read : (format : Format) (bits : List Bool) (groups : ℕ) (before : List Element) (from r : List Bool × ℕ) (number quant : ℕ) (state : MbState) (marks : List Mark) (n : ℕ) → (s : GroupSoFar format bits groups before from number quant state marks r) → next_within_limit format (after before s.es) r ≡ Good Stuffing n → GroupSoFar format bits groups before from number quant state marks (skipped n r)
stuffing-read format bits groups before from r number quant state marks n s step =
    let behind : Stuffing ∷ after before s.es ≡ after before (s.es ++ Stuffing ∷ []) = sym (after-append before s.es (Stuffing ∷ [])) in
    let stands : Stands number state (Stuffing ∷ after before s.es) = record { due = refl; say = record { number_is = s.stands.say.number_is; address_is = s.stands.say.address_is; quant_is = s.stands.say.quant_is; across_is = s.stands.say.across_is; down_is = s.stands.say.down_is } } in
    record {
      macroblocks = s.macroblocks;
      es = s.es ++ Stuffing ∷ [];
      walk = goes_more (next_within_limit format) before from r s.es Stuffing n s.walk step;
      so_far = stuffing-joins format before number quant s.macroblocks s.es s.so_far;
      stands = subst (Stands number state) behind stands;
      begun_is = ap begun (sym behind) ∙ s.begun_is;
      fits = subst (λ (b : List Element). counted format b (r.1 + n) ≤ limit format) behind (picture-next format (after before s.es) r Stuffing n step).1;
      bits_are = s.bits_are;
      marks_are = s.marks_are;
      inside = s.inside;
      count = s.count;
      long = omega (arith, s.long);
    }

-- ---- where elements may end, and faults

pub comes-ends : (format : Format) (bits : List Bool) (last groups end : ℕ) (before : List Element) (from r : List Bool × ℕ) → GroupComes format bits last groups before from r → end ≡ limit format - 26 * (group_count format - groups) → EndsAt format (Gbsc ∷ before) end × (r.1 ≤ end)
comes-ends format bits last groups end before from r comes is =
    let fits = (picture-next format before from Gbsc comes.size comes.starts).1 in
    let place : r.1 ≡ from.1 + comes.size = ap (λ (x : List Bool × ℕ). x.1) comes.behind in
    (subst (EndsAt format (Gbsc ∷ before)) (sym is) (ends-at format (Gbsc ∷ before) groups comes.begun_is), omega (arith, place, is, within-end format (Gbsc ∷ before) (from.1 + comes.size) groups comes.begun_is fits))

pub group-ends : (format : Format) (bits : List Bool) (groups end : ℕ) (before : List Element) (from : List Bool × ℕ) (number quant : ℕ) (state : MbState) (marks : List Mark) (r : List Bool × ℕ) → (s : GroupSoFar format bits groups before from number quant state marks r) → end ≡ limit format - 26 * (group_count format - groups) → EndsAt format (after before s.es) end × (r.1 ≤ end)
group-ends format bits groups end before from number quant state marks r s is =
    (subst (EndsAt format (after before s.es)) (sym is) (ends-at format (after before s.es) groups s.begun_is), omega (arith, is, within-end format (after before s.es) r.1 groups s.begun_is s.fits))

-- a fault in the header
pub header-fails : (format : Format) (bits : List Bool) (last groups : ℕ) (before : List Element) (from r end : List Bool × ℕ) (es : List Element) → (comes : GroupComes format bits last groups before from r) → Goes (next_within_limit format) (Gbsc ∷ before) r es end → Goes (next_within_limit format) before from (Gbsc ∷ es) end
header-fails format bits last groups before from r end es comes goes =
    (comes.size, comes.starts, subst (λ (x : List Bool × ℕ). Goes (next_within_limit format) (Gbsc ∷ before) x es end) comes.behind goes)

pub at-most : (format : Format) (bits : List Bool) (groups : ℕ) (before : List Element) (from : List Bool × ℕ) (number quant : ℕ) (state : MbState) (marks : List Mark) (r : List Bool × ℕ) → GroupSoFar format bits groups before from number quant state marks r → length marks ≤ 33
at-most format bits groups before from number quant state marks r s = omega (arith, s.count, few_addresses 0 s.macroblocks (omega arith) s.so_far.valid.addresses)

-- a walk on takes bits
pub fewer : (format : Format) (before : List Element) (r end : List Bool × ℕ) (es : List Element) → Goes (next_within_limit format) before r es end → r.1 < end.1 → length end.0 < length r.0
fewer format before r end es goes on =
    let w = goes-walk format before r es end (goes-next format before r es end goes) in
    omega (arith, w.place, on, ap length w.bits, length-append (words before es) end.0)

pub stuffing-on : (format : Format) (before : List Element) (r : List Bool × ℕ) (n : ℕ) → next_within_limit format before r ≡ Good Stuffing n → slot before ≡ AtMacroblock → 0 < n
stuffing-on format before r n step due =
    let w = (next-is format before r Stuffing n (picture-next format before r Stuffing n step).0).1 in
    let long : length (word_at (slot before) Stuffing) ≡ 11 = ap (λ (s : Slot). length (word_at s Stuffing)) due in
    omega (arith, w.size, long)

pub ready-first : (quant : ℕ) → IsReady (at_first quant)
ready-first quant = record {
  address = omega arith;
  across = (omega (arith, ints), omega (arith, ints));
  down = (omega (arith, ints), omega (arith, ints));
}
