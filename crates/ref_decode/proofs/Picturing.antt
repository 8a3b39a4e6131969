-- The groups of a picture are read and drawn one by one.
use Rattle.std.proofs.Common.{◌≡◌, ℕ, ◌+◌, ◌<◌, Bool, false, if◌then◌else◌, List, [], ◌∷◌, ◌++◌, length, map, drop, Some, None, All, nat_lt, refl, sym, ◌∙◌, ap, ap₂, subst, append_assoc, append-nil, arith}
use Rattle.std.specs.Prelude.{slice_get, slice_index}
use Rattle.std.specs.List.{flat_map}
use Rattle.std.proofs.lemmas.Bool.{cond-false, le-ltb, ne_eqb}
use Rattle.std.proofs.lemmas.List.{length-append, drop_at, take_all}
use Rattle.std.proofs.lemmas.List.Elements.{All-head, All-tail}
use Rattle.pel_model.specs.declared.Format.{Format}
use Rattle.pel_model.specs.declared.Format.TheVariants.{Qcif, Cif}
use Rattle.pel_model.specs.Records.{Group, Picture}
use Rattle.pel_model.specs.Text.{group_text, group_header, picture_header, macroblocks_text}
use Rattle.pel_model.specs.Valid.{IsValidGroup, IsValid, group_numbers, group_count}
use Rattle.pel_model.specs.Walk.{skipped}
use Rattle.picture_laws.proofs.TextProofs.{texts-lengths}
use Rattle.h261_pic.specs.declared.coded.GroupView.{GroupView}
use Rattle.h261_pic.specs.Coded.{Coding, coding, views}
use Rattle.ref_decode.specs.Drawing.{GroupDrawn, GroupsDrawn}
use Rattle.ref_decode.proofs.Looking.{NoneIs, no_groups, group_more}

-- ---- headers

-- a header of so many bits is passed
pub passed : (header rest : List Bool) (width : ℕ) (r : List Bool × ℕ) → r.0 ≡ header ++ rest → length header ≡ width → (if nat_lt (length r.0) width then r else skipped width r).0 ≡ rest
passed header rest width r bits long =
    let enough : nat_lt (length r.0) width ≡ false = le-ltb (length r.0) width (omega (arith, ap length bits, length-append header rest, long)) in
    ap (λ (x : List Bool × ℕ). x.0) (cond-false (nat_lt (length r.0) width) r (skipped width r) enough)
    ∙ (ap (drop width) bits ∙ drop_at header rest width long)

-- ---- numbers

Rising : ℕ → List ℕ → Type 0
Rising low [] = Unit {0}
Rising low (n ∷ ns) = (low < n) × Rising n ns

numbers_rise : (format : Format) → Rising 0 (group_numbers format)
unfolding Rising
numbers_rise Qcif = (omega arith, (omega arith, (omega arith, tt)))
numbers_rise Cif = (omega arith, (omega arith, (omega arith, (omega arith, (omega arith, (omega arith, (omega arith, (omega arith, (omega arith, (omega arith, (omega arith, (omega arith, tt))))))))))))

abbrev number_of : Group → ℕ
number_of g = g.number

above : (low : ℕ) (done : List Group) (g : Group) (gs : List Group) → Rising low (map number_of (done ++ g ∷ gs)) → low < g.number
unfolding Rising
above low [] g gs h = h.0
above low (x ∷ done) g gs h = omega (arith, h.0, above x.number done g gs h.1)

none_before : (low : ℕ) (done : List Group) (g : Group) (gs : List Group) → Rising low (map number_of (done ++ g ∷ gs)) → NoneIs g.number done
unfolding Rising
none_before low [] g gs h = tt
none_before low (x ∷ done) g gs h =
    (ne_eqb x.number g.number (λ e. omega (arith, e, above x.number done g gs h.1)), none_before x.number done g gs h.1)

numbers_are : (format : Format) (p : Picture) → IsValid format p → map number_of p.groups ≡ group_numbers format
numbers_are format p valid =
    valid.so_far.numbers ∙ take_all (length p.groups) (group_numbers format) (omega (arith, valid.whole))

index_at : (done : List Group) (g : Group) (gs : List Group) → slice_index (map number_of (done ++ g ∷ gs)) (length done) ≡ g.number
index_at [] g gs = refl
index_at (x ∷ done) g gs = index_at done g gs

-- ---- views

pub record IsViewOf (g : Group) (view : GroupView) : Type 0 where
  pub quant_is : view.quant ≡ g.quant
  pub marks_is : view.marks ≡ length g.macroblocks

some_same : {A : Type 0} {x y : A} → Some x ≡ Some y → x ≡ y
some_same e = cc

view_at : (at before : ℕ) (done : List Group) (g : Group) (gs : List Group) (view : GroupView) → slice_get (views at before (done ++ g ∷ gs)) (length done) ≡ Some view → IsViewOf g view
view_at at before [] g gs view is = subst (IsViewOf g) (some_same is) (record { quant_is = refl; marks_is = refl })
view_at at before (x ∷ done) g gs view is = view_at (at + length (group_text x)) (before + length x.macroblocks) done g gs view is

-- ---- the groups that were drawn, and those to come

pub record PictureSoFar (format : Format) (p : Picture) (count : ℕ) (r : List Bool × ℕ) (shown old new : List ℕ) : Type 0 where
  pub done : List Group
  pub left : List Group
  pub parts : p.groups ≡ done ++ left
  pub many : length done ≡ count
  pub bits : r.0 ≡ flat_map group_text left
  pub drawn : GroupsDrawn format done shown old new

pub nothing_so_far : (format : Format) (p : Picture) (r : List Bool × ℕ) (shown old : List ℕ) → r.0 ≡ flat_map group_text p.groups → PictureSoFar format p 0 r shown old old
nothing_so_far format p r shown old bits = record { done = []; left = p.groups; parts = refl; many = refl; bits = bits; drawn = no_groups format shown old }

-- the next group
pub record GroupNext (format : Format) (p : Picture) (count : ℕ) (so_far_left done : List Group) : Type 0 where
  pub g : Group
  pub gs : List Group
  pub is : so_far_left ≡ g ∷ gs
  pub valid : IsValidGroup format g
  pub number_is : slice_index (group_numbers format) count ≡ g.number
  pub apart : NoneIs g.number done

all_right : (P : Group → Type 0) (done : List Group) (g : Group) (gs : List Group) → All P (done ++ g ∷ gs) → P g
all_right P [] g gs h = All-head P g gs h
all_right P (x ∷ done) g gs h = all_right P done g gs (All-tail P x (done ++ g ∷ gs) h)

group_next : (format : Format) (p : Picture) (count : ℕ) (done left : List Group) → IsValid format p → p.groups ≡ done ++ left → length done ≡ count → count < group_count format → GroupNext format p count left done
group_next format p count done [] valid parts many few =
    absurd (omega (arith, ap length parts, length-append done [], many, few, valid.whole))
group_next format p count done (g ∷ gs) valid parts many few =
    let numbers : map number_of (done ++ g ∷ gs) ≡ group_numbers format = ap (map number_of) (sym parts) ∙ numbers_are format p valid in
    record {
      g = g;
      gs = gs;
      is = refl;
      valid = all_right (IsValidGroup format) done g gs (subst (All (IsValidGroup format)) parts valid.so_far.groups);
      number_is = ap₂ slice_index (sym numbers) (sym many) ∙ index_at done g gs;
      apart = none_before 0 done g gs (subst (Rising 0) (sym numbers) (numbers_rise format));
    }

module _ (format : Format) (p : Picture) (count : ℕ) (r : List Bool × ℕ) (shown old mid : List ℕ) (valid : IsValid format p) (so_far : PictureSoFar format p count r shown old mid) (few : count < group_count format) where
  pub next_group : GroupNext format p count so_far.left so_far.done
  next_group = group_next format p count so_far.done so_far.left valid so_far.parts so_far.many few

  pub next_view : (view : GroupView) (coded : Coding) → coded ≡ coding format p → slice_get coded.groups count ≡ Some view → IsViewOf next_group.g view
  next_view view coded is at =
      view_at 32 0 so_far.done next_group.g next_group.gs view
      (ap₂ (λ (gs : List Group) (n : ℕ). slice_get (views 32 0 gs) n) (sym (so_far.parts ∙ ap (λ gs. so_far.done ++ gs) next_group.is)) so_far.many
      ∙ (ap (λ (c : Coding). slice_get c.groups count) (sym is) ∙ at))

  -- behind its header
  pub behind_header : (if nat_lt (length r.0) 26 then r else skipped 26 r).0 ≡ macroblocks_text None next_group.g.macroblocks ++ flat_map group_text next_group.gs
  behind_header =
      passed (group_header next_group.g.number next_group.g.quant) (macroblocks_text None next_group.g.macroblocks ++ flat_map group_text next_group.gs) 26 r
      (so_far.bits ∙ (ap (flat_map group_text) next_group.is ∙ append_assoc (group_header next_group.g.number next_group.g.quant) (macroblocks_text None next_group.g.macroblocks) (flat_map group_text next_group.gs)))
      (texts-lengths.of_group_header next_group.g.number next_group.g.quant)

  pub group_further : (r' : List Bool × ℕ) (new : List ℕ) → r'.0 ≡ flat_map group_text next_group.gs → GroupDrawn format next_group.g.number next_group.g.quant next_group.g.macroblocks shown mid new → PictureSoFar format p (count + 1) r' shown old new
  group_further r' new bits drawn = record {
    done = so_far.done ++ next_group.g ∷ [];
    left = next_group.gs;
    parts = so_far.parts ∙ (ap (λ gs. so_far.done ++ gs) next_group.is ∙ sym (append_assoc so_far.done (next_group.g ∷ []) next_group.gs));
    many = length-append so_far.done (next_group.g ∷ []) ∙ ap (λ n. n + 1) so_far.many;
    bits = bits;
    drawn = group_more format so_far.done next_group.g shown old mid new next_group.apart so_far.drawn drawn;
  }

-- behind the last group
pub picture_done : (format : Format) (p : Picture) (count : ℕ) (r : List Bool × ℕ) (shown old new : List ℕ) → IsValid format p → PictureSoFar format p count r shown old new → count ≡ group_count format → GroupsDrawn format p.groups shown old new
picture_done format p count r shown old new valid so_far all =
    let none : so_far.left ≡ [] = no_more so_far.left (omega (arith, ap length so_far.parts, length-append so_far.done so_far.left, so_far.many, all, valid.whole)) in
    subst (λ gs. GroupsDrawn format gs shown old new) (sym (so_far.parts ∙ (ap (λ gs. so_far.done ++ gs) none ∙ append-nil so_far.done))) so_far.drawn
  where
    no_more : (gs : List Group) → length gs ≡ 0 → gs ≡ []
    no_more [] h = refl
    no_more (g ∷ gs) h = absurd (omega (arith, h))

-- the picture's header is passed
pub behind_picture_header : (format : Format) (p : Picture) (coded : Coding) → coded ≡ coding format p → (if nat_lt (length coded.bits) 32 then (coded.bits, 0) else skipped 32 (coded.bits, 0)).0 ≡ flat_map group_text p.groups
behind_picture_header format p coded is =
    passed (picture_header format p.tr) (flat_map group_text p.groups) 32 (coded.bits, 0) (ap (λ (c : Coding). c.bits) is) (texts-lengths.of_picture_header format p.tr)
