-- A picture as far as it was read: its header, then groups that were read or left out, and the strict text of all of them.
use Rattle.std.proofs.Common.{◌≡◌, ℕ, ◌+◌, ◌-◌, ◌*◌, ◌<◌, ◌≤◌, Bool, true, false, List, [], ◌∷◌, ◌++◌, length, take, drop, slice_index, None, refl, sym, ◌∙◌, ap, subst, arith, length-append, nat_lt, inl, inr}
use Rattle.std.proofs.lemmas.Bool.{ltb-true, ltb-false, cases_Bool}
use Rattle.std.proofs.lemmas.List.{take_all}
use Rattle.pel_model.specs.declared.Format.{Format}
use Rattle.pel_model.specs.declared.Format.TheVariants.{Qcif, Cif}
use Rattle.pel_model.specs.declared.Mark.{Mark}
use Rattle.pel_model.specs.declared.Why.{Why}
use Rattle.pel_model.specs.Records.{Group, Picture, with_group}
use Rattle.pel_model.specs.Text.{text, macroblocks_text}
use Rattle.pel_model.specs.Valid.{group_numbers, group_count, limit}
use Rattle.pel_model.specs.Accepts.{Accepts}
use Rattle.pel_model.specs.Walk.{Bad, start, after, Goes, FirstFault}
use Rattle.pel_model.specs.Grammar.{Element, Psc, Tr, Ptype, Pei, Pspare, AtGroup, slot, may_end, begun, group, counted, next, next_within_limit}
use Rattle.pel_model.proofs.Walks.{goes-append, after-append}
use Rattle.picture_laws.specs.SoFar.{IsPictureSoFar, IsGroupSoFar, group_with}
use Rattle.picture_laws.specs.SoFar as law
use Rattle.picture_laws.proofs.Joins.{header-begins, group-sent, picture-accepted}
use Rattle.picture_laws.proofs.Limits.{goes-next, goes-within}
use Rattle.h261_pic.specs.Coded.{Coding, coding, grown, next_number}
use Rattle.h261_pic.specs.HeaderElements.{OfPicture, spares_of, picture_header_elements}
use Rattle.h261_pic.specs.Reached.{Follows}
use Rattle.h261_pic.specs.ReadGroup.{GroupComes, IsGroupRead}
use Rattle.h261_pic.proofs.GroupReading.{walk-place}
use Rattle.h261_pic.proofs.GrownFields.{few_groups}
use Rattle.h261_pic.proofs.HeaderLengths.{picture_header_long}
use Rattle.h261_pic.proofs.HeadersInside.{inside-spares, slot-spares, begun-inside}
use Rattle.h261_pic.proofs.Texts.{length-views, length-text, coding-with_group}
use Rattle.h261_pic.proofs.LeftOutGroups.{rising, filled, length-filled, next-same, emptied-filled, filled-so-far, length-more, length-filled_text}
use Rattle.h261_pic.specs.Adding.{emptied, bits_at, IsGroupText}

-- ---- the picture so far

pub record PictureSoFar (format : Format) (bits : List Bool) (last groups : ℕ) (another : Bool) (into : Coding) (r : List Bool × ℕ) : Type 0 where
  pub pic : Picture
  pub es : List Element
  pub mid : List Bool × ℕ
  pub walk : Goes (next_within_limit format) [] (start bits) es mid
  pub so_far : IsPictureSoFar format pic es
  pub written : into ≡ coding format pic
  pub follows : Follows (next_within_limit format (after [] es) mid) another mid r
  pub due : may_end (slot (after [] es)) ≡ true
  pub last_is : group (after [] es) ≡ last
  pub groups_are : begun (after [] es) ≡ groups
  pub fits : counted format (after [] es) mid.1 ≤ limit format
  pub passed : (i : ℕ) → i < length pic.groups → slice_index (group_numbers format) i ≤ last
  pub few : groups ≤ length pic.groups
  pub count : length pic.groups ≤ group_count format
  pub room : length (text format pic) + 26 * (group_count format - length pic.groups) ≤ mid.1 + 26 * (group_count format - groups)

-- ---- its header

group_spares : (before : List Element) (octets : List ℕ) → group (after before (spares_of OfPicture octets)) ≡ group before
group_spares before [] = refl
group_spares before (n ∷ ns) = group_spares (Pspare n ∷ Pei true ∷ before) ns

-- at the front everything is within the limit
pub fits-first : (format : Format) → counted format [] 0 ≤ limit format
fits-first Qcif = omega arith
fits-first Cif = omega arith

-- what is known behind the header
pub record HeaderRead (format : Format) (bits : List Bool) (tr : ℕ) (r : List Bool × ℕ) : Type 0 where
  pub es : List Element
  pub walk : Goes (next_within_limit format) [] (start bits) es r
  pub so_far : IsPictureSoFar format (record { tr = tr; groups = [] }) es
  pub due : slot (after [] es) ≡ AtGroup
  pub last_is : group (after [] es) ≡ 0
  pub groups_are : begun (after [] es) ≡ 0
  pub fits : counted format (after [] es) r.1 ≤ limit format
  pub long : 32 ≤ r.1

pub header-read : (format : Format) (bits : List Bool) (r : List Bool × ℕ) (tr ptype : ℕ) (spares : List ℕ) (es : List Element) → Goes (next_within_limit format) [] (start bits) es r → es ≡ picture_header_elements tr ptype spares → HeaderRead format bits tr r
header-read format bits r tr ptype spares es goes is =
    let all : List Element = picture_header_elements tr ptype spares in
    let walk : Goes (next_within_limit format) [] (start bits) all r = subst (λ (x : List Element). Goes (next_within_limit format) [] (start bits) x r) is goes in
    let plain = goes-next format [] (start bits) all r walk in
    let before : List Element = Ptype ptype ∷ Tr tr ∷ Psc ∷ [] in
    record {
      es = all;
      walk = walk;
      so_far = header-begins format (start bits) r tr ptype (spares_of OfPicture spares) plain (inside-spares OfPicture spares) (slot-spares OfPicture before spares);
      due = slot-spares OfPicture before spares;
      last_is = group_spares before spares;
      groups_are = begun-inside before (spares_of OfPicture spares) (inside-spares OfPicture spares);
      fits = goes-within format [] (start bits) all r walk (fits-first format);
      long = omega (arith, picture_header_long format (start bits) r tr ptype spares plain);
    }

-- the picture of no groups
pub first-groups : (format : Format) (bits : List Bool) (tr : ℕ) (mid r : List Bool × ℕ) (another : Bool) (into : Coding) → (h : HeaderRead format bits tr mid) → into ≡ coding format (record { tr = tr; groups = [] }) → Follows (next_within_limit format (after [] h.es) mid) another mid r → PictureSoFar format bits 0 0 another into r
first-groups format bits tr mid r another into h written follows =
    let p : Picture = record { tr = tr; groups = [] } in
    record {
      pic = p;
      es = h.es;
      mid = mid;
      walk = h.walk;
      so_far = h.so_far;
      written = written;
      follows = follows;
      due = ap may_end h.due;
      last_is = h.last_is;
      groups_are = h.groups_are;
      fits = h.fits;
      passed = λ i below. absurd (omega arith);
      few = omega arith;
      count = omega arith;
      room = omega (arith, length-text format p, h.long);
    }

-- ---- one more group

-- a group comes
pub group-comes : (format : Format) (bits : List Bool) (last groups : ℕ) (into : Coding) (r : List Bool × ℕ) → (s : PictureSoFar format bits last groups true into r) → GroupComes format bits last (groups + 1) (after [] s.es) s.mid r
group-comes format bits last groups into r s = record {
  due = s.due;
  size = s.follows.len;
  starts = s.follows.good;
  behind = s.follows.behind;
  last_is = s.last_is;
  begun_is = ap (λ (k : ℕ). k + 1) s.groups_are;
  place = walk-place format bits [] (start bits) s.mid s.es s.walk refl;
}

-- a fault behind what was read
pub fails-later : (format : Format) (bits : List Bool) (mid end : List Bool × ℕ) (es more : List Element) (place : ℕ) (why : Why) → Goes (next_within_limit format) [] (start bits) es mid → Goes (next_within_limit format) (after [] es) mid more end → next_within_limit format (after (after [] es) more) end ≡ Bad why → place ≡ end.1 → FirstFault (next_within_limit format) bits place why
fails-later format bits mid end es more place why here there bad at =
    record {
      elements = es ++ more;
      end = end;
      walk = goes-append (next_within_limit format) [] (start bits) mid end es more here there;
      bad = subst (λ (b : List Element). next_within_limit format b end ≡ Bad why) (sym (after-append [] es more)) bad;
      place_is = at;
    }

-- where the next group stands, by its number
pub record StandsNext (format : Format) (last number place : ℕ) (p : Picture) : Type 0 where
  pub below : place < group_count format
  pub number_is : slice_index (group_numbers format) place ≡ number
  pub behind : length p.groups ≤ place

pub stands-next : (format : Format) (bits : List Bool) (last groups number place : ℕ) (another : Bool) (into : Coding) (r : List Bool × ℕ) → (s : PictureSoFar format bits last groups another into r) → last < number → place < group_count format → slice_index (group_numbers format) place ≡ number → StandsNext format last number place s.pic
stands-next format bits last groups number place another into r s above below is =
    record {
      below = below;
      number_is = is;
      behind = elim (cases_Bool (nat_lt place (length s.pic.groups))) [
        | inl within ↦ absurd (omega (arith, above, is, s.passed place (ltb-true place (length s.pic.groups) within)))
        | inr past ↦ ltb-false place (length s.pic.groups) past
      ];
    }

-- what was written when the groups before this one were left out
pub left-out : (format : Format) (bits : List Bool) (last groups place : ℕ) (another : Bool) (into : Coding) (r : List Bool × ℕ) → (s : PictureSoFar format bits last groups another into r) → length s.pic.groups ≤ place → emptied (place - length into.groups) into ≡ coding format (filled format (place - length s.pic.groups) s.pic)
left-out format bits last groups place another into r s behind =
    let count : length into.groups ≡ length s.pic.groups = ap (λ (c : Coding). length c.groups) s.written ∙ length-views 32 0 s.pic.groups in
    ap (λ (k : ℕ). emptied (place - k) into) count
    ∙ (ap (emptied (place - length s.pic.groups)) s.written ∙ emptied-filled format (place - length s.pic.groups) s.pic)

-- what is asked of the coded picture that gets the group
pub record MayAdd (format : Format) (bits : List Bool) (number quant : ℕ) (marks : List Mark) (into : Coding) : Type 0 where
  pub format_is : into.format ≡ format
  pub begun : 0 < length into.bits
  pub next : length into.groups < group_count format
  pub room : length into.bits + length (bits_at bits marks) + 26 * (group_count format - length into.groups) ≤ limit format
  pub text : IsGroupText format (next_number into) quant (bits_at bits marks) marks

pub may-add : (format : Format) (bits : List Bool) (last groups number quant place : ℕ) (another : Bool) (marks : List Mark) (into into' : Coding) (r new : List Bool × ℕ) → (s : PictureSoFar format bits last groups true into r) → IsGroupRead format bits (after [] s.es) s.mid number quant marks another new → StandsNext format last number place s.pic → into' ≡ emptied (place - length into.groups) into → MayAdd format bits number quant marks into'
may-add format bits last groups number quant place another marks into into' r new s read next is =
    let n : ℕ = place - length s.pic.groups in
    let q : Picture = filled format n s.pic in
    let same : into' ≡ coding format q = is ∙ left-out format bits last groups place true into r s next.behind in
    let count : length q.groups ≡ place = length-filled format n s.pic ∙ omega (arith, next.behind) in
    let views : length (coding format q).groups ≡ place = length-views 32 0 q.groups ∙ count in
    let fits = goes-within format (after [] s.es) s.mid read.es read.end read.walk s.fits in
    let long : length (bits_at bits marks) ≡ length (macroblocks_text None read.macroblocks) = ap length read.bits_are in
    let number_is : number ≡ next_number (coding format q) = sym next.number_is ∙ ap (λ (k : ℕ). slice_index (group_numbers format) k) (sym views) in
    let P : Coding → Type 0 = MayAdd format bits number quant marks in
    subst P (sym same) (record {
      format_is = refl;
      begun = omega (arith, length-text format q);
      next = omega (arith, views, next.below);
      room = omega (arith, views, next.below, next.behind, long, s.room, s.few, read.long, fits, read.begun_is, s.groups_are, length-filled_text format n s.pic);
      text = subst (λ (k : ℕ). IsGroupText format k quant (bits_at bits marks) marks) number_is ∣ (read.macroblocks, read.bits_are, read.marks_are, read.so_far.valid) ∣₁;
    })

-- the picture with the group
pub group-added : (format : Format) (bits : List Bool) (last groups number quant place : ℕ) (another : Bool) (marks : List Mark) (into into' into'' : Coding) (r new : List Bool × ℕ) → (s : PictureSoFar format bits last groups true into r) → IsGroupRead format bits (after [] s.es) s.mid number quant marks another new → StandsNext format last number place s.pic → into' ≡ emptied (place - length into.groups) into → into'' ≡ grown into' quant (bits_at bits marks) marks → PictureSoFar format bits number (groups + 1) another into'' new
group-added format bits last groups number quant place another marks into into' into'' r new s read next is grown_is =
    let n : ℕ = place - length s.pic.groups in
    let q : Picture = filled format n s.pic in
    let g : Group = group_with number quant read.macroblocks in
    let same : into' ≡ coding format q = is ∙ left-out format bits last groups place true into r s next.behind in
    let count : length q.groups ≡ place = length-filled format n s.pic ∙ omega (arith, next.behind) in
    let views : length (coding format q).groups ≡ place = length-views 32 0 q.groups ∙ count in
    let number_is : number ≡ next_number (coding format q) = sym next.number_is ∙ ap (λ (k : ℕ). slice_index (group_numbers format) k) (sym views) in
    let law_number : law.number_due format q ≡ number = next-same format q ∙ sym number_is in
    let all_read = filled-so-far format n s.pic s.es s.so_far (omega (arith, next.behind, next.below)) in
    let joined = group-sent format q s.es quant read.macroblocks read.es all_read (omega (arith, count, next.below)) (subst (λ (k : ℕ). IsGroupSoFar format (after [] s.es) k quant read.macroblocks read.es) (sym law_number) read.so_far) in
    let behind : after (after [] s.es) read.es ≡ after [] (s.es ++ read.es) = sym (after-append [] s.es read.es) in
    let fits = goes-within format (after [] s.es) s.mid read.es read.end read.walk s.fits in
    let more : length (with_group q g).groups ≡ place + 1 = length-append q.groups (g ∷ []) ∙ omega (arith, count) in
    record {
      pic = with_group q g;
      es = s.es ++ read.es;
      mid = read.end;
      walk = goes-append (next_within_limit format) [] (start bits) s.mid read.end s.es read.es s.walk read.walk;
      so_far = subst (λ (k : ℕ). IsPictureSoFar format (with_group q (group_with k quant read.macroblocks)) (s.es ++ read.es)) law_number joined;
      written = grown_is ∙ (ap (λ (c : Coding). grown c quant (bits_at bits marks) marks) same ∙ (ap (λ (t : List Bool). grown (coding format q) quant t marks) read.bits_are ∙ coding-with_group format q g marks number_is read.marks_are));
      follows = subst (λ (b : List Element). Follows (next_within_limit format b read.end) another read.end new) behind read.follows;
      due = ap (λ (b : List Element). may_end (slot b)) (sym behind) ∙ ap may_end read.so_far.place.at;
      last_is = ap group (sym behind) ∙ read.so_far.place.group_is;
      groups_are = ap begun (sym behind) ∙ (read.begun_is ∙ ap (λ (k : ℕ). k + 1) s.groups_are);
      fits = subst (λ (b : List Element). counted format b read.end.1 ≤ limit format) behind fits;
      passed = λ i below. omega (arith, rising format i place (omega (arith, below, more)) next.below, next.number_is);
      few = omega (arith, more, s.few, next.behind);
      count = omega (arith, more, next.below);
      room = omega (arith, more, next.below, next.behind, s.room, s.few, s.count, read.long, length-more format q g, length-filled_text format n s.pic);
    }

-- the whole picture
pub all-read : (format : Format) (bits : List Bool) (last groups : ℕ) (into into' : Coding) (r : List Bool × ℕ) → PictureSoFar format bits last groups false into r → into' ≡ emptied (group_count format - length into.groups) into → (p : Picture) × Accepts format bits p × (into' ≡ coding format p)
all-read format bits last groups into into' r s is =
    let n : ℕ = group_count format - length s.pic.groups in
    let q : Picture = filled format n s.pic in
    let whole : length q.groups ≡ group_count format = length-filled format n s.pic ∙ omega (arith, s.count) in
    (q, picture-accepted format q bits s.es (filled-so-far format n s.pic s.es s.so_far (omega (arith, s.count))) whole (record { end = s.mid; walk = s.walk; stop = s.follows.stop }), is ∙ left-out format bits last groups (group_count format) false into r s s.count)

-- something was written
pub begun-text : (format : Format) (bits : List Bool) (last groups : ℕ) (another : Bool) (into : Coding) (r : List Bool × ℕ) → PictureSoFar format bits last groups another into r → (into.format ≡ format) × (0 < length into.bits)
begun-text format bits last groups another into r s =
    let P : Coding → Type 0 = λ c. (c.format ≡ format) × (0 < length c.bits) in
    subst P (sym s.written) (refl, omega (arith, length-text format s.pic))

-- a reader at the first bit
pub at-start : (bits slice : List Bool) (len : ℕ) (r : List Bool × ℕ) → r ≡ (slice, 0) → slice ≡ take len (drop 0 bits) → len ≡ length bits → r ≡ start bits
at-start bits slice len r is slice_is len_is = is ∙ ap (λ (b : List Bool). (b, 0)) (slice_is ∙ (ap (λ (k : ℕ). take k bits) len_is ∙ take_all (length bits) bits (omega arith)))

pub groups-within : (format : Format) (bits : List Bool) (last groups : ℕ) (another : Bool) (into : Coding) (r : List Bool × ℕ) → PictureSoFar format bits last groups another into r → groups ≤ 12
groups-within format bits last groups another into r s = omega (arith, s.few, s.count, few_groups format)
