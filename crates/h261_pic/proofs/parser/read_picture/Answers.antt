use Rattle.std.proofs.Common.{ℕ, ◌+◌, ◌-◌, ◌≤◌, Bool, true, false, List, [], length, sym, ◌∙◌, ap, subst, arith}
use Rattle.std.proofs.lemmas.Result.{err_from_is_err_and}
use Rattle.std.specs.List.{All}
use Rattle.pel_model.specs.declared.Mark.{Mark}
use Rattle.pel_model.specs.Valid.{group_count, limit}
use Rattle.pel_model.specs.Walk.{after, Goes}
use Rattle.pel_model.specs.Grammar.{next_within_limit}
use Rattle.h261_pic.specs.Coded.{Coding, coding, grown, next_number}
use Rattle.h261_pic.proofs.LeftOutGroups.{numbered}
use Rattle.h261_pic.proofs.PictureReading.{header-read, PictureSoFar, first-groups, group-comes, fails-later, stands-next, MayAdd, may-add, group-added, all-read, begun-text, at-start, groups-within}
use Rattle.h261_pic.proofs.parser.read_picture.Goals as goal
use Rattle.h261_pic.specs.Adding.{emptied, bits_at, IsGroupText}

pub returns-in_err-another-clause-refused : goal.returns-in_err-another-clause-refused
returns-in_err-another-clause-refused c =
    let p = err_from_is_err_and c.from_residual-in_err-another.result c.from_residual-in_err-another.ensures.1 in
    let format = c.args.format in
    let bits = c.args.bits.now in
    let begins = at-start bits c.slice.result c.len.result c.new-r.result c.new-r.ensures c.slice.ensures.value c.len.ensures in
    let read = c.in_ok-picture_header_within.ensures.walk in
    let walk = subst (λ (x : List Bool × ℕ). Goes (next_within_limit format) [] x read.elements c.picture_header_within.new.r) begins read.walk in
    let h = header-read format bits c.picture_header_within.new.r c.in_ok-picture_header_within.field-0 read.wanted.ptype read.wanted.spares read.elements walk read.wanted.elements in
    let bad = c.in_err-another.ensures (after [] h.es) h.due h.groups_are h.fits in
    rw (p.1, p.2) (record { elements = h.es; end = c.picture_header_within.new.r; walk = h.walk; bad = bad.bad; place_is = bad.place })

pub loop-another-init : goal.loop-another-init
loop-another-init c =
    let format = c.args.format in
    let bits = c.args.bits.now in
    let begins = at-start bits c.slice.result c.len.result c.new-r.result c.new-r.ensures c.slice.ensures.value c.len.ensures in
    let read = c.in_ok-picture_header_within.ensures.walk in
    let walk = subst (λ (x : List Bool × ℕ). Goes (next_within_limit format) [] x read.elements c.picture_header_within.new.r) begins read.walk in
    let tr = c.in_ok-picture_header_within.field-0 in
    let h = header-read format bits c.picture_header_within.new.r tr read.wanted.ptype read.wanted.spares read.elements walk read.wanted.elements in
    first-groups format bits tr c.picture_header_within.new.r c.group_follows.new.r c.in_ok-another.another c.start.new.self h
    (c.start.ensures ∙ ap (λ f. coding f (record { tr = tr; groups = [] })) c.requires)
    (c.in_ok-another.ensures (after [] h.es) h.due h.groups_are h.fits)

pub overflow_add-begun : goal.overflow_add-begun
overflow_add-begun c = omega (arith, groups-within c.args.format c.args.bits.now c.loop-another.last c.loop-another.begun c.loop-another.another c.loop-another.into c.loop-another.r c.loop-another.invariant)

pub read_group-requires-clause-few : goal.read_group-requires-clause-few
read_group-requires-clause-few c = omega (arith, groups-within c.args.format c.args.bits.now c.loop-another.last c.loop-another.begun c.loop-another.another c.loop-another.into c.loop-another.r c.loop-another.invariant)

pub read_group-requires-clause-here : goal.read_group-requires-clause-here
read_group-requires-clause-here c =
    let l = c.loop-another in
    let s : PictureSoFar c.args.format c.args.bits.now l.last l.begun true l.into l.r = subst (λ (b : Bool). PictureSoFar c.args.format c.args.bits.now l.last l.begun b l.into l.r) c.loop-another-test.true l.invariant in
    (c.args.bits.now, after [] s.es, s.mid, group-comes c.args.format c.args.bits.now l.last l.begun l.into l.r s)

pub returns-in_err-group-clause-format : goal.returns-in_err-group-clause-format
returns-in_err-group-clause-format c =
    let l = c.loop-another in
    (begun-text c.args.format c.args.bits.now l.last l.begun l.another l.into l.r l.invariant).0

pub returns-in_err-group-clause-refused : goal.returns-in_err-group-clause-refused
returns-in_err-group-clause-refused c =
    let p = err_from_is_err_and c.from_residual-in_err-group.result c.from_residual-in_err-group.ensures.1 in
    let l = c.loop-another in
    let format = c.args.format in
    let bits = c.args.bits.now in
    let s : PictureSoFar format bits l.last l.begun true l.into l.r = subst (λ (b : Bool). PictureSoFar format bits l.last l.begun b l.into l.r) c.loop-another-test.true l.invariant in
    let bad = c.in_err-group.ensures.read bits (after [] s.es) s.mid (group-comes format bits l.last l.begun l.into l.r s) in
    rw (p.1, p.2) (fails-later format bits s.mid bad.end s.es bad.elements c.in_err-group.field-0.0.place c.in_err-group.field-0.0.why s.walk bad.walk bad.bad bad.place)

pub add_empty_groups-requires-clause-begun : goal.add_empty_groups-requires-clause-begun
add_empty_groups-requires-clause-begun c =
    let l = c.loop-another in
    (begun-text c.args.format c.args.bits.now l.last l.begun l.another l.into l.r l.invariant).1

pub add_empty_groups-requires-clause-there : goal.add_empty_groups-requires-clause-there
add_empty_groups-requires-clause-there c =
    let l = c.loop-another in
    let same = (begun-text c.args.format c.args.bits.now l.last l.begun l.another l.into l.r l.invariant).0 in
    omega (arith, c.group_place.ensures.there, ap group_count same)

pub add_empty_groups-requires-2-clause-begun : goal.add_empty_groups-requires-2-clause-begun
add_empty_groups-requires-2-clause-begun c =
    let l = c.loop-another in
    (begun-text c.args.format c.args.bits.now l.last l.begun l.another l.into l.r l.invariant).1

pub add_empty_groups-requires-2-clause-there : goal.add_empty_groups-requires-2-clause-there
add_empty_groups-requires-2-clause-there c =
    let l = c.loop-another in
    let same = (begun-text c.args.format c.args.bits.now l.last l.begun l.another l.into l.r l.invariant).0 in
    omega (arith, c.group_count.ensures, ap group_count same)

pub loop-another-smaller : goal.loop-another-smaller
loop-another-smaller c =
    omega (arith, c.in_ok-group.ensures.within.1, c.group_place.ensures.number, (numbered c.args.format c.group_place.result c.group_place.ensures.there).0)

pub loop-another-preserved : goal.loop-another-preserved
loop-another-preserved c =
    let l = c.loop-another in
    let format = c.args.format in
    let bits = c.args.bits.now in
    let group = c.in_ok-group.group in
    let s : PictureSoFar format bits l.last l.begun true l.into l.r = subst (λ (b : Bool). PictureSoFar format bits l.last l.begun b l.into l.r) c.loop-another-test.true l.invariant in
    let read = c.in_ok-group.ensures.read bits (after [] s.es) s.mid (group-comes format bits l.last l.begun l.into l.r s) in
    let next = stands-next format bits l.last l.begun group.header.number c.group_place.result true l.into l.r s c.in_ok-group.ensures.within.1 c.group_place.ensures.there c.group_place.ensures.number in
    group-added format bits l.last l.begun group.header.number group.header.quant c.group_place.result group.another group.marks.items l.into c.add_empty_groups.new.self c.add_group.new.self l.r c.read_group.new.r s read next c.add_empty_groups.ensures
    (c.add_group.ensures ∙ ap (λ (ms : List Mark). grown c.add_empty_groups.new.self group.header.quant (bits_at bits ms) ms) c.deref.ensures.0)

pub returns-clause-format : goal.returns-clause-format
returns-clause-format c =
    let l = c.loop-another in
    let s : PictureSoFar c.args.format c.args.bits.now l.last l.begun false l.into l.r = subst (λ (b : Bool). PictureSoFar c.args.format c.args.bits.now l.last l.begun b l.into l.r) c.loop-another-test.false l.invariant in
    ap (λ (k : Coding). k.format) (all-read c.args.format c.args.bits.now l.last l.begun l.into c.add_empty_groups-2.new.self l.r s (c.add_empty_groups-2.ensures ∙ ap (λ (k : ℕ). emptied (k - length l.into.groups) l.into) c.group_count.ensures)).2

pub returns-clause-accepted : goal.returns-clause-accepted
returns-clause-accepted c =
    let l = c.loop-another in
    let s : PictureSoFar c.args.format c.args.bits.now l.last l.begun false l.into l.r = subst (λ (b : Bool). PictureSoFar c.args.format c.args.bits.now l.last l.begun b l.into l.r) c.loop-another-test.false l.invariant in
    all-read c.args.format c.args.bits.now l.last l.begun l.into c.add_empty_groups-2.new.self l.r s (c.add_empty_groups-2.ensures ∙ ap (λ (k : ℕ). emptied (k - length l.into.groups) l.into) c.group_count.ensures)

-- what is asked of the picture that gets the group
asked : (c : goal.After-deref) → MayAdd c.args.format c.args.bits.now c.in_ok-group.group.header.number c.in_ok-group.group.header.quant c.deref.result.now c.add_empty_groups.new.self × All (λ (m : Mark). m.at + m.len ≤ length c.args.bits.now) c.deref.result.now
asked c =
    let l = c.loop-another in
    let format = c.args.format in
    let bits = c.args.bits.now in
    let group = c.in_ok-group.group in
    let s : PictureSoFar format bits l.last l.begun true l.into l.r = subst (λ (b : Bool). PictureSoFar format bits l.last l.begun b l.into l.r) c.loop-another-test.true l.invariant in
    let read = c.in_ok-group.ensures.read bits (after [] s.es) s.mid (group-comes format bits l.last l.begun l.into l.r s) in
    let next = stands-next format bits l.last l.begun group.header.number c.group_place.result true l.into l.r s c.in_ok-group.ensures.within.1 c.group_place.ensures.there c.group_place.ensures.number in
    let may = may-add format bits l.last l.begun group.header.number group.header.quant c.group_place.result group.another group.marks.items l.into c.add_empty_groups.new.self l.r c.read_group.new.r s read next c.add_empty_groups.ensures in
    let marks_are = sym c.deref.ensures.0 in
    (subst (λ (ms : List Mark). MayAdd format bits group.header.number group.header.quant ms c.add_empty_groups.new.self) marks_are may, subst (λ (ms : List Mark). All (λ (m : Mark). m.at + m.len ≤ length bits) ms) marks_are read.inside)

pub add_group-requires-clause-begun : goal.add_group-requires-clause-begun
add_group-requires-clause-begun c = (asked c).0.begun

pub add_group-requires-clause-next : goal.add_group-requires-clause-next
add_group-requires-clause-next c = let may = (asked c).0 in omega (arith, may.next, ap group_count may.format_is)

pub add_group-requires-clause-inside : goal.add_group-requires-clause-inside
add_group-requires-clause-inside c = (asked c).1

pub add_group-requires-clause-room : goal.add_group-requires-clause-room
add_group-requires-clause-room c = let may = (asked c).0 in omega (arith, may.room, ap group_count may.format_is, ap limit may.format_is)

pub add_group-requires-clause-text : goal.add_group-requires-clause-text
add_group-requires-clause-text c =
    let may = (asked c).0 in
    subst (λ f. IsGroupText f (next_number c.add_empty_groups.new.self) c.in_ok-group.group.header.quant (bits_at c.args.bits.now c.deref.result.now) c.deref.result.now) (sym may.format_is) may.text
