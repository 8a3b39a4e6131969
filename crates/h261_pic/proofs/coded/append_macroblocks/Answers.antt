use Rattle.std.proofs.Common.{◌≡◌, ℕ, ◌+◌, ◌<◌, ◌≤◌, ◌++◌, [], ◌∷◌, ◌^◌, Bool, false, pos, List, length, take, get_or, sym, ap, ap₂, ◌∙◌, subst, arith, length-append, ℤ, w8, rules}
use Rattle.std.proofs.lemmas.Int.{to_z-of_z}
use Rattle.std.proofs.lemmas.List.{take_more, length-take-le}
use Rattle.std.proofs.lemmas.List.Elements.{All-take, All-get_or}
use Rattle.h261_pic.specs.Coded.{placed}
use Rattle.h261_pic.proofs.PlacedMarks.{IsAppended, length-appended, appended_run, appended_more, same_appended, length-bits_at-take, length-placed}
use Rattle.pel_model.specs.declared.Mark.{Mark}
use Rattle.h261_pic.proofs.coded.append_macroblocks.Goals as goal
use Rattle.h261_pic.proofs.coded.append_macroblocks.Goals.{After-len, then-mark-from, else-mark-from}

pub append-requires : goal.append-requires
append-requires c =
    let found = take c.loop-mark.mark-index c.args.found.now in
    let is = length-appended _ _ _ _ _ _ _ _ _ c.loop-mark.invariant in
    omega (arith, c.requires.room, c.slice.ensures.long, c.loop-mark.invariant.capacity, length-bits_at-take c.args.source.now c.args.found.now c.loop-mark.mark-index)

abbrev no_mark : Mark
no_mark = record { at = 0; len = 0; group = 0; address = 0; quant_after = 0; h_after = pos 0; v_after = pos 0; intra = false }

-- the mark lies within the source
inside_one : (c : After-len) → (get_or c.args.found.now c.loop-mark.mark-index no_mark).at + (get_or c.args.found.now c.loop-mark.mark-index no_mark).len ≤ length c.args.source.now
inside_one c =
    All-get_or (λ (k : Mark). k.at + k.len ≤ length c.args.source.now) c.args.found.now c.loop-mark.mark-index no_mark (omega arith) c.requires.inside

-- the mark stands behind the run
behind : (c : After-len) → IsAppended c.args.source.now c.args.text.now c.if-mark-from.text c.args.marks.now.items c.loop-mark.marks.items c.args.group c.if-mark-from.from c.if-mark-from.len (take c.loop-mark.mark-index c.args.found.now)
    × ((get_or c.args.found.now c.loop-mark.mark-index no_mark).at ≡ c.if-mark-from.from + c.if-mark-from.len)
behind c =
    let m = get_or c.args.found.now c.loop-mark.mark-index no_mark in
    let found = take c.loop-mark.mark-index c.args.found.now in
    elim c.if-mark-from.branch [
      | then-mark-from w ↦ (
        same_appended c.args.source.now c.args.text.now w.append.new.self c.if-mark-from.text c.args.marks.now.items c.loop-mark.marks.items
            c.args.group m.at c.if-mark-from.from 0 c.if-mark-from.len found w.text-is w.from-is w.len-is
            (appended_run c.args.source.now c.args.text.now c.loop-mark.text w.append.new.self c.args.marks.now.items c.loop-mark.marks.items
            c.args.group c.loop-mark.from m.at c.loop-mark.len found c.loop-mark.invariant (omega (arith, inside_one c))
            (w.append.ensures.value ∙ ap (λ (bs : List Bool). record c.loop-mark.text { list = c.loop-mark.text.list ++ bs }) w.slice.ensures.value)),
        omega (arith, w.from-is, w.len-is),
      )
      | else-mark-from w ↦ (
        same_appended c.args.source.now c.args.text.now c.loop-mark.text c.if-mark-from.text c.args.marks.now.items c.loop-mark.marks.items
            c.args.group c.loop-mark.from c.if-mark-from.from c.loop-mark.len c.if-mark-from.len found w.text-is w.from-is w.len-is c.loop-mark.invariant,
        omega (arith, w.if-mark-from.false, w.from-is, w.len-is),
      )
    ]

-- what is to be appended has room
has_room : (c : After-len) → length c.if-mark-from.text.list + c.if-mark-from.len < 2 ^ 32
has_room c =
    let b = behind c in
    omega (
      arith,
      length-appended _ _ _ _ _ _ _ _ _ b.0,
      c.requires.room,
      c.requires.small.0,
      length-bits_at-take c.args.source.now c.args.found.now c.loop-mark.mark-index,
    )

pub overflow_add-len : goal.overflow_add-len
overflow_add-len c = omega (arith, has_room ((goal.at.overflow_add-len c).After-len), c.len.ensures)

pub push-requires : goal.push-requires
push-requires c =
    let found = take c.loop-mark.mark-index c.args.found.now in
    let long : length c.loop-mark.marks.items ≡ length c.args.marks.now.items + c.loop-mark.mark-index =
    ap length c.loop-mark.invariant.marks_are
    ∙ length-append c.args.marks.now.items (placed (length c.args.text.now.list) c.args.group found)
    ∙ ap (λ n. length c.args.marks.now.items + n) (length-placed (length c.args.text.now.list) c.args.group found
    ∙ length-take-le c.loop-mark.mark-index c.args.found.now (omega arith)) in
    (omega arith, omega (arith, c.requires.places))

pub loop-mark-preserved : goal.loop-mark-preserved
loop-mark-preserved c =
    let m = get_or c.args.found.now c.loop-mark.mark-index no_mark in
    let found = take c.loop-mark.mark-index c.args.found.now in
    let P : Mark → Type 0 = λ k. k.at + k.len ≤ length c.args.source.now in
    let b = behind ((goal.at.loop-mark-preserved c).After-len) in
    let items : c.push.new.self.items ≡ c.loop-mark.marks.items ++ record m { at = c.len.result + c.if-mark-from.len; group = c.args.group } ∷ [] =
    c.push.ensures.items
    ∙ ap₂ (λ (h : ℤ) (v : ℤ). c.loop-mark.marks.items ++ record m { at = c.len.result + c.if-mark-from.len; group = c.args.group; h_after = h; v_after = v } ∷ [])
    (to_z-of_z w8 m.h_after (search rules)) (to_z-of_z w8 m.v_after (search rules)) in
    subst (IsAppended c.args.source.now c.args.text.now c.if-mark-from.text c.args.marks.now.items c.push.new.self.items c.args.group
    c.if-mark-from.from (c.if-mark-from.len + m.len)) (sym (take_more c.args.found.now c.loop-mark.mark-index no_mark (omega arith)))
    (appended_more c.args.source.now c.args.text.now c.if-mark-from.text c.args.marks.now.items c.loop-mark.marks.items c.push.new.self.items
    c.args.group c.if-mark-from.from c.if-mark-from.len found m b.0 (All-take P c.loop-mark.mark-index c.args.found.now c.requires.inside)
    (All-get_or P c.args.found.now c.loop-mark.mark-index no_mark (omega arith) c.requires.inside) b.1
    (items ∙ ap (λ (n : ℕ). c.loop-mark.marks.items ++ record m { at = n + c.if-mark-from.len; group = c.args.group } ∷ []) c.len.ensures))

pub append-requires-2 : goal.append-requires-2
append-requires-2 c =
    let is = length-appended _ _ _ _ _ _ _ _ _ c.loop-mark.invariant in
    omega (arith, c.requires.room, c.slice-2.ensures.long, c.loop-mark.invariant.capacity, length-bits_at-take c.args.source.now c.args.found.now c.loop-mark.mark-index)
