use Rattle.std.proofs.Common.{◌≡◌, ℕ, ◌-◌, Bool, true, List, subst, arith}
use Rattle.pel_model.specs.Walk.{Walked, after}
use Rattle.pel_model.specs.Grammar.{Element, slot, may_end, next}
use Rattle.picture_laws.specs.Laws.{Leaves}
use Rattle.pel_model.specs.Elements.{AreInside}
use Rattle.h261_pic.specs.declared.input_headers.GroupHeader.{GroupHeader}
use Rattle.h261_pic.specs.HeaderElements.{IsGroupHeader, IsGroupHeaderSoFar}
use Rattle.h261_pic.proofs.WithinLimits.{first_bits, first-bits, fault-there, reached-within, long-somewhere, long-there}
use Rattle.h261_pic.proofs.HeadersInside.{inside-group-header, inside-group-so-far, end-behind-group-header}
use Rattle.h261_pic.proofs.limited.group_header_within.Goals as goal

inside : (new : List Bool × ℕ) (header : GroupHeader) (es : List Element) → IsGroupHeader header es new → AreInside es
inside new header es w = inside-group-header es header.number header.quant w.spares w.elements

whole : (before : List Element) (new : List Bool × ℕ) (header : GroupHeader) (es : List Element) → IsGroupHeader header es new → may_end (slot (after before es)) ≡ true
whole before new header es w = end-behind-group-header before es header.number header.quant w.spares w.elements

pub returns-then-place-end-clause-walk : goal.returns-then-place-end-clause-walk
returns-then-place-end-clause-walk c = λ before due last ends in_limit.
    let r = c.args.r.now in
    let k = c.args.end - r.1 in
    let new = c.read_group_header-header.new.r in
    let leaves : Leaves c.args.format before r.1 k = omega (arith, ends, in_limit) in
    reached-within c.args.format before IsGroupHeader IsGroupHeaderSoFar r new k leaves (inside new) inside-group-so-far c.read_group_header-header.result (c.read_group_header-header.ensures.walk before due last) (omega arith)

pub returns-clause-walk : goal.returns-clause-walk
returns-clause-walk c = λ before due last ends in_limit.
    let r = c.args.r.now in
    let k = c.args.end - r.1 in
    let new = c.read_group_header-header.new.r in
    let again = c.read_group_header-cut_header.new.r in
    let leaves : Leaves c.args.format before r.1 k = omega (arith, ends, in_limit) in
    let cut : c.cut_at-cut.result ≡ first_bits k r = first-bits c.args.end c.copy-begin.result r c.cut_at-cut.result c.cut_at-cut.ensures c.copy-begin.ensures in
    let long = long-somewhere c.args.format before IsGroupHeader IsGroupHeaderSoFar r new k leaves (inside new) inside-group-so-far c.read_group_header-header.result (c.read_group_header-header.ensures.walk before due last) (omega arith) in
    let walked = subst (λ (from : List Bool × ℕ). Walked (next c.args.format) before IsGroupHeader IsGroupHeaderSoFar c.read_group_header-cut_header.result from again) cut (c.read_group_header-cut_header.ensures.walk before due last) in
    let there = long-there c.args.format before IsGroupHeader IsGroupHeaderSoFar r again k long (whole before again) c.read_group_header-cut_header.result walked in
    fault-there c.args.format before r c.place-2.result _ c.too_long.result c.too_long.ensures c.place-2.ensures there
