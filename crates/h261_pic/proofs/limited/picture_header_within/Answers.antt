use Rattle.std.proofs.Common.{◌≡◌, ℕ, ◌-◌, ◌*◌, Bool, true, List, [], refl, subst, arith}
use Rattle.pel_model.specs.declared.Format.{Format}
use Rattle.pel_model.specs.declared.Format.TheVariants.{Qcif, Cif}
use Rattle.pel_model.specs.Headers.{group_header_length}
use Rattle.pel_model.specs.Valid.{group_count, limit}
use Rattle.pel_model.specs.Walk.{Walked, after}
use Rattle.pel_model.specs.Grammar.{Element, slot, may_end, next}
use Rattle.picture_laws.specs.Laws.{Leaves}
use Rattle.pel_model.specs.Elements.{AreInside}
use Rattle.h261_pic.specs.HeaderElements.{IsPictureHeader, IsPictureHeaderSoFar}
use Rattle.h261_pic.proofs.WithinLimits.{first_bits, first-bits, fault-there, reached-within, long-somewhere, long-there}
use Rattle.h261_pic.proofs.HeadersInside.{inside-picture-header, inside-picture-so-far, end-behind-picture-header}
use Rattle.h261_pic.proofs.limited.picture_header_within.Goals as goal

inside : (new : List Bool × ℕ) (tr : ℕ) (es : List Element) → IsPictureHeader tr es new → AreInside es
inside new tr es w = inside-picture-header es tr w.ptype w.spares w.elements

whole : (before : List Element) (new : List Bool × ℕ) (tr : ℕ) (es : List Element) → IsPictureHeader tr es new → may_end (slot (after before es)) ≡ true
whole before new tr es w = end-behind-picture-header before es tr w.ptype w.spares w.elements

-- at the first bit the limit leaves all but the groups' headers
leaves_all : (format : Format) (place end : ℕ) → place ≡ 0 → end ≡ limit format - group_header_length * (group_count format - 0) → Leaves format [] place (end - place)
leaves_all Qcif place end first is = omega (arith, first, is)
leaves_all Cif place end first is = omega (arith, first, is)

pub returns-then-place-end-clause-walk : goal.returns-then-place-end-clause-walk
returns-then-place-end-clause-walk c =
    let r = c.args.r.now in
    let k = c.last_end-end.result - r.1 in
    let new = c.read_picture_header-header.new.r in
    let leaves : Leaves c.args.format [] r.1 k = leaves_all c.args.format r.1 c.last_end-end.result c.requires c.last_end-end.ensures in
    reached-within c.args.format [] IsPictureHeader IsPictureHeaderSoFar r new k leaves (inside new) inside-picture-so-far c.read_picture_header-header.result (c.read_picture_header-header.ensures.walk [] refl) (omega arith)

pub returns-clause-walk : goal.returns-clause-walk
returns-clause-walk c =
    let r = c.args.r.now in
    let k = c.last_end-end.result - r.1 in
    let new = c.read_picture_header-header.new.r in
    let again = c.read_picture_header-cut_header.new.r in
    let leaves : Leaves c.args.format [] r.1 k = leaves_all c.args.format r.1 c.last_end-end.result c.requires c.last_end-end.ensures in
    let cut : c.cut_at-cut.result ≡ first_bits k r = first-bits c.last_end-end.result c.copy-begin.result r c.cut_at-cut.result c.cut_at-cut.ensures c.copy-begin.ensures in
    let long = long-somewhere c.args.format [] IsPictureHeader IsPictureHeaderSoFar r new k leaves (inside new) inside-picture-so-far c.read_picture_header-header.result (c.read_picture_header-header.ensures.walk [] refl) (omega arith) in
    let walked = subst (λ (from : List Bool × ℕ). Walked (next c.args.format) [] IsPictureHeader IsPictureHeaderSoFar c.read_picture_header-cut_header.result from again) cut (c.read_picture_header-cut_header.ensures.walk [] refl) in
    let there = long-there c.args.format [] IsPictureHeader IsPictureHeaderSoFar r again k long (whole [] again) c.read_picture_header-cut_header.result walked in
    fault-there c.args.format [] r c.place-2.result _ c.too_long.result c.too_long.ensures c.place-2.ensures there
