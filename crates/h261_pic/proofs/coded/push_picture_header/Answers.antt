use Rattle.std.proofs.Common.{◌≡◌, ◌∙◌, sym, ap}
use Rattle.h261_pic.proofs.Headers.{with_bits, four_pushes, picture-header-fields, type_number}
use Rattle.h261_pic.proofs.coded.push_picture_header.Goals as goal
use Rattle.h261_pic.proofs.coded.push_picture_header.Goals.{in-Qcif, in-Cif}

pub returns : goal.returns
returns c =
    let number_is : c.match-format.picture_type ≡ type_number c.args.format =
    elim c.match-format.branch [
      | in-Qcif w ↦ w.picture_type-is ∙ sym (ap type_number w.in-Qcif.is)
      | in-Cif w ↦ w.picture_type-is ∙ sym (ap type_number w.in-Cif.is)
    ] in
    four_pushes _ _ _ _ _ _ _ _ _ c.push.ensures.value c.push-2.ensures.value c.push-3.ensures.value c.push-4.ensures.value
    ∙ ap (with_bits c.args.text.now) (picture-header-fields c.args.format _ _ _ c.from.ensures number_is)
