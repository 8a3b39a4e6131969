use Rattle.std.proofs.Common.{◌∙◌, ap}
use Rattle.h261_pic.proofs.Headers.{with_bits, four_pushes, group-header-fields}
use Rattle.h261_pic.proofs.coded.push_group_header.Goals as goal

pub returns : goal.returns
returns c =
    four_pushes _ _ _ _ _ _ _ _ _ c.push.ensures.value c.push-2.ensures.value c.push-3.ensures.value c.push-4.ensures.value
    ∙ ap (with_bits c.args.text.now) (group-header-fields _ _ _ _ c.from.ensures c.from-2.ensures)
