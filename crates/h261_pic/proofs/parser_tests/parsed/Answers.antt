use Rattle.std.proofs.Common.{◌∙◌, ap, length}
use Rattle.pel_model.specs.Headers.{picture_header_length}
use Rattle.h261_pic.specs.Coded.{Coding}
use Rattle.h261_pic.proofs.Texts.{length-views}
use Rattle.h261_pic.proofs.parser_tests.parsed.Goals as goal

-- all groups of an accepted picture were written
pub returns-clause-groups : goal.returns-clause-groups
returns-clause-groups c =
    let found = c.in_ok-parse.ensures.accepted in
    ap (λ (w : Coding). length w.groups) found.2 ∙ length-views picture_header_length 0 found.0.groups ∙ found.1.1.valid.whole
