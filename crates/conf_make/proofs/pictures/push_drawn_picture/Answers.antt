-- A header and three groups.
use Rattle.std.proofs.Common.{◌∙◌, ap, ℕ}
use Rattle.pel_bits.specs.Buffer.{Buffer}
use Rattle.conf_make.specs.Pictures.{drawn_group, behind_group, drawn_picture}
use Rattle.conf_make.specs.Writing.{with_bits}
use Rattle.conf_make.proofs.Drawn.{four-pushes, drawn-picture-is, behind-picture-is}
use Rattle.conf_make.proofs.pictures.push_drawn_picture.Goals as goal

pub returns-clause-bits : goal.returns-clause-bits
returns-clause-bits c =
    four-pushes _ _ _ _ _ _ _ _ _ c.push_picture_header.ensures.value c.push_drawn_group.ensures.bits
    (c.push_drawn_group-2.ensures.bits ∙ ap (λ (s : ℕ). with_bits c.push_drawn_group.new.bits (drawn_group 3 s)) c.push_drawn_group.ensures.state)
    (c.push_drawn_group-3.ensures.bits
    ∙ ap (λ (s : ℕ). with_bits c.push_drawn_group-2.new.bits (drawn_group 5 s)) (c.push_drawn_group-2.ensures.state ∙ ap behind_group c.push_drawn_group.ensures.state))
    ∙ ap (with_bits c.clear.new.self) (drawn-picture-is c.args.tr c.args.state.now)
    ∙ ap (λ (b : Buffer). with_bits b (drawn_picture c.args.tr c.args.state.now)) c.clear.ensures

pub returns-clause-state : goal.returns-clause-state
returns-clause-state c =
    c.push_drawn_group-3.ensures.state ∙ ap behind_group (c.push_drawn_group-2.ensures.state ∙ ap behind_group c.push_drawn_group.ensures.state)
    ∙ behind-picture-is c.args.state.now
