-- A header, and as many macroblocks as were drawn.
use Rattle.std.proofs.Common.{◌∙◌, ap, ap₂, ℕ}
use Rattle.conf_make.specs.Draws.{state_after}
use Rattle.conf_make.specs.Pictures.{macroblocks}
use Rattle.conf_make.specs.Writing.{with_bits}
use Rattle.conf_make.proofs.Drawn.{two-pushes, group-is, behind-group-is}
use Rattle.conf_make.proofs.pictures.push_drawn_group.Goals as goal

pub returns-clause-bits : goal.returns-clause-bits
returns-clause-bits c =
    two-pushes _ _ _ _ _ c.push_group_header.ensures.value
    (c.push_macroblocks.ensures.bits
    ∙ ap₂ (λ (n : ℕ) (s : ℕ). with_bits c.push_group_header.new.bits (macroblocks n s)) c.draw_count-count.ensures.drawn c.draw_count-count.ensures.state)
    ∙ ap (with_bits c.args.bits.now) (group-is c.args.number c.args.state.now)

pub returns-clause-state : goal.returns-clause-state
returns-clause-state c =
    c.push_macroblocks.ensures.state
    ∙ ap₂ (λ (n : ℕ) (s : ℕ). state_after n s) c.draw_count-count.ensures.drawn c.draw_count-count.ensures.state
    ∙ behind-group-is c.args.state.now
