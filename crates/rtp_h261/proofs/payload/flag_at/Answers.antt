-- One bit is the number that it spells.
use Rattle.std.proofs.Common.{◌==◌, ℕ, [], ◌∷◌, ap, ◌∙◌}
use Rattle.rtp_h261.proofs.PayloadLemmas.{flag_is}
use Rattle.rtp_h261.proofs.payload.flag_at.Goals as goal

pub returns : goal.returns
returns c = ap (λ (n : ℕ). (n == 1) ∷ []) c.number.ensures ∙ flag_is c.args.at c.args.bits.now c.requires
