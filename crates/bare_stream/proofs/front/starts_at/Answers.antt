-- PSC by its number.
use Rattle.std.proofs.Common.{◌∙◌, arith}
use Rattle.std.proofs.lemmas.Bool.{lt-leb}
use Rattle.bare_stream.proofs.Nexts.{start-is, no-start}
use Rattle.bare_stream.proofs.front.starts_at.Goals as goal

pub returns-then-saturating_sub-ge-START_LENGTH : goal.returns-then-saturating_sub-ge-START_LENGTH
returns-then-saturating_sub-ge-START_LENGTH c =
    start-is c.args.bits.now c.args.e c.number.result (omega (arith, c.if-saturating_sub-ge-START_LENGTH.true, c.saturating_sub.ensures, c.len.ensures)) c.number.ensures

pub returns-else-saturating_sub-ge-START_LENGTH : goal.returns-else-saturating_sub-ge-START_LENGTH
returns-else-saturating_sub-ge-START_LENGTH c =
    lt-leb 20 c.saturating_sub.result c.if-saturating_sub-ge-START_LENGTH.false ∙ no-start c.args.bits.now c.args.e (omega (arith, c.if-saturating_sub-ge-START_LENGTH.false, c.saturating_sub.ensures, c.len.ensures))
