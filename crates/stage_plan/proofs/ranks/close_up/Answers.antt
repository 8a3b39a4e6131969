use Rattle.std.proofs.Common.{◌≡◌, ◌+◌, ◌++◌, set, map, take, drop, length, subst, sym, ap, ◌∙◌, arith}
use Rattle.std.proofs.lemmas.Grind.{get_or_default_zero}
use Rattle.std.proofs.lemmas.List.Edits.{map_over_more}
use Rattle.stage_plan.specs.Ranks.{closed_up}
use Rattle.stage_plan.proofs.Ranking.{length-mapped}
use Rattle.stage_plan.proofs.ranks.close_up.Goals as goal

pub loop-rank-preserved : goal.loop-rank-preserved
loop-rank-preserved c =
    let old = c.args.ranks.now in
    let i = c.loop-rank.rank-index in
    let len : length c.loop-rank.ranks ≡ 16 =
    ap length c.loop-rank.invariant ∙ length-mapped (closed_up c.args.gone) old i (omega arith) ∙ c.told-ranks in
    subst (λ x. set c.loop-rank.ranks i x ≡ map (closed_up c.args.gone) (take (i + 1) old) ++ drop (i + 1) old) (sym c.closed_up.ensures)
    (map_over_more (closed_up c.args.gone) old c.loop-rank.ranks i _ (omega arith) c.loop-rank.invariant
    (sym (get_or_default_zero c.loop-rank.ranks i _ (omega arith))))
