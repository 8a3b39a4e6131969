use Rattle.std.proofs.Common.{◌≡◌, ℕ, ◌+◌, List, set, map, get_or, ap, ap₂, sym, ◌∙◌, subst}
use Rattle.stage_plan.specs.Places.{IsRanking, ranked}
use Rattle.stage_plan.specs.Ranks.{closed_up, Raises}
use Rattle.stage_plan.proofs.Ranking.{raised, ranking_raised, raises}
use Rattle.stage_plan.proofs.ranks.raise.Goals as goal

-- the ranks that the writes leave
after : (c : goal.After-way_told-3-1) → set (set c.close_up.new.ranks c.from-2.result 0) c.from-3.result (c.count.result + 1) ≡ raised c.args.ranks.now c.args.lane
after c =
    let closed : c.close_up.new.ranks ≡ map (closed_up (get_or c.args.ranks.now c.args.lane 0)) c.args.ranks.now =
    c.close_up.ensures ∙ ap (λ i. map (closed_up (get_or c.args.ranks.now i 0)) c.args.ranks.now) c.from.ensures in
    let cleared : set c.close_up.new.ranks c.from-2.result 0 ≡ set (map (closed_up (get_or c.args.ranks.now c.args.lane 0)) c.args.ranks.now) c.args.lane 0 =
    ap₂ (λ (xs : List ℕ) (i : ℕ). set xs i 0) closed c.from-2.ensures in
    ap₂ (λ (xs : List ℕ) (i : ℕ). set xs i (c.count.result + 1)) cleared c.from-3.ensures
    ∙ ap (λ n. set (set (map (closed_up (get_or c.args.ranks.now c.args.lane 0)) c.args.ranks.now) c.args.lane 0) c.args.lane (n + 1))
    (c.count.ensures ∙ ap ranked cleared)

pub returns-clause-ranking : goal.returns-clause-ranking
returns-clause-ranking c = subst IsRanking (sym (after c)) (ranking_raised c.args.ranks.now c.args.lane c.requires.ranking c.requires.lane)

pub returns-clause-raised : goal.returns-clause-raised
returns-clause-raised c = subst (λ ranks. Raises c.args.lane c.args.ranks.now ranks) (sym (after c)) (raises c.args.ranks.now c.args.lane c.requires.ranking c.requires.lane)
