-- What is taken goes behind the octets that were taken before.
use Rattle.std.proofs.Common.{rules, ◌∙◌, arith, subst, take}
use Rattle.io_edge.specs.Allowance.{TakesOctets}
use Rattle.io_edge.proofs.AllowanceLemmas.{takes-both}
use Rattle.io_edge.proofs.ReadLemmas.{front_grows}
use Rattle.io_edge.proofs.allowance.Allowance.fetch.Goals as goal

pub loop-count-preserved : goal.loop-count-preserved
loop-count-preserved g c =
    let more = c.in-Ok.more in
    let part = c.ask.new.out in
    let i = c.loop-count.invariant in
    record {
      size = search rules;
      takes =
          subst (TakesOctets (g.S.Source.tells c.args.source.now) (g.S.Source.tells c.ask.new.source) c.args.self.now c.ask.new.self)
          (front_grows c.loop-count.out part c.loop-count.count _ more (omega arith) c.in-Ok.ensures.1)
          (takes-both _ _ _ _ _ _ (take c.loop-count.count c.loop-count.out) (take more part) i.takes c.in-Ok.ensures.2);
      kept = c.in-Ok.ensures.3 ∙ i.kept;
    }
