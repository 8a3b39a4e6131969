use Rattle.std.proofs.Common.{◌≡◌}
use Rattle.hall_core.specs.Hall.{lanes_of}
use Rattle.hall_core.proofs.tests.post.Given as goal

abbrev pub invariant-loop : goal.invariant-loop
invariant-loop g l = lanes_of l.hall ≡ 2
