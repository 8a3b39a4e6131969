-- No place before this one is one at which a picture ends.
use Rattle.std.proofs.Common.{◌≡◌, ℕ, ◌+◌, ◌<◌}
use Rattle.bare_stream.specs.Streams.{EndsAtStart}
use Rattle.bare_stream.specs.Tries.{IsTried}
use Rattle.h261_pic.specs.Coded.{nothing}
use Rattle.bare_stream.proofs.front.picture_before.Given as goal

abbrev pub invariant-loop-zeros : goal.invariant-loop-zeros
invariant-loop-zeros l =
    (l.into ≡ nothing l.fn.format) × ((e : ℕ) → IsTried l.fn.fault e → e < l.fn.fault + l.zeros → EndsAtStart l.fn.format l.fn.bits e → ⊥)
