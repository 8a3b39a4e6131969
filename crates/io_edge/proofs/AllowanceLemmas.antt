-- Octets taken one part after the other.
use Rattle.std.proofs.Common.{◌≡◌, ℕ, List, ◌++◌, Option, None, Some, length-append, refl, subst, ◌∙◌, arith}
use Rattle.std.specs.Io.KnownBytes.{Consumes}
use Rattle.std.proofs.KnownBytes.{Consumes-trans}
use Rattle.io_edge.specs.Allowance.{AllowanceState, TakesOctets, Paused}
use Rattle.io_edge.specs.Causes.{Rose}
use Rattle.io_edge.specs.Outside.{Input}
use Rattle.io_edge.specs.declared.allowance.Pause.{Pause}
use Rattle.io_edge.specs.declared.allowance.Pause.TheVariants.{Limit, End, Fault}

-- two parts were taken, one behind the other
pub takes-both : (before between after : Input) (first second third : AllowanceState) (front back : List ℕ)
    → TakesOctets before between first second front → TakesOctets between after second third back
    → TakesOctets before after first third (front ++ back)
takes-both before between after first second third front back one two =
    record {
      bytes = Consumes-trans before.left between.left after.left front back one.bytes two.bytes;
      taken = omega (arith, one.taken, two.taken, length-append front back);
      budget = two.budget ∙ one.budget;
      within = two.within;
      went = record { later = omega (arith, one.went.later, two.went.later); counted = λ small. two.went.counted (one.went.counted small) };
    }

rest_known : (left : List ℕ) (known : Option (List ℕ)) (took : List ℕ) → Consumes (Some left) known took
    → (rest : List ℕ) × (known ≡ Some rest) × (left ≡ took ++ rest)
rest_known left None took bytes = absurd bytes
rest_known left (Some rest) took bytes = (rest, refl, bytes)

-- a source that tells its octets has the rest of them left
pub rest-of : (before after : Input) (old new : AllowanceState) (took left : List ℕ) → before.left ≡ Some left
    → TakesOctets before after old new took → (rest : List ℕ) × (after.left ≡ Some rest) × (left ≡ took ++ rest)
rest-of before after old new took left told takes =
    rest_known left after.left took (subst (λ known. Consumes known after.left took) told takes.bytes)

-- a pause after calls that met no fault is one since before them
pub paused-before : (pause : Pause) (before between after : Input) (allowance : AllowanceState) → between.faults ≡ before.faults
    → Paused pause between after allowance → Paused pause before after allowance
paused-before Limit before between after allowance kept paused = (paused.0, paused.1 ∙ kept)
paused-before End before between after allowance kept paused = (paused.0, paused.1, paused.2 ∙ kept)
paused-before Fault before between after allowance kept paused = (subst (λ n. Rose n after.faults) kept paused.0, paused.1)
