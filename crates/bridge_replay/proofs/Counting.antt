-- What a tally counts is no more than the steps.
use Rattle.std.proofs.Common.{ℕ, suc, ◌*◌, ◌≤◌, Bool, true, false, is_some, not, [], ◌∷◌, length, ap, arith}
use Rattle.cif_pack.specs.declared.tally.Tally.{Tally}
use Rattle.cif_pack.specs.Tallies.{with_step, steps_counted, one_if, takes_in}
use Rattle.bridge_replay.specs.UnderWay.{CountsSteps}
use Rattle.pel_model.specs.declared.note.TickNote.{TickNote}
use Rattle.pel_model.specs.History.{Step, Post, Gap, Order, Tick, End, History}
use Rattle.pel_model.specs.Plan.{is_done}

pub record AreFewSteps (n : ℕ) (t : Tally) : Type 0 where
  pub ticks : t.ticks ≤ n
  pub pictures : t.pictures ≤ n
  pub gaps : t.gaps ≤ n
  pub commands : t.commands ≤ n
  pub refused : t.refused ≤ n
  pub taken : t.taken ≤ 4 * n

one-at-most : (b : Bool) → one_if b ≤ 1
one-at-most true = omega arith
one-at-most false = omega arith

pub four-at-most : (note : TickNote) → takes_in note ≤ 4
four-at-most note =
    omega (
      arith,
      one-at-most (is_some note.taken_one),
      one-at-most (is_some note.taken_two),
      one-at-most (is_some note.taken_three),
      one-at-most (is_some note.taken_four),
    )

one-more : (n : ℕ) (t : Tally) (s : Step) → AreFewSteps n t → AreFewSteps (suc n) (with_step t s)
one-more n t (Post lane picture) few = record { ticks = omega (arith, few.ticks); pictures = omega (arith, few.pictures); gaps = omega (arith, few.gaps); commands = omega (arith, few.commands); refused = omega (arith, few.refused); taken = omega (arith, few.taken) }
one-more n t (Gap lane) few = record { ticks = omega (arith, few.ticks); pictures = omega (arith, few.pictures); gaps = omega (arith, few.gaps); commands = omega (arith, few.commands); refused = omega (arith, few.refused); taken = omega (arith, few.taken) }
one-more n t (Order command reply) few = record { ticks = omega (arith, few.ticks); pictures = omega (arith, few.pictures); gaps = omega (arith, few.gaps); commands = omega (arith, few.commands); refused = omega (arith, few.refused, one-at-most (not (is_done reply))); taken = omega (arith, few.taken) }
one-more n t (Tick note) few = record { ticks = omega (arith, few.ticks); pictures = omega (arith, few.pictures); gaps = omega (arith, few.gaps); commands = omega (arith, few.commands); refused = omega (arith, few.refused); taken = omega (arith, few.taken, four-at-most note) }
one-more n t End few = record { ticks = omega (arith, few.ticks); pictures = omega (arith, few.pictures); gaps = omega (arith, few.gaps); commands = omega (arith, few.commands); refused = omega (arith, few.refused); taken = omega (arith, few.taken) }

few-counted : (history : History) → AreFewSteps (length history) (steps_counted history)
few-counted [] = record { ticks = omega arith; pictures = omega arith; gaps = omega arith; commands = omega arith; refused = omega arith; taken = omega arith }
few-counted (s ∷ history) = one-more (length history) (steps_counted history) s (few-counted history)

pub few-steps : (history : History) (t : Tally) → CountsSteps history t → AreFewSteps (length history) t
few-steps history t counts =
    let few = few-counted history in
    record {
      ticks = omega (arith, few.ticks, ap (λ (u : Tally). u.ticks) counts);
      pictures = omega (arith, few.pictures, ap (λ (u : Tally). u.pictures) counts);
      gaps = omega (arith, few.gaps, ap (λ (u : Tally). u.gaps) counts);
      commands = omega (arith, few.commands, ap (λ (u : Tally). u.commands) counts);
      refused = omega (arith, few.refused, ap (λ (u : Tally). u.refused) counts);
      taken = omega (arith, few.taken, ap (λ (u : Tally). u.taken) counts);
    }
