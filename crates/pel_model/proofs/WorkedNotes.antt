-- What ticks took, worked: the serials of a lane in whatever place, and what may be posted.
use Rattle.std.proofs.Common.{◌≡◌, ℕ, ◌<◌, ◌≤◌, List, [], ◌∷◌, map, Option, Some, None, refl, arith}
use Rattle.pel_model.specs.declared.Quad.TheVariants.{One, Two, Three, Four}
use Rattle.pel_model.specs.declared.note.Take.{Take}
use Rattle.pel_model.specs.declared.note.TickNote.{TickNote}
use Rattle.pel_model.specs.Headline.{serials_in, serials_taken}
use Rattle.pel_model.specs.History.{History, Gap, Tick, End, taken_in}
use Rattle.pel_model.specs.Lanes.{RiseAbove}

abbrev took : (lane serial : ℕ) → Option Take
took lane serial = Some (record { lane = lane; serial = serial })

abbrev note_of : (one two three four : Option Take) → TickNote
note_of one two three four = record { step = 1; total = 1; taken_one = one; taken_two = two; taken_three = three; taken_four = four; waiting = 0 }

-- each place tells its own take
pub takes_of_places : map (λ q. taken_in q (note_of (took 0 1) (took 1 2) (took 2 3) (took 3 4))) (One ∷ Two ∷ Three ∷ Four ∷ [])
    ≡ took 0 1 ∷ took 1 2 ∷ took 2 3 ∷ took 3 4 ∷ []
takes_of_places = refl

-- one lane in all four places, and each of four lanes in its own; nothing where nothing was taken
pub serials_of_notes :
    (serials_in 5 (note_of (took 5 1) (took 5 2) (took 5 3) (took 5 4)) ≡ 1 ∷ 2 ∷ 3 ∷ 4 ∷ [])
    × (map (λ c. serials_in c (note_of (took 0 1) (took 1 2) (took 2 3) (took 3 4))) (0 ∷ 1 ∷ 2 ∷ 3 ∷ 4 ∷ [])
    ≡ (1 ∷ []) ∷ (2 ∷ []) ∷ (3 ∷ []) ∷ (4 ∷ []) ∷ [] ∷ [])
    × (serials_in 0 (note_of None None None None) ≡ [])
serials_of_notes = (refl, refl, refl)

-- in the order of the ticks, the newest of which stands first
pub serials_of_ticks :
    serials_taken (End ∷ Tick (note_of None None None (took 7 9)) ∷ Gap 7 ∷ Tick (note_of (took 6 1) None (took 7 4) None) ∷ []) 7 ≡ 4 ∷ 9 ∷ []
serials_of_ticks = refl

-- numbers that rise strictly, the first from above a bound
pub rising : RiseAbove 0 (1 ∷ 2 ∷ 9 ∷ [])
rising = (omega arith, (omega arith, (omega arith, tt)))

pub not_above : RiseAbove 1 (1 ∷ []) → ⊥
not_above rises = omega (arith, rises.0)

pub not_twice : RiseAbove 0 (2 ∷ 2 ∷ []) → ⊥
not_twice rises = omega (arith, rises.1.0)

pub not_back : RiseAbove 0 (1 ∷ 3 ∷ 2 ∷ []) → ⊥
not_back rises = omega (arith, rises.1.1.0)
