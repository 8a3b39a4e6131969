-- What a teller has to write of what happens, and what it writes of one event.
use Rattle.std.specs.Prelude.{◌≡◌, ℕ, ◌+◌, ◌^◌, ◌<◌, ◌≤◌, List, [], ◌∷◌, ◌++◌, length, take, Option, None, Some, Result, Ok, Err, IfOk}
use Rattle.std.specs.List.{concat}
use Rattle.std.specs.Io.KnownBytes.{Appends}
use Rattle.io_edge.specs.Causes.{HasCause}
use Rattle.io_edge.specs.Outside.{Output}
use Rattle.pel_model.specs.declared.Format.{Format}
use Rattle.rtp_h261.specs.Events.{Event}

-- the format of the pictures that it is told, and what it is to write of events, the first of which has this number:
-- pieces of octets, one after the other; and how many pieces it counted that were put whole, where it counts them
pub record Duty : Type 0 where
  pub format : Format
  pub pieces : ℕ → List Event → List (List ℕ)
  pub counts : Option ℕ

-- so many more were counted, as far as 64 bits hold them
abbrev pub CountsMore : (old new : Option ℕ) → ℕ → Type 0
CountsMore None new n = Unit {0}
CountsMore (Some count) new n = count + n < 2 ^ 64 → new ≡ Some (count + n)

-- these pieces were put whole, and so many octets are told; or, where the sink failed, of the only one a front that is not
-- all of it
abbrev pub PutsHere : {E : Type 0} → (here : List (List ℕ)) → (old new : Option (List ℕ)) → Result ℕ E → Type 0
PutsHere here old new (Ok octets) = Appends old new (concat here) × (octets ≡ length (concat here))
PutsHere here old new (Err _) =
    (piece : List ℕ) × (here ≡ piece ∷ []) × (n : ℕ) × (n < length piece) × Appends old new (take n piece)

-- those of them that were put whole
abbrev pub put_whole : {E : Type 0} → (here : List (List ℕ)) → Result ℕ E → List (List ℕ)
put_whole here (Ok octets) = here
put_whole here (Err _) = []

-- What a teller does at an event: what it has to write of the event is put, and what it has to write of the events after it
-- is left; and it counts the pieces that were put whole.
pub record TellsEvent {E : Type 0} (old new : Duty) (number : ℕ) (event : Event) (before after : Output)
    (result : Result ℕ E) : Type 0 where
  pub here : List (List ℕ)
  pub others : (events : List Event) → old.pieces number (event ∷ events) ≡ here ++ new.pieces (number + 1) events
  pub put : PutsHere here before.written after.written result
  pub counts : CountsMore old.counts new.counts (length (put_whole here result))
  pub few : IfOk result (λ octets. octets ≤ 2 ^ 18)
  pub format : new.format ≡ old.format
  pub cause : HasCause before.faults after.faults result
