-- Inner contracts alone use this; nothing here has to be believed.
-- Where a picture can end that has its first fault at a place.
use Rattle.std.specs.Prelude.{◌≡◌, ◌⊎◌, ℕ, ◌+◌, ◌≤◌, Bool, true, false, List, take, Option, None, Some}
use Rattle.bare_stream.specs.Streams.{EndsAtStart}
use Rattle.h261_pic.specs.Coded.{Coding, nothing, HoldsAccepted, IsFinished}
use Rattle.pel_model.specs.declared.Format.{Format}

-- 16 bits before the fault, or 0 to 7 bits behind it
abbrev pub IsTried : (fault e : ℕ) → Type 0
IsTried fault e = (e + 16 ≡ fault) ⊎ ((fault ≤ e) × (e ≤ fault + 7))

-- a picture ends at one of these places, which `coded` has; or at none, and `coded` is empty
abbrev pub FindsEnd : Format → List Bool → (fault : ℕ) → Option ℕ → Coding → Type 0
FindsEnd format bits fault (Some e) coded =
    EndsAtStart format bits e × HoldsAccepted format (take e bits) coded × IsFinished coded
FindsEnd format bits fault None coded =
    (coded ≡ nothing format) × ((e : ℕ) → IsTried fault e → EndsAtStart format bits e → ⊥)

-- a picture ends there, which `coded` has; or none does, and `coded` is empty
abbrev pub LastsBefore : Format → List Bool → (e : ℕ) → Bool → Coding → Type 0
LastsBefore format bits e true coded =
    EndsAtStart format bits e × HoldsAccepted format (take e bits) coded × IsFinished coded
LastsBefore format bits e false coded = (EndsAtStart format bits e → ⊥) × (coded ≡ nothing format)
