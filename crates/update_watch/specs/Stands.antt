-- What a watch stands for: the pictures and the gaps that it was given, in their order.
use Rattle.std.specs.Prelude.{◌≡◌, ℕ, ◌-◌, ◌^◌, min, Bool, true, List, [], ◌∷◌, ◌++◌, Option, Some, None}
use Rattle.pel_model.specs.declared.Format.{Format}
use Rattle.pel_model.specs.Records.{Picture}
use Rattle.update_laws.specs.Kept.{KeepsUpdating, transmissions, run}
use Rattle.update_watch.specs.Counting.{count_at}
use Rattle.update_watch.specs.declared.overdue.Overdue.{Overdue}
use Rattle.update_watch.specs.Overdue.{overdue_places, told_overdue}

-- a watch, as its callers see it
pub record WatchState : Type 0 where
  pub format : Format
  pub counts : List ℕ
  pub kept : Bool

-- the pictures behind the last gap, where these came before
abbrev pub stretch_behind : (stretch : List Picture) → List (Option Picture) → List Picture
stretch_behind stretch [] = stretch
stretch_behind stretch (Some picture ∷ came) = stretch_behind (stretch ++ picture ∷ []) came
stretch_behind stretch (None ∷ came) = stretch_behind [] came

abbrev pub stretch_of : List (Option Picture) → List Picture
stretch_of came = stretch_behind [] came

-- its counts are the runs in the present stretch, as far as 255, and it knows whether every stretch is Kept
pub record StandsFor (watch : WatchState) (came : List (Option Picture)) : Type 0 where
  pub runs :
      (group address : ℕ) →
      count_at watch.counts group address ≡ min (run (transmissions group address (stretch_of came))) (2 ^ 8 - 1)
  pub kept : watch.kept ≡ true → KeepsUpdating came
  pub broken : KeepsUpdating came → watch.kept ≡ true

-- a picture was seen: it tells the places that are overdue at it
pub record Sees (picture : Picture) (old new : WatchState) (result : Option Overdue) : Type 0 where
  pub stands : (came : List (Option Picture)) → StandsFor old came → StandsFor new (came ++ Some picture ∷ [])
  pub tells :
      (came : List (Option Picture)) → StandsFor old came →
      result ≡ told_overdue (overdue_places (stretch_of came) picture)

-- a gap was seen
pub record PassesGap (old new : WatchState) : Type 0 where
  pub format : new.format ≡ old.format
  pub stands : (came : List (Option Picture)) → StandsFor old came → StandsFor new (came ++ None ∷ [])
