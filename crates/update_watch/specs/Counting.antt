-- Inner contracts alone use this; nothing here has to be believed.
-- The counts of a watch: 396 of them, one for each place of CIF, and what a picture's marks make of them.
use Rattle.std.specs.Prelude.{◌≡◌, ℕ, ◌+◌, ◌-◌, ◌*◌, ◌^◌, ◌==◌, ◌&&◌, nat_le, min, Bool, if◌then◌else◌, List, [], ◌∷◌, ◌++◌, length, slice_index_or, slice_set, replicate, filter, Option, Some, None, is_some}
use Rattle.pel_model.specs.declared.Format.{Format}
use Rattle.pel_model.specs.declared.Mark.{Mark}
use Rattle.pel_model.specs.Records.{Macroblock, Picture}
use Rattle.rtp_h261.specs.Events.{Event, Lost, Shown, Refused}
use Rattle.rtp_h261.specs.Tellers.{Duty}
use Rattle.update_laws.specs.Kept.{sent_at, is_update, updated_within}
use Rattle.update_watch.specs.declared.overdue.Overdue.{Overdue}
use Rattle.update_watch.specs.Overdue.{Place, sent_places, told_overdue, overdue_lines}

-- where a place is counted
abbrev pub slot_of : (group address : ℕ) → ℕ
slot_of group address = 33 * (group - 1) + (address - 1)

abbrev pub slot_count : ℕ
slot_count = 396

abbrev pub is_place : (group address : ℕ) → Bool
is_place group address = (nat_le 1 group && nat_le group 12) && (nat_le 1 address && nat_le address 33)

abbrev pub count_at : List ℕ → (group address : ℕ) → ℕ
count_at counts group address =
    if is_place group address then slice_index_or counts (slot_of group address) 0 else 0

-- one transmission more, counted as far as 255
abbrev pub count_more : ℕ → Bool → ℕ
count_more n update = if update then 0 else min (n + 1) (2 ^ 8 - 1)

-- ---- by marks

abbrev pub passed : List ℕ → Mark → List ℕ
passed counts m =
    slice_set counts (slot_of m.group m.address)
    (count_more (slice_index_or counts (slot_of m.group m.address) 0) m.intra)

abbrev pub is_late_mark : List ℕ → Mark → Bool
is_late_mark counts m = slice_index_or counts (slot_of m.group m.address) 0 == updated_within

abbrev pub counts_behind : List ℕ → List Mark → List ℕ
counts_behind counts [] = counts
counts_behind counts (m ∷ ms) = counts_behind (passed counts m) ms

abbrev pub place_of_mark : Mark → Place
place_of_mark m = record { group = m.group; address = m.address }

abbrev pub late_marks : List ℕ → List Mark → List Place
late_marks counts [] = []
late_marks counts (m ∷ ms) =
    if is_late_mark (passed counts m) m then place_of_mark m ∷ late_marks (passed counts m) ms
    else late_marks (passed counts m) ms

-- one place more is told
abbrev pub told_more : Option Overdue → Place → Overdue
told_more None place = record { group = place.group; address = place.address; places = 1 }
told_more (Some overdue) place = record overdue { places = min (overdue.places + 1) (2 ^ 16 - 1) }

abbrev pub told_behind : Option Overdue → List Place → Option Overdue
told_behind overdue [] = overdue
told_behind overdue (place ∷ places) = told_behind (Some (told_more overdue place)) places

-- ---- by pictures

abbrev pub count_sent : ℕ → Option Macroblock → ℕ
count_sent n None = n
count_sent n (Some m) = count_more n (is_update m)

abbrev pub is_late : (counted : ℕ → ℕ → ℕ) → Picture → Place → Bool
is_late counted picture place =
    is_some (sent_at place.group place.address picture)
    && (count_sent (counted place.group place.address) (sent_at place.group place.address picture) == updated_within)

abbrev pub late_places : (counted : ℕ → ℕ → ℕ) → Picture → List Place
late_places counted picture = filter (is_late counted picture) (sent_places picture)

abbrev pub counted_on : (counted : ℕ → ℕ → ℕ) → Picture → ℕ → ℕ → ℕ
counted_on counted picture group address = count_sent (counted group address) (sent_at group address picture)

abbrev pub counted_none : ℕ → ℕ → ℕ
counted_none group address = 0

-- the counts that a watch has, and what they make of a picture
pub record Counts : Type 0 where
  pub format : Format
  pub counts : List ℕ

pub record CountsPicture (picture : Picture) (old new : Counts) (result : Option Overdue) : Type 0 where
  pub format : new.format ≡ old.format
  pub counted : (group address : ℕ) → count_at new.counts group address ≡ counted_on (count_at old.counts) picture group address
  pub late : result ≡ told_overdue (late_places (count_at old.counts) picture)

-- ---- by events

abbrev pub late_by : (counted : ℕ → ℕ → ℕ) → (n : ℕ) → List Event → List (List ℕ)
late_by counted n [] = []
late_by counted n (Lost ∷ events) = late_by counted_none (n + 1) events
late_by counted n (Refused place why ∷ events) = late_by counted_none (n + 1) events
late_by counted n (Shown picture ∷ events) =
    overdue_lines n (told_overdue (late_places counted picture)) ++ late_by (counted_on counted picture) (n + 1) events

-- what a teller is to write that has these counts, and wrote so many lines
abbrev pub watch_duty : Counts → (lines : ℕ) → Duty
watch_duty counts lines =
    record { format = counts.format; pieces = late_by (count_at counts.counts); counts = Some lines }
