-- Worked values of forced updating: runs, windows, what is sent at a place, and what a worked conference writes there.
use Rattle.std.proofs.Common.{◌≡◌, ℕ, Bool, true, false, List, [], ◌∷◌, ◌++◌, length, map, replicate, Option, Some, None, refl, sym, ap, arith, length-append}
use Rattle.std.proofs.lemmas.Bool.{true≢false}
use Rattle.pel_model.specs.declared.Quad.TheVariants.{One, Two}
use Rattle.pel_model.specs.declared.chair.Command.TheVariants.{Place}
use Rattle.pel_model.specs.declared.chair.Reply.TheVariants.{Done}
use Rattle.pel_model.specs.declared.note.Take.{Take}
use Rattle.pel_model.specs.declared.note.TickNote.{TickNote}
use Rattle.pel_model.specs.History.{Post, Gap, Order, Tick, History, arrivals}
use Rattle.pel_model.specs.Records.{Macroblock}
use Rattle.history_laws.proofs.WorkedPictures.{grey, small, grey_macroblock, small_macroblock}
use Rattle.update_laws.specs.Kept.{IsPlace, transmissions, is_update, AreUpdated, Kept, KeepsUpdating, run, is_overdue}
use Rattle.update_laws.specs.Updating.{picture_in, written_pictures}

-- ---- runs

abbrev intra : Macroblock
intra = grey_macroblock 1

abbrev inter : Macroblock
inter = small_macroblock

pub runs :
    (run [] ≡ 0) × (run (intra ∷ []) ≡ 0) × (run (inter ∷ inter ∷ []) ≡ 2) × (run (intra ∷ inter ∷ inter ∷ []) ≡ 2)
    × (run (inter ∷ inter ∷ intra ∷ inter ∷ []) ≡ 1) × (run (inter ∷ intra ∷ []) ≡ 0)
runs = (refl, refl, refl, refl, refl, refl)

-- ---- windows: 131 transmissions are too few for one, 132 are one

pub too_few : AreUpdated (replicate 131 inter)
too_few before window after e long =
    absurd (omega (arith, ap length e, length-append (before ++ window) after, length-append before window, long))

pub none_in_132 : AreUpdated (replicate 132 inter) → ⊥
none_in_132 updated = true≢false (sym (updated [] (replicate 132 inter) [] refl refl))

pub none_behind : AreUpdated (intra ∷ replicate 132 inter) → ⊥
none_behind updated = true≢false (sym (updated (intra ∷ []) (replicate 132 inter) [] refl refl))

-- ---- what is sent at a place

pub sent :
    (transmissions 1 1 (grey ∷ small ∷ []) ≡ intra ∷ inter ∷ []) × (transmissions 5 33 (grey ∷ small ∷ []) ≡ grey_macroblock 33 ∷ [])
    × (transmissions 2 1 (grey ∷ small ∷ []) ≡ [])
sent = (refl, refl, refl)

-- ---- overdue at the 132nd, and at no other

pub overdue :
    (is_overdue (grey ∷ replicate 130 small) small 1 1 ≡ false) × (is_overdue (grey ∷ replicate 131 small) small 1 1 ≡ true)
    × (is_overdue (grey ∷ replicate 132 small) small 1 1 ≡ false) × (is_overdue (replicate 131 small) small 1 1 ≡ true)
    × (is_overdue (replicate 131 small ++ grey ∷ []) small 1 1 ≡ false)
    × (is_overdue (grey ∷ replicate 131 small) small 1 2 ≡ false) × (is_overdue (replicate 132 small) grey 1 1 ≡ false)
overdue = (refl, refl, refl, refl, refl, refl, refl)

first-place : IsPlace 1 1
first-place = record { group_from = omega arith; group_to = omega arith; address_from = omega arith; address_to = omega arith }

pub not_kept : Kept (grey ∷ replicate 132 small) → ⊥
not_kept kept = none_behind (kept 1 1 first-place)

-- what stands behind a gap is a stretch of its own
pub not_kept_behind_gap : KeepsUpdating (Some grey ∷ None ∷ replicate 132 (Some small)) → ⊥
not_kept_behind_gap keeps = none_in_132 (keeps (Some grey ∷ None ∷ []) [] (replicate 132 small) refl 1 1 first-place)

-- ---- in a conference: what came of lane 0, and where what is written sends an Intra macroblock or another

abbrev took : (lane serial : ℕ) → Option Take
took lane serial = Some (record { lane = lane; serial = serial })

abbrev note_of : (total : ℕ) → (one two : Option Take) → TickNote
note_of total one two =
    record { step = 1; total = total; taken_one = one; taken_two = two; taken_three = None; taken_four = None; waiting = 0 }

-- lane 0 stands in place One, and lane 1 in place Two; the newest step stands first
abbrev conference : History
conference =
    Tick (note_of 3 (took 0 5) None) ∷ Post 0 grey
    ∷ Tick (note_of 2 (took 0 2) (took 1 1)) ∷ Post 1 grey ∷ Post 0 small ∷ Gap 0
    ∷ Tick (note_of 1 (took 0 1) None) ∷ Post 0 small ∷ Post 0 grey
    ∷ Order (Place Two 1) Done ∷ Order (Place One 0) Done ∷ []

pub came : map picture_in (arrivals conference 0) ≡ Some grey ∷ Some small ∷ None ∷ Some small ∷ Some grey ∷ []
came = refl

abbrev updates_at : (group address : ℕ) → List Bool
updates_at group address = map is_update (transmissions group address (written_pictures 2 conference))

pub written_there :
    (length (written_pictures 2 conference) ≡ 3) × (updates_at 1 1 ≡ true ∷ false ∷ true ∷ [])
    × (updates_at 1 2 ≡ true ∷ true ∷ []) × (updates_at 2 33 ≡ true ∷ []) × (updates_at 7 1 ≡ [])
written_there = (refl, refl, refl, refl, refl)
