-- What a place shows: while a lane stays in it, what the lane's own decoder shows behind the picture that was taken last.
use Rattle.std.proofs.Common.{◌≡◌, ◌⊎◌, inl, inr, ℕ, zero, suc, ◌+◌, ◌-◌, ◌%◌, ◌≤◌, Bool, true, false, cond, not, Option, Some, None, List, [], ◌∷◌, ◌++◌, length, slice_get, refl, sym, ap, subst, ◌∙◌, arith, length-append}
use Rattle.std.proofs.lemmas.Option.{none-some}
use Rattle.pel_model.specs.declared.Format.TheVariants.{Qcif, Cif}
use Rattle.pel_model.specs.declared.Quad.{Quad}
use Rattle.pel_model.specs.declared.held.Held.{Held}
use Rattle.pel_model.specs.declared.note.Take.{Take}
use Rattle.pel_model.specs.declared.note.TickNote.{TickNote}
use Rattle.pel_model.specs.Composed.{or_blank, groups_in}
use Rattle.pel_model.specs.Crop.{crop}
use Rattle.pel_model.specs.Decode.{decode}
use Rattle.pel_model.specs.Frames.{Frame}
use Rattle.pel_model.specs.History.{Step, Post, Gap, Order, Tick, End, History, arrivals, commands, lane_at, total_of, taken_in}
use Rattle.pel_model.specs.Lanes.{Arrival, Received, Missing}
use Rattle.pel_model.specs.Legal.{Legal}
use Rattle.pel_model.specs.Own.{shown_after, own}
use Rattle.pel_model.specs.Plan.{at, is_same_lane, changed}
use Rattle.pel_model.specs.Records.{Picture}
use Rattle.pel_model.specs.Refresh.{is_refresh}
use Rattle.pel_model.specs.Takes.{serial_or, last_taken, choice_of, choice, take}
use Rattle.pel_model.specs.Transform.{Transform}
use Rattle.pel_model.specs.Valid.{IsValid}
use Rattle.pel_model.specs.Written.{picture_of, written_picture, shown_frame}
use Rattle.frame_laws.specs.Composing.{place_after}
use Rattle.frame_laws.proofs.ComposedPictures.{composed-shows}
use Rattle.frame_laws.proofs.Refreshes.{refresh-law}
use Rattle.history_laws.proofs.Came.{own-append, came_by, arrivals-step}
use Rattle.history_laws.proofs.Composing.{shown, are-valid}
use Rattle.history_laws.proofs.Ticks.{Chooses, taken, none-chosen, follows, chosen-good, same-lane}

-- the last arrival that a decoder was given
pub own-last : (t : Transform) (fill : ℕ → Frame) (came : List (Arrival Picture)) (n : ℕ) (refresh : Bool) (picture : Picture) → 1 ≤ n →
    slice_get came (n - 1) ≡ Some (Received refresh picture) → own t fill came n ≡ decode Qcif t (own t fill came (n - 1)) picture
own-last t fill came zero refresh picture one found = absurd (omega arith)
own-last t fill came (suc n) refresh picture one found =
    let less : suc n - 1 ≡ n = omega arith in
    let found' : slice_get came n ≡ Some (Received refresh picture) = ap (slice_get came) (sym less) ∙ found in
    ap (shown_after t (own t fill came n) (fill (suc n))) found' ∙ ap (λ k. decode Qcif t (own t fill came k) picture) (sym less)

-- what a place shows behind a tick
shows-behind : (t : Transform) (opening : Frame) (lanes : ℕ) (H : History) (note : TickNote) (q : Quad) → Legal lanes H →
    crop q (shown_frame t opening lanes (Tick note ∷ H)) ≡ place_after t (crop q (shown_frame t opening lanes H)) (shown lanes H q)
shows-behind t opening lanes H note q legal =
    composed-shows t (shown_frame t opening lanes H) (total_of (Tick note ∷ H) % 32) (shown lanes H) q (are-valid lanes H legal)

pub unchanged-there : (t : Transform) (opening : Frame) (lanes : ℕ) (H : History) (note : TickNote) (q : Quad) → Legal lanes H → choice lanes H q ≡ None →
    crop q (shown_frame t opening lanes (Tick note ∷ H)) ≡ crop q (shown_frame t opening lanes H)
unchanged-there t opening lanes H note q legal nothing =
    shows-behind t opening lanes H note q legal
    ∙ ap (λ p. place_after t (crop q (shown_frame t opening lanes H)) (picture_of p)) nothing

decoded-there : (t : Transform) (opening : Frame) (lanes : ℕ) (H : History) (note : TickNote) (q : Quad) (c : ℕ) (h : Held Picture) → Legal lanes H → Chooses lanes H q c h →
    crop q (shown_frame t opening lanes (Tick note ∷ H)) ≡ decode Qcif t (crop q (shown_frame t opening lanes H)) h.item
decoded-there t opening lanes H note q c h legal chosen =
    shows-behind t opening lanes H note q legal
    ∙ ap (λ p. place_after t (crop q (shown_frame t opening lanes H)) (picture_of p)) chosen.picture

module _ (t : Transform) (opening : Frame) (fill : ℕ → Frame) (lanes : ℕ) where
  abbrev pub Shows : History → Type 0
  Shows H =
      (q : Quad) (c n : ℕ) → lane_at lanes H q ≡ Some c → last_taken lanes H q ≡ Some n →
      (n ≤ length (arrivals H c)) × (crop q (shown_frame t opening lanes H) ≡ own t fill (arrivals H c) n)

  taken-shows : (H : History) (note : TickNote) (q : Quad) (c : ℕ) (h : Held Picture) → Legal lanes H → Shows H → Chooses lanes H q c h →
      crop q (shown_frame t opening lanes (Tick note ∷ H)) ≡ own t fill (arrivals H c) h.serial
  taken-shows H note q c h legal shows chosen =
      let good = chosen-good lanes H q c h legal chosen in
      let before = crop q (shown_frame t opening lanes H) in
      let own_before = own t fill (arrivals H c) (h.serial - 1) in
      let same : decode Qcif t before h.item ≡ decode Qcif t own_before h.item =
      elim (follows (last_taken lanes H q) h chosen.follows) as (λ _. decode Qcif t before h.item ≡ decode Qcif t own_before h.item) [
        | inl refreshes ↦ refresh-law t before own_before h.item good.0.valid (sym good.1 ∙ refreshes)
        | inr next ↦
            let less : next.0 ≡ h.serial - 1 = omega (arith, next.2) in
            ap (λ f. decode Qcif t f h.item) ((shows q c next.0 chosen.lane next.1).1 ∙ ap (own t fill (arrivals H c)) less)
      ] in
      decoded-there t opening lanes H note q c h legal chosen ∙ same
      ∙ sym (own-last t fill (arrivals H c) h.serial h.refresh h.item chosen.from.from_one chosen.from.received)

  -- a step that changes neither the places nor what they show
  kept-shows : (H : History) (s : Step) (q : Quad) (c n : ℕ) →
      (n ≤ length (arrivals H c)) × (crop q (shown_frame t opening lanes H) ≡ own t fill (arrivals H c) n) →
      (n ≤ length (arrivals (s ∷ H) c)) × (crop q (shown_frame t opening lanes H) ≡ own t fill (arrivals (s ∷ H) c) n)
  kept-shows H s q c n shows =
      let more = arrivals-step s H c in (
        omega (arith, shows.0, ap length more ∙ length-append (arrivals H c) (came_by s c)),
        shows.1 ∙ sym (own-append t fill (arrivals H c) (came_by s c) n shows.0) ∙ ap (λ xs. own t fill xs n) (sym more),
      )

  some-same : (m n : ℕ) → ◌≡◌ {A = Option ℕ} (Some m) (Some n) → m ≡ n
  some-same m n e = cc

  tick-shows : (H : History) (note : TickNote) (q : Quad) (c n : ℕ) (told : Option Take) → Legal lanes H → Shows H → taken_in q note ≡ take lanes H q → taken_in q note ≡ told →
      lane_at lanes H q ≡ Some c → serial_or told (last_taken lanes H q) ≡ Some n →
      (n ≤ length (arrivals H c)) × (crop q (shown_frame t opening lanes (Tick note ∷ H)) ≡ own t fill (arrivals H c) n)
  tick-shows H note q c n None legal shows rule is stands last =
      let before = shows q c n stands last in
      (before.0, unchanged-there t opening lanes H note q legal (none-chosen lanes H q (sym rule ∙ is)) ∙ before.1)
  tick-shows H note q c n (Some told) legal shows rule is stands last =
      let found = taken lanes H q told (sym rule ∙ is) in
      let chosen = found.2 in
      let same_lane : found.0 ≡ c = some-same found.0 c (sym chosen.lane ∙ stands) in
      let same_serial : found.1.serial ≡ n = found.4 ∙ some-same told.serial n last in (
        subst (λ k. n ≤ length (arrivals H k)) same_lane (omega (arith, same_serial, chosen.from.given)),
        taken-shows H note q found.0 found.1 legal shows chosen
            ∙ ap (λ k. own t fill (arrivals H k) found.1.serial) same_lane
            ∙ ap (own t fill (arrivals H c)) same_serial,
      )

  order-shows : (H : History) (q : Quad) (c n : ℕ) (now before : Option ℕ) (last : Option ℕ) → now ≡ Some c →
      cond (not (is_same_lane now before)) None last ≡ Some n → (before ≡ Some c) × (last ≡ Some n)
  order-shows H q c n now before last stands e =
      elim (is_same_lane now before) as (λ v. is_same_lane now before ≡ v → cond (not v) None last ≡ Some n → (before ≡ Some c) × (last ≡ Some n)) [
        | true ↦ λ same kept. (sym (same-lane now before same) ∙ stands, kept)
        | false ↦ λ other none. absurd (none-some n none)
      ] refl e

  pub shows : (H : History) → Legal lanes H → Shows H
  shows [] legal q c n stands last = absurd (none-some n last)
  shows (Post lane picture ∷ H) legal q c n stands last = kept-shows H (Post lane picture) q c n (shows H legal.0 q c n stands last)
  shows (Gap lane ∷ H) legal q c n stands last = kept-shows H (Gap lane) q c n (shows H legal.0 q c n stands last)
  shows (Order command reply ∷ H) legal q c n stands last =
      let kept = order-shows H q c n (at lanes (command ∷ commands H) q) (at lanes (commands H) q) (last_taken lanes H q) stands last in
      shows H legal.0 q c n kept.0 kept.1
  shows (Tick note ∷ H) legal q c n stands last =
      tick-shows H note q c n (taken_in q note) legal.0 (shows H legal.0) (legal.2.takes q) refl stands last
  shows (End ∷ H) legal q c n stands last = shows H legal.0 q c n stands last
