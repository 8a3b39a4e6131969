-- A tick within a legal history, and the headline put together.
use Rattle.std.proofs.Common.{◌≡◌, ◌⊎◌, inl, inr, ℕ, ◌+◌, ◌-◌, ◌≤◌, ◌||◌, Bool, true, false, Option, Some, None, List, [], ◌∷◌, ◌++◌, length, slice_get, refl, sym, ap, subst, ◌∙◌, arith}
use Rattle.pel_model.specs.declared.Format.TheVariants.{Qcif, Cif}
use Rattle.pel_model.specs.declared.Quad.{Quad}
use Rattle.pel_model.specs.declared.held.Held.{Held}
use Rattle.pel_model.specs.declared.note.Take.{Take}
use Rattle.pel_model.specs.declared.note.TickNote.{TickNote}
use Rattle.pel_model.specs.Crop.{crop}
use Rattle.pel_model.specs.Frames.{Frame}
use Rattle.pel_model.specs.Headline.{HasTick, IsWritable, Headline, IsReceived, GoesOn, Tenancies}
use Rattle.pel_model.specs.History.{Tick, History, arrivals, taken_in}
use Rattle.pel_model.specs.Lanes.{Arrival, Received, may_follow}
use Rattle.pel_model.specs.Legal.{IsNote, Legal}
use Rattle.pel_model.specs.Own.{own}
use Rattle.pel_model.specs.Records.{Picture}
use Rattle.pel_model.specs.Regions.{blank}
use Rattle.pel_model.specs.Takes.{serial_or, last_taken, take}
use Rattle.pel_model.specs.Transform.{Transform}
use Rattle.pel_model.specs.Valid.{IsValid}
use Rattle.pel_model.specs.Written.{written_picture, shown_frame}
use Rattle.history_laws.proofs.Came.{own-append, arrivals-later}
use Rattle.history_laws.proofs.Composing.{writable}
use Rattle.history_laws.proofs.Rising.{in-order}
use Rattle.history_laws.proofs.Showing.{shows, unchanged-there}
use Rattle.history_laws.proofs.Ticks.{taken, none-chosen, follows}

legal-later : (lanes : ℕ) (later H : History) → Legal lanes (later ++ H) → Legal lanes H
legal-later lanes [] H legal = legal
legal-later lanes (s ∷ later) H legal = legal-later lanes later H legal.0

pub tick-legal : (lanes : ℕ) (H before : History) (note : TickNote) → HasTick H note before → Legal lanes H → Legal lanes (Tick note ∷ before)
tick-legal lanes H before note has legal = legal-later lanes has.0 (Tick note ∷ before) (subst (Legal lanes) has.1 legal)

-- what comes later is behind what had come
came-before : (H before : History) (note : TickNote) (c : ℕ) → HasTick H note before →
    (more : List (Arrival Picture)) × (arrivals H c ≡ arrivals before c ++ more)
came-before H before note c has =
    let rest = arrivals-later has.0 (Tick note ∷ before) c in
    (rest.0, ap (λ K. arrivals K c) has.1 ∙ rest.1)

goes-on : (last : Option ℕ) (h : Held Picture) → may_follow last h ≡ true → GoesOn last h.serial h.refresh
goes-on None h e = first h.refresh e
  where
    first : (b : Bool) → (b || false) ≡ true → b ≡ true
    first true e = refl
    first false e = e
goes-on (Some m) h e =
    elim (follows (Some m) h e) as (λ _. (h.refresh ≡ true) ⊎ (h.serial ≡ m + 1)) [
      | inl refreshes ↦ inl refreshes
      | inr next ↦ let same : next.0 ≡ m = cc in inr (next.2 ∙ ap (λ k. k + 1) same)
    ]

pub tenancies : (lanes : ℕ) (H : History) → Legal lanes H → Tenancies lanes H
tenancies lanes H legal before note q told has is =
    let here = tick-legal lanes H before note has legal in
    let found = taken lanes before q told (sym (here.2.takes q) ∙ is) in
    let h = found.1 in (
      h.refresh,
      h.item,
      subst (λ (k : ℕ). slice_get (arrivals before k) (told.serial - 1) ≡ Some (Received h.refresh h.item)) found.3
          (subst (λ (n : ℕ). slice_get (arrivals before found.0) (n - 1) ≡ Some (Received h.refresh h.item)) found.4 found.2.from.received),
      subst (λ (n : ℕ). GoesOn (last_taken lanes before q) n h.refresh) found.4 (goes-on (last_taken lanes before q) h found.2.follows),
    )

pub headline : (lanes : ℕ) (H : History) → Legal lanes H → Headline lanes H
headline lanes H legal = record {
  legal = λ before note has. writable lanes before note (tick-legal lanes H before note has legal).0;
  shows = λ t opening fill before note q told has is.
      let here = tick-legal lanes H before note has legal in
      let found = taken lanes before q told (sym (here.2.takes q) ∙ is) in
      let last : last_taken lanes (Tick note ∷ before) q ≡ Some told.serial = ap (λ (k : Option Take). serial_or k (last_taken lanes before q)) is in
      let now = shows t opening fill lanes (Tick note ∷ before) here q found.0 told.serial found.2.lane last in
      let more = came-before H before note found.0 has in
      now.1
      ∙ sym (own-append t fill (arrivals before found.0) more.0 told.serial now.0)
      ∙ ap (λ xs. own t fill xs told.serial) (sym more.1)
      ∙ ap (λ k. own t fill (arrivals H k) told.serial) found.3;
  unchanged = λ t opening before note q has is.
      let here = tick-legal lanes H before note has legal in
      unchanged-there t opening lanes before note q here.0
      (none-chosen lanes before q (sym (here.2.takes q) ∙ is));
  chosen = λ before note q has. (tick-legal lanes H before note has legal).2.takes q;
  in_order = λ c. in-order lanes H c legal;
}
