-- What the boxes of a hand show of a tick, and the picture that is composed of it.
use Rattle.std.proofs.Common.{◌≡◌, ℕ, ◌%◌, Bool, true, false, is_some, ◌∷◌, Option, None, Some, IfSome, sym, ◌∙◌, ap, subst}
use Rattle.h261_pic.specs.declared.hand.Hand.{Hand}
use Rattle.h261_pic.specs.Coded.{Coding, coding, IsFinished}
use Rattle.h261_pic.specs.Hand.{box_of}
use Rattle.h261_pic.proofs.Codings.{finished-codings}
use Rattle.history_laws.proofs.Composing.{shown, are-valid}
use Rattle.history_laws.proofs.Ticks.{taken, none-chosen}
use Rattle.pel_model.specs.declared.Format.TheVariants.{Qcif}
use Rattle.pel_model.specs.declared.Quad.{Quad}
use Rattle.pel_model.specs.declared.Quad.TheVariants.{One, Two, Three, Four}
use Rattle.pel_model.specs.declared.held.Held.{Held}
use Rattle.pel_model.specs.declared.note.Take.{Take}
use Rattle.pel_model.specs.declared.note.TickNote.{TickNote}
use Rattle.pel_model.specs.Composed.{composed_of}
use Rattle.pel_model.specs.History.{History, Tick, taken_in}
use Rattle.pel_model.specs.Legal.{Legal}
use Rattle.pel_model.specs.Records.{Picture}
use Rattle.pel_model.specs.Takes.{choice, take as take_in}
use Rattle.pel_model.specs.Valid.{IsValid}
use Rattle.pel_model.specs.Written.{picture_of, written_picture}
use Rattle.cif_mix.specs.Shows.{in_places, MayBeShown, MayShow, Shows, ShowsEach}
use Rattle.cif_mix.specs.Taken.{Took}

-- ---- what the places show

shows-of : (lanes : ℕ) (H : History) (q : Quad) (told : Option Take) (box : Coding) → Legal lanes H → take_in lanes H q ≡ told
    → IfSome (choice lanes H q) (λ h. box ≡ coding Qcif h.item) → Shows (is_some told) box (shown lanes H q)
shows-of lanes H q None box legal takes holds = ap picture_of (none-chosen lanes H q takes)
shows-of lanes H q (Some t) box legal takes holds =
    let found = taken lanes H q t takes in
    let h = found.1 in
    let is : choice lanes H q ≡ Some h = found.2.picture in
    let valid : IfSome (shown lanes H q) (IsValid Qcif) = are-valid lanes H legal q in
    let in_place : shown lanes H q ≡ Some h.item = ap picture_of is in
    let has : box ≡ coding Qcif h.item = subst (λ (c : Option (Held Picture)). IfSome c (λ k. box ≡ coding Qcif k.item)) is holds in
    subst (λ (p : Option Picture). Shows true box p) (sym in_place)
    (has, subst (λ (p : Option Picture). IfSome p (IsValid Qcif)) in_place valid)

shows-there : (lanes : ℕ) (H : History) (note : TickNote) (hand : Hand) (q : Quad) → Took lanes H note hand
    → Shows (is_some (taken_in q note)) (box_of hand q) (shown lanes H q)
shows-there lanes H note hand q took =
    shows-of lanes H q (taken_in q note) (box_of hand q) took.legal.0 (sym (took.legal.2.takes q)) (took.holds q)

may-of : (b : Bool) (box : Coding) (p : Option Picture) → Shows b box p → MayBeShown b box
may-of false box p s = λ e. absurd (no e)
  where
    no : false ≡ true → ⊥
    no e = cc
may-of true box None s = absurd s
may-of true box (Some p) s = λ e. (ap (λ (c : Coding). c.format) s.0, subst IsFinished (sym s.0) (finished-codings Qcif p s.1))

-- ---- which places are shown

module _ (note : TickNote) (one two three four : Bool) where
  pub places-are : one ≡ is_some note.taken_one → two ≡ is_some note.taken_two → three ≡ is_some note.taken_three → four ≡ is_some note.taken_four
      → (q : Quad) → in_places one two three four q ≡ is_some (taken_in q note)
  places-are in_one in_two in_three in_four One = in_one
  places-are in_one in_two in_three in_four Two = in_two
  places-are in_one in_two in_three in_four Three = in_three
  places-are in_one in_two in_three in_four Four = in_four

abbrev AreTaken : TickNote → (Quad → Bool) → Type 0
AreTaken note places = (q : Quad) → places q ≡ is_some (taken_in q note)

pub shows-each : (lanes : ℕ) (H : History) (note : TickNote) (hand : Hand) (places : Quad → Bool) → AreTaken note places → Took lanes H note hand
    → ShowsEach places hand (shown lanes H)
shows-each lanes H note hand places are took q =
    subst (λ (b : Bool). Shows b (box_of hand q) (shown lanes H q)) (sym (are q)) (shows-there lanes H note hand q took)

pub may-show : (lanes : ℕ) (H : History) (note : TickNote) (hand : Hand) (places : Quad → Bool) → AreTaken note places → Took lanes H note hand
    → MayShow places hand
may-show lanes H note hand places are took q =
    may-of (places q) (box_of hand q) (shown lanes H q) (shows-each lanes H note hand places are took q)

-- ---- the picture

pub written-is : (lanes : ℕ) (H : History) (note : TickNote) → Legal lanes (Tick note ∷ H)
    → composed_of (note.total % 32) (shown lanes H) ≡ written_picture lanes H note
written-is lanes H note legal = ap (λ (n : ℕ). composed_of (n % 32) (shown lanes H)) legal.2.total
