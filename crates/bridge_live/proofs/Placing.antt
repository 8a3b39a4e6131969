-- The ticks of a history, each with the history before it: a tick of the mixer that stands in the turns is one of them.
use Rattle.std.proofs.Common.{◌≡◌, ℕ, ◌≤◌, Bool, true, false, ◌||◌, List, [], ◌∷◌, ◌++◌, reverse, filter, refl, sym, ap, ap₂, subst, ◌∙◌, arith, append-nil}
use Rattle.std.proofs.lemmas.List.{map-append, same_from_push}
use Rattle.std.proofs.lemmas.List.Elements.{filter-append}
use Rattle.std.specs.List.{AllByRecursion, list_any}
use mathlib.Core.List.{reverse-cons}
use Rattle.cif_pack.specs.PicturesWritten.{pictures_written, picture_at}
use Rattle.hall_core.specs.Machine.{turn_tells}
use Rattle.pel_model.specs.declared.note.TickNote.{TickNote}
use Rattle.pel_model.specs.Headline.{HasTick}
use Rattle.pel_model.specs.History.{Step, Tick, End, History, total_of, is_end, has_ended}
use Rattle.pel_model.specs.Legal.{Legal}
use Rattle.pel_model.specs.Records.{Picture}
use Rattle.hall_lock.specs.Telling.{StepsFrom}
use Rattle.bridge_live.specs.Mixer.{MadeTick, StandsIn, steps_gone, ticks_made, pictures_of}
use Rattle.bridge_live.specs.Serve.{tick_steps}
use Rattle.bridge_live.proofs.Telling.{HallTurn, one-telling, steps-split, steps-one, steps-grow, is_mixed}

-- the first of them first
abbrev pub ticks_in : History → List MadeTick
ticks_in [] = []
ticks_in (Tick note ∷ H) = ticks_in H ++ record { before = H; note = note } ∷ []
ticks_in (_ ∷ H) = ticks_in H

abbrev pub is_tick : Step → Bool
is_tick (Tick note) = true
is_tick _ = false

pub pictures-are : (lanes : ℕ) (H : History) → pictures_written lanes H ≡ pictures_of lanes (ticks_in H)
pictures-are lanes [] = refl
pictures-are lanes (Tick note ∷ H) =
    ap (λ (w : List (ℕ × Picture)). w ++ picture_at lanes H note ∷ []) (pictures-are lanes H)
    ∙ sym (map-append (λ (t : MadeTick). picture_at lanes t.before t.note) (ticks_in H) (record { before = H; note = note } ∷ []))
pictures-are lanes (_ ∷ H) = pictures-are lanes H

pub gone-are : (H : History) → steps_gone (ticks_in H) ≡ tick_steps H
gone-are [] = refl
gone-are (Tick note ∷ H) =
    map-append (λ (t : MadeTick). t.note.step) (ticks_in H) (record { before = H; note = note } ∷ [])
    ∙ ap (λ (w : List ℕ). w ++ note.step ∷ []) (gone-are H)
gone-are (_ ∷ H) = gone-are H

-- what is picked of a history is what is picked of its former steps, and then of the last one
pub picked-more : (pick : Step → Bool) (s : Step) (H : History) → filter pick (reverse (s ∷ H)) ≡ filter pick (reverse H) ++ filter pick (s ∷ [])
picked-more pick s H = ap (filter pick) (reverse-cons s H) ∙ filter-append pick (reverse H) (s ∷ [])

pub made-are : (H : History) → ticks_made (ticks_in H) ≡ filter is_tick (reverse H)
made-are [] = refl
made-are (Tick note ∷ H) =
    map-append (λ (t : MadeTick). Tick t.note) (ticks_in H) (record { before = H; note = note } ∷ [])
    ∙ (ap (λ (w : List Step). w ++ Tick note ∷ []) (made-are H) ∙ sym (picked-more is_tick (Tick note) H))
made-are (s ∷ H) = made-are H ∙ (sym (append-nil (filter is_tick (reverse H))) ∙ sym (picked-more is_tick s H))

-- ---- one place for each tick

pub legal-suffix : (lanes : ℕ) (m K : History) → Legal lanes (m ++ K) → Legal lanes K
legal-suffix lanes [] K h = h
legal-suffix lanes (s ∷ m) K h = legal-suffix lanes m K h.0

total-grows : (m K : History) → total_of K ≤ total_of (m ++ K)
total-grows [] K = omega arith
total-grows (Tick note ∷ m) K = omega (arith, total-grows m K)
total-grows (_ ∷ m) K = total-grows m K

behind : (lanes : ℕ) (note : TickNote) (a b m : History) → Legal lanes (Tick note ∷ a) → a ≡ m ++ Tick note ∷ b → ⊥
behind lanes note a b m legal e =
    let inner : Legal lanes (Tick note ∷ b) = legal-suffix lanes m (Tick note ∷ b) (subst (Legal lanes) e legal.0) in
    omega (arith, legal.2.total, legal.2.low, inner.2.total, total-grows m (Tick note ∷ b), ap total_of e)

one-place : (lanes : ℕ) (note : TickNote) (a b l m : History) → Legal lanes (l ++ Tick note ∷ a) → l ++ Tick note ∷ a ≡ m ++ Tick note ∷ b → a ≡ b
one-place lanes note a b [] [] legal e = cc e
one-place lanes note a b [] (y ∷ m) legal e = absurd (behind lanes note a b m legal (cc e))
one-place lanes note a b (x ∷ l) [] legal e = absurd (behind lanes note b a l (subst (Legal lanes) e legal) (cc (sym e)))
one-place lanes note a b (x ∷ l) (y ∷ m) legal e = one-place lanes note a b l m legal.0 (cc e)

abbrev pub IsAt : History → MadeTick → Type 0
IsAt H t = HasTick H t.note t.before

one-before : (lanes : ℕ) (H : History) (note : TickNote) (a b : History) → Legal lanes H → HasTick H note a → HasTick H note b → a ≡ b
one-before lanes H note a b legal p q =
    one-place lanes note a b p.0 q.0 (subst (Legal lanes) p.1 legal) (sym p.1 ∙ q.1)

pub same-ticks : (lanes : ℕ) (H : History) → Legal lanes H → (xs ys : List MadeTick) → AllByRecursion (IsAt H) xs → AllByRecursion (IsAt H) ys
    → ticks_made xs ≡ ticks_made ys → xs ≡ ys
same-ticks lanes H legal [] [] at-x at-y e = refl
same-ticks lanes H legal [] (y ∷ ys) at-x at-y e = absurd (cc e)
same-ticks lanes H legal (x ∷ xs) [] at-x at-y e = absurd (cc e)
same-ticks lanes H legal (x ∷ xs) (y ∷ ys) at-x at-y e =
    let notes : x.note ≡ y.note = cc e in
    let rest : ticks_made xs ≡ ticks_made ys = cc e in
    let befores : x.before ≡ y.before =
    one-before lanes H y.note x.before y.before legal (subst (λ (n : TickNote). HasTick H n x.before) notes at-x.0) at-y.0 in
    ap₂ (λ (t : MadeTick) (ts : List MadeTick). t ∷ ts)
    (ap₂ (λ (b : History) (n : TickNote). record { before = b; note = n }) befores notes)
    (same-ticks lanes H legal xs ys at-x.1 at-y.1 rest)

module _ {X : Type 0} where
  pub all-map : (P Q : X → Type 0) → ((x : X) → P x → Q x) → (xs : List X) → AllByRecursion P xs → AllByRecursion Q xs
  all-map P Q f [] all = tt
  all-map P Q f (x ∷ xs) all = (f x all.0, all-map P Q f xs all.1)

  pub all-push : (P : X → Type 0) → (xs : List X) (x : X) → AllByRecursion P xs → P x → AllByRecursion P (xs ++ x ∷ [])
  all-push P [] x all p = (p, tt)
  all-push P (y ∷ ys) x all p = (all.0, all-push P ys x all.1 p)

later-at : (s : Step) (H : History) (t : MadeTick) → IsAt H t → IsAt (s ∷ H) t
later-at s H t at = (s ∷ at.0, ap (λ (w : History). s ∷ w) at.1)

pub in-place : (H : History) → AllByRecursion (IsAt H) (ticks_in H)
in-place [] = tt
in-place (Tick note ∷ H) =
    all-push (IsAt (Tick note ∷ H)) (ticks_in H) (record { before = H; note = note })
    (all-map (IsAt H) (IsAt (Tick note ∷ H)) (later-at (Tick note) H) (ticks_in H) (in-place H)) ([], refl)
in-place (s ∷ H) = all-map (IsAt H) (IsAt (s ∷ H)) (later-at s H) (ticks_in H) (in-place H)

-- ---- a tick that stands in the turns stands in the history that they tell

pub stands-at : (lanes : ℕ) (turns : List HallTurn) (H : History) → StepsFrom turn_tells [] turns H → (t : MadeTick) → StandsIn lanes turns t → IsAt H t
stands-at lanes turns H told t st =
    let whole : StepsFrom turn_tells [] (st.front ++ st.turn ∷ st.later) H =
    subst (λ (ts : List HallTurn). StepsFrom turn_tells [] ts H) st.cut told in
    let split = steps-split [] H st.front (st.turn ∷ st.later) whole in
    let mid : split.0 ≡ t.before = steps-one [] split.0 t.before st.front split.1 st.history in
    let part : split.2.0 ≡ Tick t.note ∷ [] = one-telling st.turn split.2.0 (Tick t.note ∷ []) split.2.1 st.tells in
    let grown = steps-grow (split.2.0 ++ split.0) H st.later split.2.2 in
    (grown.0, grown.1 ∙ ap₂ (λ (p b : History). grown.0 ++ (p ++ b)) part mid)

-- ---- the last tick

nothing-pushed : (xs : List MadeTick) (x : MadeTick) → [] ≡ xs ++ x ∷ [] → ⊥
nothing-pushed [] x e = cc e
nothing-pushed (y ∷ ys) x e = cc e

pub last-tick : (H : History) (whole : List MadeTick) (last : MadeTick) → ticks_in H ≡ whole ++ last ∷ []
    → (later : History) × (H ≡ later ++ Tick last.note ∷ last.before) × (tick_steps later ≡ []) × (whole ≡ ticks_in last.before)
last-tick [] whole last e = absurd (nothing-pushed whole last e)
last-tick (Tick note ∷ H) whole last e =
    let here : MadeTick = record { before = H; note = note } in
    let same = same_from_push (ticks_in H) whole here last e in (
      [],
      ap (λ (t : MadeTick). Tick t.note ∷ t.before) same.1,
      refl,
      sym same.0 ∙ ap (λ (t : MadeTick). ticks_in t.before) same.1,
    )
last-tick (s ∷ H) whole last e =
    let rest = last-tick H whole last e in (s ∷ rest.0, ap (λ (w : History). s ∷ w) rest.1, rest.2, rest.3)

-- ---- what the mixer's steps say

only-ticks : (xs : List Step) → filter is_tick (filter is_mixed xs) ≡ filter is_tick xs
only-ticks [] = refl
only-ticks (Tick note ∷ xs) = ap (λ (w : List Step). Tick note ∷ w) (only-ticks xs)
only-ticks (_ ∷ xs) = only-ticks xs

ticks-stay : (ts : List MadeTick) → filter is_tick (ticks_made ts) ≡ ticks_made ts
ticks-stay [] = refl
ticks-stay (t ∷ ts) = ap (λ (w : List Step). Tick t.note ∷ w) (ticks-stay ts)

-- the mixer's steps are these ticks, and others that are no ticks
pub are-made : (H : History) (ts : List MadeTick) (steps more : List Step) → steps ≡ filter is_mixed (reverse H) → steps ≡ ticks_made ts ++ more
    → filter is_tick more ≡ [] → ticks_made ts ≡ ticks_made (ticks_in H)
are-made H ts steps more all is none =
    let cut : filter is_tick steps ≡ ticks_made ts =
    ap (filter is_tick) is ∙ (filter-append is_tick (ticks_made ts) more ∙ (ap₂ (λ (a b : List Step). a ++ b) (ticks-stay ts) none ∙ append-nil (ticks_made ts))) in
    sym cut ∙ (ap (filter is_tick) all ∙ (only-ticks (reverse H) ∙ sym (made-are H)))

any-push : (p : Step → Bool) (xs : List Step) (x : Step) → list_any p (xs ++ x ∷ []) ≡ (p x || list_any p xs)
any-push p [] x = refl
any-push p (y ∷ ys) x =
    ap (λ (b : Bool). p y || b) (any-push p ys x) ∙ swapped (p y) (p x) (list_any p ys)
  where
    swapped : (a b c : Bool) → (a || (b || c)) ≡ (b || (a || c))
    swapped true true c = refl
    swapped true false c = refl
    swapped false b c = refl

ends-mixed : (H : History) → list_any is_end (filter is_mixed (reverse H)) ≡ has_ended H
ends-mixed [] = refl
ends-mixed (Tick note ∷ H) =
    ap (list_any is_end) (picked-more is_mixed (Tick note) H) ∙ (any-push is_end (filter is_mixed (reverse H)) (Tick note) ∙ ends-mixed H)
ends-mixed (End ∷ H) =
    ap (list_any is_end) (picked-more is_mixed End H) ∙ any-push is_end (filter is_mixed (reverse H)) End
ends-mixed (s ∷ H) =
    ap (list_any is_end) (picked-more is_mixed s H ∙ append-nil (filter is_mixed (reverse H))) ∙ ends-mixed H

none-ends : (ts : List MadeTick) → list_any is_end (ticks_made ts) ≡ false
none-ends [] = refl
none-ends (t ∷ ts) = none-ends ts

pub not-ended : (H : History) (ts : List MadeTick) (steps : List Step) → steps ≡ filter is_mixed (reverse H) → steps ≡ ticks_made ts → has_ended H ≡ false
not-ended H ts steps all is = sym (ends-mixed H) ∙ (ap (list_any is_end) (sym all ∙ is) ∙ none-ends ts)

pub closed : (H : History) (ts : List MadeTick) (steps : List Step) → steps ≡ filter is_mixed (reverse H) → steps ≡ ticks_made ts ++ End ∷ [] → has_ended H ≡ true
closed H ts steps all is =
    sym (ends-mixed H) ∙ (ap (list_any is_end) (sym all ∙ is) ∙ any-push is_end (ticks_made ts) End)

-- nothing follows the end
pub end-is-last : (lanes : ℕ) (H : History) → Legal lanes H → has_ended H ≡ true → (before : History) × (H ≡ End ∷ before)
end-is-last lanes [] legal e = absurd (cc e)
end-is-last lanes (End ∷ H) legal e = (H, refl)
end-is-last lanes (s ∷ H) legal e = absurd (cc (e, legal.1))
