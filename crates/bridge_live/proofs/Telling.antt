-- The turns of a history tell its steps, and those of one worker the steps that are the worker's.
use Rattle.std.proofs.Common.{◌≡◌, ℕ, ◌+◌, ◌<◌, ◌≤◌, ◌==◌, Bool, true, false, cond, List, [], ◌∷◌, ◌++◌, length, map, reverse, filter, MatchBool, refl, sym, ap, subst, ◌∙◌, arith, append_assoc, append-nil, length-append}
use Rattle.std.proofs.lemmas.Bool.Decides.{nat_tests}
use Rattle.std.proofs.lemmas.List.{reverse-append}
use Rattle.std.proofs.lemmas.List.Elements.{filter-append}
use Rattle.std.specs.List.{AllByRecursion}
use Rattle.h261_pic.proofs.Codings.{equal-codings}
use Rattle.hall_core.specs.declared.machine.HallCall.{HallCall}
use Rattle.hall_core.specs.declared.machine.HallCall.TheVariants.{Post as AskPost, Gap as AskGap, Order as AskOrder, Tick as AskTick, Finish}
use Rattle.hall_core.specs.declared.machine.HallReply.{HallReply}
use Rattle.hall_core.specs.declared.machine.HallReply.TheVariants.{Spare, Counted, Ordered, Ticked, Finished}
use Rattle.hall_core.specs.Machine.{Fits, TellsStep, turn_tells, is_ended}
use Rattle.hall_lock.specs.declared.view.Turn.{Turn}
use Rattle.pel_model.specs.declared.Format.TheVariants.{Qcif}
use Rattle.pel_model.specs.History.{Step, Post, Tick, End, History}
use Rattle.hall_lock.specs.Own.{made}
use Rattle.hall_lock.specs.Sorting.{owned_by}
use Rattle.hall_lock.specs.Telling.{Tells, StepsFrom}
use Rattle.hall_lock.proofs.Told.{tells_one}
use Rattle.bridge_live.specs.Endings.{LaneEnding}
use Rattle.bridge_live.specs.Serve.{is_of_lane, is_order}
use Rattle.bridge_live.specs.Worker.{HallSeat, owner}

abbrev pub HallTurn : Type 0
HallTurn = Turn HallCall HallReply

-- ---- a turn tells one thing

one-step : (call : HallCall) (reply : HallReply) (s u : Step) → TellsStep call reply s → TellsStep call reply u → s ≡ u
one-step (AskPost lane item) (Spare box) s u a b =
    a.2 ∙ (ap (Post lane) (equal-codings Qcif a.0 b.0 a.1.postable.valid b.1.postable.valid (sym a.1.coded ∙ b.1.coded)) ∙ sym b.2)
one-step (AskGap lane) Counted s u a b = a ∙ sym b
one-step (AskOrder command) (Ordered reply) s u a b = a ∙ sym b
one-step (AskTick step hand) (Ticked note filled) s u a b = a ∙ sym b
one-step Finish Finished s u a b = a ∙ sym b
one-step _ _ s u a b = absurd a

pub one-telling : (t : HallTurn) (a b : List Step) → turn_tells t a → turn_tells t b → a ≡ b
one-telling t a b h k =
    elim (is_ended t.reply) as (λ v. MatchBool v (a ≡ []) ((s : Step) × TellsStep t.call t.reply s × (a ≡ s ∷ [])) → MatchBool v (b ≡ []) ((s : Step) × TellsStep t.call t.reply s × (b ≡ s ∷ [])) → a ≡ b) [
      | true ↦ λ x y. x ∙ sym y
      | false ↦ λ x y. x.2 ∙ (ap (λ (s : Step). s ∷ []) (one-step t.call t.reply x.0 y.0 x.1 y.1) ∙ sym y.2)
    ] h k

-- ---- the history of turns

short-turned : (t : HallTurn) (part : List Step) → turn_tells t part → reverse part ≡ part
short-turned t part told =
    elim (is_ended t.reply) as (λ v. MatchBool v (part ≡ []) ((s : Step) × TellsStep t.call t.reply s × (part ≡ s ∷ [])) → reverse part ≡ part) [
      | true ↦ λ none. ap reverse none ∙ sym none
      | false ↦ λ one. ap reverse one.2 ∙ sym one.2
    ] told

-- the turns tell its steps, the first of them first
pub in-order : (old new : History) (ts : List HallTurn) → StepsFrom turn_tells old ts new
    → (items : List Step) × Tells turn_tells ts items × (reverse new ≡ reverse old ++ items)
in-order old new [] e = ([], refl, ap reverse e ∙ sym (append-nil (reverse old)))
in-order old new (t ∷ ts) e =
    let rest = in-order (e.0 ++ old) new ts e.2 in
    let grown : reverse (e.0 ++ old) ≡ reverse old ++ e.0 =
    reverse-append e.0 old ∙ ap (λ (w : List Step). reverse old ++ w) (short-turned t e.0 e.1) in (
      e.0 ++ rest.0,
      (e.0, rest.0, e.1, rest.1, refl),
      rest.2 ∙ (ap (λ (w : List Step). w ++ rest.0) grown ∙ append_assoc (reverse old) e.0 rest.0),
    )

pub told-in-order : (history : History) (ts : List HallTurn) → StepsFrom turn_tells [] ts history → Tells turn_tells ts (reverse history)
told-in-order history ts e =
    let all = in-order [] history ts e in subst (λ (w : List Step). Tells turn_tells ts w) (sym all.2) all.1

-- the history between the first of them and the others
pub steps-split : (old new : History) (front later : List HallTurn) → StepsFrom turn_tells old (front ++ later) new
    → (mid : History) × StepsFrom turn_tells old front mid × StepsFrom turn_tells mid later new
steps-split old new [] later e = (old, refl, e)
steps-split old new (t ∷ ts) later e =
    let rest = steps-split (e.0 ++ old) new ts later e.2 in (rest.0, (e.0, e.1, rest.1), rest.2)

-- turns tell one history
pub steps-one : (old new other : History) (ts : List HallTurn) → StepsFrom turn_tells old ts new → StepsFrom turn_tells old ts other → new ≡ other
steps-one old new other [] e f = e ∙ sym f
steps-one old new other (t ∷ ts) e f =
    steps-one (e.0 ++ old) new other ts e.2
    (subst (λ (part : List Step). StepsFrom turn_tells (part ++ old) ts other) (one-telling t f.0 e.0 f.1 e.1) f.2)

-- a later history has the former one behind it
pub steps-grow : (old new : History) (ts : List HallTurn) → StepsFrom turn_tells old ts new → (more : History) × (new ≡ more ++ old)
steps-grow old new [] e = ([], e)
steps-grow old new (t ∷ ts) e =
    let rest = steps-grow (e.0 ++ old) new ts e.2 in (rest.0 ++ e.0, rest.1 ∙ sym (append_assoc rest.0 e.0 old))

short-part : (t : HallTurn) (part : List Step) → turn_tells t part → length part ≤ 1
short-part t part told =
    elim (is_ended t.reply) as (λ v. MatchBool v (part ≡ []) ((s : Step) × TellsStep t.call t.reply s × (part ≡ s ∷ [])) → length part ≤ 1) [
      | true ↦ λ none. omega (arith, ap (λ (w : List Step). length w) none)
      | false ↦ λ one. omega (arith, ap (λ (w : List Step). length w) one.2)
    ] told

-- a turn tells one step at most
pub no-more-steps : (old new : History) (ts : List HallTurn) → StepsFrom turn_tells old ts new → length new ≤ length old + length ts
no-more-steps old new [] e = omega (arith, ap (λ (w : History). length w) e)
no-more-steps old new (t ∷ ts) e =
    omega (arith, no-more-steps (e.0 ++ old) new ts e.2, length-append e.0 old, short-part t e.0 e.1)

-- ---- the turns and the steps of one worker

-- a step is picked exactly where its turn is
abbrev pub Sorts : ℕ → (Step → Bool) → (HallTurn → Bool) → Type 0
Sorts lanes pick own =
    (call : HallCall) (reply : HallReply) (s : Step) → Fits lanes call → TellsStep call reply s
    → pick s ≡ own (record { call = call; reply = reply })

none-picked : (b : Bool) (part : List Step) → part ≡ [] → [] ≡ cond b part []
none-picked true part none = sym none
none-picked false part none = refl

part-sorted : (lanes : ℕ) (pick : Step → Bool) (own : HallTurn → Bool) → Sorts lanes pick own → (t : HallTurn) (part : List Step)
    → Fits lanes t.call → turn_tells t part → filter pick part ≡ cond (own t) part []
part-sorted lanes pick own sorts t part fits told =
    elim (is_ended t.reply) as (λ v. MatchBool v (part ≡ []) ((s : Step) × TellsStep t.call t.reply s × (part ≡ s ∷ [])) → filter pick part ≡ cond (own t) part []) [
      | true ↦ λ none. ap (filter pick) none ∙ none-picked (own t) part none
      | false ↦ λ one.
          ap (filter pick) one.2
          ∙ (ap (λ (b : Bool). cond b (one.0 ∷ []) []) (sorts t.call t.reply one.0 fits one.1)
          ∙ ap (λ (w : List Step). cond (own t) w []) (sym one.2))
    ] told

one-more-told : (b : Bool) (t : HallTurn) (ts : List HallTurn) (part sorted items : List Step) → turn_tells t part → sorted ≡ cond b part []
    → Tells turn_tells ts items → Tells turn_tells (cond b (t ∷ ts) ts) (sorted ++ items)
one-more-told true t ts part sorted items told is rest = (part, items, told, rest, ap (λ (w : List Step). w ++ items) is)
one-more-told false t ts part sorted items told is rest =
    subst (λ (w : List Step). Tells turn_tells ts w) (sym (ap (λ (w : List Step). w ++ items) is)) rest

pub tells-sorted : (lanes : ℕ) (pick : Step → Bool) (own : HallTurn → Bool) → Sorts lanes pick own → (ts : List HallTurn) (items : List Step)
    → AllByRecursion (λ (t : HallTurn). Fits lanes t.call) ts → Tells turn_tells ts items → Tells turn_tells (filter own ts) (filter pick items)
tells-sorted lanes pick own sorts [] items fits e = ap (filter pick) e
tells-sorted lanes pick own sorts (t ∷ ts) items fits e =
    let rest = tells-sorted lanes pick own sorts ts e.1 fits.1 e.3 in
    let cut : filter pick items ≡ filter pick e.0 ++ filter pick e.1 = ap (filter pick) e.4 ∙ filter-append pick e.0 e.1 in
    subst (λ (w : List Step). Tells turn_tells (cond (own t) (t ∷ filter own ts) (filter own ts)) w) (sym cut)
    (one-more-told (own t) t (filter own ts) e.0 (filter pick e.0) (filter pick e.1) e.2 (part-sorted lanes pick own sorts t e.0 fits.0 e.2) rest)

-- what the seat of a worker made is what the history has of it
pub worker-steps : (lanes w : ℕ) (turns : List HallTurn) (history : History) (pick : Step → Bool) (seat : HallSeat) (steps : List Step)
    → Sorts lanes pick (λ t. owner lanes t == w) → AllByRecursion (λ (t : HallTurn). Fits lanes t.call) turns
    → Tells turn_tells turns (reverse history) → owned_by (owner lanes) w turns ≡ made seat → Tells turn_tells (made seat) steps
    → steps ≡ filter pick (reverse history)
worker-steps lanes w turns history pick seat steps sorts fits told own mine =
    tells_one turn_tells one-telling (made seat) steps (filter pick (reverse history)) mine
    (subst (λ (ts : List HallTurn). Tells turn_tells ts (filter pick (reverse history))) own
    (tells-sorted lanes pick (λ t. owner lanes t == w) sorts turns (reverse history) fits told))

-- ---- whose a step is

other : (a b : ℕ) → a < b → (a == b) ≡ false
other a b below = grind (arith, nat_tests)

other-way : (a b : ℕ) → b < a → (a == b) ≡ false
other-way a b below = grind (arith, nat_tests)

same : (a : ℕ) → (a == a) ≡ true
same a = grind (arith, nat_tests)

pub lane-sorts : (lanes lane : ℕ) → lane < lanes → Sorts lanes (is_of_lane lane) (λ t. owner lanes t == lane)
lane-sorts lanes lane below (AskPost c item) (Spare box) s fits told = ap (is_of_lane lane) told.2
lane-sorts lanes lane below (AskGap c) Counted s fits told = ap (is_of_lane lane) told
lane-sorts lanes lane below (AskOrder command) (Ordered reply) s fits told = ap (is_of_lane lane) told ∙ sym (other-way lanes lane below)
lane-sorts lanes lane below (AskTick step hand) (Ticked note filled) s fits told =
    ap (is_of_lane lane) told ∙ sym (other-way (lanes + 1) lane (omega (arith, below)))
lane-sorts lanes lane below Finish Finished s fits told = ap (is_of_lane lane) told ∙ sym (other-way (lanes + 1) lane (omega (arith, below)))
lane-sorts lanes lane below _ _ s fits told = absurd told

pub chair-sorts : (lanes : ℕ) → Sorts lanes is_order (λ t. owner lanes t == lanes)
chair-sorts lanes (AskPost c item) (Spare box) s fits told = ap is_order told.2 ∙ sym (other c lanes fits.0)
chair-sorts lanes (AskGap c) Counted s fits told = ap is_order told ∙ sym (other c lanes fits)
chair-sorts lanes (AskOrder command) (Ordered reply) s fits told = ap is_order told ∙ sym (same lanes)
chair-sorts lanes (AskTick step hand) (Ticked note filled) s fits told = ap is_order told ∙ sym (other-way (lanes + 1) lanes (omega arith))
chair-sorts lanes Finish Finished s fits told = ap is_order told ∙ sym (other-way (lanes + 1) lanes (omega arith))
chair-sorts lanes _ _ s fits told = absurd told

-- the mixer makes the ticks and the end
abbrev pub is_mixed : Step → Bool
is_mixed (Tick note) = true
is_mixed End = true
is_mixed _ = false

pub mixer-sorts : (lanes : ℕ) → Sorts lanes is_mixed (λ t. owner lanes t == lanes + 1)
mixer-sorts lanes (AskPost c item) (Spare box) s fits told = ap is_mixed told.2 ∙ sym (other c (lanes + 1) (omega (arith, fits.0)))
mixer-sorts lanes (AskGap c) Counted s fits told = ap is_mixed told ∙ sym (other c (lanes + 1) (omega (arith, fits)))
mixer-sorts lanes (AskOrder command) (Ordered reply) s fits told = ap is_mixed told ∙ sym (other lanes (lanes + 1) (omega arith))
mixer-sorts lanes (AskTick step hand) (Ticked note filled) s fits told = ap is_mixed told ∙ sym (same (lanes + 1))
mixer-sorts lanes Finish Finished s fits told = ap is_mixed told ∙ sym (same (lanes + 1))
mixer-sorts lanes _ _ s fits told = absurd told

-- ---- the seats of the chair and of the mixer are the last two

pub last-two : (P : HallSeat → Type 0) (ends : List LaneEnding) (chair mixer : HallSeat)
    → AllByRecursion P (map (λ (e : LaneEnding). e.seat) ends ++ chair ∷ mixer ∷ []) → P chair × P mixer
last-two P [] chair mixer all = (all.0, all.1.0)
last-two P (e ∷ es) chair mixer all = last-two P es chair mixer all.1
