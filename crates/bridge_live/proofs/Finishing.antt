-- The mixer is never answered that the conference has ended, since it alone ends it, by its last call.
use Rattle.std.proofs.Common.{◌≡◌, ℕ, ◌+◌, ◌≤◌, ◌==◌, Bool, true, false, List, [], ◌∷◌, ◌++◌, length, filter, MatchBool, refl, sym, ap, subst, ◌∙◌, arith}
use Rattle.std.proofs.lemmas.Bool.Decides.{nat_tests}
use Rattle.std.specs.List.{AllByRecursion}
use Rattle.hall_core.specs.declared.machine.HallCall.{HallCall}
use Rattle.hall_core.specs.declared.machine.HallCall.TheVariants.{Post as AskPost, Gap as AskGap, Order as AskOrder, Tick as AskTick, Finish}
use Rattle.hall_core.specs.declared.machine.HallReply.{HallReply}
use Rattle.hall_core.specs.declared.machine.HallReply.TheVariants.{Finished}
use Rattle.hall_core.specs.Hall.{HallView, lanes_of}
use Rattle.hall_core.specs.Machine.{Fits, HallSteps, TellsStep, turn_tells, is_ended, is_finish}
use Rattle.hall_core.specs.Stands.{StandsFor}
use Rattle.hall_core.proofs.Turning.{finish_law}
use Rattle.hall_lock.specs.Turns.{Leads}
use Rattle.pel_model.specs.History.{Step}
use Rattle.hall_lock.specs.Asking.{NoneEnded, EndsLast, HasEnded}
use Rattle.hall_lock.specs.Finishing.{FinishLast}
use Rattle.hall_lock.specs.Own.{made}
use Rattle.hall_lock.specs.Sorting.{owned_by}
use Rattle.hall_lock.specs.Telling.{Tells}
use Rattle.bridge_live.specs.Mixer.{MadeTick, ticks_made}
use Rattle.bridge_live.specs.Worker.{HallSeat, worker_of, owner}
use Rattle.bridge_live.proofs.Placing.{is_tick}
use Rattle.bridge_live.proofs.Telling.{HallTurn}

-- a call that was given back tells nothing
none-told : (t : HallTurn) (part : List Step) → is_ended t.reply ≡ true → turn_tells t part → part ≡ []
none-told t part ended told =
    subst (λ (b : Bool). MatchBool b (part ≡ []) ((s : Step) × TellsStep t.call t.reply s × (part ≡ s ∷ []))) ended told

pub some-told : (t : HallTurn) (part : List Step) → is_ended t.reply ≡ false → turn_tells t part → (s : Step) × TellsStep t.call t.reply s × (part ≡ s ∷ [])
some-told t part live told =
    subst (λ (b : Bool). MatchBool b (part ≡ []) ((s : Step) × TellsStep t.call t.reply s × (part ≡ s ∷ []))) live told

pub tells-front : (ts : List HallTurn) (t : HallTurn) (items : List Step) → is_ended t.reply ≡ true → Tells turn_tells (ts ++ t ∷ []) items → Tells turn_tells ts items
tells-front [] t items ended e = e.4 ∙ (ap (λ (w : List Step). w ++ e.1) (none-told t e.0 ended e.2) ∙ e.3)
tells-front (u ∷ us) t items ended e = (e.0, e.1, e.2, tells-front us t e.1 ended e.3, e.4)

abbrev AreTicks : List Step → Type 0
AreTicks steps = AllByRecursion (λ (s : Step). is_tick s ≡ true) steps

all-ticks : (ts : List MadeTick) → AreTicks (ticks_made ts)
all-ticks [] = tt
all-ticks (t ∷ ts) = (refl, all-ticks ts)

no-finish : (call : HallCall) (reply : HallReply) (s : Step) → is_tick s ≡ true → TellsStep call reply s → is_finish call ≡ false
no-finish (AskPost lane item) reply s tick told = refl
no-finish (AskGap lane) reply s tick told = refl
no-finish (AskOrder command) reply s tick told = refl
no-finish (AskTick step hand) reply s tick told = refl
no-finish Finish Finished s tick told = absurd (cc (tick, ap is_tick told))
no-finish Finish _ s tick told = absurd told

none-finish : (ts : List HallTurn) (steps : List Step) → NoneEnded is_ended ts → AreTicks steps → Tells turn_tells ts steps
    → AllByRecursion (λ (t : HallTurn). is_finish t.call ≡ false) ts
none-finish [] steps live ticks e = tt
none-finish (t ∷ ts) steps live ticks e =
    let one = some-told t e.0 live.0 e.2 in
    let cut : steps ≡ one.0 ∷ e.1 = e.4 ∙ ap (λ (w : List Step). w ++ e.1) one.2 in
    let parts : AreTicks (one.0 ∷ e.1) = subst AreTicks cut ticks in
    (no-finish t.call t.reply one.0 parts.0 one.1, none-finish ts e.1 live.1 parts.1 e.3)

finish-last : (ts : List HallTurn) (t : HallTurn) → AllByRecursion (λ (u : HallTurn). is_finish u.call ≡ false) ts → FinishLast is_finish (ts ++ t ∷ [])
finish-last [] t none =
    elim (is_finish t.call) as (λ b. MatchBool b (◌≡◌ {A = List HallTurn} [] []) (FinishLast {R = HallReply} is_finish [])) [ true ↦ refl | false ↦ tt ]
finish-last (u ∷ us) t none =
    subst (λ (b : Bool). MatchBool b (us ++ t ∷ [] ≡ []) (FinishLast is_finish (us ++ t ∷ []))) (sym none.0) (finish-last us t none.1)

finish-owned : (lanes : ℕ) (call : HallCall) → is_finish call ≡ true → (worker_of lanes call == lanes + 1) ≡ true
finish-owned lanes Finish e = grind (arith, nat_tests)
finish-owned lanes (AskPost lane item) e = absurd (cc e)
finish-owned lanes (AskGap lane) e = absurd (cc e)
finish-owned lanes (AskOrder command) e = absurd (cc e)
finish-owned lanes (AskTick step hand) e = absurd (cc e)

last-of : (ts : List HallTurn) (t : HallTurn) → NoneEnded is_ended (ts ++ t ∷ []) → is_ended t.reply ≡ false
last-of [] t none = none.0
last-of (u ∷ us) t none = last-of us t none.1

pub never-late : (lanes : ℕ) (opening closing : HallView) (turns : List HallTurn) (seat : HallSeat) (ts : List MadeTick) (steps : List Step)
    → StandsFor opening [] → Leads lanes_of Fits HallSteps opening turns closing → length turns ≤ opening.limit
    → owned_by (owner lanes) (lanes + 1) turns ≡ made seat → Tells turn_tells (made seat) steps → steps ≡ ticks_made ts
    → HasEnded is_ended seat → ⊥
never-late lanes opening closing turns seat ts steps opens led fits own told is ended =
    let e : EndsLast is_ended (made seat) = ended.0 in
    let all : Tells turn_tells (e.front ++ e.last ∷ []) steps = subst (λ (us : List HallTurn). Tells turn_tells us steps) e.all told in
    let ticks : AreTicks steps = subst AreTicks (sym is) (all-ticks ts) in
    let front = none-finish e.front steps e.none ticks (tells-front e.front e.last steps e.ended all) in
    let here : filter (λ t. owner lanes t == lanes + 1) turns ≡ e.front ++ e.last ∷ [] = own ∙ e.all in
    let last : FinishLast is_finish (filter (λ t. owner lanes t == lanes + 1) turns) =
    subst (λ (us : List HallTurn). FinishLast is_finish us) (sym here) (finish-last e.front e.last front) in
    let none = finish_law opening closing turns opens led fits (λ t. owner lanes t == lanes + 1) (λ t. finish-owned lanes t.call) last in
    let live : is_ended e.last.reply ≡ false = last-of e.front e.last (subst (λ (us : List HallTurn). NoneEnded is_ended us) here none) in
    absurd (cc (live, e.ended))
