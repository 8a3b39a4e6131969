-- Lanes and ticks one after another.
use Rattle.std.proofs.Common.{◌≡◌, ◌≢◌, ℕ, suc, ◌+◌, ◌-◌, ◌%◌, ◌<◌, ◌==◌, Bool, true, false, ◌||◌, if◌then◌else◌, List, [], ◌∷◌, ◌++◌, map, Option, Result, Ok, Err, sym, ◌∙◌, ap, subst, arith}
use Rattle.std.proofs.lemmas.Bool.Decides.{nat_tests}
use Rattle.std.specs.Prelude.{OnOk}
use Rattle.conf_file.specs.Entries.{Content, Packet, Chair, Tick}
use Rattle.pel_model.specs.declared.chair.Command.TheVariants.{Speaker}
use Rattle.conf_make.specs.declared.output.MakeTally.{MakeTally}
use Rattle.conf_make.specs.Draws.{next_state, draw}
use Rattle.conf_make.specs.Packets.{made_packet}
use Rattle.conf_make.specs.Pictures.{behind_picture}
use Rattle.conf_make.specs.Made.{entry_of, is_lost, is_grey, picture, sent, behind_lane, all_sent, behind_lanes, spoken, behind_spoken, tick_entries, behind_tick, all_ticks}
use Rattle.conf_make.specs.Writing.{PutsAllOf, HasPut, behind_made}
use Rattle.conf_make.proofs.Pieces.{at-first, all-put}

-- nothing was put yet
pub first-put : (old : Option (List ℕ)) (all rest : List Content) (a : MakeTally) → all ≡ rest → HasPut old old all rest a a
first-put old all rest a same = subst (λ (cs : List Content). HasPut old old all cs a a) same (at-first old all a)

-- ---- lanes

pub all-lanes : (n tick state : ℕ) → all_sent n tick 0 state ≡ all_sent (n - 0) tick 0 state
all-lanes n tick state = ap (λ (k : ℕ). all_sent k tick 0 state) (let e : n ≡ n - 0 = omega arith in e)

pub behind-all-lanes : (n tick state : ℕ) → behind_lanes (n - 0) tick 0 state ≡ behind_lanes n tick 0 state
behind-all-lanes n tick state = ap (λ (k : ℕ). behind_lanes k tick 0 state) (let e : n - 0 ≡ n = omega arith in e)

pub lane-step : (n tick lane state after : ℕ) → lane < n → after ≡ behind_lane tick lane state
    → all_sent (n - lane) tick lane state ≡ sent tick lane state ++ all_sent (n - (lane + 1)) tick (lane + 1) after
lane-step n tick lane state after less is =
    ap (λ (k : ℕ). all_sent k tick lane state) (let e : n - lane ≡ suc (n - (lane + 1)) = omega (arith, less) in e)
    ∙ ap (λ (l : ℕ). sent tick lane state ++ all_sent (n - (lane + 1)) tick l (behind_lane tick lane state)) (let e : suc lane ≡ lane + 1 = omega arith in e)
    ∙ ap (λ (s : ℕ). sent tick lane state ++ all_sent (n - (lane + 1)) tick (lane + 1) s) (sym is)

pub lane-behind : (n tick lane state after all : ℕ) → lane < n → after ≡ behind_lane tick lane state → behind_lanes (n - lane) tick lane state ≡ all
    → behind_lanes (n - (lane + 1)) tick (lane + 1) after ≡ all
lane-behind n tick lane state after all less is h =
    ap (λ (s : ℕ). behind_lanes (n - (lane + 1)) tick (lane + 1) s) is
    ∙ ap (λ (l : ℕ). behind_lanes (n - (lane + 1)) tick l (behind_lane tick lane state)) (let e : lane + 1 ≡ suc lane = omega arith in e)
    ∙ ap (λ (k : ℕ). behind_lanes k tick lane state) (let e : suc (n - (lane + 1)) ≡ n - lane = omega (arith, less) in e)
    ∙ h

pub lanes-behind : (left tick lane state all : ℕ) → left ≡ 0 → behind_lanes left tick lane state ≡ all → state ≡ all
lanes-behind left tick lane state all none h = ap (λ (k : ℕ). behind_lanes k tick lane state) (sym none) ∙ h

-- ---- ticks

pub all-ticks : (n lanes state : ℕ) → all_ticks n lanes 1 state ≡ all_ticks (n - 0) lanes (0 + 1) state
all-ticks n lanes state = ap (λ (k : ℕ). all_ticks k lanes 1 state) (let e : n ≡ n - 0 = omega arith in e)

pub tick-step : (n lanes i state after : ℕ) → i < n → after ≡ behind_tick lanes (i + 1) state
    → all_ticks (n - i) lanes (i + 1) state ≡ tick_entries lanes (i + 1) state ++ all_ticks (n - (i + 1)) lanes (i + 1 + 1) after
tick-step n lanes i state after less is =
    ap (λ (k : ℕ). all_ticks k lanes (i + 1) state) (let e : n - i ≡ suc (n - (i + 1)) = omega (arith, less) in e)
    ∙ ap (λ (t : ℕ). tick_entries lanes (i + 1) state ++ all_ticks (n - (i + 1)) lanes t (behind_tick lanes (i + 1) state)) (let e : suc (i + 1) ≡ i + 1 + 1 = omega arith in e)
    ∙ ap (λ (s : ℕ). tick_entries lanes (i + 1) state ++ all_ticks (n - (i + 1)) lanes (i + 1 + 1) s) (sym is)

-- ---- a tick

pub entries-at : (lanes tick state after : ℕ) → after ≡ behind_lanes lanes tick 0 state
    → all_sent lanes tick 0 state ++ (spoken lanes tick after ++ Tick 3 ∷ []) ≡ tick_entries lanes tick state
unfolding tick_entries
entries-at lanes tick state after is = ap (λ (s : ℕ). all_sent lanes tick 0 state ++ (spoken lanes tick s ++ Tick 3 ∷ [])) is

pub behind-at : (lanes tick state after : ℕ) → after ≡ behind_lanes lanes tick 0 state → behind_spoken tick after ≡ behind_tick lanes tick state
unfolding behind_tick
behind-at lanes tick state after is = ap (behind_spoken tick) is

pub on-ok : {T E : Type 0} (result : Result T E) (P : Type 0) → P → OnOk result P
on-ok (Ok x) P p = p
on-ok (Err e) P p = tt

-- ---- a lane and the speaker

pub nothing-put : (old : Option (List ℕ)) (all : List Content) (a : MakeTally) → all ≡ [] → PutsAllOf old old (map entry_of all) a a
nothing-put old all a none = all-put old old all a a (first-put old all [] a none)

pub sent-lost : (tick lane state : ℕ) → is_lost tick state ≡ true → sent tick lane state ≡ []
unfolding sent
sent-lost tick lane state h = ap (λ (b : Bool). if b then [] else Packet lane (made_packet tick lane (picture tick lane (next_state state))) ∷ []) h

pub sent-whole : (tick lane state : ℕ) → is_lost tick state ≡ false → sent tick lane state ≡ Packet lane (made_packet tick lane (picture tick lane (next_state state))) ∷ []
unfolding sent
sent-whole tick lane state h = ap (λ (b : Bool). if b then [] else Packet lane (made_packet tick lane (picture tick lane (next_state state))) ∷ []) h

pub behind-lost : (tick lane state : ℕ) → is_lost tick state ≡ true → behind_lane tick lane state ≡ next_state state
unfolding behind_lane
behind-lost tick lane state h = ap (λ (b : Bool). if b || is_grey tick lane then next_state state else behind_picture (next_state state)) h

pub behind-whole : (tick lane state : ℕ) → is_lost tick state ≡ false → behind_lane tick lane state ≡ behind_made tick lane (next_state state)
unfolding behind_lane
behind-whole tick lane state h = ap (λ (b : Bool). if b || is_grey tick lane then next_state state else behind_picture (next_state state)) h

is-no : (r : ℕ) → r ≢ 0 → (r == 0) ≡ false
is-no r h = grind (arith, nat_tests)

pub spoken-none : (lanes tick state : ℕ) → tick % 25 ≢ 0 → spoken lanes tick state ≡ []
unfolding spoken
spoken-none lanes tick state h = ap (λ (b : Bool). if b then Chair (Speaker (draw (next_state state) % lanes)) ∷ [] else []) (is-no (tick % 25) h)

pub spoken-one : (lanes tick state : ℕ) → tick % 25 ≡ 0 → spoken lanes tick state ≡ Chair (Speaker (draw (next_state state) % lanes)) ∷ []
unfolding spoken
spoken-one lanes tick state h = ap (λ (r : ℕ). if r == 0 then Chair (Speaker (draw (next_state state) % lanes)) ∷ [] else []) h

pub behind-none : (tick state : ℕ) → tick % 25 ≢ 0 → behind_spoken tick state ≡ state
unfolding behind_spoken
behind-none tick state h = ap (λ (b : Bool). if b then next_state state else state) (is-no (tick % 25) h)

pub behind-one : (tick state : ℕ) → tick % 25 ≡ 0 → behind_spoken tick state ≡ next_state state
unfolding behind_spoken
behind-one tick state h = ap (λ (r : ℕ). if r == 0 then next_state state else state) h
