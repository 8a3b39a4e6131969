-- From what each worker knows, the joined seats and the closed lock to what the conference did.
use Rattle.std.proofs.Common.{◌≡◌, ℕ, ◌+◌, ◌<◌, List, [], ◌∷◌, ◌++◌, length, reverse, map, count_by, ap, subst, ◌∙◌, arith}
use Rattle.std.proofs.lemmas.List.Elements.{recursion_from_All}
use Rattle.std.specs.List.{AllByRecursion}
use mathlib.Core.List.{IsPrefix}
use Rattle.cif_pack.specs.declared.tally.Tally.{Tally}
use Rattle.cif_pack.specs.Tallies.{tally_of}
use Rattle.hall_core.specs.Hall.{lanes_of}
use Rattle.hall_core.specs.Machine.{Fits, turn_tells, TurnsTo}
use Rattle.hall_core.proofs.Turning.{turn_law}
use Rattle.history_laws.proofs.Cutting.{headline}
use Rattle.io_edge.specs.Outside.{Input}
use Rattle.pel_model.specs.History.{Step, History}
use Rattle.pel_model.specs.Legal.{Legal}
use Rattle.hall_lock.specs.Own.{made}
use Rattle.hall_lock.specs.Sorting.{owned_by, MadeFrom}
use Rattle.hall_lock.specs.Telling.{Tells}
use Rattle.bridge_live.specs.Chair.{is_refused_step}
use Rattle.bridge_live.specs.Endings.{LaneEnding, seats_of}
use Rattle.bridge_live.specs.Gathered.{LaneRan, LanesRan, counted_together, RunLaw}
use Rattle.bridge_live.specs.Serve.{is_of_lane, is_order, LaneServes, LanesServe, ChairServes}
use Rattle.bridge_live.specs.Worker.{HallSeat, owner}
use Rattle.bridge_live.proofs.Halting.{halted-seats}
use Rattle.bridge_live.proofs.Mixes.{MixerPart, mixer-part}
use Rattle.bridge_live.proofs.Tallying.{ticks-counted, taken-counted, commands-counted, refused-counted, pictures-together, gaps-together}
use Rattle.bridge_live.proofs.Telling.{HallTurn, last-two, told-in-order, worker-steps, is_mixed, lane-sorts, chair-sorts, mixer-sorts}

-- ---- the lanes, and whose turns the chair's and the mixer's seats made

record Parted (lanes lane : ℕ) (turns : List HallTurn) (H : History) (befores : List Input) (ends : List LaneEnding) (chair mixer : HallSeat) : Type 0
  where
    serve : LanesServe lanes lane H befores ends
    of_chair : owned_by (owner lanes) lanes turns ≡ made chair
    of_mixer : owned_by (owner lanes) (lanes + 1) turns ≡ made mixer

module _ (lanes : ℕ) (turns : List HallTurn) (H : History) (fits : AllByRecursion (λ (t : HallTurn). Fits lanes t.call) turns) (told : Tells turn_tells turns (reverse H)) where
  one-lane-serves : (lane : ℕ) (before : Input) (end : LaneEnding) → lane < lanes → LaneRan lanes lane before end
      → owned_by (owner lanes) lane turns ≡ made end.seat → LaneServes lanes lane H before end
  one-lane-serves lane before end below ran own = record {
    first = ran.0;
    new = ran.1;
    runs = ran.2;
    steps_are = worker-steps lanes lane turns H (is_of_lane lane) end.seat ran.2.steps (lane-sorts lanes lane below) fits told own ran.2.has_made.told;
  }

  parted : (lane : ℕ) (befores : List Input) (ends : List LaneEnding) (chair mixer : HallSeat) → lane + length befores ≡ lanes
      → LanesRan lanes lane befores ends
      → MadeFrom (owner lanes) turns lane (map (λ (e : LaneEnding). e.seat) ends ++ chair ∷ mixer ∷ [])
      → Parted lanes lane turns H befores ends chair mixer
  parted lane [] [] chair mixer all ran made-from =
      let at : lane ≡ lanes = omega (arith, all) in
      record {
        serve = tt;
        of_chair = subst (λ (w : ℕ). owned_by (owner lanes) w turns ≡ made chair) at made-from.0;
        of_mixer = subst (λ (w : ℕ). owned_by (owner lanes) (w + 1) turns ≡ made mixer) at made-from.1.0;
      }
  parted lane [] (e ∷ es) chair mixer all ran made-from = absurd ran
  parted lane (b ∷ bs) [] chair mixer all ran made-from = absurd ran
  parted lane (b ∷ bs) (e ∷ es) chair mixer all ran made-from =
      let rest = parted (lane + 1) bs es chair mixer (omega (arith, all)) ran.1 made-from.1 in
      record {
        serve = (one-lane-serves lane b e (omega (arith, all)) ran.0 made-from.0, rest.serve);
        of_chair = rest.of_chair;
        of_mixer = rest.of_mixer;
      }

-- ---- the tally

same-tally : (a b : Tally) → a.ticks ≡ b.ticks → a.pictures ≡ b.pictures → a.gaps ≡ b.gaps → a.commands ≡ b.commands → a.refused ≡ b.refused
    → a.taken ≡ b.taken → a.packets ≡ b.packets → a.octets ≡ b.octets → a ≡ b
same-tally a b t p g c r k n o = λ i. record {
  ticks = t i;
  pictures = p i;
  gaps = g i;
  commands = c i;
  refused = r i;
  taken = k i;
  packets = n i;
  octets = o i;
}

-- ---- the whole of it

pub gathered-serves : RunLaw
gathered-serves set turns opening given end counts g =
    let lanes : ℕ = length given.lanes in
    let to : TurnsTo opening [] end.turns end.hall = turn_law opening end.hall [] end.turns g.opens tt g.leads in
    let H : History = to.history in
    let legal : Legal lanes H = subst (λ (n : ℕ). Legal n H) (to.same.lanes ∙ g.lanes_are) to.legal in
    let fits : AllByRecursion (λ (t : HallTurn). Fits lanes t.call) end.turns =
    subst (λ (n : ℕ). AllByRecursion (λ (t : HallTurn). Fits n t.call) end.turns) g.lanes_are
    (recursion_from_All (λ (t : HallTurn). Fits (lanes_of opening) t.call) end.turns g.leads.calls_fit) in
    let told : Tells turn_tells end.turns (reverse H) = told-in-order H end.turns to.told in
    let parts : Parted lanes 0 end.turns H given.lanes end.lanes end.chair.seat end.mixer.seat =
    parted lanes end.turns H fits told 0 given.lanes end.lanes end.chair.seat end.mixer.seat (omega arith) g.lanes g.shared.turns in
    let chair : ChairServes lanes H given.chair end.chair =
    record {
      first = g.chair.0;
      new = g.chair.1;
      runs = g.chair.2;
      steps_are =
          worker-steps lanes lanes end.turns H is_order end.chair.seat g.chair.2.steps (chair-sorts lanes) fits told parts.of_chair g.chair.2.has_made.told;
    } in
    let mixed =
    worker-steps lanes (lanes + 1) end.turns H is_mixed end.mixer.seat g.mixer.2.mixes.steps (mixer-sorts lanes) fits told parts.of_mixer g.mixer.2.mixes.has_made.told in
    let mix : MixerPart lanes set H given.ticker given.sink end.mixer counts =
    mixer-part lanes set opening end.hall end.turns H g.mixer.0 given.ticker given.sink end.mixer counts g.opens g.leads
    (omega (arith, g.number.0, g.number.1, g.limit_is)) to.told legal
    (last-two (λ (s : HallSeat). IsPrefix s.seen end.turns) end.lanes end.chair.seat end.mixer.seat g.known).1 parts.of_mixer g.mixer.2 mixed in
    record {
      history = H;
      told = to.told;
      legal = legal;
      stands = to.stands;
      lanes_are = to.same.lanes ∙ g.lanes_are;
      number = g.number;
      opening = opening;
      opens = g.opens;
      limit = g.limit_is;
      leads = g.leads;
      shared = g.shared;
      lanes = parts.serve;
      chair = chair;
      mixer = mix.serves;
      full = g.full;
      ended =
          halted-seats lanes opening end.hall end.turns H (seats_of end) g.opens g.leads (omega (arith, g.number.0, g.number.1, g.limit_is)) to.told legal
          g.shared.turns;
      whole = mix.whole;
      wrote = mix.wrote;
      counted =
          same-tally (counted_together end counts) (tally_of set lanes H mix.whole) (mix.ticks ∙ ticks-counted H)
          (pictures-together H given.lanes end.lanes legal parts.serve) (gaps-together H given.lanes end.lanes legal parts.serve)
          (chair.runs.counted.commands ∙ (ap (λ (w : List Step). length w) chair.steps_are ∙ commands-counted H))
          (chair.runs.counted.refused ∙ (ap (count_by is_refused_step) chair.steps_are ∙ refused-counted H))
          (mix.taken ∙ taken-counted H) mix.packets mix.octets;
      headline = headline lanes H legal;
    }
