-- What a call of `live` comes to, by its end and by what told of it.
use Rattle.std.proofs.Common.{◌≡◌, ◌⊎◌, ℕ, List, [], ◌∷◌, ◌++◌, Some, length, map, refl, sym, ap, subst, ◌∙◌, inl, inr}
use Rattle.command_words.specs.Asks.{Asks}
use Rattle.command_words.specs.Options.{Text}
use Rattle.command_words.proofs.OneJob.{one_job}
use Rattle.command_words.specs.declared.fault.WordsFault.{WordsFault}
use Rattle.command_words.specs.declared.fault.WordsFault.TheVariants as words_fault
use Rattle.command_words.specs.declared.job.Job.{Job}
use Rattle.command_words.specs.declared.job.Job.TheVariants.{Live}
use Rattle.command_words.specs.declared.job.LiveOptions.{LiveOptions}
use Rattle.io_edge.specs.Causes.{Rose}
use Rattle.cif_pack.specs.declared.packer.Settings.{Settings}
use Rattle.bridge_live.specs.Handed.{ending_of, given_of}
use Rattle.io_edge.specs.Outside.{Input, Output}
use Rattle.bridge_live.specs.Serve.{IsServedWhole, Serves}
use Rattle.bridge_live.specs.declared.ends.ServeEnd.{ServeEnd}
use Rattle.bridge_cli.specs.Runs.{Notes, settings_of, without_note}
use Rattle.bridge_cli.specs.Answers.{Retells}
use Rattle.bridge_cli.specs.Notes.{fault_line, line_for, status_of_words, tally_line}
use Rattle.bridge_cli.specs.Opening.{CannotOpen, GivesAll, IsUnopened, Misses, MissesAt, ReachesAll, TakeEntries, number_of_name}
use Rattle.bridge_cli.proofs.Exact.{none_misses, one_place}
use Rattle.io_edge.specs.Directory.{NamedOctets, Directory}
use Rattle.bridge_cli.specs.Lives.{AskNoLive, Comes, HoldsLive, IsDoneLive, TellsFirstMissing, Lives, TellsEnd, WhyRefused, sources_of, names_of, status_of_live, status_of_mixer}
use Rattle.bridge_cli.specs.declared.live.LiveEnd.{LiveEnd}
use Rattle.bridge_cli.specs.declared.live.LiveEnd.TheVariants.{Refused, Served}
use Rattle.bridge_cli.specs.declared.status.Status.{Status}
use Rattle.bridge_cli.specs.declared.status.Status.TheVariants as status

-- what names one of which was not opened say of a refusal
pub refused_opening : (words : List Text) (o : LiveOptions) (before after : Directory) (s : Status) → Asks words (Live o)
    → IsUnopened (names_of o) (number_of_name (length o.lanes)) before after s → WhyRefused words before after s
refused_opening words o before after (status.OpenFault lane) asked why = (o, asked, why)
refused_opening words o before after status.NoMemory asked why = why
refused_opening words o before after status.Done asked why = absurd why
refused_opening words o before after status.Usage asked why = absurd why
refused_opening words o before after status.ReadFault asked why = absurd why
refused_opening words o before after status.WriteFault asked why = absurd why
refused_opening words o before after (status.Cut place) asked why = absurd why
refused_opening words o before after (status.BadRecord place because) asked why = absurd why
refused_opening words o before after status.Limit asked why = absurd why
refused_opening words o before after status.NoteFault asked why = absurd why

-- words that ask for another job, or for none, or that were not read
pub words_unread : (words : List Text) (e : WordsFault) (s : Status) → s ≡ status_of_words e
    → ((job : Job) → Asks words job → e ≡ words_fault.Usage → ⊥) → (s ≡ status.NoMemory) ⊎ ((s ≡ status.Usage) × AskNoLive words)
words_unread words words_fault.Usage s is none = inr (is, λ o asked. none (Live o) asked refl)
words_unread words words_fault.NoMemory s is none = inl is

pub refused_words : (words : List Text) (before : Directory) (s : Status) → (s ≡ status.NoMemory) ⊎ ((s ≡ status.Usage) × AskNoLive words)
    → WhyRefused words before before s
refused_words words before s (inl is) = subst (WhyRefused words before before) (sym is) refl
refused_words words before s (inr (is, none)) = subst (WhyRefused words before before) (sym is) (none, refl)

-- a refusal is not changed by a line that could not be written
unchanged : (words : List Text) (before after : Directory) (s : Status) → WhyRefused words before after s → without_note s ≡ s
unchanged words before after (status.OpenFault lane) why = refl
unchanged words before after status.NoMemory why = refl
unchanged words before after status.Done why = absurd why
unchanged words before after status.Usage why = refl
unchanged words before after status.ReadFault why = absurd why
unchanged words before after status.WriteFault why = absurd why
unchanged words before after (status.Cut place) why = absurd why
unchanged words before after (status.BadRecord place because) why = absurd why
unchanged words before after status.Limit why = absurd why
unchanged words before after status.NoteFault why = absurd why

same_status : (words : List Text) (before after : Directory) (s t : Status) (line : List ℕ) (old new : Output)
    → WhyRefused words before after s → Notes s line t old new → t ≡ s
same_status words before after s t line old new why (inl written) = written.0
same_status words before after s t line old new why (inr failed) = failed.0 ∙ unchanged words before after s why

not_usage : (words : List Text) (before after : Directory) (s : Status) (o : LiveOptions) → Asks words (Live o)
    → (Rose before.faults after.faults → ⊥) → WhyRefused words before after s → s ≡ status.NoMemory
not_usage words before after (status.OpenFault lane) o asked quiet (other, other_asked, (place, lane_is, fails)) = absurd (quiet fails.rose)
not_usage words before after status.NoMemory o asked quiet why = refl
not_usage words before after status.Usage o asked quiet why = absurd (why.0 o asked)
not_usage words before after status.Done o asked quiet why = absurd why
not_usage words before after status.ReadFault o asked quiet why = absurd why
not_usage words before after status.WriteFault o asked quiet why = absurd why
not_usage words before after (status.Cut place) o asked quiet why = absurd why
not_usage words before after (status.BadRecord place because) o asked quiet why = absurd why
not_usage words before after status.Limit o asked quiet why = absurd why
not_usage words before after status.NoteFault o asked quiet why = absurd why

told_done : (s t : Status) (line : List ℕ) (old new : Output) → (Rose old.faults new.faults → ⊥) → s ≡ status.Done
    → Notes s line t old new → t ≡ status.Done
told_done s t line old new quiet is (inl written) = written.0 ∙ is
told_done s t line old new quiet is (inr failed) = absurd (quiet failed.2)

module _ {S C K : Type 0} (source : S → Input) (ticks : C → Input) (sinks : K → Output) where
  -- a conference that was served over the sources of the names
  pub held : (words : List Text) (o : LiveOptions) (before after : Directory) (ticker : C) (sink : K) (lanes : List S) (chair : S)
      (end : ServeEnd S C K) (set : Settings) (s : Status) → set ≡ settings_of o.packets → Asks words (Live o)
      → ReachesAll (names_of o) (map source lanes ++ source chair ∷ []) before after
      → Serves set o.turns (given_of source ticks sinks lanes chair ticker sink) (ending_of source ticks sinks end) end.tally
      → IsServedWhole o.turns (given_of source ticks sinks lanes chair ticker sink) (ending_of source ticks sinks end)
      → Comes source ticks sinks words before after ticker sink (Served s end)
  held words o before after ticker sink lanes chair end set s is asked reaches serves whole = (
    o,
    asked,
    (
      given_of source ticks sinks lanes chair ticker sink,
      record {
        reaches = reaches;
        ticker_is = refl;
        sink_is = refl;
        serves = subst (λ p. Serves p o.turns (given_of source ticks sinks lanes chair ticker sink) (ending_of source ticks sinks end) end.tally) is serves;
        complete = whole;
      },
    ),
  )

live_once : (words : List Text) (o p : LiveOptions) → Asks words (Live o) → Asks words (Live p) → o ≡ p
live_once words o p a b = let same : Live o ≡ Live p = one_job words (Live o) (Live p) a b in cc

misses_of : (names : List Text) (place : ℕ) (before after : Directory) (house : List NamedOctets) → before.names ≡ Some house
    → CannotOpen names place before after → MissesAt names house place
misses_of names place before after house told fails =
    let misses = subst (λ e. Misses fails.reached fails.name e after.names) told fails.misses in
    record {
      reached = fails.reached;
      name = fails.name;
      others = fails.others;
      is = fails.is;
      place_is = fails.place_is;
      octets = misses.0;
      rest = misses.1;
      takes = misses.2;
      none = misses.3;
    }

exact_refusal : (words : List Text) (before after : Directory) (s : Status) → WhyRefused words before after s → (o : LiveOptions)
    → Asks words (Live o) → (house : List NamedOctets) → before.names ≡ Some house → (place : ℕ) → MissesAt (names_of o) house place
    → (s ≡ status.OpenFault (number_of_name (length o.lanes) place)) ⊎ (s ≡ status.NoMemory)
exact_refusal words before after (status.OpenFault lane) (p, other, (at, lane_is, fails)) o asked house told place misses =
    let same : p ≡ o = live_once words p o other asked in
    let there : MissesAt (names_of o) house at =
    subst (λ q. MissesAt (names_of q) house at) same (misses_of (names_of p) at before after house told fails) in
    let here : at ≡ place = one_place (names_of o) house at place there misses in
    inl (ap status.OpenFault (lane_is ∙ (ap (λ q. number_of_name (length q.lanes) at) same ∙ ap (number_of_name (length o.lanes)) here)))
exact_refusal words before after status.NoMemory why o asked house told place misses = inr refl
exact_refusal words before after status.Usage why o asked house told place misses = absurd (why.0 o asked)
exact_refusal words before after status.Done why o asked house told place misses = absurd why
exact_refusal words before after status.ReadFault why o asked house told place misses = absurd why
exact_refusal words before after status.WriteFault why o asked house told place misses = absurd why
exact_refusal words before after (status.Cut k) why o asked house told place misses = absurd why
exact_refusal words before after (status.BadRecord k because) why o asked house told place misses = absurd why
exact_refusal words before after status.Limit why o asked house told place misses = absurd why
exact_refusal words before after status.NoteFault why o asked house told place misses = absurd why

module _ {S C K : Type 0} (source : S → Input) (ticks : C → Input) (sinks : K → Output) (words : List Text)
    (before after : Directory) (ticker : C) (sink : K) where
  exact : (end : LiveEnd S C K) → Comes source ticks sinks words before after ticker sink end → TellsFirstMissing words before (status_of_live end)
  exact (Refused s t k) comes =
      λ o asked house told place misses. exact_refusal words before after s comes.0 o asked house told place misses
  exact (Served s end) (p, other, (given, holds)) =
      λ o asked house told place misses.
      let same : p ≡ o = live_once words p o other asked in
      let gives = subst (λ e. GivesAll (names_of p) (sources_of given) e after.names) told holds.reaches.gives in
      absurd (none_misses (names_of o) house gives.1 gives.0 place
      (subst (λ q. TakeEntries (names_of q) house gives.1 gives.0) same gives.2) misses)

  complete : (end : LiveEnd S C K) (told : Status) (line : List ℕ) (old new : Output) → Comes source ticks sinks words before after ticker sink end
      → TellsEnd end told line → Notes told line (status_of_live end) old new
      → IsDoneLive source ticks sinks words before after ticker sink old new end
  complete (Refused s t k) told line old new comes tells notes =
      λ o asked quiet. not_usage words before after s o asked quiet comes.0
  complete (Served s end) told line old new comes tells notes =
      λ o given holds turns quiet silent.
      let whole = holds.complete turns.frames turns.octets turns.steps turns.frames_are turns.octets_are turns.steps_are turns.enough quiet.0 quiet.1 in
      told_done told s line old new silent (tells.0 ∙ ap status_of_mixer whole) notes

  together : (end : LiveEnd S C K) (told : Status) (line : List ℕ) (old new : Output) → Comes source ticks sinks words before after ticker sink end
      → TellsEnd end told line → Notes told line (status_of_live end) old new
      → Lives source ticks sinks words before after ticker sink old new end
  together end told line old new comes tells notes = record {
    comes = comes;
    told = told;
    line = line;
    tells = tells;
    notes = notes;
    exact = exact end comes;
    complete = complete end told line old new comes tells notes;
  }

  -- what the call comes to, by what it did and by what told of it
  pub lives : (end told : LiveEnd S C K) (old new : Output) → Comes source ticks sinks words before after ticker sink end
      → Retells end told old new → Lives source ticks sinks words before after ticker sink old new told
  lives (Refused s t k) (Refused s_now t_now k_now) old new (why, t_is, k_is) (t_same, k_same, notes) =
      let same = same_status words before after s s_now (fault_line s) old new why notes in
      together (Refused s_now t_now k_now) s (fault_line s) old new
      (subst (WhyRefused words before after) (sym same) why, t_same ∙ t_is, k_same ∙ k_is) (sym same, ap fault_line (sym same)) notes
  lives (Served s end) (Served s_now end_now) old new (o, asked, (given, holds)) (same, notes) =
      together (Served s_now end_now) (status_of_mixer end.stop) (line_for (tally_line end.tally) (status_of_mixer end.stop)) old new
      (o, asked, (given, subst (HoldsLive source ticks sinks o before after ticker sink given) (sym same) holds))
      (ap (λ e. status_of_mixer e.stop) (sym same), ap (λ e. line_for (tally_line e.tally) (status_of_mixer end.stop)) (sym same)) notes
  lives (Refused s t k) (Served s_now end_now) old new comes retells = absurd retells
  lives (Served s end) (Refused s_now t_now k_now) old new comes retells = absurd retells
