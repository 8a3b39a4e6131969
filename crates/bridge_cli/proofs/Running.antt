-- What words made the call `run` do, by the job that they ask for.
use Rattle.std.proofs.Common.{◌≡◌, ◌⊎◌, ℕ, ◌≤◌, List, length, refl, sym, ap, subst, ◌∙◌, inl, inr}
use Rattle.command_words.specs.Asks.{Asks}
use Rattle.command_words.specs.Options.{Text}
use Rattle.command_words.proofs.OneJob.{one_job}
use Rattle.command_words.specs.declared.fault.WordsFault.{WordsFault}
use Rattle.command_words.specs.declared.fault.WordsFault.TheVariants as words_fault
use Rattle.command_words.specs.declared.job.Job.{Job}
use Rattle.command_words.specs.declared.job.Job.TheVariants.{Replay, History, Check, Decode, Make, Live}
use Rattle.command_words.specs.declared.job.PacketOptions.{PacketOptions}
use Rattle.command_words.specs.declared.job.FormatOptions.{FormatOptions}
use Rattle.command_words.specs.declared.job.MakeOptions.{MakeOptions}
use Rattle.command_words.specs.declared.job.LiveOptions.{LiveOptions}
use Rattle.io_edge.specs.Causes.{Rose}
use Rattle.io_edge.specs.Outside.{Input, Output, Outside, outside}
use Rattle.cif_pack.specs.declared.packer.Settings.{Settings}
use Rattle.bridge_replay.specs.Replays.{ReplayEnds, DoneOnWholeFile, DoneWhereWhole, IsReadBack}
use Rattle.bridge_replay.specs.Telling.{HistoryEnds}
use Rattle.bridge_replay.specs.declared.ends.ReplayEnd.{ReplayEnd}
use Rattle.bridge_replay.specs.declared.telling.HistoryEnd.{HistoryEnd}
use Rattle.rtp_h261.specs.UnitEnds.{ReadsUnits}
use Rattle.rtp_h261.specs.declared.unit_end.UnitEnd.{UnitEnd}
use Rattle.conf_make.specs.Ends.{IsMakeRun, MakeStopsBy}
use Rattle.conf_make.specs.declared.maker.MakeEnd.{MakeEnd}
use Rattle.conf_make.specs.declared.maker.MakeStop.{MakeStop}
use Rattle.conf_make.specs.declared.maker.MakeStop.TheVariants as made
use Rattle.conf_make.specs.declared.output.MakeTally.{MakeTally}
use Rattle.pic_report.specs.Report.{lines}
use Rattle.ref_decode.specs.Planes.{planes_shown}
use Rattle.bridge_cli.specs.Answers.{DoesAsked}
use Rattle.bridge_cli.specs.Notes.{fault_line, history_line, line_for, made_line, planes_line, report_line, status_of_make, status_of_replay, status_of_units, status_of_words, tally_line}
use Rattle.bridge_cli.specs.Runs.{AskNone, Does, HasInput, IsDoneWhole, IsServed, Notes, Runs, octet_limit, settings_of}
use Rattle.bridge_cli.specs.declared.status.Status.{Status}
use Rattle.bridge_cli.specs.declared.status.Status.TheVariants.{Done, Usage, NoMemory}

-- the job that the words ask for was done
does : (words : List Text) (job : Job) (before after : Outside) (told : Status) (line : List ℕ) → Asks words job → Does job before after told line
    → (HasInput job before.source → (Rose before.source.faults after.source.faults → ⊥) → (Rose before.sink.faults after.sink.faults → ⊥)
    → (told ≡ Done) ⊎ (told ≡ NoMemory))
    → DoesAsked words before after told line
does words job before after told line asked did whole = record {
  did = inl (job, asked, did);
  complete = λ k k_asked has. whole (subst (λ j. HasInput j before.source) (one_job words k job k_asked asked) has);
}

-- they ask for none of this call
none_done : (words : List Text) (before : Outside) → AskNone words → DoesAsked words before before Usage (fault_line Usage)
none_done words before none = record { did = inr (inl (none, refl, refl, refl)); complete = go }
  where
    go : IsDoneWhole words before before Usage
    go (Replay o) asked has = absurd (none (Replay o) asked tt)
    go History asked has = absurd (none History asked tt)
    go (Check o) asked has = absurd (none (Check o) asked tt)
    go (Decode o) asked has = absurd (none (Decode o) asked tt)
    go (Make o) asked has = absurd (none (Make o) asked tt)
    go (Live o) asked has = absurd has

none_read : (words : List Text) (before : Outside) → DoesAsked words before before NoMemory (fault_line NoMemory)
none_read words before = record { did = inr (inr (refl, refl, refl)); complete = λ job asked has quiet silent. inr refl }

-- an end with this status and its line
abbrev IsTold : Status → List ℕ → Status → Type 0
IsTold status line told = (status ≡ told) × (line ≡ fault_line told)

pub live_asked : (words : List Text) (o : LiveOptions) (before : Outside) (status : Status) (line : List ℕ) → Asks words (Live o)
    → IsTold status line Usage → DoesAsked words before before status line
live_asked words o before status line asked is =
    subst (λ s. DoesAsked words before before s line) (sym is.0) (subst (DoesAsked words before before Usage) (sym is.1)
    (none_done words before (λ job k served. subst IsServed (one_job words job (Live o) k asked) served)))

pub words_refused : (words : List Text) (e : WordsFault) (before : Outside) (status told_as : Status) (line : List ℕ)
    → ((job : Job) → Asks words job → e ≡ words_fault.Usage → ⊥) → told_as ≡ status_of_words e → IsTold status line told_as
    → DoesAsked words before before status line
words_refused words words_fault.Usage before status told_as line none is told =
    let told_is : status ≡ Usage = told.0 ∙ is in
    let line_is : line ≡ fault_line Usage = told.1 ∙ ap fault_line is in
    subst (λ s. DoesAsked words before before s line) (sym told_is) (subst (DoesAsked words before before Usage) (sym line_is)
    (none_done words before (λ job asked served. none job asked refl)))
words_refused words words_fault.NoMemory before status told_as line none is told =
    let told_is : status ≡ NoMemory = told.0 ∙ is in
    let line_is : line ≡ fault_line NoMemory = told.1 ∙ ap fault_line is in
    subst (λ s. DoesAsked words before before s line) (sym told_is) (subst (DoesAsked words before before NoMemory) (sym line_is)
    (none_read words before))

-- a job that was done: the status tells its stop, and the line is that of the job
abbrev IsEnd : Status → List ℕ → (stop : Status) → (done : List ℕ) → Type 0
IsEnd status line stop done = (status ≡ stop) × (line ≡ line_for done stop)

line_is : (status stop : Status) (line done : List ℕ) → IsEnd status line stop done → line ≡ line_for done status
line_is status stop line done is = is.1 ∙ ap (line_for done) (sym is.0)

pub replayed : (words : List Text) (o : PacketOptions) (set : Settings) (budget : ℕ) (before after : Outside) (end : ReplayEnd) (status stop : Status)
    (line done : List ℕ) → Asks words (Replay o) → set ≡ settings_of o → budget ≡ octet_limit → ReplayEnds set budget before after end
    → DoneOnWholeFile budget before after end → IsReadBack set → stop ≡ status_of_replay end.stop → done ≡ tally_line end.tally
    → IsEnd status line stop done → DoesAsked words before after status line
replayed words o set budget before after end status stop line done asked set_is budget_is ends whole back stop_is done_is is =
    let told : status ≡ status_of_replay end.stop = is.0 ∙ stop_is in
    does words (Replay o) before after status line asked (
      end,
      subst (λ b. ReplayEnds (settings_of o) b before after end) budget_is (subst (λ s. ReplayEnds s budget before after end) set_is ends),
      subst IsReadBack set_is back,
      told,
      line_is status stop line done is ∙ ap (λ d. line_for d status) done_is,
    )
    (λ has quiet silent.
    elim (whole has.0 has.1 has.2 has.3 has.4 has.5 (subst (λ b. length has.0 ≤ b) (sym budget_is) has.6) quiet silent) [
      | inl at_end ↦ inl (told ∙ ap status_of_replay at_end)
      | inr wants ↦ inr (told ∙ ap status_of_replay wants)
    ])

pub retold : (words : List Text) (budget : ℕ) (before after : Outside) (end : HistoryEnd) (status stop : Status)
    (line done : List ℕ) → Asks words History → budget ≡ octet_limit → HistoryEnds budget before after end
    → DoneWhereWhole budget before after end.stop → stop ≡ status_of_replay end.stop → done ≡ history_line end.tally
    → IsEnd status line stop done → DoesAsked words before after status line
retold words budget before after end status stop line done asked budget_is ends whole stop_is done_is is =
    let told : status ≡ status_of_replay end.stop = is.0 ∙ stop_is in
    does words History before after status line asked (
      end,
      subst (λ b. HistoryEnds b before after end) budget_is ends,
      told,
      line_is status stop line done is ∙ ap (λ d. line_for d status) done_is,
    )
    (λ has quiet silent.
    elim (whole has.0 has.1 has.2 has.3 has.4 has.5 (subst (λ b. length has.0 ≤ b) (sym budget_is) has.6) quiet silent) [
      | inl at_end ↦ inl (told ∙ ap status_of_replay at_end)
      | inr wants ↦ inr (told ∙ ap status_of_replay wants)
    ])

pub checked : (words : List Text) (o : FormatOptions) (budget : ℕ) (before after : Outside) (end : UnitEnd) (status stop : Status)
    (line done : List ℕ) → Asks words (Check o) → budget ≡ octet_limit → ReadsUnits o.format budget (lines o.format) before after end
    → stop ≡ status_of_units end.stop → done ≡ report_line end.tally → IsEnd status line stop done → DoesAsked words before after status line
checked words o budget before after end status stop line done asked budget_is reads stop_is done_is is =
    let told : status ≡ status_of_units end.stop = is.0 ∙ stop_is in
    let units : ReadsUnits o.format octet_limit (lines o.format) before after end =
    subst (λ b. ReadsUnits o.format b (lines o.format) before after end) budget_is reads in
    does words (Check o) before after status line asked
    (end, units, told, line_is status stop line done is ∙ ap (λ d. line_for d status) done_is)
    (λ has quiet silent.
    elim (units.completes has.0 has.1 has.2 quiet silent) [
      | inl at_end ↦ inl (told ∙ ap status_of_units at_end)
      | inr wants ↦ inr (told ∙ ap status_of_units wants)
    ])

pub decoded : (words : List Text) (o : FormatOptions) (budget : ℕ) (before after : Outside) (end : UnitEnd) (status stop : Status)
    (line done : List ℕ) → Asks words (Decode o) → budget ≡ octet_limit → ReadsUnits o.format budget (planes_shown o.format) before after end
    → stop ≡ status_of_units end.stop → done ≡ planes_line end.tally → IsEnd status line stop done → DoesAsked words before after status line
decoded words o budget before after end status stop line done asked budget_is reads stop_is done_is is =
    let told : status ≡ status_of_units end.stop = is.0 ∙ stop_is in
    let units : ReadsUnits o.format octet_limit (planes_shown o.format) before after end =
    subst (λ b. ReadsUnits o.format b (planes_shown o.format) before after end) budget_is reads in
    does words (Decode o) before after status line asked
    (end, units, told, line_is status stop line done is ∙ ap (λ d. line_for d status) done_is)
    (λ has quiet silent.
    elim (units.completes has.0 has.1 has.2 quiet silent) [
      | inl at_end ↦ inl (told ∙ ap status_of_units at_end)
      | inr wants ↦ inr (told ∙ ap status_of_units wants)
    ])

made_by : (seed ticks lanes : ℕ) (before after : Output) (stop : MakeStop) (tally : MakeTally) → MakeStopsBy stop seed ticks lanes before after tally
    → (Rose before.faults after.faults → ⊥) → (status_of_make stop ≡ Done) ⊎ (status_of_make stop ≡ NoMemory)
made_by seed ticks lanes before after made.Done tally run silent = inl refl
made_by seed ticks lanes before after made.WriteFault tally run silent = absurd (silent run.1)
made_by seed ticks lanes before after made.NoMemory tally run silent = inr refl

pub made_file : (words : List Text) (o : MakeOptions) (seed : ℕ) (source : Input) (before after : Output) (end : MakeEnd) (status stop : Status)
    (line done : List ℕ) → Asks words (Make o) → seed ≡ o.seed → IsMakeRun seed o.ticks o.lanes before after end
    → stop ≡ status_of_make end.stop → done ≡ made_line o.ticks end.tally → IsEnd status line stop done
    → DoesAsked words (outside source before) (outside source after) status line
made_file words o seed source before after end status stop line done asked same makes stop_is done_is is =
    let run : IsMakeRun o.seed o.ticks o.lanes before after end = subst (λ (s : ℕ). IsMakeRun s o.ticks o.lanes before after end) same makes in
    let told : status ≡ status_of_make end.stop = is.0 ∙ stop_is in
    does words (Make o) (outside source before) (outside source after) status line asked
    (end, run, refl, told, line_is status stop line done is ∙ ap (λ d. line_for d status) done_is)
    (λ has quiet silent.
    elim (made_by o.seed o.ticks o.lanes before after end.stop end.tally run silent) [
      | inl at_end ↦ inl (told ∙ at_end)
      | inr wants ↦ inr (told ∙ wants)
    ])

-- what was done, and the note of it
noted : (words : List Text) (before after : Outside) (told status : Status) (line : List ℕ) (old new : Output) → IsDoneWhole words before after told
    → Notes told line status old new → (Rose old.faults new.faults → ⊥) → IsDoneWhole words before after status
noted words before after told status line old new whole (inl written) kept =
    subst (IsDoneWhole words before after) (sym written.0) whole
noted words before after told status line old new whole (inr failed) kept = absurd (kept failed.2)

pub runs : (words : List Text) (before after : Outside) (told status : Status) (line : List ℕ) (old new : Output)
    → DoesAsked words before after told line → Notes told line status old new → Runs words before after old new status
runs words before after told status line old new does_it notes = record {
  told = told;
  line = line;
  did = does_it.did;
  notes = notes;
  complete = noted words before after told status line old new does_it.complete notes;
}
