-- The lines of a watch over a stream: each event's, all of them, and how many they are.
use Rattle.std.proofs.Common.{◌≡◌, ℕ, ◌+◌, ◌*◌, ◌^◌, ◌<◌, ◌≤◌, min, Bool, true, false, cond, Option, Some, None, List, [], ◌∷◌, ◌++◌, length, replicate, Result, Ok, Err, IsErr, IfOk, refl, sym, ap, ap₂, subst, ◌∙◌, arith, sum_by, count_by, length-append}
use Rattle.std.specs.List.{concat}
use Rattle.std.proofs.Math.Path.{fun_ext}
use Rattle.std.proofs.KnownBytes.{Appends-nil}
use Rattle.std.proofs.lemmas.List.Sums.{sum_by-cons}
use Rattle.io_edge.specs.Causes.{HasCause}
use Rattle.io_edge.specs.Outside.{Outside, Output}
use Rattle.pel_model.specs.declared.Format.{Format}
use Rattle.pel_model.specs.Records.{Picture}
use Rattle.rtp_h261.specs.declared.unit_end.UnitEnd.{UnitEnd}
use Rattle.rtp_h261.specs.declared.unit_end.UnitStop.{UnitStop}
use Rattle.rtp_h261.specs.declared.unit_end.UnitStop.TheVariants.{Done, ReadFault, WriteFault, Cut, Limit, NoMemory}
use Rattle.rtp_h261.specs.Events.{Event, Lost, Shown, Refused, is_picture}
use Rattle.rtp_h261.specs.TellerEnds.{TellsUnits}
use Rattle.rtp_h261.specs.Tellers.{CountsMore, PutsHere, TellsEvent, put_whole}
use Rattle.rtp_h261.specs.UnitEnds.{ReadsUnits, UnitsEnd, UnitsRead, WritesPieces, whole_in, whole_by, whole_pieces}
use Rattle.update_watch.specs.declared.frames.WatchEnd.{WatchEnd}
use Rattle.update_watch.specs.declared.overdue.Overdue.{Overdue}
use Rattle.update_watch.specs.Counting.{count_at, counted_on, counted_none, late_by, late_places, watch_duty, Counts, CountsPicture}
use Rattle.update_watch.specs.Late.{late, late_behind}
use Rattle.update_watch.specs.Overdue.{Place, overdue_line, overdue_lines, overdue_places, told_overdue}
use Rattle.update_watch.specs.WatchEnds.{WatchesFrames}
use Rattle.update_watch.proofs.Counted.{none-counted}
use Rattle.update_watch.proofs.Standing.{AreRuns, runs-on, places-late}

-- ---- one event

same-counts : (f h : ℕ → ℕ → ℕ) → ((g a : ℕ) → f g a ≡ h g a) → f ≡ h
same-counts f h same = fun_ext (λ g. fun_ext (same g))

few-of : {E : Type 0} (result : Result ℕ E) → IfOk result (λ octets. octets ≤ 160) → IfOk result (λ octets. octets ≤ 262144)
few-of (Ok octets) short = omega (arith, short)
few-of (Err e) short = tt

-- nothing is written of it, and no line is counted
quiet : {E : Type 0} (old new : Counts) (lines number : ℕ) (event : Event) (here : Output) → new.format ≡ old.format
    → ((events : List Event) → late_by (count_at old.counts) number (event ∷ events) ≡ late_by (count_at new.counts) (number + 1) events)
    → TellsEvent {E = E} (watch_duty old lines) (watch_duty new lines) number event here here (Ok 0)
quiet {E} old new lines number event here format others = record {
  here = [];
  others = others;
  put = (Appends-nil here.written, refl);
  counts = λ small. ap (λ (n : ℕ). Some n) (omega arith);
  few = omega arith;
  format = format;
  cause = record { later = omega arith; counted = λ small. small; kept = refl; failed = tt };
}

cleared : (new : Counts) → new.counts ≡ replicate 396 0 → count_at new.counts ≡ counted_none
cleared new is = same-counts (count_at new.counts) counted_none (λ g a. ap (λ (l : List ℕ). count_at l g a) is ∙ none-counted g a)

pub lost-told : {E : Type 0} (old new : Counts) (lines number : ℕ) (here : Output) → new ≡ record old { counts = replicate 396 0 }
    → TellsEvent {E = E} (watch_duty old lines) (watch_duty new lines) number Lost here here (Ok 0)
lost-told {E} old new lines number here is =
    quiet {E = E} old new lines number Lost here (ap (λ (k : Counts). k.format) is)
    (λ events. ap (λ (counts : ℕ → ℕ → ℕ). late_by counts (number + 1) events) (sym (cleared new (ap (λ (k : Counts). k.counts) is))))

pub refused-told : {E : Type 0} (old new : Counts) (lines number place : ℕ) (why : _) (here : Output) → new ≡ record old { counts = replicate 396 0 }
    → TellsEvent {E = E} (watch_duty old lines) (watch_duty new lines) number (Refused place why) here here (Ok 0)
refused-told {E} old new lines number place why here is =
    quiet {E = E} old new lines number (Refused place why) here (ap (λ (k : Counts). k.format) is)
    (λ events. ap (λ (counts : ℕ → ℕ → ℕ). late_by counts (number + 1) events) (sym (cleared new (ap (λ (k : Counts). k.counts) is))))

-- the lines of a picture and of what comes behind it
picture-lines : (p : Picture) (old new : Counts) (result : Option Overdue) (number : ℕ) → CountsPicture p old new result → (events : List Event)
    → late_by (count_at old.counts) number (Shown p ∷ events) ≡ overdue_lines number result ++ late_by (count_at new.counts) (number + 1) events
picture-lines p old new result number c events =
    ap₂ (λ (told : Option Overdue) (counts : ℕ → ℕ → ℕ). overdue_lines number told ++ late_by counts (number + 1) events)
    (sym c.late) (sym (same-counts (count_at new.counts) (counted_on (count_at old.counts) p) c.counted))

pub quiet-told : {E : Type 0} (p : Picture) (old new : Counts) (result : Option Overdue) (lines number : ℕ) (here : Output) → result ≡ None → CountsPicture p old new result
    → TellsEvent {E = E} (watch_duty old lines) (watch_duty new lines) number (Shown p) here here (Ok 0)
quiet-told {E} p old new result lines number here none c =
    quiet {E = E} old new lines number (Shown p) here c.format
    (λ events. picture-lines p old new result number c events ∙ ap (λ (told : Option Overdue). overdue_lines number told ++ late_by (count_at new.counts) (number + 1) events) none)

pub line-told : {E : Type 0} (put : Result ℕ E) (p : Picture) (old new : Counts) (result : Option Overdue) (overdue : Overdue) (lines more number : ℕ) (line : List ℕ) (before after : Output)
    → result ≡ Some overdue → CountsPicture p old new result → line ≡ overdue_line number overdue
    → PutsHere (line ∷ []) before.written after.written put → IfOk put (λ octets. octets ≤ 160) → HasCause before.faults after.faults put
    → CountsMore (Some lines) (Some more) (length (put_whole (line ∷ []) put))
    → TellsEvent (watch_duty old lines) (watch_duty new more) number (Shown p) before after put
line-told put p old new result overdue lines more number line before after some c is puts short cause counts = record {
  here = line ∷ [];
  others = λ events.
      picture-lines p old new result number c events
      ∙ ap (λ (told : Option Overdue). overdue_lines number told ++ late_by (count_at new.counts) (number + 1) events) some
      ∙ ap (λ (l : List ℕ). l ∷ [] ++ late_by (count_at new.counts) (number + 1) events) (sym is);
  put = puts;
  counts = counts;
  few = few-of put short;
  format = c.format;
  cause = cause;
}

-- the sink failed
pub line-failed : {E F : Type 0} (put : Result ℕ E) (e : F) (p : Picture) (old new : Counts) (result : Option Overdue) (overdue : Overdue) (lines number : ℕ) (line : List ℕ) (before after : Output)
    → result ≡ Some overdue → CountsPicture p old new result → line ≡ overdue_line number overdue → IsErr put
    → PutsHere (line ∷ []) before.written after.written (Err e) → HasCause {T = ℕ} before.faults after.faults (Err e)
    → TellsEvent (watch_duty old lines) (watch_duty new lines) number (Shown p) before after put
line-failed (Ok octets) e p old new result overdue lines number line before after some c is failed puts cause = absurd (cc)
line-failed (Err f) e p old new result overdue lines number line before after some c is failed puts cause =
    line-told (Err f) p old new result overdue lines lines number line before after some c is puts tt
    (record { later = cause.later; counted = cause.counted; kept = cause.kept; failed = cause.failed })
    (λ small. ap (λ (n : ℕ). Some n) (omega arith))

-- ---- all events

lines-late : (counts : ℕ → ℕ → ℕ) (stretch : List Picture) (n : ℕ) (events : List Event) → AreRuns counts stretch → late_by counts n events ≡ late_behind stretch n events
lines-late counts stretch n [] runs = refl
lines-late counts stretch n (Lost ∷ events) runs = lines-late counted_none [] (n + 1) events (λ g a. refl)
lines-late counts stretch n (Refused place why ∷ events) runs = lines-late counted_none [] (n + 1) events (λ g a. refl)
lines-late counts stretch n (Shown p ∷ events) runs =
    ap₂ (λ (places : List Place) (rest : List (List ℕ)). overdue_lines n (told_overdue places) ++ rest)
    (places-late counts stretch p runs)
    (lines-late (counted_on counts p) (stretch ++ p ∷ []) (n + 1) events (runs-on counts stretch p runs))

-- ---- they are no more than the pictures

one-line : (n : ℕ) (told : Option Overdue) → length (overdue_lines n told) ≤ 1
one-line n None = omega arith
one-line n (Some overdue) = omega arith

count-cons : (event : Event) (events : List Event) → count_by is_picture (event ∷ events) ≡ cond (is_picture event) 1 0 + count_by is_picture events
count-cons event events = sum_by-cons (λ (e : Event). cond (is_picture e) 1 0) event events

lines-few : (stretch : List Picture) (n : ℕ) (events : List Event) → length (late_behind stretch n events) ≤ count_by is_picture events
lines-few stretch n [] = omega arith
lines-few stretch n (Lost ∷ events) = omega (arith, lines-few [] (n + 1) events, count-cons Lost events)
lines-few stretch n (Refused place why ∷ events) = omega (arith, lines-few [] (n + 1) events, count-cons (Refused place why) events)
lines-few stretch n (Shown p ∷ events) =
    let told = told_overdue (overdue_places stretch p) in
    let rest = late_behind (stretch ++ p ∷ []) (n + 1) events in
    omega (arith, length-append (overdue_lines n told) rest, one-line n told, lines-few (stretch ++ p ∷ []) (n + 1) events, count-cons (Shown p) events)

whole-in-few : (stop : UnitStop) (format : Format) (packets : List (List ℕ)) (pieces : List Event → List (List ℕ)) (events : List Event) (old new : Option (List ℕ)) (octets : ℕ)
    (written : WritesPieces stop format packets pieces events old new octets) → whole_in stop format packets pieces events old new octets written ≤ length (pieces events)
whole-in-few WriteFault format packets pieces events old new octets written =
    omega (arith, ap length written.order, length-append written.whole (written.next ∷ written.rest))
whole-in-few Done format packets pieces events old new octets written = omega arith
whole-in-few ReadFault format packets pieces events old new octets written = omega arith
whole-in-few (Cut place) format packets pieces events old new octets written = omega arith
whole-in-few Limit format packets pieces events old new octets written = omega arith
whole-in-few NoMemory format packets pieces events old new octets written = omega arith

abbrev FewPieces : (List Event → List (List ℕ)) → Type 0
FewPieces pieces = (events : List Event) → length (pieces events) ≤ count_by is_picture events

whole-read-few : (format : Format) (budget : ℕ) (pieces : List Event → List (List ℕ)) (before after : Outside) (end : UnitEnd) → FewPieces pieces
    → (read : UnitsRead format budget pieces before after end)
    → whole_in end.stop format read.packets pieces read.events before.sink.written after.sink.written end.tally.octets read.report ≤ end.tally.pictures
whole-read-few format budget pieces before after end few read =
    omega (arith, whole-in-few end.stop format read.packets pieces read.events before.sink.written after.sink.written end.tally.octets read.report, few read.events, read.pictures)

whole-by-few : (stop : UnitStop) (format : Format) (budget : ℕ) (pieces : List Event → List (List ℕ)) (before after : Outside) (end : UnitEnd) → FewPieces pieces
    → (ends : UnitsEnd stop format budget pieces before after end) → whole_by stop format budget pieces before after end ends ≤ end.tally.pictures
whole-by-few NoMemory format budget pieces before after end few ends = omega arith
whole-by-few Done format budget pieces before after end few ends = whole-read-few format budget pieces before after end few ends
whole-by-few ReadFault format budget pieces before after end few ends = whole-read-few format budget pieces before after end few ends
whole-by-few WriteFault format budget pieces before after end few ends = whole-read-few format budget pieces before after end few ends
whole-by-few (Cut place) format budget pieces before after end few ends = whole-read-few format budget pieces before after end few ends
whole-by-few Limit format budget pieces before after end few ends = whole-read-few format budget pieces before after end few ends

some-count : (m n : ℕ) → ◌≡◌ {A = Option ℕ} (Some m) (Some n) → m ≡ n
some-count m n e = cc

-- ---- how a watch ends

pub watches : (format : Format) (budget : ℕ) (first last : Counts) (lines : ℕ) (before after : Outside) (end : UnitEnd) → first.counts ≡ replicate 396 0 → end.tally.pictures < 2 ^ 64
    → TellsUnits format budget (watch_duty first 0) (watch_duty last lines) before after end
    → WatchesFrames format budget before after (record { end = end; overdue = lines })
watches format budget first last lines before after end is fits t =
    let same : late_by (count_at first.counts) 1 ≡ late =
    fun_ext (λ events. lines-late (count_at first.counts) [] 1 events (λ g a. ap (λ (l : List ℕ). count_at l g a) is ∙ none-counted g a)) in
    let h : (reads : ReadsUnits format budget late before after end) × CountsMore (Some 0) (Some lines) (whole_pieces reads) =
    subst (λ (pieces : List Event → List (List ℕ)). (reads : ReadsUnits format budget pieces before after end) × CountsMore (Some 0) (Some lines) (whole_pieces reads)) same (t.reads, t.counts) in
    let few = whole-by-few end.stop format budget late before after end (lines-few [] 1) h.0.ends in
    record {
      reads = h.0;
      counts = some-count lines (0 + whole_pieces h.0) (h.1 (omega (arith, few, fits))) ∙ omega arith;
    }
