-- What the chair makes of its lines.
use Rattle.std.proofs.Common.{◌≡◌, ◌≢◌, ℕ, ◌+◌, ◌<◌, ◌≤◌, Bool, true, false, not, cond, count_by, nat_lt, List, [], ◌∷◌, ◌++◌, length, take, Option, Result, Ok, Err, inl, inr, refl, sym, ap, subst, ◌∙◌, arith, append-nil, length-append, take_all, length-take}
use Rattle.std.proofs.lemmas.Bool.Decides.{nat_tests}
use Rattle.std.proofs.lemmas.List.Sums.{sum_by-append}
use Rattle.std.proofs.lemmas.Grind.{flat_map-append}
use Rattle.std.proofs.KnownBytes.{Consumes-nil, Consumes-trans}
use Rattle.std.specs.Int.{from_bool}
use Rattle.std.specs.List.{flat_map, AllByRecursion}
use Rattle.std.specs.Io.KnownBytes.{Consumes}
use Rattle.chair_words.specs.declared.reader.LineWhy.{LineWhy}
use Rattle.chair_words.specs.Line.{Says, HasFaultAt as FailsAt}
use Rattle.chair_words.specs.Words.{Word, words_in as words}
use Rattle.hall_core.specs.declared.machine.HallCall.TheVariants.{Order as AskOrder}
use Rattle.hall_core.specs.declared.machine.HallReply.{HallReply}
use Rattle.hall_core.specs.declared.machine.HallReply.TheVariants.{Spare, Counted, Ordered, Ticked, Finished, Ended}
use Rattle.hall_core.specs.Hall.{HallView, lanes_of}
use Rattle.hall_core.specs.Machine.{TellsStep}
use Rattle.hall_lock.specs.Seats.{Lock}
use Rattle.io_edge.specs.declared.allowance.Pause.{Pause}
use Rattle.io_edge.specs.declared.allowance.Pause.TheVariants as pause
use Rattle.io_edge.specs.Allowance.{AllowanceState, unused}
use Rattle.io_edge.specs.Causes.{Rose}
use Rattle.io_edge.specs.Outside.{Input}
use Rattle.pel_model.specs.declared.chair.Command.{Command}
use Rattle.pel_model.specs.declared.chair.Reply.{Reply}
use Rattle.pel_model.specs.History.{Step, Post, Gap, Order, Tick, End}
use Rattle.pel_model.specs.Plan.{is_done}
use Rattle.bridge_live.specs.declared.calls.Halt.{Halt}
use Rattle.bridge_live.specs.declared.calls.Halt.TheVariants as halt
use Rattle.bridge_live.specs.declared.chair.Chair.{Chair}
use Rattle.bridge_live.specs.declared.chair.ChairCounts.{ChairCounts}
use Rattle.bridge_live.specs.declared.ends.ChairStop.{ChairStop}
use Rattle.bridge_live.specs.Chair.{AreOrders, is_refused_step, IsChairCounted, heard_lines, ChairStopsAt, OrdersOf, RunsChair}
use Rattle.bridge_live.specs.Hearing.{MayHear, HasHeard, CountsLine, Orders, Hears, HearsWhole, HearsLine, HasOrder, is_refusal, ended_lines, MayTakeLine, HasLines, HearsLineOr, HearsNext, chair_stop_for, halted, last_stop, StopsChair, StopsHearing, ChairBegins}
use Rattle.bridge_live.specs.Lines.{line_feed, IsLine, Heard, Blank, Faulty, Said, IsHeard, AreHeard, said, is_faulty}
use Rattle.bridge_live.specs.LineTaking.{TakesLine}
use Rattle.bridge_live.specs.Worker.{most_taken, HallSeat, IsNew, HasMade, IsUnderWay, HasHalted, IsAnswer}
use Rattle.bridge_live.proofs.Calling.{none-made, none-back}

-- ---- a command

apart : true ≡ false → ⊥
apart e = cc

pub record OrderTold (command : Command) (reply : HallReply) : Type 0 where
  pub answer : Reply
  pub told : TellsStep (AskOrder command) reply (Order command answer)
  pub refused : is_refusal reply ≡ not (is_done answer)
  pub has : HasOrder reply

pub order-told : (command : Command) (reply : HallReply) → IsAnswer (AskOrder command) reply → OrderTold command reply
order-told command (Ordered reply) a = record { answer = reply; told = refl; refused = refl; has = tt }
order-told command (Ended back) a = absurd (apart a.0)
order-told command (Spare box) a = absurd a.1.1
order-told command Counted a = absurd a.1.1
order-told command (Ticked note hand) a = absurd a.1.1
order-told command Finished a = absurd a.1.1

step-count : (p : Step → Bool) (steps : List Step) (s : Step) → count_by p (steps ++ s ∷ []) ≡ count_by p steps + cond (p s) 1 0
step-count p steps s = omega (arith, sum_by-append (λ (x : Step). cond (p x) 1 0) steps (s ∷ []))

heard-count : (heard : List Heard) (one : Heard) → count_by is_faulty (heard ++ one ∷ []) ≡ count_by is_faulty heard + cond (is_faulty one) 1 0
heard-count heard one = omega (arith, sum_by-append (λ (x : Heard). cond (is_faulty x) 1 0) heard (one ∷ []))

-- a command was made
pub order-made : (lanes : ℕ) (command : Command) (answer : Reply) (first : HallSeat) (steps : List Step) (heard : List Heard) (old new : Chair) → HasHeard lanes first old steps heard
    → HasMade lanes lanes first new.seat (steps ++ Order command answer ∷ []) → new.counts.commands ≡ old.counts.commands + 1
    → new.counts.refused ≡ old.counts.refused + cond (not (is_done answer)) 1 0 → new.counts.bad ≡ old.counts.bad
    → HasHeard lanes first new (steps ++ Order command answer ∷ []) (heard ++ Said command ∷ [])
order-made lanes command answer first steps heard old new h made commands refused bad = record {
  has_made = made;
  counted = record {
    commands = omega (arith, commands, h.counted.commands, length-append steps (Order command answer ∷ []));
    refused = omega (arith, refused, h.counted.refused, step-count is_refused_step steps (Order command answer));
    bad = omega (arith, bad, h.counted.bad, heard-count heard (Said command));
  };
}

-- it was given back
pub order-back : (lanes : ℕ) (command : Command) (first : HallSeat) (steps : List Step) (heard : List Heard) (old new : Chair) → HasHeard lanes first old steps heard
    → HasMade lanes lanes first new.seat steps → new.counts ≡ old.counts → HasHeard lanes first new steps (heard ++ Said command ∷ [])
order-back lanes command first steps heard old new h made same = record {
  has_made = made;
  counted = subst (λ (k : ChairCounts). IsChairCounted k steps (heard ++ Said command ∷ [])) (sym same) (record {
    commands = h.counted.commands;
    refused = h.counted.refused;
    bad = omega (arith, h.counted.bad, heard-count heard (Said command));
  });
}

-- ---- a line

-- the whole of a line of which fewer than 256 octets were kept
pub whole-line : (line whole : List ℕ) → line ≡ take 256 whole → length line < 256 → line ≡ whole
whole-line line whole is less =
    let few : length whole < 256 = omega (arith, length-take 256 whole, ap length is, less) in
    is ∙ take_all 256 whole (omega (arith, few))

pub long-line : (line whole : List ℕ) → line ≡ take 256 whole → 256 ≤ length line → 255 < length whole
long-line line whole is more = omega (arith, length-take 256 whole, ap length is, more)

no-words : (ws : List Word) → false ≡ nat_lt 0 (length ws) → ws ≡ []
no-words [] e = refl
no-words (w ∷ ws) e = let none : length (w ∷ ws) ≤ 0 = grind (arith, nat_tests) in absurd (omega (arith, none))

some-words : (ws : List Word) → true ≡ nat_lt 0 (length ws) → ws ≢ []
some-words [] e f = let some : 0 < length {A = Word} [] = grind (arith, nat_tests) in absurd (omega (arith, some))
some-words (w ∷ ws) e f = absurd (omega (arith, ap length f))

-- a line that makes no call
silent : (lanes : ℕ) (one : Heard) (first : HallSeat) (steps : List Step) (heard : List Heard) (old new : Chair) → said (one ∷ []) ≡ [] → HasHeard lanes first old steps heard
    → new.seat ≡ old.seat → new.counts.commands ≡ old.counts.commands → new.counts.refused ≡ old.counts.refused
    → new.counts.bad ≡ old.counts.bad + cond (is_faulty one) 1 0 → IsUnderWay old.seat
    → Hears lanes one first steps heard new (Ok (tt {0}))
silent lanes one first steps heard old new quiet h seat commands refused bad live = (
  [],
  subst (λ (cs : List Command). AreOrders cs []) (sym quiet) tt,
  record {
    has_made = subst (λ (xs : List Step). HasMade lanes lanes first new.seat xs) (sym (append-nil steps))
        (subst (λ (s : HallSeat). HasMade lanes lanes first s steps) (sym seat) h.has_made);
    counted = subst (λ (xs : List Step). IsChairCounted new.counts xs (heard ++ one ∷ [])) (sym (append-nil steps)) (record {
      commands = commands ∙ h.counted.commands;
      refused = refused ∙ h.counted.refused;
      bad = omega (arith, bad, h.counted.bad, heard-count heard one);
    });
  },
  subst IsUnderWay (sym seat) live,
)

pub hears-long : (lanes : ℕ) (line whole : List ℕ) (old new : Chair) → line ≡ take 256 whole → 256 ≤ length line → new.seat ≡ old.seat
    → new.counts.commands ≡ old.counts.commands → new.counts.refused ≡ old.counts.refused → new.counts.bad ≡ old.counts.bad + 1 → IsUnderWay old.seat
    → HearsWhole lanes whole old new (Ok (tt {0}))
hears-long lanes line whole old new is more seat commands refused bad live =
    (Faulty, inl (long-line line whole is more), λ first steps heard h. silent lanes Faulty first steps heard old new refl h seat commands refused bad live)

pub hears-blank : (lanes : ℕ) (line whole : List ℕ) (old : Chair) → line ≡ take 256 whole → length line < 256 → false ≡ nat_lt 0 (length (words line)) → IsUnderWay old.seat
    → HearsWhole lanes whole old old (Ok (tt {0}))
hears-blank lanes line whole old is less none live =
    let same = whole-line line whole is less in (
      Blank,
      subst (λ (l : List ℕ). IsHeard l Blank) same (omega (arith, less), no-words (words line) none),
      λ first steps heard h. silent lanes Blank first steps heard old old refl h refl refl refl (omega arith) live,
    )

pub hears-faulty : (lanes : ℕ) (line whole : List ℕ) (place : ℕ) (why : LineWhy) (old new : Chair) → line ≡ take 256 whole → length line < 256
    → true ≡ nat_lt 0 (length (words line)) → FailsAt line place why → new.seat ≡ old.seat
    → new.counts.commands ≡ old.counts.commands → new.counts.refused ≡ old.counts.refused → new.counts.bad ≡ old.counts.bad + 1 → IsUnderWay old.seat
    → HearsWhole lanes whole old new (Ok (tt {0}))
hears-faulty lanes line whole place why old new is less some fails seat commands refused bad live =
    let same = whole-line line whole is less in (
      Faulty,
      subst (λ (l : List ℕ). IsHeard l Faulty) same (inr (some-words (words line) some, (place, why, fails))),
      λ first steps heard h. silent lanes Faulty first steps heard old new refl h seat commands refused bad live,
    )

orders-so : (lanes : ℕ) (command : Command) (first : HallSeat) (steps : List Step) (heard : List Heard) (new : Chair) (r : Result Unit Halt) → Orders lanes command first steps heard new r
    → Hears lanes (Said command) first steps heard new r
orders-so lanes command first steps heard new (Ok x) o = (Order command o.0 ∷ [], (refl, tt), o.1, o.2)
orders-so lanes command first steps heard new (Err back) o = (command, refl, o.0, o.1)

pub hears-command : (lanes : ℕ) (line whole : List ℕ) (command : Command) (old new : Chair) (r : Result Unit Halt) → line ≡ take 256 whole → length line < 256 → Says line command
    → ((first : HallSeat) (steps : List Step) (heard : List Heard) → HasHeard lanes first old steps heard → Orders lanes command first steps heard new r)
    → HearsWhole lanes whole old new r
hears-command lanes line whole command old new r is less says orders =
    let same = whole-line line whole is less in (
      Said command,
      subst (λ (l : List ℕ). IsHeard l (Said command)) same (omega (arith, less), says),
      λ first steps heard h. orders-so lanes command first steps heard new r (orders first steps heard h),
    )

-- ---- lines one behind the other

said-more : (heard more : List Heard) → said (heard ++ more) ≡ said heard ++ said more
said-more [] more = refl
said-more (Blank ∷ heard) more = said-more heard more
said-more (Faulty ∷ heard) more = said-more heard more
said-more (Said command ∷ heard) more = ap (λ (cs : List Command). command ∷ cs) (said-more heard more)

orders-more : (commands more : List Command) (steps part : List Step) → AreOrders commands steps → AreOrders more part → AreOrders (commands ++ more) (steps ++ part)
orders-more [] more [] part a b = b
orders-more [] more (_ ∷ steps) part a b = absurd a
orders-more (c ∷ commands) more [] part a b = absurd a
orders-more (c ∷ commands) more (Post l p ∷ steps) part a b = absurd a
orders-more (c ∷ commands) more (Gap l ∷ steps) part a b = absurd a
orders-more (c ∷ commands) more (Tick n ∷ steps) part a b = absurd a
orders-more (c ∷ commands) more (End ∷ steps) part a b = absurd a
orders-more (c ∷ commands) more (Order d reply ∷ steps) part a b = (a.0, orders-more commands more steps part a.1 b)

heard-more : (lines : List (List ℕ)) (line : List ℕ) (heard : List Heard) (one : Heard) → AreHeard lines heard → IsHeard line one → AreHeard (lines ++ line ∷ []) (heard ++ one ∷ [])
heard-more [] line [] one a b = (b, tt)
heard-more [] line (x ∷ heard) one a b = absurd a
heard-more (l ∷ lines) line [] one a b = absurd a
heard-more (l ∷ lines) line (x ∷ heard) one a b = (a.0, heard-more lines line heard one a.1 b)

lines-more : (lines : List (List ℕ)) (line : List ℕ) → AllByRecursion IsLine lines → IsLine line → AllByRecursion IsLine (lines ++ line ∷ [])
lines-more [] line all one = (one, tt)
lines-more (l ∷ lines) line all one = (all.0, lines-more lines line all.1 one)

ended-more : (lines : List (List ℕ)) (line : List ℕ) → ended_lines lines ++ (line ++ line_feed ∷ []) ≡ ended_lines (lines ++ line ∷ [])
ended-more lines line =
    let end : List ℕ → List ℕ = λ l. l ++ line_feed ∷ [] in
    sym (flat_map-append end lines (line ∷ []) ∙ ap (λ (xs : List ℕ). flat_map end lines ++ xs) (append-nil (end line)))

-- the commands of one line more
orders-of : (heard : List Heard) (one : Heard) (steps part : List Step) → AreOrders (said heard) steps → AreOrders (said (one ∷ [])) part → AreOrders (said (heard ++ one ∷ [])) (steps ++ part)
orders-of heard one steps part a b =
    subst (λ (cs : List Command). AreOrders cs (steps ++ part)) (sym (said-more heard (one ∷ []))) (orders-more (said heard) (said (one ∷ [])) steps part a b)

-- ---- a round

empty-line : IsHeard [] Blank
empty-line = (omega arith, refl)

back-orders : (back : Halt) (heard : List Heard) (command : Command) (commands : List Command) (steps : List Step) (seat : HallSeat) → commands ≡ said heard ++ command ∷ []
    → AreOrders (said heard) steps → HasHalted back seat → OrdersOf (chair_stop_for back) commands steps seat
back-orders halt.Ended heard command commands steps seat is orders halted = (said heard, command, is, orders, halted)
back-orders halt.Over heard command commands steps seat is orders halted = (said heard, command, is, orders, halted)

back-stops : (back : Halt) (octets : List ℕ) (before after : Input) → after.faults ≡ before.faults → ChairStopsAt (chair_stop_for back) octets before after
back-stops halt.Ended octets before after same = same
back-stops halt.Over octets before after same = same

back-heard : (back : Halt) (lines : List (List ℕ)) (rest : List ℕ) (heard : List Heard) → AreHeard (lines ++ rest ∷ []) heard → AreHeard (heard_lines (chair_stop_for back) lines rest) heard
back-heard halt.Ended lines rest heard h = h
back-heard halt.Over lines rest heard h = h

module _ (lock : Lock HallView) (source now : Input) (a b : AllowanceState) (kept : List ℕ) (old new : Chair) where
  abbrev lanes : ℕ
  lanes = lanes_of lock.opening

  -- a whole line was taken
  whole-round : (r : Result Unit Halt) (before : Input) (first : HallSeat) → HasLines lanes before source first a old → MayTakeLine lock a old
      → (t : TakesLine source now a b kept (Ok (tt {0}))) → HearsWhole lanes t.line old new r → CountsLine lock old new
      → HearsLineOr lock before now first a b new (halted r)
  whole-round (Ok x) before first h may t hears counts =
      let made = hears.2 first h.steps h.heard h.has_heard in
      let bytes = Consumes-trans before.left source.left now.left (ended_lines h.lines) (t.line ++ line_feed ∷ []) h.bytes t.takes.bytes in
      let long : length (t.line ++ line_feed ∷ []) ≡ length t.line + 1 = length-append t.line (line_feed ∷ []) in
      let all = ended-more h.lines t.line in (
        record {
          lines = h.lines ++ t.line ∷ [];
          are_lines = lines-more h.lines t.line h.are_lines t.is_line;
          bytes = subst (Consumes before.left now.left) all bytes;
          taken = omega (arith, h.taken, t.takes.taken, ap length all, length-append (ended_lines h.lines) (t.line ++ line_feed ∷ []));
          heard = h.heard ++ hears.0 ∷ [];
          are_heard = heard-more h.lines t.line h.heard hears.0 h.are_heard hears.1;
          steps = h.steps ++ made.0;
          orders = orders-of h.heard hears.0 h.steps made.0 h.orders made.1;
          has_heard = made.2;
          reads = t.stops ∙ h.reads;
        },
        record {
          at_lock = counts.at_lock;
          few = omega (arith, counts.few, may.few, t.takes.taken, long);
          within = omega (arith, t.takes.within, t.takes.budget, may.budget);
          budget = t.takes.budget ∙ may.budget;
          refused = counts.refused;
          live = made.3;
        },
        omega (arith, t.takes.taken, long),
      )
  whole-round (Err back) before first h may t hears counts =
      let made = hears.2 first h.steps h.heard h.has_heard in
      let bytes = Consumes-trans before.left source.left now.left (ended_lines h.lines) (t.line ++ line_feed ∷ []) h.bytes t.takes.bytes in
      let all = ended-more h.lines t.line in
      let lines = h.lines ++ t.line ∷ [] in
      let heard = h.heard ++ hears.0 ∷ [] in
      let only : said (heard ++ Blank ∷ []) ≡ said h.heard ++ made.0 ∷ [] =
      said-more heard (Blank ∷ []) ∙ (append-nil (said heard) ∙ (said-more h.heard (hears.0 ∷ []) ∙ ap (λ (x : Heard). said h.heard ++ said (x ∷ [])) made.1)) in
      record {
        octets = ended_lines lines ++ [];
        bytes = subst (Consumes before.left now.left) (all ∙ sym (append-nil (ended_lines lines))) bytes;
        stops = back-stops back (ended_lines lines ++ []) before now (t.stops ∙ h.reads);
        lines = lines;
        rest = [];
        are_lines = record { cut = refl; lines = lines-more h.lines t.line h.are_lines t.is_line; rest = tt };
        heard = heard ++ Blank ∷ [];
        are_heard = back-heard back lines [] (heard ++ Blank ∷ [])
            (heard-more lines [] heard Blank (heard-more h.lines t.line h.heard hears.0 h.are_heard hears.1) empty-line);
        steps = h.steps;
        has_made = made.2.has_made;
        makes = back-orders back h.heard made.0 (said (heard ++ Blank ∷ [])) h.steps new.seat only h.orders made.3;
        counted = record {
          commands = made.2.counted.commands;
          refused = made.2.counted.refused;
          bad = omega (arith, made.2.counted.bad, heard-count heard Blank);
        };
      }

  -- the last line was taken, which may be empty
  last-round : (r : Result Unit Halt) (before : Input) (first : HallSeat) → HasLines lanes before source first a old → MayTakeLine lock a old
      → (t : TakesLine source now a b kept (Err pause.End)) → HearsWhole lanes t.line old new r → RunsChair lanes before now first new.seat (last_stop r) new.counts
  last-round (Ok x) before first h may t hears =
      let made = hears.2 first h.steps h.heard h.has_heard in
      let same = append-nil t.line in
      let bytes = Consumes-trans before.left source.left now.left (ended_lines h.lines) t.line h.bytes (subst (Consumes source.left now.left) same t.takes.bytes) in
      record {
        octets = ended_lines h.lines ++ t.line;
        bytes = bytes;
        stops = (
          t.stops.0,
          omega (arith, h.taken, t.takes.taken, t.takes.budget, may.budget, t.stops.1, ap length same, length-append (ended_lines h.lines) t.line),
          t.stops.2 ∙ h.reads,
        );
        lines = h.lines;
        rest = t.line;
        are_lines = record { cut = refl; lines = h.are_lines; rest = t.is_line };
        heard = h.heard ++ hears.0 ∷ [];
        are_heard = heard-more h.lines t.line h.heard hears.0 h.are_heard hears.1;
        steps = h.steps ++ made.0;
        has_made = made.2.has_made;
        makes = (orders-of h.heard hears.0 h.steps made.0 h.orders made.1, made.3);
        counted = made.2.counted;
      }
  last-round (Err back) before first h may t hears =
      let made = hears.2 first h.steps h.heard h.has_heard in
      let same = append-nil t.line in
      let heard = h.heard ++ hears.0 ∷ [] in
      let only : said heard ≡ said h.heard ++ made.0 ∷ [] = said-more h.heard (hears.0 ∷ []) ∙ ap (λ (x : Heard). said h.heard ++ said (x ∷ [])) made.1 in
      let bytes = Consumes-trans before.left source.left now.left (ended_lines h.lines) t.line h.bytes (subst (Consumes source.left now.left) same t.takes.bytes) in
      record {
        octets = ended_lines h.lines ++ t.line;
        bytes = bytes;
        stops = back-stops back (ended_lines h.lines ++ t.line) before now (t.stops.2 ∙ h.reads);
        lines = h.lines;
        rest = t.line;
        are_lines = record { cut = refl; lines = h.are_lines; rest = t.is_line };
        heard = heard;
        are_heard = back-heard back h.lines t.line heard (heard-more h.lines t.line h.heard hears.0 h.are_heard hears.1);
        steps = h.steps;
        has_made = made.2.has_made;
        makes = back-orders back h.heard made.0 (said heard) h.steps new.seat only h.orders made.3;
        counted = made.2.counted;
      }

  -- no line more came
  pause-round : (p : Pause) (stop : ChairStop) (before : Input) (first : HallSeat) → HasLines lanes before source first a old → MayTakeLine lock a old
      → (t : TakesLine source now a b kept (Err p)) → StopsChair lanes p t.line old new stop → RunsChair lanes before now first new.seat stop new.counts
  pause-round pause.End stop before first h may t stops =
      subst (λ (s : ChairStop). RunsChair lanes before now first new.seat s new.counts) (sym stops.2)
      (last-round stops.0 before first h may t stops.1)
  pause-round pause.Fault stop before first h may t stops =
      let same = append-nil t.line in
      rw (stops.0, stops.1) (record {
        octets = ended_lines h.lines ++ t.line;
        bytes = Consumes-trans before.left source.left now.left (ended_lines h.lines) t.line h.bytes (subst (Consumes source.left now.left) same t.takes.bytes);
        stops = subst (λ (f : ℕ). Rose f now.faults) h.reads t.stops.0;
        lines = h.lines;
        rest = t.line;
        are_lines = record { cut = refl; lines = h.are_lines; rest = t.is_line };
        heard = h.heard;
        are_heard = h.are_heard;
        steps = h.steps;
        has_made = h.has_heard.has_made;
        makes = (h.orders, may.live);
        counted = h.has_heard.counted;
      })
  pause-round pause.Limit stop before first h may t stops =
      let same = append-nil t.line in
      rw (stops.0, stops.1) (record {
        octets = ended_lines h.lines ++ t.line;
        bytes = Consumes-trans before.left source.left now.left (ended_lines h.lines) t.line h.bytes (subst (Consumes source.left now.left) same t.takes.bytes);
        stops = (
          omega (arith, h.taken, t.takes.taken, t.takes.budget, may.budget, t.stops.0, ap length same, length-append (ended_lines h.lines) t.line),
          t.stops.1 ∙ h.reads,
        );
        lines = h.lines;
        rest = t.line;
        are_lines = record { cut = refl; lines = h.are_lines; rest = t.is_line };
        heard = h.heard;
        are_heard = h.are_heard;
        steps = h.steps;
        has_made = h.has_heard.has_made;
        makes = (h.orders, may.live);
        counted = h.has_heard.counted;
      })

  pub line-heard : (heard : Result Unit Halt) → MayTakeLine lock a old → (t : TakesLine source now a b kept (Ok (tt {0}))) → HearsLine lock kept old new heard
      → HearsNext lock source now a b old new (halted heard)
  line-heard heard may t h = record {
    at_lock = h.counts.at_lock;
    hears = λ before first lines. whole-round heard before first lines may t (h.hears t.line t.kept_is) h.counts;
  }

  pub line-stopped : (p : Pause) (stop : ChairStop) → MayTakeLine lock a old → (t : TakesLine source now a b kept (Err p)) → StopsHearing lock p kept old new stop
      → HearsNext lock source now a b old new (Err stop)
  line-stopped p stop may t h = record {
    at_lock = h.at_lock;
    hears = λ before first lines. pause-round p stop before first lines may t (h.stops t.line t.kept_is);
  }

-- how many lines may be counted still
pub may-hear : (lock : Lock HallView) (source now : Input) (a b : AllowanceState) (kept : List ℕ) (r : Result Unit Pause) (chair : Chair) → MayTakeLine lock a chair
    → TakesLine source now a b kept r → MayHear 1 lock chair
may-hear lock source now a b kept r chair may t = record {
  at_lock = may.at_lock;
  few = omega (arith, may.few, may.within);
  refused = may.refused;
  live = may.live;
}

-- ---- at the beginning

pub chair-begins : (lock : Lock HallView) (now : Input) (chair : Chair) → ChairBegins lock chair
    → HasLines (lanes_of lock.opening) now now chair.seat (unused most_taken) chair × MayTakeLine lock (unused most_taken) chair
chair-begins lock now chair b =
    let commands : chair.counts.commands ≡ 0 = ap (λ (c : ChairCounts). c.commands) b.counts in
    let refused : chair.counts.refused ≡ 0 = ap (λ (c : ChairCounts). c.refused) b.counts in
    let bad : chair.counts.bad ≡ 0 = ap (λ (c : ChairCounts). c.bad) b.counts in (
      record {
        lines = [];
        are_lines = tt;
        bytes = Consumes-nil now.left;
        taken = refl;
        heard = [];
        are_heard = tt;
        steps = [];
        orders = tt;
        has_heard = record {
          has_made = none-made (lanes_of lock.opening) (lanes_of lock.opening) chair.seat b.seat;
          counted = record { commands = commands; refused = refused; bad = bad };
        };
        reads = refl;
      },
      record {
        at_lock = b.at_lock;
        few = omega (arith, commands, bad);
        within = omega arith;
        budget = refl;
        refused = omega (arith, commands, refused);
        live = none-back chair.seat b.seat;
      },
    )

pub one-more-at-most : (answer : Reply) → cond {A = ℕ} (not (is_done answer)) 1 0 ≤ 1
one-more-at-most answer = at-most (not (is_done answer))
  where
    at-most : (b : Bool) → cond {A = ℕ} b 1 0 ≤ 1
    at-most true = omega arith
    at-most false = omega arith

-- a refusal is counted as one
pub one-refusal : (b b' : Bool) (k : ℕ) (answer : Reply) → k ≡ from_bool b → b ≡ b' → b' ≡ not (is_done answer) → k ≡ cond (not (is_done answer)) 1 0
one-refusal b b' k answer is same refused = is ∙ (number b ∙ ap (λ (x : Bool). cond {A = ℕ} x 1 0) (same ∙ refused))
  where
    number : (x : Bool) → from_bool x ≡ cond x 1 0
    number true = refl
    number false = refl
