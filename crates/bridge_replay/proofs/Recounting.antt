-- What an entry makes of a conference of which is told, and of the page of its lines.
use Rattle.std.proofs.Common.{◌≡◌, ℕ, suc, ◌+◌, ◌<◌, ◌≤◌, ◌==◌, if◌then◌else◌, Bool, true, false, List, [], ◌∷◌, ◌++◌, Option, None, Some, length, slice_get, slice_set, inl, inr, refl, sym, ap, ap₂, subst, ◌∙◌, arith, append-nil, append_assoc, length-append}
use Rattle.std.specs.List.{concat}
use Rattle.std.proofs.lemmas.Bool.Decides.{nat_tests}
use Rattle.std.proofs.lemmas.List.Folds.{concat-append}
use Rattle.bridge_replay.specs.declared.account.Account.{Account}
use Rattle.bridge_replay.specs.declared.account.Page.{Page}
use Rattle.bridge_replay.specs.declared.idle.Idle.{Idle}
use Rattle.bridge_replay.specs.Account.{idle_lines, AreEntryLines}
use Rattle.bridge_replay.specs.FileHistory.{packets_in, after_loss, AfterUnit, AfterEntry}
use Rattle.bridge_replay.specs.Lines.{line_of_event, lines_of_events}
use Rattle.bridge_replay.specs.Recounting.{HasFewLines, Adds, GrowsByALine, AreCounted, AreLasts, last_number, HallFollows, MayCome, IsSameAccount, TellsIn, TellsUnit, with_events, step_in, Keeps, HearsPacket, TookEntry}
use Rattle.bridge_replay.specs.UnderWay.{IsOpen, IsFedQcif, AreFed, StaysOpen}
use Rattle.bridge_replay.proofs.Accounts.{ComesIn, gap-comes, post-comes, counted-further}
use Rattle.bridge_replay.proofs.Units.{may-post}
use Rattle.conf_file.specs.Entries.{Content, Packet}
use Rattle.h261_pic.specs.Coded.{Coding, coding}
use Rattle.hall_core.specs.Hall.{HallView, lanes_of, IsSameConference}
use Rattle.hall_core.specs.Stands.{StandsFor, Steps, KeepsRules, IsQcifHand}
use Rattle.pel_model.specs.declared.Fault.{Fault}
use Rattle.pel_model.specs.declared.Format.TheVariants.{Qcif}
use Rattle.pel_model.specs.History.{History, Step, arrivals, has_ended}
use Rattle.pel_model.specs.Lanes.{Arrival}
use Rattle.pel_model.specs.Legal.{Legal, IsPostable}
use Rattle.pel_model.specs.Records.{Picture}
use Rattle.pel_model.specs.Valid.{limit}
use Rattle.rtp_h261.specs.declared.depack.Fed.{Fed}
use Rattle.rtp_h261.specs.declared.depack.Unit.TheVariants as unit
use Rattle.rtp_h261.specs.Depack.{given_behind}
use Rattle.rtp_h261.specs.Events.{Event, Lost, Shown, Refused, AreUnitEvents, lost_events}

-- ---- pages

pub adds-none : (page : Page) → Adds [] page page
adds-none page = record { bytes = sym (append-nil page.text.bytes); counted = omega arith }

pub adds-both : (xs ys : List (List ℕ)) (a b c : Page) → Adds xs a b → Adds ys b c → Adds (xs ++ ys) a c
adds-both xs ys a b c x y = record {
  bytes = y.bytes ∙ ap (λ (t : List ℕ). t ++ concat ys) x.bytes ∙ append_assoc a.text.bytes (concat xs) (concat ys)
      ∙ ap (λ (t : List ℕ). a.text.bytes ++ t) (sym (concat-append xs ys));
  counted = omega (arith, x.counted, y.counted, length-append xs ys);
}

-- ---- one step

-- a call of the hall made a step of a lane, which was counted
pub follows-on : (lanes lane n : ℕ) (history : History) (s : Step) (old new : Account) → Steps old.hall new.hall s → KeepsRules old.hall s
    → IsSameConference old.hall new.hall → ComesIn lane s → new.arrivals.items ≡ slice_set old.arrivals.items lane n
    → (AreCounted lanes history old.arrivals.items → lane < lanes → n ≡ length (arrivals history lane) + 1) → lane < lanes
    → HallFollows lanes history old → HallFollows lanes (s ∷ history) new
follows-on lanes lane n history s old new steps keeps same comes counts serial below follows = record {
  stands = steps history follows.stands;
  lanes_are = same.lanes ∙ follows.lanes_are;
  limit = same.limit ∙ follows.limit;
  legal = subst (λ (k : ℕ). Legal k (s ∷ history)) follows.lanes_are
      (keeps history follows.stands (subst (λ (k : ℕ). Legal k history) (sym follows.lanes_are) follows.legal));
  counts = subst (AreCounted lanes (s ∷ history)) (sym counts) (counted-further lanes lane n history old.arrivals.items s comes follows.counts below (serial follows.counts below));
}

comes-in : (lane : ℕ) (e : Event) → ComesIn lane (step_in lane e)
comes-in lane Lost = gap-comes lane
comes-in lane (Shown p) = post-comes lane p
comes-in lane (Refused place why) = gap-comes lane

-- a lane of this conference is one of any that stands so
below-so : (lane lanes : ℕ) (history : History) (a : Account) → MayCome lane a → HallFollows lanes history a → lane < lanes
below-so lane lanes history a may follows = subst (λ (k : ℕ). lane < k) (sym may.follows.lanes_are ∙ follows.lanes_are) may.below

-- something happened in a lane: the hall made its step, which was counted, and its line was added
pub one-tells : (place lane n : ℕ) (e : Event) (old new : Account) (page now : Page) → MayCome lane old
    → Steps old.hall new.hall (step_in lane e) → KeepsRules old.hall (step_in lane e) → IsSameConference old.hall new.hall
    → ((lanes : ℕ) (history : History) → AreCounted lanes history old.arrivals.items → lane < lanes → n ≡ length (arrivals history lane) + 1)
    → new.arrivals.items ≡ slice_set old.arrivals.items lane n → IsSameAccount old new → new.hand ≡ old.hand
    → Adds (line_of_event place lane n e ∷ []) page now → GrowsByALine page now → TellsIn place lane (e ∷ []) old new page now
one-tells place lane n e old new page now may steps keeps same serial counts beside hand adds grows = record {
  follows = λ lanes history follows. follows-on lanes lane n history (step_in lane e) old new steps keeps same (comes-in lane e) counts (serial lanes history)
      (below-so lane lanes history old may follows) follows;
  lines = λ lanes history follows within. subst (λ (k : ℕ). Adds (line_of_event place lane k e ∷ []) page now) (serial lanes history follows.counts within) adds;
  beside = beside;
  hand = hand;
  grows = grows;
}

-- nothing did
pub nothing-tells : (place lane : ℕ) (a : Account) (page : Page) → TellsIn place lane [] a a page page
nothing-tells place lane a page = record {
  follows = λ lanes history follows. follows;
  lines = λ lanes history follows within. adds-none page;
  beside = record { depacks = refl; lasts = refl };
  hand = refl;
  grows = record { text = omega arith; lines = omega arith };
}

-- ---- units

pub none-tells : (place lane : ℕ) (box : Coding) (a : Account) (page : Page) → TellsUnit place lane None box a a page page
none-tells place lane box a page None former has = ([], refl, nothing-tells place lane a page)
none-tells place lane box a page (Some bits) former has = absurd has

pub picture-tells : (place lane : ℕ) (box : Coding) (old new : Account) (page now : Page) → length box.bits ≤ limit box.format
    → ((p : Picture) → box ≡ coding Qcif p → IsPostable p → TellsIn place lane (Shown p ∷ []) old new page now)
    → TellsUnit place lane (Some unit.Picture) box old new page now
picture-tells place lane box old new page now short made None former has = absurd has
picture-tells place lane box old new page now short made (Some bits) former has =
    (Shown has.0 ∷ [], (Shown has.0, refl, has.1), made has.0 has.2 (may-post bits has.0 box has.1 has.2 short))

pub gap-tells : (place lane : ℕ) (fault : Fault) (box : Coding) (old new : Account) (page now : Page)
    → TellsIn place lane (Refused fault.place fault.why ∷ []) old new page now → TellsUnit place lane (Some (unit.Gap fault)) box old new page now
gap-tells place lane fault box old new page now made None former has = absurd has
gap-tells place lane fault box old new page now made (Some bits) former has =
    (Refused fault.place fault.why ∷ [], (Refused fault.place fault.why, refl, has.0), made)

-- ---- what happened in a lane, and the history

unit-after : (lane : ℕ) (bits : Option (List Bool)) (events : List Event) (history : History) → AreUnitEvents Qcif bits events
    → AfterUnit lane bits history (with_events lane events history)
unit-after lane None events history are = ap (λ (es : List Event). with_events lane es history) are
unit-after lane (Some bits) events history (Lost, is, unit) = absurd unit
unit-after lane (Some bits) events history (Shown p, is, unit) = inl (p, unit, ap (λ (es : List Event). with_events lane es history) is)
unit-after lane (Some bits) events history (Refused place why, is, unit) = inr (place, why, unit, ap (λ (es : List Event). with_events lane es history) is)

loss-after : (lane : ℕ) (lost : Bool) (history : History) → with_events lane (lost_events lost) history ≡ after_loss lane lost history
loss-after lane true history = refl
loss-after lane false history = refl

few-lost : (lost : Bool) → length (lost_events lost) ≤ 1
few-lost true = omega arith
few-lost false = omega arith

few-units : (bits : Option (List Bool)) (events : List Event) → AreUnitEvents Qcif bits events → length events ≤ 1
few-units None events are = omega (arith, ap (λ (es : List Event). length es) are)
few-units (Some bits) events (u, is, unit) = omega (arith, ap (λ (es : List Event). length es) is)

events-longer : (lane : ℕ) (events : List Event) (history : History) → length (with_events lane events history) ≡ length history + length events
events-longer lane [] history = omega arith
events-longer lane (e ∷ events) history = omega (arith, events-longer lane events (step_in lane e ∷ history))

no-end : (lane : ℕ) (e : Event) (history : History) → has_ended (step_in lane e ∷ history) ≡ has_ended history
no-end lane Lost history = refl
no-end lane (Shown p) history = refl
no-end lane (Refused place why) history = refl

events-going : (lane : ℕ) (events : List Event) (history : History) → has_ended (with_events lane events history) ≡ has_ended history
events-going lane [] history = refl
events-going lane (e ∷ events) history = events-going lane events (step_in lane e ∷ history) ∙ no-end lane e history

same-lane : (lane : ℕ) → (lane == lane) ≡ true
same-lane lane = grind (arith, nat_tests)

one-came : (lane : ℕ) (e : Event) (history : History) → length (arrivals (step_in lane e ∷ history) lane) ≡ length (arrivals history lane) + 1
one-came lane e history =
    let comes = comes-in lane e in
    ap length (comes.1 history lane ∙ ap (λ (b : Bool). if b then arrivals history lane ++ comes.0 ∷ [] else arrivals history lane) (same-lane lane))
    ∙ length-append (arrivals history lane) (comes.0 ∷ [])

events-came : (lane : ℕ) (events : List Event) (history : History) → length (arrivals (with_events lane events history) lane) ≡ length (arrivals history lane) + length events
events-came lane [] history = omega arith
events-came lane (e ∷ events) history = omega (arith, events-came lane events (step_in lane e ∷ history), one-came lane e history)

lines-of-both : (place lane n : ℕ) (xs ys : List Event) → lines_of_events place lane n (xs ++ ys) ≡ lines_of_events place lane n xs ++ lines_of_events place lane (n + length xs) ys
lines-of-both place lane n [] ys = ap (λ (k : ℕ). lines_of_events place lane k ys) (zero-more n)
  where
    zero-more : (n : ℕ) → n ≡ n + 0
    zero-more n = omega arith
lines-of-both place lane n (x ∷ xs) ys =
    ap (λ (ls : List (List ℕ)). line_of_event place lane n x ∷ ls)
    (lines-of-both place lane (n + 1) xs ys ∙ ap (λ (k : ℕ). lines_of_events place lane (n + 1) xs ++ lines_of_events place lane k ys) (one-more n (length xs)))
  where
    one-more : (n m : ℕ) → n + 1 + m ≡ n + suc m
    one-more n m = omega arith

-- ---- a packet

same-follows : (lanes : ℕ) (history : History) (a b : Account) → b.hall ≡ a.hall → b.arrivals.items ≡ a.arrivals.items → HallFollows lanes history a → HallFollows lanes history b
same-follows lanes history a b hall counts follows = record {
  stands = subst (λ (h : HallView). StandsFor h history) (sym hall) follows.stands;
  lanes_are = ap lanes_of hall ∙ follows.lanes_are;
  limit = ap (λ (h : HallView). h.limit) hall ∙ follows.limit;
  legal = follows.legal;
  counts = subst (AreCounted lanes history) (sym counts) follows.counts;
}

pub packet-told : (place lane : ℕ) (packet : List ℕ) (lanes : ℕ) (entries : List Content) (history : History) (fed : Fed) (idle : Option Idle) (old heard mid new : Account)
    (before box : Coding) (page idled lost now : Page) → Keeps lanes entries history old → IsOpen 2 history → lane < lanes
    → HearsPacket lane packet fed idle old heard before box lanes entries → heard.hall ≡ old.hall → heard.arrivals.items ≡ old.arrivals.items → heard.hand ≡ old.hand
    → HasFewLines 0 page → Adds (idle_lines place lane idle) page idled → GrowsByALine page idled → TellsIn place lane (lost_events fed.lost) heard mid idled lost → TellsUnit place lane fed.unit box mid new lost now
    → TookEntry lanes place entries (Packet lane packet) history new page now
packet-told place lane packet lanes entries history fed idle old heard mid new before box page idled lost now keeps free below hears hall counts hand empty idles grew loses ends =
    let given = given_behind (packets_in entries lane) packet in
    let missing = lost_events fed.lost in
    let units = ends given.unit before hears.given.unit in
    let events = units.0 in
    let heard-follows = same-follows lanes history old heard hall counts keeps.follows in
    let between = with_events lane missing history in
    let after = with_events lane events between in
    let mid-follows = loses.follows lanes history heard-follows in
    let first = length (arrivals history lane) + 1 in
    let lost-lines = lines_of_events place lane first missing in
    let unit-lines = lines_of_events place lane (length (arrivals between lane) + 1) events in
    let both : lost-lines ++ unit-lines ≡ lines_of_events place lane first (missing ++ events) =
    ap (λ (k : ℕ). lost-lines ++ lines_of_events place lane k events) (omega (arith, events-came lane missing history))
    ∙ sym (lines-of-both place lane first missing events) in
    record {
      after = after;
      keeps = record {
        steps = (
          history,
          keeps.steps,
          subst (λ (H : History). AfterUnit lane given.unit H after) (loss-after lane fed.lost history ∙ ap (λ (b : Bool). after_loss lane b history) hears.given.lost)
              (unit-after lane given.unit events between units.1),
        );
        follows = units.2.follows lanes between mid-follows;
        fed = subst (AreFed lanes (Packet lane packet ∷ entries)) (sym (units.2.beside.depacks ∙ loses.beside.depacks)) hears.fed_is;
        lasts = subst (AreLasts lanes (Packet lane packet ∷ entries)) (sym (units.2.beside.lasts ∙ loses.beside.lasts)) hears.lasts;
        hand = subst IsQcifHand (sym (units.2.hand ∙ loses.hand ∙ hand)) keeps.hand;
      };
      few = omega (arith, events-longer lane events between, events-longer lane missing history, few-lost fed.lost, few-units given.unit events units.1);
      going = events-going lane events between ∙ events-going lane missing history ∙ free.going;
      lines = idle_lines place lane idle ++ (lost-lines ++ unit-lines);
      are = (
        missing ++ events,
        record { unit = events; is_unit = units.1; order = ap (λ (b : Bool). lost_events b ++ events) hears.given.lost },
        ap₂ (λ (xs ys : List (List ℕ)). xs ++ ys) (ap (idle_lines place lane) hears.idle_is) both,
      );
      adds = adds-both (idle_lines place lane idle) (lost-lines ++ unit-lines) page idled now idles
          (adds-both lost-lines unit-lines idled lost now (loses.lines lanes history heard-follows below) (units.2.lines lanes between mid-follows below));
      short = record {
        short = omega (arith, empty.short, grew.text, loses.grows.text, units.2.grows.text);
        few = omega (arith, empty.few, grew.lines, loses.grows.lines, units.2.grows.lines);
      };
    }

-- ---- a command, a tick, and the end

-- an entry that is one step, of no lane
pub step-told : (lanes place : ℕ) (entries : List Content) (content : Content) (history : History) (s : Step) (old new : Account) (page now : Page) (line : List ℕ)
    → Keeps lanes entries history old → StandsFor new.hall (s ∷ history) → KeepsRules old.hall s → IsSameConference old.hall new.hall
    → new.arrivals.items ≡ old.arrivals.items → IsSameAccount old new → IsQcifHand new.hand → (Legal lanes (s ∷ history) → AfterEntry lanes entries content history (s ∷ history))
    → ((c : ℕ) → packets_in (content ∷ entries) c ≡ packets_in entries c) → ((c : ℕ) → arrivals (s ∷ history) c ≡ arrivals history c) → StaysOpen content (s ∷ history)
    → (Legal lanes (s ∷ history) → AreEntryLines lanes place entries content history (s ∷ history) (line ∷ [])) → HasFewLines 0 page → Adds (line ∷ []) page now → GrowsByALine page now
    → TookEntry lanes place entries content history new page now
step-told lanes place entries content history s old new page now line keeps stands rules same counts beside hand step none silent free are empty adds grows =
    let follows = keeps.follows in
    let legal = subst (λ (k : ℕ). Legal k (s ∷ history)) follows.lanes_are
    (rules history follows.stands (subst (λ (k : ℕ). Legal k history) (sym follows.lanes_are) follows.legal)) in
    record {
      after = s ∷ history;
      keeps = record {
        steps = (history, keeps.steps, step legal);
        follows = record {
          stands = stands;
          lanes_are = same.lanes ∙ follows.lanes_are;
          limit = same.limit ∙ follows.limit;
          legal = legal;
          counts = subst (AreCounted lanes (s ∷ history)) (sym counts) (record {
            count = follows.counts.count;
            each = λ c below. follows.counts.each c below ∙ ap (λ (xs : List (Arrival Picture)). Some (length xs)) (sym (silent c));
          });
        };
        fed = subst (AreFed lanes (content ∷ entries)) (sym beside.depacks) (record {
          count = keeps.fed.count;
          each = λ c below. subst (λ (ps : List (List ℕ)). IsFedQcif ps (slice_get old.depacks.items c)) (sym (none c)) (keeps.fed.each c below);
        });
        lasts = subst (AreLasts lanes (content ∷ entries)) (sym beside.lasts) (record {
          count = keeps.lasts.count;
          each = λ c below. keeps.lasts.each c below ∙ ap (λ (ps : List (List ℕ)). Some (last_number ps)) (sym (none c));
        });
        hand = hand;
      };
      few = omega arith;
      going = free;
      lines = line ∷ [];
      are = are legal;
      adds = adds;
      short = record { short = omega (arith, empty.short, grows.text); few = omega (arith, empty.few, grows.lines) };
    }
