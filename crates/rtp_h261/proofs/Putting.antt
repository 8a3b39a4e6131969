-- Pieces put one after the other.
use Rattle.std.proofs.Common.{◌≡◌, ℕ, ◌+◌, ◌≤◌, Bool, true, false, List, [], ◌∷◌, ◌++◌, length, take, Option, Some, None, Result, Ok, Err, IsErr, refl, sym, ◌∙◌, ap, subst, arith, append_assoc, length-append}
use Rattle.std.specs.List.{concat}
use Rattle.std.specs.Io.KnownBytes.{Appends}
use Rattle.std.proofs.KnownBytes.{Appends-nil, Appends-trans}
use Rattle.std.proofs.lemmas.List.Folds.{concat-append}
use Rattle.std.specs.Int.{from_bool}
use Rattle.io_edge.specs.Causes.{HasCause}
use Rattle.io_edge.specs.Outside.{Output}
use Rattle.rtp_h261.specs.declared.unit_end.UnitTally.{UnitTally}
use Rattle.rtp_h261.specs.Events.{Event, lost_events}
use Rattle.rtp_h261.specs.Tellers.{Duty, TellsEvent, CountsMore}
use Rattle.rtp_h261.specs.ToldSoFar.{CountsEvents, TellsSome, TellsAll, TellsEach, TellsOn, TellsPacket}

-- counts
pub more-none : (counts : Option ℕ) → CountsMore counts counts 0
more-none None = tt
more-none (Some count) = λ small. ap (λ (n : ℕ). Some n) (omega arith)

pub more-more : (counts mid new : Option ℕ) (n m k : ℕ) → CountsMore counts mid n → CountsMore mid new m → k ≡ n + m → CountsMore counts new k
more-more None mid new n m k h l sum = tt
more-more (Some count) mid new n m k h l sum = λ small.
    subst (λ (c : Option ℕ). CountsMore c new m) (h (omega (arith, small, sum))) l (omega (arith, small, sum))
    ∙ ap (λ (c : ℕ). Some c) (omega (arith, sum))

-- a call that failed, told as another result that failed
cause-again : {T U E F : Type 0} (result : Result T E) (e : F) (before now : ℕ) → IsErr result → HasCause {T = U} {E = F} before now (Err e) → HasCause before now result
cause-again (Ok x) e before now is h = absurd (cc)
cause-again (Err f) e before now is h = record { later = h.later; counted = h.counted; kept = h.kept; failed = h.failed }

cause-done : {T U E F : Type 0} (x : T) (y : U) (before now : ℕ) → HasCause {T = T} {E = E} before now (Ok x) → HasCause {T = U} {E = F} before now (Ok y)
cause-done x y before now h = record { later = h.later; counted = h.counted; kept = h.kept; failed = h.failed }

-- one event, of which a front was put
one-failed : {E F : Type 0} (result : Result Unit E) (e : F) (old new : Duty) (number : ℕ) (event : Event) (before after : Output) (a : ℕ)
    → IsErr result → TellsEvent old new number event before after (Err e)
    → TellsEach (old.pieces number) (new.pieces (number + 1)) old.counts new.counts (event ∷ []) before.written after.written a a result
one-failed (Ok x) e old new number event before after a is h = absurd (cc)
one-failed (Err f) e old new number event before after a is h = record {
  whole = [];
  counts_are = h.counts;
  next = h.put.0;
  rest = new.pieces (number + 1);
  others = λ more. h.others more ∙ ap (λ (ls : List (List ℕ)). ls ++ new.pieces (number + 1) more) h.put.1;
  count = h.put.2;
  front = h.put.3;
  bytes = h.put.4;
  counted = omega arith;
}

pub one-fails : {E F : Type 0} (result : Result Unit E) (e : F) (old new : Duty) (number : ℕ) (event : Event) (before after : Output) (a : ℕ)
    → IsErr result → TellsEvent old new number event before after (Err e) → TellsOn old new number (event ∷ []) before after a a result
one-fails result e old new number event before after a is h = record {
  told = one-failed result e old new number event before after a is h;
  format = h.format;
  short = omega arith;
  cause = cause-again result e before.faults after.faults is h.cause;
}

-- one that was put
pub one-told : {E F : Type 0} (x : Unit) (octets : ℕ) (old new : Duty) (number : ℕ) (event : Event) (before after : Output) (a b : ℕ)
    → b ≡ a + octets → TellsEvent {E = F} old new number event before after (Ok octets) → TellsOn {E = E} old new number (event ∷ []) before after a b (Ok x)
one-told x octets old new number event before after a b sum h = record {
  told = record { whole = h.here; counts_are = h.counts; others = h.others; bytes = h.put.0; counted = omega (arith, sum, h.put.1) };
  format = h.format;
  short = omega (arith, sum, h.few);
  cause = cause-done octets x before.faults after.faults h.cause;
}

-- nothing to be told
pub none-told : {E : Type 0} (x : Unit) (duty : Duty) (number : ℕ) (here : Output) (a : ℕ) → TellsOn {E = E} duty duty number [] here here a a (Ok x)
none-told x duty number here a = record {
  told = record { whole = []; counts_are = more-none duty.counts; others = λ more. ap (λ (n : ℕ). duty.pieces n more) (omega arith); bytes = Appends-nil here.written; counted = omega arith };
  format = refl;
  short = omega arith;
  cause = record { later = omega arith; counted = λ small. small; kept = refl; failed = tt };
}

-- events after those at which the sink failed
pub told-before : {E F : Type 0} (result : Result Unit E) (e : F) (p q r : List Event → List (List ℕ)) (c d : Option ℕ) (es fs : List Event) (old new : Option (List ℕ)) (a b : ℕ) → IsErr result
    → TellsEach p q c d es old new a b (Err e) → TellsEach p r c d (es ++ fs) old new a b result
told-before (Ok x) e p q r c d es fs old new a b is h = absurd (cc)
told-before (Err f) e p q r c d es fs old new a b is h = record {
  whole = h.whole;
  counts_are = h.counts_are;
  next = h.next;
  rest = λ more. h.rest (fs ++ more);
  others = λ more. ap p (append_assoc es fs more) ∙ h.others (fs ++ more);
  count = h.count;
  front = h.front;
  bytes = h.bytes;
  counted = h.counted;
}

both-concat : (xs ys : List (List ℕ)) → length (concat (xs ++ ys)) ≡ length (concat xs) + length (concat ys)
both-concat xs ys = ap length (concat-append xs ys) ∙ length-append (concat xs) (concat ys)

-- events after those that were told
pub told-behind : {E : Type 0} (result : Result Unit E) (p q r : List Event → List (List ℕ)) (c d f : Option ℕ) (es fs : List Event) (old mid new : Option (List ℕ)) (a m b : ℕ)
    → TellsAll p q c d es old mid a m → TellsEach q r d f fs mid new m b result → TellsEach p r c f (es ++ fs) old new a b result
told-behind (Ok x) p q r c d f es fs old mid new a m b h k = record {
  whole = h.whole ++ k.whole;
  counts_are = more-more c d f (length h.whole) (length k.whole) (length (h.whole ++ k.whole)) h.counts_are k.counts_are (length-append h.whole k.whole);
  others = λ more.
      ap p (append_assoc es fs more) ∙ h.others (fs ++ more) ∙ ap (λ (ls : List (List ℕ)). h.whole ++ ls) (k.others more)
      ∙ sym (append_assoc h.whole k.whole (r more));
  bytes = subst (Appends old new) (sym (concat-append h.whole k.whole)) (Appends-trans old mid new (concat h.whole) (concat k.whole) h.bytes k.bytes);
  counted = omega (arith, k.counted, h.counted, both-concat h.whole k.whole);
}
told-behind (Err e) p q r c d f es fs old mid new a m b h k = record {
  whole = h.whole ++ k.whole;
  counts_are = more-more c d f (length h.whole) (length k.whole) (length (h.whole ++ k.whole)) h.counts_are k.counts_are (length-append h.whole k.whole);
  next = k.next;
  rest = k.rest;
  others = λ more.
      ap p (append_assoc es fs more) ∙ h.others (fs ++ more) ∙ ap (λ (ls : List (List ℕ)). h.whole ++ ls) (k.others more)
      ∙ sym (append_assoc h.whole k.whole (k.next ∷ k.rest more));
  count = k.count;
  front = k.front;
  bytes =
      subst (Appends old new)
      (sym (append_assoc (concat h.whole) (concat k.whole) (take k.count k.next)) ∙ ap (λ (t : List ℕ). t ++ take k.count k.next) (sym (concat-append h.whole k.whole)))
      (Appends-trans old mid new (concat h.whole) (concat k.whole ++ take k.count k.next) h.bytes k.bytes);
  counted = omega (arith, k.counted, h.counted, both-concat h.whole k.whole);
}

-- what was told before a failure is there whole
pub failed-behind : {E : Type 0} (e : E) (p q r : List Event → List (List ℕ)) (c d f : Option ℕ) (es fs : List Event) (old mid new : Option (List ℕ)) (a m b : ℕ)
    (h : TellsAll p q c d es old mid a m) → TellsEach q r d f fs mid new m b (Err e)
    → (some : TellsSome p c f (es ++ fs) old new a b) × (length h.whole ≤ length some.whole)
unfolding told-behind
failed-behind e p q r c d f es fs old mid new a m b h k =
    (told-behind (Err e) p q r c d f es fs old mid new a m b h k, omega (arith, length-append h.whole k.whole))

-- the same of equal events, behind which the same is to be written
pub same-events : {E : Type 0} (result : Result Unit E) (p : List Event → List (List ℕ)) (rest : ℕ → List Event → List (List ℕ)) (c d : Option ℕ) (n m : ℕ) (es fs : List Event) (old new : Option (List ℕ)) (a b : ℕ)
    → n ≡ m → es ≡ fs → TellsEach p (rest n) c d es old new a b result → TellsEach p (rest m) c d fs old new a b result
same-events result p rest c d n m es fs old new a b number same h =
    subst (λ (xs : List Event). TellsEach p (rest m) c d xs old new a b result) same
    (subst (λ (k : ℕ). TellsEach p (rest k) c d es old new a b result) number h)

-- the number of the unit's event
pub one-loss : (lost : Bool) (k : ℕ) → k ≡ from_bool lost → k ≡ length (lost_events lost)
one-loss true k h = h
one-loss false k h = h

-- ---- what happens at a packet

-- the sink failed at the loss
pub packet-failed : {E F : Type 0} (result : Result Unit E) (e : F) (old new : Duty) (was mid now : UnitTally) (lost : Bool) (unit events : List Event) (before after : Output)
    → IsErr result → events ≡ lost_events lost ++ unit → CountsEvents was mid events → mid.pictures + mid.gaps ≤ was.pictures + was.gaps + 2 → mid.octets ≡ was.octets
    → now ≡ record mid { octets = now.octets } → TellsOn old new (was.pictures + was.gaps + 1) (lost_events lost) before after mid.octets now.octets (Err e)
    → TellsPacket old new was now events before after result
packet-failed result e old new was mid now lost unit events before after is order counted few same now_is h =
    let number = was.pictures + was.gaps + 1 in
    let pictures : now.pictures ≡ mid.pictures = ap (λ (t : UnitTally). t.pictures) now_is in
    let gaps : now.gaps ≡ mid.gaps = ap (λ (t : UnitTally). t.gaps) now_is in
    record {
      counted = record { pictures = pictures ∙ counted.pictures; gaps = gaps ∙ counted.gaps };
      told =
          subst (λ (octets : ℕ). TellsEach (old.pieces number) (new.pieces (number + length events)) old.counts new.counts events before.written after.written octets now.octets result) same
          (subst (λ (es : List Event). TellsEach (old.pieces number) (new.pieces (number + length events)) old.counts new.counts es before.written after.written mid.octets now.octets result) (sym order)
          (told-before result e (old.pieces number) (new.pieces (number + length (lost_events lost))) (new.pieces (number + length events)) old.counts new.counts (lost_events lost) unit before.written after.written mid.octets now.octets is h.told));
      format = h.format;
      few = omega (arith, few, pictures, gaps);
      short = omega (arith, h.short, same);
      cause = cause-again result e before.faults after.faults is h.cause;
    }

-- the loss was told, and the unit told or not
pub packet-told : {E F : Type 0} (result : Result Unit E) (x : Unit) (old between new : Duty) (was mid now : UnitTally) (octets : ℕ) (lost : Bool) (count : ℕ) (unit events : List Event) (before half after : Output)
    → events ≡ lost_events lost ++ unit → count ≡ from_bool lost → CountsEvents was mid events → mid.pictures + mid.gaps ≤ was.pictures + was.gaps + 2 → mid.octets ≡ was.octets
    → now ≡ record mid { octets = now.octets } → TellsOn {E = F} old between (was.pictures + was.gaps + 1) (lost_events lost) before half mid.octets octets (Ok x)
    → TellsOn between new (was.pictures + was.gaps + 1 + count) unit half after octets now.octets result
    → TellsPacket old new was now events before after result
packet-told {E = E} {F = F} result x old between new was mid now octets lost count unit events before half after order one counted few same now_is h k =
    let number = was.pictures + was.gaps + 1 in
    let pictures : now.pictures ≡ mid.pictures = ap (λ (t : UnitTally). t.pictures) now_is in
    let gaps : now.gaps ≡ mid.gaps = ap (λ (t : UnitTally). t.gaps) now_is in
    let middle : number + count ≡ number + length (lost_events lost) = ap (λ (m : ℕ). number + m) (one-loss lost count one) in
    let last : number + count + length unit ≡ number + length events = omega (arith, middle, ap length order, length-append (lost_events lost) unit) in
    record {
      counted = record { pictures = pictures ∙ counted.pictures; gaps = gaps ∙ counted.gaps };
      told =
          subst (λ (o : ℕ). TellsEach (old.pieces number) (new.pieces (number + length events)) old.counts new.counts events before.written after.written o now.octets result) same
          (same-events result (old.pieces number) new.pieces old.counts new.counts (number + count + length unit) (number + length events) (lost_events lost ++ unit) events before.written after.written mid.octets now.octets last (sym order)
          (told-behind result (old.pieces number) (between.pieces (number + count)) (new.pieces (number + count + length unit)) old.counts between.counts new.counts (lost_events lost) unit before.written half.written after.written mid.octets octets now.octets
          (subst (λ (m : ℕ). TellsAll (old.pieces number) (between.pieces m) old.counts between.counts (lost_events lost) before.written half.written mid.octets octets) (sym middle) h.told) k.told));
      format = k.format ∙ h.format;
      few = omega (arith, few, pictures, gaps);
      short = omega (arith, h.short, k.short, same);
      cause = subst (λ (f : ℕ). HasCause f after.faults result) h.cause.kept k.cause;
    }
