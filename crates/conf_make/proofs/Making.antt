-- Entries made one call after another: what was made until now, and what becomes of it with one call more.
use Rattle.std.proofs.Common.{◌≡◌, ℕ, ◌+◌, ◌*◌, ◌≤◌, List, [], ◌∷◌, ◌++◌, map, Result, Ok, Err, IsErr, refl, ◌∙◌, subst, arith}
use Rattle.io_edge.specs.Causes.{Rose, Went}
use Rattle.io_edge.specs.Outside.{Output}
use Rattle.conf_file.specs.Entries.{Content}
use Rattle.conf_make.specs.declared.maker.Maker.{Maker}
use Rattle.conf_make.specs.declared.output.MakeTally.{MakeTally}
use Rattle.conf_make.specs.Made.{entry_of, tick_entries, behind_tick, all_ticks}
use Rattle.conf_make.specs.Maker.{MakesEntries}
use Rattle.conf_make.specs.Writing.{HasPut, Grows, PutsEntries}
use Rattle.conf_make.proofs.Pieces.{at-first, next-put, failed-put, last-put, all-put}
use Rattle.conf_make.proofs.Going.{nothing-put, on-ok}

-- of all these entries some were made, so many at most, and the rest not yet
pub record HasMade (most : ℕ) (all rest : List Content) (before now : Output) (old new : Maker) : Type 0 where
  pub put : HasPut before.written now.written all rest old.tally new.tally
  pub grows : Grows most old.tally new.tally
  pub went : Went before.faults now.faults
  pub kept : now.faults ≡ before.faults
  pub lanes : new.lanes ≡ old.lanes

pub none-made : (all : List Content) (a : Output) (m : Maker) → HasMade 0 all all a a m m
none-made all a m = record {
  put = at-first a.written all m.tally;
  grows = record { records = omega arith; octets = omega arith };
  went = record { later = omega arith; counted = λ small. small };
  kept = refl;
  lanes = refl;
}

pub rest-made : (most : ℕ) (all rest same : List Content) (a b : Output) (old new : Maker) → rest ≡ same → HasMade most all rest a b old new → HasMade most all same a b old new
rest-made most all rest same a b old new is h = subst (λ (cs : List Content). HasMade most all cs a b old new) is h

-- one call more
pub more-made : {E : Type 0} (most n k : ℕ) (all now rest : List Content) (state : ℕ) (a b c : Output) (old mid new : Maker) (x : Unit) → n + k ≤ most
    → HasMade n all (now ++ rest) a b old mid → MakesEntries {E = E} k now state b c mid new (Ok x) → HasMade most all rest a c old new
more-made most n k all now rest state a b c old mid new x few h m = record {
  put = next-put a.written b.written c.written all now rest old.tally mid.tally new.tally h.put m.puts.pieces;
  grows = record { records = omega (arith, few, h.grows.records, m.puts.grows.records); octets = omega (arith, few, h.grows.octets, m.puts.grows.octets) };
  went = record { later = omega (arith, h.went.later, m.puts.cause.later); counted = λ small. m.puts.cause.counted (h.went.counted small) };
  kept = m.puts.cause.kept ∙ h.kept;
  lanes = m.lanes ∙ h.lanes;
}

-- a call at which the sink failed
pub failed-made : {E F : Type 0} (most n k : ℕ) (all now rest : List Content) (state end : ℕ) (a b c : Output) (old mid new : Maker) (result : Result Unit E) (e : F)
    → IsErr result → n + k ≤ most → HasMade n all (now ++ rest) a b old mid → MakesEntries k now state b c mid new (Err e)
    → MakesEntries most all end a c old new result
failed-made most n k all now rest state end a b c old mid new (Ok y) e is few h m = absurd (cc)
failed-made most n k all now rest state end a b c old mid new (Err f) e is few h m = record {
  puts = record {
    pieces = failed-put (Err f) e a.written b.written c.written all now rest old.tally mid.tally new.tally is h.put m.puts.pieces;
    grows = record { records = omega (arith, few, h.grows.records, m.puts.grows.records); octets = omega (arith, few, h.grows.octets, m.puts.grows.octets) };
    cause = record {
      later = omega (arith, h.went.later, m.puts.cause.later);
      counted = λ small. m.puts.cause.counted (h.went.counted small);
      kept = tt;
      failed = subst (λ (n : ℕ). Rose n c.faults) h.kept m.puts.cause.failed;
    };
  };
  state = tt;
  lanes = m.lanes ∙ h.lanes;
}

-- the last call
pub last-made : {E : Type 0} (most n k : ℕ) (all now : List Content) (state end : ℕ) (a b c : Output) (old mid new : Maker) (result : Result Unit E)
    → n + k ≤ most → state ≡ end → HasMade n all now a b old mid → MakesEntries k now state b c mid new result → MakesEntries most all end a c old new result
last-made {E} most n k all now state end a b c old mid new (Ok y) few same h m = record {
  puts = record {
    pieces = last-put {E = E} (Ok y) a.written b.written c.written all now old.tally mid.tally new.tally h.put m.puts.pieces;
    grows = record { records = omega (arith, few, h.grows.records, m.puts.grows.records); octets = omega (arith, few, h.grows.octets, m.puts.grows.octets) };
    cause = record {
      later = omega (arith, h.went.later, m.puts.cause.later);
      counted = λ small. m.puts.cause.counted (h.went.counted small);
      kept = m.puts.cause.kept ∙ h.kept;
      failed = tt;
    };
  };
  state = m.state ∙ same;
  lanes = m.lanes ∙ h.lanes;
}
last-made most n k all now state end a b c old mid new (Err e) few same h m = record {
  puts = record {
    pieces = last-put (Err e) a.written b.written c.written all now old.tally mid.tally new.tally h.put m.puts.pieces;
    grows = record { records = omega (arith, few, h.grows.records, m.puts.grows.records); octets = omega (arith, few, h.grows.octets, m.puts.grows.octets) };
    cause = record {
      later = omega (arith, h.went.later, m.puts.cause.later);
      counted = λ small. m.puts.cause.counted (h.went.counted small);
      kept = tt;
      failed = subst (λ (n : ℕ). Rose n c.faults) h.kept m.puts.cause.failed;
    };
  };
  state = tt;
  lanes = m.lanes ∙ h.lanes;
}

-- all were made
pub all-made : {E : Type 0} (most : ℕ) (all rest : List Content) (end : ℕ) (a b : Output) (old new : Maker) (x : Unit)
    → rest ≡ [] → new.state ≡ end → HasMade most all rest a b old new → MakesEntries {E = E} most all end a b old new (Ok x)
all-made most all rest end a b old new x none same h =
    record {
      puts = record {
        pieces = all-put a.written b.written all old.tally new.tally (rest-made most all rest [] a b old new none h).put;
        grows = h.grows;
        cause = record { later = h.went.later; counted = h.went.counted; kept = h.kept; failed = tt };
      };
      state = same;
      lanes = h.lanes;
    }

-- no entry, and one
pub nothing-made : {E : Type 0} (all : List Content) (end : ℕ) (a : Output) (old new : Maker) (x : Unit)
    → all ≡ [] → new.state ≡ end → new.tally ≡ old.tally → new.lanes ≡ old.lanes → MakesEntries {E = E} 1 all end a a old new (Ok x)
nothing-made {E} all end a old new x none same tally lanes =
    subst (λ (t : MakeTally). PutsEntries {E = E} 1 (map entry_of all) a a old.tally t (Ok x) → MakesEntries {E = E} 1 all end a a old new (Ok x)) tally
    (λ puts. record { puts = puts; state = same; lanes = lanes })
    (record {
      pieces = nothing-put a.written all old.tally none;
      grows = record { records = omega arith; octets = omega arith };
      cause = record { later = omega arith; counted = λ small. small; kept = refl; failed = tt };
    })

pub one-made : {E : Type 0} (content : Content) (all : List Content) (end : ℕ) (a b : Output) (old new : Maker) (result : Result Unit E)
    → content ∷ [] ≡ all → new.state ≡ end → new.lanes ≡ old.lanes → PutsEntries 1 (entry_of content ∷ []) a b old.tally new.tally result
    → MakesEntries 1 all end a b old new result
one-made content all end a b old new result is same lanes puts =
    subst (λ (cs : List Content). MakesEntries 1 cs end a b old new result) is (record { puts = puts; state = on-ok result _ same; lanes = lanes })

pub fewer-made : (most n : ℕ) (all rest : List Content) (a b : Output) (old new : Maker) → n ≤ most → HasMade n all rest a b old new → HasMade most all rest a b old new
fewer-made most n all rest a b old new few h = record {
  put = h.put;
  grows = record { records = omega (arith, few, h.grows.records); octets = omega (arith, few, h.grows.octets) };
  went = h.went;
  kept = h.kept;
  lanes = h.lanes;
}

pub same-made : {E : Type 0} (most : ℕ) (all same : List Content) (end : ℕ) (a b : Output) (old new : Maker) (result : Result Unit E)
    → all ≡ same → MakesEntries most all end a b old new result → MakesEntries most same end a b old new result
same-made most all same end a b old new result is h = subst (λ (cs : List Content). MakesEntries most cs end a b old new result) is h

-- a tick of a maker that has as many lanes
pub tick-made : {E : Type 0} (lanes tick : ℕ) (a b : Output) (old new : Maker) (result : Result Unit E) → old.lanes ≡ lanes
    → MakesEntries 18 (tick_entries old.lanes tick old.state) (behind_tick old.lanes tick old.state) a b old new result
    → MakesEntries 18 (tick_entries lanes tick old.state) (behind_tick lanes tick old.state) a b old new result
tick-made lanes tick a b old new result same h =
    subst (λ (n : ℕ). MakesEntries 18 (tick_entries n tick old.state) (behind_tick n tick old.state) a b old new result) same h

-- entries that were put and counted, whatever else of the maker changed
pub put-made : {E : Type 0} (most : ℕ) (now : List Content) (a b : Output) (m : Maker) (t u : MakeTally) (result : Result Unit E)
    → PutsEntries most (map entry_of now) a b t u result → MakesEntries most now m.state a b (record m { tally = t }) (record m { tally = u }) result
put-made most now a b m t u result puts = record { puts = puts; state = on-ok result _ refl; lanes = refl }

-- the ticks of a maker that has as many lanes and the same state
pub ticks-put : {E : Type 0} (ticks lanes state : ℕ) (a b : Output) (m : Maker) (t u : MakeTally) (result : Result Unit E) → m.lanes ≡ lanes → m.state ≡ state
    → PutsEntries (18 * ticks) (map entry_of (all_ticks ticks m.lanes 1 m.state)) a b t u result
    → PutsEntries (18 * ticks) (map entry_of (all_ticks ticks lanes 1 state)) a b t u result
ticks-put ticks lanes state a b m t u result many same puts =
    subst (λ (s : ℕ). PutsEntries (18 * ticks) (map entry_of (all_ticks ticks lanes 1 s)) a b t u result) same
    (subst (λ (n : ℕ). PutsEntries (18 * ticks) (map entry_of (all_ticks ticks n 1 m.state)) a b t u result) many puts)

pub tally-put : {E : Type 0} (all : List (List ℕ)) (a b : Output) (s t u : MakeTally) (result : Result Unit E) → s ≡ t
    → PutsEntries 1 all a b s u result → PutsEntries 1 all a b t u result
tally-put all a b s t u result same puts = subst (λ (k : MakeTally). PutsEntries 1 all a b k u result) same puts
