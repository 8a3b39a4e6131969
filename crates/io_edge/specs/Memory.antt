-- Sources, sinks, tickers and houses in memory, as their callers see them. Calls are numbered from 1.
use Rattle.std.specs.Prelude.{◌≡◌, ◌↔◌, ◌⊎◌, ℕ, ◌+◌, ◌-◌, ◌^◌, ◌≤◌, List, ◌++◌, map, min, length, take, drop, Contains, Option, Some, Result, IsErr, IfOk, OnErr, String, string_bytes}
use Rattle.std.specs.declared.alloc.Global.{Global}
use Rattle.io_edge.specs.Directory.{NamedOctets, Directory}
use Rattle.io_edge.specs.Outside.{Input, Output}

-- the octets that it has not given, the numbers of the calls that fail, the most octets that one call gives, the
-- calls made, and the faults met
pub record SourceState : Type 0 where
  pub left : List ℕ
  pub fails : List ℕ
  pub piece : ℕ
  pub calls : ℕ
  pub faults : ℕ

-- the octets that it was given, the most that it can be given, the numbers of the calls that fail, the most octets
-- that one call takes, the calls made, and the faults met
pub record SinkState : Type 0 where
  pub written : List ℕ
  pub room : ℕ
  pub fails : List ℕ
  pub piece : ℕ
  pub calls : ℕ
  pub faults : ℕ

-- the steps that it has not given, the numbers of the calls that fail, the calls made, and the faults met
pub record TickerState : Type 0 where
  pub steps : List ℕ
  pub fails : List ℕ
  pub calls : ℕ
  pub faults : ℕ

-- the names and the sources that it has not given, and the faults met
pub record HouseState : Type 0 where
  pub sources : List (String Global × SourceState)
  pub faults : ℕ

-- what such sources have left, each behind its name
abbrev pub entries_of : List (String Global × SourceState) → List NamedOctets
entries_of sources =
    map (λ (e : String Global × SourceState). record { name = string_bytes e.0; octets = e.1.left }) sources

-- what each of them tells: all that it has left, or was given
abbrev pub source_tells : SourceState → Input
source_tells s = record { left = Some s.left; faults = s.faults }

abbrev pub sink_tells : SinkState → Output
sink_tells s = record { written = Some s.written; faults = s.faults }

abbrev pub ticker_tells : TickerState → Input
ticker_tells s = record { left = Some s.steps; faults = s.faults }

abbrev pub house_tells : HouseState → Directory
house_tells s = record { names = Some (entries_of s.sources); faults = s.faults }

-- the number of the next call; the last number of 64 bits stays
abbrev pub call_after : ℕ → ℕ
call_after calls = min (calls + 1) (2 ^ 64 - 1)

-- the count of faults after one more; the last number of 64 bits stays
abbrev pub fault_after : ℕ → ℕ
fault_after faults = min (faults + 1) (2 ^ 64 - 1)

-- a read fails exactly where its number is listed; another one gives as many octets as it may, the buffer can take and
-- are left
pub record GivesPiece {E : Type 0} (old new : SourceState) (before after : List ℕ) (result : Result ℕ E) : Type 0 where
  pub fails : IsErr result ↔ Contains old.fails (call_after old.calls)
  pub count : IfOk result (λ n. n ≡ min (min (length before) old.piece) (length old.left))
  pub given : IfOk result (λ n. after ≡ take n old.left ++ drop n before)
  pub gave : IfOk result (λ n. new ≡ record old { calls = call_after old.calls; left = drop n old.left })
  pub failed : OnErr result (new ≡ record old { calls = call_after old.calls; faults = fault_after old.faults })

-- a write fails exactly where its number is listed or the sink is full; another one takes as many octets as it may and
-- there is room for
pub record TakesPiece {E : Type 0} (old new : SinkState) (piece : List ℕ) (result : Result ℕ E) : Type 0 where
  pub fails : IsErr result ↔ (Contains old.fails (call_after old.calls) ⊎ (old.room ≤ length old.written))
  pub count : IfOk result (λ n. n ≡ min (min (length piece) old.piece) (old.room - length old.written))
  pub took : IfOk result (λ n. new ≡ record old { calls = call_after old.calls; written = old.written ++ take n piece })
  pub failed : OnErr result (new ≡ record old { calls = call_after old.calls; faults = fault_after old.faults })

-- a call of a ticker fails exactly where its number is listed
pub record GivesListed {E : Type 0} (old new : TickerState) (result : Result (Option ℕ) E) : Type 0 where
  pub fails : IsErr result ↔ Contains old.fails (call_after old.calls)
  pub gave : IfOk result (λ _. new ≡ record old { calls = call_after old.calls; steps = new.steps })
  pub failed : OnErr result (new ≡ record old { calls = call_after old.calls; faults = fault_after old.faults })
