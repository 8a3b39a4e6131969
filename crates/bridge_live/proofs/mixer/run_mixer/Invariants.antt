-- A tick for each step so far was made, and its picture written.
use Rattle.std.proofs.Common.{◌≡◌, ℕ, ◌-◌, List}
use Rattle.std.specs.Io.KnownBytes.{Consumes}
use Rattle.hall_core.specs.Hall.{lanes_of}
use Rattle.bridge_live.specs.Mixing.{MayStep, HasMixed}
use Rattle.bridge_live.proofs.mixer.run_mixer.Given as goal

abbrev pub invariant-loop-filled : goal.invariant-loop-filled
invariant-loop-filled g l = record {
  may : MayStep l.lock l.hand l.mixer;
  mixed : (taken : List ℕ) × Consumes (g.C.Ticker.tells l.fn.ticker).left (g.C.Ticker.tells l.ticker).left taken
      × ((g.C.Ticker.tells l.ticker).faults ≡ (g.C.Ticker.tells l.fn.ticker).faults)
      × HasMixed (lanes_of l.lock.opening) l.fn.mixer.writer.settings taken l.fn.mixer.seat (g.K.Sink.tells l.fn.sink) (g.K.Sink.tells l.sink) l.mixer;
}

abbrev pub decreases-loop-filled : goal.decreases-loop-filled
decreases-loop-filled g l = l.lock.turns - l.mixer.counts.ticks
