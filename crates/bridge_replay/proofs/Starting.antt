-- What a replay did that read no entry, and how it begins.
use Rattle.std.proofs.Common.{◌≡◌, ℕ, ◌^◌, ◌≤◌, List, [], Option, None, Result, Ok, Err, length, take, inl, inr, refl, sym, ap, subst, ◌∙◌, arith, append-nil, take_all}
use Rattle.std.proofs.KnownBytes.{Consumes-nil}
use Rattle.bridge_replay.specs.declared.conference.Conference.{Conference}
use Rattle.bridge_replay.specs.declared.ends.ReplayStop.{ReplayStop}
use Rattle.bridge_replay.specs.declared.ends.ReplayStop.TheVariants as stop
use Rattle.bridge_replay.specs.ReadsFile.{replay_stop, HasReadSoFar, StandsAt}
use Rattle.bridge_replay.specs.Replays.{StoppedEarly, NoneRead}
use Rattle.bridge_replay.specs.UnderWay.{beginning, UnderWay}
use Rattle.cif_pack.specs.declared.packer.Settings.{Settings}
use Rattle.cif_pack.specs.Tallies.{nothing_counted}
use Rattle.conf_file.specs.declared.answers.EntryEnd.{EntryEnd}
use Rattle.conf_file.specs.declared.answers.EntryEnd.TheVariants.{Bad, Cut, Fault, Limit}
use Rattle.conf_file.specs.Header.{header_of, header_size, IsNoHeader}
use Rattle.conf_file.specs.Reading.{ReaderState, CallsStart}
use Rattle.io_edge.specs.Allowance.{AllowanceState, unused}
use Rattle.io_edge.specs.Outside.{Input, Output, Outside, outside}

-- there was no memory to begin with
pub memory-first : (budget : ℕ) (before : Outside) → NoneRead budget before before (record { stop = stop.NoMemory; tally = nothing_counted })
memory-first budget before = record {
  octets = [];
  taken = Consumes-nil before.source.left;
  within = omega arith;
  stopped = (inl refl, refl);
  written = refl;
  counted = refl;
}

module _ (budget : ℕ) (before after : Input) (sink : Output) (old new : ReaderState) (fresh : old ≡ record { allowance = unused budget; lanes = None }) where
  old_taken : old.allowance.taken ≡ 0
  old_taken = ap (λ (r : ReaderState). r.allowance.taken) fresh

  old_budget : old.allowance.budget ≡ budget
  old_budget = ap (λ (r : ReaderState). r.allowance.budget) fresh

  long-so : (r : Result ℕ EntryEnd) (k : CallsStart before after old new r) → new.allowance.taken ≡ length k.header.took
  long-so r k = omega (arith, k.header.takes.taken, old_taken)

  new_budget : (r : Result ℕ EntryEnd) → CallsStart before after old new r → new.allowance.budget ≡ budget
  new_budget r k = k.header.takes.budget ∙ old_budget

  none-so : (r : Result ℕ EntryEnd) (s : ReplayStop) (k : CallsStart before after old new r)
      → StoppedEarly s budget (outside before sink) (outside after sink) k.header.took
      → NoneRead budget (outside before sink) (outside after sink) (record { stop = s; tally = nothing_counted })
  none-so r s k stopped = record {
    octets = k.header.took;
    taken = k.header.takes.bytes;
    within = omega (arith, k.header.takes.within, new_budget r k, long-so r k);
    stopped = stopped;
    written = refl;
    counted = refl;
  }

  -- the header was not read
  pub ended-early : (end : EntryEnd) → CallsStart before after old new (Err end)
      → NoneRead budget (outside before sink) (outside after sink) (record { stop = replay_stop end; tally = nothing_counted })
  ended-early (Bad place why) k =
      let a = k.header.answer in
      let is : take header_size k.header.took ≡ k.header.took = take_all header_size k.header.took (omega (arith, a.2)) in
      none-so (Err (Bad place why)) (stop.BadRecord place why) k ((omega (arith, a.2), subst IsNoHeader (sym is) a.3), a.2, a.0, a.1, a.4)
  ended-early (Cut place) k =
      let a = k.header.answer in
      none-so (Err (Cut place)) (stop.Cut place) k
      ((omega (arith, a.1.0, long-so (Err (Cut place)) k), a.0), a.1.1.0, omega (arith, a.1.0, a.1.1.1, new_budget (Err (Cut place)) k), a.1.1.2)
  ended-early Limit k =
      let a = k.header.answer in
      none-so (Err Limit) stop.Limit k ((omega (arith, a.1.0, new_budget (Err Limit) k, long-so (Err Limit) k), a.0), a.1.1)
  ended-early Fault k =
      let a = k.header.answer in
      none-so (Err Fault) stop.ReadFault k ((refl, a.0), a.1.0)

  -- the header was read, and there was not the memory for its lanes
  pub memory-later : (lanes : ℕ) → CallsStart before after old new (Ok lanes)
      → NoneRead budget (outside before sink) (outside after sink) (record { stop = stop.NoMemory; tally = nothing_counted })
  memory-later lanes k =
      let a = k.header.answer in
      none-so (Ok lanes) stop.NoMemory k (inr (lanes, a.0, a.1), a.2)

  -- the replay stands before the first entry
  pub begins-so : (set : Settings) (lanes : ℕ) (c : Conference) → budget ≤ 2 ^ 40 → CallsStart before after old new (Ok lanes)
      → UnderWay (beginning set lanes) c sink sink
      → (took : List ℕ) × StandsAt set budget (outside before sink) (beginning set lanes) took (outside after sink) new c
  begins-so set lanes c least k u =
      let a = k.header.answer in
      let took = k.header.took in
      let long = long-so (Ok lanes) k in (
        took,
        record {
          under_way = u;
          set_is = refl;
          budget_is = new_budget (Ok lanes) k;
          least = least;
          taken = long;
          within = omega (arith, k.header.takes.within, new_budget (Ok lanes) k, long);
          bytes = k.header.takes.bytes;
          faults = a.2;
          reads = subst (λ (l : Option ℕ). HasReadSoFar l (beginning set lanes) took) (sym k.lanes) (
            refl,
            record {
              octets = [];
              header = a.0 ∙ sym (append-nil (header_of lanes));
              lanes_fit = a.1;
              begins = record { entries = []; cut = refl; spelled = tt; counted = ap length a.0 };
              going_on = tt;
            },
            refl,
          );
          room = omega arith;
        },
      )
