-- What a window is for: the packets of a run that the network swapped come out in order. And what is fed without one.
use Rattle.std.specs.Prelude.{◌≡◌, ◌↔◌, ℕ, ◌+◌, ◌%◌, ◌^◌, ◌<◌, ◌≤◌, List, length, map, slice_index_or, Option, None, Some}
use Rattle.pel_model.specs.declared.Format.{Format}
use Rattle.rtp_h261.specs.Events.{Event, AreEvents}
use Rattle.rtp_h261.specs.Packets.{piece_of}
use Rattle.rtp_h261.specs.Units.{Piece, members, present_pieces}
use Rattle.rtp_h261.specs.Ordered.{Arrival, usable_of, octets_in, in_order}

-- the numbers follow one another round the circle, from the first one on
abbrev pub IsNumbered : ℕ → List Arrival → Type 0
IsNumbered first run =
    (i : ℕ) (d : Arrival) → i < length run → (slice_index_or run i d).number ≡ (first + i) % 2 ^ 16

-- The packets of a run come in another order, each once: `place` says which packet of the run comes at each time, and `time`
-- when each of them comes, all counted from 0. The first comes first, none comes more than `late` places behind its own,
-- and none half the circle of numbers before it, nor so few places less.
pub record ComesWithin (late : ℕ) (run came : List Arrival) : Type 0 where
  pub place : ℕ → ℕ
  pub time : ℕ → ℕ
  pub count : length came ≡ length run
  pub once : (i : ℕ) → i < length run → (time i < length run) × (place (time i) ≡ i)
  pub one : (k : ℕ) → k < length run → (place k < length run) × (time (place k) ≡ k)
  pub same : (k : ℕ) (d : Arrival) → k < length run → slice_index_or came k d ≡ slice_index_or run (place k) d
  pub first : place 0 ≡ 0
  pub in_time : (i : ℕ) → i < length run → time i ≤ i + late
  pub not_early : (k : ℕ) → k < length run → place k + late < k + 2 ^ 15

-- Where no packet comes more than the width places behind its own, the run comes out in order and whole, whatever
-- unusable packets come between.
abbrev pub LawOfWindows : Type 0
LawOfWindows =
    (width first : ℕ) (run : List Arrival) (packets : List (List ℕ)) → IsNumbered first run
    → ComesWithin width run (usable_of packets) → in_order width packets ≡ octets_in run

-- With width 0 the packets that are neither late nor repeated are fed, one by one, so that the same happens as if all were.
pub record LawOfWidthZero : Type 0 where
  pub fed :
      (packets : List (List ℕ))
      → map piece_of (in_order 0 packets)
      ≡ map (λ (p : Piece). Some p) (present_pieces (members None (map piece_of packets)))
  pub happens : (format : Format) (packets : List (List ℕ)) (events : List Event) → AreEvents format packets events
      ↔ AreEvents format (in_order 0 packets) events
