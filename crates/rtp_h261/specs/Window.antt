-- What a window of packets holds and gives out, by the list of all packets that it was offered.
use Rattle.std.specs.Prelude.{◌≡◌, ℕ, ◌+◌, ◌==◌, Bool, true, false, List, [], ◌∷◌, ◌++◌, length, Option, None, Some}
use denote.Ref.{Bor}
use Rattle.rtp_h261.specs.Ordered.{Arrival, arrival_of, expected_at, Queue, no_queue, usable_of, queue_behind, due, settled, goes_out, octets_in, in_order}

-- a window, as its callers see it
pub record WindowState : Type 0 where
  pub width : ℕ
  pub queue : Queue

-- whether a packet is to be given out
abbrev pub is_due : WindowState → Bool
is_due w = goes_out w.width w.queue.next w.queue.waiting

-- it was offered these packets, and gave out so much of what they give in order, all but what is due
pub record HasOrdered (packets given : List (List ℕ)) (w : WindowState) : Type 0 where
  pub stands : settled w.width w.queue ≡ queue_behind w.width no_queue (usable_of packets)
  pub gave : given ++ octets_in (due w.width w.queue) ≡ in_order w.width packets

-- a packet was offered
pub record Offers (packet : List ℕ) (old new : WindowState) : Type 0 where
  pub width : new.width ≡ old.width
  pub stands : (packets given : List (List ℕ)) → HasOrdered packets given old → HasOrdered (packets ++ packet ∷ []) given new

-- the next packet was given out
pub record GivesNext (packet : List ℕ) (old new : WindowState) : Type 0 where
  pub was_due : is_due old ≡ true
  pub width : new.width ≡ old.width
  pub fewer : length old.queue.waiting ≡ length new.queue.waiting + 1
  pub stands : (packets given : List (List ℕ)) → HasOrdered packets given old → HasOrdered packets (given ++ packet ∷ []) new

abbrev pub packet_shown : Option (Bor (List ℕ)) → Option (List ℕ)
packet_shown None = None
packet_shown (Some packet) = Some packet.now

-- the packet that was due, and none where none was
abbrev pub GivesDue : (old new : WindowState) → Option (List ℕ) → Type 0
GivesDue old new None = (is_due old ≡ false) × (new ≡ old)
GivesDue old new (Some packet) = GivesNext packet old new

-- a usable packet has the number that is expected
abbrev pub has_number : Option Arrival → Option ℕ → Bool
has_number None next = false
has_number (Some p) next = p.number == expected_at next p

abbrev pub is_next : List ℕ → WindowState → Bool
is_next packet w = has_number (arrival_of packet) w.queue.next

-- A packet came and was given out at once, before all that wait; or it is still to come. Where nothing waits, the next one
-- in order is given out so.
pub record PassesBy (packet : List ℕ) (old new : WindowState) (passed : Bool) : Type 0 where
  pub width : new.width ≡ old.width
  pub waiting : new.queue.waiting ≡ old.queue.waiting
  pub stays : passed ≡ false → new ≡ old
  pub stands : passed ≡ true → (packets given : List (List ℕ)) → HasOrdered packets given old
      → HasOrdered (packets ++ packet ∷ []) (given ++ packet ∷ []) new
  pub straight : old.queue.waiting ≡ [] → passed ≡ is_next packet old
