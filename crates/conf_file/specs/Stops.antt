-- Inner contracts alone use this; nothing here has to be believed.
-- What a pause of the allowance means to a reader, and what an entry that was found has in the buffer.
use Rattle.std.specs.Prelude.{◌≡◌, ℕ, ◌^◌, ◌<◌, ◌≤◌, List, [], ◌∷◌, take, length, Result, Ok, Err}
use Rattle.byteorder.specs.Endian.{big_bytes}
use Rattle.io_edge.specs.Outside.{Input}
use Rattle.io_edge.specs.Allowance.{AllowanceState, TakesOctets}
use Rattle.io_edge.specs.declared.allowance.Pause.{Pause}
use Rattle.io_edge.specs.declared.allowance.Pause.TheVariants as pause
use Rattle.conf_file.specs.declared.entries.Found.{Found}
use Rattle.conf_file.specs.declared.entries.Found.TheVariants as found
use Rattle.conf_file.specs.declared.answers.EntryEnd.{EntryEnd}
use Rattle.conf_file.specs.declared.answers.EntryEnd.TheVariants.{Cut, Fault, Limit}
use Rattle.conf_file.specs.Entries.{Content, Packet, Chair, Tick, End, P}
use Rattle.conf_file.specs.Reading.{TakesBehind, GaveNoMore}

-- the end for a pause, by the octets taken in all
abbrev pub entry_end : Pause → ℕ → EntryEnd
entry_end pause.Limit taken = Limit
entry_end pause.End taken = Cut taken
entry_end pause.Fault taken = Fault

-- the slice was filled, or its front was and why not all
abbrev pub FetchesField : Result Unit EntryEnd → (before after : Input) → (old new : AllowanceState) → (slice : List ℕ)
    → Type 0
FetchesField (Ok _) before after old new slice = TakesOctets before after old new slice × (after.faults ≡ before.faults)
FetchesField (Err end) before after old new slice =
    (count : ℕ) × (count < length slice) × TakesOctets before after old new (take count slice)
    × GaveNoMore end before after new

-- one octet was taken, or none and why
abbrev pub TakesField : Result ℕ EntryEnd → (before after : Input) → (old new : AllowanceState) → Type 0
TakesField (Ok octet) before after old new =
    TakesOctets before after old new (octet ∷ []) × (after.faults ≡ before.faults)
TakesField (Err end) before after old new = TakesOctets before after old new [] × GaveNoMore end before after new

-- the lane and the length of a packet were taken, or why not
abbrev pub TakesHead : Result (ℕ × ℕ) EntryEnd → (lanes first : ℕ) → (before after : Input)
    → (old new : AllowanceState) → Type 0
TakesHead (Ok head) lanes first before after old new =
    TakesOctets before after old new (head.0 ∷ big_bytes 2 head.1) × (head.0 < lanes) × (head.1 < 2 ^ 16)
    × (after.faults ≡ before.faults)
TakesHead (Err end) lanes first before after old new =
    TakesBehind (P ∷ []) lanes first before after old new (Err end)

-- the entry that was found, of which the packet stands at the front of the buffer
abbrev pub entry_in_buffer : List ℕ → Result Found EntryEnd → Result Content EntryEnd
entry_in_buffer buffer (Ok (found.Packet lane size)) = Ok (Packet lane (take size buffer))
entry_in_buffer buffer (Ok (found.Order command)) = Ok (Chair command)
entry_in_buffer buffer (Ok (found.Step step)) = Ok (Tick step)
entry_in_buffer buffer (Ok found.End) = Ok End
entry_in_buffer buffer (Err end) = Err end

-- the packet that was found stands in the buffer
abbrev pub FitsIn : List ℕ → Result Found EntryEnd → Type 0
FitsIn buffer (Ok (found.Packet lane size)) = size ≤ length buffer
FitsIn buffer (Ok (found.Order command)) = Unit {0}
FitsIn buffer (Ok (found.Step step)) = Unit {0}
FitsIn buffer (Ok found.End) = Unit {0}
FitsIn buffer (Err end) = Unit {0}

-- an entry was found, or the rest of one behind those of its octets that were taken before
pub record Finds (front : List ℕ) (lanes first : ℕ) (before after : Input) (old new : AllowanceState)
    (buffer : List ℕ) (result : Result Found EntryEnd) : Type 0 where
  pub fits : FitsIn buffer result
  pub takes : TakesBehind front lanes first before after old new (entry_in_buffer buffer result)
