-- The history of a conference file: the steps that its entries make. Entries stand newest first here, as the steps of a
-- history do.
use Rattle.std.specs.Prelude.{◌≡◌, ◌⊎◌, ℕ, ◌==◌, Bool, if◌then◌else◌, Option, None, Some, List, [], ◌∷◌, ◌++◌}
use Rattle.pel_model.specs.declared.Format.TheVariants.{Qcif}
use Rattle.pel_model.specs.declared.Why.{Why}
use Rattle.pel_model.specs.declared.note.TickNote.{TickNote}
use Rattle.pel_model.specs.Accepts.{Accepts}
use Rattle.pel_model.specs.Grammar.{next_within_limit}
use Rattle.pel_model.specs.History.{History, Post, Gap, Order, Tick as Ticked, End as Ended, commands}
use Rattle.pel_model.specs.Legal.{IsNote}
use Rattle.pel_model.specs.Plan.{answer}
use Rattle.pel_model.specs.Records.{Picture}
use Rattle.pel_model.specs.Walk.{FirstFault}
use Rattle.conf_file.specs.Entries.{Content, Packet, Chair, Tick, End}
use Rattle.rtp_h261.specs.Depack.{given_behind}
use Rattle.rtp_h261.specs.Units.{Given}

-- entries in the order of the file
abbrev pub oldest_first : List Content → List Content
oldest_first [] = []
oldest_first (e ∷ entries) = oldest_first entries ++ e ∷ []

-- the packets that came in a lane, the oldest first
abbrev pub packets_in : List Content → ℕ → List (List ℕ)
packets_in [] c = []
packets_in (Packet lane packet ∷ entries) c =
    if lane == c then packets_in entries c ++ packet ∷ [] else packets_in entries c
packets_in (_ ∷ entries) c = packets_in entries c

-- a loss that is seen at a packet is a gap in its lane
abbrev pub after_loss : ℕ → Bool → History → History
after_loss lane lost before = if lost then Gap lane ∷ before else before

-- a unit that ends with a packet is a picture of its lane where its bits are accepted as one, and else, where they have a
-- first fault, a gap
abbrev pub AfterUnit : ℕ → Option (List Bool) → (before after : History) → Type 0
AfterUnit lane None before after = after ≡ before
AfterUnit lane (Some bits) before after =
    ((picture : Picture) × Accepts Qcif bits picture × (after ≡ Post lane picture ∷ before))
    ⊎ ((place : ℕ) × (why : Why) × FirstFault (next_within_limit Qcif) bits place why
    × (after ≡ Gap lane ∷ before))

-- what a packet gives: first the loss, then the unit
abbrev pub AfterPacket : ℕ → Given → (before after : History) → Type 0
AfterPacket lane given before after =
    AfterUnit lane given.unit (after_loss lane given.lost before) after

-- the history after an entry, where those entries and this history stand before it, in a conference of so many lanes
abbrev pub AfterEntry : ℕ → List Content → Content → (before after : History) → Type 0
-- a packet gives what it gives after the earlier packets of its lane
AfterEntry lanes entries (Packet lane packet) before after =
    AfterPacket lane (given_behind (packets_in entries lane) packet) before after
-- a command has the reply that the commands before it leave it
AfterEntry lanes entries (Chair command) before after =
    after ≡ Order command (answer lanes (commands before) command) ∷ before
-- a tick goes its steps, and takes what the rule of takes chooses
AfterEntry lanes entries (Tick step) before after =
    (note : TickNote) × (note.step ≡ step) × IsNote lanes before note × (after ≡ Ticked note ∷ before)
AfterEntry lanes entries End before after = after ≡ Ended ∷ before

-- this is the history of the entries
abbrev pub IsHistory : ℕ → List Content → History → Type 0
IsHistory lanes [] history = history ≡ []
IsHistory lanes (e ∷ entries) history =
    (before : History) × IsHistory lanes entries before × AfterEntry lanes entries e before history

-- entries have one history at most
abbrev pub LawOfOneHistory : Type 0
LawOfOneHistory =
    (lanes : ℕ) (entries : List Content) (x y : History)
    → IsHistory lanes entries x → IsHistory lanes entries y → x ≡ y
