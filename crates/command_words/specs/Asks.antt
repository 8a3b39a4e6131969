-- Which words ask for which job. The words are those after the program's name: a command, and then its options.
use Rattle.std.specs.Prelude.{◌≡◌, ◌≤◌, ℕ, true, Option, Some, None, List, [], ◌∷◌, codes, length}
use Rattle.pel_model.specs.declared.Format.{Format}
use Rattle.pel_model.specs.declared.Format.TheVariants.{Qcif, Cif}
use Rattle.command_words.specs.declared.job.Job.{Job}
use Rattle.command_words.specs.declared.job.Job.TheVariants.{Replay, History, Check, Decode, Make, Live}
use Rattle.command_words.specs.declared.job.PacketOptions.{PacketOptions}
use Rattle.command_words.specs.declared.job.FormatOptions.{FormatOptions}
use Rattle.command_words.specs.declared.job.MakeOptions.{MakeOptions}
use Rattle.command_words.specs.declared.job.LiveOptions.{LiveOptions}
use Rattle.command_words.specs.Options.{Text, Number, are_options, given, number_given}
use Rattle.command_words.specs.Names.{name, names}

abbrev pub number_option : Text → ℕ → ℕ → ℕ → Number
number_option name low high otherwise =
    record { name = name; low = low; high = high; otherwise = otherwise }

-- the greatest octets of a packet, and the SSRC, first sequence number and first timestamp of what is written
abbrev pub mtu : Number
mtu = number_option (codes "mtu") 1000 9000 1400

abbrev pub ssrc : Number
ssrc = number_option (codes "ssrc") 0 4294967295 1211250225

abbrev pub seq : Number
seq = number_option (codes "seq") 0 65535 0

abbrev pub stamp : Number
stamp = number_option (codes "stamp") 0 4294967295 0

-- the seed, the ticks and the lanes of a conference that is made
abbrev pub seed : Number
seed = number_option (codes "seed") 0 4294967295 1

abbrev pub ticks : Number
ticks = number_option (codes "ticks") 0 1000000 100

abbrev pub lanes : Number
lanes = number_option (codes "lanes") 1 16 4

-- the most turns of a live conference
abbrev pub turns : Number
turns = number_option (codes "turns") 1 1099511627776 1099511627776

abbrev pub packet_names : List Text
packet_names = codes "mtu" ∷ codes "ssrc" ∷ codes "seq" ∷ codes "stamp" ∷ []

abbrev pub format_names : List Text
format_names = codes "format" ∷ []

abbrev pub make_names : List Text
make_names = codes "seed" ∷ codes "ticks" ∷ codes "lanes" ∷ []

abbrev pub live_names : List Text
live_names =
    codes "lanes" ∷ codes "chair" ∷ codes "mtu" ∷ codes "ssrc" ∷ codes "seq" ∷ codes "stamp" ∷ codes "turns" ∷ []

-- the words are the command and options of these names
pub record IsCommand (words : List Text) (command : Text) (names : List Text) (options : List Text) : Type 0 where
  pub whole : words ≡ command ∷ options
  pub formed : are_options names options ≡ true

pub record HasPackets (words : List Text) (o : PacketOptions) : Type 0 where
  pub mtu : number_given words mtu ≡ Some o.mtu
  pub ssrc : number_given words ssrc ≡ Some o.ssrc
  pub seq : number_given words seq ≡ Some o.seq
  pub stamp : number_given words stamp ≡ Some o.stamp

pub record HasMake (words : List Text) (o : MakeOptions) : Type 0 where
  pub seed : number_given words seed ≡ Some o.seed
  pub ticks : number_given words ticks ≡ Some o.ticks
  pub lanes : number_given words lanes ≡ Some o.lanes

-- the names of the lanes and of the chair have to be given
pub record HasLive (words : List Text) (o : LiveOptions) : Type 0 where
  pub lanes : names words (codes "lanes") ≡ Some o.lanes
  pub chair : name words (codes "chair") ≡ Some o.chair
  pub packets : HasPackets words o.packets
  pub turns : number_given words turns ≡ Some o.turns

abbrev pub format_name : Format → Text
format_name Qcif = codes "qcif"
format_name Cif = codes "cif"

-- the format that is given, or that where none is
abbrev pub IsFormat : Format → Option Text → Format → Type 0
IsFormat otherwise None format = format ≡ otherwise
IsFormat otherwise (Some text) format = text ≡ format_name format

-- the words are this command, with options that say how packets are written
abbrev pub AskPackets : List Text → Text → PacketOptions → Type 0
AskPackets words command o =
    (options : List Text) × IsCommand words command packet_names options × HasPackets options o

-- the words are this command, with a format, or that where none is given
abbrev pub AskFormat : List Text → Text → Format → FormatOptions → Type 0
AskFormat words command otherwise o =
    (options : List Text) × IsCommand words command format_names options
    × IsFormat otherwise (given options (codes "format")) o.format

-- the words ask for the job
abbrev pub Asks : List Text → Job → Type 0
Asks words (Replay o) = AskPackets words (codes "replay") o
Asks words History = (options : List Text) × IsCommand words (codes "history") [] options
Asks words (Check o) = AskFormat words (codes "check") Qcif o
Asks words (Decode o) = AskFormat words (codes "decode") Cif o
Asks words (Make o) =
    (options : List Text) × IsCommand words (codes "make") make_names options × HasMake options o
Asks words (Live o) =
    (options : List Text) × IsCommand words (codes "live") live_names options × HasLive options o

-- what the numbers and the names of a job are known to be
abbrev pub IsInRange : Job → Type 0
IsInRange (Replay o) = (1000 ≤ o.mtu) × (o.mtu ≤ 9000)
IsInRange History = Unit {0}
IsInRange (Check o) = Unit {0}
IsInRange (Decode o) = Unit {0}
IsInRange (Make o) = (o.ticks ≤ 1000000) × (1 ≤ o.lanes) × (o.lanes ≤ 16)
IsInRange (Live o) =
    (1 ≤ length o.lanes) × (length o.lanes ≤ 16) × (1000 ≤ o.packets.mtu) × (o.packets.mtu ≤ 9000)
    × (1 ≤ o.turns) × (o.turns ≤ 1099511627776)

-- words ask for at most one job
abbrev pub OneJob : Type 0
OneJob = (words : List Text) (j k : Job) → Asks words j → Asks words k → j ≡ k
