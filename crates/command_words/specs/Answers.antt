-- Inner contracts alone use this, but for `name_of_command`; nothing here has to be believed.
-- What the steps of the reader answer.
use Rattle.std.specs.Prelude.{◌≡◌, Result, Ok, Err, List, [], codes}
use Rattle.pel_model.specs.declared.Format.TheVariants.{Qcif, Cif}
use Rattle.command_words.specs.declared.fault.WordsFault.{WordsFault}
use Rattle.command_words.specs.declared.fault.WordsFault.TheVariants.{Usage, NoMemory}
use Rattle.command_words.specs.declared.help.Command.{Command}
use Rattle.command_words.specs.declared.help.Command.TheVariants as command
use Rattle.command_words.specs.declared.job.Job.{Job}
use Rattle.command_words.specs.declared.job.Job.TheVariants.{Replay, History, Check, Decode, Make, Live}
use Rattle.command_words.specs.declared.job.PacketOptions.{PacketOptions}
use Rattle.command_words.specs.declared.job.FormatOptions.{FormatOptions}
use Rattle.command_words.specs.declared.job.MakeOptions.{MakeOptions}
use Rattle.command_words.specs.declared.job.LiveOptions.{LiveOptions}
use Rattle.command_words.specs.Options.{Text, given}
use Rattle.command_words.specs.Asks.{HasPackets, HasMake, HasLive, IsFormat, packet_names, make_names, format_names, live_names}

-- the command's name
abbrev pub name_of_command : Command → Text
name_of_command command.Replay = codes "replay"
name_of_command command.History = codes "history"
name_of_command command.Check = codes "check"
name_of_command command.Decode = codes "decode"
name_of_command command.Make = codes "make"
name_of_command command.Live = codes "live"

-- the names of its options
abbrev pub option_names : Command → List Text
option_names command.Replay = packet_names
option_names command.History = []
option_names command.Check = format_names
option_names command.Decode = format_names
option_names command.Make = make_names
option_names command.Live = live_names

-- nothing is like this
abbrev pub Refuses : {O : Type 0} → (O → Type 0) → WordsFault → Type 0
Refuses Has NoMemory = Unit {0}
Refuses {O} Has Usage = (o : O) → Has o → ⊥

-- what is like this is found, or there is none, or memory is short
abbrev pub FindsAsked : {O : Type 0} → (O → Type 0) → Result O WordsFault → Type 0
FindsAsked Has (Ok o) = Has o
FindsAsked Has (Err fault) = Refuses Has fault

abbrev pub command_of : Job → Command
command_of (Replay o) = command.Replay
command_of History = command.History
command_of (Check o) = command.Check
command_of (Decode o) = command.Decode
command_of (Make o) = command.Make
command_of (Live o) = command.Live

-- what the options of a command are read into
abbrev pub OptionsOf : Command → Type 0
OptionsOf command.Replay = PacketOptions
OptionsOf command.History = Unit {0}
OptionsOf command.Check = FormatOptions
OptionsOf command.Decode = FormatOptions
OptionsOf command.Make = MakeOptions
OptionsOf command.Live = LiveOptions

-- the words have these options of the command
abbrev pub HasOptions : (command : Command) → List Text → OptionsOf command → Type 0
HasOptions command.Replay words o = HasPackets words o
HasOptions command.History words o = Unit {0}
HasOptions command.Check words o = IsFormat Qcif (given words (codes "format")) o.format
HasOptions command.Decode words o = IsFormat Cif (given words (codes "format")) o.format
HasOptions command.Make words o = HasMake words o
HasOptions command.Live words o = HasLive words o

-- the options of a job
abbrev pub options_of : (job : Job) → OptionsOf (command_of job)
options_of (Replay o) = o
options_of History = tt
options_of (Check o) = o
options_of (Decode o) = o
options_of (Make o) = o
options_of (Live o) = o

abbrev pub IsJobOf : Command → List Text → Job → Type 0
IsJobOf command words job = (command ≡ command_of job) × HasOptions (command_of job) words (options_of job)
