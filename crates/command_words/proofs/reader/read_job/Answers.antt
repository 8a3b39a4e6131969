-- The options that are not found, by the command.
use Rattle.std.proofs.Common.{map, string_bytes}
use Rattle.command_words.specs.declared.help.Command.TheVariants as command
use Rattle.command_words.proofs.Jobs.{no_job}
use Rattle.command_words.proofs.reader.read_job.Goals as goal

pub returns-in_err-read_packets-in-Replay : goal.returns-in_err-read_packets-in-Replay
returns-in_err-read_packets-in-Replay c =
    no_job c.args.command command.Replay (map string_bytes c.args.options.now) c.from_residual.result _ c.in-Replay.is
    c.from_residual.ensures.1 c.in_err-read_packets-in-Replay.ensures

pub returns-in_err-read_format-in-Check : goal.returns-in_err-read_format-in-Check
returns-in_err-read_format-in-Check c =
    no_job c.args.command command.Check (map string_bytes c.args.options.now) c.from_residual-in_err-read_format-in-Check.result _ c.in-Check.is
    c.from_residual-in_err-read_format-in-Check.ensures.1 c.in_err-read_format-in-Check.ensures

pub returns-in_err-read_format-in-Decode : goal.returns-in_err-read_format-in-Decode
returns-in_err-read_format-in-Decode c =
    no_job c.args.command command.Decode (map string_bytes c.args.options.now) c.from_residual-in_err-read_format-in-Decode.result _ c.in-Decode.is
    c.from_residual-in_err-read_format-in-Decode.ensures.1 c.in_err-read_format-in-Decode.ensures

pub returns-in_err-read_make-in-Make : goal.returns-in_err-read_make-in-Make
returns-in_err-read_make-in-Make c =
    no_job c.args.command command.Make (map string_bytes c.args.options.now) c.from_residual-in_err-read_make-in-Make.result _ c.in-Make.is
    c.from_residual-in_err-read_make-in-Make.ensures.1 c.in_err-read_make-in-Make.ensures

pub returns-in_err-read_live-in-Live : goal.returns-in_err-read_live-in-Live
returns-in_err-read_live-in-Live c =
    no_job c.args.command command.Live (map string_bytes c.args.options.now) c.from_residual-in_err-read_live-in-Live.result _ c.in-Live.is
    c.from_residual-in_err-read_live-in-Live.ensures.1 c.in_err-read_live-in-Live.ensures
