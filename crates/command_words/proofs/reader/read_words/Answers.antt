use Rattle.std.proofs.Common.{map, string_bytes}
use Rattle.command_words.proofs.Jobs.{ok_asks, ok_ranges, usage_asks_none, accepted_job, refused_words}
use Rattle.command_words.proofs.reader.read_words.Goals as goal

pub returns : goal.returns
returns c =
    let words = map string_bytes c.args.words.now in
    let r = c.read_command.result in
    let a = c.read_command.ensures in
    record {
      asks = ok_asks words r a;
      ranges = ok_ranges words r a;
      usage = usage_asks_none words r a;
      accepts = accepted_job words r a;
      refuses = refused_words words r a;
    }
