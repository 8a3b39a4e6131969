-- What was done, and the note of it.
use Rattle.std.proofs.Common.{map, string_bytes}
use Rattle.bridge_cli.proofs.Running.{runs}
use Rattle.bridge_cli.proofs.run.run.Goals as goal

pub returns : goal.returns
returns g c = record {
  runs =
      runs (map string_bytes c.args.words.now) _ _ c.obey-ended.result.status c.note.result c.obey-ended.result.line.bytes _ _ c.obey-ended.ensures
      c.note.ensures;
}
