-- What the call comes to, by what it did and by what told of it.
use Rattle.std.proofs.Common.{map, string_bytes}
use Rattle.bridge_cli.proofs.Living.{lives}
use Rattle.bridge_cli.proofs.live.live.Goals as goal

pub returns : goal.returns
returns g c = record {
  lives =
      lives g.P.Src.Source.tells g.C.Ticker.tells g.K.Sink.tells (map string_bytes c.args.words.now) _ _ c.args.ticker c.args.sink
      c.obey-end.result c.tell.result _ _ c.obey-end.ensures c.tell.ensures;
}
