-- The header, and then the entries.
use Rattle.conf_make.proofs.Filing.{header-failed, file-of, cause-failed, causes-both}
use Rattle.conf_make.proofs.maker.Maker.write_file.Goals as goal

pub returns-in_err-put_header : goal.returns-in_err-put_header
returns-in_err-put_header g c = record {
  file =
      header-failed c.from_residual.result c.in_err-put_header.field-0 _ _ c.args.self.now.state c.args.ticks c.args.self.now.lanes _
      c.from_residual.ensures.0 c.in_err-put_header.ensures.header;
  cause = cause-failed c.from_residual.result _ _ _ c.from_residual.ensures.0 c.in_err-put_header.ensures.cause;
}

pub returns : goal.returns
returns g c = record {
  file =
      file-of c.write_entries.result c.in_ok-put_header.field-0 _ _ _ c.args.self.now.state c.args.ticks c.args.self.now.lanes _ _
      c.in_ok-put_header.ensures.header c.write_entries.ensures.pieces;
  cause = causes-both c.write_entries.result _ _ _ _ c.in_ok-put_header.ensures.cause c.write_entries.ensures.cause;
}
