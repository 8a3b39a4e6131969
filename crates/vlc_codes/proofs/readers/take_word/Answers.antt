use Rattle.std.proofs.Common.{sym, arith}
use Rattle.vlc_codes.specs.Lookup.{words}
use Rattle.vlc_codes.proofs.WordLaws.{cell_within}
use Rattle.vlc_codes.proofs.readers.take_word.Goals as goal

pub skip-requires : goal.skip-requires
skip-requires c =
    omega (arith, c.from.ensures, cell_within (words c.args.table) c.args.r.now.0 c.in_ok-cell.cell (sym c.in_ok-cell.ensures))

pub returns-clause-inside : goal.returns-clause-inside
returns-clause-inside c =
    (cell_within (words c.args.table) c.args.r.now.0 c.in_ok-cell.cell (sym c.in_ok-cell.ensures)).0
