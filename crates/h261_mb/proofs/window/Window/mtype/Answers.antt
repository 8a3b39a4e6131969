use Rattle.std.proofs.Common.{arith}
use Rattle.pel_model.specs.Codes.{mtype_table}
use Rattle.pel_model.specs.Grammar as grammar
use Rattle.pel_model.specs.Grammar.{table_rows}
use Rattle.vlc_codes.specs.Lookup.{words}
use Rattle.vlc_codes.specs.declared.codes.TheConstants.{KINDS}
use Rattle.vlc_codes.specs.declared.lookup.Table.TheVariants.{Mtype}
use Rattle.vlc_codes.proofs.Computed.{mtype_codes, mtype_tails, mtype_makes, words_counted}
use Rattle.vlc_codes.proofs.WordLaws.{took_word}
use Rattle.h261_mb.proofs.window.Window.mtype.Goals as goal

pub bounds-from : goal.bounds-from
bounds-from c = omega (arith, c.from.ensures, c.in_ok-index.ensures.inside, words_counted Mtype)

pub returns : goal.returns
returns c =
    rw c.from.ensures (took_word (table_rows mtype_table grammar.Mtype) (words Mtype) grammar.Mtype KINDS mtype_codes mtype_tails mtype_makes c.in_ok-index.index _ c.args.self.now c.take_word.new.self c.in_ok-index.ensures.index)
