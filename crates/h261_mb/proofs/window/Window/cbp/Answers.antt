use Rattle.std.proofs.Common.{arith}
use Rattle.pel_model.specs.Codes.{cbp_table}
use Rattle.pel_model.specs.Grammar as grammar
use Rattle.pel_model.specs.Grammar.{table_rows}
use Rattle.vlc_codes.specs.Lookup.{words}
use Rattle.vlc_codes.specs.declared.codes.TheConstants.{PATTERNS}
use Rattle.vlc_codes.specs.declared.lookup.Table.TheVariants.{Cbp}
use Rattle.vlc_codes.proofs.Computed.{cbp_codes, cbp_tails, cbp_makes, words_counted}
use Rattle.vlc_codes.proofs.WordLaws.{took_word}
use Rattle.h261_mb.proofs.window.Window.cbp.Goals as goal

pub bounds-from : goal.bounds-from
bounds-from c = omega (arith, c.from.ensures, c.in_ok-index.ensures.inside, words_counted Cbp)

pub returns : goal.returns
returns c =
    rw c.from.ensures (took_word (table_rows cbp_table grammar.Cbp) (words Cbp) grammar.Cbp PATTERNS cbp_codes cbp_tails cbp_makes c.in_ok-index.index _ c.args.self.now c.take_word.new.self c.in_ok-index.ensures.index)
