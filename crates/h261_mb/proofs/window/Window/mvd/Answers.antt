use Rattle.std.proofs.Common.{arith}
use Rattle.pel_model.specs.Codes.{mvd_table}
use Rattle.pel_model.specs.Grammar as grammar
use Rattle.pel_model.specs.Grammar.{table_rows}
use Rattle.vlc_codes.specs.Lookup.{words}
use Rattle.vlc_codes.specs.declared.codes.TheConstants.{DIFFERENCES}
use Rattle.vlc_codes.specs.declared.lookup.Table.TheVariants.{Mvd}
use Rattle.vlc_codes.proofs.Computed.{mvd_codes, mvd_tails, mvd_makes, words_counted, differences_bounds}
use Rattle.vlc_codes.proofs.WordLaws.{took_word}
use Rattle.h261_mb.proofs.window.Window.mvd.Goals as goal

pub bounds-from : goal.bounds-from
bounds-from c = omega (arith, c.from.ensures, c.in_ok-index.ensures.inside, words_counted Mvd)

pub returns-clause-word : goal.returns-clause-word
returns-clause-word c =
    rw c.from.ensures (λ axis. took_word (table_rows mvd_table (grammar.Mvd axis)) (words Mvd) (grammar.Mvd axis) DIFFERENCES (mvd_codes axis) (mvd_tails axis) (mvd_makes axis) c.in_ok-index.index _ c.args.self.now c.take_word.new.self c.in_ok-index.ensures.index)

pub returns-clause-range : goal.returns-clause-range
returns-clause-range c = differences_bounds c.from.result _ (omega (arith, c.from.ensures, c.in_ok-index.ensures.inside, words_counted Mvd))
