use Rattle.std.proofs.Common.{arith}
use Rattle.std.proofs.lemmas.Result.{err_from_is_err_and}
use Rattle.pel_model.specs.Codes.{cbp_table}
use Rattle.pel_model.specs.Grammar as grammar
use Rattle.pel_model.specs.Grammar.{table_rows}
use Rattle.vlc_codes.specs.Lookup.{words}
use Rattle.vlc_codes.specs.declared.codes.TheConstants.{PATTERNS}
use Rattle.vlc_codes.specs.declared.lookup.Table.TheVariants.{Cbp}
use Rattle.vlc_codes.proofs.Computed.{cbp_codes, cbp_tails, cbp_makes, words_some, words_counted}
use Rattle.vlc_codes.proofs.WordLaws.{took_word, took_none}
use Rattle.vlc_codes.proofs.readers.cbp.Goals as goal

pub returns-in_err-index : goal.returns-in_err-index
returns-in_err-index c =
    let p = err_from_is_err_and c.from_residual.result c.from_residual.ensures.1 in
    rw (p.1, p.2) (took_none (table_rows cbp_table grammar.Cbp) (words Cbp) grammar.Cbp PATTERNS cbp_codes (words_some Cbp) _ c.args.r.now c.take_word.new.r c.in_err-index.ensures.index)

pub bounds-from : goal.bounds-from
bounds-from c = omega (arith, c.from.ensures, c.in_ok-index.ensures.inside, words_counted Cbp)

pub returns : goal.returns
returns c =
    rw c.from.ensures (took_word (table_rows cbp_table grammar.Cbp) (words Cbp) grammar.Cbp PATTERNS cbp_codes cbp_tails cbp_makes c.in_ok-index.index _ c.args.r.now c.take_word.new.r c.in_ok-index.ensures.index)
