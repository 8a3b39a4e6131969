use Rattle.std.proofs.Common.{arith}
use Rattle.std.proofs.lemmas.Result.{err_from_is_err_and}
use Rattle.pel_model.specs.Codes.{mtype_table}
use Rattle.pel_model.specs.Grammar as grammar
use Rattle.pel_model.specs.Grammar.{table_rows}
use Rattle.vlc_codes.specs.Lookup.{words}
use Rattle.vlc_codes.specs.declared.codes.TheConstants.{KINDS}
use Rattle.vlc_codes.specs.declared.lookup.Table.TheVariants.{Mtype}
use Rattle.vlc_codes.proofs.Computed.{mtype_codes, mtype_tails, mtype_makes, words_some, words_counted}
use Rattle.vlc_codes.proofs.WordLaws.{took_word, took_none}
use Rattle.vlc_codes.proofs.readers.mtype.Goals as goal

pub returns-in_err-index : goal.returns-in_err-index
returns-in_err-index c =
    let p = err_from_is_err_and c.from_residual.result c.from_residual.ensures.1 in
    rw (p.1, p.2) (took_none (table_rows mtype_table grammar.Mtype) (words Mtype) grammar.Mtype KINDS mtype_codes (words_some Mtype) _ c.args.r.now c.take_word.new.r c.in_err-index.ensures.index)

pub bounds-from : goal.bounds-from
bounds-from c = omega (arith, c.from.ensures, c.in_ok-index.ensures.inside, words_counted Mtype)

pub returns : goal.returns
returns c =
    rw c.from.ensures (took_word (table_rows mtype_table grammar.Mtype) (words Mtype) grammar.Mtype KINDS mtype_codes mtype_tails mtype_makes c.in_ok-index.index _ c.args.r.now c.take_word.new.r c.in_ok-index.ensures.index)
