use Rattle.std.proofs.Common.{◌≡◌, arith}
use Rattle.std.proofs.lemmas.Result.{err_from_is_err_and}
use Rattle.pel_model.specs.Grammar.{mba_rows}
use Rattle.vlc_codes.specs.Lookup.{words}
use Rattle.vlc_codes.specs.Rows.{mba_element}
use Rattle.vlc_codes.specs.declared.lookup.Table.TheVariants.{Mba}
use Rattle.vlc_codes.specs.declared.readers.MbaRow.TheVariants.{Stuffing}
use Rattle.vlc_codes.proofs.Computed.{mba_codes, mba_tails, mba_makes, mba_meanings, mba_step, mba_stuffing, words_some, words_counted}
use Rattle.vlc_codes.proofs.WordLaws.{took_word, took_none}
use Rattle.vlc_codes.proofs.readers.mba.Goals as goal

pub returns-in_err-index : goal.returns-in_err-index
returns-in_err-index c =
    let p = err_from_is_err_and c.from_residual.result c.from_residual.ensures.1 in
    rw (p.1, p.2) (took_none mba_rows (words Mba) mba_element mba_meanings mba_codes (words_some Mba) _ c.args.r.now c.take_word.new.r c.in_err-index.ensures.index)

pub returns-then-index-lt33 : goal.returns-then-index-lt33
returns-then-index-lt33 c =
    let took = took_word mba_rows (words Mba) mba_element mba_meanings mba_codes mba_tails mba_makes c.in_ok-index.index Stuffing c.args.r.now c.take_word.new.r c.in_ok-index.ensures.index in
    rw (mba_step c.in_ok-index.index Stuffing c.if-index-lt33.true) at took

pub returns-else-index-lt33 : goal.returns-else-index-lt33
returns-else-index-lt33 c =
    let took = took_word mba_rows (words Mba) mba_element mba_meanings mba_codes mba_tails mba_makes c.in_ok-index.index Stuffing c.args.r.now c.take_word.new.r c.in_ok-index.ensures.index in
    let last : c.in_ok-index.index ≡ 33 = omega (arith, c.in_ok-index.ensures.inside, words_counted Mba) in
    rw (mba_stuffing c.in_ok-index.index Stuffing last) at took
