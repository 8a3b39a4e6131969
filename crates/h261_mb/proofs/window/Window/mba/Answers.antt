use Rattle.pel_model.specs.Grammar.{mba_rows}
use Rattle.vlc_codes.specs.Lookup.{words}
use Rattle.vlc_codes.specs.Rows.{mba_element}
use Rattle.vlc_codes.specs.declared.lookup.Table.TheVariants.{Mba}
use Rattle.vlc_codes.specs.declared.readers.MbaRow.TheVariants.{Stuffing}
use Rattle.vlc_codes.proofs.Computed.{mba_codes, mba_tails, mba_makes, mba_meanings, mba_step}
use Rattle.vlc_codes.proofs.WordLaws.{took_word}
use Rattle.h261_mb.proofs.window.Window.mba.Goals as goal

pub returns-then-index-lt33 : goal.returns-then-index-lt33
returns-then-index-lt33 c =
    let took = took_word mba_rows (words Mba) mba_element mba_meanings mba_codes mba_tails mba_makes c.in_ok-index.index Stuffing c.args.self.now c.take_word.new.self c.in_ok-index.ensures.index in
    rw (mba_step c.in_ok-index.index Stuffing c.if-index-lt33.true) at took
