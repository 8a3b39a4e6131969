use Rattle.pel_bits.proofs.RunBits.{copied-word}
use Rattle.pel_bits.proofs.octets.copy_word.Goals as goal

pub returns : goal.returns
returns c =
    copied-word c.args.octets.now c.store.new.octets c.args.source.now c.args.at c.args.from c.long_word_at-word.result c.requires.whole c.requires.room c.requires.inside c.long_word_at-word.ensures c.store.ensures
