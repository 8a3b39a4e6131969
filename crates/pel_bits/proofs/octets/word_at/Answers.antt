use Rattle.pel_bits.proofs.RunBits.{run-in-word}
use Rattle.pel_bits.proofs.octets.word_at.Goals as goal

pub returns : goal.returns
returns c =
    run-in-word c.args.octets.now c.args.from c.args.width c.load-word.result c.requires.inside c.requires.width c.load-word.ensures
