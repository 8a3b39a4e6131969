use Rattle.std.proofs.Common.{◌%◌, arith}
use Rattle.std.proofs.lemmas.Nat.{mod_below}
use Rattle.pel_bits.proofs.RunBits.{put-word, run_fits}
use Rattle.pel_bits.proofs.octets.put.Goals as goal

pub overflow_add-run : goal.overflow_add-run
overflow_add-run c =
    omega (arith, run_fits c.kept_bits-kept.result (c.args.at % 8) c.args.value c.args.width (mod_below c.args.at 8 (omega arith)) c.requires.width c.kept_bits-kept.ensures.below c.requires.fits)

pub returns : goal.returns
returns c =
    put-word c.args.octets.now c.store.new.octets c.args.at c.kept_bits-kept.result c.args.value c.args.width c.requires.room c.requires.width c.requires.fits c.kept_bits-kept.ensures.below c.kept_bits-kept.ensures.kept c.store.ensures
