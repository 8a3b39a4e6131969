-- The octets of the number have its bits.
use Rattle.std.proofs.Common.{◌++◌, ℕ, List, ap, ◌∙◌, append-nil}
use Rattle.byteorder.specs.Endian.{big_bytes}
use Rattle.pel_bits.specs.Bits.{bits}
use Rattle.rtp_h261.proofs.HeaderLemmas.{word_bits, none_behind}
use Rattle.rtp_h261.proofs.payload.write_word.Goals as goal

pub returns : goal.returns
returns c =
    ap bits (c.write_u32.ensures ∙ ap (λ (xs : List ℕ). big_bytes 4 c.args.word ++ xs) (none_behind 4 c.args.out.now c.requires)
    ∙ append-nil (big_bytes 4 c.args.word)) ∙ word_bits c.args.word
