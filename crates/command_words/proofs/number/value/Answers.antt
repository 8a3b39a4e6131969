use Rattle.std.proofs.Common.{◌≡◌, ◌∙◌, codes}
use Rattle.std.specs.Prelude.{option_map}
use Rattle.std.specs.Str.Parse.{ParsesUnsigned, ExplainsUnsignedError, HasUnsignedDigitsIfOk, digits_value}
use Rattle.clap.specs.Words.{one_of, rows_of, found_of}
use Rattle.clap.proofs.WalkLemmas.{one_text-rows}
use Rattle.command_words.proofs.Digits.{reads_number, is_read}
use Rattle.command_words.proofs.number.value.Goals as goal

pub unreachable-requires : goal.unreachable-requires
unreachable-requires c =
    let f = found_of c.args.matches.now in
    let text = one_of (codes "value") (rows_of f) in
    let read : option_map (digits_value 10) text ≡ c.get_one.result =
    reads_number _ (λ bs r. ParsesUnsigned 64 10 bs r × ExplainsUnsignedError 10 bs r × HasUnsignedDigitsIfOk bs r)
    text c.get_one.result c.requires (λ t x g. g.0) (λ t e. c.get_one.ensures.value t (one_text-rows f (codes "value") ∙ e)) in
    is_read text c.requires (read ∙ c.in-None.is)

pub returns : goal.returns
returns c =
    let f = found_of c.args.matches.now in
    let text = one_of (codes "value") (rows_of f) in
    let read : option_map (digits_value 10) text ≡ c.get_one.result =
    reads_number _ (λ bs r. ParsesUnsigned 64 10 bs r × ExplainsUnsignedError 10 bs r × HasUnsignedDigitsIfOk bs r)
    text c.get_one.result c.requires (λ t x g. g.0) (λ t e. c.get_one.ensures.value t (one_text-rows f (codes "value") ∙ e)) in
    read ∙ c.in-Some.is
