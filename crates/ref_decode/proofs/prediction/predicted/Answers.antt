use Rattle.std.proofs.Common.{◌+◌, ◌*◌, ◌∙◌}
use Rattle.std.specs.Prelude.{slice_index}
use Rattle.ref_decode.specs.Blocks.{block_at}
use Rattle.ref_decode.proofs.Filters.{filtered_same}
use Rattle.ref_decode.proofs.prediction.predicted.Goals as goal

pub returns-then-filter : goal.returns-then-filter
returns-then-filter c = λ x y hx hy.
    rw c.if-filter.true
    (c.smoothed.ensures x y hx hy
    ∙ filtered_same (λ a b. block_at c.copied-block.result a b) (λ a b. slice_index c.args.samples.now (c.args.from + c.args.width * b + a)) x y hx hy c.copied-block.ensures)
