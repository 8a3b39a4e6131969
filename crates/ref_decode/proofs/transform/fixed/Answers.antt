use Rattle.std.proofs.Common.{refl}
use Rattle.pel_model.specs.Transform.{kernel_rows}
use Rattle.ref_decode.specs.Passes.{by_rows, by_columns}
use Rattle.ref_decode.proofs.transform.fixed.Goals as goal

pub in_two_passes-requires-clause-rows : goal.in_two_passes-requires-clause-rows
unfolding by_rows kernel_rows
in_two_passes-requires-clause-rows c = refl

pub in_two_passes-requires-clause-columns : goal.in_two_passes-requires-clause-columns
unfolding by_columns kernel_rows
in_two_passes-requires-clause-columns c = refl
