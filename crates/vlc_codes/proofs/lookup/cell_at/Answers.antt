use Rattle.std.proofs.Common.{arith, refl}
use Rattle.vlc_codes.proofs.CellLaws.{six_bits}
use Rattle.vlc_codes.proofs.lookup.cell_at.Goals as goal

pub overflow_add-index : goal.overflow_add-index
overflow_add-index c = omega (arith, six_bits c.args.top _ (omega arith) refl c.if-zeros-gt9.false)

pub overflow_sub-index : goal.overflow_sub-index
overflow_sub-index c = omega (arith, six_bits c.args.top _ (omega arith) refl c.if-zeros-gt9.false)

pub bounds-cells-index : goal.bounds-cells-index
bounds-cells-index c = omega (arith, six_bits c.args.top _ (omega arith) refl c.if-zeros-gt9.false)

pub bounds-cells-index-2 : goal.bounds-cells-index-2
bounds-cells-index-2 c = omega (arith, six_bits c.args.top _ (omega arith) refl c.if-zeros-gt9.false)
