use Rattle.std.proofs.Common.{Bool, sym, subst}
use Rattle.h261_block.specs.Steps.{IsCellOf}
use Rattle.h261_block.proofs.OctetCells.{inter-cell, intra-cell}
use Rattle.h261_block.proofs.octets.cell_at.Goals as goal

pub returns-then-intra : goal.returns-then-intra
returns-then-intra c =
    subst (λ (b : Bool). IsCellOf b c.args.state c.args.octet c.stored_cell.result) (sym c.if-intra.true)
    (intra-cell c.args.state c.from.result c.args.octet c.stored_cell.result c.from.ensures c.requires.0 c.requires.1 c.stored_cell.ensures)

pub returns-else-intra : goal.returns-else-intra
returns-else-intra c =
    subst (λ (b : Bool). IsCellOf b c.args.state c.args.octet c.stored_cell-else-intra.result) (sym c.if-intra.false)
    (inter-cell c.args.state c.from.result c.args.octet c.stored_cell-else-intra.result c.from.ensures c.requires.0 c.requires.1 c.stored_cell-else-intra.ensures)
