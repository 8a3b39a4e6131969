use Rattle.picture_laws.proofs.Joins.{group-begins, stuffing-joins, macroblock-joins, inside-stands}
use Rattle.picture_laws.proofs.group_so_far.Goals as goal

pub returns : goal.returns
returns c = record { begins = group-begins; stuffing = stuffing-joins; macroblock = macroblock-joins; inside = inside-stands }
