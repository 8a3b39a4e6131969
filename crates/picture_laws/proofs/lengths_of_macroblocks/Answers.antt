use Rattle.picture_laws.proofs.LongestMacroblocks.{macroblock_is_short, group_is_short}
use Rattle.picture_laws.proofs.lengths_of_macroblocks.Goals as goal

pub returns-clause-macroblocks : goal.returns-clause-macroblocks
returns-clause-macroblocks c = macroblock_is_short

pub returns-clause-groups : goal.returns-clause-groups
returns-clause-groups c = group_is_short
