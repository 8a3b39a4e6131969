use Rattle.cif_pack.proofs.AtomsRise.{atoms-rise}
use Rattle.cif_pack.proofs.CutLaws.{cuts-are-furthest, only-cuts}
use Rattle.cif_pack.specs.Atoms.{atom_ends}
use Rattle.cif_pack.specs.Cuts.{cuts}
use Rattle.pel_model.specs.declared.Format.TheVariants.{Cif}
use Rattle.pel_model.specs.Text.{text}
use Rattle.std.proofs.Common.{length}
use Rattle.cif_pack.proofs.laws.cuts_are_the_furthest.Goals as goal

pub returns-clause-furthest : goal.returns-clause-furthest
returns-clause-furthest c = cuts-are-furthest

pub returns-clause-only : goal.returns-clause-only
returns-clause-only c mtu p ends least valid are =
    only-cuts mtu (length (text Cif p)) 0 (atom_ends p) ends (cuts mtu 0 (atom_ends p)) (atoms-rise mtu p least valid) are (cuts-are-furthest mtu p least valid)
