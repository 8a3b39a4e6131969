use Rattle.std.proofs.Common.{refl}
use Rattle.ref_decode.proofs.sides.sample_count.Goals as goal

pub returns-in-Qcif : goal.returns-in-Qcif
returns-in-Qcif c = rw c.in-Qcif.is refl

pub returns-in-Cif : goal.returns-in-Cif
returns-in-Cif c = rw c.in-Cif.is refl
