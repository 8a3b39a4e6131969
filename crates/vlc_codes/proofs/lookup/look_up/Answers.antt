use Rattle.std.proofs.Common.{◌∙◌, arith}
use Rattle.vlc_codes.specs.declared.lookup.Table.TheVariants.{Mba, Mtype, Mvd, Cbp, CoefFirst, Coef}
use Rattle.vlc_codes.proofs.Computed.{looked}
use Rattle.vlc_codes.proofs.lookup.look_up.Goals as goal

pub returns-in-Mba : goal.returns-in-Mba
returns-in-Mba c = rw c.in-Mba.is (c.cell_at.ensures ∙ looked Mba c.args.top (omega arith))

pub returns-in-Mtype : goal.returns-in-Mtype
returns-in-Mtype c = rw c.in-Mtype.is (c.cell_at-in-Mtype.ensures ∙ looked Mtype c.args.top (omega arith))

pub returns-in-Mvd : goal.returns-in-Mvd
returns-in-Mvd c = rw c.in-Mvd.is (c.cell_at-in-Mvd.ensures ∙ looked Mvd c.args.top (omega arith))

pub returns-in-Cbp : goal.returns-in-Cbp
returns-in-Cbp c = rw c.in-Cbp.is (c.cell_at-in-Cbp.ensures ∙ looked Cbp c.args.top (omega arith))

pub returns-in-CoefFirst : goal.returns-in-CoefFirst
returns-in-CoefFirst c = rw c.in-CoefFirst.is (c.cell_at-in-CoefFirst.ensures ∙ looked CoefFirst c.args.top (omega arith))

pub returns-in-Coef : goal.returns-in-Coef
returns-in-Coef c = rw c.in-Coef.is (c.cell_at-in-Coef.ensures ∙ looked Coef c.args.top (omega arith))
