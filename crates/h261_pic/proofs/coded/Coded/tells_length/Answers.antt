use Rattle.std.proofs.Common.{◌<◌, length, subst}
use Rattle.h261_pic.specs.Coded.{Coding, HasPicture}
use Rattle.h261_pic.proofs.Codings.{whole}
use Rattle.h261_pic.proofs.coded.Coded.tells_length.Goals as goal

pub returns-clause-picture : goal.returns-clause-picture
returns-clause-picture c =
    subst (λ (k : Coding). 0 < length k.bits → HasPicture k) c.self.view_is c.self.invariant.picture

pub returns-clause-whole : goal.returns-clause-whole
returns-clause-whole c = whole c.args.self.now (returns-clause-picture c)
