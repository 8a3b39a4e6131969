use Rattle.picture_laws.proofs.Joins.{header-begins, group-left-out, group-sent, picture-told, picture-accepted}
use Rattle.picture_laws.proofs.picture_so_far.Goals as goal

pub returns : goal.returns
returns c = record { begins = header-begins; left_out = group-left-out; sent = group-sent; told = picture-told; accepted = picture-accepted }
