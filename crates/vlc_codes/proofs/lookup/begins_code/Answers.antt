use Rattle.vlc_codes.proofs.WordLaws.{front-of-code, no_front-of-code}
use Rattle.vlc_codes.proofs.lookup.begins_code.Goals as goal

pub returns-then-len-width : goal.returns-then-len-width
returns-then-len-width c =
    rw c.min.ensures (front-of-code c.args.bits c.args.width c.args.front c.args.len c.requires.short c.requires.fits c.requires.word c.if-len-width.true)

pub returns-else-len-width : goal.returns-else-len-width
returns-else-len-width c = no_front-of-code c.args.bits c.args.width c.args.front c.args.len c.if-len-width.false
