use Rattle.std.proofs.Common.{◌≡◌, length, arith}
use Rattle.pel_bits.proofs.OctetBits.{length-part}
use Rattle.pel_bits.proofs.slice.Bits.copy_to.Goals as goal

pub copy_run-requires-clause-room : goal.copy_run-requires-clause-room
copy_run-requires-clause-room c =
    let b = c.self.inside in
    let len : length c.args.self.now ≡ b.len = rw (← c.self.view_is) (length-part b.octets.now b.from b.len c.self.invariant.0) in
    omega (arith, c.requires.room)

pub returns : goal.returns
returns c =
    let b = c.self.inside in
    let len = length-part b.octets.now b.from b.len c.self.invariant.0 in
    rw (← c.self.view_is, len) c.copy_run.ensures
