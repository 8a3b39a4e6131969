use Rattle.std.proofs.Common.{◌≡◌, ◌≤◌, take, vec_capacity}
use Rattle.pel_bits.specs.Bits.{bits}
use Rattle.cif_pack.proofs.Sends.{Stands}
use Rattle.cif_pack.proofs.packer.put_packets.Given as goal

abbrev pub invariant-loop-i : goal.invariant-loop-i
invariant-loop-i g l = record {
  stands : Stands l.settings l.stamp l.text.len (take l.text.len (bits l.text.octets.now)) l.ends l.i l.start l.sent (g.K.Sink.tells l.fn.sink).written (g.K.Sink.tells l.sink).written;
  kept : (g.K.Sink.tells l.sink).faults ≡ (g.K.Sink.tells l.fn.sink).faults;
  capacity : vec_capacity l.fn.buffer ≤ vec_capacity l.buffer;
}
