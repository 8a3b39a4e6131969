use Rattle.std.proofs.Common.{◌+◌, arith, rules}
use Rattle.cif_pack.proofs.Frames.{IsBuilt, length-built, frame-built}
use Rattle.cif_pack.proofs.packer.write_frame.Goals as goal
use Rattle.cif_pack.proofs.packer.write_frame.Goals.{After-append_part}

built : (c : After-append_part)
    → IsBuilt c.args.settings.now c.args.stamp c.args.text.now.len c.args.start.now.at c.args.to (c.octets_between-len.result + 16) c.header.result c.args.start.now.context
    c.args.text.now.octets.now c.clear.new.self.items c.put_u16.new.buffer.items c.put_fixed.new.buffer.items c.put_u32.new.buffer.items c.append_part.new.buffer.items
built c = record {
  empty_is = c.clear.ensures.items;
  n_is = omega (arith, c.octets_between-len.ensures);
  one_is = c.put_u16.ensures.items;
  two_is = c.put_fixed.ensures.items;
  word_is = c.header.ensures;
  three_is = c.put_u32.ensures.items;
  four_is = c.append_part.ensures.octets;
}

pub returns-clause-octets : goal.returns-clause-octets
returns-clause-octets c =
    frame-built c.args.settings.now c.args.stamp c.args.text.now.len c.args.start.now.at c.args.to (c.octets_between-len.result + 16) c.header.result c.args.start.now.context
    c.args.text.now.octets.now c.clear.new.self.items c.put_u16.new.buffer.items c.put_fixed.new.buffer.items c.put_u32.new.buffer.items c.append_part.new.buffer.items
    c.requires.some c.requires.within c.requires.inside (search rules) (built c)

pub returns-clause-long : goal.returns-clause-long
returns-clause-long c =
    length-built c.args.settings.now c.args.stamp c.args.text.now.len c.args.start.now.at c.args.to (c.octets_between-len.result + 16) c.header.result c.args.start.now.context
    c.args.text.now.octets.now c.clear.new.self.items c.put_u16.new.buffer.items c.put_fixed.new.buffer.items c.put_u32.new.buffer.items c.append_part.new.buffer.items
    c.requires.some c.requires.within c.requires.inside (built c)
