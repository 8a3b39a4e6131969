-- The first octet was taken, and then what stands behind it.
use Rattle.conf_file.proofs.EntryLemmas.{behind_kind}
use Rattle.conf_file.proofs.entries.read_entry.Goals as goal

pub returns-in-80 : goal.returns-in-80
returns-in-80 g c =
    record {
      fits = c.read_packet.ensures.fits;
      takes = behind_kind c.in_ok-kind.kind _ c.args.lanes _ _ _ _ _ _ _ _ c.taken-place.ensures c.in-80.is c.in_ok-kind.ensures.0 c.in_ok-kind.ensures.1 c.read_packet.ensures.takes;
    }

pub returns-in-67 : goal.returns-in-67
returns-in-67 g c =
    let found = c.read_order.ensures c.args.lanes in
    record {
      fits = found.fits;
      takes = behind_kind c.in_ok-kind.kind _ c.args.lanes _ _ _ _ _ _ _ _ c.taken-place.ensures c.in-67.is c.in_ok-kind.ensures.0 c.in_ok-kind.ensures.1 found.takes;
    }

pub returns-in-84 : goal.returns-in-84
returns-in-84 g c =
    let found = c.read_step.ensures c.args.lanes c.args.packet.now in
    record {
      fits = found.fits;
      takes = behind_kind c.in_ok-kind.kind _ c.args.lanes _ _ _ _ _ _ _ _ c.taken-place.ensures c.in-84.is c.in_ok-kind.ensures.0 c.in_ok-kind.ensures.1 found.takes;
    }
