use Rattle.bridge_replay.proofs.ReadingBack.{packets-are-sent, packets-give-texts, each-packet-gives, octets-give-pictures, text-is-its-picture}
use Rattle.bridge_replay.proofs.laws.packets_are_read_back.Goals as goal

pub returns-clause-sent : goal.returns-clause-sent
returns-clause-sent c = packets-are-sent c.written_headers_are_read.ensures

pub returns-clause-given : goal.returns-clause-given
returns-clause-given c = packets-give-texts c.written_headers_are_read.ensures

pub returns-clause-one_by_one : goal.returns-clause-one_by_one
returns-clause-one_by_one c = each-packet-gives c.written_headers_are_read.ensures

pub returns-clause-pictures : goal.returns-clause-pictures
returns-clause-pictures c = octets-give-pictures c.written_headers_are_read.ensures c.one_stream.ensures

pub returns-clause-unit : goal.returns-clause-unit
returns-clause-unit c = text-is-its-picture
