-- Bits are one picture or have one first fault.
use Rattle.rtp_h261.proofs.EventLemmas as telling
use Rattle.rtp_h261.proofs.laws.one_telling.Goals as goal

pub returns : goal.returns
returns c =
    telling.one_telling c.one_record_or_one_fault.ensures.one_record c.one_record_or_one_fault.ensures.one_fault c.one_record_or_one_fault.ensures.never_both
