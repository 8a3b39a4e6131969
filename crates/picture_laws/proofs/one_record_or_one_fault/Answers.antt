use Rattle.picture_laws.proofs.Answers.{record-or-fault, never-both, one-spelling, one-record, one-fault}
use Rattle.picture_laws.proofs.one_record_or_one_fault.Goals as goal

pub returns : goal.returns
returns c = record { either = record-or-fault; never_both = never-both; one_spelling = one-spelling; one_record = one-record; one_fault = one-fault }
