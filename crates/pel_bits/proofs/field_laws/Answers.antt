use Rattle.pel_bits.proofs.Fields.{number-field, field-number, number_below}
use Rattle.pel_bits.proofs.field_laws.Goals as goal

pub returns : goal.returns
returns c = record { spelled = number-field; again = field-number; below = number_below }
