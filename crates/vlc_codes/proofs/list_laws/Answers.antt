use Rattle.std.proofs.Common.{refl}
use Rattle.vlc_codes.proofs.Computed.{words_free, slots_free}
use Rattle.vlc_codes.proofs.CoefficientLaws.{same_bits, same_field, same_number}
use Rattle.pel_model.specs.Grammar.{rows}
use Rattle.vlc_codes.proofs.FoundRows.{whole-free, read-inside, read-more}
use Rattle.vlc_codes.proofs.list_laws.Goals as goal

pub returns : goal.returns
returns c = record {
  free = words_free;
  slots = slots_free;
  whole_words = λ slot. whole-free (rows slot) (slots_free slot);
  within = λ slot bits e n. read-inside (rows slot) bits e n;
  followed = λ slot bits more e n. read-more (rows slot) bits more e n (slots_free slot);
  fields = same_field;
  numbers = same_number;
  octets = same_bits;
  positions = λ n r. refl;
}
