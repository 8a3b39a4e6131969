-- Worked values: bits as octets, and a stream of two small pictures as an independent model writes it.
use Rattle.std.proofs.Common.{◌≡◌, ℕ, true, false, [], ◌∷◌, ◌++◌, replicate, refl}
use Rattle.bare_stream.specs.Packed.{octets_spelled, left_over}
use Rattle.bare_stream.specs.Streams.{StartsAt, bare}
use Rattle.pel_bits.specs.Buffer.{filled_up}
use Rattle.pel_bits.specs.Bits.{number}
use Rattle.pel_model.specs.declared.Format.TheVariants.{Qcif}
use Rattle.pel_model.specs.Bits.{field}
use Rattle.pel_model.specs.Headers.{picture_header_text, group_header_text}
use Rattle.pel_model.specs.Text.{macroblocks_text}
use Rattle.pel_model.specs.Codes.{picture_start_code}
use Rattle.pel_model.specs.Records.{Group, Picture}

-- ---- octets

no-bits : octets_spelled (filled_up []) ≡ []
unfolding octets_spelled
no-bits = refl

one-bit : octets_spelled (filled_up (true ∷ [])) ≡ 128 ∷ []
unfolding octets_spelled number
one-bit = refl

nine-bits : octets_spelled (filled_up (replicate 9 true)) ≡ 255 ∷ 128 ∷ []
unfolding octets_spelled number
nine-bits = refl

-- bits behind the last whole octet spell none, and are left over
eleven-bits : octets_spelled (replicate 8 true ++ (false ∷ true ∷ false ∷ [])) ≡ 255 ∷ []
unfolding octets_spelled number
eleven-bits = refl

three-left : left_over (replicate 8 true ++ (false ∷ true ∷ false ∷ [])) ≡ false ∷ true ∷ false ∷ []
unfolding left_over
three-left = refl

-- ---- PSC

starts-third : StartsAt 3 (true ∷ true ∷ true ∷ picture_start_code)
starts-third = refl

-- ---- two pictures

abbrev empty-group : (number : ℕ) → Group
empty-group number = record { number = number; quant = 8; macroblocks = [] }

abbrev empty-picture : (tr : ℕ) → Picture
empty-picture tr = record { tr = tr; groups = empty-group 1 ∷ empty-group 3 ∷ empty-group 5 ∷ [] }

both : bare Qcif (empty-picture 1 ∷ empty-picture 2 ∷ [])
    ≡ 0 ∷ 1 ∷ 0 ∷ 134 ∷ 0 ∷ 1 ∷ 20 ∷ 0 ∷ 0 ∷ 77 ∷ 0 ∷ 0 ∷ 21 ∷ 64 ∷ 0 ∷ 4 ∷ 4 ∷ 24 ∷ 0 ∷ 4 ∷ 80 ∷ 0 ∷ 1 ∷ 52 ∷ 0 ∷ 0 ∷ 85 ∷ 0 ∷ []
unfolding octets_spelled number field picture_header_text group_header_text macroblocks_text
both = refl

no-pictures : bare Qcif [] ≡ []
unfolding octets_spelled
no-pictures = refl
