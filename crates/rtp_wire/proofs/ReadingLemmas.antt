-- What octets read as, by the conditions that they meet.
use Rattle.std.proofs.Common.{◌≡◌, ℕ, ◌==◌, nat_lt, true, false, List, length, None, Ok, refl, sym, ap, ◌∙◌}
use Rattle.rtp_wire.specs.Rtp.{Fields, version, sources_end, extension_is_cut, is_bad_padding, has_padding, body, unpadded, refusal, fields_of, read_unless, packet_of}

-- octets that meet no condition of refusal read as the fields of their header, with what stands behind the headers
-- without the padding
pub read_whole : (octets behind payload : List ℕ) (f : Fields) → nat_lt (length octets) 12 ≡ false → (version octets == 2) ≡ true
    → nat_lt (length octets) (sources_end octets) ≡ false → extension_is_cut octets ≡ false → behind ≡ body octets
    → is_bad_padding (has_padding octets) behind ≡ false → payload ≡ unpadded (has_padding octets) behind
    → f ≡ record (fields_of octets) { payload = payload } → packet_of octets ≡ Ok f
unfolding packet_of refusal fields_of
read_whole octets behind payload f long second sources extension rest padding inside same =
    let fits : is_bad_padding (has_padding octets) (body octets) ≡ false = rw (← rest) padding in
    let none : refusal octets ≡ None = rw (long, second, sources, extension, fits) refl in
    let content : payload ≡ unpadded (has_padding octets) (body octets) = inside ∙ ap (unpadded (has_padding octets)) rest in
    let all : f ≡ fields_of octets = same ∙ ap (λ p. record (fields_of octets) { payload = p }) content in
    ap (λ r. read_unless r (fields_of octets)) none ∙ ap (λ (g : Fields). Ok g) (sym all)
