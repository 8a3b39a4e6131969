use Rattle.std.proofs.Common.{◌≡◌, ◌≤◌, length, take, sym, ◌∙◌, ap, arith, length-take}
use Rattle.std.proofs.lemmas.List.{take-append-le}
use Rattle.pel_bits.specs.Bits as bits
use Rattle.pel_bits.specs.Reading.{zeros}
use Rattle.pel_bits.proofs.RunBits.{number-fits_in}
use Rattle.vlc_codes.proofs.CoefficientLaws.{same_number}
use Rattle.h261_pic.proofs.input_headers.look.Goals as goal

pub returns-clause-value : goal.returns-clause-value
returns-clause-value c =
    let width = c.args.width in
    let left = c.args.r.now.0 in
    let fits : width ≤ length left = omega arith in
    let is : c.peek.result ≡ bits.number (take width left) = c.peek.ensures ∙ ap bits.number (take-append-le width left (zeros width) fits) in
    let short : length (take width left) ≤ width = omega (arith, length-take width left) in
    (fits, is ∙ sym (same_number (take width left)), omega (arith, is, number-fits_in (take width left) width short))
