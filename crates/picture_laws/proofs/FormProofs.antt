-- One picture for one text, and what is read of a strict text.
use Rattle.std.proofs.Common.{◌≡◌, List, [], sym, subst}
use Rattle.pel_model.specs.Spelling.{IsSpelling, strict_form}
use Rattle.pel_model.specs.Text.{text}
use Rattle.pel_model.specs.Walk.{start, after}
use Rattle.pel_model.specs.Grammar.{next}
use Rattle.pel_model.proofs.Walks.{one_reading}
use Rattle.picture_laws.specs.PictureElements.{elements_of_picture}
use Rattle.picture_laws.specs.TextLaws.{OnePicture, StrictIsOwn, StrictIsRead}
use Rattle.picture_laws.proofs.Answers.{one-spelling}
use Rattle.picture_laws.proofs.Limits.{goes-next, picture-stop}
use Rattle.picture_laws.proofs.Pictures.{spelled-read}
use Rattle.picture_laws.proofs.Strict.{strict-spelling}

pub one-picture : OnePicture
one-picture format p q valid valid' same =
    one-spelling format (text format p) p q (strict_form p, strict-spelling format p) valid
    (strict_form q, subst (λ t. IsSpelling format (strict_form q) t q) (sym same) (strict-spelling format q)) valid'

pub strict-own : StrictIsOwn
strict-own format p q valid accepted =
    one-spelling format (text format p) p q (strict_form p, strict-spelling format p) valid (accepted.0, accepted.1.spelling) accepted.1.valid

pub strict-read : StrictIsRead
strict-read format p es valid reads =
    let strict = spelled-read format (text format p) (strict_form p) p (strict-spelling format p) valid in
    one_reading (next format) (text format p) es (elements_of_picture format (strict_form p) p)
    (record { end = reads.end; walk = goes-next format [] (start (text format p)) es reads.end reads.walk; stop = picture-stop format (after [] es) reads.end reads.stop })
    (record { end = _; walk = strict.0; stop = strict.1 })
