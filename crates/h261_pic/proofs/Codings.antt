-- What the coding of a picture tells of the picture.
use Rattle.std.proofs.Common.{◌≡◌, ℕ, ◌+◌, ◌-◌, ◌*◌, ◌<◌, ◌≤◌, Bool, List, [], ◌∷◌, length, map, flat_map, sym, ◌∙◌, ap, subst, append-nil, arith}
use Rattle.std.proofs.Math.Logic.{∥∥₁_map}
use Rattle.pel_model.specs.declared.Format.{Format}
use Rattle.pel_model.specs.Records.{Group, Picture}
use Rattle.pel_model.specs.Valid.{IsValid, group_count, limit}
use Rattle.picture_laws.proofs.FormProofs.{one-picture}
use Rattle.h261_pic.specs.Coded.{Coding, coding, HasPicture, IsFinished, IsWhole}
use Rattle.h261_pic.specs.Laws.{EqualCodings, FinishedCodings}
use Rattle.h261_pic.proofs.Texts.{length-views, length-text}

pub equal-codings : EqualCodings
equal-codings format p q valid valid' same = one-picture format p q valid valid' (ap (λ (c : Coding). c.bits) same)

pub finished-codings : FinishedCodings
finished-codings format p valid = (omega (arith, length-text format p), length-views 32 0 p.groups ∙ valid.whole)

-- a finished coding is that of a valid picture
pub whole : (c : Coding) → (0 < length c.bits → HasPicture c) → IsFinished c → IsWhole c
whole c has finished =
    ∥∥₁_map (has finished.0) (λ h. (
      h.0,
      h.1,
      record { so_far = h.2; whole = sym (length-views 32 0 h.0.groups) ∙ (sym (ap (λ (k : Coding). length k.groups) h.1) ∙ finished.1) },
    ))
