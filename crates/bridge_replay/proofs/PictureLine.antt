-- What is told of a coded picture is what its picture has.
use Rattle.std.proofs.Common.{◌≡◌, ℕ, Bool, true, false, length, IsTrue, ◌↔◌, refl, sym, ◌∙◌, ap, ap₂}
use Rattle.bridge_replay.specs.Lines.{shown_line, line_of_event}
use Rattle.h261_pic.proofs.GroupMarks.{length-group_marks}
use Rattle.h261_pic.specs.Coded.{Coding, coding}
use Rattle.pel_model.specs.declared.Format.TheVariants.{Qcif}
use Rattle.pel_model.specs.Records.{Picture}
use Rattle.pel_model.specs.Refresh.{is_refresh, IsRefresh}
use Rattle.rtp_h261.specs.Events.{Shown}

same-test : (b c : Bool) → (IsTrue b ↔ (c ≡ true)) → b ≡ c
same-test true true e = refl
same-test true false e = sym (e.0 refl)
same-test false true e = e.1 refl
same-test false false e = refl

pub told-picture : (place lane serial : ℕ) (coded : Coding) (p : Picture) (refresh : Bool) (bits macroblocks : ℕ) → coded ≡ coding Qcif p
    → (IsTrue refresh ↔ IsRefresh Qcif p) → bits ≡ length coded.bits → macroblocks ≡ length coded.marks
    → shown_line place lane serial refresh bits macroblocks ≡ line_of_event place lane serial (Shown p)
told-picture place lane serial coded p refresh bits macroblocks is refreshes bits_is macroblocks_is =
    ap (λ (r : Bool). shown_line place lane serial r bits macroblocks) (same-test refresh (is_refresh Qcif p) refreshes)
    ∙ ap₂ (λ (b m : ℕ). shown_line place lane serial (is_refresh Qcif p) b m) (bits_is ∙ ap (λ (c : Coding). length c.bits) is)
    (macroblocks_is ∙ ap (λ (c : Coding). length c.marks) is ∙ length-group_marks 32 p.groups)
