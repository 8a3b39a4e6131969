-- A picture's marks are those of its macroblocks.
use Rattle.std.proofs.Common.{◌≡◌, IsTrue, ◌↔◌, length, ◌∙◌, sym, ap, subst}
use Rattle.bridge_replay.proofs.PictureLine.{told-picture}
use Rattle.h261_pic.specs.Coded.{Coding, coding}
use Rattle.pel_model.specs.declared.Format.{Format}
use Rattle.pel_model.specs.declared.Format.TheVariants.{Qcif}
use Rattle.pel_model.specs.Refresh.{IsRefresh}
use Rattle.bridge_replay.proofs.lines.picture_line.Goals as goal

pub returns : goal.returns
returns c p is =
    let format : c.args.picture.now.format ≡ Qcif = ap (λ (k : Coding). k.format) is in
    let own : c.args.picture.now ≡ coding c.args.picture.now.format p = subst (λ (f : Format). c.args.picture.now ≡ coding f p) (sym format) is in
    c.shown_line.ensures
    ∙ told-picture c.args.place c.args.lane c.args.serial c.args.picture.now p _ _ _ is
    (subst (λ (f : Format). IsTrue c.is_refresh.result ↔ IsRefresh f p) format (c.is_refresh.ensures.refresh p own))
    (c.len.ensures ∙ ap length c.bits.ensures.bits) (ap length c.marks.ensures)
