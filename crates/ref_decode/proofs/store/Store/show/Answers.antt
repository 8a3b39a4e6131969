use Rattle.std.proofs.Common.{◌≡◌, List, ℕ, Result, Ok, Err, length, drop, sym, ◌∙◌, ap, subst}
use Rattle.std.specs.Vec.{with_items}
use Rattle.std.proofs.lemmas.List.{take_at}
use Rattle.pel_model.specs.declared.Fault.{Fault}
use Rattle.pel_model.specs.declared.Format.{Format}
use Rattle.pel_model.specs.Decode.{decode}
use Rattle.pel_model.specs.Records.{Picture}
use Rattle.pel_model.specs.Transform.{fixed}
use Rattle.pel_model.specs.Valid.{IsValid}
use Rattle.h261_pic.specs.Coded.{coding}
use Rattle.ref_decode.specs.Drawing.{GroupsDrawn, IsPictureDone, frame_in}
use Rattle.ref_decode.specs.Shown.{Shown, frame_of}
use Rattle.ref_decode.proofs.Planed.{frame_is}
use Rattle.ref_decode.proofs.store.Store.show.Goals as goal

drawn_of : (format : Format) (p : Picture) (shown old new : List ℕ) (r : Result Unit Fault) → IsPictureDone format p shown old new r → GroupsDrawn format p.groups shown old new
drawn_of format p shown old new (Ok x) h = h
drawn_of format p shown old new (Err e) h = absurd h

pub returns-clause-decoded : goal.returns-clause-decoded
returns-clause-decoded c = λ p valid is.
    let same : c.self.inside.format ≡ c.args.self.now.format = ap (λ (s : Shown). s.format) c.self.view_is in
    let long : length c.copy_from_slice.new.self ≡ c.self.inside.next.len = ap length c.copy_from_slice.ensures.after ∙ (c.as_slice.ensures.len ∙ (c.self.invariant.0 ∙ sym c.self.invariant.1)) in
    let long_new : length c.draw_picture.new.next ≡ c.self.inside.next.len = c.draw_picture.ensures.long ∙ sym c.self.invariant.1 in
    let before : c.as_mut_slice-2.result.now ≡ c.as_slice-shown.result.now =
    c.as_mut_slice-2.ensures.value
    ∙ (take_at c.copy_from_slice.new.self (drop (length c.copy_from_slice.new.self) c.self.inside.next.items) c.self.inside.next.len long
    ∙ (c.copy_from_slice.ensures.after ∙ (c.as_slice.ensures.value ∙ sym c.as_slice-shown.ensures.value))) in
    let done = drawn_of c.self.inside.format p c.as_slice-shown.result.now c.as_mut_slice-2.result.now c.draw_picture.new.next c.draw_picture.result
    (c.draw_picture.ensures.drawn p (subst (λ f. IsValid f p) (sym same) valid) (subst (λ f. c.args.picture.now ≡ coding f p) (sym same) is)) in
    let drawn = subst (λ old. GroupsDrawn c.self.inside.format p.groups c.as_slice-shown.result.now old c.draw_picture.new.next) before done in
    rw c.swap.ensures.x_after
    (ap (frame_in c.self.inside.format) (take_at c.draw_picture.new.next (drop (length c.draw_picture.new.next) (with_items c.self.inside.next c.copy_from_slice.new.self).items) c.self.inside.next.len long_new)
    ∙ (frame_is c.self.inside.format p c.as_slice-shown.result.now c.draw_picture.new.next drawn
    ∙ (ap (λ xs. decode c.self.inside.format fixed (frame_in c.self.inside.format xs) p) c.as_slice-shown.ensures.value
    ∙ ap (λ (s : Shown). decode s.format fixed (frame_of s) p) c.self.view_is)))
