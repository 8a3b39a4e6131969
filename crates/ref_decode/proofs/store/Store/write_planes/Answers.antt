use Rattle.std.proofs.Common.{◌≡◌, ℕ, List, length, sym, ◌∙◌, ap, subst}
use Rattle.io_edge.specs.Whole.{PutsAll}
use Rattle.ref_decode.specs.Shown.{Shown, frame_of, planes_of, sample_count}
use Rattle.ref_decode.proofs.Planed.{planes_are}
use Rattle.ref_decode.proofs.store.Store.write_planes.Goals as goal

pub returns : goal.returns
returns g c =
    let shown = c.self.inside in
    let long : length shown.shown.items ≡ sample_count shown.format = ap length (sym c.as_slice.ensures.value) ∙ (c.as_slice.ensures.len ∙ c.self.invariant.0) in
    let is : planes_of c.args.self.now.format (frame_of c.args.self.now) ≡ c.as_slice.result.now =
    ap (λ (s : Shown). planes_of s.format (frame_of s)) (sym c.self.view_is) ∙ (planes_are shown.format shown.shown.items long ∙ sym c.as_slice.ensures.value) in
    subst (λ (xs : List ℕ). PutsAll (g.K.Sink.tells c.args.sink.now) (g.K.Sink.tells c.put_all.new.sink) xs c.put_all.result) (sym is) c.put_all.ensures
