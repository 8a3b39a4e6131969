-- The picture of the tick was sent behind those before it.
use Rattle.std.proofs.Common.{ℕ, sym, ap, subst, ◌∙◌}
use Rattle.cif_pack.specs.State.{PackerState, HasSent, HasSentNext}
use Rattle.cif_pack.proofs.ListLaws.{one-more-is-sent, may-go-on}
use Rattle.pel_model.specs.Written.{written_picture}
use Rattle.bridge_live.proofs.writer.PictureWriter.write.Goals as goal

pub returns : goal.returns
returns g c =
    let note = c.args.note.now in
    let before = g.K.Sink.tells c.args.sink.now in
    let after = g.K.Sink.tells c.pack.new.sink in
    let t = c.requires.took in
    record {
      usable = may-go-on c.pack.result c.show.new.into note.total c.self.inside.packer c.pack.new.self before after (written_picture t.0 t.1 note)
          (c.show.ensures.picture t.0 t.1 t.2) (ap (λ (p : PackerState). p.spent) c.self.view_is ∙ c.requires.usable) c.pack.ensures;
      few = c.pack.ensures.few;
      cause = c.pack.ensures.cause;
      sends = λ lanes H took set pictures former first h.
          let was = subst (λ (p : PackerState). HasSent set pictures p former first before) (sym c.self.view_is) h in
          subst (λ (n : ℕ). HasSentNext set pictures (n, written_picture lanes H note) c.pack.new.self former first after c.pack.result) took.legal.2.total
          (one-more-is-sent set pictures c.self.inside.packer c.pack.new.self former first before after note.total c.show.new.into (written_picture lanes H note) c.pack.result
          was (c.show.ensures.picture lanes H took) c.pack.ensures);
    }
