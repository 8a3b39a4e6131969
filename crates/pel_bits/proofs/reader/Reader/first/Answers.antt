use Rattle.std.proofs.Common.{ℕ, Bool, List, take, drop, ◌∙◌, ap}
use Rattle.std.proofs.lemmas.List.{drop-take}
use Rattle.pel_bits.proofs.reader.Reader.first.Goals as goal

pub returns : goal.returns
returns c =
    let place = c.self.inside.place in
    let count = c.args.count in
    ap (λ (bs : List Bool). (drop place bs, place)) c.slice.ensures.value
    ∙ (ap (λ (bs : List Bool). (bs, place)) (drop-take place count c.self.inside.bits)
    ∙ ap (λ (r : List Bool × ℕ). (take count r.0, r.1)) c.self.view_is)
