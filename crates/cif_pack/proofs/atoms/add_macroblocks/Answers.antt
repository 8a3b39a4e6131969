use Rattle.std.proofs.Common.{◌≡◌, ◌+◌, ◌==◌, ◌++◌, ◌∷◌, [], List, length, take, get_or, refl, sym, ◌∙◌, ap, arith, append_assoc, length-append, length-take-le}
use Rattle.std.proofs.lemmas.List.{take_more, take_all}
use Rattle.cif_pack.specs.declared.atoms.AtomEnd.{AtomEnd}
use Rattle.cif_pack.specs.Marked.{mark_ends, header_end}
use Rattle.cif_pack.proofs.MarkEnds.{length-mark_ends, end_at, no_mark}
use Rattle.cif_pack.proofs.atoms.add_macroblocks.Goals as goal

pub push-requires : goal.push-requires
push-requires c =
    let marks = c.args.marks.now in
    let i = c.loop-i.i in
    let long : length c.loop-i.ends.items ≡ length c.args.ends.now.items + i =
    ap length c.loop-i.invariant ∙ length-append c.args.ends.now.items (take i (mark_ends marks))
    ∙ ap (λ n. length c.args.ends.now.items + n) (length-take-le i (mark_ends marks) (omega (arith, length-mark_ends marks))) in
    omega (arith, long, c.requires)

pub loop-i-preserved : goal.loop-i-preserved
loop-i-preserved c =
    let marks = c.args.marks.now in
    let i = c.loop-i.i in
    let old = c.args.ends.now.items in
    let more : take (i + 1) (mark_ends marks) ≡ take i (mark_ends marks) ++ get_or (mark_ends marks) i (header_end 0) ∷ [] =
    take_more (mark_ends marks) i (header_end 0) (omega (arith, length-mark_ends marks)) in
    let same : c.end_of.result ≡ get_or (mark_ends marks) i (header_end 0) =
    c.end_of.ensures ∙ sym (end_at marks i (header_end 0) no_mark (i + 1 == length marks) refl (omega arith)) in
    c.push.ensures.items
    ∙ ap (λ (t : List AtomEnd). t ++ c.end_of.result ∷ []) c.loop-i.invariant
    ∙ append_assoc old (take i (mark_ends marks)) (c.end_of.result ∷ [])
    ∙ ap (λ (t : List AtomEnd). old ++ t) (ap (λ (e : AtomEnd). take i (mark_ends marks) ++ e ∷ []) same ∙ sym more)

pub returns : goal.returns
returns c =
    let marks = c.args.marks.now in
    c.loop-i.invariant
    ∙ ap (λ (t : List AtomEnd). c.args.ends.now.items ++ t) (take_all c.loop-i.i (mark_ends marks) (omega (arith, length-mark_ends marks)))
