use Rattle.std.proofs.Common.{arith, ◌∙◌, ap, ◌≡◌, ◌++◌, ◌-◌, ◌+◌, ◌/◌, [], ◌∷◌, List, ℕ, append_assoc, take, drop, slice_index, subst}
use Rattle.pel_bits.specs.Bits.{field}
use Rattle.pel_bits.specs.Reading.{zeros}
use Rattle.cif_pack.proofs.Parts.{several-octets, single-octet}
use Rattle.cif_pack.proofs.payload.append_part.Goals as goal

pub returns-then-first-last-clause-octets : goal.returns-then-first-last-clause-octets
returns-then-first-last-clause-octets c =
    let octets = c.args.octets.now in
    let from = c.args.from in
    let to = c.args.to in
    c.push.ensures.items
    ∙ ap (λ (t : List ℕ). c.args.buffer.now.items ++ t)
    (single-octet octets from to c.without_back.result c.requires.some c.requires.inside c.if-first-last.true c.without_back.type_inv
    (field c.without_front-head.result 8)
    (subst (λ (k : ℕ). field c.without_front-head.result 8 ≡ zeros k ++ drop k (field (slice_index octets (from / 8)) 8)) c.sbit.ensures c.without_front-head.ensures)
    (subst (λ (k : ℕ). field c.without_back.result 8 ≡ take (8 - k) (field c.without_front-head.result 8) ++ zeros k) c.ebit.ensures c.without_back.ensures))

pub returns-else-first-last-clause-octets : goal.returns-else-first-last-clause-octets
returns-else-first-last-clause-octets c =
    let octets = c.args.octets.now in
    let from = c.args.from in
    let to = c.args.to in
    let old = c.args.buffer.now.items in
    let x = c.without_front-head.result in
    let y = c.without_back-else-first-last.result in
    let middle = take ((to - 1) / 8 - (from / 8 + 1)) (drop (from / 8 + 1) octets) in
    let pieces : c.push-else-first-last-2.new.buffer.items ≡ old ++ (x ∷ (middle ++ y ∷ [])) =
    c.push-else-first-last-2.ensures.items
    ∙ ap (λ (t : List ℕ). t ++ y ∷ []) (c.extend.ensures.items ∙ ap (λ (t : List ℕ). t ++ middle) c.push-else-first-last.ensures.items ∙ append_assoc old (x ∷ []) middle)
    ∙ append_assoc old (x ∷ middle) (y ∷ []) in
    pieces
    ∙ ap (λ (t : List ℕ). old ++ t)
    (several-octets octets from to x y c.requires.some c.requires.inside (omega (arith, c.if-first-last.false, c.requires.some))
    c.without_front-head.type_inv c.without_back-else-first-last.type_inv (λ i. omega (arith, c.type_inv.octets i))
    (subst (λ (k : ℕ). field x 8 ≡ zeros k ++ drop k (field (slice_index octets (from / 8)) 8)) c.sbit.ensures c.without_front-head.ensures)
    (subst (λ (k : ℕ). field y 8 ≡ take (8 - k) (field (slice_index octets ((to - 1) / 8)) 8) ++ zeros k) c.ebit-else-first-last.ensures c.without_back-else-first-last.ensures))
