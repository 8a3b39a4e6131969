-- The cuts of a picture lead to the end of its text, and the first of them lies behind its start code.
use Rattle.std.proofs.Common.{◌≡◌, ℕ, ◌+◌, ◌-◌, ◌<◌, ◌≤◌, Bool, true, false, List, [], ◌∷◌, ◌++◌, length, flat_map, Option, Some, None, refl, sym, ◌∙◌, ap, subst, arith, length-append}
use Rattle.std.proofs.lemmas.Bool.{leb-true}
use Rattle.cif_pack.specs.declared.atoms.AtomEnd.{AtomEnd}
use Rattle.cif_pack.specs.Atoms.{context_behind, macroblock_ends, ends_behind, group_ends, atom_ends}
use Rattle.cif_pack.specs.Cuts.{octets_between, is_cut, with_cut, from_behind, cuts}
use Rattle.cif_pack.specs.Sending.{Rises}
use Rattle.cif_pack.specs.Payload.{no_context}
use Rattle.cif_pack.proofs.AtomsRise.{atoms-rise}
use Rattle.cif_pack.proofs.CutLemmas.{Ahead, ahead, rises-on}
use Rattle.h261_pic.proofs.Texts.{length-group_text, length-text}
use Rattle.pel_model.specs.declared.Format.TheVariants.{Cif}
use Rattle.pel_model.specs.Records.{Macroblock, Group, Picture, quantiser_after}
use Rattle.pel_model.specs.Text.{macroblock_text, macroblocks_text, group_text, text}
use Rattle.pel_model.specs.Valid.{IsValid}

-- ---- the last end

abbrev pub last_end : ℕ → List AtomEnd → ℕ
last_end from [] = from
last_end from (e ∷ es) = last_end e.at es

length-more : (last : Option Macroblock) (m : Macroblock) (ms : List Macroblock) → length (macroblocks_text last (m ∷ ms)) ≡ length (macroblock_text last m) + length (macroblocks_text (Some m) ms)
unfolding macroblocks_text
length-more last m ms = length-append (macroblock_text last m) (macroblocks_text (Some m) ms)

length-none : (last : Option Macroblock) → length (macroblocks_text last []) ≡ 0
unfolding macroblocks_text
length-none last = refl

end-of-macroblocks : (at number quant : ℕ) (last : Option Macroblock) (ms : List Macroblock) (es : List AtomEnd)
    → last_end at (macroblock_ends at number quant last ms ++ es) ≡ last_end (at + length (macroblocks_text last ms)) es
end-of-macroblocks at number quant last [] es =
    let same : at ≡ at + length (macroblocks_text last []) = omega (arith, length-none last) in
    ap (λ (n : ℕ). last_end n es) same
end-of-macroblocks at number quant last (m ∷ ms) es =
    let next = at + length (macroblock_text last m) in
    let same : next + length (macroblocks_text (Some m) ms) ≡ at + length (macroblocks_text last (m ∷ ms)) = omega (arith, length-more last m ms) in
    end-of-macroblocks next number (quantiser_after quant m.mquant) (Some m) ms es
    ∙ ap (λ (n : ℕ). last_end n es) same

end-of-group : (from at number quant : ℕ) (ms : List Macroblock) (es : List AtomEnd)
    → last_end from (ends_behind at number quant ms ++ es) ≡ last_end (at + length (macroblocks_text None ms)) es
end-of-group from at number quant [] es =
    let same : at ≡ at + length (macroblocks_text None []) = omega (arith, length-none None) in
    ap (λ (n : ℕ). last_end n es) same
end-of-group from at number quant (m ∷ ms) es = end-of-macroblocks at number quant None (m ∷ ms) es

end-of-groups : (at : ℕ) (gs : List Group) → last_end at (group_ends at gs) ≡ at + length (flat_map group_text gs)
end-of-groups at [] = omega arith
end-of-groups at (g ∷ gs) =
    let next = at + length (group_text g) in
    let same : (at + 26) + length (macroblocks_text None g.macroblocks) ≡ next = omega (arith, length-group_text g) in
    let all : next + length (flat_map group_text gs) ≡ at + length (flat_map group_text (g ∷ gs)) =
    omega (arith, length-append (group_text g) (flat_map group_text gs)) in
    end-of-group at (at + 26) g.number g.quant g.macroblocks (group_ends next gs)
    ∙ ap (λ (n : ℕ). last_end n (group_ends next gs)) same
    ∙ end-of-groups next gs
    ∙ all

-- ---- the first end

abbrev pub AtLeast : ℕ → List AtomEnd → Type 0
AtLeast k [] = Unit {0}
AtLeast k (e ∷ es) = (k ≤ e.at) × AtLeast k es

at-least : (mtu last from k : ℕ) (es : List AtomEnd) → k ≤ from → Rises mtu last from es → AtLeast k es
at-least mtu last from k [] h rise = tt
at-least mtu last from k (e ∷ es) h rise =
    let a = ahead mtu last from e es rise in
    (omega (arith, h, a.behind), at-least mtu last e.at k es (omega (arith, h, a.behind)) a.rest)

-- the ends of a picture, first and last
pub record AreEnds (len : ℕ) (ends : List AtomEnd) : Type 0 where
  pub first : AtomEnd
  pub others : List AtomEnd
  pub ends_are : ends ≡ first ∷ others
  pub far : 20 ≤ first.at
  pub last : last_end 0 ends ≡ len

ends-of-group : (len at number quant : ℕ) (ms : List Macroblock) (es : List AtomEnd) → 20 ≤ at → last_end 0 (ends_behind at number quant ms ++ es) ≡ len
    → AreEnds len (ends_behind at number quant ms ++ es)
ends-of-group len at number quant [] es far is =
    record { first = record { at = at; context = no_context }; others = es; ends_are = refl; far = far; last = is }
ends-of-group len at number quant (m ∷ ms) es far is = record {
  first = record { at = at + length (macroblock_text None m); context = context_behind number (quantiser_after quant m.mquant) m ms };
  others = macroblock_ends (at + length (macroblock_text None m)) number (quantiser_after quant m.mquant) (Some m) ms ++ es;
  ends_are = refl;
  far = omega (arith, far);
  last = is;
}

ends-of-groups : (len : ℕ) (gs : List Group) → length gs ≡ 12 → len ≡ 32 + length (flat_map group_text gs) → AreEnds len (group_ends 32 gs)
ends-of-groups len [] some is = absurd (omega (arith, some))
ends-of-groups len (g ∷ gs) some is =
    let next = 32 + length (group_text g) in
    let same : 58 + length (macroblocks_text None g.macroblocks) ≡ next = omega (arith, length-group_text g) in
    let all : next + length (flat_map group_text gs) ≡ len = omega (arith, is, length-append (group_text g) (flat_map group_text gs)) in
    ends-of-group len 58 g.number g.quant g.macroblocks (group_ends next gs) (omega arith)
    (end-of-group 0 58 g.number g.quant g.macroblocks (group_ends next gs)
    ∙ ap (λ (n : ℕ). last_end n (group_ends next gs)) same
    ∙ end-of-groups next gs
    ∙ all)

-- ---- the cuts

-- they rise from one place up to the end of the text, and what lies between two of them fits a packet
abbrev pub Walks : (mtu last from : ℕ) → List AtomEnd → Type 0
Walks mtu last from [] = from ≡ last
Walks mtu last from (e ∷ es) = (from < e.at) × (e.at ≤ last) × (octets_between from e.at ≤ mtu - 16) × Walks mtu last e.at es

walks-by : (b : Bool) (mtu last from : ℕ) (e : AtomEnd) (es : List AtomEnd) → Ahead mtu last from e es
    → (b ≡ true → Walks mtu last e.at (cuts mtu e.at es)) → (b ≡ false → Walks mtu last from (cuts mtu from es))
    → Walks mtu last from (with_cut b e (cuts mtu (from_behind b from e) es))
walks-by true mtu last from e es a cut stays = (a.behind, a.within, leb-true (octets_between from e.at) (mtu - 16) a.fit, cut refl)
walks-by false mtu last from e es a cut stays = stays refl

same-end : (mtu from : ℕ) (e : AtomEnd) (es : List AtomEnd) → is_cut mtu from es ≡ false → last_end from es ≡ last_end e.at es
same-end mtu from e [] goes = absurd (cc)
same-end mtu from e (f ∷ es) goes = refl

cuts-walk : (mtu last from : ℕ) (es : List AtomEnd) → Rises mtu last from es → last_end from es ≡ last → Walks mtu last from (cuts mtu from es)
cuts-walk mtu last from [] rise is = is
cuts-walk mtu last from (e ∷ es) rise is =
    let a = ahead mtu last from e es rise in
    walks-by (is_cut mtu from es) mtu last from e es a
    (λ cut. cuts-walk mtu last e.at es a.rest is)
    (λ stays. cuts-walk mtu last from es (rises-on mtu last from e es rise stays) (same-end mtu from e es stays ∙ is))

least-by : (b : Bool) (k mtu from : ℕ) (e : AtomEnd) (es : List AtomEnd) → k ≤ e.at → AtLeast k (cuts mtu (from_behind b from e) es)
    → AtLeast k (with_cut b e (cuts mtu (from_behind b from e) es))
least-by true k mtu from e es h rest = (h, rest)
least-by false k mtu from e es h rest = rest

cuts-least : (k mtu from : ℕ) (es : List AtomEnd) → AtLeast k es → AtLeast k (cuts mtu from es)
cuts-least k mtu from [] h = tt
cuts-least k mtu from (e ∷ es) h = least-by (is_cut mtu from es) k mtu from e es h.0 (cuts-least k mtu (from_behind (is_cut mtu from es) from e) es h.1)

pub record AreCutsOf (mtu len : ℕ) (cs : List AtomEnd) : Type 0 where
  pub walk : Walks mtu len 0 cs
  pub far : AtLeast 20 cs

first-least : (mtu len : ℕ) (ends : List AtomEnd) → Rises mtu len 0 ends → AreEnds len ends → AtLeast 20 ends
first-least mtu len ends rise a =
    let one = ahead mtu len 0 a.first a.others (subst (Rises mtu len 0) a.ends_are rise) in
    subst (AtLeast 20) (sym a.ends_are) (a.far, at-least mtu len a.first.at 20 a.others a.far one.rest)

pub cuts-of-picture : (mtu : ℕ) (p : Picture) → 1000 ≤ mtu → IsValid Cif p → AreCutsOf mtu (length (text Cif p)) (cuts mtu 0 (atom_ends p))
cuts-of-picture mtu p least valid =
    let len = length (text Cif p) in
    let rise = atoms-rise mtu p least valid in
    let ends = ends-of-groups len p.groups valid.whole (length-text Cif p) in
    record { walk = cuts-walk mtu len 0 (atom_ends p) rise ends.last; far = cuts-least 20 mtu 0 (atom_ends p) (first-least mtu len (atom_ends p) rise ends) }
