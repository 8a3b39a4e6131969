-- What is known behind MBA, MTYPE and MQUANT.
use Rattle.std.proofs.Common.{◌≡◌, ℕ, ◌+◌, ◌-◌, ◌<◌, ℤ, List, ◌∷◌, Option, Some, None, unwrap_or, refl, sym, ◌∙◌, ap, arith}
use Rattle.pel_model.specs.declared.MbKind.{MbKind}
use Rattle.pel_model.specs.Records.{Across, Down}
use Rattle.pel_model.specs.Walk.{after}
use Rattle.pel_model.specs.Grammar.{Element, Mba, Mtype, slot, vector_slot, vector_component, address}
use Rattle.h261_mb.specs.declared.state.MbState.{MbState}
use Rattle.pel_model.specs.Elements.{mquant_elements}
use Rattle.h261_mb.specs.State.{Stands}
use Rattle.h261_mb.specs.Parts.{IsBegun, predicted}

module _ (number : ℕ) (state : MbState) (before : List Element) (stands : Stands number state before) (at q : ℕ) (k : MbKind) (h v : ℤ) where
  abbrev begin : List Element
  begin = Mtype k ∷ Mba (at - state.address) ∷ before

  pub begun : (mquant : Option ℕ) → state.address < at → q ≡ unwrap_or mquant state.quant → slot (after begin (mquant_elements mquant)) ≡ vector_slot k → predicted k (at - state.address) at state.h ≡ h → predicted k (at - state.address) at state.v ≡ v → IsBegun number (record { address = at; kind = k; quant = q; h = h; v = v }) (after begin (mquant_elements mquant))
  begun mquant above q_is due across down = by_mquant mquant q_is due
    where
      here : address before + (at - state.address) ≡ at
      here = omega (arith, stands.say.address_is)

      across_here : vector_component Across begin ≡ h
      across_here =
          ap (λ (a : ℕ). predicted k (at - state.address) a (vector_component Across before)) here
          ∙ (ap (λ (z : ℤ). predicted k (at - state.address) at z) stands.say.across_is ∙ across)

      down_here : vector_component Down begin ≡ v
      down_here =
          ap (λ (a : ℕ). predicted k (at - state.address) a (vector_component Down before)) here
          ∙ (ap (λ (z : ℤ). predicted k (at - state.address) at z) stands.say.down_is ∙ down)

      by_mquant : (mquant : Option ℕ) → q ≡ unwrap_or mquant state.quant → slot (after begin (mquant_elements mquant)) ≡ vector_slot k → IsBegun number (record { address = at; kind = k; quant = q; h = h; v = v }) (after begin (mquant_elements mquant))
      by_mquant None q_is due = record {
        due = due;
        kind_is = refl;
        blocks_are = refl;
        say = record { number_is = stands.say.number_is; address_is = here; quant_is = stands.say.quant_is ∙ sym q_is; across_is = across_here; down_is = down_here };
      }
      by_mquant (Some m) q_is due = record {
        due = due;
        kind_is = refl;
        blocks_are = refl;
        say = record { number_is = stands.say.number_is; address_is = here; quant_is = sym q_is; across_is = across_here; down_is = down_here };
      }
