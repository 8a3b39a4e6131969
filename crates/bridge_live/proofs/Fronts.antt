-- The flow of the first of some packets.
use Rattle.std.proofs.Common.{◌≡◌, List, [], ◌∷◌, ◌++◌, length, map, Option, refl, sym, ap, subst, ◌∙◌, append_assoc, append-nil}
use Rattle.std.proofs.lemmas.List.{map-append}
use Rattle.pel_model.specs.declared.Format.{Format}
use Rattle.pel_model.specs.declared.Format.TheVariants.{Qcif}
use Rattle.pel_model.specs.History.{Step}
use Rattle.rtp_h261.specs.Packets.{piece_of}
use Rattle.rtp_h261.specs.OneByOne.{LawOfFronts}
use Rattle.rtp_h261.specs.Units.{Given, Piece, all_given, fed}
use Rattle.rtp_h261.specs.Events.{Event, HappenAt, LawOfOneTelling}
use Rattle.bridge_live.specs.Flow.{step_of, LawOfOneFlow, LawOfFlowFronts}

pub one-flow : LawOfOneTelling → LawOfOneFlow
one-flow one lane packets steps others h k =
    h.2 ∙ (ap (map (step_of lane)) (one Qcif packets h.0 k.0 h.1 k.1) ∙ sym k.2)

-- packets that come behind others give behind what those gave
given-front : LawOfFronts → (ps qs : List (Option Piece)) → (rest : List Given) × (all_given (ps ++ qs) ≡ all_given ps ++ rest)
given-front law ps [] = ([], ap all_given (append-nil ps) ∙ sym (append-nil (all_given ps)))
given-front law ps (q ∷ qs) =
    let one : Given = fed (ps ++ q ∷ []) (length ps) in
    let more = given-front law (ps ++ q ∷ []) qs in (
      one ∷ more.0,
      ap all_given (sym (append_assoc ps (q ∷ []) qs))
          ∙ (more.1 ∙ (ap (λ (gs : List Given). gs ++ more.0) (law ps q) ∙ append_assoc (all_given ps) (one ∷ []) more.0)),
    )

-- what happens at the first of them
record Front (format : Format) (gs : List Given) (events : List Event) : Type 0 where
  front : List Event
  rest : List Event
  happen : HappenAt format gs front
  all : events ≡ front ++ rest

front-of : (format : Format) (gs hs : List Given) (events : List Event) → HappenAt format (gs ++ hs) events → Front format gs events
front-of format [] hs events h = record { front = []; rest = events; happen = refl; all = refl }
front-of format (g ∷ gs) hs events h =
    let f = front-of format gs hs h.1 h.3 in
    record {
      front = h.0 ++ f.front;
      rest = f.rest;
      happen = (h.0, f.front, h.2, f.happen, refl);
      all = h.4 ∙ (ap (λ (xs : List Event). h.0 ++ xs) f.all ∙ sym (append_assoc h.0 f.front f.rest));
    }

pub flow-fronts : LawOfOneTelling → LawOfFronts → LawOfFlowFronts
flow-fronts one law lane packets more steps whole h k =
    let ps = map piece_of packets in
    let given = given-front law ps (map piece_of more) in
    let split : all_given (map piece_of (packets ++ more)) ≡ all_given ps ++ given.0 = ap all_given (map-append piece_of packets more) ∙ given.1 in
    let f = front-of Qcif (all_given ps) given.0 k.0 (subst (λ (gs : List Given). HappenAt Qcif gs k.0) split k.1) in
    let same : h.0 ≡ f.front = one Qcif packets h.0 f.front h.1 f.happen in
    let to = map (step_of lane) in (
      to f.rest,
      ap (λ (xs : List Step). xs ++ to f.rest) (h.2 ∙ ap to same) ∙ (sym (map-append (step_of lane) f.front f.rest) ∙ (ap to (sym f.all) ∙ sym k.2)),
    )
