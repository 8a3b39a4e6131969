-- A call of a reader, from what was taken and what stands in front of the bits that are then there.
use Rattle.std.proofs.Common.{◌≡◌, ◌⊎◌, ◌-◌, ◌*◌, ◌<◌, ◌≤◌, Bool, false, List, [], ◌∷◌, ◌++◌, length, Option, Some, None, Result, Ok, Err, IfOk, is_err, refl, sym, ◌∙◌, subst, inl, inr, arith, append-nil}
use Rattle.std.proofs.KnownBytes.{Consumes-nil}
use Rattle.bare_stream.specs.declared.reader.BareEnd.{BareEnd}
use Rattle.bare_stream.specs.declared.reader.BareEnd.TheVariants as end
use Rattle.bare_stream.specs.declared.front.Front.TheVariants as front
use Rattle.bare_stream.specs.Filling.{Fills, HasEnough, HasGivenAll, GivesLast, IsEndAt}
use Rattle.bare_stream.specs.Front.{StandsInFront}
use Rattle.bare_stream.specs.Reading.{BareReading, Asked, CallsBare, Gives, GivesNone, GivesPicture}
use Rattle.h261_pic.specs.Coded.{Coding}
use Rattle.io_edge.specs.Allowance.{AllowanceState, TakesOctets}
use Rattle.io_edge.specs.declared.allowance.Pause.{Pause}
use Rattle.io_edge.specs.declared.allowance.Pause.TheVariants as pause
use Rattle.io_edge.specs.Outside.{Input}
use Rattle.pel_bits.specs.Bits.{bits}
use Rattle.pel_model.specs.declared.Fault.{Fault}
use Rattle.pel_model.specs.Grammar.{next_within_limit}
use Rattle.pel_model.specs.Walk.{FirstFault}
use Rattle.picture_laws.specs.Laws.{kept_length}
use Rattle.bare_stream.proofs.Cutting.{accepted-short}

-- nothing is taken
pub takes-none : (source : Input) (allowance : AllowanceState) → allowance.taken ≤ allowance.budget → TakesOctets source source allowance allowance []
takes-none source allowance within = record {
  bytes = Consumes-nil source.left;
  taken = omega arith;
  budget = refl;
  within = within;
  went = record { later = omega arith; counted = λ small. small };
}

asked-nothing : (paused : Option Pause) (source : Input) (allowance : AllowanceState) → Asked paused paused [] source source allowance
asked-nothing None source allowance = refl
asked-nothing (Some why) source allowance = (refl, refl, refl)

pub fills-none : (source : Input) (old : BareReading) → old.allowance.taken ≤ old.allowance.budget → HasEnough old → Fills source source old old
fills-none source old within enough = record {
  took = [];
  takes = takes-none source old.allowance within;
  asked = asked-nothing old.pause source old.allowance;
  rest = sym (append-nil old.rest);
  enough = enough;
  format = refl;
  ended = refl;
}

-- all bits that are there are a picture
pub gives-last : (result : Result Unit BareEnd) (old new : BareReading) (coded : Coding) → GivesLast result old new → HasEnough old
    → StandsInFront old.format old.rest front.Whole coded → Gives result old new old.rest coded
gives-last (Ok u) old new coded gives enough is =
    let short = accepted-short old.format old.rest is.1.0 is.1.1 in
    subst (λ (n : BareReading). Gives (Ok u) old n old.rest coded) (sym gives.1)
    (inr (elim gives.0 [ inl ended ↦ ended | inr more ↦ absurd (omega (arith, enough more, short)) ], is.0, is.1, refl), is.2, refl)
gives-last (Err end.Fault) old new coded gives enough is =
    subst (λ (n : BareReading). Gives (Err end.Fault) old n old.rest coded) (sym gives.1)
    ((is.0, accepted-short old.format old.rest is.1.0 is.1.1, gives.0), refl)
gives-last (Err end.Limit) old new coded gives enough is =
    subst (λ (n : BareReading). Gives (Err end.Limit) old n old.rest coded) (sym gives.1)
    ((is.0, accepted-short old.format old.rest is.1.0 is.1.1, gives.0), refl)
gives-last (Err end.End) old new coded gives enough is = absurd gives.0
gives-last (Err (end.Bad place why)) old new coded gives enough is = absurd gives.0

-- they have a first fault
pub gives-none : (fault : Fault) (stop : BareEnd) (old : BareReading) (coded : Coding) → IsEndAt fault stop old → HasEnough old → (HasGivenAll old → ⊥)
    → StandsInFront old.format old.rest (front.Bad fault) coded → GivesNone stop old.format old.rest (8 * old.allowance.taken - length old.rest) old.pause
gives-none fault (end.Bad place why) old coded at enough unless_all is =
    let decided : (old.pause ≡ Some pause.End) ⊎ (kept_length old.format ≤ length old.rest) =
    elim at.2 [
      | inl early ↦ elim early [ inl ended ↦ inl ended | inr more ↦ inr (enough more) ]
      | inr long ↦ inr long
    ] in (
      is.0,
      some-bits old.rest (elim decided [ inl ended ↦ inl (λ none. unless_all (ended, none)) | inr long ↦ inr (omega (arith, long)) ]),
      (fault.place, subst (λ w. FirstFault (next_within_limit old.format) old.rest fault.place w) (sym at.1) is.1, at.0),
      decided,
    )
  where
    some-bits : (xs : List Bool) → ((xs ≡ [] → ⊥) ⊎ (0 < length xs)) → 0 < length xs
    some-bits xs (inr some) = some
    some-bits [] (inl none) = absurd (none refl)
    some-bits (x ∷ xs) (inl none) = omega arith
gives-none fault end.Fault old coded at enough unless_all is = (is.0, at.0, at.1)
gives-none fault end.Limit old coded at enough unless_all is = (is.0, at.0, at.1)
gives-none fault end.End old coded at enough unless_all is = absurd at.1

gives-behind : (result : Result Unit BareEnd) (old mid : BareReading) (rest seen : List Bool) (ended : Bool) (coded : Coding) → mid.rest ≡ seen
    → IfOk result (λ _. ended ≡ old.ended) → Gives result mid (record mid { rest = rest }) mid.rest coded
    → Gives result old (record mid { rest = rest; ended = ended }) seen coded
gives-behind (Ok u) old mid rest seen ended coded is same gives =
    (subst (λ (t : List Bool). GivesPicture mid.format t rest mid.pause coded) is gives.0, gives.1, same)
gives-behind (Err stop) old mid rest seen ended coded is same gives =
    subst (λ (t : List Bool). GivesNone stop mid.format t (8 * mid.allowance.taken - length t) mid.pause × (rest ≡ t)) is gives

pub called : (before after : Input) (old mid : BareReading) (rest : List Bool) (ended : Bool) (coded : Coding) (result : Result Unit BareEnd) → Fills before after old mid
    → Gives result mid (record mid { rest = rest }) mid.rest coded → coded.format ≡ mid.format → IfOk result (λ _. ended ≡ old.ended)
    → CallsBare before after old (record mid { rest = rest; ended = ended }) coded result
called before after old mid rest ended coded result fills gives format same = record {
  took = fills.took;
  takes = fills.takes;
  asked = fills.asked;
  gives = gives-behind result old mid rest (old.rest ++ bits fills.took) ended coded fills.rest same gives;
  format = fills.format;
  coded_format = format ∙ fills.format;
}

-- a reader that gave a picture has not ended
pub goes-on : (result : Result Unit BareEnd) (ended old : Bool) → ended ≡ is_err result → old ≡ false → IfOk result (λ _. ended ≡ old)
goes-on (Ok u) ended old is going = is ∙ sym going
goes-on (Err stop) ended old is going = tt
