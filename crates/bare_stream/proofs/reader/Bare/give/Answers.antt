-- What stands in front of the bits that are there.
use Rattle.std.proofs.Common.{◌≡◌, Bool, List, length, refl, sym, ap, subst, ◌∙◌, arith}
use Rattle.std.proofs.lemmas.List.{length-take-le}
use Rattle.bare_stream.specs.declared.front.Front.TheVariants as front
use Rattle.bare_stream.specs.Front.{StandsInFront}
use Rattle.bare_stream.specs.Reading.{BareReading}
use Rattle.pel_model.specs.declared.Format.{Format}
use Rattle.bare_stream.proofs.Buffers.{rest-length, seen-all, window-fits}
use Rattle.bare_stream.proofs.Cutting.{starts-inside}
use Rattle.bare_stream.proofs.Readings.{gives-last, gives-none}
use Rattle.bare_stream.proofs.reader.Bare.give.Goals as goal

pub overflow_cast-len : goal.overflow_cast-len
overflow_cast-len c =
    let b = c.self.inside in
    omega (
      arith,
      c.len-len.ensures,
      ap (λ (r : BareReading). length r.rest) c.self.view_is,
      c.self.invariant.1,
      c.self.invariant.2,
      window-fits b.format,
      rest-length b.octets.items b.filled b.from (omega (arith, c.self.invariant.1, b.octets.ok.0)),
    )

pub new-bits-requires : goal.new-bits-requires
new-bits-requires c =
    let b = c.self.inside in
    omega (
      arith,
      c.len-len.ensures,
      ap (λ (r : BareReading). length r.rest) c.self.view_is,
      c.self.invariant.0,
      c.self.invariant.1,
      rest-length b.octets.items b.filled b.from (omega (arith, c.self.invariant.1, b.octets.ok.0)),
      length-take-le b.filled c.deref.result.now (omega (arith, c.deref.ensures.len, c.self.invariant.1)),
    )

pub invariant_of-self : goal.invariant_of-self
invariant_of-self c =
    let b = c.self.inside in (
      omega (
        arith,
        c.len-len.ensures,
        ap (λ (r : BareReading). length r.rest) c.self.view_is,
        c.self.invariant.0,
        c.new-bits.ensures.long,
        rest-length b.octets.items b.filled b.from (omega (arith, c.self.invariant.1, b.octets.ok.0)),
        starts-inside c.new-bits.result c.in-Next.e c.in-Next.ensures.front.0.place.starts,
      ),
      c.self.invariant.1,
      c.self.invariant.2,
      c.self.invariant.3,
      c.self.invariant.4,
    )

pub returns-in-Whole-clause-gives : goal.returns-in-Whole-clause-gives
returns-in-Whole-clause-gives c =
    let b = c.self.inside in
    let coded = c.read_front.new.into in
    let view = ap (λ (r : BareReading). r.rest) c.self.view_is in
    let seen : c.new-bits.result ≡ c.args.self.now.rest =
    c.new-bits.ensures.value ∙ (seen-all b.octets.items c.deref.result.now b.filled b.from c.len-len.result c.deref.ensures.value (c.len-len.ensures ∙ ap length (sym view)) ∙ view) in
    let is = subst (λ (f : Format). StandsInFront f c.new-bits.result front.Whole coded) (ap (λ (r : BareReading). r.format) c.self.view_is) c.in-Whole.ensures.front in
    gives-last c.give_last.result c.args.self.now c.give_last.new.self coded c.give_last.ensures c.requires.enough
    (subst (λ (t : List Bool). StandsInFront c.args.self.now.format t front.Whole coded) seen is)

pub returns-in-Bad-clause-gives : goal.returns-in-Bad-clause-gives
returns-in-Bad-clause-gives c =
    let b = c.self.inside in
    let coded = c.read_front.new.into in
    let view = ap (λ (r : BareReading). r.rest) c.self.view_is in
    let seen : c.new-bits.result ≡ c.args.self.now.rest =
    c.new-bits.ensures.value ∙ (seen-all b.octets.items c.deref.result.now b.filled b.from c.len-len.result c.deref.ensures.value (c.len-len.ensures ∙ ap length (sym view)) ∙ view) in
    let is = subst (λ (f : Format). StandsInFront f c.new-bits.result (front.Bad c.in-Bad.fault) coded) (ap (λ (r : BareReading). r.format) c.self.view_is) c.in-Bad.ensures.front in (
      gives-none c.in-Bad.fault c.end_at.result c.args.self.now coded c.end_at.ensures c.requires.enough c.if-has_given_all.ensures
          (subst (λ (t : List Bool). StandsInFront c.args.self.now.format t (front.Bad c.in-Bad.fault) coded) seen is),
      refl,
    )
