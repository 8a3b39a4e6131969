-- What was fetched stands behind the rest.
use Rattle.std.proofs.Common.{◌≡◌, ℕ, ◌-◌, ◌/◌, ◌≤◌, List, ◌++◌, Option, None, Some, length, take, drop, length-drop, length-take, sym, subst, ◌∙◌, ap, arith}
use borrow.Rule.Slice.PartMut.{put_mid, post_of, same_len_mid}
use Rattle.std.specs.Vec.{with_items}
use Rattle.std.proofs.lemmas.List.{with_items_is}
use Rattle.bare_stream.specs.Reading.{BareReading, Asked}
use Rattle.pel_bits.specs.Bits.{bits}
use Rattle.bare_stream.proofs.Buffers.{moved, rest-more, rest-all, all-enough}
use Rattle.io_edge.specs.Allowance.{AllowanceState, TakesOctets}
use Rattle.io_edge.specs.declared.allowance.Pause.{Pause}
use Rattle.bare_stream.proofs.reader.Bare.take_octets.Goals as goal

none_some : {A : Type 0} {x : A} → Some x ≡ None → ⊥
none_some is = cc

pub returns-in-Ok : goal.returns-in-Ok
returns-in-Ok g c =
    let b = c.self.inside in
    let v = c.copy_within.new.self in
    let out = c.fetch.new.out in
    let inside : b.filled ≤ length b.octets.items = omega (arith, c.self.invariant.1, b.octets.ok.0) in
    let same : length v.items ≡ length b.octets.items = omega (arith, c.copy_within.ensures.len, b.octets.ok.0, v.ok.0) in
    let front = moved b.octets.items v.items b.filled b.from c.self.invariant.0 inside c.copy_within.ensures.items in
    let left = b.filled - b.from / 8 in
    let lent = c.deref_mut.result.now in
    let behind = post_of left (length lent - left) lent in
    let long : length (put_mid left (length lent - left) lent out) ≡ v.len = same_len_mid left (length lent - left) lent out c.fetch.auto.out ∙ c.deref_mut.ensures.len in
    let items : (with_items v (put_mid left (length lent - left) lent out)).items ≡ take left v.items ++ (out ++ behind) =
    with_items_is v (put_mid left (length lent - left) lent out) long ∙ ap (λ (t : List ℕ). take left t ++ (out ++ behind)) c.deref_mut.ensures.value in
    let rest =
    rest-all b.octets.items (with_items v (put_mid left (length lent - left) lent out)).items v.items out behind b.filled b.from c.len-self-inside.result c.self.invariant.0 inside front (omega (arith, inside, same)) items
    (omega (arith, c.len-self-inside.ensures, c.fetch.auto.out, c.deref_mut.ensures.len, length-drop left lent, length-take (length lent - left) (drop left lent), inside, same)) in
    record {
      took = out;
      takes = subst (λ (a : AllowanceState). TakesOctets (g.S.Source.tells c.args.source.now) (g.S.Source.tells c.fetch.new.source) a c.fetch.new.self out) (ap (λ (r : BareReading). r.allowance) c.self.view_is) c.in-Ok.ensures.0;
      asked =
          subst (λ (w : Option Pause). Asked None w out (g.S.Source.tells c.args.source.now) (g.S.Source.tells c.fetch.new.source) c.fetch.new.self)
          (sym (ap (λ (r : BareReading). r.pause) c.self.view_is ∙ c.requires)) c.in-Ok.ensures.1;
      rest = rest ∙ ap (λ (r : BareReading). r.rest ++ bits out) c.self.view_is;
      enough = λ going. all-enough (with_items v (put_mid left (length lent - left) lent out)).items c.len-self-inside.result b.from b.format
          (omega (arith, c.len-self-inside.ensures, long, ap length items, ap length (with_items_is v (put_mid left (length lent - left) lent out) long)))
          (omega (arith, c.len-self-inside.ensures, c.copy_within.ensures.len, c.self.invariant.2));
      format = ap (λ (r : BareReading). r.format) c.self.view_is;
      ended = ap (λ (r : BareReading). r.ended) c.self.view_is;
    }

pub returns-in-Err : goal.returns-in-Err
returns-in-Err g c =
    let b = c.self.inside in
    let v = c.copy_within.new.self in
    let out = c.fetch.new.out in
    let count = c.in-Err.short.count in
    let inside : b.filled ≤ length b.octets.items = omega (arith, c.self.invariant.1, b.octets.ok.0) in
    let same : length v.items ≡ length b.octets.items = omega (arith, c.copy_within.ensures.len, b.octets.ok.0, v.ok.0) in
    let front = moved b.octets.items v.items b.filled b.from c.self.invariant.0 inside c.copy_within.ensures.items in
    let left = b.filled - b.from / 8 in
    let lent = c.deref_mut.result.now in
    let behind = post_of left (length lent - left) lent in
    let long : length (put_mid left (length lent - left) lent out) ≡ v.len = same_len_mid left (length lent - left) lent out c.fetch.auto.out ∙ c.deref_mut.ensures.len in
    let items : (with_items v (put_mid left (length lent - left) lent out)).items ≡ take left v.items ++ (out ++ behind) =
    with_items_is v (put_mid left (length lent - left) lent out) long ∙ ap (λ (t : List ℕ). take left t ++ (out ++ behind)) c.deref_mut.ensures.value in
    let rest =
    rest-more b.octets.items (with_items v (put_mid left (length lent - left) lent out)).items v.items out behind b.filled b.from count c.self.invariant.0 inside front (omega (arith, inside, same)) items
    (omega (arith, c.in-Err.ensures.0)) in
    record {
      took = take count out;
      takes = subst (λ (a : AllowanceState). TakesOctets (g.S.Source.tells c.args.source.now) (g.S.Source.tells c.fetch.new.source) a c.fetch.new.self (take count out)) (ap (λ (r : BareReading). r.allowance) c.self.view_is) c.in-Err.ensures.1;
      asked = c.in-Err.ensures.2;
      rest = rest ∙ ap (λ (r : BareReading). r.rest ++ bits (take count out)) c.self.view_is;
      enough = λ going. absurd (none_some going);
      format = ap (λ (r : BareReading). r.format) c.self.view_is;
      ended = ap (λ (r : BareReading). r.ended) c.self.view_is;
    }
