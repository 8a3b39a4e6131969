use Rattle.std.proofs.Common.{◌≡◌, ℕ, Bool, List, length, ap, sym, ◌∙◌, subst, arith}
use Rattle.std.specs.List.{list_any}
use Rattle.pel_bits.specs.Bits.{field, number}
use Rattle.pel_bits.proofs.Fields.{number_below, field-number}
use Rattle.pel_model.specs.Codes.{is_prefix}
use Rattle.vlc_codes.specs.Lookup.{words}
use Rattle.vlc_codes.proofs.Computed.{words_short}
use Rattle.vlc_codes.proofs.WordLaws.{front-peeked, cause-cut, cause-none, none_longer}
use Rattle.vlc_codes.proofs.lookup.why_none.Goals as goal
use Rattle.vlc_codes.proofs.lookup.why_none.Goals.{else-left-le16-via-then-left-le16+else-begins_a_word, else-left-le16-via-else-left-le16}

-- the bits that were peeked at are those that are left
same_bits : (bits : List Bool) (n front : ℕ) → n ≡ length bits → front ≡ number bits → field front n ≡ bits
same_bits bits n front len is = ap (λ (k : ℕ). field k n) is ∙ (ap (field (number bits)) len ∙ field-number bits)

pub begins_a_word-requires-clause-fits : goal.begins_a_word-requires-clause-fits
begins_a_word-requires-clause-fits c =
    let bits = c.args.r.now.0 in
    let front = c.peek.ensures ∙ front-peeked bits c.left-left.result c.left-left.ensures in
    rw (front, c.left-left.ensures) (number_below bits)

pub returns-then-begins_a_word : goal.returns-then-begins_a_word
returns-then-begins_a_word c =
    let bits = c.args.r.now.0 in
    let front = c.peek.ensures ∙ front-peeked bits c.left-left.result c.left-left.ensures in
    let same = same_bits bits c.left-left.result c.peek.result c.left-left.ensures front in
    let any = subst (λ (bs : List Bool). c.begins_a_word.result ≡ list_any (λ w. is_prefix bs w) (words c.args.table)) same c.begins_a_word.ensures in
    sym (cause-cut (words c.args.table) bits (sym any ∙ c.if-begins_a_word.true))

pub returns-else-left-le16 : goal.returns-else-left-le16
returns-else-left-le16 c =
    let bits = c.args.r.now.0 in
    elim c.else-left-le16.branch [
      | else-left-le16-via-then-left-le16+else-begins_a_word w ↦
          let front = w.peek.ensures ∙ front-peeked bits c.left-left.result c.left-left.ensures in
          let same = same_bits bits c.left-left.result w.peek.result c.left-left.ensures front in
          let any = subst (λ (bs : List Bool). w.begins_a_word.result ≡ list_any (λ w. is_prefix bs w) (words c.args.table)) same w.begins_a_word.ensures in
          sym (cause-none (words c.args.table) bits (sym any ∙ w.if-begins_a_word.false))
      | else-left-le16-via-else-left-le16 w ↦
          sym (cause-none (words c.args.table) bits (none_longer (words c.args.table) bits 16 (words_short c.args.table) (omega (arith, w.if-left-le16.false))))
    ]
