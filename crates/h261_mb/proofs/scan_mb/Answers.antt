use Rattle.std.proofs.Common.{◌≡◌, ℕ, ◌-◌, ◌++◌, List, Bool, refl, sym, ◌∙◌, ap, ap₂, subst, ℤ, w8, rules}
use Rattle.std.proofs.lemmas.Int.{to_z-of_z}
use Rattle.std.proofs.lemmas.Result.{err_from_is_err_and}
use Rattle.pel_model.specs.declared.Mark.{Mark}
use Rattle.pel_model.specs.Bits.{field}
use Rattle.pel_model.specs.Codes.{is_intra}
use Rattle.pel_model.specs.Records.{Macroblock}
use Rattle.pel_model.specs.Walk.{after}
use Rattle.pel_model.specs.Grammar.{Element, block_slot, next}
use Rattle.pel_model.proofs.Walks.{goes-append, after-append}
use Rattle.pel_model.specs.declared.Why.TheVariants.{NoCode}
use Rattle.h261_mb.specs.Inside.{IsMacroblockSoFar}
use Rattle.h261_mb.specs.State.{Stands, IsReady, header_elements, state_behind}
use Rattle.h261_mb.specs.declared.state.MbState.{MbState}
use Rattle.h261_mb.proofs.HeaderLaws.{inside-header, header-begins, pattern-within}
use Rattle.h261_mb.proofs.InsideLaws.{so_far_later}
use Rattle.h261_mb.proofs.Passing.{behind_blocks, say_again}
use Rattle.h261_mb.proofs.Patterns.{six_ones, six_counted, six_number, six_long}
use Rattle.h261_mb.proofs.Placing.{placed, length-placed, whole_elements}
use Rattle.h261_mb.proofs.Steps.{fails_later, not_there, still_fails}
use Rattle.h261_mb.proofs.scan_mb.Goals as goal

pub returns-in_err-header : goal.returns-in_err-header
returns-in_err-header c =
    let p = err_from_is_err_and c.from_residual.result c.from_residual.ensures.1 in
    rw (p.1, p.2) (record { kept = refl; ready = tt; no_word = λ why is. still_fails why _ _ _ (c.in_err-header.ensures.no_word why is); stuffing = λ n is. still_fails NoCode _ _ _ (c.in_err-header.ensures.stuffing n is); walk = λ before d n stands is. c.in_err-header.ensures.walk before d n stands is })

pub returns-in_err-skip_blocks : goal.returns-in_err-skip_blocks
returns-in_err-skip_blocks c =
    let p = err_from_is_err_and c.from_residual-in_err-skip_blocks.result c.from_residual-in_err-skip_blocks.ensures.1 in
    rw (p.1, p.2) (record {
      kept = refl;
      ready = tt;
      no_word = λ why is. absurd (not_there _ _ (c.in_ok-header.ensures.no_word why is).0);
      stuffing = λ n is. absurd (not_there _ _ (c.in_ok-header.ensures.stuffing n is).0);
      walk = λ before d n stands is.
          let header = c.in_ok-header.header in
          let read = c.in_ok-header.ensures.walk before d n stands is in
          let h = read.wanted in
          let counted = six_ones header.pattern (pattern-within header.kind header.pattern h.pattern) in
          let bad = c.in_err-skip_blocks.ensures.walk c.args.format (after before read.elements) header.kind (record { kind_is = h.kind_is; intra_is = sym c.is_intra-intra.ensures; due = h.due ∙ ap (block_slot header.kind) (sym counted); to_come = h.to_come ∙ sym counted }) in
          fails_later (next c.args.format) before (IsMacroblockSoFar before) c.args.r.now c.read_header.new.r c.skip_blocks.new.r read.elements _ read.walk bad (so_far_later before read.elements bad.elements (header-begins read.elements _ _ _ _ _ _ h.elements) (inside-header read.elements _ _ _ _ _ _ h.elements) bad.part);
    })

pub returns : goal.returns
returns c = record {
  kept = tt;
  ready = subst IsReady (sym c.state_behind.ensures) c.in_ok-header.ensures.ready;
  no_word = λ why is. absurd (not_there _ _ (c.in_ok-header.ensures.no_word why is).0);
  stuffing = λ n is. absurd (not_there _ _ (c.in_ok-header.ensures.stuffing n is).0);
  walk = λ before d n stands is.
      let header = c.in_ok-header.header in
      let read = c.in_ok-header.ensures.walk before d n stands is in
      let h = read.wanted in
      let there = after before read.elements in
      let six = pattern-within header.kind header.pattern h.pattern in
      let counted = six_ones header.pattern six in
      let blocks = c.in_ok-skip_blocks.ensures.walk c.args.format there header.kind (record { kind_is = h.kind_is; intra_is = sym c.is_intra-intra.ensures; due = h.due ∙ ap (block_slot header.kind) (sym counted); to_come = h.to_come ∙ sym counted }) in
      let sent = blocks.wanted in
      let es = read.elements ++ blocks.elements in
      let behind : after before es ≡ after there blocks.elements = after-append before read.elements blocks.elements in
      let say = say_again c.args.group header.address header.quant header.h header.v there (after there blocks.elements) (behind_blocks there sent.sent blocks.elements sent.elements) h.say in
      let pattern : List Bool = field header.pattern 6 in
      let m : Macroblock = record { address = header.address; kind = header.kind; mquant = h.mquant; across = header.h; down = header.v; blocks = placed pattern sent.sent } in
      let state : MbState = state_behind header in
      let told : c.state_behind.result ≡ state = c.state_behind.ensures in
      let mark : ℕ → ℕ → MbState → Bool → Mark = λ at end s intra. record { at = at; len = end - at; group = c.args.group; address = s.address; quant_after = s.quant; h_after = s.h; v_after = s.v; intra = intra } in record {
        elements = es;
        walk = goes-append (next c.args.format) before c.args.r.now c.read_header.new.r c.skip_blocks.new.r read.elements blocks.elements read.walk blocks.walk;
        wanted = record {
          macroblock = m;
          difference = h.difference;
          across = h.across;
          down = h.down;
          elements = whole_elements m h.difference h.across h.down pattern sent.sent refl (sent.many ∙ counted ∙ sym (six_counted header.pattern six)) read.elements blocks.elements
              (h.elements ∙ ap (header_elements h.difference header.kind h.mquant h.across h.down) (sym (six_number header.pattern six))) sent.elements;
          stands = subst (λ (s : MbState). Stands c.args.group s (after before es)) (sym told)
              (subst (λ (b : List Element). Stands c.args.group state b) (sym behind) (record { due = sent.due; say = say }));
          address_is = ap (λ (s : MbState). s.address) (sym told);
          across_is = ap (λ (s : MbState). s.h) (sym told);
          down_is = ap (λ (s : MbState). s.v) (sym told);
          six = length-placed pattern sent.sent ∙ six_long header.pattern;
          mark_is =
              ap₂ (λ (h : ℤ) (v : ℤ). mark c.place-at.result c.place.result (record state { h = h; v = v }) c.is_intra-intra.result)
              (to_z-of_z w8 header.h (search rules)) (to_z-of_z w8 header.v (search rules))
              ∙ (ap (λ (at : ℕ). mark at c.place.result state c.is_intra-intra.result) c.place-at.ensures
              ∙ (ap (λ (end : ℕ). mark c.args.r.now.1 end state c.is_intra-intra.result) c.place.ensures
              ∙ (ap (mark c.args.r.now.1 c.skip_blocks.new.r.1 state) c.is_intra-intra.ensures
              ∙ ap (λ (s : MbState). mark c.args.r.now.1 c.skip_blocks.new.r.1 s (is_intra header.kind)) (sym told))));
        };
      };
}
