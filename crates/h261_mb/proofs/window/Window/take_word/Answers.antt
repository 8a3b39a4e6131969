use Rattle.std.proofs.Common.{ℕ, List, Bool, length, ◌∙◌, ap, arith}
use Rattle.vlc_codes.specs.Lookup.{words}
use Rattle.vlc_codes.proofs.WordLaws.{cell_within}
use Rattle.h261_mb.proofs.Windows.{seen_long, word-seen}
use Rattle.h261_mb.proofs.window.Window.take_word.Goals as goal

pub skip-requires : goal.skip-requires
skip-requires c =
    let w = c.self.inside in
    omega (arith, seen_long w.rest w.left c.self.invariant, ap (λ (r : List Bool × ℕ). length r.0) c.self.view_is)

pub returns-clause-index : goal.returns-clause-index
returns-clause-index c =
    let w = c.self.inside in
    let cell = c.first_word-cell.result in
    let found = word-seen c.args.table w.rest w.left cell c.self.invariant c.first_word-cell.ensures (λ none. c.if-len-eq0.false (c.from-len.ensures ∙ none)) (omega (arith, c.from-len.ensures)) in
    record { len = cell.len; cell = rw (← c.self.view_is) found; behind = rw (← c.from-len.ensures) c.skip.ensures }

pub returns-clause-inside : goal.returns-clause-inside
returns-clause-inside c =
    let w = c.self.inside in
    let cell = c.first_word-cell.result in
    let found = word-seen c.args.table w.rest w.left cell c.self.invariant c.first_word-cell.ensures (λ none. c.if-len-eq0.false (c.from-len.ensures ∙ none)) (omega (arith, c.from-len.ensures)) in
    (cell_within (words c.args.table) _ cell found).0
