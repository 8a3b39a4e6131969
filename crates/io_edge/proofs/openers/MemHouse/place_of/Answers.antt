-- One source more has another name; and none has it where none before the end has it.
use Rattle.std.proofs.Common.{rules, ◌≡◌, ◌≢◌, ◌<◌, ◌≤◌, length, get_or, ap, sym, subst, string_bytes, ◌∙◌, true≢false}
use Rattle.std.proofs.lemmas.Slice.Eq.{bytes_eq-Decides}
use Rattle.io_edge.proofs.DirectoryLemmas.{none_more, none_at_all}
use Rattle.io_edge.proofs.openers.MemHouse.place_of.Goals as goal

pub loop-at-preserved : goal.loop-at-preserved
loop-at-preserved c =
    let same : c.self.inside.sources.items ≡ c.args.self.now.sources = ap (λ h. h.sources) c.self.view_is in
    let within : c.loop-at.at < length c.self.inside.sources.items = search rules in
    let other : string_bytes c.index.result.now.0 ≢ c.args.name.now =
    (λ alike. true≢false (sym ((bytes_eq-Decides c.as_str.result.now c.args.name.now).1 (c.as_str.ensures.value ∙ alike)) ∙ sym c.eq.ensures ∙ c.if-eq.false)) in
    none_more c.args.name.now c.args.self.now.sources c.loop-at.at c.index.result.now
    (subst (λ ys. c.loop-at.at < length ys) same within) c.loop-at.invariant
    (subst (λ e. string_bytes e.0 ≢ c.args.name.now)
    (subst (λ ys. c.index.result.now ≡ get_or ys c.loop-at.at c.index.result.now) same c.index.ensures) other)

pub returns-clause-none : goal.returns-clause-none
returns-clause-none c =
    let same : c.self.inside.sources.items ≡ c.args.self.now.sources = ap (λ h. h.sources) c.self.view_is in
    let end : length c.self.inside.sources.items ≤ c.loop-at.at = search rules in
    none_at_all c.args.name.now c.args.self.now.sources c.loop-at.at c.loop-at.invariant (subst (λ ys. length ys ≤ c.loop-at.at) same end)
