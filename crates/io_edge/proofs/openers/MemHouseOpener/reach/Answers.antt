-- The source that is removed is the first of its name.
use Rattle.std.proofs.Common.{Some, rules, ◌≡◌, ◌+◌, ◌++◌, get_or, take, drop, ap, sym, subst, refl}
use Rattle.io_edge.specs.Directory.{TakesEntry}
use Rattle.io_edge.specs.Memory.{entries_of}
use Rattle.io_edge.proofs.DirectoryLemmas.{takes_entry}
use Rattle.io_edge.proofs.openers.MemHouseOpener.reach.Goals as goal

pub returns-clause-opened : goal.returns-clause-opened
returns-clause-opened c =
    let same : c.self.inside.sources.items ≡ c.args.self.now.sources = ap (λ h. h.sources) c.self.view_is in
    let xs = c.args.self.now.sources in
    let at = c.in-Some.at in
    let name = c.args.name.now in
    let gives : c.remove-name.result ≡ get_or xs at c.remove-name.result =
    subst (λ ys. c.remove-name.result ≡ get_or ys at c.remove-name.result) same c.remove-name.ensures.value in
    let leaves : c.remove-name.new.self.items ≡ take at xs ++ drop (at + 1) xs =
    subst (λ ys. c.remove-name.new.self.items ≡ take at ys ++ drop (at + 1) ys) same c.remove-name.ensures.by_index.2 in
    let found = c.in-Some.ensures.found in
    let first = takes_entry name xs at c.remove-name.result found.0 found.2 (found.1 c.remove-name.result) in
    let taken : TakesEntry name (entries_of xs) (entries_of c.remove-name.new.self.items) c.remove-name.result.1.left =
    subst (λ ys. TakesEntry name (entries_of xs) (entries_of ys) c.remove-name.result.1.left) (sym leaves)
    (subst (λ e. TakesEntry name (entries_of xs) (entries_of (take at xs ++ drop (at + 1) xs)) e.1.left) (sym gives) first) in
    record { entry = (c.remove-name.result.1.left, entries_of c.remove-name.new.self.items, taken, ap (λ s. Some s.left) c.anew.ensures, refl); anew = ap (λ s. s.faults) c.anew.ensures; cause = search rules }
