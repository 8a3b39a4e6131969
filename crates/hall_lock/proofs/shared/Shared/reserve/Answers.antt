use Rattle.std.proofs.Common.{rules, ◌≡◌, [], ◌∷◌, sym, subst, Some, List, Option, Box}
use Rattle.std.specs.Global.{Global}
use Rattle.atomic_table.specs.Table.{opening}
use Rattle.hall_lock.specs.Rule.{IsKept}
use Rattle.hall_lock.specs.AtTable.{first_view}
use Rattle.hall_lock.proofs.Ends.{opens}
use Rattle.hall_lock.proofs.shared.Shared.reserve.Goals as goal

pub new-requires-2 : goal.new-requires-2
new-requires-2 g c =
    let holds : List (Option (Box g.row.M.Denot Global)) → Type 0 = λ xs. IsKept {M = g.row.M.Denot} {C = g.row.M-Call.Denot} {R = g.row.M-Reply.Denot} g.M.Machine.shape g.M.Machine.fits g.M.Machine.steps c.of.result.value c.args.turns (opening (0 ∷ 0 ∷ []) xs (first_view c.of.result.value c.args.turns)) in
    let items : c.push.new.self.items ≡ Some c.in-Ok.machine ∷ [] = search rules in
    let same : c.in-Ok.machine.value ≡ c.of.result.value = search rules in
    subst holds (sym items) (opens g.M.Machine.shape g.M.Machine.fits g.M.Machine.steps c.of.result.value c.args.turns c.in-Ok.machine same)
