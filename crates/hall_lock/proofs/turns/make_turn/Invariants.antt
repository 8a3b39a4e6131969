use Rattle.std.proofs.Common.{[], ◌∷◌}
use Rattle.hall_lock.specs.AtTable.{turn_of}
use Rattle.hall_lock.proofs.turns.make_turn.Given as goal

abbrev pub ghosts-pass_as : goal.ghosts-pass_as
ghosts-pass_as g a = record { added = turn_of a.call.now.value a.reply.now ∷ [] }
