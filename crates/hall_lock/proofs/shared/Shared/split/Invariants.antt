use Rattle.hall_lock.proofs.shared.Shared.split.Given as goal

abbrev pub ghosts-cut_as : goal.ghosts-cut_as
ghosts-cut_as g a = record { part = a.part }
