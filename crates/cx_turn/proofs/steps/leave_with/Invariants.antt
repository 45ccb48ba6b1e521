use Rattle.cx_turn.proofs.steps.leave_with.Given as goal

abbrev pub ghosts-leave_as : goal.ghosts-leave_as
ghosts-leave_as g a = record { entry = a.e.now.value }
