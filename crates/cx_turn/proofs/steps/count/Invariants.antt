use Rattle.cx_turn.proofs.steps.count.Given as goal

abbrev pub ghosts-add_as : goal.ghosts-add_as
ghosts-add_as g a = record { entry = a.e.now }
