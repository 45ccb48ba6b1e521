use Rattle.cx_turn.proofs.steps.see.Given as goal

abbrev pub ghosts-see_as : goal.ghosts-see_as
ghosts-see_as g a = record { look = a.l.now }
