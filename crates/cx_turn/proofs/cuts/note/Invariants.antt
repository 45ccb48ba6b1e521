use Rattle.cx_turn.proofs.cuts.note.Given as goal

abbrev pub ghosts-note_as : goal.ghosts-note_as
ghosts-note_as g a = record { calls = a.calls; share = a.share; id = a.id }
