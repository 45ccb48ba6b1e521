use Rattle.std.proofs.Common.{◌≡◌, ◌≤◌, ◌+◌, ap, arith}
use Rattle.cx_object_tests.proofs.turn.cuts_and_mends.Goals as goal

pub take_in-requires-clause-pass : goal.take_in-requires-clause-pass
take_in-requires-clause-pass c = (_, c.note-note.ensures.rest _ c.in_ok-door.ensures.pass)

pub take_in-requires-clause-note : goal.take_in-requires-clause-note
take_in-requires-clause-note c = (_, c.note-note.ensures.note _ c.in_ok-door.ensures.pass)
