use Rattle.std.proofs.Common.{refl, arith, None}
use Rattle.cx_turn.specs.Views.{less_share, note_right}
use Rattle.cx_stop.proofs.state.StopState.split_source.Goals as goal

pub part-requires-clause-note : goal.part-requires-clause-note
part-requires-clause-note g c = let s = c.requires.source in (s.0, s.1.note)

pub returns-clause-sources : goal.returns-clause-sources
returns-clause-sources g c =
    let s = c.requires.source in let n = c.args.n in (
      (less_share s.0 n, record { note = c.part.ensures.rest s.0 s.1.note; calls = s.1.calls; ids = s.1.ids }),
      (note_right s.0 0 n None, record { note = c.part.ensures.part s.0 s.1.note; calls = refl; ids = refl }),
    )

pub returns-clause-shares : goal.returns-clause-shares
returns-clause-shares g c =
    let s = c.requires.source in
    let had = s.1.note.counted.part in
    let a = (c.part.ensures.rest s.0 s.1.note).counted.part in
    let b = (c.part.ensures.part s.0 s.1.note).counted.part in
    let h = c.requires.held in
    (omega (arith, had, a, h), omega (arith, b))

pub returns-clause-rest : goal.returns-clause-rest
returns-clause-rest g c v is = record { note = c.part.ensures.rest v is.note; calls = is.calls; ids = is.ids }

pub returns-clause-part : goal.returns-clause-part
returns-clause-part g c v is = record { note = c.part.ensures.part v is.note; calls = refl; ids = refl }
