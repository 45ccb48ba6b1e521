use Rattle.std.proofs.Common.{map, arith, length}
use Rattle.std.proofs.lemmas.List.{length-map}
use Rattle.cx_checker.specs.Views.{placed_of}
use Rattle.cx_checker.proofs.Placings.{is_only, tells_free, tells_twice}
use Rattle.cx_checker.proofs.placing.only_at.Goals as goal

pub slot_at-requires : goal.slot_at-requires
slot_at-requires c = omega (arith, c.requires.low, c.requires.placed.count, length-map c.args.changes.now placed_of)

pub returns-in-Once : goal.returns-in-Once
returns-in-Once c = is_only (map placed_of c.args.changes.now) c.args.slots.now c.args.k c.in-Once.i _ c.requires.placed c.in-Once.ensures c.found.ensures

pub returns-in-Free : goal.returns-in-Free
returns-in-Free c = tells_free (map placed_of c.args.changes.now) c.args.slots.now c.args.k c.requires.placed c.in-Free.ensures

pub returns-in-Twice : goal.returns-in-Twice
returns-in-Twice c = tells_twice (map placed_of c.args.changes.now) c.args.slots.now c.args.k c.requires.placed c.in-Twice.ensures
