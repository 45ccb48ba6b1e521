use Rattle.cx_work.proofs.Actions.{slice_seen, is_left, none_left}
use Rattle.cx_work.proofs.acting.leaves_completing.Goals as goal

pub is_completing-requires : goal.is_completing-requires
is_completing-requires c = record { seen = slice_seen c.args.accesses.now c.in-Change.o.0 c.index-accesses-i.result c.requires c.if-i-accesses.true c.index-accesses-i.is }

pub returns-then-i-accesses : goal.returns-then-i-accesses
returns-then-i-accesses c = is_left c.args.accesses.now c.args.item.now c.in-Change.o c.in-Change.field-1 c.in-Change.field-2 c.index-accesses-i.result c.is_completing.result c.in-Change.is c.if-i-accesses.true c.index-accesses-i.is c.is_completing.ensures

pub returns-else-i-accesses : goal.returns-else-i-accesses
returns-else-i-accesses c = none_left c.args.accesses.now c.args.item.now c.in-Change.o c.in-Change.field-1 c.in-Change.field-2 c.in-Change.is c.if-i-accesses.false
