use Rattle.cx_cell.proofs.Bits.{added_low, added_high}
use Rattle.cx_cell.proofs.called.Called.add.Goals as goal

pub returns-then-seat-lt128 : goal.returns-then-seat-lt128
returns-then-seat-lt128 c n low = added_low c.args.self.now c.args.seat.0 n c.if-seat-lt128.true

pub returns-then-seat-lt256 : goal.returns-then-seat-lt256
returns-then-seat-lt256 c n low = added_high c.args.self.now c.args.seat.0 n c.if-seat-lt128.false c.if-seat-lt256.true
