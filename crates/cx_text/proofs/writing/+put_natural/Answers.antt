use Rattle.std.proofs.Common.{arith}
use Rattle.cx_text.proofs.Written.{last_digit}
use Rattle.cx_text.proofs.writing.+put_natural.Goals as goal

pub returns : goal.returns
returns t c = rw (c.in_ok-push.ensures.items, c.in_ok-put_natural.ensures) (last_digit _ c.args.n (omega arith) (omega arith))
