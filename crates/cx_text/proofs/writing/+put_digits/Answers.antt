use Rattle.std.proofs.Common.{arith}
use Rattle.cx_text.proofs.Written.{one_digit, last_digit}
use Rattle.cx_text.proofs.writing.+put_digits.Goals as goal

pub returns-then-n-lt10 : goal.returns-then-n-lt10
returns-then-n-lt10 t c = rw c.in_ok-push.ensures.items (one_digit _ c.args.n c.if-n-lt10.true)

pub returns : goal.returns
returns t c = rw (c.in_ok-push-2.ensures.items, c.in_ok-put_digits.ensures) (last_digit _ c.args.n (omega arith) (omega arith))
