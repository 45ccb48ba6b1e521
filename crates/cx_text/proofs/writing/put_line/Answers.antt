use Rattle.std.proofs.Common.{map}
use Rattle.cx_text.specs.Views.{seen}
use Rattle.cx_text.proofs.Written.{line_is}
use Rattle.cx_text.proofs.writing.put_line.Goals as goal

pub returns : goal.returns
returns g c = rw (c.in_ok-push.ensures.items, c.in_ok-put_values.ensures, c.in_ok-extend_from_slice.ensures.items, c.head.ensures) (line_is c.args.out.now.items _ (map seen c.args.values.now))
