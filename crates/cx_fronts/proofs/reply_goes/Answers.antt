use Rattle.cx_fronts.proofs.Grown.{reply_goes}
use Rattle.cx_fronts.proofs.reply_goes.Goals as goal

pub returns : goal.returns
returns c = reply_goes
