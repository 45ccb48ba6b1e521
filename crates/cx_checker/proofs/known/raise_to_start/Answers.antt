use Rattle.std.proofs.Common.{ap, sym, ◌∙◌, max}
use Rattle.std.proofs.lemmas.Option.{slice_get_read}
use Rattle.cx_checker.specs.Knowledge.{place_in}
use Rattle.cx_checker.proofs.Knowing.{nothing_raised, raised_there}
use Rattle.cx_checker.proofs.known.raise_to_start.Goals as goal

pub returns-in_ok-raise : goal.returns-in_ok-raise
returns-in_ok-raise c = λ o. raised_there o c.args.begun.now c.start_of-i.result c.index-begun-i.result _ _ _ c.if-i-begun.true c.index-begun-i.is (c.in_ok-raise.ensures o) (c.start_of-i.ensures.found o)
