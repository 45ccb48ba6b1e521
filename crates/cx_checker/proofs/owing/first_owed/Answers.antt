use Rattle.std.proofs.Common.{rules, sym, refl, length, ◌<◌, subst}
use Rattle.cx_history.specs.declared.flaw.Cause.TheVariants as causes
use Rattle.cx_history.specs.Histories.{owed}
use Rattle.cx_history.specs.Legal.{is_at_least}
use Rattle.cx_history.specs.Views.{recorded_of}
use Rattle.cx_checker.specs.declared.owing.Main.{Main}
use Rattle.cx_checker.specs.Knowledge.{IsMain}
use Rattle.cx_checker.proofs.Knowing.{bad_list_at}
use Rattle.cx_checker.proofs.owing.first_owed.Goals as goal

pub returns-in-Owes : goal.returns-in-Owes
returns-in-Owes c =
    let low : 0 < length c.args.record.now.lists.items = search rules in
    let is = subst (IsMain (recorded_of c.args.record.now)) c.in-Owes.is c.in_ok-main.ensures in
    bad_list_at causes.Order (λ t i x. is_at_least (owed (recorded_of c.args.record.now) t i) x) 0 c.args.record.now _ c.in-Owes.flaw low (sym is) refl
