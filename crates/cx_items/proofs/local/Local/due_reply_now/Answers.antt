use Rattle.std.proofs.Common.{◌+◌, ◌∷◌, drop, ap, sym, ◌∙◌}
use Rattle.cx_items.specs.Next.{due_reply}
use Rattle.cx_items.proofs.Offers.{drop_at}
use Rattle.cx_items.proofs.Replies.{no_reply}
use Rattle.cx_items.proofs.local.Local.due_reply_now.Goals as goal

pub returns-in-Says : goal.returns-in-Says
returns-in-Says c =
    let tasks = c.args.self.now.agenda in
    let rest = drop (c.undue-depth.result + 1) tasks in
    sym (ap due_reply (sym c.undue-depth.ensures ∙ (drop_at tasks c.undue-depth.result c.at.result.now c.at.ensures ∙ ap (λ task. task ∷ rest) c.in-Says.is)))

pub returns-in_default : goal.returns-in_default
returns-in_default c =
    let tasks = c.args.self.now.agenda in
    let rest = drop (c.undue-depth.result + 1) tasks in
    sym (ap due_reply (sym c.undue-depth.ensures ∙ drop_at tasks c.undue-depth.result c.at.result.now c.at.ensures) ∙ no_reply c.at.result.now rest c.in_default.not-Says)
