use Rattle.std.proofs.Common.{ap, ◌∙◌, ◌++◌, ◌∷◌, [], List, ℕ}
use Rattle.cx_scenario.proofs.Found.{kept_push}
use Rattle.cx_scenario.proofs.kept.Kept.push.Goals as goal

pub invariant_of-self-in-Ok : goal.invariant_of-self-in-Ok
invariant_of-self-in-Ok c =
    kept_push c.self.inside.names c.push-2.new.self c.self.inside.lines.items c.push.new.self.items c.args.line c.self.invariant c.in_ok-push.ensures.items
    (c.in-Ok.ensures.put ∙ ap (λ (n : List ℕ). c.self.inside.names ++ n ∷ []) c.subject-name.ensures) c.requires
