use Rattle.std.proofs.Common.{◌∙◌, ap, map, List, Vec, Global}
use Rattle.cx_scene.specs.declared.call.Call.{Call}
use Rattle.cx_scenario.specs.declared.declaration.Declaration.{Declaration as DeclarationOf}
use Rattle.cx_scenario.specs.Whole.{roll_seen, declaration_seen, script_by}
use Rattle.cx_scenario.proofs.Canonical.{same_lines}
use Rattle.cx_scenario.proofs.scenario.Scenario.write.Goals as goal

pub returns : goal.returns
returns c =
    c.in_ok-text.ensures
    ∙ same_lines (roll_seen c.self.inside.roll) (map declaration_seen c.deref.result.now) (map (λ b. b.items) c.deref-2.result.now) (script_by c.self.inside.declarations.items c.self.inside.plan) c.args.self.now
    (ap (λ (x : List DeclarationOf). map declaration_seen x) c.deref.ensures.value)
    (ap (λ (x : List (Vec Call Global)). map (λ b. b.items) x) c.deref-2.ensures.value)
    c.self.invariant.names_are c.self.view_is
