use Rattle.std.proofs.Common.{◌∙◌, ◌++◌, ◌∷◌, [], ap, map, filter, drop, List, ℕ}
use Rattle.std.specs.List.{flat_map}
use Rattle.cx_scene.specs.declared.call.Call.{Call}
use Rattle.cx_text.specs.declared.form.Form.TheVariants as forms
use Rattle.cx_script.specs.Script.{shown, version_line, bodies_from, body_lines, is_thread, line}
use Rattle.cx_scenario.specs.Whole.{roll_seen, declaration_seen, declaration_line}
use Rattle.cx_scenario.proofs.Canonical.{four_parts}
use Rattle.cx_scenario.proofs.writing.write_text.Goals as goal

pub returns : goal.returns
returns c =
    four_parts c.put_line.new.out.items c.put_declarations.new.out.items c.put_bodies.new.out.items c.put_body.new.out.items version_line
    (map (declaration_line (roll_seen c.args.roll.now)) (map declaration_seen c.args.declarations.now))
    (bodies_from (roll_seen c.args.roll.now) (filter is_thread (map declaration_seen c.args.declarations.now)) (map (λ b. b.items) c.other_bodies-others.result.now))
    (body_lines (roll_seen c.args.roll.now) (line forms.Main []) c.main_calls-main.result.now)
    (c.in_ok-put_line.ensures ∙ ap (λ (t : List ℕ). t ++ shown version_line) c.new-out.ensures.items) c.in_ok-put_declarations.ensures c.in_ok-put_bodies.ensures c.in_ok-put_body.ensures
    ∙ ap (λ (x : List (List Call)). flat_map shown ((version_line ∷ map (declaration_line (roll_seen c.args.roll.now)) (map declaration_seen c.args.declarations.now)) ++ bodies_from (roll_seen c.args.roll.now) (filter is_thread (map declaration_seen c.args.declarations.now)) x ++ body_lines (roll_seen c.args.roll.now) (line forms.Main []) c.main_calls-main.result.now)) c.other_bodies-others.ensures
    ∙ ap (λ (x : List Call). flat_map shown ((version_line ∷ map (declaration_line (roll_seen c.args.roll.now)) (map declaration_seen c.args.declarations.now)) ++ bodies_from (roll_seen c.args.roll.now) (filter is_thread (map declaration_seen c.args.declarations.now)) (drop 1 (map (λ b. b.items) c.args.bodies.now)) ++ body_lines (roll_seen c.args.roll.now) (line forms.Main []) x)) c.main_calls-main.ensures
