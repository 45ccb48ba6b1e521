use Rattle.std.proofs.Common.{◌∙◌, sym, ap, map, List}
use Rattle.std.specs.Prelude.{Ok}
use Rattle.cx_text.specs.Words.{Filled}
use Rattle.cx_script.specs.Script.{Script, declarations_of}
use Rattle.cx_scenario.specs.Views.{state_of, names_seen, group_seen}
use Rattle.cx_scenario.specs.Whole.{declaration_seen}
use Rattle.cx_scenario.proofs.Ending.{whole_script, whole_plan, whole_names}
use Rattle.cx_scenario.proofs.scenario.finish.Goals as goal

pub invariant_of-result : goal.invariant_of-result
invariant_of-result c = record {
  script = record {
    limit = c.args.limit;
    text = c.args.text.now;
    within = c.requires.limit;
    means = c.requires.means ∙ ap (λ (s : Script). Ok s) (sym (whole_script (state_of c.args.reader) (map declaration_seen c.in_ok-declarations.declarations.items) (map (λ b. b.items) c.in_ok-bodies.bodies.items) (map group_seen c.in_ok-done.done.items) (map (λ n. n.items) c.names.result.now)
        (c.in_ok-declarations.ensures ∙ ap (λ (ks : List Filled). declarations_of (names_seen c.args.reader.names) ks) c.lines.ensures)
        c.in_ok-bodies.ensures c.in_ok-done.ensures c.names.ensures));
  };
  plan_is =
      whole_plan c.in_ok-threads.field-0.threads.items c.in_ok-threads.field-0.objects.items c.in_ok-threads.field-0.callbacks.items (map (λ b. b.items) c.in_ok-bodies.bodies.items) c.in_ok-declarations.declarations.items c.deref-2.result.now
      c.deref-2.ensures.value c.in_ok-threads.ensures.threads c.in_ok-threads.ensures.objects c.in_ok-threads.ensures.callbacks;
  names_are =
      whole_names (map (λ n. n.items) c.in_ok-roll.roll.threads.items) (map (λ n. n.items) c.in_ok-roll.roll.objects.items) (map (λ n. n.items) c.in_ok-roll.roll.callbacks.items) (map (λ b. b.items) c.in_ok-bodies.bodies.items) c.in_ok-declarations.declarations.items c.deref.result.now
      c.deref.ensures.value c.in_ok-roll.ensures.threads c.in_ok-roll.ensures.objects c.in_ok-roll.ensures.callbacks;
}

pub returns : goal.returns
returns c = whole_script (state_of c.args.reader) (map declaration_seen c.in_ok-declarations.declarations.items) (map (λ b. b.items) c.in_ok-bodies.bodies.items) (map group_seen c.in_ok-done.done.items) (map (λ n. n.items) c.names.result.now)
    (c.in_ok-declarations.ensures ∙ ap (λ (ks : List Filled). declarations_of (names_seen c.args.reader.names) ks) c.lines.ensures)
    c.in_ok-bodies.ensures c.in_ok-done.ensures c.names.ensures
