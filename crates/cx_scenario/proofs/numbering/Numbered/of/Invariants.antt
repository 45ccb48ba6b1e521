use Rattle.std.proofs.Common.{◌≡◌, ◌++◌, ◌∷◌, drop, map, length}
use Rattle.cx_scene.specs.declared.declared.Thread.TheVariants as thread_kinds
use Rattle.cx_script.specs.Numbered.{threads_from, objects_from}
use Rattle.cx_scenario.specs.Whole.{declaration_seen, callbacks_from}
use Rattle.cx_scenario.proofs.numbering.Numbered.of.Given as goal

abbrev pub invariant-loop-d : goal.invariant-loop-d
invariant-loop-d l = record {
  threads : l.numbered.threads.items ++ threads_from (length l.numbered.objects.items) (map declaration_seen (drop l.d-index l.declarations)) ≡ thread_kinds.Plain ∷ threads_from 0 (map declaration_seen l.declarations);
  objects : l.numbered.objects.items ++ objects_from (length l.numbered.threads.items) (map declaration_seen (drop l.d-index l.declarations)) ≡ objects_from 1 (map declaration_seen l.declarations);
  callbacks : l.numbered.callbacks.items ++ callbacks_from (map declaration_seen (drop l.d-index l.declarations)) ≡ callbacks_from (map declaration_seen l.declarations);
}
