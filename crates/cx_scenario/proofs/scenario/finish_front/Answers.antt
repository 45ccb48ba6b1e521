use Rattle.std.proofs.Common.{◌≡◌, sym, subst, List, ℕ}
use Rattle.std.specs.Prelude.{Ok}
use Rattle.cx_script.specs.Script.{meaning}
use Rattle.cx_scenario.specs.Views.{state_of}
use Rattle.cx_scenario.specs.Finished.{script_in}
use Rattle.cx_scenario.proofs.Fronts.{front_within, front_means, front_apart, is_front}
use Rattle.cx_scenario.proofs.scenario.finish_front.Goals as goal

pub part-front-requires : goal.part-front-requires
part-front-requires c = front_within c.args.room c.args.text.now c.args.count c.front_bytes-bytes.result c.in_ok-next.next (state_of c.args.reader) c.requires.reads c.front_bytes-bytes.ensures

pub finish-requires-clause-means : goal.finish-requires-clause-means
finish-requires-clause-means c = subst (λ (x : List ℕ). meaning c.args.room x ≡ Ok (script_in (state_of c.args.reader))) (sym c.part-front.ensures) (front_means c.args.room c.args.text.now c.args.count c.front_bytes-bytes.result c.in_ok-next.next (state_of c.args.reader) c.requires.reads c.front_bytes-bytes.ensures)

pub finish-requires-clause-apart : goal.finish-requires-clause-apart
finish-requires-clause-apart c = front_apart c.args.room c.args.text.now c.args.count c.front_bytes-bytes.result c.in_ok-next.next (state_of c.args.reader) c.requires.reads c.front_bytes-bytes.ensures

pub returns : goal.returns
returns c = is_front c.args.room c.args.text.now c.args.count c.front_bytes-bytes.result c.in_ok-next.next (state_of c.args.reader) c.requires.reads c.front_bytes-bytes.ensures c.in_ok-scenario.scenario c.in_ok-scenario.ensures c.in_ok-next.ensures
