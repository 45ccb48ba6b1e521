use Rattle.std.proofs.Common.{rules, ◌≡◌, ℕ, ℤ, IfSome, IfNone, IsTrue, subst}
use mir.Syntax.{w64}
use mir.Val.{to_z, of_z}
use Rattle.cx_names.specs.declared.Reply.{Reply}
use Rattle.cx_machine.specs.Acts.{at_look}
use Rattle.cx_machine.specs.Meaning.{look_of, ShowsNone}
use Rattle.cx_machine.specs.Registries.{registry_of}
use Rattle.cx_machine.specs.Stop.{shows}
use Rattle.cx_stop.specs.declared.kept.Stored.{Stored}
use Rattle.cx_stop.proofs.kept.KeptMachineStopMachine.show.Goals as goal

pub returns-clause-shown : goal.returns-clause-shown
returns-clause-shown g c =
    let r = c.show.result in
    let ea : to_z w64 (of_z w64 c.args.a) ≡ c.args.a = search rules in
    let eb : to_z w64 (of_z w64 c.args.b) ≡ c.args.b = search rules in
    subst (λ (x : Stored g.row.C.Denot × (ℤ × ℤ)). IfSome r (λ (q : Reply). (k : ℕ) → IsTrue (at_look shows (registry_of x.0.state) (look_of c.args.by c.args.op x.1.0 x.1.1 q k)))) (λ i. (c.deref.ensures i, (ea i, eb i))) c.show.ensures.shown

pub returns-clause-none : goal.returns-clause-none
returns-clause-none g c =
    let ea : to_z w64 (of_z w64 c.args.a) ≡ c.args.a = search rules in
    let eb : to_z w64 (of_z w64 c.args.b) ≡ c.args.b = search rules in
    subst (λ (x : Stored g.row.C.Denot × (ℤ × ℤ)). IfNone c.show.result (ShowsNone (at_look shows) (registry_of x.0.state) c.args.by c.args.op x.1.0 x.1.1)) (λ i. (c.deref.ensures i, (ea i, eb i))) c.show.ensures.none
