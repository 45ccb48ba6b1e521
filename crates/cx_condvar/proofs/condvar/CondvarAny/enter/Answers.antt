use Rattle.std.proofs.Common.{true, false, refl, subst, pos}
use Rattle.cx_names.specs.declared.Reply.{Reply}
use Rattle.cx_machine.specs.declared.kind.Op.TheVariants as ops
use Rattle.cx_machine.specs.Meaning.{change}
use Rattle.cx_turn.specs.Acts.{Makes}
use Rattle.cx_condvar.specs.Kinds.{waiting}
use Rattle.cx_condvar.proofs.Entering.{enters_in, enters_now}
use Rattle.cx_condvar.proofs.Passes.{stands_found, stands_then, number_on}
use Rattle.cx_condvar.proofs.condvar.CondvarAny.enter.Goals as goal

pub unreachable-requires : goal.unreachable-requires
unreachable-requires g c =
    let p = c.requires.pass in
    let f = c.in-None.ensures.none p.0 p.1 in
    enters_now f.2.now c.args.pass.now.number (stands_found c.args.self.now c.args.pass.now c.try_change.new.pass p.0 f.0 p.1 f.1 _ f.2 false c.requires.out) f.2.holds

pub returns-clause-entered : goal.returns-clause-entered
returns-clause-entered g c =
    let by = c.args.pass.now.number in
    let p = c.requires.pass in
    let r = c.in-Some.field-0-0 in
    let d = c.in-Some.ensures.made p.0 p.1 in
    (c.number.ensures, stands_then c.args.self.now c.args.pass.now c.try_change.new.pass p.0 d.0 p.1 d.1 (change by ops.Enter (pos 0) (pos 0) r) c.in-Some.at refl d.2 true (enters_in d.2.now d.2.after by r d.2.enabled).1)

pub returns-clause-made : goal.returns-clause-made
returns-clause-made g c v is =
    let by = c.args.pass.now.number in
    let r = c.in-Some.field-0-0 in
    let d = c.in-Some.ensures.made v is in
    (d.0, d.1, subst (λ (x : Reply). Makes waiting v d.0 (change by ops.Enter (pos 0) (pos 0) x) c.in-Some.at) (enters_in d.2.now d.2.after by r d.2.enabled).0 d.2)

pub returns-clause-number : goal.returns-clause-number
returns-clause-number g c =
    let p = c.requires.pass in
    let d = c.in-Some.ensures.made p.0 p.1 in
    number_on c.args.self.now c.args.pass.now c.try_change.new.pass p.0 d.0 p.1 d.1 (change c.args.pass.now.number ops.Enter (pos 0) (pos 0) c.in-Some.field-0-0) c.in-Some.at refl d.2
