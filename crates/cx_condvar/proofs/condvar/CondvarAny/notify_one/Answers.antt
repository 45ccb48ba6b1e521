use Rattle.std.proofs.Common.{◌≡◌, refl, subst, pos}
use Rattle.cx_names.specs.declared.Reply.{Reply}
use Rattle.cx_machine.specs.declared.kind.Op.TheVariants as ops
use Rattle.cx_machine.specs.Meaning.{change}
use Rattle.cx_turn.specs.Acts.{Makes}
use Rattle.cx_condvar.specs.Acts.{first_of}
use Rattle.cx_condvar.specs.Kinds.{waiting}
use Rattle.cx_condvar.proofs.Entering.{notifies_now, notifies_same, notified_by, who_first}
use Rattle.cx_condvar.proofs.Passes.{stands_now, stands_then, number_on}
use Rattle.cx_condvar.proofs.condvar.CondvarAny.notify_one.Goals as goal

pub unreachable-requires : goal.unreachable-requires
unreachable-requires g c =
    let p = c.requires.pass in
    let f = c.in-None.ensures.none p.0 p.1 in
    notifies_now f.2.now c.args.pass.now.number f.2.holds

pub picked-requires : goal.picked-requires
picked-requires g c =
    let p = c.requires.pass in
    let d = c.in-Some.ensures.made p.0 p.1 in
    notified_by d.2.now.waiting c.in-Some.reply d.2.picked

pub returns-clause-number : goal.returns-clause-number
returns-clause-number g c =
    let p = c.requires.pass in
    let d = c.in-Some.ensures.made p.0 p.1 in
    number_on c.args.self.now c.args.pass.now c.try_change.new.pass p.0 d.0 p.1 d.1 (change c.args.pass.now.number ops.NotifyOne (pos 0) (pos 0) c.in-Some.reply) c.in-Some.at refl d.2

pub returns-clause-same : goal.returns-clause-same
returns-clause-same g c b had =
    let by = c.args.pass.now.number in
    let p = c.requires.pass in
    let d = c.in-Some.ensures.made p.0 p.1 in
    let e = change by ops.NotifyOne (pos 0) (pos 0) c.in-Some.reply in
    let now = stands_now c.args.self.now c.args.pass.now c.try_change.new.pass p.0 d.0 p.1 d.1 e c.in-Some.at refl d.2 b had in
    stands_then c.args.self.now c.args.pass.now c.try_change.new.pass p.0 d.0 p.1 d.1 e c.in-Some.at refl d.2 b (notifies_same b by.0 d.2.now d.2.after by c.in-Some.reply now d.2.enabled)

pub returns-clause-notified : goal.returns-clause-notified
returns-clause-notified g c v is =
    let by = c.args.pass.now.number in
    let r = c.in-Some.reply in
    let d = c.in-Some.ensures.made v is in
    let first = who_first d.2.now.waiting r c.picked.result d.2.picked c.picked.ensures in
    (d.0, d.1, subst (λ (x : Reply). (made : Makes waiting v d.0 (change by ops.NotifyOne (pos 0) (pos 0) x) c.in-Some.at) × (c.picked.result ≡ first_of made.now.waiting)) c.picked.ensures (d.2, first))
