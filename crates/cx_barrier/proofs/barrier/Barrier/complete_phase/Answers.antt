use Rattle.std.proofs.Common.{refl, subst, pos}
use Rattle.cx_names.specs.declared.Reply.{Reply}
use Rattle.cx_machine.specs.declared.kind.Op.TheVariants as ops
use Rattle.cx_machine.specs.Meaning.{change}
use Rattle.cx_turn.specs.Acts.{Makes}
use Rattle.cx_barrier.specs.Kinds.{meeting}
use Rattle.cx_barrier.proofs.Arrivals.{completes_so, completes_or_not}
use Rattle.cx_barrier.proofs.Passing.{changes_on, less_left, due_found}
use Rattle.cx_barrier.proofs.barrier.Barrier.complete_phase.Goals as goal

pub unreachable-requires : goal.unreachable-requires
unreachable-requires g c =
    let p = c.requires.pass in
    let q = c.in-None.ensures.none p.0 p.1.pass in
    let due = due_found c.args.self.now c.args.pass.now c.try_change.new.pass p.0 q.0 p.1 q.1 _ q.2 c.args.completing c.requires.completing in
    completes_or_not q.2.now c.args.pass.now.pass.number due.0 due.1 q.2.holds

pub returns-clause-idle : goal.returns-clause-idle
returns-clause-idle g c =
    let by = c.args.pass.now.pass.number in let r = c.in-Some.field-0-0 in
    let p = c.requires.pass in
    let q = c.in-Some.ensures.made p.0 p.1.pass in
    (q.0, changes_on c.args.self.now c.args.pass.now c.try_change.new.pass p.0 q.0 p.1 q.1 (change by ops.Complete (pos 0) (pos 0) r) c.in-Some.at q.2 refl _ refl refl refl)

pub returns-clause-left : goal.returns-clause-left
returns-clause-left g c =
    let by = c.args.pass.now.pass.number in let r = c.in-Some.field-0-0 in
    let p = c.requires.pass in
    let q = c.in-Some.ensures.made p.0 p.1.pass in
    less_left c.args.self.now c.args.pass.now c.try_change.new.pass p.0 q.0 p.1 q.1 (change by ops.Complete (pos 0) (pos 0) r) c.in-Some.at q.2 refl (record { pass = c.try_change.new.pass; phase = c.args.pass.now.phase }) refl c.requires.left

pub returns-clause-made : goal.returns-clause-made
returns-clause-made g c v is =
    let by = c.args.pass.now.pass.number in let r = c.in-Some.field-0-0 in let at = c.in-Some.at in
    let q = c.in-Some.ensures.made v is.pass in (
      q.0,
      changes_on c.args.self.now c.args.pass.now c.try_change.new.pass v q.0 is q.1 (change by ops.Complete (pos 0) (pos 0) r) at q.2 refl _ refl refl refl,
      subst (λ (x : Reply). Makes meeting v q.0 (change by ops.Complete (pos 0) (pos 0) x) at) (completes_so q.2.now q.2.after by r q.2.enabled).0 q.2,
    )

pub try_change-requires-clause-pass : goal.try_change-requires-clause-pass
try_change-requires-clause-pass g c = let p = c.requires.pass in (p.0, p.1.pass)
