use Rattle.std.proofs.Common.{◌≡◌, ◌-◌, refl, ap, subst, arith, pos}
use Rattle.cx_names.specs.declared.Reply.{Reply}
use Rattle.cx_machine.specs.declared.kind.Op.TheVariants as ops
use Rattle.cx_machine.specs.Meaning.{change, look_of}
use Rattle.cx_machine.specs.Once.{Once}
use Rattle.cx_turn.specs.declared.view.View.{View}
use Rattle.cx_turn.specs.Acts.{Makes, Looks}
use Rattle.cx_sync.specs.Kinds.{executing}
use Rattle.cx_sync.proofs.Running.{begins_so, passive_so}
use Rattle.cx_sync.proofs.Executions.{begun_active}
use Rattle.cx_sync.proofs.once.OnceFlag.begin.Goals as goal

pub returns-in-Made-clause-begun : goal.returns-in-Made-clause-begun
returns-in-Made-clause-begun g c =
    let by = c.args.pass.now.number in
    let r = c.in-Made.field-0 in
    let p = c.requires.pass in
    let q = c.in-Made.ensures p.0 p.1 in
    let d : Makes executing p.0 q.0 (change by ops.Begin (pos 0) (pos 0) r) c.in-Made.at = q.2 in (
      (let less : q.0.left ≡ p.0.left - 1 = ap (λ (x : View Once). x.left) d.view in
          let had = p.1.counted.may in
          let has = q.1.counted.may in
          let one = c.requires.left in
          omega arith),
      (
        c.number.ensures,
        begun_active c.args.self.now c.args.pass.now c.wait_either.new.pass p.0 q.0 p.1 q.1 (change by ops.Begin (pos 0) (pos 0) r) c.in-Made.at d refl (begins_so d.now d.after by r d.enabled).1,
      ),
      λ v is.
          let q = c.in-Made.ensures v is in
          let d : Makes executing v q.0 (change by ops.Begin (pos 0) (pos 0) r) c.in-Made.at = q.2 in
          (q.0, q.1, subst (λ (x : Reply). Makes executing v q.0 (change by ops.Begin (pos 0) (pos 0) x) c.in-Made.at) (begins_so d.now d.after by r d.enabled).0 d),
    )

pub returns-in-Seen-clause-begun : goal.returns-in-Seen-clause-begun
returns-in-Seen-clause-begun g c =
    let by = c.args.pass.now.number in
    let r = c.in-Seen.field-0 in
    let p = c.requires.pass in
    let q = c.in-Seen.ensures p.0 p.1 in
    let d : Looks executing p.0 q.0 (look_of by ops.Passive (pos 0) (pos 0) r c.in-Seen.at) = q.2 in (
      (let less : q.0.left ≡ p.0.left = ap (λ (x : View Once). x.left) d.view in
          let had = p.1.counted.may in
          let has = q.1.counted.may in
          omega arith),
      λ v is.
          let q = c.in-Seen.ensures v is in
          let d : Looks executing v q.0 (look_of by ops.Passive (pos 0) (pos 0) r c.in-Seen.at) = q.2 in
          (q.0, q.1, subst (λ (x : Reply). Looks executing v q.0 (look_of by ops.Passive (pos 0) (pos 0) x c.in-Seen.at)) (passive_so d.now by r c.in-Seen.at d.shown) d),
    )
