use Rattle.std.proofs.Common.{refl, ap, ◌∙◌}
use Rattle.std.specs.Arc.{arc_value}
use Rattle.std.specs.Global.{Vec}
use Rattle.cx_names.specs.declared.ThreadNo.{ThreadNo}
use Rattle.cx_items.specs.declared.item.Item.{Item}
use Rattle.cx_kinds.specs.declared.access.Access.{Access}
use Rattle.cx_run.specs.declared.run.Run.{Run}
use Rattle.cx_run.specs.Runs.{tally}
use Rattle.cx_run.proofs.Mains.{same_mains}
use Rattle.cx_run.proofs.Parts.{same_run, same_tally}
use Rattle.cx_run.proofs.Stepped.{own_run, back_kept, back_run, main_next}
use Rattle.cx_run.proofs.run.Run.make_main.Goals as goal

pub step-requires-clause-run : goal.step-requires-clause-run
step-requires-clause-run g c κs within =
    let v = c.loop.self in
    let e = c.enter.new.self in
    let n = c.next-in-loop.new.self in
    let same = c.next-in-loop.ensures.same in
    let w : Run g.row.G.Denot = record { objects = v.objects; main = n; others = v.others } in
    own_run w (same_run v w refl (same.0 ∙ c.enter.ensures.0) (ap (λ (x : Vec Access). x.items) (same.1 ∙ c.enter.ensures.1)) (ap (λ (x : Vec Item). x.items) (same.2 ∙ c.enter.ensures.2)) (same.3 ∙ c.enter.ensures.3) refl c.loop.invariant.2)

pub step-requires-clause-next : goal.step-requires-clause-next
step-requires-clause-next g c κs within =
    let e = c.enter.new.self in
    let n = c.next-in-loop.new.self in
    main_next c.deref-in-loop.result.now (arc_value c.loop.self.objects.plan) e.thread e.local n.local c.in_ok-next.field-0 n.forms.items c.if-not-branch.false c.deref-in-loop.ensures (ap (λ (t : ThreadNo). t.0) c.enter.ensures.0 ∙ c.loop.invariant.2.kept.thread) c.next-in-loop.ensures.same.3 c.in_ok-next.ensures.next

pub loop-preserved : goal.loop-preserved
loop-preserved g c =
    let v = c.loop.self in
    let n = c.next-in-loop.new.self in
    let same = c.next-in-loop.ensures.same in
    let w : Run g.row.G.Denot = record { objects = v.objects; main = n; others = v.others } in
    let came = same_run v w refl (same.0 ∙ c.enter.ensures.0) (ap (λ (x : Vec Access). x.items) (same.1 ∙ c.enter.ensures.1)) (ap (λ (x : Vec Item). x.items) (same.2 ∙ c.enter.ensures.2)) (same.3 ∙ c.enter.ensures.3) refl c.loop.invariant.2 in
    let r = c.step.new.self in
    let before = tally (g.P.Spawner.faults c.loop.spawner) (g.P.Spawner.started c.loop.spawner) (g.P.Spawner.carried c.loop.spawner) in
    let now = tally (g.P.Spawner.faults c.step.new.spawner) (g.P.Spawner.started c.step.new.spawner) (g.P.Spawner.carried c.step.new.spawner) in (
      tt,
      tt,
      same_run r _ refl c.leave.ensures.0 (ap (λ (v : Vec Access). v.items) c.leave.ensures.1) (ap (λ (v : Vec Item). v.items) c.leave.ensures.2) c.leave.ensures.3 refl (back_run w r came c.in_ok-item.ensures.run),
      c.step.ensures.objects ∙ c.loop.invariant.3,
      λ base h.
          same_tally now r.main.list.items c.leave.new.self.list.items r.others.items r.others.items (ap (λ (v : Vec Item). v.items) c.leave.ensures.2) refl base
          (c.in_ok-item.ensures.tally base
          (same_tally before c.loop.self.main.list.items c.next-in-loop.new.self.list.items c.loop.self.others.items c.loop.self.others.items (ap (λ (v : Vec Item). v.items) (c.next-in-loop.ensures.same.2 ∙ c.enter.ensures.2)) refl base (c.loop.invariant.4 base h))),
      same_mains r.main.list.items c.leave.new.self.list.items r.others.items r.others.items (ap (λ (v : Vec Item). v.items) c.leave.ensures.2) refl c.in_ok-item.ensures.mains,
      λ a b h. c.step.ensures.out a b (c.loop.invariant.6 a b h),
    )

pub returns-then-not-branch-clause-tally : goal.returns-then-not-branch-clause-tally
returns-then-not-branch-clause-tally g c = λ base h.
    let now = tally (g.P.Spawner.faults c.loop.spawner) (g.P.Spawner.started c.loop.spawner) (g.P.Spawner.carried c.loop.spawner) in
    same_tally now c.loop.self.main.list.items c.next-in-loop.new.self.list.items c.loop.self.others.items c.loop.self.others.items (ap (λ (v : Vec Item). v.items) (c.next-in-loop.ensures.same.2 ∙ c.enter.ensures.2)) refl base (c.loop.invariant.4 base h)

pub returns-in_err-item-clause-kept : goal.returns-in_err-item-clause-kept
returns-in_err-item-clause-kept g c =
    let v = c.loop.self in
    let n = c.next-in-loop.new.self in
    let same = c.next-in-loop.ensures.same in
    let w : Run g.row.G.Denot = record { objects = v.objects; main = n; others = v.others } in
    let came = same_run v w refl (same.0 ∙ c.enter.ensures.0) (ap (λ (x : Vec Access). x.items) (same.1 ∙ c.enter.ensures.1)) (ap (λ (x : Vec Item). x.items) (same.2 ∙ c.enter.ensures.2)) (same.3 ∙ c.enter.ensures.3) refl c.loop.invariant.2 in
    back_kept w c.step.new.self came c.step.ensures.kept

pub step-requires-clause-mains : goal.step-requires-clause-mains
step-requires-clause-mains g c κs within =
    let v = c.loop.self in
    let n = c.next-in-loop.new.self in
    same_mains v.main.list.items n.list.items v.others.items v.others.items (ap (λ (x : Vec Item). x.items) (c.next-in-loop.ensures.same.2 ∙ c.enter.ensures.2)) refl c.loop.invariant.5

pub returns-then-not-branch-clause-out : goal.returns-then-not-branch-clause-out
returns-then-not-branch-clause-out g c = c.loop.invariant.6

pub returns-in_err-next-clause-out : goal.returns-in_err-next-clause-out
returns-in_err-next-clause-out g c = c.loop.invariant.6

pub returns-in_err-item-clause-out : goal.returns-in_err-item-clause-out
returns-in_err-item-clause-out g c = λ a b h. c.step.ensures.out a b (c.loop.invariant.6 a b h)
