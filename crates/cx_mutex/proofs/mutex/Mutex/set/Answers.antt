use Rattle.std.proofs.Common.{rules, arith, ◌≡◌, ℤ, pos, refl, subst}
use mir.Syntax.{w64}
use mir.Val.{to_z, of_z}
use Rattle.cx_names.specs.declared.Reply.{Reply}
use Rattle.cx_machine.specs.declared.kind.Op.TheVariants as ops
use Rattle.cx_machine.specs.Meaning.{change}
use Rattle.cx_turn.specs.Acts.{Makes}
use Rattle.cx_mutex.specs.Kinds.{locking}
use Rattle.cx_mutex.proofs.Numbers.{set_owns, sets_always}
use Rattle.cx_mutex.proofs.Guarding.{guards_found, held_after}
use Rattle.cx_mutex.proofs.mutex.Mutex.set.Goals as goal

pub unreachable-requires : goal.unreachable-requires
unreachable-requires g c =
    let p = c.requires.pass in
    let q = c.in-None.ensures.none p.0 p.1 in
    let i : to_z w64 c.args.i ≡ pos c.args.i = search rules in
    sets_always c.args.self.now.numbers q.2.now c.args.pass.now.number (to_z w64 c.args.i) (to_z w64 (of_z w64 c.args.v)) c.args.i i (omega (arith, c.ranges.i)) c.requires.index (guards_found c.args.self.now c.args.pass.now c.try_change.new.pass c.args.hold.now p.0 q.0 p.1 q.1 c.requires.held _ q.2) q.2.holds

pub returns-clause-held : goal.returns-clause-held
returns-clause-held g c =
    let by = c.args.pass.now.number in let r = c.in-Some.field-0-0 in
    let p = c.requires.pass in
    let q = c.in-Some.ensures.made p.0 p.1 in
    held_after c.args.self.now c.args.pass.now c.try_change.new.pass c.args.hold.now p.0 q.0 p.1 q.1 c.requires.held (change by ops.Set (to_z w64 c.args.i) (to_z w64 (of_z w64 c.args.v)) r) c.in-Some.at refl q.2 (set_owns q.2.now q.2.after by (to_z w64 c.args.i) (to_z w64 (of_z w64 c.args.v)) r q.2.enabled).1

pub returns-clause-made : goal.returns-clause-made
returns-clause-made g c v is =
    let by = c.args.pass.now.number in let r = c.in-Some.field-0-0 in
    let q = c.in-Some.ensures.made v is in
    let i : to_z w64 c.args.i ≡ pos c.args.i = search rules in
    let n : to_z w64 (of_z w64 c.args.v) ≡ c.args.v = search rules in
    let told = (set_owns q.2.now q.2.after by (to_z w64 c.args.i) (to_z w64 (of_z w64 c.args.v)) r q.2.enabled).0 in
    (q.0, q.1, subst (λ (x : ℤ × ℤ × Reply). Makes locking v q.0 (change by ops.Set x.0 x.1 x.2) c.in-Some.at) (λ j. (i j, n j, told j)) q.2)
