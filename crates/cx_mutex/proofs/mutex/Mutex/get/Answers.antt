use Rattle.std.proofs.Common.{rules, arith, ◌≡◌, ◌∙◌, ℤ, pos, sym, ap, subst}
use mir.Syntax.{w64}
use mir.Val.{to_z, of_z}
use Rattle.cx_names.specs.declared.Reply.{Reply}
use Rattle.cx_names.specs.declared.Reply.TheVariants as replies
use Rattle.cx_machine.specs.declared.kind.Op.TheVariants as ops
use Rattle.cx_machine.specs.Meaning.{look_of}
use Rattle.cx_turn.specs.Acts.{Looks}
use Rattle.cx_mutex.specs.Kinds.{locking}
use Rattle.cx_mutex.proofs.Numbers.{got_number, gets_always}
use Rattle.cx_mutex.proofs.Guarding.{guards_found, held_looked}
use Rattle.cx_mutex.proofs.mutex.Mutex.get.Goals as goal

pub unreachable-requires : goal.unreachable-requires
unreachable-requires g c =
    let p = c.requires.pass in
    let q = c.in-None.ensures.none p.0 p.1 in
    let i : to_z w64 c.args.i ≡ pos c.args.i = search rules in
    gets_always c.args.self.now.numbers q.2.now c.args.pass.now.number (to_z w64 c.args.i) c.args.i i (omega (arith, c.ranges.i)) c.requires.index (guards_found c.args.self.now c.args.pass.now c.look.new.pass c.args.hold.now p.0 q.0 p.1 q.1 c.requires.held _ q.2) q.2.holds

pub number_in-requires : goal.number_in-requires
number_in-requires g c =
    let p = c.requires.pass in
    let q = c.in-Some.ensures.seen p.0 p.1 in
    got_number q.2.now c.args.pass.now.number (to_z w64 c.args.i) c.in-Some.reply c.in-Some.at q.2.shown

pub returns-clause-held : goal.returns-clause-held
returns-clause-held g c =
    let p = c.requires.pass in
    let q = c.in-Some.ensures.seen p.0 p.1 in
    held_looked c.args.self.now c.args.pass.now c.look.new.pass c.args.hold.now p.0 q.0 p.1 q.1 c.requires.held (look_of c.args.pass.now.number ops.Get (to_z w64 c.args.i) (pos 0) c.in-Some.reply c.in-Some.at) q.2

pub returns-clause-seen : goal.returns-clause-seen
returns-clause-seen g c v is =
    let q = c.in-Some.ensures.seen v is in
    let i : to_z w64 c.args.i ≡ pos c.args.i = search rules in
    let n : to_z w64 (of_z w64 c.number_in.result) ≡ c.number_in.result = search rules in
    let told = c.number_in.ensures ∙ ap replies.Number (sym n) in
    (q.0, q.1, subst (λ (x : ℤ × Reply). Looks locking v q.0 (look_of c.args.pass.now.number ops.Get x.0 (pos 0) x.1 c.in-Some.at)) (λ j. (i j, told j)) q.2)
