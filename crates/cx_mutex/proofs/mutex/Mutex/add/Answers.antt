use Rattle.std.proofs.Common.{rules, arith, ◌≡◌, ◌∙◌, ℤ, pos, refl, sym, ap, subst}
use mir.Syntax.{w64}
use mir.Val.{to_z, of_z}
use Rattle.cx_names.specs.declared.Reply.{Reply}
use Rattle.cx_names.specs.declared.Reply.TheVariants as replies
use Rattle.cx_machine.specs.declared.kind.Op.TheVariants as ops
use Rattle.cx_machine.specs.Meaning.{change, look_of}
use Rattle.cx_turn.specs.declared.either.Either.{Either}
use Rattle.cx_turn.specs.Acts.{Makes, Looks, DoesEither}
use Rattle.cx_mutex.specs.Kinds.{locking}
use Rattle.cx_mutex.proofs.Numbers.{add_owns, over_so, adds_or_not}
use Rattle.cx_mutex.proofs.Guarding.{guards_found, held_looked, held_after}
use Rattle.cx_mutex.proofs.mutex.Mutex.add.Goals as goal

pub unreachable-requires : goal.unreachable-requires
unreachable-requires g c =
    let p = c.requires.pass in
    let q = c.in-None.ensures.none p.0 p.1 in
    let i : to_z w64 c.args.i ≡ pos c.args.i = search rules in
    adds_or_not c.args.self.now.numbers q.2.now c.args.pass.now.number (to_z w64 c.args.i) (to_z w64 (of_z w64 c.args.v)) c.args.i i (omega (arith, c.ranges.i)) c.requires.index (guards_found c.args.self.now c.args.pass.now c.try_either.new.pass c.args.hold.now p.0 q.0 p.1 q.1 c.requires.held _ q.2) q.2.holds.0 q.2.holds.1

pub number_in-requires : goal.number_in-requires
number_in-requires g c =
    let by = c.args.pass.now.number in let r = c.in-Made.reply in let at = c.in-Made.at in
    let a = to_z w64 c.args.i in let b = to_z w64 (of_z w64 c.args.v) in
    let p = c.requires.pass in
    let q = c.in-Some.ensures.done p.0 p.1 in
    let d : Makes locking p.0 q.0 (change by ops.Add a b r) at = subst (λ (e : Either). DoesEither locking by ops.Add ops.Add a b p.0 q.0 e) c.in-Made.is q.2 in
    (add_owns d.now d.after by a b r d.enabled).0

pub returns-in-Made-clause-held : goal.returns-in-Made-clause-held
returns-in-Made-clause-held g c =
    let by = c.args.pass.now.number in let r = c.in-Made.reply in let at = c.in-Made.at in
    let a = to_z w64 c.args.i in let b = to_z w64 (of_z w64 c.args.v) in
    let p = c.requires.pass in
    let q = c.in-Some.ensures.done p.0 p.1 in
    let d : Makes locking p.0 q.0 (change by ops.Add a b r) at = subst (λ (e : Either). DoesEither locking by ops.Add ops.Add a b p.0 q.0 e) c.in-Made.is q.2 in
    held_after c.args.self.now c.args.pass.now c.try_either.new.pass c.args.hold.now p.0 q.0 p.1 q.1 c.requires.held (change by ops.Add a b r) at refl d (add_owns d.now d.after by a b r d.enabled).1

pub returns-in-Made-clause-added : goal.returns-in-Made-clause-added
returns-in-Made-clause-added g c v is =
    let by = c.args.pass.now.number in let r = c.in-Made.reply in let at = c.in-Made.at in
    let a = to_z w64 c.args.i in let b = to_z w64 (of_z w64 c.args.v) in
    let i : to_z w64 c.args.i ≡ pos c.args.i = search rules in
    let n : to_z w64 (of_z w64 c.args.v) ≡ c.args.v = search rules in
    let q = c.in-Some.ensures.done v is in
    let d : Makes locking v q.0 (change by ops.Add a b r) at = subst (λ (e : Either). DoesEither locking by ops.Add ops.Add a b v q.0 e) c.in-Made.is q.2 in
    let m : to_z w64 (of_z w64 c.number_in.result) ≡ c.number_in.result = search rules in
    let told = c.number_in.ensures ∙ ap replies.Number (sym m) in
    (q.0, q.1, subst (λ (x : ℤ × ℤ × Reply). Makes locking v q.0 (change by ops.Add x.0 x.1 x.2) at) (λ j. (i j, n j, told j)) d)

pub returns-in-Seen-clause-held : goal.returns-in-Seen-clause-held
returns-in-Seen-clause-held g c =
    let by = c.args.pass.now.number in let r = c.in-Seen.field-0 in let at = c.in-Seen.at in
    let a = to_z w64 c.args.i in let b = to_z w64 (of_z w64 c.args.v) in
    let p = c.requires.pass in
    let q = c.in-Some.ensures.done p.0 p.1 in
    let d : Looks locking p.0 q.0 (look_of by ops.Add a b r at) = subst (λ (e : Either). DoesEither locking by ops.Add ops.Add a b p.0 q.0 e) c.in-Seen.is q.2 in
    held_looked c.args.self.now c.args.pass.now c.try_either.new.pass c.args.hold.now p.0 q.0 p.1 q.1 c.requires.held (look_of by ops.Add a b r at) d

pub returns-in-Seen-clause-over : goal.returns-in-Seen-clause-over
returns-in-Seen-clause-over g c v is =
    let by = c.args.pass.now.number in let r = c.in-Seen.field-0 in let at = c.in-Seen.at in
    let a = to_z w64 c.args.i in let b = to_z w64 (of_z w64 c.args.v) in
    let i : to_z w64 c.args.i ≡ pos c.args.i = search rules in
    let n : to_z w64 (of_z w64 c.args.v) ≡ c.args.v = search rules in
    let q = c.in-Some.ensures.done v is in
    let d : Looks locking v q.0 (look_of by ops.Add a b r at) = subst (λ (e : Either). DoesEither locking by ops.Add ops.Add a b v q.0 e) c.in-Seen.is q.2 in
    (q.0, q.1, subst (λ (x : ℤ × ℤ × Reply). Looks locking v q.0 (look_of by ops.Add x.0 x.1 x.2 at)) (λ j. (i j, n j, over_so d.now by a b r at d.shown j)) d)
