use Rattle.std.proofs.Common.{rules, ◌≡◌, ℤ, refl, sym, subst, arith, pos}
use mir.Syntax.{w64}
use mir.Val.{to_z, of_z}
use Rattle.cx_names.specs.declared.Reply.{Reply}
use Rattle.cx_machine.specs.Meaning.{change, look_of}
use Rattle.cx_turn.specs.declared.either.Either.{Either}
use Rattle.cx_turn.specs.Acts.{Makes, Looks, DoesEither}
use Rattle.cx_barrier.specs.Kinds.{meeting}
use Rattle.cx_barrier.specs.Barriers.{IsArrival}
use Rattle.cx_barrier.proofs.Arrivals.{arrives_or_not, over_so}
use Rattle.cx_barrier.proofs.Passing.{looks_on, less_left, same_left, counted, low_now, arrived_pass, counts_it, due_after}
use Rattle.cx_barrier.proofs.barrier.Barrier.arrive_as.Goals as goal

pub unreachable-requires : goal.unreachable-requires
unreachable-requires g c =
    let en : to_z w64 (of_z w64 c.args.n) ≡ c.args.n = search rules in
    let p = c.requires.pass in
    let q = (c.in-None.ensures.none p.0 p.1.pass).2 in
    arrives_or_not q.now c.args.pass.now.pass.number c.args.op (to_z w64 (of_z w64 c.args.n)) (subst (λ (x : ℤ). IsArrival c.args.op x) (sym en) c.requires.word) q.holds.0 q.holds.1

pub note_arrival-requires : goal.note_arrival-requires
note_arrival-requires g c =
    let en : to_z w64 (of_z w64 c.args.n) ≡ c.args.n = search rules in
    let by = c.args.pass.now.pass.number in let r = c.in-Made.reply in let at = c.in-Made.at in
    let p = c.requires.pass in
    let q = c.in-Some.ensures.done p.0 p.1.pass in
    let d : Makes meeting p.0 q.0 (change by c.args.op c.args.n (pos 0) r) at = subst (λ (x : Either × ℤ). DoesEither meeting by c.args.op c.args.op x.1 (pos 0) p.0 q.0 x.0) (λ i. (c.in-Made.is i, en i)) q.2 in
    let low = low_now c.args.self.now c.args.pass.now c.try_either_then.new.pass p.0 q.0 p.1 q.1 c.args.op c.args.n r at c.requires.word d in
    (d.now.phase, (counted c.args.self.now c.args.pass.now c.try_either_then.new.pass p.0 q.0 p.1 q.1 c.args.op c.args.n r at c.requires.word d).phase, omega (arith, low))

pub returns-in-Made-clause-idle : goal.returns-in-Made-clause-idle
returns-in-Made-clause-idle g c =
    let en : to_z w64 (of_z w64 c.args.n) ≡ c.args.n = search rules in
    let by = c.args.pass.now.pass.number in let r = c.in-Made.reply in let at = c.in-Made.at in
    let p = c.requires.pass in
    let q = c.in-Some.ensures.done p.0 p.1.pass in
    let d : Makes meeting p.0 q.0 (change by c.args.op c.args.n (pos 0) r) at = subst (λ (x : Either × ℤ). DoesEither meeting by c.args.op c.args.op x.1 (pos 0) p.0 q.0 x.0) (λ i. (c.in-Made.is i, en i)) q.2 in
    let n = c.note_arrival.ensures in
    (q.0, arrived_pass c.args.self.now c.args.pass.now c.try_either_then.new.pass p.0 q.0 p.1 q.1 c.args.op c.args.n r at c.requires.word d c.note_arrival.result.0 n.reply c.note_arrival.new.pass n.same n.phase)

pub returns-in-Made-clause-left : goal.returns-in-Made-clause-left
returns-in-Made-clause-left g c =
    let en : to_z w64 (of_z w64 c.args.n) ≡ c.args.n = search rules in
    let by = c.args.pass.now.pass.number in let r = c.in-Made.reply in let at = c.in-Made.at in
    let p = c.requires.pass in
    let q = c.in-Some.ensures.done p.0 p.1.pass in
    let d : Makes meeting p.0 q.0 (change by c.args.op c.args.n (pos 0) r) at = subst (λ (x : Either × ℤ). DoesEither meeting by c.args.op c.args.op x.1 (pos 0) p.0 q.0 x.0) (λ i. (c.in-Made.is i, en i)) q.2 in
    less_left c.args.self.now c.args.pass.now c.try_either_then.new.pass p.0 q.0 p.1 q.1 (change by c.args.op c.args.n (pos 0) r) at d refl c.note_arrival.new.pass c.note_arrival.ensures.same c.requires.left

pub returns-in-Made-clause-counted : goal.returns-in-Made-clause-counted
returns-in-Made-clause-counted g c =
    let en : to_z w64 (of_z w64 c.args.n) ≡ c.args.n = search rules in
    let by = c.args.pass.now.pass.number in let r = c.in-Made.reply in let at = c.in-Made.at in
    let o = c.try_either_then.new.pass in
    let n = c.note_arrival.ensures in
    let p = c.requires.pass in
    let q = c.in-Some.ensures.done p.0 p.1.pass in
    let d : Makes meeting p.0 q.0 (change by c.args.op c.args.n (pos 0) r) at = subst (λ (x : Either × ℤ). DoesEither meeting by c.args.op c.args.op x.1 (pos 0) p.0 q.0 x.0) (λ i. (c.in-Made.is i, en i)) q.2 in (
      due_after c.args.self.now c.args.pass.now o p.0 q.0 p.1 q.1 c.args.op c.args.n r at c.requires.word d c.in-Some.last c.note_arrival.result.1.completing q.3 n.last n.early c.note_arrival.new.pass n.same,
      λ v is.
          let q = c.in-Some.ensures.done v is.pass in
          let d : Makes meeting v q.0 (change by c.args.op c.args.n (pos 0) r) at = subst (λ (x : Either × ℤ). DoesEither meeting by c.args.op c.args.op x.1 (pos 0) v q.0 x.0) (λ i. (c.in-Made.is i, en i)) q.2 in (
            q.0,
            arrived_pass c.args.self.now c.args.pass.now o v q.0 is q.1 c.args.op c.args.n r at c.requires.word d c.note_arrival.result.0 n.reply c.note_arrival.new.pass n.same n.phase,
            counts_it c.args.self.now c.args.pass.now o v q.0 is q.1 c.args.op c.args.n r at c.requires.word d c.in-Some.last c.note_arrival.result.1.completing q.3 n.last n.early c.note_arrival.result.0 c.note_arrival.result.1.at n.reply n.at,
          ),
    )

pub returns-in-Seen-clause-idle : goal.returns-in-Seen-clause-idle
returns-in-Seen-clause-idle g c =
    let en : to_z w64 (of_z w64 c.args.n) ≡ c.args.n = search rules in
    let by = c.args.pass.now.pass.number in let r = c.in-Seen.field-0 in let at = c.in-Seen.at in
    let p = c.requires.pass in
    let q = c.in-Some.ensures.done p.0 p.1.pass in
    let d : Looks meeting p.0 q.0 (look_of by c.args.op c.args.n (pos 0) r at) = subst (λ (x : Either × ℤ). DoesEither meeting by c.args.op c.args.op x.1 (pos 0) p.0 q.0 x.0) (λ i. (c.in-Seen.is i, en i)) q.2 in
    (q.0, looks_on c.args.self.now c.args.pass.now c.try_either_then.new.pass p.0 q.0 p.1 q.1 _ refl (look_of by c.args.op c.args.n (pos 0) r at) d refl)

pub returns-in-Seen-clause-unspent : goal.returns-in-Seen-clause-unspent
returns-in-Seen-clause-unspent g c =
    let en : to_z w64 (of_z w64 c.args.n) ≡ c.args.n = search rules in
    let by = c.args.pass.now.pass.number in let r = c.in-Seen.field-0 in let at = c.in-Seen.at in
    let p = c.requires.pass in
    let q = c.in-Some.ensures.done p.0 p.1.pass in
    let d : Looks meeting p.0 q.0 (look_of by c.args.op c.args.n (pos 0) r at) = subst (λ (x : Either × ℤ). DoesEither meeting by c.args.op c.args.op x.1 (pos 0) p.0 q.0 x.0) (λ i. (c.in-Seen.is i, en i)) q.2 in
    same_left c.args.self.now c.args.pass.now c.try_either_then.new.pass p.0 q.0 p.1 q.1 (record { pass = c.try_either_then.new.pass; phase = c.args.pass.now.phase }) refl (look_of by c.args.op c.args.n (pos 0) r at) d

pub returns-in-Seen-clause-over : goal.returns-in-Seen-clause-over
returns-in-Seen-clause-over g c v is =
    let en : to_z w64 (of_z w64 c.args.n) ≡ c.args.n = search rules in
    let by = c.args.pass.now.pass.number in let r = c.in-Seen.field-0 in let at = c.in-Seen.at in
    let q = c.in-Some.ensures.done v is.pass in
    let d : Looks meeting v q.0 (look_of by c.args.op c.args.n (pos 0) r at) = subst (λ (x : Either × ℤ). DoesEither meeting by c.args.op c.args.op x.1 (pos 0) v q.0 x.0) (λ i. (c.in-Seen.is i, en i)) q.2 in (
      q.0,
      looks_on c.args.self.now c.args.pass.now c.try_either_then.new.pass v q.0 is q.1 _ refl (look_of by c.args.op c.args.n (pos 0) r at) d refl,
      subst (λ (x : Reply). Looks meeting v q.0 (look_of by c.args.op c.args.n (pos 0) x at)) (over_so d.now by c.args.op c.args.n r at c.requires.word d.shown) d,
    )

pub try_either_then-requires-clause-pass : goal.try_either_then-requires-clause-pass
try_either_then-requires-clause-pass g c = let p = c.requires.pass in (p.0, p.1.pass)
