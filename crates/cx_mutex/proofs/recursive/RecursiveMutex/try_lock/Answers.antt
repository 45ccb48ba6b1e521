use Rattle.std.proofs.Common.{refl, subst, pos}
use Rattle.cx_names.specs.declared.Reply.{Reply}
use Rattle.cx_machine.specs.declared.kind.Op.TheVariants as ops
use Rattle.cx_machine.specs.Meaning.{change, look_of}
use Rattle.cx_machine.proofs.Owners.{tried_owns, tried_not, locks_or_not}
use Rattle.cx_turn.specs.declared.either.Either.{Either}
use Rattle.cx_turn.specs.Acts.{Makes, Looks, DoesEither}
use Rattle.cx_mutex.specs.Kinds.{locking}
use Rattle.cx_mutex.specs.Recursives.{GetsLevel}
use Rattle.cx_mutex.proofs.LevelCounts.{has_some, gets, keeps, try_lock_adds_one}
use Rattle.cx_mutex.proofs.recursive.RecursiveMutex.try_lock.Goals as goal

pub unreachable-requires : goal.unreachable-requires
unreachable-requires g c = let p = c.requires.pass in let h = (c.in-None.ensures.none p.0 p.1).2.holds in locks_or_not _ c.args.pass.now.number h.0 h.1

pub returns-in-Made-clause-tried : goal.returns-in-Made-clause-tried
returns-in-Made-clause-tried g c =
    let by = c.args.pass.now.number in
    let p = c.requires.pass in
    let q = c.in-Some.ensures.done p.0 p.1 in
    let r = c.in-Made.field-0 in
    let d : Makes locking p.0 q.0 (change by ops.TryLock (pos 0) (pos 0) r) c.in-Made.at = subst (λ (e : Either). DoesEither locking by ops.TryLock ops.TryLock (pos 0) (pos 0) p.0 q.0 e) c.in-Made.is q.2 in
    let had = has_some c.args.self.now c.args.pass.now p.0 p.1 in
    let got : GetsLevel c.args.self.now c.args.pass.now c.try_either.new.pass = gets c.args.self.now c.args.pass.now c.try_either.new.pass p.0 q.0 p.1 q.1 (change by ops.TryLock (pos 0) (pos 0) r) c.in-Made.at refl d (λ now after free e. try_lock_adds_one now after by r free e) in (
      (c.number.ensures, had.0, (got had.0 had.1).1),
      got,
      λ v is.
          let q = c.in-Some.ensures.done v is in
          let d : Makes locking v q.0 (change by ops.TryLock (pos 0) (pos 0) r) c.in-Made.at = subst (λ (e : Either). DoesEither locking by ops.TryLock ops.TryLock (pos 0) (pos 0) v q.0 e) c.in-Made.is q.2 in
          (q.0, q.1, subst (λ (x : Reply). Makes locking v q.0 (change by ops.TryLock (pos 0) (pos 0) x) c.in-Made.at) (tried_owns d.now d.after by r d.enabled).0 d),
    )

pub returns-in-Seen-clause-tried : goal.returns-in-Seen-clause-tried
returns-in-Seen-clause-tried g c =
    let by = c.args.pass.now.number in
    let p = c.requires.pass in
    let q = c.in-Some.ensures.done p.0 p.1 in
    let r = c.in-Seen.field-0 in
    let l = look_of by ops.TryLock (pos 0) (pos 0) r c.in-Seen.at in
    let d : Looks locking p.0 q.0 l = subst (λ (e : Either). DoesEither locking by ops.TryLock ops.TryLock (pos 0) (pos 0) p.0 q.0 e) c.in-Seen.is q.2 in (
      keeps c.args.self.now c.args.pass.now c.try_either.new.pass p.0 q.0 p.1 q.1 l d,
      λ v is.
          let q = c.in-Some.ensures.done v is in
          let d : Looks locking v q.0 (look_of by ops.TryLock (pos 0) (pos 0) r c.in-Seen.at) = subst (λ (e : Either). DoesEither locking by ops.TryLock ops.TryLock (pos 0) (pos 0) v q.0 e) c.in-Seen.is q.2 in
          (q.0, q.1, subst (λ (x : Reply). Looks locking v q.0 (look_of by ops.TryLock (pos 0) (pos 0) x c.in-Seen.at)) (tried_not d.now by r c.in-Seen.at d.shown) d),
    )
