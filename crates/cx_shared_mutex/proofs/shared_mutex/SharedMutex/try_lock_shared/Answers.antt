use Rattle.std.proofs.Common.{◌≡◌, ◌≢◌, ℕ, pos, true, false, subst}
use Rattle.cx_machine.specs.declared.kind.Op.TheVariants as ops
use Rattle.cx_turn.specs.declared.either.Either.{Either}
use Rattle.cx_turn.specs.Acts.{DoesEither}
use Rattle.cx_shared_mutex.specs.Kinds.{sharing}
use Rattle.cx_shared_mutex.specs.Owners.{writes}
use Rattle.cx_shared_mutex.proofs.Owners.{tried_reads, missed_shared, shares_or_not}
use Rattle.cx_shared_mutex.proofs.Passes.{owns_found}
use Rattle.cx_shared_mutex.proofs.Tries.{got_it, missed_it}
use Rattle.cx_shared_mutex.proofs.shared_mutex.SharedMutex.try_lock_shared.Goals as goal

pub unreachable-requires : goal.unreachable-requires
unreachable-requires g c =
    let p = c.requires.pass in
    let f = c.in-None.ensures.none p.0 p.1 in
    shares_or_not f.2.now c.args.pass.now.number (owns_found c.args.self.now c.args.pass.now c.try_either.new.pass p.0 f.0 p.1 f.1 _ f.2 false false c.requires.bare) f.2.holds.0 f.2.holds.1

pub returns-in-Made-clause-tried : goal.returns-in-Made-clause-tried
returns-in-Made-clause-tried g c =
    let by = c.args.pass.now.number in
    let p = c.requires.pass in
    let r = c.in-Made.field-0 in
    let got = got_it c.args.self.now c.args.pass.now c.try_either.new.pass ops.TryLockShared r c.in-Made.at p.0 p.1 false true (λ now after. tried_reads now after by r) (λ v is. (let q = c.in-Some.ensures.done v is in (q.0, q.1, subst (λ (e : Either). DoesEither sharing by ops.TryLockShared ops.TryLockShared (pos 0) (pos 0) v q.0 e) c.in-Made.is q.2))) c.requires.left in
    (got.0, (c.number.ensures, got.1), got.2)

pub returns-in-Seen-clause-tried : goal.returns-in-Seen-clause-tried
returns-in-Seen-clause-tried g c =
    let by = c.args.pass.now.number in
    let p = c.requires.pass in
    let r = c.in-Seen.field-0 in
    missed_it c.args.self.now c.args.pass.now c.try_either.new.pass ops.TryLockShared r c.in-Seen.at p.0 p.1 (λ s n. (t : ℕ) × (writes s t ≡ true) × (t ≢ n)) c.requires.bare (λ s. missed_shared s by r c.in-Seen.at) (λ v is. (let q = c.in-Some.ensures.done v is in (q.0, q.1, subst (λ (e : Either). DoesEither sharing by ops.TryLockShared ops.TryLockShared (pos 0) (pos 0) v q.0 e) c.in-Seen.is q.2)))
