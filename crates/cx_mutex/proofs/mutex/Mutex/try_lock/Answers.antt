use Rattle.std.proofs.Common.{◌≡◌, ◌∙◌, ◌-◌, sym, ap, subst, arith, true, false, pos}
use Rattle.cx_names.specs.declared.Reply.{Reply}
use Rattle.cx_machine.specs.declared.kind.Op.TheVariants as ops
use Rattle.cx_machine.specs.Meaning.{change, look_of}
use Rattle.cx_machine.specs.Mutex as machine
use Rattle.cx_turn.specs.declared.view.View.{View}
use Rattle.cx_turn.proofs.Histories.{head_is}
use Rattle.cx_turn.specs.declared.either.Either.{Either}
use Rattle.cx_turn.specs.Acts.{Makes, Looks, DoesEither}
use Rattle.cx_mutex.specs.Kinds.{locking}
use Rattle.cx_mutex.specs.Owners.{Owning, OwnedByAnother}
use Rattle.cx_machine.proofs.Owners.{tried_owns, tried_not, locks_or_not, plain_first, IsPlain}
use Rattle.cx_mutex.proofs.Owning.{owning_after, owning_on, missed_owner}
use Rattle.cx_mutex.proofs.mutex.Mutex.try_lock.Goals as goal

pub unreachable-requires : goal.unreachable-requires
unreachable-requires g c = let p = c.requires.pass in let h = (c.in-None.ensures.none p.0 p.1).2.holds in locks_or_not _ c.args.pass.now.number h.0 h.1

pub returns-in-Made-clause-tried : goal.returns-in-Made-clause-tried
returns-in-Made-clause-tried g c =
    let by = c.args.pass.now.number in
    let p = c.requires.pass in
    let q = c.in-Some.ensures.done p.0 p.1 in
    let d : Makes locking p.0 q.0 (change by ops.TryLock (pos 0) (pos 0) c.in-Made.field-0) c.in-Made.at = subst (λ (e : Either). DoesEither locking by ops.TryLock ops.TryLock (pos 0) (pos 0) p.0 q.0 e) c.in-Made.is q.2 in (
      (let less : q.0.left ≡ p.0.left - 1 = ap (λ (x : View machine.Mutex). x.left) d.view in
          let had = p.1.counted.may in
          let has = q.1.counted.may in
          let one = c.requires.left in
          omega arith),
      (
        c.number.ensures,
        λ v is.
            let same : ◌≡◌ {A = View machine.Mutex} q.0 v = head_is q.0 v (sym q.1.views ∙ is.views) in
            subst (λ (x : View machine.Mutex). Owning true x) same (owning_after true p.0 q.0 (change by ops.TryLock (pos 0) (pos 0) c.in-Made.field-0) c.in-Made.at d (sym p.1.numbered) (tried_owns d.now d.after by c.in-Made.field-0 d.enabled).1),
      ),
      λ v is.
          let q = c.in-Some.ensures.done v is in
          let d : Makes locking v q.0 (change by ops.TryLock (pos 0) (pos 0) c.in-Made.field-0) c.in-Made.at = subst (λ (e : Either). DoesEither locking by ops.TryLock ops.TryLock (pos 0) (pos 0) v q.0 e) c.in-Made.is q.2 in
          (q.0, q.1, subst (λ (x : Reply). Makes locking v q.0 (change by ops.TryLock (pos 0) (pos 0) x) c.in-Made.at) (tried_owns d.now d.after by c.in-Made.field-0 d.enabled).0 d),
    )

pub returns-in-Seen-clause-tried : goal.returns-in-Seen-clause-tried
returns-in-Seen-clause-tried g c =
    let by = c.args.pass.now.number in
    let p = c.requires.pass in
    let q = c.in-Some.ensures.done p.0 p.1 in
    let d : Looks locking p.0 q.0 (look_of by ops.TryLock (pos 0) (pos 0) c.in-Seen.field-0 c.in-Seen.at) = subst (λ (e : Either). DoesEither locking by ops.TryLock ops.TryLock (pos 0) (pos 0) p.0 q.0 e) c.in-Seen.is q.2 in
    let free : Owning false q.0 = owning_on false p.0 q.0 (look_of by ops.TryLock (pos 0) (pos 0) c.in-Seen.field-0 c.in-Seen.at) p.1.known.legal.0 d (p.1.known.own p.1.counts) (q.1.known.own q.1.counts) p.1.known.legal.1 (c.requires.bare p.0 p.1) in
    let plain : IsPlain p.0.start = subst (λ (m : machine.Mutex). IsPlain m) (sym (p.1.started ∙ c.args.self.now.opened)) (plain_first c.args.self.now.numbers) in
    let own : by.0 ≡ q.0.number = sym p.1.numbered ∙ sym (ap (λ (x : View machine.Mutex). x.number) d.view) in (
      (let less : q.0.left ≡ p.0.left = ap (λ (x : View machine.Mutex). x.left) d.view in
          let had = p.1.counted.may in
          let has = q.1.counted.may in
          omega arith),
      (λ v is.
          let same : ◌≡◌ {A = View machine.Mutex} q.0 v = head_is q.0 v (sym q.1.views ∙ is.views) in
          subst (λ (x : View machine.Mutex). Owning false x) same free),
      (λ v is.
          let same : ◌≡◌ {A = View machine.Mutex} q.0 v = head_is q.0 v (sym q.1.views ∙ is.views) in
          subst (λ (x : View machine.Mutex). OwnedByAnother x) same (missed_owner p.0 q.0 by c.in-Seen.field-0 c.in-Seen.at d plain own free)),
      λ v is.
          let q = c.in-Some.ensures.done v is in
          let d : Looks locking v q.0 (look_of by ops.TryLock (pos 0) (pos 0) c.in-Seen.field-0 c.in-Seen.at) = subst (λ (e : Either). DoesEither locking by ops.TryLock ops.TryLock (pos 0) (pos 0) v q.0 e) c.in-Seen.is q.2 in
          (q.0, q.1, subst (λ (x : Reply). Looks locking v q.0 (look_of by ops.TryLock (pos 0) (pos 0) x c.in-Seen.at)) (tried_not d.now by c.in-Seen.field-0 c.in-Seen.at d.shown) d),
    )
