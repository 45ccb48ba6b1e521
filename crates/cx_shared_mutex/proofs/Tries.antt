-- What an attempt to lock came to, from its change or its look.
use Rattle.std.proofs.Common.{◌≡◌, ◌∙◌, ℕ, ◌+◌, ◌-◌, ◌≤◌, pos, Bool, true, false, Some, refl, sym, ap, subst, arith}
use Rattle.cx_names.specs.declared.Reply.{Reply}
use Rattle.cx_names.specs.declared.Reply.TheVariants as replies
use Rattle.cx_machine.specs.declared.kind.Op.{Op}
use Rattle.cx_machine.specs.Acts.{at_entry, at_look}
use Rattle.cx_machine.specs.Meaning.{run, change, look_of}
use Rattle.cx_machine.specs.Shared as machine
use Rattle.cx_turn.specs.declared.view.View.{View}
use Rattle.cx_turn.specs.declared.pass.Pass.{Pass}
use Rattle.cx_turn.specs.Acts.{Makes, Looks}
use Rattle.cx_turn.proofs.Histories.{some_is}
use Rattle.cx_shared_mutex.specs.declared.shared_mutex.SharedMutex.{SharedMutex}
use Rattle.cx_shared_mutex.specs.Kinds.{sharing}
use Rattle.cx_shared_mutex.specs.SharedMutexes.{IsSharedPassWith, IsOwning, IsBare, SharedMakes, SharedLooks}
use Rattle.cx_shared_mutex.proofs.Owners.{Stands}
use Rattle.cx_shared_mutex.proofs.Passes.{of_each, owns_then, owns_seen, owns_shown}

abbrev V : Type 0
V = View machine.Shared

module _ (x : SharedMutex) (p q : Pass machine.Shared) (op : Op) (r : Reply) (n : ℕ) (v : V) (is : IsSharedPassWith x p v) where
  -- by a change of which the reply is known, and what its thread owns then
  module _ (a b : Bool) (tells : (now after : machine.Shared) → at_entry machine.step now (change p.number op (pos 0) (pos 0) r) ≡ Some after → (r ≡ replies.True) × Stands a b after p.number.0) (makes : SharedMakes x p q (change p.number op (pos 0) (pos 0) r) n) where
    d : (w : V) × IsSharedPassWith x q w × Makes sharing v w (change p.number op (pos 0) (pos 0) r) n
    d = makes v is

    told : (r ≡ replies.True) × Stands a b d.2.after p.number.0
    told = tells d.2.now d.2.after d.2.enabled

    pub got_it : 1 ≤ p.left → (q.left + 1 ≡ p.left) × IsOwning x q a b × SharedMakes x p q (change p.number op (pos 0) (pos 0) replies.True) n
    got_it some = (
      (let less : d.0.left ≡ v.left - 1 = ap (λ (u : V). u.left) d.2.view in
          let had = is.counted.may in
          let has = d.1.counted.may in
          omega arith),
      owns_then x p q v d.0 is d.1 (change p.number op (pos 0) (pos 0) r) n refl d.2 a b told.1,
      subst (λ (y : Reply). SharedMakes x p q (change p.number op (pos 0) (pos 0) y) n) told.0 makes,
    )

  -- by a look that tells what another owns, to one that owns nothing
  module _ (Another : machine.Shared → ℕ → Type 0) (bare : IsBare x p) (tells : (s : machine.Shared) → Stands false false s p.number.0 → at_look machine.shows s (look_of p.number op (pos 0) (pos 0) r n) ≡ true → (r ≡ replies.False) × Another s p.number.0) (looks : SharedLooks x p q (look_of p.number op (pos 0) (pos 0) r n)) where
    l : (w : V) × IsSharedPassWith x q w × Looks sharing v w (look_of p.number op (pos 0) (pos 0) r n)
    l = looks v is

    number : l.0.number ≡ p.number.0
    number = ap (λ (u : V). u.number) l.2.view ∙ is.numbered

    shown : (r ≡ replies.False) × Another l.2.now p.number.0
    shown = tells l.2.now (owns_shown x p q v l.0 is l.1 (look_of p.number op (pos 0) (pos 0) r n) l.2 false false bare) l.2.shown

    abbrev Owned : V → Type 0
    Owned u = (s : machine.Shared) → run (at_entry machine.step) (Some u.start) u.front ≡ Some s → Another s u.number

    owned : Owned l.0
    owned s leads =
        let now : run (at_entry machine.step) (Some l.0.start) l.0.front ≡ Some l.2.now = ap (λ (m : machine.Shared). run (at_entry machine.step) (Some m) l.0.front) (ap (λ (u : V). u.start) l.2.view) ∙ l.2.leads in
        let same : l.2.now ≡ s = some_is l.2.now s (sym now ∙ leads) in
        subst (λ (z : machine.Shared × ℕ). Another z.0 z.1) (λ i. (same i, sym number i)) shown.1

    pub missed_it : (q.left ≡ p.left) × IsBare x q × ((u : V) → IsSharedPassWith x q u → (s : machine.Shared) → run (at_entry machine.step) (Some u.start) u.front ≡ Some s → Another s u.number) × SharedLooks x p q (look_of p.number op (pos 0) (pos 0) replies.False n)
    missed_it = (
      (let less : l.0.left ≡ v.left = ap (λ (u : V). u.left) l.2.view in
          let had = is.counted.may in
          let has = l.1.counted.may in
          omega arith),
      owns_seen x p q v l.0 is l.1 (look_of p.number op (pos 0) (pos 0) r n) l.2 false false bare,
      of_each x q l.0 l.1 Owned owned,
      subst (λ (y : Reply). SharedLooks x p q (look_of p.number op (pos 0) (pos 0) y n)) shown.0 looks,
    )
