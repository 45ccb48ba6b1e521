-- A pass that owns a mutex owns it still when it has used the numbers.
use Rattle.std.proofs.Common.{◌≡◌, ◌∙◌, ℕ, true, length, Some, sym, ap, subst}
use Rattle.cx_names.specs.declared.ThreadNo.{ThreadNo}
use Rattle.cx_machine.specs.declared.kind.Entry.{Entry}
use Rattle.cx_machine.specs.declared.kind.Look.{Look}
use Rattle.cx_machine.specs.Acts.{at_entry}
use Rattle.cx_machine.specs.Meaning.{run}
use Rattle.cx_machine.specs.Mutex as machine
use Rattle.cx_turn.specs.declared.view.View.{View}
use Rattle.cx_turn.specs.declared.pass.Pass.{Pass}
use Rattle.cx_turn.specs.Acts.{Makes, Looks, Finds}
use Rattle.cx_turn.proofs.Histories.{head_is}
use Rattle.cx_cell.specs.Seen.{At}
use Rattle.cx_cell.proofs.Lasting.{lasts_found}
use Rattle.cx_mutex.specs.declared.mutex.Mutex.{Mutex}
use Rattle.cx_mutex.specs.declared.mutex.Hold.{Hold}
use Rattle.cx_mutex.specs.Kinds.{locking}
use Rattle.cx_mutex.specs.Mutexes.{IsMutexPassWith, IsHeldBy}
use Rattle.cx_mutex.specs.Owners.{Owning}
use Rattle.cx_mutex.proofs.Owning.{owning_after, owning_on}
use Rattle.cx_mutex.proofs.Numbers.{Guards, guards_on, many_run, many_first}

abbrev V : Type 0
V = View machine.Mutex

module _ (x : Mutex) (p q : Pass machine.Mutex) (h : Hold) (v w : V) (is : IsMutexPassWith x p v) (is' : IsMutexPassWith x q w) (held : IsHeldBy x p h) where
  guards : At (at_entry machine.step) (Guards x.numbers) v
  guards m leads = (held.1 v is m leads, many_run x.numbers v.front v.start m (ap (λ (s : machine.Mutex). length s.numbers) (is.started ∙ x.opened) ∙ many_first x.numbers) leads)

  -- at the state found
  pub guards_found : (P : machine.Mutex → Type 0) (f : Finds locking P v w) → Guards x.numbers f.now p.number.0
  guards_found P f =
      let at = lasts_found locking (Guards x.numbers) (guards_on x.numbers) P v w f is.known is'.known is.counts is'.counts guards in
      let number : w.number ≡ p.number.0 = ap (λ (u : V). u.number) f.view ∙ is.numbered in
      let leads : run (at_entry machine.step) (Some w.start) w.front ≡ Some f.now = ap (λ (s : machine.Mutex). run (at_entry machine.step) (Some s) w.front) (ap (λ (u : V). u.start) f.view) ∙ f.leads in
      subst (λ (n : ℕ). Guards x.numbers f.now n) number (at f.now leads)

  held_on : w.number ≡ v.number → Owning true w → IsHeldBy x q h
  held_on number owning =
      let same : p.number.0 ≡ q.number.0 = sym is.numbered ∙ (sym number ∙ is'.numbered) in
      (held.0 ∙ (λ i. record { 0 = same i }), λ u isu. subst (λ (z : V). Owning true z) (head_is w u (sym is'.views ∙ isu.views)) owning)

  -- after a look
  pub held_looked : (l : Look) → Looks locking v w l → IsHeldBy x q h
  held_looked l look = held_on (ap (λ (u : V). u.number) look.view) (owning_on true v w l is.known.legal.0 look (is.known.own is.counts) (is'.known.own is'.counts) is.known.legal.1 (held.1 v is))

  -- after a change that leaves its thread the owner
  pub held_after : (e : Entry) (n : ℕ) → e.by ≡ p.number → (made : Makes locking v w e n) → machine.owns made.after e.by.0 ≡ true → IsHeldBy x q h
  held_after e n by made owns = held_on (ap (λ (u : V). u.number) made.view) (owning_after true v w e n made (ap (λ (t : ThreadNo). t.0) by ∙ sym is.numbered) owns)
