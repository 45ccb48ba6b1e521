-- What the thread of a pass owns, before and after a call.
use Rattle.std.proofs.Common.{◌≡◌, ◌∙◌, ℕ, Bool, false, [], Some, refl, sym, ap, subst}
use mathlib.Core.List.{IsPrefix}
use Rattle.cx_names.specs.declared.ThreadNo.{ThreadNo}
use Rattle.cx_machine.specs.declared.kind.Entry.{Entry}
use Rattle.cx_machine.specs.declared.kind.Look.{Look}
use Rattle.cx_machine.specs.Acts.{at_entry}
use Rattle.cx_machine.specs.Meaning.{run}
use Rattle.cx_machine.specs.Shared as machine
use Rattle.cx_turn.specs.declared.view.View.{View}
use Rattle.cx_turn.specs.declared.pass.Pass.{Pass}
use Rattle.cx_turn.specs.Positions.{positions}
use Rattle.cx_turn.specs.Acts.{Makes, Looks, Finds}
use Rattle.cx_turn.proofs.Histories.{head_is}
use Rattle.cx_shared_mutex.specs.declared.shared_mutex.SharedMutex.{SharedMutex}
use Rattle.cx_shared_mutex.specs.Kinds.{sharing}
use Rattle.cx_shared_mutex.specs.Owners.{Owning}
use Rattle.cx_shared_mutex.specs.SharedMutexes.{IsSharedPassWith, IsOwning, KeepsOwner}
use Rattle.cx_shared_mutex.proofs.Owners.{Stands, stands_run}
use Rattle.cx_shared_mutex.proofs.Seen.{still, still_first, after_change, at_change}

abbrev P : Type 0
P = Pass machine.Shared

abbrev V : Type 0
V = View machine.Shared

-- a pass knows one view alone
same_view : (x : SharedMutex) (p : P) (v w : V) → IsSharedPassWith x p v → IsSharedPassWith x p w → v ≡ w
same_view x p v w is is' = head_is v w (sym is.views ∙ is'.views)

-- what is so of the view that a pass knows is so of each
pub of_each : (x : SharedMutex) (q : P) (w : V) → IsSharedPassWith x q w → (F : V → Type 0) → F w → (u : V) → IsSharedPassWith x q u → F u
of_each x q w is F fact u isu = subst F (same_view x q w u is isu) fact

-- a pass that made no change owns nothing
pub owns_nothing : (x : SharedMutex) (q : P) (w : V) → IsSharedPassWith x q w → w.mine ≡ [] → IsOwning x q false false
owns_nothing x q w is none =
    let first : Stands false false w.start w.number = subst (λ (s : machine.Shared). Stands false false s w.number) (sym (is.started ∙ x.opened)) (refl, refl) in
    of_each x q w is (Owning false false) (still_first sharing (Stands false false) (stands_run false false) w first (is.known.own is.counts ∙ none))

module _ (x : SharedMutex) (p q : P) (v w : V) (is : IsSharedPassWith x p v) (is' : IsSharedPassWith x q w) where
  -- by what leaves its own changes as they are, and lets it see more
  on_view : (a b : Bool) → IsPrefix v.front w.front → w.mine ≡ v.mine → w.number ≡ v.number → IsOwning x p a b → Owning a b w
  on_view a b later mine number had = still sharing (Stands a b) (stands_run a b) v w v.mine is.known.legal.0 later (is'.started ∙ sym is.started) number (is.known.own is.counts) (ap (λ (z : ℕ). positions z 0 w.front) (sym number) ∙ (is'.known.own is'.counts ∙ mine)) is.known.legal.1 (had v is)

  pub keeps_on : IsPrefix v.front w.front → w.mine ≡ v.mine → w.number ≡ v.number → KeepsOwner x p q
  keeps_on later mine number a b had = of_each x q w is' (Owning a b) (on_view a b later mine number had)

  module _ (e : Entry) (k : ℕ) (by : e.by ≡ p.number) (m : Makes sharing v w e k) where
    own : e.by.0 ≡ v.number
    own = ap (λ (t : ThreadNo). t.0) by ∙ sym is.numbered

    -- at the state that its change was made in
    pub owns_now : (a b : Bool) → IsOwning x p a b → Stands a b m.now e.by.0
    owns_now a b had = subst (λ (n : ℕ). Stands a b m.now n) (sym own) (at_change sharing (Stands a b) (stands_run a b) v w e k m is.known.legal.0 own (is.known.own is.counts) (is'.known.own is'.counts) is.known.legal.1 (had v is))

    -- after its change
    pub owns_then : (a b : Bool) → Stands a b m.after e.by.0 → IsOwning x q a b
    owns_then a b fact = of_each x q w is' (Owning a b) (after_change sharing (Stands a b) v w e k m own fact)

  -- by a look
  module _ (l : Look) (s : Looks sharing v w l) where
    same_mine : w.mine ≡ v.mine
    same_mine = ap (λ (u : V). u.mine) s.view

    same_number : w.number ≡ v.number
    same_number = ap (λ (u : V). u.number) s.view

    pub owns_seen : (a b : Bool) → IsOwning x p a b → IsOwning x q a b
    owns_seen = keeps_on s.later same_mine same_number

    -- at the state that shows it
    pub owns_shown : (a b : Bool) → IsOwning x p a b → Stands a b s.now p.number.0
    owns_shown a b had = subst (λ (n : ℕ). Stands a b s.now n) (same_number ∙ is.numbered) (on_view a b s.later same_mine same_number had s.now (ap (λ (m : machine.Shared). run (at_entry machine.step) (Some m) w.front) (ap (λ (u : V). u.start) s.view) ∙ s.leads))

  -- at the state found
  pub owns_found : (F : machine.Shared → Type 0) (f : Finds sharing F v w) (a b : Bool) → IsOwning x p a b → Stands a b f.now p.number.0
  owns_found F f a b had =
      let number : w.number ≡ v.number = ap (λ (u : V). u.number) f.view in
      subst (λ (n : ℕ). Stands a b f.now n) (number ∙ is.numbered) (on_view a b f.later (ap (λ (u : V). u.mine) f.view) number had f.now (ap (λ (m : machine.Shared). run (at_entry machine.step) (Some m) w.front) (ap (λ (u : V). u.start) f.view) ∙ f.leads))
