-- Whether the thread of a pass has entered, through each call.
use Rattle.std.proofs.Common.{◌≡◌, ◌∙◌, ℕ, ◌<◌, ◌^◌, Bool, false, [], ◌∷◌, ◌++◌, length, Some, refl, sym, ap, subst, arith, length-append}
use mathlib.Core.List.{IsPrefix}
use Rattle.cx_names.specs.declared.ThreadNo.{ThreadNo}
use Rattle.cx_machine.specs.declared.kind.Entry.{Entry}
use Rattle.cx_machine.specs.Meaning.{run, IsOnceEach}
use Rattle.cx_machine.specs.Waiters.{members}
use Rattle.cx_machine.specs.Condition.{Condition, opening}
use Rattle.cx_turn.specs.declared.view.View.{View}
use Rattle.cx_turn.specs.declared.pass.Pass.{Pass}
use Rattle.cx_turn.specs.Acts.{Makes, Finds}
use Rattle.cx_turn.proofs.Histories.{head_is, prefix_length}
use Rattle.cx_cell.specs.Seen.{At}
use Rattle.cx_cell.proofs.Lasting.{none_own, stays_so, lasts, lasts_found, lasts_now, so_after}
use Rattle.cx_condvar.specs.declared.condvar.CondvarAny.{CondvarAny}
use Rattle.cx_condvar.specs.Kinds.{waiting}
use Rattle.cx_condvar.specs.Condvars.{IsCondPassWith, Stands, IsStanding, StaysAsItWas}
use Rattle.cx_condvar.proofs.Entering.{stands_on, apart_run, few_after}

abbrev P : Type 0
P = Pass Condition

abbrev V : Type 0
V = View Condition

-- a pass knows one view alone
same_view : (x : CondvarAny) (p : P) (v w : V) → IsCondPassWith x p v → IsCondPassWith x p w → v ≡ w
same_view x p v w is is' = head_is v w (sym is.views ∙ is'.views)

-- what is so of the view that a pass knows is so of each
pub of_each : (x : CondvarAny) (q : P) (w : V) → IsCondPassWith x q w → (F : V → Type 0) → F w → (u : V) → IsCondPassWith x q u → F u
of_each x q w is F fact u isu = subst F (same_view x q w u is isu) fact

-- a pass that made no change has not entered
pub is_out : (x : CondvarAny) (q : P) (w : V) → IsCondPassWith x q w → w.mine ≡ [] → IsStanding false x q
is_out x q w is none =
    let opened : w.start ≡ opening = is.started ∙ x.opened in
    of_each x q w is (At waiting.step (Stands false)) (λ m leads.
    let leads' : run waiting.step (Some opening) w.front ≡ Some m = ap (λ (s : Condition). run waiting.step (Some s) w.front) (sym opened) ∙ leads in
    stays_so waiting (Stands false) (λ n s t e. stands_on false n s t e) w.number opening m [] w.front (w.front, refl) (none_own w.number w.front (is.known.own is.counts ∙ none)) (λ s at. subst (λ (z : Condition). Stands false z w.number) (same_state s at) refl) opening refl leads')
  where
    same_state : (s : Condition) → ◌≡◌ {A = _} (run waiting.step (Some opening) []) (Some s) → opening ≡ s
    same_state s e = cc e

module _ (x : CondvarAny) (p q : P) (v w : V) (is : IsCondPassWith x p v) (is' : IsCondPassWith x q w) where
  -- a pass that acts as the same thread has the same number
  pub same_number : w.number ≡ v.number → q.number ≡ p.number
  same_number number =
      let same : q.number.0 ≡ p.number.0 = sym is'.numbered ∙ (number ∙ is.numbered) in
      λ i. record { 0 = same i }

  -- by what leaves its own changes as they are, and lets it see more
  pub stays : IsPrefix v.front w.front → w.mine ≡ v.mine → w.number ≡ v.number → StaysAsItWas x p q
  stays later mine number b had = of_each x q w is' (At waiting.step (Stands b)) (lasts waiting (Stands b) (λ n s t e. stands_on b n s t e) v w later is.known is'.known is.counts is'.counts (is'.started ∙ sym is.started) number mine (had v is))

  -- at the state found
  module _ (F : Condition → Type 0) (f : Finds waiting F v w) where
    found_number : w.number ≡ v.number
    found_number = ap (λ (u : V). u.number) f.view

    pub found_same : q.number ≡ p.number
    found_same = same_number found_number

    pub stays_found : StaysAsItWas x p q
    stays_found = stays f.later (ap (λ (u : V). u.mine) f.view) found_number

    pub stands_found : (b : Bool) → IsStanding b x p → Stands b f.now p.number.0
    stands_found b had =
        let at = lasts_found waiting (Stands b) (λ n s t e. stands_on b n s t e) F v w f is.known is'.known is.counts is'.counts (had v is) in
        let leads : run waiting.step (Some w.start) w.front ≡ Some f.now = ap (λ (s : Condition). run waiting.step (Some s) w.front) (ap (λ (u : V). u.start) f.view) ∙ f.leads in
        subst (λ (n : ℕ). Stands b f.now n) (found_number ∙ is.numbered) (at f.now leads)

  module _ (e : Entry) (k : ℕ) (by : e.by ≡ p.number) (m : Makes waiting v w e k) where
    own : e.by.0 ≡ v.number
    own = ap (λ (t : ThreadNo). t.0) by ∙ sym is.numbered

    pub number_on : q.number ≡ p.number
    number_on = same_number (ap (λ (u : V). u.number) m.view)

    -- at the state that its change was made in
    pub stands_now : (b : Bool) → IsStanding b x p → Stands b m.now e.by.0
    stands_now b had = subst (λ (n : ℕ). Stands b m.now n) (sym own) (lasts_now waiting (Stands b) (λ n s t c. stands_on b n s t c) v w e k m is.known is'.known is.counts is'.counts own (had v is))

    -- after its change
    pub stands_then : (b : Bool) → Stands b m.after e.by.0 → IsStanding b x q
    stands_then b fact = of_each x q w is' (At waiting.step (Stands b)) (so_after waiting (Stands b) v w e k m own fact)

    leads_now : run waiting.step (Some opening) m.found ≡ Some m.now
    leads_now = ap (λ (s : Condition). run waiting.step (Some s) m.found) (sym (is.started ∙ x.opened)) ∙ m.leads

    -- there each thread stands once
    pub apart_now : IsOnceEach (members m.now)
    apart_now = apart_run m.found m.now leads_now

    -- and fewer than 2^28 wait
    pub few_now : length m.now.waiting < 2 ^ 28
    few_now =
        let few = few_after m.found m.now leads_now in
        let front : length w.front ≡ length (m.found ++ e ∷ []) = ap (λ (u : V). length u.front) m.view in
        let long = length-append m.found (e ∷ []) in
        let log = is'.known.present.0 in
        let short = is'.known.present.3.bounded in
        let longer = prefix_length w.front log is'.known.present.2 in
        omega (arith, few, front, long, short, longer)
