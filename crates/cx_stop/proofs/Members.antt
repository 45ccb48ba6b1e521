-- How the sets of a stop state change, ID by ID, and what a change costs.
use Rattle.std.proofs.Common.{◌≡◌, ◌≢◌, ℕ, zero, suc, ◌+◌, ◌-◌, ◌/◌, ◌≤◌, ◌==◌, nat_eq, nat_lt, ℤ, pos, true, false, not, ◌||◌, ◌&&◌, cond, List, [], ◌∷◌, ◌++◌, length, Option, Some, None, refl, ap, sym, ◌∙◌, subst, arith, ◌⊎◌, inl, inr, eq-eqb, ne_eqb, is_some}
use Rattle.std.proofs.lemmas.Bool.{cases_Bool, eqb-true, and_parts}
use Rattle.cx_names.specs.declared.Reply.{Reply}
use Rattle.cx_names.specs.declared.Reply.TheVariants as replies
use Rattle.cx_machine.specs.declared.kind.Op.{Op}
use Rattle.cx_machine.specs.declared.kind.Op.TheVariants as ops
use Rattle.cx_machine.specs.declared.stop.Running.{Running}
use Rattle.cx_machine.specs.Words.{is_thread, has, without, inserted}
use Rattle.cx_machine.specs.Meaning.{IsOnceEach, bit, times, names}
use Rattle.cx_machine.specs.Stop.{Stop, step, is_requested, can_add, is_pair, runs, is_running, ended_by, is_fresh, requested, with_another, without_one, registered_too, began, finished, removed, ran}
use Rattle.cx_machine.specs.Distinct.{length-push, length-without, times-without}
use Rattle.cx_machine.specs.Waiters.{times_some}
use Rattle.cx_machine.specs.Kept.{made}
use Rattle.cx_machine.specs.Callbacks.{ids, members, debt, all, times_members, ids-push, times_push, left, left_running, joined, fresh_all}
use Rattle.cx_machine.proofs.Counts.{length-members, lacks}
use Rattle.cx_turn.specs.Views.{cost_of}

lacks_running : (rs : List Running) (n : ℕ) → times n (ids rs) ≡ 0 → is_running rs n ≡ false
lacks_running [] n h = refl
lacks_running (r ∷ rs) n h = by_cases (cases_Bool (r.id == n)) (lacks_running rs n)
  where
    by_cases : ((r.id == n) ≡ true) ⊎ ((r.id == n) ≡ false) → (times n (ids rs) ≡ 0 → is_running rs n ≡ false) → is_running (r ∷ rs) n ≡ false
    by_cases (inl e) f = let h' : 1 + times n (ids rs) ≡ 0 = rw e at h in absurd (omega (arith, h'))
    by_cases (inr e) f = let q = f (omega (arith, h)) in rw (e, q) refl

-- ---- fresh IDs

-- an ID that stands nowhere is fresh to its thread
pub fresh_is : (s : Stop) (by id : ℕ) → id / 4096 ≡ by → all id s ≡ 0 → is_fresh s by id ≡ true
fresh_is s by id e z =
    let a = lacks s.registered id (omega (arith, z)) in
    let b = lacks_running s.running id (omega (arith, z)) in
    let c = lacks s.ended id (omega (arith, z)) in
    let d = lacks s.gone id (omega (arith, z)) in
    let f = eq-eqb (id / 4096) by e in
    rw (f, a, b, c, d) refl

-- the ID that a change brings in
abbrev pub brought : Op → Option ℕ → Option ℕ
brought ops.Register id = id
brought ops.RegisterNow id = id
brought _ id = None

-- a change brings in no other
abbrev Grows : Stop → Op → Option ℕ → ℕ → Stop → Type 0
Grows s op a k t = all k t ≤ all k s + names (brought op a) k

pub grows : (s t : Stop) (by : ℕ) (op : Op) (a : Option ℕ) (b : ℤ) (r : Reply) (k : ℕ) → step s by op a b r ≡ Some t → all k t ≤ all k s + names (brought op a) k
grows s t by ops.Request (Some zero) (pos zero) replies.Ok k e = made (Grows s ops.Request (Some zero) k) (not (is_requested s)) (requested s by) t (λ _. omega arith) e
grows s t by ops.Another (Some zero) (pos zero) replies.Ok k e = made (Grows s ops.Another (Some zero) k) (can_add s) (with_another s) t (λ _. omega arith) e
grows s t by ops.Drop (Some zero) (pos zero) replies.Ok k e = made (Grows s ops.Drop (Some zero) k) (nat_lt 0 s.sources) (without_one s) t (λ _. omega arith) e
grows s t by ops.Register (Some id) (pos zero) replies.Ok k e = made (Grows s ops.Register (Some id) k) _ (registered_too s id) t (λ _. let p = times_push k s.registered id in omega (arith, p)) e
grows s t by ops.RegisterNow (Some id) (pos zero) replies.Ok k e = made (Grows s ops.RegisterNow (Some id) k) _ (began s by id) t (λ _. began_grows) e
  where
    began_grows : all k (began s by id) ≤ all k s + bit (nat_eq id k)
    began_grows =
        let w = times-without k id s.registered in
        let i : times k (ids (s.running ++ record { thread = by; id = id } ∷ [])) ≡ times k (ids s.running ++ id ∷ []) = ap (λ (ns : List ℕ). times k ns) (ids-push s.running (record { thread = by; id = id })) in
        let p = times_push k (ids s.running) id in
        omega (arith, w, i, p)
grows s t by ops.Begin (Some id) (pos zero) replies.Ok k e = made (Grows s ops.Begin (Some id) k) (is_thread s.requester by && has s.registered id) (began s by id) t (λ c. began_same (and_parts (is_thread s.requester by) (has s.registered id) c).1) e
  where
    began_same : has s.registered id ≡ true → all k (began s by id) ≤ all k s + 0
    began_same h =
        let w = left k s.registered id h in
        let i : times k (ids (s.running ++ record { thread = by; id = id } ∷ [])) ≡ times k (ids s.running ++ id ∷ []) = ap (λ (ns : List ℕ). times k ns) (ids-push s.running (record { thread = by; id = id })) in
        let p = times_push k (ids s.running) id in
        omega (arith, w, i, p)
grows s t by ops.Finish (Some id) (pos zero) replies.Ok k e = made (Grows s ops.Finish (Some id) k) (runs s.running by id) (finished s by id) t (λ h. let w = left_running k s.running by id h in let j = joined k s.ended id in omega (arith, w, j)) e
grows s t by ops.Deregister (Some id) (pos zero) replies.Removed k e = made (Grows s ops.Deregister (Some id) k) (has s.registered id) (removed s id) t (λ h. let w = left k s.registered id h in let j = joined k s.gone id in omega (arith, w, j)) e
grows s t by ops.Deregister (Some id) (pos zero) replies.Ran k e = made (Grows s ops.Deregister (Some id) k) (has s.ended id) (ran s id) t (λ h. let w = left k s.ended id h in let j = joined k s.gone id in omega (arith, w, j)) e
grows s t by ops.Deregister (Some id) (pos zero) replies.Inside k e = made (Grows s ops.Deregister (Some id) k) (runs s.running by id) s t (λ _. omega arith) e
grows s t by _ _ _ _ k e = cc e

-- an ID that is brought in is its thread's
pub brought_by : (s t : Stop) (by : ℕ) (op : Op) (a : Option ℕ) (b : ℤ) (r : Reply) (id : ℕ) → step s by op a b r ≡ Some t → brought op a ≡ Some id → id / 4096 ≡ by
brought_by s t by ops.Register (Some k) (pos zero) replies.Ok id e g =
    made (λ _. id / 4096 ≡ by) (not (is_requested s) && nat_lt 0 s.sources && is_fresh s by k) (registered_too s k) t (λ c. own (and_parts (k / 4096 == by) _ (and_parts (not (is_requested s) && nat_lt 0 s.sources) (is_fresh s by k) c).1).0) e
  where
    own : (k / 4096 == by) ≡ true → id / 4096 ≡ by
    own f = let same : k ≡ id = cc g in subst (λ (x : ℕ). x / 4096 ≡ by) same (eqb-true (k / 4096) by f)
brought_by s t by ops.RegisterNow (Some k) (pos zero) replies.Ok id e g =
    made (λ _. id / 4096 ≡ by) (is_requested s && is_fresh s by k) (began s by k) t (λ c. own (and_parts (k / 4096 == by) _ (and_parts (is_requested s) (is_fresh s by k) c).1).0) e
  where
    own : (k / 4096 == by) ≡ true → id / 4096 ≡ by
    own f = let same : k ≡ id = cc g in subst (λ (x : ℕ). x / 4096 ≡ by) same (eqb-true (k / 4096) by f)
brought_by s t by ops.Request (Some zero) (pos zero) replies.Ok id e g = cc g
brought_by s t by ops.Another (Some zero) (pos zero) replies.Ok id e g = cc g
brought_by s t by ops.Drop (Some zero) (pos zero) replies.Ok id e g = cc g
brought_by s t by ops.Begin (Some k) (pos zero) replies.Ok id e g = cc g
brought_by s t by ops.Finish (Some k) (pos zero) replies.Ok id e g = cc g
brought_by s t by ops.Deregister (Some k) (pos zero) r id e g = cc g
brought_by s t by _ _ _ _ id e g = cc e

not_brought : (o : Option ℕ) (k by n : ℕ) → by ≢ n → k / 4096 ≡ n → ((id : ℕ) → o ≡ Some id → id / 4096 ≡ by) → names o k ≡ 0
not_brought None k by n ne own f = refl
not_brought (Some id) k by n ne own f = by_cases (cases_Bool (nat_eq id k))
  where
    by_cases : (nat_eq id k ≡ true) ⊎ (nat_eq id k ≡ false) → bit (nat_eq id k) ≡ 0
    by_cases (inl e) = let same : id ≡ k = eqb-true id k e in absurd (ne (sym (f id refl) ∙ (ap (λ (x : ℕ). x / 4096) same ∙ own)))
    by_cases (inr e) = rw e refl

-- what stands nowhere, and isn't brought in, stands nowhere
pub absent_step : (s t : Stop) (by n : ℕ) (op : Op) (a : Option ℕ) (b : ℤ) (r : Reply) (k : ℕ) → by ≢ n → k / 4096 ≡ n → all k s ≡ 0 → step s by op a b r ≡ Some t → all k t ≡ 0
absent_step s t by n op a b r k ne own z e =
    let g = grows s t by op a b r k e in
    let f = not_brought (brought op a) k by n ne own (λ id h. brought_by s t by op a b r id e h) in
    omega (arith, g, f, z)

-- ---- who runs what

runs_push : (rs : List Running) (x : Running) (n id : ℕ) → runs rs n id ≡ true → runs (rs ++ x ∷ []) n id ≡ true
runs_push [] x n id h = cc h
runs_push (r ∷ rs) x n id h = elim (is_pair n id r) as (λ b. (runs rs n id ≡ true → runs (rs ++ x ∷ []) n id ≡ true) → (b || runs rs n id) ≡ true → (b || runs (rs ++ x ∷ []) n id) ≡ true) [ true ↦ λ f e. refl | false ↦ λ f e. f e ] (λ q. runs_push rs x n id q) h

pub runs_last : (rs : List Running) (n id : ℕ) → runs (rs ++ record { thread = n; id = id } ∷ []) n id ≡ true
runs_last [] n id = let a = eq-eqb n n refl in let b = eq-eqb id id refl in rw (a, b) refl
runs_last (x ∷ xs) n id = let rest = runs_last xs n id in elim (is_pair n id x) as (λ b. (b || runs (xs ++ record { thread = n; id = id } ∷ []) n id) ≡ true) [ true ↦ refl | false ↦ rest ]

runs_ended : (rs : List Running) (by n a id : ℕ) → by ≢ n → runs rs n id ≡ true → runs (ended_by rs by a) n id ≡ true
runs_ended [] by n a id ne h = cc h
runs_ended (r ∷ rs) by n a id ne h = by_cases (cases_Bool (is_pair by a r)) (cases_Bool (is_pair n id r)) (λ q. runs_ended rs by n a id ne q)
  where
    by_cases : (is_pair by a r ≡ true) ⊎ (is_pair by a r ≡ false) → (is_pair n id r ≡ true) ⊎ (is_pair n id r ≡ false) → (runs rs n id ≡ true → runs (ended_by rs by a) n id ≡ true) → runs (ended_by (r ∷ rs) by a) n id ≡ true
    by_cases (inl e) (inl f) rest =
        let x : r.thread ≡ by = eqb-true r.thread by (and_parts (r.thread == by) (r.id == a) e).0 in
        let y : r.thread ≡ n = eqb-true r.thread n (and_parts (r.thread == n) (r.id == id) f).0 in
        absurd (ne (sym x ∙ y))
    by_cases (inl e) (inr f) rest = let h' : runs rs n id ≡ true = rw f at h in let q = rest h' in rw e q
    by_cases (inr e) (inl f) rest = rw (e, f) refl
    by_cases (inr e) (inr f) rest = let h' : runs rs n id ≡ true = rw f at h in let q = rest h' in rw (e, f) q

-- a callback runs on until its thread finishes one
pub runs_step : (s t : Stop) (by n : ℕ) (op : Op) (a : Option ℕ) (b : ℤ) (r : Reply) (id : ℕ) → (op ≡ ops.Finish → by ≢ n) → runs s.running n id ≡ true → step s by op a b r ≡ Some t → runs t.running n id ≡ true
runs_step s t by n ops.Request (Some zero) (pos zero) replies.Ok id o h e = made (λ x. runs x.running n id ≡ true) (not (is_requested s)) (requested s by) t (λ _. h) e
runs_step s t by n ops.Another (Some zero) (pos zero) replies.Ok id o h e = made (λ x. runs x.running n id ≡ true) (can_add s) (with_another s) t (λ _. h) e
runs_step s t by n ops.Drop (Some zero) (pos zero) replies.Ok id o h e = made (λ x. runs x.running n id ≡ true) (nat_lt 0 s.sources) (without_one s) t (λ _. h) e
runs_step s t by n ops.Register (Some k) (pos zero) replies.Ok id o h e = made (λ x. runs x.running n id ≡ true) _ (registered_too s k) t (λ _. h) e
runs_step s t by n ops.RegisterNow (Some k) (pos zero) replies.Ok id o h e = made (λ x. runs x.running n id ≡ true) _ (began s by k) t (λ _. runs_push s.running (record { thread = by; id = k }) n id h) e
runs_step s t by n ops.Begin (Some k) (pos zero) replies.Ok id o h e = made (λ x. runs x.running n id ≡ true) _ (began s by k) t (λ _. runs_push s.running (record { thread = by; id = k }) n id h) e
runs_step s t by n ops.Finish (Some k) (pos zero) replies.Ok id o h e = made (λ x. runs x.running n id ≡ true) (runs s.running by k) (finished s by k) t (λ _. runs_ended s.running by n k id (o refl) h) e
runs_step s t by n ops.Deregister (Some k) (pos zero) replies.Removed id o h e = made (λ x. runs x.running n id ≡ true) (has s.registered k) (removed s k) t (λ _. h) e
runs_step s t by n ops.Deregister (Some k) (pos zero) replies.Ran id o h e = made (λ x. runs x.running n id ≡ true) (has s.ended k) (ran s k) t (λ _. h) e
runs_step s t by n ops.Deregister (Some k) (pos zero) replies.Inside id o h e = made (λ x. runs x.running n id ≡ true) (runs s.running by k) s t (λ _. h) e
runs_step s t by n _ _ _ _ id o h e = cc e

-- ---- the request

never_twice : (o : Option ℕ) (n : ℕ) → not (is_some o) ≡ true → is_thread o n ≡ true → ⊥
never_twice None n e h = cc h
never_twice (Some t) n e h = cc e

-- who made the request stays so
pub requester_step : (s t : Stop) (by n : ℕ) (op : Op) (a : Option ℕ) (b : ℤ) (r : Reply) → is_thread s.requester n ≡ true → step s by op a b r ≡ Some t → is_thread t.requester n ≡ true
requester_step s t by n ops.Request (Some zero) (pos zero) replies.Ok h e = made (λ x. is_thread x.requester n ≡ true) (not (is_requested s)) (requested s by) t (λ c. absurd (never_twice s.requester n c h)) e
requester_step s t by n ops.Another (Some zero) (pos zero) replies.Ok h e = made (λ x. is_thread x.requester n ≡ true) (can_add s) (with_another s) t (λ _. h) e
requester_step s t by n ops.Drop (Some zero) (pos zero) replies.Ok h e = made (λ x. is_thread x.requester n ≡ true) (nat_lt 0 s.sources) (without_one s) t (λ _. h) e
requester_step s t by n ops.Register (Some k) (pos zero) replies.Ok h e = made (λ x. is_thread x.requester n ≡ true) _ (registered_too s k) t (λ _. h) e
requester_step s t by n ops.RegisterNow (Some k) (pos zero) replies.Ok h e = made (λ x. is_thread x.requester n ≡ true) _ (began s by k) t (λ _. h) e
requester_step s t by n ops.Begin (Some k) (pos zero) replies.Ok h e = made (λ x. is_thread x.requester n ≡ true) _ (began s by k) t (λ _. h) e
requester_step s t by n ops.Finish (Some k) (pos zero) replies.Ok h e = made (λ x. is_thread x.requester n ≡ true) (runs s.running by k) (finished s by k) t (λ _. h) e
requester_step s t by n ops.Deregister (Some k) (pos zero) replies.Removed h e = made (λ x. is_thread x.requester n ≡ true) (has s.registered k) (removed s k) t (λ _. h) e
requester_step s t by n ops.Deregister (Some k) (pos zero) replies.Ran h e = made (λ x. is_thread x.requester n ≡ true) (has s.ended k) (ran s k) t (λ _. h) e
requester_step s t by n ops.Deregister (Some k) (pos zero) replies.Inside h e = made (λ x. is_thread x.requester n ≡ true) (runs s.running by k) s t (λ _. h) e
requester_step s t by n _ _ _ _ h e = cc e

-- ---- sources

pub sources_step : (s t : Stop) (by : ℕ) (op : Op) (a : Option ℕ) (b : ℤ) (r : Reply) → step s by op a b r ≡ Some t → t.sources ≤ s.sources + 1
sources_step s t by ops.Request (Some zero) (pos zero) replies.Ok e = made (λ x. x.sources ≤ s.sources + 1) (not (is_requested s)) (requested s by) t (λ _. omega arith) e
sources_step s t by ops.Another (Some zero) (pos zero) replies.Ok e = made (λ x. x.sources ≤ s.sources + 1) (can_add s) (with_another s) t (λ _. omega arith) e
sources_step s t by ops.Drop (Some zero) (pos zero) replies.Ok e = made (λ x. x.sources ≤ s.sources + 1) (nat_lt 0 s.sources) (without_one s) t (λ _. omega arith) e
sources_step s t by ops.Register (Some k) (pos zero) replies.Ok e = made (λ x. x.sources ≤ s.sources + 1) _ (registered_too s k) t (λ _. omega arith) e
sources_step s t by ops.RegisterNow (Some k) (pos zero) replies.Ok e = made (λ x. x.sources ≤ s.sources + 1) _ (began s by k) t (λ _. omega arith) e
sources_step s t by ops.Begin (Some k) (pos zero) replies.Ok e = made (λ x. x.sources ≤ s.sources + 1) _ (began s by k) t (λ _. omega arith) e
sources_step s t by ops.Finish (Some k) (pos zero) replies.Ok e = made (λ x. x.sources ≤ s.sources + 1) (runs s.running by k) (finished s by k) t (λ _. omega arith) e
sources_step s t by ops.Deregister (Some k) (pos zero) replies.Removed e = made (λ x. x.sources ≤ s.sources + 1) (has s.registered k) (removed s k) t (λ _. omega arith) e
sources_step s t by ops.Deregister (Some k) (pos zero) replies.Ran e = made (λ x. x.sources ≤ s.sources + 1) (has s.ended k) (ran s k) t (λ _. omega arith) e
sources_step s t by ops.Deregister (Some k) (pos zero) replies.Inside e = made (λ x. x.sources ≤ s.sources + 1) (runs s.running by k) s t (λ _. omega arith) e
sources_step s t by _ _ _ _ e = cc e

-- ---- lengths, and what a change costs

pub runs_times : (rs : List Running) (by id : ℕ) → runs rs by id ≡ true → 1 ≤ times id (ids rs)
runs_times rs by id h = let w = left_running id rs by id h in let e = eq-eqb id id refl in let b : bit (nat_eq id id) ≡ 1 = ap bit e in omega (arith, w, b)

none_ends : (rs : List Running) (by id : ℕ) → times id (ids rs) ≡ 0 → length (ended_by rs by id) ≡ length rs
none_ends [] by id h = refl
none_ends (r ∷ rs) by id h = by_cases (cases_Bool (is_pair by id r)) (λ q. none_ends rs by id q)
  where
    by_cases : (is_pair by id r ≡ true) ⊎ (is_pair by id r ≡ false) → (times id (ids rs) ≡ 0 → length (ended_by rs by id) ≡ length rs) → length (ended_by (r ∷ rs) by id) ≡ suc (length rs)
    by_cases (inl e) rest =
        let s : (r.id == id) ≡ true = (and_parts (r.thread == by) (r.id == id) e).1 in
        let h' : 1 + times id (ids rs) ≡ 0 = rw s at h in
        absurd (omega (arith, h'))
    by_cases (inr e) rest = let q = rest (omega (arith, h)) in rw e (omega (arith, q))

one_ends : (rs : List Running) (by id : ℕ) → runs rs by id ≡ true → times id (ids rs) ≤ 1 → length (ended_by rs by id) + 1 ≡ length rs
one_ends [] by id h once = cc h
one_ends (r ∷ rs) by id h once = by_cases (cases_Bool (is_pair by id r)) (λ q. one_ends rs by id q) (λ q. none_ends rs by id q)
  where
    by_cases : (is_pair by id r ≡ true) ⊎ (is_pair by id r ≡ false) → (runs rs by id ≡ true → times id (ids rs) ≤ 1 → length (ended_by rs by id) + 1 ≡ length rs) → (times id (ids rs) ≡ 0 → length (ended_by rs by id) ≡ length rs) → length (ended_by (r ∷ rs) by id) + 1 ≡ suc (length rs)
    by_cases (inl e) rest none =
        let s : (r.id == id) ≡ true = (and_parts (r.thread == by) (r.id == id) e).1 in
        let o : 1 + times id (ids rs) ≤ 1 = rw s at once in
        let q = none (omega (arith, o)) in
        rw e (omega (arith, q))
    by_cases (inr e) rest none =
        let h' : runs rs by id ≡ true = rw e at h in
        let q = rest h' (omega (arith, once)) in
        rw e (omega (arith, q))

length-run : (rs : List Running) (x : Running) → length (rs ++ x ∷ []) ≡ length rs + 1
length-run [] x = refl
length-run (r ∷ rs) x = let q = length-run rs x in omega (arith, q)

length-in : (ms : List ℕ) (n : ℕ) → length (inserted ms n) ≤ length ms + 1
length-in [] n = omega arith
length-in (m ∷ ms) n =
    let rest = length-in ms n in
    elim (nat_lt m n) as (λ b. length (cond b (m ∷ inserted ms n) (cond (m == n) (m ∷ ms) (n ∷ m ∷ ms))) ≤ suc (length ms) + 1) [ true ↦ omega (arith, rest) | false ↦ elim (m == n) as (λ b. length (cond b (m ∷ ms) (n ∷ m ∷ ms)) ≤ suc (length ms) + 1) [ true ↦ omega arith | false ↦ omega arith ] ]

length-out : (ms : List ℕ) (n : ℕ) → has ms n ≡ true → times n ms ≤ 1 → length (without ms n) + 1 ≡ length ms
length-out ms n h once = let a = length-without ms n in let b = times_some n ms h in omega (arith, a, b, once)

-- the ID stands at most once in all
abbrev Once : Stop → ℕ → Type 0
Once s k = all k s ≤ 1

pub once_of : (s : Stop) (k : ℕ) → IsOnceEach (members s) → all k s ≤ 1
once_of s k once = let a = times_members k s in let b = once k in omega (arith, a, b)

-- how a change moves the members and the debt
pub record Moved (s t : Stop) (more : ℕ) : Type 0 where
  pub room : length (members t) ≤ length (members s) + more

pub began_moves : (s : Stop) (by id : ℕ) → IsOnceEach (members s) → has s.registered id ≡ true → (length (members (began s by id)) ≤ length (members s)) × (debt (began s by id) + 1 ≡ debt s)
began_moves s by id once h =
    let o = once_of s id once in
    let out = length-out s.registered id h (omega (arith, o)) in
    let r = length-run s.running (record { thread = by; id = id }) in
    let a = length-members s in
    let b = length-members (began s by id) in
    (omega (arith, out, r, a, b), omega (arith, out, r))

pub now_moves : (s : Stop) (by id : ℕ) → is_fresh s by id ≡ true → (length (members (began s by id)) ≤ length (members s) + 1) × (debt (began s by id) ≡ debt s + 1)
now_moves s by id h =
    let z = fresh_all s by id h in
    let w = length-without s.registered id in
    let r = length-run s.running (record { thread = by; id = id }) in
    let a = length-members s in
    let b = length-members (began s by id) in
    (omega (arith, z, w, r, a, b), omega (arith, z, w, r))

pub registered_moves : (s : Stop) (id : ℕ) → (length (members (registered_too s id)) ≤ length (members s) + 1) × (debt (registered_too s id) ≡ debt s + 2)
registered_moves s id =
    let r = length-push s.registered id in
    let a = length-members s in
    let b = length-members (registered_too s id) in
    (omega (arith, r, a, b), omega (arith, r))

pub finished_moves : (s : Stop) (by id : ℕ) → IsOnceEach (members s) → runs s.running by id ≡ true → (length (members (finished s by id)) ≤ length (members s)) × (debt (finished s by id) + 1 ≡ debt s)
finished_moves s by id once h =
    let o = once_of s id once in
    let r = one_ends s.running by id h (omega (arith, o)) in
    let i = length-in s.ended id in
    let a = length-members s in
    let b = length-members (finished s by id) in
    (omega (arith, r, i, a, b), omega (arith, r))

pub removed_moves : (s : Stop) (id : ℕ) → IsOnceEach (members s) → has s.registered id ≡ true → (length (members (removed s id)) ≤ length (members s)) × (debt (removed s id) + 2 ≡ debt s)
removed_moves s id once h =
    let o = once_of s id once in
    let out = length-out s.registered id h (omega (arith, o)) in
    let i = length-in s.gone id in
    let a = length-members s in
    let b = length-members (removed s id) in
    (omega (arith, out, i, a, b), omega (arith, out))

pub ran_moves : (s : Stop) (id : ℕ) → IsOnceEach (members s) → has s.ended id ≡ true → length (members (ran s id)) ≤ length (members s)
ran_moves s id once h =
    let o = once_of s id once in
    let out = length-out s.ended id h (omega (arith, o)) in
    let i = length-in s.gone id in
    let a = length-members s in
    let b = length-members (ran s id) in
    omega (arith, out, i, a, b)

-- ---- costs

pub cost_paid : (d d' : ℕ) → d' + 1 ≡ d → cost_of d d' ≡ 0
cost_paid d d' e = ap (λ b. cond b 0 (1 + (d' - d))) (eq-eqb (d' + 1) d e)

pub cost_is : (d d' : ℕ) → d' + 1 ≢ d → cost_of d d' ≡ 1 + (d' - d)
cost_is d d' ne = ap (λ b. cond b 0 (1 + (d' - d))) (ne_eqb (d' + 1) d ne)

pub cost_one : (d d' : ℕ) → d' ≤ d → d' + 1 ≢ d → cost_of d d' ≡ 1
cost_one d d' le ne = cost_is d d' ne ∙ (omega (arith, le))

-- what a deregistration moves
pub record Backs (s t : Stop) : Type 0 where
  pub room : length (members t) ≤ length (members s)
  pub debts : debt t ≤ debt s
  pub more : debt t + 1 ≢ debt s
  pub sources : t.sources ≡ s.sources

pub back_moves : (s : Stop) (by id : ℕ) (r : Reply) (t : Stop) → IsOnceEach (members s) → step s by ops.Deregister (Some id) (pos 0) r ≡ Some t → Backs s t
back_moves s by id replies.Removed t once e = made (Backs s) (has s.registered id) (removed s id) t (λ h. let m = removed_moves s id once h in record { room = m.0; debts = (let a = m.1 in omega (arith, a)); more = λ f. (let a = m.1 in omega (arith, a, f)); sources = refl }) e
back_moves s by id replies.Ran t once e = made (Backs s) (has s.ended id) (ran s id) t (λ h. record { room = ran_moves s id once h; debts = omega arith; more = λ f. omega (arith, f); sources = refl }) e
back_moves s by id replies.Inside t once e = made (Backs s) (runs s.running by id) s t (λ h. record { room = omega arith; debts = omega arith; more = λ f. omega (arith, f); sources = refl }) e
back_moves s by id _ t once e = cc e
