-- On which thread a callback runs.
use Rattle.std.proofs.Common.{◌≡◌, ℕ, zero, ◌+◌, ◌≤◌, ◌==◌, ◌&&◌, not, ℤ, pos, Bool, true, false, List, [], ◌∷◌, ◌++◌, Option, Some, refl, sym, subst, arith, ◌⊎◌, inl, inr, nat_lt}
use Rattle.std.proofs.lemmas.Bool.{eqb-true, and_parts, cases_Bool}
use Rattle.cx_names.specs.declared.Reply.{Reply}
use Rattle.cx_names.specs.declared.Reply.TheVariants as replies
use Rattle.cx_machine.specs.declared.kind.Kind.TheVariants as kinds
use Rattle.cx_machine.specs.declared.kind.Entry.{Entry}
use Rattle.cx_machine.specs.declared.kind.Op.{Op}
use Rattle.cx_machine.specs.declared.kind.Op.TheVariants as ops
use Rattle.cx_machine.specs.declared.stop.Running.{Running}
use Rattle.cx_machine.specs.Acts.{at_entry}
use Rattle.cx_machine.specs.Kept.{made}
use Rattle.cx_machine.specs.Meaning.{bit, times, IsOnceEach}
use Rattle.cx_machine.specs.Words.{small_of, has}
use Rattle.cx_machine.specs.Waiters.{times_some}
use Rattle.cx_machine.specs.Callbacks.{ids, members}
use Rattle.cx_machine.specs.Machine.{IsLegal}
use Rattle.cx_machine.specs.Stop.{Stop, opening, is_requested, can_add, is_pair, runs, ended_by, can_register, can_register_now, can_begin, requested, with_another, without_one, registered_too, began, finished, removed, ran, step}
use Rattle.cx_laws.specs.History.{count}
use Rattle.cx_laws.specs.Stop.{is_begin, is_finish, is_id, begins, finishes, deregisters, begins_on, finishes_on, RunsOn}
use Rattle.cx_laws.proofs.Along.{balanced}
use Rattle.cx_laws.proofs.Stop.{Leads, Gone, unbegun, over, within, At, found, running_now, first, one_each, at_each}

pairs : ℕ → ℕ → List Running → ℕ
pairs t k [] = 0
pairs t k (r ∷ rs) = bit (is_pair t k r) + pairs t k rs

pairs-push : (t k : ℕ) (rs : List Running) (r : Running) → pairs t k (rs ++ r ∷ []) ≡ pairs t k rs + bit (is_pair t k r)
unfolding pairs
pairs-push t k [] r = omega arith
pairs-push t k (x ∷ xs) r = let rest = pairs-push t k xs r in omega (arith, rest)

bit_of_both : (a b : Bool) → bit (a && b) ≤ bit b
bit_of_both true b = omega arith
bit_of_both false true = omega arith
bit_of_both false false = omega arith

either_way : (a b : Bool) → bit (a && b) ≡ bit (b && a)
either_way true true = refl
either_way true false = refl
either_way false true = refl
either_way false false = refl

-- a thread runs it no more often than all do
pairs_most : (t k : ℕ) (rs : List Running) → pairs t k rs ≤ times k (ids rs)
unfolding pairs
pairs_most t k [] = omega arith
pairs_most t k (r ∷ rs) = let rest = pairs_most t k rs in let b = bit_of_both (r.thread == t) (r.id == k) in omega (arith, rest, b)

pairs_some : (t k : ℕ) (rs : List Running) → runs rs t k ≡ true → 1 ≤ pairs t k rs
unfolding pairs
pairs_some t k [] h = cc h
pairs_some t k (r ∷ rs) h = at (cases_Bool (is_pair t k r)) (λ q. pairs_some t k rs q)
  where
    at : (is_pair t k r ≡ true) ⊎ (is_pair t k r ≡ false) → (runs rs t k ≡ true → 1 ≤ pairs t k rs) → 1 ≤ bit (is_pair t k r) + pairs t k rs
    at (inl e) rest = rw e (omega arith)
    at (inr e) rest = let h' : runs rs t k ≡ true = rw e at h in let q = rest h' in omega (arith, q)

none_left : (t k : ℕ) (rs : List Running) → pairs t k (ended_by rs t k) ≡ 0
unfolding pairs
none_left t k [] = refl
none_left t k (r ∷ rs) = at (cases_Bool (is_pair t k r)) (none_left t k rs)
  where
    at : (is_pair t k r ≡ true) ⊎ (is_pair t k r ≡ false) → pairs t k (ended_by rs t k) ≡ 0 → pairs t k (ended_by (r ∷ rs) t k) ≡ 0
    at (inl e) rest = rw e rest
    at (inr e) rest = rw e (rw e (omega (arith, rest)))

-- who ends its own callback leaves the pairs of others
others_left : (t k by id : ℕ) (rs : List Running) → ((id == k) && (by == t)) ≡ false → pairs t k (ended_by rs by id) ≡ pairs t k rs
unfolding pairs
others_left t k by id [] ne = refl
others_left t k by id (r ∷ rs) ne = at (cases_Bool (is_pair by id r)) (cases_Bool (is_pair t k r)) (others_left t k by id rs ne)
  where
    at : (is_pair by id r ≡ true) ⊎ (is_pair by id r ≡ false) → (is_pair t k r ≡ true) ⊎ (is_pair t k r ≡ false) → pairs t k (ended_by rs by id) ≡ pairs t k rs → pairs t k (ended_by (r ∷ rs) by id) ≡ bit (is_pair t k r) + pairs t k rs
    at (inl e) (inl f) rest =
        let p = and_parts (r.thread == by) (r.id == id) e in
        let q = and_parts (r.thread == t) (r.id == k) f in
        let a : r.thread ≡ by = eqb-true r.thread by p.0 in
        let b : r.id ≡ id = eqb-true r.id id p.1 in
        let c : (by == t) ≡ true = subst (λ x. (x == t) ≡ true) a q.0 in
        let d : (id == k) ≡ true = subst (λ x. (x == k) ≡ true) b q.1 in
        let z : true ≡ false = rw (d, c) at ne in
        cc z
    at (inl e) (inr f) rest = rw (e, f) (omega (arith, rest))
    at (inr e) f rest = rw e (omega (arith, rest))

pairs_less : (t k : ℕ) (s : Stop) (by id : ℕ) → IsOnceEach (members s) → runs s.running by id ≡ true → pairs t k s.running + 0 ≡ bit ((id == k) && (by == t)) + pairs t k (ended_by s.running by id)
pairs_less t k s by id once h = at (cases_Bool ((id == k) && (by == t)))
  where
    at : (((id == k) && (by == t)) ≡ true) ⊎ (((id == k) && (by == t)) ≡ false) → pairs t k s.running + 0 ≡ bit ((id == k) && (by == t)) + pairs t k (ended_by s.running by id)
    at (inl e) =
        let p = and_parts (id == k) (by == t) e in
        let i : id ≡ k = eqb-true id k p.0 in
        let b : by ≡ t = eqb-true by t p.1 in
        let h' : runs s.running t k ≡ true = subst (λ x. runs s.running t x ≡ true) i (subst (λ x. runs s.running x id ≡ true) b h) in
        let some = pairs_some t k s.running h' in
        let most = pairs_most t k s.running in
        let o = one_each k s once in
        let z : pairs t k (ended_by s.running by id) ≡ 0 = subst (λ x. pairs t k (ended_by s.running by x) ≡ 0) (sym i) (subst (λ x. pairs t k (ended_by s.running x k) ≡ 0) (sym b) (none_left t k s.running)) in
        rw e (omega (arith, some, most, o, z))
    at (inr e) = let q = others_left t k by id s.running e in rw e (omega (arith, q))

abbrev On : ℕ → ℕ → Stop → Op → Option ℕ → ℕ → Stop → Type 0
On t k s op a by u = pairs t k s.running + bit ((is_begin op && is_id a k) && (by == t)) ≡ bit ((is_finish op && is_id a k) && (by == t)) + pairs t k u.running

began_on : (t k : ℕ) (s : Stop) (by id : ℕ) → pairs t k s.running + bit ((id == k) && (by == t)) ≡ 0 + pairs t k (began s by id).running
began_on t k s by id =
    let p = pairs-push t k s.running (record { thread = by; id = id }) in
    let w = either_way (id == k) (by == t) in
    omega (arith, p, w)

on : (t k : ℕ) (s u : Stop) (by : ℕ) (op : Op) (a : Option ℕ) (b : ℤ) (r : Reply) → IsOnceEach (members s) → step s by op a b r ≡ Some u → On t k s op a by u
on t k s u by ops.Request (Some zero) (pos zero) replies.Ok g e = made (On t k s ops.Request (Some 0) by) (not (is_requested s)) (requested s by) u (λ _. omega arith) e
on t k s u by ops.Another (Some zero) (pos zero) replies.Ok g e = made (On t k s ops.Another (Some 0) by) (can_add s) (with_another s) u (λ _. omega arith) e
on t k s u by ops.Drop (Some zero) (pos zero) replies.Ok g e = made (On t k s ops.Drop (Some 0) by) (nat_lt 0 s.sources) (without_one s) u (λ _. omega arith) e
on t k s u by ops.Register (Some id) (pos zero) replies.Ok g e = made (On t k s ops.Register (Some id) by) (can_register s by id) (registered_too s id) u (λ _. omega arith) e
on t k s u by ops.RegisterNow (Some id) (pos zero) replies.Ok g e = made (On t k s ops.RegisterNow (Some id) by) (can_register_now s by id) (began s by id) u (λ _. began_on t k s by id) e
on t k s u by ops.Begin (Some id) (pos zero) replies.Ok g e = made (On t k s ops.Begin (Some id) by) (can_begin s by id) (began s by id) u (λ _. began_on t k s by id) e
on t k s u by ops.Finish (Some id) (pos zero) replies.Ok g e = made (On t k s ops.Finish (Some id) by) (runs s.running by id) (finished s by id) u (pairs_less t k s by id g) e
on t k s u by ops.Deregister (Some id) (pos zero) replies.Removed g e = made (On t k s ops.Deregister (Some id) by) (has s.registered id) (removed s id) u (λ _. omega arith) e
on t k s u by ops.Deregister (Some id) (pos zero) replies.Ran g e = made (On t k s ops.Deregister (Some id) by) (has s.ended id) (ran s id) u (λ _. omega arith) e
on t k s u by ops.Deregister (Some id) (pos zero) replies.Inside g e = made (On t k s ops.Deregister (Some id) by) (runs s.running by id) s u (λ _. omega arith) e
on t k s u by _ _ _ _ g e = cc e

running_on : (t k sources : ℕ) (h : List Entry) (s : Stop) → Leads sources h s → count (begins_on t k) h ≡ count (finishes_on t k) h + pairs t k s.running
unfolding pairs
running_on t k sources h s is =
    let b = (balanced (at_entry step) (λ x. IsOnceEach (members x)) (λ x. pairs t k x.running) (λ e. bit (begins_on t k e)) (λ e. bit (finishes_on t k e)) (λ x y e g is_. ((at_each k x y e g is_).once, on t k x y e.by.0 e.op (small_of e.a) e.b e.reply g is_)) h (opening sources) s (first sources) is).1 in
    omega (arith, b)

pub waits_for_its_return : (sources : ℕ) (before rest : List Entry) (e : Entry) (id : ℕ) → IsLegal (kinds.Stop sources) (before ++ e ∷ rest) → deregisters id e ≡ true → (count (begins id) before ≡ count (finishes id) before) ⊎ RunsOn e.by.0 id before
waits_for_its_return sources before rest e id is w = let f = found sources before rest e id is w in by_cases f f.how
  where
    by_cases : (f : At sources id before rest e.by.0) → Gone id e.by.0 f.now f.next → (count (begins id) before ≡ count (finishes id) before) ⊎ RunsOn e.by.0 id before
    by_cases f (unbegun h i) =
        let n = (running_now id sources before f.now f.leads).1 in
        let o = one_each id f.now f.once in
        let s = times_some id f.now.registered h in
        inl (omega (arith, n, o, s))
    by_cases f (over h i) =
        let n = (running_now id sources before f.now f.leads).1 in
        let o = one_each id f.now f.once in
        let s = times_some id f.now.ended h in
        inl (omega (arith, n, o, s))
    by_cases f (within h i) =
        let n = running_on e.by.0 id sources before f.now f.leads in
        let s = pairs_some e.by.0 id f.now.running h in
        inr (omega (arith, n, s))
