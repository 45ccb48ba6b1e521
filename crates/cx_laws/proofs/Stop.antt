-- Requests, and the begins and ends of callbacks.
use Rattle.std.proofs.Common.{◌≡◌, ℕ, zero, ◌+◌, ◌≤◌, ◌==◌, ◌&&◌, not, ℤ, pos, true, false, cond, List, [], ◌∷◌, ◌++◌, Option, Some, None, is_some, refl, sym, ap, subst, arith, nat_eq, nat_lt, ◌∙◌, ◌⊎◌, inl, inr, eq-eqb}
use Rattle.std.proofs.lemmas.Bool.{eqb-true, and_parts, cases_Bool, not-true}
use Rattle.cx_names.specs.declared.Reply.{Reply}
use Rattle.cx_names.specs.declared.Reply.TheVariants as replies
use Rattle.cx_machine.specs.declared.kind.Kind.TheVariants as kinds
use Rattle.cx_machine.specs.declared.kind.Entry.{Entry}
use Rattle.cx_machine.specs.declared.kind.Op.{Op}
use Rattle.cx_machine.specs.declared.kind.Op.TheVariants as ops
use Rattle.cx_machine.specs.declared.stop.Running.{Running}
use Rattle.cx_machine.specs.Acts.{at_entry}
use Rattle.cx_machine.specs.Kept.{made}
use Rattle.cx_machine.specs.Meaning.{run, bit, times, IsOnceEach}
use Rattle.cx_machine.specs.Words.{small_of, is_thread, has, inserted}
use Rattle.cx_machine.specs.Distinct.{bit_le}
use Rattle.cx_machine.specs.Waiters.{times_some}
use Rattle.cx_machine.specs.Callbacks.{ids, members, all, times_members, times_push, ids-push, left_running, once_registered, once_began_now, once_began, once_finished, once_removed, once_ran, has_inserted}
use Rattle.cx_machine.proofs.Counts.{times_kept, runs_times}
use Rattle.cx_machine.specs.Machine.{IsLegal, Stop as AStop}
use Rattle.cx_machine.specs.Stop.{Stop, opening, is_requested, can_add, is_pair, runs, ended_by, is_fresh, can_register, can_register_now, can_begin, requested, with_another, without_one, registered_too, began, finished, removed, ran, step}
use Rattle.cx_laws.specs.History.{count}
use Rattle.cx_laws.specs.Stop.{is_request, is_begin, is_finish, is_deregister, is_id, requests, begins, finishes, deregisters}
use Rattle.cx_laws.proofs.Along.{some_is, balanced, bounded, reaches, parted, total_none}

-- how often the callback runs, or has run, or can begin no more
pub spent : ℕ → Stop → ℕ
spent k s = times k (ids s.running) + times k s.ended + times k s.gone

-- ---- lists

more_inserted : (k : ℕ) (ms : List ℕ) (n : ℕ) → times k ms ≤ times k (inserted ms n)
more_inserted k [] n = omega arith
more_inserted k (m ∷ ms) n =
    let rest = more_inserted k ms n in
    elim (nat_lt m n) as (λ b. bit (nat_eq m k) + times k ms ≤ times k (cond b (m ∷ inserted ms n) (cond (m == n) (m ∷ ms) (n ∷ m ∷ ms)))) [
      | true ↦ omega (arith, rest)
      | false ↦ elim (m == n) as (λ b. bit (nat_eq m k) + times k ms ≤ times k (cond b (m ∷ ms) (n ∷ m ∷ ms))) [ true ↦ omega arith | false ↦ omega arith ]
    ]

in_it : (ms : List ℕ) (n k : ℕ) → nat_eq n k ≡ true → 1 ≤ times k (inserted ms n)
in_it ms n k e = times_some k (inserted ms n) (has_inserted ms n k e)

-- another callback runs on as often
others_run : (k : ℕ) (rs : List Running) (by id : ℕ) → nat_eq id k ≡ false → times k (ids (ended_by rs by id)) ≡ times k (ids rs)
others_run k [] by id ne = refl
others_run k (r ∷ rs) by id ne = at (cases_Bool (is_pair by id r)) (others_run k rs by id ne)
  where
    at : (is_pair by id r ≡ true) ⊎ (is_pair by id r ≡ false) → times k (ids (ended_by rs by id)) ≡ times k (ids rs) → times k (ids (ended_by (r ∷ rs) by id)) ≡ bit (nat_eq r.id k) + times k (ids rs)
    at (inl e) rest =
        let same : r.id ≡ id = eqb-true r.id id (and_parts (r.thread == by) (r.id == id) e).1 in
        let ne' : nat_eq r.id k ≡ false = subst (λ x. nat_eq x k ≡ false) (sym same) ne in
        rw (e, ne') (omega (arith, rest))
    at (inr e) rest = rw e (omega (arith, rest))

begun_more : (k : ℕ) (s : Stop) (by id : ℕ) → times k (ids (began s by id).running) ≡ times k (ids s.running) + bit (nat_eq id k)
begun_more k s by id = ap (times k) (ids-push s.running (record { thread = by; id = id })) ∙ times_push k (ids s.running) id

pub one_each : (k : ℕ) (s : Stop) → IsOnceEach (members s) → all k s ≤ 1
one_each k s once = let t = times_members k s in let o = once k in omega (arith, t, o)

finished_less : (k : ℕ) (s : Stop) (by id : ℕ) → IsOnceEach (members s) → runs s.running by id ≡ true → times k (ids (ended_by s.running by id)) + bit (nat_eq id k) ≡ times k (ids s.running)
finished_less k s by id once h = at (cases_Bool (nat_eq id k))
  where
    at : (nat_eq id k ≡ true) ⊎ (nat_eq id k ≡ false) → times k (ids (ended_by s.running by id)) + bit (nat_eq id k) ≡ times k (ids s.running)
    at (inl e) =
        let l = left_running k s.running by id h in
        let o = one_each k s once in
        let l' : times k (ids (ended_by s.running by id)) + 1 ≤ times k (ids s.running) = rw e at l in
        rw e (omega (arith, l', o))
    at (inr e) = let r = others_run k s.running by id e in rw e (omega (arith, r))

-- ---- one change

pub record Counts (k : ℕ) (s : Stop) (op : Op) (a : Option ℕ) (by : ℕ) (t : Stop) : Type 0 where
  pub once : IsOnceEach (members t)
  pub requests_it : bit (is_some s.requester) + bit (is_request op) ≡ bit (is_some t.requester)
  pub begins_it : spent k s + bit (is_begin op && is_id a k) ≤ spent k t
  pub runs_it : times k (ids s.running) + bit (is_begin op && is_id a k) ≡ bit (is_finish op && is_id a k) + times k (ids t.running)

began_counts : (k : ℕ) (s : Stop) (by id : ℕ) (op : Op) → is_begin op ≡ true → is_request op ≡ false → is_finish op ≡ false → IsOnceEach (members (began s by id)) → Counts k s op (Some id) by (began s by id)
unfolding spent
began_counts k s by id op b q f once =
    let m = begun_more k s by id in
    record {
      once = once;
      requests_it = rw q (omega arith);
      begins_it = rw b (omega (arith, m));
      runs_it = rw (b, f) (omega (arith, m));
    }

finished_counts : (k : ℕ) (s : Stop) (by id : ℕ) → IsOnceEach (members s) → runs s.running by id ≡ true → Counts k s ops.Finish (Some id) by (finished s by id)
unfolding spent
finished_counts k s by id once h =
    let l = finished_less k s by id once h in
    record { once = once_finished s by id once h; requests_it = omega arith; begins_it = at (cases_Bool (nat_eq id k)); runs_it = omega (arith, l) }
  where
    at : (nat_eq id k ≡ true) ⊎ (nat_eq id k ≡ false) → spent k s + 0 ≤ spent k (finished s by id)
    at (inl e) = let i = in_it s.ended id k e in let o = one_each k s once in omega (arith, i, o)
    at (inr e) = let r = others_run k s.running by id e in let m = more_inserted k s.ended id in omega (arith, r, m)

removed_counts : (k : ℕ) (s : Stop) (by id : ℕ) → IsOnceEach (members s) → has s.registered id ≡ true → Counts k s ops.Deregister (Some id) by (removed s id)
unfolding spent
removed_counts k s by id once h =
    let m = more_inserted k s.gone id in
    record { once = once_removed s id once h; requests_it = omega arith; begins_it = omega (arith, m); runs_it = omega arith }

ran_counts : (k : ℕ) (s : Stop) (by id : ℕ) → IsOnceEach (members s) → has s.ended id ≡ true → Counts k s ops.Deregister (Some id) by (ran s id)
unfolding spent
ran_counts k s by id once h = record { once = once_ran s id once h; requests_it = omega arith; begins_it = at (cases_Bool (nat_eq id k)); runs_it = omega arith }
  where
    at : (nat_eq id k ≡ true) ⊎ (nat_eq id k ≡ false) → spent k s + 0 ≤ spent k (ran s id)
    at (inl e) = let i = in_it s.gone id k e in let o = one_each k s once in omega (arith, i, o)
    at (inr e) = let r = times_kept s.ended id k e in let m = more_inserted k s.gone id in omega (arith, r, m)

-- a change that moves no callback
still : (k : ℕ) (s : Stop) (op : Op) (a : Option ℕ) (by : ℕ) → IsOnceEach (members s) → is_request op ≡ false → is_begin op ≡ false → is_finish op ≡ false → Counts k s op a by s
unfolding spent
still k s op a by once q b f = record { once = once; requests_it = rw q (omega arith); begins_it = rw b (omega arith); runs_it = rw (b, f) (omega arith) }

asked : (k : ℕ) (s : Stop) (by : ℕ) → IsOnceEach (members s) → not (is_requested s) ≡ true → Counts k s ops.Request (Some 0) by (requested s by)
unfolding spent
asked k s by once c = let n : is_some s.requester ≡ false = not-true _ c in record { once = once; requests_it = rw n (omega arith); begins_it = omega arith; runs_it = omega arith }

one : (k : ℕ) (s t : Stop) (by : ℕ) (op : Op) (a : Option ℕ) (b : ℤ) (r : Reply) → IsOnceEach (members s) → step s by op a b r ≡ Some t → Counts k s op a by t
unfolding spent
one k s t by ops.Request (Some zero) (pos zero) replies.Ok g e = made (Counts k s ops.Request (Some 0) by) (not (is_requested s)) (requested s by) t (asked k s by g) e
one k s t by ops.Another (Some zero) (pos zero) replies.Ok g e = made (Counts k s ops.Another (Some 0) by) (can_add s) (with_another s) t (λ _. record { once = g; requests_it = omega arith; begins_it = omega arith; runs_it = omega arith }) e
one k s t by ops.Drop (Some zero) (pos zero) replies.Ok g e = made (Counts k s ops.Drop (Some 0) by) (nat_lt 0 s.sources) (without_one s) t (λ _. record { once = g; requests_it = omega arith; begins_it = omega arith; runs_it = omega arith }) e
one k s t by ops.Register (Some id) (pos zero) replies.Ok g e = made (Counts k s ops.Register (Some id) by) (can_register s by id) (registered_too s id) t (λ c. record { once = once_registered s by id g (and_parts (not (is_requested s) && nat_lt 0 s.sources) (is_fresh s by id) c).1; requests_it = omega arith; begins_it = omega arith; runs_it = omega arith }) e
one k s t by ops.RegisterNow (Some id) (pos zero) replies.Ok g e = made (Counts k s ops.RegisterNow (Some id) by) (can_register_now s by id) (began s by id) t (λ c. began_counts k s by id ops.RegisterNow refl refl refl (once_began_now s by id g (and_parts (is_requested s) (is_fresh s by id) c).1)) e
one k s t by ops.Begin (Some id) (pos zero) replies.Ok g e = made (Counts k s ops.Begin (Some id) by) (can_begin s by id) (began s by id) t (λ c. began_counts k s by id ops.Begin refl refl refl (once_began s by id g (and_parts (is_thread s.requester by) (has s.registered id) c).1)) e
one k s t by ops.Finish (Some id) (pos zero) replies.Ok g e = made (Counts k s ops.Finish (Some id) by) (runs s.running by id) (finished s by id) t (finished_counts k s by id g) e
one k s t by ops.Deregister (Some id) (pos zero) replies.Removed g e = made (Counts k s ops.Deregister (Some id) by) (has s.registered id) (removed s id) t (removed_counts k s by id g) e
one k s t by ops.Deregister (Some id) (pos zero) replies.Ran g e = made (Counts k s ops.Deregister (Some id) by) (has s.ended id) (ran s id) t (ran_counts k s by id g) e
one k s t by ops.Deregister (Some id) (pos zero) replies.Inside g e = made (Counts k s ops.Deregister (Some id) by) (runs s.running by id) s t (λ _. still k s ops.Deregister (Some id) by g refl refl refl) e
one k s t by _ _ _ _ g e = cc e

pub at_each : (k : ℕ) (s t : Stop) (e : Entry) → IsOnceEach (members s) → at_entry step s e ≡ Some t → Counts k s e.op (small_of e.a) e.by.0 t
at_each k s t e g is = one k s t e.by.0 e.op (small_of e.a) e.b e.reply g is

-- ---- histories

abbrev pub Leads : ℕ → List Entry → Stop → Type 0
Leads sources h s = run (at_entry step) (Some (opening sources)) h ≡ Some s

pub first : (sources : ℕ) → IsOnceEach (members (opening sources))
first sources k = omega arith

pub legal : (sources : ℕ) (h : List Entry) → IsLegal (kinds.Stop sources) h → (s : Stop) × Leads sources h s
legal sources h is = reaches AStop (at_entry step) (λ m e. refl) h (opening sources) is

asked_so_far : (sources : ℕ) (h : List Entry) (s : Stop) → Leads sources h s → count requests h ≡ bit (is_some s.requester)
asked_so_far sources h s is =
    let b = (balanced (at_entry step) (λ x. IsOnceEach (members x)) (λ x. bit (is_some x.requester)) (λ e. bit (requests e)) (λ e. 0) (λ x y e g on. (let o = at_each 0 x y e g on in (o.once, (let q = o.requests_it in omega (arith, q))))) h (opening sources) s (first sources) is).1 in
    let z = total_none h in
    omega (arith, b, z)

-- what begins from a state on
spends : (k : ℕ) (m s : Stop) (h : List Entry) → IsOnceEach (members m) → run (at_entry step) (Some m) h ≡ Some s → IsOnceEach (members s) × (spent k m + count (begins k) h ≤ spent k s)
spends k m s h g is = bounded (at_entry step) (λ x. IsOnceEach (members x)) (λ x. spent k x) (λ e. bit (begins k e)) (λ x y e g on. (let o = at_each k x y e g on in (o.once, o.begins_it))) h m s g is

pub running_now : (k sources : ℕ) (h : List Entry) (s : Stop) → Leads sources h s → IsOnceEach (members s) × (count (begins k) h ≡ count (finishes k) h + times k (ids s.running))
running_now k sources h s is =
    let b = balanced (at_entry step) (λ x. IsOnceEach (members x)) (λ x. times k (ids x.running)) (λ e. bit (begins k e)) (λ e. bit (finishes k e)) (λ x y e g on. (let o = at_each k x y e g on in (o.once, o.runs_it))) h (opening sources) s (first sources) is in
    (b.0, let q = b.1 in omega (arith, q))

spent_most : (k : ℕ) (s : Stop) → IsOnceEach (members s) → spent k s ≤ 1
unfolding spent
spent_most k s once = let o = one_each k s once in omega (arith, o)

pub requested_once : (sources : ℕ) (h : List Entry) → IsLegal (kinds.Stop sources) h → count requests h ≤ 1
requested_once sources h is =
    let s = legal sources h is in
    let a = asked_so_far sources h s.0 s.1 in
    let l = bit_le (is_some s.0.requester) in
    omega (arith, a, l)

pub begins_once : (sources : ℕ) (h : List Entry) (id : ℕ) → IsLegal (kinds.Stop sources) h → count (begins id) h ≤ 1
begins_once sources h id is =
    let s = legal sources h is in
    let b = spends id (opening sources) s.0 h (first sources) s.1 in
    let m = spent_most id s.0 b.0 in
    let q = b.1 in
    omega (arith, q, m)

-- ---- deregistrations

id_is : (a : Option ℕ) (k : ℕ) → is_id a k ≡ true → a ≡ Some k
id_is None k e = cc e
id_is (Some n) k e = ap (λ x. Some x) (eqb-true n k e)

-- of whom a deregistration was: who hasn't begun, who has ended, or who runs on the thread itself
pub data Gone (k by : ℕ) (s t : Stop) : Type 0 where
  unbegun : has s.registered k ≡ true → t ≡ removed s k → Gone k by s t
  over : has s.ended k ≡ true → t ≡ ran s k → Gone k by s t
  within : runs s.running by k ≡ true → t ≡ s → Gone k by s t

gone : (k : ℕ) (s t : Stop) (by : ℕ) (op : Op) (a : Option ℕ) (b : ℤ) (r : Reply) → is_deregister op ≡ true → a ≡ Some k → step s by op a b r ≡ Some t → Gone k by s t
gone k s t by ops.Deregister (Some id) (pos zero) replies.Removed w is e = subst (λ x. Gone x by s t) (some_is id k is) (made (Gone id by s) (has s.registered id) (removed s id) t (λ c. unbegun c refl) e)
gone k s t by ops.Deregister (Some id) (pos zero) replies.Ran w is e = subst (λ x. Gone x by s t) (some_is id k is) (made (Gone id by s) (has s.ended id) (ran s id) t (λ c. over c refl) e)
gone k s t by ops.Deregister (Some id) (pos zero) replies.Inside w is e = subst (λ x. Gone x by s t) (some_is id k is) (made (Gone id by s) (runs s.running by id) s t (λ c. within c refl) e)
gone k s t by ops.Deregister _ _ _ w is e = cc e
gone k s t by _ _ _ _ w is e = cc w

same_number : (k : ℕ) → nat_eq k k ≡ true
same_number k = let e : (k == k) ≡ true = eq-eqb k k refl in e

spent_then : (k by : ℕ) (s t : Stop) → Gone k by s t → 1 ≤ spent k t
unfolding spent
spent_then k by s t (unbegun h is) = let i = in_it s.gone k k (same_number k) in rw is (omega (arith, i))
spent_then k by s t (over h is) = let i = in_it s.gone k k (same_number k) in rw is (omega (arith, i))
spent_then k by s t (within h is) = let i = runs_times s.running by k h in rw is (omega (arith, i))

-- a deregistration, and what was so before it
pub record At (sources k : ℕ) (before rest : List Entry) (by : ℕ) : Type 0 where
  pub now : Stop
  pub next : Stop
  pub end : Stop
  pub leads : Leads sources before now
  pub follows : run (at_entry step) (Some next) rest ≡ Some end
  pub once : IsOnceEach (members now)
  pub once_next : IsOnceEach (members next)
  pub how : Gone k by now next

pub found : (sources : ℕ) (before rest : List Entry) (e : Entry) (id : ℕ) → IsLegal (kinds.Stop sources) (before ++ e ∷ rest) → deregisters id e ≡ true → At sources id before rest e.by.0
found sources before rest e id is w =
    let s = legal sources (before ++ e ∷ rest) is in
    let p = parted (at_entry step) (opening sources) s.0 before e rest s.1 in
    let q = and_parts (is_deregister e.op) (is_id (small_of e.a) id) w in
    let o = (running_now id sources before p.now p.leads).0 in
    record { now = p.now; next = p.next; end = s.0; leads = p.leads; follows = p.follows; once = o; once_next = (at_each id p.now p.next e o p.one).once; how = gone id p.now p.next e.by.0 e.op (small_of e.a) e.b e.reply q.0 (id_is (small_of e.a) id q.1) p.one }

pub never_after_deregistration : (sources : ℕ) (before rest : List Entry) (e : Entry) (id : ℕ) → IsLegal (kinds.Stop sources) (before ++ e ∷ rest) → deregisters id e ≡ true → count (begins id) rest ≡ 0
never_after_deregistration sources before rest e id is w =
    let f = found sources before rest e id is w in
    let b = spends id f.next f.end rest f.once_next f.follows in
    let m = spent_most id f.end b.0 in
    let t = spent_then id e.by.0 f.now f.next f.how in
    let q = b.1 in
    omega (arith, q, m, t)

beginning : (s t : Stop) (by : ℕ) (op : Op) (a : Option ℕ) (b : ℤ) (r : Reply) → is_begin op ≡ true → step s by op a b r ≡ Some t → is_some s.requester ≡ true
beginning s t by ops.Begin (Some id) (pos zero) replies.Ok w e = made (λ _. is_some s.requester ≡ true) (can_begin s by id) (began s by id) t (λ c. someone s.requester (and_parts (is_thread s.requester by) (has s.registered id) c).0) e
  where
    someone : (o : Option ℕ) → is_thread o by ≡ true → is_some o ≡ true
    someone None h = cc h
    someone (Some n) h = refl
beginning s t by ops.RegisterNow (Some id) (pos zero) replies.Ok w e = made (λ _. is_some s.requester ≡ true) (can_register_now s by id) (began s by id) t (λ c. (and_parts (is_requested s) (is_fresh s by id) c).0) e
beginning s t by ops.Begin _ _ _ w e = cc e
beginning s t by ops.RegisterNow _ _ _ w e = cc e
beginning s t by _ _ _ _ w e = cc w

pub begins_after_request : (sources : ℕ) (before rest : List Entry) (e : Entry) → IsLegal (kinds.Stop sources) (before ++ e ∷ rest) → is_begin e.op ≡ true → count requests before ≡ 1
begins_after_request sources before rest e is w =
    let s = legal sources (before ++ e ∷ rest) is in
    let p = parted (at_entry step) (opening sources) s.0 before e rest s.1 in
    asked_so_far sources before p.now p.leads ∙ ap bit (beginning p.now p.next e.by.0 e.op (small_of e.a) e.b e.reply w p.one)
