-- The callbacks of a stop state stand once each in its four sets, and are no more than the IDs that there are.
use Rattle.std.proofs.Common.{◌≡◌, ℕ, zero, ◌+◌, ◌*◌, ◌/◌, ◌<◌, ◌≤◌, ◌==◌, nat_eq, nat_lt, ℤ, pos, Bool, true, false, not, ◌||◌, ◌&&◌, cond, List, [], ◌∷◌, ◌++◌, length, Option, Some, None, refl, ap, sym, ◌∙◌, subst, arith, ◌⊎◌, inl, inr}
use Rattle.std.proofs.lemmas.Bool.{cases_Bool, eqb-true, or_parts, and_parts, not-true}
use Rattle.cx_names.specs.declared.Reply.{Reply}
use Rattle.cx_names.specs.declared.Reply.TheVariants as replies
use Rattle.cx_machine.specs.declared.kind.Entry.{Entry}
use Rattle.cx_machine.specs.declared.kind.Op.{Op}
use Rattle.cx_machine.specs.declared.kind.Op.TheVariants as ops
use Rattle.cx_machine.specs.declared.stop.Running.{Running}
use Rattle.cx_machine.specs.Words.{is_thread, has, without, inserted, small_of}
use Rattle.cx_machine.specs.Acts.{at_entry}
use Rattle.cx_machine.specs.Meaning.{run, AreBelow, IsOnceEach, bit, times, names}
use Rattle.cx_machine.specs.Stop.{Stop, step, is_requested, can_add, is_pair, runs, is_running, ended_by, is_fresh, requested, with_another, without_one, registered_too, began, finished, removed, ran}
use Rattle.cx_machine.specs.Distinct.{Below, below_push, below_without, few_below, times-append, times-without, times_none, bit_le}
use Rattle.cx_machine.specs.Waiters.{below_one, below_both}
use Rattle.cx_machine.specs.Kept.{kept, made}

abbrev pub ids : List Running → List ℕ
ids [] = []
ids (r ∷ rs) = r.id ∷ ids rs

-- the IDs of all callbacks that were registered
abbrev pub members : Stop → List ℕ
members s = s.registered ++ (ids s.running ++ (s.ended ++ s.gone))

-- the change, where there is one, brings no more members than there is room for
abbrev pub HasRoom : ℕ → Stop → Option Stop → Type 0
HasRoom room s next = (after : Stop) → next ≡ Some after → length (members after) ≤ length (members s) + room

-- the begin and the finish of each registered callback, and the finish of each that runs
abbrev pub debt : Stop → ℕ
debt s = 2 * length s.registered + length s.running

-- a registration hands its ID to the pass, and a deregistration takes it back. A callback that is run at once hands over none
abbrev pub given : Op → Option ℕ → Option ℕ
given ops.Register id = id
given _ id = None

abbrev pub taken_back : Op → Option ℕ → Option ℕ
taken_back ops.Deregister id = id
taken_back _ id = None

-- registered, running or ended
abbrev pub lives : Stop → ℕ → Bool
lives s id = has s.registered id || is_running s.running id || has s.ended id

-- how often the ID stands in the sets
abbrev pub all : ℕ → Stop → ℕ
all k s = times k s.registered + times k (ids s.running) + times k s.ended + times k s.gone

pub times_members : (k : ℕ) (s : Stop) → times k (members s) ≡ all k s
times_members k s =
    let a = times-append k s.registered (ids s.running ++ (s.ended ++ s.gone)) in
    let b = times-append k (ids s.running) (s.ended ++ s.gone) in
    let c = times-append k s.ended s.gone in
    omega (arith, a, b, c)

pub ids-push : (rs : List Running) (r : Running) → ids (rs ++ r ∷ []) ≡ ids rs ++ r.id ∷ []
ids-push [] r = refl
ids-push (x ∷ xs) r = ap (λ (ns : List ℕ). x.id ∷ ns) (ids-push xs r)

pub times_push : (k : ℕ) (ms : List ℕ) (n : ℕ) → times k (ms ++ n ∷ []) ≡ times k ms + bit (nat_eq n k)
times_push k ms n = let a = times-append k ms (n ∷ []) in omega (arith, a)

pub none_running : (rs : List Running) (n : ℕ) → is_running rs n ≡ false → times n (ids rs) ≡ 0
none_running [] n h = refl
none_running (r ∷ rs) n h =
    let p = or_parts (r.id == n) (is_running rs n) h in
    let rest = none_running rs n p.1 in
    rw (p.0, rest) refl

-- who leaves a set stands there once less
pub left : (k : ℕ) (ms : List ℕ) (n : ℕ) → has ms n ≡ true → times k (without ms n) + bit (nat_eq n k) ≤ times k ms
left k [] n h = cc h
left k (m ∷ ms) n h = by_cases (cases_Bool (m == n)) (λ r. left k ms n r)
  where
    by_cases : ((m == n) ≡ true) ⊎ ((m == n) ≡ false) → (has ms n ≡ true → times k (without ms n) + bit (nat_eq n k) ≤ times k ms) → times k (without (m ∷ ms) n) + bit (nat_eq n k) ≤ bit (nat_eq m k) + times k ms
    by_cases (inl e) rest =
        let same : m ≡ n = eqb-true m n e in
        let b : bit (nat_eq m k) ≡ bit (nat_eq n k) = ap (λ (x : ℕ). bit (nat_eq x k)) same in
        let w = times-without k n ms in
        rw e (omega (arith, b, w))
    by_cases (inr e) rest = let h' : has ms n ≡ true = rw e at h in let r = rest h' in rw e (omega (arith, r))

pub fewer_run : (k : ℕ) (rs : List Running) (by id : ℕ) → times k (ids (ended_by rs by id)) ≤ times k (ids rs)
fewer_run k [] by id = omega arith
fewer_run k (r ∷ rs) by id =
    let rest = fewer_run k rs by id in
    elim (is_pair by id r) as (λ b. times k (ids (cond (not b) (r ∷ ended_by rs by id) (ended_by rs by id))) ≤ bit (nat_eq r.id k) + times k (ids rs)) [ true ↦ omega (arith, rest) | false ↦ omega (arith, rest) ]

pub left_running : (k : ℕ) (rs : List Running) (by id : ℕ) → runs rs by id ≡ true → times k (ids (ended_by rs by id)) + bit (nat_eq id k) ≤ times k (ids rs)
left_running k [] by id h = cc h
left_running k (r ∷ rs) by id h = by_cases (cases_Bool (is_pair by id r)) (λ q. left_running k rs by id q)
  where
    by_cases : (is_pair by id r ≡ true) ⊎ (is_pair by id r ≡ false) → (runs rs by id ≡ true → times k (ids (ended_by rs by id)) + bit (nat_eq id k) ≤ times k (ids rs)) → times k (ids (ended_by (r ∷ rs) by id)) + bit (nat_eq id k) ≤ bit (nat_eq r.id k) + times k (ids rs)
    by_cases (inl e) rest =
        let same : r.id ≡ id = eqb-true r.id id (and_parts (r.thread == by) (r.id == id) e).1 in
        let b : bit (nat_eq r.id k) ≡ bit (nat_eq id k) = ap (λ (x : ℕ). bit (nat_eq x k)) same in
        let w = fewer_run k rs by id in
        rw e (omega (arith, b, w))
    by_cases (inr e) rest = let h' : runs rs by id ≡ true = rw e at h in let r' = rest h' in rw e (omega (arith, r'))

pub joined : (k : ℕ) (ms : List ℕ) (n : ℕ) → times k (inserted ms n) ≤ times k ms + bit (nat_eq n k)
joined k [] n = omega arith
joined k (m ∷ ms) n =
    let rest = joined k ms n in
    elim (nat_lt m n) as (λ b. times k (cond b (m ∷ inserted ms n) (cond (m == n) (m ∷ ms) (n ∷ m ∷ ms))) ≤ bit (nat_eq m k) + times k ms + bit (nat_eq n k)) [
      | true ↦ omega (arith, rest)
      | false ↦ elim (m == n) as (λ b. times k (cond b (m ∷ ms) (n ∷ m ∷ ms)) ≤ bit (nat_eq m k) + times k ms + bit (nat_eq n k)) [ true ↦ omega arith | false ↦ omega arith ]
    ]

-- a fresh ID stands nowhere
pub fresh_all : (s : Stop) (by id : ℕ) → is_fresh s by id ≡ true → all id s ≡ 0
fresh_all s by id h =
    let f = and_parts (id / 4096 == by) (not (has s.registered id || is_running s.running id || has s.ended id || has s.gone id)) h in
    let n = not-true _ f.1 in
    let p = or_parts (has s.registered id || is_running s.running id || has s.ended id) (has s.gone id) n in
    let q = or_parts (has s.registered id || is_running s.running id) (has s.ended id) p.0 in
    let r = or_parts (has s.registered id) (is_running s.running id) q.0 in
    let a = times_none id s.registered r.0 in
    let b = none_running s.running id r.1 in
    let c = times_none id s.ended q.1 in
    let d = times_none id s.gone p.1 in
    omega (arith, a, b, c, d)

pub fresh_one : (k : ℕ) (s : Stop) (by id : ℕ) → IsOnceEach (members s) → is_fresh s by id ≡ true → all k s + bit (nat_eq id k) ≤ 1
fresh_one k s by id once h = by_cases (cases_Bool (nat_eq id k))
  where
    by_cases : (nat_eq id k ≡ true) ⊎ (nat_eq id k ≡ false) → all k s + bit (nat_eq id k) ≤ 1
    by_cases (inl e) =
        let same : id ≡ k = eqb-true id k e in
        let z : all k s ≡ 0 = subst (λ (x : ℕ). all x s ≡ 0) same (fresh_all s by id h) in
        rw e (omega (arith, z))
    by_cases (inr e) =
        let m = times_members k s in
        let o = once k in
        rw e (omega (arith, m, o))

pub fresh_below : (seats by id : ℕ) (b : Bool) → by < seats → ((id / 4096 == by) && b) ≡ true → id < seats * 4096
fresh_below seats by id b lt h =
    let e : id / 4096 ≡ by = eqb-true (id / 4096) by (and_parts (id / 4096 == by) b h).0 in
    omega (arith, e, lt)

-- what doesn't bring more of any ID keeps each once
pub kept_once : (s t : Stop) → IsOnceEach (members s) → ((k : ℕ) → all k t ≤ all k s) → IsOnceEach (members t)
kept_once s t once le k =
    let a = times_members k s in
    let b = times_members k t in
    let o = once k in
    let l = le k in
    omega (arith, a, b, o, l)

pub once_registered : (s : Stop) (by id : ℕ) → IsOnceEach (members s) → is_fresh s by id ≡ true → IsOnceEach (members (registered_too s id))
once_registered s by id once h k =
    let f = fresh_one k s by id once h in
    let m = times_members k (registered_too s id) in
    let p = times_push k s.registered id in
    omega (arith, f, m, p)

pub once_began_now : (s : Stop) (by id : ℕ) → IsOnceEach (members s) → is_fresh s by id ≡ true → IsOnceEach (members (began s by id))
once_began_now s by id once h k =
    let f = fresh_one k s by id once h in
    let m = times_members k (began s by id) in
    let w = times-without k id s.registered in
    let i : times k (ids (s.running ++ record { thread = by; id = id } ∷ [])) ≡ times k (ids s.running ++ id ∷ []) = ap (λ (ns : List ℕ). times k ns) (ids-push s.running (record { thread = by; id = id })) in
    let p = times_push k (ids s.running) id in
    omega (arith, f, m, w, i, p)

pub once_began : (s : Stop) (by id : ℕ) → IsOnceEach (members s) → has s.registered id ≡ true → IsOnceEach (members (began s by id))
once_began s by id once h = kept_once s (began s by id) once (λ k. le k)
  where
    le : (k : ℕ) → all k (began s by id) ≤ all k s
    le k =
        let w = left k s.registered id h in
        let i : times k (ids (s.running ++ record { thread = by; id = id } ∷ [])) ≡ times k (ids s.running ++ id ∷ []) = ap (λ (ns : List ℕ). times k ns) (ids-push s.running (record { thread = by; id = id })) in
        let p = times_push k (ids s.running) id in
        omega (arith, w, i, p)

pub once_finished : (s : Stop) (by id : ℕ) → IsOnceEach (members s) → runs s.running by id ≡ true → IsOnceEach (members (finished s by id))
once_finished s by id once h = kept_once s (finished s by id) once (λ k. let w = left_running k s.running by id h in let j = joined k s.ended id in omega (arith, w, j))

pub once_removed : (s : Stop) (id : ℕ) → IsOnceEach (members s) → has s.registered id ≡ true → IsOnceEach (members (removed s id))
once_removed s id once h = kept_once s (removed s id) once (λ k. let w = left k s.registered id h in let j = joined k s.gone id in omega (arith, w, j))

pub once_ran : (s : Stop) (id : ℕ) → IsOnceEach (members s) → has s.ended id ≡ true → IsOnceEach (members (ran s id))
once_ran s id once h = kept_once s (ran s id) once (λ k. let w = left k s.ended id h in let j = joined k s.gone id in omega (arith, w, j))

pub below_inserted : (top : ℕ) (ms : List ℕ) (n : ℕ) → Below top ms → n < top → Below top (inserted ms n)
below_inserted top [] n h lt = (lt, tt)
below_inserted top (m ∷ ms) n h lt =
    elim (nat_lt m n) as (λ b. Below top (cond b (m ∷ inserted ms n) (cond (m == n) (m ∷ ms) (n ∷ m ∷ ms)))) [
      | true ↦ (h.0, below_inserted top ms n h.1 lt)
      | false ↦ elim (m == n) as (λ b. Below top (cond b (m ∷ ms) (n ∷ m ∷ ms))) [ true ↦ h | false ↦ (lt, h) ]
    ]

pub below_ended : (top : ℕ) (rs : List Running) (by id : ℕ) → Below top (ids rs) → Below top (ids (ended_by rs by id))
below_ended top [] by id h = tt
below_ended top (r ∷ rs) by id h =
    elim (is_pair by id r) as (λ b. Below top (ids (cond (not b) (r ∷ ended_by rs by id) (ended_by rs by id)))) [ true ↦ below_ended top rs by id h.1 | false ↦ (h.0, below_ended top rs by id h.1) ]

pub below_running : (top : ℕ) (rs : List Running) (by id : ℕ) → Below top (ids rs) → runs rs by id ≡ true → id < top
below_running top [] by id g h = cc h
below_running top (r ∷ rs) by id g h = by_cases (cases_Bool (is_pair by id r)) (λ q. below_running top rs by id g.1 q)
  where
    by_cases : (is_pair by id r ≡ true) ⊎ (is_pair by id r ≡ false) → (runs rs by id ≡ true → id < top) → id < top
    by_cases (inl e) rest = let same : r.id ≡ id = eqb-true r.id id (and_parts (r.thread == by) (r.id == id) e).1 in subst (λ (x : ℕ). x < top) same g.0
    by_cases (inr e) rest = let h' : runs rs by id ≡ true = rw e at h in rest h'

pub below_began : (top : ℕ) (rs : List Running) (by id : ℕ) → Below top (ids rs) → id < top → Below top (ids (rs ++ record { thread = by; id = id } ∷ []))
below_began top rs by id h lt = rw (ids-push rs (record { thread = by; id = id })) (below_push top (ids rs) id h lt)

pub record Good (top : ℕ) (s : Stop) : Type 0 where
  pub once : IsOnceEach (members s)
  pub registered : Below top s.registered
  pub running : Below top (ids s.running)
  pub ended : Below top s.ended
  pub gone : Below top s.gone

pub stepped : (seats : ℕ) (s s' : Stop) (by : ℕ) (op : Op) (a : Option ℕ) (b : ℤ) (r : Reply) → Good (seats * 4096) s → by < seats → step s by op a b r ≡ Some s' → Good (seats * 4096) s'
stepped seats s s' by ops.Request (Some zero) (pos zero) replies.Ok g lt e = made (Good (seats * 4096)) (not (is_requested s)) (requested s by) s' (λ _. record { once = g.once; registered = g.registered; running = g.running; ended = g.ended; gone = g.gone }) e
stepped seats s s' by ops.Another (Some zero) (pos zero) replies.Ok g lt e = made (Good (seats * 4096)) (can_add s) (with_another s) s' (λ _. record { once = g.once; registered = g.registered; running = g.running; ended = g.ended; gone = g.gone }) e
stepped seats s s' by ops.Drop (Some zero) (pos zero) replies.Ok g lt e = made (Good (seats * 4096)) (nat_lt 0 s.sources) (without_one s) s' (λ _. record { once = g.once; registered = g.registered; running = g.running; ended = g.ended; gone = g.gone }) e
stepped seats s s' by ops.Register (Some id) (pos zero) replies.Ok g lt e = made (Good (seats * 4096)) (not (is_requested s) && nat_lt 0 s.sources && is_fresh s by id) (registered_too s id) s' (λ c. let f = (and_parts (not (is_requested s) && nat_lt 0 s.sources) (is_fresh s by id) c).1 in record { once = once_registered s by id g.once f; registered = below_push (seats * 4096) s.registered id g.registered (fresh_below seats by id _ lt f); running = g.running; ended = g.ended; gone = g.gone }) e
stepped seats s s' by ops.RegisterNow (Some id) (pos zero) replies.Ok g lt e = made (Good (seats * 4096)) (is_requested s && is_fresh s by id) (began s by id) s' (λ c. let f = (and_parts (is_requested s) (is_fresh s by id) c).1 in record { once = once_began_now s by id g.once f; registered = below_without (seats * 4096) s.registered id g.registered; running = below_began (seats * 4096) s.running by id g.running (fresh_below seats by id _ lt f); ended = g.ended; gone = g.gone }) e
stepped seats s s' by ops.Begin (Some id) (pos zero) replies.Ok g lt e = made (Good (seats * 4096)) (is_thread s.requester by && has s.registered id) (began s by id) s' (λ c. let h = (and_parts (is_thread s.requester by) (has s.registered id) c).1 in record { once = once_began s by id g.once h; registered = below_without (seats * 4096) s.registered id g.registered; running = below_began (seats * 4096) s.running by id g.running (below_one (seats * 4096) s.registered id g.registered h); ended = g.ended; gone = g.gone }) e
stepped seats s s' by ops.Finish (Some id) (pos zero) replies.Ok g lt e = made (Good (seats * 4096)) (runs s.running by id) (finished s by id) s' (λ h. record { once = once_finished s by id g.once h; registered = g.registered; running = below_ended (seats * 4096) s.running by id g.running; ended = below_inserted (seats * 4096) s.ended id g.ended (below_running (seats * 4096) s.running by id g.running h); gone = g.gone }) e
stepped seats s s' by ops.Deregister (Some id) (pos zero) replies.Removed g lt e = made (Good (seats * 4096)) (has s.registered id) (removed s id) s' (λ h. record { once = once_removed s id g.once h; registered = below_without (seats * 4096) s.registered id g.registered; running = g.running; ended = g.ended; gone = below_inserted (seats * 4096) s.gone id g.gone (below_one (seats * 4096) s.registered id g.registered h) }) e
stepped seats s s' by ops.Deregister (Some id) (pos zero) replies.Ran g lt e = made (Good (seats * 4096)) (has s.ended id) (ran s id) s' (λ h. record { once = once_ran s id g.once h; registered = g.registered; running = g.running; ended = below_without (seats * 4096) s.ended id g.ended; gone = below_inserted (seats * 4096) s.gone id g.gone (below_one (seats * 4096) s.ended id g.ended h) }) e
stepped seats s s' by ops.Deregister (Some id) (pos zero) replies.Inside g lt e = made (Good (seats * 4096)) (runs s.running by id) s s' (λ _. g) e
stepped seats s s' by _ _ _ _ g lt e = cc e

pub no_callbacks : (top : ℕ) (s : Stop) → members s ≡ [] → Good top s
no_callbacks top s none = by_lists s.registered s.running s.ended s.gone refl refl refl refl none
  where
    by_lists : (ms : List ℕ) (rs : List Running) (ns ls : List ℕ) → s.registered ≡ ms → s.running ≡ rs → s.ended ≡ ns → s.gone ≡ ls → ms ++ (ids rs ++ (ns ++ ls)) ≡ [] → Good top s
    by_lists [] [] [] [] a b c d e = record { once = rw (a, b, c, d) (λ k. omega arith); registered = rw a tt; running = rw b tt; ended = rw c tt; gone = rw d tt }
    by_lists (m ∷ ms) rs ns ls a b c d e = cc e
    by_lists [] (r ∷ rs) ns ls a b c d e = cc e
    by_lists [] [] (n ∷ ns) ls a b c d e = cc e
    by_lists [] [] [] (l ∷ ls) a b c d e = cc e

pub stop_most_holds : (s s' : Stop) (seats : ℕ) (es : List Entry) → members s ≡ [] → AreBelow seats es → run (at_entry step) (Some s) es ≡ Some s' → length (members s') ≤ seats * 4096
stop_most_holds s s' seats es none below e =
    let g = kept (at_entry step) (Good (seats * 4096)) seats (λ m m' x h lt is. stepped seats m m' x.by.0 x.op (small_of x.a) x.b x.reply h lt is) es s s' (no_callbacks (seats * 4096) s none) below e in
    few_below (seats * 4096) (members s') g.once (below_both (seats * 4096) s'.registered _ g.registered (below_both (seats * 4096) (ids s'.running) _ g.running (below_both (seats * 4096) s'.ended s'.gone g.ended g.gone)))

-- what stays in a set, and what is there at once
pub had : (ms : List ℕ) (n k : ℕ) → has ms k ≡ true → has (ms ++ n ∷ []) k ≡ true
had [] n k h = cc h
had (m ∷ ms) n k h = elim (m == k) as (λ b. (has ms k ≡ true → has (ms ++ n ∷ []) k ≡ true) → (b || has ms k) ≡ true → (b || has (ms ++ n ∷ []) k) ≡ true) [ true ↦ λ f e. refl | false ↦ λ f e. f e ] (λ q. had ms n k q) h

pub has_last : (ms : List ℕ) (n k : ℕ) → nat_eq n k ≡ true → has (ms ++ n ∷ []) k ≡ true
has_last [] n k e = rw e refl
has_last (m ∷ ms) n k e = let rest = has_last ms n k e in elim (m == k) as (λ b. (b || has (ms ++ n ∷ []) k) ≡ true) [ true ↦ refl | false ↦ rest ]

pub had_running : (rs : List Running) (r : Running) (k : ℕ) → is_running rs k ≡ true → is_running (rs ++ r ∷ []) k ≡ true
had_running [] r k h = cc h
had_running (x ∷ xs) r k h = elim (x.id == k) as (λ b. (is_running xs k ≡ true → is_running (xs ++ r ∷ []) k ≡ true) → (b || is_running xs k) ≡ true → (b || is_running (xs ++ r ∷ []) k) ≡ true) [ true ↦ λ f e. refl | false ↦ λ f e. f e ] (λ q. had_running xs r k q) h

pub runs_last : (rs : List Running) (r : Running) (k : ℕ) → nat_eq r.id k ≡ true → is_running (rs ++ r ∷ []) k ≡ true
runs_last [] r k e = rw e refl
runs_last (x ∷ xs) r k e = let rest = runs_last xs r k e in elim (x.id == k) as (λ b. (b || is_running (xs ++ r ∷ []) k) ≡ true) [ true ↦ refl | false ↦ rest ]

pub stays : (ms : List ℕ) (n k : ℕ) → nat_eq n k ≡ false → has ms k ≡ true → has (without ms n) k ≡ true
stays [] n k ne h = cc h
stays (m ∷ ms) n k ne h = by_cases (cases_Bool (m == n)) (cases_Bool (m == k)) (λ q. stays ms n k ne q)
  where
    by_cases : ((m == n) ≡ true) ⊎ ((m == n) ≡ false) → ((m == k) ≡ true) ⊎ ((m == k) ≡ false) → (has ms k ≡ true → has (without ms n) k ≡ true) → has (without (m ∷ ms) n) k ≡ true
    by_cases (inl e) (inl f) rest =
        let same : m ≡ n = eqb-true m n e in
        let ne' : nat_eq m k ≡ false = subst (λ (x : ℕ). nat_eq x k ≡ false) (sym same) ne in
        let no : true ≡ false = sym f ∙ ne' in
        cc no
    by_cases (inl e) (inr f) rest = let h' : has ms k ≡ true = rw f at h in let r = rest h' in rw e r
    by_cases (inr e) (inl f) rest = rw (e, f) refl
    by_cases (inr e) (inr f) rest = let h' : has ms k ≡ true = rw f at h in let r = rest h' in rw (e, f) r

pub stays_running : (rs : List Running) (by n k : ℕ) → nat_eq n k ≡ false → is_running rs k ≡ true → is_running (ended_by rs by n) k ≡ true
stays_running [] by n k ne h = cc h
stays_running (x ∷ xs) by n k ne h = by_cases (cases_Bool (is_pair by n x)) (cases_Bool (x.id == k)) (λ q. stays_running xs by n k ne q)
  where
    by_cases : (is_pair by n x ≡ true) ⊎ (is_pair by n x ≡ false) → ((x.id == k) ≡ true) ⊎ ((x.id == k) ≡ false) → (is_running xs k ≡ true → is_running (ended_by xs by n) k ≡ true) → is_running (ended_by (x ∷ xs) by n) k ≡ true
    by_cases (inl e) (inl f) rest =
        let same : x.id ≡ n = eqb-true x.id n (and_parts (x.thread == by) (x.id == n) e).1 in
        let ne' : nat_eq x.id k ≡ false = subst (λ (y : ℕ). nat_eq y k ≡ false) (sym same) ne in
        let no : true ≡ false = sym f ∙ ne' in
        cc no
    by_cases (inl e) (inr f) rest = let h' : is_running xs k ≡ true = rw f at h in let r = rest h' in rw e r
    by_cases (inr e) (inl f) rest = rw (e, f) refl
    by_cases (inr e) (inr f) rest = let h' : is_running xs k ≡ true = rw f at h in let r = rest h' in rw (e, f) r

pub had_inserted : (ms : List ℕ) (n k : ℕ) → has ms k ≡ true → has (inserted ms n) k ≡ true
had_inserted [] n k h = cc h
had_inserted (m ∷ ms) n k h = by_cases (cases_Bool (nat_lt m n)) (cases_Bool (m == n)) (cases_Bool (m == k)) (λ q. had_inserted ms n k q)
  where
    by_cases : (nat_lt m n ≡ true) ⊎ (nat_lt m n ≡ false) → ((m == n) ≡ true) ⊎ ((m == n) ≡ false) → ((m == k) ≡ true) ⊎ ((m == k) ≡ false) → (has ms k ≡ true → has (inserted ms n) k ≡ true) → has (inserted (m ∷ ms) n) k ≡ true
    by_cases (inl l) e (inl f) rest = rw (l, f) refl
    by_cases (inl l) e (inr f) rest = let h' : has ms k ≡ true = rw f at h in let r = rest h' in rw (l, f) r
    by_cases (inr l) (inl e) f rest = rw (l, e) h
    by_cases (inr l) (inr e) f rest = rw (l, e) (elim (n == k) as (λ b. (b || has (m ∷ ms) k) ≡ true) [ true ↦ refl | false ↦ h ])

pub has_inserted : (ms : List ℕ) (n k : ℕ) → nat_eq n k ≡ true → has (inserted ms n) k ≡ true
has_inserted [] n k e = rw e refl
has_inserted (m ∷ ms) n k q = by_cases (cases_Bool (nat_lt m n)) (cases_Bool (m == n)) (has_inserted ms n k q)
  where
    by_cases : (nat_lt m n ≡ true) ⊎ (nat_lt m n ≡ false) → ((m == n) ≡ true) ⊎ ((m == n) ≡ false) → has (inserted ms n) k ≡ true → has (inserted (m ∷ ms) n) k ≡ true
    by_cases (inl l) e rest = rw l (elim (m == k) as (λ b. (b || has (inserted ms n) k) ≡ true) [ true ↦ refl | false ↦ rest ])
    by_cases (inr l) (inl e) rest =
        let same : m ≡ n = eqb-true m n e in
        let q' : (m == k) ≡ true = subst (λ (x : ℕ). nat_eq x k ≡ true) (sym same) q in
        rw (l, e, q') refl
    by_cases (inr l) (inr e) rest = rw (l, e, q) refl

pub or3 : {X : Type 0} (a b c : Bool) → (a || b || c) ≡ true → (a ≡ true → X) → (b ≡ true → X) → (c ≡ true → X) → X
or3 true b c e f g h = f refl
or3 false true c e f g h = g refl
or3 false false true e f g h = h refl
or3 false false false e f g h = cc e

pub in1 : (a b c : Bool) → a ≡ true → (a || b || c) ≡ true
in1 a b c e = rw e refl

pub in2 : (a b c : Bool) → b ≡ true → (a || b || c) ≡ true
in2 true b c e = refl
in2 false b c e = rw e refl

pub in3 : (a b c : Bool) → c ≡ true → (a || b || c) ≡ true
in3 true b c e = refl
in3 false true c e = refl
in3 false false c e = e

pub bit_up : (b c : Bool) → (b ≡ true → c ≡ true) → bit b ≤ bit c
bit_up true c f = let e = f refl in rw e (omega arith)
bit_up false c f = omega arith

-- whatever lives in one lives in the other
pub lives_up : (s t : Stop) (k : ℕ) → (has s.registered k ≡ true → lives t k ≡ true) → (is_running s.running k ≡ true → lives t k ≡ true) → (has s.ended k ≡ true → lives t k ≡ true) → bit (lives s k) ≤ bit (lives t k)
lives_up s t k f g h = bit_up (lives s k) (lives t k) (λ e. or3 (has s.registered k) (is_running s.running k) (has s.ended k) e f g h)

pub registered_lives : (t : Stop) (k : ℕ) → has t.registered k ≡ true → lives t k ≡ true
registered_lives t k e = in1 (has t.registered k) (is_running t.running k) (has t.ended k) e

pub running_lives : (t : Stop) (k : ℕ) → is_running t.running k ≡ true → lives t k ≡ true
running_lives t k e = in2 (has t.registered k) (is_running t.running k) (has t.ended k) e

pub ended_lives : (t : Stop) (k : ℕ) → has t.ended k ≡ true → lives t k ≡ true
ended_lives t k e = in3 (has t.registered k) (is_running t.running k) (has t.ended k) e

pub fresh_dead : (s : Stop) (by id k : ℕ) → is_fresh s by id ≡ true → nat_eq id k ≡ true → lives s k ≡ false
fresh_dead s by id k h e =
    let f = and_parts (id / 4096 == by) (not (has s.registered id || is_running s.running id || has s.ended id || has s.gone id)) h in
    let n = not-true _ f.1 in
    let p = or_parts (has s.registered id || is_running s.running id || has s.ended id) (has s.gone id) n in
    subst (λ (x : ℕ). lives s x ≡ false) (eqb-true id k e) p.0

-- a new ID lives, and did not before
pub gives_one : (s t : Stop) (by id k : ℕ) → is_fresh s by id ≡ true → (nat_eq id k ≡ true → lives t k ≡ true) → (nat_eq id k ≡ false → bit (lives s k) ≤ bit (lives t k)) → bit (lives s k) + bit (nat_eq id k) ≤ bit (lives t k) + 0
gives_one s t by id k h new old = by_cases (cases_Bool (nat_eq id k))
  where
    by_cases : (nat_eq id k ≡ true) ⊎ (nat_eq id k ≡ false) → bit (lives s k) + bit (nat_eq id k) ≤ bit (lives t k) + 0
    by_cases (inl e) = let d = fresh_dead s by id k h e in let l = new e in rw (d, e, l) (omega arith)
    by_cases (inr e) = let l = old e in rw e (omega (arith, l))

-- an ID that is taken back may die, and no other
pub takes_one : (s t : Stop) (id k : ℕ) → (nat_eq id k ≡ false → bit (lives s k) ≤ bit (lives t k)) → bit (lives s k) + 0 ≤ bit (lives t k) + bit (nat_eq id k)
takes_one s t id k old = by_cases (cases_Bool (nat_eq id k))
  where
    by_cases : (nat_eq id k ≡ true) ⊎ (nat_eq id k ≡ false) → bit (lives s k) + 0 ≤ bit (lives t k) + bit (nat_eq id k)
    by_cases (inl e) = let b = bit_le (lives s k) in rw e (omega (arith, b))
    by_cases (inr e) = let l = old e in rw e (omega (arith, l))

pub registered_up : (s : Stop) (id k : ℕ) → bit (lives s k) ≤ bit (lives (registered_too s id) k)
registered_up s id k = lives_up s (registered_too s id) k (λ h. registered_lives (registered_too s id) k (had s.registered id k h)) (λ h. running_lives (registered_too s id) k h) (λ h. ended_lives (registered_too s id) k h)

pub began_new : (s : Stop) (by id k : ℕ) → nat_eq id k ≡ true → lives (began s by id) k ≡ true
began_new s by id k e = running_lives (began s by id) k (runs_last s.running (record { thread = by; id = id }) k e)

pub began_up : (s : Stop) (by id k : ℕ) → nat_eq id k ≡ false → bit (lives s k) ≤ bit (lives (began s by id) k)
began_up s by id k ne = lives_up s (began s by id) k (λ h. registered_lives (began s by id) k (stays s.registered id k ne h)) (λ h. running_lives (began s by id) k (had_running s.running (record { thread = by; id = id }) k h)) (λ h. ended_lives (began s by id) k h)

pub finished_up : (s : Stop) (by id k : ℕ) → nat_eq id k ≡ false → bit (lives s k) ≤ bit (lives (finished s by id) k)
finished_up s by id k ne = lives_up s (finished s by id) k (λ h. registered_lives (finished s by id) k h) (λ h. running_lives (finished s by id) k (stays_running s.running by id k ne h)) (λ h. ended_lives (finished s by id) k (had_inserted s.ended id k h))

-- a move between the sets keeps each that lives
pub moves_on : (s t : Stop) (id k : ℕ) → (nat_eq id k ≡ true → lives t k ≡ true) → (nat_eq id k ≡ false → bit (lives s k) ≤ bit (lives t k)) → bit (lives s k) + 0 ≤ bit (lives t k) + 0
moves_on s t id k new old = by_cases (cases_Bool (nat_eq id k))
  where
    by_cases : (nat_eq id k ≡ true) ⊎ (nat_eq id k ≡ false) → bit (lives s k) + 0 ≤ bit (lives t k) + 0
    by_cases (inl e) = let b = bit_le (lives s k) in let l = new e in rw l (omega (arith, b))
    by_cases (inr e) = let l = old e in omega (arith, l)

-- what one change does to an ID
abbrev pub LivesOn : Stop → Op → Option ℕ → ℕ → Stop → Type 0
LivesOn s op a k t = bit (lives s k) + names (given op a) k ≤ bit (lives t k) + names (taken_back op a) k

pub lives_after : (s s' : Stop) (by : ℕ) (op : Op) (a : Option ℕ) (b : ℤ) (r : Reply) (k : ℕ) → step s by op a b r ≡ Some s' → LivesOn s op a k s'
lives_after s s' by ops.Request (Some zero) (pos zero) replies.Ok k e = made (LivesOn s ops.Request (Some zero) k) (not (is_requested s)) (requested s by) s' (λ _. omega arith) e
lives_after s s' by ops.Another (Some zero) (pos zero) replies.Ok k e = made (LivesOn s ops.Another (Some zero) k) (can_add s) (with_another s) s' (λ _. omega arith) e
lives_after s s' by ops.Drop (Some zero) (pos zero) replies.Ok k e = made (LivesOn s ops.Drop (Some zero) k) (nat_lt 0 s.sources) (without_one s) s' (λ _. omega arith) e
lives_after s s' by ops.Register (Some id) (pos zero) replies.Ok k e = made (LivesOn s ops.Register (Some id) k) (not (is_requested s) && nat_lt 0 s.sources && is_fresh s by id) (registered_too s id) s' (λ c. gives_one s (registered_too s id) by id k (and_parts (not (is_requested s) && nat_lt 0 s.sources) (is_fresh s by id) c).1 (λ q. registered_lives (registered_too s id) k (has_last s.registered id k q)) (λ _. registered_up s id k)) e
lives_after s s' by ops.RegisterNow (Some id) (pos zero) replies.Ok k e = made (LivesOn s ops.RegisterNow (Some id) k) (is_requested s && is_fresh s by id) (began s by id) s' (λ _. moves_on s (began s by id) id k (λ q. began_new s by id k q) (λ q. began_up s by id k q)) e
lives_after s s' by ops.Begin (Some id) (pos zero) replies.Ok k e = made (LivesOn s ops.Begin (Some id) k) (is_thread s.requester by && has s.registered id) (began s by id) s' (λ _. moves_on s (began s by id) id k (λ q. began_new s by id k q) (λ q. began_up s by id k q)) e
lives_after s s' by ops.Finish (Some id) (pos zero) replies.Ok k e = made (LivesOn s ops.Finish (Some id) k) (runs s.running by id) (finished s by id) s' (λ _. moves_on s (finished s by id) id k (λ q. ended_lives (finished s by id) k (has_inserted s.ended id k q)) (λ q. finished_up s by id k q)) e
lives_after s s' by ops.Deregister (Some id) (pos zero) replies.Removed k e = made (LivesOn s ops.Deregister (Some id) k) (has s.registered id) (removed s id) s' (λ _. takes_one s (removed s id) id k (λ q. lives_up s (removed s id) k (λ h. registered_lives (removed s id) k (stays s.registered id k q h)) (λ h. running_lives (removed s id) k h) (λ h. ended_lives (removed s id) k h))) e
lives_after s s' by ops.Deregister (Some id) (pos zero) replies.Ran k e = made (LivesOn s ops.Deregister (Some id) k) (has s.ended id) (ran s id) s' (λ _. takes_one s (ran s id) id k (λ q. lives_up s (ran s id) k (λ h. registered_lives (ran s id) k h) (λ h. running_lives (ran s id) k h) (λ h. ended_lives (ran s id) k (stays s.ended id k q h)))) e
lives_after s s' by ops.Deregister (Some id) (pos zero) replies.Inside k e = made (LivesOn s ops.Deregister (Some id) k) (runs s.running by id) s s' (λ _. omega arith) e
lives_after s s' by _ _ _ _ k e = cc e

pub stop_lives_on : (s s' : Stop) (e : Entry) (id : ℕ) → at_entry step s e ≡ Some s' → bit (lives s id) + names (given e.op (small_of e.a)) id ≤ bit (lives s' id) + names (taken_back e.op (small_of e.a)) id
stop_lives_on s s' e id is = lives_after s s' e.by.0 e.op (small_of e.a) e.b e.reply id is
