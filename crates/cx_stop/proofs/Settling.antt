-- A callback that was started or deregistered isn't started again.
use Rattle.std.proofs.Common.{◌≡◌, ◌∙◌, ℕ, zero, ◌+◌, ◌/◌, ◌≤◌, ◌==◌, nat_eq, nat_lt, ℤ, pos, Bool, true, false, not, ◌||◌, ◌&&◌, cond, List, [], ◌∷◌, ◌++◌, Option, Some, None, refl, ap, sym, subst, arith, ◌⊎◌, inl, inr, eq-eqb}
use Rattle.std.proofs.lemmas.Bool.{cases_Bool, eqb-true, or_parts, and_parts}
use Rattle.cx_names.specs.declared.Reply.{Reply}
use Rattle.cx_names.specs.declared.Reply.TheVariants as replies
use Rattle.cx_machine.specs.declared.kind.Op.{Op}
use Rattle.cx_machine.specs.declared.kind.Op.TheVariants as ops
use Rattle.cx_machine.specs.declared.kind.Entry.{Entry}
use Rattle.cx_machine.specs.declared.stop.Running.{Running}
use Rattle.cx_machine.specs.Acts.{at_entry}
use Rattle.cx_machine.specs.Words.{is_thread, has, without, inserted, small_of}
use Rattle.cx_machine.specs.Meaning.{run, IsOnceEach, times}
use Rattle.cx_machine.specs.Stop.{Stop, step, is_requested, can_add, is_pair, runs, is_running, ended_by, is_fresh, requested, with_another, without_one, registered_too, began, finished, removed, ran}
use Rattle.cx_machine.specs.Kept.{made, none_after}
use Rattle.cx_machine.specs.Waiters.{times_some}
use Rattle.cx_machine.specs.Callbacks.{ids, members, times_members, had_inserted, has_inserted, stays, had_running, runs_last, stays_running, once_registered, once_began_now, once_began, once_finished, once_removed, once_ran}
use Rattle.cx_machine.proofs.Counts.{lacks}
use Rattle.cx_turn.proofs.Ids.{times_gone}
use Rattle.cx_turn.specs.Views.{Each}
use Rattle.cx_stop.specs.Deregistered.{Deregistered, Starts, StartsOnce, CallbacksSettle}
use Rattle.cx_stop.proofs.Members.{runs_times}
use Rattle.cx_stop.proofs.Others.{keeps}

-- the callback is past its registration
pub record IsPast (id : ℕ) (m : Stop) : Type 0 where
  pub out : has m.registered id ≡ false
  pub known : (is_running m.running id || has m.ended id || has m.gone id) ≡ true

-- ---- lists

has_push : (ms : List ℕ) (n k : ℕ) → has ms k ≡ false → nat_eq n k ≡ false → has (ms ++ n ∷ []) k ≡ false
has_push [] n k h e = rw e refl
has_push (m ∷ ms) n k h e = let p = or_parts (m == k) (has ms k) h in let q = has_push ms n k p.1 e in rw (p.0, q) refl

has_less : (ms : List ℕ) (n k : ℕ) → has ms k ≡ false → has (without ms n) k ≡ false
has_less [] n k h = refl
has_less (m ∷ ms) n k h =
    let p = or_parts (m == k) (has ms k) h in let q = has_less ms n k p.1 in
    elim (m == n) as (λ b. has (cond (not b) (m ∷ without ms n) (without ms n)) k ≡ false) [ true ↦ q | false ↦ rw (p.0, q) refl ]

-- ---- what is past stays so

-- one of the three places
known_by : (a b c a' b' c' : Bool) → (a || b || c) ≡ true → (a ≡ true → (a' || b' || c') ≡ true) → (b ≡ true → (a' || b' || c') ≡ true) → (c ≡ true → (a' || b' || c') ≡ true) → (a' || b' || c') ≡ true
known_by true b c a' b' c' h f g k = f refl
known_by false true c a' b' c' h f g k = g refl
known_by false false true a' b' c' h f g k = k refl
known_by false false false a' b' c' h f g k = cc h

in1 : (a b c : Bool) → a ≡ true → (a || b || c) ≡ true
in1 a b c e = rw e refl

in2 : (a b c : Bool) → b ≡ true → (a || b || c) ≡ true
in2 true b c e = refl
in2 false b c e = rw e refl

in3 : (a b c : Bool) → c ≡ true → (a || b || c) ≡ true
in3 true b c e = refl
in3 false true c e = refl
in3 false false c e = e

-- what is past isn't fresh
not_fresh : (s : Stop) (by id k : ℕ) → IsPast id s → is_fresh s by k ≡ true → nat_eq k id ≡ false
not_fresh s by id k p f = by_cases (cases_Bool (nat_eq k id))
  where
    clash : (a b c d : Bool) → (b || c || d) ≡ true → not (a || b || c || d) ≡ true → ⊥
    clash true b c d h e = cc e
    clash false b c d h e = let no : not true ≡ true = subst (λ (x : Bool). not x ≡ true) h e in cc no

    by_cases : (nat_eq k id ≡ true) ⊎ (nat_eq k id ≡ false) → nat_eq k id ≡ false
    by_cases (inl e) =
        let same : k ≡ id = eqb-true k id e in
        let n = (and_parts (k / 4096 == by) (not (has s.registered k || is_running s.running k || has s.ended k || has s.gone k)) f).1 in
        let n' : not (has s.registered id || is_running s.running id || has s.ended id || has s.gone id) ≡ true = subst (λ (x : ℕ). not (has s.registered x || is_running s.running x || has s.ended x || has s.gone x) ≡ true) same n in
        absurd (clash (has s.registered id) (is_running s.running id) (has s.ended id) (has s.gone id) p.known n')
    by_cases (inr e) = e

-- nor registered
not_registered : (s : Stop) (id k : ℕ) → IsPast id s → has s.registered k ≡ true → nat_eq k id ≡ false
not_registered s id k p h = by_cases (cases_Bool (nat_eq k id))
  where
    by_cases : (nat_eq k id ≡ true) ⊎ (nat_eq k id ≡ false) → nat_eq k id ≡ false
    by_cases (inl e) = let same : k ≡ id = eqb-true k id e in let no : true ≡ false = sym (subst (λ (x : ℕ). has s.registered x ≡ true) same h) ∙ p.out in cc no
    by_cases (inr e) = e

began_past : (s : Stop) (by id k : ℕ) → IsPast id s → IsPast id (began s by k)
began_past s by id k p = record {
  out = has_less s.registered k id p.out;
  known = known_by (is_running s.running id) (has s.ended id) (has s.gone id) (is_running (s.running ++ record { thread = by; id = k } ∷ []) id) (has s.ended id) (has s.gone id) p.known
      (λ a. in1 _ (has s.ended id) (has s.gone id) (had_running s.running (record { thread = by; id = k }) id a)) (λ b. in2 (is_running (s.running ++ record { thread = by; id = k } ∷ []) id) (has s.ended id) (has s.gone id) b) (λ c. in3 (is_running (s.running ++ record { thread = by; id = k } ∷ []) id) (has s.ended id) (has s.gone id) c);
}

finished_past : (s : Stop) (by id k : ℕ) → IsPast id s → IsPast id (finished s by k)
finished_past s by id k p = record { out = p.out; known = by_cases (cases_Bool (nat_eq k id)) }
  where
    by_cases : (nat_eq k id ≡ true) ⊎ (nat_eq k id ≡ false) → (is_running (ended_by s.running by k) id || has (inserted s.ended k) id || has s.gone id) ≡ true
    by_cases (inl e) = in2 (is_running (ended_by s.running by k) id) (has (inserted s.ended k) id) (has s.gone id) (has_inserted s.ended k id e)
    by_cases (inr e) = known_by (is_running s.running id) (has s.ended id) (has s.gone id) (is_running (ended_by s.running by k) id) (has (inserted s.ended k) id) (has s.gone id) p.known
        (λ a. in1 (is_running (ended_by s.running by k) id) (has (inserted s.ended k) id) (has s.gone id) (stays_running s.running by k id e a)) (λ b. in2 (is_running (ended_by s.running by k) id) (has (inserted s.ended k) id) (has s.gone id) (had_inserted s.ended k id b)) (λ c. in3 (is_running (ended_by s.running by k) id) (has (inserted s.ended k) id) (has s.gone id) c)

removed_past : (s : Stop) (id k : ℕ) → IsPast id s → IsPast id (removed s k)
removed_past s id k p = record {
  out = has_less s.registered k id p.out;
  known = known_by (is_running s.running id) (has s.ended id) (has s.gone id) (is_running s.running id) (has s.ended id) (has (inserted s.gone k) id) p.known
      (λ a. in1 (is_running s.running id) (has s.ended id) (has (inserted s.gone k) id) a) (λ b. in2 (is_running s.running id) (has s.ended id) (has (inserted s.gone k) id) b) (λ c. in3 (is_running s.running id) (has s.ended id) (has (inserted s.gone k) id) (had_inserted s.gone k id c));
}

ran_past : (s : Stop) (id k : ℕ) → IsPast id s → IsPast id (ran s k)
ran_past s id k p = record { out = p.out; known = by_cases (cases_Bool (nat_eq k id)) }
  where
    by_cases : (nat_eq k id ≡ true) ⊎ (nat_eq k id ≡ false) → (is_running s.running id || has (without s.ended k) id || has (inserted s.gone k) id) ≡ true
    by_cases (inl e) = in3 (is_running s.running id) (has (without s.ended k) id) (has (inserted s.gone k) id) (has_inserted s.gone k id e)
    by_cases (inr e) = known_by (is_running s.running id) (has s.ended id) (has s.gone id) (is_running s.running id) (has (without s.ended k) id) (has (inserted s.gone k) id) p.known
        (λ a. in1 (is_running s.running id) (has (without s.ended k) id) (has (inserted s.gone k) id) a) (λ b. in2 (is_running s.running id) (has (without s.ended k) id) (has (inserted s.gone k) id) (stays s.ended k id e b)) (λ c. in3 (is_running s.running id) (has (without s.ended k) id) (has (inserted s.gone k) id) (had_inserted s.gone k id c))

pub past_step : (s t : Stop) (by id : ℕ) (op : Op) (a : Option ℕ) (b : ℤ) (r : Reply) → IsPast id s → step s by op a b r ≡ Some t → IsPast id t
past_step s t by id ops.Request (Some zero) (pos zero) replies.Ok p e = made (IsPast id) (not (is_requested s)) (requested s by) t (λ _. record { out = p.out; known = p.known }) e
past_step s t by id ops.Another (Some zero) (pos zero) replies.Ok p e = made (IsPast id) (can_add s) (with_another s) t (λ _. record { out = p.out; known = p.known }) e
past_step s t by id ops.Drop (Some zero) (pos zero) replies.Ok p e = made (IsPast id) (nat_lt 0 s.sources) (without_one s) t (λ _. record { out = p.out; known = p.known }) e
past_step s t by id ops.Register (Some k) (pos zero) replies.Ok p e = made (IsPast id) (not (is_requested s) && nat_lt 0 s.sources && is_fresh s by k) (registered_too s k) t (λ c. record { out = has_push s.registered k id p.out (not_fresh s by id k p (and_parts (not (is_requested s) && nat_lt 0 s.sources) (is_fresh s by k) c).1); known = p.known }) e
past_step s t by id ops.RegisterNow (Some k) (pos zero) replies.Ok p e = made (IsPast id) _ (began s by k) t (λ _. began_past s by id k p) e
past_step s t by id ops.Begin (Some k) (pos zero) replies.Ok p e = made (IsPast id) _ (began s by k) t (λ _. began_past s by id k p) e
past_step s t by id ops.Finish (Some k) (pos zero) replies.Ok p e = made (IsPast id) (runs s.running by k) (finished s by k) t (λ _. finished_past s by id k p) e
past_step s t by id ops.Deregister (Some k) (pos zero) replies.Removed p e = made (IsPast id) (has s.registered k) (removed s k) t (λ _. removed_past s id k p) e
past_step s t by id ops.Deregister (Some k) (pos zero) replies.Ran p e = made (IsPast id) (has s.ended k) (ran s k) t (λ _. ran_past s id k p) e
past_step s t by id ops.Deregister (Some k) (pos zero) replies.Inside p e = made (IsPast id) (runs s.running by k) s t (λ _. p) e
past_step s t by id _ _ _ _ p e = cc e

-- ---- no ID stands twice

once_step : (s t : Stop) (by : ℕ) (op : Op) (a : Option ℕ) (b : ℤ) (r : Reply) → IsOnceEach (members s) → step s by op a b r ≡ Some t → IsOnceEach (members t)
once_step s t by ops.Request (Some zero) (pos zero) replies.Ok o e = made (λ x. IsOnceEach (members x)) (not (is_requested s)) (requested s by) t (λ _. o) e
once_step s t by ops.Another (Some zero) (pos zero) replies.Ok o e = made (λ x. IsOnceEach (members x)) (can_add s) (with_another s) t (λ _. o) e
once_step s t by ops.Drop (Some zero) (pos zero) replies.Ok o e = made (λ x. IsOnceEach (members x)) (nat_lt 0 s.sources) (without_one s) t (λ _. o) e
once_step s t by ops.Register (Some k) (pos zero) replies.Ok o e = made (λ x. IsOnceEach (members x)) (not (is_requested s) && nat_lt 0 s.sources && is_fresh s by k) (registered_too s k) t (λ c. once_registered s by k o (and_parts (not (is_requested s) && nat_lt 0 s.sources) (is_fresh s by k) c).1) e
once_step s t by ops.RegisterNow (Some k) (pos zero) replies.Ok o e = made (λ x. IsOnceEach (members x)) (is_requested s && is_fresh s by k) (began s by k) t (λ c. once_began_now s by k o (and_parts (is_requested s) (is_fresh s by k) c).1) e
once_step s t by ops.Begin (Some k) (pos zero) replies.Ok o e = made (λ x. IsOnceEach (members x)) (is_thread s.requester by && has s.registered k) (began s by k) t (λ c. once_began s by k o (and_parts (is_thread s.requester by) (has s.registered k) c).1) e
once_step s t by ops.Finish (Some k) (pos zero) replies.Ok o e = made (λ x. IsOnceEach (members x)) (runs s.running by k) (finished s by k) t (λ h. once_finished s by k o h) e
once_step s t by ops.Deregister (Some k) (pos zero) replies.Removed o e = made (λ x. IsOnceEach (members x)) (has s.registered k) (removed s k) t (λ h. once_removed s k o h) e
once_step s t by ops.Deregister (Some k) (pos zero) replies.Ran o e = made (λ x. IsOnceEach (members x)) (has s.ended k) (ran s k) t (λ h. once_ran s k o h) e
once_step s t by ops.Deregister (Some k) (pos zero) replies.Inside o e = made (λ x. IsOnceEach (members x)) (runs s.running by k) s t (λ _. o) e
once_step s t by _ _ _ _ o e = cc e

every : {A : Type 0} (xs : List A) → Each (λ x. Unit {0}) xs
every [] = tt
every (x ∷ xs) = (tt, every xs)

once_run : (start m : Stop) (es : List Entry) → members start ≡ [] → run (at_entry step) (Some start) es ≡ Some m → IsOnceEach (members m)
once_run start m es bare leads = keeps (λ x. IsOnceEach (members x)) (λ e. Unit {0}) (λ s t e q o is. once_step s t e.by.0 e.op (small_of e.a) e.b e.reply o is) es start m (every es) (λ k. subst (λ (l : List ℕ). times k l ≤ 1) (sym bare) (omega arith)) leads

past_run : (id : ℕ) (es : List Entry) (s m : Stop) → IsPast id s → run (at_entry step) (Some s) es ≡ Some m → IsPast id m
past_run id es s m p leads = keeps (IsPast id) (λ e. Unit {0}) (λ a b e q o is. past_step a b e.by.0 id e.op (small_of e.a) e.b e.reply o is) es s m (every es) p leads

-- ---- where it becomes past

left_out : (s : Stop) (id : ℕ) → has (without s.registered id) id ≡ false
left_out s id = lacks (without s.registered id) id (times_gone s.registered id)

new_past : (s : Stop) (by id : ℕ) → IsPast id (began s by id)
new_past s by id = record { out = left_out s id; known = in1 (is_running (s.running ++ record { thread = by; id = id } ∷ []) id) (has s.ended id) (has s.gone id) (runs_last s.running (record { thread = by; id = id }) id (eq-eqb id id refl)) }

started_past : (s t : Stop) (e : Entry) (id : ℕ) → Starts id e → at_entry step s e ≡ Some t → IsPast id t
started_past s t e id (a, o) is = at o
  where
    begin_past : (b : ℤ) (r : Reply) → step s e.by.0 ops.Begin (Some id) b r ≡ Some t → IsPast id t
    begin_past (pos zero) replies.Ok f = made (IsPast id) _ (began s e.by.0 id) t (λ _. new_past s e.by.0 id) f
    begin_past _ _ f = cc f

    now_past : (b : ℤ) (r : Reply) → step s e.by.0 ops.RegisterNow (Some id) b r ≡ Some t → IsPast id t
    now_past (pos zero) replies.Ok f = made (IsPast id) _ (began s e.by.0 id) t (λ _. new_past s e.by.0 id) f
    now_past _ _ f = cc f

    at : (e.op ≡ ops.Begin) ⊎ (e.op ≡ ops.RegisterNow) → IsPast id t
    at (inl q) = begin_past e.b e.reply ((λ i. step s e.by.0 (sym q i) (sym a i) e.b e.reply) ∙ is)
    at (inr q) = now_past e.b e.reply ((λ i. step s e.by.0 (sym q i) (sym a i) e.b e.reply) ∙ is)

no_start : (s t : Stop) (e : Entry) (id : ℕ) → IsPast id s → Starts id e → at_entry step s e ≡ Some t → ⊥
no_start s t e id p (a, o) is = at o
  where
    same : nat_eq id id ≡ true
    same = eq-eqb id id refl

    begins : (b : ℤ) (r : Reply) → step s e.by.0 ops.Begin (Some id) b r ≡ Some t → ⊥
    begins (pos zero) replies.Ok f = made (λ x. ⊥) (is_thread s.requester e.by.0 && has s.registered id) (began s e.by.0 id) t (λ c. let h = (and_parts (is_thread s.requester e.by.0) (has s.registered id) c).1 in let no : true ≡ false = sym h ∙ p.out in cc no) f
    begins _ _ f = cc f

    nows : (b : ℤ) (r : Reply) → step s e.by.0 ops.RegisterNow (Some id) b r ≡ Some t → ⊥
    nows (pos zero) replies.Ok f = made (λ x. ⊥) (is_requested s && is_fresh s e.by.0 id) (began s e.by.0 id) t (λ c. let no : true ≡ false = sym same ∙ not_fresh s e.by.0 id id p (and_parts (is_requested s) (is_fresh s e.by.0 id) c).1 in cc no) f
    nows _ _ f = cc f

    at : (e.op ≡ ops.Begin) ⊎ (e.op ≡ ops.RegisterNow) → ⊥
    at (inl q) = begins e.b e.reply ((λ i. step s e.by.0 (sym q i) (sym a i) e.b e.reply) ∙ is)
    at (inr q) = nows e.b e.reply ((λ i. step s e.by.0 (sym q i) (sym a i) e.b e.reply) ∙ is)

-- ---- who runs it

runs_some : (rs : List Running) (by id : ℕ) → runs rs by id ≡ true → is_running rs id ≡ true
runs_some [] by id h = cc h
runs_some (r ∷ rs) by id h = by_cases (cases_Bool (is_pair by id r)) (λ q. runs_some rs by id q)
  where
    by_cases : (is_pair by id r ≡ true) ⊎ (is_pair by id r ≡ false) → (runs rs by id ≡ true → is_running rs id ≡ true) → is_running (r ∷ rs) id ≡ true
    by_cases (inl e) f = let s : (r.id == id) ≡ true = (and_parts (r.thread == by) (r.id == id) e).1 in rw s refl
    by_cases (inr e) f = let h' : runs rs by id ≡ true = rw e at h in let q = f h' in elim (r.id == id) as (λ b. (b || is_running rs id) ≡ true) [ true ↦ refl | false ↦ q ]

runs_one : (rs : List Running) (t u id : ℕ) → times id (ids rs) ≤ 1 → runs rs t id ≡ true → runs rs u id ≡ true → u ≡ t
runs_one [] t u id once h g = cc h
runs_one (r ∷ rs) t u id once h g = by_cases (cases_Bool (is_pair t id r)) (cases_Bool (is_pair u id r)) (λ o a b. runs_one rs t u id o a b)
  where
    by_cases : (is_pair t id r ≡ true) ⊎ (is_pair t id r ≡ false) → (is_pair u id r ≡ true) ⊎ (is_pair u id r ≡ false) → (times id (ids rs) ≤ 1 → runs rs t id ≡ true → runs rs u id ≡ true → u ≡ t) → u ≡ t
    by_cases (inl e) (inl f) rest = sym (eqb-true r.thread u (and_parts (r.thread == u) (r.id == id) f).0) ∙ eqb-true r.thread t (and_parts (r.thread == t) (r.id == id) e).0
    by_cases (inl e) (inr f) rest =
        let g' : runs rs u id ≡ true = rw f at g in
        let a = runs_times rs u id g' in
        let s : (r.id == id) ≡ true = (and_parts (r.thread == t) (r.id == id) e).1 in
        let o : 1 + times id (ids rs) ≤ 1 = rw s at once in
        absurd (omega (arith, a, o))
    by_cases (inr e) (inl f) rest =
        let h' : runs rs t id ≡ true = rw e at h in
        let a = runs_times rs t id h' in
        let s : (r.id == id) ≡ true = (and_parts (r.thread == u) (r.id == id) f).1 in
        let o : 1 + times id (ids rs) ≤ 1 = rw s at once in
        absurd (omega (arith, a, o))
    by_cases (inr e) (inr f) rest =
        let h' : runs rs t id ≡ true = rw e at h in
        let g' : runs rs u id ≡ true = rw f at g in
        rest (omega (arith, once)) h' g'

runs_back : (rs : List Running) (by k u id : ℕ) → nat_eq k id ≡ false → runs (rs ++ record { thread = by; id = k } ∷ []) u id ≡ true → runs rs u id ≡ true
runs_back [] by k u id ne h = last h
  where
    last : ((((by == u) && (k == id)) || false) ≡ true) → false ≡ true
    last = subst (λ (b : Bool). ((((by == u) && b) || false) ≡ true) → false ≡ true) (sym ne) (elim (by == u) as (λ c. ((c && false) || false) ≡ true → false ≡ true) [ true ↦ λ z. z | false ↦ λ z. z ])
runs_back (x ∷ xs) by k u id ne h = elim (is_pair u id x) as (λ b. (runs (xs ++ record { thread = by; id = k } ∷ []) u id ≡ true → runs xs u id ≡ true) → (b || runs (xs ++ record { thread = by; id = k } ∷ []) u id) ≡ true → (b || runs xs u id) ≡ true) [ true ↦ λ f e. refl | false ↦ λ f e. f e ] (λ q. runs_back xs by k u id ne q) h

runs_from : (rs : List Running) (by k u id : ℕ) → runs (ended_by rs by k) u id ≡ true → runs rs u id ≡ true
runs_from [] by k u id h = cc h
runs_from (x ∷ xs) by k u id h = by_cases (cases_Bool (is_pair by k x)) (λ q. runs_from xs by k u id q)
  where
    by_cases : (is_pair by k x ≡ true) ⊎ (is_pair by k x ≡ false) → (runs (ended_by xs by k) u id ≡ true → runs xs u id ≡ true) → (is_pair u id x || runs xs u id) ≡ true
    by_cases (inl e) f = let h' : runs (ended_by xs by k) u id ≡ true = rw e at h in let q = f h' in elim (is_pair u id x) as (λ b. (b || runs xs u id) ≡ true) [ true ↦ refl | false ↦ q ]
    by_cases (inr e) f = let h' : (is_pair u id x || runs (ended_by xs by k) u id) ≡ true = rw e at h in elim (is_pair u id x) as (λ b. (b || runs (ended_by xs by k) u id) ≡ true → (b || runs xs u id) ≡ true) [ true ↦ λ z. refl | false ↦ λ z. f z ] h'

abbrev Own : ℕ → ℕ → Reply → Stop → Type 0
Own t id r m = (u : ℕ) → runs m.running u id ≡ true → (u ≡ t) × (r ≡ replies.Inside)

pub record IsOwn (t id : ℕ) (r : Reply) (m : Stop) : Type 0 where
  pub past : IsPast id m
  pub own : Own t id r m

own_step : (n id : ℕ) (q : Reply) (s t : Stop) (by : ℕ) (op : Op) (a : Option ℕ) (b : ℤ) (r : Reply) → IsPast id s → Own n id q s → step s by op a b r ≡ Some t → Own n id q t
own_step n id q s t by ops.Request (Some zero) (pos zero) replies.Ok p o e = made (Own n id q) (not (is_requested s)) (requested s by) t (λ _. o) e
own_step n id q s t by ops.Another (Some zero) (pos zero) replies.Ok p o e = made (Own n id q) (can_add s) (with_another s) t (λ _. o) e
own_step n id q s t by ops.Drop (Some zero) (pos zero) replies.Ok p o e = made (Own n id q) (nat_lt 0 s.sources) (without_one s) t (λ _. o) e
own_step n id q s t by ops.Register (Some k) (pos zero) replies.Ok p o e = made (Own n id q) _ (registered_too s k) t (λ _. o) e
own_step n id q s t by ops.RegisterNow (Some k) (pos zero) replies.Ok p o e = made (Own n id q) (is_requested s && is_fresh s by k) (began s by k) t (λ c u h. o u (runs_back s.running by k u id (not_fresh s by id k p (and_parts (is_requested s) (is_fresh s by k) c).1) h)) e
own_step n id q s t by ops.Begin (Some k) (pos zero) replies.Ok p o e = made (Own n id q) (is_thread s.requester by && has s.registered k) (began s by k) t (λ c u h. o u (runs_back s.running by k u id (not_registered s id k p (and_parts (is_thread s.requester by) (has s.registered k) c).1) h)) e
own_step n id q s t by ops.Finish (Some k) (pos zero) replies.Ok p o e = made (Own n id q) (runs s.running by k) (finished s by k) t (λ _ u h. o u (runs_from s.running by k u id h)) e
own_step n id q s t by ops.Deregister (Some k) (pos zero) replies.Removed p o e = made (Own n id q) (has s.registered k) (removed s k) t (λ _. o) e
own_step n id q s t by ops.Deregister (Some k) (pos zero) replies.Ran p o e = made (Own n id q) (has s.ended k) (ran s k) t (λ _. o) e
own_step n id q s t by ops.Deregister (Some k) (pos zero) replies.Inside p o e = made (Own n id q) (runs s.running by k) s t (λ _. o) e
own_step n id q s t by _ _ _ _ p o e = cc e

nobody : (s : Stop) (id n : ℕ) (r : Reply) → times id (ids s.running) ≡ 0 → Own n id r s
nobody s id n r z u h = let a = runs_times s.running u id h in absurd (omega (arith, a, z))

-- who was deregistered is past, and runs nowhere but where it deregistered from inside
gone_own : (s t : Stop) (by id : ℕ) (b : ℤ) (r : Reply) → IsOnceEach (members s) → step s by ops.Deregister (Some id) b r ≡ Some t → IsOwn by id r t
gone_own s t by id (pos zero) replies.Removed once e = made (IsOwn by id replies.Removed) (has s.registered id) (removed s id) t (λ h. let a = times_members id s in let o = once id in let x = times_some id s.registered h in record {
  past = record { out = left_out s id; known = in3 (is_running s.running id) (has s.ended id) (has (inserted s.gone id) id) (has_inserted s.gone id id (eq-eqb id id refl)) };
  own = nobody (removed s id) id by replies.Removed (omega (arith, a, o, x));
}) e
gone_own s t by id (pos zero) replies.Ran once e = made (IsOwn by id replies.Ran) (has s.ended id) (ran s id) t (λ h. let a = times_members id s in let o = once id in let x = times_some id s.ended h in record {
  past = record { out = lacks s.registered id (omega (arith, a, o, x)); known = in3 (is_running s.running id) (has (without s.ended id) id) (has (inserted s.gone id) id) (has_inserted s.gone id id (eq-eqb id id refl)) };
  own = nobody (ran s id) id by replies.Ran (omega (arith, a, o, x));
}) e
gone_own s t by id (pos zero) replies.Inside once e = made (IsOwn by id replies.Inside) (runs s.running by id) s t (λ h. let a = times_members id s in let o = once id in let x = runs_times s.running by id h in record {
  past = record { out = lacks s.registered id (omega (arith, a, o, x)); known = in1 (is_running s.running id) (has s.ended id) (has s.gone id) (runs_some s.running by id h) };
  own = λ u g. (runs_one s.running by u id (omega (arith, a, o)) h g, refl);
}) e
gone_own s t by id _ _ once e = cc e

-- ---- histories

-- a change in the middle of a legal history, with the states before and after it
pub record Cut (a now : Stop) (xs : List Entry) (e : Entry) (ys : List Entry) : Type 0 where
  pub before : Stop
  pub after : Stop
  pub leads : run (at_entry step) (Some a) xs ≡ Some before
  pub enabled : at_entry step before e ≡ Some after
  pub goes : run (at_entry step) (Some after) ys ≡ Some now

cut : (a now : Stop) (xs : List Entry) (e : Entry) (ys : List Entry) → run (at_entry step) (Some a) (xs ++ e ∷ ys) ≡ Some now → Cut a now xs e ys
cut a now [] e ys h = at (at_entry step a e) refl h
  where
    at : (o : Option Stop) → at_entry step a e ≡ o → run (at_entry step) o ys ≡ Some now → Cut a now [] e ys
    at None was f = absurd (none_after (at_entry step) ys now f)
    at (Some t) was f = record { before = a; after = t; leads = refl; enabled = was; goes = f }
cut a now (x ∷ xs) e ys h = at (at_entry step a x) refl h (λ t f. cut t now xs e ys f)
  where
    at : (o : Option Stop) → at_entry step a x ≡ o → run (at_entry step) o (xs ++ e ∷ ys) ≡ Some now → ((t : Stop) → run (at_entry step) (Some t) (xs ++ e ∷ ys) ≡ Some now → Cut t now xs e ys) → Cut a now (x ∷ xs) e ys
    at None was f more = absurd (none_after (at_entry step) (xs ++ e ∷ ys) now f)
    at (Some t) was f more = let c = more t f in record { before = c.before; after = c.after; leads = ap (λ (o : Option Stop). run (at_entry step) o xs) was ∙ c.leads; enabled = c.enabled; goes = c.goes }

pub settles : CallbacksSettle
settles start now h bare legal = (settled, starts_once)
  where
    settled : Deregistered start h
    settled xs zs ys e id m same op a leads =
        let c = cut start m xs e zs leads in
        let once = once_run start c.before xs bare c.leads in
        let first : IsOwn e.by.0 id e.reply c.after = gone_own c.before c.after e.by.0 id e.b e.reply once ((λ i. step c.before e.by.0 (sym op i) (sym a i) e.b e.reply) ∙ c.enabled) in
        let last : IsOwn e.by.0 id e.reply m = keeps (IsOwn e.by.0 id e.reply) (λ f. Unit {0}) (λ s t f q o is. record { past = past_step s t f.by.0 id f.op (small_of f.a) f.b f.reply o.past is; own = own_step e.by.0 id e.reply s t f.by.0 f.op (small_of f.a) f.b f.reply o.past o.own is }) zs c.after m (every zs) first c.goes in
        record { out = last.past.out; own = last.own }

    starts_once : StartsOnce start h
    starts_once xs zs ys e f id same which again =
        let c = cut start now xs e (zs ++ f ∷ ys) (ap (run (at_entry step) (Some start)) (sym same) ∙ legal) in
        let d = cut c.after now zs f ys c.goes in
        let past : IsPast id c.after = at which c.before c.after (once_run start c.before xs bare c.leads) c.enabled in
        no_start d.before d.after f id (past_run id zs c.after d.before past d.leads) again d.enabled
      where
        at : Starts id e ⊎ ((e.op ≡ ops.Deregister) × (small_of e.a ≡ Some id)) → (s t : Stop) → IsOnceEach (members s) → at_entry step s e ≡ Some t → IsPast id t
        at (inl st) s t once en = started_past s t e id st en
        at (inr (op, a)) s t once en = (gone_own s t e.by.0 id e.b e.reply once ((λ i. step s e.by.0 (sym op i) (sym a i) e.b e.reply) ∙ en)).past
