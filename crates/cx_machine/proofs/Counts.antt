-- How long the lists of a stop state are, before and after a change.
use Rattle.std.proofs.Common.{◌≡◌, ℕ, suc, ◌+◌, ◌/◌, ◌<◌, ◌≤◌, ◌==◌, nat_eq, nat_lt, true, false, not, ◌||◌, cond, List, [], ◌∷◌, ◌++◌, length, Some, refl, ap, sym, ◌∙◌, subst, arith, ◌⊎◌, inl, inr}
use Rattle.std.proofs.lemmas.Bool.{cases_Bool, eqb-true, or_parts, and_parts, not-true}
use Rattle.std.specs.Prelude.{Vec, vec_len}
use Rattle.cx_machine.specs.declared.stop.Running.{Running}
use Rattle.cx_machine.specs.Words.{when, has, without, inserted}
use Rattle.cx_machine.specs.Meaning.{IsOnceEach, bit, times}
use Rattle.cx_machine.specs.Stop.{Stop, is_requested, is_pair, runs, is_running, ended_by, is_fresh, can_register, can_register_now, registered_too, began}
use Rattle.cx_machine.specs.Distinct.{length-push, length-without, times-append, times_none}
use Rattle.cx_machine.specs.Waiters.{length-both, times_some, times_gone}
use Rattle.cx_machine.specs.Callbacks.{ids, members, HasRoom, once_began_now}

pub length-ids : (rs : List Running) → length (ids rs) ≡ length rs
length-ids [] = refl
length-ids (r ∷ rs) = let rest = length-ids rs in omega (arith, rest)

pub length-members : (s : Stop) → length (members s) ≡ length s.registered + (length s.running + (length s.ended + length s.gone))
length-members s =
    let a = length-both s.registered (ids s.running ++ (s.ended ++ s.gone)) in
    let b = length-both (ids s.running) (s.ended ++ s.gone) in
    let c = length-both s.ended s.gone in
    let d = length-ids s.running in
    omega (arith, a, b, c, d)

pub lacks : (ms : List ℕ) (n : ℕ) → times n ms ≡ 0 → has ms n ≡ false
lacks ms n none = by_cases (cases_Bool (has ms n))
  where
    by_cases : (has ms n ≡ true) ⊎ (has ms n ≡ false) → has ms n ≡ false
    by_cases (inl e) = let s = times_some n ms e in absurd (omega (arith, s, none))
    by_cases (inr e) = e

pub without_none : (ms : List ℕ) (n : ℕ) → has ms n ≡ false → without ms n ≡ ms
without_none [] n h = refl
without_none (m ∷ ms) n h =
    let p = or_parts (m == n) (has ms n) h in
    let rest = without_none ms n p.1 in
    rw p.0 (ap (λ (xs : List ℕ). m ∷ xs) rest)

pub length-inserted : (ms : List ℕ) (n : ℕ) → has ms n ≡ false → length (inserted ms n) ≡ length ms + 1
length-inserted [] n h = refl
length-inserted (m ∷ ms) n h =
    let p = or_parts (m == n) (has ms n) h in
    let rest = length-inserted ms n p.1 in
    elim (nat_lt m n) as (λ b. length (cond b (m ∷ inserted ms n) (cond (m == n) (m ∷ ms) (n ∷ m ∷ ms))) ≡ suc (length ms) + 1) [ true ↦ omega (arith, rest) | false ↦ rw p.0 (omega arith) ]

-- who runs a callback has a pair
pub runs_times : (rs : List Running) (by id : ℕ) → runs rs by id ≡ true → 1 ≤ times id (ids rs)
runs_times [] by id h = cc h
runs_times (r ∷ rs) by id h = by_cases (cases_Bool (is_pair by id r)) (λ q. runs_times rs by id q)
  where
    by_cases : (is_pair by id r ≡ true) ⊎ (is_pair by id r ≡ false) → (runs rs by id ≡ true → 1 ≤ times id (ids rs)) → 1 ≤ bit (nat_eq r.id id) + times id (ids rs)
    by_cases (inl e) rest =
        let s : (r.id == id) ≡ true = (and_parts (r.thread == by) (r.id == id) e).1 in
        rw s (omega arith)
    by_cases (inr e) rest = let h' : runs rs by id ≡ true = rw e at h in let q = rest h' in omega (arith, q)

pub none_ends : (rs : List Running) (by id : ℕ) → times id (ids rs) ≡ 0 → length (ended_by rs by id) ≡ length rs
none_ends [] by id h = refl
none_ends (r ∷ rs) by id h = by_cases (cases_Bool (is_pair by id r)) (λ q. none_ends rs by id q)
  where
    by_cases : (is_pair by id r ≡ true) ⊎ (is_pair by id r ≡ false) → (times id (ids rs) ≡ 0 → length (ended_by rs by id) ≡ length rs) → length (ended_by (r ∷ rs) by id) ≡ suc (length rs)
    by_cases (inl e) rest =
        let s : (r.id == id) ≡ true = (and_parts (r.thread == by) (r.id == id) e).1 in
        let h' : 1 + times id (ids rs) ≡ 0 = rw s at h in
        absurd (omega (arith, h'))
    by_cases (inr e) rest = let q = rest (omega (arith, h)) in rw e (omega (arith, q))

pub one_ends : (rs : List Running) (by id : ℕ) → runs rs by id ≡ true → times id (ids rs) ≤ 1 → length (ended_by rs by id) + 1 ≡ length rs
one_ends [] by id h once = cc h
one_ends (r ∷ rs) by id h once = by_cases (cases_Bool (is_pair by id r)) (λ q. one_ends rs by id q) (λ q. none_ends rs by id q)
  where
    by_cases : (is_pair by id r ≡ true) ⊎ (is_pair by id r ≡ false) → (runs rs by id ≡ true → times id (ids rs) ≤ 1 → length (ended_by rs by id) + 1 ≡ length rs) → (times id (ids rs) ≡ 0 → length (ended_by rs by id) ≡ length rs) → length (ended_by (r ∷ rs) by id) + 1 ≡ suc (length rs)
    by_cases (inl e) rest none =
        let s : (r.id == id) ≡ true = (and_parts (r.thread == by) (r.id == id) e).1 in
        let o : 1 + times id (ids rs) ≤ 1 = rw s at once in
        let q = none (omega (arith, o)) in
        rw e (omega (arith, q))
    by_cases (inr e) rest none =
        let h' : runs rs by id ≡ true = rw e at h in
        let q = rest h' (omega (arith, once)) in
        rw e (omega (arith, q))

-- what stands once in all four lists stands at most once in each, and in no two
pub record Apart (ms : List ℕ) (rs : List Running) (ns ls : List ℕ) (k : ℕ) : Type 0 where
  pub sum : times k ms + (times k (ids rs) + (times k ns + times k ls)) ≤ 1

pub apart : (ms : List ℕ) (rs : List Running) (ns ls : List ℕ) (k : ℕ) → IsOnceEach (ms ++ (ids rs ++ (ns ++ ls))) → Apart ms rs ns ls k
apart ms rs ns ls k once =
    let o = once k in
    let a = times-append k ms (ids rs ++ (ns ++ ls)) in
    let b = times-append k (ids rs) (ns ++ ls) in
    let c = times-append k ns ls in
    record { sum = omega (arith, o, a, b, c) }

-- a vector after one came or went
pub shorter_by : {Z : Type 0} (v w : Vec ℕ Z) (n : ℕ) → times n v.items ≤ 1 → has v.items n ≡ true → w.items ≡ without v.items n → vec_len w + 1 ≡ vec_len v
shorter_by v w n once h is =
    let a = v.ok.0 in
    let b = w.ok.0 in
    let l = length-without v.items n in
    let s = times_some n v.items h in
    let c : length w.items ≡ length (without v.items n) = ap (λ (xs : List ℕ). length xs) is in
    omega (arith, a, b, l, s, once, c)

pub longer_by : {Z : Type 0} (v w : Vec ℕ Z) (n : ℕ) → has v.items n ≡ false → w.items ≡ inserted v.items n → vec_len w ≡ vec_len v + 1
longer_by v w n h is =
    let a = v.ok.0 in
    let b = w.ok.0 in
    let l = length-inserted v.items n h in
    let c : length w.items ≡ length (inserted v.items n) = ap (λ (xs : List ℕ). length xs) is in
    omega (arith, a, b, l, c)

pub fewer_by : {Z : Type 0} (v w : Vec Running Z) (by n : ℕ) → times n (ids v.items) ≤ 1 → runs v.items by n ≡ true → w.items ≡ ended_by v.items by n → vec_len w + 1 ≡ vec_len v
fewer_by v w by n once h is =
    let a = v.ok.0 in
    let b = w.ok.0 in
    let l = one_ends v.items by n h once in
    let c : length w.items ≡ length (ended_by v.items by n) = ap (λ (xs : List Running). length xs) is in
    omega (arith, a, b, l, c)

-- how the four lists change, each change by one
pub finish_lens : {Y Z W : Type 0} (r r' : Vec Running Y) (e e' : Vec ℕ Z) (g : Vec ℕ W) (ms : List ℕ) (by id : ℕ) → IsOnceEach (ms ++ (ids r.items ++ (e.items ++ g.items))) → runs r.items by id ≡ true → r'.items ≡ ended_by r.items by id → e'.items ≡ inserted e.items id → (vec_len r' + 1 ≡ vec_len r) × (vec_len e' ≡ vec_len e + 1)
finish_lens r r' e e' g ms by id once h is is' =
    let a = (apart ms r.items e.items g.items id once).sum in
    let t = runs_times r.items by id h in
    (fewer_by r r' by id (omega (arith, a)) h is, longer_by e e' id (lacks e.items id (omega (arith, a, t))) is')

pub remove_lens : {Y Z W : Type 0} (m m' : Vec ℕ Y) (e : Vec ℕ Z) (g g' : Vec ℕ W) (rs : List Running) (id : ℕ) → IsOnceEach (m.items ++ (ids rs ++ (e.items ++ g.items))) → has m.items id ≡ true → m'.items ≡ without m.items id → g'.items ≡ inserted g.items id → (vec_len m' + 1 ≡ vec_len m) × (vec_len g' ≡ vec_len g + 1)
remove_lens m m' e g g' rs id once h is is' =
    let a = (apart m.items rs e.items g.items id once).sum in
    let t = times_some id m.items h in
    (shorter_by m m' id (omega (arith, a)) h is, longer_by g g' id (lacks g.items id (omega (arith, a, t))) is')

pub let_go_lens : {Z W : Type 0} (e e' : Vec ℕ Z) (g g' : Vec ℕ W) (ms : List ℕ) (rs : List Running) (id : ℕ) → IsOnceEach (ms ++ (ids rs ++ (e.items ++ g.items))) → has e.items id ≡ true → e'.items ≡ without e.items id → g'.items ≡ inserted g.items id → (vec_len e' + 1 ≡ vec_len e) × (vec_len g' ≡ vec_len g + 1)
let_go_lens e e' g g' ms rs id once h is is' =
    let a = (apart ms rs e.items g.items id once).sum in
    let t = times_some id e.items h in
    (shorter_by e e' id (omega (arith, a)) h is, longer_by g g' id (lacks g.items id (omega (arith, a, t))) is')

pub begin_len : {Y : Type 0} (m m' : Vec ℕ Y) (rs : List Running) (ns ls : List ℕ) (id : ℕ) → IsOnceEach (m.items ++ (ids rs ++ (ns ++ ls))) → has m.items id ≡ true → m'.items ≡ without m.items id → vec_len m' + 1 ≡ vec_len m
begin_len m m' rs ns ls id once h is =
    let a = (apart m.items rs ns ls id once).sum in
    shorter_by m m' id (omega (arith, a)) h is

-- who is in a list makes it longer than nothing
pub some_len : {Z : Type 0} (v : Vec ℕ Z) (n : ℕ) → has v.items n ≡ true → 1 ≤ vec_len v
some_len v n h = let a = v.ok.0 in let b = far v.items h in omega (arith, a, b)
  where
    far : (ms : List ℕ) → has ms n ≡ true → 1 ≤ length ms
    far [] h = cc h
    far (m ∷ ms) h = omega arith

pub some_runs : {Z : Type 0} (v : Vec Running Z) (by n : ℕ) → runs v.items by n ≡ true → 1 ≤ vec_len v
some_runs v by n h = let a = v.ok.0 in let b = far v.items h in omega (arith, a, b)
  where
    far : (rs : List Running) → runs rs by n ≡ true → 1 ≤ length rs
    far [] h = cc h
    far (r ∷ rs) h = omega arith

pub length-more : (rs : List Running) (r : Running) → length (rs ++ r ∷ []) ≡ length rs + 1
length-more [] r = refl
length-more (x ∷ xs) r = let rest = length-more xs r in omega (arith, rest)

-- a fresh ID is registered nowhere
pub fresh_unregistered : (s : Stop) (by id : ℕ) → is_fresh s by id ≡ true → has s.registered id ≡ false
fresh_unregistered s by id h =
    let f = and_parts (id / 4096 == by) (not (has s.registered id || is_running s.running id || has s.ended id || has s.gone id)) h in
    let n = not-true _ f.1 in
    let p = or_parts (has s.registered id || is_running s.running id || has s.ended id) (has s.gone id) n in
    let q = or_parts (has s.registered id || is_running s.running id) (has s.ended id) p.0 in
    (or_parts (has s.registered id) (is_running s.running id) q.0).0

abbrev too : Stop → ℕ → ℕ → List Running
too s by id = s.running ++ record { thread = by; id = id } ∷ []

-- a fresh callback runs at once
pub run_is : (s : Stop) (by id : ℕ) → is_fresh s by id ≡ true → record s { running = too s by id } ≡ began s by id
run_is s by id h =
    let w = without_none s.registered id (fresh_unregistered s by id h) in
    ap (λ (ms : List ℕ). record s { registered = ms; running = too s by id }) (sym w)

pub once_run : (s : Stop) (by id : ℕ) → IsOnceEach (members s) → is_fresh s by id ≡ true → IsOnceEach (s.registered ++ (ids (too s by id) ++ (s.ended ++ s.gone)))
once_run s by id once h =
    let w = without_none s.registered id (fresh_unregistered s by id h) in
    subst (λ (ms : List ℕ). IsOnceEach (ms ++ (ids (too s by id) ++ (s.ended ++ s.gone)))) w (once_began_now s by id once h)

-- a registration finds room
pub room_to_register : (s : Stop) (by id room : ℕ) → can_register s by id ≡ true → HasRoom room s (when (can_register s by id) (registered_too s id)) → 0 < room
room_to_register s by id room can h =
    let h' : HasRoom room s (Some (registered_too s id)) = rw can at h in
    let le = h' (registered_too s id) refl in
    let a = length-members (registered_too s id) in
    let b = length-members s in
    let p = length-push s.registered id in
    omega (arith, le, a, b, p)

pub room_to_run : (s : Stop) (by id room : ℕ) → can_register_now s by id ≡ true → HasRoom room s (when (can_register_now s by id) (began s by id)) → 0 < room
room_to_run s by id room can h =
    let h' : HasRoom room s (Some (began s by id)) = rw can at h in
    let le = h' (began s by id) refl in
    let fresh = (and_parts (is_requested s) (is_fresh s by id) can).1 in
    let w : length (without s.registered id) ≡ length s.registered = ap (λ (xs : List ℕ). length xs) (without_none s.registered id (fresh_unregistered s by id fresh)) in
    let a = length-members (began s by id) in
    let b = length-members s in
    let p = length-more s.running (record { thread = by; id = id }) in
    omega (arith, le, a, b, p, w)

-- the same numbers, as often, in rising order
abbrev IsIndex : List ℕ → List ℕ → Type 0
IsIndex ix ms = (k : ℕ) → times k ix ≡ times k ms

pub inserted_times : (ms : List ℕ) (n k : ℕ) → has ms n ≡ false → times k (inserted ms n) ≡ times k ms + bit (nat_eq n k)
inserted_times [] n k h = omega arith
inserted_times (m ∷ ms) n k h =
    let p = or_parts (m == n) (has ms n) h in
    let rest = inserted_times ms n k p.1 in
    elim (nat_lt m n) as (λ b. times k (cond b (m ∷ inserted ms n) (cond (m == n) (m ∷ ms) (n ∷ m ∷ ms))) ≡ bit (nat_eq m k) + times k ms + bit (nat_eq n k)) [ true ↦ omega (arith, rest) | false ↦ rw p.0 (omega arith) ]

pub times_kept : (ms : List ℕ) (n k : ℕ) → nat_eq n k ≡ false → times k (without ms n) ≡ times k ms
times_kept [] n k ne = refl
times_kept (m ∷ ms) n k ne = by_cases (cases_Bool (m == n)) (times_kept ms n k ne)
  where
    by_cases : ((m == n) ≡ true) ⊎ ((m == n) ≡ false) → times k (without ms n) ≡ times k ms → times k (without (m ∷ ms) n) ≡ bit (nat_eq m k) + times k ms
    by_cases (inl e) rest =
        let ne' : nat_eq m k ≡ false = subst (λ (x : ℕ). nat_eq x k ≡ false) (sym (eqb-true m n e)) ne in
        rw (e, ne') (omega (arith, rest))
    by_cases (inr e) rest = rw (e, rest) refl

pub index_push : (ix ms : List ℕ) (n : ℕ) → IsIndex ix ms → has ix n ≡ false → IsIndex (inserted ix n) (ms ++ n ∷ [])
index_push ix ms n same lacks_it k =
    let a = inserted_times ix n k lacks_it in
    let b = times-append k ms (n ∷ []) in
    let c = same k in
    omega (arith, a, b, c)

pub index_out : (ix ms : List ℕ) (n : ℕ) → IsIndex ix ms → IsIndex (without ix n) (without ms n)
index_out ix ms n same k = by_cases (cases_Bool (nat_eq n k))
  where
    by_cases : (nat_eq n k ≡ true) ⊎ (nat_eq n k ≡ false) → times k (without ix n) ≡ times k (without ms n)
    by_cases (inl e) = subst (λ (x : ℕ). times x (without ix n) ≡ times x (without ms n)) (eqb-true n k e) (times_gone n ix ∙ sym (times_gone n ms))
    by_cases (inr e) = times_kept ix n k e ∙ (same k ∙ sym (times_kept ms n k e))

pub index_has : (ix ms : List ℕ) (n : ℕ) → IsIndex ix ms → has ix n ≡ has ms n
index_has ix ms n same = by_cases (cases_Bool (has ix n)) (cases_Bool (has ms n))
  where
    by_cases : (has ix n ≡ true) ⊎ (has ix n ≡ false) → (has ms n ≡ true) ⊎ (has ms n ≡ false) → has ix n ≡ has ms n
    by_cases (inl e) (inl f) = e ∙ sym f
    by_cases (inr e) (inr f) = e ∙ sym f
    by_cases (inl e) (inr f) = let a = times_some n ix e in let b = times_none n ms f in let c = same n in absurd (omega (arith, a, b, c))
    by_cases (inr e) (inl f) = let a = times_some n ms f in let b = times_none n ix e in let c = same n in absurd (omega (arith, a, b, c))

-- the index is shorter by one without a callback that is registered
pub index_len_out : {Z : Type 0} (x x' : Vec ℕ Z) (ms : List ℕ) (rs : List Running) (ns ls : List ℕ) (id : ℕ) → IsIndex x.items ms → IsOnceEach (ms ++ (ids rs ++ (ns ++ ls))) → has ms id ≡ true → x'.items ≡ without x.items id → vec_len x' + 1 ≡ vec_len x
index_len_out x x' ms rs ns ls id same once h is =
    let a = (apart ms rs ns ls id once).sum in
    let s = same id in
    shorter_by x x' id (omega (arith, a, s)) (index_has x.items ms id same ∙ h) is
