-- A thread's levels of a mutex are its locks less its unlocks.
use Rattle.std.proofs.Common.{◌≡◌, ◌∙◌, ℕ, zero, ◌+◌, ◌-◌, ◌≤◌, ◌==◌, ◌&&◌, ◌||◌, ℤ, pos, Bool, true, false, List, ◌∷◌, ◌++◌, Option, Some, None, is_none, refl, sym, ap, subst, arith, nat_lt, nat_le, if◌then◌else◌, ◌⊎◌, inl, inr, length}
use Rattle.std.proofs.lemmas.Bool.{and_parts, cases_Bool, eqb-true, eqb-false, leb-true, leb-false, ltb-true}
use Rattle.cx_names.specs.declared.Reply.{Reply}
use Rattle.cx_names.specs.declared.Reply.TheVariants as replies
use Rattle.cx_machine.specs.declared.kind.Kind.TheVariants as kinds
use Rattle.cx_machine.specs.declared.kind.Entry.{Entry}
use Rattle.cx_machine.specs.declared.kind.Op.{Op}
use Rattle.cx_machine.specs.declared.kind.Op.TheVariants as ops
use Rattle.cx_machine.specs.Acts.{at_entry}
use Rattle.cx_machine.specs.Kept.{made}
use Rattle.cx_machine.specs.Meaning.{run, bit}
use Rattle.cx_machine.specs.Words.{is_thread, small_of}
use Rattle.cx_machine.specs.Machine.{IsLegal, Mutex as AMutex}
use Rattle.cx_machine.specs.Mutex.{Mutex, opening, owns, can_lock, levels_of, locked, unlocked, with_number, added, sum_at, step}
use Rattle.cx_machine.proofs.Owners.{only_owner, nobody_else, unlocked_else, plain_run, plain_first}
use Rattle.cx_laws.specs.History.{count}
use Rattle.cx_laws.specs.Mutex.{locks, unlocks, is_lock, is_unlock, is_write, Owns}
use Rattle.cx_laws.proofs.Along.{balanced, reaches, parted}

-- nobody is at no level, and an owner at one or more, up to 1,000
record Sound (m : Mutex) : Type 0 where
  free : m.owner ≡ None → m.level ≡ 0
  held : (t : ℕ) → m.owner ≡ Some t → 1 ≤ m.level
  high : m.level ≤ 1000

sound_locked : (m : Mutex) (by : ℕ) → Sound m → can_lock m by ≡ true → Sound (locked m by)
sound_locked m by s c = record { free = λ e. cc e; held = λ t e. omega arith; high = at m.owner refl c }
  where
    at : (o : Option ℕ) → m.owner ≡ o → (is_none o || (m.recursive && is_thread o by && nat_lt m.level 1000)) ≡ true → m.level + 1 ≤ 1000
    at None is e = let z = s.free is in omega (arith, z)
    at (Some t) is e = let l = ltb-true m.level 1000 (and_parts (m.recursive && is_thread (Some t) by) (nat_lt m.level 1000) e).1 in omega (arith, l)

sound_unlocked : (m : Mutex) → Sound m → Sound (unlocked m)
sound_unlocked m s = at (cases_Bool (nat_le m.level 1))
  where
    high : m.level - 1 ≤ 1000
    high = let h = s.high in omega (arith, h)

    at : (nat_le m.level 1 ≡ true) ⊎ (nat_le m.level 1 ≡ false) → Sound (unlocked m)
    at (inl low) = let l = leb-true m.level 1 low in record { free = λ e. omega (arith, l); held = λ t e. (let f : None ≡ Some t = rw low at e in cc f); high = high }
    at (inr up) = let l = leb-false m.level 1 up in record { free = λ e. (let f : m.owner ≡ None = rw up at e in let z = s.free f in omega (arith, l, z)); held = λ t e. omega (arith, l); high = high }

-- one lock more of its thread, and of nobody else
counted_lock : (n : ℕ) (m : Mutex) (by : ℕ) → Sound m → can_lock m by ≡ true → levels_of m n + bit (by == n) ≡ 0 + levels_of (locked m by) n
counted_lock n m by s c = at (cases_Bool (by == n))
  where
    level : (o : Option ℕ) → m.owner ≡ o → by ≡ n → (is_none o || (m.recursive && is_thread o by && nat_lt m.level 1000)) ≡ true → (if is_thread o n then m.level else 0) ≡ m.level
    level None is same e = sym (s.free is)
    level (Some t) is same e =
        let own : is_thread (Some t) by ≡ true = (and_parts m.recursive (is_thread (Some t) by) (and_parts (m.recursive && is_thread (Some t) by) (nat_lt m.level 1000) e).0).1 in
        let own' : (t == n) ≡ true = subst (λ x. (t == x) ≡ true) same own in
        rw own' refl

    at : ((by == n) ≡ true) ⊎ ((by == n) ≡ false) → levels_of m n + bit (by == n) ≡ 0 + levels_of (locked m by) n
    at (inl e) = let l = level m.owner refl (eqb-true by n e) c in rw (e, l) (omega arith)
    at (inr e) = let l = nobody_else m by n (eqb-false by n e) c in rw (e, l) (omega arith)

counted_unlock : (n : ℕ) (m : Mutex) (by : ℕ) → Sound m → owns m by ≡ true → levels_of m n + 0 ≡ bit (by == n) + levels_of (unlocked m) n
counted_unlock n m by s own = at (cases_Bool (by == n)) (cases_Bool (nat_le m.level 1))
  where
    some : (o : Option ℕ) → m.owner ≡ o → is_thread o by ≡ true → 1 ≤ m.level
    some None is e = cc e
    some (Some t) is e = s.held t is

    at : ((by == n) ≡ true) ⊎ ((by == n) ≡ false) → (nat_le m.level 1 ≡ true) ⊎ (nat_le m.level 1 ≡ false) → levels_of m n + 0 ≡ bit (by == n) + levels_of (unlocked m) n
    at (inl e) (inl low) =
        let own' : owns m n ≡ true = subst (λ x. owns m x ≡ true) (eqb-true by n e) own in
        let l = leb-true m.level 1 low in
        let k = some m.owner refl own in
        rw (e, own', low) (omega (arith, l, k))
    at (inl e) (inr up) =
        let own' : owns m n ≡ true = subst (λ x. owns m x ≡ true) (eqb-true by n e) own in
        let l = leb-false m.level 1 up in
        rw (e, up, own') (omega (arith, l))
    at (inr e) c =
        let f = only_owner m.owner by n (eqb-false by n e) own in
        let g = unlocked_else m n f in
        rw (e, f, g) (omega arith)

-- what a change adds to a thread's levels, and what it takes
abbrev Counts : ℕ → Mutex → Op → ℕ → Mutex → Type 0
Counts n m op by t = Sound t × (levels_of m n + bit (is_lock op && (by == n)) ≡ bit (is_unlock op && (by == n)) + levels_of t n)

one : (n : ℕ) (m t : Mutex) (by : ℕ) (op : Op) (a : Option ℕ) (v : ℤ) (r : Reply) → Sound m → step m by op a v r ≡ Some t → Counts n m op by t
one n m t by ops.Lock (Some zero) (pos zero) replies.Ok s e = made (Counts n m ops.Lock by) (can_lock m by) (locked m by) t (λ c. (sound_locked m by s c, counted_lock n m by s c)) e
one n m t by ops.TryLock (Some zero) (pos zero) replies.True s e = made (Counts n m ops.TryLock by) (can_lock m by) (locked m by) t (λ c. (sound_locked m by s c, counted_lock n m by s c)) e
one n m t by ops.Unlock (Some zero) (pos zero) replies.Ok s e = made (Counts n m ops.Unlock by) (owns m by) (unlocked m) t (λ c. (sound_unlocked m s, counted_unlock n m by s c)) e
one n m t by ops.Set (Some i) v replies.Ok s e = made (Counts n m ops.Set by) _ (with_number m i v) t (λ c. (record { free = s.free; held = s.held; high = s.high }, omega arith)) e
one n m t by ops.Add (Some i) v (replies.Number r) s e = summed (sum_at m by i v) e
  where
    summed : (o : Option ℤ) → added m i r o ≡ Some t → Counts n m ops.Add by t
    summed None f = cc f
    summed (Some sum) f = made (Counts n m ops.Add by) _ (with_number m i r) t (λ c. (record { free = s.free; held = s.held; high = s.high }, omega arith)) f
one n m t by _ _ _ _ s e = cc e

first : (recursive : Bool) (numbers : ℕ) → Sound (opening recursive numbers)
first recursive numbers = record { free = λ e. refl; held = λ t e. cc e; high = omega arith }

counted : (recursive : Bool) (numbers : ℕ) (n : ℕ) (h : List Entry) (t : Mutex) → run (at_entry step) (Some (opening recursive numbers)) h ≡ Some t → Sound t × (count (locks n) h ≡ count (unlocks n) h + levels_of t n)
counted recursive numbers n h t is =
    let b = balanced (at_entry step) Sound (λ m. levels_of m n) (λ e. bit (locks n e)) (λ e. bit (unlocks n e)) (λ m u e s on. one n m u e.by.0 e.op (small_of e.a) e.b e.reply s on) h (opening recursive numbers) t (first recursive numbers) is in
    (b.0, let q = b.1 in omega (arith, q))

legal : (recursive : Bool) (numbers : ℕ) (h : List Entry) → IsLegal (kinds.Mutex recursive numbers) h → (t : Mutex) × (run (at_entry step) (Some (opening recursive numbers)) h ≡ Some t)
legal recursive numbers h is = reaches AMutex (at_entry step) (λ m e. refl) h (opening recursive numbers) is

-- who has a level is the owner
owner_is : (m : Mutex) (n : ℕ) → 1 ≤ levels_of m n → m.owner ≡ Some n
owner_is m n l = at m.owner refl
  where
    at : (o : Option ℕ) → m.owner ≡ o → m.owner ≡ Some n
    at None is = let z : levels_of m n ≡ 0 = rw is refl in absurd (omega (arith, z, l))
    at (Some t) is = by_cases (cases_Bool (t == n))
      where
        by_cases : ((t == n) ≡ true) ⊎ ((t == n) ≡ false) → m.owner ≡ Some n
        by_cases (inl e) = is ∙ ap (λ x. Some x) (eqb-true t n e)
        by_cases (inr e) = let z : levels_of m n ≡ 0 = rw (is, e) refl in absurd (omega (arith, z, l))

pub one_owner : (recursive : Bool) (numbers : ℕ) (h : List Entry) (t u : ℕ) → IsLegal (kinds.Mutex recursive numbers) h → Owns t h → Owns u h → t ≡ u
one_owner recursive numbers h t u is own other =
    let m = legal recursive numbers h is in
    let a = (counted recursive numbers t h m.0 m.1).1 in
    let b = (counted recursive numbers u h m.0 m.1).1 in
    let p = owner_is m.0 t (omega (arith, a, own)) in
    let q = owner_is m.0 u (omega (arith, b, other)) in
    cc (p, q)

pub owners_unlock : (recursive : Bool) (numbers : ℕ) (h : List Entry) (t : ℕ) → IsLegal (kinds.Mutex recursive numbers) h → count (unlocks t) h ≤ count (locks t) h
owners_unlock recursive numbers h t is =
    let m = legal recursive numbers h is in
    let a = (counted recursive numbers t h m.0 m.1).1 in
    omega (arith, a)

level_most : (m : Mutex) (n : ℕ) → levels_of m n ≤ m.level
level_most m n = elim (owns m n) as (λ b. (if b then m.level else 0) ≤ m.level) [ true ↦ omega arith | false ↦ omega arith ]

pub plain_is_owned_once : (numbers : ℕ) (h : List Entry) (t : ℕ) → IsLegal (kinds.Mutex false numbers) h → count (locks t) h ≤ count (unlocks t) h + 1
plain_is_owned_once numbers h t is =
    let m = legal false numbers h is in
    let a = (counted false numbers t h m.0 m.1).1 in
    let l = (plain_run h (opening false numbers) m.0 (plain_first numbers) m.1).low in
    let k = level_most m.0 t in
    omega (arith, a, l, k)

pub levels_are_few : (recursive : Bool) (numbers : ℕ) (h : List Entry) (t : ℕ) → IsLegal (kinds.Mutex recursive numbers) h → count (locks t) h ≤ count (unlocks t) h + 1000
levels_are_few recursive numbers h t is =
    let m = legal recursive numbers h is in
    let c = counted recursive numbers t h m.0 m.1 in
    let a = c.1 in
    let l = c.0.high in
    let k = level_most m.0 t in
    omega (arith, a, l, k)

-- a number is written by who owns the mutex
writes : (m t : Mutex) (by : ℕ) (op : Op) (a : Option ℕ) (v : ℤ) (r : Reply) → is_write op ≡ true → step m by op a v r ≡ Some t → owns m by ≡ true
writes m t by ops.Set (Some i) v replies.Ok w e = made (λ _. owns m by ≡ true) (owns m by && nat_lt i (length m.numbers)) (with_number m i v) t (λ c. (and_parts (owns m by) (nat_lt i (length m.numbers)) c).0) e
writes m t by ops.Add (Some i) v (replies.Number r) w e = at (cases_Bool (owns m by))
  where
    at : (owns m by ≡ true) ⊎ (owns m by ≡ false) → owns m by ≡ true
    at (inl o) = o
    at (inr o) = let f : None ≡ Some t = rw o at e in cc f
writes m t by ops.Set _ _ _ w e = cc e
writes m t by ops.Add _ _ _ w e = cc e
writes m t by _ _ _ _ w e = cc w

pub owners_write : (recursive : Bool) (numbers : ℕ) (before rest : List Entry) (e : Entry) → IsLegal (kinds.Mutex recursive numbers) (before ++ e ∷ rest) → is_write e.op ≡ true → Owns e.by.0 before
owners_write recursive numbers before rest e is w =
    let m = legal recursive numbers (before ++ e ∷ rest) is in
    let p = parted (at_entry step) (opening recursive numbers) m.0 before e rest m.1 in
    let own = writes p.now p.next e.by.0 e.op (small_of e.a) e.b e.reply w p.one in
    let c = counted recursive numbers e.by.0 before p.now p.leads in
    let a = c.1 in
    let l : 1 ≤ levels_of p.now e.by.0 = rw own (some p.now e.by.0 p.now.owner refl own c.0) in
    omega (arith, a, l)
  where
    some : (m : Mutex) (by : ℕ) (o : Option ℕ) → m.owner ≡ o → is_thread o by ≡ true → Sound m → 1 ≤ m.level
    some m by None is f s = cc f
    some m by (Some t) is f s = s.held t is
