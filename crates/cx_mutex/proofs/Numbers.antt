-- A mutex keeps as many numbers as it opened with, and what its owner may do with them.
use Rattle.std.proofs.Common.{◌≡◌, ◌≢◌, ◌∙◌, ℕ, zero, ◌<◌, ◌^◌, ◌&&◌, ℤ, pos, ◌+ℤ◌, Bool, true, false, not, List, [], ◌∷◌, length, replicate, slice_get, get_or, Option, Some, None, option_map, nat_lt, if◌then◌else◌, refl, sym, ap, subst}
use Rattle.std.proofs.lemmas.Bool.{and_parts, lt-ltb}
use Rattle.std.proofs.lemmas.Bool.Decides.{Decides-int_eq}
use Rattle.std.proofs.lemmas.List.{length-set, length-replicate}
use Rattle.std.proofs.lemmas.Option.{slice_get-get_or}
use Rattle.cx_names.specs.Replies.{int_eq}
use Rattle.cx_names.specs.declared.ThreadNo.{ThreadNo}
use Rattle.cx_names.specs.declared.Reply.{Reply}
use Rattle.cx_names.specs.declared.Reply.TheVariants as replies
use Rattle.cx_machine.specs.declared.kind.Entry.{Entry}
use Rattle.cx_machine.specs.declared.kind.Op.{Op}
use Rattle.cx_machine.specs.declared.kind.Op.TheVariants as ops
use Rattle.cx_machine.specs.Acts.{at_entry, at_look}
use Rattle.cx_machine.specs.Kept.{made}
use Rattle.cx_machine.specs.Meaning.{run, change, look_of, IsShut, ShowsNone}
use Rattle.cx_machine.specs.Words.{small_of, fits_i64, holds_number, when}
use Rattle.cx_machine.specs.Mutex.{Mutex, opening, owns, can_lock, locked, unlocked, number_at, sum_at, with_number, added, overflows, step, shows}
use Rattle.cx_machine.proofs.Owners.{Every, kept_by, every, owning_step}

-- ---- how many there are

same_many : (k : ℕ) (m m' : Mutex) (by : ℕ) (op : Op) (a : Option ℕ) (v : ℤ) (r : Reply) → length m.numbers ≡ k → step m by op a v r ≡ Some m' → length m'.numbers ≡ k
same_many k m m' by ops.Lock (Some zero) (pos zero) replies.Ok is e = made (λ x. length x.numbers ≡ k) (can_lock m by) (locked m by) m' (λ c. is) e
same_many k m m' by ops.TryLock (Some zero) (pos zero) replies.True is e = made (λ x. length x.numbers ≡ k) (can_lock m by) (locked m by) m' (λ c. is) e
same_many k m m' by ops.Unlock (Some zero) (pos zero) replies.Ok is e = made (λ x. length x.numbers ≡ k) (owns m by) (unlocked m) m' (λ c. is) e
same_many k m m' by ops.Set (Some i) v replies.Ok is e = made (λ x. length x.numbers ≡ k) _ (with_number m i v) m' (λ c. length-set m.numbers i v ∙ is) e
same_many k m m' by ops.Add (Some i) v (replies.Number r) is e = summed (sum_at m by i v) e
  where
    summed : (s : Option ℤ) → added m i r s ≡ Some m' → length m'.numbers ≡ k
    summed None f = cc f
    summed (Some s) f = made (λ x. length x.numbers ≡ k) _ (with_number m i r) m' (λ c. length-set m.numbers i r ∙ is) f
same_many k m m' by _ _ _ _ is e = cc e

-- the thread owns the mutex, which guards so many numbers
abbrev pub Guards : ℕ → Mutex → ℕ → Type 0
Guards k m n = (owns m n ≡ true) × (length m.numbers ≡ k)

-- it stays so while others act
pub guards_on : (k n : ℕ) (m m' : Mutex) (e : Entry) → e.by.0 ≢ n → Guards k m n → at_entry step m e ≡ Some m' → Guards k m' n
guards_on k n m m' e ne is on = (owning_step true n m m' e.by.0 e.op (small_of e.a) e.b e.reply ne is.0 on, same_many k m m' e.by.0 e.op (small_of e.a) e.b e.reply is.1 on)

pub many_run : (k : ℕ) (es : List Entry) (m m' : Mutex) → length m.numbers ≡ k → run (at_entry step) (Some m) es ≡ Some m' → length m'.numbers ≡ k
many_run k es m m' is e = kept_by (at_entry step) (λ x. Unit {0}) (λ x. length x.numbers ≡ k) (λ s t x _ was on. same_many k s t x.by.0 x.op (small_of x.a) x.b x.reply was on) es m m' (every es) is e

pub many_first : (k : ℕ) → length (opening false k).numbers ≡ k
many_first k = length-replicate k (pos 0)

-- ---- what the acts tell

pub got_number : (m : Mutex) (by : ThreadNo) (a : ℤ) (r : Reply) (k : ℕ) → at_look shows m (look_of by ops.Get a (pos 0) r k) ≡ true → (n : ℤ) × (r ≡ replies.Number n)
got_number m by a r k e = told (small_of a) r e
  where
    told : (x : Option ℕ) (r : Reply) → shows m by.0 ops.Get x (pos 0) r ≡ true → (n : ℤ) × (r ≡ replies.Number n)
    told (Some i) (replies.Number n) e = (n, refl)
    told _ _ e = cc e

pub set_owns : (m m' : Mutex) (by : ThreadNo) (a v : ℤ) (r : Reply) → at_entry step m (change by ops.Set a v r) ≡ Some m' → (r ≡ replies.Ok) × (owns m' by.0 ≡ true)
set_owns m m' by a v r e = told (small_of a) r e
  where
    told : (x : Option ℕ) (r : Reply) → step m by.0 ops.Set x v r ≡ Some m' → (r ≡ replies.Ok) × (owns m' by.0 ≡ true)
    told (Some i) replies.Ok e = (refl, made (λ x. owns x by.0 ≡ true) (owns m by.0 && nat_lt i (length m.numbers)) (with_number m i v) m' (λ c. (and_parts (owns m by.0) (nat_lt i (length m.numbers)) c).0) e)
    told _ _ e = cc e

-- where there is a sum, its thread owns the mutex
sum_owned : (b : Bool) (ns : List ℤ) (i : ℕ) (v s : ℤ) → option_map (λ n. n +ℤ v) (if b then slice_get ns i else None) ≡ Some s → b ≡ true
sum_owned true ns i v s e = refl
sum_owned false ns i v s e = cc e

pub add_owns : (m m' : Mutex) (by : ThreadNo) (a v : ℤ) (r : Reply) → at_entry step m (change by ops.Add a v r) ≡ Some m' → ((n : ℤ) × (r ≡ replies.Number n)) × (owns m' by.0 ≡ true)
add_owns m m' by a v r e = told (small_of a) r e
  where
    summed : (i : ℕ) (n : ℤ) (s : Option ℤ) → sum_at m by.0 i v ≡ s → added m i n s ≡ Some m' → owns m' by.0 ≡ true
    summed i n None is f = cc f
    summed i n (Some s) is f = made (λ x. owns x by.0 ≡ true) _ (with_number m i n) m' (λ c. sum_owned (owns m by.0) m.numbers i v s is) f

    told : (x : Option ℕ) (r : Reply) → step m by.0 ops.Add x v r ≡ Some m' → ((n : ℤ) × (r ≡ replies.Number n)) × (owns m' by.0 ≡ true)
    told (Some i) (replies.Number n) e = ((n, refl), summed i n (sum_at m by.0 i v) refl e)
    told _ _ e = cc e

pub over_so : (m : Mutex) (by : ThreadNo) (a v : ℤ) (r : Reply) (k : ℕ) → at_look shows m (look_of by ops.Add a v r k) ≡ true → r ≡ replies.Overflow
over_so m by a v r k e = told (small_of a) v r e
  where
    told : (x : Option ℕ) (v : ℤ) (r : Reply) → shows m by.0 ops.Add x v r ≡ true → r ≡ replies.Overflow
    told (Some i) v replies.Overflow e = refl
    told _ _ _ e = cc e

-- ---- what the owner may always do

pub small_is : (n : ℤ) (k : ℕ) → n ≡ pos k → k < 2 ^ 32 → small_of n ≡ Some k
small_is n k e low = ap small_of e ∙ ap (λ (b : Bool). if b then Some k else None) (lt-ltb k (2 ^ 32) low)

number_there : (k : ℕ) (m : Mutex) (i : ℕ) → length m.numbers ≡ k → i < k → slice_get m.numbers i ≡ Some (get_or m.numbers i (pos 0))
number_there k m i many below = slice_get-get_or m.numbers i (pos 0) (subst (λ (n : ℕ). i < n) (sym many) below)

same_number : (n : ℤ) → int_eq n n ≡ true
same_number n = (Decides-int_eq n n).1 refl

never : (b c : Bool) → b ≡ true → c ≡ true → (b && c) ≡ false → ⊥
never true true e f g = cc g
never true false e f g = cc f
never false c e f g = cc e

pub gets_always : (k : ℕ) (m : Mutex) (by : ThreadNo) (a : ℤ) (i : ℕ) → a ≡ pos i → i < 2 ^ 32 → i < k → Guards k m by.0 → ShowsNone (at_look shows) m by ops.Get a (pos 0) → ⊥
gets_always k m by a i is low below guards dark =
    let n = get_or m.numbers i (pos 0) in
    let d : (owns m by.0 && holds_number (slice_get m.numbers i) n) ≡ false = subst (λ (x : Option ℕ). shows m by.0 ops.Get x (pos 0) (replies.Number n) ≡ false) (small_is a i is low) (dark (replies.Number n) 0) in
    never (owns m by.0) (holds_number (slice_get m.numbers i) n) guards.0 (ap (λ (o : Option ℤ). holds_number o n) (number_there k m i guards.1 below) ∙ same_number n) d

when_not : {A : Type 0} (b : Bool) (x : A) → b ≡ true → ◌≡◌ {A = Option A} (when b x) None → ⊥
when_not true x e f = cc f
when_not false x e f = cc e

both : (b c : Bool) → b ≡ true → c ≡ true → (b && c) ≡ true
both true true e f = refl
both true false e f = f
both false c e f = e

pub sets_always : (k : ℕ) (m : Mutex) (by : ThreadNo) (a v : ℤ) (i : ℕ) → a ≡ pos i → i < 2 ^ 32 → i < k → Guards k m by.0 → IsShut (at_entry step) m by ops.Set a v → ⊥
sets_always k m by a v i is low below guards shut =
    let within : nat_lt i (length m.numbers) ≡ true = lt-ltb i (length m.numbers) (subst (λ (n : ℕ). i < n) (sym guards.1) below) in
    let s : ◌≡◌ {A = Option Mutex} (when (owns m by.0 && nat_lt i (length m.numbers)) (with_number m i v)) None = subst (λ (x : Option ℕ). step m by.0 ops.Set x v replies.Ok ≡ None) (small_is a i is low) (shut replies.Ok) in
    when_not (owns m by.0 && nat_lt i (length m.numbers)) (with_number m i v) (both (owns m by.0) (nat_lt i (length m.numbers)) guards.0 within) s

-- a sum fits, or it doesn't
fits_or_not : {A : Type 0} (b c : Bool) (x : A) → b ≡ true → ◌≡◌ {A = Option A} (when (b && c) x) None → not c ≡ false → ⊥
fits_or_not true true x e f g = cc f
fits_or_not true false x e f g = cc g
fits_or_not false c x e f g = cc e

pub adds_or_not : (k : ℕ) (m : Mutex) (by : ThreadNo) (a v : ℤ) (i : ℕ) → a ≡ pos i → i < 2 ^ 32 → i < k → Guards k m by.0 → IsShut (at_entry step) m by ops.Add a v → ShowsNone (at_look shows) m by ops.Add a v → ⊥
adds_or_not k m by a v i is low below guards shut dark =
    let n = get_or m.numbers i (pos 0) +ℤ v in
    let sum : sum_at m by.0 i v ≡ Some n = (λ j. option_map (λ (z : ℤ). z +ℤ v) (if guards.0 j then slice_get m.numbers i else None)) ∙ ap (option_map (λ (z : ℤ). z +ℤ v)) (number_there k m i guards.1 below) in
    let s : ◌≡◌ {A = Option Mutex} (when (int_eq n n && fits_i64 n) (with_number m i n)) None = subst (λ (o : Option ℤ). added m i n o ≡ None) sum (subst (λ (x : Option ℕ). step m by.0 ops.Add x v (replies.Number n) ≡ None) (small_is a i is low) (shut (replies.Number n))) in
    let d : not (fits_i64 n) ≡ false = subst (λ (o : Option ℤ). overflows o ≡ false) sum (subst (λ (x : Option ℕ). shows m by.0 ops.Add x v replies.Overflow ≡ false) (small_is a i is low) (dark replies.Overflow 0)) in
    fits_or_not (int_eq n n) (fits_i64 n) (with_number m i n) (same_number n) s d
