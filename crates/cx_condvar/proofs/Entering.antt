-- Which changes a condition allows a thread, by whether it has entered, and what they leave.
use Rattle.std.proofs.Common.{◌≡◌, ◌≢◌, ◌∙◌, ℕ, zero, ◌+◌, ◌<◌, ◌≤◌, ◌==◌, ◌||◌, ℤ, pos, ◌^◌, Bool, true, false, not, List, [], ◌∷◌, ◌++◌, length, Option, Some, None, refl, sym, ap, subst, arith, eq-eqb, ◌⊎◌, inl, inr}
use Rattle.std.proofs.lemmas.Bool.{cases_Bool, eqb-true}
use Rattle.std.proofs.lemmas.Bool.Decides.{Decides-int_eq}
use Rattle.cx_names.specs.Replies.{int_eq}
use Rattle.cx_names.specs.declared.ThreadNo.{ThreadNo}
use Rattle.cx_names.specs.declared.Reply.{Reply}
use Rattle.cx_names.specs.declared.Reply.TheVariants as replies
use Rattle.cx_machine.specs.declared.kind.Entry.{Entry}
use Rattle.cx_machine.specs.declared.kind.Op.{Op}
use Rattle.cx_machine.specs.declared.kind.Op.TheVariants as ops
use Rattle.cx_machine.specs.Acts.{at_entry}
use Rattle.cx_machine.specs.Condition.{Condition, opening, step, is_away, entered, moved, all_moved, unblocked, withdrawn}
use Rattle.cx_machine.specs.Distinct.{length-push, length-without, times-append}
use Rattle.cx_machine.specs.Kept.{made, none_after}
use Rattle.cx_machine.specs.Meaning.{run, change, IsShut, IsOnceEach}
use Rattle.cx_machine.specs.Now.{first_waiting}
use Rattle.cx_machine.specs.Waiters.{members, times_some, once_turned, once_entered, once_moved, once_withdrawn, once_unblocked, length-both}
use Rattle.cx_machine.specs.Words.{when, has, without, small_of}
use Rattle.cx_machine.proofs.Owners.{every, kept_by}
use Rattle.cx_condvar.specs.Acts.{first_of, notified_in, IsNotifiedReply}
use Rattle.cx_condvar.specs.Condvars.{is_in, Stands}
use Rattle.cx_condvar.proofs.Members.{or_true, has-append, has_pushed, has_push_other, lacks_taken, has_without_other}

-- ---- who has entered

-- a thread that is notified has entered as before
moved_in : (c : Condition) (t n : ℕ) → has c.waiting t ≡ true → is_in (moved c t) n ≡ is_in c n
moved_in c t n h = by_cases (cases_Bool (t == n))
  where
    by_cases : ((t == n) ≡ true) ⊎ ((t == n) ≡ false) → (has (without c.waiting t) n || has (c.notified ++ t ∷ []) n) ≡ (has c.waiting n || has c.notified n)
    by_cases (inl e) =
        let same : t ≡ n = eqb-true t n e in
        let h' : has c.waiting n ≡ true = subst (λ (x : ℕ). has c.waiting x ≡ true) same h in
        let told : has (c.notified ++ t ∷ []) n ≡ true = subst (λ (x : ℕ). has (c.notified ++ t ∷ []) x ≡ true) same (has_pushed c.notified t) in
        ap (λ (b : Bool). has (without c.waiting t) n || b) told ∙ (or_true (has (without c.waiting t) n) ∙ sym (ap (λ (b : Bool). b || has c.notified n) h'))
    by_cases (inr e) =
        let ne : t ≢ n = λ same. (let g : true ≡ false = sym (eq-eqb t n same) ∙ e in cc) in
        (λ i. has_without_other c.waiting t n ne i || has_push_other c.notified t n ne i)

-- so are all that are notified at once
swapped : (a b : Bool) → (b || a) ≡ (a || b)
swapped true true = refl
swapped true false = refl
swapped false true = refl
swapped false false = refl

all_moved_in : (c : Condition) (n : ℕ) → is_in (all_moved c) n ≡ is_in c n
all_moved_in c n = has-append c.notified c.waiting n ∙ swapped (has c.waiting n) (has c.notified n)

-- a change by another thread leaves it as it was whether a thread has entered
pub in_step : (b : Bool) (n : ℕ) (c c' : Condition) (by : ℕ) (op : Op) (a : Option ℕ) (v : ℤ) (r : Reply) → by ≢ n → is_in c n ≡ b → step c by op a v r ≡ Some c' → is_in c' n ≡ b
in_step b n c c' by ops.Enter (Some zero) (pos zero) replies.Ok ne is e = made (λ x. is_in x n ≡ b) (is_away c by) (entered c by) c' (λ _. ap (λ (x : Bool). x || has c.notified n) (has_push_other c.waiting by n ne) ∙ is) e
in_step b n c c' by ops.NotifyOne (Some zero) (pos zero) (replies.Thread t) ne is e = made (λ x. is_in x n ≡ b) (has c.waiting t.0) (moved c t.0) c' (λ h. moved_in c t.0 n h ∙ is) e
in_step b n c c' by ops.NotifyOne (Some zero) (pos zero) replies.Nobody ne is e = made (λ x. is_in x n ≡ b) (length c.waiting == 0) c c' (λ _. is) e
in_step b n c c' by ops.NotifyAll (Some zero) (pos zero) (replies.Number k) ne is e = made (λ x. is_in x n ≡ b) (int_eq k (pos (length c.waiting))) (all_moved c) c' (λ _. all_moved_in c n ∙ is) e
in_step b n c c' by ops.Unblock (Some zero) (pos zero) replies.Ok ne is e = made (λ x. is_in x n ≡ b) (has c.notified by) (unblocked c by) c' (λ _. ap (λ (x : Bool). has c.waiting n || x) (has_without_other c.notified by n ne) ∙ is) e
in_step b n c c' by ops.Withdraw (Some zero) (pos zero) replies.Ok ne is e = made (λ x. is_in x n ≡ b) (has c.waiting by) (withdrawn c by) c' (λ _. ap (λ (x : Bool). x || has c.notified n) (has_without_other c.waiting by n ne) ∙ is) e
in_step b n c c' by _ _ _ _ ne is e = cc e

pub stands_on : (b : Bool) (n : ℕ) (c c' : Condition) (e : Entry) → e.by.0 ≢ n → Stands b c n → at_entry step c e ≡ Some c' → Stands b c' n
stands_on b n c c' e ne is s = in_step b n c c' e.by.0 e.op (small_of e.a) e.b e.reply ne is s

-- ---- every history

-- each thread waits once, or was notified once
apart_step : (c c' : Condition) (by : ℕ) (op : Op) (a : Option ℕ) (v : ℤ) (r : Reply) → IsOnceEach (members c) → step c by op a v r ≡ Some c' → IsOnceEach (members c')
apart_step c c' by ops.Enter (Some zero) (pos zero) replies.Ok once e = made (λ x. IsOnceEach (members x)) (is_away c by) (entered c by) c' (λ away. once_entered c.waiting c.notified by once away) e
apart_step c c' by ops.NotifyOne (Some zero) (pos zero) (replies.Thread t) once e = made (λ x. IsOnceEach (members x)) (has c.waiting t.0) (moved c t.0) c' (λ h. once_moved c.waiting c.notified t.0 once h) e
apart_step c c' by ops.NotifyOne (Some zero) (pos zero) replies.Nobody once e = made (λ x. IsOnceEach (members x)) (length c.waiting == 0) c c' (λ _. once) e
apart_step c c' by ops.NotifyAll (Some zero) (pos zero) (replies.Number k) once e = made (λ x. IsOnceEach (members x)) (int_eq k (pos (length c.waiting))) (all_moved c) c' (λ _. once_turned c.waiting c.notified once) e
apart_step c c' by ops.Unblock (Some zero) (pos zero) replies.Ok once e = made (λ x. IsOnceEach (members x)) (has c.notified by) (unblocked c by) c' (λ _. once_unblocked c.waiting c.notified by once) e
apart_step c c' by ops.Withdraw (Some zero) (pos zero) replies.Ok once e = made (λ x. IsOnceEach (members x)) (has c.waiting by) (withdrawn c by) c' (λ _. once_withdrawn c.waiting c.notified by once) e
apart_step c c' by _ _ _ _ once e = cc e

pub apart_run : (es : List Entry) (c : Condition) → run (at_entry step) (Some opening) es ≡ Some c → IsOnceEach (members c)
apart_run es c e = kept_by (at_entry step) (λ x. Unit {0}) (λ x. IsOnceEach (members x)) (λ s t x _ was on. apart_step s t x.by.0 x.op (small_of x.a) x.b x.reply was on) es opening c (every es) (λ k. omega arith) e

-- a change brings in one thread at most
one_more : (c c' : Condition) (by : ℕ) (op : Op) (a : Option ℕ) (v : ℤ) (r : Reply) → step c by op a v r ≡ Some c' → length c'.waiting + length c'.notified ≤ length c.waiting + length c.notified + 1
one_more c c' by ops.Enter (Some zero) (pos zero) replies.Ok e = made (λ x. length x.waiting + length x.notified ≤ length c.waiting + length c.notified + 1) (is_away c by) (entered c by) c' (λ _. (let p = length-push c.waiting by in omega (arith, p))) e
one_more c c' by ops.NotifyOne (Some zero) (pos zero) (replies.Thread t) e = made (λ x. length x.waiting + length x.notified ≤ length c.waiting + length c.notified + 1) (has c.waiting t.0) (moved c t.0) c' (λ _. (let p = length-push c.notified t.0 in let w = length-without c.waiting t.0 in omega (arith, p, w))) e
one_more c c' by ops.NotifyOne (Some zero) (pos zero) replies.Nobody e = made (λ x. length x.waiting + length x.notified ≤ length c.waiting + length c.notified + 1) (length c.waiting == 0) c c' (λ _. omega arith) e
one_more c c' by ops.NotifyAll (Some zero) (pos zero) (replies.Number k) e = made (λ x. length x.waiting + length x.notified ≤ length c.waiting + length c.notified + 1) (int_eq k (pos (length c.waiting))) (all_moved c) c' (λ _. (let l = length-both c.notified c.waiting in omega (arith, l))) e
one_more c c' by ops.Unblock (Some zero) (pos zero) replies.Ok e = made (λ x. length x.waiting + length x.notified ≤ length c.waiting + length c.notified + 1) (has c.notified by) (unblocked c by) c' (λ _. (let w = length-without c.notified by in omega (arith, w))) e
one_more c c' by ops.Withdraw (Some zero) (pos zero) replies.Ok e = made (λ x. length x.waiting + length x.notified ≤ length c.waiting + length c.notified + 1) (has c.waiting by) (withdrawn c by) c' (λ _. (let w = length-without c.waiting by in omega (arith, w))) e
one_more c c' by _ _ _ _ e = cc e

few_within : (es : List Entry) (c c' : Condition) → run (at_entry step) (Some c) es ≡ Some c' → length c'.waiting + length c'.notified ≤ length c.waiting + length c.notified + length es
few_within [] c c' e = let same : c ≡ c' = cc e in subst (λ (x : Condition). length x.waiting + length x.notified ≤ length c.waiting + length c.notified + 0) same (omega arith)
few_within (x ∷ xs) c c' e = further (at_entry step c x) refl e (λ t f. few_within xs t c' f)
  where
    further : (o : Option Condition) → at_entry step c x ≡ o → run (at_entry step) o xs ≡ Some c' → ((t : Condition) → run (at_entry step) (Some t) xs ≡ Some c' → length c'.waiting + length c'.notified ≤ length t.waiting + length t.notified + length xs) → length c'.waiting + length c'.notified ≤ length c.waiting + length c.notified + length (x ∷ xs)
    further None was f rest = absurd (none_after (at_entry step) xs c' f)
    further (Some t) was f rest =
        let one = one_more c t x.by.0 x.op (small_of x.a) x.b x.reply was in
        let more = rest t f in
        omega (arith, one, more)

-- no more wait than there were changes
pub few_after : (es : List Entry) (c : Condition) → run (at_entry step) (Some opening) es ≡ Some c → length c.waiting ≤ length es
few_after es c e = let f = few_within es opening c e in omega (arith, f)

-- ---- a thread's own changes

lacks_first : (ms ns : List ℕ) (n : ℕ) → IsOnceEach (ms ++ ns) → has ns n ≡ true → has ms n ≡ false
lacks_first ms ns n once h = by_cases (cases_Bool (has ms n))
  where
    by_cases : (has ms n ≡ true) ⊎ (has ms n ≡ false) → has ms n ≡ false
    by_cases (inl e) =
        let o = once n in
        let t = times-append n ms ns in
        let a = times_some n ms e in
        let b = times_some n ns h in
        absurd (omega (arith, o, t, a, b))
    by_cases (inr e) = e

pub enters_in : (now after : Condition) (by : ThreadNo) (r : Reply) → at_entry step now (change by ops.Enter (pos 0) (pos 0) r) ≡ Some after → (r ≡ replies.Ok) × (is_in after by.0 ≡ true)
enters_in now after by replies.Ok e = (refl, made (λ x. is_in x by.0 ≡ true) (is_away now by.0) (entered now by.0) after (λ _. ap (λ (b : Bool). b || has now.notified by.0) (has_pushed now.waiting by.0)) e)
enters_in now after by _ e = cc e

pub unblocks_out : (now after : Condition) (by : ThreadNo) (r : Reply) → IsOnceEach (members now) → at_entry step now (change by ops.Unblock (pos 0) (pos 0) r) ≡ Some after → (r ≡ replies.Ok) × (is_in after by.0 ≡ false)
unblocks_out now after by replies.Ok once e = (refl, made (λ x. is_in x by.0 ≡ false) (has now.notified by.0) (unblocked now by.0) after (λ h. (λ i. lacks_first now.waiting now.notified by.0 once h i || lacks_taken now.notified by.0 i)) e)
unblocks_out now after by _ once e = cc e

pub withdraws_out : (now after : Condition) (by : ThreadNo) (r : Reply) → IsOnceEach (members now) → at_entry step now (change by ops.Withdraw (pos 0) (pos 0) r) ≡ Some after → (r ≡ replies.Ok) × (is_in after by.0 ≡ false)
withdraws_out now after by replies.Ok once e = (refl, made (λ x. is_in x by.0 ≡ false) (has now.waiting by.0) (withdrawn now by.0) after (λ h. (λ i. lacks_taken now.waiting by.0 i || lacks_first now.notified now.waiting by.0 (once_turned now.waiting now.notified once) h i)) e)
withdraws_out now after by _ once e = cc e

-- a notification leaves it as it was whether its own thread has entered
pub notifies_same : (b : Bool) (n : ℕ) (now after : Condition) (by : ThreadNo) (r : Reply) → is_in now n ≡ b → at_entry step now (change by ops.NotifyOne (pos 0) (pos 0) r) ≡ Some after → is_in after n ≡ b
notifies_same b n now after by (replies.Thread t) is e = made (λ x. is_in x n ≡ b) (has now.waiting t.0) (moved now t.0) after (λ h. moved_in now t.0 n h ∙ is) e
notifies_same b n now after by replies.Nobody is e = made (λ x. is_in x n ≡ b) (length now.waiting == 0) now after (λ _. is) e
notifies_same b n now after by _ is e = cc e

pub notifies_all_same : (b : Bool) (n : ℕ) (now after : Condition) (by : ThreadNo) (r : Reply) → is_in now n ≡ b → at_entry step now (change by ops.NotifyAll (pos 0) (pos 0) r) ≡ Some after → is_in after n ≡ b
notifies_all_same b n now after by (replies.Number k) is e = made (λ x. is_in x n ≡ b) (int_eq k (pos (length now.waiting))) (all_moved now) after (λ _. all_moved_in now n ∙ is) e
notifies_all_same b n now after by _ is e = cc e

-- ---- replies

-- the reply that is picked names who entered first
pub picks_first : (ts : List ℕ) (r : Reply) → r ≡ first_waiting ts → r ≡ notified_in (first_of ts)
picks_first [] r e = e
picks_first (t ∷ ts) r e = e

pub notified_by : (ts : List ℕ) (r : Reply) → r ≡ first_waiting ts → IsNotifiedReply r
notified_by ts r e = (first_of ts, picks_first ts r e)

notified_one : (a b : Option ThreadNo) → notified_in a ≡ notified_in b → a ≡ b
notified_one None None e = refl
notified_one None (Some u) e = cc e
notified_one (Some t) None e = cc e
notified_one (Some t) (Some u) e = cc e

pub who_first : (ts : List ℕ) (r : Reply) (who : Option ThreadNo) → r ≡ first_waiting ts → r ≡ notified_in who → who ≡ first_of ts
who_first ts r who picked named = notified_one who (first_of ts) (sym named ∙ picks_first ts r picked)

-- that of a notification of all is how many wait
pub counts_few : (now after : Condition) (by : ThreadNo) (r : Reply) → length now.waiting < 2 ^ 28 → at_entry step now (change by ops.NotifyAll (pos 0) (pos 0) r) ≡ Some after → (n : ℕ) × (r ≡ replies.Number (pos n)) × (n < 2 ^ 32)
counts_few now after by (replies.Number k) few e = (length now.waiting, ap replies.Number ((Decides-int_eq k (pos (length now.waiting))).0 (needs (int_eq k (pos (length now.waiting))) (all_moved now) e)), omega (arith, few))
  where
    needs : (b : Bool) (x : Condition) → when b x ≡ Some after → b ≡ true
    needs true x f = refl
    needs false x f = cc f
counts_few now after by _ few e = cc e

-- ---- what can't be

open_when : {A : Type 0} (b : Bool) (x : A) → b ≡ true → ◌≡◌ {A = Option A} (when b x) None → ⊥
open_when true x is e = cc e
open_when false x is e = cc is

-- who hasn't entered can
pub enters_now : (c : Condition) (by : ThreadNo) → is_in c by.0 ≡ false → IsShut (at_entry step) c by ops.Enter (pos 0) (pos 0) → ⊥
enters_now c by is shut = open_when (is_away c by.0) (entered c by.0) (ap not is) (shut replies.Ok)

-- somebody is notified, or nobody waits
pub notifies_now : (c : Condition) (by : ThreadNo) → IsShut (at_entry step) c by ops.NotifyOne (pos 0) (pos 0) → ⊥
notifies_now c by shut = by_cases c.waiting refl
  where
    by_cases : (ts : List ℕ) → c.waiting ≡ ts → ⊥
    by_cases [] e = open_when (length c.waiting == 0) c (ap (λ (ts : List ℕ). length ts == 0) e) (shut replies.Nobody)
    by_cases (t ∷ ts) e = open_when (has c.waiting t) (moved c t) (ap (λ (xs : List ℕ). has xs t) e ∙ (let own = eq-eqb t t refl in rw own refl)) (shut (replies.Thread (record { 0 = t })))

pub notifies_all_now : (c : Condition) (by : ThreadNo) → IsShut (at_entry step) c by ops.NotifyAll (pos 0) (pos 0) → ⊥
notifies_all_now c by shut = open_when (int_eq (pos (length c.waiting)) (pos (length c.waiting))) (all_moved c) ((Decides-int_eq (pos (length c.waiting)) (pos (length c.waiting))).1 refl) (shut (replies.Number (pos (length c.waiting))))

-- who has entered and can't withdraw was notified
pub was_notified : (c : Condition) (by : ThreadNo) → is_in c by.0 ≡ true → IsShut (at_entry step) c by ops.Withdraw (pos 0) (pos 0) → has c.notified by.0 ≡ true
was_notified c by is shut = by_cases (cases_Bool (has c.waiting by.0))
  where
    by_cases : (has c.waiting by.0 ≡ true) ⊎ (has c.waiting by.0 ≡ false) → has c.notified by.0 ≡ true
    by_cases (inl e) = absurd (open_when (has c.waiting by.0) (withdrawn c by.0) e (shut replies.Ok))
    by_cases (inr e) = sym (ap (λ (b : Bool). b || has c.notified by.0) e) ∙ is
