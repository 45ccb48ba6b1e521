-- The phase of a thread's last arrival, in a history that goes on.
use Rattle.std.proofs.Common.{◌≡◌, ◌≢◌, ◌∙◌, ℕ, ℤ, List, [], ◌∷◌, ◌++◌, Option, Some, None, Bool, nat_eq, if◌then◌else◌, inl, inr, refl, ap, eq-eqb, ne_eqb}
use Rattle.cx_names.specs.declared.Reply.TheVariants as replies
use Rattle.cx_machine.specs.declared.kind.Entry.{Entry}
use Rattle.cx_machine.specs.declared.kind.Op.{Op}
use Rattle.cx_machine.proofs.Owners.{AreOthers}
use Rattle.cx_barrier.specs.Barriers.{IsArrival}
use Rattle.cx_barrier.specs.Phases.{phase_named, later_or, last_phase}

-- what an entry tells of this thread
abbrev told : ℕ → Entry → Option ℤ
told n e = if nat_eq e.by.0 n then phase_named e.op e.reply else None

told_other : (n : ℕ) (e : Entry) → e.by.0 ≢ n → told n e ≡ None
told_other n e ne = ap (λ (b : Bool). if b then phase_named e.op e.reply else None) (ne_eqb e.by.0 n ne)

told_own : (n : ℕ) (e : Entry) → e.by.0 ≡ n → told n e ≡ phase_named e.op e.reply
told_own n e is = ap (λ (b : Bool). if b then phase_named e.op e.reply else None) (eq-eqb e.by.0 n is)

-- where others alone changed it, there is no arrival of the thread
pub none_by_others : (n : ℕ) (es : List Entry) → AreOthers n es → last_phase n es ≡ None
none_by_others n [] o = refl
none_by_others n (e ∷ es) o = (λ i. later_or (none_by_others n es o.1 i) (told n e)) ∙ told_other n e o.0

later_none : (x y : Option ℤ) → x ≡ None → later_or x y ≡ y
later_none x y e = ap (λ (z : Option ℤ). later_or z y) e

-- and what others add alters nothing
pub last_on : (n : ℕ) (xs ys : List Entry) → AreOthers n ys → last_phase n (xs ++ ys) ≡ last_phase n xs
last_on n [] ys o = none_by_others n ys o
last_on n (x ∷ xs) ys o = ap (λ (z : Option ℤ). later_or z (told n x)) (last_on n xs ys o)

-- its own arrival is then the last one
pub last_own : (n : ℕ) (xs : List Entry) (e : Entry) (p : ℤ) → e.by.0 ≡ n → phase_named e.op e.reply ≡ Some p → last_phase n (xs ++ e ∷ []) ≡ Some p
last_own n [] e p is named = told_own n e is ∙ named
last_own n (x ∷ xs) e p is named = ap (λ (z : Option ℤ). later_or z (told n x)) (last_own n xs e p is named)

-- and another change of its own is none
pub last_kept : (n : ℕ) (xs : List Entry) (e : Entry) → e.by.0 ≡ n → phase_named e.op e.reply ≡ None → last_phase n (xs ++ e ∷ []) ≡ last_phase n xs
last_kept n [] e is named = told_own n e is ∙ named
last_kept n (x ∷ xs) e is named = ap (λ (z : Option ℤ). later_or z (told n x)) (last_kept n xs e is named)

-- the reply to an arrival names its phase
pub arrival_names : (op : Op) (a k : ℤ) → IsArrival op a → phase_named op (replies.Number k) ≡ Some k
arrival_names op a k (inl (is, n)) = ap (λ (o : Op). phase_named o (replies.Number k)) is
arrival_names op a k (inr (is, zero_)) = ap (λ (o : Op). phase_named o (replies.Number k)) is
