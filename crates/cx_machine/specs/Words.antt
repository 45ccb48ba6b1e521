-- The words of an act, and what the machines share.
use Rattle.std.specs.Prelude.{◌≡◌, ℕ, zero, suc, ◌^◌, ◌==◌, not, ℤ, pos, negsuc, Bool, true, false, List, [], ◌∷◌, filter, Option, Some, None, is_some, nat_lt, ◌<◌, ◌≤◌, length, if◌then◌else◌, option_map}
use Rattle.std.specs.List.{list_any, AllByRecursion, AllByRecursion-prop, insert, remove}
use Rattle.std.specs.Coded.{×_prop, Unit-prop, le_prop}
use Rattle.cx_names.specs.Replies.{int_eq}
use Rattle.cx_names.specs.declared.ThreadNo.{ThreadNo}
use Rattle.cx_names.specs.declared.Outcome.{Outcome}
use Rattle.cx_names.specs.declared.Outcome.TheVariants as outcomes

-- a number of 32 bits
abbrev pub small_of : ℤ → Option ℕ
small_of (pos n) = if nat_lt n (2 ^ 32) then Some n else None
small_of (negsuc n) = None

abbrev pub is_small : ℤ → Bool
is_small n = is_some (small_of n)

abbrev pub fits_i64 : ℤ → Bool
fits_i64 (pos n) = nat_lt n (2 ^ 63)
fits_i64 (negsuc n) = nat_lt n (2 ^ 63)

-- the sum, where it fits
abbrev pub fitting : ℤ → Option ℤ
fitting sum = if fits_i64 sum then Some sum else None

-- the outcome that the two numbers of `set` stand for
abbrev pub outcome_of : Option ℕ → ℤ → Option Outcome
outcome_of (Some zero) v = Some (outcomes.Value v)
outcome_of (Some (suc zero)) e = option_map outcomes.Exception (small_of e)
outcome_of (Some (suc (suc zero))) (pos zero) = Some outcomes.Broken
outcome_of _ _ = None

-- the state then, where the needs are met
abbrev pub when : {S : Type 0} → Bool → S → Option S
when true then_ = Some then_
when false then_ = None

abbrev pub thread_number : Option ThreadNo → Option ℕ
thread_number None = None
thread_number (Some t) = Some t.0

abbrev pub is_thread : Option ℕ → ℕ → Bool
is_thread None by = false
is_thread (Some t) by = t == by

-- what an attempt at a change leaves: the next state, or the same where there is none
abbrev pub Applies : {S : Type 0} → Bool → Option S → S → S → Type 0
Applies true next old new = next ≡ Some new
Applies false next old new = (next ≡ None) × (new ≡ old)

-- a number is among these, and these without it
abbrev pub has : List ℕ → ℕ → Bool
has ns n = list_any (λ m. m == n) ns

abbrev pub without : List ℕ → ℕ → List ℕ
without ns n = filter (λ m. not (m == n)) ns

-- each number is below those after it
abbrev pub IsRising : List ℕ → Type 0
IsRising [] = Unit {0}
IsRising (m ∷ ms) = AllByRecursion (λ n. m < n) ms × IsRising ms

pub IsRising-prop : (ms : List ℕ) → IsProp (IsRising ms)
IsRising-prop [] = Unit-prop
IsRising-prop (m ∷ ms) = ×_prop (AllByRecursion-prop (λ n. m < n) (λ n. le_prop) ms) (IsRising-prop ms)

-- these, in rising order, with one more
abbrev pub inserted : List ℕ → ℕ → List ℕ
inserted [] n = n ∷ []
inserted (m ∷ ms) n = if nat_lt m n then m ∷ inserted ms n else (if m == n then m ∷ ms else n ∷ m ∷ ms)

-- where a number stands in a rising list, and where one that is missing would
pub record IsFoundAt (ms : List ℕ) (n i : ℕ) : Type 0 where
  pub has_it : has ms n ≡ true
  pub below : i < length ms
  pub taken_out : remove ms i ≡ without ms n
  pub in_already : inserted ms n ≡ ms

pub record IsMissingAt (ms : List ℕ) (n i : ℕ) : Type 0 where
  pub lacks_it : has ms n ≡ false
  pub within : i ≤ length ms
  pub put_in : insert ms i n ≡ inserted ms n
  pub out_already : without ms n ≡ ms

-- the number at this place is this one
abbrev pub holds_number : Option ℤ → ℤ → Bool
holds_number None n = false
holds_number (Some m) n = int_eq m n
