-- How the rises of a count add up, for callers that make several calls.
use Rattle.std.proofs.Common.{ℕ, ◌+◌, ◌≤◌, arith, inl, inr}
use Rattle.cx_io.specs.Edge.{Rose}
use Rattle.cx_io.specs.Spawning.{Raised, RaisedAtLeast}

pub raised_none : (n : ℕ) → Raised n n 0
raised_none n = inl (omega arith)

pub raised_more : (a b c m n : ℕ) → Raised a b m → Raised b c n → Raised a c (m + n)
raised_more a b c m n (inl x) (inl y) = inl (omega arith)
raised_more a b c m n (inl x) (inr y) = inr (omega (arith, y.0, y.1), omega (arith, y.0, y.1))
raised_more a b c m n (inr x) (inl y) = inr (omega (arith, x.0, x.1), omega (arith, x.0, x.1))
raised_more a b c m n (inr x) (inr y) = inr (y.0, omega (arith, x.0, x.1, y.1))

pub at_least_none : (n : ℕ) → RaisedAtLeast n n 0
at_least_none n = inl (omega arith)

pub at_least_later : (a b c m : ℕ) → RaisedAtLeast a b m → b ≤ c → RaisedAtLeast a c m
at_least_later a b c m (inl x) le = inl (omega arith)
at_least_later a b c m (inr x) le = inr (omega arith)

-- one more fault
pub at_least_one_more : (a b c m : ℕ) → RaisedAtLeast a b m → Rose b c → RaisedAtLeast a c (m + 1)
at_least_one_more a b c m (inl x) (inl y) = inl (omega arith)
at_least_one_more a b c m (inr x) (inl y) = inr (omega arith)
at_least_one_more a b c m r (inr y) = inr (omega arith)
