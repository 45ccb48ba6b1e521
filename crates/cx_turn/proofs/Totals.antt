-- Sums over the seats' views.
use Rattle.std.proofs.Common.{◌≡◌, ℕ, zero, suc, ◌+◌, ◌≤◌, List, [], ◌∷◌, ◌++◌, sym, ap, arith}
use mathlib.Core.Option.{some, some-injective, some-ne-none}
use lib.ListN.{get_elem?, set}
use Rattle.cx_turn.specs.Turning.{total}

module _ {A : Type 0} (f : A → ℕ) where
  pub total_set : (xs : List A) (j : ℕ) (v w : A) → get_elem? xs j ≡ some v → total f (set xs j w) + f v ≡ total f xs + f w
  total_set [] j v w at = absurd (some-ne-none v (sym at))
  total_set (x ∷ xs) zero v w at = let e : f x ≡ f v = ap f (some-injective x v at) in omega arith
  total_set (x ∷ xs) (suc j) v w at = let r = total_set xs j v w at in omega arith

  pub total_at : (xs : List A) (j : ℕ) (v : A) → get_elem? xs j ≡ some v → f v ≤ total f xs
  total_at [] j v at = absurd (some-ne-none v (sym at))
  total_at (x ∷ xs) zero v at = let e : f x ≡ f v = ap f (some-injective x v at) in omega arith
  total_at (x ∷ xs) (suc j) v at = let r = total_at xs j v at in omega arith

  pub total_snoc : (xs : List A) (w : A) → total f (xs ++ w ∷ []) ≡ total f xs + f w
  total_snoc [] w = omega arith
  total_snoc (x ∷ xs) w = let r = total_snoc xs w in omega arith

  -- a seat whose part doesn't grow
  pub total_stays : (xs : List A) (me : ℕ) (v w : A) → get_elem? xs me ≡ some v → f w ≤ f v → total f (set xs me w) ≤ total f xs
  total_stays xs me v w at le = let t = total_set xs me v w at in omega arith

  -- a seat whose part is cut in two
  pub total_split : (xs : List A) (me : ℕ) (v w u : A) → get_elem? xs me ≡ some v → f w + f u ≤ f v → total f (set xs me w ++ u ∷ []) ≤ total f xs
  total_split xs me v w u at le = let a = total_snoc (set xs me w) u in let b = total_set xs me v w at in omega arith

  -- a seat that takes in another's part
  pub total_join : (xs : List A) (me other : ℕ) (v w b u : A) → get_elem? xs me ≡ some v → get_elem? (set xs me b) other ≡ some w → f b + f u ≤ f v + f w → total f (set (set xs me b) other u) ≤ total f xs
  total_join xs me other v w b u at there le = let x = total_set xs me v b at in let y = total_set (set xs me b) other w u there in omega arith
