-- What the calls of all threads are together is no more than what the lines of their text are.
use Rattle.std.proofs.Common.{◌≡◌, ℕ, zero, suc, ◌+◌, ◌≤◌, List, [], ◌∷◌, ◌++◌, length, map, filter, Some, slice_get, refl, sym, ap, ◌∙◌, arith}
use Rattle.std.specs.List.{AllByRecursion, flat_map}
use Rattle.cx_text.specs.Words.{Filled, main_word}
use Rattle.cx_script.specs.Earlier.{subject}
use Rattle.cx_script.specs.Faults.{makes_thread}
use Rattle.cx_script.specs.Script.{Declaration, names_of, version_line}
use Rattle.cx_script.proofs.Shape.{Block, block_lines, main_lines, end_line}
use Rattle.cx_script.proofs.Blocks.{raw_calls, lookup}
use Rattle.cx_script.proofs.Again.{IsOwn, threads_own, threads_named, threads_apart_by_name}
use Rattle.cx_script.proofs.Canon.{threads_of}
use Rattle.cx_script.proofs.Sum.{total, total_append, over, within, over_within}
use Rattle.cx_script.proofs.Whole.{IsWhole, Parts, raw_main, raw_other}

-- ---- sums over places

-- the sum of what stands at the first n places
abbrev pub sum_below : (ℕ → ℕ) → ℕ → ℕ
sum_below f zero = 0
sum_below f (suc n) = sum_below f n + f n

abbrev pub sum_of : {X : Type 0} → (X → ℕ) → List X → ℕ
sum_of g [] = 0
sum_of g (x ∷ xs) = g x + sum_of g xs

first_out : (f : ℕ → ℕ) (n : ℕ) → sum_below f (suc n) ≡ f 0 + sum_below (λ k. f (suc k)) n
first_out f zero = omega arith
first_out f (suc n) = let rest = first_out f n in omega (arith, rest)

pub sum_at_most : {X : Type 0} (g : X → ℕ) (f : ℕ → ℕ) (xs : List X) → ((i : ℕ) (x : X) → slice_get xs i ≡ Some x → f i ≤ g x) → sum_below f (length xs) ≤ sum_of g xs
sum_at_most g f [] h = omega arith
sum_at_most g f (x ∷ xs) h =
    let first = first_out f (length xs) in
    let here = h 0 x refl in
    let rest = sum_at_most g (λ k. f (suc k)) xs (λ i y e. h (suc i) y e) in
    omega (arith, first, here, rest)

-- ---- sums over lines

module _ (w : Filled → ℕ) where
  total_first : (xs ys : List Filled) → total w xs ≤ total w (xs ++ ys)
  total_first xs ys = let a = total_append w xs ys in omega (arith, a)

  total_last : (xs ys : List Filled) → total w ys ≤ total w (xs ++ ys)
  total_last xs ys = let a = total_append w xs ys in omega (arith, a)

  in_block : (b : Block) → total w b.calls ≤ total w (block_lines b)
  in_block b = let a = total_first b.calls (end_line ∷ []) in omega (arith, a)

  within_lines : (bs : List Block) → within w bs ≤ total w (flat_map block_lines bs)
  within_lines [] = omega arith
  within_lines (b ∷ bs) =
      let a = total_append w (block_lines b) (flat_map block_lines bs) in
      let c = in_block b in
      let d = within_lines bs in
      omega (arith, a, c, d)

  in_main : (mains : List Filled) → total w mains ≤ total w (main_lines mains)
  in_main mains = let a = total_first mains (end_line ∷ []) in omega (arith, a)

  -- bodies and main's body together
  parts_total : (ls : List Filled) (p : Parts ls) → total w p.shape.mains + within w p.shape.blocks ≤ total w ls
  parts_total ls p =
      let bs : List Filled = flat_map block_lines p.shape.blocks in
      let ms : List Filled = main_lines p.shape.mains in
      let whole : total w ls ≡ total w (version_line ∷ p.shape.declarations ++ (bs ++ ms)) = ap (λ (t : List Filled). total w t) p.shape.is in
      let a = total_append w (version_line ∷ p.shape.declarations) (bs ++ ms) in
      let b = total_append w bs ms in
      let c = within_lines p.shape.blocks in
      let d = in_main p.shape.mains in
      omega (arith, whole, a, b, c, d)

  pub main_total : (ls : List Filled) (p : Parts ls) → total w (raw_calls ls main_word) ≤ total w ls
  main_total ls p =
      let a = parts_total ls p in
      let b : total w (raw_calls ls main_word) ≡ total w p.shape.mains = ap (λ (t : List Filled). total w t) (raw_main ls p) in
      omega (arith, a, b)

  over_names : (ls : List Filled) (p : Parts ls) (ds : List Declaration) → AllByRecursion (IsOwn ls) ds → sum_of (λ (n : List ℕ). total w (raw_calls ls n)) (map (λ (x : Declaration). x.name) ds) ≡ over w p.shape.blocks ds
  over_names ls p [] h = refl
  over_names ls p (d ∷ ds) h =
      let a : total w (raw_calls ls d.name) ≡ total w (lookup p.shape.blocks d.name) = ap (λ (t : List Filled). total w t) (raw_other ls p d.name h.0.other) in
      let b = over_names ls p ds h.1 in
      omega (arith, a, b)

  -- the calls of all threads
  pub threads_total : (ls : List Filled) → IsWhole ls → (p : Parts ls) → sum_of (λ (n : List ℕ). total w (raw_calls ls n)) (names_of ls).threads ≤ total w ls
  threads_total ls whole p =
      let named : sum_of (λ (n : List ℕ). total w (raw_calls ls n)) (map subject (filter makes_thread ls)) ≡ over w p.shape.blocks (threads_of ls) = ap (λ (ns : List (List ℕ)). sum_of (λ (n : List ℕ). total w (raw_calls ls n)) ns) (sym (threads_named ls)) ∙ over_names ls p (threads_of ls) (threads_own ls whole) in
      let once = over_within w p.shape.blocks (threads_of ls) (threads_apart_by_name ls whole) in
      let main : total w (raw_calls ls main_word) ≡ total w p.shape.mains = ap (λ (t : List Filled). total w t) (raw_main ls p) in
      let all = parts_total ls p in
      omega (arith, named, once, main, all)
