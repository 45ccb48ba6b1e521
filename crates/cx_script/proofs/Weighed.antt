-- With the bodies in order of their threads, what a text sums up over its calls is no more than before.
use Rattle.std.proofs.Common.{◌≡◌, ℕ, ◌+◌, ◌≤◌, Bool, true, false, cond, ◌&&◌, List, [], ◌∷◌, ◌++◌, length, filter, refl, ap, arith}
use Rattle.std.specs.Prelude.{if◌then◌else◌}
use Rattle.std.specs.List.{AllByRecursion, flat_map}
use Rattle.std.specs.Str.{bytes_eq}
use Rattle.cx_text.specs.declared.form.Made.{Made}
use Rattle.cx_text.specs.declared.form.Made.TheVariants as mades
use Rattle.cx_text.specs.Words.{Filled, main_word}
use Rattle.cx_script.specs.Earlier.{is_call, subject}
use Rattle.cx_script.specs.Faults.{counted, taken, takes, count_in}
use Rattle.cx_script.specs.Script.{Declaration, makes_of, version_line}
use Rattle.cx_script.proofs.Shape.{Block, block_lines, body_line, main_line, end_line, main_lines, AreDeclarations}
use Rattle.cx_script.proofs.Blocks.{raw_calls, lookup}
use Rattle.cx_script.proofs.Whole.{IsWhole, Parts, parts_of, raw_main, raw_other}
use Rattle.cx_script.proofs.Canon.{blocks_for, block_of, threads_of, canon}
use Rattle.cx_script.proofs.Again.{IsOwn, threads_own, threads_apart_by_name}
use Rattle.cx_script.proofs.Sum.{total, total_append, over, within, over_within}

-- a weight that only calls have
abbrev OnCalls : (Filled → ℕ) → Type 0
OnCalls w = (m : Filled) → is_call m ≡ false → w m ≡ 0

declared_total : (w : Filled → ℕ) → OnCalls w → (ds : List Filled) → AreDeclarations ds → total w ds ≡ 0
declared_total w h [] are = refl
declared_total w h (d ∷ ds) are = let a : w d ≡ 0 = h d (rw are.0 refl) in let b = declared_total w h ds are.1 in omega arith

block_total : (w : Filled → ℕ) → OnCalls w → (b : Block) → total w (block_lines b) ≡ total w b.calls
block_total w h b =
    let a = total_append w b.calls (end_line ∷ []) in
    let c : w (body_line b.name) ≡ 0 = h (body_line b.name) refl in
    let d : w end_line ≡ 0 = h end_line refl in
    omega arith

blocks_total : (w : Filled → ℕ) → OnCalls w → (bs : List Block) → total w (flat_map block_lines bs) ≡ within w bs
blocks_total w h [] = refl
blocks_total w h (b ∷ bs) =
    let a = total_append w (block_lines b) (flat_map block_lines bs) in
    let c = block_total w h b in
    let d = blocks_total w h bs in
    omega arith

main_total : (w : Filled → ℕ) → OnCalls w → (cs : List Filled) → total w (main_lines cs) ≡ total w cs
main_total w h cs =
    let a = total_append w cs (end_line ∷ []) in
    let c : w main_line ≡ 0 = h main_line refl in
    let d : w end_line ≡ 0 = h end_line refl in
    omega arith

one_block : (w : Filled → ℕ) (m : Made) (b : Block) (bs : List Block) → within w (block_of m b ++ bs) ≤ total w b.calls + within w bs
one_block w mades.Async b bs = omega arith
one_block w _ b bs = omega arith

blocks_within : (w : Filled → ℕ) (ls : List Filled) (p : Parts ls) (ds : List Declaration) → AllByRecursion (IsOwn ls) ds → within w (blocks_for ls ds) ≤ over w p.shape.blocks ds
blocks_within w ls p [] own = omega arith
blocks_within w ls p (d ∷ ds) own =
    let a = one_block w (makes_of d.what) (record { name = d.name; calls = raw_calls ls d.name }) (blocks_for ls ds) in
    let b : total w (raw_calls ls d.name) ≡ total w (lookup p.shape.blocks d.name) = ap (λ (t : List Filled). total w t) (raw_other ls p d.name own.0.other) in
    let c = blocks_within w ls p ds own.1 in
    omega arith

-- no weight is more in order
weighed : (w : Filled → ℕ) → OnCalls w → (ls : List Filled) (h : IsWhole ls) → total w (canon ls (parts_of ls h).shape.declarations) ≤ total w ls
weighed w calls ls h =
    let p = parts_of ls h in
    let sh = p.shape in
    let front : List Filled = version_line ∷ sh.declarations in
    let bs : List Filled = flat_map block_lines sh.blocks in
    let cs : List Filled = flat_map block_lines (blocks_for ls (threads_of ls)) in
    let ms : List Filled = main_lines sh.mains in
    let ns : List Filled = main_lines (raw_calls ls main_word) in
    let is : total w ls ≡ total w (front ++ (bs ++ ms)) = ap (λ (t : List Filled). total w t) sh.is in
    let a : total w (front ++ (bs ++ ms)) ≡ total w front + total w (bs ++ ms) = total_append w front (bs ++ ms) in
    let b : total w (bs ++ ms) ≡ total w bs + total w ms = total_append w bs ms in
    let c : total w bs ≡ within w sh.blocks = blocks_total w calls sh.blocks in
    let d : total w ms ≡ total w sh.mains = main_total w calls sh.mains in
    let e : total w (front ++ (cs ++ ns)) ≡ total w front + total w (cs ++ ns) = total_append w front (cs ++ ns) in
    let f : total w (cs ++ ns) ≡ total w cs + total w ns = total_append w cs ns in
    let g : total w cs ≡ within w (blocks_for ls (threads_of ls)) = blocks_total w calls (blocks_for ls (threads_of ls)) in
    let i : total w ns ≡ total w (raw_calls ls main_word) = main_total w calls (raw_calls ls main_word) in
    let j : total w (raw_calls ls main_word) ≡ total w sh.mains = ap (λ (t : List Filled). total w t) (raw_main ls p) in
    let k = blocks_within w ls p (threads_of ls) (threads_own ls h) in
    let m = over_within w sh.blocks (threads_of ls) (threads_apart_by_name ls h) in
    omega arith

-- ---- counts

-- a line on which a test holds counts
abbrev counts_on : (Filled → Bool) → Filled → ℕ
counts_on test l = cond (test l) 1 0

counted_total : (test : Filled → Bool) (ls : List Filled) → counted test ls ≡ total (counts_on test) ls
counted_total test [] = refl
counted_total test (l ∷ ls) = with_one (test l) (counted_total test ls)
  where
    with_one : (b : Bool) → counted test ls ≡ total (counts_on test) ls → length (cond b (l ∷ filter test ls) (filter test ls)) ≡ cond b 1 0 + total (counts_on test) ls
    with_one true h = omega arith
    with_one false h = omega arith

-- a test that holds on calls alone
abbrev pub OfCalls : (Filled → Bool) → Type 0
OfCalls test = (m : Filled) → is_call m ≡ false → test m ≡ false

-- no more lines that a test holds on
pub counted_in_order : (test : Filled → Bool) → OfCalls test → (ls : List Filled) (h : IsWhole ls) → counted test (canon ls (parts_of ls h).shape.declarations) ≤ counted test ls
counted_in_order test calls ls h =
    let a = counted_total test (canon ls (parts_of ls h).shape.declarations) in
    let b = counted_total test ls in
    let c = weighed (counts_on test) (λ m k. rw (calls m k) refl) ls h in
    omega arith

-- what a line takes from the latch of this name
abbrev takes_from : List ℕ → Filled → ℕ
takes_from name l = if is_call l && bytes_eq (subject l) name then count_in (takes l) else 0

taken_total : (name : List ℕ) (ls : List Filled) → taken name ls ≡ total (takes_from name) ls
taken_total name [] = refl
taken_total name (l ∷ ls) = ap (λ (n : ℕ). takes_from name l + n) (taken_total name ls)

taken_calls : (name : List ℕ) → OnCalls (takes_from name)
taken_calls name m h = rw h refl

-- no more is taken from a latch
pub taken_in_order : (name : List ℕ) (ls : List Filled) (h : IsWhole ls) → taken name (canon ls (parts_of ls h).shape.declarations) ≤ taken name ls
taken_in_order name ls h =
    let a = taken_total name (canon ls (parts_of ls h).shape.declarations) in
    let b = taken_total name ls in
    let c = weighed (takes_from name) (taken_calls name) ls h in
    omega arith

-- what is taken by the first lines is no more than what all take
pub taken_front : (name : List ℕ) (xs ys : List Filled) → taken name xs ≤ taken name (xs ++ ys)
taken_front name xs ys =
    let a = taken_total name xs in
    let b = taken_total name (xs ++ ys) in
    let c = total_append (takes_from name) xs ys in
    omega arith

-- declarations take nothing
pub taken_none : (name : List ℕ) (ds : List Filled) → AreDeclarations ds → taken name (version_line ∷ ds) ≡ 0
taken_none name ds are =
    let a = taken_total name (version_line ∷ ds) in
    let b = declared_total (takes_from name) (taken_calls name) ds are in
    let c : takes_from name version_line ≡ 0 = taken_calls name version_line refl in
    omega arith
