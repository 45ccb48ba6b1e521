-- With the bodies in order of their threads there are no more calls than before, and the text is short.
use Rattle.std.proofs.Common.{◌≡◌, ℕ, suc, ◌+◌, ◌*◌, ◌<◌, ◌≤◌, inl, inr, Bool, true, false, cond, ◌||◌, List, [], ◌∷◌, ◌++◌, length, map, filter, refl, sym, ap, subst, ◌∙◌, arith, length-append}
use Rattle.std.specs.List.{AllByRecursion, flat_map}
use Rattle.std.specs.Str.{bytes_eq}
use Rattle.std.proofs.lemmas.Bool.{cases_Bool}
use Rattle.std.proofs.lemmas.Slice.Eq.{bytes_eq-Decides}
use Rattle.cx_text.specs.declared.form.Form.{Form}
use Rattle.cx_text.specs.declared.form.Form.TheVariants as forms
use Rattle.cx_text.specs.declared.form.Made.{Made}
use Rattle.cx_text.specs.declared.form.Made.TheVariants as mades
use Rattle.cx_text.specs.Words.{Filled, Value, main_word, words_for}
use Rattle.cx_text.proofs.Lexing.{text_of}
use Rattle.cx_script.specs.Earlier.{ADeclaration, part_of, is_call, subject}
use Rattle.cx_script.specs.Faults.{counted, makes_thread, makes_object, makes_callback}
use Rattle.cx_script.specs.Script.{Declaration, Script, line, makes_of, script_of, lines_for, version_line, written}
use Rattle.cx_script.specs.Numbered.{IsScript}
use Rattle.cx_script.proofs.Calls.{AreApart}
use Rattle.cx_script.proofs.Shape.{Block, block_lines, end_line, main_lines, AreCalls, AreDeclarations}
use Rattle.cx_script.proofs.Blocks.{raw_calls, lookup, filter_calls, AllCalls}
use Rattle.cx_script.proofs.Distinct.{few_threads, few_objects, few_callbacks, few_calls}
use Rattle.cx_script.proofs.Whole.{IsWhole, from_lines, Parts, parts_of, raw_main, raw_other}
use Rattle.cx_script.proofs.Canon.{blocks_for, block_of, threads_of, canon, lines_canon}
use Rattle.cx_script.proofs.Again.{apart_all, IsOwn, threads_own, threads_named, threads_apart_by_name}
use Rattle.cx_script.proofs.Written.{lines_filled, short_text, written_text}

-- ---- sums over lines

abbrev pub total : (Filled → ℕ) → List Filled → ℕ
total w [] = 0
total w (l ∷ ls) = w l + total w ls

pub total_append : (w : Filled → ℕ) (xs ys : List Filled) → total w (xs ++ ys) ≡ total w xs + total w ys
total_append w [] ys = omega arith
total_append w (x ∷ xs) ys = let a = total_append w xs ys in omega arith

-- over the calls of these threads, each looked up among bodies
abbrev pub over : (Filled → ℕ) → List Block → List Declaration → ℕ
over w bs [] = 0
over w bs (d ∷ ds) = total w (lookup bs d.name) + over w bs ds

-- over the calls of all bodies
abbrev pub within : (Filled → ℕ) → List Block → ℕ
within w [] = 0
within w (b ∷ bs) = total w b.calls + within w bs

over_none : (w : Filled → ℕ) (ds : List Declaration) → over w [] ds ≡ 0
over_none w [] = refl
over_none w (d ∷ ds) = let a = over_none w ds in omega arith

over_others : (w : Filled → ℕ) (b : Block) (bs : List Block) (ds : List Declaration) → AllByRecursion (λ (d : Declaration). bytes_eq b.name d.name ≡ false) ds → over w (b ∷ bs) ds ≡ over w bs ds
over_others w b bs [] h = refl
over_others w b bs (d ∷ ds) h = rw h.0 (ap (λ (n : ℕ). total w (lookup bs d.name) + n) (over_others w b bs ds h.1))

over_more : (w : Filled → ℕ) (b : Block) (bs : List Block) (ds : List Declaration) → AreApart (map (λ (x : Declaration). x.name) ds) → over w (b ∷ bs) ds ≤ total w b.calls + over w bs ds
over_more w b bs [] h = omega arith
over_more w b bs (d ∷ ds) h = elim (cases_Bool (bytes_eq b.name d.name)) [
  | inl e ↦
      let q : b.name ≡ d.name = (bytes_eq-Decides b.name d.name).0 e in
      let others : AllByRecursion (λ (x : Declaration). bytes_eq b.name x.name ≡ false) ds = subst (λ n. AllByRecursion (λ (x : Declaration). bytes_eq n x.name ≡ false) ds) (sym q) (apart_all d.name ds h.0) in
      let here : total w (lookup (b ∷ bs) d.name) ≡ total w b.calls = rw e refl in
      let rest = over_others w b bs ds others in
      omega arith
  | inr e ↦
      let here : total w (lookup (b ∷ bs) d.name) ≡ total w (lookup bs d.name) = rw e refl in
      let rest = over_more w b bs ds h.2 in
      omega arith
]

-- each body is looked up at most once
pub over_within : (w : Filled → ℕ) (bs : List Block) (ds : List Declaration) → AreApart (map (λ (x : Declaration). x.name) ds) → over w bs ds ≤ within w bs
over_within w [] ds h = let a = over_none w ds in omega arith
over_within w (b ∷ bs) ds h = let a = over_more w b bs ds h in let c = over_within w bs ds h in omega arith

-- ---- how many lines

abbrev one : Filled → ℕ
one l = 1

total_one : (ls : List Filled) → total one ls ≡ length ls
total_one [] = refl
total_one (l ∷ ls) = let a = total_one ls in omega arith

block_length : (m : Made) (b : Block) (bs : List Block) → length (flat_map block_lines (block_of m b ++ bs)) ≤ 2 + length b.calls + length (flat_map block_lines bs)
block_length mades.Async b bs = omega arith
block_length _ b bs =
    let a = length-append (block_lines b) (flat_map block_lines bs) in
    let c = length-append b.calls (end_line ∷ []) in
    omega arith

blocks_length : (ls : List Filled) (p : Parts ls) (ds : List Declaration) → AllByRecursion (IsOwn ls) ds → length (flat_map block_lines (blocks_for ls ds)) ≤ 2 * length ds + over one p.shape.blocks ds
blocks_length ls p [] h = omega arith
blocks_length ls p (d ∷ ds) h =
    let a = block_length (makes_of d.what) (record { name = d.name; calls = raw_calls ls d.name }) (blocks_for ls ds) in
    let b = blocks_length ls p ds h.1 in
    let c : length (raw_calls ls d.name) ≡ length (lookup p.shape.blocks d.name) = ap (λ (t : List Filled). length t) (raw_other ls p d.name h.0.other) in
    let e = total_one (lookup p.shape.blocks d.name) in
    omega arith

pub counted_append : (test : Filled → Bool) (xs ys : List Filled) → counted test (xs ++ ys) ≡ counted test xs + counted test ys
counted_append test [] ys = omega arith
counted_append test (x ∷ xs) ys = kept (test x) (counted_append test xs ys)
  where
    kept : (b : Bool) → counted test (xs ++ ys) ≡ counted test xs + counted test ys → length (cond b (x ∷ filter test (xs ++ ys)) (filter test (xs ++ ys))) ≡ length (cond b (x ∷ filter test xs) (filter test xs)) + counted test ys
    kept true h = omega arith
    kept false h = h

calls_counted : (cs : List Filled) → AreCalls cs → counted is_call cs ≡ length cs
calls_counted cs h = ap (λ (t : List Filled). length t) (filter_calls cs h)

within_counted : (bs : List Block) → AllCalls bs → within one bs ≤ counted is_call (flat_map block_lines bs)
within_counted [] h = omega arith
within_counted (b ∷ bs) h =
    let a = counted_append is_call (block_lines b) (flat_map block_lines bs) in
    let c = counted_append is_call b.calls (end_line ∷ []) in
    let d = calls_counted b.calls h.0 in
    let e = total_one b.calls in
    let f = within_counted bs h.1 in
    omega arith

declared_counted : (ds : List Filled) → AreDeclarations ds → length ds ≤ counted makes_thread ds + counted makes_object ds + counted makes_callback ds
declared_counted [] h = omega arith
declared_counted (d ∷ ds) h = one_counted (makes_thread d) (makes_object d) (makes_callback d) (some_made d.form d.values h.0) (declared_counted ds h.1)
  where
    some_made : (f : Form) (vs : List Value) → part_of f ≡ ADeclaration → (makes_thread (line f vs) || makes_object (line f vs) || makes_callback (line f vs)) ≡ true
    some_made forms.Thread vs e = refl
    some_made _ vs e = cc

    one_counted : (a b c : Bool) → (a || b || c) ≡ true → length ds ≤ counted makes_thread ds + counted makes_object ds + counted makes_callback ds
        → suc (length ds) ≤ length (cond a (d ∷ filter makes_thread ds) (filter makes_thread ds)) + length (cond b (d ∷ filter makes_object ds) (filter makes_object ds)) + length (cond c (d ∷ filter makes_callback ds) (filter makes_callback ds))
    one_counted true true true e h = omega arith
    one_counted true true false e h = omega arith
    one_counted true false true e h = omega arith
    one_counted true false false e h = omega arith
    one_counted false true true e h = omega arith
    one_counted false true false e h = omega arith
    one_counted false false true e h = omega arith
    one_counted false false false e h = absurd cc

names_length : (ds : List Declaration) → length (map (λ (x : Declaration). x.name) ds) ≡ length ds
names_length [] = refl
names_length (d ∷ ds) = ap suc (names_length ds)

subjects_length : (ls : List Filled) → length (map subject ls) ≡ length ls
subjects_length [] = refl
subjects_length (l ∷ ls) = ap suc (subjects_length ls)

-- how many lines a scenario is written in
lines_few : (ls : List Filled) (w : IsWhole ls) → length (lines_for (script_of 1 ls)) ≤ 65920
lines_few ls w =
    let p = parts_of ls w in
    let sh = p.shape in
    let bs : List Filled = flat_map block_lines sh.blocks in
    let ms : List Filled = main_lines sh.mains in
    let total_lines : length (lines_for (script_of 1 ls)) ≡ length (canon ls sh.declarations) = ap (λ (t : List Filled). length t) (lines_canon ls w) in
    let a = length-append (version_line ∷ sh.declarations) (flat_map block_lines (blocks_for ls (threads_of ls)) ++ main_lines (raw_calls ls main_word)) in
    let b = length-append (flat_map block_lines (blocks_for ls (threads_of ls))) (main_lines (raw_calls ls main_word)) in
    let c = length-append (raw_calls ls main_word) (end_line ∷ []) in
    let d : length (raw_calls ls main_word) ≡ length sh.mains = ap (λ (t : List Filled). length t) (raw_main ls p) in
    let e = blocks_length ls p (threads_of ls) (threads_own ls w) in
    let f = over_within one sh.blocks (threads_of ls) (threads_apart_by_name ls w) in
    let g = within_counted sh.blocks sh.calls in
    let h = calls_counted sh.mains sh.main_calls in
    let split : (test : Filled → Bool) → counted test ls ≡ counted test (version_line ∷ sh.declarations) + (counted test bs + counted test ms) = λ test.
    ap (λ (t : List Filled). counted test t) sh.is ∙ counted_append test (version_line ∷ sh.declarations) (bs ++ ms) ∙ ap (λ n. counted test (version_line ∷ sh.declarations) + n) (counted_append test bs ms) in
    let i = split is_call in
    let j : counted is_call ms ≡ counted is_call (sh.mains ++ end_line ∷ []) = refl in
    let k = counted_append is_call sh.mains (end_line ∷ []) in
    let few = few_calls 1 ls w.fine in
    let t1 = split makes_thread in
    let t2 = split makes_object in
    let t3 = split makes_callback in
    let l1 = few_threads 1 ls w.fine in
    let l2 = few_objects 1 ls w.fine in
    let l3 = few_callbacks 1 ls w.fine in
    let m = declared_counted sh.declarations sh.are in
    let n1 = names_length (threads_of ls) in
    let n2 : length (map (λ (x : Declaration). x.name) (threads_of ls)) ≡ length (map subject (filter makes_thread ls)) = ap (λ (t : List (List ℕ)). length t) (threads_named ls) in
    let n3 = subjects_length (filter makes_thread ls) in
    omega arith

-- the canonical text of a scenario is shorter than its limit
pub written_short : (s : Script) → IsScript s → length (written s) < 8388608
written_short s h =
    let f = from_lines h.limit h.text s h.means in
    let few = lines_few f.ls f.whole in
    let short = short_text (lines_for (script_of 1 f.ls)) (lines_filled f.ls f.whole) in
    let t : length (written s) ≡ length (text_of (map words_for (lines_for (script_of 1 f.ls)))) = ap (λ (x : Script). length (written x)) f.is ∙ ap (λ (x : List ℕ). length x) (written_text (script_of 1 f.ls)) in
    omega arith
