-- What the canonical text of a scenario says is that scenario.
use Rattle.std.proofs.Common.{◌≡◌, ℕ, ◌*◌, ◌≤◌, Bool, true, false, cond, List, [], ◌∷◌, ◌++◌, length, map, filter, Option, Some, None, refl, sym, ap, subst, ◌∙◌, arith, length-append}
use Rattle.std.specs.List.{AllByRecursion, flat_map, join_with_byte}
use Rattle.cx_text.specs.declared.form.Form.{Form}
use Rattle.cx_text.specs.declared.form.Form.TheVariants as forms
use Rattle.cx_text.specs.declared.form.Made.{Made}
use Rattle.cx_text.specs.declared.form.Made.TheVariants as mades
use Rattle.cx_text.specs.Lines.{lines_of, line_text}
use Rattle.cx_text.specs.Words.{Filled, Value, AWord, is_name, main_word, scenario_lines, words_for}
use Rattle.cx_text.proofs.Rows.{IsWellFilled}
use Rattle.cx_text.proofs.Lexing.{text_of}
use Rattle.cx_script.specs.declared.declared.Declared.{Declared}
use Rattle.cx_script.specs.Earlier.{subject}
use Rattle.cx_script.specs.Faults.{makes_thread, read_all, said_by}
use Rattle.cx_script.specs.Script.{Declaration, Script, names_of, declared_of, declarations_of, is_thread, makes_of, script_of, lines_for, shown, written, line, version_line}
use Rattle.cx_script.specs.Numbered.{IsScript}
use Rattle.cx_script.proofs.Sound.{AreFine}
use Rattle.cx_script.proofs.Shape.{Block, block_lines, body_line, end_line, main_lines}
use Rattle.cx_script.proofs.Blocks.{fine_split, raw_calls}
use Rattle.cx_script.proofs.Objects.{declaration, declarations_none, declarations_some, makes_some}
use Rattle.cx_script.proofs.ReadBack.{IsCanonical, text_back}
use Rattle.cx_script.proofs.Settled.{AreSettled}
use Rattle.cx_script.proofs.Whole.{IsWhole, from_lines, Parts, parts_of, raw_known}
use Rattle.cx_script.proofs.Canon.{blocks_for, block_of, threads_of, canon, lines_canon, thread_same}
use Rattle.cx_script.proofs.Again.{script_again}
use Rattle.cx_script.proofs.Canonical.{is_canonical}

-- lines that fit their forms
abbrev pub AreFilled : List Filled → Type 0
AreFilled ls = AllByRecursion (IsWellFilled scenario_lines 1) ls

filled_append : (xs ys : List Filled) → AreFilled xs → AreFilled ys → AreFilled (xs ++ ys)
filled_append [] ys h k = k
filled_append (x ∷ xs) ys h k = (h.0, filled_append xs ys h.1 k)

pub fine_filled : (e ls : List Filled) → AreFine 1 e ls → AreFilled ls
fine_filled e [] h = tt
fine_filled e (l ∷ ls) h = (h.0.filled, fine_filled (e ++ l ∷ []) ls h.1)

settled_filled : (ls : List Filled) (me : List ℕ) (cs : List Filled) → AreSettled 1 ls me cs → AreFilled cs
settled_filled ls me [] h = tt
settled_filled ls me (c ∷ cs) h = (h.0.filled, settled_filled ls me cs h.1)

-- ---- names of threads

thread_named : (f : Form) (vs : List Value) → IsWellFilled scenario_lines 1 (line f vs) → makes_thread (line f vs) ≡ true → is_name 1 (subject (line f vs)) ≡ true
thread_named forms.Thread (AWord w ∷ vs) fit h = fit.0
thread_named forms.Thread _ fit h = absurd (assumption fit)
thread_named forms.JThread (AWord w ∷ vs) fit h = fit.0
thread_named forms.JThread _ fit h = absurd (assumption fit)
thread_named forms.AsyncReturn (AWord w ∷ vs) fit h = fit.0
thread_named forms.AsyncReturn _ fit h = absurd (assumption fit)
thread_named forms.AsyncThrow (AWord w ∷ vs) fit h = fit.0
thread_named forms.AsyncThrow _ fit h = absurd (assumption fit)
thread_named _ vs fit h = absurd cc

-- its name is a name
abbrev pub IsNamed : Declaration → Type 0
IsNamed d = is_name 1 d.name ≡ true

kept_named : (b : Bool) (d : Declaration) (ds : List Declaration) → (b ≡ true → IsNamed d) → AllByRecursion IsNamed ds → AllByRecursion IsNamed (cond b (d ∷ ds) ds)
kept_named true d ds h k = (h refl, k)
kept_named false d ds h k = k

named_step : (ls rest : List Filled) (l : Filled) (o : Option Declared) → declared_of (names_of ls) l l.form ≡ o → IsWellFilled scenario_lines 1 l
    → AllByRecursion IsNamed (filter is_thread (declarations_of (names_of ls) rest)) → AllByRecursion IsNamed (filter is_thread (declarations_of (names_of ls) (l ∷ rest)))
named_step ls rest l None says fit later = subst (λ (ds : List Declaration). AllByRecursion IsNamed (filter is_thread ds)) (sym (declarations_none (names_of ls) l rest says)) later
named_step ls rest l (Some what) says fit later =
    subst (λ (ds : List Declaration). AllByRecursion IsNamed (filter is_thread ds)) (sym (declarations_some (names_of ls) l rest what says))
    (kept_named (is_thread (declaration l what)) (declaration l what) (filter is_thread (declarations_of (names_of ls) rest)) (λ t. thread_named l.form l.values fit (sym (thread_same l what (makes_some (names_of ls) l what says)) ∙ t)) later)

pub all_named : (ls rest : List Filled) → AreFilled rest → AllByRecursion IsNamed (filter is_thread (declarations_of (names_of ls) rest))
all_named ls [] h = tt
all_named ls (l ∷ rest) h = named_step ls rest l (declared_of (names_of ls) l l.form) refl h.0 (all_named ls rest h.1)

-- ---- the lines of a scenario fit their forms

pub body_filled : (n : List ℕ) → is_name 1 n ≡ true → IsWellFilled scenario_lines 1 (body_line n)
body_filled n h = (rw h refl, tt)

block_filled : (ls : List Filled) (p : Parts ls) (d : Declaration) → IsNamed d → AreFilled (block_lines (record { name = d.name; calls = raw_calls ls d.name }))
block_filled ls p d h = (body_filled d.name h, filled_append (raw_calls ls d.name) (end_line ∷ []) (settled_filled ls d.name (raw_calls ls d.name) (raw_known ls p d.name).settled) (tt, tt))

blocks_filled : (ls : List Filled) (p : Parts ls) (ds : List Declaration) → AllByRecursion IsNamed ds → AreFilled (flat_map block_lines (blocks_for ls ds))
blocks_filled ls p [] h = tt
blocks_filled ls p (d ∷ ds) h = more (makes_of d.what) (record { name = d.name; calls = raw_calls ls d.name }) (blocks_for ls ds) (block_filled ls p d h.0) (blocks_filled ls p ds h.1)
  where
    more : (m : Made) (b : Block) (bs : List Block) → AreFilled (block_lines b) → AreFilled (flat_map block_lines bs) → AreFilled (flat_map block_lines (block_of m b ++ bs))
    more mades.Async b bs h k = k
    more _ b bs h k = filled_append (block_lines b) (flat_map block_lines bs) h k

main_filled : (ls : List Filled) (p : Parts ls) → AreFilled (main_lines (raw_calls ls main_word))
main_filled ls p = (tt, filled_append (raw_calls ls main_word) (end_line ∷ []) (settled_filled ls main_word (raw_calls ls main_word) (raw_known ls p main_word).settled) (tt, tt))

canon_filled : (ls : List Filled) (w : IsWhole ls) → AreFilled (canon ls (parts_of ls w).shape.declarations)
canon_filled ls w =
    let p = parts_of ls w in
    let fine : AreFine 1 [] ((version_line ∷ p.shape.declarations) ++ _) = subst (λ (t : List Filled). AreFine 1 [] t) p.shape.is w.fine in
    let front = (fine_split 1 [] (version_line ∷ p.shape.declarations) _ fine).0 in
    filled_append (version_line ∷ p.shape.declarations) _ (fine_filled [] (version_line ∷ p.shape.declarations) front)
    (filled_append (flat_map block_lines (blocks_for ls (threads_of ls))) (main_lines (raw_calls ls main_word)) (blocks_filled ls p (threads_of ls) (all_named ls ls (fine_filled [] ls w.fine))) (main_filled ls p))

pub lines_filled : (ls : List Filled) (w : IsWhole ls) → AreFilled (lines_for (script_of 1 ls))
lines_filled ls w = subst (λ (t : List Filled). AreFilled t) (sym (lines_canon ls w)) (canon_filled ls w)

pub canonical_all : (ls : List Filled) → AreFilled ls → AllByRecursion (IsCanonical 1) ls
canonical_all [] h = tt
canonical_all (l ∷ ls) h = ((is_canonical l h.0).0, canonical_all ls h.1)

-- ---- the text

pub shown_text : (ls : List Filled) → flat_map shown ls ≡ text_of (map words_for ls)
unfolding shown
shown_text [] = refl
shown_text (l ∷ ls) = ap (λ (t : List ℕ). line_text (words_for l) ++ t) (shown_text ls)

pub written_text : (s : Script) → written s ≡ text_of (map words_for (lines_for s))
unfolding written
written_text s = shown_text (lines_for s)

-- each line is written in at most 121 bytes, its line feed among them
pub short_text : (ls : List Filled) → AreFilled ls → length (text_of (map words_for ls)) ≤ 121 * length ls
short_text [] h = omega arith
short_text (l ∷ ls) h =
    let a = (is_canonical l h.0).1 in
    let b = short_text ls h.1 in
    let c = length-append (line_text (words_for l)) (text_of (map words_for ls)) in
    let d = length-append (join_with_byte 32 (words_for l)) (10 ∷ []) in
    omega arith

-- what the canonical text says, line by line, where it is within the limit
said_again : (limit : ℕ) (ls : List Filled) (w : IsWhole ls) → length (written (script_of 1 ls)) ≤ limit → said_by (read_all (lines_of limit (written (script_of 1 ls)))) ≡ lines_for (script_of 1 ls)
said_again limit ls w short =
    let s = script_of 1 ls in
    let t = written_text s in
    ap (λ (x : List ℕ). said_by (read_all (lines_of limit x))) t ∙ text_back 1 limit (lines_for s) (canonical_all (lines_for s) (lines_filled ls w)) (rw t at short)

-- it says the scenario again
pub written_says : (limit : ℕ) (s : Script) → IsScript s → length (written s) ≤ limit → script_of 1 (said_by (read_all (lines_of limit (written s)))) ≡ s
written_says limit s h short =
    let f = from_lines h.limit h.text s h.means in
    let k : length (written (script_of 1 f.ls)) ≤ limit = subst (λ (x : Script). length (written x) ≤ limit) f.is short in
    ap (λ (x : Script). script_of 1 (said_by (read_all (lines_of limit (written x))))) f.is
    ∙ ap (script_of 1) (said_again limit f.ls f.whole k)
    ∙ script_again f.ls f.whole
    ∙ sym f.is
