-- The lines of a scenario are the lines that said it, with the bodies in order of their threads.
use Rattle.std.proofs.Common.{◌≡◌, ℕ, inl, inr, Bool, true, false, cond, List, [], ◌∷◌, ◌++◌, map, filter, Option, Some, None, refl, sym, ap, subst, ◌∙◌, append_assoc}
use Rattle.std.specs.Prelude.{find}
use Rattle.std.specs.List.{AllByRecursion, flat_map}
use Rattle.cx_scene.specs.declared.call.Call.{Call}
use Rattle.cx_text.specs.declared.form.Form.{Form}
use Rattle.cx_text.specs.declared.form.Form.TheVariants as forms
use Rattle.cx_text.specs.declared.form.Made.{Made}
use Rattle.cx_text.specs.declared.form.Made.TheVariants as mades
use Rattle.cx_text.specs.Table.{makes}
use Rattle.cx_text.specs.Words.{Filled, main_word, fields_in}
use Rattle.cx_script.specs.declared.declared.Declared.{Declared}
use Rattle.cx_script.specs.declared.declared.Declared.TheVariants as declared
use Rattle.cx_script.specs.Earlier.{declares, made_of, subject, this_thread}
use Rattle.cx_script.specs.Faults.{makes_thread, makes_object, makes_callback}
use Rattle.cx_script.specs.Script.{Names, Declaration, names_of, names_in, declared_of, declarations_of, calls_of, script_of, makes_of, line_of_call, line_of_declaration, is_thread, is_object, is_callback, version_line, body_lines, bodies_from, lines_with, lines_for}
use Rattle.cx_script.proofs.Sound.{AreFine}
use Rattle.cx_script.proofs.Shape.{Block, block_lines, body_line, main_line, end_line, main_lines, AreDeclarations}
use Rattle.cx_script.proofs.Blocks.{raw_calls, fine_split}
use Rattle.cx_script.proofs.Agree.{DeclareNone}
use Rattle.cx_script.proofs.Found.{all_found, made_cases}
use Rattle.cx_script.proofs.Forth.{DeclaredForth, declared_forth}
use Rattle.cx_script.proofs.Objects.{declaration, declarations_none, declarations_some, makes_none, makes_some}
use Rattle.cx_script.proofs.Settled.{AreSettled, none_append}
use Rattle.cx_script.proofs.Scenes.{settled_forth, calls_by, calls_cons}
use Rattle.cx_script.proofs.Whole.{IsWhole, Parts, parts_of, raw_known, none_of_blocks, none_of_main}

-- ---- names

-- lines and the declarations that they say, by a test of either
pub record Same (names : Names) (of_declaration : Declaration → Bool) (of_line : Filled → Bool) : Type 0 where
  pub some : (l : Filled) (what : Declared) → declared_of names l l.form ≡ Some what → of_declaration (declaration l what) ≡ of_line l
  pub none : (l : Filled) → declared_of names l l.form ≡ None → of_line l ≡ false

both_kept : (b : Bool) (d : Declaration) (l : Filled) (ds : List Declaration) (ls : List Filled) → d.name ≡ subject l → map (λ (x : Declaration). x.name) ds ≡ map subject ls
    → map (λ (x : Declaration). x.name) (cond b (d ∷ ds) ds) ≡ map subject (cond b (l ∷ ls) ls)
both_kept true d l ds ls e h = rw (e, h) refl
both_kept false d l ds ls e h = h

same_step : (names : Names) (p : Declaration → Bool) (q : Filled → Bool) → Same names p q → (l : Filled) (ls : List Filled) (o : Option Declared) → declared_of names l l.form ≡ o
    → map (λ (x : Declaration). x.name) (filter p (declarations_of names ls)) ≡ map subject (filter q ls) → map (λ (x : Declaration). x.name) (filter p (declarations_of names (l ∷ ls))) ≡ map subject (filter q (l ∷ ls))
same_step names p q s l ls None e h =
    ap (λ (ds : List Declaration). map (λ (x : Declaration). x.name) (filter p ds)) (declarations_none names l ls e) ∙ rw (s.none l e) h
same_step names p q s l ls (Some what) e h =
    ap (λ (ds : List Declaration). map (λ (x : Declaration). x.name) (filter p ds)) (declarations_some names l ls what e)
    ∙ rw (s.some l what e) (both_kept (q l) (declaration l what) l (filter p (declarations_of names ls)) (filter q ls) refl h)

pub same_names : (names : Names) (p : Declaration → Bool) (q : Filled → Bool) → Same names p q → (ls : List Filled) → map (λ (x : Declaration). x.name) (filter p (declarations_of names ls)) ≡ map subject (filter q ls)
same_names names p q s [] = refl
same_names names p q s (l ∷ ls) = same_step names p q s l ls (declared_of names l l.form) refl (same_names names p q s ls)

pub thread_same : (l : Filled) (what : Declared) → makes l.form ≡ Some (makes_of what) → is_thread (declaration l what) ≡ makes_thread l
thread_same l declared.Thread e = rw e refl
thread_same l _ e = rw e refl

object_same : (l : Filled) (what : Declared) → makes l.form ≡ Some (makes_of what) → is_object (declaration l what) ≡ makes_object l
object_same l declared.Thread e = rw e refl
object_same l _ e = rw e refl

callback_same : (l : Filled) (what : Declared) → makes l.form ≡ Some (makes_of what) → is_callback (declaration l what) ≡ makes_callback l
callback_same l declared.Thread e = rw e refl
callback_same l _ e = rw e refl

three_names : (a b c d e f : List (List ℕ)) → a ≡ d → b ≡ e → c ≡ f → ◌≡◌ {A = Names} (record { threads = a; objects = b; callbacks = c }) (record { threads = d; objects = e; callbacks = f })
three_names a b c d e f p q r = rw (p, q, r) refl

-- the names of what lines say are theirs
pub names_back : (version : ℕ) (ls : List Filled) → names_in (script_of version ls) ≡ names_of ls
names_back version ls =
    let n = names_of ls in
    three_names _ _ _ _ _ _
    (ap (λ (t : List (List ℕ)). main_word ∷ t) (same_names n is_thread makes_thread (record { some = λ l what e. thread_same l what (makes_some n l what e); none = λ l e. rw (makes_none n l e) refl }) ls))
    (same_names n is_object makes_object (record { some = λ l what e. object_same l what (makes_some n l what e); none = λ l e. rw (makes_none n l e) refl }) ls)
    (same_names n is_callback makes_callback (record { some = λ l what e. callback_same l what (makes_some n l what e); none = λ l e. rw (makes_none n l e) refl }) ls)

-- ---- calls

-- the lines of the calls that settled lines say are these lines
pub calls_forth : (ls : List Filled) (me : List ℕ) (cs : List Filled) → AreSettled 1 ls me cs → map (line_of_call (names_of ls)) (calls_by ls cs) ≡ cs
calls_forth ls me [] h = refl
calls_forth ls me (l ∷ cs) h =
    let f = settled_forth ls me l h.0 in
    ap (λ (xs : List Call). map (line_of_call (names_of ls)) xs) (calls_cons ls l cs f.call f.is) ∙ rw f.back (ap (λ (t : List Filled). l ∷ t) (calls_forth ls me cs h.1))

-- ---- declarations

abbrev line_of : Names → Declaration → Filled
line_of names d = line_of_declaration names d.name d.what

-- the lines of the declarations that lines say
declared_lines : (names : Names) (ds : List Filled) → AllByRecursion (DeclaredForth names) ds → map (line_of names) (declarations_of names ds) ≡ ds
declared_lines names [] h = refl
declared_lines names (d ∷ ds) h =
    ap (λ (xs : List Declaration). map (line_of names) xs) (declarations_some names d ds h.0.what h.0.is) ∙ rw h.0.back (ap (λ (t : List Filled). d ∷ t) (declared_lines names ds h.1))

-- other lines say no declaration
declared_none : (names : Names) (l : Filled) (f : Form) → makes f ≡ None → declared_of names l f ≡ None
declared_none names l forms.Thread e = absurd cc
declared_none names l _ e = cc

declarations_past : (names : Names) (rest : List Filled) → DeclareNone rest → declarations_of names rest ≡ []
declarations_past names [] h = refl
declarations_past names (l ∷ rest) h = declarations_none names l rest (declared_none names l l.form h.0) ∙ declarations_past names rest h.1

pub declarations_front : (names : Names) (ds rest : List Filled) → DeclareNone rest → declarations_of names (ds ++ rest) ≡ declarations_of names ds
declarations_front names [] rest h = declarations_past names rest h
declarations_front names (d ∷ ds) rest h = rw (declarations_front names ds rest h) refl

find_grows : (test : Filled → Bool) (e rest : List Filled) (d : Filled) → find test e ≡ Some d → find test (e ++ rest) ≡ Some d
find_grows test [] rest d h = absurd cc
find_grows test (l ∷ e) rest d h = elim (test l) as (λ b. cond b (Some l) (find test e) ≡ Some d → cond b (Some l) (find test (e ++ rest)) ≡ Some d) [
  | true ↦ λ k. k
  | false ↦ λ k. find_grows test e rest d k
] h

made_grows : (e rest : List Filled) (u : List ℕ) (m : Made) → made_of e u ≡ Some m → made_of (e ++ rest) u ≡ Some m
made_grows e rest u m h = elim (made_cases e u m h) [
  | inl p ↦ rw (p.0, p.1) refl
  | inr p ↦ let d = p.1 in rw (p.0, find_grows (declares u) e rest d.by d.is) d.makes_it
]

declared_all : (ls ds e rest : List Filled) → ls ≡ e ++ (ds ++ rest) → AreFine 1 e ds → AreDeclarations ds → AllByRecursion (DeclaredForth (names_of ls)) ds
declared_all ls [] e rest is fine h = tt
declared_all ls (d ∷ ds) e rest is fine h =
    let grows : (u : List ℕ) (m : Made) → made_of e u ≡ Some m → made_of ls u ≡ Some m = λ u m k. subst (λ (t : List Filled). made_of t u ≡ Some m) (sym is) (made_grows e (d ∷ ds ++ rest) u m k) in
    let one = declared_forth 1 (names_of ls) d fine.0.filled (all_found ls e (this_thread e) (fields_in d) d.values grows fine.0.kind) h.0 in
    (one, declared_all ls ds (e ++ d ∷ []) rest (is ∙ sym (append_assoc e (d ∷ []) (ds ++ rest))) fine.1 h.1)

-- ---- bodies

abbrev pub block_of : Made → Block → List Block
block_of mades.Async b = []
block_of _ b = b ∷ []

-- the bodies of these threads, each with its calls in a text
abbrev pub blocks_for : List Filled → List Declaration → List Block
blocks_for ls [] = []
blocks_for ls (d ∷ ds) = block_of (makes_of d.what) (record { name = d.name; calls = raw_calls ls d.name }) ++ blocks_for ls ds

abbrev lines_where : Made → List Filled → List Filled
lines_where mades.Async ls = []
lines_where _ ls = ls

body_step : (names : Names) (name : List ℕ) (what : Declared) (ds : List Declaration) (cs : List Call) (bodies : List (List Call))
    → bodies_from names (record { name = name; what = what } ∷ ds) (cs ∷ bodies) ≡ lines_where (makes_of what) (body_lines names (body_line name) cs) ++ bodies_from names ds bodies
body_step names name (declared.Async policy function) ds cs bodies = refl
body_step names name _ ds cs bodies = refl

block_step : (m : Made) (b : Block) (bs : List Block) → flat_map block_lines (block_of m b ++ bs) ≡ lines_where m (block_lines b) ++ flat_map block_lines bs
block_step mades.Async b bs = refl
block_step _ b bs = refl

bodies_are : (ls : List Filled) (p : Parts ls) (ds : List Declaration) → bodies_from (names_of ls) ds (map (calls_of (names_of ls) ls) (map (λ (x : Declaration). x.name) ds)) ≡ flat_map block_lines (blocks_for ls ds)
bodies_are ls p [] = refl
bodies_are ls p (d ∷ ds) =
    let names = names_of ls in
    let back : map (line_of_call names) (calls_of names ls d.name) ≡ raw_calls ls d.name = calls_forth ls d.name (raw_calls ls d.name) (raw_known ls p d.name).settled in
    let same : body_lines names (body_line d.name) (calls_of names ls d.name) ≡ block_lines (record { name = d.name; calls = raw_calls ls d.name }) = ap (λ (t : List Filled). body_line d.name ∷ t ++ end_line ∷ []) back in
    body_step names d.name d.what ds (calls_of names ls d.name) (map (calls_of names ls) (map (λ (x : Declaration). x.name) ds))
    ∙ two_parts (makes_of d.what) _ _ _ _ same (bodies_are ls p ds)
    ∙ sym (block_step (makes_of d.what) (record { name = d.name; calls = raw_calls ls d.name }) (blocks_for ls ds))
  where
    two_parts : (m : Made) (xs ys us vs : List Filled) → xs ≡ ys → us ≡ vs → lines_where m xs ++ us ≡ lines_where m ys ++ vs
    two_parts m xs ys us vs p q = rw (p, q) refl

-- the threads of a text
abbrev pub threads_of : List Filled → List Declaration
threads_of ls = filter is_thread (declarations_of (names_of ls) ls)

-- the text with its bodies in order
abbrev pub canon : (ls : List Filled) → List Filled → List Filled
canon ls ds = version_line ∷ ds ++ (flat_map block_lines (blocks_for ls (threads_of ls)) ++ main_lines (raw_calls ls main_word))

four_parts : (a b c d e f : List Filled) → a ≡ b → c ≡ d → e ≡ f → version_line ∷ a ++ (c ++ e) ≡ version_line ∷ b ++ (d ++ f)
four_parts a b c d e f p q r = rw (p, q, r) refl

with_is : (names : Names) (ls : List Filled) → lines_with names (script_of 1 ls) ≡ version_line ∷ map (line_of names) (declarations_of (names_of ls) ls)
    ++ (bodies_from names (threads_of ls) (map (calls_of (names_of ls) ls) (map subject (filter makes_thread ls))) ++ body_lines names main_line (calls_of (names_of ls) ls main_word))
with_is names ls = append_assoc (version_line ∷ map (line_of names) (declarations_of (names_of ls) ls)) (bodies_from names (threads_of ls) (map (calls_of (names_of ls) ls) (map subject (filter makes_thread ls)))) (body_lines names main_line (calls_of (names_of ls) ls main_word))

-- the lines of what a text means
pub lines_canon : (ls : List Filled) (w : IsWhole ls) → lines_for (script_of 1 ls) ≡ canon ls (parts_of ls w).shape.declarations
lines_canon ls w =
    let p = parts_of ls w in
    let names = names_of ls in
    let sh = p.shape in
    let rest : List Filled = flat_map block_lines sh.blocks ++ main_lines sh.mains in
    let none : DeclareNone rest = none_append (flat_map block_lines sh.blocks) (main_lines sh.mains) (none_of_blocks sh.blocks sh.calls) (none_of_main sh.mains sh.main_calls) in
    let fine : AreFine 1 [] ((version_line ∷ sh.declarations) ++ rest) = subst (λ (t : List Filled). AreFine 1 [] t) sh.is w.fine in
    let two = fine_split 1 [] (version_line ∷ sh.declarations) rest fine in
    let forth : AllByRecursion (DeclaredForth names) sh.declarations = declared_all ls sh.declarations (version_line ∷ []) rest sh.is two.0.1 sh.are in
    let decl : declarations_of names ls ≡ declarations_of names sh.declarations = ap (λ (t : List Filled). declarations_of names t) sh.is ∙ declarations_front names sh.declarations rest none in
    let a : map (line_of names) (declarations_of names ls) ≡ sh.declarations = ap (λ (t : List Declaration). map (line_of names) t) decl ∙ declared_lines names sh.declarations forth in
    let threads : map (λ (x : Declaration). x.name) (threads_of ls) ≡ map subject (filter makes_thread ls) = same_names names is_thread makes_thread (record { some = λ l what e. thread_same l what (makes_some names l what e); none = λ l e. rw (makes_none names l e) refl }) ls in
    let b : bodies_from names (threads_of ls) (map (calls_of names ls) (map subject (filter makes_thread ls))) ≡ flat_map block_lines (blocks_for ls (threads_of ls)) =
    ap (λ (t : List (List ℕ)). bodies_from names (threads_of ls) (map (calls_of names ls) t)) (sym threads) ∙ bodies_are ls p (threads_of ls) in
    let c : body_lines names main_line (calls_of names ls main_word) ≡ main_lines (raw_calls ls main_word) = ap (λ (t : List Filled). main_line ∷ t ++ end_line ∷ []) (calls_forth ls main_word (raw_calls ls main_word) (raw_known ls p main_word).settled) in
    ap (λ (n : Names). lines_with n (script_of 1 ls)) (names_back 1 ls)
    ∙ with_is names ls
    ∙ four_parts _ _ _ _ _ _ a b c
