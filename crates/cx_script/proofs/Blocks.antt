-- The bodies of a text, and the calls of a thread.
use Rattle.std.proofs.Common.{◌≡◌, ℕ, inl, inr, Bool, true, false, ◌||◌, List, [], ◌∷◌, ◌++◌, filter, None, refl, sym, ap, subst, ◌∙◌, append_assoc}
use Rattle.std.specs.Prelude.{if◌then◌else◌}
use Rattle.std.specs.List.{AllByRecursion, list_any, flat_map, take_while}
use Rattle.std.specs.Str.{bytes_eq}
use Rattle.std.proofs.Math.Numerals.{one-add}
use Rattle.std.proofs.lemmas.List.{append-nil}
use Rattle.std.proofs.lemmas.Bool.{cases_Bool}
use Rattle.cx_text.specs.declared.form.Form.{Form}
use Rattle.cx_text.specs.declared.form.Form.TheVariants as forms
use Rattle.cx_text.specs.Words.{Filled, Value, main_word}
use Rattle.cx_text.specs.Table.{makes}
use Rattle.cx_script.specs.Earlier.{Part, AVersion, ADeclaration, ABody, AMain, ACall, AnEnd, part_of, is_call, begins_body, from_last_body, this_body, this_thread}
use Rattle.cx_script.specs.Script.{line, version_line, after_first, begins_body_of}
use Rattle.cx_script.proofs.Sound.{AreFine}
use Rattle.cx_script.proofs.Shape.{Block, block_lines, body_line, main_line, end_line, main_lines, AreCalls, AreDeclarations}

-- ---- lines that are fine, in two parts

pub fine_split : (version : ℕ) (e xs ys : List Filled) → AreFine version e (xs ++ ys) → AreFine version e xs × AreFine version (e ++ xs) ys
fine_split version e [] ys h = (tt, subst (λ t. AreFine version t ys) (sym (append-nil e)) h)
fine_split version e (x ∷ xs) ys h =
    let r = fine_split version (e ++ x ∷ []) xs ys h.1 in
    ((h.0, r.0), subst (λ t. AreFine version t ys) (append_assoc e (x ∷ []) xs) r.1)

pub fine_join : (version : ℕ) (e xs ys : List Filled) → AreFine version e xs → AreFine version (e ++ xs) ys → AreFine version e (xs ++ ys)
fine_join version e [] ys h k = subst (λ t. AreFine version t ys) (append-nil e) k
fine_join version e (x ∷ xs) ys h k = (h.0, fine_join version (e ++ x ∷ []) xs ys h.1 (subst (λ t. AreFine version t ys) (sym (append_assoc e (x ∷ []) xs)) k))

-- ---- calls and declarations

call_at_part : (l : Filled) (p : Part) → part_of l.form ≡ p → is_call l ≡ true → p ≡ ACall
call_at_part l AVersion e h = absurd (let q : false ≡ true = rw e at h in cc)
call_at_part l ADeclaration e h = absurd (let q : false ≡ true = rw e at h in cc)
call_at_part l ABody e h = absurd (let q : false ≡ true = rw e at h in cc)
call_at_part l AMain e h = absurd (let q : false ≡ true = rw e at h in cc)
call_at_part l ACall e h = refl
call_at_part l AnEnd e h = absurd (let q : false ≡ true = rw e at h in cc)

pub call_part : (l : Filled) → is_call l ≡ true → part_of l.form ≡ ACall
call_part l h = call_at_part l (part_of l.form) refl h

makes_at : (f : Form) → part_of f ≡ ACall → makes f ≡ None
makes_at forms.Thread e = cc
makes_at _ e = cc

pub call_makes : (l : Filled) → is_call l ≡ true → makes l.form ≡ None
call_makes l h = makes_at l.form (call_part l h)

call_begins : (l : Filled) → is_call l ≡ true → begins_body l ≡ false
call_begins l h = rw (call_part l h) refl

none_begin : (cs : List Filled) → AreCalls cs → list_any begins_body cs ≡ false
none_begin [] h = refl
none_begin (c ∷ cs) h = rw (call_begins c h.0) (none_begin cs h.1)

pub any_middle : (test : Filled → Bool) (xs ys : List Filled) (l : Filled) → test l ≡ true → list_any test (xs ++ l ∷ ys) ≡ true
any_middle test [] ys l h = rw h refl
any_middle test (x ∷ xs) ys l h = rw (any_middle test xs ys l h) (or_true (test x))
  where
    or_true : (b : Bool) → (b || true) ≡ true
    or_true true = refl
    or_true false = refl

-- ---- the body that a line stands in

pub last_body : (xs before : List Filled) (b : Filled) → begins_body b ≡ true → AreCalls before → from_last_body (xs ++ b ∷ before) ≡ b ∷ before
last_body [] before b h calls = rw (none_begin before calls, h) refl
last_body (x ∷ xs) before b h calls = rw (any_middle begins_body xs before b h) (last_body xs before b h calls)

pub filter_calls : (cs : List Filled) → AreCalls cs → filter is_call cs ≡ cs
filter_calls [] h = refl
filter_calls (c ∷ cs) h = rw h.0 (ap (λ (t : List Filled). c ∷ t) (filter_calls cs h.1))

-- in the body of a thread
pub thread_in : (xs before : List Filled) (w : List ℕ) → AreCalls before → this_thread (xs ++ body_line w ∷ before) ≡ w
thread_in xs before w calls = rw (last_body xs before (body_line w) refl calls) refl

pub body_in : (xs before : List Filled) (w : List ℕ) → AreCalls before → this_body (xs ++ body_line w ∷ before) ≡ before
body_in xs before w calls = rw (last_body xs before (body_line w) refl calls) (filter_calls before calls)

-- in the body of main
pub thread_in_main : (xs before : List Filled) → AreCalls before → this_thread (xs ++ main_line ∷ before) ≡ main_word
thread_in_main xs before calls = rw (last_body xs before main_line refl calls) refl

pub body_in_main : (xs before : List Filled) → AreCalls before → this_body (xs ++ main_line ∷ before) ≡ before
body_in_main xs before calls = rw (last_body xs before main_line refl calls) (filter_calls before calls)

-- ---- the calls of a thread

-- the lines of calls of a thread
abbrev pub raw_calls : List Filled → List ℕ → List Filled
raw_calls ls name = take_while is_call (after_first (begins_body_of name) ls)

-- the calls of the first body of this name
abbrev pub lookup : List Block → List ℕ → List Filled
lookup [] name = []
lookup (b ∷ bs) name = if bytes_eq b.name name then b.calls else lookup bs name

taken_calls : (cs rest : List Filled) → AreCalls cs → take_while is_call (cs ++ end_line ∷ rest) ≡ cs
taken_calls [] rest h = refl
taken_calls (c ∷ cs) rest h = rw (h.0, one-add) (ap (λ (t : List Filled). c ∷ t) (taken_calls cs rest h.1))

begins_none : (name : List ℕ) (f : Form) (vs : List Value) → (part_of f ≡ ABody → ⊥) → (part_of f ≡ AMain → ⊥) → begins_body_of name (line f vs) ≡ false
begins_none name forms.Main vs n m = absurd (m refl)
begins_none name forms.Body vs n m = absurd (n refl)
begins_none name _ vs n m = refl

after_calls : (name : List ℕ) (cs rest : List Filled) → AreCalls cs → after_first (begins_body_of name) (cs ++ rest) ≡ after_first (begins_body_of name) rest
after_calls name [] rest h = refl
after_calls name (c ∷ cs) rest h =
    let p : part_of c.form ≡ ACall = call_part c h.0 in
    rw (begins_none name c.form c.values (λ q. absurd (let r : ACall ≡ ABody = sym p ∙ q in cc)) (λ q. absurd (let r : ACall ≡ AMain = sym p ∙ q in cc))) (after_calls name cs rest h.1)

after_declarations : (name : List ℕ) (ds rest : List Filled) → AreDeclarations ds → after_first (begins_body_of name) (ds ++ rest) ≡ after_first (begins_body_of name) rest
after_declarations name [] rest h = refl
after_declarations name (d ∷ ds) rest h =
    rw (begins_none name d.form d.values (λ q. absurd (let r : ADeclaration ≡ ABody = sym h.0 ∙ q in cc)) (λ q. absurd (let r : ADeclaration ≡ AMain = sym h.0 ∙ q in cc))) (after_declarations name ds rest h.1)

abbrev pub AllCalls : List Block → Type 0
AllCalls bs = AllByRecursion (λ (b : Block). AreCalls b.calls) bs

-- after the body of another
block_append : (b : Block) (bs : List Block) (rest : List Filled) → flat_map block_lines (b ∷ bs) ++ rest ≡ body_line b.name ∷ (b.calls ++ end_line ∷ (flat_map block_lines bs ++ rest))
block_append b bs rest = ap (λ (t : List Filled). body_line b.name ∷ t) (joined b.calls (flat_map block_lines bs) rest)
  where
    joined : (cs bs ms : List Filled) → ((cs ++ end_line ∷ []) ++ bs) ++ ms ≡ cs ++ end_line ∷ (bs ++ ms)
    joined [] bs ms = refl
    joined (c ∷ cs) bs ms = ap (λ (t : List Filled). c ∷ t) (joined cs bs ms)

-- the calls of a thread among bodies, where main is another
pub calls_among : (bs : List Block) (mains : List Filled) (name : List ℕ) → AllCalls bs → AreCalls mains → bytes_eq main_word name ≡ false
    → raw_calls (flat_map block_lines bs ++ main_lines mains) name ≡ lookup bs name
calls_among [] mains name h k other = rw other (ap (take_while is_call) (after_calls name mains (end_line ∷ []) k))
calls_among (b ∷ bs) mains name h k other =
    ap (λ (t : List Filled). raw_calls t name) (block_append b bs (main_lines mains))
    ∙ elim (cases_Bool (bytes_eq b.name name)) [
      | inl e ↦ rw e (taken_calls b.calls (flat_map block_lines bs ++ main_lines mains) h.0)
      | inr e ↦ rw e (ap (take_while is_call) (after_calls name b.calls (end_line ∷ (flat_map block_lines bs ++ main_lines mains)) h.0) ∙ calls_among bs mains name h.1 k other)
    ]

-- no body is main's
abbrev pub NotMain : List Block → Type 0
NotMain bs = AllByRecursion (λ (b : Block). bytes_eq b.name main_word ≡ false) bs

-- the calls of main among bodies
pub mains_among : (bs : List Block) (mains : List Filled) → AllCalls bs → AreCalls mains → NotMain bs → raw_calls (flat_map block_lines bs ++ main_lines mains) main_word ≡ mains
mains_among [] mains h k n = taken_calls mains [] k
mains_among (b ∷ bs) mains h k n =
    ap (λ (t : List Filled). raw_calls t main_word) (block_append b bs (main_lines mains))
    ∙ rw n.0 (ap (take_while is_call) (after_calls main_word b.calls (end_line ∷ (flat_map block_lines bs ++ main_lines mains)) h.0) ∙ mains_among bs mains h.1 k n.1)

-- past the declarations
pub calls_past : (ds rest : List Filled) (name : List ℕ) → AreDeclarations ds → raw_calls (version_line ∷ ds ++ rest) name ≡ raw_calls rest name
calls_past ds rest name h = ap (take_while is_call) (after_declarations name ds rest h)
