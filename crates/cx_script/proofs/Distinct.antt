-- The names of a text without a fault are distinct, and as many as its limits allow.
use Rattle.std.proofs.Common.{◌≡◌, ℕ, zero, suc, ◌<◌, ◌≤◌, inl, inr, Bool, true, false, cond, ◌&&◌, ◌||◌, not, List, [], ◌∷◌, ◌++◌, length, map, filter, refl, sym, subst, ◌∙◌, arith, append_assoc}
use Rattle.std.specs.Prelude.{is_some, nat_le}
use Rattle.std.specs.List.{list_any, list_all}
use Rattle.std.specs.Str.{bytes_eq}
use Rattle.std.proofs.lemmas.List.{append-nil}
use Rattle.std.proofs.lemmas.Bool.{cases_Bool, leb-false}
use Rattle.std.proofs.lemmas.Slice.Eq.{bytes_eq-Decides}
use Rattle.cx_text.specs.declared.form.Form.{Form}
use Rattle.cx_text.specs.declared.form.Form.TheVariants as forms
use Rattle.cx_text.specs.Table.{makes}
use Rattle.cx_text.specs.Words.{Filled, Value, AWord, is_name, is_reserved, is_one_of, reply_words, begins_lower, is_name_byte, main_word, scenario_lines}
use Rattle.cx_text.proofs.Rows.{IsWellFilled}
use Rattle.cx_script.specs.Earlier.{is_call, subject, this_body}
use Rattle.cx_script.specs.Faults.{counted, makes_thread, makes_object, makes_callback, is_once_only, is_too_many, most_threads}
use Rattle.cx_script.specs.Script.{name_at, line}
use Rattle.cx_script.proofs.Sound.{IsFine, AreFine}
use Rattle.cx_script.proofs.Steps.{counted_more}
use Rattle.cx_script.proofs.Calls.{AreApart}

-- ---- limits

or_parts : (x y : Bool) → (x || y) ≡ false → (x ≡ false) × (y ≡ false)
or_parts true y h = absurd cc
or_parts false y h = (refl, h)

-- no more than n lines of a kind, where each of them finds less than n before it
pub bounded : (version : ℕ) (test : Filled → Bool) (n : ℕ) → ((e : List Filled) (l : Filled) → IsFine version e l → test l ≡ true → counted test e < n)
    → (ls e : List Filled) → AreFine version e ls → counted test e ≤ n → counted test (e ++ ls) ≤ n
bounded version test n under [] e fine few = subst (λ (t : List Filled). counted test t ≤ n) (sym (append-nil e)) few
bounded version test n under (l ∷ ls) e fine few =
    let step : counted test (e ++ l ∷ []) ≤ n = (elim (cases_Bool (test l)) [
      | inl h ↦ let a = counted_more test e l in let one : length (filter test (l ∷ [])) ≡ 1 = rw h refl in let b = under e l fine.0 h in omega arith
      | inr h ↦ let a = counted_more test e l in let none : length (filter test (l ∷ [])) ≡ 0 = rw h refl in omega arith
    ]) in
    subst (λ (t : List Filled). counted test t ≤ n) (append_assoc e (l ∷ []) ls) (bounded version test n under ls (e ++ l ∷ []) fine.1 step)

tests : (a b c d : Bool) → (a || b || c || d) ≡ false → (a ≡ false) × (b ≡ false) × (c ≡ false) × (d ≡ false)
tests false false false false h = (refl, refl, refl, refl)
tests false false false true h = absurd cc
tests false false true d h = absurd cc
tests false true c d h = absurd cc
tests true b c d h = absurd cc

under : (a : Bool) (n m : ℕ) → a ≡ true → (a && nat_le n m) ≡ false → m < n
under a n m e h = let q : nat_le n m ≡ false = rw e at h in leb-false n m q

-- the limits that a line keeps
pub limits : (version : ℕ) (e : List Filled) (l : Filled) → is_too_many version e l ≡ false
    → ((makes_thread l && nat_le (most_threads version) (counted makes_thread e)) ≡ false) × ((makes_object l && nat_le 128 (counted makes_object e)) ≡ false) × ((makes_callback l && nat_le 64 (counted makes_callback e)) ≡ false)
    × ((is_call l && (nat_le 4096 (length (this_body e)) || nat_le 65536 (counted is_call e))) ≡ false)
limits version e l h =
    tests (makes_thread l && nat_le (most_threads version) (counted makes_thread e)) (makes_object l && nat_le 128 (counted makes_object e)) (makes_callback l && nat_le 64 (counted makes_callback e))
    (is_call l && (nat_le 4096 (length (this_body e)) || nat_le 65536 (counted is_call e))) h

pub few_threads : (version : ℕ) (ls : List Filled) → AreFine version [] ls → counted makes_thread ls ≤ 63
few_threads version ls fine = bounded version makes_thread 63 (λ e l f t. under (makes_thread l) 63 (counted makes_thread e) t (limits version e l f.few).0) ls [] fine (omega arith)

pub few_objects : (version : ℕ) (ls : List Filled) → AreFine version [] ls → counted makes_object ls ≤ 128
few_objects version ls fine = bounded version makes_object 128 (λ e l f t. under (makes_object l) 128 (counted makes_object e) t (limits version e l f.few).1) ls [] fine (omega arith)

pub few_callbacks : (version : ℕ) (ls : List Filled) → AreFine version [] ls → counted makes_callback ls ≤ 64
few_callbacks version ls fine = bounded version makes_callback 64 (λ e l f t. under (makes_callback l) 64 (counted makes_callback e) t (limits version e l f.few).2) ls [] fine (omega arith)

last_false : (a b : Bool) → (a || b) ≡ false → b ≡ false
last_false true b h = absurd cc
last_false false b h = h

pub few_calls : (version : ℕ) (ls : List Filled) → AreFine version [] ls → counted is_call ls ≤ 65536
few_calls version ls fine = bounded version is_call 65536 (λ e l f t. let q = (limits version e l f.few).3 in let r : (nat_le 4096 (length (this_body e)) || nat_le 65536 (counted is_call e)) ≡ false = rw t at q in leb-false 65536 (counted is_call e) (last_false _ _ r)) ls [] fine (omega arith)

-- ---- names

-- a line among these
abbrev pub IsIn : List Filled → Filled → Type 0
IsIn e l = (test : Filled → Bool) → test l ≡ true → list_any test e ≡ true

in_more : (e : List Filled) (l m : Filled) → IsIn e l → IsIn (e ++ m ∷ []) l
in_more e l m h test t = any_append e m test (h test t)
  where
    any_append : (e : List Filled) (m : Filled) (test : Filled → Bool) → list_any test e ≡ true → list_any test (e ++ m ∷ []) ≡ true
    any_append [] m test h = absurd cc
    any_append (x ∷ e) m test h = elim (cases_Bool (test x)) [ inl a ↦ rw a refl | inr a ↦ let q : list_any test e ≡ true = rw a at h in rw a (any_append e m test q) ]

in_last : (e : List Filled) (l : Filled) → IsIn (e ++ l ∷ []) l
in_last [] l test t = rw t refl
in_last (x ∷ e) l test t = rw (in_last e l test t) (or_true (test x))
  where
    or_true : (b : Bool) → (b || true) ≡ true
    or_true true = refl
    or_true false = refl

pub once_declared : (f g : Form) → is_some (makes f) ≡ true → is_some (makes g) ≡ true → is_once_only f g ≡ true
once_declared forms.Body g h k = absurd cc
once_declared forms.Start g h k = absurd cc
once_declared forms.Launch g h k = absurd cc
once_declared forms.Register g h k = absurd cc
once_declared forms.Thread g h k = k
once_declared _ g h k = cc

pub thread_declares : (l : Filled) → makes_thread l ≡ true → is_some (makes l.form) ≡ true
thread_declares l h = at_form l.form l.values h
  where
    at_form : (f : Form) (vs : List Value) → makes_thread (line f vs) ≡ true → is_some (makes f) ≡ true
    at_form forms.Thread vs h = refl
    at_form _ vs h = cc

-- a name declared again is a fault
names_apart : (version : ℕ) (e : List Filled) (l m : Filled) → IsIn e l → is_some (makes l.form) ≡ true → is_some (makes m.form) ≡ true → IsFine version e m → bytes_eq (subject l) (subject m) ≡ false
names_apart version e l m there a b fine = elim (cases_Bool (bytes_eq (subject l) (subject m))) [
  | inr h ↦ h
  | inl h ↦
      let t : (is_once_only l.form m.form && bytes_eq (subject l) (subject m)) ≡ true = rw (once_declared l.form m.form a b, h) refl in
      let some : list_any (λ (k : Filled). is_once_only k.form m.form && bytes_eq (subject k) (subject m)) e ≡ true = there (λ (k : Filled). is_once_only k.form m.form && bytes_eq (subject k) (subject m)) t in
      let none = (or_parts _ _ fine.once).0 in
      let q : false ≡ true = sym none ∙ some in
      cc
]

-- the later thread names are others
others : (version : ℕ) (l : Filled) → makes_thread l ≡ true → (ls e : List Filled) → IsIn e l → AreFine version e ls → (i : ℕ) → i < length (map subject (filter makes_thread ls)) → bytes_eq (subject l) (name_at (map subject (filter makes_thread ls)) i) ≡ false
others version l t [] e there fine i lt = absurd (omega arith)
others version l t (m ∷ ls) e there fine i lt = other_at (makes_thread m) refl (λ k under. others version l t ls (e ++ m ∷ []) (in_more e l m there) fine.1 k under) i lt
  where
    other_at : (b : Bool) → makes_thread m ≡ b → ((k : ℕ) → k < length (map subject (filter makes_thread ls)) → bytes_eq (subject l) (name_at (map subject (filter makes_thread ls)) k) ≡ false)
        → (i : ℕ) → i < length (map subject (cond b (m ∷ filter makes_thread ls) (filter makes_thread ls))) → bytes_eq (subject l) (name_at (map subject (cond b (m ∷ filter makes_thread ls) (filter makes_thread ls))) i) ≡ false
    other_at true h later zero lt = names_apart version e l m there (thread_declares l t) (thread_declares m h) fine.0
    other_at true h later (suc i) lt = later i (omega arith)
    other_at false h later i lt = later i lt

same_self : (w : List ℕ) → bytes_eq w w ≡ true
same_self w = (bytes_eq-Decides w w).1 refl

threads_apart : (version : ℕ) (ls e : List Filled) → AreFine version e ls → AreApart (map subject (filter makes_thread ls))
threads_apart version [] e fine = tt
threads_apart version (l ∷ ls) e fine = apart_at (makes_thread l) refl (threads_apart version ls (e ++ l ∷ []) fine.1)
  where
    apart_at : (b : Bool) → makes_thread l ≡ b → AreApart (map subject (filter makes_thread ls)) → AreApart (map subject (cond b (l ∷ filter makes_thread ls) (filter makes_thread ls)))
    apart_at true h later = ((λ i lt. others version l h ls (e ++ l ∷ []) (in_last e l) fine.1 i lt), same_self (subject l), later)
    apart_at false h later = later

-- ---- main is no thread's name

pub name_not_main : (version : ℕ) (w : List ℕ) → is_name version w ≡ true → bytes_eq main_word w ≡ false
unfolding is_name
name_not_main version w h = main_apart (bytes_eq main_word w) (is_one_of reply_words w) (not_reserved (begins_lower w) (nat_le (length w) 16) (list_all is_name_byte w) (is_reserved version w) h)
  where
    not_reserved : (a b c d : Bool) → (a && b && c && not d) ≡ true → d ≡ false
    not_reserved true true true false h = refl
    not_reserved true true true true h = absurd cc
    not_reserved true true false d h = absurd cc
    not_reserved true false c d h = absurd cc
    not_reserved false b c d h = absurd cc

    main_apart : (a b : Bool) → (a || b) ≡ false → a ≡ false
    main_apart true b h = absurd cc
    main_apart false b h = refl

pub thread_name : (version : ℕ) (f : Form) (vs : List Value) → IsWellFilled scenario_lines version (line f vs) → makes_thread (line f vs) ≡ true → bytes_eq main_word (subject (line f vs)) ≡ false
thread_name version forms.Thread (AWord w ∷ vs) fit h = name_not_main version w fit.0
thread_name version forms.Thread _ fit h = absurd (assumption fit)
thread_name version forms.JThread (AWord w ∷ vs) fit h = name_not_main version w fit.0
thread_name version forms.JThread _ fit h = absurd (assumption fit)
thread_name version forms.AsyncReturn (AWord w ∷ vs) fit h = name_not_main version w fit.0
thread_name version forms.AsyncReturn _ fit h = absurd (assumption fit)
thread_name version forms.AsyncThrow (AWord w ∷ vs) fit h = name_not_main version w fit.0
thread_name version forms.AsyncThrow _ fit h = absurd (assumption fit)
thread_name version _ vs fit h = absurd cc

not_main : (version : ℕ) (ls e : List Filled) → AreFine version e ls → (i : ℕ) → i < length (map subject (filter makes_thread ls)) → bytes_eq main_word (name_at (map subject (filter makes_thread ls)) i) ≡ false
not_main version [] e fine i lt = absurd (omega arith)
not_main version (l ∷ ls) e fine i lt = main_at (makes_thread l) refl (λ k under. not_main version ls (e ++ l ∷ []) fine.1 k under) i lt
  where
    main_at : (b : Bool) → makes_thread l ≡ b → ((k : ℕ) → k < length (map subject (filter makes_thread ls)) → bytes_eq main_word (name_at (map subject (filter makes_thread ls)) k) ≡ false)
        → (i : ℕ) → i < length (map subject (cond b (l ∷ filter makes_thread ls) (filter makes_thread ls))) → bytes_eq main_word (name_at (map subject (cond b (l ∷ filter makes_thread ls) (filter makes_thread ls))) i) ≡ false
    main_at true h later zero lt = thread_name version l.form l.values fine.0.filled h
    main_at true h later (suc i) lt = later i (omega arith)
    main_at false h later i lt = later i lt

-- all thread names are apart, main's first
pub all_apart : (version : ℕ) (ls : List Filled) → AreFine version [] ls → AreApart (main_word ∷ map subject (filter makes_thread ls))
all_apart version ls fine = ((λ i lt. not_main version ls [] fine i lt), same_self main_word, threads_apart version ls [] fine)
