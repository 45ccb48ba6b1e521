-- The lines of a scenario say it again.
use Rattle.std.proofs.Common.{◌≡◌, ℕ, zero, suc, ◌<◌, inl, inr, Bool, true, false, cond, ◌&&◌, ◌||◌, List, [], ◌∷◌, ◌++◌, length, map, filter, Option, Some, None, refl, sym, ap, subst, ◌∙◌, arith, append_assoc}
use Rattle.std.specs.Prelude.{find, is_some}
use Rattle.std.specs.List.{AllByRecursion, flat_map, list_any}
use Rattle.std.specs.Str.{bytes_eq}
use Rattle.std.proofs.lemmas.Bool.{cases_Bool, and_parts}
use Rattle.std.proofs.lemmas.Slice.Eq.{bytes_eq-Decides}
use Rattle.cx_scene.specs.declared.call.Call.{Call}
use Rattle.cx_text.specs.declared.form.Made.{Made}
use Rattle.cx_text.specs.declared.form.Made.TheVariants as mades
use Rattle.cx_text.specs.declared.form.Sort.TheVariants as sorts
use Rattle.cx_text.specs.Table.{makes, who_may}
use Rattle.cx_text.specs.Words.{Filled, main_word}
use Rattle.cx_script.specs.declared.declared.Declared.{Declared}
use Rattle.cx_script.specs.Earlier.{declares, made_of, subject}
use Rattle.cx_script.specs.Faults.{makes_thread, makes_object, makes_callback, is_once_only}
use Rattle.cx_script.specs.Script.{Names, Declaration, Script, names_of, name_at, as_list, call_of, declared_of, declarations_of, calls_of, script_of, makes_of, is_thread, version_line, lines_for}
use Rattle.cx_script.proofs.Calls.{AreApart}
use Rattle.cx_script.proofs.Sound.{IsFine, AreFine}
use Rattle.cx_script.proofs.Shape.{Block, block_lines, main_lines, AreCalls}
use Rattle.cx_script.proofs.Blocks.{raw_calls, lookup, calls_past, calls_among, mains_among, NotMain, AllCalls}
use Rattle.cx_script.proofs.Agree.{Agree, DeclareNone, agree_past, made_agree}
use Rattle.cx_script.proofs.Objects.{declaration, declarations_none, declarations_some, makes_none, makes_some}
use Rattle.cx_script.proofs.Settled.{AreSettled, IsBlock, none_append}
use Rattle.cx_script.proofs.Distinct.{all_apart, once_declared, thread_name}
use Rattle.cx_script.proofs.Canon.{blocks_for, block_of, threads_of, canon, lines_canon, declarations_front, thread_same, same_names}
use Rattle.cx_script.proofs.Whole.{IsWhole, Parts, parts_of, raw_known, raw_other, none_of_blocks, none_of_main}

-- ---- two texts with the same declarations

pub same_self : (w : List ℕ) → bytes_eq w w ≡ true
same_self w = (bytes_eq-Decides w w).1 refl

other_way : (u w : List ℕ) → bytes_eq u w ≡ false → bytes_eq w u ≡ false
other_way u w h = elim (cases_Bool (bytes_eq w u)) [
  | inr k ↦ k
  | inl k ↦ let q : w ≡ u = (bytes_eq-Decides w u).0 k in absurd (let r : bytes_eq u w ≡ true = rw q (same_self u) in let z : false ≡ true = sym h ∙ r in cc)
]

filter_past : (test : Filled → Bool) (rest : List Filled) → AllByRecursion (λ (l : Filled). test l ≡ false) rest → filter test rest ≡ []
filter_past test [] h = refl
filter_past test (l ∷ rest) h = rw h.0 (filter_past test rest h.1)

filter_front : (test : Filled → Bool) (ds rest : List Filled) → AllByRecursion (λ (l : Filled). test l ≡ false) rest → filter test (ds ++ rest) ≡ filter test ds
filter_front test [] rest h = filter_past test rest h
filter_front test (d ∷ ds) rest h = ap (λ (t : List Filled). cond (test d) (d ∷ t) t) (filter_front test ds rest h)

none_made : (rest : List Filled) → DeclareNone rest → AllByRecursion (λ (l : Filled). makes_thread l ≡ false) rest × AllByRecursion (λ (l : Filled). makes_object l ≡ false) rest × AllByRecursion (λ (l : Filled). makes_callback l ≡ false) rest
none_made [] h = (tt, tt, tt)
none_made (l ∷ rest) h = let r = none_made rest h.1 in ((rw h.0 refl, r.0), (rw h.0 refl, r.1), (rw h.0 refl, r.2))

names_at : (a b : List Filled) → filter makes_thread a ≡ filter makes_thread b → filter makes_object a ≡ filter makes_object b → filter makes_callback a ≡ filter makes_callback b → names_of a ≡ names_of b
names_at a b p q r = rw (p, q, r) refl

names_front : (ds rest : List Filled) → DeclareNone rest → names_of (ds ++ rest) ≡ names_of ds
names_front ds rest h =
    let n = none_made rest h in
    names_at (ds ++ rest) ds (filter_front makes_thread ds rest n.0) (filter_front makes_object ds rest n.1) (filter_front makes_callback ds rest n.2)

-- the calls of lines, where the same names are declared
calls_agree : (names : Names) (a b : List Filled) → Agree a b → (cs : List Filled)
    → flat_map (λ (l : Filled). as_list (call_of names (made_of a (subject l)) l l.form)) cs ≡ flat_map (λ (l : Filled). as_list (call_of names (made_of b (subject l)) l l.form)) cs
calls_agree names a b h [] = refl
calls_agree names a b h (l ∷ cs) = rw (made_agree a b h (subject l), calls_agree names a b h cs) refl

-- ---- a name is declared by its own line

find_none : (test other : Filled → Bool) (e : List Filled) → ((m : Filled) → test m ≡ true → other m ≡ true) → list_any other e ≡ false → find test e ≡ None
find_none test other [] k h = refl
find_none test other (m ∷ e) k h = elim (cases_Bool (test m)) [
  | inl t ↦ absurd (let o : other m ≡ true = k m t in let q : true ≡ false = rw o at h in cc)
  | inr t ↦ let rest : list_any other e ≡ false = later (other m) (list_any other e) h in rw t (find_none test other e k rest)
]
  where
    later : (a b : Bool) → (a || b) ≡ false → b ≡ false
    later true b h = absurd cc
    later false b h = h

find_behind : (test : Filled → Bool) (e rest : List Filled) → find test e ≡ None → find test (e ++ rest) ≡ find test rest
find_behind test [] rest h = refl
find_behind test (m ∷ e) rest h = elim (test m) as (λ b. cond b (Some m) (find test e) ≡ None → cond b (Some m) (find test (e ++ rest)) ≡ find test rest) [
  | true ↦ λ k. absurd cc
  | false ↦ λ k. find_behind test e rest k
] h

first_or : (a b : Bool) → (a || b) ≡ false → a ≡ false
first_or true b h = absurd cc
first_or false b h = refl

own_line : (e rest : List Filled) (l : Filled) → is_some (makes l.form) ≡ true → IsFine 1 e l → find (declares (subject l)) (e ++ l ∷ rest) ≡ Some l
own_line e rest l made fine =
    let none : find (declares (subject l)) e ≡ None = find_none (declares (subject l)) (λ (m : Filled). is_once_only m.form l.form && bytes_eq (subject m) (subject l)) e
    (λ m t. let p = and_parts (is_some (makes m.form)) (bytes_eq (subject m) (subject l)) t in rw (once_declared m.form l.form p.0 made, p.1) refl)
    (first_or _ _ fine.once) in
    find_behind (declares (subject l)) e (l ∷ rest) none ∙ rw (made, same_self (subject l)) refl

-- what a thread's name stands for is what its declaration makes
pub record IsOwn (ls : List Filled) (d : Declaration) : Type 0 where
  pub made : made_of ls d.name ≡ Some (makes_of d.what)
  pub other : bytes_eq main_word d.name ≡ false

own_at : (ls e rest : List Filled) (l : Filled) (what : Declared) → ls ≡ e ++ l ∷ rest → declared_of (names_of ls) l l.form ≡ Some what → IsFine 1 e l → is_thread (declaration l what) ≡ true → IsOwn ls (declaration l what)
own_at ls e rest l what is says fine t =
    let m : makes l.form ≡ Some (makes_of what) = makes_some (names_of ls) l what says in
    let made : is_some (makes l.form) ≡ true = rw m refl in
    let thread : makes_thread l ≡ true = sym (thread_same l what m) ∙ t in
    let other : bytes_eq main_word (subject l) ≡ false = thread_name 1 l.form l.values fine.filled thread in
    let found : find (declares (subject l)) ls ≡ Some l = ap (λ (x : List Filled). find (declares (subject l)) x) is ∙ own_line e rest l made fine in
    record { made = rw (other, found) m; other = other }

kept_own : (ls : List Filled) (b : Bool) (d : Declaration) (ds : List Declaration) → (b ≡ true → IsOwn ls d) → AllByRecursion (IsOwn ls) ds → AllByRecursion (IsOwn ls) (cond b (d ∷ ds) ds)
kept_own ls true d ds h k = (h refl, k)
kept_own ls false d ds h k = k

own_step : (ls e rest : List Filled) (l : Filled) (o : Option Declared) → ls ≡ e ++ l ∷ rest → declared_of (names_of ls) l l.form ≡ o → IsFine 1 e l
    → AllByRecursion (IsOwn ls) (filter is_thread (declarations_of (names_of ls) rest)) → AllByRecursion (IsOwn ls) (filter is_thread (declarations_of (names_of ls) (l ∷ rest)))
own_step ls e rest l None is says fine later = subst (λ (ds : List Declaration). AllByRecursion (IsOwn ls) (filter is_thread ds)) (sym (declarations_none (names_of ls) l rest says)) later
own_step ls e rest l (Some what) is says fine later =
    subst (λ (ds : List Declaration). AllByRecursion (IsOwn ls) (filter is_thread ds)) (sym (declarations_some (names_of ls) l rest what says))
    (kept_own ls (is_thread (declaration l what)) (declaration l what) (filter is_thread (declarations_of (names_of ls) rest)) (λ t. own_at ls e rest l what is says fine t) later)

all_own : (ls rest e : List Filled) → ls ≡ e ++ rest → AreFine 1 e rest → AllByRecursion (IsOwn ls) (filter is_thread (declarations_of (names_of ls) rest))
all_own ls [] e is fine = tt
all_own ls (l ∷ rest) e is fine = own_step ls e rest l (declared_of (names_of ls) l l.form) is refl fine.0 (all_own ls rest (e ++ l ∷ []) (is ∙ sym (append_assoc e (l ∷ []) rest)) fine.1)

-- ---- the calls of each thread again

some_made : (a b : Made) → Some a ≡ Some b → a ≡ b
some_made a b e = cc

-- an async has no body
no_block : (ls : List Filled) (bs : List Block) (name : List ℕ) → AllByRecursion (IsBlock 1 ls) bs → made_of ls name ≡ Some mades.Async → lookup bs name ≡ []
no_block ls [] name h m = refl
no_block ls (b ∷ bs) name h m = elim (cases_Bool (bytes_eq b.name name)) [
  | inr e ↦ rw e (no_block ls bs name h.1 m)
  | inl e ↦
      let q : b.name ≡ name = (bytes_eq-Decides b.name name).0 e in
      let k : h.0.fits.made ≡ mades.Async = some_made _ _ (sym h.0.fits.is ∙ rw q m) in
      let none : None ≡ Some h.0.fits.caller = subst (λ x. who_may sorts.Bodied x ≡ Some h.0.fits.caller) k h.0.fits.may in
      absurd cc
]

pub apart_all : (n : List ℕ) (ds : List Declaration) → ((i : ℕ) → i < length (map (λ (x : Declaration). x.name) ds) → bytes_eq n (name_at (map (λ (x : Declaration). x.name) ds) i) ≡ false) → AllByRecursion (λ (d : Declaration). bytes_eq n d.name ≡ false) ds
apart_all n [] h = tt
apart_all n (d ∷ ds) h = (h zero (omega arith), apart_all n ds (λ i lt. h (suc i) (omega arith)))

lookup_apart : (ls : List Filled) (ds : List Declaration) (n : List ℕ) → AllByRecursion (λ (d : Declaration). bytes_eq n d.name ≡ false) ds → lookup (blocks_for ls ds) n ≡ []
lookup_apart ls [] n h = refl
lookup_apart ls (d ∷ ds) n h = skipped (makes_of d.what) _ (blocks_for ls ds) n (other_way n d.name h.0) ∙ lookup_apart ls ds n h.1
  where
    skipped : (m : Made) (b : Block) (bs : List Block) (n : List ℕ) → bytes_eq b.name n ≡ false → lookup (block_of m b ++ bs) n ≡ lookup bs n
    skipped mades.Async b bs n e = refl
    skipped _ b bs n e = rw e refl

skip_block : (m : Made) (b : Block) (bs : List Block) (n : List ℕ) → bytes_eq b.name n ≡ false → lookup (block_of m b ++ bs) n ≡ lookup bs n
skip_block mades.Async b bs n e = refl
skip_block _ b bs n e = rw e refl

head_block : (m : Made) (b : Block) (bs : List Block) → lookup bs b.name ≡ [] → (m ≡ mades.Async → b.calls ≡ []) → lookup (block_of m b ++ bs) b.name ≡ b.calls
head_block mades.Async b bs none empty = none ∙ sym (empty refl)
head_block _ b bs none empty = rw (same_self b.name) refl

abbrev LooksUp : List Filled → List Block → Declaration → Type 0
LooksUp ls bs d = lookup bs d.name ≡ raw_calls ls d.name

looks_past : (ls : List Filled) (m : Made) (b : Block) (bs : List Block) (ds : List Declaration) → AllByRecursion (λ (d : Declaration). bytes_eq b.name d.name ≡ false) ds → AllByRecursion (LooksUp ls bs) ds → AllByRecursion (LooksUp ls (block_of m b ++ bs)) ds
looks_past ls m b bs [] h k = tt
looks_past ls m b bs (d ∷ ds) h k = (skip_block m b bs d.name h.0 ∙ k.0, looks_past ls m b bs ds h.1 k.1)

all_look : (ls : List Filled) (p : Parts ls) (ds : List Declaration) → AreApart (map (λ (x : Declaration). x.name) ds) → AllByRecursion (IsOwn ls) ds → AllByRecursion (LooksUp ls (blocks_for ls ds)) ds
all_look ls p [] apart own = tt
all_look ls p (d ∷ ds) apart own =
    let others = apart_all d.name ds apart.0 in
    let b : Block = record { name = d.name; calls = raw_calls ls d.name } in
    let here : LooksUp ls (blocks_for ls (d ∷ ds)) d =
    head_block (makes_of d.what) b (blocks_for ls ds) (lookup_apart ls ds d.name others)
    (λ e. raw_other ls p d.name own.0.other ∙ no_block ls p.shape.blocks d.name p.blocks (own.0.made ∙ ap Some e)) in
    (here, looks_past ls (makes_of d.what) b (blocks_for ls ds) ds others (all_look ls p ds apart.2 own.1))

-- ---- the whole scenario again

settled_calls : (ls : List Filled) (me : List ℕ) (cs : List Filled) → AreSettled 1 ls me cs → AreCalls cs
settled_calls ls me [] h = tt
settled_calls ls me (l ∷ cs) h = (h.0.call, settled_calls ls me cs h.1)

pub raw_are_calls : (ls : List Filled) (p : Parts ls) (name : List ℕ) → AreCalls (raw_calls ls name)
raw_are_calls ls p name = settled_calls ls name (raw_calls ls name) (raw_known ls p name).settled

pub blocks_calls : (ls : List Filled) (p : Parts ls) (ds : List Declaration) → AllCalls (blocks_for ls ds)
blocks_calls ls p [] = tt
blocks_calls ls p (d ∷ ds) = more (makes_of d.what) (record { name = d.name; calls = raw_calls ls d.name }) (blocks_for ls ds) (raw_are_calls ls p d.name) (blocks_calls ls p ds)
  where
    more : (m : Made) (b : Block) (bs : List Block) → AreCalls b.calls → AllCalls bs → AllCalls (block_of m b ++ bs)
    more mades.Async b bs h k = k
    more _ b bs h k = (h, k)

pub blocks_other : (ls : List Filled) (ds : List Declaration) → AllByRecursion (IsOwn ls) ds → NotMain (blocks_for ls ds)
blocks_other ls [] own = tt
blocks_other ls (d ∷ ds) own = more (makes_of d.what) (record { name = d.name; calls = raw_calls ls d.name }) (blocks_for ls ds) (other_way main_word d.name own.0.other) (blocks_other ls ds own.1)
  where
    more : (m : Made) (b : Block) (bs : List Block) → bytes_eq b.name main_word ≡ false → NotMain bs → NotMain (block_of m b ++ bs)
    more mades.Async b bs h k = k
    more _ b bs h k = (h, k)

-- the threads of a text: apart, and each by its own declaration
pub threads_own : (ls : List Filled) → IsWhole ls → AllByRecursion (IsOwn ls) (threads_of ls)
threads_own ls w = all_own ls ls [] refl w.fine

pub threads_named : (ls : List Filled) → map (λ (x : Declaration). x.name) (threads_of ls) ≡ map subject (filter makes_thread ls)
threads_named ls = same_names (names_of ls) is_thread makes_thread (record { some = λ l what e. thread_same l what (makes_some (names_of ls) l what e); none = λ l e. rw (makes_none (names_of ls) l e) refl }) ls

pub threads_apart_by_name : (ls : List Filled) → IsWhole ls → AreApart (map (λ (x : Declaration). x.name) (threads_of ls))
threads_apart_by_name ls w = subst (λ (ns : List (List ℕ)). AreApart ns) (sym (threads_named ls)) (all_apart 1 ls w.fine).2

-- the lines behind the declarations
abbrev pub behind : List Filled → List Filled
behind ls = flat_map block_lines (blocks_for ls (threads_of ls)) ++ main_lines (raw_calls ls main_word)

pub behind_none : (ls : List Filled) (p : Parts ls) → DeclareNone (behind ls)
behind_none ls p = none_append (flat_map block_lines (blocks_for ls (threads_of ls))) (main_lines (raw_calls ls main_word)) (none_of_blocks (blocks_for ls (threads_of ls)) (blocks_calls ls p (threads_of ls))) (none_of_main (raw_calls ls main_word) (raw_are_calls ls p main_word))

pub front_none : (ls : List Filled) (p : Parts ls) → DeclareNone (flat_map block_lines p.shape.blocks ++ main_lines p.shape.mains)
front_none ls p = none_append (flat_map block_lines p.shape.blocks) (main_lines p.shape.mains) (none_of_blocks p.shape.blocks p.shape.calls) (none_of_main p.shape.mains p.shape.main_calls)

pub canon_agrees : (ls : List Filled) (p : Parts ls) → Agree (canon ls p.shape.declarations) ls
canon_agrees ls p u =
    agree_past (version_line ∷ p.shape.declarations) (behind ls) (behind_none ls p) u
    ∙ sym (agree_past (version_line ∷ p.shape.declarations) (flat_map block_lines p.shape.blocks ++ main_lines p.shape.mains) (front_none ls p) u)
    ∙ ap (λ (t : List Filled). find (declares u) t) (sym p.shape.is)

canon_names : (ls : List Filled) (p : Parts ls) → names_of (canon ls p.shape.declarations) ≡ names_of ls
canon_names ls p =
    names_front (version_line ∷ p.shape.declarations) (behind ls) (behind_none ls p)
    ∙ sym (names_front (version_line ∷ p.shape.declarations) (flat_map block_lines p.shape.blocks ++ main_lines p.shape.mains) (front_none ls p))
    ∙ ap names_of (sym p.shape.is)

canon_declarations : (ls : List Filled) (p : Parts ls) (names : Names) → declarations_of names (canon ls p.shape.declarations) ≡ declarations_of names ls
canon_declarations ls p names =
    declarations_front names (version_line ∷ p.shape.declarations) (behind ls) (behind_none ls p)
    ∙ sym (declarations_front names (version_line ∷ p.shape.declarations) (flat_map block_lines p.shape.blocks ++ main_lines p.shape.mains) (front_none ls p))
    ∙ ap (λ (t : List Filled). declarations_of names t) (sym p.shape.is)

canon_main : (ls : List Filled) (w : IsWhole ls) (p : Parts ls) → raw_calls (canon ls p.shape.declarations) main_word ≡ raw_calls ls main_word
canon_main ls w p =
    calls_past p.shape.declarations (behind ls) main_word p.shape.are
    ∙ mains_among (blocks_for ls (threads_of ls)) (raw_calls ls main_word) (blocks_calls ls p (threads_of ls)) (raw_are_calls ls p main_word) (blocks_other ls (threads_of ls) (threads_own ls w))

canon_other : (ls : List Filled) (p : Parts ls) (name : List ℕ) → bytes_eq main_word name ≡ false → raw_calls (canon ls p.shape.declarations) name ≡ lookup (blocks_for ls (threads_of ls)) name
canon_other ls p name other =
    calls_past p.shape.declarations (behind ls) name p.shape.are
    ∙ calls_among (blocks_for ls (threads_of ls)) (raw_calls ls main_word) name (blocks_calls ls p (threads_of ls)) (raw_are_calls ls p main_word) other

calls_same : (ls : List Filled) (p : Parts ls) (name : List ℕ) → raw_calls (canon ls p.shape.declarations) name ≡ raw_calls ls name → calls_of (names_of ls) (canon ls p.shape.declarations) name ≡ calls_of (names_of ls) ls name
calls_same ls p name e =
    ap (λ (cs : List Filled). flat_map (λ (l : Filled). as_list (call_of (names_of ls) (made_of (canon ls p.shape.declarations) (subject l)) l l.form)) cs) e
    ∙ calls_agree (names_of ls) (canon ls p.shape.declarations) ls (canon_agrees ls p) (raw_calls ls name)

bodies_same : (ls : List Filled) (p : Parts ls) (ds : List Declaration) → AllByRecursion (IsOwn ls) ds → AllByRecursion (LooksUp ls (blocks_for ls (threads_of ls))) ds
    → map (calls_of (names_of ls) (canon ls p.shape.declarations)) (map (λ (x : Declaration). x.name) ds) ≡ map (calls_of (names_of ls) ls) (map (λ (x : Declaration). x.name) ds)
bodies_same ls p [] own look = refl
bodies_same ls p (d ∷ ds) own look = rw (calls_same ls p d.name (canon_other ls p d.name own.0.other ∙ look.0), bodies_same ls p ds own.1 look.1) refl

script_parts : (a b : List Declaration) (c d : List Call) (e f : List (List Call)) → a ≡ b → c ≡ d → e ≡ f → ◌≡◌ {A = Script} (record { version = 1; declarations = a; bodies = c ∷ e }) (record { version = 1; declarations = b; bodies = d ∷ f })
script_parts a b c d e f p q r = rw (p, q, r) refl

abbrev script_with : Names → List Filled → Script
script_with names ls = record { version = 1; declarations = declarations_of names ls; bodies = map (calls_of names ls) names.threads }

pub canon_again : (ls : List Filled) (w : IsWhole ls) → script_of 1 (canon ls (parts_of ls w).shape.declarations) ≡ script_of 1 ls
canon_again ls w =
    let p = parts_of ls w in
    let names = names_of ls in
    let c = canon ls p.shape.declarations in
    let look = all_look ls p (threads_of ls) (threads_apart_by_name ls w) (threads_own ls w) in
    let t = threads_named ls in
    let bodies : map (calls_of names c) (map subject (filter makes_thread ls)) ≡ map (calls_of names ls) (map subject (filter makes_thread ls)) =
    subst (λ (ns : List (List ℕ)). map (calls_of names c) ns ≡ map (calls_of names ls) ns) t (bodies_same ls p (threads_of ls) (threads_own ls w) look) in
    ap (λ (n : Names). script_with n c) (canon_names ls p)
    ∙ script_parts _ _ _ _ _ _ (canon_declarations ls p names) (calls_same ls p main_word (canon_main ls w p)) bodies

-- the lines of a scenario that a text means say that scenario
pub script_again : (ls : List Filled) (w : IsWhole ls) → script_of 1 (lines_for (script_of 1 ls)) ≡ script_of 1 ls
script_again ls w = ap (script_of 1) (lines_canon ls w) ∙ canon_again ls w
