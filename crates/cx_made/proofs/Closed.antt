-- What computes for each number of pairs: the declarations, and the names in the calls.
use Rattle.std.proofs.Common.{◌≡◌, ℕ, ◌&&◌, not, Bool, true, false, List, [], ◌∷◌, ◌++◌, map, Option, Some, codes}
use Rattle.std.specs.List.{list_all}
use Rattle.std.specs.Str.{bytes_eq}
use Rattle.cx_scene.specs.declared.call.Call.{Call}
use Rattle.cx_text.specs.declared.form.Made.{Made}
use Rattle.cx_text.specs.declared.form.Made.TheVariants as mades
use Rattle.cx_text.specs.Words.{Filled, main_word, is_name}
use Rattle.cx_script.specs.Earlier.{made_of, place_after, may_stand, part_of}
use Rattle.cx_script.specs.Faults.{is_too_many, has_unknown, has_wrong_kind, has_outside, is_twice, is_over_latch, is_bad_order}
use Rattle.cx_script.specs.Script.{Names, Declaration, names_of, declarations_of, line_of_declaration, line_of_call, names_in, lines_for}
use Rattle.cx_script.specs.InOrder.{Block, front_with, in_order, main_line, end_line}
use Rattle.cx_made.specs.Made.{from, lettered, declarations, watch, put, take_one, puts, takes, starts_and_joins, bodies, made_with}
use Rattle.cx_made.proofs.Checks.{fits_in, says_again}

-- ---- the parts of the text

-- a body with the name of its thread
pub record Body : Type 0 where
  pub name : List ℕ
  pub calls : List Call

abbrev pub named_bodies : ℕ → ℕ → List Body
named_bodies k n =
    record { name = codes "w"; calls = watch k }
    ∷ map (λ i. record { name = lettered (codes "p") i; calls = puts k n i }) (from 0 k)
    ++ map (λ i. record { name = lettered (codes "c") i; calls = takes k n i }) (from 0 k)

abbrev pub names : ℕ → Names
names k = names_in (made_with k 0)

abbrev pub declared_lines : ℕ → List Filled
declared_lines k = map (λ (d : Declaration). line_of_declaration (names k) d.name d.what) (declarations k)

abbrev pub front : ℕ → List Filled
front k = front_with (declared_lines k)

abbrev pub block : ℕ → Body → Block
block k b = record { name = b.name; calls = map (line_of_call (names k)) b.calls }

abbrev pub blocks : ℕ → ℕ → List Block
blocks k n = map (block k) (named_bodies k n)

abbrev pub mains : ℕ → List Filled
mains k = map (line_of_call (names k)) (starts_and_joins k)

-- ---- tests

abbrev pub fine_one : List Filled → Filled → Bool
fine_one e l = may_stand (place_after e) (part_of l.form) && not (is_too_many 1 e l) && not (has_unknown e l) && not (has_wrong_kind e l) && not (has_outside e l) && not (is_twice e l) && not (is_over_latch e l) && not (is_bad_order e l)

abbrev pub fine_all : List Filled → List Filled → Bool
fine_all e [] = true
fine_all e (l ∷ ls) = fine_one e l && fine_all (e ++ l ∷ []) ls

abbrev pub once_all : List Filled → List Filled → Bool
once_all f [] = true
once_all f (l ∷ ls) = not (is_twice f l) && once_all (f ++ l ∷ []) ls

abbrev pub is_jthread : Option Made → Bool
is_jthread (Some mades.JThread) = true
is_jthread _ = false

abbrev pub body_ok : ℕ → List ℕ → Bool
body_ok k name = is_name 1 name && not (bytes_eq main_word name) && is_jthread (made_of (front k) name)

abbrev pub group_ok : ℕ → (ℕ → List ℕ) → (ℕ → List Call) → ℕ → Bool
group_ok k name calls i = body_ok k (name i) && list_all (fits_in (front k) (name i)) (map (line_of_call (names k)) (calls i)) && list_all (says_again (names k) (front k)) (calls i)

abbrev pub is_apart_from : List ℕ → List (List ℕ) → Bool
is_apart_from w ws = list_all (λ v. not (bytes_eq w v)) ws

abbrev pub are_apart : List (List ℕ) → Bool
are_apart [] = true
are_apart (w ∷ ws) = is_apart_from w ws && are_apart ws

pub record Closed (k : ℕ) : Type 0 where
  pub lines : (n : ℕ) → lines_for (made_with k n) ≡ in_order (declared_lines k) (blocks k n) (mains k)
  pub fine : fine_all [] (front k) ≡ true
  pub named : list_all (λ (d : Declaration). is_name 1 d.name) (declarations k) ≡ true
  pub watching : group_ok k (λ i. codes "w") (λ i. watch k) 0 ≡ true
  pub putting : list_all (group_ok k (lettered (codes "p")) (λ i. put k 0)) (from 0 k) ≡ true
  pub taking : list_all (group_ok k (lettered (codes "c")) (take_one k)) (from 0 k) ≡ true
  pub apart : (n : ℕ) → are_apart (map (λ (b : Body). b.name) (named_bodies k n)) ≡ true
  pub main_fits : list_all (fits_in (front k) main_word) (mains k) ≡ true
  pub main_says : list_all (says_again (names k) (front k)) (starts_and_joins k) ≡ true
  pub main_once : once_all (front k ++ main_line ∷ []) (mains k) ≡ true
  pub main_ends : is_bad_order (front k ++ main_line ∷ mains k) end_line ≡ false
  pub own_names : names_of (front k) ≡ names k
  pub own_declarations : declarations_of (names k) (front k) ≡ declarations k
  pub threads : (n : ℕ) → (names k).threads ≡ main_word ∷ map (λ (b : Body). b.name) (named_bodies k n)
  pub all_bodies : (n : ℕ) → bodies k n ≡ starts_and_joins k ∷ map (λ (b : Body). b.calls) (named_bodies k n)
