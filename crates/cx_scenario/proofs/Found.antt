-- What an index finds.
use Rattle.std.proofs.Common.{◌≡◌, ℕ, suc, true, false, cond, ◌||◌, List, [], ◌∷◌, ◌++◌, map, length, Option, Some, None, refl, sym, ap, ◌∙◌, zero, subst}
use Rattle.std.specs.Prelude.{find, is_some, slice_get, option_and_then}
use Rattle.std.specs.Option.{option_map, option_copied}
use Rattle.std.specs.Borrow.{Bor}
use Rattle.std.specs.Str.{bytes_eq}
use Rattle.std.specs.Slice.{IsItemAt}
use Rattle.std.proofs.lemmas.List.{map-append}
use Rattle.std.proofs.lemmas.Option.{slice_get_past, slice_get_read}
use Rattle.cx_index.specs.Places.{place_of}
use Rattle.cx_text.specs.Words.{Filled, is_one_of}
use Rattle.cx_script.specs.Earlier.{declares, declaration_of, subject}
use Rattle.cx_script.specs.Script.{place_in}
use Rattle.cx_scenario.specs.declared.said.Said.{Said}
use Rattle.cx_scenario.specs.Seen.{filled, said_now, declares_any, AllDeclare, IsKept}

some_map : (o : Option ℕ) → is_some (option_map suc o) ≡ is_some o
some_map None = refl
some_map (Some i) = refl

pub among_is : (ns : List (List ℕ)) (w : List ℕ) → is_some (place_of ns w) ≡ is_one_of ns w
among_is [] w = refl
among_is (n ∷ ns) w = elim (bytes_eq n w) as (λ b. is_some (cond b (Some 0) (option_map suc (place_of ns w))) ≡ (b || is_one_of ns w)) [
  | true ↦ refl
  | false ↦ some_map (place_of ns w) ∙ among_is ns w
]

-- a place, or else a count
abbrev pub or_count : Option ℕ → ℕ → ℕ
or_count (Some i) n = i
or_count None n = n

suc_count : (o : Option ℕ) (n : ℕ) → suc (or_count o n) ≡ or_count (option_map suc o) (suc n)
suc_count None n = refl
suc_count (Some i) n = refl

pub place_is : (ns : List (List ℕ)) (w : List ℕ) → place_in ns w ≡ or_count (place_of ns w) (length ns)
place_is [] w = refl
place_is (n ∷ ns) w = elim (bytes_eq n w) as (λ b. cond b 0 (suc (place_in ns w)) ≡ or_count (cond b (Some 0) (option_map suc (place_of ns w))) (suc (length ns))) [
  | true ↦ refl
  | false ↦ ap suc (place_is ns w) ∙ suc_count (place_of ns w) (length ns)
]

-- ---- declarations

shifted : (l : Filled) (ls : List Filled) (o : Option ℕ) → option_and_then (slice_get ls) o ≡ option_and_then (slice_get (l ∷ ls)) (option_map suc o)
shifted l ls None = refl
shifted l ls (Some i) = refl

pub found_at : (ls : List Filled) (w : List ℕ) → AllDeclare ls → declaration_of ls w ≡ option_and_then (slice_get ls) (place_of (map subject ls) w)
found_at [] w h = refl
found_at (l ∷ ls) w h = rw h.0 (elim (bytes_eq (subject l) w) as (λ b. cond b (Some l) (find (declares w) ls) ≡ option_and_then (slice_get (l ∷ ls)) (cond b (Some 0) (option_map suc (place_of (map subject ls) w)))) [
  | true ↦ refl
  | false ↦ found_at ls w h.1 ∙ shifted l ls (place_of (map subject ls) w)
])

pub declare_more : (ls : List Filled) (l : Filled) → AllDeclare ls → declares_any l ≡ true → AllDeclare (ls ++ l ∷ [])
declare_more [] l h k = (k, tt)
declare_more (m ∷ ms) l h k = (h.0, declare_more ms l h.1 k)

module _ (names : List (List ℕ)) (lines : List Filled) (kept : IsKept names lines) (w : List ℕ) where
  kept_at : declaration_of lines w ≡ option_and_then (slice_get lines) (place_of names w)
  kept_at = found_at lines w kept.declare ∙ ap (λ (ns : List (List ℕ)). option_and_then (slice_get lines) (place_of ns w)) (sym kept.named)

  pub kept_none : place_of names w ≡ None → None ≡ declaration_of lines w
  kept_none h = sym (kept_at ∙ ap (λ (o : Option ℕ). option_and_then (slice_get lines) o) h)

  pub kept_some : (i : ℕ) → place_of names w ≡ Some i → slice_get lines i ≡ declaration_of lines w
  kept_some i h = sym (kept_at ∙ ap (λ (o : Option ℕ). option_and_then (slice_get lines) o) h)

  pub kept_more : (l : Filled) (names' : List (List ℕ)) → names' ≡ names ++ subject l ∷ [] → declares_any l ≡ true → IsKept names' (lines ++ l ∷ [])
  kept_more l names' h k = record {
    named = h ∙ ap (λ (ns : List (List ℕ)). ns ++ subject l ∷ []) kept.named ∙ sym (map-append subject lines (l ∷ []));
    declare = declare_more lines l kept.declare k;
  }

pub none_place : (ns : List (List ℕ)) (w : List ℕ) → place_of ns w ≡ None → length ns ≡ place_in ns w
none_place ns w h = sym (place_is ns w ∙ ap (λ (o : Option ℕ). or_count o (length ns)) h)

pub some_place : (ns : List (List ℕ)) (w : List ℕ) (i : ℕ) → place_of ns w ≡ Some i → i ≡ place_in ns w
some_place ns w i h = sym (place_is ns w ∙ ap (λ (o : Option ℕ). or_count o (length ns)) h)

pub kept_push : (names names' : List (List ℕ)) (ks ks' : List Said) (k : Said) → IsKept names (map filled ks) → ks' ≡ ks ++ k ∷ [] → names' ≡ names ++ subject (filled k) ∷ [] → declares_any (filled k) ≡ true → IsKept names' (map filled ks')
kept_push names names' ks ks' k kept h n d =
    subst (λ (ls : List Filled). IsKept names' ls) (sym (ap (λ (x : List Said). map filled x) h ∙ map-append filled ks (k ∷ []))) (kept_more names (map filled ks) kept [] (filled k) names' n d)

-- what `get` gives of a slice
pub item_copied : (ks : List Said) (i : ℕ) (o : Option (Bor Said)) → IsItemAt ks i o → option_copied o ≡ slice_get ks i
item_copied ks i None h = sym (slice_get_past ks i h.3)
item_copied ks i (Some k) h = sym (slice_get_read ks (length ks) i k.now refl h.3.0 h.1)

-- a line of the code's list, as the definitions have it
pub seen_at : (ks : List Said) (i : ℕ) (o : Option (Bor Said)) → option_copied o ≡ slice_get ks i → option_map said_now o ≡ slice_get (map filled ks) i
seen_at ks i o h = copied o ∙ ap (λ (x : Option Said). option_map filled x) h ∙ mapped ks i
  where
    copied : (o : Option (Bor Said)) → option_map said_now o ≡ option_map filled (option_copied o)
    copied None = refl
    copied (Some k) = refl

    mapped : (ks : List Said) (i : ℕ) → option_map filled (slice_get ks i) ≡ slice_get (map filled ks) i
    mapped [] zero = refl
    mapped [] (suc i) = refl
    mapped (k ∷ ks) zero = refl
    mapped (k ∷ ks) (suc i) = mapped ks i
