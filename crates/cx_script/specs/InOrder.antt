-- Lines in the order of a canonical text, with calls that fit the declarations.
use Rattle.std.specs.Prelude.{◌≡◌, ◌≤◌, ◌*◌, ℕ, ◌+◌, true, false, List, [], ◌∷◌, ◌++◌, length, Some, Ok}
use Rattle.std.specs.List.{AllByRecursion, flat_map}
use Rattle.std.specs.Str.{bytes_eq}
use Rattle.cx_scene.specs.declared.call.Call.{Call}
use Rattle.cx_text.specs.declared.form.Form.{Form}
use Rattle.cx_text.specs.declared.form.Form.TheVariants as forms
use Rattle.cx_text.specs.declared.form.Made.{Made}
use Rattle.cx_text.specs.declared.form.Sort.TheVariants as sorts
use Rattle.cx_text.specs.declared.form.Caller.TheVariants as callers
use Rattle.cx_text.specs.Table.{who_may}
use Rattle.cx_text.specs.Words.{Filled, AWord, is_name, main_word, fields_in, filled_by, words_for}
use Rattle.cx_script.specs.Earlier.{ADeclaration, part_of, is_call, made_of, place_after, may_stand, fits_sort, subject, words_at}
use Rattle.cx_script.specs.Faults.{is_too_many, has_unknown, has_wrong_kind, any_misfit, has_outside, is_once_only, is_twice, is_each_field, has_repeated, is_over_latch, is_latch, is_bad_order}
use Rattle.cx_script.specs.Script.{Names, line, version_line, names_of, declarations_of, as_list, call_of, calls_of, script_of, meaning, shown}

-- ---- the order

abbrev pub body_line : List ℕ → Filled
body_line name = line forms.Body (AWord name ∷ [])

abbrev pub main_line : Filled
main_line = line forms.Main []

abbrev pub end_line : Filled
end_line = line forms.End []

-- a body: the thread's name, and its calls
pub record Block : Type 0 where
  pub name : List ℕ
  pub calls : List Filled

abbrev pub block_lines : Block → List Filled
block_lines b = body_line b.name ∷ b.calls ++ end_line ∷ []

abbrev pub main_lines : List Filled → List Filled
main_lines mains = main_line ∷ mains ++ end_line ∷ []

-- the version and these declarations
abbrev pub front_with : List Filled → List Filled
front_with ds = version_line ∷ ds

-- then the bodies, and main's calls at the end
abbrev pub in_order : List Filled → List Block → List Filled → List Filled
in_order ds bs mains = front_with ds ++ (flat_map block_lines bs ++ main_lines mains)

-- ---- what the lines need

-- the line is what its own words say
abbrev pub SaysItself : Filled → Type 0
SaysItself l = filled_by 1 (words_for l) ≡ Some l

-- the line has no fault after the earlier ones
pub record IsClear (e : List Filled) (l : Filled) : Type 0 where
  pub itself : SaysItself l
  pub stands : may_stand (place_after e) (part_of l.form) ≡ true
  pub few : is_too_many 1 e l ≡ false
  pub known : has_unknown e l ≡ false
  pub kind : has_wrong_kind e l ≡ false
  pub inside : has_outside e l ≡ false
  pub once : is_twice e l ≡ false
  pub latch : is_over_latch e l ≡ false
  pub order : is_bad_order e l ≡ false

-- nor has any of these lines, one after the other
abbrev pub AreClear : List Filled → List Filled → Type 0
AreClear e [] = Unit {0}
AreClear e (l ∷ ls) = IsClear e l × AreClear (e ++ l ∷ []) ls

abbrev pub AreDeclarations : List Filled → Type 0
AreDeclarations ls = AllByRecursion (λ (l : Filled). part_of l.form ≡ ADeclaration) ls

-- a call of the thread `me` that fits what the front declares, is on no latch, and doesn't ask for a call before it
pub record FitsIn (front : List Filled) (me : List ℕ) (l : Filled) : Type 0 where
  pub itself : SaysItself l
  pub call : is_call l ≡ true
  pub known : has_unknown front l ≡ false
  pub kind : any_misfit (fits_sort front me) (fields_in l) l.values ≡ false
  pub inside : has_outside front l ≡ false
  pub latch : is_latch front (subject l) ≡ false
  pub repeated : has_repeated (words_at is_each_field l) ≡ false
  pub order : (e : List Filled) → is_bad_order e l ≡ false

-- calls that fit so
abbrev pub AllFit : List Filled → List ℕ → List Filled → Type 0
AllFit front me cs = AllByRecursion (FitsIn front me) cs

-- lines of which there may be more than one
abbrev pub MayRecur : List Filled → Type 0
MayRecur cs = AllByRecursion (λ (l : Filled). (f : Form) → is_once_only f l.form ≡ false) cs

-- the body of a thread that may have one, with calls that fit and may recur
pub record IsBody (front : List Filled) (b : Block) : Type 0 where
  pub named : is_name 1 b.name ≡ true
  pub other : bytes_eq main_word b.name ≡ false
  pub made : Made
  pub is : made_of front b.name ≡ Some made
  pub may : who_may sorts.Bodied made ≡ Some callers.Anyone
  pub fit : AllFit front b.name b.calls
  pub recur : MayRecur b.calls
  pub few : length b.calls ≤ 4096

-- each body has another name than the later ones
abbrev pub AreOthers : List ℕ → List Block → Type 0
AreOthers n bs = AllByRecursion (λ (b : Block). bytes_eq n b.name ≡ false) bs

abbrev pub BlocksApart : List Block → Type 0
BlocksApart [] = Unit {0}
BlocksApart (b ∷ bs) = AreOthers b.name bs × BlocksApart bs

-- no line stands a second time where only one may
abbrev pub AreOnce : List Filled → List Filled → Type 0
AreOnce e [] = Unit {0}
AreOnce e (l ∷ ls) = (is_twice e l ≡ false) × AreOnce (e ++ l ∷ []) ls

-- how many calls the bodies have
abbrev pub call_count : List Block → ℕ
call_count [] = 0
call_count (b ∷ bs) = length b.calls + call_count bs

-- declarations without a fault, bodies that fit them, and main's calls, within the limits
pub record IsInOrder (ds : List Filled) (bs : List Block) (mains : List Filled) : Type 0 where
  pub declared : AreDeclarations ds
  pub clear : AreClear [] (front_with ds)
  pub bodies : AllByRecursion (IsBody (front_with ds)) bs
  pub apart : BlocksApart bs
  pub fit : AllFit (front_with ds) main_word mains
  pub once : AreOnce (front_with ds ++ main_line ∷ []) mains
  pub few : length mains ≤ 4096
  pub all_few : call_count bs + length mains ≤ 65536
  pub ends : is_bad_order (front_with ds ++ main_line ∷ mains) end_line ≡ false

-- ---- what the lines say

-- the calls that lines say under these declarations
abbrev pub calls_in : List Filled → List Filled → List Call
calls_in front ls = flat_map (λ (l : Filled). as_list (call_of (names_of front) (made_of front (subject l)) l l.form)) ls

-- the names and declarations are those of the front, and each body's calls are those of its lines
pub record SaysInOrder (ds : List Filled) (bs : List Block) (mains : List Filled) : Type 0 where
  pub names : names_of (in_order ds bs mains) ≡ names_of (front_with ds)
  pub declarations : (ns : Names) → declarations_of ns (in_order ds bs mains) ≡ declarations_of ns (front_with ds)
  pub main : calls_of (names_of (front_with ds)) (in_order ds bs mains) main_word ≡ calls_in (front_with ds) mains
  pub bodies : AllByRecursion (λ (b : Block). calls_of (names_of (front_with ds)) (in_order ds bs mains) b.name ≡ calls_in (front_with ds) b.calls) bs

-- Lines in order are a scenario: their text, of at most 121 bytes a line, means what they say within any limit that it keeps,
-- and they say the front's declarations and the calls of each body.
pub record AreScenario (ds : List Filled) (bs : List Block) (mains : List Filled) : Type 0 where
  pub short : length (flat_map shown (in_order ds bs mains)) ≤ 121 * length (in_order ds bs mains)
  pub means : (limit : ℕ) → length (flat_map shown (in_order ds bs mains)) ≤ limit → meaning limit (flat_map shown (in_order ds bs mains)) ≡ Ok (script_of 1 (in_order ds bs mains))
  pub says : SaysInOrder ds bs mains

abbrev pub InOrderIsScenario : Type 0
InOrderIsScenario = (ds : List Filled) (bs : List Block) (mains : List Filled) → IsInOrder ds bs mains → AreScenario ds bs mains
