-- A line beside which another may not stand is found by its name.
use Rattle.std.proofs.Common.{◌≡◌, ℕ, Bool, true, false, cond, ◌&&◌, ◌||◌, List, [], ◌∷◌, map, filter, Some, refl, sym, ap, ◌∙◌}
use Rattle.std.specs.Prelude.{find, is_some}
use Rattle.std.specs.List.{list_any}
use Rattle.std.specs.Str.{bytes_eq}
use Rattle.std.proofs.lemmas.Bool.{true≢false}
use Rattle.cx_text.specs.declared.form.Form.{Form}
use Rattle.cx_text.specs.declared.form.Form.TheVariants as forms
use Rattle.cx_text.specs.Table.{makes}
use Rattle.cx_text.specs.Words.{Filled, is_one_of}
use Rattle.cx_script.specs.Earlier.{declares, declaration_of, subject}
use Rattle.cx_script.specs.Faults.{is_once_only, is_start, is_register}
use Rattle.cx_scenario.specs.Steps.{is_body, is_launch}

-- a line that may not stand beside one of this form with this subject
abbrev pub twice_among : List Filled → Form → List ℕ → Bool
twice_among e f w = list_any (λ (m : Filled). is_once_only m.form f && bytes_eq (subject m) w) e

and_false : (b : Bool) → (b && false) ≡ false
and_false true = refl
and_false false = refl

any_each : (p q : Filled → Bool) → ((m : Filled) → p m ≡ q m) → (e : List Filled) → list_any p e ≡ list_any q e
any_each p q h [] = refl
any_each p q h (m ∷ ms) = ap (λ (b : Bool). b || list_any p ms) (h m) ∙ ap (λ (b : Bool). q m || b) (any_each p q h ms)

named_test : (test : Filled → Bool) (e : List Filled) (w : List ℕ) → is_one_of (map subject (filter test e)) w ≡ list_any (λ (m : Filled). test m && bytes_eq (subject m) w) e
named_test test [] w = refl
named_test test (m ∷ ms) w = elim (test m) as (λ b. is_one_of (map subject (cond b (m ∷ filter test ms) (filter test ms))) w ≡ ((b && bytes_eq (subject m) w) || list_any (λ (n : Filled). test n && bytes_eq (subject n) w) ms)) [
  | true ↦ ap (λ (b : Bool). bytes_eq (subject m) w || b) (named_test test ms w)
  | false ↦ named_test test ms w
]

-- by the names of the lines of one form
pub named_any : (test : Filled → Bool) (g : Form) → ((m : Filled) → test m ≡ is_once_only m.form g) → (e : List Filled) (w : List ℕ) → is_one_of (map subject (filter test e)) w ≡ twice_among e g w
named_any test g h e w = named_test test e w ∙ any_each _ _ (λ m. ap (λ (b : Bool). b && bytes_eq (subject m) w) (h m)) e

pub body_once : (f : Form) → is_body f ≡ is_once_only f forms.Body
body_once forms.Body = refl
body_once forms.Start = refl
body_once forms.Launch = refl
body_once forms.Register = refl
body_once f = sym (and_false (is_some (makes f)))

pub start_once : (f : Form) → is_start f ≡ is_once_only f forms.Start
start_once forms.Body = refl
start_once forms.Start = refl
start_once forms.Launch = refl
start_once forms.Register = refl
start_once f = sym (and_false (is_some (makes f)))

pub launch_once : (f : Form) → is_launch f ≡ is_once_only f forms.Launch
launch_once forms.Body = refl
launch_once forms.Start = refl
launch_once forms.Launch = refl
launch_once forms.Register = refl
launch_once f = sym (and_false (is_some (makes f)))

pub register_once : (f : Form) → is_register f ≡ is_once_only f forms.Register
register_once forms.Body = refl
register_once forms.Start = refl
register_once forms.Launch = refl
register_once forms.Register = refl
register_once f = sym (and_false (is_some (makes f)))

-- ---- declarations

-- the forms that are once only among themselves, and declare nothing
abbrev pub is_apart : Form → Bool
is_apart forms.Body = true
is_apart forms.Start = true
is_apart forms.Launch = true
is_apart forms.Register = true
is_apart _ = false

declared_once : (f g : Form) → is_apart g ≡ false → is_once_only f g ≡ (is_some (makes f) && is_some (makes g))
declared_once forms.Body forms.Body h = absurd (true≢false h)
declared_once forms.Body _ h = refl
declared_once forms.Start forms.Start h = absurd (true≢false h)
declared_once forms.Start _ h = refl
declared_once forms.Launch forms.Launch h = absurd (true≢false h)
declared_once forms.Launch _ h = refl
declared_once forms.Register forms.Register h = absurd (true≢false h)
declared_once forms.Register _ h = refl
declared_once _ g h = refl

and_true : (b : Bool) → (b && true) ≡ b
and_true true = refl
and_true false = refl

and_none : (a b : Bool) → ((a && false) && b) ≡ false
and_none true b = refl
and_none false b = refl

found_any : (e : List Filled) (w : List ℕ) → is_some (declaration_of e w) ≡ list_any (λ (m : Filled). (is_some (makes m.form) && true) && bytes_eq (subject m) w) e
found_any [] w = refl
found_any (m ∷ ms) w = rw (and_true (is_some (makes m.form))) (elim (is_some (makes m.form) && bytes_eq (subject m) w) as (λ b. is_some (cond b (Some m) (find (declares w) ms)) ≡ (b || list_any (λ (n : Filled). (is_some (makes n.form) && true) && bytes_eq (subject n) w) ms)) [
  | true ↦ refl
  | false ↦ found_any ms w
])

found_none : (e : List Filled) (w : List ℕ) → false ≡ list_any (λ (m : Filled). (is_some (makes m.form) && false) && bytes_eq (subject m) w) e
found_none [] w = refl
found_none (m ∷ ms) w = rw (and_none (is_some (makes m.form)) (bytes_eq (subject m) w)) (found_none ms w)

-- by the declarations
pub declared_any : (g : Form) → is_apart g ≡ false → (e : List Filled) (w : List ℕ) → (is_some (makes g) && is_some (declaration_of e w)) ≡ twice_among e g w
declared_any g h e w =
    elim (is_some (makes g)) as (λ b. (b && is_some (declaration_of e w)) ≡ list_any (λ (m : Filled). (is_some (makes m.form) && b) && bytes_eq (subject m) w) e) [ true ↦ found_any e w | false ↦ found_none e w ]
    ∙ sym (any_each _ _ (λ m. ap (λ (b : Bool). b && bytes_eq (subject m) w) (declared_once m.form g h)) e)
