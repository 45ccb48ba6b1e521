-- The bodies as they are read are the bodies of the threads.
use Rattle.std.proofs.Common.{◌≡◌, inl, inr, ℕ, true, false, cond, ◌&&◌, List, [], ◌∷◌, ◌++◌, map, Option, Some, None, refl, sym, ap, ◌∙◌, append_assoc}
use Rattle.std.specs.Prelude.{if◌then◌else◌}
use Rattle.std.specs.Option.{option_map}
use Rattle.std.specs.List.{flat_map, take_while}
use Rattle.std.specs.Str.{bytes_eq}
use Rattle.std.proofs.Math.Numerals.{one-add}
use Rattle.std.proofs.lemmas.List.{append-nil, map-append}
use Rattle.std.proofs.lemmas.Grind.{flat_map-append}
use Rattle.std.proofs.lemmas.Bool.{cases_Bool}
use Rattle.cx_scene.specs.declared.call.Call.{Call}
use Rattle.cx_text.specs.declared.form.Form.{Form}
use Rattle.cx_text.specs.declared.form.Form.TheVariants as forms
use Rattle.cx_text.specs.Words.{Filled, Value}
use Rattle.cx_script.specs.Earlier.{is_call, begins_body, subject, made_of}
use Rattle.cx_script.specs.Script.{Names, call_of, as_list, calls_of, after_first, begins_body_of}
use Rattle.cx_scenario.specs.Steps.{GroupOf, GroupsState, called, groups_with, begun_name}
use Rattle.cx_scenario.specs.Finished.{all_groups, calls_in}
use Rattle.cx_scenario.proofs.Parts.{begin_no_call}

-- ---- bodies as lines

pub record Raw : Type 0 where
  pub thread : List ℕ
  pub lines : List Filled

pub record Raws : Type 0 where
  pub done : List Raw
  pub open_one : Option Raw

abbrev pub more_lines : Filled → Raw → Raw
more_lines l g = record { thread = g.thread; lines = g.lines ++ l ∷ [] }

abbrev pub raw_step : Raws → Filled → Raws
raw_step g l =
    if begins_body l then record { done = g.done ++ as_list g.open_one; open_one = Some (record { thread = begun_name l; lines = [] }) }
    else (if is_call l then record { done = g.done; open_one = option_map (more_lines l) g.open_one } else record { done = g.done ++ as_list g.open_one; open_one = None })

abbrev pub raw_from : Raws → List Filled → Raws
raw_from g [] = g
raw_from g (l ∷ ls) = raw_from (raw_step g l) ls

abbrev pub no_raws : Raws
no_raws = record { done = []; open_one = None }

pub raw_more : (g : Raws) (ls : List Filled) (l : Filled) → raw_from g (ls ++ l ∷ []) ≡ raw_step (raw_from g ls) l
raw_more g [] l = refl
raw_more g (m ∷ ls) l = raw_more (raw_step g m) ls l

abbrev pub flushed : Raws → List Raw
flushed g = g.done ++ as_list g.open_one

-- the bodies, each where it begins
abbrev pub grouped : List Filled → List Raw
grouped [] = []
grouped (l ∷ ls) = if begins_body l then record { thread = begun_name l; lines = take_while is_call ls } ∷ grouped ls else grouped ls

-- a call or not, at the head of a body
while_call : (l : Filled) (ls : List Filled) → is_call l ≡ true → take_while is_call (l ∷ ls) ≡ l ∷ take_while is_call ls
while_call l ls h = rw (h, one-add) refl

while_other : (l : Filled) (ls : List Filled) → is_call l ≡ false → take_while is_call (l ∷ ls) ≡ []
while_other l ls h = rw h refl

step_begins : (g : Raws) (l : Filled) → begins_body l ≡ true → raw_step g l ≡ record { done = g.done ++ as_list g.open_one; open_one = Some (record { thread = begun_name l; lines = [] }) }
step_begins g l b = rw b refl

step_calls : (g : Raws) (l : Filled) → begins_body l ≡ false → is_call l ≡ true → raw_step g l ≡ record { done = g.done; open_one = option_map (more_lines l) g.open_one }
step_calls g l b c = rw (b, c) refl

step_ends : (g : Raws) (l : Filled) → begins_body l ≡ false → is_call l ≡ false → raw_step g l ≡ record { done = g.done ++ as_list g.open_one; open_one = None }
step_ends g l b c = rw (b, c) refl

grouped_begins : (l : Filled) (ls : List Filled) → begins_body l ≡ true → grouped (l ∷ ls) ≡ record { thread = begun_name l; lines = take_while is_call ls } ∷ grouped ls
grouped_begins l ls b = rw b refl

grouped_goes : (l : Filled) (ls : List Filled) → begins_body l ≡ false → grouped (l ∷ ls) ≡ grouped ls
grouped_goes l ls b = rw b refl

abbrev open_raw : List Raw → List ℕ → List Filled → Raws
open_raw done t cs = record { done = done; open_one = Some (record { thread = t; lines = cs }) }

abbrev shut_raw : List Raw → Raws
shut_raw done = record { done = done; open_one = None }

-- from here on
abbrev ends_as : List Filled → Raws → List Raw
ends_as ls g = flushed (raw_from g ls)

-- what comes of lines where no body is open, and where one is
pub flush_is : (ls : List Filled)
    → ((done : List Raw) → flushed (raw_from (record { done = done; open_one = None }) ls) ≡ done ++ grouped ls)
    × ((done : List Raw) (t : List ℕ) (cs : List Filled) → flushed (raw_from (record { done = done; open_one = Some (record { thread = t; lines = cs }) }) ls) ≡ done ++ record { thread = t; lines = cs ++ take_while is_call ls } ∷ grouped ls)
flush_is [] = (
  (λ done. refl),
  (λ done t cs. ap (λ (x : List Filled). done ++ record { thread = t; lines = x } ∷ []) (sym (append-nil cs))),
)
flush_is (l ∷ ls) =
    let later = flush_is ls in (
      (λ done. elim (cases_Bool (begins_body l)) [
        | inl b ↦
            ap (λ (g : Raws). ends_as ls g) (step_begins (shut_raw done) l b ∙ ap (λ (x : List Raw). open_raw x (begun_name l) []) (append-nil done))
            ∙ later.1 done (begun_name l) []
            ∙ ap (λ (x : List Raw). done ++ x) (sym (grouped_begins l ls b))
        | inr b ↦ elim (cases_Bool (is_call l)) [
          | inl c ↦ ap (λ (g : Raws). ends_as ls g) (step_calls (shut_raw done) l b c) ∙ later.0 done ∙ ap (λ (x : List Raw). done ++ x) (sym (grouped_goes l ls b))
          | inr c ↦ ap (λ (g : Raws). ends_as ls g) (step_ends (shut_raw done) l b c ∙ ap (λ (x : List Raw). shut_raw x) (append-nil done)) ∙ later.0 done ∙ ap (λ (x : List Raw). done ++ x) (sym (grouped_goes l ls b))
        ]
      ]),
      (λ done t cs. elim (cases_Bool (begins_body l)) [
        | inl b ↦
            ap (λ (g : Raws). ends_as ls g) (step_begins (open_raw done t cs) l b)
            ∙ later.1 (done ++ record { thread = t; lines = cs } ∷ []) (begun_name l) []
            ∙ append_assoc done (record { thread = t; lines = cs } ∷ []) (record { thread = begun_name l; lines = take_while is_call ls } ∷ grouped ls)
            ∙ ap (λ (x : List Raw). done ++ record { thread = t; lines = cs } ∷ x) (sym (grouped_begins l ls b))
            ∙ ap (λ (x : List Filled). done ++ record { thread = t; lines = x } ∷ grouped (l ∷ ls)) (sym (append-nil cs) ∙ ap (λ (x : List Filled). cs ++ x) (sym (while_other l ls (begin_no_call l b))))
        | inr b ↦ elim (cases_Bool (is_call l)) [
          | inl c ↦
              ap (λ (g : Raws). ends_as ls g) (step_calls (open_raw done t cs) l b c)
              ∙ later.1 done t (cs ++ l ∷ [])
              ∙ ap (λ (x : List Filled). done ++ record { thread = t; lines = x } ∷ grouped ls) (append_assoc cs (l ∷ []) (take_while is_call ls) ∙ ap (λ (x : List Filled). cs ++ x) (sym (while_call l ls c)))
              ∙ ap (λ (x : List Raw). done ++ record { thread = t; lines = cs ++ take_while is_call (l ∷ ls) } ∷ x) (sym (grouped_goes l ls b))
          | inr c ↦
              ap (λ (g : Raws). ends_as ls g) (step_ends (open_raw done t cs) l b c)
              ∙ later.0 (done ++ record { thread = t; lines = cs } ∷ [])
              ∙ append_assoc done (record { thread = t; lines = cs } ∷ []) (grouped ls)
              ∙ ap (λ (x : List Raw). done ++ record { thread = t; lines = cs } ∷ x) (sym (grouped_goes l ls b))
              ∙ ap (λ (x : List Filled). done ++ record { thread = t; lines = x } ∷ grouped (l ∷ ls)) (sym (append-nil cs) ∙ ap (λ (x : List Filled). cs ++ x) (sym (while_other l ls c)))
        ]
      ]),
    )

-- the lines of a thread's body
abbrev pub lines_in : List Raw → List ℕ → List Filled
lines_in [] name = []
lines_in (g ∷ gs) name = if bytes_eq g.thread name then g.lines else lines_in gs name

begins_is : (name : List ℕ) (f : Form) (vs : List Value) → begins_body_of name (record { form = f; values = vs }) ≡ (begins_body (record { form = f; values = vs }) && bytes_eq (begun_name (record { form = f; values = vs })) name)
begins_is name forms.Main vs = refl
begins_is name forms.Body vs = refl
begins_is name _ vs = refl

pub lines_are : (name : List ℕ) (ls : List Filled) → lines_in (grouped ls) name ≡ take_while is_call (after_first (begins_body_of name) ls)
lines_are name [] = refl
lines_are name (l ∷ ls) = rw (begins_is name l.form l.values) (elim (begins_body l) as (λ b. lines_in (cond b (record { thread = begun_name l; lines = take_while is_call ls } ∷ grouped ls) (grouped ls)) name ≡ take_while is_call (cond (b && bytes_eq (begun_name l) name) ls (after_first (begins_body_of name) ls))) [
  | true ↦ elim (bytes_eq (begun_name l) name) as (λ c. cond c (take_while is_call ls) (lines_in (grouped ls) name) ≡ take_while is_call (cond c ls (after_first (begins_body_of name) ls))) [ true ↦ refl | false ↦ lines_are name ls ]
  | false ↦ lines_are name ls
])

-- ---- bodies as calls

abbrev pub calls_for : Names → List Filled → List Filled → List Call
calls_for names e ls = flat_map (λ (l : Filled). as_list (call_of names (made_of e (subject l)) l l.form)) ls

abbrev pub resolved : Names → List Filled → Raw → GroupOf
resolved names e g = record { thread = g.thread; calls = calls_for names e g.lines }

abbrev pub resolved_all : Names → List Filled → Raws → GroupsState
resolved_all names e g = record { done = map (resolved names e) g.done; open_one = option_map (resolved names e) g.open_one }

as_list_map : (f : Raw → GroupOf) (o : Option Raw) → as_list (option_map f o) ≡ map f (as_list o)
as_list_map f None = refl
as_list_map f (Some x) = refl

module _ (names : Names) (e : List Filled) where
  flushed_all : (g : Raws) → all_groups (resolved_all names e g) ≡ map (resolved names e) (flushed g)
  flushed_all g = ap (λ (t : List GroupOf). map (resolved names e) g.done ++ t) (as_list_map (resolved names e) g.open_one) ∙ sym (map-append (resolved names e) g.done (as_list g.open_one))

  one_call : (l : Filled) (cs : List Filled) → calls_for names e (cs ++ l ∷ []) ≡ calls_for names e cs ++ as_list (call_of names (made_of e (subject l)) l l.form)
  one_call l cs = flat_map-append _ cs (l ∷ []) ∙ ap (λ (t : List Call). calls_for names e cs ++ t) (append-nil (as_list (call_of names (made_of e (subject l)) l l.form)))

  call_step : (l : Filled) (done : List Raw) (o : Option Raw) (c : Option Call) → call_of names (made_of e (subject l)) l l.form ≡ c
      → called (record { done = map (resolved names e) done; open_one = option_map (resolved names e) o }) c ≡ record { done = map (resolved names e) done; open_one = option_map (resolved names e) (option_map (more_lines l) o) }
  call_step l done None None h = refl
  call_step l done None (Some c) h = refl
  call_step l done (Some g) None h = ap (λ (t : List Call). record { done = map (resolved names e) done; open_one = Some (record { thread = g.thread; calls = t }) }) (sym (one_call l g.lines ∙ rw h (append-nil (calls_for names e g.lines))))
  call_step l done (Some g) (Some c) h = ap (λ (t : List Call). record { done = map (resolved names e) done; open_one = Some (record { thread = g.thread; calls = t }) }) (sym (one_call l g.lines ∙ rw h refl))

  pub groups_next : (g : Raws) (l : Filled) → groups_with (resolved_all names e g) l (call_of names (made_of e (subject l)) l l.form) ≡ resolved_all names e (raw_step g l)
  groups_next g l = elim (cases_Bool (begins_body l)) [
    | inl b ↦ rw b (ap (λ (t : List GroupOf). record { done = t; open_one = Some (record { thread = begun_name l; calls = [] }) }) (flushed_all g))
    | inr b ↦ elim (cases_Bool (is_call l)) [
      | inl c ↦ rw (b, c) (call_step l g.done g.open_one (call_of names (made_of e (subject l)) l l.form) refl)
      | inr c ↦ rw (b, c) (ap (λ (t : List GroupOf). record { done = t; open_one = None }) (flushed_all g))
    ]
  ]

  pub calls_are : (gs : List Raw) (name : List ℕ) → calls_in (map (resolved names e) gs) name ≡ calls_for names e (lines_in gs name)
  calls_are [] name = refl
  calls_are (g ∷ gs) name = elim (bytes_eq g.thread name) as (λ b. cond b (calls_for names e g.lines) (calls_in (map (resolved names e) gs) name) ≡ calls_for names e (cond b g.lines (lines_in gs name))) [ true ↦ refl | false ↦ calls_are gs name ]

-- the calls of each thread in the end
pub calls_end : (names : Names) (e : List Filled) (name : List ℕ) → calls_in (all_groups (resolved_all names e (raw_from no_raws e))) name ≡ calls_of names e name
calls_end names e name =
    ap (λ (t : List GroupOf). calls_in t name) (flushed_all names e (raw_from no_raws e))
    ∙ calls_are names e (flushed (raw_from no_raws e)) name
    ∙ ap (λ (t : List Raw). calls_for names e (lines_in t name)) ((flush_is e).0 [])
    ∙ ap (λ (t : List Filled). calls_for names e t) (lines_are name e)
