-- Lines that are no calls, where they stand in a text in order.
use Rattle.std.proofs.Common.{◌≡◌, ◌⊎◌, inl, inr, Bool, true, false, ◌&&◌, List, [], ◌∷◌, ◌++◌, Some, refl, sym, ap, subst, ◌∙◌, append_assoc}
use Rattle.std.proofs.Common.{ℕ}
use Rattle.std.specs.List.{AllByRecursion, list_any}
use Rattle.std.specs.Str.{bytes_eq}
use Rattle.std.proofs.lemmas.Bool.{or_from}
use Rattle.std.proofs.lemmas.List.{append-nil}
use Rattle.std.proofs.lemmas.List.Folds.{list_any-append}
use Rattle.cx_text.specs.declared.form.Form.{Form}
use Rattle.cx_text.specs.declared.form.Form.TheVariants as forms
use Rattle.cx_text.specs.declared.form.Made.{Made}
use Rattle.cx_text.specs.declared.form.Caller.TheVariants as callers
use Rattle.cx_text.specs.declared.form.Sort.TheVariants as sorts
use Rattle.cx_text.specs.Table.{who_may}
use Rattle.cx_text.specs.Words.{Filled, is_name, main_word}
use Rattle.cx_script.specs.Earlier.{ADeclaration, ABody, AMain, ACall, AnEnd, part_of, Declaring, Between, Inside, Over, is_main, made_of, may_stand, place_after, subject, this_body, this_thread}
use Rattle.cx_script.specs.Faults.{is_bad_order, is_once_only, has_unjoined}
use Rattle.cx_script.specs.Script.{version_line}
use Rattle.cx_script.proofs.Sound.{IsFine}
use Rattle.cx_script.proofs.Shape.{Block, block_lines, body_line, main_line, end_line, main_lines, place_next, no_main, AreCalls, AreDeclarations}
use Rattle.cx_script.proofs.Blocks.{call_part, any_middle}
use Rattle.cx_script.proofs.Agree.{Agree, is_plain_agree}
use Rattle.cx_script.proofs.Reorder.{clashes}
use Rattle.cx_script.proofs.Written.{body_filled}

-- ---- forms that clash with none, or with one

once_end : (f : Form) → is_once_only f forms.End ≡ false
once_end forms.Thread = refl
once_end _ = refl

once_main : (f : Form) → is_once_only f forms.Main ≡ false
once_main forms.Thread = refl
once_main _ = refl

pub once_body : (f : Form) → (part_of f ≡ ABody → ⊥) → is_once_only f forms.Body ≡ false
once_body forms.Body h = absurd (h refl)
once_body _ h = refl

none_clash : (l : Filled) → ((f : Form) → is_once_only f l.form ≡ false) → (e : List Filled) → list_any (clashes l) e ≡ false
none_clash l h [] = refl
none_clash l h (m ∷ e) = rw (h m.form) (none_clash l h e)

-- ---- the lines themselves

pub end_fine : (e : List Filled) → place_after e ≡ Inside → is_bad_order e end_line ≡ false → IsFine 1 e end_line
end_fine e place order = record {
  filled = tt;
  stands = rw place refl;
  few = refl;
  known = refl;
  kind = refl;
  inside = refl;
  once = or_from _ _ (none_clash end_line once_end e) refl;
  latch = refl;
  order = order;
}

pub main_fine : (e : List Filled) → may_stand (place_after e) AMain ≡ true → IsFine 1 e main_line
main_fine e place = record {
  filled = tt;
  stands = place;
  few = refl;
  known = refl;
  kind = refl;
  inside = refl;
  once = or_from _ _ (none_clash main_line once_main e) refl;
  latch = refl;
  order = refl;
}

pub body_fine : (e : List Filled) (n : List ℕ) (m : Made) → is_name 1 n ≡ true → may_stand (place_after e) ABody ≡ true → made_of e n ≡ Some m → who_may sorts.Bodied m ≡ Some callers.Anyone
    → list_any (clashes (body_line n)) e ≡ false → IsFine 1 e (body_line n)
body_fine e n m named place made may apart = record {
  filled = body_filled n named;
  stands = place;
  few = refl;
  known = rw made refl;
  kind = rw (made, may) refl;
  inside = refl;
  once = or_from _ _ apart refl;
  latch = refl;
  order = refl;
}

-- ---- places

-- where a body may begin, or main's
pub record IsGap (e : List Filled) : Type 0 where
  pub body : may_stand (place_after e) ABody ≡ true
  pub main : may_stand (place_after e) AMain ≡ true
  pub before : list_any is_main e ≡ false

pub place_calls : (cs e : List Filled) → place_after e ≡ Inside → AreCalls cs → place_after (e ++ cs) ≡ Inside
place_calls [] e h calls = subst (λ (t : List Filled). place_after t ≡ Inside) (sym (append-nil e)) h
place_calls (l ∷ cs) e h calls = subst (λ (t : List Filled). place_after t ≡ Inside) (append_assoc e (l ∷ []) cs) (place_calls cs (e ++ l ∷ []) (place_next e l ACall (call_part l calls.0)) calls.1)

-- in a body that a line begins
pub place_in_body : (e : List Filled) (first : Filled) (cs : List Filled) → (part_of first.form ≡ ABody) ⊎ (part_of first.form ≡ AMain) → AreCalls cs → place_after (e ++ first ∷ cs) ≡ Inside
place_in_body e first cs (inl p) calls = subst (λ (t : List Filled). place_after t ≡ Inside) (append_assoc e (first ∷ []) cs) (place_calls cs (e ++ first ∷ []) (place_next e first ABody p) calls)
place_in_body e first cs (inr p) calls = subst (λ (t : List Filled). place_after t ≡ Inside) (append_assoc e (first ∷ []) cs) (place_calls cs (e ++ first ∷ []) (place_next e first AMain p) calls)

calls_no_main : (cs : List Filled) → AreCalls cs → list_any is_main cs ≡ false
calls_no_main [] h = refl
calls_no_main (c ∷ cs) h = rw (call_part c h.0) (calls_no_main cs h.1)

block_no_main : (b : Block) → AreCalls b.calls → list_any is_main (block_lines b) ≡ false
block_no_main b h = list_any-append is_main b.calls (end_line ∷ []) ∙ or_from _ _ (calls_no_main b.calls h) refl

pub gap_after : (e : List Filled) (b : Block) → AreCalls b.calls → IsGap e → IsGap (e ++ block_lines b)
gap_after e b calls gap =
    let f : List Filled = e ++ body_line b.name ∷ b.calls in
    let same : f ++ end_line ∷ [] ≡ e ++ block_lines b = append_assoc e (body_line b.name ∷ b.calls) (end_line ∷ []) in
    let before : list_any is_main (e ++ block_lines b) ≡ false = list_any-append is_main e (block_lines b) ∙ or_from _ _ gap.before (block_no_main b calls) in
    let none : list_any is_main (f ++ end_line ∷ []) ≡ false = ap (λ (t : List Filled). list_any is_main t) same ∙ before in
    let place : place_after (e ++ block_lines b) ≡ Between = ap (λ (t : List Filled). place_after t) (sym same) ∙ place_next f end_line AnEnd refl ∙ rw none refl in
    record { body = rw place refl; main = rw place refl; before = before }

-- after the declarations
declaring : (ds e : List Filled) → place_after e ≡ Declaring → list_any is_main e ≡ false → AreDeclarations ds → (place_after (e ++ ds) ≡ Declaring) × (list_any is_main (e ++ ds) ≡ false)
declaring [] e place none are = rw append-nil (place, none)
declaring (d ∷ ds) e place none are =
    let r = declaring ds (e ++ d ∷ []) (place_next e d ADeclaration are.0) (no_main e d none (rw are.0 refl)) are.1 in
    let same : (e ++ d ∷ []) ++ ds ≡ e ++ d ∷ ds = append_assoc e (d ∷ []) ds in
    (ap (λ (t : List Filled). place_after t) (sym same) ∙ r.0, ap (λ (t : List Filled). list_any is_main t) (sym same) ∙ r.1)

pub gap_declared : (ds : List Filled) → AreDeclarations ds → IsGap (version_line ∷ ds)
gap_declared ds are = let r = declaring ds (version_line ∷ []) refl refl are in record { body = rw r.0 refl; main = rw r.0 refl; before = r.1 }

-- after main's body nothing may follow
pub over_at_end : (e cs : List Filled) → place_after (e ++ main_lines cs) ≡ Over
over_at_end e cs =
    let f : List Filled = e ++ main_line ∷ cs in
    let same : f ++ end_line ∷ [] ≡ e ++ main_lines cs = append_assoc e (main_line ∷ cs) (end_line ∷ []) in
    let some : list_any is_main (f ++ end_line ∷ []) ≡ true = ap (λ (t : List Filled). list_any is_main t) same ∙ any_middle is_main e (cs ++ end_line ∷ []) main_line refl in
    ap (λ (t : List Filled). place_after t) (sym same) ∙ place_next f end_line AnEnd refl ∙ rw some refl

-- ---- bodies of other names

pub fresh_lines : (n : List ℕ) (ms : List Filled) → AllByRecursion (λ (m : Filled). is_once_only m.form forms.Body ≡ false) ms → list_any (clashes (body_line n)) ms ≡ false
fresh_lines n [] h = refl
fresh_lines n (m ∷ ms) h = rw h.0 (fresh_lines n ms h.1)

call_no_body : (cs : List Filled) → AreCalls cs → AllByRecursion (λ (m : Filled). is_once_only m.form forms.Body ≡ false) cs
call_no_body [] h = tt
call_no_body (c ∷ cs) h = (once_body c.form (λ q. let r : ACall ≡ ABody = sym (call_part c h.0) ∙ q in cc), call_no_body cs h.1)

declared_no_body : (ds : List Filled) → AreDeclarations ds → AllByRecursion (λ (m : Filled). is_once_only m.form forms.Body ≡ false) ds
declared_no_body [] h = tt
declared_no_body (d ∷ ds) h = (once_body d.form (λ q. let r : ADeclaration ≡ ABody = sym h.0 ∙ q in cc), declared_no_body ds h.1)

pub fresh_declared : (n : List ℕ) (ds : List Filled) → AreDeclarations ds → list_any (clashes (body_line n)) (version_line ∷ ds) ≡ false
fresh_declared n ds are = fresh_lines n (version_line ∷ ds) (refl, declared_no_body ds are)

pub fresh_more : (n : List ℕ) (e : List Filled) (b : Block) → AreCalls b.calls → bytes_eq b.name n ≡ false → list_any (clashes (body_line n)) e ≡ false → list_any (clashes (body_line n)) (e ++ block_lines b) ≡ false
fresh_more n e b calls other h =
    let rest : list_any (clashes (body_line n)) (b.calls ++ end_line ∷ []) ≡ false =
    list_any-append (clashes (body_line n)) b.calls (end_line ∷ []) ∙ or_from _ _ (fresh_lines n b.calls (call_no_body b.calls calls)) refl in
    list_any-append (clashes (body_line n)) e (block_lines b) ∙ or_from _ _ h (rw other rest)

-- ---- the end of main

unjoined_agree : (e f : List Filled) → Agree e f → (cs : List Filled) → has_unjoined e cs ≡ has_unjoined f cs
unjoined_agree e f h [] = refl
unjoined_agree e f h (l ∷ cs) = rw (is_plain_agree e f h (subject l), unjoined_agree e f h cs) refl

both_same : (a b c d : Bool) → a ≡ b → c ≡ d → (a && c) ≡ (b && d)
both_same a b c d p q = rw (p, q) refl

pub order_moved : (e f : List Filled) → Agree e f → this_thread e ≡ this_thread f → this_body e ≡ this_body f → is_bad_order e end_line ≡ is_bad_order f end_line
order_moved e f agree thread body =
    both_same (bytes_eq main_word (this_thread e)) (bytes_eq main_word (this_thread f)) (has_unjoined e (this_body e)) (has_unjoined f (this_body f))
    (ap (λ (u : List ℕ). bytes_eq main_word u) thread)
    (ap (λ (t : List Filled). has_unjoined e t) body ∙ unjoined_agree e f agree (this_body f))

-- the end of another thread's body
pub order_other : (e : List Filled) (n : List ℕ) → this_thread e ≡ n → bytes_eq main_word n ≡ false → is_bad_order e end_line ≡ false
order_other e n thread other = both_same (bytes_eq main_word (this_thread e)) false (has_unjoined e (this_body e)) (has_unjoined e (this_body e)) (ap (λ (u : List ℕ). bytes_eq main_word u) thread ∙ other) refl
