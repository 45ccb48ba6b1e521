-- No thread is started twice.
use Rattle.std.proofs.Common.{◌≡◌, ℕ, ◌+◌, ◌≤◌, ◌==◌, inl, inr, Bool, true, false, ◌&&◌, ◌||◌, List, [], ◌∷◌, ◌++◌, Option, Some, None, refl, sym, ap, subst, ◌∙◌, arith, eqb-true, append_assoc}
use Rattle.std.specs.List.{list_any}
use Rattle.std.specs.Str.{bytes_eq}
use Rattle.std.proofs.lemmas.Bool.{cases_Bool, and_parts}
use Rattle.std.proofs.lemmas.List.{append-nil}
use Rattle.std.proofs.lemmas.Slice.Eq.{bytes_eq-Decides}
use Rattle.cx_names.specs.declared.ObjectNo.{ObjectNo}
use Rattle.cx_machine.specs.Meaning.{bit}
use Rattle.cx_scene.specs.declared.call.Call.{Call}
use Rattle.cx_text.specs.declared.form.Form.{Form}
use Rattle.cx_text.specs.declared.form.Form.TheVariants as forms
use Rattle.cx_text.specs.declared.form.Made.{Made}
use Rattle.cx_text.specs.declared.form.Made.TheVariants as mades
use Rattle.cx_text.specs.Words.{Filled, Value, AWord, scenario_lines, fields_in}
use Rattle.cx_text.proofs.Rows.{IsWellFilled}
use Rattle.cx_script.specs.Earlier.{made_of, subject}
use Rattle.cx_script.specs.Faults.{is_start, is_once_only}
use Rattle.cx_script.specs.Script.{Names, names_of, name_at, place_in, call_of, line, if_recursive, waits_on, meets_at, drops_of}
use Rattle.cx_script.proofs.Found.{AreFound, all_found}
use Rattle.cx_script.proofs.Sound.{IsFine, AreFine}
use Rattle.cx_script.proofs.Settled.{AreSettled}
use Rattle.cx_script.proofs.Scenes.{settled_forth, calls_by, calls_cons}
use Rattle.cx_script.proofs.Sum.{total, total_append}
use Rattle.cx_asks.specs.Scenes.{starts_of, startings}

-- 1 where the line starts the thread of this name
abbrev pub start_weight : List ℕ → Filled → ℕ
start_weight name l = bit (is_start l.form && bytes_eq (subject l) name)

or_parts : (x y : Bool) → (x || y) ≡ false → (x ≡ false) × (y ≡ false)
or_parts true y h = absurd cc
or_parts false y h = (refl, h)

start_once : (f : Form) → is_start f ≡ true → is_once_only f forms.Start ≡ true
start_once forms.Start h = refl
start_once _ h = cc

start_is : (f : Form) → is_start f ≡ true → f ≡ forms.Start
start_is forms.Start h = refl
start_is _ h = cc

-- where no earlier line starts it, none is counted
none_counted : (name : List ℕ) (e : List Filled) → list_any (λ (m : Filled). is_once_only m.form forms.Start && bytes_eq (subject m) name) e ≡ false → total (start_weight name) e ≡ 0
none_counted name [] h = refl
none_counted name (m ∷ e) h =
    let p = or_parts (is_once_only m.form forms.Start && bytes_eq (subject m) name) (list_any (λ (k : Filled). is_once_only k.form forms.Start && bytes_eq (subject k) name) e) h in
    let rest = none_counted name e p.1 in
    let here : start_weight name m ≡ 0 = not_this (is_start m.form) refl p.0 in
    omega (arith, here, rest)
  where
    not_this : (b : Bool) → is_start m.form ≡ b → (is_once_only m.form forms.Start && bytes_eq (subject m) name) ≡ false → bit (b && bytes_eq (subject m) name) ≡ 0
    not_this false e q = refl
    not_this true e q = let once = start_once m.form e in let other : bytes_eq (subject m) name ≡ false = rw once at q in rw other refl

one_start : (name : List ℕ) (e : List Filled) (l : Filled) → IsFine 1 e l → total (start_weight name) e ≤ 1 → total (start_weight name) (e ++ l ∷ []) ≤ 1
one_start name e l fine le = elim (cases_Bool (is_start l.form && bytes_eq (subject l) name)) [
  | inr h ↦
      let none : total (start_weight name) (l ∷ []) ≡ 0 = rw h refl in
      let sum = total_append (start_weight name) e (l ∷ []) in
      omega (arith, none, sum, le)
  | inl h ↦
      let p = and_parts (is_start l.form) (bytes_eq (subject l) name) h in
      let form = start_is l.form p.0 in
      let same : subject l ≡ name = (bytes_eq-Decides (subject l) name).0 p.1 in
      let none = (or_parts _ _ fine.once).0 in
      let before : list_any (λ (m : Filled). is_once_only m.form forms.Start && bytes_eq (subject m) name) e ≡ false = subst (λ (w : List ℕ). list_any (λ (m : Filled). is_once_only m.form forms.Start && bytes_eq (subject m) w) e ≡ false) same (subst (λ (f : Form). list_any (λ (m : Filled). is_once_only m.form f && bytes_eq (subject m) (subject l)) e ≡ false) form none) in
      let zero_ = none_counted name e before in
      let one : total (start_weight name) (l ∷ []) ≡ 1 = rw h refl in
      let sum = total_append (start_weight name) e (l ∷ []) in
      omega (arith, one, sum, zero_)
]

all_starts : (name : List ℕ) (ls e : List Filled) → AreFine 1 e ls → total (start_weight name) e ≤ 1 → total (start_weight name) (e ++ ls) ≤ 1
all_starts name [] e fine le = subst (λ (t : List Filled). total (start_weight name) t ≤ 1) (sym (append-nil e)) le
all_starts name (l ∷ ls) e fine le = subst (λ (t : List Filled). total (start_weight name) t ≤ 1) (append_assoc e (l ∷ []) ls) (all_starts name ls (e ++ l ∷ []) fine.1 (one_start name e l fine.0 le))

pub started_once : (name : List ℕ) (ls : List Filled) → AreFine 1 [] ls → total (start_weight name) ls ≤ 1
started_once name ls fine = all_starts name ls [] fine (omega arith)

-- ---- the call of a line

abbrev starts_where : ℕ → Option Call → ℕ
starts_where u None = 0
starts_where u (Some c) = starts_of u c

none_below : (n : ℕ) → 0 ≤ n
none_below n = omega arith

none_is : (a n : ℕ) → a ≡ 0 → a ≤ n
none_is a n h = omega (arith, h)

if_starts : (u : ℕ) (k : Option Made) (a b : Call) → starts_of u a ≡ 0 → starts_of u b ≡ 0 → starts_of u (if_recursive k a b) ≡ 0
if_starts u None a b h k = k
if_starts u (Some mades.Recursive) a b h k = h
if_starts u (Some _) a b h k = k

waits_start : (u : ℕ) (k : Option Made) (q : ObjectNo) → starts_of u (waits_on k q) ≡ 0
waits_start u None q = refl
waits_start u (Some mades.Latch) q = refl
waits_start u (Some mades.Barrier) q = refl
waits_start u (Some _) q = refl

meets_start : (u : ℕ) (k : Option Made) (q : ObjectNo) → starts_of u (meets_at k q) ≡ 0
meets_start u None q = refl
meets_start u (Some mades.Latch) q = refl
meets_start u (Some _) q = refl

drops_start : (u : ℕ) (k : Option Made) (q : ObjectNo) → starts_of u (drops_of k q) ≡ 0
drops_start u None q = refl
drops_start u (Some mades.Stop) q = refl
drops_start u (Some mades.Async) q = refl
drops_start u (Some _) q = refl

starts_at : (names : Names) (k : Option Made) (u : ℕ) (f : Form) (vs : List Value) → IsWellFilled scenario_lines 1 (line f vs) → AreFound names (fields_in (line f vs)) vs → starts_where u (call_of names k (line f vs) f) ≤ start_weight (name_at names.threads u) (line f vs)
starts_at names k u forms.Start (AWord w ∷ []) fit found = go (place_in names.threads w == u) refl
  where
    go : (b : Bool) → (place_in names.threads w == u) ≡ b → bit b ≤ start_weight (name_at names.threads u) (line forms.Start (AWord w ∷ []))
    go false e = none_below (start_weight (name_at names.threads u) (line forms.Start (AWord w ∷ [])))
    go true e =
        let same : place_in names.threads w ≡ u = eqb-true (place_in names.threads w) u e in
        let name : name_at names.threads u ≡ w = ap (name_at names.threads) (sym same) ∙ found.0.at in
        let itself : bytes_eq w (name_at names.threads u) ≡ true = (bytes_eq-Decides w (name_at names.threads u)).1 (sym name) in
        let whole : start_weight (name_at names.threads u) (line forms.Start (AWord w ∷ [])) ≡ 1 = rw itself refl in
        let le : 1 ≤ start_weight (name_at names.threads u) (line forms.Start (AWord w ∷ [])) = omega (arith, whole) in
        le
starts_at names k u forms.Start _ fit found = absurd (assumption fit)
starts_at names k u forms.Lock vs fit found = none_is _ (start_weight (name_at names.threads u) (line forms.Lock vs)) (if_starts u k _ _ refl refl)
starts_at names k u forms.TryLock vs fit found = none_is _ (start_weight (name_at names.threads u) (line forms.TryLock vs)) (if_starts u k _ _ refl refl)
starts_at names k u forms.Wait vs fit found = none_is _ (start_weight (name_at names.threads u) (line forms.Wait vs)) (waits_start u k _)
starts_at names k u forms.ArriveAndWait vs fit found = none_is _ (start_weight (name_at names.threads u) (line forms.ArriveAndWait vs)) (meets_start u k _)
starts_at names k u forms.Drop vs fit found = none_is _ (start_weight (name_at names.threads u) (line forms.Drop vs)) (drops_start u k _)
starts_at names k u f vs fit found = none_below (start_weight (name_at names.threads u) (line f vs))

starts_said : (u n : ℕ) (q : Option Call) (c : Call) → starts_where u q ≤ n → q ≡ Some c → starts_of u c ≤ n
starts_said u n q c h e = subst (λ x. starts_where u x ≤ n) e h

both_at_most : (a b c d : ℕ) → a ≤ c → b ≤ d → a + b ≤ c + d
both_at_most a b c d h k = omega (arith, h, k)

pub calls_start : (ls : List Filled) (me : List ℕ) (u : ℕ) (cs : List Filled) → AreSettled 1 ls me cs → startings u (calls_by ls cs) ≤ total (start_weight (name_at (names_of ls).threads u)) cs
calls_start ls me u [] h = none_below 0
calls_start ls me u (l ∷ cs) h =
    let f = settled_forth ls me l h.0 in
    let found = all_found ls ls me (fields_in l) l.values (λ v m e. e) h.0.kind in
    let name = name_at (names_of ls).threads u in
    let one : starts_of u f.call ≤ start_weight name l = starts_said u (start_weight name l) (call_of (names_of ls) (made_of ls (subject l)) l l.form) f.call (starts_at (names_of ls) (made_of ls (subject l)) u l.form l.values h.0.filled found) f.is in
    let rest = calls_start ls me u cs h.1 in
    let e = calls_cons ls l cs f.call f.is in
    subst (λ (xs : List Call). startings u xs ≤ start_weight name l + total (start_weight name) cs) (sym e) (both_at_most (starts_of u f.call) (startings u (calls_by ls cs)) (start_weight name l) (total (start_weight name) cs) one rest)
