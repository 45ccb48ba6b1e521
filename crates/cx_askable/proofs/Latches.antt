-- No more is taken from a latch than it counts.
use Rattle.std.proofs.Common.{◌≡◌, ℕ, zero, suc, ◌+◌, ◌≤◌, ◌==◌, inl, inr, ℤ, pos, Bool, true, false, ◌&&◌, ◌||◌, not, List, [], ◌∷◌, ◌++◌, Option, Some, None, slice_get, if◌then◌else◌, refl, sym, ap, subst, ◌∙◌, arith, eq-eqb, eqb-true, append_assoc}
use Rattle.std.specs.Prelude.{find, nat_lt, nat_eq}
use Rattle.std.specs.List.{flat_map}
use Rattle.std.specs.Str.{bytes_eq}
use Rattle.std.proofs.lemmas.Bool.{cases_Bool, and_parts, ltb-false}
use Rattle.std.proofs.lemmas.List.{append-nil}
use Rattle.std.proofs.lemmas.Slice.Eq.{bytes_eq-Decides}
use Rattle.cx_names.specs.declared.ObjectNo.{ObjectNo}
use Rattle.cx_scene.specs.declared.declared.Object.{Object}
use Rattle.cx_scene.specs.declared.declared.Object.TheVariants as objects
use Rattle.cx_scene.specs.declared.call.Call.{Call}
use Rattle.cx_text.specs.declared.form.Form.{Form}
use Rattle.cx_text.specs.declared.form.Form.TheVariants as forms
use Rattle.cx_text.specs.declared.form.Made.{Made}
use Rattle.cx_text.specs.declared.form.Made.TheVariants as mades
use Rattle.cx_text.specs.declared.form.Sort.TheVariants as sorts
use Rattle.cx_text.specs.declared.form.Caller.{Caller}
use Rattle.cx_text.specs.Table.{makes, who_may}
use Rattle.cx_text.specs.Words.{Filled, Value, AWord, ANumber, scenario_lines, fields_in}
use Rattle.cx_text.proofs.Rows.{IsWellFilled}
use Rattle.cx_script.specs.declared.declared.Declared.{Declared}
use Rattle.cx_script.specs.declared.declared.Declared.TheVariants as declared
use Rattle.cx_script.specs.Earlier.{is_call, declares, made_of, subject, number_at, fits_sort}
use Rattle.cx_script.specs.Faults.{makes_object, takes, taken, count_in, is_latch, numbers_of, any_misfit}
use Rattle.cx_script.specs.Script.{Names, names_of, name_at, place_in, natural_at, declared_of, declarations_of, call_of, line, if_recursive, waits_on, meets_at, drops_of, version_line}
use Rattle.cx_script.specs.Numbered.{objects_made, objects_from}
use Rattle.cx_script.proofs.Found.{InObjects, fits_is, made_cases, makes_by, known_found}
use Rattle.cx_script.proofs.Objects.{object_at}
use Rattle.cx_script.proofs.Agree.{Agree, DeclareNone, agree_past, is_latch_agree, numbers_agree}
use Rattle.cx_script.proofs.Sound.{IsFine, AreFine}
use Rattle.cx_script.proofs.Shape.{block_lines, main_lines, AreDeclarations}
use Rattle.cx_script.proofs.Blocks.{fine_split}
use Rattle.cx_script.proofs.Settled.{AreSettled, agree_more, none_append}
use Rattle.cx_script.proofs.Scenes.{settled_forth, calls_by, calls_cons}
use Rattle.cx_script.proofs.Sum.{total, total_append}
use Rattle.cx_script.proofs.Whole.{IsWhole, Parts, none_of_blocks, none_of_main}
use Rattle.cx_asks.specs.Scenes.{takes_of, takings, count_of, count_at}

-- ---- what the lines of a text take

-- what a line takes from the latch of this name
abbrev pub weight : List ℕ → Filled → ℕ
weight name l = if is_call l && bytes_eq (subject l) name then count_in (takes l) else 0

taken_is : (name : List ℕ) (ls : List Filled) → taken name ls ≡ total (weight name) ls
taken_is name [] = refl
taken_is name (l ∷ ls) = ap (λ (n : ℕ). weight name l + n) (taken_is name ls)

same_bytes : (u w : List ℕ) → bytes_eq u w ≡ true → u ≡ w
same_bytes u w h = (bytes_eq-Decides u w).0 h

nothing_more : (a b c n : ℕ) → a ≡ b + c → c ≡ 0 → b ≤ n → a ≤ n
nothing_more a b c n h k le = omega (arith, h, k, le)

three_false : (a b c : Bool) → (a && b && c) ≡ false → a ≡ true → b ≡ true → c ≡ false
three_false true true false h p q = refl
three_false true true true h p q = cc
three_false true false c h p q = cc
three_false false b c h p q = cc

-- a call keeps within the count, and other lines take nothing
one_within : (ls e : List Filled) (name : List ℕ) (l : Filled) → Agree e ls → IsFine 1 e l → is_latch ls name ≡ true → total (weight name) e ≤ count_in (numbers_of ls name) → total (weight name) (e ++ l ∷ []) ≤ count_in (numbers_of ls name)
one_within ls e name l agree fine latch le = elim (cases_Bool (is_call l && bytes_eq (subject l) name)) [
  | inr h ↦
      let none : total (weight name) (l ∷ []) ≡ 0 = rw h refl in
      nothing_more (total (weight name) (e ++ l ∷ [])) (total (weight name) e) (total (weight name) (l ∷ [])) (count_in (numbers_of ls name)) (total_append (weight name) e (l ∷ [])) none le
  | inl h ↦
      let p = and_parts (is_call l) (bytes_eq (subject l) name) h in
      let same = same_bytes (subject l) name p.1 in
      let there : is_latch e (subject l) ≡ true = ap (is_latch e) same ∙ (is_latch_agree e ls agree name ∙ latch) in
      let under = three_false (is_call l) (is_latch e (subject l)) (nat_lt (count_in (numbers_of e (subject l))) (taken (subject l) (e ++ l ∷ []))) fine.latch p.0 there in
      let at_name : nat_lt (count_in (numbers_of e name)) (taken name (e ++ l ∷ [])) ≡ false = subst (λ (w : List ℕ). nat_lt (count_in (numbers_of e w)) (taken w (e ++ l ∷ [])) ≡ false) same under in
      let low : taken name (e ++ l ∷ []) ≤ count_in (numbers_of e name) = not_above (taken name (e ++ l ∷ [])) (count_in (numbers_of e name)) at_name in
      let a : total (weight name) (e ++ l ∷ []) ≤ count_in (numbers_of e name) = subst (λ (n : ℕ). n ≤ count_in (numbers_of e name)) (taken_is name (e ++ l ∷ [])) low in
      subst (λ (z : ℤ). total (weight name) (e ++ l ∷ []) ≤ count_in z) (numbers_agree e ls agree name) a
]
  where
    not_above : (n m : ℕ) → nat_lt m n ≡ false → n ≤ m
    not_above n m h = ltb-false m n h

all_within : (ls : List Filled) (name : List ℕ) (ys e : List Filled) → Agree e ls → DeclareNone ys → AreFine 1 e ys → is_latch ls name ≡ true → total (weight name) e ≤ count_in (numbers_of ls name) → total (weight name) (e ++ ys) ≤ count_in (numbers_of ls name)
all_within ls name [] e agree none fine latch le = subst (λ (t : List Filled). total (weight name) t ≤ count_in (numbers_of ls name)) (sym (append-nil e)) le
all_within ls name (l ∷ ys) e agree none fine latch le =
    let step = one_within ls e name l agree fine.0 latch le in
    let rest = all_within ls name ys (e ++ l ∷ []) (agree_more e (l ∷ []) ls agree (none.0, tt)) none.1 fine.1 latch step in
    subst (λ (t : List Filled). total (weight name) t ≤ count_in (numbers_of ls name)) (append_assoc e (l ∷ []) ys) rest

none_declared : (name : List ℕ) (ds : List Filled) → AreDeclarations ds → total (weight name) ds ≡ 0
none_declared name [] h = refl
none_declared name (d ∷ ds) h =
    let c : is_call d ≡ false = rw h.0 refl in
    let here : weight name d ≡ 0 = rw c refl in
    let rest = none_declared name ds h.1 in
    omega (arith, here, rest)

-- the whole text takes no more from a latch than it counts
pub latch_within : (ls : List Filled) → IsWhole ls → (p : Parts ls) (name : List ℕ) → is_latch ls name ≡ true → total (weight name) ls ≤ count_in (numbers_of ls name)
latch_within ls w p name latch =
    let sh = p.shape in
    let base : List Filled = version_line ∷ sh.declarations in
    let rest : List Filled = flat_map block_lines sh.blocks ++ main_lines sh.mains in
    let whole : AreFine 1 [] (base ++ rest) = subst (λ (t : List Filled). AreFine 1 [] t) sh.is w.fine in
    let two = fine_split 1 [] base rest whole in
    let none : DeclareNone rest = none_append (flat_map block_lines sh.blocks) (main_lines sh.mains) (none_of_blocks sh.blocks sh.calls) (none_of_main sh.mains sh.main_calls) in
    let agree : Agree base ls = λ u. sym (agree_past base rest none u) ∙ ap (λ (t : List Filled). find (declares u) t) (sym sh.is) in
    let nothing : total (weight name) base ≤ count_in (numbers_of ls name) = (let z = none_declared name sh.declarations sh.are in omega (arith, z)) in
    subst (λ (t : List Filled). total (weight name) t ≤ count_in (numbers_of ls name)) (sym sh.is) (all_within ls name rest base agree none two.1 latch nothing)

-- ---- a latch by its number

count_there : (xs : List Object) (i : ℕ) (x : Object) → slice_get xs i ≡ Some x → count_at xs i ≡ count_of x
count_there [] i x e = cc
count_there (y ∷ ys) zero x e = let same : y ≡ x = cc in ap count_of same
count_there (y ∷ ys) (suc i) x e = count_there ys i x e

latch_declared : (names : Names) (l : Filled) (f : Form) (what : Declared) (t : ℕ) (x : Object) → declared_of names l f ≡ Some what → objects_made t what ≡ x ∷ [] → makes f ≡ Some mades.Latch → count_of x ≡ count_in (number_at l 1)
latch_declared names l forms.Latch what t x says from m =
    let a : what ≡ declared.Latch (natural_at l 1) = cc in
    let b : objects_made t (declared.Latch (natural_at l 1)) ≡ x ∷ [] = subst (λ (y : Declared). objects_made t y ≡ x ∷ []) a from in
    let c : x ≡ objects.Latch (natural_at l 1) = cc in
    ap count_of c
latch_declared names l _ what t x says from m = absurd cc

abbrev pub scene_objects : List Filled → List Object
scene_objects ls = objects_from 1 (declarations_of (names_of ls) ls)

-- object o is the latch of the name there, with its count
abbrev pub is_counted : List Filled → ℕ → Bool
is_counted ls o = is_latch ls (name_at (names_of ls).objects o) && nat_eq (count_in (numbers_of ls (name_at (names_of ls).objects o))) (count_at (scene_objects ls) o)

-- what a line takes from latch o
abbrev pub weight_at : List Filled → ℕ → Filled → ℕ
weight_at ls o l = if is_counted ls o then weight (name_at (names_of ls).objects o) l else 0

record IsNamed (ls : List Filled) (w : List ℕ) : Type 0 where
  pub name : name_at (names_of ls).objects (place_in (names_of ls).objects w) ≡ w
  pub counted : is_counted ls (place_in (names_of ls).objects w) ≡ true

named_latch : (ls : List Filled) (w : List ℕ) → made_of ls w ≡ Some mades.Latch → IsNamed ls w
named_latch ls w e = elim (made_cases ls w mades.Latch e) [
  | inl p ↦ absurd (let q : mades.Latch ≡ mades.Main = p.1 in cc)
  | inr p ↦
      let d = p.1 in
      let names = names_of ls in
      let i = place_in names.objects w in
      let there : makes_object d.by ≡ true = (makes_by mades.Latch d.by d.makes_it).1 refl in
      let a = object_at names w d.by there ls 1 d.is in
      let found = known_found ls w mades.Latch InObjects e refl in
      let latch : is_latch ls w ≡ true = rw e refl in
      let numbers : numbers_of ls w ≡ number_at d.by 1 = rw d.is refl in
      let count : count_at (scene_objects ls) i ≡ count_in (numbers_of ls w) = count_there (scene_objects ls) i a.object a.is ∙ (latch_declared names d.by d.by.form a.what a.thread a.object a.says a.from d.makes_it ∙ ap count_in (sym numbers)) in
      let at_w : (is_latch ls w && nat_eq (count_in (numbers_of ls w)) (count_at (scene_objects ls) i)) ≡ true = rw (latch, eq-eqb (count_in (numbers_of ls w)) (count_at (scene_objects ls) i) (sym count)) refl in
      record { name = found.at; counted = subst (λ (u : List ℕ). (is_latch ls u && nat_eq (count_in (numbers_of ls u)) (count_at (scene_objects ls) i)) ≡ true) (sym found.at) at_w }
]

-- ---- the call of a line

abbrev takes_where : ℕ → Option Call → ℕ
takes_where o None = 0
takes_where o (Some c) = takes_of o c

none_below : (n : ℕ) → 0 ≤ n
none_below n = omega arith

none_is : (a n : ℕ) → a ≡ 0 → a ≤ n
none_is a n h = omega (arith, h)

if_takes : (o : ℕ) (k : Option Made) (a b : Call) → takes_of o a ≡ 0 → takes_of o b ≡ 0 → takes_of o (if_recursive k a b) ≡ 0
if_takes o None a b h k = k
if_takes o (Some mades.Recursive) a b h k = h
if_takes o (Some _) a b h k = k

waits_take : (o : ℕ) (k : Option Made) (q : ObjectNo) → takes_of o (waits_on k q) ≡ 0
waits_take o None q = refl
waits_take o (Some mades.Latch) q = refl
waits_take o (Some mades.Barrier) q = refl
waits_take o (Some _) q = refl

drops_take : (o : ℕ) (k : Option Made) (q : ObjectNo) → takes_of o (drops_of k q) ≡ 0
drops_take o None q = refl
drops_take o (Some mades.Stop) q = refl
drops_take o (Some mades.Async) q = refl
drops_take o (Some _) q = refl

-- a line that takes n from a named latch
latch_takes : (ls : List Filled) (o n : ℕ) (l : Filled) → is_call l ≡ true → made_of ls (subject l) ≡ Some mades.Latch → count_in (takes l) ≡ n → (if place_in (names_of ls).objects (subject l) == o then n else 0) ≤ weight_at ls o l
latch_takes ls o n l call made is = go (place_in (names_of ls).objects (subject l) == o) refl
  where
    go : (b : Bool) → (place_in (names_of ls).objects (subject l) == o) ≡ b → (if b then n else 0) ≤ weight_at ls o l
    go false e = none_below (weight_at ls o l)
    go true e =
        let same : place_in (names_of ls).objects (subject l) ≡ o = eqb-true (place_in (names_of ls).objects (subject l)) o e in
        let r = named_latch ls (subject l) made in
        let name : name_at (names_of ls).objects o ≡ subject l = ap (name_at (names_of ls).objects) (sym same) ∙ r.name in
        let counted : is_counted ls o ≡ true = subst (λ (i : ℕ). is_counted ls i ≡ true) same r.counted in
        let itself : bytes_eq (subject l) (name_at (names_of ls).objects o) ≡ true = (bytes_eq-Decides (subject l) (name_at (names_of ls).objects o)).1 (sym name) in
        let whole : weight_at ls o l ≡ n = rw (counted, call, itself) is in
        let le : n ≤ weight_at ls o l = omega (arith, whole) in
        le

only_latch : (m : Made) (c : Caller) → who_may sorts.Latches m ≡ Some c → m ≡ mades.Latch
only_latch mades.Latch c h = refl
only_latch _ c h = cc

takes_at : (ls : List Filled) (me : List ℕ) (o : ℕ) (f : Form) (vs : List Value) → IsWellFilled scenario_lines 1 (line f vs) → any_misfit (fits_sort ls me) (fields_in (line f vs)) vs ≡ false → takes_where o (call_of (names_of ls) (made_of ls (subject (line f vs))) (line f vs) f) ≤ weight_at ls o (line f vs)
takes_at ls me o forms.CountDown (AWord w ∷ ANumber (pos n) ∷ []) fit kind =
    let f = fits_is ls me w sorts.Latches (first_fits (fits_sort ls me w sorts.Latches) kind) in
    let made : made_of ls w ≡ Some mades.Latch = f.is ∙ ap Some (only_latch f.made f.caller f.may) in
    latch_takes ls o n (line forms.CountDown (AWord w ∷ ANumber (pos n) ∷ [])) refl made refl
  where
    first_fits : (b : Bool) → (not b || (false || false)) ≡ false → b ≡ true
    first_fits true h = refl
    first_fits false h = cc
takes_at ls me o forms.CountDown _ fit kind = absurd (assumption fit)
takes_at ls me o forms.ArriveAndWait (AWord w ∷ []) fit kind = go (made_of ls w) refl
  where
    go : (k : Option Made) → made_of ls w ≡ k → takes_of o (meets_at k (record { 0 = place_in (names_of ls).objects w })) ≤ weight_at ls o (line forms.ArriveAndWait (AWord w ∷ []))
    go None e = none_below (weight_at ls o (line forms.ArriveAndWait (AWord w ∷ [])))
    go (Some mades.Latch) e = latch_takes ls o 1 (line forms.ArriveAndWait (AWord w ∷ [])) refl e refl
    go (Some _) e = none_below (weight_at ls o (line forms.ArriveAndWait (AWord w ∷ [])))
takes_at ls me o forms.ArriveAndWait _ fit kind = absurd (assumption fit)
takes_at ls me o forms.Lock vs fit kind = none_is _ (weight_at ls o (line forms.Lock vs)) (if_takes o (made_of ls (subject (line forms.Lock vs))) _ _ refl refl)
takes_at ls me o forms.TryLock vs fit kind = none_is _ (weight_at ls o (line forms.TryLock vs)) (if_takes o (made_of ls (subject (line forms.TryLock vs))) _ _ refl refl)
takes_at ls me o forms.Wait vs fit kind = none_is _ (weight_at ls o (line forms.Wait vs)) (waits_take o (made_of ls (subject (line forms.Wait vs))) _)
takes_at ls me o forms.Drop vs fit kind = none_is _ (weight_at ls o (line forms.Drop vs)) (drops_take o (made_of ls (subject (line forms.Drop vs))) _)
takes_at ls me o f vs fit kind = none_below (weight_at ls o (line f vs))

takes_said : (o n : ℕ) (q : Option Call) (c : Call) → takes_where o q ≤ n → q ≡ Some c → takes_of o c ≤ n
takes_said o n q c h e = subst (λ x. takes_where o x ≤ n) e h

both_at_most : (a b c d : ℕ) → a ≤ c → b ≤ d → a + b ≤ c + d
both_at_most a b c d h k = omega (arith, h, k)

-- what the calls of a thread take
pub calls_take : (ls : List Filled) (me : List ℕ) (o : ℕ) (cs : List Filled) → AreSettled 1 ls me cs → takings o (calls_by ls cs) ≤ total (weight_at ls o) cs
calls_take ls me o [] h = none_below 0
calls_take ls me o (l ∷ cs) h =
    let f = settled_forth ls me l h.0 in
    let one : takes_of o f.call ≤ weight_at ls o l = takes_said o (weight_at ls o l) (call_of (names_of ls) (made_of ls (subject l)) l l.form) f.call (takes_at ls me o l.form l.values h.0.filled h.0.kind) f.is in
    let rest = calls_take ls me o cs h.1 in
    let e = calls_cons ls l cs f.call f.is in
    subst (λ (xs : List Call). takings o xs ≤ weight_at ls o l + total (weight_at ls o) cs) (sym e) (both_at_most (takes_of o f.call) (takings o (calls_by ls cs)) (weight_at ls o l) (total (weight_at ls o) cs) one rest)

-- ---- the whole text

none_total : (ls : List Filled) → total (λ l. 0) ls ≡ 0
none_total [] = refl
none_total (l ∷ ls) = let rest = none_total ls in omega (arith, rest)

pub total_within : (ls : List Filled) → IsWhole ls → (p : Parts ls) (o : ℕ) → total (weight_at ls o) ls ≤ count_at (scene_objects ls) o
total_within ls w p o = go (is_counted ls o) refl
  where
    go : (b : Bool) → is_counted ls o ≡ b → total (λ l. if b then weight (name_at (names_of ls).objects o) l else 0) ls ≤ count_at (scene_objects ls) o
    go true h =
        let q = and_parts (is_latch ls (name_at (names_of ls).objects o)) (nat_eq (count_in (numbers_of ls (name_at (names_of ls).objects o))) (count_at (scene_objects ls) o)) h in
        let le = latch_within ls w p (name_at (names_of ls).objects o) q.0 in
        let same = eqb-true (count_in (numbers_of ls (name_at (names_of ls).objects o))) (count_at (scene_objects ls) o) q.1 in
        subst (λ (n : ℕ). total (weight (name_at (names_of ls).objects o)) ls ≤ n) same le
    go false h = none_is (total (λ l. 0) ls) (count_at (scene_objects ls) o) (none_total ls)
