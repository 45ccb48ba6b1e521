-- The counts and the names of each call of a text without a fault are kept.
use Rattle.std.proofs.Common.{◌≡◌, ℕ, zero, suc, ◌<◌, ◌==◌, inl, inr, pos, Bool, true, false, ◌&&◌, ◌||◌, not, List, [], ◌∷◌, ◌++◌, length, map, replicate, min, max, Option, Some, None, refl, sym, ap, subst, ◌∙◌, arith, lt-ltb, eqb-true}
use Rattle.std.specs.Prelude.{◌^◌, nat_lt, nat_le}
use Rattle.std.specs.List.{AllByRecursion, list_all, flat_map}
use Rattle.std.specs.Str.{bytes_eq}
use Rattle.std.proofs.lemmas.Bool.{cases_Bool, and_from, leb-true}
use Rattle.std.proofs.lemmas.Slice.Eq.{bytes_eq-Decides}
use Rattle.cx_names.specs.declared.ObjectNo.{ObjectNo}
use Rattle.cx_machine.specs.Words.{has}
use Rattle.cx_scene.specs.declared.call.Call.{Call}
use Rattle.cx_text.specs.declared.form.Form.{Form}
use Rattle.cx_text.specs.declared.form.Form.TheVariants as forms
use Rattle.cx_text.specs.declared.form.Field.TheVariants as fields
use Rattle.cx_text.specs.declared.form.Sort.TheVariants as sorts
use Rattle.cx_text.specs.declared.form.Made.{Made}
use Rattle.cx_text.specs.declared.form.Made.TheVariants as mades
use Rattle.cx_text.specs.Table.{fields_of}
use Rattle.cx_text.specs.Words.{Filled, Value, AWord, ANumber, spread, is_one_of, fields_in, scenario_lines, main_word}
use Rattle.cx_text.proofs.Fields.{FitFields}
use Rattle.cx_text.proofs.Rows.{IsWellFilled}
use Rattle.cx_script.specs.Earlier.{made_of, subject, word_in, words_at, picked_words}
use Rattle.cx_script.specs.Faults.{has_outside, has_repeated, is_each_field}
use Rattle.cx_script.specs.Script.{Names, names_of, name_at, place_in, call_of, line, if_recursive, waits_on, meets_at, drops_of}
use Rattle.cx_script.proofs.Found.{AreFound, all_found}
use Rattle.cx_script.proofs.Sound.{AreFine}
use Rattle.cx_script.proofs.Shape.{Block, block_lines, main_lines, end_line}
use Rattle.cx_script.proofs.Blocks.{raw_calls, lookup}
use Rattle.cx_script.proofs.Settled.{AreSettled}
use Rattle.cx_script.proofs.Scenes.{settled_forth, calls_by, calls_cons}
use Rattle.cx_script.proofs.Whole.{Parts, raw_main, raw_other}
use Rattle.cx_asks.specs.Scenes.{are_apart}
use Rattle.cx_askable.proofs.Calls.{is_kept}

-- ---- what each line keeps

-- no name twice in a list of distinct names
abbrev pub IsOnce : Filled → Type 0
IsOnce l = has_repeated (words_at is_each_field l) ≡ false

or_parts : (x y : Bool) → (x || y) ≡ false → (x ≡ false) × (y ≡ false)
or_parts true y h = absurd cc
or_parts false y h = (refl, h)

pub all_once : (ls e : List Filled) → AreFine 1 e ls → AllByRecursion IsOnce ls
all_once [] e h = tt
all_once (l ∷ ls) e h = ((or_parts _ _ h.0.once).1, all_once ls (e ++ l ∷ []) h.1)

module _ (P : Filled → Type 0) where
  pub all_first : (xs ys : List Filled) → AllByRecursion P (xs ++ ys) → AllByRecursion P xs
  all_first [] ys h = tt
  all_first (x ∷ xs) ys h = (h.0, all_first xs ys h.1)

  pub all_last : (xs ys : List Filled) → AllByRecursion P (xs ++ ys) → AllByRecursion P ys
  all_last [] ys h = h
  all_last (x ∷ xs) ys h = all_last xs ys h.1

  all_in_block : (b : Block) → AllByRecursion P (block_lines b) → AllByRecursion P b.calls
  all_in_block b h = all_first b.calls (end_line ∷ []) h.1

  all_looked_up : (bs : List Block) (name : List ℕ) → AllByRecursion P (flat_map block_lines bs) → AllByRecursion P (lookup bs name)
  all_looked_up [] name h = tt
  all_looked_up (b ∷ bs) name h = elim (cases_Bool (bytes_eq b.name name)) [
    | inl e ↦ rw e (all_in_block b (all_first (block_lines b) (flat_map block_lines bs) h))
    | inr e ↦ rw e (all_looked_up bs name (all_last (block_lines b) (flat_map block_lines bs) h))
  ]

  -- what each line keeps, each call of a thread keeps
  pub all_raw : (ls : List Filled) (p : Parts ls) (name : List ℕ) → AllByRecursion P ls → AllByRecursion P (raw_calls ls name)
  all_raw ls p name h =
      let whole : AllByRecursion P (p.shape.declarations ++ (flat_map block_lines p.shape.blocks ++ main_lines p.shape.mains)) = (subst (λ (t : List Filled). AllByRecursion P t) p.shape.is h).1 in
      let rest = all_last p.shape.declarations (flat_map block_lines p.shape.blocks ++ main_lines p.shape.mains) whole in
      elim (cases_Bool (bytes_eq main_word name)) [
        | inl e ↦
            let q : main_word ≡ name = (bytes_eq-Decides main_word name).0 e in
            let mains = all_first p.shape.mains (end_line ∷ []) (all_last (flat_map block_lines p.shape.blocks) (main_lines p.shape.mains) rest).1 in
            subst (λ (n : List ℕ). AllByRecursion P (raw_calls ls n)) q (subst (λ (cs : List Filled). AllByRecursion P cs) (sym (raw_main ls p)) mains)
        | inr e ↦ subst (λ (cs : List Filled). AllByRecursion P cs) (sym (raw_other ls p name e)) (all_looked_up p.shape.blocks name (all_first (flat_map block_lines p.shape.blocks) (main_lines p.shape.mains) rest))
      ]

-- ---- names of one line, by numbers

-- each name is found at its place
abbrev AreAt : List (List ℕ) → List (List ℕ) → Type 0
AreAt ns ws = AllByRecursion (λ (w : List ℕ). name_at ns (place_in ns w) ≡ w) ws

same_bytes : (u w : List ℕ) → bytes_eq u w ≡ true → u ≡ w
same_bytes u w h = (bytes_eq-Decides u w).0 h

-- a place is not among those of other names
place_apart : (ns ws : List (List ℕ)) (w : List ℕ) → name_at ns (place_in ns w) ≡ w → AreAt ns ws → is_one_of ws w ≡ false → has (map (place_in ns) ws) (place_in ns w) ≡ false
place_apart ns [] w at all h = refl
place_apart ns (u ∷ ws) w at all h =
    let p = or_parts (bytes_eq u w) (is_one_of ws w) h in
    let rest = place_apart ns ws w at all.1 p.1 in
    elim (cases_Bool (place_in ns u == place_in ns w)) [
      | inr e ↦ rw e rest
      | inl e ↦
          let one : place_in ns u ≡ place_in ns w = eqb-true (place_in ns u) (place_in ns w) e in
          let same : u ≡ w = sym all.0 ∙ (ap (name_at ns) one ∙ at) in
          let yes_ : bytes_eq u w ≡ true = (bytes_eq-Decides u w).1 same in
          absurd (let no_ : true ≡ false = sym yes_ ∙ p.0 in cc)
    ]

places_apart : (ns ws : List (List ℕ)) → AreAt ns ws → has_repeated ws ≡ false → are_apart (map (place_in ns) ws) ≡ true
places_apart ns [] all h = refl
places_apart ns (w ∷ ws) all h =
    let p = or_parts (is_one_of ws w) (has_repeated ws) h in
    let first : not (has (map (place_in ns) ws) (place_in ns w)) ≡ true = rw (place_apart ns ws w all.0 all.1 p.0) refl in
    and_from (not (has (map (place_in ns) ws) (place_in ns w))) (are_apart (map (place_in ns) ws)) first (places_apart ns ws all.1 p.1)

abbrev words_of : List Value → List (List ℕ)
words_of vs = map (λ v. word_in (Some v)) vs

each_count : (own : List ℕ) (k : ℕ) (vs : List Value) → FitFields 1 own (replicate k (fields.Each sorts.Mutexes)) vs → length vs ≡ k
each_count own zero [] fit = refl
each_count own zero (v ∷ vs) fit = absurd fit
each_count own (suc k) [] fit = absurd fit
each_count own (suc k) (v ∷ vs) fit = ap suc (each_count own k vs fit.1)

each_picked : (own : List ℕ) (k : ℕ) (vs : List Value) → FitFields 1 own (replicate k (fields.Each sorts.Mutexes)) vs → picked_words is_each_field (replicate k (fields.Each sorts.Mutexes)) vs ≡ words_of vs
each_picked own zero [] fit = refl
each_picked own zero (v ∷ vs) fit = absurd fit
each_picked own (suc k) [] fit = absurd fit
each_picked own (suc k) (v ∷ vs) fit = ap (λ (ws : List (List ℕ)). word_in (Some v) ∷ ws) (each_picked own k vs fit.1)

each_at : (own : List ℕ) (names : Names) (k : ℕ) (vs : List Value) → FitFields 1 own (replicate k (fields.Each sorts.Mutexes)) vs → AreFound names (replicate k (fields.Each sorts.Mutexes)) vs → AreAt names.objects (words_of vs)
each_at own names zero [] fit found = tt
each_at own names zero (v ∷ vs) fit found = absurd fit
each_at own names (suc k) [] fit found = absurd fit
each_at own names (suc k) (AWord w ∷ vs) fit found = (found.0.at, each_at own names k vs fit.1 found.1)
each_at own names (suc k) (ANumber n ∷ vs) fit found = absurd fit.0

map_length : {A B : Type 0} (f : A → B) (xs : List A) → length (map f xs) ≡ length xs
map_length f [] = refl
map_length f (x ∷ xs) = ap suc (map_length f xs)

many : (n : ℕ) → n ≡ max 2 (min n 4) → (1 < n) × (0 < n)
many n e = (omega (arith, e), omega (arith, e))

-- the mutexes of a call on several
several_kept : (names : Names) (own : List ℕ) (vs : List Value) (n : ℕ) → n < 2 → FitFields 1 own (replicate (max 2 (min (length vs) 4)) (fields.Each sorts.Mutexes)) vs → AreFound names (replicate (max 2 (min (length vs) 4)) (fields.Each sorts.Mutexes)) vs
    → has_repeated (picked_words is_each_field (replicate (max 2 (min (length vs) 4)) (fields.Each sorts.Mutexes)) vs) ≡ false
    → (nat_lt n (length (map (place_in names.objects) (words_of vs))) && are_apart (map (place_in names.objects) (words_of vs))) ≡ true
several_kept names own vs n small fit found once =
    let k = max 2 (min (length vs) 4) in
    let m = many (length vs) (each_count own k vs fit) in
    let long : length (map (place_in names.objects) (words_of vs)) ≡ length vs = map_length (place_in names.objects) (words_of vs) ∙ map_length (λ v. word_in (Some v)) vs in
    let more : n < length vs = (let two = m.0 in omega (arith, small, two)) in
    let first : nat_lt n (length (map (place_in names.objects) (words_of vs))) ≡ true = rw long (lt-ltb n (length vs) more) in
    let apart = places_apart names.objects (words_of vs) (each_at own names k vs fit found) (ap has_repeated (sym (each_picked own k vs fit)) ∙ once) in
    and_from (nat_lt n (length (map (place_in names.objects) (words_of vs)))) (are_apart (map (place_in names.objects) (words_of vs))) first apart

-- ---- the call of a line

abbrev kept_where : Option Call → Bool
kept_where None = true
kept_where (Some c) = is_kept c

if_kept : (k : Option Made) (a b : Call) → is_kept a ≡ true → is_kept b ≡ true → is_kept (if_recursive k a b) ≡ true
if_kept None a b h k = k
if_kept (Some mades.Recursive) a b h k = h
if_kept (Some _) a b h k = k

waits_kept : (k : Option Made) (o : ObjectNo) → is_kept (waits_on k o) ≡ true
waits_kept None o = refl
waits_kept (Some mades.Latch) o = refl
waits_kept (Some mades.Barrier) o = refl
waits_kept (Some _) o = refl

meets_kept : (k : Option Made) (o : ObjectNo) → is_kept (meets_at k o) ≡ true
meets_kept None o = refl
meets_kept (Some mades.Latch) o = refl
meets_kept (Some _) o = refl

drops_kept : (k : Option Made) (o : ObjectNo) → is_kept (drops_of k o) ≡ true
drops_kept None o = refl
drops_kept (Some mades.Stop) o = refl
drops_kept (Some mades.Async) o = refl
drops_kept (Some _) o = refl

-- what is not outside is within
within : (a b : Bool) → (not (a && b) || false) ≡ false → b ≡ true
within true true h = refl
within true false h = absurd cc
within false b h = absurd cc

between : (a b : Bool) → (not (a && b) || false) ≡ false → (a && b) ≡ true
between true true h = refl
between true false h = absurd cc
between false b h = absurd cc

small_kept : (n : ℕ) → nat_le n 4294967295 ≡ true → nat_lt n (2 ^ 32) ≡ true
small_kept n h = let le = leb-true n 4294967295 h in lt-ltb n (2 ^ 32) (omega (arith, le))

kept_at : (names : Names) (k : Option Made) (e : List Filled) (f : Form) (vs : List Value) → IsWellFilled scenario_lines 1 (line f vs) → AreFound names (spread (fields_of f) (length vs)) vs → has_outside e (line f vs) ≡ false → IsOnce (line f vs) → kept_where (call_of names k (line f vs) f) ≡ true
kept_at names k e forms.LockAll vs fit found inside once = several_kept names _ vs 1 (omega arith) fit found once
kept_at names k e forms.TryLockAll vs fit found inside once = several_kept names _ vs 0 (omega arith) fit found once
kept_at names k e forms.Release (AWord w ∷ ANumber (pos n) ∷ []) fit found inside once = within (nat_le 0 n) (nat_le n 65535) inside
kept_at names k e forms.Release _ fit found inside once = absurd (assumption fit)
kept_at names k e forms.CountDown (AWord w ∷ ANumber (pos n) ∷ []) fit found inside once = within (nat_le 0 n) (nat_le n 65535) inside
kept_at names k e forms.CountDown _ fit found inside once = absurd (assumption fit)
kept_at names k e forms.Arrive (AWord w ∷ ANumber (pos n) ∷ []) fit found inside once = between (nat_le 1 n) (nat_le n 4096) inside
kept_at names k e forms.Arrive _ fit found inside once = absurd (assumption fit)
kept_at names k e forms.CallOnceThrow (AWord w ∷ AWord v ∷ ANumber (pos n) ∷ []) fit found inside once = small_kept n (within (nat_le 0 n) (nat_le n 4294967295) inside)
kept_at names k e forms.CallOnceThrow _ fit found inside once = absurd (assumption fit)
kept_at names k e forms.Lock vs fit found inside once = if_kept k _ _ refl refl
kept_at names k e forms.TryLock vs fit found inside once = if_kept k _ _ refl refl
kept_at names k e forms.Wait vs fit found inside once = waits_kept k _
kept_at names k e forms.ArriveAndWait vs fit found inside once = meets_kept k _
kept_at names k e forms.Drop vs fit found inside once = drops_kept k _
kept_at names k e _ vs fit found inside once = refl

kept_said : (o : Option Call) (c : Call) → kept_where o ≡ true → o ≡ Some c → is_kept c ≡ true
kept_said o c h e = subst (λ x. kept_where x ≡ true) e h

pub all_kept : (ls : List Filled) (me : List ℕ) (cs : List Filled) → AreSettled 1 ls me cs → AllByRecursion IsOnce cs → list_all is_kept (calls_by ls cs) ≡ true
all_kept ls me [] h k = refl
all_kept ls me (l ∷ cs) h k =
    let f = settled_forth ls me l h.0 in
    let found = all_found ls ls me (fields_in l) l.values (λ u m e. e) h.0.kind in
    let one : is_kept f.call ≡ true = kept_said (call_of (names_of ls) (made_of ls (subject l)) l l.form) f.call (kept_at (names_of ls) (made_of ls (subject l)) ls l.form l.values h.0.filled found h.0.inside k.0) f.is in
    let rest = all_kept ls me cs h.1 k.1 in
    let e = calls_cons ls l cs f.call f.is in
    ap (λ (xs : List Call). list_all is_kept xs) e ∙ rw one rest
