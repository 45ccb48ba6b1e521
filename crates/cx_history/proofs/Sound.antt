-- A record without a flaw is legal and follows its text.
use Rattle.std.proofs.Common.{◌≡◌, ℕ, zero, suc, ◌+◌, ◌<◌, ◌≤◌, Bool, true, false, IsTrue, IsSome, List, [], ◌∷◌, length, filter, cond, Option, Some, None, option_and_then, option_map, slice_get, nat_le, not, if◌then◌else◌, refl, sym, ap, ◌∙◌, subst, arith, eqb-true, eq-eqb, add-zero, zero-add}
use Rattle.cx_machine.specs.Machine.{State, run, step, opening}
use Rattle.cx_scene.specs.declared.declared.Object.{Object}
use Rattle.cx_scene.specs.Scene.{Scene, kind_of}
use Rattle.cx_items.specs.declared.item.Item.{Item}
use Rattle.cx_history.specs.declared.flaw.Flaw.{Flaw}
use Rattle.cx_history.specs.declared.flaw.Cause.{Cause}
use Rattle.cx_history.specs.declared.flaw.Cause.TheVariants as causes
use Rattle.cx_items.specs.Next.{Local, after_item, is_ended, local_at_start}
use Rattle.cx_history.specs.Histories.{Recorded, Placed, items_of, put_in, in_order, entries, is_at, changes_of, sequence, place, owed}
use Rattle.cx_history.specs.Legal.{LegalRecord, EachItem, is_shown, is_at_least}
use Rattle.cx_history.specs.IsRecord.{IsRecord, is_item}
use Rattle.cx_history.specs.Follows.{Follows, after_items, is_whole, list_follows, completes, has_started}
use Rattle.cx_history.specs.Flaw.{flaw, or_flaw, stop_at, text_flaw, text_flaw_from, placed_flaw, gap_from, bad_step_from, gap_of, bad_step_of, first_of_objects, first_in, first_of_items, first_flaw}

-- ---- none of two

or_flaw-left : (f g : Option Flaw) → or_flaw f g ≡ None → f ≡ None
or_flaw-left None g h = refl
or_flaw-left (Some e) g h = h

or_flaw-right : (f g : Option Flaw) → or_flaw f g ≡ None → g ≡ None
or_flaw-right None g h = h
or_flaw-right (Some e) g h = cc

none_of_map : {X Y : Type 0} (f : X → Y) (o : Option X) → option_map f o ≡ None → o ≡ None
none_of_map f None h = refl
none_of_map f (Some x) h = cc

if_none : {X : Type 0} (b : Bool) (o : Option X) (x : X) → (if b then o else Some x) ≡ None → (b ≡ true) × (o ≡ None)
if_none true o x h = (refl, h)
if_none false o x h = cc

-- ---- items

first_in-sound : (cause : Cause) (good : ℕ → ℕ → Item → Bool) (t i : ℕ) (xs : List Item) → first_in cause good t i xs ≡ None → (j : ℕ) (x : Item) → slice_get xs j ≡ Some x → good t (i + j) x ≡ true
first_in-sound cause good t i [] h j x e = cc
first_in-sound cause good t i (y ∷ ys) h zero x e =
    let q = (if_none (good t i y) (first_in cause good t (i + 1) ys) (flaw cause t i) h).0 in
    let same : y ≡ x = cc in
    subst (λ v. good t (i + 0) v ≡ true) same (rw add-zero q)
first_in-sound cause good t i (y ∷ ys) h (suc j) x e =
    let q = (if_none (good t i y) (first_in cause good t (i + 1) ys) (flaw cause t i) h).1 in
    let same : (i + 1) + j ≡ i + suc j = omega arith in
    subst (λ n. good t n x ≡ true) same (first_in-sound cause good t (i + 1) ys q j x e)

first_of_items-sound : (cause : Cause) (good : ℕ → ℕ → Item → Bool) (t : ℕ) (ls : List (Option (List Item))) → first_of_items cause good t ls ≡ None → (u : ℕ) (l : Option (List Item)) → slice_get ls u ≡ Some l → first_in cause good (t + u) 0 (items_of l) ≡ None
first_of_items-sound cause good t [] h u l e = cc
first_of_items-sound cause good t (k ∷ ks) h zero l e =
    let q = or_flaw-left (first_in cause good t 0 (items_of k)) (first_of_items cause good (t + 1) ks) h in
    let same : k ≡ l = cc in
    subst (λ v. first_in cause good (t + 0) 0 (items_of v) ≡ None) same (rw add-zero q)
first_of_items-sound cause good t (k ∷ ks) h (suc u) l e =
    let q = or_flaw-right (first_in cause good t 0 (items_of k)) (first_of_items cause good (t + 1) ks) h in
    let same : (t + 1) + u ≡ t + suc u = omega arith in
    subst (λ n. first_in cause good n 0 (items_of l) ≡ None) same (first_of_items-sound cause good (t + 1) ks q u l e)

-- what is tested of every item holds of each
pub each_item : (cause : Cause) (good : ℕ → ℕ → Item → Bool) (r : Recorded) → first_of_items cause good 0 r.lists ≡ None → EachItem r (λ t i x. IsTrue (good t i x))
each_item cause good r h t i x e = go (slice_get r.lists t) refl e
  where
    go : (o : Option (Option (List Item))) → slice_get r.lists t ≡ o → slice_get (items_of (option_and_then (λ l. l) o)) i ≡ Some x → good t i x ≡ true
    go None p k = cc
    go (Some l) p k =
        let none = first_of_items-sound cause good 0 r.lists h t l p in
        let none_there : first_in cause good t 0 (items_of l) ≡ None = subst (λ n. first_in cause good n 0 (items_of l) ≡ None) (zero-add t) none in
        subst (λ n. good t n x ≡ true) (zero-add i) (first_in-sound cause good t 0 (items_of l) none_there i x k)

-- ---- objects

first_of_objects-sound : (f : ℕ → Object → Option Flaw) (o : ℕ) (ds : List Object) → first_of_objects f o ds ≡ None → (j : ℕ) (d : Object) → slice_get ds j ≡ Some d → f (o + j) d ≡ None
first_of_objects-sound f o [] h j d e = cc
first_of_objects-sound f o (c ∷ cs) h zero d e =
    let q = or_flaw-left (f o c) (first_of_objects f (o + 1) cs) h in
    let same : c ≡ d = cc in
    subst (λ v. f (o + 0) v ≡ None) same (rw add-zero q)
first_of_objects-sound f o (c ∷ cs) h (suc j) d e =
    let q = or_flaw-right (f o c) (first_of_objects f (o + 1) cs) h in
    let same : (o + 1) + j ≡ o + suc j = omega arith in
    subst (λ n. f n d ≡ None) same (first_of_objects-sound f (o + 1) cs q j d e)

each_object : (f : ℕ → Object → Option Flaw) (ds : List Object) → first_of_objects f 0 ds ≡ None → (o : ℕ) (d : Object) → slice_get ds o ≡ Some d → f o d ≡ None
each_object f ds h o d e = subst (λ n. f n d ≡ None) (zero-add o) (first_of_objects-sound f 0 ds h o d e)

-- ---- steps

bad_step-sound : (state : State) (cs : List Placed) → bad_step_from state cs ≡ None → IsSome (run state (entries cs))
bad_step-sound state [] h = refl
bad_step-sound state (c ∷ cs) h = go (step state c.entry) h (λ next. bad_step-sound next cs)
  where
    go : (o : Option State) → (let w : Option Placed = elim o [ None ↦ Some c | Some next ↦ bad_step_from next cs ] in w ≡ None) → ((next : State) → bad_step_from next cs ≡ None → IsSome (run next (entries cs))) → IsSome (option_and_then (λ t. run t (entries cs)) o)
    go None k ih = cc
    go (Some next) k ih = ih next k

-- ---- gaps

length-put_in : (c : Placed) (ds : List Placed) → length (put_in c ds) ≡ suc (length ds)
length-put_in c [] = refl
length-put_in c (d ∷ ds) = go (nat_le c.position d.position) (length-put_in c ds)
  where
    go : (b : Bool) → length (put_in c ds) ≡ suc (length ds) → length (if b then c ∷ d ∷ ds else d ∷ put_in c ds) ≡ suc (suc (length ds))
    go true ih = refl
    go false ih = ap suc ih

pub length-in_order : (cs : List Placed) → length (in_order cs) ≡ length cs
length-in_order [] = refl
length-in_order (c ∷ cs) = length-put_in c (in_order cs) ∙ ap suc (length-in_order cs)

-- how many are at a position
unfoldable pub count_at : ℕ → List Placed → ℕ
count_at k cs = length (filter (is_at k) cs)

pub count_at-cons : (k : ℕ) (c : Placed) (cs : List Placed) → count_at k (c ∷ cs) ≡ cond (is_at k c) 1 0 + count_at k cs
unfolding count_at
count_at-cons k c cs = go (is_at k c)
  where
    go : (b : Bool) → length (cond b (c ∷ filter (is_at k) cs) (filter (is_at k) cs)) ≡ cond b 1 0 + length (filter (is_at k) cs)
    go true = omega arith
    go false = omega arith

count_at-put_in : (k : ℕ) (c : Placed) (ds : List Placed) → count_at k (put_in c ds) ≡ cond (is_at k c) 1 0 + count_at k ds
count_at-put_in k c [] = count_at-cons k c []
count_at-put_in k c (d ∷ ds) = go (nat_le c.position d.position) (count_at-put_in k c ds)
  where
    go : (b : Bool) → count_at k (put_in c ds) ≡ cond (is_at k c) 1 0 + count_at k ds → count_at k (if b then c ∷ d ∷ ds else d ∷ put_in c ds) ≡ cond (is_at k c) 1 0 + count_at k (d ∷ ds)
    go true ih = count_at-cons k c (d ∷ ds)
    go false ih = omega (arith, ih, count_at-cons k d (put_in c ds), count_at-cons k d ds)

pub count_at-in_order : (k : ℕ) (cs : List Placed) → count_at k (in_order cs) ≡ count_at k cs
count_at-in_order k [] = refl
count_at-in_order k (c ∷ cs) = omega (arith, count_at-put_in k c (in_order cs), count_at-in_order k cs, count_at-cons k c cs)

-- positions i, i + 1, .. hold each of these once and no other
record Once (i k n count : ℕ) : Type 0 where
  below : k < i → count ≡ 0
  within : i ≤ k → k < i + n → count ≡ 1

at_cases : (i k : ℕ) (c : Placed) (m n : ℕ) → is_at i c ≡ true → Once (i + 1) k n m → Once i k (suc n) (cond (is_at k c) 1 0 + m)
at_cases i k c m n here once = go (is_at k c) refl
  where
    go : (b : Bool) → is_at k c ≡ b → Once i k (suc n) (cond b 1 0 + m)
    go true e =
        let p : c.position ≡ i = eqb-true c.position i here in
        let q : c.position ≡ k = eqb-true c.position k e in
        record { below = λ h. omega (arith, p, q, once.below); within = λ h l. omega (arith, p, q, once.below) }
    go false e =
        let p : c.position ≡ i = eqb-true c.position i here in
        let away : k ≡ i → ⊥ = λ same. let yes_ : is_at k c ≡ true = eq-eqb c.position k (p ∙ sym same) in cc in
        record { below = λ h. omega (arith, once.below); within = λ h l. omega (arith, away, once.within, once.below) }

gap-sound : (i k : ℕ) (cs : List Placed) → gap_from i cs ≡ None → Once i k (length cs) (count_at k cs)
unfolding count_at
gap-sound i k [] h = record { below = λ l. refl; within = λ l m. absurd (omega arith) }
gap-sound i k (c ∷ cs) h =
    let q = if_none (is_at i c) (gap_from (i + 1) cs) c h in
    subst (λ n. Once i k (suc (length cs)) n) (sym (count_at-cons k c cs)) (at_cases i k c (count_at k cs) (length cs) q.0 (gap-sound (i + 1) k cs q.1))

pub gapless-sound : (cs : List Placed) → gap_from 0 (in_order cs) ≡ None → (k : ℕ) → k < length cs → length (filter (is_at k) cs) ≡ 1
unfolding count_at
gapless-sound cs h k l =
    let once = gap-sound 0 k (in_order cs) h in
    let room : k < 0 + length (in_order cs) = omega (arith, length-in_order cs) in
    sym (count_at-in_order k cs) ∙ once.within (omega arith) room

-- ---- the text

stop-sound : (s : Scene) (leaves_completing : ℕ → ℕ → Bool) (t i : ℕ) (l : Local) (xs : List Item) → stop_at s leaves_completing t i l xs ≡ None → is_whole (after_items s leaves_completing t l xs) ≡ true
stop-sound s leaves_completing t i l [] h = go (is_ended l) h
  where
    go : (b : Bool) → (let w : Option ℕ = if b then None else Some i in w ≡ None) → b ≡ true
    go true k = refl
    go false k = cc
stop-sound s leaves_completing t i l (x ∷ xs) h = go (after_item s leaves_completing t l x) h (λ k. stop-sound s leaves_completing t (i + 1) k xs)
  where
    go : (o : Option Local) → (let w : Option ℕ = elim o [ None ↦ Some i | Some k ↦ stop_at s leaves_completing t (i + 1) k xs ] in w ≡ None) → ((k : Local) → stop_at s leaves_completing t (i + 1) k xs ≡ None → is_whole (after_items s leaves_completing t k xs) ≡ true) → is_whole (option_and_then (λ k. after_items s leaves_completing t k xs) o) ≡ true
    go None k ih = cc
    go (Some next) k ih = ih next k

text-sound : (s : Scene) (r : Recorded) (t : ℕ) (l : Option (List Item)) → text_flaw s r t l ≡ None → list_follows s r t l ≡ true
text-sound s r t None h = go (has_started r t) h
  where
    go : (b : Bool) → (if b then Some (flaw causes.Text t 0) else None) ≡ None → not b ≡ true
    go true k = cc
    go false k = refl
text-sound s r t (Some xs) h =
    let q = if_none (has_started r t) (option_map (flaw causes.Text t) (stop_at s (completes s r) t 0 (local_at_start s t) xs)) (flaw causes.Text t 0) h in
    let whole = stop-sound s (completes s r) t 0 (local_at_start s t) xs (none_of_map (flaw causes.Text t) (stop_at s (completes s r) t 0 (local_at_start s t) xs) q.1) in
    rw (q.0, whole) refl

text_from-sound : (s : Scene) (r : Recorded) (t : ℕ) (ls : List (Option (List Item))) → text_flaw_from s r t ls ≡ None → (u : ℕ) (l : Option (List Item)) → slice_get ls u ≡ Some l → list_follows s r (t + u) l ≡ true
text_from-sound s r t [] h u l e = cc
text_from-sound s r t (k ∷ ks) h zero l e =
    let q = text-sound s r t k (or_flaw-left (text_flaw s r t k) (text_flaw_from s r (t + 1) ks) h) in
    let same : k ≡ l = cc in
    subst (λ v. list_follows s r (t + 0) v ≡ true) same (subst (λ n. list_follows s r n k ≡ true) (sym (add-zero t)) q)
text_from-sound s r t (k ∷ ks) h (suc u) l e =
    let q = or_flaw-right (text_flaw s r t k) (text_flaw_from s r (t + 1) ks) h in
    let same : (t + 1) + u ≡ t + suc u = omega arith in
    subst (λ n. list_follows s r n l ≡ true) same (text_from-sound s r (t + 1) ks q u l e)

-- ---- the whole

-- what is left of the search once the first causes are passed
pub sound : (s : Scene) (r : Recorded) → length r.lists ≡ length s.threads → first_flaw s r ≡ None → LegalRecord s r × Follows s r
sound s r count h =
    let shown_ = first_of_items causes.Shown (λ t i x. is_shown s r x) 0 r.lists in
    let fell = first_of_items causes.Fell (λ t i x. is_at_least (place r t i) x) 0 r.lists in
    let order = first_of_items causes.Order (λ t i x. is_at_least (owed r t i) x) 0 r.lists in
    let text = text_flaw_from s r 0 r.lists in
    let gap = first_of_objects (gap_of r) 0 s.objects in
    let bad = first_of_objects (bad_step_of r) 0 s.objects in
    let past_text = or_flaw-right text (or_flaw gap (or_flaw bad (or_flaw shown_ (or_flaw fell order)))) h in
    let past_gap = or_flaw-right gap (or_flaw bad (or_flaw shown_ (or_flaw fell order))) past_text in
    let past_bad = or_flaw-right bad (or_flaw shown_ (or_flaw fell order)) past_gap in
    let past_shown = or_flaw-right shown_ (or_flaw fell order) past_bad in (
      record {
        gapless = λ o d e k l. gapless-sound (changes_of r o) (none_of_map (placed_flaw causes.Gap) (gap_from 0 (sequence r o)) (each_object (gap_of r) s.objects (or_flaw-left gap (or_flaw bad (or_flaw shown_ (or_flaw fell order))) past_text) o d e)) k l;
        stepwise = λ o d e. bad_step-sound (opening (kind_of d)) (sequence r o) (none_of_map (placed_flaw causes.Step) (bad_step_from (opening (kind_of d)) (sequence r o)) (each_object (bad_step_of r) s.objects (or_flaw-left bad (or_flaw shown_ (or_flaw fell order)) past_gap) o d e));
        shown = each_item causes.Shown (λ t i x. is_shown s r x) r (or_flaw-left shown_ (or_flaw fell order) past_bad);
        never_falling = each_item causes.Fell (λ t i x. is_at_least (place r t i) x) r (or_flaw-left fell order past_shown);
        ordered = each_item causes.Order (λ t i x. is_at_least (owed r t i) x) r (or_flaw-right fell order past_shown);
      },
      record {
        count = count;
        each = λ t l e. subst (λ n. list_follows s r n l ≡ true) (zero-add t) (text_from-sound s r 0 r.lists (or_flaw-left text (or_flaw gap (or_flaw bad (or_flaw shown_ (or_flaw fell order)))) h) t l e);
      },
    )

-- a record whose items pass the test of a line is well formed
pub well_formed : (s : Scene) (r : Recorded) → r.version ≡ s.version → length r.lists ≡ length s.threads → first_of_items causes.Text (λ t i x. is_item s t x) 0 r.lists ≡ None → IsRecord s r
well_formed s r version count h = record { version = version; count = count; each = each_item causes.Text (λ t i x. is_item s t x) r h }
