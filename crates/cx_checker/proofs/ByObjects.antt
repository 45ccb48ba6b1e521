-- The first flaw of an object, object by object.
use Rattle.std.proofs.Common.{◌≡◌, ℕ, zero, suc, ◌+◌, ◌<◌, ◌≤◌, Bool, true, false, List, [], ◌∷◌, ◌++◌, length, map, drop, slice_get, get_or, Option, Some, None, option_map, if◌then◌else◌, refl, sym, ap, ◌∙◌, subst, arith, zero-add}
use Rattle.std.proofs.lemmas.Option.{slice_get-map, slice_get_within, slice_get_read}
use Rattle.cx_machine.specs.Machine.{opening}
use Rattle.cx_machine.specs.declared.kind.Kind.{Kind}
use Rattle.cx_scene.specs.declared.declared.Object.{Object}
use Rattle.cx_scene.specs.Scene.{kind_of}
use Rattle.cx_history.specs.declared.flaw.Flaw.{Flaw}
use Rattle.cx_history.specs.declared.flaw.Cause.{Cause}
use Rattle.cx_history.specs.declared.flaw.Cause.TheVariants as causes
use Rattle.cx_history.specs.Histories.{Recorded, Placed, in_order, changes_of, changes_from}
use Rattle.cx_history.specs.Flaw.{or_flaw, placed_flaw, gap_from, bad_step_from, gap_of, bad_step_of, first_of_objects}
use Rattle.cx_checker.specs.declared.by_object.Changes.{Changes}
use Rattle.cx_checker.specs.Views.{placed_of, placed_in, changes_at, kept_in, AreHistories}
use Rattle.cx_checker.proofs.Gathering.{drop_at, drop_past}

-- an object without a flaw, one with a flaw, and the end
pub next_object : (f : ℕ → Object → Option Flaw) (o : ℕ) (ds : List Object) (d : Object) (all : Option Flaw) → slice_get ds o ≡ Some d → f o d ≡ None → all ≡ first_of_objects f o (drop o ds) → all ≡ first_of_objects f (o + 1) (drop (o + 1) ds)
next_object f o ds d all at_ is so_far =
    so_far ∙ (ap (first_of_objects f o) (drop_at ds o d at_) ∙ ap (λ e. or_flaw e (first_of_objects f (o + 1) (drop (o + 1) ds))) is)

pub object_found : (f : ℕ → Object → Option Flaw) (o : ℕ) (ds : List Object) (d : Object) (all : Option Flaw) (e : Flaw) → slice_get ds o ≡ Some d → f o d ≡ Some e → all ≡ first_of_objects f o (drop o ds) → Some e ≡ all
object_found f o ds d all e at_ is so_far =
    sym (so_far ∙ (ap (first_of_objects f o) (drop_at ds o d at_) ∙ ap (λ g. or_flaw g (first_of_objects f (o + 1) (drop (o + 1) ds))) is))

pub no_object : (f : ℕ → Object → Option Flaw) (o : ℕ) (ds : List Object) (all : Option Flaw) → length ds ≤ o → all ≡ first_of_objects f o (drop o ds) → None ≡ all
no_object f o ds all past so_far = sym (so_far ∙ ap (first_of_objects f o) (drop_past ds o past))

-- ---- an object that is there

pub there : {X : Type 0} (xs : List X) (i : ℕ) → i < length xs → (x : X) × (slice_get xs i ≡ Some x)
there [] i h = absurd (omega arith)
there (x ∷ xs) zero h = (x, refl)
there (x ∷ xs) (suc i) h = there xs i (omega arith)

history_is : (r : Recorded) (count o : ℕ) (hs : List (List Placed)) (h : List Placed) → AreHistories r count hs → slice_get hs o ≡ Some h → h ≡ changes_of r o
history_is r count o hs h all at_ = all.each o h at_

pub gap_is : (r : Recorded) (o : ℕ) (d : Object) (h : List Placed) (found : Option Placed) → h ≡ changes_of r o → found ≡ gap_from 0 (in_order h) → gap_of r o d ≡ option_map (placed_flaw causes.Gap) found
gap_is r o d h found is gap = sym (ap (option_map (placed_flaw causes.Gap)) (gap ∙ ap (λ cs. gap_from 0 (in_order cs)) is))

pub step_is : (r : Recorded) (o : ℕ) (d : Object) (h : List Placed) (found : Option Placed) → h ≡ changes_of r o → found ≡ bad_step_from (opening (kind_of d)) (in_order h) → bad_step_of r o d ≡ option_map (placed_flaw causes.Step) found
step_is r o d h found is gap = sym (ap (option_map (placed_flaw causes.Step)) (gap ∙ ap (λ cs. bad_step_from (opening (kind_of d)) (in_order cs)) is))

-- where no object has a flaw, this one has none
pub none_of_objects : (f : ℕ → Object → Option Flaw) (o j : ℕ) (ds : List Object) (d : Object) → slice_get ds j ≡ Some d → first_of_objects f o ds ≡ None → f (o + j) d ≡ None
none_of_objects f o j [] d at_ h = cc
none_of_objects f o zero (c ∷ cs) d at_ h = go (f o c) refl h
  where
    go : (e : Option Flaw) → f o c ≡ e → or_flaw e (first_of_objects f (o + 1) cs) ≡ None → f (o + 0) d ≡ None
    go None q k = let same : c ≡ d = cc in let zero_ : o + 0 ≡ o = omega arith in ap (λ n. f n d) zero_ ∙ (ap (f o) (sym same) ∙ q)
    go (Some e) q k = cc
none_of_objects f o (suc j) (c ∷ cs) d at_ h = go (f o c) h (none_of_objects f (o + 1) j cs d at_)
  where
    go : (e : Option Flaw) → or_flaw e (first_of_objects f (o + 1) cs) ≡ None → (first_of_objects f (o + 1) cs ≡ None → f ((o + 1) + j) d ≡ None) → f (o + suc j) d ≡ None
    go None k ih = let same : o + suc j ≡ (o + 1) + j = omega arith in ap (λ n. f n d) same ∙ ih k
    go (Some e) k ih = cc

pub gapless_there : (r : Recorded) (o : ℕ) (ds : List Object) (d : Object) (h : List Placed) → slice_get ds o ≡ Some d → h ≡ changes_of r o → first_of_objects (gap_of r) 0 ds ≡ None → gap_from 0 (in_order h) ≡ None
gapless_there r o ds d h at_ is none = go (gap_from 0 (in_order h)) (gap_is r o d h (gap_from 0 (in_order h)) is refl)
  where
    this : gap_of r o d ≡ None
    this = ap (λ n. gap_of r n d) (sym (zero-add o)) ∙ none_of_objects (gap_of r) 0 o ds d at_ none

    go : (found : Option Placed) → gap_of r o d ≡ option_map (placed_flaw causes.Gap) found → found ≡ None
    go None e = refl
    go (Some c) e = let q = sym this ∙ e in cc

-- ---- the histories

length_map : {X Y : Type 0} (f : X → Y) (xs : List X) → length (map f xs) ≡ length xs
length_map f [] = refl
length_map f (x ∷ xs) = ap suc (length_map f xs)

pub are_histories : (r : Recorded) (count : ℕ) (xs : List Changes) (hs : List (List Placed)) → length xs ≡ count → ((o : ℕ) → o < count → changes_at xs o ≡ changes_from o 0 r.lists) → hs ≡ map kept_in xs → AreHistories r count hs
are_histories r count xs hs long each is = record {
  count_is = ap length is ∙ (length_map kept_in xs ∙ long);
  each = λ o h at_. one o h (ap (λ ys. slice_get ys o) (sym is) ∙ at_);
}
  where
    one : (o : ℕ) (h : List Placed) → slice_get (map kept_in xs) o ≡ Some h → h ≡ changes_of r o
    one o h at_ = go (slice_get xs o) refl (sym (slice_get-map kept_in xs o) ∙ at_)
      where
        go : (x : Option Changes) → slice_get xs o ≡ x → option_map kept_in x ≡ Some h → h ≡ changes_of r o
        go None e k = cc
        go (Some x) e k =
            let same : kept_in x ≡ h = cc in
            let low : o < count = subst (λ n. o < n) long (slice_get_within xs o x e) in
            sym same ∙ (sym (ap placed_in e) ∙ each o low)

-- ---- one object more

history_there : (r : Recorded) (count o : ℕ) (hs : List (List Placed)) (h : List Placed) → AreHistories r count hs → o < length hs → h ≡ get_or hs o h → h ≡ changes_of r o
history_there r count o hs h all low at_ = all.each o h (slice_get_read hs (length hs) o h refl low at_)

pub gap_none : (r : Recorded) (o : ℕ) (ds : List Object) (hs : List (List Placed)) (h : List Placed) (all : Option Flaw) → AreHistories r (length ds) hs → o < length hs → h ≡ get_or hs o h → None ≡ gap_from 0 (in_order h) → all ≡ first_of_objects (gap_of r) o (drop o ds) → all ≡ first_of_objects (gap_of r) (o + 1) (drop (o + 1) ds)
gap_none r o ds hs h all are low at_ gap so_far =
    let d = there ds o (subst (λ n. o < n) are.count_is low) in
    next_object (gap_of r) o ds d.0 all d.1 (gap_is r o d.0 h None (history_there r (length ds) o hs h are low at_) gap) so_far

pub gap_some : (r : Recorded) (o : ℕ) (ds : List Object) (hs : List (List Placed)) (h : List Placed) (c : Placed) (all : Option Flaw) → AreHistories r (length ds) hs → o < length hs → h ≡ get_or hs o h → Some c ≡ gap_from 0 (in_order h) → all ≡ first_of_objects (gap_of r) o (drop o ds) → Some (placed_flaw causes.Gap c) ≡ all
gap_some r o ds hs h c all are low at_ gap so_far =
    let d = there ds o (subst (λ n. o < n) are.count_is low) in
    object_found (gap_of r) o ds d.0 all (placed_flaw causes.Gap c) d.1 (gap_is r o d.0 h (Some c) (history_there r (length ds) o hs h are low at_) gap) so_far

pub gapless_here : (r : Recorded) (o : ℕ) (ds : List Object) (hs : List (List Placed)) (h : List Placed) → AreHistories r (length ds) hs → o < length hs → h ≡ get_or hs o h → first_of_objects (gap_of r) 0 ds ≡ None → gap_from 0 (in_order h) ≡ None
gapless_here r o ds hs h are low at_ none =
    let d = there ds o (subst (λ n. o < n) are.count_is low) in
    gapless_there r o ds d.0 h d.1 (history_there r (length ds) o hs h are low at_) none

pub steps_none : (r : Recorded) (o : ℕ) (ds : List Object) (d : Object) (hs : List (List Placed)) (h : List Placed) (found : Option Placed) (all : Option Flaw) → AreHistories r (length ds) hs → o < length hs → d ≡ get_or ds o d → h ≡ get_or hs o h → found ≡ bad_step_from (opening (kind_of d)) (in_order h) → found ≡ None → all ≡ first_of_objects (bad_step_of r) o (drop o ds) → all ≡ first_of_objects (bad_step_of r) (o + 1) (drop (o + 1) ds)
steps_none r o ds d hs h found all are low at_d at_h step none so_far =
    next_object (bad_step_of r) o ds d all (slice_get_read ds (length hs) o d are.count_is low at_d) (step_is r o d h found (history_there r (length ds) o hs h are low at_h) step ∙ ap (option_map (placed_flaw causes.Step)) none) so_far

pub steps_some : (r : Recorded) (o : ℕ) (ds : List Object) (d : Object) (hs : List (List Placed)) (h : List Placed) (found : Option Placed) (c : Placed) (all : Option Flaw) → AreHistories r (length ds) hs → o < length hs → d ≡ get_or ds o d → h ≡ get_or hs o h → found ≡ bad_step_from (opening (kind_of d)) (in_order h) → found ≡ Some c → all ≡ first_of_objects (bad_step_of r) o (drop o ds) → Some (placed_flaw causes.Step c) ≡ all
steps_some r o ds d hs h found c all are low at_d at_h step is so_far =
    object_found (bad_step_of r) o ds d all (placed_flaw causes.Step c) (slice_get_read ds (length hs) o d are.count_is low at_d) (step_is r o d h found (history_there r (length ds) o hs h are low at_h) step ∙ ap (option_map (placed_flaw causes.Step)) is) so_far

pub steps_here : (r : Recorded) (o : ℕ) (ds : List Object) (d : Object) (hs : List (List Placed)) (h : List Placed) (kind : Kind) → AreHistories r (length ds) hs → o < length hs → d ≡ get_or ds o d → h ≡ get_or hs o h → kind ≡ kind_of d → first_of_objects (bad_step_of r) 0 ds ≡ None → bad_step_from (opening kind) (in_order h) ≡ None
steps_here r o ds d hs h kind are low at_d at_h is none =
    ap (λ (k : Kind). bad_step_from (opening k) (in_order h)) is ∙ go (bad_step_from (opening (kind_of d)) (in_order h)) (step_is r o d h (bad_step_from (opening (kind_of d)) (in_order h)) (history_there r (length ds) o hs h are low at_h) refl)
  where
    this : bad_step_of r o d ≡ None
    this = ap (λ n. bad_step_of r n d) (sym (zero-add o)) ∙ none_of_objects (bad_step_of r) 0 o ds d (slice_get_read ds (length hs) o d are.count_is low at_d) none

    go : (found : Option Placed) → bad_step_of r o d ≡ option_map (placed_flaw causes.Step) found → found ≡ None
    go None e = refl
    go (Some c) e = let q = sym this ∙ e in cc
