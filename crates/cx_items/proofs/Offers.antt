-- What the alternatives of a task are, form by form.
use Rattle.std.proofs.Common.{◌≡◌, ℕ, ◌+◌, ◌≤◌, true, false, List, [], ◌∷◌, ◌++◌, map, length, drop, Option, Some, None, ◌⊎◌, inl, inr, refl, ap, sym, ◌∙◌, arith}
use Rattle.std.specs.List.{slice_get}
use Rattle.std.specs.Option.{option_map}
use Rattle.std.proofs.lemmas.List.{at_drop_more, map-append}
use Rattle.std.proofs.lemmas.Option.{slice_get_within, get_or_from_slice_get}
use Rattle.cx_names.specs.declared.ObjectNo.{ObjectNo}
use Rattle.cx_names.specs.declared.Reply.{Reply}
use Rattle.cx_scene.specs.declared.declared.Object.{Object}
use Rattle.cx_scene.specs.declared.declared.Object.TheVariants as objects
use Rattle.cx_scene.specs.declared.declared.Policy.TheVariants as policies
use Rattle.cx_scene.specs.declared.declared.Small.TheVariants as smalls
use Rattle.cx_scene.specs.Scene.{Scene}
use Rattle.cx_items.specs.declared.item.Item.{Item}
use Rattle.cx_items.specs.declared.form.Form.{Form}
use Rattle.cx_items.specs.declared.form.Forms.{Forms}
use Rattle.cx_items.specs.declared.form.Forms.TheVariants.{One, Two, Three}
use Rattle.cx_items.specs.declared.fit.Fit.{Fit}
use Rattle.cx_items.specs.declared.fit.Which.TheVariants.{First, Second, Third}
use Rattle.cx_items.specs.declared.task.Task.{Task}
use Rattle.cx_items.specs.declared.task.Task.TheVariants.{Makes, Answers, Says, Arrives, ArrivesAndWaits, ArrivesAndDrops, Completes, CallsOnce, LocksFrom, LocksRest, TriesAll, Tests, RegistersWait, AsksStop, TestsStop, TestsLast, AsksAgain, Requests, Drains, Registers, Launches}
use Rattle.cx_items.specs.Form.{forms_in, fits}
use Rattle.cx_items.specs.Next.{Local, Alternative, alternatives, completion, offered_by, reached, is_reached, or_then, says}
use Rattle.cx_items.specs.Steps.{form_of, forms_of, first_fit, fit_at, next_at, stepped, may_be_skipped}

-- the alternatives of a task are at most three, and their forms those of the task anywhere
pub record Few_forms (alternatives_ : List Alternative) (forms : List Form) : Type 0 where
  pub forms_are : map form_of alternatives_ ≡ forms
  pub few : length alternatives_ ≤ 3

abbrev blank : Local
blank = record { memory = record { kept = []; held = []; joinable = []; turns = 0 }; agenda = []; calls = []; number = 0 }

few_plain : (fs : Forms) (next next' : Form → Reply → Local) → Few_forms (map (λ f. record { form = f; next = next f }) (forms_in fs)) (map form_of (map (λ f. record { form = f; next = next' f }) (forms_in fs)))
few_plain (One f) next next' = record { forms_are = refl; few = omega arith }
few_plain (Two f g) next next' = record { forms_are = refl; few = omega arith }
few_plain (Three f g h) next next' = record { forms_are = refl; few = omega arith }

few_completion : (l : Local) (b : ObjectNo) (o : Option Object) → Few_forms (completion l b o) (map form_of (completion blank b o))
few_completion l b None = record { forms_are = refl; few = omega arith }
few_completion l b (Some (objects.Barrier c (Some (smalls.Release q n)))) = record { forms_are = refl; few = omega arith }
few_completion l b (Some (objects.Barrier c (Some (smalls.NotifyOne q)))) = record { forms_are = refl; few = omega arith }
few_completion l b (Some (objects.Barrier c (Some (smalls.NotifyAll q)))) = record { forms_are = refl; few = omega arith }
few_completion l b (Some objects.Recursive) = record { forms_are = refl; few = omega arith }
few_completion l b (Some objects.Shared) = record { forms_are = refl; few = omega arith }
few_completion l b (Some (objects.Semaphore c m)) = record { forms_are = refl; few = omega arith }
few_completion l b (Some (objects.Latch c)) = record { forms_are = refl; few = omega arith }
few_completion l b (Some (objects.Barrier c None)) = record { forms_are = refl; few = omega arith }
few_completion l b (Some objects.Once) = record { forms_are = refl; few = omega arith }
few_completion l b (Some objects.Condition) = record { forms_are = refl; few = omega arith }
few_completion l b (Some (objects.Stop hs)) = record { forms_are = refl; few = omega arith }
few_completion l b (Some objects.StopOfThread) = record { forms_are = refl; few = omega arith }
few_completion l b (Some (objects.Promise a r)) = record { forms_are = refl; few = omega arith }
few_completion l b (Some (objects.SharedPromise a rs)) = record { forms_are = refl; few = omega arith }
few_completion l b (Some (objects.Task a r f)) = record { forms_are = refl; few = omega arith }
few_completion l b (Some (objects.Async p f u)) = record { forms_are = refl; few = omega arith }
few_completion l b (Some (objects.Mutex n)) = record { forms_are = refl; few = omega arith }

pub few_forms : (s : Scene) (t : ℕ) (l : Local) (task : Task) → Few_forms (alternatives s t l task) (forms_of s task)
few_forms s t l (Makes fs) = few_plain fs (λ f r. l) (λ f r. blank)
few_forms s t l (Answers fs) = few_plain fs (λ f r. says l r) (λ f r. says blank r)
few_forms s t l (Completes b must) = few_completion l b (slice_get s.objects b.0)
few_forms s t l (Says r) = record { forms_are = refl; few = omega arith }
few_forms s t l (Arrives b n) = record { forms_are = refl; few = omega arith }
few_forms s t l (ArrivesAndWaits b) = record { forms_are = refl; few = omega arith }
few_forms s t l (ArrivesAndDrops b) = record { forms_are = refl; few = omega arith }
few_forms s t l (CallsOnce o f r) = record { forms_are = refl; few = omega arith }
few_forms s t l (LocksFrom os) = record { forms_are = refl; few = omega arith }
few_forms s t l (LocksRest os k) = record { forms_are = refl; few = omega arith }
few_forms s t l (TriesAll os k) = record { forms_are = refl; few = omega arith }
few_forms s t l (Tests c m p) = record { forms_are = refl; few = omega arith }
few_forms s t l (RegistersWait w) = record { forms_are = refl; few = omega arith }
few_forms s t l (AsksStop w) = record { forms_are = refl; few = omega arith }
few_forms s t l (TestsStop w) = record { forms_are = refl; few = omega arith }
few_forms s t l (TestsLast w) = record { forms_are = refl; few = omega arith }
few_forms s t l (AsksAgain w) = record { forms_are = refl; few = omega arith }
few_forms s t l (Requests st b) = record { forms_are = refl; few = omega arith }
few_forms s t l (Drains st b) = record { forms_are = refl; few = omega arith }
few_forms s t l (Registers st i) = record { forms_are = refl; few = omega arith }
few_forms s t l (Launches a u policies.Async) = record { forms_are = refl; few = omega arith }
few_forms s t l (Launches a u policies.Both) = record { forms_are = refl; few = omega arith }
few_forms s t l (Launches a u policies.Deferred) = record { forms_are = refl; few = omega arith }

-- a task is a completion that isn't due, or the next item is of one of its forms
pub record IsLast (task : Task) : Type 0 where
  pub last : (s : Scene) (t : ℕ) (l : Local) (ts : List Task) → offered_by s t l (task ∷ ts) ≡ alternatives s t (record l { agenda = ts }) task
  pub test : may_be_skipped task ≡ false

pub record IsSkipped (task : Task) : Type 0 where
  pub more : (s : Scene) (t : ℕ) (l : Local) (ts : List Task) → offered_by s t l (task ∷ ts) ≡ alternatives s t (record l { agenda = ts }) task ++ offered_by s t l ts
  pub test : may_be_skipped task ≡ true

pub last_or_skipped : (task : Task) → IsLast task ⊎ IsSkipped task
last_or_skipped (Completes b false) = inr (record { more = λ s t l ts. refl; test = refl })
last_or_skipped (Completes b true) = inl (record { last = λ s t l ts. refl; test = refl })
last_or_skipped (Makes fs) = inl (record { last = λ s t l ts. refl; test = refl })
last_or_skipped (Answers fs) = inl (record { last = λ s t l ts. refl; test = refl })
last_or_skipped (Says r) = inl (record { last = λ s t l ts. refl; test = refl })
last_or_skipped (Arrives b n) = inl (record { last = λ s t l ts. refl; test = refl })
last_or_skipped (ArrivesAndWaits b) = inl (record { last = λ s t l ts. refl; test = refl })
last_or_skipped (ArrivesAndDrops b) = inl (record { last = λ s t l ts. refl; test = refl })
last_or_skipped (CallsOnce o f r) = inl (record { last = λ s t l ts. refl; test = refl })
last_or_skipped (LocksFrom os) = inl (record { last = λ s t l ts. refl; test = refl })
last_or_skipped (LocksRest os k) = inl (record { last = λ s t l ts. refl; test = refl })
last_or_skipped (TriesAll os k) = inl (record { last = λ s t l ts. refl; test = refl })
last_or_skipped (Tests c m p) = inl (record { last = λ s t l ts. refl; test = refl })
last_or_skipped (RegistersWait w) = inl (record { last = λ s t l ts. refl; test = refl })
last_or_skipped (AsksStop w) = inl (record { last = λ s t l ts. refl; test = refl })
last_or_skipped (TestsStop w) = inl (record { last = λ s t l ts. refl; test = refl })
last_or_skipped (TestsLast w) = inl (record { last = λ s t l ts. refl; test = refl })
last_or_skipped (AsksAgain w) = inl (record { last = λ s t l ts. refl; test = refl })
last_or_skipped (Requests st b) = inl (record { last = λ s t l ts. refl; test = refl })
last_or_skipped (Drains st b) = inl (record { last = λ s t l ts. refl; test = refl })
last_or_skipped (Registers st i) = inl (record { last = λ s t l ts. refl; test = refl })
last_or_skipped (Launches a u p) = inl (record { last = λ s t l ts. refl; test = refl })

one_fit : (a : Alternative) (o : Option Reply) (k : Local) → or_then (option_map a.next o) None ≡ option_map (λ (f : Fit). next_at (a ∷ []) f k) (fit_at First o None)
one_fit a None k = refl
one_fit a (Some r) k = refl

two_fit : (a b : Alternative) (o p : Option Reply) (k : Local) → or_then (option_map a.next o) (or_then (option_map b.next p) None) ≡ option_map (λ (f : Fit). next_at (a ∷ b ∷ []) f k) (fit_at First o (fit_at Second p None))
two_fit a b None None k = refl
two_fit a b None (Some r) k = refl
two_fit a b (Some r) p k = refl

three_fit : (a b c : Alternative) (o p q : Option Reply) (k : Local) → or_then (option_map a.next o) (or_then (option_map b.next p) (or_then (option_map c.next q) None)) ≡ option_map (λ (f : Fit). next_at (a ∷ b ∷ c ∷ []) f k) (fit_at First o (fit_at Second p (fit_at Third q None)))
three_fit a b c None None None k = refl
three_fit a b c None None (Some r) k = refl
three_fit a b c None (Some r) q k = refl
three_fit a b c (Some r) p q k = refl

few_reached : (s : Scene) (all : List Alternative) (x : Item) (k : Local) → length all ≤ 3 → reached s all x ≡ option_map (λ (f : Fit). next_at all f k) (first_fit s (map form_of all) x)
few_reached s [] x k h = refl
few_reached s (a ∷ []) x k h = one_fit a (fits s a.form x) k
few_reached s (a ∷ b ∷ []) x k h = two_fit a b (fits s a.form x) (fits s b.form x) k
few_reached s (a ∷ b ∷ c ∷ []) x k h = three_fit a b c (fits s a.form x) (fits s b.form x) (fits s c.form x) k
few_reached s (a ∷ b ∷ c ∷ d ∷ others) x k h = absurd (omega arith)

-- where an item leads by the alternatives of a task
pub task_reached : (s : Scene) (t : ℕ) (l : Local) (task : Task) (x : Item) → reached s (alternatives s t l task) x ≡ option_map (λ (f : Fit). next_at (alternatives s t l task) f l) (first_fit s (forms_of s task) x)
task_reached s t l task x =
    let w = few_forms s t l task in
    few_reached s (alternatives s t l task) x l w.few ∙ ap (λ fs. option_map (λ (f : Fit). next_at (alternatives s t l task) f l) (first_fit s fs x)) w.forms_are

or_then-assoc : (a b c : Option Local) → or_then (or_then a b) c ≡ or_then a (or_then b c)
or_then-assoc None b c = refl
or_then-assoc (Some k) b c = refl

reached-append : (s : Scene) (xs ys : List Alternative) (x : Item) → reached s (xs ++ ys) x ≡ or_then (reached s xs x) (reached s ys x)
reached-append s [] ys x = refl
reached-append s (a ∷ xs) ys x = ap (λ k. or_then (is_reached s a x) k) (reached-append s xs ys x) ∙ sym (or_then-assoc (is_reached s a x) (reached s xs x) (reached s ys x))

-- ---- along an agenda

pub drop_at : (ts : List Task) (i : ℕ) (task : Task) → slice_get ts i ≡ Some task → drop i ts ≡ task ∷ drop (i + 1) ts
drop_at ts i task h = at_drop_more (λ ys. ys) ts i task (slice_get_within ts i task h) ∙ ap (λ y. y ∷ drop (i + 1) ts) (get_or_from_slice_get ts i task task h)

pub forms_last : (s : Scene) (t : ℕ) (l : Local) (ts : List Task) (i : ℕ) (task : Task) → slice_get ts i ≡ Some task → may_be_skipped task ≡ false → map form_of (offered_by s t l (drop i ts)) ≡ forms_of s task
forms_last s t l ts i task at_ h = ap (λ us. map form_of (offered_by s t l us)) (drop_at ts i task at_) ∙ go (last_or_skipped task)
  where
    go : IsLast task ⊎ IsSkipped task → map form_of (offered_by s t l (task ∷ drop (i + 1) ts)) ≡ forms_of s task
    go (inl p) = ap (λ all. map form_of all) (p.last s t l (drop (i + 1) ts)) ∙ (few_forms s t (record l { agenda = drop (i + 1) ts }) task).forms_are
    go (inr p) = let e : true ≡ false = sym p.test ∙ h in cc

pub forms_more : (s : Scene) (t : ℕ) (l : Local) (ts : List Task) (i : ℕ) (task : Task) → slice_get ts i ≡ Some task → may_be_skipped task ≡ true → map form_of (offered_by s t l (drop i ts)) ≡ forms_of s task ++ map form_of (offered_by s t l (drop (i + 1) ts))
forms_more s t l ts i task at_ h = ap (λ us. map form_of (offered_by s t l us)) (drop_at ts i task at_) ∙ go (last_or_skipped task)
  where
    go : IsLast task ⊎ IsSkipped task → map form_of (offered_by s t l (task ∷ drop (i + 1) ts)) ≡ forms_of s task ++ map form_of (offered_by s t l (drop (i + 1) ts))
    go (inl p) = let e : false ≡ true = sym p.test ∙ h in cc
    go (inr p) =
        ap (λ all. map form_of all) (p.more s t l (drop (i + 1) ts))
        ∙ (map-append form_of (alternatives s t (record l { agenda = drop (i + 1) ts }) task) (offered_by s t l (drop (i + 1) ts))
        ∙ ap (λ fs. fs ++ map form_of (offered_by s t l (drop (i + 1) ts))) (few_forms s t (record l { agenda = drop (i + 1) ts }) task).forms_are)

abbrev by_task : Scene → ℕ → Local → List Task → Task → Option Fit → Option Local
by_task s t l others task o = option_map (λ (f : Fit). next_at (alternatives s t (record l { agenda = others }) task) f (record l { agenda = others })) o

-- the item is of no form of a task that may not be skipped
pub found_none : (s : Scene) (t : ℕ) (l : Local) (x : Item) (ts : List Task) (i : ℕ) (task : Task) → slice_get ts i ≡ Some task → first_fit s (forms_of s task) x ≡ None → may_be_skipped task ≡ false → reached s (offered_by s t l (drop i ts)) x ≡ None
found_none s t l x ts i task at_ none_fits h = ap (λ us. reached s (offered_by s t l us) x) (drop_at ts i task at_) ∙ go (last_or_skipped task)
  where
    go : IsLast task ⊎ IsSkipped task → reached s (offered_by s t l (task ∷ drop (i + 1) ts)) x ≡ None
    go (inl p) = ap (λ all. reached s all x) (p.last s t l (drop (i + 1) ts)) ∙ (task_reached s t (record l { agenda = drop (i + 1) ts }) task x ∙ ap (by_task s t l (drop (i + 1) ts) task) none_fits)
    go (inr p) = let e : true ≡ false = sym p.test ∙ h in cc

-- nor of one that may
pub found_later : (s : Scene) (t : ℕ) (l : Local) (x : Item) (ts : List Task) (i : ℕ) (task : Task) → slice_get ts i ≡ Some task → first_fit s (forms_of s task) x ≡ None → may_be_skipped task ≡ true → reached s (offered_by s t l (drop i ts)) x ≡ reached s (offered_by s t l (drop (i + 1) ts)) x
found_later s t l x ts i task at_ none_fits h = ap (λ us. reached s (offered_by s t l us) x) (drop_at ts i task at_) ∙ go (last_or_skipped task)
  where
    go : IsLast task ⊎ IsSkipped task → reached s (offered_by s t l (task ∷ drop (i + 1) ts)) x ≡ reached s (offered_by s t l (drop (i + 1) ts)) x
    go (inl p) = let e : false ≡ true = sym p.test ∙ h in cc
    go (inr p) =
        ap (λ all. reached s all x) (p.more s t l (drop (i + 1) ts))
        ∙ (reached-append s (alternatives s t (record l { agenda = drop (i + 1) ts }) task) (offered_by s t l (drop (i + 1) ts)) x
        ∙ ap (λ k. or_then k (reached s (offered_by s t l (drop (i + 1) ts)) x)) (task_reached s t (record l { agenda = drop (i + 1) ts }) task x ∙ ap (by_task s t l (drop (i + 1) ts) task) none_fits))

-- the item is of a form of the task
pub found_here : (s : Scene) (t : ℕ) (l : Local) (x : Item) (ts : List Task) (i : ℕ) (task : Task) (fit : Fit) → slice_get ts i ≡ Some task → first_fit s (forms_of s task) x ≡ Some fit → reached s (offered_by s t l (drop i ts)) x ≡ stepped s t l (drop (i + 1) ts) (slice_get ts i) fit
found_here s t l x ts i task fit at_ is_ = ap (λ us. reached s (offered_by s t l us) x) (drop_at ts i task at_) ∙ (go (last_or_skipped task) ∙ ap (λ o. stepped s t l (drop (i + 1) ts) o fit) (sym at_))
  where
    here : reached s (alternatives s t (record l { agenda = drop (i + 1) ts }) task) x ≡ stepped s t l (drop (i + 1) ts) (Some task) fit
    here = task_reached s t (record l { agenda = drop (i + 1) ts }) task x ∙ ap (by_task s t l (drop (i + 1) ts) task) is_

    go : IsLast task ⊎ IsSkipped task → reached s (offered_by s t l (task ∷ drop (i + 1) ts)) x ≡ stepped s t l (drop (i + 1) ts) (Some task) fit
    go (inl p) = ap (λ all. reached s all x) (p.last s t l (drop (i + 1) ts)) ∙ here
    go (inr p) =
        ap (λ all. reached s all x) (p.more s t l (drop (i + 1) ts))
        ∙ (reached-append s (alternatives s t (record l { agenda = drop (i + 1) ts }) task) (offered_by s t l (drop (i + 1) ts)) x
        ∙ ap (λ k. or_then k (reached s (offered_by s t l (drop (i + 1) ts)) x)) here)
