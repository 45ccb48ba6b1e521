-- A thread that has a task may make an item that leaves it less to do.
use Rattle.std.proofs.Common.{◌≡◌, ℕ, ◌==◌, ◌&&◌, not, ℤ, Bool, true, false, List, [], ◌∷◌, ◌++◌, Option, Some, None, slice_get, if◌then◌else◌, refl, sym, subst, eq-eqb}
use Rattle.cx_names.specs.declared.ObjectNo.{ObjectNo}
use Rattle.cx_names.specs.declared.Reply.{Reply}
use Rattle.cx_names.specs.declared.Reply.TheVariants as replies
use Rattle.cx_names.specs.Replies.{int_eq, reply_eq}
use Rattle.cx_names.proofs.Equal.{replies_are_equal}
use Rattle.cx_machine.specs.declared.kind.Op.{Op}
use Rattle.cx_machine.specs.declared.kind.Op.TheVariants as ops
use Rattle.cx_scene.specs.declared.declared.Object.{Object}
use Rattle.cx_scene.specs.declared.declared.Object.TheVariants as objects
use Rattle.cx_scene.specs.declared.declared.Small.TheVariants as smalls
use Rattle.cx_scene.specs.declared.declared.Policy.TheVariants as policies
use Rattle.cx_scene.specs.Scene.{Scene}
use Rattle.cx_items.specs.declared.item.Control.{Control}
use Rattle.cx_items.specs.declared.item.Control.TheVariants as controls
use Rattle.cx_items.specs.declared.item.Item.{Item}
use Rattle.cx_items.specs.declared.item.Item.TheVariants as items
use Rattle.cx_items.specs.declared.form.Wanted.{Wanted}
use Rattle.cx_items.specs.declared.form.Wanted.TheVariants.{Just, ANumber, AThread, AnOutcome}
use Rattle.cx_items.specs.declared.form.Form.{Form}
use Rattle.cx_items.specs.declared.form.Form.TheVariants.{Change, Look, Begin, Does, Says as SaysForm}
use Rattle.cx_items.specs.declared.form.Forms.TheVariants.{One, Two, Three}
use Rattle.cx_items.specs.declared.task.Task.{Task}
use Rattle.cx_items.specs.declared.task.Task.TheVariants.{Makes, Answers, Says, Arrives, ArrivesAndWaits, ArrivesAndDrops, Completes, CallsOnce, LocksFrom, LocksRest, TriesAll, Tests, RegistersWait, AsksStop, TestsStop, TestsLast, AsksAgain, Requests, Drains, Registers, Launches}
use Rattle.cx_items.specs.Form.{look, fits, op_number, op_eq, bool_eq, is_wanted, control_eq, control_reply}
use Rattle.cx_items.specs.Next.{Local, Alternative, to, says, completion, alternatives, offered_by, reached}
use Rattle.cx_weights.specs.Weights.{earned_by, is_true_item}
use Rattle.cx_weights.proofs.Agendas.{sample, is_free, is_free_task}

-- each stop is requested
abbrev pub all_asked : ℕ → Bool
all_asked o = true

-- ---- an item of a form

abbrev pub item_of : Form → Item
item_of (Change o op a b w) = items.Change o 0 (record { by = record { 0 = 0 }; op = op; a = a; b = b; reply = sample w })
item_of (Look o op a b w) = items.Look o (record { by = record { 0 = 0 }; op = op; a = a; b = b; reply = sample w; at = 0 })
item_of (Begin o) = items.Said replies.Ok
item_of (Does c) = items.Control c
item_of (SaysForm r) = items.Said r

same_number : (n : ℕ) → (n == n) ≡ true
same_number n = eq-eqb n n refl

same_reply : (r : Reply) → reply_eq r r ≡ true
same_reply r = (replies_are_equal r r).1 refl

same_integer : (a : ℤ) → int_eq a a ≡ true
same_integer a = same_reply (replies.Number a)

same_bool : (b : Bool) → bool_eq b b ≡ true
same_bool true = refl
same_bool false = refl

same_control : (c : Control) → control_eq c c ≡ true
same_control (controls.Start t ok) = rw (same_number t.0, same_bool ok) refl
same_control (controls.Launch t ok) = rw (same_number t.0, same_bool ok) refl
same_control (controls.Join t) = same_number t.0

sample_wanted : (w : Wanted) → is_wanted w (sample w) ≡ true
sample_wanted (Just r) = same_reply r
sample_wanted ANumber = refl
sample_wanted AThread = refl
sample_wanted AnOutcome = refl

all_so : (a b c d e : Bool) → a ≡ true → b ≡ true → c ≡ true → d ≡ true → e ≡ true → (a && (b && c && d && e)) ≡ true
all_so true true true true true p q r s t = refl
all_so false b c d e p q r s t = cc
all_so true false c d e p q r s t = cc
all_so true true false d e p q r s t = cc
all_so true true true false e p q r s t = cc
all_so true true true true false p q r s t = cc

if_so : (c : Bool) (r : Reply) → c ≡ true → (if c then Some r else None) ≡ Some r
if_so true r h = refl
if_so false r h = cc

pub record FitsOwn (s : Scene) (f : Form) : Type 0 where
  pub word : Reply
  pub is : fits s f (item_of f) ≡ Some word

words_fit : (o : ObjectNo) (op : Op) (a b : ℤ) (w : Wanted) → ((o.0 == o.0) && (op_eq op op && int_eq a a && int_eq b b && is_wanted w (sample w))) ≡ true
words_fit o op a b w = all_so (o.0 == o.0) (op_eq op op) (int_eq a a) (int_eq b b) (is_wanted w (sample w)) (same_number o.0) (same_number (op_number op)) (same_integer a) (same_integer b) (sample_wanted w)

fits_own : (s : Scene) (f : Form) → is_free f ≡ true → FitsOwn s f
fits_own s (Change o op a b w) h = record { word = sample w; is = if_so _ (sample w) (words_fit o op a b w) }
fits_own s (Look o op a b w) h = record { word = sample w; is = if_so _ (sample w) (words_fit o op a b w) }
fits_own s (Begin o) h = cc
fits_own s (Does c) h = record { word = control_reply c; is = if_so _ (control_reply c) (same_control c) }
fits_own s (SaysForm r) h = record { word = r; is = if_so _ r (same_reply r) }

nothing_earned : (b : Bool) → not b ≡ true → ◌≡◌ {A = ℕ} (if b then 4 else 0) 0
nothing_earned true h = cc
nothing_earned false h = refl

own_earns : (f : Form) → is_free f ≡ true → earned_by (item_of f) ≡ 0
own_earns (Change o op a b w) h = nothing_earned (op_eq op ops.Begin) h
own_earns (Look o op a b w) h = refl
own_earns (Begin o) h = refl
own_earns (Does c) h = refl
own_earns (SaysForm r) h = refl

own_true : (f : Form) → is_free f ≡ true → is_true_item all_asked (item_of f) ≡ true
own_true (Change o op a b w) h = refl
own_true (Look o op a b w) h = h
own_true (Begin o) h = refl
own_true (Does c) h = refl
own_true (SaysForm r) h = refl

-- ---- one of these alternatives

-- an item that is of one of them, and earns nothing
pub record Goes (s : Scene) (others : List Alternative) : Type 0 where
  pub item : Item
  pub next : Local
  pub is : reached s others item ≡ Some next
  pub earns : earned_by item ≡ 0
  pub is_true : is_true_item all_asked item ≡ true

by_first : (s : Scene) (a : Alternative) (others : List Alternative) → is_free a.form ≡ true → Goes s (a ∷ others)
by_first s a others h =
    let f = fits_own s a.form h in
    let e = f.is in
    record { item = item_of a.form; next = a.next f.word; is = rw e refl; earns = own_earns a.form h; is_true = own_true a.form h }

-- by the second, where the item is not of the first
by_second : (s : Scene) (a b : Alternative) (others : List Alternative) → is_free b.form ≡ true → fits s a.form (item_of b.form) ≡ None → Goes s (a ∷ b ∷ others)
by_second s a b others h k =
    let f = fits_own s b.form h in
    let e = f.is in
    record { item = item_of b.form; next = b.next f.word; is = rw (k, e) refl; earns = own_earns b.form h; is_true = own_true b.form h }

-- the first of them may always be made
record Front (others : List Alternative) : Type 0 where
  pub first : Alternative
  pub rest : List Alternative
  pub is : others ≡ first ∷ rest
  pub free : is_free first.form ≡ true

completes_first : (l : Local) (b : ObjectNo) (d : Option Object) → Front (completion l b d)
completes_first l b (Some (objects.Barrier count (Some (smalls.Release q n)))) = record { first = _; rest = _; is = refl; free = refl }
completes_first l b (Some (objects.Barrier count (Some (smalls.NotifyOne q)))) = record { first = _; rest = _; is = refl; free = refl }
completes_first l b (Some (objects.Barrier count (Some (smalls.NotifyAll q)))) = record { first = _; rest = _; is = refl; free = refl }
completes_first l b _ = record { first = _; rest = _; is = refl; free = refl }

goes_front : (s : Scene) (others more : List Alternative) → Front others → Goes s (others ++ more)
goes_front s others more f = subst (λ v. Goes s (v ++ more)) (sym f.is) (by_first s f.first (f.rest ++ more) f.free)

goes_first : (s : Scene) (others : List Alternative) → Front others → Goes s others
goes_first s others f = subst (λ v. Goes s v) (sym f.is) (by_first s f.first f.rest f.free)

goes : (s : Scene) (t : ℕ) (l : Local) (task : Task) → is_free_task task ≡ true → Goes s (alternatives s t l task)
goes s t l (Makes (One f)) h = by_first s (to f l) [] h
goes s t l (Makes (Two f g)) h = by_first s (to f l) (to g l ∷ []) h
goes s t l (Makes (Three f g i)) h = by_first s (to f l) (to g l ∷ to i l ∷ []) h
goes s t l (Answers (One f)) h = by_first s (record { form = f; next = says l }) _ h
goes s t l (Answers (Two f g)) h = by_first s (record { form = f; next = says l }) _ h
goes s t l (Answers (Three f g i)) h = by_first s (record { form = f; next = says l }) _ h
goes s t l (Says r) h = by_first s _ _ refl
goes s t l (Arrives b n) h = by_first s _ _ refl
goes s t l (ArrivesAndWaits b) h = by_first s _ _ refl
goes s t l (ArrivesAndDrops b) h = by_first s _ _ refl
goes s t l (Completes b must) h = goes_first s (completion l b (slice_get s.objects b.0)) (completes_first l b (slice_get s.objects b.0))
goes s t l (CallsOnce o f r) h = by_second s _ (to (look o ops.Passive 0 replies.Ok) (says l replies.Passive)) [] refl refl
goes s t l (LocksFrom os) h = by_first s _ _ refl
goes s t l (LocksRest os k) h = by_first s _ _ refl
goes s t l (TriesAll os k) h = by_first s _ _ refl
goes s t l (Tests c m p) h = by_first s _ _ refl
goes s t l (RegistersWait w) h = by_first s _ _ refl
goes s t l (AsksStop w) h = by_first s _ _ refl
goes s t l (TestsStop w) h = by_first s _ _ refl
goes s t l (TestsLast w) h = by_first s _ _ refl
goes s t l (AsksAgain w) h = by_first s _ _ refl
goes s t l (Requests st has_reply) h = by_first s _ _ refl
goes s t l (Drains st has_reply) h = by_second s _ (to (look st ops.Drained 0 replies.Ok) _) [] refl refl
goes s t l (Registers st id) h = by_first s _ _ refl
goes s t l (Launches a u policies.Async) h = by_first s _ _ refl
goes s t l (Launches a u policies.Both) h = by_first s _ _ refl
goes s t l (Launches a u policies.Deferred) h = by_first s _ _ refl

-- A THREAD THAT HAS A TASK MAY MAKE AN ITEM
pub goes_on : (s : Scene) (t : ℕ) (l : Local) (task : Task) (ts : List Task) → is_free_task task ≡ true → Goes s (offered_by s t l (task ∷ ts))
goes_on s t l (Completes b false) ts h = goes_front s (completion (record l { agenda = ts }) b (slice_get s.objects b.0)) (offered_by s t l ts) (completes_first (record l { agenda = ts }) b (slice_get s.objects b.0))
goes_on s t l task ts h = goes s t (record l { agenda = ts }) task h
