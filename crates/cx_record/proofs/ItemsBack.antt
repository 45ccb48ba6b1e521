-- An item that may stand in the list of a thread has a line, which says that item and has no fault where it stands.
use Rattle.std.proofs.Common.{◌≡◌, ℕ, zero, suc, ◌+◌, ◌^◌, ◌<◌, ◌≤◌, ℤ, pos, negsuc, inl, inr, Bool, true, false, cond, ◌&&◌, ◌||◌, List, [], ◌∷◌, ◌++◌, length, map, Option, Some, None, refl, sym, ap, ap₂, subst, ◌∙◌, arith, lit≤, eqb-true}
use Rattle.std.specs.Prelude.{◌==◌, int_le, is_some, nat_le, nat_lt, slice_get}
use Rattle.std.specs.Option.{option_and_then, option_map, unwrap_or}
use Rattle.std.specs.Str.{bytes_eq}
use Rattle.std.proofs.lemmas.Bool.{and_parts, le-leb, lt-leb, ltb-true, true≢false}
use Rattle.std.proofs.lemmas.Option.{slice_get-map, slice_get_within}
use Rattle.cx_names.specs.declared.ThreadNo.{ThreadNo}
use Rattle.cx_names.specs.declared.ObjectNo.{ObjectNo}
use Rattle.cx_names.specs.declared.Outcome.TheVariants as outcomes
use Rattle.cx_names.specs.declared.Reply.{Reply}
use Rattle.cx_names.specs.declared.Reply.TheVariants as replies
use Rattle.cx_machine.specs.declared.kind.Entry.{Entry}
use Rattle.cx_machine.specs.declared.kind.Kind.{Kind}
use Rattle.cx_machine.specs.declared.kind.Kind.TheVariants as kinds
use Rattle.cx_machine.specs.declared.kind.Look.{Look}
use Rattle.cx_machine.specs.declared.kind.Op.{Op}
use Rattle.cx_machine.specs.declared.kind.Op.TheVariants as ops
use Rattle.cx_machine.specs.Words.{fits_i64, when}
use Rattle.cx_index.specs.Places.{place_of}
use Rattle.cx_text.specs.declared.item.ItemForm.{ItemForm}
use Rattle.cx_text.specs.declared.item.ItemForm.TheVariants as forms
use Rattle.cx_text.specs.declared.form.Field.{Field}
use Rattle.cx_text.specs.declared.form.Sort.{Sort}
use Rattle.cx_text.specs.declared.form.Sort.TheVariants as sorts
use Rattle.cx_text.specs.Items.{item_fields, item_since}
use Rattle.cx_text.specs.Table.{takes_main}
use Rattle.cx_text.specs.Words.{Value, AWord, ANumber, is_name, main_word, or_some}
use Rattle.cx_text.proofs.Fields.{IsShort}
use Rattle.cx_items.specs.declared.item.Control.{Control}
use Rattle.cx_items.specs.declared.item.Control.TheVariants as controls
use Rattle.cx_items.specs.declared.item.Item.{Item}
use Rattle.cx_items.specs.declared.item.Item.TheVariants as recorded
use Rattle.cx_scene.specs.declared.declared.Object.{Object}
use Rattle.cx_scene.specs.declared.declared.Thread.{Thread}
use Rattle.cx_scene.specs.declared.declared.Thread.TheVariants as threads
use Rattle.cx_scene.specs.Scene.{Scene, kind_of}
use Rattle.cx_script.specs.Earlier.{number_in, word_in}
use Rattle.cx_script.specs.Faults.{count_in, is_between}
use Rattle.cx_script.specs.Numbered.{numbered}
use Rattle.cx_script.specs.Script.{Script, name_at, names_in}
use Rattle.cx_history.specs.IsRecord.{can_launch, can_start, is_change, is_control, is_item, is_look}
use Rattle.cx_record.specs.Roster.{Roster, fits_sort, is_known, kind_called, launched, numbers, numbers_called, object_called, roster_of, started, thread_called}
use Rattle.cx_record.specs.ItemLines.{AnItem, Line, as_change, as_look, bare, change_words, control_said, item_said, look_words, part_of, reply_said, small_at, with_one, with_two, within, word_at}
use Rattle.cx_record.specs.declared.act.Words.{Words}
use Rattle.cx_record.specs.RecordFaults.{acts_on, has_its_words, object_sort}
use Rattle.cx_record.specs.Printed.{Naming, act_line, act_numbers, change_form, item_line, look_form, naming_of, number, row_line, said_value}
use Rattle.cx_record.specs.Laws.{item_fits, reply_fits}
use Rattle.cx_record.proofs.Typed.{small}
use Rattle.cx_record.proofs.NamesKnown.{AreKnown}
use Rattle.cx_record.proofs.FieldsHold.{HoldAll, HoldsAt}
use Rattle.cx_record.proofs.ActWords.{by_bare, by_bare_answer, by_bare_small, by_bare_thread, by_deregistered, by_index, by_indexed, by_one, by_one_small, by_outcome, by_read, by_ready, by_word}

-- ---- numbers

counted : (low high n : ℕ) → low ≤ n → n ≤ high → high ≤ 4294967295 → (is_between (pos low) (pos high) (pos n) ≡ true) × (n < 10 ^ 20)
counted low high n least most few = (rw (le-leb low n least, le-leb n high most) refl, omega arith)

small_count : (n : ℕ) → n < 4294967296 → (is_between (pos 0) (pos 4294967295) (pos n) ≡ true) × (n < 10 ^ 20)
small_count n lt = counted 0 4294967295 n (omega arith) (omega arith) (omega arith)

small_most : (n : ℕ) → n < 4294967296 → n ≤ 4294967295
small_most n lt = omega arith

longer : (n high : ℕ) → n ≤ high → high ≤ 4294967295 → n ≤ 4294967295
longer n high a b = omega arith

index_holds : (many i : ℕ) → i < many → many ≤ 8 → (int_le (pos many) (pos i) ≡ false) × (i < 10 ^ 20)
index_holds many i lt few = (lt-leb many i lt, omega arith)

index_most : (many i : ℕ) → i < many → many ≤ 8 → i ≤ 4294967295
index_most many i lt few = omega arith

abbrev signed : ℤ → ℤ
signed z = within (negsuc 9223372036854775807) (pos 9223372036854775807) z

signed_between : (z : ℤ) → fits_i64 z ≡ true → is_between (negsuc 9223372036854775807) (pos 9223372036854775807) z ≡ true
signed_between (pos n) h = le-leb n 9223372036854775807 (let lt = ltb-true n 9223372036854775808 h in omega arith)
signed_between (negsuc n) h = rw (le-leb n 9223372036854775807 (let lt = ltb-true n 9223372036854775808 h in omega arith)) refl

signed_short : (z : ℤ) → fits_i64 z ≡ true → IsShort z
signed_short (pos n) h = let lt = ltb-true n 9223372036854775808 h in omega arith
signed_short (negsuc n) h = let lt = ltb-true n 9223372036854775808 h in omega arith

signed_holds : (z : ℤ) → fits_i64 z ≡ true → (is_between (negsuc 9223372036854775807) (pos 9223372036854775807) z ≡ true) × IsShort z
signed_holds z h = (signed_between z h, signed_short z h)

-- a number in its range is read as itself
signed_is : (z : ℤ) → fits_i64 z ≡ true → signed z ≡ z
signed_is z h = ap (λ (b : Bool). cond b z (pos 0)) (signed_between z h)

small_is : (n : ℕ) → n ≤ 4294967295 → small (pos n) ≡ n
small_is n h = ap (λ (b : Bool). count_in (cond b (pos n) (pos 0))) (counted 0 4294967295 n (omega arith) h (omega arith)).0

-- ---- words with their numbers

abbrev of_words : Op → ℤ → ℤ → Reply → Option Words
of_words op a b reply = Some (record { op = op; a = a; b = b; reply = reply })

one_says : (op : Op) (reply : Reply) (n : ℕ) → n ≤ 4294967295 → with_one op (small (pos n)) reply ≡ of_words op (pos n) (pos 0) reply
one_says op reply n h = ap (λ (x : ℕ). of_words op (pos x) (pos 0) reply) (small_is n h)

two_says : (op : Op) (reply : Reply) (n : ℕ) (z : ℤ) → n ≤ 4294967295 → fits_i64 z ≡ true → with_two op (small (pos n)) (signed z) reply ≡ of_words op (pos n) z reply
two_says op reply n z h f = ap₂ (λ (x : ℕ) (y : ℤ). of_words op (pos x) y reply) (small_is n h) (signed_is z f)

sum_says : (n : ℕ) (z sum : ℤ) → n ≤ 4294967295 → fits_i64 z ≡ true → fits_i64 sum ≡ true → with_two ops.Add (small (pos n)) (signed z) (replies.Number (signed sum)) ≡ of_words ops.Add (pos n) z (replies.Number sum)
sum_says n z sum h f g = two_says ops.Add (replies.Number (signed sum)) n z h f ∙ ap (λ (x : ℤ). of_words ops.Add (pos n) z (replies.Number x)) (signed_is sum g)

exception_says : (e : ℕ) → e ≤ 4294967295 → with_two ops.Set 1 (pos (small (pos e))) replies.Ok ≡ of_words ops.Set (pos 1) (pos e) replies.Ok
exception_says e h = ap (λ (x : ℕ). of_words ops.Set (pos 1) (pos x) replies.Ok) (small_is e h)

get_says : (n : ℕ) (z : ℤ) → n ≤ 4294967295 → fits_i64 z ≡ true → with_one ops.Get (small (pos n)) (replies.Number (signed z)) ≡ of_words ops.Get (pos n) (pos 0) (replies.Number z)
get_says n z h f = ap₂ (λ (x : ℕ) (y : ℤ). of_words ops.Get (pos x) (pos 0) (replies.Number y)) (small_is n h) (signed_is z f)

arrive_says : (n k : ℕ) → n ≤ 4294967295 → k ≤ 4294967295 → with_one ops.Arrive (small (pos n)) (replies.Number (pos (small (pos k)))) ≡ of_words ops.Arrive (pos n) (pos 0) (replies.Number (pos k))
arrive_says n k h g = ap₂ (λ (x y : ℕ). of_words ops.Arrive (pos x) (pos 0) (replies.Number (pos y))) (small_is n h) (small_is k g)

bare_says : (op : Op) (k : ℕ) → k ≤ 4294967295 → bare op (replies.Number (pos (small (pos k)))) ≡ of_words op (pos 0) (pos 0) (replies.Number (pos k))
bare_says op k h = ap (λ (x : ℕ). of_words op (pos 0) (pos 0) (replies.Number (pos x))) (small_is k h)

value_says : (z : ℤ) → fits_i64 z ≡ true → bare ops.Ready (replies.Outcome (outcomes.Value (signed z))) ≡ of_words ops.Ready (pos 0) (pos 0) (replies.Outcome (outcomes.Value z))
value_says z h = ap (λ (x : ℤ). of_words ops.Ready (pos 0) (pos 0) (replies.Outcome (outcomes.Value x))) (signed_is z h)

threw_says : (e : ℕ) → e ≤ 4294967295 → bare ops.Ready (replies.Outcome (outcomes.Exception (small (pos e)))) ≡ of_words ops.Ready (pos 0) (pos 0) (replies.Outcome (outcomes.Exception e))
threw_says e h = ap (λ (x : ℕ). of_words ops.Ready (pos 0) (pos 0) (replies.Outcome (outcomes.Exception x))) (small_is e h)

-- ---- names

-- a name that is a thread's
pub record IsThread (r : Roster) (w : List ℕ) (t : ℕ) : Type 0 where
  pub name : (is_name 1 w || (true && bytes_eq main_word w)) ≡ true
  pub called : thread_called r w ≡ Some t

pub known_thread : (r : Roster) (w : List ℕ) (t : ℕ) → IsThread r w t → is_known r w ≡ true
known_thread r w t h = ap (λ (x : Option ℕ). is_some x || (is_some (object_called r w) || is_some (place_of r.names.callbacks w))) h.called

pub thread_fits : (r : Roster) (w : List ℕ) (t : ℕ) → IsThread r w t → fits_sort r w sorts.AnyThread ≡ true
thread_fits r w t h = ap is_some h.called

or_or : (a b : Bool) → (a || (true || b)) ≡ true
or_or true b = refl
or_or false b = refl

-- the sorts of threads
abbrev is_of_threads : Sort → Bool
is_of_threads sorts.AnyThread = true
is_of_threads sorts.OfThread = true
is_of_threads sorts.OfAsync = true
is_of_threads _ = false

object_fits : (r : Roster) (w : List ℕ) (o : ℕ) → object_called r w ≡ Some o → (sort : Sort) → is_of_threads sort ≡ false → fits_sort r w sort ≡ true
object_fits r w o called sorts.AnyThread h = absurd (true≢false h)
object_fits r w o called sorts.OfThread h = absurd (true≢false h)
object_fits r w o called sorts.OfAsync h = absurd (true≢false h)
object_fits r w o called _ h = ap is_some called

-- ---- the rows of acts, on an object of a known name, at a position or stamp that may stand

module _ (r : Roster) (names : Naming) (threads_in : ℕ) (w : List ℕ) (o p : ℕ) (named : is_name 1 w ≡ true) (called : object_called r w ≡ Some o) (low : p < 268435456)
    (thread_at : (t : ℕ) → t < threads_in → IsThread r (name_at names.threads t) t) where
  object : (sort : Sort) → is_of_threads sort ≡ false → ((is_name 1 w || (takes_main sort && bytes_eq main_word w)) ≡ true) × (is_known r w ≡ true) × (fits_sort r w sort ≡ true)
  object sort h = (
    ap (λ (b : Bool). b || (takes_main sort && bytes_eq main_word w)) named,
    ap (λ (x : Option ℕ). is_some (thread_called r w) || (is_some x || is_some (place_of r.names.callbacks w))) called ∙ or_or (is_some (thread_called r w)) (is_some (place_of r.names.callbacks w)),
    object_fits r w o called sort h,
  )

  place : (is_between (pos 0) (pos 268435455) (pos p) ≡ true) × (p < 10 ^ 20)
  place = counted 0 268435455 p (omega arith) (omega arith) (omega arith)

  thread_holds : (t : ThreadNo) → t.0 < threads_in → ((is_name 1 (name_at names.threads t.0) || (true && bytes_eq main_word (name_at names.threads t.0))) ≡ true) × (is_known r (name_at names.threads t.0) ≡ true)
      × (fits_sort r (name_at names.threads t.0) sorts.AnyThread ≡ true)
  thread_holds t lt = let h = thread_at t.0 lt in (h.name, known_thread r (name_at names.threads t.0) t.0 h, thread_fits r (name_at names.threads t.0) t.0 h)

  notified : (t : ThreadNo) → t.0 < threads_in → bare ops.NotifyOne (replies.Thread (record { 0 = unwrap_or (thread_called r (name_at names.threads t.0)) 0 })) ≡ of_words ops.NotifyOne (pos 0) (pos 0) (replies.Thread t)
  notified t lt = ap (λ (x : Option ℕ). of_words ops.NotifyOne (pos 0) (pos 0) (replies.Thread (record { 0 = unwrap_or x 0 }))) (thread_at t.0 lt).called

  abbrev of_act : ItemForm → ℤ → ℤ → Reply → Line
  of_act form a b reply = row_line form (AWord w ∷ number p ∷ act_numbers form a b ++ said_value names reply)

  -- the line of a change has a row that says it
  pub record ChangeBack (k : Kind) (op : Op) (a b : ℤ) (reply : Reply) : Type 0 where
    pub form : ItemForm
    pub is : change_form k op a reply ≡ Some form
    pub part : part_of form ≡ AnItem
    pub since : item_since form ≡ 1
    pub holds : HoldAll r (numbers (Some k)) (item_fields form) (of_act form a b reply).values
    pub takes : acts_on (object_sort (item_fields form)) (Some k) (Some o) ≡ true
    pub first : slice_get (of_act form a b reply).values 0 ≡ Some (AWord w)
    pub second : slice_get (of_act form a b reply).values 1 ≡ Some (number p)
    pub says : change_words r (of_act form a b reply) form ≡ of_words op a b reply

  -- and the line of a look
  pub record LookBack (k : Kind) (op : Op) (a b : ℤ) (reply : Reply) : Type 0 where
    pub form : ItemForm
    pub is : look_form k op reply ≡ Some form
    pub part : part_of form ≡ AnItem
    pub since : item_since form ≡ 1
    pub holds : HoldAll r (numbers (Some k)) (item_fields form) (of_act form a b reply).values
    pub takes : acts_on (object_sort (item_fields form)) (Some k) (Some o) ≡ true
    pub first : slice_get (of_act form a b reply).values 0 ≡ Some (AWord w)
    pub second : slice_get (of_act form a b reply).values 1 ≡ Some (number p)
    pub no_change : change_words r (of_act form a b reply) form ≡ None
    pub says : look_words (of_act form a b reply) form ≡ of_words op a b reply

  abbrev Changes : Kind → Op → ℤ → ℤ → Reply → Type 0
  Changes k op a b reply = fits_i64 b ≡ true → reply_fits reply ≡ true → ChangeBack k op a b reply

  abbrev Looks : Kind → Op → ℤ → ℤ → Reply → Type 0
  Looks k op a b reply = fits_i64 b ≡ true → reply_fits reply ≡ true → LookBack k op a b reply

  abbrev IsFew : Kind → Type 0
  IsFew k = (rec : Bool) (many : ℕ) → k ≡ kinds.Mutex rec many → many ≤ 8

  -- every change
  pub change_back : (k : Kind) (op : Op) (a b : ℤ) (reply : Reply) → is_change threads_in k op a b reply ≡ true → IsFew k → Changes k op a b reply
  change_back (kinds.Mutex rec many) ops.Lock a b reply h few fb fr = by_bare (Changes (kinds.Mutex rec many) ops.Lock) a b reply replies.Ok h (λ fb fr. record { form = forms.ChangeLockLock; is = refl; part = refl; since = refl; holds = (object sorts.Lockables refl, (place, (refl, tt))); takes = refl; first = refl; second = refl; says = refl }) fb fr
  change_back (kinds.Mutex rec many) ops.TryLock a b reply h few fb fr = by_bare (Changes (kinds.Mutex rec many) ops.TryLock) a b reply replies.True h (λ fb fr. record { form = forms.ChangeLockTryLockTrue; is = refl; part = refl; since = refl; holds = (object sorts.Lockables refl, (place, (refl, (refl, tt)))); takes = refl; first = refl; second = refl; says = refl }) fb fr
  change_back (kinds.Mutex rec many) ops.Unlock a b reply h few fb fr = by_bare (Changes (kinds.Mutex rec many) ops.Unlock) a b reply replies.Ok h (λ fb fr. record { form = forms.ChangeLockUnlock; is = refl; part = refl; since = refl; holds = (object sorts.Lockables refl, (place, (refl, tt))); takes = refl; first = refl; second = refl; says = refl }) fb fr
  change_back (kinds.Mutex rec many) ops.Set a b reply h few fb fr = by_index (Changes (kinds.Mutex rec many) ops.Set) many a b reply replies.Ok h (λ i lt fb fr. record { form = forms.ChangeNumbersSetIndexSigned; is = refl; part = refl; since = refl; holds = (object sorts.Mutexes refl, (place, (refl, (index_holds many i lt (few rec many refl), (signed_holds b fb, tt))))); takes = refl; first = refl; second = refl; says = two_says ops.Set replies.Ok i b (index_most many i lt (few rec many refl)) fb }) fb fr
  change_back (kinds.Mutex rec many) ops.Add a b reply h few fb fr = by_indexed (Changes (kinds.Mutex rec many) ops.Add) many a b reply h (λ i z lt fb fr. record { form = forms.ChangeNumbersAddIndexSignedSigned; is = refl; part = refl; since = refl; holds = (object sorts.Mutexes refl, (place, (refl, (index_holds many i lt (few rec many refl), (signed_holds b fb, (signed_holds z fr, tt)))))); takes = refl; first = refl; second = refl; says = sum_says i b z (index_most many i lt (few rec many refl)) fb fr }) fb fr
  change_back kinds.Shared ops.Lock a b reply h few fb fr = by_bare (Changes kinds.Shared ops.Lock) a b reply replies.Ok h (λ fb fr. record { form = forms.ChangeLockLock; is = refl; part = refl; since = refl; holds = (object sorts.Lockables refl, (place, (refl, tt))); takes = refl; first = refl; second = refl; says = refl }) fb fr
  change_back kinds.Shared ops.TryLock a b reply h few fb fr = by_bare (Changes kinds.Shared ops.TryLock) a b reply replies.True h (λ fb fr. record { form = forms.ChangeLockTryLockTrue; is = refl; part = refl; since = refl; holds = (object sorts.Lockables refl, (place, (refl, (refl, tt)))); takes = refl; first = refl; second = refl; says = refl }) fb fr
  change_back kinds.Shared ops.Unlock a b reply h few fb fr = by_bare (Changes kinds.Shared ops.Unlock) a b reply replies.Ok h (λ fb fr. record { form = forms.ChangeLockUnlock; is = refl; part = refl; since = refl; holds = (object sorts.Lockables refl, (place, (refl, tt))); takes = refl; first = refl; second = refl; says = refl }) fb fr
  change_back kinds.Shared ops.LockShared a b reply h few fb fr = by_bare (Changes kinds.Shared ops.LockShared) a b reply replies.Ok h (λ fb fr. record { form = forms.ChangeSharedLockShared; is = refl; part = refl; since = refl; holds = (object sorts.SharedMutexes refl, (place, (refl, tt))); takes = refl; first = refl; second = refl; says = refl }) fb fr
  change_back kinds.Shared ops.TryLockShared a b reply h few fb fr = by_bare (Changes kinds.Shared ops.TryLockShared) a b reply replies.True h (λ fb fr. record { form = forms.ChangeSharedTryLockSharedTrue; is = refl; part = refl; since = refl; holds = (object sorts.SharedMutexes refl, (place, (refl, (refl, tt)))); takes = refl; first = refl; second = refl; says = refl }) fb fr
  change_back kinds.Shared ops.UnlockShared a b reply h few fb fr = by_bare (Changes kinds.Shared ops.UnlockShared) a b reply replies.Ok h (λ fb fr. record { form = forms.ChangeSharedUnlockShared; is = refl; part = refl; since = refl; holds = (object sorts.SharedMutexes refl, (place, (refl, tt))); takes = refl; first = refl; second = refl; says = refl }) fb fr
  change_back (kinds.Semaphore count max) ops.Release a b reply h few fb fr = by_one (Changes (kinds.Semaphore count max) ops.Release) 0 65535 a b reply replies.Ok h (λ v least most fb fr. record { form = forms.ChangeSemaphoreReleaseNumber; is = refl; part = refl; since = refl; holds = (object sorts.Semaphores refl, (place, (refl, (counted 0 65535 v least most (lit≤ tt), tt)))); takes = refl; first = refl; second = refl; says = one_says ops.Release replies.Ok v (longer v 65535 most (lit≤ tt)) }) fb fr
  change_back (kinds.Semaphore count max) ops.Acquire a b reply h few fb fr = by_bare (Changes (kinds.Semaphore count max) ops.Acquire) a b reply replies.Ok h (λ fb fr. record { form = forms.ChangeSemaphoreAcquire; is = refl; part = refl; since = refl; holds = (object sorts.Semaphores refl, (place, (refl, tt))); takes = refl; first = refl; second = refl; says = refl }) fb fr
  change_back (kinds.Semaphore count max) ops.TryAcquire a b reply h few fb fr = by_bare (Changes (kinds.Semaphore count max) ops.TryAcquire) a b reply replies.True h (λ fb fr. record { form = forms.ChangeSemaphoreTryAcquireTrue; is = refl; part = refl; since = refl; holds = (object sorts.Semaphores refl, (place, (refl, (refl, tt)))); takes = refl; first = refl; second = refl; says = refl }) fb fr
  change_back (kinds.Latch count) ops.CountDown a b reply h few fb fr = by_one (Changes (kinds.Latch count) ops.CountDown) 0 65535 a b reply replies.Ok h (λ v least most fb fr. record { form = forms.ChangeLatchCountDownNumber; is = refl; part = refl; since = refl; holds = (object sorts.Latches refl, (place, (refl, (counted 0 65535 v least most (lit≤ tt), tt)))); takes = refl; first = refl; second = refl; says = one_says ops.CountDown replies.Ok v (longer v 65535 most (lit≤ tt)) }) fb fr
  change_back (kinds.Barrier count) ops.Arrive a b reply h few fb fr = by_one_small (Changes (kinds.Barrier count) ops.Arrive) 1 4096 a b reply h (λ v q least most lt fb fr. record { form = forms.ChangeBarrierArriveNumberNumber; is = refl; part = refl; since = refl; holds = (object sorts.Barriers refl, (place, (refl, (counted 1 4096 v least most (lit≤ tt), (small_count q lt, tt))))); takes = refl; first = refl; second = refl; says = arrive_says v q (longer v 4096 most (lit≤ tt)) (small_most q lt) }) fb fr
  change_back (kinds.Barrier count) ops.Drop a b reply h few fb fr = by_bare_small (Changes (kinds.Barrier count) ops.Drop) a b reply h (λ q lt fb fr. record { form = forms.ChangeBarrierDropNumber; is = refl; part = refl; since = refl; holds = (object sorts.Barriers refl, (place, (refl, (small_count q lt, tt)))); takes = refl; first = refl; second = refl; says = bare_says ops.Drop q (small_most q lt) }) fb fr
  change_back (kinds.Barrier count) ops.Complete a b reply h few fb fr = by_bare (Changes (kinds.Barrier count) ops.Complete) a b reply replies.Ok h (λ fb fr. record { form = forms.ChangeBarrierComplete; is = refl; part = refl; since = refl; holds = (object sorts.Barriers refl, (place, (refl, tt))); takes = refl; first = refl; second = refl; says = refl }) fb fr
  change_back kinds.Once ops.Begin a b reply h few fb fr = by_bare (Changes kinds.Once ops.Begin) a b reply replies.Ok h (λ fb fr. record { form = forms.ChangeOnceBegin; is = refl; part = refl; since = refl; holds = (object sorts.Onces refl, (place, (refl, tt))); takes = refl; first = refl; second = refl; says = refl }) fb fr
  change_back kinds.Once ops.Finish a b reply h few fb fr = by_bare (Changes kinds.Once ops.Finish) a b reply replies.Ok h (λ fb fr. record { form = forms.ChangeOnceFinish; is = refl; part = refl; since = refl; holds = (object sorts.Onces refl, (place, (refl, tt))); takes = refl; first = refl; second = refl; says = refl }) fb fr
  change_back kinds.Once ops.Fail a b reply h few fb fr = by_word (Changes kinds.Once ops.Fail) a b reply replies.Ok h (λ v lt fb fr. record { form = forms.ChangeOnceFailNumber; is = refl; part = refl; since = refl; holds = (object sorts.Onces refl, (place, (refl, (small_count v lt, tt)))); takes = refl; first = refl; second = refl; says = one_says ops.Fail replies.Ok v (small_most v lt) }) fb fr
  change_back kinds.Condition ops.Enter a b reply h few fb fr = by_bare (Changes kinds.Condition ops.Enter) a b reply replies.Ok h (λ fb fr. record { form = forms.ChangeConditionEnter; is = refl; part = refl; since = refl; holds = (object sorts.Conditions refl, (place, (refl, tt))); takes = refl; first = refl; second = refl; says = refl }) fb fr
  change_back kinds.Condition ops.NotifyOne a b reply h few fb fr = by_bare_thread (Changes kinds.Condition ops.NotifyOne) a b reply h (λ fb fr. record { form = forms.ChangeConditionNotifyOneNone; is = refl; part = refl; since = refl; holds = (object sorts.Conditions refl, (place, (refl, (refl, tt)))); takes = refl; first = refl; second = refl; says = refl }) (λ u lt fb fr. record { form = forms.ChangeConditionNotifyOneAnyThread; is = refl; part = refl; since = refl; holds = (object sorts.Conditions refl, (place, (refl, (thread_holds u lt, tt)))); takes = refl; first = refl; second = refl; says = notified u lt }) fb fr
  change_back kinds.Condition ops.NotifyAll a b reply h few fb fr = by_bare_small (Changes kinds.Condition ops.NotifyAll) a b reply h (λ q lt fb fr. record { form = forms.ChangeConditionNotifyAllNumber; is = refl; part = refl; since = refl; holds = (object sorts.Conditions refl, (place, (refl, (small_count q lt, tt)))); takes = refl; first = refl; second = refl; says = bare_says ops.NotifyAll q (small_most q lt) }) fb fr
  change_back kinds.Condition ops.Unblock a b reply h few fb fr = by_bare (Changes kinds.Condition ops.Unblock) a b reply replies.Ok h (λ fb fr. record { form = forms.ChangeConditionUnblock; is = refl; part = refl; since = refl; holds = (object sorts.Conditions refl, (place, (refl, tt))); takes = refl; first = refl; second = refl; says = refl }) fb fr
  change_back kinds.Condition ops.Withdraw a b reply h few fb fr = by_bare (Changes kinds.Condition ops.Withdraw) a b reply replies.Ok h (λ fb fr. record { form = forms.ChangeConditionWithdraw; is = refl; part = refl; since = refl; holds = (object sorts.Conditions refl, (place, (refl, tt))); takes = refl; first = refl; second = refl; says = refl }) fb fr
  change_back (kinds.Stop sources) ops.Request a b reply h few fb fr = by_bare (Changes (kinds.Stop sources) ops.Request) a b reply replies.Ok h (λ fb fr. record { form = forms.ChangeStopRequest; is = refl; part = refl; since = refl; holds = (object sorts.StopStates refl, (place, (refl, tt))); takes = refl; first = refl; second = refl; says = refl }) fb fr
  change_back (kinds.Stop sources) ops.Another a b reply h few fb fr = by_bare (Changes (kinds.Stop sources) ops.Another) a b reply replies.Ok h (λ fb fr. record { form = forms.ChangeStopAnother; is = refl; part = refl; since = refl; holds = (object sorts.StopStates refl, (place, (refl, tt))); takes = refl; first = refl; second = refl; says = refl }) fb fr
  change_back (kinds.Stop sources) ops.Drop a b reply h few fb fr = by_bare (Changes (kinds.Stop sources) ops.Drop) a b reply replies.Ok h (λ fb fr. record { form = forms.ChangeStopDrop; is = refl; part = refl; since = refl; holds = (object sorts.StopStates refl, (place, (refl, tt))); takes = refl; first = refl; second = refl; says = refl }) fb fr
  change_back (kinds.Stop sources) ops.Register a b reply h few fb fr = by_word (Changes (kinds.Stop sources) ops.Register) a b reply replies.Ok h (λ v lt fb fr. record { form = forms.ChangeStopRegisterNumber; is = refl; part = refl; since = refl; holds = (object sorts.StopStates refl, (place, (refl, (small_count v lt, tt)))); takes = refl; first = refl; second = refl; says = one_says ops.Register replies.Ok v (small_most v lt) }) fb fr
  change_back (kinds.Stop sources) ops.RegisterNow a b reply h few fb fr = by_word (Changes (kinds.Stop sources) ops.RegisterNow) a b reply replies.Ok h (λ v lt fb fr. record { form = forms.ChangeStopRegisterNowNumber; is = refl; part = refl; since = refl; holds = (object sorts.StopStates refl, (place, (refl, (small_count v lt, tt)))); takes = refl; first = refl; second = refl; says = one_says ops.RegisterNow replies.Ok v (small_most v lt) }) fb fr
  change_back (kinds.Stop sources) ops.Begin a b reply h few fb fr = by_word (Changes (kinds.Stop sources) ops.Begin) a b reply replies.Ok h (λ v lt fb fr. record { form = forms.ChangeStopBeginNumber; is = refl; part = refl; since = refl; holds = (object sorts.StopStates refl, (place, (refl, (small_count v lt, tt)))); takes = refl; first = refl; second = refl; says = one_says ops.Begin replies.Ok v (small_most v lt) }) fb fr
  change_back (kinds.Stop sources) ops.Finish a b reply h few fb fr = by_word (Changes (kinds.Stop sources) ops.Finish) a b reply replies.Ok h (λ v lt fb fr. record { form = forms.ChangeStopFinishNumber; is = refl; part = refl; since = refl; holds = (object sorts.StopStates refl, (place, (refl, (small_count v lt, tt)))); takes = refl; first = refl; second = refl; says = one_says ops.Finish replies.Ok v (small_most v lt) }) fb fr
  change_back (kinds.Stop sources) ops.Deregister a b reply h few fb fr = by_deregistered (Changes (kinds.Stop sources) ops.Deregister) a b reply h (λ v lt fb fr. record { form = forms.ChangeStopDeregisterNumberRemoved; is = refl; part = refl; since = refl; holds = (object sorts.StopStates refl, (place, (refl, (small_count v lt, (refl, tt))))); takes = refl; first = refl; second = refl; says = one_says ops.Deregister replies.Removed v (small_most v lt) }) (λ v lt fb fr. record { form = forms.ChangeStopDeregisterNumberRan; is = refl; part = refl; since = refl; holds = (object sorts.StopStates refl, (place, (refl, (small_count v lt, (refl, tt))))); takes = refl; first = refl; second = refl; says = one_says ops.Deregister replies.Ran v (small_most v lt) }) (λ v lt fb fr. record { form = forms.ChangeStopDeregisterNumberInside; is = refl; part = refl; since = refl; holds = (object sorts.StopStates refl, (place, (refl, (small_count v lt, (refl, tt))))); takes = refl; first = refl; second = refl; says = one_says ops.Deregister replies.Inside v (small_most v lt) }) fb fr
  change_back kinds.Future ops.Defer a b reply h few fb fr = by_bare (Changes kinds.Future ops.Defer) a b reply replies.Ok h (λ fb fr. record { form = forms.ChangeFutureDefer; is = refl; part = refl; since = refl; holds = (object sorts.Settling refl, (place, (refl, tt))); takes = refl; first = refl; second = refl; says = refl }) fb fr
  change_back kinds.Future ops.Run a b reply h few fb fr = by_bare (Changes kinds.Future ops.Run) a b reply replies.Ok h (λ fb fr. record { form = forms.ChangeFutureRun; is = refl; part = refl; since = refl; holds = (object sorts.Settling refl, (place, (refl, tt))); takes = refl; first = refl; second = refl; says = refl }) fb fr
  change_back kinds.Future ops.Set a b reply h few fb fr = by_outcome (Changes kinds.Future ops.Set) a b reply h (λ v fb fr. record { form = forms.ChangeFutureSetValueSigned; is = refl; part = refl; since = refl; holds = (object sorts.Settling refl, (place, (refl, (refl, (signed_holds v fb, tt))))); takes = refl; first = refl; second = refl; says = two_says ops.Set replies.Ok 0 v (omega arith) fb }) (λ e lt fb fr. record { form = forms.ChangeFutureSetExceptionNumber; is = refl; part = refl; since = refl; holds = (object sorts.Settling refl, (place, (refl, (refl, (small_count e lt, tt))))); takes = refl; first = refl; second = refl; says = exception_says e (small_most e lt) }) (λ fb fr. record { form = forms.ChangeFutureSetBrokenPromise; is = refl; part = refl; since = refl; holds = (object sorts.Settling refl, (place, (refl, (refl, tt)))); takes = refl; first = refl; second = refl; says = refl }) fb fr
  change_back _ _ a b reply h few fb fr = absurd (true≢false (sym h))

  -- every look
  pub look_back : (k : Kind) (op : Op) (a b : ℤ) (reply : Reply) → is_look k op a b reply ≡ true → IsFew k → Looks k op a b reply
  look_back (kinds.Mutex rec many) ops.TryLock a b reply h few fb fr = by_bare (Looks (kinds.Mutex rec many) ops.TryLock) a b reply replies.False h (λ fb fr. record { form = forms.LookLockTryLockFalse; is = refl; part = refl; since = refl; holds = (object sorts.Lockables refl, (place, (refl, (refl, tt)))); takes = refl; first = refl; second = refl; no_change = refl; says = refl }) fb fr
  look_back (kinds.Mutex rec many) ops.Lock a b reply h few fb fr = by_bare (Looks (kinds.Mutex rec many) ops.Lock) a b reply replies.MaxLevels h (λ fb fr. record { form = forms.LookNumbersLockMaxLevels; is = refl; part = refl; since = refl; holds = (object sorts.Mutexes refl, (place, (refl, (refl, tt)))); takes = refl; first = refl; second = refl; no_change = refl; says = refl }) fb fr
  look_back (kinds.Mutex rec many) ops.Get a b reply h few fb fr = by_read (Looks (kinds.Mutex rec many) ops.Get) many a b reply h (λ i z lt fb fr. record { form = forms.LookNumbersGetIndexSigned; is = refl; part = refl; since = refl; holds = (object sorts.Mutexes refl, (place, (refl, (index_holds many i lt (few rec many refl), (signed_holds z fr, tt))))); takes = refl; first = refl; second = refl; no_change = refl; says = get_says i z (index_most many i lt (few rec many refl)) fr }) fb fr
  look_back (kinds.Mutex rec many) ops.Add a b reply h few fb fr = by_index (Looks (kinds.Mutex rec many) ops.Add) many a b reply replies.Overflow h (λ i lt fb fr. record { form = forms.LookNumbersAddIndexSignedOverflow; is = refl; part = refl; since = refl; holds = (object sorts.Mutexes refl, (place, (refl, (index_holds many i lt (few rec many refl), (signed_holds b fb, (refl, tt)))))); takes = refl; first = refl; second = refl; no_change = refl; says = two_says ops.Add replies.Overflow i b (index_most many i lt (few rec many refl)) fb }) fb fr
  look_back kinds.Shared ops.TryLock a b reply h few fb fr = by_bare (Looks kinds.Shared ops.TryLock) a b reply replies.False h (λ fb fr. record { form = forms.LookLockTryLockFalse; is = refl; part = refl; since = refl; holds = (object sorts.Lockables refl, (place, (refl, (refl, tt)))); takes = refl; first = refl; second = refl; no_change = refl; says = refl }) fb fr
  look_back kinds.Shared ops.TryLockShared a b reply h few fb fr = by_bare (Looks kinds.Shared ops.TryLockShared) a b reply replies.False h (λ fb fr. record { form = forms.LookSharedTryLockSharedFalse; is = refl; part = refl; since = refl; holds = (object sorts.SharedMutexes refl, (place, (refl, (refl, tt)))); takes = refl; first = refl; second = refl; no_change = refl; says = refl }) fb fr
  look_back (kinds.Semaphore count max) ops.Release a b reply h few fb fr = by_one (Looks (kinds.Semaphore count max) ops.Release) 0 65535 a b reply replies.Over h (λ v least most fb fr. record { form = forms.LookSemaphoreReleaseNumberOver; is = refl; part = refl; since = refl; holds = (object sorts.Semaphores refl, (place, (refl, (counted 0 65535 v least most (lit≤ tt), (refl, tt))))); takes = refl; first = refl; second = refl; no_change = refl; says = one_says ops.Release replies.Over v (longer v 65535 most (lit≤ tt)) }) fb fr
  look_back (kinds.Semaphore count max) ops.TryAcquire a b reply h few fb fr = by_bare (Looks (kinds.Semaphore count max) ops.TryAcquire) a b reply replies.False h (λ fb fr. record { form = forms.LookSemaphoreTryAcquireFalse; is = refl; part = refl; since = refl; holds = (object sorts.Semaphores refl, (place, (refl, (refl, tt)))); takes = refl; first = refl; second = refl; no_change = refl; says = refl }) fb fr
  look_back (kinds.Latch count) ops.Wait a b reply h few fb fr = by_bare (Looks (kinds.Latch count) ops.Wait) a b reply replies.Ok h (λ fb fr. record { form = forms.LookLatchWait; is = refl; part = refl; since = refl; holds = (object sorts.Latches refl, (place, (refl, tt))); takes = refl; first = refl; second = refl; no_change = refl; says = refl }) fb fr
  look_back (kinds.Latch count) ops.TryWait a b reply h few fb fr = by_bare_answer (Looks (kinds.Latch count) ops.TryWait) a b reply h (λ fb fr. record { form = forms.LookLatchTryWaitTrue; is = refl; part = refl; since = refl; holds = (object sorts.Latches refl, (place, (refl, (refl, tt)))); takes = refl; first = refl; second = refl; no_change = refl; says = refl }) (λ fb fr. record { form = forms.LookLatchTryWaitFalse; is = refl; part = refl; since = refl; holds = (object sorts.Latches refl, (place, (refl, (refl, tt)))); takes = refl; first = refl; second = refl; no_change = refl; says = refl }) fb fr
  look_back (kinds.Barrier count) ops.Arrive a b reply h few fb fr = by_one (Looks (kinds.Barrier count) ops.Arrive) 1 4096 a b reply replies.OverExpected h (λ v least most fb fr. record { form = forms.LookBarrierArriveNumberOverExpected; is = refl; part = refl; since = refl; holds = (object sorts.Barriers refl, (place, (refl, (counted 1 4096 v least most (lit≤ tt), (refl, tt))))); takes = refl; first = refl; second = refl; no_change = refl; says = one_says ops.Arrive replies.OverExpected v (longer v 4096 most (lit≤ tt)) }) fb fr
  look_back (kinds.Barrier count) ops.Drop a b reply h few fb fr = by_bare (Looks (kinds.Barrier count) ops.Drop) a b reply replies.OverExpected h (λ fb fr. record { form = forms.LookBarrierDropOverExpected; is = refl; part = refl; since = refl; holds = (object sorts.Barriers refl, (place, (refl, (refl, tt)))); takes = refl; first = refl; second = refl; no_change = refl; says = refl }) fb fr
  look_back (kinds.Barrier count) ops.Wait a b reply h few fb fr = by_word (Looks (kinds.Barrier count) ops.Wait) a b reply replies.Ok h (λ v lt fb fr. record { form = forms.LookBarrierWaitNumber; is = refl; part = refl; since = refl; holds = (object sorts.Barriers refl, (place, (refl, (small_count v lt, tt)))); takes = refl; first = refl; second = refl; no_change = refl; says = one_says ops.Wait replies.Ok v (small_most v lt) }) fb fr
  look_back kinds.Once ops.Passive a b reply h few fb fr = by_bare (Looks kinds.Once ops.Passive) a b reply replies.Ok h (λ fb fr. record { form = forms.LookOncePassive; is = refl; part = refl; since = refl; holds = (object sorts.Onces refl, (place, (refl, tt))); takes = refl; first = refl; second = refl; no_change = refl; says = refl }) fb fr
  look_back (kinds.Stop sources) ops.Already a b reply h few fb fr = by_bare (Looks (kinds.Stop sources) ops.Already) a b reply replies.Ok h (λ fb fr. record { form = forms.LookStopAlready; is = refl; part = refl; since = refl; holds = (object sorts.StopStates refl, (place, (refl, tt))); takes = refl; first = refl; second = refl; no_change = refl; says = refl }) fb fr
  look_back (kinds.Stop sources) ops.StopRequested a b reply h few fb fr = by_bare_answer (Looks (kinds.Stop sources) ops.StopRequested) a b reply h (λ fb fr. record { form = forms.LookStopStopRequestedTrue; is = refl; part = refl; since = refl; holds = (object sorts.StopStates refl, (place, (refl, (refl, tt)))); takes = refl; first = refl; second = refl; no_change = refl; says = refl }) (λ fb fr. record { form = forms.LookStopStopRequestedFalse; is = refl; part = refl; since = refl; holds = (object sorts.StopStates refl, (place, (refl, (refl, tt)))); takes = refl; first = refl; second = refl; no_change = refl; says = refl }) fb fr
  look_back (kinds.Stop sources) ops.StopPossible a b reply h few fb fr = by_bare_answer (Looks (kinds.Stop sources) ops.StopPossible) a b reply h (λ fb fr. record { form = forms.LookStopStopPossibleTrue; is = refl; part = refl; since = refl; holds = (object sorts.StopStates refl, (place, (refl, (refl, tt)))); takes = refl; first = refl; second = refl; no_change = refl; says = refl }) (λ fb fr. record { form = forms.LookStopStopPossibleFalse; is = refl; part = refl; since = refl; holds = (object sorts.StopStates refl, (place, (refl, (refl, tt)))); takes = refl; first = refl; second = refl; no_change = refl; says = refl }) fb fr
  look_back (kinds.Stop sources) ops.Never a b reply h few fb fr = by_word (Looks (kinds.Stop sources) ops.Never) a b reply replies.Ok h (λ v lt fb fr. record { form = forms.LookStopNeverNumber; is = refl; part = refl; since = refl; holds = (object sorts.StopStates refl, (place, (refl, (small_count v lt, tt)))); takes = refl; first = refl; second = refl; no_change = refl; says = one_says ops.Never replies.Ok v (small_most v lt) }) fb fr
  look_back (kinds.Stop sources) ops.Drained a b reply h few fb fr = by_bare (Looks (kinds.Stop sources) ops.Drained) a b reply replies.Ok h (λ fb fr. record { form = forms.LookStopDrained; is = refl; part = refl; since = refl; holds = (object sorts.StopStates refl, (place, (refl, tt))); takes = refl; first = refl; second = refl; no_change = refl; says = refl }) fb fr
  look_back kinds.Future ops.Ready a b reply h few fb fr = by_ready (Looks kinds.Future ops.Ready) a b reply h (λ v fb fr. record { form = forms.LookFutureReadyValueSigned; is = refl; part = refl; since = refl; holds = (object sorts.Settling refl, (place, (refl, (refl, (signed_holds v fr, tt))))); takes = refl; first = refl; second = refl; no_change = refl; says = value_says v fr }) (λ e fb fr. record { form = forms.LookFutureReadyExceptionNumber; is = refl; part = refl; since = refl; holds = (object sorts.Settling refl, (place, (refl, (refl, (small_count e (ltb-true e 4294967296 fr), tt))))); takes = refl; first = refl; second = refl; no_change = refl; says = threw_says e (small_most e (ltb-true e 4294967296 fr)) }) (λ fb fr. record { form = forms.LookFutureReadyBrokenPromise; is = refl; part = refl; since = refl; holds = (object sorts.Settling refl, (place, (refl, (refl, tt)))); takes = refl; first = refl; second = refl; no_change = refl; says = refl }) fb fr
  look_back _ _ a b reply h few fb fr = absurd (true≢false (sym h))

-- ---- every item

-- an item has a line that has a row of its object's kind, holds at its fields, and says the item
pub record ItemBack (s : Script) (t : ℕ) (x : Item) : Type 0 where
  pub line : Line
  pub is : item_line (naming_of s) x ≡ Some line
  pub part : part_of line.form ≡ AnItem
  pub since : item_since line.form ≡ 1
  pub holds : HoldAll (roster_of s) (numbers_called (roster_of s) (word_at line 0)) (item_fields line.form) line.values
  pub words : has_its_words (roster_of s) line ≡ true
  pub says : item_said (roster_of s) t line ≡ Some x

or_true : (b : Bool) → (b || true) ≡ true
or_true true = refl
or_true false = refl

module _ (s : Script) (known : AreKnown s) where
  abbrev r : Roster
  r = roster_of s

  abbrev names : Naming
  names = naming_of s

  abbrev count_of_threads : ℕ
  count_of_threads = length (numbered s).threads

  -- the name of a thread is found
  pub thread_at : (u : ℕ) → u < count_of_threads → IsThread r (name_at names.threads u) u
  thread_at zero lt = record { name = or_true (is_name 1 main_word); called = known.thread_called 0 (let c = known.threads_count in omega arith) }
  thread_at (suc u) lt =
      let c = known.threads_count in
      let under : suc u < length (names_in s).threads = omega arith in
      record { name = ap (λ (b : Bool). b || (true && bytes_eq main_word (name_at names.threads (suc u)))) (known.thread_named (suc u) (omega arith) under); called = known.thread_called (suc u) under }

  -- the name of an object is found, and it has this kind
  record IsObject (o : ℕ) (k : Kind) : Type 0 where
    name : is_name 1 (name_at names.objects o) ≡ true
    called : object_called r (name_at names.objects o) ≡ Some o
    kind : slice_get names.kinds o ≡ Some k

  object_at : (o : ℕ) (d : Object) → slice_get (numbered s).objects o ≡ Some d → IsObject o (kind_of d)
  object_at o d at =
      let c = known.objects_count in
      let within : o < length (numbered s).objects = slice_get_within (numbered s).objects o d at in
      let under : o < length (names_in s).objects = omega arith in
      record { name = known.object_named o under; called = known.object_called o under; kind = slice_get-map kind_of (numbered s).objects o ∙ ap (option_map kind_of) at }

  -- ---- acts

  module _ (t : ℕ) where
    change_item : (o : ObjectNo) (p : ℕ) (e : Entry) (d : Object) → slice_get (numbered s).objects o.0 ≡ Some d → e.by.0 ≡ t → p < 268435456 → is_change count_of_threads (kind_of d) e.op e.a e.b e.reply ≡ true
        → fits_i64 e.b ≡ true → reply_fits e.reply ≡ true → ItemBack s t (recorded.Change o p e)
    change_item o p e d at by lt is fb fr =
        let w : List ℕ = name_at names.objects o.0 in
        let x = object_at o.0 d at in
        let c = change_back r names count_of_threads w o.0 p x.name x.called lt thread_at (kind_of d) e.op e.a e.b e.reply is (λ rec many k. known.few o.0 d rec many at k) fb fr in
        let l : Line = act_line names o.0 p e.a e.b e.reply c.form in
        let name : word_at l 0 ≡ w = ap word_in c.first in
        let called : object_called r (word_at l 0) ≡ Some o.0 = ap (object_called r) name ∙ x.called in
        let kind : kind_called r (word_at l 0) ≡ Some (kind_of d) = ap (option_and_then (slice_get r.kinds)) called ∙ x.kind in
        let position : small_at l 1 ≡ p = ap (λ (v : Option Value). small (number_in v)) c.second ∙ small_is p (omega arith) in
        record {
          line = l;
          is = ap (λ (k : Option Kind). option_map (act_line names o.0 p e.a e.b e.reply) (option_and_then (λ k. change_form k e.op e.a e.reply) k)) x.kind ∙ ap (option_map (act_line names o.0 p e.a e.b e.reply)) c.is;
          part = c.part;
          since = c.since;
          holds = subst (λ (z : ℤ). HoldAll r z (item_fields c.form) l.values) (sym (ap numbers kind)) c.holds;
          words = ap₂ (λ (k : Option Kind) (n : Option ℕ). acts_on (object_sort (item_fields c.form)) k n) kind called ∙ c.takes;
          says =
              ap (λ (q : Option Words). or_some (option_map (as_change r t l) q) (or_some (option_map (as_look r t l) (look_words l l.form)) (or_some (option_map recorded.Control (control_said r l l.form)) (option_map recorded.Said (reply_said r l l.form))))) c.says
              ∙ ap₂ (λ (n : Option ℕ) (q : ℕ). Some (recorded.Change (record { 0 = unwrap_or n 0 }) q (record { by = record { 0 = t }; op = e.op; a = e.a; b = e.b; reply = e.reply }))) called position
              ∙ ap (λ (u : ℕ). Some (recorded.Change o p (record { by = record { 0 = u }; op = e.op; a = e.a; b = e.b; reply = e.reply }))) (sym by);
        }

    look_item : (o : ObjectNo) (k : Look) (d : Object) → slice_get (numbered s).objects o.0 ≡ Some d → k.by.0 ≡ t → k.at < 268435456 → is_look (kind_of d) k.op k.a k.b k.reply ≡ true → fits_i64 k.b ≡ true → reply_fits k.reply ≡ true
        → ItemBack s t (recorded.Look o k)
    look_item o k d at by lt is fb fr =
        let w : List ℕ = name_at names.objects o.0 in
        let x = object_at o.0 d at in
        let c = look_back r names count_of_threads w o.0 k.at x.name x.called lt thread_at (kind_of d) k.op k.a k.b k.reply is (λ rec many e. known.few o.0 d rec many at e) fb fr in
        let l : Line = act_line names o.0 k.at k.a k.b k.reply c.form in
        let name : word_at l 0 ≡ w = ap word_in c.first in
        let called : object_called r (word_at l 0) ≡ Some o.0 = ap (object_called r) name ∙ x.called in
        let kind : kind_called r (word_at l 0) ≡ Some (kind_of d) = ap (option_and_then (slice_get r.kinds)) called ∙ x.kind in
        let position : small_at l 1 ≡ k.at = ap (λ (v : Option Value). small (number_in v)) c.second ∙ small_is k.at (omega arith) in
        record {
          line = l;
          is = ap (λ (q : Option Kind). option_map (act_line names o.0 k.at k.a k.b k.reply) (option_and_then (λ q. look_form q k.op k.reply) q)) x.kind ∙ ap (option_map (act_line names o.0 k.at k.a k.b k.reply)) c.is;
          part = c.part;
          since = c.since;
          holds = subst (λ (z : ℤ). HoldAll r z (item_fields c.form) l.values) (sym (ap numbers kind)) c.holds;
          words = ap₂ (λ (q : Option Kind) (n : Option ℕ). acts_on (object_sort (item_fields c.form)) q n) kind called ∙ c.takes;
          says =
              ap (λ (q : Option Words). or_some (option_map (as_change r t l) q) (or_some (option_map (as_look r t l) (look_words l l.form)) (or_some (option_map recorded.Control (control_said r l l.form)) (option_map recorded.Said (reply_said r l l.form))))) c.no_change
              ∙ ap (λ (q : Option Words). or_some (option_map (as_look r t l) q) (or_some (option_map recorded.Control (control_said r l l.form)) (option_map recorded.Said (reply_said r l l.form)))) c.says
              ∙ ap₂ (λ (n : Option ℕ) (q : ℕ). Some (recorded.Look (record { 0 = unwrap_or n 0 }) (record { by = record { 0 = t }; op = k.op; a = k.a; b = k.b; reply = k.reply; at = q }))) called position
              ∙ ap (λ (u : ℕ). Some (recorded.Look o (record { by = record { 0 = u }; op = k.op; a = k.a; b = k.b; reply = k.reply; at = k.at }))) (sym by);
        }

    when_true : (b : Bool) (d : Object) → is_some (when b d) ≡ true → b ≡ true
    when_true true d h = refl
    when_true false d h = absurd (true≢false (sym h))

    -- ---- controls

    startable : (u : ℕ) → can_start (slice_get (numbered s).threads u) ≡ true → u < count_of_threads
    startable u h = here (slice_get (numbered s).threads u) refl h
      where
        here : (x : Option Thread) → slice_get (numbered s).threads u ≡ x → can_start x ≡ true → u < count_of_threads
        here None e k = absurd (true≢false (sym k))
        here (Some x) e k = slice_get_within (numbered s).threads u x e

    launchable : (u : ℕ) → can_launch (slice_get (numbered s).threads u) ≡ true → u < count_of_threads
    launchable u h = here (slice_get (numbered s).threads u) refl h
      where
        here : (x : Option Thread) → slice_get (numbered s).threads u ≡ x → can_launch x ≡ true → u < count_of_threads
        here None e k = absurd (true≢false (sym k))
        here (Some x) e k = slice_get_within (numbered s).threads u x e

    abbrev word_of : ThreadNo → List ℕ
    word_of u = name_at names.threads u.0

    -- what stands at a thread's name on a control's line
    started_at : (u : ThreadNo) → (nat_lt 0 u.0 && can_start (slice_get (numbered s).threads u.0)) ≡ true
        → ((is_name 1 (word_of u) || (true && bytes_eq main_word (word_of u))) ≡ true) × (is_known r (word_of u) ≡ true) × (fits_sort r (word_of u) sorts.OfThread ≡ true)
    started_at u h =
        let x = thread_at u.0 (startable u.0 (and_parts (nat_lt 0 u.0) (can_start (slice_get (numbered s).threads u.0)) h).1) in
        (x.name, known_thread r (word_of u) u.0 x, ap (started r.threads) x.called ∙ h)

    launched_at : (u : ThreadNo) → can_launch (slice_get (numbered s).threads u.0) ≡ true
        → ((is_name 1 (word_of u) || (true && bytes_eq main_word (word_of u))) ≡ true) × (is_known r (word_of u) ≡ true) × (fits_sort r (word_of u) sorts.OfAsync ≡ true)
    launched_at u h = let x = thread_at u.0 (launchable u.0 h) in (x.name, known_thread r (word_of u) u.0 x, ap (launched r.threads) x.called ∙ h)

    called_start : (u : ThreadNo) → (nat_lt 0 u.0 && can_start (slice_get (numbered s).threads u.0)) ≡ true → thread_called r (word_of u) ≡ Some u.0
    called_start u h = (thread_at u.0 (startable u.0 (and_parts (nat_lt 0 u.0) (can_start (slice_get (numbered s).threads u.0)) h).1)).called

    control_item : (c : Control) → is_control (numbered s) c ≡ true → ItemBack s t (recorded.Control c)
    control_item (controls.Start u true) h = record {
      line = row_line forms.ControlStartOk (AWord (word_of u) ∷ []);
      is = refl;
      part = refl;
      since = refl;
      holds = (refl, (started_at u h, (refl, tt)));
      words = refl;
      says = ap (λ (x : Option ℕ). Some (recorded.Control (controls.Start (record { 0 = unwrap_or x 0 }) true))) (called_start u h);
    }
    control_item (controls.Start u false) h = record {
      line = row_line forms.ControlStartNoThread (AWord (word_of u) ∷ []);
      is = refl;
      part = refl;
      since = refl;
      holds = (refl, (started_at u h, (refl, tt)));
      words = refl;
      says = ap (λ (x : Option ℕ). Some (recorded.Control (controls.Start (record { 0 = unwrap_or x 0 }) false))) (called_start u h);
    }
    control_item (controls.Launch u true) h = record {
      line = row_line forms.ControlLaunchOk (AWord (word_of u) ∷ []);
      is = refl;
      part = refl;
      since = refl;
      holds = (refl, (launched_at u h, (refl, tt)));
      words = refl;
      says = ap (λ (x : Option ℕ). Some (recorded.Control (controls.Launch (record { 0 = unwrap_or x 0 }) true))) (thread_at u.0 (launchable u.0 h)).called;
    }
    control_item (controls.Launch u false) h = record {
      line = row_line forms.ControlLaunchNoThread (AWord (word_of u) ∷ []);
      is = refl;
      part = refl;
      since = refl;
      holds = (refl, (launched_at u h, (refl, tt)));
      words = refl;
      says = ap (λ (x : Option ℕ). Some (recorded.Control (controls.Launch (record { 0 = unwrap_or x 0 }) false))) (thread_at u.0 (launchable u.0 h)).called;
    }
    control_item (controls.Join u) h = record {
      line = row_line forms.ControlJoin (AWord (word_of u) ∷ []);
      is = refl;
      part = refl;
      since = refl;
      holds = (refl, (started_at u h, tt));
      words = refl;
      says = ap (λ (x : Option ℕ). Some (recorded.Control (controls.Join (record { 0 = unwrap_or x 0 })))) (called_start u h);
    }

    -- ---- replies

    reply_item : (q : Reply) → is_item (numbered s) t (recorded.Said q) ≡ true → reply_fits q ≡ true → ItemBack s t (recorded.Said q)
    reply_item replies.Ok h f = record { line = row_line forms.ReplyOk []; is = refl; part = refl; since = refl; holds = (refl, tt); words = refl; says = refl }
    reply_item replies.True h f = record { line = row_line forms.ReplyTrue []; is = refl; part = refl; since = refl; holds = (refl, tt); words = refl; says = refl }
    reply_item replies.False h f = record { line = row_line forms.ReplyFalse []; is = refl; part = refl; since = refl; holds = (refl, tt); words = refl; says = refl }
    reply_item replies.Over h f = record { line = row_line forms.ReplyOver []; is = refl; part = refl; since = refl; holds = (refl, tt); words = refl; says = refl }
    reply_item replies.OverExpected h f = record { line = row_line forms.ReplyOverExpected []; is = refl; part = refl; since = refl; holds = (refl, tt); words = refl; says = refl }
    reply_item replies.MaxLevels h f = record { line = row_line forms.ReplyMaxLevels []; is = refl; part = refl; since = refl; holds = (refl, tt); words = refl; says = refl }
    reply_item replies.Overflow h f = record { line = row_line forms.ReplyOverflow []; is = refl; part = refl; since = refl; holds = (refl, tt); words = refl; says = refl }
    reply_item replies.Made h f = record { line = row_line forms.ReplyMade []; is = refl; part = refl; since = refl; holds = (refl, tt); words = refl; says = refl }
    reply_item replies.Already h f = record { line = row_line forms.ReplyAlready []; is = refl; part = refl; since = refl; holds = (refl, tt); words = refl; says = refl }
    reply_item replies.Queued h f = record { line = row_line forms.ReplyQueued []; is = refl; part = refl; since = refl; holds = (refl, tt); words = refl; says = refl }
    reply_item replies.Ran h f = record { line = row_line forms.ReplyRan []; is = refl; part = refl; since = refl; holds = (refl, tt); words = refl; says = refl }
    reply_item replies.Never h f = record { line = row_line forms.ReplyNever []; is = refl; part = refl; since = refl; holds = (refl, tt); words = refl; says = refl }
    reply_item replies.Removed h f = record { line = row_line forms.ReplyRemoved []; is = refl; part = refl; since = refl; holds = (refl, tt); words = refl; says = refl }
    reply_item replies.Inside h f = record { line = row_line forms.ReplyInside []; is = refl; part = refl; since = refl; holds = (refl, tt); words = refl; says = refl }
    reply_item replies.NotHeld h f = record { line = row_line forms.ReplyNotHeld []; is = refl; part = refl; since = refl; holds = (refl, tt); words = refl; says = refl }
    reply_item replies.Returned h f = record { line = row_line forms.ReplyReturned []; is = refl; part = refl; since = refl; holds = (refl, tt); words = refl; says = refl }
    reply_item replies.Passive h f = record { line = row_line forms.ReplyPassive []; is = refl; part = refl; since = refl; holds = (refl, tt); words = refl; says = refl }
    reply_item replies.NoToken h f = record { line = row_line forms.ReplyNoToken []; is = refl; part = refl; since = refl; holds = (refl, tt); words = refl; says = refl }
    reply_item replies.Spent h f = record { line = row_line forms.ReplySpent []; is = refl; part = refl; since = refl; holds = (refl, tt); words = refl; says = refl }
    reply_item replies.NoThread h f = record { line = row_line forms.ReplyNoThread []; is = refl; part = refl; since = refl; holds = (refl, tt); words = refl; says = refl }
    reply_item replies.Launched h f = record { line = row_line forms.ReplyLaunched []; is = refl; part = refl; since = refl; holds = (refl, tt); words = refl; says = refl }
    reply_item replies.Deferred h f = record { line = row_line forms.ReplyDeferred []; is = refl; part = refl; since = refl; holds = (refl, tt); words = refl; says = refl }
    reply_item replies.Nobody h f = record { line = row_line forms.ReplyNone []; is = refl; part = refl; since = refl; holds = (refl, tt); words = refl; says = refl }
    reply_item replies.NoState h f = record { line = row_line forms.ReplyNoState []; is = refl; part = refl; since = refl; holds = (refl, tt); words = refl; says = refl }
    reply_item replies.PromiseAlreadySatisfied h f = record { line = row_line forms.ReplyPromiseAlreadySatisfied []; is = refl; part = refl; since = refl; holds = (refl, tt); words = refl; says = refl }
    reply_item replies.FutureAlreadyRetrieved h f = record { line = row_line forms.ReplyFutureAlreadyRetrieved []; is = refl; part = refl; since = refl; holds = (refl, tt); words = refl; says = refl }
    reply_item replies.OperationNotPermitted h f = record { line = row_line forms.ReplyOperationNotPermitted []; is = refl; part = refl; since = refl; holds = (refl, tt); words = refl; says = refl }
    reply_item replies.ResourceDeadlockWouldOccur h f = record { line = row_line forms.ReplyResourceDeadlockWouldOccur []; is = refl; part = refl; since = refl; holds = (refl, tt); words = refl; says = refl }
    reply_item replies.InvalidArgument h f = record { line = row_line forms.ReplyInvalidArgument []; is = refl; part = refl; since = refl; holds = (refl, tt); words = refl; says = refl }
    reply_item (replies.Number z) h f = record { line = row_line forms.ReplyNumber (ANumber z ∷ []); is = refl; part = refl; since = refl; holds = (signed_holds z f, tt); words = refl; says = ap (λ (x : ℤ). Some (recorded.Said (replies.Number x))) (signed_is z f) }
    reply_item (replies.Thread u) h f =
        let x = thread_at u.0 (ltb-true u.0 count_of_threads h) in
        record {
          line = row_line forms.ReplyThread (AWord (word_of u) ∷ []);
          is = refl;
          part = refl;
          since = refl;
          holds = ((x.name, known_thread r (word_of u) u.0 x, thread_fits r (word_of u) u.0 x), tt);
          words = refl;
          says = ap (λ (n : Option ℕ). Some (recorded.Said (replies.Thread (record { 0 = unwrap_or n 0 })))) x.called;
        }
    reply_item (replies.Threw e) h f =
        let lt = ltb-true e 4294967296 f in
        record { line = row_line forms.ReplyThrewOf (number e ∷ []); is = refl; part = refl; since = refl; holds = (refl, (small_count e lt, tt)); words = refl; says = ap (λ (x : ℕ). Some (recorded.Said (replies.Threw x))) (small_is e (small_most e lt)) }
    reply_item (replies.Outcome (outcomes.Value v)) h f = record {
      line = row_line forms.ReplyValueOf (ANumber v ∷ []);
      is = refl;
      part = refl;
      since = refl;
      holds = (refl, (signed_holds v f, tt));
      words = refl;
      says = ap (λ (x : ℤ). Some (recorded.Said (replies.Outcome (outcomes.Value x)))) (signed_is v f);
    }
    reply_item (replies.Outcome (outcomes.Exception e)) h f =
        let lt = ltb-true e 4294967296 f in
        record {
          line = row_line forms.ReplyExceptionOf (number e ∷ []);
          is = refl;
          part = refl;
          since = refl;
          holds = (refl, (small_count e lt, tt));
          words = refl;
          says = ap (λ (x : ℕ). Some (recorded.Said (replies.Outcome (outcomes.Exception x)))) (small_is e (small_most e lt));
        }
    reply_item (replies.Outcome outcomes.Broken) h f = record { line = row_line forms.ReplyBrokenPromise []; is = refl; part = refl; since = refl; holds = (refl, tt); words = refl; says = refl }

    -- ---- and any

    pub item_back : (x : Item) → is_item (numbered s) t x ≡ true → item_fits x ≡ true → ItemBack s t x
    item_back (recorded.Change o p e) h f =
        let q = and_parts ((e.by.0 == t) && nat_lt p 268435456) (is_some (option_and_then (λ d. when (is_change count_of_threads (kind_of d) e.op e.a e.b e.reply) d) (slice_get (numbered s).objects o.0))) h in
        let by = and_parts (e.by.0 == t) (nat_lt p 268435456) q.0 in
        let g = and_parts (fits_i64 e.b) (reply_fits e.reply) f in
        acted (slice_get (numbered s).objects o.0) refl q.1 (eqb-true e.by.0 t by.0) (ltb-true p 268435456 by.1) g.0 g.1
      where
        acted : (x : Option Object) → slice_get (numbered s).objects o.0 ≡ x → is_some (option_and_then (λ d. when (is_change count_of_threads (kind_of d) e.op e.a e.b e.reply) d) x) ≡ true → e.by.0 ≡ t → p < 268435456
            → fits_i64 e.b ≡ true → reply_fits e.reply ≡ true → ItemBack s t (recorded.Change o p e)
        acted None at k by lt fb fr = absurd (true≢false (sym k))
        acted (Some d) at k by lt fb fr = change_item o p e d at by lt (when_true (is_change count_of_threads (kind_of d) e.op e.a e.b e.reply) d k) fb fr
    item_back (recorded.Look o l) h f =
        let q = and_parts ((l.by.0 == t) && nat_lt l.at 268435456) (is_some (option_and_then (λ d. when (is_look (kind_of d) l.op l.a l.b l.reply) d) (slice_get (numbered s).objects o.0))) h in
        let by = and_parts (l.by.0 == t) (nat_lt l.at 268435456) q.0 in
        let g = and_parts (fits_i64 l.b) (reply_fits l.reply) f in
        acted (slice_get (numbered s).objects o.0) refl q.1 (eqb-true l.by.0 t by.0) (ltb-true l.at 268435456 by.1) g.0 g.1
      where
        acted : (x : Option Object) → slice_get (numbered s).objects o.0 ≡ x → is_some (option_and_then (λ d. when (is_look (kind_of d) l.op l.a l.b l.reply) d) x) ≡ true → l.by.0 ≡ t → l.at < 268435456
            → fits_i64 l.b ≡ true → reply_fits l.reply ≡ true → ItemBack s t (recorded.Look o l)
        acted None at k by lt fb fr = absurd (true≢false (sym k))
        acted (Some d) at k by lt fb fr = look_item o l d at by lt (when_true (is_look (kind_of d) l.op l.a l.b l.reply) d k) fb fr
    item_back (recorded.Control c) h f = control_item c h
    item_back (recorded.Said q) h f = reply_item q h f
