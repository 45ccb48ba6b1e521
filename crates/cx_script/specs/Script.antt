-- What a text means, and the canonical text of a scenario.
use Rattle.std.specs.Prelude.{ℕ, suc, ◌+◌, pos, Bool, true, false, List, [], ◌∷◌, ◌++◌, map, filter, drop, slice_get, Option, Some, None, Result, Ok, Err, if◌then◌else◌, option_map, codes}
use Rattle.std.specs.List.{flat_map, take_while}
use Rattle.std.specs.Str.{bytes_eq}
use Rattle.cx_names.specs.declared.ThreadNo.{ThreadNo}
use Rattle.cx_names.specs.declared.ObjectNo.{ObjectNo}
use Rattle.cx_names.specs.declared.CallbackNo.{CallbackNo}
use Rattle.cx_scene.specs.declared.declared.Function.{Function}
use Rattle.cx_scene.specs.declared.declared.Function.TheVariants as functions
use Rattle.cx_scene.specs.declared.declared.Policy.{Policy}
use Rattle.cx_scene.specs.declared.declared.Policy.TheVariants as policies
use Rattle.cx_scene.specs.declared.declared.Small.{Small}
use Rattle.cx_scene.specs.declared.declared.Small.TheVariants as smalls
use Rattle.cx_scene.specs.declared.declared.Action.TheVariants as actions
use Rattle.cx_scene.specs.declared.call.Call.{Call}
use Rattle.cx_scene.specs.declared.call.Call.TheVariants as calls
use Rattle.cx_scene.specs.declared.call.Relation.{Relation}
use Rattle.cx_scene.specs.declared.call.Relation.TheVariants as relations
use Rattle.cx_scene.specs.declared.call.Predicate.{Predicate}
use Rattle.cx_text.specs.declared.form.Form.{Form}
use Rattle.cx_text.specs.declared.form.Form.TheVariants as forms
use Rattle.cx_text.specs.declared.form.Literal.TheVariants as literals
use Rattle.cx_text.specs.declared.form.Made.{Made}
use Rattle.cx_text.specs.declared.form.Made.TheVariants as mades
use Rattle.cx_text.specs.declared.fault.Fault.{Fault}
use Rattle.cx_script.specs.declared.declared.Declared.{Declared}
use Rattle.cx_script.specs.declared.declared.Declared.TheVariants as declared
use Rattle.cx_text.specs.Table.{spelling}
use Rattle.cx_text.specs.Lines.{Line, lines_of, line_text}
use Rattle.cx_text.specs.Words.{Filled, Value, AWord, ANumber, main_word, words_for}
use Rattle.cx_script.specs.Earlier.{is_call, made_of, subject, word_in, word_at, number_at}
use Rattle.cx_script.specs.Faults.{first_fault, read_all, version_of, said_by, makes_thread, makes_object, makes_callback, count_in}

-- ---- a scenario with its names

-- a declared name, and what it stands for
pub record Declaration : Type 0 where
  pub name : List ℕ
  pub what : Declared

-- bodies by the number of their thread; `main` is thread 0
pub record Script : Type 0 where
  pub version : ℕ
  pub declarations : List Declaration
  pub bodies : List (List Call)

-- names by their numbers
pub record Names : Type 0 where
  pub threads : List (List ℕ)
  pub objects : List (List ℕ)
  pub callbacks : List (List ℕ)

-- the place of a name among names, and their count where it is not among them
abbrev pub place_in : List (List ℕ) → List ℕ → ℕ
place_in [] name = 0
place_in (n ∷ ns) name = if bytes_eq n name then 0 else suc (place_in ns name)

-- the name at place i
abbrev pub name_at : List (List ℕ) → ℕ → List ℕ
name_at names i = at (slice_get names i)
  where
    at : Option (List ℕ) → List ℕ
    at None = []
    at (Some n) = n

-- ---- words of policies and relations

-- the word of a policy
abbrev pub policy_word : Policy → List ℕ
policy_word policies.Async = codes "async"
policy_word policies.Deferred = codes "deferred"
policy_word policies.Both = codes "both"

-- the policy of a word
abbrev pub policy_of : List ℕ → Policy
policy_of w = if bytes_eq (codes "async") w then policies.Async else (if bytes_eq (codes "deferred") w then policies.Deferred else policies.Both)

-- the word of a relation
abbrev pub relation_word : Relation → List ℕ
relation_word relations.Less = codes "<"
relation_word relations.AtMost = codes "<="
relation_word relations.Equal = codes "="
relation_word relations.Unequal = codes "!="
relation_word relations.AtLeast = codes ">="
relation_word relations.Greater = codes ">"

-- the relation of a word
abbrev pub relation_of : List ℕ → Relation
relation_of w =
    if bytes_eq (codes "<") w then relations.Less
    else (if bytes_eq (codes "<=") w then relations.AtMost
    else (if bytes_eq (codes "=") w then relations.Equal
    else (if bytes_eq (codes "!=") w then relations.Unequal
    else (if bytes_eq (codes ">=") w then relations.AtLeast
    else relations.Greater))))

-- ---- from lines

-- the names that lines declare, each list in the order of the lines
abbrev pub names_of : List Filled → Names
names_of lines = record {
  threads = main_word ∷ map subject (filter makes_thread lines);
  objects = map subject (filter makes_object lines);
  callbacks = map subject (filter makes_callback lines);
}

-- the count after the head at place i
abbrev pub natural_at : Filled → ℕ → ℕ
natural_at l i = count_in (number_at l i)

-- the number of a thread, by its name
abbrev pub thread_named : Names → List ℕ → ThreadNo
thread_named names w = record { 0 = place_in names.threads w }

-- the number of an object, by its name
abbrev pub object_named : Names → List ℕ → ObjectNo
object_named names w = record { 0 = place_in names.objects w }

-- the words after the head from place i on
abbrev pub words_from : ℕ → Filled → List (List ℕ)
words_from i l = map (λ v. word_in (Some v)) (drop i l.values)

-- what a declaration says of its name; FUNC and SMALL stand from value i on
abbrev pub declared_of : Names → Filled → Form → Option Declared
declared_of names l forms.Thread = Some declared.Thread
declared_of names l forms.JThread = Some declared.JThread
declared_of names l forms.AsyncReturn = Some (declared.Async (policy_of (word_at l 1)) (functions.Return (number_at l 3)))
declared_of names l forms.AsyncThrow = Some (declared.Async (policy_of (word_at l 1)) (functions.Throw (natural_at l 3)))
declared_of names l forms.Mutex = Some (declared.Mutex (natural_at l 1))
declared_of names l forms.Recursive = Some declared.Recursive
declared_of names l forms.Shared = Some declared.Shared
declared_of names l forms.Semaphore = Some (declared.Semaphore (natural_at l 1) (natural_at l 2))
declared_of names l forms.Latch = Some (declared.Latch (natural_at l 1))
declared_of names l forms.Barrier = Some (declared.Barrier (natural_at l 1) None)
declared_of names l forms.BarrierRelease = Some (declared.Barrier (natural_at l 1) (Some (smalls.Release (object_named names (word_at l 3)) (natural_at l 4))))
declared_of names l forms.BarrierNotifyOne = Some (declared.Barrier (natural_at l 1) (Some (smalls.NotifyOne (object_named names (word_at l 3)))))
declared_of names l forms.BarrierNotifyAll = Some (declared.Barrier (natural_at l 1) (Some (smalls.NotifyAll (object_named names (word_at l 3)))))
declared_of names l forms.Once = Some declared.Once
declared_of names l forms.Condition = Some declared.Condition
declared_of names l forms.Stop = Some (declared.Stop (map (place_in names.threads) (words_from 1 l)))
declared_of names l forms.CallbackRelease = Some (declared.Callback (object_named names (word_at l 1)) (actions.Small (smalls.Release (object_named names (word_at l 3)) (natural_at l 4))))
declared_of names l forms.CallbackNotifyOne = Some (declared.Callback (object_named names (word_at l 1)) (actions.Small (smalls.NotifyOne (object_named names (word_at l 3)))))
declared_of names l forms.CallbackNotifyAll = Some (declared.Callback (object_named names (word_at l 1)) (actions.Small (smalls.NotifyAll (object_named names (word_at l 3)))))
declared_of names l forms.CallbackDeregister = Some (declared.Callback (object_named names (word_at l 1)) actions.Deregister)
declared_of names l forms.Promise = Some (declared.Promise (thread_named names (word_at l 1)) (thread_named names (word_at l 2)))
declared_of names l forms.SharedPromise = Some (declared.SharedPromise (thread_named names (word_at l 1)) (map (place_in names.threads) (words_from 2 l)))
declared_of names l forms.TaskReturn = Some (declared.Task (thread_named names (word_at l 1)) (thread_named names (word_at l 2)) (functions.Return (number_at l 4)))
declared_of names l forms.TaskThrow = Some (declared.Task (thread_named names (word_at l 1)) (thread_named names (word_at l 2)) (functions.Throw (natural_at l 4)))
declared_of names l _ = None

-- the parts of a call's line
abbrev pub if_recursive : Option Made → Call → Call → Call
if_recursive (Some mades.Recursive) recursive other = recursive
if_recursive _ recursive other = other

-- `wait` on a subject of this kind
abbrev pub waits_on : Option Made → ObjectNo → Call
waits_on (Some mades.Latch) o = calls.WaitLatch o
waits_on (Some mades.Barrier) o = calls.WaitBarrier o
waits_on _ o = calls.WaitFuture o

-- `arrive_and_wait` on a subject of this kind
abbrev pub meets_at : Option Made → ObjectNo → Call
meets_at (Some mades.Latch) o = calls.ArriveAndWaitLatch o
meets_at _ o = calls.ArriveAndWait o

-- `drop` of a subject of this kind
abbrev pub drops_of : Option Made → ObjectNo → Call
drops_of (Some mades.Stop) o = calls.DropSource o
drops_of (Some mades.Async) o = calls.DropAsync o
drops_of _ o = calls.DropPromise o

-- the object named after the head at place i
abbrev pub object_at : Names → Filled → ℕ → ObjectNo
object_at names l i = object_named names (word_at l i)

-- the thread named after the head at place i
abbrev pub thread_at : Names → Filled → ℕ → ThreadNo
thread_at names l i = thread_named names (word_at l i)

-- the callback named after the head at place i
abbrev pub callback_at : Names → Filled → ℕ → CallbackNo
callback_at names l i = record { 0 = place_in names.callbacks (word_at l i) }

-- I REL V from value i on
abbrev pub predicate_at : Filled → ℕ → Predicate
predicate_at l i = record { number = natural_at l i; relation = relation_of (word_at l (i + 1)); value = number_at l (i + 2) }

-- the call of a line whose subject is of this kind
abbrev pub call_of : Names → Option Made → Filled → Form → Option Call
call_of names k l forms.Lock = Some (if_recursive k (calls.LockRecursive (object_at names l 0)) (calls.Lock (object_at names l 0)))
call_of names k l forms.LockShared = Some (calls.LockShared (object_at names l 0))
call_of names k l forms.TryLock = Some (if_recursive k (calls.TryLockRecursive (object_at names l 0)) (calls.TryLock (object_at names l 0)))
call_of names k l forms.TryLockShared = Some (calls.TryLockShared (object_at names l 0))
call_of names k l forms.Unlock = Some (calls.Unlock (object_at names l 0))
call_of names k l forms.UnlockShared = Some (calls.UnlockShared (object_at names l 0))
call_of names k l forms.GetNumber = Some (calls.Get (object_at names l 0) (natural_at l 1))
call_of names k l forms.SetNumber = Some (calls.Set (object_at names l 0) (natural_at l 1) (number_at l 2))
call_of names k l forms.AddNumber = Some (calls.Add (object_at names l 0) (natural_at l 1) (number_at l 2))
call_of names k l forms.LockAll = Some (calls.LockAll (map (place_in names.objects) (map (λ v. word_in (Some v)) l.values)))
call_of names k l forms.TryLockAll = Some (calls.TryLockAll (map (place_in names.objects) (map (λ v. word_in (Some v)) l.values)))
call_of names k l forms.Release = Some (calls.Release (object_at names l 0) (natural_at l 1))
call_of names k l forms.Acquire = Some (calls.Acquire (object_at names l 0))
call_of names k l forms.TryAcquire = Some (calls.TryAcquire (object_at names l 0))
call_of names k l forms.CountDown = Some (calls.CountDown (object_at names l 0) (natural_at l 1))
call_of names k l forms.Wait = Some (waits_on k (object_at names l 0))
call_of names k l forms.TryWait = Some (calls.TryWait (object_at names l 0))
call_of names k l forms.ArriveAndWait = Some (meets_at k (object_at names l 0))
call_of names k l forms.Arrive = Some (calls.Arrive (object_at names l 0) (natural_at l 1))
call_of names k l forms.ArriveAndDrop = Some (calls.ArriveAndDrop (object_at names l 0))
call_of names k l forms.CallOnceReturn = Some (calls.CallOnceReturn (object_at names l 0))
call_of names k l forms.CallOnceThrow = Some (calls.CallOnceThrow (object_at names l 0) (natural_at l 2))
call_of names k l forms.WaitCondition = Some (calls.WaitCondition (object_at names l 0) (object_at names l 1))
call_of names k l forms.WaitPredicate = Some (calls.WaitPredicate (object_at names l 0) (object_at names l 1) (predicate_at l 2))
call_of names k l forms.WaitStop = Some (calls.WaitStop (object_at names l 0) (object_at names l 1) (object_at names l 2) (predicate_at l 3))
call_of names k l forms.NotifyOne = Some (calls.NotifyOne (object_at names l 0))
call_of names k l forms.NotifyAll = Some (calls.NotifyAll (object_at names l 0))
call_of names k l forms.RequestStop = Some (calls.RequestStop (object_at names l 0))
call_of names k l forms.StopRequested = Some (calls.StopRequested (object_at names l 0))
call_of names k l forms.StopPossible = Some (calls.StopPossible (object_at names l 0))
call_of names k l forms.Another = Some (calls.Another (object_at names l 0))
call_of names k l forms.Drop = Some (drops_of k (object_at names l 0))
call_of names k l forms.Register = Some (calls.Register (callback_at names l 0))
call_of names k l forms.Deregister = Some (calls.Deregister (callback_at names l 0))
call_of names k l forms.SetValue = Some (calls.SetValue (object_at names l 0) (number_at l 1))
call_of names k l forms.SetException = Some (calls.SetException (object_at names l 0) (natural_at l 1))
call_of names k l forms.Invoke = Some (calls.Invoke (object_at names l 0))
call_of names k l forms.GetFuture = Some (calls.GetFuture (object_at names l 0))
call_of names k l forms.Share = Some (calls.Share (object_at names l 0))
call_of names k l forms.GetOutcome = Some (calls.GetOutcome (object_at names l 0))
call_of names k l forms.Start = Some (calls.Start (thread_at names l 0))
call_of names k l forms.Join = Some (calls.Join (thread_at names l 0))
call_of names k l forms.Launch = Some (calls.Launch (object_at names l 0))
call_of names k l _ = None

-- the value, or nothing
abbrev pub as_list : {A : Type 0} → Option A → List A
as_list None = []
as_list (Some x) = x ∷ []

-- the declarations among lines, in their order
abbrev pub declarations_of : Names → List Filled → List Declaration
declarations_of names lines = flat_map (λ (l : Filled). as_list (option_map (named l) (declared_of names l l.form))) lines
  where
    named : Filled → Declared → Declaration
    named l what = record { name = subject l; what = what }

-- the lines after the first of which a test holds
abbrev pub after_first : (Filled → Bool) → List Filled → List Filled
after_first test [] = []
after_first test (l ∷ ls) = if test l then ls else after_first test ls

-- whether a line begins the body of this thread
abbrev pub begins_body_of : List ℕ → Filled → Bool
begins_body_of name l = begins l.form
  where
    begins : Form → Bool
    begins forms.Main = bytes_eq main_word name
    begins forms.Body = bytes_eq (subject l) name
    begins _ = false

-- the calls of a thread: the lines up to the `end` of its body
abbrev pub calls_of : Names → List Filled → List ℕ → List Call
calls_of names lines name = flat_map (λ (l : Filled). as_list (call_of names (made_of lines (subject l)) l l.form)) (take_while is_call (after_first (begins_body_of name) lines))

-- what the lines of a text say
abbrev pub script_of : ℕ → List Filled → Script
script_of version lines = with_names (names_of lines)
  where
    with_names : Names → Script
    with_names names = record { version = version; declarations = declarations_of names lines; bodies = map (calls_of names lines) names.threads }

-- what a text of which the limit is known means: a scenario, or its first fault
unfoldable pub meaning : ℕ → List ℕ → Result Script Fault
meaning limit text = judged (lines_of limit text) (first_fault (lines_of limit text))
  where
    judged : List Line → Option Fault → Result Script Fault
    judged lines (Some f) = Err f
    judged lines None = Ok (script_of (version_of lines) (said_by (read_all lines)))

-- ---- to lines

-- the kind that a declaration makes
abbrev pub makes_of : Declared → Made
makes_of declared.Thread = mades.Thread
makes_of declared.JThread = mades.JThread
makes_of (declared.Async policy function) = mades.Async
makes_of (declared.Mutex numbers) = mades.Mutex
makes_of declared.Recursive = mades.Recursive
makes_of declared.Shared = mades.Shared
makes_of (declared.Semaphore count max) = mades.Semaphore
makes_of (declared.Latch count) = mades.Latch
makes_of (declared.Barrier count small) = mades.Barrier
makes_of declared.Once = mades.Once
makes_of declared.Condition = mades.Condition
makes_of (declared.Stop holders) = mades.Stop
makes_of (declared.Callback stop action) = mades.Callback
makes_of (declared.Promise owner reader) = mades.Promise
makes_of (declared.SharedPromise owner readers) = mades.SharedPromise
makes_of (declared.Task owner reader function) = mades.Task

-- a line of a form
abbrev pub line : Form → List Value → Filled
line form values = record { form = form; values = values }

-- the name of an object, as a value of a line
abbrev pub object : Names → ObjectNo → Value
object names o = AWord (name_at names.objects o.0)

-- the name of a thread
abbrev pub thread : Names → ThreadNo → Value
thread names t = AWord (name_at names.threads t.0)

-- the name of a callback
abbrev pub callback : Names → CallbackNo → Value
callback names k = AWord (name_at names.callbacks k.0)

-- a count
abbrev pub number : ℕ → Value
number n = ANumber (pos n)

-- the names of threads
abbrev pub threads_in : Names → List ℕ → List Value
threads_in names ts = map (λ t. AWord (name_at names.threads t)) ts

-- the forms of one declaration differ in their SMALL or FUNC: three forms, or two, and the words from the literal on
abbrev pub with_small : Names → Form → Form → Form → List Value → Small → Filled
with_small names release_form one_form all_form front (smalls.Release q n) = line release_form (front ++ AWord (spelling literals.Release) ∷ object names q ∷ number n ∷ [])
with_small names release_form one_form all_form front (smalls.NotifyOne c) = line one_form (front ++ AWord (spelling literals.NotifyOne) ∷ object names c ∷ [])
with_small names release_form one_form all_form front (smalls.NotifyAll c) = line all_form (front ++ AWord (spelling literals.NotifyAll) ∷ object names c ∷ [])

-- a line that ends with a FUNC, in one of two forms
abbrev pub with_function : Form → Form → List Value → Function → Filled
with_function returned thrown front (functions.Return v) = line returned (front ++ AWord (spelling literals.Return) ∷ ANumber v ∷ [])
with_function returned thrown front (functions.Throw e) = line thrown (front ++ AWord (spelling literals.Throw) ∷ number e ∷ [])

-- the line of a declaration
abbrev pub line_of_declaration : Names → List ℕ → Declared → Filled
line_of_declaration names name declared.Thread = line forms.Thread (AWord name ∷ [])
line_of_declaration names name declared.JThread = line forms.JThread (AWord name ∷ [])
line_of_declaration names name (declared.Async policy function) = with_function forms.AsyncReturn forms.AsyncThrow (AWord name ∷ AWord (policy_word policy) ∷ []) function
line_of_declaration names name (declared.Mutex numbers) = line forms.Mutex (AWord name ∷ number numbers ∷ [])
line_of_declaration names name declared.Recursive = line forms.Recursive (AWord name ∷ [])
line_of_declaration names name declared.Shared = line forms.Shared (AWord name ∷ [])
line_of_declaration names name (declared.Semaphore count max) = line forms.Semaphore (AWord name ∷ number count ∷ number max ∷ [])
line_of_declaration names name (declared.Latch count) = line forms.Latch (AWord name ∷ number count ∷ [])
line_of_declaration names name (declared.Barrier count None) = line forms.Barrier (AWord name ∷ number count ∷ [])
line_of_declaration names name (declared.Barrier count (Some small)) = with_small names forms.BarrierRelease forms.BarrierNotifyOne forms.BarrierNotifyAll (AWord name ∷ number count ∷ []) small
line_of_declaration names name declared.Once = line forms.Once (AWord name ∷ [])
line_of_declaration names name declared.Condition = line forms.Condition (AWord name ∷ [])
line_of_declaration names name (declared.Stop holders) = line forms.Stop (AWord name ∷ threads_in names holders)
line_of_declaration names name (declared.Callback stop (actions.Small small)) = with_small names forms.CallbackRelease forms.CallbackNotifyOne forms.CallbackNotifyAll (AWord name ∷ object names stop ∷ []) small
line_of_declaration names name (declared.Callback stop actions.Deregister) = line forms.CallbackDeregister (AWord name ∷ object names stop ∷ AWord (spelling literals.Deregister) ∷ AWord name ∷ [])
line_of_declaration names name (declared.Promise owner reader) = line forms.Promise (AWord name ∷ thread names owner ∷ thread names reader ∷ [])
line_of_declaration names name (declared.SharedPromise owner readers) = line forms.SharedPromise (AWord name ∷ thread names owner ∷ threads_in names readers)
line_of_declaration names name (declared.Task owner reader function) = with_function forms.TaskReturn forms.TaskThrow (AWord name ∷ thread names owner ∷ thread names reader ∷ []) function

-- the line of a call
abbrev pub line_of_call : Names → Call → Filled
line_of_call names (calls.Lock o0) = line forms.Lock (object names o0 ∷ [])
line_of_call names (calls.LockRecursive o0) = line forms.Lock (object names o0 ∷ [])
line_of_call names (calls.LockShared o0) = line forms.LockShared (object names o0 ∷ [])
line_of_call names (calls.TryLock o0) = line forms.TryLock (object names o0 ∷ [])
line_of_call names (calls.TryLockRecursive o0) = line forms.TryLock (object names o0 ∷ [])
line_of_call names (calls.TryLockShared o0) = line forms.TryLockShared (object names o0 ∷ [])
line_of_call names (calls.Unlock o0) = line forms.Unlock (object names o0 ∷ [])
line_of_call names (calls.UnlockShared o0) = line forms.UnlockShared (object names o0 ∷ [])
line_of_call names (calls.Get o0 n1) = line forms.GetNumber (object names o0 ∷ number n1 ∷ [])
line_of_call names (calls.Set o0 n1 v2) = line forms.SetNumber (object names o0 ∷ number n1 ∷ ANumber v2 ∷ [])
line_of_call names (calls.Add o0 n1 v2) = line forms.AddNumber (object names o0 ∷ number n1 ∷ ANumber v2 ∷ [])
line_of_call names (calls.LockAll os) = line forms.LockAll (map (λ o. object names (record { 0 = o })) os)
line_of_call names (calls.TryLockAll os) = line forms.TryLockAll (map (λ o. object names (record { 0 = o })) os)
line_of_call names (calls.Release o0 n1) = line forms.Release (object names o0 ∷ number n1 ∷ [])
line_of_call names (calls.Acquire o0) = line forms.Acquire (object names o0 ∷ [])
line_of_call names (calls.TryAcquire o0) = line forms.TryAcquire (object names o0 ∷ [])
line_of_call names (calls.CountDown o0 n1) = line forms.CountDown (object names o0 ∷ number n1 ∷ [])
line_of_call names (calls.WaitFuture o0) = line forms.Wait (object names o0 ∷ [])
line_of_call names (calls.WaitLatch o0) = line forms.Wait (object names o0 ∷ [])
line_of_call names (calls.WaitBarrier o0) = line forms.Wait (object names o0 ∷ [])
line_of_call names (calls.TryWait o0) = line forms.TryWait (object names o0 ∷ [])
line_of_call names (calls.ArriveAndWait o0) = line forms.ArriveAndWait (object names o0 ∷ [])
line_of_call names (calls.ArriveAndWaitLatch o0) = line forms.ArriveAndWait (object names o0 ∷ [])
line_of_call names (calls.Arrive o0 n1) = line forms.Arrive (object names o0 ∷ number n1 ∷ [])
line_of_call names (calls.ArriveAndDrop o0) = line forms.ArriveAndDrop (object names o0 ∷ [])
line_of_call names (calls.CallOnceReturn o0) = line forms.CallOnceReturn (object names o0 ∷ AWord (spelling literals.Return) ∷ [])
line_of_call names (calls.CallOnceThrow o0 n2) = line forms.CallOnceThrow (object names o0 ∷ AWord (spelling literals.Throw) ∷ number n2 ∷ [])
line_of_call names (calls.WaitCondition o0 o1) = line forms.WaitCondition (object names o0 ∷ object names o1 ∷ [])
line_of_call names (calls.WaitPredicate o0 o1 p) = line forms.WaitPredicate (object names o0 ∷ object names o1 ∷ number p.number ∷ AWord (relation_word p.relation) ∷ ANumber p.value ∷ [])
line_of_call names (calls.WaitStop o0 o1 o2 p) = line forms.WaitStop (object names o0 ∷ object names o1 ∷ object names o2 ∷ number p.number ∷ AWord (relation_word p.relation) ∷ ANumber p.value ∷ [])
line_of_call names (calls.NotifyOne o0) = line forms.NotifyOne (object names o0 ∷ [])
line_of_call names (calls.NotifyAll o0) = line forms.NotifyAll (object names o0 ∷ [])
line_of_call names (calls.RequestStop o0) = line forms.RequestStop (object names o0 ∷ [])
line_of_call names (calls.StopRequested o0) = line forms.StopRequested (object names o0 ∷ [])
line_of_call names (calls.StopPossible o0) = line forms.StopPossible (object names o0 ∷ [])
line_of_call names (calls.Another o0) = line forms.Another (object names o0 ∷ [])
line_of_call names (calls.DropPromise o0) = line forms.Drop (object names o0 ∷ [])
line_of_call names (calls.DropSource o0) = line forms.Drop (object names o0 ∷ [])
line_of_call names (calls.DropAsync o0) = line forms.Drop (object names o0 ∷ [])
line_of_call names (calls.Register k0) = line forms.Register (callback names k0 ∷ [])
line_of_call names (calls.Deregister k0) = line forms.Deregister (callback names k0 ∷ [])
line_of_call names (calls.SetValue o0 v1) = line forms.SetValue (object names o0 ∷ ANumber v1 ∷ [])
line_of_call names (calls.SetException o0 n1) = line forms.SetException (object names o0 ∷ number n1 ∷ [])
line_of_call names (calls.Invoke o0) = line forms.Invoke (object names o0 ∷ [])
line_of_call names (calls.GetFuture o0) = line forms.GetFuture (object names o0 ∷ [])
line_of_call names (calls.Share o0) = line forms.Share (object names o0 ∷ [])
line_of_call names (calls.GetOutcome o0) = line forms.GetOutcome (object names o0 ∷ [])
line_of_call names (calls.Start t0) = line forms.Start (thread names t0 ∷ [])
line_of_call names (calls.Join t0) = line forms.Join (thread names t0 ∷ [])
line_of_call names (calls.Launch o0) = line forms.Launch (object names o0 ∷ [])

-- ---- the canonical text

-- a declaration that makes a thread number
abbrev pub is_thread : Declaration → Bool
is_thread d = thread_kind (makes_of d.what)
  where
    thread_kind : Made → Bool
    thread_kind mades.Thread = true
    thread_kind mades.JThread = true
    thread_kind mades.Async = true
    thread_kind _ = false

-- a declaration that makes a callback
abbrev pub is_callback : Declaration → Bool
is_callback d = callback_kind (makes_of d.what)
  where
    callback_kind : Made → Bool
    callback_kind mades.Callback = true
    callback_kind _ = false

-- a declaration that makes an object
abbrev pub is_object : Declaration → Bool
is_object d = object_kind (makes_of d.what)
  where
    object_kind : Made → Bool
    object_kind mades.Thread = false
    object_kind mades.Callback = false
    object_kind _ = true

-- the names of a scenario, each list in the order of the declarations
abbrev pub names_in : Script → Names
names_in s = record {
  threads = main_word ∷ map (λ (d : Declaration). d.name) (filter is_thread s.declarations);
  objects = map (λ (d : Declaration). d.name) (filter is_object s.declarations);
  callbacks = map (λ (d : Declaration). d.name) (filter is_callback s.declarations);
}

-- the first line
abbrev pub version_line : Filled
version_line = line forms.VersionOne (AWord (spelling literals.One) ∷ [])

-- a body: its first line, its calls and its `end`
abbrev pub body_lines : Names → Filled → List Call → List Filled
body_lines names first cs = first ∷ map (line_of_call names) cs ++ line forms.End [] ∷ []

-- the bodies of threads and jthreads in order; an async has none
abbrev pub bodies_from : Names → List Declaration → List (List Call) → List Filled
bodies_from names (d ∷ ds) (cs ∷ bodies) = body_where (makes_of d.what) ++ bodies_from names ds bodies
  where
    body_where : Made → List Filled
    body_where mades.Async = []
    body_where _ = body_lines names (line forms.Body (AWord d.name ∷ [])) cs
bodies_from names _ _ = []

-- the first body, which is that of main
abbrev pub body_of_main : List (List Call) → List Call
body_of_main [] = []
body_of_main (cs ∷ bodies) = cs

-- the lines of a scenario: version, declarations, bodies, and the body of main last
abbrev pub lines_with : Names → Script → List Filled
lines_with names s =
    version_line
    ∷ map (λ (d : Declaration). line_of_declaration names d.name d.what) s.declarations
    ++ bodies_from names (filter is_thread s.declarations) (drop 1 s.bodies)
    ++ body_lines names (line forms.Main []) (body_of_main s.bodies)

-- the lines of a scenario under its own names
abbrev pub lines_for : Script → List Filled
lines_for s = lines_with (names_in s) s

-- a line as it is written
unfoldable pub shown : Filled → List ℕ
shown l = line_text (words_for l)

-- the canonical text of a scenario
unfoldable pub written : Script → List ℕ
written s = flat_map shown (lines_for s)
