-- What a wait with a predicate made, and what its log has of it.
use Rattle.std.specs.Prelude.{◌≡◌, ℕ, ◌+◌, ℤ, pos, Bool, true, false, List, [], ◌∷◌, ◌++◌, length, Option, Some, None, IfSome}
use Rattle.cx_names.specs.declared.ThreadNo.{ThreadNo}
use Rattle.cx_names.specs.declared.Reply.TheVariants as replies
use Rattle.cx_machine.specs.declared.kind.Op.TheVariants as ops
use Rattle.cx_machine.specs.declared.kind.Look.{Look}
use Rattle.cx_machine.specs.Condition.{Condition}
use Rattle.cx_machine.specs.Meaning.{look_of}
use Rattle.cx_machine.specs.Mutex as machine
use Rattle.cx_turn.specs.declared.view.View.{View}
use Rattle.cx_turn.specs.declared.pass.Pass.{Pass}
use Rattle.cx_turn.specs.Acts.{Makes, Looks}
use Rattle.cx_mutex.specs.declared.mutex.Mutex.{Mutex}
use Rattle.cx_mutex.specs.Keys.{locks, unlocks}
use Rattle.cx_mutex.specs.Kinds.{locking}
use Rattle.cx_mutex.specs.Mutexes.{IsMutexPassWith}
use Rattle.cx_condvar.specs.declared.condvar.CondvarAny.{CondvarAny}
use Rattle.cx_condvar.specs.declared.wait.Waits.{Waits as WaitsAt}
use Rattle.cx_condvar.specs.declared.until.Waited.{Waited}
use Rattle.cx_condvar.specs.declared.until.Waited.TheVariants as answers
use Rattle.cx_condvar.specs.declared.log.Log.{Log}
use Rattle.cx_condvar.specs.declared.log.Logged.{Logged}
use Rattle.cx_condvar.specs.declared.log.Logged.TheVariants as acts
use Rattle.cx_condvar.specs.declared.log.Part.TheVariants as parts
use Rattle.cx_condvar.specs.Kinds.{waiting}
use Rattle.cx_condvar.specs.Condvars.{IsCondPassWith}
use Rattle.cx_condvar.specs.Acts.{enters, unblocks}

-- where the four acts of a wait stand
abbrev pub Waits : Type 0
Waits = WaitsAt

-- ---- acts

-- the look of this thread at the number at an index
abbrev pub get_at : ThreadNo → ℕ → ℤ → ℕ → Look
get_at by i value at = look_of by ops.Get (pos i) (pos 0) (replies.Number value) at

abbrev pub look_act : ThreadNo → ℕ → ℤ → ℕ → Logged
look_act by i value at = acts.Look parts.Mutex (get_at by i value at)

-- the four acts of a wait, of this thread on the condition, and of this one on the mutex
abbrev pub wait_acts : ThreadNo → ThreadNo → Waits → List Logged
wait_acts by owner at = acts.Change parts.Condition at.enter (enters by) ∷ acts.Change parts.Mutex at.unlock (unlocks owner) ∷ acts.Change parts.Condition at.unblock (unblocks by) ∷ acts.Change parts.Mutex at.lock (locks owner) ∷ []

-- a look at the number, after which the thread waited
pub record Round : Type 0 where
  pub value : ℤ
  pub seen : ℕ
  pub waits : Waits

abbrev pub rounds_acts : ThreadNo → ThreadNo → ℕ → List Round → List Logged
rounds_acts by owner i [] = []
rounds_acts by owner i (r ∷ rs) = (look_act owner i r.value r.seen ∷ wait_acts by owner r.waits) ++ rounds_acts by owner i rs

-- ---- what both passes have seen, act by act

pub record Seen : Type 0 where
  pub condition : View Condition
  pub mutex : View machine.Mutex

-- the act was made by the pass of its object, and the other saw nothing
abbrev pub Acted : Seen → Logged → Seen → Type 0
Acted s (acts.Change parts.Condition n e) t = Makes waiting s.condition t.condition e n × (t.mutex ≡ s.mutex)
Acted s (acts.Change parts.Mutex n e) t = (t.condition ≡ s.condition) × Makes locking s.mutex t.mutex e n
Acted s (acts.Look parts.Condition l) t = ⊥
Acted s (acts.Look parts.Mutex l) t = (t.condition ≡ s.condition) × Looks locking s.mutex t.mutex l

-- the acts were made one after the other
abbrev pub ActedAll : Seen → List Logged → Seen → Type 0
ActedAll s [] t = t ≡ s
ActedAll s (l ∷ ls) t = (u : Seen) × Acted s l u × ActedAll u ls t

-- ---- what a call made of its passes and of its log

module _ (x : CondvarAny) (m : Mutex) where
  -- the passes know this
  pub record Know (p : Pass Condition) (k : Pass machine.Mutex) (s : Seen) : Type 0 where
    pub condition : IsCondPassWith x p s.condition
    pub mutex : IsMutexPassWith m k s.mutex

  -- these acts were made, and the log grew by just these
  pub record Went (p q : Pass Condition) (k l : Pass machine.Mutex) (old new : Log) (ls : List Logged) : Type 0 where
    pub logged : new.acts.items ≡ old.acts.items ++ ls
    pub made : (s : Seen) → Know p k s → (t : Seen) × Know q l t × ActedAll s ls t

module _ (test : ℤ → Bool) where
  -- the predicate failed in each of these rounds
  abbrev pub AreFailed : List Round → Type 0
  AreFailed [] = Unit {0}
  AreFailed (r ∷ rs) = (test r.value ≡ false) × AreFailed rs

  -- what the last look came to, where so many turns were taken
  abbrev pub Ends : Waited → ℤ → ℕ → Type 0
  Ends answers.True value used = test value ≡ true
  Ends answers.Spent value used = (test value ≡ false) × (used ≡ 16384)

-- a last look, if there was one, as the log has it
abbrev pub last_acts : ThreadNo → ℕ → Option (ℤ × ℕ) → List Logged
last_acts owner i None = []
last_acts owner i (Some l) = look_act owner i l.0 l.1 ∷ []

module _ (x : CondvarAny) (m : Mutex) (i : ℕ) (test : ℤ → Bool) where
  -- rounds in which the predicate failed, a turn for each, and a look that ended the wait
  pub record WaitsUntil (answer : Waited) (p q : Pass Condition) (k l : Pass machine.Mutex) (old new : Log) (used used' : ℕ) : Type 0 where
    pub rounds : List Round
    pub value : ℤ
    pub seen : ℕ
    pub failed : AreFailed test rounds
    pub ends : Ends test answer value used'
    pub turns : used' ≡ used + length rounds
    pub went : Went x m p q k l old new (rounds_acts p.number k.number i rounds ++ look_act k.number i value seen ∷ [])

  -- rounds in which the predicate failed, a turn for each, and then perhaps a look at which it failed too
  pub record RunsOut (p q : Pass Condition) (k l : Pass machine.Mutex) (old new : Log) (used used' : ℕ) : Type 0 where
    pub rounds : List Round
    pub last : Option (ℤ × ℕ)
    pub failed : AreFailed test rounds
    pub last_failed : IfSome last (λ z. test z.0 ≡ false)
    pub turns : used' ≡ used + length rounds
    pub went : Went x m p q k l old new (rounds_acts p.number k.number i rounds ++ last_acts k.number i last)
