-- A hold, of whichever kind, and a count of levels stay where their pass shows and sees others.
use Rattle.std.proofs.Common.{◌≡◌, ◌≤◌, true, false, Option, Some, None, MatchOption, sym, ap, ◌∙◌}
use Rattle.cx_names.specs.declared.ThreadNo.{ThreadNo}
use Rattle.cx_machine.specs.Mutex as machine
use Rattle.cx_machine.specs.Shared as shared
use Rattle.cx_turn.specs.declared.view.View.{View}
use Rattle.cx_turn.specs.declared.pass.Pass.{Pass}
use Rattle.cx_mutex.specs.declared.mutex.Mutex.{Mutex}
use Rattle.cx_mutex.specs.declared.mutex.Hold.{Hold}
use Rattle.cx_mutex.specs.declared.recursive.RecursiveMutex.{RecursiveMutex}
use Rattle.cx_mutex.specs.declared.levels.Levels.{Levels}
use Rattle.cx_mutex.specs.Mutexes.{IsMutexPassWith, IsBare, IsHeldBy, KeepsOwner}
use Rattle.cx_mutex.specs.Recursives.{IsRecursivePassWith, HasLevels}
use Rattle.cx_shared_mutex.specs.declared.shared_mutex.SharedMutex.{SharedMutex}
use Rattle.cx_shared_mutex.specs.SharedMutexes.{IsSharedPassWith, KeepsOwner as KeepsSharing}
use Rattle.cx_kinds.specs.declared.shared_mutex.Owned.{Owned}
use Rattle.cx_kinds.specs.declared.shared_mutex.Owned.TheVariants as owns
use Rattle.cx_kinds.specs.Tokens.{IsLevelToken, Owns}

pub same_thread : (a b : ThreadNo) → a.0 ≡ b.0 → a ≡ b
same_thread a b e = ap (λ n. record { 0 = n }) e

pub kept_hold : (m : Mutex) (p q : Pass machine.Mutex) (h : Option Hold) (v w : View machine.Mutex) → IsMutexPassWith m p v → IsMutexPassWith m q w → w.number ≡ v.number → KeepsOwner m p q → MatchOption h (IsBare m p) (λ j. IsHeldBy m p j) → MatchOption h (IsBare m q) (λ j. IsHeldBy m q j)
kept_hold m p q None v w a b e keeps hold = keeps false hold
kept_hold m p q (Some j) v w a b e keeps hold = (hold.0 ∙ same_thread p.number q.number (sym a.numbered ∙ (sym e ∙ b.numbered)), keeps true hold.1)

pub kept_sharing : (m : SharedMutex) (p q : Pass shared.Shared) (o : Owned) (v w : View shared.Shared) → IsSharedPassWith m p v → IsSharedPassWith m q w → w.number ≡ v.number → KeepsSharing m p q → Owns m p o → Owns m q o
kept_sharing m p q owns.Nothing v w a b e keeps hold = keeps false false hold
kept_sharing m p q (owns.Alone h) v w a b e keeps hold = (hold.0 ∙ same_thread p.number q.number (sym a.numbered ∙ (sym e ∙ b.numbered)), keeps true false hold.1)
kept_sharing m p q (owns.Along h) v w a b e keeps hold = (hold.0 ∙ same_thread p.number q.number (sym a.numbered ∙ (sym e ∙ b.numbered)), keeps false true hold.1)

same_number : (m : RecursiveMutex) (p q : Pass machine.Mutex) (v w : View machine.Mutex) → IsRecursivePassWith m p v → IsRecursivePassWith m q w → w.number ≡ v.number → q.number ≡ p.number
same_number m p q v w a b e = same_thread q.number p.number (sym b.numbered ∙ (e ∙ a.numbered))

-- levels of the thread of one pass are those of the pass that it becomes
pub with_levels : (m : RecursiveMutex) (p q : Pass machine.Mutex) (l l' : Levels) (v w : View machine.Mutex) → IsLevelToken m (record { pass = p; levels = l }) v → IsRecursivePassWith m q w → w.number ≡ v.number → l'.by ≡ l.by → HasLevels m q l'.count → l'.count ≤ 1000 → IsLevelToken m (record { pass = q; levels = l' }) w
with_levels m p q l l' v w a b e by has few = record { pass = b; own = by ∙ (a.own ∙ sym (same_number m p q v w a.pass b e)); levels = has; few = few }
