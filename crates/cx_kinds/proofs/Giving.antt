-- Levels that are given back one by one.
use Rattle.std.proofs.Common.{◌≡◌, ◌+◌, ◌<◌, ◌≤◌, ℕ, pos, Option, Some, None, IfSome, IfNone, refl, ap, ◌∙◌, arith}
use Rattle.cx_names.specs.declared.Reply.TheVariants as replies
use Rattle.cx_machine.specs.declared.kind.Op.TheVariants as ops
use Rattle.cx_machine.specs.Meaning.{change}
use Rattle.cx_machine.specs.Mutex as machine
use Rattle.cx_turn.specs.Acts.{Makes}
use Rattle.cx_turn.specs.declared.view.View.{View}
use Rattle.cx_mutex.specs.Kinds.{locking}
use Rattle.cx_mutex.specs.declared.recursive.RecursiveMutex.{RecursiveMutex}
use Rattle.cx_items.specs.Memory.{nothing}
use Rattle.cx_kinds.specs.Holding.{levelled, changes_back}
use Rattle.cx_kinds.specs.Tokens.{IsLevelToken, HasGiven}
use Rattle.cx_kinds.specs.declared.recursive.LevelToken.{LevelToken}

pub given_none : (m : RecursiveMutex) (k : LevelToken) → HasGiven m 0 k k
given_none m k = record { seen = λ v a. (v, a, record { number = refl; seats = refl; start = refl; splits = refl }); levels = omega arith; left = omega arith }

-- one level more, where there is one
pub given_one : (m : RecursiveMutex) (n : ℕ) (k k' k'' : LevelToken) (r : Option ℕ) → HasGiven m n k k' → n < k.levels.count → IfNone r ((k'.levels.count ≡ 0) × (k'' ≡ k')) → IfSome r (λ at_. (v : View machine.Mutex) → IsLevelToken m k' v → (w : View machine.Mutex) × IsLevelToken m k'' w × Makes locking v w (change k'.pass.number ops.Unlock (pos 0) (pos 0) replies.Ok) at_) → IfSome r (λ at_. k'.levels.count ≡ k''.levels.count + 1) → IfSome r (λ at_. k''.pass.left + 1 ≡ k'.pass.left) → HasGiven m (n + 1) k k''
given_one m n k k' k'' None h more none did kept left = absurd (let few = h.levels in let zero = none.0 in omega (arith, few, zero, more))
given_one m n k k' k'' (Some at_) h more none did kept left =
    let levels = h.levels in
    let changes = h.left in
    record {
      seen = λ v a.
          let d = h.seen v a in
          let s = d.2 in
          let e = did d.0 d.1 in
          let view = e.2.view in
          (e.0, e.1, record { number = ap (λ (u : View machine.Mutex). u.number) view ∙ s.number; seats = ap (λ (u : View machine.Mutex). u.seats) view ∙ s.seats; start = ap (λ (u : View machine.Mutex). u.start) view ∙ s.start; splits = ap (λ (u : View machine.Mutex). u.splits) view ∙ s.splits });
      levels = omega (arith, levels, kept);
      left = omega (arith, changes, left);
    }

-- no level is left once all were given back
pub given_all : (m : RecursiveMutex) (n : ℕ) (k k' : LevelToken) → HasGiven m n k k' → k.levels.count ≤ n → levelled k'.levels.count ≡ nothing
given_all m n k k' h all_ = let levels = h.levels in ap levelled (omega (arith, levels, all_))

-- no change is left: all were given back, if so many were left
pub given_out : (m : RecursiveMutex) (n : ℕ) (k k' : LevelToken) → HasGiven m n k k' → k'.pass.left ≡ 0 → (v : View machine.Mutex) → IsLevelToken m k v → changes_back (levelled k.levels.count) ≤ v.left → levelled k'.levels.count ≡ nothing
given_out m n k k' h out v a enough =
    let levels = h.levels in
    let left = h.left in
    let counted = a.pass.counted.may in
    ap levelled (omega (arith, levels, left, counted, out, enough))
