-- What a thread remembers after an item and after a reply, as far as it weighs.
use Rattle.std.proofs.Common.{◌≡◌, ℕ, zero, suc, ◌+◌, ◌-◌, ◌≤◌, true, false, List, [], ◌∷◌, Option, Some, None, slice_get, slice_set, unwrap_or, refl, arith}
use Rattle.cx_names.specs.declared.ObjectNo.{ObjectNo}
use Rattle.cx_names.specs.declared.Reply.{Reply}
use Rattle.cx_names.specs.declared.Reply.TheVariants as replies
use Rattle.cx_machine.specs.declared.kind.Op.{Op}
use Rattle.cx_machine.specs.declared.kind.Op.TheVariants as ops
use Rattle.cx_scene.specs.declared.declared.Thread.{Thread}
use Rattle.cx_scene.specs.declared.declared.Thread.TheVariants as threads
use Rattle.cx_scene.specs.declared.call.Call.{Call}
use Rattle.cx_scene.specs.declared.call.Call.TheVariants as calls
use Rattle.cx_scene.specs.Scene.{Scene}
use Rattle.cx_items.specs.declared.kept.Kept.{Kept}
use Rattle.cx_items.specs.declared.item.Control.{Control}
use Rattle.cx_items.specs.declared.item.Control.TheVariants as controls
use Rattle.cx_items.specs.declared.item.Item.{Item}
use Rattle.cx_items.specs.declared.item.Item.TheVariants as items
use Rattle.cx_items.specs.Memory.{Memory, of, nothing, keep, kept_after, launched, controlled, remembering, settled}
use Rattle.cx_weights.specs.Weights.{gains, levels}

-- what an item gains a thread
abbrev pub gained_by : Item → ℕ
gained_by (items.Change o p e) = gains e.op
gained_by _ = 0

first_set : (a b g n : ℕ) → a ≤ b + g → a + n ≤ (b + n) + g
first_set a b g n h = omega arith

later_set : (a b g n : ℕ) → a ≤ b + g → n + a ≤ (n + b) + g
later_set a b g n h = omega arith

set_levels : (ks : List Kept) (i : ℕ) (k : Kept) (g : ℕ) → k.levels ≤ (unwrap_or (slice_get ks i) nothing).levels + g → levels (slice_set ks i k) ≤ levels ks + g
set_levels [] i k g h = omega arith
set_levels (x ∷ xs) zero k g h = first_set k.levels x.levels g (levels xs) h
set_levels (x ∷ xs) (suc i) k g h = later_set (levels (slice_set xs i k)) (levels xs) g x.levels (set_levels xs i k g h)

-- as many turns, and at most so many more levels
pub record Keeps (m n : Memory) (g : ℕ) : Type 0 where
  pub turns : n.turns ≡ m.turns
  pub more : levels n.kept ≤ levels m.kept + g

same_levels : (n : ℕ) → n ≤ n + 0
same_levels n = omega arith

keeps_all : (m : Memory) (g : ℕ) → Keeps m m g
keeps_all m g = record { turns = refl; more = omega arith }

kept_as : (m : Memory) (o : ObjectNo) (k : Kept) → k.levels ≡ (of m o).levels → Keeps m (keep m o k) 0
kept_as m o k h = let le : k.levels ≤ (of m o).levels + 0 = omega arith in record { turns = refl; more = set_levels m.kept o.0 k 0 le }

pub keeps_settled : (c : Call) (r : Reply) (m : Memory) → Keeps m (settled c r m) 0
keeps_settled (calls.Arrive b n) (replies.Number p) m = kept_as m b (record (of m b) { arrival = Some p }) refl
keeps_settled (calls.WaitBarrier b) replies.Ok m = kept_as m b (record (of m b) { arrival = None }) refl
keeps_settled (calls.DropPromise p) replies.Ok m = kept_as m p (record (of m p) { is_dropped = true }) refl
keeps_settled (calls.GetFuture p) replies.Ok m = kept_as m p (record (of m p) { is_retrieved = true; is_valid = true }) refl
keeps_settled (calls.Share p) replies.Ok m = kept_as m p (record (of m p) { is_shared = true }) refl
keeps_settled (calls.GetOutcome p) (replies.Outcome o) m = kept_as m p (record (of m p) { is_valid = (of m p).is_shared }) refl
keeps_settled (calls.DropAsync a) replies.Ok m = kept_as m a (record (of m a) { is_valid = false }) refl
keeps_settled _ _ m = keeps_all m 0

keeps_launched : (m : Memory) (t : Option Thread) → Keeps m (launched m t) 0
keeps_launched m (Some (threads.Launched o)) = kept_as m o (record (of m o) { is_valid = true; is_launched = true }) refl
keeps_launched m _ = keeps_all m 0

keeps_controlled : (s : Scene) (m : Memory) (c : Control) → Keeps m (controlled s m c) 0
keeps_controlled s m (controls.Start t true) = record { turns = refl; more = same_levels (levels m.kept) }
keeps_controlled s m (controls.Start t false) = keeps_all m 0
keeps_controlled s m (controls.Launch t true) = keeps_launched m (slice_get s.threads t.0)
keeps_controlled s m (controls.Launch t false) = keeps_all m 0
keeps_controlled s m (controls.Join t) = record { turns = refl; more = same_levels (levels m.kept) }

fewer : (n : ℕ) → n - 1 ≤ n + 0
fewer n = omega arith

-- a lock is one more level
levels_after : (op : Op) (k : Kept) → (kept_after op k).levels ≤ k.levels + gains op
levels_after ops.Unlock k = fewer k.levels
levels_after _ k = omega arith

pub keeps_remembering : (s : Scene) (m : Memory) (x : Item) → Keeps m (remembering s m x) (gained_by x)
keeps_remembering s m (items.Change o p e) = record { turns = refl; more = set_levels m.kept o.0 (kept_after e.op (of m o)) (gains e.op) (levels_after e.op (of m o)) }
keeps_remembering s m (items.Look o l) = keeps_all m 0
keeps_remembering s m (items.Control c) = keeps_controlled s m c
keeps_remembering s m (items.Said r) = keeps_all m 0
