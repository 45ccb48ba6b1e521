-- The record of a run follows its scenario.
use Rattle.std.proofs.Common.{◌≡◌, ℕ, zero, suc, ◌+◌, ◌<◌, ◌&&◌, not, Bool, true, false, IsTrue, List, [], ◌∷◌, ◌++◌, length, filter, slice_get, Option, Some, None, nat_le, option_map, option_and_then, refl, sym, ap, ◌∙◌, subst, arith}
use Rattle.cx_names.specs.declared.ObjectNo.{ObjectNo}
use Rattle.cx_machine.specs.declared.kind.Entry.{Entry}
use Rattle.cx_machine.specs.declared.kind.Look.{Look}
use Rattle.cx_machine.specs.Words.{small_of}
use Rattle.cx_machine.specs.Machine.{State, Mutex, Shared, Semaphore, Latch, Barrier as ABarrier, Once, Condition, Stop, Future, opening, run}
use Rattle.cx_machine.specs.Mutex as mutex
use Rattle.cx_machine.specs.Shared as shared
use Rattle.cx_machine.specs.Semaphore as semaphore
use Rattle.cx_machine.specs.Latch as latch
use Rattle.cx_machine.specs.Once as once
use Rattle.cx_machine.specs.Condition as condition
use Rattle.cx_machine.specs.Stop as stop
use Rattle.cx_machine.specs.Future as future
use Rattle.cx_scene.specs.declared.declared.Object.{Object}
use Rattle.cx_scene.specs.declared.declared.Object.TheVariants as objects
use Rattle.cx_scene.specs.Scene.{Scene, kind_of}
use Rattle.cx_items.specs.declared.item.Item.{Item}
use Rattle.cx_items.specs.declared.item.Item.TheVariants as items
use Rattle.cx_items.specs.Next.{local_at_start}
use Rattle.cx_history.specs.Histories.{Recorded, list_of, changes_of, in_order, entries, item_at}
use Rattle.cx_history.specs.IsRecord.{is_item}
use Rattle.cx_history.specs.Follows.{completes, completes_by, is_completing, no_gap_from, has_started, after_items, is_whole, list_follows}
use Rattle.cx_fronts.specs.Paths.{AreItems}
use Rattle.cx_fronts.specs.Runs.{FromPasses, FromRun, IsRight, KeepsText, is_barrier, OnlyBarriersComplete, AgreesWith}
use Rattle.cx_fronts.proofs.Heart.{item-at, passes_are_legal, fronts_are_histories, completions_are_seen}

-- ---- only barriers complete

abbrev barrier_state : State → Bool
barrier_state (ABarrier b) = true
barrier_state _ = false

stepped : {S : Type 0} (wrap : S → State) (es : List Entry) (x : Option S) → ((m : S) → is_completing (run (wrap m) es) ≡ false) → is_completing (option_and_then (λ t. run t es) (option_map wrap x)) ≡ false
stepped wrap es None h = refl
stepped wrap es (Some m) h = h m

none_completing : (now : State) (es : List Entry) → barrier_state now ≡ false → is_completing (run now es) ≡ false
none_completing (Mutex m) [] h = refl
none_completing (Mutex m) (e ∷ es) h = stepped Mutex es (mutex.step m e.by.0 e.op (small_of e.a) e.b e.reply) (λ n. none_completing (Mutex n) es refl)
none_completing (Shared m) [] h = refl
none_completing (Shared m) (e ∷ es) h = stepped Shared es (shared.step m e.by.0 e.op (small_of e.a) e.b e.reply) (λ n. none_completing (Shared n) es refl)
none_completing (Semaphore m) [] h = refl
none_completing (Semaphore m) (e ∷ es) h = stepped Semaphore es (semaphore.step m e.by.0 e.op (small_of e.a) e.b e.reply) (λ n. none_completing (Semaphore n) es refl)
none_completing (Latch m) [] h = refl
none_completing (Latch m) (e ∷ es) h = stepped Latch es (latch.step m e.by.0 e.op (small_of e.a) e.b e.reply) (λ n. none_completing (Latch n) es refl)
none_completing (ABarrier m) es h = cc h
none_completing (Once m) [] h = refl
none_completing (Once m) (e ∷ es) h = stepped Once es (once.step m e.by.0 e.op (small_of e.a) e.b e.reply) (λ n. none_completing (Once n) es refl)
none_completing (Condition m) [] h = refl
none_completing (Condition m) (e ∷ es) h = stepped Condition es (condition.step m e.by.0 e.op (small_of e.a) e.b e.reply) (λ n. none_completing (Condition n) es refl)
none_completing (Stop m) [] h = refl
none_completing (Stop m) (e ∷ es) h = stepped Stop es (stop.step m e.by.0 e.op (small_of e.a) e.b e.reply) (λ n. none_completing (Stop n) es refl)
none_completing (Future m) [] h = refl
none_completing (Future m) (e ∷ es) h = stepped Future es (future.step m e.by.0 e.op (small_of e.a) e.b e.reply) (λ n. none_completing (Future n) es refl)

opens_other : (d : Object) → is_barrier (Some d) ≡ false → barrier_state (opening (kind_of d)) ≡ false
opens_other (objects.Mutex numbers) h = refl
opens_other objects.Recursive h = refl
opens_other objects.Shared h = refl
opens_other (objects.Semaphore count max) h = refl
opens_other (objects.Latch count) h = refl
opens_other (objects.Barrier count small) h = cc h
opens_other objects.Once h = refl
opens_other objects.Condition h = refl
opens_other (objects.Stop holders) h = refl
opens_other objects.StopOfThread h = refl
opens_other (objects.Promise owner reader) h = refl
opens_other (objects.SharedPromise owner readers) h = refl
opens_other (objects.Task owner reader function) h = refl
opens_other (objects.Async policy function thread) h = refl

and_false : (a b : Bool) → b ≡ false → (a && b) ≡ false
and_false true b h = h
and_false false b h = refl

pub others_dont_complete : (s : Scene) (r : Recorded) → OnlyBarriersComplete s (completes s r)
others_dont_complete s r o p h = go (slice_get s.objects o) h
  where
    go : (x : Option Object) → is_barrier x ≡ false → elim x [ None ↦ false | Some d ↦ completes_by (opening (kind_of d)) (changes_of r o) p ] ≡ false
    go None k = refl
    go (Some d) k = and_false (no_gap_from 0 (filter (λ c. nat_le c.position p) (in_order (changes_of r o)))) (is_completing (run (opening (kind_of d)) (entries (filter (λ c. nat_le c.position p) (in_order (changes_of r o)))))) (none_completing (opening (kind_of d)) (entries (filter (λ c. nat_le c.position p) (in_order (changes_of r o)))) (opens_other d k))

pub records_agree : (s : Scene) (r : Recorded) (given : FromPasses s r) (t : ℕ) → AgreesWith s (given.last t) (completes s r)
records_agree s r given t o p d there low = completions_are_seen s r given o p d (given.last t o) there ((given.taken t).grows o) low

-- ---- looks are by their thread

pub looks_are_own : (s : Scene) (r : Recorded) → FromPasses s r → (t i : ℕ) (q : ObjectNo) (l : Look) → slice_get (list_of r t) i ≡ Some (items.Look q l) → l.by.0 ≡ t
looks_are_own s r given t i q l h = let a = item-at s r given t i (items.Look q l) h in a.goes.seen.own

-- ---- the whole

both : (a b : Bool) → a ≡ true → b ≡ true → (a && b) ≡ true
both true b h k = k
both false b h k = cc h

not_false : (b : Bool) → b ≡ false → not b ≡ true
not_false b h = ap not h

pub text_follows : (s : Scene) (r : Recorded) (given : FromPasses s r) (t : ℕ) (l : Option (List Item)) → KeepsText s r t (given.last t) l → IsTrue (list_follows s r t l)
text_follows s r given t None k = not_false (has_started r t) k
text_follows s r given t (Some xs) k = both (has_started r t) (is_whole (after_items s (completes s r) t (local_at_start s t) xs)) k.0 (k.1 (completes s r) (records_agree s r given t))

pub runs_are_right : (s : Scene) (r : Recorded) (given : FromRun s r) → IsRight s r (given.passes.last 0)
runs_are_right s r given = record {
  legal = passes_are_legal s r given.passes;
  follows = record { count = given.count; each = λ t l there. text_follows s r given.passes t l (given.texts t l there) };
  formed = record { version = given.version; count = given.count; each = λ t i x there. given.formed t i x there };
  histories = fronts_are_histories s r given.passes;
}

-- ---- items of a longer list

pub items_none : (s : Scene) (t : ℕ) → AreItems s t []
items_none s t i x there = cc there

pub items_first : (s : Scene) (t : ℕ) (x : Item) (xs : List Item) → IsTrue (is_item s t x) → AreItems s t xs → AreItems s t (x ∷ xs)
items_first s t x xs one each zero y there = let same : x ≡ y = cc in subst (λ (v : Item). IsTrue (is_item s t v)) same one
items_first s t x xs one each (suc i) y there = each i y there

pub items_more : (s : Scene) (t : ℕ) (xs : List Item) (x : Item) → AreItems s t xs → IsTrue (is_item s t x) → AreItems s t (xs ++ x ∷ [])
items_more s t [] x each one zero y there = let same : x ≡ y = cc in subst (λ (v : Item). IsTrue (is_item s t v)) same one
items_more s t [] x each one (suc i) y there = cc
items_more s t (y ∷ xs) x each one zero z there = each 0 z there
items_more s t (y ∷ xs) x each one (suc i) z there = items_more s t xs x (λ j w h. each (suc j) w h) one i z there

pub items_append : (s : Scene) (t : ℕ) (xs ys : List Item) → AreItems s t xs → AreItems s t ys → AreItems s t (xs ++ ys)
items_append s t [] ys each other i z there = other i z there
items_append s t (x ∷ xs) ys each other zero z there = each 0 z there
items_append s t (x ∷ xs) ys each other (suc i) z there = items_append s t xs ys (λ j w h. each (suc j) w h) other i z there
