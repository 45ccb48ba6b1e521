-- What a thread remembers to hold is what its items tell, wherever its text leads it.
use Rattle.std.proofs.Common.{◌≡◌, ℕ, zero, suc, ◌<◌, ◌==◌, ◌&&◌, ◌++◌, Bool, true, false, List, [], ◌∷◌, length, map, Option, Some, None, slice_get, slice_set, option_map, option_and_then, if◌then◌else◌, unwrap_or, refl, sym, ap, ◌∙◌, subst, arith, eqb-true}
use Rattle.std.proofs.lemmas.Bool.{eqb-false}
use Rattle.std.specs.List.{list_all}
use Rattle.cx_names.specs.declared.ObjectNo.{ObjectNo}
use Rattle.cx_names.specs.declared.Reply.{Reply}
use Rattle.cx_names.specs.declared.Reply.TheVariants as replies
use Rattle.cx_machine.specs.declared.kind.Op.{Op}
use Rattle.cx_machine.specs.declared.kind.Op.TheVariants as ops
use Rattle.cx_scene.specs.declared.declared.Object.{Object}
use Rattle.cx_scene.specs.declared.declared.Object.TheVariants as objects
use Rattle.cx_scene.specs.declared.declared.Policy.TheVariants as policies
use Rattle.cx_scene.specs.declared.declared.Thread.{Thread}
use Rattle.cx_scene.specs.declared.declared.Thread.TheVariants as threads
use Rattle.cx_scene.specs.declared.call.Call.{Call}
use Rattle.cx_scene.specs.declared.call.Call.TheVariants as calls
use Rattle.cx_scene.specs.Scene.{Scene}
use Rattle.cx_items.specs.declared.kept.Kept.{Kept}
use Rattle.cx_items.specs.declared.form.Form.{Form}
use Rattle.cx_items.specs.declared.item.Control.{Control}
use Rattle.cx_items.specs.declared.item.Control.TheVariants as controls
use Rattle.cx_items.specs.declared.item.Item.{Item}
use Rattle.cx_items.specs.declared.item.Item.TheVariants as items
use Rattle.cx_items.specs.declared.task.Task.{Task}
use Rattle.cx_items.specs.declared.task.Task.TheVariants.{Makes, Answers, Says, Arrives, ArrivesAndWaits, ArrivesAndDrops, Completes, CallsOnce, LocksFrom, LocksRest, TriesAll, Tests, RegistersWait, AsksStop, TestsStop, TestsLast, AsksAgain, Requests, Drains, Registers, Launches}
use Rattle.cx_items.specs.Form.{fits, forms_in}
use Rattle.cx_items.specs.Calls.{small_forms}
use Rattle.cx_items.specs.Memory.{Memory, nothing, of, keep, kept_at_start, memory_at_start, kept_after, launched, controlled, remembering, settled}
use Rattle.cx_items.specs.Next.{Local, Alternative, goes, has_turns, passes, begun, past, replied, completion, alternatives, offered_by, offered, or_then, reached, with_item, moved, is_due, after_item, local_at_start}
use Rattle.cx_history.specs.Follows.{after_items}
use Rattle.cx_asks.specs.Scenes.{is_object_now, IsAskable}
use Rattle.cx_kinds.specs.Holding.{in_hand}
use Rattle.cx_work.specs.Reserves.{held_after, held_by}

-- ---- what is held, by what is kept

-- what is held of the object at a place
abbrev pub hand : List Kept → ℕ → Kept
hand ks o = in_hand (unwrap_or (slice_get ks o) nothing)

set_there : (ks : List Kept) (i : ℕ) (k : Kept) → i < length ks → hand (slice_set ks i k) i ≡ in_hand k
set_there [] i k low = absurd (omega (arith, low))
set_there (x ∷ xs) zero k low = refl
set_there (x ∷ xs) (suc i) k low = set_there xs i k (omega (arith, low))

set_elsewhere : (ks : List Kept) (i o : ℕ) (k : Kept) → (i ≡ o → ⊥) → hand (slice_set ks i k) o ≡ hand ks o
set_elsewhere [] i o k apart = refl
set_elsewhere (x ∷ xs) zero zero k apart = absurd (apart refl)
set_elsewhere (x ∷ xs) zero (suc o) k apart = refl
set_elsewhere (x ∷ xs) (suc i) zero k apart = refl
set_elsewhere (x ∷ xs) (suc i) (suc o) k apart = set_elsewhere xs i o k (λ e. apart (ap suc e))

set_alike : (ks : List Kept) (i o : ℕ) (k : Kept) → in_hand k ≡ hand ks i → hand (slice_set ks i k) o ≡ hand ks o
set_alike [] i o k same = refl
set_alike (x ∷ xs) zero zero k same = same
set_alike (x ∷ xs) zero (suc o) k same = refl
set_alike (x ∷ xs) (suc i) zero k same = refl
set_alike (x ∷ xs) (suc i) (suc o) k same = set_alike xs i o k same

set_long : (ks : List Kept) (i : ℕ) (k : Kept) → length (slice_set ks i k) ≡ length ks
set_long [] i k = refl
set_long (x ∷ xs) zero k = refl
set_long (x ∷ xs) (suc i) k = ap suc (set_long xs i k)

-- what a change leaves in hand, only what was in hand decides
hand_after : (op : Op) (k : Kept) → in_hand (kept_after op k) ≡ in_hand (kept_after op (in_hand k))
hand_after ops.Lock k = refl
hand_after ops.TryLock k = refl
hand_after ops.Unlock k = refl
hand_after ops.LockShared k = refl
hand_after ops.TryLockShared k = refl
hand_after ops.UnlockShared k = refl
hand_after ops.Another k = refl
hand_after ops.Drop k = refl
hand_after _ k = refl

-- ---- as much is held

pub record HoldsAlike (m m' : Memory) : Type 0 where
  pub many : length m'.kept ≡ length m.kept
  pub each : (o : ℕ) → hand m'.kept o ≡ hand m.kept o

-- of the same kept it is the same
alike : (m m' : Memory) → m'.kept ≡ m.kept → HoldsAlike m m'
alike m m' same = record { many = ap length same; each = λ o. ap (λ (ks : List Kept). hand ks o) same }

alike_kept : (m : Memory) (o : ObjectNo) (k : Kept) → in_hand k ≡ in_hand (of m o) → HoldsAlike m (keep m o k)
alike_kept m o k same = record { many = set_long m.kept o.0 k; each = λ n. set_alike m.kept o.0 n k same }

-- no reply alters what is held
settled_alike : (c : Call) (r : Reply) (m : Memory) → HoldsAlike m (settled c r m)
settled_alike (calls.Arrive b n) (replies.Number p) m = alike_kept m b (record (of m b) { arrival = Some p }) refl
settled_alike (calls.WaitBarrier b) replies.Ok m = alike_kept m b (record (of m b) { arrival = None }) refl
settled_alike (calls.DropPromise p) replies.Ok m = alike_kept m p (record (of m p) { is_dropped = true }) refl
settled_alike (calls.GetFuture p) replies.Ok m = alike_kept m p (record (of m p) { is_retrieved = true; is_valid = true }) refl
settled_alike (calls.Share p) replies.Ok m = alike_kept m p (record (of m p) { is_shared = true }) refl
settled_alike (calls.GetOutcome p) (replies.Outcome o) m = alike_kept m p (record (of m p) { is_valid = (of m p).is_shared }) refl
settled_alike (calls.DropAsync a) replies.Ok m = alike_kept m a (record (of m a) { is_valid = false }) refl
settled_alike _ _ m = alike m m refl

replied_alike : (s : Scene) (t : ℕ) (l : Local) (r : Reply) → HoldsAlike l.memory (replied s t l r).memory
replied_alike s t l r = go l.calls
  where
    go : (cs : List Call) → HoldsAlike l.memory (past l r cs).memory
    go [] = alike l.memory l.memory refl
    go (c ∷ cs) = settled_alike c r l.memory

-- ---- alternatives

-- each leads to where as much is held
abbrev AllAlike : Memory → List Alternative → Type 0
AllAlike m [] = Unit {0}
AllAlike m (a ∷ others) = ((r : Reply) → HoldsAlike m (a.next r).memory) × AllAlike m others

mapped_alike : (m : Memory) (fs : List Form) (next : Reply → Local) → ((r : Reply) → HoldsAlike m (next r).memory) → AllAlike m (map (λ f. record { form = f; next = next }) fs)
mapped_alike m [] next each = tt
mapped_alike m (f ∷ fs) next each = (each, mapped_alike m fs next each)

both_alike : (m : Memory) (as_ bs : List Alternative) → AllAlike m as_ → AllAlike m bs → AllAlike m (as_ ++ bs)
both_alike m [] bs a b = b
both_alike m (x ∷ as_) bs a b = (a.0, both_alike m as_ bs a.1 b)

either_alike : (m : Memory) (b : Bool) (k l : Local) → HoldsAlike m k.memory → HoldsAlike m l.memory → HoldsAlike m (if b then k else l).memory
either_alike m true k l a b = a
either_alike m false k l a b = b

begun_alike : (s : Scene) (l : Local) (st : ObjectNo) (has_reply : Bool) (r : Reply) → HoldsAlike l.memory (begun s l st has_reply r).memory
begun_alike s l st has_reply (replies.Number id) = alike l.memory l.memory refl
begun_alike s l st has_reply _ = alike l.memory l.memory refl

completion_alike : (l : Local) (b : ObjectNo) (d : Option Object) → AllAlike l.memory (completion l b d)
completion_alike l b (Some (objects.Barrier count (Some x))) = mapped_alike l.memory (forms_in (small_forms x)) _ (λ r. alike l.memory l.memory refl)
completion_alike l b _ = ((λ r. alike l.memory l.memory refl), tt)

alternatives_alike : (s : Scene) (t : ℕ) (l : Local) (task : Task) → AllAlike l.memory (alternatives s t l task)
alternatives_alike s t l (Makes fs) = mapped_alike l.memory (forms_in fs) _ (λ r. alike l.memory l.memory refl)
alternatives_alike s t l (Answers fs) = mapped_alike l.memory (forms_in fs) _ (λ r. alike l.memory l.memory refl)
alternatives_alike s t l (Says r) = ((λ q. replied_alike s t l q), tt)
alternatives_alike s t l (Arrives b n) = ((λ r. alike l.memory l.memory refl), ((λ r. alike l.memory l.memory refl), tt))
alternatives_alike s t l (ArrivesAndWaits b) = ((λ r. alike l.memory l.memory refl), ((λ r. alike l.memory l.memory refl), tt))
alternatives_alike s t l (ArrivesAndDrops b) = ((λ r. alike l.memory l.memory refl), ((λ r. alike l.memory l.memory refl), tt))
alternatives_alike s t l (Completes b must) = completion_alike l b (slice_get s.objects b.0)
alternatives_alike s t l (CallsOnce o f r) = ((λ q. alike l.memory l.memory refl), ((λ q. alike l.memory l.memory refl), tt))
alternatives_alike s t l (LocksFrom os) = ((λ r. alike l.memory l.memory refl), tt)
alternatives_alike s t l (LocksRest os k) = (
  (λ r. either_alike l.memory _ _ _ (alike l.memory l.memory refl) (alike l.memory l.memory refl)),
  ((λ r. either_alike l.memory (has_turns l) _ _ (alike l.memory _ refl) (alike l.memory l.memory refl)), tt),
)
alternatives_alike s t l (TriesAll os k) = (
  (λ r. either_alike l.memory _ _ _ (alike l.memory l.memory refl) (alike l.memory l.memory refl)),
  ((λ r. alike l.memory l.memory refl), tt),
)
alternatives_alike s t l (Tests c m p) = ((λ x. either_alike l.memory (passes p x) _ _ (alike l.memory l.memory refl) (either_alike l.memory (has_turns l) _ _ (alike l.memory _ refl) (alike l.memory l.memory refl))), tt)
alternatives_alike s t l (RegistersWait w) = ((λ r. alike l.memory l.memory refl), ((λ r. alike l.memory l.memory refl), ((λ r. alike l.memory l.memory refl), tt)))
alternatives_alike s t l (AsksStop w) = ((λ r. alike l.memory l.memory refl), ((λ r. alike l.memory l.memory refl), tt))
alternatives_alike s t l (TestsLast w) = ((λ r. alike l.memory l.memory refl), tt)
alternatives_alike s t l (TestsStop w) = ((λ x. either_alike l.memory (passes w.test x) _ _ (alike l.memory l.memory refl) (either_alike l.memory (has_turns l) _ _ (alike l.memory l.memory refl) (alike l.memory l.memory refl))), tt)
alternatives_alike s t l (AsksAgain w) = ((λ r. alike l.memory l.memory refl), ((λ r. alike l.memory _ refl), tt))
alternatives_alike s t l (Requests st has_reply) = ((λ r. alike l.memory l.memory refl), ((λ r. alike l.memory l.memory refl), tt))
alternatives_alike s t l (Drains st has_reply) = ((λ r. begun_alike s l st has_reply r), ((λ r. alike l.memory l.memory refl), tt))
alternatives_alike s t l (Registers st id) = ((λ r. alike l.memory l.memory refl), ((λ r. alike l.memory l.memory refl), ((λ r. alike l.memory l.memory refl), tt)))
alternatives_alike s t l (Launches a u policies.Async) = ((λ r. alike l.memory l.memory refl), ((λ r. alike l.memory l.memory refl), tt))
alternatives_alike s t l (Launches a u policies.Both) = ((λ r. alike l.memory l.memory refl), ((λ r. alike l.memory l.memory refl), tt))
alternatives_alike s t l (Launches a u policies.Deferred) = ((λ r. alike l.memory l.memory refl), tt)

offered_alike : (s : Scene) (t : ℕ) (l : Local) (ts : List Task) → AllAlike l.memory (offered_by s t l ts)
offered_alike s t l [] = tt
offered_alike s t l (Completes b false ∷ ts) = both_alike l.memory (alternatives s t (record l { agenda = ts }) (Completes b false)) (offered_by s t l ts) (alternatives_alike s t (record l { agenda = ts }) (Completes b false)) (offered_alike s t l ts)
offered_alike s t l (task ∷ ts) = alternatives_alike s t (record l { agenda = ts }) task

reached_alike : (s : Scene) (m : Memory) (others : List Alternative) (x : Item) (k : Local) → AllAlike m others → reached s others x ≡ Some k → HoldsAlike m k.memory
reached_alike s m [] x k all_ e = cc
reached_alike s m (a ∷ others) x k all_ e = go (fits s a.form x) e (λ w. reached_alike s m others x k all_.1 w)
  where
    go : (o : Option Reply) → or_then (option_map a.next o) (reached s others x) ≡ Some k → (reached s others x ≡ Some k → HoldsAlike m k.memory) → HoldsAlike m k.memory
    go None w later = later w
    go (Some r) w later = let same : a.next r ≡ k = cc in subst (λ (l : Local). HoldsAlike m l.memory) same (all_.0 r)

-- ---- items

-- the one memory goes on to the other by these items
pub record HoldsBy (m m' : Memory) (xs : List Item) : Type 0 where
  pub many : length m'.kept ≡ length m.kept
  pub each : (o : ℕ) → o < length m.kept → hand m'.kept o ≡ held_by o (hand m.kept o) xs

still : (m m' : Memory) (x : Item) → HoldsAlike m m' → ((o : ℕ) (k : Kept) → held_after o k x ≡ k) → HoldsBy m m' (x ∷ [])
still m m' x same none = record { many = same.many; each = λ o low. same.each o ∙ sym (none o (hand m.kept o)) }

launched_alike : (m : Memory) (d : Option Thread) → HoldsAlike m (launched m d)
launched_alike m (Some (threads.Launched a)) = alike_kept m a (record (of m a) { is_valid = true; is_launched = true }) refl
launched_alike m _ = alike m m refl

controlled_alike : (s : Scene) (m : Memory) (c : Control) → HoldsAlike m (controlled s m c)
controlled_alike s m (controls.Start t true) = alike m _ refl
controlled_alike s m (controls.Start t false) = alike m m refl
controlled_alike s m (controls.Launch t true) = launched_alike m (slice_get s.threads t.0)
controlled_alike s m (controls.Launch t false) = alike m m refl
controlled_alike s m (controls.Join t) = alike m _ refl

abbrev if_here : Bool → Op → Kept → Kept
if_here b op k = if b then in_hand (kept_after op k) else k

changed : (m : Memory) (q : ObjectNo) (op : Op) (o : ℕ) → o < length m.kept → (b : Bool) → (q.0 == o) ≡ b → hand (keep m q (kept_after op (of m q))).kept o ≡ if_here b op (hand m.kept o)
changed m q op o low true e =
    let same : q.0 ≡ o = eqb-true q.0 o e in
    let there : hand (slice_set m.kept q.0 (kept_after op (of m q))) q.0 ≡ in_hand (kept_after op (of m q)) = set_there m.kept q.0 (kept_after op (of m q)) (omega (arith, low, same)) in
    subst (λ n. hand (slice_set m.kept q.0 (kept_after op (of m q))) n ≡ in_hand (kept_after op (hand m.kept n))) same (there ∙ hand_after op (of m q))
changed m q op o low false e = set_elsewhere m.kept q.0 o (kept_after op (of m q)) (eqb-false q.0 o e)

remembered : (s : Scene) (m : Memory) (x : Item) → HoldsBy m (remembering s m x) (x ∷ [])
remembered s m (items.Change q p e) = record { many = set_long m.kept q.0 (kept_after e.op (of m q)); each = λ o low. changed m q e.op o low (q.0 == o) refl }
remembered s m (items.Look q l) = still m m (items.Look q l) (alike m m refl) (λ o k. refl)
remembered s m (items.Control c) = still m (controlled s m c) (items.Control c) (controlled_alike s m c) (λ o k. refl)
remembered s m (items.Said r) = still m m (items.Said r) (alike m m refl) (λ o k. refl)

after_alike : (m n k : Memory) (x : Item) → HoldsAlike m n → HoldsBy n k (x ∷ []) → HoldsBy m k (x ∷ [])
after_alike m n k x a b = record {
  many = b.many ∙ a.many;
  each = λ o low. b.each o (subst (λ i. o < i) (sym a.many) low) ∙ ap (λ h. held_after o h x) (a.each o);
}

moved_holds : (s : Scene) (completing : Bool) (t : ℕ) (l k : Local) (x : Item) → moved s completing t l x ≡ Some k → HoldsBy l.memory k.memory (x ∷ [])
moved_holds s completing t l k x h = go (reached s (offered s t l) x) refl h
  where
    go : (o : Option Local) → reached s (offered s t l) x ≡ o → option_map (with_item s completing x) o ≡ Some k → HoldsBy l.memory k.memory (x ∷ [])
    go None p w = cc
    go (Some m) p w =
        let same : with_item s completing x m ≡ k = cc in
        subst (λ (n : Local). HoldsBy l.memory n.memory (x ∷ [])) same (after_alike l.memory m.memory (remembering s m.memory x) x (reached_alike s l.memory (offered s t l) x m (offered_alike s t l l.agenda) p) (remembered s m.memory x))

and_more : (m n k : Memory) (x : Item) (xs : List Item) → HoldsBy m n (x ∷ []) → HoldsBy n k xs → HoldsBy m k (x ∷ xs)
and_more m n k x xs a b = record {
  many = b.many ∙ a.many;
  each = λ o low. b.each o (subst (λ i. o < i) (sym a.many) low) ∙ ap (λ h. held_by o h xs) (a.each o low);
}

holds_after : (s : Scene) (completes : ℕ → ℕ → Bool) (t : ℕ) (l k : Local) (xs : List Item) → after_items s completes t l xs ≡ Some k → HoldsBy l.memory k.memory xs
holds_after s completes t l k [] h = let same : l ≡ k = cc in subst (λ (n : Local). HoldsBy l.memory n.memory []) same (record { many = refl; each = λ o low. refl })
holds_after s completes t l k (x ∷ xs) h = go (after_item s completes t l x) refl h (λ m rest. holds_after s completes t m k xs rest)
  where
    go : (o : Option Local) → after_item s completes t l x ≡ o → option_and_then (λ m. after_items s completes t m xs) o ≡ Some k → ((m : Local) → after_items s completes t m xs ≡ Some k → HoldsBy m.memory k.memory xs) → HoldsBy l.memory k.memory (x ∷ xs)
    go None e w later = cc
    go (Some m) e w later = and_more l.memory m.memory k.memory x xs (moved_holds s (is_due completes x) t l m x e) (later m w)

-- ---- from the start

memory_first : (s : Scene) (t : ℕ) → (local_at_start s t).memory ≡ memory_at_start s t
memory_first s t = go (slice_get s.threads t) refl
  where
    go : (d : Option Thread) → slice_get s.threads t ≡ d → (local_at_start s t).memory ≡ memory_at_start s t
    go None e = rw e refl
    go (Some threads.Plain) e = rw e refl
    go (Some (threads.Stoppable o)) e = rw e refl
    go (Some (threads.Launched o)) e = rw e refl

none_first : (t : ℕ) (d : Object) → is_object_now d ≡ true → in_hand (kept_at_start t d) ≡ nothing
none_first t (objects.Stop holders) now = cc now
none_first t objects.StopOfThread now = cc now
none_first t (objects.SharedPromise owner readers) now = cc now
none_first t _ now = refl

first_now : (d : Object) (ds : List Object) → (is_object_now d && list_all is_object_now ds) ≡ true → (is_object_now d ≡ true) × (list_all is_object_now ds ≡ true)
first_now d ds h = go (is_object_now d) refl h
  where
    go : (b : Bool) → is_object_now d ≡ b → (b && list_all is_object_now ds) ≡ true → (is_object_now d ≡ true) × (list_all is_object_now ds ≡ true)
    go true e w = (e, w)
    go false e w = cc w

hand_first : (t : ℕ) (ds : List Object) (o : ℕ) → list_all is_object_now ds ≡ true → hand (map (kept_at_start t) ds) o ≡ nothing
hand_first t [] o now = refl
hand_first t (d ∷ ds) zero now = none_first t d (first_now d ds now).0
hand_first t (d ∷ ds) (suc o) now = hand_first t ds o (first_now d ds now).1

long_first : (t : ℕ) (ds : List Object) → length (map (kept_at_start t) ds) ≡ length ds
long_first t [] = refl
long_first t (d ∷ ds) = ap suc (long_first t ds)

-- what a thread remembers to hold of an object is what its items tell
pub hands_are : (s : Scene) (completes : ℕ → ℕ → Bool) (t : ℕ) (xs : List Item) (l : Local) (o : ObjectNo) → IsAskable s → after_items s completes t (local_at_start s t) xs ≡ Some l → o.0 < length s.objects → in_hand (of l.memory o) ≡ held_by o.0 nothing xs
hands_are s completes t xs l o asks after low =
    let all_ = holds_after s completes t (local_at_start s t) l xs after in
    let first = ap (λ (m : Memory). m.kept) (memory_first s t) in
    let many : length (local_at_start s t).memory.kept ≡ length s.objects = ap length first ∙ long_first t s.objects in
    let none : hand (local_at_start s t).memory.kept o.0 ≡ nothing = ap (λ (ks : List Kept). hand ks o.0) first ∙ hand_first t s.objects o.0 asks.objects in
    all_.each o.0 (subst (λ i. o.0 < i) (sym many) low) ∙ ap (λ (k : Kept). held_by o.0 k xs) none
