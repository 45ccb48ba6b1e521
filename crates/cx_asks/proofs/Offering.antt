-- What a thread is offered wherever its text leads it.
use Rattle.std.proofs.Common.{◌≡◌, ℕ, zero, suc, ◌==◌, ◌&&◌, ◌||◌, ℤ, pos, Bool, true, false, List, [], ◌∷◌, ◌++◌, map, length, Option, Some, None, option_and_then, slice_get, refl, sym, ap, ◌∙◌, subst, arith, ne_eqb}
use Rattle.std.specs.Prelude.{is_some}
use Rattle.std.proofs.lemmas.List.{map-append}
use Rattle.std.specs.List.{list_all}
use Rattle.cx_names.specs.declared.ObjectNo.{ObjectNo}
use Rattle.cx_names.specs.declared.Reply.{Reply}
use Rattle.cx_names.specs.declared.Reply.TheVariants as replies
use Rattle.cx_machine.specs.declared.kind.Kind.TheVariants as kinds
use Rattle.cx_machine.specs.declared.kind.Op.{Op}
use Rattle.cx_machine.specs.declared.kind.Op.TheVariants as ops
use Rattle.cx_scene.specs.declared.declared.Object.{Object}
use Rattle.cx_scene.specs.declared.declared.Object.TheVariants as objects
use Rattle.cx_scene.specs.declared.declared.Small.{Small}
use Rattle.cx_scene.specs.declared.declared.Thread.{Thread}
use Rattle.cx_scene.specs.declared.declared.Thread.TheVariants as threads
use Rattle.cx_scene.specs.declared.call.Call.{Call}
use Rattle.cx_scene.specs.Scene.{Scene, kind_of, body_of}
use Rattle.cx_items.specs.declared.kept.Kept.{Kept}
use Rattle.cx_items.specs.declared.item.Item.{Item}
use Rattle.cx_items.specs.declared.form.Form.{Form}
use Rattle.cx_items.specs.declared.form.Forms.{Forms}
use Rattle.cx_items.specs.declared.form.Forms.TheVariants.{One}
use Rattle.cx_items.specs.declared.task.Task.{Task}
use Rattle.cx_items.specs.declared.task.Task.TheVariants.{Makes, Answers, Says, Arrives, ArrivesAndWaits, ArrivesAndDrops, Completes, CallsOnce, LocksFrom, LocksRest, TriesAll}
use Rattle.cx_items.specs.Form.{forms_in, change, look, fits}
use Rattle.cx_items.specs.Calls.{one, small_forms}
use Rattle.cx_items.specs.Memory.{Memory, of, nothing, kept_at_start, memory_at_start}
use Rattle.cx_items.specs.Next.{Local, Alternative, goes, says, mutex_at, completion, alternatives, offered_by, offered, undue, settled_local, after_item, is_due, start_of_body, local_at_start, is_ended}
use Rattle.cx_items.specs.Steps.{form_of}
use Rattle.cx_history.specs.Follows.{after_items}
use Rattle.cx_asks.specs.declared.ask.Ask.{Ask}
use Rattle.cx_asks.specs.Asks.{asks_mutex, asks_recursive, asks_semaphore, asks_latch, asks_shared, asks_once, asks_barrier, serves}
use Rattle.cx_asks.specs.Forms.{is_of_one, asked_forms, change_forms, look_forms}
use Rattle.cx_asks.specs.Scenes.{is_completion_now, completes_on, is_thread_now, IsAskable}
use Rattle.cx_asks.specs.Offers.{takes, IsServed, IsOffer}
use Rattle.cx_asks.proofs.Kept.{kept_at, levels, reads, IsKept}
use Rattle.cx_asks.proofs.Served.{plain_lock, plain_try}
use Rattle.cx_asks.proofs.Calling.{begin}
use Rattle.cx_asks.proofs.Arriving.{IsBarrier, arrive, drop_, complete, small_offered}
use Rattle.cx_asks.proofs.Standing.{AreLocked, Answered, asks, starts, joins, is_more, Good, next_free}
use Rattle.cx_asks.proofs.Going.{is_last, IsStanding, next_stands, stands_moved}

-- ---- the start

no_level : (t : ℕ) (d : Object) → (kept_at_start t d).levels ≡ 0
no_level t (objects.Stop holders) = refl
no_level t objects.StopOfThread = refl
no_level t (objects.SharedPromise owner readers) = refl
no_level t d = refl

no_reader : (t : ℕ) (d : Object) → (kept_at_start t d).reads ≡ false
no_reader t (objects.Stop holders) = refl
no_reader t objects.StopOfThread = refl
no_reader t (objects.SharedPromise owner readers) = refl
no_reader t d = refl

not_launched : (t : ℕ) (d : Object) → (kept_at_start t d).is_launched ≡ false
not_launched t (objects.Stop holders) = refl
not_launched t objects.StopOfThread = refl
not_launched t (objects.SharedPromise owner readers) = refl
not_launched t d = refl

at_start : {X : Type 0} (f : Kept → X) (x : X) (t : ℕ) (ds : List Object) (n : ℕ) → f nothing ≡ x → ((d : Object) → f (kept_at_start t d) ≡ x) → f (kept_at (map (kept_at_start t) ds) n) ≡ x
at_start f x t [] n h each = h
at_start f x t (d ∷ ds) zero h each = each d
at_start f x t (d ∷ ds) (suc n) h each = at_start f x t ds n h each

map_length : {A B : Type 0} (f : A → B) (xs : List A) → length (map f xs) ≡ length xs
map_length f [] = refl
map_length f (x ∷ xs) = ap suc (map_length f xs)

-- no thread begins with a level
pub level_first : (s : Scene) (t n : ℕ) → levels (memory_at_start s t) n ≡ 0
level_first s t n = at_start (λ (k : Kept). k.levels) 0 t s.objects n refl (no_level t)

-- and none shares a mutex
pub reads_first : (s : Scene) (t n : ℕ) → reads (memory_at_start s t) n ≡ false
reads_first s t n = at_start (λ (k : Kept). k.reads) false t s.objects n refl (no_reader t)

pub kept_first : (s : Scene) (t : ℕ) → IsKept s (memory_at_start s t)
kept_first s t = record {
  count = map_length (kept_at_start t) s.objects;
  free = λ n h. level_first s t n;
  unshared = λ n no_. reads_first s t n;
  launched = λ n. at_start (λ (k : Kept). k.is_launched) false t s.objects n refl (not_launched t);
}

none_launched : (us : List Thread) (t : ℕ) (o : ObjectNo) → list_all is_thread_now us ≡ true → slice_get us t ≡ Some (threads.Launched o) → ⊥
none_launched [] t o h e = cc
none_launched (threads.Plain ∷ us) zero o h e = cc
none_launched (threads.Plain ∷ us) (suc t) o h e = none_launched us t o h e
none_launched (_ ∷ us) t o h e = cc

-- no thread is that of an async
pub starts_body : (s : Scene) (t : ℕ) → IsAskable s → local_at_start s t ≡ start_of_body s t
starts_body s t a = go (slice_get s.threads t) refl
  where
    go : (o : Option Thread) → slice_get s.threads t ≡ o → local_at_start s t ≡ start_of_body s t
    go None e = rw e refl
    go (Some threads.Plain) e = rw e refl
    go (Some (threads.Stoppable o)) e = rw e refl
    go (Some (threads.Launched o)) e = absurd (none_launched s.threads t o a.threads e)

pub stands_first : (s : Scene) (t : ℕ) → IsAskable s → IsStanding s t (local_at_start s t)
stands_first s t a = subst (IsStanding s t) (sym (starts_body s t a)) (next_stands s t (record { memory = memory_at_start s t; agenda = []; calls = body_of s t; number = 0 }) a (kept_first s t) (a.calls t))

-- ---- some items

pub stands_after : (s : Scene) (completes : ℕ → ℕ → Bool) (t : ℕ) (l k : Local) (xs : List Item) → IsAskable s → IsStanding s t l → after_items s completes t l xs ≡ Some k → IsStanding s t k
stands_after s completes t l k [] a q h = let same : l ≡ k = cc in subst (IsStanding s t) same q
stands_after s completes t l k (x ∷ xs) a q h = go (after_item s completes t l x) refl h (λ m one rest. stands_after s completes t m k xs a (stands_moved s (is_due completes x) t l m x a q one) rest)
  where
    go : (o : Option Local) → after_item s completes t l x ≡ o → option_and_then (λ m. after_items s completes t m xs) o ≡ Some k → ((m : Local) → after_item s completes t l x ≡ Some m → after_items s completes t m xs ≡ Some k → IsStanding s t k) → IsStanding s t k
    go None e w then_ = cc
    go (Some m) e w then_ = then_ m e w

-- ---- offers

-- what is offered doesn't depend on what else is left
pub offered_any : (s : Scene) (t : ℕ) (l : Local) (others ts : List Task) → offered_by s t (record l { agenda = others }) ts ≡ offered_by s t l ts
offered_any s t l others [] = refl
offered_any s t l others (Completes b false ∷ ts) = ap (λ (ys : List Alternative). alternatives s t (record l { agenda = ts }) (Completes b false) ++ ys) (offered_any s t l others ts)
offered_any s t l others (task ∷ ts) = refl

one_later : (s : Scene) (fs gs : List Form) (x : Item) → is_of_one s gs x ≡ true → is_of_one s (fs ++ gs) x ≡ true
one_later s [] gs x h = h
one_later s (f ∷ fs) gs x h = go (is_some (fits s f x)) (one_later s fs gs x h)
  where
    go : (b : Bool) → is_of_one s (fs ++ gs) x ≡ true → (b || is_of_one s (fs ++ gs) x) ≡ true
    go true k = refl
    go false k = k

-- an item of what is offered without a completion that isn't due is of what is offered
pub settled_among : (s : Scene) (t : ℕ) (l : Local) (x : Item) → is_of_one s (map form_of (offered s t (settled_local l))) x ≡ true → is_of_one s (map form_of (offered s t l)) x ≡ true
settled_among s t l x h = go l.agenda (subst (λ (ys : List Alternative). is_of_one s (map form_of ys) x ≡ true) (offered_any s t l (undue l.agenda) (undue l.agenda)) h)
  where
    go : (ts : List Task) → is_of_one s (map form_of (offered_by s t l (undue ts))) x ≡ true → is_of_one s (map form_of (offered_by s t l ts)) x ≡ true
    go [] k = k
    go (Completes b false ∷ ts) k = subst (λ (fs : List Form). is_of_one s fs x ≡ true) (sym (map-append form_of (alternatives s t (record l { agenda = ts }) (Completes b false)) (offered_by s t l ts))) (one_later s (map form_of (alternatives s t (record l { agenda = ts }) (Completes b false))) (map form_of (offered_by s t l ts)) x k)
    go (task ∷ ts) k = k

-- no completion that isn't due is next
abbrev is_settled : List Task → Bool
is_settled (Completes b false ∷ ts) = false
is_settled _ = true

more_settled : (ts : List Task) → is_more ts ≡ true → is_settled ts ≡ true
more_settled [] h = refl
more_settled (Completes b must ∷ ts) h = cc
more_settled (task ∷ ts) h = refl

module _ (s : Scene) (t : ℕ) (l : Local) where
  -- the forms of an ask with these words are an offer where they are served
  abbrev OffersWhere : List Form → Type 0
  OffersWhere fs = IsServed s l.memory fs → IsOffer s t l fs

  plain_offers : (o : ObjectNo) (numbers n : ℕ) (c k : Option Op) (a b : ℤ) → asks_mutex n c k a b → OffersWhere (change_forms (kinds.Mutex false numbers) o c a b ++ look_forms (kinds.Mutex false numbers) o k a b)
  plain_offers o numbers zero (Some ops.Lock) None (pos zero) (pos zero) ask = λ h. h
  plain_offers o numbers zero (Some ops.TryLock) (Some ops.TryLock) (pos zero) (pos zero) ask = λ h. h
  plain_offers o numbers (suc n) (Some ops.Unlock) None (pos zero) (pos zero) ask = λ h. h
  plain_offers o numbers _ _ _ _ _ ask = absurd ask

  recursive_offers : (o : ObjectNo) (numbers n : ℕ) (c k : Option Op) (a b : ℤ) → asks_recursive n c k a b → OffersWhere (change_forms (kinds.Mutex true numbers) o c a b ++ look_forms (kinds.Mutex true numbers) o k a b)
  recursive_offers o numbers n (Some ops.Lock) (Some ops.Lock) (pos zero) (pos zero) ask = λ h. h
  recursive_offers o numbers n (Some ops.TryLock) (Some ops.TryLock) (pos zero) (pos zero) ask = λ h. h
  recursive_offers o numbers (suc n) (Some ops.Unlock) None (pos zero) (pos zero) ask = λ h. h
  recursive_offers o numbers _ _ _ _ _ ask = absurd ask

  semaphore_offers : (o : ObjectNo) (count max : ℕ) (c k : Option Op) (a b : ℤ) → asks_semaphore c k a b → OffersWhere (change_forms (kinds.Semaphore count max) o c a b ++ look_forms (kinds.Semaphore count max) o k a b)
  semaphore_offers o count max (Some ops.Release) (Some ops.Release) (pos n) (pos zero) ask = λ h. h
  semaphore_offers o count max (Some ops.Acquire) None (pos zero) (pos zero) ask = λ h. h
  semaphore_offers o count max (Some ops.TryAcquire) (Some ops.TryAcquire) (pos zero) (pos zero) ask = λ h. h
  semaphore_offers o count max _ _ _ _ ask = absurd ask

  latch_offers : (o : ObjectNo) (count share : ℕ) (c k : Option Op) (a b : ℤ) → asks_latch share c k a b → OffersWhere (change_forms (kinds.Latch count) o c a b ++ look_forms (kinds.Latch count) o k a b)
  latch_offers o count share (Some ops.CountDown) None (pos n) (pos zero) ask = λ h. h
  latch_offers o count share None (Some ops.Wait) (pos zero) (pos zero) ask = λ h. h
  latch_offers o count share None (Some ops.TryWait) (pos zero) (pos zero) ask = λ h. h
  latch_offers o count share _ _ _ _ ask = absurd ask

  shared_offers : (o : ObjectNo) (n : ℕ) (reads : Bool) (c k : Option Op) (a b : ℤ) → asks_shared n reads c k a b → OffersWhere (change_forms kinds.Shared o c a b ++ look_forms kinds.Shared o k a b)
  shared_offers o zero false (Some ops.Lock) None (pos zero) (pos zero) ask = λ h. h
  shared_offers o zero false (Some ops.TryLock) (Some ops.TryLock) (pos zero) (pos zero) ask = λ h. h
  shared_offers o zero false (Some ops.LockShared) None (pos zero) (pos zero) ask = λ h. h
  shared_offers o zero false (Some ops.TryLockShared) (Some ops.TryLockShared) (pos zero) (pos zero) ask = λ h. h
  shared_offers o (suc n) reads (Some ops.Unlock) None (pos zero) (pos zero) ask = λ h. h
  shared_offers o n true (Some ops.UnlockShared) None (pos zero) (pos zero) ask = λ h. h
  shared_offers o _ _ _ _ _ _ ask = absurd ask

  once_offers : (o : ObjectNo) (c k : Option Op) (a b : ℤ) → asks_once c k a b → OffersWhere (change_forms kinds.Once o c a b ++ look_forms kinds.Once o k a b)
  once_offers o (Some ops.Begin) (Some ops.Passive) (pos zero) (pos zero) ask = λ h. h
  once_offers o (Some ops.Finish) None (pos zero) (pos zero) ask = λ h. h
  once_offers o (Some ops.Fail) None (pos e) (pos zero) ask = λ h. h
  once_offers o _ _ _ _ ask = absurd ask

  barrier_offers : (o : ObjectNo) (count : ℕ) (c k : Option Op) (a b : ℤ) → asks_barrier c k a b → OffersWhere (change_forms (kinds.Barrier count) o c a b ++ look_forms (kinds.Barrier count) o k a b)
  barrier_offers o count (Some ops.Arrive) (Some ops.Arrive) (pos n) (pos zero) ask = λ h. h
  barrier_offers o count (Some ops.Drop) (Some ops.Drop) (pos zero) (pos zero) ask = λ h. h
  barrier_offers o count (Some ops.Complete) None (pos zero) (pos zero) ask = λ h. h
  barrier_offers o count None (Some ops.Wait) phase (pos zero) ask = λ h. h
  barrier_offers o count _ _ _ _ ask = absurd ask

  any_offers : (d : Object) (o : ObjectNo) (h : Kept) (share : ℕ) (k : Ask) → serves (kind_of d) h share k → OffersWhere (asked_forms (kind_of d) o k)
  any_offers (objects.Mutex numbers) o h share k ask = plain_offers o numbers h.levels k.change k.look k.a k.b ask
  any_offers objects.Recursive o h share k ask = recursive_offers o 0 h.levels k.change k.look k.a k.b ask
  any_offers (objects.Semaphore count max) o h share k ask = semaphore_offers o count max k.change k.look k.a k.b ask
  any_offers (objects.Latch count) o h share k ask = latch_offers o count share k.change k.look k.a k.b ask
  any_offers objects.Shared o h share k ask = shared_offers o h.levels h.reads k.change k.look k.a k.b ask
  any_offers (objects.Barrier count small) o h share k ask = barrier_offers o count k.change k.look k.a k.b ask
  any_offers objects.Once o h share k ask = once_offers o k.change k.look k.a k.b ask
  any_offers _ o h share k ask = absurd ask

  served_offers : (fs : List Form) → OffersWhere fs
  served_offers fs h =
      let ask = h.served (takes h.ask) (omega arith) in
      subst (λ (gs : List Form). IsOffer s t l gs) (sym h.forms) (any_offers h.declared h.object (of l.memory h.object) (takes h.ask) h.ask ask (subst (λ (gs : List Form). IsServed s l.memory gs) h.forms h))

  forms_back : (next : Form → Reply → Local) (fs : List Form) → map form_of (map (λ f. record { form = f; next = next f }) fs) ≡ fs
  forms_back next [] = refl
  forms_back next (f ∷ fs) = ap (λ (gs : List Form). f ∷ gs) (forms_back next fs)

  answered_offers : (l' : Local) (fs : Forms) → Answered s t l.memory fs → IsOffer s t l (map form_of (map (λ f. record { form = f; next = says l' }) (forms_in fs)))
  answered_offers l' fs (asks fs' o) = subst (λ (gs : List Form). IsOffer s t l gs) (sym (forms_back (λ f. says l') (forms_in fs))) (served_offers (forms_in fs) o.served)
  answered_offers l' fs (starts u may) = (refl, refl, may)
  answered_offers l' fs (joins u may) = (refl, may)

  locks_offer : (os : List ℕ) (n : ℕ) → AreLocked s l.memory os n → IsServed s l.memory (change (mutex_at os n) ops.Lock 0 replies.Ok ∷ [])
  locks_offer os n h = let f = next_free s l.memory os n h in let o = plain_lock s l.memory (mutex_at os n) f.plain f.free in o.served

  tries_offer : (os : List ℕ) (n : ℕ) → AreLocked s l.memory os n → IsServed s l.memory (change (mutex_at os n) ops.TryLock 0 replies.True ∷ look (mutex_at os n) ops.TryLock 0 replies.False ∷ [])
  tries_offer os n h = let f = next_free s l.memory os n h in let o = plain_try s l.memory (mutex_at os n) f.plain f.free in o.served

  -- the forms of a completion are those of its act, or of the phase's end
  completion_offers : (l' : Local) (b : ObjectNo) → IsBarrier s b → IsOffer s t l (map form_of (completion l' b (slice_get s.objects b.0)))
  completion_offers l' b is = subst (λ (d : Option Object). IsOffer s t l (map form_of (completion l' b d))) (sym is.there) (go is.small is.now is.on)
    where
      go : (small : Option Small) → is_completion_now small ≡ true → completes_on s small ≡ true → IsOffer s t l (map form_of (completion l' b (Some (objects.Barrier is.count small))))
      go None now on = served_offers (change b ops.Complete 0 replies.Ok ∷ []) (complete s l.memory b is).served
      go (Some x) now on = subst (λ (gs : List Form). IsOffer s t l gs) (sym (forms_back (λ f r. goes l' (one (change b ops.Complete 0 replies.Ok) ∷ [])) (forms_in (small_forms x)))) (served_offers (forms_in (small_forms x)) (small_offered s l.memory x now on).served)

  next_offers : (ts : List Task) → is_more ts ≡ true → Good s t (is_last l.calls) l.memory ts → IsOffer s t l (map form_of (offered_by s t l ts))
  next_offers [] more g = cc
  next_offers (Completes b must ∷ ts) more g = cc
  next_offers (Makes (One f) ∷ ts) more g = served_offers (f ∷ []) g.0.served
  next_offers (Answers fs ∷ ts) more g = answered_offers (record l { agenda = ts }) fs g
  next_offers (Says r ∷ ts) more g = (refl, g)
  next_offers (Arrives b n ∷ ts) more g = (arrive s l.memory b n g.0 g.1 g.2).served
  next_offers (ArrivesAndWaits b ∷ ts) more g = (arrive s l.memory b 1 g (omega arith) (omega arith)).served
  next_offers (ArrivesAndDrops b ∷ ts) more g = (drop_ s l.memory b g).served
  next_offers (CallsOnce o f r ∷ ts) more g = (begin s l.memory o g.0).served
  next_offers (LocksFrom os ∷ ts) more g = locks_offer os 0 g.1
  next_offers (LocksRest os n ∷ ts) more g = tries_offer os n g.1
  next_offers (TriesAll os n ∷ ts) more g = tries_offer os n g
  next_offers (_ ∷ ts) more g = absurd g

  tasks_offer : (ts : List Task) → (ts ≡ [] → is_ended l ≡ true) → is_settled ts ≡ true → Good s t (is_last l.calls) l.memory ts → IsOffer s t l (map form_of (offered_by s t l ts))
  tasks_offer [] ended settled g = ended refl
  tasks_offer (Completes b false ∷ ts) ended settled g = cc
  tasks_offer (Completes b true ∷ ts) ended settled g = completion_offers (record l { agenda = ts }) b g.0
  tasks_offer (task ∷ ts) ended settled g = next_offers (task ∷ ts) refl g

  none_left : (ts : List Task) (cs : List Call) → ts ≡ [] → is_last cs ≡ true → ((length ts == 0) && (length cs == 0)) ≡ true
  none_left ts [] h k = rw h refl
  none_left ts (c ∷ cs) h k = cc

  pub offers : is_settled l.agenda ≡ true → IsStanding s t l → IsOffer s t l (map form_of (offered s t l))
  offers settled q = tasks_offer l.agenda (λ e. none_left l.agenda l.calls e (subst (λ (ts : List Task). Good s t (is_last l.calls) l.memory ts) e q.agenda)) settled q.agenda

-- ---- where a completion that isn't due is left out

undue_is : (s : Scene) (t : ℕ) (last : Bool) (m : Memory) (ts : List Task) → Good s t last m ts → (is_settled (undue ts) ≡ true) × Good s t last m (undue ts)
undue_is s t last m [] g = (refl, g)
undue_is s t last m (Completes b false ∷ ts) g = (more_settled ts g.1, g.2 m)
undue_is s t last m (Completes b true ∷ ts) g = (refl, g)
undue_is s t last m (task ∷ ts) g = (refl, g)

stands_settled : (s : Scene) (t : ℕ) (l : Local) → IsStanding s t l → IsStanding s t (settled_local l)
stands_settled s t l q = record { memory = q.memory; agenda = (undue_is s t (is_last l.calls) l.memory l.agenda q.agenda).1; calls = q.calls }

pub offered_now_is_served : (s : Scene) (completes : ℕ → ℕ → Bool) (t : ℕ) (xs : List Item) (l : Local) → IsAskable s → after_items s completes t (local_at_start s t) xs ≡ Some l → IsOffer s t (settled_local l) (map form_of (offered s t (settled_local l)))
offered_now_is_served s completes t xs l a h =
    let q = stands_after s completes t (local_at_start s t) l xs a (stands_first s t a) h in
    offers s t (settled_local l) (undue_is s t (is_last l.calls) l.memory l.agenda q.agenda).0 (stands_settled s t l q)

-- behind a completion something is always left
pub ended_now : (s : Scene) (completes : ℕ → ℕ → Bool) (t : ℕ) (xs : List Item) (l : Local) → IsAskable s → after_items s completes t (local_at_start s t) xs ≡ Some l → is_ended (settled_local l) ≡ is_ended l
ended_now s completes t xs l a h = go l.agenda (stands_after s completes t (local_at_start s t) l xs a (stands_first s t a) h).agenda
  where
    some_left : (n : ℕ) (b : Bool) → ((suc n == 0) && b) ≡ false
    some_left n b = let e : (suc n == 0) ≡ false = ne_eqb (suc n) 0 (λ q. (let no : ⊥ = omega (arith, q) in no)) in rw e refl

    more_behind : (ts : List Task) (b : Bool) → is_more ts ≡ true → ((length ts == 0) && b) ≡ false
    more_behind [] b more = cc
    more_behind (task ∷ ts) b more = some_left (length ts) b

    go : (ts : List Task) → Good s t (is_last l.calls) l.memory ts → ((length (undue ts) == 0) && (length l.calls == 0)) ≡ ((length ts == 0) && (length l.calls == 0))
    go [] g = refl
    go (Completes b false ∷ ts) g = more_behind ts (length l.calls == 0) g.1 ∙ sym (some_left (length ts) (length l.calls == 0))
    go (task ∷ ts) g = refl
