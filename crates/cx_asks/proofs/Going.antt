-- Each item that is allowed leaves a thread where what is left of its call is served.
use Rattle.std.proofs.Common.{◌≡◌, ℕ, ◌+◌, ◌<◌, ◌≤◌, ◌==◌, ℤ, pos, negsuc, Bool, true, false, List, [], ◌∷◌, ◌++◌, map, length, take, drop, Option, Some, None, option_map, slice_get, if◌then◌else◌, refl, sym, ap, ◌∙◌, subst, arith, append_assoc}
use Rattle.std.specs.Prelude.{reverse}
use Rattle.std.specs.List.{list_all}
use Rattle.std.proofs.lemmas.Bool.{and_parts, eqb-false}
use Rattle.cx_names.specs.declared.ObjectNo.{ObjectNo}
use Rattle.cx_names.specs.declared.Reply.{Reply}
use Rattle.cx_names.specs.declared.Reply.TheVariants as replies
use Rattle.cx_machine.specs.declared.kind.Op.TheVariants as ops
use Rattle.cx_machine.specs.Words.{has}
use Rattle.cx_scene.specs.declared.declared.Object.{Object}
use Rattle.cx_scene.specs.declared.declared.Object.TheVariants as objects
use Rattle.cx_scene.specs.declared.declared.Small.{Small}
use Rattle.cx_scene.specs.declared.call.Call.{Call}
use Rattle.cx_scene.specs.declared.call.Call.TheVariants as calls
use Rattle.cx_scene.specs.Scene.{Scene}
use Rattle.cx_items.specs.declared.item.Item.{Item}
use Rattle.cx_items.specs.declared.item.Control.TheVariants as controls
use Rattle.cx_items.specs.declared.kept.Kept.{Kept}
use Rattle.cx_items.specs.declared.form.Form.{Form}
use Rattle.cx_items.specs.declared.form.Form.TheVariants.{Change, Look, Does}
use Rattle.cx_items.specs.declared.form.Forms.{Forms}
use Rattle.cx_items.specs.declared.form.Forms.TheVariants.{One}
use Rattle.cx_items.specs.declared.form.Wanted.TheVariants.{Just, ANumber}
use Rattle.cx_items.specs.declared.task.Task.{Task}
use Rattle.cx_items.specs.declared.task.Task.TheVariants.{Makes, Answers, Says, Arrives, ArrivesAndWaits, ArrivesAndDrops, Completes, CallsOnce, LocksFrom, LocksRest, TriesAll}
use Rattle.cx_items.specs.Form.{forms_in, change, look, fits}
use Rattle.cx_items.specs.Calls.{one, small_forms}
use Rattle.cx_items.specs.Memory.{Memory, of, keep, remembering, settled}
use Rattle.cx_items.specs.Next.{completion, number_of, Local, Alternative, goes, to, says, has_turns, turned, next_tasks, next_call, past, replied, mutex_at, unlocks, backs_off, alternatives, offered_by, offered, or_then, reached, due, with_due, with_item, moved}
use Rattle.cx_asks.specs.Scenes.{is_once, is_fit, IsAskable}
use Rattle.cx_asks.specs.Offers.{names_nobody}
use Rattle.cx_asks.proofs.Forms.{form_after, is_begin, is_word_of, form_of_item}
use Rattle.cx_asks.proofs.Kept.{kept_at, acted, Keeps, keeps_set, gains_lock, gains_try, IsKept, kept_keeps}
use Rattle.cx_asks.proofs.Served.{IsSound, AllSound, Offered, is_act, plain_lockable, kept_within, sound_lock, sound_try, nobody_is}
use Rattle.cx_asks.proofs.Calling.{begin}
use Rattle.cx_asks.proofs.Arriving.{IsBarrier, arrive, drop_, complete, wait_phase, SmallSound, small_sound}
use Rattle.cx_asks.proofs.Standing.{AreLocked, Answered, asks, starts, joins, Good, next_free, locked_more, AreHeld, good_unlocks, held_first, locked_again, turned_length}
use Rattle.cx_asks.proofs.Calls.{good_opened, good_end}

abbrev pub is_last : List Call → Bool
is_last [] = true
is_last (c ∷ cs) = false

-- where thread t may stand in a scenario
pub record IsStanding (s : Scene) (t : ℕ) (l : Local) : Type 0 where
  pub memory : IsKept s l.memory
  pub agenda : Good s t (is_last l.calls) l.memory l.agenda
  pub calls : list_all (is_fit s t) l.calls ≡ true

-- with the memory of an item of the form
abbrev pub after_form : Scene → Form → Local → Local
after_form s f l = record l { memory = form_after s f l.memory }

-- a join is of a thread that may be joined, and nothing is launched
abbrev pub MayJoinBy : List ℕ → Form → Type 0
MayJoinBy js (Does (controls.Join u)) = has js u.0 ≡ true
MayJoinBy js (Does (controls.Launch u ok)) = ⊥
MayJoinBy js _ = Unit {0}

-- an alternative, where the thread may join these: it leads to where the thread may stand, and may join the same but for the item
pub record IsFine (s : Scene) (t : ℕ) (js : List ℕ) (a : Alternative) : Type 0 where
  pub plain : is_begin a.form ≡ false
  pub joins_ : MayJoinBy js a.form
  pub stays : (r : Reply) → (a.next r).memory.joinable ≡ js
  pub stands : (r : Reply) → is_word_of a.form r ≡ true → IsStanding s t (after_form s a.form (a.next r))

pub data AllStand (s : Scene) (t : ℕ) (js : List ℕ) : List Alternative → Type 0 where
  no_more : AllStand s t js []
  and_more : (a : Alternative) (rest : List Alternative) → IsFine s t js a → AllStand s t js rest → AllStand s t js (a ∷ rest)

stand_one : {s : Scene} {t : ℕ} {js : List ℕ} (a : Alternative) → IsFine s t js a → AllStand s t js (a ∷ [])
stand_one a h = and_more a [] h no_more

stand_two : {s : Scene} {t : ℕ} {js : List ℕ} (a b : Alternative) → IsFine s t js a → IsFine s t js b → AllStand s t js (a ∷ b ∷ [])
stand_two a b h k = and_more a (b ∷ []) h (stand_one b k)

act_plain : (f : Form) → is_act f ≡ true → is_begin f ≡ false
act_plain (Change o op a b w) h = refl
act_plain (Look o op a b w) h = refl
act_plain _ h = cc

act_joins : (js : List ℕ) (f : Form) → is_act f ≡ true → MayJoinBy js f
act_joins js (Change o op a b w) h = tt
act_joins js (Look o op a b w) h = tt
act_joins js _ h = cc

-- ---- the next call

pub next_stands : (s : Scene) (t : ℕ) (l : Local) → IsAskable s → IsKept s l.memory → list_all (is_fit s t) l.calls ≡ true → IsStanding s t (next_call s t l)
next_stands s t l a k h = record { memory = k; agenda = go l.calls h; calls = h }
  where
    go : (cs : List Call) → list_all (is_fit s t) cs ≡ true → Good s t (is_last cs) l.memory (next_tasks s t l cs)
    go [] g = good_end s t l.memory a k
    go (c ∷ cs) g = good_opened s t l.number false l.memory c a (and_parts (is_fit s t c) (list_all (is_fit s t) cs) g).0

-- what a reply settles leaves what is held, whom the thread may join, and its turns
pub record Settles (m m' : Memory) : Type 0 where
  pub keeps : Keeps m m'
  pub joinable : m'.joinable ≡ m.joinable
  pub turns : m'.turns ≡ m.turns

settles_none : (m : Memory) → Settles m m
settles_none m = record { keeps = record { alike = record { count = refl; reads_are = λ n. refl; launched = λ n. refl }; levels_are = λ n. refl }; joinable = refl; turns = refl }

-- an arrival is kept until it is waited for
settles_arrival : (m : Memory) (b : ObjectNo) (arrival : Option ℤ) → Settles m (keep m b (record (of m b) { arrival = arrival }))
settles_arrival m b arrival = record { keeps = keeps_set m b (record (of m b) { arrival = arrival }) refl refl refl; joinable = refl; turns = refl }

pub settles : (s : Scene) (t : ℕ) (c : Call) (r : Reply) (m : Memory) → is_fit s t c ≡ true → Settles m (settled c r m)
settles s t (calls.Lock o) r m h = settles_none m
settles s t (calls.LockRecursive o) r m h = settles_none m
settles s t (calls.LockShared o) r m h = settles_none m
settles s t (calls.TryLock o) r m h = settles_none m
settles s t (calls.TryLockRecursive o) r m h = settles_none m
settles s t (calls.TryLockShared o) r m h = settles_none m
settles s t (calls.Unlock o) r m h = settles_none m
settles s t (calls.UnlockShared o) r m h = settles_none m
settles s t (calls.LockAll os) r m h = settles_none m
settles s t (calls.TryLockAll os) r m h = settles_none m
settles s t (calls.Release q n) r m h = settles_none m
settles s t (calls.Acquire q) r m h = settles_none m
settles s t (calls.TryAcquire q) r m h = settles_none m
settles s t (calls.CountDown l n) r m h = settles_none m
settles s t (calls.WaitLatch l) r m h = settles_none m
settles s t (calls.TryWait l) r m h = settles_none m
settles s t (calls.ArriveAndWaitLatch l) r m h = settles_none m
settles s t (calls.Arrive b n) (replies.Number p) m h = settles_arrival m b (Some p)
settles s t (calls.Arrive b n) _ m h = settles_none m
settles s t (calls.WaitBarrier b) replies.Ok m h = settles_arrival m b None
settles s t (calls.WaitBarrier b) _ m h = settles_none m
settles s t (calls.ArriveAndWait b) r m h = settles_none m
settles s t (calls.ArriveAndDrop b) r m h = settles_none m
settles s t (calls.CallOnceReturn o) r m h = settles_none m
settles s t (calls.CallOnceThrow o e) r m h = settles_none m
settles s t (calls.Start u) r m h = settles_none m
settles s t (calls.Join u) r m h = settles_none m
settles s t _ r m h = cc

replied_stands : (s : Scene) (t : ℕ) (l : Local) (r : Reply) → IsAskable s → IsKept s l.memory → list_all (is_fit s t) l.calls ≡ true → IsStanding s t (replied s t l r)
replied_stands s t l r a k h = go l.calls h
  where
    go : (cs : List Call) → list_all (is_fit s t) cs ≡ true → IsStanding s t (next_call s t (past l r cs))
    go [] g = next_stands s t l a k h
    go (c ∷ cs) g =
        let p = and_parts (is_fit s t c) (list_all (is_fit s t) cs) g in
        let kept : IsKept s (settled c r l.memory) = kept_keeps s l.memory (settled c r l.memory) (settles s t c r l.memory p.0).keeps k in
        next_stands s t (past l r (c ∷ cs)) a kept p.1

replied_stays : (s : Scene) (t : ℕ) (l : Local) (r : Reply) → list_all (is_fit s t) l.calls ≡ true → (replied s t l r).memory.joinable ≡ l.memory.joinable
replied_stays s t l r h = go l.calls h
  where
    go : (cs : List Call) → list_all (is_fit s t) cs ≡ true → (past l r cs).memory.joinable ≡ l.memory.joinable
    go [] g = refl
    go (c ∷ cs) g = (settles s t c r l.memory (and_parts (is_fit s t c) (list_all (is_fit s t) cs) g).0).joinable

-- ---- where alternatives lead

answers_stand : (s : Scene) (t : ℕ) (l : Local) (fs : List Form) → IsKept s l.memory → AllSound s l.memory fs → list_all (is_fit s t) l.calls ≡ true → AllStand s t l.memory.joinable (map (λ f. record { form = f; next = says l }) fs)
answers_stand s t l [] k sound h = no_more
answers_stand s t l (f ∷ fs) k sound h = and_more (record { form = f; next = says l }) (map (λ g. record { form = g; next = says l }) fs)
    (record { plain = act_plain f sound.0.act; joins_ = act_joins l.memory.joinable f sound.0.act; stays = λ r. refl; stands = λ r w. record { memory = sound.0.keeps k; agenda = sound.0.nobody r w; calls = h } })
    (answers_stand s t l fs k sound.1 h)

-- what is kept stays, whomever the thread may join, and whatever turns it has
kept_still : (s : Scene) (m m' : Memory) → m'.kept ≡ m.kept → IsKept s m → IsKept s m'
kept_still s m m' e k = record {
  count = ap (λ (ks : List Kept). length ks) e ∙ k.count;
  free = λ n h. ap (λ (ks : List Kept). (kept_at ks n).levels) e ∙ k.free n h;
  unshared = λ n no_. ap (λ (ks : List Kept). (kept_at ks n).reads) e ∙ k.unshared n no_;
  launched = λ n. ap (λ (ks : List Kept). (kept_at ks n).is_launched) e ∙ k.launched n;
}

answered_stands : (s : Scene) (t : ℕ) (l : Local) (fs : Forms) → IsKept s l.memory → Answered s t l.memory fs → list_all (is_fit s t) l.calls ≡ true → AllStand s t l.memory.joinable (map (λ f. record { form = f; next = says l }) (forms_in fs))
answered_stands s t l fs k (asks fs' o) h = answers_stand s t l (forms_in fs) k o.sound h
answered_stands s t l fs k (starts u may) h = stand_two _ _
    (record { plain = refl; joins_ = tt; stays = λ r. refl; stands = λ r w. record { memory = kept_still s l.memory _ refl k; agenda = nobody_is replies.Ok r refl w; calls = h } })
    (record { plain = refl; joins_ = tt; stays = λ r. refl; stands = λ r w. record { memory = kept_still s l.memory _ refl k; agenda = nobody_is replies.NoThread r refl w; calls = h } })
answered_stands s t l fs k (joins u may) h = stand_one _ (record { plain = refl; joins_ = may.joinable; stays = λ r. refl; stands = λ r w. record { memory = kept_still s l.memory _ refl k; agenda = nobody_is replies.Ok r refl w; calls = h } })

-- ---- locks of several mutexes

stands_either : (s : Scene) (t : ℕ) (f : Form) (b : Bool) (k l : Local) → (b ≡ true → IsStanding s t (after_form s f k)) → (b ≡ false → IsStanding s t (after_form s f l)) → IsStanding s t (after_form s f (if b then k else l))
stands_either s t f true k l p q = p refl
stands_either s t f false k l p q = q refl

stays_either : (b : Bool) (k l : Local) (js : List ℕ) → k.memory.joinable ≡ js → l.memory.joinable ≡ js → (if b then k else l).memory.joinable ≡ js
stays_either true k l js p q = p
stays_either false k l js p q = q

still_locked : (s : Scene) (m m' : Memory) (os : List ℕ) (k : ℕ) → m'.kept ≡ m.kept → AreLocked s m os k → AreLocked s m' os k
still_locked s m m' os k e h = record { below = h.below; plain = h.plain; once = h.once; held = λ n among. ap (λ (ks : List Kept). (kept_at ks n).levels) e ∙ h.held n among }

-- after the first k are unlocked, others come
good_after : (s : Scene) (t : ℕ) (last : Bool) (m : Memory) (os : List ℕ) (k : ℕ) (task : Task) (ts : List Task) → IsKept s m → AreLocked s m os k → ((n : Memory) → AreHeld s n os [] → Good s t last n (task ∷ ts)) → Good s t last m ((unlocks (reverse (take k os)) ++ task ∷ []) ++ ts)
good_after s t last m os k task ts kept h then_ = subst (λ (us : List Task). Good s t last m us) (sym (append_assoc (unlocks (reverse (take k os))) (task ∷ []) ts)) (good_unlocks s t last os (reverse (take k os)) (task ∷ ts) m (held_first s m os k kept h) then_)

above_none : (a b : ℕ) → a < b → 0 < b
above_none a b h = omega (arith, h)

backs_stand : (s : Scene) (t : ℕ) (l : Local) (os : List ℕ) (k : ℕ) → IsKept s l.memory → 1 < length os → AreLocked s l.memory os k → list_all (is_fit s t) l.calls ≡ true → IsStanding s t (backs_off l os k)
backs_stand s t l os k kept many h calls = go (has_turns l)
  where
    again : IsStanding s t (goes (turned l) (unlocks (reverse (take k os)) ++ LocksFrom (drop k os ++ take k os) ∷ []))
    again = record {
      memory = kept_still s l.memory _ refl kept;
      agenda = good_after s t (is_last l.calls) (turned l).memory os k (LocksFrom (drop k os ++ take k os)) l.agenda (kept_still s l.memory _ refl kept) (still_locked s l.memory _ os k refl h) (λ n held. (turned_length os k many, locked_again s n os k h.once (above_none 1 (length os) many) held));
      calls = calls;
    }

    spent : IsStanding s t (goes l (unlocks (reverse (take k os)) ++ Says replies.Spent ∷ []))
    spent = record { memory = kept; agenda = good_after s t (is_last l.calls) l.memory os k (Says replies.Spent) l.agenda kept h (λ n held. refl); calls = calls }

    go : (b : Bool) → IsStanding s t (if b then goes (turned l) (unlocks (reverse (take k os)) ++ LocksFrom (drop k os ++ take k os) ∷ []) else goes l (unlocks (reverse (take k os)) ++ Says replies.Spent ∷ []))
    go true = again
    go false = spent

more_follow : (n k : ℕ) → k < n → (k + 1 == n) ≡ false → k + 1 < n
more_follow n k h e = let ne = eqb-false (k + 1) n e in grind (arith, h, ne)

one_first : (n : ℕ) → 1 < n → 0 + 1 < n
one_first n h = omega (arith, h)

stand_first : (s : Scene) (t : ℕ) (l : Local) (os : List ℕ) → IsKept s l.memory → 1 < length os → AreLocked s l.memory os 0 → list_all (is_fit s t) l.calls ≡ true → AllStand s t l.memory.joinable (alternatives s t l (LocksFrom os))
stand_first s t l os k many h calls =
    let o = mutex_at os 0 in
    let f = next_free s l.memory os 0 h in
    let lockable = plain_lockable (slice_get s.objects o.0) f.plain in
    stand_one _ (record {
      plain = refl;
      joins_ = tt;
      stays = λ r. refl;
      stands = λ r w. record {
        memory = (sound_lock s l.memory o lockable).keeps k;
        agenda = (many, locked_more s l.memory (acted l.memory o ops.Lock) os 0 h (gains_lock l.memory o (kept_within s l.memory o lockable k)) (one_first (length os) many));
        calls = calls;
      };
    })

-- the next is locked, or another thread has it
locked_fine : (s : Scene) (t : ℕ) (l : Local) (os : List ℕ) (n : ℕ) (says_ goes_ : Local) → says_.memory.joinable ≡ l.memory.joinable → goes_.memory.joinable ≡ l.memory.joinable → IsStanding s t (after_form s (change (mutex_at os n) ops.TryLock 0 replies.True) says_) → ((n + 1 == length os) ≡ false → IsStanding s t (after_form s (change (mutex_at os n) ops.TryLock 0 replies.True) goes_)) → IsFine s t l.memory.joinable (to (change (mutex_at os n) ops.TryLock 0 replies.True) (if n + 1 == length os then says_ else goes_))
locked_fine s t l os n says_ goes_ p q last more = record {
  plain = refl;
  joins_ = tt;
  stays = λ r. stays_either (n + 1 == length os) says_ goes_ l.memory.joinable p q;
  stands = λ r w. stands_either s t (change (mutex_at os n) ops.TryLock 0 replies.True) (n + 1 == length os) says_ goes_ (λ e. last) more;
}

stand_rest : (s : Scene) (t : ℕ) (l : Local) (os : List ℕ) (n : ℕ) → IsKept s l.memory → 1 < length os → AreLocked s l.memory os n → list_all (is_fit s t) l.calls ≡ true → AllStand s t l.memory.joinable (alternatives s t l (LocksRest os n))
stand_rest s t l os n k many h calls =
    let o = mutex_at os n in
    let f = next_free s l.memory os n h in
    let lockable = plain_lockable (slice_get s.objects o.0) f.plain in
    stand_two _ _
    (locked_fine s t l os n (says l replies.Ok) (goes l (LocksRest os (n + 1) ∷ [])) refl refl
    (record { memory = (sound_try s l.memory o lockable).keeps k; agenda = refl; calls = calls })
    (λ e. record {
      memory = (sound_try s l.memory o lockable).keeps k;
      agenda = (many, locked_more s l.memory (acted l.memory o ops.TryLock) os n h (gains_try l.memory o (kept_within s l.memory o lockable k)) (more_follow (length os) n h.below e));
      calls = calls;
    }))
    (record { plain = refl; joins_ = tt; stays = λ r. stays_either (has_turns l) _ _ l.memory.joinable refl refl; stands = λ r w. backs_stand s t l os n k many h calls })

stand_tries : (s : Scene) (t : ℕ) (l : Local) (os : List ℕ) (n : ℕ) → IsKept s l.memory → AreLocked s l.memory os n → list_all (is_fit s t) l.calls ≡ true → AllStand s t l.memory.joinable (alternatives s t l (TriesAll os n))
stand_tries s t l os n k h calls =
    let o = mutex_at os n in
    let f = next_free s l.memory os n h in
    let lockable = plain_lockable (slice_get s.objects o.0) f.plain in
    stand_two _ _
    (locked_fine s t l os n (says l (replies.Number (negsuc 0))) (goes l (TriesAll os (n + 1) ∷ [])) refl refl
    (record { memory = (sound_try s l.memory o lockable).keeps k; agenda = refl; calls = calls })
    (λ e. record {
      memory = (sound_try s l.memory o lockable).keeps k;
      agenda = locked_more s l.memory (acted l.memory o ops.TryLock) os n h (gains_try l.memory o (kept_within s l.memory o lockable k)) (more_follow (length os) n h.below e);
      calls = calls;
    }))
    (record { plain = refl; joins_ = tt; stays = λ r. refl; stands = λ r w. record { memory = k; agenda = good_after s t (is_last l.calls) l.memory os n (Says (replies.Number (pos n))) l.agenda k h (λ m held. refl); calls = calls } })

-- ---- barriers and once flags

-- an act whose forms are sound leads where the next task is served
act_fine : (s : Scene) (t : ℕ) (l : Local) (f : Form) (next : Reply → List Task) → IsKept s l.memory → IsSound s l.memory f → ((r : Reply) → is_word_of f r ≡ true → Good s t (is_last l.calls) (form_after s f l.memory) (next r ++ l.agenda)) → list_all (is_fit s t) l.calls ≡ true → IsFine s t l.memory.joinable (record { form = f; next = λ r. goes l (next r) })
act_fine s t l f next k sound good h = record {
  plain = act_plain f sound.act;
  joins_ = act_joins l.memory.joinable f sound.act;
  stays = λ r. refl;
  stands = λ r w. record { memory = sound.keeps k; agenda = good r w; calls = h };
}

stand_arrives : (s : Scene) (t : ℕ) (l : Local) (b : ObjectNo) (n : ℕ) → IsKept s l.memory → IsBarrier s b → 1 ≤ n → n ≤ 4096 → list_all (is_fit s t) l.calls ≡ true → AllStand s t l.memory.joinable (alternatives s t l (Arrives b n))
stand_arrives s t l b n k is some few h =
    let o = arrive s l.memory b n is some few in
    stand_two _ _
    (act_fine s t l (Change b ops.Arrive (pos n) (pos 0) ANumber) (λ p. Completes b false ∷ Says p ∷ []) k o.sound.0 (λ r w. (is, refl, λ m. o.sound.0.nobody r w)) h)
    (act_fine s t l (look b ops.Arrive n replies.OverExpected) (λ r. Says replies.OverExpected ∷ []) k o.sound.1.0 (λ r w. refl) h)

stand_waits : (s : Scene) (t : ℕ) (l : Local) (b : ObjectNo) → IsKept s l.memory → IsBarrier s b → list_all (is_fit s t) l.calls ≡ true → AllStand s t l.memory.joinable (alternatives s t l (ArrivesAndWaits b))
stand_waits s t l b k is h =
    let o = arrive s l.memory b 1 is (omega arith) (omega arith) in
    stand_two _ _
    (act_fine s t l (Change b ops.Arrive (pos 1) (pos 0) ANumber) (λ p. Completes b false ∷ one (Look b ops.Wait (number_of p) (pos 0) (Just replies.Ok)) ∷ Says replies.Ok ∷ []) k o.sound.0 (λ r w. (is, refl, λ m. (wait_phase s m b (number_of r) is, refl))) h)
    (act_fine s t l (look b ops.Arrive 1 replies.OverExpected) (λ r. Says replies.OverExpected ∷ []) k o.sound.1.0 (λ r w. refl) h)

stand_drops : (s : Scene) (t : ℕ) (l : Local) (b : ObjectNo) → IsKept s l.memory → IsBarrier s b → list_all (is_fit s t) l.calls ≡ true → AllStand s t l.memory.joinable (alternatives s t l (ArrivesAndDrops b))
stand_drops s t l b k is h =
    let o = drop_ s l.memory b is in
    stand_two _ _
    (act_fine s t l (Change b ops.Drop (pos 0) (pos 0) ANumber) (λ p. Completes b false ∷ Says replies.Ok ∷ []) k o.sound.0 (λ r w. (is, refl, λ m. refl)) h)
    (act_fine s t l (look b ops.Drop 0 replies.OverExpected) (λ r. Says replies.OverExpected ∷ []) k o.sound.1.0 (λ r w. refl) h)

-- after the completion's act the barrier is completed
stand_small : (s : Scene) (t : ℕ) (l : Local) (b : ObjectNo) (fs : List Form) → IsKept s l.memory → IsBarrier s b → AllSound s l.memory fs → ((n : Memory) → Good s t (is_last l.calls) n l.agenda) → list_all (is_fit s t) l.calls ≡ true → AllStand s t l.memory.joinable (map (λ f. to f (goes l (one (change b ops.Complete 0 replies.Ok) ∷ []))) fs)
stand_small s t l b [] k is sound then_ h = no_more
stand_small s t l b (f ∷ fs) k is sound then_ h = and_more (to f (goes l (one (change b ops.Complete 0 replies.Ok) ∷ []))) (map (λ g. to g (goes l (one (change b ops.Complete 0 replies.Ok) ∷ []))) fs)
    (act_fine s t l f (λ r. one (change b ops.Complete 0 replies.Ok) ∷ []) k sound.0 (λ r w. (complete s (form_after s f l.memory) b is, then_ (acted (form_after s f l.memory) b ops.Complete))) h)
    (stand_small s t l b fs k is sound.1 then_ h)

stand_completes : (s : Scene) (t : ℕ) (l : Local) (b : ObjectNo) (must : Bool) → IsKept s l.memory → IsBarrier s b → ((n : Memory) → Good s t (is_last l.calls) n l.agenda) → list_all (is_fit s t) l.calls ≡ true → AllStand s t l.memory.joinable (alternatives s t l (Completes b must))
stand_completes s t l b must k is then_ h = subst (λ (d : Option Object). AllStand s t l.memory.joinable (completion l b d)) (sym is.there) (go is.small (small_sound s l.memory is.small is.now is.on))
  where
    go : (small : Option Small) → SmallSound s l.memory small → AllStand s t l.memory.joinable (completion l b (Some (objects.Barrier is.count small)))
    go None sound = stand_one _ (act_fine s t l (change b ops.Complete 0 replies.Ok) (λ r. []) k (complete s l.memory b is).sound.0 (λ r w. then_ (form_after s (change b ops.Complete 0 replies.Ok) l.memory)) h)
    go (Some x) sound = stand_small s t l b (forms_in (small_forms x)) k is sound then_ h

stand_calls : (s : Scene) (t : ℕ) (l : Local) (o : ObjectNo) (f : Form) (r : Reply) → IsKept s l.memory → is_once (slice_get s.objects o.0) ≡ true → ((n : Memory) → Offered s n (f ∷ [])) → names_nobody r ≡ true → list_all (is_fit s t) l.calls ≡ true → AllStand s t l.memory.joinable (alternatives s t l (CallsOnce o f r))
stand_calls s t l o f r k is ends nobody h =
    let q = begin s l.memory o is in
    stand_two _ _
    (act_fine s t l (change o ops.Begin 0 replies.Ok) (λ p. one f ∷ Says r ∷ []) k q.sound.0 (λ p w. (ends (form_after s (change o ops.Begin 0 replies.Ok) l.memory), nobody)) h)
    (act_fine s t l (look o ops.Passive 0 replies.Ok) (λ p. Says replies.Passive ∷ []) k q.sound.1.0 (λ p w. refl) h)

-- ---- every task

stand : (s : Scene) (t : ℕ) (l : Local) (task : Task) → IsAskable s → IsKept s l.memory → Good s t (is_last l.calls) l.memory (task ∷ l.agenda) → list_all (is_fit s t) l.calls ≡ true → AllStand s t l.memory.joinable (alternatives s t l task)
stand s t l (Makes (One f)) a k g h = stand_one _ (record { plain = act_plain f g.0.sound.0.act; joins_ = act_joins l.memory.joinable f g.0.sound.0.act; stays = λ r. refl; stands = λ r w. record { memory = g.0.sound.0.keeps k; agenda = g.1; calls = h } })
stand s t l (Answers fs) a k g h = answered_stands s t l fs k g h
stand s t l (Says r) a k g h = stand_one _ (record { plain = refl; joins_ = tt; stays = λ q. replied_stays s t l q h; stands = λ q w. replied_stands s t l q a k h })
stand s t l (Arrives b n) a k g h = stand_arrives s t l b n k g.0 g.1 g.2 h
stand s t l (ArrivesAndWaits b) a k g h = stand_waits s t l b k g h
stand s t l (ArrivesAndDrops b) a k g h = stand_drops s t l b k g h
stand s t l (Completes b must) a k g h = stand_completes s t l b must k g.0 g.2 h
stand s t l (CallsOnce o f r) a k g h = stand_calls s t l o f r k g.0 g.1 g.2 h
stand s t l (LocksFrom os) a k g h = stand_first s t l os k g.0 g.1 h
stand s t l (LocksRest os n) a k g h = stand_rest s t l os n k g.0 g.1 h
stand s t l (TriesAll os n) a k g h = stand_tries s t l os n k g h
stand s t l _ a k g h = absurd g

stand_all : {s : Scene} {t : ℕ} {js : List ℕ} (xs ys : List Alternative) → AllStand s t js xs → AllStand s t js ys → AllStand s t js (xs ++ ys)
stand_all [] ys no_more later = later
stand_all (x ∷ xs) ys (and_more x' xs' fine rest) later = and_more x (xs ++ ys) fine (stand_all xs ys rest later)

pub stand_offered : (s : Scene) (t : ℕ) (l : Local) (ts : List Task) → IsAskable s → IsKept s l.memory → Good s t (is_last l.calls) l.memory ts → list_all (is_fit s t) l.calls ≡ true → AllStand s t l.memory.joinable (offered_by s t l ts)
stand_offered s t l [] a k g h = no_more
stand_offered s t l (Completes b false ∷ ts) a k g h = stand_all (alternatives s t (record l { agenda = ts }) (Completes b false)) (offered_by s t l ts) (stand_completes s t (record l { agenda = ts }) b false k g.0 g.2 h) (stand_offered s t l ts a k (g.2 l.memory) h)
stand_offered s t l (task ∷ ts) a k g h = stand s t (record l { agenda = ts }) task a k g h

-- ---- one item

stands_reached : (s : Scene) (t : ℕ) (js : List ℕ) (others : List Alternative) (x : Item) (k : Local) → AllStand s t js others → reached s others x ≡ Some k → IsStanding s t (record k { memory = remembering s k.memory x })
stands_reached s t js [] x k h e = cc
stands_reached s t js (a ∷ others) x k (and_more a' rest fine h) e = go (fits s a.form x) refl e (λ w. stands_reached s t js others x k h w)
  where
    go : (o : Option Reply) → fits s a.form x ≡ o → or_then (option_map a.next o) (reached s others x) ≡ Some k → (reached s others x ≡ Some k → IsStanding s t (record k { memory = remembering s k.memory x })) → IsStanding s t (record k { memory = remembering s k.memory x })
    go None p w later = later w
    go (Some r) p w later =
        let same : a.next r ≡ k = cc in
        let f = form_of_item s a.form x r fine.plain p in
        subst (λ (l : Local). IsStanding s t (record l { memory = remembering s l.memory x })) same
        (subst (λ (m : Memory). IsStanding s t (record (a.next r) { memory = m })) (sym (f.remembers (a.next r).memory)) (fine.stands r f.word))

-- a completion may be due
good_due : (s : Scene) (t : ℕ) (last : Bool) (m : Memory) (ts : List Task) → Good s t last m ts → Good s t last m (due ts)
good_due s t last m [] g = g
good_due s t last m (Completes b must ∷ ts) g = g
good_due s t last m (task ∷ ts) g = g

stands_due : (s : Scene) (t : ℕ) (b : Bool) (l : Local) → IsStanding s t l → IsStanding s t (with_due b l)
stands_due s t true l q = record { memory = q.memory; agenda = good_due s t (is_last l.calls) l.memory l.agenda q.agenda; calls = q.calls }
stands_due s t false l q = record { memory = q.memory; agenda = q.agenda; calls = q.calls }

pub stands_moved : (s : Scene) (completing : Bool) (t : ℕ) (l k : Local) (x : Item) → IsAskable s → IsStanding s t l → moved s completing t l x ≡ Some k → IsStanding s t k
stands_moved s completing t l k x a q h = go (reached s (offered s t l) x) refl h
  where
    go : (o : Option Local) → reached s (offered s t l) x ≡ o → option_map (with_item s completing x) o ≡ Some k → IsStanding s t k
    go None p w = cc
    go (Some m) p w =
        let r = stands_reached s t l.memory.joinable (offered s t l) x m (stand_offered s t l l.agenda a q.memory q.agenda q.calls) p in
        let same : with_item s completing x m ≡ k = cc in
        subst (IsStanding s t) same (stands_due s t completing (record m { memory = remembering s m.memory x }) r)
