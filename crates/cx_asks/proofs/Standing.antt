-- Where a thread may stand: what is left of its call is served, one task after the other, by what it keeps then.
use Rattle.std.proofs.Common.{◌≡◌, ℕ, suc, ◌+◌, ◌-◌, ◌<◌, ◌≤◌, Bool, true, false, List, [], ◌∷◌, ◌++◌, length, take, drop, slice_get, get_or, refl, sym, ap, ◌∙◌, subst, arith, ◌⊎◌, inl, inr, eqb-true, eq-eqb, length-append, take-append-drop}
use Rattle.std.specs.Prelude.{nat_eq, reverse}
use Rattle.std.specs.List.{list_all}
use Rattle.std.proofs.lemmas.Bool.{and_parts, cases_Bool}
use Rattle.std.proofs.lemmas.List.{take_more, reverse-append}
use Rattle.std.proofs.lemmas.List.Folds.{list_all-append}
use Rattle.std.proofs.lemmas.Option.{unwrap_or-slice_get}
use Rattle.cx_names.specs.declared.ObjectNo.{ObjectNo}
use Rattle.cx_names.specs.declared.ThreadNo.{ThreadNo}
use Rattle.cx_machine.specs.declared.kind.Op.TheVariants as ops
use Rattle.cx_machine.specs.Meaning.{bit, times, IsOnceEach}
use Rattle.cx_machine.specs.Distinct.{times-append}
use Rattle.cx_scene.specs.Scene.{Scene}
use Rattle.cx_items.specs.declared.item.Control.TheVariants as controls
use Rattle.cx_items.specs.declared.form.Form.TheVariants.{Does}
use Rattle.cx_items.specs.declared.form.Forms.{Forms}
use Rattle.cx_items.specs.declared.form.Forms.TheVariants.{One, Two}
use Rattle.cx_items.specs.declared.task.Task.{Task}
use Rattle.cx_items.specs.declared.task.Task.TheVariants.{Makes, Answers, Says, Arrives, ArrivesAndWaits, ArrivesAndDrops, Completes, CallsOnce, LocksFrom, LocksRest, TriesAll}
use Rattle.cx_items.specs.Form.{forms_in}
use Rattle.cx_items.specs.Memory.{Memory}
use Rattle.cx_items.specs.Next.{mutex_at, unlocks}
use Rattle.cx_asks.specs.Scenes.{is_plain, is_once}
use Rattle.cx_asks.specs.Offers.{names_nobody, MayStart, MayJoin}
use Rattle.cx_asks.proofs.Forms.{form_after}
use Rattle.cx_asks.proofs.Kept.{levels, acted, Gains, loses_unlock, IsKept, kept_loses}
use Rattle.cx_asks.proofs.Served.{Offered, plain_lockable, kept_within, unlock}
use Rattle.cx_asks.proofs.Arriving.{IsBarrier}

-- ---- locks of several mutexes

-- of these plain mutexes the first k are owned once, and the others aren't
pub record AreLocked (s : Scene) (m : Memory) (os : List ℕ) (k : ℕ) : Type 0 where
  pub below : k < length os
  pub plain : list_all (λ o. is_plain (slice_get s.objects o)) os ≡ true
  pub once : IsOnceEach os
  pub held : (n : ℕ) → 1 ≤ times n os → levels m n ≡ times n (take k os)

-- ---- agendas

-- the forms with which a call is answered: those of an ask, of a start, or of a join
pub data Answered (s : Scene) (t : ℕ) (m : Memory) : Forms → Type 0 where
  asks : (fs : Forms) → Offered s m (forms_in fs) → Answered s t m fs
  starts : (u : ThreadNo) → MayStart s t u → Answered s t m (Two (Does (controls.Start u true)) (Does (controls.Start u false)))
  joins : (u : ThreadNo) → MayJoin s t m u → Answered s t m (One (Does (controls.Join u)))

-- something other than a completion is next
abbrev pub is_more : List Task → Bool
is_more [] = false
is_more (Completes b must ∷ ts) = false
is_more (task ∷ ts) = true

-- each task is served by what is kept once those before it are done; where no call is left, they may come to no reply
abbrev pub Good : Scene → ℕ → Bool → Memory → List Task → Type 0
Good s t last m [] = last ≡ true
Good s t last m (Makes (One f) ∷ ts) = Offered s m (f ∷ []) × Good s t last (form_after s f m) ts
Good s t last m (Answers fs ∷ ts) = Answered s t m fs
Good s t last m (Says r ∷ ts) = names_nobody r ≡ true
Good s t last m (Arrives b n ∷ ts) = IsBarrier s b × (1 ≤ n) × (n ≤ 4096)
Good s t last m (ArrivesAndWaits b ∷ ts) = IsBarrier s b
Good s t last m (ArrivesAndDrops b ∷ ts) = IsBarrier s b
Good s t last m (Completes b must ∷ ts) = IsBarrier s b × (is_more ts ≡ true) × ((n : Memory) → Good s t last n ts)
Good s t last m (CallsOnce o f r ∷ ts) = (is_once (slice_get s.objects o.0) ≡ true) × ((n : Memory) → Offered s n (f ∷ [])) × (names_nobody r ≡ true)
Good s t last m (LocksFrom os ∷ ts) = (1 < length os) × AreLocked s m os 0
Good s t last m (LocksRest os k ∷ ts) = (1 < length os) × AreLocked s m os k
Good s t last m (TriesAll os k ∷ ts) = AreLocked s m os k
Good s t last m _ = ⊥

-- ---- the mutexes of a list

plain_among : (s : Scene) (n : ℕ) (os : List ℕ) → list_all (λ o. is_plain (slice_get s.objects o)) os ≡ true → 1 ≤ times n os → is_plain (slice_get s.objects n) ≡ true
plain_among s n [] h k = absurd (let no : ⊥ = omega (arith, k) in no)
plain_among s n (o ∷ os) h k =
    let p = and_parts (is_plain (slice_get s.objects o)) (list_all (λ x. is_plain (slice_get s.objects x)) os) h in
    go (cases_Bool (nat_eq o n)) p.0 (λ among. plain_among s n os p.1 among)
  where
    go : ((nat_eq o n ≡ true) ⊎ (nat_eq o n ≡ false)) → is_plain (slice_get s.objects o) ≡ true → (1 ≤ times n os → is_plain (slice_get s.objects n) ≡ true) → is_plain (slice_get s.objects n) ≡ true
    go (inl e) first rest = subst (λ (x : ℕ). is_plain (slice_get s.objects x) ≡ true) (eqb-true o n e) first
    go (inr e) first rest = let among : 1 ≤ 0 + times n os = rw e at k in rest (omega (arith, among))

bit_same : (n : ℕ) → bit (nat_eq n n) ≡ 1
bit_same n = let e : nat_eq n n ≡ true = eq-eqb n n refl in rw e refl

take_times : (n k : ℕ) (os : List ℕ) → times n (take k os) + times n (drop k os) ≡ times n os
take_times n k os = sym (times-append n (take k os) (drop k os)) ∙ ap (times n) (take-append-drop k os)

more_times : (n k : ℕ) (os : List ℕ) → k < length os → times n (take (k + 1) os) ≡ times n (take k os) + bit (nat_eq (mutex_at os k).0 n)
more_times n k os h =
    let head : get_or os k 0 ≡ (mutex_at os k).0 = sym (unwrap_or-slice_get os k 0) in
    let cut : take (k + 1) os ≡ take k os ++ (mutex_at os k).0 ∷ [] = take_more os k 0 h ∙ ap (λ (x : ℕ). take k os ++ x ∷ []) head in
    let sum = times-append n (take k os) ((mutex_at os k).0 ∷ []) in
    ap (times n) cut ∙ (sum ∙ plus_zero (times n (take k os)) (bit (nat_eq (mutex_at os k).0 n)))
  where
    plus_zero : (a b : ℕ) → a + (b + 0) ≡ a + b
    plus_zero a b = omega arith

-- the next mutex is among them, and isn't owned yet
pub record IsFree (s : Scene) (m : Memory) (os : List ℕ) (k : ℕ) : Type 0 where
  pub among : 1 ≤ times (mutex_at os k).0 os
  pub plain : is_plain (slice_get s.objects (mutex_at os k).0) ≡ true
  pub free : levels m (mutex_at os k).0 ≡ 0

among_sum : (a b c d : ℕ) → a ≡ b + 1 → a + c ≡ d → 1 ≤ d
among_sum a b c d h e = omega (arith, h, e)

free_sum : (a b c d l : ℕ) → a ≡ b + 1 → a + c ≡ d → d ≤ 1 → l ≡ b → l ≡ 0
free_sum a b c d l h e le is = omega (arith, h, e, le, is)

pub next_free : (s : Scene) (m : Memory) (os : List ℕ) (k : ℕ) → AreLocked s m os k → IsFree s m os k
next_free s m os k h =
    let o = (mutex_at os k).0 in
    let one : times o (take (k + 1) os) ≡ times o (take k os) + 1 = more_times o k os h.below ∙ ap (λ (b : ℕ). times o (take k os) + b) (bit_same o) in
    let all : times o (take (k + 1) os) + times o (drop (k + 1) os) ≡ times o os = take_times o (k + 1) os in
    let among : 1 ≤ times o os = among_sum (times o (take (k + 1) os)) (times o (take k os)) (times o (drop (k + 1) os)) (times o os) one all in
    record {
      among = among;
      plain = plain_among s o os h.plain among;
      free = free_sum (times o (take (k + 1) os)) (times o (take k os)) (times o (drop (k + 1) os)) (times o os) (levels m o) one all (h.once o) (h.held o among);
    }

-- one more is locked
pub locked_more : (s : Scene) (m m' : Memory) (os : List ℕ) (k : ℕ) → AreLocked s m os k → Gains m m' (mutex_at os k).0 → k + 1 < length os → AreLocked s m' os (k + 1)
locked_more s m m' os k h g below = record {
  below = below;
  plain = h.plain;
  once = h.once;
  held = λ n among. g.levels_are n ∙ (ap (λ (l : ℕ). l + bit (nat_eq (mutex_at os k).0 n)) (h.held n among) ∙ sym (more_times n k os h.below));
}

-- ---- unlocks

-- of these mutexes `us` are owned, each as often as it stands there
pub record AreHeld (s : Scene) (m : Memory) (os us : List ℕ) : Type 0 where
  pub kept : IsKept s m
  pub plain : list_all (λ o. is_plain (slice_get s.objects o)) os ≡ true
  pub within : (n : ℕ) → times n us ≤ times n os
  pub held : (n : ℕ) → 1 ≤ times n os → levels m n ≡ times n us

first_of : (a b : ℕ) → 1 + a ≤ b → 1 ≤ b
first_of a b h = omega (arith, h)

later_of : (a b c : ℕ) → a + b ≤ c → b ≤ c
later_of a b c h = omega (arith, h)

one_and : (l a b : ℕ) → l ≡ a + b → a ≡ 1 → l ≡ suc b
one_and l a b h k = omega (arith, h, k)

less_one : (l l' a b : ℕ) → l' ≡ l - a → l ≡ a + b → l' ≡ b
less_one l l' a b h k = omega (arith, h, k)

pub good_unlocks : (s : Scene) (t : ℕ) (last : Bool) (os us : List ℕ) (rest : List Task) (m : Memory) → AreHeld s m os us → ((n : Memory) → AreHeld s n os [] → Good s t last n rest) → Good s t last m (unlocks us ++ rest)
good_unlocks s t last os [] rest m h then_ = then_ m h
good_unlocks s t last os (u ∷ us) rest m h then_ =
    let o : ObjectNo = record { 0 = u } in
    let one : bit (nat_eq u u) ≡ 1 = bit_same u in
    let at_u : bit (nat_eq u u) + times u us ≤ times u os = h.within u in
    let among : 1 ≤ times u os = first_of (times u us) (times u os) (rw one at at_u) in
    let plain = plain_among s u os h.plain among in
    let own : levels m u ≡ suc (times u us) = one_and (levels m u) (bit (nat_eq u u)) (times u us) (h.held u among) one in
    let lockable = plain_lockable (slice_get s.objects u) plain in
    let l = loses_unlock m o (kept_within s m o lockable h.kept) in
    let there : AreHeld s (acted m o ops.Unlock) os us = record {
      kept = kept_loses s m (acted m o ops.Unlock) u l h.kept;
      plain = h.plain;
      within = λ n. later_of (bit (nat_eq u n)) (times n us) (times n os) (h.within n);
      held = λ n a. less_one (levels m n) (levels (acted m o ops.Unlock) n) (bit (nat_eq u n)) (times n us) (l.levels_are n) (h.held n a);
    } in
    (unlock s m o (times u us) lockable own, good_unlocks s t last os us rest (acted m o ops.Unlock) there then_)

times_reverse : (n : ℕ) (xs : List ℕ) → times n (reverse xs) ≡ times n xs
times_reverse n [] = refl
times_reverse n (x ∷ xs) = ap (times n) (reverse_step x xs) ∙ (times-append n (reverse xs) (x ∷ []) ∙ swap (times n (reverse xs)) (bit (nat_eq x n)) (times n xs) (times_reverse n xs))
  where
    reverse_step : (y : ℕ) (ys : List ℕ) → reverse (y ∷ ys) ≡ reverse ys ++ y ∷ []
    reverse_step y ys = reverse-append (y ∷ []) ys

    swap : (a b c : ℕ) → a ≡ c → a + (b + 0) ≡ b + c
    swap a b c h = omega (arith, h)

within_sum : (a b c : ℕ) → a + b ≡ c → a ≤ c
within_sum a b c h = omega (arith, h)

-- the first k, from the last on
pub held_first : (s : Scene) (m : Memory) (os : List ℕ) (k : ℕ) → IsKept s m → AreLocked s m os k → AreHeld s m os (reverse (take k os))
held_first s m os k kept h = record {
  kept = kept;
  plain = h.plain;
  within = λ n. subst (λ (x : ℕ). x ≤ times n os) (sym (times_reverse n (take k os))) (within_sum (times n (take k os)) (times n (drop k os)) (times n os) (take_times n k os));
  held = λ n among. h.held n among ∙ sym (times_reverse n (take k os));
}

-- once they are unlocked, they may be locked in another order
pub locked_again : (s : Scene) (m : Memory) (os : List ℕ) (k : ℕ) → IsOnceEach os → 0 < length os → AreHeld s m os [] → AreLocked s m (drop k os ++ take k os) 0
locked_again s m os k once some h = record {
  below = turned_some;
  plain = turned_plain;
  once = λ n. subst (λ (x : ℕ). x ≤ 1) (sym (turned_times n)) (once n);
  held = λ n among. h.held n (subst (λ (x : ℕ). 1 ≤ x) (turned_times n) among);
}
  where
    turned_times : (n : ℕ) → times n (drop k os ++ take k os) ≡ times n os
    turned_times n = let a = times-append n (drop k os) (take k os) in let b = take_times n k os in omega (arith, a, b)

    turned_length : length (drop k os ++ take k os) ≡ length os
    turned_length = length-append (drop k os) (take k os) ∙ (plus_swap (length (drop k os)) (length (take k os)) ∙ (sym (length-append (take k os) (drop k os)) ∙ ap (λ (xs : List ℕ). length xs) (take-append-drop k os)))
      where
        plus_swap : (a b : ℕ) → a + b ≡ b + a
        plus_swap a b = omega arith

    turned_some : 0 < length (drop k os ++ take k os)
    turned_some = subst (λ (x : ℕ). 0 < x) (sym turned_length) some

    turned_plain : list_all (λ o. is_plain (slice_get s.objects o)) (drop k os ++ take k os) ≡ true
    turned_plain =
        let whole : list_all (λ o. is_plain (slice_get s.objects o)) (take k os ++ drop k os) ≡ true = ap (list_all (λ o. is_plain (slice_get s.objects o))) (take-append-drop k os) ∙ h.plain in
        let p = and_parts (list_all (λ o. is_plain (slice_get s.objects o)) (take k os)) (list_all (λ o. is_plain (slice_get s.objects o)) (drop k os)) (sym (list_all-append (λ o. is_plain (slice_get s.objects o)) (take k os) (drop k os)) ∙ whole) in
        list_all-append (λ o. is_plain (slice_get s.objects o)) (drop k os) (take k os) ∙ rw (p.1, p.0) refl

pub turned_length : (os : List ℕ) (k : ℕ) → 1 < length os → 1 < length (drop k os ++ take k os)
turned_length os k h =
    let a = length-append (drop k os) (take k os) in
    let b : length (take k os ++ drop k os) ≡ length os = ap (λ (xs : List ℕ). length xs) (take-append-drop k os) in
    let c = length-append (take k os) (drop k os) in
    omega (arith, h, a, b, c)
