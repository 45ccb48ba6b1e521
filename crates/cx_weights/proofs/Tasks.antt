-- What each task leads to is lighter, by each of its forms.
use Rattle.std.proofs.Common.{◌≡◌, ℕ, suc, ◌+◌, ◌-◌, ◌*◌, ◌<◌, ◌≤◌, ◌==◌, ◌&&◌, not, nat_lt, pos, negsuc, Bool, true, false, List, [], ◌∷◌, ◌++◌, length, drop, take, reverse, Option, Some, slice_get, if◌then◌else◌, refl, sym, ap, ◌∙◌, subst, append-nil, length-append, length-drop, length-take-le, arith, ltb-true, lt-ltb}
use Rattle.std.specs.List.{list_all}
use Rattle.std.proofs.lemmas.Bool.{and_parts, eqb-false}
use Rattle.std.proofs.lemmas.List.{length-reverse}
use Rattle.cx_names.specs.declared.ObjectNo.{ObjectNo}
use Rattle.cx_names.specs.declared.Reply.{Reply}
use Rattle.cx_names.specs.declared.Reply.TheVariants as replies
use Rattle.cx_machine.specs.declared.kind.Op.TheVariants as ops
use Rattle.cx_scene.specs.declared.declared.Object.{Object}
use Rattle.cx_scene.specs.declared.declared.Object.TheVariants as objects
use Rattle.cx_scene.specs.declared.declared.Small.TheVariants as smalls
use Rattle.cx_scene.specs.declared.declared.Policy.TheVariants as policies
use Rattle.cx_scene.specs.declared.call.Call.{Call}
use Rattle.cx_scene.specs.declared.call.Predicate.{Predicate}
use Rattle.cx_scene.specs.Scene.{Scene}
use Rattle.cx_items.specs.declared.form.Wanted.TheVariants.{Just}
use Rattle.cx_items.specs.declared.form.Form.{Form}
use Rattle.cx_items.specs.declared.form.Form.TheVariants.{Change, Look, Begin}
use Rattle.cx_items.specs.declared.form.Forms.TheVariants.{One, Two, Three}
use Rattle.cx_items.specs.declared.task.StopWait.{StopWait}
use Rattle.cx_items.specs.declared.task.Task.{Task}
use Rattle.cx_items.specs.declared.task.Task.TheVariants.{Makes, Answers, Says, Arrives, ArrivesAndWaits, ArrivesAndDrops, Completes, CallsOnce, LocksFrom, LocksRest, TriesAll, Tests, RegistersWait, AsksStop, TestsStop, TestsLast, AsksAgain, Requests, Drains, Registers, Launches}
use Rattle.cx_items.specs.Form.{change, is_number}
use Rattle.cx_items.specs.Memory.{Memory, settled}
use Rattle.cx_items.specs.Calls.{one, waits, end_tasks}
use Rattle.cx_items.specs.Next.{Local, Alternative, goes, says, has_turns, turned, begun, replied, callback_tasks, passes, ends, enters, unlocks, completion, alternatives, offered_by}
use Rattle.cx_weights.specs.Weights.{form_weight, locks_weight, agenda_weight, levels, end_weight, later_weight, weight, is_sized_call, is_sized, IsSized, is_true_look}
use Rattle.cx_weights.proofs.Plain.{plain_callback, plain_unlocks, plain_end, plain_then, sized_then}
use Rattle.cx_weights.proofs.Opening.{opens_call}
use Rattle.cx_weights.proofs.Memory.{keeps_settled}

-- a `begin` of a callback is paid for by its registration
abbrev pub form_earns : Form → ℕ
form_earns (Begin st) = 4
form_earns _ = 0

-- the word that such a form leaves open, where looks at stops are true
abbrev pub suits : (ℕ → Bool) → Form → Reply → Bool
suits asked (Begin st) q = is_number q
suits asked (Look o op a b (Just r)) q = is_true_look op r (asked o.0)
suits asked f q = true

-- by this form it comes to k, where n was
pub record IsLess (s : Scene) (asked : ℕ → Bool) (n : ℕ) (f : Form) (k : Local) : Type 0 where
  pub less : weight s asked k + form_weight f ≤ n + form_earns f
  pub sized : IsSized k

pub data AllLess (s : Scene) (asked : ℕ → Bool) (n : ℕ) : List Alternative → Type 0 where
  no_more : AllLess s asked n []
  and_more : (a : Alternative) (others : List Alternative) → ((q : Reply) → suits asked a.form q ≡ true → IsLess s asked n a.form (a.next q)) → AllLess s asked n others → AllLess s asked n (a ∷ others)

less_one : {s : Scene} {asked : ℕ → Bool} {n : ℕ} (a : Alternative) → ((q : Reply) → suits asked a.form q ≡ true → IsLess s asked n a.form (a.next q)) → AllLess s asked n (a ∷ [])
less_one a h = and_more a [] h no_more

less_two : {s : Scene} {asked : ℕ → Bool} {n : ℕ} (a b : Alternative) → ((q : Reply) → suits asked a.form q ≡ true → IsLess s asked n a.form (a.next q)) → ((q : Reply) → suits asked b.form q ≡ true → IsLess s asked n b.form (b.next q)) → AllLess s asked n (a ∷ b ∷ [])
less_two a b h k = and_more a (b ∷ []) h (less_one b k)

less_three : {s : Scene} {asked : ℕ → Bool} {n : ℕ} (a b c : Alternative) → ((q : Reply) → suits asked a.form q ≡ true → IsLess s asked n a.form (a.next q)) → ((q : Reply) → suits asked b.form q ≡ true → IsLess s asked n b.form (b.next q)) → ((q : Reply) → suits asked c.form q ≡ true → IsLess s asked n c.form (c.next q)) → AllLess s asked n (a ∷ b ∷ c ∷ [])
less_three a b c h k m = and_more a (b ∷ c ∷ []) h (less_two b c k m)

-- what a task must show: l is where the thread stands with it done, n what it weighs with the task
abbrev CallsSized : Local → Type 0
CallsSized l = list_all is_sized_call l.calls ≡ true

-- ---- sums over plain numbers

both_sides : (w f e : ℕ) → w + f ≤ (f + w) + e
both_sides w f e = omega arith

first_of_two : (w f g e : ℕ) → w + f ≤ ((f + g) + w) + e
first_of_two w f g e = omega arith

second_of_two : (w f g e : ℕ) → w + g ≤ ((f + g) + w) + e
second_of_two w f g e = omega arith

first_of_three : (w f g h e : ℕ) → w + f ≤ (((f + g) + h) + w) + e
first_of_three w f g h e = omega arith

second_of_three : (w f g h e : ℕ) → w + g ≤ (((f + g) + h) + w) + e
second_of_three w f g h e = omega arith

third_of_three : (w f g h e : ℕ) → w + h ≤ (((f + g) + h) + w) + e
third_of_three w f g h e = omega arith

answer_one : (x f e : ℕ) → (1 + x) + f ≤ ((f + 1) + x) + e
answer_one x f e = omega arith

answer_first : (x f g e : ℕ) → (1 + x) + f ≤ (((f + g) + 1) + x) + e
answer_first x f g e = omega arith

answer_second : (x f g e : ℕ) → (1 + x) + g ≤ (((f + g) + 1) + x) + e
answer_second x f g e = omega arith

answer_a : (x f g h e : ℕ) → (1 + x) + f ≤ ((((f + g) + h) + 1) + x) + e
answer_a x f g h e = omega arith

answer_b : (x f g h e : ℕ) → (1 + x) + g ≤ ((((f + g) + h) + 1) + x) + e
answer_b x f g h e = omega arith

answer_c : (x f g h e : ℕ) → (1 + x) + h ≤ ((((f + g) + h) + 1) + x) + e
answer_c x f g h e = omega arith

-- so many and so many are no more than so many
fall : (a f b x : ℕ) → a + f ≤ b → (a + x) + f ≤ (b + x) + 0
fall a f b x h = omega arith

fall_two : (a b f c x : ℕ) → a + b + f ≤ c → (a + (b + x)) + f ≤ (c + x) + 0
fall_two a b f c x h = omega arith

fall_three : (a b d f c x : ℕ) → a + b + d + f ≤ c → (a + (b + (d + x))) + f ≤ (c + x) + 0
fall_three a b d f c x h = omega arith

once_falls : (f x : ℕ) → (f + (1 + x)) + 1 ≤ ((f + 2) + x) + 0
once_falls f x = omega arith

passive_falls : (f x : ℕ) → (1 + x) + 1 ≤ ((f + 2) + x) + 0
passive_falls f x = omega arith

-- ---- turns

turn_left : (n x : ℕ) → n < 16384 → ((16384 - (n + 1)) * 16 + x) + 16 ≤ (16384 - n) * 16 + x
turn_left n x h = omega arith

turned_falls : (s : Scene) (l : Local) → has_turns l ≡ true → later_weight s (turned l) + 16 ≤ later_weight s l
turned_falls s l h = turn_left l.memory.turns (levels l.memory.kept + (end_weight s + 19 * length (drop 1 l.calls))) (ltb-true l.memory.turns 16384 h)

turn_over : (n x : ℕ) → (16384 - (n + 1)) * 16 + x ≤ (16384 - n) * 16 + x
turn_over n x = omega arith

turned_no_more : (s : Scene) (l : Local) → later_weight s (turned l) ≤ later_weight s l
turned_no_more s l = turn_over l.memory.turns (levels l.memory.kept + (end_weight s + 19 * length (drop 1 l.calls)))

-- ---- replies

pub ends_light : (s : Scene) (asked : ℕ → Bool) (more : Bool) (later : ℕ) (t : ℕ) (m : Memory) → agenda_weight asked more later (end_tasks s t m) ≤ levels m.kept + end_weight s
ends_light s asked more later t m =
    let whole = append-nil (end_tasks s t m) in
    let p = (plain_end s t m).weighs asked more later [] in
    let q : agenda_weight asked more later (end_tasks s t m) ≤ (levels m.kept + end_weight s) + 0 = subst (λ ts. agenda_weight asked more later ts ≤ (levels m.kept + end_weight s) + 0) whole p in
    omega (arith, q)

pub ends_sized : (s : Scene) (t : ℕ) (m : Memory) → is_sized (end_tasks s t m) ≡ true
ends_sized s t m = ap is_sized (sym (append-nil (end_tasks s t m))) ∙ (plain_end s t m).sizes []

end_fits : (a t v e : ℕ) → a ≤ v + e → a ≤ t + (v + (e + 19 * 0))
end_fits a t v e h = omega arith

end_fits_after : (a t v w e : ℕ) → a ≤ w + e → w ≤ v + 0 → a ≤ t + (v + (e + 19 * 0))
end_fits_after a t v w e h k = omega arith

call_fits : (a t u v w e n : ℕ) → a ≤ 19 + ((16384 - u) * 16 + (w + (e + 19 * n))) → u ≡ t → w ≤ v + 0 → a ≤ (16384 - t) * 16 + (v + (e + 19 * suc n))
call_fits a t u v w e n h same k =
    let i : a ≤ 19 + ((16384 - t) * 16 + (w + (e + 19 * n))) = subst (λ z. a ≤ 19 + ((16384 - z) * 16 + (w + (e + 19 * n)))) same h in
    call_fits_there a ((16384 - t) * 16) v w e n i k
  where
    call_fits_there : (a y v w e n : ℕ) → a ≤ 19 + (y + (w + (e + 19 * n))) → w ≤ v + 0 → a ≤ y + (v + (e + 19 * suc n))
    call_fits_there a y v w e n h k = omega arith

abbrev place : Memory → List Task → List Call → ℕ → Local
place m ts cs n = record { memory = m; agenda = ts; calls = cs; number = n }

record Replies (s : Scene) (asked : ℕ → Bool) (l k : Local) : Type 0 where
  pub light : weight s asked k ≤ later_weight s l
  pub sized : IsSized k

after_reply : (s : Scene) (asked : ℕ → Bool) (t : ℕ) (q : Reply) (m : Memory) (ts : List Task) (n : ℕ) (cs : List Call) → list_all is_sized_call cs ≡ true → Replies s asked (place m ts cs n) (replied s t (place m ts cs n) q)
after_reply s asked t q m ts n [] h = record {
  light = end_fits (weight s asked (replied s t (place m ts [] n) q)) ((16384 - m.turns) * 16) (levels m.kept) (end_weight s) (ends_light s asked (nat_lt m.turns 16384) (later_weight s (place m ts [] n)) t m);
  sized = record { agenda = ends_sized s t m; calls = refl };
}
after_reply s asked t q m ts n (c ∷ []) h =
    let m' = settled c q m in
    let kept = keeps_settled c q m in
    record {
      light = end_fits_after (weight s asked (replied s t (place m ts (c ∷ []) n) q)) ((16384 - m.turns) * 16) (levels m.kept) (levels m'.kept) (end_weight s) (ends_light s asked (nat_lt m'.turns 16384) (later_weight s (place m' ts [] (n + 1))) t m') kept.more;
      sized = record { agenda = ends_sized s t m'; calls = refl };
    }
after_reply s asked t q m ts n (c ∷ d ∷ ds) h =
    let m' = settled c q m in
    let kept = keeps_settled c q m in
    let p = and_parts (is_sized_call c) (list_all is_sized_call (d ∷ ds)) h in
    let first = and_parts (is_sized_call d) (list_all is_sized_call ds) p.1 in
    let o = opens_call s t (n + 1) m' d first.0 in
    record {
      light = call_fits (weight s asked (replied s t (place m ts (c ∷ d ∷ ds) n) q)) m.turns m'.turns (levels m.kept) (levels m'.kept) (end_weight s) (length ds) (o.weighs asked (nat_lt m'.turns 16384) (later_weight s (place m' ts (d ∷ ds) (n + 1)))) kept.turns kept.more;
      sized = record { agenda = o.sizes; calls = p.1 };
    }

said : (a x : ℕ) → a ≤ x → a + 1 ≤ (1 + x) + 0
said a x h = omega arith

less_says : (s : Scene) (asked : ℕ → Bool) (t : ℕ) (l : Local) (r : Reply) → CallsSized l → AllLess s asked (1 + later_weight s l) (alternatives s t l (Says r))
less_says s asked t l r h = less_one _ (λ q k. let a = after_reply s asked t q l.memory l.agenda l.number l.calls h in record { less = said (weight s asked (replied s t l q)) (later_weight s l) a.light; sized = a.sized })

-- ---- a completion

complete_falls : (w : ℕ) → w + 1 ≤ (3 + w) + 0
complete_falls w = omega arith

completes_later : (s : Scene) (asked : ℕ → Bool) (l : Local) (b : ObjectNo) → IsSized l → IsSized (goes l (one (change b ops.Complete 0 replies.Ok) ∷ []))
completes_later s asked l b h = record { agenda = h.agenda; calls = h.calls }

less_completion : (s : Scene) (asked : ℕ → Bool) (l : Local) (b : ObjectNo) (d : Option Object) → IsSized l → AllLess s asked (3 + weight s asked l) (completion l b d)
less_completion s asked l b (Some (objects.Barrier count (Some (smalls.Release q n)))) h = less_two _ _ (λ r k. record { less = fall 1 1 3 (weight s asked l) (omega arith); sized = completes_later s asked l b h }) (λ r k. record { less = fall 1 1 3 (weight s asked l) (omega arith); sized = completes_later s asked l b h })
less_completion s asked l b (Some (objects.Barrier count (Some (smalls.NotifyOne q)))) h = less_one _ (λ r k. record { less = fall 1 1 3 (weight s asked l) (omega arith); sized = completes_later s asked l b h })
less_completion s asked l b (Some (objects.Barrier count (Some (smalls.NotifyAll q)))) h = less_one _ (λ r k. record { less = fall 1 1 3 (weight s asked l) (omega arith); sized = completes_later s asked l b h })
less_completion s asked l b _ h = less_one _ (λ r k. record { less = complete_falls (weight s asked l); sized = h })

-- ---- locks of several mutexes

locks_from : (n x : ℕ) → 1 < n → ((3 * (n - 1) + 1 + 2) + x) + 2 ≤ ((3 * n + 2) + x) + 0
locks_from n x h = omega arith

rest_last : (n k x : ℕ) → k < n → (1 + x) + 2 ≤ ((3 * (n - k) + k + 2) + x) + 0
rest_last n k x h = omega arith

rest_more : (n k x : ℕ) → k + 1 < n → ((3 * (n - (k + 1)) + (k + 1) + 2) + x) + 2 ≤ ((3 * (n - k) + k + 2) + x) + 0
rest_more n k x h = omega arith

backs_with_turn : (w u v n k y x : ℕ) → w ≤ u + ((3 * v + 2) + y) → u ≡ k → v ≡ n → k < n → n < 6 → y + 16 ≤ x → w + 1 ≤ ((3 * (n - k) + k + 2) + x) + 0
backs_with_turn w u v n k y x h a b c d e = omega arith

backs_and_says : (w u n k x : ℕ) → w ≤ u + (1 + x) → u ≡ k → k < n → w + 1 ≤ ((3 * (n - k) + k + 2) + x) + 0
backs_and_says w u n k x h a c = omega arith

more_follow : (n k : ℕ) → k < n → (k + 1 ≡ n → ⊥) → k + 1 < n
more_follow n k h ne = grind (arith, h, ne)

undone_length : (os : List ℕ) (k : ℕ) → k < length os → length (reverse (take k os)) ≡ k
undone_length os k h = length-reverse (take k os) ∙ length-take-le k os (omega arith)

turned_round : (os : List ℕ) (k : ℕ) → k < length os → length (drop k os ++ take k os) ≡ length os
turned_round os k h = length-append (drop k os) (take k os) ∙ omega (arith, length-drop k os, length-take-le k os (omega arith))

record Sides (os : List ℕ) (k : ℕ) : Type 0 where
  pub below : k < length os
  pub few : length os < 6
  pub few_too : nat_lt (length os) 6 ≡ true

sides : (os : List ℕ) (k : ℕ) → (nat_lt k (length os) && nat_lt (length os) 6) ≡ true → Sides os k
sides os k h = let p = and_parts (nat_lt k (length os)) (nat_lt (length os) 6) h in record { below = ltb-true k (length os) p.0; few = ltb-true (length os) 6 p.1; few_too = p.1 }

sized_when : (k n : ℕ) → k < n → nat_lt n 6 ≡ true → (nat_lt k n && nat_lt n 6) ≡ true
sized_when k n h few = rw (lt-ltb k n h, few) refl

-- one more is locked, and it was the last or not; the next are `then_ (k + 1)`
record Goes_on (s : Scene) (asked : ℕ → Bool) (n : ℕ) (k : Local) : Type 0 where
  pub less : weight s asked k + 2 ≤ n + 0
  pub sized : IsSized k

less_locked : (s : Scene) (asked : ℕ → Bool) (l : Local) (os : List ℕ) (k : ℕ) (r : Reply) (b : Bool) → nat_lt 1 (length os) ≡ true → CallsSized l → Sides os k → (k + 1 == length os) ≡ b → Goes_on s asked (locks_weight (length os) k + later_weight s l) (if b then says l r else goes l (LocksRest os (k + 1) ∷ []))
less_locked s asked l os k r true two h z e = record { less = rest_last (length os) k (later_weight s l) z.below; sized = record { agenda = refl; calls = h } }
less_locked s asked l os k r false two h z e =
    let next = more_follow (length os) k z.below (eqb-false (k + 1) (length os) e) in
    record { less = rest_more (length os) k (later_weight s l) next; sized = record { agenda = rw two (sized_when (k + 1) (length os) next z.few_too); calls = h } }

less_tried : (s : Scene) (asked : ℕ → Bool) (l : Local) (os : List ℕ) (k : ℕ) (r : Reply) (b : Bool) → CallsSized l → Sides os k → (k + 1 == length os) ≡ b → Goes_on s asked (locks_weight (length os) k + later_weight s l) (if b then says l r else goes l (TriesAll os (k + 1) ∷ []))
less_tried s asked l os k r true h z e = record { less = rest_last (length os) k (later_weight s l) z.below; sized = record { agenda = refl; calls = h } }
less_tried s asked l os k r false h z e =
    let next = more_follow (length os) k z.below (eqb-false (k + 1) (length os) e) in
    record { less = rest_more (length os) k (later_weight s l) next; sized = record { agenda = sized_when (k + 1) (length os) next z.few_too; calls = h } }

record Steps_back (s : Scene) (asked : ℕ → Bool) (n : ℕ) (k : Local) : Type 0 where
  pub less : weight s asked k + 1 ≤ n + 0
  pub sized : IsSized k

-- the k mutexes are unlocked, and it replies
less_given_up : (s : Scene) (asked : ℕ → Bool) (l : Local) (os : List ℕ) (k : ℕ) (r : Reply) → CallsSized l → Sides os k → Steps_back s asked (locks_weight (length os) k + later_weight s l) (goes l (unlocks (reverse (take k os)) ++ Says r ∷ []))
less_given_up s asked l os k r h z =
    let undone = reverse (take k os) in
    let p = plain_unlocks undone in
    record {
      less = backs_and_says (weight s asked (goes l (unlocks undone ++ Says r ∷ []))) (length undone) (length os) k (later_weight s l) (plain_then (unlocks undone) (Says r ∷ []) l.agenda (length undone) p asked (has_turns l) (later_weight s l)) (undone_length os k z.below) z.below;
      sized = record { agenda = sized_then (unlocks undone) (Says r ∷ []) l.agenda (length undone) p; calls = h };
    }

less_backs_off : (s : Scene) (asked : ℕ → Bool) (l : Local) (os : List ℕ) (k : ℕ) (b : Bool) → 1 < length os → CallsSized l → Sides os k → has_turns l ≡ b → Steps_back s asked (locks_weight (length os) k + later_weight s l) (if b then goes (turned l) (unlocks (reverse (take k os)) ++ LocksFrom (drop k os ++ take k os) ∷ []) else goes l (unlocks (reverse (take k os)) ++ Says replies.Spent ∷ []))
less_backs_off s asked l os k false two h z e = less_given_up s asked l os k replies.Spent h z
less_backs_off s asked l os k true two h z e =
    let undone = reverse (take k os) in
    let round = drop k os ++ take k os in
    let p = plain_unlocks undone in
    let same = turned_round os k z.below in
    let again : (nat_lt 1 (length round) && nat_lt (length round) 6) ≡ true = rw same (sized_when 1 (length os) two z.few_too) in
    record {
      less = backs_with_turn (weight s asked (goes (turned l) (unlocks undone ++ LocksFrom round ∷ []))) (length undone) (length round) (length os) k (later_weight s (turned l)) (later_weight s l) (plain_then (unlocks undone) (LocksFrom round ∷ []) l.agenda (length undone) p asked (has_turns (turned l)) (later_weight s (turned l))) (undone_length os k z.below) same z.below z.few (turned_falls s l e);
      sized = record { agenda = sized_then (unlocks undone) (LocksFrom round ∷ []) l.agenda (length undone) p ∙ again; calls = h };
    }

-- ---- a wait with a test

test_falls : (x y : ℕ) → y + 16 ≤ x → (1 + (1 + (1 + (2 + (2 + y))))) + 1 ≤ (2 + x) + 0
test_falls x y h = omega arith

less_test : (s : Scene) (asked : ℕ → Bool) (l : Local) (c m : ObjectNo) (p : Predicate) (passed b : Bool) → CallsSized l → has_turns l ≡ b → Steps_back s asked (2 + later_weight s l) (if passed then says l replies.True else if b then goes (turned l) (waits s c m ++ Tests c m p ∷ []) else says l replies.Spent)
less_test s asked l c m p true b h e = record { less = fall 1 1 2 (later_weight s l) (omega arith); sized = record { agenda = refl; calls = h } }
less_test s asked l c m p false true h e = record { less = test_falls (later_weight s l) (later_weight s (turned l)) (turned_falls s l e); sized = record { agenda = refl; calls = h } }
less_test s asked l c m p false false h e = record { less = fall 1 1 2 (later_weight s l) (omega arith); sized = record { agenda = refl; calls = h } }

-- ---- a stop-aware wait

ends_falls : (s : Scene) (asked : ℕ → Bool) (l : Local) (w : StopWait) (r : Reply) (b : Bool) → w.queued ≡ b → CallsSized l → (weight s asked (ends l w r) ≤ 3 + later_weight s l) × IsSized (ends l w r)
ends_falls s asked l w r true e h = (rw e (three_at_most (later_weight s l)), record { agenda = rw e refl; calls = h })
  where
    three_at_most : (x : ℕ) → 2 + (1 + x) ≤ 3 + x
    three_at_most x = omega arith
ends_falls s asked l w r false e h = (rw e (one_at_most (later_weight s l)), record { agenda = rw e refl; calls = h })
  where
    one_at_most : (x : ℕ) → 1 + x ≤ 3 + x
    one_at_most x = omega arith

end_steps : (a c x : ℕ) → 4 ≤ c → a ≤ 3 + x → a + 1 ≤ (c + x) + 0
end_steps a c x k h = omega arith

less_ends : (s : Scene) (asked : ℕ → Bool) (l : Local) (w : StopWait) (r : Reply) (c : ℕ) → 4 ≤ c → CallsSized l → Steps_back s asked (c + later_weight s l) (ends l w r)
less_ends s asked l w r c k h = let p = ends_falls s asked l w r w.queued refl h in record { less = end_steps (weight s asked (ends l w r)) c (later_weight s l) k p.0; sized = p.1 }

enters_falls : (x : ℕ) → (1 + (1 + (10 + x))) + 1 ≤ (13 + x) + 0
enters_falls x = omega arith

less_stop_test : (s : Scene) (asked : ℕ → Bool) (l : Local) (w : StopWait) (passed b : Bool) → CallsSized l → has_turns l ≡ b → Steps_back s asked (13 + later_weight s l) (if passed then ends l w replies.True else if b then enters l w else ends l w replies.Spent)
less_stop_test s asked l w true b h e = less_ends s asked l w replies.True 13 (omega arith) h
less_stop_test s asked l w false true h e = record { less = rw e (enters_falls (later_weight s l)); sized = record { agenda = refl; calls = h } }
less_stop_test s asked l w false false h e = less_ends s asked l w replies.Spent 13 (omega arith) h

asks_falls : (b : Bool) (x f c : ℕ) → 14 + f ≤ c → ((if b then 5 else 14) + x) + f ≤ (c + x) + 0
asks_falls true x f c h = omega arith
asks_falls false x f c h = omega arith

asks_after_callback : (b : Bool) (a x : ℕ) → a ≤ 2 + (1 + ((if b then 5 else 14) + x)) → a + 1 ≤ (19 + x) + 0
asks_after_callback true a x h = omega arith
asks_after_callback false a x h = omega arith

last_falls : (b : Bool) (x : ℕ) → (4 + x) + 1 ≤ ((if b then 5 else 14) + x) + 0
last_falls true x = omega arith
last_falls false x = omega arith

tests_falls : (b : Bool) (x : ℕ) → not b ≡ true → (13 + x) + 1 ≤ ((if b then 5 else 14) + x) + 0
tests_falls true x h = cc
tests_falls false x h = omega arith

withdraws_falls : (b more : Bool) (x : ℕ) → b ≡ true → (2 + (2 + ((if b then 5 else 14) + x))) + 1 ≤ ((if more then 10 else 18) + x) + 0
withdraws_falls true true x h = omega arith
withdraws_falls true false x h = omega arith
withdraws_falls false more x h = cc

wakes_with_turn : (b : Bool) (x y : ℕ) → y + 16 ≤ x → (1 + (2 + ((if b then 5 else 14) + y))) + 1 ≤ (10 + x) + 0
wakes_with_turn true x y h = omega arith
wakes_with_turn false x y h = omega arith

wakes_without : (b : Bool) (x y : ℕ) → y ≤ x → (1 + (2 + ((if b then 5 else 14) + y))) + 1 ≤ (18 + x) + 0
wakes_without true x y h = omega arith
wakes_without false x y h = omega arith

wakes_falls : (s : Scene) (l : Local) (b more : Bool) → has_turns l ≡ more → (1 + (2 + ((if b then 5 else 14) + later_weight s (turned l)))) + 1 ≤ ((if more then 10 else 18) + later_weight s l) + 0
wakes_falls s l b true e = wakes_with_turn b (later_weight s l) (later_weight s (turned l)) (turned_falls s l e)
wakes_falls s l b false e = wakes_without b (later_weight s l) (later_weight s (turned l)) (turned_no_more s l)

-- ---- requests and registrations

less_word : (s : Scene) (asked : ℕ → Bool) (l : Local) (has_reply : Bool) (r : Reply) (c : ℕ) → 2 ≤ c → (if has_reply then true else is_sized l.agenda) ≡ true → CallsSized l → Steps_back s asked (c + (if has_reply then later_weight s l else weight s asked l)) (goes l (if has_reply then Says r ∷ [] else []))
less_word s asked l true r c k z h = record { less = fall 1 1 c (later_weight s l) k; sized = record { agenda = refl; calls = h } }
less_word s asked l false r c k z h = record { less = word_falls c (weight s asked l) k; sized = record { agenda = z; calls = h } }
  where
    word_falls : (c w : ℕ) → 2 ≤ c → w + 1 ≤ (c + w) + 0
    word_falls c w k = omega arith

begins : (a x : ℕ) → a ≤ 2 + (1 + (2 + x)) → a + 1 ≤ (2 + x) + 4
begins a x h = omega arith

registered_now : (a x : ℕ) → a ≤ 2 + (1 + (1 + x)) → a + 1 ≤ (6 + x) + 0
registered_now a x h = omega arith

less_begun : (s : Scene) (asked : ℕ → Bool) (l : Local) (st : ObjectNo) (has_reply : Bool) (q : Reply) → is_number q ≡ true → (if has_reply then true else is_sized l.agenda) ≡ true → CallsSized l → IsLess s asked (2 + (if has_reply then later_weight s l else weight s asked l)) (Begin st) (begun s l st has_reply q)
less_begun s asked l st has_reply (replies.Number id) k z h =
    let acts = callback_tasks s l.memory id in
    let p = plain_callback s l.memory id in
    let after : List Task = one (Change st ops.Finish id (pos 0) (Just replies.Ok)) ∷ Drains st has_reply ∷ [] in
    record {
      less = begins (weight s asked (goes l (acts ++ after))) (if has_reply then later_weight s l else weight s asked l) (plain_then acts after l.agenda 2 p asked (has_turns l) (later_weight s l));
      sized = record { agenda = sized_then acts after l.agenda 2 p ∙ z; calls = h };
    }
less_begun s asked l st has_reply q k z h = cc

-- ---- every task

less_task : (s : Scene) (asked : ℕ → Bool) (t : ℕ) (l : Local) (task : Task) → is_sized (task ∷ l.agenda) ≡ true → CallsSized l → AllLess s asked (weight s asked (record l { agenda = task ∷ l.agenda })) (alternatives s t l task)
less_task s asked t l (Makes (One f)) z h = less_one _ (λ q k. record { less = both_sides (weight s asked l) (form_weight f) (form_earns f); sized = record { agenda = z; calls = h } })
less_task s asked t l (Makes (Two f g)) z h = less_two _ _ (λ q k. record { less = first_of_two (weight s asked l) (form_weight f) (form_weight g) (form_earns f); sized = record { agenda = z; calls = h } }) (λ q k. record { less = second_of_two (weight s asked l) (form_weight f) (form_weight g) (form_earns g); sized = record { agenda = z; calls = h } })
less_task s asked t l (Makes (Three f g i)) z h = less_three _ _ _ (λ q k. record { less = first_of_three (weight s asked l) (form_weight f) (form_weight g) (form_weight i) (form_earns f); sized = record { agenda = z; calls = h } }) (λ q k. record { less = second_of_three (weight s asked l) (form_weight f) (form_weight g) (form_weight i) (form_earns g); sized = record { agenda = z; calls = h } }) (λ q k. record { less = third_of_three (weight s asked l) (form_weight f) (form_weight g) (form_weight i) (form_earns i); sized = record { agenda = z; calls = h } })
less_task s asked t l (Answers (One f)) z h = less_one _ (λ q k. record { less = answer_one (later_weight s l) (form_weight f) (form_earns f); sized = record { agenda = refl; calls = h } })
less_task s asked t l (Answers (Two f g)) z h = less_two _ _ (λ q k. record { less = answer_first (later_weight s l) (form_weight f) (form_weight g) (form_earns f); sized = record { agenda = refl; calls = h } }) (λ q k. record { less = answer_second (later_weight s l) (form_weight f) (form_weight g) (form_earns g); sized = record { agenda = refl; calls = h } })
less_task s asked t l (Answers (Three f g i)) z h = less_three _ _ _ (λ q k. record { less = answer_a (later_weight s l) (form_weight f) (form_weight g) (form_weight i) (form_earns f); sized = record { agenda = refl; calls = h } }) (λ q k. record { less = answer_b (later_weight s l) (form_weight f) (form_weight g) (form_weight i) (form_earns g); sized = record { agenda = refl; calls = h } }) (λ q k. record { less = answer_c (later_weight s l) (form_weight f) (form_weight g) (form_weight i) (form_earns i); sized = record { agenda = refl; calls = h } })
less_task s asked t l (Says r) z h = less_says s asked t l r h
less_task s asked t l (Arrives b n) z h = less_two _ _ (λ p k. record { less = fall_two 3 1 1 6 (later_weight s l) (omega arith); sized = record { agenda = refl; calls = h } }) (λ p k. record { less = fall 1 1 6 (later_weight s l) (omega arith); sized = record { agenda = refl; calls = h } })
less_task s asked t l (ArrivesAndWaits b) z h = less_two _ _ (λ p k. record { less = fall_three 3 1 1 1 6 (later_weight s l) (omega arith); sized = record { agenda = refl; calls = h } }) (λ p k. record { less = fall 1 1 6 (later_weight s l) (omega arith); sized = record { agenda = refl; calls = h } })
less_task s asked t l (ArrivesAndDrops b) z h = less_two _ _ (λ p k. record { less = fall_two 3 1 1 6 (later_weight s l) (omega arith); sized = record { agenda = refl; calls = h } }) (λ p k. record { less = fall 1 1 6 (later_weight s l) (omega arith); sized = record { agenda = refl; calls = h } })
less_task s asked t l (Completes b must) z h = less_completion s asked l b (slice_get s.objects b.0) (record { agenda = z; calls = h })
less_task s asked t l (CallsOnce o f r) z h = less_two _ _ (λ p k. record { less = once_falls (form_weight f) (later_weight s l); sized = record { agenda = refl; calls = h } }) (λ p k. record { less = passive_falls (form_weight f) (later_weight s l); sized = record { agenda = refl; calls = h } })
less_task s asked t l (LocksFrom os) z h = let y = sides os 1 z in less_one _ (λ q k. record { less = locks_from (length os) (later_weight s l) y.below; sized = record { agenda = rw (lt-ltb 1 (length os) y.below, y.few_too) refl; calls = h } })
less_task s asked t l (LocksRest os n) z h =
    let p = and_parts (nat_lt 1 (length os)) (nat_lt n (length os) && nat_lt (length os) 6) z in
    let y = sides os n p.1 in
    less_two _ _ (λ q k. let a = less_locked s asked l os n replies.Ok (n + 1 == length os) p.0 h y refl in record { less = a.less; sized = a.sized }) (λ q k. let a = less_backs_off s asked l os n (has_turns l) (ltb-true 1 (length os) p.0) h y refl in record { less = a.less; sized = a.sized })
less_task s asked t l (TriesAll os n) z h =
    let y = sides os n z in
    less_two _ _ (λ q k. let a = less_tried s asked l os n (replies.Number (negsuc 0)) (n + 1 == length os) h y refl in record { less = a.less; sized = a.sized }) (λ q k. let a = less_given_up s asked l os n (replies.Number (pos n)) h y in record { less = a.less; sized = a.sized })
less_task s asked t l (Tests c m p) z h = less_one _ (λ x k. let a = less_test s asked l c m p (passes p x) (has_turns l) h refl in record { less = a.less; sized = a.sized })
less_task s asked t l (RegistersWait w) z h =
    let acts = callback_tasks s l.memory (pos w.id) in
    let after : List Task = one (change w.stop ops.Finish w.id replies.Ok) ∷ AsksStop w ∷ [] in
    let p = plain_callback s l.memory (pos w.id) in
    less_three _ _ _
    (λ q k. record { less = asks_falls (asked w.stop.0) (later_weight s l) 5 19 (omega arith); sized = record { agenda = refl; calls = h } })
    (λ q k. record { less = asks_after_callback (asked w.stop.0) (weight s asked (goes l (acts ++ after))) (later_weight s l) (plain_then acts after l.agenda 2 p asked (has_turns l) (later_weight s l)); sized = record { agenda = sized_then acts after l.agenda 2 p; calls = h } })
    (λ q k. record { less = asks_falls (asked w.stop.0) (later_weight s l) 1 19 (omega arith); sized = record { agenda = refl; calls = h } })
less_task s asked t l (AsksStop w) z h = less_two _ _ (λ q k. record { less = last_falls (asked w.stop.0) (later_weight s l); sized = record { agenda = refl; calls = h } }) (λ q k. record { less = tests_falls (asked w.stop.0) (later_weight s l) k; sized = record { agenda = refl; calls = h } })
less_task s asked t l (TestsLast w) z h = less_one _ (λ x k. let a = less_ends s asked l w _ 4 (omega arith) h in record { less = a.less; sized = a.sized })
less_task s asked t l (TestsStop w) z h = less_one _ (λ x k. let a = less_stop_test s asked l w (passes w.test x) (has_turns l) h refl in record { less = a.less; sized = a.sized })
less_task s asked t l (AsksAgain w) z h = less_two _ _ (λ q k. record { less = withdraws_falls (asked w.stop.0) (has_turns l) (later_weight s l) k; sized = record { agenda = refl; calls = h } }) (λ q k. record { less = wakes_falls s l (asked w.stop.0) (has_turns l) refl; sized = record { agenda = refl; calls = h } })
less_task s asked t l (Requests st has_reply) z h = less_two _ _ (λ q k. record { less = fall 2 1 3 (if has_reply then later_weight s l else weight s asked l) (omega arith); sized = record { agenda = z; calls = h } }) (λ q k. let a = less_word s asked l has_reply replies.Already 3 (omega arith) z h in record { less = a.less; sized = a.sized })
less_task s asked t l (Drains st has_reply) z h = less_two _ _ (λ q k. less_begun s asked l st has_reply q k z h) (λ q k. let a = less_word s asked l has_reply replies.Made 2 (omega arith) z h in record { less = a.less; sized = a.sized })
less_task s asked t l (Registers st id) z h =
    let acts = callback_tasks s l.memory (pos id) in
    let after : List Task = one (change st ops.Finish id replies.Ok) ∷ Says replies.Ran ∷ [] in
    let p = plain_callback s l.memory (pos id) in
    less_three _ _ _
    (λ q k. record { less = fall 1 5 6 (later_weight s l) (omega arith); sized = record { agenda = refl; calls = h } })
    (λ q k. record { less = registered_now (weight s asked (goes l (acts ++ after))) (later_weight s l) (plain_then acts after l.agenda 2 p asked (has_turns l) (later_weight s l)); sized = record { agenda = sized_then acts after l.agenda 2 p; calls = h } })
    (λ q k. record { less = fall 1 1 6 (later_weight s l) (omega arith); sized = record { agenda = refl; calls = h } })
less_task s asked t l (Launches a u policies.Async) z h = less_two _ _ (λ q k. record { less = fall 1 1 3 (later_weight s l) (omega arith); sized = record { agenda = refl; calls = h } }) (λ q k. record { less = fall 1 1 3 (later_weight s l) (omega arith); sized = record { agenda = refl; calls = h } })
less_task s asked t l (Launches a u policies.Both) z h = less_two _ _ (λ q k. record { less = fall 1 1 3 (later_weight s l) (omega arith); sized = record { agenda = refl; calls = h } }) (λ q k. record { less = fall_two 1 1 1 3 (later_weight s l) (omega arith); sized = record { agenda = refl; calls = h } })
less_task s asked t l (Launches a u policies.Deferred) z h = less_one _ (λ q k. record { less = fall 1 1 3 (later_weight s l) (omega arith); sized = record { agenda = refl; calls = h } })

-- ---- what the next item may be

less_append : {s : Scene} {asked : ℕ → Bool} {n : ℕ} (a b : List Alternative) → AllLess s asked n a → AllLess s asked n b → AllLess s asked n (a ++ b)
less_append [] b no_more k = k
less_append (x ∷ xs) b (and_more x' xs' h rest) k = and_more x (xs ++ b) h (less_append xs b rest k)

still_less : (a f n m e : ℕ) → n ≤ m → a + f ≤ n + e → a + f ≤ m + e
still_less a f n m e h k = omega arith

less_than_more : {s : Scene} {asked : ℕ → Bool} (n m : ℕ) (xs : List Alternative) → n ≤ m → AllLess s asked n xs → AllLess s asked m xs
less_than_more n m [] h no_more = no_more
less_than_more {s} {asked} n m (x ∷ xs) h (and_more x' xs' f rest) = and_more x xs (λ q k. let a = f q k in record { less = still_less (weight s asked (x.next q)) (form_weight x.form) n m (form_earns x.form) h a.less; sized = a.sized }) (less_than_more n m xs h rest)

without_it : (w : ℕ) → w ≤ 3 + w
without_it w = omega arith

pub less_offered : (s : Scene) (asked : ℕ → Bool) (t : ℕ) (l : Local) (ts : List Task) → is_sized ts ≡ true → CallsSized l → AllLess s asked (weight s asked (record l { agenda = ts })) (offered_by s t l ts)
less_offered s asked t l [] z h = no_more
less_offered s asked t l (Completes b false ∷ ts) z h =
    let after : Local = record l { agenda = ts } in
    less_append (alternatives s t after (Completes b false)) (offered_by s t l ts) (less_task s asked t after (Completes b false) z h) (less_than_more (weight s asked after) (3 + weight s asked after) (offered_by s t l ts) (without_it (weight s asked after)) (less_offered s asked t l ts z h))
less_offered s asked t l (task ∷ ts) z h = less_task s asked t (record l { agenda = ts }) task z h
