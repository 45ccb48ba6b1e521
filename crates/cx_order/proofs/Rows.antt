-- The two ends of a row as keys, places and bounds.
use Rattle.std.proofs.Common.{◌≡◌, ◌⊎◌, inl, inr, ℕ, zero, suc, ◌+◌, ◌-◌, ◌^◌, ◌<◌, ◌≤◌, ◌==◌, ◌&&◌, Bool, true, false, cond, List, [], ◌∷◌, length, filter, min, slice_get, Option, Some, None, option_map, refl, sym, ap, ◌∙◌, subst, arith, eqb-true, eq-eqb}
use Rattle.std.specs.Prelude.{IsTrue, ℤ, is_some, option_and_then, nat_lt}
use Rattle.std.proofs.lemmas.Bool.{eqb-false, ltb-true}
use Rattle.cx_names.specs.declared.Reply.{Reply}
use Rattle.cx_machine.specs.Words.{small_of, when}
use Rattle.cx_machine.specs.declared.kind.Kind.{Kind}
use Rattle.cx_machine.specs.declared.kind.Kind.TheVariants as kinds
use Rattle.cx_machine.specs.declared.kind.Op.{Op}
use Rattle.cx_machine.specs.declared.kind.Op.TheVariants as ops
use Rattle.cx_machine.specs.declared.kind.Entry.{Entry}
use Rattle.cx_names.specs.declared.ObjectNo.{ObjectNo}
use Rattle.cx_scene.specs.declared.declared.Object.{Object}
use Rattle.cx_scene.specs.Scene.{Scene, kind_of}
use Rattle.cx_items.specs.declared.item.Item.{Item}
use Rattle.cx_items.specs.declared.item.Item.TheVariants as items
use Rattle.cx_history.specs.Histories.{Recorded, Placed, is_at, item_at, changes_of}
use Rattle.cx_history.specs.IsRecord.{IsRecord, is_item, is_change}
use Rattle.cx_history.specs.Legal.{LegalRecord}
use Rattle.cx_order.specs.declared.row.Row.{Row}
use Rattle.cx_order.specs.declared.row.Row.TheVariants as rows
use Rattle.cx_order.specs.Table.{given}
use Rattle.cx_order.specs.Edges.{completes, arrives, has_at, completed_before, IsLastArrival, Fits}
use Rattle.cx_order.specs.Arcs.{given_as, taken_as}
use Rattle.cx_graph.proofs.Numbers.{le_or_lt}
use Rattle.cx_order.proofs.Walks.{some_is}
use Rattle.cx_order.proofs.Positions.{In, in_any, any_in, completed_suc, completed_more, completed_up, completed_same, positions_below, held_by, change_item, item_change}

-- ---- what the left of a row says of its change

says : Option Row → Kind → Op → Bool
says (Some rows.Arrival) (kinds.Barrier count) op = true
says (Some rows.Arrival) _ op = false
says (Some rows.Completion) kind op = completes op
says _ kind op = true

all_says : (kind : Kind) (op : Op) → says (given kind op) kind op ≡ true
unfolding says
all_says (kinds.Mutex recursive numbers) ops.Unlock = refl
all_says kinds.Shared ops.Unlock = refl
all_says kinds.Shared ops.UnlockShared = refl
all_says (kinds.Semaphore count max) ops.Release = refl
all_says (kinds.Latch count) ops.CountDown = refl
all_says (kinds.Barrier count) ops.Arrive = refl
all_says (kinds.Barrier count) ops.Drop = refl
all_says (kinds.Barrier count) ops.Complete = refl
all_says kinds.Once ops.Fail = refl
all_says kinds.Once ops.Finish = refl
all_says (kinds.Stop sources) ops.Request = refl
all_says (kinds.Stop sources) ops.Register = refl
all_says (kinds.Stop sources) ops.Finish = refl
all_says kinds.Future ops.Set = refl
all_says _ _ = refl

pub completion_completes : (kind : Kind) (op : Op) → given kind op ≡ Some rows.Completion → completes op ≡ true
unfolding says
completion_completes kind op left = subst (λ (o : Option Row). says o kind op ≡ true) left (all_says kind op)

pub arrival_of_barrier : (kind : Kind) (op : Op) → given kind op ≡ Some rows.Arrival → (count : ℕ) × (kind ≡ kinds.Barrier count)
unfolding says
arrival_of_barrier (kinds.Barrier count) op left = (count, refl)
arrival_of_barrier (kinds.Mutex recursive numbers) op left = let h = subst (λ (o : Option Row). says o (kinds.Mutex recursive numbers) op ≡ true) left (all_says (kinds.Mutex recursive numbers) op) in cc
arrival_of_barrier kinds.Shared op left = let h = subst (λ (o : Option Row). says o kinds.Shared op ≡ true) left (all_says kinds.Shared op) in cc
arrival_of_barrier (kinds.Semaphore count max) op left = let h = subst (λ (o : Option Row). says o (kinds.Semaphore count max) op ≡ true) left (all_says (kinds.Semaphore count max) op) in cc
arrival_of_barrier (kinds.Latch count) op left = let h = subst (λ (o : Option Row). says o (kinds.Latch count) op ≡ true) left (all_says (kinds.Latch count) op) in cc
arrival_of_barrier kinds.Once op left = let h = subst (λ (o : Option Row). says o kinds.Once op ≡ true) left (all_says kinds.Once op) in cc
arrival_of_barrier kinds.Condition op left = let h = subst (λ (o : Option Row). says o kinds.Condition op ≡ true) left (all_says kinds.Condition op) in cc
arrival_of_barrier (kinds.Stop sources) op left = let h = subst (λ (o : Option Row). says o (kinds.Stop sources) op ≡ true) left (all_says (kinds.Stop sources) op) in cc
arrival_of_barrier kinds.Future op left = let h = subst (λ (o : Option Row). says o kinds.Future op ≡ true) left (all_says kinds.Future op) in cc

-- ---- barriers

-- a change of a barrier arrives or completes
barrier_words : (n count : ℕ) (op : Op) (a b : ℤ) (reply : Reply) → is_change n (kinds.Barrier count) op a b reply ≡ true → (arrives op ≡ true) ⊎ (completes op ≡ true)
barrier_words n count ops.Arrive a b reply h = inl refl
barrier_words n count ops.Drop a b reply h = inl refl
barrier_words n count ops.Complete a b reply h = inr refl
barrier_words n count _ a b reply h = cc

-- the words of a change are those of its object's kind
pub change_words : (s : Scene) (t : ℕ) (o : ObjectNo) (p : ℕ) (e : Entry) (d : Object) → is_item s t (items.Change o p e) ≡ true → slice_get s.objects o.0 ≡ Some d → is_change (length s.threads) (kind_of d) e.op e.a e.b e.reply ≡ true
change_words s t o p e d is there = by (e.by.0 == t) (nat_lt p (2 ^ 28)) (is_change (length s.threads) (kind_of d) e.op e.a e.b e.reply) refl (rw there at is)
  where
    by : (a b w : Bool) → is_change (length s.threads) (kind_of d) e.op e.a e.b e.reply ≡ w → a && b && is_some (when w d) ≡ true → is_change (length s.threads) (kind_of d) e.op e.a e.b e.reply ≡ true
    by a b true same h = same
    by true true false same h = cc
    by true false false same h = cc
    by false b false same h = cc

module _ (s : Scene) (r : Recorded) (well : IsRecord s r) (legal : LegalRecord s r) (o : ℕ) (d : Object) (count : ℕ) (there : slice_get s.objects o ≡ Some d) (is_barrier : kind_of d ≡ kinds.Barrier count) where
  -- each position before a `complete` is held by an arrival or a `complete`
  pub held_before : (c k : ℕ) → has_at r o completes c ≡ true → k < c → (has_at r o arrives k ≡ true) ⊎ (has_at r o completes k ≡ true)
  held_before c k complete less =
      let cs = changes_of r o in
      let w = any_in (λ (x : Placed). completes x.entry.op && (x.position == c)) cs complete in
      let at_c : w.0.position ≡ c = second (completes w.0.entry.op) w.0.position w.2 in
      let low = positions_below cs (λ j h. legal.gapless o d there j h) w.0 w.1 in
      let h = held_by cs k (legal.gapless o d there k (omega (arith, low, at_c, less))) in
      let i = change_item r o h.0 h.1 in
      let words = change_words s i.0 i.2 h.0.position h.0.entry d (well.each i.0 i.1 (items.Change i.2 h.0.position h.0.entry) i.3) (ap (slice_get s.objects) i.4 ∙ there) in
      let of_kind : is_change (length s.threads) (kinds.Barrier count) h.0.entry.op h.0.entry.a h.0.entry.b h.0.entry.reply ≡ true = subst (λ (q : Kind). is_change (length s.threads) q h.0.entry.op h.0.entry.a h.0.entry.b h.0.entry.reply ≡ true) is_barrier words in
      by h.0 h.1 h.2 (barrier_words (length s.threads) count h.0.entry.op h.0.entry.a h.0.entry.b h.0.entry.reply of_kind)
    where
      second : (b : Bool) (m : ℕ) → b && (m == c) ≡ true → m ≡ c
      second true m h = eqb-true m c h
      second false m h = cc

      both : (b : Bool) (m : ℕ) → b ≡ true → m ≡ k → b && (m == k) ≡ true
      both b m h e = rw h (eq-eqb m k e)

      by : (x : Placed) → In (changes_of r o) x → x.position ≡ k → (arrives x.entry.op ≡ true) ⊎ (completes x.entry.op ≡ true) → (has_at r o arrives k ≡ true) ⊎ (has_at r o completes k ≡ true)
      by x in_ at_ (inl a) = inl (in_any (λ (y : Placed). arrives y.entry.op && (y.position == k)) (changes_of r o) x in_ (both (arrives x.entry.op) x.position a at_))
      by x in_ at_ (inr a) = inr (in_any (λ (y : Placed). completes y.entry.op && (y.position == k)) (changes_of r o) x in_ (both (completes x.entry.op) x.position a at_))

-- ---- from keys to edges

plain : (p q : ℕ) (k m : ℕ × ℕ) → Some (0, p) ≡ Some k → Some (0, q) ≡ Some m → k.1 < m.1 → p < q
plain p q k m hk hm less = let a = ap (λ (x : ℕ × ℕ). x.1) (some_is (0, p) k hk) in let b = ap (λ (x : ℕ × ℕ). x.1) (some_is (0, q) m hm) in omega arith

mapped : (o : Option ℕ) (f : ℕ → ℕ × ℕ) (k : ℕ × ℕ) → option_map f o ≡ Some k → (n : ℕ) × (o ≡ Some n) × (k ≡ f n)
mapped None f k h = cc
mapped (Some n) f k h = (n, refl, sym (some_is (f n) k h))

ids : (p q : ℕ) (a b : Option ℕ) (k m : ℕ × ℕ) → option_map (λ id. (id, p)) a ≡ Some k → option_map (λ id. (id, q)) b ≡ Some m → k.0 ≡ m.0 → k.1 < m.1 → (p < q) × ((id : ℕ) × (a ≡ Some id) × (b ≡ Some id))
ids p q a b k m hk hm same less =
    let x = mapped a (λ id. (id, p)) k hk in
    let y = mapped b (λ id. (id, q)) m hm in
    let k0 : k.0 ≡ x.0 = ap (λ (z : ℕ × ℕ). z.0) x.2 in
    let m0 : m.0 ≡ y.0 = ap (λ (z : ℕ × ℕ). z.0) y.2 in
    let k1 : k.1 ≡ p = ap (λ (z : ℕ × ℕ). z.1) x.2 in
    let m1 : m.1 ≡ q = ap (λ (z : ℕ × ℕ). z.1) y.2 in
    (omega arith, (x.0, x.1, y.1 ∙ ap (λ (n : ℕ). Some n) (sym m0 ∙ (sym same ∙ k0))))

if_some : (b : Bool) (x m : ℕ × ℕ) → cond b None (Some x) ≡ Some m → (b ≡ false) × (x ≡ m)
if_some true x m h = cc
if_some false x m h = (refl, some_is x m h)

tells : (b : Bool) → (b ≡ false → ⊥) → b ≡ true
tells true never = refl
tells false never = absurd (never refl)

pub to_edge : (r : Recorded) (o : ℕ) (row : Row) (p q : ℕ) (a b : ℤ) (k m : ℕ × ℕ) → given_as r o row p a ≡ Some k → taken_as r o row q b ≡ Some m → k.0 ≡ m.0 → k.1 < m.1 → (p < q) × Fits r o row p a q b
to_edge r o rows.Arrival p q a b k m hk hm same less =
    let x = some_is (completed_before r o (p + 1), p) k hk in
    let y = if_some (completed_before r o (q + 1) == completed_before r o (q + 2)) (completed_before r o (q + 1), q) m hm in
    let k0 : completed_before r o (p + 1) ≡ k.0 = ap (λ (z : ℕ × ℕ). z.0) x in
    let m0 : completed_before r o (q + 1) ≡ m.0 = ap (λ (z : ℕ × ℕ). z.0) y.1 in
    let k1 : p ≡ k.1 = ap (λ (z : ℕ × ℕ). z.1) x in
    let m1 : q ≡ m.1 = ap (λ (z : ℕ × ℕ). z.1) y.1 in
    let apart = eqb-false (completed_before r o (q + 1)) (completed_before r o (q + 2)) y.0 in
    let lt : p < q = omega arith in
    let even : completed_before r o (p + 1) ≡ completed_before r o (q + 1) = k0 ∙ (same ∙ sym m0) in (
      lt,
      record {
        completion = q + 1;
        behind = omega arith;
        completes_there = tells (has_at r o completes (q + 1)) (λ none. apart (sym (completed_suc r o (q + 1) none) ∙ ap (completed_before r o) (omega arith)));
        is_next = λ j after before complete. nothing j after before complete even;
        is_last = λ j after before arrival. absurd (omega arith);
      },
    )
  where
    nothing : (j : ℕ) → p < j → j < q + 1 → has_at r o completes j ≡ true → completed_before r o (p + 1) ≡ completed_before r o (q + 1) → ⊥
    nothing j after before complete even =
        let u = completed_up r o (p + 1) j (omega arith) in
        let v = completed_more r o j complete in
        let w = completed_up r o (j + 1) (q + 1) (omega arith) in
        omega (arith, u, v, w, even)
to_edge r o rows.Completion p q a b k m hk hm same less =
    let x = some_is (0, completed_before r o p) k hk in
    let y = mapped (small_of b) (λ last. (0, min (last + 1) (completed_before r o q))) m hm in
    let k1 : completed_before r o p ≡ k.1 = ap (λ (z : ℕ × ℕ). z.1) x in
    let m1 : m.1 ≡ min (y.0 + 1) (completed_before r o q) = ap (λ (z : ℕ × ℕ). z.1) y.2 in
    (earlier (completed_before r o p) (completed_before r o q) (omega arith), (y.0, y.1, omega arith))
  where
    earlier : (i j : ℕ) → completed_before r o p < completed_before r o q → p < q
    earlier i j lt = by (le_or_lt q p)
      where
        by : (q ≤ p) ⊎ (p < q) → p < q
        by (inl le) = let u = completed_up r o q p le in absurd (omega arith)
        by (inr lt) = lt
to_edge r o rows.Registration p q a b k m hk hm same less = ids p q (small_of a) (small_of b) k m hk hm same less
to_edge r o rows.CallbackEnd p q a b k m hk hm same less = ids p q (small_of a) (small_of b) k m hk hm same less
to_edge r o _ p q a b k m hk hm same less = (plain p q k m hk hm less, tt)

-- ---- and back

pub record Ends (r : Recorded) (o : ℕ) (row : Row) (p q : ℕ) (a b : ℤ) : Type 0 where
  pub key : ℕ
  pub place : ℕ
  pub bound : ℕ
  pub left : given_as r o row p a ≡ Some (key, place)
  pub right : taken_as r o row q b ≡ Some (key, bound)
  pub below : place < bound

pub from_edge : (r : Recorded) (o : ℕ) (row : Row) (p q : ℕ) (a b : ℤ) → p < q → Fits r o row p a q b → (row ≡ rows.Completion → has_at r o completes p ≡ true) → (row ≡ rows.Arrival → (c k : ℕ) → has_at r o completes c ≡ true → k < c → (has_at r o arrives k ≡ true) ⊎ (has_at r o completes k ≡ true)) → Ends r o row p q a b
from_edge r o rows.Arrival p q a b lt fits complete held =
    let next : fits.completion ≡ q + 1 = by (held refl fits.completion (q + 1) fits.completes_there) in
    let at_next : has_at r o completes (q + 1) ≡ true = subst (λ (n : ℕ). has_at r o completes n ≡ true) next fits.completes_there in
    let more_ = completed_more r o (q + 1) at_next in
    let two : completed_before r o (q + 1 + 1) ≡ completed_before r o (q + 2) = ap (completed_before r o) (omega arith) in
    let even : completed_before r o (p + 1) ≡ completed_before r o (q + 1) = same in
    record {
      key = completed_before r o (p + 1);
      place = p;
      bound = q;
      left = refl;
      right = let differ : (completed_before r o (q + 1) == completed_before r o (q + 2)) ≡ false = ne (completed_before r o (q + 1)) (completed_before r o (q + 2)) (omega (arith, more_, two)) in rw differ (ap (λ (n : ℕ). Some (n, q)) (sym even));
      below = lt;
    }
  where
    by : (q + 1 < fits.completion → (has_at r o arrives (q + 1) ≡ true) ⊎ (has_at r o completes (q + 1) ≡ true)) → fits.completion ≡ q + 1
    by held = tri (le_or_lt fits.completion (q + 1))
      where
        none : q + 1 < fits.completion → (has_at r o arrives (q + 1) ≡ true) ⊎ (has_at r o completes (q + 1) ≡ true) → fits.completion ≡ q + 1
        none less (inl arrival) = absurd (fits.is_last (q + 1) (omega arith) less arrival)
        none less (inr completion) = absurd (fits.is_next (q + 1) (omega arith) less completion)

        tri : (fits.completion ≤ q + 1) ⊎ (q + 1 < fits.completion) → fits.completion ≡ q + 1
        tri (inl le) = let b = fits.behind in omega (arith, le, b)
        tri (inr less) = none less (held less)

    ne : (m n : ℕ) → m < n → (m == n) ≡ false
    ne m n less = go (m == n) refl
      where
        go : (e : Bool) → (m == n) ≡ e → e ≡ false
        go true h = let s = eqb-true m n h in absurd (omega arith)
        go false h = refl

    same : completed_before r o (p + 1) ≡ completed_before r o (q + 1)
    same =
        let gap : p + 1 + (q - p) ≡ q + 1 = omega arith in
        completed_same r o (p + 1) (q - p) (λ k low high. not_true (has_at r o completes k) (λ t. fits.is_next k (omega arith) (let b = fits.behind in omega (arith, high, gap, b)) t)) ∙ ap (completed_before r o) gap
      where
        not_true : (b : Bool) → (b ≡ true → ⊥) → b ≡ false
        not_true true h = absurd (h refl)
        not_true false h = refl
from_edge r o rows.Completion p q a b lt (phase, is_phase, within) complete held =
    let u = completed_more r o p (complete refl) in
    let v = completed_up r o (p + 1) q (omega arith) in
    record {
      key = 0;
      place = completed_before r o p;
      bound = min (phase + 1) (completed_before r o q);
      left = refl;
      right = rw is_phase refl;
      below = omega (arith, u, v, within);
    }
from_edge r o rows.Registration p q a b lt (id, left, right) complete held = record { key = id; place = p; bound = q; left = rw left refl; right = rw right refl; below = lt }
from_edge r o rows.CallbackEnd p q a b lt (id, left, right) complete held = record { key = id; place = p; bound = q; left = rw left refl; right = rw right refl; below = lt }
from_edge r o _ p q a b lt fits complete held = record { key = 0; place = p; bound = q; left = refl; right = refl; below = lt }
