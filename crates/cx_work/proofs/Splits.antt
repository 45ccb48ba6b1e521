-- New accesses that are split off main's.
use Rattle.std.proofs.Common.{◌≡◌, ◌<◌, ◌≤◌, ◌+◌, ◌-◌, ◌*◌, ◌^◌, ℕ, min, List, [], ◌∷◌, ◌++◌, length, take, drop, get_or, slice_get, slice_set, Some, refl, sym, ap, ◌∙◌, subst, arith}
use Rattle.std.specs.Global.{Vec}
use Rattle.cx_machine.specs.Machine.{State}
use Rattle.cx_turn.specs.declared.view.View.{View}
use Rattle.cx_scene.specs.declared.declared.Object.{Object}
use Rattle.cx_scene.specs.Scene.{Scene}
use Rattle.cx_items.specs.Memory.{nothing}
use Rattle.cx_asks.specs.Scenes.{taken_in}
use Rattle.cx_kinds.specs.declared.access.Access.{Access}
use Rattle.cx_kinds.specs.Accesses.{RunObject, object_of, Knows, kept_of, share_of}
use Rattle.cx_kinds.specs.Acts.{CanSplit}
use Rattle.cx_kinds.specs.Sights.{IsSeen, MaySplit, SplitInto}
use Rattle.cx_work.specs.Accesses.{AreMadeAs, objects_of}
use Rattle.cx_work.specs.RunNow.{IsNewAccess, AreNew, AreAllNew, objects_of_all}
use Rattle.cx_work.proofs.Going.{same_view}
use Rattle.cx_work.proofs.Newness.{new_objects}
use Rattle.cx_work.proofs.Rows.{RowMade, RowsMade, row_goes_on, rows_written, rows_end, less_left, at_get}
use Rattle.cx_work.proofs.Shares.{RowShared, shares_go_on}
use Rattle.cx_work.proofs.Stepping.{at_index}

-- ---- before a split

-- main's new access to the next object may be split
pub is_seen : (x : RunObject) (seats t left splits : ℕ) (k : Access) → IsNewAccess x seats t left splits k → IsSeen (Knows k)
is_seen x seats t left splits k new = record { view = new.view; seen = new.seen }

pub may_split : (x : RunObject) (seats splits : ℕ) (k : Access) → splits + 1 < seats → IsNewAccess x seats 0 (131072 * (seats - splits)) splits k → MaySplit 131072 (Knows k)
may_split x seats splits k room new = record {
  may = λ v a.
      let same = same_view k new.view v new.seen a in
      let may = new.new.may in
      let split = new.new.split in
      let seated = new.new.seated in
      subst (λ (u : View State). CanSplit u 131072) same (record { first = new.new.numbered; room = omega (arith, room, split, seated); may = omega (arith, room, may) });
}

-- ---- after it

pub left_is_new : (x : RunObject) (k k' q : Access) (seats left less splits calls most : ℕ) → IsNewAccess x seats 0 left splits k → object_of k' ≡ object_of k → kept_of k' ≡ nothing → SplitInto calls most (Knows k) (Knows k') (Knows q) → left - calls ≡ less → IsNewAccess x seats 0 less (splits + 1) k'
left_is_new x k k' q seats left less splits calls most new same free split is = record {
  object = same ∙ new.object;
  free = free;
  view = _;
  seen = split.first new.view new.seen;
  new = record {
    seated = new.new.seated;
    numbered = new.new.numbered;
    front = new.new.front;
    mine = new.new.mine;
    taken = new.new.taken;
    may = ap (λ n. n - calls) new.new.may ∙ is;
    split = ap (λ n. n + 1) new.new.split;
  };
}

pub right_is_new : (x : RunObject) (k k' q : Access) (seats left splits calls most : ℕ) → IsNewAccess x seats 0 left splits k → object_of q ≡ object_of k → kept_of q ≡ nothing → SplitInto calls most (Knows k) (Knows k') (Knows q) → IsNewAccess x seats (splits + 1) calls 0 q
right_is_new x k k' q seats left splits calls most new same free split =
    let r = split.second new.view new.seen in
    record {
      object = same ∙ new.object;
      free = free;
      view = r.0;
      seen = r.1;
      new = record {
        seated = r.2.seats ∙ new.new.seated;
        numbered = r.2.number ∙ ap (λ n. n + 1) new.new.split;
        front = r.2.front ∙ new.new.front;
        mine = r.2.mine;
        taken = r.2.taken;
        may = r.2.left;
        split = r.2.splits;
      };
    }

less_given : (s m n : ℕ) → s - min m s ≡ n → n ≡ s - m
less_given s m n is = omega (arith, is)

-- the shares of both
pub split_shares : (x : RunObject) (k k' q : Access) (seats t left splits calls most : ℕ) → IsNewAccess x seats t left splits k → SplitInto calls most (Knows k) (Knows k') (Knows q) → (share_of k' ≡ share_of k - most) × (share_of q ≡ min most (share_of k))
split_shares x k k' q seats t left splits calls most new split =
    let r = split.second new.view new.seen in
    let had = new.seen.shared in
    let less : new.view.share - min most new.view.share ≡ share_of k' = (split.first new.view new.seen).shared in
    let less' : share_of k - min most (share_of k) ≡ share_of k' = subst (λ n. n - min most n ≡ share_of k') had less in (
      less_given (share_of k) most (share_of k') less',
      sym r.1.shared ∙ (r.2.share ∙ ap (λ n. min most n) had),
    )

-- a share is less than 2^32
pub share_small : (k : Access) (v : View State) → Knows k v → share_of k ≤ 4294967295
share_small k v a =
    let had = a.shared in
    let present = a.known.present in
    let part = present.3.share in
    let pool = present.3.pool in
    omega (arith, had, part, pool)

-- ---- the access to the next object, in a row

module _ (xs : List RunObject) (threads splits : ℕ) (o : ℕ) (main row : List Access) (made : RowMade xs threads splits (131072 * (threads - splits)) (131072 * (threads - (splits + 1))) o main row) (d : Access) (low : o < length main) where
  next_object : (x : RunObject) × (slice_get xs o ≡ Some x)
  next_object = let count = made.count in at_index xs o (omega (arith, low, count))

  next_new : IsNewAccess next_object.0 threads 0 (131072 * (threads - splits)) splits (get_or main o d)
  next_new = made.rest o next_object.0 (get_or main o d) (omega arith) next_object.1 (at_get main o d low)

  pub next_seen : (k : Access) → k ≡ get_or main o d → IsSeen (Knows k)
  next_seen k read = subst (λ (j : Access). IsSeen (Knows j)) (sym read) (is_seen next_object.0 threads 0 (131072 * (threads - splits)) splits (get_or main o d) next_new)

  pub next_may : (k : Access) → k ≡ get_or main o d → splits + 1 < threads → MaySplit 131072 (Knows k)
  next_may k read room = subst (λ (j : Access). MaySplit 131072 (Knows j)) (sym read) (may_split next_object.0 threads splits (get_or main o d) room next_new)

  pub next_free : (k : Access) → k ≡ get_or main o d → kept_of k ≡ nothing
  next_free k read = ap kept_of read ∙ next_new.free

  pub next_row : (k' q : Access) (most : ℕ) → splits + 1 < threads → object_of k' ≡ object_of (get_or main o d) → object_of q ≡ object_of (get_or main o d) → kept_of k' ≡ nothing → kept_of q ≡ nothing → SplitInto 131072 most (Knows (get_or main o d)) (Knows k') (Knows q) → RowMade xs threads splits (131072 * (threads - splits)) (131072 * (threads - (splits + 1))) (o + 1) (slice_set main o k') (row ++ q ∷ [])
  next_row k' q most room same same' free free' split =
      row_goes_on xs threads splits (131072 * (threads - splits)) (131072 * (threads - (splits + 1))) o main row next_object.0 k' q made next_object.1
      (left_is_new next_object.0 (get_or main o d) k' q threads (131072 * (threads - splits)) (131072 * (threads - (splits + 1))) splits 131072 most next_new same free split (less_left threads splits room))
      (right_is_new next_object.0 (get_or main o d) k' q threads (131072 * (threads - splits)) splits 131072 most next_new same' free' split)

  pub next_shares : (s : Scene) (t : ℕ) (before : List Access) (k' q : Access) (most : ℕ) → RowShared s t o before main row → most ≡ min 4294967295 (taken_in s t o) → SplitInto 131072 most (Knows (get_or main o d)) (Knows k') (Knows q) → RowShared s t (o + 1) before (slice_set main o k') (row ++ q ∷ [])
  next_shares s t before k' q most shared takes split =
      let shares = split_shares next_object.0 (get_or main o d) k' q threads 0 (131072 * (threads - splits)) splits 131072 most next_new split in
      shares_go_on s t o before main row d (get_or main o d) k' q most shared low made.long refl takes (share_small (get_or main o d) next_new.view next_new.seen) shares.0 shares.1

-- ---- all rows

pub rows_next : (xs : List RunObject) (threads n : ℕ) (main : Vec Access) (slice written : List Access) (rows rows' : List (Vec Access)) (row : Vec Access) → slice ≡ main.items → n + 1 < threads → RowsMade xs threads n main.items rows → AreNew (objects_of slice) threads 0 (131072 * (threads - (n + 1))) (n + 1) written → AreNew (objects_of slice) threads (n + 1) 131072 0 row.items → rows' ≡ rows ++ row ∷ [] → RowsMade xs threads (n + 1) (take main.len (written ++ drop (length written) main.items)) rows'
rows_next xs threads n main slice written rows rows' row is room made new one more =
    let same : objects_of slice ≡ xs = ap objects_of is ∙ new_objects xs threads 0 (131072 * (threads - n)) n main.items made.first in
    rows_written xs threads n main written rows rows' row room main.ok.0 made (subst (λ (ys : List RunObject). AreNew ys threads 0 (131072 * (threads - (n + 1))) (n + 1) written) same new) (subst (λ (ys : List RunObject). AreNew ys threads (n + 1) 131072 0 row.items) same one) more

pub rows_first : (xs : List RunObject) (threads n : ℕ) (main : Vec Access) (slice : List Access) (rows : List (Vec Access)) → slice ≡ main.items → RowsMade xs threads n main.items rows → AreNew (objects_of slice) threads 0 (131072 * (threads - n)) n slice
rows_first xs threads n main slice rows is made =
    let same : objects_of main.items ≡ xs = new_objects xs threads 0 (131072 * (threads - n)) n main.items made.first in
    rw is (subst (λ (ys : List RunObject). AreNew ys threads 0 (131072 * (threads - n)) n main.items) (sym same) made.first)

-- the passes are those of the objects of main's
pub rows_all : (ds : List Object) (xs : List RunObject) (threads n : ℕ) (main : Vec Access) (rows all : List (Vec Access)) → AreMadeAs ds xs → threads ≤ n + 1 → RowsMade xs threads n main.items rows → all ≡ main ∷ rows → AreMadeAs ds (objects_of_all all) × AreAllNew (objects_of_all all) threads all
rows_all ds xs threads n main rows all declared past made is =
    let same : objects_of main.items ≡ xs = new_objects xs threads 0 (131072 * (threads - n)) n main.items made.first in
    rw is (rw same (declared, rows_end xs threads n main rows past made))
