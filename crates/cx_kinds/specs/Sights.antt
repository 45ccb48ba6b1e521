-- What a call makes of what has been seen.
use Rattle.std.specs.Prelude.{◌≡◌, ◌⊎◌, ℕ, ◌+◌, ◌*◌, ◌≤◌, min, Bool, false, [], Option, Some, IsSome}
use Rattle.cx_names.specs.declared.ObjectNo.{ObjectNo}
use Rattle.cx_machine.specs.Machine as all
use Rattle.cx_machine.specs.Meaning.{run, bit}
use Rattle.cx_turn.specs.declared.view.View.{View}
use Rattle.cx_turn.specs.Views.{opening_view, split_left, less_share, both_of, having_met}
use Rattle.cx_items.specs.declared.item.Item.{Item}
use Rattle.cx_items.specs.declared.kept.Kept.{Kept}
use Rattle.cx_items.specs.Memory.{nothing}
use Rattle.cx_asks.specs.declared.ask.Ask.{Ask}
use Rattle.cx_kinds.specs.Acts.{StepsIf, CanSplit}
use Rattle.cx_kinds.specs.Holding.{changes_back, owes_completion}
use Rattle.cx_kinds.specs.Seats.{Sight}

pub record IsSeen (a : Sight) : Type 0 where
  pub view : View all.State
  pub seen : a view

-- it went on by this item alone, or stayed
pub record Acted (o : ObjectNo) (ask : Ask) (a a' : Sight) (x : Option Item) : Type 0 where
  pub does : (V : View all.State) → a V → (W : View all.State) × a' W × StepsIf o ask V W x

-- what is served where a change is left is done
pub record Served (a : Sight) (serves : ℕ → Type 0) (x : Option Item) : Type 0 where
  pub served : (V : View all.State) → a V → 1 ≤ V.left → serves V.share → IsSome x

-- the same pass, of the same thread
pub record IsOfSame {M : Type 0} (v w : View M) : Type 0 where
  pub number : w.number ≡ v.number
  pub seats : w.seats ≡ v.seats
  pub start : w.start ≡ v.start
  pub splits : w.splits ≡ v.splits

-- it is the same thread's
pub record Keeps (a a' : Sight) : Type 0 where
  pub keeps : (V : View all.State) → a V → (W : View all.State) × a' W × IsOfSame V W

-- all is given back where as many changes are left as that takes
pub record IsFreed (a : Sight) (k k' : Kept) : Type 0 where
  pub free : (V : View all.State) → a V → changes_back k ≤ V.left → k' ≡ nothing

-- it holds nothing, or no change is left
pub record IsFree (a : Sight) (k : Kept) : Type 0 where
  pub free : (V : View all.State) → a V → (k ≡ nothing) ⊎ (V.left ≡ 0)

-- what was begun is ended where as many changes are left as all takes
pub record IsEnded (a : Sight) (k : Kept) (begun begun' : Bool) : Type 0 where
  pub ended : (V : View all.State) → a V → changes_back k + bit begun ≤ V.left → begun' ≡ false

-- nothing is begun, or no change is left
pub record IsIdle (a : Sight) (begun : Bool) : Type 0 where
  pub idle : (V : View all.State) → a V → (begun ≡ false) ⊎ (V.left ≡ 0)

-- the history leaves a completion due by the thread itself, or not
pub record IsCompleting (a : Sight) (b : Bool) : Type 0 where
  pub told : (V : View all.State) → a V → b ≡ owes_completion V.number (run all.step (Some V.start) V.front)

-- it stayed
pub record Stays (a a' : Sight) : Type 0 where
  pub stays : (V : View all.State) → a V → a' V

-- it goes on with what the other has seen
pub record Met (other a a' : Sight) : Type 0 where
  pub sees : (V W : View all.State) → other V → a W → a' (having_met W V)

-- it took the other in
pub record Joined (other a a' : Sight) : Type 0 where
  pub sees : (V W : View all.State) → a V → other W → a' (both_of V W)

-- it may be split
pub record MaySplit (calls : ℕ) (a : Sight) : Type 0 where
  pub may : (V : View all.State) → a V → CanSplit V calls

-- the view of a pass that was split off, with so many changes and this share: it has seen what the first had, and made nothing
pub record IsSplitOff (calls part : ℕ) (V U : View all.State) : Type 0 where
  pub number : U.number ≡ V.splits + 1
  pub seats : U.seats ≡ V.seats
  pub start : U.start ≡ V.start
  pub front : U.front ≡ V.front
  pub mine : U.mine ≡ []
  pub looks : U.looks ≡ []
  pub taken : U.taken ≡ []
  pub holds : U.holds ≡ []
  pub left : U.left ≡ calls
  pub share : U.share ≡ part
  pub splits : U.splits ≡ 0

-- it was split into these two, of which the second has so much of the share, or all where it was less
pub record SplitInto (calls most : ℕ) (a a' b : Sight) : Type 0 where
  pub first : (V : View all.State) → a V → a' (less_share (split_left V calls) (min most V.share))
  pub second : (V : View all.State) → a V → (U : View all.State) × b U × IsSplitOff calls (min most V.share) V U

-- main has seen nothing of an object that opens so, of which so many threads have a part
pub record IsNew (threads : ℕ) (start : all.State) (share : ℕ) (a : Sight) : Type 0 where
  pub seen : a (opening_view start threads (131072 * threads) share)
