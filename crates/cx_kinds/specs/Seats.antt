-- What is seen through a token, whatever its kind.
use Rattle.std.specs.Prelude.{◌≡◌, ℕ, true}
use Rattle.std.specs.Arc.{arc_value}
use Rattle.crossbeam_utils.specs.Padded.{padded_value}
use Rattle.cx_names.specs.declared.ThreadNo.{ThreadNo}
use Rattle.cx_machine.specs.declared.machine.Meaning.{Ghosts}
use Rattle.cx_machine.specs.Machine as all
use Rattle.cx_turn.specs.declared.view.View.{View}
use Rattle.cx_turn.specs.Views.{IsKnown}
use Rattle.cx_kinds.specs.AnyKind.{any_kind, erase}
use Rattle.cx_kinds.specs.declared.seat.Seat.{Seat}

-- what has been seen of an object
abbrev pub Sight : Type 1
Sight = View all.State → Type 0

-- what holds of each view that a token of an object has seen
pub record IsRight {M X K : Type 0} (G : Ghosts M) (knows : X → K → View M → Type 0) (number : K → ThreadNo) (share : K → ℕ) (start : X → M) (x : X) (k : K) (v : View M) : Type 0 where
  pub numbered : v.number ≡ (number k).0
  pub shared : v.share ≡ share k
  pub started : v.start ≡ start x
  pub counts : v.counts ≡ true
  pub only : (w : View M) → knows x k w → w ≡ v
  pub known : IsKnown G v

-- it is what has been seen, the only such view, of an object that opens so, and its share is this
pub record IsSight (saw : Sight) (opens : all.State) (share : ℕ) (V : View all.State) : Type 0 where
  pub saw_it : saw V
  pub only : (W : View all.State) → saw W → W ≡ V
  pub started : V.start ≡ opens
  pub shared : V.share ≡ share
  pub counts : V.counts ≡ true
  pub known : IsKnown any_kind V

module _ {M K X : Type 0} (knows : X → K → View M → Type 0) (share : K → ℕ) (start : X → M) (f : M → all.State) where
  -- the token is one of this object and has seen so much
  abbrev pub Sees : X → K → Sight
  Sees x k V = (v : View M) × knows x k v × (V ≡ erase f v)

  -- what has been seen through the token of this object
  abbrev pub SeesSo : X → K → Sight
  SeesSo x k V = IsSight (Sees x k) (f (start x)) (share k) V

  -- the seat has seen so much
  abbrev pub KnowsSeat : Seat X M K → Sight
  KnowsSeat s V = SeesSo (padded_value (arc_value s.object)) s.token V
