-- What a cell is asked for, what its state offers of it, and what came of it.
use Rattle.std.specs.Prelude.{◌≡◌, ℕ, ℤ, Option, Some, None, IsSome, IfSome, IsTrue}
use Rattle.cx_names.specs.declared.ThreadNo.{ThreadNo}
use Rattle.cx_names.specs.declared.Reply.{Reply}
use Rattle.cx_machine.specs.declared.kind.Op.{Op}
use Rattle.cx_machine.specs.declared.machine.Meaning.{Ghosts}
use Rattle.cx_machine.specs.Meaning.{change, look_of, IsShut, ShowsNone}
use Rattle.cx_turn.specs.declared.view.View.{View}
use Rattle.cx_turn.specs.declared.either.Either.{Either}
use Rattle.cx_turn.specs.declared.either.Either.TheVariants as eithers
use Rattle.cx_turn.specs.Passes.{CanPay}
use Rattle.cx_turn.specs.Acts.{Makes, Looks, Finds}
use Rattle.cx_cell.specs.declared.wish.Wish.{Wish}
use Rattle.cx_cell.specs.declared.offer.Offer.{Offer}
use Rattle.cx_cell.specs.declared.offer.Offer.TheVariants as offers

module _ {M : Type 0} (K : Ghosts M) where
  -- the state allows neither the change nor the look that is wished for
  pub record Denies (by : ThreadNo) (wish : Wish) (m : M) : Type 0 where
    pub shut : IfSome wish.change (λ op. IsShut K.step m by op wish.a wish.b)
    pub dark : IfSome wish.look (λ op. ShowsNone K.shows m by op wish.a wish.b)

  -- what the state offers of what is wished for: the change where it is enabled, else the look where it is shown
  abbrev pub Offers : M → ThreadNo → Wish → Offer → Type 0
  Offers m by wish (offers.Change op r) = (wish.change ≡ Some op) × IsSome (K.step m (change by op wish.a wish.b r)) × K.picks m (change by op wish.a wish.b r)
  Offers m by wish (offers.Look op r) = (wish.look ≡ Some op) × ((k : ℕ) → IsTrue (K.shows m (look_of by op wish.a wish.b r k)))
  Offers m by wish offers.Nothing = Denies by wish m

  -- the pass can pay for each change with these words, whatever the state that enables it
  abbrev pub Pays : ThreadNo → Op → ℤ → ℤ → View M → Type 0
  Pays by op a b v = (now after : M) (r : Reply) → K.step now (change by op a b r) ≡ Some after → CanPay K v (change by op a b r) now after

  -- what was done
  abbrev pub Does : ThreadNo → Wish → View M → View M → Either → Type 0
  Does by wish v w (eithers.Made r n) = (op : Op) × (wish.change ≡ Some op) × Makes K v w (change by op wish.a wish.b r) n
  Does by wish v w (eithers.Seen r k) = (op : Op) × (wish.look ≡ Some op) × Looks K v w (look_of by op wish.a wish.b r k)

  -- what an attempt came to
  abbrev pub Attempts : ThreadNo → Wish → View M → View M → Option Either → Type 0
  Attempts by wish v w None = Finds K (Denies by wish) v w
  Attempts by wish v w (Some done) = Does by wish v w done
