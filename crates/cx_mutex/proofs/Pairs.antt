-- Two mutexes, named in order.
use Rattle.std.proofs.Common.{◌≡◌, ◌∙◌, ℕ, zero, suc, ◌<◌, [], ◌∷◌, slice_get, Some, refl, sym, arith}
use Rattle.cx_machine.specs.Mutex as machine
use Rattle.cx_turn.specs.declared.pass.Pass.{Pass}
use Rattle.cx_turn.proofs.Histories.{some_is}
use Rattle.cx_mutex.specs.declared.mutex.Mutex.{Mutex}
use Rattle.cx_mutex.specs.Together.{AreDistinct, IsReady, AreReady}

pub distinct_pair : AreDistinct (0 ∷ 1 ∷ [])
distinct_pair zero zero i a b = refl
distinct_pair zero (suc zero) i a b = some_is 0 1 (a ∙ sym b)
distinct_pair zero (suc (suc q)) i a b = cc b
distinct_pair (suc zero) zero i a b = some_is 1 0 (a ∙ sym b)
distinct_pair (suc zero) (suc zero) i a b = refl
distinct_pair (suc zero) (suc (suc q)) i a b = cc b
distinct_pair (suc (suc p)) q i a b = cc a

below_two : (p i : ℕ) → slice_get (0 ∷ 1 ∷ []) p ≡ Some i → i < 2
below_two zero i e = let z : 0 ≡ i = some_is 0 i e in omega arith
below_two (suc zero) i e = let z : 1 ≡ i = some_is 1 i e in omega arith
below_two (suc (suc p)) i e = cc e

one_of_two : {A B : Type 0} (F : A → B → Type 0) (x y : A) (o r : B) (i : ℕ) → i < 2 → F x o → F y r → (z : A) × (q : B) × (slice_get (x ∷ y ∷ []) i ≡ Some z) × (slice_get (o ∷ r ∷ []) i ≡ Some q) × F z q
one_of_two F x y o r zero lt one two = (x, o, refl, refl, one)
one_of_two F x y o r (suc zero) lt one two = (y, r, refl, refl, two)
one_of_two F x y o r (suc (suc n)) lt one two = absurd (omega (arith, lt))

pub ready_pair : (calls : ℕ) (x y : Mutex) (o r : Pass machine.Mutex) → IsReady calls x o → IsReady calls y r → AreReady (x ∷ y ∷ []) (o ∷ r ∷ []) (0 ∷ 1 ∷ []) 0 calls
ready_pair calls x y o r one two i named = one_of_two (IsReady calls) x y o r i (below_two named.0 i named.2) one two
