-- The values of the registered callbacks suit their IDs, through each change.
use Rattle.std.proofs.Common.{◌≡◌, ◌∙◌, ℕ, ◌==◌, not, true, false, List, [], ◌∷◌, ◌++◌, Option, Some, None, IsSome, refl, sym, ap, subst, cond, ◌⊎◌, inl, inr}
use Rattle.std.proofs.lemmas.Bool.{cases_Bool, eqb-true}
use Rattle.cx_names.specs.declared.Reply.{Reply}
use Rattle.cx_names.specs.declared.Reply.TheVariants as replies
use Rattle.cx_machine.specs.declared.kind.Op.{Op}
use Rattle.cx_machine.specs.declared.kind.Op.TheVariants as ops
use Rattle.cx_machine.specs.declared.registry.Callback.{Callback}
use Rattle.cx_machine.specs.Values.{others, value_of, PutsIn, TakesOut, Moves}
use Rattle.cx_turn.proofs.Histories.{some_is}
use Rattle.cx_stop.specs.Values.{AllSuit}
use Rattle.cx_stop.specs.Acts.{MovesNothing}

module _ {C : Type 0} (suits : C → ℕ → Type 0) where
  pub suit_others : (cs : List (Callback C)) (id : ℕ) → AllSuit suits cs → AllSuit suits (others cs id)
  suit_others [] id h = tt
  suit_others (c ∷ cs) id h =
      let rest = suit_others cs id h.1 in
      elim (c.id == id) as (λ b. AllSuit suits (cond (not b) (c ∷ others cs id) (others cs id))) [ true ↦ rest | false ↦ (h.0, rest) ]

  pub suit_value : (cs : List (Callback C)) (id : ℕ) (x : C) → AllSuit suits cs → value_of cs id ≡ Some x → suits x id
  suit_value [] id x h e = cc e
  suit_value (c ∷ cs) id x h e = at (cases_Bool (c.id == id)) (λ q. suit_value cs id x h.1 q)
    where
      at : ((c.id == id) ≡ true) ⊎ ((c.id == id) ≡ false) → (value_of cs id ≡ Some x → suits x id) → suits x id
      at (inl t) rest =
          let v : ◌≡◌ {A = Option C} (Some c.value) (Some x) = sym (ap (λ b. cond b (Some c.value) (value_of cs id)) t) ∙ e in
          subst (λ (p : C × ℕ). suits p.0 p.1) (λ i. (some_is c.value x v i, eqb-true c.id id t i)) h.0
      at (inr f) rest = rest (sym (ap (λ b. cond b (Some c.value) (value_of cs id)) f) ∙ e)

  pub suit_last : (cs : List (Callback C)) (id : ℕ) (x : C) → AllSuit suits cs → suits x id → AllSuit suits (cs ++ record { id = id; value = x } ∷ [])
  suit_last [] id x h s = (s, tt)
  suit_last (c ∷ cs) id x h s = (h.0, suit_last cs id x h.1 s)

  pub suit_same : (old new : List (Callback C)) → new ≡ old → AllSuit suits old → AllSuit suits new
  suit_same old new e h = subst (λ (cs : List (Callback C)). AllSuit suits cs) (sym e) h

  -- the value of a registration comes last
  pub suit_put : (old new : List (Callback C)) (id : ℕ) (x : C) (hand rest : Option C) → hand ≡ Some x → PutsIn old id hand new rest → suits x id → AllSuit suits old → AllSuit suits new
  suit_put old new id x hand rest e p s h = suit_same (old ++ record { id = id; value = x } ∷ []) new (p.list x e) (suit_last old id x h s)

  -- a value that is taken out suits its ID, and the others stay
  pub suit_taken : (old new : List (Callback C)) (id : ℕ) (out : Option C) → TakesOut old id new out → AllSuit suits old → AllSuit suits new
  suit_taken old new id out t h = suit_same (others old id) new t.list (suit_others old id h)

  pub suit_out : (old new : List (Callback C)) (id : ℕ) (out : Option C) (x : C) → TakesOut old id new out → out ≡ Some x → AllSuit suits old → suits x id
  suit_out old new id out x t e h = suit_value old id x h (sym t.taken ∙ e)

  -- a change that moves no value
  pub moves_nothing : (op : Op) (a : Option ℕ) (r : Reply) (old new : List (Callback C)) (hand rest : Option C) → MovesNothing op → Moves old hand op a r new rest → (new ≡ old) × (rest ≡ hand)
  moves_nothing ops.Request a r old new hand rest p m = m
  moves_nothing ops.Another a r old new hand rest p m = m
  moves_nothing ops.Drop a r old new hand rest p m = m
  moves_nothing ops.Finish a r old new hand rest p m = m
  moves_nothing _ a r old new hand rest p m = absurd p

  some_of : (o : Option C) → IsSome o → (x : C) × (o ≡ Some x)
  some_of None h = cc h
  some_of (Some x) h = (x, refl)

  -- a deregistration takes the value out where it hadn't begun, and else moves none
  pub back_suits : (r : Reply) (old new : List (Callback C)) (id : ℕ) (hand rest : Option C) → Moves old hand ops.Deregister (Some id) r new rest → AllSuit suits old → AllSuit suits new
  back_suits replies.Removed old new id hand rest m h = suit_taken old new id rest m h
  back_suits _ old new id hand rest m h = suit_same old new m.0 h

  pub back_value : (r : Reply) (old new : List (Callback C)) (id : ℕ) (hand rest : Option C) → Moves old hand ops.Deregister (Some id) r new rest → AllSuit suits old → r ≡ replies.Removed → (x : C) × (rest ≡ Some x) × suits x id
  back_value replies.Removed old new id hand rest m h e = let x = some_of rest m.is_one in (x.0, x.1, suit_out old new id rest x.0 m x.1 h)
  back_value _ old new id hand rest m h e = cc e
