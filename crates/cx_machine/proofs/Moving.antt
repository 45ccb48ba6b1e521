-- The list of values keeps to the registered IDs.
use Rattle.std.proofs.Common.{◌≡◌, ℕ, zero, suc, ◌+◌, ◌<◌, ◌≤◌, ◌==◌, nat_lt, ℤ, pos, Bool, true, false, not, cond, List, [], ◌∷◌, ◌++◌, length, get_or, Option, Some, None, Result, Ok, Err, IsSome, IsOk, IfOk, IfErr, refl, ap, sym, ◌∙◌, subst, arith, ◌⊎◌, inl, inr}
use Rattle.std.specs.List.{remove, position_or_len}
use Rattle.std.proofs.lemmas.List.Quantifiers.{position-Some}
use Rattle.std.proofs.lemmas.Bool.{cases_Bool, eqb-true, eq-eqb, lt-ltb, and_parts}
use Rattle.cx_names.specs.declared.Reply.{Reply}
use Rattle.cx_names.specs.declared.Reply.TheVariants as replies
use Rattle.cx_machine.specs.declared.kind.Op.{Op}
use Rattle.cx_machine.specs.declared.kind.Op.TheVariants as ops
use Rattle.cx_machine.specs.declared.registry.Callback.{Callback}
use Rattle.cx_machine.specs.Words.{is_thread, has, without, Applies}
use Rattle.cx_machine.specs.Meaning.{IsOnceEach, times}
use Rattle.cx_machine.specs.Stop.{Stop, step, is_requested, can_add, runs, can_register, can_register_now, can_begin, is_fresh, requested, with_another, without_one, registered_too, began, finished, removed, ran}
use Rattle.cx_machine.specs.Kept.{made, when_some}
use Rattle.cx_machine.specs.Callbacks.{members, HasRoom}
use Rattle.cx_machine.specs.Values.{ids_of, value_of, place_of, others, PutsIn, TakesOut, Ready, Moves, IsThere, MayMove}
use Rattle.cx_machine.proofs.Counts.{apart, without_none, fresh_unregistered, room_to_register}

pub length-ids_of : {C : Type 0} (cs : List (Callback C)) → length (ids_of cs) ≡ length cs
length-ids_of [] = refl
length-ids_of (c ∷ cs) = let rest = length-ids_of cs in omega (arith, rest)

pub ids_of-push : {C : Type 0} (cs : List (Callback C)) (c : Callback C) → ids_of (cs ++ c ∷ []) ≡ ids_of cs ++ c.id ∷ []
ids_of-push [] c = refl
ids_of-push (x ∷ xs) c = ap (λ (ns : List ℕ). x.id ∷ ns) (ids_of-push xs c)

pub ids_of-others : {C : Type 0} (cs : List (Callback C)) (id : ℕ) → ids_of (others cs id) ≡ without (ids_of cs) id
ids_of-others [] id = refl
ids_of-others {C} (c ∷ cs) id =
    let rest = ids_of-others cs id in
    elim (c.id == id) as (λ b. ids_of (cond (not b) (c ∷ others cs id) (others cs id)) ≡ cond (not b) (c.id ∷ without (ids_of cs) id) (without (ids_of cs) id)) [ true ↦ rest | false ↦ ap (λ (ns : List ℕ). c.id ∷ ns) rest ]

pub others_none : {C : Type 0} (cs : List (Callback C)) (id : ℕ) → times id (ids_of cs) ≡ 0 → others cs id ≡ cs
others_none [] id h = refl
others_none {C} (c ∷ cs) id h = by_cases (cases_Bool (c.id == id)) (λ q. others_none cs id q)
  where
    by_cases : ((c.id == id) ≡ true) ⊎ ((c.id == id) ≡ false) → (times id (ids_of cs) ≡ 0 → others cs id ≡ cs) → others (c ∷ cs) id ≡ c ∷ cs
    by_cases (inl e) rest = let h' : 1 + times id (ids_of cs) ≡ 0 = rw e at h in absurd (omega (arith, h'))
    by_cases (inr e) rest = let q = rest (omega (arith, h)) in rw e (ap (λ (xs : List (Callback C)). c ∷ xs) q)

pub stands : {C : Type 0} (cs : List (Callback C)) (i id : ℕ) (d : Callback C) → i < length cs → (get_or cs i d).id ≡ id → 1 ≤ times id (ids_of cs)
stands [] i id d lt e = absurd (omega (arith, lt))
stands (c ∷ cs) zero id d lt e = let q : (c.id == id) ≡ true = eq-eqb c.id id e in rw q (omega arith)
stands (c ∷ cs) (suc i) id d lt e = let rest = stands cs i id d (omega (arith, lt)) e in omega (arith, rest)

-- the callback at the place where its ID stands
pub taken_at : {C : Type 0} (cs : List (Callback C)) (i id : ℕ) (d : Callback C) → i < length cs → (get_or cs i d).id ≡ id → times id (ids_of cs) ≤ 1 → (remove cs i ≡ others cs id) × (value_of cs id ≡ Some (get_or cs i d).value)
taken_at [] i id d lt e once = absurd (omega (arith, lt))
taken_at (c ∷ cs) zero id d lt e once =
    let q : (c.id == id) ≡ true = eq-eqb c.id id e in
    let o : 1 + times id (ids_of cs) ≤ 1 = rw q at once in
    let none = others_none cs id (omega (arith, o)) in
    (rw q (sym none), rw q refl)
taken_at {C} (c ∷ cs) (suc i) id d lt e once = by_cases (cases_Bool (c.id == id)) (stands cs i id d (omega (arith, lt)) e) (λ o. taken_at cs i id d (omega (arith, lt)) e o)
  where
    by_cases : ((c.id == id) ≡ true) ⊎ ((c.id == id) ≡ false) → 1 ≤ times id (ids_of cs) → (times id (ids_of cs) ≤ 1 → (remove cs i ≡ others cs id) × (value_of cs id ≡ Some (get_or cs i d).value)) → (c ∷ remove cs i ≡ others (c ∷ cs) id) × (value_of (c ∷ cs) id ≡ Some (get_or cs i d).value)
    by_cases (inl q) s rest = let o : 1 + times id (ids_of cs) ≤ 1 = rw q at once in absurd (omega (arith, o, s))
    by_cases (inr q) s rest =
        let o : times id (ids_of cs) ≤ 1 = omega (arith, once) in
        let r = rest o in
        (rw q (ap (λ (xs : List (Callback C)). c ∷ xs) r.0), rw q r.1)

pub stops : {C : Type 0} (cs : List (Callback C)) (id : ℕ) → has (ids_of cs) id ≡ true → position_or_len (λ (c : Callback C). c.id == id) cs < length cs
stops [] id h = cc h
stops {C} (c ∷ cs) id h = by_cases (cases_Bool (c.id == id)) (λ q. stops cs id q)
  where
    by_cases : ((c.id == id) ≡ true) ⊎ ((c.id == id) ≡ false) → (has (ids_of cs) id ≡ true → position_or_len (λ (c : Callback C). c.id == id) cs < length cs) → position_or_len (λ (c : Callback C). c.id == id) (c ∷ cs) < suc (length cs)
    by_cases (inl e) rest = rw e (omega arith)
    by_cases (inr e) rest = let h' : has (ids_of cs) id ≡ true = rw e at h in let q = rest h' in rw e (omega (arith, q))

-- a callback that is there is found
pub is_found : {C : Type 0} (cs : List (Callback C)) (id : ℕ) → has (ids_of cs) id ≡ true → place_of cs id ≡ None → ⊥
is_found {C} cs id h e =
    let lt = lt-ltb (position_or_len (λ (c : Callback C). c.id == id) cs) (length cs) (stops cs id h) in
    let e' : Some (position_or_len (λ (c : Callback C). c.id == id) cs) ≡ None = rw lt at e in
    cc e'

pub found_there : {C : Type 0} (cs : List (Callback C)) (place id : ℕ) (out : Callback C) (new : List (Callback C)) → IsThere cs id → place_of cs id ≡ Some place → out ≡ get_or cs place out → new ≡ remove cs place → TakesOut cs id new (Some out.value)
found_there {C} cs place id out new is_there e is left =
    let at_ = position-Some (λ (c : Callback C). c.id == id) cs place out e in
    let t = taken_at cs place id out at_.0 (eqb-true (get_or cs place out).id id at_.1) is_there.1 in
    let v : Some out.value ≡ Some (get_or cs place out).value = ap (λ (c : Callback C). Some c.value) is in
    record { list = left ∙ t.0; taken = v ∙ sym t.1; is_one = refl }

-- the change was made
pub applied : {S : Type 0} (next : Option S) (b : Bool) (old new : S) → IsSome next → Applies b next old new → next ≡ Some new
applied next true old new is a = a
applied None false old new is a = cc is
applied (Some x) false old new is a = let e : Some x ≡ None = a.0 in cc e

pub applied_ok : {S E : Type 0} (next : Option S) (r : Result Bool E) (old new : S) → IsSome next → IsOk r → IfOk r (λ made. Applies made next old new) → next ≡ Some new
applied_ok next (Ok b) old new is ok a = applied next b old new is a
applied_ok next (Err e) old new is ok a = cc ok

-- the IDs of the list stay those that are registered
abbrev Same : {C : Type 0} → List (Callback C) → Stop → Type 0
Same cs s = ids_of cs ≡ s.registered

pub unmoved : {C : Type 0} (s t : Stop) (old new : List (Callback C)) → Same old s → new ≡ old → t.registered ≡ s.registered → Same new t
unmoved {C} s t old new same is reg = ap (λ (cs : List (Callback C)). ids_of cs) is ∙ (same ∙ sym reg)

pub put_same : {C : Type 0} (s : Stop) (id : ℕ) (old new : List (Callback C)) (hand rest : Option C) → Same old s → IsSome hand → PutsIn old id hand new rest → Same new (registered_too s id)
put_same s id old new None rest same is p = cc is
put_same {C} s id old new (Some v) rest same is p =
    let c : Callback C = record { id = id; value = v } in
    ap (λ (cs : List (Callback C)). ids_of cs) (p.list v refl) ∙ (ids_of-push old c ∙ ap (λ (ns : List ℕ). ns ++ id ∷ []) same)

pub out_same : {C : Type 0} (s : Stop) (id : ℕ) (old new : List (Callback C)) (out : Option C) → Same old s → TakesOut old id new out → ids_of new ≡ without s.registered id
out_same {C} s id old new out same t =
    ap (λ (cs : List (Callback C)). ids_of cs) t.list ∙ (ids_of-others old id ∙ ap (λ (ns : List ℕ). without ns id) same)

pub same_after : {C : Type 0} (s t : Stop) (by : ℕ) (op : Op) (a : Option ℕ) (b : ℤ) (r : Reply) (old new : List (Callback C)) (hand rest : Option C) → Same old s → Ready hand op r → Moves old hand op a r new rest → step s by op a b r ≡ Some t → Same new t
same_after s t by ops.Request (Some zero) (pos zero) replies.Ok old new hand rest same ready m e = made (Same new) (not (is_requested s)) (requested s by) t (λ _. unmoved s (requested s by) old new same m.0 refl) e
same_after s t by ops.Another (Some zero) (pos zero) replies.Ok old new hand rest same ready m e = made (Same new) (can_add s) (with_another s) t (λ _. unmoved s (with_another s) old new same m.0 refl) e
same_after s t by ops.Drop (Some zero) (pos zero) replies.Ok old new hand rest same ready m e = made (Same new) (nat_lt 0 s.sources) (without_one s) t (λ _. unmoved s (without_one s) old new same m.0 refl) e
same_after s t by ops.Register (Some id) (pos zero) replies.Ok old new hand rest same ready m e = made (Same new) (can_register s by id) (registered_too s id) t (λ _. put_same s id old new hand rest same ready m) e
same_after s t by ops.RegisterNow (Some id) (pos zero) replies.Ok old new hand rest same ready m e = made (Same new) (can_register_now s by id) (began s by id) t (λ c. unmoved s (began s by id) old new same m.0 (without_none s.registered id (fresh_unregistered s by id (and_parts (is_requested s) (is_fresh s by id) c).1))) e
same_after s t by ops.Begin (Some id) (pos zero) replies.Ok old new hand rest same ready m e = made (Same new) (can_begin s by id) (began s by id) t (λ _. out_same s id old new rest same m) e
same_after s t by ops.Finish (Some id) (pos zero) replies.Ok old new hand rest same ready m e = made (Same new) (runs s.running by id) (finished s by id) t (λ _. unmoved s (finished s by id) old new same m.0 refl) e
same_after s t by ops.Deregister (Some id) (pos zero) replies.Removed old new hand rest same ready m e = made (Same new) (has s.registered id) (removed s id) t (λ _. out_same s id old new rest same m) e
same_after s t by ops.Deregister (Some id) (pos zero) replies.Ran old new hand rest same ready m e = made (Same new) (has s.ended id) (ran s id) t (λ _. unmoved s (ran s id) old new same m.0 refl) e
same_after s t by ops.Deregister (Some id) (pos zero) replies.Inside old new hand rest same ready m e = made (Same new) (runs s.running by id) s t (λ _. unmoved s s old new same m.0 refl) e
same_after s t by _ _ _ _ old new hand rest same ready m e = cc e

-- a change that the state enables finds what its move needs
pub there : {C : Type 0} (s : Stop) (old : List (Callback C)) (id : ℕ) → Same old s → IsOnceEach (members s) → has s.registered id ≡ true → IsThere old id
there s old id same once h =
    let a = (apart s.registered s.running s.ended s.gone id once).sum in
    let one : times id s.registered ≤ 1 = omega (arith, a) in
    (ap (λ (ns : List ℕ). has ns id) same ∙ h, subst (λ (ns : List ℕ). times id ns ≤ 1) (sym same) one)

module _ {C : Type 0} (s : Stop) (by : ℕ) (old : List (Callback C)) (room cap : ℕ) (same : Same old s) (once : IsOnceEach (members s)) (fits : length s.registered + room ≤ cap) where
  move_register : (a : Option ℕ) (b : ℤ) (r : Reply) → IsSome (step s by ops.Register a b r) → HasRoom room s (step s by ops.Register a b r) → MayMove old cap ops.Register a r
  move_register (Some id) (pos zero) replies.Ok is has_room =
      let w = when_some (can_register s by id) (registered_too s id) is in
      let one = room_to_register s by id room w.0 has_room in
      let l = length-ids_of old in
      let q : length (ids_of old) ≡ length s.registered = ap (λ (ns : List ℕ). length ns) same in
      omega (arith, one, l, q, fits)
  move_register _ _ _ is has_room = cc is

  move_begin : (a : Option ℕ) (b : ℤ) (r : Reply) → IsSome (step s by ops.Begin a b r) → MayMove old cap ops.Begin a r
  move_begin (Some id) (pos zero) replies.Ok is =
      let w = when_some (can_begin s by id) (began s by id) is in
      there s old id same once (and_parts (is_thread s.requester by) (has s.registered id) w.0).1
  move_begin _ _ _ is = cc is

  move_deregister : (a : Option ℕ) (b : ℤ) (r : Reply) → IsSome (step s by ops.Deregister a b r) → MayMove old cap ops.Deregister a r
  move_deregister (Some id) (pos zero) replies.Removed is =
      let w = when_some (has s.registered id) (removed s id) is in
      there s old id same once w.0
  move_deregister (Some id) (pos zero) replies.Ran is = tt
  move_deregister (Some id) (pos zero) replies.Inside is = tt
  move_deregister _ _ _ is = cc is

  pub may_move : (op : Op) (a : Option ℕ) (b : ℤ) (r : Reply) → IsSome (step s by op a b r) → HasRoom room s (step s by op a b r) → MayMove old cap op a r
  may_move ops.Register a b r is has_room = move_register a b r is has_room
  may_move ops.Begin a b r is has_room = move_begin a b r is
  may_move ops.Deregister a b r is has_room = move_deregister a b r is
  may_move _ a b r is has_room = tt

-- with as much room as was asked for, or with what there was, all fit
pub grown_fits : {T E : Type 0} (r : Result T E) (n room room' total total' cap : ℕ) → room < n → total + n ≤ cap + room → IfErr r (λ _. room' ≡ room) → IfOk r (λ _. room < n → room' ≡ n) → total' + room ≡ total + room' → total' ≤ cap
grown_fits (Ok x) n room room' total total' cap lt fits err ok moved = let e = ok lt in omega (arith, e, fits, moved)
grown_fits (Err x) n room room' total total' cap lt fits err ok moved = omega (arith, err, fits, moved, lt)
