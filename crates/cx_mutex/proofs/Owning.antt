-- Who owns a mutex, and at how many levels, stays so while others act.
use Rattle.std.proofs.Common.{◌≡◌, ◌≢◌, ◌∙◌, ℕ, ◌+◌, pos, Bool, true, false, not, cond, List, [], ◌∷◌, ◌++◌, length, Some, refl, sym, ap, subst, nat_eq, eq-eqb}
use mathlib.Core.List.{IsPrefix}
use Rattle.cx_names.specs.declared.ThreadNo.{ThreadNo}
use Rattle.cx_names.specs.declared.Reply.{Reply}
use Rattle.cx_machine.specs.declared.kind.Entry.{Entry}
use Rattle.cx_machine.specs.declared.kind.Look.{Look}
use Rattle.cx_machine.specs.declared.kind.Op.TheVariants as ops
use Rattle.cx_machine.specs.Acts.{at_entry, at_look}
use Rattle.cx_machine.specs.Meaning.{run, look_of}
use Rattle.cx_machine.specs.Mutex.{Mutex, owns, can_lock, levels_of, step, shows}
use Rattle.cx_machine.proofs.Owners.{AreOthers, others_run, others_levels, IsPlain, plain_run, owner_there, shown_shut}
use Rattle.cx_turn.specs.declared.view.View.{View}
use Rattle.cx_turn.specs.Positions.{positions}
use Rattle.cx_turn.proofs.Histories.{some_is, leads_on, run-append, positions-append}
use Rattle.cx_turn.proofs.Moves.{found_own}
use Rattle.cx_turn.specs.Acts.{seen, Makes, Looks}
use Rattle.cx_mutex.specs.Kinds.{locking}
use Rattle.cx_mutex.specs.Owners.{Owning, OwnedByAnother, AtLevel}

none_others : (n k : ℕ) (es : List Entry) → positions n k es ≡ [] → AreOthers n es
none_others n k [] e = tt
none_others n k (x ∷ xs) e = (λ same. absurd (let z : k ∷ positions n (k + 1) xs ≡ [] = subst (λ b. cond b (k ∷ positions n (k + 1) xs) (positions n (k + 1) xs) ≡ []) (eq-eqb x.by.0 n same) e in cc), none_others n (k + 1) xs (rest e))
  where
    rest : positions n k (x ∷ xs) ≡ [] → positions n (k + 1) xs ≡ []
    rest = elim (nat_eq x.by.0 n) as (λ b. cond b (k ∷ positions n (k + 1) xs) (positions n (k + 1) xs) ≡ [] → positions n (k + 1) xs ≡ []) [ true ↦ λ z. absurd (let y : k ∷ positions n (k + 1) xs ≡ [] = z in cc) | false ↦ λ z. z ]

nothing_more : {A : Type 0} (xs ys : List A) → xs ++ ys ≡ xs → ys ≡ []
nothing_more [] ys e = e
nothing_more {A} (x ∷ xs) ys e = let t : xs ++ ys ≡ xs = cc in nothing_more xs ys t

-- what is so of the state that a pass has seen, and of its thread
abbrev At : (Mutex → ℕ → Type 0) → View Mutex → Type 0
At F v = (m : Mutex) → run (at_entry step) (Some v.start) v.front ≡ Some m → F m v.number

-- it stays so while others act
abbrev Stays : (Mutex → ℕ → Type 0) → Type 0
Stays F = (n : ℕ) (es : List Entry) (m m' : Mutex) → AreOthers n es → F m n → run (at_entry step) (Some m) es ≡ Some m' → F m' n

module _ (F : Mutex → ℕ → Type 0) (stays : Stays F) where
  -- also of a pass that has seen more, and made nothing
  still : (v w : View Mutex) (ps : List ℕ) (m : Mutex) → IsPrefix v.front w.front → w.start ≡ v.start → w.number ≡ v.number → positions v.number 0 v.front ≡ ps → positions v.number 0 w.front ≡ ps → run (at_entry step) (Some v.start) v.front ≡ Some m → At F v → At F w
  still v w ps m p start number at_v at_w legal was m' leads =
      let longer : positions v.number 0 w.front ≡ positions v.number 0 v.front ++ positions v.number (0 + length v.front) p.0 = ap (positions v.number 0) (sym p.1) ∙ positions-append v.number 0 v.front p.0 in
      let none = nothing_more (positions v.number 0 v.front) (positions v.number (0 + length v.front) p.0) (sym longer ∙ (at_w ∙ sym at_v)) in
      let on : run (at_entry step) (Some m) p.0 ≡ Some m' =
      ap (λ o. run (at_entry step) o p.0) (sym legal) ∙ (sym (run-append (at_entry step) (Some v.start) v.front p.0) ∙ (ap (run (at_entry step) (Some v.start)) p.1 ∙ (ap (λ s. run (at_entry step) (Some s) w.front) (sym start) ∙ leads))) in
      subst (λ (k : ℕ). F m' k) (sym number) (stays v.number p.0 m m' (none_others v.number (0 + length v.front) p.0 none) (was m legal) on)

  -- after a look
  looked : (v w : View Mutex) (l : Look) (m : Mutex) → Looks locking v w l → positions v.number 0 v.front ≡ v.mine → positions w.number 0 w.front ≡ w.mine → run (at_entry step) (Some v.start) v.front ≡ Some m → At F v → At F w
  looked v w l m is at_v at_w legal was =
      let number : w.number ≡ v.number = ap (λ (x : View Mutex). x.number) is.view in
      let mine : w.mine ≡ v.mine = ap (λ (x : View Mutex). x.mine) is.view in
      still v w v.mine m is.later (ap (λ (x : View Mutex). x.start) is.view) number at_v (ap (λ n. positions n 0 w.front) (sym number) ∙ (at_w ∙ mine)) legal was

  -- at the state that a change was made in
  found : (v w : View Mutex) (e : Entry) (n : ℕ) (is : Makes locking v w e n) (m : Mutex) → e.by.0 ≡ v.number → positions v.number 0 v.front ≡ v.mine → positions w.number 0 w.front ≡ w.mine → run (at_entry step) (Some v.start) v.front ≡ Some m → At F v → F is.now v.number
  found v w e n is m by at_v at_w legal was = still v (seen v is.found) v.mine m is.later refl refl at_v (found_own locking v w e n is by at_w) legal was is.now is.leads

-- what is so after a pass's change
after : (F : Mutex → ℕ → Type 0) (v w : View Mutex) (e : Entry) (n : ℕ) (is : Makes locking v w e n) → e.by.0 ≡ v.number → F is.after e.by.0 → At F w
after F v w e n is by fact m leads =
    let front : w.front ≡ is.found ++ e ∷ [] = ap (λ (x : View Mutex). x.front) is.view in
    let start : w.start ≡ v.start = ap (λ (x : View Mutex). x.start) is.view in
    let number : w.number ≡ e.by.0 = ap (λ (x : View Mutex). x.number) is.view ∙ sym by in
    let on : run (at_entry step) (Some v.start) (is.found ++ e ∷ []) ≡ Some is.after = leads_on (at_entry step) v.start is.found e is.now is.after is.leads is.enabled in
    let same : m ≡ is.after = some_is m is.after (sym leads ∙ ((λ i. run (at_entry step) (Some (start i)) (front i)) ∙ on)) in
    subst (λ (z : Mutex × ℕ). F z.0 z.1) (λ i. (sym same i, sym number i)) fact

-- ---- owners

abbrev OwnsIt : Bool → Mutex → ℕ → Type 0
OwnsIt b m n = owns m n ≡ b

owns_on : (b : Bool) → Stays (OwnsIt b)
owns_on b n es m m' others is on = others_run b n es m m' others is on

-- a pass that has seen more, and made nothing, owns the mutex as before
pub still_owning : (b : Bool) (v w : View Mutex) (ps : List ℕ) (m : Mutex) → IsPrefix v.front w.front → w.start ≡ v.start → w.number ≡ v.number → positions v.number 0 v.front ≡ ps → positions v.number 0 w.front ≡ ps → run (at_entry step) (Some v.start) v.front ≡ Some m → Owning b v → Owning b w
still_owning b = still (OwnsIt b) (owns_on b)

-- what a pass owns after its change
pub owning_after : (b : Bool) (v w : View Mutex) (e : Entry) (n : ℕ) (is : Makes locking v w e n) → e.by.0 ≡ v.number → owns is.after e.by.0 ≡ b → Owning b w
owning_after b = after (OwnsIt b)

-- what a pass owns after a look
pub owning_on : (b : Bool) (v w : View Mutex) (l : Look) (m : Mutex) → Looks locking v w l → positions v.number 0 v.front ≡ v.mine → positions w.number 0 w.front ≡ w.mine → run (at_entry step) (Some v.start) v.front ≡ Some m → Owning b v → Owning b w
owning_on b = looked (OwnsIt b) (owns_on b)

-- who made no change doesn't own a mutex that opened free
pub never_owned : (v : View Mutex) → owns v.start v.number ≡ false → positions v.number 0 v.front ≡ [] → Owning false v
never_owned v free none m' leads = others_run false v.number v.front v.start m' (none_others v.number 0 v.front none) free leads

-- where an attempt of a thread that doesn't own the mutex missed, another owns it
pub missed_owner : (v w : View Mutex) (by : ThreadNo) (r : Reply) (k : ℕ) → Looks locking v w (look_of by ops.TryLock (pos 0) (pos 0) r k) → IsPlain v.start → by.0 ≡ w.number → Owning false w → OwnedByAnother w
missed_owner v w by r k is plain own owning m leads =
    let start : w.start ≡ v.start = ap (λ (x : View Mutex). x.start) is.view in
    let on : run (at_entry step) (Some v.start) w.front ≡ Some m = ap (λ s. run (at_entry step) (Some s) w.front) (sym start) ∙ leads in
    let same : is.now ≡ m = some_is is.now m (sym is.leads ∙ on) in
    let shut : not (can_lock m by.0) ≡ true = shown_shut m by r k (subst (λ (x : Mutex). at_look shows x (look_of by ops.TryLock (pos 0) (pos 0) r k) ≡ true) same is.shown) in
    subst (λ (n : ℕ). (t : ℕ) × (m.owner ≡ Some t) × (t ≢ n)) own (owner_there m by.0 (plain_run w.front v.start m plain on) shut (ap (owns m) own ∙ owning m leads))

-- ---- levels

abbrev HasAt : ℕ → Mutex → ℕ → Type 0
HasAt k m n = levels_of m n ≡ k

levels_on : (k : ℕ) → Stays (HasAt k)
levels_on k n es m m' others is on = others_levels k n es m m' others is on

pub still_levels : (k : ℕ) (v w : View Mutex) (ps : List ℕ) (m : Mutex) → IsPrefix v.front w.front → w.start ≡ v.start → w.number ≡ v.number → positions v.number 0 v.front ≡ ps → positions v.number 0 w.front ≡ ps → run (at_entry step) (Some v.start) v.front ≡ Some m → AtLevel k v → AtLevel k w
still_levels k = still (HasAt k) (levels_on k)

pub levels_looked : (k : ℕ) (v w : View Mutex) (l : Look) (m : Mutex) → Looks locking v w l → positions v.number 0 v.front ≡ v.mine → positions w.number 0 w.front ≡ w.mine → run (at_entry step) (Some v.start) v.front ≡ Some m → AtLevel k v → AtLevel k w
levels_looked k = looked (HasAt k) (levels_on k)

pub levels_found : (k : ℕ) (v w : View Mutex) (e : Entry) (n : ℕ) (is : Makes locking v w e n) (m : Mutex) → e.by.0 ≡ v.number → positions v.number 0 v.front ≡ v.mine → positions w.number 0 w.front ≡ w.mine → run (at_entry step) (Some v.start) v.front ≡ Some m → AtLevel k v → levels_of is.now v.number ≡ k
levels_found k = found (HasAt k) (levels_on k)

pub levels_after : (k : ℕ) (v w : View Mutex) (e : Entry) (n : ℕ) (is : Makes locking v w e n) → e.by.0 ≡ v.number → levels_of is.after e.by.0 ≡ k → AtLevel k w
levels_after k = after (HasAt k)

-- who made no change has no level of a mutex that opened free
pub no_level : (v : View Mutex) → levels_of v.start v.number ≡ 0 → positions v.number 0 v.front ≡ [] → AtLevel 0 v
no_level v free none m' leads = others_levels 0 v.number v.front v.start m' (none_others v.number 0 v.front none) free leads
