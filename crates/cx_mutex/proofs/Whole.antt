-- What is so of all mutexes that a call names, from what is so in the cyclic order of a round.
use Rattle.std.proofs.Common.{◌≡◌, ◌∙◌, ℕ, suc, ◌+◌, ◌<◌, ◌≤◌, List, ◌++◌, length, slice_get, Some, None, MatchOption, refl, sym, ap, subst, arith}
use Rattle.std.proofs.lemmas.Option.{slice_get_within}
use Rattle.cx_turn.proofs.Histories.{some_is}
use Rattle.cx_mutex.specs.declared.mutex.Mutex.{Mutex}
use Rattle.cx_mutex.specs.declared.several.Holds.{Holds}
use Rattle.cx_mutex.specs.Mutexes.{IsHeldBy}
use Rattle.cx_mutex.specs.Together.{Act, Went, hold_at, AreDistinct, turned, AreReady, Missed, missing_acts, locking_acts, Rounds, LockedAfter, BackedOff, OthersKept, AreHeld, AreFree, HaveLess, two_before}
use Rattle.cx_mutex.specs.Trying.{TakenFrom, FreedFrom, MissedFrom, HoldsKept, RoundLocks, RoundBacksOff, RoundFree}
use Rattle.cx_mutex.proofs.Orders.{named_turned, named_back, turned_none}
use Rattle.cx_mutex.proofs.Attempts.{P, two_most, went_on}

-- enough is left for fewer changes
pub ready_less : (all : List Mutex) (passes : List P) (ns : List ℕ) (from many few : ℕ) → few ≤ many → AreReady all passes ns from many → AreReady all passes ns from few
ready_less all passes ns from many few le ready k named = let r = ready k named in (r.0, r.1, r.2, r.3, record { idle = r.4.idle; bare = r.4.bare; left = (let l = r.4.left in omega arith) })

module _ (all : List Mutex) (which : List ℕ) (s : ℕ) (low : s < length which) where
  pub ready_turned : (passes : List P) (calls : ℕ) → AreReady all passes which 0 calls → AreReady all passes (turned s which) 0 calls
  ready_turned passes calls ready k named = ready k (named_back which s low named.0 k named.2)

  pub others_all : (old new : List P) → OthersKept old new (turned s which) 0 → OthersKept old new which 0
  others_all old new kept k none = kept k (λ named. none (named_back which s low named.0 k named.2))

  pub held_all : (old new : List P) (holds : Holds) (calls : ℕ) → AreDistinct which → AreReady all old which 0 calls → TakenFrom all old new which s 0 holds → AreHeld all new which holds
  held_all old new holds calls distinct ready taken p i at =
      let r = ready i (p, omega arith, at) in
      let t = taken i r.0 r.1 (named_turned which s low i (p, omega arith, at)) r.2 r.3 in
      let place : t.2.0 ≡ p = distinct t.2.0 p i t.2.1 at in
      (r.0, t.0, r.2, t.1, t.2.2.idle, subst (λ (z : ℕ). MatchOption (hold_at holds z) ⊥ (λ h. IsHeldBy r.0 t.0 h)) place t.2.2.holds)

  pub free_all : (old new : List P) (failed : ℕ) → FreedFrom all old new (turned s which) 0 failed → RoundFree all old new which
  free_all old new failed freed i x o named at_x at_o =
      let m = named_turned which s low i named in
      let b = freed m.0 i x o m.1 m.2 at_x at_o in
      (b.0, b.1, b.2.idle, b.2.bare, (let l = b.2.left in let t = two_most failed m.0 in omega arith))

  pub none_beyond : (holds : Holds) (h0 : Holds) → ((p : ℕ) → hold_at h0 p ≡ None) → HoldsKept which s 0 h0 holds → (p : ℕ) → length which ≤ p → hold_at holds p ≡ None
  none_beyond holds h0 none kept p le = kept p (λ i named at. (let w = slice_get_within which p i at in omega arith)) ∙ none p

-- after a round that backed off each pass is ready for the next
pub ready_again : (all : List Mutex) (which : List ℕ) (old new : List P) (calls : ℕ) → AreReady all old which 0 (calls + 2) → RoundFree all old new which → AreReady all new which 0 calls
ready_again all which old new calls ready free k named =
    let r = ready k named in
    let b = free k r.0 r.1 named r.2 r.3 in
    (r.0, b.0, r.2, b.1, record { idle = b.2; bare = b.3; left = (let l = r.4.left in let m = b.4 in omega arith) })

pub others_on : (which : List ℕ) (old mid new : List P) → OthersKept old mid which 0 → OthersKept mid new which 0 → OthersKept old new which 0
others_on which old mid new one two k none = two k none ∙ one k none

-- ---- attempts in the order of the list

pub free_now : (all : List Mutex) (which : List ℕ) (old new : List P) (calls : ℕ) → AreReady all old which 0 calls → RoundFree all old new which → AreFree all new which
free_now all which old new calls ready free k named =
    let r = ready k named in
    let b = free k r.0 r.1 named r.2 r.3 in
    (r.0, b.0, r.2, b.1, record { idle = b.2; bare = b.3; left = omega arith })

pub missed_all : (all : List Mutex) (which : List ℕ) (old new : List P) (place : ℕ) → AreDistinct which → MissedFrom all old new which 0 0 place → Missed all old new which place × ((j : ℕ) × (j ≡ place) × FreedFrom all old new (turned 0 which) 0 j)
missed_all all which old new place distinct missed =
    let j = missed.0 in
    let i = missed.1 in
    let at : slice_get which j ≡ Some i = ap (λ (l : List ℕ). slice_get l j) (sym (turned_none which)) ∙ missed.2 in
    let same : j ≡ place = distinct j place i at missed.3 in
    let went : Went all old new (missing_acts which place i) = subst (λ (z : List ℕ × ℕ). Went all old new (missing_acts z.0 z.1 i)) (λ k. (turned_none which k, same k)) missed.4 in
    let none : 0 + j ≡ j = omega arith in
    ((i, missed.3, went), (j, same, subst (λ (n : ℕ). FreedFrom all old new (turned 0 which) 0 n) none missed.5))

pub less_missed : (all : List Mutex) (which : List ℕ) (old new : List P) (calls place j : ℕ) → AreReady all old which 0 calls → j ≡ place → FreedFrom all old new (turned 0 which) 0 j → HaveLess old new which (two_before place)
less_missed all which old new calls place j ready same freed p i o n at at_o at_n =
    let r = ready i (p, omega arith, at) in
    let at_t : slice_get (turned 0 which) p ≡ Some i = ap (λ (l : List ℕ). slice_get l p) (turned_none which) ∙ at in
    let b = freed p i r.0 o (omega arith) at_t r.2 at_o in
    let is : b.0 ≡ n = some_is b.0 n (sym b.1 ∙ at_n) in
    subst (λ (z : P × ℕ). z.0.left + two_before z.1 p ≡ o.left) (λ k. (is k, same k)) b.2.left

pub less_taken : (all : List Mutex) (which : List ℕ) (low : 0 < length which) (old new : List P) (holds : Holds) (calls : ℕ) → AreReady all old which 0 calls → TakenFrom all old new which 0 0 holds → HaveLess old new which (λ p. 1)
less_taken all which low old new holds calls ready taken p i o n at at_o at_n =
    let r = ready i (p, omega arith, at) in
    let b = taken i r.0 o (named_turned which 0 low i (p, omega arith, at)) r.2 at_o in
    let is : b.0 ≡ n = some_is b.0 n (sym b.1 ∙ at_n) in
    subst (λ (z : P). z.left + 1 ≡ o.left) is b.2.2.left

-- ---- rounds

-- one round more
pub one_more : (all : List Mutex) (which : List ℕ) (old mid new : List P) (n start next : ℕ) (acts : List Act) → Rounds which n start acts → Went all old mid acts → RoundBacksOff all mid new which start next → BackedOff all old new which (n + 1)
one_more all which old mid new n start next acts rounds went last =
    let one : suc n ≡ n + 1 = omega arith in
    subst (λ (z : ℕ). BackedOff all old new which z) one (next, acts ++ last.0, (start, acts, last.0, rounds, last.1, refl), went_on all old mid new acts last.0 went last.2)

-- and then one that locks all
pub locked_then : (all : List Mutex) (which : List ℕ) (old mid new : List P) (n start : ℕ) (acts : List Act) → start < length which → Rounds which n start acts → Went all old mid acts → RoundLocks all mid new which start → LockedAfter all old new which n
locked_then all which old mid new n start acts low rounds went last = (start, acts, low, rounds, went_on all old mid new acts (locking_acts (turned start which)) went last)
