-- Where `lock_all` stands between its rounds.
use Rattle.std.proofs.Common.{◌≡◌, ℕ, suc, ◌+◌, ◌-◌, ◌*◌, ◌<◌, ◌≤◌, List, [], ◌++◌, length, refl, subst, arith}
use Rattle.cx_mutex.specs.declared.mutex.Mutex.{Mutex}
use Rattle.cx_mutex.specs.Together.{Act, Went, AreReady, Rounds, LockedAfter, BackedOff, OthersKept, AreFree}
use Rattle.cx_mutex.specs.Trying.{RoundLocks, RoundBacksOff, RoundFree}
use Rattle.cx_mutex.proofs.Attempts.{P, went_on}
use Rattle.cx_mutex.proofs.Whole.{one_more, locked_then, ready_again, ready_less, others_on, free_now}

-- each round so far backed off and took a turn, and the next begins with the mutex at the place `start`
pub record Stands (all : List Mutex) (which : List ℕ) (old now : List P) (first used start : ℕ) : Type 0 where
  pub low : start < length which
  pub least : first ≤ used
  pub most : used ≤ 16384
  pub acts : List Act
  pub rounds : Rounds which (used - first) start acts
  pub went : Went all old now acts
  pub ready : AreReady all now which 0 (2 * (16384 - used) + 2)
  pub others : OthersKept old now which 0

pub begins : (all : List Mutex) (which : List ℕ) (old : List P) (first : ℕ) → 0 < length which → first ≤ 16384 → AreReady all old which 0 (2 * (16384 - first) + 2) → Stands all which old old first first 0
begins all which old first low most ready =
    let none : 0 ≡ first - first = omega arith in
    record { low = low; least = omega arith; most = most; acts = []; rounds = subst (λ (n : ℕ). Rounds which n 0 []) none (refl, refl); went = refl; ready = ready; others = λ k none. refl }

module _ (all : List Mutex) (which : List ℕ) (old mid new : List P) (first used start : ℕ) (s : Stands all which old mid first used start) where
  pub goes_on : (next : ℕ) → used < 16384 → next < length which → RoundBacksOff all mid new which start next → RoundFree all mid new which → OthersKept mid new which 0 → Stands all which old new first (used + 1) next
  goes_on next more low last free kept =
      let l = s.least in
      let one : suc (used - first) ≡ used + 1 - first = omega arith in
      let calls : 2 * (16384 - used) + 2 ≡ 2 * (16384 - (used + 1)) + 2 + 2 = omega arith in
      record {
        low = low;
        least = omega arith;
        most = omega arith;
        acts = s.acts ++ last.0;
        rounds = subst (λ (n : ℕ). Rounds which n next (s.acts ++ last.0)) one (start, s.acts, last.0, s.rounds, last.1, refl);
        went = went_on all old mid new s.acts last.0 s.went last.2;
        ready = ready_again all which mid new (2 * (16384 - (used + 1)) + 2) (subst (λ (n : ℕ). AreReady all mid which 0 n) calls s.ready) free;
        others = others_on which old mid new s.others kept;
      }

  pub ends_locked : RoundLocks all mid new which start → LockedAfter all old new which (used - first)
  ends_locked last = locked_then all which old mid new (used - first) start s.acts s.low s.rounds s.went last

  pub ends_spent : (next : ℕ) → used ≡ 16384 → RoundBacksOff all mid new which start next → BackedOff all old new which (16384 - first + 1)
  ends_spent next all_used last = subst (λ (n : ℕ). BackedOff all old new which (n - first + 1)) all_used (one_more all which old mid new (used - first) start next s.acts s.rounds s.went last)

  pub ends_free : RoundFree all mid new which → AreFree all new which
  ends_free free = free_now all which mid new (2 * (16384 - used) + 2) s.ready free

  pub ends_others : OthersKept mid new which 0 → OthersKept old new which 0
  ends_others kept = others_on which old mid new s.others kept

  pub ready_two : AreReady all mid which 0 2
  ready_two = ready_less all mid which 0 (2 * (16384 - used) + 2) 2 (omega arith) s.ready
