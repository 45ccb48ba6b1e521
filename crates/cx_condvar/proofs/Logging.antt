-- A wait with a predicate, act by act, and its log.
use Rattle.std.proofs.Common.{◌≡◌, ◌∙◌, ℕ, ◌+◌, ◌*◌, ℤ, Bool, false, List, [], ◌∷◌, ◌++◌, length, Some, None, refl, sym, ap, subst, arith, length-append}
use Rattle.std.proofs.lemmas.List.{append_assoc, append-nil}
use Rattle.cx_names.specs.declared.ThreadNo.{ThreadNo}
use Rattle.cx_machine.specs.declared.kind.Look.{Look}
use Rattle.cx_machine.specs.Condition.{Condition}
use Rattle.cx_machine.specs.Mutex as machine
use Rattle.cx_turn.specs.declared.view.View.{View}
use Rattle.cx_turn.specs.declared.pass.Pass.{Pass}
use Rattle.cx_mutex.specs.declared.mutex.Mutex.{Mutex}
use Rattle.cx_mutex.specs.Keys.{locks, unlocks}
use Rattle.cx_mutex.specs.Kinds.{locking}
use Rattle.cx_mutex.specs.Mutexes.{IsMutexPass, IsMutexPassWith, MutexLooks}
use Rattle.cx_condvar.specs.declared.condvar.CondvarAny.{CondvarAny}
use Rattle.cx_condvar.specs.declared.until.Waited.{Waited}
use Rattle.cx_condvar.specs.declared.log.Log.{Log}
use Rattle.cx_condvar.specs.declared.log.Logged.{Logged}
use Rattle.cx_condvar.specs.Waiting.{WaitsOnce, Relocks}
use Rattle.cx_condvar.specs.Logs.{Waits, get_at, look_act, wait_acts, Round, rounds_acts, Seen, ActedAll, Went, AreFailed, Ends, WaitsUntil, RunsOut}

-- ---- acts after acts

acted_append : (s t u : Seen) (ls bs : List Logged) → ActedAll s ls t → ActedAll t bs u → ActedAll s (ls ++ bs) u
acted_append s t u [] bs same more = subst (λ (z : Seen). ActedAll z bs u) same more
acted_append s t u (a ∷ ls) bs made more = (made.0, made.1, acted_append made.0 t u ls bs made.2 more)

rounds_append : (by owner : ThreadNo) (i : ℕ) (rs : List Round) (r : Round) → rounds_acts by owner i (rs ++ r ∷ []) ≡ rounds_acts by owner i rs ++ (look_act owner i r.value r.seen ∷ wait_acts by owner r.waits)
rounds_append by owner i [] r = append-nil (look_act owner i r.value r.seen ∷ wait_acts by owner r.waits)
rounds_append by owner i (q ∷ rs) r = ap (λ (ls : List Logged). (look_act owner i q.value q.seen ∷ wait_acts by owner q.waits) ++ ls) (rounds_append by owner i rs r) ∙ sym (append_assoc (look_act owner i q.value q.seen ∷ wait_acts by owner q.waits) (rounds_acts by owner i rs) (look_act owner i r.value r.seen ∷ wait_acts by owner r.waits))

failed_append : (test : ℤ → Bool) (rs : List Round) (r : Round) → AreFailed test rs → test r.value ≡ false → AreFailed test (rs ++ r ∷ [])
failed_append test [] r f g = (g, tt)
failed_append test (q ∷ rs) r f g = (f.0, failed_append test rs r f.1 g)

module _ (x : CondvarAny) (m : Mutex) where
  -- ---- one call

  -- a pass that looked acts ls the same thread
  pub number_looked : (k l : Pass machine.Mutex) (a : Look) → IsMutexPass m k → MutexLooks m k l a → l.number ≡ k.number
  number_looked k l a is looks =
      let d = looks is.0 is.1 in
      let same : l.number.0 ≡ k.number.0 = sym d.1.numbered ∙ (ap (λ (v : View machine.Mutex). v.number) d.2.view ∙ is.1.numbered) in
      λ i. record { 0 = same i }

  -- the look was made and logged
  looked : (p : Pass Condition) (k l : Pass machine.Mutex) (old new : Log) (i : ℕ) (value : ℤ) (at : ℕ) → new.acts.items ≡ old.acts.items ++ look_act k.number i value at ∷ [] → MutexLooks m k l (get_at k.number i value at) → Went x m p p k l old new (look_act k.number i value at ∷ [])
  looked p k l old new i value at logged looks = record {
    logged = logged;
    made = λ s know. (let d = looks s.mutex know.mutex in let t : Seen = record { condition = s.condition; mutex = d.0 } in (t, record { condition = know.condition; mutex = d.1 }, (t, (refl, d.2), refl)));
  }

  -- the four acts of a wait were made and logged
  waited : (p q : Pass Condition) (k l : Pass machine.Mutex) (old new : Log) (at : Waits) → new.acts.items ≡ old.acts.items ++ wait_acts p.number k.number at → WaitsOnce x p q at → Relocks locking (IsMutexPassWith m) (unlocks k.number) (locks k.number) k l at → Went x m p q k l old new (wait_acts p.number k.number at)
  waited p q k l old new at logged waits relocks = record {
    logged = logged;
    made = λ s know.
        (let c = waits s.condition know.condition in
        let r = relocks s.mutex know.mutex in
        let inside : Seen = record { condition = c.2.0; mutex = s.mutex } in
        let apart : Seen = record { condition = c.2.0; mutex = r.2.0 } in
        let awake : Seen = record { condition = c.0; mutex = r.2.0 } in
        let t : Seen = record { condition = c.0; mutex = r.0 } in
        (t, record { condition = c.1; mutex = r.1 }, (inside, (c.2.1, refl), (apart, (refl, r.2.1), (awake, (c.2.2, refl), (t, (refl, r.2.2), refl))))));
  }

  -- room was made, and nothing else
  pub reserved : (p : Pass Condition) (k : Pass machine.Mutex) (old new : Log) → new.acts.items ≡ old.acts.items → Went x m p p k k old new []
  reserved p k old new same = record { logged = same ∙ sym (append-nil old.acts.items); made = λ s know. (s, know, refl) }

  -- ---- one call after the other

  went_on : (p o q : Pass Condition) (k j l : Pass machine.Mutex) (old mid new : Log) (ls bs : List Logged) → Went x m p o k j old mid ls → Went x m o q j l mid new bs → Went x m p q k l old new (ls ++ bs)
  went_on p o q k j l old mid new ls bs one two = record {
    logged = two.logged ∙ (ap (λ (xs : List Logged). xs ++ bs) one.logged ∙ append_assoc old.acts.items ls bs);
    made = λ s know. (let d = one.made s know in let e = two.made d.0 d.1 in (e.0, e.1, acted_append s d.0 e.0 ls bs d.2 e.2));
  }

  module _ (i : ℕ) (test : ℤ → Bool) (p : Pass Condition) (k : Pass machine.Mutex) (old : Log) (used : ℕ) where
    -- so far the predicate failed in each round, and a turn was taken for each
    pub record Stands (q : Pass Condition) (l : Pass machine.Mutex) (log : Log) (used' : ℕ) : Type 0 where
      pub rounds : List Round
      pub failed : AreFailed test rounds
      pub turns : used' ≡ used + length rounds
      pub went : Went x m p q k l old log (rounds_acts p.number k.number i rounds)
      pub number : q.number ≡ p.number
      pub key_number : l.number ≡ k.number
      pub left : q.left + 2 * length rounds ≡ p.left
      pub key_left : l.left + 2 * length rounds ≡ k.left

    pub stands_first : (log : Log) → log.acts.items ≡ old.acts.items → Stands p k log used
    stands_first log same = record { rounds = []; failed = tt; turns = omega arith; went = reserved p k old log same; number = refl; key_number = refl; left = omega arith; key_left = omega arith }

    module _ (q : Pass Condition) (l l' : Pass machine.Mutex) (log log' : Log) (used' : ℕ) (s : Stands q l log used') (value : ℤ) (at : ℕ) (logged : log'.acts.items ≡ log.acts.items ++ look_act l.number i value at ∷ []) (looks : MutexLooks m l l' (get_at l.number i value at)) where
      -- the rounds, and a look after them
      pub looked_then : Went x m p q k l' old log' (rounds_acts p.number k.number i s.rounds ++ look_act k.number i value at ∷ [])
      looked_then = went_on p q q k l l' old log log' (rounds_acts p.number k.number i s.rounds) (look_act k.number i value at ∷ []) s.went (subst (λ (t : ThreadNo). Went x m q q l l' log log' (look_act t i value at ∷ [])) s.key_number (looked q l l' log log' i value at logged looks))

      pub ends : (answer : Waited) → Ends test answer value used' → WaitsUntil x m i test answer p q k l' old log' used used'
      ends answer end = record { rounds = s.rounds; value = value; seen = at; failed = s.failed; ends = end; turns = s.turns; went = looked_then }

      pub runs_out_then : (log'' : Log) → log''.acts.items ≡ log'.acts.items → test value ≡ false → RunsOut x m i test p q k l' old log'' used used'
      runs_out_then log'' same failed = record {
        rounds = s.rounds;
        last = Some (value, at);
        failed = s.failed;
        last_failed = failed;
        turns = s.turns;
        went = record { logged = same ∙ looked_then.logged; made = looked_then.made };
      }

      -- one round more
      module _ (q' : Pass Condition) (n : Pass machine.Mutex) (mid new : Log) (same : mid.acts.items ≡ log'.acts.items) (failed : test value ≡ false) (waits : Waits) (more : new.acts.items ≡ mid.acts.items ++ wait_acts q.number l'.number waits) (once : WaitsOnce x q q' waits) (relocks : Relocks locking (IsMutexPassWith m) (unlocks l'.number) (locks l'.number) l' n waits) (number : q'.number ≡ q.number) (seen_number : l'.number ≡ l.number) (key_number : n.number ≡ l'.number) (left : q'.left + 2 ≡ q.left) (seen_left : l'.left ≡ l.left) (key_left : n.left + 2 ≡ l'.left) where
        abbrev round : Round
        round = record { value = value; seen = at; waits = waits }

        waited_then : Went x m p q' k n old new ((rounds_acts p.number k.number i s.rounds ++ look_act k.number i value at ∷ []) ++ wait_acts p.number k.number waits)
        waited_then = went_on p q q' k l' n old mid new (rounds_acts p.number k.number i s.rounds ++ look_act k.number i value at ∷ []) (wait_acts p.number k.number waits) (record { logged = same ∙ looked_then.logged; made = looked_then.made }) (subst (λ (t : ThreadNo × ThreadNo). Went x m q q' l' n mid new (wait_acts t.0 t.1 waits)) (λ j. (s.number j, (seen_number ∙ s.key_number) j)) (waited q q' l' n mid new waits more once relocks))

        pub goes_on : (used'' : ℕ) → used'' ≡ used' + 1 → Stands q' n new used''
        goes_on used'' one =
            let t = s.turns in
            let long = length-append s.rounds (round ∷ []) in
            let a = s.left in
            let b = s.key_left in
            record {
              rounds = s.rounds ++ round ∷ [];
              failed = failed_append test s.rounds round s.failed failed;
              turns = omega (arith, t, one, long);
              went = subst (λ (ls : List Logged). Went x m p q' k n old new ls) (append_assoc (rounds_acts p.number k.number i s.rounds) (look_act k.number i value at ∷ []) (wait_acts p.number k.number waits) ∙ sym (rounds_append p.number k.number i s.rounds round)) waited_then;
              number = number ∙ s.number;
              key_number = key_number ∙ (seen_number ∙ s.key_number);
              left = omega (arith, a, left, long);
              key_left = omega (arith, b, seen_left, key_left, long);
            }

    -- no room at the beginning
    pub runs_out_first : (log : Log) → log.acts.items ≡ old.acts.items → RunsOut x m i test p p k k old log used used
    runs_out_first log same = record { rounds = []; last = None; failed = tt; last_failed = tt; turns = omega arith; went = reserved p k old log same }

-- the same of a log that had the same acts
pub since : (x : CondvarAny) (m : Mutex) (i : ℕ) (test : ℤ → Bool) (p : Pass Condition) (k : Pass machine.Mutex) (old start : Log) (used : ℕ) → start.acts.items ≡ old.acts.items → (q : Pass Condition) (l : Pass machine.Mutex) (log : Log) (used' : ℕ) → Stands x m i test p k start used q l log used' → Stands x m i test p k old used q l log used'
since x m i test p k old start used same q l log used' s = record {
  rounds = s.rounds;
  failed = s.failed;
  turns = s.turns;
  went = record { logged = s.went.logged ∙ ap (λ (ls : List Logged). ls ++ rounds_acts p.number k.number i s.rounds) same; made = s.went.made };
  number = s.number;
  key_number = s.key_number;
  left = s.left;
  key_left = s.key_left;
}
