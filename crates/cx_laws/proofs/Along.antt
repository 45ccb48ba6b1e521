-- What each change keeps or counts, along a history.
use Rattle.std.proofs.Common.{◌≡◌, ℕ, ◌+◌, ◌≤◌, Bool, true, false, List, [], ◌∷◌, ◌++◌, Option, Some, None, IsSome, option_map, option_and_then, refl, sym, ap, ◌∙◌, subst, arith, append-nil, append_assoc}
use Rattle.cx_machine.specs.declared.kind.Entry.{Entry}
use Rattle.cx_machine.specs.Machine.{State}
use Rattle.cx_machine.specs.Machine as machine
use Rattle.cx_machine.specs.Kept.{none_after}
use Rattle.cx_machine.specs.Meaning.{advance, run, bit}
use Rattle.cx_laws.specs.History.{total, count}

pub some_is : {A : Type 0} (a b : A) → ◌≡◌ {A = Option A} (Some a) (Some b) → a ≡ b
some_is a b e = cc

module _ {M : Type 0} (step : M → Entry → Option M) where
  pub run_none : (xs : List Entry) → run step None xs ≡ None
  run_none [] = refl
  run_none (e ∷ es) = run_none es

  pub run-append : (m : Option M) (xs ys : List Entry) → run step m (xs ++ ys) ≡ run step (run step m xs) ys
  run-append m [] ys = refl
  run-append m (e ∷ es) ys = run-append (advance step m e) es ys

  pub stops : (o : Option M) (ys : List Entry) (s : M) → run step o ys ≡ Some s → (t : M) × (o ≡ Some t)
  stops None ys s e = absurd (none_after step ys s e)
  stops (Some t) ys s e = (t, refl)

  -- the states right before and right after a change in the middle
  pub record Parted (m end : M) (before : List Entry) (e : Entry) (rest : List Entry) : Type 0 where
    pub now : M
    pub next : M
    pub leads : run step (Some m) before ≡ Some now
    pub one : step now e ≡ Some next
    pub follows : run step (Some next) rest ≡ Some end

  pub parted : (m end : M) (before : List Entry) (e : Entry) (rest : List Entry) → run step (Some m) (before ++ e ∷ rest) ≡ Some end → Parted m end before e rest
  parted m end before e rest is =
      let all : run step (run step (Some m) before) (e ∷ rest) ≡ Some end = sym (run-append (Some m) before (e ∷ rest)) ∙ is in
      let a = stops (run step (Some m) before) (e ∷ rest) end all in
      let on : run step (step a.0 e) rest ≡ Some end = subst (λ o. run step o (e ∷ rest) ≡ Some end) a.1 all in
      let b = stops (step a.0 e) rest end on in
      record { now = a.0; next = b.0; leads = a.1; one = b.1; follows = subst (λ o. run step o rest ≡ Some end) b.1 on }

  -- the last change of a history, and the state before it
  pub record Last (m end : M) (h : List Entry) : Type 0 where
    pub before : List Entry
    pub entry : Entry
    pub now : M
    pub is : h ≡ before ++ entry ∷ []
    pub leads : run step (Some m) before ≡ Some now
    pub one : step now entry ≡ Some end

  pub last : (es : List Entry) (m end : M) (e : Entry) → run step (Some m) (e ∷ es) ≡ Some end → Last m end (e ∷ es)
  last [] m end e is = record { before = []; entry = e; now = m; is = refl; leads = refl; one = is }
  last (f ∷ fs) m end e is =
      let a = stops (step m e) (f ∷ fs) end is in
      let l = last fs a.0 end f (subst (λ o. run step o (f ∷ fs) ≡ Some end) a.1 is) in
      record { before = e ∷ l.before; entry = l.entry; now = l.now; is = ap (λ xs. e ∷ xs) l.is; leads = subst (λ o. run step o l.before ≡ Some l.now) (sym a.1) l.leads; one = l.one }

  -- what no change of a history is
  pub none_such : (never : Entry → Bool) (e : Entry) (es : List Entry) → count never (e ∷ es) ≡ 0 → (never e ≡ false) × (count never es ≡ 0)
  none_such never e es none = at (never e) refl none
    where
      at : (b : Bool) → never e ≡ b → bit b + count never es ≡ 0 → (never e ≡ false) × (count never es ≡ 0)
      at true is n = absurd (omega (arith, n))
      at false is n = (is, omega (arith, n))

  -- the same over a history without some changes
  pub balanced_while : (never : Entry → Bool) (Good : M → Type 0) (value : M → ℕ) (up down : Entry → ℕ) → ((m t : M) (e : Entry) → never e ≡ false → Good m → step m e ≡ Some t → Good t × (value m + up e ≡ down e + value t)) → (es : List Entry) (m t : M) → count never es ≡ 0 → Good m → run step (Some m) es ≡ Some t → Good t × (value m + total up es ≡ total down es + value t)
  balanced_while never Good value up down one [] m t none g e =
      let same = some_is m t e in
      (subst Good same g, let v = ap value same in omega (arith, v))
  balanced_while never Good value up down one (x ∷ xs) m t none g e =
      let n = none_such never x xs none in
      let a = stops (step m x) xs t e in
      let first = one m a.0 x n.0 g a.1 in
      let rest = balanced_while never Good value up down one xs a.0 t n.1 first.0 (subst (λ o. run step o xs ≡ Some t) a.1 e) in
      (rest.0, let p = first.1 in let q = rest.1 in omega (arith, p, q))

  -- what each change adds at most, a history adds at most
  pub bounded : (Good : M → Type 0) (value : M → ℕ) (up : Entry → ℕ) → ((m t : M) (e : Entry) → Good m → step m e ≡ Some t → Good t × (value m + up e ≤ value t)) → (es : List Entry) (m t : M) → Good m → run step (Some m) es ≡ Some t → Good t × (value m + total up es ≤ value t)
  bounded Good value up one [] m t g e =
      let same = some_is m t e in
      (subst Good same g, let v = ap value same in omega (arith, v))
  bounded Good value up one (x ∷ xs) m t g e =
      let a = stops (step m x) xs t e in
      let first = one m a.0 x g a.1 in
      let rest = bounded Good value up one xs a.0 t first.0 (subst (λ o. run step o xs ≡ Some t) a.1 e) in
      (rest.0, let p = first.1 in let q = rest.1 in omega (arith, p, q))

  -- what holds of each history and the state after it
  pub along : (Good : List Entry → M → Type 0) → ((h : List Entry) (m t : M) (e : Entry) → Good h m → step m e ≡ Some t → Good (h ++ e ∷ []) t) → (es h : List Entry) (m t : M) → Good h m → run step (Some m) es ≡ Some t → Good (h ++ es) t
  along Good one [] h m t g e = subst (λ x. Good (h ++ []) x) (some_is m t e) (subst (λ xs. Good xs m) (sym (append-nil h)) g)
  along Good one (x ∷ xs) h m t g e =
      let a = stops (step m x) xs t e in
      let rest = along Good one xs (h ++ x ∷ []) a.0 t (one h m a.0 x g a.1) (subst (λ o. run step o xs ≡ Some t) a.1 e) in
      subst (λ ys. Good ys t) (append_assoc h (x ∷ []) xs) rest

  -- a state that no change leaves ends its history
  pub ends_there : (m t : M) → ((e : Entry) → step m e ≡ None) → (es : List Entry) → run step (Some m) es ≡ Some t → es ≡ []
  ends_there m t shut [] e = refl
  ends_there m t shut (x ∷ xs) e = absurd (none_after step xs t (subst (λ o. run step o xs ≡ Some t) (shut x) e))

  -- what each change keeps, where the counts of a change are the difference of a value, the counts of a history are that difference
  pub balanced : (Good : M → Type 0) (value : M → ℕ) (up down : Entry → ℕ) → ((m t : M) (e : Entry) → Good m → step m e ≡ Some t → Good t × (value m + up e ≡ down e + value t)) → (es : List Entry) (m t : M) → Good m → run step (Some m) es ≡ Some t → Good t × (value m + total up es ≡ total down es + value t)
  balanced Good value up down one [] m t g e =
      let same = some_is m t e in
      (subst Good same g, let v = ap value same in omega (arith, v))
  balanced Good value up down one (x ∷ xs) m t g e =
      let a = stops (step m x) xs t e in
      let first = one m a.0 x g a.1 in
      let rest = balanced Good value up down one xs a.0 t first.0 (subst (λ o. run step o xs ≡ Some t) a.1 e) in
      (rest.0, let p = first.1 in let q = rest.1 in omega (arith, p, q))

  pub always : (Good : M → Type 0) → ((m t : M) (e : Entry) → Good m → step m e ≡ Some t → Good t) → (es : List Entry) (m t : M) → Good m → run step (Some m) es ≡ Some t → Good t
  always Good one [] m t g e = subst Good (some_is m t e) g
  always Good one (x ∷ xs) m t g e =
      let a = stops (step m x) xs t e in
      always Good one xs a.0 t (one m a.0 x g a.1) (subst (λ o. run step o xs ≡ Some t) a.1 e)

-- ---- the machine of one kind

module _ {M : Type 0} (wrap : M → State) (step : M → Entry → Option M) (agrees : (m : M) (e : Entry) → machine.step (wrap m) e ≡ option_map wrap (step m e)) where
  pub runs_same : (es : List Entry) (m : M) → machine.run (wrap m) es ≡ option_map wrap (run step (Some m) es)
  runs_same [] m = refl
  runs_same (e ∷ es) m = ap (λ o. option_and_then (λ t. machine.run t es) o) (agrees m e) ∙ further (step m e) (λ t. runs_same es t)
    where
      further : (o : Option M) → ((t : M) → machine.run (wrap t) es ≡ option_map wrap (run step (Some t) es)) → option_and_then (λ t. machine.run t es) (option_map wrap o) ≡ option_map wrap (run step o es)
      further None h = sym (ap (option_map wrap) (run_none step es))
      further (Some t) h = h t

  -- a legal history leads to a state of its kind
  pub reaches : (es : List Entry) (m : M) → IsSome (machine.run (wrap m) es) → (t : M) × (run step (Some m) es ≡ Some t)
  reaches es m is = at (run step (Some m) es) refl (subst IsSome (runs_same es m) is)
    where
      at : (o : Option M) → run step (Some m) es ≡ o → IsSome (option_map wrap o) → (t : M) × (run step (Some m) es ≡ Some t)
      at None e is = cc is
      at (Some t) e is = (t, e)

  pub reached : (es : List Entry) (m t : M) → run step (Some m) es ≡ Some t → machine.run (wrap m) es ≡ Some (wrap t)
  reached es m t is = runs_same es m ∙ ap (option_map wrap) is

  pub reaches_at : (es : List Entry) (m : M) (s : State) → machine.run (wrap m) es ≡ Some s → (t : M) × (run step (Some m) es ≡ Some t) × (s ≡ wrap t)
  reaches_at es m s is = at (run step (Some m) es) refl (sym (runs_same es m) ∙ is)
    where
      at : (o : Option M) → run step (Some m) es ≡ o → option_map wrap o ≡ Some s → (t : M) × (run step (Some m) es ≡ Some t) × (s ≡ wrap t)
      at None e is = cc is
      at (Some t) e is = (t, e, sym (some_is (wrap t) s is))

pub total_none : (es : List Entry) → total (λ e. 0) es ≡ 0
total_none [] = refl
total_none (e ∷ es) = let r = total_none es in omega (arith, r)

pub count-append : (is_so : Entry → Bool) (xs ys : List Entry) → count is_so (xs ++ ys) ≡ count is_so xs + count is_so ys
count-append is_so [] ys = omega arith
count-append is_so (x ∷ xs) ys = let r = count-append is_so xs ys in omega (arith, r)
