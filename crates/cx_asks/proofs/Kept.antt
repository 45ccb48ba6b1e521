-- What a thread keeps of its objects, after a change of one of them.
use Rattle.std.proofs.Common.{◌≡◌, ℕ, zero, suc, ◌+◌, ◌-◌, ◌<◌, Bool, true, false, List, [], ◌∷◌, length, slice_get, slice_set, unwrap_or, refl, sym, ap, ◌∙◌, subst, arith, ◌⊎◌, inl, inr, eqb-true, eq-eqb}
use Rattle.std.specs.Prelude.{nat_eq}
use Rattle.std.proofs.lemmas.Bool.{cases_Bool}
use Rattle.cx_names.specs.declared.ObjectNo.{ObjectNo}
use Rattle.cx_machine.specs.declared.kind.Op.{Op}
use Rattle.cx_machine.specs.declared.kind.Op.TheVariants as ops
use Rattle.cx_machine.specs.Meaning.{bit}
use Rattle.cx_scene.specs.Scene.{Scene}
use Rattle.cx_items.specs.declared.kept.Kept.{Kept}
use Rattle.cx_items.specs.Memory.{Memory, of, nothing, keep, kept_after}
use Rattle.cx_asks.specs.Scenes.{is_lockable, is_shared}

-- what is kept of the object of this number
abbrev pub kept_at : List Kept → ℕ → Kept
kept_at ks n = unwrap_or (slice_get ks n) nothing

-- how often the thread owns it
abbrev pub levels : Memory → ℕ → ℕ
levels m n = (kept_at m.kept n).levels

-- whether the thread shares it
abbrev pub reads : Memory → ℕ → Bool
reads m n = (kept_at m.kept n).reads

-- what a change of this word leaves
abbrev pub acted : Memory → ObjectNo → Op → Memory
acted m o op = keep m o (kept_after op (of m o))

set_same : (ks : List Kept) (i : ℕ) (k : Kept) → i < length ks → kept_at (slice_set ks i k) i ≡ k
set_same [] i k h = absurd (let no : ⊥ = omega (arith, h) in no)
set_same (x ∷ xs) zero k h = refl
set_same (x ∷ xs) (suc i) k h = set_same xs i k (omega (arith, h))

pub set_other : (ks : List Kept) (i n : ℕ) (k : Kept) → (i ≡ n → ⊥) → kept_at (slice_set ks i k) n ≡ kept_at ks n
set_other [] i n k h = refl
set_other (x ∷ xs) zero zero k h = absurd (h refl)
set_other (x ∷ xs) zero (suc n) k h = refl
set_other (x ∷ xs) (suc i) zero k h = refl
set_other (x ∷ xs) (suc i) (suc n) k h = set_other xs i n k (λ e. h (ap suc e))

pub set_like : {X : Type 0} (f : Kept → X) (ks : List Kept) (i n : ℕ) (k : Kept) → f k ≡ f (kept_at ks i) → f (kept_at (slice_set ks i k) n) ≡ f (kept_at ks n)
set_like f [] i n k h = refl
set_like f (x ∷ xs) zero zero k h = h
set_like f (x ∷ xs) zero (suc n) k h = refl
set_like f (x ∷ xs) (suc i) zero k h = refl
set_like f (x ∷ xs) (suc i) (suc n) k h = set_like f xs i n k h

set_length : (ks : List Kept) (i : ℕ) (k : Kept) → length (slice_set ks i k) ≡ length ks
set_length [] i k = refl
set_length (x ∷ xs) zero k = refl
set_length (x ∷ xs) (suc i) k = ap suc (set_length xs i k)

-- ---- the memory goes on

-- nothing else is another
pub record Alike (m m' : Memory) : Type 0 where
  pub count : length m'.kept ≡ length m.kept
  pub reads_are : (n : ℕ) → reads m' n ≡ reads m n
  pub launched : (n : ℕ) → (kept_at m'.kept n).is_launched ≡ (kept_at m.kept n).is_launched

-- one level more of this object, or one less
pub record Gains (m m' : Memory) (o : ℕ) : Type 0 where
  pub alike : Alike m m'
  pub levels_are : (n : ℕ) → levels m' n ≡ levels m n + bit (nat_eq o n)

pub record Loses (m m' : Memory) (o : ℕ) : Type 0 where
  pub alike : Alike m m'
  pub levels_are : (n : ℕ) → levels m' n ≡ levels m n - bit (nat_eq o n)

-- only whether this object is shared is another
pub record Shares (m m' : Memory) (o : ℕ) : Type 0 where
  pub count : length m'.kept ≡ length m.kept
  pub others : (n : ℕ) → nat_eq o n ≡ false → reads m' n ≡ reads m n
  pub launched : (n : ℕ) → (kept_at m'.kept n).is_launched ≡ (kept_at m.kept n).is_launched
  pub levels_are : (n : ℕ) → levels m' n ≡ levels m n

-- as many levels of each
pub record Keeps (m m' : Memory) : Type 0 where
  pub alike : Alike m m'
  pub levels_are : (n : ℕ) → levels m' n ≡ levels m n

alike_set : (m : Memory) (o : ObjectNo) (k : Kept) → k.reads ≡ (of m o).reads → k.is_launched ≡ (of m o).is_launched → Alike m (keep m o k)
alike_set m o k r l = record { count = set_length m.kept o.0 k; reads_are = λ n. set_like (λ (x : Kept). x.reads) m.kept o.0 n k r; launched = λ n. set_like (λ (x : Kept). x.is_launched) m.kept o.0 n k l }

apart : (i n : ℕ) → nat_eq i n ≡ false → i ≡ n → ⊥
apart i n h e = let no : true ≡ false = sym (eq-eqb i n e) ∙ h in cc

set_levels : (m : Memory) (o : ObjectNo) (k : Kept) (n : ℕ) (f : ℕ → ℕ → ℕ) → ((x : ℕ) → f x 0 ≡ x) → o.0 < length m.kept → k.levels ≡ f (of m o).levels 1 → levels (keep m o k) n ≡ f (levels m n) (bit (nat_eq o.0 n))
set_levels m o k n f none there is = go (cases_Bool (nat_eq o.0 n))
  where
    go : ((nat_eq o.0 n ≡ true) ⊎ (nat_eq o.0 n ≡ false)) → levels (keep m o k) n ≡ f (levels m n) (bit (nat_eq o.0 n))
    go (inl h) =
        let same : o.0 ≡ n = eqb-true o.0 n h in
        rw h (subst (λ (j : ℕ). levels (keep m o k) j ≡ f (levels m j) 1) same (ap (λ (x : Kept). x.levels) (set_same m.kept o.0 k there) ∙ is))
    go (inr h) = rw h (ap (λ (x : Kept). x.levels) (set_other m.kept o.0 n k (apart o.0 n h)) ∙ sym (none (levels m n)))

abbrev plus : ℕ → ℕ → ℕ
plus a b = a + b

abbrev minus : ℕ → ℕ → ℕ
minus a b = a - b

plus_none : (x : ℕ) → plus x 0 ≡ x
plus_none x = omega arith

minus_none : (x : ℕ) → minus x 0 ≡ x
minus_none x = omega arith

pub gains_lock : (m : Memory) (o : ObjectNo) → o.0 < length m.kept → Gains m (acted m o ops.Lock) o.0
gains_lock m o there = record { alike = alike_set m o (kept_after ops.Lock (of m o)) refl refl; levels_are = λ n. set_levels m o (kept_after ops.Lock (of m o)) n plus plus_none there refl }

pub gains_try : (m : Memory) (o : ObjectNo) → o.0 < length m.kept → Gains m (acted m o ops.TryLock) o.0
gains_try m o there = record { alike = alike_set m o (kept_after ops.TryLock (of m o)) refl refl; levels_are = λ n. set_levels m o (kept_after ops.TryLock (of m o)) n plus plus_none there refl }

pub loses_unlock : (m : Memory) (o : ObjectNo) → o.0 < length m.kept → Loses m (acted m o ops.Unlock) o.0
loses_unlock m o there = record { alike = alike_set m o (kept_after ops.Unlock (of m o)) refl refl; levels_are = λ n. set_levels m o (kept_after ops.Unlock (of m o)) n minus minus_none there refl }

pub shares_set : (m : Memory) (o : ObjectNo) (k : Kept) → k.levels ≡ (of m o).levels → k.is_launched ≡ (of m o).is_launched → Shares m (keep m o k) o.0
shares_set m o k e l = record {
  count = set_length m.kept o.0 k;
  others = λ n h. ap (λ (x : Kept). x.reads) (set_other m.kept o.0 n k (apart o.0 n h));
  launched = λ n. set_like (λ (x : Kept). x.is_launched) m.kept o.0 n k l;
  levels_are = λ n. set_like (λ (x : Kept). x.levels) m.kept o.0 n k e;
}

-- what only the rest of what is kept leaves another
pub keeps_set : (m : Memory) (o : ObjectNo) (k : Kept) → k.levels ≡ (of m o).levels → k.reads ≡ (of m o).reads → k.is_launched ≡ (of m o).is_launched → Keeps m (keep m o k)
keeps_set m o k e r l = record { alike = alike_set m o k r l; levels_are = λ n. set_like (λ (x : Kept). x.levels) m.kept o.0 n k e }

pub keeps_same : (m : Memory) (o : ObjectNo) → Keeps m (keep m o (of m o))
keeps_same m o = record { alike = alike_set m o (of m o) refl refl; levels_are = λ n. set_like (λ (x : Kept). x.levels) m.kept o.0 n (of m o) refl }

-- ---- what a thread of a scenario keeps: levels of mutexes that are owned alone, shares of shared mutexes, and nothing launched

pub record IsKept (s : Scene) (m : Memory) : Type 0 where
  pub count : length m.kept ≡ length s.objects
  pub free : (n : ℕ) → is_lockable (slice_get s.objects n) ≡ false → levels m n ≡ 0
  pub unshared : (n : ℕ) → is_shared (slice_get s.objects n) ≡ false → reads m n ≡ false
  pub launched : (n : ℕ) → (kept_at m.kept n).is_launched ≡ false

module _ (s : Scene) (m m' : Memory) where
  kept_alike : Alike m m' → IsKept s m → ((n : ℕ) → is_lockable (slice_get s.objects n) ≡ false → levels m' n ≡ 0) → IsKept s m'
  kept_alike a h free = record { count = a.count ∙ h.count; free = free; unshared = λ n no_. a.reads_are n ∙ h.unshared n no_; launched = λ n. a.launched n ∙ h.launched n }

  other_bit : (o n : ℕ) → is_lockable (slice_get s.objects o) ≡ true → is_lockable (slice_get s.objects n) ≡ false → bit (nat_eq o n) ≡ 0
  other_bit o n so no_ = go (cases_Bool (nat_eq o n))
    where
      go : ((nat_eq o n ≡ true) ⊎ (nat_eq o n ≡ false)) → bit (nat_eq o n) ≡ 0
      go (inl h) =
          let there : is_lockable (slice_get s.objects n) ≡ true = subst (λ (j : ℕ). is_lockable (slice_get s.objects j) ≡ true) (eqb-true o n h) so in
          let bad : true ≡ false = sym there ∙ no_ in
          cc
      go (inr h) = rw h refl

  -- a shared mutex is none that isn't
  not_shared : (o n : ℕ) → is_shared (slice_get s.objects o) ≡ true → is_shared (slice_get s.objects n) ≡ false → nat_eq o n ≡ false
  not_shared o n so no_ = go (cases_Bool (nat_eq o n))
    where
      go : ((nat_eq o n ≡ true) ⊎ (nat_eq o n ≡ false)) → nat_eq o n ≡ false
      go (inl h) =
          let there : is_shared (slice_get s.objects n) ≡ true = subst (λ (j : ℕ). is_shared (slice_get s.objects j) ≡ true) (eqb-true o n h) so in
          let bad : true ≡ false = sym there ∙ no_ in
          cc
      go (inr h) = h

  sum_none : (a b c : ℕ) → a ≡ b + c → b ≡ 0 → c ≡ 0 → a ≡ 0
  sum_none a b c h k z = omega (arith, h, k, z)

  less_none : (a b c : ℕ) → a ≡ b - c → b ≡ 0 → a ≡ 0
  less_none a b c h k = omega (arith, h, k)

  pub kept_gains : (o : ℕ) → Gains m m' o → is_lockable (slice_get s.objects o) ≡ true → IsKept s m → IsKept s m'
  kept_gains o g so h = kept_alike g.alike h (λ n no_. sum_none (levels m' n) (levels m n) (bit (nat_eq o n)) (g.levels_are n) (h.free n no_) (other_bit o n so no_))

  pub kept_loses : (o : ℕ) → Loses m m' o → IsKept s m → IsKept s m'
  kept_loses o g h = kept_alike g.alike h (λ n no_. less_none (levels m' n) (levels m n) (bit (nat_eq o n)) (g.levels_are n) (h.free n no_))

  pub kept_keeps : Keeps m m' → IsKept s m → IsKept s m'
  kept_keeps g h = kept_alike g.alike h (λ n no_. g.levels_are n ∙ h.free n no_)

  pub kept_shares : (o : ℕ) → Shares m m' o → is_shared (slice_get s.objects o) ≡ true → IsKept s m → IsKept s m'
  kept_shares o g so h = record {
    count = g.count ∙ h.count;
    free = λ n no_. g.levels_are n ∙ h.free n no_;
    unshared = λ n no_. g.others n (not_shared o n so no_) ∙ h.unshared n no_;
    launched = λ n. g.launched n ∙ h.launched n;
  }
