-- How far a pass over all accesses has come.
use Rattle.std.proofs.Common.{◌≡◌, ℕ, zero, suc, ◌+◌, ◌<◌, ◌≤◌, List, [], ◌∷◌, length, get_or, set, slice_get, slice_set, Option, Some, refl, sym, ap, ◌∙◌, subst, arith}
use Rattle.std.specs.List.{enumerate_from}
use Rattle.cx_kinds.specs.declared.access.Access.{Access}
use Rattle.cx_kinds.specs.Accesses.{RunObject, object_of, Knows}
use Rattle.cx_kinds.specs.Sights.{IsSeen}
use Rattle.cx_work.specs.Accesses.{IsAccess, AreAccesses}
use Rattle.cx_run.specs.Handing.{TakesIn, EachGoes, AllTakeIn}
use Rattle.cx_run.proofs.Accesses.{at_same}
use Rattle.cx_run.proofs.Keeping.{Stands, here, elsewhere, get_set, length_set}

-- those below n have gone so, and the others are as they were
pub record GoneSoFar (ks ks' : List Access) (P : ℕ → Access → Access → Type 0) (n : ℕ) : Type 0 where
  pub count : length ks' ≡ length ks
  pub gone : (o : ℕ) (k k' : Access) → o < n → slice_get ks o ≡ Some k → slice_get ks' o ≡ Some k' → P o k k'
  pub left : (o : ℕ) → n ≤ o → slice_get ks' o ≡ slice_get ks o

pub none_gone : (ks : List Access) (P : ℕ → Access → Access → Type 0) → GoneSoFar ks ks P 0
none_gone ks P = record { count = refl; gone = λ o k k' low. absurd (omega (arith, low)); left = λ o high. refl }

pub is_one : {A : Type 0} (o : Option A) (x y : A) → o ≡ Some x → o ≡ Some y → x ≡ y
is_one o x y h k = let same : Some x ≡ Some y = sym h ∙ k in cc

pub one_gone : (ks ks' : List Access) (P : ℕ → Access → Access → Type 0) (n : ℕ) (k k' : Access) → GoneSoFar ks ks' P n → slice_get ks n ≡ Some k → P n k k' → GoneSoFar ks (slice_set ks' n k') P (n + 1)
one_gone ks ks' P n k k' so_far at_k goes = record {
  count = length_set ks' n k' ∙ so_far.count;
  gone = λ o l l' low at_l at_l'. go o l l' low at_l (get_set ks' n k' o l' at_l');
  left = λ o high. still ks' n k' o high ∙ so_far.left o (omega (arith, high));
}
  where
    go : (o : ℕ) (l l' : Access) → o < n + 1 → slice_get ks o ≡ Some l → Stands ks' n k' o l' → P o l l'
    go o l l' low at_l (here same is) =
        let k_is : k ≡ l = is_one (slice_get ks o) k l (subst (λ m. slice_get ks m ≡ Some k) (sym same) at_k) at_l in
        subst (λ m. P m l l') (sym same) (subst (λ (z : Access). P n z l') k_is (subst (λ (z : Access). P n k z) is goes))
    go o l l' low at_l (elsewhere apart at_l') = so_far.gone o l l' (omega (arith, low, apart)) at_l at_l'

    still : (vs : List Access) (i : ℕ) (v : Access) (o : ℕ) → i + 1 ≤ o → slice_get (slice_set vs i v) o ≡ slice_get vs o
    still [] i v o high = refl
    still (w ∷ ws) zero v zero high = absurd (omega (arith, high))
    still (w ∷ ws) zero v (suc o) high = refl
    still (w ∷ ws) (suc i) v zero high = absurd (omega (arith, high))
    still (w ∷ ws) (suc i) v (suc o) high = still ws i v o (omega (arith, high))

pub all_gone : (ks ks' : List Access) (P : ℕ → Access → Access → Type 0) (n : ℕ) → GoneSoFar ks ks' P n → length ks ≤ n → EachGoes ks ks' P
all_gone ks ks' P n so_far all_ = record {
  count = so_far.count;
  each = λ o k k' at_k at_k'. let low = below ks o k at_k in so_far.gone o k k' (omega (arith, low, all_)) at_k at_k';
}
  where
    below : (vs : List Access) (o : ℕ) (v : Access) → slice_get vs o ≡ Some v → o < length vs
    below [] o v h = cc h
    below (w ∷ ws) zero v h = omega arith
    below (w ∷ ws) (suc o) v h = omega (arith, below ws o v h)

-- ---- reads by index

pub read_at : {A : Type 0} (ys : List A) (k : ℕ) (y : A) → k < length ys → y ≡ get_or ys k y → slice_get ys k ≡ Some y
read_at [] k y h e = absurd (omega (arith, h))
read_at (x ∷ ys) zero y h e = ap (λ z. Some z) (sym e)
read_at (x ∷ ys) (suc k) y h e = read_at ys k y (omega (arith, h)) e

pub got_at : {A : Type 0} (ys : List A) (k : ℕ) (d : A) → k < length ys → slice_get ys k ≡ Some (get_or ys k d)
got_at [] k d h = absurd (omega (arith, h))
got_at (x ∷ ys) zero d h = refl
got_at (x ∷ ys) (suc k) d h = got_at ys k d (omega (arith, h))

-- a place that wasn't come to has what stood there
pub was_at : (ks ks' : List Access) (P : ℕ → Access → Access → Type 0) (n : ℕ) (d : Access) → GoneSoFar ks ks' P n → n < length ks → slice_get ks n ≡ Some (get_or ks' n d)
was_at ks ks' P n d so_far low = let many = so_far.count in sym (so_far.left n (omega arith)) ∙ got_at ks' n d (omega (arith, low, many))

-- the access at a place that wasn't come to is still one to its object
pub record IsStill (xs : List RunObject) (n : ℕ) (k : Access) : Type 0 where
  pub object : RunObject
  pub there : slice_get xs n ≡ Some object
  pub thread : ℕ
  pub is : IsAccess object thread k

pub still_access : (xs : List RunObject) (ks ks' : List Access) (P : ℕ → Access → Access → Type 0) (n : ℕ) (d : Access) → (t : ℕ) × AreAccesses xs t ks → GoneSoFar ks ks' P n → n < length ks → IsStill xs n (get_or ks' n d)
still_access xs ks ks' P n d are so_far low =
    let at_k = was_at ks ks' P n d so_far low in
    let x = at_same ks xs n (get_or ks' n d) are.1.count at_k in
    record { object = x.0; there = x.1; thread = are.0; is = are.1.each n x.0 (get_or ks' n d) x.1 at_k }

pub seen_here : (xs : List RunObject) (n : ℕ) (k : Access) → IsStill xs n k → IsSeen (Knows k)
seen_here xs n k s = record { view = s.is.view; seen = s.is.seen }

-- two accesses at one place are to one object
pub same_object : (xs : List RunObject) (n : ℕ) (k j : Access) → IsStill xs n k → IsStill xs n j → object_of k ≡ object_of j
same_object xs n k j a b = a.is.object ∙ (is_one (slice_get xs n) a.object b.object a.there b.there ∙ sym b.is.object)

-- an item of a list that is counted
pub counted_at : {A : Type 0} (ys : List A) (n k : ℕ) (p : ℕ × A) → k < length (enumerate_from n ys) → p ≡ get_or (enumerate_from n ys) k p → (p.0 ≡ n + k) × (slice_get ys k ≡ Some p.1)
counted_at {A} [] n k p h e = absurd (omega (arith, h))
counted_at {A} (y ∷ ys) n zero p h e = (ap (λ (q : ℕ × A). q.0) e ∙ sym add_none, ap (λ (q : ℕ × A). Some q.1) (sym e))
  where
    add_none : n + 0 ≡ n
    add_none = omega arith
counted_at {A} (y ∷ ys) n (suc k) p h e = let r = counted_at ys (n + 1) k p (omega (arith, h)) e in let a = r.0 in (omega (arith, a), r.1)

pub long_counted : {A : Type 0} (ys : List A) (n : ℕ) → length (enumerate_from n ys) ≡ length ys
long_counted [] n = refl
long_counted (y ∷ ys) n = ap suc (long_counted ys (n + 1))

-- a turn of a loop over a list that is counted
pub record IsTurn {A : Type 0} (ys : List A) (n i : ℕ) (y : A) : Type 0 where
  pub number : i ≡ n
  pub there : slice_get ys n ≡ Some y
  pub low : n < length ys

pub turn_is : {A : Type 0} (ys : List A) (n i : ℕ) (y : A) → n < length (enumerate_from 0 ys) → (i, y) ≡ get_or (enumerate_from 0 ys) n (i, y) → IsTurn ys n i y
turn_is ys n i y low is =
    let c = counted_at ys 0 n (i, y) low is in
    let number = c.0 in
    let long = long_counted ys 0 in
    record { number = omega (arith, number); there = c.1; low = omega (arith, low, long) }

-- the other access that comes next
pub next_other : (xs : List RunObject) (others : List Access) (n i : ℕ) (y : Access) → (u : ℕ) × AreAccesses xs u others → IsTurn others n i y → IsStill xs i y
next_other xs others n i y theirs turn =
    let x = at_same others xs n y theirs.1.count turn.there in
    subst (λ m. IsStill xs m y) (sym turn.number) (record { object = x.0; there = x.1; thread = theirs.0; is = theirs.1.each n x.0 y x.1 turn.there })

-- and the access to come with it
pub next_access : (xs : List RunObject) (ks ks' others : List Access) (P : ℕ → Access → Access → Type 0) (n i : ℕ) (d y : Access) → (t : ℕ) × AreAccesses xs t ks → (u : ℕ) × AreAccesses xs u others → GoneSoFar ks ks' P n → IsTurn others n i y → IsStill xs i (get_or ks' i d)
next_access xs ks ks' others P n i d y are theirs so_far turn =
    let low = turn.low in
    let many = theirs.1.count in
    let mine = are.1.count in
    subst (λ m. IsStill xs m (get_or ks' m d)) (sym turn.number) (still_access xs ks ks' P n d are so_far (omega (arith, low, many, mine)))

-- one more was taken in
pub one_taken : (xs : List RunObject) (ks ks' others : List Access) (n m i : ℕ) (d y v : Access) → (t : ℕ) × AreAccesses xs t ks → (u : ℕ) × AreAccesses xs u others → GoneSoFar ks ks' (λ o k k'. (other : Access) → slice_get others o ≡ Some other → TakesIn other k k') n → IsTurn others n i y → TakesIn y (get_or ks' i d) v → m ≡ n + 1 → GoneSoFar ks (set ks' i v) (λ o k k'. (other : Access) → slice_get others o ≡ Some other → TakesIn other k k') m
one_taken xs ks ks' others n m i d y v are theirs so_far turn takes more =
    let low = turn.low in
    let many = theirs.1.count in
    let mine = are.1.count in
    let at_k = was_at ks ks' (λ o k k'. (other : Access) → slice_get others o ≡ Some other → TakesIn other k k') n d so_far (omega (arith, low, many, mine)) in
    let takes' : TakesIn y (get_or ks' n d) v = subst (λ j. TakesIn y (get_or ks' j d) v) turn.number takes in
    rw (more, turn.number) (one_gone ks ks' (λ o k k'. (other : Access) → slice_get others o ≡ Some other → TakesIn other k k') n (get_or ks' n d) v so_far at_k
    (λ other at_other. subst (λ (z : Access). TakesIn z (get_or ks' n d) v) (is_one (slice_get others n) y other turn.there at_other) takes'))

pub all_taken : (xs : List RunObject) (ks ks' others : List Access) (n : ℕ) → (t : ℕ) × AreAccesses xs t ks → (u : ℕ) × AreAccesses xs u others → GoneSoFar ks ks' (λ o k k'. (other : Access) → slice_get others o ≡ Some other → TakesIn other k k') n → n ≡ length (enumerate_from 0 others) → AllTakeIn others ks ks'
all_taken xs ks ks' others n are theirs so_far end =
    let long = long_counted others 0 in
    let many = theirs.1.count in
    let mine = are.1.count in
    all_gone ks ks' (λ o k k'. (other : Access) → slice_get others o ≡ Some other → TakesIn other k k') n so_far (omega (arith, end, long, many, mine))
