-- Accesses, as they are made one by one.
use Rattle.std.proofs.Common.{◌≡◌, ◌≤◌, ◌<◌, ◌+◌, ◌-◌, ◌*◌, ◌==◌, ◌&&◌, ℕ, zero, suc, Bool, true, false, List, [], ◌∷◌, ◌++◌, length, take, drop, Option, Some, get_or, slice_get, slice_set, refl, sym, ap, ◌∙◌, subst, arith, eqb-true}
use Rattle.std.specs.List.{list_all}
use Rattle.std.specs.Prelude.{nat_le}
use Rattle.std.proofs.lemmas.Bool.{eqb-false, and_parts, le-leb}
use Rattle.std.specs.Global.{Vec}
use Rattle.cx_machine.specs.Machine.{opening}
use Rattle.cx_scene.specs.declared.declared.Object.{Object}
use Rattle.cx_scene.specs.declared.declared.Object.TheVariants as objects
use Rattle.cx_scene.specs.Scene.{kind_of}
use Rattle.cx_items.specs.Memory.{nothing}
use Rattle.cx_kinds.specs.declared.access.Access.{Access}
use Rattle.cx_kinds.specs.Accesses.{RunObject, object_of, IsOf, is_made, Knows, kept_of}
use Rattle.cx_asks.specs.Scenes.{count_of, is_object_now, is_completion_now}
use Rattle.cx_kinds.specs.Sights.{IsNew as IsMadeNew}
use Rattle.cx_work.specs.Accesses.{IsMadeAs, AreMadeAs, objects_of}
use Rattle.cx_work.specs.RunNow.{IsNewAccess, AreNew, AreAllNew}
use Rattle.cx_work.proofs.Copying.{all_here}
use Rattle.cx_work.proofs.Stepping.{at_index, is_within, set_same, set_other, set_length, objects_length}

-- ---- lists

pub the_same : {A : Type 0} (x y : A) → Some x ≡ Some y → x ≡ y
the_same x y e = cc

same_there : {A : Type 0} (x y : A) (o : Option A) → o ≡ Some x → o ≡ Some y → x ≡ y
same_there x y o a b = cc

-- what holds of each and of one more holds of each with it
pub each_with : {A : Type 0} (P : ℕ → A → Type 0) (xs : List A) (y : A) → ((o : ℕ) (v : A) → slice_get xs o ≡ Some v → P o v) → P (length xs) y → (o : ℕ) (v : A) → slice_get (xs ++ y ∷ []) o ≡ Some v → P o v
each_with P [] y each last zero v e = subst (P 0) (the_same y v e) last
each_with P [] y each last (suc o) v e = cc
each_with P (x ∷ xs) y each last zero v e = each zero v e
each_with P (x ∷ xs) y each last (suc o) v e = each_with (λ n w. P (suc n) w) xs y (λ n w f. each (suc n) w f) last o v e

length_more : {A : Type 0} (xs : List A) (y : A) → length (xs ++ y ∷ []) ≡ length xs + 1
length_more [] y = refl
length_more (x ∷ xs) y = let rest = length_more xs y in omega (arith, rest)

pub below : (o n : ℕ) → o < n + 1 → (n ≡ o → ⊥) → o < n
below zero zero low differ = absurd (differ refl)
below zero (suc n) low differ = omega arith
below (suc o) zero low differ = absurd (omega (arith, low))
below (suc o) (suc n) low differ = let rest = below o n (omega (arith, low)) (λ e. differ (ap suc e)) in omega (arith, rest)

-- ---- main's accesses to objects of the first declarations

-- what a run may declare may be made
made_now : (d : Object) → is_object_now d ≡ true → is_made d ≡ true
made_now (objects.Mutex numbers) h = le-leb numbers 8 (let e = eqb-true numbers 0 h in omega (arith, e))
made_now objects.Recursive h = refl
made_now objects.Shared h = refl
made_now (objects.Semaphore count max) h = h
made_now (objects.Latch count) h = h
made_now (objects.Barrier count small) h = (and_parts (nat_le 1 count && nat_le count 4096) (is_completion_now small) h).0
made_now objects.Once h = refl
made_now _ h = cc

pub declared_made : (ds : List Object) (i : ℕ) (d : Object) → list_all is_object_now ds ≡ true → i < length ds → d ≡ get_or ds i d → is_made d ≡ true
declared_made ds i d now low read = made_now d (subst (λ (x : Object). is_object_now x ≡ true) (sym read) (all_here is_object_now ds i d now low))

pub record SomeMade (ds : List Object) (i : ℕ) (threads left : ℕ) (ks : List Access) : Type 0 where
  pub within : i ≤ length ds
  pub count : length ks ≡ i
  pub each : (o : ℕ) (k : Access) → slice_get ks o ≡ Some k → (d : Object) → slice_get ds o ≡ Some d → IsMadeAs d (object_of k)
  pub new : (o : ℕ) (k : Access) → slice_get ks o ≡ Some k → IsNewAccess (object_of k) threads 0 left 0 k

pub none_made : (ds : List Object) (threads left : ℕ) (ks : List Access) → ks ≡ [] → SomeMade ds 0 threads left ks
none_made ds threads left ks none = rw none (record {
  within = omega arith;
  count = refl;
  each = λ o k at_k. cc at_k;
  new = λ o k at_k. cc at_k;
})

-- what is made of a declaration opens so, and is new
pub made_is_new : (d : Object) (threads : ℕ) (k : Access) → IsMadeNew threads (opening (kind_of d)) (count_of d) (Knows k) → IsOf d (object_of k) → kept_of k ≡ nothing → IsMadeAs d (object_of k) × IsNewAccess (object_of k) threads 0 (131072 * threads) 0 k
made_is_new d threads k new is_of free = (
  record { opens_so = sym new.seen.started; is_of = is_of },
  record { object = refl; free = free; view = _; seen = new.seen; new = record { seated = refl; numbered = refl; front = refl; mine = refl; taken = refl; may = refl; split = refl } },
)

one_more_made : (ds : List Object) (i : ℕ) (threads left : ℕ) (ks : List Access) (d : Object) (k : Access) → SomeMade ds i threads left ks → slice_get ds i ≡ Some d → IsMadeAs d (object_of k) → IsNewAccess (object_of k) threads 0 left 0 k → SomeMade ds (i + 1) threads left (ks ++ k ∷ [])
one_more_made ds i threads left ks d k made at_d is new = record {
  within = let low = is_within ds i d at_d in omega (arith, low);
  count = let a = length_more ks k in let c = made.count in omega (arith, a, c);
  each = each_with (λ o (j : Access). (e : Object) → slice_get ds o ≡ Some e → IsMadeAs e (object_of j)) ks k made.each
      (λ e at_e. subst (λ (z : Object). IsMadeAs z (object_of k)) (same_there d e (slice_get ds i) at_d (subst (λ n. slice_get ds n ≡ Some e) made.count at_e)) is);
  new = each_with (λ o (j : Access). IsNewAccess (object_of j) threads 0 left 0 j) ks k made.new new;
}

-- what was read at a place stands there
pub read_at : {A : Type 0} (xs : List A) (i : ℕ) (x : A) → i < length xs → x ≡ get_or xs i x → slice_get xs i ≡ Some x
read_at [] i x low is = absurd (omega (arith, low))
read_at (y ∷ ys) zero x low is = ap Some (sym is)
read_at (y ∷ ys) (suc i) x low is = read_at ys i x (omega (arith, low)) is

pub at_get : {A : Type 0} (xs : List A) (i : ℕ) (x : A) → i < length xs → slice_get xs i ≡ Some (get_or xs i x)
at_get {A} xs i x low = go xs i low
  where
    go : (ys : List A) (j : ℕ) → j < length ys → slice_get ys j ≡ Some (get_or ys j x)
    go [] j h = absurd (omega (arith, h))
    go (y ∷ ys) zero h = refl
    go (y ∷ ys) (suc j) h = go ys j (omega (arith, h))

pub one_more_pushed : (ds : List Object) (i : ℕ) (threads : ℕ) (ks ks' : List Access) (d : Object) (k : Access) → SomeMade ds i threads (131072 * threads) ks → i < length ds → d ≡ get_or ds i d → IsMadeNew threads (opening (kind_of d)) (count_of d) (Knows k) → IsOf d (object_of k) → kept_of k ≡ nothing → ks' ≡ ks ++ k ∷ [] → SomeMade ds (i + 1) threads (131072 * threads) ks'
one_more_pushed ds i threads ks ks' d k made low read new is_of free more =
    let n = made_is_new d threads k new is_of free in
    rw more (one_more_made ds i threads (131072 * threads) ks d k made (read_at ds i d low read) n.0 n.1)

-- an object at a place is that of the access there
pub object_from : (ks : List Access) (o : ℕ) (x : RunObject) → slice_get (objects_of ks) o ≡ Some x → (k : Access) × (slice_get ks o ≡ Some k) × (object_of k ≡ x)
object_from [] o x h = cc h
object_from (k ∷ ks) zero x h = (k, refl, the_same (object_of k) x h)
object_from (k ∷ ks) (suc o) x h = object_from ks o x h

pub all_made : (ds : List Object) (i : ℕ) (threads left : ℕ) (ks : List Access) → length ds ≤ i → SomeMade ds i threads left ks → AreMadeAs ds (objects_of ks)
all_made ds i threads left ks past made = record {
  count = let a = made.within in let b = made.count in let c = objects_length ks in omega (arith, past, a, b, c);
  each = λ o d x at_d at_x. let k = object_from ks o x at_x in subst (λ (z : RunObject). IsMadeAs d z) k.2 (made.each o k.0 k.1 d at_d);
}

pub all_new : (ds : List Object) (i : ℕ) (threads left : ℕ) (ks : List Access) → SomeMade ds i threads left ks → AreNew (objects_of ks) threads 0 left 0 ks
all_new ds i threads left ks made = record {
  count = sym (objects_length ks);
  each = λ o x k at_x at_k.
      let j = object_from ks o x at_x in
      let same : object_of k ≡ x = ap object_of (same_there k j.0 (slice_get ks o) at_k j.1) ∙ j.2 in
      subst (λ (z : RunObject). IsNewAccess z threads 0 left 0 k) same (made.new o k at_k);
}

-- ---- a row of accesses that is split off main's, object by object

pub record RowMade (xs : List RunObject) (threads splits before after : ℕ) (n : ℕ) (main row : List Access) : Type 0 where
  pub within : n ≤ length xs
  pub count : length main ≡ length xs
  pub done : (o : ℕ) (x : RunObject) (k : Access) → o < n → slice_get xs o ≡ Some x → slice_get main o ≡ Some k → IsNewAccess x threads 0 after (splits + 1) k
  pub rest : (o : ℕ) (x : RunObject) (k : Access) → n ≤ o → slice_get xs o ≡ Some x → slice_get main o ≡ Some k → IsNewAccess x threads 0 before splits k
  pub long : length row ≡ n
  pub each : (o : ℕ) (x : RunObject) (k : Access) → slice_get xs o ≡ Some x → slice_get row o ≡ Some k → IsNewAccess x threads (splits + 1) 131072 0 k

pub row_begins : (xs : List RunObject) (threads splits before after : ℕ) (main row : List Access) → AreNew xs threads 0 before splits main → row ≡ [] → RowMade xs threads splits before after 0 main row
row_begins xs threads splits before after main row new none = rw none (record {
  within = omega arith;
  count = new.count;
  done = λ o x k low at_x at_k. absurd (omega (arith, low));
  rest = λ o x k past at_x at_k. new.each o x k at_x at_k;
  long = refl;
  each = λ o x k at_x at_k. cc;
})

pub row_goes_on : (xs : List RunObject) (threads splits before after : ℕ) (n : ℕ) (main row : List Access) (x : RunObject) (k q : Access) → RowMade xs threads splits before after n main row → slice_get xs n ≡ Some x → IsNewAccess x threads 0 after (splits + 1) k → IsNewAccess x threads (splits + 1) 131072 0 q → RowMade xs threads splits before after (n + 1) (slice_set main n k) (row ++ q ∷ [])
row_goes_on xs threads splits before after n main row x k q made at_x new other = record {
  within = let low = is_within xs n x at_x in omega (arith, low);
  count = set_length main n k ∙ made.count;
  done = λ o y v low at_y at_v. put o y v low at_y at_v (n == o) refl;
  rest = λ o y v past at_y at_v. made.rest o y v (omega (arith, past)) at_y (sym (set_other main n o k (λ same. omega (arith, past, same))) ∙ at_v);
  long = let a = length_more row q in let b = made.long in omega (arith, a, b);
  each = λ o y v at_y at_v. each_with (λ m w. (z : RunObject) → slice_get xs m ≡ Some z → IsNewAccess z threads (splits + 1) 131072 0 w) row q
      (λ m w at_w z at_z. made.each m z w at_z at_w)
      (λ z at_z. subst (λ (u : RunObject). IsNewAccess u threads (splits + 1) 131072 0 q) (same_there x z (slice_get xs n) at_x (subst (λ m. slice_get xs m ≡ Some z) made.long at_z)) other)
      o v at_v y at_y;
}
  where
    put : (o : ℕ) (y : RunObject) (v : Access) → o < n + 1 → slice_get xs o ≡ Some y → slice_get (slice_set main n k) o ≡ Some v → (b : Bool) → (n == o) ≡ b → IsNewAccess y threads 0 after (splits + 1) v
    put o y v low at_y at_v true e =
        let same : n ≡ o = eqb-true n o e in
        let object : x ≡ y = same_there x y (slice_get xs o) (subst (λ m. slice_get xs m ≡ Some x) same at_x) at_y in
        let within = is_within xs n x at_x in
        let count = made.count in
        let old = at_index main n (omega (arith, within, count)) in
        let there : slice_get (slice_set main n k) o ≡ Some k = subst (λ m. slice_get (slice_set main n k) m ≡ Some k) same (set_same main n old.0 k old.1) in
        let access : k ≡ v = same_there k v (slice_get (slice_set main n k) o) there at_v in
        subst (λ (z : RunObject). IsNewAccess z threads 0 after (splits + 1) v) object (subst (λ (z : Access). IsNewAccess x threads 0 after (splits + 1) z) access new)
    put o y v low at_y at_v false e =
        let differ = eqb-false n o e in
        made.done o y v (below o n low differ) at_y (sym (set_other main n o k differ) ∙ at_v)

pub row_ends : (xs : List RunObject) (threads splits before after : ℕ) (n : ℕ) (main row : List Access) → length xs ≤ n → RowMade xs threads splits before after n main row → AreNew xs threads 0 after (splits + 1) main
row_ends xs threads splits before after n main row past made = record {
  count = made.count;
  each = λ o x k at_x at_k. let low = is_within xs o x at_x in made.done o x k (omega (arith, low, past)) at_x at_k;
}

pub row_is_new : (xs : List RunObject) (threads splits before after : ℕ) (n : ℕ) (main row : List Access) → length xs ≤ n → RowMade xs threads splits before after n main row → AreNew xs threads (splits + 1) 131072 0 row
row_is_new xs threads splits before after n main row past made = record {
  count = let a = made.within in let b = made.long in omega (arith, past, a, b);
  each = made.each;
}

-- ---- the rows of the threads

pub record RowsMade (xs : List RunObject) (threads n : ℕ) (main : List Access) (rows : List (Vec Access)) : Type 0 where
  pub within : n < threads
  pub first : AreNew xs threads 0 (131072 * (threads - n)) n main
  pub count : length rows ≡ n
  pub each : (t : ℕ) (ks : Vec Access) → slice_get rows t ≡ Some ks → AreNew xs threads (t + 1) 131072 0 ks.items

pub rows_begin : (xs : List RunObject) (threads : ℕ) (main : List Access) (rows : List (Vec Access)) → 1 ≤ threads → AreNew xs threads 0 (131072 * threads) 0 main → rows ≡ [] → RowsMade xs threads 0 main rows
rows_begin xs threads main rows some new none = rw none (record {
  within = omega (arith, some);
  first = let all_ : 131072 * threads ≡ 131072 * (threads - 0) = omega arith in subst (λ m. AreNew xs threads 0 m 0 main) all_ new;
  count = refl;
  each = λ t ks at_ks. cc;
})

pub rows_go_on : (xs : List RunObject) (threads n : ℕ) (main main' : List Access) (rows : List (Vec Access)) (row : Vec Access) → n + 1 < threads → RowsMade xs threads n main rows → AreNew xs threads 0 (131072 * (threads - (n + 1))) (n + 1) main' → AreNew xs threads (n + 1) 131072 0 row.items → RowsMade xs threads (n + 1) main' (rows ++ row ∷ [])
rows_go_on xs threads n main main' rows row room made new one = record {
  within = room;
  first = new;
  count = let a = length_more rows row in let b = made.count in omega (arith, a, b);
  each = each_with (λ t (ks : Vec Access). AreNew xs threads (t + 1) 131072 0 ks.items) rows row made.each (subst (λ m. AreNew xs threads (m + 1) 131072 0 row.items) (sym made.count) one);
}

pub rows_end : (xs : List RunObject) (threads n : ℕ) (main : Vec Access) (rows : List (Vec Access)) → threads ≤ n + 1 → RowsMade xs threads n main.items rows → AreAllNew xs threads (main ∷ rows)
rows_end xs threads n main rows past made = record {
  count = let a = made.within in let b = made.count in omega (arith, past, a, b);
  main = λ ks e. subst (λ (v : Vec Access). AreNew xs threads 0 131072 (threads - 1) v.items) (the_same main ks e) (subst (λ m. AreNew xs threads 0 131072 m main.items) last (subst (λ m. AreNew xs threads 0 m n main.items) left made.first));
  others = λ t ks up at_ks. other t ks up at_ks;
}
  where
    last : n ≡ threads - 1
    last = let a = made.within in omega (arith, past, a)

    left : 131072 * (threads - n) ≡ 131072
    left = let a = made.within in omega (arith, past, a)

    other : (t : ℕ) (ks : Vec Access) → 0 < t → slice_get (main ∷ rows) t ≡ Some ks → AreNew xs threads t 131072 0 ks.items
    other zero ks up at_ks = absurd (omega (arith, up))
    other (suc t) ks up at_ks = subst (λ m. AreNew xs threads m 131072 0 ks.items) (omega arith) (made.each t ks at_ks)

-- ---- main's changes left

pub less_left : (threads splits : ℕ) → splits + 1 < threads → 131072 * (threads - splits) - 131072 ≡ 131072 * (threads - (splits + 1))
less_left threads splits room = omega (arith, room)

-- ---- rows, with main's accesses written back as a slice

pub front_of : {A : Type 0} (xs ys : List A) (n : ℕ) → n ≡ length xs → take n (xs ++ ys) ≡ xs
front_of xs ys n same = ap (λ k. take k (xs ++ ys)) same ∙ whole xs ys
  where
    whole : {A : Type 0} (xs ys : List A) → take (length xs) (xs ++ ys) ≡ xs
    whole [] ys = refl
    whole (x ∷ xs) ys = ap (λ zs. x ∷ zs) (whole xs ys)

pub rows_written : (xs : List RunObject) (threads n : ℕ) (main : Vec Access) (written : List Access) (rows rows' : List (Vec Access)) (row : Vec Access) → n + 1 < threads → main.len ≡ length main.items → RowsMade xs threads n main.items rows → AreNew xs threads 0 (131072 * (threads - (n + 1))) (n + 1) written → AreNew xs threads (n + 1) 131072 0 row.items → rows' ≡ rows ++ row ∷ [] → RowsMade xs threads (n + 1) (take main.len (written ++ drop (length written) main.items)) rows'
rows_written xs threads n main written rows rows' row room long made new one more =
    let a = made.first.count in
    let b = new.count in
    let all_ : main.len ≡ length written = omega (arith, long, a, b) in
    let front = front_of written (drop (length written) main.items) main.len all_ in
    subst (λ (ks : List Access). RowsMade xs threads (n + 1) ks rows') (sym front) (subst (λ (rs : List (Vec Access)). RowsMade xs threads (n + 1) written rs) (sym more) (rows_go_on xs threads n main.items written rows row room made new one))

-- ---- by main's accesses as they were

pub row_past : (ks : List Access) (n : ℕ) → length ks ≤ n → length (objects_of ks) ≤ n
row_past ks n past = let long = objects_length ks in omega (arith, past, long)

pub row_low : (ks : List Access) (threads splits before after : ℕ) (n : ℕ) (main row : List Access) → RowMade (objects_of ks) threads splits before after n main row → n < length ks → n < length main
row_low ks threads splits before after n main row made low = let long = objects_length ks in let count = made.count in omega (arith, low, long, count)

pub as_long : (main : Vec Access) (slice written : List Access) → slice ≡ main.items → length written ≡ length (objects_of slice) → main.len ≡ length written
as_long main slice written is count =
    let long = main.ok.0 in
    let objects = objects_length slice in
    let same = ap length is in
    omega (arith, long, objects, same, count)
