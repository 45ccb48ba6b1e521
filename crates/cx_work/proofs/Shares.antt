-- Shares of latches, as they are given one by one.
use Rattle.std.proofs.Common.{◌≡◌, ◌≤◌, ◌<◌, ◌+◌, ◌-◌, ◌==◌, ℕ, zero, suc, Bool, true, false, min, List, [], ◌∷◌, ◌++◌, length, take, drop, get_or, Some, slice_get, slice_set, refl, sym, ap, ◌∙◌, subst, arith, eqb-true}
use Rattle.std.proofs.lemmas.Bool.{eqb-false}
use Rattle.std.specs.Global.{Vec}
use Rattle.cx_scene.specs.Scene.{Scene}
use Rattle.cx_scene.specs.declared.call.Call.{Call}
use Rattle.cx_scene.specs.declared.declared.Object.{Object}
use Rattle.cx_kinds.specs.declared.access.Access.{Access}
use Rattle.cx_kinds.specs.Accesses.{share_of}
use Rattle.cx_asks.specs.Scenes.{takes_of, takings, taken_in, count_of, count_at, left_with_main}
use Rattle.cx_work.specs.RunNow.{share_at, AreGiven, AreShared}
use Rattle.cx_work.proofs.Rows.{below, front_of, each_with, the_same}

-- ---- what calls take

one_taken : (o : ℕ) (xs : List Call) (i : ℕ) (d : Call) → i < length xs → takings o (take (i + 1) xs) ≡ takings o (take i xs) + takes_of o (get_or xs i d)
one_taken o [] i d h = absurd (omega (arith, h))
one_taken o (x ∷ xs) zero d h = omega arith
one_taken o (x ∷ xs) (suc i) d h =
    let later = one_taken o xs i d (omega (arith, h)) in
    let one_on : suc i + 1 ≡ suc (i + 1) = omega arith in
    let longer : takings o (take (suc i + 1) (x ∷ xs)) ≡ takings o (x ∷ take (i + 1) xs) = ap (λ n. takings o (take n (x ∷ xs))) one_on in
    omega (arith, later, longer)

pub one_more_taken : (o : ℕ) (xs : List Call) (i : ℕ) (d : Call) (n a r : ℕ) → i < length xs → n ≡ takes_of o (get_or xs i d) → a ≡ min 4294967295 (takings o (take i xs)) → r ≡ min (a + n) 4294967295 → r ≡ min 4294967295 (takings o (take (i + 1) xs))
one_more_taken o xs i d n a r low is so_far sum = let step = one_taken o xs i d low in omega (arith, step, is, so_far, sum)

-- ---- shares at places

share_other : (ks : List Access) (n : ℕ) (k : Access) (o : ℕ) → (n ≡ o → ⊥) → share_at (slice_set ks n k) o ≡ share_at ks o
share_other [] n k o differ = refl
share_other (j ∷ ks) zero k zero differ = absurd (differ refl)
share_other (j ∷ ks) zero k (suc o) differ = refl
share_other (j ∷ ks) (suc n) k zero differ = refl
share_other (j ∷ ks) (suc n) k (suc o) differ = share_other ks n k o (λ e. differ (ap suc e))

share_same : (ks : List Access) (n : ℕ) (k : Access) → n < length ks → share_at (slice_set ks n k) n ≡ share_of k
share_same [] n k low = absurd (omega (arith, low))
share_same (j ∷ ks) zero k low = refl
share_same (j ∷ ks) (suc n) k low = share_same ks n k (omega (arith, low))

share_before : (ks : List Access) (q : Access) (o : ℕ) → o < length ks → share_at (ks ++ q ∷ []) o ≡ share_at ks o
share_before [] q o low = absurd (omega (arith, low))
share_before (j ∷ ks) q zero low = refl
share_before (j ∷ ks) q (suc o) low = share_before ks q o (omega (arith, low))

share_last : (ks : List Access) (q : Access) → share_at (ks ++ q ∷ []) (length ks) ≡ share_of q
share_last [] q = refl
share_last (j ∷ ks) q = share_last ks q

pub share_past : (ks : List Access) (o : ℕ) → length ks ≤ o → share_at ks o ≡ 0
share_past [] o past = refl
share_past (j ∷ ks) zero past = absurd (omega (arith, past))
share_past (j ∷ ks) (suc o) past = share_past ks o (omega (arith, past))

pub share_got : (ks : List Access) (n : ℕ) (d : Access) → n < length ks → share_of (get_or ks n d) ≡ share_at ks n
share_got [] n d low = absurd (omega (arith, low))
share_got (j ∷ ks) zero d low = refl
share_got (j ∷ ks) (suc n) d low = share_got ks n d (omega (arith, low))

-- ---- a row

pub record RowShared (s : Scene) (t n : ℕ) (before main row : List Access) : Type 0 where
  pub done : (o : ℕ) → o < n → share_at main o ≡ share_at before o - taken_in s t o
  pub rest : (o : ℕ) → n ≤ o → share_at main o ≡ share_at before o
  pub each : (o : ℕ) → o < n → share_at row o ≡ min (taken_in s t o) (share_at before o)

pub shares_begin : (s : Scene) (t : ℕ) (main row : List Access) → RowShared s t 0 main main row
shares_begin s t main row = record {
  done = λ o low. absurd (omega (arith, low));
  rest = λ o past. refl;
  each = λ o low. absurd (omega (arith, low));
}

pub shares_go_on : (s : Scene) (t n : ℕ) (before main row : List Access) (d k k' q : Access) (m : ℕ) → RowShared s t n before main row → n < length main → length row ≡ n → k ≡ get_or main n d → m ≡ min 4294967295 (taken_in s t n) → share_of k ≤ 4294967295 → share_of k' ≡ share_of k - m → share_of q ≡ min m (share_of k) → RowShared s t (n + 1) before (slice_set main n k') (row ++ q ∷ [])
shares_go_on s t n before main row d k k' q m made low long read takes small less got = record {
  done = λ o up. done_ o up (n == o) refl;
  rest = λ o past. share_other main n k' o (λ same. omega (arith, past, same)) ∙ made.rest o (omega (arith, past));
  each = λ o up. each_ o up (n == o) refl;
}
  where
    had : share_of k ≡ share_at before n
    had = ap share_of read ∙ (share_got main n d low ∙ made.rest n (omega arith))

    done_ : (o : ℕ) → o < n + 1 → (b : Bool) → (n == o) ≡ b → share_at (slice_set main n k') o ≡ share_at before o - taken_in s t o
    done_ o up true e = subst (λ i. share_at (slice_set main n k') i ≡ share_at before i - taken_in s t i) (eqb-true n o e) (share_same main n k' low ∙ omega (arith, had, takes, small, less))
    done_ o up false e = let differ = eqb-false n o e in share_other main n k' o differ ∙ made.done o (below o n up differ)

    each_ : (o : ℕ) → o < n + 1 → (b : Bool) → (n == o) ≡ b → share_at (row ++ q ∷ []) o ≡ min (taken_in s t o) (share_at before o)
    each_ o up true e = subst (λ i. share_at (row ++ q ∷ []) i ≡ min (taken_in s t i) (share_at before i)) (eqb-true n o e) (subst (λ i. share_at (row ++ q ∷ []) i ≡ share_of q) long (share_last row q) ∙ omega (arith, had, takes, small, got))
    each_ o up false e = let lower = below o n up (eqb-false n o e) in share_before row q o (omega (arith, lower, long)) ∙ made.each o lower

at_or_past : {P : Type 0} (o n : ℕ) → (o < n → P) → (n ≤ o → P) → P
at_or_past zero zero f g = g (omega arith)
at_or_past zero (suc n) f g = f (omega arith)
at_or_past (suc o) zero f g = g (omega arith)
at_or_past (suc o) (suc n) f g = at_or_past o n (λ h. f (omega (arith, h))) (λ h. g (omega (arith, h)))

pub shares_end : (s : Scene) (t n : ℕ) (before main row : List Access) → length before ≤ n → length main ≤ n → length row ≤ n → RowShared s t n before main row → AreGiven s t before main row
shares_end s t n before main row a b c made = record {
  less = λ o. at_or_past o n (λ low. made.done o low) (λ past. let x = share_past main o (omega (arith, past, b)) in let y = share_past before o (omega (arith, past, a)) in omega (arith, x, y));
  given = λ o. at_or_past o n (λ low. made.each o low) (λ past. let x = share_past row o (omega (arith, past, c)) in let y = share_past before o (omega (arith, past, a)) in omega (arith, x, y));
}

-- ---- the rows of the threads

pub record RowsShared (s : Scene) (n : ℕ) (main : List Access) (rows : List (Vec Access)) : Type 0 where
  pub first : (o : ℕ) → share_at main o ≡ left_with_main s n o
  pub each : (t : ℕ) (ks : Vec Access) → slice_get rows t ≡ Some ks → (o : ℕ) → share_at ks.items o ≡ min (taken_in s (suc t) o) (left_with_main s t o)

pub rows_shared_begin : (s : Scene) (main : List Access) (rows : List (Vec Access)) → ((o : ℕ) → share_at main o ≡ count_at s.objects o) → rows ≡ [] → RowsShared s 0 main rows
rows_shared_begin s main rows all_ none = rw none (record { first = all_; each = λ t ks at_ks. cc })

rows_shared_on : (s : Scene) (n : ℕ) (main main' : List Access) (rows : List (Vec Access)) (row : Vec Access) → length rows ≡ n → RowsShared s n main rows → AreGiven s (suc n) main main' row.items → RowsShared s (suc n) main' (rows ++ row ∷ [])
rows_shared_on s n main main' rows row long made given = record {
  first = λ o. given.less o ∙ ap (λ m. m - taken_in s (suc n) o) (made.first o);
  each = each_with (λ t (ks : Vec Access). (o : ℕ) → share_at ks.items o ≡ min (taken_in s (suc t) o) (left_with_main s t o)) rows row made.each (subst (λ m. (o : ℕ) → share_at row.items o ≡ min (taken_in s (suc m) o) (left_with_main s m o)) (sym long) (λ o. given.given o ∙ ap (λ m. min (taken_in s (suc n) o) m) (made.first o)));
}

pub rows_shared_written : (s : Scene) (n : ℕ) (main : Vec Access) (written : List Access) (rows rows' : List (Vec Access)) (row : Vec Access) → main.len ≡ length written → length rows ≡ n → RowsShared s n main.items rows → AreGiven s (n + 1) main.items written row.items → rows' ≡ rows ++ row ∷ [] → RowsShared s (n + 1) (take main.len (written ++ drop (length written) main.items)) rows'
rows_shared_written s n main written rows rows' row all_ long made given more =
    let one : n + 1 ≡ suc n = omega arith in
    let given' = subst (λ m. AreGiven s m main.items written row.items) one given in
    let front = front_of written (drop (length written) main.items) main.len all_ in
    let next = rows_shared_on s n main.items written rows row long made given' in
    subst (λ (ks : List Access). RowsShared s (n + 1) ks rows') (sym front) (subst (λ (rs : List (Vec Access)). RowsShared s (n + 1) written rs) (sym more) (subst (λ m. RowsShared s m written (rows ++ row ∷ [])) (sym one) next))

pub rows_shared_end : (s : Scene) (n : ℕ) (main : Vec Access) (rows : List (Vec Access)) → length rows ≡ n → RowsShared s n main.items rows → AreShared s (main ∷ rows)
rows_shared_end s n main rows long made = record {
  main = λ ks e o. subst (λ (v : Vec Access). share_at v.items o ≡ left_with_main s (length (main ∷ rows) - 1) o) (the_same main ks e) (made.first o ∙ ap (λ m. left_with_main s m o) count);
  others = made.each;
}
  where
    count : n ≡ length (main ∷ rows) - 1
    count = omega (arith, long)

-- ---- main's shares, as the objects are made

both_more : (ks : List Access) (cs : List Object) (k : Access) (d : Object) → length ks ≡ length cs → ((o : ℕ) → share_at ks o ≡ count_at cs o) → share_of k ≡ count_of d → (o : ℕ) → share_at (ks ++ k ∷ []) o ≡ count_at (cs ++ d ∷ []) o
both_more [] [] k d e all_ one zero = one
both_more [] [] k d e all_ one (suc o) = refl
both_more [] (c ∷ cs) k d e all_ one o = absurd (omega (arith, e))
both_more (j ∷ ks) [] k d e all_ one o = absurd (omega (arith, e))
both_more (j ∷ ks) (c ∷ cs) k d e all_ one zero = all_ zero
both_more (j ∷ ks) (c ∷ cs) k d e all_ one (suc o) = both_more ks cs k d (omega (arith, e)) (λ n. all_ (suc n)) one o

front_more : (ds : List Object) (i : ℕ) (d : Object) → i < length ds → take (i + 1) ds ≡ take i ds ++ get_or ds i d ∷ []
front_more [] i d low = absurd (omega (arith, low))
front_more (x ∷ xs) zero d low = refl
front_more (x ∷ xs) (suc i) d low =
    let one_on : suc i + 1 ≡ suc (i + 1) = omega arith in
    let rest = front_more xs i d (omega (arith, low)) in
    ap (λ n. take n (x ∷ xs)) one_on ∙ ap (λ ys. x ∷ ys) rest

front_length : (ds : List Object) (i : ℕ) → i < length ds → length (take i ds) ≡ i
front_length [] i low = absurd (omega (arith, low))
front_length (x ∷ xs) zero low = refl
front_length (x ∷ xs) (suc i) low = ap suc (front_length xs i (omega (arith, low)))

pub counts_go_on : (ds : List Object) (i : ℕ) (ks ks' : List Access) (d : Object) (k : Access) (m : ℕ) → i < length ds → d ≡ get_or ds i d → length ks ≡ m → m ≡ i → ((o : ℕ) → share_at ks o ≡ count_at (take i ds) o) → share_of k ≡ count_of d → ks' ≡ ks ++ k ∷ [] → (o : ℕ) → share_at ks' o ≡ count_at (take (i + 1) ds) o
counts_go_on ds i ks ks' d k m low read a b so_far one more o =
    let long = front_length ds i low in
    let grown : take (i + 1) ds ≡ take i ds ++ d ∷ [] = front_more ds i d low ∙ ap (λ e. take i ds ++ e ∷ []) (sym read) in
    ap (λ js. share_at js o) more ∙ (both_more ks (take i ds) k d (omega (arith, a, b, long)) so_far one o ∙ ap (λ cs. count_at cs o) (sym grown))

whole_front : (ds : List Object) (i : ℕ) → length ds ≤ i → take i ds ≡ ds
whole_front [] zero past = refl
whole_front [] (suc i) past = refl
whole_front (x ∷ xs) zero past = absurd (omega (arith, past))
whole_front (x ∷ xs) (suc i) past = ap (λ ys. x ∷ ys) (whole_front xs i (omega (arith, past)))

pub counts_end : (ds : List Object) (i : ℕ) (ks : List Access) → length ds ≤ i → ((o : ℕ) → share_at ks o ≡ count_at (take i ds) o) → (o : ℕ) → share_at ks o ≡ count_at ds o
counts_end ds i ks past all_ o = all_ o ∙ ap (λ cs. count_at cs o) (whole_front ds i past)
