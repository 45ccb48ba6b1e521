-- The bodies of the made scenario are set.
use Rattle.std.proofs.Common.{◌≡◌, ℕ, zero, suc, ◌+◌, ◌*◌, ◌≤◌, ◌<◌, ◌&&◌, ◌||◌, not, ℤ, pos, Bool, true, false, List, [], ◌∷◌, ◌++◌, map, length, codes, Option, Some, None, refl, ap, arith}
use Rattle.std.specs.Prelude.{int_le}
use Rattle.std.specs.List.{AllByRecursion, list_all, flat_map}
use Rattle.std.specs.Str.{bytes_eq}
use Rattle.std.proofs.lemmas.Bool.{and_parts, or_parts, not-true, le-leb}
use Rattle.cx_names.specs.declared.ObjectNo.{ObjectNo}
use Rattle.cx_scene.specs.declared.call.Call.{Call}
use Rattle.cx_scene.specs.declared.call.Call.TheVariants as calls
use Rattle.cx_text.specs.declared.form.Field.TheVariants as fields
use Rattle.cx_text.specs.declared.form.Made.{Made}
use Rattle.cx_text.specs.declared.form.Made.TheVariants as mades
use Rattle.cx_text.specs.Words.{Filled, main_word, is_name}
use Rattle.cx_text.proofs.Fields.{IsShort}
use Rattle.cx_script.specs.Earlier.{made_of}
use Rattle.cx_script.specs.Faults.{has_outside, is_outside, numbers_of, mutex_among, is_mutex}
use Rattle.cx_script.specs.Script.{Names, line_of_call}
use Rattle.cx_made.specs.Made.{from, lettered, buffer, watch, put, take_one, share, puts, takes}
use Rattle.cx_made.proofs.Sums.{over}
use Rattle.cx_script.specs.InOrder.{FitsIn, AllFit, IsBody, call_count}
use Rattle.cx_script.proofs.LinesBack.{says_itself, itself_filled}
use Rattle.cx_made.proofs.Checks.{fits_in, IsSimple, all_fit, IsRecurring, all_recur, says_again}
use Rattle.cx_made.proofs.Closed.{Body, named_bodies, names, front, block, blocks, is_jthread, body_ok, group_ok, Closed}
use Rattle.cx_made.proofs.Shares.{share_below, puts_few, takes_few, all_puts_long, all_takes_long}

both_false : (a b : Bool) → a ≡ false → b ≡ false → (a || b) ≡ false
both_false a b p q = rw (p, q) refl

-- a number that is added is in range
in_range : (j : ℕ) → j < 4800 → is_outside (pos 2) fields.Signed (pos (j + 1)) [] ≡ false
in_range j h = let a = le-leb (j + 1) 9223372036854775807 (omega (arith, h)) in rw a refl

range_any : (numbers : ℤ) (j : ℕ) → j < 4800 → is_outside numbers fields.Signed (pos (j + 1)) [] ≡ false
range_any numbers j h = in_range j h

-- an addition of another number fits too
add_inside : (f : List Filled) (ns : Names) (o : ObjectNo) (i : ℕ) (v w : ℤ) → ((n : ℤ) → is_outside n fields.Signed w [] ≡ false) → has_outside f (line_of_call ns (calls.Add o i v)) ≡ false → has_outside f (line_of_call ns (calls.Add o i w)) ≡ false
add_inside f ns o i v w range h =
    let n : ℤ = numbers_of f (mutex_among (is_mutex f) (line_of_call ns (calls.Add o i v)).values) in
    both_false (int_le n (pos i)) (is_outside n fields.Signed w [] || false) (or_parts (int_le n (pos i)) (is_outside n fields.Signed v [] || false) h).0 (both_false (is_outside n fields.Signed w []) false (range n) refl)

add_fits : (f : List Filled) (ns : Names) (me : List ℕ) (o : ObjectNo) (i : ℕ) (v w : ℤ) → ((n : ℤ) → is_outside n fields.Signed w [] ≡ false) → IsShort w → FitsIn f me (line_of_call ns (calls.Add o i v)) → FitsIn f me (line_of_call ns (calls.Add o i w))
add_fits f ns me o i v w range short s =
    let filled = itself_filled (line_of_call ns (calls.Add o i v)) s.itself in
    record { itself = says_itself (line_of_call ns (calls.Add o i w)) (filled.0, (filled.1.0, (short, tt))); call = refl; known = s.known; kind = s.kind; inside = add_inside f ns o i v w range s.inside; latch = s.latch; repeated = refl; order = λ e. refl }

-- ---- producers and consumers

module _ (k : ℕ) where
  abbrev ns : Names
  ns = names k

  abbrev lines : List Call → List Filled
  lines cs = map (line_of_call ns) cs

  put_simple : AllByRecursion IsSimple (put k 0)
  put_simple = (refl, ((omega arith, omega arith), ((omega arith, omega arith), ((omega arith, omega arith), (refl, (refl, tt))))))

  take_simple : (i : ℕ) → AllByRecursion IsSimple (take_one k i)
  take_simple i = (refl, ((omega arith, omega arith), ((omega arith, omega arith), (refl, (refl, tt)))))

  watch_simple : AllByRecursion IsSimple (watch k)
  watch_simple = (refl, ((omega arith, omega arith), (refl, tt)))

  puts_fit : (me : List ℕ) → AllFit (front k) me (lines (put k 0)) → (js : List ℕ) → AllByRecursion (λ j. j < 4800) js → AllFit (front k) me (lines (flat_map (put k) js))
  puts_fit me s [] low = tt
  puts_fit me s (j ∷ js) low =
      let add = add_fits (front k) ns me (buffer k) 1 (pos (0 + 1)) (pos (j + 1)) (λ n. range_any n j low.0) (let a = low.0 in omega (arith, a)) s.1.1.1.0 in
      (s.0, (s.1.0, (s.1.1.0, (add, (s.1.1.1.1.0, (s.1.1.1.1.1.0, puts_fit me s js low.1))))))

  takes_fit : (me : List ℕ) (i : ℕ) → AllFit (front k) me (lines (take_one k i)) → (js : List ℕ) → AllFit (front k) me (lines (flat_map (λ j. take_one k i) js))
  takes_fit me i s [] = tt
  takes_fit me i s (j ∷ js) = (s.0, (s.1.0, (s.1.1.0, (s.1.1.1.0, (s.1.1.1.1.0, takes_fit me i s js)))))

  puts_repeat : (js : List ℕ) → AllByRecursion (IsRecurring ns) (flat_map (put k) js)
  puts_repeat [] = tt
  puts_repeat (j ∷ js) = (refl, (refl, (refl, (refl, (refl, (refl, puts_repeat js))))))

  takes_repeat : (i : ℕ) (js : List ℕ) → AllByRecursion (IsRecurring ns) (flat_map (λ j. take_one k i) js)
  takes_repeat i [] = tt
  takes_repeat i (j ∷ js) = (refl, (refl, (refl, (refl, (refl, takes_repeat i js)))))

  all_append : (f : List Filled) (xs ys : List Call) → list_all (says_again ns f) xs ≡ true → list_all (says_again ns f) ys ≡ true → list_all (says_again ns f) (xs ++ ys) ≡ true
  all_append f [] ys h g = g
  all_append f (x ∷ xs) ys h g = let a = and_parts (says_again ns f x) (list_all (says_again ns f) xs) h in rw (a.0, all_append f xs ys a.1 g) refl

  puts_say : list_all (says_again ns (front k)) (put k 0) ≡ true → (js : List ℕ) → list_all (says_again ns (front k)) (flat_map (put k) js) ≡ true
  puts_say h [] = refl
  puts_say h (j ∷ js) = all_append (front k) (put k j) (flat_map (put k) js) h (puts_say h js)

  takes_say : (i : ℕ) → list_all (says_again ns (front k)) (take_one k i) ≡ true → (js : List ℕ) → list_all (says_again ns (front k)) (flat_map (λ j. take_one k i) js) ≡ true
  takes_say i h [] = refl
  takes_say i h (j ∷ js) = all_append (front k) (take_one k i) (flat_map (λ j. take_one k i) js) h (takes_say i h js)

  jthread_is : (m : Option Made) → is_jthread m ≡ true → m ≡ Some mades.JThread
  jthread_is None h = cc
  jthread_is (Some mades.JThread) h = refl
  jthread_is (Some _) h = cc

  long_lines : (cs : List Call) → length (lines cs) ≡ length cs
  long_lines [] = refl
  long_lines (c ∷ cs) = ap suc (long_lines cs)

  -- what the tests of a group say of one body
  pub record Said (b : Body) : Type 0 where
    pub set : IsBody (front k) (block k b)
    pub says : list_all (says_again ns (front k)) b.calls ≡ true

  said : (name : List ℕ) (cs : List Call) → body_ok k name ≡ true → AllFit (front k) name (lines cs) → AllByRecursion (IsRecurring ns) cs → length cs ≤ 4096 → list_all (says_again ns (front k)) cs ≡ true → Said (record { name = name; calls = cs })
  said name cs ok settle repeat few says =
      let x = and_parts (is_name 1 name && not (bytes_eq main_word name)) (is_jthread (made_of (front k) name)) ok in
      let y = and_parts (is_name 1 name) (not (bytes_eq main_word name)) x.0 in
      let long = long_lines cs in
      record {
        set = record { named = y.0; other = not-true (bytes_eq main_word name) y.1; made = mades.JThread; is = jthread_is (made_of (front k) name) x.1; may = refl; fit = settle; recur = all_recur ns cs repeat; few = omega (arith, few, long) };
        says = says;
      }

  group_parts : (name : ℕ → List ℕ) (cs : ℕ → List Call) (i : ℕ) → group_ok k name cs i ≡ true → (body_ok k (name i) ≡ true) × (list_all (fits_in (front k) (name i)) (lines (cs i)) ≡ true) × (list_all (says_again ns (front k)) (cs i) ≡ true)
  group_parts name cs i h =
      let x = and_parts (body_ok k (name i) && list_all (fits_in (front k) (name i)) (lines (cs i))) (list_all (says_again ns (front k)) (cs i)) h in
      let y = and_parts (body_ok k (name i)) (list_all (fits_in (front k) (name i)) (lines (cs i))) x.0 in
      (y.0, y.1, x.1)

  module _ (n : ℕ) (few : n ≤ 4800) (short : n ≤ 600 * k) where
    below_all : (js : List ℕ) → AllByRecursion (λ j. j < n) js → AllByRecursion (λ j. j < 4800) js
    below_all [] h = tt
    below_all (j ∷ js) h = let a = h.0 in (omega (arith, a, few), below_all js h.1)

    put_said : (i : ℕ) → i < k → group_ok k (lettered (codes "p")) (λ i. put k 0) i ≡ true → Said (record { name = lettered (codes "p") i; calls = puts k n i })
    put_said i low h =
        let g = group_parts (lettered (codes "p")) (λ i. put k 0) i h in
        said (lettered (codes "p") i) (puts k n i) g.0 (puts_fit (lettered (codes "p") i) (all_fit ns (front k) (lettered (codes "p") i) (put k 0) put_simple g.1) (share k i n) (below_all (share k i n) (share_below k i n)))
        (puts_repeat (share k i n)) (puts_few k n i low short) (puts_say g.2 (share k i n))

    take_said : (i : ℕ) → i < k → group_ok k (lettered (codes "c")) (take_one k) i ≡ true → Said (record { name = lettered (codes "c") i; calls = takes k n i })
    take_said i low h =
        let g = group_parts (lettered (codes "c")) (take_one k) i h in
        said (lettered (codes "c") i) (takes k n i) g.0 (takes_fit (lettered (codes "c") i) i (all_fit ns (front k) (lettered (codes "c") i) (take_one k i) (take_simple i) g.1) (share k i n))
        (takes_repeat i (share k i n)) (takes_few k n i low short) (takes_say i g.2 (share k i n))

    watch_said : group_ok k (λ i. codes "w") (λ i. watch k) 0 ≡ true → Said (record { name = codes "w"; calls = watch k })
    watch_said h =
        let g = group_parts (λ i. codes "w") (λ i. watch k) 0 h in
        said (codes "w") (watch k) g.0 (all_fit ns (front k) (codes "w") (watch k) watch_simple g.1) (refl, (refl, (refl, tt))) (omega arith) g.2

    abbrev AllSaid : List Body → Type 0
    AllSaid bs = AllByRecursion Said bs

    group_said : (test : ℕ → Bool) (body : ℕ → Body) (rest : List Body) → ((i : ℕ) → i < k → test i ≡ true → Said (body i)) → AllSaid rest → (a c : ℕ) → a + c ≤ k → list_all test (from a c) ≡ true → AllSaid (map body (from a c) ++ rest)
    group_said test body rest one later a zero low h = later
    group_said test body rest one later a (suc c) low h =
        let x = and_parts (test a) (list_all test (from (a + 1) c)) h in
        (one a (omega (arith, low)) x.0, group_said test body rest one later (a + 1) c (omega (arith, low)) x.1)

    last_said : (bs : List Body) → AllSaid (bs ++ []) → AllSaid bs
    last_said [] h = tt
    last_said (b ∷ bs) h = (h.0, last_said bs h.1)

    pub all_said : Closed k → AllSaid (named_bodies k n)
    all_said c =
        let takes_ : AllSaid (map (λ i. record { name = lettered (codes "c") i; calls = takes k n i }) (from 0 k)) =
        last_said _ (group_said (group_ok k (lettered (codes "c")) (take_one k)) (λ i. record { name = lettered (codes "c") i; calls = takes k n i }) [] take_said tt 0 k (omega arith) c.taking) in
        (watch_said c.watching, group_said (group_ok k (lettered (codes "p")) (λ i. put k 0)) (λ i. record { name = lettered (codes "p") i; calls = puts k n i }) (map (λ i. record { name = lettered (codes "c") i; calls = takes k n i }) (from 0 k)) put_said takes_ 0 k (omega arith) c.putting)

    pub all_bodies : (bs : List Body) → AllSaid bs → AllByRecursion (IsBody (front k)) (map (block k) bs)
    all_bodies [] h = tt
    all_bodies (b ∷ bs) h = (h.0.set, all_bodies bs h.1)

    -- ---- how many calls

    count_append : (xs ys : List Body) → call_count (map (block k) (xs ++ ys)) ≡ call_count (map (block k) xs) + call_count (map (block k) ys)
    count_append [] ys = omega arith
    count_append (x ∷ xs) ys = let h = count_append xs ys in omega (arith, h)

    count_group : (name : ℕ → List ℕ) (cs : ℕ → List Call) (is : List ℕ) → call_count (map (block k) (map (λ i. record { name = name i; calls = cs i }) is)) ≡ over (λ i. length (cs i)) is
    count_group name cs [] = refl
    count_group name cs (i ∷ is) = let a = long_lines (cs i) in let b = count_group name cs is in omega (arith, a, b)

    pub count_is : 0 < k → call_count (blocks k n) ≡ 3 + (n * 6 + n * 5)
    count_is pos_k =
        let a = count_append (map (λ i. record { name = lettered (codes "p") i; calls = puts k n i }) (from 0 k)) (map (λ i. record { name = lettered (codes "c") i; calls = takes k n i }) (from 0 k)) in
        let b = count_group (lettered (codes "p")) (puts k n) (from 0 k) in
        let c = count_group (lettered (codes "c")) (takes k n) (from 0 k) in
        let d = all_puts_long k n pos_k in
        let e = all_takes_long k n pos_k in
        omega (arith, a, b, c, d, e)
