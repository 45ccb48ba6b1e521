-- The verdicts on the looks, stamp by stamp.
use Rattle.std.proofs.Common.{◌≡◌, ℕ, zero, suc, ◌+◌, ◌<◌, ◌≤◌, ◌==◌, ◌&&◌, ◌||◌, Bool, true, false, List, [], ◌∷◌, ◌++◌, length, map, drop, take, filter, slice_get, slice_set, get_or, nat_le, nat_lt, Option, Some, None, option_and_then, unwrap_or, if◌then◌else◌, refl, sym, ap, ◌∙◌, subst, arith, add-one, add-zero, eqb-true, eq-eqb, le-leb, length-append}
use Rattle.std.proofs.lemmas.Bool.{eqb-false, ltb-true, ltb-false, leb-true, leb-false, lt-ltb}
use Rattle.std.proofs.lemmas.Option.{slice_get_read, slice_get_within}
use Rattle.std.specs.List.{list_any}
use Rattle.cx_machine.specs.declared.kind.Kind.{Kind}
use Rattle.cx_machine.specs.declared.kind.Look.{Look}
use Rattle.cx_machine.specs.Machine.{State, opening, step, shows, run, after}
use Rattle.cx_machine.specs.Words.{has, Applies}
use Rattle.cx_history.specs.Histories.{Placed, in_order, entries, is_at}
use Rattle.cx_history.specs.Legal.{shows_to}
use Rattle.cx_history.specs.Flaw.{gap_from, bad_step_from}
use Rattle.cx_history.proofs.Appending.{length-in_order}
use Rattle.cx_checker.specs.declared.showing.Bucket.{Bucket}
use Rattle.cx_checker.specs.Marks.{marked}
use Rattle.cx_checker.specs.Looks.{verdict, AreVerdicts}
use Rattle.cx_checker.specs.Buckets.{indexes_in, bucket_at}
use Rattle.cx_checker.proofs.Gathering.{get_set_same, get_set_other}
use Rattle.cx_checker.proofs.Levels.{rest, rest_all, left_at_start, one_level, gap_step}
use Rattle.cx_checker.proofs.Placings.{no_gap_found, all_walked, left_less, walk_on, walk_ends}

-- ---- indexes

has_push : (ns : List ℕ) (j i : ℕ) → has (ns ++ j ∷ []) i ≡ (has ns i || (j == i))
has_push [] j i = last_ (j == i)
  where
    last_ : (b : Bool) → (b || false) ≡ (false || b)
    last_ true = refl
    last_ false = refl
has_push (n ∷ ns) j i = ap (λ b. (n == i) || b) (has_push ns j i) ∙ assoc (n == i) (has ns i) (j == i)
  where
    assoc : (a b c : Bool) → (a || (b || c)) ≡ ((a || b) || c)
    assoc true b c = refl
    assoc false b c = refl

take_next : {X : Type 0} (xs : List X) (i : ℕ) (x : X) → slice_get xs i ≡ Some x → take (i + 1) xs ≡ take i xs ++ x ∷ []
take_next {X = X} xs i x h = rw add-one (go xs i h)
  where
    go : (ys : List X) (n : ℕ) → slice_get ys n ≡ Some x → take (suc n) ys ≡ take n ys ++ x ∷ []
    go [] n h = cc
    go (y ∷ ys) zero h = let same : y ≡ x = cc in ap (λ z. z ∷ []) same
    go (y ∷ ys) (suc n) h = ap (λ zs. y ∷ zs) (go ys n h)

pub has_more : (bucket : List ℕ) (b j i : ℕ) → slice_get bucket b ≡ Some j → has (take (b + 1) bucket) i ≡ (has (take b bucket) i || (j == i))
has_more bucket b j i h = ap (λ ns. has ns i) (take_next bucket b j h) ∙ has_push (take b bucket) j i

or_false : (b : Bool) → b ≡ (b || false)
or_false true = refl
or_false false = refl

pub index_put : (buckets : List Bucket) (at j k i : ℕ) (old new : Bucket) → at < length buckets → old ≡ get_or buckets at old → new.indexes.items ≡ old.indexes.items ++ j ∷ [] → has (bucket_at (slice_set buckets at new) k) i ≡ (has (bucket_at buckets k) i || ((at == k) && (j == i)))
index_put buckets at j k i old new low read put = go (at == k) refl
  where
    go : (b : Bool) → (at == k) ≡ b → has (bucket_at (slice_set buckets at new) k) i ≡ (has (bucket_at buckets k) i || (b && (j == i)))
    go true e =
        let same : at ≡ k = eqb-true at k e in
        let now_ : slice_get (slice_set buckets at new) k ≡ Some new = subst (λ (n : ℕ). slice_get (slice_set buckets at new) n ≡ Some new) same (get_set_same buckets at new low) in
        let was : slice_get buckets k ≡ Some old = subst (λ (n : ℕ). slice_get buckets n ≡ Some old) same (slice_get_read buckets (length buckets) at old refl low read) in
        ap (λ x. has (indexes_in x) i) now_ ∙ (ap (λ ns. has ns i) put ∙ (has_push old.indexes.items j i ∙ ap (λ x. has (indexes_in x) i || (j == i)) (sym was)))
    go false e = ap (λ x. has (indexes_in x) i) (get_set_other buckets at k new (eqb-false at k e)) ∙ or_false (has (bucket_at buckets k) i)

pub index_not_put : (buckets : List Bucket) (at j k i : ℕ) → length buckets ≤ at → k < length buckets → has (bucket_at buckets k) i ≡ (has (bucket_at buckets k) i || ((at == k) && (j == i)))
index_not_put buckets at j k i past low = go (at == k) refl
  where
    go : (b : Bool) → (at == k) ≡ b → has (bucket_at buckets k) i ≡ (has (bucket_at buckets k) i || (b && (j == i)))
    go true e = let same : at ≡ k = eqb-true at k e in absurd (omega arith)
    go false e = or_false (has (bucket_at buckets k) i)

or_right : (a : Bool) → (a || true) ≡ true
or_right true = refl
or_right false = refl

pub all_more : (looks : List Look) (j n stamps : ℕ) (look : Look) (old new : List Bucket) → slice_get looks j ≡ Some look → n ≡ j → length old ≡ stamps → ((k i : ℕ) → k < length old → has (bucket_at new k) i ≡ (has (bucket_at old k) i || ((look.at == k) && (n == i)))) → ((i : ℕ) (l : Look) → i < j → slice_get looks i ≡ Some l → l.at < stamps → has (bucket_at old l.at) i ≡ true) → (i : ℕ) (l : Look) → i < j + 1 → slice_get looks i ≡ Some l → l.at < stamps → has (bucket_at new l.at) i ≡ true
all_more looks j n stamps look old new at_ same long put all i l low got below = go (nat_lt i j) refl
  where
    there : has (bucket_at new l.at) i ≡ (has (bucket_at old l.at) i || ((look.at == l.at) && (n == i)))
    there = put l.at i (subst (λ m. l.at < m) (sym long) below)

    go : (b : Bool) → nat_lt i j ≡ b → has (bucket_at new l.at) i ≡ true
    go true e = there ∙ ap (λ b. b || ((look.at == l.at) && (n == i))) (all i l (ltb-true i j e) got below)
    go false e =
        let high : j ≤ i = ltb-false i j e in
        let is : j ≡ i = omega (arith, high, low) in
        let look_is : look ≡ l = let got_j : slice_get looks j ≡ Some l = ap (slice_get looks) is ∙ got in cc in
        let stamp_is : (look.at == l.at) ≡ true = eq-eqb look.at l.at (ap (λ (x : Look). x.at) look_is) in
        let index_is : (n == i) ≡ true = eq-eqb n i (same ∙ is) in
        there ∙ (ap (λ b. has (bucket_at old l.at) i || (b && (n == i))) stamp_is ∙ (ap (λ b. has (bucket_at old l.at) i || b) index_is ∙ or_right (has (bucket_at old l.at) i)))

pub all_looks : (looks : List Look) (j : ℕ) (i : ℕ) (l : Look) → length looks ≤ j → slice_get looks i ≡ Some l → i < j
all_looks looks j i l past got = let low = slice_get_within looks i l got in omega arith

-- ---- verdicts

pub none_more : (verdicts : List Bool) (i : ℕ) → ((k : ℕ) → marked verdicts k ≡ false) → marked (verdicts ++ false ∷ []) i ≡ false
none_more [] zero h = refl
none_more [] (suc i) h = refl
none_more (v ∷ vs) zero h = h zero
none_more (v ∷ vs) (suc i) h = none_more vs i (λ k. h (suc k))

pub taken_all : {X : Type 0} (xs : List X) (i : ℕ) → length xs ≤ i → take i xs ≡ xs
taken_all [] zero h = refl
taken_all [] (suc i) h = refl
taken_all (x ∷ xs) zero h = absurd (omega arith)
taken_all (x ∷ xs) (suc i) h = ap (λ ys. x ∷ ys) (taken_all xs i (omega arith))

pub verdict_set : (looks : List Look) (verdicts : List Bool) (n k i : ℕ) (look l : Look) (shown_ : Bool) (state : State) → slice_get looks n ≡ Some look → length verdicts ≡ length looks → (look.at == k) ≡ true → shown_ ≡ shows state look → slice_get looks i ≡ Some l → marked (slice_set verdicts n shown_) i ≡ (if (n == i) && (l.at == k) then shows state l else marked verdicts i)
verdict_set looks verdicts n k i look l shown_ state at_ long stamped is got = go (n == i) refl
  where
    go : (b : Bool) → (n == i) ≡ b → marked (slice_set verdicts n shown_) i ≡ (if b && (l.at == k) then shows state l else marked verdicts i)
    go true e =
        let same : n ≡ i = eqb-true n i e in
        let look_is : look ≡ l = let got_n : slice_get looks n ≡ Some l = ap (slice_get looks) same ∙ got in cc in
        let stamp_l : (l.at == k) ≡ true = ap (λ (x : Look). x.at == k) (sym look_is) ∙ stamped in
        let low : n < length verdicts = subst (λ m. n < m) (sym long) (slice_get_within looks n look at_) in
        ap (λ o. unwrap_or o false) (subst (λ m. slice_get (slice_set verdicts n shown_) m ≡ Some shown_) same (get_set_same verdicts n shown_ low))
        ∙ (is ∙ (ap (shows state) look_is ∙ ap (λ b. if b then shows state l else marked verdicts i) (sym stamp_l)))
    go false e = ap (λ o. unwrap_or o false) (get_set_other verdicts n i shown_ (eqb-false n i e))

pub verdict_kept : (looks : List Look) (old_ : Bool) (n k i : ℕ) (look l : Look) (state : State) → slice_get looks n ≡ Some look → (look.at == k) ≡ false → slice_get looks i ≡ Some l → old_ ≡ (if (n == i) && (l.at == k) then shows state l else old_)
verdict_kept looks old_ n k i look l state at_ stamped got = go (n == i) refl
  where
    go : (b : Bool) → (n == i) ≡ b → old_ ≡ (if b && (l.at == k) then shows state l else old_)
    go true e =
        let same : n ≡ i = eqb-true n i e in
        let look_is : look ≡ l = let got_n : slice_get looks n ≡ Some l = ap (slice_get looks) same ∙ got in cc in
        let stamp_l : (l.at == k) ≡ false = ap (λ (x : Look). x.at == k) (sym look_is) ∙ stamped in
        ap (λ b. if b then shows state l else old_) (sym stamp_l)
    go false e = refl

pub verdict_past : (looks : List Look) (old_ : Bool) (n k i : ℕ) (l : Look) (state : State) → length looks ≤ n → slice_get looks i ≡ Some l → old_ ≡ (if (n == i) && (l.at == k) then shows state l else old_)
verdict_past looks old_ n k i l state past got = go (n == i) refl
  where
    go : (b : Bool) → (n == i) ≡ b → old_ ≡ (if b && (l.at == k) then shows state l else old_)
    go true e = let same : n ≡ i = eqb-true n i e in let low = slice_get_within looks i l got in absurd (omega arith)
    go false e = refl

pub show_more : (h e a : Bool) (new now old s : Bool) (h' : Bool) → h' ≡ (h || e) → new ≡ (if e && a then s else now) → now ≡ (if h && a then s else old) → new ≡ (if h' && a then s else old)
show_more true true true new now old s h' p q r = q ∙ ap (λ b. if b && true then s else old) (sym p)
show_more true true false new now old s h' p q r = q ∙ (r ∙ ap (λ b. if b && false then s else old) (sym p))
show_more true false a new now old s h' p q r = q ∙ (r ∙ ap (λ b. if b && a then s else old) (sym p))
show_more false true true new now old s h' p q r = q ∙ ap (λ b. if b && true then s else old) (sym p)
show_more false true false new now old s h' p q r = q ∙ (r ∙ ap (λ b. if b && false then s else old) (sym p))
show_more false false a new now old s h' p q r = q ∙ (r ∙ ap (λ b. if b && a then s else old) (sym p))

-- ---- the walk over the positions

pub record Stood (kind : Kind) (state : State) (cs : List Placed) (k : ℕ) : Type 0 where
  pub left : k + length (rest k cs) ≡ length cs
  pub gapless : gap_from k (rest k cs) ≡ None
  pub stepwise : None ≡ bad_step_from state (rest k cs)
  pub after_them : (m : ℕ) → run (opening kind) (take (k + m) (entries (in_order cs))) ≡ run state (take m (entries (rest k cs)))

pub stands : (kind : Kind) (state : State) (cs : List Placed) → state ≡ opening kind → gap_from 0 (in_order cs) ≡ None → bad_step_from (opening kind) (in_order cs) ≡ None → Stood kind state cs 0
stands kind state cs is gapless stepwise = record {
  left = left_at_start cs;
  gapless = sym (ap (gap_from 0) (rest_all cs)) ∙ gapless;
  stepwise = sym stepwise ∙ (ap (bad_step_from (opening kind)) (rest_all cs) ∙ ap (λ s. bad_step_from s (rest 0 cs)) (sym is));
  after_them = λ m. let zero_ : 0 + m ≡ m = omega arith in
      ap (λ n. run (opening kind) (take n (entries (in_order cs)))) zero_
      ∙ (ap (λ ds. run (opening kind) (take m (entries ds))) (rest_all cs) ∙ ap (λ s. run s (take m (entries (rest 0 cs)))) (sym is));
}

run_on : (state next : State) (c : Placed) (cs : List Placed) (m : ℕ) → step state c.entry ≡ Some next → run state (take (suc m) (entries (c ∷ cs))) ≡ run next (take m (entries cs))
run_on state next c cs m h = ap (option_and_then (λ t. run t (take m (entries cs)))) h

pub stands_on : (kind : Kind) (state next : State) (cs : List Placed) (k : ℕ) (c : Placed) (made : Bool) → filter (is_at k) cs ≡ c ∷ [] → Applies made (step state c.entry) state next → made ≡ true → Stood kind state cs k → Stood kind next cs (k + 1)
stands_on kind state next cs k c made one applies is_made stood = record {
  left = left_less k (length cs) cs c one stood.left;
  gapless = sym (gap_step k cs c one).0 ∙ stood.gapless;
  stepwise = walk_on k cs c state next made None one applies is_made stood.stepwise;
  after_them = λ m. let same : (k + 1) + m ≡ k + suc m = omega arith in
      ap (λ n. run (opening kind) (take n (entries (in_order cs)))) same
      ∙ (stood.after_them (suc m) ∙ (ap (λ ds. run state (take (suc m) (entries ds))) (one_level k cs c one) ∙ run_on state next c (rest (k + 1) cs) m did));
}
  where
    did : step state c.entry ≡ Some next
    did = subst (λ (b : Bool). Applies b (step state c.entry) state next) is_made applies

pub never_refused : (kind : Kind) (state next : State) (cs : List Placed) (k : ℕ) (c : Placed) (made : Bool) → filter (is_at k) cs ≡ c ∷ [] → Applies made (step state c.entry) state next → made ≡ false → Stood kind state cs k → ⊥
never_refused kind state next cs k c made one applies not_made stood =
    let q : Some c ≡ None = walk_ends k cs c state next made None one applies not_made stood.stepwise in cc

pub never_stops : (kind : Kind) (state : State) (cs : List Placed) (k n : ℕ) → (length (filter (is_at k) cs) ≡ 1 → ⊥) → k < n → n ≡ length cs → Stood kind state cs k → ⊥
never_stops kind state cs k n not_one low long stood = no_gap_found k n cs not_one low long stood.left stood.gapless

length_entries : (cs : List Placed) → length (entries cs) ≡ length cs
length_entries [] = refl
length_entries (c ∷ cs) = ap suc (length_entries cs)

-- the verdict on a look of the stamp that is reached
now_shown : (kind : Kind) (state : State) (cs : List Placed) (l : Look) → Stood kind state cs l.at → l.at ≤ length cs → shows state l ≡ verdict kind cs l
now_shown kind state cs l stood low =
    let room : nat_le l.at (length (entries (in_order cs))) ≡ true = le-leb l.at (length (entries (in_order cs))) (omega (arith, low, length_entries (in_order cs), length-in_order cs)) in
    let reached : after kind (entries (in_order cs)) l.at ≡ Some state = ap (λ n. run (opening kind) (take n (entries (in_order cs)))) (sym (add-zero l.at)) ∙ stood.after_them 0 in
    sym (ap (λ b. b && shows_to (after kind (entries (in_order cs)) l.at) l) room ∙ ap (λ o. shows_to o l) reached)

-- the verdicts on the looks of stamps below k
abbrev pub told_below : Kind → List Placed → ℕ → Look → Bool
told_below kind cs k l = if nat_lt l.at k then verdict kind cs l else false

pub told_more : (kind : Kind) (state : State) (cs : List Placed) (k stamps : ℕ) (buckets : List Bucket) (bucket : List ℕ) (looks : List Look) (i : ℕ) (l : Look) (old new : Bool) → Stood kind state cs k → k < stamps → stamps ≡ length cs + 1 → bucket ≡ bucket_at buckets k → ((j : ℕ) (m : Look) → slice_get looks j ≡ Some m → m.at < stamps → has (bucket_at buckets m.at) j ≡ true) → slice_get looks i ≡ Some l → new ≡ (if has bucket i && (l.at == k) then shows state l else old) → old ≡ told_below kind cs k l → new ≡ told_below kind cs (k + 1) l
told_more kind state cs k stamps buckets bucket looks i l old new stood low long is all got set_ so_far = go (l.at == k) refl
  where
    away : (b : Bool) → (b && false) ≡ false
    away true = refl
    away false = refl

    go : (b : Bool) → (l.at == k) ≡ b → new ≡ told_below kind cs (k + 1) l
    go true e =
        let same : l.at ≡ k = eqb-true l.at k e in
        let has_it : has bucket i ≡ true = ap (λ ns. has ns i) is ∙ (ap (λ n. has (bucket_at buckets n) i) (sym same) ∙ all i l got (omega (arith, same, low))) in
        let next : nat_lt l.at (k + 1) ≡ true = lt-ltb l.at (k + 1) (omega arith) in
        let stood_l : Stood kind state cs l.at = subst (Stood kind state cs) (sym same) stood in
        set_ ∙ (ap (λ b. if b && (l.at == k) then shows state l else old) has_it ∙ (ap (λ b. if b then shows state l else old) e
        ∙ (now_shown kind state cs l stood_l (omega (arith, same, low, long)) ∙ ap (λ b. if b then verdict kind cs l else false) (sym next))))
    go false e =
        let ne = eqb-false l.at k e in
        set_ ∙ (ap (λ b. if has bucket i && b then shows state l else old) e ∙ (ap (λ b. if b then shows state l else old) (away (has bucket i)) ∙ (so_far ∙ ap (λ b. if b then verdict kind cs l else false) (still (nat_lt l.at k) (nat_lt l.at (k + 1)) refl refl ne))))
      where
        still : (b d : Bool) → nat_lt l.at k ≡ b → nat_lt l.at (k + 1) ≡ d → (l.at ≡ k → ⊥) → nat_lt l.at k ≡ nat_lt l.at (k + 1)
        still true true p q n = p ∙ sym q
        still false false p q n = p ∙ sym q
        still true false p q n =
            let x : l.at < k = ltb-true l.at k p in
            let y : k + 1 ≤ l.at = ltb-false l.at (k + 1) q in
            absurd (omega arith)
        still false true p q n =
            let x : k ≤ l.at = ltb-false l.at k p in
            let y : l.at < k + 1 = ltb-true l.at (k + 1) q in
            absurd (n (omega (arith, x, y)))

pub told_none : (kind : Kind) (cs : List Placed) (l : Look) (b : Bool) → b ≡ false → b ≡ told_below kind cs 0 l
told_none kind cs l b h = go (nat_lt l.at 0) refl
  where
    go : (d : Bool) → nat_lt l.at 0 ≡ d → b ≡ (if d then verdict kind cs l else false)
    go true e = let x : l.at < 0 = ltb-true l.at 0 e in absurd (omega arith)
    go false e = h

told_whole : (kind : Kind) (cs : List Placed) (l : Look) (b : Bool) (n : ℕ) → n ≡ length cs + 1 → b ≡ told_below kind cs n l → b ≡ verdict kind cs l
told_whole kind cs l b n long told_ = go (nat_lt l.at n) refl told_
  where
    go : (d : Bool) → nat_lt l.at n ≡ d → b ≡ (if d then verdict kind cs l else false) → b ≡ verdict kind cs l
    go true e p = p
    go false e p =
        let x : n ≤ l.at = ltb-false l.at n e in
        let far : nat_le l.at (length (entries (in_order cs))) ≡ false = not_le l.at (length (entries (in_order cs))) (omega (arith, x, long, length_entries (in_order cs), length-in_order cs)) in
        p ∙ sym (ap (λ b. b && shows_to (after kind (entries (in_order cs)) l.at) l) far)
      where
        not_le : (m p : ℕ) → p < m → nat_le m p ≡ false
        not_le m p h = grind arith

same_list : (f : Look → Bool) (verdicts : List Bool) (looks : List Look) → length verdicts ≡ length looks → ((i : ℕ) (l : Look) → slice_get looks i ≡ Some l → marked verdicts i ≡ f l) → verdicts ≡ map f looks
same_list f [] [] long each = refl
same_list f [] (l ∷ ls) long each = absurd (omega (arith, long))
same_list f (v ∷ vs) [] long each = absurd (omega (arith, long))
same_list f (v ∷ vs) (l ∷ ls) long each =
    let head : v ≡ f l = each 0 l refl in
    let short : length vs ≡ length ls = omega (arith, long) in
    ap (λ b. b ∷ vs) head ∙ ap (λ bs. f l ∷ bs) (same_list f vs ls short (λ i m got. each (suc i) m got))

pub told_all : (kind : Kind) (cs : List Placed) (looks : List Look) (verdicts : List Bool) (n : ℕ) → n ≡ length cs + 1 → length verdicts ≡ length looks → ((i : ℕ) (l : Look) → slice_get looks i ≡ Some l → marked verdicts i ≡ told_below kind cs n l) → AreVerdicts kind cs looks verdicts
told_all kind cs looks verdicts n long count each = same_list (verdict kind cs) verdicts looks count (λ i l got. told_whole kind cs l (marked verdicts i) n long (each i l got))
