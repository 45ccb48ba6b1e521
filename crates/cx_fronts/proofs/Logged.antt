-- A call with a log goes through fronts between those before and after it.
use Rattle.std.proofs.Common.{◌≡◌, ℕ, zero, suc, ◌+◌, ◌<◌, ◌≤◌, ◌==◌, Bool, true, false, List, [], ◌∷◌, ◌++◌, length, Some, option_and_then, slice_get, if◌then◌else◌, refl, sym, ap, ◌∙◌, subst, arith, eqb-true, eq-eqb, add-zero, zero-add, append_assoc}
use mathlib.Core.List.{IsPrefix}
use Rattle.cx_names.specs.declared.ObjectNo.{ObjectNo}
use Rattle.cx_machine.specs.declared.kind.Entry.{Entry}
use Rattle.cx_machine.specs.declared.kind.Look.{Look}
use Rattle.cx_machine.specs.Machine.{run, opening}
use Rattle.cx_scene.specs.Scene.{Scene, kind_of}
use Rattle.cx_items.specs.declared.item.Item.{Item}
use Rattle.cx_items.specs.declared.item.Item.TheVariants as items
use Rattle.cx_history.specs.Legal.{shows_to}
use Rattle.cx_fronts.specs.Positions.{positions}
use Rattle.cx_fronts.specs.Paths.{Fronts, put, none_own, position_on, shown_in, Moved, Path}
use Rattle.cx_fronts.specs.Logs.{Act, Made, Saw, log_items, log_own, FitsFrom}
use Rattle.cx_fronts.proofs.Lists.{prefix_refl, prefix_get, prefix_take, get-there}
use Rattle.cx_fronts.proofs.Heart.{no_more}
use Rattle.cx_fronts.proofs.Grown.{put-moved, put-there, path-before, paths_compose}

positions-append : (t i : ℕ) (F X : List Entry) → positions t i (F ++ X) ≡ positions t i F ++ positions t (i + length F) X
positions-append t i [] X = ap (λ n. positions t n X) (sym (add-zero i))
positions-append t i (e ∷ F) X =
    let same : (i + 1) + length F ≡ i + suc (length F) = omega arith in
    go (e.by.0 == t) (positions-append t (i + 1) F X ∙ ap (λ n. positions t (i + 1) F ++ positions t n X) same)
  where
    go : (b : Bool) → positions t (i + 1) (F ++ X) ≡ positions t (i + 1) F ++ positions t (i + suc (length F)) X → (if b then i ∷ positions t (i + 1) (F ++ X) else positions t (i + 1) (F ++ X)) ≡ (if b then i ∷ positions t (i + 1) F else positions t (i + 1) F) ++ positions t (i + suc (length F)) X
    go true h = ap (λ ns. i ∷ ns) h
    go false h = h

cancel : (xs ys zs : List ℕ) → xs ++ ys ≡ xs ++ zs → ys ≡ zs
cancel [] ys zs h = h
cancel (x ∷ xs) ys zs h = let same : xs ++ ys ≡ xs ++ zs = cc in cancel xs ys zs same

length-append : (xs ys : List Entry) → length (xs ++ ys) ≡ length xs + length ys
length-append [] ys = omega arith
length-append (x ∷ xs) ys = omega (arith, length-append xs ys)

-- the next own change: what stands before it is by others
record Next (t i n : ℕ) (ns : List ℕ) (X : List Entry) : Type 0 where
  Y : List Entry
  e : Entry
  Z : List Entry
  is : X ≡ Y ++ e ∷ Z
  at_ : i + length Y ≡ n
  own : positions t i (Y ++ e ∷ []) ≡ n ∷ []
  rest : positions t (n + 1) Z ≡ ns

next_own : (t i n : ℕ) (ns : List ℕ) (X : List Entry) → positions t i X ≡ n ∷ ns → Next t i n ns X
next_own t i n ns [] h = cc
next_own t i n ns (d ∷ X) h = go (d.by.0 == t) refl h (λ k. next_own t (i + 1) n ns X k)
  where
    go : (b : Bool) → (d.by.0 == t) ≡ b → (if b then i ∷ positions t (i + 1) X else positions t (i + 1) X) ≡ n ∷ ns → (positions t (i + 1) X ≡ n ∷ ns → Next t (i + 1) n ns X) → Next t i n ns (d ∷ X)
    go true q k again =
        let same : i ≡ n = cc in
        let later : positions t (i + 1) X ≡ ns = cc in
        record {
          Y = [];
          e = d;
          Z = X;
          is = refl;
          at_ = add-zero i ∙ same;
          own = rw q (ap (λ m. m ∷ []) same);
          rest = subst (λ m. positions t (m + 1) X ≡ ns) same later;
        }
    go false q k again =
        let r = again k in
        record {
          Y = d ∷ r.Y;
          e = r.e;
          Z = r.Z;
          is = ap (λ es. d ∷ es) r.is;
          at_ = omega (arith, r.at_);
          own = rw q r.own;
          rest = r.rest;
        }

-- no own change before k
abbrev HeadFrom : ℕ → List ℕ → Type 0
HeadFrom k [] = Unit {0}
HeadFrom k (n ∷ ns) = k ≤ n

own_from : (s : Scene) (t : ℕ) (q : ObjectNo) (H : List Entry) (m k : ℕ) (acts : List Act) → k ≤ m → FitsFrom s t q H m acts → HeadFrom k (log_own acts)
own_from s t q H m k [] low fits = tt
own_from s t q H m k (Made n e ∷ acts) low fits = omega (arith, low, fits.0)
own_from s t q H m k (Saw l ∷ acts) low fits = own_from s t q H l.at k acts (omega (arith, low, fits.1)) fits.3

fits_below : (s : Scene) (t : ℕ) (q : ObjectNo) (H : List Entry) (m : ℕ) (acts : List Act) → FitsFrom s t q H m acts → m ≤ length H
fits_below s t q H m [] fits = fits
fits_below s t q H m (Made n e ∷ acts) fits = omega (arith, fits.0, fits_below s t q H (n + 1) acts fits.2)
fits_below s t q H m (Saw l ∷ acts) fits = omega (arith, fits.1, fits_below s t q H l.at acts fits.3)

record Upto (t i m : ℕ) (ns : List ℕ) (X : List Entry) : Type 0 where
  Y : List Entry
  Z : List Entry
  is : X ≡ Y ++ Z
  long : length Y ≡ m
  own : positions t i Y ≡ []
  rest : positions t (i + m) Z ≡ ns

upto : (t i m : ℕ) (ns : List ℕ) (X : List Entry) → positions t i X ≡ ns → HeadFrom (i + m) ns → m ≤ length X → Upto t i m ns X
upto t i zero ns X h low fits = record { Y = []; Z = X; is = refl; long = refl; own = refl; rest = subst (λ n. positions t n X ≡ ns) (sym (add-zero i)) h }
upto t i (suc m) ns [] h low fits = absurd (omega (arith, fits))
upto t i (suc m) ns (d ∷ X) h low fits = go (d.by.0 == t) refl h (λ k. upto t (i + 1) m ns X k (subst (λ n. HeadFrom n ns) same low) (omega (arith, fits)))
  where
    same : i + suc m ≡ (i + 1) + m
    same = omega arith

    go : (b : Bool) → (d.by.0 == t) ≡ b → (if b then i ∷ positions t (i + 1) X else positions t (i + 1) X) ≡ ns → (positions t (i + 1) X ≡ ns → Upto t (i + 1) m ns X) → Upto t i (suc m) ns (d ∷ X)
    go true q k again =
        let bad : HeadFrom (i + suc m) (i ∷ positions t (i + 1) X) = subst (λ v. HeadFrom (i + suc m) v) (sym k) low in
        absurd (omega (arith, bad))
    go false q k again =
        let r = again k in
        record {
          Y = d ∷ r.Y;
          Z = r.Z;
          is = ap (λ es. d ∷ es) r.is;
          long = ap suc r.long;
          own = rw q r.own;
          rest = subst (λ n. positions t n r.Z ≡ ns) (sym same) r.rest;
        }

get-front : (G H : List Entry) (n : ℕ) (e : Entry) → IsPrefix G H → n < length G → slice_get H n ≡ Some e → slice_get G n ≡ Some e
get-front G H n e b low h =
    let there = get-there G n low in
    let later : slice_get H n ≡ Some there.0 = prefix_get G b n there.0 there.1 in
    let same : there.0 ≡ e = cc in
    there.1 ∙ ap (λ (v : Entry). Some v) same

shown-before : (s : Scene) (f g : List Entry) (q : ObjectNo) (l : Look) → IsPrefix f g → l.at ≤ length f → shown_in s g q l ≡ true → shown_in s f q l ≡ true
shown-before s f g q l b h shows = sym (ap (λ es. shows_to (option_and_then (λ d. run (opening (kind_of d)) es) (slice_get s.objects q.0)) l) (prefix_take f b l.at h)) ∙ shows

-- from one front of an object to a longer one, the others as they are
pub puts-moved : (t : ℕ) (g : Fronts) (q : ℕ) (F Y : List Entry) (own : ℕ → List ℕ) → positions t (length F) Y ≡ own q → ((o : ℕ) → (q == o) ≡ false → own o ≡ []) → Moved t (put g q F) (put g q (F ++ Y)) own
puts-moved t g q F Y own here elsewhere = record { grows = λ o. grows_ o (q == o); mine = λ o. same o (q == o) refl }
  where
    grows_ : (o : ℕ) (b : Bool) → IsPrefix (if b then F else g o) (if b then F ++ Y else g o)
    grows_ o true = (Y, refl)
    grows_ o false = prefix_refl (g o)

    more : positions t 0 (F ++ Y) ≡ positions t 0 F ++ own q
    more = positions-append t 0 F Y ∙ (ap (λ n. positions t 0 F ++ positions t n Y) (zero-add (length F)) ∙ ap (λ ns. positions t 0 F ++ ns) here)

    same : (o : ℕ) (b : Bool) → (q == o) ≡ b → positions t 0 (if b then F ++ Y else g o) ≡ positions t 0 (if b then F else g o) ++ own o
    same o true k = more ∙ ap (λ n. positions t 0 F ++ own n) (eqb-true q o k)
    same o false k = sym (ap (λ ns. positions t 0 (g o) ++ ns) (elsewhere o k) ∙ no_more (positions t 0 (g o)))

log-path : (s : Scene) (first last : ℕ → Fronts) (t : ℕ) (g : Fronts) (q : ObjectNo) (acts : List Act) (F X : List Entry) → FitsFrom s t q (F ++ X) (length F) acts → positions t (length F) X ≡ log_own acts → Path s first last t (put g q.0 F) (log_items q acts) (put g q.0 (F ++ X))
log-path s first last t g q [] F X fits own = puts-moved t g q.0 F X (λ o. []) own (λ o k. refl)
log-path s first last t g q (Made n e ∷ acts) F X fits own =
    let r = next_own t (length F) n (log_own acts) X own in
    let Y = r.Y ++ r.e ∷ [] in
    let whole : F ++ X ≡ (F ++ Y) ++ r.Z = ap (λ es. F ++ es) (r.is ∙ sym (append_assoc r.Y (r.e ∷ []) r.Z)) ∙ sym (append_assoc F Y r.Z) in
    let long_Y : length Y ≡ length r.Y + 1 = length-append r.Y (r.e ∷ []) in
    let long : length (F ++ Y) ≡ n + 1 = omega (arith, length-append F Y, r.at_, long_Y) in
    let begins : IsPrefix (F ++ Y) (F ++ X) = (r.Z, sym whole) in
    let there_ = get-front (F ++ Y) (F ++ X) n e begins (omega (arith, long)) fits.1 in
    let fits_ : FitsFrom s t q ((F ++ Y) ++ r.Z) (length (F ++ Y)) acts = subst (λ H. FitsFrom s t q H (length (F ++ Y)) acts) whole (subst (λ m. FitsFrom s t q (F ++ X) m acts) (sym long) fits.2) in
    let own_ : positions t (length (F ++ Y)) r.Z ≡ log_own acts = subst (λ m. positions t m r.Z ≡ log_own acts) (sym long) r.rest in
    let rest_ = log-path s first last t g q acts (F ++ Y) r.Z fits_ own_ in
    let here : position_on q.0 (items.Change q n e) ≡ n ∷ [] = (let same : (q.0 == q.0) ≡ true = eq-eqb q.0 q.0 refl in rw same refl) in
    let from_ : length (put g q.0 F q.0) ≤ n = subst (λ es. length es ≤ n) (sym (put-there g q.0 F)) fits.0 in (
      put g q.0 (F ++ Y),
      record {
        moved = puts-moved t g q.0 F Y (λ o. position_on o (items.Change q n e)) (r.own ∙ sym here) (λ o k. rw k refl);
        seen = record { from = from_; there = subst (λ es. slice_get es n ≡ Some e) (sym (put-there g q.0 (F ++ Y))) there_ };
      },
      subst (λ H. Path s first last t (put g q.0 (F ++ Y)) (log_items q acts) (put g q.0 H)) (sym whole) rest_,
    )
log-path s first last t g q (Saw l ∷ acts) F X fits own = go (apart (length F) l.at fits.1) (λ Y Z. log-path s first last t g q acts (F ++ Y) Z)
  where
    apart : (a b : ℕ) → a ≤ b → (m : ℕ) × (a + m ≡ b)
    apart zero b h = (b, zero-add b)
    apart (suc a) zero h = absurd (omega (arith, h))
    apart (suc a) (suc b) h = let r = apart a b (omega (arith, h)) in (r.0, omega (arith, r.1))

    go : (m : ℕ) × (length F + m ≡ l.at) → ((Y Z : List Entry) → FitsFrom s t q ((F ++ Y) ++ Z) (length (F ++ Y)) acts → positions t (length (F ++ Y)) Z ≡ log_own acts → Path s first last t (put g q.0 (F ++ Y)) (log_items q acts) (put g q.0 ((F ++ Y) ++ Z))) → Path s first last t (put g q.0 F) (items.Look q l ∷ log_items q acts) (put g q.0 (F ++ X))
    go d again =
        let low : HeadFrom (length F + d.0) (log_own acts) = subst (λ n. HeadFrom n (log_own acts)) (sym d.1) (own_from s t q (F ++ X) l.at l.at acts (omega arith) fits.3) in
        let room : d.0 ≤ length X = omega (arith, d.1, length-append F X, fits_below s t q (F ++ X) l.at acts fits.3) in
        let r = upto t (length F) d.0 (log_own acts) X own low room in
        let whole : F ++ X ≡ (F ++ r.Y) ++ r.Z = ap (λ es. F ++ es) r.is ∙ sym (append_assoc F r.Y r.Z) in
        let long : length (F ++ r.Y) ≡ l.at = omega (arith, length-append F r.Y, r.long, d.1) in
        let begins : IsPrefix (F ++ r.Y) (F ++ X) = (r.Z, sym whole) in
        let fits_ : FitsFrom s t q ((F ++ r.Y) ++ r.Z) (length (F ++ r.Y)) acts = subst (λ H. FitsFrom s t q H (length (F ++ r.Y)) acts) whole (subst (λ m. FitsFrom s t q (F ++ X) m acts) (sym long) fits.3) in
        let own_ : positions t (length (F ++ r.Y)) r.Z ≡ log_own acts = subst (λ m. positions t m r.Z ≡ log_own acts) (d.1 ∙ sym long) r.rest in
        let rest_ = again r.Y r.Z fits_ own_ in
        let shows_ = shown-before s (F ++ r.Y) (F ++ X) q l begins (omega (arith, long)) fits.2 in
        let from_ : length (put g q.0 F q.0) ≤ l.at = subst (λ es. length es ≤ l.at) (sym (put-there g q.0 F)) fits.1 in (
          put g q.0 (F ++ r.Y),
          record {
            moved = puts-moved t g q.0 F r.Y (λ o. []) r.own (λ o k. refl);
            seen = record {
              own = fits.0;
              from = from_;
              to = subst (λ es. l.at ≤ length es) (sym (put-there g q.0 (F ++ r.Y))) (omega (arith, long));
              shows = subst (λ es. shown_in s es q l ≡ true) (sym (put-there g q.0 (F ++ r.Y))) shows_;
            };
          },
          subst (λ H. Path s first last t (put g q.0 (F ++ r.Y)) (log_items q acts) (put g q.0 H)) (sym whole) rest_,
        )

pub one_call_more : (s : Scene) (first last : ℕ → Fronts) (t : ℕ) (f g : Fronts) (xs : List Item) (q : ObjectNo) (H : List Entry) (acts : List Act) → Path s first last t f xs g → IsPrefix (g q.0) H → FitsFrom s t q H (length (g q.0)) acts → positions t 0 H ≡ positions t 0 (g q.0) ++ log_own acts → Path s first last t f (xs ++ log_items q acts) (put g q.0 H)
one_call_more s first last t f g xs q H acts p begins fits own =
    let F = g q.0 in
    let X = begins.0 in
    let fits_ : FitsFrom s t q (F ++ X) (length F) acts = subst (λ es. FitsFrom s t q es (length F) acts) (sym begins.1) fits in
    let all : positions t 0 F ++ positions t (0 + length F) X ≡ positions t 0 F ++ log_own acts = sym (positions-append t 0 F X) ∙ (ap (positions t 0) begins.1 ∙ own) in
    let own_ : positions t (length F) X ≡ log_own acts = subst (λ n. positions t n X ≡ log_own acts) (zero-add (length F)) (cancel (positions t 0 F) (positions t (0 + length F) X) (log_own acts) all) in
    let log_ = log-path s first last t g q acts F X fits_ own_ in
    let log_H = subst (λ es. Path s first last t (put g q.0 F) (log_items q acts) (put g q.0 es)) begins.1 log_ in
    let same : Moved t g (put g q.0 F) none_own = put-moved t g q.0 F (λ o. []) (prefix_refl F) (sym (no_more (positions t 0 F))) (λ o k. refl) in
    paths_compose s first last t f g (put g q.0 H) xs (log_items q acts) p (path-before s first last t g (put g q.0 F) (put g q.0 H) (log_items q acts) same log_H)
