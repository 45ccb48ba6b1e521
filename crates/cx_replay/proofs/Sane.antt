-- One more item keeps a record so far legal.
use Rattle.std.proofs.Common.{◌≡◌, ℕ, ◌≤◌, ◌==◌, ◌||◌, Bool, true, false, List, [], ◌∷◌, ◌++◌, length, take, Option, Some, None, option_and_then, slice_get, if◌then◌else◌, refl, sym, ap, ◌∙◌, subst, arith, eqb-true, eq-eqb}
use Rattle.std.proofs.Math.Seq.{take-length}
use Rattle.cx_scene.specs.Scene.{Scene}
use Rattle.cx_items.specs.declared.item.Item.{Item}
use Rattle.cx_history.specs.Histories.{Recorded, items_of, list_of, history, place_from, place, known_at_start, knows_after, knows_from, knowing, owed}
use Rattle.cx_history.specs.Legal.{is_shown, is_at_least}
use Rattle.cx_history.specs.Follows.{starts, any_starts, has_started}
use Rattle.cx_replay.specs.Schedule.{Thing}
use Rattle.cx_replay.proofs.Kept.{slice_get-set_other, Kept, Moves}
use Rattle.cx_replay.proofs.Followed.{Known, apart}
use Rattle.cx_replay.proofs.Places.{Lists, of_lists, with_item, list_in, mine, others_after, ListAfter, its_own, another, list_after, ItemAfter, was_there, is_new, item_after, many, many_grows, Longer, history_grows, still_shown, newest_shown, place_from-append, new_place, newest_number, same_number, any_joins, knows_nothing, knows_same, knows-append, joins_take, KnowsBelow, KnowsBelow_more, knows_below, started_begins, known_stays}

-- what holds of the lists of a replay so far
pub record Sane (s : Scene) (lists : Lists) : Type 0 where
  pub shown : (u i : ℕ) (y : Item) → slice_get (list_in lists u) i ≡ Some y → is_shown s (of_lists s lists) y ≡ true
  pub rising : (u i : ℕ) (y : Item) → slice_get (list_in lists u) i ≡ Some y → is_at_least (place (of_lists s lists) u i) y ≡ true
  pub ordered : (u i : ℕ) (y : Item) → slice_get (list_in lists u) i ≡ Some y → is_at_least (owed (of_lists s lists) u i) y ≡ true
  -- nobody is, or knows of anybody, beyond the changes that there are
  pub places : (u o : ℕ) → place_from o 0 (list_in lists u) ≤ many lists o
  pub knows : (o : ℕ) → KnowsBelow (many lists o) (knows_from (of_lists s lists) o knows_nothing (list_in lists 0))
  -- who has a list was started
  pub started : (u : ℕ) (k : List Item) → slice_get lists u ≡ Some (Some k) → has_started (of_lists s lists) u ≡ true

-- ---- who was started stays so

any_starts-append : (u : ℕ) (xs : List Item) (x : Item) → any_starts u xs ≡ true → any_starts u (xs ++ x ∷ []) ≡ true
any_starts-append u [] x h = cc
any_starts-append u (y ∷ ys) x h = go (starts u y) h (λ k. any_starts-append u ys x k)
  where
    go : (b : Bool) → (b || any_starts u ys) ≡ true → (any_starts u ys ≡ true → any_starts u (ys ++ x ∷ []) ≡ true) → (b || any_starts u (ys ++ x ∷ [])) ≡ true
    go true k ih = refl
    go false k ih = ih k

pub started_stays : (s : Scene) (lists : Lists) (t : ℕ) (l : List Item) (x : Item) (u : ℕ) → slice_get lists t ≡ Some (Some l) → has_started (of_lists s lists) u ≡ true → has_started (of_lists s (with_item lists t l x)) u ≡ true
started_stays s lists t l x u e h = go (u == 0) h (list_after lists t l x 0 e)
  where
    go : (b : Bool) → (b || any_starts u (list_in lists 0)) ≡ true → ListAfter lists t l x 0 → (b || any_starts u (list_in (with_item lists t l x) 0)) ≡ true
    go true k after = refl
    go false k (its_own same old new) = subst (λ xs. any_starts u xs ≡ true) (sym new) (any_starts-append u l x (subst (λ xs. any_starts u xs ≡ true) old k))
    go false k (another ne same) = subst (λ xs. any_starts u xs ≡ true) (sym same) k

-- a number other than main's that has an item has a start among main's items
has_list : (o : Option (Option (List Item))) (i : ℕ) (y : Item) → slice_get (items_of (option_and_then (λ l. l) o)) i ≡ Some y → (k : List Item) × (o ≡ Some (Some k))
has_list None i y h = cc
has_list (Some None) i y h = cc
has_list (Some (Some k)) i y h = (k, refl)

pub started_by_main : (s : Scene) (lists : Lists) (u i : ℕ) (y : Item) → Sane s lists → slice_get (list_in lists u) i ≡ Some y → (u == 0) ≡ false → any_starts u (list_in lists 0) ≡ true
started_by_main s lists u i y sane h no_ =
    let k = has_list (slice_get lists u) i y h in
    let started : ((u == 0) || any_starts u (list_in lists 0)) ≡ true = sane.started u k.0 k.1 in
    subst (λ b. (b || any_starts u (list_in lists 0)) ≡ true) no_ started

-- ---- one more item

pub sane_item : (s : Scene) (things things' : List Thing) (lists : Lists) (t : ℕ) (l : List Item) (x : Item) → Known s things → Kept s things lists → Sane s lists → slice_get lists t ≡ Some (Some l) → Moves things x things' → ((u : ℕ) → any_joins u (list_in lists 0) ≡ true → t ≡ u → ⊥) → Sane s (with_item lists t l x)
sane_item s things things' lists t l x known kept sane e moves still = record {
  shown = λ u i y h. shown_after y (item_after lists t l x u i y e h);
  rising = λ u i y h. rising_after u i y (item_after lists t l x u i y e h);
  ordered = λ u i y h. ordered_after u i y (item_after lists t l x u i y e h);
  places = places_after;
  knows = λ o. knows_then o (list_after lists t l x 0 e);
  started = started_after;
}
  where
    before : Recorded
    before = of_lists s lists

    after : Recorded
    after = of_lists s (with_item lists t l x)

    longer : (o : ℕ) → Longer (history (of_lists s lists) o) (history (of_lists s (with_item lists t l x)) o)
    longer o = history_grows s things things' lists t l x o known kept e moves

    shown_after : {u i : ℕ} (y : Item) → ItemAfter lists t l x u i y → is_shown s (of_lists s (with_item lists t l x)) y ≡ true
    shown_after {u} {i} y (was_there h front) = still_shown s lists (with_item lists t l x) longer y (sane.shown u i y h)
    shown_after {u} {i} y (is_new same new front) = still_shown s lists (with_item lists t l x) longer y (subst (λ z. is_shown s (of_lists s lists) z ≡ true) new (newest_shown s things things' lists x known kept moves))

    own_places : (o : ℕ) → place_from o 0 l ≤ many lists o
    own_places o = subst (λ xs. place_from o 0 xs ≤ many lists o) (mine lists t l e) (sane.places t o)

    rising_after : (u i : ℕ) (y : Item) → ItemAfter lists t l x u i y → is_at_least (place (of_lists s (with_item lists t l x)) u i) y ≡ true
    rising_after u i y (was_there h front) = same_number (place (of_lists s lists) u i) (place (of_lists s (with_item lists t l x)) u i) y (λ o. ap (place_from o 0) (sym front)) (sane.rising u i y h)
    rising_after u i y (is_new same new front) =
        let least = newest_number s things things' lists x (place (of_lists s (with_item lists t l x)) u i) known kept moves (λ o. subst (λ xs. place_from o 0 xs ≤ many lists o) (sym front) (own_places o)) in
        subst (λ z. is_at_least (place (of_lists s (with_item lists t l x)) u i) z ≡ true) new least

    -- the lists of those that main has joined are as they were
    front_same : (o i : ℕ) → knows_from (of_lists s lists) o knows_nothing (take i (list_in lists 0)) ≡ knows_from (of_lists s (with_item lists t l x)) o knows_nothing (take i (list_in lists 0))
    front_same o i = knows_same (of_lists s lists) (of_lists s (with_item lists t l x)) o knows_nothing (take i (list_in lists 0)) (λ u h. ap (place_from o 0) (sym (others_after lists t u l x (still u (joins_take u i (list_in lists 0) h)))))

    whole_same : (o : ℕ) → knows_from (of_lists s lists) o knows_nothing (list_in lists 0) ≡ knows_from (of_lists s (with_item lists t l x)) o knows_nothing (list_in lists 0)
    whole_same o = knows_same (of_lists s lists) (of_lists s (with_item lists t l x)) o knows_nothing (list_in lists 0) (λ u h. ap (place_from o 0) (sym (others_after lists t u l x (still u h))))

    begun_same : (u o : ℕ) → any_starts u (list_in lists 0) ≡ true → ListAfter lists t l x 0 → known_at_start (knows_from (of_lists s lists) o knows_nothing (list_in lists 0)).begun u ≡ known_at_start (knows_from (of_lists s (with_item lists t l x)) o knows_nothing (list_in (with_item lists t l x) 0)).begun u
    begun_same u o h (another ne same) = ap (λ k. known_at_start k.begun u) (whole_same o ∙ ap (knows_from (of_lists s (with_item lists t l x)) o knows_nothing) (sym same))
    begun_same u o h (its_own same old new) =
        let r = of_lists s (with_item lists t l x) in
        let main : any_starts u l ≡ true = subst (λ xs. any_starts u xs ≡ true) old h in
        let begun = started_begins r o u knows_nothing l main in
        let last = known_stays r o u (knows_from r o knows_nothing l) x begun in
        let grown : knows_from r o knows_nothing (list_in (with_item lists t l x) 0) ≡ knows_after r o (knows_from r o knows_nothing l) x = ap (knows_from r o knows_nothing) new ∙ knows-append r o knows_nothing l x in
        ap (λ k. known_at_start k.begun u) (whole_same o ∙ ap (knows_from r o knows_nothing) old) ∙ (sym last ∙ ap (λ k. known_at_start k.begun u) (sym grown))

    full : (r : Recorded) (o : ℕ) → knowing r (length (list_of r 0)) o ≡ knows_from r o knows_nothing (list_of r 0)
    full r o = ap (knows_from r o knows_nothing) (take-length (list_of r 0))

    owed_same : (u i o : ℕ) (y : Item) → slice_get (list_in lists u) i ≡ Some y → take i (list_in (with_item lists t l x) u) ≡ take i (list_in lists u) → owed (of_lists s lists) u i o ≡ owed (of_lists s (with_item lists t l x)) u i o
    owed_same u i o y h front = go (u == 0) refl
      where
        r : Recorded
        r = of_lists s lists

        r' : Recorded
        r' = of_lists s (with_item lists t l x)

        go : (b : Bool) → (u == 0) ≡ b → (if b then (knowing (of_lists s lists) i o).owed else known_at_start (knowing (of_lists s lists) (length (list_in lists 0)) o).begun u) ≡ (if b then (knowing (of_lists s (with_item lists t l x)) i o).owed else known_at_start (knowing (of_lists s (with_item lists t l x)) (length (list_in (with_item lists t l x) 0)) o).begun u)
        go true yes_ =
            let front_main : take i (list_in (with_item lists t l x) 0) ≡ take i (list_in lists 0) = subst (λ n. take i (list_in (with_item lists t l x) n) ≡ take i (list_in lists n)) (eqb-true u 0 yes_) front in
            ap (λ k. k.owed) (front_same o i ∙ ap (knows_from (of_lists s (with_item lists t l x)) o knows_nothing) (sym front_main))
        go false no_ =
            let main = started_by_main s lists u i y sane h no_ in
            ap (λ k. known_at_start k.begun u) (full (of_lists s lists) o) ∙ (begun_same u o main (list_after lists t l x 0 e) ∙ ap (λ k. known_at_start k.begun u) (sym (full (of_lists s (with_item lists t l x)) o)))

    owed_new : (u i o : ℕ) → t ≡ u → take i (list_in (with_item lists t l x) u) ≡ l → owed (of_lists s (with_item lists t l x)) u i o ≤ many lists o
    owed_new u i o same front = go (u == 0) refl
      where
        go : (b : Bool) → (u == 0) ≡ b → (if b then (knowing (of_lists s (with_item lists t l x)) i o).owed else known_at_start (knowing (of_lists s (with_item lists t l x)) (length (list_in (with_item lists t l x) 0)) o).begun u) ≤ many lists o
        go true yes_ =
            let main : t ≡ 0 = same ∙ eqb-true u 0 yes_ in
            let front_main : take i (list_in (with_item lists t l x) 0) ≡ list_in lists 0 = subst (λ n. take i (list_in (with_item lists t l x) n) ≡ l) (eqb-true u 0 yes_) front ∙ sym (subst (λ n. list_in lists n ≡ l) main (mine lists t l e)) in
            let known_now : knowing (of_lists s (with_item lists t l x)) i o ≡ knows_from (of_lists s lists) o knows_nothing (list_in lists 0) = ap (knows_from (of_lists s (with_item lists t l x)) o knows_nothing) front_main ∙ sym (whole_same o) in
            subst (λ k. k.owed ≤ many lists o) (sym known_now) (sane.knows o).owed
        go false no_ =
            let ne : t ≡ 0 → ⊥ = λ main. apart (u == 0) (eq-eqb u 0 (sym same ∙ main)) no_ in
            let main_same = others_after lists t 0 l x ne in
            let known_now : knowing (of_lists s (with_item lists t l x)) (length (list_in (with_item lists t l x) 0)) o ≡ knows_from (of_lists s lists) o knows_nothing (list_in lists 0) = full (of_lists s (with_item lists t l x)) o ∙ (ap (knows_from (of_lists s (with_item lists t l x)) o knows_nothing) main_same ∙ sym (whole_same o)) in
            subst (λ k. known_at_start k.begun u ≤ many lists o) (sym known_now) ((sane.knows o).begun u)

    ordered_after : (u i : ℕ) (y : Item) → ItemAfter lists t l x u i y → is_at_least (owed (of_lists s (with_item lists t l x)) u i) y ≡ true
    ordered_after u i y (was_there h front) = same_number (owed (of_lists s lists) u i) (owed (of_lists s (with_item lists t l x)) u i) y (λ o. owed_same u i o y h front) (sane.ordered u i y h)
    ordered_after u i y (is_new same new front) =
        let least = newest_number s things things' lists x (owed (of_lists s (with_item lists t l x)) u i) known kept moves (λ o. owed_new u i o same front) in
        subst (λ z. is_at_least (owed (of_lists s (with_item lists t l x)) u i) z ≡ true) new least

    places_after : (u o : ℕ) → place_from o 0 (list_in (with_item lists t l x) u) ≤ many (with_item lists t l x) o
    places_after u o = go (list_after lists t l x u e)
      where
        go : ListAfter lists t l x u → place_from o 0 (list_in (with_item lists t l x) u) ≤ many (with_item lists t l x) o
        go (its_own same old new) =
            let place_now = new_place s things things' lists t l x o (place_from o 0 l) known kept e moves (own_places o) in
            subst (λ xs. place_from o 0 xs ≤ many (with_item lists t l x) o) (sym new) (subst (λ n. n ≤ many (with_item lists t l x) o) (sym (place_from-append o 0 l x)) place_now)
        go (another ne same) = subst (λ xs. place_from o 0 xs ≤ many (with_item lists t l x) o) (sym same) (omega (arith, sane.places u o, many_grows lists t l x o e))

    knows_then : (o : ℕ) → ListAfter lists t l x 0 → KnowsBelow (many (with_item lists t l x) o) (knows_from (of_lists s (with_item lists t l x)) o knows_nothing (list_in (with_item lists t l x) 0))
    knows_then o (another ne same) =
        let known_now = whole_same o ∙ ap (knows_from (of_lists s (with_item lists t l x)) o knows_nothing) (sym same) in
        KnowsBelow_more (many lists o) (many (with_item lists t l x) o) _ (many_grows lists t l x o e) (subst (KnowsBelow (many lists o)) known_now (sane.knows o))
    knows_then o (its_own same old new) =
        let r = of_lists s (with_item lists t l x) in
        let known_before : knows_from (of_lists s lists) o knows_nothing (list_in lists 0) ≡ knows_from r o knows_nothing l = whole_same o ∙ ap (knows_from r o knows_nothing) old in
        let below = subst (KnowsBelow (many lists o)) known_before (sane.knows o) in
        let grown : knows_from r o knows_nothing (list_in (with_item lists t l x) 0) ≡ knows_after r o (knows_from r o knows_nothing l) x = ap (knows_from r o knows_nothing) new ∙ knows-append r o knows_nothing l x in
        subst (KnowsBelow (many (with_item lists t l x) o)) (sym grown) (knows_below r o (many lists o) (many (with_item lists t l x) o) (knows_from r o knows_nothing l) x (many_grows lists t l x o e) (λ p h. new_place s things things' lists t l x o p known kept e moves h) (λ u. places_after u o) below)

    started_after : (u : ℕ) (k : List Item) → slice_get (with_item lists t l x) u ≡ Some (Some k) → has_started (of_lists s (with_item lists t l x)) u ≡ true
    started_after u k h = go (t == u) refl
      where
        go : (b : Bool) → (t == u) ≡ b → has_started (of_lists s (with_item lists t l x)) u ≡ true
        go true yes_ = started_stays s lists t l x u e (sane.started u l (subst (λ n. slice_get lists n ≡ Some (Some l)) (eqb-true t u yes_) e))
        go false no_ = started_stays s lists t l x u e (sane.started u k (sym (slice_get-set_other lists t u (Some (l ++ x ∷ [])) (λ same. apart (t == u) (eq-eqb t u same) no_)) ∙ h))
