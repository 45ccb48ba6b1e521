-- One more item of one list: what was shown, where the threads are, and what they know of each other.
use Rattle.std.proofs.Common.{◌≡◌, ℕ, zero, suc, ◌+◌, ◌<◌, ◌≤◌, ◌==◌, ◌&&◌, ◌||◌, Bool, true, false, List, [], ◌∷◌, ◌++◌, length, take, Option, Some, option_and_then, slice_get, slice_set, nat_le, max, if◌then◌else◌, refl, sym, ap, ◌∙◌, subst, arith, eqb-true, eq-eqb, append-nil, leb-true, le-leb}
use Rattle.std.proofs.lemmas.List.{take-append-le, length-append}
use Rattle.std.proofs.Math.Seq.{take-append_seam, take-length}
use Rattle.std.proofs.lemmas.Grind.{common_steps}
use Rattle.cx_names.specs.declared.ObjectNo.{ObjectNo}
use Rattle.cx_names.specs.declared.ThreadNo.{ThreadNo}
use Rattle.cx_machine.specs.declared.kind.Entry.{Entry}
use Rattle.cx_machine.specs.declared.kind.Look.{Look}
use Rattle.cx_machine.specs.Machine.{State, Mutex as AMutex, Shared as AShared, Semaphore as ASemaphore, Latch as ALatch, Barrier as ABarrier, Once as AOnce, Condition as ACondition, Stop as AStop, Future as AFuture, opening, shows, run, after}
use Rattle.cx_scene.specs.declared.declared.Object.{Object}
use Rattle.cx_scene.specs.Scene.{Scene, kind_of}
use Rattle.cx_items.specs.declared.item.Control.TheVariants as controls
use Rattle.cx_items.specs.declared.item.Item.{Item}
use Rattle.cx_items.specs.declared.item.Item.TheVariants as items
use Rattle.cx_history.specs.Histories.{Recorded, Placed, Knowing, Begun, items_of, change_on, changes_from, in_order, entries, history, place_after, place_from, place_at_end, known_at_start, begins, knows_after, knows_from}
use Rattle.cx_history.specs.Legal.{shows_to, is_shown, is_at_least}
use Rattle.cx_history.specs.Follows.{starts, any_starts}
use Rattle.cx_history.specs.Flaw.{IsSoFar}
use Rattle.cx_history.proofs.Appending.{sequence_grows, entries-append, length-in_order}
use Rattle.cx_replay.specs.Schedule.{Thing}
use Rattle.cx_replay.proofs.Kept.{slice_get-set_same, slice_get-set_other, split, Kept, Moves, changed, looked, controlled, replied}
use Rattle.cx_replay.proofs.Followed.{Known, apart}

-- ---- the lists after one more item

abbrev pub Lists : Type 0
Lists = List (Option (List Item))

-- the lists as a record of the scene
abbrev pub of_lists : Scene → Lists → Recorded
of_lists s lists = record { version = s.version; lists = lists }

abbrev pub with_item : Lists → ℕ → List Item → Item → Lists
with_item lists t l x = slice_set lists t (Some (l ++ x ∷ []))

abbrev pub list_in : Lists → ℕ → List Item
list_in lists u = items_of (option_and_then (λ l. l) (slice_get lists u))

pub mine : (lists : Lists) (t : ℕ) (l : List Item) → slice_get lists t ≡ Some (Some l) → list_in lists t ≡ l
mine lists t l e = ap (λ o. items_of (option_and_then (λ k. k) o)) e

pub mine_after : (lists : Lists) (t : ℕ) (l : List Item) (x : Item) → slice_get lists t ≡ Some (Some l) → list_in (with_item lists t l x) t ≡ l ++ x ∷ []
mine_after lists t l x e = ap (λ o. items_of (option_and_then (λ k. k) o)) (slice_get-set_same lists t (Some l) (Some (l ++ x ∷ [])) e)

pub others_after : (lists : Lists) (t u : ℕ) (l : List Item) (x : Item) → (t ≡ u → ⊥) → list_in (with_item lists t l x) u ≡ list_in lists u
others_after lists t u l x ne = ap (λ o. items_of (option_and_then (λ k. k) o)) (slice_get-set_other lists t u (Some (l ++ x ∷ [])) ne)

-- the list of u then: it is as it was, or t's with one more
pub data ListAfter (lists : Lists) (t : ℕ) (l : List Item) (x : Item) (u : ℕ) : Type 0 where
  its_own : t ≡ u → list_in lists u ≡ l → list_in (with_item lists t l x) u ≡ l ++ x ∷ [] → ListAfter lists t l x u
  another : (t ≡ u → ⊥) → list_in (with_item lists t l x) u ≡ list_in lists u → ListAfter lists t l x u

pub list_after : (lists : Lists) (t : ℕ) (l : List Item) (x : Item) (u : ℕ) → slice_get lists t ≡ Some (Some l) → ListAfter lists t l x u
list_after lists t l x u e = go (t == u) refl
  where
    go : (b : Bool) → (t == u) ≡ b → ListAfter lists t l x u
    go true yes_ =
        let same : t ≡ u = eqb-true t u yes_ in
        its_own same (subst (λ n. list_in lists n ≡ l) same (mine lists t l e)) (subst (λ n. list_in (with_item lists t l x) n ≡ l ++ x ∷ []) same (mine_after lists t l x e))
    go false no_ = let ne : t ≡ u → ⊥ = λ same. apart (t == u) (eq-eqb t u same) no_ in another ne (others_after lists t u l x ne)

pub get_within : {X : Type 0} (xs : List X) (i : ℕ) (y : X) → slice_get xs i ≡ Some y → i < length xs
get_within [] i y e = cc
get_within (x ∷ xs) zero y e = omega arith
get_within (x ∷ xs) (suc i) y e = omega (arith, get_within xs i y e)

-- an item of the longer list
data OneOf (l : List Item) (x : Item) (i : ℕ) (y : Item) : Type 0 where
  older : slice_get l i ≡ Some y → OneOf l x i y
  newest : i ≡ length l → x ≡ y → OneOf l x i y

one_of_longer : (l : List Item) (x : Item) (i : ℕ) (y : Item) → slice_get (l ++ x ∷ []) i ≡ Some y → OneOf l x i y
one_of_longer [] x zero y e = newest refl cc
one_of_longer [] x (suc i) y e = cc
one_of_longer (z ∷ zs) x zero y e = older e
one_of_longer (z ∷ zs) x (suc i) y e = go (one_of_longer zs x i y e)
  where
    go : OneOf zs x i y → OneOf (z ∷ zs) x (suc i) y
    go (older h) = older h
    go (newest h k) = newest (ap suc h) k

-- an item of the record then: it was there with the same items before it, or it is the new one
pub data ItemAfter (lists : Lists) (t : ℕ) (l : List Item) (x : Item) (u i : ℕ) (y : Item) : Type 0 where
  was_there : slice_get (list_in lists u) i ≡ Some y → take i (list_in (with_item lists t l x) u) ≡ take i (list_in lists u) → ItemAfter lists t l x u i y
  is_new : t ≡ u → x ≡ y → take i (list_in (with_item lists t l x) u) ≡ l → ItemAfter lists t l x u i y

pub item_after : (lists : Lists) (t : ℕ) (l : List Item) (x : Item) (u i : ℕ) (y : Item) → slice_get lists t ≡ Some (Some l) → slice_get (list_in (with_item lists t l x) u) i ≡ Some y → ItemAfter lists t l x u i y
item_after lists t l x u i y e h = go (list_after lists t l x u e)
  where
    own : t ≡ u → list_in lists u ≡ l → list_in (with_item lists t l x) u ≡ l ++ x ∷ [] → OneOf l x i y → ItemAfter lists t l x u i y
    own same old new (older k) =
        let within : i ≤ length l = omega (arith, get_within l i y k) in
        was_there (subst (λ xs. slice_get xs i ≡ Some y) (sym old) k) (ap (take i) new ∙ (take-append-le i l (x ∷ []) within ∙ ap (take i) (sym old)))
    own same old new (newest k m) = is_new same m (ap (take i) new ∙ (ap (λ n. take n (l ++ x ∷ [])) k ∙ take-append_seam l (x ∷ [])))

    go : ListAfter lists t l x u → ItemAfter lists t l x u i y
    go (its_own same old new) = own same old new (one_of_longer l x i y (subst (λ xs. slice_get xs i ≡ Some y) new h))
    go (another ne same) = was_there (subst (λ xs. slice_get xs i ≡ Some y) same h) (ap (take i) same)

-- ---- how many changes an object has

abbrev pub many : Lists → ℕ → ℕ
many lists o = length (changes_from o 0 lists)

more_between : (xs mid ys : List Placed) → length (xs ++ ys) ≤ length (xs ++ (mid ++ ys))
more_between xs mid ys = omega (arith, length-append xs ys, length-append xs (mid ++ ys), length-append mid ys)

pub many_grows : (lists : Lists) (t : ℕ) (l : List Item) (x : Item) (o : ℕ) → slice_get lists t ≡ Some (Some l) → many lists o ≤ many (with_item lists t l x) o
many_grows lists t l x o e =
    let sp = split o 0 t lists l x e in
    let mid = change_on o (0 + t) (length l) x in
    let old : many lists o ≡ length (sp.pre ++ sp.post) = ap length sp.old in
    let new : many (with_item lists t l x) o ≡ length (sp.pre ++ (mid ++ sp.post)) = ap length sp.new in
    omega (arith, old, new, more_between sp.pre mid sp.post)

one_more_between : (xs ys : List Placed) (c : Placed) → length (xs ++ (c ∷ ys)) ≡ length (xs ++ ys) + 1
one_more_between xs ys c = omega (arith, length-append xs (c ∷ ys), length-append xs ys)

pub many_more : (lists : Lists) (t : ℕ) (l : List Item) (q : ObjectNo) (p : ℕ) (en : Entry) (o : ℕ) → slice_get lists t ≡ Some (Some l) → (q.0 == o) ≡ true → many (with_item lists t l (items.Change q p en)) o ≡ many lists o + 1
many_more lists t l q p en o e here =
    let sp = split o 0 t lists l (items.Change q p en) e in
    let c : Placed = record { position = p; thread = 0 + t; item = length l; entry = en } in
    let one : change_on o (0 + t) (length l) (items.Change q p en) ≡ c ∷ [] = rw here refl in
    ap length sp.new ∙ (ap (λ cs. length (sp.pre ++ (cs ++ sp.post))) one ∙ (one_more_between sp.pre sp.post c ∙ ap (λ cs. length cs + 1) (sym sp.old)))

-- an object's count is the number of its changes
pub count_is : (s : Scene) (things : List Thing) (lists : Lists) (o : ℕ) (th : Thing) → Known s things → Kept s things lists → slice_get things o ≡ Some th → th.changes ≡ many lists o
count_is s things lists o th known kept there =
    let declared = known o th there in
    let k = kept o declared.0 declared.1 in
    let same : k.thing ≡ th = cc (there, k.there) in
    ap (λ (v : Thing). v.changes) (sym same) ∙ k.count

-- ---- histories

pub record Longer (old new : List Entry) : Type 0 where
  pub rest : List Entry
  pub is : new ≡ old ++ rest

pub same_history : (s : Scene) (lists lists' : Lists) (o : ℕ) → changes_from o 0 lists' ≡ changes_from o 0 lists → Longer (history (of_lists s lists) o) (history (of_lists s lists') o)
same_history s lists lists' o e = record { rest = []; is = ap (λ cs. entries (in_order cs)) e ∙ sym (append-nil (entries (in_order (changes_from o 0 lists)))) }

aside_history : (s : Scene) (lists : Lists) (t : ℕ) (l : List Item) (x : Item) (o : ℕ) → slice_get lists t ≡ Some (Some l) → change_on o (0 + t) (length l) x ≡ [] → Longer (history (of_lists s lists) o) (history (of_lists s (with_item lists t l x)) o)
aside_history s lists t l x o e none_here =
    let sp = split o 0 t lists l x e in
    same_history s lists (with_item lists t l x) o (sp.new ∙ (ap (λ cs. sp.pre ++ (cs ++ sp.post)) none_here ∙ sym sp.old))

pub history_grows : (s : Scene) (things things' : List Thing) (lists : Lists) (t : ℕ) (l : List Item) (x : Item) (o : ℕ) → Known s things → Kept s things lists → slice_get lists t ≡ Some (Some l) → Moves things x things' → Longer (history (of_lists s lists) o) (history (of_lists s (with_item lists t l x)) o)
history_grows s things things' lists t l x o known kept e (looked q k th there_ shown) = aside_history s lists t l (items.Look q (record k { at = th.changes })) o e refl
history_grows s things things' lists t l x o known kept e (controlled c) = aside_history s lists t l (items.Control c) o e refl
history_grows s things things' lists t l x o known kept e (replied r) = aside_history s lists t l (items.Said r) o e refl
history_grows s things things' lists t l x o known kept e (changed q en th next there_ enabled) = go (q.0 == o) refl
  where
    go : (b : Bool) → (q.0 == o) ≡ b → Longer (history (of_lists s lists) o) (history (of_lists s (with_item lists t l (items.Change q th.changes en))) o)
    go false no_ =
        let none_here : change_on o (0 + t) (length l) (items.Change q th.changes en) ≡ [] = rw no_ refl in
        aside_history s lists t l (items.Change q th.changes en) o e none_here
    go true yes_ =
        let same : q.0 ≡ o = eqb-true q.0 o yes_ in
        let there_o : slice_get things o ≡ Some th = subst (λ n. slice_get things n ≡ Some th) same there_ in
        let declared = known o th there_o in
        let k = kept o declared.0 declared.1 in
        let from = opening (kind_of declared.0) in
        let sp = split o 0 t lists l (items.Change q th.changes en) e in
        let c : Placed = record { position = th.changes; thread = 0 + t; item = length l; entry = en } in
        let one : change_on o (0 + t) (length l) (items.Change q th.changes en) ≡ c ∷ [] = rw yes_ refl in
        let new : changes_from o 0 (with_item lists t l (items.Change q th.changes en)) ≡ sp.pre ++ (c ∷ sp.post) = sp.new ∙ ap (λ cs. sp.pre ++ (cs ++ sp.post)) one in
        let before : IsSoFar from (sp.pre ++ sp.post) k.thing.state = subst (λ cs. IsSoFar from cs k.thing.state) sp.old k.so_far in
        let last : th.changes ≡ length (sp.pre ++ sp.post) = count_is s things lists o th known kept there_o ∙ ap length sp.old in
        let grown = sequence_grows from k.thing.state sp.pre sp.post c before last in
        record {
          rest = en ∷ [];
          is = ap (λ cs. entries (in_order cs)) new ∙ (ap entries grown ∙ (entries-append (in_order (sp.pre ++ sp.post)) c ∙ ap (λ cs. entries (in_order cs) ++ en ∷ []) (sym sp.old)));
        }

-- ---- what is shown stays shown

pub both : (a b : Bool) → (a && b) ≡ true → (a ≡ true) × (b ≡ true)
both true b h = (refl, h)
both false b h = cc

-- a look that is shown by a history, after as many changes as its stamp says
abbrev shown_by : Option Object → List Entry → Look → Bool
shown_by od h l = nat_le l.at (length h) && shows_to (option_and_then (λ (d : Object). after (kind_of d) h l.at) od) l

longer_shows : (od : Option Object) (h rest : List Entry) (l : Look) → shown_by od h l ≡ true → shown_by od (h ++ rest) l ≡ true
longer_shows od h rest l shown =
    let p = both (nat_le l.at (length h)) (shows_to (option_and_then (λ (d : Object). after (kind_of d) h l.at) od) l) shown in
    let low : l.at ≤ length h = leb-true l.at (length h) p.0 in
    let still : l.at ≤ length (h ++ rest) = omega (arith, low, length-append h rest) in
    let front : take l.at (h ++ rest) ≡ take l.at h = take-append-le l.at h rest low in
    let same : shows_to (option_and_then (λ (d : Object). after (kind_of d) (h ++ rest) l.at) od) l ≡ true = subst (λ es. shows_to (option_and_then (λ (d : Object). run (opening (kind_of d)) es) od) l ≡ true) (sym front) p.1 in
    rw (le-leb l.at (length (h ++ rest)) still, same) refl

pub still_shown : (s : Scene) (lists lists' : Lists) → ((o : ℕ) → Longer (history (of_lists s lists) o) (history (of_lists s lists') o)) → (y : Item) → is_shown s (of_lists s lists) y ≡ true → is_shown s (of_lists s lists') y ≡ true
still_shown s lists lists' longer (items.Change q p e) h = refl
still_shown s lists lists' longer (items.Control c) h = refl
still_shown s lists lists' longer (items.Said r) h = refl
still_shown s lists lists' longer (items.Look q l) h =
    let g = longer q.0 in
    subst (λ es. shown_by (slice_get s.objects q.0) es l ≡ true) (sym g.is) (longer_shows (slice_get s.objects q.0) (history (of_lists s lists) q.0) g.rest l h)

length-entries : (cs : List Placed) → length (entries cs) ≡ length cs
length-entries [] = refl
length-entries (c ∷ cs) = ap suc (length-entries cs)

history_length : (s : Scene) (lists : Lists) (o : ℕ) → length (history (of_lists s lists) o) ≡ many lists o
history_length s lists o = length-entries (in_order (changes_from o 0 lists)) ∙ length-in_order (changes_from o 0 lists)

-- the stamp plays no part in it
same_shows : (state : State) (l : Look) (n : ℕ) → shows state (record l { at = n }) ≡ shows state l
same_shows (AMutex m) l n = refl
same_shows (AShared m) l n = refl
same_shows (ASemaphore m) l n = refl
same_shows (ALatch m) l n = refl
same_shows (ABarrier m) l n = refl
same_shows (AOnce m) l n = refl
same_shows (ACondition m) l n = refl
same_shows (AStop m) l n = refl
same_shows (AFuture m) l n = refl

-- a look with the newest stamp is shown by the state that the replay keeps
newly_shown : (s : Scene) (things : List Thing) (lists : Lists) (q : ObjectNo) (l : Look) (th : Thing) → Known s things → Kept s things lists → slice_get things q.0 ≡ Some th → shows th.state l ≡ true → is_shown s (of_lists s lists) (items.Look q (record l { at = th.changes })) ≡ true
newly_shown s things lists q l th known kept there shown =
    let declared = known q.0 th there in
    let k = kept q.0 declared.0 declared.1 in
    let same : k.thing ≡ th = cc (there, k.there) in
    let h = history (of_lists s lists) q.0 in
    let count : th.changes ≡ length h = count_is s things lists q.0 th known kept there ∙ sym (history_length s lists q.0) in
    let stamped : Look = record l { at = th.changes } in
    let whole : take th.changes h ≡ h = ap (λ n. take n h) count ∙ take-length h in
    let reached : run (opening (kind_of declared.0)) (take th.changes h) ≡ Some th.state = ap (run (opening (kind_of declared.0))) whole ∙ (k.so_far.reaches ∙ ap (λ (v : Thing). Some v.state) same) in
    let by_state : shows_to (option_and_then (λ (d : Object). after (kind_of d) h th.changes) (slice_get s.objects q.0)) stamped ≡ true = rw (declared.1, reached) (same_shows th.state l th.changes ∙ shown) in
    rw (le-leb th.changes (length h) (omega (arith, count)), by_state) refl

pub newest_shown : (s : Scene) (things things' : List Thing) (lists : Lists) (x : Item) → Known s things → Kept s things lists → Moves things x things' → is_shown s (of_lists s lists) x ≡ true
newest_shown s things things' lists x known kept (changed q en th next there enabled) = refl
newest_shown s things things' lists x known kept (looked q k th there shown) = newly_shown s things lists q k th known kept there shown
newest_shown s things things' lists x known kept (controlled c) = refl
newest_shown s things things' lists x known kept (replied r) = refl

-- ---- places

pub place_from-append : (o n : ℕ) (xs : List Item) (x : Item) → place_from o n (xs ++ x ∷ []) ≡ place_after o (place_from o n xs) x
place_from-append o n [] x = refl
place_from-append o n (y ∷ ys) x = place_from-append o (place_after o n y) ys x

-- after a new item nobody is beyond the changes that there are
pub new_place : (s : Scene) (things things' : List Thing) (lists : Lists) (t : ℕ) (l : List Item) (x : Item) (o n : ℕ) → Known s things → Kept s things lists → slice_get lists t ≡ Some (Some l) → Moves things x things' → n ≤ many lists o → place_after o n x ≤ many (with_item lists t l x) o
new_place s things things' lists t l x o n known kept e (controlled c) h = let m = many_grows lists t l (items.Control c) o e in omega (arith, m, h)
new_place s things things' lists t l x o n known kept e (replied r) h = let m = many_grows lists t l (items.Said r) o e in omega (arith, m, h)
new_place s things things' lists t l x o n known kept e (looked q k th there_ shown) h = go (q.0 == o) refl
  where
    m : many lists o ≤ many (with_item lists t l (items.Look q (record k { at = th.changes }))) o
    m = many_grows lists t l (items.Look q (record k { at = th.changes })) o e

    go : (b : Bool) → (q.0 == o) ≡ b → (if b then th.changes else n) ≤ many (with_item lists t l (items.Look q (record k { at = th.changes }))) o
    go true yes_ =
        let there_o : slice_get things o ≡ Some th = subst (λ v. slice_get things v ≡ Some th) (eqb-true q.0 o yes_) there_ in
        omega (arith, m, count_is s things lists o th known kept there_o)
    go false no_ = omega (arith, m, h)
new_place s things things' lists t l x o n known kept e (changed q en th next there_ enabled) h = go (q.0 == o) refl
  where
    go : (b : Bool) → (q.0 == o) ≡ b → (if b then th.changes + 1 else n) ≤ many (with_item lists t l (items.Change q th.changes en)) o
    go true yes_ =
        let there_o : slice_get things o ≡ Some th = subst (λ v. slice_get things v ≡ Some th) (eqb-true q.0 o yes_) there_ in
        omega (arith, many_more lists t l q th.changes en o e yes_, count_is s things lists o th known kept there_o)
    go false no_ = omega (arith, many_grows lists t l (items.Change q th.changes en) o e, h)

-- a new item's number is at least any number of changes that somebody can know
pub newest_number : (s : Scene) (things things' : List Thing) (lists : Lists) (x : Item) (least : ℕ → ℕ) → Known s things → Kept s things lists → Moves things x things' → ((o : ℕ) → least o ≤ many lists o) → is_at_least least x ≡ true
newest_number s things things' lists x least known kept (controlled c) h = refl
newest_number s things things' lists x least known kept (replied r) h = refl
newest_number s things things' lists x least known kept (looked q k th there_ shown) h = le-leb (least q.0) th.changes (omega (arith, h q.0, count_is s things lists q.0 th known kept there_))
newest_number s things things' lists x least known kept (changed q en th next there_ enabled) h = le-leb (least q.0) th.changes (omega (arith, h q.0, count_is s things lists q.0 th known kept there_))

pub same_number : (f g : ℕ → ℕ) (y : Item) → ((o : ℕ) → f o ≡ g o) → is_at_least f y ≡ true → is_at_least g y ≡ true
same_number f g (items.Change q p e) same h = subst (λ n. nat_le n p ≡ true) (same q.0) h
same_number f g (items.Look q l) same h = subst (λ n. nat_le n l.at ≡ true) (same q.0) h
same_number f g (items.Control c) same h = refl
same_number f g (items.Said r) same h = refl

-- ---- what main knows

abbrev pub joins : ℕ → Item → Bool
joins u (items.Control (controls.Join v)) = v.0 == u
joins u _ = false

abbrev pub any_joins : ℕ → List Item → Bool
any_joins u [] = false
any_joins u (x ∷ xs) = joins u x || any_joins u xs

abbrev pub knows_nothing : Knowing
knows_nothing = record { place = 0; owed = 0; begun = [] }

pub or_left : (a b : Bool) → a ≡ true → (a || b) ≡ true
or_left a b h = rw h refl

pub or_right : (a b : Bool) → b ≡ true → (a || b) ≡ true
or_right true b h = refl
or_right false b h = h

knows_after_same : (r r' : Recorded) (o : ℕ) (k : Knowing) (x : Item) → ((u : ℕ) → joins u x ≡ true → place_at_end r u o ≡ place_at_end r' u o) → knows_after r o k x ≡ knows_after r' o k x
knows_after_same r r' o k (items.Control (controls.Join v)) same = ap (λ n. record k { owed = max k.owed (max n (known_at_start k.begun v.0)) }) (same v.0 (eq-eqb v.0 v.0 refl))
knows_after_same r r' o k (items.Control (controls.Start v ok)) same = refl
knows_after_same r r' o k (items.Control (controls.Launch v ok)) same = refl
knows_after_same r r' o k (items.Change q p e) same = refl
knows_after_same r r' o k (items.Look q l) same = refl
knows_after_same r r' o k (items.Said q) same = refl

-- it rests on the lists of the threads that were joined
pub knows_same : (r r' : Recorded) (o : ℕ) (k : Knowing) (xs : List Item) → ((u : ℕ) → any_joins u xs ≡ true → place_at_end r u o ≡ place_at_end r' u o) → knows_from r o k xs ≡ knows_from r' o k xs
knows_same r r' o k [] same = refl
knows_same r r' o k (x ∷ xs) same =
    ap (λ m. knows_from r o m xs) (knows_after_same r r' o k x (λ u h. same u (or_left (joins u x) (any_joins u xs) h)))
    ∙ knows_same r r' o (knows_after r' o k x) xs (λ u h. same u (or_right (joins u x) (any_joins u xs) h))

pub knows-append : (r : Recorded) (o : ℕ) (k : Knowing) (xs : List Item) (x : Item) → knows_from r o k (xs ++ x ∷ []) ≡ knows_after r o (knows_from r o k xs) x
knows-append r o k [] x = refl
knows-append r o k (y ∷ ys) x = knows-append r o (knows_after r o k y) ys x

pub joins_take : (u i : ℕ) (xs : List Item) → any_joins u (take i xs) ≡ true → any_joins u xs ≡ true
joins_take u zero xs h = cc
joins_take u (suc i) [] h = h
joins_take u (suc i) (x ∷ xs) h = go (joins u x) refl h (λ k. joins_take u i xs k)
  where
    go : (b : Bool) → joins u x ≡ b → (b || any_joins u (take i xs)) ≡ true → (any_joins u (take i xs) ≡ true → any_joins u xs ≡ true) → (joins u x || any_joins u xs) ≡ true
    go true e k ih = or_left (joins u x) (any_joins u xs) e
    go false e k ih = or_right (joins u x) (any_joins u xs) (ih k)

-- nothing that is known is beyond n
pub record KnowsBelow (n : ℕ) (k : Knowing) : Type 0 where
  pub place : k.place ≤ n
  pub owed : k.owed ≤ n
  pub begun : (u : ℕ) → known_at_start k.begun u ≤ n

max_below : (a b n : ℕ) → a ≤ n → b ≤ n → max a b ≤ n
max_below a b n h k = grind (arith, common_steps)

begun_below : (n u : ℕ) (bs : List Begun) (b : Begun) → b.known ≤ n → known_at_start bs u ≤ n → known_at_start (bs ++ b ∷ []) u ≤ n
begun_below n u [] b h all = go (b.thread == u)
  where
    go : (c : Bool) → (if c then b.known else 0) ≤ n
    go true = h
    go false = omega arith
begun_below n u (c ∷ cs) b h all = go (c.thread == u) all (λ k. begun_below n u cs b h k)
  where
    go : (d : Bool) → (if d then c.known else known_at_start cs u) ≤ n → (known_at_start cs u ≤ n → known_at_start (cs ++ b ∷ []) u ≤ n) → (if d then c.known else known_at_start (cs ++ b ∷ []) u) ≤ n
    go true k ih = k
    go false k ih = ih k

pub KnowsBelow_more : (m n : ℕ) (k : Knowing) → m ≤ n → KnowsBelow m k → KnowsBelow n k
KnowsBelow_more m n k h below = record { place = omega (arith, h, below.place); owed = omega (arith, h, below.owed); begun = λ u. omega (arith, h, below.begun u) }

begins_below : (n : ℕ) (k : Knowing) (v : ThreadNo) (ok : Bool) → KnowsBelow n k → KnowsBelow n (begins k v ok)
begins_below n k v false below = below
begins_below n k v true below = record { place = below.place; owed = below.owed; begun = λ u. begun_below n u k.begun (record { thread = v.0; known = max k.place k.owed }) (max_below k.place k.owed n below.place below.owed) (below.begun u) }

pub knows_below : (r : Recorded) (o m n : ℕ) (k : Knowing) (x : Item) → m ≤ n → ((p : ℕ) → p ≤ m → place_after o p x ≤ n) → ((u : ℕ) → place_at_end r u o ≤ n) → KnowsBelow m k → KnowsBelow n (knows_after r o k x)
knows_below r o m n k (items.Change q p e) h moved ends below = let more = KnowsBelow_more m n k h below in record { place = moved k.place below.place; owed = more.owed; begun = more.begun }
knows_below r o m n k (items.Look q l) h moved ends below = let more = KnowsBelow_more m n k h below in record { place = moved k.place below.place; owed = more.owed; begun = more.begun }
knows_below r o m n k (items.Said q) h moved ends below = let more = KnowsBelow_more m n k h below in record { place = more.place; owed = more.owed; begun = more.begun }
knows_below r o m n k (items.Control (controls.Start v ok)) h moved ends below = begins_below n k v ok (KnowsBelow_more m n k h below)
knows_below r o m n k (items.Control (controls.Launch v ok)) h moved ends below = begins_below n k v ok (KnowsBelow_more m n k h below)
knows_below r o m n k (items.Control (controls.Join v)) h moved ends below =
    let more = KnowsBelow_more m n k h below in
    record { place = more.place; owed = max_below k.owed (max (place_at_end r v.0 o) (known_at_start k.begun v.0)) n more.owed (max_below (place_at_end r v.0 o) (known_at_start k.begun v.0) n (ends v.0) (more.begun v.0)); begun = more.begun }

-- ---- a thread that has begun is known to main as at its start

abbrev pub has_begun : ℕ → List Begun → Bool
has_begun u [] = false
has_begun u (b ∷ bs) = (b.thread == u) || has_begun u bs

first_stays : (u : ℕ) (bs : List Begun) (b : Begun) → has_begun u bs ≡ true → known_at_start (bs ++ b ∷ []) u ≡ known_at_start bs u
first_stays u [] b h = cc
first_stays u (c ∷ cs) b h = go (c.thread == u) h (λ k. first_stays u cs b k)
  where
    go : (d : Bool) → (d || has_begun u cs) ≡ true → (has_begun u cs ≡ true → known_at_start (cs ++ b ∷ []) u ≡ known_at_start cs u) → (if d then c.known else known_at_start (cs ++ b ∷ []) u) ≡ (if d then c.known else known_at_start cs u)
    go true k ih = refl
    go false k ih = ih k

begun-append : (u : ℕ) (bs : List Begun) (b : Begun) → has_begun u (bs ++ b ∷ []) ≡ (has_begun u bs || (b.thread == u))
begun-append u [] b = go (b.thread == u)
  where
    go : (c : Bool) → (c || false) ≡ c
    go true = refl
    go false = refl
begun-append u (c ∷ cs) b = go (c.thread == u) (begun-append u cs b)
  where
    go : (d : Bool) → has_begun u (cs ++ b ∷ []) ≡ (has_begun u cs || (b.thread == u)) → (d || has_begun u (cs ++ b ∷ [])) ≡ ((d || has_begun u cs) || (b.thread == u))
    go true ih = refl
    go false ih = ih

-- who has begun stays so
begun_after : (r : Recorded) (o u : ℕ) (k : Knowing) (x : Item) → has_begun u k.begun ≡ true → has_begun u (knows_after r o k x).begun ≡ true
begun_after r o u k (items.Change q p e) h = h
begun_after r o u k (items.Look q l) h = h
begun_after r o u k (items.Said q) h = h
begun_after r o u k (items.Control (controls.Join v)) h = h
begun_after r o u k (items.Control (controls.Start v true)) h = begun-append u k.begun (record { thread = v.0; known = max k.place k.owed }) ∙ or_left (has_begun u k.begun) (v.0 == u) h
begun_after r o u k (items.Control (controls.Start v false)) h = h
begun_after r o u k (items.Control (controls.Launch v true)) h = begun-append u k.begun (record { thread = v.0; known = max k.place k.owed }) ∙ or_left (has_begun u k.begun) (v.0 == u) h
begun_after r o u k (items.Control (controls.Launch v false)) h = h

begun_by : (r : Recorded) (o u : ℕ) (k : Knowing) (x : Item) → starts u x ≡ true → has_begun u (knows_after r o k x).begun ≡ true
begun_by r o u k (items.Change q p e) h = cc
begun_by r o u k (items.Look q l) h = cc
begun_by r o u k (items.Said q) h = cc
begun_by r o u k (items.Control (controls.Join v)) h = cc
begun_by r o u k (items.Control (controls.Start v true)) h = begun-append u k.begun (record { thread = v.0; known = max k.place k.owed }) ∙ or_right (has_begun u k.begun) (v.0 == u) h
begun_by r o u k (items.Control (controls.Start v false)) h = cc
begun_by r o u k (items.Control (controls.Launch v true)) h = begun-append u k.begun (record { thread = v.0; known = max k.place k.owed }) ∙ or_right (has_begun u k.begun) (v.0 == u) h
begun_by r o u k (items.Control (controls.Launch v false)) h = cc

begun_stays : (r : Recorded) (o u : ℕ) (k : Knowing) (xs : List Item) → has_begun u k.begun ≡ true → has_begun u (knows_from r o k xs).begun ≡ true
begun_stays r o u k [] h = h
begun_stays r o u k (x ∷ xs) h = begun_stays r o u (knows_after r o k x) xs (begun_after r o u k x h)

pub started_begins : (r : Recorded) (o u : ℕ) (k : Knowing) (xs : List Item) → any_starts u xs ≡ true → has_begun u (knows_from r o k xs).begun ≡ true
started_begins r o u k [] h = cc
started_begins r o u k (x ∷ xs) h = go (starts u x) refl h (λ e. started_begins r o u (knows_after r o k x) xs e)
  where
    go : (b : Bool) → starts u x ≡ b → (b || any_starts u xs) ≡ true → (any_starts u xs ≡ true → has_begun u (knows_from r o (knows_after r o k x) xs).begun ≡ true) → has_begun u (knows_from r o (knows_after r o k x) xs).begun ≡ true
    go true e m ih = begun_stays r o u (knows_after r o k x) xs (begun_by r o u k x e)
    go false e m ih = ih m

-- one more item of main leaves what it knew when it started a thread before
pub known_stays : (r : Recorded) (o u : ℕ) (k : Knowing) (x : Item) → has_begun u k.begun ≡ true → known_at_start (knows_after r o k x).begun u ≡ known_at_start k.begun u
known_stays r o u k (items.Change q p e) h = refl
known_stays r o u k (items.Look q l) h = refl
known_stays r o u k (items.Said q) h = refl
known_stays r o u k (items.Control (controls.Join v)) h = refl
known_stays r o u k (items.Control (controls.Start v true)) h = first_stays u k.begun (record { thread = v.0; known = max k.place k.owed }) h
known_stays r o u k (items.Control (controls.Start v false)) h = refl
known_stays r o u k (items.Control (controls.Launch v true)) h = first_stays u k.begun (record { thread = v.0; known = max k.place k.owed }) h
known_stays r o u k (items.Control (controls.Launch v false)) h = refl
