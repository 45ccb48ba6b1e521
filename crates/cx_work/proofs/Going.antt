-- What an item that an access made says of what is seen through it.
use Rattle.std.proofs.Common.{◌≡◌, ℕ, ◌+◌, ◌^◌, ◌<◌, ◌≤◌, true, List, [], ◌∷◌, ◌++◌, length, take, slice_get, Option, Some, None, option_and_then, nat_eq, cond, refl, sym, ap, ◌∙◌, subst, arith, length-append}
use mathlib.Core.List.{IsPrefix}
use Rattle.std.proofs.Math.Seq.{take-length}
use Rattle.cx_names.specs.declared.ObjectNo.{ObjectNo}
use Rattle.cx_machine.specs.declared.kind.Entry.{Entry}
use Rattle.cx_machine.specs.declared.kind.Look.{Look}
use Rattle.cx_machine.specs.Meaning.{run as runs}
use Rattle.cx_machine.specs.Machine.{State, opening, run, step}
use Rattle.cx_turn.specs.declared.view.View.{View}
use Rattle.cx_turn.specs.Positions.{positions}
use Rattle.cx_turn.proofs.Histories.{prefix_more, prefix_length}
use Rattle.cx_turn.specs.Acts.{Makes, Looks}
use Rattle.cx_scene.specs.declared.declared.Object.{Object}
use Rattle.cx_scene.specs.Scene.{Scene, kind_of}
use Rattle.cx_items.specs.declared.item.Item.{Item}
use Rattle.cx_items.specs.declared.item.Item.TheVariants as items
use Rattle.cx_history.specs.Legal.{shows_to}
use Rattle.cx_fronts.specs.Positions.{positions as own_positions}
use Rattle.cx_fronts.specs.Paths.{Fronts, put, shown_in, Goes}
use Rattle.cx_fronts.proofs.Grown.{change_goes, look_goes}
use Rattle.cx_kinds.specs.AnyKind.{any_kind}
use Rattle.cx_kinds.specs.declared.access.Access.{Access}
use Rattle.cx_kinds.specs.Accesses.{object_of, Knows}
use Rattle.cx_work.specs.Accesses.{IsMadeAs, GoesBy}

-- ---- positions, as both crates have them

pub same_positions : (t k : ℕ) (es : List Entry) → own_positions t k es ≡ positions t k es
same_positions t k [] = refl
same_positions t k (e ∷ es) = ap (λ ns. cond (nat_eq e.by.0 t) (k ∷ ns) ns) (same_positions t (k + 1) es)

-- ---- runs, by both definitions

no_run : (es : List Entry) → runs step None es ≡ None
no_run [] = refl
no_run (e ∷ es) = no_run es

pub run_is : (es : List Entry) (m : State) → run m es ≡ runs step (Some m) es
run_is [] m = refl
run_is (e ∷ es) m = go (step m e) (λ n. run_is es n)
  where
    go : (o : Option State) → ((n : State) → run n es ≡ runs step (Some n) es) → option_and_then (λ n. run n es) o ≡ runs step o es
    go None later = sym (no_run es)
    go (Some n) later = later n

-- ---- views

-- an access has seen one thing
pub same_view : (k : Access) (v w : View State) → Knows k v → Knows k w → v ≡ w
same_view k v w a b = b.only v a.saw_it

pub last_there : {A : Type 0} (xs : List A) (x : A) (n : ℕ) → n ≡ length xs → slice_get (xs ++ x ∷ []) n ≡ Some x
last_there xs x n e = subst (λ k. slice_get (xs ++ x ∷ []) k ≡ Some x) (sym e) (at_end xs x)
  where
    at_end : {A : Type 0} (xs : List A) (x : A) → slice_get (xs ++ x ∷ []) (length xs) ≡ Some x
    at_end [] x = refl
    at_end (y ∷ ys) x = at_end ys x

-- what an item leaves as it was
pub record Remains (v w : View State) : Type 0 where
  pub number : w.number ≡ v.number
  pub start : w.start ≡ v.start
  pub taken : w.taken ≡ v.taken
  pub splits : w.splits ≡ v.splits
  pub later : IsPrefix v.front w.front

pub change_remains : (v w : View State) (e : Entry) (n : ℕ) → Makes any_kind v w e n → Remains v w
change_remains v w e n m = record {
  number = ap (λ (u : View State). u.number) m.view;
  start = ap (λ (u : View State). u.start) m.view;
  taken = ap (λ (u : View State). u.taken) m.view;
  splits = ap (λ (u : View State). u.splits) m.view;
  later = let front : w.front ≡ m.found ++ e ∷ [] = ap (λ (u : View State). u.front) m.view in subst (λ es. IsPrefix v.front es) (sym front) (prefix_more v.front m.found (e ∷ []) m.later);
}

look_remains : (v w : View State) (l : Look) → Looks any_kind v w l → Remains v w
look_remains v w l m = record {
  number = ap (λ (u : View State). u.number) m.view;
  start = ap (λ (u : View State). u.start) m.view;
  taken = ap (λ (u : View State). u.taken) m.view;
  splits = ap (λ (u : View State). u.splits) m.view;
  later = m.later;
}

pub remains : (x : Item) (v w : View State) → GoesBy x v w → Remains v w
remains (items.Change q n e) v w goes = change_remains v w e n goes.1
remains (items.Look q l) v w goes = look_remains v w l goes.1
remains _ v w goes = absurd goes

-- ---- numbers below the bound of histories

pub front_short : (k : Access) (v : View State) → Knows k v → length v.front < 2 ^ 28
front_short k v a =
    let present = a.known.present in
    let long = prefix_length v.front present.0 present.2 in
    let few = present.3.bounded in
    omega (arith, long, few)

pub change_end : (v w : View State) (e : Entry) (n : ℕ) → Makes any_kind v w e n → length w.front ≡ n + 1
change_end v w e n m =
    let front : w.front ≡ m.found ++ e ∷ [] = ap (λ (u : View State). u.front) m.view in
    let long : length w.front ≡ length m.found + 1 = ap length front ∙ length-append m.found (e ∷ []) in
    let at_ = m.position in
    omega (arith, long, at_)

pub change_below : (k' : Access) (v w : View State) (e : Entry) (n : ℕ) → Knows k' w → Makes any_kind v w e n → n < 2 ^ 28
change_below k' v w e n b m = let short = front_short k' w b in let end = change_end v w e n m in omega (arith, short, end)

pub look_below : (k' : Access) (v w : View State) (l : Look) → Knows k' w → Looks any_kind v w l → l.at < 2 ^ 28
look_below k' v w l b m = let short = front_short k' w b in let at_ = m.stamp in omega (arith, short, at_)

-- ---- the path of fronts

pub own_at : (k : Access) (t : ℕ) (v : View State) → v.number ≡ t → Knows k v → own_positions t 0 v.front ≡ v.mine
own_at k t v numbered a = same_positions t 0 v.front ∙ subst (λ n. positions n 0 v.front ≡ v.mine) numbered (a.known.own a.counts)

-- where an access of thread t has made a change, its front goes on so
change_path : (s : Scene) (t : ℕ) (q : ObjectNo) (k k' : Access) (n : ℕ) (e : Entry) (v w : View State) → v.number ≡ t → Knows k v → Knows k' w → Makes any_kind v w e n → (f : Fronts) → f q.0 ≡ v.front → (first last : ℕ → Fronts) → Goes s first last t f (put f q.0 w.front) (items.Change q n e)
change_path s t q k k' n e v w numbered a b m f shown first last =
    let r = change_remains v w e n m in
    let front : w.front ≡ m.found ++ e ∷ [] = ap (λ (u : View State). u.front) m.view in
    let mine : w.mine ≡ v.mine ++ length m.found ∷ [] = ap (λ (u : View State). u.mine) m.view in
    let mine_ : w.mine ≡ v.mine ++ n ∷ [] = mine ∙ ap (λ i. v.mine ++ i ∷ []) (sym m.position) in
    let low = prefix_length v.front m.found m.later in
    let at_ = m.position in
    let from : length v.front ≤ n = omega (arith, low, at_) in
    let there_ : slice_get w.front n ≡ Some e = subst (λ es. slice_get es n ≡ Some e) (sym front) (last_there m.found e n m.position) in
    let more : own_positions t 0 w.front ≡ own_positions t 0 v.front ++ n ∷ [] = own_at k' t w (r.number ∙ numbered) b ∙ (mine_ ∙ ap (λ ns. ns ++ n ∷ []) (sym (own_at k t v numbered a))) in
    let later_f = subst (λ es. IsPrefix es w.front) (sym shown) r.later in
    let from_f = subst (λ es. length es ≤ n) (sym shown) from in
    let more_f = subst (λ es. own_positions t 0 w.front ≡ own_positions t 0 es ++ n ∷ []) (sym shown) more in
    change_goes s first last t f q w.front n e later_f from_f there_ more_f

-- and so it does where it has made a look
look_path : (s : Scene) (t : ℕ) (d : Object) (q : ObjectNo) (k k' : Access) (l : Look) (v w : View State) → slice_get s.objects q.0 ≡ Some d → IsMadeAs d (object_of k) → v.number ≡ t → l.by.0 ≡ v.number → Knows k v → Knows k' w → Looks any_kind v w l → (f : Fronts) → f q.0 ≡ v.front → (first last : ℕ → Fronts) → Goes s first last t f (put f q.0 w.front) (items.Look q l)
look_path s t d q k k' l v w declared made numbered own a b m f shown first last =
    let r = look_remains v w l m in
    let mine : w.mine ≡ v.mine = ap (λ (u : View State). u.mine) m.view in
    let low = prefix_length v.front w.front m.later in
    let at_ = m.stamp in
    let from : length v.front ≤ l.at = omega (arith, low, at_) in
    let to : l.at ≤ length w.front = omega (arith, at_) in
    let same : own_positions t 0 w.front ≡ own_positions t 0 v.front = own_at k' t w (r.number ∙ numbered) b ∙ (mine ∙ sym (own_at k t v numbered a)) in
    let whole : take l.at w.front ≡ w.front = ap (λ i. take i w.front) m.stamp ∙ take-length w.front in
    let opens_ : opening (kind_of d) ≡ v.start = sym made.opens_so ∙ sym a.started in
    let state : run (opening (kind_of d)) (take l.at w.front) ≡ Some m.now = ap (λ es. run (opening (kind_of d)) es) whole ∙ (ap (λ u. run u w.front) opens_ ∙ (run_is w.front v.start ∙ m.leads)) in
    let shows : shown_in s w.front q l ≡ true = ap (λ o_. shows_to (option_and_then (λ (c : Object). run (opening (kind_of c)) (take l.at w.front)) o_) l) declared ∙ (ap (λ u. shows_to u l) state ∙ m.shown) in
    let later_f = subst (λ es. IsPrefix es w.front) (sym shown) m.later in
    let from_f = subst (λ es. length es ≤ l.at) (sym shown) from in
    let same_f = subst (λ es. own_positions t 0 w.front ≡ own_positions t 0 es) (sym shown) same in
    look_goes s first last t f q w.front l (own ∙ numbered) later_f from_f to shows same_f

-- the item is a change or a look of object q
abbrev pub IsOn : ObjectNo → Item → Type 0
IsOn q (items.Change o n e) = q ≡ o
IsOn q (items.Look o l) = q ≡ o
IsOn q _ = ⊥

-- where an access of thread t has made an item, its front goes on so
pub item_path : (s : Scene) (t : ℕ) (d : Object) (q : ObjectNo) (k k' : Access) (x : Item) (v w : View State) → IsOn q x → slice_get s.objects q.0 ≡ Some d → IsMadeAs d (object_of k) → v.number ≡ t → Knows k v → Knows k' w → GoesBy x v w → (f : Fronts) → f q.0 ≡ v.front → (first last : ℕ → Fronts) → Goes s first last t f (put f q.0 w.front) x
item_path s t d q k k' (items.Change o n e) v w on declared made numbered a b goes f shown first last = subst (λ (i : ObjectNo). Goes s first last t f (put f q.0 w.front) (items.Change i n e)) on (change_path s t q k k' n e v w numbered a b goes.1 f shown first last)
item_path s t d q k k' (items.Look o l) v w on declared made numbered a b goes f shown first last = subst (λ (i : ObjectNo). Goes s first last t f (put f q.0 w.front) (items.Look i l)) on (look_path s t d q k k' l v w declared made numbered goes.0 a b goes.1 f shown first last)
item_path s t d q k k' _ v w on declared made numbered a b goes f shown first last = absurd goes
