-- A run as it is prepared: nobody was started, and nothing is seen.
use Rattle.std.proofs.Common.{◌≡◌, ℕ, zero, suc, ◌+◌, ◌-◌, ◌<◌, ◌≤◌, List, [], ◌∷◌, ◌++◌, length, get_or, slice_get, Some, refl, sym, ap, ◌∙◌, subst, arith}
use Rattle.std.specs.Global.{Vec}
use Rattle.std.specs.List.{remove}
use Rattle.cx_names.specs.declared.ThreadNo.{ThreadNo}
use Rattle.cx_scene.specs.Scene.{Scene}
use Rattle.cx_items.specs.declared.item.Item.{Item}
use Rattle.cx_asks.specs.Scenes.{IsAskable}
use Rattle.cx_fronts.specs.Paths.{nothing}
use Rattle.cx_fronts.proofs.Heart.{stays}
use Rattle.cx_machine.specs.Machine.{State}
use Rattle.cx_turn.specs.declared.view.View.{View}
use Rattle.cx_kinds.specs.declared.access.Access.{Access}
use Rattle.cx_kinds.specs.Accesses.{RunObject}
use Rattle.cx_work.specs.declared.objects.Objects.{Objects}
use Rattle.cx_work.specs.declared.standing.Standing.{Standing}
use Rattle.cx_work.specs.declared.work.Work.{Work}
use Rattle.cx_work.specs.Accesses.{AreMadeAs, AreAccesses, objects_of}
use Rattle.cx_work.specs.Bodies.{Needs, scene_in}
use Rattle.cx_work.specs.Reserves.{AreEnough}
use Rattle.cx_work.specs.RunNow.{IsRunNow, IsNewAccess, AreNew, AreAllNew, AreShared}
use Rattle.cx_work.specs.Steps.{IsAt}
use Rattle.cx_work.proofs.Going.{same_view}
use Rattle.cx_work.proofs.Newness.{new_are_accesses, new_show_nothing, new_objects, new_are_enough, shares_suffice}
use Rattle.cx_run.specs.declared.place.Place.{Place}
use Rattle.cx_run.specs.declared.place.Place.TheVariants as places
use Rattle.cx_run.specs.Handing.{IsSplit}
use Rattle.cx_run.specs.Runs.{IsReady, IsPlace, RunOf, MayRun, IsRun, IsMains, AreMains, steps_at, steps_in, running_at, running_in}
use Rattle.cx_run.proofs.Keeping.{below}
use Rattle.cx_run.proofs.Accesses.{at_same}
use Rattle.cx_run.proofs.Passed.{read_at, IsTurn}

-- ---- who waits

module _ {G : Type 0} (s : Scene) (xs : List RunObject) where
  -- thread u waits with its work, which has done nothing
  abbrev pub Waits : ℕ → Place G → Type 0
  Waits u (places.Waiting w) = IsReady s xs u w
  Waits u _ = ⊥

  -- so many threads wait, of which thread i + 1 is at i
  pub record AllWait (count : ℕ) (ps : List (Place G)) : Type 0 where
    pub many : length ps ≡ count
    pub each : (i : ℕ) (p : Place G) → slice_get ps i ≡ Some p → Waits (suc i) p

  pub none_wait : AllWait 0 []
  none_wait = record { many = refl; each = λ i p h. cc h }

  pub one_more_waits : (n : ℕ) (ps : List (Place G)) (p : Place G) → AllWait n ps → Waits (suc n) p → AllWait (n + 1) (ps ++ p ∷ [])
  one_more_waits n ps p all_ new = record {
    many = long ps ∙ ap (λ m. m + 1) all_.many;
    each = go ps (λ i q. Waits (suc i) q) all_.each (subst (λ m. Waits (suc m) p) (sym all_.many) new);
  }
    where
      long : (ps : List (Place G)) → length (ps ++ p ∷ []) ≡ length ps + 1
      long [] = omega arith
      long (q ∷ ps) = omega (arith, long ps)

      go : (ps : List (Place G)) (P : ℕ → Place G → Type 0) → ((i : ℕ) (q : Place G) → slice_get ps i ≡ Some q → P i q) → P (length ps) p → (i : ℕ) (q : Place G) → slice_get (ps ++ p ∷ []) i ≡ Some q → P i q
      go [] P old last zero q h = let same : p ≡ q = cc in subst (P 0) same last
      go [] P old last (suc i) q h = cc h
      go (r ∷ ps) P old last zero q h = old 0 q h
      go (r ∷ ps) P old last (suc i) q h = go ps (λ j. P (suc j)) (λ j. old (suc j)) last i q h

-- ---- new accesses

new_split : (x : RunObject) (seats t left splits : ℕ) (k : Access) → IsNewAccess x seats t left splits k → IsSplit k splits
new_split x seats t left splits k new v knows = sym (ap (λ (u : View State). u.splits) (same_view k new.view v new.seen knows)) ∙ new.new.split

-- ---- the work of a thread

pub ready_of : {G : Type 0} (s : Scene) (xs : List RunObject) (seats left splits i : ℕ) (shared : Objects) (thread : ThreadNo) (ks : Vec Access) (w : Work G) → scene_in shared ≡ s → thread.0 ≡ suc i → AreNew xs seats (suc i) left splits ks.items → Needs w → (w.objects ≡ shared) × (w.standing.thread ≡ thread) × (w.standing.accesses ≡ ks) → IsReady s xs (suc i) w
ready_of s xs seats left splits i shared thread ks w a c new needs parts = record {
  number = ap (λ (t : ThreadNo). t.0) parts.1 ∙ c;
  scene = ap scene_in parts.0 ∙ a;
  objects = ap (λ (v : Vec Access). objects_of v.items) parts.2 ∙ new_objects xs seats (suc i) left splits ks.items new;
  needs = needs;
  h = nothing;
  shown = new_show_nothing xs seats (suc i) left splits w.standing.accesses.items (subst (λ (v : Vec Access). AreNew xs seats (suc i) left splits v.items) (sym parts.2) new);
  fresh = λ o. refl;
}

-- ---- the run

pub goes_first : {G : Type 0} (s : Scene) (xs : List RunObject) (seats left splits : ℕ) (ks : List Access) (others : List (Place G)) → AreNew xs seats 0 left splits ks → splits ≡ length others → suc (length others) ≡ length s.threads → AllWait s xs (length others) others → RunOf s xs [] ks others
goes_first {G} s xs seats left splits ks others new split count wait = record {
  count = count;
  splits = λ o k at_k. let x = at_same ks xs o k new.count at_k in λ v knows. new_split x.0 seats 0 left splits k (new.each o x.0 k x.1 at_k) v knows ∙ split;
  first = λ u. nothing;
  last = λ u. nothing;
  lists = λ u. [];
  f = nothing;
  shown = new_show_nothing xs seats 0 left splits ks new;
  main = record { path = stays 0 nothing; clean = λ u h. cc h; started = λ u h. cc h; joined = λ u h. cc h };
  started = λ u h. cc h;
  places = λ i p at_p. go i p (wait.each i p at_p);
}
  where
    go : (i : ℕ) (p : Place G) → Waits s xs (suc i) p → IsPlace s xs (λ u. nothing) (λ u. nothing) (λ u. []) [] ks nothing (suc i) p
    go i (places.Waiting w) h = (refl, h)
    go i (places.Running thread) h = absurd h
    go i (places.Ended ys) h = absurd h
    go i places.Idle h = absurd h

pub may_run_first : {G : Type 0} (s : Scene) (xs : List RunObject) (n : ℕ) (others : List (Place G)) → AllWait s xs n others → (i : ℕ) (p : Place G) → slice_get others i ≡ Some p → MayRun p
may_run_first {G} s xs n others wait i p at_p = go p (wait.each i p at_p)
  where
    go : (p : Place G) → Waits s xs (suc i) p → MayRun p
    go (places.Waiting w) h = tt
    go (places.Running thread) h = absurd h
    go (places.Ended ys) h = absurd h
    go places.Idle h = absurd h

pub no_steps_first : {G : Type 0} (s : Scene) (xs : List RunObject) (n : ℕ) (others : List (Place G)) → AllWait s xs n others → steps_in others ≡ 0
no_steps_first {G} s xs n others wait = go others (λ i p at_p. none_of (suc i) p (wait.each i p at_p))
  where
    none_of : (u : ℕ) (p : Place G) → Waits s xs u p → steps_at p ≡ 0
    none_of u (places.Waiting w) h = refl
    none_of u (places.Running thread) h = absurd h
    none_of u (places.Ended ys) h = absurd h
    none_of u places.Idle h = absurd h

    go : (ps : List (Place G)) → ((i : ℕ) (p : Place G) → slice_get ps i ≡ Some p → steps_at p ≡ 0) → steps_in ps ≡ 0
    go [] each = refl
    go (p ∷ ps) each = let rest = go ps (λ i. each (suc i)) in let first = each 0 p refl in omega (arith, rest, first)

pub mains_first : {G : Type 0} (s : Scene) (xs : List RunObject) (n : ℕ) (list : List Item) (others : List (Place G)) → AllWait s xs n others → AreMains list others
mains_first {G} s xs n list others wait i p at_p = go p (wait.each i p at_p)
  where
    go : (p : Place G) → Waits s xs (suc i) p → IsMains list (suc i) p
    go (places.Waiting w) h = tt
    go (places.Running thread) h = absurd h
    go (places.Ended ys) h = absurd h
    go places.Idle h = absurd h

pub none_runs_first : {G : Type 0} (s : Scene) (xs : List RunObject) (n : ℕ) (others : List (Place G)) → AllWait s xs n others → running_in others ≡ 0
none_runs_first {G} s xs n others wait = go others (λ i p at_p. none_of (suc i) p (wait.each i p at_p))
  where
    none_of : (u : ℕ) (p : Place G) → Waits s xs u p → running_at p ≡ 0
    none_of u (places.Waiting w) h = refl
    none_of u (places.Running thread) h = absurd h
    none_of u (places.Ended ys) h = absurd h
    none_of u places.Idle h = absurd h

    go : (ps : List (Place G)) → ((i : ℕ) (p : Place G) → slice_get ps i ≡ Some p → running_at p ≡ 0) → running_in ps ≡ 0
    go [] each = refl
    go (p ∷ ps) each = let rest = go ps (λ i. each (suc i)) in let first = each 0 p refl in omega (arith, rest, first)

-- ---- rows of accesses

pub first_row : {A : Type 0} (ys : List A) (y : A) → 0 < length ys → y ≡ get_or ys 0 y → slice_get ys 0 ≡ Some y
first_row ys y h e = read_at ys 0 y h e

pub after_first : {A : Type 0} (ys : List A) (i : ℕ) (y : A) → slice_get (remove ys 0) i ≡ Some y → slice_get ys (suc i) ≡ Some y
after_first [] i y h = h
after_first (x ∷ ys) i y h = h

-- the accesses of a thread other than main
pub row_new : (xs : List RunObject) (threads : ℕ) (rows rest : List (Vec Access)) (n i : ℕ) (ks : Vec Access) → AreAllNew xs threads rows → rest ≡ remove rows 0 → IsTurn rest n i ks → AreNew xs threads (suc n) 131072 0 ks.items
row_new xs threads rows rest n i ks new is turn = new.others (suc n) ks (omega arith) (after_first rows n ks (subst (λ (l : List (Vec Access)). slice_get l n ≡ Some ks) is turn.there))

-- are its own
pub row_accesses : (xs : List RunObject) (threads : ℕ) (rows rest : List (Vec Access)) (n i t : ℕ) (ks : Vec Access) → AreAllNew xs threads rows → rest ≡ remove rows 0 → IsTurn rest n i ks → t ≡ i + 1 → AreAccesses (objects_of ks.items) t ks.items
row_accesses xs threads rows rest n i t ks new is turn is_t =
    let number = turn.number in
    let same : t ≡ suc n = omega (arith, number, is_t) in
    let row = row_new xs threads rows rest n i ks new is turn in
    let is_xs = new_objects xs threads (suc n) 131072 0 ks.items row in
    rw (is_xs, same) (new_are_accesses xs threads (suc n) 131072 0 ks.items row)

-- and open as they are declared
pub row_made : (s : Scene) (xs : List RunObject) (threads : ℕ) (rows rest : List (Vec Access)) (n i : ℕ) (ks : Vec Access) → AreAllNew xs threads rows → rest ≡ remove rows 0 → IsTurn rest n i ks → AreMadeAs s.objects xs → AreMadeAs s.objects (objects_of ks.items)
row_made s xs threads rows rest n i ks new is turn made =
    let is_xs = new_objects xs threads (suc n) 131072 0 ks.items (row_new xs threads rows rest n i ks new is turn) in
    rw is_xs made

-- suffice for its text
pub row_enough : (s : Scene) (xs : List RunObject) (rows rest : List (Vec Access)) (n i t : ℕ) (ks : Vec Access) → IsAskable s → AreAllNew xs (length s.threads) rows → AreShared s rows → rest ≡ remove rows 0 → IsTurn rest n i ks → t ≡ i + 1 → AreEnough s t ks.items []
row_enough s xs rows rest n i t ks asks new shared is turn is_t =
    let number = turn.number in
    let same : suc n ≡ t = omega (arith, number, is_t) in
    let at_ks : slice_get rows (suc n) ≡ Some ks = after_first rows n ks (subst (λ (l : List (Vec Access)). slice_get l n ≡ Some ks) is turn.there) in
    subst (λ m. AreEnough s m ks.items []) same (new_are_enough s xs (length s.threads) (suc n) 0 ks.items refl (row_new xs (length s.threads) rows rest n i ks new is turn) (shares_suffice s rows (suc n) ks asks new.count shared at_ks))

pub main_enough : (s : Scene) (xs : List RunObject) (rows : List (Vec Access)) (ks : Vec Access) → IsAskable s → AreAllNew xs (length s.threads) rows → AreShared s rows → slice_get rows 0 ≡ Some ks → AreEnough s 0 ks.items []
main_enough s xs rows ks asks new shared at_ks = new_are_enough s xs (length s.threads) 0 (length s.threads - 1) ks.items refl (new.main ks at_ks) (shares_suffice s rows 0 ks asks new.count shared at_ks)

-- there are fewer than 64 of them
pub turn_below : (threads : ℕ) (rows : Vec (Vec Access)) (rest : List (Vec Access)) (n i : ℕ) (ks : Vec Access) → length rows.items ≡ threads → threads ≤ 64 → rest ≡ remove rows.items 0 → IsTurn rest n i ks → i < 64
turn_below threads rows rest n i ks count few is turn =
    let number = turn.number in
    let at_ks : slice_get rows.items (suc n) ≡ Some ks = after_first rows.items n ks (subst (λ (l : List (Vec Access)). slice_get l n ≡ Some ks) is turn.there) in
    let low = below rows.items (suc n) ks at_ks in
    omega (arith, number, low, count, few)

module _ {G : Type 0} where
  -- one more thread waits
  pub row_waits : (s : Scene) (xs : List RunObject) (threads : ℕ) (rows rest : List (Vec Access)) (n m i : ℕ) (ks : Vec Access) (shared : Objects) (t : ThreadNo) (w : Work G) (ps ps' : List (Place G)) → AreAllNew xs threads rows → rest ≡ remove rows 0 → IsTurn rest n i ks → scene_in shared ≡ s → t.0 ≡ i + 1 → Needs w → (w.objects ≡ shared) × (w.standing.thread ≡ t) × (w.standing.accesses ≡ ks) → AllWait s xs n ps → m ≡ n + 1 → ps' ≡ ps ++ places.Waiting w ∷ [] → AllWait s xs m ps'
  row_waits s xs threads rows rest n m i ks shared t w ps ps' new is turn is_s is_t needs parts wait more grown =
      let number = turn.number in
      let same : t.0 ≡ suc n = omega (arith, number, is_t) in
      rw (more, grown) (one_more_waits s xs n ps (places.Waiting w) wait (ready_of s xs threads 131072 0 n shared t ks w is_s same (row_new xs threads rows rest n i ks new is turn) needs parts))

  pub prepared : (s : Scene) (xs : List RunObject) (o : Objects) (main : Standing) (ps : Vec (Place G)) (rows : List (Vec Access)) (ks : Vec Access) (n : ℕ) → scene_in o ≡ s → IsRunNow s → AreMadeAs s.objects xs → AreAllNew xs (length s.threads) rows → slice_get rows 0 ≡ Some ks → IsAt s main → main.list.items ≡ [] → main.thread.0 ≡ 0 → main.accesses ≡ ks → AllWait s xs n ps.items → suc n ≡ length rows → IsRun xs (record { objects = o; main = main; others = ps })
  prepared s xs o main ps rows ks n is_s now made new at_0 at_ empty zero_ is_ks wait long =
      let fresh : AreNew xs (length s.threads) 0 131072 (length s.threads - 1) main.accesses.items = subst (λ (v : Vec Access). AreNew xs (length s.threads) 0 131072 (length s.threads - 1) v.items) (sym is_ks) (new.main ks at_0) in
      let many = wait.many in
      let rows_ = new.count in
      let split : length s.threads - 1 ≡ length ps.items = omega (arith, many, rows_, long) in
      let count : suc (length ps.items) ≡ length s.threads = omega (arith, many, rows_, long) in
      let wait' : AllWait s xs (length ps.items) ps.items = subst (λ m. AllWait s xs m ps.items) (sym many) wait in
      record {
        kept = record {
          made = rw is_s made;
          accesses = new_are_accesses xs (length s.threads) 0 131072 (length s.threads - 1) main.accesses.items fresh;
          thread = zero_;
          may_run = may_run_first s xs n ps.items wait;
        };
        runs_now = rw is_s now;
        at_ = rw is_s at_;
        goes = rw (is_s, empty) (goes_first s xs (length s.threads) 131072 (length s.threads - 1) main.accesses.items ps.items fresh split count wait');
      }
