-- Promises compose, and a call's contract is one.
use Rattle.std.proofs.Common.{◌≡◌, ℕ, ◌==◌, ◌≤◌, Bool, true, false, List, [], ◌∷◌, ◌++◌, length, slice_get, Some, arith, refl, subst, eqb-true, if◌then◌else◌}
use Rattle.cx_names.specs.declared.ObjectNo.{ObjectNo}
use Rattle.cx_names.specs.declared.Reply.{Reply}
use Rattle.cx_machine.specs.declared.kind.Entry.{Entry}
use Rattle.cx_machine.specs.declared.kind.Look.{Look}
use Rattle.cx_scene.specs.Scene.{Scene}
use Rattle.cx_items.specs.declared.item.Item.{Item}
use Rattle.cx_items.specs.declared.item.Item.TheVariants as items
use Rattle.cx_fronts.specs.Paths.{Fronts, Path, Goes, put, shown_in}
use Rattle.cx_fronts.specs.Logs.{Act, Made, Saw, log_items, FitsFrom}
use Rattle.cx_fronts.specs.Promises.{PromisesOne, Promised, Ensured, EachShows}
use Rattle.cx_fronts.proofs.Lists.{get-below}
use Rattle.cx_fronts.proofs.Heart.{stays}
use Rattle.cx_fronts.proofs.Grown.{paths_compose, one_more, reply_goes}
use Rattle.cx_fronts.proofs.Logged.{one_call_more}

pub promises_compose : (s : Scene) (t : ℕ) (A B C : Fronts → Type 0) (xs ys : List Item) → Promised s t A xs B → Promised s t B ys C → Promised s t A (xs ++ ys) C
promises_compose s t A B C xs ys p q f a =
    let b = p f a in
    let c = q b.0 b.1 in
    (c.0, c.1, λ first last. paths_compose s first last t f b.0 c.0 xs ys (b.2 first last) (c.2 first last))

pub call_is_promised : (s : Scene) (t : ℕ) (q : ObjectNo) (acts : List Act) (P Q : ℕ → List Entry → Type 0) → Ensured s t q (P q.0) acts (Q q.0) → ((o : ℕ) → (q.0 == o) ≡ false → (F : List Entry) → P o F → Q o F) → Promised s t (EachShows P) (log_items q acts) (EachShows Q)
call_is_promised s t q acts P Q ensured kept f shows =
    let c = ensured (f q.0) (shows q.0) in
    (put f q.0 c.0, λ o. go c.0 c.1 o (q.0 == o) refl, λ first last. one_call_more s first last t f f [] q c.0 acts (stays t f) c.2 c.3 c.4)
  where
    go : (H : List Entry) → Q q.0 H → (o : ℕ) (b : Bool) → (q.0 == o) ≡ b → Q o (if b then H else f o)
    go H h o true k = subst (λ n. Q n H) (eqb-true q.0 o k) h
    go H h o false k = kept o k (f o) (shows o)

pub reply_is_promised : (s : Scene) (t : ℕ) (A : Fronts → Type 0) (w : Reply) → Promised s t A (items.Said w ∷ []) A
reply_is_promised s t A w f a = (f, a, λ first last. one_more s first last t f f f [] (items.Said w) (stays t f) (reply_goes s first last t f w))

-- what a call that makes one change, or one look, ensures
pub fits_change : (s : Scene) (t : ℕ) (q : ObjectNo) (F H : List Entry) (n : ℕ) (e : Entry) → length F ≤ n → slice_get H n ≡ Some e → FitsFrom s t q H (length F) (Made n e ∷ [])
fits_change s t q F H n e low there = (low, there, omega (arith, get-below H n e there))

pub fits_look : (s : Scene) (t : ℕ) (q : ObjectNo) (F H : List Entry) (l : Look) → l.by.0 ≡ t → length F ≤ l.at → l.at ≤ length H → shown_in s H q l ≡ true → FitsFrom s t q H (length F) (Saw l ∷ [])
fits_look s t q F H l own low high shows = (own, low, shows, high)

-- one item is a list of one
pub one_is_promised : (s : Scene) (t : ℕ) (A B : Fronts → Type 0) (x : Item) → PromisesOne s t A x B → Promised s t A (x ∷ []) B
one_is_promised s t A B x p f a = let b = p f a in (b.0, b.1, λ first last. one_more s first last t f f b.0 [] x (stays t f) (b.2 first last))
