-- A thread may be joined where it was started and not joined.
use Rattle.std.proofs.Common.{◌≡◌, ℕ, ◌+◌, ◌*◌, ◌≤◌, ◌==◌, ◌&&◌, ◌||◌, not, Bool, true, false, List, [], ◌∷◌, Option, Some, None, option_map, option_and_then, if◌then◌else◌, refl, sym, ap, ◌∙◌, subst, arith, eqb-true}
use Rattle.cx_names.specs.declared.ThreadNo.{ThreadNo}
use Rattle.cx_names.specs.declared.Reply.{Reply}
use Rattle.cx_machine.specs.Meaning.{bit}
use Rattle.cx_machine.specs.Words.{has, without}
use Rattle.cx_scene.specs.Scene.{Scene, body_of}
use Rattle.cx_items.specs.declared.item.Item.{Item}
use Rattle.cx_items.specs.declared.item.Item.TheVariants as items
use Rattle.cx_items.specs.declared.item.Control.{Control}
use Rattle.cx_items.specs.declared.item.Control.TheVariants as controls
use Rattle.cx_items.specs.declared.form.Form.{Form}
use Rattle.cx_items.specs.declared.form.Form.TheVariants.{Change, Look, Does, Says}
use Rattle.cx_items.specs.Form.{fits}
use Rattle.cx_items.specs.Memory.{Memory, remembering, is_joinable}
use Rattle.cx_items.specs.Next.{Local, Alternative, offered, or_then, reached, with_item, moved, after_item, is_due, local_at_start}
use Rattle.cx_history.specs.Follows.{starts, any_starts, after_items}
use Rattle.cx_fronts.specs.Growing.{joins, any_joins}
use Rattle.cx_asks.specs.Scenes.{startings, IsAskable}
use Rattle.cx_asks.specs.Spent.{starts_by}
use Rattle.cx_asks.proofs.Forms.{IsAlike, form_of_item}
use Rattle.cx_asks.proofs.Going.{MayJoinBy, IsStanding, AllStand, and_more, stand_offered, stands_moved}
use Rattle.cx_asks.proofs.Offering.{starts_body, stands_first}
use Rattle.cx_asks.proofs.Weighing.{calls_cost, cost, cost_first, spent_moved}
use Rattle.cx_asks.proofs.Starting.{starts_so_often, starts_measure, all_calls}

-- ---- who may be joined

has_gone : (v : ℕ) (js : List ℕ) → has (without js v) v ≡ false
has_gone v [] = refl
has_gone v (j ∷ js) = go (j == v) refl (has_gone v js)
  where
    go : (b : Bool) → (j == v) ≡ b → has (without js v) v ≡ false → has (without (j ∷ js) v) v ≡ false
    go true e rest = rw e rest
    go false e rest = rw (e, e) rest

has_other : (v u : ℕ) (js : List ℕ) → (v == u) ≡ false → has (without js v) u ≡ has js u
has_other v u [] h = refl
has_other v u (j ∷ js) h = go (j == v) refl (has_other v u js h)
  where
    go : (b : Bool) → (j == v) ≡ b → has (without js v) u ≡ has js u → has (without (j ∷ js) v) u ≡ ((j == u) || has js u)
    go true e rest =
        let apart : (j == u) ≡ false = subst (λ (n : ℕ). (n == u) ≡ false) (sym (eqb-true j v e)) h in
        rw (e, apart) rest
    go false e rest = rw e (ap (λ (b : Bool). (j == u) || b) rest)

-- whom the thread may join after the item
abbrev joinable_after : Item → List ℕ → List ℕ
joinable_after (items.Control (controls.Start v ok)) js = if ok then v.0 ∷ js else js
joinable_after (items.Control (controls.Join v)) js = without js v.0
joinable_after _ js = js

-- an item that the thread may make, where it may join these
abbrev MayMake : List ℕ → Item → Type 0
MayMake js (items.Control (controls.Join v)) = has js v.0 ≡ true
MayMake js (items.Control (controls.Launch v ok)) = ⊥
MayMake js _ = Unit {0}

may_make : (js : List ℕ) (f : Form) (x : Item) → MayJoinBy js f → IsAlike f x → MayMake js x
may_make js (Change o op a b w) (items.Change q p e) h k = tt
may_make js (Look o op a b w) (items.Look q l) h k = tt
may_make js (Does (controls.Start u ok)) (items.Control d) h k = subst (λ (c : Control). MayMake js (items.Control c)) k tt
may_make js (Does (controls.Join u)) (items.Control d) h k = subst (λ (c : Control). MayMake js (items.Control c)) k h
may_make js (Does (controls.Launch u ok)) (items.Control d) h k = absurd h
may_make js (Says r) (items.Said q) h k = tt
may_make js _ _ h k = absurd k

remembers_joinable : (s : Scene) (m : Memory) (x : Item) (js : List ℕ) → m.joinable ≡ js → MayMake js x → (remembering s m x).joinable ≡ joinable_after x js
remembers_joinable s m (items.Change q p e) js h k = h
remembers_joinable s m (items.Look q l) js h k = h
remembers_joinable s m (items.Said r) js h k = h
remembers_joinable s m (items.Control (controls.Start v true)) js h k = ap (λ (ns : List ℕ). v.0 ∷ ns) h
remembers_joinable s m (items.Control (controls.Start v false)) js h k = h
remembers_joinable s m (items.Control (controls.Join v)) js h k = ap (λ (ns : List ℕ). without ns v.0) h
remembers_joinable s m (items.Control (controls.Launch v ok)) js h k = absurd k

-- what an item makes of whom the thread may join
record Makes (s : Scene) (js : List ℕ) (x : Item) (m : Memory) : Type 0 where
  pub may : MayMake js x
  pub joinable : m.joinable ≡ joinable_after x js

makes_reached : (s : Scene) (t : ℕ) (js : List ℕ) (others : List Alternative) (x : Item) (k : Local) → AllStand s t js others → reached s others x ≡ Some k → Makes s js x (remembering s k.memory x)
makes_reached s t js [] x k h e = cc
makes_reached s t js (a ∷ others) x k (and_more a' rest fine h) e = go (fits s a.form x) refl e (λ w. makes_reached s t js others x k h w)
  where
    go : (o : Option Reply) → fits s a.form x ≡ o → or_then (option_map a.next o) (reached s others x) ≡ Some k → (reached s others x ≡ Some k → Makes s js x (remembering s k.memory x)) → Makes s js x (remembering s k.memory x)
    go None p w later = later w
    go (Some r) p w later =
        let same : a.next r ≡ k = cc in
        let f = form_of_item s a.form x r fine.plain p in
        let may = may_make js a.form x fine.joins_ f.alike in
        let stays : k.memory.joinable ≡ js = subst (λ (l : Local). l.memory.joinable ≡ js) same (fine.stays r) in
        record { may = may; joinable = remembers_joinable s k.memory x js stays may }

makes_moved : (s : Scene) (completing : Bool) (t : ℕ) (l k : Local) (x : Item) → IsAskable s → IsStanding s t l → moved s completing t l x ≡ Some k → Makes s l.memory.joinable x k.memory
makes_moved s completing t l k x a q h = go (reached s (offered s t l) x) refl h
  where
    go : (o : Option Local) → reached s (offered s t l) x ≡ o → option_map (with_item s completing x) o ≡ Some k → Makes s l.memory.joinable x k.memory
    go None p w = cc
    go (Some m) p w =
        let r = makes_reached s t l.memory.joinable (offered s t l) x m (stand_offered s t l l.agenda a q.memory q.agenda q.calls) p in
        let same : with_item s completing x m ≡ k = cc in
        subst (λ (y : Local). Makes s l.memory.joinable x y.memory) same r

-- ---- started and joined

-- thread u was started, or not, and joined, or not; so much is left of its starts
record Stands (u : ℕ) (js : List ℕ) (c : ℕ) (started joined : Bool) : Type 0 where
  pub joinable : has js u ≡ (started && not joined)
  pub order : joined ≡ true → started ≡ true
  pub left : c + bit started ≤ 1

or_none : (a : Bool) → (a || false) ≡ a
or_none true = refl
or_none false = refl

or_assoc : (a b c : Bool) → ((a || b) || c) ≡ (a || (b || c))
or_assoc true b c = refl
or_assoc false b c = refl

less_left : (c c' i b : ℕ) → c' + i ≤ c → c + b ≤ 1 → c' + b ≤ 1
less_left c c' i b h k = omega (arith, h, k)

-- an item that neither starts nor joins the thread
stays_so : (u : ℕ) (js js' : List ℕ) (c c' i : ℕ) (a b : Bool) → has js' u ≡ has js u → c' + i ≤ c → Stands u js c a b → Stands u js' c' (a || false) (b || false)
stays_so u js js' c c' i a b same less h =
    let k : Stands u js' c' a b = record { joinable = same ∙ h.joinable; order = h.order; left = less_left c c' i (bit a) less h.left } in
    subst (λ (y : Bool). Stands u js' c' y (b || false)) (sym (or_none a)) (subst (λ (y : Bool). Stands u js' c' a y) (sym (or_none b)) k)

is_started : (u : ℕ) (js : List ℕ) (c c' : ℕ) (v : ℕ) (a b : Bool) → (v == u) ≡ true → c' + 1 ≤ c → Stands u js c a b → Stands u (v ∷ js) c' (a || true) (b || false)
is_started u js c c' v true b e less h = absurd (let k = h.left in let no : ⊥ = omega (arith, k, less) in no)
is_started u js c c' v false true e less h = absurd (let no : false ≡ true = h.order refl in cc)
is_started u js c c' v false false e less h = record {
  joinable = rw e refl;
  order = λ k. cc;
  left = let k = h.left in omega (arith, k, less);
}

is_joined : (u : ℕ) (js : List ℕ) (c c' i : ℕ) (v : ℕ) (a b : Bool) → (v == u) ≡ true → has js v ≡ true → c' + i ≤ c → Stands u js c a b → Stands u (without js v) c' (a || false) (b || true)
is_joined u js c c' i v true b e may less h = record {
  joinable = subst (λ (n : ℕ). has (without js v) n ≡ not (b || true)) (eqb-true v u e) (has_gone v js ∙ sym (ap not (or_true b)));
  order = λ k. refl;
  left = less_left c c' i 1 less h.left;
}
  where
    or_true : (y : Bool) → (y || true) ≡ true
    or_true true = refl
    or_true false = refl
is_joined u js c c' i v false b e may less h = absurd (
    let there : has js u ≡ true = subst (λ (n : ℕ). has js n ≡ true) (eqb-true v u e) may in
    let no : true ≡ false = sym there ∙ h.joinable in
    cc)

one_stands : (u : ℕ) (js : List ℕ) (c c' : ℕ) (x : Item) (a b : Bool) → MayMake js x → c' + starts_by u x ≤ c → Stands u js c a b → Stands u (joinable_after x js) c' (a || starts u x) (b || joins u x)
one_stands u js c c' (items.Change q p e) a b may less h = stays_so u js js c c' 0 a b refl less h
one_stands u js c c' (items.Look q l) a b may less h = stays_so u js js c c' 0 a b refl less h
one_stands u js c c' (items.Said r) a b may less h = stays_so u js js c c' 0 a b refl less h
one_stands u js c c' (items.Control (controls.Launch v ok)) a b may less h = absurd may
one_stands u js c c' (items.Control (controls.Start v false)) a b may less h = stays_so u js js c c' 0 a b refl less h
one_stands u js c c' (items.Control (controls.Start v true)) a b may less h = go (v.0 == u) refl
  where
    go : (y : Bool) → (v.0 == u) ≡ y → Stands u (v.0 ∷ js) c' (a || (v.0 == u)) (b || false)
    go true e = let one : c' + 1 ≤ c = rw e at less in rw e (is_started u js c c' v.0 a b e one h)
    go false e = let none : c' + 0 ≤ c = rw e at less in rw e (stays_so u js (v.0 ∷ js) c c' 0 a b (rw e refl) none h)
one_stands u js c c' (items.Control (controls.Join v)) a b may less h = go (v.0 == u) refl
  where
    go : (y : Bool) → (v.0 == u) ≡ y → Stands u (without js v.0) c' (a || false) (b || (v.0 == u))
    go true e = rw e (is_joined u js c c' 0 v.0 a b e may less h)
    go false e = rw e (stays_so u js (without js v.0) c c' 0 a b (has_other v.0 u js e) less h)

-- ---- some items

all_stand : (s : Scene) (completes : ℕ → ℕ → Bool) (u : ℕ) (l k : Local) (xs : List Item) (a b : Bool) → IsAskable s → IsStanding s 0 l → Stands u l.memory.joinable (cost (starts_so_often u) l) a b → after_items s completes 0 l xs ≡ Some k → Stands u k.memory.joinable (cost (starts_so_often u) k) (a || any_starts u xs) (b || any_joins u xs)
all_stand s completes u l k [] a b ask q h e =
    let same : l ≡ k = cc in
    let here : Stands u l.memory.joinable (cost (starts_so_often u) l) (a || false) (b || false) = stays_so u l.memory.joinable l.memory.joinable (cost (starts_so_often u) l) (cost (starts_so_often u) l) 0 a b refl (omega arith) h in
    subst (λ (y : Local). Stands u y.memory.joinable (cost (starts_so_often u) y) (a || false) (b || false)) same here
all_stand s completes u l k (x ∷ xs) a b ask q h e = go (after_item s completes 0 l x) refl e (λ m one rest. then_ m one rest (λ hm. all_stand s completes u m k xs (a || starts u x) (b || joins u x) ask (stands_moved s (is_due completes x) 0 l m x ask q one) hm rest))
  where
    then_ : (m : Local) → after_item s completes 0 l x ≡ Some m → after_items s completes 0 m xs ≡ Some k → (Stands u m.memory.joinable (cost (starts_so_often u) m) (a || starts u x) (b || joins u x) → Stands u k.memory.joinable (cost (starts_so_often u) k) ((a || starts u x) || any_starts u xs) ((b || joins u x) || any_joins u xs)) → Stands u k.memory.joinable (cost (starts_so_often u) k) (a || any_starts u (x ∷ xs)) (b || any_joins u (x ∷ xs))
    then_ m one rest later =
        let made = makes_moved s (is_due completes x) 0 l m x ask q one in
        let less = spent_moved (starts_so_often u) s (starts_measure u s ask) (is_due completes x) 0 l m x ask q one in
        let now : Stands u (joinable_after x l.memory.joinable) (cost (starts_so_often u) m) (a || starts u x) (b || joins u x) = one_stands u l.memory.joinable (cost (starts_so_often u) l) (cost (starts_so_often u) m) x a b made.may less h in
        let here : Stands u m.memory.joinable (cost (starts_so_often u) m) (a || starts u x) (b || joins u x) = subst (λ (js : List ℕ). Stands u js (cost (starts_so_often u) m) (a || starts u x) (b || joins u x)) (sym made.joinable) now in
        let whole = later here in
        subst (λ (y : Bool). Stands u k.memory.joinable (cost (starts_so_often u) k) y (b || any_joins u (x ∷ xs))) (or_assoc a (starts u x) (any_starts u xs))
        (subst (λ (y : Bool). Stands u k.memory.joinable (cost (starts_so_often u) k) ((a || starts u x) || any_starts u xs) y) (or_assoc b (joins u x) (any_joins u xs)) whole)

    go : (o : Option Local) → after_item s completes 0 l x ≡ o → option_and_then (λ m. after_items s completes 0 m xs) o ≡ Some k → ((m : Local) → after_item s completes 0 l x ≡ Some m → after_items s completes 0 m xs ≡ Some k → Stands u k.memory.joinable (cost (starts_so_often u) k) (a || any_starts u (x ∷ xs)) (b || any_joins u (x ∷ xs))) → Stands u k.memory.joinable (cost (starts_so_often u) k) (a || any_starts u (x ∷ xs)) (b || any_joins u (x ∷ xs))
    go None is w later = cc
    go (Some m) is w later = later m is w

first_left : (c cs st : ℕ) → c ≤ 0 + (0 * 16384 + cs) → cs ≡ st → st ≤ 1 → c + 0 ≤ 1
first_left c cs st h e k = omega (arith, h, e, k)

-- whom main may join: each thread that it has started and not joined
pub joinable_is : (s : Scene) (completes : ℕ → ℕ → Bool) (xs : List Item) (l : Local) (u : ThreadNo) → IsAskable s → after_items s completes 0 (local_at_start s 0) xs ≡ Some l → is_joinable l.memory u ≡ (any_starts u.0 xs && not (any_joins u.0 xs))
joinable_is s completes xs l u a h =
    let first = cost_first (starts_so_often u.0) s (starts_measure u.0 s a) 0 a in
    let start : Stands u.0 (local_at_start s 0).memory.joinable (cost (starts_so_often u.0) (local_at_start s 0)) false false = record {
      joinable = no_one;
      order = λ k. cc;
      left = first_left (cost (starts_so_often u.0) (local_at_start s 0)) (calls_cost (starts_so_often u.0) (body_of s 0)) (startings u.0 (body_of s 0)) first (all_calls u.0 (body_of s 0)) (a.started u.0);
    } in
    let r = all_stand s completes u.0 (local_at_start s 0) l xs false false a (stands_first s 0 a) start h in
    r.joinable
  where
    no_one : has (local_at_start s 0).memory.joinable u.0 ≡ false
    no_one = rw (starts_body s 0 a) refl
