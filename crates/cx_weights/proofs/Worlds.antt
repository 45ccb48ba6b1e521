-- Each item that a thread makes leaves less to be done by all.
use Rattle.std.proofs.Common.{◌≡◌, ℕ, zero, suc, ◌+◌, ◌≤◌, Bool, true, List, [], ◌∷◌, slice_get, slice_set, Some, refl, ap, subst, arith}
use Rattle.cx_machine.specs.Machine.{State}
use Rattle.cx_scene.specs.Scene.{Scene}
use Rattle.cx_items.specs.declared.item.Item.{Item}
use Rattle.cx_items.specs.Next.{Local, moved}
use Rattle.cx_weights.specs.Weights.{pays, earns, paid_by, earned_by, weight, IsSized, is_true_item}
use Rattle.cx_weights.specs.World.{reserve, is_asked, asked_in, reserves, Moves, changed, looked, controlled, said, weights, total, AllSized}
use Rattle.cx_weights.specs.Laws.{Lessens}
use Rattle.cx_weights.proofs.Items.{both_lighter, each_item_weighs, requested_is_lighter}
use Rattle.cx_weights.proofs.Machines.{each_change_settles, each_look_is_true}

-- ---- sums, where one of the summands is another

pub set_first : (a b w x : ℕ) → x ≡ a → (b + w) + a ≡ (x + w) + b
set_first a b w x h = omega arith

pub set_later : (a b v w x : ℕ) → v + a ≡ w + b → (x + v) + a ≡ (x + w) + b
set_later a b v w x h = omega arith

weights_set : (s : Scene) (asked : ℕ → Bool) (ls : List Local) (t : ℕ) (l k : Local) → slice_get ls t ≡ Some l → weights s asked (slice_set ls t k) + weight s asked l ≡ weights s asked ls + weight s asked k
weights_set s asked [] t l k e = cc
weights_set s asked (x ∷ xs) zero l k e = let same : x ≡ l = cc in set_first (weight s asked l) (weight s asked k) (weights s asked xs) (weight s asked x) (ap (λ v. weight s asked v) same)
weights_set s asked (x ∷ xs) (suc t) l k e = set_later (weight s asked l) (weight s asked k) (weights s asked (slice_set xs t k)) (weights s asked xs) (weight s asked x) (weights_set s asked xs t l k e)

reserves_set : (xs : List State) (o : ℕ) (x next : State) → slice_get xs o ≡ Some x → reserves (slice_set xs o next) + reserve x ≡ reserves xs + reserve next
reserves_set [] o x next e = cc
reserves_set (y ∷ ys) zero x next e = let same : y ≡ x = cc in set_first (reserve x) (reserve next) (reserves ys) (reserve y) (ap reserve same)
reserves_set (y ∷ ys) (suc o) x next e = set_later (reserve x) (reserve next) (reserves (slice_set ys o next)) (reserves ys) (reserve y) (reserves_set ys o x next e)

weights_lighter : (s : Scene) (asked asked' : ℕ → Bool) (ls : List Local) → ((o : ℕ) → asked o ≡ true → asked' o ≡ true) → weights s asked' ls ≤ weights s asked ls
weights_lighter s asked asked' [] h = omega arith
weights_lighter s asked asked' (l ∷ ls) h = both_lighter (weight s asked' l) (weight s asked l) (weights s asked' ls) (weights s asked ls) (requested_is_lighter s asked asked' l h) (weights_lighter s asked asked' ls h)

-- ---- what is requested stays so

asked_stays : (xs : List State) (o : ℕ) (x next : State) → slice_get xs o ≡ Some x → (is_asked x ≡ true → is_asked next ≡ true) → (p : ℕ) → asked_in xs p ≡ true → asked_in (slice_set xs o next) p ≡ true
asked_stays [] o x next e stays p h = cc
asked_stays (y ∷ ys) zero x next e stays zero h = let same : y ≡ x = cc in stays (subst (λ v. is_asked v ≡ true) same h)
asked_stays (y ∷ ys) zero x next e stays (suc p) h = h
asked_stays (y ∷ ys) (suc o) x next e stays zero h = h
asked_stays (y ∷ ys) (suc o) x next e stays (suc p) h = asked_stays ys o x next e stays p h

moves_truly : (states next : List State) (x : Item) → Moves states x next → is_true_item (asked_in states) x ≡ true
moves_truly states next x (changed o p e y z there enabled) = refl
moves_truly states next x (looked o l y there shown) = rw there (each_look_is_true y l shown)
moves_truly states next x (controlled c) = refl
moves_truly states next x (said r) = refl

-- ---- sized agendas

sized_set : (ls : List Local) (t : ℕ) (k : Local) → AllSized ls → IsSized k → AllSized (slice_set ls t k)
sized_set [] t k all h u l e = cc
sized_set (x ∷ xs) zero k all h zero l e = let same : k ≡ l = cc in subst IsSized same h
sized_set (x ∷ xs) zero k all h (suc u) l e = all (suc u) l e
sized_set (x ∷ xs) (suc t) k all h zero l e = all zero l e
sized_set (x ∷ xs) (suc t) k all h (suc u) l e = sized_set xs t k (λ v m q. all (suc v) m q) h u l e

-- ---- one step

after_change : (r r' w w' v wl wk rx rn pay earn : ℕ) → r' + rx ≡ r + rn → w' + wl ≡ w + wk → wk + (1 + pay) ≤ wl + earn → rn + earn ≤ rx + pay → v ≤ w' → (r' + v) + 1 ≤ r + w
after_change r r' w w' v wl wk rx rn pay earn a b c d e = omega arith

after_other : (r w w' wl wk : ℕ) → w' + wl ≡ w + wk → wk + (1 + 0) ≤ wl + 0 → (r + w') + 1 ≤ r + w
after_other r w w' wl wk b c = omega arith

lessens : (s : Scene) (states next : List State) (ls : List Local) (t : ℕ) (l k : Local) (x : Item) → slice_get ls t ≡ Some l → Moves states x next → weight s (asked_in states) k + (1 + paid_by x) ≤ weight s (asked_in states) l + earned_by x → total s next (slice_set ls t k) + 1 ≤ total s states ls
lessens s states next ls t l k x at_ (changed o p e y z there enabled) h =
    let asked = asked_in states in
    let settles = each_change_settles y z e enabled in
    let after = slice_set ls t k in
    after_change (reserves states) (reserves (slice_set states o.0 z)) (weights s asked ls) (weights s asked after) (weights s (asked_in (slice_set states o.0 z)) after) (weight s asked l) (weight s asked k) (reserve y) (reserve z) (pays e.op) (earns e.op)
    (reserves_set states o.0 y z there) (weights_set s asked ls t l k at_) h settles.reserved (weights_lighter s asked (asked_in (slice_set states o.0 z)) after (asked_stays states o.0 y z there settles.stays))
lessens s states next ls t l k x at_ (looked o i y there shown) h = after_other (reserves states) (weights s (asked_in states) ls) (weights s (asked_in states) (slice_set ls t k)) (weight s (asked_in states) l) (weight s (asked_in states) k) (weights_set s (asked_in states) ls t l k at_) h
lessens s states next ls t l k x at_ (controlled c) h = after_other (reserves states) (weights s (asked_in states) ls) (weights s (asked_in states) (slice_set ls t k)) (weight s (asked_in states) l) (weight s (asked_in states) k) (weights_set s (asked_in states) ls t l k at_) h
lessens s states next ls t l k x at_ (said r) h = after_other (reserves states) (weights s (asked_in states) ls) (weights s (asked_in states) (slice_set ls t k)) (weight s (asked_in states) l) (weight s (asked_in states) k) (weights_set s (asked_in states) ls t l k at_) h

pub each_step_weighs : (s : Scene) (states next : List State) (ls : List Local) (completing : Bool) (t : ℕ) (l k : Local) (x : Item) → AllSized ls → slice_get ls t ≡ Some l → Moves states x next → moved s completing t l x ≡ Some k → Lessens s states next ls t k
each_step_weighs s states next ls completing t l k x all at_ moves m =
    let falls = each_item_weighs s (asked_in states) completing t l k x (all t l at_) (moves_truly states next x moves) m in
    record { less = lessens s states next ls t l k x at_ moves falls.less; sized = sized_set ls t k all falls.sized }
