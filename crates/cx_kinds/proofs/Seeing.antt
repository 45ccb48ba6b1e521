-- What a token has seen, and what a call makes of it, in the words of all kinds.
use Rattle.std.proofs.Common.{◌≡◌, ◌⊎◌, ◌≤◌, ◌-◌, min, IsSome, ℕ, Bool, true, false, List, length, nat_le, if◌then◌else◌, Option, Some, None, refl, sym, ap, ◌∙◌, subst, arith}
use Rattle.cx_names.specs.declared.ObjectNo.{ObjectNo}
use Rattle.cx_names.specs.declared.ThreadNo.{ThreadNo}
use Rattle.cx_machine.specs.declared.machine.Meaning.{Ghosts}
use Rattle.cx_machine.specs.Machine as all
use Rattle.cx_machine.specs.Meaning.{run}
use Rattle.cx_turn.specs.declared.view.View.{View}
use Rattle.cx_turn.specs.Views.{split_left, split_right, less_share, given, both_of, having_met, longer}
use Rattle.cx_turn.specs.declared.either.Either.{Either}
use Rattle.cx_turn.specs.declared.either.Either.TheVariants as eithers
use Rattle.cx_items.specs.declared.item.Item.{Item}
use Rattle.cx_items.specs.declared.kept.Kept.{Kept}
use Rattle.cx_asks.specs.declared.ask.Ask.{Ask}
use Rattle.cx_kinds.specs.AnyKind.{IsKindOf, erase}
use Rattle.cx_kinds.specs.Acts.{DoesAsk, IsKept, IsItemOf, CanSplit, StepsIf, IsKeptBy}
use Rattle.cx_kinds.specs.Holding.{owes_completion}
use Rattle.cx_kinds.specs.Seats.{IsRight, SeesSo}
use Rattle.cx_kinds.specs.Sights.{IsOfSame, IsSplitOff}
use Rattle.cx_kinds.proofs.AsAny.{leads_as, known_as, steps_as}

module _ {M X K : Type 0} (G : Ghosts M) (knows : X → K → View M → Type 0) (number : K → ThreadNo) (share : K → ℕ) (start : X → M) (f : M → all.State) (kind : IsKindOf G f) (right : (x : X) (k : K) (v : View M) → knows x k v → IsRight G knows number share start x k v) where
  abbrev Saw : X → K → View all.State → Type 0
  Saw x k V = SeesSo knows share start f x k V

  -- what a token of an object knows has been seen through it
  pub seen : (x : X) (k : K) (v : View M) → knows x k v → Saw x k (erase f v)
  seen x k v h =
      let r = right x k v h in
      record {
        saw_it = (v, h, refl);
        only = λ W s. s.2 ∙ ap (erase f) (r.only s.0 s.1);
        started = ap f r.started;
        shared = r.shared;
        counts = r.counts;
        known = known_as G f kind v r.known;
      }

  seen_as : (x : X) (k : K) (v : View M) (V : View all.State) → V ≡ erase f v → knows x k v → Saw x k V
  seen_as x k v V e h = subst (λ (U : View all.State). Saw x k U) (sym e) (seen x k v h)

  pub moved : (x y : X) → x ≡ y → (k : K) (V : View all.State) → Saw x k V → Saw y k V
  moved x y e k V a = subst (λ (z : X). Saw z k V) e a

  -- the same object, as the call has it
  module _ (x y : X) (e : y ≡ x) where
    here : (k : K) (v : View M) → knows x k v → knows y k v
    here k v a = subst (λ (z : X). knows z k v) (sym e) a

    back : (k : K) (v : View M) → knows y k v → knows x k v
    back k v a = subst (λ (z : X). knows z k v) e a

    at_ : (k : K) (V : View all.State) → Saw x k V → (v : View M) × knows y k v × (V ≡ erase f v)
    at_ k V s = let a = s.saw_it in (a.0, here k a.0 a.1, a.2)

    pub one : (k : K) → ((V : View all.State) × Saw x k V) → (v : View M) × knows y k v
    one k s = let a = at_ k s.0 s.1 in (a.0, a.1)

    own : (k : K) (v : View M) → knows y k v → (number k).0 ≡ v.number
    own k v a = let r = right y k v a in sym r.numbered

    -- ---- acts

    pub acted : (k k' : K) (o : ObjectNo) (n : ThreadNo) (ask : Ask) (r : Option Either) (done : Either) (i : Option Item) → n ≡ number k → r ≡ Some done → ((v : View M) → knows y k v → (w : View M) × knows y k' w × DoesAsk G (number k) ask v w r) → IsItemOf o n ask done i → (V : View all.State) → Saw x k V → (W : View all.State) × Saw x k' W × StepsIf o ask V W i
    acted k k' o n ask r done i same is did item V s =
        let a = at_ k V s in
        let d = did a.0 a.1 in
        let does = subst (λ (q : Option Either). DoesAsk G (number k) ask a.0 d.0 q) is d.2 in
        let made = subst (λ (b : ThreadNo). IsItemOf o b ask done i) same item in (
          erase f d.0,
          seen x k' d.0 (back k' d.0 d.1),
          subst (λ (U : View all.State). StepsIf o ask U (erase f d.0) i) (sym a.2) (steps_as G f kind o (number k) ask a.0 d.0 done i (own k a.0 a.1) does made),
        )

    pub refused : (k k' : K) (o : ObjectNo) (by : ThreadNo) (ask : Ask) (r : Option Either) (i : Option Item) → r ≡ None → i ≡ None → ((v : View M) → knows y k v → (w : View M) × knows y k' w × DoesAsk G by ask v w r) → (V : View all.State) → Saw x k V → (W : View all.State) × Saw x k' W × StepsIf o ask V W i
    refused k k' o by ask r i is none did V s =
        let a = at_ k V s in
        let d = did a.0 a.1 in
        let does : d.0 ≡ a.0 = subst (λ (q : Option Either). DoesAsk G by ask a.0 d.0 q) is d.2 in (
          erase f d.0,
          seen x k' d.0 (back k' d.0 d.1),
          subst (λ (j : Option Item). StepsIf o ask V (erase f d.0) j) (sym none) (ap (erase f) does ∙ sym a.2),
        )

    -- the item of what was done is there, with the word of the ask
    made_item : (o : ObjectNo) (n by : ThreadNo) (ask : Ask) (v w : View M) (done : Either) (i : Option Item) (h h' : Kept) → DoesAsk G by ask v w (Some done) → IsItemOf o n ask done i → IsKept ask h (Some done) h' → IsKeptBy h i h'
    made_item o n by ask v w (eithers.Made r p) i h h' does is kept = subst (λ (j : Option Item). IsKeptBy h j h') (sym (is does.0 does.1)) (kept does.0 does.1)
    made_item o n by ask v w (eithers.Seen r p) i h h' does is kept = subst (λ (j : Option Item). IsKeptBy h j h') (sym (is does.0 does.1)) kept

    some_item : (o : ObjectNo) (n by : ThreadNo) (ask : Ask) (v w : View M) (done : Either) (i : Option Item) → DoesAsk G by ask v w (Some done) → IsItemOf o n ask done i → IsSome i
    some_item o n by ask v w (eithers.Made r p) i does is = subst (λ (j : Option Item). IsSome j) (sym (is does.0 does.1)) refl
    some_item o n by ask v w (eithers.Seen r p) i does is = subst (λ (j : Option Item). IsSome j) (sym (is does.0 does.1)) refl

    pub kept_on : (k k' : K) (o : ObjectNo) (n by : ThreadNo) (ask : Ask) (r : Option Either) (done : Either) (i : Option Item) (h h' : Kept) → r ≡ Some done → ((v : View M) → knows y k v → (w : View M) × knows y k' w × DoesAsk G by ask v w r) → IsItemOf o n ask done i → IsKept ask h r h' → ((v : View M) × knows y k v) → IsKeptBy h i h'
    kept_on k k' o n by ask r done i h h' is did item kept s =
        let d = did s.0 s.1 in
        made_item o n by ask s.0 d.0 done i h h' (subst (λ (q : Option Either). DoesAsk G by ask s.0 d.0 q) is d.2) item (subst (λ (q : Option Either). IsKept ask h q h') is kept)

    pub served_on : (k k' : K) (o : ObjectNo) (n by : ThreadNo) (ask : Ask) (r : Option Either) (done : Either) (i : Option Item) → r ≡ Some done → ((v : View M) → knows y k v → (w : View M) × knows y k' w × DoesAsk G by ask v w r) → IsItemOf o n ask done i → (V : View all.State) → Saw x k V → IsSome i
    served_on k k' o n by ask r done i is did item V s =
        let a = at_ k V s in
        let d = did a.0 a.1 in
        some_item o n by ask a.0 d.0 done i (subst (λ (q : Option Either). DoesAsk G by ask a.0 d.0 q) is d.2) item

    pub served_off : (k : K) (r : Option Either) (i : Option Item) (serves : ℕ → Type 0) → r ≡ None → ((v : View M) → knows y k v → 1 ≤ v.left → serves v.share → IsSome r) → (V : View all.State) → Saw x k V → 1 ≤ V.left → serves V.share → IsSome i
    served_off k r i serves is served V s left may =
        let a = at_ k V s in
        let one_left = subst (λ (U : View all.State). 1 ≤ U.left) a.2 left in
        let able = subst (λ (U : View all.State). serves U.share) a.2 may in
        let no : false ≡ true = subst (λ (q : Option Either). IsSome q) is (served a.0 a.1 one_left able) in
        cc

    -- ---- meeting, joining, giving up

    pub joined : (k j k' : K) → ((v w : View M) → knows y k v → knows y j w → knows y k' (both_of v w)) → (V W : View all.State) → Saw x k V → Saw x j W → Saw x k' (both_of V W)
    joined k j k' goes V W s t =
        let a = at_ k V s in
        let b = at_ j W t in
        seen_as x k' (both_of a.0 b.0) (both_of V W) (ap (λ U. both_of U W) a.2 ∙ ap (λ U. both_of (erase f a.0) U) b.2) (back k' (both_of a.0 b.0) (goes a.0 b.0 a.1 b.1))

    pub met : (k j j' : K) → ((v w : View M) → knows y k v → knows y j w → knows y j' (having_met w v)) → (V W : View all.State) → Saw x k V → Saw x j W → Saw x j' (having_met W V)
    met k j j' goes V W s t =
        let a = at_ k V s in
        let b = at_ j W t in
        seen_as x j' (having_met b.0 a.0) (having_met W V) (ap (λ U. having_met W U) a.2 ∙ ap (λ U. having_met U (erase f a.0)) b.2) (back j' (having_met b.0 a.0) (goes a.0 b.0 a.1 b.1))

    pub completing : (k : K) (b : Bool) → ((v : View M) (m : M) → knows y k v → run G.step (Some v.start) v.front ≡ Some m → b ≡ owes_completion v.number (Some (f m))) → (V : View all.State) → Saw x k V → b ≡ owes_completion V.number (run all.step (Some V.start) V.front)
    completing k b told V s =
        let a = at_ k V s in
        let r = right y k a.0 a.1 in
        let legal = r.known.legal in
        let leads = leads_as G f kind a.0.front a.0.start legal.0 legal.1 in
        told a.0 legal.0 a.1 legal.1 ∙ (ap (owes_completion a.0.number) (sym leads) ∙ sym (ap (λ (U : View all.State). owes_completion U.number (run all.step (Some U.start) U.front)) a.2))

    pub stays : (k k' : K) → ((v : View M) → knows y k v → knows y k' v) → (V : View all.State) → Saw x k V → Saw x k' V
    stays k k' goes V s = let a = at_ k V s in seen_as x k' a.0 V a.2 (back k' a.0 (goes a.0 a.1))

    pub kept_up : (k k' : K) → ((v : View M) → knows y k v → (w : View M) × knows y k' w × IsOfSame v w) → (V : View all.State) → Saw x k V → (W : View all.State) × Saw x k' W × IsOfSame V W
    kept_up k k' goes V s =
        let a = at_ k V s in
        let r = goes a.0 a.1 in
        let is = r.2 in (
          erase f r.0,
          seen x k' r.0 (back k' r.0 r.1),
          subst (λ (U : View all.State). IsOfSame U (erase f r.0)) (sym a.2) (record { number = is.number; seats = is.seats; start = ap f is.start; splits = is.splits }),
        )

    -- what is so where so many changes are left
    pub where_left : (k : K) (n : ℕ) (P : Type 0) → ((v : View M) → knows y k v → n ≤ v.left → P) → (V : View all.State) → Saw x k V → n ≤ V.left → P
    where_left k n P is V s enough =
        let a = at_ k V s in
        is a.0 a.1 (subst (λ (U : View all.State). n ≤ U.left) a.2 enough)

    -- what is so unless no change is left
    pub unless_out : (k : K) (P : Type 0) → ((w : View M) → knows y k w → P ⊎ (w.left ≡ 0)) → (W : View all.State) → Saw x k W → P ⊎ (W.left ≡ 0)
    unless_out k P is W s =
        let a = at_ k W s in
        subst (λ (U : View all.State). P ⊎ (U.left ≡ 0)) (sym a.2) (is a.0 a.1)

    -- ---- splitting

    pub may_split : (k : K) (calls : ℕ) → ((V : View all.State) → Saw x k V → CanSplit V calls) → (v : View M) → knows y k v → CanSplit v calls
    may_split k calls room v a =
        let r = room (erase f v) (seen x k v (back k v a)) in
        record { first = r.first; room = r.room; may = r.may }

    -- nothing of a share of nothing was given away
    none_less : (v : View M) (calls most : ℕ) → v.share ≡ 0 → split_left v calls ≡ less_share (split_left v calls) (min most v.share)
    none_less v calls most none =
        let same : v.share ≡ v.share - min most v.share = omega (arith, none) in
        λ i. record (split_left v calls) { share = same i }

    no_share : ((m : M) → G.pool m ≡ 0) → (k : K) (v : View M) → knows y k v → v.share ≡ 0
    no_share whole k v a =
        let r = right y k v a in
        let now = r.known.present.3 in
        let part = now.share in
        let pool = whole r.known.present.1 in
        omega (arith, part, pool)

    pub left_of : ((m : M) → G.pool m ≡ 0) → (k k' : K) (calls most : ℕ) → ((v : View M) → knows y k v → knows y k' (split_left v calls)) → (V : View all.State) → Saw x k V → Saw x k' (less_share (split_left V calls) (min most V.share))
    left_of whole k k' calls most goes V s =
        let a = at_ k V s in
        let same = none_less a.0 calls most (no_share whole k a.0 a.1) in
        seen_as x k' (less_share (split_left a.0 calls) (min most a.0.share)) (less_share (split_left V calls) (min most V.share)) (ap (λ (U : View all.State). less_share (split_left U calls) (min most U.share)) a.2) (subst (λ (w : View M). knows x k' w) same (back k' (split_left a.0 calls) (goes a.0 a.1)))

    pub right_of : ((m : M) → G.pool m ≡ 0) → (k j : K) (calls most : ℕ) → ((v : View M) → knows y k v → knows y j (split_right v calls)) → (V : View all.State) → Saw x k V → (U : View all.State) × Saw x j U × IsSplitOff calls (min most V.share) V U
    right_of whole k j calls most goes V s =
        let a = at_ k V s in
        let none = no_share whole k a.0 a.1 in (
          erase f (split_right a.0 calls),
          seen x j (split_right a.0 calls) (back j (split_right a.0 calls) (goes a.0 a.1)),
          subst (λ (U : View all.State). IsSplitOff calls (min most U.share) U (erase f (split_right a.0 calls))) (sym a.2) (record { number = refl; seats = refl; start = refl; front = refl; mine = refl; looks = refl; taken = refl; holds = refl; left = refl; share = omega (arith, none); splits = refl }),
        )

    longer_self : {A : Type 0} (xs : List A) → longer xs xs ≡ xs
    longer_self xs = elim (nat_le (length xs) (length xs)) as (λ b. (if b then xs else xs) ≡ xs) [ true ↦ refl | false ↦ refl ]

    -- the same object, as the call has it that moves the share
    module _ (z : X) (d : z ≡ x) where
      there : (k : K) (v : View M) → knows y k v → knows z k v
      there k v a = subst (λ (u : X). knows u k v) (sym d) (back k v a)

      from_there : (k : K) (v : View M) → knows z k v → knows x k v
      from_there k v a = subst (λ (u : X). knows u k v) d a

      pub first_of : (k j : K) (calls : ℕ) → ((v : View M) → knows y k v → knows y j (split_left v calls)) → ((V : View all.State) × Saw x k V) → (v : View M) × knows z j v
      first_of k j calls goes s = let a = at_ k s.0 s.1 in (split_left a.0 calls, there j (split_left a.0 calls) (goes a.0 a.1))

      pub second_of : (k j : K) (calls : ℕ) → ((v : View M) → knows y k v → knows y j (split_right v calls)) → ((V : View all.State) × Saw x k V) → (v : View M) × knows z j v
      second_of k j calls goes s = let a = at_ k s.0 s.1 in (split_right a.0 calls, there j (split_right a.0 calls) (goes a.0 a.1))

      part : (j : K) (w : View M) (most n : ℕ) → knows y j w → n ≡ min most (share j) → n ≡ min most w.share
      part j w most n a is = let r = right y j w a in is ∙ ap (λ q. min most q) (sym r.shared)

      pub given_left : (k j k' : K) (calls most n : ℕ) → ((v : View M) → knows y k v → knows y j (split_left v calls)) → n ≡ min most (share j) → ((v : View M) → knows z j v → knows z k' (less_share v n)) → (V : View all.State) → Saw x k V → Saw x k' (less_share (split_left V calls) (min most V.share))
      given_left k j k' calls most n goes is gives V s =
          let a = at_ k V s in
          let w = split_left a.0 calls in
          let all_ = part j w most n (goes a.0 a.1) is in
          seen_as x k' (less_share w (min most a.0.share)) (less_share (split_left V calls) (min most V.share)) (ap (λ (U : View all.State). less_share (split_left U calls) (min most U.share)) a.2) (subst (λ q. knows x k' (less_share w q)) all_ (from_there k' (less_share w n) (gives w (there j w (goes a.0 a.1)))))

      pub given_right : (k l j j' : K) (calls most n : ℕ) → ((v : View M) → knows y k v → knows y l (split_left v calls)) → ((v : View M) → knows y k v → knows y j (split_right v calls)) → n ≡ min most (share l) → ((v w : View M) → knows z l v → knows z j w → knows z j' (given w v n)) → (V : View all.State) → Saw x k V → (U : View all.State) × Saw x j' U × IsSplitOff calls (min most V.share) V U
      given_right k l j j' calls most n left goes is gives V s =
          let a = at_ k V s in
          let w = split_left a.0 calls in
          let all_ = part l w most n (left a.0 a.1) is in
          let u = given (split_right a.0 calls) w n in (
            erase f u,
            seen x j' u (from_there j' u (gives w (split_right a.0 calls) (there l w (left a.0 a.1)) (there j (split_right a.0 calls) (goes a.0 a.1)))),
            subst (λ (U : View all.State). IsSplitOff calls (min most U.share) U (erase f u)) (sym a.2) (record { number = refl; seats = refl; start = refl; front = longer_self a.0.front; mine = refl; looks = refl; taken = refl; holds = refl; left = refl; share = omega (arith, all_); splits = refl }),
          )

-- ---- what is held

pub kept_off : (ask : Ask) (r : Option Either) (i : Option Item) (h h' : Kept) → r ≡ None → i ≡ None → IsKept ask h r h' → IsKeptBy h i h'
kept_off ask r i h h' is none kept = subst (λ (j : Option Item). IsKeptBy h j h') (sym none) (subst (λ (q : Option Either). IsKept ask h q h') is kept)
