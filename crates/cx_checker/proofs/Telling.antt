-- The verdicts that are left, look by look.
use Rattle.std.proofs.Common.{◌≡◌, ℕ, zero, suc, ◌+◌, ◌<◌, ◌≤◌, ◌==◌, ◌&&◌, Bool, true, false, List, [], ◌∷◌, ◌++◌, length, map, drop, slice_get, slice_set, get_or, nat_le, nat_lt, Option, Some, None, option_and_then, if◌then◌else◌, refl, sym, ap, ◌∙◌, subst, arith, append_assoc, append-nil, eqb-true, eq-eqb, length-append}
use Rattle.std.proofs.lemmas.Bool.{eqb-false, ltb-true, ltb-false}
use Rattle.std.proofs.lemmas.Option.{slice_get_read, slice_get_within, slice_get_past}
use Rattle.cx_names.specs.declared.ObjectNo.{ObjectNo}
use Rattle.cx_machine.specs.declared.kind.Kind.{Kind}
use Rattle.cx_machine.specs.declared.kind.Look.{Look}
use Rattle.cx_machine.specs.Machine.{State, opening, after}
use Rattle.cx_scene.specs.declared.declared.Object.{Object}
use Rattle.cx_scene.specs.Scene.{Scene, kind_of}
use Rattle.cx_items.specs.declared.item.Item.{Item}
use Rattle.cx_items.specs.declared.item.Item.TheVariants as items
use Rattle.cx_history.specs.declared.flaw.Flaw.{Flaw}
use Rattle.cx_history.specs.declared.flaw.Cause.TheVariants as causes
use Rattle.cx_history.specs.Histories.{Recorded, Placed, changes_of, entries, in_order, items_of, history}
use Rattle.cx_history.specs.Legal.{is_shown, state_after, shows_to}
use Rattle.cx_history.specs.Flaw.{first_in}
use Rattle.cx_checker.specs.declared.verdicts.Verdicts.{Verdicts}
use Rattle.cx_checker.specs.Views.{AreHistories}
use Rattle.cx_checker.specs.Looks.{look_on, looks_in, looks_from, left_in, left_at, told, verdict, Tell, TakesNext}
use Rattle.cx_checker.proofs.Gathering.{drop_at, drop_past, get_set_same, get_set_other}

-- ---- the next verdict

pub next_there : (verdicts : List Bool) (n : ℕ) (b : Bool) → slice_get verdicts n ≡ Some b → TakesNext (drop n verdicts) b (drop (n + 1) verdicts)
next_there verdicts n b h = λ c rest is. let e : b ∷ drop (n + 1) verdicts ≡ c ∷ rest = sym (drop_at verdicts n b h) ∙ is in (cc, cc)

pub next_past : (verdicts : List Bool) (n : ℕ) (b : Bool) → length verdicts ≤ n → TakesNext (drop n verdicts) b (drop n verdicts)
next_past verdicts n b past = λ c rest is. let e : [] ≡ c ∷ rest = sym (drop_past verdicts n past) ∙ is in absurd cc

-- ---- one item

-- an item that is no look
pub no_look : (s : Scene) (r : Recorded) (all : List Verdicts) (x : Item) (rest : ℕ → List Look) → ((q : ℕ) → look_on q x ≡ []) → Tell s r all (λ q. look_on q x ++ rest q) → Tell s r all rest
no_look s r all x rest none tell = λ q low. tell q low ∙ ap (λ ls. map (told s r q) (ls ++ rest q)) (none q)

pub good_look : (s : Scene) (r : Recorded) (all : List Verdicts) (o : ObjectNo) (l : Look) (old : Verdicts) (new : List Bool) (result : Bool) (rest : ℕ → List Look) → o.0 < length all → old ≡ get_or all o.0 old → TakesNext (left_in (Some old)) result new → Tell s r all (λ q. look_on q (items.Look o l) ++ rest q) → (result ≡ is_shown s r (items.Look o l)) × (new ≡ map (told s r o.0) (rest o.0))
good_look s r all o l old new result rest low read takes tell =
    let yes_ : (o.0 == o.0) ≡ true = eq-eqb o.0 o.0 refl in
    let there_ : left_at all o.0 ≡ left_in (Some old) = ap left_in (slice_get_read all (length all) o.0 old refl low read) in
    let next : left_in (Some old) ≡ told s r o.0 l ∷ map (told s r o.0) (rest o.0) = sym there_ ∙ (tell o.0 low ∙ ap (λ b. map (told s r o.0) ((if b then l ∷ [] else []) ++ rest o.0)) yes_) in
    takes (told s r o.0 l) (map (told s r o.0) (rest o.0)) next

pub rest_look : (s : Scene) (r : Recorded) (all : List Verdicts) (o : ObjectNo) (l : Look) (old new : Verdicts) (result : Bool) (rest : ℕ → List Look) → o.0 < length all → old ≡ get_or all o.0 old → TakesNext (left_in (Some old)) result (left_in (Some new)) → Tell s r all (λ q. look_on q (items.Look o l) ++ rest q) → Tell s r (slice_set all o.0 new) rest
rest_look s r all o l old new result rest low read takes tell = λ q low_q. go q low_q (o.0 == q) refl
  where
    long : (xs : List Verdicts) (n : ℕ) (y : Verdicts) → length (slice_set xs n y) ≡ length xs
    long [] n y = refl
    long (x ∷ xs) zero y = refl
    long (x ∷ xs) (suc n) y = ap suc (long xs n y)

    go : (q : ℕ) → q < length (slice_set all o.0 new) → (b : Bool) → (o.0 == q) ≡ b → left_at (slice_set all o.0 new) q ≡ map (told s r q) (rest q)
    go q low_q true e =
        let same : o.0 ≡ q = eqb-true o.0 q e in
        let here = (good_look s r all o l old (left_in (Some new)) result rest low read takes tell).1 in
        subst (λ n. left_at (slice_set all o.0 new) n ≡ map (told s r n) (rest n)) same (ap left_in (get_set_same all o.0 new low) ∙ here)
    go q low_q false e =
        let low_all : q < length all = subst (λ n. q < n) (long all o.0 new) low_q in
        ap left_in (get_set_other all o.0 q new (eqb-false o.0 q e)) ∙ (tell q low_all ∙ ap (λ b. map (told s r q) ((if b then l ∷ [] else []) ++ rest q)) e)

-- a look at an object that isn't there
and_false : (b : Bool) → (b && false) ≡ false
and_false true = refl
and_false false = refl

pub bad_look : (s : Scene) (r : Recorded) (o : ObjectNo) (l : Look) → length s.objects ≤ o.0 → false ≡ is_shown s r (items.Look o l)
bad_look s r o l past =
    let none : slice_get s.objects o.0 ≡ None = slice_get_past s.objects o.0 past in
    sym (ap (λ (d : Option Object). nat_le l.at (length (history r o.0)) && shows_to (option_and_then (λ b. after (kind_of b) (history r o.0) l.at) d) l) none ∙ and_false (nat_le l.at (length (history r o.0))))

pub far_look : (s : Scene) (r : Recorded) (all : List Verdicts) (o : ObjectNo) (l : Look) (rest : ℕ → List Look) → length all ≤ o.0 → Tell s r all (λ q. look_on q (items.Look o l) ++ rest q) → Tell s r all rest
far_look s r all o l rest past tell = λ q low. go q low (o.0 == q) refl
  where
    go : (q : ℕ) → q < length all → (b : Bool) → (o.0 == q) ≡ b → left_at all q ≡ map (told s r q) (rest q)
    go q low true e = let same : o.0 ≡ q = eqb-true o.0 q e in absurd (omega arith)
    go q low false e = tell q low ∙ ap (λ b. map (told s r q) ((if b then l ∷ [] else []) ++ rest q)) e

-- ---- lists

pub list_tells : (s : Scene) (r : Recorded) (all : List Verdicts) (i : ℕ) (xs : List Item) (x : Item) (rest : ℕ → List Look) → slice_get xs i ≡ Some x → Tell s r all (λ q. looks_in q (drop i xs) ++ rest q) → Tell s r all (λ q. look_on q x ++ (looks_in q (drop (i + 1) xs) ++ rest q))
list_tells s r all i xs x rest at_ tell = λ q low. tell q low ∙ ap (map (told s r q)) (ap (λ ys. looks_in q ys ++ rest q) (drop_at xs i x at_) ∙ append_assoc (look_on q x) (looks_in q (drop (i + 1) xs)) (rest q))

pub list_told : (s : Scene) (r : Recorded) (all : List Verdicts) (i : ℕ) (xs : List Item) (rest : ℕ → List Look) → length xs ≤ i → Tell s r all (λ q. looks_in q (drop i xs) ++ rest q) → Tell s r all rest
list_told s r all i xs rest past tell = λ q low. tell q low ∙ ap (λ ys. map (told s r q) (looks_in q ys ++ rest q)) (drop_past xs i past)

pub lists_tell : (s : Scene) (r : Recorded) (all : List Verdicts) (t : ℕ) (ls : List (Option (List Item))) (l : Option (List Item)) (xs : List Item) → slice_get ls t ≡ Some l → xs ≡ items_of l → Tell s r all (λ q. looks_from q (drop t ls)) → Tell s r all (λ q. looks_in q xs ++ looks_from q (drop (t + 1) ls))
lists_tell s r all t ls l xs at_ is tell = λ q low. tell q low ∙ ap (map (told s r q)) (ap (looks_from q) (drop_at ls t l at_) ∙ ap (λ ys. looks_in q ys ++ looks_from q (drop (t + 1) ls)) (sym is))

-- ---- the verdicts of an object are those of the record

pub told_is : (s : Scene) (r : Recorded) (o : ℕ) (d : Object) (h : List Placed) (l : Look) → slice_get s.objects o ≡ Some d → h ≡ changes_of r o → verdict (kind_of d) h l ≡ told s r o l
told_is s r o d h l at_ is =
    ap (λ cs. verdict (kind_of d) cs l) is
    ∙ sym (ap (λ (x : Option Object). nat_le l.at (length (history r o)) && shows_to (option_and_then (λ b. after (kind_of b) (history r o) l.at) x) l) at_)

map_same : (f g : Look → Bool) (ls : List Look) → ((l : Look) → f l ≡ g l) → map f ls ≡ map g ls
map_same f g [] h = refl
map_same f g (l ∷ ls) h = ap (λ b. b ∷ map f ls) (h l) ∙ ap (λ bs. g l ∷ bs) (map_same f g ls h)

before : {X : Type 0} (xs : List X) (y : X) (n : ℕ) → n < length xs → slice_get (xs ++ y ∷ []) n ≡ slice_get xs n
before [] y n h = absurd (omega arith)
before (x ∷ xs) y zero h = refl
before (x ∷ xs) y (suc n) h = before xs y n (omega arith)

last_ : {X : Type 0} (xs : List X) (y : X) → slice_get (xs ++ y ∷ []) (length xs) ≡ Some y
last_ [] y = refl
last_ (x ∷ xs) y = last_ xs y

pub verdicts_more : (s : Scene) (r : Recorded) (all : List Verdicts) (new : Verdicts) (o : ℕ) (hs : List (List Placed)) (h : List Placed) (d : Object) (kind : Kind) (ls : List Look) → AreHistories r (length s.objects) hs → o < length hs → h ≡ get_or hs o h → d ≡ get_or s.objects o d → kind ≡ kind_of d → ls ≡ looks_from o r.lists → new.verdicts.items ≡ map (verdict kind h) ls → new.next ≡ 0 → length all ≡ o → Tell s r all (λ q. looks_from q r.lists) → Tell s r (all ++ new ∷ []) (λ q. looks_from q r.lists)
verdicts_more s r all new o hs h d kind ls are low at_h at_d is ls_is verdicts fresh long tell = λ q low_q. go q low_q (nat_lt q o) refl
  where
    there_d : slice_get s.objects o ≡ Some d
    there_d = slice_get_read s.objects (length hs) o d are.count_is low at_d

    h_is : h ≡ changes_of r o
    h_is = are.each o h (slice_get_read hs (length hs) o h refl low at_h)

    here : left_in (Some new) ≡ map (told s r o) (looks_from o r.lists)
    here =
        ap (λ n. drop n new.verdicts.items) fresh
        ∙ (verdicts ∙ (ap (λ k. map (verdict k h) ls) is
        ∙ (map_same (verdict (kind_of d) h) (told s r o) ls (λ l. told_is s r o d h l there_d h_is) ∙ ap (map (told s r o)) ls_is)))

    go : (q : ℕ) → q < length (all ++ new ∷ []) → (b : Bool) → nat_lt q o ≡ b → left_at (all ++ new ∷ []) q ≡ map (told s r q) (looks_from q r.lists)
    go q low_q true e =
        let l : q < o = ltb-true q o e in
        let short : q < length all = omega (arith, long, l) in
        ap left_in (before all new q short) ∙ tell q short
    go q low_q false e =
        let l : o ≤ q = ltb-false q o e in
        let same : o ≡ q = omega (arith, l, low_q, long, length-append all (new ∷ [])) in
        ap left_in (subst (λ n. slice_get (all ++ new ∷ []) n ≡ Some new) (long ∙ same) (last_ all new)) ∙ subst (λ n. left_in (Some new) ≡ map (told s r n) (looks_from n r.lists)) same here

pub not_look : (s : Scene) (r : Recorded) (x : Item) → ((o : ObjectNo) (l : Look) → x ≡ items.Look o l → ⊥) → (true ≡ is_shown s r x) × ((q : ℕ) → look_on q x ≡ [])
not_look s r (items.Look o l) h = absurd (h o l refl)
not_look s r (items.Change o p e) h = (refl, λ q. refl)
not_look s r (items.Control k) h = (refl, λ q. refl)
not_look s r (items.Said k) h = (refl, λ q. refl)

pub tell_none : (s : Scene) (r : Recorded) (all : List Verdicts) (looks : ℕ → List Look) → all ≡ [] → Tell s r all looks
tell_none s r all looks none = λ q low. absurd (nothing q (subst (λ (vs : List Verdicts). q < length vs) none low))
  where
    nothing : (q : ℕ) → q < 0 → ⊥
    nothing q h = omega arith
