-- Where a list stops following its text, and the first such thread.
use Rattle.std.proofs.Common.{◌≡◌, ℕ, zero, suc, ◌+◌, ◌<◌, ◌≤◌, Bool, true, false, List, [], ◌∷◌, length, drop, slice_get, Option, Some, None, option_map, option_and_then, is_some, if◌then◌else◌, refl, sym, ap, ◌∙◌, subst, arith}
use Rattle.cx_scene.specs.Scene.{Scene}
use Rattle.cx_items.specs.declared.item.Item.{Item}
use Rattle.cx_items.specs.Next.{Local, after_item, moved, is_due, is_ended, local_at_start}
use Rattle.cx_items.specs.Steps.{IsMove}
use Rattle.cx_history.specs.declared.flaw.Flaw.{Flaw}
use Rattle.cx_history.specs.declared.flaw.Cause.TheVariants as causes
use Rattle.cx_history.specs.declared.record.Record.{Record}
use Rattle.cx_history.specs.declared.record.List.{List as ThreadList}
use Rattle.cx_history.specs.Histories.{Recorded, items_of, list_of}
use Rattle.cx_history.specs.Follows.{completes, has_started}
use Rattle.cx_history.specs.Flaw.{flaw, or_flaw, stop_at, text_flaw, text_flaw_from}
use Rattle.cx_history.specs.Views.{listed, recorded_of}
use Rattle.cx_checker.proofs.Gathering.{drop_at, drop_past}

next_or_stop : Scene → (ℕ → ℕ → Bool) → ℕ → ℕ → List Item → Option Local → Option ℕ
next_or_stop s c t i xs next = elim next [ None ↦ Some i | Some k ↦ stop_at s c t (i + 1) k xs ]

stop_cons : (s : Scene) (c : ℕ → ℕ → Bool) (t i : ℕ) (k : Local) (xs : List Item) (x : Item) → slice_get xs i ≡ Some x → stop_at s c t i k (drop i xs) ≡ next_or_stop s c t i (drop (i + 1) xs) (moved s (is_due c x) t k x)
unfolding next_or_stop
stop_cons s c t i k xs x at_ = ap (stop_at s c t i k) (drop_at xs i x at_)

pub goes_past : (s : Scene) (c : ℕ → ℕ → Bool) (t i : ℕ) (k new : Local) (xs : List Item) (x : Item) (due made : Bool) (all : Option ℕ) → slice_get xs i ≡ Some x → due ≡ is_due c x → IsMove made (moved s due t k x) k new → made ≡ true → all ≡ stop_at s c t i k (drop i xs) → all ≡ stop_at s c t (i + 1) new (drop (i + 1) xs)
unfolding next_or_stop
goes_past s c t i k new xs x due made all at_ is move is_made so_far =
    let did : moved s due t k x ≡ Some new = subst (λ (b : Bool). IsMove b (moved s due t k x) k new) is_made move in
    let there : moved s (is_due c x) t k x ≡ Some new = ap (λ b. moved s b t k x) (sym is) ∙ did in
    so_far ∙ (stop_cons s c t i k xs x at_ ∙ ap (next_or_stop s c t i (drop (i + 1) xs)) there)

pub stops_here : (s : Scene) (c : ℕ → ℕ → Bool) (t i : ℕ) (k new : Local) (xs : List Item) (x : Item) (due made : Bool) (all : Option ℕ) → slice_get xs i ≡ Some x → due ≡ is_due c x → IsMove made (moved s due t k x) k new → made ≡ false → all ≡ stop_at s c t i k (drop i xs) → Some i ≡ all
unfolding next_or_stop
stops_here s c t i k new xs x due made all at_ is move not_made so_far =
    let did = subst (λ (b : Bool). IsMove b (moved s due t k x) k new) not_made move in
    let there : moved s (is_due c x) t k x ≡ None = ap (λ b. moved s b t k x) (sym is) ∙ did.0 in
    sym (so_far ∙ (stop_cons s c t i k xs x at_ ∙ ap (next_or_stop s c t i (drop (i + 1) xs)) there))

pub ends_here : (s : Scene) (c : ℕ → ℕ → Bool) (t i : ℕ) (k : Local) (xs : List Item) (ended : Bool) (all : Option ℕ) → length xs ≤ i → ended ≡ is_ended k → all ≡ stop_at s c t i k (drop i xs) → all ≡ (if ended then None else Some i)
ends_here s c t i k xs ended all past is so_far =
    so_far ∙ (ap (stop_at s c t i k) (drop_past xs i past) ∙ ap (λ b. if b then None else Some i) (sym is))

-- ---- threads

pub listed_stops : (s : Scene) (r : Recorded) (t : ℕ) (l : Option (List Item)) (has started : Bool) (found : Option Flaw) → slice_get r.lists t ≡ Some l → has ≡ is_some l → started ≡ has_started r t → has ≡ true → started ≡ true → found ≡ option_map (flaw causes.Text t) (stop_at s (completes s r) t 0 (local_at_start s t) (list_of r t)) → found ≡ text_flaw s r t l
listed_stops s r t None has started found there is flag yes_ on stop = let e : false ≡ true = sym is ∙ yes_ in cc
listed_stops s r t (Some xs) has started found there is flag yes_ on stop =
    let list_is : list_of r t ≡ xs = ap (λ o. items_of (option_and_then (λ k. k) o)) there in
    let on_ : has_started r t ≡ true = sym flag ∙ on in
    stop ∙ (ap (λ ys. option_map (flaw causes.Text t) (stop_at s (completes s r) t 0 (local_at_start s t) ys)) list_is
    ∙ ap (λ b. if b then option_map (flaw causes.Text t) (stop_at s (completes s r) t 0 (local_at_start s t) xs) else Some (flaw causes.Text t 0)) (sym on_))

pub listed_unstarted : (s : Scene) (r : Recorded) (t : ℕ) (l : Option (List Item)) (has started : Bool) (f : Flaw) → has ≡ is_some l → started ≡ has_started r t → has ≡ true → started ≡ false → f ≡ flaw causes.Text t 0 → Some f ≡ text_flaw s r t l
listed_unstarted s r t None has started f is flag yes_ off same = let e : false ≡ true = sym is ∙ yes_ in cc
listed_unstarted s r t (Some xs) has started f is flag yes_ off same =
    let off_ : has_started r t ≡ false = sym flag ∙ off in
    ap (λ g. Some g) same ∙ ap (λ b. if b then option_map (flaw causes.Text t) (stop_at s (completes s r) t 0 (local_at_start s t) xs) else Some (flaw causes.Text t 0)) (sym off_)

pub started_unlisted : (s : Scene) (r : Recorded) (t : ℕ) (l : Option (List Item)) (has started : Bool) (f : Flaw) → has ≡ is_some l → started ≡ has_started r t → has ≡ false → started ≡ true → f ≡ flaw causes.Text t 0 → Some f ≡ text_flaw s r t l
started_unlisted s r t (Some xs) has started f is flag no_ on same = let e : true ≡ false = sym is ∙ no_ in cc
started_unlisted s r t None has started f is flag no_ on same =
    let on_ : has_started r t ≡ true = sym flag ∙ on in
    ap (λ g. Some g) same ∙ ap (λ b. if b then Some (flaw causes.Text t 0) else None) (sym on_)

pub neither : (s : Scene) (r : Recorded) (t : ℕ) (l : Option (List Item)) (has started : Bool) → has ≡ is_some l → started ≡ has_started r t → has ≡ false → started ≡ false → None ≡ text_flaw s r t l
neither s r t (Some xs) has started is flag no_ off = let e : true ≡ false = sym is ∙ no_ in cc
neither s r t None has started is flag no_ off =
    let off_ : has_started r t ≡ false = sym flag ∙ off in
    ap (λ b. if b then Some (flaw causes.Text t 0) else None) (sym off_)

pub has_list_is : (r : Record) (t : ℕ) (l : ThreadList) (m : Option (List Item)) → slice_get (recorded_of r).lists t ≡ Some (listed l) → slice_get (recorded_of r).lists t ≡ Some m → l.started ≡ is_some m
has_list_is r t l m there got =
    let same : listed l ≡ m = cc in
    started_is l.started refl ∙ ap is_some same
  where
    started_is : (b : Bool) → l.started ≡ b → l.started ≡ is_some (listed l)
    started_is true e = rw e refl
    started_is false e = rw e refl

-- ---- the least thread

pub thread_good : (s : Scene) (r : Recorded) (t : ℕ) (ls : List (Option (List Item))) (l : Option (List Item)) (all : Option Flaw) → slice_get ls t ≡ Some l → None ≡ text_flaw s r t l → all ≡ text_flaw_from s r t (drop t ls) → all ≡ text_flaw_from s r (t + 1) (drop (t + 1) ls)
thread_good s r t ls l all at_ is so_far =
    so_far ∙ (ap (text_flaw_from s r t) (drop_at ls t l at_) ∙ ap (λ f. or_flaw f (text_flaw_from s r (t + 1) (drop (t + 1) ls))) (sym is))

pub thread_bad : (s : Scene) (r : Recorded) (t : ℕ) (ls : List (Option (List Item))) (l : Option (List Item)) (all : Option Flaw) (f : Flaw) → slice_get ls t ≡ Some l → Some f ≡ text_flaw s r t l → all ≡ text_flaw_from s r t (drop t ls) → Some f ≡ all
thread_bad s r t ls l all f at_ is so_far =
    sym (so_far ∙ (ap (text_flaw_from s r t) (drop_at ls t l at_) ∙ ap (λ g. or_flaw g (text_flaw_from s r (t + 1) (drop (t + 1) ls))) (sym is)))

pub threads_good : (s : Scene) (r : Recorded) (t : ℕ) (ls : List (Option (List Item))) (all : Option Flaw) → length ls ≤ t → all ≡ text_flaw_from s r t (drop t ls) → None ≡ all
threads_good s r t ls all past so_far = sym (so_far ∙ ap (text_flaw_from s r t) (drop_past ls t past))
