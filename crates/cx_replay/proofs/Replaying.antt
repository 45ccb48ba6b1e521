-- A replay's record is legal and follows its text, and there is one.
use Rattle.std.proofs.Common.{◌≡◌, ℕ, zero, suc, ◌+◌, not, Bool, true, false, List, [], ◌∷◌, ◌++◌, map, length, Option, Some, None, option_and_then, option_map, slice_get, is_some, if◌then◌else◌, refl, sym, ap, ◌∙◌, subst}
use Rattle.std.proofs.lemmas.Option.{slice_get-map}
use Rattle.cx_machine.specs.Machine.{run, IsLegal}
use Rattle.cx_scene.specs.declared.declared.Object.{Object}
use Rattle.cx_scene.specs.Scene.{Scene, kind_of}
use Rattle.cx_items.specs.declared.item.Item.{Item}
use Rattle.cx_items.specs.Next.{is_ended}
use Rattle.cx_history.specs.Histories.{history, changes_of}
use Rattle.cx_history.specs.Legal.{LegalRecord}
use Rattle.cx_history.specs.Follows.{Follows, FollowsSoFar, has_started, list_follows, list_follows_so_far}
use Rattle.cx_history.proofs.Sound.{gapless-sound}
use Rattle.cx_replay.specs.Starting.{OnlyMainStarts}
use Rattle.cx_replay.specs.Schedule.{Runner, World, Turn, Replayed, Replays, turn, turns, start, replayed, recorded_in, is_live, live_from, done_of, lists_of}
use Rattle.cx_replay.proofs.Whole.{WholeWorld, turns_whole}

-- ---- determinism

pub one_ending : (n m : ℕ) (s : Scene) (x a b : Turn) → turns n s x ≡ Some a → turn s a ≡ None → turns m s x ≡ Some b → turn s b ≡ None → a ≡ b
one_ending zero zero s x a b ra oa rb ob = let p : x ≡ a = cc in let q : x ≡ b = cc in sym p ∙ q
one_ending zero (suc m) s x a b ra oa rb ob =
    let p : x ≡ a = cc in
    let over : turn s x ≡ None = subst (λ (v : Turn). turn s v ≡ None) (sym p) oa in
    let none : turns (suc m) s x ≡ None = ap (option_and_then (turns m s)) over in
    cc (none, rb)
one_ending (suc n) zero s x a b ra oa rb ob =
    let p : x ≡ b = cc in
    let over : turn s x ≡ None = subst (λ (v : Turn). turn s v ≡ None) (sym p) ob in
    let none : turns (suc n) s x ≡ None = ap (option_and_then (turns n s)) over in
    cc (none, ra)
one_ending (suc n) (suc m) s x a b ra oa rb ob = go (turn s x) refl ra rb (λ y p q. one_ending n m s y a b p oa q ob)
  where
    go : (o : Option Turn) → turn s x ≡ o → option_and_then (turns n s) o ≡ Some a → option_and_then (turns m s) o ≡ Some b → ((y : Turn) → turns n s y ≡ Some a → turns m s y ≡ Some b → a ≡ b) → a ≡ b
    go None e p q ih = cc
    go (Some y) e p q ih = ih y p q

pub one_replay : (s : Scene) (seed : Option ℕ) (a b : Replayed) → Replays s seed a → Replays s seed b → a ≡ b
one_replay s seed a b ra rb = ra.result ∙ (ap (replayed s) (one_ending ra.count rb.count s (start s seed) ra.last rb.last ra.run ra.over rb.run rb.over) ∙ sym rb.result)

-- ---- legal

legal_world : (s : Scene) (w : World) → WholeWorld s w → LegalRecord s (recorded_in s w)
legal_world s w world = record {
  gapless = λ o d e k l. gapless-sound (changes_of (recorded_in s w) o) (world.whole.good.kept o d e).so_far.gapless k l;
  stepwise = λ o d e. stepwise o d e;
  shown = λ t i x h. world.whole.sane.shown t i x h;
  never_falling = λ t i x h. world.whole.sane.rising t i x h;
  ordered = λ t i x h. world.whole.sane.ordered t i x h;
}
  where
    stepwise : (o : ℕ) (d : Object) → slice_get s.objects o ≡ Some d → IsLegal (kind_of d) (history (recorded_in s w) o)
    stepwise o d e = ap is_some (world.whole.good.kept o d e).so_far.reaches

pub replay_is_legal : (s : Scene) (seed : Option ℕ) (outcome : Replayed) → OnlyMainStarts s → Replays s seed outcome → LegalRecord s outcome.recorded
replay_is_legal s seed outcome only run = subst (λ (v : Replayed). LegalRecord s v.recorded) (sym run.result) (legal_world s run.last.world (turns_whole run.count s seed run.last only run.run))

-- ---- the text

length-map_done : (rs : List (Option Runner)) → length (map done_of rs) ≡ length rs
length-map_done [] = refl
length-map_done (r ∷ rs) = ap suc (length-map_done rs)

-- by the runner of each list
list_cases : (s : Scene) (w : World) (P : Option (List Item) → Type 0) (t : ℕ) (l : Option (List Item)) → slice_get (lists_of w) t ≡ Some l → (slice_get w.runners t ≡ Some None → P None) → ((r : Runner) → slice_get w.runners t ≡ Some (Some r) → P (Some r.done)) → P l
list_cases s w P t l h none some = go (slice_get w.runners t) refl (sym (slice_get-map done_of w.runners t) ∙ h)
  where
    go : (o : Option (Option Runner)) → slice_get w.runners t ≡ o → option_map done_of o ≡ Some l → P l
    go None e k = cc
    go (Some None) e k = let same : done_of None ≡ l = cc in subst P same (none e)
    go (Some (Some r)) e k = let same : done_of (Some r) ≡ l = cc in subst P same (some r e)

started_here : (s : Scene) (w : World) (t : ℕ) (r : Runner) → WholeWorld s w → slice_get w.runners t ≡ Some (Some r) → has_started (recorded_in s w) t ≡ true
started_here s w t r world e = world.whole.sane.started t r.done (slice_get-map done_of w.runners t ∙ ap (option_map done_of) e)

so_far_world : (s : Scene) (w : World) → WholeWorld s w → FollowsSoFar s (recorded_in s w)
so_far_world s w world = record {
  count = length-map_done w.runners ∙ world.count;
  each = λ t l h. list_cases s w (λ k. list_follows_so_far s (recorded_in s w) t k ≡ true) t l h (λ e. ap not (world.nobody t e)) (λ r e. some t r e);
}
  where
    some : (t : ℕ) (r : Runner) → slice_get w.runners t ≡ Some (Some r) → list_follows_so_far s (recorded_in s w) t (Some r.done) ≡ true
    some t r e = rw (started_here s w t r world e, world.whole.good.followed t r e) refl

pub stuck_follows_so_far : (s : Scene) (seed : Option ℕ) (outcome : Replayed) → OnlyMainStarts s → Replays s seed outcome → FollowsSoFar s outcome.recorded
stuck_follows_so_far s seed outcome only run = subst (λ (v : Replayed). FollowsSoFar s v.recorded) (sym run.result) (so_far_world s run.last.world (turns_whole run.count s seed run.last only run.run))

-- where no thread is live each has ended
none_live : (t : ℕ) (rs : List (Option Runner)) (u : ℕ) (r : Runner) → live_from t rs ≡ [] → slice_get rs u ≡ Some (Some r) → is_ended r.local ≡ true
none_live t [] u r h e = cc
none_live t (q ∷ qs) u r h e = go (is_live q) refl h (λ v k rest. none_live (t + 1) qs v r rest k)
  where
    here : is_live q ≡ false → (v : ℕ) → slice_get (q ∷ qs) v ≡ Some (Some r) → live_from (t + 1) qs ≡ [] → ((v : ℕ) → slice_get qs v ≡ Some (Some r) → live_from (t + 1) qs ≡ [] → is_ended r.local ≡ true) → is_ended r.local ≡ true
    here no_ zero k rest ih =
        let same : q ≡ Some r = cc in
        let not_live : is_live (Some r) ≡ false = subst (λ o. is_live o ≡ false) same no_ in
        ended (is_ended r.local) not_live
      where
        ended : (b : Bool) → not b ≡ false → b ≡ true
        ended true m = refl
        ended false m = cc
    here no_ (suc v) k rest ih = ih v k rest

    go : (b : Bool) → is_live q ≡ b → (if b then t ∷ [] else []) ++ live_from (t + 1) qs ≡ [] → ((v : ℕ) → slice_get qs v ≡ Some (Some r) → live_from (t + 1) qs ≡ [] → is_ended r.local ≡ true) → is_ended r.local ≡ true
    go true e1 k ih = cc
    go false e1 k ih = here e1 u e k ih

follows_world : (s : Scene) (w : World) → WholeWorld s w → live_from 0 w.runners ≡ [] → Follows s (recorded_in s w)
follows_world s w world over = record {
  count = length-map_done w.runners ∙ world.count;
  each = λ t l h. list_cases s w (λ k. list_follows s (recorded_in s w) t k ≡ true) t l h (λ e. ap not (world.nobody t e)) (λ r e. some t r e);
}
  where
    some : (t : ℕ) (r : Runner) → slice_get w.runners t ≡ Some (Some r) → list_follows s (recorded_in s w) t (Some r.done) ≡ true
    some t r e = rw (started_here s w t r world e, world.whole.good.followed t r e, none_live 0 w.runners t r over e) refl

pub replay_follows : (s : Scene) (seed : Option ℕ) (outcome : Replayed) → OnlyMainStarts s → Replays s seed outcome → outcome.live ≡ [] → Follows s outcome.recorded
replay_follows s seed outcome only run over =
    let none : live_from 0 run.last.world.runners ≡ [] = ap (λ (v : Replayed). v.live) (sym run.result) ∙ over in
    subst (λ (v : Replayed). Follows s v.recorded) (sym run.result) (follows_world s run.last.world (turns_whole run.count s seed run.last only run.run) none)
