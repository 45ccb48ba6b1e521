-- As many threads are joined as are started, but for those that run.
use Rattle.std.proofs.Common.{◌≡◌, ℕ, zero, suc, ◌+◌, ◌-◌, Bool, true, false, List, [], ◌∷◌, ◌++◌, slice_get, slice_set, Some, refl, sym, ap, ◌∙◌, subst, arith}
use Rattle.cx_names.specs.declared.ThreadNo.{ThreadNo}
use Rattle.cx_items.specs.declared.item.Control.TheVariants as controls
use Rattle.cx_items.specs.declared.item.Item.TheVariants as items
use Rattle.cx_io.specs.Spawning.{Raised}
use Rattle.cx_io.proofs.Counts.{raised_none, raised_more}
use Rattle.cx_jthread.specs.declared.thread.Thread.{Thread}
use Rattle.cx_work.specs.declared.work.Work.{Work}
use Rattle.cx_work.specs.declared.work.Ended.{Ended}
use Rattle.cx_run.specs.declared.place.Place.{Place}
use Rattle.cx_run.specs.declared.place.Place.TheVariants as places
use Rattle.cx_run.specs.Runs.{Tally, IsTallied, AreOut, AreJoined, IsBegun, IsHere, has_come, running_at, running_in, starts_in, KeepsOut}
use Rattle.cx_run.proofs.Parts.{set_twice}

-- ---- counts

pub none_out : (s j : ℕ) → AreOut s j s j 0
none_out s j = record { ended = 0; starts = raised_none s; joins = raised_none j }

-- one more was started
one_started : (a b s j s' j' n : ℕ) → AreOut a b s j n → Raised s s' 1 → j' ≡ j → AreOut a b s' j' (n + 1)
one_started a b s j s' j' n out more same = record {
  ended = out.ended;
  starts = let is : (out.ended + n) + 1 ≡ out.ended + (n + 1) = omega arith in subst (λ k. Raised a s' k) is (raised_more a s s' (out.ended + n) 1 out.starts more);
  joins = subst (λ k. Raised b k out.ended) (sym same) out.joins;
}

-- one more was joined
pub one_joined : (a b s j s' j' n : ℕ) → AreOut a b s j (n + 1) → s' ≡ s → Raised j j' 1 → AreOut a b s' j' n
one_joined a b s j s' j' n out same more = record {
  ended = out.ended + 1;
  starts = let is : out.ended + (n + 1) ≡ (out.ended + 1) + n = omega arith in subst (λ k. Raised a k ((out.ended + 1) + n)) (sym same) (subst (λ k. Raised a s k) is out.starts);
  joins = raised_more b j j' out.ended 1 out.joins more;
}

-- nothing was counted
same_out : (a b s j s' j' n : ℕ) → AreOut a b s j n → s' ≡ s → j' ≡ j → AreOut a b s' j' n
same_out a b s j s' j' n out x y = rw (x, y) out

-- ---- places

pub running_set : {G : Type 0} (ps : List (Place G)) (i : ℕ) (p q : Place G) → slice_get ps i ≡ Some p → running_in (slice_set ps i q) + running_at p ≡ running_in ps + running_at q
running_set [] i p q h = cc h
running_set (r ∷ ps) zero p q h = let same : r ≡ p = cc in let is : running_at r ≡ running_at p = ap running_at same in omega (arith, is)
running_set (r ∷ ps) (suc i) p q h = omega (arith, running_set ps i p q h)

pub running_last : {G : Type 0} (ps : List (Place G)) (p : Place G) → running_in (ps ++ p ∷ []) ≡ running_in ps + running_at p
running_last [] p = omega arith
running_last (r ∷ ps) p = let rest = running_last ps p in omega (arith, rest)

none_come : {G : Type 0} (p : Place G) → has_come p ≡ true → running_at p ≡ 0
none_come (places.Waiting w) h = cc h
none_come (places.Running thread) h = cc h
none_come (places.Ended ys) h = refl
none_come places.Idle h = refl

-- where all have come none runs
pub none_runs : {G : Type 0} (ps : List (Place G)) → ((i : ℕ) (p : Place G) → slice_get ps i ≡ Some p → has_come p ≡ true) → running_in ps ≡ 0
none_runs [] come = refl
none_runs (p ∷ ps) come = let first = none_come p (come 0 p refl) in let rest = none_runs ps (λ i. come (suc i)) in omega (arith, first, rest)

-- ---- steps of a run

module _ {G : Type 0} where
  -- the place of a thread that runs, and one where none does
  pub running_joined : (p : Place G) (a b s j n : ℕ) → running_at p ≡ 1 → AreOut a b s j (n + running_at p) → AreOut a b s j (n + 1)
  running_joined p a b s j n is out = subst (λ m. AreOut a b s j (n + m)) is out

  pub none_joined : (p : Place G) (a b s j n : ℕ) → running_at p ≡ 0 → AreOut a b s j (n + running_at p) → AreOut a b s j n
  none_joined p a b s j n is out = let same : n + running_at p ≡ n = omega (arith, is) in subst (λ m. AreOut a b s j m) same out

  -- one place is left, whose thread is still counted
  pub left_out : (ps ps' : List (Place G)) (i : ℕ) (p : Place G) (a b s j : ℕ) → slice_get ps i ≡ Some p → ps' ≡ slice_set ps i places.Idle → AreOut a b s j (running_in ps) → AreOut a b s j (running_in ps' + running_at p)
  left_out ps ps' i p a b s j at_p is out =
      let set_ : running_in (slice_set ps i places.Idle) + running_at p ≡ running_in ps + 0 = running_set ps i p places.Idle at_p in
      let same : running_in ps' ≡ running_in (slice_set ps i places.Idle) = ap running_in is in
      let all_ : running_in ps ≡ running_in ps' + running_at p = omega (arith, set_, same) in
      subst (λ n. AreOut a b s j n) all_ out

  -- places of which as many run, with the same counts
  pub same_running : (ps ps' : List (Place G)) (s j s' j' : ℕ) → running_in ps' ≡ running_in ps → s' ≡ s → j' ≡ j → KeepsOut ps s j ps' s' j'
  same_running ps ps' s j s' j' is x y a b out = same_out a b s j s' j' (running_in ps') (subst (λ n. AreOut a b s j n) (sym is) out) x y

  pub same_places : (ps ps' : List (Place G)) (s j s' j' : ℕ) → ps' ≡ ps → s' ≡ s → j' ≡ j → KeepsOut ps s j ps' s' j'
  same_places ps ps' s j s' j' is x y = same_running ps ps' s j s' j' (ap running_in is) x y

  -- a thread that ran was joined
  pub joined_running : (ps ps' : List (Place G)) (s j s' j' : ℕ) → running_in ps ≡ running_in ps' + 1 → s' ≡ s → Raised j j' 1 → KeepsOut ps s j ps' s' j'
  joined_running ps ps' s j s' j' is same more a b out = one_joined a b s j s' j' (running_in ps') (subst (λ n. AreOut a b s j n) is out) same more

  -- the place of a thread that ran has another that doesn't
  pub ran_set : (ps ps' : List (Place G)) (i : ℕ) (thread : Thread (Work G) Ended) (q : Place G) → slice_get ps i ≡ Some (places.Running thread) → ps' ≡ slice_set ps i q → running_at q ≡ 0 → running_in ps ≡ running_in ps' + 1
  ran_set ps ps' i thread q at_p is none =
      let set_ : running_in (slice_set ps i q) + 1 ≡ running_in ps + running_at q = running_set ps i (places.Running thread) q at_p in
      let same : running_in ps' ≡ running_in (slice_set ps i q) = ap running_in is in
      omega (arith, set_, same, none)

  -- a place that didn't run has another that doesn't
  pub idled_set : (ps ps' : List (Place G)) (i : ℕ) (p q : Place G) → slice_get ps i ≡ Some p → ps' ≡ slice_set ps i q → running_at p ≡ 0 → running_at q ≡ 0 → running_in ps' ≡ running_in ps
  idled_set ps ps' i p q at_p is none none' =
      let set_ = running_set ps i p q at_p in
      let same = ap running_in is in
      omega (arith, set_, same, none, none')

  -- a thread was started, or waits on
  pub begun_out : (ps ps' : List (Place G)) (u : ThreadNo) (i : ℕ) (w w' : Work G) (ok : Bool) (p : Place G) (s j s' j' : ℕ) → slice_get ps i ≡ Some (places.Waiting w) → ps' ≡ slice_set ps i p → IsBegun u w' ok p → Raised s s' (starts_in (items.Control (controls.Start u ok) ∷ [])) → j' ≡ j → KeepsOut ps s j ps' s' j'
  begun_out ps ps' u i w w' true (places.Running thread) s j s' j' at_p is begun more same a b out =
      let set_ : running_in (slice_set ps i (places.Running thread)) + 0 ≡ running_in ps + 1 = running_set ps i (places.Waiting w) (places.Running thread) at_p in
      let there : running_in ps' ≡ running_in (slice_set ps i (places.Running thread)) = ap running_in is in
      let one : running_in ps + 1 ≡ running_in ps' = omega (arith, set_, there) in
      subst (λ n. AreOut a b s' j' n) one (one_started a b s j s' j' (running_in ps) out more same)
  begun_out ps ps' u i w w' false (places.Waiting kept) s j s' j' at_p is begun more same a b out =
      let none = idled_set ps ps' i (places.Waiting w) (places.Waiting kept) at_p is refl refl in
      let now : AreOut a b s' j (running_in ps) = record { ended = out.ended; starts = let add : (out.ended + running_in ps) + 0 ≡ out.ended + running_in ps = omega arith in subst (λ k. Raised a s' k) add (raised_more a s s' (out.ended + running_in ps) 0 out.starts more); joins = out.joins } in
      rw (none, same) now
  begun_out ps ps' u i w w' ok p s j s' j' at_p is begun more same a b out = absurd begun

  pub out_end : (ps : List (Place G)) (a b s j : ℕ) → running_in ps ≡ 0 → AreOut a b s j (running_in ps) → AreJoined a b s j
  out_end ps a b s j none out = subst (λ n. AreOut a b s j n) none out

  -- the same by the place that was left
  pub begun_keeps : (before now : Tally) (ps mid ps' : List (Place G)) (u : ThreadNo) (w w' : Work G) (ok : Bool) (p : Place G) (j j' : ℕ) → IsHere u.0 (places.Waiting w) ps mid → IsBegun u w' ok p → ps' ≡ slice_set mid (u.0 - 1) p → IsTallied before now (items.Control (controls.Start u ok) ∷ []) 0 → j' ≡ j → KeepsOut ps before.started j ps' now.started j'
  begun_keeps before now ps mid ps' u w w' ok p j j' h begun others more same =
      begun_out ps ps' u (u.0 - 1) w w' ok p before.started j now.started j' h.was (others ∙ (ap (λ (l : List (Place G)). slice_set l (u.0 - 1) p) h.is ∙ set_twice ps (u.0 - 1) places.Idle p)) begun more.started same

  pub joined_keeps : (ps mid ps' : List (Place G)) (u : ThreadNo) (thread : Thread (Work G) Ended) (q : Place G) (s j s' j' : ℕ) → IsHere u.0 (places.Running thread) ps mid → ps' ≡ slice_set mid (u.0 - 1) q → running_at q ≡ 0 → s' ≡ s → Raised j j' 1 → KeepsOut ps s j ps' s' j'
  joined_keeps ps mid ps' u thread q s j s' j' h others none same more =
      joined_running ps ps' s j s' j' (ran_set ps ps' (u.0 - 1) thread q h.was (others ∙ (ap (λ (l : List (Place G)). slice_set l (u.0 - 1) q) h.is ∙ set_twice ps (u.0 - 1) places.Idle q)) none) same more

  -- and where its place was left alone
  pub left_keeps : (ps mid ps' : List (Place G)) (u : ThreadNo) (thread : Thread (Work G) Ended) (s j s' j' : ℕ) → IsHere u.0 (places.Running thread) ps mid → ps' ≡ mid → s' ≡ s → Raised j j' 1 → KeepsOut ps s j ps' s' j'
  left_keeps ps mid ps' u thread s j s' j' h others same more = joined_running ps ps' s j s' j' (ran_set ps ps' (u.0 - 1) thread places.Idle h.was (others ∙ h.is) refl) same more

  -- ---- a run

  pub first_out : (ps : List (Place G)) (s j : ℕ) → running_in ps ≡ 0 → AreOut s j s j (running_in ps)
  first_out ps s j none = subst (λ n. AreOut s j s j n) (sym none) (none_out s j)

  -- once all have come
  pub all_joined : (ps ps' : List (Place G)) (s j s' j' : ℕ) → running_in ps ≡ 0 → KeepsOut ps s j ps' s' j' → ((i : ℕ) (p : Place G) → slice_get ps' i ≡ Some p → has_come p ≡ true) → AreJoined s j s' j'
  all_joined ps ps' s j s' j' none keeps come = out_end ps' s j s' j' (none_runs ps' come) (keeps s j (first_out ps s j none))
