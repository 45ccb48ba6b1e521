-- The example is built by the laws.
use Rattle.std.proofs.Common.{◌≡◌, ◌≢◌, ℕ, zero, suc, ◌==◌, Bool, true, false, IsTrue, List, [], ◌∷◌, ◌++◌, Option, Some, slice_get, option_and_then, refl, sym, subst, arith}
use Rattle.cx_names.specs.declared.Reply.TheVariants as replies
use Rattle.cx_machine.specs.Machine.{IsLegal}
use Rattle.cx_scene.specs.declared.declared.Object.{Object}
use Rattle.cx_scene.specs.declared.declared.Object.TheVariants as objects
use Rattle.cx_scene.specs.Scene.{kind_of}
use Rattle.cx_items.specs.declared.item.Control.TheVariants as controls
use Rattle.cx_items.specs.declared.item.Item.{Item}
use Rattle.cx_items.specs.declared.item.Item.TheVariants as items
use Rattle.cx_items.specs.Next.{local_at_start, moved, after_item}
use Rattle.cx_history.specs.Histories.{list_of}
use Rattle.cx_history.specs.Follows.{after_items, is_whole}
use Rattle.cx_fronts.specs.Positions.{positions}
use Rattle.cx_fronts.specs.Paths.{Fronts, nothing, put, none_own, Path, AreItems}
use Rattle.cx_fronts.specs.Growing.{with_thread}
use Rattle.cx_fronts.specs.Mains.{Finished}
use Rattle.cx_fronts.specs.Runs.{FromPasses, FromRun, KeepsText, IsWholeBy}
use Rattle.cx_fronts.specs.Example.{the_semaphore, the_thread, released, acquired, scene, ok, main_list, thread_list, recorded}
use Rattle.cx_fronts.proofs.Lists.{prefix_refl, not_equal}
use Rattle.cx_fronts.proofs.Heart.{stays}
use Rattle.cx_fronts.proofs.Grown.{one_more, change_goes, reply_goes, one_start_more, one_join_more, runs_end, with-other}
use Rattle.cx_fronts.proofs.Logged.{puts-moved}
use Rattle.cx_fronts.proofs.Right.{items_none, items_first}

abbrev mid : Fronts
mid = put nothing 0 (released ∷ [])

abbrev all : Fronts
all = put nothing 0 (released ∷ acquired ∷ [])

abbrev others : ℕ → Fronts
others u = all

abbrev firsts : ℕ → Fronts
firsts = with_thread others 1 nothing

abbrev lasts : ℕ → Fronts
lasts = with_thread others 1 all

-- ---- the paths

main_path : Path scene firsts lasts 0 nothing main_list all
main_path =
    let xs1 = items.Control (controls.Start the_thread true) ∷ [] in
    let xs2 = xs1 ++ ok ∷ [] in
    let xs3 = xs2 ++ items.Change the_semaphore 0 released ∷ [] in
    let xs4 = xs3 ++ ok ∷ [] in
    let p1 = one_start_more scene others others 0 nothing nothing nothing nothing [] the_thread (stays 0 nothing) refl (stays 0 nothing) (λ o. prefix_refl []) in
    let p2 = one_more scene firsts others 0 nothing nothing nothing xs1 ok p1 (reply_goes scene firsts others 0 nothing replies.Ok) in
    let p3 = one_more scene firsts others 0 nothing nothing mid xs2 (items.Change the_semaphore 0 released) p2 (change_goes scene firsts others 0 nothing the_semaphore (released ∷ []) 0 released (released ∷ [], refl) (omega arith) refl refl) in
    let p4 = one_more scene firsts others 0 nothing mid mid xs3 ok p3 (reply_goes scene firsts others 0 mid replies.Ok) in
    let p5 = one_join_more scene firsts others 0 nothing mid all all xs4 the_thread p4 refl (puts-moved 0 nothing 0 (released ∷ []) (acquired ∷ []) (λ o. []) refl (λ o k. refl)) (λ o. prefix_refl (all o)) in
    one_more scene firsts lasts 0 nothing all all (xs4 ++ items.Control (controls.Join the_thread) ∷ []) ok p5 (reply_goes scene firsts lasts 0 all replies.Ok)

thread_path : (first last : ℕ → Fronts) → Path scene first last 1 nothing thread_list all
thread_path first last =
    let p1 = one_more scene first last 1 nothing nothing all [] (items.Change the_semaphore 1 acquired) (stays 1 nothing) (change_goes scene first last 1 nothing the_semaphore (released ∷ acquired ∷ []) 1 acquired (released ∷ acquired ∷ [], refl) (omega arith) refl refl) in
    one_more scene first last 1 nothing all all (items.Change the_semaphore 1 acquired ∷ []) ok p1 (reply_goes scene first last 1 all replies.Ok)

nobody : (n o : ℕ) → positions (suc (suc n)) 0 (all o) ≡ []
nobody n zero =
    let a : (0 == suc (suc n)) ≡ false = not_equal 0 (suc (suc n)) (λ e. omega (arith, e)) in
    let b : (1 == suc (suc n)) ≡ false = not_equal 1 (suc (suc n)) (λ e. omega (arith, e)) in
    rw (a, b) refl
nobody n (suc o) = let c : (0 == suc o) ≡ false = not_equal 0 (suc o) (λ e. omega (arith, e)) in rw c refl

legal_ : (o : ℕ) (d : Object) → slice_get scene.objects o ≡ Some d → IsLegal (kind_of d) (all o)
legal_ zero d h =
    let same : objects.Semaphore 0 2 ≡ d = cc in
    subst (λ v. IsLegal (kind_of v) (released ∷ acquired ∷ [])) same refl
legal_ (suc o) d h = cc h

finished : (t : ℕ) → t ≢ 0 → Finished scene t (list_of recorded t) (firsts t) (lasts t) all
finished zero ne = absurd (ne refl)
finished (suc zero) ne = record { unused = λ o. refl; made = thread_path; taken = stays 1 all }
finished (suc (suc n)) ne =
    let t = suc (suc n) in
    let k : (suc (suc n) == 1) ≡ false = not_equal (suc (suc n)) 1 (λ e. omega (arith, e)) in
    let plain : Finished scene t [] all all all = record { unused = nobody n; made = λ first last. stays t all; taken = stays t all } in
    subst (λ h. Finished scene t [] h (lasts t) all) (sym (with-other others 1 t nothing k)) (subst (λ l. Finished scene t [] all l all) (sym (with-other others 1 t all k)) plain)

passes : FromPasses scene recorded
passes = runs_end scene recorded firsts lasts all main_path refl refl legal_ finished

-- ---- the texts

main_whole : IsWholeBy scene 0 all main_list
main_whole c agrees =
    subst
    (λ b. IsTrue (is_whole (option_and_then (λ k. option_and_then (λ l. option_and_then (λ m. after_items scene c 0 m (ok ∷ items.Control (controls.Join the_thread) ∷ ok ∷ [])) (moved scene b 0 l (items.Change the_semaphore 0 released))) (after_item scene c 0 k ok)) (after_item scene c 0 (local_at_start scene 0) (items.Control (controls.Start the_thread true))))))
    (sym (agrees 0 0 (objects.Semaphore 0 2) refl (omega arith)))
    refl

thread_whole : IsWholeBy scene 1 all thread_list
thread_whole c agrees =
    subst
    (λ b. IsTrue (is_whole (option_and_then (λ k. after_items scene c 1 k (ok ∷ [])) (moved scene b 1 (local_at_start scene 1) (items.Change the_semaphore 1 acquired)))))
    (sym (agrees 0 1 (objects.Semaphore 0 2) refl (omega arith)))
    refl

texts_ : (last : ℕ → Fronts) → last 0 ≡ all → last 1 ≡ all → (t : ℕ) (l : Option (List Item)) → slice_get recorded.lists t ≡ Some l → KeepsText scene recorded t (last t) l
texts_ last main_is thread_is zero l there =
    let same : Some main_list ≡ l = cc in
    subst (λ v. KeepsText scene recorded 0 (last 0) v) same (refl, subst (λ f. IsWholeBy scene 0 f main_list) (sym main_is) main_whole)
texts_ last main_is thread_is (suc zero) l there =
    let same : Some thread_list ≡ l = cc in
    subst (λ v. KeepsText scene recorded 1 (last 1) v) same (refl, subst (λ f. IsWholeBy scene 1 f thread_list) (sym thread_is) thread_whole)
texts_ last main_is thread_is (suc (suc t)) l there = cc there

formed_ : (t : ℕ) → AreItems scene t (list_of recorded t)
formed_ zero =
    items_first scene 0 (items.Control (controls.Start the_thread true)) (ok ∷ items.Change the_semaphore 0 released ∷ ok ∷ items.Control (controls.Join the_thread) ∷ ok ∷ []) refl
    (items_first scene 0 ok (items.Change the_semaphore 0 released ∷ ok ∷ items.Control (controls.Join the_thread) ∷ ok ∷ []) refl
    (items_first scene 0 (items.Change the_semaphore 0 released) (ok ∷ items.Control (controls.Join the_thread) ∷ ok ∷ []) refl
    (items_first scene 0 ok (items.Control (controls.Join the_thread) ∷ ok ∷ []) refl
    (items_first scene 0 (items.Control (controls.Join the_thread)) (ok ∷ []) refl
    (items_first scene 0 ok [] refl (items_none scene 0))))))
formed_ (suc zero) = items_first scene 1 (items.Change the_semaphore 1 acquired) (ok ∷ []) refl (items_first scene 1 ok [] refl (items_none scene 1))
formed_ (suc (suc t)) = items_none scene (suc (suc t))

pub example : FromRun scene recorded
unfolding passes runs_end
example = record { passes = passes; version = refl; count = refl; texts = texts_ passes.last refl refl; formed = formed_ }
