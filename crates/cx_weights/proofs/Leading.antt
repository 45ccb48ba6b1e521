-- Each item that is allowed leaves a thread where its tasks come to a reply, or no call is left.
use Rattle.std.proofs.Common.{◌≡◌, ℕ, ◌+◌, ◌==◌, ◌&&◌, ℤ, pos, Bool, true, false, List, [], ◌∷◌, ◌++◌, map, length, reverse, take, drop, Option, Some, None, option_map, slice_get, if◌then◌else◌, refl, ap, ◌∙◌, subst}
use Rattle.std.specs.List.{list_all}
use Rattle.std.proofs.lemmas.Bool.{and_parts}
use Rattle.cx_names.specs.declared.ObjectNo.{ObjectNo}
use Rattle.cx_names.specs.declared.Reply.{Reply}
use Rattle.cx_names.specs.declared.Reply.TheVariants as replies
use Rattle.cx_machine.specs.declared.kind.Op.TheVariants as ops
use Rattle.cx_scene.specs.declared.declared.Object.{Object}
use Rattle.cx_scene.specs.declared.declared.Object.TheVariants as objects
use Rattle.cx_scene.specs.declared.declared.Policy.TheVariants as policies
use Rattle.cx_scene.specs.declared.declared.Thread.{Thread}
use Rattle.cx_scene.specs.declared.declared.Thread.TheVariants as threads
use Rattle.cx_scene.specs.declared.call.Call.{Call}
use Rattle.cx_scene.specs.declared.call.Predicate.{Predicate}
use Rattle.cx_scene.specs.Scene.{Scene, body_of}
use Rattle.cx_items.specs.declared.item.Item.{Item}
use Rattle.cx_items.specs.declared.item.Item.TheVariants as items
use Rattle.cx_items.specs.declared.form.Wanted.TheVariants.{Just}
use Rattle.cx_items.specs.declared.form.Form.{Form}
use Rattle.cx_items.specs.declared.form.Form.TheVariants.{Change, Begin}
use Rattle.cx_items.specs.declared.form.Forms.TheVariants.{Two}
use Rattle.cx_items.specs.declared.task.StopWait.{StopWait}
use Rattle.cx_items.specs.declared.task.Task.{Task}
use Rattle.cx_items.specs.declared.task.Task.TheVariants.{Makes, Answers, Says, Arrives, ArrivesAndWaits, ArrivesAndDrops, Completes, CallsOnce, LocksFrom, LocksRest, TriesAll, Tests, RegistersWait, AsksStop, TestsStop, TestsLast, AsksAgain, Requests, Drains, Registers, Launches}
use Rattle.cx_items.specs.Form.{forms_in, change, fits, is_number, same_words, is_registered_on}
use Rattle.cx_items.specs.Memory.{memory_at_start, remembering}
use Rattle.cx_items.specs.Calls.{one, small_forms, waits}
use Rattle.cx_items.specs.Next.{Local, Alternative, goes, to, says, has_turns, turned, next_tasks, next_call, past, replied, callback_tasks, begun, passes, ends, enters, unlocks, backs_off, completion, alternatives, offered_by, offered, or_then, reached, due, with_due, with_item, moved, start_of_body, local_at_start}
use Rattle.cx_weights.specs.Weights.{is_replying}
use Rattle.cx_weights.proofs.Agendas.{is_free, is_free_task, leads, is_last, is_found, Passing, pass_then, passing-if, passing-unlocks, passing_callback, leads_end, leads_opened}

-- what a thread must keep to come to the end of its text
pub record IsLeading (s : Scene) (l : Local) : Type 0 where
  pub agenda : leads (is_last l.calls) l.agenda ≡ true
  pub calls : list_all (is_found s) l.calls ≡ true

abbrev AreFound : Scene → Local → Type 0
AreFound s l = list_all (is_found s) l.calls ≡ true

-- ---- the next call

leading_next : (s : Scene) (t : ℕ) (l : Local) → AreFound s l → IsLeading s (next_call s t l)
leading_next s t l h = record { agenda = go l.calls h; calls = h }
  where
    go : (cs : List Call) → list_all (is_found s) cs ≡ true → leads (is_last cs) (next_tasks s t l cs) ≡ true
    go [] k = leads_end s t l.memory
    go (c ∷ cs) k = leads_opened s false t l.number l.memory c (and_parts (is_found s c) (list_all (is_found s) cs) k).0

leading_replied : (s : Scene) (t : ℕ) (l : Local) (r : Reply) → AreFound s l → IsLeading s (replied s t l r)
leading_replied s t l r h = go l.calls h
  where
    go : (cs : List Call) → list_all (is_found s) cs ≡ true → IsLeading s (next_call s t (past l r cs))
    go [] k = leading_next s t l h
    go (c ∷ cs) k = leading_next s t (past l r (c ∷ cs)) (and_parts (is_found s c) (list_all (is_found s) cs) k).1

-- ---- alternatives

-- the word that a form leaves open: a callback that begins has a number
abbrev pub is_word_of : Form → Reply → Bool
is_word_of (Begin st) r = is_number r
is_word_of _ r = true

data AllLead (s : Scene) : List Alternative → Type 0 where
  no_more : AllLead s []
  and_more : (a : Alternative) (rest : List Alternative) → ((r : Reply) → is_word_of a.form r ≡ true → IsLeading s (a.next r)) → AllLead s rest → AllLead s (a ∷ rest)

lead-append : {s : Scene} (a b : List Alternative) → AllLead s a → AllLead s b → AllLead s (a ++ b)
lead-append [] b no_more k = k
lead-append (x ∷ xs) b (and_more x' xs' next h) k = and_more x (xs ++ b) next (lead-append xs b h k)

lead_one : {s : Scene} (a : Alternative) → ((r : Reply) → is_word_of a.form r ≡ true → IsLeading s (a.next r)) → AllLead s (a ∷ [])
lead_one a h = and_more a [] h no_more

lead_two : {s : Scene} (a b : Alternative) → ((r : Reply) → is_word_of a.form r ≡ true → IsLeading s (a.next r)) → ((r : Reply) → is_word_of b.form r ≡ true → IsLeading s (b.next r)) → AllLead s (a ∷ b ∷ [])
lead_two a b h k = and_more a (b ∷ []) h (lead_one b k)

lead_three : {s : Scene} (a b c : Alternative) → ((r : Reply) → is_word_of a.form r ≡ true → IsLeading s (a.next r)) → ((r : Reply) → is_word_of b.form r ≡ true → IsLeading s (b.next r)) → ((r : Reply) → is_word_of c.form r ≡ true → IsLeading s (c.next r)) → AllLead s (a ∷ b ∷ c ∷ [])
lead_three a b c h k m = and_more a (b ∷ c ∷ []) h (lead_two b c k m)

lead_makes : (s : Scene) (l : Local) (fs : List Form) → IsLeading s l → AllLead s (map (λ f. to f l) fs)
lead_makes s l [] q = no_more
lead_makes s l (f ∷ fs) q = and_more (to f l) (map (λ f. to f l) fs) (λ r k. q) (lead_makes s l fs q)

lead_answers : (s : Scene) (l : Local) (fs : List Form) → AreFound s l → AllLead s (map (λ f. record { form = f; next = says l }) fs)
lead_answers s l [] h = no_more
lead_answers s l (f ∷ fs) h = and_more (record { form = f; next = says l }) (map (λ f. record { form = f; next = says l }) fs) (λ r k. record { agenda = refl; calls = h }) (lead_answers s l fs h)

lead_completion : (s : Scene) (l : Local) (b : ObjectNo) (d : Option Object) → IsLeading s l → AllLead s (completion l b d)
lead_completion s l b (Some (objects.Barrier count (Some x))) q = lead_makes s (goes l (one (change b ops.Complete 0 replies.Ok) ∷ [])) (forms_in (small_forms x)) (record { agenda = q.agenda; calls = q.calls })
lead_completion s l b _ q = lead_one _ (λ r k. q)

-- ---- where alternatives lead

leading-either : (s : Scene) (b : Bool) (k l : Local) → IsLeading s k → IsLeading s l → IsLeading s (if b then k else l)
leading-either s true k l p q = p
leading-either s false k l p q = q

-- after tasks that are done on the way come others
leading_after : (s : Scene) (l : Local) (ts us : List Task) → Passing ts → leads (is_last l.calls) (us ++ l.agenda) ≡ true → AreFound s l → IsLeading s (goes l (ts ++ us))
leading_after s l ts us h k f = record { agenda = pass_then (is_last l.calls) ts us l.agenda h ∙ k; calls = f }

leading_backs_off : (s : Scene) (l : Local) (os : List ℕ) (k : ℕ) → AreFound s l → IsLeading s (backs_off l os k)
leading_backs_off s l os k f =
    let undone = passing-unlocks (reverse (take k os)) in
    leading-either s (has_turns l) _ _
    (leading_after s (turned l) (unlocks (reverse (take k os))) (LocksFrom (drop k os ++ take k os) ∷ []) undone refl f)
    (leading_after s l (unlocks (reverse (take k os))) (Says replies.Spent ∷ []) undone refl f)

leading_ends : (s : Scene) (l : Local) (w : StopWait) (r : Reply) → AreFound s l → IsLeading s (ends l w r)
leading_ends s l w r f =
    let off : List Task = Makes (Two (change w.stop ops.Deregister w.id replies.Removed) (change w.stop ops.Deregister w.id replies.Ran)) ∷ [] in
    leading_after s l (if w.queued then off else []) (Says r ∷ []) (passing-if w.queued off [] refl refl) refl f

leading_tests : (s : Scene) (l : Local) (c m : ObjectNo) (p : Predicate) (x : Reply) → AreFound s l → IsLeading s (if passes p x then says l replies.True else if has_turns l then goes (turned l) (waits s c m ++ Tests c m p ∷ []) else says l replies.Spent)
leading_tests s l c m p x f = leading-either s (passes p x) _ _ (record { agenda = refl; calls = f }) (leading-either s (has_turns l) _ _ (record { agenda = refl; calls = f }) (record { agenda = refl; calls = f }))

leading_tests_stop : (s : Scene) (l : Local) (w : StopWait) (x : Reply) → AreFound s l → IsLeading s (if passes w.test x then ends l w replies.True else if has_turns l then enters l w else ends l w replies.Spent)
leading_tests_stop s l w x f = leading-either s (passes w.test x) _ _ (leading_ends s l w replies.True f) (leading-either s (has_turns l) _ _ (record { agenda = refl; calls = f }) (leading_ends s l w replies.Spent f))

leading_begun : (s : Scene) (l : Local) (st : ObjectNo) (has_reply : Bool) (r : Reply) → is_number r ≡ true → (if has_reply then true else leads (is_last l.calls) l.agenda) ≡ true → AreFound s l → IsLeading s (begun s l st has_reply r)
leading_begun s l st has_reply (replies.Number id) n h f = leading_after s l (callback_tasks s l.memory id) (one (Change st ops.Finish id (pos 0) (Just replies.Ok)) ∷ Drains st has_reply ∷ []) (passing_callback s l.memory id) h f
leading_begun s l st has_reply _ n h f = cc

-- a request, or a callback list, that is done with
leading_word : (s : Scene) (l : Local) (has_reply : Bool) (r : Reply) → (if has_reply then true else leads (is_last l.calls) l.agenda) ≡ true → AreFound s l → IsLeading s (goes l (if has_reply then Says r ∷ [] else []))
leading_word s l true r h f = record { agenda = refl; calls = f }
leading_word s l false r h f = record { agenda = h; calls = f }

-- ---- every task

rest_leads : (task : Task) (last : Bool) (ts : List Task) → leads last (task ∷ ts) ≡ true → (if is_replying task then true else leads last ts) ≡ true
rest_leads task last ts h = (and_parts (is_free_task task) (if is_replying task then true else leads last ts) h).1

once_free : (f : Form) → (is_free f && true) ≡ true → is_free f ≡ true
once_free f h = (and_parts (is_free f) true h).0

lead : (s : Scene) (t : ℕ) (l : Local) (task : Task) → leads (is_last l.calls) (task ∷ l.agenda) ≡ true → AreFound s l → AllLead s (alternatives s t l task)
lead s t l (Makes fs) h f = lead_makes s l (forms_in fs) (record { agenda = rest_leads (Makes fs) (is_last l.calls) l.agenda h; calls = f })
lead s t l (Answers fs) h f = lead_answers s l (forms_in fs) f
lead s t l (Says r) h f = lead_one _ (λ q k. leading_replied s t l q f)
lead s t l (Arrives b n) h f = lead_two _ _ (λ p k. record { agenda = refl; calls = f }) (λ p k. record { agenda = refl; calls = f })
lead s t l (ArrivesAndWaits b) h f = lead_two _ _ (λ p k. record { agenda = refl; calls = f }) (λ p k. record { agenda = refl; calls = f })
lead s t l (ArrivesAndDrops b) h f = lead_two _ _ (λ p k. record { agenda = refl; calls = f }) (λ p k. record { agenda = refl; calls = f })
lead s t l (Completes b must) h f = lead_completion s l b (slice_get s.objects b.0) (record { agenda = h; calls = f })
lead s t l (CallsOnce o g r) h f = lead_two _ _ (λ p k. record { agenda = rw (once_free g h) refl; calls = f }) (λ p k. record { agenda = refl; calls = f })
lead s t l (LocksFrom os) h f = lead_one _ (λ r k. record { agenda = refl; calls = f })
lead s t l (LocksRest os n) h f = lead_two _ _ (λ r k. leading-either s (n + 1 == length os) _ _ (record { agenda = refl; calls = f }) (record { agenda = refl; calls = f })) (λ r k. leading_backs_off s l os n f)
lead s t l (TriesAll os n) h f = lead_two _ _ (λ r k. leading-either s (n + 1 == length os) _ _ (record { agenda = refl; calls = f }) (record { agenda = refl; calls = f })) (λ r k. leading_after s l (unlocks (reverse (take n os))) (Says (replies.Number (pos n)) ∷ []) (passing-unlocks (reverse (take n os))) refl f)
lead s t l (Tests c m p) h f = lead_one _ (λ x k. leading_tests s l c m p x f)
lead s t l (RegistersWait w) h f = lead_three _ _ _ (λ r k. record { agenda = refl; calls = f }) (λ r k. leading_after s l (callback_tasks s l.memory (pos w.id)) (one (change w.stop ops.Finish w.id replies.Ok) ∷ AsksStop w ∷ []) (passing_callback s l.memory (pos w.id)) refl f) (λ r k. record { agenda = refl; calls = f })
lead s t l (AsksStop w) h f = lead_two _ _ (λ r k. record { agenda = refl; calls = f }) (λ r k. record { agenda = refl; calls = f })
lead s t l (TestsLast w) h f = lead_one _ (λ x k. leading_ends s l w _ f)
lead s t l (TestsStop w) h f = lead_one _ (λ x k. leading_tests_stop s l w x f)
lead s t l (AsksAgain w) h f = lead_two _ _ (λ r k. record { agenda = refl; calls = f }) (λ r k. record { agenda = refl; calls = f })
lead s t l (Requests st has_reply) h f = lead_two _ _ (λ r k. record { agenda = h; calls = f }) (λ r k. leading_word s l has_reply replies.Already h f)
lead s t l (Drains st has_reply) h f = lead_two _ _ (λ r k. leading_begun s l st has_reply r k h f) (λ r k. leading_word s l has_reply replies.Made h f)
lead s t l (Registers st id) h f = lead_three _ _ _ (λ r k. record { agenda = refl; calls = f }) (λ r k. leading_after s l (callback_tasks s l.memory (pos id)) (one (change st ops.Finish id replies.Ok) ∷ Says replies.Ran ∷ []) (passing_callback s l.memory (pos id)) refl f) (λ r k. record { agenda = refl; calls = f })
lead s t l (Launches a u policies.Async) h f = lead_two _ _ (λ r k. record { agenda = refl; calls = f }) (λ r k. record { agenda = refl; calls = f })
lead s t l (Launches a u policies.Both) h f = lead_two _ _ (λ r k. record { agenda = refl; calls = f }) (λ r k. record { agenda = refl; calls = f })
lead s t l (Launches a u policies.Deferred) h f = lead_one _ (λ r k. record { agenda = refl; calls = f })

lead_offered : (s : Scene) (t : ℕ) (l : Local) (ts : List Task) → leads (is_last l.calls) ts ≡ true → AreFound s l → AllLead s (offered_by s t l ts)
lead_offered s t l [] h f = no_more
lead_offered s t l (Completes b false ∷ ts) h f =
    let after : Local = record l { agenda = ts } in
    lead-append (alternatives s t after (Completes b false)) (offered_by s t l ts) (lead s t after (Completes b false) h f) (lead_offered s t l ts h f)
lead_offered s t l (task ∷ ts) h f = lead s t (record l { agenda = ts }) task h f

-- ---- one item

begin_word : (id : ℤ) (r : Reply) (c : Bool) → (if c then Some (replies.Number id) else None) ≡ Some r → is_number r ≡ true
begin_word id r false h = cc
begin_word id r true h = let same : replies.Number id ≡ r = cc in subst (λ q. is_number q ≡ true) same refl

word_of_fit : (s : Scene) (f : Form) (x : Item) (r : Reply) → fits s f x ≡ Some r → is_word_of f r ≡ true
word_of_fit s (Begin o) (items.Change q p e) r h = begin_word e.a r ((o.0 == q.0) && same_words ops.Begin e.a (pos 0) (Just replies.Ok) e.op e.a e.b e.reply && is_registered_on s o e.a) h
word_of_fit s (Begin o) x r h = cc
word_of_fit s f x r h = refl

leading_reached : (s : Scene) (others : List Alternative) (x : Item) (k : Local) → AllLead s others → reached s others x ≡ Some k → IsLeading s k
leading_reached s [] x k h e = cc
leading_reached s (a ∷ others) x k (and_more a' rest next h) e = go (fits s a.form x) refl e (λ w. leading_reached s others x k h w)
  where
    go : (o : Option Reply) → fits s a.form x ≡ o → or_then (option_map a.next o) (reached s others x) ≡ Some k → (reached s others x ≡ Some k → IsLeading s k) → IsLeading s k
    go None p w later = later w
    go (Some r) p w later =
        let same : a.next r ≡ k = cc in
        subst (IsLeading s) same (next r (word_of_fit s a.form x r p))

leads_due : (last : Bool) (ts : List Task) → leads last (due ts) ≡ leads last ts
leads_due last [] = refl
leads_due last (Completes b must ∷ ts) = refl
leads_due last (task ∷ ts) = refl

leading_with_due : (s : Scene) (b : Bool) (l : Local) → IsLeading s l → IsLeading s (with_due b l)
leading_with_due s true l q = record { agenda = leads_due (is_last l.calls) l.agenda ∙ q.agenda; calls = q.calls }
leading_with_due s false l q = record { agenda = q.agenda; calls = q.calls }

pub leading_moved : (s : Scene) (completing : Bool) (t : ℕ) (l k : Local) (x : Item) → IsLeading s l → moved s completing t l x ≡ Some k → IsLeading s k
leading_moved s completing t l k x q h = go (reached s (offered s t l) x) refl h
  where
    go : (o : Option Local) → reached s (offered s t l) x ≡ o → option_map (with_item s completing x) o ≡ Some k → IsLeading s k
    go None p w = cc
    go (Some m) p w =
        let r = leading_reached s (offered s t l) x m (lead_offered s t l l.agenda q.agenda q.calls) p in
        let kept : IsLeading s (record m { memory = remembering s m.memory x }) = record { agenda = r.agenda; calls = r.calls } in
        let same : with_item s completing x m ≡ k = cc in
        subst (IsLeading s) same (leading_with_due s completing (record m { memory = remembering s m.memory x }) kept)

-- ---- the start

-- each call finds what it registers or launches, and the thread of an async has no calls
pub record Finds (s : Scene) : Type 0 where
  pub calls : (t : ℕ) → list_all (is_found s) (body_of s t) ≡ true
  pub launched : (t : ℕ) (o : ObjectNo) → slice_get s.threads t ≡ Some (threads.Launched o) → body_of s t ≡ []

pub leading_at_start : (s : Scene) (t : ℕ) → Finds s → IsLeading s (local_at_start s t)
leading_at_start s t finds = go (slice_get s.threads t) refl
  where
    of_body : IsLeading s (start_of_body s t)
    of_body = leading_next s t (record { memory = memory_at_start s t; agenda = []; calls = body_of s t; number = 0 }) (finds.calls t)

    go : (o : Option Thread) → slice_get s.threads t ≡ o → IsLeading s (local_at_start s t)
    go None e = rw e of_body
    go (Some threads.Plain) e = rw e of_body
    go (Some (threads.Stoppable o)) e = rw e of_body
    go (Some (threads.Launched o)) e = rw e (record { agenda = ap is_last (finds.launched t o e); calls = finds.calls t })
