-- A list that the text allows so far goes on to the end of the text.
use Rattle.std.proofs.Common.{◌≡◌, ℕ, zero, suc, ◌+◌, ◌==◌, ◌&&◌, ◌<◌, ◌≤◌, Bool, true, false, List, [], ◌∷◌, ◌++◌, length, Option, Some, None, option_and_then, option_map, if◌then◌else◌, refl, sym, ap, ◌∙◌, subst, arith}
use Rattle.std.specs.Prelude.{is_some}
use Rattle.std.proofs.lemmas.Bool.{and_parts}
use Rattle.cx_names.specs.declared.Reply.{Reply}
use Rattle.cx_names.specs.declared.Reply.TheVariants as replies
use Rattle.cx_machine.specs.declared.kind.Op.TheVariants as ops
use Rattle.cx_scene.specs.declared.call.Call.{Call}
use Rattle.cx_scene.specs.Scene.{Scene}
use Rattle.cx_script.specs.Script.{Script}
use Rattle.cx_script.specs.Numbered.{IsScript, numbered}
use Rattle.cx_items.specs.declared.item.Item.{Item}
use Rattle.cx_items.specs.declared.item.Item.TheVariants as items
use Rattle.cx_items.specs.declared.task.Task.{Task}
use Rattle.cx_items.specs.Form.{op_eq}
use Rattle.cx_items.specs.Next.{Local, offered, offered_by, is_due, with_item, moved, after_item, local_at_start}
use Rattle.cx_history.specs.Follows.{after_items, is_whole}
use Rattle.cx_weights.specs.Weights.{paid_by, earned_by, weight, is_replying, IsSized, says_so, is_true_item}
use Rattle.cx_weights.specs.Ends.{CanEnd}
use Rattle.cx_weights.proofs.Items.{each_item_weighs}
use Rattle.cx_weights.proofs.Starts.{starts_small}
use Rattle.cx_weights.proofs.Scripts.{script_is_small}
use Rattle.cx_weights.proofs.Agendas.{is_free_task, leads, is_last}
use Rattle.cx_weights.proofs.Leading.{IsLeading, leading_moved, leading_at_start}
use Rattle.cx_weights.proofs.Going.{all_asked, Goes, goes_on}
use Rattle.cx_weights.proofs.Known.{script_finds}

-- ---- from a place to the end

-- some items lead to the end
record Ends (s : Scene) (completes : ℕ → ℕ → Bool) (t : ℕ) (l : Local) : Type 0 where
  pub more : List Item
  pub whole : is_whole (after_items s completes t l more) ≡ true

over : (cs : List Call) (ts : List Task) → ts ≡ [] → leads (is_last cs) ts ≡ true → ((length ts == 0) && (length cs == 0)) ≡ true
over [] [] e h = refl
over (c ∷ cs) [] e h = cc
over cs (task ∷ ts) e h = cc

one_step : (s : Scene) (completes : ℕ → ℕ → Bool) (t : ℕ) (l k : Local) (x : Item) → after_item s completes t l x ≡ Some k → Ends s completes t k → Ends s completes t l
one_step s completes t l k x e r = record { more = x ∷ r.more; whole = ap (λ o. is_whole (option_and_then (λ m. after_items s completes t m r.more) o)) e ∙ r.whole }

smaller : (w v p e n : ℕ) → w + (1 + p) ≤ v + e → e ≡ 0 → v < suc n → w < n
smaller w v p e n h k m = omega (arith, h, k, m)

below_none : (n : ℕ) → n < 0 → ⊥
below_none n h = omega (arith, h)

more_than_itself : (n : ℕ) → n < suc n
more_than_itself n = omega arith

ends_within : (s : Scene) (completes : ℕ → ℕ → Bool) (t n : ℕ) (l : Local) → weight s all_asked l < n → IsSized l → IsLeading s l → Ends s completes t l
ends_within s completes t zero l below sized leading = absurd (below_none (weight s all_asked l) below)
ends_within s completes t (suc n) l below sized leading = go l.agenda refl (λ k. ends_within s completes t n k)
  where
    onward : (x : Item) (m : Local) → moved s (is_due completes x) t l x ≡ Some m → earned_by x ≡ 0 → is_true_item all_asked x ≡ true → ((k : Local) → weight s all_asked k < n → IsSized k → IsLeading s k → Ends s completes t k) → Ends s completes t l
    onward x m e earns true_ later =
        let falls = each_item_weighs s all_asked (is_due completes x) t l m x sized true_ e in
        one_step s completes t l m x e (later m (smaller (weight s all_asked m) (weight s all_asked l) (paid_by x) (earned_by x) n falls.less earns below) falls.sized (leading_moved s (is_due completes x) t l m x leading e))

    go : (ts : List Task) → l.agenda ≡ ts → ((k : Local) → weight s all_asked k < n → IsSized k → IsLeading s k → Ends s completes t k) → Ends s completes t l
    go [] e later = record { more = []; whole = over l.calls l.agenda e leading.agenda }
    go (task ∷ ts) e later =
        let lead : leads (is_last l.calls) (task ∷ ts) ≡ true = subst (λ v. leads (is_last l.calls) v ≡ true) e leading.agenda in
        let free = (and_parts (is_free_task task) (if is_replying task then true else leads (is_last l.calls) ts) lead).0 in
        let g : Goes s (offered s t l) = subst (λ v. Goes s (offered_by s t l v)) (sym e) (goes_on s t l task ts free) in
        onward g.item (with_item s (is_due completes g.item) g.item g.next) (ap (option_map (with_item s (is_due completes g.item) g.item)) g.is) g.earns g.is_true later

-- ---- after a list

-- what a look says of a stop
abbrev asked_by : Reply → Bool
asked_by replies.False = false
asked_by _ = true

abbrev asked_of : Item → ℕ → Bool
asked_of (items.Look o l) _ = asked_by l.reply
asked_of _ _ = true

says_so_itself : (r : Reply) → says_so r (asked_by r) ≡ true
says_so_itself replies.False = refl
says_so_itself replies.True = refl
says_so_itself _ = refl

true_where : (b : Bool) (r : Reply) → (if b then says_so r (asked_by r) else true) ≡ true
true_where true r = says_so_itself r
true_where false r = refl

true_there : (x : Item) → is_true_item (asked_of x) x ≡ true
true_there (items.Change o p e) = refl
true_there (items.Look o l) = true_where (op_eq l.op ops.StopRequested) l.reply
true_there (items.Control c) = refl
true_there (items.Said r) = refl

-- these items, and some more, lead to the end
record EndsAfter (s : Scene) (completes : ℕ → ℕ → Bool) (t : ℕ) (l : Local) (xs : List Item) : Type 0 where
  pub more : List Item
  pub whole : is_whole (after_items s completes t l (xs ++ more)) ≡ true

ends_after : (s : Scene) (completes : ℕ → ℕ → Bool) (t : ℕ) (xs : List Item) (l : Local) → IsSized l → IsLeading s l → is_some (after_items s completes t l xs) ≡ true → EndsAfter s completes t l xs
ends_after s completes t [] l sized leading h =
    let r = ends_within s completes t (suc (weight s all_asked l)) l (more_than_itself (weight s all_asked l)) sized leading in
    record { more = r.more; whole = r.whole }
ends_after s completes t (x ∷ xs) l sized leading h = go (after_item s completes t l x) refl h (λ m. ends_after s completes t xs m)
  where
    go : (o : Option Local) → after_item s completes t l x ≡ o → is_some (option_and_then (λ k. after_items s completes t k xs) o) ≡ true → ((m : Local) → IsSized m → IsLeading s m → is_some (after_items s completes t m xs) ≡ true → EndsAfter s completes t m xs) → EndsAfter s completes t l (x ∷ xs)
    go None e k later = cc
    go (Some m) e k later =
        let falls = each_item_weighs s (asked_of x) (is_due completes x) t l m x sized (true_there x) e in
        let r = later m falls.sized (leading_moved s (is_due completes x) t l m x leading e) k in
        record { more = r.more; whole = ap (λ v. is_whole (option_and_then (λ n. after_items s completes t n (xs ++ r.more)) v)) e ∙ r.whole }

pub so_far_can_end : (x : Script) (completes : ℕ → ℕ → Bool) (t : ℕ) (xs : List Item) → IsScript x → is_some (after_items (numbered x) completes t (local_at_start (numbered x) t) xs) ≡ true → CanEnd (numbered x) completes t xs
so_far_can_end x completes t xs is h =
    let s = numbered x in
    let start = starts_small s all_asked t (script_is_small x is) in
    let r = ends_after s completes t xs (local_at_start s t) start.sized (leading_at_start s t (script_finds x is)) h in
    record { more = r.more; whole = r.whole }
