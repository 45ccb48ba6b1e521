-- A thread goes on to its next call, or to the end of its body.
use Rattle.std.proofs.Common.{◌≡◌, ℕ, ◌+◌, ◌<◌, ◌≤◌, List, [], ◌∷◌, ◌++◌, length, drop, get_or, ap, sym, ◌∙◌}
use Rattle.std.proofs.lemmas.List.{drop_more, drop_all, append-nil}
use Rattle.cx_names.specs.declared.Reply.{Reply}
use Rattle.cx_scene.specs.declared.call.Call.{Call}
use Rattle.cx_scene.specs.Scene.{Scene, body_of}
use Rattle.cx_items.specs.declared.task.Task.{Task}
use Rattle.cx_items.specs.declared.local.Local.{Local as Place}
use Rattle.cx_items.specs.Memory.{settled}
use Rattle.cx_items.specs.Calls.{opened, end_tasks}
use Rattle.cx_items.specs.Next.{next_tasks, next_call, past}
use Rattle.cx_items.specs.Steps.{local_of}

here : (calls : List Call) (n : ℕ) (c : Call) → n < length calls → c ≡ get_or calls n c → drop n calls ≡ c ∷ drop (n + 1) calls
here calls n c h e = drop_more calls n c h ∙ ap (λ k. k ∷ drop (n + 1) calls) (sym e)

pub opens_call : (s : Scene) (t : ℕ) (p : Place) (c : Call) (agenda : List Task) → p.next_call < length (body_of s t) → c ≡ get_or (body_of s t) p.next_call c → agenda ≡ opened s t p.next_call p.memory c ++ [] → local_of s t (record p { agenda = agenda }) ≡ next_call s t (local_of s t p)
opens_call s t p c agenda h e is_ =
    let whole : agenda ≡ next_tasks s t (local_of s t p) (drop p.next_call (body_of s t)) = is_ ∙ (append-nil (opened s t p.next_call p.memory c) ∙ sym (ap (λ cs. next_tasks s t (local_of s t p) cs) (here (body_of s t) p.next_call c h e))) in
    ap (λ ts. local_of s t (record p { agenda = ts })) whole

pub opens_end : (s : Scene) (t : ℕ) (p : Place) (agenda : List Task) → length (body_of s t) ≤ p.next_call → agenda ≡ end_tasks s t p.memory ++ [] → local_of s t (record p { agenda = agenda }) ≡ next_call s t (local_of s t p)
opens_end s t p agenda h is_ =
    let whole : agenda ≡ next_tasks s t (local_of s t p) (drop p.next_call (body_of s t)) = is_ ∙ (append-nil (end_tasks s t p.memory) ∙ sym (ap (λ cs. next_tasks s t (local_of s t p) cs) (drop_all p.next_call (body_of s t) h))) in
    ap (λ ts. local_of s t (record p { agenda = ts })) whole

pub passes_call : (s : Scene) (t : ℕ) (p : Place) (c : Call) (r : Reply) → p.next_call < length (body_of s t) → c ≡ get_or (body_of s t) p.next_call c → local_of s t (record p { memory = settled c r p.memory; next_call = p.next_call + 1 }) ≡ past (local_of s t p) r (drop p.next_call (body_of s t))
passes_call s t p c r h e = sym (ap (λ cs. past (local_of s t p) r cs) (here (body_of s t) p.next_call c h e))

pub passes_none : (s : Scene) (t : ℕ) (p : Place) (r : Reply) → length (body_of s t) ≤ p.next_call → local_of s t p ≡ past (local_of s t p) r (drop p.next_call (body_of s t))
passes_none s t p r h = sym (ap (λ cs. past (local_of s t p) r cs) (drop_all p.next_call (body_of s t) h))
