-- One step of the loops that put a list of tasks on an agenda, the last first.
use Rattle.std.proofs.Common.{◌≡◌, ℕ, ◌+◌, ◌<◌, List, [], ◌∷◌, ◌++◌, length, take, drop, get_or, refl, ap, sym, ◌∙◌, append_assoc, arith, suc}
use Rattle.std.specs.Prelude.{reverse}
use Rattle.std.proofs.lemmas.List.{take_more, reverse-append, length-reverse, length-drop, take-append-drop, length-take-le, drop_at, take_at, take-take, length-append, append-nil}
use Rattle.cx_scene.specs.declared.declared.Thread.{Thread}
use Rattle.cx_items.specs.declared.task.Task.{Task}
use Rattle.cx_items.specs.Calls.{each_thread, unlock}
use Rattle.cx_items.specs.Next.{unlocks}

pub each_thread-push : (f : ℕ → Thread → List Task) (i : ℕ) (us : List Thread) (u : Thread) → each_thread f i (us ++ u ∷ []) ≡ f (i + length us) u ++ each_thread f i us
each_thread-push f i [] u = let e : i + 0 ≡ i = omega arith in rw e (sym (append-nil (f i u)))
each_thread-push f i (v ∷ us) u =
    let e : i + 1 + length us ≡ i + suc (length us) = omega arith in
    ap (λ ts. ts ++ f i v) (each_thread-push f (i + 1) us u ∙ ap (λ k. f k u ++ each_thread f (i + 1) us) e) ∙ append_assoc (f (i + suc (length us)) u) (each_thread f (i + 1) us) (f i v)

pub thread_more : (f : ℕ → Thread → List Task) (us : List Thread) (i : ℕ) (u : Thread) → i < length us → each_thread f 0 (take (i + 1) us) ≡ f i (get_or us i u) ++ each_thread f 0 (take i us)
thread_more f us i u h =
    let e : 0 + length (take i us) ≡ i = omega (arith, length-take-le i us (omega arith)) in
    ap (λ vs. each_thread f 0 vs) (take_more us i u h) ∙ (each_thread-push f 0 (take i us) (get_or us i u) ∙ ap (λ k. f k (get_or us i u) ++ each_thread f 0 (take i us)) e)

pub thread_next : (f : ℕ → Thread → List Task) (us : List Thread) (i n : ℕ) (u : Thread) (old front now : List Task) → i < length us → n ≡ i → u ≡ get_or us i u → front ≡ each_thread f 0 (take i us) ++ old → now ≡ f n u ++ front → now ≡ each_thread f 0 (take (i + 1) us) ++ old
thread_next f us i n u old front now h ni at_ front_is now_is =
    now_is
    ∙ (ap (λ k. f k u ++ front) ni
    ∙ (ap (λ ts. f i u ++ ts) front_is
    ∙ (sym (append_assoc (f i u) (each_thread f 0 (take i us)) old)
    ∙ ap (λ ts. ts ++ old) (ap (λ v. f i v ++ each_thread f 0 (take i us)) at_ ∙ sym (thread_more f us i u h)))))

pub unlocks_more : (xs : List ℕ) (i : ℕ) → i < length xs → unlocks (reverse (take (i + 1) xs)) ≡ unlock (record { 0 = get_or xs i 0 }) ∷ unlocks (reverse (take i xs))
unlocks_more xs i h = ap (λ ys. unlocks (reverse ys)) (take_more xs i 0 h) ∙ ap unlocks (reverse-append (take i xs) (get_or xs i 0 ∷ []))

pub drop_reverse : (ts : List Task) (n k : ℕ) → n + k ≡ length ts → drop k (reverse ts) ≡ reverse (take n ts)
drop_reverse ts n k h =
    let e : length (reverse (drop n ts)) ≡ k = omega (arith, length-reverse (drop n ts), length-drop n ts) in
    ap (λ us. drop k (reverse us)) (sym (take-append-drop n ts)) ∙ (ap (λ us. drop k us) (reverse-append (take n ts) (drop n ts)) ∙ drop_at (reverse (drop n ts)) (reverse (take n ts)) k e)

-- what is left below the task at a depth: us is cut below n, and x taken from its end
pub below : (ts us vs : List Task) (x : Task) (n depth : ℕ) → depth < length ts → n + depth ≡ length ts → us ≡ take n ts → us ≡ vs ++ x ∷ [] → reverse vs ≡ drop (depth + 1) (reverse ts)
below ts us vs x n depth h count cut end_ =
    let len : length vs + 1 ≡ n = omega (arith, ap length cut, ap length end_, length-take-le n ts (omega arith), length-append vs (x ∷ [])) in
    let front : take (length vs) us ≡ vs = ap (λ ws. take (length vs) ws) end_ ∙ take_at vs (x ∷ []) (length vs) refl in
    let kept : vs ≡ take (length vs) ts = sym front ∙ (ap (λ ws. take (length vs) ws) cut ∙ take-take (length vs) n ts (omega arith)) in
    ap reverse kept ∙ sym (drop_reverse ts (length vs) (depth + 1) (omega arith))
