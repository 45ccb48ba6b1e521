use Rattle.std.proofs.Common.{◌≡◌, ◌<◌, ◌≤◌, ◌∙◌, ℕ, List, [], ◌∷◌, ◌++◌, true, sym, subst, inl, inr, arith, cond}
use Rattle.cx_machine.specs.Semaphore.{Semaphore}
use Rattle.cx_turn.specs.declared.view.View.{View}
use Rattle.cx_turn.specs.declared.view.Gone.{Gone}
use Rattle.cx_turn.specs.Views.{IsIn, both_of, gone_of}
use Rattle.cx_turn.proofs.Histories.{head_is}
use Rattle.cx_object_tests.proofs.turn.end.Goals as goal

in_last : (ys : List Gone) (g : Gone) (n : ℕ) → g.number ≡ n → IsIn n (ys ++ g ∷ [])
in_last [] g n e = inl e
in_last (y ∷ ys) g n e = inr (in_last ys g n e)

in_later : (xs ys : List Gone) (n : ℕ) → IsIn n ys → IsIn n (xs ++ ys)
in_later [] ys n i = i
in_later (x ∷ xs) ys n i = inr (in_later xs ys n i)

taken_is_in : (v w : View Semaphore) → w.counts ≡ true → w.number ≡ 1 → IsIn 1 (both_of v w).taken
taken_is_in v w c e = subst (λ b. IsIn 1 (cond b (v.taken ++ (w.taken ++ gone_of w.number w.mine ∷ [])) v.taken)) (sym c) (in_later v.taken _ 1 (in_last w.taken (gone_of w.number w.mine) 1 e))

pub close-requires-clause-pass : goal.close-requires-clause-pass
close-requires-clause-pass c = let f = c.requires.first in let s = c.requires.second in (both_of f.0 s.0, c.join.ensures f.0 s.0 f.1 s.1)

pub close-requires-clause-first : goal.close-requires-clause-first
close-requires-clause-first c = let f = c.requires.first in let s = c.requires.second in sym (c.join.ensures f.0 s.0 f.1 s.1).numbered ∙ f.2

pub close-requires-clause-all : goal.close-requires-clause-all
close-requires-clause-all c x is =
    let f = c.requires.first in let s = c.requires.second in
    let both : View Semaphore = both_of f.0 s.0 in
    let same : ◌≡◌ {A = View Semaphore} both x = head_is both x (sym (c.join.ensures f.0 s.0 f.1 s.1).views ∙ is.views) in
    subst (λ (y : View Semaphore). (n : ℕ) → 0 < n → n ≤ y.splits → IsIn n y.taken) same
    (λ n far low. let one : 1 ≡ n = (let e = f.3 in omega arith) in subst (λ m. IsIn m both.taken) one (taken_is_in f.0 s.0 s.1.counts s.2))
