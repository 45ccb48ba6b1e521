use Rattle.std.proofs.Common.{◌≡◌, ◌∙◌, ◌≤◌, ◌<◌, ℕ, sym, subst, inl, arith}
use Rattle.cx_machine.specs.Semaphore.{Semaphore, opening}
use Rattle.cx_turn.specs.declared.view.View.{View}
use Rattle.cx_turn.specs.Views.{IsIn, opening_view, split_left, split_right, both_of, less_share, given, having_met}
use Rattle.cx_turn.proofs.Histories.{head_is}
use Rattle.cx_object_tests.proofs.cell.end_with_two.Goals as goal

-- the first pass and the second after the split
abbrev one : View Semaphore
one = split_left (opening_view (opening 1 2) 2 10 0) 1

abbrev two : View Semaphore
two = split_right (opening_view (opening 1 2) 2 10 0) 1

-- the two once they met and nothing was given, and the first at the end
abbrev met : View Semaphore
met = having_met two one

abbrev rest : View Semaphore
rest = less_share one 0

abbrev more : View Semaphore
more = given met one 0

abbrev both : View Semaphore
both = both_of rest more

pub meet-requires-clause-from : goal.meet-requires-clause-from
meet-requires-clause-from c = (one, c.split-second.ensures.first _ c.in_ok-cell.ensures.0)

pub meet-requires-clause-to : goal.meet-requires-clause-to
meet-requires-clause-to c = (two, c.split-second.ensures.second _ c.in_ok-cell.ensures.0)

pub give-requires-clause-from : goal.give-requires-clause-from
give-requires-clause-from c = let a = c.split-second.ensures.first _ c.in_ok-cell.ensures.0 in (one, c.meet.ensures.from one a)

pub give-requires-clause-to : goal.give-requires-clause-to
give-requires-clause-to c = let a = c.split-second.ensures.first _ c.in_ok-cell.ensures.0 in let b = c.split-second.ensures.second _ c.in_ok-cell.ensures.0 in (met, c.meet.ensures.to one two a b)

pub join-requires-clause-pass : goal.join-requires-clause-pass
join-requires-clause-pass c = let a = c.split-second.ensures.first _ c.in_ok-cell.ensures.0 in (rest, c.give.ensures.from one (c.meet.ensures.from one a))

pub join-requires-clause-other : goal.join-requires-clause-other
join-requires-clause-other c =
    let a = c.split-second.ensures.first _ c.in_ok-cell.ensures.0 in let b = c.split-second.ensures.second _ c.in_ok-cell.ensures.0 in
    (more, c.give.ensures.to one met (c.meet.ensures.from one a) (c.meet.ensures.to one two a b))

pub close-requires-clause-pass : goal.close-requires-clause-pass
close-requires-clause-pass c =
    let a = c.split-second.ensures.first _ c.in_ok-cell.ensures.0 in let b = c.split-second.ensures.second _ c.in_ok-cell.ensures.0 in
    let d = c.meet.ensures.from one a in
    (both, c.join.ensures rest more (c.give.ensures.from one d) (c.give.ensures.to one met d (c.meet.ensures.to one two a b)))

pub close-requires-clause-first : goal.close-requires-clause-first
close-requires-clause-first c =
    let a = c.split-second.ensures.first _ c.in_ok-cell.ensures.0 in let b = c.split-second.ensures.second _ c.in_ok-cell.ensures.0 in
    let d = c.meet.ensures.from one a in
    sym (c.join.ensures rest more (c.give.ensures.from one d) (c.give.ensures.to one met d (c.meet.ensures.to one two a b))).numbered

pub close-requires-clause-all : goal.close-requires-clause-all
close-requires-clause-all c x is =
    let a = c.split-second.ensures.first _ c.in_ok-cell.ensures.0 in let b = c.split-second.ensures.second _ c.in_ok-cell.ensures.0 in
    let d = c.meet.ensures.from one a in
    let j = c.join.ensures rest more (c.give.ensures.from one d) (c.give.ensures.to one met d (c.meet.ensures.to one two a b)) in
    let same : ◌≡◌ {A = View Semaphore} both x = head_is both x (sym j.views ∙ is.views) in
    subst (λ (y : View Semaphore). (n : ℕ) → 0 < n → n ≤ y.splits → IsIn n y.taken) same (λ n far low. inl (omega (arith, far, low)))
