use Rattle.std.proofs.Common.{◌∙◌, ◌<◌, sym, subst, arith}
use Rattle.cx_turn.specs.Views.{opening_view, split_left, split_right}
use Rattle.cx_turn.specs.Passes.{IsPassWith, seats_of}
use Rattle.cx_object_tests.specs.GoesOn.{kept, counting}
use Rattle.cx_object_tests.proofs.turn.both.Goals as goal

pub start-requires-2-after_bounds : goal.start-requires-2-after_bounds
start-requires-2-after_bounds g c κs within =
    let f = c.split-other.ensures.first _ c.in_ok-gate.ensures.pass in
    let v = split_left (opening_view (kept c.new.result) 2 4 0) 1 in
    let e = c.in_ok-one.ensures ∙ c.in_ok-shared.ensures.ok in
    ((v, subst (λ t. IsPassWith kept counting t c.split-other.new.first v) (sym e) f), omega (arith, f.counted.may), subst (λ t. 1 < seats_of kept t) (sym e) (omega (arith, c.in_ok-gate.ensures.turn.1)))

pub start-requires-after_bounds : goal.start-requires-after_bounds
start-requires-after_bounds g c κs within =
    let f = c.split-other.ensures.second _ c.in_ok-gate.ensures.pass in
    let v = split_right (opening_view (kept c.new.result) 2 4 0) 1 in
    let e = c.in_ok-two.ensures ∙ c.in_ok-shared.ensures.ok in
    ((v, subst (λ t. IsPassWith kept counting t c.split-other.result v) (sym e) f), omega (arith, f.counted.may), subst (λ t. 1 < seats_of kept t) (sym e) (omega (arith, c.in_ok-gate.ensures.turn.1)))

pub end-len-requires-clause-first : goal.end-len-requires-clause-first
end-len-requires-clause-first g c =
    let v = split_left (opening_view (kept c.new.result) 2 4 0) 1 in
    let f = c.split-other.ensures.first _ c.in_ok-gate.ensures.pass in
    let e = c.in-Some-start.ensures.0 ∙ (c.in_ok-one.ensures ∙ c.in_ok-shared.ensures.ok) in
    let f1 = subst (λ t. IsPassWith kept counting t c.split-other.new.first v) (sym e) f in
    let f2 = subst (λ p. IsPassWith kept counting c.in-Some-start.a.promise.gate.value p v) (sym c.in-Some-start.ensures.1) f1 in
    let k = c.join-pass.ensures v f2 in
    let i = c.in-Some-into_inner.ensures ∙ c.in_ok-shared.ensures.ok in
    (k.0, subst (λ t. IsPassWith kept counting t c.join-pass.result.0 k.0) (e ∙ sym i) k.1, k.2.number, k.2.splits)

pub end-len-requires-clause-second : goal.end-len-requires-clause-second
end-len-requires-clause-second g c =
    let v = split_right (opening_view (kept c.new.result) 2 4 0) 1 in
    let f = c.split-other.ensures.second _ c.in_ok-gate.ensures.pass in
    let e = c.in-Some.ensures.0 ∙ (c.in_ok-two.ensures ∙ c.in_ok-shared.ensures.ok) in
    let f1 = subst (λ t. IsPassWith kept counting t c.split-other.result v) (sym e) f in
    let f2 = subst (λ p. IsPassWith kept counting c.in-Some.b.promise.gate.value p v) (sym c.in-Some.ensures.1) f1 in
    let k = c.join-other.ensures v f2 in
    let i = c.in-Some-into_inner.ensures ∙ c.in_ok-shared.ensures.ok in
    (k.0, subst (λ t. IsPassWith kept counting t c.join-other.result.0 k.0) (e ∙ sym i) k.1, k.2.number)
