use Rattle.std.proofs.Common.{◌≡◌, ◌∙◌, ◌+◌, ◌*◌, ℕ, ap, sym, subst, arith}
use Rattle.cx_stop.specs.declared.steps.Put.{Put}
use Rattle.cx_stop.specs.declared.steps.Put.TheVariants as puts
use Rattle.cx_stop.specs.Puts.{IsUnder}
use Rattle.cx_stop.specs.Stops.{HoldsId}
use Rattle.cx_stop_tests.proofs.singles.held.Goals as goal

pub deregister_only-requires-clause-holds : goal.deregister_only-requires-clause-holds
deregister_only-requires-clause-holds g c =
    let s = c.in_ok-state.state in let q = c.register_only.new.pass in
    let zero_is = c.in_ok-state.ensures.pass.pass.numbered in
    let id : c.in_ok-state.pass.pass.number.0 * 4096 + 5 ≡ 5 = omega (arith, zero_is) in
    let h = subst (λ z. IsUnder s q (c.in_ok-state.pass.pass.number.0 * 4096 + 5) z) c.in-Queued.is c.in-Ok.ensures.under in
    subst (λ (k : ℕ). HoldsId s q k) id h
