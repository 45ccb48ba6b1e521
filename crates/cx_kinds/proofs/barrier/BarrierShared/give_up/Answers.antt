use Rattle.std.proofs.Common.{rules, Option, sym, subst}
use Rattle.cx_barrier.specs.declared.acts.Completing.{Completing}
use Rattle.cx_kinds.specs.Tokens.{IsBarrierToken}
use Rattle.cx_kinds.proofs.Owing.{owed_phase, given_up_owing}
use Rattle.cx_kinds.proofs.barrier.BarrierShared.give_up.Goals as goal

pub complete_phase-requires-clause-completing : goal.complete_phase-requires-clause-completing
complete_phase-requires-clause-completing g c =
    let old = c.args.token.now in
    owed_phase c.args.self.now old.pass old.completing c.in-Some.completing c.requires.token.0 (search rules) c.requires.token.1

pub returns-in-Some-clause-seen : goal.returns-in-Some-clause-seen
returns-in-Some-clause-seen g c = λ v a.
    let old = c.args.token.now in
    let d = given_up_owing c.args.self.now old.pass c.complete_phase.new.pass old.completing c.complete_phase.result c.complete_phase.ensures.made v a in
    (d.0, subst (λ (o : Option Completing). IsBarrierToken c.args.self.now (record { pass = c.complete_phase.new.pass; completing = o }) d.0) (sym c.take.ensures.after) d.1, d.2)
