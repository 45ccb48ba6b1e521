use Rattle.std.proofs.Common.{Some, None, sym, ◌∙◌, subst, arith, Bool}
use Rattle.cx_order.specs.Edges.{Tells}
use Rattle.cx_races.specs.declared.access.Access.{Access}
use Rattle.cx_races.specs.Races.{Races, IsPartner}
use Rattle.cx_races.proofs.Pairs.{some_is, none_more, is_partner, no_partner}
use Rattle.cx_races.proofs.reporting.partner.Goals as goal

pub loop-j-init : goal.loop-j-init
loop-j-init c = λ s r is are k low p. let up = p.in_order in omega (arith, up, low)

pub loop-j-preserved : goal.loop-j-preserved
loop-j-preserved c = λ s r is are.
    none_more s r c.args.accesses.now c.args.i c.loop-j.j c.access_at-a.result c.access_at-b.result c.access_at-a.ensures c.access_at-b.ensures (c.loop-j.invariant s r is are)
    (subst (λ (b : Bool). Tells b (Races s r c.access_at-a.result c.access_at-b.result)) c.if-races.false (c.race-races.ensures s r is (are c.args.i c.access_at-a.result c.access_at-a.ensures) (are c.loop-j.j c.access_at-b.result c.access_at-b.ensures)))

pub returns-then-races : goal.returns-then-races
returns-then-races c = λ s r a is are there.
    subst (λ (x : Access). IsPartner s r c.args.accesses.now x.var c.args.i (Some c.loop-j.j)) (some_is c.access_at-a.result a (sym c.access_at-a.ensures ∙ there))
    (is_partner s r c.args.accesses.now c.args.i c.loop-j.j c.access_at-a.result c.access_at-b.result c.access_at-a.ensures c.access_at-b.ensures (let low = c.loop-j.auto.j in omega (arith, low)) (c.loop-j.invariant s r is are)
    (subst (λ (b : Bool). Tells b (Races s r c.access_at-a.result c.access_at-b.result)) c.if-races.true (c.race-races.ensures s r is (are c.args.i c.access_at-a.result c.access_at-a.ensures) (are c.loop-j.j c.access_at-b.result c.access_at-b.ensures))))

pub returns : goal.returns
returns c = λ s r a is are there.
    subst (λ (x : Access). IsPartner s r c.args.accesses.now x.var c.args.i None) (some_is c.access_at-a.result a (sym c.access_at-a.ensures ∙ there))
    (no_partner s r c.args.accesses.now c.access_at-a.result.var c.args.i c.loop-j.j c.loop-j-test.false (c.loop-j.invariant s r is are))
