use Rattle.std.proofs.Common.{◌≡◌, ℕ, List, Option, Some, sym, ◌∙◌, subst}
use Rattle.std.specs.Prelude.{slice_get}
use Rattle.cx_races.specs.declared.reporting.Pair.{Pair}
use Rattle.cx_races.specs.Races.{IsPartner}
use Rattle.cx_races.proofs.Pairs.{says_closed, says_alone, says_pair, set_one, open_within}
use Rattle.cx_races.proofs.reporting.put_pair.Goals as goal

pub returns-then-not-empty-clause-says : goal.returns-then-not-empty-clause-says
returns-then-not-empty-clause-says c = λ s r is are so_far.
    says_closed s r c.args.accesses.now c.args.i c.access_at-a.result c.args.entries.now.items c.access_at-a.ensures (sym c.is_open-empty.ensures ∙ c.if-not-empty.true) so_far

pub put_entry-requires : goal.put_entry-requires
put_entry-requires c = open_within c.args.entries.now.items c.access_at-a.result.var (sym c.is_open-empty.ensures ∙ c.if-not-empty.false)

pub returns-in-None-clause-says : goal.returns-in-None-clause-says
returns-in-None-clause-says c = λ s r is are so_far.
    says_alone s r c.args.accesses.now c.args.i c.access_at-a.result c.args.entries.now.items c.access_at-a.ensures
    (subst (λ (o : Option ℕ). IsPartner s r c.args.accesses.now c.access_at-a.result.var c.args.i o) c.in-None.is (c.partner_of-found.ensures s r c.access_at-a.result is are c.access_at-a.ensures)) so_far

pub returns-in_ok-pair-in-Some-clause-says : goal.returns-in_ok-pair-in-Some-clause-says
returns-in_ok-pair-in-Some-clause-says c = λ s r is are so_far.
    let es = c.args.entries.now.items in
    let a = c.access_at-a.result in
    let p = c.in_ok-pair-in-Some.pair in
    says_pair s r c.args.accesses.now c.args.i c.in-Some.j a es c.put_entry.new.entries.items p c.access_at-a.ensures (sym c.is_open-empty.ensures ∙ c.if-not-empty.false)
    (subst (λ (o : Option ℕ). IsPartner s r c.args.accesses.now a.var c.args.i o) c.in-Some.is (c.partner_of-found.ensures s r a is are c.access_at-a.ensures)) c.in_ok-pair-in-Some.ensures
    (λ v e there. set_one es a.var (Some p) v e (subst (λ (xs : List (Option Pair)). slice_get xs v ≡ Some e) c.put_entry.ensures there)) so_far
