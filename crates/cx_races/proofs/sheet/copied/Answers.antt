use Rattle.std.proofs.Common.{◌++◌, ◌∷◌, [], List, sym, ◌∙◌, ap, subst}
use Rattle.std.proofs.lemmas.List.{take_all}
use Rattle.std.proofs.lemmas.Option.{slice_get_within, get_or_from_slice_get}
use Rattle.cx_graph.proofs.Numbers.{take_more}
use Rattle.cx_races.specs.declared.access.Access.{Access}
use Rattle.cx_races.specs.Sheets.{AreSmall}
use Rattle.cx_races.proofs.Lanes.{small_more, none_small}
use Rattle.cx_races.proofs.sheet.copied.Goals as goal

pub loop-i-init : goal.loop-i-init
loop-i-init c = record { same = c.new-copy.ensures.items; small = subst AreSmall (sym c.new-copy.ensures.items) none_small }

pub loop-i-preserved : goal.loop-i-preserved
loop-i-preserved c =
    let xs = c.args.accesses.now in
    let a = c.access_at-a.result in
    record {
      same = c.in_ok-put.ensures.put ∙ (ap (λ (ys : List Access). ys ++ a ∷ []) c.loop-i.invariant.same ∙ sym (take_more xs c.loop-i.i a (slice_get_within xs c.loop-i.i a c.access_at-a.ensures) (sym (get_or_from_slice_get xs c.loop-i.i a a c.access_at-a.ensures))));
      small = subst AreSmall (sym c.in_ok-put.ensures.put) (small_more c.loop-i.copy.items a c.loop-i.invariant.small c.put.ensures.small);
    }

pub returns-clause-same : goal.returns-clause-same
returns-clause-same c = c.loop-i.invariant.same ∙ take_all c.loop-i.i c.args.accesses.now c.loop-i-test.false
