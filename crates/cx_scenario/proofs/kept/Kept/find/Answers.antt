use Rattle.std.proofs.Common.{sym, ap, ◌∙◌, map, List}
use Rattle.std.specs.Prelude.{slice_get}
use Rattle.cx_scenario.specs.declared.said.Said.{Said}
use Rattle.cx_scenario.specs.Seen.{filled}
use Rattle.cx_scenario.proofs.Found.{kept_none, kept_some, seen_at, item_copied}
use Rattle.cx_scenario.proofs.kept.Kept.find.Goals as goal

pub returns-in-None : goal.returns-in-None
returns-in-None c = rw (← c.self.view_is) (kept_none c.self.inside.names (map filled c.self.inside.lines.items) c.self.invariant c.args.name.now (sym c.find.ensures ∙ c.in-None.is))

pub returns-in-Some : goal.returns-in-Some
returns-in-Some c = rw (← c.self.view_is)
    (seen_at c.self.inside.lines.items c.in-Some.place c.get.result (item_copied c.deref.result.now c.in-Some.place c.get.result c.get.ensures.lookup ∙ ap (λ (ks : List Said). slice_get ks c.in-Some.place) c.deref.ensures.value)
    ∙ kept_some c.self.inside.names (map filled c.self.inside.lines.items) c.self.invariant c.args.name.now c.in-Some.place (sym c.find.ensures ∙ c.in-Some.is))
