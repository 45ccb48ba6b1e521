use Rattle.std.proofs.Common.{◌≡◌, ℕ, ◌<◌, ◌∙◌, sym, refl, subst, get_or}
use Rattle.std.specs.Vec.{with_item}
use Rattle.std.proofs.lemmas.Grind.{get_or_default_zero}
use Rattle.cx_graph.specs.Marks.{mark_of}
use Rattle.cx_graph.proofs.Spreading.{marks_one, marks_none, some_of}
use Rattle.cx_graph.proofs.marks.Marks.mark.Goals as goal

pub returns-in_ok-push : goal.returns-in_ok-push
returns-in_ok-push c =
    let read : get_or c.args.self.now.values.items c.args.b c.index.result.now ≡ get_or c.args.self.now.values.items c.args.b 0 = get_or_default_zero c.args.self.now.values.items c.args.b c.index.result.now c.requires.node in
    marks_one c.args.self.now (record { values = with_item c.args.self.now.values c.args.b c.args.value; waiting = c.push.new.self }) c.args.b c.args.value c.requires.node (sym read ∙ (sym c.index.ensures ∙ c.if-index-eq0.true)) c.requires.value refl c.in_ok-push.ensures.items

pub returns-else-index-eq0 : goal.returns-else-index-eq0
returns-else-index-eq0 c =
    let read : get_or c.args.self.now.values.items c.args.b c.index.result.now ≡ get_or c.args.self.now.values.items c.args.b 0 = get_or_default_zero c.args.self.now.values.items c.args.b c.index.result.now c.requires.node in
    marks_none c.args.self.now (λ x. x ≡ c.args.b) c.args.value (λ x same. let p : 0 < mark_of c.args.self.now c.args.b = some_of (mark_of c.args.self.now c.args.b) (λ e. c.if-index-eq0.false (c.index.ensures ∙ (read ∙ e))) in subst (λ (n : ℕ). 0 < mark_of c.args.self.now n) (sym same) p)
