use Rattle.std.proofs.Common.{◌≡◌, ◌∙◌, ◌+◌, ◌<◌, ◌≤◌, Some, length, refl, sym, arith}
use Rattle.std.specs.Prelude.{slice_get}
use Rattle.std.proofs.lemmas.Option.{slice_get_read}
use Rattle.cx_graph.specs.Hubs.{NextOf}
use Rattle.cx_graph.proofs.Adding.{adds_none}
use Rattle.cx_graph.proofs.Hubbing.{none_past, next_other, next_alike, group_apart}
use Rattle.cx_graph.proofs.graph.Graph.link_next.Goals as goal

pub returns-then-next-len : goal.returns-then-next-len
returns-then-next-len c =
    let gs = c.args.hubs.now.gives.items in
    let past : length gs ≤ c.args.x + 1 = omega (arith, c.if-next-len.true, c.len.ensures, c.args.hubs.now.gives.ok.0) in
    adds_none c.args.self.now.nodes.items (NextOf gs c.args.base c.args.x) (none_past gs c.args.base c.args.x past)

pub returns-then-group : goal.returns-then-group
returns-then-group c =
    let gs = c.args.hubs.now.gives.items in
    let low : c.args.x + 1 < length gs = omega (arith, c.if-next-len.false, c.len.ensures, c.args.hubs.now.gives.ok.0) in
    let there : slice_get gs c.args.x ≡ Some c.index-give.result.now = slice_get_read gs (length gs) c.args.x c.index-give.result.now refl c.requires.there c.index-give.ensures in
    let next : slice_get gs (c.args.x + 1) ≡ Some c.index-after.result.now = slice_get_read gs (length gs) (c.args.x + 1) c.index-after.result.now refl low c.index-after.ensures in
    adds_none c.args.self.now.nodes.items (NextOf gs c.args.base c.args.x) (next_other gs c.args.base c.args.x c.index-give.result.now there c.index-after.result.now next (λ same. c.if-group.true (c.group.ensures.value ∙ (same ∙ sym c.group-2.ensures.value))))

pub returns : goal.returns
returns c =
    let gs = c.args.hubs.now.gives.items in
    let low : c.args.x + 1 < length gs = omega (arith, c.if-next-len.false, c.len.ensures, c.args.hubs.now.gives.ok.0) in
    let there : slice_get gs c.args.x ≡ Some c.index-give.result.now = slice_get_read gs (length gs) c.args.x c.index-give.result.now refl c.requires.there c.index-give.ensures in
    let next : slice_get gs (c.args.x + 1) ≡ Some c.index-after.result.now = slice_get_read gs (length gs) (c.args.x + 1) c.index-after.result.now refl low c.index-after.ensures in
    next_alike gs c.args.base c.args.x c.index-give.result.now there c.args.self.now.nodes.items c.link.new.self.nodes.items c.index-after.result.now next (group_apart c.index-after.result.now c.index-give.result.now.class c.index-give.result.now.key c.group-2.ensures.key c.group.ensures.key (sym c.group-2.ensures.value ∙ (sym c.if-group.false ∙ c.group.ensures.value))) c.in_ok-link.ensures
