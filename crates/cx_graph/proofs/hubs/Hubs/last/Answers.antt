use Rattle.std.proofs.Common.{◌≡◌, ◌+◌, ◌-◌, ◌*◌, ◌<◌, ◌≤◌, ℕ, Some, length, arith, sym, ◌∙◌, refl, subst}
use Rattle.std.specs.Prelude.{slice_get}
use Rattle.std.proofs.lemmas.Option.{slice_get_read}
use Rattle.cx_graph.specs.declared.give.Give.{Give}
use Rattle.cx_graph.specs.Hubs.{rank_of}
use Rattle.cx_graph.proofs.Hubbing.{last_found, none_found, other_found}
use Rattle.cx_graph.proofs.hubs.Hubs.last.Goals as goal

pub returns-then-count-eq0 : goal.returns-then-count-eq0
returns-then-count-eq0 c =
    let gs = c.args.self.now.gives.items in
    let same = c.group-group.ensures.value in
    let n = c.below-count.result in
    let low = subst (λ (m : ℕ). (k : ℕ) (g : Give) → k < n → slice_get gs k ≡ Some g → rank_of g < m * 4294967296 + c.args.bound) same c.below-count.ensures.low in
    let high = subst (λ (m : ℕ). (k : ℕ) (g : Give) → n ≤ k → slice_get gs k ≡ Some g → m * 4294967296 + c.args.bound ≤ rank_of g) same c.below-count.ensures.high in
    none_found gs c.args.self.now.rising c.args.class c.args.key c.args.bound n low high c.if-count-eq0.true

pub returns-then-group : goal.returns-then-group
returns-then-group c =
    let gs = c.args.self.now.gives.items in
    let same = c.group-group.ensures.value in
    let n = c.below-count.result in
    let low = subst (λ (m : ℕ). (k : ℕ) (g : Give) → k < n → slice_get gs k ≡ Some g → rank_of g < m * 4294967296 + c.args.bound) same c.below-count.ensures.low in
    let high = subst (λ (m : ℕ). (k : ℕ) (g : Give) → n ≤ k → slice_get gs k ≡ Some g → m * 4294967296 + c.args.bound ≤ rank_of g) same c.below-count.ensures.high in
    let last : n ≡ n - 1 + 1 = omega (arith, c.if-count-eq0.false) in
    let there : slice_get gs (n - 1) ≡ Some c.index-last.result.now = slice_get_read gs (length gs) (n - 1) c.index-last.result.now refl (omega (arith, c.if-count-eq0.false, c.below-count.ensures.within)) c.index-last.ensures in
    last_found gs c.args.self.now.rising c.args.class c.args.key c.args.bound n low high (n - 1) c.index-last.result.now c.group.ensures.key (omega (arith, c.ranges.key)) last there (sym c.group.ensures.value ∙ (c.if-group.true ∙ same))

pub returns-else-group : goal.returns-else-group
returns-else-group c =
    let gs = c.args.self.now.gives.items in
    let same = c.group-group.ensures.value in
    let n = c.below-count.result in
    let low = subst (λ (m : ℕ). (k : ℕ) (g : Give) → k < n → slice_get gs k ≡ Some g → rank_of g < m * 4294967296 + c.args.bound) same c.below-count.ensures.low in
    let high = subst (λ (m : ℕ). (k : ℕ) (g : Give) → n ≤ k → slice_get gs k ≡ Some g → m * 4294967296 + c.args.bound ≤ rank_of g) same c.below-count.ensures.high in
    let last : n ≡ n - 1 + 1 = omega (arith, c.if-count-eq0.false) in
    let there : slice_get gs (n - 1) ≡ Some c.index-last.result.now = slice_get_read gs (length gs) (n - 1) c.index-last.result.now refl (omega (arith, c.if-count-eq0.false, c.below-count.ensures.within)) c.index-last.ensures in
    other_found gs c.args.self.now.rising c.args.class c.args.key c.args.bound n low high (omega (arith, c.ranges.bound)) (n - 1) c.index-last.result.now c.group.ensures.place last there (λ e. c.if-group.false (c.group.ensures.value ∙ (e ∙ sym same)))
