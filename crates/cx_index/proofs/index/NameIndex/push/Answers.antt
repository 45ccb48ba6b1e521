use Rattle.std.proofs.Common.{◌≡◌, sym, ap, ◌∙◌, List, ℕ, None, arith}
use Rattle.std.specs.Prelude.{is_some}
use Rattle.std.specs.Ordering.{nat_cmp}
use Rattle.std.specs.Cmp.Lexicographic.{slice_cmp}
use Rattle.std.specs.BTreeMap.{get_by}
use Rattle.cx_index.proofs.Growing.{index_known, index_new, none_from}
use Rattle.cx_index.proofs.index.NameIndex.push.Goals as goal

pub invariant_of-self-then-contains_key : goal.invariant_of-self-then-contains_key
invariant_of-self-then-contains_key c =
    let same : c.as_slice.result.now ≡ c.in_ok-name.name.items = c.as_slice.ensures.value ∙ c.in_ok-key.ensures.items ∙ sym c.in_ok-name.ensures.items in
    index_known c.self.inside.names.items c.push.new.self.items c.in_ok-name.name c.self.inside.places c.self.invariant c.in_ok-push.ensures.items
    (ap (λ (l : List ℕ). is_some (get_by (λ k. slice_cmp nat_cmp l k.items) c.self.inside.places)) (sym same) ∙ sym c.contains_key.ensures ∙ c.if-contains_key.true)

pub invariant_of-self-in-Ok : goal.invariant_of-self-in-Ok
invariant_of-self-in-Ok c =
    let same : c.in_ok-name.name.items ≡ c.in_ok-key.key.items = c.in_ok-name.ensures.items ∙ sym c.in_ok-key.ensures.items in
    let none : get_by (λ k. slice_cmp nat_cmp c.in_ok-key.key.items k.items) c.self.inside.places ≡ None =
    ap (λ (l : List ℕ). get_by (λ k. slice_cmp nat_cmp l k.items) c.self.inside.places) (sym c.as_slice.ensures.value) ∙ none_from _ (sym c.contains_key.ensures ∙ c.if-contains_key.false) in
    index_new c.self.inside.names.items c.push.new.self.items c.in_ok-name.name c.self.inside.places c.self.invariant c.in_ok-push.ensures.items
    c.in_ok-key.key.items _ c.insert.new.self same (omega (arith, c.len-place.ensures, c.self.inside.names.ok.0)) none c.in-Ok.ensures.updates
