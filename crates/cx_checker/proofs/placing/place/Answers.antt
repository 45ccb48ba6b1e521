use Rattle.std.proofs.Common.{map, ap, sym, subst, ◌∙◌, length, slice_get, Some, ℕ, List, ◌≤◌}
use Rattle.std.proofs.lemmas.List.{length-map}
use Rattle.cx_checker.specs.declared.placing.Slot.{Slot}
use Rattle.cx_checker.specs.Views.{placed_of}
use Rattle.cx_checker.proofs.Placings.{slots_begin, slots_go_on, slots_end, long_still}
use Rattle.cx_checker.proofs.placing.place.Goals as goal

pub loop-i-init : goal.loop-i-init
loop-i-init c = record { count = c.in_ok-slots.ensures.count; each = slots_begin (map placed_of c.args.changes.now) c.in_ok-slots.slots.items c.in_ok-slots.ensures.free }

pub loop-i-preserved : goal.loop-i-preserved
loop-i-preserved c = record {
  count = long_still _ _ _ _ c.put.ensures ∙ c.loop-i.invariant.count;
  each = slots_go_on (map placed_of c.args.changes.now) c.loop-i.i c.in_ok-index.index (placed_of c.change_at-change.result) c.loop-i.slots.items c.put.new.slots.items c.change_at-change.ensures c.in_ok-index.ensures c.put.ensures c.loop-i.invariant.each;
}

pub returns : goal.returns
returns c = slots_end (map placed_of c.args.changes.now) c.loop-i.i c.loop-i.slots.items (subst (λ (n : ℕ). n ≤ c.loop-i.i) (sym (length-map c.args.changes.now placed_of)) c.loop-i-test.false) (c.loop-i.invariant.count ∙ sym (length-map c.args.changes.now placed_of)) c.loop-i.invariant.each
