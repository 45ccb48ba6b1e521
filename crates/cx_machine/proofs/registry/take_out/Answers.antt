use Rattle.std.proofs.Common.{◌≡◌, Some, None, sym, ◌∙◌}
use Rattle.cx_machine.specs.Values.{place_of}
use Rattle.cx_machine.proofs.Moving.{is_found, found_there}
use Rattle.cx_machine.proofs.registry.take_out.Goals as goal

pub returns-in_err-place-clause-taken : goal.returns-in_err-place-clause-taken
returns-in_err-place-clause-taken g c =
    let e : place_of c.args.values.now.items c.args.id ≡ None = rw c.deref.ensures.value at (sym c.place_of.ensures ∙ c.in_err-place.was) in
    absurd (is_found c.args.values.now.items c.args.id c.requires.0 e)

pub returns-clause-taken : goal.returns-clause-taken
returns-clause-taken g c =
    let e : place_of c.args.values.now.items c.args.id ≡ Some c.in_ok-place.place = rw c.deref.ensures.value at (sym c.place_of.ensures ∙ c.in_ok-place.was) in
    found_there c.args.values.now.items c.in_ok-place.place c.args.id c.remove-value.result _ c.requires e c.remove-value.ensures.value c.remove-value.ensures.items
