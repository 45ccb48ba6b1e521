use Rattle.std.proofs.Common.{[], ◌∙◌, ◌++◌, List, ℕ, sym, ap, drop}
use Rattle.std.proofs.lemmas.List.{append-nil}
use Rattle.cx_text.specs.Views.{now_all}
use Rattle.cx_scenario.proofs.Short.{each_short}
use Rattle.cx_scenario.proofs.checks.each_words.Goals as goal

pub returns-in-empty : goal.returns-in-empty
returns-in-empty c =
    sym (append-nil (now_all c.loop-field.words.items))
    ∙ ap (λ (t : List (List ℕ)). now_all c.loop-field.words.items ++ t) (sym (each_short [] (drop c.loop-field.field-index c.args.fields.now) c.loop-field.rest.now c.in-empty.len_below))
    ∙ c.loop-field.invariant
