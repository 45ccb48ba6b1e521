use borrow.Author.Tests.{tests}
use Rattle.std.proofs.Common.{rules, ap, ◌∙◌, not, List, ℕ}
use Rattle.std.specs.Borrow.{Bor}
use Rattle.std.specs.Str.{bytes_eq}
use Rattle.std.proofs.lemmas.Fn.{filter_same}
use Rattle.cx_text.specs.Views.{now_all}
use Rattle.cx_scenario.proofs.Short.{now_filtered}
use Rattle.cx_scenario.proofs.body.take_out.Goals as goal

pub returns : goal.returns
returns c =
    ap (λ (t : List (Bor (List ℕ))). now_all t) (filter_same _ (λ (w : Bor (List ℕ)). not (bytes_eq w.now c.args.name.now)) _ (λ x b f' k. search (rules, tests)) _ _ c.retain.ensures.filtered)
    ∙ now_filtered (λ n. not (bytes_eq n c.args.name.now)) c.args.names.now.items
