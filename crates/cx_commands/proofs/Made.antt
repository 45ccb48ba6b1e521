-- The text of a made scenario means it.
use Rattle.std.proofs.Common.{◌≡◌, ℕ, ◌≤◌, List, ap, ◌∙◌}
use Rattle.cx_script.specs.Script.{Script, meaning, written}
use Rattle.cx_made.specs.Made.{made}
use Rattle.cx_made.proofs.Makes.{made_means}
use Rattle.cx_commands.specs.Top.{limit}
use Rattle.cx_commands.specs.Making.{IsMade}

pub made_is : (items : ℕ) (s : Script) (text : List ℕ) → 1 ≤ items → items ≤ 4800 → s ≡ made items → text ≡ written s → IsMade items text
made_is items s text some few same is =
    let e : text ≡ written (made items) = is ∙ ap written same in
    record { text_is = e; means = ap (meaning limit) e ∙ made_means items some few }
