use Rattle.std.proofs.Common.{◌≡◌, ◌∙◌, true, false, List, ℕ, map, sym, ap, subst}
use Rattle.std.specs.List.{list_any}
use Rattle.std.specs.String.{string_bytes}
use Rattle.std.proofs.lemmas.Result.{IfOk-weaker}
use Rattle.clap.proofs.WalkLemmas.{list_any-map}
use Rattle.cx_command_line.specs.Forms.{is_flag, Answers}
use Rattle.cx_command_line.proofs.Found.{flag_asks_none, told}
use Rattle.cx_command_line.proofs.command.read.Goals as goal

pub returns : goal.returns
returns c =
    let ws = map string_bytes c.args.words.now in
    let plain : list_any is_flag ws ≡ false = sym (list_any-map is_flag string_bytes c.args.words.now) ∙ sym c.has_flag.ensures ∙ c.if-has_flag.false in
    let all = ap (map (λ s. s.now)) c.deref.ensures.value ∙ c.in_ok-all.ensures in
    IfOk-weaker c.asked.result _ _ (λ x h. told ws plain x (subst (λ (t : List (List ℕ)). Answers t x) all h)) c.asked.ensures

pub returns-then-has_flag : goal.returns-then-has_flag
returns-then-has_flag c =
    let ws = map string_bytes c.args.words.now in
    let some : list_any is_flag ws ≡ true = sym (list_any-map is_flag string_bytes c.args.words.now) ∙ sym c.has_flag.ensures ∙ c.if-has_flag.true in
    flag_asks_none ws some
