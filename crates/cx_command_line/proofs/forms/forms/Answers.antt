use Rattle.std.proofs.Common.{◌≡◌, ◌∙◌, rules, ap, ap₂, codes, Bool, true, false, ◌||◌}
use Rattle.clap.specs.Words.{App, app_of, new_app, new_rule, rule_of, with_rule, with_subcommand}
use Rattle.cx_command_line.specs.Forms.{alone, with_one, program}
use Rattle.cx_command_line.proofs.forms.forms.Goals as goal

pub returns : goal.returns
returns c =
    let items_is : rule_of c.required-items.result ≡ record (new_rule (codes "items")) { required = true } = search rules in
    let seed_local = c.new-seed.ensures.optional.1 in
    let items_local : c.required-items.result.global ≡ false = search (rules, c.required-items.ensures, c.new-2.ensures) in
    let replay_local = c.in_ok-replay.ensures.globals ∙ ap₂ (λ (x y : Bool). x || y) c.new.ensures.local seed_local in
    let make_local = c.in_ok-make.ensures.globals ∙ ap₂ (λ (x y : Bool). x || y) c.new-3.ensures.local items_local in
    let replay_is : app_of c.in_ok-replay.replay ≡ with_rule (new_app (codes "replay")) (new_rule (codes "seed")) = c.in_ok-replay.ensures.shape seed_local ∙ ap₂ with_rule c.new.ensures.app c.new-seed.ensures.rule in
    let make_is : app_of c.in_ok-make.make ≡ with_rule (new_app (codes "make")) (record (new_rule (codes "items")) { required = true }) = c.in_ok-make.ensures.shape items_local ∙ ap₂ with_rule c.new-3.ensures.app items_is in
    let program_is : app_of c.disable_version_flag.result ≡ program = search rules in
    let one : app_of c.in_ok-subcommand.field-0 ≡ with_subcommand program (alone (codes "run")) = c.in_ok-subcommand.ensures.shape c.new-run.ensures.local ∙ ap₂ with_subcommand program_is (ap (λ (a : App). a.top) c.new-run.ensures.app) in
    let two : app_of c.in_ok-subcommand-2.field-0 ≡ with_subcommand (with_subcommand program (alone (codes "run"))) (with_one (codes "replay") (new_rule (codes "seed"))) = c.in_ok-subcommand-2.ensures.shape replay_local ∙ ap₂ with_subcommand one (ap (λ (a : App). a.top) replay_is) in
    let three : app_of c.in_ok-subcommand-3.field-0 ≡ with_subcommand (with_subcommand (with_subcommand program (alone (codes "run"))) (with_one (codes "replay") (new_rule (codes "seed")))) (alone (codes "check")) = c.in_ok-subcommand-3.ensures.shape c.new-check.ensures.local ∙ ap₂ with_subcommand two (ap (λ (a : App). a.top) c.new-check.ensures.app) in
    let four : app_of c.in_ok-subcommand-4.field-0 ≡ with_subcommand (with_subcommand (with_subcommand (with_subcommand program (alone (codes "run"))) (with_one (codes "replay") (new_rule (codes "seed")))) (alone (codes "check"))) (with_one (codes "make") (record (new_rule (codes "items")) { required = true })) = c.in_ok-subcommand-4.ensures.shape make_local ∙ ap₂ with_subcommand three (ap (λ (a : App). a.top) make_is) in
    c.in_ok-program.ensures.shape c.new-races.ensures.local ∙ ap₂ with_subcommand four (ap (λ (a : App). a.top) c.new-races.ensures.app)
