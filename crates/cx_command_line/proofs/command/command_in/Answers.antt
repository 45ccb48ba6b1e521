use Rattle.std.proofs.Common.{◌∙◌, sym, ap, ap₂, codes}
use Rattle.clap.specs.Words.{found_of, rows_of}
use Rattle.clap.specs.declared.parser.matches.ArgMatches.TheViews.{out-ArgMatches}
use Rattle.clap.proofs.WalkLemmas.{first_value-rows}
use Rattle.cx_command_line.specs.Forms.{command_in, command_with}
use Rattle.cx_command_line.proofs.Found.{found_is}
use Rattle.cx_command_line.proofs.command.command_in.Goals as goal

pub returns : goal.returns
returns c =
    let found = c.in_ok-name.ensures in
    let rows = rows_of (found_of c.in_ok-name.inner.now) in
    let is = found_is (out-ArgMatches c.args.matches.now).subcommand c.in_ok-name.name.now rows found.name found.rows in
    let seed = c.get_str.ensures ∙ first_value-rows (found_of c.in_ok-name.inner.now) (codes "seed") in
    let items = c.get_str-2.ensures ∙ first_value-rows (found_of c.in_ok-name.inner.now) (codes "items") in
    c.command_with.ensures ∙ ap₂ (command_with c.in_ok-name.name.now) seed items ∙ ap command_in (sym is)
