-- A line that fits its form is what its own words say, and the other way round.
use Rattle.cx_text.specs.declared.form.Form.{Form}
use Rattle.cx_text.specs.Words.{Filled, scenario_lines, words_for}
use Rattle.cx_text.proofs.Rows.{IsWellFilled, line_back}
use Rattle.cx_script.specs.InOrder.{SaysItself}
use Rattle.cx_script.proofs.Parsed.{filled_is}
use Rattle.cx_script.proofs.Canonical.{is_canonical}

pub says_itself : (l : Filled) → IsWellFilled scenario_lines 1 l → SaysItself l
says_itself l fit = line_back Form scenario_lines 1 l (is_canonical l fit).0.alone fit

pub itself_filled : (l : Filled) → SaysItself l → IsWellFilled scenario_lines 1 l
itself_filled l h = filled_is 1 (words_for l) l h
