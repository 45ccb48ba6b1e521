use Rattle.std.proofs.Common.{refl}
use Rattle.cx_text.specs.Lines.{lines_of, words_of}
use Rattle.cx_text.specs.Words.{is_name, is_digits, value_of, values_of, rows_for, line_by}
use Rattle.cx_script.specs.Faults.{first_fault}
use Rattle.cx_script.specs.Script.{meaning}
use Rattle.cx_cases.proofs.meanings_1.meanings_1_hold.Goals as goal

pub returns-clause-text_0010_means : goal.returns-clause-text_0010_means
unfolding meaning first_fault lines_of words_of is_name is_digits value_of values_of rows_for line_by
returns-clause-text_0010_means c = refl

pub returns-clause-text_0014_means : goal.returns-clause-text_0014_means
unfolding meaning first_fault lines_of words_of is_name is_digits value_of values_of rows_for line_by
returns-clause-text_0014_means c = refl

pub returns-clause-text_0017_means : goal.returns-clause-text_0017_means
unfolding meaning first_fault lines_of words_of is_name is_digits value_of values_of rows_for line_by
returns-clause-text_0017_means c = refl

pub returns-clause-text_0020_means : goal.returns-clause-text_0020_means
unfolding meaning first_fault lines_of words_of is_name is_digits value_of values_of rows_for line_by
returns-clause-text_0020_means c = refl

pub returns-clause-text_0032_means : goal.returns-clause-text_0032_means
unfolding meaning first_fault lines_of words_of is_name is_digits value_of values_of rows_for line_by
returns-clause-text_0032_means c = refl

pub returns-clause-text_0053_means : goal.returns-clause-text_0053_means
unfolding meaning first_fault lines_of words_of is_name is_digits value_of values_of rows_for line_by
returns-clause-text_0053_means c = refl

pub returns-clause-text_0094_means : goal.returns-clause-text_0094_means
unfolding meaning first_fault lines_of words_of is_name is_digits value_of values_of rows_for line_by
returns-clause-text_0094_means c = refl

pub returns-clause-text_0095_means : goal.returns-clause-text_0095_means
unfolding meaning first_fault lines_of words_of is_name is_digits value_of values_of rows_for line_by
returns-clause-text_0095_means c = refl

pub returns-clause-text_0097_means : goal.returns-clause-text_0097_means
unfolding meaning first_fault lines_of words_of is_name is_digits value_of values_of rows_for line_by
returns-clause-text_0097_means c = refl

pub returns-clause-text_0110_means : goal.returns-clause-text_0110_means
unfolding meaning first_fault lines_of words_of is_name is_digits value_of values_of rows_for line_by
returns-clause-text_0110_means c = refl
