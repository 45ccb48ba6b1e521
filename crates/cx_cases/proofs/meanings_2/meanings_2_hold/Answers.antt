use Rattle.std.proofs.Common.{refl}
use Rattle.cx_text.specs.Lines.{lines_of, words_of}
use Rattle.cx_text.specs.Words.{is_name, is_digits, value_of, values_of, rows_for, line_by}
use Rattle.cx_script.specs.Faults.{first_fault}
use Rattle.cx_script.specs.Script.{meaning}
use Rattle.cx_cases.proofs.meanings_2.meanings_2_hold.Goals as goal

pub returns-clause-text_0121_means : goal.returns-clause-text_0121_means
unfolding meaning first_fault lines_of words_of is_name is_digits value_of values_of rows_for line_by
returns-clause-text_0121_means c = refl

pub returns-clause-text_0128_means : goal.returns-clause-text_0128_means
unfolding meaning first_fault lines_of words_of is_name is_digits value_of values_of rows_for line_by
returns-clause-text_0128_means c = refl

pub returns-clause-text_0133_means : goal.returns-clause-text_0133_means
unfolding meaning first_fault lines_of words_of is_name is_digits value_of values_of rows_for line_by
returns-clause-text_0133_means c = refl

pub returns-clause-text_0137_means : goal.returns-clause-text_0137_means
unfolding meaning first_fault lines_of words_of is_name is_digits value_of values_of rows_for line_by
returns-clause-text_0137_means c = refl

pub returns-clause-text_0143_means : goal.returns-clause-text_0143_means
unfolding meaning first_fault lines_of words_of is_name is_digits value_of values_of rows_for line_by
returns-clause-text_0143_means c = refl

pub returns-clause-text_0144_means : goal.returns-clause-text_0144_means
unfolding meaning first_fault lines_of words_of is_name is_digits value_of values_of rows_for line_by
returns-clause-text_0144_means c = refl
