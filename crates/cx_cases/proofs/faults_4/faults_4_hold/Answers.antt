use Rattle.std.proofs.Common.{refl}
use Rattle.cx_text.specs.Lines.{lines_of, words_of}
use Rattle.cx_text.specs.Words.{is_name, is_digits, value_of, values_of, rows_for, line_by}
use Rattle.cx_script.specs.Faults.{first_fault}
use Rattle.cx_script.specs.Script.{meaning}
use Rattle.cx_cases.proofs.faults_4.faults_4_hold.Goals as goal

pub returns-clause-on_fault_0022 : goal.returns-clause-on_fault_0022
unfolding meaning first_fault lines_of words_of is_name is_digits value_of values_of rows_for line_by
returns-clause-on_fault_0022 c = refl

pub returns-clause-on_fault_0023 : goal.returns-clause-on_fault_0023
unfolding meaning first_fault lines_of words_of is_name is_digits value_of values_of rows_for line_by
returns-clause-on_fault_0023 c = refl

pub returns-clause-on_fault_0027 : goal.returns-clause-on_fault_0027
unfolding meaning first_fault lines_of words_of is_name is_digits value_of values_of rows_for line_by
returns-clause-on_fault_0027 c = refl

pub returns-clause-on_fault_0032 : goal.returns-clause-on_fault_0032
unfolding meaning first_fault lines_of words_of is_name is_digits value_of values_of rows_for line_by
returns-clause-on_fault_0032 c = refl

pub returns-clause-on_fault_0033 : goal.returns-clause-on_fault_0033
unfolding meaning first_fault lines_of words_of is_name is_digits value_of values_of rows_for line_by
returns-clause-on_fault_0033 c = refl

pub returns-clause-on_fault_0035 : goal.returns-clause-on_fault_0035
unfolding meaning first_fault lines_of words_of is_name is_digits value_of values_of rows_for line_by
returns-clause-on_fault_0035 c = refl

pub returns-clause-on_fault_0040 : goal.returns-clause-on_fault_0040
unfolding meaning first_fault lines_of words_of is_name is_digits value_of values_of rows_for line_by
returns-clause-on_fault_0040 c = refl

pub returns-clause-on_fault_0045 : goal.returns-clause-on_fault_0045
unfolding meaning first_fault lines_of words_of is_name is_digits value_of values_of rows_for line_by
returns-clause-on_fault_0045 c = refl

pub returns-clause-on_fault_0050 : goal.returns-clause-on_fault_0050
unfolding meaning first_fault lines_of words_of is_name is_digits value_of values_of rows_for line_by
returns-clause-on_fault_0050 c = refl

pub returns-clause-on_fault_0053 : goal.returns-clause-on_fault_0053
unfolding meaning first_fault lines_of words_of is_name is_digits value_of values_of rows_for line_by
returns-clause-on_fault_0053 c = refl

pub returns-clause-on_fault_0056 : goal.returns-clause-on_fault_0056
unfolding meaning first_fault lines_of words_of is_name is_digits value_of values_of rows_for line_by
returns-clause-on_fault_0056 c = refl

pub returns-clause-on_fault_0064 : goal.returns-clause-on_fault_0064
unfolding meaning first_fault lines_of words_of is_name is_digits value_of values_of rows_for line_by
returns-clause-on_fault_0064 c = refl

pub returns-clause-on_fault_0067 : goal.returns-clause-on_fault_0067
unfolding meaning first_fault lines_of words_of is_name is_digits value_of values_of rows_for line_by
returns-clause-on_fault_0067 c = refl

pub returns-clause-on_fault_0069 : goal.returns-clause-on_fault_0069
unfolding meaning first_fault lines_of words_of is_name is_digits value_of values_of rows_for line_by
returns-clause-on_fault_0069 c = refl

pub returns-clause-on_fault_0070 : goal.returns-clause-on_fault_0070
unfolding meaning first_fault lines_of words_of is_name is_digits value_of values_of rows_for line_by
returns-clause-on_fault_0070 c = refl

pub returns-clause-on_fault_0073 : goal.returns-clause-on_fault_0073
unfolding meaning first_fault lines_of words_of is_name is_digits value_of values_of rows_for line_by
returns-clause-on_fault_0073 c = refl

pub returns-clause-on_fault_0078 : goal.returns-clause-on_fault_0078
unfolding meaning first_fault lines_of words_of is_name is_digits value_of values_of rows_for line_by
returns-clause-on_fault_0078 c = refl

pub returns-clause-on_fault_0080 : goal.returns-clause-on_fault_0080
unfolding meaning first_fault lines_of words_of is_name is_digits value_of values_of rows_for line_by
returns-clause-on_fault_0080 c = refl

pub returns-clause-on_fault_0081 : goal.returns-clause-on_fault_0081
unfolding meaning first_fault lines_of words_of is_name is_digits value_of values_of rows_for line_by
returns-clause-on_fault_0081 c = refl

pub returns-clause-on_fault_0086 : goal.returns-clause-on_fault_0086
unfolding meaning first_fault lines_of words_of is_name is_digits value_of values_of rows_for line_by
returns-clause-on_fault_0086 c = refl
