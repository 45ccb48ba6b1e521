use Rattle.std.proofs.Common.{refl}
use Rattle.cx_text.specs.Lines.{lines_of, words_of}
use Rattle.cx_text.specs.Words.{is_name, is_digits, value_of, values_of, rows_for, line_by}
use Rattle.cx_script.specs.Faults.{first_fault}
use Rattle.cx_script.specs.Script.{meaning}
use Rattle.cx_cases.proofs.faults_5.faults_5_hold.Goals as goal

pub returns-clause-on_fault_0087 : goal.returns-clause-on_fault_0087
unfolding meaning first_fault lines_of words_of is_name is_digits value_of values_of rows_for line_by
returns-clause-on_fault_0087 c = refl

pub returns-clause-on_fault_0088 : goal.returns-clause-on_fault_0088
unfolding meaning first_fault lines_of words_of is_name is_digits value_of values_of rows_for line_by
returns-clause-on_fault_0088 c = refl

pub returns-clause-on_fault_0090 : goal.returns-clause-on_fault_0090
unfolding meaning first_fault lines_of words_of is_name is_digits value_of values_of rows_for line_by
returns-clause-on_fault_0090 c = refl

pub returns-clause-on_fault_0095 : goal.returns-clause-on_fault_0095
unfolding meaning first_fault lines_of words_of is_name is_digits value_of values_of rows_for line_by
returns-clause-on_fault_0095 c = refl

pub returns-clause-on_fault_0097 : goal.returns-clause-on_fault_0097
unfolding meaning first_fault lines_of words_of is_name is_digits value_of values_of rows_for line_by
returns-clause-on_fault_0097 c = refl

pub returns-clause-on_fault_0099 : goal.returns-clause-on_fault_0099
unfolding meaning first_fault lines_of words_of is_name is_digits value_of values_of rows_for line_by
returns-clause-on_fault_0099 c = refl

pub returns-clause-on_fault_0102 : goal.returns-clause-on_fault_0102
unfolding meaning first_fault lines_of words_of is_name is_digits value_of values_of rows_for line_by
returns-clause-on_fault_0102 c = refl

pub returns-clause-on_fault_0103 : goal.returns-clause-on_fault_0103
unfolding meaning first_fault lines_of words_of is_name is_digits value_of values_of rows_for line_by
returns-clause-on_fault_0103 c = refl

pub returns-clause-on_fault_0108 : goal.returns-clause-on_fault_0108
unfolding meaning first_fault lines_of words_of is_name is_digits value_of values_of rows_for line_by
returns-clause-on_fault_0108 c = refl

pub returns-clause-on_fault_0110 : goal.returns-clause-on_fault_0110
unfolding meaning first_fault lines_of words_of is_name is_digits value_of values_of rows_for line_by
returns-clause-on_fault_0110 c = refl

pub returns-clause-on_fault_0111 : goal.returns-clause-on_fault_0111
unfolding meaning first_fault lines_of words_of is_name is_digits value_of values_of rows_for line_by
returns-clause-on_fault_0111 c = refl

pub returns-clause-on_fault_0113 : goal.returns-clause-on_fault_0113
unfolding meaning first_fault lines_of words_of is_name is_digits value_of values_of rows_for line_by
returns-clause-on_fault_0113 c = refl

pub returns-clause-on_fault_0114 : goal.returns-clause-on_fault_0114
unfolding meaning first_fault lines_of words_of is_name is_digits value_of values_of rows_for line_by
returns-clause-on_fault_0114 c = refl

pub returns-clause-on_fault_0116 : goal.returns-clause-on_fault_0116
unfolding meaning first_fault lines_of words_of is_name is_digits value_of values_of rows_for line_by
returns-clause-on_fault_0116 c = refl

pub returns-clause-on_fault_0118 : goal.returns-clause-on_fault_0118
unfolding meaning first_fault lines_of words_of is_name is_digits value_of values_of rows_for line_by
returns-clause-on_fault_0118 c = refl

pub returns-clause-on_fault_0120 : goal.returns-clause-on_fault_0120
unfolding meaning first_fault lines_of words_of is_name is_digits value_of values_of rows_for line_by
returns-clause-on_fault_0120 c = refl

pub returns-clause-on_fault_0121 : goal.returns-clause-on_fault_0121
unfolding meaning first_fault lines_of words_of is_name is_digits value_of values_of rows_for line_by
returns-clause-on_fault_0121 c = refl

pub returns-clause-on_fault_0122 : goal.returns-clause-on_fault_0122
unfolding meaning first_fault lines_of words_of is_name is_digits value_of values_of rows_for line_by
returns-clause-on_fault_0122 c = refl

pub returns-clause-on_fault_0124 : goal.returns-clause-on_fault_0124
unfolding meaning first_fault lines_of words_of is_name is_digits value_of values_of rows_for line_by
returns-clause-on_fault_0124 c = refl

pub returns-clause-on_fault_0125 : goal.returns-clause-on_fault_0125
unfolding meaning first_fault lines_of words_of is_name is_digits value_of values_of rows_for line_by
returns-clause-on_fault_0125 c = refl
