use Rattle.std.proofs.Common.{refl}
use Rattle.cx_text.specs.Lines.{lines_of, words_of}
use Rattle.cx_text.specs.Words.{is_name, is_digits, value_of, values_of, rows_for, line_by}
use Rattle.cx_script.specs.Faults.{first_fault}
use Rattle.cx_script.specs.Script.{meaning}
use Rattle.cx_cases.proofs.faults_2.faults_2_hold.Goals as goal

pub returns-clause-on_derived_fault061 : goal.returns-clause-on_derived_fault061
unfolding meaning first_fault lines_of words_of is_name is_digits value_of values_of rows_for line_by
returns-clause-on_derived_fault061 c = refl

pub returns-clause-on_derived_fault069 : goal.returns-clause-on_derived_fault069
unfolding meaning first_fault lines_of words_of is_name is_digits value_of values_of rows_for line_by
returns-clause-on_derived_fault069 c = refl

pub returns-clause-on_derived_fault071 : goal.returns-clause-on_derived_fault071
unfolding meaning first_fault lines_of words_of is_name is_digits value_of values_of rows_for line_by
returns-clause-on_derived_fault071 c = refl

pub returns-clause-on_derived_fault083 : goal.returns-clause-on_derived_fault083
unfolding meaning first_fault lines_of words_of is_name is_digits value_of values_of rows_for line_by
returns-clause-on_derived_fault083 c = refl

pub returns-clause-on_derived_fault087 : goal.returns-clause-on_derived_fault087
unfolding meaning first_fault lines_of words_of is_name is_digits value_of values_of rows_for line_by
returns-clause-on_derived_fault087 c = refl

pub returns-clause-on_derived_fault089 : goal.returns-clause-on_derived_fault089
unfolding meaning first_fault lines_of words_of is_name is_digits value_of values_of rows_for line_by
returns-clause-on_derived_fault089 c = refl

pub returns-clause-on_derived_fault095 : goal.returns-clause-on_derived_fault095
unfolding meaning first_fault lines_of words_of is_name is_digits value_of values_of rows_for line_by
returns-clause-on_derived_fault095 c = refl

pub returns-clause-on_derived_fault097 : goal.returns-clause-on_derived_fault097
unfolding meaning first_fault lines_of words_of is_name is_digits value_of values_of rows_for line_by
returns-clause-on_derived_fault097 c = refl

pub returns-clause-on_derived_fault099 : goal.returns-clause-on_derived_fault099
unfolding meaning first_fault lines_of words_of is_name is_digits value_of values_of rows_for line_by
returns-clause-on_derived_fault099 c = refl

pub returns-clause-on_derived_fault101 : goal.returns-clause-on_derived_fault101
unfolding meaning first_fault lines_of words_of is_name is_digits value_of values_of rows_for line_by
returns-clause-on_derived_fault101 c = refl

pub returns-clause-on_derived_fault109 : goal.returns-clause-on_derived_fault109
unfolding meaning first_fault lines_of words_of is_name is_digits value_of values_of rows_for line_by
returns-clause-on_derived_fault109 c = refl

pub returns-clause-on_derived_fault111 : goal.returns-clause-on_derived_fault111
unfolding meaning first_fault lines_of words_of is_name is_digits value_of values_of rows_for line_by
returns-clause-on_derived_fault111 c = refl

pub returns-clause-on_derived_fault115 : goal.returns-clause-on_derived_fault115
unfolding meaning first_fault lines_of words_of is_name is_digits value_of values_of rows_for line_by
returns-clause-on_derived_fault115 c = refl

pub returns-clause-on_derived_fault117 : goal.returns-clause-on_derived_fault117
unfolding meaning first_fault lines_of words_of is_name is_digits value_of values_of rows_for line_by
returns-clause-on_derived_fault117 c = refl

pub returns-clause-on_derived_fault119 : goal.returns-clause-on_derived_fault119
unfolding meaning first_fault lines_of words_of is_name is_digits value_of values_of rows_for line_by
returns-clause-on_derived_fault119 c = refl

pub returns-clause-on_derived_fault121 : goal.returns-clause-on_derived_fault121
unfolding meaning first_fault lines_of words_of is_name is_digits value_of values_of rows_for line_by
returns-clause-on_derived_fault121 c = refl

pub returns-clause-on_derived_fault123 : goal.returns-clause-on_derived_fault123
unfolding meaning first_fault lines_of words_of is_name is_digits value_of values_of rows_for line_by
returns-clause-on_derived_fault123 c = refl

pub returns-clause-on_derived_fault125 : goal.returns-clause-on_derived_fault125
unfolding meaning first_fault lines_of words_of is_name is_digits value_of values_of rows_for line_by
returns-clause-on_derived_fault125 c = refl

pub returns-clause-on_derived_fault127 : goal.returns-clause-on_derived_fault127
unfolding meaning first_fault lines_of words_of is_name is_digits value_of values_of rows_for line_by
returns-clause-on_derived_fault127 c = refl

pub returns-clause-on_derived_fault129 : goal.returns-clause-on_derived_fault129
unfolding meaning first_fault lines_of words_of is_name is_digits value_of values_of rows_for line_by
returns-clause-on_derived_fault129 c = refl
