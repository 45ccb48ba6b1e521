use Rattle.std.proofs.Common.{refl}
use Rattle.cx_text.specs.Lines.{lines_of, words_of}
use Rattle.cx_text.specs.Words.{is_name, is_digits, value_of, values_of, rows_for, line_by}
use Rattle.cx_script.specs.Faults.{first_fault}
use Rattle.cx_script.specs.Script.{meaning}
use Rattle.cx_cases.proofs.faults_3.faults_3_hold.Goals as goal

pub returns-clause-on_derived_fault131 : goal.returns-clause-on_derived_fault131
unfolding meaning first_fault lines_of words_of is_name is_digits value_of values_of rows_for line_by
returns-clause-on_derived_fault131 c = refl

pub returns-clause-on_derived_fault135 : goal.returns-clause-on_derived_fault135
unfolding meaning first_fault lines_of words_of is_name is_digits value_of values_of rows_for line_by
returns-clause-on_derived_fault135 c = refl

pub returns-clause-on_derived_fault139 : goal.returns-clause-on_derived_fault139
unfolding meaning first_fault lines_of words_of is_name is_digits value_of values_of rows_for line_by
returns-clause-on_derived_fault139 c = refl

pub returns-clause-on_derived_fault141 : goal.returns-clause-on_derived_fault141
unfolding meaning first_fault lines_of words_of is_name is_digits value_of values_of rows_for line_by
returns-clause-on_derived_fault141 c = refl

pub returns-clause-on_derived_fault143 : goal.returns-clause-on_derived_fault143
unfolding meaning first_fault lines_of words_of is_name is_digits value_of values_of rows_for line_by
returns-clause-on_derived_fault143 c = refl

pub returns-clause-on_derived_fault145 : goal.returns-clause-on_derived_fault145
unfolding meaning first_fault lines_of words_of is_name is_digits value_of values_of rows_for line_by
returns-clause-on_derived_fault145 c = refl

pub returns-clause-on_derived_fault147 : goal.returns-clause-on_derived_fault147
unfolding meaning first_fault lines_of words_of is_name is_digits value_of values_of rows_for line_by
returns-clause-on_derived_fault147 c = refl

pub returns-clause-on_derived_fault149 : goal.returns-clause-on_derived_fault149
unfolding meaning first_fault lines_of words_of is_name is_digits value_of values_of rows_for line_by
returns-clause-on_derived_fault149 c = refl

pub returns-clause-on_derived_fault151 : goal.returns-clause-on_derived_fault151
unfolding meaning first_fault lines_of words_of is_name is_digits value_of values_of rows_for line_by
returns-clause-on_derived_fault151 c = refl

pub returns-clause-on_derived_fault153 : goal.returns-clause-on_derived_fault153
unfolding meaning first_fault lines_of words_of is_name is_digits value_of values_of rows_for line_by
returns-clause-on_derived_fault153 c = refl

pub returns-clause-on_derived_fault155 : goal.returns-clause-on_derived_fault155
unfolding meaning first_fault lines_of words_of is_name is_digits value_of values_of rows_for line_by
returns-clause-on_derived_fault155 c = refl

pub returns-clause-on_derived_fault157 : goal.returns-clause-on_derived_fault157
unfolding meaning first_fault lines_of words_of is_name is_digits value_of values_of rows_for line_by
returns-clause-on_derived_fault157 c = refl

pub returns-clause-on_derived_fault159 : goal.returns-clause-on_derived_fault159
unfolding meaning first_fault lines_of words_of is_name is_digits value_of values_of rows_for line_by
returns-clause-on_derived_fault159 c = refl

pub returns-clause-on_derived_many_jthread : goal.returns-clause-on_derived_many_jthread
unfolding meaning first_fault lines_of words_of is_name is_digits value_of values_of rows_for line_by
returns-clause-on_derived_many_jthread c = refl

pub returns-clause-on_fault_0003 : goal.returns-clause-on_fault_0003
unfolding meaning first_fault lines_of words_of is_name is_digits value_of values_of rows_for line_by
returns-clause-on_fault_0003 c = refl

pub returns-clause-on_fault_0005 : goal.returns-clause-on_fault_0005
unfolding meaning first_fault lines_of words_of is_name is_digits value_of values_of rows_for line_by
returns-clause-on_fault_0005 c = refl

pub returns-clause-on_fault_0006 : goal.returns-clause-on_fault_0006
unfolding meaning first_fault lines_of words_of is_name is_digits value_of values_of rows_for line_by
returns-clause-on_fault_0006 c = refl

pub returns-clause-on_fault_0010 : goal.returns-clause-on_fault_0010
unfolding meaning first_fault lines_of words_of is_name is_digits value_of values_of rows_for line_by
returns-clause-on_fault_0010 c = refl

pub returns-clause-on_fault_0019 : goal.returns-clause-on_fault_0019
unfolding meaning first_fault lines_of words_of is_name is_digits value_of values_of rows_for line_by
returns-clause-on_fault_0019 c = refl

pub returns-clause-on_fault_0020 : goal.returns-clause-on_fault_0020
unfolding meaning first_fault lines_of words_of is_name is_digits value_of values_of rows_for line_by
returns-clause-on_fault_0020 c = refl
