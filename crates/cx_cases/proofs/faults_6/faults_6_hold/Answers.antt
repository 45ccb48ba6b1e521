use Rattle.std.proofs.Common.{refl}
use Rattle.cx_text.specs.Lines.{lines_of, words_of}
use Rattle.cx_text.specs.Words.{is_name, is_digits, value_of, values_of, rows_for, line_by}
use Rattle.cx_script.specs.Faults.{first_fault}
use Rattle.cx_script.specs.Script.{meaning}
use Rattle.cx_cases.proofs.faults_6.faults_6_hold.Goals as goal

pub returns-clause-on_fault_0129 : goal.returns-clause-on_fault_0129
unfolding meaning first_fault lines_of words_of is_name is_digits value_of values_of rows_for line_by
returns-clause-on_fault_0129 c = refl

pub returns-clause-on_fault_0130 : goal.returns-clause-on_fault_0130
unfolding meaning first_fault lines_of words_of is_name is_digits value_of values_of rows_for line_by
returns-clause-on_fault_0130 c = refl

pub returns-clause-on_fault_0134 : goal.returns-clause-on_fault_0134
unfolding meaning first_fault lines_of words_of is_name is_digits value_of values_of rows_for line_by
returns-clause-on_fault_0134 c = refl

pub returns-clause-on_fault_0135 : goal.returns-clause-on_fault_0135
unfolding meaning first_fault lines_of words_of is_name is_digits value_of values_of rows_for line_by
returns-clause-on_fault_0135 c = refl

pub returns-clause-on_fault_0136 : goal.returns-clause-on_fault_0136
unfolding meaning first_fault lines_of words_of is_name is_digits value_of values_of rows_for line_by
returns-clause-on_fault_0136 c = refl

pub returns-clause-on_fault_0139 : goal.returns-clause-on_fault_0139
unfolding meaning first_fault lines_of words_of is_name is_digits value_of values_of rows_for line_by
returns-clause-on_fault_0139 c = refl

pub returns-clause-on_fault_0140 : goal.returns-clause-on_fault_0140
unfolding meaning first_fault lines_of words_of is_name is_digits value_of values_of rows_for line_by
returns-clause-on_fault_0140 c = refl

pub returns-clause-on_fault_0141 : goal.returns-clause-on_fault_0141
unfolding meaning first_fault lines_of words_of is_name is_digits value_of values_of rows_for line_by
returns-clause-on_fault_0141 c = refl

pub returns-clause-on_fault_0145 : goal.returns-clause-on_fault_0145
unfolding meaning first_fault lines_of words_of is_name is_digits value_of values_of rows_for line_by
returns-clause-on_fault_0145 c = refl

pub returns-clause-on_fault_0149 : goal.returns-clause-on_fault_0149
unfolding meaning first_fault lines_of words_of is_name is_digits value_of values_of rows_for line_by
returns-clause-on_fault_0149 c = refl
