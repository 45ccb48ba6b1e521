use Rattle.std.proofs.Common.{refl}
use Rattle.cx_text.specs.Lines.{lines_of, words_of}
use Rattle.cx_text.specs.Words.{is_name, is_digits, value_of, values_of, rows_for, line_by}
use Rattle.cx_script.specs.Faults.{first_fault}
use Rattle.cx_script.specs.Script.{meaning}
use Rattle.cx_cases.proofs.faults_1.faults_1_hold.Goals as goal

pub returns-clause-on_derived_bytes18 : goal.returns-clause-on_derived_bytes18
unfolding meaning first_fault lines_of words_of is_name is_digits value_of values_of rows_for line_by
returns-clause-on_derived_bytes18 c = refl

pub returns-clause-on_derived_bytes22 : goal.returns-clause-on_derived_bytes22
unfolding meaning first_fault lines_of words_of is_name is_digits value_of values_of rows_for line_by
returns-clause-on_derived_bytes22 c = refl

pub returns-clause-on_derived_fault001 : goal.returns-clause-on_derived_fault001
unfolding meaning first_fault lines_of words_of is_name is_digits value_of values_of rows_for line_by
returns-clause-on_derived_fault001 c = refl

pub returns-clause-on_derived_fault011 : goal.returns-clause-on_derived_fault011
unfolding meaning first_fault lines_of words_of is_name is_digits value_of values_of rows_for line_by
returns-clause-on_derived_fault011 c = refl

pub returns-clause-on_derived_fault015 : goal.returns-clause-on_derived_fault015
unfolding meaning first_fault lines_of words_of is_name is_digits value_of values_of rows_for line_by
returns-clause-on_derived_fault015 c = refl

pub returns-clause-on_derived_fault019 : goal.returns-clause-on_derived_fault019
unfolding meaning first_fault lines_of words_of is_name is_digits value_of values_of rows_for line_by
returns-clause-on_derived_fault019 c = refl

pub returns-clause-on_derived_fault023 : goal.returns-clause-on_derived_fault023
unfolding meaning first_fault lines_of words_of is_name is_digits value_of values_of rows_for line_by
returns-clause-on_derived_fault023 c = refl

pub returns-clause-on_derived_fault027 : goal.returns-clause-on_derived_fault027
unfolding meaning first_fault lines_of words_of is_name is_digits value_of values_of rows_for line_by
returns-clause-on_derived_fault027 c = refl

pub returns-clause-on_derived_fault031 : goal.returns-clause-on_derived_fault031
unfolding meaning first_fault lines_of words_of is_name is_digits value_of values_of rows_for line_by
returns-clause-on_derived_fault031 c = refl

pub returns-clause-on_derived_fault033 : goal.returns-clause-on_derived_fault033
unfolding meaning first_fault lines_of words_of is_name is_digits value_of values_of rows_for line_by
returns-clause-on_derived_fault033 c = refl

pub returns-clause-on_derived_fault035 : goal.returns-clause-on_derived_fault035
unfolding meaning first_fault lines_of words_of is_name is_digits value_of values_of rows_for line_by
returns-clause-on_derived_fault035 c = refl

pub returns-clause-on_derived_fault037 : goal.returns-clause-on_derived_fault037
unfolding meaning first_fault lines_of words_of is_name is_digits value_of values_of rows_for line_by
returns-clause-on_derived_fault037 c = refl

pub returns-clause-on_derived_fault039 : goal.returns-clause-on_derived_fault039
unfolding meaning first_fault lines_of words_of is_name is_digits value_of values_of rows_for line_by
returns-clause-on_derived_fault039 c = refl

pub returns-clause-on_derived_fault043 : goal.returns-clause-on_derived_fault043
unfolding meaning first_fault lines_of words_of is_name is_digits value_of values_of rows_for line_by
returns-clause-on_derived_fault043 c = refl

pub returns-clause-on_derived_fault045 : goal.returns-clause-on_derived_fault045
unfolding meaning first_fault lines_of words_of is_name is_digits value_of values_of rows_for line_by
returns-clause-on_derived_fault045 c = refl

pub returns-clause-on_derived_fault047 : goal.returns-clause-on_derived_fault047
unfolding meaning first_fault lines_of words_of is_name is_digits value_of values_of rows_for line_by
returns-clause-on_derived_fault047 c = refl

pub returns-clause-on_derived_fault051 : goal.returns-clause-on_derived_fault051
unfolding meaning first_fault lines_of words_of is_name is_digits value_of values_of rows_for line_by
returns-clause-on_derived_fault051 c = refl

pub returns-clause-on_derived_fault053 : goal.returns-clause-on_derived_fault053
unfolding meaning first_fault lines_of words_of is_name is_digits value_of values_of rows_for line_by
returns-clause-on_derived_fault053 c = refl

pub returns-clause-on_derived_fault055 : goal.returns-clause-on_derived_fault055
unfolding meaning first_fault lines_of words_of is_name is_digits value_of values_of rows_for line_by
returns-clause-on_derived_fault055 c = refl

pub returns-clause-on_derived_fault059 : goal.returns-clause-on_derived_fault059
unfolding meaning first_fault lines_of words_of is_name is_digits value_of values_of rows_for line_by
returns-clause-on_derived_fault059 c = refl
