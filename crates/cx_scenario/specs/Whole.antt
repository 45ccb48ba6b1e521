-- A whole scenario: what is declared with its names, and the same by numbers.
use Rattle.std.specs.Prelude.{◌≡◌, ℕ, List, [], ◌∷◌, ◌++◌, map, filter, drop, Some, None, Result, Ok, Err}
use Rattle.std.specs.Option.{option_map}
use Rattle.std.specs.List.{flat_map}
use Rattle.cx_scene.specs.Scene.{scene_of}
use Rattle.cx_scene.specs.declared.plan.Plan.{Plan}
use Rattle.cx_scene.specs.declared.call.Call.{Call}
use Rattle.cx_text.specs.declared.form.Form.TheVariants as forms
use Rattle.cx_text.specs.Words.{Filled}
use Rattle.cx_script.specs.declared.declared.Declared.{Declared}
use Rattle.cx_script.specs.Earlier.{subject}
use Rattle.cx_text.specs.declared.fault.Fault.{Fault}
use Rattle.cx_scenario.specs.declared.reader.Reader.{Reader}
use Rattle.cx_scenario.specs.Views.{state_of}
use Rattle.cx_text.specs.Lines.{lines_of}
use Rattle.cx_script.specs.Faults.{first_fault}
use Rattle.cx_scenario.specs.Front.{front_lines, FrontReads}
use Rattle.cx_scenario.specs.Finished.{script_in, AllApart}
use Rattle.cx_script.specs.Script.{meaning, Script, Declaration, Names, names_in, declared_of, as_list, line_of_declaration, version_line, bodies_from, body_lines, body_of_main, is_thread, line}
use Rattle.cx_scene.specs.declared.declared.Callback.{Callback}
use Rattle.cx_script.specs.Numbered.{numbered, IsScript, callbacks_made}
use Rattle.cx_scenario.specs.declared.declaration.Declaration.{Declaration as DeclarationOf}
use Rattle.cx_scenario.specs.declared.roll.Roll.{Roll}

abbrev pub declaration_seen : DeclarationOf → Declaration
declaration_seen d = record { name = d.name.items; what = d.what }

abbrev pub declaration_as : Filled → Declared → Declaration
declaration_as l what = record { name = subject l; what = what }

-- what a line declares, if anything
abbrev pub one_declared : Names → Filled → List Declaration
one_declared names l = as_list (option_map (declaration_as l) (declared_of names l l.form))

abbrev pub roll_seen : Roll → Names
roll_seen r = record { threads = map (λ n. n.items) r.threads.items; objects = map (λ n. n.items) r.objects.items; callbacks = map (λ n. n.items) r.callbacks.items }

-- the scenario of these declarations and this plan
abbrev pub script_by : List DeclarationOf → Plan → Script
script_by ds plan = record { version = plan.version; declarations = map declaration_seen ds; bodies = map (λ b. b.items) plan.bodies.items }

-- a text means it, and plan and names are its own
pub record IsWhole (ds : List DeclarationOf) (plan : Plan) (roll : Roll) : Type 0 where
  pub script : IsScript (script_by ds plan)
  pub plan_is : scene_of plan ≡ numbered (script_by ds plan)
  pub names_are : roll_seen roll ≡ names_in (script_by ds plan)

abbrev pub callbacks_from : List Declaration → List Callback
callbacks_from ds = flat_map (λ (d : Declaration). callbacks_made d.what) ds

-- what reading a text gives: what it says, or its first fault
abbrev pub ReadsAs : ℕ → List ℕ → Result Reader Fault → Type 0
ReadsAs limit text (Ok r) = (meaning limit text ≡ Ok (script_in (state_of r))) × AllApart (state_of r).names.threads
ReadsAs limit text (Err f) = meaning limit text ≡ Err f

abbrev pub declaration_line : Names → Declaration → Filled
declaration_line names d = line_of_declaration names d.name d.what

-- the lines of a scenario under these names
abbrev pub text_lines : Names → List Declaration → List (List Call) → List Filled
text_lines names ds bodies =
    version_line
    ∷ map (declaration_line names) ds
    ++ bodies_from names (filter is_thread ds) (drop 1 bodies)
    ++ body_lines names (line forms.Main []) (body_of_main bodies)

-- what reading the front of a text gives: what it says, and how many lines it has, or its first fault
abbrev pub FrontAs : ℕ → List ℕ → Result (Reader × ℕ) Fault → Type 0
FrontAs room text (Ok p) = FrontReads (lines_of room text) None (state_of p.0) p.1
FrontAs room text (Err f) = first_fault (front_lines (lines_of room text)) ≡ Some f
