-- What the reader of a record's lines stands for.
use Rattle.std.specs.Prelude.{◌≡◌, ℕ, List, map, Result, Ok, Err}
use Rattle.cx_text.specs.declared.fault.Fault.{Fault}
use Rattle.cx_script.specs.Script.{Script}
use Rattle.cx_history.specs.declared.record.Record.{Record}
use Rattle.cx_history.specs.Views.{listed, recorded_of}
use Rattle.cx_record.specs.declared.reader.Reader.{Reader}
use Rattle.cx_record.specs.declared.place.Place.{Place as PlaceOf}
use Rattle.cx_record.specs.declared.place.Place.TheVariants as places
use Rattle.cx_record.specs.RecordFaults.{Place, Opening, Between, Inside, Over, Stage}
use Rattle.cx_record.specs.RecordSteps.{State}
use Rattle.cx_record.specs.RosterSeen.{roster_seen}
use Rattle.cx_record.specs.Parsed.{record_meaning}

abbrev pub place_seen : PlaceOf → Place
place_seen places.Opening = Opening
place_seen places.Between = Between
place_seen places.Inside = Inside
place_seen places.Over = Over

abbrev pub stage_seen : Reader → Stage
stage_seen r = record { place = place_seen r.place; lists = r.complete }

abbrev pub state_of : Reader → State
state_of r = record { roster = roster_seen r.roster; stage = stage_seen r; done = map listed r.lists.items; under_way = r.under_way.items }

-- what reading a text gives: the record that it means, or its first fault
abbrev pub MeansAs : Script → ℕ → ℕ → List ℕ → Result Record Fault → Type 0
MeansAs s first room text (Ok r) = record_meaning s first room text ≡ Ok (recorded_of r)
MeansAs s first room text (Err f) = record_meaning s first room text ≡ Err f
