-- What the values of the parser stand for.
use Rattle.std.specs.Prelude.{◌≡◌, List, map}
use Rattle.cx_text.specs.declared.item.ItemForm.{ItemForm}
use Rattle.cx_text.specs.declared.value.Value.{Value as ValueOf}
use Rattle.cx_text.specs.Views.{seen}
use Rattle.cx_record.specs.declared.roster.Roster.{Roster as RosterOf}
use Rattle.cx_record.specs.Roster.{Roster}
use Rattle.cx_record.specs.ItemLines.{Line}

abbrev pub roster_seen : RosterOf → Roster
roster_seen r = record { version = r.version; names = record { threads = r.threads; objects = r.objects; callbacks = r.callbacks }; threads = r.sorts.now; kinds = r.kinds.items }

abbrev pub line_seen : ItemForm → List ValueOf → Line
line_seen form values = record { form = form; values = map seen values }
