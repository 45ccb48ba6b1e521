-- What the values of the reader of accesses stand for.
use Rattle.std.specs.Prelude.{◌≡◌, ℕ, ℤ, ◌+◌, List, length, Result, Ok, Err, Option, Some, None}
use Rattle.cx_text.specs.declared.fault.Fault.{Fault}
use Rattle.cx_text.specs.Lines.{Line as TextLine}
use Rattle.cx_text.specs.Words.{Value, ANumber}
use Rattle.cx_history.specs.Histories.{Recorded}
use Rattle.cx_script.specs.Script.{Names}
use Rattle.cx_accesses.specs.declared.said.Said.{Said as SaidOf}
use Rattle.cx_accesses.specs.declared.said.Said.TheVariants as saids
use Rattle.cx_accesses.specs.declared.reader.Place.{Place as PlaceOf}
use Rattle.cx_accesses.specs.declared.reader.Place.TheVariants as places
use Rattle.cx_accesses.specs.declared.reader.Reader.{Reader}
use Rattle.cx_accesses.specs.declared.accesses.Accesses.{Accesses}
use Rattle.cx_accesses.specs.declared.names.Names.{Names as NamesOf}
use Rattle.cx_accesses.specs.AccessLines.{Said, AVersion, AnAccess, TheLast, Place, Opening, Among, Over, State, Read}
use Rattle.cx_accesses.specs.AccessesMeant.{IsFirstFault, AreMeant, AreClean, state_at}

abbrev pub names_seen : NamesOf → Names
names_seen n = record { threads = n.threads; objects = n.objects; callbacks = n.callbacks }

abbrev pub said_seen : SaidOf → Said
said_seen saids.Version = AVersion
said_seen (saids.Access name i var write) = AnAccess name.now i var.now write
said_seen saids.Last = TheLast

-- the number that a value is
abbrev pub number_in : Option Value → Option ℤ
number_in (Some (ANumber n)) = Some n
number_in _ = None

abbrev pub place_seen : PlaceOf → Place
place_seen places.Opening = Opening
place_seen places.Among = Among
place_seen places.Over = Over

abbrev pub state_of : Reader → State
state_of r = record { place = place_seen r.place; accesses = r.accesses.items; names = r.names }

-- what reading lines gives: their first fault, or what they say
abbrev pub ReadsTo : Names → Recorded → ℕ → List Read → Option Fault → State → Type 0
ReadsTo o r first reads (Some f) st = IsFirstFault o r first reads f
ReadsTo o r first reads None st = AreClean o r reads (length reads + 1) × (st ≡ state_at o reads (length reads))

-- what reading a text gives: its first fault, or the accesses that it means
abbrev pub MeansAs : Names → Recorded → ℕ → List Read → Result Accesses Fault → Type 0
MeansAs o r first reads (Ok a) = AreMeant o r reads a.accesses.items a.names
MeansAs o r first reads (Err f) = IsFirstFault o r first reads f
