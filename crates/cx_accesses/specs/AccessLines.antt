-- The lines of a list of accesses: what they say, and which fault one of them has.
use Rattle.std.specs.Prelude.{◌≡◌, ℕ, ℤ, pos, negsuc, Bool, true, false, ◌&&◌, ◌||◌, not, List, [], ◌∷◌, ◌++◌, length, slice_get, Option, Some, None, is_some, nat_lt, nat_le, if◌then◌else◌, find, codes, option_and_then}
use Rattle.std.specs.Option.{unwrap_or}
use Rattle.std.specs.List.{list_all, flat_map}
use Rattle.std.specs.Str.{bytes_eq}
use Rattle.cx_text.specs.declared.fault.FaultKind.{FaultKind}
use Rattle.cx_text.specs.declared.fault.FaultKind.TheVariants as faults
use Rattle.cx_text.specs.declared.fault.TheConstants.{KINDS}
use Rattle.cx_text.specs.Lines.{Line as TextLine, words_of, is_text_byte}
use Rattle.cx_text.specs.Words.{is_name, natural_of, main_word}
use Rattle.cx_index.specs.Places.{place_of}
use Rattle.cx_items.specs.declared.item.Item.{Item}
use Rattle.cx_history.specs.Histories.{Recorded}
use Rattle.cx_script.specs.Script.{Names}
use Rattle.cx_races.specs.declared.access.Access.{Access}

-- how many accesses there are at most
abbrev pub access_limit : ℕ
access_limit = 4096

-- the number of a thread, jthread or async, or of main, by its name
abbrev pub thread_called : Names → List ℕ → Option ℕ
thread_called o name = place_of o.threads name

-- main, or a name that the scenario declares
abbrev pub is_known : Names → List ℕ → Bool
is_known o name = is_some (place_of o.threads name) || (is_some (place_of o.objects name) || is_some (place_of o.callbacks name))

-- ---- what a line says

pub data Said : Type 0 where
  AVersion : Said
  AnAccess : List ℕ → ℤ → List ℕ → Bool → Said
  TheLast : Said

-- `read` is no write, `write` is one
abbrev pub mode_of : List ℕ → Option Bool
mode_of w = if bytes_eq (codes "read") w then Some false else (if bytes_eq (codes "write") w then Some true else None)

abbrev pub access_by : List ℕ → Option ℤ → List ℕ → Option Bool → Option Said
access_by name (Some i) var (Some write) = if (is_name 1 name || bytes_eq main_word name) && is_name 1 var then Some (AnAccess name i var write) else None
access_by name _ var _ = None

-- `accesses 1`, `NAME I VAR read` or `NAME I VAR write`, `done`
abbrev pub said_by_words : List (List ℕ) → Option Said
said_by_words (w ∷ []) = if bytes_eq (codes "done") w then Some TheLast else None
said_by_words (w ∷ v ∷ []) = if bytes_eq (codes "accesses") w && bytes_eq (codes "1") v then Some AVersion else None
said_by_words (name ∷ i ∷ var ∷ mode ∷ []) = access_by name (natural_of i) var (mode_of mode)
said_by_words _ = None

-- a line, its words where it isn't dropped, and what it says
pub record Read : Type 0 where
  pub line : TextLine
  pub words : List (List ℕ)
  pub said : Option Said

abbrev pub read_words : TextLine → List (List ℕ) → Read
read_words line ws = record { line = line; words = ws; said = said_by_words ws }

abbrev pub read_line : TextLine → Read
read_line line = read_words line (words_of line.bytes)

abbrev pub as_list : Option Said → List Said
as_list None = []
as_list (Some x) = x ∷ []

abbrev pub said_by : List Read → List Said
said_by reads = flat_map (λ (r : Read). as_list r.said) reads

-- ---- what the lines so far say

-- before the first line, among the accesses, or behind `done`
pub data Place : Type 0 where
  Opening : Place
  Among : Place
  Over : Place

-- where the next line stands, the accesses, and the names of their variables in order of first accesses
pub record State : Type 0 where
  pub place : Place
  pub accesses : List Access
  pub names : List (List ℕ)

abbrev pub opening : State
opening = record { place = Opening; accesses = []; names = [] }

abbrev pub count_in : ℤ → ℕ
count_in (pos n) = n
count_in (negsuc n) = 0

-- a name is put behind the others, where it isn't there
abbrev pub name_put : List (List ℕ) → List ℕ → Option ℕ → List (List ℕ)
name_put names var (Some k) = names
name_put names var None = names ++ var ∷ []

-- the access of a thread of this number, to the variable that stands at its place among the names
abbrev pub access_in : Option ℕ → List (List ℕ) → ℤ → List ℕ → Bool → Access
access_in thread names i var write = record { thread = record { 0 = unwrap_or thread 0 }; point = count_in i; var = unwrap_or (place_of names var) 0; write = write }

abbrev pub with_access : Option ℕ → State → List (List ℕ) → ℤ → List ℕ → Bool → State
with_access thread st names i var write = record { place = Among; accesses = st.accesses ++ access_in thread names i var write ∷ []; names = names }

-- one line more
abbrev pub with_said : Names → State → Said → State
with_said o st AVersion = record st { place = Among }
with_said o st (AnAccess name i var write) = with_access (thread_called o name) st (name_put st.names var (place_of st.names var)) i var write
with_said o st TheLast = record st { place = Over }

abbrev pub with_all : Names → State → List Said → State
with_all o st [] = st
with_all o st (x ∷ xs) = with_all o (with_said o st x) xs

-- ---- which fault a line has behind these

abbrev pub stands_at : Place → Option Said → Bool
stands_at Opening (Some AVersion) = true
stands_at Among (Some (AnAccess name i var write)) = true
stands_at Among (Some TheLast) = true
stands_at _ _ = false

abbrev pub is_opening : Place → Bool
is_opening Opening = true
is_opening _ = false

-- the length of the list of a thread, where it has one
abbrev pub length_in : Option (List Item) → Option ℕ
length_in None = None
length_in (Some xs) = Some (length xs)

abbrev pub list_length : Recorded → Option ℕ → Option ℕ
list_length r None = None
list_length r (Some t) = option_and_then length_in (slice_get r.lists t)

-- a number up to the length of a list that is there
abbrev pub is_within : Option ℕ → ℤ → Bool
is_within (Some n) (pos i) = nat_le i n
is_within _ _ = false

-- a test of the thread and the number of an access; it fails on another line
abbrev pub on_access : Option Said → (List ℕ → ℤ → Bool) → Bool
on_access (Some (AnAccess name i var write)) test = test name i
on_access _ test = false

abbrev pub is_kept : Read → Bool
is_kept read = nat_lt 0 (length read.words)

-- whether a line has a fault of this kind; the kinds that aren't named never hold
abbrev pub holds : Names → Recorded → FaultKind → State → Read → Bool
holds o r faults.NotAscii st read = not (list_all is_text_byte read.line.bytes)
holds o r faults.TooLong st read = nat_lt 120 (length read.line.bytes) || read.line.over
holds o r faults.BadVersion st read = is_kept read && is_opening st.place && not (stands_at st.place read.said)
holds o r faults.BadWord st read = is_kept read && not (stands_at st.place read.said)
holds o r faults.TooMany st read = on_access read.said (λ name i. nat_le access_limit (length st.accesses))
holds o r faults.UnknownName st read = on_access read.said (λ name i. not (is_known o name))
holds o r faults.WrongKind st read = on_access read.said (λ name i. not (is_some (thread_called o name)))
holds o r faults.OutOfRange st read = on_access read.said (λ name i. not (is_within (list_length r (thread_called o name)) i))
holds o r _ st read = false

-- the first kind of the table that holds
abbrev pub fault_on : Names → Recorded → State → Read → Option FaultKind
fault_on o r st read = find (λ kind. holds o r kind st read) KINDS

-- the fault of a text that ends here: `done` must have stood
abbrev pub fault_at_end : Place → Option FaultKind
fault_at_end Over = None
fault_at_end _ = Some faults.NoEnd
