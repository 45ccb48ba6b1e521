-- The first fault of a record's text.
use Rattle.std.specs.Prelude.{◌≡◌, ℕ, zero, suc, ◌+◌, ◌<◌, Bool, true, false, ◌==◌, ◌&&◌, ◌||◌, not, List, [], ◌∷◌, map, filter, length, take, slice_get, Option, Some, None, nat_lt, if◌then◌else◌, find}
use Rattle.std.specs.List.{list_all, flat_map}
use Rattle.std.specs.Str.{bytes_eq}
use Rattle.cx_machine.specs.declared.kind.Kind.{Kind}
use Rattle.cx_text.specs.declared.form.Field.{Field}
use Rattle.cx_text.specs.declared.form.Field.TheVariants as fields
use Rattle.cx_text.specs.declared.form.Sort.{Sort}
use Rattle.cx_text.specs.declared.fault.FaultKind.{FaultKind}
use Rattle.cx_text.specs.declared.fault.FaultKind.TheVariants as faults
use Rattle.cx_text.specs.declared.fault.Fault.{Fault}
use Rattle.cx_text.specs.declared.fault.TheConstants.{KINDS}
use Rattle.cx_text.specs.Items.{items, item_fields}
use Rattle.cx_text.specs.Lines.{Line as TextLine, words_of, is_text_byte}
use Rattle.cx_text.specs.Words.{line_by}
use Rattle.cx_script.specs.Faults.{any_misfit, any_outside}
use Rattle.cx_script.specs.Script.{name_at}
use Rattle.cx_record.specs.Roster.{Roster, object_called, kind_called, numbers_called, is_known, takes_kind, fits_sort}
use Rattle.cx_record.specs.ItemLines.{Line, word_at, as_list, Part, AVersion, AList, AMark, AnItem, AnEnd, TheLast, AStuck, part_of}

-- ---- lines with what they say

-- a line, its words where it isn't dropped, and the row of the table of record lines that they have
pub record Read : Type 0 where
  pub line : TextLine
  pub words : List (List ℕ)
  pub said : Option Line

-- a line with its words and its row
abbrev pub read_line : TextLine → Read
read_line line = with_words (words_of line.bytes)
  where
    with_words : List (List ℕ) → Read
    with_words ws = record { line = line; words = ws; said = line_by items 1 ws }

-- what lines say
abbrev pub said_by : List Read → List Line
said_by reads = flat_map (λ (r : Read). as_list r.said) reads

-- ---- where a line stands

-- before the first line, between two lists, inside a list, or behind `done`
pub data Place : Type 0 where
  Opening : Place
  Between : Place
  Inside : Place
  Over : Place

-- the place behind a line of this part
abbrev pub behind : Part → Place
behind AVersion = Between
behind AList = Inside
behind AMark = Between
behind AnItem = Inside
behind AnEnd = Between
behind TheLast = Over
behind AStuck = Over

-- the last of these lines
abbrev pub last_of : List Line → Option Line
last_of [] = None
last_of (l ∷ []) = Some l
last_of (l ∷ m ∷ ls) = last_of (m ∷ ls)

-- a part that completes the list of a thread: its `end`, or that it wasn't started
abbrev pub ends_list : Part → Bool
ends_list AMark = true
ends_list AnEnd = true
ends_list _ = false

abbrev pub completes : Line → Bool
completes l = ends_list (part_of l.form)

-- where the next line stands, and how many lists are complete
pub record Stage : Type 0 where
  pub place : Place
  pub lists : ℕ

abbrev pub stage_after : List Line → Stage
stage_after earlier = record { place = after (last_of earlier); lists = length (filter completes earlier) }
  where
    after : Option Line → Place
    after None = Opening
    after (Some l) = behind (part_of l.form)

-- ---- the words of an item

-- the sort of the object that a row is for: an act has its OBJECT and then its position or stamp
abbrev pub object_sort : List Field → Option Sort
object_sort (fields.Name sort ∷ fields.Number low high ∷ fs) = Some sort
object_sort _ = None

-- whether an object of this kind, if any, has the words of a row for this sort
abbrev pub has_words : Sort → Option Kind → Bool
has_words sort None = false
has_words sort (Some kind) = takes_kind sort kind

-- whether the words of a row for this sort, if for any, are those of this kind, where there is an object
abbrev pub acts_on : Option Sort → Option Kind → Option ℕ → Bool
acts_on (Some sort) kind (Some o) = has_words sort kind
acts_on _ kind _ = true

-- the words of an item are those of the kind of its object, where its OBJECT is an object's name
abbrev pub has_its_words : Roster → Line → Bool
has_its_words r l = acts_on (object_sort (item_fields l.form)) (kind_called r (word_at l 0)) (object_called r (word_at l 0))

-- ---- which line may stand where

-- the name on a line is that of the thread whose list comes next
abbrev pub is_next : Roster → Stage → Line → Bool
is_next r g l = nat_lt g.lists (length r.names.threads) && bytes_eq (name_at r.names.threads g.lists) (word_at l 0)

-- the lists of all threads are complete
abbrev pub are_complete : Roster → Stage → Bool
are_complete r g = not (nat_lt g.lists (length r.names.threads))

abbrev pub stands_at : Roster → Stage → Line → Place → Part → Bool
stands_at r g l Opening AVersion = true
stands_at r g l Between AList = is_next r g l
stands_at r g l Between AMark = is_next r g l
stands_at r g l Between TheLast = are_complete r g
stands_at r g l Inside AnItem = has_its_words r l
stands_at r g l Inside AnEnd = true
stands_at r g l _ _ = false

-- a line that has a row of its place
abbrev pub stands : Roster → Stage → Option Line → Bool
stands r g None = false
stands r g (Some l) = stands_at r g l g.place (part_of l.form)

-- ---- names and numbers

-- a name that the scenario doesn't declare
abbrev pub has_unknown : Roster → Line → Bool
has_unknown r l = any_misfit (λ w sort. is_known r w) (item_fields l.form) l.values

-- a name of another kind than its place needs
abbrev pub has_wrong_kind : Roster → Line → Bool
has_wrong_kind r l = any_misfit (fits_sort r) (item_fields l.form) l.values

-- a number outside its range; an index is below the numbers of the mutex that is the line's OBJECT
abbrev pub has_outside : Roster → Line → Bool
has_outside r l = any_outside (numbers_called r (word_at l 0)) (item_fields l.form) l.values

-- ---- the table of kinds

-- a test of what a line says; it fails on nothing said
abbrev pub on_said : Option Line → (Line → Bool) → Bool
on_said None test = false
on_said (Some l) test = test l

-- a line that isn't dropped
abbrev pub is_kept : Read → Bool
is_kept read = nat_lt 0 (length read.words)

abbrev pub is_opening : Place → Bool
is_opening Opening = true
is_opening _ = false

-- whether a line that stands here has a fault of this kind. A record has no limits of its own and no line that may stand once only, so the
-- other kinds never hold
abbrev pub holds : Roster → FaultKind → Stage → Read → Bool
holds r faults.NotAscii g read = not (list_all is_text_byte read.line.bytes)
holds r faults.TooLong g read = nat_lt 120 (length read.line.bytes) || read.line.over
holds r faults.BadVersion g read = is_kept read && is_opening g.place && not (stands r g read.said)
holds r faults.BadWord g read = is_kept read && not (stands r g read.said)
holds r faults.UnknownName g read = on_said read.said (has_unknown r)
holds r faults.WrongKind g read = on_said read.said (has_wrong_kind r)
holds r faults.OutOfRange g read = on_said read.said (has_outside r)
holds r _ g read = false

-- the first kind of the table that holds
abbrev pub fault_on : Roster → Stage → Read → Option FaultKind
fault_on r g read = find (λ kind. holds r kind g read) KINDS

-- the fault of a text that ends here: `done` must have stood
abbrev pub fault_at_end : Place → Option FaultKind
fault_at_end Over = None
fault_at_end _ = Some faults.NoEnd

-- the fault on line n, where lines are counted from 0, after what the lines before say; at their number it's the fault at the end
abbrev pub fault_on_line : Roster → List Read → ℕ → Option FaultKind
fault_on_line r reads n = at_line (slice_get reads n)
  where
    at_line : Option Read → Option FaultKind
    at_line None = if length reads == n then fault_at_end (stage_after (said_by reads)).place else None
    at_line (Some read) = fault_on r (stage_after (said_by (take n reads))) read

-- the fault of line n, or what follows from the next line on; the number of line 0 is `first`
abbrev pub on_line : ℕ → ℕ → Option FaultKind → (ℕ → Option Fault) → Option Fault
on_line first n (Some kind) rest = Some (record { line = first + n; kind = kind })
on_line first n None rest = rest (suc n)

-- the first fault among `more` lines from line n on
abbrev pub fault_from : Roster → ℕ → List Read → ℕ → ℕ → Option Fault
fault_from r first reads zero n = None
fault_from r first reads (suc more) n = on_line first n (fault_on_line r reads n) (λ k. fault_from r first reads more k)

-- the least line with a fault, and its first kind
unfoldable pub first_fault : Roster → ℕ → List TextLine → Option Fault
first_fault r first lines = fault_from r first (map read_line lines) (suc (length lines)) 0

-- in other words: no line before has a fault of any kind, and on this one this is the first
pub record IsFirstFault (r : Roster) (lines : List TextLine) (n : ℕ) (kind : FaultKind) : Type 0 where
  pub holds_here : fault_on_line r (map read_line lines) n ≡ Some kind
  pub none_before : (m : ℕ) → m < n → fault_on_line r (map read_line lines) m ≡ None
