-- The first fault of a text.
use Rattle.std.specs.Prelude.{◌≡◌, ℕ, zero, suc, ◌+◌, ◌<◌, ℤ, pos, negsuc, Bool, true, false, ◌==◌, ◌&&◌, ◌||◌, not, List, [], ◌∷◌, ◌++◌, map, filter, length, take, slice_get, Option, Some, None, is_some, nat_lt, nat_le, int_le, if◌then◌else◌, find}
use Rattle.std.specs.List.{list_all, list_any, flat_map}
use Rattle.std.specs.Str.{bytes_eq}
use Rattle.cx_text.specs.declared.form.Form.{Form}
use Rattle.cx_text.specs.declared.form.Form.TheVariants as forms
use Rattle.cx_text.specs.declared.form.Field.{Field}
use Rattle.cx_text.specs.declared.form.Field.TheVariants as fields
use Rattle.cx_text.specs.declared.form.Sort.{Sort}
use Rattle.cx_text.specs.declared.form.Made.{Made}
use Rattle.cx_text.specs.declared.form.Made.TheVariants as mades
use Rattle.cx_text.specs.declared.fault.FaultKind.{FaultKind}
use Rattle.cx_text.specs.declared.fault.FaultKind.TheVariants as faults
use Rattle.cx_text.specs.declared.fault.Fault.{Fault}
use Rattle.cx_text.specs.declared.fault.TheConstants.{KINDS}
use Rattle.cx_text.specs.Table.{makes}
use Rattle.cx_text.specs.Lines.{Line, words_of, is_text_byte}
use Rattle.cx_text.specs.Words.{Filled, Value, AWord, ANumber, filled_by, fields_in, is_one_of, main_word}
use Rattle.cx_script.specs.Earlier.{part_of, is_call, Place, Opening, Over, place_after, may_stand, this_body, this_thread, made_of, is_known, declaration_of, words_at, fits_sort, number_at, subject}

-- ---- lines with what they say

-- a line, its words where it isn't dropped, and the form that they have
pub record Read : Type 0 where
  pub line : Line
  pub words : List (List ℕ)
  pub said : Option Filled

-- a line with its words and its form, in a text of this version
abbrev pub read_line : ℕ → Line → Read
read_line version line = with_words (words_of line.bytes)
  where
    with_words : List (List ℕ) → Read
    with_words ws = record { line = line; words = ws; said = filled_by version ws }

-- the version of a text's language: there is one
abbrev pub version_of : List Line → ℕ
version_of lines = 1

-- all lines of a text, with what they say
abbrev pub read_all : List Line → List Read
read_all lines = map (read_line (version_of lines)) lines

-- what the lines before say
abbrev pub said_by : List Read → List Filled
said_by reads = flat_map (λ (r : Read). as_list r.said) reads
  where
    as_list : Option Filled → List Filled
    as_list None = []
    as_list (Some l) = l ∷ []

-- ---- limits

-- how many lines a test holds on
abbrev pub counted : (Filled → Bool) → List Filled → ℕ
counted test lines = length (filter test lines)

-- a declaration that makes a thread number
abbrev pub makes_thread : Filled → Bool
makes_thread l = thread (makes l.form)
  where
    thread : Option Made → Bool
    thread (Some mades.Thread) = true
    thread (Some mades.JThread) = true
    thread (Some mades.Async) = true
    thread _ = false

-- a declaration that makes a callback
abbrev pub makes_callback : Filled → Bool
makes_callback l = callback (makes l.form)
  where
    callback : Option Made → Bool
    callback (Some mades.Callback) = true
    callback _ = false

-- a declaration that makes an object
abbrev pub makes_object : Filled → Bool
makes_object l = object (makes l.form)
  where
    object : Option Made → Bool
    object None = false
    object (Some mades.Thread) = false
    object (Some mades.Callback) = false
    object (Some m) = true

-- how many threads beside main a scenario of a version may have
abbrev pub most_threads : ℕ → ℕ
most_threads version = 63

-- one more thread, object, callback or call than a scenario, or than a body, may have
abbrev pub is_too_many : ℕ → List Filled → Filled → Bool
is_too_many version earlier l =
    (makes_thread l && nat_le (most_threads version) (counted makes_thread earlier))
    || (makes_object l && nat_le 128 (counted makes_object earlier))
    || (makes_callback l && nat_le 64 (counted makes_callback earlier))
    || (is_call l && (nat_le 4096 (length (this_body earlier)) || nat_le 65536 (counted is_call earlier)))

-- ---- names

-- a field that takes a name declared before
abbrev pub is_name_field : Field → Bool
is_name_field (fields.Name sort) = true
is_name_field (fields.Each sort) = true
is_name_field _ = false

-- a field of a list of distinct names
abbrev pub is_each_field : Field → Bool
is_each_field (fields.Each sort) = true
is_each_field _ = false

-- a name that is not declared before
abbrev pub has_unknown : List Filled → Filled → Bool
has_unknown earlier l = list_any (λ w. not (is_known earlier w)) (words_at is_name_field l)

-- a value at a field that takes a name, where no such name fits
abbrev pub is_misfit : (List ℕ → Sort → Bool) → Field → Value → Bool
is_misfit fits (fields.Name sort) (AWord w) = not (fits w sort)
is_misfit fits (fields.Each sort) (AWord w) = not (fits w sort)
is_misfit fits _ _ = false

-- some value of a line is a misfit
abbrev pub any_misfit : (List ℕ → Sort → Bool) → List Field → List Value → Bool
any_misfit fits (f ∷ fs) (v ∷ vs) = is_misfit fits f v || any_misfit fits fs vs
any_misfit fits _ _ = false

-- a name of a kind that does not fit its place, or that this thread may not call
abbrev pub has_wrong_kind : List Filled → Filled → Bool
has_wrong_kind earlier l = any_misfit (fits_sort earlier (this_thread earlier)) (fields_in l) l.values

-- ---- ranges

-- low ≤ n ≤ high
abbrev pub is_between : ℤ → ℤ → ℤ → Bool
is_between low high n = int_le low n && int_le n high

-- how many numbers a mutex has
abbrev pub numbers_of : List Filled → List ℕ → ℤ
numbers_of earlier name = numbers (declaration_of earlier name)
  where
    numbers : Option Filled → ℤ
    numbers None = pos 0
    numbers (Some l) = number_at l 1

-- the name of a mutex with numbers
abbrev pub is_mutex : List Filled → List ℕ → Bool
is_mutex earlier name = mutex (made_of earlier name)
  where
    mutex : Option Made → Bool
    mutex (Some mades.Mutex) = true
    mutex _ = false

-- the mutex that a line names
abbrev pub mutex_among : (List ℕ → Bool) → List Value → List ℕ
mutex_among test [] = []
mutex_among test (AWord w ∷ vs) = if test w then w else mutex_among test vs
mutex_among test (ANumber n ∷ vs) = mutex_among test vs

-- the number at the head of values
abbrev pub next_number : List Value → ℤ
next_number (ANumber n ∷ vs) = n
next_number _ = pos 0

-- a number outside its field, before these values, where the line's mutex has so many numbers
abbrev pub is_outside : ℤ → Field → ℤ → List Value → Bool
is_outside numbers (fields.Number low high) n vs = not (is_between (pos low) (pos high) n)
is_outside numbers fields.Signed n vs = not (is_between (negsuc 9223372036854775807) (pos 9223372036854775807) n)
is_outside numbers fields.Index n vs = int_le numbers n
is_outside numbers fields.UpToNext n vs = not (int_le n (next_number vs))
is_outside numbers _ n vs = false

-- some number of a line is outside its field
abbrev pub any_outside : ℤ → List Field → List Value → Bool
any_outside numbers (f ∷ fs) (ANumber n ∷ vs) = is_outside numbers f n vs || any_outside numbers fs vs
any_outside numbers (f ∷ fs) (AWord w ∷ vs) = any_outside numbers fs vs
any_outside numbers _ _ = false

-- a number outside its range; an index is below the numbers of the mutex that the line names
abbrev pub has_outside : List Filled → Filled → Bool
has_outside earlier l = any_outside (numbers_of earlier (mutex_among (is_mutex earlier) l.values)) (fields_in l) l.values

-- ---- twice

-- a word that stands twice
abbrev pub has_repeated : List (List ℕ) → Bool
has_repeated [] = false
has_repeated (w ∷ ws) = is_one_of ws w || has_repeated ws

-- two lines that may not both stand in a scenario, where they have one subject
abbrev pub is_once_only : Form → Form → Bool
is_once_only forms.Body forms.Body = true
is_once_only forms.Start forms.Start = true
is_once_only forms.Launch forms.Launch = true
is_once_only forms.Register forms.Register = true
is_once_only f g = is_some (makes f) && is_some (makes g)

-- a second line where only one may stand, or a name twice on this line
abbrev pub is_twice : List Filled → Filled → Bool
is_twice earlier l = list_any (λ (m : Filled). is_once_only m.form l.form && bytes_eq (subject m) (subject l)) earlier || has_repeated (words_at is_each_field l)

-- ---- latches

-- what a call takes from its latch
abbrev pub takes : Filled → ℤ
takes l = taking l.form
  where
    taking : Form → ℤ
    taking forms.CountDown = number_at l 1
    taking forms.ArriveAndWait = pos 1
    taking _ = pos 0

-- a count, and 0 for what is below it
abbrev pub count_in : ℤ → ℕ
count_in (pos n) = n
count_in (negsuc n) = 0

-- what the calls on these lines take from the latch of this name
abbrev pub taken : List ℕ → List Filled → ℕ
taken name [] = 0
taken name (l ∷ ls) = (if is_call l && bytes_eq (subject l) name then count_in (takes l) else 0) + taken name ls

-- the name of a latch
abbrev pub is_latch : List Filled → List ℕ → Bool
is_latch earlier name = latch (made_of earlier name)
  where
    latch : Option Made → Bool
    latch (Some mades.Latch) = true
    latch _ = false

-- a call by which more is taken from a latch than it counts
abbrev pub is_over_latch : List Filled → Filled → Bool
is_over_latch earlier l = is_call l && is_latch earlier (subject l) && nat_lt (count_in (numbers_of earlier (subject l))) (taken (subject l) (earlier ++ l ∷ []))

-- ---- order

-- a line of this form with this subject
abbrev pub is_line : (Form → Bool) → List ℕ → Filled → Bool
is_line test name l = test l.form && bytes_eq (subject l) name

-- the form of `register`
abbrev pub is_register : Form → Bool
is_register forms.Register = true
is_register _ = false

-- the form of `start`
abbrev pub is_start : Form → Bool
is_start forms.Start = true
is_start _ = false

-- the form of `join`
abbrev pub is_join : Form → Bool
is_join forms.Join = true
is_join _ = false

-- the name of a thread that is no jthread and no async
abbrev pub is_plain_thread : List Filled → List ℕ → Bool
is_plain_thread earlier name = thread (made_of earlier name)
  where
    thread : Option Made → Bool
    thread (Some mades.Thread) = true
    thread _ = false

-- a plain thread with a start, and no join after it
abbrev pub has_unjoined : List Filled → List Filled → Bool
has_unjoined earlier [] = false
has_unjoined earlier (l ∷ ls) =
    (is_start l.form && is_plain_thread earlier (subject l) && not (list_any (is_line is_join (subject l)) ls)) || has_unjoined earlier ls

-- a `deregister` with no `register` before it in its body, or the `end` of main where a thread is not joined
abbrev pub is_bad_order : List Filled → Filled → Bool
is_bad_order earlier l = bad l.form
  where
    bad : Form → Bool
    bad forms.Deregister = not (list_any (is_line is_register (subject l)) (this_body earlier))
    bad forms.End = bytes_eq main_word (this_thread earlier) && has_unjoined earlier (this_body earlier)
    bad _ = false

-- ---- the table of kinds

-- a test of what a line says; it fails on nothing said
abbrev pub on_said : Option Filled → (Filled → Bool) → Bool
on_said None test = false
on_said (Some l) test = test l

-- nothing stands before
abbrev pub is_opening : Place → Bool
is_opening Opening = true
is_opening _ = false

-- a line that has a form of its place
abbrev pub stands : List Filled → Option Filled → Bool
stands earlier None = false
stands earlier (Some l) = may_stand (place_after earlier) (part_of l.form)

-- whether a line has a fault of this kind, after what the earlier lines say
abbrev pub holds : ℕ → FaultKind → List Filled → Read → Bool
holds version faults.NotAscii earlier r = not (list_all is_text_byte r.line.bytes)
holds version faults.TooLong earlier r = nat_lt 120 (length r.line.bytes) || r.line.over
holds version faults.BadVersion earlier r = nat_lt 0 (length r.words) && is_opening (place_after earlier) && not (stands earlier r.said)
holds version faults.BadWord earlier r = nat_lt 0 (length r.words) && not (stands earlier r.said)
holds version faults.TooMany earlier r = on_said r.said (is_too_many version earlier)
holds version faults.UnknownName earlier r = on_said r.said (has_unknown earlier)
holds version faults.WrongKind earlier r = on_said r.said (has_wrong_kind earlier)
holds version faults.OutOfRange earlier r = on_said r.said (has_outside earlier)
holds version faults.Twice earlier r = on_said r.said (is_twice earlier)
holds version faults.LatchOver earlier r = on_said r.said (is_over_latch earlier)
holds version faults.BadOrder earlier r = on_said r.said (is_bad_order earlier)
holds version faults.NoEnd earlier r = false

-- the first kind of the table that holds
abbrev pub fault_on : ℕ → List Filled → Read → Option FaultKind
fault_on version earlier r = find (λ kind. holds version kind earlier r) KINDS

-- where the text ends
abbrev pub unended : Place → Option FaultKind
unended Over = None
unended _ = Some faults.NoEnd

-- the fault of a text at its end
abbrev pub fault_at_end : List Read → Option FaultKind
fault_at_end [] = Some faults.BadVersion
fault_at_end (r ∷ rs) = unended (place_after (said_by (r ∷ rs)))

-- the fault on line n, where lines are counted from 0
abbrev pub fault_on_line : ℕ → List Read → ℕ → Option FaultKind
fault_on_line version reads n = at_line (slice_get reads n)
  where
    at_line : Option Read → Option FaultKind
    at_line None = if length reads == n then fault_at_end reads else None
    at_line (Some r) = fault_on version (said_by (take n reads)) r

-- the fault of line n, or what follows from the next line on
abbrev pub on_line : ℕ → Option FaultKind → (ℕ → Option Fault) → Option Fault
on_line n (Some kind) rest = Some (record { line = suc n; kind = kind })
on_line n None rest = rest (suc n)

-- the first fault among `more` lines from line n on
abbrev pub fault_from : ℕ → List Read → ℕ → ℕ → Option Fault
fault_from version reads zero n = None
fault_from version reads (suc more) n = on_line n (fault_on_line version reads n) (λ k. fault_from version reads more k)

-- the least line with a fault, and its first kind
unfoldable pub first_fault : List Line → Option Fault
first_fault lines = fault_from (version_of lines) (read_all lines) (suc (length lines)) 0

-- in other words: no line before has a fault of any kind, and on this one this is the first
pub record IsFirstFault (lines : List Line) (n : ℕ) (kind : FaultKind) : Type 0 where
  pub holds_here : fault_on_line (version_of lines) (read_all lines) n ≡ Some kind
  pub none_before : (m : ℕ) → m < n → fault_on_line (version_of lines) (read_all lines) m ≡ None
