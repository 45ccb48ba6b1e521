-- What a reader keeps of the earlier lines, and how one line more changes it.
use Rattle.std.specs.Prelude.{◌≡◌, ℕ, ◌+◌, Bool, true, false, ◌&&◌, ◌||◌, not, List, [], ◌∷◌, ◌++◌, filter, length, Option, Some, None, is_some, nat_lt, nat_le, ◌==◌, if◌then◌else◌, slice_index, slice_set, option_map}
use Rattle.std.specs.List.{list_all, list_any}
use Rattle.std.specs.Str.{bytes_eq}
use Rattle.cx_scene.specs.declared.call.Call.{Call}
use Rattle.cx_text.specs.declared.form.Form.{Form}
use Rattle.cx_text.specs.declared.form.Form.TheVariants as forms
use Rattle.cx_text.specs.declared.fault.FaultKind.{FaultKind}
use Rattle.cx_text.specs.declared.fault.FaultKind.TheVariants as faults
use Rattle.cx_text.specs.declared.fault.Fault.{Fault}
use Rattle.cx_text.specs.Table.{makes}
use Rattle.cx_text.specs.Lines.{Line, is_text_byte}
use Rattle.cx_text.specs.Words.{Filled, main_word, fields_in, is_one_of, or_some}
use Rattle.cx_script.specs.Earlier.{Part, AVersion, ADeclaration, AnEnd, Place, Opening, Declaring, Between, Inside, Over, part_of, may_stand, is_call, is_main, begins_body, subject, declaration_of, made_of, fits_sort}
use Rattle.cx_script.specs.Faults.{Read, makes_thread, makes_object, makes_callback, is_opening, numbers_of, is_mutex, mutex_among, any_misfit, is_latch, is_plain_thread, has_repeated, takes, count_in, is_start, is_register}
use Rattle.cx_script.specs.Script.{Names, place_in, call_of, as_list}
use Rattle.cx_scenario.specs.Seen.{declares_any}
use Rattle.cx_scenario.specs.Checks.{any_unknown, any_outside, each_words}

-- the place behind a line of this part
abbrev pub behind : Bool → Part → Place
behind main AVersion = Declaring
behind main ADeclaration = Declaring
behind main AnEnd = if main then Over else Between
behind main _ = Inside

-- names with one more behind them, where it belongs to them
abbrev pub with_name : List (List ℕ) → Bool → List ℕ → List (List ℕ)
with_name names belongs name = if belongs then names ++ name ∷ [] else names

abbrev pub names_with : Names → Filled → Names
names_with names l = record {
  threads = with_name names.threads (makes_thread l) (subject l);
  objects = with_name names.objects (makes_object l) (subject l);
  callbacks = with_name names.callbacks (makes_callback l) (subject l);
}

-- ---- lines of which only one may stand for a name

-- the form that begins a body other than that of main
abbrev pub is_body : Form → Bool
is_body forms.Body = true
is_body _ = false

-- the form of `launch`
abbrev pub is_launch : Form → Bool
is_launch forms.Launch = true
is_launch _ = false

-- the names for which such a line stands before
pub record OnceState : Type 0 where
  pub bodies : List (List ℕ)
  pub started : List (List ℕ)
  pub launched : List (List ℕ)
  pub registered : List (List ℕ)

abbrev pub none_once : OnceState
none_once = record { bodies = []; started = []; launched = []; registered = [] }

abbrev pub once_with : OnceState → Filled → OnceState
once_with o l = record {
  bodies = with_name o.bodies (is_body l.form) (subject l);
  started = with_name o.started (is_start l.form) (subject l);
  launched = with_name o.launched (is_launch l.form) (subject l);
  registered = with_name o.registered (is_register l.form) (subject l);
}

-- whether a line stands before that may not stand beside this one
abbrev pub is_twice_before : OnceState → List Filled → Filled → Bool
is_twice_before o declared l = twice l.form
  where
    twice : Form → Bool
    twice forms.Body = is_one_of o.bodies (subject l)
    twice forms.Start = is_one_of o.started (subject l)
    twice forms.Launch = is_one_of o.launched (subject l)
    twice forms.Register = is_one_of o.registered (subject l)
    twice form = is_some (makes form) && is_some (declaration_of declared (subject l))

-- ---- the body under way

pub record BodyState : Type 0 where
  pub thread : List ℕ
  pub length : ℕ
  pub registered : List (List ℕ)
  pub unjoined : List (List ℕ)

-- whose body a line begins
abbrev pub begun_name : Filled → List ℕ
begun_name l = if is_main l then main_word else subject l

abbrev pub without : List (List ℕ) → List ℕ → List (List ℕ)
without names name = filter (λ n. not (bytes_eq n name)) names

abbrev pub opened : BodyState → Filled → BodyState
opened b l = if begins_body l then record { thread = begun_name l; length = 0; registered = []; unjoined = [] } else b

abbrev pub counted_in : BodyState → Bool → BodyState
counted_in b call = if call then record { thread = b.thread; length = b.length + 1; registered = b.registered; unjoined = b.unjoined } else b

-- who is registered, started or joined by a line of this form
abbrev pub marked : BodyState → Form → List ℕ → BodyState
marked b forms.Register name = record { thread = b.thread; length = b.length; registered = b.registered ++ name ∷ []; unjoined = b.unjoined }
marked b forms.Start name = record { thread = b.thread; length = b.length; registered = b.registered; unjoined = b.unjoined ++ name ∷ [] }
marked b forms.Join name = record { thread = b.thread; length = b.length; registered = b.registered; unjoined = without b.unjoined name }
marked b _ name = b

abbrev pub body_with : BodyState → Filled → BodyState
body_with b l = marked (counted_in (opened b l) (is_call l)) l.form (subject l)

-- ---- what is taken from latches

pub record TakingsState : Type 0 where
  pub names : List (List ℕ)
  pub counts : List ℕ

abbrev pub taken_in : TakingsState → List ℕ → ℕ
taken_in ts name = slice_index ts.counts (place_in ts.names name)

abbrev pub added : TakingsState → List ℕ → ℕ → TakingsState
added ts name n =
    if nat_lt (place_in ts.names name) (length ts.counts)
    then record { names = ts.names; counts = slice_set ts.counts (place_in ts.names name) (slice_index ts.counts (place_in ts.names name) + n) }
    else record { names = ts.names ++ name ∷ []; counts = ts.counts ++ n ∷ [] }

abbrev pub is_taking : Form → Bool
is_taking forms.CountDown = true
is_taking forms.ArriveAndWait = true
is_taking _ = false

abbrev pub takings_with : TakingsState → Filled → TakingsState
takings_with ts l = if is_taking l.form then added ts (subject l) (count_in (takes l)) else ts

-- ---- the bodies in the order in which they are read

pub record GroupOf : Type 0 where
  pub thread : List ℕ
  pub calls : List Call

pub record GroupsState : Type 0 where
  pub done : List GroupOf
  pub open_one : Option GroupOf

abbrev pub closed : GroupsState → GroupsState
closed g = record { done = g.done ++ as_list g.open_one; open_one = None }

abbrev pub begun : GroupsState → List ℕ → GroupsState
begun g thread = record { done = g.done ++ as_list g.open_one; open_one = Some (record { thread = thread; calls = [] }) }

abbrev pub longer : Call → GroupOf → GroupOf
longer call g = record { thread = g.thread; calls = g.calls ++ call ∷ [] }

abbrev pub with_call : GroupsState → Call → GroupsState
with_call g call = record { done = g.done; open_one = option_map (longer call) g.open_one }

abbrev pub called : GroupsState → Option Call → GroupsState
called g None = g
called g (Some call) = with_call g call

-- a line closes, begins or goes on with a body
abbrev pub groups_with : GroupsState → Filled → Option Call → GroupsState
groups_with g l call = if begins_body l then begun g (begun_name l) else (if is_call l then called g call else closed g)

-- ---- all that is kept

pub record State : Type 0 where
  pub place : Place
  pub main : Bool
  pub kept : List Filled
  pub once : OnceState
  pub names : Names
  pub body : BodyState
  pub calls : ℕ
  pub takings : TakingsState
  pub groups : GroupsState

abbrev pub opening_state : State
opening_state = record {
  place = Opening;
  main = false;
  kept = [];
  once = none_once;
  names = record { threads = main_word ∷ []; objects = []; callbacks = [] };
  body = record { thread = main_word; length = 0; registered = []; unjoined = [] };
  calls = 0;
  takings = record { names = []; counts = [] };
  groups = record { done = []; open_one = None };
}

-- the call that a line says
abbrev pub call_on : State → Filled → Option Call
call_on s l = call_of s.names (made_of s.kept (subject l)) l l.form

-- the names, the counts and the place, with one line more
abbrev pub counted_with : State → Filled → State
counted_with s l = record {
  place = behind (s.main || is_main l) (part_of l.form);
  main = s.main || is_main l;
  kept = s.kept;
  once = once_with s.once l;
  names = names_with s.names l;
  body = body_with s.body l;
  calls = if is_call l then s.calls + 1 else s.calls;
  takings = takings_with s.takings l;
  groups = s.groups;
}

abbrev pub state_with : State → Filled → State
state_with s l = record {
  place = behind (s.main || is_main l) (part_of l.form);
  main = s.main || is_main l;
  kept = if declares_any l then s.kept ++ l ∷ [] else s.kept;
  once = once_with s.once l;
  names = names_with s.names l;
  body = body_with s.body l;
  calls = if is_call l then s.calls + 1 else s.calls;
  takings = takings_with s.takings l;
  groups = groups_with s.groups l (call_on s l);
}

-- ---- the fault of a line, by what is kept

abbrev pub too_many_in : State → Filled → Bool
too_many_in s l =
    (makes_thread l && nat_le 64 (length s.names.threads))
    || (makes_object l && nat_le 128 (length s.names.objects))
    || (makes_callback l && nat_le 64 (length s.names.callbacks))
    || (is_call l && (nat_le 4096 s.body.length || nat_le 65536 s.calls))

abbrev pub unknown_in : State → Filled → Bool
unknown_in s l = any_unknown s.kept (fields_in l) l.values

abbrev pub wrong_kind_in : State → Filled → Bool
wrong_kind_in s l = any_misfit (fits_sort s.kept s.body.thread) (fields_in l) l.values

abbrev pub outside_in : State → Filled → Bool
outside_in s l = any_outside (numbers_of s.kept (mutex_among (is_mutex s.kept) l.values)) (fields_in l) l.values

abbrev pub twice_in : State → Filled → Bool
twice_in s l = is_twice_before s.once s.kept l || has_repeated (each_words (fields_in l) l.values)

abbrev pub over_latch_in : State → Filled → Bool
over_latch_in s l = is_call l && is_latch s.kept (subject l) && nat_lt (count_in (numbers_of s.kept (subject l))) (taken_in s.takings (subject l) + count_in (takes l))

abbrev pub bad_order_in : State → Filled → Bool
bad_order_in s l = bad l.form
  where
    bad : Form → Bool
    bad forms.Deregister = not (is_one_of s.body.registered (subject l))
    bad forms.End = bytes_eq main_word s.body.thread && list_any (is_plain_thread s.kept) s.body.unjoined
    bad _ = false

-- the kinds from OutOfRange on
abbrev pub later_among : State → Filled → Option FaultKind
later_among s l =
    if outside_in s l then Some faults.OutOfRange
    else (if twice_in s l then Some faults.Twice
    else (if over_latch_in s l then Some faults.LatchOver
    else (if bad_order_in s l then Some faults.BadOrder
    else None)))

abbrev pub fault_among : State → Filled → Option FaultKind
fault_among s l =
    if too_many_in s l then Some faults.TooMany
    else (if unknown_in s l then Some faults.UnknownName
    else (if wrong_kind_in s l then Some faults.WrongKind
    else later_among s l))

abbrev pub line_fault : Line → Option FaultKind
line_fault line =
    if not (list_all is_text_byte line.bytes) then Some faults.NotAscii
    else (if nat_lt 120 (length line.bytes) || line.over then Some faults.TooLong else None)

-- the fault of a kept line with none of the forms of its place
abbrev pub misplaced_in : State → FaultKind
misplaced_in s = if is_opening s.place then faults.BadVersion else faults.BadWord

abbrev pub said_fault : State → Option Filled → Option FaultKind
said_fault s None = Some (misplaced_in s)
said_fault s (Some l) = if may_stand s.place (part_of l.form) then fault_among s l else Some (misplaced_in s)

abbrev pub words_fault : State → List (List ℕ) → Option Filled → Option FaultKind
words_fault s [] said = None
words_fault s (w ∷ ws) said = said_fault s said

abbrev pub fault_in : State → Read → Option FaultKind
fault_in s r = or_some (line_fault r.line) (words_fault s r.words r.said)

-- how a line without a fault is taken
abbrev pub state_after : State → Option Filled → State
state_after s None = s
state_after s (Some l) = state_with s l

-- whether there is this fault, or else what is kept next
abbrev pub GoesBy : State → Option FaultKind → Option Filled → Option FaultKind → State → Type 0
GoesBy s wanted said (Some kind) next = wanted ≡ Some kind
GoesBy s wanted said None next = (wanted ≡ None) × (next ≡ state_after s said)

-- ---- where the text ends

abbrev pub unended_in : Place → ℕ → Option Fault
unended_in Over n = None
unended_in _ n = Some (record { line = n + 1; kind = faults.NoEnd })

-- the fault of a text that ends here, after so many lines
abbrev pub end_in : Place → ℕ → Option Fault
end_in p n = if n == 0 then Some (record { line = n + 1; kind = faults.BadVersion }) else unended_in p n
