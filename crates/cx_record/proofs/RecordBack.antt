-- The text that is printed of a well-formed record is parsed as that record.
use Rattle.std.proofs.Common.{◌≡◌, ℕ, zero, suc, ◌+◌, ◌<◌, ◌≤◌, Bool, true, false, cond, ◌&&◌, ◌||◌, not, List, [], ◌∷◌, ◌++◌, length, map, Option, Some, None, refl, sym, ap, ap₂, subst, ◌∙◌, arith, append_assoc}
use Rattle.std.specs.Prelude.{Ok, Result, nat_lt, slice_get}
use Rattle.std.specs.Option.{option_and_then}
use Rattle.std.specs.List.{AllByRecursion, flat_map, join_with_byte, list_all}
use Rattle.std.specs.Str.{bytes_eq}
use Rattle.std.proofs.lemmas.Bool.{le-ltb, lt-ltb}
use Rattle.std.proofs.lemmas.List.{append-nil}
use Rattle.std.proofs.lemmas.Slice.Eq.{bytes_eq-Decides}
use Rattle.cx_text.specs.declared.fault.FaultKind.{FaultKind}
use Rattle.cx_text.specs.declared.fault.FaultKind.TheVariants as faults
use Rattle.cx_text.specs.declared.fault.Fault.{Fault}
use Rattle.cx_text.specs.declared.item.ItemForm.TheVariants as forms
use Rattle.cx_text.specs.Items.{items, item_fields, item_since}
use Rattle.cx_text.specs.Lines.{Line as TextLine, is_text_byte, line_text, lines_of}
use Rattle.cx_text.specs.Words.{line_by, or_some, own_word, spell, words_by}
use Rattle.cx_text.proofs.Lexing.{IsLine, lines_back, plain_line, text_of, words_back}
use Rattle.cx_items.specs.declared.item.Item.{Item}
use Rattle.cx_script.specs.Numbered.{IsScript, numbered}
use Rattle.cx_script.specs.Script.{Script, name_at, names_in}
use Rattle.cx_history.specs.Histories.{Recorded, items_of}
use Rattle.cx_history.specs.IsRecord.{IsRecord}
use Rattle.cx_record.specs.Roster.{Roster, numbers_called, roster_of}
use Rattle.cx_record.specs.ItemLines.{AnItem, Line, Part, as_list, item_said, items_from, list_begun, lists_from, part_of, thread_behind, with_item, word_at}
use Rattle.cx_record.specs.RecordFaults.{Between, Inside, Opening, Over, Place, Read, Stage, behind, ends_list, fault_on, has_outside, has_unknown, has_wrong_kind, read_line, said_by, stands_at}
use Rattle.cx_record.specs.RecordSteps.{State, fault_in, misplaced, opening_stage, stage_with, walk}
use Rattle.cx_record.specs.Printed.{Naming, bytes_of, item_line, item_text, line_bytes, lists_text, naming_of, record_text, row_line, thread}
use Rattle.cx_record.specs.Parsed.{record_meaning}
use Rattle.cx_record.specs.Laws.{HasTypes}
use Rattle.cx_record.proofs.FaultOf.{fault_same}
use Rattle.cx_record.proofs.FieldsHold.{HoldAll, all_clean, all_fit}
use Rattle.cx_record.proofs.GoingOn.{meaning_ok}
use Rattle.cx_record.proofs.ItemsBack.{ItemBack, item_back, known_thread, thread_at, thread_fits}
use Rattle.cx_record.proofs.NamesKnown.{AreKnown, names_known}
use Rattle.cx_record.proofs.RowsBack.{back_at, is_shown, well_filled}
use Rattle.cx_record.proofs.Walked.{walk_is_first}

-- ---- the lines of a record, before these

abbrev acts_line : Naming → ℕ → Line
acts_line names t = row_line forms.Acts (thread names t ∷ [])

abbrev mark_line : Naming → ℕ → Line
mark_line names t = row_line forms.Unstarted (thread names t ∷ [])

abbrev end_line : Line
end_line = row_line forms.EndOfActs []

abbrev version_line : Line
version_line = row_line forms.RecordOne []

abbrev last_line : Line
last_line = row_line forms.Done []

abbrev items_then : Naming → List Item → List Line → List Line
items_then names [] rest = rest
items_then names (x ∷ xs) rest = as_list (item_line names x) ++ items_then names xs rest

abbrev lists_then : Naming → ℕ → List (Option (List Item)) → List Line → List Line
lists_then names t [] rest = rest
lists_then names t (None ∷ ls) rest = mark_line names t ∷ lists_then names (suc t) ls rest
lists_then names t (Some xs ∷ ls) rest = acts_line names t ∷ items_then names xs (end_line ∷ lists_then names (suc t) ls rest)

abbrev record_lines : Naming → List (Option (List Item)) → List Line
record_lines names ls = version_line ∷ lists_then names 0 ls (last_line ∷ [])

-- ---- the text is that of these lines

abbrev text : List Line → List ℕ
text ls = text_of (map (words_by items) ls)

bytes_then : (o : Option Line) (rest : List Line) → text (as_list o ++ rest) ≡ bytes_of o ++ text rest
unfolding line_bytes
bytes_then None rest = refl
bytes_then (Some l) rest = refl

items_text : (names : Naming) (xs : List Item) (rest : List Line) → text (items_then names xs rest) ≡ flat_map (item_text names) xs ++ text rest
items_text names [] rest = refl
items_text names (x ∷ xs) rest =
    bytes_then (item_line names x) (items_then names xs rest)
    ∙ ap (λ (t : List ℕ). item_text names x ++ t) (items_text names xs rest)
    ∙ sym (append_assoc (item_text names x) (flat_map (item_text names) xs) (text rest))

grouped : (a i e l z : List ℕ) → a ++ (i ++ (e ++ (l ++ z))) ≡ a ++ i ++ e ++ l ++ z
grouped a i e l z = sym (append_assoc (a ++ i ++ e) l z ∙ append_assoc (a ++ i) e (l ++ z) ∙ append_assoc a i (e ++ (l ++ z)))

lists_text_is : (names : Naming) (t : ℕ) (ls : List (Option (List Item))) (rest : List Line) → text (lists_then names t ls rest) ≡ lists_text names t ls ++ text rest
unfolding line_bytes
lists_text_is names t [] rest = refl
lists_text_is names t (None ∷ ls) rest =
    let one : suc t ≡ t + 1 = omega arith in
    let m : List ℕ = line_text (words_by items (mark_line names t)) in
    ap (λ (z : List ℕ). m ++ z) (lists_text_is names (suc t) ls rest ∙ ap (λ (n : ℕ). lists_text names n ls ++ text rest) one) ∙ sym (append_assoc m (lists_text names (t + 1) ls) (text rest))
lists_text_is names t (Some xs ∷ ls) rest =
    let one : suc t ≡ t + 1 = omega arith in
    let a : List ℕ = line_text (words_by items (acts_line names t)) in
    let i : List ℕ = flat_map (item_text names) xs in
    let e : List ℕ = line_text (words_by items end_line) in
    ap (λ (z : List ℕ). a ++ z) (items_text names xs (end_line ∷ lists_then names (suc t) ls rest))
    ∙ ap (λ (z : List ℕ). a ++ (i ++ (e ++ z))) (lists_text_is names (suc t) ls rest ∙ ap (λ (n : ℕ). lists_text names n ls ++ text rest) one)
    ∙ grouped a i e (lists_text names (t + 1) ls) (text rest)

record_text_is : (names : Naming) (r : Recorded) → text (record_lines names r.lists) ≡ record_text names r []
unfolding line_bytes
record_text_is names r =
    let v : List ℕ = line_text (words_by items version_line) in
    ap (λ (z : List ℕ). v ++ z) (lists_text_is names 0 r.lists (last_line ∷ []) ∙ ap (λ (z : List ℕ). lists_text names 0 r.lists ++ z) (append-nil (line_text (words_by items last_line))))

-- ---- a line that is written is read as itself, and has no fault by its bytes, its names and its numbers

record IsGood (r : Roster) (l : Line) : Type 0 where
  plain : IsLine (words_by items l)
  bytes : list_all is_text_byte (join_with_byte 32 (words_by items l)) ≡ true
  short : length (join_with_byte 32 (words_by items l)) ≤ 120
  back : line_by items 1 (words_by items l) ≡ Some l
  known : has_unknown r l ≡ false
  kind : has_wrong_kind r l ≡ false
  inside : has_outside r l ≡ false

good : (r : Roster) (l : Line) → item_since l.form ≡ 1 → HoldAll r (numbers_called r (word_at l 0)) (item_fields l.form) l.values → IsGood r l
good r l since holds =
    let fits = well_filled l (all_fit r (numbers_called r (word_at l 0)) (own_word (map spell l.values)) (item_fields l.form) l.values holds) in
    let shown = is_shown l fits in
    let clean = all_clean r (numbers_called r (word_at l 0)) (item_fields l.form) l.values holds in
    record { plain = shown.words; bytes = shown.text; short = shown.short; back = back_at l.form l.values since fits; known = clean.known; kind = clean.kind; inside = clean.inside }

abbrev read_as : Line → Read
read_as l = record { line = plain_line (words_by items l); words = words_by items l; said = Some l }

read_good : (r : Roster) (l : Line) → IsGood r l → read_line (plain_line (words_by items l)) ≡ read_as l
read_good r l g = rw (words_back (words_by items l) g.plain, g.back) refl

abbrev AreGood : Roster → List Line → Type 0
AreGood r ls = AllByRecursion (IsGood r) ls

all_read : (r : Roster) (ls : List Line) → AreGood r ls → map read_line (map plain_line (map (words_by items) ls)) ≡ map read_as ls
all_read r [] h = refl
all_read r (l ∷ ls) h = rw (read_good r l h.0) (ap (λ (t : List Read). read_as l ∷ t) (all_read r ls h.1))

all_plain : (r : Roster) (ls : List Line) → AreGood r ls → AllByRecursion IsLine (map (words_by items) ls)
all_plain r [] h = tt
all_plain r (l ∷ ls) h = (h.0.plain, all_plain r ls h.1)

said_all : (ls : List Line) → said_by (map read_as ls) ≡ ls
said_all [] = refl
said_all (l ∷ ls) = ap (λ (t : List Line). l ∷ t) (said_all ls)

-- ---- lines that stand in their places

none_of_all : (a b c d e f : Bool) (x : FaultKind) → a ≡ true → b ≡ false → c ≡ true → d ≡ false → e ≡ false → f ≡ false
    → or_some (cond (not a) (Some faults.NotAscii) (cond (b || false) (Some faults.TooLong) None)) (cond c (cond d (Some faults.UnknownName) (cond e (Some faults.WrongKind) (cond f (Some faults.OutOfRange) None))) (Some x)) ≡ None
none_of_all a b c d e f x p q s t u v = rw (p, q, s, t, u, v) refl

fault_none : (r : Roster) (g : Stage) (l : Line) → IsGood r l → stands_at r g l g.place (part_of l.form) ≡ true → fault_on r g (read_as l) ≡ None
fault_none r g l h stands =
    let line : TextLine = plain_line (words_by items l) in
    let same : read_line line ≡ read_as l = read_good r l h in
    let bytes : List ℕ = join_with_byte 32 (words_by items l) in
    ap (fault_on r g) (sym same)
    ∙ sym (fault_same r g line)
    ∙ ap (fault_in r g) same
    ∙ none_of_all (list_all is_text_byte bytes) (nat_lt 120 (length bytes)) (stands_at r g l g.place (part_of l.form)) (has_unknown r l) (has_wrong_kind r l) (has_outside r l) (misplaced g.place)
    h.bytes (le-ltb 120 (length bytes) h.short) stands h.known h.kind h.inside

-- the lines from a stage on have no fault, whatever their numbers
abbrev AreClear : Roster → Stage → List Line → Type 0
AreClear r g ls = (n : ℕ) → walk r n g (map read_as ls) ≡ None

clear_line : (r : Roster) (g : Stage) (l : Line) (ls : List Line) → IsGood r l → stands_at r g l g.place (part_of l.form) ≡ true → AreClear r (stage_with g l) ls → AreClear r g (l ∷ ls)
unfolding walk
clear_line r g l ls h stands later n = rw (fault_none r g l h stands) (later (suc n))

abbrev stage : Place → ℕ → Stage
stage p t = record { place = p; lists = t }

clear_end : (r : Roster) (t : ℕ) → AreClear r (stage Over t) []
unfolding walk
clear_end r t n = refl

module _ (s : Script) (known : AreKnown s) where
  abbrev r : Roster
  r = roster_of s

  abbrev names : Naming
  names = naming_of s

  abbrev threads_count : ℕ
  threads_count = length (names_in s).threads

  -- the items of a thread
  abbrev AreBack : ℕ → List Item → Type 0
  AreBack t xs = AllByRecursion (ItemBack s t) xs

  abbrev ListsBack : ℕ → List (Option (List Item)) → Type 0
  ListsBack t [] = Unit {0}
  ListsBack t (l ∷ ls) = AreBack t (items_of l) × ListsBack (suc t) ls

  -- ---- they are good

  good_item : (t : ℕ) (x : Item) (h : ItemBack s t x) → IsGood r h.line
  good_item t x h = good r h.line h.since h.holds

  good_items : (t : ℕ) (xs : List Item) (rest : List Line) → AreBack t xs → AreGood r rest → AreGood r (items_then names xs rest)
  good_items t [] rest h k = k
  good_items t (x ∷ xs) rest h k = subst (λ (o : Option Line). AreGood r (as_list o ++ items_then names xs rest)) (sym h.0.is) (good_item t x h.0, good_items t xs rest h.1 k)

  thread_holds : (t : ℕ) → t < threads_count → HoldAll r (numbers_called r (name_at names.threads t)) (item_fields forms.Acts) (thread names t ∷ [])
  thread_holds t lt =
      let c = known.threads_count in
      let x = thread_at s known t (omega arith) in
      ((x.name, known_thread r (name_at names.threads t) t x, thread_fits r (name_at names.threads t) t x), tt)

  good_acts : (t : ℕ) → t < threads_count → IsGood r (acts_line names t)
  good_acts t lt = good r (acts_line names t) refl (thread_holds t lt)

  good_mark : (t : ℕ) → t < threads_count → IsGood r (mark_line names t)
  good_mark t lt = good r (mark_line names t) refl (thread_holds t lt)

  good_end : IsGood r end_line
  good_end = good r end_line refl tt

  good_last : IsGood r last_line
  good_last = good r last_line refl tt

  good_version : IsGood r version_line
  good_version = good r version_line refl (refl, tt)

  good_lists : (t : ℕ) (ls : List (Option (List Item))) (rest : List Line) → ListsBack t ls → t + length ls ≡ threads_count → AreGood r rest → AreGood r (lists_then names t ls rest)
  good_lists t [] rest h c k = k
  good_lists t (None ∷ ls) rest h c k = (good_mark t (omega arith), good_lists (suc t) ls rest h.1 (omega arith) k)
  good_lists t (Some xs ∷ ls) rest h c k =
      (good_acts t (omega arith), good_items t xs (end_line ∷ lists_then names (suc t) ls rest) h.0 (good_end, good_lists (suc t) ls rest h.1 (omega arith) k))

  -- ---- they stand in their places

  clear_items : (t : ℕ) (xs : List Item) (rest : List Line) → AreBack t xs → AreClear r (stage Inside t) rest → AreClear r (stage Inside t) (items_then names xs rest)
  clear_items t [] rest h k = k
  clear_items t (x ∷ xs) rest h k =
      subst (λ (o : Option Line). AreClear r (stage Inside t) (as_list o ++ items_then names xs rest)) (sym h.0.is)
      (clear_line r (stage Inside t) h.0.line (items_then names xs rest) (good_item t x h.0) (ap (λ (q : Part). stands_at r (stage Inside t) h.0.line Inside q) h.0.part ∙ h.0.words)
      (subst (λ (q : Part). AreClear r (stage (behind q) (cond (ends_list q) (suc t) t)) (items_then names xs rest)) (sym h.0.part) (clear_items t xs rest h.1 k)))

  -- the list of the thread whose name is next
  next_is : (t : ℕ) → t < threads_count → (nat_lt t threads_count && bytes_eq (name_at names.threads t) (name_at names.threads t)) ≡ true
  next_is t lt = rw (lt-ltb t threads_count lt) ((bytes_eq-Decides (name_at names.threads t) (name_at names.threads t)).1 refl)

  all_over : (t : ℕ) → t + 0 ≡ threads_count → not (nat_lt t threads_count) ≡ true
  all_over t c = let past : nat_lt t threads_count ≡ false = le-ltb t threads_count (omega arith) in rw past refl

  clear_lists : (t : ℕ) (ls : List (Option (List Item))) → ListsBack t ls → t + length ls ≡ threads_count → AreClear r (stage Between t) (lists_then names t ls (last_line ∷ []))
  clear_lists t [] h c = clear_line r (stage Between t) last_line [] good_last (all_over t c) (clear_end r t)
  clear_lists t (None ∷ ls) h c =
      clear_line r (stage Between t) (mark_line names t) (lists_then names (suc t) ls (last_line ∷ [])) (good_mark t (omega arith)) (next_is t (omega arith)) (clear_lists (suc t) ls h.1 (omega arith))
  clear_lists t (Some xs ∷ ls) h c =
      clear_line r (stage Between t) (acts_line names t) (items_then names xs (end_line ∷ lists_then names (suc t) ls (last_line ∷ []))) (good_acts t (omega arith)) (next_is t (omega arith))
      (clear_items t xs (end_line ∷ lists_then names (suc t) ls (last_line ∷ [])) h.0
      (clear_line r (stage Inside t) end_line (lists_then names (suc t) ls (last_line ∷ [])) good_end refl (clear_lists (suc t) ls h.1 (omega arith))))

  -- ---- they say the lists

  items_again : (t : ℕ) (xs : List Item) (rest : List Line) → AreBack t xs → items_from r t (items_then names xs (end_line ∷ rest)) ≡ xs
  items_again t [] rest h = refl
  items_again t (x ∷ xs) rest h =
      ap (λ (o : Option Line). items_from r t (as_list o ++ items_then names xs (end_line ∷ rest))) h.0.is
      ∙ ap₂ (λ (q : Part) (o : Option Item). with_item q o (items_from r t (items_then names xs (end_line ∷ rest)))) h.0.part h.0.says
      ∙ ap (λ (ys : List Item). x ∷ ys) (items_again t xs rest h.1)

  lists_behind : (t u : ℕ) (xs : List Item) (rest : List Line) → AreBack t xs → lists_from r u (items_then names xs rest) ≡ lists_from r u rest
  lists_behind t u [] rest h = refl
  lists_behind t u (x ∷ xs) rest h =
      ap (λ (o : Option Line). lists_from r u (as_list o ++ items_then names xs rest)) h.0.is
      ∙ ap (λ (q : Part). list_begun q (items_from r u (items_then names xs rest)) ++ lists_from r (thread_behind q u) (items_then names xs rest)) h.0.part
      ∙ lists_behind t u xs rest h.1

  lists_again : (t : ℕ) (ls : List (Option (List Item))) → ListsBack t ls → lists_from r t (lists_then names t ls (last_line ∷ [])) ≡ ls
  lists_again t [] h = refl
  lists_again t (None ∷ ls) h = ap (λ (k : List (Option (List Item))). None ∷ k) (lists_again (suc t) ls h.1)
  lists_again t (Some xs ∷ ls) h =
      let rest : List Line = lists_then names (suc t) ls (last_line ∷ []) in
      ap₂ (λ (ys : List Item) (k : List (Option (List Item))). Some ys ∷ k) (items_again t xs rest h.0) (lists_behind t (suc t) xs (end_line ∷ rest) h.0 ∙ lists_again (suc t) ls h.1)

  -- ---- the whole text

  parsed : (first room : ℕ) (q : Recorded) → ListsBack 0 q.lists → length q.lists ≡ threads_count → q.version ≡ s.version → length (record_text names q []) ≤ room → record_meaning s first room (record_text names q []) ≡ Ok q
  parsed first room q h c v short =
      let ls : List Line = record_lines names q.lists in
      let lines : List TextLine = map plain_line (map (words_by items) ls) in
      let same : text ls ≡ record_text names q [] = record_text_is names q in
      let all : AreGood r ls = (good_version, good_lists 0 q.lists (last_line ∷ []) h (omega arith) (good_last, tt)) in
      let fits : length (text ls) ≤ room = subst (λ (t : List ℕ). length t ≤ room) (sym same) short in
      let read : lines_of room (record_text names q []) ≡ lines = ap (lines_of room) (sym same) ∙ lines_back room (map (words_by items) ls) (all_plain r ls all) fits in
      let reads : map read_line lines ≡ map read_as ls = all_read r ls all in
      let clear : AreClear r opening_stage ls = clear_line r opening_stage version_line (lists_then names 0 q.lists (last_line ∷ [])) good_version refl (clear_lists 0 q.lists h (omega arith)) in
      let state : State = record { roster = r; stage = opening_stage; done = q.lists; under_way = [] } in
      meaning_ok s first room (record_text names q []) lines r state (sym read) refl (
        sym (walk_is_first r first lines) ∙ ap (λ (t : List Read). walk r first opening_stage t) reads ∙ clear first,
        ap (λ (t : List Read). lists_from r 0 (said_by t)) reads ∙ ap (lists_from r 0) (said_all ls) ∙ lists_again 0 q.lists h,
        refl,
      )
      ∙ ap (λ (n : ℕ). Ok (record { version = n; lists = q.lists })) (sym v)

-- ---- the items of a well-formed record

abbrev list_at : List (Option (List Item)) → ℕ → List Item
list_at ls t = items_of (option_and_then (λ l. l) (slice_get ls t))

each_item : (s : Script) (t : ℕ) (xs : List Item) → ((i : ℕ) (x : Item) → slice_get xs i ≡ Some x → ItemBack s t x) → AllByRecursion (ItemBack s t) xs
each_item s t [] h = tt
each_item s t (x ∷ xs) h = (h 0 x refl, each_item s t xs (λ i y e. h (suc i) y e))

each_list : (s : Script) (known : AreKnown s) (k : ℕ) (ls : List (Option (List Item))) → ((t i : ℕ) (x : Item) → slice_get (list_at ls t) i ≡ Some x → ItemBack s (k + t) x) → ListsBack s known k ls
each_list s known k [] h = tt
each_list s known k (l ∷ ls) h =
    let none : k + 0 ≡ k = omega arith in (
      each_item s k (items_of l) (λ i x e. subst (λ (n : ℕ). ItemBack s n x) none (h 0 i x e)),
      each_list s known (suc k) ls (λ t i x e. (let one : k + suc t ≡ suc k + t = omega arith in subst (λ (n : ℕ). ItemBack s n x) one (h (suc t) i x e))),
    )

pub printed_is_parsed : (s : Script) (q : Recorded) (first room : ℕ) → IsScript s → IsRecord (numbered s) q → HasTypes q → length (record_text (naming_of s) q []) ≤ room → record_meaning s first room (record_text (naming_of s) q []) ≡ Ok q
printed_is_parsed s q first room h well types short =
    let known = names_known s h in
    let a = well.count in
    let b = known.threads_count in
    parsed s known first room q (each_list s known 0 q.lists (λ t i x e. (let none : t ≡ 0 + t = omega arith in subst (λ (n : ℕ). ItemBack s n x) none (item_back s known t x (well.each t i x e) (types t i x e))))) (omega arith) well.version short

ok_same : (q r : Recorded) → ◌≡◌ {A = Result Recorded Fault} (Ok q) (Ok r) → q ≡ r
ok_same q r e = cc

pub printed_means_one : (s : Script) (q r : Recorded) → IsScript s → IsRecord (numbered s) q → HasTypes q → IsRecord (numbered s) r → HasTypes r → record_text (naming_of s) q [] ≡ record_text (naming_of s) r [] → q ≡ r
printed_means_one s q r h a b c d e =
    let room : ℕ = length (record_text (naming_of s) q []) in
    let one : record_meaning s 0 room (record_text (naming_of s) q []) ≡ Ok q = printed_is_parsed s q 0 room h a b (omega arith) in
    let two : record_meaning s 0 room (record_text (naming_of s) r []) ≡ Ok r = printed_is_parsed s r 0 room h c d (subst (λ (x : List ℕ). length x ≤ room) e (omega arith)) in
    ok_same q r (sym one ∙ ap (λ (x : List ℕ). record_meaning s 0 room x) e ∙ two)
