-- A record is read in the front of a text.
use Rattle.std.proofs.Common.{◌≡◌, ℕ, zero, suc, ◌+◌, ◌-◌, ◌<◌, ◌≤◌, ◌&&◌, ◌==◌, Bool, true, false, cond, List, [], ◌∷◌, length, take, drop, map, Option, Some, None, refl, sym, ap, subst, ◌∙◌, arith, length-take, eqb-true}
use Rattle.std.specs.Prelude.{Result, Ok, Err, IfOk}
use Rattle.std.specs.List.{list_any}
use Rattle.cx_text.specs.declared.fault.Fault.{Fault}
use Rattle.cx_text.specs.Lines.{Line, lines_of}
use Rattle.cx_scenario.specs.Front.{bytes_of}
use Rattle.cx_scenario.specs.declared.reading.ReadErr.{ReadErr}
use Rattle.cx_scenario.specs.declared.reading.ReadErr.TheVariants as errors
use Rattle.cx_scenario.proofs.Fronts.{passes, short}
use Rattle.cx_script.specs.Script.{Script}
use Rattle.cx_history.specs.declared.record.Record.{Record}
use Rattle.cx_history.specs.Histories.{Recorded}
use Rattle.cx_history.specs.Views.{recorded_of}
use Rattle.cx_record.specs.Roster.{Roster, roster_of}
use Rattle.cx_record.specs.RecordFaults.{Read, read_line, first_fault}
use Rattle.cx_record.specs.Parsed.{by_fault, record_meaning}
use Rattle.cx_accesses.specs.PartFound.{fault_found}
use Rattle.cx_accesses.specs.RecordPart.{item_limit, ends_record, count_to_done, part_lines, says_item, past_here, item_past, with_limit, part_meaning, IsRecordPart}
use Rattle.cx_accesses.proofs.PartLines.{part_is, clean_passes, rest_is}

-- ---- one line more

pub count_on : (count next total : ℕ) (left rest : List Line) (line : Line) → left ≡ line ∷ rest → next ≡ count + 1 → ends_record line ≡ false → count + count_to_done left ≡ total → next + count_to_done rest ≡ total
count_on count next total left rest line split more ends is =
    let e : count_to_done left ≡ suc (count_to_done rest) = ap (λ (x : List Line). count_to_done x) split ∙ ap (λ (b : Bool). suc (cond b 0 (count_to_done rest))) ends in
    omega (arith, e, more, is)

pub count_ends : (count next total : ℕ) (left rest : List Line) (line : Line) → left ≡ line ∷ rest → next ≡ count + 1 → ends_record line ≡ true → count + count_to_done left ≡ total → next ≡ total
count_ends count next total left rest line split more ends is =
    let e : count_to_done left ≡ 1 = ap (λ (x : List Line). count_to_done x) split ∙ ap (λ (b : Bool). suc (cond b 0 (count_to_done rest))) ends in
    omega (arith, e, more, is)

pub count_stops : (count total : ℕ) (left : List Line) → left ≡ [] → count + count_to_done left ≡ total → count ≡ total
count_stops count total left none is = let e : count_to_done left ≡ 0 = ap (λ (x : List Line). count_to_done x) none in omega (arith, e, is)

past_of : (line many : ℕ) (left rest : List Line) (l : Line) → left ≡ l ∷ rest → item_past line many (map read_line left) ≡ cond (says_item (read_line l)) (past_here line many (item_past (suc line) (many - 1) (map read_line rest))) (item_past (suc line) many (map read_line rest))
past_of line many left rest l split = ap (λ (x : List Line). item_past line many (map read_line x)) split

pub past_skips : (line next many : ℕ) (left rest : List Line) (l : Line) (total : Option ℕ) → left ≡ l ∷ rest → next ≡ line + 1 → says_item (read_line l) ≡ false → item_past line many (map read_line left) ≡ total → item_past next many (map read_line rest) ≡ total
past_skips line next many left rest l total split more says is =
    let n : next ≡ suc line = omega (arith, more) in
    ap (λ (m : ℕ). item_past m many (map read_line rest)) n
    ∙ sym (past_of line many left rest l split ∙ ap (λ (b : Bool). cond b (past_here line many (item_past (suc line) (many - 1) (map read_line rest))) (item_past (suc line) many (map read_line rest))) says) ∙ is

pub past_counts : (line next many fewer : ℕ) (left rest : List Line) (l : Line) (total : Option ℕ) → left ≡ l ∷ rest → next ≡ line + 1 → 0 < many → fewer ≡ many - 1 → says_item (read_line l) ≡ true → item_past line many (map read_line left) ≡ total → item_past next fewer (map read_line rest) ≡ total
past_counts line next zero fewer left rest l total split more some less says is = absurd (omega (arith, some))
past_counts line next (suc many) fewer left rest l total split more some less says is =
    let n : next ≡ suc line = omega (arith, more) in
    let k : fewer ≡ many = omega (arith, less) in
    let minus : many ≡ suc many - 1 = omega arith in
    ap (λ (m : ℕ). item_past m fewer (map read_line rest)) n
    ∙ ap (λ (m : ℕ). item_past (suc line) m (map read_line rest)) k
    ∙ ap (λ (m : ℕ). item_past (suc line) m (map read_line rest)) minus
    ∙ sym (past_of line (suc many) left rest l split ∙ ap (λ (b : Bool). cond b (past_here line (suc many) (item_past (suc line) (suc many - 1) (map read_line rest))) (item_past (suc line) (suc many) (map read_line rest))) says) ∙ is

pub past_found : (line many : ℕ) (left rest : List Line) (l : Line) (total : Option ℕ) → left ≡ l ∷ rest → many ≡ 0 → says_item (read_line l) ≡ true → item_past line many (map read_line left) ≡ total → Some line ≡ total
past_found line many left rest l total split none says is =
    sym (past_of line many left rest l split ∙ ap (λ (b : Bool). cond b (past_here line many (item_past (suc line) (many - 1) (map read_line rest))) (item_past (suc line) many (map read_line rest))) says
    ∙ ap (λ (m : ℕ). past_here line m (item_past (suc line) (many - 1) (map read_line rest))) none) ∙ is

pub past_stops : (line many : ℕ) (left : List Line) (total : Option ℕ) → left ≡ [] → item_past line many (map read_line left) ≡ total → None ≡ total
past_stops line many left total none is = sym (ap (λ (x : List Line). item_past line many (map read_line x)) none) ∙ is

pub past_on : (line next many fewer : ℕ) (left rest : List Line) (l : Line) (says past : Bool) (total : Option ℕ) → left ≡ l ∷ rest → next ≡ line + 1 → says ≡ says_item (read_line l) → past ≡ (says && (many == 0)) → past ≡ false → fewer ≡ cond says (many - 1) many
    → item_past line many (map read_line left) ≡ total → item_past next fewer (map read_line rest) ≡ total
past_on line next many fewer left rest l false past total split more is is_past under less inv = subst (λ (m : ℕ). item_past next m (map read_line rest) ≡ total) (sym less) (past_skips line next many left rest l total split more (sym is) inv)
past_on line next zero fewer left rest l true past total split more is is_past under less inv = absurd (wrong past is_past under)
  where
    wrong : (b : Bool) → b ≡ true → b ≡ false → ⊥
    wrong true e f = cc
    wrong false e f = cc
past_on line next (suc many) fewer left rest l true past total split more is is_past under less inv = past_counts line next (suc many) fewer left rest l total split more (omega arith) less (sym is) inv

pub past_at : (line many : ℕ) (left rest : List Line) (l : Line) (says past : Bool) (total : Option ℕ) → left ≡ l ∷ rest → says ≡ says_item (read_line l) → past ≡ (says && (many == 0)) → past ≡ true → item_past line many (map read_line left) ≡ total → Some line ≡ total
past_at line many left rest l false past total split is is_past at_limit inv = absurd (wrong past is_past at_limit)
  where
    wrong : (b : Bool) → b ≡ false → b ≡ true → ⊥
    wrong true e f = cc
    wrong false e f = cc
past_at line zero left rest l true past total split is is_past at_limit inv = past_found line zero left rest l total split refl (sym is) inv
past_at line (suc many) left rest l true past total split is is_past at_limit inv = absurd (wrong past (is_past ∙ some_left (suc many == 0) refl) at_limit)
  where
    wrong : (b : Bool) → b ≡ false → b ≡ true → ⊥
    wrong true e f = cc
    wrong false e f = cc

    some_left : (b : Bool) → (suc many == 0) ≡ b → (suc many == 0) ≡ false
    some_left true e = let none = eqb-true (suc many) 0 e in absurd (omega (arith, none))
    some_left false e = e

-- ---- what was read

pub read_ok : (found : Result Record ReadErr) (x : Record) (P : Record → Type 0) → IfOk found P → found ≡ Ok x → P x
read_ok found x P h e = subst (λ (f : Result Record ReadErr). IfOk f P) e h

pub err_is : {A : Type 0} (x : Result A ReadErr) (a b : ReadErr) → x ≡ Err a → x ≡ Err b → a ≡ b
err_is x a b e f = cc

count_within : (ls : List Line) → count_to_done ls ≤ length ls
count_within [] = omega arith
count_within (l ∷ ls) = let w = count_within ls in by (ends_record l) w
  where
    by : (b : Bool) → count_to_done ls ≤ length ls → suc (cond b 0 (count_to_done ls)) ≤ suc (length ls)
    by true w = omega arith
    by false w = omega (arith, w)

part_count : (ls : List Line) → length (part_lines ls) ≡ count_to_done ls
part_count ls = let w = count_within ls in omega (arith, w, length-take (count_to_done ls) ls)

ok_fault : (r : Roster) (lines : List Line) (o : Option Fault) (x : Recorded) → by_fault r lines o ≡ Ok x → o ≡ None
ok_fault r lines None x e = refl
ok_fault r lines (Some f) x e = cc

bad_fault : (r : Roster) (lines : List Line) (o : Option Fault) (f : Fault) → by_fault r lines o ≡ Err f → o ≡ Some f
bad_fault r lines None f e = cc
bad_fault r lines (Some g) f e = cc

module _ (s : Script) (first room : ℕ) (text : List ℕ) (count len : ℕ) (is_count : count ≡ count_to_done (lines_of room text)) (is_len : len ≡ bytes_of count (take (suc room) text)) where
  pub lines_are : lines_of room (take len text) ≡ part_lines (lines_of room text)
  lines_are = part_is room text count len is_len ∙ ap (λ (n : ℕ). take n (lines_of room text)) is_count

  found_fault : (x : Recorded) → record_meaning s first room (take len text) ≡ Ok x → first_fault (roster_of s) first (part_lines (lines_of room text)) ≡ None
  unfolding record_meaning
  found_fault x e = ok_fault (roster_of s) (lines_of room (take len text)) (first_fault (roster_of s) first (part_lines (lines_of room text))) x (ap (λ (ls : List Line). by_fault (roster_of s) (lines_of room (take len text)) (first_fault (roster_of s) first ls)) (sym lines_are) ∙ e)

  found_means : (past : Option ℕ) (x : Recorded) → past ≡ item_past first item_limit (map read_line (lines_of room (take len text))) → past ≡ None → record_meaning s first room (take len text) ≡ Ok x → part_meaning (roster_of s) first (part_lines (lines_of room text)) ≡ Ok x
  unfolding record_meaning
  found_means past x is none e =
      subst (λ (ls : List Line). part_meaning (roster_of s) first ls ≡ Ok x) lines_are
      (ap (λ (o : Option ℕ). by_fault (roster_of s) (lines_of room (take len text)) (with_limit o (first_fault (roster_of s) first (lines_of room (take len text))))) (sym is ∙ none) ∙ e)

  pub is_part : (past : Option ℕ) (x : Recorded) (next : ℕ) → past ≡ item_past first item_limit (map read_line (lines_of room (take len text))) → past ≡ None → record_meaning s first room (take len text) ≡ Ok x → next ≡ first + count → IsRecordPart s first room text x len next
  is_part past x next is none e after = record {
    within = short room text count len is_len;
    lines = lines_are;
    means = found_means past x is none e;
    next_is = after ∙ ap (λ (n : ℕ). first + n) (is_count ∙ sym (part_count (lines_of room text)));
    rest = rest_is room text count len is_len (subst (λ (n : ℕ). list_any passes (take n (lines_of room text)) ≡ false) (sym is_count) (clean_passes (roster_of s) first (part_lines (lines_of room text)) (found_fault x e)))
        ∙ ap (λ (n : ℕ). drop n (lines_of room text)) (is_count ∙ sym (part_count (lines_of room text)));
  }

  means_fault : (f : Fault) → record_meaning s first room (take len text) ≡ Err f → first_fault (roster_of s) first (lines_of room (take len text)) ≡ Some f
  unfolding record_meaning
  means_fault f e = bad_fault (roster_of s) (lines_of room (take len text)) (first_fault (roster_of s) first (lines_of room (take len text))) f e

  means_none : (x : Recorded) → record_meaning s first room (take len text) ≡ Ok x → first_fault (roster_of s) first (lines_of room (take len text)) ≡ None
  unfolding record_meaning
  means_none x e = ok_fault (roster_of s) (lines_of room (take len text)) (first_fault (roster_of s) first (lines_of room (take len text))) x e

  -- the fault that reading found
  fault_is : (found : Result Record ReadErr) → (found ≡ Err errors.NoMemory → ⊥) → ((x : Record) → found ≡ Ok x → record_meaning s first room (take len text) ≡ Ok (recorded_of x)) → ((f : Fault) → found ≡ Err (errors.Bad f) → record_meaning s first room (take len text) ≡ Err f)
      → fault_found found ≡ first_fault (roster_of s) first (lines_of room (take len text))
  fault_is (Ok x) memory ok bad = sym (means_none (recorded_of x) (ok x refl))
  fault_is (Err (errors.Bad f)) memory ok bad = sym (means_fault f (bad f refl))
  fault_is (Err errors.NoMemory) memory ok bad = absurd (memory refl)

  pub is_bad : (past : Option ℕ) (found : Result Record ReadErr) (f : Fault) → past ≡ item_past first item_limit (map read_line (lines_of room (take len text))) → (found ≡ Err errors.NoMemory → ⊥)
      → ((x : Record) → found ≡ Ok x → record_meaning s first room (take len text) ≡ Ok (recorded_of x)) → ((g : Fault) → found ≡ Err (errors.Bad g) → record_meaning s first room (take len text) ≡ Err g)
      → Some f ≡ with_limit past (fault_found found) → part_meaning (roster_of s) first (part_lines (lines_of room text)) ≡ Err f
  is_bad past found f is memory ok bad e =
      subst (λ (ls : List Line). part_meaning (roster_of s) first ls ≡ Err f) lines_are
      (ap (λ (o : Option ℕ). by_fault (roster_of s) (lines_of room (take len text)) (with_limit o (first_fault (roster_of s) first (lines_of room (take len text))))) (sym is)
      ∙ ap (λ (o : Option Fault). by_fault (roster_of s) (lines_of room (take len text)) (with_limit past o)) (sym (fault_is found memory ok bad))
      ∙ ap (λ (o : Option Fault). by_fault (roster_of s) (lines_of room (take len text)) o) (sym e))
