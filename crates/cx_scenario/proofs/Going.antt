-- A text read line by line: what holds after some lines, and in the end.
use Rattle.std.proofs.Common.{◌≡◌, ℕ, zero, suc, ◌+◌, ◌<◌, Bool, true, false, cond, List, [], ◌∷◌, ◌++◌, length, map, filter, Option, Some, None, refl, sym, ap, subst, ◌∙◌, arith, append_assoc, length-append}
use Rattle.std.specs.Prelude.{if◌then◌else◌, Ok, Err, is_some}
use Rattle.std.specs.Option.{option_map, option_and_then}
use Rattle.std.specs.List.{list_any, flat_map}
use Rattle.std.specs.Str.{bytes_eq}
use Rattle.std.proofs.lemmas.List.{append-nil, map-append}
use Rattle.std.proofs.lemmas.Grind.{flat_map-append}
use Rattle.std.proofs.lemmas.Bool.{true≢false}
use Rattle.cx_scene.specs.declared.call.Call.{Call}
use Rattle.cx_text.specs.declared.fault.FaultKind.{FaultKind}
use Rattle.cx_text.specs.declared.fault.FaultKind.TheVariants as faults
use Rattle.cx_text.specs.declared.fault.Fault.{Fault}
use Rattle.cx_text.specs.declared.form.Form.{Form}
use Rattle.cx_text.specs.declared.form.Form.TheVariants as forms
use Rattle.cx_text.specs.declared.form.Made.{Made}
use Rattle.cx_text.specs.declared.form.Made.TheVariants as mades
use Rattle.cx_text.specs.Table.{makes}
use Rattle.cx_text.specs.Lines.{Line, lines_of, words_of}
use Rattle.cx_text.specs.Words.{Filled, main_word, filled_by, line_by, or_some}
use Rattle.cx_script.specs.Earlier.{Part, AVersion, ADeclaration, ABody, AMain, ACall, AnEnd, part_of, Place, Opening, Declaring, Between, Inside, Over, place_after, may_stand, is_call, is_main, begins_body, subject, made_of, declaration_of, declares}
use Rattle.cx_script.specs.Faults.{Read, read_line, said_by, fault_on, first_fault, makes_thread, makes_object, makes_callback}
use Rattle.cx_script.specs.Walk.{walk, goes_on, fault_at, end_fault}
use Rattle.cx_script.specs.Script.{Script, Declaration, Names, names_of, declared_of, call_of, as_list, calls_of, declarations_of, script_of, meaning}
use Rattle.cx_script.proofs.Steps.{filter_more}
use Rattle.cx_script.proofs.Walking.{walk_is_first}
use Rattle.cx_script.proofs.Shape.{next_place, place_next}
use Rattle.cx_script.proofs.Sound.{AreFine, sound}
use Rattle.cx_script.proofs.Distinct.{all_apart}
use Rattle.cx_script.proofs.Calls.{AreApart}
use Rattle.cx_scenario.specs.Steps.{State, GroupsState, GroupOf, opening_state, fault_in, line_fault, state_after, state_with, groups_with}
use Rattle.cx_scenario.specs.Seen.{declares_any}
use Rattle.cx_scenario.specs.Finished.{script_in, bodies_in, calls_in, all_groups, AllApart, ReadsTo}
use Rattle.cx_scenario.proofs.Alike.{same_made}
use Rattle.cx_scenario.proofs.Digest.{IsDigest, digest_next}
use Rattle.cx_scenario.proofs.Faulty.{fault_same, same}
use Rattle.cx_scenario.proofs.Grouping.{Raw, Raws, no_raws, raw_from, raw_step, raw_more, resolved, resolved_all, calls_for, groups_next, calls_end}

-- ---- names by a list of equations

names_are : (e : List Filled) (s : State) → IsDigest e s → s.names ≡ names_of e
names_are e s d =
    ap (λ (t : List (List ℕ)). record { threads = t; objects = s.names.objects; callbacks = s.names.callbacks }) d.threads
    ∙ ap (λ (t : List (List ℕ)). record { threads = main_word ∷ map subject (filter makes_thread e); objects = t; callbacks = s.names.callbacks }) d.objects
    ∙ ap (λ (t : List (List ℕ)). record { threads = main_word ∷ map subject (filter makes_thread e); objects = map subject (filter makes_object e); callbacks = t }) d.callbacks

made_is : (e : List Filled) (s : State) → IsDigest e s → (w : List ℕ) → made_of s.kept w ≡ made_of e w
made_is e s d w = same_made s.kept e (same e s d) w

-- ---- a line that declares nothing leaves names and kinds

no_thread : (l : Filled) → makes l.form ≡ None → makes_thread l ≡ false
no_thread l h = rw h refl

no_object : (l : Filled) → makes l.form ≡ None → makes_object l ≡ false
no_object l h = rw h refl

no_callback : (l : Filled) → makes l.form ≡ None → makes_callback l ≡ false
no_callback l h = rw h refl

filter_stays : (test : Filled → Bool) (e : List Filled) (l : Filled) → test l ≡ false → filter test (e ++ l ∷ []) ≡ filter test e
filter_stays test e l h = filter_more test e l ∙ rw (h, append-nil) refl

names_stay : (e : List Filled) (l : Filled) → makes l.form ≡ None → names_of (e ++ l ∷ []) ≡ names_of e
names_stay e l h = rw (filter_stays makes_thread e l (no_thread l h), filter_stays makes_object e l (no_object l h), filter_stays makes_callback e l (no_callback l h)) refl

declares_none : (l : Filled) (w : List ℕ) → makes l.form ≡ None → declares w l ≡ false
declares_none l w h = rw h refl

declared_stays : (e : List Filled) (l : Filled) (w : List ℕ) → makes l.form ≡ None → declaration_of (e ++ l ∷ []) w ≡ declaration_of e w
declared_stays [] l w h = rw (declares_none l w h) refl
declared_stays (m ∷ e) l w h = ap (λ (o : Option Filled). cond (declares w m) (Some m) o) (declared_stays e l w h)

calls_same : (names : Names) (e f : List Filled) → ((w : List ℕ) → made_of e w ≡ made_of f w) → (ls : List Filled) → calls_for names e ls ≡ calls_for names f ls
calls_same names e f h [] = refl
calls_same names e f h (l ∷ ls) =
    ap (λ (o : Option Made). as_list (call_of names o l l.form) ++ calls_for names e ls) (h (subject l))
    ∙ ap (λ (t : List Call). as_list (call_of names (made_of f (subject l)) l l.form) ++ t) (calls_same names e f h ls)

resolved_same : (names : Names) (e f : List Filled) → ((w : List ℕ) → made_of e w ≡ made_of f w) → (gs : List Raw) → map (resolved names e) gs ≡ map (resolved names f) gs
resolved_same names e f h [] = refl
resolved_same names e f h (g ∷ gs) =
    ap (λ (t : List Call). record { thread = g.thread; calls = t } ∷ map (resolved names e) gs) (calls_same names e f h g.lines)
    ∙ ap (λ (t : List GroupOf). record { thread = g.thread; calls = calls_for names f g.lines } ∷ t) (resolved_same names e f h gs)

one_same : (names : Names) (e f : List Filled) → ((w : List ℕ) → made_of e w ≡ made_of f w) → (o : Option Raw) → option_map (resolved names e) o ≡ option_map (resolved names f) o
one_same names e f h None = refl
one_same names e f h (Some g) = ap (λ (t : List Call). Some (record { thread = g.thread; calls = t })) (calls_same names e f h g.lines)

all_same : (names : Names) (e f : List Filled) → ((w : List ℕ) → made_of e w ≡ made_of f w) → (g : Raws) → resolved_all names e g ≡ resolved_all names f g
all_same names e f h g =
    ap (λ (t : List GroupOf). record { done = t; open_one = option_map (resolved names e) g.open_one }) (resolved_same names e f h g.done)
    ∙ ap (λ (t : Option GroupOf). record { done = map (resolved names f) g.done; open_one = t }) (one_same names e f h g.open_one)

-- ---- the bodies, one line further

abbrev pub is_early : Place → Bool
is_early Opening = true
is_early Declaring = true
is_early _ = false

pub record IsGrouped (e : List Filled) (s : State) : Type 0 where
  pub groups : s.groups ≡ resolved_all (names_of e) e (raw_from no_raws e)
  pub early : is_early (place_after e) ≡ true → raw_from no_raws e ≡ no_raws

head_part : (l : Filled) (p : Part) → part_of l.form ≡ p → is_early (next_place p true) ≡ true → (begins_body l ≡ false) × (is_call l ≡ false)
head_part l AVersion e h = (rw e refl, rw e refl)
head_part l ADeclaration e h = (rw e refl, rw e refl)
head_part l ABody e h = absurd (true≢false (sym h))
head_part l AMain e h = absurd (true≢false (sym h))
head_part l ACall e h = absurd (true≢false (sym h))
head_part l AnEnd e h = absurd (true≢false (sym h))

early_from : (p : Place) (q : Part) (m : Bool) → may_stand p q ≡ true → is_early (next_place q m) ≡ true → (is_early p ≡ true) × (is_early (next_place q true) ≡ true)
early_from Opening q m h k = (refl, early_part q m k)
  where
    early_part : (q : Part) (m : Bool) → is_early (next_place q m) ≡ true → is_early (next_place q true) ≡ true
    early_part AVersion m k = refl
    early_part ADeclaration m k = refl
    early_part ABody m k = k
    early_part AMain m k = k
    early_part ACall m k = k
    early_part AnEnd true k = k
    early_part AnEnd false k = absurd (true≢false (sym k))
early_from Declaring ADeclaration m h k = (refl, refl)
early_from Declaring AVersion m h k = absurd (true≢false (sym h))
early_from Declaring ABody m h k = absurd (true≢false (sym k))
early_from Declaring AMain m h k = absurd (true≢false (sym k))
early_from Declaring ACall m h k = absurd (true≢false (sym h))
early_from Declaring AnEnd m h k = absurd (true≢false (sym h))
early_from Between ABody m h k = absurd (true≢false (sym k))
early_from Between AMain m h k = absurd (true≢false (sym k))
early_from Between AVersion m h k = absurd (true≢false (sym h))
early_from Between ADeclaration m h k = absurd (true≢false (sym h))
early_from Between ACall m h k = absurd (true≢false (sym h))
early_from Between AnEnd m h k = absurd (true≢false (sym h))
early_from Inside ACall m h k = absurd (true≢false (sym k))
early_from Inside AnEnd true h k = absurd (true≢false (sym k))
early_from Inside AnEnd false h k = absurd (true≢false (sym k))
early_from Inside AVersion m h k = absurd (true≢false (sym h))
early_from Inside ADeclaration m h k = absurd (true≢false (sym h))
early_from Inside ABody m h k = absurd (true≢false (sym h))
early_from Inside AMain m h k = absurd (true≢false (sym h))
early_from Over q m h k = absurd (true≢false (sym h))

made_part : (f : Form) (m : Made) → makes f ≡ Some m → part_of f ≡ ADeclaration
made_part forms.Thread m h = refl
made_part forms.JThread m h = refl
made_part forms.AsyncReturn m h = refl
made_part forms.AsyncThrow m h = refl
made_part forms.Mutex m h = refl
made_part forms.Recursive m h = refl
made_part forms.Shared m h = refl
made_part forms.Semaphore m h = refl
made_part forms.Latch m h = refl
made_part forms.Barrier m h = refl
made_part forms.BarrierRelease m h = refl
made_part forms.BarrierNotifyOne m h = refl
made_part forms.BarrierNotifyAll m h = refl
made_part forms.Once m h = refl
made_part forms.Condition m h = refl
made_part forms.Stop m h = refl
made_part forms.CallbackRelease m h = refl
made_part forms.CallbackNotifyOne m h = refl
made_part forms.CallbackNotifyAll m h = refl
made_part forms.CallbackDeregister m h = refl
made_part forms.Promise m h = refl
made_part forms.SharedPromise m h = refl
made_part forms.TaskReturn m h = refl
made_part forms.TaskThrow m h = refl
made_part _ m h = cc

module _ (e : List Filled) (s : State) (d : IsDigest e s) (g : IsGrouped e s) (l : Filled) (stands : may_stand (place_after e) (part_of l.form) ≡ true) where
  early_next : is_early (place_after (e ++ l ∷ [])) ≡ true → raw_from no_raws (e ++ l ∷ []) ≡ no_raws
  early_next h =
      let at : is_early (next_place (part_of l.form) (list_any is_main (e ++ l ∷ []))) ≡ true = subst (λ p. is_early p ≡ true) (place_next e l (part_of l.form) refl) h in
      let p = early_from (place_after e) (part_of l.form) (list_any is_main (e ++ l ∷ [])) stands at in
      let q = head_part l (part_of l.form) refl p.1 in
      raw_more no_raws e l ∙ ap (λ (r : Raws). raw_step r l) (g.early p.0) ∙ rw (q.0, q.1) refl

  before : (state_with s l).groups ≡ resolved_all (names_of e) e (raw_from no_raws (e ++ l ∷ []))
  before =
      ap (λ (r : GroupsState). groups_with r l (call_of s.names (made_of s.kept (subject l)) l l.form)) g.groups
      ∙ ap (λ (n : Names). groups_with (resolved_all (names_of e) e (raw_from no_raws e)) l (call_of n (made_of s.kept (subject l)) l l.form)) (names_are e s d)
      ∙ ap (λ (o : Option Made). groups_with (resolved_all (names_of e) e (raw_from no_raws e)) l (call_of (names_of e) o l l.form)) (made_is e s d (subject l))
      ∙ groups_next (names_of e) e (raw_from no_raws e) l
      ∙ ap (λ (r : Raws). resolved_all (names_of e) e r) (sym (raw_more no_raws e l))

  after_made : (o : Option Made) → makes l.form ≡ o → resolved_all (names_of e) e (raw_from no_raws (e ++ l ∷ [])) ≡ resolved_all (names_of (e ++ l ∷ [])) (e ++ l ∷ []) (raw_from no_raws (e ++ l ∷ []))
  after_made None h =
      ap (λ (n : Names). resolved_all n e (raw_from no_raws (e ++ l ∷ []))) (sym (names_stay e l h))
      ∙ all_same (names_of (e ++ l ∷ [])) e (e ++ l ∷ []) (λ w. ap (λ (o : Option Filled). if bytes_eq main_word w then Some mades.Main else option_and_then (λ (m : Filled). makes m.form) o) (sym (declared_stays e l w h))) (raw_from no_raws (e ++ l ∷ []))
  after_made (Some m) h =
      let here : place_after (e ++ l ∷ []) ≡ Declaring = place_next e l ADeclaration (made_part l.form m h) in
      let none : raw_from no_raws (e ++ l ∷ []) ≡ no_raws = early_next (ap is_early here) in
      rw none refl

  pub grouped_next : IsGrouped (e ++ l ∷ []) (state_with s l)
  grouped_next = record { groups = before ∙ after_made (makes l.form) refl; early = early_next }

-- ---- after some lines

pub record IsGoing (lines : List Line) (n : ℕ) (left : List Line) (s : State) : Type 0 where
  pub said : List Filled
  pub front : List Line
  pub is : lines ≡ front ++ left
  pub count : n ≡ length front
  pub saids : said ≡ said_by (map (read_line 1) front)
  pub digest : IsDigest said s
  pub grouped : IsGrouped said s
  pub clean : walk 1 n said (map (read_line 1) left) ≡ first_fault lines

pub going_start : (lines : List Line) → IsGoing lines 0 lines opening_state
going_start lines = record {
  said = [];
  front = [];
  is = refl;
  count = refl;
  saids = refl;
  digest = record { place = refl; main = refl; kept = refl; bodies = refl; started = refl; launched = refl; registered_once = refl; threads = refl; objects = refl; callbacks = refl; thread = refl; len = refl; registered = refl; unjoined = refl; calls = refl; paired = refl; taken = λ name. refl; inside = λ h. cc };
  grouped = record { groups = refl; early = λ h. refl };
  clean = walk_is_first lines;
}

on_line : (n : ℕ) (e : List Filled) (r : Read) (rs : List Read) → walk 1 n e (r ∷ rs) ≡ goes_on n (fault_on 1 e r) (walk 1 (suc n) (e ++ said_by (r ∷ [])) rs)
unfolding walk
on_line n e r rs = refl

pub going_fault : (lines : List Line) (n : ℕ) (line : Line) (left : List Line) (s : State) (kind : FaultKind) → IsGoing lines n (line ∷ left) s → fault_in s (read_line 1 line) ≡ Some kind
    → first_fault lines ≡ Some (record { line = n + 1; kind = kind })
going_fault lines n line left s kind g h =
    let here : fault_on 1 g.said (read_line 1 line) ≡ Some kind = sym (fault_same g.said s g.digest line) ∙ h in
    sym g.clean ∙ on_line n g.said (read_line 1 line) (map (read_line 1) left) ∙ ap (λ (o : Option FaultKind). goes_on n o (walk 1 (suc n) (g.said ++ said_by (read_line 1 line ∷ [])) (map (read_line 1) left))) here ∙ ap (λ (m : ℕ). Some (record { line = m; kind = kind })) (omega arith)

no_words : (ws : List (List ℕ)) (l : Filled) → ws ≡ [] → filled_by 1 ws ≡ Some l → ⊥
unfolding line_by
no_words [] l h e = cc
no_words (w ∷ ws) l h e = cc

second_none : (o p : Option FaultKind) → or_some o p ≡ None → p ≡ None
second_none None p h = h
second_none (Some k) p h = absurd (let q : Some k ≡ None = h in cc)

stood : (b : Bool) (x : Option FaultKind) (k : FaultKind) → cond b x (Some k) ≡ None → b ≡ true
stood true x k h = refl
stood false x k h = absurd (let q : Some k ≡ None = h in cc)

stands_on : (s : State) (line : Line) (ws : List (List ℕ)) (l : Filled) → filled_by 1 ws ≡ Some l → fault_in s (record { line = line; words = ws; said = Some l }) ≡ None → may_stand s.place (part_of l.form) ≡ true
stands_on s line [] l f h = absurd (no_words [] l refl f)
stands_on s line (w ∷ ws) l f h = stood (may_stand s.place (part_of l.form)) _ _ (second_none (line_fault line) _ h)

one_longer : (xs : List Line) (x : Line) → length (xs ++ x ∷ []) ≡ length xs + 1
one_longer xs x = length-append xs (x ∷ [])

said_more : (front : List Line) (line : Line) (e : List Filled) → e ≡ said_by (map (read_line 1) front) → e ++ said_by (read_line 1 line ∷ []) ≡ said_by (map (read_line 1) (front ++ line ∷ []))
said_more front line e h =
    ap (λ (t : List Filled). t ++ said_by (read_line 1 line ∷ [])) h
    ∙ sym (flat_map-append _ (map (read_line 1) front) (read_line 1 line ∷ []))
    ∙ ap (λ (t : List Read). said_by t) (sym (map-append (read_line 1) front (line ∷ [])))

module _ (lines : List Line) (n : ℕ) (line : Line) (left : List Line) (s : State) (g : IsGoing lines n (line ∷ left) s) (h : fault_in s (read_line 1 line) ≡ None) where
  here : fault_on 1 g.said (read_line 1 line) ≡ None
  here = sym (fault_same g.said s g.digest line) ∙ h

  further : walk 1 (n + 1) (g.said ++ said_by (read_line 1 line ∷ [])) (map (read_line 1) left) ≡ first_fault lines
  further =
      ap (λ (m : ℕ). walk 1 m (g.said ++ said_by (read_line 1 line ∷ [])) (map (read_line 1) left)) (omega arith)
      ∙ sym (ap (λ (o : Option FaultKind). goes_on n o (walk 1 (suc n) (g.said ++ said_by (read_line 1 line ∷ [])) (map (read_line 1) left))) here)
      ∙ sym (on_line n g.said (read_line 1 line) (map (read_line 1) left))
      ∙ g.clean

  longer : n + 1 ≡ length (g.front ++ line ∷ [])
  longer = ap (λ (m : ℕ). m + 1) g.count ∙ sym (one_longer g.front line)

  split : lines ≡ (g.front ++ line ∷ []) ++ left
  split = g.is ∙ sym (append_assoc g.front (line ∷ []) left)

  -- with what this line says
  goes : (e : List Filled) (t : State) → g.said ++ said_by (read_line 1 line ∷ []) ≡ e → IsDigest e t → IsGrouped e t → IsGoing lines (n + 1) left t
  goes e t q d r = record {
    said = e;
    front = g.front ++ line ∷ [];
    is = split;
    count = longer;
    saids = sym q ∙ said_more g.front line g.said g.saids;
    digest = d;
    grouped = r;
    clean = ap (λ (x : List Filled). walk 1 (n + 1) x (map (read_line 1) left)) (sym q) ∙ further;
  }

  at_said : (o : Option Filled) → filled_by 1 (words_of line.bytes) ≡ o → IsGoing lines (n + 1) left (state_after s o)
  at_said None q = goes g.said s (rw q (append-nil g.said)) g.digest g.grouped
  at_said (Some l) q =
      let k : fault_in s (record { line = line; words = words_of line.bytes; said = Some l }) ≡ None = ap (λ (o : Option Filled). fault_in s (record { line = line; words = words_of line.bytes; said = o })) (sym q) ∙ h in
      let stands : may_stand (place_after g.said) (part_of l.form) ≡ true = subst (λ p. may_stand p (part_of l.form) ≡ true) g.digest.place (stands_on s line (words_of line.bytes) l q k) in
      goes (g.said ++ l ∷ []) (state_with s l) (rw q refl) (digest_next g.said s g.digest l stands) (grouped_next g.said s g.digest g.grouped l stands)

  pub going_on : IsGoing lines (n + 1) left (state_after s (read_line 1 line).said)
  going_on = at_said (filled_by 1 (words_of line.bytes)) refl

-- ---- at the end

at_end : (n : ℕ) (e : List Filled) → walk 1 n e [] ≡ fault_at n (end_fault n e)
unfolding walk
at_end n e = refl

pub ends_empty : (lines : List Line) (s : State) → IsGoing lines 0 [] s → first_fault lines ≡ Some (record { line = 1; kind = faults.BadVersion })
ends_empty lines s g = sym g.clean ∙ at_end 0 g.said

unended_at : (n : ℕ) (e : List Filled) (p : Place) → place_after e ≡ p → 0 < n → (p ≡ Over → ⊥) → fault_at n (end_fault n e) ≡ Some (record { line = n + 1; kind = faults.NoEnd })
unended_at zero e p h lt still = absurd (omega arith)
unended_at (suc n) e Opening h lt still = rw h (ap (λ (m : ℕ). Some (record { line = m; kind = faults.NoEnd })) (omega arith))
unended_at (suc n) e Declaring h lt still = rw h (ap (λ (m : ℕ). Some (record { line = m; kind = faults.NoEnd })) (omega arith))
unended_at (suc n) e Between h lt still = rw h (ap (λ (m : ℕ). Some (record { line = m; kind = faults.NoEnd })) (omega arith))
unended_at (suc n) e Inside h lt still = rw h (ap (λ (m : ℕ). Some (record { line = m; kind = faults.NoEnd })) (omega arith))
unended_at (suc n) e Over h lt still = absurd (still refl)

pub ends_open : (lines : List Line) (n : ℕ) (s : State) → IsGoing lines n [] s → 0 < n → (s.place ≡ Over → ⊥) → first_fault lines ≡ Some (record { line = n + 1; kind = faults.NoEnd })
ends_open lines n s g lt still = sym g.clean ∙ at_end n g.said ∙ unended_at n g.said s.place (sym g.digest.place) lt still

ended_at : (n : ℕ) (e : List Filled) → place_after e ≡ Over → 0 < n → fault_at n (end_fault n e) ≡ None
ended_at zero e h lt = absurd (omega arith)
ended_at (suc n) e h lt = rw h refl

flat_cons : {X Y : Type 0} (f : X → List Y) (x : X) (xs ys : List X) → flat_map f xs ≡ flat_map f ys → flat_map f (x ∷ xs) ≡ flat_map f (x ∷ ys)
flat_cons f x xs ys h = ap (λ t. f x ++ t) h

flat_none : {X Y : Type 0} (f : X → List Y) (x : X) (xs : List X) → f x ≡ [] → flat_map f (x ∷ xs) ≡ flat_map f xs
flat_none f x xs h = ap (λ t. t ++ flat_map f xs) h

-- forms that declare nothing
declares_nothing : (names : Names) (l : Filled) (f : Form) → is_some (makes f) ≡ false → declared_of names l f ≡ None
declares_nothing names l forms.Thread h = absurd (true≢false h)
declares_nothing names l forms.JThread h = absurd (true≢false h)
declares_nothing names l forms.AsyncReturn h = absurd (true≢false h)
declares_nothing names l forms.AsyncThrow h = absurd (true≢false h)
declares_nothing names l forms.Mutex h = absurd (true≢false h)
declares_nothing names l forms.Recursive h = absurd (true≢false h)
declares_nothing names l forms.Shared h = absurd (true≢false h)
declares_nothing names l forms.Semaphore h = absurd (true≢false h)
declares_nothing names l forms.Latch h = absurd (true≢false h)
declares_nothing names l forms.Barrier h = absurd (true≢false h)
declares_nothing names l forms.BarrierRelease h = absurd (true≢false h)
declares_nothing names l forms.BarrierNotifyOne h = absurd (true≢false h)
declares_nothing names l forms.BarrierNotifyAll h = absurd (true≢false h)
declares_nothing names l forms.Once h = absurd (true≢false h)
declares_nothing names l forms.Condition h = absurd (true≢false h)
declares_nothing names l forms.Stop h = absurd (true≢false h)
declares_nothing names l forms.CallbackRelease h = absurd (true≢false h)
declares_nothing names l forms.CallbackNotifyOne h = absurd (true≢false h)
declares_nothing names l forms.CallbackNotifyAll h = absurd (true≢false h)
declares_nothing names l forms.CallbackDeregister h = absurd (true≢false h)
declares_nothing names l forms.Promise h = absurd (true≢false h)
declares_nothing names l forms.SharedPromise h = absurd (true≢false h)
declares_nothing names l forms.TaskReturn h = absurd (true≢false h)
declares_nothing names l forms.TaskThrow h = absurd (true≢false h)
declares_nothing names l _ h = refl

-- what one line declares
declared_kept : (names : Names) (e : List Filled) → declarations_of names (filter declares_any e) ≡ declarations_of names e
declared_kept names [] = refl
declared_kept names (l ∷ e) = elim (declares_any l) as (λ b. declares_any l ≡ b → declarations_of names (cond b (l ∷ filter declares_any e) (filter declares_any e)) ≡ declarations_of names (l ∷ e)) [
  | true ↦ λ h. flat_cons _ l (filter declares_any e) e (declared_kept names e)
  | false ↦ λ h. declared_kept names e ∙ sym (flat_none _ l e (rw (declares_nothing names l l.form h) refl))
] refl

apart_of : (ns : List (List ℕ)) → AreApart ns → AllApart ns
apart_of [] h = tt
apart_of (n ∷ ns) h = (h.0, apart_of ns h.2)

bodies_are : (names : Names) (e : List Filled) (g : GroupsState) → g ≡ resolved_all names e (raw_from no_raws e) → (ts : List (List ℕ)) → map (calls_in (all_groups g)) ts ≡ map (calls_of names e) ts
bodies_are names e g h [] = refl
bodies_are names e g h (t ∷ ts) =
    let one : calls_in (all_groups g) t ≡ calls_of names e t = ap (λ (x : GroupsState). calls_in (all_groups x) t) h ∙ calls_end names e t in
    ap (λ (x : List Call). x ∷ map (calls_in (all_groups g)) ts) one ∙ ap (λ (x : List (List Call)). calls_of names e t ∷ x) (bodies_are names e g h ts)

script_is : (e : List Filled) (s : State) → IsDigest e s → IsGrouped e s → script_in s ≡ script_of 1 e
script_is e s d g =
    ap (λ (k : List Filled). record { version = 1; declarations = declarations_of s.names k; bodies = bodies_in s }) d.kept
    ∙ ap (λ (x : List Declaration). record { version = 1; declarations = x; bodies = bodies_in s }) (declared_kept s.names e)
    ∙ ap (λ (x : List (List Call)). record { version = 1; declarations = declarations_of s.names e; bodies = x }) (bodies_are (names_of e) e s.groups g.groups s.names.threads)
    ∙ ap (λ (n : Names). record { version = 1; declarations = declarations_of n e; bodies = map (calls_of (names_of e) e) n.threads }) (names_are e s d)

-- a text whose place in the end is not over, or that has no line
ends_at : (lines : List Line) (n : ℕ) (s : State) → IsGoing lines n [] s → (p : Place) → s.place ≡ p → n ≡ 0 → first_fault lines ≡ Some (record { line = n + 1; kind = faults.BadVersion })
ends_at lines zero s g p h z = sym g.clean ∙ at_end 0 g.said ∙ ap (λ (m : ℕ). Some (record { line = m; kind = faults.BadVersion })) (omega arith)
ends_at lines (suc n) s g p h z = absurd (omega arith)

pub ends_none : (lines : List Line) (n : ℕ) (s : State) → IsGoing lines n [] s → n ≡ 0 → ReadsTo lines (Some (record { line = n + 1; kind = faults.BadVersion })) s
ends_none lines n s g z = ends_at lines n s g s.place refl z

pub ends_well : (lines : List Line) (n : ℕ) (s : State) → IsGoing lines n [] s → 0 < n → s.place ≡ Over → ReadsTo lines None s
ends_well lines n s g lt over =
    let none : first_fault lines ≡ None = sym g.clean ∙ at_end n g.said ∙ ended_at n g.said (sym g.digest.place ∙ over) lt in
    let whole : lines ≡ g.front = g.is ∙ append-nil g.front in
    let said : g.said ≡ said_by (map (read_line 1) lines) = g.saids ∙ ap (λ (t : List Line). said_by (map (read_line 1) t)) (sym whole) in
    let fine : AreFine 1 [] (said_by (map (read_line 1) lines)) = (sound 1 0 lines [] (walk_is_first lines ∙ none)).0 in
    let apart : AllApart (main_word ∷ map subject (filter makes_thread g.said)) = subst (λ (e : List Filled). AllApart (main_word ∷ map subject (filter makes_thread e))) (sym said) (apart_of (main_word ∷ map subject (filter makes_thread (said_by (map (read_line 1) lines)))) (all_apart 1 (said_by (map (read_line 1) lines)) fine)) in
    (none, ap (λ (e : List Filled). script_of 1 e) (sym said) ∙ sym (script_is g.said s g.digest g.grouped), subst (λ (ns : List (List ℕ)). AllApart ns) (sym g.digest.threads) apart)

pub meaning_ok : (limit : ℕ) (text : List ℕ) (s : State) → ReadsTo (lines_of limit text) None s → meaning limit text ≡ Ok (script_in s)
unfolding meaning
meaning_ok limit text s h = rw h.0 (ap (λ (x : Script). Ok x) h.1)

pub meaning_err : (limit : ℕ) (text : List ℕ) (s : State) (f : Fault) → ReadsTo (lines_of limit text) (Some f) s → meaning limit text ≡ Err f
unfolding meaning
meaning_err limit text s f h = rw h refl
