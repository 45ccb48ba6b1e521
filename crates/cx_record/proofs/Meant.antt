-- A record that a text means is well formed, and its lists are no longer than the text.
use Rattle.std.proofs.Common.{◌≡◌, ℕ, zero, suc, ◌+◌, ◌*◌, ◌^◌, ◌<◌, ◌≤◌, Bool, true, false, cond, ◌&&◌, not, List, [], ◌∷◌, ◌++◌, length, map, take, filter, Option, Some, None, refl, sym, ap, subst, ◌∙◌, arith, length-append, min}
use Rattle.std.specs.Prelude.{slice_get, nat_lt, ◌==◌, Ok, Err, Result}
use Rattle.std.specs.Option.{option_map, option_and_then}
use Rattle.std.specs.List.{slice_split, count_by}
use Rattle.std.proofs.lemmas.Bool.{true≢false, ltb-true, ltb-false, and_parts}
use Rattle.std.proofs.Math.Nat.{min-le_left}
use Rattle.std.proofs.lemmas.List.{length-take}
use Rattle.std.proofs.lemmas.List.Splits.{length-slice_split}
use Rattle.std.proofs.lemmas.List.Sums.{count_by-le-length}
use Rattle.cx_text.specs.declared.fault.FaultKind.{FaultKind}
use Rattle.cx_text.specs.declared.fault.FaultKind.TheVariants as faults
use Rattle.cx_text.specs.declared.fault.Fault.{Fault}
use Rattle.cx_text.specs.declared.item.ItemForm.{ItemForm}
use Rattle.cx_text.specs.declared.item.ItemForm.TheVariants as forms
use Rattle.cx_text.specs.declared.form.Field.{Field}
use Rattle.cx_text.specs.Items.{items, item_fields}
use Rattle.cx_text.specs.Lines.{Line as TextLine, words_of, lines_of, lines_from, last_line}
use Rattle.cx_text.specs.Words.{Value, values_of, spread, own_word, said_as, first_some, or_some, rows_for, line_by}
use Rattle.cx_text.proofs.Fields.{FitFields}
use Rattle.cx_scene.specs.Scene.{Scene, kind_of}
use Rattle.cx_items.specs.declared.item.Item.{Item}
use Rattle.cx_script.specs.Script.{Script, is_thread}
use Rattle.cx_script.specs.Numbered.{numbered}
use Rattle.cx_script.proofs.Parsed.{values_fit}
use Rattle.cx_history.specs.Histories.{Recorded, items_of, list_of, item_at}
use Rattle.cx_history.specs.IsRecord.{IsRecord, is_item}
use Rattle.cx_record.specs.Roster.{Roster, roster_of}
use Rattle.cx_record.specs.ItemLines.{Line, as_list, item_said, with_item, items_from, list_begun, thread_behind, lists_from, Part, AVersion, AList, AMark, AnItem, AnEnd, TheLast, AStuck, part_of}
use Rattle.cx_record.specs.RecordFaults.{Read, read_line, said_by, fault_on, fault_at_end, first_fault, Place, Opening, Between, Inside, Over, behind, ends_list, Stage, stands_at, is_next, are_complete, has_unknown, has_wrong_kind, has_outside}
use Rattle.cx_record.specs.RecordSteps.{walk, goes_on, fault_at, stage_with, stage_behind, opening_stage, fault_in, bytes_fault, words_fault, said_fault, named_fault, misplaced}
use Rattle.cx_record.specs.Parsed.{record_meaning, meaning_of, by_fault, record_by, AreShort}
use Rattle.cx_record.proofs.Walked.{walk_is_first}
use Rattle.cx_record.proofs.FaultOf.{fault_same, nothing_said}
use Rattle.cx_record.proofs.Counts.{threads_count}
use Rattle.cx_record.proofs.ItemsFit.{IsFine, IsRosterOf, ItemFits, item_fits, line}

-- ---- what words say fits the fields of its row

pub record TakenBy (ws : List (List ℕ)) (l : Line) : Type 0 where
  pub taken : values_of 1 (own_word ws) (spread (item_fields l.form) (length ws)) ws ≡ Some l.values

said_is : (ws : List (List ℕ)) (f : ItemForm) (l : Line) (o : Option (List Value)) → values_of 1 (own_word ws) (spread (item_fields f) (length ws)) ws ≡ o
    → option_map (λ vs. record { form = f; values = vs }) o ≡ Some l → TakenBy ws l
said_is ws f l None e k = absurd cc
said_is ws f l (Some vs) e k =
    let q : l ≡ record { form = f; values = vs } = cc in
    subst (λ (m : Line). TakenBy ws m) (sym q) (record { taken = e })

or_is : (ws : List (List ℕ)) (l : Line) (o rest : Option Line) → (o ≡ Some l → TakenBy ws l) → (rest ≡ Some l → TakenBy ws l) → or_some o rest ≡ Some l → TakenBy ws l
or_is ws l None rest here later e = later e
or_is ws l (Some m) rest here later e = here e

first_is : (ws : List (List ℕ)) (l : Line) (rows : List ItemForm) → first_some (said_as items 1 ws) rows ≡ Some l → TakenBy ws l
first_is ws l [] e = absurd cc
first_is ws l (f ∷ rows) e = or_is ws l (said_as items 1 ws f) (first_some (said_as items 1 ws) rows) (λ k. said_is ws f l (values_of 1 (own_word ws) (spread (item_fields f) (length ws)) ws) refl k) (λ k. first_is ws l rows k) e

no_lists : (f : ItemForm) (n : ℕ) → spread (item_fields f) n ≡ item_fields f
no_lists forms.RecordOne n = refl
no_lists _ n = refl

-- the second word of a line
abbrev second : List (List ℕ) → List ℕ
second [] = []
second (w ∷ ws) = own_word ws

said_fits : (ws : List (List ℕ)) (l : Line) → line_by items 1 ws ≡ Some l → FitFields 1 (second ws) (item_fields l.form) l.values
unfolding line_by
said_fits [] l e = absurd cc
said_fits (w ∷ ws) l e =
    let t = first_is ws l (rows_for items 1 w ws) e in
    subst (λ (fs : List Field). FitFields 1 (own_word ws) fs l.values) (no_lists l.form (length ws)) (values_fit 1 (own_word ws) (spread (item_fields l.form) (length ws)) ws l.values t.taken).0

-- ---- lists of items that may stand there

abbrev ItemsFine : Scene → ℕ → List Item → Type 0
ItemsFine s t [] = Unit {0}
ItemsFine s t (x ∷ xs) = (is_item s t x ≡ true) × ItemsFine s t xs

abbrev ListsFine : Scene → ℕ → List (Option (List Item)) → Type 0
ListsFine s t [] = Unit {0}
ListsFine s t (l ∷ ls) = ItemsFine s t (items_of l) × ListsFine s (suc t) ls

item_in : (s : Scene) (t : ℕ) (xs : List Item) → ItemsFine s t xs → (i : ℕ) (x : Item) → slice_get xs i ≡ Some x → is_item s t x ≡ true
item_in s t [] h i x e = absurd cc
item_in s t (y ∷ xs) h zero x e = let same : y ≡ x = cc in subst (λ (z : Item). is_item s t z ≡ true) same h.0
item_in s t (y ∷ xs) h (suc i) x e = item_in s t xs h.1 i x e

abbrev list_at : List (Option (List Item)) → ℕ → List Item
list_at ls t = items_of (option_and_then (λ l. l) (slice_get ls t))

list_in : (s : Scene) (k : ℕ) (ls : List (Option (List Item))) → ListsFine s k ls → (t : ℕ) → ItemsFine s (k + t) (list_at ls t)
list_in s k [] h t = tt
list_in s k (l ∷ ls) h zero = let same : k ≡ k + 0 = omega arith in subst (λ (n : ℕ). ItemsFine s n (items_of l)) same h.0
list_in s k (l ∷ ls) h (suc t) = let same : suc k + t ≡ k + suc t = omega arith in subst (λ (n : ℕ). ItemsFine s n (list_at ls t)) same (list_in s (suc k) ls h.1 t)

-- ---- a line without a fault

stands_where : (b : Bool) (o : Option FaultKind) (k : FaultKind) → cond b o (Some k) ≡ None → (b ≡ true) × (o ≡ None)
stands_where true o k h = (refl, h)
stands_where false o k h = absurd cc

rest_none : (a b : Option FaultKind) → or_some a b ≡ None → b ≡ None
rest_none (Some k) b h = absurd cc
rest_none None b h = h

none_named : (a b c : Bool) → cond a (Some faults.UnknownName) (cond b (Some faults.WrongKind) (cond c (Some faults.OutOfRange) None)) ≡ None → (b ≡ false) × (c ≡ false)
none_named true b c h = absurd cc
none_named false true c h = absurd cc
none_named false false true h = absurd cc
none_named false false false h = (refl, refl)

pub record IsClean (r : Roster) (g : Stage) (l : Line) : Type 0 where
  pub stands : stands_at r g l g.place (part_of l.form) ≡ true
  pub names : has_wrong_kind r l ≡ false
  pub inside : has_outside r l ≡ false

clean_words : (r : Roster) (g : Stage) (ws : List (List ℕ)) (o : Option Line) (l : Line) → (ws ≡ [] → o ≡ None) → o ≡ Some l → words_fault r g ws o ≡ None → IsClean r g l
clean_words r g [] o l h e f = absurd (let z : Some l ≡ None = sym e ∙ h refl in cc)
clean_words r g (w ∷ ws) o l h e f =
    let p = stands_where (stands_at r g l g.place (part_of l.form)) (named_fault r l) (misplaced g.place) (sym (ap (λ (x : Option Line). said_fault r g x) e) ∙ f) in
    let q = none_named (has_unknown r l) (has_wrong_kind r l) (has_outside r l) p.1 in
    record { stands = p.0; names = q.0; inside = q.1 }

clean_line : (r : Roster) (g : Stage) (line : TextLine) (l : Line) → (read_line line).said ≡ Some l → fault_on r g (read_line line) ≡ None → IsClean r g l
clean_line r g line l e h = clean_words r g (words_of line.bytes) (line_by items 1 (words_of line.bytes)) l (nothing_said (words_of line.bytes)) e (rest_none (bytes_fault line) _ (fault_same r g line ∙ h))

-- ---- the lists, from a stage on

-- the thread of the next list
abbrev next : Place → ℕ → ℕ
next Inside t = suc t
next _ t = t

-- no more lists than threads, and all of them behind `done`
pub record IsWithin (r : Roster) (g : Stage) : Type 0 where
  pub most : next g.place g.lists ≤ length r.names.threads
  pub whole : g.place ≡ Over → g.lists ≡ length r.names.threads

pub record AreFine (s : Scene) (r : Roster) (g : Stage) (ls : List Line) : Type 0 where
  pub lists : ListsFine s (next g.place g.lists) (lists_from r (next g.place g.lists) ls)
  pub count : length (lists_from r (next g.place g.lists) ls) + next g.place g.lists ≡ length r.names.threads
  pub items : ItemsFine s g.lists (items_from r g.lists ls)

-- ---- an item

as_items : (s : Scene) (t : ℕ) (o : Option Item) → ItemFits s t o → ItemsFine s t (as_list o)
as_items s t None h = tt
as_items s t (Some x) h = (h, tt)

joined : (s : Scene) (t : ℕ) (xs ys : List Item) → ItemsFine s t xs → ItemsFine s t ys → ItemsFine s t (xs ++ ys)
joined s t [] ys h k = k
joined s t (x ∷ xs) ys h k = (h.0, joined s t xs ys h.1 k)

module _ (s : Scene) (r : Roster) (same : IsRosterOf s r) where
  -- ---- a line more, by its part

  under_next : (t : ℕ) (b : Bool) → (nat_lt t (length r.names.threads) && b) ≡ true → t < length r.names.threads
  under_next t b h = ltb-true t (length r.names.threads) (and_parts (nat_lt t (length r.names.threads)) b h).0

  unnot : (b : Bool) → not b ≡ true → b ≡ false
  unnot true h = absurd (true≢false (sym h))
  unnot false h = refl

  all_complete : (t : ℕ) → t ≤ length r.names.threads → not (nat_lt t (length r.names.threads)) ≡ true → t ≡ length r.names.threads
  all_complete t m h = let past : length r.names.threads ≤ t = ltb-false t (length r.names.threads) (unnot (nat_lt t (length r.names.threads)) h) in omega arith

  abbrev stage : Place → ℕ → Stage
  stage p t = record { place = p; lists = t }

  -- the stage behind a line of a part
  abbrev behind_part : ℕ → Part → Stage
  behind_part t q = record { place = behind q; lists = cond (ends_list q) (suc t) t }

  -- is within the bounds
  within_next : (p : Place) (t : ℕ) (q : Part) (l : Line) → IsWithin r (stage p t) → stands_at r (stage p t) l p q ≡ true → IsWithin r (behind_part t q)
  within_next Opening t AVersion l w h = record { most = w.most; whole = λ x. absurd cc }
  within_next Between t AList l w h = record { most = (let under = under_next t _ h in omega arith); whole = λ x. absurd cc }
  within_next Between t AMark l w h = record { most = (let under = under_next t _ h in omega arith); whole = λ x. absurd cc }
  within_next Between t TheLast l w h = record { most = w.most; whole = λ x. all_complete t w.most h }
  within_next Inside t AnItem l w h = record { most = w.most; whole = λ x. absurd cc }
  within_next Inside t AnEnd l w h = record { most = w.most; whole = λ x. absurd cc }
  within_next _ t _ l w h = absurd (true≢false (sym h))

  fine_next : (own : List ℕ) (p : Place) (t : ℕ) (q : Part) (l : Line) (ls : List Line) → part_of l.form ≡ q → stands_at r (stage p t) l p q ≡ true → FitFields 1 own (item_fields l.form) l.values → has_wrong_kind r l ≡ false → has_outside r l ≡ false
      → AreFine s r (behind_part t q) ls → AreFine s r (stage p t) (l ∷ ls)
  fine_next own Opening t AVersion l ls e h fits names inside f = record { lists = rw e f.lists; count = rw e f.count; items = rw e tt }
  fine_next own Between t AList l ls e h fits names inside f = record { lists = rw e (f.items, f.lists); count = rw e (let c = f.count in omega arith); items = rw e tt }
  fine_next own Between t AMark l ls e h fits names inside f = record { lists = rw e (tt, f.lists); count = rw e (let c = f.count in omega arith); items = rw e tt }
  fine_next own Between t TheLast l ls e h fits names inside f = record { lists = rw e f.lists; count = rw e f.count; items = rw e tt }
  fine_next own Inside t AnItem l ls e h fits names inside f =
      let x : IsFine r own l.form l.values = record { filled = fits; words = h; names = names; inside = inside } in
      record { lists = rw e f.lists; count = rw e f.count; items = rw e (joined s t (as_list (item_said r t l)) (items_from r t ls) (as_items s t (item_said r t l) (item_fits s r same t own l.values l.form x)) f.items) }
  fine_next own Inside t AnEnd l ls e h fits names inside f = record { lists = rw e f.lists; count = rw e f.count; items = rw e tt }
  fine_next own _ t _ l ls e h fits names inside f = absurd (true≢false (sym h))

  -- ---- all lines

  none_goes : (n : ℕ) (a : Option FaultKind) (b : Option Fault) → goes_on n a b ≡ None → (a ≡ None) × (b ≡ None)
  none_goes n None b h = (refl, h)
  none_goes n (Some k) b h = absurd cc

  by_said : (n : ℕ) (p : Place) (t : ℕ) (line : TextLine) (rest : List TextLine) → IsWithin r (stage p t) → fault_on r (stage p t) (read_line line) ≡ None
      → ((q : Place) (u : ℕ) → IsWithin r (stage q u) → walk r (suc n) (stage q u) (map read_line rest) ≡ None → AreFine s r (stage q u) (said_by (map read_line rest)))
      → (o : Option Line) → (read_line line).said ≡ o → walk r (suc n) (stage_behind (stage p t) o) (map read_line rest) ≡ None → AreFine s r (stage p t) (as_list o ++ said_by (map read_line rest))
  by_said n p t line rest w h later None e k = later p t w k
  by_said n p t line rest w h later (Some l) e k =
      let c = clean_line r (stage p t) line l e h in
      let fits = said_fits (words_of line.bytes) l e in
      fine_next (second (words_of line.bytes)) p t (part_of l.form) l (said_by (map read_line rest)) refl c.stands fits c.names c.inside
      (later (behind (part_of l.form)) (cond (ends_list (part_of l.form)) (suc t) t) (within_next p t (part_of l.form) l w c.stands) k)

  fine : (n : ℕ) (lines : List TextLine) (p : Place) (t : ℕ) → IsWithin r (stage p t) → walk r n (stage p t) (map read_line lines) ≡ None → AreFine s r (stage p t) (said_by (map read_line lines))
  unfolding walk
  fine n [] Over t w h = record { lists = tt; count = (let c = w.whole refl in omega arith); items = tt }
  fine n [] Opening t w h = absurd cc
  fine n [] Between t w h = absurd cc
  fine n [] Inside t w h = absurd cc
  fine n (line ∷ rest) p t w h =
      let g = none_goes n (fault_on r (stage p t) (read_line line)) _ h in
      by_said n p t line rest w g.0 (λ q u v k. fine (suc n) rest q u v k) (read_line line).said refl g.1

-- ---- well formed

roster_is : (x : Script) → IsRosterOf (numbered x) (roster_of x)
roster_is x = record { kinds_are = refl; threads_are = refl; count = ap suc (threads_count 0 x.declarations); some_thread = omega arith }

well : (x : Script) (first : ℕ) (lines : List TextLine) → first_fault (roster_of x) first lines ≡ None → IsRecord (numbered x) (record_by (roster_of x) lines)
well x first lines h =
    let w : IsWithin (roster_of x) opening_stage = record { most = omega arith; whole = λ e. absurd cc } in
    let f = fine (numbered x) (roster_of x) (roster_is x) first lines Opening 0 w (walk_is_first (roster_of x) first lines ∙ h) in
    record {
      version = refl;
      count = (let a = f.count in let b = (roster_is x).count in omega arith);
      each = λ t i y e. (let none : 0 + t ≡ t = omega arith in item_in (numbered x) t (list_at (record_by (roster_of x) lines).lists t) (subst (λ (n : ℕ). ItemsFine (numbered x) n (list_at (record_by (roster_of x) lines).lists t)) none (list_in (numbered x) 0 (record_by (roster_of x) lines).lists f.lists t)) i y e);
    }

-- ---- short

with_short : (p : Part) (o : Option Item) (xs : List Item) (n : ℕ) → length xs ≤ n → length (with_item p o xs) ≤ suc n
with_short AnItem None xs n h = omega arith
with_short AnItem (Some x) xs n h = omega arith
with_short _ o xs n h = omega arith

items_short : (r : Roster) (t : ℕ) (ls : List Line) → length (items_from r t ls) ≤ length ls
items_short r t [] = omega arith
items_short r t (l ∷ ls) = with_short (part_of l.form) (item_said r t l) (items_from r t ls) (length ls) (items_short r t ls)

begun_short : (p : Part) (xs : List Item) (rest : List (Option (List Item))) (n : ℕ) → length xs ≤ n → ((u : ℕ) → length (list_at rest u) ≤ n) → (u : ℕ) → length (list_at (list_begun p xs ++ rest) u) ≤ suc n
begun_short AList xs rest n h k zero = omega arith
begun_short AList xs rest n h k (suc u) = let z = k u in omega arith
begun_short AMark xs rest n h k zero = omega arith
begun_short AMark xs rest n h k (suc u) = let z = k u in omega arith
begun_short _ xs rest n h k u = let z = k u in omega arith

lists_short : (r : Roster) (t : ℕ) (ls : List Line) (u : ℕ) → length (list_at (lists_from r t ls) u) ≤ length ls
lists_short r t [] u = omega arith
lists_short r t (l ∷ ls) u = begun_short (part_of l.form) (items_from r t ls) (lists_from r (thread_behind (part_of l.form) t) ls) (length ls) (items_short r t ls) (lists_short r (thread_behind (part_of l.form) t) ls) u

one_said : (o : Option Line) (ls : List Line) (n : ℕ) → length ls ≤ n → length (as_list o ++ ls) ≤ suc n
one_said None ls n h = omega arith
one_said (Some l) ls n h = omega arith

said_short : (lines : List TextLine) → length (said_by (map read_line lines)) ≤ length lines
said_short [] = omega arith
said_short (l ∷ ls) = one_said (read_line l).said (said_by (map read_line ls)) (length ls) (said_short ls)

last_short : (over : Bool) (part : List ℕ) → length (last_line over part) ≤ 1
last_short over [] = omega arith
last_short over (b ∷ bs) = omega arith

from_short : (over : Bool) (parts : List (List ℕ)) → length (lines_from over parts) ≤ length parts
from_short over [] = omega arith
from_short over (part ∷ []) = last_short over part
from_short over (part ∷ more ∷ parts) = let z = from_short over (more ∷ parts) in omega arith

pub lines_short : (room : ℕ) (text : List ℕ) → length (lines_of room text) ≤ suc (suc room)
unfolding lines_of
lines_short room text =
    let front = take (suc room) text in
    let a = from_short (nat_lt room (length text)) (slice_split (λ b. b == 10) front) in
    let b = length-slice_split (λ b. b == 10) front in
    let c = count_by-le-length (λ b. b == 10) front in
    let d : length front ≡ min (suc room) (length text) = length-take (suc room) text in
    let e : min (suc room) (length text) ≤ suc room = min-le_left (suc room) (length text) in
    omega arith

short : (x : Script) (room : ℕ) (text : List ℕ) → room ≤ 1073741824 → AreShort (record_by (roster_of x) (lines_of room text))
short x room text h t =
    let a : length (list_at (record_by (roster_of x) (lines_of room text)).lists t) ≤ length (said_by (map read_line (lines_of room text))) = lists_short (roster_of x) 0 (said_by (map read_line (lines_of room text))) t in
    let b = said_short (lines_of room text) in
    let c = lines_short room text in
    omega arith

-- ---- what a text means

meant : (x : Script) (first : ℕ) (lines : List TextLine) (o : Option Fault) (r : Recorded) → first_fault (roster_of x) first lines ≡ o → by_fault (roster_of x) lines o ≡ Ok r → (first_fault (roster_of x) first lines ≡ None) × (r ≡ record_by (roster_of x) lines)
meant x first lines (Some f) r h e = absurd cc
meant x first lines None r h e = (h, cc)

pub meant_is_record : (x : Script) (first room : ℕ) (text : List ℕ) (r : Recorded) → record_meaning x first room text ≡ Ok r → IsRecord (numbered x) r
unfolding record_meaning
meant_is_record x first room text r e =
    let p = meant x first (lines_of room text) (first_fault (roster_of x) first (lines_of room text)) r refl e in
    subst (λ (q : Recorded). IsRecord (numbered x) q) (sym p.1) (well x first (lines_of room text) p.0)

pub meant_is_short : (x : Script) (first room : ℕ) (text : List ℕ) (r : Recorded) → room ≤ 1073741824 → record_meaning x first room text ≡ Ok r → AreShort r
unfolding record_meaning
meant_is_short x first room text r h e =
    let p = meant x first (lines_of room text) (first_fault (roster_of x) first (lines_of room text)) r refl e in
    subst (λ (q : Recorded). AreShort q) (sym p.1) (short x room text h)
