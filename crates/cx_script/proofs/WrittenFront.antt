-- A text that begins with the canonical text of a scenario has the scenario's lines, then those of the rest.
use Rattle.std.proofs.Common.{◌≡◌, ℕ, zero, suc, ◌+◌, ◌-◌, ◌<◌, ◌≤◌, inl, inr, Bool, true, false, eqb, ltb, ◌&&◌, List, [], ◌∷◌, ◌++◌, length, map, take, drop, refl, sym, ap, subst, ◌∙◌, arith, append_assoc, length-append}
use Rattle.std.specs.List.{AllByRecursion, join_with_byte, list_all, onto_first, slice_split}
use Rattle.std.proofs.Math.Seq.{take-append-add}
use Rattle.std.proofs.lemmas.Bool.{and_parts, and_right, cases_Bool, cases_lt, le-ltb, lt-ltb}
use Rattle.std.proofs.lemmas.Bool.Decides.{nat_tests}
use Rattle.std.proofs.lemmas.List.{length-drop, length-map, take-append-drop, take-map}
use Rattle.std.proofs.lemmas.List.Elements.{All-from_recursion}
use Rattle.std.proofs.lemmas.List.Splits.{slice_split_at}
use Rattle.cx_text.specs.Lines.{Line, is_end, is_text_byte, lines_from, lines_of, without_return}
use Rattle.cx_text.specs.Words.{Filled, words_for}
use Rattle.cx_text.proofs.Lexing.{plain_line, text_of}
use Rattle.cx_script.specs.Earlier.{Over, place_after}
use Rattle.cx_script.specs.Faults.{Read, read_all, said_by}
use Rattle.cx_script.specs.Laws.{IsWrittenFront}
use Rattle.cx_script.specs.Numbered.{IsScript}
use Rattle.cx_script.specs.Script.{Script, lines_for, written}
use Rattle.cx_script.proofs.Blocks.{fine_split}
use Rattle.cx_script.proofs.Faultless.{AreShown}
use Rattle.cx_script.proofs.ReadBack.{all_back, said_back}
use Rattle.cx_script.proofs.Shape.{nothing_over}
use Rattle.cx_script.proofs.Sound.{AreFine}
use Rattle.cx_script.proofs.Written.{AreFilled, canonical_all, written_text}
use Rattle.cx_script.proofs.WrittenRead.{lines_clear, lines_known, lines_read, shown_all}

-- ---- lines of bytes of text

not_end : (b : ℕ) → is_text_byte b ≡ true → eqb b 10 ≡ false
not_end b h = grind (arith, nat_tests)

not_return : (b : ℕ) → is_text_byte b ≡ true → eqb b 13 ≡ false
not_return b h = grind (arith, nat_tests)

none_end : (bs : List ℕ) → list_all is_text_byte bs ≡ true → AllByRecursion (λ b. eqb b 10 ≡ false) bs
none_end [] h = tt
none_end (b ∷ bs) h = let p = and_parts (is_text_byte b) (list_all is_text_byte bs) h in (not_end b p.0, none_end bs p.1)

nothing_dropped : (bs : List ℕ) → list_all is_text_byte bs ≡ true → without_return bs ≡ bs
nothing_dropped [] h = refl
nothing_dropped (b ∷ []) h = let p = and_parts (is_text_byte b) true h in rw (not_return b p.0) refl
nothing_dropped (b ∷ c ∷ bs) h = ap (λ (t : List ℕ). b ∷ t) (nothing_dropped (c ∷ bs) (and_parts (is_text_byte b) (list_all is_text_byte (c ∷ bs)) h).1)

-- ---- parts between line feeds

abbrev pub is_feed : ℕ → Bool
is_feed b = eqb b 10

abbrev bytes_for : Filled → List ℕ
bytes_for l = join_with_byte 32 (words_for l)

abbrev pub text_for : List Filled → List ℕ
text_for ls = text_of (map words_for ls)

parts_on : (ls : List Filled) (rest : List ℕ) → AreShown ls → slice_split is_feed (text_for ls ++ rest) ≡ map bytes_for ls ++ slice_split is_feed rest
parts_on [] rest h = refl
parts_on (l ∷ ls) rest h =
    let w = bytes_for l in
    let more = text_for ls in
    let same : ((w ++ 10 ∷ []) ++ more) ++ rest ≡ w ++ 10 ∷ (more ++ rest) = append_assoc (w ++ 10 ∷ []) more rest ∙ append_assoc w (10 ∷ []) (more ++ rest) in
    ap (λ (t : List ℕ). slice_split is_feed t) same
    ∙ slice_split_at is_feed w 10 (more ++ rest) (All-from_recursion (λ b. eqb b 10 ≡ false) w (none_end w h.0.text)) refl
    ∙ ap (λ (t : List (List ℕ)). w ∷ t) (parts_on ls rest h.1)

-- there is a first part
pub record HasParts (parts : List (List ℕ)) : Type 0 where
  pub head : List ℕ
  pub tail : List (List ℕ)
  pub is : parts ≡ head ∷ tail

pub has_parts : (bs : List ℕ) → HasParts (slice_split is_feed bs)
has_parts [] = record { head = []; tail = []; is = refl }
has_parts (b ∷ bs) = elim (cases_Bool (is_feed b)) [
  | inl h ↦ record { head = []; tail = slice_split is_feed bs; is = rw h refl }
  | inr h ↦ let r = has_parts bs in record { head = b ∷ r.head; tail = r.tail; is = rw h (ap (λ (t : List (List ℕ)). onto_first b t) r.is) }
]

goes_on : (b : ℕ) (bs : List ℕ) → is_end (slice_split is_feed (b ∷ bs)) ≡ false
goes_on b bs =
    let r = has_parts bs in
    elim (cases_Bool (is_feed b)) [
      | inl h ↦ rw h (ap (λ (t : List (List ℕ)). is_end ([] ∷ t)) r.is)
      | inr h ↦ rw h (ap (λ (t : List (List ℕ)). is_end (onto_first b t)) r.is)
    ]

-- where bytes are left after a text within its limit, they are no end
not_over : (room : ℕ) (rest : List ℕ) → (ltb room (length rest) && is_end (slice_split is_feed (take (suc room) rest))) ≡ false
not_over room [] = rw (le-ltb room 0 (omega arith)) refl
not_over room (b ∷ bs) = and_right (ltb room (length (b ∷ bs))) _ (goes_on b (take room bs))

no_end_before : (w : List ℕ) (parts : List (List ℕ)) (head : List ℕ) (tail : List (List ℕ)) → is_end (w ∷ (parts ++ head ∷ tail)) ≡ false
no_end_before [] [] head tail = refl
no_end_before [] (p ∷ parts) head tail = refl
no_end_before (b ∷ w) [] head tail = refl
no_end_before (b ∷ w) (p ∷ parts) head tail = refl

line_same : (a b : List ℕ) (over : Bool) (xs ys : List Line) → a ≡ b → over ≡ false → xs ≡ ys → ◌≡◌ {A = List Line} (record { bytes = a; over = over } ∷ xs) (record { bytes = b; over = false } ∷ ys)
line_same a b over xs ys p q r = rw (p, q, r) refl

lines_on : (over : Bool) (ls : List Filled) (head : List ℕ) (tail : List (List ℕ)) → AreShown ls → (over && is_end (head ∷ tail)) ≡ false
    → lines_from over (map bytes_for ls ++ head ∷ tail) ≡ map plain_line (map words_for ls) ++ lines_from over (head ∷ tail)
lines_on over [] head tail h e = refl
lines_on over (l ∷ []) head tail h e = line_same (without_return (bytes_for l)) (bytes_for l) (over && is_end (head ∷ tail)) (lines_from over (head ∷ tail)) (lines_from over (head ∷ tail)) (nothing_dropped (bytes_for l) h.0.text) e refl
lines_on over (l ∷ m ∷ ls) head tail h e =
    line_same (without_return (bytes_for l)) (bytes_for l) (over && is_end (bytes_for m ∷ (map bytes_for ls ++ head ∷ tail))) _ _ (nothing_dropped (bytes_for l) h.0.text)
    (and_right over _ (no_end_before (bytes_for m) (map bytes_for ls) head tail)) (lines_on over (m ∷ ls) head tail h.1 e)

-- ---- a text that goes on

over_same : (limit n r : ℕ) → n ≤ limit → ltb limit (n + r) ≡ ltb (limit - n) r
over_same limit n r h = elim (cases_lt limit (n + r)) [
  | inl k ↦ lt-ltb limit (n + r) k ∙ sym (lt-ltb (limit - n) r (omega arith))
  | inr k ↦ le-ltb limit (n + r) k ∙ sym (le-ltb (limit - n) r (omega arith))
]

taken_on : (limit : ℕ) (xs ys : List ℕ) → length xs ≤ limit → take (suc limit) (xs ++ ys) ≡ xs ++ take (suc (limit - length xs)) ys
taken_on limit xs ys h =
    let same : suc limit ≡ length xs + suc (limit - length xs) = omega arith in
    ap (λ (n : ℕ). take n (xs ++ ys)) same ∙ take-append-add xs ys (suc (limit - length xs))

-- the parts of a text that begins with bytes within its limit
pub lines_past : (limit : ℕ) (xs ys : List ℕ) → length xs ≤ limit → lines_of limit (xs ++ ys) ≡ lines_from (ltb (limit - length xs) (length ys)) (slice_split is_feed (xs ++ take (suc (limit - length xs)) ys))
unfolding lines_of
lines_past limit xs ys short =
    let over : ltb limit (length (xs ++ ys)) ≡ ltb (limit - length xs) (length ys) = ap (λ (n : ℕ). ltb limit n) (length-append xs ys) ∙ over_same limit (length xs) (length ys) short in
    ap (λ (o : Bool). lines_from o (slice_split is_feed (take (suc limit) (xs ++ ys)))) over
    ∙ ap (λ (x : List ℕ). lines_from (ltb (limit - length xs) (length ys)) (slice_split is_feed x)) (taken_on limit xs ys short)

text_goes_on : (limit : ℕ) (ls : List Filled) (rest : List ℕ) → AreShown ls → length (text_for ls) ≤ limit → lines_of limit (text_for ls ++ rest) ≡ map plain_line (map words_for ls) ++ lines_of (limit - length (text_for ls)) rest
unfolding lines_of
text_goes_on limit ls rest shown short =
    let room : ℕ = limit - length (text_for ls) in
    let left : List ℕ = take (suc room) rest in
    let r = has_parts left in
    let apart : (ltb room (length rest) && is_end (r.head ∷ r.tail)) ≡ false = ap (λ (x : List (List ℕ)). ltb room (length rest) && is_end x) (sym r.is) ∙ not_over room rest in
    lines_past limit (text_for ls) rest short
    ∙ ap (λ (x : List (List ℕ)). lines_from (ltb room (length rest)) x) (parts_on ls left shown)
    ∙ ap (λ (x : List (List ℕ)). lines_from (ltb room (length rest)) (map bytes_for ls ++ x)) r.is
    ∙ lines_on (ltb room (length rest)) ls r.head r.tail shown apart
    ∙ ap (λ (x : List (List ℕ)). map plain_line (map words_for ls) ++ lines_from (ltb room (length rest)) x) (sym r.is)

-- ---- where main ends

filled_front : (n : ℕ) (ls : List Filled) → AreFilled ls → AreFilled (take n ls)
filled_front zero ls h = tt
filled_front (suc n) [] h = tt
filled_front (suc n) (l ∷ ls) h = (h.0, filled_front n ls h.1)

-- what the first lines say
said_front : (n : ℕ) (ls : List Filled) → AreFilled ls → said_by (read_all (take n (map plain_line (map words_for ls)))) ≡ take n ls
said_front n ls filled =
    let front : take n (map plain_line (map words_for ls)) ≡ map plain_line (map words_for (take n ls)) =
    take-map plain_line n (map words_for ls) ∙ ap (λ (t : List (List (List ℕ))). map plain_line t) (take-map words_for n ls) in
    ap (λ (t : List Line). said_by (read_all t)) front
    ∙ ap (λ (t : List Read). said_by t) (all_back 1 (take n ls) (canonical_all (take n ls) (filled_front n ls filled)))
    ∙ said_back (take n ls)

-- no line is fine after the end of main
not_before : (n : ℕ) (ls : List Filled) → AreFine 1 [] ls → n < length ls → place_after (take n ls) ≡ Over → ⊥
not_before n ls fine lt over =
    let two = fine_split 1 [] (take n ls) (drop n ls) (subst (λ (t : List Filled). AreFine 1 [] t) (sym (take-append-drop n ls)) fine) in
    let none : length (drop n ls) ≡ 0 = ap (λ (t : List Filled). length t) (nothing_over 1 (drop n ls) (take n ls) two.1 over) in
    let left = length-drop n ls in
    absurd (omega arith)

pub written_front : (limit : ℕ) (s : Script) (rest : List ℕ) → IsScript s → length (written s) ≤ limit → IsWrittenFront limit s rest
written_front limit s rest h short =
    let k = lines_known s h in
    let ls = lines_for s in
    let t = written_text s in
    let read = lines_read limit s k short in
    let few : length (text_for ls) ≤ limit = subst (λ (x : List ℕ). length x ≤ limit) t short in
    let count : length (lines_of limit (written s)) ≡ length ls = ap (λ (x : List Line). length x) read ∙ length-map (map words_for ls) plain_line ∙ length-map ls words_for in
    record {
      lines =
          ap (λ (x : List ℕ). lines_of limit (x ++ rest)) t
          ∙ text_goes_on limit ls rest (shown_all ls k.filled) few
          ∙ ap (λ (x : List ℕ). map plain_line (map words_for ls) ++ lines_of (limit - length x) rest) (sym t)
          ∙ ap (λ (x : List Line). x ++ lines_of (limit - length (written s)) rest) (sym read);
      count = count;
      clear = lines_clear limit s h short;
      over =
          ap (λ (x : List Line). place_after (said_by (read_all x))) read
          ∙ ap (λ (x : List Read). place_after (said_by x)) (all_back 1 ls (canonical_all ls k.filled))
          ∙ ap (λ (x : List Filled). place_after x) (said_back ls)
          ∙ k.over;
      before = λ n lt over. not_before n ls k.fine (subst (λ m. n < m) count lt)
          (sym (ap (λ (x : List Line). place_after (said_by (read_all (take n x)))) read ∙ ap (λ (x : List Filled). place_after x) (said_front n ls k.filled)) ∙ over);
    }
