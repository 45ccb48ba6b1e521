-- A text that begins with the canonical text of a scenario is cut into its lines and those of the rest in one place alone.
use Rattle.std.proofs.Common.{◌≡◌, ℕ, suc, ◌+◌, ◌-◌, ◌<◌, ◌≤◌, inl, inr, Bool, ltb, List, [], ◌∷◌, ◌++◌, length, take, drop, refl, sym, ap, subst, ◌∙◌, arith, append_assoc, length-append}
use Rattle.std.specs.List.{join_with_byte, onto_first, slice_split}
use Rattle.std.proofs.Math.Seq.{drop-append_seam, take-append-add}
use Rattle.std.proofs.lemmas.Bool.{cases_Bool, cases_order}
use Rattle.std.proofs.lemmas.List.{append-nil, length-drop, length-take, take-append-drop}
use Rattle.cx_text.specs.Lines.{Line, lines_from, lines_of}
use Rattle.cx_text.specs.Words.{Filled, words_for}
use Rattle.cx_script.specs.Numbered.{IsScript}
use Rattle.cx_script.specs.Script.{Script, lines_for, written}
use Rattle.cx_script.proofs.Written.{written_text}
use Rattle.cx_script.proofs.WrittenFront.{HasParts, has_parts, is_feed, lines_past, text_for, written_front}

-- ---- how many lines

count_from : (over : Bool) (parts : List (List ℕ)) (head : List ℕ) (tail : List (List ℕ)) → length (lines_from over (parts ++ head ∷ tail)) ≡ length parts + length (lines_from over (head ∷ tail))
count_from over [] head tail = omega arith
count_from over (p ∷ []) head tail = omega arith
count_from over (p ∷ q ∷ parts) head tail = let a = count_from over (q ∷ parts) head tail in omega arith

onto_append : (b : ℕ) (parts more : List (List ℕ)) → HasParts parts → onto_first b (parts ++ more) ≡ onto_first b parts ++ more
onto_append b parts more h = rw h.is refl

-- a line feed ends a part
split_on : (xs ys : List ℕ) → slice_split is_feed (xs ++ 10 ∷ ys) ≡ slice_split is_feed xs ++ slice_split is_feed ys
split_on [] ys = refl
split_on (x ∷ xs) ys = elim (cases_Bool (is_feed x)) [
  | inl h ↦ rw h (ap (λ (t : List (List ℕ)). [] ∷ t) (split_on xs ys))
  | inr h ↦ rw h (ap (λ (t : List (List ℕ)). onto_first x t) (split_on xs ys) ∙ onto_append x (slice_split is_feed xs) (slice_split is_feed ys) (has_parts xs))
]

-- bytes that end with a line feed are at least a line before what follows
longer : (room n : ℕ) (xs ys : List ℕ) → n ≡ suc (length xs) + room → length (lines_of room ys) < length (lines_of n ((xs ++ 10 ∷ []) ++ ys))
unfolding lines_of
longer room n xs ys is =
    let front : List ℕ = xs ++ 10 ∷ [] in
    let long : length front ≡ suc (length xs) = length-append xs (10 ∷ []) ∙ omega arith in
    let same : n - length front ≡ room = omega arith in
    let left : List ℕ = take (suc room) ys in
    let r = has_parts xs in
    let q = has_parts left in
    let past : lines_of n (front ++ ys) ≡ lines_from (ltb room (length ys)) (slice_split is_feed (front ++ left)) =
    subst (λ (k : ℕ). lines_of n (front ++ ys) ≡ lines_from (ltb k (length ys)) (slice_split is_feed (front ++ take (suc k) ys))) same (lines_past n front ys (omega arith)) in
    let parts : slice_split is_feed (front ++ left) ≡ slice_split is_feed xs ++ (q.head ∷ q.tail) =
    ap (λ (t : List ℕ). slice_split is_feed t) (append_assoc xs (10 ∷ []) left) ∙ split_on xs left ∙ ap (λ (t : List (List ℕ)). slice_split is_feed xs ++ t) q.is in
    let count : length (lines_of n (front ++ ys)) ≡ length (slice_split is_feed xs) + length (lines_from (ltb room (length ys)) (q.head ∷ q.tail)) =
    ap (λ (t : List Line). length t) (past ∙ ap (λ (t : List (List ℕ)). lines_from (ltb room (length ys)) t) parts) ∙ count_from (ltb room (length ys)) (slice_split is_feed xs) q.head q.tail in
    let rest : length (lines_of room ys) ≡ length (lines_from (ltb room (length ys)) (q.head ∷ q.tail)) = ap (λ (t : List (List ℕ)). length (lines_from (ltb room (length ys)) t)) q.is in
    let some : length (slice_split is_feed xs) ≡ suc (length r.tail) = ap (λ (t : List (List ℕ)). length t) r.is in
    omega arith

first_counts : (over : Bool) (b : ℕ) (bs : List ℕ) (tail : List (List ℕ)) → 0 < length (lines_from over ((b ∷ bs) ∷ tail))
first_counts over b bs [] = omega arith
first_counts over b bs (p ∷ tail) = omega arith

empty_counts : (over : Bool) (parts : List (List ℕ)) → HasParts parts → 0 < length (lines_from over ([] ∷ parts))
empty_counts over parts h = rw h.is (omega arith)

-- bytes have a line
some_line : (room : ℕ) (b : ℕ) (bs : List ℕ) → 0 < length (lines_of room (b ∷ bs))
unfolding lines_of
some_line room b bs =
    let over : Bool = ltb room (length (b ∷ bs)) in
    let r = has_parts (take room bs) in
    elim (cases_Bool (is_feed b)) [
      | inl h ↦ rw h (empty_counts over (slice_split is_feed (take room bs)) r)
      | inr h ↦ rw (h, r.is) (first_counts over b r.head r.tail)
    ]

some_lines : (room : ℕ) (bs : List ℕ) → 0 < length bs → 0 < length (lines_of room bs)
some_lines room [] h = absurd (omega arith)
some_lines room (b ∷ bs) h = some_line room b bs

-- ---- canonical text ends with a line feed

record EndsLine (text : List ℕ) : Type 0 where
  before : List ℕ
  is : text ≡ before ++ 10 ∷ []

ends_line : (l : Filled) (ls : List Filled) → EndsLine (text_for (l ∷ ls))
ends_line l [] = record { before = join_with_byte 32 (words_for l); is = append-nil (join_with_byte 32 (words_for l) ++ 10 ∷ []) }
ends_line l (m ∷ ls) =
    let r = ends_line m ls in
    let here : List ℕ = join_with_byte 32 (words_for l) ++ 10 ∷ [] in
    record { before = here ++ r.before; is = ap (λ (t : List ℕ). here ++ t) r.is ∙ sym (append_assoc here r.before (10 ∷ [])) }

ends_some : (ls : List Filled) → 0 < length ls → EndsLine (text_for ls)
ends_some [] h = absurd (omega arith)
ends_some (l ∷ ls) h = ends_line l ls

written_ends : (s : Script) → EndsLine (written s)
written_ends s = let r = ends_some (lines_for s) (omega arith) in record { before = r.before; is = written_text s ∙ r.is }

-- ---- one place

module _ (limit : ℕ) (text rest : List ℕ) (end : EndsLine text) (short : length text ≤ limit) where
  -- cut before the end of the front, the rest has a line more
  not_less : (len : ℕ) → len < length text → lines_of (limit - len) (drop len (text ++ rest)) ≡ lines_of (limit - length text) rest → ⊥
  not_less len lt same =
      let a : List ℕ = take len end.before in
      let b : List ℕ = drop len end.before in
      let long : length text ≡ suc (length end.before) = ap (λ (t : List ℕ). length t) end.is ∙ length-append end.before (10 ∷ []) ∙ omega arith in
      let na : length a ≡ len = length-take len end.before ∙ omega arith in
      let nb : length b ≡ length end.before - len = length-drop len end.before in
      let parts : text ++ rest ≡ a ++ ((b ++ 10 ∷ []) ++ rest) =
      ap (λ (t : List ℕ). t ++ rest) (end.is ∙ ap (λ (t : List ℕ). t ++ 10 ∷ []) (sym (take-append-drop len end.before)) ∙ append_assoc a b (10 ∷ [])) ∙ append_assoc a (b ++ 10 ∷ []) rest in
      let cut : drop len (text ++ rest) ≡ (b ++ 10 ∷ []) ++ rest =
      ap (λ (t : List ℕ). drop len t) parts ∙ subst (λ (n : ℕ). drop n (a ++ ((b ++ 10 ∷ []) ++ rest)) ≡ (b ++ 10 ∷ []) ++ rest) na (drop-append_seam a ((b ++ 10 ∷ []) ++ rest)) in
      let more = longer (limit - length text) (limit - len) b rest (omega arith) in
      let count : length (lines_of (limit - len) ((b ++ 10 ∷ []) ++ rest)) ≡ length (lines_of (limit - length text) rest) =
      ap (λ (t : List ℕ). length (lines_of (limit - len) t)) (sym cut) ∙ ap (λ (t : List Line). length t) same in
      absurd (omega arith)

  -- cut behind it, the front has a line more
  not_more : (len : ℕ) → length text < len → len ≤ length (text ++ rest) → ((ys : List ℕ) → lines_of limit (text ++ ys) ≡ lines_of limit text ++ lines_of (limit - length text) ys)
      → lines_of limit (take len (text ++ rest)) ≡ lines_of limit text → ⊥
  not_more len lt within goes same =
      let more : ℕ = len - length text in
      let left : List ℕ = take more rest in
      let sum : len ≡ length text + more = omega arith in
      let cut : take len (text ++ rest) ≡ text ++ left = ap (λ (n : ℕ). take n (text ++ rest)) sum ∙ take-append-add text rest more in
      let long = length-append text rest in
      let n = length-take more rest in
      let some = some_lines (limit - length text) left (omega arith) in
      let count : length (lines_of limit text ++ lines_of (limit - length text) left) ≡ length (lines_of limit text) =
      ap (λ (t : List Line). length t) (sym (goes left)) ∙ ap (λ (t : List ℕ). length (lines_of limit t)) (sym cut) ∙ ap (λ (t : List Line). length t) same in
      let both = length-append (lines_of limit text) (lines_of (limit - length text) left) in
      absurd (omega arith)

pub front_is_one : (limit : ℕ) (s : Script) (rest : List ℕ) (len : ℕ) → IsScript s → length (written s) ≤ limit → len ≤ length (written s ++ rest)
    → lines_of limit (take len (written s ++ rest)) ≡ lines_of limit (written s) → lines_of (limit - len) (drop len (written s ++ rest)) ≡ lines_of (limit - length (written s)) rest → len ≡ length (written s)
front_is_one limit s rest len h short within front behind =
    let end = written_ends s in
    elim (cases_order len (length (written s))) [
      | inl e ↦ e
      | inr k ↦ elim k [
        | inl lt ↦ absurd (not_less limit (written s) rest end short len lt behind)
        | inr gt ↦ absurd (not_more limit (written s) rest end short len gt within (λ ys. (written_front limit s ys h short).lines) front)
      ]
    ]
