-- The words of a line, kept unless the first begins a comment.
use Rattle.std.proofs.Common.{◌≡◌, ℕ, suc, Bool, true, false, List, [], ◌∷◌, filter, length, refl, sym, subst, ap, append_assoc, ◌∙◌, arith, ◌+◌, ◌<◌, ◌≤◌, ◌++◌, ltb, take_all, append-nil, length-drop}
use Rattle.std.proofs.lemmas.Bool.{lt-ltb, ltb-true, ltb-false}
use Rattle.std.specs.List.{slice_split, position_or_len, before_first, after_first}
use Rattle.std.proofs.lemmas.List.{drop_all}
use Rattle.std.proofs.lemmas.List.Splits.{slice_split_first, slice_split_none}
use Rattle.std.proofs.lemmas.List.Sums.{fails_before_first}
use Rattle.cx_text.specs.Lines.{is_word, is_blank, kept_words, words_of}
use Rattle.cx_text.specs.Views.{is_comment}

a_word : (b : ℕ) (bs : List ℕ) → is_word (b ∷ bs) ≡ true
a_word b bs = lt-ltb 0 (suc (length bs)) (omega arith)

filter_word : (w : List ℕ) (ws : List (List ℕ)) → is_word w ≡ true → filter is_word (w ∷ ws) ≡ w ∷ filter is_word ws
filter_word w ws h = rw h refl

dropped_first : (b : ℕ) (bs : List ℕ) (ws : List (List ℕ)) → is_comment ((b ∷ bs) ∷ ws) ≡ true → [] ≡ kept_words ((b ∷ bs) ∷ ws)
dropped_first b bs ws h = rw h refl

kept_first : (b : ℕ) (bs : List ℕ) (ws : List (List ℕ)) → is_comment ((b ∷ bs) ∷ ws) ≡ false → (b ∷ bs) ∷ ws ≡ kept_words ((b ∷ bs) ∷ ws)
kept_first b bs ws h = rw h refl

dropped : (parts : List (List ℕ)) → is_comment (filter is_word parts) ≡ true → [] ≡ kept_words (filter is_word parts)
dropped [] h = refl
dropped ([] ∷ parts) h = dropped parts h
dropped ((b ∷ bs) ∷ parts) h =
    let e = filter_word (b ∷ bs) parts (a_word b bs) in
    subst (λ (ws : List (List ℕ)). [] ≡ kept_words ws) (sym e) (dropped_first b bs (filter is_word parts) (subst (λ (ws : List (List ℕ)). is_comment ws ≡ true) e h))

kept : (parts : List (List ℕ)) → is_comment (filter is_word parts) ≡ false → filter is_word parts ≡ kept_words (filter is_word parts)
kept [] h = refl
kept ([] ∷ parts) h = kept parts h
kept ((b ∷ bs) ∷ parts) h =
    let e = filter_word (b ∷ bs) parts (a_word b bs) in
    subst (λ (ws : List (List ℕ)). ws ≡ kept_words ws) (sym e) (kept_first b bs (filter is_word parts) (subst (λ (ws : List (List ℕ)). is_comment ws ≡ false) e h))

one_first : (w : List ℕ) (ws : List (List ℕ)) (t : Bool) → is_word w ≡ t → filter is_word (w ∷ ws) ≡ filter is_word (w ∷ []) ++ filter is_word ws
one_first w ws true e = rw e refl
one_first w ws false e = rw e refl

-- the words of a text are those of its first part and of the rest
split_blank : (text : List ℕ) (t : Bool) → t ≡ ltb (position_or_len is_blank text) (length text)
    → filter is_word (slice_split is_blank text) ≡ filter is_word (before_first is_blank text ∷ []) ++ filter is_word (slice_split is_blank (after_first is_blank text))
split_blank text true e =
    ap (filter is_word) (slice_split_first is_blank text 0 (ltb-true (position_or_len is_blank text) (length text) (sym e)))
    ∙ one_first (before_first is_blank text) (slice_split is_blank (after_first is_blank text)) (is_word (before_first is_blank text)) refl
split_blank text false e =
    let long : length text ≤ position_or_len is_blank text = ltb-false (position_or_len is_blank text) (length text) (sym e) in
    let none : slice_split is_blank text ≡ text ∷ [] = slice_split_none is_blank text (λ k d lt. fails_before_first is_blank text k d (omega (arith, lt, long))) in
    let front : before_first is_blank text ≡ text = take_all (position_or_len is_blank text) text long in
    let back : after_first is_blank text ≡ [] = drop_all (position_or_len is_blank text + 1) text (omega (arith, long)) in
    rw (none, front, back) (sym (append-nil (filter is_word (text ∷ []))))

pub more_words : (text part after : List ℕ) → part ≡ before_first is_blank text → after ≡ after_first is_blank text
    → filter is_word (slice_split is_blank text) ≡ filter is_word (part ∷ []) ++ filter is_word (slice_split is_blank after)
more_words text part after e f = rw (e, f) (split_blank text (ltb (position_or_len is_blank text) (length text)) refl)

-- a word is taken
pub word_taken : (whole words : List (List ℕ)) (text part after : List ℕ) → part ≡ before_first is_blank text → after ≡ after_first is_blank text → 0 < length part
    → words ++ filter is_word (slice_split is_blank text) ≡ whole → (words ++ part ∷ []) ++ filter is_word (slice_split is_blank after) ≡ whole
word_taken whole words text part after e f some h =
    let one : filter is_word (part ∷ []) ≡ part ∷ [] = filter_word part [] (lt-ltb 0 (length part) some) in
    append_assoc words (part ∷ []) (filter is_word (slice_split is_blank after))
    ∙ ap (λ (t : List (List ℕ)). words ++ (t ++ filter is_word (slice_split is_blank after))) (sym one)
    ∙ ap (λ (t : List (List ℕ)). words ++ t) (sym (more_words text part after e f))
    ∙ h

pub all_taken : (whole words : List (List ℕ)) (text : List ℕ) → length text ≡ 0 → words ++ filter is_word (slice_split is_blank text) ≡ whole → words ≡ whole
all_taken whole words [] e h = sym (append-nil words) ∙ h
all_taken whole words (b ∷ bs) e h = absurd (omega arith)

pub shorter : (text after : List ℕ) → 0 < length text → after ≡ after_first is_blank text → length after < length text
shorter text after some e = rw (e, length-drop) (omega arith)

-- the words that were taken from a line whose rest is empty
pub words_dropped : (line : List ℕ) (words : List (List ℕ)) → words ≡ filter is_word (slice_split is_blank line) → is_comment words ≡ true → [] ≡ words_of line
unfolding words_of
words_dropped line words f h = dropped (slice_split is_blank line) (subst (λ (ws : List (List ℕ)). is_comment ws ≡ true) f h)

pub words_kept : (line : List ℕ) (words : List (List ℕ)) → words ≡ filter is_word (slice_split is_blank line) → is_comment words ≡ false → words ≡ words_of line
unfolding words_of
words_kept line words f h = f ∙ kept (slice_split is_blank line) (subst (λ (ws : List (List ℕ)). is_comment ws ≡ false) f h)
