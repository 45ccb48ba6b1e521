-- The values of a line are taken word by word, along the fields of its row.
use Rattle.std.proofs.Common.{◌≡◌, ℕ, zero, suc, ◌+◌, ◌-◌, ◌<◌, ◌≤◌, Bool, true, false, eqb, List, [], ◌∷◌, ◌++◌, length, take, take_all, drop, get_or, max, min, replicate, Option, Some, None, Result, IfOk, Bor, refl, sym, ap, subst, ◌∙◌, arith, append_assoc, append-nil, add-one, drop-cons}
use Rattle.std.specs.Option.{option_map}
use Rattle.std.proofs.lemmas.List.{drop_all, length-map}
use Rattle.std.proofs.lemmas.Bool.{ne_eqb, eq-eqb, eqb-true, eqb-false, false≢true}
use Rattle.cx_text.specs.declared.form.Field.{Field}
use Rattle.cx_text.specs.declared.form.Field.TheVariants as fields
use Rattle.cx_text.specs.declared.form.Sort.{Sort}
use Rattle.cx_text.specs.Words.{Value, value_of, values_of, with_value, spread, has_literals}
use Rattle.cx_text.specs.Views.{now_all, said_if}

-- ---- words at one field

abbrev pub each_of : List ℕ → Field → List (Bor (List ℕ)) → Option (List Value)
each_of own f ws = values_of 1 own (replicate (length ws) f) (now_all ws)

front : (bs : List Value) (v : Value) (o : Option (List Value)) → option_map (λ vs. (bs ++ v ∷ []) ++ vs) o ≡ option_map (λ vs. bs ++ vs) (with_value (Some v) o)
front bs v None = refl
front bs v (Some vs) = ap Some (append_assoc bs (v ∷ []) vs)

with_none : (o : Option Value) → with_value o None ≡ None
with_none None = refl
with_none (Some v) = refl

each_first : (own : List ℕ) (f : Field) (w : Bor (List ℕ)) (ws : List (Bor (List ℕ))) → each_of own f (w ∷ ws) ≡ with_value (value_of 1 own f w.now) (each_of own f ws)
unfolding values_of
each_first own f w ws = refl

at_drop : (own : List ℕ) (f : Field) (ws : List (Bor (List ℕ))) (i : ℕ) (d : Bor (List ℕ)) → i < length ws
    → each_of own f (drop i ws) ≡ with_value (value_of 1 own f (get_or ws i d).now) (each_of own f (drop (i + 1) ws))
at_drop own f ws i d lt =
    ap (each_of own f) (drop-cons ws i d lt) ∙ each_first own f (get_or ws i d) (drop (suc i) ws)
    ∙ ap (λ (k : ℕ). with_value (value_of 1 own f (get_or ws i d).now) (each_of own f (drop k ws))) (sym (add-one i))

pub each_more : (own : List ℕ) (f : Field) (ws : List (Bor (List ℕ))) (i : ℕ) (d : Bor (List ℕ)) (bs : List Value) (v : Value) (whole : Option (List Value)) → i < length ws
    → value_of 1 own f (get_or ws i d).now ≡ Some v → option_map (λ vs. bs ++ vs) (each_of own f (drop i ws)) ≡ whole
    → option_map (λ vs. (bs ++ v ∷ []) ++ vs) (each_of own f (drop (i + 1) ws)) ≡ whole
each_more own f ws i d bs v whole lt e h =
    front bs v (each_of own f (drop (i + 1) ws))
    ∙ ap (λ (o : Option Value). option_map (λ vs. bs ++ vs) (with_value o (each_of own f (drop (i + 1) ws)))) (sym e)
    ∙ ap (option_map (λ vs. bs ++ vs)) (sym (at_drop own f ws i d lt))
    ∙ h

pub each_stops : (own : List ℕ) (f : Field) (ws : List (Bor (List ℕ))) (i : ℕ) (d : Bor (List ℕ)) (bs : List Value) (whole : Option (List Value)) → i < length ws
    → value_of 1 own f (get_or ws i d).now ≡ None → option_map (λ vs. bs ++ vs) (each_of own f (drop i ws)) ≡ whole → whole ≡ None
each_stops own f ws i d bs whole lt e h =
    sym h ∙ ap (option_map (λ vs. bs ++ vs)) (at_drop own f ws i d lt) ∙ ap (λ (o : Option Value). option_map (λ vs. bs ++ vs) (with_value o (each_of own f (drop (i + 1) ws)))) e

pub each_ends : (own : List ℕ) (f : Field) (ws : List (Bor (List ℕ))) (i : ℕ) (bs : List Value) (whole : Option (List Value)) → length ws ≤ i
    → option_map (λ vs. bs ++ vs) (each_of own f (drop i ws)) ≡ whole → whole ≡ Some bs
unfolding values_of
each_ends own f ws i bs whole le h =
    sym h ∙ ap (λ (t : List (Bor (List ℕ))). option_map (λ vs. bs ++ vs) (each_of own f t)) (drop_all i ws le) ∙ ap Some (append-nil bs)

-- ---- as many words as fields

short : (own : List ℕ) (f : Field) (k : ℕ) (ws : List (List ℕ)) → (k ≡ length ws → ⊥) → values_of 1 own (replicate k f) ws ≡ None
unfolding values_of
short own f zero [] h = absurd (h refl)
short own f zero (w ∷ ws) h = refl
short own f (suc k) [] h = refl
short own f (suc k) (w ∷ ws) h = rw (short own f k ws (λ e. h (ap suc e))) (with_none (value_of 1 own f w))

same_test : (a b : ℕ) (t : Bool) → eqb a b ≡ t → eqb (suc a) (suc b) ≡ t
same_test a b true e = eq-eqb (suc a) (suc b) (ap suc (eqb-true a b e))
same_test a b false e = ne_eqb (suc a) (suc b) (λ q. eqb-false a b e (omega (arith, q)))

each_literal : (sort : Sort) (k : ℕ) (ws : List (List ℕ)) → has_literals (replicate k (fields.Each sort)) ws ≡ eqb k (length ws)
each_literal sort zero [] = refl
each_literal sort zero (w ∷ ws) = sym (ne_eqb 0 (suc (length ws)) (λ e. omega arith))
each_literal sort (suc k) [] = sym (ne_eqb (suc k) 0 (λ e. omega arith))
each_literal sort (suc k) (w ∷ ws) = each_literal sort k ws ∙ sym (same_test k (length ws) (eqb k (length ws)) refl)

several : (f : Field) (fs : List Field) (n : ℕ) (sort : Sort) (least most : ℕ) → f ≡ fields.Several sort least most → spread (f ∷ fs) n ≡ replicate (max least (min n most)) (fields.Each sort)
several f fs n sort least most e = ap (λ (g : Field). spread (g ∷ fs) n) e

pub several_literals : (fs : List Field) (ws : List (Bor (List ℕ))) (sort : Sort) (least most : ℕ) (d : Field) (b : Bool) → 0 < length fs → get_or fs 0 d ≡ fields.Several sort least most
    → b ≡ eqb (max least (min (length ws) most)) (length ws) → b ≡ has_literals (spread fs (length ws)) (now_all ws)
several_literals [] ws sort least most d b some e h = absurd (omega arith)
several_literals (f ∷ fs) ws sort least most d b some e h =
    h ∙ ap (eqb (max least (min (length ws) most))) (sym (length-map ws (λ (w : Bor (List ℕ)). w.now)))
    ∙ sym (each_literal sort (max least (min (length ws) most)) (now_all ws))
    ∙ ap (λ (t : List Field). has_literals t (now_all ws)) (sym (several f fs (length ws) sort least most e))

-- ---- a row's fields, one after the other

pub nothing_left : (own : List ℕ) (fs : List Field) (ws : List (Bor (List ℕ))) (bs : List Value) (b : Bool) → length fs < 1 → b ≡ eqb (length ws) 0
    → option_map (λ vs. bs ++ vs) (values_of 1 own (spread fs (length ws)) (now_all ws)) ≡ said_if b bs
unfolding values_of
nothing_left own [] [] bs b none e = rw e (ap Some (append-nil bs))
nothing_left own [] (w ∷ ws) bs b none e = rw (e, ne_eqb (suc (length ws)) 0 (λ q. omega arith)) refl
nothing_left own (f ∷ fs) ws bs b none e = absurd (omega arith)

pub several_short : (own : List ℕ) (fs : List Field) (ws : List (Bor (List ℕ))) (sort : Sort) (least most : ℕ) (d : Field) (bs : List Value) → 0 < length fs
    → get_or fs 0 d ≡ fields.Several sort least most → eqb (max least (min (length ws) most)) (length ws) ≡ false
    → option_map (λ vs. bs ++ vs) (values_of 1 own (spread fs (length ws)) (now_all ws)) ≡ None
several_short own [] ws sort least most d bs some e h = absurd (omega arith)
several_short own (f ∷ fs) ws sort least most d bs some e h =
    ap (λ (t : List Field). option_map (λ vs. bs ++ vs) (values_of 1 own t (now_all ws))) (several f fs (length ws) sort least most e)
    ∙ ap (option_map (λ vs. bs ++ vs)) (short own (fields.Each sort) (max least (min (length ws) most)) (now_all ws) (λ q. eqb-false (max least (min (length ws) most)) (length ws) h (q ∙ length-map ws (λ (w : Bor (List ℕ)). w.now))))

pub several_taken : (own : List ℕ) (fs : List Field) (ws : List (Bor (List ℕ))) (sort : Sort) (least most : ℕ) (d : Field) → 0 < length fs
    → get_or fs 0 d ≡ fields.Several sort least most → eqb (max least (min (length ws) most)) (length ws) ≡ true
    → values_of 1 own (spread fs (length ws)) (now_all ws) ≡ each_of own (fields.Each sort) ws
several_taken own [] ws sort least most d some e h = absurd (omega arith)
several_taken own (f ∷ fs) ws sort least most d some e h =
    ap (λ (t : List Field). values_of 1 own t (now_all ws)) (several f fs (length ws) sort least most e)
    ∙ ap (λ (n : ℕ). values_of 1 own (replicate n (fields.Each sort)) (now_all ws)) (eqb-true (max least (min (length ws) most)) (length ws) h)

-- a field for one word
abbrev pub is_single : Field → Bool
is_single (fields.Several sort least most) = false
is_single _ = true

single : (f : Field) (fs : List Field) (n : ℕ) → is_single f ≡ true → spread (f ∷ fs) n ≡ f ∷ spread fs (n - 1)
single fields.New fs n e = refl
single fields.Own fs n e = refl
single (fields.Name sort) fs n e = refl
single (fields.Each sort) fs n e = refl
single (fields.Several sort least most) fs n e = absurd (false≢true e)
single (fields.Word literal) fs n e = refl
single fields.Policy fs n e = refl
single fields.Relation fs n e = refl
single (fields.Number low high) fs n e = refl
single fields.Signed fs n e = refl
single fields.Index fs n e = refl
single fields.UpToNext fs n e = refl

pub not_several : (f : Field) → ((sort : Sort) (least most : ℕ) → f ≡ fields.Several sort least most → ⊥) → is_single f ≡ true
not_several fields.New h = refl
not_several fields.Own h = refl
not_several (fields.Name sort) h = refl
not_several (fields.Each sort) h = refl
not_several (fields.Several sort least most) h = absurd (h sort least most refl)
not_several (fields.Word literal) h = refl
not_several fields.Policy h = refl
not_several fields.Relation h = refl
not_several (fields.Number low high) h = refl
not_several fields.Signed h = refl
not_several fields.Index h = refl
not_several fields.UpToNext h = refl

pub no_word : (own : List ℕ) (fs : List Field) (ws : List (Bor (List ℕ))) (d : Field) (bs : List Value) → 0 < length fs → is_single (get_or fs 0 d) ≡ true → length ws < 1
    → option_map (λ vs. bs ++ vs) (values_of 1 own (spread fs (length ws)) (now_all ws)) ≡ None
unfolding values_of
no_word own [] ws d bs some e none = absurd (omega arith)
no_word own (f ∷ fs) [] d bs some e none = ap (λ (t : List Field). option_map (λ vs. bs ++ vs) (values_of 1 own t [])) (single f fs 0 e)
no_word own (f ∷ fs) (w ∷ ws) d bs some e none = absurd (omega arith)

one_word : (own : List ℕ) (f : Field) (fs : List Field) (w : Bor (List ℕ)) (ws : List (Bor (List ℕ))) → is_single f ≡ true
    → values_of 1 own (spread (f ∷ fs) (length (w ∷ ws))) (now_all (w ∷ ws)) ≡ with_value (value_of 1 own f w.now) (values_of 1 own (spread fs (length ws)) (now_all ws))
unfolding values_of
one_word own f fs w ws e =
    let less : suc (length ws) - 1 ≡ length ws = omega arith in
    ap (λ (t : List Field). values_of 1 own t (now_all (w ∷ ws))) (single f fs (suc (length ws)) e)
    ∙ ap (λ (n : ℕ). with_value (value_of 1 own f w.now) (values_of 1 own (spread fs n) (now_all ws))) less

pub word_stops : (own : List ℕ) (fs : List Field) (ws : List (Bor (List ℕ))) (d : Field) (x : Bor (List ℕ)) (bs : List Value) → 0 < length fs → is_single (get_or fs 0 d) ≡ true
    → 0 < length ws → value_of 1 own (get_or fs 0 d) (get_or ws 0 x).now ≡ None → option_map (λ vs. bs ++ vs) (values_of 1 own (spread fs (length ws)) (now_all ws)) ≡ None
word_stops own [] ws d x bs some e more h = absurd (omega arith)
word_stops own (f ∷ fs) [] d x bs some e more h = absurd (omega arith)
word_stops own (f ∷ fs) (w ∷ ws) d x bs some e more h =
    ap (option_map (λ vs. bs ++ vs)) (one_word own f fs w ws e)
    ∙ ap (λ (o : Option Value). option_map (λ vs. bs ++ vs) (with_value o (values_of 1 own (spread fs (length ws)) (now_all ws)))) h

pub word_taken : (own : List ℕ) (fs : List Field) (ws : List (Bor (List ℕ))) (d : Field) (x : Bor (List ℕ)) (bs : List Value) (v : Value) → 0 < length fs → is_single (get_or fs 0 d) ≡ true
    → 0 < length ws → value_of 1 own (get_or fs 0 d) (get_or ws 0 x).now ≡ Some v
    → option_map (λ vs. bs ++ vs) (values_of 1 own (spread fs (length ws)) (now_all ws))
    ≡ option_map (λ vs. (bs ++ v ∷ []) ++ vs) (values_of 1 own (spread (drop 1 fs) (length (drop 1 ws))) (now_all (drop 1 ws)))
word_taken own [] ws d x bs v some e more h = absurd (omega arith)
word_taken own (f ∷ fs) [] d x bs v some e more h = absurd (omega arith)
word_taken own (f ∷ fs) (w ∷ ws) d x bs v some e more h =
    ap (option_map (λ vs. bs ++ vs)) (one_word own f fs w ws e)
    ∙ ap (λ (o : Option Value). option_map (λ vs. bs ++ vs) (with_value o (values_of 1 own (spread fs (length ws)) (now_all ws)))) h
    ∙ sym (front bs v (values_of 1 own (spread fs (length ws)) (now_all ws)))

-- a slice after its first element
pub after_first : {A : Type 0} (xs : List A) → 0 < length xs → take (length xs - 1) (drop 1 xs) ≡ drop 1 xs
after_first [] some = absurd (omega arith)
after_first (x ∷ xs) some = take_all (suc (length xs) - 1) xs (omega arith)

-- the words after the first are taken after it
pub word_more : {E : Type 0} (own : List ℕ) (fs : List Field) (ws : List (Bor (List ℕ))) (d : Field) (x : Bor (List ℕ)) (bs cs : List Value) (v : Value) (r : Result Bool E) (new : List Value)
    (others : List Field) (after : List (Bor (List ℕ))) → others ≡ drop 1 fs → after ≡ drop 1 ws
    → 0 < length fs → is_single (get_or fs 0 d) ≡ true → 0 < length ws → value_of 1 own (get_or fs 0 d) (get_or ws 0 x).now ≡ Some v → cs ≡ bs ++ v ∷ []
    → IfOk r (λ all. option_map (λ vs. cs ++ vs) (values_of 1 own (spread others (length after)) (now_all after)) ≡ said_if all new)
    → IfOk r (λ all. option_map (λ vs. bs ++ vs) (values_of 1 own (spread fs (length ws)) (now_all ws)) ≡ said_if all new)
word_more own fs ws d x bs cs v r new others after a b some e more h push took =
    let one : option_map (λ vs. cs ++ vs) (values_of 1 own (spread others (length after)) (now_all after)) ≡ option_map (λ vs. bs ++ vs) (values_of 1 own (spread fs (length ws)) (now_all ws)) =
    ap (λ (t : List Field). option_map (λ vs. cs ++ vs) (values_of 1 own (spread t (length after)) (now_all after))) a
    ∙ ap (λ (t : List (Bor (List ℕ))). option_map (λ vs. cs ++ vs) (values_of 1 own (spread (drop 1 fs) (length t)) (now_all t))) b
    ∙ ap (λ (t : List Value). option_map (λ vs. t ++ vs) (values_of 1 own (spread (drop 1 fs) (length (drop 1 ws))) (now_all (drop 1 ws)))) push ∙ sym (word_taken own fs ws d x bs v some e more h) in
    subst (λ (o : Option (List Value)). IfOk r (λ all. o ≡ said_if all new)) one took
