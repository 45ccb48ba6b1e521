-- The parts of what is kept, one line further.
use Rattle.std.proofs.Common.{◌≡◌, ℕ, suc, ◌+◌, ◌<◌, ◌≤◌, inl, inr, Bool, true, false, cond, ◌&&◌, ◌||◌, not, List, [], ◌∷◌, ◌++◌, length, map, filter, refl, sym, ap, ◌∙◌, arith, add-zero, get_or-set_same, get_or-set_other, length-set, length-append, ◌⊎◌}
use Rattle.std.specs.Prelude.{nat_lt, slice_index, slice_set}
use Rattle.std.specs.List.{list_any}
use Rattle.std.specs.Str.{bytes_eq}
use Rattle.std.proofs.lemmas.Bool.{true≢false, ltb-true, ltb-false, cases_eq, false_from_ne_true, or_parts, cond-true, cond-false}
use Rattle.std.proofs.lemmas.Slice.Eq.{bytes_eq-Decides}
use Rattle.cx_text.specs.declared.form.Form.{Form}
use Rattle.cx_text.specs.declared.form.Form.TheVariants as forms
use Rattle.cx_text.specs.Words.{Filled, Value, is_one_of}
use Rattle.cx_script.specs.Earlier.{Part, AVersion, ADeclaration, ABody, AMain, ACall, AnEnd, part_of, is_call, begins_body, from_last_body, this_body, this_thread, subject}
use Rattle.cx_script.specs.Faults.{is_line, is_register, is_join, is_plain_thread, has_unjoined, taken, takes, count_in}
use Rattle.cx_script.specs.Script.{place_in}
use Rattle.cx_script.proofs.Steps.{any_more, filter_more, body_begins, body_goes_on}
use Rattle.cx_scenario.specs.Steps.{TakingsState, taken_in, added, takings_with, is_taking, begun_name, without}

-- ---- bytes

pub same_bytes : (u w : List ℕ) → bytes_eq u w ≡ true → u ≡ w
same_bytes u w h = (bytes_eq-Decides u w).0 h

pub bytes_same : (u : List ℕ) → bytes_eq u u ≡ true
bytes_same u = (bytes_eq-Decides u u).1 refl

swap_at : (u w : List ℕ) (b c : Bool) → bytes_eq u w ≡ b → bytes_eq w u ≡ c → b ≡ c
swap_at u w true true p q = refl
swap_at u w false false p q = refl
swap_at u w true false p q = absurd (true≢false (sym (ap (λ (x : List ℕ). bytes_eq x u) (sym (same_bytes u w p)) ∙ bytes_same u) ∙ q))
swap_at u w false true p q = absurd (true≢false (sym (ap (λ (x : List ℕ). bytes_eq x w) (sym (same_bytes w u q)) ∙ bytes_same w) ∙ p))

pub bytes_swap : (u w : List ℕ) → bytes_eq u w ≡ bytes_eq w u
bytes_swap u w = swap_at u w (bytes_eq u w) (bytes_eq w u) refl refl

-- ---- what is taken from latches

same_place : (ns : List (List ℕ)) (n name : List ℕ) → place_in ns name ≡ place_in ns n → place_in ns n < length ns → bytes_eq n name ≡ true
same_place [] n name e h = absurd (omega arith)
same_place (m ∷ ns) n name e h = at (λ k j. same_place ns n name k j) (bytes_eq m n) (bytes_eq m name) refl refl
  where
    at : (place_in ns name ≡ place_in ns n → place_in ns n < length ns → bytes_eq n name ≡ true) → (b c : Bool) → bytes_eq m n ≡ b → bytes_eq m name ≡ c → bytes_eq n name ≡ true
    at later true true p q = rw (sym (same_bytes m n p), sym (same_bytes m name q)) (bytes_same m)
    at later true false p q = absurd (let z : suc (place_in ns name) ≡ 0 = rw (p, q) at e in omega arith)
    at later false true p q = absurd (let z : 0 ≡ suc (place_in ns n) = rw (p, q) at e in omega arith)
    at later false false p q =
        let z : suc (place_in ns name) ≡ suc (place_in ns n) = rw (p, q) at e in
        let k : suc (place_in ns n) < suc (length ns) = rw p at h in
        later (omega arith) (omega arith)

-- k more where the name is there
set_at : (ns : List (List ℕ)) (cs : List ℕ) (n name : List ℕ) (k : ℕ) → length ns ≡ length cs → place_in ns n < length cs
    → slice_index (slice_set cs (place_in ns n) (slice_index cs (place_in ns n) + k)) (place_in ns name) ≡ slice_index cs (place_in ns name) + cond (bytes_eq n name) k 0
set_at ns cs n name k same lt = at (cases_eq (place_in ns name) (place_in ns n))
  where
    at : (place_in ns name ≡ place_in ns n) ⊎ (place_in ns name ≡ place_in ns n → ⊥) → slice_index (slice_set cs (place_in ns n) (slice_index cs (place_in ns n) + k)) (place_in ns name) ≡ slice_index cs (place_in ns name) + cond (bytes_eq n name) k 0
    at (inl e) = rw (e, same_place ns n name e (omega arith)) (get_or-set_same cs (place_in ns n) (slice_index cs (place_in ns n) + k) 0 lt)
    at (inr e) =
        let no : bytes_eq n name ≡ false = false_from_ne_true (bytes_eq n name) (λ t. e (ap (place_in ns) (sym (same_bytes n name t)))) in
        rw (no, add-zero) (get_or-set_other cs (place_in ns n) (place_in ns name) (slice_index cs (place_in ns n) + k) 0 e)

-- the first k where it is not
put_at : (ns : List (List ℕ)) (cs : List ℕ) (n name : List ℕ) (k : ℕ) → length ns ≡ length cs → length cs ≤ place_in ns n
    → slice_index (cs ++ k ∷ []) (place_in (ns ++ n ∷ []) name) ≡ slice_index cs (place_in ns name) + cond (bytes_eq n name) k 0
put_at [] [] n name k same le = elim (bytes_eq n name) as (λ b. slice_index (k ∷ []) (cond b 0 1) ≡ 0 + cond b k 0) [ true ↦ omega arith | false ↦ refl ]
put_at [] (c ∷ cs) n name k same le = absurd (omega arith)
put_at (m ∷ ns) [] n name k same le = absurd (omega arith)
put_at (m ∷ ns) (c ∷ cs) n name k same le = at (λ i j. put_at ns cs n name k i j) (bytes_eq m n) (bytes_eq m name) refl refl
  where
    at : (length ns ≡ length cs → length cs ≤ place_in ns n → slice_index (cs ++ k ∷ []) (place_in (ns ++ n ∷ []) name) ≡ slice_index cs (place_in ns name) + cond (bytes_eq n name) k 0) → (b d : Bool) → bytes_eq m n ≡ b → bytes_eq m name ≡ d → slice_index ((c ∷ cs) ++ k ∷ []) (place_in ((m ∷ ns) ++ n ∷ []) name) ≡ slice_index (c ∷ cs) (place_in (m ∷ ns) name) + cond (bytes_eq n name) k 0
    at later true d p q = absurd (let z : suc (length cs) ≤ 0 = rw p at le in omega arith)
    at later false true p q =
        let no : bytes_eq n name ≡ false = ap (bytes_eq n) (sym (same_bytes m name q)) ∙ bytes_swap n m ∙ p in
        rw (q, no, add-zero) refl
    at later false false p q =
        let z : suc (length cs) ≤ suc (place_in ns n) = rw p at le in
        rw q (later (omega arith) (omega arith))

added_at : (ts : TakingsState) (n name : List ℕ) (k : ℕ) (b : Bool) → nat_lt (place_in ts.names n) (length ts.counts) ≡ b → length ts.names ≡ length ts.counts
    → taken_in (added ts n k) name ≡ taken_in ts name + cond (bytes_eq n name) k 0
added_at ts n name k true e same = rw e (set_at ts.names ts.counts n name k same (ltb-true (place_in ts.names n) (length ts.counts) e))
added_at ts n name k false e same = rw e (put_at ts.names ts.counts n name k same (ltb-false (place_in ts.names n) (length ts.counts) e))

longer_at : (ts : TakingsState) (n : List ℕ) (k : ℕ) (b : Bool) → nat_lt (place_in ts.names n) (length ts.counts) ≡ b → length ts.names ≡ length ts.counts
    → length (added ts n k).names ≡ length (added ts n k).counts
longer_at ts n k true e same = rw e (same ∙ sym (length-set ts.counts (place_in ts.names n) (slice_index ts.counts (place_in ts.names n) + k)))
longer_at ts n k false e same = rw (e, length-append ts.names (n ∷ []), length-append ts.counts (k ∷ [])) (ap (λ (m : ℕ). m + 1) same)

pub lengths_next : (ts : TakingsState) (l : Filled) → length ts.names ≡ length ts.counts → length (takings_with ts l).names ≡ length (takings_with ts l).counts
lengths_next ts l same = at (is_taking l.form) refl
  where
    at : (b : Bool) → is_taking l.form ≡ b → length (takings_with ts l).names ≡ length (takings_with ts l).counts
    at true e = rw e (longer_at ts (subject l) (count_in (takes l)) (nat_lt (place_in ts.names (subject l)) (length ts.counts)) refl same)
    at false e = rw e same

taking_call : (f : Form) (vs : List Value) → is_taking f ≡ true → is_call (record { form = f; values = vs }) ≡ true
taking_call forms.CountDown vs h = refl
taking_call forms.ArriveAndWait vs h = refl
taking_call _ vs h = absurd (true≢false (sym h))

takes_none : (f : Form) (vs : List Value) → is_taking f ≡ false → count_in (takes (record { form = f; values = vs })) ≡ 0
takes_none forms.CountDown vs h = absurd (true≢false h)
takes_none forms.ArriveAndWait vs h = absurd (true≢false h)
takes_none _ vs h = refl

pub taken_next : (ts : TakingsState) (l : Filled) (name : List ℕ) → length ts.names ≡ length ts.counts → taken_in (takings_with ts l) name ≡ taken_in ts name + taken name (l ∷ [])
taken_next ts l name same = at (is_taking l.form) refl
  where
    at : (b : Bool) → is_taking l.form ≡ b → taken_in (takings_with ts l) name ≡ taken_in ts name + taken name (l ∷ [])
    at true e = rw (e, taking_call l.form l.values e) (added_at ts (subject l) name (count_in (takes l)) (nat_lt (place_in ts.names (subject l)) (length ts.counts)) refl same ∙ ap (λ (m : ℕ). taken_in ts name + m) (sym (add-zero (cond (bytes_eq (subject l) name) (count_in (takes l)) 0))))
    at false e = rw (e, takes_none l.form l.values e) (elim (is_call l && bytes_eq (subject l) name) as (λ b. taken_in ts name ≡ taken_in ts name + (cond b 0 0 + 0)) [ true ↦ omega arith | false ↦ omega arith ])

-- ---- who is registered in a body, and who is not joined

abbrev pub registers : Filled → Bool
registers l = is_register l.form

pub registered_is : (ls : List Filled) (name : List ℕ) → is_one_of (map subject (filter registers ls)) name ≡ list_any (is_line is_register name) ls
registered_is [] name = refl
registered_is (l ∷ ls) name = elim (is_register l.form) as (λ b. is_one_of (map subject (cond b (l ∷ filter registers ls) (filter registers ls))) name ≡ ((b && bytes_eq (subject l) name) || list_any (is_line is_register name) ls)) [
  | true ↦ ap (λ (b : Bool). bytes_eq (subject l) name || b) (registered_is ls name)
  | false ↦ registered_is ls name
]

-- the threads that lines start and do not join, behind some others
abbrev pub one_more : List (List ℕ) → Form → List ℕ → List (List ℕ)
one_more names forms.Start name = names ++ name ∷ []
one_more names forms.Join name = without names name
one_more names _ name = names

abbrev pub unjoined_from : List (List ℕ) → List Filled → List (List ℕ)
unjoined_from names [] = names
unjoined_from names (l ∷ ls) = unjoined_from (one_more names l.form (subject l)) ls

pub unjoined_more : (names : List (List ℕ)) (ls : List Filled) (l : Filled) → unjoined_from names (ls ++ l ∷ []) ≡ one_more (unjoined_from names ls) l.form (subject l)
unjoined_more names [] l = refl
unjoined_more names (m ∷ ls) l = unjoined_more (one_more names m.form (subject m)) ls l

any_pointwise : (f g : List ℕ → Bool) → ((w : List ℕ) → f w ≡ g w) → (ws : List (List ℕ)) → list_any f ws ≡ list_any g ws
any_pointwise f g h [] = refl
any_pointwise f g h (w ∷ ws) = ap (λ (b : Bool). b || list_any f ws) (h w) ∙ ap (λ (b : Bool). g w || b) (any_pointwise f g h ws)

any_end : (f : List ℕ → Bool) (ws : List (List ℕ)) (w : List ℕ) → list_any f (ws ++ w ∷ []) ≡ (list_any f ws || f w)
any_end f [] w = elim (f w) as (λ b. (b || false) ≡ b) [ true ↦ refl | false ↦ refl ]
any_end f (x ∷ ws) w = elim (f x) as (λ b. (b || list_any f (ws ++ w ∷ [])) ≡ ((b || list_any f ws) || f w)) [ true ↦ refl | false ↦ any_end f ws w ]

and_true : (b : Bool) → (b && true) ≡ b
and_true true = refl
and_true false = refl

or_regroup : (a b c : Bool) → ((a || b) || c) ≡ (a || (b || c))
or_regroup true b c = refl
or_regroup false b c = refl

-- a name that is plain and that no line joins
abbrev pub lasts : (List ℕ → Bool) → List Filled → List ℕ → Bool
lasts plain ls n = plain n && not (list_any (is_line is_join n) ls)

and_false : (b : Bool) → (b && false) ≡ false
and_false true = refl
and_false false = refl

or_false : (b : Bool) → (b || false) ≡ b
or_false true = refl
or_false false = refl

-- without a name, for a test that fails on it
any_without : (p q : List ℕ → Bool) (s : List ℕ) → ((w : List ℕ) → bytes_eq s w ≡ true → p w ≡ false) → ((w : List ℕ) → bytes_eq s w ≡ false → p w ≡ q w) → (ws : List (List ℕ)) → list_any q (without ws s) ≡ list_any p ws
any_without p q s h k [] = refl
any_without p q s h k (w ∷ ws) = at (any_without p q s h k ws) (bytes_eq s w) refl
  where
    at : list_any q (without ws s) ≡ list_any p ws → (b : Bool) → bytes_eq s w ≡ b → list_any q (without (w ∷ ws) s) ≡ list_any p (w ∷ ws)
    at later true e = rw (bytes_swap w s ∙ e, h w e) later
    at later false e = rw (bytes_swap w s ∙ e, k w e) (ap (λ (b : Bool). q w || b) later)

joined_out : (e : List Filled) (vs : List Value) (ls : List Filled) (w : List ℕ) → bytes_eq (subject (record { form = forms.Join; values = vs })) w ≡ true → lasts (is_plain_thread e) (record { form = forms.Join; values = vs } ∷ ls) w ≡ false
joined_out e vs ls w h = rw h (and_false (is_plain_thread e w))

joined_in : (e : List Filled) (vs : List Value) (ls : List Filled) (w : List ℕ) → bytes_eq (subject (record { form = forms.Join; values = vs })) w ≡ false → lasts (is_plain_thread e) (record { form = forms.Join; values = vs } ∷ ls) w ≡ lasts (is_plain_thread e) ls w
joined_in e vs ls w h = rw h refl

unjoined_step : (e : List Filled) (f : Form) (vs : List Value) (ls : List Filled)
    → ((names : List (List ℕ)) → list_any (is_plain_thread e) (unjoined_from names ls) ≡ (list_any (lasts (is_plain_thread e) ls) names || has_unjoined e ls))
    → (names : List (List ℕ)) → list_any (is_plain_thread e) (unjoined_from names (record { form = f; values = vs } ∷ ls)) ≡ (list_any (lasts (is_plain_thread e) (record { form = f; values = vs } ∷ ls)) names || has_unjoined e (record { form = f; values = vs } ∷ ls))
unjoined_step e forms.Start vs ls later names =
    let s : List ℕ = subject (record { form = forms.Start; values = vs }) in
    later (names ++ s ∷ [])
    ∙ ap (λ (b : Bool). b || has_unjoined e ls) (any_end (lasts (is_plain_thread e) ls) names s)
    ∙ or_regroup (list_any (lasts (is_plain_thread e) ls) names) (lasts (is_plain_thread e) ls s) (has_unjoined e ls)
unjoined_step e forms.Join vs ls later names =
    let s : List ℕ = subject (record { form = forms.Join; values = vs }) in
    later (without names s)
    ∙ ap (λ (b : Bool). b || has_unjoined e ls) (any_without (lasts (is_plain_thread e) (record { form = forms.Join; values = vs } ∷ ls)) (lasts (is_plain_thread e) ls) s (joined_out e vs ls) (joined_in e vs ls) names)
unjoined_step e _ vs ls later names = later names

unjoined_all : (e ls : List Filled) (names : List (List ℕ)) → list_any (is_plain_thread e) (unjoined_from names ls) ≡ (list_any (lasts (is_plain_thread e) ls) names || has_unjoined e ls)
unjoined_all e [] names = any_pointwise (is_plain_thread e) (lasts (is_plain_thread e) []) (λ w. sym (and_true (is_plain_thread e w))) names ∙ sym (or_false (list_any (lasts (is_plain_thread e) []) names))
unjoined_all e (l ∷ ls) names = unjoined_step e l.form l.values ls (λ ns. unjoined_all e ls ns) names

pub unjoined_is : (e ls : List Filled) → list_any (is_plain_thread e) (unjoined_from [] ls) ≡ has_unjoined e ls
unjoined_is e ls = unjoined_all e ls []

-- ---- the body, one line further

begin_at : (l : Filled) (p : Part) → part_of l.form ≡ p → begins_body l ≡ true → is_call l ≡ false
begin_at l AVersion e h = rw e refl
begin_at l ADeclaration e h = rw e refl
begin_at l ABody e h = rw e refl
begin_at l AMain e h = rw e refl
begin_at l ACall e h = absurd (let z : false ≡ true = rw e at h in true≢false (sym z))
begin_at l AnEnd e h = rw e refl

pub begin_no_call : (l : Filled) → begins_body l ≡ true → is_call l ≡ false
begin_no_call l h = begin_at l (part_of l.form) refl h

none_begun : (e : List Filled) → list_any begins_body e ≡ false → from_last_body e ≡ []
none_begun [] h = refl
none_begun (a ∷ e) h = let p = or_parts (begins_body a) (list_any begins_body e) h in rw (p.1, p.0) refl

-- what the last body begins with
record Begun (e : List Filled) : Type 0 where
  first : Filled
  rest : List Filled
  is : from_last_body e ≡ first ∷ rest

some_begun : (e : List Filled) → list_any begins_body e ≡ true → Begun e
some_begun [] h = absurd (true≢false (sym h))
some_begun (a ∷ e) h = at (λ q. some_begun e q) (list_any begins_body e) refl
  where
    at : (list_any begins_body e ≡ true → Begun e) → (b : Bool) → list_any begins_body e ≡ b → Begun (a ∷ e)
    at later true q = let r = later q in record { first = r.first; rest = r.rest; is = rw q r.is }
    at later false q =
        let k : (begins_body a || false) ≡ true = rw q at h in
        let p : begins_body a ≡ true = sym (or_false (begins_body a)) ∙ k in
        record { first = a; rest = e; is = rw (q, p) refl }

-- a call stands in a body
abbrev pub StandsIn : List Filled → Filled → Type 0
StandsIn e l = is_call l ≡ true → list_any begins_body e ≡ true

pub thread_begins : (e : List Filled) (l : Filled) → begins_body l ≡ true → this_thread (e ++ l ∷ []) ≡ begun_name l
thread_begins e l h = rw (body_begins e l h) refl

pub thread_stays : (e : List Filled) (l : Filled) → begins_body l ≡ false → list_any begins_body e ≡ true → this_thread (e ++ l ∷ []) ≡ this_thread e
thread_stays e l h k = let r = some_begun e k in rw (body_goes_on e l h k, r.is) refl

none_more : (e : List Filled) (l : Filled) → begins_body l ≡ false → list_any begins_body e ≡ false → list_any begins_body (e ++ l ∷ []) ≡ false
none_more e l h k = any_more begins_body e l ∙ rw (h, k) refl

pub thread_none : (e : List Filled) (l : Filled) → begins_body l ≡ false → list_any begins_body e ≡ false → this_thread (e ++ l ∷ []) ≡ this_thread e
thread_none e l h k = rw (none_begun (e ++ l ∷ []) (none_more e l h k), none_begun e k) refl

pub thread_next : (e : List Filled) (l : Filled) → this_thread (e ++ l ∷ []) ≡ cond (begins_body l) (begun_name l) (this_thread e)
thread_next e l = at (begins_body l) (list_any begins_body e) refl refl
  where
    at : (b c : Bool) → begins_body l ≡ b → list_any begins_body e ≡ c → this_thread (e ++ l ∷ []) ≡ cond (begins_body l) (begun_name l) (this_thread e)
    at true c p q = thread_begins e l p ∙ sym (cond-true (begins_body l) (begun_name l) (this_thread e) p)
    at false true p q = thread_stays e l p q ∙ sym (cond-false (begins_body l) (begun_name l) (this_thread e) p)
    at false false p q = thread_none e l p q ∙ sym (cond-false (begins_body l) (begun_name l) (this_thread e) p)

pub body_next : (e : List Filled) (l : Filled) → StandsIn e l → this_body (e ++ l ∷ []) ≡ cond (begins_body l) [] (this_body e) ++ filter is_call (l ∷ [])
body_next e l stands = at (begins_body l) (list_any begins_body e) refl refl
  where
    at : (b c : Bool) → begins_body l ≡ b → list_any begins_body e ≡ c → this_body (e ++ l ∷ []) ≡ cond (begins_body l) [] (this_body e) ++ filter is_call (l ∷ [])
    at true c p q = rw (body_begins e l p, p) refl
    at false true p q = rw (body_goes_on e l p q, p) (filter_more is_call (from_last_body e) l)
    at false false p q =
        let no : is_call l ≡ false = false_from_ne_true (is_call l) (λ t. true≢false (sym (stands t) ∙ q)) in
        rw (none_begun (e ++ l ∷ []) (none_more e l p q), none_begun e q, p, no) refl
