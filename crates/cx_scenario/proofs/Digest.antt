-- What a reader keeps is a digest of the earlier lines.
use Rattle.std.proofs.Common.{◌≡◌, ℕ, ◌+◌, inl, inr, Bool, true, false, cond, ◌||◌, List, [], ◌∷◌, ◌++◌, length, map, filter, refl, sym, ap, subst, ◌∙◌, append_assoc, add-zero, length-append}
use Rattle.std.specs.List.{list_any}
use Rattle.std.proofs.lemmas.List.{append-nil, map-append}
use Rattle.std.proofs.lemmas.List.Elements.{filter-append}
use Rattle.std.proofs.lemmas.Bool.{cases_Bool, true≢false, or_left, or_right}
use Rattle.cx_text.specs.declared.form.Form.{Form}
use Rattle.cx_text.specs.declared.form.Form.TheVariants as forms
use Rattle.cx_text.specs.Words.{Filled, Value, main_word}
use Rattle.cx_script.specs.Earlier.{Part, AVersion, ADeclaration, ABody, AMain, ACall, AnEnd, part_of, Place, Opening, Declaring, Between, Inside, Over, place_after, may_stand, is_call, is_main, begins_body, this_body, this_thread, subject}
use Rattle.cx_script.specs.Faults.{counted, makes_thread, makes_object, makes_callback, taken, is_register, is_start}
use Rattle.cx_script.proofs.Steps.{any_more, filter_more, counted_more, taken_more}
use Rattle.cx_script.proofs.Shape.{next_place, place_next}
use Rattle.cx_scenario.specs.Seen.{declares_any}
use Rattle.cx_scenario.specs.Steps.{State, BodyState, is_body, is_launch, behind, with_name, counted_in, marked, body_with, begun_name, taken_in, state_with}
use Rattle.cx_scenario.proofs.Parts.{registers, one_more, unjoined_from, unjoined_more, StandsIn, thread_next, body_next, lengths_next, taken_next}

abbrev pub of_body : Filled → Bool
of_body l = is_body l.form

abbrev pub of_start : Filled → Bool
of_start l = is_start l.form

abbrev pub of_launch : Filled → Bool
of_launch l = is_launch l.form

pub record IsDigest (e : List Filled) (s : State) : Type 0 where
  pub place : s.place ≡ place_after e
  pub main : s.main ≡ list_any is_main e
  pub kept : s.kept ≡ filter declares_any e
  pub bodies : s.once.bodies ≡ map subject (filter of_body e)
  pub started : s.once.started ≡ map subject (filter of_start e)
  pub launched : s.once.launched ≡ map subject (filter of_launch e)
  pub registered_once : s.once.registered ≡ map subject (filter registers e)
  pub threads : s.names.threads ≡ main_word ∷ map subject (filter makes_thread e)
  pub objects : s.names.objects ≡ map subject (filter makes_object e)
  pub callbacks : s.names.callbacks ≡ map subject (filter makes_callback e)
  pub thread : s.body.thread ≡ this_thread e
  pub len : s.body.length ≡ length (this_body e)
  pub registered : s.body.registered ≡ map subject (filter registers (this_body e))
  pub unjoined : s.body.unjoined ≡ unjoined_from [] (this_body e)
  pub calls : s.calls ≡ counted is_call e
  pub paired : length s.takings.names ≡ length s.takings.counts
  pub taken : (name : List ℕ) → taken_in s.takings name ≡ taken name e
  pub inside : place_after e ≡ Inside → list_any begins_body e ≡ true

-- ---- lists, one line further

kept_more : (test : Filled → Bool) (xs e : List Filled) (l : Filled) → xs ≡ filter test e → cond (test l) (xs ++ l ∷ []) xs ≡ filter test (e ++ l ∷ [])
kept_more test xs e l h = rw (filter_more test e l) (elim (test l) as (λ b. cond b (xs ++ l ∷ []) xs ≡ filter test e ++ cond b (l ∷ []) []) [
  | true ↦ ap (λ (t : List Filled). t ++ l ∷ []) h
  | false ↦ h ∙ sym (append-nil (filter test e))
])

names_more : (test : Filled → Bool) (front names : List (List ℕ)) (e : List Filled) (l : Filled) → names ≡ front ++ map subject (filter test e)
    → with_name names (test l) (subject l) ≡ front ++ map subject (filter test (e ++ l ∷ []))
names_more test front names e l h = rw (filter_more test e l, map-append subject (filter test e) (filter test (l ∷ []))) (elim (test l) as (λ b. cond b (names ++ subject l ∷ []) names ≡ front ++ (map subject (filter test e) ++ map subject (cond b (l ∷ []) []))) [
  | true ↦ ap (λ (t : List (List ℕ)). t ++ subject l ∷ []) h ∙ append_assoc front (map subject (filter test e)) (subject l ∷ [])
  | false ↦ h ∙ ap (λ (t : List (List ℕ)). front ++ t) (sym (append-nil (map subject (filter test e))))
])

-- ---- the body, part by part

marked_thread : (b : BodyState) (f : Form) (n : List ℕ) → (marked b f n).thread ≡ b.thread
marked_thread b forms.Register n = refl
marked_thread b forms.Start n = refl
marked_thread b forms.Join n = refl
marked_thread b _ n = refl

marked_length : (b : BodyState) (f : Form) (n : List ℕ) → (marked b f n).length ≡ b.length
marked_length b forms.Register n = refl
marked_length b forms.Start n = refl
marked_length b forms.Join n = refl
marked_length b _ n = refl

marked_registered : (b : BodyState) (f : Form) (n : List ℕ) → (marked b f n).registered ≡ cond (is_register f) (b.registered ++ n ∷ []) b.registered
marked_registered b forms.Register n = refl
marked_registered b forms.Start n = refl
marked_registered b forms.Join n = refl
marked_registered b _ n = refl

marked_unjoined : (b : BodyState) (f : Form) (n : List ℕ) → (marked b f n).unjoined ≡ one_more b.unjoined f n
marked_unjoined b forms.Register n = refl
marked_unjoined b forms.Start n = refl
marked_unjoined b forms.Join n = refl
marked_unjoined b _ n = refl

-- the body where a line may begin one and may be a call
after_parts : BodyState → Bool → Bool → List ℕ → BodyState
after_parts b begins call name = counted_in (cond begins (record { thread = name; length = 0; registered = []; unjoined = [] }) b) call

parts_thread : (b : BodyState) (begins call : Bool) (name : List ℕ) → (after_parts b begins call name).thread ≡ cond begins name b.thread
unfolding after_parts
parts_thread b true true name = refl
parts_thread b true false name = refl
parts_thread b false true name = refl
parts_thread b false false name = refl

parts_registered : (b : BodyState) (begins call : Bool) (name : List ℕ) → (after_parts b begins call name).registered ≡ cond begins [] b.registered
unfolding after_parts
parts_registered b true true name = refl
parts_registered b true false name = refl
parts_registered b false true name = refl
parts_registered b false false name = refl

parts_unjoined : (b : BodyState) (begins call : Bool) (name : List ℕ) → (after_parts b begins call name).unjoined ≡ cond begins [] b.unjoined
unfolding after_parts
parts_unjoined b true true name = refl
parts_unjoined b true false name = refl
parts_unjoined b false true name = refl
parts_unjoined b false false name = refl

parts_length : (b : BodyState) (begins call : Bool) (name : List ℕ) (body one : List Filled) → b.length ≡ length body → length one ≡ cond call 1 0
    → (after_parts b begins call name).length ≡ length (cond begins [] body ++ one)
unfolding after_parts
parts_length b true true name body one h k = sym k
parts_length b true false name body one h k = sym k
parts_length b false true name body one h k = rw (length-append body one, k) (ap (λ (n : ℕ). n + 1) h)
parts_length b false false name body one h k = rw (length-append body one, k) (h ∙ sym (add-zero (length body)))

with_is : (b : BodyState) (l : Filled) → body_with b l ≡ marked (after_parts b (begins_body l) (is_call l) (begun_name l)) l.form (subject l)
unfolding after_parts
with_is b l = refl

-- a line that registers is a call, and so is one that starts or joins
registers_calls : (f : Form) (vs : List Value) → filter registers (filter is_call (record { form = f; values = vs } ∷ [])) ≡ cond (is_register f) (record { form = f; values = vs } ∷ []) []
registers_calls forms.Register vs = refl
registers_calls _ vs = refl

one_more_else : (names : List (List ℕ)) (f : Form) (vs : List Value) (n : List ℕ) → is_call (record { form = f; values = vs }) ≡ false → one_more names f n ≡ names
one_more_else names forms.Start vs n h = absurd (true≢false h)
one_more_else names forms.Join vs n h = absurd (true≢false h)
one_more_else names _ vs n h = refl

unjoined_calls : (names : List (List ℕ)) (ls : List Filled) (l : Filled) → unjoined_from names (ls ++ filter is_call (l ∷ [])) ≡ one_more (unjoined_from names ls) l.form (subject l)
unjoined_calls names ls l = elim (cases_Bool (is_call l)) [
  | inl h ↦ rw h (unjoined_more names ls l)
  | inr h ↦ rw (h, append-nil) (sym (one_more_else (unjoined_from names ls) l.form l.values (subject l) h))
]

-- ---- places

behind_is : (m : Bool) (p : Part) → behind m p ≡ next_place p m
behind_is m AVersion = refl
behind_is m ADeclaration = refl
behind_is m ABody = refl
behind_is m AMain = refl
behind_is m ACall = refl
behind_is m AnEnd = refl

call_inside : (p : Place) → may_stand p ACall ≡ true → p ≡ Inside
call_inside Opening h = absurd (true≢false (sym h))
call_inside Declaring h = absurd (true≢false (sym h))
call_inside Between h = absurd (true≢false (sym h))
call_inside Inside h = refl
call_inside Over h = absurd (true≢false (sym h))

call_at : (l : Filled) (p : Part) → part_of l.form ≡ p → is_call l ≡ true → p ≡ ACall
call_at l AVersion e h = absurd (let z : false ≡ true = rw e at h in true≢false (sym z))
call_at l ADeclaration e h = absurd (let z : false ≡ true = rw e at h in true≢false (sym z))
call_at l ABody e h = absurd (let z : false ≡ true = rw e at h in true≢false (sym z))
call_at l AMain e h = absurd (let z : false ≡ true = rw e at h in true≢false (sym z))
call_at l ACall e h = refl
call_at l AnEnd e h = absurd (let z : false ≡ true = rw e at h in true≢false (sym z))

begins_at : (l : Filled) (p : Part) → part_of l.form ≡ p → begins_body l ≡ false → (m : Bool) → next_place p m ≡ Inside → p ≡ ACall
begins_at l AVersion e h m k = cc
begins_at l ADeclaration e h m k = cc
begins_at l ABody e h m k = absurd (let z : true ≡ false = rw e at h in true≢false z)
begins_at l AMain e h m k = absurd (let z : true ≡ false = rw e at h in true≢false z)
begins_at l ACall e h m k = refl
begins_at l AnEnd e h true k = cc
begins_at l AnEnd e h false k = cc

module _ (e : List Filled) (s : State) (d : IsDigest e s) (l : Filled) (stands : may_stand (place_after e) (part_of l.form) ≡ true) where
  as_call : part_of l.form ≡ ACall → list_any begins_body e ≡ true
  as_call h = d.inside (call_inside (place_after e) (subst (λ p. may_stand (place_after e) p ≡ true) h stands))

  stands_in : StandsIn e l
  stands_in h = as_call (call_at l (part_of l.form) refl h)

  main_next : (s.main || is_main l) ≡ list_any is_main (e ++ l ∷ [])
  main_next = ap (λ (b : Bool). b || is_main l) d.main ∙ sym (any_more is_main e l)

  body : List Filled
  body = cond (begins_body l) [] (this_body e) ++ filter is_call (l ∷ [])

  thread_is : (body_with s.body l).thread ≡ this_thread (e ++ l ∷ [])
  thread_is =
      ap (λ (b : BodyState). b.thread) (with_is s.body l)
      ∙ marked_thread (after_parts s.body (begins_body l) (is_call l) (begun_name l)) l.form (subject l)
      ∙ parts_thread s.body (begins_body l) (is_call l) (begun_name l)
      ∙ ap (λ (t : List ℕ). cond (begins_body l) (begun_name l) t) d.thread
      ∙ sym (thread_next e l)

  one_call : length (filter is_call (l ∷ [])) ≡ cond (is_call l) 1 0
  one_call = elim (is_call l) as (λ b. length (cond b (l ∷ []) []) ≡ cond b 1 0) [ true ↦ refl | false ↦ refl ]

  length_is : (body_with s.body l).length ≡ length (this_body (e ++ l ∷ []))
  length_is =
      ap (λ (b : BodyState). b.length) (with_is s.body l)
      ∙ marked_length (after_parts s.body (begins_body l) (is_call l) (begun_name l)) l.form (subject l)
      ∙ parts_length s.body (begins_body l) (is_call l) (begun_name l) (this_body e) (filter is_call (l ∷ [])) d.len one_call
      ∙ ap (λ (t : List Filled). length t) (sym (body_next e l stands_in))

  front_registered : map subject (filter registers (cond (begins_body l) [] (this_body e))) ≡ cond (begins_body l) [] s.body.registered
  front_registered = elim (begins_body l) as (λ b. map subject (filter registers (cond b [] (this_body e))) ≡ cond b [] s.body.registered) [ true ↦ refl | false ↦ sym d.registered ]

  front_unjoined : unjoined_from [] (cond (begins_body l) [] (this_body e)) ≡ cond (begins_body l) [] s.body.unjoined
  front_unjoined = elim (begins_body l) as (λ b. unjoined_from [] (cond b [] (this_body e)) ≡ cond b [] s.body.unjoined) [ true ↦ refl | false ↦ sym d.unjoined ]

  registered_is : (body_with s.body l).registered ≡ map subject (filter registers (this_body (e ++ l ∷ [])))
  registered_is =
      let front : List Filled = cond (begins_body l) [] (this_body e) in
      ap (λ (b : BodyState). b.registered) (with_is s.body l)
      ∙ marked_registered (after_parts s.body (begins_body l) (is_call l) (begun_name l)) l.form (subject l)
      ∙ ap (λ (t : List (List ℕ)). cond (is_register l.form) (t ++ subject l ∷ []) t) (parts_registered s.body (begins_body l) (is_call l) (begun_name l) ∙ sym front_registered)
      ∙ elim (is_register l.form) as (λ b. cond b (map subject (filter registers front) ++ subject l ∷ []) (map subject (filter registers front)) ≡ map subject (filter registers front) ++ map subject (cond b (l ∷ []) [])) [ true ↦ refl | false ↦ sym (append-nil (map subject (filter registers front))) ]
      ∙ ap (λ (t : List Filled). map subject (filter registers front) ++ map subject t) (sym (registers_calls l.form l.values))
      ∙ sym (map-append subject (filter registers front) (filter registers (filter is_call (l ∷ []))))
      ∙ ap (λ (t : List Filled). map subject t) (sym (filter-append registers front (filter is_call (l ∷ []))))
      ∙ ap (λ (t : List Filled). map subject (filter registers t)) (sym (body_next e l stands_in))

  unjoined_is : (body_with s.body l).unjoined ≡ unjoined_from [] (this_body (e ++ l ∷ []))
  unjoined_is =
      let front : List Filled = cond (begins_body l) [] (this_body e) in
      ap (λ (b : BodyState). b.unjoined) (with_is s.body l)
      ∙ marked_unjoined (after_parts s.body (begins_body l) (is_call l) (begun_name l)) l.form (subject l)
      ∙ ap (λ (t : List (List ℕ)). one_more t l.form (subject l)) (parts_unjoined s.body (begins_body l) (is_call l) (begun_name l) ∙ sym front_unjoined)
      ∙ sym (unjoined_calls [] front l)
      ∙ ap (λ (t : List Filled). unjoined_from [] t) (sym (body_next e l stands_in))

  calls_is : cond (is_call l) (s.calls + 1) s.calls ≡ counted is_call (e ++ l ∷ [])
  calls_is = rw (counted_more is_call e l, one_call) (elim (is_call l) as (λ b. cond b (s.calls + 1) s.calls ≡ counted is_call e + cond b 1 0) [
    | true ↦ ap (λ (n : ℕ). n + 1) d.calls
    | false ↦ d.calls ∙ sym (add-zero (counted is_call e))
  ])

  inside_is : place_after (e ++ l ∷ []) ≡ Inside → list_any begins_body (e ++ l ∷ []) ≡ true
  inside_is h = any_more begins_body e l ∙ elim (cases_Bool (begins_body l)) [
    | inl b ↦ or_right (list_any begins_body e) (begins_body l) b
    | inr b ↦ or_left (list_any begins_body e) (begins_body l) (as_call (begins_at l (part_of l.form) refl b (list_any is_main (e ++ l ∷ [])) (sym (place_next e l (part_of l.form) refl) ∙ h)))
  ]

  pub digest_next : IsDigest (e ++ l ∷ []) (state_with s l)
  digest_next = record {
    place = behind_is (s.main || is_main l) (part_of l.form) ∙ ap (next_place (part_of l.form)) main_next ∙ sym (place_next e l (part_of l.form) refl);
    main = main_next;
    kept = kept_more declares_any s.kept e l d.kept;
    bodies = names_more of_body [] s.once.bodies e l d.bodies;
    started = names_more of_start [] s.once.started e l d.started;
    launched = names_more of_launch [] s.once.launched e l d.launched;
    registered_once = names_more registers [] s.once.registered e l d.registered_once;
    threads = names_more makes_thread (main_word ∷ []) s.names.threads e l d.threads;
    objects = names_more makes_object [] s.names.objects e l d.objects;
    callbacks = names_more makes_callback [] s.names.callbacks e l d.callbacks;
    thread = thread_is;
    len = length_is;
    registered = registered_is;
    unjoined = unjoined_is;
    calls = calls_is;
    paired = lengths_next s.takings l d.paired;
    taken = λ name. taken_next s.takings l name d.paired ∙ ap (λ (n : ℕ). n + taken name (l ∷ [])) (d.taken name) ∙ sym (taken_more name e l);
    inside = inside_is;
  }
