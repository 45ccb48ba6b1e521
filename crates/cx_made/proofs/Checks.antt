-- A call's line fits its declarations where a test says so, and says the call again.
use Rattle.std.proofs.Common.{◌≡◌, ℕ, ◌^◌, ◌<◌, ◌==◌, ◌&&◌, ◌||◌, not, Bool, true, false, List, [], ◌∷◌, ◌++◌, map, Option, Some, None, refl, ap, ◌∙◌, eqb-true}
use Rattle.std.specs.List.{AllByRecursion, list_all, flat_map}
use Rattle.std.proofs.lemmas.Bool.{and_parts}
use Rattle.cx_names.specs.declared.ObjectNo.{ObjectNo}
use Rattle.cx_names.specs.declared.ThreadNo.{ThreadNo}
use Rattle.cx_scene.specs.declared.call.Call.{Call}
use Rattle.cx_scene.specs.declared.call.Call.TheVariants as calls
use Rattle.cx_scene.specs.declared.call.Relation.{Relation}
use Rattle.cx_scene.specs.declared.call.Relation.TheVariants as relations
use Rattle.cx_scene.specs.declared.call.Predicate.{Predicate}
use Rattle.cx_text.specs.declared.form.Form.{Form}
use Rattle.cx_text.specs.declared.form.Form.TheVariants as forms
use Rattle.cx_text.specs.declared.form.Made.{Made}
use Rattle.cx_text.specs.declared.form.Made.TheVariants as mades
use Rattle.std.specs.Str.{bytes_eq}
use Rattle.cx_text.specs.declared.form.Sort.{Sort}
use Rattle.cx_text.specs.declared.form.Sort.TheVariants as sorts
use Rattle.cx_text.specs.Table.{takes_main}
use Rattle.cx_text.specs.Words.{Filled, main_word, is_name, is_one_of, relation_words, fields_in, scenario_lines}
use Rattle.cx_text.proofs.Fields.{IsShort}
use Rattle.cx_text.proofs.Rows.{IsWellFilled}
use Rattle.cx_script.specs.Earlier.{is_call, made_of, fits_sort, subject, words_at}
use Rattle.cx_script.specs.Faults.{has_unknown, any_misfit, has_outside, is_name_field, is_each_field, has_repeated, is_latch, is_bad_order, is_once_only}
use Rattle.cx_script.specs.Script.{Names, place_in, name_at, as_list, call_of, line_of_call, relation_word, relation_of}
use Rattle.cx_script.specs.InOrder.{FitsIn, AllFit, MayRecur}
use Rattle.cx_script.proofs.LinesBack.{says_itself}

-- ---- the test of a line

abbrev pub fits_in : List Filled → List ℕ → Filled → Bool
fits_in front me l = not (has_unknown front l) && not (any_misfit (fits_sort front me) (fields_in l) l.values) && not (has_outside front l) && not (is_latch front (subject l)) && list_all (is_name 1) (words_at is_name_field l)

-- calls of these kinds, with small numbers
abbrev pub is_small_test : Predicate → Type 0
is_small_test p = (p.number < 10 ^ 20) × IsShort p.value

abbrev pub IsSimple : Call → Type 0
IsSimple (calls.Lock o) = true ≡ true
IsSimple (calls.Unlock o) = true ≡ true
IsSimple (calls.Add o i v) = (i < 10 ^ 20) × IsShort v
IsSimple (calls.WaitPredicate c o p) = is_small_test p
IsSimple (calls.WaitStop c o st p) = is_small_test p
IsSimple (calls.NotifyOne c) = true ≡ true
IsSimple (calls.Start t) = true ≡ true
IsSimple (calls.Join t) = true ≡ true
IsSimple _ = ⊥

or_left : (a b : Bool) → a ≡ true → (a || b) ≡ true
or_left true b h = refl
or_left false b h = cc

relation_there : (r : Relation) → is_one_of relation_words (relation_word r) ≡ true
relation_there relations.Less = refl
relation_there _ = refl

five : (a b c d e : Bool) → (not a && not b && not c && not d && e) ≡ true → (a ≡ false) × (b ≡ false) × (c ≡ false) × (d ≡ false) × (e ≡ true)
five false false false false true h = (refl, refl, refl, refl, refl)
five false false false false false h = absurd cc
five true b c d e h = absurd cc
five false true c d e h = absurd cc
five false false true d e h = absurd cc
five false false false true e h = absurd cc

name_ok : (sort : Sort) (w : List ℕ) (rest : List (List ℕ)) → list_all (is_name 1) (w ∷ rest) ≡ true → (is_name 1 w || (takes_main sort && bytes_eq main_word w)) ≡ true
name_ok sort w rest h = or_left (is_name 1 w) (takes_main sort && bytes_eq main_word w) (and_parts (is_name 1 w) (list_all (is_name 1) rest) h).0

rest_ok : (w : List ℕ) (rest : List (List ℕ)) → list_all (is_name 1) (w ∷ rest) ≡ true → list_all (is_name 1) rest ≡ true
rest_ok w rest h = (and_parts (is_name 1 w) (list_all (is_name 1) rest) h).1

module _ (names : Names) where
  abbrev object_name : ObjectNo → List ℕ
  object_name o = name_at names.objects o.0

  abbrev thread_name : ThreadNo → List ℕ
  thread_name t = name_at names.threads t.0

  filled_of : (c : Call) → IsSimple c → list_all (is_name 1) (words_at is_name_field (line_of_call names c)) ≡ true → IsWellFilled scenario_lines 1 (line_of_call names c)
  filled_of (calls.Lock o) h k = (name_ok sorts.Lockables (object_name o) [] k, tt)
  filled_of (calls.Unlock o) h k = (name_ok sorts.Lockables (object_name o) [] k, tt)
  filled_of (calls.Add o i v) h k = (name_ok sorts.Mutexes (object_name o) [] k, (h.0, (h.1, tt)))
  filled_of (calls.WaitPredicate c o p) h k =
      (name_ok sorts.Conditions (object_name c) (object_name o ∷ []) k, (name_ok sorts.Mutexes (object_name o) [] (rest_ok (object_name c) (object_name o ∷ []) k), (h.0, (relation_there p.relation, (h.1, tt)))))
  filled_of (calls.WaitStop c o st p) h k =
      let x = rest_ok (object_name c) (object_name o ∷ object_name st ∷ []) k in
      (name_ok sorts.Conditions (object_name c) (object_name o ∷ object_name st ∷ []) k, (name_ok sorts.Mutexes (object_name o) (object_name st ∷ []) x, (name_ok sorts.StopStates (object_name st) [] (rest_ok (object_name o) (object_name st ∷ []) x), (h.0, (relation_there p.relation, (h.1, tt))))))
  filled_of (calls.NotifyOne c) h k = (name_ok sorts.Conditions (object_name c) [] k, tt)
  filled_of (calls.Start t) h k = (name_ok sorts.Started (thread_name t) [] k, tt)
  filled_of (calls.Join t) h k = (name_ok sorts.Joined (thread_name t) [] k, tt)
  filled_of _ h k = absurd h

  call_is : (c : Call) → IsSimple c → is_call (line_of_call names c) ≡ true
  call_is (calls.Lock o) h = refl
  call_is (calls.Unlock o) h = refl
  call_is (calls.Add o i v) h = refl
  call_is (calls.WaitPredicate c o p) h = refl
  call_is (calls.WaitStop c o st p) h = refl
  call_is (calls.NotifyOne c) h = refl
  call_is (calls.Start t) h = refl
  call_is (calls.Join t) h = refl
  call_is _ h = absurd h

  repeated_not : (c : Call) → IsSimple c → has_repeated (words_at is_each_field (line_of_call names c)) ≡ false
  repeated_not (calls.Lock o) h = refl
  repeated_not (calls.Unlock o) h = refl
  repeated_not (calls.Add o i v) h = refl
  repeated_not (calls.WaitPredicate c o p) h = refl
  repeated_not (calls.WaitStop c o st p) h = refl
  repeated_not (calls.NotifyOne c) h = refl
  repeated_not (calls.Start t) h = refl
  repeated_not (calls.Join t) h = refl
  repeated_not _ h = absurd h

  ordered : (c : Call) → IsSimple c → (e : List Filled) → is_bad_order e (line_of_call names c) ≡ false
  ordered (calls.Lock o) h e = refl
  ordered (calls.Unlock o) h e = refl
  ordered (calls.Add o i v) h e = refl
  ordered (calls.WaitPredicate c o p) h e = refl
  ordered (calls.WaitStop c o st p) h e = refl
  ordered (calls.NotifyOne c) h e = refl
  ordered (calls.Start t) h e = refl
  ordered (calls.Join t) h e = refl
  ordered _ h e = absurd h

  pub fits : (front : List Filled) (me : List ℕ) (c : Call) → IsSimple c → fits_in front me (line_of_call names c) ≡ true → FitsIn front me (line_of_call names c)
  fits front me c simple h =
      let l = line_of_call names c in
      let x = five (has_unknown front l) (any_misfit (fits_sort front me) (fields_in l) l.values) (has_outside front l) (is_latch front (subject l)) (list_all (is_name 1) (words_at is_name_field l)) h in
      record { itself = says_itself l (filled_of c simple x.4); call = call_is c simple; known = x.0; kind = x.1; inside = x.2; latch = x.3; repeated = repeated_not c simple; order = ordered c simple }

  pub all_fit : (front : List Filled) (me : List ℕ) (cs : List Call) → AllByRecursion IsSimple cs → list_all (fits_in front me) (map (line_of_call names) cs) ≡ true → AllFit front me (map (line_of_call names) cs)
  all_fit front me [] simple h = tt
  all_fit front me (c ∷ cs) simple h = let x = and_parts (fits_in front me (line_of_call names c)) (list_all (fits_in front me) (map (line_of_call names) cs)) h in (fits front me c simple.0 x.0, all_fit front me cs simple.1 x.1)

  -- ---- a call that may stand more than once

  abbrev pub IsRecurring : Call → Type 0
  IsRecurring (calls.Lock o) = true ≡ true
  IsRecurring (calls.Unlock o) = true ≡ true
  IsRecurring (calls.Add o i v) = true ≡ true
  IsRecurring (calls.WaitPredicate c o p) = true ≡ true
  IsRecurring (calls.WaitStop c o st p) = true ≡ true
  IsRecurring (calls.NotifyOne c) = true ≡ true
  IsRecurring (calls.Join t) = true ≡ true
  IsRecurring _ = ⊥

  never_lock : (f : Form) → is_once_only f forms.Lock ≡ false
  never_lock forms.Thread = refl
  never_lock _ = refl

  never_unlock : (f : Form) → is_once_only f forms.Unlock ≡ false
  never_unlock forms.Thread = refl
  never_unlock _ = refl

  never_add : (f : Form) → is_once_only f forms.AddNumber ≡ false
  never_add forms.Thread = refl
  never_add _ = refl

  never_wait : (f : Form) → is_once_only f forms.WaitPredicate ≡ false
  never_wait forms.Thread = refl
  never_wait _ = refl

  never_stop : (f : Form) → is_once_only f forms.WaitStop ≡ false
  never_stop forms.Thread = refl
  never_stop _ = refl

  never_notify : (f : Form) → is_once_only f forms.NotifyOne ≡ false
  never_notify forms.Thread = refl
  never_notify _ = refl

  never_join : (f : Form) → is_once_only f forms.Join ≡ false
  never_join forms.Thread = refl
  never_join _ = refl

  pub never : (c : Call) → IsRecurring c → (f : Form) → is_once_only f (line_of_call names c).form ≡ false
  never (calls.Lock o) h f = never_lock f
  never (calls.Unlock o) h f = never_unlock f
  never (calls.Add o i v) h f = never_add f
  never (calls.WaitPredicate c o p) h f = never_wait f
  never (calls.WaitStop c o st p) h f = never_stop f
  never (calls.NotifyOne c) h f = never_notify f
  never (calls.Join t) h f = never_join f
  never _ h f = absurd h

  pub all_recur : (cs : List Call) → AllByRecursion IsRecurring cs → MayRecur (map (line_of_call names) cs)
  all_recur [] h = tt
  all_recur (c ∷ cs) h = (never c h.0, all_recur cs h.1)

  -- ---- a line says its call again

  abbrev is_own : ObjectNo → Bool
  is_own o = place_in names.objects (name_at names.objects o.0) == o.0

  abbrev is_own_thread : ThreadNo → Bool
  is_own_thread t = place_in names.threads (name_at names.threads t.0) == t.0

  abbrev is_plain_kind : Option Made → Bool
  is_plain_kind (Some mades.Recursive) = false
  is_plain_kind _ = true

  abbrev pub says_again : List Filled → Call → Bool
  says_again front (calls.Lock o) = is_own o && is_plain_kind (made_of front (name_at names.objects o.0))
  says_again front (calls.Unlock o) = is_own o
  says_again front (calls.Add o i v) = is_own o
  says_again front (calls.WaitPredicate c o p) = is_own c && is_own o
  says_again front (calls.WaitStop c o st p) = is_own c && is_own o && is_own st
  says_again front (calls.NotifyOne c) = is_own c
  says_again front (calls.Start t) = is_own_thread t
  says_again front (calls.Join t) = is_own_thread t
  says_again front _ = false

  abbrev read_again : List Filled → Filled → List Call
  read_again front l = as_list (call_of names (made_of front (subject l)) l l.form)

  own_is : (o : ObjectNo) → is_own o ≡ true → place_in names.objects (name_at names.objects o.0) ≡ o.0
  own_is o h = eqb-true (place_in names.objects (name_at names.objects o.0)) o.0 h

  thread_is : (t : ThreadNo) → is_own_thread t ≡ true → place_in names.threads (name_at names.threads t.0) ≡ t.0
  thread_is t h = eqb-true (place_in names.threads (name_at names.threads t.0)) t.0 h

  back_lock : (front : List Filled) (o : ObjectNo) (k : Option Made) → made_of front (name_at names.objects o.0) ≡ k → is_plain_kind k ≡ true → place_in names.objects (name_at names.objects o.0) ≡ o.0 → read_again front (line_of_call names (calls.Lock o)) ≡ calls.Lock o ∷ []
  back_lock front o None e h p = rw (e, p) refl
  back_lock front o (Some mades.Recursive) e h p = cc
  back_lock front o (Some _) e h p = rw (e, p) refl

  same_relation : (r : Relation) → relation_of (relation_word r) ≡ r
  same_relation relations.Less = refl
  same_relation _ = refl

  pub back : (front : List Filled) (c : Call) → says_again front c ≡ true → read_again front (line_of_call names c) ≡ c ∷ []
  back front (calls.Lock o) h = let x = and_parts (is_own o) (is_plain_kind (made_of front (name_at names.objects o.0))) h in back_lock front o (made_of front (name_at names.objects o.0)) refl x.1 (own_is o x.0)
  back front (calls.Unlock o) h = ap (λ n. calls.Unlock (record { 0 = n }) ∷ []) (own_is o h)
  back front (calls.Add o i v) h = ap (λ n. calls.Add (record { 0 = n }) i v ∷ []) (own_is o h)
  back front (calls.WaitPredicate c o p) h = let x = and_parts (is_own c) (is_own o) h in rw (own_is c x.0, own_is o x.1, same_relation p.relation) refl
  back front (calls.WaitStop c o st p) h =
      let x = and_parts (is_own c && is_own o) (is_own st) h in let y = and_parts (is_own c) (is_own o) x.0 in rw (own_is c y.0, own_is o y.1, own_is st x.1, same_relation p.relation) refl
  back front (calls.NotifyOne c) h = ap (λ n. calls.NotifyOne (record { 0 = n }) ∷ []) (own_is c h)
  back front (calls.Start t) h = ap (λ n. calls.Start (record { 0 = n }) ∷ []) (thread_is t h)
  back front (calls.Join t) h = ap (λ n. calls.Join (record { 0 = n }) ∷ []) (thread_is t h)
  back front _ h = absurd cc

  pub all_back : (front : List Filled) (cs : List Call) → list_all (says_again front) cs ≡ true → flat_map (read_again front) (map (line_of_call names) cs) ≡ cs
  all_back front [] h = refl
  all_back front (c ∷ cs) h = let x = and_parts (says_again front c) (list_all (says_again front) cs) h in ap (λ t. t ++ flat_map (read_again front) (map (line_of_call names) cs)) (back front c x.0) ∙ ap (λ t. c ∷ t) (all_back front cs x.1)
