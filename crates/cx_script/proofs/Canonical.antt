-- A line that fits its form is written plainly, in at most 120 bytes, and read as itself.
use Rattle.std.proofs.Common.{◌≡◌, ℕ, zero, suc, ◌+◌, ◌-◌, ◌*◌, ◌^◌, ◌<◌, ◌≤◌, pos, negsuc, inl, inr, Bool, true, false, ◌&&◌, ◌||◌, not, List, [], ◌∷◌, length, map, refl, sym, ap, ◌∙◌, arith, length-append, lit≤}
use Rattle.std.specs.Prelude.{nat_le, replicate, min, max, codes}
use Rattle.std.specs.List.{AllByRecursion, list_all, join_with_byte}
use Rattle.std.specs.Str.{bytes_eq}
use Rattle.std.specs.Fmt.{decimal}
use Rattle.std.specs.Str.Parse.{AllDigits}
use Rattle.std.specs.Char.{digit_value}
use Rattle.std.proofs.lemmas.Bool.{and_from, and_parts, leb-true, lt-ltb, or_cases}
use Rattle.std.proofs.lemmas.List.Folds.{list_all-append}
use Rattle.std.proofs.lemmas.Bool.Decides.{nat_tests}
use Rattle.std.proofs.lemmas.Str.Parse.{digit_from_value}
use Rattle.std.proofs.lemmas.Fmt.{decimal_is_IsNumeral_wide, length-decimal-le_wide}
use Rattle.std.proofs.lemmas.Slice.Eq.{bytes_eq-Decides}
use Rattle.cx_text.specs.declared.form.Form.{Form}
use Rattle.cx_text.specs.declared.form.Form.TheVariants as forms
use Rattle.cx_text.specs.declared.form.Field.{Field}
use Rattle.cx_text.specs.declared.form.Field.TheVariants as fields
use Rattle.cx_text.specs.declared.form.Sort.{Sort}
use Rattle.cx_text.specs.declared.form.Sort.TheVariants as sorts
use Rattle.cx_text.specs.declared.form.Literal.{Literal}
use Rattle.cx_text.specs.declared.form.Literal.TheVariants as literals
use Rattle.cx_text.specs.Table.{head_of, fields_of, spelling, takes_main}
use Rattle.cx_text.specs.Lines.{is_word, is_text_byte, kept_words}
use Rattle.cx_text.specs.Words.{Filled, Value, AWord, ANumber, spell, spread, own_word, is_name, is_name_byte, begins_lower, is_reserved, main_word, scenario_lines, words_for}
use Rattle.cx_text.proofs.Fields.{FitsField, FitFields}
use Rattle.cx_text.proofs.Rows.{IsAlone, IsWellFilled}
use Rattle.cx_text.proofs.Lexing.{IsInWord, IsPlain, ArePlain, IsLine}
use Rattle.cx_text.proofs.Alone.{alone_versionone, alone_thread, alone_jthread, alone_asyncreturn, alone_asyncthrow, alone_mutex, alone_recursive, alone_shared, alone_semaphore, alone_latch, alone_barrier, alone_barrierrelease, alone_barriernotifyone, alone_barriernotifyall, alone_once, alone_condition, alone_stop_0, alone_stop_1, alone_stop_2, alone_stop_3, alone_stop_4, alone_stop_5, alone_callbackrelease, alone_callbacknotifyone, alone_callbacknotifyall, alone_callbackderegister, alone_promise, alone_sharedpromise_1, alone_sharedpromise_2, alone_sharedpromise_3, alone_sharedpromise_4, alone_taskreturn, alone_taskthrow, alone_body, alone_main, alone_end, alone_lock, alone_lockshared, alone_trylock, alone_trylockshared, alone_unlock, alone_unlockshared, alone_getnumber, alone_setnumber, alone_addnumber, alone_lockall_2, alone_lockall_3, alone_lockall_4, alone_trylockall_2, alone_trylockall_3, alone_trylockall_4, alone_release, alone_acquire, alone_tryacquire, alone_countdown, alone_wait, alone_trywait, alone_arriveandwait, alone_arrive, alone_arriveanddrop, alone_calloncereturn, alone_calloncethrow, alone_waitcondition, alone_waitpredicate, alone_waitstop, alone_notifyone, alone_notifyall, alone_requeststop, alone_stoprequested, alone_stoppossible, alone_another, alone_drop, alone_register, alone_deregister, alone_setvalue, alone_setexception, alone_invoke, alone_getfuture, alone_share, alone_getoutcome, alone_start, alone_join, alone_launch}
use Rattle.cx_script.specs.Script.{line}
use Rattle.cx_script.proofs.ReadBack.{IsCanonical}

same_word : (u w : List ℕ) → bytes_eq u w ≡ true → w ≡ u
same_word u w h = sym ((bytes_eq-Decides u w).0 h)

-- ---- plain words

-- a byte that is no blank and no line's end
abbrev is_inside : ℕ → Bool
is_inside b = nat_le 33 b && nat_le b 126

inside_byte : (b : ℕ) → is_inside b ≡ true → IsInWord b
inside_byte b h = record { apart = grind (arith, nat_tests); inside = grind (arith, nat_tests); kept = grind (arith, nat_tests) }

inside_all : (w : List ℕ) → list_all is_inside w ≡ true → AllByRecursion IsInWord w
inside_all [] h = tt
inside_all (b ∷ w) h = let p = and_parts (is_inside b) (list_all is_inside w) h in (inside_byte b p.0, inside_all w p.1)

plain_by : (w : List ℕ) → is_word w ≡ true → list_all is_inside w ≡ true → IsPlain w
plain_by w long h = record { long = long; bytes = inside_all w h }

name_inside : (b : ℕ) → is_name_byte b ≡ true → is_inside b ≡ true
name_inside b h = grind (arith, nat_tests)

names_inside : (w : List ℕ) → list_all is_name_byte w ≡ true → list_all is_inside w ≡ true
names_inside [] h = refl
names_inside (b ∷ w) h = let p = and_parts (is_name_byte b) (list_all is_name_byte w) h in let q = names_inside w p.1 in rw (name_inside b p.0) q

long_word : (b : ℕ) (w : List ℕ) → is_word (b ∷ w) ≡ true
long_word b w = lt-ltb 0 (suc (length w)) (omega arith)

name_word : (w : List ℕ) → begins_lower w ≡ true → is_word w ≡ true
name_word [] h = absurd cc
name_word (b ∷ w) h = long_word b w

text_byte : (b : ℕ) → is_inside b ≡ true → is_text_byte b ≡ true
text_byte b h = grind (arith, nat_tests)

text_all : (w : List ℕ) → list_all is_inside w ≡ true → list_all is_text_byte w ≡ true
text_all [] h = refl
text_all (b ∷ w) h = let p = and_parts (is_inside b) (list_all is_inside w) h in let q = text_all w p.1 in rw (text_byte b p.0) q

-- a written word: plain, of bytes of text, and of at most so many bytes
record Fine (n : ℕ) (w : List ℕ) : Type 0 where
  plain : IsPlain w
  text : list_all is_text_byte w ≡ true
  short : length w ≤ n

fine_by : (n : ℕ) (w : List ℕ) → is_word w ≡ true → list_all is_inside w ≡ true → length w ≤ n → Fine n w
fine_by n w long h few = record { plain = plain_by w long h; text = text_all w h; short = few }

name_fine : (version : ℕ) (w : List ℕ) → is_name version w ≡ true → Fine 16 w
unfolding is_name
name_fine version w h =
    let a = and_parts (begins_lower w && nat_le (length w) 16 && list_all is_name_byte w) (not (is_reserved version w)) h in
    let b = and_parts (begins_lower w && nat_le (length w) 16) (list_all is_name_byte w) a.0 in
    let c = and_parts (begins_lower w) (nat_le (length w) 16) b.0 in
    fine_by 16 w (name_word w c.0) (names_inside w b.1) (leb-true (length w) 16 c.1)

by_test : (u w : List ℕ) (n : ℕ) → bytes_eq u w ≡ true → is_word u ≡ true → list_all is_inside u ≡ true → nat_le (length u) n ≡ true → Fine n w
by_test u w n e long inside few = let q : w ≡ u = same_word u w e in rw q (fine_by n u long inside (leb-true (length u) n few))

main_or_name : (version : ℕ) (sort : Sort) (w : List ℕ) → (is_name version w || (takes_main sort && bytes_eq main_word w)) ≡ true → Fine 16 w
main_or_name version sort w h = elim (or_cases (is_name version w) (takes_main sort && bytes_eq main_word w) h) [
  | inl a ↦ name_fine version w a
  | inr a ↦ by_test main_word w 16 (and_parts (takes_main sort) (bytes_eq main_word w) a).1 refl refl refl
]

digit_inside : (c : ℕ) → digit_value c < 10 → is_inside c ≡ true
digit_inside c h = let r = digit_from_value c h in grind (arith, nat_tests)

digits_inside : (cs : List ℕ) → AllDigits 10 cs → list_all is_inside cs ≡ true
digits_inside [] h = refl
digits_inside (c ∷ cs) h = let q = digits_inside cs h.1 in rw (digit_inside c h.0) q

some_word : (w : List ℕ) → 0 < length w → is_word w ≡ true
some_word w h = lt-ltb 0 (length w) h

number_fine : (n : ℕ) → n < 10 ^ 20 → Fine 20 (decimal n)
number_fine n lt =
    let d = decimal_is_IsNumeral_wide n (omega arith) in
    fine_by 20 (decimal n) (some_word (decimal n) d.0.0) (digits_inside (decimal n) d.0.1) (length-decimal-le_wide 20 n (omega arith) lt (omega arith))

minus_fine : (n : ℕ) → n < 10 ^ 20 → Fine 21 (45 ∷ decimal n)
minus_fine n lt =
    let f = number_fine n lt in
    let short = f.short in
    record { plain = record { long = long_word 45 (decimal n); bytes = (inside_byte 45 refl, f.plain.bytes) }; text = f.text; short = omega arith }

longer : (m n : ℕ) (w : List ℕ) → m ≤ n → Fine m w → Fine n w
longer m n w h f = let short = f.short in record { plain = f.plain; text = f.text; short = omega arith }

literal_plain : (l : Literal) → (is_word (spelling l) ≡ true) × (list_all is_inside (spelling l) ≡ true) × (nat_le (length (spelling l)) (length (spelling l)) ≡ true)
literal_plain literals.One = (refl, refl, refl)
literal_plain _ = (refl, refl, refl)

-- ---- values

abbrev longest : Field → ℕ
longest (fields.Word literal) = length (spelling literal)
longest fields.Policy = 8
longest fields.Relation = 2
longest (fields.Number low high) = 20
longest fields.Signed = 21
longest fields.Index = 20
longest fields.UpToNext = 20
longest _ = 16

value_fine : (version : ℕ) (own : List ℕ) (f : Field) (v : Value) → FitsField version own f v → Fine (longest f) (spell v)
value_fine version own fields.New (AWord w) h = name_fine version w h
value_fine version own fields.Own (AWord w) h = name_fine version w (and_parts (is_name version w) (bytes_eq own w) h).0
value_fine version own (fields.Name sort) (AWord w) h = main_or_name version sort w h
value_fine version own (fields.Each sort) (AWord w) h = main_or_name version sort w h
value_fine version own (fields.Word literal) (AWord w) h = let l = literal_plain literal in by_test (spelling literal) w (length (spelling literal)) h l.0 l.1 l.2
value_fine version own fields.Policy (AWord w) h = elim (or_cases (bytes_eq (codes "async") w) _ h) [
  | inl a ↦ by_test (codes "async") w 8 a refl refl refl
  | inr a ↦ elim (or_cases (bytes_eq (codes "deferred") w) _ a) [
    | inl b ↦ by_test (codes "deferred") w 8 b refl refl refl
    | inr b ↦ elim (or_cases (bytes_eq (codes "both") w) false b) [ inl c ↦ by_test (codes "both") w 8 c refl refl refl | inr c ↦ absurd cc ]
  ]
]
value_fine version own fields.Relation (AWord w) h = elim (or_cases (bytes_eq (codes "<") w) _ h) [
  | inl a ↦ by_test (codes "<") w 2 a refl refl refl
  | inr a ↦ elim (or_cases (bytes_eq (codes "<=") w) _ a) [
    | inl b ↦ by_test (codes "<=") w 2 b refl refl refl
    | inr b ↦ elim (or_cases (bytes_eq (codes "=") w) _ b) [
      | inl c ↦ by_test (codes "=") w 2 c refl refl refl
      | inr c ↦ elim (or_cases (bytes_eq (codes "!=") w) _ c) [
        | inl d ↦ by_test (codes "!=") w 2 d refl refl refl
        | inr d ↦ elim (or_cases (bytes_eq (codes ">=") w) _ d) [
          | inl e ↦ by_test (codes ">=") w 2 e refl refl refl
          | inr e ↦ elim (or_cases (bytes_eq (codes ">") w) false e) [ inl f ↦ by_test (codes ">") w 2 f refl refl refl | inr f ↦ absurd cc ]
        ]
      ]
    ]
  ]
]
value_fine version own (fields.Number low high) (ANumber (pos n)) h = number_fine n h
value_fine version own fields.Signed (ANumber (pos n)) h = longer 20 21 (decimal n) (omega arith) (number_fine n h)
value_fine version own fields.Signed (ANumber (negsuc n)) h = minus_fine (suc n) h
value_fine version own fields.Index (ANumber (pos n)) h = number_fine n h
value_fine version own fields.UpToNext (ANumber (pos n)) h = number_fine n h
value_fine version own _ _ h = absurd h

-- the bytes of values, each with a blank before it
abbrev most : List Field → ℕ
most [] = 0
most (f ∷ fs) = suc (longest f) + most fs

abbrev spelled_length : List (List ℕ) → ℕ
spelled_length [] = 0
spelled_length (w ∷ ws) = suc (length w) + spelled_length ws

abbrev AreText : List (List ℕ) → Type 0
AreText ws = AllByRecursion (λ (w : List ℕ). list_all is_text_byte w ≡ true) ws

values_fine : (version : ℕ) (own : List ℕ) (fs : List Field) (vs : List Value) → FitFields version own fs vs → ArePlain (map spell vs) × (spelled_length (map spell vs) ≤ most fs) × AreText (map spell vs)
values_fine version own [] [] h = (tt, omega arith, tt)
values_fine version own [] (v ∷ vs) h = absurd h
values_fine version own (f ∷ fs) [] h = absurd h
values_fine version own (f ∷ fs) (v ∷ vs) h =
    let a = value_fine version own f v h.0 in
    let b = values_fine version own fs vs h.1 in
    let short = a.short in
    let rest = b.1 in
    ((a.plain, b.0), omega arith, (a.text, b.2))

joined_length : (w : List ℕ) (ws : List (List ℕ)) → length (join_with_byte 32 (w ∷ ws)) ≡ length w + spelled_length ws
joined_length w [] = omega arith
joined_length w (v ∷ vs) = let a = joined_length v vs in let b = length-append w (32 ∷ join_with_byte 32 (v ∷ vs)) in omega arith

joined_text : (w : List ℕ) (ws : List (List ℕ)) → list_all is_text_byte w ≡ true → AreText ws → list_all is_text_byte (join_with_byte 32 (w ∷ ws)) ≡ true
joined_text w [] h hs = h
joined_text w (v ∷ vs) h hs = list_all-append is_text_byte w (32 ∷ join_with_byte 32 (v ∷ vs)) ∙ and_from (list_all is_text_byte w) _ h (joined_text v vs hs.0 hs.1)

-- ---- lines

most_each : (k : ℕ) (sort : Sort) → most (replicate k (fields.Each sort)) ≡ k * 17
most_each zero sort = refl
most_each (suc k) sort = let a = most_each k sort in omega arith

head_plain : (f : Form) → (is_word (head_of f) ≡ true) × (list_all is_inside (head_of f) ≡ true) × ((ws : List (List ℕ)) → kept_words (head_of f ∷ ws) ≡ head_of f ∷ ws)
head_plain forms.Thread = (refl, refl, λ ws. refl)
head_plain _ = (refl, refl, λ ws. refl)

-- a line has at most 120 bytes
most_of : (f : Form) (n : ℕ) → length (head_of f) + most (spread (fields_of f) n) ≤ 120
most_of forms.LockAll n = let a = most_each (max 2 (min n 4)) sorts.Mutexes in omega arith
most_of forms.TryLockAll n = let a = most_each (max 2 (min n 4)) sorts.Mutexes in omega arith
most_of forms.Stop n = let a = most_each (max 0 (min (n - 1) 5)) sorts.Holders in omega arith
most_of forms.SharedPromise n = let a = most_each (max 1 (min (n - 1 - 1) 4)) sorts.Holders in omega arith
most_of _ n = lit≤ tt

each_count : (version : ℕ) (own : List ℕ) (k : ℕ) (sort : Sort) (vs : List Value) → FitFields version own (replicate k (fields.Each sort)) vs → length vs ≡ k
each_count version own zero sort [] fit = refl
each_count version own zero sort (v ∷ vs) fit = absurd fit
each_count version own (suc k) sort [] fit = absurd fit
each_count version own (suc k) sort (v ∷ vs) fit = ap suc (each_count version own k sort vs fit.1)

alone_at : (f : Form) (vs : List Value) → IsWellFilled scenario_lines 1 (line f vs) → IsAlone scenario_lines 1 (line f vs)
alone_at forms.VersionOne (AWord w0 ∷ []) fit = rw (same_word (spelling literals.One) w0 fit.0) (alone_versionone)
alone_at forms.VersionOne _ fit = absurd (assumption fit)
alone_at forms.Thread (AWord w0 ∷ []) fit = alone_thread (AWord w0)
alone_at forms.Thread _ fit = absurd (assumption fit)
alone_at forms.JThread (AWord w0 ∷ []) fit = alone_jthread (AWord w0)
alone_at forms.JThread _ fit = absurd (assumption fit)
alone_at forms.AsyncReturn (AWord w0 ∷ AWord w1 ∷ AWord w2 ∷ ANumber n3 ∷ []) fit = rw (same_word (spelling literals.Return) w2 fit.1.1.0) (alone_asyncreturn (AWord w0) (AWord w1) (ANumber n3))
alone_at forms.AsyncReturn _ fit = absurd (assumption fit)
alone_at forms.AsyncThrow (AWord w0 ∷ AWord w1 ∷ AWord w2 ∷ ANumber n3 ∷ []) fit = rw (same_word (spelling literals.Throw) w2 fit.1.1.0) (alone_asyncthrow (AWord w0) (AWord w1) (ANumber n3))
alone_at forms.AsyncThrow _ fit = absurd (assumption fit)
alone_at forms.Mutex (AWord w0 ∷ ANumber n1 ∷ []) fit = alone_mutex (AWord w0) (ANumber n1)
alone_at forms.Mutex _ fit = absurd (assumption fit)
alone_at forms.Recursive (AWord w0 ∷ []) fit = alone_recursive (AWord w0)
alone_at forms.Recursive _ fit = absurd (assumption fit)
alone_at forms.Shared (AWord w0 ∷ []) fit = alone_shared (AWord w0)
alone_at forms.Shared _ fit = absurd (assumption fit)
alone_at forms.Semaphore (AWord w0 ∷ ANumber n1 ∷ ANumber n2 ∷ []) fit = alone_semaphore (AWord w0) (ANumber n1) (ANumber n2)
alone_at forms.Semaphore _ fit = absurd (assumption fit)
alone_at forms.Latch (AWord w0 ∷ ANumber n1 ∷ []) fit = alone_latch (AWord w0) (ANumber n1)
alone_at forms.Latch _ fit = absurd (assumption fit)
alone_at forms.Barrier (AWord w0 ∷ ANumber n1 ∷ []) fit = alone_barrier (AWord w0) (ANumber n1)
alone_at forms.Barrier _ fit = absurd (assumption fit)
alone_at forms.BarrierRelease (AWord w0 ∷ ANumber n1 ∷ AWord w2 ∷ AWord w3 ∷ ANumber n4 ∷ []) fit = rw (same_word (spelling literals.Release) w2 fit.1.1.0) (alone_barrierrelease (AWord w0) (ANumber n1) (AWord w3) (ANumber n4))
alone_at forms.BarrierRelease _ fit = absurd (assumption fit)
alone_at forms.BarrierNotifyOne (AWord w0 ∷ ANumber n1 ∷ AWord w2 ∷ AWord w3 ∷ []) fit = rw (same_word (spelling literals.NotifyOne) w2 fit.1.1.0) (alone_barriernotifyone (AWord w0) (ANumber n1) (AWord w3))
alone_at forms.BarrierNotifyOne _ fit = absurd (assumption fit)
alone_at forms.BarrierNotifyAll (AWord w0 ∷ ANumber n1 ∷ AWord w2 ∷ AWord w3 ∷ []) fit = rw (same_word (spelling literals.NotifyAll) w2 fit.1.1.0) (alone_barriernotifyall (AWord w0) (ANumber n1) (AWord w3))
alone_at forms.BarrierNotifyAll _ fit = absurd (assumption fit)
alone_at forms.Once (AWord w0 ∷ []) fit = alone_once (AWord w0)
alone_at forms.Once _ fit = absurd (assumption fit)
alone_at forms.Condition (AWord w0 ∷ []) fit = alone_condition (AWord w0)
alone_at forms.Condition _ fit = absurd (assumption fit)
alone_at forms.CallbackRelease (AWord w0 ∷ AWord w1 ∷ AWord w2 ∷ AWord w3 ∷ ANumber n4 ∷ []) fit = rw (same_word (spelling literals.Release) w2 fit.1.1.0) (alone_callbackrelease (AWord w0) (AWord w1) (AWord w3) (ANumber n4))
alone_at forms.CallbackRelease _ fit = absurd (assumption fit)
alone_at forms.CallbackNotifyOne (AWord w0 ∷ AWord w1 ∷ AWord w2 ∷ AWord w3 ∷ []) fit = rw (same_word (spelling literals.NotifyOne) w2 fit.1.1.0) (alone_callbacknotifyone (AWord w0) (AWord w1) (AWord w3))
alone_at forms.CallbackNotifyOne _ fit = absurd (assumption fit)
alone_at forms.CallbackNotifyAll (AWord w0 ∷ AWord w1 ∷ AWord w2 ∷ AWord w3 ∷ []) fit = rw (same_word (spelling literals.NotifyAll) w2 fit.1.1.0) (alone_callbacknotifyall (AWord w0) (AWord w1) (AWord w3))
alone_at forms.CallbackNotifyAll _ fit = absurd (assumption fit)
alone_at forms.CallbackDeregister (AWord w0 ∷ AWord w1 ∷ AWord w2 ∷ AWord w3 ∷ []) fit = rw (same_word (spelling literals.Deregister) w2 fit.1.1.0) (alone_callbackderegister (AWord w0) (AWord w1) (AWord w3))
alone_at forms.CallbackDeregister _ fit = absurd (assumption fit)
alone_at forms.Promise (AWord w0 ∷ AWord w1 ∷ AWord w2 ∷ []) fit = alone_promise (AWord w0) (AWord w1) (AWord w2)
alone_at forms.Promise _ fit = absurd (assumption fit)
alone_at forms.TaskReturn (AWord w0 ∷ AWord w1 ∷ AWord w2 ∷ AWord w3 ∷ ANumber n4 ∷ []) fit = rw (same_word (spelling literals.Return) w3 fit.1.1.1.0) (alone_taskreturn (AWord w0) (AWord w1) (AWord w2) (ANumber n4))
alone_at forms.TaskReturn _ fit = absurd (assumption fit)
alone_at forms.TaskThrow (AWord w0 ∷ AWord w1 ∷ AWord w2 ∷ AWord w3 ∷ ANumber n4 ∷ []) fit = rw (same_word (spelling literals.Throw) w3 fit.1.1.1.0) (alone_taskthrow (AWord w0) (AWord w1) (AWord w2) (ANumber n4))
alone_at forms.TaskThrow _ fit = absurd (assumption fit)
alone_at forms.Body (AWord w0 ∷ []) fit = alone_body (AWord w0)
alone_at forms.Body _ fit = absurd (assumption fit)
alone_at forms.Main ([]) fit = alone_main
alone_at forms.Main _ fit = absurd (assumption fit)
alone_at forms.End ([]) fit = alone_end
alone_at forms.End _ fit = absurd (assumption fit)
alone_at forms.Lock (AWord w0 ∷ []) fit = alone_lock (AWord w0)
alone_at forms.Lock _ fit = absurd (assumption fit)
alone_at forms.LockShared (AWord w0 ∷ []) fit = alone_lockshared (AWord w0)
alone_at forms.LockShared _ fit = absurd (assumption fit)
alone_at forms.TryLock (AWord w0 ∷ []) fit = alone_trylock (AWord w0)
alone_at forms.TryLock _ fit = absurd (assumption fit)
alone_at forms.TryLockShared (AWord w0 ∷ []) fit = alone_trylockshared (AWord w0)
alone_at forms.TryLockShared _ fit = absurd (assumption fit)
alone_at forms.Unlock (AWord w0 ∷ []) fit = alone_unlock (AWord w0)
alone_at forms.Unlock _ fit = absurd (assumption fit)
alone_at forms.UnlockShared (AWord w0 ∷ []) fit = alone_unlockshared (AWord w0)
alone_at forms.UnlockShared _ fit = absurd (assumption fit)
alone_at forms.GetNumber (AWord w0 ∷ ANumber n1 ∷ []) fit = alone_getnumber (AWord w0) (ANumber n1)
alone_at forms.GetNumber _ fit = absurd (assumption fit)
alone_at forms.SetNumber (AWord w0 ∷ ANumber n1 ∷ ANumber n2 ∷ []) fit = alone_setnumber (AWord w0) (ANumber n1) (ANumber n2)
alone_at forms.SetNumber _ fit = absurd (assumption fit)
alone_at forms.AddNumber (AWord w0 ∷ ANumber n1 ∷ ANumber n2 ∷ []) fit = alone_addnumber (AWord w0) (ANumber n1) (ANumber n2)
alone_at forms.AddNumber _ fit = absurd (assumption fit)
alone_at forms.Release (AWord w0 ∷ ANumber n1 ∷ []) fit = alone_release (AWord w0) (ANumber n1)
alone_at forms.Release _ fit = absurd (assumption fit)
alone_at forms.Acquire (AWord w0 ∷ []) fit = alone_acquire (AWord w0)
alone_at forms.Acquire _ fit = absurd (assumption fit)
alone_at forms.TryAcquire (AWord w0 ∷ []) fit = alone_tryacquire (AWord w0)
alone_at forms.TryAcquire _ fit = absurd (assumption fit)
alone_at forms.CountDown (AWord w0 ∷ ANumber n1 ∷ []) fit = alone_countdown (AWord w0) (ANumber n1)
alone_at forms.CountDown _ fit = absurd (assumption fit)
alone_at forms.Wait (AWord w0 ∷ []) fit = alone_wait (AWord w0)
alone_at forms.Wait _ fit = absurd (assumption fit)
alone_at forms.TryWait (AWord w0 ∷ []) fit = alone_trywait (AWord w0)
alone_at forms.TryWait _ fit = absurd (assumption fit)
alone_at forms.ArriveAndWait (AWord w0 ∷ []) fit = alone_arriveandwait (AWord w0)
alone_at forms.ArriveAndWait _ fit = absurd (assumption fit)
alone_at forms.Arrive (AWord w0 ∷ ANumber n1 ∷ []) fit = alone_arrive (AWord w0) (ANumber n1)
alone_at forms.Arrive _ fit = absurd (assumption fit)
alone_at forms.ArriveAndDrop (AWord w0 ∷ []) fit = alone_arriveanddrop (AWord w0)
alone_at forms.ArriveAndDrop _ fit = absurd (assumption fit)
alone_at forms.CallOnceReturn (AWord w0 ∷ AWord w1 ∷ []) fit = rw (same_word (spelling literals.Return) w1 fit.1.0) (alone_calloncereturn (AWord w0))
alone_at forms.CallOnceReturn _ fit = absurd (assumption fit)
alone_at forms.CallOnceThrow (AWord w0 ∷ AWord w1 ∷ ANumber n2 ∷ []) fit = rw (same_word (spelling literals.Throw) w1 fit.1.0) (alone_calloncethrow (AWord w0) (ANumber n2))
alone_at forms.CallOnceThrow _ fit = absurd (assumption fit)
alone_at forms.WaitCondition (AWord w0 ∷ AWord w1 ∷ []) fit = alone_waitcondition (AWord w0) (AWord w1)
alone_at forms.WaitCondition _ fit = absurd (assumption fit)
alone_at forms.WaitPredicate (AWord w0 ∷ AWord w1 ∷ ANumber n2 ∷ AWord w3 ∷ ANumber n4 ∷ []) fit = alone_waitpredicate (AWord w0) (AWord w1) (ANumber n2) (AWord w3) (ANumber n4)
alone_at forms.WaitPredicate _ fit = absurd (assumption fit)
alone_at forms.WaitStop (AWord w0 ∷ AWord w1 ∷ AWord w2 ∷ ANumber n3 ∷ AWord w4 ∷ ANumber n5 ∷ []) fit = alone_waitstop (AWord w0) (AWord w1) (AWord w2) (ANumber n3) (AWord w4) (ANumber n5)
alone_at forms.WaitStop _ fit = absurd (assumption fit)
alone_at forms.NotifyOne (AWord w0 ∷ []) fit = alone_notifyone (AWord w0)
alone_at forms.NotifyOne _ fit = absurd (assumption fit)
alone_at forms.NotifyAll (AWord w0 ∷ []) fit = alone_notifyall (AWord w0)
alone_at forms.NotifyAll _ fit = absurd (assumption fit)
alone_at forms.RequestStop (AWord w0 ∷ []) fit = alone_requeststop (AWord w0)
alone_at forms.RequestStop _ fit = absurd (assumption fit)
alone_at forms.StopRequested (AWord w0 ∷ []) fit = alone_stoprequested (AWord w0)
alone_at forms.StopRequested _ fit = absurd (assumption fit)
alone_at forms.StopPossible (AWord w0 ∷ []) fit = alone_stoppossible (AWord w0)
alone_at forms.StopPossible _ fit = absurd (assumption fit)
alone_at forms.Another (AWord w0 ∷ []) fit = alone_another (AWord w0)
alone_at forms.Another _ fit = absurd (assumption fit)
alone_at forms.Drop (AWord w0 ∷ []) fit = alone_drop (AWord w0)
alone_at forms.Drop _ fit = absurd (assumption fit)
alone_at forms.Register (AWord w0 ∷ []) fit = alone_register (AWord w0)
alone_at forms.Register _ fit = absurd (assumption fit)
alone_at forms.Deregister (AWord w0 ∷ []) fit = alone_deregister (AWord w0)
alone_at forms.Deregister _ fit = absurd (assumption fit)
alone_at forms.SetValue (AWord w0 ∷ ANumber n1 ∷ []) fit = alone_setvalue (AWord w0) (ANumber n1)
alone_at forms.SetValue _ fit = absurd (assumption fit)
alone_at forms.SetException (AWord w0 ∷ ANumber n1 ∷ []) fit = alone_setexception (AWord w0) (ANumber n1)
alone_at forms.SetException _ fit = absurd (assumption fit)
alone_at forms.Invoke (AWord w0 ∷ []) fit = alone_invoke (AWord w0)
alone_at forms.Invoke _ fit = absurd (assumption fit)
alone_at forms.GetFuture (AWord w0 ∷ []) fit = alone_getfuture (AWord w0)
alone_at forms.GetFuture _ fit = absurd (assumption fit)
alone_at forms.Share (AWord w0 ∷ []) fit = alone_share (AWord w0)
alone_at forms.Share _ fit = absurd (assumption fit)
alone_at forms.GetOutcome (AWord w0 ∷ []) fit = alone_getoutcome (AWord w0)
alone_at forms.GetOutcome _ fit = absurd (assumption fit)
alone_at forms.Start (AWord w0 ∷ []) fit = alone_start (AWord w0)
alone_at forms.Start _ fit = absurd (assumption fit)
alone_at forms.Join (AWord w0 ∷ []) fit = alone_join (AWord w0)
alone_at forms.Join _ fit = absurd (assumption fit)
alone_at forms.Launch (AWord w0 ∷ []) fit = alone_launch (AWord w0)
alone_at forms.Launch _ fit = absurd (assumption fit)
alone_at forms.LockAll (v0 ∷ v1 ∷ []) fit = alone_lockall_2 v0 v1
alone_at forms.LockAll (v0 ∷ v1 ∷ v2 ∷ []) fit = alone_lockall_3 v0 v1 v2
alone_at forms.LockAll (v0 ∷ v1 ∷ v2 ∷ v3 ∷ []) fit = alone_lockall_4 v0 v1 v2 v3
alone_at forms.LockAll vs fit = absurd (let c = each_count 1 (own_word (map spell vs)) (max 2 (min (length vs) 4)) sorts.Mutexes vs fit in omega arith)
alone_at forms.TryLockAll (v0 ∷ v1 ∷ []) fit = alone_trylockall_2 v0 v1
alone_at forms.TryLockAll (v0 ∷ v1 ∷ v2 ∷ []) fit = alone_trylockall_3 v0 v1 v2
alone_at forms.TryLockAll (v0 ∷ v1 ∷ v2 ∷ v3 ∷ []) fit = alone_trylockall_4 v0 v1 v2 v3
alone_at forms.TryLockAll vs fit = absurd (let c = each_count 1 (own_word (map spell vs)) (max 2 (min (length vs) 4)) sorts.Mutexes vs fit in omega arith)
alone_at forms.Stop (v0 ∷ []) fit = alone_stop_0 v0
alone_at forms.Stop (v0 ∷ v1 ∷ []) fit = alone_stop_1 v0 v1
alone_at forms.Stop (v0 ∷ v1 ∷ v2 ∷ []) fit = alone_stop_2 v0 v1 v2
alone_at forms.Stop (v0 ∷ v1 ∷ v2 ∷ v3 ∷ []) fit = alone_stop_3 v0 v1 v2 v3
alone_at forms.Stop (v0 ∷ v1 ∷ v2 ∷ v3 ∷ v4 ∷ []) fit = alone_stop_4 v0 v1 v2 v3 v4
alone_at forms.Stop (v0 ∷ v1 ∷ v2 ∷ v3 ∷ v4 ∷ v5 ∷ []) fit = alone_stop_5 v0 v1 v2 v3 v4 v5
alone_at forms.Stop [] fit = absurd fit
alone_at forms.Stop (v0 ∷ vs) fit = absurd (let c = each_count 1 (spell v0) (max 0 (min (length (v0 ∷ vs) - 1) 5)) sorts.Holders vs fit.1 in omega arith)
alone_at forms.SharedPromise (v0 ∷ v1 ∷ v2 ∷ []) fit = alone_sharedpromise_1 v0 v1 v2
alone_at forms.SharedPromise (v0 ∷ v1 ∷ v2 ∷ v3 ∷ []) fit = alone_sharedpromise_2 v0 v1 v2 v3
alone_at forms.SharedPromise (v0 ∷ v1 ∷ v2 ∷ v3 ∷ v4 ∷ []) fit = alone_sharedpromise_3 v0 v1 v2 v3 v4
alone_at forms.SharedPromise (v0 ∷ v1 ∷ v2 ∷ v3 ∷ v4 ∷ v5 ∷ []) fit = alone_sharedpromise_4 v0 v1 v2 v3 v4 v5
alone_at forms.SharedPromise [] fit = absurd fit
alone_at forms.SharedPromise (v0 ∷ []) fit = absurd (assumption fit)
alone_at forms.SharedPromise (v0 ∷ v1 ∷ vs) fit = absurd (let c = each_count 1 (spell v0) (max 1 (min (length (v0 ∷ v1 ∷ vs) - 1 - 1) 4)) sorts.Holders vs fit.1.1 in omega arith)

-- a line as it is written: words, of bytes of text, and short
pub record IsShown (l : Filled) : Type 0 where
  pub words : IsLine (words_for l)
  pub text : list_all is_text_byte (join_with_byte 32 (words_for l)) ≡ true
  pub short : length (join_with_byte 32 (words_for l)) ≤ 120

pub is_shown : (l : Filled) → IsWellFilled scenario_lines 1 l → IsShown l
is_shown l fit =
    let h = head_plain l.form in
    let v = values_fine 1 _ (spread (fields_of l.form) (length l.values)) l.values fit in
    let a = joined_length (head_of l.form) (map spell l.values) in
    let b = v.1 in
    let c = most_of l.form (length l.values) in
    record {
      words = (plain_by (head_of l.form) h.0 h.1, v.0, h.2 (map spell l.values));
      text = joined_text (head_of l.form) (map spell l.values) (text_all (head_of l.form) h.1) v.2;
      short = omega arith;
    }

-- a line that fits its form is canonical, and short
pub is_canonical : (l : Filled) → IsWellFilled scenario_lines 1 l → IsCanonical 1 l × (length (join_with_byte 32 (words_for l)) ≤ 120)
is_canonical l fit = let f = is_shown l fit in (record { plain = f.words; alone = alone_at l.form l.values fit; fits = fit }, f.short)
