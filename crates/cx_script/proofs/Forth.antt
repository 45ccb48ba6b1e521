-- A line of a call says a call whose line it is, and a line of a declaration likewise.
use Rattle.std.proofs.Common.{◌≡◌, ℕ, zero, suc, ◌-◌, pos, inl, inr, Bool, true, false, ◌||◌, List, [], ◌∷◌, length, map, Option, Some, None, refl, sym, ap, ◌∙◌}
use Rattle.std.specs.Prelude.{codes, replicate, min, max}
use Rattle.std.specs.Str.{bytes_eq}
use Rattle.std.proofs.lemmas.Bool.{cases_Bool, and_parts}
use Rattle.std.proofs.lemmas.Slice.Eq.{bytes_eq-Decides}
use Rattle.cx_names.specs.declared.ObjectNo.{ObjectNo}
use Rattle.cx_scene.specs.declared.declared.Function.TheVariants as functions
use Rattle.cx_scene.specs.declared.declared.Small.TheVariants as smalls
use Rattle.cx_scene.specs.declared.declared.Action.TheVariants as actions
use Rattle.cx_scene.specs.declared.call.Call.{Call}
use Rattle.cx_scene.specs.declared.call.Call.TheVariants as calls
use Rattle.cx_text.specs.declared.form.Form.{Form}
use Rattle.cx_text.specs.declared.form.Form.TheVariants as forms
use Rattle.cx_text.specs.declared.form.Field.TheVariants as fields
use Rattle.cx_text.specs.declared.form.Sort.{Sort}
use Rattle.cx_text.specs.declared.form.Sort.TheVariants as sorts
use Rattle.cx_text.specs.declared.form.Literal.TheVariants as literals
use Rattle.cx_text.specs.declared.form.Made.{Made}
use Rattle.cx_text.specs.declared.form.Made.TheVariants as mades
use Rattle.cx_text.specs.Table.{fields_of, spelling}
use Rattle.cx_text.specs.Words.{Filled, Value, AWord, ANumber, spread, is_name, is_one_of, policy_words, relation_words, scenario_lines}
use Rattle.cx_text.proofs.Fields.{FitFields}
use Rattle.cx_text.proofs.Rows.{IsWellFilled}
use Rattle.cx_script.specs.declared.declared.Declared.{Declared}
use Rattle.cx_script.specs.declared.declared.Declared.TheVariants as declared
use Rattle.cx_script.specs.Earlier.{ACall, ADeclaration, part_of, word_in, word_at, number_at, subject}
use Rattle.cx_script.specs.Script.{Names, place_in, name_at, object, object_at, thread_at, callback_at, natural_at, predicate_at, object_named, thread_named, words_from, policy_of, policy_word, relation_of, relation_word, call_of, declared_of, line, line_of_call, line_of_declaration, if_recursive, waits_on, meets_at, drops_of}
use Rattle.cx_script.proofs.Found.{AreFound, which, names_for}

same_word : (u w : List ℕ) → bytes_eq u w ≡ true → w ≡ u
same_word u w h = sym ((bytes_eq-Decides u w).0 h)

-- ---- words of policies and relations

policy_forth : (w : List ℕ) → is_one_of policy_words w ≡ true → policy_word (policy_of w) ≡ w
policy_forth w h = elim (cases_Bool (bytes_eq (codes "async") w)) [
  | inl a ↦ rw a (sym (same_word (codes "async") w a))
  | inr a ↦ rw a (elim (cases_Bool (bytes_eq (codes "deferred") w)) [
    | inl b ↦ rw b (sym (same_word (codes "deferred") w b))
    | inr b ↦ rw b (let h1 : (bytes_eq (codes "both") w || false) ≡ true = rw (a, b) at h in sym (same_word (codes "both") w (last (bytes_eq (codes "both") w) h1)))
  ])
]
  where
    last : (b : Bool) → (b || false) ≡ true → b ≡ true
    last true h = refl
    last false h = h

relation_forth : (w : List ℕ) → is_one_of relation_words w ≡ true → relation_word (relation_of w) ≡ w
relation_forth w h = elim (cases_Bool (bytes_eq (codes "<") w)) [
  | inl a ↦ rw a (sym (same_word (codes "<") w a))
  | inr a ↦ rw a (elim (cases_Bool (bytes_eq (codes "<=") w)) [
    | inl b ↦ rw b (sym (same_word (codes "<=") w b))
    | inr b ↦ rw b (elim (cases_Bool (bytes_eq (codes "=") w)) [
      | inl c ↦ rw c (sym (same_word (codes "=") w c))
      | inr c ↦ rw c (elim (cases_Bool (bytes_eq (codes "!=") w)) [
        | inl d ↦ rw d (sym (same_word (codes "!=") w d))
        | inr d ↦ rw d (elim (cases_Bool (bytes_eq (codes ">=") w)) [
          | inl e ↦ rw e (sym (same_word (codes ">=") w e))
          | inr e ↦ rw e (let h1 : (bytes_eq (codes ">") w || false) ≡ true = rw (a, b, c, d, e) at h in sym (same_word (codes ">") w (last (bytes_eq (codes ">") w) h1)))
        ])
      ])
    ])
  ])
]
  where
    last : (b : Bool) → (b || false) ≡ true → b ≡ true
    last true h = refl
    last false h = h

-- ---- calls

-- the call that a line says, which has that line
pub record CallForth (names : Names) (k : Option Made) (l : Filled) : Type 0 where
  pub call : Call
  pub is : call_of names k l l.form ≡ Some call
  pub back : line_of_call names call ≡ l

recursive_line : (names : Names) (k : Option Made) (x y : Call) (l : Filled) → line_of_call names x ≡ l → line_of_call names y ≡ l → line_of_call names (if_recursive k x y) ≡ l
recursive_line names None x y l p q = q
recursive_line names (Some mades.Recursive) x y l p q = p
recursive_line names (Some _) x y l p q = q

waits_on_line : (names : Names) (k : Option Made) (o : ObjectNo) → line_of_call names (waits_on k o) ≡ line forms.Wait (object names o ∷ [])
waits_on_line names None o = refl
waits_on_line names (Some mades.Latch) o = refl
waits_on_line names (Some _) o = refl

meets_at_line : (names : Names) (k : Option Made) (o : ObjectNo) → line_of_call names (meets_at k o) ≡ line forms.ArriveAndWait (object names o ∷ [])
meets_at_line names None o = refl
meets_at_line names (Some mades.Latch) o = refl
meets_at_line names (Some _) o = refl

drops_of_line : (names : Names) (k : Option Made) (o : ObjectNo) → line_of_call names (drops_of k o) ≡ line forms.Drop (object names o ∷ [])
drops_of_line names None o = refl
drops_of_line names (Some mades.Stop) o = refl
drops_of_line names (Some _) o = refl

-- names of a list are found again
each_back : (version : ℕ) (own : List ℕ) (names : Names) (s : Sort) (n : ℕ) (vs : List Value) → FitFields version own (replicate n (fields.Each s)) vs → AreFound names (replicate n (fields.Each s)) vs
    → map (λ p. AWord (name_at (names_for names (which s)) p)) (map (place_in (names_for names (which s))) (map (λ v. word_in (Some v)) vs)) ≡ vs
each_back version own names s zero [] fit found = refl
each_back version own names s zero (v ∷ vs) fit found = absurd fit
each_back version own names s (suc n) [] fit found = refl
each_back version own names s (suc n) (AWord w ∷ vs) fit found = rw found.0.at (ap (λ (t : List Value). AWord w ∷ t) (each_back version own names s n vs fit.1 found.1))
each_back version own names s (suc n) (ANumber m ∷ vs) fit found = absurd fit.0

call_at : (version : ℕ) (names : Names) (k : Option Made) (f : Form) (vs : List Value) → IsWellFilled scenario_lines version (line f vs) → AreFound names (spread (fields_of f) (length vs)) vs → part_of f ≡ ACall → CallForth names k (line f vs)
call_at version names k forms.Lock (AWord w0 ∷ []) fit found p =
    let l : Filled = line forms.Lock (AWord w0 ∷ []) in
    record { call = if_recursive k (calls.LockRecursive (object_at names l 0)) (calls.Lock (object_at names l 0)); is = refl; back = recursive_line names k (calls.LockRecursive (object_at names l 0)) (calls.Lock (object_at names l 0)) l (rw found.0.at refl) (rw found.0.at refl) }
call_at version names k forms.Lock _ fit found p = absurd (assumption fit)
call_at version names k forms.LockShared (AWord w0 ∷ []) fit found p =
    let l : Filled = line forms.LockShared (AWord w0 ∷ []) in
    record { call = calls.LockShared (object_at names l 0); is = refl; back = rw (found.0.at) refl }
call_at version names k forms.LockShared _ fit found p = absurd (assumption fit)
call_at version names k forms.TryLock (AWord w0 ∷ []) fit found p =
    let l : Filled = line forms.TryLock (AWord w0 ∷ []) in
    record { call = if_recursive k (calls.TryLockRecursive (object_at names l 0)) (calls.TryLock (object_at names l 0)); is = refl; back = recursive_line names k (calls.TryLockRecursive (object_at names l 0)) (calls.TryLock (object_at names l 0)) l (rw found.0.at refl) (rw found.0.at refl) }
call_at version names k forms.TryLock _ fit found p = absurd (assumption fit)
call_at version names k forms.TryLockShared (AWord w0 ∷ []) fit found p =
    let l : Filled = line forms.TryLockShared (AWord w0 ∷ []) in
    record { call = calls.TryLockShared (object_at names l 0); is = refl; back = rw (found.0.at) refl }
call_at version names k forms.TryLockShared _ fit found p = absurd (assumption fit)
call_at version names k forms.Unlock (AWord w0 ∷ []) fit found p =
    let l : Filled = line forms.Unlock (AWord w0 ∷ []) in
    record { call = calls.Unlock (object_at names l 0); is = refl; back = rw (found.0.at) refl }
call_at version names k forms.Unlock _ fit found p = absurd (assumption fit)
call_at version names k forms.UnlockShared (AWord w0 ∷ []) fit found p =
    let l : Filled = line forms.UnlockShared (AWord w0 ∷ []) in
    record { call = calls.UnlockShared (object_at names l 0); is = refl; back = rw (found.0.at) refl }
call_at version names k forms.UnlockShared _ fit found p = absurd (assumption fit)
call_at version names k forms.GetNumber (AWord w0 ∷ ANumber (pos n1) ∷ []) fit found p =
    let l : Filled = line forms.GetNumber (AWord w0 ∷ ANumber (pos n1) ∷ []) in
    record { call = calls.Get (object_at names l 0) (natural_at l 1); is = refl; back = rw (found.0.at) refl }
call_at version names k forms.GetNumber _ fit found p = absurd (assumption fit)
call_at version names k forms.SetNumber (AWord w0 ∷ ANumber (pos n1) ∷ ANumber n2 ∷ []) fit found p =
    let l : Filled = line forms.SetNumber (AWord w0 ∷ ANumber (pos n1) ∷ ANumber n2 ∷ []) in
    record { call = calls.Set (object_at names l 0) (natural_at l 1) (number_at l 2); is = refl; back = rw (found.0.at) refl }
call_at version names k forms.SetNumber _ fit found p = absurd (assumption fit)
call_at version names k forms.AddNumber (AWord w0 ∷ ANumber (pos n1) ∷ ANumber n2 ∷ []) fit found p =
    let l : Filled = line forms.AddNumber (AWord w0 ∷ ANumber (pos n1) ∷ ANumber n2 ∷ []) in
    record { call = calls.Add (object_at names l 0) (natural_at l 1) (number_at l 2); is = refl; back = rw (found.0.at) refl }
call_at version names k forms.AddNumber _ fit found p = absurd (assumption fit)
call_at version names k forms.Release (AWord w0 ∷ ANumber (pos n1) ∷ []) fit found p =
    let l : Filled = line forms.Release (AWord w0 ∷ ANumber (pos n1) ∷ []) in
    record { call = calls.Release (object_at names l 0) (natural_at l 1); is = refl; back = rw (found.0.at) refl }
call_at version names k forms.Release _ fit found p = absurd (assumption fit)
call_at version names k forms.Acquire (AWord w0 ∷ []) fit found p =
    let l : Filled = line forms.Acquire (AWord w0 ∷ []) in
    record { call = calls.Acquire (object_at names l 0); is = refl; back = rw (found.0.at) refl }
call_at version names k forms.Acquire _ fit found p = absurd (assumption fit)
call_at version names k forms.TryAcquire (AWord w0 ∷ []) fit found p =
    let l : Filled = line forms.TryAcquire (AWord w0 ∷ []) in
    record { call = calls.TryAcquire (object_at names l 0); is = refl; back = rw (found.0.at) refl }
call_at version names k forms.TryAcquire _ fit found p = absurd (assumption fit)
call_at version names k forms.CountDown (AWord w0 ∷ ANumber (pos n1) ∷ []) fit found p =
    let l : Filled = line forms.CountDown (AWord w0 ∷ ANumber (pos n1) ∷ []) in
    record { call = calls.CountDown (object_at names l 0) (natural_at l 1); is = refl; back = rw (found.0.at) refl }
call_at version names k forms.CountDown _ fit found p = absurd (assumption fit)
call_at version names k forms.Wait (AWord w0 ∷ []) fit found p =
    let l : Filled = line forms.Wait (AWord w0 ∷ []) in
    record { call = waits_on k (object_at names l 0); is = refl; back = waits_on_line names k (object_at names l 0) ∙ rw found.0.at refl }
call_at version names k forms.Wait _ fit found p = absurd (assumption fit)
call_at version names k forms.TryWait (AWord w0 ∷ []) fit found p =
    let l : Filled = line forms.TryWait (AWord w0 ∷ []) in
    record { call = calls.TryWait (object_at names l 0); is = refl; back = rw (found.0.at) refl }
call_at version names k forms.TryWait _ fit found p = absurd (assumption fit)
call_at version names k forms.ArriveAndWait (AWord w0 ∷ []) fit found p =
    let l : Filled = line forms.ArriveAndWait (AWord w0 ∷ []) in
    record { call = meets_at k (object_at names l 0); is = refl; back = meets_at_line names k (object_at names l 0) ∙ rw found.0.at refl }
call_at version names k forms.ArriveAndWait _ fit found p = absurd (assumption fit)
call_at version names k forms.Arrive (AWord w0 ∷ ANumber (pos n1) ∷ []) fit found p =
    let l : Filled = line forms.Arrive (AWord w0 ∷ ANumber (pos n1) ∷ []) in
    record { call = calls.Arrive (object_at names l 0) (natural_at l 1); is = refl; back = rw (found.0.at) refl }
call_at version names k forms.Arrive _ fit found p = absurd (assumption fit)
call_at version names k forms.ArriveAndDrop (AWord w0 ∷ []) fit found p =
    let l : Filled = line forms.ArriveAndDrop (AWord w0 ∷ []) in
    record { call = calls.ArriveAndDrop (object_at names l 0); is = refl; back = rw (found.0.at) refl }
call_at version names k forms.ArriveAndDrop _ fit found p = absurd (assumption fit)
call_at version names k forms.CallOnceReturn (AWord w0 ∷ AWord w1 ∷ []) fit found p =
    let l : Filled = line forms.CallOnceReturn (AWord w0 ∷ AWord w1 ∷ []) in
    record { call = calls.CallOnceReturn (object_at names l 0); is = refl; back = rw (found.0.at, same_word (spelling literals.Return) w1 fit.1.0) refl }
call_at version names k forms.CallOnceReturn _ fit found p = absurd (assumption fit)
call_at version names k forms.CallOnceThrow (AWord w0 ∷ AWord w1 ∷ ANumber (pos n2) ∷ []) fit found p =
    let l : Filled = line forms.CallOnceThrow (AWord w0 ∷ AWord w1 ∷ ANumber (pos n2) ∷ []) in
    record { call = calls.CallOnceThrow (object_at names l 0) (natural_at l 2); is = refl; back = rw (found.0.at, same_word (spelling literals.Throw) w1 fit.1.0) refl }
call_at version names k forms.CallOnceThrow _ fit found p = absurd (assumption fit)
call_at version names k forms.WaitCondition (AWord w0 ∷ AWord w1 ∷ []) fit found p =
    let l : Filled = line forms.WaitCondition (AWord w0 ∷ AWord w1 ∷ []) in
    record { call = calls.WaitCondition (object_at names l 0) (object_at names l 1); is = refl; back = rw (found.0.at, found.1.0.at) refl }
call_at version names k forms.WaitCondition _ fit found p = absurd (assumption fit)
call_at version names k forms.WaitPredicate (AWord w0 ∷ AWord w1 ∷ ANumber (pos n2) ∷ AWord w3 ∷ ANumber n4 ∷ []) fit found p =
    let l : Filled = line forms.WaitPredicate (AWord w0 ∷ AWord w1 ∷ ANumber (pos n2) ∷ AWord w3 ∷ ANumber n4 ∷ []) in
    record { call = calls.WaitPredicate (object_at names l 0) (object_at names l 1) (predicate_at l 2); is = refl; back = rw (found.0.at, found.1.0.at, relation_forth w3 fit.1.1.1.0) refl }
call_at version names k forms.WaitPredicate _ fit found p = absurd (assumption fit)
call_at version names k forms.WaitStop (AWord w0 ∷ AWord w1 ∷ AWord w2 ∷ ANumber (pos n3) ∷ AWord w4 ∷ ANumber n5 ∷ []) fit found p =
    let l : Filled = line forms.WaitStop (AWord w0 ∷ AWord w1 ∷ AWord w2 ∷ ANumber (pos n3) ∷ AWord w4 ∷ ANumber n5 ∷ []) in
    record { call = calls.WaitStop (object_at names l 0) (object_at names l 1) (object_at names l 2) (predicate_at l 3); is = refl; back = rw (found.0.at, found.1.0.at, found.1.1.0.at, relation_forth w4 fit.1.1.1.1.0) refl }
call_at version names k forms.WaitStop _ fit found p = absurd (assumption fit)
call_at version names k forms.NotifyOne (AWord w0 ∷ []) fit found p =
    let l : Filled = line forms.NotifyOne (AWord w0 ∷ []) in
    record { call = calls.NotifyOne (object_at names l 0); is = refl; back = rw (found.0.at) refl }
call_at version names k forms.NotifyOne _ fit found p = absurd (assumption fit)
call_at version names k forms.NotifyAll (AWord w0 ∷ []) fit found p =
    let l : Filled = line forms.NotifyAll (AWord w0 ∷ []) in
    record { call = calls.NotifyAll (object_at names l 0); is = refl; back = rw (found.0.at) refl }
call_at version names k forms.NotifyAll _ fit found p = absurd (assumption fit)
call_at version names k forms.RequestStop (AWord w0 ∷ []) fit found p =
    let l : Filled = line forms.RequestStop (AWord w0 ∷ []) in
    record { call = calls.RequestStop (object_at names l 0); is = refl; back = rw (found.0.at) refl }
call_at version names k forms.RequestStop _ fit found p = absurd (assumption fit)
call_at version names k forms.StopRequested (AWord w0 ∷ []) fit found p =
    let l : Filled = line forms.StopRequested (AWord w0 ∷ []) in
    record { call = calls.StopRequested (object_at names l 0); is = refl; back = rw (found.0.at) refl }
call_at version names k forms.StopRequested _ fit found p = absurd (assumption fit)
call_at version names k forms.StopPossible (AWord w0 ∷ []) fit found p =
    let l : Filled = line forms.StopPossible (AWord w0 ∷ []) in
    record { call = calls.StopPossible (object_at names l 0); is = refl; back = rw (found.0.at) refl }
call_at version names k forms.StopPossible _ fit found p = absurd (assumption fit)
call_at version names k forms.Another (AWord w0 ∷ []) fit found p =
    let l : Filled = line forms.Another (AWord w0 ∷ []) in
    record { call = calls.Another (object_at names l 0); is = refl; back = rw (found.0.at) refl }
call_at version names k forms.Another _ fit found p = absurd (assumption fit)
call_at version names k forms.Drop (AWord w0 ∷ []) fit found p =
    let l : Filled = line forms.Drop (AWord w0 ∷ []) in
    record { call = drops_of k (object_at names l 0); is = refl; back = drops_of_line names k (object_at names l 0) ∙ rw found.0.at refl }
call_at version names k forms.Drop _ fit found p = absurd (assumption fit)
call_at version names k forms.Register (AWord w0 ∷ []) fit found p =
    let l : Filled = line forms.Register (AWord w0 ∷ []) in
    record { call = calls.Register (callback_at names l 0); is = refl; back = rw (found.0.at) refl }
call_at version names k forms.Register _ fit found p = absurd (assumption fit)
call_at version names k forms.Deregister (AWord w0 ∷ []) fit found p =
    let l : Filled = line forms.Deregister (AWord w0 ∷ []) in
    record { call = calls.Deregister (callback_at names l 0); is = refl; back = rw (found.0.at) refl }
call_at version names k forms.Deregister _ fit found p = absurd (assumption fit)
call_at version names k forms.SetValue (AWord w0 ∷ ANumber n1 ∷ []) fit found p =
    let l : Filled = line forms.SetValue (AWord w0 ∷ ANumber n1 ∷ []) in
    record { call = calls.SetValue (object_at names l 0) (number_at l 1); is = refl; back = rw (found.0.at) refl }
call_at version names k forms.SetValue _ fit found p = absurd (assumption fit)
call_at version names k forms.SetException (AWord w0 ∷ ANumber (pos n1) ∷ []) fit found p =
    let l : Filled = line forms.SetException (AWord w0 ∷ ANumber (pos n1) ∷ []) in
    record { call = calls.SetException (object_at names l 0) (natural_at l 1); is = refl; back = rw (found.0.at) refl }
call_at version names k forms.SetException _ fit found p = absurd (assumption fit)
call_at version names k forms.Invoke (AWord w0 ∷ []) fit found p =
    let l : Filled = line forms.Invoke (AWord w0 ∷ []) in
    record { call = calls.Invoke (object_at names l 0); is = refl; back = rw (found.0.at) refl }
call_at version names k forms.Invoke _ fit found p = absurd (assumption fit)
call_at version names k forms.GetFuture (AWord w0 ∷ []) fit found p =
    let l : Filled = line forms.GetFuture (AWord w0 ∷ []) in
    record { call = calls.GetFuture (object_at names l 0); is = refl; back = rw (found.0.at) refl }
call_at version names k forms.GetFuture _ fit found p = absurd (assumption fit)
call_at version names k forms.Share (AWord w0 ∷ []) fit found p =
    let l : Filled = line forms.Share (AWord w0 ∷ []) in
    record { call = calls.Share (object_at names l 0); is = refl; back = rw (found.0.at) refl }
call_at version names k forms.Share _ fit found p = absurd (assumption fit)
call_at version names k forms.GetOutcome (AWord w0 ∷ []) fit found p =
    let l : Filled = line forms.GetOutcome (AWord w0 ∷ []) in
    record { call = calls.GetOutcome (object_at names l 0); is = refl; back = rw (found.0.at) refl }
call_at version names k forms.GetOutcome _ fit found p = absurd (assumption fit)
call_at version names k forms.Start (AWord w0 ∷ []) fit found p =
    let l : Filled = line forms.Start (AWord w0 ∷ []) in
    record { call = calls.Start (thread_at names l 0); is = refl; back = rw (found.0.at) refl }
call_at version names k forms.Start _ fit found p = absurd (assumption fit)
call_at version names k forms.Join (AWord w0 ∷ []) fit found p =
    let l : Filled = line forms.Join (AWord w0 ∷ []) in
    record { call = calls.Join (thread_at names l 0); is = refl; back = rw (found.0.at) refl }
call_at version names k forms.Join _ fit found p = absurd (assumption fit)
call_at version names k forms.Launch (AWord w0 ∷ []) fit found p =
    let l : Filled = line forms.Launch (AWord w0 ∷ []) in
    record { call = calls.Launch (object_at names l 0); is = refl; back = rw (found.0.at) refl }
call_at version names k forms.Launch _ fit found p = absurd (assumption fit)
call_at version names k forms.LockAll vs fit found p =
    let l : Filled = line forms.LockAll vs in
    record { call = calls.LockAll (map (place_in names.objects) (map (λ v. word_in (Some v)) l.values)); is = refl; back = ap (line forms.LockAll) (each_back version _ names sorts.Mutexes (max 2 (min (length vs) 4)) vs fit found) }
call_at version names k forms.TryLockAll vs fit found p =
    let l : Filled = line forms.TryLockAll vs in
    record { call = calls.TryLockAll (map (place_in names.objects) (map (λ v. word_in (Some v)) l.values)); is = refl; back = ap (line forms.TryLockAll) (each_back version _ names sorts.Mutexes (max 2 (min (length vs) 4)) vs fit found) }
call_at version names k _ vs fit found p = absurd cc

pub call_forth : (version : ℕ) (names : Names) (k : Option Made) (l : Filled) → IsWellFilled scenario_lines version l → AreFound names (spread (fields_of l.form) (length l.values)) l.values → part_of l.form ≡ ACall → CallForth names k l
call_forth version names k l fit found p = call_at version names k l.form l.values fit found p

-- ---- declarations

-- what a line declares, which has that line
pub record DeclaredForth (names : Names) (l : Filled) : Type 0 where
  pub what : Declared
  pub is : declared_of names l l.form ≡ Some what
  pub back : line_of_declaration names (subject l) what ≡ l

declared_at : (version : ℕ) (names : Names) (f : Form) (vs : List Value) → IsWellFilled scenario_lines version (line f vs) → AreFound names (spread (fields_of f) (length vs)) vs → part_of f ≡ ADeclaration → DeclaredForth names (line f vs)
declared_at version names forms.Thread (AWord w0 ∷ []) fit found p =
    let l : Filled = line forms.Thread (AWord w0 ∷ []) in
    record { what = declared.Thread; is = refl; back = refl }
declared_at version names forms.Thread _ fit found p = absurd (assumption fit)
declared_at version names forms.JThread (AWord w0 ∷ []) fit found p =
    let l : Filled = line forms.JThread (AWord w0 ∷ []) in
    record { what = declared.JThread; is = refl; back = refl }
declared_at version names forms.JThread _ fit found p = absurd (assumption fit)
declared_at version names forms.AsyncReturn (AWord w0 ∷ AWord w1 ∷ AWord w2 ∷ ANumber n3 ∷ []) fit found p =
    let l : Filled = line forms.AsyncReturn (AWord w0 ∷ AWord w1 ∷ AWord w2 ∷ ANumber n3 ∷ []) in
    record { what = (declared.Async (policy_of (word_at l 1)) (functions.Return (number_at l 3))); is = refl; back = rw (policy_forth w1 fit.1.0, same_word (spelling literals.Return) w2 fit.1.1.0) refl }
declared_at version names forms.AsyncReturn _ fit found p = absurd (assumption fit)
declared_at version names forms.AsyncThrow (AWord w0 ∷ AWord w1 ∷ AWord w2 ∷ ANumber (pos n3) ∷ []) fit found p =
    let l : Filled = line forms.AsyncThrow (AWord w0 ∷ AWord w1 ∷ AWord w2 ∷ ANumber (pos n3) ∷ []) in
    record { what = (declared.Async (policy_of (word_at l 1)) (functions.Throw (natural_at l 3))); is = refl; back = rw (policy_forth w1 fit.1.0, same_word (spelling literals.Throw) w2 fit.1.1.0) refl }
declared_at version names forms.AsyncThrow _ fit found p = absurd (assumption fit)
declared_at version names forms.Mutex (AWord w0 ∷ ANumber (pos n1) ∷ []) fit found p =
    let l : Filled = line forms.Mutex (AWord w0 ∷ ANumber (pos n1) ∷ []) in
    record { what = (declared.Mutex (natural_at l 1)); is = refl; back = refl }
declared_at version names forms.Mutex _ fit found p = absurd (assumption fit)
declared_at version names forms.Recursive (AWord w0 ∷ []) fit found p =
    let l : Filled = line forms.Recursive (AWord w0 ∷ []) in
    record { what = declared.Recursive; is = refl; back = refl }
declared_at version names forms.Recursive _ fit found p = absurd (assumption fit)
declared_at version names forms.Shared (AWord w0 ∷ []) fit found p =
    let l : Filled = line forms.Shared (AWord w0 ∷ []) in
    record { what = declared.Shared; is = refl; back = refl }
declared_at version names forms.Shared _ fit found p = absurd (assumption fit)
declared_at version names forms.Semaphore (AWord w0 ∷ ANumber (pos n1) ∷ ANumber (pos n2) ∷ []) fit found p =
    let l : Filled = line forms.Semaphore (AWord w0 ∷ ANumber (pos n1) ∷ ANumber (pos n2) ∷ []) in
    record { what = (declared.Semaphore (natural_at l 1) (natural_at l 2)); is = refl; back = refl }
declared_at version names forms.Semaphore _ fit found p = absurd (assumption fit)
declared_at version names forms.Latch (AWord w0 ∷ ANumber (pos n1) ∷ []) fit found p =
    let l : Filled = line forms.Latch (AWord w0 ∷ ANumber (pos n1) ∷ []) in
    record { what = (declared.Latch (natural_at l 1)); is = refl; back = refl }
declared_at version names forms.Latch _ fit found p = absurd (assumption fit)
declared_at version names forms.Barrier (AWord w0 ∷ ANumber (pos n1) ∷ []) fit found p =
    let l : Filled = line forms.Barrier (AWord w0 ∷ ANumber (pos n1) ∷ []) in
    record { what = (declared.Barrier (natural_at l 1) None); is = refl; back = refl }
declared_at version names forms.Barrier _ fit found p = absurd (assumption fit)
declared_at version names forms.BarrierRelease (AWord w0 ∷ ANumber (pos n1) ∷ AWord w2 ∷ AWord w3 ∷ ANumber (pos n4) ∷ []) fit found p =
    let l : Filled = line forms.BarrierRelease (AWord w0 ∷ ANumber (pos n1) ∷ AWord w2 ∷ AWord w3 ∷ ANumber (pos n4) ∷ []) in
    record { what = (declared.Barrier (natural_at l 1) (Some (smalls.Release (object_named names (word_at l 3)) (natural_at l 4)))); is = refl; back = rw (same_word (spelling literals.Release) w2 fit.1.1.0, found.1.1.1.0.at) refl }
declared_at version names forms.BarrierRelease _ fit found p = absurd (assumption fit)
declared_at version names forms.BarrierNotifyOne (AWord w0 ∷ ANumber (pos n1) ∷ AWord w2 ∷ AWord w3 ∷ []) fit found p =
    let l : Filled = line forms.BarrierNotifyOne (AWord w0 ∷ ANumber (pos n1) ∷ AWord w2 ∷ AWord w3 ∷ []) in
    record { what = (declared.Barrier (natural_at l 1) (Some (smalls.NotifyOne (object_named names (word_at l 3))))); is = refl; back = rw (same_word (spelling literals.NotifyOne) w2 fit.1.1.0, found.1.1.1.0.at) refl }
declared_at version names forms.BarrierNotifyOne _ fit found p = absurd (assumption fit)
declared_at version names forms.BarrierNotifyAll (AWord w0 ∷ ANumber (pos n1) ∷ AWord w2 ∷ AWord w3 ∷ []) fit found p =
    let l : Filled = line forms.BarrierNotifyAll (AWord w0 ∷ ANumber (pos n1) ∷ AWord w2 ∷ AWord w3 ∷ []) in
    record { what = (declared.Barrier (natural_at l 1) (Some (smalls.NotifyAll (object_named names (word_at l 3))))); is = refl; back = rw (same_word (spelling literals.NotifyAll) w2 fit.1.1.0, found.1.1.1.0.at) refl }
declared_at version names forms.BarrierNotifyAll _ fit found p = absurd (assumption fit)
declared_at version names forms.Once (AWord w0 ∷ []) fit found p =
    let l : Filled = line forms.Once (AWord w0 ∷ []) in
    record { what = declared.Once; is = refl; back = refl }
declared_at version names forms.Once _ fit found p = absurd (assumption fit)
declared_at version names forms.Condition (AWord w0 ∷ []) fit found p =
    let l : Filled = line forms.Condition (AWord w0 ∷ []) in
    record { what = declared.Condition; is = refl; back = refl }
declared_at version names forms.Condition _ fit found p = absurd (assumption fit)
declared_at version names forms.CallbackRelease (AWord w0 ∷ AWord w1 ∷ AWord w2 ∷ AWord w3 ∷ ANumber (pos n4) ∷ []) fit found p =
    let l : Filled = line forms.CallbackRelease (AWord w0 ∷ AWord w1 ∷ AWord w2 ∷ AWord w3 ∷ ANumber (pos n4) ∷ []) in
    record { what = (declared.Callback (object_named names (word_at l 1)) (actions.Small (smalls.Release (object_named names (word_at l 3)) (natural_at l 4)))); is = refl; back = rw (found.1.0.at, same_word (spelling literals.Release) w2 fit.1.1.0, found.1.1.1.0.at) refl }
declared_at version names forms.CallbackRelease _ fit found p = absurd (assumption fit)
declared_at version names forms.CallbackNotifyOne (AWord w0 ∷ AWord w1 ∷ AWord w2 ∷ AWord w3 ∷ []) fit found p =
    let l : Filled = line forms.CallbackNotifyOne (AWord w0 ∷ AWord w1 ∷ AWord w2 ∷ AWord w3 ∷ []) in
    record { what = (declared.Callback (object_named names (word_at l 1)) (actions.Small (smalls.NotifyOne (object_named names (word_at l 3))))); is = refl; back = rw (found.1.0.at, same_word (spelling literals.NotifyOne) w2 fit.1.1.0, found.1.1.1.0.at) refl }
declared_at version names forms.CallbackNotifyOne _ fit found p = absurd (assumption fit)
declared_at version names forms.CallbackNotifyAll (AWord w0 ∷ AWord w1 ∷ AWord w2 ∷ AWord w3 ∷ []) fit found p =
    let l : Filled = line forms.CallbackNotifyAll (AWord w0 ∷ AWord w1 ∷ AWord w2 ∷ AWord w3 ∷ []) in
    record { what = (declared.Callback (object_named names (word_at l 1)) (actions.Small (smalls.NotifyAll (object_named names (word_at l 3))))); is = refl; back = rw (found.1.0.at, same_word (spelling literals.NotifyAll) w2 fit.1.1.0, found.1.1.1.0.at) refl }
declared_at version names forms.CallbackNotifyAll _ fit found p = absurd (assumption fit)
declared_at version names forms.CallbackDeregister (AWord w0 ∷ AWord w1 ∷ AWord w2 ∷ AWord w3 ∷ []) fit found p =
    let l : Filled = line forms.CallbackDeregister (AWord w0 ∷ AWord w1 ∷ AWord w2 ∷ AWord w3 ∷ []) in
    record { what = (declared.Callback (object_named names (word_at l 1)) actions.Deregister); is = refl; back = rw (found.1.0.at, same_word (spelling literals.Deregister) w2 fit.1.1.0, same_word w0 w3 (and_parts (is_name version w3) (bytes_eq w0 w3) fit.1.1.1.0).1) refl }
declared_at version names forms.CallbackDeregister _ fit found p = absurd (assumption fit)
declared_at version names forms.Promise (AWord w0 ∷ AWord w1 ∷ AWord w2 ∷ []) fit found p =
    let l : Filled = line forms.Promise (AWord w0 ∷ AWord w1 ∷ AWord w2 ∷ []) in
    record { what = (declared.Promise (thread_named names (word_at l 1)) (thread_named names (word_at l 2))); is = refl; back = rw (found.1.0.at, found.1.1.0.at) refl }
declared_at version names forms.Promise _ fit found p = absurd (assumption fit)
declared_at version names forms.TaskReturn (AWord w0 ∷ AWord w1 ∷ AWord w2 ∷ AWord w3 ∷ ANumber n4 ∷ []) fit found p =
    let l : Filled = line forms.TaskReturn (AWord w0 ∷ AWord w1 ∷ AWord w2 ∷ AWord w3 ∷ ANumber n4 ∷ []) in
    record { what = (declared.Task (thread_named names (word_at l 1)) (thread_named names (word_at l 2)) (functions.Return (number_at l 4))); is = refl; back = rw (found.1.0.at, found.1.1.0.at, same_word (spelling literals.Return) w3 fit.1.1.1.0) refl }
declared_at version names forms.TaskReturn _ fit found p = absurd (assumption fit)
declared_at version names forms.TaskThrow (AWord w0 ∷ AWord w1 ∷ AWord w2 ∷ AWord w3 ∷ ANumber (pos n4) ∷ []) fit found p =
    let l : Filled = line forms.TaskThrow (AWord w0 ∷ AWord w1 ∷ AWord w2 ∷ AWord w3 ∷ ANumber (pos n4) ∷ []) in
    record { what = (declared.Task (thread_named names (word_at l 1)) (thread_named names (word_at l 2)) (functions.Throw (natural_at l 4))); is = refl; back = rw (found.1.0.at, found.1.1.0.at, same_word (spelling literals.Throw) w3 fit.1.1.1.0) refl }
declared_at version names forms.TaskThrow _ fit found p = absurd (assumption fit)
declared_at version names forms.Stop [] fit found p = absurd (assumption fit)
declared_at version names forms.Stop (ANumber n ∷ vs) fit found p = absurd (assumption fit)
declared_at version names forms.Stop (AWord w0 ∷ vs) fit found p =
    let l : Filled = line forms.Stop (AWord w0 ∷ vs) in
    record {
      what = declared.Stop (map (place_in names.threads) (words_from 1 l));
      is = refl;
      back = ap (λ (t : List Value). line forms.Stop (AWord w0 ∷ t)) (each_back version _ names sorts.Holders (max 0 (min (length (AWord w0 ∷ vs) - 1) 5)) vs fit.1 found.1);
    }
declared_at version names forms.SharedPromise [] fit found p = absurd (assumption fit)
declared_at version names forms.SharedPromise (ANumber n ∷ vs) fit found p = absurd (assumption fit)
declared_at version names forms.SharedPromise (AWord w0 ∷ []) fit found p = absurd (assumption fit)
declared_at version names forms.SharedPromise (AWord w0 ∷ ANumber n ∷ vs) fit found p = absurd (assumption fit)
declared_at version names forms.SharedPromise (AWord w0 ∷ AWord w1 ∷ vs) fit found p =
    let l : Filled = line forms.SharedPromise (AWord w0 ∷ AWord w1 ∷ vs) in
    record {
      what = declared.SharedPromise (thread_named names (word_at l 1)) (map (place_in names.threads) (words_from 2 l));
      is = refl;
      back = rw found.1.0.at (ap (λ (t : List Value). line forms.SharedPromise (AWord w0 ∷ AWord w1 ∷ t)) (each_back version _ names sorts.Holders (max 1 (min (length (AWord w0 ∷ AWord w1 ∷ vs) - 1 - 1) 4)) vs fit.1.1 found.1.1));
    }
declared_at version names _ vs fit found p = absurd cc

pub declared_forth : (version : ℕ) (names : Names) (l : Filled) → IsWellFilled scenario_lines version l → AreFound names (spread (fields_of l.form) (length l.values)) l.values → part_of l.form ≡ ADeclaration → DeclaredForth names l
declared_forth version names l fit found p = declared_at version names l.form l.values fit found p
