-- For the rows of a record's table whose words fit another row too: such a line is read as itself.
use Rattle.std.proofs.Common.{◌≡◌, ℕ, suc, ◌^◌, ◌<◌, ◌≤◌, ℤ, pos, negsuc, Bool, true, false, cond, ◌&&◌, not, List, [], ◌∷◌, ◌++◌, filter, map, length, Option, Some, None, refl, sym, ap, ◌∙◌, arith}
use Rattle.std.specs.Prelude.{codes, nat_lt, nat_le}
use Rattle.std.specs.Option.{option_map}
use Rattle.std.specs.List.{list_all, AllByRecursion}
use Rattle.std.specs.Str.{bytes_eq}
use Rattle.std.specs.Fmt.{decimal, signed_decimal}
use Rattle.std.proofs.lemmas.Bool.{and_parts, and_left, or_parts, ne_eqb, false≢true}
use Rattle.std.proofs.lemmas.Bool.Decides.{nat_tests}
use Rattle.cx_text.specs.declared.item.ItemForm.{ItemForm}
use Rattle.cx_text.specs.declared.item.ItemForm.TheVariants as forms
use Rattle.cx_text.specs.declared.form.Literal.TheVariants as literals
use Rattle.cx_text.specs.declared.form.Field.TheVariants as fields
use Rattle.cx_text.specs.declared.form.Sort.TheVariants as sorts
use Rattle.cx_text.specs.Table.{spelling}
use Rattle.cx_text.specs.Words.{Table, Said, Value, AWord, ANumber, spell, said_as, first_some, rows_for, line_by, words_by, with_value, values_of, value_of, is_name, is_digit, is_digits, integer_of, is_one_of, reply_words, main_word, spread, has_head, has_literals, is_lower, begins_lower, is_name_byte, is_reserved, digits_from}
use Rattle.cx_text.specs.Items.{items}
use Rattle.cx_text.proofs.Fields.{decimal_digits, IsShort}
use Rattle.cx_text.proofs.Rows.{IsWellFilled, said_back}

-- ---- the first row, or the second, of those with these words

first_of : {A B : Type 0} (f : A → Option B) (x : A) (rest : List A) (y : B) → f x ≡ Some y → first_some f (x ∷ rest) ≡ Some y
first_of f x rest y e = rw e refl

second_of : {A B : Type 0} (f : A → Option B) (w x : A) (rest : List A) (y : B) → f w ≡ None → f x ≡ Some y → first_some f (w ∷ x ∷ rest) ≡ Some y
second_of f w x rest y none e = rw (none, e) refl

module _ (F : Type 0) (table : Table F) (version : ℕ) where
  pub first_back : (line : Said F) (rest : List F) → rows_for table version (table.head line.form) (map spell line.values) ≡ line.form ∷ rest → IsWellFilled table version line
      → line_by table version (words_by table line) ≡ Some line
  unfolding line_by
  first_back line rest rows fits =
      ap (first_some (said_as table version (map spell line.values))) rows
      ∙ first_of (said_as table version (map spell line.values)) line.form rest line (said_back F table version line fits)

  pub second_back : (line : Said F) (other : F) (rest : List F) → rows_for table version (table.head line.form) (map spell line.values) ≡ other ∷ line.form ∷ rest
      → said_as table version (map spell line.values) other ≡ None → IsWellFilled table version line → line_by table version (words_by table line) ≡ Some line
  unfolding line_by
  second_back line other rest rows none fits =
      ap (first_some (said_as table version (map spell line.values))) rows
      ∙ second_of (said_as table version (map spell line.values)) other line.form rest line none (said_back F table version line fits)

abbrev pub IsReadBack : Said ItemForm → Type 0
IsReadBack line = line_by items 1 (words_by items line) ≡ Some line

-- ---- replies of one word

pub back_replyok : IsReadBack (record { form = forms.ReplyOk; values = AWord (spelling literals.Ok) ∷ [] })
unfolding rows_for
back_replyok = first_back ItemForm items 1 (record { form = forms.ReplyOk; values = AWord (spelling literals.Ok) ∷ [] }) (forms.ReplyNumber ∷ forms.ReplyThread ∷ []) refl (refl, tt)

pub back_replytrue : IsReadBack (record { form = forms.ReplyTrue; values = AWord (spelling literals.True) ∷ [] })
unfolding rows_for
back_replytrue = first_back ItemForm items 1 (record { form = forms.ReplyTrue; values = AWord (spelling literals.True) ∷ [] }) (forms.ReplyNumber ∷ forms.ReplyThread ∷ []) refl (refl, tt)

pub back_replyfalse : IsReadBack (record { form = forms.ReplyFalse; values = AWord (spelling literals.False) ∷ [] })
unfolding rows_for
back_replyfalse = first_back ItemForm items 1 (record { form = forms.ReplyFalse; values = AWord (spelling literals.False) ∷ [] }) (forms.ReplyNumber ∷ forms.ReplyThread ∷ []) refl (refl, tt)

pub back_replyover : IsReadBack (record { form = forms.ReplyOver; values = AWord (spelling literals.Over) ∷ [] })
unfolding rows_for
back_replyover = first_back ItemForm items 1 (record { form = forms.ReplyOver; values = AWord (spelling literals.Over) ∷ [] }) (forms.ReplyNumber ∷ forms.ReplyThread ∷ []) refl (refl, tt)

pub back_replyoverexpected : IsReadBack (record { form = forms.ReplyOverExpected; values = AWord (spelling literals.OverExpected) ∷ [] })
unfolding rows_for
back_replyoverexpected = first_back ItemForm items 1 (record { form = forms.ReplyOverExpected; values = AWord (spelling literals.OverExpected) ∷ [] }) (forms.ReplyNumber ∷ forms.ReplyThread ∷ []) refl (refl, tt)

pub back_replymaxlevels : IsReadBack (record { form = forms.ReplyMaxLevels; values = AWord (spelling literals.MaxLevels) ∷ [] })
unfolding rows_for
back_replymaxlevels = first_back ItemForm items 1 (record { form = forms.ReplyMaxLevels; values = AWord (spelling literals.MaxLevels) ∷ [] }) (forms.ReplyNumber ∷ forms.ReplyThread ∷ []) refl (refl, tt)

pub back_replyoverflow : IsReadBack (record { form = forms.ReplyOverflow; values = AWord (spelling literals.Overflow) ∷ [] })
unfolding rows_for
back_replyoverflow = first_back ItemForm items 1 (record { form = forms.ReplyOverflow; values = AWord (spelling literals.Overflow) ∷ [] }) (forms.ReplyNumber ∷ forms.ReplyThread ∷ []) refl (refl, tt)

pub back_replymade : IsReadBack (record { form = forms.ReplyMade; values = AWord (spelling literals.Made) ∷ [] })
unfolding rows_for
back_replymade = first_back ItemForm items 1 (record { form = forms.ReplyMade; values = AWord (spelling literals.Made) ∷ [] }) (forms.ReplyNumber ∷ forms.ReplyThread ∷ []) refl (refl, tt)

pub back_replyalready : IsReadBack (record { form = forms.ReplyAlready; values = AWord (spelling literals.Already) ∷ [] })
unfolding rows_for
back_replyalready = first_back ItemForm items 1 (record { form = forms.ReplyAlready; values = AWord (spelling literals.Already) ∷ [] }) (forms.ReplyNumber ∷ forms.ReplyThread ∷ []) refl (refl, tt)

pub back_replyqueued : IsReadBack (record { form = forms.ReplyQueued; values = AWord (spelling literals.Queued) ∷ [] })
unfolding rows_for
back_replyqueued = first_back ItemForm items 1 (record { form = forms.ReplyQueued; values = AWord (spelling literals.Queued) ∷ [] }) (forms.ReplyNumber ∷ forms.ReplyThread ∷ []) refl (refl, tt)

pub back_replyran : IsReadBack (record { form = forms.ReplyRan; values = AWord (spelling literals.Ran) ∷ [] })
unfolding rows_for
back_replyran = first_back ItemForm items 1 (record { form = forms.ReplyRan; values = AWord (spelling literals.Ran) ∷ [] }) (forms.ReplyNumber ∷ forms.ReplyThread ∷ []) refl (refl, tt)

pub back_replynever : IsReadBack (record { form = forms.ReplyNever; values = AWord (spelling literals.Never) ∷ [] })
unfolding rows_for
back_replynever = first_back ItemForm items 1 (record { form = forms.ReplyNever; values = AWord (spelling literals.Never) ∷ [] }) (forms.ReplyNumber ∷ forms.ReplyThread ∷ []) refl (refl, tt)

pub back_replyremoved : IsReadBack (record { form = forms.ReplyRemoved; values = AWord (spelling literals.Removed) ∷ [] })
unfolding rows_for
back_replyremoved = first_back ItemForm items 1 (record { form = forms.ReplyRemoved; values = AWord (spelling literals.Removed) ∷ [] }) (forms.ReplyNumber ∷ forms.ReplyThread ∷ []) refl (refl, tt)

pub back_replyinside : IsReadBack (record { form = forms.ReplyInside; values = AWord (spelling literals.Inside) ∷ [] })
unfolding rows_for
back_replyinside = first_back ItemForm items 1 (record { form = forms.ReplyInside; values = AWord (spelling literals.Inside) ∷ [] }) (forms.ReplyNumber ∷ forms.ReplyThread ∷ []) refl (refl, tt)

pub back_replynotheld : IsReadBack (record { form = forms.ReplyNotHeld; values = AWord (spelling literals.NotHeld) ∷ [] })
unfolding rows_for
back_replynotheld = first_back ItemForm items 1 (record { form = forms.ReplyNotHeld; values = AWord (spelling literals.NotHeld) ∷ [] }) (forms.ReplyNumber ∷ forms.ReplyThread ∷ []) refl (refl, tt)

pub back_replyreturned : IsReadBack (record { form = forms.ReplyReturned; values = AWord (spelling literals.Returned) ∷ [] })
unfolding rows_for
back_replyreturned = first_back ItemForm items 1 (record { form = forms.ReplyReturned; values = AWord (spelling literals.Returned) ∷ [] }) (forms.ReplyNumber ∷ forms.ReplyThread ∷ []) refl (refl, tt)

pub back_replypassive : IsReadBack (record { form = forms.ReplyPassive; values = AWord (spelling literals.Passive) ∷ [] })
unfolding rows_for
back_replypassive = first_back ItemForm items 1 (record { form = forms.ReplyPassive; values = AWord (spelling literals.Passive) ∷ [] }) (forms.ReplyNumber ∷ forms.ReplyThread ∷ []) refl (refl, tt)

pub back_replynotoken : IsReadBack (record { form = forms.ReplyNoToken; values = AWord (spelling literals.NoToken) ∷ [] })
unfolding rows_for
back_replynotoken = first_back ItemForm items 1 (record { form = forms.ReplyNoToken; values = AWord (spelling literals.NoToken) ∷ [] }) (forms.ReplyNumber ∷ forms.ReplyThread ∷ []) refl (refl, tt)

pub back_replyspent : IsReadBack (record { form = forms.ReplySpent; values = AWord (spelling literals.Spent) ∷ [] })
unfolding rows_for
back_replyspent = first_back ItemForm items 1 (record { form = forms.ReplySpent; values = AWord (spelling literals.Spent) ∷ [] }) (forms.ReplyNumber ∷ forms.ReplyThread ∷ []) refl (refl, tt)

pub back_replynothread : IsReadBack (record { form = forms.ReplyNoThread; values = AWord (spelling literals.NoThread) ∷ [] })
unfolding rows_for
back_replynothread = first_back ItemForm items 1 (record { form = forms.ReplyNoThread; values = AWord (spelling literals.NoThread) ∷ [] }) (forms.ReplyNumber ∷ forms.ReplyThread ∷ []) refl (refl, tt)

pub back_replylaunched : IsReadBack (record { form = forms.ReplyLaunched; values = AWord (spelling literals.Launched) ∷ [] })
unfolding rows_for
back_replylaunched = first_back ItemForm items 1 (record { form = forms.ReplyLaunched; values = AWord (spelling literals.Launched) ∷ [] }) (forms.ReplyNumber ∷ forms.ReplyThread ∷ []) refl (refl, tt)

pub back_replydeferred : IsReadBack (record { form = forms.ReplyDeferred; values = AWord (spelling literals.Deferred) ∷ [] })
unfolding rows_for
back_replydeferred = first_back ItemForm items 1 (record { form = forms.ReplyDeferred; values = AWord (spelling literals.Deferred) ∷ [] }) (forms.ReplyNumber ∷ forms.ReplyThread ∷ []) refl (refl, tt)

pub back_replynone : IsReadBack (record { form = forms.ReplyNone; values = AWord (spelling literals.None) ∷ [] })
unfolding rows_for
back_replynone = first_back ItemForm items 1 (record { form = forms.ReplyNone; values = AWord (spelling literals.None) ∷ [] }) (forms.ReplyNumber ∷ forms.ReplyThread ∷ []) refl (refl, tt)

pub back_replynostate : IsReadBack (record { form = forms.ReplyNoState; values = AWord (spelling literals.NoState) ∷ [] })
unfolding rows_for
back_replynostate = first_back ItemForm items 1 (record { form = forms.ReplyNoState; values = AWord (spelling literals.NoState) ∷ [] }) (forms.ReplyNumber ∷ forms.ReplyThread ∷ []) refl (refl, tt)

pub back_replypromisealreadysatisfied : IsReadBack (record { form = forms.ReplyPromiseAlreadySatisfied; values = AWord (spelling literals.PromiseAlreadySatisfied) ∷ [] })
unfolding rows_for
back_replypromisealreadysatisfied = first_back ItemForm items 1 (record { form = forms.ReplyPromiseAlreadySatisfied; values = AWord (spelling literals.PromiseAlreadySatisfied) ∷ [] }) (forms.ReplyNumber ∷ forms.ReplyThread ∷ []) refl (refl, tt)

pub back_replyfuturealreadyretrieved : IsReadBack (record { form = forms.ReplyFutureAlreadyRetrieved; values = AWord (spelling literals.FutureAlreadyRetrieved) ∷ [] })
unfolding rows_for
back_replyfuturealreadyretrieved = first_back ItemForm items 1 (record { form = forms.ReplyFutureAlreadyRetrieved; values = AWord (spelling literals.FutureAlreadyRetrieved) ∷ [] }) (forms.ReplyNumber ∷ forms.ReplyThread ∷ []) refl (refl, tt)

pub back_replybrokenpromise : IsReadBack (record { form = forms.ReplyBrokenPromise; values = AWord (spelling literals.BrokenPromise) ∷ [] })
unfolding rows_for
back_replybrokenpromise = first_back ItemForm items 1 (record { form = forms.ReplyBrokenPromise; values = AWord (spelling literals.BrokenPromise) ∷ [] }) (forms.ReplyNumber ∷ forms.ReplyThread ∷ []) refl (refl, tt)

pub back_replyoperationnotpermitted : IsReadBack (record { form = forms.ReplyOperationNotPermitted; values = AWord (spelling literals.OperationNotPermitted) ∷ [] })
unfolding rows_for
back_replyoperationnotpermitted = first_back ItemForm items 1 (record { form = forms.ReplyOperationNotPermitted; values = AWord (spelling literals.OperationNotPermitted) ∷ [] }) (forms.ReplyNumber ∷ forms.ReplyThread ∷ []) refl (refl, tt)

pub back_replyresourcedeadlockwouldoccur : IsReadBack (record { form = forms.ReplyResourceDeadlockWouldOccur; values = AWord (spelling literals.ResourceDeadlockWouldOccur) ∷ [] })
unfolding rows_for
back_replyresourcedeadlockwouldoccur = first_back ItemForm items 1 (record { form = forms.ReplyResourceDeadlockWouldOccur; values = AWord (spelling literals.ResourceDeadlockWouldOccur) ∷ [] }) (forms.ReplyNumber ∷ forms.ReplyThread ∷ []) refl (refl, tt)

pub back_replyinvalidargument : IsReadBack (record { form = forms.ReplyInvalidArgument; values = AWord (spelling literals.InvalidArgument) ∷ [] })
unfolding rows_for
back_replyinvalidargument = first_back ItemForm items 1 (record { form = forms.ReplyInvalidArgument; values = AWord (spelling literals.InvalidArgument) ∷ [] }) (forms.ReplyNumber ∷ forms.ReplyThread ∷ []) refl (refl, tt)

-- ---- a notified thread

pub back_changeconditionnotifyonenone : (v0 v1 : Value) → IsWellFilled items 1 (record { form = forms.ChangeConditionNotifyOneNone; values = v0 ∷ v1 ∷ AWord (spelling literals.NotifyOne) ∷ AWord (spelling literals.None) ∷ [] })
    → IsReadBack (record { form = forms.ChangeConditionNotifyOneNone; values = v0 ∷ v1 ∷ AWord (spelling literals.NotifyOne) ∷ AWord (spelling literals.None) ∷ [] })
unfolding rows_for
back_changeconditionnotifyonenone v0 v1 fits =
    first_back ItemForm items 1 (record { form = forms.ChangeConditionNotifyOneNone; values = v0 ∷ v1 ∷ AWord (spelling literals.NotifyOne) ∷ AWord (spelling literals.None) ∷ [] }) (forms.ChangeConditionNotifyOneAnyThread ∷ []) refl fits

-- ---- numbers

pub before_letters : (n : ℕ) → n < 10 ^ 20 → (b : ℕ) (bs : List ℕ) → 58 ≤ b → bytes_eq (b ∷ bs) (decimal n) ≡ false
before_letters n lt b bs up = digits_apart b bs (decimal n) (decimal_digits n lt).2 up
  where
    digits_apart : (b : ℕ) (bs w : List ℕ) → list_all is_digit w ≡ true → 58 ≤ b → bytes_eq (b ∷ bs) w ≡ false
    digits_apart b bs [] all up = refl
    digits_apart b bs (c ∷ cs) all up =
        let p = and_parts (is_digit c) (list_all is_digit cs) all in
        let digit : is_digit c ≡ true = p.0 in
        let low : c ≤ 57 = grind (arith, nat_tests) in
        rw (ne_eqb b c (λ e. omega (arith, e, low, up))) refl

pub back_changenumberssetindexsigned : (v0 v1 : Value) (n : ℕ) (v4 : Value) → n < 10 ^ 20
    → IsWellFilled items 1 (record { form = forms.ChangeNumbersSetIndexSigned; values = v0 ∷ v1 ∷ AWord (spelling literals.Set) ∷ ANumber (pos n) ∷ v4 ∷ [] })
    → IsReadBack (record { form = forms.ChangeNumbersSetIndexSigned; values = v0 ∷ v1 ∷ AWord (spelling literals.Set) ∷ ANumber (pos n) ∷ v4 ∷ [] })
unfolding rows_for
back_changenumberssetindexsigned v0 v1 n v4 lt fits =
    first_back ItemForm items 1 (record { form = forms.ChangeNumbersSetIndexSigned; values = v0 ∷ v1 ∷ AWord (spelling literals.Set) ∷ ANumber (pos n) ∷ v4 ∷ [] }) []
    (chosen (bytes_eq (spelling literals.Value) (decimal n)) (bytes_eq (spelling literals.Exception) (decimal n)) (bytes_eq (spelling literals.BrokenPromise) (decimal n)) (before_letters n lt 118 (codes "alue") (omega arith)) (before_letters n lt 101 (codes "xception") (omega arith))) fits
  where
    last : Bool → List ItemForm
    last s = cond (s && false) (forms.ChangeFutureSetBrokenPromise ∷ []) []

    later : Bool → Bool → List ItemForm
    later u s = cond (u && true) (forms.ChangeFutureSetExceptionNumber ∷ last s) (last s)

    chosen : (t u s : Bool) → t ≡ false → u ≡ false
        → forms.ChangeNumbersSetIndexSigned ∷ cond (t && true) (forms.ChangeFutureSetValueSigned ∷ later u s) (later u s) ≡ forms.ChangeNumbersSetIndexSigned ∷ []
    chosen false false true e f = refl
    chosen false false false e f = refl
    chosen true u s e f = absurd (false≢true (sym e))
    chosen false true s e f = absurd (false≢true (sym f))

none_of : (a b c : Option Value) (rest : Option (List Value)) → with_value a (with_value b (with_value c (with_value None rest))) ≡ None
none_of None b c rest = refl
none_of (Some x) None c rest = refl
none_of (Some x) (Some y) None rest = refl
none_of (Some x) (Some y) (Some z) rest = refl

pub back_changefuturesetvaluesigned : (v0 v1 v4 : Value) → IsWellFilled items 1 (record { form = forms.ChangeFutureSetValueSigned; values = v0 ∷ v1 ∷ AWord (spelling literals.Set) ∷ AWord (spelling literals.Value) ∷ v4 ∷ [] }) → IsReadBack (record { form = forms.ChangeFutureSetValueSigned; values = v0 ∷ v1 ∷ AWord (spelling literals.Set) ∷ AWord (spelling literals.Value) ∷ v4 ∷ [] })
unfolding rows_for values_of value_of is_digits
back_changefuturesetvaluesigned v0 v1 v4 fits =
    second_back ItemForm items 1 (record { form = forms.ChangeFutureSetValueSigned; values = v0 ∷ v1 ∷ AWord (spelling literals.Set) ∷ AWord (spelling literals.Value) ∷ v4 ∷ [] }) forms.ChangeNumbersSetIndexSigned [] refl
    (ap (option_map (λ (vs : List Value). record { form = forms.ChangeNumbersSetIndexSigned; values = vs })) (none_of (value_of 1 (spell v0) (fields.Name sorts.Mutexes) (spell v0)) (value_of 1 (spell v0) (fields.Number 0 268435455) (spell v1)) (value_of 1 (spell v0) (fields.Word literals.Set) (spelling literals.Set)) (values_of 1 (spell v0) (fields.Signed ∷ []) (spell v4 ∷ []))))
    fits

pub back_changefuturesetexceptionnumber : (v0 v1 v4 : Value) → IsWellFilled items 1 (record { form = forms.ChangeFutureSetExceptionNumber; values = v0 ∷ v1 ∷ AWord (spelling literals.Set) ∷ AWord (spelling literals.Exception) ∷ v4 ∷ [] }) → IsReadBack (record { form = forms.ChangeFutureSetExceptionNumber; values = v0 ∷ v1 ∷ AWord (spelling literals.Set) ∷ AWord (spelling literals.Exception) ∷ v4 ∷ [] })
unfolding rows_for values_of value_of is_digits
back_changefuturesetexceptionnumber v0 v1 v4 fits =
    second_back ItemForm items 1 (record { form = forms.ChangeFutureSetExceptionNumber; values = v0 ∷ v1 ∷ AWord (spelling literals.Set) ∷ AWord (spelling literals.Exception) ∷ v4 ∷ [] }) forms.ChangeNumbersSetIndexSigned [] refl
    (ap (option_map (λ (vs : List Value). record { form = forms.ChangeNumbersSetIndexSigned; values = vs })) (none_of (value_of 1 (spell v0) (fields.Name sorts.Mutexes) (spell v0)) (value_of 1 (spell v0) (fields.Number 0 268435455) (spell v1)) (value_of 1 (spell v0) (fields.Word literals.Set) (spelling literals.Set)) (values_of 1 (spell v0) (fields.Signed ∷ []) (spell v4 ∷ []))))
    fits

-- a thread's name isn't the word `none`
pub back_changeconditionnotifyoneanythread : (v0 v1 : Value) (w : List ℕ) → bytes_eq (spelling literals.None) w ≡ false → IsWellFilled items 1 (record { form = forms.ChangeConditionNotifyOneAnyThread; values = v0 ∷ v1 ∷ AWord (spelling literals.NotifyOne) ∷ AWord w ∷ [] }) → IsReadBack (record { form = forms.ChangeConditionNotifyOneAnyThread; values = v0 ∷ v1 ∷ AWord (spelling literals.NotifyOne) ∷ AWord w ∷ [] })
unfolding rows_for
back_changeconditionnotifyoneanythread v0 v1 w other fits =
    first_back ItemForm items 1 (record { form = forms.ChangeConditionNotifyOneAnyThread; values = v0 ∷ v1 ∷ AWord (spelling literals.NotifyOne) ∷ AWord w ∷ [] }) [] (chosen (bytes_eq (spelling literals.None) w) other) fits
  where
    chosen : (t : Bool) → t ≡ false → cond (t && true) (forms.ChangeConditionNotifyOneNone ∷ forms.ChangeConditionNotifyOneAnyThread ∷ []) (forms.ChangeConditionNotifyOneAnyThread ∷ []) ≡ forms.ChangeConditionNotifyOneAnyThread ∷ []
    chosen false e = refl
    chosen true e = absurd (false≢true (sym e))

-- ---- replies that are a number or a thread

word_replies : List ItemForm
word_replies = forms.ReplyOk ∷ forms.ReplyTrue ∷ forms.ReplyFalse ∷ forms.ReplyOver ∷ forms.ReplyOverExpected ∷ forms.ReplyMaxLevels ∷ forms.ReplyOverflow ∷ forms.ReplyMade ∷ forms.ReplyAlready ∷ forms.ReplyQueued ∷ forms.ReplyRan ∷ forms.ReplyNever ∷ forms.ReplyRemoved ∷ forms.ReplyInside ∷ forms.ReplyNotHeld ∷ forms.ReplyReturned ∷ forms.ReplyPassive ∷ forms.ReplyNoToken ∷ forms.ReplySpent ∷ forms.ReplyNoThread ∷ forms.ReplyLaunched ∷ forms.ReplyDeferred ∷ forms.ReplyNone ∷ forms.ReplyNoState ∷ forms.ReplyPromiseAlreadySatisfied ∷ forms.ReplyFutureAlreadyRetrieved ∷ forms.ReplyBrokenPromise ∷ forms.ReplyOperationNotPermitted ∷ forms.ReplyResourceDeadlockWouldOccur ∷ forms.ReplyInvalidArgument ∷ []

number_replies : List ItemForm
number_replies = forms.ReplyNumber ∷ forms.ReplyThread ∷ forms.ReplyThrewOf ∷ forms.ReplyValueOf ∷ forms.ReplyExceptionOf ∷ []

-- a reply's word is another
abbrev pub IsOther : List ℕ → ItemForm → Type 0
IsOther w f = has_literals (spread (items.fields f) (length (w ∷ []))) (w ∷ []) ≡ false

passed : (test : ItemForm → Bool) (rows others : List ItemForm) → AllByRecursion (λ f. test f ≡ false) rows → filter test (rows ++ others) ≡ filter test others
passed test [] others h = refl
passed test (f ∷ rows) others h = rw h.0 (passed test rows others h.1)

rows_as : (F : Type 0) (table : Table F) (version : ℕ) (v : List ℕ) (ws : List (List ℕ)) (rows : List F) → filter (has_head table version v) table.forms ≡ rows
    → rows_for table version v ws ≡ filter (λ f. has_literals (spread (table.fields f) (length ws)) ws) rows
unfolding rows_for
rows_as F table version v ws rows e = ap (filter (λ (f : F). has_literals (spread (table.fields f) (length ws)) ws)) e

last_rows : (w : List ℕ) → filter (λ f. has_literals (spread (items.fields f) (length (w ∷ []))) (w ∷ [])) number_replies ≡ forms.ReplyNumber ∷ forms.ReplyThread ∷ []
unfolding number_replies
last_rows w = picked (bytes_eq (spelling literals.Threw) w) (bytes_eq (spelling literals.Value) w) (bytes_eq (spelling literals.Exception) w)
  where
    third : Bool → List ItemForm
    third c = cond (c && false) (forms.ReplyExceptionOf ∷ []) []

    second : Bool → Bool → List ItemForm
    second b c = cond (b && false) (forms.ReplyValueOf ∷ third c) (third c)

    picked : (a b c : Bool) → forms.ReplyNumber ∷ forms.ReplyThread ∷ cond (a && false) (forms.ReplyThrewOf ∷ second b c) (second b c) ≡ forms.ReplyNumber ∷ forms.ReplyThread ∷ []
    picked true true true = refl
    picked true true false = refl
    picked true false true = refl
    picked true false false = refl
    picked false true true = refl
    picked false true false = refl
    picked false false true = refl
    picked false false false = refl

all_heads : filter (has_head items 1 (codes "=")) items.forms ≡ word_replies ++ number_replies
unfolding word_replies number_replies
all_heads = refl

other_rows : (w : List ℕ) → AllByRecursion (IsOther w) word_replies → rows_for items 1 (codes "=") (w ∷ []) ≡ forms.ReplyNumber ∷ forms.ReplyThread ∷ []
other_rows w h =
    rows_as ItemForm items 1 (codes "=") (w ∷ []) (word_replies ++ number_replies) all_heads
    ∙ passed (λ (f : ItemForm). has_literals (spread (items.fields f) (length (w ∷ []))) (w ∷ [])) word_replies number_replies h
    ∙ last_rows w

low_words : (w : List ℕ) → ((b : ℕ) (bs : List ℕ) → 58 ≤ b → bytes_eq (b ∷ bs) w ≡ false) → AllByRecursion (IsOther w) word_replies
unfolding word_replies
low_words w low = (and_left (bytes_eq (spelling literals.Ok) w) true (low 111 (codes "k") (omega arith)), (and_left (bytes_eq (spelling literals.True) w) true (low 116 (codes "rue") (omega arith)), (and_left (bytes_eq (spelling literals.False) w) true (low 102 (codes "alse") (omega arith)), (and_left (bytes_eq (spelling literals.Over) w) true (low 111 (codes "ver") (omega arith)), (and_left (bytes_eq (spelling literals.OverExpected) w) true (low 111 (codes "ver-expected") (omega arith)), (and_left (bytes_eq (spelling literals.MaxLevels) w) true (low 109 (codes "ax-levels") (omega arith)), (and_left (bytes_eq (spelling literals.Overflow) w) true (low 111 (codes "verflow") (omega arith)), (and_left (bytes_eq (spelling literals.Made) w) true (low 109 (codes "ade") (omega arith)), (and_left (bytes_eq (spelling literals.Already) w) true (low 97 (codes "lready") (omega arith)), (and_left (bytes_eq (spelling literals.Queued) w) true (low 113 (codes "ueued") (omega arith)), (and_left (bytes_eq (spelling literals.Ran) w) true (low 114 (codes "an") (omega arith)), (and_left (bytes_eq (spelling literals.Never) w) true (low 110 (codes "ever") (omega arith)), (and_left (bytes_eq (spelling literals.Removed) w) true (low 114 (codes "emoved") (omega arith)), (and_left (bytes_eq (spelling literals.Inside) w) true (low 105 (codes "nside") (omega arith)), (and_left (bytes_eq (spelling literals.NotHeld) w) true (low 110 (codes "ot-held") (omega arith)), (and_left (bytes_eq (spelling literals.Returned) w) true (low 114 (codes "eturned") (omega arith)), (and_left (bytes_eq (spelling literals.Passive) w) true (low 112 (codes "assive") (omega arith)), (and_left (bytes_eq (spelling literals.NoToken) w) true (low 110 (codes "o-token") (omega arith)), (and_left (bytes_eq (spelling literals.Spent) w) true (low 115 (codes "pent") (omega arith)), (and_left (bytes_eq (spelling literals.NoThread) w) true (low 110 (codes "o-thread") (omega arith)), (and_left (bytes_eq (spelling literals.Launched) w) true (low 108 (codes "aunched") (omega arith)), (and_left (bytes_eq (spelling literals.Deferred) w) true (low 100 (codes "eferred") (omega arith)), (and_left (bytes_eq (spelling literals.None) w) true (low 110 (codes "one") (omega arith)), (and_left (bytes_eq (spelling literals.NoState) w) true (low 110 (codes "o_state") (omega arith)), (and_left (bytes_eq (spelling literals.PromiseAlreadySatisfied) w) true (low 112 (codes "romise_already_satisfied") (omega arith)), (and_left (bytes_eq (spelling literals.FutureAlreadyRetrieved) w) true (low 102 (codes "uture_already_retrieved") (omega arith)), (and_left (bytes_eq (spelling literals.BrokenPromise) w) true (low 98 (codes "roken_promise") (omega arith)), (and_left (bytes_eq (spelling literals.OperationNotPermitted) w) true (low 111 (codes "peration_not_permitted") (omega arith)), (and_left (bytes_eq (spelling literals.ResourceDeadlockWouldOccur) w) true (low 114 (codes "esource_deadlock_would_occur") (omega arith)), (and_left (bytes_eq (spelling literals.InvalidArgument) w) true (low 105 (codes "nvalid_argument") (omega arith)), tt))))))))))))))))))))))))))))))

low_signed : (z : ℤ) → IsShort z → (b : ℕ) (bs : List ℕ) → 58 ≤ b → bytes_eq (b ∷ bs) (signed_decimal z) ≡ false
low_signed (pos n) lt b bs up = before_letters n lt b bs up
low_signed (negsuc n) lt b bs up = rw (ne_eqb b 45 (λ e. omega (arith, e, up))) refl

pub back_replynumber : (z : ℤ) → IsShort z → IsReadBack (record { form = forms.ReplyNumber; values = ANumber z ∷ [] })
back_replynumber z lt =
    first_back ItemForm items 1 (record { form = forms.ReplyNumber; values = ANumber z ∷ [] }) (forms.ReplyThread ∷ []) (other_rows (signed_decimal z) (low_words (signed_decimal z) (low_signed z lt))) (lt, tt)

named_words : (w : List ℕ) → is_one_of reply_words w ≡ false → AllByRecursion (IsOther w) word_replies
unfolding word_replies
named_words w h =
    let p0 = or_parts (bytes_eq (codes "ok") w) (is_one_of (codes "true" ∷ codes "false" ∷ codes "over" ∷ codes "over-expected" ∷ codes "max-levels" ∷ codes "overflow" ∷ codes "made" ∷ codes "already" ∷ codes "queued" ∷ codes "ran" ∷ codes "never" ∷ codes "removed" ∷ codes "inside" ∷ codes "not-held" ∷ codes "returned" ∷ codes "passive" ∷ codes "no-token" ∷ codes "spent" ∷ codes "no-thread" ∷ codes "launched" ∷ codes "deferred" ∷ codes "none" ∷ codes "no_state" ∷ codes "promise_already_satisfied" ∷ codes "future_already_retrieved" ∷ codes "broken_promise" ∷ codes "operation_not_permitted" ∷ codes "resource_deadlock_would_occur" ∷ codes "invalid_argument" ∷ []) w) h in
    let p1 = or_parts (bytes_eq (codes "true") w) (is_one_of (codes "false" ∷ codes "over" ∷ codes "over-expected" ∷ codes "max-levels" ∷ codes "overflow" ∷ codes "made" ∷ codes "already" ∷ codes "queued" ∷ codes "ran" ∷ codes "never" ∷ codes "removed" ∷ codes "inside" ∷ codes "not-held" ∷ codes "returned" ∷ codes "passive" ∷ codes "no-token" ∷ codes "spent" ∷ codes "no-thread" ∷ codes "launched" ∷ codes "deferred" ∷ codes "none" ∷ codes "no_state" ∷ codes "promise_already_satisfied" ∷ codes "future_already_retrieved" ∷ codes "broken_promise" ∷ codes "operation_not_permitted" ∷ codes "resource_deadlock_would_occur" ∷ codes "invalid_argument" ∷ []) w) p0.1 in
    let p2 = or_parts (bytes_eq (codes "false") w) (is_one_of (codes "over" ∷ codes "over-expected" ∷ codes "max-levels" ∷ codes "overflow" ∷ codes "made" ∷ codes "already" ∷ codes "queued" ∷ codes "ran" ∷ codes "never" ∷ codes "removed" ∷ codes "inside" ∷ codes "not-held" ∷ codes "returned" ∷ codes "passive" ∷ codes "no-token" ∷ codes "spent" ∷ codes "no-thread" ∷ codes "launched" ∷ codes "deferred" ∷ codes "none" ∷ codes "no_state" ∷ codes "promise_already_satisfied" ∷ codes "future_already_retrieved" ∷ codes "broken_promise" ∷ codes "operation_not_permitted" ∷ codes "resource_deadlock_would_occur" ∷ codes "invalid_argument" ∷ []) w) p1.1 in
    let p3 = or_parts (bytes_eq (codes "over") w) (is_one_of (codes "over-expected" ∷ codes "max-levels" ∷ codes "overflow" ∷ codes "made" ∷ codes "already" ∷ codes "queued" ∷ codes "ran" ∷ codes "never" ∷ codes "removed" ∷ codes "inside" ∷ codes "not-held" ∷ codes "returned" ∷ codes "passive" ∷ codes "no-token" ∷ codes "spent" ∷ codes "no-thread" ∷ codes "launched" ∷ codes "deferred" ∷ codes "none" ∷ codes "no_state" ∷ codes "promise_already_satisfied" ∷ codes "future_already_retrieved" ∷ codes "broken_promise" ∷ codes "operation_not_permitted" ∷ codes "resource_deadlock_would_occur" ∷ codes "invalid_argument" ∷ []) w) p2.1 in
    let p4 = or_parts (bytes_eq (codes "over-expected") w) (is_one_of (codes "max-levels" ∷ codes "overflow" ∷ codes "made" ∷ codes "already" ∷ codes "queued" ∷ codes "ran" ∷ codes "never" ∷ codes "removed" ∷ codes "inside" ∷ codes "not-held" ∷ codes "returned" ∷ codes "passive" ∷ codes "no-token" ∷ codes "spent" ∷ codes "no-thread" ∷ codes "launched" ∷ codes "deferred" ∷ codes "none" ∷ codes "no_state" ∷ codes "promise_already_satisfied" ∷ codes "future_already_retrieved" ∷ codes "broken_promise" ∷ codes "operation_not_permitted" ∷ codes "resource_deadlock_would_occur" ∷ codes "invalid_argument" ∷ []) w) p3.1 in
    let p5 = or_parts (bytes_eq (codes "max-levels") w) (is_one_of (codes "overflow" ∷ codes "made" ∷ codes "already" ∷ codes "queued" ∷ codes "ran" ∷ codes "never" ∷ codes "removed" ∷ codes "inside" ∷ codes "not-held" ∷ codes "returned" ∷ codes "passive" ∷ codes "no-token" ∷ codes "spent" ∷ codes "no-thread" ∷ codes "launched" ∷ codes "deferred" ∷ codes "none" ∷ codes "no_state" ∷ codes "promise_already_satisfied" ∷ codes "future_already_retrieved" ∷ codes "broken_promise" ∷ codes "operation_not_permitted" ∷ codes "resource_deadlock_would_occur" ∷ codes "invalid_argument" ∷ []) w) p4.1 in
    let p6 = or_parts (bytes_eq (codes "overflow") w) (is_one_of (codes "made" ∷ codes "already" ∷ codes "queued" ∷ codes "ran" ∷ codes "never" ∷ codes "removed" ∷ codes "inside" ∷ codes "not-held" ∷ codes "returned" ∷ codes "passive" ∷ codes "no-token" ∷ codes "spent" ∷ codes "no-thread" ∷ codes "launched" ∷ codes "deferred" ∷ codes "none" ∷ codes "no_state" ∷ codes "promise_already_satisfied" ∷ codes "future_already_retrieved" ∷ codes "broken_promise" ∷ codes "operation_not_permitted" ∷ codes "resource_deadlock_would_occur" ∷ codes "invalid_argument" ∷ []) w) p5.1 in
    let p7 = or_parts (bytes_eq (codes "made") w) (is_one_of (codes "already" ∷ codes "queued" ∷ codes "ran" ∷ codes "never" ∷ codes "removed" ∷ codes "inside" ∷ codes "not-held" ∷ codes "returned" ∷ codes "passive" ∷ codes "no-token" ∷ codes "spent" ∷ codes "no-thread" ∷ codes "launched" ∷ codes "deferred" ∷ codes "none" ∷ codes "no_state" ∷ codes "promise_already_satisfied" ∷ codes "future_already_retrieved" ∷ codes "broken_promise" ∷ codes "operation_not_permitted" ∷ codes "resource_deadlock_would_occur" ∷ codes "invalid_argument" ∷ []) w) p6.1 in
    let p8 = or_parts (bytes_eq (codes "already") w) (is_one_of (codes "queued" ∷ codes "ran" ∷ codes "never" ∷ codes "removed" ∷ codes "inside" ∷ codes "not-held" ∷ codes "returned" ∷ codes "passive" ∷ codes "no-token" ∷ codes "spent" ∷ codes "no-thread" ∷ codes "launched" ∷ codes "deferred" ∷ codes "none" ∷ codes "no_state" ∷ codes "promise_already_satisfied" ∷ codes "future_already_retrieved" ∷ codes "broken_promise" ∷ codes "operation_not_permitted" ∷ codes "resource_deadlock_would_occur" ∷ codes "invalid_argument" ∷ []) w) p7.1 in
    let p9 = or_parts (bytes_eq (codes "queued") w) (is_one_of (codes "ran" ∷ codes "never" ∷ codes "removed" ∷ codes "inside" ∷ codes "not-held" ∷ codes "returned" ∷ codes "passive" ∷ codes "no-token" ∷ codes "spent" ∷ codes "no-thread" ∷ codes "launched" ∷ codes "deferred" ∷ codes "none" ∷ codes "no_state" ∷ codes "promise_already_satisfied" ∷ codes "future_already_retrieved" ∷ codes "broken_promise" ∷ codes "operation_not_permitted" ∷ codes "resource_deadlock_would_occur" ∷ codes "invalid_argument" ∷ []) w) p8.1 in
    let p10 = or_parts (bytes_eq (codes "ran") w) (is_one_of (codes "never" ∷ codes "removed" ∷ codes "inside" ∷ codes "not-held" ∷ codes "returned" ∷ codes "passive" ∷ codes "no-token" ∷ codes "spent" ∷ codes "no-thread" ∷ codes "launched" ∷ codes "deferred" ∷ codes "none" ∷ codes "no_state" ∷ codes "promise_already_satisfied" ∷ codes "future_already_retrieved" ∷ codes "broken_promise" ∷ codes "operation_not_permitted" ∷ codes "resource_deadlock_would_occur" ∷ codes "invalid_argument" ∷ []) w) p9.1 in
    let p11 = or_parts (bytes_eq (codes "never") w) (is_one_of (codes "removed" ∷ codes "inside" ∷ codes "not-held" ∷ codes "returned" ∷ codes "passive" ∷ codes "no-token" ∷ codes "spent" ∷ codes "no-thread" ∷ codes "launched" ∷ codes "deferred" ∷ codes "none" ∷ codes "no_state" ∷ codes "promise_already_satisfied" ∷ codes "future_already_retrieved" ∷ codes "broken_promise" ∷ codes "operation_not_permitted" ∷ codes "resource_deadlock_would_occur" ∷ codes "invalid_argument" ∷ []) w) p10.1 in
    let p12 = or_parts (bytes_eq (codes "removed") w) (is_one_of (codes "inside" ∷ codes "not-held" ∷ codes "returned" ∷ codes "passive" ∷ codes "no-token" ∷ codes "spent" ∷ codes "no-thread" ∷ codes "launched" ∷ codes "deferred" ∷ codes "none" ∷ codes "no_state" ∷ codes "promise_already_satisfied" ∷ codes "future_already_retrieved" ∷ codes "broken_promise" ∷ codes "operation_not_permitted" ∷ codes "resource_deadlock_would_occur" ∷ codes "invalid_argument" ∷ []) w) p11.1 in
    let p13 = or_parts (bytes_eq (codes "inside") w) (is_one_of (codes "not-held" ∷ codes "returned" ∷ codes "passive" ∷ codes "no-token" ∷ codes "spent" ∷ codes "no-thread" ∷ codes "launched" ∷ codes "deferred" ∷ codes "none" ∷ codes "no_state" ∷ codes "promise_already_satisfied" ∷ codes "future_already_retrieved" ∷ codes "broken_promise" ∷ codes "operation_not_permitted" ∷ codes "resource_deadlock_would_occur" ∷ codes "invalid_argument" ∷ []) w) p12.1 in
    let p14 = or_parts (bytes_eq (codes "not-held") w) (is_one_of (codes "returned" ∷ codes "passive" ∷ codes "no-token" ∷ codes "spent" ∷ codes "no-thread" ∷ codes "launched" ∷ codes "deferred" ∷ codes "none" ∷ codes "no_state" ∷ codes "promise_already_satisfied" ∷ codes "future_already_retrieved" ∷ codes "broken_promise" ∷ codes "operation_not_permitted" ∷ codes "resource_deadlock_would_occur" ∷ codes "invalid_argument" ∷ []) w) p13.1 in
    let p15 = or_parts (bytes_eq (codes "returned") w) (is_one_of (codes "passive" ∷ codes "no-token" ∷ codes "spent" ∷ codes "no-thread" ∷ codes "launched" ∷ codes "deferred" ∷ codes "none" ∷ codes "no_state" ∷ codes "promise_already_satisfied" ∷ codes "future_already_retrieved" ∷ codes "broken_promise" ∷ codes "operation_not_permitted" ∷ codes "resource_deadlock_would_occur" ∷ codes "invalid_argument" ∷ []) w) p14.1 in
    let p16 = or_parts (bytes_eq (codes "passive") w) (is_one_of (codes "no-token" ∷ codes "spent" ∷ codes "no-thread" ∷ codes "launched" ∷ codes "deferred" ∷ codes "none" ∷ codes "no_state" ∷ codes "promise_already_satisfied" ∷ codes "future_already_retrieved" ∷ codes "broken_promise" ∷ codes "operation_not_permitted" ∷ codes "resource_deadlock_would_occur" ∷ codes "invalid_argument" ∷ []) w) p15.1 in
    let p17 = or_parts (bytes_eq (codes "no-token") w) (is_one_of (codes "spent" ∷ codes "no-thread" ∷ codes "launched" ∷ codes "deferred" ∷ codes "none" ∷ codes "no_state" ∷ codes "promise_already_satisfied" ∷ codes "future_already_retrieved" ∷ codes "broken_promise" ∷ codes "operation_not_permitted" ∷ codes "resource_deadlock_would_occur" ∷ codes "invalid_argument" ∷ []) w) p16.1 in
    let p18 = or_parts (bytes_eq (codes "spent") w) (is_one_of (codes "no-thread" ∷ codes "launched" ∷ codes "deferred" ∷ codes "none" ∷ codes "no_state" ∷ codes "promise_already_satisfied" ∷ codes "future_already_retrieved" ∷ codes "broken_promise" ∷ codes "operation_not_permitted" ∷ codes "resource_deadlock_would_occur" ∷ codes "invalid_argument" ∷ []) w) p17.1 in
    let p19 = or_parts (bytes_eq (codes "no-thread") w) (is_one_of (codes "launched" ∷ codes "deferred" ∷ codes "none" ∷ codes "no_state" ∷ codes "promise_already_satisfied" ∷ codes "future_already_retrieved" ∷ codes "broken_promise" ∷ codes "operation_not_permitted" ∷ codes "resource_deadlock_would_occur" ∷ codes "invalid_argument" ∷ []) w) p18.1 in
    let p20 = or_parts (bytes_eq (codes "launched") w) (is_one_of (codes "deferred" ∷ codes "none" ∷ codes "no_state" ∷ codes "promise_already_satisfied" ∷ codes "future_already_retrieved" ∷ codes "broken_promise" ∷ codes "operation_not_permitted" ∷ codes "resource_deadlock_would_occur" ∷ codes "invalid_argument" ∷ []) w) p19.1 in
    let p21 = or_parts (bytes_eq (codes "deferred") w) (is_one_of (codes "none" ∷ codes "no_state" ∷ codes "promise_already_satisfied" ∷ codes "future_already_retrieved" ∷ codes "broken_promise" ∷ codes "operation_not_permitted" ∷ codes "resource_deadlock_would_occur" ∷ codes "invalid_argument" ∷ []) w) p20.1 in
    let p22 = or_parts (bytes_eq (codes "none") w) (is_one_of (codes "no_state" ∷ codes "promise_already_satisfied" ∷ codes "future_already_retrieved" ∷ codes "broken_promise" ∷ codes "operation_not_permitted" ∷ codes "resource_deadlock_would_occur" ∷ codes "invalid_argument" ∷ []) w) p21.1 in
    let p23 = or_parts (bytes_eq (codes "no_state") w) (is_one_of (codes "promise_already_satisfied" ∷ codes "future_already_retrieved" ∷ codes "broken_promise" ∷ codes "operation_not_permitted" ∷ codes "resource_deadlock_would_occur" ∷ codes "invalid_argument" ∷ []) w) p22.1 in
    let p24 = or_parts (bytes_eq (codes "promise_already_satisfied") w) (is_one_of (codes "future_already_retrieved" ∷ codes "broken_promise" ∷ codes "operation_not_permitted" ∷ codes "resource_deadlock_would_occur" ∷ codes "invalid_argument" ∷ []) w) p23.1 in
    let p25 = or_parts (bytes_eq (codes "future_already_retrieved") w) (is_one_of (codes "broken_promise" ∷ codes "operation_not_permitted" ∷ codes "resource_deadlock_would_occur" ∷ codes "invalid_argument" ∷ []) w) p24.1 in
    let p26 = or_parts (bytes_eq (codes "broken_promise") w) (is_one_of (codes "operation_not_permitted" ∷ codes "resource_deadlock_would_occur" ∷ codes "invalid_argument" ∷ []) w) p25.1 in
    let p27 = or_parts (bytes_eq (codes "operation_not_permitted") w) (is_one_of (codes "resource_deadlock_would_occur" ∷ codes "invalid_argument" ∷ []) w) p26.1 in
    let p28 = or_parts (bytes_eq (codes "resource_deadlock_would_occur") w) (is_one_of (codes "invalid_argument" ∷ []) w) p27.1 in
    let p29 = or_parts (bytes_eq (codes "invalid_argument") w) (is_one_of ([]) w) p28.1 in
    (and_left (bytes_eq (spelling literals.Ok) w) true p0.0, (and_left (bytes_eq (spelling literals.True) w) true p1.0, (and_left (bytes_eq (spelling literals.False) w) true p2.0, (and_left (bytes_eq (spelling literals.Over) w) true p3.0, (and_left (bytes_eq (spelling literals.OverExpected) w) true p4.0, (and_left (bytes_eq (spelling literals.MaxLevels) w) true p5.0, (and_left (bytes_eq (spelling literals.Overflow) w) true p6.0, (and_left (bytes_eq (spelling literals.Made) w) true p7.0, (and_left (bytes_eq (spelling literals.Already) w) true p8.0, (and_left (bytes_eq (spelling literals.Queued) w) true p9.0, (and_left (bytes_eq (spelling literals.Ran) w) true p10.0, (and_left (bytes_eq (spelling literals.Never) w) true p11.0, (and_left (bytes_eq (spelling literals.Removed) w) true p12.0, (and_left (bytes_eq (spelling literals.Inside) w) true p13.0, (and_left (bytes_eq (spelling literals.NotHeld) w) true p14.0, (and_left (bytes_eq (spelling literals.Returned) w) true p15.0, (and_left (bytes_eq (spelling literals.Passive) w) true p16.0, (and_left (bytes_eq (spelling literals.NoToken) w) true p17.0, (and_left (bytes_eq (spelling literals.Spent) w) true p18.0, (and_left (bytes_eq (spelling literals.NoThread) w) true p19.0, (and_left (bytes_eq (spelling literals.Launched) w) true p20.0, (and_left (bytes_eq (spelling literals.Deferred) w) true p21.0, (and_left (bytes_eq (spelling literals.None) w) true p22.0, (and_left (bytes_eq (spelling literals.NoState) w) true p23.0, (and_left (bytes_eq (spelling literals.PromiseAlreadySatisfied) w) true p24.0, (and_left (bytes_eq (spelling literals.FutureAlreadyRetrieved) w) true p25.0, (and_left (bytes_eq (spelling literals.BrokenPromise) w) true p26.0, (and_left (bytes_eq (spelling literals.OperationNotPermitted) w) true p27.0, (and_left (bytes_eq (spelling literals.ResourceDeadlockWouldOccur) w) true p28.0, (and_left (bytes_eq (spelling literals.InvalidArgument) w) true p29.0, tt))))))))))))))))))))))))))))))

-- a word that begins with a letter is no number
no_number : (c : ℕ) (cs : List ℕ) → is_lower c ≡ true → integer_of (c ∷ cs) ≡ None
unfolding is_digits
no_number c cs h =
    let up : 97 ≤ c = grind (arith, nat_tests) in
    let no : is_digit c ≡ false = grind (arith, nat_tests) in
    rw (ne_eqb c 45 (λ e. omega (arith, e, up)), no) (stays (nat_lt 0 (suc (length cs))) (nat_le (suc (length cs)) 20))
  where
    stays : (a b : Bool) → cond (a && b && false) (Some (pos (digits_from 0 (c ∷ cs)))) None ≡ None
    stays true true = refl
    stays true false = refl
    stays false b = refl

pub back_replythread : (w : List ℕ) → is_name 1 w ≡ true → IsReadBack (record { form = forms.ReplyThread; values = AWord w ∷ [] })
unfolding is_name values_of value_of
back_replythread [] h = absurd (false≢true h)
back_replythread (c ∷ cs) h =
    let p = and_parts (begins_lower (c ∷ cs) && nat_le (length (c ∷ cs)) 16 && list_all is_name_byte (c ∷ cs)) (not (is_reserved 1 (c ∷ cs))) h in
    let q = and_parts (begins_lower (c ∷ cs) && nat_le (length (c ∷ cs)) 16) (list_all is_name_byte (c ∷ cs)) p.0 in
    let r = and_parts (begins_lower (c ∷ cs)) (nat_le (length (c ∷ cs)) 16) q.0 in
    let free = or_parts (bytes_eq main_word (c ∷ cs)) (is_one_of reply_words (c ∷ cs)) (not_true (is_reserved 1 (c ∷ cs)) p.1) in
    second_back ItemForm items 1 (record { form = forms.ReplyThread; values = AWord (c ∷ cs) ∷ [] }) forms.ReplyNumber [] (other_rows (c ∷ cs) (named_words (c ∷ cs) free.1))
    (ap (λ (o : Option ℤ). option_map (λ (vs : List Value). record { form = forms.ReplyNumber; values = vs }) (with_value (option_map ANumber o) (Some []))) (no_number c cs r.0))
    (rw h refl, tt)
  where
    not_true : (b : Bool) → not b ≡ true → b ≡ false
    not_true true e = absurd (false≢true e)
    not_true false e = refl

pub back_replymain : IsReadBack (record { form = forms.ReplyThread; values = AWord main_word ∷ [] })
unfolding rows_for is_name values_of value_of is_digits
back_replymain = second_back ItemForm items 1 (record { form = forms.ReplyThread; values = AWord main_word ∷ [] }) forms.ReplyNumber [] refl refl (refl, tt)
