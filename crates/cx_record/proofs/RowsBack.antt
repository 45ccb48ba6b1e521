-- A record's line that fits its row is written plainly, in at most 120 bytes, and read as itself.
use Rattle.std.proofs.Common.{◌≡◌, ◌≢◌, ℕ, zero, suc, ◌+◌, ◌-◌, ◌^◌, ◌<◌, ◌≤◌, pos, negsuc, inl, inr, Bool, true, false, ◌&&◌, ◌||◌, not, List, [], ◌∷◌, length, map, refl, sym, ap, subst, ◌∙◌, arith, length-append, lit≤}
use Rattle.std.specs.Prelude.{nat_le, codes}
use Rattle.std.specs.List.{AllByRecursion, list_all, join_with_byte}
use Rattle.std.specs.Str.{bytes_eq}
use Rattle.std.specs.Fmt.{decimal}
use Rattle.std.specs.Str.Parse.{AllDigits}
use Rattle.std.specs.Char.{digit_value}
use Rattle.std.proofs.lemmas.Bool.{and_from, and_parts, leb-true, lt-ltb, or_cases, or_parts, false≢true}
use Rattle.std.proofs.lemmas.List.Folds.{list_all-append}
use Rattle.std.proofs.lemmas.Bool.Decides.{nat_tests}
use Rattle.std.proofs.lemmas.Str.Parse.{digit_from_value}
use Rattle.std.proofs.lemmas.Fmt.{decimal_is_IsNumeral_wide, length-decimal-le_wide}
use Rattle.std.proofs.lemmas.Slice.Eq.{bytes_eq-Decides}
use Rattle.cx_text.specs.declared.item.ItemForm.{ItemForm}
use Rattle.cx_text.specs.declared.item.ItemForm.TheVariants as forms
use Rattle.cx_text.specs.declared.form.Field.{Field}
use Rattle.cx_text.specs.declared.form.Field.TheVariants as fields
use Rattle.cx_text.specs.declared.form.Sort.{Sort}
use Rattle.cx_text.specs.declared.form.Literal.{Literal}
use Rattle.cx_text.specs.declared.form.Literal.TheVariants as literals
use Rattle.cx_text.specs.Table.{spelling, takes_main}
use Rattle.cx_text.specs.Lines.{is_word, is_text_byte, kept_words}
use Rattle.cx_text.specs.Words.{Said, Value, AWord, ANumber, spell, spread, own_word, is_name, is_name_byte, begins_lower, is_reserved, is_one_of, reply_words, main_word, words_by}
use Rattle.cx_text.specs.Items.{items, item_head, item_fields, item_since}
use Rattle.cx_text.proofs.Fields.{FitsField, FitFields}
use Rattle.cx_text.proofs.Rows.{IsAlone, IsWellFilled, line_back}
use Rattle.cx_text.proofs.Lexing.{IsInWord, IsPlain, ArePlain, IsLine}
use Rattle.cx_text.proofs.AloneItems.{alone_acts, alone_changebarrierarrivenumbernumber, alone_changebarriercomplete, alone_changebarrierdropnumber, alone_changeconditionenter, alone_changeconditionnotifyallnumber, alone_changeconditionunblock, alone_changeconditionwithdraw, alone_changefuturedefer, alone_changefuturerun, alone_changefuturesetbrokenpromise, alone_changelatchcountdownnumber, alone_changelocklock, alone_changelocktrylocktrue, alone_changelockunlock, alone_changenumbersaddindexsignedsigned, alone_changeoncebegin, alone_changeoncefailnumber, alone_changeoncefinish, alone_changesemaphoreacquire, alone_changesemaphorereleasenumber, alone_changesemaphoretryacquiretrue, alone_changesharedlockshared, alone_changesharedtrylocksharedtrue, alone_changesharedunlockshared, alone_changestopanother, alone_changestopbeginnumber, alone_changestopderegisternumberinside, alone_changestopderegisternumberran, alone_changestopderegisternumberremoved, alone_changestopdrop, alone_changestopfinishnumber, alone_changestopregisternownumber, alone_changestopregisternumber, alone_changestoprequest, alone_controljoin, alone_controllaunchnothread, alone_controllaunchok, alone_controlstartnothread, alone_controlstartok, alone_done, alone_endofacts, alone_lookbarrierarrivenumberoverexpected, alone_lookbarrierdropoverexpected, alone_lookbarrierwaitnumber, alone_lookfuturereadybrokenpromise, alone_lookfuturereadyexceptionnumber, alone_lookfuturereadyvaluesigned, alone_looklatchtrywaitfalse, alone_looklatchtrywaittrue, alone_looklatchwait, alone_looklocktrylockfalse, alone_looknumbersaddindexsignedoverflow, alone_looknumbersgetindexsigned, alone_looknumberslockmaxlevels, alone_lookoncepassive, alone_looksemaphorereleasenumberover, alone_looksemaphoretryacquirefalse, alone_looksharedtrylocksharedfalse, alone_lookstopalready, alone_lookstopdrained, alone_lookstopnevernumber, alone_lookstopstoppossiblefalse, alone_lookstopstoppossibletrue, alone_lookstopstoprequestedfalse, alone_lookstopstoprequestedtrue, alone_recordone, alone_replyexceptionof, alone_replythrewof, alone_replyvalueof, alone_unstarted}
use Rattle.cx_text.proofs.BackItems.{IsReadBack, back_changeconditionnotifyoneanythread, back_changeconditionnotifyonenone, back_changefuturesetexceptionnumber, back_changefuturesetvaluesigned, back_changenumberssetindexsigned, back_replyalready, back_replybrokenpromise, back_replydeferred, back_replyfalse, back_replyfuturealreadyretrieved, back_replyinside, back_replyinvalidargument, back_replylaunched, back_replymade, back_replymain, back_replymaxlevels, back_replynever, back_replynone, back_replynostate, back_replynotheld, back_replynothread, back_replynotoken, back_replynumber, back_replyok, back_replyoperationnotpermitted, back_replyover, back_replyoverexpected, back_replyoverflow, back_replypassive, back_replypromisealreadysatisfied, back_replyqueued, back_replyran, back_replyremoved, back_replyresourcedeadlockwouldoccur, back_replyreturned, back_replyspent, back_replythread, back_replytrue}

same_word : (u w : List ℕ) → bytes_eq u w ≡ true → w ≡ u
same_word u w h = sym ((bytes_eq-Decides u w).0 h)

-- ---- read as itself

abbrev line : ItemForm → List Value → Said ItemForm
line form values = record { form = form; values = values }

-- a word that stands for itself
spelled : (l : List ℕ → Said ItemForm) {u w : List ℕ} → w ≡ u → (IsWellFilled items 1 (l u) → IsReadBack (l u)) → IsWellFilled items 1 (l w) → IsReadBack (l w)
spelled l {u} {w} e back fit = subst (λ (x : List ℕ). IsReadBack (l x)) (sym e) (back (subst (λ (x : List ℕ). IsWellFilled items 1 (l x)) e fit))

-- two of them
spelled_two : (l : List ℕ → List ℕ → Said ItemForm) {t u v w : List ℕ} → v ≡ t → w ≡ u → (IsWellFilled items 1 (l t u) → IsReadBack (l t u)) → IsWellFilled items 1 (l v w) → IsReadBack (l v w)
spelled_two l {t} {u} {v} {w} e f back fit = spelled (λ x. l x w) e (λ k. spelled (λ y. l t y) f back k) fit

not_true : (b : Bool) → not b ≡ true → b ≡ false
not_true true e = absurd (false≢true e)
not_true false e = refl

one_false : (a b : Bool) → a ≡ false → (b ≡ true → a ≡ true) → b ≡ false
one_false a true e h = absurd (false≢true (sym e ∙ h refl))
one_false a false e h = refl

-- no name is a word of a reply
not_reserved : (w : List ℕ) → is_name 1 w ≡ true → is_one_of reply_words w ≡ false
unfolding is_name
not_reserved w h =
    let p = and_parts (begins_lower w && nat_le (length w) 16 && list_all is_name_byte w) (not (is_reserved 1 w)) h in
    (or_parts (bytes_eq main_word w) (is_one_of reply_words w) (not_true (is_reserved 1 w) p.1)).1

not_none : (w : List ℕ) → (is_name 1 w || (true && bytes_eq main_word w)) ≡ true → bytes_eq (spelling literals.None) w ≡ false
not_none w h = elim (or_cases (is_name 1 w) (bytes_eq main_word w) h) [
  | inl a ↦ one_false (is_one_of reply_words w) (bytes_eq (codes "none") w) (not_reserved w a) (λ e. rw (same_word (codes "none") w e) refl)
  | inr a ↦ rw (same_word main_word w a) refl
]

back_thread : (w : List ℕ) → (is_name 1 w || (true && bytes_eq main_word w)) ≡ true → IsReadBack (line forms.ReplyThread (AWord w ∷ []))
back_thread w h = elim (or_cases (is_name 1 w) (bytes_eq main_word w) h) [
  | inl a ↦ back_replythread w a
  | inr a ↦ rw (same_word main_word w a) back_replymain
]

-- a line of a row that may be read
pub back_at : (f : ItemForm) (vs : List Value) → item_since f ≡ 1 → IsWellFilled items 1 (line f vs) → IsReadBack (line f vs)
back_at forms.RecordOne (AWord w0 ∷ []) since fit = line_back ItemForm items 1 (record { form = forms.RecordOne; values = AWord w0 ∷ [] }) (rw (same_word (spelling literals.One) w0 fit.0) (alone_recordone)) fit
back_at forms.RecordOne _ since fit = absurd (assumption fit)
back_at forms.Acts (AWord w0 ∷ []) since fit = line_back ItemForm items 1 (record { form = forms.Acts; values = AWord w0 ∷ [] }) (alone_acts (AWord w0)) fit
back_at forms.Acts _ since fit = absurd (assumption fit)
back_at forms.Unstarted (AWord w0 ∷ []) since fit = line_back ItemForm items 1 (record { form = forms.Unstarted; values = AWord w0 ∷ [] }) (alone_unstarted (AWord w0)) fit
back_at forms.Unstarted _ since fit = absurd (assumption fit)
back_at forms.EndOfActs [] since fit = line_back ItemForm items 1 (record { form = forms.EndOfActs; values = [] }) alone_endofacts fit
back_at forms.EndOfActs _ since fit = absurd (assumption fit)
back_at forms.Done [] since fit = line_back ItemForm items 1 (record { form = forms.Done; values = [] }) alone_done fit
back_at forms.Done _ since fit = absurd (assumption fit)
back_at forms.StuckAt vs since fit = absurd (omega arith)
back_at forms.ChangeLockLock (AWord w0 ∷ ANumber (pos n1) ∷ AWord w2 ∷ []) since fit = line_back ItemForm items 1 (record { form = forms.ChangeLockLock; values = AWord w0 ∷ ANumber (pos n1) ∷ AWord w2 ∷ [] }) (rw (same_word (spelling literals.Lock) w2 fit.1.1.0) (alone_changelocklock (AWord w0) (ANumber (pos n1)))) fit
back_at forms.ChangeLockLock _ since fit = absurd (assumption fit)
back_at forms.ChangeLockTryLockTrue (AWord w0 ∷ ANumber (pos n1) ∷ AWord w2 ∷ AWord w3 ∷ []) since fit = line_back ItemForm items 1 (record { form = forms.ChangeLockTryLockTrue; values = AWord w0 ∷ ANumber (pos n1) ∷ AWord w2 ∷ AWord w3 ∷ [] }) (rw (same_word (spelling literals.TryLock) w2 fit.1.1.0, same_word (spelling literals.True) w3 fit.1.1.1.0) (alone_changelocktrylocktrue (AWord w0) (ANumber (pos n1)))) fit
back_at forms.ChangeLockTryLockTrue _ since fit = absurd (assumption fit)
back_at forms.ChangeLockUnlock (AWord w0 ∷ ANumber (pos n1) ∷ AWord w2 ∷ []) since fit = line_back ItemForm items 1 (record { form = forms.ChangeLockUnlock; values = AWord w0 ∷ ANumber (pos n1) ∷ AWord w2 ∷ [] }) (rw (same_word (spelling literals.Unlock) w2 fit.1.1.0) (alone_changelockunlock (AWord w0) (ANumber (pos n1)))) fit
back_at forms.ChangeLockUnlock _ since fit = absurd (assumption fit)
back_at forms.ChangeNumbersSetIndexSigned (AWord w0 ∷ ANumber (pos n1) ∷ AWord w2 ∷ ANumber (pos n3) ∷ ANumber n4 ∷ []) since fit = spelled (λ (u : List ℕ). line forms.ChangeNumbersSetIndexSigned (AWord w0 ∷ ANumber (pos n1) ∷ AWord u ∷ ANumber (pos n3) ∷ ANumber n4 ∷ [])) (same_word (spelling literals.Set) w2 fit.1.1.0) (back_changenumberssetindexsigned (AWord w0) (ANumber (pos n1)) n3 (ANumber n4) fit.1.1.1.0) fit
back_at forms.ChangeNumbersSetIndexSigned _ since fit = absurd (assumption fit)
back_at forms.ChangeNumbersAddIndexSignedSigned (AWord w0 ∷ ANumber (pos n1) ∷ AWord w2 ∷ ANumber (pos n3) ∷ ANumber n4 ∷ ANumber n5 ∷ []) since fit = line_back ItemForm items 1 (record { form = forms.ChangeNumbersAddIndexSignedSigned; values = AWord w0 ∷ ANumber (pos n1) ∷ AWord w2 ∷ ANumber (pos n3) ∷ ANumber n4 ∷ ANumber n5 ∷ [] }) (rw (same_word (spelling literals.Add) w2 fit.1.1.0) (alone_changenumbersaddindexsignedsigned (AWord w0) (ANumber (pos n1)) (ANumber (pos n3)) (ANumber n4) (ANumber n5))) fit
back_at forms.ChangeNumbersAddIndexSignedSigned _ since fit = absurd (assumption fit)
back_at forms.LookLockTryLockFalse (AWord w0 ∷ ANumber (pos n1) ∷ AWord w2 ∷ AWord w3 ∷ []) since fit = line_back ItemForm items 1 (record { form = forms.LookLockTryLockFalse; values = AWord w0 ∷ ANumber (pos n1) ∷ AWord w2 ∷ AWord w3 ∷ [] }) (rw (same_word (spelling literals.TryLock) w2 fit.1.1.0, same_word (spelling literals.False) w3 fit.1.1.1.0) (alone_looklocktrylockfalse (AWord w0) (ANumber (pos n1)))) fit
back_at forms.LookLockTryLockFalse _ since fit = absurd (assumption fit)
back_at forms.LookNumbersLockMaxLevels (AWord w0 ∷ ANumber (pos n1) ∷ AWord w2 ∷ AWord w3 ∷ []) since fit = line_back ItemForm items 1 (record { form = forms.LookNumbersLockMaxLevels; values = AWord w0 ∷ ANumber (pos n1) ∷ AWord w2 ∷ AWord w3 ∷ [] }) (rw (same_word (spelling literals.Lock) w2 fit.1.1.0, same_word (spelling literals.MaxLevels) w3 fit.1.1.1.0) (alone_looknumberslockmaxlevels (AWord w0) (ANumber (pos n1)))) fit
back_at forms.LookNumbersLockMaxLevels _ since fit = absurd (assumption fit)
back_at forms.LookNumbersGetIndexSigned (AWord w0 ∷ ANumber (pos n1) ∷ AWord w2 ∷ ANumber (pos n3) ∷ ANumber n4 ∷ []) since fit = line_back ItemForm items 1 (record { form = forms.LookNumbersGetIndexSigned; values = AWord w0 ∷ ANumber (pos n1) ∷ AWord w2 ∷ ANumber (pos n3) ∷ ANumber n4 ∷ [] }) (rw (same_word (spelling literals.Get) w2 fit.1.1.0) (alone_looknumbersgetindexsigned (AWord w0) (ANumber (pos n1)) (ANumber (pos n3)) (ANumber n4))) fit
back_at forms.LookNumbersGetIndexSigned _ since fit = absurd (assumption fit)
back_at forms.LookNumbersAddIndexSignedOverflow (AWord w0 ∷ ANumber (pos n1) ∷ AWord w2 ∷ ANumber (pos n3) ∷ ANumber n4 ∷ AWord w5 ∷ []) since fit = line_back ItemForm items 1 (record { form = forms.LookNumbersAddIndexSignedOverflow; values = AWord w0 ∷ ANumber (pos n1) ∷ AWord w2 ∷ ANumber (pos n3) ∷ ANumber n4 ∷ AWord w5 ∷ [] }) (rw (same_word (spelling literals.Add) w2 fit.1.1.0, same_word (spelling literals.Overflow) w5 fit.1.1.1.1.1.0) (alone_looknumbersaddindexsignedoverflow (AWord w0) (ANumber (pos n1)) (ANumber (pos n3)) (ANumber n4))) fit
back_at forms.LookNumbersAddIndexSignedOverflow _ since fit = absurd (assumption fit)
back_at forms.ChangeSharedLockShared (AWord w0 ∷ ANumber (pos n1) ∷ AWord w2 ∷ []) since fit = line_back ItemForm items 1 (record { form = forms.ChangeSharedLockShared; values = AWord w0 ∷ ANumber (pos n1) ∷ AWord w2 ∷ [] }) (rw (same_word (spelling literals.LockShared) w2 fit.1.1.0) (alone_changesharedlockshared (AWord w0) (ANumber (pos n1)))) fit
back_at forms.ChangeSharedLockShared _ since fit = absurd (assumption fit)
back_at forms.ChangeSharedTryLockSharedTrue (AWord w0 ∷ ANumber (pos n1) ∷ AWord w2 ∷ AWord w3 ∷ []) since fit = line_back ItemForm items 1 (record { form = forms.ChangeSharedTryLockSharedTrue; values = AWord w0 ∷ ANumber (pos n1) ∷ AWord w2 ∷ AWord w3 ∷ [] }) (rw (same_word (spelling literals.TryLockShared) w2 fit.1.1.0, same_word (spelling literals.True) w3 fit.1.1.1.0) (alone_changesharedtrylocksharedtrue (AWord w0) (ANumber (pos n1)))) fit
back_at forms.ChangeSharedTryLockSharedTrue _ since fit = absurd (assumption fit)
back_at forms.ChangeSharedUnlockShared (AWord w0 ∷ ANumber (pos n1) ∷ AWord w2 ∷ []) since fit = line_back ItemForm items 1 (record { form = forms.ChangeSharedUnlockShared; values = AWord w0 ∷ ANumber (pos n1) ∷ AWord w2 ∷ [] }) (rw (same_word (spelling literals.UnlockShared) w2 fit.1.1.0) (alone_changesharedunlockshared (AWord w0) (ANumber (pos n1)))) fit
back_at forms.ChangeSharedUnlockShared _ since fit = absurd (assumption fit)
back_at forms.LookSharedTryLockSharedFalse (AWord w0 ∷ ANumber (pos n1) ∷ AWord w2 ∷ AWord w3 ∷ []) since fit = line_back ItemForm items 1 (record { form = forms.LookSharedTryLockSharedFalse; values = AWord w0 ∷ ANumber (pos n1) ∷ AWord w2 ∷ AWord w3 ∷ [] }) (rw (same_word (spelling literals.TryLockShared) w2 fit.1.1.0, same_word (spelling literals.False) w3 fit.1.1.1.0) (alone_looksharedtrylocksharedfalse (AWord w0) (ANumber (pos n1)))) fit
back_at forms.LookSharedTryLockSharedFalse _ since fit = absurd (assumption fit)
back_at forms.ChangeSemaphoreReleaseNumber (AWord w0 ∷ ANumber (pos n1) ∷ AWord w2 ∷ ANumber (pos n3) ∷ []) since fit = line_back ItemForm items 1 (record { form = forms.ChangeSemaphoreReleaseNumber; values = AWord w0 ∷ ANumber (pos n1) ∷ AWord w2 ∷ ANumber (pos n3) ∷ [] }) (rw (same_word (spelling literals.Release) w2 fit.1.1.0) (alone_changesemaphorereleasenumber (AWord w0) (ANumber (pos n1)) (ANumber (pos n3)))) fit
back_at forms.ChangeSemaphoreReleaseNumber _ since fit = absurd (assumption fit)
back_at forms.ChangeSemaphoreAcquire (AWord w0 ∷ ANumber (pos n1) ∷ AWord w2 ∷ []) since fit = line_back ItemForm items 1 (record { form = forms.ChangeSemaphoreAcquire; values = AWord w0 ∷ ANumber (pos n1) ∷ AWord w2 ∷ [] }) (rw (same_word (spelling literals.Acquire) w2 fit.1.1.0) (alone_changesemaphoreacquire (AWord w0) (ANumber (pos n1)))) fit
back_at forms.ChangeSemaphoreAcquire _ since fit = absurd (assumption fit)
back_at forms.ChangeSemaphoreTryAcquireTrue (AWord w0 ∷ ANumber (pos n1) ∷ AWord w2 ∷ AWord w3 ∷ []) since fit = line_back ItemForm items 1 (record { form = forms.ChangeSemaphoreTryAcquireTrue; values = AWord w0 ∷ ANumber (pos n1) ∷ AWord w2 ∷ AWord w3 ∷ [] }) (rw (same_word (spelling literals.TryAcquire) w2 fit.1.1.0, same_word (spelling literals.True) w3 fit.1.1.1.0) (alone_changesemaphoretryacquiretrue (AWord w0) (ANumber (pos n1)))) fit
back_at forms.ChangeSemaphoreTryAcquireTrue _ since fit = absurd (assumption fit)
back_at forms.LookSemaphoreReleaseNumberOver (AWord w0 ∷ ANumber (pos n1) ∷ AWord w2 ∷ ANumber (pos n3) ∷ AWord w4 ∷ []) since fit = line_back ItemForm items 1 (record { form = forms.LookSemaphoreReleaseNumberOver; values = AWord w0 ∷ ANumber (pos n1) ∷ AWord w2 ∷ ANumber (pos n3) ∷ AWord w4 ∷ [] }) (rw (same_word (spelling literals.Release) w2 fit.1.1.0, same_word (spelling literals.Over) w4 fit.1.1.1.1.0) (alone_looksemaphorereleasenumberover (AWord w0) (ANumber (pos n1)) (ANumber (pos n3)))) fit
back_at forms.LookSemaphoreReleaseNumberOver _ since fit = absurd (assumption fit)
back_at forms.LookSemaphoreTryAcquireFalse (AWord w0 ∷ ANumber (pos n1) ∷ AWord w2 ∷ AWord w3 ∷ []) since fit = line_back ItemForm items 1 (record { form = forms.LookSemaphoreTryAcquireFalse; values = AWord w0 ∷ ANumber (pos n1) ∷ AWord w2 ∷ AWord w3 ∷ [] }) (rw (same_word (spelling literals.TryAcquire) w2 fit.1.1.0, same_word (spelling literals.False) w3 fit.1.1.1.0) (alone_looksemaphoretryacquirefalse (AWord w0) (ANumber (pos n1)))) fit
back_at forms.LookSemaphoreTryAcquireFalse _ since fit = absurd (assumption fit)
back_at forms.ChangeLatchCountDownNumber (AWord w0 ∷ ANumber (pos n1) ∷ AWord w2 ∷ ANumber (pos n3) ∷ []) since fit = line_back ItemForm items 1 (record { form = forms.ChangeLatchCountDownNumber; values = AWord w0 ∷ ANumber (pos n1) ∷ AWord w2 ∷ ANumber (pos n3) ∷ [] }) (rw (same_word (spelling literals.CountDown) w2 fit.1.1.0) (alone_changelatchcountdownnumber (AWord w0) (ANumber (pos n1)) (ANumber (pos n3)))) fit
back_at forms.ChangeLatchCountDownNumber _ since fit = absurd (assumption fit)
back_at forms.LookLatchWait (AWord w0 ∷ ANumber (pos n1) ∷ AWord w2 ∷ []) since fit = line_back ItemForm items 1 (record { form = forms.LookLatchWait; values = AWord w0 ∷ ANumber (pos n1) ∷ AWord w2 ∷ [] }) (rw (same_word (spelling literals.Wait) w2 fit.1.1.0) (alone_looklatchwait (AWord w0) (ANumber (pos n1)))) fit
back_at forms.LookLatchWait _ since fit = absurd (assumption fit)
back_at forms.LookLatchTryWaitTrue (AWord w0 ∷ ANumber (pos n1) ∷ AWord w2 ∷ AWord w3 ∷ []) since fit = line_back ItemForm items 1 (record { form = forms.LookLatchTryWaitTrue; values = AWord w0 ∷ ANumber (pos n1) ∷ AWord w2 ∷ AWord w3 ∷ [] }) (rw (same_word (spelling literals.TryWait) w2 fit.1.1.0, same_word (spelling literals.True) w3 fit.1.1.1.0) (alone_looklatchtrywaittrue (AWord w0) (ANumber (pos n1)))) fit
back_at forms.LookLatchTryWaitTrue _ since fit = absurd (assumption fit)
back_at forms.LookLatchTryWaitFalse (AWord w0 ∷ ANumber (pos n1) ∷ AWord w2 ∷ AWord w3 ∷ []) since fit = line_back ItemForm items 1 (record { form = forms.LookLatchTryWaitFalse; values = AWord w0 ∷ ANumber (pos n1) ∷ AWord w2 ∷ AWord w3 ∷ [] }) (rw (same_word (spelling literals.TryWait) w2 fit.1.1.0, same_word (spelling literals.False) w3 fit.1.1.1.0) (alone_looklatchtrywaitfalse (AWord w0) (ANumber (pos n1)))) fit
back_at forms.LookLatchTryWaitFalse _ since fit = absurd (assumption fit)
back_at forms.ChangeBarrierArriveNumberNumber (AWord w0 ∷ ANumber (pos n1) ∷ AWord w2 ∷ ANumber (pos n3) ∷ ANumber (pos n4) ∷ []) since fit = line_back ItemForm items 1 (record { form = forms.ChangeBarrierArriveNumberNumber; values = AWord w0 ∷ ANumber (pos n1) ∷ AWord w2 ∷ ANumber (pos n3) ∷ ANumber (pos n4) ∷ [] }) (rw (same_word (spelling literals.Arrive) w2 fit.1.1.0) (alone_changebarrierarrivenumbernumber (AWord w0) (ANumber (pos n1)) (ANumber (pos n3)) (ANumber (pos n4)))) fit
back_at forms.ChangeBarrierArriveNumberNumber _ since fit = absurd (assumption fit)
back_at forms.ChangeBarrierDropNumber (AWord w0 ∷ ANumber (pos n1) ∷ AWord w2 ∷ ANumber (pos n3) ∷ []) since fit = line_back ItemForm items 1 (record { form = forms.ChangeBarrierDropNumber; values = AWord w0 ∷ ANumber (pos n1) ∷ AWord w2 ∷ ANumber (pos n3) ∷ [] }) (rw (same_word (spelling literals.Drop) w2 fit.1.1.0) (alone_changebarrierdropnumber (AWord w0) (ANumber (pos n1)) (ANumber (pos n3)))) fit
back_at forms.ChangeBarrierDropNumber _ since fit = absurd (assumption fit)
back_at forms.ChangeBarrierComplete (AWord w0 ∷ ANumber (pos n1) ∷ AWord w2 ∷ []) since fit = line_back ItemForm items 1 (record { form = forms.ChangeBarrierComplete; values = AWord w0 ∷ ANumber (pos n1) ∷ AWord w2 ∷ [] }) (rw (same_word (spelling literals.Complete) w2 fit.1.1.0) (alone_changebarriercomplete (AWord w0) (ANumber (pos n1)))) fit
back_at forms.ChangeBarrierComplete _ since fit = absurd (assumption fit)
back_at forms.LookBarrierArriveNumberOverExpected (AWord w0 ∷ ANumber (pos n1) ∷ AWord w2 ∷ ANumber (pos n3) ∷ AWord w4 ∷ []) since fit = line_back ItemForm items 1 (record { form = forms.LookBarrierArriveNumberOverExpected; values = AWord w0 ∷ ANumber (pos n1) ∷ AWord w2 ∷ ANumber (pos n3) ∷ AWord w4 ∷ [] }) (rw (same_word (spelling literals.Arrive) w2 fit.1.1.0, same_word (spelling literals.OverExpected) w4 fit.1.1.1.1.0) (alone_lookbarrierarrivenumberoverexpected (AWord w0) (ANumber (pos n1)) (ANumber (pos n3)))) fit
back_at forms.LookBarrierArriveNumberOverExpected _ since fit = absurd (assumption fit)
back_at forms.LookBarrierDropOverExpected (AWord w0 ∷ ANumber (pos n1) ∷ AWord w2 ∷ AWord w3 ∷ []) since fit = line_back ItemForm items 1 (record { form = forms.LookBarrierDropOverExpected; values = AWord w0 ∷ ANumber (pos n1) ∷ AWord w2 ∷ AWord w3 ∷ [] }) (rw (same_word (spelling literals.Drop) w2 fit.1.1.0, same_word (spelling literals.OverExpected) w3 fit.1.1.1.0) (alone_lookbarrierdropoverexpected (AWord w0) (ANumber (pos n1)))) fit
back_at forms.LookBarrierDropOverExpected _ since fit = absurd (assumption fit)
back_at forms.LookBarrierWaitNumber (AWord w0 ∷ ANumber (pos n1) ∷ AWord w2 ∷ ANumber (pos n3) ∷ []) since fit = line_back ItemForm items 1 (record { form = forms.LookBarrierWaitNumber; values = AWord w0 ∷ ANumber (pos n1) ∷ AWord w2 ∷ ANumber (pos n3) ∷ [] }) (rw (same_word (spelling literals.Wait) w2 fit.1.1.0) (alone_lookbarrierwaitnumber (AWord w0) (ANumber (pos n1)) (ANumber (pos n3)))) fit
back_at forms.LookBarrierWaitNumber _ since fit = absurd (assumption fit)
back_at forms.ChangeOnceBegin (AWord w0 ∷ ANumber (pos n1) ∷ AWord w2 ∷ []) since fit = line_back ItemForm items 1 (record { form = forms.ChangeOnceBegin; values = AWord w0 ∷ ANumber (pos n1) ∷ AWord w2 ∷ [] }) (rw (same_word (spelling literals.Begin) w2 fit.1.1.0) (alone_changeoncebegin (AWord w0) (ANumber (pos n1)))) fit
back_at forms.ChangeOnceBegin _ since fit = absurd (assumption fit)
back_at forms.ChangeOnceFinish (AWord w0 ∷ ANumber (pos n1) ∷ AWord w2 ∷ []) since fit = line_back ItemForm items 1 (record { form = forms.ChangeOnceFinish; values = AWord w0 ∷ ANumber (pos n1) ∷ AWord w2 ∷ [] }) (rw (same_word (spelling literals.Finish) w2 fit.1.1.0) (alone_changeoncefinish (AWord w0) (ANumber (pos n1)))) fit
back_at forms.ChangeOnceFinish _ since fit = absurd (assumption fit)
back_at forms.ChangeOnceFailNumber (AWord w0 ∷ ANumber (pos n1) ∷ AWord w2 ∷ ANumber (pos n3) ∷ []) since fit = line_back ItemForm items 1 (record { form = forms.ChangeOnceFailNumber; values = AWord w0 ∷ ANumber (pos n1) ∷ AWord w2 ∷ ANumber (pos n3) ∷ [] }) (rw (same_word (spelling literals.Fail) w2 fit.1.1.0) (alone_changeoncefailnumber (AWord w0) (ANumber (pos n1)) (ANumber (pos n3)))) fit
back_at forms.ChangeOnceFailNumber _ since fit = absurd (assumption fit)
back_at forms.LookOncePassive (AWord w0 ∷ ANumber (pos n1) ∷ AWord w2 ∷ []) since fit = line_back ItemForm items 1 (record { form = forms.LookOncePassive; values = AWord w0 ∷ ANumber (pos n1) ∷ AWord w2 ∷ [] }) (rw (same_word (spelling literals.Passive) w2 fit.1.1.0) (alone_lookoncepassive (AWord w0) (ANumber (pos n1)))) fit
back_at forms.LookOncePassive _ since fit = absurd (assumption fit)
back_at forms.ChangeConditionEnter (AWord w0 ∷ ANumber (pos n1) ∷ AWord w2 ∷ []) since fit = line_back ItemForm items 1 (record { form = forms.ChangeConditionEnter; values = AWord w0 ∷ ANumber (pos n1) ∷ AWord w2 ∷ [] }) (rw (same_word (spelling literals.Enter) w2 fit.1.1.0) (alone_changeconditionenter (AWord w0) (ANumber (pos n1)))) fit
back_at forms.ChangeConditionEnter _ since fit = absurd (assumption fit)
back_at forms.ChangeConditionNotifyOneNone (AWord w0 ∷ ANumber (pos n1) ∷ AWord w2 ∷ AWord w3 ∷ []) since fit = spelled_two (λ (u v : List ℕ). line forms.ChangeConditionNotifyOneNone (AWord w0 ∷ ANumber (pos n1) ∷ AWord u ∷ AWord v ∷ [])) (same_word (spelling literals.NotifyOne) w2 fit.1.1.0) (same_word (spelling literals.None) w3 fit.1.1.1.0) (back_changeconditionnotifyonenone (AWord w0) (ANumber (pos n1))) fit
back_at forms.ChangeConditionNotifyOneNone _ since fit = absurd (assumption fit)
back_at forms.ChangeConditionNotifyOneAnyThread (AWord w0 ∷ ANumber (pos n1) ∷ AWord w2 ∷ AWord w3 ∷ []) since fit = spelled (λ (u : List ℕ). line forms.ChangeConditionNotifyOneAnyThread (AWord w0 ∷ ANumber (pos n1) ∷ AWord u ∷ AWord w3 ∷ [])) (same_word (spelling literals.NotifyOne) w2 fit.1.1.0) (back_changeconditionnotifyoneanythread (AWord w0) (ANumber (pos n1)) w3 (not_none w3 fit.1.1.1.0)) fit
back_at forms.ChangeConditionNotifyOneAnyThread _ since fit = absurd (assumption fit)
back_at forms.ChangeConditionNotifyAllNumber (AWord w0 ∷ ANumber (pos n1) ∷ AWord w2 ∷ ANumber (pos n3) ∷ []) since fit = line_back ItemForm items 1 (record { form = forms.ChangeConditionNotifyAllNumber; values = AWord w0 ∷ ANumber (pos n1) ∷ AWord w2 ∷ ANumber (pos n3) ∷ [] }) (rw (same_word (spelling literals.NotifyAll) w2 fit.1.1.0) (alone_changeconditionnotifyallnumber (AWord w0) (ANumber (pos n1)) (ANumber (pos n3)))) fit
back_at forms.ChangeConditionNotifyAllNumber _ since fit = absurd (assumption fit)
back_at forms.ChangeConditionUnblock (AWord w0 ∷ ANumber (pos n1) ∷ AWord w2 ∷ []) since fit = line_back ItemForm items 1 (record { form = forms.ChangeConditionUnblock; values = AWord w0 ∷ ANumber (pos n1) ∷ AWord w2 ∷ [] }) (rw (same_word (spelling literals.Unblock) w2 fit.1.1.0) (alone_changeconditionunblock (AWord w0) (ANumber (pos n1)))) fit
back_at forms.ChangeConditionUnblock _ since fit = absurd (assumption fit)
back_at forms.ChangeConditionWithdraw (AWord w0 ∷ ANumber (pos n1) ∷ AWord w2 ∷ []) since fit = line_back ItemForm items 1 (record { form = forms.ChangeConditionWithdraw; values = AWord w0 ∷ ANumber (pos n1) ∷ AWord w2 ∷ [] }) (rw (same_word (spelling literals.Withdraw) w2 fit.1.1.0) (alone_changeconditionwithdraw (AWord w0) (ANumber (pos n1)))) fit
back_at forms.ChangeConditionWithdraw _ since fit = absurd (assumption fit)
back_at forms.ChangeStopRequest (AWord w0 ∷ ANumber (pos n1) ∷ AWord w2 ∷ []) since fit = line_back ItemForm items 1 (record { form = forms.ChangeStopRequest; values = AWord w0 ∷ ANumber (pos n1) ∷ AWord w2 ∷ [] }) (rw (same_word (spelling literals.Request) w2 fit.1.1.0) (alone_changestoprequest (AWord w0) (ANumber (pos n1)))) fit
back_at forms.ChangeStopRequest _ since fit = absurd (assumption fit)
back_at forms.ChangeStopAnother (AWord w0 ∷ ANumber (pos n1) ∷ AWord w2 ∷ []) since fit = line_back ItemForm items 1 (record { form = forms.ChangeStopAnother; values = AWord w0 ∷ ANumber (pos n1) ∷ AWord w2 ∷ [] }) (rw (same_word (spelling literals.Another) w2 fit.1.1.0) (alone_changestopanother (AWord w0) (ANumber (pos n1)))) fit
back_at forms.ChangeStopAnother _ since fit = absurd (assumption fit)
back_at forms.ChangeStopDrop (AWord w0 ∷ ANumber (pos n1) ∷ AWord w2 ∷ []) since fit = line_back ItemForm items 1 (record { form = forms.ChangeStopDrop; values = AWord w0 ∷ ANumber (pos n1) ∷ AWord w2 ∷ [] }) (rw (same_word (spelling literals.Drop) w2 fit.1.1.0) (alone_changestopdrop (AWord w0) (ANumber (pos n1)))) fit
back_at forms.ChangeStopDrop _ since fit = absurd (assumption fit)
back_at forms.ChangeStopRegisterNumber (AWord w0 ∷ ANumber (pos n1) ∷ AWord w2 ∷ ANumber (pos n3) ∷ []) since fit = line_back ItemForm items 1 (record { form = forms.ChangeStopRegisterNumber; values = AWord w0 ∷ ANumber (pos n1) ∷ AWord w2 ∷ ANumber (pos n3) ∷ [] }) (rw (same_word (spelling literals.Register) w2 fit.1.1.0) (alone_changestopregisternumber (AWord w0) (ANumber (pos n1)) (ANumber (pos n3)))) fit
back_at forms.ChangeStopRegisterNumber _ since fit = absurd (assumption fit)
back_at forms.ChangeStopRegisterNowNumber (AWord w0 ∷ ANumber (pos n1) ∷ AWord w2 ∷ ANumber (pos n3) ∷ []) since fit = line_back ItemForm items 1 (record { form = forms.ChangeStopRegisterNowNumber; values = AWord w0 ∷ ANumber (pos n1) ∷ AWord w2 ∷ ANumber (pos n3) ∷ [] }) (rw (same_word (spelling literals.RegisterNow) w2 fit.1.1.0) (alone_changestopregisternownumber (AWord w0) (ANumber (pos n1)) (ANumber (pos n3)))) fit
back_at forms.ChangeStopRegisterNowNumber _ since fit = absurd (assumption fit)
back_at forms.ChangeStopBeginNumber (AWord w0 ∷ ANumber (pos n1) ∷ AWord w2 ∷ ANumber (pos n3) ∷ []) since fit = line_back ItemForm items 1 (record { form = forms.ChangeStopBeginNumber; values = AWord w0 ∷ ANumber (pos n1) ∷ AWord w2 ∷ ANumber (pos n3) ∷ [] }) (rw (same_word (spelling literals.Begin) w2 fit.1.1.0) (alone_changestopbeginnumber (AWord w0) (ANumber (pos n1)) (ANumber (pos n3)))) fit
back_at forms.ChangeStopBeginNumber _ since fit = absurd (assumption fit)
back_at forms.ChangeStopFinishNumber (AWord w0 ∷ ANumber (pos n1) ∷ AWord w2 ∷ ANumber (pos n3) ∷ []) since fit = line_back ItemForm items 1 (record { form = forms.ChangeStopFinishNumber; values = AWord w0 ∷ ANumber (pos n1) ∷ AWord w2 ∷ ANumber (pos n3) ∷ [] }) (rw (same_word (spelling literals.Finish) w2 fit.1.1.0) (alone_changestopfinishnumber (AWord w0) (ANumber (pos n1)) (ANumber (pos n3)))) fit
back_at forms.ChangeStopFinishNumber _ since fit = absurd (assumption fit)
back_at forms.ChangeStopDeregisterNumberRemoved (AWord w0 ∷ ANumber (pos n1) ∷ AWord w2 ∷ ANumber (pos n3) ∷ AWord w4 ∷ []) since fit = line_back ItemForm items 1 (record { form = forms.ChangeStopDeregisterNumberRemoved; values = AWord w0 ∷ ANumber (pos n1) ∷ AWord w2 ∷ ANumber (pos n3) ∷ AWord w4 ∷ [] }) (rw (same_word (spelling literals.Deregister) w2 fit.1.1.0, same_word (spelling literals.Removed) w4 fit.1.1.1.1.0) (alone_changestopderegisternumberremoved (AWord w0) (ANumber (pos n1)) (ANumber (pos n3)))) fit
back_at forms.ChangeStopDeregisterNumberRemoved _ since fit = absurd (assumption fit)
back_at forms.ChangeStopDeregisterNumberRan (AWord w0 ∷ ANumber (pos n1) ∷ AWord w2 ∷ ANumber (pos n3) ∷ AWord w4 ∷ []) since fit = line_back ItemForm items 1 (record { form = forms.ChangeStopDeregisterNumberRan; values = AWord w0 ∷ ANumber (pos n1) ∷ AWord w2 ∷ ANumber (pos n3) ∷ AWord w4 ∷ [] }) (rw (same_word (spelling literals.Deregister) w2 fit.1.1.0, same_word (spelling literals.Ran) w4 fit.1.1.1.1.0) (alone_changestopderegisternumberran (AWord w0) (ANumber (pos n1)) (ANumber (pos n3)))) fit
back_at forms.ChangeStopDeregisterNumberRan _ since fit = absurd (assumption fit)
back_at forms.ChangeStopDeregisterNumberInside (AWord w0 ∷ ANumber (pos n1) ∷ AWord w2 ∷ ANumber (pos n3) ∷ AWord w4 ∷ []) since fit = line_back ItemForm items 1 (record { form = forms.ChangeStopDeregisterNumberInside; values = AWord w0 ∷ ANumber (pos n1) ∷ AWord w2 ∷ ANumber (pos n3) ∷ AWord w4 ∷ [] }) (rw (same_word (spelling literals.Deregister) w2 fit.1.1.0, same_word (spelling literals.Inside) w4 fit.1.1.1.1.0) (alone_changestopderegisternumberinside (AWord w0) (ANumber (pos n1)) (ANumber (pos n3)))) fit
back_at forms.ChangeStopDeregisterNumberInside _ since fit = absurd (assumption fit)
back_at forms.LookStopAlready (AWord w0 ∷ ANumber (pos n1) ∷ AWord w2 ∷ []) since fit = line_back ItemForm items 1 (record { form = forms.LookStopAlready; values = AWord w0 ∷ ANumber (pos n1) ∷ AWord w2 ∷ [] }) (rw (same_word (spelling literals.Already) w2 fit.1.1.0) (alone_lookstopalready (AWord w0) (ANumber (pos n1)))) fit
back_at forms.LookStopAlready _ since fit = absurd (assumption fit)
back_at forms.LookStopStopRequestedTrue (AWord w0 ∷ ANumber (pos n1) ∷ AWord w2 ∷ AWord w3 ∷ []) since fit = line_back ItemForm items 1 (record { form = forms.LookStopStopRequestedTrue; values = AWord w0 ∷ ANumber (pos n1) ∷ AWord w2 ∷ AWord w3 ∷ [] }) (rw (same_word (spelling literals.StopRequested) w2 fit.1.1.0, same_word (spelling literals.True) w3 fit.1.1.1.0) (alone_lookstopstoprequestedtrue (AWord w0) (ANumber (pos n1)))) fit
back_at forms.LookStopStopRequestedTrue _ since fit = absurd (assumption fit)
back_at forms.LookStopStopRequestedFalse (AWord w0 ∷ ANumber (pos n1) ∷ AWord w2 ∷ AWord w3 ∷ []) since fit = line_back ItemForm items 1 (record { form = forms.LookStopStopRequestedFalse; values = AWord w0 ∷ ANumber (pos n1) ∷ AWord w2 ∷ AWord w3 ∷ [] }) (rw (same_word (spelling literals.StopRequested) w2 fit.1.1.0, same_word (spelling literals.False) w3 fit.1.1.1.0) (alone_lookstopstoprequestedfalse (AWord w0) (ANumber (pos n1)))) fit
back_at forms.LookStopStopRequestedFalse _ since fit = absurd (assumption fit)
back_at forms.LookStopStopPossibleTrue (AWord w0 ∷ ANumber (pos n1) ∷ AWord w2 ∷ AWord w3 ∷ []) since fit = line_back ItemForm items 1 (record { form = forms.LookStopStopPossibleTrue; values = AWord w0 ∷ ANumber (pos n1) ∷ AWord w2 ∷ AWord w3 ∷ [] }) (rw (same_word (spelling literals.StopPossible) w2 fit.1.1.0, same_word (spelling literals.True) w3 fit.1.1.1.0) (alone_lookstopstoppossibletrue (AWord w0) (ANumber (pos n1)))) fit
back_at forms.LookStopStopPossibleTrue _ since fit = absurd (assumption fit)
back_at forms.LookStopStopPossibleFalse (AWord w0 ∷ ANumber (pos n1) ∷ AWord w2 ∷ AWord w3 ∷ []) since fit = line_back ItemForm items 1 (record { form = forms.LookStopStopPossibleFalse; values = AWord w0 ∷ ANumber (pos n1) ∷ AWord w2 ∷ AWord w3 ∷ [] }) (rw (same_word (spelling literals.StopPossible) w2 fit.1.1.0, same_word (spelling literals.False) w3 fit.1.1.1.0) (alone_lookstopstoppossiblefalse (AWord w0) (ANumber (pos n1)))) fit
back_at forms.LookStopStopPossibleFalse _ since fit = absurd (assumption fit)
back_at forms.LookStopNeverNumber (AWord w0 ∷ ANumber (pos n1) ∷ AWord w2 ∷ ANumber (pos n3) ∷ []) since fit = line_back ItemForm items 1 (record { form = forms.LookStopNeverNumber; values = AWord w0 ∷ ANumber (pos n1) ∷ AWord w2 ∷ ANumber (pos n3) ∷ [] }) (rw (same_word (spelling literals.Never) w2 fit.1.1.0) (alone_lookstopnevernumber (AWord w0) (ANumber (pos n1)) (ANumber (pos n3)))) fit
back_at forms.LookStopNeverNumber _ since fit = absurd (assumption fit)
back_at forms.LookStopDrained (AWord w0 ∷ ANumber (pos n1) ∷ AWord w2 ∷ []) since fit = line_back ItemForm items 1 (record { form = forms.LookStopDrained; values = AWord w0 ∷ ANumber (pos n1) ∷ AWord w2 ∷ [] }) (rw (same_word (spelling literals.Drained) w2 fit.1.1.0) (alone_lookstopdrained (AWord w0) (ANumber (pos n1)))) fit
back_at forms.LookStopDrained _ since fit = absurd (assumption fit)
back_at forms.ChangeFutureDefer (AWord w0 ∷ ANumber (pos n1) ∷ AWord w2 ∷ []) since fit = line_back ItemForm items 1 (record { form = forms.ChangeFutureDefer; values = AWord w0 ∷ ANumber (pos n1) ∷ AWord w2 ∷ [] }) (rw (same_word (spelling literals.Defer) w2 fit.1.1.0) (alone_changefuturedefer (AWord w0) (ANumber (pos n1)))) fit
back_at forms.ChangeFutureDefer _ since fit = absurd (assumption fit)
back_at forms.ChangeFutureRun (AWord w0 ∷ ANumber (pos n1) ∷ AWord w2 ∷ []) since fit = line_back ItemForm items 1 (record { form = forms.ChangeFutureRun; values = AWord w0 ∷ ANumber (pos n1) ∷ AWord w2 ∷ [] }) (rw (same_word (spelling literals.Run) w2 fit.1.1.0) (alone_changefuturerun (AWord w0) (ANumber (pos n1)))) fit
back_at forms.ChangeFutureRun _ since fit = absurd (assumption fit)
back_at forms.ChangeFutureSetValueSigned (AWord w0 ∷ ANumber (pos n1) ∷ AWord w2 ∷ AWord w3 ∷ ANumber n4 ∷ []) since fit = spelled_two (λ (u v : List ℕ). line forms.ChangeFutureSetValueSigned (AWord w0 ∷ ANumber (pos n1) ∷ AWord u ∷ AWord v ∷ ANumber n4 ∷ [])) (same_word (spelling literals.Set) w2 fit.1.1.0) (same_word (spelling literals.Value) w3 fit.1.1.1.0) (back_changefuturesetvaluesigned (AWord w0) (ANumber (pos n1)) (ANumber n4)) fit
back_at forms.ChangeFutureSetValueSigned _ since fit = absurd (assumption fit)
back_at forms.ChangeFutureSetExceptionNumber (AWord w0 ∷ ANumber (pos n1) ∷ AWord w2 ∷ AWord w3 ∷ ANumber (pos n4) ∷ []) since fit = spelled_two (λ (u v : List ℕ). line forms.ChangeFutureSetExceptionNumber (AWord w0 ∷ ANumber (pos n1) ∷ AWord u ∷ AWord v ∷ ANumber (pos n4) ∷ [])) (same_word (spelling literals.Set) w2 fit.1.1.0) (same_word (spelling literals.Exception) w3 fit.1.1.1.0) (back_changefuturesetexceptionnumber (AWord w0) (ANumber (pos n1)) (ANumber (pos n4))) fit
back_at forms.ChangeFutureSetExceptionNumber _ since fit = absurd (assumption fit)
back_at forms.ChangeFutureSetBrokenPromise (AWord w0 ∷ ANumber (pos n1) ∷ AWord w2 ∷ AWord w3 ∷ []) since fit = line_back ItemForm items 1 (record { form = forms.ChangeFutureSetBrokenPromise; values = AWord w0 ∷ ANumber (pos n1) ∷ AWord w2 ∷ AWord w3 ∷ [] }) (rw (same_word (spelling literals.Set) w2 fit.1.1.0, same_word (spelling literals.BrokenPromise) w3 fit.1.1.1.0) (alone_changefuturesetbrokenpromise (AWord w0) (ANumber (pos n1)))) fit
back_at forms.ChangeFutureSetBrokenPromise _ since fit = absurd (assumption fit)
back_at forms.LookFutureReadyValueSigned (AWord w0 ∷ ANumber (pos n1) ∷ AWord w2 ∷ AWord w3 ∷ ANumber n4 ∷ []) since fit = line_back ItemForm items 1 (record { form = forms.LookFutureReadyValueSigned; values = AWord w0 ∷ ANumber (pos n1) ∷ AWord w2 ∷ AWord w3 ∷ ANumber n4 ∷ [] }) (rw (same_word (spelling literals.Ready) w2 fit.1.1.0, same_word (spelling literals.Value) w3 fit.1.1.1.0) (alone_lookfuturereadyvaluesigned (AWord w0) (ANumber (pos n1)) (ANumber n4))) fit
back_at forms.LookFutureReadyValueSigned _ since fit = absurd (assumption fit)
back_at forms.LookFutureReadyExceptionNumber (AWord w0 ∷ ANumber (pos n1) ∷ AWord w2 ∷ AWord w3 ∷ ANumber (pos n4) ∷ []) since fit = line_back ItemForm items 1 (record { form = forms.LookFutureReadyExceptionNumber; values = AWord w0 ∷ ANumber (pos n1) ∷ AWord w2 ∷ AWord w3 ∷ ANumber (pos n4) ∷ [] }) (rw (same_word (spelling literals.Ready) w2 fit.1.1.0, same_word (spelling literals.Exception) w3 fit.1.1.1.0) (alone_lookfuturereadyexceptionnumber (AWord w0) (ANumber (pos n1)) (ANumber (pos n4)))) fit
back_at forms.LookFutureReadyExceptionNumber _ since fit = absurd (assumption fit)
back_at forms.LookFutureReadyBrokenPromise (AWord w0 ∷ ANumber (pos n1) ∷ AWord w2 ∷ AWord w3 ∷ []) since fit = line_back ItemForm items 1 (record { form = forms.LookFutureReadyBrokenPromise; values = AWord w0 ∷ ANumber (pos n1) ∷ AWord w2 ∷ AWord w3 ∷ [] }) (rw (same_word (spelling literals.Ready) w2 fit.1.1.0, same_word (spelling literals.BrokenPromise) w3 fit.1.1.1.0) (alone_lookfuturereadybrokenpromise (AWord w0) (ANumber (pos n1)))) fit
back_at forms.LookFutureReadyBrokenPromise _ since fit = absurd (assumption fit)
back_at forms.ControlStartOk (AWord w0 ∷ AWord w1 ∷ AWord w2 ∷ []) since fit = line_back ItemForm items 1 (record { form = forms.ControlStartOk; values = AWord w0 ∷ AWord w1 ∷ AWord w2 ∷ [] }) (rw (same_word (spelling literals.Start) w0 fit.0, same_word (spelling literals.Ok) w2 fit.1.1.0) (alone_controlstartok (AWord w1))) fit
back_at forms.ControlStartOk _ since fit = absurd (assumption fit)
back_at forms.ControlStartNoThread (AWord w0 ∷ AWord w1 ∷ AWord w2 ∷ []) since fit = line_back ItemForm items 1 (record { form = forms.ControlStartNoThread; values = AWord w0 ∷ AWord w1 ∷ AWord w2 ∷ [] }) (rw (same_word (spelling literals.Start) w0 fit.0, same_word (spelling literals.NoThread) w2 fit.1.1.0) (alone_controlstartnothread (AWord w1))) fit
back_at forms.ControlStartNoThread _ since fit = absurd (assumption fit)
back_at forms.ControlJoin (AWord w0 ∷ AWord w1 ∷ []) since fit = line_back ItemForm items 1 (record { form = forms.ControlJoin; values = AWord w0 ∷ AWord w1 ∷ [] }) (rw (same_word (spelling literals.Join) w0 fit.0) (alone_controljoin (AWord w1))) fit
back_at forms.ControlJoin _ since fit = absurd (assumption fit)
back_at forms.ControlLaunchOk (AWord w0 ∷ AWord w1 ∷ AWord w2 ∷ []) since fit = line_back ItemForm items 1 (record { form = forms.ControlLaunchOk; values = AWord w0 ∷ AWord w1 ∷ AWord w2 ∷ [] }) (rw (same_word (spelling literals.Launch) w0 fit.0, same_word (spelling literals.Ok) w2 fit.1.1.0) (alone_controllaunchok (AWord w1))) fit
back_at forms.ControlLaunchOk _ since fit = absurd (assumption fit)
back_at forms.ControlLaunchNoThread (AWord w0 ∷ AWord w1 ∷ AWord w2 ∷ []) since fit = line_back ItemForm items 1 (record { form = forms.ControlLaunchNoThread; values = AWord w0 ∷ AWord w1 ∷ AWord w2 ∷ [] }) (rw (same_word (spelling literals.Launch) w0 fit.0, same_word (spelling literals.NoThread) w2 fit.1.1.0) (alone_controllaunchnothread (AWord w1))) fit
back_at forms.ControlLaunchNoThread _ since fit = absurd (assumption fit)
back_at forms.ReplyOk (AWord w0 ∷ []) since fit = rw (same_word (spelling literals.Ok) w0 fit.0) back_replyok
back_at forms.ReplyOk _ since fit = absurd (assumption fit)
back_at forms.ReplyTrue (AWord w0 ∷ []) since fit = rw (same_word (spelling literals.True) w0 fit.0) back_replytrue
back_at forms.ReplyTrue _ since fit = absurd (assumption fit)
back_at forms.ReplyFalse (AWord w0 ∷ []) since fit = rw (same_word (spelling literals.False) w0 fit.0) back_replyfalse
back_at forms.ReplyFalse _ since fit = absurd (assumption fit)
back_at forms.ReplyOver (AWord w0 ∷ []) since fit = rw (same_word (spelling literals.Over) w0 fit.0) back_replyover
back_at forms.ReplyOver _ since fit = absurd (assumption fit)
back_at forms.ReplyOverExpected (AWord w0 ∷ []) since fit = rw (same_word (spelling literals.OverExpected) w0 fit.0) back_replyoverexpected
back_at forms.ReplyOverExpected _ since fit = absurd (assumption fit)
back_at forms.ReplyMaxLevels (AWord w0 ∷ []) since fit = rw (same_word (spelling literals.MaxLevels) w0 fit.0) back_replymaxlevels
back_at forms.ReplyMaxLevels _ since fit = absurd (assumption fit)
back_at forms.ReplyOverflow (AWord w0 ∷ []) since fit = rw (same_word (spelling literals.Overflow) w0 fit.0) back_replyoverflow
back_at forms.ReplyOverflow _ since fit = absurd (assumption fit)
back_at forms.ReplyMade (AWord w0 ∷ []) since fit = rw (same_word (spelling literals.Made) w0 fit.0) back_replymade
back_at forms.ReplyMade _ since fit = absurd (assumption fit)
back_at forms.ReplyAlready (AWord w0 ∷ []) since fit = rw (same_word (spelling literals.Already) w0 fit.0) back_replyalready
back_at forms.ReplyAlready _ since fit = absurd (assumption fit)
back_at forms.ReplyQueued (AWord w0 ∷ []) since fit = rw (same_word (spelling literals.Queued) w0 fit.0) back_replyqueued
back_at forms.ReplyQueued _ since fit = absurd (assumption fit)
back_at forms.ReplyRan (AWord w0 ∷ []) since fit = rw (same_word (spelling literals.Ran) w0 fit.0) back_replyran
back_at forms.ReplyRan _ since fit = absurd (assumption fit)
back_at forms.ReplyNever (AWord w0 ∷ []) since fit = rw (same_word (spelling literals.Never) w0 fit.0) back_replynever
back_at forms.ReplyNever _ since fit = absurd (assumption fit)
back_at forms.ReplyRemoved (AWord w0 ∷ []) since fit = rw (same_word (spelling literals.Removed) w0 fit.0) back_replyremoved
back_at forms.ReplyRemoved _ since fit = absurd (assumption fit)
back_at forms.ReplyInside (AWord w0 ∷ []) since fit = rw (same_word (spelling literals.Inside) w0 fit.0) back_replyinside
back_at forms.ReplyInside _ since fit = absurd (assumption fit)
back_at forms.ReplyNotHeld (AWord w0 ∷ []) since fit = rw (same_word (spelling literals.NotHeld) w0 fit.0) back_replynotheld
back_at forms.ReplyNotHeld _ since fit = absurd (assumption fit)
back_at forms.ReplyReturned (AWord w0 ∷ []) since fit = rw (same_word (spelling literals.Returned) w0 fit.0) back_replyreturned
back_at forms.ReplyReturned _ since fit = absurd (assumption fit)
back_at forms.ReplyPassive (AWord w0 ∷ []) since fit = rw (same_word (spelling literals.Passive) w0 fit.0) back_replypassive
back_at forms.ReplyPassive _ since fit = absurd (assumption fit)
back_at forms.ReplyNoToken (AWord w0 ∷ []) since fit = rw (same_word (spelling literals.NoToken) w0 fit.0) back_replynotoken
back_at forms.ReplyNoToken _ since fit = absurd (assumption fit)
back_at forms.ReplySpent (AWord w0 ∷ []) since fit = rw (same_word (spelling literals.Spent) w0 fit.0) back_replyspent
back_at forms.ReplySpent _ since fit = absurd (assumption fit)
back_at forms.ReplyNoThread (AWord w0 ∷ []) since fit = rw (same_word (spelling literals.NoThread) w0 fit.0) back_replynothread
back_at forms.ReplyNoThread _ since fit = absurd (assumption fit)
back_at forms.ReplyLaunched (AWord w0 ∷ []) since fit = rw (same_word (spelling literals.Launched) w0 fit.0) back_replylaunched
back_at forms.ReplyLaunched _ since fit = absurd (assumption fit)
back_at forms.ReplyDeferred (AWord w0 ∷ []) since fit = rw (same_word (spelling literals.Deferred) w0 fit.0) back_replydeferred
back_at forms.ReplyDeferred _ since fit = absurd (assumption fit)
back_at forms.ReplyNone (AWord w0 ∷ []) since fit = rw (same_word (spelling literals.None) w0 fit.0) back_replynone
back_at forms.ReplyNone _ since fit = absurd (assumption fit)
back_at forms.ReplyNoState (AWord w0 ∷ []) since fit = rw (same_word (spelling literals.NoState) w0 fit.0) back_replynostate
back_at forms.ReplyNoState _ since fit = absurd (assumption fit)
back_at forms.ReplyPromiseAlreadySatisfied (AWord w0 ∷ []) since fit = rw (same_word (spelling literals.PromiseAlreadySatisfied) w0 fit.0) back_replypromisealreadysatisfied
back_at forms.ReplyPromiseAlreadySatisfied _ since fit = absurd (assumption fit)
back_at forms.ReplyFutureAlreadyRetrieved (AWord w0 ∷ []) since fit = rw (same_word (spelling literals.FutureAlreadyRetrieved) w0 fit.0) back_replyfuturealreadyretrieved
back_at forms.ReplyFutureAlreadyRetrieved _ since fit = absurd (assumption fit)
back_at forms.ReplyBrokenPromise (AWord w0 ∷ []) since fit = rw (same_word (spelling literals.BrokenPromise) w0 fit.0) back_replybrokenpromise
back_at forms.ReplyBrokenPromise _ since fit = absurd (assumption fit)
back_at forms.ReplyOperationNotPermitted (AWord w0 ∷ []) since fit = rw (same_word (spelling literals.OperationNotPermitted) w0 fit.0) back_replyoperationnotpermitted
back_at forms.ReplyOperationNotPermitted _ since fit = absurd (assumption fit)
back_at forms.ReplyResourceDeadlockWouldOccur (AWord w0 ∷ []) since fit = rw (same_word (spelling literals.ResourceDeadlockWouldOccur) w0 fit.0) back_replyresourcedeadlockwouldoccur
back_at forms.ReplyResourceDeadlockWouldOccur _ since fit = absurd (assumption fit)
back_at forms.ReplyInvalidArgument (AWord w0 ∷ []) since fit = rw (same_word (spelling literals.InvalidArgument) w0 fit.0) back_replyinvalidargument
back_at forms.ReplyInvalidArgument _ since fit = absurd (assumption fit)
back_at forms.ReplyNumber (ANumber n0 ∷ []) since fit = back_replynumber n0 fit.0
back_at forms.ReplyNumber _ since fit = absurd (assumption fit)
back_at forms.ReplyThread (AWord w0 ∷ []) since fit = back_thread w0 fit.0
back_at forms.ReplyThread _ since fit = absurd (assumption fit)
back_at forms.ReplyThrewOf (AWord w0 ∷ ANumber (pos n1) ∷ []) since fit = line_back ItemForm items 1 (record { form = forms.ReplyThrewOf; values = AWord w0 ∷ ANumber (pos n1) ∷ [] }) (rw (same_word (spelling literals.Threw) w0 fit.0) (alone_replythrewof (ANumber (pos n1)))) fit
back_at forms.ReplyThrewOf _ since fit = absurd (assumption fit)
back_at forms.ReplyValueOf (AWord w0 ∷ ANumber n1 ∷ []) since fit = line_back ItemForm items 1 (record { form = forms.ReplyValueOf; values = AWord w0 ∷ ANumber n1 ∷ [] }) (rw (same_word (spelling literals.Value) w0 fit.0) (alone_replyvalueof (ANumber n1))) fit
back_at forms.ReplyValueOf _ since fit = absurd (assumption fit)
back_at forms.ReplyExceptionOf (AWord w0 ∷ ANumber (pos n1) ∷ []) since fit = line_back ItemForm items 1 (record { form = forms.ReplyExceptionOf; values = AWord w0 ∷ ANumber (pos n1) ∷ [] }) (rw (same_word (spelling literals.Exception) w0 fit.0) (alone_replyexceptionof (ANumber (pos n1)))) fit
back_at forms.ReplyExceptionOf _ since fit = absurd (assumption fit)

-- ---- plain words

-- a byte that is no blank and no line's end
abbrev is_inside : ℕ → Bool
is_inside b = nat_le 33 b && nat_le b 126

inside_byte : (b : ℕ) → is_inside b ≡ true → IsInWord b
inside_byte b h = record { apart = grind (arith, nat_tests); inside = grind (arith, nat_tests); kept = grind (arith, nat_tests) }

inside_all : (w : List ℕ) → list_all is_inside w ≡ true → AllByRecursion IsInWord w
inside_all [] h = tt
inside_all (b ∷ w) h = let p = and_parts (is_inside b) (list_all is_inside w) h in (inside_byte b p.0, inside_all w p.1)

name_inside : (b : ℕ) → is_name_byte b ≡ true → is_inside b ≡ true
name_inside b h = grind (arith, nat_tests)

names_inside : (w : List ℕ) → list_all is_name_byte w ≡ true → list_all is_inside w ≡ true
names_inside [] h = refl
names_inside (b ∷ w) h = let p = and_parts (is_name_byte b) (list_all is_name_byte w) h in let q = names_inside w p.1 in rw (name_inside b p.0) q

long_word : (b : ℕ) (w : List ℕ) → is_word (b ∷ w) ≡ true
long_word b w = lt-ltb 0 (suc (length w)) (omega arith)

name_word : (w : List ℕ) → begins_lower w ≡ true → is_word w ≡ true
name_word [] h = absurd cc
name_word (b ∷ w) h = long_word b w

text_byte : (b : ℕ) → is_inside b ≡ true → is_text_byte b ≡ true
text_byte b h = grind (arith, nat_tests)

text_all : (w : List ℕ) → list_all is_inside w ≡ true → list_all is_text_byte w ≡ true
text_all [] h = refl
text_all (b ∷ w) h = let p = and_parts (is_inside b) (list_all is_inside w) h in let q = text_all w p.1 in rw (text_byte b p.0) q

-- a written word: plain, of bytes of text, and of at most so many bytes
record Fine (n : ℕ) (w : List ℕ) : Type 0 where
  plain : IsPlain w
  text : list_all is_text_byte w ≡ true
  short : length w ≤ n

fine_by : (n : ℕ) (w : List ℕ) → is_word w ≡ true → list_all is_inside w ≡ true → length w ≤ n → Fine n w
fine_by n w long h few = record { plain = record { long = long; bytes = inside_all w h }; text = text_all w h; short = few }

name_fine : (w : List ℕ) → is_name 1 w ≡ true → Fine 16 w
unfolding is_name
name_fine w h =
    let a = and_parts (begins_lower w && nat_le (length w) 16 && list_all is_name_byte w) (not (is_reserved 1 w)) h in
    let b = and_parts (begins_lower w && nat_le (length w) 16) (list_all is_name_byte w) a.0 in
    let c = and_parts (begins_lower w) (nat_le (length w) 16) b.0 in
    fine_by 16 w (name_word w c.0) (names_inside w b.1) (leb-true (length w) 16 c.1)

by_test : (u w : List ℕ) (n : ℕ) → bytes_eq u w ≡ true → is_word u ≡ true → list_all is_inside u ≡ true → nat_le (length u) n ≡ true → Fine n w
by_test u w n e long inside few = let q : w ≡ u = same_word u w e in rw q (fine_by n u long inside (leb-true (length u) n few))

main_or_name : (sort : Sort) (w : List ℕ) → (is_name 1 w || (takes_main sort && bytes_eq main_word w)) ≡ true → Fine 16 w
main_or_name sort w h = elim (or_cases (is_name 1 w) (takes_main sort && bytes_eq main_word w) h) [
  | inl a ↦ name_fine w a
  | inr a ↦ by_test main_word w 16 (and_parts (takes_main sort) (bytes_eq main_word w) a).1 refl refl refl
]

digit_inside : (c : ℕ) → digit_value c < 10 → is_inside c ≡ true
digit_inside c h = let r = digit_from_value c h in grind (arith, nat_tests)

digits_inside : (cs : List ℕ) → AllDigits 10 cs → list_all is_inside cs ≡ true
digits_inside [] h = refl
digits_inside (c ∷ cs) h = let q = digits_inside cs h.1 in rw (digit_inside c h.0) q

number_fine : (n : ℕ) → n < 10 ^ 20 → Fine 20 (decimal n)
number_fine n lt =
    let d = decimal_is_IsNumeral_wide n (omega arith) in
    fine_by 20 (decimal n) (lt-ltb 0 (length (decimal n)) d.0.0) (digits_inside (decimal n) d.0.1) (length-decimal-le_wide 20 n (omega arith) lt (omega arith))

minus_fine : (n : ℕ) → n < 10 ^ 20 → Fine 21 (45 ∷ decimal n)
minus_fine n lt =
    let f = number_fine n lt in
    let short = f.short in
    record { plain = record { long = long_word 45 (decimal n); bytes = (inside_byte 45 refl, f.plain.bytes) }; text = f.text; short = omega arith }

longer : (m n : ℕ) (w : List ℕ) → m ≤ n → Fine m w → Fine n w
longer m n w h f = let short = f.short in record { plain = f.plain; text = f.text; short = omega arith }

literal_plain : (l : Literal) → (is_word (spelling l) ≡ true) × (list_all is_inside (spelling l) ≡ true) × (nat_le (length (spelling l)) (length (spelling l)) ≡ true)
literal_plain literals.One = (refl, refl, refl)
literal_plain _ = (refl, refl, refl)

-- ---- values

-- the fields that a record's line has, and how long a word at one of them can be
abbrev is_item_field : Field → Bool
is_item_field (fields.Name sort) = true
is_item_field (fields.Word literal) = true
is_item_field (fields.Number low high) = true
is_item_field fields.Signed = true
is_item_field fields.Index = true
is_item_field _ = false

abbrev longest : Field → ℕ
longest (fields.Word literal) = length (spelling literal)
longest (fields.Number low high) = 20
longest fields.Signed = 21
longest fields.Index = 20
longest _ = 16

value_fine : (own : List ℕ) (f : Field) (v : Value) → is_item_field f ≡ true → FitsField 1 own f v → Fine (longest f) (spell v)
value_fine own (fields.Name sort) (AWord w) k h = main_or_name sort w h
value_fine own (fields.Word literal) (AWord w) k h = let l = literal_plain literal in by_test (spelling literal) w (length (spelling literal)) h l.0 l.1 l.2
value_fine own (fields.Number low high) (ANumber (pos n)) k h = number_fine n h
value_fine own fields.Signed (ANumber (pos n)) k h = longer 20 21 (decimal n) (lit≤ tt) (number_fine n h)
value_fine own fields.Signed (ANumber (negsuc n)) k h = minus_fine (suc n) h
value_fine own fields.Index (ANumber (pos n)) k h = number_fine n h
value_fine own (fields.Name sort) (ANumber n) k h = absurd h
value_fine own (fields.Word literal) (ANumber n) k h = absurd h
value_fine own (fields.Number low high) (ANumber (negsuc n)) k h = absurd h
value_fine own (fields.Number low high) (AWord w) k h = absurd h
value_fine own fields.Signed (AWord w) k h = absurd h
value_fine own fields.Index (ANumber (negsuc n)) k h = absurd h
value_fine own fields.Index (AWord w) k h = absurd h
value_fine own _ v k h = absurd (false≢true k)

-- the most that values take, each after a space
abbrev most : List Field → ℕ
most [] = 0
most (f ∷ fs) = suc (longest f) + most fs

abbrev spelled_length : List (List ℕ) → ℕ
spelled_length [] = 0
spelled_length (w ∷ ws) = suc (length w) + spelled_length ws

abbrev AreText : List (List ℕ) → Type 0
AreText ws = AllByRecursion (λ (w : List ℕ). list_all is_text_byte w ≡ true) ws

values_fine : (own : List ℕ) (fs : List Field) (vs : List Value) → list_all is_item_field fs ≡ true → FitFields 1 own fs vs → ArePlain (map spell vs) × (spelled_length (map spell vs) ≤ most fs) × AreText (map spell vs)
values_fine own [] [] k h = (tt, omega arith, tt)
values_fine own [] (v ∷ vs) k h = absurd h
values_fine own (f ∷ fs) [] k h = absurd h
values_fine own (f ∷ fs) (v ∷ vs) k h =
    let p = and_parts (is_item_field f) (list_all is_item_field fs) k in
    let a = value_fine own f v p.0 h.0 in
    let b = values_fine own fs vs p.1 h.1 in
    let short = a.short in
    let rest = b.1 in
    ((a.plain, b.0), omega arith, (a.text, b.2))

joined_length : (w : List ℕ) (ws : List (List ℕ)) → length (join_with_byte 32 (w ∷ ws)) ≡ length w + spelled_length ws
joined_length w [] = omega arith
joined_length w (v ∷ vs) = let a = joined_length v vs in let b = length-append w (32 ∷ join_with_byte 32 (v ∷ vs)) in omega arith

joined_text : (w : List ℕ) (ws : List (List ℕ)) → list_all is_text_byte w ≡ true → AreText ws → list_all is_text_byte (join_with_byte 32 (w ∷ ws)) ≡ true
joined_text w [] h hs = h
joined_text w (v ∷ vs) h hs = list_all-append is_text_byte w (32 ∷ join_with_byte 32 (v ∷ vs)) ∙ and_from (list_all is_text_byte w) _ h (joined_text v vs hs.0 hs.1)

-- ---- lines

-- what holds of a row: its head is plain and no comment's, its fields are of these kinds as they stand, and its line has at most 120 bytes
record IsRow (f : ItemForm) : Type 0 where
  word : is_word (item_head f) ≡ true
  inside : list_all is_inside (item_head f) ≡ true
  kept : (ws : List (List ℕ)) → kept_words (item_head f ∷ ws) ≡ item_head f ∷ ws
  kinds : list_all is_item_field (item_fields f) ≡ true
  as_many : (n : ℕ) → spread (item_fields f) n ≡ item_fields f
  short : length (item_head f) + most (item_fields f) ≤ 120

is_row : (f : ItemForm) → IsRow f
is_row forms.RecordOne = record { word = refl; inside = refl; kept = λ ws. refl; kinds = refl; as_many = λ n. refl; short = lit≤ tt }
is_row _ = record { word = refl; inside = refl; kept = λ ws. refl; kinds = refl; as_many = λ n. refl; short = lit≤ tt }

-- a line fits its row where its values fit the row's fields
pub well_filled : (l : Said ItemForm) → FitFields 1 (own_word (map spell l.values)) (item_fields l.form) l.values → IsWellFilled items 1 l
well_filled l fit = subst (λ (fs : List Field). FitFields 1 (own_word (map spell l.values)) fs l.values) (sym ((is_row l.form).as_many (length l.values))) fit

-- a line as it is written: words, of bytes of text, and short
pub record IsShown (l : Said ItemForm) : Type 0 where
  pub words : IsLine (words_by items l)
  pub text : list_all is_text_byte (join_with_byte 32 (words_by items l)) ≡ true
  pub short : length (join_with_byte 32 (words_by items l)) ≤ 120

pub is_shown : (l : Said ItemForm) → IsWellFilled items 1 l → IsShown l
is_shown l fit =
    let h = is_row l.form in
    let own = own_word (map spell l.values) in
    let v = values_fine own (item_fields l.form) l.values h.kinds (subst (λ (fs : List Field). FitFields 1 own fs l.values) (h.as_many (length l.values)) fit) in
    let a = joined_length (item_head l.form) (map spell l.values) in
    let b = v.1 in
    let c = h.short in
    record {
      words = (record { long = h.word; bytes = inside_all (item_head l.form) h.inside }, v.0, h.kept (map spell l.values));
      text = joined_text (item_head l.form) (map spell l.values) (text_all (item_head l.form) h.inside) v.2;
      short = omega arith;
    }
