-- What others leave as it is.
use Rattle.std.proofs.Common.{◌≡◌, ◌≢◌, ◌∙◌, ℕ, ◌+◌, ◌*◌, ◌/◌, ◌<◌, ◌≤◌, List, [], ◌∷◌, ◌++◌, length, Option, Some, None, true, false, refl, sym, ap, subst, arith, nat_eq, cond, eq-eqb}
use mathlib.Core.List.{IsPrefix}
use Rattle.cx_machine.specs.declared.kind.Entry.{Entry}
use Rattle.cx_machine.specs.Acts.{at_entry}
use Rattle.cx_machine.specs.Words.{is_thread, small_of}
use Rattle.cx_machine.specs.Kept.{none_after}
use Rattle.cx_machine.specs.Meaning.{run, names, times}
use Rattle.cx_machine.specs.Callbacks.{members, all, times_members, fresh_all}
use Rattle.cx_machine.specs.Stop.{Stop, step, runs}
use Rattle.cx_turn.specs.declared.view.View.{View}
use Rattle.cx_turn.specs.Positions.{positions}
use Rattle.cx_turn.specs.Views.{Each}
use Rattle.cx_turn.proofs.Histories.{some_is, run-append, positions-append}
use Rattle.cx_stop.specs.Acts.{Found, IsRequester, IsRunning}
use Rattle.cx_stop.specs.Stops.{FreshFrom}
use Rattle.cx_stop.proofs.Members.{brought, fresh_is, absent_step, grows, runs_step, requester_step, sources_step}

-- what each of these changes keeps, all keep
pub keeps : (P : Stop → Type 0) (Q : Entry → Type 0) → ((s t : Stop) (e : Entry) → Q e → P s → at_entry step s e ≡ Some t → P t) → (es : List Entry) (m m' : Stop) → Each Q es → P m → run (at_entry step) (Some m) es ≡ Some m' → P m'
keeps P Q one [] m m' all_ p e = subst P (some_is m m' e) p
keeps P Q one (x ∷ xs) m m' all_ p e = further (at_entry step m x) refl e (λ t q f. keeps P Q one xs t m' all_.1 q f)
  where
    further : (o : Option Stop) → at_entry step m x ≡ o → run (at_entry step) o xs ≡ Some m' → ((t : Stop) → P t → run (at_entry step) (Some t) xs ≡ Some m' → P m') → P m'
    further None was f more = absurd (none_after (at_entry step) xs m' f)
    further (Some t) was f more = more t (one m t x all_.0 p was) f

abbrev pub AreOthers : ℕ → List Entry → Type 0
AreOthers n es = Each (λ e. e.by.0 ≢ n) es

pub none_others : (n k : ℕ) (es : List Entry) → positions n k es ≡ [] → AreOthers n es
none_others n k [] e = tt
none_others n k (x ∷ xs) e = (λ same. absurd (let z : k ∷ positions n (k + 1) xs ≡ [] = subst (λ b. cond b (k ∷ positions n (k + 1) xs) (positions n (k + 1) xs) ≡ []) (eq-eqb x.by.0 n same) e in cc), none_others n (k + 1) xs (rest e))
  where
    rest : positions n k (x ∷ xs) ≡ [] → positions n (k + 1) xs ≡ []
    rest = elim (nat_eq x.by.0 n) as (λ b. cond b (k ∷ positions n (k + 1) xs) (positions n (k + 1) xs) ≡ [] → positions n (k + 1) xs ≡ []) [ true ↦ λ z. absurd (let y : k ∷ positions n (k + 1) xs ≡ [] = z in cc) | false ↦ λ z. z ]

pub nothing_more : {A : Type 0} (xs ys : List A) → xs ++ ys ≡ xs → ys ≡ []
nothing_more [] ys e = e
nothing_more {A} (x ∷ xs) ys e = let t : xs ++ ys ≡ xs = cc in nothing_more xs ys t

-- what others keep is so at the state that a pass finds
pub found_keeps : (P : Stop → Type 0) (v : View Stop) (f : List Entry) (m now : Stop) → ((s t : Stop) (e : Entry) → e.by.0 ≢ v.number → P s → at_entry step s e ≡ Some t → P t) → positions v.number 0 v.front ≡ v.mine → Found v f now → run (at_entry step) (Some v.start) v.front ≡ Some m → P m → P now
found_keeps P v f m now one own found legal p =
    let later = found.later in
    let longer : positions v.number 0 f ≡ positions v.number 0 v.front ++ positions v.number (0 + length v.front) later.0 = ap (positions v.number 0) (sym later.1) ∙ positions-append v.number 0 v.front later.0 in
    let none = nothing_more (positions v.number 0 v.front) (positions v.number (0 + length v.front) later.0) (sym longer ∙ (found.own ∙ sym own)) in
    let on : run (at_entry step) (Some m) later.0 ≡ Some now = ap (λ o. run (at_entry step) o later.0) (sym legal) ∙ (sym (run-append (at_entry step) (Some v.start) v.front later.0) ∙ (ap (run (at_entry step) (Some v.start)) later.1 ∙ found.leads)) in
    keeps P (λ e. e.by.0 ≢ v.number) one later.0 m now (none_others v.number (0 + length v.front) later.0 none) p on

-- whatever each of the changes since keeps
pub later_keeps : (P : Stop → Type 0) (Q : Entry → Type 0) → ((s t : Stop) (e : Entry) → Q e → P s → at_entry step s e ≡ Some t → P t) → (v w : View Stop) (p : IsPrefix v.front w.front) → w.start ≡ v.start → (m m' : Stop) → run (at_entry step) (Some v.start) v.front ≡ Some m → run (at_entry step) (Some w.start) w.front ≡ Some m' → Each Q p.0 → P m → P m'
later_keeps P Q one v w p start m m' at_v at_w all_ is =
    let on : run (at_entry step) (Some m) p.0 ≡ Some m' = ap (λ o. run (at_entry step) o p.0) (sym at_v) ∙ (sym (run-append (at_entry step) (Some v.start) v.front p.0) ∙ (ap (run (at_entry step) (Some v.start)) p.1 ∙ (ap (λ s. run (at_entry step) (Some s) w.front) (sym start) ∙ at_w))) in
    keeps P Q one p.0 m m' all_ is on

-- of each change nothing is asked
pub each_of : {A : Type 0} (xs : List A) → Each (λ x. Unit {0}) xs
each_of [] = tt
each_of (x ∷ xs) = (tt, each_of xs)

-- the changes since are of others
pub rest_others : (v : View Stop) (f : List Entry) (p : IsPrefix v.front f) → positions v.number 0 v.front ≡ v.mine → positions v.number 0 f ≡ v.mine → AreOthers v.number p.0
rest_others v f p own there =
    let longer : positions v.number 0 f ≡ positions v.number 0 v.front ++ positions v.number (0 + length v.front) p.0 = ap (positions v.number 0) (sym p.1) ∙ positions-append v.number 0 v.front p.0 in
    none_others v.number (0 + length v.front) p.0 (nothing_more (positions v.number 0 v.front) (positions v.number (0 + length v.front) p.0) (sym longer ∙ (there ∙ sym own)))

-- ---- fresh IDs

tagged : (by tag : ℕ) → tag < 4096 → (by * 4096 + tag) / 4096 ≡ by
tagged by tag low = omega (arith, low)

-- others register nothing of this thread's
pub fresh_others : (n next : ℕ) (s t : Stop) (e : Entry) → e.by.0 ≢ n → FreshFrom n next s → at_entry step s e ≡ Some t → FreshFrom n next t
fresh_others n next s t e ne fresh is tag le low =
    let id = n * 4096 + tag in
    let own = tagged n tag low in
    fresh_is t n id own (absent_step s t e.by.0 n e.op (small_of e.a) e.b e.reply id ne own (fresh_all s n id (fresh tag le low)) is)

-- a change of its own brings in at most one ID
pub fresh_own : (n next next' : ℕ) (s t : Stop) (e : Entry) → next ≤ next' → ((tag : ℕ) → next' ≤ tag → tag < 4096 → names (brought e.op (small_of e.a)) (n * 4096 + tag) ≡ 0) → FreshFrom n next s → at_entry step s e ≡ Some t → FreshFrom n next' t
fresh_own n next next' s t e more gives fresh is tag le low =
    let id = n * 4096 + tag in
    let g = grows s t e.by.0 e.op (small_of e.a) e.b e.reply id is in
    let z = fresh_all s n id (fresh tag (omega (arith, le, more)) low) in
    let no = gives tag le low in
    fresh_is t n id (tagged n tag low) (omega (arith, g, z, no))

-- a state without callbacks
pub fresh_bare : (n : ℕ) (m : Stop) → members m ≡ [] → FreshFrom n 0 m
fresh_bare n m bare tag le low =
    let a = times_members (n * 4096 + tag) m in
    let z : all (n * 4096 + tag) m ≡ 0 = sym a ∙ ap (λ (ms : List ℕ). times (n * 4096 + tag) ms) bare in
    fresh_is m n (n * 4096 + tag) (tagged n tag low) z

-- a thread that has made no change, in a history that begins without callbacks
pub fresh_new : (n : ℕ) (start m : Stop) (es : List Entry) → members start ≡ [] → positions n 0 es ≡ [] → run (at_entry step) (Some start) es ≡ Some m → FreshFrom n 0 m
fresh_new n start m es bare none leads = keeps (FreshFrom n 0) (λ e. e.by.0 ≢ n) (λ s t e ne f st. fresh_others n 0 s t e ne f st) es start m (none_others n 0 es none) (fresh_bare n start bare) leads

-- ---- at the state that is found

pub fresh_found : (v : View Stop) (next : ℕ) (f : List Entry) (m now : Stop) → positions v.number 0 v.front ≡ v.mine → run (at_entry step) (Some v.start) v.front ≡ Some m → FreshFrom v.number next m → Found v f now → FreshFrom v.number next now
fresh_found v next f m now own legal fresh found = found_keeps (FreshFrom v.number next) v f m now (fresh_others v.number next) own found legal fresh

pub running_found : (v : View Stop) (id : ℕ) (f : List Entry) (m now : Stop) → positions v.number 0 v.front ≡ v.mine → run (at_entry step) (Some v.start) v.front ≡ Some m → IsRunning id v → Found v f now → runs now.running v.number id ≡ true
running_found v id f m now own legal is found = found_keeps (λ x. runs x.running v.number id ≡ true) v f m now (λ s t e ne h st. runs_step s t e.by.0 v.number e.op (small_of e.a) e.b e.reply id (λ _. ne) h st) own found legal (is m legal)

pub requester_found : (v : View Stop) (f : List Entry) (m now : Stop) → positions v.number 0 v.front ≡ v.mine → run (at_entry step) (Some v.start) v.front ≡ Some m → IsRequester v → Found v f now → is_thread now.requester v.number ≡ true
requester_found v f m now own legal is found = found_keeps (λ x. is_thread x.requester v.number ≡ true) v f m now (λ s t e ne h st. requester_step s t e.by.0 v.number e.op (small_of e.a) e.b e.reply h st) own found legal (is m legal)

-- there are no more sources than at the opening and changes since
pub sources_run : (es : List Entry) (m m' : Stop) → run (at_entry step) (Some m) es ≡ Some m' → m'.sources ≤ m.sources + length es
sources_run [] m m' e = let same = ap (λ (s : Stop). s.sources) (some_is m m' e) in omega (arith, same)
sources_run (x ∷ xs) m m' e = further (at_entry step m x) refl e (λ t f. sources_run xs t m' f)
  where
    further : (o : Option Stop) → at_entry step m x ≡ o → run (at_entry step) o xs ≡ Some m' → ((t : Stop) → run (at_entry step) (Some t) xs ≡ Some m' → m'.sources ≤ t.sources + length xs) → m'.sources ≤ m.sources + length (x ∷ xs)
    further None was f more = absurd (none_after (at_entry step) xs m' f)
    further (Some t) was f more = let a = more t f in let b = sources_step m t x.by.0 x.op (small_of x.a) x.b x.reply was in omega (arith, a, b)
