-- From what was done under the turn to what a clause says.
use Rattle.std.proofs.Common.{◌≡◌, ◌∙◌, ℕ, ◌+◌, ◌-◌, ◌<◌, ◌≤◌, ◌^◌, ◌&&◌, pos, Bool, true, false, List, [], ◌∷◌, ◌++◌, length, Option, Some, None, refl, sym, ap, subst, arith, nat_eq, cond, eq-eqb, ne_eqb, append-nil, append_assoc, length-append, ◌⊎◌, inl, inr}
use Rattle.std.proofs.lemmas.Bool.{eqb-true, and_parts}
use mathlib.Core.List.{IsPrefix}
use Rattle.cx_names.specs.declared.Reply.TheVariants as replies
use Rattle.cx_machine.specs.declared.kind.Op.{Op}
use Rattle.cx_machine.specs.declared.kind.Op.TheVariants as ops
use Rattle.cx_machine.specs.declared.kind.Entry.{Entry}
use Rattle.cx_machine.specs.declared.kind.Look.{Look}
use Rattle.cx_machine.specs.Acts.{at_entry}
use Rattle.cx_machine.specs.Words.{is_thread, has, small_of}
use Rattle.cx_machine.specs.Kept.{made}
use Rattle.cx_machine.specs.Meaning.{run}
use Rattle.cx_machine.specs.Callbacks.{given, taken_back}
use Rattle.cx_machine.specs.Stop.{Stop, step, runs, requested, began, finished}
use Rattle.cx_turn.specs.declared.view.View.{View}
use Rattle.cx_turn.specs.Positions.{positions}
use Rattle.cx_turn.specs.Views.{Each, with_change, less, more}
use Rattle.cx_turn.proofs.Histories.{some_is, leads_on, prefix_more, prefix_trans, prefix_length, prefix_refl}
use Rattle.cx_stop.specs.Kinds.{stopping}
use Rattle.cx_stop.specs.Acts.{act, Changed, Looked, Passed, IsRequester, IsRunning}
use Rattle.cx_stop.specs.Went.{Went, Did, on_to}
use Rattle.cx_turn.specs.Acts.{seen, Makes, Looks, Sees}
use Rattle.cx_turn.proofs.Moves.{found_own}
use Rattle.cx_stop.specs.Runs.{Tells, Lent, Begins, Finishes, RunsOn, AreRuns, OnlyDeregisters, run_pairs, is_run, id_in, number_or_none}
use Rattle.cx_machine.specs.Callbacks.{debt}
use Rattle.cx_turn.specs.Views.{cost_of}
use Rattle.cx_stop.proofs.Members.{runs_step, requester_step, runs_last, began_moves, finished_moves, cost_paid, cost_one}
use Rattle.cx_stop.proofs.Others.{AreOthers, rest_others, later_keeps, each_of}
use Rattle.cx_stop.proofs.Open.{small_is}

-- a change that gives and takes no ID, and leaves the sources
pub record IsPlainChange (e : Entry) (now after : Stop) : Type 0 where
  pub gives : given e.op (small_of e.a) ≡ None
  pub takes : taken_back e.op (small_of e.a) ≡ None
  pub sources : after.sources ≡ now.sources

module _ (v w : View Stop) (e : Entry) (n : ℕ) (ch : Changed v w e n) where
  front_is : w.front ≡ ch.found ++ e ∷ []
  front_is = ap (λ (x : View Stop). x.front) ch.view

  -- the state after it
  pub state_is : (m : Stop) → run (at_entry step) (Some w.start) w.front ≡ Some m → m ≡ ch.after
  state_is m leads =
      let start : w.start ≡ v.start = ap (λ (x : View Stop). x.start) ch.view in
      let on : run (at_entry step) (Some v.start) (ch.found ++ e ∷ []) ≡ Some ch.after = leads_on (at_entry step) v.start ch.found e ch.now ch.after ch.at_.leads ch.enabled in
      some_is m ch.after (sym leads ∙ ((λ i. run (at_entry step) (Some (start i)) (front_is i)) ∙ on))

-- ---- as callers see it

pub makes_of : (v w : View Stop) (e : Entry) (n : ℕ) → Changed v w e n → Makes stopping v w e n
makes_of v w e n ch = record { found = ch.found; now = ch.now; after = ch.after; later = ch.at_.later; position = ch.position; leads = ch.at_.leads; enabled = ch.enabled; picked = tt; view = ch.view }

pub looks_of : (v w : View Stop) (l : Look) → Looked v w l → Looks stopping v w l
looks_of v w l lk = record { now = lk.now; later = lk.at_.later; stamp = lk.stamp; leads = lk.at_.leads; shown = lk.shown; view = lk.view }

pub sees_of : (v w : View Stop) → Passed v w → Sees v w
sees_of v w p = record { later = p.at_.later; same = p.view }

pub did_plain : (v w : View Stop) (e : Entry) (n : ℕ) (m : Makes stopping v w e n) → positions v.number 0 m.found ≡ v.mine → IsPlainChange e m.now m.after → Did v w e n
did_plain v w e n m own p =
    let s = p.sources in
    let share : (v.share + m.after.sources) - m.now.sources ≡ v.share = omega (arith, s) in
    let holds : more (less v.holds (taken_back e.op (small_of e.a))) (given e.op (small_of e.a)) ≡ v.holds = (λ i. more (less v.holds (p.takes i)) (p.gives i)) in
    let front : w.front ≡ m.found ++ e ∷ [] = ap (λ (x : View Stop). x.front) m.view in record {
      went = record {
        later = subst (λ g. IsPrefix v.front g) (sym front) (prefix_more v.front m.found (e ∷ []) m.later);
        mine = ap (λ (x : View Stop). x.mine) m.view ∙ ap (λ (k : ℕ). v.mine ++ k ∷ []) (sym m.position);
        looks = ap (λ (x : View Stop). x.looks) m.view ∙ sym (append-nil v.looks);
        same = m.view ∙ ((λ i. record (with_change stopping (seen v m.found) e m.now m.after) { share = share i; holds = holds i }) ∙ sym (ap (λ (x : View Stop). on_to v x) m.view));
      };
      found = m.found;
      from = m.later;
      others = own;
      ends = front;
      position = m.position;
    }

-- ---- what goes on

pub requester_later : (v w : View Stop) → IsPrefix v.front w.front → w.start ≡ v.start → w.number ≡ v.number → (m : Stop) → run (at_entry step) (Some v.start) v.front ≡ Some m → IsRequester v → IsRequester w
requester_later v w p start number m at_v is m' at_w = ap (λ (n : ℕ). is_thread m'.requester n) number ∙ later_keeps (λ x. is_thread x.requester v.number ≡ true) (λ e. Unit {0}) (λ s t e q h st. requester_step s t e.by.0 v.number e.op (small_of e.a) e.b e.reply h st) v w p start m m' at_v at_w (each_of p.0) (is m at_v)

no_finish : (o : Op) → o ≡ ops.Finish → o ≡ ops.Deregister → ⊥
no_finish o e f = let g : ops.Finish ≡ ops.Deregister = sym e ∙ f in cc

pub running_later : (v w : View Stop) (id : ℕ) (p : IsPrefix v.front w.front) → w.start ≡ v.start → w.number ≡ v.number → Each (OnlyDeregisters v.number) p.0 → (m : Stop) → run (at_entry step) (Some v.start) v.front ≡ Some m → IsRunning id v → IsRunning id w
running_later v w id p start number only m at_v is m' at_w = ap (λ (n : ℕ). runs m'.running n id) number ∙ later_keeps (λ x. runs x.running v.number id ≡ true) (OnlyDeregisters v.number) (λ s t e q h st. runs_step s t e.by.0 v.number e.op (small_of e.a) e.b e.reply id (λ f same. no_finish e.op f (q same)) h st) v w p start m m' at_v at_w only (is m at_v)

-- who begins a callback runs it
pub begun_runs : (v w : View Stop) (id n : ℕ) → id < 2 ^ 32 → Changed v w (act v.number ops.Begin id replies.Ok) n → IsRunning id w
begun_runs v w id n low ch m leads =
    let e : step ch.now v.number ops.Begin (Some id) (pos 0) replies.Ok ≡ Some ch.after = ap (λ (x : Option ℕ). step ch.now v.number ops.Begin x (pos 0) replies.Ok) (sym (small_is id low)) ∙ ch.enabled in
    let at_after : runs ch.after.running v.number id ≡ true = made (λ x. runs x.running v.number id ≡ true) (is_thread ch.now.requester v.number && has ch.now.registered id) (began ch.now v.number id) ch.after (λ c. runs_last ch.now.running v.number id) e in
    let number : w.number ≡ v.number = ap (λ (x : View Stop). x.number) ch.view in
    (λ i. runs (state_is v w (act v.number ops.Begin id replies.Ok) n ch m leads i).running (number i) id) ∙ at_after

-- who requests is the requester
pub request_is : (v w : View Stop) (n : ℕ) → Changed v w (act v.number ops.Request 0 replies.Ok) n → IsRequester w
request_is v w n ch m leads =
    let at_after : is_thread ch.after.requester v.number ≡ true = made (λ x. is_thread x.requester v.number ≡ true) _ (requested ch.now v.number) ch.after (λ c. eq-eqb v.number v.number refl) ch.enabled in
    let number : w.number ≡ v.number = ap (λ (x : View Stop). x.number) ch.view in
    (λ i. is_thread (state_is v w (act v.number ops.Request 0 replies.Ok) n ch m leads i).requester (number i)) ∙ at_after

-- ---- plain changes

pub begin_plain : (n id : ℕ) (now after : Stop) → id < 2 ^ 32 → at_entry step now (act n ops.Begin id replies.Ok) ≡ Some after → IsPlainChange (act n ops.Begin id replies.Ok) now after
begin_plain n id now after low en = record {
  gives = refl;
  takes = refl;
  sources = made (λ x. x.sources ≡ now.sources) (is_thread now.requester n && has now.registered id) (began now n id) after (λ c. refl) (ap (λ (x : Option ℕ). step now n ops.Begin x (pos 0) replies.Ok) (sym (small_is id low)) ∙ en);
}

pub finish_plain : (n id : ℕ) (now after : Stop) → id < 2 ^ 32 → at_entry step now (act n ops.Finish id replies.Ok) ≡ Some after → IsPlainChange (act n ops.Finish id replies.Ok) now after
finish_plain n id now after low en = record {
  gives = refl;
  takes = refl;
  sources = made (λ x. x.sources ≡ now.sources) (runs now.running n id) _ after (λ c. refl) (ap (λ (x : Option ℕ). step now n ops.Finish x (pos 0) replies.Ok) (sym (small_is id low)) ∙ en);
}

pub now_plain : (n id : ℕ) (now after : Stop) → id < 2 ^ 32 → at_entry step now (act n ops.RegisterNow id replies.Ok) ≡ Some after → IsPlainChange (act n ops.RegisterNow id replies.Ok) now after
now_plain n id now after low en = record {
  gives = refl;
  takes = refl;
  sources = made (λ x. x.sources ≡ now.sources) _ (began now n id) after (λ c. refl) (ap (λ (x : Option ℕ). step now n ops.RegisterNow x (pos 0) replies.Ok) (sym (small_is id low)) ∙ en);
}

pub request_plain : (n : ℕ) (now after : Stop) → at_entry step now (act n ops.Request 0 replies.Ok) ≡ Some after → IsPlainChange (act n ops.Request 0 replies.Ok) now after
request_plain n now after en = record { gives = refl; takes = refl; sources = made (λ x. x.sources ≡ now.sources) _ (requested now n) after (λ c. refl) en }

-- ---- one after the other

pub went_on : (u v w : View Stop) (a c : List ℕ) (b d : List Look) → Went u v a b → Went v w c d → Went u w (a ++ c) (b ++ d)
went_on u v w a c b d x y = record {
  later = prefix_trans u.front v.front w.front x.later y.later;
  mine = y.mine ∙ (ap (λ (l : List ℕ). l ++ c) x.mine ∙ append_assoc u.mine a c);
  looks = y.looks ∙ (ap (λ (l : List Look). l ++ d) x.looks ∙ append_assoc u.looks b d);
  same = y.same ∙ ap (λ (z : View Stop). on_to z w) x.same;
}

pub tells_on : (a b c : Option (List (ℕ × ℕ))) (x y : List (ℕ × ℕ)) → Tells a x b → Tells b y c → Tells a (x ++ y) c
tells_on a b None x y f g = tt
tells_on a b (Some new) x y f g = at b f g
  where
    at : (b' : Option (List (ℕ × ℕ))) → Tells a x b' → Tells b' y (Some new) → Tells a (x ++ y) (Some new)
    at None f' g' = let none : ◌≡◌ {A = Option (List (ℕ × ℕ))} None (Some g'.0) = g'.1 in cc
    at (Some mid) f' g' = let same : mid ≡ g'.0 = some_is mid g'.0 g'.1 in (f'.0, f'.1, g'.2 ∙ (ap (λ (l : List (ℕ × ℕ)). l ++ y) (sym same ∙ f'.2) ∙ append_assoc f'.0 x y))

pub runs_append : (a b : List (ℕ × ℕ)) → AreRuns a → AreRuns b → AreRuns (a ++ b)
runs_append [] b x y = y
runs_append (p ∷ []) b x y = absurd x
runs_append (p ∷ (q ∷ ps)) b x y = (x.0, x.1, runs_append ps b x.2 y)

-- ---- pairs of starts and ends

pairs_append : (by k : ℕ) (xs ys : List Entry) → run_pairs by k (xs ++ ys) ≡ run_pairs by k xs ++ run_pairs by (k + length xs) ys
pairs_append by k [] ys = let e : k ≡ k + 0 = omega arith in ap (λ n. run_pairs by n ys) e
pairs_append by k (x ∷ xs) ys =
    let n : (k + 1) + length xs ≡ k + length (x ∷ xs) = omega arith in
    let r : run_pairs by (k + 1) (xs ++ ys) ≡ run_pairs by (k + 1) xs ++ run_pairs by (k + length (x ∷ xs)) ys = pairs_append by (k + 1) xs ys ∙ ap (λ m. run_pairs by (k + 1) xs ++ run_pairs by m ys) n in
    elim (nat_eq x.by.0 by && is_run x.op) as (λ b. cond b ((id_in x, k) ∷ run_pairs by (k + 1) (xs ++ ys)) (run_pairs by (k + 1) (xs ++ ys)) ≡ cond b ((id_in x, k) ∷ run_pairs by (k + 1) xs) (run_pairs by (k + 1) xs) ++ run_pairs by (k + length (x ∷ xs)) ys)
    [ true ↦ ap (λ l. (id_in x, k) ∷ l) r | false ↦ r ]

pairs_others : (by k : ℕ) (es : List Entry) → AreOthers by es → run_pairs by k es ≡ []
pairs_others by k [] h = refl
pairs_others by k (x ∷ xs) h = ap (λ b. cond (b && is_run x.op) ((id_in x, k) ∷ run_pairs by (k + 1) xs) (run_pairs by (k + 1) xs)) (ne_eqb x.by.0 by h.0) ∙ pairs_others by (k + 1) xs h.1

no_run : (o : Op) → o ≡ ops.Deregister → is_run o ≡ false
no_run o e = ap is_run e

pairs_lent : (by k : ℕ) (es : List Entry) → Each (OnlyDeregisters by) es → run_pairs by k es ≡ []
pairs_lent by k [] h = refl
pairs_lent by k (x ∷ xs) h = at (nat_eq x.by.0 by) refl ∙ pairs_lent by (k + 1) xs h.1
  where
    at : (b : Bool) → nat_eq x.by.0 by ≡ b → cond (nat_eq x.by.0 by && is_run x.op) ((id_in x, k) ∷ run_pairs by (k + 1) xs) (run_pairs by (k + 1) xs) ≡ run_pairs by (k + 1) xs
    at true e = let same : x.by.0 ≡ by = eqb-true x.by.0 by e in ap (λ c. cond c ((id_in x, k) ∷ run_pairs by (k + 1) xs) (run_pairs by (k + 1) xs)) ((λ i. e i && no_run x.op (h.0 same) i))
    at false e = ap (λ c. cond (c && is_run x.op) ((id_in x, k) ∷ run_pairs by (k + 1) xs) (run_pairs by (k + 1) xs)) e

pub pairs_did : (v w : View Stop) (op : Op) (id n : ℕ) → id < 2 ^ 32 → is_run op ≡ true → positions v.number 0 v.front ≡ v.mine → Did v w (act v.number op id replies.Ok) n → run_pairs v.number 0 w.front ≡ run_pairs v.number 0 v.front ++ (id, n) ∷ []
pairs_did v w op id n low runs_ own d =
    let e = act v.number op id replies.Ok in
    let before : run_pairs v.number 0 d.found ≡ run_pairs v.number 0 v.front = ap (run_pairs v.number 0) (sym d.from.1) ∙ (pairs_append v.number 0 v.front d.from.0 ∙ (ap (λ l. run_pairs v.number 0 v.front ++ l) (pairs_others v.number (0 + length v.front) d.from.0 (rest_others v d.found d.from own d.others)) ∙ append-nil (run_pairs v.number 0 v.front))) in
    let one : run_pairs v.number (0 + length d.found) (e ∷ []) ≡ (id, n) ∷ [] = (λ i. cond (eq-eqb v.number v.number refl i && runs_ i) ((id_in e, 0 + length d.found) ∷ []) []) ∙ (λ i. (id_of i, place i) ∷ []) in
    ap (run_pairs v.number 0) d.ends ∙ (pairs_append v.number 0 d.found (e ∷ []) ∙ (λ i. before i ++ one i))
  where
    place : 0 + length d.found ≡ n
    place = let a = d.position in omega (arith, a)

    id_of : id_in (act v.number op id replies.Ok) ≡ id
    id_of = ap number_or_none (small_is id low)

pub pairs_kept : (v w : View Stop) (l : Lent v w) → run_pairs v.number 0 w.front ≡ run_pairs v.number 0 v.front
pairs_kept v w l = ap (run_pairs v.number 0) (sym l.went.later.1) ∙ (pairs_append v.number 0 v.front l.went.later.0 ∙ (ap (λ x. run_pairs v.number 0 v.front ++ x) (pairs_lent v.number (0 + length v.front) l.went.later.0 l.only) ∙ append-nil (run_pairs v.number 0 v.front)))

pub runs_compose : (u v w : View Stop) (a b : List (ℕ × ℕ)) → RunsOn u v 0 a → RunsOn v w 0 b → RunsOn u w 0 (a ++ b)
runs_compose u v w a b x y =
    let number : v.number ≡ u.number = ap (λ (z : View Stop). z.number) x.went.same in record {
      own = x.own ++ y.own;
      looks = x.looks ++ y.looks;
      went = went_on u v w x.own y.own x.looks y.looks x.went y.went;
      left = (let l = x.left in let r = y.left in omega (arith, l, r));
      pairs = (λ i. run_pairs (sym number i) 0 w.front) ∙ (y.pairs ∙ (ap (λ l. l ++ b) ((λ i. run_pairs (number i) 0 v.front) ∙ x.pairs) ∙ append_assoc (run_pairs u.number 0 u.front) a b));
      runs = runs_append a b x.runs y.runs;
    }

pub runs_none : (u : View Stop) → RunsOn u u 0 []
runs_none u = record {
  own = [];
  looks = [];
  went = record { later = prefix_refl u.front; mine = sym (append-nil u.mine); looks = sym (append-nil u.looks); same = refl };
  left = omega arith;
  pairs = sym (append-nil (run_pairs u.number 0 u.front));
  runs = tt;
}

-- ---- one callback

free_change : (v w : View Stop) (e : Entry) (n : ℕ) (ch : Changed v w e n) → cost_of (debt ch.now) (debt ch.after) ≡ 0 → w.left ≡ v.left
free_change v w e n ch z = ap (λ (x : View Stop). x.left) ch.view ∙ (omega (arith, z))

pub begin_free : (v w : View Stop) (id n : ℕ) → id < 2 ^ 32 → Changed v w (act v.number ops.Begin id replies.Ok) n → w.left ≡ v.left
begin_free v w id n low ch =
    let en : step ch.now v.number ops.Begin (Some id) (pos 0) replies.Ok ≡ Some ch.after = ap (λ (x : Option ℕ). step ch.now v.number ops.Begin x (pos 0) replies.Ok) (sym (small_is id low)) ∙ ch.enabled in
    let cost : cost_of (debt ch.now) (debt ch.after) ≡ 0 = made (λ t. cost_of (debt ch.now) (debt t) ≡ 0) (is_thread ch.now.requester v.number && has ch.now.registered id) (began ch.now v.number id) ch.after
    (λ c. cost_paid (debt ch.now) (debt (began ch.now v.number id)) (began_moves ch.now v.number id ch.at_.once (and_parts (is_thread ch.now.requester v.number) (has ch.now.registered id) c).1).1) en in
    free_change v w (act v.number ops.Begin id replies.Ok) n ch cost

pub finish_free : (v w : View Stop) (id n : ℕ) → id < 2 ^ 32 → Changed v w (act v.number ops.Finish id replies.Ok) n → w.left ≡ v.left
finish_free v w id n low ch =
    let en : step ch.now v.number ops.Finish (Some id) (pos 0) replies.Ok ≡ Some ch.after = ap (λ (x : Option ℕ). step ch.now v.number ops.Finish x (pos 0) replies.Ok) (sym (small_is id low)) ∙ ch.enabled in
    let cost : cost_of (debt ch.now) (debt ch.after) ≡ 0 = made (λ t. cost_of (debt ch.now) (debt t) ≡ 0) (runs ch.now.running v.number id) (finished ch.now v.number id) ch.after
    (λ c. cost_paid (debt ch.now) (debt (finished ch.now v.number id)) (finished_moves ch.now v.number id ch.at_.once c).1) en in
    free_change v w (act v.number ops.Finish id replies.Ok) n ch cost

pub finishes_of : (v w : View Stop) (id n : ℕ) → id < 2 ^ 32 → Changed v w (act v.number ops.Finish id replies.Ok) n → Finishes v w id n
finishes_of v w id n low ch = record { made = makes_of v w (act v.number ops.Finish id replies.Ok) n ch; left = finish_free v w id n low ch }

pub begins_number : (u v : View Stop) (id n : ℕ) → Begins u v id n → v.number ≡ u.number
begins_number u v id n b = at b.made
  where
    at : Makes stopping u v (act u.number ops.Begin id replies.Ok) n ⊎ Makes stopping u v (act u.number ops.RegisterNow id replies.Ok) n → v.number ≡ u.number
    at (inl m) = ap (λ (z : View Stop). z.number) m.view
    at (inr m) = ap (λ (z : View Stop). z.number) m.view

-- whichever change started the callback
begun_did : (u v : View Stop) (id n : ℕ) → id < 2 ^ 32 → positions v.number 0 v.front ≡ v.mine → Begins u v id n → (op : Op) × (is_run op ≡ true) × Did u v (act u.number op id replies.Ok) n
begun_did u v id n low own b = at b.made
  where
    at : Makes stopping u v (act u.number ops.Begin id replies.Ok) n ⊎ Makes stopping u v (act u.number ops.RegisterNow id replies.Ok) n → (op : Op) × (is_run op ≡ true) × Did u v (act u.number op id replies.Ok) n
    at (inl m) = let e = act u.number ops.Begin id replies.Ok in (ops.Begin, refl, did_plain u v e n m (found_own stopping u v e n m refl own) (begin_plain u.number id m.now m.after low m.enabled))
    at (inr m) = let e = act u.number ops.RegisterNow id replies.Ok in (ops.RegisterNow, refl, did_plain u v e n m (found_own stopping u v e n m refl own) (now_plain u.number id m.now m.after low m.enabled))

pub one_runs : (u v x w : View Stop) (id n k paid : ℕ) → id < 2 ^ 32 → positions v.number 0 v.front ≡ v.mine → positions x.number 0 x.front ≡ x.mine → positions w.number 0 w.front ≡ w.mine → v.left + paid ≡ u.left → Begins u v id n → Lent v x → Finishes x w id k
    → RunsOn u w paid ((id, n) ∷ ((id, k) ∷ []))
one_runs u v x w id n k paid low own_v own_x own_w spent b l f =
    let d = begun_did u v id n low own_v b in
    let e = act x.number ops.Finish id replies.Ok in
    let ended : Did x w e k = did_plain x w e k f.made (found_own stopping x w e k f.made refl own_w) (finish_plain x.number id f.made.now f.made.after low f.made.enabled) in
    let vu : v.number ≡ u.number = ap (λ (z : View Stop). z.number) d.2.went.same in
    let xv : x.number ≡ v.number = ap (λ (z : View Stop). z.number) l.went.same in
    let xu : x.number ≡ u.number = xv ∙ vu in
    let one = pairs_did u v d.0 id n low d.1 b.own d.2 in
    let two : run_pairs u.number 0 x.front ≡ run_pairs u.number 0 v.front = (λ i. run_pairs (sym vu i) 0 x.front) ∙ (pairs_kept v x l ∙ (λ i. run_pairs (vu i) 0 v.front)) in
    let three : run_pairs u.number 0 w.front ≡ run_pairs u.number 0 x.front ++ (id, k) ∷ [] = (λ i. run_pairs (sym xu i) 0 w.front) ∙ (pairs_did x w ops.Finish id k low refl own_x ended ∙ (λ i. run_pairs (xu i) 0 x.front ++ (id, k) ∷ [])) in record {
      own = (n ∷ []) ++ (l.own ++ k ∷ []);
      looks = [] ++ (l.looks ++ []);
      went = went_on u v w (n ∷ []) (l.own ++ k ∷ []) [] (l.looks ++ []) d.2.went (went_on v x w l.own (k ∷ []) l.looks [] l.went ended.went);
      left = (let a = f.left in let c = l.left in omega (arith, a, c, spent));
      pairs = three ∙ (ap (λ z. z ++ (id, k) ∷ []) (two ∙ one) ∙ append_assoc (run_pairs u.number 0 u.front) ((id, n) ∷ []) ((id, k) ∷ []));
      runs = (refl, above d.0 d.2, tt);
    }
  where
    above : (op : Op) → Did u v (act u.number op id replies.Ok) n → n < k
    above op d =
        let a = d.position in
        let e = f.made.position in
        let c : length v.front ≡ length d.found + 1 = ap (λ (g : List Entry). length g) d.ends ∙ length-append d.found (act u.number op id replies.Ok ∷ []) in
        let h = prefix_length v.front x.front l.went.later in
        let j = prefix_length x.front f.made.found f.made.later in
        omega (arith, a, e, c, h, j)

pub tells_none : (a : Option (List (ℕ × ℕ))) → Tells a [] a
tells_none None = tt
tells_none (Some xs) = (xs, refl, sym (append-nil xs))

pub went_none : (v : View Stop) → Went v v [] []
went_none v = record { later = prefix_refl v.front; mine = sym (append-nil v.mine); looks = sym (append-nil v.looks); same = refl }

-- a request uses one change
pub request_left : (v w : View Stop) (n : ℕ) → 1 ≤ v.left → Changed v w (act v.number ops.Request 0 replies.Ok) n → w.left + 1 ≡ v.left
request_left v w n may ch =
    let d : debt ch.after ≡ debt ch.now = made (λ t. debt t ≡ debt ch.now) _ (requested ch.now v.number) ch.after (λ c. refl) ch.enabled in
    let c = cost_one (debt ch.now) (debt ch.after) (omega (arith, d)) (λ x. omega (arith, x, d)) in
    let l = ap (λ (x : View Stop). x.left) ch.view in
    omega (arith, c, l, may)
