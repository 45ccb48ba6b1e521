-- An access that acts, among those of its thread.
use Rattle.std.proofs.Common.{◌≡◌, ℕ, ◌<◌, ◌≤◌, Bool, false, List, length, get_or, slice_get, slice_set, Option, Some, None, MatchOption, IsSome, refl, sym, ap, ◌∙◌, subst, arith}
use Rattle.std.specs.Global.{Vec}
use Rattle.std.specs.Prelude.{vec_len}
use Rattle.cx_names.specs.declared.ObjectNo.{ObjectNo}
use Rattle.cx_machine.specs.declared.kind.Entry.{Entry}
use Rattle.cx_machine.specs.Machine.{State}
use Rattle.cx_turn.specs.declared.view.View.{View}
use Rattle.cx_items.specs.declared.form.Form.{Form}
use Rattle.cx_items.specs.declared.item.Item.{Item}
use Rattle.cx_items.specs.declared.item.Item.TheVariants as items
use Rattle.cx_asks.specs.declared.ask.Ask.{Ask}
use Rattle.cx_asks.specs.Forms.{IsAskOf, IsNoAsk}
use Rattle.cx_asks.proofs.Asking.{one_ask}
use Rattle.cx_kinds.specs.declared.access.Access.{Access}
use Rattle.cx_kinds.specs.Accesses.{object_of, Knows, kept_of, Serves}
use Rattle.cx_kinds.specs.Acts.{StepsIf, IsKeptBy}
use Rattle.cx_kinds.specs.Sights.{IsSeen, Acted, Served, IsCompleting}
use Rattle.cx_work.specs.Accesses.{AreAccesses, objects_of}
use Rattle.cx_work.specs.Acting.{AsksOn, AreServed, IsNoReply, IsLeft}
use Rattle.cx_work.proofs.Giving.{here_access, here_seen}
use Rattle.cx_work.proofs.Going.{remains}
use Rattle.cx_work.proofs.Rows.{at_get, read_at}
use Rattle.cx_work.proofs.Stepping.{is_within, same_some, access_at, set_access}

-- its view is still its thread's
same_thread : (o : ObjectNo) (ask : Ask) (v w : View State) (x : Option Item) → StepsIf o ask v w x → w.number ≡ v.number
same_thread o ask v w None s = ap (λ (u : View State). u.number) s
same_thread o ask v w (Some (items.Change q n e)) s = (remains (items.Change q n e) v w (s.1, s.3)).number
same_thread o ask v w (Some (items.Look q l)) s = (remains (items.Look q l) v w (s.1, s.3)).number
same_thread o ask v w (Some _) s = absurd s

pub acting_seen : (ks : List Access) (i : ℕ) (d : Access) → (t : ℕ) × AreAccesses (objects_of ks) t ks → i < length ks → IsSeen (Knows (get_or ks i d))
acting_seen ks i d are low = here_seen (objects_of ks) are.0 ks i d are.1 low

pub acting_accesses : (ks : List Access) (i : ℕ) (d k : Access) (o : ObjectNo) (ask : Ask) (x : Option Item) → i < length ks → object_of k ≡ object_of (get_or ks i d) → Acted o ask (Knows (get_or ks i d)) (Knows k) x → (t : ℕ) → AreAccesses (objects_of ks) t ks → AreAccesses (objects_of ks) t (slice_set ks i k)
acting_accesses ks i d k o ask x low same did t are =
    let a = here_access (objects_of ks) t ks i d are low in
    let r = did.does a.2.view a.2.seen in
    set_access (objects_of ks) t ks i a.0 k are a.1 (record { object = same ∙ a.2.object; view = r.0; seen = r.1; thread = same_thread o ask a.2.view r.0 x r.2 ∙ a.2.thread })

pub acting_asks : (fs : List Form) (ks : List Access) (d k : Access) (o : ObjectNo) (ask : Ask) (r : Option Item) (x : Item) → IsAskOf fs o ask → o.0 < length ks → object_of k ≡ object_of (get_or ks o.0 d) → Acted o ask (Knows (get_or ks o.0 d)) (Knows k) r → IsKeptBy (kept_of (get_or ks o.0 d)) r (kept_of k) → r ≡ Some x → AsksOn fs ks (slice_set ks o.0 k) x
acting_asks fs ks d k o ask r x asked low same did kept is = record {
  object = o;
  ask = ask;
  asked = asked;
  old = get_or ks o.0 d;
  new = k;
  was = at_get ks o.0 d low;
  is = refl;
  same = same;
  did = subst (λ (i : Option Item). Acted o ask (Knows (get_or ks o.0 d)) (Knows k) i) is did;
  kept = subst (λ (i : Option Item). IsKeptBy (kept_of (get_or ks o.0 d)) i (kept_of k)) is kept;
}

-- ---- an ask that is served

-- it is what these accesses serve
pub is_asked : (fs : List Form) (ks : List Access) (r : Option (ObjectNo × Ask)) → AreServed fs ks → MatchOption r (IsNoAsk fs) (λ t. IsAskOf fs t.0 t.1) → IsSome r
is_asked fs ks (Some t) may asked = refl
is_asked fs ks None may none = absurd (none may.object may.ask may.asked)

pub asked_is : (fs : List Form) (r : Option (ObjectNo × Ask)) (t : ObjectNo × Ask) → r ≡ Some t → MatchOption r (IsNoAsk fs) (λ u. IsAskOf fs u.0 u.1) → IsAskOf fs t.0 t.1
asked_is fs r t is asked = rw is at asked

pub asked_low : (fs : List Form) (ks : List Access) (o : ObjectNo) (ask : Ask) → AreServed fs ks → IsAskOf fs o ask → o.0 < length ks
asked_low fs ks o ask may asked =
    let same = one_ask fs may.object o may.ask ask may.asked asked in
    subst (λ (q : ObjectNo). q.0 < length ks) same.0 (is_within ks may.object.0 may.access may.there)

pub asked_within : (fs : List Form) (ks : Vec Access) (o : ObjectNo) (ask : Ask) → AreServed fs ks.items → IsAskOf fs o ask → o.0 < vec_len ks
asked_within fs ks o ask may asked = let low = asked_low fs ks.items o ask may asked in let long = ks.ok.0 in omega (arith, low, long)

pub asked_done : (fs : List Form) (ks : List Access) (o : ObjectNo) (ask : Ask) (t : ℕ) (d : Access) (x : Option Item) → AreServed fs ks → IsAskOf fs o ask → AreAccesses (objects_of ks) t ks → d ≡ get_or ks o.0 d → Served (Knows d) (λ share. Serves d share ask) x → IsSome x
asked_done fs ks o ask t d x may asked are read served =
    let same = one_ask fs may.object o may.ask ask may.asked asked in
    let there : slice_get ks o.0 ≡ Some may.access = subst (λ (q : ObjectNo). slice_get ks q.0 ≡ Some may.access) same.0 may.there in
    let is : may.access ≡ d = same_some may.access d (slice_get ks o.0) there (read_at ks o.0 d (asked_low fs ks o ask may asked) read) in
    let view = access_at t ks may.object.0 may.access are may.there in
    let can = may.may view.view view.seen in
    served.served view.view (subst (λ (k : Access). Knows k view.view) is view.seen) can.0 (subst (λ (k : Access). Serves k view.view.share ask) is (subst (λ (a : Ask). Serves may.access view.view.share a) same.1 can.1))

-- the forms that are handed on are those that were looked at, which are no reply alone
pub served_as : (fs gs hs : List Form) (ks : List Access) → gs ≡ fs → hs ≡ fs → IsNoReply gs → (IsNoReply fs → AreServed fs ks) → AreServed hs ks
served_as fs gs hs ks a b none serves = subst (λ (is : List Form). AreServed is ks) (sym b) (serves (subst (λ (is : List Form). IsNoReply is) a none))

-- ---- whether a change leaves its barrier completing

pub slice_seen : (ks : List Access) (i : ℕ) (k : Access) → (t : ℕ) × AreAccesses (objects_of ks) t ks → i < length ks → k ≡ get_or ks i k → IsSeen (Knows k)
slice_seen ks i k are low is = subst (λ (j : Access). IsSeen (Knows j)) (sym is) (acting_seen ks i k are low)

pub is_left : (ks : List Access) (x : Item) (o : ObjectNo) (n : ℕ) (e : Entry) (k : Access) (b : Bool) → x ≡ items.Change o n e → o.0 < length ks → k ≡ get_or ks o.0 k → IsCompleting (Knows k) b → IsLeft ks x b
is_left ks x o n e k b is low read told = subst (λ (y : Item). IsLeft ks y b) (sym is) (λ j at_j. subst (λ (z : Access). IsCompleting (Knows z) b) (same_some k j (slice_get ks o.0) (read_at ks o.0 k low read) at_j) told)

pub none_left : (ks : List Access) (x : Item) (o : ObjectNo) (n : ℕ) (e : Entry) → x ≡ items.Change o n e → length ks ≤ o.0 → IsLeft ks x false
none_left ks x o n e is past = subst (λ (y : Item). IsLeft ks y false) (sym is) (λ j at_j. let low = is_within ks o.0 j at_j in absurd (omega (arith, low, past)))

-- ---- by the vector that the access was read from

vec_low : (ks : Vec Access) (n i : ℕ) → n ≡ vec_len ks → i < n → i < length ks.items
vec_low ks n i is low = let long = ks.ok.0 in omega (arith, is, low, long)

pub read_accesses : (ks : Vec Access) (n : ℕ) (d k : Access) (o : ObjectNo) (ask : Ask) (x : Option Item) → n ≡ vec_len ks → o.0 < n → d ≡ get_or ks.items o.0 d → object_of k ≡ object_of d → Acted o ask (Knows d) (Knows k) x → (t : ℕ) → AreAccesses (objects_of ks.items) t ks.items → AreAccesses (objects_of ks.items) t (slice_set ks.items o.0 k)
read_accesses ks n d k o ask x is low read same did = acting_accesses ks.items o.0 d k o ask x (vec_low ks n o.0 is low) (same ∙ ap object_of read) (subst (λ (j : Access). Acted o ask (Knows j) (Knows k) x) read did)

pub read_asks : (fs : List Form) (ks : Vec Access) (n : ℕ) (d k : Access) (o : ObjectNo) (ask : Ask) (r : Option Item) (x : Item) → IsAskOf fs o ask → n ≡ vec_len ks → o.0 < n → d ≡ get_or ks.items o.0 d → object_of k ≡ object_of d → Acted o ask (Knows d) (Knows k) r → IsKeptBy (kept_of d) r (kept_of k) → r ≡ Some x → AsksOn fs ks.items (slice_set ks.items o.0 k) x
read_asks fs ks n d k o ask r x asked is low read same did kept made = acting_asks fs ks.items d k o ask r x asked (vec_low ks n o.0 is low) (same ∙ ap object_of read) (subst (λ (j : Access). Acted o ask (Knows j) (Knows k) r) read did) (subst (λ (j : Access). IsKeptBy (kept_of j) r (kept_of k)) read kept) made
