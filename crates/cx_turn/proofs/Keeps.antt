-- Each step of one seat keeps the rule of the turn.
use Rattle.std.proofs.Common.{◌≡◌, ◌≢◌, ℕ, ◌+◌, ◌*◌, ◌%◌, ◌^◌, ◌<◌, ◌≤◌, List, [], ◌∷◌, ◌++◌, length, get_or, set, Option, Some, None, Bool, true, false, IsTrue, refl, sym, ap, ◌∙◌, subst, arith, length-set, length-append, get_or-set_other, bit_or, bit_and}
use mathlib.Core.Logic.{dite}
use mathlib.Core.Option.{none, some, some-injective, Option as Maybe}
use mathlib.Core.List.{IsPrefix}
use native.Mathlib.Decide.{ℕ_discrete}
use lib.ListN.{get_elem?}
use Rattle.std.proofs.lemmas.Nat.{or_block}
use Rattle.std.specs.Int.Bits.{or_zero_r, and_high}
use Rattle.atomic_table.specs.Table.{State, Me, step, Act, keeps, takes, gives, stepped, carried_after, Valid, Allows, rest}
use Rattle.atomic_table.proofs.Lists.{set_here, set_else, set_again}
use Rattle.cx_machine.specs.declared.kind.Entry.{Entry}
use Rattle.cx_machine.specs.declared.kind.Look.{Look}
use Rattle.cx_machine.specs.declared.machine.Meaning.{Ghosts}
use Rattle.cx_machine.specs.Meaning.{run, bit, names, times}
use Rattle.cx_turn.specs.declared.view.Desk.{Desk}
use Rattle.cx_turn.specs.declared.view.Desk.TheVariants.{Home, Away}
use Rattle.cx_turn.specs.declared.view.View.{View}
use Rattle.cx_turn.specs.declared.view.Gone.{Gone}
use Rattle.cx_turn.specs.Positions.{positions}
use Rattle.cx_turn.specs.Views.{Each, IsShown, IsNow, Has, less, cost_of, entered, outside, with_change, with_look}
use Rattle.cx_turn.specs.Turning.{Knows, Sees, Turns, IsGone, total, took, changed, changed_last, looked, left, signalled, learned}
use Rattle.cx_turn.proofs.Histories.{leads_on, prefix_refl, prefix_more, positions_own, positions_other, each_map, each_append, cost_covers, some_is, looks_on, met_on, shown_now}
use Rattle.cx_turn.proofs.Ids.{times_more, times_less}
use Rattle.cx_turn.proofs.Totals.{total_set, total_at, total_stays}
use Rattle.cx_turn.proofs.Seats.{at_below, seats_stay, word_is, wide_is, wakes_on, wakes_at, now_at, knows}

or_even : (n k : ℕ) → n ≡ 2 * k + 0 → bit_or n 1 ≡ 2 * k + 1
or_even n k e =
    let a : n ≡ k * 2 ^ 1 + 0 = omega arith in
    let b : bit_or k 0 ≡ k = or_zero_r k in
    ap (λ m. bit_or m 1) a ∙ (or_block 1 k 0 0 1 (omega arith) (omega arith) ∙ (ap (λ m. m * 2 ^ 1 + 1) b ∙ omega arith))

or_odd : (n k : ℕ) → n ≡ 2 * k + 1 → bit_or n 1 ≡ n
or_odd n k e =
    let a : n ≡ k * 2 ^ 1 + 1 = omega arith in
    let b : bit_or k 0 ≡ k = or_zero_r k in
    ap (λ m. bit_or m 1) a ∙ (or_block 1 k 0 1 1 (omega arith) (omega arith) ∙ (ap (λ m. m * 2 ^ 1 + 1) b ∙ omega arith))

and_even : (n k : ℕ) → n ≡ 2 * k + 1 → n < 18446744073709551616 → bit_and n 18446744073709551614 ≡ 2 * k + 0
and_even n k e lt = and_high n 63 1 ∙ omega arith

-- what another pass knows of a pass that is gone stays so when a change by someone else is added
gone_on : (log front front' : List Entry) (owner : ℕ → Option ℕ) (splits : ℕ) (e : Entry) → ((n : ℕ) → owner n ≡ None → e.by.0 ≢ n) → ((n : ℕ) → e.by.0 ≢ n → positions n 0 front' ≡ positions n 0 front) → (g : Gone)
    → IsGone log front owner splits g → IsGone (log ++ e ∷ []) front' owner splits g
gone_on log front front' owner splits e other fronts g is = record {
  whole = positions_other g.number 0 log e (other g.number is.nobody) ∙ is.whole;
  shown = fronts g.number (other g.number is.nobody) ∙ is.shown;
  nobody = is.nobody;
  below = is.below;
}

module _ {S M : Type 0} (meaning : S → M) (fits : S → Type 0) (K : Ghosts M) (start : M) (seats : ℕ) where
  abbrev D : Type 0
  D = View M

  abbrev St : Type 0
  St = State (Desk S) D

  abbrev Rule : St → Type 0
  Rule = Turns meaning fits K start seats

  abbrev Sat : Type 0
  Sat = Me (Desk S) D

  -- a step after which the history, the places of all and the sums are as before
  unmoved : (s : St) (r : Rule s) (x id : ℕ) (v w : D) → x ≡ get_or s.words 0 0 → get_elem? s.views id ≡ some v → w.left ≡ v.left → w.share ≡ v.share → w.holds ≡ v.holds → w.inside ≡ v.inside → w.live ≡ v.live → w.counts ≡ v.counts
      → (v.live ≡ true → Sees K start seats r.log v → Sees K start seats r.log w) → (v.live ≡ true → v.counts ≡ true → Knows r.log r.taken r.holder r.owner r.splits id v → Knows r.log r.taken r.holder r.owner r.splits id w)
      → Rule record { words = set s.words 0 x; homes = s.homes; views = set s.views id w }
  unmoved s r x id v w same at lefts share holds inside live counts sees knows_it = record {
    log = r.log;
    taken = r.taken;
    holder = r.holder;
    owner = r.owner;
    splits = r.splits;
    now = r.now;
    wide = wide_is s.words x r.wide;
    wakes = wakes_on s.words x r.wakes;
    deep = r.deep;
    leads = r.leads;
    binary = r.binary;
    word = word_is s.words x (2 * length r.log + r.taken) r.wide (same ∙ r.word);
    free = r.free;
    held_by = λ b. let h = r.held_by b in dite (ℕ_discrete r.holder id)
        (λ e. let vv : h.0 ≡ v = some-injective h.0 v (sym h.1 ∙ (ap (get_elem? s.views) e ∙ at)) in
        (w, (subst (λ k. get_elem? (set s.views id w) k ≡ some w) (sym e) (set_here s.views id w (at_below s.views id v at))), live ∙ (ap (λ (d : D). d.live) (sym vv) ∙ h.2), counts ∙ (ap (λ (d : D). d.counts) (sym vv) ∙ h.3), inside ∙ (ap (λ (d : D). d.inside) (sym vv) ∙ h.4)))
        (λ ne. (h.0, set_else s.views id r.holder w ne ∙ h.1, h.2, h.3, h.4));
    bounded = (let a = total_stays (λ (d : D). d.left) s.views id v w at (omega arith) in let b = r.bounded in omega arith);
    shares = (let a = total_stays (λ (d : D). d.share) s.views id v w at (omega arith) in let b = r.shares in omega arith);
    pool = r.pool;
    ids = λ n. (let e : times n w.holds ≡ times n v.holds = ap (times n) holds in let a = total_stays (λ (d : D). times n d.holds) s.views id v w at (omega arith) in let b = r.ids n in omega arith);
    unused = r.unused;
    few = r.few;
    each_seat = seats_stay (λ j d. d.live ≡ true → Sees K start seats r.log d) s.views id w (λ l. let l' = sym live ∙ l in sees l' (r.each_seat id v at l')) (λ j d other there. r.each_seat j d there);
    each_pass = seats_stay (λ j d. d.live ≡ true → d.counts ≡ true → Knows r.log r.taken r.holder r.owner r.splits j d) s.views id w
        (λ l c. let l' = sym live ∙ l in let c' = sym counts ∙ c in knows_it l' c' (r.each_pass id v at l' c')) (λ j d other there. r.each_pass j d there);
  }

  takes_free : (slots id : ℕ) (v : D) (s : St) (r : Rule s) → v.live ≡ true → v.counts ≡ true → v.inside ≡ false → get_elem? s.views id ≡ some v → get_or s.words 0 0 < 18446744073709551616 → r.taken ≡ 0
      → (w : D) × (a : Act (Desk S)) × Valid s.homes [] a × Rule (stepped s 0 (bit_or (get_or s.words 0 0) 1) id [] w a)
      × took meaning fits K (step slots 0 1 0 none) (v, []) (get_or s.words 0 0) (w, carried_after [] a)
  takes_free slots id v s r live counts out at narrow free =
      let k = r.each_pass id v at live counts in
      let z = r.each_seat id v at live in
      let x = (r.free free).0 in
      let n : ℕ = get_or s.words 0 0 in
      let w : D = entered v r.log in
      let even : n ≡ 2 * length r.log + 0 = r.word ∙ ap (λ b. 2 * length r.log + b) free in
      let here : get_elem? (set s.views id w) id ≡ some w = set_here s.views id w (at_below s.views id v at) in
      let r' : Rule (stepped s 0 (bit_or n 1) id [] w (takes 0 (Home x))) = record {
        log = r.log;
        taken = 1;
        holder = id;
        owner = r.owner;
        splits = r.splits;
        now = r.now;
        wide = wide_is s.words (bit_or n 1) r.wide;
        wakes = wakes_on s.words (bit_or n 1) r.wakes;
        deep = length-set s.homes 0 none ∙ r.deep;
        leads = r.leads;
        binary = omega arith;
        word = word_is s.words (bit_or n 1) (2 * length r.log + 1) r.wide (or_even n (length r.log) even);
        free = λ h. absurd (omega arith);
        held_by = λ h. (w, here, live, counts, refl);
        bounded = (let a = total_stays (λ (d : D). d.left) s.views id v w at (omega arith) in let b = r.bounded in omega arith);
        shares = (let a = total_stays (λ (d : D). d.share) s.views id v w at (omega arith) in let b = r.shares in omega arith);
        pool = r.pool;
        ids = λ n. (let a = total_stays (λ (d : D). times n d.holds) s.views id v w at (omega arith) in let b = r.ids n in omega arith);
        unused = r.unused;
        few = r.few;
        each_seat = seats_stay (λ j d. d.live ≡ true → Sees K start seats r.log d) s.views id w
            (λ l. record { started = z.started; seated = z.seated; begins = prefix_refl r.log; looks = looks_on K v.start v.number v.front r.log z.begins v.looks z.looks; met = met_on v.front r.log z.begins v.met z.met }) (λ j d other there l. r.each_seat j d there l);
        each_pass = seats_stay (λ j d. d.live ≡ true → d.counts ≡ true → Knows r.log 1 id r.owner r.splits j d) s.views id w
            (λ l c. record {
              own = k.own;
              seen = k.own;
              owned = k.owned;
              numbered = k.numbered;
              first = k.first;
              gone = each_map (IsGone r.log v.front r.owner r.splits) (IsGone r.log r.log r.owner r.splits) (λ g is. record { whole = is.whole; shown = is.whole; nobody = is.nobody; below = is.below }) v.taken k.gone;
              held = λ h. (refl, refl, refl);
            })
            (λ j d other there l c. let o = r.each_pass j d there l c in record {
              own = o.own;
              seen = o.seen;
              owned = o.owned;
              numbered = o.numbered;
              first = o.first;
              gone = o.gone;
              held = λ h. let t = o.held h in absurd (let y : r.taken ≡ 1 = t.2 in omega arith);
            });
      } in
      let s' : St = stepped s 0 (bit_or n 1) id [] w (takes 0 (Home x)) in
      let f = r.free free in (
        w,
        takes 0 (Home x),
        f.1,
        r',
        (
          (λ odd. absurd (omega arith)),
          (λ is_even. (x, r.log, refl, z.begins, (omega arith), f.3, knows meaning fits K start seats s' r' id w live here, subst (λ m. IsNow K w r.log m) (sym f.2) (now_at meaning fits K start seats s' r' id w live here))),
        ),
      )

  pub taking : (slots id : ℕ) (v : D) (cs : List (ℕ × Desk S)) → cs ≡ [] → v.live ≡ true → v.counts ≡ true → v.inside ≡ false
      → Allows Rule slots id (v, cs) 0 (λ n. bit_or n 1) (took meaning fits K (step slots 0 1 0 none) (v, cs))
  taking slots id v cs none_held live counts out = subst (λ (c : List (ℕ × Desk S)). Allows Rule slots id (v, c) 0 (λ n. bit_or n 1) (took meaning fits K (step slots 0 1 0 none) (v, c))) (sym none_held)
      (λ s r deep at narrow. dite (ℕ_discrete r.taken 0)
      (λ free. takes_free slots id v s r live counts out at narrow free)
      (λ taken. let n : ℕ = get_or s.words 0 0 in let is : n ≡ 2 * length r.log + 1 = (let w = r.word in let b = r.binary in omega arith) in
      (v, keeps, tt, unmoved s r (bit_or n 1) id v v (or_odd n (length r.log) is) at refl refl refl refl refl refl (λ l z. z) (λ l c z. z), ((λ odd. refl), (λ even. absurd (omega arith))))))

  pub learns : (slots id : ℕ) (v : D) (cs : List (ℕ × Desk S)) → v.live ≡ true → Allows Rule slots id (v, cs) 0 (λ n. n) (learned K (step slots 0 0 0 none) (v, cs))
  learns slots id v cs live s r deep at narrow = (v, keeps, tt, unmoved s r (get_or s.words 0 0) id v v refl at refl refl refl refl refl refl (λ l q. q) (λ l c q. q), (refl, knows meaning fits K start seats s r id v live at))

  -- a step on a wake word, which makes it 0 or 1
  pub signalling : (slots id i : ℕ) (v : D) (cs : List (ℕ × Desk S)) (f : ℕ → ℕ) (a b : ℕ) → 0 < i → ((n : ℕ) → f n < 2) → Allows Rule slots id (v, cs) i f (signalled (step slots i a b none) (v, cs))
  signalling slots id i v cs f a b far low s r deep at narrow =
      let n : ℕ = get_or s.words i 0 in
      let same : set s.views id v ≡ s.views = set_again s.views id v at in
      let as_long : length (set s.words i (f n)) ≡ length s.words = length-set s.words i (f n) in (
        v,
        keeps,
        tt,
        subst (λ vs. Rule record { words = set s.words i (f n); homes = s.homes; views = vs }) (sym same) record {
          log = r.log;
          taken = r.taken;
          holder = r.holder;
          owner = r.owner;
          splits = r.splits;
          now = r.now;
          wide = (let w = r.wide in omega arith);
          deep = r.deep;
          wakes = wakes_at s.words i (f n) (low n) r.wakes;
          leads = r.leads;
          binary = r.binary;
          word = get_or-set_other s.words i 0 (f n) 0 (λ e. absurd (omega arith)) ∙ r.word;
          free = r.free;
          held_by = r.held_by;
          bounded = r.bounded;
          shares = r.shares;
          pool = r.pool;
          ids = r.ids;
          unused = r.unused;
          few = r.few;
          each_seat = r.each_seat;
          each_pass = r.each_pass;
        },
        refl,
      )

  pub looking : (slots id : ℕ) (v : D) (cs : List (ℕ × Desk S)) (now : M) (l : Look) → v.live ≡ true → v.counts ≡ true → v.inside ≡ true → run K.step (Some v.start) v.front ≡ Some now → IsTrue (K.shows now l) → l.by.0 ≡ v.number → l.at ≡ length v.front
      → Allows Rule slots id (v, cs) 0 (λ n. n) (looked K l (step slots 0 0 0 none) (v, cs))
  looking slots id v cs now l live counts inside leads shows own at_end s r deep at narrow =
      let k = r.each_pass id v at live counts in
      let h = k.held inside in
      let n : ℕ = get_or s.words 0 0 in
      let as_long : length v.front ≡ length r.log = ap (λ (f : List Entry). length f) h.1 in
      let is : n ≡ 2 * length r.log + 1 = r.word ∙ ap (λ b. 2 * length r.log + b) h.2 in
      let w : D = with_look v l in
      let one : Each (IsShown K v.start v.number v.front) (l ∷ []) = (shown_now K v.start v.number v.front now l leads shows own at_end, tt) in
      let r' : Rule (stepped s 0 n id cs w keeps) = unmoved s r n id v w refl at refl refl refl refl refl refl
      (λ y z. record { started = z.started; seated = z.seated; begins = z.begins; looks = each_append (IsShown K v.start v.number v.front) v.looks (l ∷ []) z.looks one; met = z.met })
      (λ y c z. record { own = z.own; seen = z.seen; owned = z.owned; numbered = z.numbered; first = z.first; gone = z.gone; held = z.held }) in
      (w, keeps, tt, r', ((omega arith), refl, knows meaning fits K start seats (stepped s 0 n id cs w keeps) r' id w live (set_here s.views id w (at_below s.views id v at))))

  -- a change is made by the seat that has the turn
  module _ (lives_on : (m m' : M) (e : Entry) (id : ℕ) → K.step m e ≡ Some m' → bit (K.lives m id) + names (K.gives m e) id ≤ bit (K.lives m' id) + names (K.takes m e) id) (id : ℕ) (v : D) (e : Entry) (now after : M) (live : v.live ≡ true)
      (counts : v.counts ≡ true) (inside : v.inside ≡ true) (leads : run K.step (Some v.start) v.front ≡ Some now) (enabled : K.step now e ≡ Some after) (own : e.by.0 ≡ v.number) (paid : cost_of (K.debt now) (K.debt after) ≤ v.left)
      (shared : K.pool now ≤ v.share + K.pool after) (small : K.pool after < 2 ^ 32) (has_it : Has v.holds (K.takes now e)) where
    -- the seat's view, which stays inside or not
    abbrev Then : Bool → D
    Then b = record (with_change K v e now after) { inside = b }

    module _ (s : St) (r : Rule s) (at : get_elem? s.views id ≡ some v) where
      now_is : r.now ≡ now
      now_is = let q = r.each_seat id v at live in let h = (r.each_pass id v at live counts).held inside in
          some_is r.now now (sym r.leads ∙ (ap (λ m. run K.step (Some m) r.log) (sym q.started) ∙ (ap (run K.step (Some v.start)) (sym h.1) ∙ leads)))

      -- the front is the whole history
      whole : length v.front ≡ length r.log
      whole = ap (λ (l : List Entry). length l) ((r.each_pass id v at live counts).held inside).1

      -- and the word says that the turn is taken
      odd : get_or s.words 0 0 ≡ 2 * length v.front + 1
      odd = let h = (r.each_pass id v at live counts).held inside in let w = whole in r.word ∙ (ap (λ b. 2 * length r.log + b) h.2 ∙ omega arith)

      other_number : (m : ℕ) → r.owner m ≢ Some id → e.by.0 ≢ m
      other_number m ne same = ne (ap r.owner (sym same ∙ own) ∙ (r.each_pass id v at live counts).owned)

      not_gone : (m : ℕ) → r.owner m ≡ None → e.by.0 ≢ m
      not_gone m none_owns = other_number m (λ f. absurd (let g : None ≡ Some id = sym none_owns ∙ f in cc))

      sees_change : (b : Bool) → Sees K start seats (r.log ++ e ∷ []) (Then b)
      sees_change b =
          let q = r.each_seat id v at live in
          let h = (r.each_pass id v at live counts).held inside in record {
            started = q.started;
            seated = q.seated;
            begins = subst (λ f. IsPrefix (f ++ e ∷ []) (r.log ++ e ∷ [])) (sym h.1) (prefix_refl (r.log ++ e ∷ []));
            looks = looks_on K v.start v.number v.front (v.front ++ e ∷ []) (e ∷ [], refl) v.looks q.looks;
            met = met_on v.front (v.front ++ e ∷ []) (e ∷ [], refl) v.met q.met;
          }

      knows_change : (b : Bool) (t : ℕ) → (b ≡ true → t ≡ 1) → Knows (r.log ++ e ∷ []) t r.holder r.owner r.splits id (Then b)
      knows_change b t taken =
          let k = r.each_pass id v at live counts in
          let h = k.held inside in
          let zero_is : 0 + length r.log ≡ length r.log = omega arith in
          let own' : positions v.number 0 (r.log ++ e ∷ []) ≡ v.mine ++ length v.front ∷ [] = positions_own v.number 0 r.log e own ∙ (λ i. k.own i ++ (zero_is ∙ sym whole) i ∷ []) in record {
            own = own';
            seen = ap (λ f. positions v.number 0 (f ++ e ∷ [])) h.1 ∙ own';
            owned = k.owned;
            numbered = k.numbered;
            first = k.first;
            gone = each_map (IsGone r.log v.front r.owner r.splits) (IsGone (r.log ++ e ∷ []) (v.front ++ e ∷ []) r.owner r.splits) (gone_on r.log v.front (v.front ++ e ∷ []) r.owner r.splits e not_gone (λ m ne. positions_other m 0 v.front e ne)) v.taken k.gone;
            held = λ z. (h.0, ap (λ f. f ++ e ∷ []) h.1, taken z);
          }

      knows_other : (t j : ℕ) (d : D) → j ≢ id → Knows r.log r.taken r.holder r.owner r.splits j d → Knows (r.log ++ e ∷ []) t r.holder r.owner r.splits j d
      knows_other t j d other o = record {
        own = positions_other d.number 0 r.log e (other_number d.number (λ f. other (some_is j id (sym o.owned ∙ f)))) ∙ o.own;
        seen = o.seen;
        owned = o.owned;
        numbered = o.numbered;
        first = o.first;
        gone = each_map (IsGone r.log d.front r.owner r.splits) (IsGone (r.log ++ e ∷ []) d.front r.owner r.splits) (gone_on r.log d.front d.front r.owner r.splits e not_gone (λ m ne. refl)) d.taken o.gone;
        held = λ z. absurd (other ((o.held z).0 ∙ sym ((r.each_pass id v at live counts).held inside).0));
      }

      -- the rule, once the word has counted the change, and is even where the turn is given up
      change_kept : (x t : ℕ) (homes : List (Maybe (Desk S))) (b : Bool) → x ≡ 2 * (length v.front + 1) + t → t < 2 → length homes ≡ 1 → (t ≡ 0 → (y : S) × (get_elem? homes 0 ≡ some (some (Home y))) × (meaning y ≡ after) × fits y) → (t ≡ 1 → b ≡ true)
          → (b ≡ true → t ≡ 1) → Rule record { words = set s.words 0 x; homes = homes; views = set s.views id (Then b) }
      change_kept x t homes b counted binary deep free stays taken =
          let k = r.each_pass id v at live counts in
          let h = k.held inside in
          let w : D = Then b in
          let log' : List Entry = r.log ++ e ∷ [] in
          let long : length log' ≡ length r.log + 1 = length-append r.log (e ∷ []) ∙ refl in
          let as_long = whole in
          let here : get_elem? (set s.views id w) id ≡ some w = set_here s.views id w (at_below s.views id v at) in
          let lefts : total (λ (d : D). d.left) s.views + length r.log + K.debt now < 2 ^ 28 = subst (λ m. total (λ (d : D). d.left) s.views + length r.log + K.debt m < 2 ^ 28) now_is r.bounded in
          let shares : total (λ (d : D). d.share) s.views ≤ K.pool now = subst (λ m. total (λ (d : D). d.share) s.views ≤ K.pool m) now_is r.shares in
          let ids : (i : ℕ) → total (λ (d : D). times i d.holds) s.views ≤ bit (K.lives now i) = λ i. subst (λ m. total (λ (d : D). times i d.holds) s.views ≤ bit (K.lives m i)) now_is (r.ids i) in record {
            log = log';
            taken = t;
            holder = r.holder;
            owner = r.owner;
            splits = r.splits;
            now = after;
            wide = wide_is s.words x r.wide;
            wakes = wakes_on s.words x r.wakes;
            deep = deep;
            leads = leads_on K.step start r.log e now after (r.leads ∙ ap (λ m. Some m) now_is) enabled;
            binary = binary;
            word = word_is s.words x (2 * length log' + t) r.wide (omega arith);
            free = free;
            held_by = λ z. (w, subst (λ j. get_elem? (set s.views id w) j ≡ some w) h.0 here, live, counts, stays z);
            bounded = (let a = total_set (λ (d : D). d.left) s.views id v w at in let p = total_at (λ (d : D). d.left) s.views id v at in let c = cost_covers (K.debt now) (K.debt after) in omega arith);
            shares = (let a = total_set (λ (d : D). d.share) s.views id v w at in let p = total_at (λ (d : D). d.share) s.views id v at in omega arith);
            pool = small;
            ids = λ i. (let a = total_set (λ (d : D). times i d.holds) s.views id v w at in
                let m = times_more i (less v.holds (K.takes now e)) (K.gives now e) in let l = times_less i v.holds (K.takes now e) has_it in let o = lives_on now after e i enabled in let y = ids i in omega arith);
            unused = λ m above. positions_other m 0 r.log e (λ same. absurd (let a = k.numbered in omega arith)) ∙ r.unused m above;
            few = r.few;
            each_seat = seats_stay (λ j d. d.live ≡ true → Sees K start seats log' d) s.views id w (λ l. sees_change b)
                (λ j d other there l. let o = r.each_seat j d there l in record { started = o.started; seated = o.seated; begins = prefix_more d.front r.log (e ∷ []) o.begins; looks = o.looks; met = o.met });
            each_pass = seats_stay (λ j d. d.live ≡ true → d.counts ≡ true → Knows log' t r.holder r.owner r.splits j d) s.views id w (λ l c. knows_change b t taken) (λ j d other there l c. knows_other t j d other (r.each_pass j d there l c));
          }

      -- what the seat is told
      told : (s' : St) (r' : Rule s') (b : Bool) → get_elem? s'.views id ≡ some (Then b) → r'.log ≡ r.log ++ e ∷ [] → r'.now ≡ after → IsNow K (Then b) (v.front ++ e ∷ []) after
      told s' r' b there log_is after_is =
          let h = (r.each_pass id v at live counts).held inside in
          subst (λ (t : List Entry × M). IsNow K (Then b) t.0 t.1) (λ i. ((log_is ∙ ap (λ f. f ++ e ∷ []) (sym h.1)) i, after_is i)) (now_at meaning fits K start seats s' r' id (Then b) live there)

    pub changing : (slots : ℕ) (cs : List (ℕ × Desk S)) → Allows Rule slots id (v, cs) 0 (λ n. (n + 2) % 2 ^ 64) (changed K e (step slots 0 2 0 none) (v, cs))
    unfolding change_kept
    changing slots cs s r deep at narrow =
        let n : ℕ = get_or s.words 0 0 in
        let is = odd s r at in
        let long = whole s r at in
        let few : total (λ (d : D). d.left) s.views + length r.log + K.debt r.now < 2 ^ 28 = r.bounded in
        let w : D = with_change K v e now after in
        let r' : Rule (stepped s 0 ((n + 2) % 2 ^ 64) id cs w keeps) = change_kept s r at ((n + 2) % 2 ^ 64) 1 s.homes v.inside (omega arith) (omega arith) r.deep (λ z. absurd (omega arith)) (λ z. inside) (λ z. refl) in
        let s' : St = stepped s 0 ((n + 2) % 2 ^ 64) id cs w keeps in
        let here : get_elem? (set s.views id w) id ≡ some w = set_here s.views id w (at_below s.views id v at) in (
          w,
          keeps,
          tt,
          r',
          (λ now' after' leads' enabled'.
              let sn : now ≡ now' = some_is now now' (sym leads ∙ leads') in
              let sa : after ≡ after' = some_is after after' (sym enabled ∙ (λ i. K.step (sn i) e) ∙ enabled') in (
                is,
                (λ i. (with_change K v e (sn i) (sa i), cs)),
                knows meaning fits K start seats s' r' id w live here,
                subst (λ m. IsNow K w (v.front ++ e ∷ []) m) sa (told s r at s' r' v.inside here refl refl),
              )),
        )

  pub leaving : (slots id : ℕ) (me : Sat) (v : D) (cs : List (ℕ × Desk S)) (x : S) → me ≡ (v, (0, Home x) ∷ rest cs) → cs ≡ (0, Away) ∷ [] → v.live ≡ true → v.counts ≡ true → v.inside ≡ true → run K.step (Some v.start) v.front ≡ Some (meaning x) → fits x
      → Allows Rule slots id me 0 (λ n. bit_and n 18446744073709551614) (left (step slots 0 18446744073709551614 0 none) me)
  leaving slots id me v cs x is carried live counts inside leads fit = subst (λ (m : Sat). Allows Rule slots id m 0 (λ n. bit_and n 18446744073709551614) (left (step slots 0 18446744073709551614 0 none) m))
      (sym (is ∙ ap (λ (c : List (ℕ × Desk S)). (v, (0, Home x) ∷ rest c)) carried))
      (λ s r deep at narrow.
      let k = r.each_pass id v at live counts in
      let q = r.each_seat id v at live in
      let h = k.held inside in
      let n : ℕ = get_or s.words 0 0 in
      let odd : n ≡ 2 * length r.log + 1 = r.word ∙ ap (λ b. 2 * length r.log + b) h.2 in
      let w : D = outside v in
      let lead : Some (meaning x) ≡ Some r.now = sym leads ∙ (ap (run K.step (Some v.start)) h.1 ∙ (ap (λ m. run K.step (Some m) r.log) q.started ∙ r.leads)) in (
        w,
        gives,
        tt,
        record {
          log = r.log;
          taken = 0;
          holder = r.holder;
          owner = r.owner;
          splits = r.splits;
          now = r.now;
          wide = wide_is s.words (bit_and n 18446744073709551614) r.wide;
          wakes = wakes_on s.words (bit_and n 18446744073709551614) r.wakes;
          deep = length-set s.homes 0 (some (Home x)) ∙ r.deep;
          leads = r.leads;
          binary = omega arith;
          word = word_is s.words (bit_and n 18446744073709551614) (2 * length r.log + 0) r.wide (and_even n (length r.log) odd narrow);
          free = λ z. (x, set_here s.homes 0 (some (Home x)) (let d = r.deep in omega arith), some_is (meaning x) r.now lead, fit);
          held_by = λ b. absurd (omega arith);
          bounded = (let a = total_stays (λ (d : D). d.left) s.views id v w at (omega arith) in let b = r.bounded in omega arith);
          shares = (let a = total_stays (λ (d : D). d.share) s.views id v w at (omega arith) in let b = r.shares in omega arith);
          pool = r.pool;
          ids = λ n. (let a = total_stays (λ (d : D). times n d.holds) s.views id v w at (omega arith) in let b = r.ids n in omega arith);
          unused = r.unused;
          few = r.few;
          each_seat = seats_stay (λ j d. d.live ≡ true → Sees K start seats r.log d) s.views id w (λ l. record { started = q.started; seated = q.seated; begins = q.begins; looks = q.looks; met = q.met }) (λ j d other there. r.each_seat j d there);
          each_pass = seats_stay (λ j d. d.live ≡ true → d.counts ≡ true → Knows r.log 0 r.holder r.owner r.splits j d) s.views id w
              (λ l c. record { own = k.own; seen = k.seen; owned = k.owned; numbered = k.numbered; first = k.first; gone = k.gone; held = λ f. absurd (let g : false ≡ true = f in cc) })
              (λ j d other there l c. let o = r.each_pass j d there l c in record {
                own = o.own;
                seen = o.seen;
                owned = o.owned;
                numbered = o.numbered;
                first = o.first;
                gone = o.gone;
                held = λ z. absurd (other ((o.held z).0 ∙ sym h.0));
              });
        },
        refl,
      ))

  pub changing_last : ((m m' : M) (e : Entry) (id : ℕ) → K.step m e ≡ Some m' → bit (K.lives m id) + names (K.gives m e) id ≤ bit (K.lives m' id) + names (K.takes m e) id)
      → (slots id : ℕ) (me : Sat) (v : D) (cs : List (ℕ × Desk S)) (x : S) (e : Entry) (now : M) → me ≡ (v, (0, Home x) ∷ rest cs) → cs ≡ (0, Away) ∷ [] → v.live ≡ true → v.counts ≡ true → v.inside ≡ true → run K.step (Some v.start) v.front ≡ Some now
      → K.step now e ≡ Some (meaning x) → e.by.0 ≡ v.number → cost_of (K.debt now) (K.debt (meaning x)) ≤ v.left → K.pool now ≤ v.share + K.pool (meaning x) → K.pool (meaning x) < 2 ^ 32 → Has v.holds (K.takes now e) → fits x
      → Allows Rule slots id me 0 (λ n. (n + 1) % 2 ^ 64) (changed_last K e (step slots 0 1 0 none) me)
  unfolding change_kept
  changing_last lives_on slots id me v cs x e now is carried live counts inside leads enabled own paid shared small has_it fit = subst (λ (m : Sat). Allows Rule slots id m 0 (λ n. (n + 1) % 2 ^ 64) (changed_last K e (step slots 0 1 0 none) m))
      (sym (is ∙ ap (λ (c : List (ℕ × Desk S)). (v, (0, Home x) ∷ rest c)) carried))
      (λ s r deep at narrow.
      let after : M = meaning x in
      let n : ℕ = get_or s.words 0 0 in
      let one = odd lives_on id v e now after live counts inside leads enabled own paid shared small has_it s r at in
      let long = whole lives_on id v e now after live counts inside leads enabled own paid shared small has_it s r at in
      let few : total (λ (d : D). d.left) s.views + length r.log + K.debt r.now < 2 ^ 28 = r.bounded in
      let w : D = outside (with_change K v e now after) in
      let c : List (ℕ × Desk S) = (0, Home x) ∷ [] in
      let r' : Rule (stepped s 0 ((n + 1) % 2 ^ 64) id c w gives) = change_kept lives_on id v e now after live counts inside leads enabled own paid shared small has_it s r at ((n + 1) % 2 ^ 64) 0 (set s.homes 0 (some (Home x))) false (omega arith) (omega arith)
      (length-set s.homes 0 (some (Home x)) ∙ r.deep) (λ z. (x, set_here s.homes 0 (some (Home x)) (let d = r.deep in omega arith), refl, fit)) (λ z. absurd (omega arith)) (λ f. absurd (let g : false ≡ true = f in cc)) in
      let s' : St = stepped s 0 ((n + 1) % 2 ^ 64) id c w gives in
      let here : get_elem? (set s.views id w) id ≡ some w = set_here s.views id w (at_below s.views id v at) in (
        w,
        gives,
        tt,
        r',
        (λ now' after' leads' enabled'.
            let sn : now ≡ now' = some_is now now' (sym leads ∙ leads') in
            let sa : after ≡ after' = some_is after after' (sym enabled ∙ (λ i. K.step (sn i) e) ∙ enabled') in (
              one,
              (λ i. (outside (with_change K v e (sn i) (sa i)), [])),
              knows meaning fits K start seats s' r' id w live here,
              subst (λ m. IsNow K w (v.front ++ e ∷ []) m) sa (told lives_on id v e now after live counts inside leads enabled own paid shared small has_it s r at s' r' false here refl refl),
            )),
      ))
