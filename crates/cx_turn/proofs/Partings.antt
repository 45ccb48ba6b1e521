-- Splits, joins and the end keep the rule of the turn.
use Rattle.std.proofs.Common.{◌≡◌, ◌≢◌, ◌⊎◌, ℕ, zero, suc, ◌+◌, ◌^◌, ◌<◌, ◌≤◌, List, [], ◌∷◌, ◌++◌, length, set, get_or, replicate, Option, Some, None, Bool, true, false, refl, sym, ap, ◌∙◌, subst, inl, inr, ⊎_elim, arith, length-set, length-append, append-nil, cond, nat_eq, nat_le, eq-eqb, ne_eqb, if◌then◌else◌}
use mathlib.Core.Logic.{dite}
use mathlib.Core.Option.{some, some-injective, some-ne-none}
use mathlib.Core.List.{IsPrefix}
use native.Mathlib.Decide.{ℕ_discrete, dec_le}
use lib.ListN.{get_elem?}
use Rattle.atomic_table.specs.Table.{State, Splits, Joins, Final, Seen, opening}
use Rattle.atomic_table.proofs.Lists.{at_set, set_here, set_else, at_longer}
use Rattle.cx_machine.specs.declared.kind.Entry.{Entry}
use Rattle.cx_machine.specs.declared.machine.Meaning.{Ghosts}
use Rattle.cx_machine.specs.Meaning.{times}
use Rattle.cx_turn.specs.declared.view.Desk.{Desk}
use Rattle.cx_turn.specs.declared.view.Desk.TheVariants.{Home}
use Rattle.cx_turn.specs.declared.view.View.{View}
use Rattle.cx_turn.specs.declared.view.Gone.{Gone}
use Rattle.cx_turn.specs.Positions.{positions}
use Rattle.cx_turn.specs.Views.{IsNow, Each, Has, IsIn, longer, gone_of, split_left, split_right, note_left, note_right, taken_in, both_of, spent_view, opening_view}
use Rattle.cx_turn.specs.Turning.{Knows, Sees, Turns, IsGone}
use Rattle.cx_turn.proofs.Histories.{positions-append, each_map, each_append, some_is, looks_on}
use Rattle.cx_turn.proofs.Ids.{times-append, times_less, times_only}
use Rattle.cx_turn.proofs.Totals.{total_split, total_join}
use Rattle.cx_turn.proofs.Seats.{at_below, now_at}
use Rattle.std.proofs.lemmas.Bool.Decides.{leb_tells}
use Rattle.std.proofs.lemmas.List.{get_or-replicate, length-replicate}

at_snoc : {A : Type 0} (l : List A) (a b : A) (j : ℕ) → get_elem? (l ++ a ∷ []) j ≡ some b → (get_elem? l j ≡ some b) ⊎ ((j ≡ length l) × (a ≡ b))
at_snoc [] a b zero e = inr (refl, some-injective a b e)
at_snoc [] a b (suc j) e = absurd (some-ne-none b (sym e))
at_snoc (x ∷ xs) a b zero e = inl e
at_snoc (x ∷ xs) a b (suc j) e = ⊎_elim (λ t. inl t) (λ (t : (j ≡ length xs) × (a ≡ b)). inr (ap suc t.0, t.1)) (at_snoc xs a b j e)

tail_is : {A : Type 0} (x y : A) (xs ys : List A) → ◌≡◌ {A = List A} (x ∷ xs) (y ∷ ys) → xs ≡ ys
tail_is x y xs ys e = cc

head_of : {A : Type 0} (x y : A) (xs ys : List A) → ◌≡◌ {A = List A} (x ∷ xs) (y ∷ ys) → x ≡ y
head_of x y xs ys e = cc

-- of two beginnings of one list the shorter begins the longer
pub prefixes : {A : Type 0} (a b c : List A) → IsPrefix a c → IsPrefix b c → length a ≤ length b → IsPrefix a b
prefixes [] b c p q le = (b, refl)
prefixes (x ∷ a) [] c p q le = absurd (omega arith)
prefixes (x ∷ a) (y ∷ b) [] p q le = absurd (let e = p.1 in cc)
prefixes {A} (x ∷ a) (y ∷ b) (z ∷ c) p q le =
    let r = prefixes a b c (p.0, tail_is x z (a ++ p.0) c p.1) (q.0, tail_is y z (b ++ q.0) c q.1) (omega arith) in
    let h : x ≡ y = head_of x z (a ++ p.0) c p.1 ∙ sym (head_of y z (b ++ q.0) c q.1) in
    (r.0, λ i. h i ∷ r.1 i)

empty_is : {A : Type 0} (xs : List A) → length xs ≡ 0 → xs ≡ []
empty_is [] e = refl
empty_is (x ∷ xs) e = absurd (omega arith)

-- between two histories with the same positions, each has those
pub settled : (n : ℕ) (a b c : List Entry) (ps : List ℕ) → IsPrefix a b → IsPrefix b c → positions n 0 a ≡ ps → positions n 0 c ≡ ps → positions n 0 b ≡ ps
settled n a b c ps p q at_a at_c =
    let more : positions n 0 b ≡ positions n 0 a ++ positions n (0 + length a) p.0 = ap (positions n 0) (sym p.1) ∙ positions-append n 0 a p.0 in
    let most : positions n 0 c ≡ positions n 0 b ++ positions n (0 + length b) q.0 = ap (positions n 0) (sym q.1) ∙ positions-append n 0 b q.0 in
    let m1 : length (positions n 0 b) ≡ length (positions n 0 a) + length (positions n (0 + length a) p.0) = ap (λ l. length l) more ∙ length-append (positions n 0 a) (positions n (0 + length a) p.0) in
    let m2 : length (positions n 0 c) ≡ length (positions n 0 b) + length (positions n (0 + length b) q.0) = ap (λ l. length l) most ∙ length-append (positions n 0 b) (positions n (0 + length b) q.0) in
    let e1 : length (positions n 0 a) ≡ length (positions n 0 c) = ap (λ l. length l) (at_a ∙ sym at_c) in
    let z : positions n (0 + length a) p.0 ≡ [] = empty_is _ (omega arith) in
    more ∙ (ap (λ l. positions n 0 a ++ l) z ∙ (append-nil (positions n 0 a) ∙ at_a))

pub longer_cases : {A : Type 0} (P : List A → Type 0) (xs ys : List A) → (length xs ≤ length ys → P ys) → (length ys ≤ length xs → P xs) → P (longer xs ys)
longer_cases P xs ys f g = ⊎_elim
    (λ (t : (nat_le (length xs) (length ys) ≡ true) × (length xs ≤ length ys)). subst (λ b. P (cond b ys xs)) (sym t.0) (f t.1))
    (λ (t : (nat_le (length xs) (length ys) ≡ false) × (length ys < length xs)). subst (λ b. P (cond b ys xs)) (sym t.0) (g (let u = t.1 in omega arith)))
    (leb_tells (length xs) (length ys))

prefix_self : {A : Type 0} (xs : List A) → IsPrefix xs xs
prefix_self xs = ([], append-nil xs)

-- the longer of two beginnings of one list begins it, and both begin the longer
pub longer_begins : {A : Type 0} (a b c : List A) → IsPrefix a c → IsPrefix b c → IsPrefix a (longer a b) × IsPrefix b (longer a b) × IsPrefix (longer a b) c
longer_begins a b c p q = longer_cases (λ l. IsPrefix a l × IsPrefix b l × IsPrefix l c) a b (λ le. (prefixes a b c p q le, prefix_self b, q)) (λ le. (prefix_self a, prefixes b a c q p le, p))

-- the owners once a new number has a seat, or a number is gone
abbrev with_owner : (ℕ → Option ℕ) → ℕ → Option ℕ → ℕ → Option ℕ
with_owner owner n o m = if nat_eq m n then o else owner m

owner_here : (owner : ℕ → Option ℕ) (n : ℕ) (o : Option ℕ) → with_owner owner n o n ≡ o
owner_here owner n o = ap (λ b. cond b o (owner n)) (eq-eqb n n refl)

owner_else : (owner : ℕ → Option ℕ) (n : ℕ) (o : Option ℕ) (m : ℕ) → m ≢ n → with_owner owner n o m ≡ owner m
owner_else owner n o m ne = ap (λ b. cond b o (owner m)) (ne_eqb m n ne)

none_at : (n : ℕ) (a c : List Entry) → IsPrefix a c → positions n 0 c ≡ [] → positions n 0 a ≡ []
none_at n a c p e = settled n [] a c [] (a, refl) p refl e

module _ {S M : Type 0} (meaning : S → M) (fits : S → Type 0) (K : Ghosts M) (start : M) (seats : ℕ) where
  abbrev D : Type 0
  D = View M

  abbrev St : Type 0
  St = State (Desk S) D

  abbrev Rule : St → Type 0
  Rule = Turns meaning fits K start seats

  -- what is known of each seat after a split
  seats_split : (K : ℕ → D → Type 0) (vs : List D) (me : ℕ) (w u : D) → K me w → K (length vs) u → ((j : ℕ) (d : D) → j ≢ me → get_elem? vs j ≡ some d → K j d)
      → (j : ℕ) (d : D) → get_elem? (set vs me w ++ u ∷ []) j ≡ some d → K j d
  seats_split K vs me w u mine new others j d e = ⊎_elim
      (λ (old : get_elem? (set vs me w) j ≡ some d). ⊎_elim (λ (t : (j ≡ me) × (w ≡ d)). subst (λ (x : ℕ × D). K x.0 x.1) (λ i. (sym t.0 i, t.1 i)) mine)
      (λ (t : (j ≢ me) × (get_elem? vs j ≡ some d)). others j d t.0 t.1) (at_set vs me j w d old))
      (λ (t : (j ≡ length (set vs me w)) × (u ≡ d)). subst (λ (x : ℕ × D). K x.0 x.1) (λ i. (sym (t.0 ∙ length-set vs me w) i, t.1 i)) new)
      (at_snoc (set vs me w) u d j e)

  -- the holder is where it was, in a list of more seats in which the seat me has changed, but not its place
  held_on : (vs : List D) (me holder : ℕ) (v w u : D) → get_elem? vs me ≡ some v → w.live ≡ v.live → w.counts ≡ v.counts → w.inside ≡ v.inside
      → ((x : D) × (get_elem? vs holder ≡ some x) × (x.live ≡ true) × (x.counts ≡ true) × (x.inside ≡ true))
      → (x : D) × (get_elem? (set vs me w ++ u ∷ []) holder ≡ some x) × (x.live ≡ true) × (x.counts ≡ true) × (x.inside ≡ true)
  held_on vs me holder v w u at live counts inside h = dite (ℕ_discrete holder me)
      (λ e. let vv : h.0 ≡ v = some-injective h.0 v (sym h.1 ∙ (ap (get_elem? vs) e ∙ at)) in
      (w, at_longer (set vs me w) (u ∷ []) holder w (subst (λ k. get_elem? (set vs me w) k ≡ some w) (sym e) (set_here vs me w (at_below vs me v at))), live ∙ (ap (λ (d : D). d.live) (sym vv) ∙ h.2), counts ∙ (ap (λ (d : D). d.counts) (sym vv) ∙ h.3), inside ∙ (ap (λ (d : D). d.inside) (sym vv) ∙ h.4)))
      (λ ne. (h.0, at_longer (set vs me w) (u ∷ []) holder h.0 (set_else vs me holder w ne ∙ h.1), h.2, h.3, h.4))

  pub splits_off : (id : ℕ) (v : D) (calls : ℕ) → v.live ≡ true → v.counts ≡ true → v.number ≡ 0 → v.splits + 1 < v.seats → calls ≤ v.left → Splits Rule id v (split_left v calls) (split_right v calls)
  splits_off id v calls live counts zeroth room few s r at =
      let k = r.each_pass id v at live counts in
      let z = r.each_seat id v at live in
      let w : D = split_left v calls in
      let u : D = split_right v calls in
      let n : ℕ = v.splits + 1 in
      let is : v.splits ≡ r.splits = k.first zeroth in
      let seated : v.seats ≡ seats = z.seated in
      let owner' : ℕ → Option ℕ = with_owner r.owner n (Some (length s.views)) in
      let below : (m : ℕ) → m ≤ r.splits → owner' m ≡ r.owner m = λ m le. owner_else r.owner n (Some (length s.views)) m (λ e. absurd (omega arith)) in
      let gone_still : (front : List Entry) (g : Gone) → IsGone r.log front r.owner r.splits g → IsGone r.log front owner' n g = λ front g q. record { whole = q.whole; shown = q.shown; nobody = below g.number q.below ∙ q.nobody; below = (let b = q.below in omega arith) } in
      let none_yet : positions n 0 r.log ≡ [] = r.unused n (omega arith) in
      record {
        log = r.log;
        taken = r.taken;
        holder = r.holder;
        owner = owner';
        splits = n;
        now = r.now;
        wide = r.wide;
        wakes = r.wakes;
        deep = r.deep;
        leads = r.leads;
        binary = r.binary;
        word = r.word;
        free = r.free;
        held_by = λ b. held_on s.views id r.holder v w u at refl refl refl (r.held_by b);
        bounded = (let a = total_split (λ (d : D). d.left) s.views id v w u at (omega arith) in let b = r.bounded in omega arith);
        shares = (let a = total_split (λ (d : D). d.share) s.views id v w u at (omega arith) in let b = r.shares in omega arith);
        pool = r.pool;
        ids = λ n. (let c = r.ids n in let a = total_split (λ (d : D). times n d.holds) s.views id v w u at (omega arith) in omega arith);
        unused = λ m above. r.unused m (omega arith);
        few = (let f = room in omega arith);
        each_seat = seats_split (λ j d. d.live ≡ true → Sees K start seats r.log d) s.views id w u (λ l. record { started = z.started; seated = z.seated; begins = z.begins; looks = z.looks; met = z.met }) (λ l. record { started = z.started; seated = z.seated; begins = z.begins; looks = tt; met = tt }) (λ j d other there. r.each_seat j d there);
        each_pass = seats_split (λ j d. d.live ≡ true → d.counts ≡ true → Knows r.log r.taken r.holder owner' n j d) s.views id w u
            (λ l c. record { own = k.own; seen = k.seen; owned = below v.number k.numbered ∙ k.owned; numbered = (let b = k.numbered in omega arith); first = λ e. refl; gone = each_map (IsGone r.log v.front r.owner r.splits) (IsGone r.log v.front owner' n) (gone_still v.front) v.taken k.gone; held = k.held })
            (λ l c. record { own = none_yet; seen = none_at n v.front r.log z.begins none_yet; owned = owner_here r.owner n (Some (length s.views)); numbered = omega arith; first = λ e. absurd (omega arith); gone = tt; held = λ h. absurd (let g : false ≡ true = h in cc) })
            (λ j d other there l c. let o = r.each_pass j d there l c in record {
              own = o.own;
              seen = o.seen;
              owned = below d.number o.numbered ∙ o.owned;
              numbered = (let b = o.numbered in omega arith);
              first = λ e. absurd (other (some_is j id (sym o.owned ∙ (ap r.owner (e ∙ sym zeroth) ∙ k.owned))));
              gone = each_map (IsGone r.log d.front r.owner r.splits) (IsGone r.log d.front owner' n) (gone_still d.front) d.taken o.gone;
              held = o.held;
            });
      }

  pub notes_off : (id : ℕ) (v : D) (calls share : ℕ) (ident : Option ℕ) → v.live ≡ true → calls ≤ v.left → share ≤ v.share → Has v.holds ident → Splits Rule id v (note_left v calls share ident) (note_right v calls share ident)
  notes_off id v calls share ident live few part has_it s r at =
      let z = r.each_seat id v at live in
      let w : D = note_left v calls share ident in
      let u : D = note_right v calls share ident in record {
        log = r.log;
        taken = r.taken;
        holder = r.holder;
        owner = r.owner;
        splits = r.splits;
        now = r.now;
        wide = r.wide;
        wakes = r.wakes;
        deep = r.deep;
        leads = r.leads;
        binary = r.binary;
        word = r.word;
        free = r.free;
        held_by = λ b. held_on s.views id r.holder v w u at refl refl refl (r.held_by b);
        bounded = (let a = total_split (λ (d : D). d.left) s.views id v w u at (omega arith) in let b = r.bounded in omega arith);
        shares = (let a = total_split (λ (d : D). d.share) s.views id v w u at (omega arith) in let b = r.shares in omega arith);
        pool = r.pool;
        ids = λ n. (let c = r.ids n in let a = total_split (λ (d : D). times n d.holds) s.views id v w u at (let l = times_less n v.holds ident has_it in let o = times_only n ident in omega arith) in omega arith);
        unused = r.unused;
        few = r.few;
        each_seat = seats_split (λ j d. d.live ≡ true → Sees K start seats r.log d) s.views id w u (λ l. record { started = z.started; seated = z.seated; begins = z.begins; looks = z.looks; met = z.met }) (λ l. record { started = z.started; seated = z.seated; begins = z.begins; looks = tt; met = tt }) (λ j d other there. r.each_seat j d there);
        each_pass = seats_split (λ j d. d.live ≡ true → d.counts ≡ true → Knows r.log r.taken r.holder r.owner r.splits j d) s.views id w u
            (λ l c. let k = r.each_pass id v at l c in record { own = k.own; seen = k.seen; owned = k.owned; numbered = k.numbered; first = k.first; gone = k.gone; held = k.held })
            (λ l c. absurd (let g : false ≡ true = c in cc))
            (λ j d other there. r.each_pass j d there);
      }

  -- what is known of each seat after a join
  seats_join : (K : ℕ → D → Type 0) (vs : List D) (me other : ℕ) (w u : D) → K me w → K other u → ((j : ℕ) (d : D) → j ≢ me → j ≢ other → get_elem? vs j ≡ some d → K j d)
      → (j : ℕ) (d : D) → get_elem? (set (set vs me w) other u) j ≡ some d → K j d
  seats_join K vs me other w u mine spent others j d e = ⊎_elim (λ (t : (j ≡ other) × (u ≡ d)). subst (λ (x : ℕ × D). K x.0 x.1) (λ i. (sym t.0 i, t.1 i)) spent)
      (λ (t : (j ≢ other) × (get_elem? (set vs me w) j ≡ some d)). ⊎_elim (λ (q : (j ≡ me) × (w ≡ d)). subst (λ (x : ℕ × D). K x.0 x.1) (λ i. (sym q.0 i, q.1 i)) mine)
      (λ (q : (j ≢ me) × (get_elem? vs j ≡ some d)). others j d q.0 t.0 q.1) (at_set vs me j w d t.1)) (at_set (set vs me w) other j u d e)

  taken_cases : (P : List Gone → Type 0) (v w : D) → (w.counts ≡ true → P (v.taken ++ (w.taken ++ gone_of w.number w.mine ∷ []))) → (w.counts ≡ false → P v.taken) → P (taken_in v w)
  taken_cases P v w f g = by w.counts refl
    where
      by : (b : Bool) → w.counts ≡ b → P (taken_in v w)
      by true e = subst (λ c. P (cond c (v.taken ++ (w.taken ++ gone_of w.number w.mine ∷ [])) v.taken)) (sym e) (f e)
      by false e = subst (λ c. P (cond c (v.taken ++ (w.taken ++ gone_of w.number w.mine ∷ [])) v.taken)) (sym e) (g e)

  abbrev owner_in : D → (ℕ → Option ℕ) → ℕ → Option ℕ
  owner_in w owner = if w.counts then with_owner owner w.number None else owner

  owner_cases : (P : (ℕ → Option ℕ) → Type 0) (w : D) (owner : ℕ → Option ℕ) → (w.counts ≡ true → P (with_owner owner w.number None)) → (w.counts ≡ false → P owner) → P (owner_in w owner)
  owner_cases P w owner f g = by w.counts refl
    where
      by : (b : Bool) → w.counts ≡ b → P (owner_in w owner)
      by true e = subst (λ c. P (if c then with_owner owner w.number None else owner)) (sym e) (f e)
      by false e = subst (λ c. P (if c then with_owner owner w.number None else owner)) (sym e) (g e)

  pub joins : (any : M) (id : ℕ) (v : D) (other : ℕ) (w : D) → v.live ≡ true → v.inside ≡ false → w.live ≡ true → w.inside ≡ false → (w.counts ≡ true → v.counts ≡ true)
      → Joins Rule id v other w (both_of v w) (spent_view any)
  joins any id v other w live out live' out' both_count s r at apart there' =
      let b : D = both_of v w in
      let u : D = spent_view any in
      let there : get_elem? s.views other ≡ some w = sym (set_else s.views id other b apart) ∙ there' in
      let z = r.each_seat id v at live in
      let y = r.each_seat other w there live' in
      let t = longer_begins v.front w.front r.log z.begins y.begins in
      let owner' : ℕ → Option ℕ = owner_in w r.owner in
      let still_none : (m : ℕ) → r.owner m ≡ None → owner' m ≡ None = λ m e. owner_cases (λ o. o m ≡ None) w r.owner
      (λ c. dite (ℕ_discrete m w.number) (λ same. ap (with_owner r.owner w.number None) same ∙ owner_here r.owner w.number None) (λ ne. owner_else r.owner w.number None m ne ∙ e)) (λ c. e) in
      let still_some : (m j : ℕ) → j ≢ other → r.owner m ≡ Some j → owner' m ≡ Some j = λ m j ne e. owner_cases (λ o. o m ≡ Some j) w r.owner
      (λ c. owner_else r.owner w.number None m (λ same. ne (some_is j other (sym e ∙ (ap r.owner same ∙ (r.each_pass other w there live' c).owned)))) ∙ e) (λ c. e) in
      let gone_still : (front front' : List Entry) → IsPrefix front front' → IsPrefix front' r.log → (g : Gone) → IsGone r.log front r.owner r.splits g → IsGone r.log front' owner' r.splits g =
      λ front front' p q g is. record { whole = is.whole; shown = settled g.number front front' r.log g.mine p q is.shown is.whole; nobody = still_none g.number is.nobody; below = is.below } in
      let not_holder : (j : ℕ) (d : D) → get_elem? s.views j ≡ some d → d.inside ≡ false → r.taken ≡ 1 → r.holder ≢ j = λ j d here outside taken same. let h = r.held_by taken in
      let dd : h.0 ≡ d = some-injective h.0 d (sym h.1 ∙ (ap (get_elem? s.views) same ∙ here)) in absurd (let g : true ≡ false = sym h.4 ∙ (ap (λ (x : D). x.inside) dd ∙ outside) in cc) in
      record {
        log = r.log;
        taken = r.taken;
        holder = r.holder;
        owner = owner';
        splits = r.splits;
        now = r.now;
        wide = r.wide;
        wakes = r.wakes;
        deep = r.deep;
        leads = r.leads;
        binary = r.binary;
        word = r.word;
        free = r.free;
        held_by = λ taken. let h = r.held_by taken in (h.0, set_else (set s.views id b) other r.holder u (not_holder other w there out' taken) ∙ (set_else s.views id r.holder b (not_holder id v at out taken) ∙ h.1), h.2, h.3, h.4);
        bounded = (let a = total_join (λ (d : D). d.left) s.views id other v w b u at there' (omega arith) in let c = r.bounded in omega arith);
        shares = (let a = total_join (λ (d : D). d.share) s.views id other v w b u at there' (omega arith) in let c = r.shares in omega arith);
        pool = r.pool;
        ids = λ n. (let t = times-append n v.holds w.holds in let c = r.ids n in let a = total_join (λ (d : D). times n d.holds) s.views id other v w b u at there' (omega arith) in omega arith);
        unused = r.unused;
        few = r.few;
        each_seat = seats_join (λ j d. d.live ≡ true → Sees K start seats r.log d) s.views id other b u (λ l. record { started = z.started; seated = z.seated; begins = t.2; looks = looks_on K v.start v.number v.front b.front t.0 v.looks z.looks; met = (t.0, (t.1, tt)) }) (λ l. absurd (let g : false ≡ true = l in cc)) (λ j d ne ne' here. r.each_seat j d here);
        each_pass = seats_join (λ j d. d.live ≡ true → d.counts ≡ true → Knows r.log r.taken r.holder owner' r.splits j d) s.views id other b u
            (λ l c. let k = r.each_pass id v at live c in record {
              own = k.own;
              seen = settled v.number v.front b.front r.log v.mine t.0 t.2 k.seen k.own;
              owned = still_some v.number id (λ e. apart (sym e)) k.owned;
              numbered = k.numbered;
              first = k.first;
              gone = taken_cases (Each (IsGone r.log b.front owner' r.splits)) v w
                  (λ cw. let kw = r.each_pass other w there live' cw in each_append _ v.taken (w.taken ++ gone_of w.number w.mine ∷ []) (each_map (IsGone r.log v.front r.owner r.splits) _ (gone_still v.front b.front t.0 t.2) v.taken k.gone)
                  (each_append _ w.taken (gone_of w.number w.mine ∷ []) (each_map (IsGone r.log w.front r.owner r.splits) _ (gone_still w.front b.front t.1 t.2) w.taken kw.gone) (
                    record {
                      whole = kw.own;
                      shown = settled w.number w.front b.front r.log w.mine t.1 t.2 kw.seen kw.own;
                      nobody = owner_cases (λ o. o w.number ≡ None) w r.owner (λ yes. owner_here r.owner w.number None) (λ no. absurd (let g : true ≡ false = sym cw ∙ no in cc));
                      below = kw.numbered;
                    },
                    tt,
                  )))
                  (λ note. each_map (IsGone r.log v.front r.owner r.splits) _ (gone_still v.front b.front t.0 t.2) v.taken k.gone);
              held = λ h. absurd (let g : false ≡ true = sym out ∙ h in cc);
            })
            (λ l c. absurd (let g : false ≡ true = l in cc))
            (λ j d ne ne' here l c. let o = r.each_pass j d here l c in record {
              own = o.own;
              seen = o.seen;
              owned = still_some d.number j ne' o.owned;
              numbered = o.numbered;
              first = o.first;
              gone = each_map (IsGone r.log d.front r.owner r.splits) (IsGone r.log d.front owner' r.splits) (gone_still d.front d.front (prefix_self d.front) (r.each_seat j d here l).begins) d.taken o.gone;
              held = o.held;
            });
      }

  gone_among : (log front : List Entry) (owner : ℕ → Option ℕ) (splits n : ℕ) (gs : List Gone) → Each (IsGone log front owner splits) gs → IsIn n gs → (owner n ≡ None) × (positions n 0 log ≡ positions n 0 front)
  gone_among log front owner splits n [] e i = absurd i
  gone_among log front owner splits n (g ∷ gs) e i = ⊎_elim
      (λ (same : g.number ≡ n). subst (λ m. (owner m ≡ None) × (positions m 0 log ≡ positions m 0 front)) same (e.0.nobody, e.0.whole ∙ sym e.0.shown))
      (λ (later : IsIn n gs). gone_among log front owner splits n gs e.1 later) i

  no_more : (front log : List Entry) → IsPrefix front log → ((n : ℕ) → positions n 0 log ≡ positions n 0 front) → log ≡ front
  no_more front log p same = by p.0 p.1
    where
      by : (rest : List Entry) → front ++ rest ≡ log → log ≡ front
      by [] e = sym e ∙ append-nil front
      by (x ∷ xs) e =
          let a : positions x.by.0 0 log ≡ positions x.by.0 0 front ++ positions x.by.0 (0 + length front) (x ∷ xs) = ap (positions x.by.0 0) (sym e) ∙ positions-append x.by.0 0 front (x ∷ xs) in
          let b : positions x.by.0 (0 + length front) (x ∷ xs) ≡ (0 + length front) ∷ positions x.by.0 (0 + length front + 1) xs = ap (λ c. cond c ((0 + length front) ∷ positions x.by.0 (0 + length front + 1) xs) (positions x.by.0 (0 + length front + 1) xs)) (eq-eqb x.by.0 x.by.0 refl) in
          let c : length (positions x.by.0 0 log) ≡ length (positions x.by.0 0 front) + length (positions x.by.0 (0 + length front) (x ∷ xs)) = ap (λ l. length l) a ∙ length-append (positions x.by.0 0 front) (positions x.by.0 (0 + length front) (x ∷ xs)) in
          let d : length (positions x.by.0 (0 + length front) (x ∷ xs)) ≡ suc (length (positions x.by.0 (0 + length front + 1) xs)) = ap (λ l. length l) b in
          let f : length (positions x.by.0 0 log) ≡ length (positions x.by.0 0 front) = ap (λ l. length l) (same x.by.0) in
          absurd (omega arith)

  -- once the first pass has taken in all others, its front is the whole history, and the state is at home
  pub closes : (id : ℕ) (v : D) → v.live ≡ true → v.counts ≡ true → v.inside ≡ false → v.number ≡ 0 → ((n : ℕ) → 0 < n → n ≤ v.splits → IsIn n v.taken) → (s : St) → Rule s → get_elem? s.views id ≡ some v
      → (x : S) × (get_elem? s.homes 0 ≡ some (some (Home x))) × IsNow K v v.front (meaning x) × fits x
  closes id v live counts out zeroth all s r at =
      let k = r.each_pass id v at live counts in
      let z = r.each_seat id v at live in
      let is : v.splits ≡ r.splits = k.first zeroth in
      let known : (n : ℕ) → 0 < n → n ≤ r.splits → (r.owner n ≡ None) × (positions n 0 r.log ≡ positions n 0 v.front) = λ n some le. gone_among r.log v.front r.owner r.splits n v.taken k.gone (all n some (omega arith)) in
      let zero_known : positions 0 0 r.log ≡ positions 0 0 v.front = subst (λ n. positions n 0 r.log ≡ positions n 0 v.front) zeroth (k.own ∙ sym k.seen) in
      let whole : r.log ≡ v.front = no_more v.front r.log z.begins (λ n. dite (ℕ_discrete n 0) (λ e. subst (λ m. positions m 0 r.log ≡ positions m 0 v.front) (sym e) zero_known)
      (λ ne. dite (dec_le n r.splits) (λ le. (known n (omega arith) le).1) (λ above. let u = r.unused n (omega arith) in u ∙ sym (none_at n v.front r.log z.begins u)))) in
      let free : r.taken ≡ 0 = dite (ℕ_discrete r.taken 0) (λ e. e) (λ ne.
      let h = r.held_by (let b = r.binary in omega arith) in
      let kh = r.each_pass r.holder h.0 h.1 h.2 h.3 in
      dite (ℕ_discrete h.0.number 0)
      (λ e. let same : r.holder ≡ id = some_is r.holder id (sym kh.owned ∙ (ap r.owner (e ∙ sym zeroth) ∙ k.owned)) in
      let hv : h.0 ≡ v = some-injective h.0 v (sym h.1 ∙ (ap (get_elem? s.views) same ∙ at)) in
      absurd (let g : true ≡ false = sym h.4 ∙ (ap (λ (d : D). d.inside) hv ∙ out) in cc))
      (λ other. absurd (let g : None ≡ Some r.holder = sym (known h.0.number (omega arith) kh.numbered).0 ∙ kh.owned in cc))) in
      let x = r.free free in
      (x.0, x.1, subst (λ m. IsNow K v v.front m) (sym x.2) (subst (λ l. IsNow K v l r.now) whole (now_at meaning fits K start seats s r id v live at)), x.3)

  pub ends : (id : ℕ) (v : D) → v.live ≡ true → v.counts ≡ true → v.inside ≡ false → v.number ≡ 0 → ((n : ℕ) → 0 < n → n ≤ v.splits → IsIn n v.taken) → (ws : List ℕ) (xs : List (Desk S)) → Final (Seen Rule id v) ws xs
      → (y : Desk S) → get_elem? xs 0 ≡ some y → (x : S) × (y ≡ Home x) × IsNow K v v.front (meaning x) × fits x
  ends id v live counts out zeroth all ws xs f y at =
      let t = closes id v live counts out zeroth all f.0 f.1.0 f.1.1 in
      let h = f.4 0 (Home t.0) t.1 in
      (t.0, some-injective y (Home t.0) (sym at ∙ h), t.2, t.3)

-- the rule holds before any change
pub opens : {S M : Type 0} (meaning : S → M) (fits : S → Type 0) (K : Ghosts M) (x : S) (seats calls : ℕ) (words : List ℕ) → words ≡ replicate (seats + 1) 0 → 1 ≤ seats → calls + K.debt (meaning x) < 2 ^ 28 → K.pool (meaning x) < 2 ^ 32 → fits x
    → Turns meaning fits K (meaning x) seats (opening words (Home x ∷ []) (opening_view (meaning x) seats calls (K.pool (meaning x))))
opens {S} {M} meaning fits K x seats calls words blank some_seat few small fit = let v : View M = opening_view (meaning x) seats calls (K.pool (meaning x)) in record {
  log = [];
  taken = 0;
  holder = 0;
  owner = λ n. if nat_eq n 0 then Some 0 else None;
  splits = 0;
  now = meaning x;
  wide = (let l = as_long in omega arith);
  deep = refl;
  wakes = λ i far within. (let z = at_zero i (let l = as_long in omega arith) in omega arith);
  leads = refl;
  binary = omega arith;
  word = at_zero 0 (omega arith);
  free = λ z. (x, refl, refl, fit);
  held_by = λ b. absurd (omega arith);
  bounded = omega arith;
  shares = omega arith;
  pool = small;
  ids = λ id. omega arith;
  unused = λ n above. refl;
  few = omega arith;
  each_seat = λ j w there l. let o = only_seat v w j there in subst (λ (t : View M). Sees K (meaning x) seats [] t) o.1 record { started = refl; seated = refl; begins = ([], refl); looks = tt; met = tt };
  each_pass = λ j w there l c. let o = only_seat v w j there in subst (λ (t : ℕ × View M). Knows [] 0 0 (λ n. if nat_eq n 0 then Some 0 else None) 0 t.0 t.1) (λ i. (sym o.0 i, o.1 i))
      record { own = refl; seen = refl; owned = refl; numbered = omega arith; first = λ z. refl; gone = tt; held = λ h. absurd (let g : false ≡ true = h in cc) };
}
  where
    as_long : length words ≡ seats + 1
    as_long = ap (λ l. length l) blank ∙ length-replicate (seats + 1) 0

    at_zero : (i : ℕ) → i < seats + 1 → get_or words i 0 ≡ 0
    at_zero i low = ap (λ l. get_or l i 0) blank ∙ get_or-replicate (seats + 1) i 0 0 low

    only_seat : {A : Type 0} (a b : A) (j : ℕ) → get_elem? (a ∷ []) j ≡ some b → (j ≡ 0) × (a ≡ b)
    only_seat a b zero e = (refl, some-injective a b e)
    only_seat a b (suc j) e = absurd (some-ne-none b (sym e))
