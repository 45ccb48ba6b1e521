-- What the line of an item says is an item that may stand there.
use Rattle.std.proofs.Common.{◌≡◌, ℕ, suc, ◌<◌, ◌≤◌, ℤ, pos, Bool, true, false, cond, ◌&&◌, List, [], ◌∷◌, length, map, Option, Some, None, refl, sym, ap, subst, ◌∙◌, arith}
use Rattle.std.specs.Prelude.{slice_get, nat_lt, nat_le, is_some}
use Rattle.std.proofs.lemmas.Option.{slice_get-map}
use Rattle.std.specs.Option.{option_map, option_and_then, unwrap_or}
use Rattle.std.specs.Str.{bytes_eq}
use Rattle.std.proofs.lemmas.Bool.{and_parts, true≢false, eq-eqb, lt-ltb, leb-true}
use Rattle.cx_names.specs.declared.Outcome.TheVariants as outcomes
use Rattle.cx_names.specs.declared.Reply.{Reply}
use Rattle.cx_names.specs.declared.Reply.TheVariants as replies
use Rattle.cx_machine.specs.declared.kind.Kind.{Kind}
use Rattle.cx_machine.specs.declared.kind.Kind.TheVariants as kinds
use Rattle.cx_machine.specs.declared.kind.Op.{Op}
use Rattle.cx_machine.specs.declared.kind.Op.TheVariants as ops
use Rattle.cx_machine.specs.declared.kind.Entry.{Entry}
use Rattle.cx_machine.specs.declared.kind.Look.{Look}
use Rattle.cx_machine.specs.Words.{small_of, is_small, when}
use Rattle.cx_scene.specs.Scene.{Scene, kind_of}
use Rattle.cx_scene.specs.declared.declared.Object.{Object}
use Rattle.cx_scene.specs.declared.declared.Thread.{Thread}
use Rattle.cx_text.specs.declared.item.ItemForm.{ItemForm}
use Rattle.cx_text.specs.declared.item.ItemForm.TheVariants as forms
use Rattle.cx_text.specs.declared.form.Field.TheVariants as fields
use Rattle.cx_text.specs.declared.form.Sort.{Sort}
use Rattle.cx_text.specs.declared.form.Sort.TheVariants as sorts
use Rattle.cx_text.specs.Items.{item_fields}
use Rattle.cx_text.specs.Words.{Value}
use Rattle.cx_text.proofs.Fields.{FitFields}
use Rattle.cx_items.specs.declared.item.Item.{Item}
use Rattle.cx_items.specs.declared.item.Item.TheVariants as recorded
use Rattle.cx_history.specs.IsRecord.{is_change, is_look, is_item, can_start, can_launch}
use Rattle.cx_index.specs.Places.{place_of}
use Rattle.cx_script.specs.Earlier.{number_in, word_in}
use Rattle.cx_record.specs.Roster.{Roster, thread_called, object_called, kind_called, numbers, numbers_called, takes_kind, started, launched, fits_sort}
use Rattle.cx_record.specs.ItemLines.{Line, Part, part_of, word_at, small_at, signed_at, thread_at, object_at, item_said, number_at}
use Rattle.cx_record.specs.RecordFaults.{object_sort, has_words, acts_on, has_its_words, has_wrong_kind, has_outside}
use Rattle.cx_record.proofs.Typed.{IsBetween, IsIndex, number_at_place, index_at_place, name_at_place, small, small_small, small_in, index_in}

-- ---- the kinds that a sort takes

by_mutex : (Q : Kind → Type 0) → ((rec : Bool) (many : ℕ) → Q (kinds.Mutex rec many)) → (k : Kind) → takes_kind sorts.Mutexes k ≡ true → Q k
by_mutex Q h0 (kinds.Mutex rec many) t = h0 rec many
by_mutex Q h0 kinds.Shared t = absurd (true≢false (sym t))
by_mutex Q h0 (kinds.Semaphore count max) t = absurd (true≢false (sym t))
by_mutex Q h0 (kinds.Latch count) t = absurd (true≢false (sym t))
by_mutex Q h0 (kinds.Barrier count) t = absurd (true≢false (sym t))
by_mutex Q h0 kinds.Once t = absurd (true≢false (sym t))
by_mutex Q h0 kinds.Condition t = absurd (true≢false (sym t))
by_mutex Q h0 (kinds.Stop sources) t = absurd (true≢false (sym t))
by_mutex Q h0 kinds.Future t = absurd (true≢false (sym t))

by_lockable : (Q : Kind → Type 0) → ((rec : Bool) (many : ℕ) → Q (kinds.Mutex rec many)) → (Q kinds.Shared) → (k : Kind) → takes_kind sorts.Lockables k ≡ true → Q k
by_lockable Q h0 h1 (kinds.Mutex rec many) t = h0 rec many
by_lockable Q h0 h1 kinds.Shared t = h1
by_lockable Q h0 h1 (kinds.Semaphore count max) t = absurd (true≢false (sym t))
by_lockable Q h0 h1 (kinds.Latch count) t = absurd (true≢false (sym t))
by_lockable Q h0 h1 (kinds.Barrier count) t = absurd (true≢false (sym t))
by_lockable Q h0 h1 kinds.Once t = absurd (true≢false (sym t))
by_lockable Q h0 h1 kinds.Condition t = absurd (true≢false (sym t))
by_lockable Q h0 h1 (kinds.Stop sources) t = absurd (true≢false (sym t))
by_lockable Q h0 h1 kinds.Future t = absurd (true≢false (sym t))

by_shared : (Q : Kind → Type 0) → (Q kinds.Shared) → (k : Kind) → takes_kind sorts.SharedMutexes k ≡ true → Q k
by_shared Q h0 (kinds.Mutex rec many) t = absurd (true≢false (sym t))
by_shared Q h0 kinds.Shared t = h0
by_shared Q h0 (kinds.Semaphore count max) t = absurd (true≢false (sym t))
by_shared Q h0 (kinds.Latch count) t = absurd (true≢false (sym t))
by_shared Q h0 (kinds.Barrier count) t = absurd (true≢false (sym t))
by_shared Q h0 kinds.Once t = absurd (true≢false (sym t))
by_shared Q h0 kinds.Condition t = absurd (true≢false (sym t))
by_shared Q h0 (kinds.Stop sources) t = absurd (true≢false (sym t))
by_shared Q h0 kinds.Future t = absurd (true≢false (sym t))

by_semaphore : (Q : Kind → Type 0) → ((count max : ℕ) → Q (kinds.Semaphore count max)) → (k : Kind) → takes_kind sorts.Semaphores k ≡ true → Q k
by_semaphore Q h0 (kinds.Mutex rec many) t = absurd (true≢false (sym t))
by_semaphore Q h0 kinds.Shared t = absurd (true≢false (sym t))
by_semaphore Q h0 (kinds.Semaphore count max) t = h0 count max
by_semaphore Q h0 (kinds.Latch count) t = absurd (true≢false (sym t))
by_semaphore Q h0 (kinds.Barrier count) t = absurd (true≢false (sym t))
by_semaphore Q h0 kinds.Once t = absurd (true≢false (sym t))
by_semaphore Q h0 kinds.Condition t = absurd (true≢false (sym t))
by_semaphore Q h0 (kinds.Stop sources) t = absurd (true≢false (sym t))
by_semaphore Q h0 kinds.Future t = absurd (true≢false (sym t))

by_latch : (Q : Kind → Type 0) → ((count : ℕ) → Q (kinds.Latch count)) → (k : Kind) → takes_kind sorts.Latches k ≡ true → Q k
by_latch Q h0 (kinds.Mutex rec many) t = absurd (true≢false (sym t))
by_latch Q h0 kinds.Shared t = absurd (true≢false (sym t))
by_latch Q h0 (kinds.Semaphore count max) t = absurd (true≢false (sym t))
by_latch Q h0 (kinds.Latch count) t = h0 count
by_latch Q h0 (kinds.Barrier count) t = absurd (true≢false (sym t))
by_latch Q h0 kinds.Once t = absurd (true≢false (sym t))
by_latch Q h0 kinds.Condition t = absurd (true≢false (sym t))
by_latch Q h0 (kinds.Stop sources) t = absurd (true≢false (sym t))
by_latch Q h0 kinds.Future t = absurd (true≢false (sym t))

by_barrier : (Q : Kind → Type 0) → ((count : ℕ) → Q (kinds.Barrier count)) → (k : Kind) → takes_kind sorts.Barriers k ≡ true → Q k
by_barrier Q h0 (kinds.Mutex rec many) t = absurd (true≢false (sym t))
by_barrier Q h0 kinds.Shared t = absurd (true≢false (sym t))
by_barrier Q h0 (kinds.Semaphore count max) t = absurd (true≢false (sym t))
by_barrier Q h0 (kinds.Latch count) t = absurd (true≢false (sym t))
by_barrier Q h0 (kinds.Barrier count) t = h0 count
by_barrier Q h0 kinds.Once t = absurd (true≢false (sym t))
by_barrier Q h0 kinds.Condition t = absurd (true≢false (sym t))
by_barrier Q h0 (kinds.Stop sources) t = absurd (true≢false (sym t))
by_barrier Q h0 kinds.Future t = absurd (true≢false (sym t))

by_once : (Q : Kind → Type 0) → (Q kinds.Once) → (k : Kind) → takes_kind sorts.Onces k ≡ true → Q k
by_once Q h0 (kinds.Mutex rec many) t = absurd (true≢false (sym t))
by_once Q h0 kinds.Shared t = absurd (true≢false (sym t))
by_once Q h0 (kinds.Semaphore count max) t = absurd (true≢false (sym t))
by_once Q h0 (kinds.Latch count) t = absurd (true≢false (sym t))
by_once Q h0 (kinds.Barrier count) t = absurd (true≢false (sym t))
by_once Q h0 kinds.Once t = h0
by_once Q h0 kinds.Condition t = absurd (true≢false (sym t))
by_once Q h0 (kinds.Stop sources) t = absurd (true≢false (sym t))
by_once Q h0 kinds.Future t = absurd (true≢false (sym t))

by_condition : (Q : Kind → Type 0) → (Q kinds.Condition) → (k : Kind) → takes_kind sorts.Conditions k ≡ true → Q k
by_condition Q h0 (kinds.Mutex rec many) t = absurd (true≢false (sym t))
by_condition Q h0 kinds.Shared t = absurd (true≢false (sym t))
by_condition Q h0 (kinds.Semaphore count max) t = absurd (true≢false (sym t))
by_condition Q h0 (kinds.Latch count) t = absurd (true≢false (sym t))
by_condition Q h0 (kinds.Barrier count) t = absurd (true≢false (sym t))
by_condition Q h0 kinds.Once t = absurd (true≢false (sym t))
by_condition Q h0 kinds.Condition t = h0
by_condition Q h0 (kinds.Stop sources) t = absurd (true≢false (sym t))
by_condition Q h0 kinds.Future t = absurd (true≢false (sym t))

by_stop : (Q : Kind → Type 0) → ((sources : ℕ) → Q (kinds.Stop sources)) → (k : Kind) → takes_kind sorts.StopStates k ≡ true → Q k
by_stop Q h0 (kinds.Mutex rec many) t = absurd (true≢false (sym t))
by_stop Q h0 kinds.Shared t = absurd (true≢false (sym t))
by_stop Q h0 (kinds.Semaphore count max) t = absurd (true≢false (sym t))
by_stop Q h0 (kinds.Latch count) t = absurd (true≢false (sym t))
by_stop Q h0 (kinds.Barrier count) t = absurd (true≢false (sym t))
by_stop Q h0 kinds.Once t = absurd (true≢false (sym t))
by_stop Q h0 kinds.Condition t = absurd (true≢false (sym t))
by_stop Q h0 (kinds.Stop sources) t = h0 sources
by_stop Q h0 kinds.Future t = absurd (true≢false (sym t))

by_future : (Q : Kind → Type 0) → (Q kinds.Future) → (k : Kind) → takes_kind sorts.Settling k ≡ true → Q k
by_future Q h0 (kinds.Mutex rec many) t = absurd (true≢false (sym t))
by_future Q h0 kinds.Shared t = absurd (true≢false (sym t))
by_future Q h0 (kinds.Semaphore count max) t = absurd (true≢false (sym t))
by_future Q h0 (kinds.Latch count) t = absurd (true≢false (sym t))
by_future Q h0 (kinds.Barrier count) t = absurd (true≢false (sym t))
by_future Q h0 kinds.Once t = absurd (true≢false (sym t))
by_future Q h0 kinds.Condition t = absurd (true≢false (sym t))
by_future Q h0 (kinds.Stop sources) t = absurd (true≢false (sym t))
by_future Q h0 kinds.Future t = h0

-- ---- one line

abbrev pub line : ItemForm → List Value → Line
line f vs = record { form = f; values = vs }

-- a line that has its words, and no name or number outside its field
pub record IsFine (r : Roster) (own : List ℕ) (f : ItemForm) (vs : List Value) : Type 0 where
  pub filled : FitFields 1 own (item_fields f) vs
  pub words : has_its_words r (line f vs) ≡ true
  pub names : has_wrong_kind r (line f vs) ≡ false
  pub inside : has_outside r (line f vs) ≡ false

-- ---- names

below_by : (m i : ℕ) (b : Bool) (o : Option ℕ) → cond b (Some 0) (option_map suc o) ≡ Some i → ((j : ℕ) → o ≡ Some j → j < m) → i < suc m
below_by m i true o e h = let z : 0 ≡ i = cc in omega arith
below_by m i false None e h = absurd cc
below_by m i false (Some j) e h = let z : i ≡ suc j = cc in let u = h j refl in omega arith

place_below : (ns : List (List ℕ)) (w : List ℕ) (i : ℕ) → place_of ns w ≡ Some i → i < length ns
place_below [] w i e = absurd cc
place_below (n ∷ ns) w i e = below_by (length ns) i (bytes_eq n w) (place_of ns w) e (λ j k. place_below ns w j k)

-- the kinds are those of the objects
pub record IsRosterOf (s : Scene) (r : Roster) : Type 0 where
  pub kinds_are : r.kinds ≡ map kind_of s.objects
  pub threads_are : r.threads ≡ s.threads
  pub count : length r.names.threads ≡ length s.threads
  pub some_thread : 0 < length s.threads

-- an item that may stand in thread t's list, if there is one
abbrev pub ItemFits : Scene → ℕ → Option Item → Type 0
ItemFits s t None = Unit {0}
ItemFits s t (Some x) = is_item s t x ≡ true

module _ (s : Scene) (r : Roster) (same : IsRosterOf s r) (t : ℕ) (own : List ℕ) (vs : List Value) where
  w0 : List ℕ
  w0 = word_in (slice_get vs 0)

  both : {a b : Bool} → a ≡ true → b ≡ true → (a && b) ≡ true
  both p q = rw (p, q) refl

  abbrev Q : Op → ℤ → ℤ → Reply → Kind → Type 0
  Q op a b reply k = kind_called r (word_in (slice_get vs 0)) ≡ Some k → is_change (length s.threads) k op a b reply ≡ true

  abbrev R : Op → ℤ → ℤ → Reply → Kind → Type 0
  R op a b reply k = kind_called r (word_in (slice_get vs 0)) ≡ Some k → is_look k op a b reply ≡ true

  in_range : (f : ItemForm) → IsFine r own f vs → (i low high : ℕ) → slice_get (item_fields f) i ≡ Some (fields.Number low high) → nat_le high 4294967295 ≡ true
      → (nat_le low (small (number_in (slice_get vs i))) ≡ true) × (nat_le (small (number_in (slice_get vs i))) high ≡ true)
  in_range f x i low high e h = small_in (number_in (slice_get vs i)) low high h (number_at_place own (numbers_called r (word_at (line f vs) 0)) (item_fields f) vs x.filled x.inside i low high e)

  tiny : (i : ℕ) → is_small (pos (small (number_in (slice_get vs i)))) ≡ true
  tiny i = small_small (number_in (slice_get vs i))

  an_exception : (o : Option ℕ) → is_some o ≡ true → is_some (option_map outcomes.Exception o) ≡ true
  an_exception None h = h
  an_exception (Some e) h = refl

  index_below : (f : ItemForm) → IsFine r own f vs → (i : ℕ) (rec : Bool) (many : ℕ) → slice_get (item_fields f) i ≡ Some fields.Index → kind_called r (word_in (slice_get vs 0)) ≡ Some (kinds.Mutex rec many)
      → nat_lt (small (number_in (slice_get vs i))) many ≡ true
  index_below f x i rec many e k =
      let at : IsIndex (number_in (slice_get vs i)) (numbers_called r (word_in (slice_get vs 0))) = index_at_place own (numbers_called r (word_at (line f vs) 0)) (item_fields f) vs x.filled x.inside i e in
      index_in (number_in (slice_get vs i)) many (subst (λ (z : ℤ). IsIndex (number_in (slice_get vs i)) z) (ap numbers k) at)

  below : (w : List ℕ) (o : Option ℕ) → thread_called r w ≡ o → nat_lt (unwrap_or o 0) (length s.threads) ≡ true
  below w None e = lt-ltb 0 (length s.threads) same.some_thread
  below w (Some u) e = lt-ltb u (length s.threads) (let under = place_below r.names.threads w u e in let many = same.count in omega arith)

  thread_below : (w : List ℕ) → nat_lt (unwrap_or (thread_called r w) 0) (length s.threads) ≡ true
  thread_below w = below w (thread_called r w) refl

  -- ---- controls

  can_be_started : (w : List ℕ) → fits_sort r w sorts.OfThread ≡ true → (nat_lt 0 (unwrap_or (thread_called r w) 0) && can_start (slice_get s.threads (unwrap_or (thread_called r w) 0))) ≡ true
  can_be_started w h = subst (λ (ts : List Thread). (nat_lt 0 (unwrap_or (thread_called r w) 0) && can_start (slice_get ts (unwrap_or (thread_called r w) 0))) ≡ true) same.threads_are (here (thread_called r w) h)
    where
      here : (o : Option ℕ) → started r.threads o ≡ true → (nat_lt 0 (unwrap_or o 0) && can_start (slice_get r.threads (unwrap_or o 0))) ≡ true
      here None h = absurd (true≢false (sym h))
      here (Some u) h = h

  can_be_launched : (w : List ℕ) → fits_sort r w sorts.OfAsync ≡ true → can_launch (slice_get s.threads (unwrap_or (thread_called r w) 0)) ≡ true
  can_be_launched w h = subst (λ (ts : List Thread). can_launch (slice_get ts (unwrap_or (thread_called r w) 0)) ≡ true) same.threads_are (here (thread_called r w) h)
    where
      here : (o : Option ℕ) → launched r.threads o ≡ true → can_launch (slice_get r.threads (unwrap_or o 0)) ≡ true
      here None h = absurd (true≢false (sym h))
      here (Some u) h = h

  -- ---- acts

  -- the object of an act
  record HasObject (sort : Sort) : Type 0 where
    pub o : ℕ
    pub d : Object
    pub is : object_called r (word_in (slice_get vs 0)) ≡ Some o
    pub at : slice_get s.objects o ≡ Some d
    pub kind : kind_called r (word_in (slice_get vs 0)) ≡ Some (kind_of d)
    pub takes : takes_kind sort (kind_of d) ≡ true

  mapped : (sort : Sort) (o : ℕ) (k : Kind) (d : Option Object) → slice_get s.objects o ≡ d → option_map kind_of d ≡ Some k → object_called r (word_in (slice_get vs 0)) ≡ Some o → kind_called r (word_in (slice_get vs 0)) ≡ Some k → takes_kind sort k ≡ true → HasObject sort
  mapped sort o k None e f is kind takes = absurd cc
  mapped sort o k (Some d) e f is kind takes =
      let q : k ≡ kind_of d = cc in
      record { o = o; d = d; is = is; at = e; kind = subst (λ (x : Kind). kind_called r (word_in (slice_get vs 0)) ≡ Some x) q kind; takes = subst (λ (x : Kind). takes_kind sort x ≡ true) q takes }

  kinded : (sort : Sort) (o : ℕ) (k : Option Kind) → object_called r (word_in (slice_get vs 0)) ≡ Some o → kind_called r (word_in (slice_get vs 0)) ≡ k → has_words sort k ≡ true → HasObject sort
  kinded sort o None is kind h = absurd (true≢false (sym h))
  kinded sort o (Some k) is kind h =
      let at : slice_get r.kinds o ≡ Some k = sym (ap (λ (x : Option ℕ). option_and_then (slice_get r.kinds) x) is) ∙ kind in
      let on : option_map kind_of (slice_get s.objects o) ≡ Some k = sym (slice_get-map kind_of s.objects o) ∙ sym (ap (λ (ks : List Kind). slice_get ks o) same.kinds_are) ∙ at in
      mapped sort o k (slice_get s.objects o) refl on is kind h

  acting : (so : Option Sort) (sort : Sort) (k : Option Kind) (o : Option ℕ) (n : ℕ) → so ≡ Some sort → o ≡ Some n → acts_on so k o ≡ true → has_words sort k ≡ true
  acting None sort k o n e f h = absurd cc
  acting (Some q) sort k None n e f h = absurd cc
  acting (Some q) sort k (Some m) n e f h = let p : q ≡ sort = cc in subst (λ (x : Sort). has_words x k ≡ true) p h

  found : (f : ItemForm) (sort : Sort) → IsFine r own f vs → object_sort (item_fields f) ≡ Some sort → (o : Option ℕ) → object_called r (word_in (slice_get vs 0)) ≡ o → is_some o ≡ true → HasObject sort
  found f sort x e None is h = absurd (true≢false (sym h))
  found f sort x e (Some o) is h = kinded sort o (kind_called r (word_in (slice_get vs 0))) is refl (acting (object_sort (item_fields f)) sort (kind_called r (word_in (slice_get vs 0))) (object_called r (word_in (slice_get vs 0))) o e is x.words)

  object_of : (f : ItemForm) (sort : Sort) → IsFine r own f vs → object_sort (item_fields f) ≡ Some sort → slice_get (item_fields f) 0 ≡ Some (fields.Name sort) → ((w : List ℕ) → fits_sort r w sort ≡ is_some (object_called r w)) → HasObject sort
  object_of f sort x e e0 fits = found f sort x e (object_called r (word_in (slice_get vs 0))) refl (sym (fits (word_in (slice_get vs 0))) ∙ name_at_place own (fits_sort r) (item_fields f) vs x.filled x.names 0 sort e0)

  position : (f : ItemForm) → IsFine r own f vs → slice_get (item_fields f) 1 ≡ Some (fields.Number 0 268435455) → nat_lt (small (number_in (slice_get vs 1))) 268435456 ≡ true
  position f x e1 = let p = (in_range f x 1 0 268435455 e1 refl).1 in lt-ltb (small (number_in (slice_get vs 1))) 268435456 (let q = leb-true (small (number_in (slice_get vs 1))) 268435455 p in omega arith)

  change_item : (o p : ℕ) (e : Entry) (d : Object) → slice_get s.objects o ≡ Some d → e.by.0 ≡ t → nat_lt p 268435456 ≡ true → is_change (length s.threads) (kind_of d) e.op e.a e.b e.reply ≡ true → is_item s t (recorded.Change (record { 0 = o }) p e) ≡ true
  change_item o p e d at by few h = rw (eq-eqb e.by.0 t by, few, at, h) refl

  look_item : (o : ℕ) (l : Look) (d : Object) → slice_get s.objects o ≡ Some d → l.by.0 ≡ t → nat_lt l.at 268435456 ≡ true → is_look (kind_of d) l.op l.a l.b l.reply ≡ true → is_item s t (recorded.Look (record { 0 = o }) l) ≡ true
  look_item o l d at by few h = rw (eq-eqb l.by.0 t by, few, at, h) refl

  changed : (f : ItemForm) (sort : Sort) → IsFine r own f vs → object_sort (item_fields f) ≡ Some sort → slice_get (item_fields f) 0 ≡ Some (fields.Name sort) → slice_get (item_fields f) 1 ≡ Some (fields.Number 0 268435455)
      → ((w : List ℕ) → fits_sort r w sort ≡ is_some (object_called r w)) → (op : Op) (a b : ℤ) (reply : Reply) → ((k : Kind) → takes_kind sort k ≡ true → Q op a b reply k)
      → is_item s t (recorded.Change (record { 0 = unwrap_or (object_called r (word_in (slice_get vs 0))) 0 }) (small (number_in (slice_get vs 1))) (record { by = record { 0 = t }; op = op; a = a; b = b; reply = reply })) ≡ true
  changed f sort x e e0 e1 fits op a b reply h =
      let g = object_of f sort x e e0 fits in
      subst (λ (n : Option ℕ). is_item s t (recorded.Change (record { 0 = unwrap_or n 0 }) (small (number_in (slice_get vs 1))) (record { by = record { 0 = t }; op = op; a = a; b = b; reply = reply })) ≡ true) (sym g.is)
      (change_item g.o (small (number_in (slice_get vs 1))) (record { by = record { 0 = t }; op = op; a = a; b = b; reply = reply }) g.d g.at refl (position f x e1) (h (kind_of g.d) g.takes g.kind))

  looked : (f : ItemForm) (sort : Sort) → IsFine r own f vs → object_sort (item_fields f) ≡ Some sort → slice_get (item_fields f) 0 ≡ Some (fields.Name sort) → slice_get (item_fields f) 1 ≡ Some (fields.Number 0 268435455)
      → ((w : List ℕ) → fits_sort r w sort ≡ is_some (object_called r w)) → (op : Op) (a b : ℤ) (reply : Reply) → ((k : Kind) → takes_kind sort k ≡ true → R op a b reply k)
      → is_item s t (recorded.Look (record { 0 = unwrap_or (object_called r (word_in (slice_get vs 0))) 0 }) (record { by = record { 0 = t }; op = op; a = a; b = b; reply = reply; at = small (number_in (slice_get vs 1)) })) ≡ true
  looked f sort x e e0 e1 fits op a b reply h =
      let g = object_of f sort x e e0 fits in
      subst (λ (n : Option ℕ). is_item s t (recorded.Look (record { 0 = unwrap_or n 0 }) (record { by = record { 0 = t }; op = op; a = a; b = b; reply = reply; at = small (number_in (slice_get vs 1)) })) ≡ true) (sym g.is)
      (look_item g.o (record { by = record { 0 = t }; op = op; a = a; b = b; reply = reply; at = small (number_in (slice_get vs 1)) }) g.d g.at refl (position f x e1) (h (kind_of g.d) g.takes g.kind))

  -- ---- every form

  pub item_fits : (f : ItemForm) → IsFine r own f vs → ItemFits s t (item_said r t (line f vs))
  item_fits forms.ChangeLockLock x = changed forms.ChangeLockLock sorts.Lockables x refl refl refl (λ w. refl) ops.Lock (pos 0) (pos 0) replies.Ok (by_lockable (Q ops.Lock (pos 0) (pos 0) replies.Ok) (λ rec many e. refl) (λ e. refl))
  item_fits forms.ChangeLockTryLockTrue x = changed forms.ChangeLockTryLockTrue sorts.Lockables x refl refl refl (λ w. refl) ops.TryLock (pos 0) (pos 0) replies.True (by_lockable (Q ops.TryLock (pos 0) (pos 0) replies.True) (λ rec many e. refl) (λ e. refl))
  item_fits forms.ChangeLockUnlock x = changed forms.ChangeLockUnlock sorts.Lockables x refl refl refl (λ w. refl) ops.Unlock (pos 0) (pos 0) replies.Ok (by_lockable (Q ops.Unlock (pos 0) (pos 0) replies.Ok) (λ rec many e. refl) (λ e. refl))
  item_fits forms.ChangeNumbersSetIndexSigned x = changed forms.ChangeNumbersSetIndexSigned sorts.Mutexes x refl refl refl (λ w. refl) ops.Set (pos (small_at (line forms.ChangeNumbersSetIndexSigned vs) 3)) (signed_at (line forms.ChangeNumbersSetIndexSigned vs) 4) replies.Ok (by_mutex (Q ops.Set (pos (small_at (line forms.ChangeNumbersSetIndexSigned vs) 3)) (signed_at (line forms.ChangeNumbersSetIndexSigned vs) 4) replies.Ok) (λ rec many e. both (index_below forms.ChangeNumbersSetIndexSigned x 3 rec many refl e) refl))
  item_fits forms.ChangeNumbersAddIndexSignedSigned x = changed forms.ChangeNumbersAddIndexSignedSigned sorts.Mutexes x refl refl refl (λ w. refl) ops.Add (pos (small_at (line forms.ChangeNumbersAddIndexSignedSigned vs) 3)) (signed_at (line forms.ChangeNumbersAddIndexSignedSigned vs) 4) (replies.Number (signed_at (line forms.ChangeNumbersAddIndexSignedSigned vs) 5)) (by_mutex (Q ops.Add (pos (small_at (line forms.ChangeNumbersAddIndexSignedSigned vs) 3)) (signed_at (line forms.ChangeNumbersAddIndexSignedSigned vs) 4) (replies.Number (signed_at (line forms.ChangeNumbersAddIndexSignedSigned vs) 5))) (λ rec many e. both (index_below forms.ChangeNumbersAddIndexSignedSigned x 3 rec many refl e) refl))
  item_fits forms.ChangeSharedLockShared x = changed forms.ChangeSharedLockShared sorts.SharedMutexes x refl refl refl (λ w. refl) ops.LockShared (pos 0) (pos 0) replies.Ok (by_shared (Q ops.LockShared (pos 0) (pos 0) replies.Ok) (λ e. refl))
  item_fits forms.ChangeSharedTryLockSharedTrue x = changed forms.ChangeSharedTryLockSharedTrue sorts.SharedMutexes x refl refl refl (λ w. refl) ops.TryLockShared (pos 0) (pos 0) replies.True (by_shared (Q ops.TryLockShared (pos 0) (pos 0) replies.True) (λ e. refl))
  item_fits forms.ChangeSharedUnlockShared x = changed forms.ChangeSharedUnlockShared sorts.SharedMutexes x refl refl refl (λ w. refl) ops.UnlockShared (pos 0) (pos 0) replies.Ok (by_shared (Q ops.UnlockShared (pos 0) (pos 0) replies.Ok) (λ e. refl))
  item_fits forms.ChangeSemaphoreReleaseNumber x = changed forms.ChangeSemaphoreReleaseNumber sorts.Semaphores x refl refl refl (λ w. refl) ops.Release (pos (small_at (line forms.ChangeSemaphoreReleaseNumber vs) 3)) (pos 0) replies.Ok (by_semaphore (Q ops.Release (pos (small_at (line forms.ChangeSemaphoreReleaseNumber vs) 3)) (pos 0) replies.Ok) (λ count max e. both (both (both (in_range forms.ChangeSemaphoreReleaseNumber x 3 0 65535 refl refl).0 (in_range forms.ChangeSemaphoreReleaseNumber x 3 0 65535 refl refl).1) refl) refl))
  item_fits forms.ChangeSemaphoreAcquire x = changed forms.ChangeSemaphoreAcquire sorts.Semaphores x refl refl refl (λ w. refl) ops.Acquire (pos 0) (pos 0) replies.Ok (by_semaphore (Q ops.Acquire (pos 0) (pos 0) replies.Ok) (λ count max e. refl))
  item_fits forms.ChangeSemaphoreTryAcquireTrue x = changed forms.ChangeSemaphoreTryAcquireTrue sorts.Semaphores x refl refl refl (λ w. refl) ops.TryAcquire (pos 0) (pos 0) replies.True (by_semaphore (Q ops.TryAcquire (pos 0) (pos 0) replies.True) (λ count max e. refl))
  item_fits forms.ChangeLatchCountDownNumber x = changed forms.ChangeLatchCountDownNumber sorts.Latches x refl refl refl (λ w. refl) ops.CountDown (pos (small_at (line forms.ChangeLatchCountDownNumber vs) 3)) (pos 0) replies.Ok (by_latch (Q ops.CountDown (pos (small_at (line forms.ChangeLatchCountDownNumber vs) 3)) (pos 0) replies.Ok) (λ count e. both (both (both (in_range forms.ChangeLatchCountDownNumber x 3 0 65535 refl refl).0 (in_range forms.ChangeLatchCountDownNumber x 3 0 65535 refl refl).1) refl) refl))
  item_fits forms.ChangeBarrierArriveNumberNumber x = changed forms.ChangeBarrierArriveNumberNumber sorts.Barriers x refl refl refl (λ w. refl) ops.Arrive (pos (small_at (line forms.ChangeBarrierArriveNumberNumber vs) 3)) (pos 0) (replies.Number (pos (small_at (line forms.ChangeBarrierArriveNumberNumber vs) 4))) (by_barrier (Q ops.Arrive (pos (small_at (line forms.ChangeBarrierArriveNumberNumber vs) 3)) (pos 0) (replies.Number (pos (small_at (line forms.ChangeBarrierArriveNumberNumber vs) 4)))) (λ count e. both (both (both (in_range forms.ChangeBarrierArriveNumberNumber x 3 1 4096 refl refl).0 (in_range forms.ChangeBarrierArriveNumberNumber x 3 1 4096 refl refl).1) refl) (tiny 4)))
  item_fits forms.ChangeBarrierDropNumber x = changed forms.ChangeBarrierDropNumber sorts.Barriers x refl refl refl (λ w. refl) ops.Drop (pos 0) (pos 0) (replies.Number (pos (small_at (line forms.ChangeBarrierDropNumber vs) 3))) (by_barrier (Q ops.Drop (pos 0) (pos 0) (replies.Number (pos (small_at (line forms.ChangeBarrierDropNumber vs) 3)))) (λ count e. both refl (tiny 3)))
  item_fits forms.ChangeBarrierComplete x = changed forms.ChangeBarrierComplete sorts.Barriers x refl refl refl (λ w. refl) ops.Complete (pos 0) (pos 0) replies.Ok (by_barrier (Q ops.Complete (pos 0) (pos 0) replies.Ok) (λ count e. refl))
  item_fits forms.ChangeOnceBegin x = changed forms.ChangeOnceBegin sorts.Onces x refl refl refl (λ w. refl) ops.Begin (pos 0) (pos 0) replies.Ok (by_once (Q ops.Begin (pos 0) (pos 0) replies.Ok) (λ e. refl))
  item_fits forms.ChangeOnceFinish x = changed forms.ChangeOnceFinish sorts.Onces x refl refl refl (λ w. refl) ops.Finish (pos 0) (pos 0) replies.Ok (by_once (Q ops.Finish (pos 0) (pos 0) replies.Ok) (λ e. refl))
  item_fits forms.ChangeOnceFailNumber x = changed forms.ChangeOnceFailNumber sorts.Onces x refl refl refl (λ w. refl) ops.Fail (pos (small_at (line forms.ChangeOnceFailNumber vs) 3)) (pos 0) replies.Ok (by_once (Q ops.Fail (pos (small_at (line forms.ChangeOnceFailNumber vs) 3)) (pos 0) replies.Ok) (λ e. both (both (tiny 3) refl) refl))
  item_fits forms.ChangeConditionEnter x = changed forms.ChangeConditionEnter sorts.Conditions x refl refl refl (λ w. refl) ops.Enter (pos 0) (pos 0) replies.Ok (by_condition (Q ops.Enter (pos 0) (pos 0) replies.Ok) (λ e. refl))
  item_fits forms.ChangeConditionNotifyOneNone x = changed forms.ChangeConditionNotifyOneNone sorts.Conditions x refl refl refl (λ w. refl) ops.NotifyOne (pos 0) (pos 0) replies.Nobody (by_condition (Q ops.NotifyOne (pos 0) (pos 0) replies.Nobody) (λ e. refl))
  item_fits forms.ChangeConditionNotifyOneAnyThread x = changed forms.ChangeConditionNotifyOneAnyThread sorts.Conditions x refl refl refl (λ w. refl) ops.NotifyOne (pos 0) (pos 0) (replies.Thread (thread_at r (line forms.ChangeConditionNotifyOneAnyThread vs) 3)) (by_condition (Q ops.NotifyOne (pos 0) (pos 0) (replies.Thread (thread_at r (line forms.ChangeConditionNotifyOneAnyThread vs) 3))) (λ e. both refl (thread_below (word_in (slice_get vs 3)))))
  item_fits forms.ChangeConditionNotifyAllNumber x = changed forms.ChangeConditionNotifyAllNumber sorts.Conditions x refl refl refl (λ w. refl) ops.NotifyAll (pos 0) (pos 0) (replies.Number (pos (small_at (line forms.ChangeConditionNotifyAllNumber vs) 3))) (by_condition (Q ops.NotifyAll (pos 0) (pos 0) (replies.Number (pos (small_at (line forms.ChangeConditionNotifyAllNumber vs) 3)))) (λ e. both refl (tiny 3)))
  item_fits forms.ChangeConditionUnblock x = changed forms.ChangeConditionUnblock sorts.Conditions x refl refl refl (λ w. refl) ops.Unblock (pos 0) (pos 0) replies.Ok (by_condition (Q ops.Unblock (pos 0) (pos 0) replies.Ok) (λ e. refl))
  item_fits forms.ChangeConditionWithdraw x = changed forms.ChangeConditionWithdraw sorts.Conditions x refl refl refl (λ w. refl) ops.Withdraw (pos 0) (pos 0) replies.Ok (by_condition (Q ops.Withdraw (pos 0) (pos 0) replies.Ok) (λ e. refl))
  item_fits forms.ChangeStopRequest x = changed forms.ChangeStopRequest sorts.StopStates x refl refl refl (λ w. refl) ops.Request (pos 0) (pos 0) replies.Ok (by_stop (Q ops.Request (pos 0) (pos 0) replies.Ok) (λ sources e. refl))
  item_fits forms.ChangeStopAnother x = changed forms.ChangeStopAnother sorts.StopStates x refl refl refl (λ w. refl) ops.Another (pos 0) (pos 0) replies.Ok (by_stop (Q ops.Another (pos 0) (pos 0) replies.Ok) (λ sources e. refl))
  item_fits forms.ChangeStopDrop x = changed forms.ChangeStopDrop sorts.StopStates x refl refl refl (λ w. refl) ops.Drop (pos 0) (pos 0) replies.Ok (by_stop (Q ops.Drop (pos 0) (pos 0) replies.Ok) (λ sources e. refl))
  item_fits forms.ChangeStopRegisterNumber x = changed forms.ChangeStopRegisterNumber sorts.StopStates x refl refl refl (λ w. refl) ops.Register (pos (small_at (line forms.ChangeStopRegisterNumber vs) 3)) (pos 0) replies.Ok (by_stop (Q ops.Register (pos (small_at (line forms.ChangeStopRegisterNumber vs) 3)) (pos 0) replies.Ok) (λ sources e. both (both (tiny 3) refl) refl))
  item_fits forms.ChangeStopRegisterNowNumber x = changed forms.ChangeStopRegisterNowNumber sorts.StopStates x refl refl refl (λ w. refl) ops.RegisterNow (pos (small_at (line forms.ChangeStopRegisterNowNumber vs) 3)) (pos 0) replies.Ok (by_stop (Q ops.RegisterNow (pos (small_at (line forms.ChangeStopRegisterNowNumber vs) 3)) (pos 0) replies.Ok) (λ sources e. both (both (tiny 3) refl) refl))
  item_fits forms.ChangeStopBeginNumber x = changed forms.ChangeStopBeginNumber sorts.StopStates x refl refl refl (λ w. refl) ops.Begin (pos (small_at (line forms.ChangeStopBeginNumber vs) 3)) (pos 0) replies.Ok (by_stop (Q ops.Begin (pos (small_at (line forms.ChangeStopBeginNumber vs) 3)) (pos 0) replies.Ok) (λ sources e. both (both (tiny 3) refl) refl))
  item_fits forms.ChangeStopFinishNumber x = changed forms.ChangeStopFinishNumber sorts.StopStates x refl refl refl (λ w. refl) ops.Finish (pos (small_at (line forms.ChangeStopFinishNumber vs) 3)) (pos 0) replies.Ok (by_stop (Q ops.Finish (pos (small_at (line forms.ChangeStopFinishNumber vs) 3)) (pos 0) replies.Ok) (λ sources e. both (both (tiny 3) refl) refl))
  item_fits forms.ChangeStopDeregisterNumberRemoved x = changed forms.ChangeStopDeregisterNumberRemoved sorts.StopStates x refl refl refl (λ w. refl) ops.Deregister (pos (small_at (line forms.ChangeStopDeregisterNumberRemoved vs) 3)) (pos 0) replies.Removed (by_stop (Q ops.Deregister (pos (small_at (line forms.ChangeStopDeregisterNumberRemoved vs) 3)) (pos 0) replies.Removed) (λ sources e. both (both (tiny 3) refl) refl))
  item_fits forms.ChangeStopDeregisterNumberRan x = changed forms.ChangeStopDeregisterNumberRan sorts.StopStates x refl refl refl (λ w. refl) ops.Deregister (pos (small_at (line forms.ChangeStopDeregisterNumberRan vs) 3)) (pos 0) replies.Ran (by_stop (Q ops.Deregister (pos (small_at (line forms.ChangeStopDeregisterNumberRan vs) 3)) (pos 0) replies.Ran) (λ sources e. both (both (tiny 3) refl) refl))
  item_fits forms.ChangeStopDeregisterNumberInside x = changed forms.ChangeStopDeregisterNumberInside sorts.StopStates x refl refl refl (λ w. refl) ops.Deregister (pos (small_at (line forms.ChangeStopDeregisterNumberInside vs) 3)) (pos 0) replies.Inside (by_stop (Q ops.Deregister (pos (small_at (line forms.ChangeStopDeregisterNumberInside vs) 3)) (pos 0) replies.Inside) (λ sources e. both (both (tiny 3) refl) refl))
  item_fits forms.ChangeFutureDefer x = changed forms.ChangeFutureDefer sorts.Settling x refl refl refl (λ w. refl) ops.Defer (pos 0) (pos 0) replies.Ok (by_future (Q ops.Defer (pos 0) (pos 0) replies.Ok) (λ e. refl))
  item_fits forms.ChangeFutureRun x = changed forms.ChangeFutureRun sorts.Settling x refl refl refl (λ w. refl) ops.Run (pos 0) (pos 0) replies.Ok (by_future (Q ops.Run (pos 0) (pos 0) replies.Ok) (λ e. refl))
  item_fits forms.ChangeFutureSetValueSigned x = changed forms.ChangeFutureSetValueSigned sorts.Settling x refl refl refl (λ w. refl) ops.Set (pos 0) (signed_at (line forms.ChangeFutureSetValueSigned vs) 4) replies.Ok (by_future (Q ops.Set (pos 0) (signed_at (line forms.ChangeFutureSetValueSigned vs) 4) replies.Ok) (λ e. refl))
  item_fits forms.ChangeFutureSetExceptionNumber x = changed forms.ChangeFutureSetExceptionNumber sorts.Settling x refl refl refl (λ w. refl) ops.Set (pos 1) (pos (small_at (line forms.ChangeFutureSetExceptionNumber vs) 4)) replies.Ok (by_future (Q ops.Set (pos 1) (pos (small_at (line forms.ChangeFutureSetExceptionNumber vs) 4)) replies.Ok) (λ e. both (an_exception (small_of (pos (small_at (line forms.ChangeFutureSetExceptionNumber vs) 4))) (tiny 4)) refl))
  item_fits forms.ChangeFutureSetBrokenPromise x = changed forms.ChangeFutureSetBrokenPromise sorts.Settling x refl refl refl (λ w. refl) ops.Set (pos 2) (pos 0) replies.Ok (by_future (Q ops.Set (pos 2) (pos 0) replies.Ok) (λ e. refl))
  item_fits forms.LookLockTryLockFalse x = looked forms.LookLockTryLockFalse sorts.Lockables x refl refl refl (λ w. refl) ops.TryLock (pos 0) (pos 0) replies.False (by_lockable (R ops.TryLock (pos 0) (pos 0) replies.False) (λ rec many e. refl) (λ e. refl))
  item_fits forms.LookNumbersLockMaxLevels x = looked forms.LookNumbersLockMaxLevels sorts.Mutexes x refl refl refl (λ w. refl) ops.Lock (pos 0) (pos 0) replies.MaxLevels (by_mutex (R ops.Lock (pos 0) (pos 0) replies.MaxLevels) (λ rec many e. refl))
  item_fits forms.LookNumbersGetIndexSigned x = looked forms.LookNumbersGetIndexSigned sorts.Mutexes x refl refl refl (λ w. refl) ops.Get (pos (small_at (line forms.LookNumbersGetIndexSigned vs) 3)) (pos 0) (replies.Number (signed_at (line forms.LookNumbersGetIndexSigned vs) 4)) (by_mutex (R ops.Get (pos (small_at (line forms.LookNumbersGetIndexSigned vs) 3)) (pos 0) (replies.Number (signed_at (line forms.LookNumbersGetIndexSigned vs) 4))) (λ rec many e. both (both (index_below forms.LookNumbersGetIndexSigned x 3 rec many refl e) refl) refl))
  item_fits forms.LookNumbersAddIndexSignedOverflow x = looked forms.LookNumbersAddIndexSignedOverflow sorts.Mutexes x refl refl refl (λ w. refl) ops.Add (pos (small_at (line forms.LookNumbersAddIndexSignedOverflow vs) 3)) (signed_at (line forms.LookNumbersAddIndexSignedOverflow vs) 4) replies.Overflow (by_mutex (R ops.Add (pos (small_at (line forms.LookNumbersAddIndexSignedOverflow vs) 3)) (signed_at (line forms.LookNumbersAddIndexSignedOverflow vs) 4) replies.Overflow) (λ rec many e. both (index_below forms.LookNumbersAddIndexSignedOverflow x 3 rec many refl e) refl))
  item_fits forms.LookSharedTryLockSharedFalse x = looked forms.LookSharedTryLockSharedFalse sorts.SharedMutexes x refl refl refl (λ w. refl) ops.TryLockShared (pos 0) (pos 0) replies.False (by_shared (R ops.TryLockShared (pos 0) (pos 0) replies.False) (λ e. refl))
  item_fits forms.LookSemaphoreReleaseNumberOver x = looked forms.LookSemaphoreReleaseNumberOver sorts.Semaphores x refl refl refl (λ w. refl) ops.Release (pos (small_at (line forms.LookSemaphoreReleaseNumberOver vs) 3)) (pos 0) replies.Over (by_semaphore (R ops.Release (pos (small_at (line forms.LookSemaphoreReleaseNumberOver vs) 3)) (pos 0) replies.Over) (λ count max e. both (both (both (in_range forms.LookSemaphoreReleaseNumberOver x 3 0 65535 refl refl).0 (in_range forms.LookSemaphoreReleaseNumberOver x 3 0 65535 refl refl).1) refl) refl))
  item_fits forms.LookSemaphoreTryAcquireFalse x = looked forms.LookSemaphoreTryAcquireFalse sorts.Semaphores x refl refl refl (λ w. refl) ops.TryAcquire (pos 0) (pos 0) replies.False (by_semaphore (R ops.TryAcquire (pos 0) (pos 0) replies.False) (λ count max e. refl))
  item_fits forms.LookLatchWait x = looked forms.LookLatchWait sorts.Latches x refl refl refl (λ w. refl) ops.Wait (pos 0) (pos 0) replies.Ok (by_latch (R ops.Wait (pos 0) (pos 0) replies.Ok) (λ count e. refl))
  item_fits forms.LookLatchTryWaitTrue x = looked forms.LookLatchTryWaitTrue sorts.Latches x refl refl refl (λ w. refl) ops.TryWait (pos 0) (pos 0) replies.True (by_latch (R ops.TryWait (pos 0) (pos 0) replies.True) (λ count e. refl))
  item_fits forms.LookLatchTryWaitFalse x = looked forms.LookLatchTryWaitFalse sorts.Latches x refl refl refl (λ w. refl) ops.TryWait (pos 0) (pos 0) replies.False (by_latch (R ops.TryWait (pos 0) (pos 0) replies.False) (λ count e. refl))
  item_fits forms.LookBarrierArriveNumberOverExpected x = looked forms.LookBarrierArriveNumberOverExpected sorts.Barriers x refl refl refl (λ w. refl) ops.Arrive (pos (small_at (line forms.LookBarrierArriveNumberOverExpected vs) 3)) (pos 0) replies.OverExpected (by_barrier (R ops.Arrive (pos (small_at (line forms.LookBarrierArriveNumberOverExpected vs) 3)) (pos 0) replies.OverExpected) (λ count e. both (both (both (in_range forms.LookBarrierArriveNumberOverExpected x 3 1 4096 refl refl).0 (in_range forms.LookBarrierArriveNumberOverExpected x 3 1 4096 refl refl).1) refl) refl))
  item_fits forms.LookBarrierDropOverExpected x = looked forms.LookBarrierDropOverExpected sorts.Barriers x refl refl refl (λ w. refl) ops.Drop (pos 0) (pos 0) replies.OverExpected (by_barrier (R ops.Drop (pos 0) (pos 0) replies.OverExpected) (λ count e. refl))
  item_fits forms.LookBarrierWaitNumber x = looked forms.LookBarrierWaitNumber sorts.Barriers x refl refl refl (λ w. refl) ops.Wait (pos (small_at (line forms.LookBarrierWaitNumber vs) 3)) (pos 0) replies.Ok (by_barrier (R ops.Wait (pos (small_at (line forms.LookBarrierWaitNumber vs) 3)) (pos 0) replies.Ok) (λ count e. both (both (tiny 3) refl) refl))
  item_fits forms.LookOncePassive x = looked forms.LookOncePassive sorts.Onces x refl refl refl (λ w. refl) ops.Passive (pos 0) (pos 0) replies.Ok (by_once (R ops.Passive (pos 0) (pos 0) replies.Ok) (λ e. refl))
  item_fits forms.LookStopAlready x = looked forms.LookStopAlready sorts.StopStates x refl refl refl (λ w. refl) ops.Already (pos 0) (pos 0) replies.Ok (by_stop (R ops.Already (pos 0) (pos 0) replies.Ok) (λ sources e. refl))
  item_fits forms.LookStopStopRequestedTrue x = looked forms.LookStopStopRequestedTrue sorts.StopStates x refl refl refl (λ w. refl) ops.StopRequested (pos 0) (pos 0) replies.True (by_stop (R ops.StopRequested (pos 0) (pos 0) replies.True) (λ sources e. refl))
  item_fits forms.LookStopStopRequestedFalse x = looked forms.LookStopStopRequestedFalse sorts.StopStates x refl refl refl (λ w. refl) ops.StopRequested (pos 0) (pos 0) replies.False (by_stop (R ops.StopRequested (pos 0) (pos 0) replies.False) (λ sources e. refl))
  item_fits forms.LookStopStopPossibleTrue x = looked forms.LookStopStopPossibleTrue sorts.StopStates x refl refl refl (λ w. refl) ops.StopPossible (pos 0) (pos 0) replies.True (by_stop (R ops.StopPossible (pos 0) (pos 0) replies.True) (λ sources e. refl))
  item_fits forms.LookStopStopPossibleFalse x = looked forms.LookStopStopPossibleFalse sorts.StopStates x refl refl refl (λ w. refl) ops.StopPossible (pos 0) (pos 0) replies.False (by_stop (R ops.StopPossible (pos 0) (pos 0) replies.False) (λ sources e. refl))
  item_fits forms.LookStopNeverNumber x = looked forms.LookStopNeverNumber sorts.StopStates x refl refl refl (λ w. refl) ops.Never (pos (small_at (line forms.LookStopNeverNumber vs) 3)) (pos 0) replies.Ok (by_stop (R ops.Never (pos (small_at (line forms.LookStopNeverNumber vs) 3)) (pos 0) replies.Ok) (λ sources e. both (both (tiny 3) refl) refl))
  item_fits forms.LookStopDrained x = looked forms.LookStopDrained sorts.StopStates x refl refl refl (λ w. refl) ops.Drained (pos 0) (pos 0) replies.Ok (by_stop (R ops.Drained (pos 0) (pos 0) replies.Ok) (λ sources e. refl))
  item_fits forms.LookFutureReadyValueSigned x = looked forms.LookFutureReadyValueSigned sorts.Settling x refl refl refl (λ w. refl) ops.Ready (pos 0) (pos 0) (replies.Outcome (outcomes.Value (signed_at (line forms.LookFutureReadyValueSigned vs) 4))) (by_future (R ops.Ready (pos 0) (pos 0) (replies.Outcome (outcomes.Value (signed_at (line forms.LookFutureReadyValueSigned vs) 4)))) (λ e. refl))
  item_fits forms.LookFutureReadyExceptionNumber x = looked forms.LookFutureReadyExceptionNumber sorts.Settling x refl refl refl (λ w. refl) ops.Ready (pos 0) (pos 0) (replies.Outcome (outcomes.Exception (small_at (line forms.LookFutureReadyExceptionNumber vs) 4))) (by_future (R ops.Ready (pos 0) (pos 0) (replies.Outcome (outcomes.Exception (small_at (line forms.LookFutureReadyExceptionNumber vs) 4)))) (λ e. refl))
  item_fits forms.LookFutureReadyBrokenPromise x = looked forms.LookFutureReadyBrokenPromise sorts.Settling x refl refl refl (λ w. refl) ops.Ready (pos 0) (pos 0) (replies.Outcome outcomes.Broken) (by_future (R ops.Ready (pos 0) (pos 0) (replies.Outcome outcomes.Broken)) (λ e. refl))
  item_fits forms.ControlStartOk x = can_be_started (word_in (slice_get vs 1)) (name_at_place own (fits_sort r) (item_fields forms.ControlStartOk) vs x.filled x.names 1 sorts.OfThread refl)
  item_fits forms.ControlStartNoThread x = can_be_started (word_in (slice_get vs 1)) (name_at_place own (fits_sort r) (item_fields forms.ControlStartNoThread) vs x.filled x.names 1 sorts.OfThread refl)
  item_fits forms.ControlJoin x = can_be_started (word_in (slice_get vs 1)) (name_at_place own (fits_sort r) (item_fields forms.ControlJoin) vs x.filled x.names 1 sorts.OfThread refl)
  item_fits forms.ControlLaunchOk x = can_be_launched (word_in (slice_get vs 1)) (name_at_place own (fits_sort r) (item_fields forms.ControlLaunchOk) vs x.filled x.names 1 sorts.OfAsync refl)
  item_fits forms.ControlLaunchNoThread x = can_be_launched (word_in (slice_get vs 1)) (name_at_place own (fits_sort r) (item_fields forms.ControlLaunchNoThread) vs x.filled x.names 1 sorts.OfAsync refl)
  item_fits forms.ReplyThread x = thread_below (word_in (slice_get vs 0))
  item_fits forms.ReplyOk x = refl
  item_fits forms.ReplyTrue x = refl
  item_fits forms.ReplyFalse x = refl
  item_fits forms.ReplyOver x = refl
  item_fits forms.ReplyOverExpected x = refl
  item_fits forms.ReplyMaxLevels x = refl
  item_fits forms.ReplyOverflow x = refl
  item_fits forms.ReplyMade x = refl
  item_fits forms.ReplyAlready x = refl
  item_fits forms.ReplyQueued x = refl
  item_fits forms.ReplyRan x = refl
  item_fits forms.ReplyNever x = refl
  item_fits forms.ReplyRemoved x = refl
  item_fits forms.ReplyInside x = refl
  item_fits forms.ReplyNotHeld x = refl
  item_fits forms.ReplyReturned x = refl
  item_fits forms.ReplyPassive x = refl
  item_fits forms.ReplyNoToken x = refl
  item_fits forms.ReplySpent x = refl
  item_fits forms.ReplyNoThread x = refl
  item_fits forms.ReplyLaunched x = refl
  item_fits forms.ReplyDeferred x = refl
  item_fits forms.ReplyNone x = refl
  item_fits forms.ReplyNoState x = refl
  item_fits forms.ReplyPromiseAlreadySatisfied x = refl
  item_fits forms.ReplyFutureAlreadyRetrieved x = refl
  item_fits forms.ReplyBrokenPromise x = refl
  item_fits forms.ReplyOperationNotPermitted x = refl
  item_fits forms.ReplyResourceDeadlockWouldOccur x = refl
  item_fits forms.ReplyInvalidArgument x = refl
  item_fits forms.ReplyNumber x = refl
  item_fits forms.ReplyThrewOf x = refl
  item_fits forms.ReplyValueOf x = refl
  item_fits forms.ReplyExceptionOf x = refl
  item_fits forms.RecordOne x = tt
  item_fits forms.Acts x = tt
  item_fits forms.Unstarted x = tt
  item_fits forms.EndOfActs x = tt
  item_fits forms.Done x = tt
  item_fits forms.StuckAt x = tt
