-- What is made of all that was read.
use Rattle.std.proofs.Common.{◌≡◌, ℕ, zero, suc, ◌+◌, ◌<◌, ◌≤◌, Bool, true, false, cond, List, [], ◌∷◌, ◌++◌, length, map, take, drop, get_or, filter, Option, Some, None, refl, sym, ap, subst, ◌∙◌, arith, append_assoc, length-append, nat_eq, drop-cons, add-one}
use Rattle.std.specs.Str.{bytes_eq}
use Rattle.std.proofs.lemmas.Slice.Eq.{bytes_eq-Decides}
use Rattle.cx_scene.specs.declared.call.Call.{Call}
use Rattle.cx_scene.specs.declared.declared.Thread.{Thread}
use Rattle.cx_scene.specs.declared.declared.Object.{Object}
use Rattle.cx_text.specs.declared.form.Form.{Form}
use Rattle.cx_text.specs.declared.form.Form.TheVariants as forms
use Rattle.cx_text.specs.Table.{makes}
use Rattle.cx_text.specs.Words.{Filled}
use Rattle.cx_script.specs.declared.declared.Declared.{Declared}
use Rattle.cx_script.specs.declared.declared.Declared.TheVariants as declared
use Rattle.cx_script.specs.Script.{Script, Names, Declaration, declared_of, declarations_of, place_in, name_at, names_in, is_thread, is_object, is_callback}
use Rattle.cx_scenario.specs.declared.declaration.Declaration.{Declaration as DeclarationOf}
use Rattle.cx_scenario.specs.Views.{values_seen}
use Rattle.cx_scenario.specs.Checks.{any_outside}
use Rattle.cx_text.specs.declared.form.Field.{Field}
use Rattle.cx_text.specs.declared.value.Value.{Value as ValueOf}
use Rattle.cx_text.specs.Words.{main_word}
use Rattle.cx_script.specs.Faults.{numbers_of, mutex_among, is_mutex}
use Rattle.cx_script.specs.Numbered.{numbered}
use Rattle.cx_scene.specs.Scene.{Scene}
use Rattle.cx_scene.specs.declared.declared.Callback.{Callback}
use Rattle.cx_scene.specs.declared.declared.Thread.TheVariants as thread_kinds
use Rattle.cx_scenario.specs.Finished.{all_groups, script_in}
use Rattle.cx_scenario.specs.Whole.{declaration_seen, callbacks_from}
use Rattle.cx_script.specs.Numbered.{threads_made, objects_made, threads_from, objects_from, thread_step, object_step}
use Rattle.cx_scenario.specs.declared.groups.Group.{Group}
use Rattle.cx_scenario.specs.Views.{group_seen, group_name}
use Rattle.cx_scenario.specs.Steps.{GroupOf, GroupsState, State, with_call, called, GoesBy, fault_in, words_fault, said_fault, state_after, end_in, unended_in}
use Rattle.cx_scenario.specs.Finished.{ReadsTo}
use Rattle.cx_scenario.specs.Whole.{ReadsAs}
use Rattle.cx_scenario.specs.Views.{state_of}
use Rattle.cx_scenario.specs.declared.reader.Reader.{Reader}
use Rattle.cx_scenario.proofs.Going.{IsGoing, going_fault, going_on, ends_none, ends_open, ends_well, meaning_ok, meaning_err}
use Rattle.std.specs.Borrow.{Bor}
use Rattle.std.specs.Global.{Vec}
use Rattle.std.specs.Prelude.{Ok, Err}
use Rattle.std.proofs.lemmas.Bool.{eqb-true}
use Rattle.cx_text.specs.declared.fault.FaultKind.{FaultKind}
use Rattle.cx_text.specs.declared.fault.FaultKind.TheVariants as faults
use Rattle.cx_text.specs.declared.fault.Fault.{Fault}
use Rattle.cx_text.specs.Lines.{Line, lines_of}
use Rattle.cx_text.specs.Views.{now_all}
use Rattle.cx_text.specs.Words.{filled_by, line_by}
use Rattle.cx_script.specs.Earlier.{Place, Opening, Declaring, Between, Inside, Over}
use Rattle.cx_script.specs.Faults.{read_line, first_fault}
use Rattle.cx_script.specs.Script.{meaning}
use Rattle.cx_scenario.specs.Finished.{calls_in, AllApart}
use Rattle.cx_scenario.specs.Whole.{one_declared, declaration_as}

undeclared_at : (names : Names) (l : Filled) (f : Form) → makes f ≡ None → declared_of names l f ≡ None
undeclared_at names l forms.Thread h = cc
undeclared_at names l forms.JThread h = cc
undeclared_at names l forms.AsyncReturn h = cc
undeclared_at names l forms.AsyncThrow h = cc
undeclared_at names l forms.Mutex h = cc
undeclared_at names l forms.Recursive h = cc
undeclared_at names l forms.Shared h = cc
undeclared_at names l forms.Semaphore h = cc
undeclared_at names l forms.Latch h = cc
undeclared_at names l forms.Barrier h = cc
undeclared_at names l forms.BarrierRelease h = cc
undeclared_at names l forms.BarrierNotifyOne h = cc
undeclared_at names l forms.BarrierNotifyAll h = cc
undeclared_at names l forms.Once h = cc
undeclared_at names l forms.Condition h = cc
undeclared_at names l forms.Stop h = cc
undeclared_at names l forms.CallbackRelease h = cc
undeclared_at names l forms.CallbackNotifyOne h = cc
undeclared_at names l forms.CallbackNotifyAll h = cc
undeclared_at names l forms.CallbackDeregister h = cc
undeclared_at names l forms.Promise h = cc
undeclared_at names l forms.SharedPromise h = cc
undeclared_at names l forms.TaskReturn h = cc
undeclared_at names l forms.TaskThrow h = cc
undeclared_at names l _ h = refl

pub undeclared : (names : Names) (l : Filled) → makes l.form ≡ None → one_declared names l ≡ []
undeclared names l h = rw (undeclared_at names l l.form h) refl

pub one_is : (names : Names) (l : Filled) (what : Declared) → declared_of names l l.form ≡ Some what → one_declared names l ≡ declaration_as l what ∷ []
one_is names l what h = rw h refl

-- ---- a body taken out

pub taken_value : (gs : List Group) (name : List ℕ) (d : Group) → place_in (map group_name gs) name < length gs → (group_seen (get_or gs (place_in (map group_name gs) name) d)).calls ≡ calls_in (map group_seen gs) name
taken_value [] name d h = absurd (omega arith)
taken_value (g ∷ gs) name d h = at (λ k. taken_value gs name d k) (bytes_eq (group_name g) name) refl
  where
    at : (place_in (map group_name gs) name < length gs → (group_seen (get_or gs (place_in (map group_name gs) name) d)).calls ≡ calls_in (map group_seen gs) name)
        → (b : Bool) → bytes_eq (group_name g) name ≡ b → (group_seen (get_or (g ∷ gs) (place_in (map group_name (g ∷ gs)) name) d)).calls ≡ calls_in (map group_seen (g ∷ gs)) name
    at later true e = rw e refl
    at later false e = let k : suc (place_in (map group_name gs) name) < suc (length gs) = rw e at h in rw e (later (omega arith))

pub taken_none : (gs : List Group) (name : List ℕ) → length gs ≤ place_in (map group_name gs) name → [] ≡ calls_in (map group_seen gs) name
taken_none [] name h = refl
taken_none (g ∷ gs) name h = at (λ k. taken_none gs name k) (bytes_eq (group_name g) name) refl
  where
    at : (length gs ≤ place_in (map group_name gs) name → [] ≡ calls_in (map group_seen gs) name) → (b : Bool) → bytes_eq (group_name g) name ≡ b → [] ≡ calls_in (map group_seen (g ∷ gs)) name
    at later true e = absurd (let k : suc (length gs) ≤ 0 = rw e at h in omega arith)
    at later false e = let k : suc (length gs) ≤ suc (place_in (map group_name gs) name) = rw e at h in rw e (later (omega arith))

pub taken_others : (gs : List Group) (name other : List ℕ) → bytes_eq name other ≡ false
    → calls_in (map group_seen (take (place_in (map group_name gs) name) gs ++ drop (suc (place_in (map group_name gs) name)) gs)) other ≡ calls_in (map group_seen gs) other
taken_others [] name other h = refl
taken_others (g ∷ gs) name other h = at (taken_others gs name other h) (bytes_eq (group_name g) name) refl
  where
    at : calls_in (map group_seen (take (place_in (map group_name gs) name) gs ++ drop (suc (place_in (map group_name gs) name)) gs)) other ≡ calls_in (map group_seen gs) other
        → (b : Bool) → bytes_eq (group_name g) name ≡ b
        → calls_in (map group_seen (take (place_in (map group_name (g ∷ gs)) name) (g ∷ gs) ++ drop (suc (place_in (map group_name (g ∷ gs)) name)) (g ∷ gs))) other ≡ calls_in (map group_seen (g ∷ gs)) other
    at later true e =
        let same : group_name g ≡ name = (bytes_eq-Decides (group_name g) name).0 e in
        let other_one : bytes_eq (group_name g) other ≡ false = ap (λ (n : List ℕ). bytes_eq n other) same ∙ h in
        rw (e, other_one) refl
    at later false e = rw e (ap (λ (t : List Call). cond (bytes_eq (group_name g) other) g.calls.items t) later)

apart_pointwise : (gs hs : List GroupOf) (n : List ℕ) (ns : List (List ℕ)) → ((i : ℕ) → i < length ns → bytes_eq n (name_at ns i) ≡ false)
    → ((other : List ℕ) → bytes_eq n other ≡ false → calls_in hs other ≡ calls_in gs other) → map (calls_in hs) ns ≡ map (calls_in gs) ns
apart_pointwise gs hs n [] h k = refl
apart_pointwise gs hs n (m ∷ ns) h k =
    ap (λ (c : List Call). c ∷ map (calls_in hs) ns) (k m (h 0 (omega arith)))
    ∙ ap (λ (t : List (List Call)). calls_in gs m ∷ t) (apart_pointwise gs hs n ns (λ i lt. h (suc i) (omega arith)) k)

-- one thread further
pub bodies_step : (bodies : List (List Call)) (gs hs : List GroupOf) (n : List ℕ) (ns : List (List ℕ)) (total : List (List Call)) → AllApart (n ∷ ns)
    → ((other : List ℕ) → bytes_eq n other ≡ false → calls_in hs other ≡ calls_in gs other) → bodies ++ map (calls_in gs) (n ∷ ns) ≡ total
    → (bodies ++ calls_in gs n ∷ []) ++ map (calls_in hs) ns ≡ total
bodies_step bodies gs hs n ns total a k h =
    append_assoc bodies (calls_in gs n ∷ []) (map (calls_in hs) ns)
    ∙ ap (λ (t : List (List Call)). bodies ++ calls_in gs n ∷ t) (apart_pointwise gs hs n ns a.0 k)
    ∙ h

-- ---- numbers

objects_length : (t : ℕ) (d : Declared) → length (objects_made t d) ≡ object_step d
objects_length t declared.Thread = refl
objects_length t declared.JThread = refl
objects_length t (declared.Async p f) = refl
objects_length t (declared.Mutex n) = refl
objects_length t declared.Recursive = refl
objects_length t declared.Shared = refl
objects_length t (declared.Semaphore c m) = refl
objects_length t (declared.Latch c) = refl
objects_length t (declared.Barrier c s) = refl
objects_length t declared.Once = refl
objects_length t declared.Condition = refl
objects_length t (declared.Stop h) = refl
objects_length t (declared.Callback s a) = refl
objects_length t (declared.Promise o r) = refl
objects_length t (declared.SharedPromise o r) = refl
objects_length t (declared.Task o r f) = refl

threads_length : (o : ℕ) (d : Declared) → length (threads_made o d) ≡ thread_step d
threads_length o declared.Thread = refl
threads_length o declared.JThread = refl
threads_length o (declared.Async p f) = refl
threads_length o _ = refl

module _ (ts us : List Thread) (os ps : List Object) (d : Declaration) (ds : List Declaration) (h : us ≡ ts ++ threads_made (length os) d.what) (k : ps ≡ os ++ objects_made (length ts) d.what) where
  more_threads : length us ≡ length ts + thread_step d.what
  more_threads = ap (λ (x : List Thread). length x) h ∙ length-append ts (threads_made (length os) d.what) ∙ ap (λ (n : ℕ). length ts + n) (threads_length (length os) d.what)

  more_objects : length ps ≡ length os + object_step d.what
  more_objects = ap (λ (x : List Object). length x) k ∙ length-append os (objects_made (length ts) d.what) ∙ ap (λ (n : ℕ). length os + n) (objects_length (length ts) d.what)

  pub threads_step : (total : List Thread) → ts ++ threads_from (length os) (d ∷ ds) ≡ total → us ++ threads_from (length ps) ds ≡ total
  threads_step total e =
      ap (λ (x : List Thread). x ++ threads_from (length ps) ds) h
      ∙ ap (λ (n : ℕ). (ts ++ threads_made (length os) d.what) ++ threads_from n ds) more_objects
      ∙ append_assoc ts (threads_made (length os) d.what) (threads_from (length os + object_step d.what) ds)
      ∙ e

  pub objects_step : (total : List Object) → os ++ objects_from (length ts) (d ∷ ds) ≡ total → ps ++ objects_from (length us) ds ≡ total
  objects_step total e =
      ap (λ (x : List Object). x ++ objects_from (length us) ds) k
      ∙ ap (λ (n : ℕ). (os ++ objects_made (length ts) d.what) ++ objects_from n ds) more_threads
      ∙ append_assoc os (objects_made (length ts) d.what) (objects_from (length ts + thread_step d.what) ds)
      ∙ e

-- ---- one line, and the end

pub called_some : (g : GroupsState) (o : Option Call) (c : Call) (h : GroupsState) → o ≡ Some c → h ≡ with_call g c → h ≡ called g o
called_some g o c h p q = rw p q

pub fault_by : (s : State) (w : Option FaultKind) (said : Option Filled) (f : Option FaultKind) (t : State) (kind : FaultKind) → GoesBy s w said f t → f ≡ Some kind → w ≡ Some kind
fault_by s w said None t kind h e = cc
fault_by s w said (Some k) t kind h e = h ∙ e

pub on_by : (s : State) (w : Option FaultKind) (said : Option Filled) (f : Option FaultKind) (t : State) → GoesBy s w said f t → f ≡ None → (w ≡ None) × (t ≡ state_after s said)
on_by s w said None t h e = h
on_by s w said (Some k) t h e = cc

module _ (lines : List Line) (n m : ℕ) (line : Line) (left rest : List Line) (s t : State) (fault : Option FaultKind)
    (g : IsGoing lines n left s) (split : left ≡ line ∷ rest) (next : m ≡ n + 1) (goes : GoesBy s (fault_in s (read_line 1 line)) (read_line 1 line).said fault t) where
  there : IsGoing lines n (line ∷ rest) s
  there = subst (λ (x : List Line). IsGoing lines n x s) split g

  pub line_fault_is : (kind : FaultKind) → fault ≡ Some kind → first_fault lines ≡ Some (record { line = m; kind = kind })
  line_fault_is kind e = going_fault lines n line rest s kind there (fault_by s _ (read_line 1 line).said fault t kind goes e) ∙ ap (λ (k : ℕ). Some (record { line = k; kind = kind })) (sym next)

  pub line_taken : fault ≡ None → IsGoing lines m rest t
  line_taken e =
      let p = on_by s (fault_in s (read_line 1 line)) (read_line 1 line).said fault t goes e in
      subst (λ (k : ℕ). IsGoing lines k rest t) (sym next) (subst (λ (x : State). IsGoing lines (n + 1) rest x) (sym p.1) (going_on lines n line rest s there p.0))

above : (n : ℕ) → nat_eq n 0 ≡ false → 0 < n
above zero e = cc
above (suc n) e = omega arith

end_at : (lines : List Line) (n : ℕ) (s : State) → IsGoing lines n [] s → (b : Bool) → nat_eq n 0 ≡ b → (p : Place) → s.place ≡ p → ReadsTo lines (cond b (Some (record { line = n + 1; kind = faults.BadVersion })) (unended_in p n)) s
end_at lines n s g true e p h = ends_none lines n s g (eqb-true n 0 e)
end_at lines n s g false e Opening h = ends_open lines n s g (above n e) (λ q. let z : Opening ≡ Over = sym h ∙ q in cc)
end_at lines n s g false e Declaring h = ends_open lines n s g (above n e) (λ q. let z : Declaring ≡ Over = sym h ∙ q in cc)
end_at lines n s g false e Between h = ends_open lines n s g (above n e) (λ q. let z : Between ≡ Over = sym h ∙ q in cc)
end_at lines n s g false e Inside h = ends_open lines n s g (above n e) (λ q. let z : Inside ≡ Over = sym h ∙ q in cc)
end_at lines n s g false e Over h = ends_well lines n s g (above n e) h

pub all_read : (lines : List Line) (n : ℕ) (left : List Line) (s : State) (fault : Option Fault) → IsGoing lines n left s → left ≡ [] → fault ≡ end_in s.place n → ReadsTo lines fault s
all_read lines n left s fault g none e = subst (λ (f : Option Fault). ReadsTo lines f s) (sym e) (end_at lines n s (subst (λ (x : List Line). IsGoing lines n x s) none g) (nat_eq n 0) refl s.place refl)

-- ---- words

pub dropped_words : (s : State) (ws : List (Bor (List ℕ))) → length ws ≡ 0 → (words_fault s (now_all ws) (filled_by 1 (now_all ws)) ≡ None) × (s ≡ state_after s (filled_by 1 (now_all ws)))
unfolding line_by
dropped_words s [] h = (refl, refl)
dropped_words s (w ∷ ws) h = absurd (omega arith)

some_words : (s : State) (ws : List (List ℕ)) (l : Filled) → filled_by 1 ws ≡ Some l → words_fault s ws (Some l) ≡ said_fault s (Some l)
unfolding line_by
some_words s [] l h = cc
some_words s (w ∷ ws) l h = refl

pub said_goes : (s t : State) (ws : List (List ℕ)) (l : Filled) (f : Option FaultKind) → Some l ≡ filled_by 1 ws → GoesBy s (said_fault s (Some l)) (Some l) f t → GoesBy s (words_fault s ws (filled_by 1 ws)) (filled_by 1 ws) f t
said_goes s t ws l f h g = subst (λ (x : Option Filled). GoesBy s (words_fault s ws x) x f t) h (subst (λ (w : Option FaultKind). GoesBy s w (Some l) f t) (sym (some_words s ws l (sym h))) g)

pub read_as : (limit : ℕ) (text : List ℕ) (lines : List Line) (r : Reader) → lines ≡ lines_of limit text → ReadsTo lines None (state_of r) → ReadsAs limit text (Ok r)
read_as limit text lines r e h = let k : ReadsTo (lines_of limit text) None (state_of r) = subst (λ (x : List Line). ReadsTo x None (state_of r)) e h in (meaning_ok limit text (state_of r) k, k.2)

pub read_bad : (limit : ℕ) (text : List ℕ) (lines : List Line) (s : State) (f : Fault) → lines ≡ lines_of limit text → ReadsTo lines (Some f) s → meaning limit text ≡ Err f
read_bad limit text lines s f e h = meaning_err limit text s f (subst (λ (x : List Line). ReadsTo x (Some f) s) e h)

-- ---- code's values

abbrev pub outside_by : List Filled → List Field → List ValueOf → Bool
outside_by ks fs vs = any_outside (numbers_of ks (mutex_among (is_mutex ks) (values_seen vs))) fs (values_seen vs)

pub outside_by_same : (ks : List Filled) (fs gs : List Field) (vs ws : List ValueOf) → fs ≡ gs → vs ≡ ws → outside_by ks fs vs ≡ outside_by ks gs ws
outside_by_same ks fs gs vs ws q r = ap (λ (x : List Field). outside_by ks x vs) q ∙ ap (λ (x : List ValueOf). outside_by ks gs x) r

module _ (gs hs : List Group) (name : List ℕ) (place : ℕ) (same : hs ≡ gs) (is : place ≡ place_in (map group_name hs) name) where
  there_is : place ≡ place_in (map group_name gs) name
  there_is = is ∙ ap (λ (x : List Group). place_in (map group_name x) name) same

  pub calls_at : (r : Group) → r ≡ get_or gs place r → place < length gs → r.calls.items ≡ calls_in (map group_seen gs) name
  calls_at r e lt = ap (λ (x : Group). x.calls.items) e ∙ ap (λ (i : ℕ). (get_or gs i r).calls.items) there_is ∙ taken_value gs name r (subst (λ (i : ℕ). i < length gs) there_is lt)

  pub others_at : (new : List Group) → new ≡ take place gs ++ drop (suc place) gs → (other : List ℕ) → bytes_eq name other ≡ false → calls_in (map group_seen new) other ≡ calls_in (map group_seen gs) other
  others_at new e other h = ap (λ (x : List Group). calls_in (map group_seen x) other) e ∙ ap (λ (i : ℕ). calls_in (map group_seen (take i gs ++ drop (suc i) gs)) other) there_is ∙ taken_others gs name other h

  pub none_at : length gs ≤ place → [] ≡ calls_in (map group_seen gs) name
  none_at le = taken_none gs name (subst (λ (i : ℕ). length gs ≤ i) there_is le)

abbrev pub items_all : List (Vec ℕ) → List (List ℕ)
items_all ts = map (λ n. n.items) ts

apart_next : (ts : List (Vec ℕ)) (i : ℕ) → AllApart (items_all (drop i ts)) → AllApart (items_all (drop (suc i) ts))
apart_next [] zero h = tt
apart_next [] (suc i) h = tt
apart_next (t ∷ ts) zero h = h.1
apart_next (t ∷ ts) (suc i) h = apart_next ts i h

pub apart_more : (ts : List (Vec ℕ)) (i : ℕ) → AllApart (items_all (drop i ts)) → AllApart (items_all (drop (i + 1) ts))
apart_more ts i h = rw add-one (apart_next ts i h)

pub bodies_more : (ts : List (Vec ℕ)) (i : ℕ) (d : Vec ℕ) (n : List ℕ) (bs : List (List Call)) (gs hs : List Group) (calls : List Call) (total : List (List Call)) → i < length ts → n ≡ (get_or ts i d).items → AllApart (items_all (drop i ts))
    → calls ≡ calls_in (map group_seen gs) n
    → ((other : List ℕ) → bytes_eq n other ≡ false → calls_in (map group_seen hs) other ≡ calls_in (map group_seen gs) other)
    → bs ++ map (calls_in (map group_seen gs)) (items_all (drop i ts)) ≡ total
    → (bs ++ calls ∷ []) ++ map (calls_in (map group_seen hs)) (items_all (drop (i + 1) ts)) ≡ total
bodies_more ts i d n bs gs hs calls total lt is h e k t =
    let split : items_all (drop i ts) ≡ n ∷ items_all (drop (suc i) ts) = ap items_all (drop-cons ts i d lt) ∙ ap (λ (x : List ℕ). x ∷ items_all (drop (suc i) ts)) (sym is) in
    let a : AllApart (n ∷ items_all (drop (suc i) ts)) = subst (λ (x : List (List ℕ)). AllApart x) split h in
    let u : bs ++ map (calls_in (map group_seen gs)) (n ∷ items_all (drop (suc i) ts)) ≡ total = subst (λ (x : List (List ℕ)). bs ++ map (calls_in (map group_seen gs)) x ≡ total) split t in
    rw (add-one, e) (bodies_step bs (map group_seen gs) (map group_seen hs) n (items_all (drop (suc i) ts)) total a k u)

pub whole_script : (s : State) (ds : List Declaration) (bs : List (List Call)) (gs : List GroupOf) (ts : List (List ℕ)) → ds ≡ declarations_of s.names s.kept → bs ≡ map (calls_in gs) ts → gs ≡ all_groups s.groups → ts ≡ s.names.threads
    → ◌≡◌ {A = Script} (record { version = 1; declarations = ds; bodies = bs }) (script_in s)
whole_script s ds bs gs ts p q r t =
    ap (λ (x : List Declaration). record { version = 1; declarations = x; bodies = bs }) p
    ∙ ap (λ (x : List (List Call)). record { version = 1; declarations = declarations_of s.names s.kept; bodies = x }) (q ∙ ap (λ (x : List GroupOf). map (calls_in x) ts) r ∙ ap (λ (x : List (List ℕ)). map (calls_in (all_groups s.groups)) x) t)

pub whole_plan : (ts : List Thread) (os : List Object) (cs : List Callback) (bs : List (List Call)) (ds es : List DeclarationOf) → es ≡ ds
    → ts ≡ thread_kinds.Plain ∷ threads_from 0 (map declaration_seen es) → os ≡ objects_from 1 (map declaration_seen es) → cs ≡ callbacks_from (map declaration_seen es)
    → ◌≡◌ {A = Scene} (record { version = 1; threads = ts; objects = os; callbacks = cs; bodies = bs }) (numbered (record { version = 1; declarations = map declaration_seen ds; bodies = bs }))
whole_plan ts os cs bs ds es e p q r =
    ap (λ (x : List Thread). record { version = 1; threads = x; objects = os; callbacks = cs; bodies = bs }) p
    ∙ ap (λ (x : List Object). record { version = 1; threads = thread_kinds.Plain ∷ threads_from 0 (map declaration_seen es); objects = x; callbacks = cs; bodies = bs }) q
    ∙ ap (λ (x : List Callback). record { version = 1; threads = thread_kinds.Plain ∷ threads_from 0 (map declaration_seen es); objects = objects_from 1 (map declaration_seen es); callbacks = x; bodies = bs }) r
    ∙ ap (λ (x : List DeclarationOf). numbered (record { version = 1; declarations = map declaration_seen x; bodies = bs })) e

pub whole_names : (ts os cs : List (List ℕ)) (bs : List (List Call)) (ds es : List DeclarationOf) → es ≡ ds
    → ts ≡ main_word ∷ map (λ (d : Declaration). d.name) (filter is_thread (map declaration_seen es)) → os ≡ map (λ (d : Declaration). d.name) (filter is_object (map declaration_seen es)) → cs ≡ map (λ (d : Declaration). d.name) (filter is_callback (map declaration_seen es))
    → ◌≡◌ {A = Names} (record { threads = ts; objects = os; callbacks = cs }) (names_in (record { version = 1; declarations = map declaration_seen ds; bodies = bs }))
whole_names ts os cs bs ds es e p q r =
    ap (λ (x : List (List ℕ)). record { threads = x; objects = os; callbacks = cs }) p
    ∙ ap (λ (x : List (List ℕ)). record { threads = main_word ∷ map (λ (d : Declaration). d.name) (filter is_thread (map declaration_seen es)); objects = x; callbacks = cs }) q
    ∙ ap (λ (x : List (List ℕ)). record { threads = main_word ∷ map (λ (d : Declaration). d.name) (filter is_thread (map declaration_seen es)); objects = map (λ (d : Declaration). d.name) (filter is_object (map declaration_seen es)); callbacks = x }) r
    ∙ ap (λ (x : List DeclarationOf). names_in (record { version = 1; declarations = map declaration_seen x; bodies = bs })) e
