-- Where the calls of a thread stood in the text that was given, and what is known of the bodies in order.
use Rattle.std.proofs.Common.{◌≡◌, ◌⊎◌, inl, inr, ℕ, Bool, true, false, cond, List, [], ◌∷◌, ◌++◌, map, filter, Some, refl, sym, subst, append_assoc}
use Rattle.std.specs.List.{AllByRecursion, flat_map}
use Rattle.std.specs.Str.{bytes_eq}
use Rattle.std.proofs.lemmas.Bool.{cases_Bool}
use Rattle.std.proofs.lemmas.Slice.Eq.{bytes_eq-Decides}
use Rattle.cx_text.specs.declared.form.Caller.TheVariants as callers
use Rattle.cx_text.specs.declared.form.Made.{Made}
use Rattle.cx_text.specs.declared.form.Made.TheVariants as mades
use Rattle.cx_text.specs.declared.form.Sort.TheVariants as sorts
use Rattle.cx_text.specs.Table.{who_may}
use Rattle.cx_text.specs.Words.{Filled, is_name, main_word}
use Rattle.cx_script.specs.declared.declared.Declared.{Declared}
use Rattle.cx_script.specs.declared.declared.Declared.TheVariants as declared
use Rattle.cx_script.specs.Earlier.{made_of}
use Rattle.cx_script.specs.Script.{Declaration, is_thread, makes_of}
pub use Rattle.cx_script.specs.InOrder.{AreOthers, BlocksApart}
use Rattle.cx_script.proofs.Calls.{AreApart}
use Rattle.cx_script.proofs.Sound.{AreFine}
use Rattle.cx_script.proofs.Shape.{Block, block_lines, body_line, main_line, end_line, main_lines, AreCalls}
use Rattle.cx_script.proofs.Blocks.{raw_calls, fine_split, lookup, AllCalls}
use Rattle.cx_script.proofs.Agree.{Agree}
use Rattle.cx_script.proofs.Settled.{none_in_block, agree_more}
use Rattle.cx_script.proofs.Whole.{IsWhole, Parts, raw_main, raw_other, none_of_blocks}
use Rattle.cx_script.proofs.Canon.{blocks_for, block_of}
use Rattle.cx_script.proofs.Again.{IsOwn, apart_all, raw_are_calls}
use Rattle.cx_script.proofs.Written.{IsNamed}
use Rattle.cx_script.proofs.Rooms.{front_of, front_agrees, whole_split}

-- ---- where calls stood

-- these lines stood after some lines and the first of their body, and were fine there
pub record Placed (ls : List Filled) (first : Filled) (cs : List Filled) : Type 0 where
  pub at : List Filled
  pub agree : Agree at ls
  pub fine : AreFine 1 (at ++ first ∷ []) cs

placed_among : (ls bs_rest : List Filled) (name : List ℕ) (bs : List Block) (x : List Filled) → Agree x ls → AllCalls bs → AreFine 1 x (flat_map block_lines bs ++ bs_rest) → Placed ls (body_line name) (lookup bs name)
placed_among ls rest name [] x agree calls fine = record { at = x; agree = agree; fine = tt }
placed_among ls rest name (b ∷ bs) x agree calls fine =
    let f : AreFine 1 x (block_lines b ++ (flat_map block_lines bs ++ rest)) = subst (λ (t : List Filled). AreFine 1 x t) (append_assoc (block_lines b) (flat_map block_lines bs) rest) fine in
    let two = fine_split 1 x (block_lines b) (flat_map block_lines bs ++ rest) f in
    elim (cases_Bool (bytes_eq b.name name)) [
      | inl e ↦
          let q : b.name ≡ name = (bytes_eq-Decides b.name name).0 e in
          let inner = fine_split 1 (x ++ body_line b.name ∷ []) b.calls (end_line ∷ []) two.0.1 in
          rw e (record { at = x; agree = agree; fine = subst (λ n. AreFine 1 (x ++ body_line n ∷ []) b.calls) q inner.0 })
      | inr e ↦ rw e (placed_among ls rest name bs (x ++ block_lines b) (agree_more x (block_lines b) ls agree (none_in_block b calls.0)) calls.1 two.1)
    ]

placed_body : (ls : List Filled) (w : IsWhole ls) (p : Parts ls) (name : List ℕ) → bytes_eq main_word name ≡ false → Placed ls (body_line name) (raw_calls ls name)
placed_body ls w p name other =
    let two = whole_split ls w p in
    subst (λ (cs : List Filled). Placed ls (body_line name) cs) (sym (raw_other ls p name other))
    (placed_among ls (main_lines p.shape.mains) name p.shape.blocks (front_of p) (front_agrees ls p) p.shape.calls two.1)

-- main's body, to its end
pub placed_main : (ls : List Filled) (w : IsWhole ls) (p : Parts ls) → Placed ls main_line (raw_calls ls main_word ++ end_line ∷ [])
placed_main ls w p =
    let bs : List Filled = flat_map block_lines p.shape.blocks in
    let two = whole_split ls w p in
    let mains = fine_split 1 (front_of p) bs (main_lines p.shape.mains) two.1 in
    subst (λ (cs : List Filled). Placed ls main_line (cs ++ end_line ∷ [])) (sym (raw_main ls p))
    (record { at = front_of p ++ bs; agree = agree_more (front_of p) bs ls (front_agrees ls p) (none_of_blocks p.shape.blocks p.shape.calls); fine = mains.1.1 })

-- ---- the bodies in order

-- a body of a thread that may have one
pub record IsReady (ls : List Filled) (b : Block) : Type 0 where
  pub named : is_name 1 b.name ≡ true
  pub other : bytes_eq main_word b.name ≡ false
  pub made : Made
  pub is : made_of ls b.name ≡ Some made
  pub may : who_may sorts.Bodied made ≡ Some callers.Anyone
  pub calls : AreCalls b.calls
  pub placed : Placed ls (body_line b.name) b.calls

-- a thread is an async, or may have a body
bodied : (name : List ℕ) (what : Declared) → is_thread (record { name = name; what = what }) ≡ true → (makes_of what ≡ mades.Async) ⊎ (who_may sorts.Bodied (makes_of what) ≡ Some callers.Anyone)
bodied name declared.Thread h = inr refl
bodied name declared.JThread h = inr refl
bodied name (declared.Async policy function) h = inl refl
bodied name _ h = absurd cc

more_ready : (ls : List Filled) (m : Made) (b : Block) (bs : List Block) → (m ≡ mades.Async) ⊎ (who_may sorts.Bodied m ≡ Some callers.Anyone) → (who_may sorts.Bodied m ≡ Some callers.Anyone → IsReady ls b)
    → AllByRecursion (IsReady ls) bs → AllByRecursion (IsReady ls) (block_of m b ++ bs)
more_ready ls mades.Async b bs e here later = later
more_ready ls _ b bs (inl e) here later = absurd cc
more_ready ls _ b bs (inr e) here later = (here e, later)

pub all_ready : (ls : List Filled) (w : IsWhole ls) (p : Parts ls) (ds : List Declaration) → AllByRecursion (IsOwn ls) ds → AllByRecursion IsNamed ds → AllByRecursion (λ (d : Declaration). is_thread d ≡ true) ds
    → AllByRecursion (IsReady ls) (blocks_for ls ds)
all_ready ls w p [] own named threads = tt
all_ready ls w p (d ∷ ds) own named threads =
    more_ready ls (makes_of d.what) (record { name = d.name; calls = raw_calls ls d.name }) (blocks_for ls ds) (bodied d.name d.what threads.0)
    (λ may. record { named = named.0; other = own.0.other; made = makes_of d.what; is = own.0.made; may = may; calls = raw_are_calls ls p d.name; placed = placed_body ls w p d.name own.0.other })
    (all_ready ls w p ds own.1 named.1 threads.1)

pub kept_threads : (ds : List Declaration) → AllByRecursion (λ (d : Declaration). is_thread d ≡ true) (filter is_thread ds)
kept_threads [] = tt
kept_threads (d ∷ ds) = kept (is_thread d) refl (kept_threads ds)
  where
    kept : (b : Bool) → is_thread d ≡ b → AllByRecursion (λ (x : Declaration). is_thread x ≡ true) (filter is_thread ds) → AllByRecursion (λ (x : Declaration). is_thread x ≡ true) (cond b (d ∷ filter is_thread ds) (filter is_thread ds))
    kept true h later = (h, later)
    kept false h later = later

others_of : (ls : List Filled) (n : List ℕ) (ds : List Declaration) → AllByRecursion (λ (d : Declaration). bytes_eq n d.name ≡ false) ds → AreOthers n (blocks_for ls ds)
others_of ls n [] h = tt
others_of ls n (d ∷ ds) h = more (makes_of d.what) (record { name = d.name; calls = raw_calls ls d.name }) (blocks_for ls ds) h.0 (others_of ls n ds h.1)
  where
    more : (m : Made) (b : Block) (bs : List Block) → bytes_eq n b.name ≡ false → AreOthers n bs → AreOthers n (block_of m b ++ bs)
    more mades.Async b bs here later = later
    more _ b bs here later = (here, later)

pub blocks_apart : (ls : List Filled) (ds : List Declaration) → AreApart (map (λ (x : Declaration). x.name) ds) → BlocksApart (blocks_for ls ds)
blocks_apart ls [] h = tt
blocks_apart ls (d ∷ ds) h = more (makes_of d.what) (record { name = d.name; calls = raw_calls ls d.name }) (blocks_for ls ds) (others_of ls d.name ds (apart_all d.name ds h.0)) (blocks_apart ls ds h.2)
  where
    more : (m : Made) (b : Block) (bs : List Block) → AreOthers b.name bs → BlocksApart bs → BlocksApart (block_of m b ++ bs)
    more mades.Async b bs here later = later
    more _ b bs here later = (here, later)
