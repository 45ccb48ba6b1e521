-- With its bodies in order of their threads, each line of a text is fine after the earlier ones.
use Rattle.std.proofs.Common.{◌≡◌, ℕ, ◌<◌, inl, inr, true, false, ◌||◌, List, [], ◌∷◌, ◌++◌, length, Some, None, refl, sym, ap, subst, ◌∙◌, append_assoc}
use Rattle.std.specs.Prelude.{nat_le}
use Rattle.std.specs.List.{AllByRecursion, list_any, flat_map}
use Rattle.std.proofs.lemmas.Bool.{leb-false, or_parts}
use Rattle.std.proofs.lemmas.List.{append-nil}
use Rattle.cx_text.specs.Table.{makes}
use Rattle.cx_text.specs.Words.{Filled, main_word}
use Rattle.cx_script.specs.Earlier.{ACall, Inside, Over, is_call, made_of, place_after, this_body, this_thread}
use Rattle.cx_script.specs.Faults.{counted}
use Rattle.cx_script.specs.Script.{declarations_of, names_of}
use Rattle.cx_script.proofs.Sound.{IsFine, AreFine}
use Rattle.cx_script.proofs.Shape.{Block, block_lines, body_line, main_line, end_line, main_lines, place_next, AreCalls}
use Rattle.cx_script.proofs.Blocks.{raw_calls, call_part, fine_split, fine_join, thread_in, body_in, thread_in_main, body_in_main}
use Rattle.cx_script.proofs.Agree.{Agree, made_agree}
use Rattle.cx_script.proofs.Settled.{none_declared, none_in_block, agree_more}
use Rattle.cx_script.proofs.Distinct.{limits}
use Rattle.cx_script.proofs.Whole.{IsWhole, parts_of, none_of_blocks}
use Rattle.cx_script.proofs.Canon.{blocks_for, threads_of, canon}
use Rattle.cx_script.proofs.Again.{blocks_calls, raw_are_calls, threads_own, threads_apart_by_name}
use Rattle.cx_script.proofs.Written.{all_named, fine_filled}
use Rattle.cx_script.proofs.Reorder.{clashes, fine_moved}
use Rattle.cx_script.proofs.Rooms.{front_of, front_agrees, whole_split, room_in}
use Rattle.cx_script.proofs.Standing.{IsGap, body_fine, main_fine, end_fine, place_in_body, gap_after, gap_declared, over_at_end, fresh_declared, fresh_more, order_moved, order_other}
use Rattle.cx_script.proofs.Placed.{placed_main, IsReady, all_ready, kept_threads, BlocksApart, AreOthers, blocks_apart}

calls_more : (cs : List Filled) (l : Filled) → AreCalls cs → is_call l ≡ true → AreCalls (cs ++ l ∷ [])
calls_more [] l h c = (c, tt)
calls_more (x ∷ cs) l h c = (h.0, calls_more cs l h.1 c)

here_few : (e : List Filled) (l : Filled) → is_call l ≡ true → IsFine 1 e l → length (this_body e) < 4096
here_few e l call fine =
    let q = (limits 1 e l fine.few).3 in
    let r : (nat_le 4096 (length (this_body e)) || nat_le 65536 (counted is_call e)) ≡ false = rw call at q in
    leb-false 4096 (length (this_body e)) (or_parts _ _ r).0

module _ (ls : List Filled) (w : IsWhole ls) where
  abbrev ordered : List Filled
  ordered = canon ls (parts_of ls w).shape.declarations

  -- the calls of a body, of which `first` is the first line, moved from after y to after x
  module _ (x y rest : List Filled) (first : Filled) (me : List ℕ) (here : Agree x ls) (there : Agree y ls) (none : makes first.form ≡ None)
      (thread : (z before : List Filled) → AreCalls before → this_thread (z ++ first ∷ before) ≡ me)
      (body : (z before : List Filled) → AreCalls before → this_body (z ++ first ∷ before) ≡ before) where
    moved_one : (before after : List Filled) (l : Filled) → AreCalls before → is_call l ≡ true → place_after (x ++ first ∷ before) ≡ Inside → (x ++ first ∷ before) ++ l ∷ after ≡ ordered
        → IsFine 1 (y ++ first ∷ before) l → IsFine 1 (x ++ first ∷ before) l
    moved_one before after l calls call place is fine =
        let e : List Filled = x ++ first ∷ before in
        let f : List Filled = y ++ first ∷ before in
        let a : Agree e ls = agree_more x (first ∷ before) ls here (none, none_declared before calls) in
        let b : Agree f ls = agree_more y (first ∷ before) ls there (none, none_declared before calls) in
        let agree : Agree f e = λ u. b u ∙ sym (a u) in
        let same : this_body f ≡ this_body e = body y before calls ∙ sym (body x before calls) in
        let few : length (this_body e) < 4096 = subst (λ (t : List Filled). length t < 4096) same (here_few f l call fine) in
        fine_moved 1 f e l agree (thread y before calls ∙ sym (thread x before calls)) same place call (room_in ls w e after l is call a few) fine

    moved : (cs before : List Filled) → AreCalls before → AreCalls cs → place_after (x ++ first ∷ before) ≡ Inside → (x ++ first ∷ before) ++ (cs ++ rest) ≡ ordered
        → AreFine 1 (y ++ first ∷ before) cs → AreFine 1 (x ++ first ∷ before) cs
    moved [] before h k place is fine = tt
    moved (l ∷ cs) before h k place is fine =
        let next : (z : List Filled) → (z ++ first ∷ before) ++ l ∷ [] ≡ z ++ first ∷ (before ++ l ∷ []) = λ z. append_assoc z (first ∷ before) (l ∷ []) in
        let one = moved_one before (cs ++ rest) l h k.0 place is fine.0 in
        let place2 : place_after (x ++ first ∷ (before ++ l ∷ [])) ≡ Inside = ap (λ (t : List Filled). place_after t) (sym (next x)) ∙ place_next (x ++ first ∷ before) l ACall (call_part l k.0) in
        let is2 : (x ++ first ∷ (before ++ l ∷ [])) ++ (cs ++ rest) ≡ ordered =
        ap (λ (t : List Filled). t ++ (cs ++ rest)) (sym (next x)) ∙ append_assoc (x ++ first ∷ before) (l ∷ []) (cs ++ rest) ∙ is in
        let later = moved cs (before ++ l ∷ []) (calls_more before l h k.0) k.1 place2 is2 (subst (λ (t : List Filled). AreFine 1 t cs) (next y) fine.1) in
        (one, subst (λ (t : List Filled). AreFine 1 t cs) (sym (next x)) later)

  -- ---- a body, and all bodies

  one_fine : (b : Block) (e rest : List Filled) → IsReady ls b → Agree e ls → IsGap e → list_any (clashes (body_line b.name)) e ≡ false → e ++ (block_lines b ++ rest) ≡ ordered → AreFine 1 e (block_lines b)
  one_fine b e rest r agree gap fresh is =
      let first = body_line b.name in
      let made : made_of e b.name ≡ Some r.made = made_agree e ls agree b.name ∙ r.is in
      let head = body_fine e b.name r.made r.named gap.body made r.may fresh in
      let is2 : (e ++ first ∷ []) ++ (b.calls ++ end_line ∷ rest) ≡ ordered =
      append_assoc e (first ∷ []) (b.calls ++ end_line ∷ rest) ∙ ap (λ (t : List Filled). e ++ first ∷ t) (sym (append_assoc b.calls (end_line ∷ []) rest)) ∙ is in
      let calls = moved e r.placed.at (end_line ∷ rest) first b.name agree r.placed.agree refl (λ z before h. thread_in z before b.name h) (λ z before h. body_in z before b.name h)
      b.calls [] tt r.calls (place_in_body e first [] (inl refl) tt) is2 r.placed.fine in
      let place : place_after (e ++ first ∷ b.calls) ≡ Inside = place_in_body e first b.calls (inl refl) r.calls in
      let last = end_fine (e ++ first ∷ b.calls) place (order_other (e ++ first ∷ b.calls) b.name (thread_in e b.calls b.name r.calls) r.other) in
      let tail : IsFine 1 ((e ++ first ∷ []) ++ b.calls) end_line = subst (λ (t : List Filled). IsFine 1 t end_line) (sym (append_assoc e (first ∷ []) b.calls)) last in
      (head, fine_join 1 (e ++ first ∷ []) b.calls (end_line ∷ []) calls (tail, tt))

  -- no body of these names is given yet
  abbrev AreFresh : List Filled → List Block → Type 0
  AreFresh e bs = AllByRecursion (λ (b : Block). list_any (clashes (body_line b.name)) e ≡ false) bs

  fresh_after : (b : Block) (e : List Filled) (bs : List Block) → AreCalls b.calls → AreOthers b.name bs → AreFresh e bs → AreFresh (e ++ block_lines b) bs
  fresh_after b e [] calls others fresh = tt
  fresh_after b e (c ∷ bs) calls others fresh = (fresh_more c.name e b calls others.0 fresh.0, fresh_after b e bs calls others.1 fresh.1)

  all_fine : (bs : List Block) (e rest : List Filled) → AllByRecursion (IsReady ls) bs → BlocksApart bs → Agree e ls → IsGap e → AreFresh e bs → e ++ (flat_map block_lines bs ++ rest) ≡ ordered
      → AreFine 1 e (flat_map block_lines bs) × IsGap (e ++ flat_map block_lines bs)
  all_fine [] e rest ready apart agree gap fresh is = (tt, subst (λ (t : List Filled). IsGap t) (sym (append-nil e)) gap)
  all_fine (b ∷ bs) e rest ready apart agree gap fresh is =
      let lines = block_lines b in
      let more = flat_map block_lines bs in
      let same : e ++ ((lines ++ more) ++ rest) ≡ e ++ (lines ++ (more ++ rest)) = ap (λ (t : List Filled). e ++ t) (append_assoc lines more rest) in
      let one = one_fine b e (more ++ rest) ready.0 agree gap fresh.0 (sym same ∙ is) in
      let is2 : (e ++ lines) ++ (more ++ rest) ≡ ordered = append_assoc e lines (more ++ rest) ∙ sym same ∙ is in
      let later = all_fine bs (e ++ lines) rest ready.1 apart.1 (agree_more e lines ls agree (none_in_block b ready.0.calls)) (gap_after e b ready.0.calls gap) (fresh_after b e bs ready.0.calls apart.0 fresh.1) is2 in
      (fine_join 1 e lines more one later.0, subst (λ (t : List Filled). IsGap t) (append_assoc e lines more) later.1)

  -- ---- main, and the whole

  main_all : (e : List Filled) → Agree e ls → IsGap e → e ++ main_lines (raw_calls ls main_word) ≡ ordered → AreFine 1 e (main_lines (raw_calls ls main_word))
  main_all e agree gap is =
      let p = parts_of ls w in
      let cs = raw_calls ls main_word in
      let calls = raw_are_calls ls p main_word in
      let from = placed_main ls w p in
      let two = fine_split 1 (from.at ++ main_line ∷ []) cs (end_line ∷ []) from.fine in
      let is2 : (e ++ main_line ∷ []) ++ (cs ++ end_line ∷ []) ≡ ordered = append_assoc e (main_line ∷ []) (cs ++ end_line ∷ []) ∙ is in
      let inner = moved e from.at (end_line ∷ []) main_line main_word agree from.agree refl (λ z before h. thread_in_main z before h) (λ z before h. body_in_main z before h)
      cs [] tt calls (place_in_body e main_line [] (inr refl) tt) is2 two.0 in
      let x : List Filled = e ++ main_line ∷ cs in
      let y : List Filled = from.at ++ main_line ∷ cs in
      let there : IsFine 1 y end_line = subst (λ (t : List Filled). IsFine 1 t end_line) (append_assoc from.at (main_line ∷ []) cs) two.1.0 in
      let a : Agree x ls = agree_more e (main_line ∷ cs) ls agree (refl, none_declared cs calls) in
      let b : Agree y ls = agree_more from.at (main_line ∷ cs) ls from.agree (refl, none_declared cs calls) in
      let order = order_moved x y (λ u. a u ∙ sym (b u)) (thread_in_main e cs calls ∙ sym (thread_in_main from.at cs calls)) (body_in_main e cs calls ∙ sym (body_in_main from.at cs calls)) ∙ there.order in
      let last = end_fine x (place_in_body e main_line cs (inr refl) calls) order in
      let tail : IsFine 1 ((e ++ main_line ∷ []) ++ cs) end_line = subst (λ (t : List Filled). IsFine 1 t end_line) (sym (append_assoc e (main_line ∷ []) cs)) last in
      (main_fine e gap.main, fine_join 1 (e ++ main_line ∷ []) cs (end_line ∷ []) inner (tail, tt))

  all_fresh : (bs : List Block) → AreFresh (front_of (parts_of ls w)) bs
  all_fresh [] = tt
  all_fresh (b ∷ bs) = (fresh_declared b.name (parts_of ls w).shape.declarations (parts_of ls w).shape.are, all_fresh bs)

  -- a text with its bodies in order is fine, and ends after main
  pub ordered_fine : AreFine 1 [] (canon ls (parts_of ls w).shape.declarations) × (place_after (canon ls (parts_of ls w).shape.declarations) ≡ Over)
  ordered_fine =
      let p = parts_of ls w in
      let ds = threads_of ls in
      let bs = blocks_for ls ds in
      let front = front_of p in
      let bodies : List Filled = flat_map block_lines bs in
      let mains : List Filled = main_lines (raw_calls ls main_word) in
      let ready = all_ready ls w p ds (threads_own ls w) (all_named ls ls (fine_filled [] ls w.fine)) (kept_threads (declarations_of (names_of ls) ls)) in
      let r = all_fine bs front mains ready (blocks_apart ls ds (threads_apart_by_name ls w)) (front_agrees ls p) (gap_declared p.shape.declarations p.shape.are) (all_fresh bs) refl in
      let agree : Agree (front ++ bodies) ls = agree_more front bodies ls (front_agrees ls p) (none_of_blocks bs (blocks_calls ls p ds)) in
      let m = main_all (front ++ bodies) agree r.1 (append_assoc front bodies mains) in
      let whole : AreFine 1 front (bodies ++ mains) = fine_join 1 front bodies mains r.0 m in
      let over : place_after ((front ++ bodies) ++ mains) ≡ Over = over_at_end (front ++ bodies) (raw_calls ls main_word) in
      (fine_join 1 [] front (bodies ++ mains) (whole_split ls w p).0 whole, ap (λ (t : List Filled). place_after t) (sym (append_assoc front bodies mains)) ∙ over)
