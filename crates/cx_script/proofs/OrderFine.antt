-- Lines in the order of a canonical text, where each call fits the declarations, have no fault.
use Rattle.std.proofs.Common.{◌≡◌, ℕ, suc, ◌+◌, ◌≤◌, ◌<◌, inl, inr, Bool, true, false, cond, ◌||◌, List, [], ◌∷◌, ◌++◌, length, filter, Some, None, refl, sym, ap, subst, ◌∙◌, append_assoc, append-nil, length-append, arith}
use Rattle.std.specs.Prelude.{nat_le}
use Rattle.std.specs.List.{AllByRecursion, list_any, flat_map}
use Rattle.std.proofs.lemmas.Bool.{lt-leb, or_parts}
use Rattle.std.proofs.lemmas.List.Folds.{list_any-append}
use Rattle.cx_text.specs.declared.form.Form.{Form}
use Rattle.cx_text.specs.declared.form.Form.TheVariants as forms
use Rattle.cx_text.specs.Table.{makes}
use Rattle.cx_text.specs.Words.{Filled, main_word, fields_in, words_for}
use Rattle.cx_script.specs.Earlier.{ACall, part_of, Inside, Over, is_call, made_of, place_after, this_body, this_thread, fits_sort, subject}
use Rattle.cx_script.specs.Faults.{counted, is_too_many, any_misfit, is_once_only, is_twice, is_over_latch, is_latch, is_bad_order}
use Rattle.cx_script.specs.Script.{version_line}
use Rattle.cx_script.specs.InOrder.{Block, block_lines, body_line, main_line, end_line, main_lines, front_with, in_order, AreClear, AreDeclarations, FitsIn, AllFit, MayRecur, IsBody, AreOthers, BlocksApart, AreOnce, IsInOrder, call_count}
use Rattle.cx_script.proofs.Parsed.{filled_is}
use Rattle.cx_script.proofs.Sound.{IsFine, AreFine}
use Rattle.cx_script.proofs.Shape.{place_next, AreCalls}
use Rattle.cx_script.proofs.Blocks.{call_part, call_makes, fine_join, thread_in, body_in, thread_in_main, body_in_main, AllCalls}
use Rattle.cx_script.proofs.Agree.{Agree, DeclareNone, agree_past, made_agree, any_misfit_agree, has_unknown_agree, has_outside_agree, is_latch_agree}
use Rattle.cx_script.proofs.Settled.{none_declared, none_in_block, agree_more}
use Rattle.cx_script.proofs.Reorder.{clashes}
use Rattle.cx_script.proofs.Sum.{counted_append}
use Rattle.cx_script.proofs.Standing.{IsGap, body_fine, main_fine, end_fine, place_in_body, gap_after, gap_declared, over_at_end, fresh_declared, fresh_more, order_moved, order_other}
use Rattle.cx_script.proofs.Whole.{none_of_blocks}

pub fit_calls : (front : List Filled) (me : List ℕ) (cs : List Filled) → AllFit front me cs → AreCalls cs
fit_calls front me [] h = tt
fit_calls front me (c ∷ cs) h = (h.0.call, fit_calls front me cs h.1)

none_clash : (l : Filled) → ((f : Form) → is_once_only f l.form ≡ false) → (e : List Filled) → list_any (clashes l) e ≡ false
none_clash l h [] = refl
none_clash l h (m ∷ e) = rw (h m.form) (none_clash l h e)

both_false : (a b : Bool) → a ≡ false → b ≡ false → (a || b) ≡ false
both_false a b p q = rw (p, q) refl

recurring : (front f : List Filled) (me : List ℕ) (cs : List Filled) → AllFit front me cs → MayRecur cs → AreOnce f cs
recurring front f me [] fit h = tt
recurring front f me (l ∷ cs) fit h = (both_false _ _ (none_clash l h.0 f) fit.0.repeated, recurring front (f ++ l ∷ []) me cs fit.1 h.1)

calls_more : (cs : List Filled) (l : Filled) → AreCalls cs → is_call l ≡ true → AreCalls (cs ++ l ∷ [])
calls_more [] l h c = (c, tt)
calls_more (x ∷ cs) l h c = (h.0, calls_more cs l h.1 c)

few_enough : (e : List Filled) (l : Filled) → is_call l ≡ true → length (this_body e) < 4096 → counted is_call e < 65536 → is_too_many 1 e l ≡ false
few_enough e l call here all =
    let a : (nat_le 4096 (length (this_body e)) || nat_le 65536 (counted is_call e)) ≡ false = both_false _ _ (lt-leb 4096 (length (this_body e)) here) (lt-leb 65536 (counted is_call e) all) in
    rw (call_makes l call, call) a

one_counted : (f : List Filled) (l : Filled) → is_call l ≡ true → counted is_call (f ++ l ∷ []) ≡ counted is_call f + 1
one_counted f l call = counted_append is_call f (l ∷ []) ∙ ap (λ n. counted is_call f + n) (one call)
  where
    one : is_call l ≡ true → counted is_call (l ∷ []) ≡ 1
    one h = rw h refl

-- the calls of a body, of which `first` is the first line, after e
module _ (front e : List Filled) (first : Filled) (me : List ℕ) (agree : Agree e front) (none : makes first.form ≡ None)
    (thread : (before : List Filled) → AreCalls before → this_thread (e ++ first ∷ before) ≡ me)
    (body : (before : List Filled) → AreCalls before → this_body (e ++ first ∷ before) ≡ before) where
  one_call : (before : List Filled) (l : Filled) → AreCalls before → place_after (e ++ first ∷ before) ≡ Inside → length before < 4096 → counted is_call (e ++ first ∷ before) < 65536
      → is_twice (e ++ first ∷ before) l ≡ false → FitsIn front me l → IsFine 1 (e ++ first ∷ before) l
  one_call before l calls place here all once s =
      let f : List Filled = e ++ first ∷ before in
      let a : Agree f front = agree_more e (first ∷ before) front agree (none, none_declared before calls) in
      let short : length (this_body f) < 4096 = subst (λ (t : List Filled). length t < 4096) (sym (body before calls)) here in
      let kind : any_misfit (fits_sort f me) (fields_in l) l.values ≡ false = any_misfit_agree f front a me (fields_in l) l.values ∙ s.kind in
      record {
        filled = filled_is 1 (words_for l) l s.itself;
        stands = rw (place, call_part l s.call) refl;
        few = few_enough f l s.call short all;
        known = has_unknown_agree f front a l ∙ s.known;
        kind = subst (λ t. any_misfit (fits_sort f t) (fields_in l) l.values ≡ false) (sym (thread before calls)) kind;
        inside = has_outside_agree f front a l ∙ s.inside;
        once = once;
        latch = no_latch f l s.call (is_latch_agree f front a (subject l) ∙ s.latch);
        order = s.order f;
      }
    where
      no_latch : (f : List Filled) (l : Filled) → is_call l ≡ true → is_latch f (subject l) ≡ false → is_over_latch f l ≡ false
      no_latch f l call h = rw (call, h) refl

  pub all_calls : (cs before : List Filled) → AreCalls before → place_after (e ++ first ∷ before) ≡ Inside → length before + length cs ≤ 4096 → counted is_call (e ++ first ∷ before) + length cs ≤ 65536
      → AreOnce (e ++ first ∷ before) cs → AllFit front me cs → AreFine 1 (e ++ first ∷ before) cs
  all_calls [] before h place few all once fit = tt
  all_calls (l ∷ cs) before h place few all once fit =
      let next : (e ++ first ∷ before) ++ l ∷ [] ≡ e ++ first ∷ (before ++ l ∷ []) = append_assoc e (first ∷ before) (l ∷ []) in
      let one = one_call before l h place (omega (arith, few)) (omega (arith, all)) once.0 fit.0 in
      let place2 : place_after (e ++ first ∷ (before ++ l ∷ [])) ≡ Inside = ap (λ (t : List Filled). place_after t) (sym next) ∙ place_next (e ++ first ∷ before) l ACall (call_part l fit.0.call) in
      let long = length-append before (l ∷ []) in
      let count : counted is_call (e ++ first ∷ (before ++ l ∷ [])) ≡ counted is_call (e ++ first ∷ before) + 1 = ap (λ (t : List Filled). counted is_call t) (sym next) ∙ one_counted (e ++ first ∷ before) l fit.0.call in
      let later = all_calls cs (before ++ l ∷ []) (calls_more before l h fit.0.call) place2 (omega (arith, few, long)) (omega (arith, all, count)) (subst (λ (t : List Filled). AreOnce t cs) next once.1) fit.1 in
      (one, subst (λ (t : List Filled). AreFine 1 t cs) (sym next) later)

-- ---- bodies

abbrev AllSet : List Filled → List Block → Type 0
AllSet front bs = AllByRecursion (IsBody front) bs

all_counted : (cs : List Filled) → AreCalls cs → counted is_call cs ≡ length cs
all_counted [] h = refl
all_counted (c ∷ cs) h = kept (is_call c) h.0 (all_counted cs h.1)
  where
    kept : (b : Bool) → b ≡ true → counted is_call cs ≡ length cs → length (cond b (c ∷ filter is_call cs) (filter is_call cs)) ≡ suc (length cs)
    kept true t h = ap suc h
    kept false t h = cc

block_counted : (e : List Filled) (b : Block) → AreCalls b.calls → counted is_call (e ++ block_lines b) ≡ counted is_call e + length b.calls
block_counted e b h =
    let a = counted_append is_call e (block_lines b) in
    let c : counted is_call (block_lines b) ≡ counted is_call (b.calls ++ end_line ∷ []) = refl in
    let d = counted_append is_call b.calls (end_line ∷ []) in
    let f = all_counted b.calls h in
    omega (arith, a, c, d, f)

first_counted : (e : List Filled) (name : List ℕ) → counted is_call (e ++ body_line name ∷ []) ≡ counted is_call e
first_counted e name = let a = counted_append is_call e (body_line name ∷ []) in omega (arith, a)

module _ (front : List Filled) where
  one_block : (b : Block) (e : List Filled) → IsBody front b → Agree e front → IsGap e → list_any (clashes (body_line b.name)) e ≡ false → counted is_call e + length b.calls ≤ 65536 → AreFine 1 e (block_lines b)
  one_block b e r agree gap fresh all =
      let first = body_line b.name in
      let made : made_of e b.name ≡ Some r.made = made_agree e front agree b.name ∙ r.is in
      let head = body_fine e b.name r.made r.named gap.body made r.may fresh in
      let area = fit_calls front b.name b.calls r.fit in
      let count = first_counted e b.name in
      let calls = all_calls front e first b.name agree refl (λ before h. thread_in e before b.name h) (λ before h. body_in e before b.name h)
      b.calls [] tt (place_in_body e first [] (inl refl) tt) (let q = r.few in omega (arith, q)) (omega (arith, all, count)) (recurring front (e ++ first ∷ []) b.name b.calls r.fit r.recur) r.fit in
      let place : place_after (e ++ first ∷ b.calls) ≡ Inside = place_in_body e first b.calls (inl refl) area in
      let last = end_fine (e ++ first ∷ b.calls) place (order_other (e ++ first ∷ b.calls) b.name (thread_in e b.calls b.name area) r.other) in
      let tail : IsFine 1 ((e ++ first ∷ []) ++ b.calls) end_line = subst (λ (t : List Filled). IsFine 1 t end_line) (sym (append_assoc e (first ∷ []) b.calls)) last in
      (head, fine_join 1 (e ++ first ∷ []) b.calls (end_line ∷ []) calls (tail, tt))

  -- no body of these names is given yet
  abbrev AreFresh : List Filled → List Block → Type 0
  AreFresh e bs = AllByRecursion (λ (b : Block). list_any (clashes (body_line b.name)) e ≡ false) bs

  fresh_after : (b : Block) (e : List Filled) (bs : List Block) → AreCalls b.calls → AreOthers b.name bs → AreFresh e bs → AreFresh (e ++ block_lines b) bs
  fresh_after b e [] calls others fresh = tt
  fresh_after b e (c ∷ bs) calls others fresh = (fresh_more c.name e b calls others.0 fresh.0, fresh_after b e bs calls others.1 fresh.1)

  -- the blocks' lines, the gap behind them, and how many calls there are
  record Done (e : List Filled) (bs : List Block) : Type 0 where
    fine : AreFine 1 e (flat_map block_lines bs)
    gap : IsGap (e ++ flat_map block_lines bs)
    agree : Agree (e ++ flat_map block_lines bs) front
    count : counted is_call (e ++ flat_map block_lines bs) ≡ counted is_call e + call_count bs

  all_blocks : (bs : List Block) (e : List Filled) → AllSet front bs → BlocksApart bs → Agree e front → IsGap e → AreFresh e bs → counted is_call e + call_count bs ≤ 65536 → Done e bs
  all_blocks [] e set apart agree gap fresh all =
      let same = sym (append-nil e) in
      record { fine = tt; gap = subst (λ (t : List Filled). IsGap t) same gap; agree = subst (λ (t : List Filled). Agree t front) same agree; count = ap (λ (t : List Filled). counted is_call t) (append-nil e) ∙ no_more (counted is_call e) }
    where
      no_more : (n : ℕ) → n ≡ n + 0
      no_more n = omega arith
  all_blocks (b ∷ bs) e set apart agree gap fresh all =
      let lines = block_lines b in
      let more = flat_map block_lines bs in
      let area = fit_calls front b.name b.calls set.0.fit in
      let one = one_block b e set.0 agree gap fresh.0 (omega (arith, all)) in
      let count = block_counted e b area in
      let later = all_blocks bs (e ++ lines) set.1 apart.1 (agree_more e lines front agree (none_in_block b area)) (gap_after e b area gap) (fresh_after b e bs area apart.0 fresh.1) (omega (arith, all, count)) in
      let same = append_assoc e lines more in
      let c = later.count in
      let d : counted is_call ((e ++ lines) ++ more) ≡ counted is_call (e ++ (lines ++ more)) = ap (λ (t : List Filled). counted is_call t) same in
      record { fine = fine_join 1 e lines more one later.fine; gap = subst (λ (t : List Filled). IsGap t) same later.gap; agree = subst (λ (t : List Filled). Agree t front) same later.agree; count = omega (arith, c, d, count) }

  all_fresh : (ds : List Filled) → front ≡ version_line ∷ ds → AreDeclarations ds → (bs : List Block) → AreFresh front bs
  all_fresh ds is are [] = tt
  all_fresh ds is are (b ∷ bs) = (subst (λ (t : List Filled). list_any (clashes (body_line b.name)) t ≡ false) (sym is) (fresh_declared b.name ds are), all_fresh ds is are bs)

  main_counted : (e : List Filled) → counted is_call (e ++ main_line ∷ []) ≡ counted is_call e
  main_counted e = let a = counted_append is_call e (main_line ∷ []) in omega (arith, a)

  -- main's lines, where its end is in order
  main_all : (e cs : List Filled) → Agree e front → IsGap e → AllFit front main_word cs → AreOnce (e ++ main_line ∷ []) cs → length cs ≤ 4096 → counted is_call e + length cs ≤ 65536 → is_bad_order (e ++ main_line ∷ cs) end_line ≡ false → AreFine 1 e (main_lines cs)
  main_all e cs agree gap fit once few all order =
      let area = fit_calls front main_word cs fit in
      let count = main_counted e in
      let inner = all_calls front e main_line main_word agree refl (λ before h. thread_in_main e before h) (λ before h. body_in_main e before h)
      cs [] tt (place_in_body e main_line [] (inr refl) tt) (omega (arith, few)) (omega (arith, all, count)) once fit in
      let last = end_fine (e ++ main_line ∷ cs) (place_in_body e main_line cs (inr refl) area) order in
      let tail : IsFine 1 ((e ++ main_line ∷ []) ++ cs) end_line = subst (λ (t : List Filled). IsFine 1 t end_line) (sym (append_assoc e (main_line ∷ []) cs)) last in
      (main_fine e gap.main, fine_join 1 (e ++ main_line ∷ []) cs (end_line ∷ []) inner (tail, tt))

  whole_fine : (ds : List Filled) (bs : List Block) (cs : List Filled) → front ≡ version_line ∷ ds → AreDeclarations ds → AreFine 1 [] front → counted is_call front ≡ 0 → AllSet front bs → BlocksApart bs
      → AllFit front main_word cs → AreOnce ((front ++ flat_map block_lines bs) ++ main_line ∷ []) cs → length cs ≤ 4096 → call_count bs + length cs ≤ 65536
      → is_bad_order ((front ++ flat_map block_lines bs) ++ main_line ∷ cs) end_line ≡ false
      → AreFine 1 [] (front ++ (flat_map block_lines bs ++ main_lines cs)) × (place_after (front ++ (flat_map block_lines bs ++ main_lines cs)) ≡ Over)
  whole_fine ds bs cs is are fine none set apart fit once few all order =
      let bodies : List Filled = flat_map block_lines bs in
      let mains : List Filled = main_lines cs in
      let gap : IsGap front = subst (λ (t : List Filled). IsGap t) (sym is) (gap_declared ds are) in
      let r = all_blocks bs front set apart (λ u. refl) gap (all_fresh ds is are bs) (omega (arith, none, all)) in
      let c = r.count in
      let m = main_all (front ++ bodies) cs r.agree r.gap fit once few (omega (arith, none, all, c)) order in
      let whole : AreFine 1 front (bodies ++ mains) = fine_join 1 front bodies mains r.fine m in
      let over : place_after ((front ++ bodies) ++ mains) ≡ Over = over_at_end (front ++ bodies) cs in
      (fine_join 1 [] front (bodies ++ mains) fine whole, ap (λ (t : List Filled). place_after t) (sym (append_assoc front bodies mains)) ∙ over)

-- ---- the declarations

clear_fine : (e ls : List Filled) → AreClear e ls → AreFine 1 e ls
clear_fine e [] h = tt
clear_fine e (l ∷ ls) h =
    let c = h.0 in
    (record { filled = filled_is 1 (words_for l) l c.itself; stands = c.stands; few = c.few; known = c.known; kind = c.kind; inside = c.inside; once = c.once; latch = c.latch; order = c.order }, clear_fine (e ++ l ∷ []) ls h.1)

none_called : (ds : List Filled) → AreDeclarations ds → counted is_call ds ≡ 0
none_called [] h = refl
none_called (d ∷ ds) h = rw h.0 (none_called ds h.1)

-- ---- main's calls, wherever the bodies stand before them

-- a form that no call's stands once beside
abbrev IsQuiet : Form → Type 0
IsQuiet f = (g : Form) → part_of g ≡ ACall → is_once_only f g ≡ false

abbrev AreQuiet : List Filled → Type 0
AreQuiet ms = AllByRecursion (λ (m : Filled). IsQuiet m.form) ms

both_ways : (f g : Form) → makes f ≡ None → ((h : Form) → is_once_only h f ≡ false) → is_once_only f g ≡ false
both_ways forms.Body g none never = absurd (let bad : true ≡ false = never forms.Body in cc)
both_ways forms.Start g none never = absurd (let bad : true ≡ false = never forms.Start in cc)
both_ways forms.Launch g none never = absurd (let bad : true ≡ false = never forms.Launch in cc)
both_ways forms.Register g none never = absurd (let bad : true ≡ false = never forms.Register in cc)
both_ways _ g none never = cc

quiet_body : IsQuiet forms.Body
quiet_body forms.Body p = absurd cc
quiet_body _ p = refl

quiet_end : IsQuiet forms.End
quiet_end g p = refl

quiet_append : (xs ys : List Filled) → AreQuiet xs → AreQuiet ys → AreQuiet (xs ++ ys)
quiet_append [] ys h k = k
quiet_append (x ∷ xs) ys h k = (h.0, quiet_append xs ys h.1 k)

quiet_calls : (front : List Filled) (me : List ℕ) (cs : List Filled) → AllFit front me cs → MayRecur cs → AreQuiet cs
quiet_calls front me [] fit h = tt
quiet_calls front me (c ∷ cs) fit h = (λ g p. both_ways c.form g (call_makes c fit.0.call) h.0, quiet_calls front me cs fit.1 h.1)

quiet_blocks : (front : List Filled) (bs : List Block) → AllSet front bs → AreQuiet (flat_map block_lines bs)
quiet_blocks front [] h = tt
quiet_blocks front (b ∷ bs) h =
    quiet_append (block_lines b) (flat_map block_lines bs)
    (quiet_body, quiet_append b.calls (end_line ∷ []) (quiet_calls front b.name b.calls h.0.fit h.0.recur) (quiet_end, tt))
    (quiet_blocks front bs h.1)

quiet_any : (l : Filled) (ms : List Filled) → part_of l.form ≡ ACall → AreQuiet ms → list_any (clashes l) ms ≡ false
quiet_any l [] p h = refl
quiet_any l (m ∷ ms) p h = rw (h.0 l.form p) (quiet_any l ms p h.1)

once_one : (front bodies mid : List Filled) (l : Filled) → AreQuiet bodies → part_of l.form ≡ ACall → is_twice (front ++ mid) l ≡ false → is_twice ((front ++ bodies) ++ mid) l ≡ false
once_one front bodies mid l quiet p h =
    let a = or_parts (list_any (clashes l) (front ++ mid)) _ h in
    let b = or_parts (list_any (clashes l) front) (list_any (clashes l) mid) (sym (list_any-append (clashes l) front mid) ∙ a.0) in
    let c : list_any (clashes l) (front ++ bodies) ≡ false = list_any-append (clashes l) front bodies ∙ both_false _ _ b.0 (quiet_any l bodies p quiet) in
    let d : list_any (clashes l) ((front ++ bodies) ++ mid) ≡ false = list_any-append (clashes l) (front ++ bodies) mid ∙ both_false _ _ c b.1 in
    both_false _ _ d a.1

once_moved : (front bodies : List Filled) → AreQuiet bodies → (cs mid : List Filled) → AllFit front main_word cs → AreOnce (front ++ mid) cs → AreOnce ((front ++ bodies) ++ mid) cs
once_moved front bodies quiet [] mid fit h = tt
once_moved front bodies quiet (l ∷ cs) mid fit h =
    let here = once_one front bodies mid l quiet (call_part l fit.0.call) h.0 in
    let rest : AreOnce (front ++ (mid ++ l ∷ [])) cs = subst (λ (t : List Filled). AreOnce t cs) (append_assoc front mid (l ∷ [])) h.1 in
    let later = once_moved front bodies quiet cs (mid ++ l ∷ []) fit.1 rest in
    (here, subst (λ (t : List Filled). AreOnce t cs) (sym (append_assoc (front ++ bodies) mid (l ∷ []))) later)

all_calls_in : (front : List Filled) (bs : List Block) → AllSet front bs → AllCalls bs
all_calls_in front [] h = tt
all_calls_in front (b ∷ bs) h = (fit_calls front b.name b.calls h.0.fit, all_calls_in front bs h.1)

-- main's end is in order behind the bodies too
ends_moved : (front : List Filled) (bs : List Block) (mains : List Filled) → AllSet front bs → AllFit front main_word mains → is_bad_order (front ++ main_line ∷ mains) end_line ≡ false → is_bad_order ((front ++ flat_map block_lines bs) ++ main_line ∷ mains) end_line ≡ false
ends_moved front bs mains set fit h =
    let bodies : List Filled = flat_map block_lines bs in
    let area = fit_calls front main_word mains fit in
    let none : DeclareNone (main_line ∷ mains) = (refl, none_declared mains area) in
    let here : Agree (front ++ bodies) front = agree_past front bodies (none_of_blocks bs (all_calls_in front bs set)) in
    let a : Agree ((front ++ bodies) ++ main_line ∷ mains) front = agree_more (front ++ bodies) (main_line ∷ mains) front here none in
    let b : Agree (front ++ main_line ∷ mains) front = agree_more front (main_line ∷ mains) front (λ u. refl) none in
    order_moved ((front ++ bodies) ++ main_line ∷ mains) (front ++ main_line ∷ mains) (λ u. a u ∙ sym (b u))
    (thread_in_main (front ++ bodies) mains area ∙ sym (thread_in_main front mains area))
    (body_in_main (front ++ bodies) mains area ∙ sym (body_in_main front mains area))
    ∙ h

-- THE WHOLE: lines in order have no fault, and main's end is the last of them
pub order_fine : (ds : List Filled) (bs : List Block) (mains : List Filled) → IsInOrder ds bs mains → AreFine 1 [] (in_order ds bs mains) × (place_after (in_order ds bs mains) ≡ Over)
order_fine ds bs mains h =
    whole_fine (front_with ds) ds bs mains refl h.declared (clear_fine [] (front_with ds) h.clear) (none_called ds h.declared) h.bodies h.apart h.fit
    (once_moved (front_with ds) (flat_map block_lines bs) (quiet_blocks (front_with ds) bs h.bodies) mains (main_line ∷ []) h.fit h.once)
    h.few h.all_few (ends_moved (front_with ds) bs mains h.bodies h.fit h.ends)
