-- What is known of each call of a text without a fault, in terms of the whole text and of the thread that makes it.
use Rattle.std.proofs.Common.{◌≡◌, ℕ, suc, ◌+◌, ◌<◌, ◌≤◌, Bool, true, false, ◌&&◌, ◌||◌, not, List, [], ◌∷◌, ◌++◌, length, None, refl, sym, subst, ◌∙◌, arith, append_assoc, length-append}
use Rattle.std.specs.Prelude.{nat_le}
use Rattle.std.specs.List.{AllByRecursion, flat_map}
use Rattle.std.proofs.lemmas.Bool.{leb-false, not-false}
use Rattle.cx_text.specs.declared.form.Sort.TheVariants as sorts
use Rattle.cx_text.specs.Table.{makes}
use Rattle.cx_text.specs.Words.{Filled, fields_in, scenario_lines, main_word}
use Rattle.cx_text.proofs.Rows.{IsWellFilled}
use Rattle.cx_script.specs.Earlier.{is_call, this_thread, this_body, fits_sort}
use Rattle.cx_script.specs.Faults.{any_misfit, has_outside, is_too_many, counted}
use Rattle.cx_script.proofs.Sound.{IsFine, AreFine}
use Rattle.cx_script.proofs.Shape.{Block, block_lines, body_line, main_line, end_line, main_lines, AreCalls}
use Rattle.cx_script.proofs.Blocks.{fine_split, call_makes, thread_in, body_in, thread_in_main, body_in_main}
use Rattle.cx_script.proofs.Agree.{Agree, DeclareNone, agree_past, any_misfit_agree, has_outside_agree, fits_agree}
use Rattle.cx_script.proofs.Found.{Fits, fits_is}

-- a call of the thread `me`, in a text ls
pub record IsSettled (version : ℕ) (ls : List Filled) (me : List ℕ) (l : Filled) : Type 0 where
  pub filled : IsWellFilled scenario_lines version l
  pub call : is_call l ≡ true
  pub kind : any_misfit (fits_sort ls me) (fields_in l) l.values ≡ false
  pub inside : has_outside ls l ≡ false

abbrev pub AreSettled : ℕ → List Filled → List ℕ → List Filled → Type 0
AreSettled version ls me cs = AllByRecursion (IsSettled version ls me) cs

pub none_declared : (cs : List Filled) → AreCalls cs → DeclareNone cs
none_declared [] h = tt
none_declared (c ∷ cs) h = (call_makes c h.0, none_declared cs h.1)

pub none_append : (xs ys : List Filled) → DeclareNone xs → DeclareNone ys → DeclareNone (xs ++ ys)
none_append [] ys h k = k
none_append (x ∷ xs) ys h k = (h.0, none_append xs ys h.1 k)

pub none_in_block : (b : Block) → AreCalls b.calls → DeclareNone (block_lines b)
none_in_block b h = (refl, none_append b.calls (end_line ∷ []) (none_declared b.calls h) (refl, tt))

pub agree_more : (e xs ls : List Filled) → Agree e ls → DeclareNone xs → Agree (e ++ xs) ls
agree_more e xs ls h k u = agree_past e xs k u ∙ h u

or_last : (a b : Bool) → (a || b) ≡ false → b ≡ false
or_last true b h = absurd cc
or_last false b h = h

few_calls : (version : ℕ) (e : List Filled) (l : Filled) → is_call l ≡ true → is_too_many version e l ≡ false → (length (this_body e) < 4096) × (counted is_call e < 65536)
few_calls version e l c h =
    let d : (is_call l && (nat_le 4096 (length (this_body e)) || nat_le 65536 (counted is_call e))) ≡ false = or_last _ _ h in
    let a : (nat_le 4096 (length (this_body e)) || nat_le 65536 (counted is_call e)) ≡ false = rw c at d in
    (leb-false 4096 (length (this_body e)) (or_first _ _ a), leb-false 65536 (counted is_call e) (or_last _ _ a))
  where
    or_first : (a b : Bool) → (a || b) ≡ false → a ≡ false
    or_first true b h = absurd cc
    or_first false b h = refl

-- the lines of a body, of which b is the first
module _ (version : ℕ) (ls p : List Filled) (b : Filled) (me : List ℕ) (agree : Agree p ls) (none : makes b.form ≡ None)
    (thread : (before : List Filled) → AreCalls before → this_thread (p ++ b ∷ before) ≡ me) (body : (before : List Filled) → AreCalls before → this_body (p ++ b ∷ before) ≡ before) where
  settled_one : (before : List Filled) (l : Filled) → AreCalls before → is_call l ≡ true → IsFine version (p ++ b ∷ before) l → IsSettled version ls me l
  settled_one before l h c fine =
      let a : Agree (p ++ b ∷ before) ls = agree_more p (b ∷ before) ls agree (none, none_declared before h) in
      let k : any_misfit (fits_sort (p ++ b ∷ before) me) (fields_in l) l.values ≡ false = subst (λ t. any_misfit (fits_sort (p ++ b ∷ before) t) (fields_in l) l.values ≡ false) (thread before h) fine.kind in
      record { filled = fine.filled; call = c; kind = sym (any_misfit_agree (p ++ b ∷ before) ls a me (fields_in l) l.values) ∙ k; inside = sym (has_outside_agree (p ++ b ∷ before) ls a l) ∙ fine.inside }

  one_more : (before : List Filled) (l : Filled) → (p ++ b ∷ before) ++ l ∷ [] ≡ p ++ b ∷ (before ++ l ∷ [])
  one_more before l = append_assoc p (b ∷ before) (l ∷ [])

  calls_append : (before : List Filled) (l : Filled) → AreCalls before → is_call l ≡ true → AreCalls (before ++ l ∷ [])
  calls_append [] l h c = (c, tt)
  calls_append (x ∷ before) l h c = (h.0, calls_append before l h.1 c)

  pub settled_calls : (cs before : List Filled) → AreCalls before → AreCalls cs → length before ≤ 4096 → AreFine version (p ++ b ∷ before) cs → AreSettled version ls me cs × (length before + length cs ≤ 4096)
  settled_calls [] before h k few fine = (tt, omega arith)
  settled_calls (l ∷ cs) before h k few fine =
      let one = settled_one before l h k.0 fine.0 in
      let under : length before < 4096 = subst (λ (t : List Filled). length t < 4096) (body before h) (few_calls version (p ++ b ∷ before) l k.0 fine.0.few).0 in
      let long : length (before ++ l ∷ []) ≡ suc (length before) = length-append before (l ∷ []) ∙ omega arith in
      let rest = settled_calls cs (before ++ l ∷ []) (calls_append before l h k.0) k.1 (omega arith) (subst (λ t. AreFine version t cs) (one_more before l) fine.1) in
      let bound = rest.1 in
      ((one, rest.0), omega arith)

-- a body: what its name stands for, and its calls
pub record IsBlock (version : ℕ) (ls : List Filled) (b : Block) : Type 0 where
  pub calls : AreCalls b.calls
  pub few : length b.calls ≤ 4096
  pub settled : AreSettled version ls b.name b.calls
  pub outer : List ℕ
  pub fits : Fits ls outer b.name sorts.Bodied

or_first : (a b : Bool) → (a || b) ≡ false → a ≡ false
or_first true b h = absurd cc
or_first false b h = refl

block_settled : (version : ℕ) (ls p : List Filled) (b : Block) (rest : List Filled) → Agree p ls → AreCalls b.calls → AreFine version p (block_lines b ++ rest) → IsBlock version ls b
block_settled version ls p b rest agree calls fine =
    let two = fine_split version p (block_lines b) rest fine in
    let inner = fine_split version (p ++ body_line b.name ∷ []) b.calls (end_line ∷ []) two.0.1 in
    let r = settled_calls version ls p (body_line b.name) b.name agree refl (λ before h. thread_in p before b.name h) (λ before h. body_in p before b.name h) b.calls [] tt calls (omega arith) inner.0 in
    let k : not (fits_sort p (this_thread p) b.name sorts.Bodied) ≡ false = or_first _ _ two.0.0.kind in
    let f : fits_sort ls (this_thread p) b.name sorts.Bodied ≡ true = sym (fits_agree p ls agree (this_thread p) b.name sorts.Bodied) ∙ not-false _ k in
    let bound = r.1 in
    record { calls = calls; few = omega arith; settled = r.0; outer = this_thread p; fits = fits_is ls (this_thread p) b.name sorts.Bodied f }

pub blocks_settled : (version : ℕ) (ls : List Filled) (bs : List Block) (p rest : List Filled) → Agree p ls → AllByRecursion (λ (b : Block). AreCalls b.calls) bs → AreFine version p (flat_map block_lines bs ++ rest) → AllByRecursion (IsBlock version ls) bs
blocks_settled version ls [] p rest agree calls fine = tt
blocks_settled version ls (b ∷ bs) p rest agree calls fine =
    let f : AreFine version p (block_lines b ++ (flat_map block_lines bs ++ rest)) = subst (λ t. AreFine version p t) (append_assoc (block_lines b) (flat_map block_lines bs) rest) fine in
    let two = fine_split version p (block_lines b) (flat_map block_lines bs ++ rest) f in
    (block_settled version ls p b (flat_map block_lines bs ++ rest) agree calls.0 f, blocks_settled version ls bs (p ++ block_lines b) rest (agree_more p (block_lines b) ls agree (none_in_block b calls.0)) calls.1 two.1)

pub mains_settled : (version : ℕ) (ls p mains : List Filled) → Agree p ls → AreCalls mains → AreFine version p (main_lines mains) → AreSettled version ls main_word mains × (length mains ≤ 4096)
mains_settled version ls p mains agree calls fine =
    let inner = fine_split version (p ++ main_line ∷ []) mains (end_line ∷ []) fine.1 in
    let r = settled_calls version ls p main_line main_word agree refl (λ before h. thread_in_main p before h) (λ before h. body_in_main p before h) mains [] tt calls (omega arith) inner.0 in
    let bound = r.1 in
    (r.0, omega arith)
