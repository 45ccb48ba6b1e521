-- All that is known of a text without a fault.
use Rattle.std.proofs.Common.{◌≡◌, ℕ, zero, suc, ◌+◌, ◌≤◌, inl, inr, true, false, List, [], ◌∷◌, ◌++◌, length, map, Option, Some, None, refl, sym, ap, subst, ◌∙◌, arith}
use Rattle.std.specs.Prelude.{find, Result, Ok, Err}
use Rattle.std.specs.List.{AllByRecursion, flat_map}
use Rattle.std.specs.Str.{bytes_eq}
use Rattle.std.proofs.lemmas.Bool.{cases_Bool}
use Rattle.std.proofs.lemmas.Slice.Eq.{bytes_eq-Decides}
use Rattle.cx_text.specs.declared.form.Made.{Made}
use Rattle.cx_text.specs.declared.form.Made.TheVariants as mades
use Rattle.cx_text.specs.declared.form.Sort.TheVariants as sorts
use Rattle.cx_text.specs.declared.fault.Fault.{Fault}
use Rattle.cx_text.specs.Lines.{Line, lines_of}
use Rattle.cx_text.specs.Table.{who_may}
use Rattle.cx_text.specs.Words.{Filled, main_word}
use Rattle.cx_script.specs.Earlier.{Place, Over, declares, place_after, made_of}
use Rattle.cx_script.specs.Faults.{first_fault, read_line, read_all, said_by, unended}
use Rattle.cx_script.specs.Script.{Script, meaning, script_of, version_line}
use Rattle.cx_script.specs.Walk.{end_fault}
use Rattle.cx_script.proofs.Walking.{walk_is_first}
use Rattle.cx_script.proofs.Sound.{AreFine, sound}
use Rattle.cx_script.proofs.Shape.{Block, Shape, shape_of, block_lines, main_lines, AreCalls}
use Rattle.cx_script.proofs.Blocks.{fine_split, raw_calls, lookup, calls_past, calls_among, mains_among, NotMain, AllCalls}
use Rattle.cx_script.proofs.Agree.{Agree, DeclareNone, agree_past}
use Rattle.cx_script.proofs.Settled.{IsBlock, AreSettled, blocks_settled, mains_settled, none_in_block, none_append, none_declared}

-- a text without a fault, as its lines
pub record IsWhole (ls : List Filled) : Type 0 where
  pub fine : AreFine 1 [] ls
  pub over : place_after ls ≡ Over

over_is : (n : ℕ) (ls : List Filled) → end_fault n ls ≡ None → place_after ls ≡ Over
over_is zero ls h = absurd cc
over_is (suc n) ls h = unended_is (place_after ls) h
  where
    unended_is : (p : Place) → unended p ≡ None → p ≡ Over
    unended_is Over h = refl
    unended_is _ h = cc

-- what a text means has such lines
pub record FromLines (s : Script) : Type 0 where
  pub ls : List Filled
  pub is : s ≡ script_of 1 ls
  pub whole : IsWhole ls

-- what lines mean, by their first fault
abbrev pub meaning_of : List Line → Option Fault → Result Script Fault
meaning_of lines (Some f) = Err f
meaning_of lines None = Ok (script_of 1 (said_by (read_all lines)))

pub meaning_is : (limit : ℕ) (text : List ℕ) → (o : Option Fault) → first_fault (lines_of limit text) ≡ o → meaning limit text ≡ meaning_of (lines_of limit text) o
unfolding meaning
meaning_is limit text (Some f) e = rw e refl
meaning_is limit text None e = rw e refl

ok_is : (a b : Script) → ◌≡◌ {A = Result Script Fault} (Ok a) (Ok b) → b ≡ a
ok_is a b h = cc

judged_ok : (lines : List Line) (s : Script) (o : Option Fault) → first_fault lines ≡ o → meaning_of lines o ≡ Ok s → FromLines s
judged_ok lines s (Some f) e h = absurd cc
judged_ok lines s None e h =
    let w = walk_is_first lines ∙ e in
    let r = sound 1 0 lines [] w in
    record { ls = said_by (read_all lines); is = ok_is _ _ h; whole = record { fine = r.0; over = over_is (0 + length (map (read_line 1) lines)) (said_by (read_all lines)) r.1 } }

pub from_lines : (limit : ℕ) (text : List ℕ) (s : Script) → meaning limit text ≡ Ok s → FromLines s
from_lines limit text s h = judged_ok (lines_of limit text) s (first_fault (lines_of limit text)) refl (sym (meaning_is limit text (first_fault (lines_of limit text)) refl) ∙ h)

-- ---- the calls of each thread

pub none_of_blocks : (bs : List Block) → AllCalls bs → DeclareNone (flat_map block_lines bs)
none_of_blocks [] h = tt
none_of_blocks (b ∷ bs) h = none_append (block_lines b) (flat_map block_lines bs) (none_in_block b h.0) (none_of_blocks bs h.1)

pub none_of_main : (mains : List Filled) → AreCalls mains → DeclareNone (main_lines mains)
none_of_main mains h = (refl, none_append mains _ (none_declared mains h) (refl, tt))

-- the parts of a text with what is known of them
pub record Parts (ls : List Filled) : Type 0 where
  pub shape : Shape ls
  pub blocks : AllByRecursion (IsBlock 1 ls) shape.blocks
  pub mains : AreSettled 1 ls main_word shape.mains
  pub few : length shape.mains ≤ 4096

pub parts_of : (ls : List Filled) → IsWhole ls → Parts ls
parts_of ls w =
    let sh = shape_of 1 ls w.fine w.over in
    let base : List Filled = version_line ∷ sh.declarations in
    let rest : List Filled = flat_map block_lines sh.blocks ++ main_lines sh.mains in
    let whole : AreFine 1 [] (base ++ rest) = subst (λ (t : List Filled). AreFine 1 [] t) sh.is w.fine in
    let two = fine_split 1 [] base rest whole in
    let inner = fine_split 1 base (flat_map block_lines sh.blocks) (main_lines sh.mains) two.1 in
    let none : DeclareNone rest = none_append (flat_map block_lines sh.blocks) (main_lines sh.mains) (none_of_blocks sh.blocks sh.calls) (none_of_main sh.mains sh.main_calls) in
    let agree : Agree base ls = λ u. sym (agree_past base rest none u) ∙ ap (λ (t : List Filled). find (declares u) t) (sym sh.is) in
    let later : Agree (base ++ flat_map block_lines sh.blocks) ls = λ u. agree_past base (flat_map block_lines sh.blocks) (none_of_blocks sh.blocks sh.calls) u ∙ agree u in
    let m = mains_settled 1 ls (base ++ flat_map block_lines sh.blocks) sh.mains later sh.main_calls inner.1 in
    record { shape = sh; blocks = blocks_settled 1 ls sh.blocks base (main_lines sh.mains) agree sh.calls two.1; mains = m.0; few = m.1 }

same_bytes : (u w : List ℕ) → bytes_eq u w ≡ true → u ≡ w
same_bytes u w h = (bytes_eq-Decides u w).0 h

-- a body's name is not main's
other_name : (ls : List Filled) (b : Block) → IsBlock 1 ls b → bytes_eq b.name main_word ≡ false
other_name ls b h = elim (cases_Bool (bytes_eq b.name main_word)) [
  | inr e ↦ e
  | inl e ↦
      let q : b.name ≡ main_word = same_bytes b.name main_word e in
      let m : made_of ls b.name ≡ Some mades.Main = rw q refl in
      let k : h.fits.made ≡ mades.Main = some_is _ _ (sym h.fits.is ∙ m) in
      let none : None ≡ Some h.fits.caller = subst (λ x. who_may sorts.Bodied x ≡ Some h.fits.caller) k h.fits.may in
      absurd cc
]
  where
    some_is : (a b : Made) → Some a ≡ Some b → a ≡ b
    some_is a b e = cc

other_names : (ls : List Filled) (bs : List Block) → AllByRecursion (IsBlock 1 ls) bs → NotMain bs
other_names ls [] h = tt
other_names ls (b ∷ bs) h = (other_name ls b h.0, other_names ls bs h.1)

pub past_all : (ls : List Filled) (sh : Shape ls) (name : List ℕ) → raw_calls ls name ≡ raw_calls (flat_map block_lines sh.blocks ++ main_lines sh.mains) name
past_all ls sh name = ap (λ (t : List Filled). raw_calls t name) sh.is ∙ calls_past sh.declarations (flat_map block_lines sh.blocks ++ main_lines sh.mains) name sh.are

-- the calls of main, and those of another thread
pub raw_main : (ls : List Filled) (p : Parts ls) → raw_calls ls main_word ≡ p.shape.mains
raw_main ls p = past_all ls p.shape main_word ∙ mains_among p.shape.blocks p.shape.mains p.shape.calls p.shape.main_calls (other_names ls p.shape.blocks p.blocks)

pub raw_other : (ls : List Filled) (p : Parts ls) (name : List ℕ) → bytes_eq main_word name ≡ false → raw_calls ls name ≡ lookup p.shape.blocks name
raw_other ls p name other = past_all ls p.shape name ∙ calls_among p.shape.blocks p.shape.mains name p.shape.calls p.shape.main_calls other

-- what is known of a thread's calls
pub record Known (ls : List Filled) (name : List ℕ) (cs : List Filled) : Type 0 where
  pub settled : AreSettled 1 ls name cs
  pub few : length cs ≤ 4096

lookup_known : (ls : List Filled) (bs : List Block) (name : List ℕ) → AllByRecursion (IsBlock 1 ls) bs → Known ls name (lookup bs name)
lookup_known ls [] name h = record { settled = tt; few = omega arith }
lookup_known ls (b ∷ bs) name h = elim (cases_Bool (bytes_eq b.name name)) [
  | inl e ↦ let q : b.name ≡ name = same_bytes b.name name e in rw e (record { settled = subst (λ n. AreSettled 1 ls n b.calls) q h.0.settled; few = h.0.few })
  | inr e ↦ rw e (lookup_known ls bs name h.1)
]

pub raw_known : (ls : List Filled) (p : Parts ls) (name : List ℕ) → Known ls name (raw_calls ls name)
raw_known ls p name = elim (cases_Bool (bytes_eq main_word name)) [
  | inl e ↦
      let q : main_word ≡ name = same_bytes main_word name e in
      let k : Known ls main_word p.shape.mains = record { settled = p.mains; few = p.few } in
      subst (λ n. Known ls n (raw_calls ls n)) q (subst (λ (cs : List Filled). Known ls main_word cs) (sym (raw_main ls p)) k)
  | inr e ↦ subst (λ (cs : List Filled). Known ls name cs) (sym (raw_other ls p name e)) (lookup_known ls p.shape.blocks name p.blocks)
]
