-- The lines of a text without a fault: its version, its declarations, its bodies, and the body of main.
use Rattle.std.proofs.Common.{◌≡◌, ℕ, ◌⊎◌, inl, inr, Bool, true, false, ◌||◌, List, [], ◌∷◌, ◌++◌, length, refl, sym, ap, subst, ◌∙◌, append_assoc}
use Rattle.std.specs.Prelude.{if◌then◌else◌}
use Rattle.std.specs.List.{AllByRecursion, list_any, flat_map}
use Rattle.std.proofs.lemmas.List.{append-nil}
use Rattle.cx_text.specs.declared.form.Form.{Form}
use Rattle.cx_text.specs.declared.form.Form.TheVariants as forms
use Rattle.cx_text.specs.declared.form.Literal.TheVariants as literals
use Rattle.cx_text.specs.Table.{fields_of, spelling}
use Rattle.cx_text.specs.Words.{Filled, Value, AWord, ANumber, spread, scenario_lines}
use Rattle.cx_text.proofs.Fields.{FitFields}
use Rattle.cx_text.proofs.Rows.{IsWellFilled}
use Rattle.std.specs.Str.{bytes_eq}
use Rattle.std.proofs.lemmas.Slice.Eq.{bytes_eq-Decides}
use Rattle.cx_script.specs.Earlier.{Part, AVersion, ADeclaration, ABody, AMain, ACall, AnEnd, part_of, Place, Opening, Declaring, Between, Inside, Over, place_after, may_stand, is_main, is_call}
use Rattle.cx_script.specs.Script.{line, version_line}
pub use Rattle.cx_script.specs.InOrder.{AreDeclarations, Block, block_lines, body_line, end_line, main_line, main_lines}
use Rattle.cx_script.proofs.Sound.{IsFine, AreFine}
use Rattle.cx_script.proofs.Steps.{last_more, any_more}

-- ---- lines by their parts

ends_at : (version : ℕ) (own : List ℕ) (f : Form) (vs : List Value) → FitFields version own (spread (fields_of f) (length vs)) vs → part_of f ≡ AnEnd → line f vs ≡ end_line
ends_at version own forms.End [] h e = refl
ends_at version own forms.End (v ∷ vs) h e = absurd h
ends_at version own _ vs h e = absurd cc

pub is_end_line : (version : ℕ) (l : Filled) → IsWellFilled scenario_lines version l → part_of l.form ≡ AnEnd → l ≡ end_line
is_end_line version l h e = ends_at version _ l.form l.values h e

mains_at : (version : ℕ) (own : List ℕ) (f : Form) (vs : List Value) → FitFields version own (spread (fields_of f) (length vs)) vs → part_of f ≡ AMain → line f vs ≡ main_line
mains_at version own forms.Main [] h e = refl
mains_at version own forms.Main (v ∷ vs) h e = absurd h
mains_at version own _ vs h e = absurd cc

pub is_main_line : (version : ℕ) (l : Filled) → IsWellFilled scenario_lines version l → part_of l.form ≡ AMain → l ≡ main_line
is_main_line version l h e = mains_at version _ l.form l.values h e

bodies_at : (version : ℕ) (own : List ℕ) (f : Form) (vs : List Value) → FitFields version own (spread (fields_of f) (length vs)) vs → part_of f ≡ ABody → (w : List ℕ) × (line f vs ≡ body_line w)
bodies_at version own forms.Body [] h e = absurd h
bodies_at version own forms.Body (AWord w ∷ []) h e = (w, refl)
bodies_at version own forms.Body (ANumber n ∷ []) h e = absurd h.0
bodies_at version own forms.Body (v ∷ w ∷ vs) h e = absurd h.1
bodies_at version own _ vs h e = absurd cc

pub is_body_line : (version : ℕ) (l : Filled) → IsWellFilled scenario_lines version l → part_of l.form ≡ ABody → (w : List ℕ) × (l ≡ body_line w)
is_body_line version l h e = bodies_at version _ l.form l.values h e

same_word : (u w : List ℕ) → bytes_eq u w ≡ true → w ≡ u
same_word u w h = sym ((bytes_eq-Decides u w).0 h)

versions_at : (version : ℕ) (own : List ℕ) (f : Form) (vs : List Value) → FitFields version own (spread (fields_of f) (length vs)) vs → part_of f ≡ AVersion → line f vs ≡ version_line
versions_at version own forms.VersionOne [] h e = absurd h
versions_at version own forms.VersionOne (AWord w ∷ []) h e = ap (λ (u : List ℕ). line forms.VersionOne (AWord u ∷ [])) (same_word (spelling literals.One) w h.0)
versions_at version own forms.VersionOne (ANumber n ∷ []) h e = absurd h.0
versions_at version own forms.VersionOne (v ∷ w ∷ vs) h e = absurd h.1
versions_at version own _ vs h e = absurd cc

pub is_version_line : (version : ℕ) (l : Filled) → IsWellFilled scenario_lines version l → part_of l.form ≡ AVersion → l ≡ version_line
is_version_line version l h e = versions_at version _ l.form l.values h e

both_parts : (l m : Filled) (ls ms : List Filled) → l ≡ m → ls ≡ ms → l ∷ ls ≡ m ∷ ms
both_parts l m ls ms p q = rw (p, q) refl

-- ---- the place after one line more

abbrev pub next_place : Part → Bool → Place
next_place AVersion over = Declaring
next_place ADeclaration over = Declaring
next_place AnEnd over = if over then Over else Between
next_place _ over = Inside

pub place_next : (e : List Filled) (l : Filled) (p : Part) → part_of l.form ≡ p → place_after (e ++ l ∷ []) ≡ next_place p (list_any is_main (e ++ l ∷ []))
place_next e l AVersion h = rw (last_more e l, h) refl
place_next e l ADeclaration h = rw (last_more e l, h) refl
place_next e l ABody h = rw (last_more e l, h) refl
place_next e l AMain h = rw (last_more e l, h) refl
place_next e l ACall h = rw (last_more e l, h) refl
place_next e l AnEnd h = rw (last_more e l, h) refl

-- a line that is not main's first
pub no_main : (e : List Filled) (l : Filled) → list_any is_main e ≡ false → is_main l ≡ false → list_any is_main (e ++ l ∷ []) ≡ false
no_main e l h k = any_more is_main e l ∙ rw (h, k) refl

some_main : (e : List Filled) (l : Filled) → is_main l ≡ true → list_any is_main (e ++ l ∷ []) ≡ true
some_main e l k = any_more is_main e l ∙ rw k (or_true (list_any is_main e))
  where
    or_true : (b : Bool) → (b || true) ≡ true
    or_true true = refl
    or_true false = refl

more_main : (e : List Filled) (l : Filled) → list_any is_main e ≡ true → list_any is_main (e ++ l ∷ []) ≡ true
more_main e l h = any_more is_main e l ∙ rw h refl

part_not_main : (l : Filled) (p : Part) → part_of l.form ≡ p → (p ≡ AMain → ⊥) → is_main l ≡ false
part_not_main l AVersion h n = rw h refl
part_not_main l ADeclaration h n = rw h refl
part_not_main l ABody h n = rw h refl
part_not_main l AMain h n = absurd (n refl)
part_not_main l ACall h n = rw h refl
part_not_main l AnEnd h n = rw h refl

part_main : (l : Filled) → part_of l.form ≡ AMain → is_main l ≡ true
part_main l h = rw h refl

pub part_call : (l : Filled) → part_of l.form ≡ ACall → is_call l ≡ true
part_call l h = rw h refl

-- ---- bodies

abbrev pub AreCalls : List Filled → Type 0
AreCalls ls = AllByRecursion (λ (l : Filled). is_call l ≡ true) ls

-- the bodies, and that of main
pub record Bodies (ls : List Filled) : Type 0 where
  pub blocks : List Block
  pub mains : List Filled
  pub is : ls ≡ flat_map block_lines blocks ++ main_lines mains
  pub calls : AllByRecursion (λ (b : Block). AreCalls b.calls) blocks
  pub main_calls : AreCalls mains

-- the rest of a body, and the bodies after it
pub record InBody (ls : List Filled) : Type 0 where
  pub here : List Filled
  pub rest : List Filled
  pub is : ls ≡ here ++ end_line ∷ rest
  pub calls : AreCalls here
  pub after : Bodies rest

-- the rest of main's body
pub record InMain (ls : List Filled) : Type 0 where
  pub here : List Filled
  pub is : ls ≡ here ++ end_line ∷ []
  pub calls : AreCalls here

at_inside : (p : Part) → may_stand Inside p ≡ true → (p ≡ ACall) ⊎ (p ≡ AnEnd)
at_inside AVersion h = absurd cc
at_inside ADeclaration h = absurd cc
at_inside ABody h = absurd cc
at_inside AMain h = absurd cc
at_inside ACall h = inl refl
at_inside AnEnd h = inr refl

at_between : (p : Part) → may_stand Between p ≡ true → (p ≡ ABody) ⊎ (p ≡ AMain)
at_between AVersion h = absurd cc
at_between ADeclaration h = absurd cc
at_between ABody h = inl refl
at_between AMain h = inr refl
at_between ACall h = absurd cc
at_between AnEnd h = absurd cc

at_declaring : (p : Part) → may_stand Declaring p ≡ true → (p ≡ ADeclaration) ⊎ ((p ≡ ABody) ⊎ (p ≡ AMain))
at_declaring AVersion h = absurd cc
at_declaring ADeclaration h = inl refl
at_declaring ABody h = inr (inl refl)
at_declaring AMain h = inr (inr refl)
at_declaring ACall h = absurd cc
at_declaring AnEnd h = absurd cc

at_opening : (p : Part) → may_stand Opening p ≡ true → p ≡ AVersion
at_opening AVersion h = refl
at_opening ADeclaration h = absurd cc
at_opening ABody h = absurd cc
at_opening AMain h = absurd cc
at_opening ACall h = absurd cc
at_opening AnEnd h = absurd cc

not_over : (p : Part) → may_stand Over p ≡ true → ⊥
not_over AVersion h = cc
not_over ADeclaration h = cc
not_over ABody h = cc
not_over AMain h = cc
not_over ACall h = cc
not_over AnEnd h = cc

regrouped : (e ls : List Filled) (l : Filled) → place_after (e ++ l ∷ ls) ≡ Over → place_after ((e ++ l ∷ []) ++ ls) ≡ Over
regrouped e ls l h = rw (append_assoc e (l ∷ []) ls) h

pub nothing_over : (version : ℕ) (ls e : List Filled) → AreFine version e ls → place_after e ≡ Over → ls ≡ []
nothing_over version [] e fine over = refl
nothing_over version (l ∷ ls) e fine over = absurd (not_over (part_of l.form) (subst (λ p. may_stand p (part_of l.form) ≡ true) over fine.0.stands))

call_more : (l : Filled) (ls : List Filled) → is_call l ≡ true → InMain ls → InMain (l ∷ ls)
call_more l ls c r = record { here = l ∷ r.here; is = ap (λ (t : List Filled). l ∷ t) r.is; calls = (c, r.calls) }

in_main : (version : ℕ) (ls e : List Filled) → AreFine version e ls → place_after e ≡ Inside → list_any is_main e ≡ true → place_after (e ++ ls) ≡ Over → InMain ls
in_main version [] e fine there main over = absurd (let k : place_after e ≡ Over = subst (λ (t : List Filled). place_after t ≡ Over) (append-nil e) over in cc)
in_main version (l ∷ ls) e fine there main over = elim (at_inside (part_of l.form) (subst (λ p. may_stand p (part_of l.form) ≡ true) there fine.0.stands)) [
  | inl p ↦ call_more l ls (part_call l p) (in_main version ls (e ++ l ∷ []) fine.1 (place_next e l ACall p) (more_main e l main) (regrouped e ls l over))
  | inr p ↦
      let past : place_after (e ++ l ∷ []) ≡ Over = place_next e l AnEnd p ∙ rw (more_main e l main) refl in
      let none : ls ≡ [] = nothing_over version ls (e ++ l ∷ []) fine.1 past in
      let this : l ≡ end_line = is_end_line version l fine.0.filled p in
      record { here = []; is = rw (none, this) refl; calls = tt }
]

call_in : (l : Filled) (ls : List Filled) → is_call l ≡ true → InBody ls → InBody (l ∷ ls)
call_in l ls c r = record { here = l ∷ r.here; rest = r.rest; is = ap (λ (t : List Filled). l ∷ t) r.is; calls = (c, r.calls); after = r.after }

-- where ls begins with a body, or with main's
opened : (version : ℕ) (l : Filled) (ls e : List Filled) → IsFine version e l → AreFine version (e ++ l ∷ []) ls → (part_of l.form ≡ ABody) ⊎ (part_of l.form ≡ AMain) → list_any is_main e ≡ false → place_after (e ++ l ∷ ls) ≡ Over
    → ((f : List Filled) → AreFine version f ls → place_after f ≡ Inside → list_any is_main f ≡ false → place_after (f ++ ls) ≡ Over → InBody ls) → Bodies (l ∷ ls)
opened version l ls e fine rest (inl p) main over body =
    let r = body (e ++ l ∷ []) rest (place_next e l ABody p) (no_main e l main (part_not_main l ABody p (λ q. cc))) (regrouped e ls l over) in
    let w = is_body_line version l fine.filled p in
    let b : Block = record { name = w.0; calls = r.here } in
    record {
      blocks = b ∷ r.after.blocks;
      mains = r.after.mains;
      is = both_parts l (body_line w.0) ls _ w.1 ((r.is ∙ ap (λ (t : List Filled). r.here ++ end_line ∷ t) r.after.is ∙ joined r.here (flat_map block_lines r.after.blocks) (main_lines r.after.mains)));
      calls = (r.calls, r.after.calls);
      main_calls = r.after.main_calls;
    }
  where
    joined : (cs bs ms : List Filled) → cs ++ end_line ∷ (bs ++ ms) ≡ ((cs ++ end_line ∷ []) ++ bs) ++ ms
    joined [] bs ms = refl
    joined (c ∷ cs) bs ms = ap (λ (t : List Filled). c ∷ t) (joined cs bs ms)
opened version l ls e fine rest (inr p) main over body =
    let r = in_main version ls (e ++ l ∷ []) rest (place_next e l AMain p) (some_main e l (part_main l p)) (regrouped e ls l over) in
    let this : l ≡ main_line = is_main_line version l fine.filled p in
    record { blocks = []; mains = r.here; is = both_parts l main_line ls _ this r.is; calls = tt; main_calls = r.calls }

-- both at once: between bodies, and inside one
split : (version : ℕ) (ls : List Filled)
    → ((e : List Filled) → AreFine version e ls → place_after e ≡ Between → list_any is_main e ≡ false → place_after (e ++ ls) ≡ Over → Bodies ls)
    × ((e : List Filled) → AreFine version e ls → place_after e ≡ Inside → list_any is_main e ≡ false → place_after (e ++ ls) ≡ Over → InBody ls)
split version [] = (
  (λ e fine there main over. absurd (let k : place_after e ≡ Over = subst (λ (t : List Filled). place_after t ≡ Over) (append-nil e) over in cc)),
  (λ e fine there main over. absurd (let k : place_after e ≡ Over = subst (λ (t : List Filled). place_after t ≡ Over) (append-nil e) over in cc)),
)
split version (l ∷ ls) =
    let later = split version ls in (
      (λ e fine there main over. opened version l ls e fine.0 fine.1 (at_between (part_of l.form) (subst (λ p. may_stand p (part_of l.form) ≡ true) there fine.0.stands)) main over later.1),
      (λ e fine there main over. elim (at_inside (part_of l.form) (subst (λ p. may_stand p (part_of l.form) ≡ true) there fine.0.stands)) [
        | inl p ↦ call_in l ls (part_call l p) (later.1 (e ++ l ∷ []) fine.1 (place_next e l ACall p) (no_main e l main (part_not_main l ACall p (λ q. cc))) (regrouped e ls l over))
        | inr p ↦
            let clear : list_any is_main (e ++ l ∷ []) ≡ false = no_main e l main (part_not_main l AnEnd p (λ q. cc)) in
            let past : place_after (e ++ l ∷ []) ≡ Between = place_next e l AnEnd p ∙ rw clear refl in
            let this : l ≡ end_line = is_end_line version l fine.0.filled p in
            record { here = []; rest = ls; is = rw this refl; calls = tt; after = later.0 (e ++ l ∷ []) fine.1 past clear (regrouped e ls l over) }
      ]),
    )

-- ---- the whole text

-- declarations, then bodies
pub record Declared (ls : List Filled) : Type 0 where
  pub declarations : List Filled
  pub rest : List Filled
  pub is : ls ≡ declarations ++ rest
  pub are : AreDeclarations declarations
  pub after : Bodies rest

declared_rest : (version : ℕ) (ls e : List Filled) → AreFine version e ls → place_after e ≡ Declaring → list_any is_main e ≡ false → place_after (e ++ ls) ≡ Over → Declared ls
declared_rest version [] e fine there main over = absurd (let k : place_after e ≡ Over = subst (λ (t : List Filled). place_after t ≡ Over) (append-nil e) over in cc)
declared_rest version (l ∷ ls) e fine there main over = elim (at_declaring (part_of l.form) (subst (λ p. may_stand p (part_of l.form) ≡ true) there fine.0.stands)) [
  | inl p ↦
      let r = declared_rest version ls (e ++ l ∷ []) fine.1 (place_next e l ADeclaration p) (no_main e l main (part_not_main l ADeclaration p (λ q. cc))) (regrouped e ls l over) in
      record { declarations = l ∷ r.declarations; rest = r.rest; is = ap (λ (t : List Filled). l ∷ t) r.is; are = (p, r.are); after = r.after }
  | inr p ↦ record { declarations = []; rest = l ∷ ls; is = refl; are = tt; after = opened version l ls e fine.0 fine.1 p main over (split version ls).1 }
]

-- the parts of a text
pub record Shape (ls : List Filled) : Type 0 where
  pub declarations : List Filled
  pub blocks : List Block
  pub mains : List Filled
  pub is : ls ≡ version_line ∷ declarations ++ (flat_map block_lines blocks ++ main_lines mains)
  pub are : AreDeclarations declarations
  pub calls : AllByRecursion (λ (b : Block). AreCalls b.calls) blocks
  pub main_calls : AreCalls mains

pub shape_of : (version : ℕ) (ls : List Filled) → AreFine version [] ls → place_after ls ≡ Over → Shape ls
shape_of version [] fine over = absurd cc
shape_of version (l ∷ ls) fine over =
    let p : part_of l.form ≡ AVersion = at_opening (part_of l.form) fine.0.stands in
    let r = declared_rest version ls (l ∷ []) fine.1 (place_next [] l AVersion p) (part_not_main_alone l p) over in
    let this : l ≡ version_line = is_version_line version l fine.0.filled p in
    record {
      declarations = r.declarations;
      blocks = r.after.blocks;
      mains = r.after.mains;
      is = both_parts l version_line ls _ this (r.is ∙ ap (λ (t : List Filled). r.declarations ++ t) r.after.is);
      are = r.are;
      calls = r.after.calls;
      main_calls = r.after.main_calls;
    }
  where
    part_not_main_alone : (l : Filled) → part_of l.form ≡ AVersion → list_any is_main (l ∷ []) ≡ false
    part_not_main_alone l p = rw p refl
