-- What holds between two pulls, and between two pushes.
use Rattle.std.proofs.Common.{◌≡◌, ℕ, ◌+◌, ◌-◌, ◌≤◌, List, [], ◌∷◌, ◌++◌, length, take, drop, Option, Some, None, refl, sym, ap, subst, ◌∙◌, append_assoc, arith, inl, inr}
use Rattle.std.specs.Prelude.{IfSome}
use Rattle.std.proofs.lemmas.List.{take-append-drop, length-append, append-nil, take_all}
use Rattle.std.proofs.Math.Seq.{take-append_seam}
use Rattle.cx_io.specs.declared.source.Pulled.TheVariants as pulled
use Rattle.cx_io.specs.declared.sink.Pushed.{Pushed}
use Rattle.cx_io.specs.declared.sink.Pushed.TheVariants as pushed
use Rattle.cx_io.specs.Edge.{PullsOf, Pushes, Extends, added, IsRead, Rose}

-- what was told at first is what was read and what is left
abbrev pub ReadSoFar : Option (List ℕ) → Option (List ℕ) → List ℕ → Type 0
ReadSoFar None now bytes = Unit {0}
ReadSoFar (Some all) now bytes = (rest : List ℕ) × (now ≡ Some rest) × (all ≡ bytes ++ rest)

pub read_none : (first : Option (List ℕ)) → ReadSoFar first first []
read_none None = tt
read_none (Some all) = (all, refl, refl)

pub read_more : (first before after : Option (List ℕ)) (bytes out : List ℕ) (n : ℕ) → ReadSoFar first before bytes → PullsOf (pulled.Got n) before out after → ReadSoFar first after (bytes ++ take n out)
read_more None before after bytes out n so_far pull = tt
read_more (Some all) before after bytes out n so_far pull =
    let p = subst (λ (o : Option (List ℕ)). PullsOf (pulled.Got n) o out after) so_far.1 pull in
    (drop n so_far.0, p.2, so_far.2 ∙ ap (λ (t : List ℕ). bytes ++ t) (sym (take-append-drop n so_far.0) ∙ ap (λ (t : List ℕ). t ++ drop n so_far.0) (sym p.1)) ∙ sym (append_assoc bytes (take n out) (drop n so_far.0)))

pub read_end : (limit : ℕ) (first before after : Option (List ℕ)) (bytes out : List ℕ) → length bytes ≤ limit + 1 → ReadSoFar first before bytes → PullsOf pulled.End before out after → IsRead limit first bytes
read_end limit None before after bytes out short so_far pull = record { short = short; told = tt }
read_end limit (Some all) before after bytes out short so_far pull =
    let p = subst (λ (o : Option (List ℕ)). PullsOf pulled.End o out after) so_far.1 pull in
    let whole : all ≡ bytes = so_far.2 ∙ ap (λ (t : List ℕ). bytes ++ t) p.0 ∙ append-nil bytes in
    let long : length all ≤ limit + 1 = rw whole short in
    record { short = short; told = sym whole ∙ sym (take_all (limit + 1) all long) }

pub read_full : (limit : ℕ) (first before : Option (List ℕ)) (bytes : List ℕ) → length bytes ≡ limit + 1 → ReadSoFar first before bytes → IsRead limit first bytes
read_full limit None before bytes full so_far = record { short = omega arith; told = tt }
read_full limit (Some all) before bytes full so_far = record { short = omega arith; told = sym (rw (so_far.2, ← full) (take-append_seam bytes so_far.0)) }

-- a front of the text was taken, and the rest is still to come
pub record WrittenSoFar (first now : Option (List ℕ)) (text rest : List ℕ) : Type 0 where
  pub front : List ℕ
  pub parts : text ≡ front ++ rest
  pub taken : IfSome now (λ taken. Extends first front taken)

pub written_none : (first : Option (List ℕ)) (text : List ℕ) → WrittenSoFar first first text text
written_none None text = record { front = []; parts = refl; taken = tt }
written_none (Some old) text = record { front = []; parts = refl; taken = (old, refl, sym (append-nil old)) }

extended : (first before after : Option (List ℕ)) (front piece : List ℕ) (p : Pushed) → IfSome before (λ taken. Extends first front taken) → Pushes p before piece after → IfSome after (λ taken. Extends first (front ++ added p piece) taken)
extended first before None front piece p taken push = tt
extended first before (Some now) front piece p taken push =
    let e = subst (λ (o : Option (List ℕ)). IfSome o (λ taken. Extends first front taken)) push.1 taken in
    (e.0, e.1, push.2 ∙ ap (λ (t : List ℕ). t ++ added p piece) e.2 ∙ append_assoc e.0 front (added p piece))

pub written_more : (first before after : Option (List ℕ)) (text rest : List ℕ) (n : ℕ) → WrittenSoFar first before text rest → Pushes (pushed.Took n) before rest after → WrittenSoFar first after text (drop n rest)
written_more first before after text rest n so_far push = record {
  front = so_far.front ++ take n rest;
  parts = so_far.parts ∙ ap (λ (t : List ℕ). so_far.front ++ t) (sym (take-append-drop n rest)) ∙ sym (append_assoc so_far.front (take n rest) (drop n rest));
  taken = extended first before after so_far.front rest (pushed.Took n) so_far.taken push;
}

-- a failed push leaves the front
pub written_failed : (first before after : Option (List ℕ)) (text rest : List ℕ) → WrittenSoFar first before text rest → Pushes pushed.Failed before rest after → IfSome after (λ taken. (front rest : List ℕ) × (text ≡ front ++ rest) × Extends first front taken)
written_failed first before None text rest so_far push = tt
written_failed first before (Some now) text rest so_far push =
    let e = extended first before (Some now) so_far.front rest pushed.Failed so_far.taken push in
    (so_far.front, rest, so_far.parts, (e.0, e.1, e.2 ∙ ap (λ (t : List ℕ). e.0 ++ t) (append-nil so_far.front)))

pub written_all : (first now : Option (List ℕ)) (text rest : List ℕ) → length rest ≡ 0 → WrittenSoFar first now text rest → IfSome now (λ taken. Extends first text taken)
written_all first None text rest empty so_far = tt
written_all first (Some now) text [] empty so_far = let e = so_far.taken in (e.0, e.1, e.2 ∙ ap (λ (t : List ℕ). e.0 ++ t) (sym (so_far.parts ∙ append-nil so_far.front)))
written_all first (Some now) text (x ∷ rest) empty so_far = absurd (omega arith)

pub rose_later : (a b c : ℕ) → a ≤ b → Rose b c → Rose a c
rose_later a b c le (inl lt) = inl (omega arith)
rose_later a b c le (inr last) = inr last

pub short_more : (bytes got : List ℕ) (limit n most : ℕ) → length got ≡ n → n ≤ most → most ≤ limit + 1 - length bytes → length bytes ≤ limit + 1 → length (bytes ++ got) ≤ limit + 1
short_more bytes got limit n most len le room short = rw length-append (omega arith)
