-- The text of a line and of a number, as it is written piece by piece.
use Rattle.std.proofs.Common.{◌≡◌, ℕ, ◌+◌, ◌^◌, ◌<◌, ◌≤◌, ◌/◌, ◌%◌, List, [], ◌∷◌, ◌++◌, map, sym, ap, ◌∙◌, append-nil, append_assoc}
use Rattle.std.specs.List.{join_with_byte}
use Rattle.std.specs.Fmt.{decimal}
use Rattle.std.proofs.lemmas.Fmt.{decimal_digit, decimal_step_wide}
use Rattle.cx_text.specs.Lines.{line_text}
use Rattle.cx_text.specs.Words.{Value, spell}
use Rattle.cx_text.specs.Views.{spaced}

pub joined : (head : List ℕ) (vs : List Value) → join_with_byte 32 (head ∷ map spell vs) ≡ head ++ spaced vs
joined head [] = sym (append-nil head)
joined head (v ∷ vs) = ap (λ (t : List ℕ). head ++ (32 ∷ t)) (joined (spell v) vs)

pub line_is : (out head : List ℕ) (vs : List Value) → ((out ++ head) ++ spaced vs) ++ 10 ∷ [] ≡ out ++ line_text (head ∷ map spell vs)
line_is out head vs = ap (λ (t : List ℕ). t ++ 10 ∷ []) (append_assoc out head (spaced vs) ∙ ap (λ (t : List ℕ). out ++ t) (sym (joined head vs))) ∙ append_assoc out (join_with_byte 32 (head ∷ map spell vs)) (10 ∷ [])

pub one_digit : (out : List ℕ) (n : ℕ) → n < 10 → out ++ (48 + n) ∷ [] ≡ out ++ decimal n
one_digit out n lt = ap (λ (t : List ℕ). out ++ t) (sym (decimal_digit n lt))

pub last_digit : (out : List ℕ) (n : ℕ) → 10 ≤ n → n < 10 ^ 64 → (out ++ decimal (n / 10)) ++ (48 + n % 10) ∷ [] ≡ out ++ decimal n
last_digit out n le lt = append_assoc out (decimal (n / 10)) ((48 + n % 10) ∷ []) ∙ ap (λ (t : List ℕ). out ++ t) (sym (decimal_step_wide n le lt))
