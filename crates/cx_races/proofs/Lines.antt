-- The text of a report, line by line.
use Rattle.std.proofs.Common.{◌≡◌, ◌⊎◌, inl, inr, ℕ, ◌+◌, ◌<◌, ◌≤◌, List, [], ◌∷◌, ◌++◌, length, drop, Option, Some, refl, sym, ap, ◌∙◌, arith, append_assoc, append-nil, min}
use Rattle.cx_graph.proofs.Numbers.{le_or_lt}
use Rattle.std.specs.Prelude.{slice_get}
use Rattle.cx_order.proofs.Walks.{drop_at, drop_past}
use Rattle.cx_races.specs.declared.reporting.Pair.{Pair}
use Rattle.cx_races.specs.Report.{entry_line, report_text}

pub text_on : (names : List (List ℕ)) (entries : List (Option Pair)) (i : ℕ) (name : List ℕ) (entry : Option Pair) (text new total : List ℕ) → slice_get names i ≡ Some name → slice_get entries i ≡ Some entry → new ≡ text ++ entry_line name entry
    → text ++ report_text (drop i names) (drop i entries) ≡ total → new ++ report_text (drop (i + 1) names) (drop (i + 1) entries) ≡ total
text_on names entries i name entry text new total at_name at_entry put so_far =
    ap (λ (t : List ℕ). t ++ report_text (drop (i + 1) names) (drop (i + 1) entries)) put
    ∙ append_assoc text (entry_line name entry) (report_text (drop (i + 1) names) (drop (i + 1) entries))
    ∙ ap (λ (ns : List (List ℕ)). text ++ report_text ns (entry ∷ drop (i + 1) entries)) (sym (drop_at names i name at_name))
    ∙ ap (λ (es : List (Option Pair)). text ++ report_text (drop i names) es) (sym (drop_at entries i entry at_entry))
    ∙ so_far

no_entries : (names : List (List ℕ)) → report_text names [] ≡ []
no_entries [] = refl
no_entries (n ∷ ns) = refl

pub text_done : (names : List (List ℕ)) (entries : List (Option Pair)) (i : ℕ) → (length names ≤ i) ⊎ (length entries ≤ i) → report_text (drop i names) (drop i entries) ≡ []
text_done names entries i (inl past) = ap (λ (ns : List (List ℕ)). report_text ns (drop i entries)) (drop_past names i past)
text_done names entries i (inr past) = ap (λ (es : List (Option Pair)). report_text (drop i names) es) (drop_past entries i past) ∙ no_entries (drop i names)

min_cases : (n m k i : ℕ) → k ≡ min n m → k ≤ i → (n ≤ i) ⊎ (m ≤ i)
min_cases n m k i is past = by (le_or_lt n i) (le_or_lt m i)
  where
    by : (n ≤ i) ⊎ (i < n) → (m ≤ i) ⊎ (i < m) → (n ≤ i) ⊎ (m ≤ i)
    by (inl a) b = inl a
    by (inr a) (inl b) = inr b
    by (inr a) (inr b) = absurd (omega (arith, is, past, a, b))

pub text_ends : (names : List (List ℕ)) (entries : List (Option Pair)) (n k i : ℕ) (text total : List ℕ) → n ≡ length names → k ≡ min n (length entries) → k ≤ i → text ++ report_text (drop i names) (drop i entries) ≡ total → text ≡ total
text_ends names entries n k i text total size is past so_far =
    sym (append-nil text)
    ∙ ap (λ (t : List ℕ). text ++ t) (sym (text_done names entries i (min_cases (length names) (length entries) k i (is ∙ ap (λ (m : ℕ). min m (length entries)) size) past)))
    ∙ so_far
