-- The canonical text is its lines, one after the other.
use Rattle.std.proofs.Common.{◌≡◌, ℕ, List, [], ◌∷◌, ◌++◌, sym, ap, ◌∙◌}
use Rattle.std.specs.List.{flat_map}
use Rattle.std.proofs.lemmas.Grind.{flat_map-append}
use Rattle.cx_scene.specs.declared.call.Call.{Call}
use Rattle.cx_text.specs.Words.{Filled}
use Rattle.cx_script.specs.Script.{Script, Names, Declaration, names_in, shown, written}
use Rattle.cx_scenario.specs.Whole.{text_lines}

-- four parts of a text
pub four_parts : (one two three four : List ℕ) (v : Filled) (a b c : List Filled) → one ≡ [] ++ shown v → two ≡ one ++ flat_map shown a → three ≡ two ++ flat_map shown b → four ≡ three ++ flat_map shown c
    → four ≡ flat_map shown ((v ∷ a) ++ b ++ c)
four_parts one two three four v a b c p q r s =
    s
    ∙ ap (λ (t : List ℕ). t ++ flat_map shown c) (r ∙ ap (λ (t : List ℕ). t ++ flat_map shown b) (q ∙ ap (λ (t : List ℕ). t ++ flat_map shown a) p))
    ∙ sym (flat_map-append shown ((v ∷ a) ++ b) c ∙ ap (λ (t : List ℕ). t ++ flat_map shown c) (flat_map-append shown (v ∷ a) b))

pub same_lines : (names : Names) (ds : List Declaration) (bodies : List (List Call)) (s t : Script) → ds ≡ s.declarations → bodies ≡ s.bodies → names ≡ names_in s → s ≡ t → flat_map shown (text_lines names ds bodies) ≡ written t
unfolding written
same_lines names ds bodies s t p q r e =
    ap (λ (x : List Declaration). flat_map shown (text_lines names x bodies)) p
    ∙ ap (λ (x : List (List Call)). flat_map shown (text_lines names s.declarations x)) q
    ∙ ap (λ (x : Names). flat_map shown (text_lines x s.declarations s.bodies)) r
    ∙ ap (λ (x : Script). written x) e
