-- What each change keeps, a history keeps.
use Rattle.std.proofs.Common.{◌≡◌, ℕ, ◌<◌, Bool, true, false, List, [], ◌∷◌, Option, Some, None, IsSome, refl, subst}
use Rattle.cx_machine.specs.declared.kind.Entry.{Entry}
use Rattle.cx_machine.specs.Words.{when}
use Rattle.cx_machine.specs.Meaning.{run, AreBelow}

pub none_after : {M : Type 0} (step : M → Entry → Option M) (es : List Entry) (m : M) → run step None es ≡ Some m → ⊥
none_after step [] m e = cc e
none_after step (x ∷ xs) m e = none_after step xs m e

pub kept : {M : Type 0} (step : M → Entry → Option M) (Good : M → Type 0) (seats : ℕ) → ((m m' : M) (e : Entry) → Good m → e.by.0 < seats → step m e ≡ Some m' → Good m') → (es : List Entry) (m m' : M) → Good m → AreBelow seats es → run step (Some m) es ≡ Some m' → Good m'
kept step Good seats one [] m m' g below e = let same : m ≡ m' = cc e in subst (λ x. Good x) same g
kept {M} step Good seats one (x ∷ xs) m m' g below e = further (step m x) refl e (λ t h is. kept step Good seats one xs t m' h below.1 is)
  where
    further : (o : Option M) → step m x ≡ o → run step o xs ≡ Some m' → ((t : M) → Good t → run step (Some t) xs ≡ Some m' → Good m') → Good m'
    further None is e_ more = absurd (none_after step xs m' e_)
    further (Some t) is e_ more = more t (one m t x g below.0 is) e_

-- a change that has its needs
pub made : {S : Type 0} (Good : S → Type 0) (b : Bool) (t t' : S) → (b ≡ true → Good t) → when b t ≡ Some t' → Good t'
made Good true t t' g e = let same : t ≡ t' = cc e in subst (λ x. Good x) same (g refl)
made Good false t t' g e = cc e

pub when_some : {S : Type 0} (b : Bool) (t : S) → IsSome (when b t) → (b ≡ true) × (when b t ≡ Some t)
when_some true t is = (refl, refl)
when_some false t is = cc is
