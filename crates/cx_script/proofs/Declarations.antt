-- The line of a declaration says that declaration.
use Rattle.std.proofs.Common.{◌≡◌, ℕ, List, [], ◌∷◌, map, Some, None, refl, ap}
use Rattle.std.specs.List.{AllByRecursion}
use Rattle.cx_scene.specs.declared.declared.Function.TheVariants as functions
use Rattle.cx_scene.specs.declared.declared.Policy.{Policy}
use Rattle.cx_scene.specs.declared.declared.Policy.TheVariants as policies
use Rattle.cx_scene.specs.declared.declared.Small.{Small}
use Rattle.cx_scene.specs.declared.declared.Small.TheVariants as smalls
use Rattle.cx_scene.specs.declared.declared.Action.TheVariants as actions
use Rattle.cx_script.specs.declared.declared.Declared.{Declared}
use Rattle.cx_script.specs.declared.declared.Declared.TheVariants as declared
use Rattle.cx_script.specs.Earlier.{word_in}
use Rattle.cx_script.specs.Script.{Names, place_in, name_at, threads_in, policy_of, policy_word, declared_of, line_of_declaration}
use Rattle.cx_script.proofs.Calls.{IsObject, IsThread}

policy_back : (p : Policy) → policy_of (policy_word p) ≡ p
policy_back policies.Async = refl
policy_back policies.Deferred = refl
policy_back policies.Both = refl

abbrev pub AreThreads : Names → List ℕ → Type 0
AreThreads names ts = AllByRecursion (λ t. place_in names.threads (name_at names.threads t) ≡ t) ts

threads_back : (names : Names) (ts : List ℕ) → AreThreads names ts → map (place_in names.threads) (map (λ v. word_in (Some v)) (threads_in names ts)) ≡ ts
threads_back names [] h = refl
threads_back names (t ∷ ts) h = rw h.0 (ap (λ (u : List ℕ). t ∷ u) (threads_back names ts h.1))

abbrev pub IsNamedSmall : Names → Small → Type 0
IsNamedSmall names (smalls.Release q n) = IsObject names q
IsNamedSmall names (smalls.NotifyOne c) = IsObject names c
IsNamedSmall names (smalls.NotifyAll c) = IsObject names c

-- what a declaration names is there
abbrev pub IsNamedDeclared : Names → Declared → Type 0
IsNamedDeclared names (declared.Barrier count (Some small)) = IsNamedSmall names small
IsNamedDeclared names (declared.Stop holders) = AreThreads names holders
IsNamedDeclared names (declared.Callback stop (actions.Small small)) = IsObject names stop × IsNamedSmall names small
IsNamedDeclared names (declared.Callback stop actions.Deregister) = IsObject names stop
IsNamedDeclared names (declared.Promise owner reader) = IsThread names owner × IsThread names reader
IsNamedDeclared names (declared.SharedPromise owner readers) = IsThread names owner × AreThreads names readers
IsNamedDeclared names (declared.Task owner reader function) = IsThread names owner × IsThread names reader
IsNamedDeclared names _ = Unit {0}

pub declared_back : (names : Names) (name : List ℕ) (d : Declared) → IsNamedDeclared names d → declared_of names (line_of_declaration names name d) (line_of_declaration names name d).form ≡ Some d
declared_back names name declared.Thread h = refl
declared_back names name declared.JThread h = refl
declared_back names name (declared.Async policy (functions.Return v)) h = rw (policy_back policy) refl
declared_back names name (declared.Async policy (functions.Throw e)) h = rw (policy_back policy) refl
declared_back names name (declared.Mutex numbers) h = refl
declared_back names name declared.Recursive h = refl
declared_back names name declared.Shared h = refl
declared_back names name (declared.Semaphore count max) h = refl
declared_back names name (declared.Latch count) h = refl
declared_back names name (declared.Barrier count None) h = refl
declared_back names name (declared.Barrier count (Some (smalls.Release q n))) h = rw h refl
declared_back names name (declared.Barrier count (Some (smalls.NotifyOne c))) h = rw h refl
declared_back names name (declared.Barrier count (Some (smalls.NotifyAll c))) h = rw h refl
declared_back names name declared.Once h = refl
declared_back names name declared.Condition h = refl
declared_back names name (declared.Stop holders) h = rw (threads_back names holders h) refl
declared_back names name (declared.Callback stop (actions.Small (smalls.Release q n))) h = rw (h.0, h.1) refl
declared_back names name (declared.Callback stop (actions.Small (smalls.NotifyOne c))) h = rw (h.0, h.1) refl
declared_back names name (declared.Callback stop (actions.Small (smalls.NotifyAll c))) h = rw (h.0, h.1) refl
declared_back names name (declared.Callback stop actions.Deregister) h = rw h refl
declared_back names name (declared.Promise owner reader) h = rw (h.0, h.1) refl
declared_back names name (declared.SharedPromise owner readers) h = rw (h.0, threads_back names readers h.1) refl
declared_back names name (declared.Task owner reader (functions.Return v)) h = rw (h.0, h.1) refl
declared_back names name (declared.Task owner reader (functions.Throw e)) h = rw (h.0, h.1) refl
