-- What is known of the objects, by their numbers.
use Rattle.std.specs.Prelude.{◌≡◌, ℕ, List, map, length, slice_get, slice_index, Option, Some, None}
use Rattle.cx_history.specs.declared.flaw.Flaw.{Flaw}
use Rattle.cx_history.specs.declared.flaw.Cause.TheVariants as causes
use Rattle.cx_history.specs.Histories.{Recorded, Knowing, Begun as BegunAt, list_of, place_at_end, knowing, owed}
use Rattle.cx_history.specs.Legal.{is_at_least}
use Rattle.cx_history.specs.Flaw.{first_in}
use Rattle.cx_checker.specs.declared.places.Places.{Places}
use Rattle.cx_checker.specs.declared.known.Begun.{Begun}
use Rattle.cx_checker.specs.declared.known.Known.{Known}
use Rattle.cx_checker.specs.declared.owing.Main.{Main}
use Rattle.cx_checker.specs.declared.owing.Main.TheVariants.{Owes, Knows}

-- how many changes of an object are known, none where nothing is said
abbrev pub place_in : Places → ℕ → ℕ
place_in p o = slice_index p.seen.items o

-- what is known of one object
abbrev pub begun_at : ℕ → Begun → BegunAt
begun_at o b = record { thread = b.thread; known = place_in b.known o }

abbrev pub knowing_at : ℕ → Known → Knowing
knowing_at o k = record { place = place_in k.place o; owed = place_in k.owed o; begun = map (begun_at o) k.begun.items }

abbrev pub place_of : Option Places → ℕ → ℕ
place_of None o = 0
place_of (Some p) o = place_in p o

-- how far each thread has seen each object at its list's end
abbrev pub AreEnds : Recorded → List Places → Type 0
AreEnds r ends = (t o : ℕ) → place_of (slice_get ends t) o ≡ place_at_end r t o

-- the first of main's items that is below what main owes, or what main knows at its end
abbrev pub IsMain : Recorded → Main → Type 0
IsMain r (Owes f) = Some f ≡ first_in causes.Order (λ t i x. is_at_least (owed r t i) x) 0 0 (list_of r 0)
IsMain r (Knows k) = (first_in causes.Order (λ t i x. is_at_least (owed r t i) x) 0 0 (list_of r 0) ≡ None) × ((o : ℕ) → knowing_at o k ≡ knowing r (length (list_of r 0)) o)
