-- What a clause says of a machine, whichever it is: histories, and the changes of one word.
use Rattle.std.specs.Prelude.{◌≡◌, ℕ, ◌+◌, ◌<◌, ◌≤◌, ℤ, List, [], ◌∷◌, Option, Some, None, Bool, true, false, nat_eq}
use Rattle.cx_names.specs.declared.ThreadNo.{ThreadNo}
use Rattle.cx_names.specs.declared.Reply.{Reply}
use Rattle.cx_machine.specs.declared.kind.Entry.{Entry}
use Rattle.cx_machine.specs.declared.kind.Look.{Look}
use Rattle.cx_machine.specs.declared.kind.Op.{Op}

-- the change with this word, these numbers and this reply
abbrev pub change : ThreadNo → Op → ℤ → ℤ → Reply → Entry
change by op a b r = record { by = by; op = op; a = a; b = b; reply = r }

-- the look with this word, these numbers and this reply, after the first k changes
abbrev pub look_of : ThreadNo → Op → ℤ → ℤ → Reply → ℕ → Look
look_of by op a b r k = record { by = by; op = op; a = a; b = b; reply = r; at = k }

module _ {M : Type 0} (step : M → Entry → Option M) where
  -- the state after one change more
  abbrev pub advance : Option M → Entry → Option M
  advance None e = None
  advance (Some m) e = step m e

  -- the state after these changes, or none where one of them isn't enabled
  abbrev pub run : Option M → List Entry → Option M
  run m [] = m
  run m (e ∷ es) = run (advance m e) es

  -- no change with this word and these numbers is enabled, whatever its reply
  abbrev pub IsShut : M → ThreadNo → Op → ℤ → ℤ → Type 0
  IsShut m by op a b = (r : Reply) → step m (change by op a b r) ≡ None

-- no look with this word and these numbers is shown, whatever its reply and its stamp
abbrev pub ShowsNone : {M : Type 0} → (M → Look → Bool) → M → ThreadNo → Op → ℤ → ℤ → Type 0
ShowsNone shows m by op a b = (r : Reply) (k : ℕ) → shows m (look_of by op a b r k) ≡ false

-- all changes are of threads below this number
abbrev pub AreBelow : ℕ → List Entry → Type 0
AreBelow seats [] = Unit {0}
AreBelow seats (e ∷ es) = (e.by.0 < seats) × AreBelow seats es

-- 1 for what is so, and 0 for what isn't
abbrev pub bit : Bool → ℕ
bit true = 1
bit false = 0

-- 1 where this is the number, and else 0
abbrev pub names : Option ℕ → ℕ → ℕ
names None id = 0
names (Some n) id = bit (nat_eq n id)

-- how often the number stands in the list
abbrev pub times : ℕ → List ℕ → ℕ
times id [] = 0
times id (n ∷ ns) = bit (nat_eq n id) + times id ns

-- no number stands in the list twice
abbrev pub IsOnceEach : List ℕ → Type 0
IsOnceEach ns = (id : ℕ) → times id ns ≤ 1
