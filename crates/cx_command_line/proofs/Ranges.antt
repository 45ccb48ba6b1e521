-- A number of items that words ask for is in its range.
use Rattle.std.proofs.Common.{◌≡◌, ℕ, Bool, true, false, ◌&&◌, List, [], ◌∷◌, Option, Some, None, refl, sym, subst, codes}
use Rattle.std.specs.Prelude.{if◌then◌else◌, nat_le, option_and_then, option_map, IfOk, IfSome, Result, Ok, Err}
use Rattle.std.specs.Str.{bytes_eq}
use Rattle.std.proofs.lemmas.Bool.{and_parts, leb-true}
use Rattle.cx_names.specs.declared.errors.NoMemory.{NoMemory}
use Rattle.cx_command_line.specs.Words.{seed_of, in_range}
use Rattle.cx_command_line.specs.Asked.{command_of, seeded, made, IsInRange}
use Rattle.cx_command_line.specs.declared.command.Command.{Command}
use Rattle.cx_command_line.specs.declared.command.Command.TheVariants as commands

number_good : (n : ℕ) (b : Bool) → (nat_le 1 n && nat_le n 4800) ≡ b → IfSome (option_map made (if b then Some n else None)) IsInRange
number_good n false e = tt
number_good n true e = let p = and_parts (nat_le 1 n) (nat_le n 4800) e in (leb-true 1 n p.0, leb-true n 4800 p.1)

items_good : (o : Option ℕ) → IfSome (option_map made (option_and_then in_range o)) IsInRange
items_good None = tt
items_good (Some n) = number_good n (nat_le 1 n && nat_le n 4800) refl

seed_good : (o : Option ℕ) → IfSome (option_map seeded o) IsInRange
seed_good None = tt
seed_good (Some n) = tt

one_good : (a b c d : Bool) → IfSome (if a then Some commands.Run else (if b then Some (commands.Replay None) else (if c then Some commands.Check else (if d then Some commands.Races else None)))) IsInRange
one_good true b c d = tt
one_good false true c d = tt
one_good false false true d = tt
one_good false false false true = tt
one_good false false false false = tt

two_good : (a b : Bool) (x : List ℕ) → IfSome (if a then option_map seeded (seed_of x) else (if b then option_map made (option_and_then in_range (seed_of x)) else None)) IsInRange
two_good true b x = seed_good (seed_of x)
two_good false true x = items_good (seed_of x)
two_good false false x = tt

pub all_in_range : (ws : List (List ℕ)) → IfSome (command_of ws) IsInRange
all_in_range [] = tt
all_in_range (w ∷ []) = one_good (bytes_eq w (codes "run")) (bytes_eq w (codes "replay")) (bytes_eq w (codes "check")) (bytes_eq w (codes "races"))
all_in_range (w ∷ x ∷ []) = two_good (bytes_eq w (codes "replay")) (bytes_eq w (codes "make")) x
all_in_range (w ∷ x ∷ y ∷ rest) = tt

pub found_in_range : (ws : List (List ℕ)) (r : Result (Option Command) NoMemory) → IfOk r (λ c. c ≡ command_of ws) → IfOk r (λ c. IfSome c IsInRange)
found_in_range ws (Ok c) h = subst (λ (o : Option Command). IfSome o IsInRange) (sym h) (all_in_range ws)
found_in_range ws (Err e) h = tt
