-- What a call that could do two things did, it did of what was asked.
use Rattle.std.proofs.Common.{◌≡◌, ℤ, Some, sym, subst}
use Rattle.cx_names.specs.declared.ThreadNo.{ThreadNo}
use Rattle.cx_machine.specs.declared.kind.Op.{Op}
use Rattle.cx_machine.specs.declared.machine.Meaning.{Ghosts}
use Rattle.cx_machine.specs.Meaning.{change, look_of}
use Rattle.cx_turn.specs.declared.view.View.{View}
use Rattle.cx_turn.specs.Acts.{Makes, Looks, DoesEither}
use Rattle.cx_turn.specs.declared.either.Either.{Either}
use Rattle.cx_turn.specs.declared.either.Either.TheVariants as eithers
use Rattle.cx_asks.specs.declared.ask.Ask.{Ask}
use Rattle.cx_kinds.specs.Acts.{DoesAsk}

pub asked_either : {M : Type 0} (K : Ghosts M) (by : ThreadNo) (one two : Op) (a b : ℤ) (ask : Ask) (v w : View M) (r : Either) → ask.change ≡ Some one → ask.look ≡ Some two → ask.a ≡ a → ask.b ≡ b → DoesEither K by one two a b v w r → DoesAsk K by ask v w (Some r)
asked_either K by one two a b ask v w (eithers.Made r n) c l x y does = (one, c, subst (λ (p : ℤ). Makes K v w (change by one p ask.b r) n) (sym x) (subst (λ (q : ℤ). Makes K v w (change by one a q r) n) (sym y) does))
asked_either K by one two a b ask v w (eithers.Seen r k) c l x y does = (two, l, subst (λ (p : ℤ). Looks K v w (look_of by two p ask.b r k)) (sym x) (subst (λ (q : ℤ). Looks K v w (look_of by two a q r k)) (sym y) does))
