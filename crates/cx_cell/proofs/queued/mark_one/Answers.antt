use Rattle.std.proofs.Common.{◌≡◌, ◌∙◌, Option, refl, sym, subst, None, IfSome, IsSome, true, false, inr}
use Rattle.cx_names.specs.declared.ThreadNo.{ThreadNo}
use Rattle.cx_machine.specs.declared.machine.Meaning.{Ghosts}
use Rattle.cx_machine.specs.Meaning.{change, look_of, IsShut, ShowsNone}
use Rattle.cx_cell.specs.declared.wish.Wish.{Wish}
use Rattle.cx_cell.specs.declared.offer.Offer.{Offer}
use Rattle.cx_cell.specs.declared.offer.Offer.TheVariants.{Change, Look, Nothing}
use Rattle.cx_cell.specs.Acts.{Denies, Offers}
use Rattle.cx_cell.specs.Queue.{IsDue}
use Rattle.cx_cell.proofs.Queues.{calls_one}
use Rattle.cx_cell.proofs.queued.mark_one.Goals as goal

-- a state that offers something does not deny
offers_some : {M : Type 0} (K : Ghosts M) (m : M) (by : ThreadNo) (w : Wish) (o : Offer) → Offers K m by w o → (o ≡ Nothing → ⊥) → Denies K by w m → ⊥
offers_some {M} K m by w (Change op r) is some d =
    let shut : K.step m (change by op w.a w.b r) ≡ None = subst (λ x. IfSome x (λ p. IsShut K.step m by p w.a w.b)) is.0 d.shut r in
    let there : IsSome (K.step m (change by op w.a w.b r)) = is.1 in
    let no : IsSome {T = M} None = subst (λ (x : Option M). IsSome x) shut there in cc
offers_some K m by w (Look op r) is some d =
    let dark : K.shows m (look_of by op w.a w.b r 0) ≡ false = subst (λ x. IfSome x (λ p. ShowsNone K.shows m by p w.a w.b)) is.0 d.dark r 0 in
    let lit : K.shows m (look_of by op w.a w.b r 0) ≡ true = is.1 0 in
    let no : false ≡ true = sym dark ∙ lit in cc
offers_some K m by w Nothing is some d = some refl

pub returns-in_default : goal.returns-in_default
returns-in_default g c =
    let m = g.S.Machine.meaning c.args.state.now in
    let w = c.args.waiter.now in
    let allowed : Denies g.M.Meaning w.seat w.wish m → ⊥ = λ d. offers_some g.M.Meaning m w.seat w.wish c.offered.result c.offered.ensures c.in_default.not-Nothing d in record {
      marks = record { seat = refl; wish = refl; kept = λ e. refl; due = λ e. inr allowed; rest = λ e. absurd (let no : true ≡ false = e in cc) };
      called = calls_one (IsDue g.M.Meaning m w) _ _ w.seat.0 c.add.ensures (λ n d. d.0) (refl, c.if-waiter.false, allowed);
    }
