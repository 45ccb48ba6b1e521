use Rattle.std.proofs.Common.{◌≡◌, ◌∙◌, refl, sym, subst}
use Rattle.cx_machine.specs.Mutex as machine
use Rattle.cx_turn.specs.declared.view.View.{View}
use Rattle.cx_turn.specs.Views.{having_met}
use Rattle.cx_turn.proofs.Histories.{head_is}
use Rattle.cx_mutex.specs.Owners.{Owning}
use Rattle.cx_mutex.proofs.Owning.{still_owning}
use Rattle.cx_mutex.proofs.mutex.Mutex.meet.Goals as goal

pub returns-clause-from_owner : goal.returns-clause-from_owner
returns-clause-from_owner c b owning v is =
    let p = c.requires.from in
    let q = c.meet.ensures.from p.0 p.1 in
    let same : ◌≡◌ {A = View machine.Mutex} p.0 v = head_is p.0 v (sym q.views ∙ is.views) in
    subst (λ (x : View machine.Mutex). Owning b x) same (owning p.0 p.1)

pub returns-clause-to_owner : goal.returns-clause-to_owner
returns-clause-to_owner c b owning v is =
    let p = c.requires.to in let o = c.requires.from in
    let q = c.meet.ensures.to o.0 p.0 o.1 p.1 in
    let u : View machine.Mutex = having_met p.0 o.0 in
    let same : ◌≡◌ {A = View machine.Mutex} u v = head_is u v (sym q.views ∙ is.views) in
    subst (λ (x : View machine.Mutex). Owning b x) same (still_owning b p.0 u p.0.mine p.1.known.legal.0 q.known.met.0 refl refl (p.1.known.own p.1.counts) (q.known.own q.counts) p.1.known.legal.1 (owning p.0 p.1))
