use Rattle.std.proofs.Common.{◌≡◌, ◌∙◌, refl, sym, subst}
use Rattle.cx_machine.specs.Mutex as machine
use Rattle.cx_turn.specs.declared.view.View.{View}
use Rattle.cx_turn.specs.Views.{both_of}
use Rattle.cx_turn.proofs.Histories.{head_is}
use Rattle.cx_mutex.specs.Owners.{Owning}
use Rattle.cx_mutex.proofs.Owning.{still_owning}
use Rattle.cx_mutex.proofs.mutex.Mutex.join.Goals as goal

pub returns-clause-owner : goal.returns-clause-owner
returns-clause-owner c b owning v is =
    let p = c.requires.pass in let o = c.requires.other in
    let q = c.join.ensures p.0 o.0 p.1 o.1 in
    let u : View machine.Mutex = both_of p.0 o.0 in
    let same : ◌≡◌ {A = View machine.Mutex} u v = head_is u v (sym q.views ∙ is.views) in
    subst (λ (x : View machine.Mutex). Owning b x) same (still_owning b p.0 u p.0.mine p.1.known.legal.0 q.known.met.0 refl refl (p.1.known.own p.1.counts) (q.known.own q.counts) p.1.known.legal.1 (owning p.0 p.1))
