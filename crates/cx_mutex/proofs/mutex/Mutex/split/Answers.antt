use Rattle.std.proofs.Common.{◌≡◌, ◌∙◌, [], sym, ap, subst, false}
use Rattle.cx_machine.specs.Mutex as machine
use Rattle.cx_turn.specs.declared.view.View.{View}
use Rattle.cx_turn.specs.Views.{split_left, split_right}
use Rattle.cx_turn.proofs.Histories.{head_is}
use Rattle.cx_mutex.specs.Owners.{Owning}
use Rattle.cx_mutex.proofs.Owning.{never_owned}
use Rattle.cx_mutex.proofs.mutex.Mutex.split.Goals as goal

pub returns-clause-owner : goal.returns-clause-owner
returns-clause-owner c b owning v is =
    let p = c.requires.pass in
    let q = c.split.ensures.first p.0 p.1 in
    let same : ◌≡◌ {A = View machine.Mutex} (split_left p.0 c.args.calls) v = head_is (split_left p.0 c.args.calls) v (sym q.views ∙ is.views) in
    subst (λ (x : View machine.Mutex). Owning b x) same (owning p.0 p.1)

pub returns-clause-bare : goal.returns-clause-bare
returns-clause-bare c v is =
    let p = c.requires.pass in
    let free : machine.owns v.start v.number ≡ false = ap (λ (m : machine.Mutex). machine.owns m v.number) (is.started ∙ c.args.self.now.opened) in
    let q = c.split.ensures.second p.0 p.1 in
    let same : ◌≡◌ {A = View machine.Mutex} (split_right p.0 c.args.calls) v = head_is (split_right p.0 c.args.calls) v (sym q.views ∙ is.views) in
    let mine : v.mine ≡ [] = ap (λ (x : View machine.Mutex). x.mine) (sym same) in
    never_owned v free (is.known.own is.counts ∙ mine)
