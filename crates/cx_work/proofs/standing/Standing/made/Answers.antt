use Rattle.std.proofs.Common.{sym, ◌∙◌}
use Rattle.cx_scene.specs.Scene.{scene_of}
use Rattle.cx_work.proofs.Actions.{served_as}
use Rattle.cx_work.proofs.Asking.{says_good, made_good}
use Rattle.cx_work.proofs.Sufficing.{reply_enough, asked_enough, serves_next}
use Rattle.cx_work.proofs.standing.Standing.made.Goals as goal

pub returns-in-Some-clause-enough : goal.returns-in-Some-clause-enough
returns-in-Some-clause-enough g c = reply_enough (scene_of c.args.plan.now) c.args.self.now.thread.0 c.args.self.now.accesses.items c.args.self.now.list.items c.in-Some.reply c.requires.at.enough

pub returns-in-Some-clause-fits : goal.returns-in-Some-clause-fits
returns-in-Some-clause-fits g c = (says_good (scene_of c.args.plan.now) c.args.self.now.thread.0 c.args.self.now.accesses.items c.args.self.now.list.items c.args.self.now.local c.args.self.now.forms.items c.in-Some.reply c.requires.asks c.requires.accesses c.requires.at c.requires.next.0 (sym c.as_slice.ensures.value ∙ c.in-Some.ensures)).0

pub returns-in-Some-clause-formed : goal.returns-in-Some-clause-formed
returns-in-Some-clause-formed g c = (says_good (scene_of c.args.plan.now) c.args.self.now.thread.0 c.args.self.now.accesses.items c.args.self.now.list.items c.args.self.now.local c.args.self.now.forms.items c.in-Some.reply c.requires.asks c.requires.accesses c.requires.at c.requires.next.0 (sym c.as_slice.ensures.value ∙ c.in-Some.ensures)).1

pub acted-requires-clause-served : goal.acted-requires-clause-served
acted-requires-clause-served g c =
    let v = c.args.self.now in
    served_as v.forms.items c.as_slice.result.now c.as_slice-in-None.result.now v.accesses.items c.as_slice.ensures.value c.as_slice-in-None.ensures.value c.in-None.ensures
    (λ none. serves_next (scene_of c.args.plan.now) v.thread.0 v.accesses.items v.list.items v.local v.forms.items c.requires.asks c.requires.made c.requires.accesses c.requires.at c.requires.next.0 c.requires.next.1 c.requires.alone none)

pub returns-in-None-clause-accesses : goal.returns-in-None-clause-accesses
returns-in-None-clause-accesses g c = c.acted.ensures.accesses c.args.self.now.thread.0 c.requires.accesses

pub returns-in-None-clause-steps : goal.returns-in-None-clause-steps
returns-in-None-clause-steps g c =
    let v = c.args.self.now in
    let good = made_good (scene_of c.args.plan.now) v.thread.0 v.accesses.items c.acted.new.accesses.items v.list.items v.local v.forms.items c.as_slice-in-None.result.now c.acted.result c.requires.made c.requires.accesses c.requires.asks c.requires.at c.requires.next.0 c.as_slice-in-None.ensures.value c.acted.ensures.asked in
    good.steps

pub returns-in-None-clause-alone : goal.returns-in-None-clause-alone
returns-in-None-clause-alone g c =
    let v = c.args.self.now in
    let good = made_good (scene_of c.args.plan.now) v.thread.0 v.accesses.items c.acted.new.accesses.items v.list.items v.local v.forms.items c.as_slice-in-None.result.now c.acted.result c.requires.made c.requires.accesses c.requires.asks c.requires.at c.requires.next.0 c.as_slice-in-None.ensures.value c.acted.ensures.asked in
    good.alone

pub returns-in-None-clause-enough : goal.returns-in-None-clause-enough
returns-in-None-clause-enough g c =
    let v = c.args.self.now in
    asked_enough (scene_of c.args.plan.now) v.thread.0 c.as_slice-in-None.result.now v.accesses.items c.acted.new.accesses.items v.list.items c.requires.accesses c.requires.at.enough c.acted.result c.acted.ensures.asked

pub returns-in-None-clause-fits : goal.returns-in-None-clause-fits
returns-in-None-clause-fits g c =
    let v = c.args.self.now in
    let good = made_good (scene_of c.args.plan.now) v.thread.0 v.accesses.items c.acted.new.accesses.items v.list.items v.local v.forms.items c.as_slice-in-None.result.now c.acted.result c.requires.made c.requires.accesses c.requires.asks c.requires.at c.requires.next.0 c.as_slice-in-None.ensures.value c.acted.ensures.asked in
    good.fits

pub returns-in-None-clause-formed : goal.returns-in-None-clause-formed
returns-in-None-clause-formed g c =
    let v = c.args.self.now in
    let good = made_good (scene_of c.args.plan.now) v.thread.0 v.accesses.items c.acted.new.accesses.items v.list.items v.local v.forms.items c.as_slice-in-None.result.now c.acted.result c.requires.made c.requires.accesses c.requires.asks c.requires.at c.requires.next.0 c.as_slice-in-None.ensures.value c.acted.ensures.asked in
    good.formed
