use Rattle.std.proofs.Common.{◌≡◌, ◌+◌, ◌<◌, ap, ◌∙◌, subst, sym, arith, length, ℕ}
use Rattle.cx_scene.specs.Scene.{Scene}
use Rattle.cx_script.specs.Script.{names_in}
use Rattle.cx_record.proofs.Counts.{one_name_more, all_callbacks, whole}
use Rattle.cx_accesses.proofs.names.callbacks_of.Goals as goal

pub loop-i-preserved : goal.loop-i-preserved
loop-i-preserved c =
    let len : c.len-count.result ≡ length c.plan.result.now.callbacks.items = omega (arith, c.len-count.ensures, c.plan.result.now.callbacks.ok.0) in
    let count : c.len-count.result ≡ length (names_in c.args.scenario.now).callbacks = all_callbacks c.args.scenario.now c.plan.result.now.callbacks.items c.len-count.result len (ap (λ (x : Scene). x.callbacks) c.plan.ensures.plan) in
    let under : c.loop-i.i < length (names_in c.args.scenario.now).callbacks = subst (λ (n : ℕ). c.loop-i.i < n) count c.loop-i-test.true in (
      one_name_more (names_in c.args.scenario.now).callbacks c.loop-i.names c.push.new.self c.loop-i.i c.loop-i.k c.callback_name.result.now c.loop-i.invariant.0 c.loop-i.invariant.1 under c.callback_name.ensures c.in_ok-push.ensures.put,
      let next : c.in_ok-k.k ≡ c.loop-i.k + 1 = c.in_ok-k.ensures in let same : c.loop-i.k ≡ c.loop-i.i = c.loop-i.invariant.1 in omega arith,
    )

pub returns : goal.returns
returns c =
    let len : c.len-count.result ≡ length c.plan.result.now.callbacks.items = omega (arith, c.len-count.ensures, c.plan.result.now.callbacks.ok.0) in
    let count : c.len-count.result ≡ length (names_in c.args.scenario.now).callbacks = all_callbacks c.args.scenario.now c.plan.result.now.callbacks.items c.len-count.result len (ap (λ (x : Scene). x.callbacks) c.plan.ensures.plan) in
    let all : c.loop-i.i ≡ length (names_in c.args.scenario.now).callbacks = (let past = c.loop-i-test.false in let end = c.loop-i.auto.i-end in omega arith) in
    c.loop-i.invariant.0 ∙ whole (names_in c.args.scenario.now).callbacks c.loop-i.i all
