use Rattle.std.proofs.Common.{rules, ◌≡◌, ◌∙◌, ◌+◌, ◌≤◌, ◌++◌, length, refl, sym, ap, arith, length-append}
use Rattle.std.specs.Prelude.{vec_len, vec_capacity, List}
use Rattle.cx_condvar.specs.declared.log.Logged.{Logged}
use Rattle.cx_condvar.specs.declared.until.Waited.TheVariants as answers
use Rattle.cx_condvar.specs.Logs.{wait_acts}
use Rattle.cx_condvar.proofs.Logging.{stands_first, since, ends, runs_out_first, runs_out_then, goes_on}
use Rattle.cx_condvar.proofs.condvar.CondvarAny.wait_until_true.Goals as goal

pub returns-then-is_err-clause-refused : goal.returns-then-is_err-clause-refused
returns-then-is_err-clause-refused g c = runs_out_first c.args.self.now c.args.m.now (g.P.Predicate.number c.args.pred.now) (g.P.Predicate.holds c.args.pred.now) c.args.pass.now c.args.key.now c.args.log.now c.args.turns.now.used (record { acts = c.reserve.new.self }) c.reserve.ensures.items

pub loop-turn-init : goal.loop-turn-init
loop-turn-init g c =
    let room : vec_len c.reserve.new.self + 1 ≤ vec_capacity c.reserve.new.self = search rules in (
      stands_first c.args.self.now c.args.m.now (g.P.Predicate.number c.args.pred.now) (g.P.Predicate.holds c.args.pred.now) c.args.pass.now c.args.key.now (record { acts = c.reserve.new.self }) c.args.turns.now.used (record { acts = c.reserve.new.self }) refl,
      c.requires.pass,
      c.requires.out,
      c.requires.key,
      c.requires.held,
      room,
      refl,
      c.requires.turns,
    )

pub returns-then-test-clause-waited : goal.returns-then-test-clause-waited
returns-then-test-clause-waited g c =
    let x = c.args.self.now in let m = c.args.m.now in
    let i = g.P.Predicate.number c.args.pred.now in let h = g.P.Predicate.holds c.args.pred.now in
    let p = c.args.pass.now in let k = c.args.key.now in
    let old = c.args.log.now in let used = c.args.turns.now.used in
    let s = since x m i h p k old (record { acts = c.reserve.new.self }) used c.reserve.ensures.items c.loop-turn.pass c.loop-turn.key c.loop-turn.log c.loop-turn.turns.used c.loop-turn.invariant.0 in
    let t = c.test.ensures.tested in
    ends x m i h p k old used c.loop-turn.pass c.loop-turn.key c.test.new.key c.loop-turn.log c.test.new.log c.loop-turn.turns.used s t.0 t.1 t.3 t.4 answers.True (sym t.2 ∙ c.if-test.true)

pub returns-then-is_err-2-clause-refused : goal.returns-then-is_err-2-clause-refused
returns-then-is_err-2-clause-refused g c =
    let x = c.args.self.now in let m = c.args.m.now in
    let i = g.P.Predicate.number c.args.pred.now in let h = g.P.Predicate.holds c.args.pred.now in
    let p = c.args.pass.now in let k = c.args.key.now in
    let old = c.args.log.now in let used = c.args.turns.now.used in
    let s = since x m i h p k old (record { acts = c.reserve.new.self }) used c.reserve.ensures.items c.loop-turn.pass c.loop-turn.key c.loop-turn.log c.loop-turn.turns.used c.loop-turn.invariant.0 in
    let t = c.test.ensures.tested in
    runs_out_then x m i h p k old used c.loop-turn.pass c.loop-turn.key c.test.new.key c.loop-turn.log c.test.new.log c.loop-turn.turns.used s t.0 t.1 t.3 t.4 (record { acts = c.reserve-in-loop-turn.new.self }) c.reserve-in-loop-turn.ensures.items (sym t.2 ∙ c.if-test.false)

pub loop-turn-preserved : goal.loop-turn-preserved
loop-turn-preserved g c =
    let x = c.args.self.now in let m = c.args.m.now in
    let i = g.P.Predicate.number c.args.pred.now in let h = g.P.Predicate.holds c.args.pred.now in
    let p = c.args.pass.now in let k = c.args.key.now in
    let used = c.args.turns.now.used in
    let s = c.loop-turn.invariant in
    let t = c.test.ensures.tested in
    let w = c.wait_once-hold.ensures in
    let a = w.waited in
    let made_room : vec_len c.reserve-in-loop-turn.new.self + 5 ≤ vec_capacity c.reserve-in-loop-turn.new.self = search rules in
    let had = c.reserve-in-loop-turn.new.self.ok.0 in
    let has = c.wait_once-hold.new.log.acts.ok.0 in
    let grown : length c.wait_once-hold.new.log.acts.items ≡ length (c.reserve-in-loop-turn.new.self.items ++ wait_acts c.loop-turn.pass.number c.test.new.key.number a.0) = ap (λ (ls : List Logged). length ls) a.1 in
    let long = length-append c.reserve-in-loop-turn.new.self.items (wait_acts c.loop-turn.pass.number c.test.new.key.number a.0) in
    let same_room = w.room in
    let at = s.6 in
    let below = c.loop-turn-test.true in (
      goes_on x m i h p k (record { acts = c.reserve.new.self }) used c.loop-turn.pass c.loop-turn.key c.test.new.key c.loop-turn.log c.test.new.log c.loop-turn.turns.used s.0 t.0 t.1 t.3 t.4 c.wait_once-hold.new.pass c.wait_once-hold.new.key (record { acts = c.reserve-in-loop-turn.new.self }) c.wait_once-hold.new.log c.reserve-in-loop-turn.ensures.items (sym t.2 ∙ c.if-test.false) a.0 a.1 a.2 a.3 w.number c.test.ensures.number w.key_number w.left c.test.ensures.left w.key_left (c.loop-turn.turns.used + 1) refl,
      w.idle,
      w.out,
      w.key,
      w.held,
      omega (arith, made_room, had, has, grown, long, same_room),
      ap (λ n. n + 1) at,
      omega (arith, at, below),
    )

pub returns-then-holds-clause-waited : goal.returns-then-holds-clause-waited
returns-then-holds-clause-waited g c =
    let x = c.args.self.now in let m = c.args.m.now in
    let i = g.P.Predicate.number c.args.pred.now in let h = g.P.Predicate.holds c.args.pred.now in
    let p = c.args.pass.now in let k = c.args.key.now in
    let old = c.args.log.now in let used = c.args.turns.now.used in
    let s = since x m i h p k old (record { acts = c.reserve.new.self }) used c.reserve.ensures.items c.loop-turn.pass c.loop-turn.key c.loop-turn.log c.loop-turn.turns.used c.loop-turn.invariant.0 in
    let t = c.test-holds.ensures.tested in
    ends x m i h p k old used c.loop-turn.pass c.loop-turn.key c.test-holds.new.key c.loop-turn.log c.test-holds.new.log c.loop-turn.turns.used s t.0 t.1 t.3 t.4 answers.True (sym t.2 ∙ c.if-holds.true)

pub returns-else-holds-clause-waited : goal.returns-else-holds-clause-waited
returns-else-holds-clause-waited g c =
    let x = c.args.self.now in let m = c.args.m.now in
    let i = g.P.Predicate.number c.args.pred.now in let h = g.P.Predicate.holds c.args.pred.now in
    let p = c.args.pass.now in let k = c.args.key.now in
    let old = c.args.log.now in let used = c.args.turns.now.used in
    let s = since x m i h p k old (record { acts = c.reserve.new.self }) used c.reserve.ensures.items c.loop-turn.pass c.loop-turn.key c.loop-turn.log c.loop-turn.turns.used c.loop-turn.invariant.0 in
    let t = c.test-holds.ensures.tested in
    let at = c.loop-turn.invariant.6 in
    let most = c.loop-turn.invariant.7 in
    let end = c.loop-turn-test.false in
    ends x m i h p k old used c.loop-turn.pass c.loop-turn.key c.test-holds.new.key c.loop-turn.log c.test-holds.new.log c.loop-turn.turns.used s t.0 t.1 t.3 t.4 answers.Spent (sym t.2 ∙ c.if-holds.false, omega (arith, at, most, end))
