use Rattle.std.proofs.Common.{◌≡◌, ◌<◌, arith}
use Rattle.cx_mutex.proofs.Backing.{goes_on, ends_locked, ends_spent, ends_free, ready_two}
use Rattle.cx_mutex.proofs.several.lock_all.Goals as goal

pub lock_round-requires-clause-ready : goal.lock_round-requires-clause-ready
lock_round-requires-clause-ready g c =
    let all = c.args.all.now in
    let w = c.args.which.now in
    let old = c.args.passes.now in
    let mid = c.loop-turn.passes in
    let first = c.args.turns.now.used in
    let used = c.loop-turn.turns.used in
    let start = c.loop-turn.start in
    let s = c.loop-turn.invariant.0 in
    ready_two all w old mid mid first used start s

pub returns-in-Ok-clause-locked : goal.returns-in-Ok-clause-locked
returns-in-Ok-clause-locked g c =
    let all = c.args.all.now in
    let w = c.args.which.now in
    let old = c.args.passes.now in
    let mid = c.loop-turn.passes in
    let first = c.args.turns.now.used in
    let used = c.loop-turn.turns.used in
    let start = c.loop-turn.start in
    let s = c.loop-turn.invariant.0 in
    let new = c.lock_round.new.passes in
    ends_locked all w old mid new first used start s c.in-Ok.ensures.locked

pub loop-turn-preserved : goal.loop-turn-preserved
loop-turn-preserved g c =
    let all = c.args.all.now in
    let w = c.args.which.now in
    let old = c.args.passes.now in
    let mid = c.loop-turn.passes in
    let first = c.args.turns.now.used in
    let used = c.loop-turn.turns.used in
    let start = c.loop-turn.start in
    let s = c.loop-turn.invariant.0 in
    let new = c.lock_round.new.passes in
    let same = c.loop-turn.invariant.1 in
    let test = c.loop-turn-test.true in
    let more : used < 16384 = omega (arith, same, test) in
    (goes_on all w old mid new first used start s c.in-Err.owned more c.in-Err.ensures.backs_off.0 c.in-Err.ensures.backs_off.1 c.in-Err.ensures.free c.in-Err.ensures.others, omega (arith, same))

pub lock_round-requires-2-clause-ready : goal.lock_round-requires-2-clause-ready
lock_round-requires-2-clause-ready g c =
    let all = c.args.all.now in
    let w = c.args.which.now in
    let old = c.args.passes.now in
    let mid = c.loop-turn.passes in
    let first = c.args.turns.now.used in
    let used = c.loop-turn.turns.used in
    let start = c.loop-turn.start in
    let s = c.loop-turn.invariant.0 in
    ready_two all w old mid mid first used start s

pub returns-in-Ok-lock_round-clause-locked : goal.returns-in-Ok-lock_round-clause-locked
returns-in-Ok-lock_round-clause-locked g c =
    let all = c.args.all.now in
    let w = c.args.which.now in
    let old = c.args.passes.now in
    let mid = c.loop-turn.passes in
    let first = c.args.turns.now.used in
    let used = c.loop-turn.turns.used in
    let start = c.loop-turn.start in
    let s = c.loop-turn.invariant.0 in
    let new = c.lock_round-2.new.passes in
    ends_locked all w old mid new first used start s c.in-Ok-lock_round.ensures.locked

pub returns-in-Err-lock_round-clause-spent : goal.returns-in-Err-lock_round-clause-spent
returns-in-Err-lock_round-clause-spent g c =
    let all = c.args.all.now in
    let w = c.args.which.now in
    let old = c.args.passes.now in
    let mid = c.loop-turn.passes in
    let first = c.args.turns.now.used in
    let used = c.loop-turn.turns.used in
    let start = c.loop-turn.start in
    let s = c.loop-turn.invariant.0 in
    let new = c.lock_round-2.new.passes in
    let same = c.loop-turn.invariant.1 in
    let test = c.loop-turn-test.false in
    let most = s.most in
    let all_used : used ≡ 16384 = omega (arith, same, test, most) in
    (all_used, ends_spent all w old mid new first used start s c.in-Err-lock_round.field-0 all_used c.in-Err-lock_round.ensures.backs_off.1)

pub returns-in-Err-lock_round-clause-free : goal.returns-in-Err-lock_round-clause-free
returns-in-Err-lock_round-clause-free g c =
    let all = c.args.all.now in
    let w = c.args.which.now in
    let old = c.args.passes.now in
    let mid = c.loop-turn.passes in
    let first = c.args.turns.now.used in
    let used = c.loop-turn.turns.used in
    let start = c.loop-turn.start in
    let s = c.loop-turn.invariant.0 in
    let new = c.lock_round-2.new.passes in
    ends_free all w old mid new first used start s c.in-Err-lock_round.ensures.free
