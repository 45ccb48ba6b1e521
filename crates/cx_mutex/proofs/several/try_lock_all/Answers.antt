use Rattle.std.proofs.Common.{◌<◌, ◌+◌, length, arith}
use Rattle.cx_mutex.proofs.Whole.{ready_turned, held_all, free_all, free_now, none_beyond, missed_all, less_missed, less_taken}
use Rattle.cx_mutex.proofs.several.try_lock_all.Goals as goal

pub try_from-requires-clause-ready : goal.try_from-requires-clause-ready
try_from-requires-clause-ready g c =
    let all = c.args.all.now in
    let old = c.args.passes.now in
    let w = c.args.which.now in
    let low : 0 < length w = (let l = c.requires.places.0 in omega arith) in
    ready_turned all w 0 low old 2 c.requires.ready

pub returns-in-None-clause-held : goal.returns-in-None-clause-held
returns-in-None-clause-held g c =
    let all = c.args.all.now in
    let old = c.args.passes.now in
    let w = c.args.which.now in
    let low : 0 < length w = (let l = c.requires.places.0 in omega arith) in
    let new = c.try_from.new.passes in
    let holds = c.try_from.new.holds in
    (held_all all w 0 low old new holds 2 c.requires.distinct c.requires.ready c.in-None.ensures.held, none_beyond all w 0 low holds c.none-holds.result c.none-holds.ensures c.in-None.ensures.kept)

pub returns-in-None-clause-locked_left : goal.returns-in-None-clause-locked_left
returns-in-None-clause-locked_left g c =
    let all = c.args.all.now in
    let old = c.args.passes.now in
    let w = c.args.which.now in
    let low : 0 < length w = (let l = c.requires.places.0 in omega arith) in
    less_taken all w low old c.try_from.new.passes c.try_from.new.holds 2 c.requires.ready c.in-None.ensures.held

pub returns-in-Some-clause-free : goal.returns-in-Some-clause-free
returns-in-Some-clause-free g c =
    let all = c.args.all.now in
    let old = c.args.passes.now in
    let w = c.args.which.now in
    let low : 0 < length w = (let l = c.requires.places.0 in omega arith) in
    let new = c.try_from.new.passes in
    let rest = c.in-Some.ensures.missed.1 in
    free_now all w old new 2 c.requires.ready (free_all all w 0 low old new (0 + rest.0) rest.5)

pub returns-in-Some-clause-missed_left : goal.returns-in-Some-clause-missed_left
returns-in-Some-clause-missed_left g c =
    let all = c.args.all.now in
    let old = c.args.passes.now in
    let w = c.args.which.now in
    let low : 0 < length w = (let l = c.requires.places.0 in omega arith) in
    let new = c.try_from.new.passes in
    let m = missed_all all w old new c.in-Some.owned c.requires.distinct c.in-Some.ensures.missed.1 in
    less_missed all w old new 2 c.in-Some.owned m.1.0 c.requires.ready m.1.1 m.1.2
