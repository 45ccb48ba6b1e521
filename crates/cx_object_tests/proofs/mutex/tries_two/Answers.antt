use Rattle.std.proofs.Common.{◌≡◌, ◌≤◌, ℕ, arith}
use Rattle.cx_mutex.specs.Together.{IsReady}
use Rattle.cx_mutex.proofs.Pairs.{distinct_pair, ready_pair}
use Rattle.cx_object_tests.proofs.mutex.tries_two.Goals as goal

pub try_lock_all-requires-clause-distinct : goal.try_lock_all-requires-clause-distinct
try_lock_all-requires-clause-distinct g c = distinct_pair

pub try_lock_all-requires-clause-ready : goal.try_lock_all-requires-clause-ready
try_lock_all-requires-clause-ready g c =
    let one = c.in_ok-one.ensures.first in
    let two = c.in_ok-two.ensures.first in
    let first : IsReady 2 c.in_ok-one.one c.in_ok-one.of_one = record { idle = one.0; bare = one.1; left = (let l = one.2 in omega arith) } in
    let second : IsReady 2 c.in_ok-two.two c.in_ok-two.of_two = record { idle = two.0; bare = two.1; left = (let l = two.2 in omega arith) } in
    ready_pair 2 c.in_ok-one.one c.in_ok-two.two c.in_ok-one.of_one c.in_ok-two.of_two first second
