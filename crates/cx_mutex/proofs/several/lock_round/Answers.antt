use Rattle.std.proofs.Common.{rules, ◌≡◌, ◌≤◌, ◌+◌, ℕ, suc, get_or, set, sym, subst, arith}
use Rattle.std.proofs.lemmas.Option.{slice_get_within}
use Rattle.cx_mutex.specs.declared.mutex.Mutex.{Mutex}
use Rattle.cx_mutex.specs.Mutexes.{IsMutexPass, IsHeldBy}
use Rattle.cx_mutex.specs.Together.{IsNamed}
use Rattle.cx_mutex.proofs.Attempts.{P, Gave, all_within, passes_within, found, found_again, place_at, ready_still, others_then, others_back, rest_leaves, taken_too, holds_too, freed_too, first_at, round_locks, round_backs_off}
use Rattle.cx_mutex.proofs.Whole.{ready_turned, others_all, held_all, free_all, none_beyond}
use Rattle.cx_mutex.proofs.several.lock_round.Goals as goal

pub offset_bounds-all-first : goal.offset_bounds-all-first
offset_bounds-all-first g c =
    let all = c.args.all.now in
    let old = c.args.passes.now in
    let w = c.args.which.now in
    let s = c.args.start in
    let low = c.requires.places.0 in
    let i : ℕ = get_or w s 0 in
    let at_place = place_at w s low in
    let named : IsNamed w 0 i = (s, omega arith, at_place) in
    let lt = all_within all old w 0 2 i c.requires.ready named in
    search (rules, lt)

pub bounds-all-first : goal.bounds-all-first
bounds-all-first g c =
    let all = c.args.all.now in
    let old = c.args.passes.now in
    let w = c.args.which.now in
    let s = c.args.start in
    let low = c.requires.places.0 in
    let i : ℕ = get_or w s 0 in
    let at_place = place_at w s low in
    let named : IsNamed w 0 i = (s, omega arith, at_place) in
    all_within all old w 0 2 i c.requires.ready named

pub offset_bounds-passes-first : goal.offset_bounds-passes-first
offset_bounds-passes-first g c =
    let all = c.args.all.now in
    let old = c.args.passes.now in
    let w = c.args.which.now in
    let s = c.args.start in
    let low = c.requires.places.0 in
    let i : ℕ = get_or w s 0 in
    let at_place = place_at w s low in
    let named : IsNamed w 0 i = (s, omega arith, at_place) in
    let lt = passes_within all old w 0 2 i c.requires.ready named in
    search (rules, lt)

pub bounds-passes-first : goal.bounds-passes-first
bounds-passes-first g c =
    let all = c.args.all.now in
    let old = c.args.passes.now in
    let w = c.args.which.now in
    let s = c.args.start in
    let low = c.requires.places.0 in
    let i : ℕ = get_or w s 0 in
    let at_place = place_at w s low in
    let named : IsNamed w 0 i = (s, omega arith, at_place) in
    passes_within all old w 0 2 i c.requires.ready named

pub lock-requires-clause-pass : goal.lock-requires-clause-pass
lock-requires-clause-pass g c =
    let all = c.args.all.now in
    let old = c.args.passes.now in
    let w = c.args.which.now in
    let s = c.args.start in
    let low = c.requires.places.0 in
    let i : ℕ = get_or w s 0 in
    let at_place = place_at w s low in
    let named : IsNamed w 0 i = (s, omega arith, at_place) in
    let x = c.index-all-first.result in
    let o : P = get_or old i c.index-passes-first.result in
    let h = found all old w 0 2 i c.requires.ready named x c.index-passes-first.result c.index-all-first.is in
    h.ready.idle

pub lock-requires-clause-left : goal.lock-requires-clause-left
lock-requires-clause-left g c =
    let all = c.args.all.now in
    let old = c.args.passes.now in
    let w = c.args.which.now in
    let s = c.args.start in
    let low = c.requires.places.0 in
    let i : ℕ = get_or w s 0 in
    let at_place = place_at w s low in
    let named : IsNamed w 0 i = (s, omega arith, at_place) in
    let x = c.index-all-first.result in
    let o : P = get_or old i c.index-passes-first.result in
    let h = found all old w 0 2 i c.requires.ready named x c.index-passes-first.result c.index-all-first.is in
    let l = h.ready.left in
    omega arith

pub lock-requires-clause-bare : goal.lock-requires-clause-bare
lock-requires-clause-bare g c =
    let all = c.args.all.now in
    let old = c.args.passes.now in
    let w = c.args.which.now in
    let s = c.args.start in
    let low = c.requires.places.0 in
    let i : ℕ = get_or w s 0 in
    let at_place = place_at w s low in
    let named : IsNamed w 0 i = (s, omega arith, at_place) in
    let x = c.index-all-first.result in
    let o : P = get_or old i c.index-passes-first.result in
    let h = found all old w 0 2 i c.requires.ready named x c.index-passes-first.result c.index-all-first.is in
    h.ready.bare

pub try_from-requires-clause-ready : goal.try_from-requires-clause-ready
try_from-requires-clause-ready g c =
    let all = c.args.all.now in
    let old = c.args.passes.now in
    let w = c.args.which.now in
    let s = c.args.start in
    let low = c.requires.places.0 in
    let i : ℕ = get_or w s 0 in
    let at_place = place_at w s low in
    let named : IsNamed w 0 i = (s, omega arith, at_place) in
    let x = c.index-all-first.result in
    let o : P = get_or old i c.index-passes-first.result in
    let h = found all old w 0 2 i c.requires.ready named x c.index-passes-first.result c.index-all-first.is in
    let at = first_at all w s low c.requires.distinct old i x o at_place h.at_x h.at_o in
    let ready = ready_turned all w s low old 2 c.requires.ready in
    let q = c.lock.new.pass in
    ready_still all w s low c.requires.distinct old 0 i s x o at at_place h.at_x h.at_o q ready

pub offset_bounds-all-first-in-Some : goal.offset_bounds-all-first-in-Some
offset_bounds-all-first-in-Some g c =
    let all = c.args.all.now in
    let old = c.args.passes.now in
    let w = c.args.which.now in
    let s = c.args.start in
    let low = c.requires.places.0 in
    let i : ℕ = get_or w s 0 in
    let at_place = place_at w s low in
    let named : IsNamed w 0 i = (s, omega arith, at_place) in
    let lt = all_within all old w 0 2 i c.requires.ready named in
    search (rules, lt)

pub bounds-all-first-in-Some : goal.bounds-all-first-in-Some
bounds-all-first-in-Some g c =
    let all = c.args.all.now in
    let old = c.args.passes.now in
    let w = c.args.which.now in
    let s = c.args.start in
    let low = c.requires.places.0 in
    let i : ℕ = get_or w s 0 in
    let at_place = place_at w s low in
    let named : IsNamed w 0 i = (s, omega arith, at_place) in
    all_within all old w 0 2 i c.requires.ready named

pub offset_bounds-passes-first-in-Some : goal.offset_bounds-passes-first-in-Some
offset_bounds-passes-first-in-Some g c =
    let all = c.args.all.now in
    let old = c.args.passes.now in
    let w = c.args.which.now in
    let s = c.args.start in
    let low = c.requires.places.0 in
    let i : ℕ = get_or w s 0 in
    let at_place = place_at w s low in
    let named : IsNamed w 0 i = (s, omega arith, at_place) in
    let x = c.index-all-first.result in
    let o : P = get_or old i c.index-passes-first.result in
    let h = found all old w 0 2 i c.requires.ready named x c.index-passes-first.result c.index-all-first.is in
    let at = first_at all w s low c.requires.distinct old i x o at_place h.at_x h.at_o in
    let ready = ready_turned all w s low old 2 c.requires.ready in
    let q = c.lock.new.pass in
    let mid = c.try_from.new.passes in
    let leaves = rest_leaves all w s low c.requires.distinct old 0 i s x o at at_place h.at_x h.at_o q mid c.in-Some.ensures.others in
    let lt = slice_get_within mid i q leaves in
    search (rules, lt)

pub bounds-passes-first-in-Some : goal.bounds-passes-first-in-Some
bounds-passes-first-in-Some g c =
    let all = c.args.all.now in
    let old = c.args.passes.now in
    let w = c.args.which.now in
    let s = c.args.start in
    let low = c.requires.places.0 in
    let i : ℕ = get_or w s 0 in
    let at_place = place_at w s low in
    let named : IsNamed w 0 i = (s, omega arith, at_place) in
    let x = c.index-all-first.result in
    let o : P = get_or old i c.index-passes-first.result in
    let h = found all old w 0 2 i c.requires.ready named x c.index-passes-first.result c.index-all-first.is in
    let at = first_at all w s low c.requires.distinct old i x o at_place h.at_x h.at_o in
    let ready = ready_turned all w s low old 2 c.requires.ready in
    let q = c.lock.new.pass in
    let mid = c.try_from.new.passes in
    let leaves = rest_leaves all w s low c.requires.distinct old 0 i s x o at at_place h.at_x h.at_o q mid c.in-Some.ensures.others in
    slice_get_within mid i q leaves

pub unlock-requires-clause-pass : goal.unlock-requires-clause-pass
unlock-requires-clause-pass g c =
    let all = c.args.all.now in
    let old = c.args.passes.now in
    let w = c.args.which.now in
    let s = c.args.start in
    let low = c.requires.places.0 in
    let i : ℕ = get_or w s 0 in
    let at_place = place_at w s low in
    let named : IsNamed w 0 i = (s, omega arith, at_place) in
    let x = c.index-all-first.result in
    let o : P = get_or old i c.index-passes-first.result in
    let h = found all old w 0 2 i c.requires.ready named x c.index-passes-first.result c.index-all-first.is in
    let at = first_at all w s low c.requires.distinct old i x o at_place h.at_x h.at_o in
    let ready = ready_turned all w s low old 2 c.requires.ready in
    let q = c.lock.new.pass in
    let mid = c.try_from.new.passes in
    let leaves = rest_leaves all w s low c.requires.distinct old 0 i s x o at at_place h.at_x h.at_o q mid c.in-Some.ensures.others in
    let y = c.index-all-first-in-Some.result in
    let same = found_again all mid i x y q c.index-passes-first-in-Some.result h.at_x leaves c.index-all-first-in-Some.is in
    subst (λ (z : Mutex × P). IsMutexPass z.0 z.1) same c.lock.ensures.idle

pub unlock-requires-clause-left : goal.unlock-requires-clause-left
unlock-requires-clause-left g c =
    let all = c.args.all.now in
    let old = c.args.passes.now in
    let w = c.args.which.now in
    let s = c.args.start in
    let low = c.requires.places.0 in
    let i : ℕ = get_or w s 0 in
    let at_place = place_at w s low in
    let named : IsNamed w 0 i = (s, omega arith, at_place) in
    let x = c.index-all-first.result in
    let o : P = get_or old i c.index-passes-first.result in
    let h = found all old w 0 2 i c.requires.ready named x c.index-passes-first.result c.index-all-first.is in
    let at = first_at all w s low c.requires.distinct old i x o at_place h.at_x h.at_o in
    let ready = ready_turned all w s low old 2 c.requires.ready in
    let q = c.lock.new.pass in
    let mid = c.try_from.new.passes in
    let leaves = rest_leaves all w s low c.requires.distinct old 0 i s x o at at_place h.at_x h.at_o q mid c.in-Some.ensures.others in
    let y = c.index-all-first-in-Some.result in
    let same = found_again all mid i x y q c.index-passes-first-in-Some.result h.at_x leaves c.index-all-first-in-Some.is in
    let had = h.ready.left in
    let less = c.lock.ensures.left in
    let one : 1 ≤ q.left = omega arith in
    subst (λ (z : Mutex × P). 1 ≤ z.1.left) same one

pub unlock-requires-clause-held : goal.unlock-requires-clause-held
unlock-requires-clause-held g c =
    let all = c.args.all.now in
    let old = c.args.passes.now in
    let w = c.args.which.now in
    let s = c.args.start in
    let low = c.requires.places.0 in
    let i : ℕ = get_or w s 0 in
    let at_place = place_at w s low in
    let named : IsNamed w 0 i = (s, omega arith, at_place) in
    let x = c.index-all-first.result in
    let o : P = get_or old i c.index-passes-first.result in
    let h = found all old w 0 2 i c.requires.ready named x c.index-passes-first.result c.index-all-first.is in
    let at = first_at all w s low c.requires.distinct old i x o at_place h.at_x h.at_o in
    let ready = ready_turned all w s low old 2 c.requires.ready in
    let q = c.lock.new.pass in
    let mid = c.try_from.new.passes in
    let leaves = rest_leaves all w s low c.requires.distinct old 0 i s x o at at_place h.at_x h.at_o q mid c.in-Some.ensures.others in
    let y = c.index-all-first-in-Some.result in
    let same = found_again all mid i x y q c.index-passes-first-in-Some.result h.at_x leaves c.index-all-first-in-Some.is in
    subst (λ (z : Mutex × P). IsHeldBy z.0 z.1 c.lock.result.0) same c.lock.ensures.held

pub returns-in-None-clause-locked : goal.returns-in-None-clause-locked
returns-in-None-clause-locked g c =
    let all = c.args.all.now in
    let old = c.args.passes.now in
    let w = c.args.which.now in
    let s = c.args.start in
    let low = c.requires.places.0 in
    let i : ℕ = get_or w s 0 in
    let at_place = place_at w s low in
    let named : IsNamed w 0 i = (s, omega arith, at_place) in
    let x = c.index-all-first.result in
    let o : P = get_or old i c.index-passes-first.result in
    let h = found all old w 0 2 i c.requires.ready named x c.index-passes-first.result c.index-all-first.is in
    let at = first_at all w s low c.requires.distinct old i x o at_place h.at_x h.at_o in
    let ready = ready_turned all w s low old 2 c.requires.ready in
    let q = c.lock.new.pass in
    round_locks all w s low c.requires.distinct old i x o at_place h.at_x h.at_o q c.try_from.new.passes (c.lock.result.1, c.lock.ensures.made) c.in-None.ensures.locked

pub returns-in-None-clause-held : goal.returns-in-None-clause-held
returns-in-None-clause-held g c =
    let all = c.args.all.now in
    let old = c.args.passes.now in
    let w = c.args.which.now in
    let s = c.args.start in
    let low = c.requires.places.0 in
    let i : ℕ = get_or w s 0 in
    let at_place = place_at w s low in
    let named : IsNamed w 0 i = (s, omega arith, at_place) in
    let x = c.index-all-first.result in
    let o : P = get_or old i c.index-passes-first.result in
    let h = found all old w 0 2 i c.requires.ready named x c.index-passes-first.result c.index-all-first.is in
    let at = first_at all w s low c.requires.distinct old i x o at_place h.at_x h.at_o in
    let ready = ready_turned all w s low old 2 c.requires.ready in
    let q = c.lock.new.pass in
    let new = c.try_from.new.passes in
    let holds = c.put.new.self in
    let taken = taken_too all w s low c.requires.distinct old 0 i s x o at at_place h.at_x h.at_o q new c.try_from.new.holds holds c.lock.result.0 c.in-None.ensures.others c.in-None.ensures.held c.lock.ensures.idle c.lock.ensures.held c.lock.ensures.left c.put.ensures.here c.put.ensures.others in
    let kept = holds_too all w s low c.requires.distinct old 0 i s x o at at_place h.at_x h.at_o c.none-holds.result c.try_from.new.holds holds c.in-None.ensures.kept c.put.ensures.others in
    (held_all all w s low old new holds 2 c.requires.distinct c.requires.ready taken, none_beyond all w s low holds c.none-holds.result c.none-holds.ensures kept)

pub returns-in-None-clause-others : goal.returns-in-None-clause-others
returns-in-None-clause-others g c =
    let all = c.args.all.now in
    let old = c.args.passes.now in
    let w = c.args.which.now in
    let s = c.args.start in
    let low = c.requires.places.0 in
    let i : ℕ = get_or w s 0 in
    let at_place = place_at w s low in
    let named : IsNamed w 0 i = (s, omega arith, at_place) in
    let x = c.index-all-first.result in
    let o : P = get_or old i c.index-passes-first.result in
    let h = found all old w 0 2 i c.requires.ready named x c.index-passes-first.result c.index-all-first.is in
    let at = first_at all w s low c.requires.distinct old i x o at_place h.at_x h.at_o in
    let ready = ready_turned all w s low old 2 c.requires.ready in
    let q = c.lock.new.pass in
    let new = c.try_from.new.passes in
    others_all all w s low old new (others_then all w s low c.requires.distinct old 0 i s x o at at_place h.at_x h.at_o q new c.in-None.ensures.others)

pub returns-in-Some-clause-backs_off : goal.returns-in-Some-clause-backs_off
returns-in-Some-clause-backs_off g c =
    let all = c.args.all.now in
    let old = c.args.passes.now in
    let w = c.args.which.now in
    let s = c.args.start in
    let low = c.requires.places.0 in
    let i : ℕ = get_or w s 0 in
    let at_place = place_at w s low in
    let named : IsNamed w 0 i = (s, omega arith, at_place) in
    let x = c.index-all-first.result in
    let o : P = get_or old i c.index-passes-first.result in
    let h = found all old w 0 2 i c.requires.ready named x c.index-passes-first.result c.index-all-first.is in
    let at = first_at all w s low c.requires.distinct old i x o at_place h.at_x h.at_o in
    let ready = ready_turned all w s low old 2 c.requires.ready in
    let q = c.lock.new.pass in
    let mid = c.try_from.new.passes in
    let leaves = rest_leaves all w s low c.requires.distinct old 0 i s x o at at_place h.at_x h.at_o q mid c.in-Some.ensures.others in
    let y = c.index-all-first-in-Some.result in
    let same = found_again all mid i x y q c.index-passes-first-in-Some.result h.at_x leaves c.index-all-first-in-Some.is in
    let q' = c.unlock.new.pass in
    let there : Gave i q' y (get_or mid i c.index-passes-first-in-Some.result) = record { idle = c.unlock.ensures.idle; bare = c.unlock.ensures.bare; left = c.unlock.ensures.left; acted = (c.unlock.result, c.unlock.ensures.made) } in
    let gave : Gave i q' x q = subst (λ (z : Mutex × P). Gave i q' z.0 z.1) (sym same) there in
    (c.in-Some.ensures.missed.0, round_backs_off all w s low c.requires.distinct old i x o at_place h.at_x h.at_o q q' mid c.in-Some.owned c.in-Some.ensures.missed.1 leaves (c.lock.result.1, c.lock.ensures.made) gave.acted)

pub returns-in-Some-clause-free : goal.returns-in-Some-clause-free
returns-in-Some-clause-free g c =
    let all = c.args.all.now in
    let old = c.args.passes.now in
    let w = c.args.which.now in
    let s = c.args.start in
    let low = c.requires.places.0 in
    let i : ℕ = get_or w s 0 in
    let at_place = place_at w s low in
    let named : IsNamed w 0 i = (s, omega arith, at_place) in
    let x = c.index-all-first.result in
    let o : P = get_or old i c.index-passes-first.result in
    let h = found all old w 0 2 i c.requires.ready named x c.index-passes-first.result c.index-all-first.is in
    let at = first_at all w s low c.requires.distinct old i x o at_place h.at_x h.at_o in
    let ready = ready_turned all w s low old 2 c.requires.ready in
    let q = c.lock.new.pass in
    let mid = c.try_from.new.passes in
    let leaves = rest_leaves all w s low c.requires.distinct old 0 i s x o at at_place h.at_x h.at_o q mid c.in-Some.ensures.others in
    let y = c.index-all-first-in-Some.result in
    let same = found_again all mid i x y q c.index-passes-first-in-Some.result h.at_x leaves c.index-all-first-in-Some.is in
    let q' = c.unlock.new.pass in
    let there : Gave i q' y (get_or mid i c.index-passes-first-in-Some.result) = record { idle = c.unlock.ensures.idle; bare = c.unlock.ensures.bare; left = c.unlock.ensures.left; acted = (c.unlock.result, c.unlock.ensures.made) } in
    let gave : Gave i q' x q = subst (λ (z : Mutex × P). Gave i q' z.0 z.1) (sym same) there in
    let rest = c.in-Some.ensures.missed.1 in
    let j = rest.0 in
    let less : q'.left + 2 ≡ o.left = (let one = gave.left in let two = c.lock.ensures.left in omega arith) in
    free_all all w s low old (set mid i q') (0 + suc j) (freed_too all w s low c.requires.distinct old 0 i s x o at at_place h.at_x h.at_o q q' mid j rest.5 c.in-Some.ensures.others gave.idle gave.bare less)

pub returns-in-Some-clause-others : goal.returns-in-Some-clause-others
returns-in-Some-clause-others g c =
    let all = c.args.all.now in
    let old = c.args.passes.now in
    let w = c.args.which.now in
    let s = c.args.start in
    let low = c.requires.places.0 in
    let i : ℕ = get_or w s 0 in
    let at_place = place_at w s low in
    let named : IsNamed w 0 i = (s, omega arith, at_place) in
    let x = c.index-all-first.result in
    let o : P = get_or old i c.index-passes-first.result in
    let h = found all old w 0 2 i c.requires.ready named x c.index-passes-first.result c.index-all-first.is in
    let at = first_at all w s low c.requires.distinct old i x o at_place h.at_x h.at_o in
    let ready = ready_turned all w s low old 2 c.requires.ready in
    let q = c.lock.new.pass in
    let mid = c.try_from.new.passes in
    let leaves = rest_leaves all w s low c.requires.distinct old 0 i s x o at at_place h.at_x h.at_o q mid c.in-Some.ensures.others in
    let q' = c.unlock.new.pass in
    others_all all w s low old (set mid i q') (others_back all w s low c.requires.distinct old 0 i s x o at at_place h.at_x h.at_o q q' mid c.in-Some.ensures.others)
