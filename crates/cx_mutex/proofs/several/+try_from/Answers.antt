use Rattle.std.proofs.Common.{rules, ◌≡◌, ◌<◌, ◌≤◌, ◌+◌, ℕ, length, get_or, sym, subst, arith}
use Rattle.std.proofs.lemmas.Option.{slice_get_within}
use Rattle.cx_mutex.specs.declared.mutex.Mutex.{Mutex}
use Rattle.cx_mutex.specs.Mutexes.{IsMutexPass, IsHeldBy}
use Rattle.cx_mutex.specs.Together.{turned}
use Rattle.cx_mutex.proofs.Attempts.{P, Gave, all_within, passes_within, found, found_again, place_at, order_at, named_at, ready_still, others_once, others_then, others_back, rest_leaves, went_locked, taken_too, holds_too, missed_here, missed_later}
use Rattle.cx_mutex.proofs.several.+try_from.Goals as goal

pub offset_bounds-all-i : goal.offset_bounds-all-i
offset_bounds-all-i g t c =
    let all = c.args.all.now in
    let old = c.args.passes.now in
    let w = c.args.which.now in
    let s = c.args.start in
    let f = c.args.steps in
    let p = c.place_after-place.result in
    let i : ℕ = get_or w p 0 in
    let named = named_at w s f p c.place_after-place.ensures.within c.place_after-place.ensures.named in
    let lt = all_within all old (turned s w) f 2 i c.requires.ready named in
    search (rules, lt)

pub bounds-all-i : goal.bounds-all-i
bounds-all-i g t c =
    let all = c.args.all.now in
    let old = c.args.passes.now in
    let w = c.args.which.now in
    let s = c.args.start in
    let f = c.args.steps in
    let p = c.place_after-place.result in
    let i : ℕ = get_or w p 0 in
    let named = named_at w s f p c.place_after-place.ensures.within c.place_after-place.ensures.named in
    all_within all old (turned s w) f 2 i c.requires.ready named

pub offset_bounds-passes-i : goal.offset_bounds-passes-i
offset_bounds-passes-i g t c =
    let all = c.args.all.now in
    let old = c.args.passes.now in
    let w = c.args.which.now in
    let s = c.args.start in
    let f = c.args.steps in
    let p = c.place_after-place.result in
    let i : ℕ = get_or w p 0 in
    let named = named_at w s f p c.place_after-place.ensures.within c.place_after-place.ensures.named in
    let lt = passes_within all old (turned s w) f 2 i c.requires.ready named in
    search (rules, lt)

pub bounds-passes-i : goal.bounds-passes-i
bounds-passes-i g t c =
    let all = c.args.all.now in
    let old = c.args.passes.now in
    let w = c.args.which.now in
    let s = c.args.start in
    let f = c.args.steps in
    let p = c.place_after-place.result in
    let i : ℕ = get_or w p 0 in
    let named = named_at w s f p c.place_after-place.ensures.within c.place_after-place.ensures.named in
    passes_within all old (turned s w) f 2 i c.requires.ready named

pub try_lock-requires-clause-pass : goal.try_lock-requires-clause-pass
try_lock-requires-clause-pass g t c =
    let all = c.args.all.now in
    let old = c.args.passes.now in
    let w = c.args.which.now in
    let s = c.args.start in
    let f = c.args.steps in
    let p = c.place_after-place.result in
    let i : ℕ = get_or w p 0 in
    let named = named_at w s f p c.place_after-place.ensures.within c.place_after-place.ensures.named in
    let x = c.index-all-i.result in
    let o : P = get_or old i c.index-passes-i.result in
    let h = found all old (turned s w) f 2 i c.requires.ready named x c.index-passes-i.result c.index-all-i.is in
    h.ready.idle

pub try_lock-requires-clause-left : goal.try_lock-requires-clause-left
try_lock-requires-clause-left g t c =
    let all = c.args.all.now in
    let old = c.args.passes.now in
    let w = c.args.which.now in
    let s = c.args.start in
    let f = c.args.steps in
    let p = c.place_after-place.result in
    let i : ℕ = get_or w p 0 in
    let named = named_at w s f p c.place_after-place.ensures.within c.place_after-place.ensures.named in
    let x = c.index-all-i.result in
    let o : P = get_or old i c.index-passes-i.result in
    let h = found all old (turned s w) f 2 i c.requires.ready named x c.index-passes-i.result c.index-all-i.is in
    let l = h.ready.left in
    omega arith

pub try_lock-requires-clause-bare : goal.try_lock-requires-clause-bare
try_lock-requires-clause-bare g t c =
    let all = c.args.all.now in
    let old = c.args.passes.now in
    let w = c.args.which.now in
    let s = c.args.start in
    let f = c.args.steps in
    let p = c.place_after-place.result in
    let i : ℕ = get_or w p 0 in
    let named = named_at w s f p c.place_after-place.ensures.within c.place_after-place.ensures.named in
    let x = c.index-all-i.result in
    let o : P = get_or old i c.index-passes-i.result in
    let h = found all old (turned s w) f 2 i c.requires.ready named x c.index-passes-i.result c.index-all-i.is in
    h.ready.bare

pub try_from-requires : goal.try_from-requires
try_from-requires g t c κs within =
    let all = c.args.all.now in
    let old = c.args.passes.now in
    let w = c.args.which.now in
    let s = c.args.start in
    let f = c.args.steps in
    let p = c.place_after-place.result in
    let i : ℕ = get_or w p 0 in
    let named = named_at w s f p c.place_after-place.ensures.within c.place_after-place.ensures.named in
    let x = c.index-all-i.result in
    let o : P = get_or old i c.index-passes-i.result in
    let h = found all old (turned s w) f 2 i c.requires.ready named x c.index-passes-i.result c.index-all-i.is in
    let at = order_at w s f p c.place_after-place.ensures.within c.place_after-place.ensures.named in
    let at_place = place_at w p c.place_after-place.ensures.within in
    let low = c.requires.places.0 in
    let q = c.try_lock.new.pass in
    let ne = c.if-steps-which.false in
    let le = c.requires.places.1 in
    let more : f < length w = omega (arith, ne, le) in
    (search (rules, more), (within, ((low, omega (arith, more), c.requires.places.2), (c.requires.distinct, ready_still all w s low c.requires.distinct old f i p x o at at_place h.at_x h.at_o q c.requires.ready))))

pub offset_bounds-all-i-in-Some : goal.offset_bounds-all-i-in-Some
offset_bounds-all-i-in-Some g t c =
    let all = c.args.all.now in
    let old = c.args.passes.now in
    let w = c.args.which.now in
    let s = c.args.start in
    let f = c.args.steps in
    let p = c.place_after-place.result in
    let i : ℕ = get_or w p 0 in
    let named = named_at w s f p c.place_after-place.ensures.within c.place_after-place.ensures.named in
    let lt = all_within all old (turned s w) f 2 i c.requires.ready named in
    search (rules, lt)

pub bounds-all-i-in-Some : goal.bounds-all-i-in-Some
bounds-all-i-in-Some g t c =
    let all = c.args.all.now in
    let old = c.args.passes.now in
    let w = c.args.which.now in
    let s = c.args.start in
    let f = c.args.steps in
    let p = c.place_after-place.result in
    let i : ℕ = get_or w p 0 in
    let named = named_at w s f p c.place_after-place.ensures.within c.place_after-place.ensures.named in
    all_within all old (turned s w) f 2 i c.requires.ready named

pub offset_bounds-passes-i-in-Some : goal.offset_bounds-passes-i-in-Some
offset_bounds-passes-i-in-Some g t c =
    let all = c.args.all.now in
    let old = c.args.passes.now in
    let w = c.args.which.now in
    let s = c.args.start in
    let f = c.args.steps in
    let p = c.place_after-place.result in
    let i : ℕ = get_or w p 0 in
    let named = named_at w s f p c.place_after-place.ensures.within c.place_after-place.ensures.named in
    let x = c.index-all-i.result in
    let o : P = get_or old i c.index-passes-i.result in
    let h = found all old (turned s w) f 2 i c.requires.ready named x c.index-passes-i.result c.index-all-i.is in
    let at = order_at w s f p c.place_after-place.ensures.within c.place_after-place.ensures.named in
    let at_place = place_at w p c.place_after-place.ensures.within in
    let low = c.requires.places.0 in
    let q = c.try_lock.new.pass in
    let mid = c.try_from.new.passes in
    let leaves = rest_leaves all w s low c.requires.distinct old f i p x o at at_place h.at_x h.at_o q mid c.in-Some.ensures.others in
    let lt = slice_get_within mid i q leaves in
    search (rules, lt)

pub bounds-passes-i-in-Some : goal.bounds-passes-i-in-Some
bounds-passes-i-in-Some g t c =
    let all = c.args.all.now in
    let old = c.args.passes.now in
    let w = c.args.which.now in
    let s = c.args.start in
    let f = c.args.steps in
    let p = c.place_after-place.result in
    let i : ℕ = get_or w p 0 in
    let named = named_at w s f p c.place_after-place.ensures.within c.place_after-place.ensures.named in
    let x = c.index-all-i.result in
    let o : P = get_or old i c.index-passes-i.result in
    let h = found all old (turned s w) f 2 i c.requires.ready named x c.index-passes-i.result c.index-all-i.is in
    let at = order_at w s f p c.place_after-place.ensures.within c.place_after-place.ensures.named in
    let at_place = place_at w p c.place_after-place.ensures.within in
    let low = c.requires.places.0 in
    let q = c.try_lock.new.pass in
    let mid = c.try_from.new.passes in
    let leaves = rest_leaves all w s low c.requires.distinct old f i p x o at at_place h.at_x h.at_o q mid c.in-Some.ensures.others in
    slice_get_within mid i q leaves

pub unlock-requires-clause-pass : goal.unlock-requires-clause-pass
unlock-requires-clause-pass g t c =
    let all = c.args.all.now in
    let old = c.args.passes.now in
    let w = c.args.which.now in
    let s = c.args.start in
    let f = c.args.steps in
    let p = c.place_after-place.result in
    let i : ℕ = get_or w p 0 in
    let named = named_at w s f p c.place_after-place.ensures.within c.place_after-place.ensures.named in
    let x = c.index-all-i.result in
    let o : P = get_or old i c.index-passes-i.result in
    let h = found all old (turned s w) f 2 i c.requires.ready named x c.index-passes-i.result c.index-all-i.is in
    let at = order_at w s f p c.place_after-place.ensures.within c.place_after-place.ensures.named in
    let at_place = place_at w p c.place_after-place.ensures.within in
    let low = c.requires.places.0 in
    let q = c.try_lock.new.pass in
    let mid = c.try_from.new.passes in
    let leaves = rest_leaves all w s low c.requires.distinct old f i p x o at at_place h.at_x h.at_o q mid c.in-Some.ensures.others in
    let y = c.index-all-i-in-Some.result in
    let same = found_again all mid i x y q c.index-passes-i-in-Some.result h.at_x leaves c.index-all-i-in-Some.is in
    subst (λ (z : Mutex × P). IsMutexPass z.0 z.1) same c.try_lock.ensures.idle

pub unlock-requires-clause-left : goal.unlock-requires-clause-left
unlock-requires-clause-left g t c =
    let all = c.args.all.now in
    let old = c.args.passes.now in
    let w = c.args.which.now in
    let s = c.args.start in
    let f = c.args.steps in
    let p = c.place_after-place.result in
    let i : ℕ = get_or w p 0 in
    let named = named_at w s f p c.place_after-place.ensures.within c.place_after-place.ensures.named in
    let x = c.index-all-i.result in
    let o : P = get_or old i c.index-passes-i.result in
    let h = found all old (turned s w) f 2 i c.requires.ready named x c.index-passes-i.result c.index-all-i.is in
    let at = order_at w s f p c.place_after-place.ensures.within c.place_after-place.ensures.named in
    let at_place = place_at w p c.place_after-place.ensures.within in
    let low = c.requires.places.0 in
    let q = c.try_lock.new.pass in
    let mid = c.try_from.new.passes in
    let leaves = rest_leaves all w s low c.requires.distinct old f i p x o at at_place h.at_x h.at_o q mid c.in-Some.ensures.others in
    let y = c.index-all-i-in-Some.result in
    let same = found_again all mid i x y q c.index-passes-i-in-Some.result h.at_x leaves c.index-all-i-in-Some.is in
    let tried = c.in-Got.ensures.tried in
    let had = h.ready.left in
    let less = tried.0 in
    let one : 1 ≤ q.left = omega arith in
    subst (λ (z : Mutex × P). 1 ≤ z.1.left) same one

pub unlock-requires-clause-held : goal.unlock-requires-clause-held
unlock-requires-clause-held g t c =
    let all = c.args.all.now in
    let old = c.args.passes.now in
    let w = c.args.which.now in
    let s = c.args.start in
    let f = c.args.steps in
    let p = c.place_after-place.result in
    let i : ℕ = get_or w p 0 in
    let named = named_at w s f p c.place_after-place.ensures.within c.place_after-place.ensures.named in
    let x = c.index-all-i.result in
    let o : P = get_or old i c.index-passes-i.result in
    let h = found all old (turned s w) f 2 i c.requires.ready named x c.index-passes-i.result c.index-all-i.is in
    let at = order_at w s f p c.place_after-place.ensures.within c.place_after-place.ensures.named in
    let at_place = place_at w p c.place_after-place.ensures.within in
    let low = c.requires.places.0 in
    let q = c.try_lock.new.pass in
    let mid = c.try_from.new.passes in
    let leaves = rest_leaves all w s low c.requires.distinct old f i p x o at at_place h.at_x h.at_o q mid c.in-Some.ensures.others in
    let y = c.index-all-i-in-Some.result in
    let same = found_again all mid i x y q c.index-passes-i-in-Some.result h.at_x leaves c.index-all-i-in-Some.is in
    subst (λ (z : Mutex × P). IsHeldBy z.0 z.1 c.in-Got.hold) same c.in-Got.ensures.tried.1

pub returns-in-Not-clause-missed : goal.returns-in-Not-clause-missed
returns-in-Not-clause-missed g t c =
    let all = c.args.all.now in
    let old = c.args.passes.now in
    let w = c.args.which.now in
    let s = c.args.start in
    let f = c.args.steps in
    let p = c.place_after-place.result in
    let i : ℕ = get_or w p 0 in
    let named = named_at w s f p c.place_after-place.ensures.within c.place_after-place.ensures.named in
    let x = c.index-all-i.result in
    let o : P = get_or old i c.index-passes-i.result in
    let h = found all old (turned s w) f 2 i c.requires.ready named x c.index-passes-i.result c.index-all-i.is in
    let at = order_at w s f p c.place_after-place.ensures.within c.place_after-place.ensures.named in
    let at_place = place_at w p c.place_after-place.ensures.within in
    let low = c.requires.places.0 in
    let q = c.try_lock.new.pass in
    let tried = c.in-Not.ensures.tried in
    (c.place_after-place.ensures.within, missed_here all w s low c.requires.distinct old f i p x o at at_place h.at_x h.at_o q (c.in-Not.field-0, tried.3, tried.2) c.requires.ready c.try_lock.ensures.idle tried.1 tried.0)

pub returns-in-Not-clause-others : goal.returns-in-Not-clause-others
returns-in-Not-clause-others g t c =
    let all = c.args.all.now in
    let old = c.args.passes.now in
    let w = c.args.which.now in
    let s = c.args.start in
    let f = c.args.steps in
    let p = c.place_after-place.result in
    let i : ℕ = get_or w p 0 in
    let named = named_at w s f p c.place_after-place.ensures.within c.place_after-place.ensures.named in
    let x = c.index-all-i.result in
    let o : P = get_or old i c.index-passes-i.result in
    let h = found all old (turned s w) f 2 i c.requires.ready named x c.index-passes-i.result c.index-all-i.is in
    let at = order_at w s f p c.place_after-place.ensures.within c.place_after-place.ensures.named in
    let at_place = place_at w p c.place_after-place.ensures.within in
    let low = c.requires.places.0 in
    let q = c.try_lock.new.pass in
    others_once all w s low c.requires.distinct old f i p x o at at_place h.at_x h.at_o q

pub returns-in-None-clause-locked : goal.returns-in-None-clause-locked
returns-in-None-clause-locked g t c =
    let all = c.args.all.now in
    let old = c.args.passes.now in
    let w = c.args.which.now in
    let s = c.args.start in
    let f = c.args.steps in
    let p = c.place_after-place.result in
    let i : ℕ = get_or w p 0 in
    let named = named_at w s f p c.place_after-place.ensures.within c.place_after-place.ensures.named in
    let x = c.index-all-i.result in
    let o : P = get_or old i c.index-passes-i.result in
    let h = found all old (turned s w) f 2 i c.requires.ready named x c.index-passes-i.result c.index-all-i.is in
    let at = order_at w s f p c.place_after-place.ensures.within c.place_after-place.ensures.named in
    let at_place = place_at w p c.place_after-place.ensures.within in
    let low = c.requires.places.0 in
    let q = c.try_lock.new.pass in
    let tried = c.in-Got.ensures.tried in
    went_locked all w s low c.requires.distinct old f i p x o at at_place h.at_x h.at_o q c.try_from.new.passes (c.in-Got.field-1, tried.2) c.in-None.ensures.locked

pub returns-in-None-clause-held : goal.returns-in-None-clause-held
returns-in-None-clause-held g t c =
    let all = c.args.all.now in
    let old = c.args.passes.now in
    let w = c.args.which.now in
    let s = c.args.start in
    let f = c.args.steps in
    let p = c.place_after-place.result in
    let i : ℕ = get_or w p 0 in
    let named = named_at w s f p c.place_after-place.ensures.within c.place_after-place.ensures.named in
    let x = c.index-all-i.result in
    let o : P = get_or old i c.index-passes-i.result in
    let h = found all old (turned s w) f 2 i c.requires.ready named x c.index-passes-i.result c.index-all-i.is in
    let at = order_at w s f p c.place_after-place.ensures.within c.place_after-place.ensures.named in
    let at_place = place_at w p c.place_after-place.ensures.within in
    let low = c.requires.places.0 in
    let q = c.try_lock.new.pass in
    let tried = c.in-Got.ensures.tried in
    taken_too all w s low c.requires.distinct old f i p x o at at_place h.at_x h.at_o q c.try_from.new.passes c.try_from.new.holds c.put.new.self c.in-Got.hold c.in-None.ensures.others c.in-None.ensures.held c.try_lock.ensures.idle tried.1 tried.0 c.put.ensures.here c.put.ensures.others

pub returns-in-None-clause-kept : goal.returns-in-None-clause-kept
returns-in-None-clause-kept g t c =
    let all = c.args.all.now in
    let old = c.args.passes.now in
    let w = c.args.which.now in
    let s = c.args.start in
    let f = c.args.steps in
    let p = c.place_after-place.result in
    let i : ℕ = get_or w p 0 in
    let named = named_at w s f p c.place_after-place.ensures.within c.place_after-place.ensures.named in
    let x = c.index-all-i.result in
    let o : P = get_or old i c.index-passes-i.result in
    let h = found all old (turned s w) f 2 i c.requires.ready named x c.index-passes-i.result c.index-all-i.is in
    let at = order_at w s f p c.place_after-place.ensures.within c.place_after-place.ensures.named in
    let at_place = place_at w p c.place_after-place.ensures.within in
    let low = c.requires.places.0 in
    let q = c.try_lock.new.pass in
    holds_too all w s low c.requires.distinct old f i p x o at at_place h.at_x h.at_o c.args.holds.now c.try_from.new.holds c.put.new.self c.in-None.ensures.kept c.put.ensures.others

pub returns-in-None-clause-others : goal.returns-in-None-clause-others
returns-in-None-clause-others g t c =
    let all = c.args.all.now in
    let old = c.args.passes.now in
    let w = c.args.which.now in
    let s = c.args.start in
    let f = c.args.steps in
    let p = c.place_after-place.result in
    let i : ℕ = get_or w p 0 in
    let named = named_at w s f p c.place_after-place.ensures.within c.place_after-place.ensures.named in
    let x = c.index-all-i.result in
    let o : P = get_or old i c.index-passes-i.result in
    let h = found all old (turned s w) f 2 i c.requires.ready named x c.index-passes-i.result c.index-all-i.is in
    let at = order_at w s f p c.place_after-place.ensures.within c.place_after-place.ensures.named in
    let at_place = place_at w p c.place_after-place.ensures.within in
    let low = c.requires.places.0 in
    let q = c.try_lock.new.pass in
    others_then all w s low c.requires.distinct old f i p x o at at_place h.at_x h.at_o q c.try_from.new.passes c.in-None.ensures.others

pub returns-in-Some-clause-missed : goal.returns-in-Some-clause-missed
returns-in-Some-clause-missed g t c =
    let all = c.args.all.now in
    let old = c.args.passes.now in
    let w = c.args.which.now in
    let s = c.args.start in
    let f = c.args.steps in
    let p = c.place_after-place.result in
    let i : ℕ = get_or w p 0 in
    let named = named_at w s f p c.place_after-place.ensures.within c.place_after-place.ensures.named in
    let x = c.index-all-i.result in
    let o : P = get_or old i c.index-passes-i.result in
    let h = found all old (turned s w) f 2 i c.requires.ready named x c.index-passes-i.result c.index-all-i.is in
    let at = order_at w s f p c.place_after-place.ensures.within c.place_after-place.ensures.named in
    let at_place = place_at w p c.place_after-place.ensures.within in
    let low = c.requires.places.0 in
    let q = c.try_lock.new.pass in
    let mid = c.try_from.new.passes in
    let leaves = rest_leaves all w s low c.requires.distinct old f i p x o at at_place h.at_x h.at_o q mid c.in-Some.ensures.others in
    let y = c.index-all-i-in-Some.result in
    let same = found_again all mid i x y q c.index-passes-i-in-Some.result h.at_x leaves c.index-all-i-in-Some.is in
    let tried = c.in-Got.ensures.tried in
    let q' = c.unlock.new.pass in
    let there : Gave i q' y (get_or mid i c.index-passes-i-in-Some.result) = record { idle = c.unlock.ensures.idle; bare = c.unlock.ensures.bare; left = c.unlock.ensures.left; acted = (c.unlock.result, c.unlock.ensures.made) } in
    let gave : Gave i q' x q = subst (λ (z : Mutex × P). Gave i q' z.0 z.1) (sym same) there in
    let less : q'.left + 2 ≡ o.left = (let one = gave.left in let two = tried.0 in omega arith) in
    (c.in-Some.ensures.missed.0, missed_later all w s low c.requires.distinct old f i p x o at at_place h.at_x h.at_o q q' mid c.in-Some.owned c.in-Some.ensures.missed.1 c.in-Some.ensures.others (c.in-Got.field-1, tried.2) gave.acted gave.idle gave.bare less)

pub returns-in-Some-clause-others : goal.returns-in-Some-clause-others
returns-in-Some-clause-others g t c =
    let all = c.args.all.now in
    let old = c.args.passes.now in
    let w = c.args.which.now in
    let s = c.args.start in
    let f = c.args.steps in
    let p = c.place_after-place.result in
    let i : ℕ = get_or w p 0 in
    let named = named_at w s f p c.place_after-place.ensures.within c.place_after-place.ensures.named in
    let x = c.index-all-i.result in
    let o : P = get_or old i c.index-passes-i.result in
    let h = found all old (turned s w) f 2 i c.requires.ready named x c.index-passes-i.result c.index-all-i.is in
    let at = order_at w s f p c.place_after-place.ensures.within c.place_after-place.ensures.named in
    let at_place = place_at w p c.place_after-place.ensures.within in
    let low = c.requires.places.0 in
    let q = c.try_lock.new.pass in
    let mid = c.try_from.new.passes in
    let leaves = rest_leaves all w s low c.requires.distinct old f i p x o at at_place h.at_x h.at_o q mid c.in-Some.ensures.others in
    others_back all w s low c.requires.distinct old f i p x o at at_place h.at_x h.at_o q c.unlock.new.pass mid c.in-Some.ensures.others
