use Rattle.std.proofs.Common.{true, false, refl, pos}
use Rattle.cx_machine.specs.declared.kind.Op.TheVariants as ops
use Rattle.cx_machine.specs.Meaning.{change}
use Rattle.cx_shared_mutex.proofs.Owners.{left_bare, reader_unlocks}
use Rattle.cx_shared_mutex.proofs.Passes.{owns_now, owns_then, owns_found}
use Rattle.cx_shared_mutex.proofs.shared_mutex.SharedMutex.unlock_shared.Goals as goal

pub unreachable-requires : goal.unreachable-requires
unreachable-requires g c =
    let p = c.requires.pass in
    let f = c.in-None.ensures.none p.0 p.1 in
    reader_unlocks f.2.now c.args.pass.now.number (owns_found c.args.self.now c.args.pass.now c.try_change.new.pass p.0 f.0 p.1 f.1 _ f.2 false true c.requires.shared.1) f.2.holds

pub returns-clause-bare : goal.returns-clause-bare
returns-clause-bare g c =
    let by = c.args.pass.now.number in
    let p = c.requires.pass in
    let d = c.in-Some.ensures.made p.0 p.1 in
    let e = change by ops.UnlockShared (pos 0) (pos 0) c.in-Some.field-0-0 in
    let held = owns_now c.args.self.now c.args.pass.now c.try_change.new.pass p.0 d.0 p.1 d.1 e c.in-Some.at refl d.2 false true c.requires.shared.1 in
    owns_then c.args.self.now c.args.pass.now c.try_change.new.pass p.0 d.0 p.1 d.1 e c.in-Some.at refl d.2 false false (left_bare d.2.now d.2.after by c.in-Some.field-0-0 held d.2.enabled).1
