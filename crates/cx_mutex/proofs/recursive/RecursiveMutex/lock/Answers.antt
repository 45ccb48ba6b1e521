use Rattle.std.proofs.Common.{refl, pos}
use Rattle.cx_machine.specs.declared.kind.Op.TheVariants as ops
use Rattle.cx_machine.specs.Meaning.{change, look_of}
use Rattle.cx_mutex.specs.Recursives.{GetsLevel}
use Rattle.cx_mutex.proofs.LevelCounts.{has_some, gets, keeps, lock_adds_one}
use Rattle.cx_mutex.proofs.recursive.RecursiveMutex.lock.Given.{Over}
use Rattle.cx_mutex.proofs.recursive.RecursiveMutex.lock.Goals.{After-number}
use Rattle.cx_mutex.proofs.recursive.RecursiveMutex.lock.Goals as goal

got : (g : Over) (c : After-number g) → GetsLevel c.args.self.now c.args.pass.now c.wait_either.new.pass
got g c =
    let p = c.requires.pass in
    let by = c.args.pass.now.number in
    let r = c.in-Made.field-0 in
    let d = c.in-Made.ensures p.0 p.1 in
    gets c.args.self.now c.args.pass.now c.wait_either.new.pass p.0 d.0 p.1 d.1 (change by ops.Lock (pos 0) (pos 0) r) c.in-Made.at refl d.2 (λ now after free e. lock_adds_one now after by r free e)

pub returns-in-Made-clause-level : goal.returns-in-Made-clause-level
returns-in-Made-clause-level g c =
    let p = c.requires.pass in
    let had = has_some c.args.self.now c.args.pass.now p.0 p.1 in
    (c.number.ensures, had.0, (got g c had.0 had.1).1)

pub returns-in-Made-clause-more : goal.returns-in-Made-clause-more
returns-in-Made-clause-more g c = got g c

pub returns-in-Seen-clause-same : goal.returns-in-Seen-clause-same
returns-in-Seen-clause-same g c =
    let p = c.requires.pass in
    let d = c.in-Seen.ensures p.0 p.1 in
    keeps c.args.self.now c.args.pass.now c.wait_either.new.pass p.0 d.0 p.1 d.1 (look_of c.args.pass.now.number ops.Lock (pos 0) (pos 0) c.in-Seen.field-0 c.in-Seen.at) d.2
