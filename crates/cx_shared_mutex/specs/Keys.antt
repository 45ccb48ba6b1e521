-- The changes by which a thread takes a mutex and gives it up.
use Rattle.std.specs.Prelude.{pos}
use Rattle.cx_names.specs.declared.ThreadNo.{ThreadNo}
use Rattle.cx_names.specs.declared.Reply.TheVariants as replies
use Rattle.cx_machine.specs.declared.kind.Entry.{Entry}
use Rattle.cx_machine.specs.declared.kind.Op.TheVariants as ops
use Rattle.cx_machine.specs.Meaning.{change}

abbrev pub locks : ThreadNo → Entry
locks t = change t ops.Lock (pos 0) (pos 0) replies.Ok

abbrev pub unlocks : ThreadNo → Entry
unlocks t = change t ops.Unlock (pos 0) (pos 0) replies.Ok
