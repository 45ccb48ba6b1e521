-- Some change and some look, where a step's type names none.
use Rattle.std.specs.Prelude.{pos}
use Rattle.cx_names.specs.declared.Reply.TheVariants as replies
use Rattle.cx_machine.specs.declared.kind.Entry.{Entry}
use Rattle.cx_machine.specs.declared.kind.Look.{Look}
use Rattle.cx_machine.specs.declared.kind.Op.TheVariants as ops
use Rattle.cx_machine.specs.Meaning.{change, look_of}

abbrev pub some_entry : Entry
some_entry = change (record { 0 = 0 }) ops.Wait (pos 0) (pos 0) replies.Ok

abbrev pub some_look : Look
some_look = look_of (record { 0 = 0 }) ops.Wait (pos 0) (pos 0) replies.Ok 0
