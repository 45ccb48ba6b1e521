-- What the names that a printer keeps stand for.
use Rattle.std.specs.Prelude.{map}
use Rattle.cx_record.specs.declared.printing.Naming.{Naming as NamingOf}
use Rattle.cx_record.specs.Printed.{Naming}

abbrev pub naming_seen : NamingOf → Naming
naming_seen n = record { threads = map (λ w. w.items) n.threads.now; objects = map (λ w. w.items) n.objects.now; kinds = n.kinds.items }
