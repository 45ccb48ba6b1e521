-- What a verdict says.
use Rattle.std.specs.Prelude.{Option, Some, None}
use Rattle.cx_history.specs.declared.flaw.Flaw.{Flaw}
use Rattle.cx_checker.specs.declared.checking.Verdict.{Verdict}
use Rattle.cx_checker.specs.declared.checking.Verdict.TheVariants.{Legal, Illegal}

-- the flaw that it names, or that there is none
abbrev pub flaw_in : Verdict → Option Flaw
flaw_in Legal = None
flaw_in (Illegal t i c) = Some (record { thread = t; item = i; cause = c })
