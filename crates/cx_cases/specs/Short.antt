-- Short forms for the cases.
use Rattle.std.specs.Prelude.{ℕ, ℤ, List, Option, Some, None, Result, Ok, Err}
use Rattle.cx_names.specs.declared.ThreadNo.{ThreadNo}
use Rattle.cx_names.specs.declared.ObjectNo.{ObjectNo}
use Rattle.cx_names.specs.declared.CallbackNo.{CallbackNo}
use Rattle.cx_names.specs.declared.Reply.{Reply}
use Rattle.cx_machine.specs.declared.kind.Op.{Op}
use Rattle.cx_scene.specs.declared.declared.Callback.{Callback}
use Rattle.cx_scene.specs.declared.declared.Action.{Action}
use Rattle.cx_scene.specs.Scene.{Scene}
use Rattle.cx_text.specs.declared.fault.Fault.{Fault}
use Rattle.cx_text.specs.declared.fault.FaultKind.{FaultKind}
use Rattle.cx_script.specs.Script.{Script, meaning}
use Rattle.cx_script.specs.Numbered.{numbered}
use Rattle.cx_items.specs.declared.item.Control.{Control}
use Rattle.cx_items.specs.declared.item.Item.{Item}
use Rattle.cx_items.specs.declared.item.Item.TheVariants as items

abbrev pub obj : ℕ → ObjectNo
obj n = record { 0 = n }

abbrev pub thr : ℕ → ThreadNo
thr n = record { 0 = n }

abbrev pub cbk : ℕ → CallbackNo
cbk n = record { 0 = n }

abbrev pub callback : ObjectNo → Action → Callback
callback st action = record { stop = st; action = action }

-- a change by a thread on an object at a position, and a look with its stamp
abbrev pub made : ℕ → ℕ → ℕ → Op → ℤ → ℤ → Reply → Item
made t o p op a b r = items.Change (obj o) p (record { by = thr t; op = op; a = a; b = b; reply = r })

abbrev pub seen : ℕ → ℕ → ℕ → Op → ℤ → ℤ → Reply → Item
seen t o k op a b r = items.Look (obj o) (record { by = thr t; op = op; a = a; b = b; reply = r; at = k })

abbrev pub did : Control → Item
did c = items.Control c

abbrev pub said : Reply → Item
said r = items.Said r

abbrev pub fault_on : ℕ → FaultKind → Fault
fault_on line kind = record { line = line; kind = kind }

-- the scenario that a text means, by numbers
abbrev pub numbered_by : List ℕ → Option Scene
numbered_by text = of (meaning 8388608 text)
  where
    of : Result Script Fault → Option Scene
    of (Ok s) = Some (numbered s)
    of (Err f) = None
