-- What holds of each scenario that a text means.
use Rattle.std.specs.Prelude.{◌≡◌, true, []}
use Rattle.std.specs.List.{list_all}
use Rattle.cx_script.specs.Script.{Script}
use Rattle.cx_script.specs.Numbered.{IsScript, numbered}
use Rattle.cx_asks.specs.Scenes.{is_object_now, is_thread_now, IsAskable}

-- EACH SCENARIO THAT A TEXT MEANS IS ASKABLE, where threads are run on its objects
abbrev pub ScriptIsAskable : Type 0
ScriptIsAskable = (s : Script) → IsScript s → list_all is_object_now (numbered s).objects ≡ true → list_all is_thread_now (numbered s).threads ≡ true → (numbered s).callbacks ≡ [] → IsAskable (numbered s)
