use Rattle.cx_script.proofs.Scenes.{script_is_scene}
use Rattle.cx_script.proofs.script_is_scene.Goals as goal

pub returns : goal.returns
returns c = script_is_scene
