-- That the classes of several modules run together as the modules do.
use Rattle.std.specs.Prelude.{◌≡◌, List, [], ◌∷◌, map}
use Rattle.beam_code.specs.declared.module.Module.{Module}
use Rattle.erjang_top.specs.first_path.Accepted.{Accepted}
use Rattle.erjang_top.specs.first_path.ClassTurn.{jvm}
use Rattle.erjang_top.specs.first_path.ModuleClass.{class_of}
use Rattle.erjang_top.specs.first_path.Run.{run}
use Rattle.erjang_top.specs.first_path.Runs.{IsPlainScript}
use Rattle.erjang_top.specs.first_path.Turn.{beam}
use Rattle.erjang_top.specs.first_path.World.{Choice}

abbrev pub AreAccepted : List Module → Type 0
AreAccepted [] = Unit {0}
AreAccepted (m ∷ ms) = Accepted m × AreAccepted ms

-- whatever the script; of modules of one name both sides take the first
abbrev pub RunTogether : Type 0
RunTogether = (ms : List Module) → AreAccepted ms → (script : List Choice) → IsPlainScript script → run (jvm (map class_of ms)) script ≡ run (beam ms) script
