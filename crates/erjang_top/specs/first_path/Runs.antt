-- That a class runs as its module, whatever the script.
use Rattle.std.specs.Prelude.{◌≡◌, ℕ, ◌<◌, ◌≤◌, Bool, false, ◌||◌, List, [], ◌∷◌, length, codes}
use Rattle.std.specs.List.{AllZip}
use Rattle.std.specs.Str.{bytes_eq}
use Rattle.erjang_top.specs.first_path.World.{Choice, Start, Run}
use Rattle.erjang_top.specs.first_path.Run.{run}
use Rattle.beam_code.specs.declared.module.Module.{Module}
use Rattle.erjang_top.specs.first_path.Turn.{beam}
use Rattle.erjang_top.specs.first_path.ClassFile.{Class}
use Rattle.erjang_top.specs.first_path.ClassProfile.{ClassOf}
use Rattle.erjang_top.specs.first_path.ClassTurn.{jvm}

-- the modules that have builtins, which neither machine knows so far
abbrev pub has_builtins : List ℕ → Bool
has_builtins owner = bytes_eq owner (codes "erlang") || bytes_eq owner (codes "lists") || bytes_eq owner (codes "maps")

-- a start of a module without builtins, or a run, with numbers in range
abbrev pub IsPlainChoice : Choice → Type 0
IsPlainChoice (Start owner name args) = (length args ≤ 255) × (has_builtins owner ≡ false)
IsPlainChoice (Run pid transfers) = (0 < transfers) × (transfers ≤ 100000)

abbrev pub IsPlainScript : List Choice → Type 0
IsPlainScript [] = Unit {0}
IsPlainScript (c ∷ cs) = IsPlainChoice c × IsPlainScript cs

-- the class's run has the same events in the same order as the module's
abbrev pub RunsAs : Module → Class → Type 0
RunsAs m c = (script : List Choice) → IsPlainScript script → run (jvm (c ∷ [])) script ≡ run (beam (m ∷ [])) script

-- the classes of the byte strings run together as the modules do, whatever the script
abbrev pub TogetherAs : List Module → List (List ℕ) → Type 0
TogetherAs ms bytes =
    (cs : List Class) → AllZip ClassOf bytes cs → (script : List Choice) → IsPlainScript script → run (jvm cs) script ≡ run (beam ms) script
