-- What the bytes of a source are: the source of a module that is compiled, or of one that is accepted and not compiled so
-- far.
use Rattle.std.specs.Prelude.{ℕ, List}
use Rattle.beam_code.specs.declared.module.Module.{Module}
use Rattle.erjang_compile.specs.Accepted.{Accepted}
use Rattle.erjang_top.specs.first_path.Built.{AllBuilt, FirstUnbuilt}

-- the bytes are the source of that module, which is accepted, and each of its instructions is compiled so far
pub record IsSource (bytes : List ℕ) (m : Module) : Type 0 where
  pub accepted : Accepted bytes m
  pub built : AllBuilt m

-- the bytes are the source of a module that is accepted, and that instruction of that function, both counted from 0, is
-- its first that is not compiled so far
pub record IsNotBuilt (bytes : List ℕ) (func index : ℕ) : Type 0 where
  pub read : Module
  pub accepted : Accepted bytes read
  pub first : FirstUnbuilt read func index
