use Rattle.std.proofs.Common.{◌≡◌, ◌||◌, drop}
use Rattle.beam_code.specs.Keys.{Key, is_among}
use Rattle.asm_module.specs.Modules.{keys_of}
use Rattle.asm_module.specs.Seen.{is_held}
use Rattle.asm_module.proofs.module.keys_of.Given as goal

-- a key is held, or begun by a form that is left, where it is begun by one of all
abbrev pub invariant-loop-form : goal.invariant-loop-form
invariant-loop-form l = (key : Key) → (is_held l.keys.keys key || is_among (keys_of (drop l.form-index l.forms)) key) ≡ is_among (keys_of l.forms) key
