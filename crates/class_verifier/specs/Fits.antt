-- Types of which the first are gone through.
use Rattle.std.specs.Prelude.{ℕ, Bool, false, List, drop, Option, None, Some}
use Rattle.jvm_code.specs.declared.types.VType.{VType}
use Rattle.jvm_code.specs.Typing.{all_assignable}

-- where the first may stand for what was wanted of them, the types behind them may stand for the rest
abbrev pub left_fits : List VType → List VType → Option ℕ → Bool
left_fits types rest None = false
left_fits types rest (Some end) = all_assignable (drop end types) rest
