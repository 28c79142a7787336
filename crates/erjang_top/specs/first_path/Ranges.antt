-- What is read from a text is in range.
use Rattle.std.specs.Prelude.{◌≡◌, ℕ, Bool, true, nat_lt, List}
use Rattle.std.specs.List.{list_all}
use Rattle.beam_code.specs.declared.module.Module.{Module}
use Rattle.erjang_compile.specs.Accepted.{KeepsRules}
use Rattle.erjang_top.specs.first_path.Accepted.{is_thin_module}
use Rattle.erjang_top.specs.first_path.Built.{knows}

-- each of the bytes is less than 256
abbrev pub are_bytes : List ℕ → Bool
are_bytes bytes = list_all (λ b. nat_lt b 256) bytes

-- of a module that is read from a text all names and numbers are in range, so that an instruction that is not read so
-- far is all that keeps it from being such a module
abbrev pub Ranges : Type 0
Ranges = (bytes : List ℕ) (m : Module) → are_bytes bytes ≡ true → KeepsRules bytes m → is_thin_module m ≡ list_all knows m.functions
