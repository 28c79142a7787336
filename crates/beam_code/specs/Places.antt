-- How messages name a place in the code of a module.
use Rattle.std.specs.Prelude.{ℕ, List, ◌++◌, codes}
use Rattle.std.specs.Fmt.{decimal}

-- an instruction, by the numbers of its function and of itself in it, with what is said of it
abbrev pub instruction_text : ℕ → ℕ → List ℕ → List ℕ
instruction_text func index said = codes "function " ++ (decimal func ++ (codes ", instruction " ++ (decimal index ++ said)))
