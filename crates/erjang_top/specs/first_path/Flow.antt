-- Slots where nothing branches: the x registers that hold a term, from front to back.
use Rattle.std.specs.Prelude.{ℕ, Bool, true, false, nat_eq, nat_lt, ◌&&◌, if◌then◌else◌, List, [], ◌∷◌}
use Rattle.erjang_top.specs.first_path.Opcode.{Source, X, Of, Opcode, FuncInfo, Move, Return, Unknown}

-- which x registers hold a term
abbrev pub Holding : Type 0
Holding = ℕ → Bool

abbrev pub with_register : ℕ → Holding → Holding
with_register to holding n = if nat_eq n to then true else holding n

-- the arguments alone
abbrev pub arguments : ℕ → Holding
arguments arity n = nat_lt n arity

abbrev pub is_held : Holding → Source → Bool
is_held holding (X n) = holding n
is_held holding (Of value) = true

-- each register that is read holds a term, and the code does not run off its end
abbrev pub flows : Holding → List Opcode → Bool
flows holding [] = false
flows holding (Move from to ∷ code) = is_held holding from && flows (with_register to holding) code
flows holding (FuncInfo owner name arity ∷ code) = true
flows holding (Return ∷ code) = holding 0
flows holding (Unknown ∷ code) = false
flows holding (_ ∷ code) = flows holding code
