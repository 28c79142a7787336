-- What a function and a module's constants weigh: upper bounds on the bytes and the entries of the class that is made
-- of them.
use Rattle.std.specs.Prelude.{ℕ, ◌+◌, ◌*◌, Bool, true, false, nat_le, ◌&&◌, if◌then◌else◌, List, [], ◌∷◌, ◌++◌, fold, length, map, sum, Option, None, Some}
use Rattle.std.specs.Ordering.{int_eq}
use Rattle.std.specs.List.{list_any, list_all, filter_map, flat_map}
use Rattle.std.specs.Str.{bytes_eq}
use Rattle.beam_code.specs.declared.module.Function.{Function}
use Rattle.beam_code.specs.declared.module.Module.{Module}
use Rattle.erjang_top.specs.first_path.LabelRules.{opcodes}
use Rattle.erjang_top.specs.first_path.Opcode.{Value, Integer, Atom, Nil, Of, Opcode, Label, Line, Comment, FuncInfo, Move, Return, Unknown}

abbrev pub instruction_weight : Opcode → ℕ
instruction_weight (Label n) = 0
instruction_weight Line = 0
instruction_weight Comment = 0
instruction_weight (FuncInfo owner name arity) = 32
instruction_weight (Move from to) = 10
instruction_weight Return = 16
instruction_weight Unknown = 0

-- 64, 12 for each argument, and the instructions; no instruction so far branches, waits or makes a tag, which
-- is what a function is charged for besides
abbrev pub weight : Function → ℕ
weight f = 64 + 12 * f.arity + sum (map instruction_weight (opcodes f))

-- the source operand of an instruction, where it is no register
abbrev pub value_in : Opcode → Option Value
value_in (Move (Of value) to) = Some value
value_in _ = None

-- the source operands of a module that are no registers, in its order
abbrev pub values_of : Module → List Value
values_of m = flat_map (λ f. filter_map value_in (opcodes f)) m.functions

abbrev pub same_value : Value → Value → Bool
same_value (Integer m) (Integer n) = int_eq m n
same_value (Atom a) (Atom b) = bytes_eq a b
same_value Nil Nil = true
same_value _ _ = false

-- the values with one more behind them, unless it is among them
abbrev pub with_value : List Value → Value → List Value
with_value values value = if list_any (same_value value) values then values else values ++ value ∷ []

-- each value once, where it comes first
abbrev pub distinct : List Value → List Value
distinct values = fold with_value [] values

-- 1,024, 6 for each function, and 4 for each distinct source operand that is no register
abbrev pub pool_weight : Module → ℕ
pool_weight m = 1024 + 6 * length m.functions + 4 * length (distinct (values_of m))

abbrev pub fits : Module → Bool
fits m = list_all (λ f. nat_le (weight f) 32767) m.functions && nat_le (pool_weight m) 65534
