-- Worked scripts, by the definitions of both runs, to their lines.
use Rattle.std.specs.Prelude.{◌≡◌, ℕ, ◌+◌, true, pos, negsuc, List, [], ◌∷◌, ◌++◌, codes, refl}
use Rattle.std.specs.List.{flat_map}
use Rattle.ej_term.specs.Term.{Term, Int}
use Rattle.erjang_top.specs.first_path.Lines.{lines}
use Rattle.erjang_top.specs.first_path.Run.{run}
use Rattle.erjang_top.specs.first_path.World.{Choice, Start, Run}
use Rattle.beam_code.specs.declared.instr.Instr.{Instr}
use Rattle.beam_code.specs.declared.module.Function.{Function}
use Rattle.beam_code.specs.declared.module.Module.{Module}
use Rattle.beam_code.specs.declared.operand.Operand.{Operand}
use Rattle.beam_code.specs.declared.operand.Operand.TheVariants as operand
use Rattle.beam_code.specs.declared.operand.Reg.TheVariants as register
use Rattle.beam_code.specs.declared.operand.Src.{Src}
use Rattle.beam_code.specs.declared.operand.Src.TheVariants as source
use Rattle.beam_code.specs.RowFits.{fits}
use Rattle.erjang_top.specs.first_path.Turn.{beam}
use Rattle.erjang_top.specs.first_path.ClassTurn.{jvm}
use Rattle.erjang_top.specs.first_path.ModuleClass.{class_of}

abbrev pub label_instruction : (n : ℕ) → fits 1 (operand.Count n ∷ []) ≡ true → Instr
label_instruction n fitting = record { row = 1; operands = operand.Count n ∷ []; fits_row = fitting }

abbrev pub line_instruction : Instr
line_instruction = record { row = 2; operands = []; fits_row = refl }

-- of a function of the module m
abbrev pub info_operands : List ℕ → ℕ → List Operand
info_operands name arity = operand.Src (source.Atom (codes "m")) ∷ operand.Src (source.Atom name) ∷ operand.Count arity ∷ []

abbrev pub info_instruction : (name : List ℕ) (arity : ℕ) → fits 4 (info_operands name arity) ≡ true → Instr
info_instruction name arity fitting = record { row = 4; operands = info_operands name arity; fits_row = fitting }

-- to an x register
abbrev pub move_operands : Src → ℕ → List Operand
move_operands from to = operand.Src from ∷ operand.Reg (register.X to) ∷ []

abbrev pub move_instruction : (from : Src) (to : ℕ) → fits 5 (move_operands from to) ≡ true → Instr
move_instruction from to fitting = record { row = 5; operands = move_operands from to; fits_row = fitting }

abbrev pub x : ℕ → Src
x n = source.Reg (register.X n)

abbrev pub return_instruction : Instr
return_instruction = record { row = 22; operands = []; fits_row = refl }

-- f/1, which returns its argument
abbrev pub identity : Function
identity = record { name = codes "f"; arity = 1; entry = 2; code = label_instruction 1 refl ∷ info_instruction (codes "f") 1 refl ∷ label_instruction 2 refl ∷ return_instruction ∷ [] }

-- the module m of it, which exports it
abbrev pub public_module : Module
public_module = record { name = codes "m"; exports = (codes "f", 1) ∷ []; functions = identity ∷ []; distinct = refl; exported = refl }

-- the same module with no exports
abbrev pub private_module : Module
private_module = record { name = codes "m"; exports = []; functions = identity ∷ []; distinct = refl; exported = refl }

-- f/2, which returns its second argument by way of x1023; what stands behind its `return` is not reached
abbrev pub second : Function
second = record {
  name = codes "f";
  arity = 2;
  entry = 4;
  code =
      label_instruction 3 refl ∷ line_instruction ∷ info_instruction (codes "f") 2 refl ∷ label_instruction 4 refl ∷ move_instruction (x 1) 1023 refl ∷ label_instruction 9 refl
      ∷ move_instruction (x 1023) 0 refl ∷ return_instruction ∷ move_instruction source.Nil 0 refl ∷ return_instruction ∷ [];
}

-- a function without arguments that returns a value
abbrev pub constant : List ℕ → (label : ℕ) (value : Src) → fits 1 (operand.Count label ∷ []) ≡ true → fits 1 (operand.Count (label + 1) ∷ []) ≡ true
    → fits 5 (move_operands value 0) ≡ true → Function
constant name label value label_fits entry_fits move_fits = record {
  name = name;
  arity = 0;
  entry = label + 1;
  code =
      label_instruction label label_fits ∷ info_instruction name 0 refl ∷ label_instruction (label + 1) entry_fits ∷ move_instruction value 0 move_fits ∷ return_instruction
      ∷ [];
}

-- a function that no call fits
abbrev pub refuses : Function
refuses = record {
  name = codes "no";
  arity = 1;
  entry = 12;
  code =
      label_instruction 11 refl ∷ info_instruction (codes "no") 1 refl ∷ label_instruction 12 refl ∷ info_instruction (codes "no") 1 refl ∷ return_instruction ∷ [];
}

-- the module m of several functions
abbrev pub moves_module : Module
moves_module = record {
  name = codes "m";
  exports = (codes "no", 1) ∷ (codes "f", 2) ∷ (codes "int", 0) ∷ (codes "atom", 0) ∷ (codes "nil", 0) ∷ (codes "f", 2) ∷ [];
  functions =
      identity ∷ second ∷ constant (codes "int") 5 (source.Int (negsuc 9223372036854775807)) refl refl refl ∷ constant (codes "atom") 7 (source.Atom (codes "int")) refl refl refl
      ∷ refuses ∷ constant (codes "nil") 13 source.Nil refl refl refl ∷ [];
  distinct = refl;
  exported = refl;
}

-- a process that is started and runs for one transfer
abbrev pub started : List ℕ → List ℕ → List Term → List Choice
started owner name args = Start owner name args ∷ Run 0 1 ∷ []

abbrev pub number : ℕ → Term
number n = Int (pos n)

-- lines, each with its newline
abbrev pub text : List (List ℕ) → List ℕ
text expected = flat_map (λ line. line ++ 10 ∷ []) expected

-- both machines give these lines for that script over a module and its class
pub record Gives (m : Module) (script : List Choice) (expected : List (List ℕ)) : Type 0 where
  pub beam_gives : lines (run (beam (m ∷ [])) script) ≡ text expected
  pub class_gives : lines (run (jvm (class_of m ∷ [])) script) ≡ text expected

-- a function that is there returns
abbrev pub Returns : Type 0
Returns = Gives public_module (started (codes "m") (codes "f") (number 7 ∷ []))
    (codes "start 0 {m,f,[7]}" ∷ codes "ready [0]" ∷ codes "result 0 7" ∷ codes "exit 0 normal" ∷ codes "turn 0 0" ∷ codes "ready []" ∷ [])

-- what is not there, is of another arity, or is not exported, is undefined
abbrev pub undefined_lines : List ℕ → List (List ℕ)
undefined_lines call = (codes "start 0 " ++ call) ∷ codes "ready [0]" ∷ codes "raise 0 error undef" ∷ codes "exit 0 {undef,[]}" ∷ codes "turn 0 0" ∷ codes "ready []" ∷ []

abbrev pub NotLoaded : Type 0
NotLoaded = Gives public_module (started (codes "n") (codes "f") (number 7 ∷ [])) (undefined_lines (codes "{n,f,[7]}"))

abbrev pub OtherArity : Type 0
OtherArity = Gives public_module (started (codes "m") (codes "f") (number 7 ∷ number 8 ∷ [])) (undefined_lines (codes "{m,f,[7,8]}"))

abbrev pub NotExported : Type 0
NotExported = Gives private_module (started (codes "m") (codes "f") (number 7 ∷ [])) (undefined_lines (codes "{m,f,[7]}"))

-- a process that has ended, and one that there is not, have nothing to do
abbrev pub NothingToDo : Type 0
NothingToDo = Gives public_module (Run 0 1 ∷ started (codes "m") (codes "f") (number 7 ∷ []) ++ Run 0 5 ∷ [])
    (codes "idle" ∷ codes "ready []" ∷ codes "start 0 {m,f,[7]}" ∷ codes "ready [0]" ∷ codes "result 0 7" ∷ codes "exit 0 normal" ∷ codes "turn 0 0" ∷ codes "ready []" ∷ codes "idle" ∷ codes "ready []" ∷ [])

-- the lines of a call that returns
abbrev pub result_lines : List ℕ → List ℕ → List (List ℕ)
result_lines call result = (codes "start 0 " ++ call) ∷ codes "ready [0]" ∷ (codes "result 0 " ++ result) ∷ codes "exit 0 normal" ∷ codes "turn 0 0" ∷ codes "ready []" ∷ []

-- moves, of several functions of one module
abbrev pub MovesRegisters : Type 0
MovesRegisters = Gives moves_module (started (codes "m") (codes "f") (number 7 ∷ number 8 ∷ [])) (result_lines (codes "{m,f,[7,8]}") (codes "8"))

abbrev pub MovesInteger : Type 0
MovesInteger = Gives moves_module (started (codes "m") (codes "int") []) (result_lines (codes "{m,int,[]}") (codes "-9223372036854775808"))

abbrev pub MovesAtom : Type 0
MovesAtom = Gives moves_module (started (codes "m") (codes "atom") []) (result_lines (codes "{m,atom,[]}") (codes "int"))

abbrev pub MovesNil : Type 0
MovesNil = Gives moves_module (started (codes "m") (codes "nil") []) (result_lines (codes "{m,nil,[]}") (codes "[]"))

-- a function that is reached where no call fits
abbrev pub Refuses : Type 0
Refuses = Gives moves_module (started (codes "m") (codes "no") (number 7 ∷ []))
    (codes "start 0 {m,no,[7]}" ∷ codes "ready [0]" ∷ codes "raise 0 error function_clause" ∷ codes "exit 0 {function_clause,[]}" ∷ codes "turn 0 0" ∷ codes "ready []" ∷ [])

-- of two functions of one name the one that is exported is called
abbrev pub OtherExported : Type 0
OtherExported = Gives moves_module (started (codes "m") (codes "f") (number 7 ∷ [])) (undefined_lines (codes "{m,f,[7]}"))
