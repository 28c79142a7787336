-- The label rules of a module, and the first break of one in the order of its text (OTP 24, the assembly that `erlc -S`
-- writes).
use Rattle.std.specs.Prelude.{◌≡◌, ℕ, ◌+◌, Bool, true, false, not, nat_eq, nat_le, ◌&&◌, if◌then◌else◌, List, [], ◌∷◌, ◌++◌, map, length, Option, None, Some, is_some}
use Rattle.std.specs.List.{list_all, list_any, find, filter_map, flat_map}
use Rattle.std.specs.Option.{option_map, option_or}
use Rattle.std.specs.Str.{bytes_eq}
use Rattle.beam_code.specs.Code.{FunctionCode, ModuleCode}
use Rattle.beam_code.specs.Opcode.{Opcode, Callee, Local, External, Label, Line, FuncInfo, Call, MakeFun2, MakeFun3, Bif, PutMap, GetMapElements, Jump, SelectVal, SelectTupleArity, Test, TestArity, IsTaggedTuple, HasMapFields, LoopRec, LoopRecEnd, Wait, WaitTimeout, Try}

abbrev pub is_in : List ℕ → ℕ → Bool
is_in labels label = list_any (nat_eq label) labels

-- The labels that code defines.

abbrev pub defined_by : Opcode → Option ℕ
defined_by (Label label) = Some label
defined_by _ = None

abbrev pub defined_in : List Opcode → List ℕ
defined_in code = filter_map defined_by code

-- How a function begins: a label, at most one `line`, `func_info` with the module's name and its own name and arity, and
-- the label that is its entry.

-- `func_info` of that function of the module of that name
abbrev pub is_info : List ℕ → FunctionCode → Opcode → Bool
is_info owner f (FuncInfo m name arity) = bytes_eq m owner && bytes_eq name f.name && nat_eq arity f.arity
is_info owner f _ = false

abbrev pub is_that : ℕ → Option ℕ → Bool
is_that label None = false
is_that label (Some n) = nat_eq n label

abbrev pub is_head : List ℕ → FunctionCode → List Opcode → Bool
is_head owner f (info ∷ entry ∷ rest) = is_info owner f info && is_that f.entry (defined_by entry)
is_head owner f _ = false

abbrev pub is_line : Opcode → Bool
is_line Line = true
is_line _ = false

abbrev pub without_line : List Opcode → List Opcode
without_line [] = []
without_line (o ∷ rest) = if is_line o then rest else o ∷ rest

abbrev pub is_beginning : List ℕ → FunctionCode → List Opcode → Bool
is_beginning owner f [] = false
is_beginning owner f (first ∷ rest) = is_some (defined_by first) && is_head owner f (without_line rest)

abbrev pub begins_well : List ℕ → FunctionCode → Bool
begins_well owner f = is_beginning owner f f.code

-- The labels that an instruction names.

abbrev pub entry_called : Callee → Option ℕ
entry_called (Local label) = Some label
entry_called _ = None

-- the entry of a function of the module
abbrev pub entry_named : Opcode → Option ℕ
entry_named (Call callee arity kind) = entry_called callee
entry_named (MakeFun2 entry free) = Some entry
entry_named (MakeFun3 entry to free) = Some entry
entry_named _ = None

-- 0 names none: a failure raises
abbrev pub failure : ℕ → List ℕ
failure label = if nat_eq label 0 then [] else label ∷ []

-- labels of its own function
abbrev pub labels_named : Opcode → List ℕ
labels_named (Bif builtin fail live arguments to) = failure fail
labels_named (PutMap update fail from to pairs) = failure fail
labels_named (GetMapElements fail from gets) = fail ∷ []
labels_named (Jump label) = label ∷ []
labels_named (SelectVal value fail cases) = fail ∷ map (λ c. c.1) cases
labels_named (SelectTupleArity tuple fail cases) = fail ∷ map (λ c. c.1) cases
labels_named (Test test fail arguments) = fail ∷ []
labels_named (TestArity tuple fail size) = fail ∷ []
labels_named (IsTaggedTuple tuple fail size tag) = fail ∷ []
labels_named (HasMapFields fail from keys) = fail ∷ []
labels_named (LoopRec fail to) = fail ∷ []
labels_named (LoopRecEnd label) = label ∷ []
labels_named (Wait label) = label ∷ []
labels_named (WaitTimeout label timeout) = label ∷ []
labels_named (Try slot handler) = handler ∷ []
labels_named _ = []

-- what the instructions of a function may name: the labels of their own function, and the entries of functions, each
-- with the arity of the first function that has it
pub record Scope : Type 0 where
  pub is_own : ℕ → Bool
  pub arity : ℕ → Option ℕ

abbrev pub is_entry : Scope → ℕ → Bool
is_entry scope label = is_some (scope.arity label)

-- the entry, where no function has it
abbrev pub no_entry : Scope → Option ℕ → Option ℕ
no_entry scope None = None
no_entry scope (Some label) = if is_entry scope label then None else Some label

-- the first label that an instruction names, and may not
abbrev pub missing : Scope → Opcode → Option ℕ
missing scope o = option_or (no_entry scope (entry_named o)) (find (λ label. not (scope.is_own label)) (labels_named o))

-- The arguments and free variables of what an instruction names.

abbrev pub is_arity : Option ℕ → ℕ → Bool
is_arity None n = false
is_arity (Some arity) n = nat_eq n arity

abbrev pub is_at_most : Option ℕ → ℕ → Bool
is_at_most None n = false
is_at_most (Some arity) n = nat_le n arity

-- as many arguments as the function of that entry takes, or as are told behind the external function's name
abbrev pub calls_rightly : Scope → Callee → ℕ → Bool
calls_rightly scope (Local label) n = is_arity (scope.arity label) n
calls_rightly scope (External owner name arity) n = nat_eq n arity
calls_rightly scope _ n = true

-- the arguments of a call are those of what it calls, and a fun has no more free variables than its function takes
-- arguments
abbrev pub agrees : Scope → Opcode → Bool
agrees scope (Call callee arity kind) = calls_rightly scope callee arity
agrees scope (MakeFun2 entry free) = is_at_most (scope.arity entry) free
agrees scope (MakeFun3 entry to free) = is_at_most (scope.arity entry) (length free)
agrees scope _ = true

-- The rules.

-- the arity of the first function that has the entry
abbrev pub arity_of : List FunctionCode → ℕ → Option ℕ
arity_of functions entry = option_map (λ (f : FunctionCode). f.arity) (find (λ (f : FunctionCode). nat_eq f.entry entry) functions)

-- what a function's instructions may name, where the entries of functions have these arities
abbrev pub scope_of : (ℕ → Option ℕ) → FunctionCode → Scope
scope_of arity f = record { is_own = is_in (defined_in f.code); arity = arity }

-- an instruction names what it may, with the arguments of that
abbrev pub names_rightly : Scope → Opcode → Bool
names_rightly scope o = not (is_some (missing scope o)) && agrees scope o

abbrev pub uses_labels_well : (ℕ → Option ℕ) → FunctionCode → Bool
uses_labels_well arity f = list_all (names_rightly (scope_of arity f)) f.code

abbrev pub no_label_twice : List ℕ → Bool
no_label_twice [] = true
no_label_twice (n ∷ rest) = not (list_any (nat_eq n) rest) && no_label_twice rest

-- the labels that a module defines, in its order
abbrev pub labels_of : ModuleCode → List ℕ
labels_of m = flat_map (λ (f : FunctionCode). defined_in f.code) m.functions

-- each function of a module begins as it has to, no label is defined twice, and each instruction names labels and
-- entries that there are, with the arguments of what it names
pub record KeepsLabelRules (m : ModuleCode) : Type 0 where
  pub beginnings : list_all (begins_well m.name) m.functions ≡ true
  pub distinct : no_label_twice (labels_of m) ≡ true
  pub uses : list_all (uses_labels_well (arity_of m.functions)) m.functions ≡ true

-- The first break.

-- a rule that is broken; functions, and the instructions of one, are counted from 0
pub data Break : Type 0 where
  -- the label is defined a second time
  Twice : (label : ℕ) → Break
  -- the instruction names a label that is none of those that it may name
  Missing : (func index label : ℕ) → Break
  -- the function does not begin as it has to
  BadEntry : (func : ℕ) → Break
  -- the instruction has more or fewer arguments, or more free variables, than what it names
  BadArity : (func index : ℕ) → Break

abbrev pub twice : List ℕ → Option ℕ → Option Break
twice before None = None
twice before (Some label) = if is_in before label then Some (Twice label) else None

abbrev pub missing_or : ℕ → ℕ → Bool → Option ℕ → Option Break
missing_or func index agreed (Some label) = Some (Missing func index label)
missing_or func index agreed None = if agreed then None else Some (BadArity func index)

-- of what an instruction names: a missing label stands before the count of its arguments
abbrev pub misuse : Scope → ℕ → ℕ → Opcode → Option Break
misuse scope func index o = missing_or func index (agrees scope o) (missing scope o)

-- at an instruction, where these labels were defined before it
abbrev pub break_at : Scope → ℕ → ℕ → List ℕ → Opcode → Option Break
break_at scope func index before o = option_or (twice before (defined_by o)) (misuse scope func index o)

abbrev pub with_label : List ℕ → Option ℕ → List ℕ
with_label before None = before
with_label before (Some label) = before ++ label ∷ []

-- in a function's code from the instruction of that index on
abbrev pub break_in_code : Scope → ℕ → ℕ → List ℕ → List Opcode → Option Break
break_in_code scope func index before [] = None
break_in_code scope func index before (o ∷ code) =
    option_or (break_at scope func index before o) (break_in_code scope func (index + 1) (with_label before (defined_by o)) code)

-- in a function of the module of that name: a bad beginning stands before its instructions
abbrev pub break_in : List ℕ → (ℕ → Option ℕ) → ℕ → List ℕ → FunctionCode → Option Break
break_in owner arity func before f =
    if begins_well owner f then break_in_code (scope_of arity f) func 0 before f.code else Some (BadEntry func)

-- in functions, the first of which has that number
abbrev pub break_from : List ℕ → (ℕ → Option ℕ) → ℕ → List ℕ → List FunctionCode → Option Break
break_from owner arity func before [] = None
break_from owner arity func before (f ∷ left) =
    option_or (break_in owner arity func before f) (break_from owner arity (func + 1) (before ++ defined_in f.code) left)

-- in a module: none exactly where it keeps the rules (`FirstBreak`)
abbrev pub first_break : ModuleCode → Option Break
first_break m = break_from m.name (arity_of m.functions) 0 [] m.functions
