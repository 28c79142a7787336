-- The label rules where no instruction names a label: how a function begins, and that no label is defined twice in a
-- module.
use Rattle.std.specs.Prelude.{ℕ, Bool, true, false, not, nat_eq, ◌&&◌, List, [], ◌∷◌, map}
use Rattle.std.specs.List.{list_any, list_all, filter_map, flat_map}
use Rattle.std.specs.Str.{bytes_eq}
use Rattle.std.specs.Prelude.{Option, None, Some}
use Rattle.beam_code.specs.declared.module.Function.{Function}
use Rattle.beam_code.specs.declared.module.Module.{Module}
use Rattle.erjang_top.specs.first_path.Opcode.{opcode}
use Rattle.erjang_top.specs.first_path.Opcode.{Opcode, Label, Line, FuncInfo}

-- `func_info` with the module's name and the function's own name and arity, then the entry label
abbrev pub is_head : List ℕ → Function → List Opcode → Bool
is_head owner f (FuncInfo m name arity ∷ Label entry ∷ rest) =
    bytes_eq m owner && bytes_eq name f.name && nat_eq arity f.arity && nat_eq entry f.entry
is_head owner f _ = false

-- a label, at most one `line`, and the head
abbrev pub is_beginning : List ℕ → Function → List Opcode → Bool
is_beginning owner f (Label n ∷ Line ∷ rest) = is_head owner f rest
is_beginning owner f (Label n ∷ rest) = is_head owner f rest
is_beginning owner f _ = false

abbrev pub opcodes : Function → List Opcode
opcodes f = map opcode f.code

abbrev pub begins_well : List ℕ → Function → Bool
begins_well owner f = is_beginning owner f (opcodes f)

-- the label that an instruction defines
abbrev pub defined_label : Opcode → Option ℕ
defined_label (Label n) = Some n
defined_label _ = None

abbrev pub no_label_twice : List ℕ → Bool
no_label_twice [] = true
no_label_twice (n ∷ rest) = not (list_any (nat_eq n) rest) && no_label_twice rest

-- the labels that a module defines, in its order
abbrev pub labels_of : Module → List ℕ
labels_of m = flat_map (λ f. filter_map defined_label (opcodes f)) m.functions

-- no label rule is broken; no instruction so far names a label of another
abbrev pub meets_label_rules : Module → Bool
meets_label_rules m = list_all (begins_well m.name) m.functions && no_label_twice (labels_of m)
