use Rattle.erjang_top.proofs.FirstPath.WorkedLemmas as worked
use Rattle.erjang_top.proofs.first_path.scripts.worked_runs.Goals as goal

pub returns : goal.returns
returns c = record { returns = worked.returns; not_loaded = worked.not_loaded; other_arity = worked.other_arity; not_exported = worked.not_exported; nothing_to_do = worked.nothing_to_do; moves_registers = worked.moves_registers; moves_integer = worked.moves_integer; moves_atom = worked.moves_atom; moves_nil = worked.moves_nil; refuses = worked.refuses; other_exported = worked.other_exported }
