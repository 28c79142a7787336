use Rattle.std.proofs.Common.{codes, ap, ◌∙◌}
use Rattle.genop_table.specs.Builtins.{builtin_number}
use Rattle.asm_module.specs.Instructions.{erlang_number}
use Rattle.asm_module.proofs.names.erlang_number.Goals as goal

pub returns : goal.returns
unfolding erlang_number
returns c = c.builtin.ensures ∙ ap (λ bs. builtin_number (codes "erlang") bs c.args.arity) (c.as_bytes.ensures.value ∙ c.as_str.ensures.bytes)
