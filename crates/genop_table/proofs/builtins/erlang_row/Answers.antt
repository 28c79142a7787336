use Rattle.ej_tables.specs.Rows.{has_number}
use Rattle.genop_table.specs.BuiltinRows.{builtin_of}
use Rattle.genop_table.specs.Builtins.{Builtin, erlang_builtins}
use Rattle.genop_table.proofs.Found.{found, missing}
use Rattle.genop_table.proofs.builtins.erlang_row.Goals as goal

pub returns-in-Some : goal.returns-in-Some
returns-in-Some c =
    found builtin_of (λ (b : Builtin). has_number c.args.number b.entry) c.erlang.result erlang_builtins c.erlang.ensures.rows c.in-Some.row.now c.in-Some.ensures

pub returns-in-None : goal.returns-in-None
returns-in-None c =
    missing builtin_of (λ (b : Builtin). has_number c.args.number b.entry) c.erlang.result erlang_builtins c.erlang.ensures.rows c.in-None.ensures
