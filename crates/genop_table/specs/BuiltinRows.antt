-- What a row of the code's tables of builtins says.
use Rattle.genop_table.specs.declared.builtins.BuiltinRow.{BuiltinRow}
use Rattle.genop_table.specs.Builtins.{Builtin, row}

abbrev pub builtin_of : BuiltinRow → Builtin
builtin_of r = row r.number r.name.now r.arity r.standing r.conduct
