-- What a plain row says.
use Rattle.ej_tables.specs.Rows.{Entry}
use Rattle.ej_tables.specs.declared.table.Row.{Row}

abbrev pub entry_of : Row → Entry
entry_of row = record { name = row.name.now; arity = row.arity; number = row.number }
