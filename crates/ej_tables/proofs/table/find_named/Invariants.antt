use Rattle.std.proofs.Common.{◌≡◌, map, drop}
use Rattle.ej_tables.specs.Rows.{number_of}
use Rattle.ej_tables.proofs.table.find_named.Given as goal

abbrev pub invariant-loop-row : goal.invariant-loop-row
invariant-loop-row g l = number_of l.name l.arity (map g.R.Numbered.entry (drop l.row-index l.rows)) ≡ number_of l.name l.arity (map g.R.Numbered.entry l.rows)
