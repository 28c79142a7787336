use Rattle.std.proofs.Common.{◌≡◌, drop}
use Rattle.std.specs.List.{find}
use Rattle.ej_tables.specs.Rows.{has_number}
use Rattle.ej_tables.proofs.table.find_numbered.Given as goal

abbrev pub invariant-loop-row : goal.invariant-loop-row
invariant-loop-row g l =
    find (λ row. has_number l.number (g.R.Numbered.entry row)) (drop l.row-index l.rows) ≡ find (λ row. has_number l.number (g.R.Numbered.entry row)) l.rows
