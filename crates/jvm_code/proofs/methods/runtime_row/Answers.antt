use Rattle.ej_tables.specs.Rows.{has_number}
use Rattle.jvm_code.specs.RuntimeRows.{method_of}
use Rattle.jvm_code.specs.Runtime.{Runtime, methods}
use Rattle.genop_table.proofs.Found.{found, missing}
use Rattle.jvm_code.proofs.methods.runtime_row.Goals as goal

pub returns-in-Some : goal.returns-in-Some
returns-in-Some c =
    found method_of (λ (m : Runtime). has_number c.args.number m.entry) c.table.result methods c.table.ensures.rows c.in-Some.row.now c.in-Some.ensures

pub returns-in-None : goal.returns-in-None
returns-in-None c =
    missing method_of (λ (m : Runtime). has_number c.args.number m.entry) c.table.result methods c.table.ensures.rows c.in-None.ensures
