use Rattle.std.proofs.Common.{ap}
use Rattle.std.specs.Option.{option_map}
use Rattle.ej_tables.specs.Rows.{has_number}
use Rattle.genop_table.specs.TestRows.{test_of}
use Rattle.genop_table.specs.Tests.{Test, tests}
use Rattle.genop_table.proofs.Found.{found, missing}
use Rattle.genop_table.proofs.tests.test_arguments.Goals as goal

pub returns-in-Some : goal.returns-in-Some
returns-in-Some c =
    ap (option_map (λ (t : Test). t.arguments))
    (found test_of (λ (t : Test). has_number c.args.test t.entry) c.table.result tests c.table.ensures.rows c.in-Some.row.now c.in-Some.ensures)

pub returns-in-None : goal.returns-in-None
returns-in-None c =
    ap (option_map (λ (t : Test). t.arguments))
    (missing test_of (λ (t : Test). has_number c.args.test t.entry) c.table.result tests c.table.ensures.rows c.in-None.ensures)
