-- What a row of the code's table of tests says.
use Rattle.genop_table.specs.declared.tests.TestRow.{TestRow}
use Rattle.genop_table.specs.Tests.{Test, row}

abbrev pub test_of : TestRow → Test
test_of r = row r.number r.name.now r.arguments
