use Rattle.std.proofs.Common.{◌≡◌, drop, map}
use Rattle.std.specs.List.{list_any}
use Rattle.genop_table.specs.BuiltinRows.{builtin_of}
use Rattle.genop_table.specs.Builtins.{is_guard_named}
use Rattle.genop_table.proofs.builtins.any_guard.Given as goal

-- those before are none, so what is said of the rest is said of all
abbrev pub invariant-loop-row : goal.invariant-loop-row
invariant-loop-row l = list_any (is_guard_named l.name) (map builtin_of (drop l.row-index l.rows)) ≡ list_any (is_guard_named l.name) (map builtin_of l.rows)
