use Rattle.std.proofs.Common.{◌≡◌, drop}
use Rattle.jvm_code.specs.ModifiedUtf8.{are_units, is_modified_utf8}
use Rattle.jvm_code.specs.ModifiedUtf8Due.{due_of}
use Rattle.jvm_code.proofs.modified_utf8.is_modified_utf8.Given as goal

abbrev pub invariant-loop-byte : goal.invariant-loop-byte
invariant-loop-byte l = are_units (due_of l.due) (drop l.byte-index l.bytes) ≡ is_modified_utf8 l.bytes
