use Rattle.std.proofs.Common.{◌≡◌, take, string_bytes}
use Rattle.std.specs.List.{flat_map}
use Rattle.jvm_code.specs.Names.{mangle_byte}
use Rattle.jvm_code.proofs.names.mangle.Given as goal

abbrev pub invariant-loop-byte : goal.invariant-loop-byte
invariant-loop-byte l = string_bytes l.out ≡ flat_map mangle_byte (take l.byte-index l.byte-items)
