-- Verification types, and when one is assignable to another (JVMS SE 7, 4.10.1.2).
use Rattle.std.specs.Prelude.{Bool, true, false, ◌||◌, codes}
use Rattle.std.specs.Str.{bytes_eq}
use Rattle.jvm_code.specs.declared.types.VType.{VType}
use Rattle.jvm_code.specs.declared.types.VType.TheVariants.{Top, Integer, Long, Null, Class}

-- each type to Top and to itself, null to each class, each class to `java/lang/Object`
abbrev pub assignable : VType → VType → Bool
assignable _ Top = true
assignable Integer Integer = true
assignable Long Long = true
assignable Null Null = true
assignable Null (Class _) = true
assignable (Class one) (Class other) = bytes_eq other (codes "java/lang/Object") || bytes_eq one other
assignable _ _ = false
