-- What a row of the code's table of runtime methods says.
use Rattle.std.specs.Prelude.{map}
use Rattle.std.specs.Option.{option_map}
use Rattle.jvm_code.specs.declared.methods.FieldType.{FieldType}
use Rattle.jvm_code.specs.declared.methods.FieldType.TheVariants as f
use Rattle.jvm_code.specs.declared.methods.RuntimeRow.{RuntimeRow}
use Rattle.jvm_code.specs.declared.types.VType.{VType}
use Rattle.jvm_code.specs.Runtime.{Runtime, I, J, P, T, R, S}

abbrev pub type_of : FieldType → VType
type_of f.Int = I
type_of f.Long = J
type_of f.Proc = P
type_of f.Term = T
type_of f.Trace = R
type_of f.Str = S

abbrev pub method_of : RuntimeRow → Runtime
method_of r =
    record {
      entry = record { name = r.name.now; arity = 0; number = r.number };
      signature = record { takes = map type_of r.takes.now; gives = option_map type_of r.gives };
      descriptor = r.descriptor.now;
    }
