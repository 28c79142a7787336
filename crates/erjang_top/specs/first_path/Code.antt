-- What a decoded instruction is.
use Rattle.erjang_top.specs.first_path.Opcode as opcode
use Rattle.erjang_top.specs.declared.first_path.code.Source.{Source}
use Rattle.erjang_top.specs.declared.first_path.code.Source.TheVariants as source
use Rattle.erjang_top.specs.declared.first_path.code.Code.{Code}
use Rattle.erjang_top.specs.declared.first_path.code.Code.TheVariants as code

abbrev pub seen_source : Source → opcode.Source
seen_source (source.X n) = opcode.X n
seen_source (source.Integer number) = opcode.Of (opcode.Integer number)
seen_source (source.Atom name) = opcode.Of (opcode.Atom name.now)
seen_source source.Nil = opcode.Of opcode.Nil

abbrev pub seen_code : Code → opcode.Opcode
seen_code (code.Label n) = opcode.Label n
seen_code code.Line = opcode.Line
seen_code code.Comment = opcode.Comment
seen_code (code.FuncInfo owner name arity) = opcode.FuncInfo owner.now name.now arity
seen_code (code.Move from to) = opcode.Move (seen_source from) to
seen_code code.Return = opcode.Return
seen_code code.Other = opcode.Unknown
