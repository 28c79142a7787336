-- When two source operands are the same, and what of one is fed to a hasher.
use Rattle.std.specs.Prelude.{ℕ, Bool, true, false, nat_eq, ◌++◌}
use Rattle.std.specs.Hash as fed
use Rattle.std.specs.Hash.{HashWrites}
use Rattle.std.specs.Ordering.{int_eq}
use Rattle.std.specs.Str.{bytes_eq}
use Rattle.ej_term.specs.Hashed.{text, fed_term}
use Rattle.ej_term.specs.Same.{same}
use Rattle.beam_code.specs.declared.operand.Reg.{Reg}
use Rattle.beam_code.specs.declared.operand.Reg.TheVariants as register
use Rattle.beam_code.specs.declared.operand.Src.{Src}
use Rattle.beam_code.specs.declared.operand.Src.TheVariants as source

abbrev pub same_register : Reg → Reg → Bool
same_register (register.X n) (register.X m) = nat_eq n m
same_register (register.Y n) (register.Y m) = nat_eq n m
same_register _ _ = false

-- of one form, with the same in it
abbrev pub same_source : Src → Src → Bool
same_source (source.Reg r) (source.Reg other) = same_register r other
same_source (source.Int n) (source.Int m) = int_eq n m
same_source (source.Atom name) (source.Atom other) = bytes_eq name other
same_source source.Nil source.Nil = true
same_source (source.Literal term) (source.Literal other) = same term other
same_source _ _ = false

abbrev pub fed_register : Reg → HashWrites
fed_register (register.X n) = fed.u8 0 ++ fed.u16 n
fed_register (register.Y n) = fed.u8 1 ++ fed.u16 n

-- a number for its form, and what is in it
abbrev pub fed_source : Src → HashWrites
fed_source (source.Reg r) = fed.u8 0 ++ fed_register r
fed_source (source.Int n) = fed.u8 1 ++ fed.i64 n
fed_source (source.Atom name) = fed.u8 2 ++ text name
fed_source source.Nil = fed.u8 3
fed_source (source.Literal term) = fed.u8 4 ++ fed_term term
