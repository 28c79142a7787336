-- The places of an instruction's form, by what they take.
use Rattle.genop_table.specs.declared.part.Limit.TheVariants.{Free, Atom, Slot, Target, Failure, Raises, Arguments, Size, OfTest, OfBuiltin, OfRaise}
use Rattle.genop_table.specs.declared.part.Part.TheVariants.{Src, Reg, Label, Count, Need, Name, Ext, Srcs, Cases, Arities, Pairs, Gets, Regs, Any}
use Rattle.genop_table.specs.declared.part.Place.{Place}

abbrev pub source : Place
source = record { part = Src; limit = Free }

abbrev pub atom : Place
atom = record { part = Src; limit = Atom }

abbrev pub register : Place
register = record { part = Reg; limit = Free }

abbrev pub slot : Place
slot = record { part = Reg; limit = Slot }

abbrev pub target : Place
target = record { part = Label; limit = Target }

abbrev pub failure : Place
failure = record { part = Label; limit = Failure }

abbrev pub raises : Place
raises = record { part = Label; limit = Raises }

abbrev pub count : Place
count = record { part = Count; limit = Free }

abbrev pub arguments : Place
arguments = record { part = Count; limit = Arguments }

abbrev pub size : Place
size = record { part = Count; limit = Size }

abbrev pub need : Place
need = record { part = Need; limit = Free }

abbrev pub name_of : Place
name_of = record { part = Name; limit = Free }

abbrev pub external : Place
external = record { part = Ext; limit = Free }

abbrev pub sources : Place
sources = record { part = Srcs; limit = Free }

abbrev pub of_test : Place
of_test = record { part = Srcs; limit = OfTest }

abbrev pub of_builtin : Place
of_builtin = record { part = Srcs; limit = OfBuiltin }

abbrev pub of_raise : Place
of_raise = record { part = Srcs; limit = OfRaise }

abbrev pub cases : Place
cases = record { part = Cases; limit = Free }

abbrev pub arities : Place
arities = record { part = Arities; limit = Free }

abbrev pub pairs : Place
pairs = record { part = Pairs; limit = Free }

abbrev pub gets : Place
gets = record { part = Gets; limit = Free }

abbrev pub registers : Place
registers = record { part = Regs; limit = Free }

abbrev pub any : Place
any = record { part = Any; limit = Free }
