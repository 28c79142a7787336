-- The canonical print of a term as a source writes it: no spaces, no strings, maps in the order of their keys with
-- the later of equal keys, and an opaque token as it was spelled.
use Rattle.std.specs.Prelude.{◌≡◌, ℕ, List, [], ◌∷◌, ◌++◌, map, codes, Option, None, Some}
use Rattle.std.specs.Fmt.{decimal, signed_decimal}
use Rattle.std.specs.List.{join_with_byte}
use Rattle.std.specs.Cmp.Lexicographic.{slice_cmp}
use Rattle.std.specs.Ordering.{nat_cmp, match_ordering}
use Rattle.std.specs.declared.cmp.Ordering.{Ordering}
use Rattle.std.specs.declared.cmp.Ordering.TheVariants.{Less, Greater}
use Rattle.ej_term.specs.declared.asm_term.AsmTerm.{AsmTerm}
use Rattle.ej_term.specs.declared.asm_term.AsmTerm.TheFolds.{para-AsmTerm}
use Rattle.ej_term.specs.declared.asm_term.AsmTerm.TheOpen as o
use Rattle.ej_term.specs.declared.asm_term.AsmTerm.TheOpen.{AsmTerm-F}
use Rattle.ej_term.specs.Term.{Term}
use Rattle.ej_term.specs.Order.{compare}
use Rattle.ej_term.specs.TermPrint as term
use Rattle.ej_term.specs.TermPrint.{print_atom, print_numbers, print_function}
use Rattle.ej_term.specs.AsmValue.{value}

-- pieces with commas between them
abbrev pub with_commas : List (List ℕ) → List ℕ
with_commas = join_with_byte 44

-- a term's print, and what it adds to a list whose tail it is: itself behind a bar, or its elements behind commas
pub record Printed : Type 0 where
  pub whole : List ℕ
  pub as_tail : List ℕ

-- of what is no list
abbrev pub alone : List ℕ → Printed
alone text = record { whole = text; as_tail = codes "|" ++ text }

abbrev pub nil : Printed
nil = record { whole = codes "[]"; as_tail = [] }

-- elements in front of a tail
abbrev pub elements_onto : List (List ℕ) → Printed → Printed
elements_onto [] tail = tail
elements_onto (first ∷ rest) tail = before (elements_onto rest tail)
  where
    before : Printed → Printed
    before behind = record { whole = codes "[" ++ first ++ behind.as_tail ++ codes "]"; as_tail = codes "," ++ first ++ behind.as_tail }

-- a part of a term, with its print
abbrev pub Part : Type 0
Part = AsmTerm × Printed

abbrev pub text : Part → List ℕ
text part = part.1.whole

abbrev pub tail_of : Option Part → Printed
tail_of None = nil
tail_of (Some tail) = tail.1

-- keys go by the order of terms; those that hold an opaque token stand behind the others, by their prints
abbrev pub compare_keys : Part → Part → Ordering
compare_keys a b = by_value (value a.0) (value b.0)
  where
    by_value : Option Term → Option Term → Ordering
    by_value (Some x) (Some y) = compare x y
    by_value (Some x) None = Less
    by_value None (Some y) = Greater
    by_value None None = slice_cmp nat_cmp (text a) (text b)

-- a key with its value
abbrev pub Entry : Type 0
Entry = Part × Part

-- the entries with this one, in the order of the keys
abbrev pub put_entry : Entry → List Entry → List Entry
put_entry entry [] = entry ∷ []
put_entry entry (other ∷ rest) = match_ordering (compare_keys entry.0 other.0) (entry ∷ other ∷ rest) (entry ∷ rest) (other ∷ put_entry entry rest)

-- the entries with one after the other put, so the later of equal keys wins
abbrev pub put_entries : List Entry → List Entry → List Entry
put_entries entries [] = entries
put_entries entries (entry ∷ rest) = put_entries (put_entry entry entries) rest

abbrev pub entry_text : Entry → List ℕ
entry_text entry = text entry.0 ++ codes "=>" ++ text entry.1

-- what a term prints as, once its parts are printed
abbrev pub print_step : AsmTerm-F Part → Printed
print_step (o.Int n) = alone (signed_decimal n)
print_step (o.Atom name) = alone (print_atom name)
print_step (o.Str characters) = elements_onto (map decimal characters) nil
print_step (o.List parts tail) = elements_onto (map text parts) (tail_of tail)
print_step (o.Tuple parts) = alone (codes "{" ++ with_commas (map text parts) ++ codes "}")
print_step (o.Map pairs) = alone (codes "#{" ++ with_commas (map entry_text (put_entries [] pairs)) ++ codes "}")
print_step (o.ExtFun owner name arity) = alone (print_function owner name arity)
print_step (o.Pid node number) = alone (codes "#Pid" ++ print_numbers node number)
print_step (o.Ref node number) = alone (codes "#Ref" ++ print_numbers node number)
print_step (o.Opaque spelling) = alone spelling

unfoldable pub printed : AsmTerm → Printed
printed = para-AsmTerm Printed print_step

abbrev pub print : AsmTerm → List ℕ
print t = (printed t).whole

-- a term that stands for a term prints as that
abbrev pub PrintsItsValue : Type 0
PrintsItsValue = (t : AsmTerm) (v : Term) → value t ≡ Some v → print t ≡ term.print v
