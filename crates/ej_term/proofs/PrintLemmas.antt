-- The print of each kind of source term, as an equation.
use Rattle.std.proofs.Common.{◌≡◌, ℕ, ℤ, List, [], ◌++◌, map, codes, None, Some, refl, sym, ap, ◌∙◌}
use Rattle.std.specs.Fmt.{decimal, signed_decimal}
use Rattle.ej_term.specs.declared.asm_term.AsmTerm.{AsmTerm}
use Rattle.ej_term.specs.declared.asm_term.AsmTerm.TheFolds.{para-roll-AsmTerm, map-AsmTerm}
use Rattle.ej_term.specs.declared.asm_term.AsmTerm.TheViews.{roll-AsmTerm}
use Rattle.ej_term.specs.declared.asm_term.AsmTerm.TheOpen as o
use Rattle.ej_term.specs.declared.asm_term.AsmTerm.TheOpen.{AsmTerm-F}
use Rattle.ej_term.specs.declared.asm_term.AsmTerm.TheVariants as v
use Rattle.ej_term.specs.TermPrint.{print_atom, print_numbers, print_function}
use Rattle.ej_term.specs.Print.{with_commas, Printed, alone, nil, elements_onto, text, Part, Entry, put_entries, entry_text, print_step, printed, print}
use Rattle.ej_term.proofs.Options.{fused}

-- once its parts are printed
pub printed-roll : (d : AsmTerm-F AsmTerm) → printed (roll-AsmTerm d) ≡ print_step (map-AsmTerm AsmTerm Part (λ t. (t, printed t)) d)
unfolding printed
printed-roll d = para-roll-AsmTerm Printed print_step d

pub printed-Int : (n : ℤ) → printed (v.Int n) ≡ alone (signed_decimal n)
printed-Int n = ap printed (sym (v.rolls-Int n)) ∙ printed-roll (o.Int n)

pub printed-Atom : (name : List ℕ) → printed (v.Atom name) ≡ alone (print_atom name)
printed-Atom name = ap printed (sym (v.rolls-Atom name)) ∙ printed-roll (o.Atom name)

pub printed-Str : (characters : List ℕ) → printed (v.Str characters) ≡ elements_onto (map decimal characters) nil
printed-Str characters = ap printed (sym (v.rolls-Str characters)) ∙ printed-roll (o.Str characters)

texts : (parts : List AsmTerm) → map text (map (λ t. (t, printed t)) parts) ≡ map print parts
texts parts = fused (λ t. (t, printed t)) text print (λ t. refl) parts

pub printed-proper : (parts : List AsmTerm) → printed (v.List parts None) ≡ elements_onto (map print parts) nil
printed-proper parts =
    ap printed (sym (v.rolls-List parts None)) ∙ printed-roll (o.List parts None) ∙ ap (λ ts. elements_onto ts nil) (texts parts)

pub printed-improper : (parts : List AsmTerm) (tail : AsmTerm) → printed (v.List parts (Some tail)) ≡ elements_onto (map print parts) (printed tail)
printed-improper parts tail =
    ap printed (sym (v.rolls-List parts (Some tail))) ∙ printed-roll (o.List parts (Some tail))
    ∙ ap (λ ts. elements_onto ts (printed tail)) (texts parts)

pub printed-Tuple : (parts : List AsmTerm) → printed (v.Tuple parts) ≡ alone (codes "{" ++ with_commas (map print parts) ++ codes "}")
printed-Tuple parts =
    ap printed (sym (v.rolls-Tuple parts)) ∙ printed-roll (o.Tuple parts)
    ∙ ap (λ ts. alone (codes "{" ++ with_commas ts ++ codes "}")) (texts parts)

-- a pair with the prints of its key and its value
abbrev pub entry_of : AsmTerm × AsmTerm → Entry
entry_of pair = ((pair.0, printed pair.0), (pair.1, printed pair.1))

pub printed-Map : (pairs : List (AsmTerm × AsmTerm)) → printed (v.Map pairs) ≡ alone (codes "#{" ++ with_commas (map entry_text (put_entries [] (map entry_of pairs))) ++ codes "}")
printed-Map pairs = ap printed (sym (v.rolls-Map pairs)) ∙ printed-roll (o.Map pairs)

pub printed-ExtFun : (owner name : List ℕ) (arity : ℕ) → printed (v.ExtFun owner name arity) ≡ alone (print_function owner name arity)
printed-ExtFun owner name arity = ap printed (sym (v.rolls-ExtFun owner name arity)) ∙ printed-roll (o.ExtFun owner name arity)

pub printed-Pid : (node number : ℕ) → printed (v.Pid node number) ≡ alone (codes "#Pid" ++ print_numbers node number)
printed-Pid node number = ap printed (sym (v.rolls-Pid node number)) ∙ printed-roll (o.Pid node number)

pub printed-Ref : (node number : ℕ) → printed (v.Ref node number) ≡ alone (codes "#Ref" ++ print_numbers node number)
printed-Ref node number = ap printed (sym (v.rolls-Ref node number)) ∙ printed-roll (o.Ref node number)

pub printed-Opaque : (spelling : List ℕ) → printed (v.Opaque spelling) ≡ alone spelling
printed-Opaque spelling = ap printed (sym (v.rolls-Opaque spelling)) ∙ printed-roll (o.Opaque spelling)

-- the same of the print alone
whole : {p q : Printed} → p ≡ q → p.whole ≡ q.whole
whole e = ap (λ r. r.whole) e

pub print-Int : (n : ℤ) → print (v.Int n) ≡ signed_decimal n
print-Int n = whole (printed-Int n)

pub print-Atom : (name : List ℕ) → print (v.Atom name) ≡ print_atom name
print-Atom name = whole (printed-Atom name)

pub print-Str : (characters : List ℕ) → print (v.Str characters) ≡ (elements_onto (map decimal characters) nil).whole
print-Str characters = whole (printed-Str characters)

pub print-proper : (parts : List AsmTerm) → print (v.List parts None) ≡ (elements_onto (map print parts) nil).whole
print-proper parts = whole (printed-proper parts)

pub print-improper : (parts : List AsmTerm) (tail : AsmTerm) → print (v.List parts (Some tail)) ≡ (elements_onto (map print parts) (printed tail)).whole
print-improper parts tail = whole (printed-improper parts tail)

pub print-Tuple : (parts : List AsmTerm) → print (v.Tuple parts) ≡ codes "{" ++ with_commas (map print parts) ++ codes "}"
print-Tuple parts = whole (printed-Tuple parts)

pub print-Map : (pairs : List (AsmTerm × AsmTerm)) → print (v.Map pairs) ≡ codes "#{" ++ with_commas (map entry_text (put_entries [] (map entry_of pairs))) ++ codes "}"
print-Map pairs = whole (printed-Map pairs)

pub print-ExtFun : (owner name : List ℕ) (arity : ℕ) → print (v.ExtFun owner name arity) ≡ print_function owner name arity
print-ExtFun owner name arity = whole (printed-ExtFun owner name arity)

pub print-Pid : (node number : ℕ) → print (v.Pid node number) ≡ codes "#Pid" ++ print_numbers node number
print-Pid node number = whole (printed-Pid node number)

pub print-Ref : (node number : ℕ) → print (v.Ref node number) ≡ codes "#Ref" ++ print_numbers node number
print-Ref node number = whole (printed-Ref node number)

pub print-Opaque : (spelling : List ℕ) → print (v.Opaque spelling) ≡ spelling
print-Opaque spelling = whole (printed-Opaque spelling)

pub ruleset print_cases = (print-Int, print-Atom, print-Str, print-proper, print-improper, print-Tuple, print-Map, print-ExtFun, print-Pid, print-Ref, print-Opaque)
