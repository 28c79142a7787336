-- An instruction's form, and the first case by which it is refused.
use Rattle.std.specs.Prelude.{ℕ, Bool, true, not, nat_eq, nat_le, ◌&&◌, ◌||◌, if◌then◌else◌, List, [], length, codes, encode_utf8_all, slice_get, unwrap_or, Result, Ok, Err, Option, None, Some, option_map, option_and_then}
use Rattle.std.specs.Option.{is_some}
use Rattle.ej_term.specs.declared.asm_term.AsmTerm.{AsmTerm}
use Rattle.ej_tables.specs.Rows.{number_of}
use Rattle.genop_table.specs.declared.genop.Genop.{Genop}
use Rattle.genop_table.specs.declared.genop.Genop.TheVariants as g
use Rattle.genop_table.specs.declared.part.Place.{Place}
use Rattle.genop_table.specs.Builtins.{builtin_number, is_guard, is_guard_name}
use Rattle.genop_table.specs.Instructions.{Instruction as Row, spelling_of}
use Rattle.genop_table.specs.Tests.{test_entries}
use Rattle.beam_code.specs.Foreign.{holds_foreign}
use Rattle.beam_code.specs.Parts.{Instruction, fitting}
use Rattle.asm_module.specs.declared.fault.FormFault.{FormFault}
use Rattle.asm_module.specs.declared.fault.FormFault.TheVariants.{OutsideProfile, BadInstruction}
use Rattle.asm_module.specs.Terms.{is_word, atom, elements, tagged, Tagged}
use Rattle.asm_module.specs.Operands.{operands_of}

-- an instruction as it is written: its name, and the terms behind it, none where it is an atom alone
pub record Written : Type 0 where
  pub name : List ℕ
  pub terms : Option (List AsmTerm)

abbrev pub written_tagged : Tagged → Written
written_tagged t = record { name = t.0; terms = Some t.1 }

abbrev pub written_in : AsmTerm → Option (List ℕ) → Option Written
written_in t (Some name) = Some (record { name = name; terms = None })
written_in t None = option_map written_tagged (tagged t)

-- an atom, or a tuple that begins with one
abbrev pub written : AsmTerm → Option Written
written t = written_in t (atom t)

abbrev pub terms_of : Written → List AsmTerm
terms_of w = unwrap_or w.terms []

-- the first row of that name
unfoldable pub row_named : List ℕ → Option Row
row_named name = spelling_of (encode_utf8_all name) 0

-- `{line,_}` and `{'%',_}`, in which anything may stand
abbrev pub is_free : Written → Bool
is_free w = (is_word w.name (codes "line") || is_word w.name (codes "%")) && nat_eq (length (terms_of w)) 1

-- an opaque token, a pid or a reference is anywhere in an instruction that may not have one
unfoldable pub has_foreign : AsmTerm → Written → Bool
has_foreign t w = holds_foreign t && not (is_free w)

unfoldable pub test_number : List ℕ → Option ℕ
test_number name = number_of (encode_utf8_all name) 0 test_entries

abbrev pub if_guard : ℕ → Option ℕ
if_guard number = if is_guard number then Some number else None

-- the number of the builtin of the module `erlang` of that name and arity
unfoldable pub erlang_number : List ℕ → ℕ → Option ℕ
erlang_number name arity = builtin_number (codes "erlang") (encode_utf8_all name) arity

-- the number of the guard builtin of that name and arity; no function has more than 255 arguments
abbrev pub guard_number : List ℕ → ℕ → Option ℕ
guard_number name arity = if nat_le arity 255 then option_and_then if_guard (erlang_number name arity) else None

-- the atom that names the test or the builtin
abbrev pub named : List AsmTerm → Option (List ℕ)
named terms = option_and_then atom (slice_get terms 0)

-- the count of the arguments, where the term at that place is a list
abbrev pub argument_count : ℕ → List AsmTerm → Option ℕ
argument_count place terms = option_map (λ (ts : List AsmTerm). length ts) (option_and_then elements (slice_get terms place))

-- a builtin that `bif` or `gc_bif` may name, with so many arguments where these are a list, and else of any arity
abbrev pub is_guard_with : List ℕ → Option ℕ → Bool
is_guard_with name (Some arity) = is_some (guard_number name arity)
is_guard_with name None = is_guard_name (encode_utf8_all name)

abbrev pub are_two : Option ℕ → Bool
are_two None = true
are_two (Some arity) = nat_eq arity 2

-- `raise` with two arguments, or with what is no list, is known under `bif`
abbrev pub is_bif : List ℕ → Option ℕ → Bool
is_bif name arguments = if is_word name (codes "raise") then are_two arguments else is_guard_with name arguments

abbrev pub is_test : List ℕ → Bool
is_test name = is_word name (codes "has_map_fields") || is_some (test_number name)

-- the name is one that the instruction may have
abbrev pub is_known_in : Genop → List AsmTerm → List ℕ → Bool
is_known_in g.Test terms name = is_test name
is_known_in g.Bif terms name = is_bif name (argument_count 2 terms)
is_known_in g.GcBif terms name = is_guard_with name (argument_count 3 terms)
is_known_in _ terms name = true

abbrev pub unless : Bool → List ℕ → Option (List ℕ)
unless known name = if known then None else Some name

-- the name of what is no test, or no guard builtin of that arity
unfoldable pub unknown_name : Genop → List AsmTerm → Option (List ℕ)
unknown_name genop terms = option_and_then (λ name. unless (is_known_in genop terms name) name) (named terms)

-- `raise` under `bif` and `has_map_fields` under `test` have rows of their own
abbrev pub row_with : Genop → Row → List ℕ → Option Row
row_with g.Bif row name = if is_word name (codes "raise") then spelling_of (codes "bif") 1 else Some row
row_with g.Test row name = if is_word name (codes "has_map_fields") then spelling_of (codes "test") 1 else Some row
row_with _ row name = Some row

abbrev pub row_for : Row → Option (List ℕ) → Option Row
row_for row None = Some row
row_for row (Some name) = row_with row.genop row name

-- the row of an instruction whose first row by name is that one
unfoldable pub row_of : Row → List AsmTerm → Option Row
row_of row terms = row_for row (named terms)

abbrev pub number_for : Genop → List AsmTerm → List ℕ → Option ℕ
number_for g.Test terms name = test_number name
number_for g.Bif terms name = option_and_then (guard_number name) (argument_count 2 terms)
number_for g.GcBif terms name = option_and_then (guard_number name) (argument_count 3 terms)
number_for _ terms name = Some 0

-- the number of the test or guard builtin that the form names, 0 where it names none
abbrev pub number_in : Genop → List AsmTerm → ℕ
number_in genop terms = unwrap_or (option_and_then (number_for genop terms) (named terms)) 0

-- an atom alone, where nothing stands behind the row's name
abbrev pub bare : ℕ → List Place → Option Instruction
bare number places = if nat_eq (length places) 0 then fitting number [] else None

-- a tuple of what the row's places ask
abbrev pub in_tuple : Row → List AsmTerm → Option Instruction
in_tuple row terms =
    if nat_eq (length row.places) 0 then None
    else option_and_then (fitting row.entry.number) (operands_of (number_in row.genop terms) row.places terms)

abbrev pub by_terms : Row → Option (List AsmTerm) → Option Instruction
by_terms row None = bare row.entry.number row.places
by_terms row (Some terms) = in_tuple row terms

-- the instruction of that row: an atom where nothing stands behind the name, and else a tuple of what the places ask
unfoldable pub instruction_of : Row → Written → Option Instruction
instruction_of row w = by_terms row w.terms

-- no shape fits
abbrev pub or_bad : ℕ → ℕ → Option Instruction → Result Instruction FormFault
or_bad func index None = Err (BadInstruction func index)
or_bad func index (Some i) = Ok i

-- a name that is none of the tests or guard builtins
abbrev pub or_unknown_name : ℕ → ℕ → Row → Written → Option (List ℕ) → Result Instruction FormFault
or_unknown_name func index row w (Some name) = Err (OutsideProfile func index name)
or_unknown_name func index row w None = or_bad func index (option_and_then (λ r. instruction_of r w) (row_of row (terms_of w)))

-- an opaque token, a pid or a reference
abbrev pub or_foreign : ℕ → ℕ → Row → AsmTerm → Written → Result Instruction FormFault
or_foreign func index row t w =
    if has_foreign t w then Err (OutsideProfile func index w.name)
    else or_unknown_name func index row w (unknown_name row.genop (terms_of w))

-- a name that no row has
abbrev pub or_no_row : ℕ → ℕ → AsmTerm → Written → Option Row → Result Instruction FormFault
or_no_row func index t w None = Err (OutsideProfile func index w.name)
or_no_row func index t w (Some row) = or_foreign func index row t w

-- a form that is neither an atom nor a tuple that begins with one
abbrev pub or_nameless : ℕ → ℕ → AsmTerm → Option Written → Result Instruction FormFault
or_nameless func index t None = Err (BadInstruction func index)
or_nameless func index t (Some w) = or_no_row func index t w (row_named w.name)

-- the instruction of a form, or the first case by which it is refused; function and index are told in the fault
abbrev pub instruction : ℕ → ℕ → AsmTerm → Result Instruction FormFault
instruction func index t = or_nameless func index t (written t)
