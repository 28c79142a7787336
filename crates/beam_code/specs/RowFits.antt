-- Which operands fit a row of the table of instructions (OTP 24, `genop.tab`), with the limits of the numbers in them.
use Rattle.std.specs.Prelude.{ℕ, pos, Bool, true, false, not, nat_eq, nat_le, nat_lt, ◌&&◌, if◌then◌else◌, List, [], ◌∷◌, length, Option, None, Some}
use Rattle.std.specs.List.{list_all}
use Rattle.genop_table.specs.declared.part.Limit.{Limit}
use Rattle.genop_table.specs.declared.part.Limit.TheVariants as limit
use Rattle.genop_table.specs.declared.part.Part.{Part}
use Rattle.genop_table.specs.declared.part.Part.TheVariants as part
use Rattle.genop_table.specs.declared.part.Place.{Place}
use Rattle.genop_table.specs.declared.tests.TestArguments.{TestArguments}
use Rattle.genop_table.specs.declared.tests.TestArguments.TheVariants.{OneSource, TwoSources, SourceAndSize, SourceSizeAndTag}
use Rattle.genop_table.specs.Builtins.{Builtin, builtin_numbered, stands_in_guards}
use Rattle.genop_table.specs.Instructions.{Instruction, row_of}
use Rattle.genop_table.specs.Tests.{arguments_of}
use Rattle.beam_code.specs.declared.operand.Operand.{Operand}
use Rattle.beam_code.specs.declared.operand.Operand.TheVariants as operand
use Rattle.beam_code.specs.declared.operand.Reg.{Reg}
use Rattle.beam_code.specs.declared.operand.Reg.TheVariants as register
use Rattle.beam_code.specs.declared.operand.Src.{Src}
use Rattle.beam_code.specs.declared.operand.Src.TheVariants as source
use Rattle.beam_code.specs.declared.operand.TheConstants.{LAST_REGISTER, LAST_COUNT}
use Rattle.beam_code.specs.Foreign.{holds_foreign}

-- `{x,N}` or `{y,N}`
abbrev pub is_register : Reg → Bool
is_register (register.X n) = nat_le n LAST_REGISTER
is_register (register.Y n) = nat_le n LAST_REGISTER

-- a source: a register, or a value without an opaque token, a pid or a reference
abbrev pub is_source : Src → Bool
is_source (source.Reg r) = is_register r
is_source (source.Literal t) = not (holds_foreign t)
is_source _ = true

abbrev pub is_atom : Src → Bool
is_atom (source.Atom name) = true
is_atom _ = false

-- an integer from 0 that a count may be
abbrev pub is_count : Src → Bool
is_count (source.Int (pos n)) = nat_le n LAST_COUNT
is_count _ = false

-- a label that is none of failure
abbrev pub is_target : ℕ → Bool
is_target label = nat_lt 0 label && nat_le label LAST_COUNT

-- A number, a register, a source and a label within the limit of their place.

abbrev pub most : Limit → ℕ
most limit.Arguments = 255
most limit.Size = 1024
most _ = LAST_COUNT

abbrev pub is_register_within : Limit → Reg → Bool
is_register_within limit.Slot (register.X n) = false
is_register_within _ r = is_register r

abbrev pub is_source_within : Limit → Src → Bool
is_source_within limit.Atom s = is_atom s
is_source_within _ s = is_source s

abbrev pub is_label_within : Limit → ℕ → Bool
is_label_within limit.Target label = is_target label
is_label_within limit.Raises label = nat_eq label 0
is_label_within _ label = nat_le label LAST_COUNT

-- Lists of sources.

abbrev pub is_one_source : List Src → Bool
is_one_source (s ∷ []) = is_source s
is_one_source _ = false

abbrev pub are_two_sources : List Src → Bool
are_two_sources (s ∷ t ∷ []) = is_source s && is_source t
are_two_sources _ = false

abbrev pub is_source_with_size : List Src → Bool
is_source_with_size (s ∷ n ∷ []) = is_source s && is_count n
is_source_with_size _ = false

abbrev pub is_source_with_tag : List Src → Bool
is_source_with_tag (s ∷ n ∷ tag ∷ []) = is_source s && is_count n && is_atom tag
is_source_with_tag _ = false

abbrev pub test_takes : Option TestArguments → List Src → Bool
test_takes None arguments = false
test_takes (Some OneSource) arguments = is_one_source arguments
test_takes (Some TwoSources) arguments = are_two_sources arguments
test_takes (Some SourceAndSize) arguments = is_source_with_size arguments
test_takes (Some SourceSizeAndTag) arguments = is_source_with_tag arguments

-- a guard builtin takes as many sources as its arity
abbrev pub builtin_takes : Option Builtin → List Src → Bool
builtin_takes None arguments = false
builtin_takes (Some b) arguments = stands_in_guards b.standing && nat_eq b.entry.arity (length arguments) && list_all is_source arguments

-- `raise` takes a register with the trace, and the reason
abbrev pub raise_takes : List Src → Bool
raise_takes (source.Reg r ∷ s ∷ []) = is_register r && is_source s
raise_takes _ = false

-- sources within the limit of their place, behind the test or builtin of that number
abbrev pub are_sources_within : Limit → ℕ → List Src → Bool
are_sources_within limit.OfTest number sources = test_takes (arguments_of number) sources
are_sources_within limit.OfBuiltin number sources = builtin_takes (builtin_numbered number) sources
are_sources_within limit.OfRaise number sources = raise_takes sources
are_sources_within _ number sources = list_all is_source sources

-- Lists of pairs.

-- a value of `select_val`: an atom or an integer
abbrev pub is_case_value : Src → Bool
is_case_value (source.Int n) = true
is_case_value (source.Atom name) = true
is_case_value _ = false

abbrev pub is_case : Src × ℕ → Bool
is_case c = is_case_value c.0 && is_target c.1

abbrev pub is_arity : Src × ℕ → Bool
is_arity c = is_count c.0 && is_target c.1

abbrev pub is_pair : Src × Src → Bool
is_pair p = is_source p.0 && is_source p.1

abbrev pub is_get : Src × Reg → Bool
is_get p = is_source p.0 && is_register p.1

-- An operand stands for the part, within its limit; the number is that of the test or builtin before it. An external
-- function has at most 255 arguments.
abbrev pub fits_part : ℕ → Limit → Part → Operand → Bool
fits_part number l part.Src (operand.Src s) = is_source_within l s
fits_part number l part.Reg (operand.Reg r) = is_register_within l r
fits_part number l part.Label (operand.Label n) = is_label_within l n
fits_part number l part.Count (operand.Count n) = nat_le n (most l)
fits_part number l part.Name (operand.Name n) = true
fits_part number l part.Ext (operand.Ext owner name arity) = nat_le arity 255
fits_part number l part.Srcs (operand.Srcs sources) = are_sources_within l number sources
fits_part number l part.Cases (operand.Cases cases) = list_all is_case cases
fits_part number l part.Arities (operand.Cases cases) = list_all is_arity cases
fits_part number l part.Pairs (operand.Pairs pairs) = list_all is_pair pairs
fits_part number l part.Gets (operand.Gets pairs) = list_all is_get pairs
fits_part number l part.Regs (operand.Regs registers) = list_all is_register registers
fits_part number l _ _ = false

-- what is needed of the heap, and what is not looked at, keeps no operand
abbrev pub is_kept : Part → Bool
is_kept part.Need = false
is_kept part.Any = false
is_kept _ = true

-- the number of the test or builtin, once it has come
abbrev pub number_behind : ℕ → Operand → ℕ
number_behind number (operand.Name n) = n
number_behind number _ = number

-- the first operand stands for that place, and the others for what is behind it
abbrev pub first_fits : (ℕ → List Operand → Bool) → ℕ → Place → List Operand → Bool
first_fits behind number p [] = false
first_fits behind number p (first ∷ operands) = fits_part number p.limit p.part first && behind (number_behind number first) operands

-- the operands stand for these places
abbrev pub fits_places : ℕ → List Place → List Operand → Bool
fits_places number [] operands = nat_eq (length operands) 0
fits_places number (p ∷ places) operands =
    if is_kept p.part then first_fits (λ n rest. fits_places n places rest) number p operands else fits_places number places operands

abbrev pub fits_found : Option Instruction → List Operand → Bool
fits_found None operands = false
fits_found (Some i) operands = fits_places 0 i.places operands

-- there is a row of that number, and the operands stand for its places
abbrev pub fits : ℕ → List Operand → Bool
fits row operands = fits_found (row_of row) operands
