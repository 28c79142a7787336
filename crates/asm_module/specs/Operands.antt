-- The operands of an instruction's form (OTP 24, the assembly that `erlc -S` writes), place by place.
use Rattle.std.specs.Prelude.{ℕ, pos, Bool, true, false, if◌then◌else◌, List, [], ◌∷◌, ◌++◌, codes, unwrap_or, Option, None, Some, option_map, option_and_then}
use Rattle.std.specs.Option.{option_zip}
use Rattle.ej_term.specs.declared.asm_term.AsmTerm.{AsmTerm}
use Rattle.genop_table.specs.declared.part.Limit.{Limit}
use Rattle.genop_table.specs.declared.part.Limit.TheVariants as limit
use Rattle.genop_table.specs.declared.part.Part.{Part}
use Rattle.genop_table.specs.declared.part.Part.TheVariants as part
use Rattle.genop_table.specs.declared.part.Place.{Place}
use Rattle.genop_table.specs.declared.tests.TestArguments.{TestArguments}
use Rattle.genop_table.specs.declared.tests.TestArguments.TheVariants.{SourceAndSize, SourceSizeAndTag}
use Rattle.genop_table.specs.Tests.{arguments_of}
use Rattle.beam_code.specs.declared.operand.Operand.{Operand}
use Rattle.beam_code.specs.declared.operand.Operand.TheVariants as operand
use Rattle.beam_code.specs.declared.operand.Reg.{Reg}
use Rattle.beam_code.specs.declared.operand.Reg.TheVariants as register
use Rattle.beam_code.specs.declared.operand.Src.{Src}
use Rattle.beam_code.specs.declared.operand.Src.TheVariants as source
use Rattle.beam_code.specs.declared.operand.TheConstants.{LAST_COUNT, LAST_REGISTER}
use Rattle.asm_module.specs.Terms.{is_word, atom, integer, number, elements, tagged, pair, behind, each, Tagged}

abbrev pub register_named : List ℕ × AsmTerm → Option Reg
register_named p =
    if is_word p.0 (codes "x") then option_map register.X (number LAST_REGISTER p.1)
    else if is_word p.0 (codes "y") then option_map register.Y (number LAST_REGISTER p.1)
    else None

-- `{x,N}` or `{y,N}`
abbrev pub register_of : AsmTerm → Option Reg
register_of t = option_and_then register_named (pair t)

-- `{f,L}`
abbrev pub label_of : AsmTerm → Option ℕ
label_of t = option_and_then (number LAST_COUNT) (behind (codes "f") t)

-- a count
abbrev pub count_of : AsmTerm → Option ℕ
count_of t = number LAST_COUNT t

abbrev pub nil_named : List ℕ → Option Src
nil_named name = if is_word name (codes "nil") then Some source.Nil else None

abbrev pub atom_value : AsmTerm → Option Src
atom_value t = option_map source.Atom (atom t)

abbrev pub value_named : List ℕ × AsmTerm → Option Src
value_named p =
    if is_word p.0 (codes "integer") then option_map source.Int (integer p.1)
    else if is_word p.0 (codes "atom") then atom_value p.1
    else if is_word p.0 (codes "literal") then Some (source.Literal p.1)
    else option_map source.Reg (register_named p)

-- `nil`
abbrev pub nil_of : AsmTerm → Option Src
nil_of t = option_and_then nil_named (atom t)

abbrev pub source_paired : AsmTerm → Option (List ℕ × AsmTerm) → Option Src
source_paired t None = nil_of t
source_paired t (Some p) = value_named p

-- `{x,N}`, `{y,N}`, `{integer,I}`, `{atom,A}`, `nil` or `{literal,T}`
abbrev pub source_of : AsmTerm → Option Src
source_of t = source_paired t (pair t)

-- an integer that a count may be, as a source
abbrev pub size_of : AsmTerm → Option Src
size_of t = option_map (λ n. source.Int (pos n)) (count_of t)

abbrev pub external_with : Option (List ℕ) → Option (List ℕ) → Option ℕ → Option Operand
external_with (Some owner) (Some name) (Some arity) = Some (operand.Ext owner name arity)
external_with _ _ _ = None

abbrev pub external_named : AsmTerm → AsmTerm → AsmTerm → Option Operand
external_named owner name arity = external_with (atom owner) (atom name) (number 255 arity)

abbrev pub external_parts : List AsmTerm → Option Operand
external_parts (owner ∷ name ∷ arity ∷ []) = external_named owner name arity
external_parts _ = None

abbrev pub external_tagged : Tagged → Option Operand
external_tagged t = if is_word t.0 (codes "extfunc") then external_parts t.1 else None

-- `{extfunc,M,F,A}`
abbrev pub external_of : AsmTerm → Option Operand
external_of t = option_and_then external_tagged (tagged t)

-- the elements of `{list,L}`
abbrev pub listed : AsmTerm → Option (List AsmTerm)
listed t = option_and_then elements (behind (codes "list") t)

-- a source, a count, and sources
abbrev pub sized : List AsmTerm → Option (List Src)
sized (first ∷ size ∷ rest) =
    option_and_then (λ s. option_and_then (λ n. option_map (λ ss. s ∷ n ∷ ss) (each source_of rest)) (size_of size)) (source_of first)
sized _ = None

-- in the arguments of some tests a count stands second
abbrev pub takes_size : Option TestArguments → Bool
takes_size (Some SourceAndSize) = true
takes_size (Some SourceSizeAndTag) = true
takes_size _ = false

abbrev pub test_sources : Option TestArguments → List AsmTerm → Option (List Src)
test_sources takes terms = if takes_size takes then sized terms else each source_of terms

-- the arguments of tests and builtins are a list, the other sources `{list,L}`
abbrev pub sources_of : Limit → ℕ → AsmTerm → Option (List Src)
sources_of limit.OfTest number t = option_and_then (test_sources (arguments_of number)) (elements t)
sources_of limit.OfBuiltin number t = option_and_then (each source_of) (elements t)
sources_of limit.OfRaise number t = option_and_then (each source_of) (elements t)
sources_of _ number t = option_and_then (each source_of) (listed t)

-- elements two by two
abbrev pub two_by_two : {A B : Type 0} → (AsmTerm → Option A) → (AsmTerm → Option B) → List AsmTerm → Option (List (A × B))
two_by_two first second [] = Some []
two_by_two first second (a ∷ []) = None
two_by_two first second (a ∷ b ∷ rest) = option_and_then (λ x. option_map (λ xs. x ∷ xs) (two_by_two first second rest)) (option_zip (first a) (second b))

-- The operand at a place; the number is that of the test or builtin that the form names, where it names one.
abbrev pub operand_of : Limit → ℕ → Part → AsmTerm → Option Operand
operand_of l number part.Src t = option_map operand.Src (source_of t)
operand_of l number part.Reg t = option_map operand.Reg (register_of t)
operand_of l number part.Label t = option_map operand.Label (label_of t)
operand_of l number part.Count t = option_map operand.Count (count_of t)
operand_of l number part.Name t = Some (operand.Name number)
operand_of l number part.Ext t = external_of t
operand_of l number part.Srcs t = option_map operand.Srcs (sources_of l number t)
operand_of l number part.Cases t = option_map operand.Cases (option_and_then (two_by_two source_of label_of) (listed t))
operand_of l number part.Arities t = option_map operand.Cases (option_and_then (two_by_two size_of label_of) (listed t))
operand_of l number part.Pairs t = option_map operand.Pairs (option_and_then (two_by_two source_of source_of) (listed t))
operand_of l number part.Gets t = option_map operand.Gets (option_and_then (two_by_two source_of register_of) (listed t))
operand_of l number part.Regs t = option_map operand.Regs (option_and_then (each register_of) (listed t))
operand_of l number _ t = None

-- a count or `{alloc,_}`
abbrev pub is_need_paired : Option ℕ → Option AsmTerm → Bool
is_need_paired None None = false
is_need_paired _ _ = true

abbrev pub is_need : AsmTerm → Bool
is_need t = is_need_paired (count_of t) (behind (codes "alloc") t)

abbrev pub one : Operand → List Operand
one o = o ∷ []

abbrev pub one_or_none : Option Operand → List Operand
one_or_none o = unwrap_or (option_map one o) []

-- what a place keeps: nothing of what is needed of the heap and of what is not looked at, and else its operand
unfoldable pub kept_of : Limit → ℕ → Part → AsmTerm → Option (List Operand)
kept_of l number part.Need t = if is_need t then Some [] else None
kept_of l number part.Any t = Some []
kept_of l number p t = option_map one (operand_of l number p t)

-- the operands of the terms behind an instruction's name, by the places of its row
abbrev pub operands_of : ℕ → List Place → List AsmTerm → Option (List Operand)
operands_of number [] [] = Some []
operands_of number (p ∷ places) (t ∷ terms) =
    option_and_then (λ first. option_map (λ rest. first ++ rest) (operands_of number places terms)) (kept_of p.limit number p.part t)
operands_of number _ _ = None
