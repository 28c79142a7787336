-- What the code's values are seen as.
use Rattle.std.specs.Prelude.{◌≡◌, ℕ, Bool, List, map, Result, Ok, Err, Option, None, Some}
use Rattle.std.specs.Borrow.{Bor}
use Rattle.ej_term.specs.declared.asm_term.AsmTerm.{AsmTerm}
use Rattle.beam_code.specs.Keys.{Key, is_among}
use Rattle.asm_module.specs.declared.functions.Heading.{Heading as HeadingCode}
use Rattle.asm_module.specs.declared.header.Header.{Header as HeaderCode}
use Rattle.asm_module.specs.Modules.{Heading, Header, Headed}
use Rattle.std.specs.Option.{option_map}
use Rattle.asm_module.specs.Instructions.{Written}
use Rattle.asm_module.specs.declared.names.Written.{Written as WrittenCode}
use Rattle.asm_module.specs.declared.fault.FormFault.{FormFault}
use Rattle.asm_module.specs.declared.fault.FormFault.TheVariants.{NoMemory}
use Rattle.asm_module.specs.declared.part_fault.PartFault.{PartFault}
use Rattle.asm_module.specs.declared.part_fault.PartFault.TheVariants as part
use Rattle.asm_module.specs.declared.part_fault.PartFault.TheVariants.{Shape}

-- a fault that is told is the definition's, and a want of memory is none
abbrev pub Fails : {Y : Type 0} → FormFault → Result Y FormFault → Type 0
Fails NoMemory reading = Unit {0}
Fails fault reading = reading ≡ Err fault

-- a part is read where the definition gives one, and it is not of the shape where that gives none; a want of memory is free
abbrev pub ReadsAs : {X Y : Type 0} → (X → Y) → Result X PartFault → Option Y → Type 0
ReadsAs seen (Ok x) given = given ≡ Some (seen x)
ReadsAs seen (Err Shape) given = given ≡ None
ReadsAs seen (Err part.NoMemory) given = Unit {0}

abbrev pub Reads : {X : Type 0} → Result X PartFault → Option X → Type 0
Reads result given = ReadsAs (λ x. x) result given

-- what a function answers is what the definition gives, unless memory is wanting
abbrev pub Gives : {X Y : Type 0} → (X → Y) → Result X FormFault → Result Y FormFault → Type 0
Gives seen (Ok x) reading = reading ≡ Ok (seen x)
Gives seen (Err fault) reading = Fails fault reading

abbrev pub written_seen : WrittenCode → Written
written_seen w = record { name = w.name.now; terms = option_map (λ terms. terms.now) w.terms }

abbrev pub key_seen : Bor (List ℕ) × ℕ → Key
key_seen key = (key.0.now, key.1)

-- the key is one of a set's
abbrev pub is_held : List (Bor (List ℕ) × ℕ) → Key → Bool
is_held keys = is_among (map key_seen keys)

abbrev pub heading_seen : HeadingCode → Heading
heading_seen h = record { name = h.name.now; arity = h.arity; entry = h.entry }

abbrev pub header_seen : HeaderCode → Header
header_seen h = record { exports = h.exports; attributes = h.attributes; labels = h.labels }

abbrev pub headed_seen : HeaderCode × Bor (List AsmTerm) → Headed
headed_seen h = (header_seen h.0, h.1.now)
