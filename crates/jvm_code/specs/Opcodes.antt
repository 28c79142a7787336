-- The table of opcodes (JVMS SE 7, 6.5): those of the profile.
use Rattle.std.specs.Prelude.{ℕ, List, [], ◌∷◌, map, codes, Option}
use Rattle.std.specs.List.{find}
use Rattle.ej_tables.specs.Rows.{Entry, has_number}
use Rattle.jvm_code.specs.declared.opcodes.Operands.{Operands}
use Rattle.jvm_code.specs.declared.opcodes.Operands.TheVariants.{None, Byte, Short, ByteIndex, Index, Local, Branch, Table, Lookup, Wide}

-- an opcode: its mnemonic and number, and what stands behind it
pub record Opcode : Type 0 where
  pub entry : Entry
  pub operands : Operands

abbrev pub row : ℕ → List ℕ → Operands → Opcode
row number name operands = record { entry = record { name = name; arity = 0; number = number }; operands = operands }

abbrev pub opcodes : List Opcode
opcodes =
    row 1 (codes "aconst_null") None
    ∷ row 2 (codes "iconst_m1") None
    ∷ row 3 (codes "iconst_0") None
    ∷ row 4 (codes "iconst_1") None
    ∷ row 5 (codes "iconst_2") None
    ∷ row 6 (codes "iconst_3") None
    ∷ row 7 (codes "iconst_4") None
    ∷ row 8 (codes "iconst_5") None
    ∷ row 16 (codes "bipush") Byte
    ∷ row 17 (codes "sipush") Short
    ∷ row 18 (codes "ldc") ByteIndex
    ∷ row 19 (codes "ldc_w") Index
    ∷ row 20 (codes "ldc2_w") Index
    ∷ row 21 (codes "iload") Local
    ∷ row 25 (codes "aload") Local
    ∷ row 26 (codes "iload_0") None
    ∷ row 27 (codes "iload_1") None
    ∷ row 28 (codes "iload_2") None
    ∷ row 29 (codes "iload_3") None
    ∷ row 42 (codes "aload_0") None
    ∷ row 43 (codes "aload_1") None
    ∷ row 44 (codes "aload_2") None
    ∷ row 45 (codes "aload_3") None
    ∷ row 54 (codes "istore") Local
    ∷ row 58 (codes "astore") Local
    ∷ row 59 (codes "istore_0") None
    ∷ row 60 (codes "istore_1") None
    ∷ row 61 (codes "istore_2") None
    ∷ row 62 (codes "istore_3") None
    ∷ row 75 (codes "astore_0") None
    ∷ row 76 (codes "astore_1") None
    ∷ row 77 (codes "astore_2") None
    ∷ row 78 (codes "astore_3") None
    ∷ row 87 (codes "pop") None
    ∷ row 89 (codes "dup") None
    ∷ row 95 (codes "swap") None
    ∷ row 96 (codes "iadd") None
    ∷ row 100 (codes "isub") None
    ∷ row 153 (codes "ifeq") Branch
    ∷ row 154 (codes "ifne") Branch
    ∷ row 155 (codes "iflt") Branch
    ∷ row 156 (codes "ifge") Branch
    ∷ row 157 (codes "ifgt") Branch
    ∷ row 158 (codes "ifle") Branch
    ∷ row 159 (codes "if_icmpeq") Branch
    ∷ row 160 (codes "if_icmpne") Branch
    ∷ row 161 (codes "if_icmplt") Branch
    ∷ row 162 (codes "if_icmpge") Branch
    ∷ row 163 (codes "if_icmpgt") Branch
    ∷ row 164 (codes "if_icmple") Branch
    ∷ row 165 (codes "if_acmpeq") Branch
    ∷ row 166 (codes "if_acmpne") Branch
    ∷ row 167 (codes "goto") Branch
    ∷ row 170 (codes "tableswitch") Table
    ∷ row 171 (codes "lookupswitch") Lookup
    ∷ row 172 (codes "ireturn") None
    ∷ row 184 (codes "invokestatic") Index
    ∷ row 196 (codes "wide") Wide
    ∷ row 198 (codes "ifnull") Branch
    ∷ row 199 (codes "ifnonnull") Branch
    ∷ []

-- the opcodes by mnemonic and number
abbrev pub opcode_entries : List Entry
opcode_entries = map (λ (o : Opcode). o.entry) opcodes

-- the row of that opcode
abbrev pub opcode_numbered : ℕ → Option Opcode
opcode_numbered number = find (λ (o : Opcode). has_number number o.entry) opcodes
