-- An instruction is read back from its bytes, so the bytes of a method's code tell its instructions.
use Rattle.std.proofs.Common.{◌≡◌, ℕ, ◌+◌, ◌-◌, ◌<◌, ◌≤◌, ◌^◌, Bool, true, ◌&&◌, nat_eq, nat_lt, nat_le, if◌then◌else◌, List, [], ◌∷◌, ◌++◌, length, None, refl, sym, ap, subst, ◌∙◌, arith}
use Rattle.std.specs.Prelude.{ℤ, FitsSigned}
use Rattle.std.specs.Int.{cast_signed, cast_unsigned, w16}
use Rattle.std.specs.List.{flat_map, AllByRecursion}
use Rattle.std.proofs.Math.Facts.{Fits-lt-pow, Fits-of_z, to_z-of_z}
use Rattle.std.proofs.lemmas.Bool.{and_parts, eqb-true, lt-ltb, le-ltb, le-leb}
use Rattle.std.proofs.lemmas.Nat.{from_be_bytes-to_be_bytes_2}
use Rattle.erjang_top.specs.first_path.ClassFile.{Short, Byte, Wide, Op, IConst, SIPush, LdcW, Ldc2W, ALoad, AStore, Invoke, IReturn, op_bytes}
use Rattle.erjang_top.specs.first_path.ClassProfile.{IsLocal, has_offsets}
use Rattle.erjang_top.proofs.FirstPath.Spelling.{Tells, Reader, took, then_read, ReadsBack, tells_from_reads, read_u2}

-- the operands fit their bytes
abbrev pub OpFits : Op → Type 0
OpFits (IConst value) = value ≤ 5
OpFits (SIPush value) = FitsSigned w16 value
OpFits (LdcW index) = index < 2 ^ 16
OpFits (Ldc2W index) = index < 2 ^ 16
OpFits (ALoad width local) = IsLocal width local
OpFits (AStore width local) = IsLocal width local
OpFits (Invoke index) = index < 2 ^ 16
OpFits IReturn = Unit {0}

abbrev is_within : ℕ → ℕ → ℕ → Bool
is_within low high n = nat_le low n && nat_lt n high

abbrev short_behind : ℕ → Reader Op
short_behind value bytes = took (SIPush (cast_signed w16 value)) bytes

abbrev index_behind : (ℕ → Op) → Reader Op
index_behind of bytes = then_read (read_u2 bytes) (λ index rest. took (of index) rest)

abbrev byte_behind : (ℕ → Op) → Reader Op
byte_behind of [] = None
byte_behind of (local ∷ rest) = took (of local) rest

-- behind `wide`
abbrev wide_behind : Reader Op
wide_behind [] = None
wide_behind (opcode ∷ bytes) =
    if nat_eq opcode 25 then index_behind (ALoad Wide) bytes
    else if nat_eq opcode 58 then index_behind (AStore Wide) bytes
    else None

-- by the opcode
abbrev op_behind : ℕ → Reader Op
op_behind opcode bytes =
    if nat_lt opcode 9 then took (IConst (opcode - 3)) bytes
    else if is_within 42 46 opcode then took (ALoad Short (opcode - 42)) bytes
    else if is_within 75 79 opcode then took (AStore Short (opcode - 75)) bytes
    else if nat_eq opcode 17 then then_read (read_u2 bytes) short_behind
    else if nat_eq opcode 19 then index_behind LdcW bytes
    else if nat_eq opcode 20 then index_behind Ldc2W bytes
    else if nat_eq opcode 25 then byte_behind (ALoad Byte) bytes
    else if nat_eq opcode 58 then byte_behind (AStore Byte) bytes
    else if nat_eq opcode 172 then took IReturn bytes
    else if nat_eq opcode 184 then index_behind Invoke bytes
    else if nat_eq opcode 196 then wide_behind bytes
    else None

abbrev read_op : Reader Op
read_op [] = None
read_op (opcode ∷ bytes) = op_behind opcode bytes

op_back : ReadsBack OpFits op_bytes read_op
op_back (IConst value) rest h =
    let number : 3 + value - 3 ≡ value = omega arith in
    rw (lt-ltb (3 + value) 9 (omega arith)) (ap (λ (n : ℕ). took (IConst n) rest) number)
op_back (SIPush value) rest h =
    ap (λ (z : ℤ). took (SIPush z) rest) (ap (cast_signed w16) (from_be_bytes-to_be_bytes_2 (cast_unsigned w16 value) (Fits-lt-pow (Fits-of_z h))) ∙ to_z-of_z h)
op_back (LdcW index) rest h = ap (λ (n : ℕ). took (LdcW n) rest) (from_be_bytes-to_be_bytes_2 index h)
op_back (Ldc2W index) rest h = ap (λ (n : ℕ). took (Ldc2W n) rest) (from_be_bytes-to_be_bytes_2 index h)
op_back (ALoad Short local) rest h =
    let number : 42 + local - 42 ≡ local = omega arith in
    rw (le-ltb (42 + local) 9 (omega arith), le-leb 42 (42 + local) (omega arith), lt-ltb (42 + local) 46 (omega arith)) (ap (λ (n : ℕ). took (ALoad Short n) rest) number)
op_back (ALoad Byte local) rest h = refl
op_back (ALoad Wide local) rest h = ap (λ (n : ℕ). took (ALoad Wide n) rest) (from_be_bytes-to_be_bytes_2 local h)
op_back (AStore Short local) rest h =
    let number : 75 + local - 75 ≡ local = omega arith in
    rw (le-ltb (75 + local) 9 (omega arith), le-leb 42 (75 + local) (omega arith), le-ltb (75 + local) 46 (omega arith), le-leb 75 (75 + local) (omega arith), lt-ltb (75 + local) 79 (omega arith))
    (ap (λ (n : ℕ). took (AStore Short n) rest) number)
op_back (AStore Byte local) rest h = refl
op_back (AStore Wide local) rest h = ap (λ (n : ℕ). took (AStore Wide n) rest) (from_be_bytes-to_be_bytes_2 local h)
op_back (Invoke index) rest h = ap (λ (n : ℕ). took (Invoke n) rest) (from_be_bytes-to_be_bytes_2 index h)
op_back IReturn rest h = refl

pub op-tells : Tells OpFits op_bytes
op-tells = tells_from_reads OpFits op_bytes read_op op_back

-- no instruction has no bytes
op_has_bytes : (op : Op) (rest : List ℕ) → OpFits op → op_bytes op ++ rest ≡ [] → ⊥
op_has_bytes op rest h e = let nothing : took op rest ≡ None = sym (op_back op rest h) ∙ ap read_op e in cc

same_item : (a b : ℕ) (o p : Op) (xs ys : List (ℕ × Op)) → a ≡ b → o ≡ p → xs ≡ ys → (a, o) ∷ xs ≡ (b, p) ∷ ys
same_item a b o p xs ys d e f = cc

-- the code tells its instructions, whose offsets are those of their bytes
pub same_code : (at : ℕ) (xs ys : List (ℕ × Op)) → has_offsets at xs ≡ true → has_offsets at ys ≡ true
    → AllByRecursion (λ p. OpFits p.1) xs → AllByRecursion (λ p. OpFits p.1) ys
    → flat_map (λ p. op_bytes p.1) xs ≡ flat_map (λ p. op_bytes p.1) ys → xs ≡ ys
same_code at [] [] h k f g e = refl
same_code at [] (y ∷ ys) h k f g e = absurd (op_has_bytes y.1 _ g.0 (sym e))
same_code at (x ∷ xs) [] h k f g e = absurd (op_has_bytes x.1 _ f.0 e)
same_code at (x ∷ xs) (y ∷ ys) h k f g e =
    let a = and_parts _ _ h in
    let b = and_parts _ _ k in
    let offset : x.0 ≡ y.0 = eqb-true _ _ a.0 ∙ sym (eqb-true _ _ b.0) in
    let p = op-tells x.1 y.1 (flat_map (λ p. op_bytes p.1) xs) (flat_map (λ p. op_bytes p.1) ys) f.0 g.0 e in
    let there : has_offsets (at + length (op_bytes x.1)) ys ≡ true = subst (λ (op : Op). has_offsets (at + length (op_bytes op)) ys ≡ true) (sym p.0) b.1 in
    let rest = same_code (at + length (op_bytes x.1)) xs ys a.1 there f.1 g.1 p.1 in
    same_item x.0 y.0 x.1 y.1 xs ys offset p.0 rest
