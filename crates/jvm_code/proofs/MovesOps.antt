-- An instruction takes a byte at least.
use Rattle.std.proofs.Common.{◌≡◌, ℕ, ◌+◌, ◌-◌, ◌<◌, ◌^◌, ℤ, pos, ◌-ℤ◌, nat_abs, nat_eq, nat_le, nat_lt, int_le, ◌&&◌, true, false, List, length, slice_get, Ok, ◌∙◌, arith}
use Rattle.std.specs.Int.{cast_signed, w8, w16, w32}
use Rattle.jvm_code.specs.declared.class.Constant.{Constant}
use Rattle.jvm_code.specs.declared.class.Op.{Op}
use Rattle.jvm_code.specs.declared.class.Op.TheVariants as o
use Rattle.jvm_code.specs.declared.class.Width.TheVariants as w
use Rattle.jvm_code.specs.Padding.{pad}
use Rattle.jvm_code.specs.ReadOps.{loadable, loadable_wide, callable, ldc, ldc_w, ldc2_w, invoke, constant, load, store, simple, branch, padded, offsets, table_switch, pair, pair_count, rises, lookup_switch, widened, wide, control, behind, op}
use Rattle.jvm_code.specs.Reader.{u1, s1, s2, s4, broken_unless}
use Rattle.jvm_code.proofs.Moves.{Moves, chained, number_moved, moves_done, moves_outside, moves_then, moves_as, moves_number, moves_field, moves_if, moves_times, moves_padding}

moves_s1 : Moves s1
moves_s1 = moves_as (cast_signed w8) (moves_number 1)

moves_s2 : Moves s2
moves_s2 = moves_as (cast_signed w16) (moves_number 2)

moves_s4 : Moves s4
moves_s4 = moves_as (cast_signed w32) (moves_number 4)

moves_ldc : (pool : List Constant) → Moves (ldc pool)
moves_ldc pool = moves_as o.Ldc (moves_field (λ i. loadable (slice_get pool i)) (moves_number 1))

moves_ldc_w : (pool : List Constant) → Moves (ldc_w pool)
moves_ldc_w pool = moves_as o.LdcW (moves_field (λ i. loadable (slice_get pool i)) (moves_number 2))

moves_ldc2_w : (pool : List Constant) → Moves (ldc2_w pool)
moves_ldc2_w pool = moves_as o.Ldc2W (moves_field (λ i. loadable_wide (slice_get pool i)) (moves_number 2))

moves_invoke : (pool : List Constant) → Moves (invoke pool)
moves_invoke pool = moves_as o.Invoke (moves_field (λ i. callable (slice_get pool i)) (moves_number 2))

moves_constant : (pool : List Constant) (opcode : ℕ) → Moves (constant pool opcode)
moves_constant pool opcode = moves_if (nat_eq opcode 1)
    (moves_done o.Null)
    (moves_if (nat_le 2 opcode && nat_le opcode 8)
    (moves_done (o.IConst (pos opcode -ℤ pos 3)))
    (moves_if (nat_eq opcode 16)
    (moves_as o.Bipush moves_s1)
    (moves_if (nat_eq opcode 17)
    (moves_as o.Sipush moves_s2)
    (moves_if (nat_eq opcode 18)
    (moves_ldc pool)
    (moves_if (nat_eq opcode 19)
    (moves_ldc_w pool)
    (moves_if (nat_eq opcode 20)
    (moves_ldc2_w pool) moves_outside))))))

moves_load : (opcode : ℕ) → Moves (load opcode)
moves_load opcode = moves_if (nat_eq opcode 21)
    (moves_as (o.ILoad w.Byte) (moves_number 1))
    (moves_if (nat_eq opcode 25)
    (moves_as (o.ALoad w.Byte) (moves_number 1))
    (moves_if (nat_le 26 opcode && nat_le opcode 29)
    (moves_done (o.ILoad w.Short (opcode - 26)))
    (moves_if (nat_le 42 opcode && nat_le opcode 45)
    (moves_done (o.ALoad w.Short (opcode - 42))) moves_outside)))

moves_store : (opcode : ℕ) → Moves (store opcode)
moves_store opcode = moves_if (nat_eq opcode 54)
    (moves_as (o.IStore w.Byte) (moves_number 1))
    (moves_if (nat_eq opcode 58)
    (moves_as (o.AStore w.Byte) (moves_number 1))
    (moves_if (nat_le 59 opcode && nat_le opcode 62)
    (moves_done (o.IStore w.Short (opcode - 59)))
    (moves_if (nat_le 75 opcode && nat_le opcode 78)
    (moves_done (o.AStore w.Short (opcode - 75))) moves_outside)))

moves_simple : (opcode : ℕ) → Moves (simple opcode)
moves_simple opcode = moves_if (nat_eq opcode 87)
    (moves_done o.Pop)
    (moves_if (nat_eq opcode 89)
    (moves_done o.Dup)
    (moves_if (nat_eq opcode 95)
    (moves_done o.Swap)
    (moves_if (nat_eq opcode 96)
    (moves_done o.IAdd)
    (moves_if (nat_eq opcode 100)
    (moves_done o.ISub) moves_outside))))

moves_branch : (opcode : ℕ) → Moves (branch opcode)
moves_branch opcode = moves_if (nat_le 153 opcode && nat_le opcode 158)
    (moves_as (o.If opcode) moves_s2)
    (moves_if (nat_le 159 opcode && nat_le opcode 164)
    (moves_as (o.IfIcmp opcode) moves_s2)
    (moves_if (nat_le 165 opcode && nat_le opcode 166)
    (moves_as (o.IfAcmp opcode) moves_s2)
    (moves_if (nat_eq opcode 167)
    (moves_as o.Goto moves_s2) moves_outside)))

moves_padded : Moves padded
moves_padded = record { moved = λ pc bs x to rest e. (moves_padding (pad pc)).moved pc bs x to rest e }

moves_offsets : (low high : ℤ) → Moves (offsets low high)
moves_offsets low high = moves_times (nat_abs (high -ℤ low) + 1) moves_s4

moves_table : Moves table_switch
moves_table =
    moves_then moves_padded (λ _. moves_then moves_s4 (λ default. moves_then moves_s4 (λ low.
    moves_then (moves_field (λ high. broken_unless (int_le low high)) moves_s4) (λ high. moves_as (o.TableSwitch default low) (moves_offsets low high)))))

moves_pair : Moves pair
moves_pair = moves_then moves_s4 (λ value. moves_as (λ offset. (value, offset)) moves_s4)

moves_pair_count : Moves pair_count
moves_pair_count = moves_field (λ n. broken_unless (nat_lt n (2 ^ 31))) (moves_number 4)

moves_lookup : Moves lookup_switch
moves_lookup = moves_then moves_padded (λ _. moves_then moves_s4 (λ default. moves_then moves_pair_count (λ n.
    moves_as (o.LookupSwitch default) (moves_field (λ pairs. broken_unless (rises pairs)) (moves_times n moves_pair)))))

moves_widened : (opcode : ℕ) → Moves (widened opcode)
moves_widened opcode = moves_if (nat_eq opcode 21)
    (moves_as (o.ILoad w.Wide) (moves_number 2))
    (moves_if (nat_eq opcode 25)
    (moves_as (o.ALoad w.Wide) (moves_number 2))
    (moves_if (nat_eq opcode 54)
    (moves_as (o.IStore w.Wide) (moves_number 2))
    (moves_if (nat_eq opcode 58)
    (moves_as (o.AStore w.Wide) (moves_number 2)) moves_outside)))

moves_wide : Moves wide
moves_wide = moves_then (moves_number 1) moves_widened

moves_control : (pool : List Constant) (opcode : ℕ) → Moves (control pool opcode)
moves_control pool opcode = moves_if (nat_eq opcode 170)
    (moves_table)
    (moves_if (nat_eq opcode 171)
    (moves_lookup)
    (moves_if (nat_eq opcode 172)
    (moves_done o.IReturn)
    (moves_if (nat_eq opcode 184)
    (moves_invoke pool)
    (moves_if (nat_eq opcode 196)
    (moves_wide)
    (moves_if (nat_eq opcode 198)
    (moves_as (o.IfNull true) moves_s2)
    (moves_if (nat_eq opcode 199)
    (moves_as (o.IfNull false) moves_s2) moves_outside))))))

moves_behind : (pool : List Constant) (opcode : ℕ) → Moves (behind pool opcode)
moves_behind pool opcode = moves_if (nat_lt opcode 21)
    (moves_constant pool opcode)
    (moves_if (nat_lt opcode 54)
    (moves_load opcode)
    (moves_if (nat_lt opcode 87)
    (moves_store opcode)
    (moves_if (nat_lt opcode 153)
    (moves_simple opcode)
    (moves_if (nat_lt opcode 170)
    (moves_branch opcode) (moves_control pool opcode)))))

pub moves_op : (pool : List Constant) (pc : ℕ) (bs : List ℕ) (x : Op) (to : ℕ) (rest : List ℕ) → op pool pc bs ≡ Ok (x, to, rest) → (pc < to) × (to + length rest ≡ pc + length bs)
moves_op pool pc bs x to rest e =
    let c = chained (u1 pc bs) (behind pool) (x, to, rest) e in
    let p = (moves_number 1).moved pc bs c.value c.at c.rest c.first in
    let q = (moves_behind pool c.value).moved c.at c.rest x to rest c.second in
    (omega (arith, q.on, number_moved 1 pc bs c.value c.at c.rest c.first), q.kept ∙ p.kept)
