-- Instructions that are read tell their bytes.
use Rattle.std.proofs.Common.{◌≡◌, ℕ, zero, suc, ◌+◌, ◌-◌, ◌<◌, ◌^◌, ℤ, pos, ◌+ℤ◌, ◌-ℤ◌, nat_abs, nat_eq, nat_le, nat_lt, int_le, ◌&&◌, true, false, List, [], ◌∷◌, ◌++◌, length, replicate, slice_get, Ok, refl, sym, ap, ◌∙◌, subst, append-nil, arith}
use Rattle.std.proofs.lemmas.Bool.{eqb-true, leb-true, and_parts}
use Rattle.std.proofs.lemmas.Int.{ints}
use Rattle.std.specs.Int.{cast_unsigned, w8}
use Rattle.std.specs.List.{flat_map}
use Rattle.byteorder.specs.Endian.{big_bytes}
use Rattle.ej_tables.specs.Bytes.{AreBytes}
use Rattle.jvm_code.specs.declared.class.Constant.{Constant}
use Rattle.jvm_code.specs.declared.class.Op.{Op}
use Rattle.jvm_code.specs.declared.class.Op.TheVariants as o
use Rattle.jvm_code.specs.declared.class.Width.TheVariants as w
use Rattle.jvm_code.specs.Padding.{pad}
use Rattle.jvm_code.specs.ReadOps.{loadable, loadable_wide, callable, ldc, ldc_w, ldc2_w, invoke, constant, load, store, simple, branch, padded, offsets, table_switch, pair, pair_count, rises, lookup_switch, widened, wide, control, behind, op}
use Rattle.jvm_code.specs.Reader.{Got, Reader, done, outside, then_read, read_as, u1, u2, u4, s1, s2, s4, field, broken_unless, forbidden_unless, Verdict, times, padding, pad_byte}
use Rattle.jvm_code.specs.Spelling.{op_bytes, local_bytes, high_of, pair_bytes}
use Rattle.jvm_code.specs.Spelling as spell
use Rattle.jvm_code.proofs.Moves.{same_got, chained}
use Rattle.jvm_code.proofs.Told.{Took, made, took_nothing, took_both, took_as, number_told, s1_told, s2_told, s4_told, field_told, chosen, fine_eq, sound}

-- what stands behind an opcode at that place of the code is the rest of what is spelled
record Tail (pc : ℕ) (y : Op) (tag at : ℕ) (bs : List ℕ) (to : ℕ) (rest : List ℕ) : Type 0 where
  tail : List ℕ
  spelled : op_bytes pc y ≡ big_bytes 1 tag ++ tail
  took : Took at bs tail to rest

module _ (pc tag at : ℕ) (bs : List ℕ) (y : Op) (to : ℕ) (rest : List ℕ) (b : AreBytes bs) where
  -- nothing
  alone : (x : Op) → op_bytes pc x ≡ big_bytes 1 tag → done x at bs ≡ Ok (y, to, rest) → Tail pc y tag at bs to rest
  alone x spells r = let s = same_got r in
      record { tail = []; spelled = ap (op_bytes pc) (sym s.0) ∙ spells ∙ sym (append-nil (big_bytes 1 tag)); took = took_nothing at bs to rest b s.1 s.2 }

  -- a number of so many bytes
  numbered : (n : ℕ) (make : ℕ → Op) → ((m : ℕ) → op_bytes pc (make m) ≡ big_bytes 1 tag ++ big_bytes n m)
      → (r : Reader ℕ) → ((m : ℕ) → r at bs ≡ Ok (m, to, rest) → Took at bs (big_bytes n m) to rest) → read_as make r at bs ≡ Ok (y, to, rest) → Tail pc y tag at bs to rest
  numbered n make spells r told e = let m = made make r at bs y to rest e in
      record { tail = big_bytes n m.value; spelled = ap (op_bytes pc) m.is ∙ spells m.value; took = told m.value m.read }

  signed1 : (make : ℤ → Op) → ((z : ℤ) → op_bytes pc (make z) ≡ big_bytes 1 tag ++ spell.s1 z) → read_as make s1 at bs ≡ Ok (y, to, rest) → Tail pc y tag at bs to rest
  signed1 make spells e = let m = made make s1 at bs y to rest e in
      record { tail = spell.s1 m.value; spelled = ap (op_bytes pc) m.is ∙ spells m.value; took = s1_told at bs m.value to rest b m.read }

  signed2 : (make : ℤ → Op) → ((z : ℤ) → op_bytes pc (make z) ≡ big_bytes 1 tag ++ spell.s2 z) → read_as make s2 at bs ≡ Ok (y, to, rest) → Tail pc y tag at bs to rest
  signed2 make spells e = let m = made make s2 at bs y to rest e in
      record { tail = spell.s2 m.value; spelled = ap (op_bytes pc) m.is ∙ spells m.value; took = s2_told at bs m.value to rest b m.read }

  told1 : (m : ℕ) → u1 at bs ≡ Ok (m, to, rest) → Took at bs (big_bytes 1 m) to rest
  told1 m e = (number_told 1 at bs m to rest b e).0

  told2 : (m : ℕ) → u2 at bs ≡ Ok (m, to, rest) → Took at bs (big_bytes 2 m) to rest
  told2 m e = (number_told 2 at bs m to rest b e).0

  judged1 : (judge : ℕ → Verdict) (m : ℕ) → field u1 judge at bs ≡ Ok (m, to, rest) → Took at bs (big_bytes 1 m) to rest
  judged1 judge m e = told1 m (field_told u1 judge at bs m to rest e).0

  judged2 : (judge : ℕ → Verdict) (m : ℕ) → field u2 judge at bs ≡ Ok (m, to, rest) → Took at bs (big_bytes 2 m) to rest
  judged2 judge m e = told2 m (field_told u2 judge at bs m to rest e).0

  never : outside at bs ≡ Ok (y, to, rest) → Tail pc y tag at bs to rest
  never e = absurd cc

-- the opcode is that one
is_tag : (tag known : ℕ) (tail : List ℕ) → nat_eq tag known ≡ true → big_bytes 1 known ++ tail ≡ big_bytes 1 tag ++ tail
is_tag tag known tail e = ap (λ t. big_bytes 1 t ++ tail) (sym (eqb-true tag known e))

is_only : (tag known : ℕ) → nat_eq tag known ≡ true → big_bytes 1 known ≡ big_bytes 1 tag
is_only tag known e = ap (big_bytes 1) (sym (eqb-true tag known e))

too_large : (m : ℕ) → 8 < m → nat_le 2 m && nat_le m 8 ≡ true → ⊥
too_large m l h = omega (arith, l, leb-true m 8 (and_parts (nat_le 2 m) (nat_le m 8) h).1)

-- small integers, by their opcodes
small : (tag : ℕ) → nat_le 2 tag && nat_le tag 8 ≡ true → big_bytes 1 (3 + cast_unsigned w8 (pos tag -ℤ pos 3)) ≡ big_bytes 1 tag
small zero h = absurd cc
small (suc zero) h = absurd cc
small (suc (suc zero)) h = refl
small (suc (suc (suc zero))) h = refl
small (suc (suc (suc (suc zero)))) h = refl
small (suc (suc (suc (suc (suc zero))))) h = refl
small (suc (suc (suc (suc (suc (suc zero)))))) h = refl
small (suc (suc (suc (suc (suc (suc (suc zero))))))) h = refl
small (suc (suc (suc (suc (suc (suc (suc (suc zero)))))))) h = refl
small (suc (suc (suc (suc (suc (suc (suc (suc (suc n))))))))) h = absurd (too_large (suc (suc (suc (suc (suc (suc (suc (suc (suc n))))))))) (omega arith) h)

-- locals in the opcode
short : (first last tag : ℕ) → nat_le first tag && nat_le tag last ≡ true → big_bytes 1 (first + (tag - first)) ≡ big_bytes 1 tag
short first last tag h = ap (big_bytes 1) (omega (arith, leb-true first tag (and_parts (nat_le first tag) (nat_le tag last) h).0))

constant_told : (pool : List Constant) (pc tag at : ℕ) (bs : List ℕ) (y : Op) (to : ℕ) (rest : List ℕ) → AreBytes bs → constant pool tag at bs ≡ Ok (y, to, rest) → Tail pc y tag at bs to rest
constant_told pool pc tag at bs y to rest b r =
    let P = Tail pc y tag at bs to rest in
    let z : Got Op = Ok (y, to, rest) in
    chosen (nat_eq tag 1) (done o.Null) _ at bs P z r (λ h r. alone pc tag at bs y to rest b o.Null (is_only tag 1 h) r) (λ _ r.
    chosen (nat_le 2 tag && nat_le tag 8) (done (o.IConst (pos tag -ℤ pos 3))) _ at bs P z r (λ h r. alone pc tag at bs y to rest b (o.IConst (pos tag -ℤ pos 3)) (small tag h) r) (λ _ r.
    chosen (nat_eq tag 16) (read_as o.Bipush s1) _ at bs P z r (λ h r. signed1 pc tag at bs y to rest b o.Bipush (λ v. is_tag tag 16 (spell.s1 v) h) r) (λ _ r.
    chosen (nat_eq tag 17) (read_as o.Sipush s2) _ at bs P z r (λ h r. signed2 pc tag at bs y to rest b o.Sipush (λ v. is_tag tag 17 (spell.s2 v) h) r) (λ _ r.
    chosen (nat_eq tag 18) (ldc pool) _ at bs P z r (λ h r. numbered pc tag at bs y to rest b 1 o.Ldc (λ m. is_tag tag 18 (big_bytes 1 m) h) (field u1 (λ i. loadable (slice_get pool i))) (judged1 pc tag at bs y to rest b (λ i. loadable (slice_get pool i))) r) (λ _ r.
    chosen (nat_eq tag 19) (ldc_w pool) _ at bs P z r (λ h r. numbered pc tag at bs y to rest b 2 o.LdcW (λ m. is_tag tag 19 (big_bytes 2 m) h) (field u2 (λ i. loadable (slice_get pool i))) (judged2 pc tag at bs y to rest b (λ i. loadable (slice_get pool i))) r) (λ _ r.
    chosen (nat_eq tag 20) (ldc2_w pool) _ at bs P z r (λ h r. numbered pc tag at bs y to rest b 2 o.Ldc2W (λ m. is_tag tag 20 (big_bytes 2 m) h) (field u2 (λ i. loadable_wide (slice_get pool i))) (judged2 pc tag at bs y to rest b (λ i. loadable_wide (slice_get pool i))) r) (λ _ r.
    never pc tag at bs y to rest b r)))))))

load_told : (pc tag at : ℕ) (bs : List ℕ) (y : Op) (to : ℕ) (rest : List ℕ) → AreBytes bs → load tag at bs ≡ Ok (y, to, rest) → Tail pc y tag at bs to rest
load_told pc tag at bs y to rest b r =
    let P = Tail pc y tag at bs to rest in
    let z : Got Op = Ok (y, to, rest) in
    chosen (nat_eq tag 21) (read_as (o.ILoad w.Byte) u1) _ at bs P z r (λ h r. numbered pc tag at bs y to rest b 1 (o.ILoad w.Byte) (λ m. is_tag tag 21 (big_bytes 1 m) h) u1 (told1 pc tag at bs y to rest b) r) (λ _ r.
    chosen (nat_eq tag 25) (read_as (o.ALoad w.Byte) u1) _ at bs P z r (λ h r. numbered pc tag at bs y to rest b 1 (o.ALoad w.Byte) (λ m. is_tag tag 25 (big_bytes 1 m) h) u1 (told1 pc tag at bs y to rest b) r) (λ _ r.
    chosen (nat_le 26 tag && nat_le tag 29) (done (o.ILoad w.Short (tag - 26))) _ at bs P z r (λ h r. alone pc tag at bs y to rest b (o.ILoad w.Short (tag - 26)) (short 26 29 tag h) r) (λ _ r.
    chosen (nat_le 42 tag && nat_le tag 45) (done (o.ALoad w.Short (tag - 42))) _ at bs P z r (λ h r. alone pc tag at bs y to rest b (o.ALoad w.Short (tag - 42)) (short 42 45 tag h) r) (λ _ r.
    never pc tag at bs y to rest b r))))

store_told : (pc tag at : ℕ) (bs : List ℕ) (y : Op) (to : ℕ) (rest : List ℕ) → AreBytes bs → store tag at bs ≡ Ok (y, to, rest) → Tail pc y tag at bs to rest
store_told pc tag at bs y to rest b r =
    let P = Tail pc y tag at bs to rest in
    let z : Got Op = Ok (y, to, rest) in
    chosen (nat_eq tag 54) (read_as (o.IStore w.Byte) u1) _ at bs P z r (λ h r. numbered pc tag at bs y to rest b 1 (o.IStore w.Byte) (λ m. is_tag tag 54 (big_bytes 1 m) h) u1 (told1 pc tag at bs y to rest b) r) (λ _ r.
    chosen (nat_eq tag 58) (read_as (o.AStore w.Byte) u1) _ at bs P z r (λ h r. numbered pc tag at bs y to rest b 1 (o.AStore w.Byte) (λ m. is_tag tag 58 (big_bytes 1 m) h) u1 (told1 pc tag at bs y to rest b) r) (λ _ r.
    chosen (nat_le 59 tag && nat_le tag 62) (done (o.IStore w.Short (tag - 59))) _ at bs P z r (λ h r. alone pc tag at bs y to rest b (o.IStore w.Short (tag - 59)) (short 59 62 tag h) r) (λ _ r.
    chosen (nat_le 75 tag && nat_le tag 78) (done (o.AStore w.Short (tag - 75))) _ at bs P z r (λ h r. alone pc tag at bs y to rest b (o.AStore w.Short (tag - 75)) (short 75 78 tag h) r) (λ _ r.
    never pc tag at bs y to rest b r))))

simple_told : (pc tag at : ℕ) (bs : List ℕ) (y : Op) (to : ℕ) (rest : List ℕ) → AreBytes bs → simple tag at bs ≡ Ok (y, to, rest) → Tail pc y tag at bs to rest
simple_told pc tag at bs y to rest b r =
    let P = Tail pc y tag at bs to rest in
    let z : Got Op = Ok (y, to, rest) in
    chosen (nat_eq tag 87) (done o.Pop) _ at bs P z r (λ h r. alone pc tag at bs y to rest b o.Pop (is_only tag 87 h) r) (λ _ r.
    chosen (nat_eq tag 89) (done o.Dup) _ at bs P z r (λ h r. alone pc tag at bs y to rest b o.Dup (is_only tag 89 h) r) (λ _ r.
    chosen (nat_eq tag 95) (done o.Swap) _ at bs P z r (λ h r. alone pc tag at bs y to rest b o.Swap (is_only tag 95 h) r) (λ _ r.
    chosen (nat_eq tag 96) (done o.IAdd) _ at bs P z r (λ h r. alone pc tag at bs y to rest b o.IAdd (is_only tag 96 h) r) (λ _ r.
    chosen (nat_eq tag 100) (done o.ISub) _ at bs P z r (λ h r. alone pc tag at bs y to rest b o.ISub (is_only tag 100 h) r) (λ _ r.
    never pc tag at bs y to rest b r)))))

branch_told : (pc tag at : ℕ) (bs : List ℕ) (y : Op) (to : ℕ) (rest : List ℕ) → AreBytes bs → branch tag at bs ≡ Ok (y, to, rest) → Tail pc y tag at bs to rest
branch_told pc tag at bs y to rest b r =
    let P = Tail pc y tag at bs to rest in
    let z : Got Op = Ok (y, to, rest) in
    chosen (nat_le 153 tag && nat_le tag 158) (read_as (o.If tag) s2) _ at bs P z r (λ h r. signed2 pc tag at bs y to rest b (o.If tag) (λ v. refl) r) (λ _ r.
    chosen (nat_le 159 tag && nat_le tag 164) (read_as (o.IfIcmp tag) s2) _ at bs P z r (λ h r. signed2 pc tag at bs y to rest b (o.IfIcmp tag) (λ v. refl) r) (λ _ r.
    chosen (nat_le 165 tag && nat_le tag 166) (read_as (o.IfAcmp tag) s2) _ at bs P z r (λ h r. signed2 pc tag at bs y to rest b (o.IfAcmp tag) (λ v. refl) r) (λ _ r.
    chosen (nat_eq tag 167) (read_as o.Goto s2) _ at bs P z r (λ h r. signed2 pc tag at bs y to rest b o.Goto (λ v. is_tag tag 167 (spell.s2 v) h) r) (λ _ r.
    never pc tag at bs y to rest b r))))

-- padding is zeros
padding_told : (n at : ℕ) (bs : List ℕ) (x : Unit {0}) (to : ℕ) (rest : List ℕ) → AreBytes bs → padding n at bs ≡ Ok (x, to, rest) → Took at bs (replicate n 0) to rest
padding_told zero at bs x to rest b r = let s = same_got r in took_nothing at bs to rest b s.1 s.2
padding_told (suc n) at bs x to rest b r =
    let test = λ (b : ℕ). forbidden_unless (nat_eq b 0) in
    let h = chained (pad_byte at bs) (λ _. padding n) (x, to, rest) r in
    let f = field_told u1 test at bs h.value h.at h.rest h.first in
    let one = (number_told 1 at bs h.value h.at h.rest b f.0).0 in
    took_both at bs (0 ∷ []) h.at h.rest (replicate n 0) to rest (took_as at bs (big_bytes 1 h.value) (0 ∷ []) h.at h.rest (ap (big_bytes 1) (fine_eq h.value 0 f.1)) one)
    (padding_told n h.at h.rest x to rest one.bytes h.second)

times_told : {A : Type 0} (r : Reader A) (spells : A → List ℕ)
    → ((at : ℕ) (bs : List ℕ) (x : A) (to : ℕ) (rest : List ℕ) → AreBytes bs → r at bs ≡ Ok (x, to, rest) → Took at bs (spells x) to rest)
    → (n at : ℕ) (bs : List ℕ) (xs : List A) (to : ℕ) (rest : List ℕ) → AreBytes bs → times n r at bs ≡ Ok (xs, to, rest) → Took at bs (flat_map spells xs) to rest × (length xs ≡ n)
times_told r spells one zero at bs xs to rest b e =
    let s = same_got e in (took_as at bs [] (flat_map spells xs) to rest (ap (flat_map spells) s.0) (took_nothing at bs to rest b s.1 s.2), ap length (sym s.0))
times_told r spells one (suc n) at bs xs to rest b e =
    let h = chained (r at bs) (λ x. then_read (times n r) (λ xs. done (x ∷ xs))) (xs, to, rest) e in
    let first = one at bs h.value h.at h.rest b h.first in
    let m = made (λ xs. h.value ∷ xs) (times n r) h.at h.rest xs to rest h.second in
    let t = times_told r spells one n h.at h.rest m.value to rest first.bytes m.read in (
      took_as at bs (spells h.value ++ flat_map spells m.value) (flat_map spells xs) to rest (ap (flat_map spells) (sym m.is))
          (took_both at bs (spells h.value) h.at h.rest (flat_map spells m.value) to rest first t.0),
      ap length m.is ∙ ap suc t.1,
    )

pair_told : (at : ℕ) (bs : List ℕ) (p : ℤ × ℤ) (to : ℕ) (rest : List ℕ) → AreBytes bs → pair at bs ≡ Ok (p, to, rest) → Took at bs (pair_bytes p) to rest
pair_told at bs p to rest b r =
    let h = chained (s4 at bs) (λ value. read_as (λ offset. (value, offset)) s4) (p, to, rest) r in
    let one = s4_told at bs h.value h.at h.rest b h.first in
    let m = made (λ offset. (h.value, offset)) s4 h.at h.rest p to rest h.second in
    took_as at bs (spell.s4 h.value ++ spell.s4 m.value) (pair_bytes p) to rest (ap pair_bytes (sym m.is))
    (took_both at bs (spell.s4 h.value) h.at h.rest (spell.s4 m.value) to rest one (s4_told h.at h.rest m.value to rest one.bytes m.read))

-- the high value, by the low one and the count
high_told : (low high : ℤ) (n : ℕ) → int_le low high ≡ true → n ≡ nat_abs (high -ℤ low) + 1 → high ≡ (low +ℤ pos n) -ℤ pos 1
high_told low high n l e = grind (arith, ints)

table_told : (tag pc : ℕ) (bs : List ℕ) (y : Op) (to : ℕ) (rest : List ℕ) → AreBytes bs → nat_eq tag 170 ≡ true → table_switch (pc + 1) bs ≡ Ok (y, to, rest) → Tail pc y tag (pc + 1) bs to rest
table_told tag pc bs y to rest b is r =
    let at = pc + 1 in
    let h = chained (padded at bs) (λ _. then_read s4 (λ default. then_read s4 (λ low. then_read (field s4 (λ high. broken_unless (int_le low high))) (λ high. read_as (o.TableSwitch default low) (offsets low high))))) (y, to, rest) r in
    let p = padding_told (pad at) at bs h.value h.at h.rest b h.first in
    let i = chained (s4 h.at h.rest) (λ default. then_read s4 (λ low. then_read (field s4 (λ high. broken_unless (int_le low high))) (λ high. read_as (o.TableSwitch default low) (offsets low high)))) (y, to, rest) h.second in
    let q = s4_told h.at h.rest i.value i.at i.rest p.bytes i.first in
    let j = chained (s4 i.at i.rest) (λ low. then_read (field s4 (λ high. broken_unless (int_le low high))) (λ high. read_as (o.TableSwitch i.value low) (offsets low high))) (y, to, rest) i.second in
    let s = s4_told i.at i.rest j.value j.at j.rest q.bytes j.first in
    let k = chained (field s4 (λ high. broken_unless (int_le j.value high)) j.at j.rest) (λ high. read_as (o.TableSwitch i.value j.value) (offsets j.value high)) (y, to, rest) j.second in
    let f = field_told s4 (λ high. broken_unless (int_le j.value high)) j.at j.rest k.value k.at k.rest k.first in
    let t = s4_told j.at j.rest k.value k.at k.rest s.bytes f.0 in
    let m = made (o.TableSwitch i.value j.value) (offsets j.value k.value) k.at k.rest y to rest k.second in
    let u = times_told s4 spell.s4 (λ at bs x to rest b e. s4_told at bs x to rest b e) (nat_abs (k.value -ℤ j.value) + 1) k.at k.rest m.value to rest t.bytes m.read in
    let high : k.value ≡ high_of j.value m.value = high_told j.value k.value (length m.value) (sound (int_le j.value k.value) f.1) u.1 in
    record {
      tail = replicate (pad at) 0 ++ (spell.s4 i.value ++ (spell.s4 j.value ++ (spell.s4 k.value ++ flat_map spell.s4 m.value)));
      spelled = ap (op_bytes pc) m.is
          ∙ ap (λ v. big_bytes 1 170 ++ (replicate (pad at) 0 ++ (spell.s4 i.value ++ (spell.s4 j.value ++ (spell.s4 v ++ flat_map spell.s4 m.value))))) (sym high)
          ∙ is_tag tag 170 _ is;
      took = took_both at bs (replicate (pad at) 0) h.at h.rest _ to rest p
          (took_both h.at h.rest (spell.s4 i.value) i.at i.rest _ to rest q
          (took_both i.at i.rest (spell.s4 j.value) j.at j.rest _ to rest s
          (took_both j.at j.rest (spell.s4 k.value) k.at k.rest _ to rest t u.0)));
    }

lookup_told : (tag pc : ℕ) (bs : List ℕ) (y : Op) (to : ℕ) (rest : List ℕ) → AreBytes bs → nat_eq tag 171 ≡ true → lookup_switch (pc + 1) bs ≡ Ok (y, to, rest) → Tail pc y tag (pc + 1) bs to rest
lookup_told tag pc bs y to rest b is r =
    let at = pc + 1 in
    let test = λ (pairs : List (ℤ × ℤ)). broken_unless (rises pairs) in
    let h = chained (padded at bs) (λ _. then_read s4 (λ default. then_read pair_count (λ n. read_as (o.LookupSwitch default) (field (times n pair) test)))) (y, to, rest) r in
    let p = padding_told (pad at) at bs h.value h.at h.rest b h.first in
    let i = chained (s4 h.at h.rest) (λ default. then_read pair_count (λ n. read_as (o.LookupSwitch default) (field (times n pair) test))) (y, to, rest) h.second in
    let q = s4_told h.at h.rest i.value i.at i.rest p.bytes i.first in
    let j = chained (pair_count i.at i.rest) (λ n. read_as (o.LookupSwitch i.value) (field (times n pair) test)) (y, to, rest) i.second in
    let s = (number_told 4 i.at i.rest j.value j.at j.rest q.bytes (field_told u4 (λ n. broken_unless (nat_lt n (2 ^ 31))) i.at i.rest j.value j.at j.rest j.first).0).0 in
    let m = made (o.LookupSwitch i.value) (field (times j.value pair) test) j.at j.rest y to rest j.second in
    let u = times_told pair pair_bytes pair_told j.value j.at j.rest m.value to rest s.bytes (field_told (times j.value pair) test j.at j.rest m.value to rest m.read).0 in
    record {
      tail = replicate (pad at) 0 ++ (spell.s4 i.value ++ (spell.u4 j.value ++ flat_map pair_bytes m.value));
      spelled = ap (op_bytes pc) m.is
          ∙ ap (λ n. big_bytes 1 171 ++ (replicate (pad at) 0 ++ (spell.s4 i.value ++ (spell.u4 n ++ flat_map pair_bytes m.value)))) u.1
          ∙ is_tag tag 171 _ is;
      took = took_both at bs (replicate (pad at) 0) h.at h.rest _ to rest p
          (took_both h.at h.rest (spell.s4 i.value) i.at i.rest _ to rest q
          (took_both i.at i.rest (spell.u4 j.value) j.at j.rest _ to rest s u.0));
    }

record Widened (pc : ℕ) (y : Op) (second at : ℕ) (bs : List ℕ) (to : ℕ) (rest : List ℕ) : Type 0 where
  tail : List ℕ
  spelled : op_bytes pc y ≡ big_bytes 1 196 ++ (big_bytes 1 second ++ tail)
  took : Took at bs tail to rest

wide_21 : (pc : ℕ) (second at : ℕ) (bs : List ℕ) (y : Op) (to : ℕ) (rest : List ℕ) → AreBytes bs → nat_eq second 21 ≡ true → read_as (o.ILoad w.Wide) u2 at bs ≡ Ok (y, to, rest)
    → Widened pc y second at bs to rest
wide_21 pc second at bs y to rest b h r = let m = made (o.ILoad w.Wide) u2 at bs y to rest r in
    record { tail = big_bytes 2 m.value; spelled = ap (op_bytes pc) m.is ∙ ap (λ t. big_bytes 1 196 ++ (big_bytes 1 t ++ big_bytes 2 m.value)) (sym (eqb-true second 21 h)); took = (number_told 2 at bs m.value to rest b m.read).0 }

wide_25 : (pc : ℕ) (second at : ℕ) (bs : List ℕ) (y : Op) (to : ℕ) (rest : List ℕ) → AreBytes bs → nat_eq second 25 ≡ true → read_as (o.ALoad w.Wide) u2 at bs ≡ Ok (y, to, rest)
    → Widened pc y second at bs to rest
wide_25 pc second at bs y to rest b h r = let m = made (o.ALoad w.Wide) u2 at bs y to rest r in
    record { tail = big_bytes 2 m.value; spelled = ap (op_bytes pc) m.is ∙ ap (λ t. big_bytes 1 196 ++ (big_bytes 1 t ++ big_bytes 2 m.value)) (sym (eqb-true second 25 h)); took = (number_told 2 at bs m.value to rest b m.read).0 }

wide_54 : (pc : ℕ) (second at : ℕ) (bs : List ℕ) (y : Op) (to : ℕ) (rest : List ℕ) → AreBytes bs → nat_eq second 54 ≡ true → read_as (o.IStore w.Wide) u2 at bs ≡ Ok (y, to, rest)
    → Widened pc y second at bs to rest
wide_54 pc second at bs y to rest b h r = let m = made (o.IStore w.Wide) u2 at bs y to rest r in
    record { tail = big_bytes 2 m.value; spelled = ap (op_bytes pc) m.is ∙ ap (λ t. big_bytes 1 196 ++ (big_bytes 1 t ++ big_bytes 2 m.value)) (sym (eqb-true second 54 h)); took = (number_told 2 at bs m.value to rest b m.read).0 }

wide_58 : (pc : ℕ) (second at : ℕ) (bs : List ℕ) (y : Op) (to : ℕ) (rest : List ℕ) → AreBytes bs → nat_eq second 58 ≡ true → read_as (o.AStore w.Wide) u2 at bs ≡ Ok (y, to, rest)
    → Widened pc y second at bs to rest
wide_58 pc second at bs y to rest b h r = let m = made (o.AStore w.Wide) u2 at bs y to rest r in
    record { tail = big_bytes 2 m.value; spelled = ap (op_bytes pc) m.is ∙ ap (λ t. big_bytes 1 196 ++ (big_bytes 1 t ++ big_bytes 2 m.value)) (sym (eqb-true second 58 h)); took = (number_told 2 at bs m.value to rest b m.read).0 }

widened_told : (pc second at : ℕ) (bs : List ℕ) (y : Op) (to : ℕ) (rest : List ℕ) → AreBytes bs → widened second at bs ≡ Ok (y, to, rest) → Widened pc y second at bs to rest
widened_told pc second at bs y to rest b r =
    let P = Widened pc y second at bs to rest in
    let z : Got Op = Ok (y, to, rest) in
    chosen (nat_eq second 21) (read_as (o.ILoad w.Wide) u2) _ at bs P z r (wide_21 pc second at bs y to rest b) (λ _ r.
    chosen (nat_eq second 25) (read_as (o.ALoad w.Wide) u2) _ at bs P z r (wide_25 pc second at bs y to rest b) (λ _ r.
    chosen (nat_eq second 54) (read_as (o.IStore w.Wide) u2) _ at bs P z r (wide_54 pc second at bs y to rest b) (λ _ r.
    chosen (nat_eq second 58) (read_as (o.AStore w.Wide) u2) _ at bs P z r (wide_58 pc second at bs y to rest b) (λ _ r.
    absurd (let e = r in cc)))))

wide_told : (pc tag at : ℕ) (bs : List ℕ) (y : Op) (to : ℕ) (rest : List ℕ) → AreBytes bs → nat_eq tag 196 ≡ true → wide at bs ≡ Ok (y, to, rest) → Tail pc y tag at bs to rest
wide_told pc tag at bs y to rest b is r =
    let h = chained (u1 at bs) widened (y, to, rest) r in
    let one = (number_told 1 at bs h.value h.at h.rest b h.first).0 in
    let t = widened_told pc h.value h.at h.rest y to rest one.bytes h.second in
    record { tail = big_bytes 1 h.value ++ t.tail; spelled = t.spelled ∙ is_tag tag 196 (big_bytes 1 h.value ++ t.tail) is; took = took_both at bs (big_bytes 1 h.value) h.at h.rest t.tail to rest one t.took }

control_told : (pool : List Constant) (pc tag : ℕ) (bs : List ℕ) (y : Op) (to : ℕ) (rest : List ℕ) → AreBytes bs → control pool tag (pc + 1) bs ≡ Ok (y, to, rest) → Tail pc y tag (pc + 1) bs to rest
control_told pool pc tag bs y to rest b r =
    let at = pc + 1 in
    let P = Tail pc y tag at bs to rest in
    let z : Got Op = Ok (y, to, rest) in
    chosen (nat_eq tag 170) table_switch _ at bs P z r (λ h r. table_told tag pc bs y to rest b h r) (λ _ r.
    chosen (nat_eq tag 171) lookup_switch _ at bs P z r (λ h r. lookup_told tag pc bs y to rest b h r) (λ _ r.
    chosen (nat_eq tag 172) (done o.IReturn) _ at bs P z r (λ h r. alone pc tag at bs y to rest b o.IReturn (is_only tag 172 h) r) (λ _ r.
    chosen (nat_eq tag 184) (invoke pool) _ at bs P z r (λ h r. numbered pc tag at bs y to rest b 2 o.Invoke (λ m. is_tag tag 184 (big_bytes 2 m) h) (field u2 (λ i. callable (slice_get pool i))) (judged2 pc tag at bs y to rest b (λ i. callable (slice_get pool i))) r) (λ _ r.
    chosen (nat_eq tag 196) wide _ at bs P z r (λ h r. wide_told pc tag at bs y to rest b h r) (λ _ r.
    chosen (nat_eq tag 198) (read_as (o.IfNull true) s2) _ at bs P z r (λ h r. signed2 pc tag at bs y to rest b (o.IfNull true) (λ v. is_tag tag 198 (spell.s2 v) h) r) (λ _ r.
    chosen (nat_eq tag 199) (read_as (o.IfNull false) s2) _ at bs P z r (λ h r. signed2 pc tag at bs y to rest b (o.IfNull false) (λ v. is_tag tag 199 (spell.s2 v) h) r) (λ _ r.
    never pc tag at bs y to rest b r)))))))

behind_told : (pool : List Constant) (pc tag : ℕ) (bs : List ℕ) (y : Op) (to : ℕ) (rest : List ℕ) → AreBytes bs → behind pool tag (pc + 1) bs ≡ Ok (y, to, rest) → Tail pc y tag (pc + 1) bs to rest
behind_told pool pc tag bs y to rest b r =
    let at = pc + 1 in
    let P = Tail pc y tag at bs to rest in
    let z : Got Op = Ok (y, to, rest) in
    chosen (nat_lt tag 21) (constant pool tag) _ at bs P z r (λ _ r. constant_told pool pc tag at bs y to rest b r) (λ _ r.
    chosen (nat_lt tag 54) (load tag) _ at bs P z r (λ _ r. load_told pc tag at bs y to rest b r) (λ _ r.
    chosen (nat_lt tag 87) (store tag) _ at bs P z r (λ _ r. store_told pc tag at bs y to rest b r) (λ _ r.
    chosen (nat_lt tag 153) (simple tag) _ at bs P z r (λ _ r. simple_told pc tag at bs y to rest b r) (λ _ r.
    chosen (nat_lt tag 170) (branch tag) _ at bs P z r (λ _ r. branch_told pc tag at bs y to rest b r) (λ _ r.
    control_told pool pc tag bs y to rest b r)))))

-- an instruction that is read tells its bytes
pub op_told : (pool : List Constant) (pc : ℕ) (bs : List ℕ) (y : Op) (to : ℕ) (rest : List ℕ) → AreBytes bs → op pool pc bs ≡ Ok (y, to, rest) → Took pc bs (op_bytes pc y) to rest
op_told pool pc bs y to rest b r =
    let h = chained (u1 pc bs) (behind pool) (y, to, rest) r in
    let one = (number_told 1 pc bs h.value h.at h.rest b h.first).0 in
    let second : behind pool h.value (pc + 1) h.rest ≡ Ok (y, to, rest) = ap (λ a. behind pool h.value a h.rest) (sym one.to_is) ∙ h.second in
    let t = behind_told pool pc h.value h.rest y to rest one.bytes second in
    took_as pc bs (big_bytes 1 h.value ++ t.tail) (op_bytes pc y) to rest (sym t.spelled)
    (took_both pc bs (big_bytes 1 h.value) h.at h.rest t.tail to rest one (subst (λ a. Took a h.rest t.tail to rest) (sym one.to_is) t.took))
