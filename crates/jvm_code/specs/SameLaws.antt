-- What is found the same is one.
use Rattle.std.specs.Prelude.{◌≡◌, ℕ, ℤ, nat_abs, nat_eq, Bool, true, false, ◌&&◌, if◌then◌else◌, List, Option, None, Some}
use Rattle.std.specs.Bool.{Decides}
use Rattle.std.specs.Cmp.{IsEquivalence, both_ways}
use Rattle.std.specs.Str.{bytes_eq}
use Rattle.std.proofs.Common.{refl, sym, ap, ◌∙◌, subst}
use Rattle.std.proofs.lemmas.Bool.Decides.{Decides-eqb, Decides-int_eq, Decides-and}
use Rattle.std.proofs.lemmas.Slice.Eq.{slice_eq-Decides, bytes_eq-Decides}
use Rattle.jvm_code.specs.declared.class.Class.{Class}
use Rattle.jvm_code.specs.declared.class.Constant.{Constant}
use Rattle.jvm_code.specs.declared.class.Method.{Method}
use Rattle.jvm_code.specs.declared.class.Op.{Op}
use Rattle.jvm_code.specs.declared.class.Op.TheVariants as o
use Rattle.jvm_code.specs.declared.class.Width.{Width}
use Rattle.jvm_code.specs.declared.class.Width.TheVariants as w
use Rattle.jvm_code.specs.ConstantKey.{same_constant, same_constant_equiv}
use Rattle.jvm_code.specs.ConstantLaws.{one_constant}
use Rattle.jvm_code.specs.Same.{numbers, offsets, pairs, same_numbers, same_pair, same_op, same_placed, same_maps, same_method, same_class}

-- a test that tells what is equal is an equivalence
tells_equiv : {K : Type 0} {E : K → K → Bool} → ((a b : K) → Decides (E a b) (a ≡ b)) → IsEquivalence E
tells_equiv {K} {E} d = record {
  refl = λ x. (d x x).1 refl;
  symm = λ x y. both_ways (E x y) (E y x) (λ e. (d y x).1 (sym ((d x y).0 e))) (λ e. (d x y).1 (sym ((d y x).0 e)));
  congr = λ x y z e. ap (λ v. E v z) ((d x y).0 e);
}

-- a test of parts, where the parts that it finds equal make equals of the whole
tells : {K : Type 0} {P : Type 0} (a b : K) (r : Bool) → Decides r P → (P → a ≡ b) → (a ≡ b → P) → Decides r (a ≡ b)
tells a b r d make split = (λ e. make (d.0 e), λ e. d.1 (split e))

abbrev width_of : ℤ → Width
width_of z = if nat_eq (nat_abs z) 0 then w.Short else if nat_eq (nat_abs z) 1 then w.Byte else w.Wide

-- the instruction of these parts
abbrev of_parts : ℕ × ℤ × ℤ → List ℤ → List (ℤ × ℤ) → Op
of_parts n table values =
    if nat_eq n.0 1 then o.Null
    else if nat_eq n.0 3 then o.IConst n.1
    else if nat_eq n.0 16 then o.Bipush n.1
    else if nat_eq n.0 17 then o.Sipush n.1
    else if nat_eq n.0 18 then o.Ldc (nat_abs n.1)
    else if nat_eq n.0 19 then o.LdcW (nat_abs n.1)
    else if nat_eq n.0 20 then o.Ldc2W (nat_abs n.1)
    else if nat_eq n.0 21 then o.ILoad (width_of n.1) (nat_abs n.2)
    else if nat_eq n.0 25 then o.ALoad (width_of n.1) (nat_abs n.2)
    else if nat_eq n.0 54 then o.IStore (width_of n.1) (nat_abs n.2)
    else if nat_eq n.0 58 then o.AStore (width_of n.1) (nat_abs n.2)
    else if nat_eq n.0 87 then o.Pop
    else if nat_eq n.0 89 then o.Dup
    else if nat_eq n.0 95 then o.Swap
    else if nat_eq n.0 96 then o.IAdd
    else if nat_eq n.0 100 then o.ISub
    else if nat_eq n.0 153 then o.If (nat_abs n.1) n.2
    else if nat_eq n.0 159 then o.IfIcmp (nat_abs n.1) n.2
    else if nat_eq n.0 165 then o.IfAcmp (nat_abs n.1) n.2
    else if nat_eq n.0 198 then o.IfNull (nat_eq (nat_abs n.1) 1) n.2
    else if nat_eq n.0 167 then o.Goto n.1
    else if nat_eq n.0 170 then o.TableSwitch n.1 n.2 table
    else if nat_eq n.0 171 then o.LookupSwitch n.1 values
    else if nat_eq n.0 172 then o.IReturn
    else o.Invoke (nat_abs n.1)

back : (op : Op) → of_parts (numbers op) (offsets op) (pairs op) ≡ op
back o.Null = refl
back (o.IConst value) = refl
back (o.Bipush value) = refl
back (o.Sipush value) = refl
back (o.Ldc index) = refl
back (o.LdcW index) = refl
back (o.Ldc2W index) = refl
back (o.ILoad w.Short local) = refl
back (o.ILoad w.Byte local) = refl
back (o.ILoad w.Wide local) = refl
back (o.ALoad w.Short local) = refl
back (o.ALoad w.Byte local) = refl
back (o.ALoad w.Wide local) = refl
back (o.IStore w.Short local) = refl
back (o.IStore w.Byte local) = refl
back (o.IStore w.Wide local) = refl
back (o.AStore w.Short local) = refl
back (o.AStore w.Byte local) = refl
back (o.AStore w.Wide local) = refl
back o.Pop = refl
back o.Dup = refl
back o.Swap = refl
back o.IAdd = refl
back o.ISub = refl
back (o.If opcode offset) = refl
back (o.IfIcmp opcode offset) = refl
back (o.IfAcmp opcode offset) = refl
back (o.IfNull true offset) = refl
back (o.IfNull false offset) = refl
back (o.Goto offset) = refl
back (o.TableSwitch default low table) = refl
back (o.LookupSwitch default table) = refl
back o.IReturn = refl
back (o.Invoke index) = refl

numbers_tell : (x y : ℕ × ℤ × ℤ) → Decides (same_numbers x y) (x ≡ y)
numbers_tell x y =
    tells x y _ (Decides-and _ _ (Decides-and _ _ (Decides-eqb x.0 y.0) (Decides-int_eq x.1 y.1)) (Decides-int_eq x.2 y.2))
    (λ p i. (p.0.0 i, p.0.1 i, p.1 i)) (λ e. ((ap (λ v. v.0) e, ap (λ v. v.1) e), ap (λ v. v.2) e))

pair_tells : (x y : ℤ × ℤ) → Decides (same_pair x y) (x ≡ y)
pair_tells x y = tells x y _ (Decides-and _ _ (Decides-int_eq x.0 y.0) (Decides-int_eq x.1 y.1)) (λ p i. (p.0 i, p.1 i)) (λ e. (ap (λ v. v.0) e, ap (λ v. v.1) e))

pub op_tells : (one other : Op) → Decides (same_op one other) (one ≡ other)
op_tells one other =
    tells one other _
    (Decides-and _ _ (Decides-and _ _ (numbers_tell (numbers one) (numbers other)) (slice_eq-Decides Decides-int_eq (offsets one) (offsets other) _ refl))
    (slice_eq-Decides pair_tells (pairs one) (pairs other) _ refl))
    (λ p. sym (back one) ∙ ap (λ n. of_parts n (offsets one) (pairs one)) p.0.0 ∙ ap (λ t. of_parts (numbers other) t (pairs one)) p.0.1
    ∙ ap (λ t. of_parts (numbers other) (offsets other) t) p.1 ∙ back other)
    (λ e. ((ap numbers e, ap offsets e), ap pairs e))

placed_tells : (x y : ℕ × Op) → Decides (same_placed x y) (x ≡ y)
placed_tells x y = tells x y _ (Decides-and _ _ (Decides-eqb x.0 y.0) (op_tells x.1 y.1)) (λ p i. (p.0 i, p.1 i)) (λ e. (ap (λ v. v.0) e, ap (λ v. v.1) e))

named_tells : (x y : ℕ × List ℕ) → Decides (nat_eq x.0 y.0 && bytes_eq x.1 y.1) (x ≡ y)
named_tells x y = tells x y _ (Decides-and _ _ (Decides-eqb x.0 y.0) (bytes_eq-Decides x.1 y.1)) (λ p i. (p.0 i, p.1 i)) (λ e. (ap (λ v. v.0) e, ap (λ v. v.1) e))

maps_tell : (x y : Option (ℕ × List ℕ)) → Decides (same_maps x y) (x ≡ y)
maps_tell None None = (λ e. refl, λ e. refl)
maps_tell None (Some y) = (λ e. absurd cc, λ e. absurd cc)
maps_tell (Some x) None = (λ e. absurd cc, λ e. absurd cc)
maps_tell (Some x) (Some y) = let d = named_tells x y in (λ e. ap Some (d.0 e), λ e. d.1 cc)

pub method_tells : (one other : Method) → Decides (same_method one other) (one ≡ other)
method_tells one other =
    tells one other _
    (Decides-and _ _ (Decides-and _ _
    (Decides-and _ _ (Decides-and _ _ (Decides-and _ _ (Decides-and _ _ (Decides-and _ _ (Decides-eqb one.flags other.flags) (Decides-eqb one.name other.name))
    (Decides-eqb one.descriptor other.descriptor)) (Decides-eqb one.code_name other.code_name)) (Decides-eqb one.max_stack other.max_stack)) (Decides-eqb one.max_locals other.max_locals))
    (slice_eq-Decides placed_tells one.code other.code _ refl)) (maps_tell one.maps other.maps))
    (λ p i. record {
      flags = p.0.0.0.0.0.0.0 i;
      name = p.0.0.0.0.0.0.1 i;
      descriptor = p.0.0.0.0.0.1 i;
      code_name = p.0.0.0.0.1 i;
      max_stack = p.0.0.0.1 i;
      max_locals = p.0.0.1 i;
      code = p.0.1 i;
      maps = p.1 i;
    })
    (λ e. ((((((((ap (λ m. m.flags) e, ap (λ m. m.name) e), ap (λ m. m.descriptor) e), ap (λ m. m.code_name) e), ap (λ m. m.max_stack) e), ap (λ m. m.max_locals) e), ap (λ m. m.code) e), ap (λ m. m.maps) e)))

constant_tells : (one other : Constant) → Decides (same_constant one other) (one ≡ other)
constant_tells one other = (one_constant one other, λ e. subst (λ c. same_constant one c ≡ true) e (same_constant_equiv.refl one))

pub class_tells : (one other : Class) → Decides (same_class one other) (one ≡ other)
class_tells one other =
    tells one other _
    (Decides-and _ _ (Decides-and _ _ (Decides-and _ _ (Decides-and _ _ (Decides-eqb one.flags other.flags) (slice_eq-Decides constant_tells one.pool other.pool _ refl))
    (Decides-eqb one.this other.this)) (Decides-eqb one.above other.above)) (slice_eq-Decides method_tells one.methods other.methods _ refl))
    (λ p i. record { flags = p.0.0.0.0 i; pool = p.0.0.0.1 i; this = p.0.0.1 i; above = p.0.1 i; methods = p.1 i })
    (λ e. ((((ap (λ c. c.flags) e, ap (λ c. c.pool) e), ap (λ c. c.this) e), ap (λ c. c.above) e), ap (λ c. c.methods) e))

pub same_op_equiv : IsEquivalence same_op
same_op_equiv = tells_equiv op_tells

pub same_method_equiv : IsEquivalence same_method
same_method_equiv = tells_equiv method_tells

pub same_class_equiv : IsEquivalence same_class
same_class_equiv = tells_equiv class_tells
