-- Where control may go from an instruction, before and after it is resolved.
use Rattle.std.proofs.Common.{◌≡◌, ℕ, ℤ, true, List, [], ◌∷◌, map, slice_get, Option, None, Some, option_map, option_and_then, refl, sym, ap, subst, ◌∙◌}
use Rattle.jvm_code.specs.declared.class.Class.{Class}
use Rattle.jvm_code.specs.declared.class.Constant.{Constant}
use Rattle.jvm_code.specs.declared.class.Constant.TheVariants as c
use Rattle.jvm_code.specs.declared.class.Op.{Op}
use Rattle.jvm_code.specs.declared.class.Op.TheVariants as o
use Rattle.jvm_code.specs.Entries.{utf8_at}
use Rattle.jvm_code.specs.Instruction.{Callee, Instruction, Str, Invoke, callee_at, loaded, loaded_wide, resolve, target}
use Rattle.jvm_code.specs.Typing as spec
use Rattle.class_verifier.specs.OpParts.{offsets, goes_on}

-- a resolved instruction goes where its instruction says
pub record Parts (pc : ℕ) (op : Op) (i : Instruction ℤ) : Type 0 where
  pub targets : spec.targets i ≡ map (target pc) (offsets op)
  pub on : spec.goes_on i ≡ goes_on op

-- nothing but the next instruction is gone to
record Plain (i : Instruction ℤ) : Type 0 where
  targets : spec.targets i ≡ []
  on : spec.goes_on i ≡ true

abbrev IfPlain : Option (Instruction ℤ) → Type 0
IfPlain None = Unit {0}
IfPlain (Some i) = Plain i

plain_text : (o : Option (List ℕ)) → IfPlain (option_map Str o)
plain_text None = tt
plain_text (Some text) = record { targets = refl; on = refl }

plain_constant : (pool : List Constant) (x : Constant) → IfPlain (loaded pool x)
plain_constant pool (c.Integer value) = record { targets = refl; on = refl }
plain_constant pool (c.Str text) = plain_text (utf8_at pool text)
plain_constant pool _ = tt

plain_loaded : (pool : List Constant) (o : Option Constant) → IfPlain (option_and_then (loaded pool) o)
plain_loaded pool None = tt
plain_loaded pool (Some x) = plain_constant pool x

plain_wide : (x : Constant) → IfPlain (loaded_wide x)
plain_wide (c.Long value) = record { targets = refl; on = refl }
plain_wide _ = tt

plain_long : (o : Option Constant) → IfPlain (option_and_then loaded_wide o)
plain_long None = tt
plain_long (Some x) = plain_wide x

plain_call : (o : Option Callee) → IfPlain (option_map Invoke o)
plain_call None = tt
plain_call (Some callee) = record { targets = refl; on = refl }

abbrev IfParts : ℕ → Op → Option (Instruction ℤ) → Type 0
IfParts pc op None = Unit {0}
IfParts pc op (Some i) = Parts pc op i

plain : (pc : ℕ) (op : Op) (o : Option (Instruction ℤ)) → offsets op ≡ [] → goes_on op ≡ true → IfPlain o → IfParts pc op o
plain pc op None none on p = tt
plain pc op (Some i) none on p = record { targets = p.targets ∙ sym (ap (map (target pc)) none); on = p.on ∙ sym on }

second : (pc : ℕ) (pairs : List (ℤ × ℤ)) → map (λ (p : ℤ × ℤ). p.1) (map (λ (p : ℤ × ℤ). (p.0, target pc p.1)) pairs) ≡ map (target pc) (map (λ (p : ℤ × ℤ). p.1) pairs)
second pc [] = refl
second pc (p ∷ pairs) = ap (λ ts. target pc p.1 ∷ ts) (second pc pairs)

resolved : (class : Class) (pc : ℕ) (op : Op) → IfParts pc op (resolve class pc op)
resolved class pc (o.Ldc index) = plain pc (o.Ldc index) _ refl refl (plain_loaded class.pool (slice_get class.pool index))
resolved class pc (o.LdcW index) = plain pc (o.LdcW index) _ refl refl (plain_loaded class.pool (slice_get class.pool index))
resolved class pc (o.Ldc2W index) = plain pc (o.Ldc2W index) _ refl refl (plain_long (slice_get class.pool index))
resolved class pc (o.Invoke index) = plain pc (o.Invoke index) _ refl refl (plain_call (callee_at class index))
resolved class pc (o.LookupSwitch default pairs) = record { targets = ap (λ ts. target pc default ∷ ts) (second pc pairs); on = refl }
resolved class pc o.Null = record { targets = refl; on = refl }
resolved class pc (o.IConst value) = record { targets = refl; on = refl }
resolved class pc (o.Bipush value) = record { targets = refl; on = refl }
resolved class pc (o.Sipush value) = record { targets = refl; on = refl }
resolved class pc (o.ILoad width local) = record { targets = refl; on = refl }
resolved class pc (o.ALoad width local) = record { targets = refl; on = refl }
resolved class pc (o.IStore width local) = record { targets = refl; on = refl }
resolved class pc (o.AStore width local) = record { targets = refl; on = refl }
resolved class pc o.Pop = record { targets = refl; on = refl }
resolved class pc o.Dup = record { targets = refl; on = refl }
resolved class pc o.Swap = record { targets = refl; on = refl }
resolved class pc o.IAdd = record { targets = refl; on = refl }
resolved class pc o.ISub = record { targets = refl; on = refl }
resolved class pc (o.If opcode offset) = record { targets = refl; on = refl }
resolved class pc (o.IfIcmp opcode offset) = record { targets = refl; on = refl }
resolved class pc (o.IfAcmp opcode offset) = record { targets = refl; on = refl }
resolved class pc (o.IfNull null offset) = record { targets = refl; on = refl }
resolved class pc (o.Goto offset) = record { targets = refl; on = refl }
resolved class pc (o.TableSwitch default low others) = record { targets = refl; on = refl }
resolved class pc o.IReturn = record { targets = refl; on = refl }

if_parts : (pc : ℕ) (op : Op) (o : Option (Instruction ℤ)) (i : Instruction ℤ) → IfParts pc op o → o ≡ Some i → Parts pc op i
if_parts pc op None i parts e = absurd cc
if_parts pc op (Some j) i parts e = subst (IfParts pc op) e parts

pub parts_of : (class : Class) (pc : ℕ) (op : Op) (i : Instruction ℤ) → resolve class pc op ≡ Some i → Parts pc op i
parts_of class pc op i e = if_parts pc op (resolve class pc op) i (resolved class pc op) e
