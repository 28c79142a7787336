-- Where control may go from an instruction as it stands in the code.
use Rattle.std.specs.Prelude.{ℤ, Bool, true, false, List, [], ◌∷◌, map}
use Rattle.jvm_code.specs.declared.class.Op.{Op}
use Rattle.jvm_code.specs.declared.class.Op.TheVariants as o

-- the offsets of its targets from the instruction itself
abbrev pub offsets : Op → List ℤ
offsets (o.If opcode offset) = offset ∷ []
offsets (o.IfIcmp opcode offset) = offset ∷ []
offsets (o.IfAcmp opcode offset) = offset ∷ []
offsets (o.IfNull null offset) = offset ∷ []
offsets (o.Goto offset) = offset ∷ []
offsets (o.TableSwitch default low others) = default ∷ others
offsets (o.LookupSwitch default pairs) = default ∷ map (λ (p : ℤ × ℤ). p.1) pairs
offsets _ = []

-- control may go to the next instruction
abbrev pub goes_on : Op → Bool
goes_on (o.Goto offset) = false
goes_on (o.TableSwitch default low others) = false
goes_on (o.LookupSwitch default pairs) = false
goes_on o.IReturn = false
goes_on _ = true
