-- Behind a class no byte follows.
use Rattle.std.proofs.Common.{◌≡◌, ℕ, ◌<◌, List, [], ◌∷◌, length, Result, Ok, Err, ap, sym, subst, refl, arith}
use Rattle.jvm_code.specs.declared.class.Class.{Class}
use Rattle.jvm_code.specs.Fault.{NotClass}
use Rattle.jvm_code.specs.Reader.{Got}
use Rattle.jvm_code.specs.ReadClass.{ended}
use Rattle.class_file.specs.declared.fault.ClassFault.{ClassFault}
use Rattle.class_file.specs.declared.fault.ClassFault.TheVariants as f
use Rattle.class_file.specs.Gave.{Failed, Given}

pub trailing : (c : Class) (at : ℕ) (rest : List ℕ) → 0 < length rest → ended (Ok (c, at, rest)) ≡ Err (NotClass at)
trailing c at [] l = absurd (omega (arith, l))
trailing c at (x ∷ rest) l = refl

pub whole : (c : Class) (at : ℕ) (rest : List ℕ) → length rest ≡ 0 → ended (Ok (c, at, rest)) ≡ Ok c
whole c at [] l = refl
whole c at (x ∷ rest) l = absurd (omega (arith, l))

pub read : (got : Got Class) (c : Class) (at : ℕ) (rest : List ℕ) (result : Result Class ClassFault) → got ≡ Ok (c, at, rest) → Given (λ c. c) (ended (Ok (c, at, rest))) result → Given (λ c. c) (ended got) result
read got c at rest result e g = subst (λ o. Given (λ c. c) (ended o) result) (sym e) g

pub fails : (got : Got Class) (fault : ClassFault) → Failed got fault → Failed (ended got) fault
fails got (f.NotClass at) h = ap ended h
fails got (f.OutsideProfile at) h = ap ended h
fails got f.NoMemory h = tt
