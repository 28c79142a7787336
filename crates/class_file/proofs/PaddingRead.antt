-- How the loop over padding goes on.
use Rattle.std.proofs.Common.{◌≡◌, ℕ, suc, ◌-◌, ◌<◌, List, Ok, Err, sym, ap, ◌∙◌, arith}
use Rattle.jvm_code.specs.Fault.{Fault}
use Rattle.jvm_code.specs.Reader.{Got, go_on, pad_byte, padding}
use Rattle.class_file.specs.declared.fault.ClassFault.{ClassFault}
use Rattle.class_file.specs.declared.fault.ClassFault.TheVariants.{NotClass, OutsideProfile, NoMemory}
use Rattle.class_file.specs.Gave.{Failed}

first : (left k at : ℕ) (rest : List ℕ) → left ≡ suc k → padding left at rest ≡ go_on (pad_byte at rest) (λ _. padding k)
first left k at rest e = ap (λ n. padding n at rest) e

pub step_on : (left at : ℕ) (rest : List ℕ) (x to : ℕ) (behind : List ℕ) → 0 < left → pad_byte at rest ≡ Ok (x, to, behind) → padding left at rest ≡ padding (left - 1) to behind
step_on left at rest x to behind l h = first left (left - 1) at rest (omega (arith, l)) ∙ ap (λ g. go_on g (λ _. padding (left - 1))) h

pub stops : (left at : ℕ) (rest : List ℕ) (fault : ClassFault) (all : Got (Unit {0})) → 0 < left → padding left at rest ≡ all → Failed (pad_byte at rest) fault → Failed all fault
stops left at rest fault all l i g = go fault g
  where
    known : (f : Fault) → pad_byte at rest ≡ Err f → all ≡ Err f
    known f h = sym i ∙ first left (left - 1) at rest (omega (arith, l)) ∙ ap (λ g. go_on g (λ _. padding (left - 1))) h

    go : (fault : ClassFault) → Failed (pad_byte at rest) fault → Failed all fault
    go (NotClass at) h = known _ h
    go (OutsideProfile at) h = known _ h
    go NoMemory h = tt

pub at_end : (left at : ℕ) (rest : List ℕ) (all : Got (Unit {0})) → left ≡ 0 → padding left at rest ≡ all → all ≡ Ok (tt, at, rest)
at_end left at rest all l i = sym i ∙ ap (λ n. padding n at rest) l
