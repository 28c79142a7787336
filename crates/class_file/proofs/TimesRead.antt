-- How a loop over a count of the same goes on.
use Rattle.std.proofs.Common.{◌≡◌, ℕ, suc, ◌-◌, ◌<◌, List, [], ◌∷◌, ◌++◌, Ok, Err, sym, ap, ◌∙◌, append-nil, arith}
use Rattle.jvm_code.specs.Fault.{Fault}
use Rattle.jvm_code.specs.Reader.{Got, Reader, done, go_on, then_read, times}
use Rattle.class_file.proofs.EntriesRead.{onto, onto_cons}
use Rattle.class_file.specs.declared.fault.ClassFault.{ClassFault}
use Rattle.class_file.specs.declared.fault.ClassFault.TheVariants.{NotClass, OutsideProfile, NoMemory}
use Rattle.class_file.specs.Gave.{Failed}

module _ {A : Type 0} (r : Reader A) where
  first : (left k at : ℕ) (rest : List ℕ) → left ≡ suc k → times left r at rest ≡ go_on (r at rest) (λ x. then_read (times k r) (λ xs. done (x ∷ xs)))
  first left k at rest e = ap (λ n. times n r at rest) e

  pub step_on : (front : List A) (left at : ℕ) (rest : List ℕ) (x : A) (to : ℕ) (behind : List ℕ) → 0 < left → r at rest ≡ Ok (x, to, behind)
      → onto front (times left r at rest) ≡ onto (front ++ x ∷ []) (times (left - 1) r to behind)
  step_on front left at rest x to behind l h = ap (onto front) (first left (left - 1) at rest (omega (arith, l)))
      ∙ ap (λ g. onto front (go_on g (λ x. then_read (times (left - 1) r) (λ xs. done (x ∷ xs))))) h ∙ onto_cons front x (times (left - 1) r to behind)

  pub stops : (front : List A) (left at : ℕ) (rest : List ℕ) (fault : ClassFault) (all : Got (List A)) → 0 < left
      → onto front (times left r at rest) ≡ all → Failed (r at rest) fault → Failed all fault
  stops front left at rest fault all l i g = go fault g
    where
      known : (f : Fault) → r at rest ≡ Err f → all ≡ Err f
      known f h = sym i ∙ ap (onto front) (first left (left - 1) at rest (omega (arith, l)))
          ∙ ap (λ g. onto front (go_on g (λ x. then_read (times (left - 1) r) (λ xs. done (x ∷ xs))))) h

      go : (fault : ClassFault) → Failed (r at rest) fault → Failed all fault
      go (NotClass at) h = known _ h
      go (OutsideProfile at) h = known _ h
      go NoMemory h = tt

  pub at_end : (front : List A) (left at : ℕ) (rest : List ℕ) (all : Got (List A)) → left ≡ 0
      → onto front (times left r at rest) ≡ all → all ≡ Ok (front, at, rest)
  at_end front left at rest all l i = sym i ∙ ap (λ n. onto front (times n r at rest)) l ∙ ap (λ xs. Ok (xs, at, rest)) (append-nil front)
