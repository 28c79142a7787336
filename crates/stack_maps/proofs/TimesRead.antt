-- How a loop over a count of the same goes on.
use Rattle.std.proofs.Common.{◌≡◌, ℕ, suc, ◌-◌, ◌<◌, List, [], ◌∷◌, ◌++◌, None, Some, refl, sym, ap, ◌∙◌, append_assoc, append-nil, arith}
use Rattle.stack_maps.specs.Read.{Got, Reader, done, go_on, then_read, times}
use Rattle.stack_maps.specs.declared.fault.MapFault.{MapFault}
use Rattle.stack_maps.specs.declared.fault.MapFault.TheVariants.{BadMap, NoMemory}
use Rattle.stack_maps.specs.Gave.{Failed}

-- items in front of those that are read
abbrev pub onto : {A : Type 0} → List A → Got (List A) → Got (List A)
onto front None = None
onto front (Some p) = Some (front ++ p.0, p.1)

pub onto_cons : {A : Type 0} (front : List A) (x : A) (g : Got (List A)) → onto front (go_on g (λ xs. done (x ∷ xs))) ≡ onto (front ++ x ∷ []) g
onto_cons front x None = refl
onto_cons front x (Some p) = ap (λ xs. Some (xs, p.1)) (sym (append_assoc front (x ∷ []) p.0))

module _ {A : Type 0} (r : Reader A) where
  first : (left k : ℕ) (rest : List ℕ) → left ≡ suc k → times left r rest ≡ go_on (r rest) (λ x. then_read (times k r) (λ xs. done (x ∷ xs)))
  first left k rest e = ap (λ n. times n r rest) e

  pub step_on : (front : List A) (left : ℕ) (rest : List ℕ) (x : A) (behind : List ℕ) → 0 < left → r rest ≡ Some (x, behind)
      → onto front (times left r rest) ≡ onto (front ++ x ∷ []) (times (left - 1) r behind)
  step_on front left rest x behind l h = ap (onto front) (first left (left - 1) rest (omega (arith, l)))
      ∙ ap (λ g. onto front (go_on g (λ x. then_read (times (left - 1) r) (λ xs. done (x ∷ xs))))) h ∙ onto_cons front x (times (left - 1) r behind)

  pub stops : (front : List A) (left : ℕ) (rest : List ℕ) (fault : MapFault) (all : Got (List A)) → 0 < left
      → onto front (times left r rest) ≡ all → Failed (r rest) fault → Failed all fault
  stops front left rest BadMap all l i h = sym i ∙ ap (onto front) (first left (left - 1) rest (omega (arith, l)))
      ∙ ap (λ g. onto front (go_on g (λ x. then_read (times (left - 1) r) (λ xs. done (x ∷ xs))))) h
  stops front left rest NoMemory all l i h = tt

  pub at_end : (front : List A) (left : ℕ) (rest : List ℕ) (all : Got (List A)) → left ≡ 0
      → onto front (times left r rest) ≡ all → all ≡ Some (front, rest)
  at_end front left rest all l i = sym i ∙ ap (λ n. onto front (times n r rest)) l ∙ ap (λ xs. Some (xs, rest)) (append-nil front)
