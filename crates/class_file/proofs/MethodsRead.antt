-- How the loop over methods goes on.
use Rattle.std.proofs.Common.{◌≡◌, ℕ, suc, ◌-◌, ◌<◌, List, [], ◌∷◌, ◌++◌, Bool, Result, Ok, Err, sym, ap, ◌∙◌, subst, append-nil, arith}
use Rattle.jvm_code.specs.declared.class.Constant.{Constant}
use Rattle.jvm_code.specs.declared.class.Method.{Method}
use Rattle.jvm_code.specs.Fault.{Fault}
use Rattle.jvm_code.specs.Reader.{Got, go_on, then_read, read_as}
use Rattle.jvm_code.specs.ReadClass.{method_flags, method_name, is_taken, descriptor, attribute, method_of, method, methods, name_of}
use Rattle.class_file.proofs.EntriesRead.{onto, onto_cons}
use Rattle.class_file.specs.declared.fault.ClassFault.{ClassFault}
use Rattle.class_file.specs.declared.fault.ClassFault.TheVariants.{NotClass, OutsideProfile, NoMemory}
use Rattle.class_file.specs.Gave.{Failed, Gave}
use Rattle.class_file.specs.Place.{Place}

module _ (pool : List Constant) where
  first : (before : List (List ℕ)) (left k at : ℕ) (rest : List ℕ) → left ≡ suc k
      → methods pool before left at rest ≡ go_on (method pool before at rest) (λ m. read_as (λ ms. m ∷ ms) (methods pool (before ++ name_of pool m.name ∷ []) k))
  first before left k at rest e = ap (λ n. methods pool before n at rest) e

  pub step_on : (front : List Method) (before after : List (List ℕ)) (left at : ℕ) (rest : List ℕ) (m : Method) (to : ℕ) (behind : List ℕ) → 0 < left
      → after ≡ before ++ name_of pool m.name ∷ [] → method pool before at rest ≡ Ok (m, to, behind)
      → onto front (methods pool before left at rest) ≡ onto (front ++ m ∷ []) (methods pool after (left - 1) to behind)
  step_on front before after left at rest m to behind l n h = ap (onto front) (first before left (left - 1) at rest (omega (arith, l)))
      ∙ ap (λ g. onto front (go_on g (λ m. read_as (λ ms. m ∷ ms) (methods pool (before ++ name_of pool m.name ∷ []) (left - 1))))) h
      ∙ onto_cons front m (methods pool (before ++ name_of pool m.name ∷ []) (left - 1) to behind)
      ∙ ap (λ names. onto (front ++ m ∷ []) (methods pool names (left - 1) to behind)) (sym n)

  pub stops : (front : List Method) (before : List (List ℕ)) (left at : ℕ) (rest : List ℕ) (fault : ClassFault) (all : Got (List Method)) → 0 < left
      → onto front (methods pool before left at rest) ≡ all → Failed (method pool before at rest) fault → Failed all fault
  stops front before left at rest fault all l i g = go fault g
    where
      known : (f : Fault) → method pool before at rest ≡ Err f → all ≡ Err f
      known f h = sym i ∙ ap (onto front) (first before left (left - 1) at rest (omega (arith, l)))
          ∙ ap (λ g. onto front (go_on g (λ m. read_as (λ ms. m ∷ ms) (methods pool (before ++ name_of pool m.name ∷ []) (left - 1))))) h

      go : (fault : ClassFault) → Failed (method pool before at rest) fault → Failed all fault
      go (NotClass at) h = known _ h
      go (OutsideProfile at) h = known _ h
      go NoMemory h = tt

  pub at_end : (front : List Method) (before : List (List ℕ)) (left at : ℕ) (rest : List ℕ) (all : Got (List Method)) → left ≡ 0
      → onto front (methods pool before left at rest) ≡ all → all ≡ Ok (front, at, rest)
  at_end front before left at rest all l i = sym i ∙ ap (λ n. onto front (methods pool before n at rest)) l ∙ ap (λ ms. Ok (ms, at, rest)) (append-nil front)

-- a method whose front is read
pub behind_front : (pool : List Constant) (before : List (List ℕ)) (at : ℕ) (bs : List ℕ) (flags a : ℕ) (left : List ℕ) (name b : ℕ) (bs' : List ℕ) (taken : Bool) (d c : ℕ) (cs : List ℕ)
    → method_flags at bs ≡ Ok (flags, a, left) → method_name pool flags a left ≡ Ok (name, b, bs') → taken ≡ is_taken pool before name → descriptor pool taken b bs' ≡ Ok (d, c, cs)
    → method pool before at bs ≡ read_as (method_of flags name d) (attribute pool) c cs
behind_front pool before at bs flags a left name b bs' taken d c cs e f t g =
    ap (λ g. go_on g (λ flags. then_read (method_name pool flags) (λ name. then_read (descriptor pool (is_taken pool before name)) (λ d. read_as (method_of flags name d) (attribute pool))))) e
    ∙ ap (λ g. go_on g (λ name. then_read (descriptor pool (is_taken pool before name)) (λ d. read_as (method_of flags name d) (attribute pool)))) f
    ∙ ap (λ g. go_on g (λ d. read_as (method_of flags name d) (attribute pool))) (ap (λ t. descriptor pool t b bs') (sym t) ∙ g)

pub gave_all : (got all : Got Method) (result : Result Method ClassFault) (new : Place) → all ≡ got → Gave (λ m. m) got result new → Gave (λ m. m) all result new
gave_all got all result new e g = subst (λ g. Gave (λ m. m) g result new) (sym e) g
