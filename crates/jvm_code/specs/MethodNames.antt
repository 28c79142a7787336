-- Which texts are names of methods.
use Rattle.std.specs.Prelude.{◌≡◌, ℕ, ◌<◌, ◌⊎◌, true, List, ◌++◌, codes}
use Rattle.std.specs.Fmt.{decimal}
use Rattle.std.specs.Str.{all_scalars}
use Rattle.jvm_code.specs.Names.{method_name}

-- a function that has the text as its method: a name of Unicode scalar values, and an arity
pub record FunctionOf (text : List ℕ) : Type 0 where
  pub name : List ℕ
  pub arity : ℕ
  pub scalar : all_scalars name ≡ true
  pub small : arity < 256
  pub is : text ≡ method_name name arity

-- the method of a part, by its function's and its number
abbrev pub part_name : List ℕ → ℕ → List ℕ
part_name function number = function ++ (codes "$p" ++ decimal number)

-- a part of a function that has the text as its method
pub record PartOf (text : List ℕ) : Type 0 where
  pub function : List ℕ
  pub of : FunctionOf function
  pub number : ℕ
  pub above : 0 < number
  pub below : number < 1000
  pub is : text ≡ part_name function number

-- a function, or, where the method is private, a part of one
abbrev pub MethodOf : ℕ → List ℕ → Type 0
MethodOf flags text = FunctionOf text ⊎ ((flags ≡ 0x000A) × PartOf text)
