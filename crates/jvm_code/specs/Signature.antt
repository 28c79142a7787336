-- What a method takes and gives, and the descriptor that spells it (JVMS SE 7, 4.3.3).
use Rattle.std.specs.Prelude.{ℕ, List, [], ◌∷◌, ◌++◌, codes, Option, None, Some}
use Rattle.std.specs.List.{flat_map}
use Rattle.jvm_code.specs.declared.types.VType.{VType}
use Rattle.jvm_code.specs.declared.types.VType.TheVariants as v

pub record Signature : Type 0 where
  pub takes : List VType
  -- none where nothing is given
  pub gives : Option VType

-- a type as it is spelled; Top and Null are types of no argument
abbrev pub type_text : VType → List ℕ
type_text v.Integer = codes "I"
type_text v.Long = codes "J"
type_text (v.Class name) = codes "L" ++ (name ++ codes ";")
type_text _ = []

abbrev pub result_text : Option VType → List ℕ
result_text None = codes "V"
result_text (Some t) = type_text t

abbrev pub descriptor : Signature → List ℕ
descriptor s = codes "(" ++ (flat_map type_text s.takes ++ (codes ")" ++ result_text s.gives))

-- every method of the profile takes the process and an entry number, and gives a status
abbrev pub own : Signature
own = record { takes = v.Class (codes "erl/Proc") ∷ v.Integer ∷ []; gives = Some v.Integer }
