-- What the constants of a module weigh: an upper bound on the entries of the constant pool of its class. The numbers are
-- this project's own.
use Rattle.std.specs.Prelude.{◌≡◌, ◌↔◌, ◌⊎◌, ℕ, ◌+◌, ◌*◌, pos, Bool, true, false, List, [], ◌∷◌, map, length, Option, None, Some}
use Rattle.std.specs.List.{filter, filter_map, flat_map}
use Rattle.beam_code.specs.declared.operand.Src.{Src}
use Rattle.beam_code.specs.declared.operand.Src.TheVariants as source
use Rattle.beam_code.specs.Code.{FunctionCode, ModuleCode}
use Rattle.beam_code.specs.Opcode.{Opcode, External, Element, Move, Call, MakeFun3, Bif, PutList, PutTuple2, Get, SetTupleElement, PutMap, GetMapElements, SelectVal, SelectTupleArity, Test, TestArity, IsTaggedTuple, HasMapFields, WaitTimeout, Unmatches, Raise}
use Rattle.beam_code.specs.Weights.{saturated}

abbrev pub both : List (Src × Src) → List Src
both pairs = flat_map (λ p. p.0 ∷ p.1 ∷ []) pairs

-- the source operands of an instruction; the tag of `is_tagged_tuple` is one
abbrev pub sources_in : Opcode → List Src
sources_in (Move from to) = from ∷ []
sources_in (MakeFun3 entry to free) = free
sources_in (Bif builtin fail live arguments to) = arguments
sources_in (PutList head tail to) = head ∷ tail ∷ []
sources_in (PutTuple2 to elements) = elements
sources_in (SetTupleElement value tuple place) = value ∷ []
sources_in (PutMap update fail from to pairs) = from ∷ both pairs
sources_in (GetMapElements fail from gets) = from ∷ map (λ g. g.0) gets
sources_in (SelectVal value fail cases) = value ∷ map (λ c. c.0) cases
sources_in (SelectTupleArity tuple fail cases) = tuple ∷ []
sources_in (Test test fail arguments) = arguments
sources_in (TestArity tuple fail size) = tuple ∷ []
sources_in (IsTaggedTuple tuple fail size tag) = tuple ∷ source.Atom tag ∷ []
sources_in (HasMapFields fail from keys) = from ∷ keys
sources_in (WaitTimeout label timeout) = timeout ∷ []
sources_in (Unmatches reason value) = value ∷ []
sources_in (Raise trace reason) = reason ∷ []
sources_in _ = []

abbrev pub is_value : Src → Bool
is_value (source.Reg r) = false
is_value _ = true

-- those that are no register
abbrev pub values_in : Opcode → List Src
values_in o = filter is_value (sources_in o)

abbrev pub size_in : Src → Option ℕ
size_in (source.Int (pos n)) = Some n
size_in _ = None

-- the sizes of tuples, and places in them
abbrev pub numbers_in : Opcode → List ℕ
numbers_in (Get (Element place) from to) = place ∷ []
numbers_in (SetTupleElement value tuple place) = place ∷ []
numbers_in (SelectTupleArity tuple fail cases) = filter_map (λ c. size_in c.0) cases
numbers_in (TestArity tuple fail size) = size ∷ []
numbers_in (IsTaggedTuple tuple fail size tag) = size ∷ []
numbers_in _ = []

-- an external function: module, name and arity
abbrev pub Ext : Type 0
Ext = List ℕ × List ℕ × ℕ

abbrev pub externals_in : Opcode → List Ext
externals_in (Call (External owner name arity) n kind) = (owner, name, arity) ∷ []
externals_in _ = []

abbrev pub code_of : ModuleCode → List Opcode
code_of m = flat_map (λ (f : FunctionCode). f.code) m.functions

-- Different elements.

abbrev pub IsAmong : {A : Type 0} → A → List A → Type 0
IsAmong x [] = ⊥
IsAmong x (y ∷ ys) = (x ≡ y) ⊎ IsAmong x ys

abbrev pub AllDiffer : {A : Type 0} → List A → Type 0
AllDiffer [] = Unit {0}
AllDiffer (x ∷ xs) = (IsAmong x xs → ⊥) × AllDiffer xs

-- a list has n different elements
pub record HasDifferent {A : Type 0} (all : List A) (n : ℕ) : Type 0 where
  pub once : List A
  pub differ : AllDiffer once
  pub same : (x : A) → IsAmong x once ↔ IsAmong x all
  pub count : length once ≡ n

-- 1,024, 6 for each function, and 4 for each different value, each different size or place, and each different external
-- function
pub record PoolWeight (m : ModuleCode) (weight : ℕ) : Type 0 where
  pub values : ℕ
  pub numbers : ℕ
  pub externals : ℕ
  pub values_differ : HasDifferent (flat_map values_in (code_of m)) values
  pub numbers_differ : HasDifferent (flat_map numbers_in (code_of m)) numbers
  pub externals_differ : HasDifferent (flat_map externals_in (code_of m)) externals
  pub sum : weight ≡ saturated (1024 + 6 * length m.functions + 4 * values + 4 * numbers + 4 * externals)
