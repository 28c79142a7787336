-- The keys of the writer's set of values are the distinct values of the definition.
use Rattle.std.proofs.Common.{◌≡◌, refl}
use Rattle.erjang_top.specs.first_path.Weights.{same_value}
use Rattle.erjang_top.specs.declared.first_path.values.Value.{Value}
use Rattle.erjang_top.specs.declared.first_path.values.Value.TheVariants as value
use Rattle.erjang_top.specs.contracts.first_path.values.ValuePartialEq.TheImpl as impl
use Rattle.erjang_top.specs.first_path.SeenValues.{seen_value}
use Rattle.erjang_top.proofs.FirstPath.Seen.{Agrees}

-- the writer's test is the definition's
pub values_agree : Agrees (impl.eq-value).it same_value seen_value
values_agree = record { agree = go }
  where
    go : (u v : Value) → (impl.eq-value).it u v ≡ same_value (seen_value u) (seen_value v)
    go (value.Integer m) (value.Integer n) = refl
    go (value.Integer m) (value.Atom b) = refl
    go (value.Integer m) value.Nil = refl
    go (value.Atom a) (value.Integer n) = refl
    go (value.Atom a) (value.Atom b) = refl
    go (value.Atom a) value.Nil = refl
    go value.Nil (value.Integer n) = refl
    go value.Nil (value.Atom b) = refl
    go value.Nil value.Nil = refl
