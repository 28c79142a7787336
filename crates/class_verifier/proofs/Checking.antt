-- What is wrong first with methods, while they are gone through.
use Rattle.std.proofs.Common.{◌≡◌, ℕ, ◌+◌, List, [], ◌∷◌, Option, None, Some, inl, inr, sym, subst, add-one}
use Rattle.std.specs.Prelude.{IfSome}
use Rattle.std.specs.List.{AllByRecursion}
use Rattle.jvm_code.specs.declared.class.Class.{Class}
use Rattle.jvm_code.specs.declared.class.Method.{Method}
use Rattle.jvm_code.specs.Verification.{Fault, FirstOf, IsFaultOf, IsSoundMethod}

-- what is so of the methods that are left, from that number on, is so of all
pub record Gone (class : Class) (at : ℕ) (left whole : List Method) : Type 0 where
  pub sound : AllByRecursion (IsSoundMethod class) left → AllByRecursion (IsSoundMethod class) whole
  pub first : (fault : Fault) → FirstOf class left at fault → FirstOf class whole 0 fault

pub gone_none : (class : Class) (whole : List Method) → Gone class 0 whole whole
gone_none class whole = record { sound = λ all. all; first = λ fault first. first }

if_some : {A : Type 0} {P Q : A → Type 0} (o : Option A) → ((x : A) → P x → Q x) → IfSome o P → IfSome o Q
if_some None f h = tt
if_some (Some x) f h = f x h

module _ (class : Class) (at : ℕ) (m : Method) (left more whole : List Method) (e : more ≡ m ∷ left) (gone : Gone class at more whole) where
  pub gone_stop : (fault : Option Fault) → IfSome fault (IsFaultOf class m at) → IfSome fault (FirstOf class whole 0)
  gone_stop fault = if_some fault (λ fault is. gone.first fault (subst (λ ms. FirstOf class ms at fault) (sym e) (inl is)))

  pub gone_more : IsSoundMethod class m → Gone class (at + 1) left whole
  gone_more sound = record {
    sound = λ all. gone.sound (subst (AllByRecursion (IsSoundMethod class)) (sym e) (sound, all));
    first = λ fault first. gone.first fault (subst (λ ms. FirstOf class ms at fault) (sym e) (inr (sound, subst (λ n. FirstOf class left n fault) (add-one at) first)));
  }

pub gone_all : (class : Class) (at : ℕ) (left whole : List Method) → left ≡ [] → Gone class at left whole → AllByRecursion (IsSoundMethod class) whole
gone_all class at left whole e gone = gone.sound (subst (AllByRecursion (IsSoundMethod class)) (sym e) tt)
