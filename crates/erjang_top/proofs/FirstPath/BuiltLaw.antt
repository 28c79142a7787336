-- A module has one first instruction that is not compiled, or none.
use Rattle.std.proofs.Common.{◌≡◌, ℕ, zero, suc, Bool, true, false, ◌&&◌, List, [], ◌∷◌, take, None, Some, refl, sym, ap, ◌∙◌, subst}
use Rattle.std.specs.Prelude.{slice_get}
use Rattle.std.specs.List.{list_all}
use Rattle.std.proofs.lemmas.Bool.{and_parts, and_from, true≢false}
use Rattle.beam_code.specs.declared.module.Function.{Function}
use Rattle.beam_code.specs.declared.module.Module.{Module}
use Rattle.erjang_top.specs.first_path.LabelRules.{opcodes}
use Rattle.erjang_top.specs.first_path.Opcode.{Opcode, Unknown, is_known}
use Rattle.erjang_top.specs.first_path.Built.{knows}
use Rattle.erjang_top.specs.first_path.Built.{FirstUnknown, FirstUnbuilt, NoneUnbuilt, SomeUnbuilt, OneUnbuilt}
use Rattle.erjang_top.proofs.FirstPath.BuiltSteps.{not-known}

module _ {A : Type 0} (p : A → Bool) where
  -- what all pass, the one at a place passes
  passes-at : (xs : List A) (i : ℕ) (x : A) → list_all p xs ≡ true → slice_get xs i ≡ Some x → p x ≡ true
  passes-at [] i x all e = absurd cc
  passes-at (y ∷ ys) zero x all e = ap p (sym (first y x e)) ∙ (and_parts (p y) (list_all p ys) all).0
    where
      first : (y x : A) → Some y ≡ Some x → y ≡ x
      first y x e = cc
  passes-at (y ∷ ys) (suc i) x all e = passes-at ys i x (and_parts (p y) (list_all p ys) all).1 e

  -- the first that fails
  record FirstAt (xs : List A) (i : ℕ) : Type 0 where
    before : list_all p (take i xs) ≡ true
    here : A
    is_there : slice_get xs i ≡ Some here
    fails : p here ≡ false

  one-first : (xs : List A) (i j : ℕ) → FirstAt xs i → FirstAt xs j → i ≡ j
  one-first xs zero zero f g = refl
  one-first [] (suc i) j f g = absurd (impossible f.here f.is_there)
    where
      impossible : (x : A) → None ≡ Some x → ⊥
      impossible x e = absurd cc
  one-first [] zero (suc j) f g = absurd (impossible g.here g.is_there)
    where
      impossible : (x : A) → None ≡ Some x → ⊥
      impossible x e = absurd cc
  one-first (x ∷ xs) zero (suc j) f g = absurd (true≢false (sym (passes-at (x ∷ take j xs) zero f.here g.before f.is_there) ∙ f.fails))
  one-first (x ∷ xs) (suc i) zero f g = absurd (true≢false (sym (passes-at (x ∷ take i xs) zero g.here f.before g.is_there) ∙ g.fails))
  one-first (x ∷ xs) (suc i) (suc j) f g = ap suc (one-first xs i j (later i f) (later j g))
    where
      later : (n : ℕ) → FirstAt (x ∷ xs) (suc n) → FirstAt xs n
      later n h = record { before = (and_parts (p x) (list_all p (take n xs)) h.before).1; here = h.here; is_there = h.is_there; fails = h.fails }

  -- one is the first that fails, where not all pass
  record SomeFirst (xs : List A) : Type 0 where
    at : ℕ
    first : FirstAt xs at

  some-first : (xs : List A) → list_all p xs ≡ false → SomeFirst xs
  some-first [] e = absurd (true≢false e)
  some-first (x ∷ xs) e = by (p x) refl (some-first xs) e
    where
      by : (b : Bool) → p x ≡ b → (list_all p xs ≡ false → SomeFirst xs) → (b && list_all p xs) ≡ false → SomeFirst (x ∷ xs)
      by true h later f =
          let rest = later f in
          record {
            at = suc rest.at;
            first = record { before = and_from (p x) (list_all p (take rest.at xs)) h rest.first.before; here = rest.first.here; is_there = rest.first.is_there; fails = rest.first.fails };
          }
      by false h later f = record { at = 0; first = record { before = refl; here = x; is_there = refl; fails = h } }

fails-if : (b : Bool) → (b ≡ true → ⊥) → b ≡ false
fails-if true h = absurd (h refl)
fails-if false h = refl

-- a function with such an instruction is none of known ones
unknown-fails : (f : Function) (index : ℕ) → slice_get (opcodes f) index ≡ Some Unknown → knows f ≡ false
unknown-fails f index e = fails-if (knows f) (λ h. true≢false (sym (passes-at is_known (opcodes f) index Unknown h e)))

function-first : (m : Module) (func index : ℕ) → FirstUnbuilt m func index → FirstAt knows m.functions func
function-first m func index u = record { before = u.before; here = u.function; is_there = u.is_there; fails = unknown-fails u.function index u.first.is_unknown }

pub none_unbuilt : NoneUnbuilt
none_unbuilt m func index all u =
    true≢false (sym (passes-at knows m.functions func u.function all u.is_there) ∙ unknown-fails u.function index u.first.is_unknown)

instruction-first : (code : List Opcode) (index : ℕ) → FirstUnknown code index → FirstAt is_known code index
instruction-first code index u = record { before = u.before; here = Unknown; is_there = u.is_unknown; fails = refl }

pub some_unbuilt : SomeUnbuilt
some_unbuilt m not_all =
    let f : SomeFirst knows m.functions = some-first knows m.functions (fails-if (list_all knows m.functions) not_all) in
    let i : SomeFirst is_known (opcodes f.first.here) = some-first is_known (opcodes f.first.here) f.first.fails in (
      f.at,
      i.at,
      record {
        before = f.first.before;
        function = f.first.here;
        is_there = f.first.is_there;
        first = record { before = i.first.before; is_unknown = i.first.is_there ∙ ap Some (not-known i.first.here i.first.fails) };
      },
    )

pub one_unbuilt : OneUnbuilt
one_unbuilt m func index other_func other_index u v = (
  same_func,
  one-first is_known (opcodes u.function) index other_index (instruction-first (opcodes u.function) index u.first)
      (subst (λ f. FirstAt is_known (opcodes f) other_index) same_function (instruction-first (opcodes v.function) other_index v.first)),
)
  where
    same_func : func ≡ other_func
    same_func = one-first knows m.functions func other_func (function-first m func index u) (function-first m other_func other_index v)

    some : (f g : Function) → Some f ≡ Some g → f ≡ g
    some f g e = cc

    same_function : v.function ≡ u.function
    same_function = some v.function u.function (sym v.is_there ∙ ap (slice_get m.functions) (sym same_func) ∙ u.is_there)
