-- Slot maps, and what they tell of their functions.
use Rattle.std.proofs.Common.{◌≡◌, ◌<◌, ◌≤◌, ℕ, zero, suc, ◌+◌, List, [], ◌∷◌, ◌++◌, map, take, length, get_or, refl, sym, ap, subst, ◌∙◌, inl, inr, arith, add-one}
use Rattle.std.specs.Prelude.{◌⊎◌}
use Rattle.std.specs.List.{All, AllWithin, AllZip}
use Rattle.std.proofs.lemmas.List.{take_all, length-map}
use Rattle.beam_code.specs.declared.slot_state.SlotMap.{SlotMap}
use Rattle.beam_code.specs.declared.module.Module.{Module}
use Rattle.beam_code.specs.Code.{FunctionCode, function_at, function_code, module_code, no_function}
use Rattle.beam_code.specs.Good.{NoneGood, assignment_of}
use Rattle.beam_code.specs.Weights.{weight}
use Rattle.slot_kinds.specs.Best.{IsBest}
use Rattle.erjang_compile.specs.Accepted.{AreMaps, WellSlotted, Weighs, FunctionFits, most_of_function}
use Rattle.erjang_compile.specs.Faults.{FirstHeavy, FirstUnslotted}

-- an element that is there is the same whatever stands for none
pub element-same : {A : Type 0} (xs : List A) (k : ℕ) (d e : A) → k < length xs → get_or xs k d ≡ get_or xs k e
element-same [] k d e l = absurd (omega (arith, l))
element-same (x ∷ xs) zero d e l = refl
element-same (x ∷ xs) (suc k) d e l = element-same xs k d e (omega (arith, l))

module _ {A B : Type 0} (R : A → B → Type 0) where
  pub zip-push : (xs : List A) (ys : List B) (x : A) (y : B) → AllZip R xs ys → R x y → AllZip R (xs ++ x ∷ []) (ys ++ y ∷ [])
  zip-push [] [] x y p q = (q, tt)
  zip-push [] (b ∷ ys) x y p q = absurd p
  zip-push (a ∷ xs) [] x y p q = absurd p
  zip-push (a ∷ xs) (b ∷ ys) x y p q = (p.0, zip-push xs ys x y p.1 q)

  -- what is told of the first element of each pair
  pub zip-within : (P : A → Type 0) → ((a : A) (b : B) → R a b → P a) → (n : ℕ) (xs : List A) (ys : List B) → n ≤ length xs → AllZip R (take n xs) ys → AllWithin P xs 0 n
  zip-within P h zero xs ys le p k d low high = absurd (omega (arith, high))
  zip-within P h (suc n) [] ys le p k d low high = absurd (omega (arith, le))
  zip-within P h (suc n) (x ∷ xs) [] le p k d low high = absurd p
  zip-within P h (suc n) (x ∷ xs) (y ∷ ys) le p zero d low high = h x y p.0
  zip-within P h (suc n) (x ∷ xs) (y ∷ ys) le p (suc k) d low high = zip-within P h n xs ys (omega (arith, le)) p.1 k d (omega arith) (omega (arith, high))

  pub zip-at : (xs : List A) (ys : List B) (k : ℕ) (d : A) (e : B) → AllZip R xs ys → k < length ys → R (get_or xs k d) (get_or ys k e)
  zip-at [] [] k d e p l = absurd (omega (arith, l))
  zip-at [] (y ∷ ys) k d e p l = absurd p
  zip-at (x ∷ xs) [] k d e p l = absurd p
  zip-at (x ∷ xs) (y ∷ ys) zero d e p l = p.0
  zip-at (x ∷ xs) (y ∷ ys) (suc k) d e p l = zip-at xs ys k d e p.1 (omega (arith, l))

  pub zip-length : (xs : List A) (ys : List B) → AllZip R xs ys → length xs ≡ length ys
  zip-length [] [] p = refl
  zip-length [] (y ∷ ys) p = absurd p
  zip-length (x ∷ xs) [] p = absurd p
  zip-length (x ∷ xs) (y ∷ ys) p = ap suc (zip-length xs ys p.1)

-- one element more has the property
pub within-more : {A : Type 0} (P : A → Type 0) (xs : List A) (n : ℕ) (e : A) → n < length xs → AllWithin P xs 0 n → P (get_or xs n e) → AllWithin P xs 0 (n + 1)
within-more {A} P xs n e l p q k d low high = by (compared k n)
  where
    compared : (k n : ℕ) → (k < n) ⊎ (n ≤ k)
    compared k n = grind arith

    by : (k < n) ⊎ (n ≤ k) → P (get_or xs k d)
    by (inl less) = p k d low less
    by (inr more) = let e' : k ≡ n = omega (arith, more, high) in subst (λ j. P (get_or xs j d)) (sym e') (subst P (element-same xs n e d l) q)

-- Functions and their maps.

pub maps-more : (fs : List FunctionCode) (func : ℕ) (maps new : List SlotMap) (s : SlotMap) → func < length fs → AllZip IsBest (take func fs) maps
    → IsBest (get_or fs func no_function) s → new ≡ maps ++ s ∷ [] → AllZip IsBest (take (func + 1) fs) new
maps-more fs func maps new s l p best is =
    subst (λ (ms : List SlotMap). AllZip IsBest (take (func + 1) fs) ms) (sym is)
    (subst (λ (gs : List FunctionCode). AllZip IsBest gs (maps ++ s ∷ [])) (sym (take-next fs func l)) (zip-push IsBest (take func fs) maps (get_or fs func no_function) s p best))
  where
    behind : (fs : List FunctionCode) (n : ℕ) → n < length fs → take (suc n) fs ≡ take n fs ++ get_or fs n no_function ∷ []
    behind [] n l = absurd (omega (arith, l))
    behind (f ∷ fs) zero l = refl
    behind (f ∷ fs) (suc n) l = ap (λ gs. f ∷ gs) (behind fs n (omega (arith, l)))

    take-next : (fs : List FunctionCode) (n : ℕ) → n < length fs → take (n + 1) fs ≡ take n fs ++ get_or fs n no_function ∷ []
    take-next fs n l = ap (λ k. take k fs) (add-one n) ∙ behind fs n l

pub maps-all : (fs : List FunctionCode) (n : ℕ) (maps : List SlotMap) → length fs ≤ n → AllZip IsBest (take n fs) maps → AllZip IsBest fs maps
maps-all fs n maps l p = subst (λ (gs : List FunctionCode). AllZip IsBest gs maps) (take_all n fs l) p

-- what has a map is well slotted
pub slotted-before : (fs : List FunctionCode) (n : ℕ) (maps : List SlotMap) → n ≤ length fs → AllZip IsBest (take n fs) maps → AllWithin WellSlotted fs 0 n
slotted-before fs n maps l p = zip-within IsBest WellSlotted (λ f s best. (_, best.best.good)) n fs maps l p

pub all-slotted : (fs : List FunctionCode) (maps : List SlotMap) → AllZip IsBest fs maps → All WellSlotted fs
all-slotted [] maps p k d l = absurd (omega (arith, l))
all-slotted (f ∷ fs) [] p k d l = absurd p
all-slotted (f ∷ fs) (s ∷ maps) p zero d l = let first = p.0 in (_, first.best.good)
all-slotted (f ∷ fs) (s ∷ maps) p (suc k) d l = all-slotted fs maps p.1 k d (omega (arith, l))

-- Weights of functions under their maps.

pub weighs-so : (fs : List FunctionCode) (maps : List SlotMap) (func w : ℕ) (s : SlotMap) → AllZip IsBest fs maps → func < length maps → s ≡ get_or maps func s
    → w ≡ weight (assignment_of s) (get_or fs func no_function) → Weighs (get_or fs func no_function) w
weighs-so fs maps func w s p l is sum = record { slots = s; best = subst (IsBest (get_or fs func no_function)) (sym is) (zip-at IsBest fs maps func no_function s p l); sum = sum }

pub all-fit : (fs : List FunctionCode) (maps : List SlotMap) (n : ℕ) → AllZip IsBest fs maps → length maps ≤ n → AllWithin FunctionFits fs 0 n → All FunctionFits fs
all-fit fs maps n p l fit k d high = fit k d (omega arith) (omega (arith, high, l, zip-length IsBest fs maps p))

-- Of a module.

pub maps-in-range : (m : Module) (maps : List SlotMap) (func : ℕ) → AreMaps (module_code m) maps → func < length maps → func < length m.functions
maps-in-range m maps func p l = omega (arith, l, zip-length IsBest (map function_code m.functions) maps p, length-map m.functions function_code)

pub functions-in-range : (m : Module) (func : ℕ) → func < length m.functions → func < length (map function_code m.functions)
functions-in-range m func l = omega (arith, l, length-map m.functions function_code)

module _ (m : Module) (maps : List SlotMap) (func w : ℕ) (s : SlotMap) (p : AreMaps (module_code m) maps) (l : func < length maps) (is : s ≡ get_or maps func s)
    (fit : AllWithin FunctionFits (module_code m).functions 0 func) (sum : w ≡ weight (assignment_of s) (function_at (module_code m) func)) where
  there : func < length (map function_code m.functions)
  there = functions-in-range m func (maps-in-range m maps func p l)

  weighs : Weighs (function_at (module_code m) func) w
  weighs = weighs-so (map function_code m.functions) maps func w s p l is sum

  pub heavy-so : most_of_function < w → FirstHeavy (module_code m) func w
  heavy-so heavy = record { in_range = there; before = fit; weighs = weighs; heavy = heavy }

  pub fits-more : w ≤ most_of_function → AllWithin FunctionFits (module_code m).functions 0 (func + 1)
  fits-more light = within-more FunctionFits (map function_code m.functions) func no_function there fit (w, weighs, light)

pub all-functions-fit : (m : Module) (maps : List SlotMap) (n : ℕ) → AreMaps (module_code m) maps → length maps ≤ n → AllWithin FunctionFits (module_code m).functions 0 n
    → All FunctionFits (module_code m).functions
all-functions-fit m maps n p l fit = all-fit (map function_code m.functions) maps n p l fit

pub unslotted-so : (m : Module) (maps : List SlotMap) (func : ℕ) → func < length m.functions → AllZip IsBest (take func (module_code m).functions) maps → NoneGood (function_at (module_code m) func)
    → FirstUnslotted (module_code m) func
unslotted-so m maps func l p none = record {
  in_range = functions-in-range m func l;
  before = slotted-before (map function_code m.functions) func maps (omega (arith, functions-in-range m func l)) p;
  none = none;
}

pub one-map-more : (m : Module) (maps new : List SlotMap) (func : ℕ) (s : SlotMap) → func < length m.functions → AllZip IsBest (take func (module_code m).functions) maps
    → IsBest (function_at (module_code m) func) s → new ≡ maps ++ s ∷ [] → AllZip IsBest (take (func + 1) (module_code m).functions) new
one-map-more m maps new func s l p best is = maps-more (map function_code m.functions) func maps new s (functions-in-range m func l) p best is

pub all-mapped : (m : Module) (maps : List SlotMap) (n : ℕ) → length m.functions ≤ n → AllZip IsBest (take n (module_code m).functions) maps → AreMaps (module_code m) maps
all-mapped m maps n l p = maps-all (map function_code m.functions) n maps (omega (arith, l, length-map m.functions function_code)) p
