-- How the loop over instructions goes on.
use Rattle.std.proofs.Common.{◌≡◌, ℕ, suc, ◌+◌, ◌-◌, ◌<◌, ◌≤◌, List, [], ◌∷◌, ◌++◌, length, Result, Ok, Err, refl, sym, ap, ◌∙◌, subst, append_assoc, append-nil, arith}
use Rattle.jvm_code.specs.declared.class.Constant.{Constant}
use Rattle.jvm_code.specs.declared.class.Op.{Op}
use Rattle.jvm_code.specs.Fault.{Fault}
use Rattle.jvm_code.specs.Fault as spec
use Rattle.jvm_code.specs.Reader.{fault_at}
use Rattle.jvm_code.specs.ReadOps.{op, ops, and_more, onto}
use Rattle.jvm_code.proofs.MovesOps.{moves_op}
use Rattle.class_file.specs.declared.fault.ClassFault.{ClassFault}
use Rattle.class_file.specs.declared.fault.ClassFault.TheVariants.{NotClass, OutsideProfile, NoMemory}
use Rattle.class_file.specs.Gave.{Failed}
use Rattle.class_file.specs.Moved.{moved_to}
use Rattle.class_file.specs.Place.{Place}

abbrev pub Ops : Type 0
Ops = Result (List (ℕ × Op)) Fault

-- instructions in front of those that are read
abbrev pub behind : List (ℕ × Op) → Ops → Ops
behind front (Ok code) = Ok (front ++ code)
behind front (Err e) = Err e

behind_onto : (front : List (ℕ × Op)) (p : ℕ × Op) (g : Ops) → behind front (onto p g) ≡ behind (front ++ p ∷ []) g
behind_onto front p (Ok code) = ap (λ c. Ok c) (sym (append_assoc front (p ∷ []) code))
behind_onto front p (Err e) = refl

-- what is read before a place of the code, with enough fuel for the rest, is what is read of all
pub record Goes (pool : List Constant) (start size : ℕ) (front : List (ℕ × Op)) (pc : ℕ) (rest : List ℕ) (all : Ops) : Type 0 where
  pub fuel : ℕ
  pub enough : length rest ≤ fuel
  pub within : pc + length rest ≡ size
  pub told : behind front (ops fuel pool start pc rest) ≡ all

first : (fuel k : ℕ) (pool : List Constant) (start pc : ℕ) (rest : List ℕ) → fuel ≡ suc k → 0 < length rest
    → ops fuel pool start pc rest ≡ and_more start pc (op pool pc rest) (ops k pool start)
first fuel k pool start pc [] e l = absurd (omega (arith, l))
first fuel k pool start pc (b ∷ bs) e l = ap (λ n. ops n pool start pc (b ∷ bs)) e

pub begins : (pool : List Constant) (start : ℕ) (code : List ℕ) → Goes pool start (length code) [] 0 code (ops (length code) pool start 0 code)
begins pool start code = record { fuel = length code; enough = omega arith; within = omega arith; told = nothing (ops (length code) pool start 0 code) }
  where
    nothing : (g : Ops) → behind [] g ≡ g
    nothing (Ok c) = refl
    nothing (Err e) = refl

pub goes_on : (pool : List Constant) (start size : ℕ) (front : List (ℕ × Op)) (pc : ℕ) (rest : List ℕ) (all : Ops) (x : Op) (to : ℕ) (left : List ℕ)
    → Goes pool start size front pc rest all → 0 < length rest → op pool pc rest ≡ Ok (x, to, left) → Goes pool start size (front ++ (pc, x) ∷ []) to left all
goes_on pool start size front pc rest all x to left g l h =
    let m = moves_op pool pc rest x to left h in
    record {
      fuel = g.fuel - 1;
      enough = omega (arith, g.enough, m.0, m.1);
      within = m.1 ∙ g.within;
      told = sym (behind_onto front (pc, x) (ops (g.fuel - 1) pool start to left))
          ∙ sym (ap (λ o. behind front (and_more start pc o (ops (g.fuel - 1) pool start))) h)
          ∙ sym (ap (behind front) (first g.fuel (g.fuel - 1) pool start pc rest (omega (arith, l, g.enough)) l)) ∙ g.told;
    }

pub stops : (pool : List Constant) (start size : ℕ) (front : List (ℕ × Op)) (pc : ℕ) (rest : List ℕ) (all : Ops) (fault : ClassFault)
    → Goes pool start size front pc rest all → 0 < length rest → Failed (op pool pc rest) fault → Failed all (moved_to (start + pc) fault)
stops pool start size front pc rest all fault g l f = go fault f
  where
    known : (f : Fault) → op pool pc rest ≡ Err f → all ≡ Err (fault_at (start + pc) f)
    known f h = sym g.told ∙ ap (behind front) (first g.fuel (g.fuel - 1) pool start pc rest (omega (arith, l, g.enough)) l)
        ∙ ap (λ o. behind front (and_more start pc o (ops (g.fuel - 1) pool start))) h

    go : (fault : ClassFault) → Failed (op pool pc rest) fault → Failed all (moved_to (start + pc) fault)
    go (NotClass at) h = known (spec.NotClass at) h
    go (OutsideProfile at) h = known (spec.OutsideProfile at) h
    go NoMemory h = tt

none_left : (fuel : ℕ) (pool : List Constant) (start pc : ℕ) (rest : List ℕ) → length rest ≡ 0 → ops fuel pool start pc rest ≡ Ok []
none_left fuel pool start pc [] l = refl
none_left fuel pool start pc (b ∷ bs) l = absurd (omega (arith, l))

pub at_end : (pool : List Constant) (start size : ℕ) (front : List (ℕ × Op)) (pc : ℕ) (rest : List ℕ) (all : Ops)
    → Goes pool start size front pc rest all → length rest ≡ 0 → all ≡ Ok front
at_end pool start size front pc rest all g l = sym g.told ∙ ap (behind front) (none_left g.fuel pool start pc rest l) ∙ ap (λ c. Ok c) (append-nil front)

-- the same, by what the loop holds

pub begun : (pool : List Constant) (start : ℕ) (code : List ℕ) (front : List (ℕ × Op)) (place : Place) → front ≡ [] → place ≡ record { at = 0; rest = code }
    → Goes pool start (length code) front place.at place.rest (ops (length code) pool start 0 code)
begun pool start code front place f p =
    subst (λ (p : Place). Goes pool start (length code) front p.at p.rest (ops (length code) pool start 0 code)) (sym p)
    (subst (λ (f : List (ℕ × Op)). Goes pool start (length code) f 0 code (ops (length code) pool start 0 code)) (sym f) (begins pool start code))

pub goes_to : (pool : List Constant) (start size : ℕ) (front next : List (ℕ × Op)) (pc at : ℕ) (rest : List ℕ) (all : Ops) (x : Op) (to : ℕ) (left : List ℕ)
    → Goes pool start size front pc rest all → at ≡ pc → next ≡ front ++ (at, x) ∷ [] → 0 < length rest → op pool pc rest ≡ Ok (x, to, left) → Goes pool start size next to left all
goes_to pool start size front next pc at rest all x to left g a n l h =
    subst (λ (f : List (ℕ × Op)). Goes pool start size f to left all) (sym (n ∙ ap (λ a. front ++ (a, x) ∷ []) a)) (goes_on pool start size front pc rest all x to left g l h)

pub shorter : (pool : List Constant) (pc : ℕ) (rest : List ℕ) (x : Op) (to : ℕ) (left : List ℕ) → op pool pc rest ≡ Ok (x, to, left) → length left < length rest
shorter pool pc rest x to left h = let m = moves_op pool pc rest x to left h in omega (arith, m.0, m.1)
