-- How the loop over the entries of a pool goes on.
use Rattle.std.proofs.Common.{◌≡◌, ℕ, suc, ◌+◌, ◌-◌, ◌<◌, Bool, List, [], ◌∷◌, ◌++◌, Ok, Err, refl, sym, ap, ◌∙◌, append_assoc, append-nil, arith}
use Rattle.jvm_code.specs.declared.class.Constant.{Constant}
use Rattle.jvm_code.specs.Fault.{Fault}
use Rattle.std.specs.List.{sum_by}
use Rattle.std.proofs.lemmas.List.Sums.{sum_by_push}
use Rattle.jvm_code.specs.ReadPool.{next_entry, entries, is_long, entry_size}
use Rattle.jvm_code.specs.Reader.{Got, done, go_on, read_as}
use Rattle.class_file.specs.declared.fault.ClassFault.{ClassFault}
use Rattle.class_file.specs.declared.fault.ClassFault.TheVariants.{NotClass, OutsideProfile, NoMemory}
use Rattle.class_file.specs.Gave.{Failed}

-- items in front of those that are read
abbrev pub onto : {A : Type 0} → List A → Got (List A) → Got (List A)
onto front (Ok p) = Ok (front ++ p.0, p.1, p.2)
onto front (Err e) = Err e

pub onto_cons : {A : Type 0} (front : List A) (x : A) (g : Got (List A)) → onto front (go_on g (λ xs. done (x ∷ xs))) ≡ onto (front ++ x ∷ []) g
onto_cons front x (Ok p) = ap (λ xs. Ok (xs, p.1, p.2)) (sym (append_assoc front (x ∷ []) p.0))
onto_cons front x (Err e) = refl

first : (due : Bool) (left k at : ℕ) (rest : List ℕ) → left ≡ suc k → entries due left at rest ≡ go_on (next_entry due k at rest) (λ e. read_as (λ es. e ∷ es) (entries (is_long e) k))
first due left k at rest e = ap (λ n. entries due n at rest) e

pub step_on : (pool : List Constant) (due : Bool) (left at : ℕ) (rest : List ℕ) (e : Constant) (to : ℕ) (behind : List ℕ) → 0 < left → next_entry due (left - 1) at rest ≡ Ok (e, to, behind)
    → onto pool (entries due left at rest) ≡ onto (pool ++ e ∷ []) (entries (is_long e) (left - 1) to behind)
step_on pool due left at rest e to behind l h = ap (onto pool) (first due left (left - 1) at rest (omega (arith, l)))
    ∙ ap (λ g. onto pool (go_on g (λ e. read_as (λ es. e ∷ es) (entries (is_long e) (left - 1))))) h ∙ onto_cons pool e (entries (is_long e) (left - 1) to behind)

pub stops : (pool : List Constant) (due : Bool) (left at : ℕ) (rest : List ℕ) (fault : ClassFault) (all : Got (List Constant)) → 0 < left
    → onto pool (entries due left at rest) ≡ all → Failed (next_entry due (left - 1) at rest) fault → Failed all fault
stops pool due left at rest fault all l i g = go fault g
  where
    known : (f : Fault) → next_entry due (left - 1) at rest ≡ Err f → all ≡ Err f
    known f h = sym i ∙ ap (onto pool) (first due left (left - 1) at rest (omega (arith, l)))
        ∙ ap (λ g. onto pool (go_on g (λ e. read_as (λ es. e ∷ es) (entries (is_long e) (left - 1))))) h

    go : (fault : ClassFault) → Failed (next_entry due (left - 1) at rest) fault → Failed all fault
    go (NotClass at) h = known _ h
    go (OutsideProfile at) h = known _ h
    go NoMemory h = tt

pub at_end : (pool : List Constant) (due : Bool) (left at : ℕ) (rest : List ℕ) (all : Got (List Constant)) → left ≡ 0
    → onto pool (entries due left at rest) ≡ all → all ≡ Ok (pool, at, rest)
at_end pool due left at rest all l i = sym i ∙ ap (λ n. onto pool (entries due n at rest)) l ∙ ap (λ es. Ok (es, at, rest)) (append-nil pool)

-- the sizes of one entry more
pub size_push : (pool : List Constant) (e : Constant) (from at to : ℕ) → at ≡ from + sum_by entry_size pool → to ≡ at + entry_size e → to ≡ from + sum_by entry_size (pool ++ e ∷ [])
size_push pool e from at to h k = omega (arith, h, k, sum_by_push entry_size pool e)

-- the same, by what the loop holds
pub kept : (pool next : List Constant) (due long : Bool) (left at : ℕ) (rest : List ℕ) (e : Constant) (to : ℕ) (behind : List ℕ) (all : Got (List Constant)) → 0 < left
    → next_entry due (left - 1) at rest ≡ Ok (e, to, behind) → long ≡ is_long e → next ≡ pool ++ e ∷ [] → onto pool (entries due left at rest) ≡ all
    → onto next (entries long (left - 1) to behind) ≡ all
kept pool next due long left at rest e to behind all l h d n i =
    ap (λ p. onto p (entries long (left - 1) to behind)) n ∙ ap (λ d. onto (pool ++ e ∷ []) (entries d (left - 1) to behind)) d ∙ sym (step_on pool due left at rest e to behind l h) ∙ i

pub sized : (pool next : List Constant) (e : Constant) (from at to : ℕ) → at ≡ from + sum_by entry_size pool → to ≡ at + entry_size e → next ≡ pool ++ e ∷ [] → to ≡ from + sum_by entry_size next
sized pool next e from at to h k n = size_push pool e from at to h k ∙ ap (λ p. from + sum_by entry_size p) (sym n)
