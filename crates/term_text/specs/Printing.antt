-- How a term is printed by its cells: what is written of one, and what is still to be written behind that.
use Rattle.std.specs.Prelude.{◌≡◌, ℕ, ◌+◌, ◌-◌, ◌*◌, ◌<◌, true, false, List, [], ◌∷◌, ◌++◌, map, slice_get, Some, codes, IsSome}
use Rattle.std.specs.List.{All}
use Rattle.std.specs.Fmt.{decimal, signed_decimal}
use Rattle.ej_term.specs.Term.{Term, terms}
use Rattle.ej_term.specs.TermPrint.{print, print_atom, print_numbers, print_function, print_parts, print_rest, print_pairs, print_more_pairs, print_tail}
use Rattle.term_heap.specs.Cells.{Parts, part_at, parts_of}
use Rattle.term_heap.specs.Entries.{pairs}
use Rattle.term_heap.specs.Works.{text, term_at, run_at, weight, weight_each, weight_pairs}
use Rattle.term_heap.specs.declared.cell.TermId.{TermId}
use Rattle.term_heap.specs.declared.cell.Cell.{Cell}
use Rattle.term_heap.specs.declared.cell.Cell.TheVariants as c
use Rattle.term_text.specs.declared.work.Work.{Work}
use Rattle.term_text.specs.declared.work.Work.TheVariants as w

-- a local fun up to the values of its free variables
abbrev pub local_front : List ℕ → List ℕ → ℕ → List ℕ
local_front owner name arity = codes "#Fun<" ++ print_atom owner ++ codes "," ++ print_atom name ++ codes "," ++ decimal arity ++ codes ",["

-- what is written of a cell, and what is to be written behind that, the last first
abbrev pub opened : List (List ℕ) → Cell → List ℕ × List Work
opened texts (c.Int n) = (signed_decimal n, [])
opened texts (c.Atom name) = (print_atom (text texts name), [])
opened texts c.Nil = (codes "[]", [])
opened texts (c.Cons head tail) = (codes "[", w.Bracket ∷ w.Tail tail ∷ w.Term head ∷ [])
opened texts (c.Tuple first count) = (codes "{", w.Brace ∷ w.Parts first count ∷ [])
opened texts (c.Map first count) = (codes "#{", w.Brace ∷ w.Entries first (first + count) count ∷ [])
opened texts (c.Fun true owner name arity first count) = (local_front (text texts owner) (text texts name) arity, w.Angle ∷ w.Parts first count ∷ [])
opened texts (c.Fun false owner name arity first count) = (print_function (text texts owner) (text texts name) arity, [])
opened texts (c.Pid node number) = (codes "#Pid" ++ print_numbers node number, [])
opened texts (c.Reference node number) = (codes "#Ref" ++ print_numbers node number, [])

-- the same of a list's tail, by its id and its cell
abbrev pub followed : TermId → Cell → List ℕ × List Work
followed id c.Nil = ([], [])
followed id (c.Cons head tail) = (codes ",", w.Tail tail ∷ w.Term head ∷ [])
followed id cell = (codes "|", w.Term id ∷ [])

-- a run's first part was appended, and before it the others
abbrev pub RunPushed : Parts → (first count : ℕ) → List Work → List Work → Type 0
RunPushed parts first count old new = (id : TermId) × (part_at parts first ≡ Some id) × (new ≡ old ++ w.Rest (first + 1) (count - 1) ∷ w.Term id ∷ [])

-- a first key with its value was appended, and before them the others
abbrev pub EntriesPushed : Parts → (key value count : ℕ) → List Work → List Work → Type 0
EntriesPushed parts key value count old new =
    (id other : TermId) × (part_at parts key ≡ Some id) × (part_at parts value ≡ Some other)
    × (new ≡ old ++ w.More (key + 1) (value + 1) (count - 1) ∷ w.Term other ∷ w.Arrow ∷ w.Term id ∷ [])

-- the text of what is still to be written
abbrev pub work_text : Parts → List Term → Work → List ℕ
work_text parts ts (w.Term id) = print (term_at ts id)
work_text parts ts (w.Tail id) = print_tail (term_at ts id)
work_text parts ts (w.Parts first count) = print_parts (terms (run_at parts ts first count))
work_text parts ts (w.Rest first count) = print_rest (terms (run_at parts ts first count))
work_text parts ts (w.Entries key value count) = print_pairs (pairs (run_at parts ts key count) (run_at parts ts value count))
work_text parts ts (w.More key value count) = print_more_pairs (pairs (run_at parts ts key count) (run_at parts ts value count))
work_text parts ts w.Arrow = codes "=>"
work_text parts ts w.Brace = codes "}"
work_text parts ts w.Bracket = codes "]"
work_text parts ts w.Angle = codes "]>"

-- texts, of which the last goes first
abbrev pub text_onto : List ℕ → List (List ℕ) → List ℕ
text_onto behind [] = behind
text_onto behind (t ∷ ts) = text_onto (t ++ behind) ts

abbrev pub pending_text : Parts → List Term → List Work → List ℕ
pending_text parts ts works = text_onto [] (map (work_text parts ts) works)

-- its ids and runs are there
abbrev pub IsWork : Parts → List Term → Work → Type 0
IsWork parts ts (w.Term id) = IsSome (slice_get ts id.0)
IsWork parts ts (w.Tail id) = IsSome (slice_get ts id.0)
IsWork parts ts (w.Parts first count) = IsSome (parts_of parts ts first count)
IsWork parts ts (w.Rest first count) = IsSome (parts_of parts ts first count)
IsWork parts ts (w.Entries key value count) = IsSome (parts_of parts ts key count) × IsSome (parts_of parts ts value count)
IsWork parts ts (w.More key value count) = IsSome (parts_of parts ts key count) × IsSome (parts_of parts ts value count)
IsWork parts ts work = Unit {0}

-- more than the weights of all that is to be written behind it
abbrev pub work_weight : Parts → List Term → Work → ℕ
work_weight parts ts (w.Term id) = 4 * weight (term_at ts id)
work_weight parts ts (w.Tail id) = 4 * weight (term_at ts id) + 1
work_weight parts ts (w.Parts first count) = 4 * weight_each (terms (run_at parts ts first count))
work_weight parts ts (w.Rest first count) = 4 * weight_each (terms (run_at parts ts first count))
work_weight parts ts (w.Entries key value count) = 4 * weight_pairs (pairs (run_at parts ts key count) (run_at parts ts value count))
work_weight parts ts (w.More key value count) = 4 * weight_pairs (pairs (run_at parts ts key count) (run_at parts ts value count))
work_weight parts ts work = 1

abbrev pub weigh : Parts → List Term → List Work → ℕ
weigh parts ts [] = 0
weigh parts ts (work ∷ works) = work_weight parts ts work + weigh parts ts works

-- a step takes work away, writes some text and leaves less: the whole text stays
pub record Stepped (parts : Parts) (ts : List Term) (work : Work) (written now_written : List ℕ) (old new : List Work) : Type 0 where
  pub same : now_written ++ pending_text parts ts new ≡ written ++ (work_text parts ts work ++ pending_text parts ts old)
  pub fewer : weigh parts ts new < weigh parts ts old + work_weight parts ts work
  pub works : All (IsWork parts ts) old → All (IsWork parts ts) new
