-- What each kind of source term is fed as, as equations.
use Rattle.std.proofs.Common.{◌≡◌, ℕ, ℤ, List, [], ◌∷◌, ◌++◌, map, Option, None, Some, refl, sym, ap, ap₂, ◌∙◌}
use Rattle.std.proofs.lemmas.List.{length-map}
use Rattle.std.specs.Hash as fed
use Rattle.std.specs.Hash.{HashWrites}
use Rattle.std.specs.List.{flat_map}
use Rattle.ej_term.specs.declared.asm_term.AsmTerm.{AsmTerm, fold-roll-AsmTerm}
use Rattle.ej_term.specs.declared.asm_term.AsmTerm.TheOpen as o
use Rattle.ej_term.specs.declared.asm_term.AsmTerm.TheVariants as v
use Rattle.ej_term.specs.Hashed.{text, fed_step, fed_term, fed_tail, fed_pair}

-- a list of what was mapped, fed one by one
listed : {A B : Type 0} (f : A → B) (feed : B → HashWrites) (both : A → HashWrites) → ((x : A) → feed (f x) ≡ both x) → (xs : List A) → flat_map feed (map f xs) ≡ flat_map both xs
listed f feed both same [] = refl
listed f feed both same (x ∷ xs) = ap₂ ◌++◌ (same x) (listed f feed both same xs)

sliced : {A B : Type 0} (f : A → B) (feed : B → HashWrites) (both : A → HashWrites) → ((x : A) → feed (f x) ≡ both x) → (xs : List A) → fed.slice feed (map f xs) ≡ fed.slice both xs
sliced f feed both same xs = ap₂ (λ n writes. fed.usize n ++ writes) (length-map xs f) (listed f feed both same xs)

parts_fed : (parts : List AsmTerm) → fed.slice (λ (writes : HashWrites). writes) (map fed_term parts) ≡ fed.slice fed_term parts
parts_fed parts = sliced fed_term (λ writes. writes) fed_term (λ t. refl) parts

pub fed-Int : (n : ℤ) → fed_term (v.Int n) ≡ fed.u8 0 ++ fed.i64 n
fed-Int n = ap fed_term (sym (v.rolls-Int n)) ∙ fold-roll-AsmTerm HashWrites fed_step (o.Int n)

pub fed-Atom : (name : List ℕ) → fed_term (v.Atom name) ≡ fed.u8 1 ++ text name
fed-Atom name = ap fed_term (sym (v.rolls-Atom name)) ∙ fold-roll-AsmTerm HashWrites fed_step (o.Atom name)

pub fed-Str : (characters : List ℕ) → fed_term (v.Str characters) ≡ fed.u8 2 ++ fed.slice fed.u32 characters
fed-Str characters = ap fed_term (sym (v.rolls-Str characters)) ∙ fold-roll-AsmTerm HashWrites fed_step (o.Str characters)

pub fed-List : (parts : List AsmTerm) (tail : Option AsmTerm) → fed_term (v.List parts tail) ≡ fed.u8 3 ++ (fed.slice fed_term parts ++ fed_tail tail)
fed-List parts None =
    ap fed_term (sym (v.rolls-List parts None)) ∙ fold-roll-AsmTerm HashWrites fed_step (o.List parts None)
    ∙ ap (λ writes. fed.u8 3 ++ (writes ++ fed.u8 0)) (parts_fed parts)
fed-List parts (Some tail) =
    ap fed_term (sym (v.rolls-List parts (Some tail))) ∙ fold-roll-AsmTerm HashWrites fed_step (o.List parts (Some tail))
    ∙ ap (λ writes. fed.u8 3 ++ (writes ++ (fed.u8 1 ++ fed_term tail))) (parts_fed parts)

pub fed-Tuple : (parts : List AsmTerm) → fed_term (v.Tuple parts) ≡ fed.u8 4 ++ fed.slice fed_term parts
fed-Tuple parts = ap fed_term (sym (v.rolls-Tuple parts)) ∙ fold-roll-AsmTerm HashWrites fed_step (o.Tuple parts) ∙ ap (λ writes. fed.u8 4 ++ writes) (parts_fed parts)

pub fed-Map : (pairs : List (AsmTerm × AsmTerm)) → fed_term (v.Map pairs) ≡ fed.u8 5 ++ fed.slice fed_pair pairs
fed-Map pairs =
    ap fed_term (sym (v.rolls-Map pairs)) ∙ fold-roll-AsmTerm HashWrites fed_step (o.Map pairs)
    ∙ ap (λ writes. fed.u8 5 ++ writes) (sliced _ (λ (pair : HashWrites × HashWrites). pair.0 ++ pair.1) fed_pair (λ p. refl) pairs)

pub fed-ExtFun : (owner name : List ℕ) (arity : ℕ) → fed_term (v.ExtFun owner name arity) ≡ fed.u8 6 ++ (text owner ++ (text name ++ fed.u8 arity))
fed-ExtFun owner name arity = ap fed_term (sym (v.rolls-ExtFun owner name arity)) ∙ fold-roll-AsmTerm HashWrites fed_step (o.ExtFun owner name arity)

pub fed-Pid : (node number : ℕ) → fed_term (v.Pid node number) ≡ fed.u8 7 ++ (fed.u32 node ++ fed.u64 number)
fed-Pid node number = ap fed_term (sym (v.rolls-Pid node number)) ∙ fold-roll-AsmTerm HashWrites fed_step (o.Pid node number)

pub fed-Ref : (node number : ℕ) → fed_term (v.Ref node number) ≡ fed.u8 8 ++ (fed.u32 node ++ fed.u64 number)
fed-Ref node number = ap fed_term (sym (v.rolls-Ref node number)) ∙ fold-roll-AsmTerm HashWrites fed_step (o.Ref node number)

pub fed-Opaque : (spelling : List ℕ) → fed_term (v.Opaque spelling) ≡ fed.u8 9 ++ text spelling
fed-Opaque spelling = ap fed_term (sym (v.rolls-Opaque spelling)) ∙ fold-roll-AsmTerm HashWrites fed_step (o.Opaque spelling)

pub ruleset fed_cases = (fed-Int, fed-Atom, fed-Str, fed-List, fed-Tuple, fed-Map, fed-ExtFun, fed-Pid, fed-Ref, fed-Opaque)
