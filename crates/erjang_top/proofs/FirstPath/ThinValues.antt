-- What the parts of a plain module are: its names are plain, and its values fit their entries.
use Rattle.std.proofs.Common.{T, ◌≡◌, ◌≢◌, ℕ, ◌≤◌, Bool, true, false, ◌&&◌, nat_lt, nat_le, List, [], ◌∷◌, ◌++◌, length, sym, subst}
use Rattle.std.specs.Prelude.{ℤ, pos, negsuc, FitsSigned, fold, if◌then◌else◌}
use Rattle.std.specs.Int.{w64}
use Rattle.std.proofs.Math.Facts.{sfits_lit}
use Rattle.std.specs.List.{list_any, list_all, filter_map, flat_map, AllByRecursion}
use Rattle.std.proofs.lemmas.Bool.{and_parts, leb-true}
use Rattle.beam_code.specs.declared.module.Function.{Function}
use Rattle.beam_code.specs.declared.module.Module.{Module}
use Rattle.erjang_top.specs.first_path.LabelRules.{opcodes}
use Rattle.erjang_top.specs.first_path.Opcode.{Value, X, Of, Opcode, Label, Line, Comment, FuncInfo, Move, Return, Unknown}
use Rattle.erjang_top.specs.first_path.Accepted.{is_atom_name, is_count, is_integer, is_thin_source, is_thin_opcode, is_thin_function, is_thin_module, is_register}
use Rattle.erjang_top.specs.first_path.Weights.{value_in, values_of, same_value, with_value}
use Rattle.erjang_top.specs.first_path.ModuleClass.{constants, is_entry, behind}
use Rattle.erjang_top.proofs.FirstPath.NameText.{IsNameText, name_text}

abbrev pub IsThinValue : Value → Type 0
IsThinValue value = is_thin_source (Of value) ≡ true

pub all-append : {X : Type 0} (P : X → Type 0) (xs ys : List X) → AllByRecursion P xs → AllByRecursion P ys → AllByRecursion P (xs ++ ys)
all-append P [] ys f g = g
all-append P (x ∷ xs) ys f g = (f.0, all-append P xs ys f.1 g)

pub all-true : {X : Type 0} (p : X → Bool) (xs : List X) → list_all p xs ≡ true → AllByRecursion (λ x. p x ≡ true) xs
all-true p [] h = tt
all-true p (x ∷ xs) h = let a = and_parts (p x) (list_all p xs) h in (a.0, all-true p xs a.1)

-- an integer of 64 bits fits them
pub integer-fits : (z : ℤ) → is_integer z ≡ true → FitsSigned w64 z
integer-fits (pos n) h = sfits_lit (subst T (sym h) tt)
integer-fits (negsuc n) h = sfits_lit (subst T (sym h) tt)

-- ---- values

with-thin : (values : List Value) (value : Value) → AllByRecursion IsThinValue values → IsThinValue value → AllByRecursion IsThinValue (with_value values value)
with-thin values value all thin = at (list_any (same_value value) values)
  where
    at : (b : Bool) → AllByRecursion IsThinValue (if b then values else values ++ value ∷ [])
    at true = all
    at false = all-append IsThinValue values (value ∷ []) all (thin, tt)

fold-thin : (more values : List Value) → AllByRecursion IsThinValue values → AllByRecursion IsThinValue more → AllByRecursion IsThinValue (fold with_value values more)
fold-thin [] values all more = all
fold-thin (value ∷ rest) values all more = fold-thin rest (with_value values value) (with-thin values value all more.0) more.1

code-thin : (code : List Opcode) → AllByRecursion (λ i. is_thin_opcode i ≡ true) code → AllByRecursion IsThinValue (filter_map value_in code)
code-thin [] all = tt
code-thin (Label n ∷ code) all = code-thin code all.1
code-thin (Line ∷ code) all = code-thin code all.1
code-thin (Comment ∷ code) all = code-thin code all.1
code-thin (FuncInfo owner name arity ∷ code) all = code-thin code all.1
code-thin (Move (X n) to ∷ code) all = code-thin code all.1
code-thin (Move (Of value) to ∷ code) all = ((and_parts (is_thin_source (Of value)) (is_register to) all.0).0, code-thin code all.1)
code-thin (Return ∷ code) all = code-thin code all.1
code-thin (Unknown ∷ code) all = code-thin code all.1

-- ---- functions

pub record IsThinFunction (f : Function) : Type 0 where
  pub name : IsNameText f.name
  pub arity : f.arity ≤ 255
  pub code : AllByRecursion (λ i. is_thin_opcode i ≡ true) (opcodes f)

pub thin-function : (f : Function) → is_thin_function f ≡ true → IsThinFunction f
thin-function f h =
    let a = and_parts (is_atom_name f.name && nat_le f.arity 255 && is_count f.entry) (list_all is_thin_opcode (opcodes f)) h in
    let b = and_parts (is_atom_name f.name && nat_le f.arity 255) (is_count f.entry) a.0 in
    let c = and_parts (is_atom_name f.name) (nat_le f.arity 255) b.0 in
    record { name = name_text f.name c.0; arity = leb-true f.arity 255 c.1; code = all-true is_thin_opcode (opcodes f) a.1 }

functions-thin : (fs : List Function) → AllByRecursion IsThinFunction fs → AllByRecursion IsThinValue (flat_map (λ f. filter_map value_in (opcodes f)) fs)
functions-thin [] all = tt
functions-thin (f ∷ fs) all = all-append IsThinValue (filter_map value_in (opcodes f)) _ (code-thin (opcodes f) all.0.code) (functions-thin fs all.1)

pub all-functions : (fs : List Function) → list_all is_thin_function fs ≡ true → AllByRecursion IsThinFunction fs
all-functions [] h = tt
all-functions (f ∷ fs) h = let a = and_parts (is_thin_function f) (list_all is_thin_function fs) h in (thin-function f a.0, all-functions fs a.1)

some : (name : List ℕ) → nat_lt 0 (length name) ≡ true → name ≢ []
some [] h = absurd cc
some (c ∷ cs) h = λ e. cc

pub record IsThinModule (m : Module) : Type 0 where
  pub name : IsNameText m.name
  pub inhabited : m.name ≢ []
  pub functions : AllByRecursion IsThinFunction m.functions
  pub values : AllByRecursion IsThinValue (constants m)

pub thin-module : (m : Module) → is_thin_module m ≡ true → IsThinModule m
thin-module m h =
    let a = and_parts (is_atom_name m.name && nat_lt 0 (length m.name)) (list_all is_thin_function m.functions) h in
    let b = and_parts (is_atom_name m.name) (nat_lt 0 (length m.name)) a.0 in
    let fs = all-functions m.functions a.1 in
    record { name = name_text m.name b.0; inhabited = some m.name b.1; functions = fs; values = fold-thin (values_of m) [] tt (functions-thin m.functions fs) }

-- ---- the code behind the entry label

pub behind-all : (P : Opcode → Type 0) (entry : ℕ) (code : List Opcode) → AllByRecursion P code → AllByRecursion P (behind entry code)
behind-all P entry [] all = tt
behind-all P entry (i ∷ code) all = at (behind-all P entry code all.1) (is_entry entry i)
  where
    at : AllByRecursion P (behind entry code) → (b : Bool) → AllByRecursion P (if b then code else behind entry code)
    at later true = all.1
    at later false = later
