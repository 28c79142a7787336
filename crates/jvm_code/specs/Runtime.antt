-- The table of runtime methods: static methods of the class `erl/Rt`, each with what it takes and gives.
use Rattle.std.specs.Prelude.{ℕ, if◌then◌else◌, List, [], ◌∷◌, map, codes, Option, None, Some}
use Rattle.std.specs.List.{find}
use Rattle.std.specs.Option.{option_and_then}
use Rattle.std.specs.Str.{bytes_eq}
use Rattle.ej_tables.specs.Rows.{Entry, has_number, number_of}
use Rattle.jvm_code.specs.Signature.{Signature, descriptor}
use Rattle.jvm_code.specs.declared.types.VType.{VType}
use Rattle.jvm_code.specs.declared.types.VType.TheVariants as v

-- a method: its name and number, its signature, and the descriptor that spells that
pub record Runtime : Type 0 where
  pub entry : Entry
  pub signature : Signature
  pub descriptor : List ℕ

abbrev pub method : Entry → Signature → Runtime
method entry s = record { entry = entry; signature = s; descriptor = descriptor s }

-- integers, longs, and the classes of processes, terms, traces and strings
abbrev pub I : VType
I = v.Integer

abbrev pub J : VType
J = v.Long

abbrev pub P : VType
P = v.Class (codes "erl/Proc")

abbrev pub T : VType
T = v.Class (codes "erl/Term")

abbrev pub R : VType
R = v.Class (codes "erl/Trace")

abbrev pub S : VType
S = v.Class (codes "java/lang/String")

abbrev pub V : Option VType
V = None

abbrev pub row : ℕ → List ℕ → List VType → Option VType → Runtime
row number name takes gives = method (record { name = name; arity = 0; number = number }) (record { takes = takes; gives = gives })

abbrev pub methods : List Runtime
methods =
    row 1 (codes "take") (P ∷ I ∷ []) (Some T)
    ∷ row 2 (codes "take_int") (P ∷ I ∷ []) (Some I)
    ∷ row 3 (codes "take_trace") (P ∷ I ∷ []) (Some R)
    ∷ row 4 (codes "keep") (P ∷ T ∷ []) V
    ∷ row 5 (codes "keep_int") (P ∷ I ∷ []) V
    ∷ row 6 (codes "keep_trace") (P ∷ R ∷ []) V
    ∷ row 7 (codes "push") (P ∷ I ∷ I ∷ []) V
    ∷ row 8 (codes "arg") (P ∷ T ∷ []) V
    ∷ row 9 (codes "enter") (P ∷ []) V
    ∷ row 10 (codes "call") (P ∷ S ∷ []) V
    ∷ row 11 (codes "apply") (P ∷ T ∷ T ∷ []) (Some I)
    ∷ row 12 (codes "call_fun") (P ∷ T ∷ []) (Some I)
    ∷ row 13 (codes "give") (P ∷ T ∷ []) V
    ∷ row 14 (codes "result") (P ∷ []) (Some T)
    ∷ row 15 (codes "more") (P ∷ []) (Some I)
    ∷ row 16 (codes "integer") (J ∷ []) (Some T)
    ∷ row 17 (codes "lit") (S ∷ []) (Some T)
    ∷ row 18 (codes "cons") (T ∷ T ∷ []) (Some T)
    ∷ row 19 (codes "tuple") (P ∷ []) (Some T)
    ∷ row 20 (codes "make_fun") (P ∷ T ∷ I ∷ []) (Some T)
    ∷ row 21 (codes "bif0") (P ∷ I ∷ []) (Some T)
    ∷ row 22 (codes "bif1") (P ∷ I ∷ T ∷ []) (Some T)
    ∷ row 23 (codes "bif2") (P ∷ I ∷ T ∷ T ∷ []) (Some T)
    ∷ row 24 (codes "bif3") (P ∷ I ∷ T ∷ T ∷ T ∷ []) (Some T)
    ∷ row 25 (codes "guard0") (P ∷ I ∷ []) (Some T)
    ∷ row 26 (codes "guard1") (P ∷ I ∷ T ∷ []) (Some T)
    ∷ row 27 (codes "guard2") (P ∷ I ∷ T ∷ T ∷ []) (Some T)
    ∷ row 28 (codes "guard3") (P ∷ I ∷ T ∷ T ∷ T ∷ []) (Some T)
    ∷ row 29 (codes "test1") (I ∷ T ∷ []) (Some I)
    ∷ row 30 (codes "test2") (I ∷ T ∷ T ∷ []) (Some I)
    ∷ row 31 (codes "test3") (I ∷ T ∷ T ∷ T ∷ []) (Some I)
    ∷ row 32 (codes "arity") (T ∷ []) (Some I)
    ∷ row 33 (codes "map_find") (T ∷ T ∷ []) (Some T)
    ∷ row 34 (codes "map_assoc") (P ∷ T ∷ []) (Some T)
    ∷ row 35 (codes "map_exact") (P ∷ T ∷ []) (Some T)
    ∷ row 36 (codes "map_assoc_guard") (P ∷ T ∷ []) (Some T)
    ∷ row 37 (codes "map_exact_guard") (P ∷ T ∷ []) (Some T)
    ∷ row 38 (codes "raise") (P ∷ I ∷ T ∷ []) V
    ∷ row 39 (codes "raw") (P ∷ T ∷ T ∷ []) (Some I)
    ∷ row 40 (codes "again") (P ∷ R ∷ T ∷ []) V
    ∷ row 41 (codes "opened") (P ∷ T ∷ []) (Some I)
    ∷ row 42 (codes "caught_class") (P ∷ []) (Some T)
    ∷ row 43 (codes "caught_reason") (P ∷ []) (Some T)
    ∷ row 44 (codes "caught_trace") (P ∷ []) (Some R)
    ∷ row 45 (codes "catch_value") (P ∷ T ∷ []) (Some T)
    ∷ row 46 (codes "build") (R ∷ []) (Some T)
    ∷ row 47 (codes "peek") (P ∷ []) (Some T)
    ∷ row 48 (codes "advance") (P ∷ []) V
    ∷ row 49 (codes "remove") (P ∷ []) V
    ∷ row 50 (codes "timeout") (P ∷ []) V
    ∷ row 51 (codes "timer") (P ∷ T ∷ []) (Some I)
    ∷ row 52 (codes "woke") (P ∷ []) (Some I)
    ∷ []

-- the methods by name and number
abbrev pub method_entries : List Entry
method_entries = map (λ (m : Runtime). m.entry) methods

-- the method of that number
abbrev pub method_numbered : ℕ → Option Runtime
method_numbered number = find (λ (m : Runtime). has_number number m.entry) methods

-- its number, where that is its descriptor
abbrev pub if_described : ℕ → List ℕ → Option Runtime → Option ℕ
if_described number text None = None
if_described number text (Some m) = if bytes_eq m.descriptor text then Some number else None

-- the number of the method of that name, where that is its descriptor
abbrev pub number_by : List ℕ → List ℕ → Option ℕ
number_by name text = option_and_then (λ number. if_described number text (method_numbered number)) (number_of name 0 method_entries)
