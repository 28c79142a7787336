-- The tables of builtin functions (OTP 24, `bif.tab`).
use Rattle.std.specs.Prelude.{ℕ, Bool, true, false, ◌&&◌, if◌then◌else◌, List, [], ◌∷◌, map, codes, Option, None, Some}
use Rattle.std.specs.List.{list_any, find}
use Rattle.std.specs.Option.{option_or}
use Rattle.std.specs.Str.{bytes_eq}
use Rattle.ej_tables.specs.Rows.{Entry, has_number, number_of}
use Rattle.genop_table.specs.declared.builtins.Conduct.{Conduct}
use Rattle.genop_table.specs.declared.builtins.Conduct.TheVariants.{Value, Leaves, Effect}
use Rattle.genop_table.specs.declared.builtins.Standing.{Standing}
use Rattle.genop_table.specs.declared.builtins.Standing.TheVariants.{Guard, Body}

-- a builtin: its name, arity and number, where it may stand, and what it does
pub record Builtin : Type 0 where
  pub entry : Entry
  pub standing : Standing
  pub conduct : Conduct

abbrev pub row : ℕ → List ℕ → ℕ → Standing → Conduct → Builtin
row number name arity standing conduct = record { entry = record { name = name; arity = arity; number = number }; standing = standing; conduct = conduct }

-- those of the module `erlang`
abbrev pub erlang_builtins : List Builtin
erlang_builtins =
    row 1 (codes "+") 2 Guard Value
    ∷ row 2 (codes "-") 2 Guard Value
    ∷ row 3 (codes "*") 2 Guard Value
    ∷ row 4 (codes "div") 2 Guard Value
    ∷ row 5 (codes "rem") 2 Guard Value
    ∷ row 6 (codes "band") 2 Guard Value
    ∷ row 7 (codes "bor") 2 Guard Value
    ∷ row 8 (codes "bxor") 2 Guard Value
    ∷ row 9 (codes "bsl") 2 Guard Value
    ∷ row 10 (codes "bsr") 2 Guard Value
    ∷ row 11 (codes "-") 1 Guard Value
    ∷ row 12 (codes "+") 1 Guard Value
    ∷ row 13 (codes "bnot") 1 Guard Value
    ∷ row 14 (codes "abs") 1 Guard Value
    ∷ row 15 (codes "==") 2 Guard Value
    ∷ row 16 (codes "/=") 2 Guard Value
    ∷ row 17 (codes "=<") 2 Guard Value
    ∷ row 18 (codes "<") 2 Guard Value
    ∷ row 19 (codes ">=") 2 Guard Value
    ∷ row 20 (codes ">") 2 Guard Value
    ∷ row 21 (codes "=:=") 2 Guard Value
    ∷ row 22 (codes "=/=") 2 Guard Value
    ∷ row 23 (codes "not") 1 Guard Value
    ∷ row 24 (codes "and") 2 Guard Value
    ∷ row 25 (codes "or") 2 Guard Value
    ∷ row 26 (codes "xor") 2 Guard Value
    ∷ row 27 (codes "hd") 1 Guard Value
    ∷ row 28 (codes "tl") 1 Guard Value
    ∷ row 29 (codes "length") 1 Guard Value
    ∷ row 30 (codes "tuple_size") 1 Guard Value
    ∷ row 31 (codes "element") 2 Guard Value
    ∷ row 32 (codes "map_size") 1 Guard Value
    ∷ row 33 (codes "map_get") 2 Guard Value
    ∷ row 34 (codes "is_map_key") 2 Guard Value
    ∷ row 35 (codes "self") 0 Guard Effect
    ∷ row 36 (codes "is_atom") 1 Guard Value
    ∷ row 37 (codes "is_integer") 1 Guard Value
    ∷ row 38 (codes "is_number") 1 Guard Value
    ∷ row 39 (codes "is_list") 1 Guard Value
    ∷ row 40 (codes "is_tuple") 1 Guard Value
    ∷ row 41 (codes "is_pid") 1 Guard Value
    ∷ row 42 (codes "is_reference") 1 Guard Value
    ∷ row 43 (codes "is_function") 1 Guard Value
    ∷ row 44 (codes "is_map") 1 Guard Value
    ∷ row 45 (codes "is_boolean") 1 Guard Value
    ∷ row 46 (codes "is_float") 1 Guard Value
    ∷ row 47 (codes "is_binary") 1 Guard Value
    ∷ row 48 (codes "is_function") 2 Guard Value
    ∷ row 49 (codes "max") 2 Body Value
    ∷ row 50 (codes "min") 2 Body Value
    ∷ row 51 (codes "++") 2 Body Value
    ∷ row 52 (codes "--") 2 Body Value
    ∷ row 53 (codes "setelement") 3 Body Value
    ∷ row 54 (codes "tuple_to_list") 1 Body Value
    ∷ row 55 (codes "list_to_tuple") 1 Body Value
    ∷ row 56 (codes "make_tuple") 2 Body Value
    ∷ row 71 (codes "atom_to_list") 1 Body Value
    ∷ row 72 (codes "integer_to_list") 1 Body Value
    ∷ row 73 (codes "list_to_integer") 1 Body Value
    ∷ row 74 (codes "error") 1 Body Leaves
    ∷ row 75 (codes "error") 2 Body Leaves
    ∷ row 76 (codes "exit") 1 Body Leaves
    ∷ row 77 (codes "throw") 1 Body Leaves
    ∷ row 78 (codes "raise") 3 Body Value
    ∷ row 79 (codes "!") 2 Body Effect
    ∷ row 80 (codes "send") 2 Body Effect
    ∷ row 81 (codes "spawn") 1 Body Effect
    ∷ row 82 (codes "spawn") 3 Body Effect
    ∷ row 83 (codes "spawn_link") 1 Body Effect
    ∷ row 84 (codes "spawn_link") 3 Body Effect
    ∷ row 85 (codes "link") 1 Body Effect
    ∷ row 86 (codes "unlink") 1 Body Effect
    ∷ row 87 (codes "exit") 2 Body Effect
    ∷ row 88 (codes "process_flag") 2 Body Effect
    ∷ row 89 (codes "display") 1 Body Effect
    ∷ row 90 (codes "make_ref") 0 Body Effect
    ∷ []

-- those of the module `lists`
abbrev pub lists_builtins : List Builtin
lists_builtins =
    row 57 (codes "reverse") 2 Body Value
    ∷ row 58 (codes "member") 2 Body Value
    ∷ row 59 (codes "keyfind") 3 Body Value
    ∷ []

-- those of the module `maps`
abbrev pub maps_builtins : List Builtin
maps_builtins =
    row 60 (codes "get") 2 Body Value
    ∷ row 61 (codes "find") 2 Body Value
    ∷ row 62 (codes "put") 3 Body Value
    ∷ row 63 (codes "update") 3 Body Value
    ∷ row 64 (codes "remove") 2 Body Value
    ∷ row 65 (codes "is_key") 2 Body Value
    ∷ row 66 (codes "keys") 1 Body Value
    ∷ row 67 (codes "values") 1 Body Value
    ∷ row 68 (codes "to_list") 1 Body Value
    ∷ row 69 (codes "from_list") 1 Body Value
    ∷ row 70 (codes "merge") 2 Body Value
    ∷ []

abbrev pub entries_of : List Builtin → List Entry
entries_of builtins = map (λ (b : Builtin). b.entry) builtins

-- the number of the builtin of that module, name and arity
abbrev pub builtin_number : List ℕ → List ℕ → ℕ → Option ℕ
builtin_number owner name arity =
    if bytes_eq owner (codes "erlang") then number_of name arity (entries_of erlang_builtins)
    else if bytes_eq owner (codes "lists") then number_of name arity (entries_of lists_builtins)
    else if bytes_eq owner (codes "maps") then number_of name arity (entries_of maps_builtins)
    else None

-- the builtin of that number
abbrev pub builtin_numbered : ℕ → Option Builtin
builtin_numbered number =
    option_or (find (λ (b : Builtin). has_number number b.entry) erlang_builtins)
    (option_or (find (λ (b : Builtin). has_number number b.entry) lists_builtins) (find (λ (b : Builtin). has_number number b.entry) maps_builtins))

abbrev pub stands_in_guards : Standing → Bool
stands_in_guards Guard = true
stands_in_guards Body = false

abbrev pub is_guard_row : Option Builtin → Bool
is_guard_row None = false
is_guard_row (Some b) = stands_in_guards b.standing

-- a builtin that may stand in a guard
abbrev pub is_guard : ℕ → Bool
is_guard number = is_guard_row (builtin_numbered number)

-- a guard builtin of that name, of whatever arity
abbrev pub is_guard_named : List ℕ → Builtin → Bool
is_guard_named name b = stands_in_guards b.standing && bytes_eq b.entry.name name

abbrev pub is_guard_name : List ℕ → Bool
is_guard_name name = list_any (is_guard_named name) erlang_builtins

abbrev pub comes_back : Conduct → Bool
comes_back Leaves = false
comes_back _ = true

abbrev pub does_return_row : Option Builtin → Bool
does_return_row None = true
does_return_row (Some b) = comes_back b.conduct

-- a builtin that may come back with a value
abbrev pub does_return : ℕ → Bool
does_return number = does_return_row (builtin_numbered number)
