-- The table of tests (OTP 24, `genop.tab`: the instructions from `is_lt` on that have a label to fail to).
use Rattle.std.specs.Prelude.{ℕ, List, [], ◌∷◌, map, codes, Option}
use Rattle.std.specs.List.{find}
use Rattle.std.specs.Option.{option_map}
use Rattle.ej_tables.specs.Rows.{Entry, has_number}
use Rattle.genop_table.specs.declared.tests.TestArguments.{TestArguments}
use Rattle.genop_table.specs.declared.tests.TestArguments.TheVariants.{OneSource, TwoSources, SourceAndSize, SourceSizeAndTag}

-- a test: its name and number, and what it takes
pub record Test : Type 0 where
  pub entry : Entry
  pub arguments : TestArguments

abbrev pub row : ℕ → List ℕ → TestArguments → Test
row number name arguments = record { entry = record { name = name; arity = 0; number = number }; arguments = arguments }

abbrev pub tests : List Test
tests =
    row 1 (codes "is_lt") TwoSources
    ∷ row 2 (codes "is_ge") TwoSources
    ∷ row 3 (codes "is_eq") TwoSources
    ∷ row 4 (codes "is_ne") TwoSources
    ∷ row 5 (codes "is_eq_exact") TwoSources
    ∷ row 6 (codes "is_ne_exact") TwoSources
    ∷ row 7 (codes "is_integer") OneSource
    ∷ row 8 (codes "is_number") OneSource
    ∷ row 9 (codes "is_atom") OneSource
    ∷ row 10 (codes "is_pid") OneSource
    ∷ row 11 (codes "is_reference") OneSource
    ∷ row 12 (codes "is_nil") OneSource
    ∷ row 13 (codes "is_list") OneSource
    ∷ row 14 (codes "is_nonempty_list") OneSource
    ∷ row 15 (codes "is_tuple") OneSource
    ∷ row 16 (codes "test_arity") SourceAndSize
    ∷ row 17 (codes "is_boolean") OneSource
    ∷ row 18 (codes "is_function") OneSource
    ∷ row 19 (codes "is_function2") TwoSources
    ∷ row 20 (codes "is_map") OneSource
    ∷ row 21 (codes "is_tagged_tuple") SourceSizeAndTag
    ∷ row 22 (codes "is_float") OneSource
    ∷ row 23 (codes "is_binary") OneSource
    ∷ row 24 (codes "is_bitstr") OneSource
    ∷ row 25 (codes "is_port") OneSource
    ∷ []

-- the tests by name and number
abbrev pub test_entries : List Entry
test_entries = map (λ (t : Test). t.entry) tests

-- what the test of that number takes
abbrev pub arguments_of : ℕ → Option TestArguments
arguments_of number = option_map (λ (t : Test). t.arguments) (find (λ (t : Test). has_number number t.entry) tests)
