-- Functions by name and arity.
use Rattle.std.specs.Prelude.{ℕ, Bool, true, not, nat_eq, ◌&&◌, List, [], ◌∷◌, map}
use Rattle.std.specs.List.{list_any, list_all}
use Rattle.std.specs.Str.{bytes_eq}
use Rattle.beam_code.specs.declared.module.Function.{Function}

abbrev pub Key : Type 0
Key = List ℕ × ℕ

abbrev pub same_key : Key → Key → Bool
same_key a b = bytes_eq a.0 b.0 && nat_eq a.1 b.1

abbrev pub key_of : Function → Key
key_of f = (f.name, f.arity)

abbrev pub is_among : List Key → Key → Bool
is_among keys key = list_any (same_key key) keys

abbrev pub no_key_twice : List Key → Bool
no_key_twice [] = true
no_key_twice (key ∷ keys) = not (is_among keys key) && no_key_twice keys

-- no two functions share name and arity
abbrev pub are_distinct : List Function → Bool
are_distinct functions = no_key_twice (map key_of functions)

-- each export is one of the functions
abbrev pub are_exports : List Key → List Function → Bool
are_exports exports functions = list_all (is_among (map key_of functions)) exports
