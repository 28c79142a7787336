-- The canonical print of a term.
use Rattle.std.specs.Prelude.{ℕ, true, false, nat_eq, nat_lt, ◌||◌, if◌then◌else◌, List, [], ◌∷◌, ◌++◌, codes}
use Rattle.std.specs.List.{flat_map}
use Rattle.std.specs.Fmt.{decimal, signed_decimal, digits}
use Rattle.ej_term.specs.Atoms.{is_plain}
use Rattle.ej_term.specs.Term.{Term, Int, Atom, Reference, Fun, Pid, Tuple, Map, Nil, Cons, Terms, None, More, Pairs, Empty, Pair}

-- a character between single quotes: `'` and `\` behind a backslash, and each outside 32 to 126 by its number
abbrev pub quoted_character : ℕ → List ℕ
quoted_character c =
    if nat_eq c 39 || nat_eq c 92 then 92 ∷ c ∷ []
    else if nat_lt c 32 || nat_lt 126 c then codes "\\x{" ++ digits 16 true c ++ codes "}"
    else c ∷ []

-- an atom's characters, between single quotes where it is not plain
abbrev pub print_atom : List ℕ → List ℕ
print_atom name = if is_plain name then name else 39 ∷ (flat_map quoted_character name ++ 39 ∷ [])

-- `<N.K>`
abbrev pub print_numbers : ℕ → ℕ → List ℕ
print_numbers node number = codes "<" ++ decimal node ++ codes "." ++ decimal number ++ codes ">"

abbrev pub print_function : List ℕ → List ℕ → ℕ → List ℕ
print_function owner name arity = codes "fun " ++ print_atom owner ++ codes ":" ++ print_atom name ++ codes "/" ++ decimal arity

abbrev mutual
  pub print : Term → List ℕ
  print (Int n) = signed_decimal n
  print (Atom name) = print_atom name
  print (Reference node number) = codes "#Ref" ++ print_numbers node number
  print (Fun true owner name arity environment) =
      codes "#Fun<" ++ print_atom owner ++ codes "," ++ print_atom name ++ codes "," ++ decimal arity ++ codes ",[" ++ print_parts environment ++ codes "]>"
  print (Fun false owner name arity environment) = print_function owner name arity
  print (Pid node number) = codes "#Pid" ++ print_numbers node number
  print (Tuple parts) = codes "{" ++ print_parts parts ++ codes "}"
  print (Map pairs) = codes "#{" ++ print_pairs pairs ++ codes "}"
  print Nil = codes "[]"
  print (Cons head tail) = codes "[" ++ print head ++ print_tail tail ++ codes "]"

  -- terms with commas between them
  pub print_parts : Terms → List ℕ
  print_parts None = []
  print_parts (More first rest) = print first ++ print_rest rest

  pub print_rest : Terms → List ℕ
  print_rest None = []
  print_rest (More first rest) = codes "," ++ print first ++ print_rest rest

  -- keys with their values
  pub print_pairs : Pairs → List ℕ
  print_pairs Empty = []
  print_pairs (Pair key value rest) = print key ++ codes "=>" ++ print value ++ print_more_pairs rest

  pub print_more_pairs : Pairs → List ℕ
  print_more_pairs Empty = []
  print_more_pairs (Pair key value rest) = codes "," ++ print key ++ codes "=>" ++ print value ++ print_more_pairs rest

  -- what follows a list's first element: the next behind a comma, or an improper tail behind a bar
  pub print_tail : Term → List ℕ
  print_tail Nil = []
  print_tail (Cons head tail) = codes "," ++ print head ++ print_tail tail
  print_tail (Int n) = codes "|" ++ signed_decimal n
  print_tail (Atom name) = codes "|" ++ print_atom name
  print_tail (Reference node number) = codes "|#Ref" ++ print_numbers node number
  print_tail (Fun true owner name arity environment) =
      codes "|#Fun<" ++ print_atom owner ++ codes "," ++ print_atom name ++ codes "," ++ decimal arity ++ codes ",[" ++ print_parts environment ++ codes "]>"
  print_tail (Fun false owner name arity environment) = codes "|" ++ print_function owner name arity
  print_tail (Pid node number) = codes "|#Pid" ++ print_numbers node number
  print_tail (Tuple parts) = codes "|{" ++ print_parts parts ++ codes "}"
  print_tail (Map pairs) = codes "|#{" ++ print_pairs pairs ++ codes "}"
