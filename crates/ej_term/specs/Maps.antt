-- Maps, and the builtin functions on them (the OTP modules erlang and maps).
use Rattle.std.specs.Prelude.{◌≡◌, true, ◌&&◌, ℕ, Bool, if◌then◌else◌, List, [], ◌∷◌, codes, Option, Some, is_some, option_map, option_and_then}
use Rattle.std.specs.Prelude as std
use Rattle.std.specs.Ordering.{match_ordering}
use Rattle.ej_term.specs.Term.{Term, Tuple, Map, None, More, Pairs, Empty, Pair, list, tuple, atom}
use Rattle.ej_term.specs.Order.{compare, count}
use Rattle.ej_term.specs.Outcome.{Outcome, Value, or_badarg, error_with, boolean, number}
use Rattle.ej_term.specs.Tests.{equal, less}
use Rattle.ej_term.specs.Lists.{elements}

-- the pairs with this value at this key, in the order of the keys
abbrev pub put : Term → Term → Pairs → Pairs
put key value Empty = Pair key value Empty
put key value (Pair other held rest) =
    match_ordering (compare key other) (Pair key value (Pair other held rest)) (Pair key value rest) (Pair other held (put key value rest))

-- the pairs with one value after the other put, so the later of equal keys wins
abbrev pub put_each : Pairs → List (Term × Term) → Pairs
put_each pairs [] = pairs
put_each pairs (entry ∷ rest) = put_each (put entry.0 entry.1 pairs) rest

-- the value at a key
abbrev pub value_at : Term → Pairs → Option Term
value_at key Empty = std.None
value_at key (Pair other value rest) = if equal key other then Some value else value_at key rest

abbrev pub has_key : Term → Pairs → Bool
has_key key pairs = is_some (value_at key pairs)

abbrev pub remove : Term → Pairs → Pairs
remove key Empty = Empty
remove key (Pair other value rest) = if equal key other then rest else Pair other value (remove key rest)

abbrev pub keys : Pairs → List Term
keys Empty = []
keys (Pair key value rest) = key ∷ keys rest

abbrev pub values : Pairs → List Term
values Empty = []
values (Pair key value rest) = value ∷ values rest

abbrev pub entries : Pairs → List (Term × Term)
entries Empty = []
entries (Pair key value rest) = (key, value) ∷ entries rest

-- `{K,V}` of each pair
abbrev pub entry_tuples : Pairs → List Term
entry_tuples Empty = []
entry_tuples (Pair key value rest) = tuple (key ∷ value ∷ []) ∷ entry_tuples rest

-- the key stands before all of these, which rise
abbrev pub is_before : Term → Pairs → Bool
is_before key Empty = true
is_before key (Pair other value rest) = less key other

-- the keys rise, so each stands once
abbrev pub rises : Pairs → Bool
rises Empty = true
rises (Pair key value rest) = is_before key rest && rises rest

-- rising pairs are a finite map: `put` and `remove` change one key and keep them rising, and those with the same
-- value at each key are the same pairs
pub record AreMaps : Type 0 where
  pub put_rises : (key value : Term) (pairs : Pairs) → rises pairs ≡ true → rises (put key value pairs) ≡ true
  pub put_at : (key value other : Term) (pairs : Pairs) → value_at other (put key value pairs) ≡ (if equal other key then Some value else value_at other pairs)
  pub remove_rises : (key : Term) (pairs : Pairs) → rises pairs ≡ true → rises (remove key pairs) ≡ true
  pub remove_at : (key other : Term) (pairs : Pairs) → rises pairs ≡ true → value_at other (remove key pairs) ≡ (if equal other key then std.None else value_at other pairs)
  pub same : (pairs others : Pairs) → rises pairs ≡ true → rises others ≡ true → ((key : Term) → value_at key pairs ≡ value_at key others) → pairs ≡ others

abbrev pub badmap : Term → Outcome
badmap term = error_with (codes "badmap") term

abbrev pub badkey : Term → Outcome
badkey key = error_with (codes "badkey") key

-- a function of a map's pairs; error `{badmap,T}` of another term T
abbrev pub on_map : (Pairs → Outcome) → Term → Outcome
on_map f (Map pairs) = f pairs
on_map f term = badmap term

-- the value, or error `{badkey,K}` where there is none
abbrev pub or_badkey : Term → Option Term → Outcome
or_badkey key (Some value) = Value value
or_badkey key std.None = badkey key

abbrev pub map_size : Term → Outcome
map_size term = on_map (λ pairs. Value (number (count pairs))) term

-- `map_get/2` and `maps:get/2`
abbrev pub map_get : Term → Term → Outcome
map_get key term = on_map (λ pairs. or_badkey key (value_at key pairs)) term

-- `is_map_key/2` and `maps:is_key/2`
abbrev pub is_map_key : Term → Term → Outcome
is_map_key key term = on_map (λ pairs. Value (boolean (has_key key pairs))) term

-- `{ok,V}`, or `error`
abbrev pub found : Option Term → Term
found (Some value) = tuple (atom (codes "ok") ∷ value ∷ [])
found std.None = atom (codes "error")

abbrev pub maps_find : Term → Term → Outcome
maps_find key term = on_map (λ pairs. Value (found (value_at key pairs))) term

abbrev pub maps_put : Term → Term → Term → Outcome
maps_put key value term = on_map (λ pairs. Value (Map (put key value pairs))) term

-- of a key that is there
abbrev pub maps_update : Term → Term → Term → Outcome
maps_update key value term = on_map (λ pairs. if has_key key pairs then Value (Map (put key value pairs)) else badkey key) term

abbrev pub maps_remove : Term → Term → Outcome
maps_remove key term = on_map (λ pairs. Value (Map (remove key pairs))) term

abbrev pub maps_keys : Term → Outcome
maps_keys term = on_map (λ pairs. Value (list (keys pairs))) term

abbrev pub maps_values : Term → Outcome
maps_values term = on_map (λ pairs. Value (list (values pairs))) term

abbrev pub maps_to_list : Term → Outcome
maps_to_list term = on_map (λ pairs. Value (list (entry_tuples pairs))) term

-- the key and the value of `{K,V}`
abbrev pub entry : Term → Option (Term × Term)
entry (Tuple (More key (More value None))) = Some (key, value)
entry _ = std.None

abbrev pub entries_of : List Term → Option (List (Term × Term))
entries_of [] = Some []
entries_of (first ∷ rest) = option_and_then (λ e. option_map (◌∷◌ e) (entries_of rest)) (entry first)

-- the map of a proper list of `{K,V}`
abbrev pub maps_from_list : Term → Outcome
maps_from_list term = or_badarg (option_map (λ es. Map (put_each Empty es)) (option_and_then entries_of (elements term)))

-- both maps' pairs, those of the second where both have a key
abbrev pub maps_merge : Term → Term → Outcome
maps_merge first second = on_map (λ pairs. on_map (λ others. Value (Map (put_each pairs (entries others)))) second) first
