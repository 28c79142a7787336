-- The source's term stands for the term that was printed.
use Rattle.std.proofs.Common.{◌≡◌, ℕ, Bool, true, List, [], ◌∷◌, map, Option, Some, option_map, option_and_then, refl, sym, ap, ap₂, ◌∙◌, true≢false, Ordering, Less, Equal, Greater, is_lt}
use Rattle.std.specs.Prelude as std
use Rattle.std.specs.Bool.{⊤}
use Rattle.std.specs.Option.{option_zip}
use Rattle.std.specs.Ordering.{match_ordering, ordering_reverse}
use Rattle.std.proofs.lemmas.Bool.{and_parts}
use Rattle.ej_term.specs.Term.{Term, Int, Atom, Reference, Fun, Pid, Tuple, Map, Nil, Cons, Terms, None, More, Pairs, Empty, Pair, terms, tuple}
use Rattle.ej_term.specs.declared.asm_term.AsmTerm.{AsmTerm}
use Rattle.ej_term.specs.declared.asm_term.AsmTerm.TheVariants as source
use Rattle.ej_term.specs.Order.{compare}
use Rattle.ej_term.specs.Tests.{less}
use Rattle.ej_term.specs.Tuples.{items}
use Rattle.ej_term.specs.Lists.{list_onto}
use Rattle.ej_term.specs.Maps.{put, put_each, entries, is_before, rises}
use Rattle.ej_term.specs.AsmValue.{every, ending, value}
use Rattle.ej_term.proofs.OrderLaws.{compare-total}
use Rattle.ej_term.proofs.ValueLemmas.{value-Int, value-Atom, value-List, value-Tuple, value_pair, value-Map, value-ExtFun, value-Pid, value-Ref}
use Rattle.term_text.proofs.Spelled.{as_source, parts_source, pairs_source, elements_source, tail_source}
use Rattle.term_text.proofs.Sound.{IsFunction, Sound, AllSound, AllPairsSound}

-- ---- rising pairs, put one after the other, are themselves

-- pairs, and one behind them
abbrev with_last : Pairs → Term → Term → Pairs
with_last Empty key value = Pair key value Empty
with_last (Pair other held rest) key value = Pair other held (with_last rest key value)

-- pairs, and others behind them
abbrev joined : Pairs → Pairs → Pairs
joined Empty pairs = pairs
joined (Pair key value rest) pairs = Pair key value (joined rest pairs)

-- all keys are less than this
abbrev Below : Pairs → Term → Type 0
Below Empty key = ⊤
Below (Pair other held rest) key = (less other key ≡ true) × Below rest key

is-Less : (o : Ordering) → is_lt o ≡ true → o ≡ Less
is-Less Less e = refl
is-Less Equal e = absurd (true≢false (sym e))
is-Less Greater e = absurd (true≢false (sym e))

less-chain : (a b c : Term) → less a b ≡ true → less b c ≡ true → less a c ≡ true
less-chain a b c e f = ap is_lt (compare-total.trans a b c (is-Less (compare a b) e) (is-Less (compare b c) f))

less-turned : (a b : Term) → less a b ≡ true → compare b a ≡ Greater
less-turned a b e = compare-total.antisymm b a ∙ ap ordering_reverse (is-Less (compare a b) e)

put-last : (done : Pairs) (key value : Term) → Below done key → put key value done ≡ with_last done key value
put-last Empty key value b = refl
put-last (Pair other held rest) key value b =
    ap (λ o. match_ordering o (Pair key value (Pair other held rest)) (Pair key value rest) (Pair other held (put key value rest))) (less-turned other key b.0)
    ∙ ap (Pair other held) (put-last rest key value b.1)

below-more : (done : Pairs) (key next : Term) → Below done key → less key next ≡ true → Below done next
below-more Empty key next b l = tt
below-more (Pair other held rest) key next b l = (less-chain other key next b.0 l, below-more rest key next b.1 l)

below-last : (done : Pairs) (key value next : Term) → Below done next → less key next ≡ true → Below (with_last done key value) next
below-last Empty key value next b l = (l, tt)
below-last (Pair other held rest) key value next b l = (b.0, below-last rest key value next b.1 l)

joined-last : (done : Pairs) (key value : Term) (rest : Pairs) → joined (with_last done key value) rest ≡ joined done (Pair key value rest)
joined-last Empty key value rest = refl
joined-last (Pair other held more) key value rest = ap (Pair other held) (joined-last more key value rest)

-- the first of these keys is above all that are done
abbrev Above : Pairs → Pairs → Type 0
Above done Empty = ⊤
Above done (Pair key value rest) = Below done key

above-rest : (done : Pairs) (key value : Term) (rest : Pairs) → Below done key → is_before key rest ≡ true → Above (with_last done key value) rest
above-rest done key value Empty b before = tt
above-rest done key value (Pair next held rest) b before = below-last done key value next (below-more done key next b before) before

put-entries : (done pairs : Pairs) → Above done pairs → rises pairs ≡ true → put_each done (entries pairs) ≡ joined done pairs
put-entries done Empty a r = go done
  where
    go : (ps : Pairs) → ps ≡ joined ps Empty
    go Empty = refl
    go (Pair key value rest) = ap (Pair key value) (go rest)
put-entries done (Pair key value rest) a r =
    let parts = and_parts (is_before key rest) (rises rest) r in
    ap (λ ps. put_each ps (entries rest)) (put-last done key value a)
    ∙ put-entries (with_last done key value) rest (above-rest done key value rest a parts.0) parts.1
    ∙ joined-last done key value rest

-- ---- values

items-terms : (parts : Terms) → terms (items parts) ≡ parts
items-terms None = refl
items-terms (More first rest) = ap (More first) (items-terms rest)

-- the elements behind a list's first, and what a list ends in
abbrev elements_of : Term → List Term
elements_of (Cons head tail) = head ∷ elements_of tail
elements_of _ = []

abbrev end_of : Term → Term
end_of (Cons head tail) = end_of tail
end_of (Int n) = Int n
end_of (Atom name) = Atom name
end_of (Reference node number) = Reference node number
end_of (Fun local owner name arity environment) = Fun local owner name arity environment
end_of (Pid node number) = Pid node number
end_of (Tuple parts) = Tuple parts
end_of (Map pairs) = Map pairs
end_of Nil = Nil

onto-end : (t : Term) → list_onto (elements_of t) (end_of t) ≡ t
onto-end (Cons head tail) = ap (Cons head) (onto-end tail)
onto-end (Int n) = refl
onto-end (Atom name) = refl
onto-end (Reference node number) = refl
onto-end (Fun local owner name arity environment) = refl
onto-end (Pid node number) = refl
onto-end (Tuple parts) = refl
onto-end (Map pairs) = refl
onto-end Nil = refl

function-value : (local : Bool) (owner name : List ℕ) (arity : ℕ) (environment : Terms) → IsFunction local owner name arity environment
    → value (source.ExtFun owner name arity) ≡ Some (Fun local owner name arity environment)
function-value local owner name arity environment is =
    value-ExtFun owner name arity
    ∙ ap (λ l. Some (Fun l owner name arity None)) (sym is.external) ∙ ap (λ e. Some (Fun local owner name arity e)) (sym is.no_environment)

every-more : {A : Type 0} (o : Option A) (os : List (Option A)) (x : A) (xs : List A) → o ≡ Some x → every os ≡ Some xs → every (o ∷ os) ≡ Some (x ∷ xs)
every-more o os x xs e f = ap (λ p. every (p ∷ os)) e ∙ ap (option_map (◌∷◌ x)) f

list-value : (head : AsmTerm) (elements : List AsmTerm) (tail : Option AsmTerm) (h t : Term) → value head ≡ Some h → every (map value elements) ≡ Some (elements_of t)
    → ending (option_map value tail) ≡ Some (end_of t) → value (source.List (head ∷ elements) tail) ≡ Some (Cons h t)
list-value head elements tail h t here more end =
    value-List (head ∷ elements) tail
    ∙ ap (option_and_then (λ es. option_map (list_onto es) (ending (option_map value tail)))) (every-more (value head) (map value elements) h (elements_of t) here more)
    ∙ ap (option_map (list_onto (h ∷ elements_of t))) end ∙ ap (λ u. Some (Cons h u)) (onto-end t)

tuple-value : (parts : Terms) → every (map value (parts_source parts)) ≡ Some (items parts) → value (source.Tuple (parts_source parts)) ≡ Some (Tuple parts)
tuple-value parts e = value-Tuple (parts_source parts) ∙ ap (option_map tuple) e ∙ ap (λ ps. Some (Tuple ps)) (items-terms parts)

map-value : (pairs : Pairs) → rises pairs ≡ true → every (map value_pair (pairs_source pairs)) ≡ Some (entries pairs) → value (source.Map (pairs_source pairs)) ≡ Some (Map pairs)
map-value pairs r e = value-Map (pairs_source pairs) ∙ ap (option_map (λ es. Map (put_each Empty es))) e ∙ ap (λ ps. Some (Map ps)) (put-entries Empty pairs (above-nothing pairs) r)
  where
    above-nothing : (ps : Pairs) → Above Empty ps
    above-nothing Empty = tt
    above-nothing (Pair key value rest) = tt

mutual
  pub stands-for : (t : Term) → Sound t → value (as_source t) ≡ Some t
  stands-for (Int n) s = value-Int n
  stands-for (Atom name) s = value-Atom name
  stands-for (Reference node number) s = value-Ref node number
  stands-for (Fun local owner name arity environment) s = function-value local owner name arity environment s
  stands-for (Pid node number) s = value-Pid node number
  stands-for (Tuple parts) s = tuple-value parts (parts-values parts s)
  stands-for (Map pairs) s = map-value pairs s.0 (pairs-values pairs s.1)
  stands-for Nil s = value-List [] std.None
  stands-for (Cons head tail) s = list-value (as_source head) (elements_source tail) (tail_source tail) head tail (stands-for head s.0) (elements-values tail s.1) (tail-value tail s.1)

  parts-values : (parts : Terms) → AllSound parts → every (map value (parts_source parts)) ≡ Some (items parts)
  parts-values None s = refl
  parts-values (More first rest) s = every-more (value (as_source first)) (map value (parts_source rest)) first (items rest) (stands-for first s.0) (parts-values rest s.1)

  pairs-values : (pairs : Pairs) → AllPairsSound pairs → every (map value_pair (pairs_source pairs)) ≡ Some (entries pairs)
  pairs-values Empty s = refl
  pairs-values (Pair key held rest) s =
      every-more (value_pair (as_source key, as_source held)) (map value_pair (pairs_source rest)) (key, held) (entries rest)
      (ap₂ option_zip (stands-for key s.0) (stands-for held s.1)) (pairs-values rest s.2)

  elements-values : (t : Term) → Sound t → every (map value (elements_source t)) ≡ Some (elements_of t)
  elements-values (Cons head tail) s = every-more (value (as_source head)) (map value (elements_source tail)) head (elements_of tail) (stands-for head s.0) (elements-values tail s.1)
  elements-values (Int n) s = refl
  elements-values (Atom name) s = refl
  elements-values (Reference node number) s = refl
  elements-values (Fun local owner name arity environment) s = refl
  elements-values (Pid node number) s = refl
  elements-values (Tuple parts) s = refl
  elements-values (Map pairs) s = refl
  elements-values Nil s = refl

  tail-value : (t : Term) → Sound t → ending (option_map value (tail_source t)) ≡ Some (end_of t)
  tail-value (Cons head tail) s = tail-value tail s.1
  tail-value (Int n) s = value-Int n
  tail-value (Atom name) s = value-Atom name
  tail-value (Reference node number) s = value-Ref node number
  tail-value (Fun local owner name arity environment) s = function-value local owner name arity environment s
  tail-value (Pid node number) s = value-Pid node number
  tail-value (Tuple parts) s = tuple-value parts (parts-values parts s)
  tail-value (Map pairs) s = map-value pairs s.0 (pairs-values pairs s.1)
  tail-value Nil s = refl
