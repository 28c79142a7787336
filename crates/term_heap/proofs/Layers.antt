-- The parts of a source's term, and what they tell of it.
use Rattle.std.proofs.Common.{◌≡◌, ℕ, ℤ, ◌+◌, Bool, true, false, ◌||◌, List, [], ◌∷◌, map, Option, Some, option_map, option_and_then, refl, sym, ap, ◌∙◌}
use Rattle.std.specs.Prelude as std
use Rattle.std.specs.List.{list_any}
use Rattle.std.specs.Option.{option_zip}
use Rattle.ej_term.specs.declared.asm_term.AsmTerm.{AsmTerm, out-AsmTerm, out-roll-AsmTerm}
use Rattle.ej_term.specs.declared.asm_term.AsmTerm.TheFolds.{map-AsmTerm, fold_out-AsmTerm}
use Rattle.ej_term.specs.declared.asm_term.AsmTerm.TheOpen as o
use Rattle.ej_term.specs.declared.asm_term.AsmTerm.TheOpen.{AsmTerm-F}
use Rattle.ej_term.specs.declared.asm_term.AsmTerm.TheVariants as v
use Rattle.ej_term.specs.Term.{Term, Int, Atom, Reference, Fun, Pid, Map, Nil, None, Empty, tuple}
use Rattle.ej_term.specs.Digits.{string}
use Rattle.ej_term.specs.Lists.{list_onto}
use Rattle.ej_term.specs.Maps.{put_each}
use Rattle.ej_term.specs.AsmValue.{every, value_step, value, has_opaque, pair_opaque}
use Rattle.ej_term.proofs.OpaqueLemmas.{opaque-Int, opaque-Atom, opaque-Str, opaque-List, opaque-Tuple, opaque-Map, opaque-ExtFun, opaque-Pid, opaque-Ref, opaque-Opaque}
use Rattle.term_heap.specs.Preorder.{flat, paired, parts_of_layer, inner, improper, made_of_layer, made_of, total, count_step, count}

-- What the parts of each kind of term are.

pub inner-Int : (n : ℤ) → inner (v.Int n) ≡ []
inner-Int n = ap inner (sym (v.rolls-Int n)) ∙ ap parts_of_layer (out-roll-AsmTerm (o.Int n))

pub inner-Atom : (name : List ℕ) → inner (v.Atom name) ≡ []
inner-Atom name = ap inner (sym (v.rolls-Atom name)) ∙ ap parts_of_layer (out-roll-AsmTerm (o.Atom name))

pub inner-Str : (characters : List ℕ) → inner (v.Str characters) ≡ []
inner-Str characters = ap inner (sym (v.rolls-Str characters)) ∙ ap parts_of_layer (out-roll-AsmTerm (o.Str characters))

pub inner-proper : (parts : List AsmTerm) → inner (v.List parts std.None) ≡ parts
inner-proper parts = ap inner (sym (v.rolls-List parts std.None)) ∙ ap parts_of_layer (out-roll-AsmTerm (o.List parts std.None))

pub inner-improper : (parts : List AsmTerm) (tail : AsmTerm) → inner (v.List parts (Some tail)) ≡ tail ∷ parts
inner-improper parts tail = ap inner (sym (v.rolls-List parts (Some tail))) ∙ ap parts_of_layer (out-roll-AsmTerm (o.List parts (Some tail)))

pub inner-Tuple : (parts : List AsmTerm) → inner (v.Tuple parts) ≡ parts
inner-Tuple parts = ap inner (sym (v.rolls-Tuple parts)) ∙ ap parts_of_layer (out-roll-AsmTerm (o.Tuple parts))

pub inner-Map : (pairs : List (AsmTerm × AsmTerm)) → inner (v.Map pairs) ≡ flat pairs
inner-Map pairs = ap inner (sym (v.rolls-Map pairs)) ∙ ap parts_of_layer (out-roll-AsmTerm (o.Map pairs))

pub inner-ExtFun : (owner name : List ℕ) (arity : ℕ) → inner (v.ExtFun owner name arity) ≡ []
inner-ExtFun owner name arity = ap inner (sym (v.rolls-ExtFun owner name arity)) ∙ ap parts_of_layer (out-roll-AsmTerm (o.ExtFun owner name arity))

pub inner-Pid : (node number : ℕ) → inner (v.Pid node number) ≡ []
inner-Pid node number = ap inner (sym (v.rolls-Pid node number)) ∙ ap parts_of_layer (out-roll-AsmTerm (o.Pid node number))

pub inner-Ref : (node number : ℕ) → inner (v.Ref node number) ≡ []
inner-Ref node number = ap inner (sym (v.rolls-Ref node number)) ∙ ap parts_of_layer (out-roll-AsmTerm (o.Ref node number))

pub inner-Opaque : (text : List ℕ) → inner (v.Opaque text) ≡ []
inner-Opaque text = ap inner (sym (v.rolls-Opaque text)) ∙ ap parts_of_layer (out-roll-AsmTerm (o.Opaque text))

pub ruleset inner_cases = (inner-Int, inner-Atom, inner-Str, inner-proper, inner-improper, inner-Tuple, inner-Map, inner-ExtFun, inner-Pid, inner-Ref, inner-Opaque)

-- What each kind of term stands for.

abbrev made : AsmTerm-F AsmTerm → List Term → Option Term
made layer parts = made_of_layer layer parts

pub made-Int : (n : ℤ) (ts : List Term) → made_of (v.Int n) ts ≡ Some (Int n)
made-Int n ts = ap (λ t. made_of t ts) (sym (v.rolls-Int n)) ∙ ap (λ d. made d ts) (out-roll-AsmTerm (o.Int n))

pub made-Atom : (name : List ℕ) (ts : List Term) → made_of (v.Atom name) ts ≡ Some (Atom name)
made-Atom name ts = ap (λ t. made_of t ts) (sym (v.rolls-Atom name)) ∙ ap (λ d. made d ts) (out-roll-AsmTerm (o.Atom name))

pub made-Str : (characters : List ℕ) (ts : List Term) → made_of (v.Str characters) ts ≡ Some (string characters)
made-Str characters ts = ap (λ t. made_of t ts) (sym (v.rolls-Str characters)) ∙ ap (λ d. made d ts) (out-roll-AsmTerm (o.Str characters))

pub made-proper : (parts : List AsmTerm) (ts : List Term) → made_of (v.List parts std.None) ts ≡ Some (list_onto ts Nil)
made-proper parts ts = ap (λ t. made_of t ts) (sym (v.rolls-List parts std.None)) ∙ ap (λ d. made d ts) (out-roll-AsmTerm (o.List parts std.None))

pub made-improper : (parts : List AsmTerm) (tail : AsmTerm) (ts : List Term) → made_of (v.List parts (Some tail)) ts ≡ improper ts
made-improper parts tail ts = ap (λ t. made_of t ts) (sym (v.rolls-List parts (Some tail))) ∙ ap (λ d. made d ts) (out-roll-AsmTerm (o.List parts (Some tail)))

pub made-Tuple : (parts : List AsmTerm) (ts : List Term) → made_of (v.Tuple parts) ts ≡ Some (tuple ts)
made-Tuple parts ts = ap (λ t. made_of t ts) (sym (v.rolls-Tuple parts)) ∙ ap (λ d. made d ts) (out-roll-AsmTerm (o.Tuple parts))

pub made-Map : (pairs : List (AsmTerm × AsmTerm)) (ts : List Term) → made_of (v.Map pairs) ts ≡ Some (Map (put_each Empty (paired ts)))
made-Map pairs ts = ap (λ t. made_of t ts) (sym (v.rolls-Map pairs)) ∙ ap (λ d. made d ts) (out-roll-AsmTerm (o.Map pairs))

pub made-ExtFun : (owner name : List ℕ) (arity : ℕ) (ts : List Term) → made_of (v.ExtFun owner name arity) ts ≡ Some (Fun false owner name arity None)
made-ExtFun owner name arity ts = ap (λ t. made_of t ts) (sym (v.rolls-ExtFun owner name arity)) ∙ ap (λ d. made d ts) (out-roll-AsmTerm (o.ExtFun owner name arity))

pub made-Pid : (node number : ℕ) (ts : List Term) → made_of (v.Pid node number) ts ≡ Some (Pid node number)
made-Pid node number ts = ap (λ t. made_of t ts) (sym (v.rolls-Pid node number)) ∙ ap (λ d. made d ts) (out-roll-AsmTerm (o.Pid node number))

pub made-Ref : (node number : ℕ) (ts : List Term) → made_of (v.Ref node number) ts ≡ Some (Reference node number)
made-Ref node number ts = ap (λ t. made_of t ts) (sym (v.rolls-Ref node number)) ∙ ap (λ d. made d ts) (out-roll-AsmTerm (o.Ref node number))

pub made-Opaque : (text : List ℕ) (ts : List Term) → made_of (v.Opaque text) ts ≡ std.None
made-Opaque text ts = ap (λ t. made_of t ts) (sym (v.rolls-Opaque text)) ∙ ap (λ d. made d ts) (out-roll-AsmTerm (o.Opaque text))

pub ruleset made_cases = (made-Int, made-Atom, made-Str, made-proper, made-improper, made-Tuple, made-Map, made-ExtFun, made-Pid, made-Ref, made-Opaque)

-- A term's value is made of those of its parts.

chain-map : {A B : Type 0} (f : A → B) (o : Option A) → option_map f o ≡ option_and_then (λ a. Some (f a)) o
chain-map f std.None = refl
chain-map f (Some a) = refl

tail-first : (tail : Option Term) (os : Option (List Term)) (all : Option Term → Option (List Term)) → all std.None ≡ std.None → ((t : Term) → all (Some t) ≡ option_map (◌∷◌ t) os)
    → option_and_then (λ es. option_map (list_onto es) tail) os ≡ option_and_then improper (all tail)
tail-first std.None std.None all none some = sym (ap (option_and_then improper) none)
tail-first std.None (Some es) all none some = sym (ap (option_and_then improper) none)
tail-first (Some t) std.None all none some = sym (ap (option_and_then improper) (some t))
tail-first (Some t) (Some es) all none some = sym (ap (option_and_then improper) (some t))

two : (k w : Option Term) (es : List (Option (Term × Term))) (os : List (Option Term)) → every es ≡ option_map paired (every os) → every (option_zip k w ∷ es) ≡ option_map paired (every (k ∷ w ∷ os))
two std.None w es os e = refl
two (Some k) std.None es os e = refl
two (Some k) (Some w) es os e = ap (option_map (◌∷◌ (k, w))) e ∙ join (every os)
  where
    join : (o : Option (List Term)) → option_map (◌∷◌ (k, w)) (option_map paired o) ≡ option_map paired (option_map (◌∷◌ k) (option_map (◌∷◌ w) o))
    join std.None = refl
    join (Some ts) = refl

abbrev both_values : AsmTerm × AsmTerm → Option Term × Option Term
both_values pair = (value pair.0, value pair.1)

every-flat : (pairs : List (AsmTerm × AsmTerm)) → every (map (λ (e : Option Term × Option Term). option_zip e.0 e.1) (map both_values pairs)) ≡ option_map paired (every (map value (flat pairs)))
every-flat [] = refl
every-flat (p ∷ ps) = two (value p.0) (value p.1) (map (λ (e : Option Term × Option Term). option_zip e.0 e.1) (map both_values ps)) (map value (flat ps)) (every-flat ps)

map-map : {A B C : Type 0} (f : A → B) (g : B → C) (o : Option A) → option_map g (option_map f o) ≡ option_and_then (λ a. Some (g (f a))) o
map-map f g std.None = refl
map-map f g (Some a) = refl

value-open : (d : AsmTerm-F AsmTerm) → value_step (map-AsmTerm AsmTerm (Option Term) value d) ≡ option_and_then (made_of_layer d) (every (map value (parts_of_layer d)))
value-open (o.Int n) = refl
value-open (o.Atom name) = refl
value-open (o.Str characters) = refl
value-open (o.List parts std.None) = refl
value-open (o.List parts (Some tail)) = tail-first (value tail) (every (map value parts)) (λ t. every (t ∷ map value parts)) refl (λ t. refl)
value-open (o.Tuple parts) = chain-map tuple (every (map value parts))
value-open (o.Map pairs) = ap (option_map (λ es. Map (put_each Empty es))) (every-flat pairs) ∙ map-map paired (λ es. Map (put_each Empty es)) (every (map value (flat pairs)))
value-open (o.ExtFun owner name arity) = refl
value-open (o.Pid node number) = refl
value-open (o.Ref node number) = refl
value-open (o.Opaque text) = refl

pub value-parts : (t : AsmTerm) → value t ≡ option_and_then (made_of t) (every (map value (inner t)))
value-parts t = fold_out-AsmTerm (Option Term) value_step t ∙ value-open (out-AsmTerm t)

-- How many terms are in a term.

map-flat : {A B : Type 0} (f : A → B) (ps : List (A × A)) → flat (map (λ (p : A × A). (f p.0, f p.1)) ps) ≡ map f (flat ps)
map-flat f [] = refl
map-flat f (p ∷ ps) = ap (λ zs. f p.0 ∷ f p.1 ∷ zs) (map-flat f ps)

count-open : (d : AsmTerm-F AsmTerm) → parts_of_layer (map-AsmTerm AsmTerm ℕ count d) ≡ map count (parts_of_layer d)
count-open (o.Int n) = refl
count-open (o.Atom name) = refl
count-open (o.Str characters) = refl
count-open (o.List parts std.None) = refl
count-open (o.List parts (Some tail)) = refl
count-open (o.Tuple parts) = refl
count-open (o.Map pairs) = map-flat count pairs
count-open (o.ExtFun owner name arity) = refl
count-open (o.Pid node number) = refl
count-open (o.Ref node number) = refl
count-open (o.Opaque text) = refl

pub count-parts : (t : AsmTerm) → count t ≡ 1 + total (map count (inner t))
count-parts t = fold_out-AsmTerm ℕ count_step t ∙ ap (λ ns. 1 + total ns) (count-open (out-AsmTerm t))

-- In which parts an opaque token is.

turned : (a b : Bool) → (a || b) ≡ (b || a)
turned true true = refl
turned true false = refl
turned false true = refl
turned false false = refl

in-neither : (a b c : Bool) → ((a || b) || c) ≡ (a || (b || c))
in-neither true b c = refl
in-neither false b c = refl

any-flat : (pairs : List (AsmTerm × AsmTerm)) → list_any pair_opaque pairs ≡ list_any has_opaque (flat pairs)
any-flat [] = refl
any-flat (p ∷ ps) = ap (λ b. (has_opaque p.0 || has_opaque p.1) || b) (any-flat ps) ∙ in-neither (has_opaque p.0) (has_opaque p.1) (list_any has_opaque (flat ps))

pub opaque-proper : (parts : List AsmTerm) → has_opaque (v.List parts std.None) ≡ list_any has_opaque parts
opaque-proper parts = opaque-List parts std.None ∙ turned (list_any has_opaque parts) false

pub opaque-improper : (parts : List AsmTerm) (tail : AsmTerm) → has_opaque (v.List parts (Some tail)) ≡ list_any has_opaque (tail ∷ parts)
opaque-improper parts tail = opaque-List parts (Some tail) ∙ turned (list_any has_opaque parts) (has_opaque tail)

pub opaque-pairs : (pairs : List (AsmTerm × AsmTerm)) → has_opaque (v.Map pairs) ≡ list_any has_opaque (flat pairs)
opaque-pairs pairs = opaque-Map pairs ∙ any-flat pairs

pub ruleset opaque_parts = (opaque-Int, opaque-Atom, opaque-Str, opaque-proper, opaque-improper, opaque-Tuple, opaque-pairs, opaque-ExtFun, opaque-Pid, opaque-Ref, opaque-Opaque)
