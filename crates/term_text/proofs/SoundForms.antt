-- A form whose tokens are in range stands for a readable term of the profile, but for how deep it is.
use Rattle.std.proofs.Common.{◌≡◌, ℕ, ◌^◌, ◌-◌, true, false, nat_lt, nat_le, pos, List, [], ◌∷◌, map, Option, Some, option_map, option_and_then, inl, inr, refl, sym, ap, ◌∙◌, subst, arith}
use Rattle.std.specs.Prelude as std
use Rattle.std.specs.Bool.{⊤}
use Rattle.std.specs.Ordering.{match_ordering}
use Rattle.std.specs.declared.cmp.Ordering.{Ordering}
use Rattle.std.specs.declared.cmp.Ordering.TheVariants.{Less, Equal, Greater}
use Rattle.std.specs.Str.{all_scalars}
use Rattle.std.proofs.lemmas.Bool.{and_parts, leb-true, le-leb, lt-ltb}
use Rattle.std.proofs.lemmas.Option.{none-some}
use Rattle.std.proofs.Math.Utf8.{scalar, scalar_cases}
use Rattle.ej_term.specs.Term.{Term, Int, Atom, Reference, Fun, Pid, Map, Nil, None, Pairs, Empty, Pair, terms, tuple, has_64_bits}
use Rattle.ej_term.specs.declared.asm_term.AsmTerm.{AsmTerm, out-AsmTerm, fold_out-AsmTerm}
use Rattle.ej_term.specs.declared.asm_term.AsmTerm.TheFolds.{map-AsmTerm}
use Rattle.ej_term.specs.declared.asm_term.AsmTerm.TheOpen as layer
use Rattle.ej_term.specs.declared.asm_term.AsmTerm.TheOpen.{AsmTerm-F}
use Rattle.ej_term.specs.declared.asm_term.AsmTerm.TheVariants as source
use Rattle.ej_term.specs.Order.{compare}
use Rattle.ej_term.specs.Digits.{string as string_of}
use Rattle.ej_term.specs.Lists.{list_onto}
use Rattle.ej_term.specs.Maps.{put, put_each, rises}
use Rattle.ej_term.specs.AsmValue.{every, ending, value_step, value}
use Rattle.ej_term.proofs.MapLaws.{laws}
use Rattle.ej_term.proofs.Options.{unsome, mapped, chained, zipped, first-every}
use Rattle.ej_term.proofs.ValueLemmas.{value-Int, value-Atom, value-Str, value-List, value-Tuple, value_pair, value-Map, value-ExtFun, value-Pid, value-Ref, value-Opaque}
use Rattle.asm_terms.specs.declared.token.Token.{Token}
use Rattle.asm_terms.specs.Grammar.{characters_as_terms, continued_by, continued, IsTerm, int, atom, string, «opaque», pid, reference, external, empty_tuple, filled_tuple, empty_list, filled_list, empty_map, filled_map, AreMoreParts, no_part, part, AreMoreElements, no_element, element, bar, AreMorePairs, no_pair, pair}
use Rattle.term_text.proofs.GoodTokens.{AllGood, AreScalars}
use Rattle.term_text.proofs.Sound.{Sound, AllSound, AllPairsSound}

-- what a source's term stands for is sound
abbrev pub Holds : AsmTerm → Type 0
Holds t = (v : Term) → value t ≡ Some v → Sound v

stands : (t : AsmTerm) (v : Term) → value t ≡ Some v → Sound v → Holds t
stands t v e s w f = subst Sound (unsome v w (sym e ∙ f)) s

abbrev EachSound : List Term → Type 0
EachSound [] = ⊤
EachSound (t ∷ ts) = Sound t × EachSound ts

abbrev EachPairSound : List (Term × Term) → Type 0
EachPairSound [] = ⊤
EachPairSound (p ∷ ps) = (Sound p.0 × Sound p.1) × EachPairSound ps

abbrev EachHolds : List AsmTerm → Type 0
EachHolds ts = (vs : List Term) → every (map value ts) ≡ Some vs → EachSound vs

abbrev EachPairHolds : List (AsmTerm × AsmTerm) → Type 0
EachPairHolds ps = (vs : List (Term × Term)) → every (map value_pair ps) ≡ Some vs → EachPairSound vs

-- elements and what a list ends in
abbrev ListHolds : List AsmTerm → Option AsmTerm → Type 0
ListHolds ts tail = (vs : List Term) (end : Term) → every (map value ts) ≡ Some vs → ending (option_map value tail) ≡ Some end → EachSound vs × Sound end

-- ---- parts

terms-sound : (ts : List Term) → EachSound ts → AllSound (terms ts)
terms-sound [] s = tt
terms-sound (t ∷ ts) s = (s.0, terms-sound ts s.1)

onto-sound : (ts : List Term) (end : Term) → EachSound ts → Sound end → Sound (list_onto ts end)
onto-sound [] end s e = e
onto-sound (t ∷ ts) end s e = (s.0, onto-sound ts end s.1 e)

sound-onto : (ts : List Term) (end : Term) → Sound (list_onto ts end) → EachSound ts × Sound end
sound-onto [] end s = (tt, s)
sound-onto (t ∷ ts) end s = let later = sound-onto ts end s.1 in ((s.0, later.0), later.1)

none-hold : EachHolds []
none-hold vs e = subst EachSound (unsome [] vs e) tt

more-hold : (t : AsmTerm) (ts : List AsmTerm) → Holds t → EachHolds ts → EachHolds (t ∷ ts)
more-hold t ts h hs vs e =
    let f = first-every (value t) (map value ts) vs e in
    subst EachSound f.4 (h f.0 f.2, hs f.1 f.3)

no-pair-holds : EachPairHolds []
no-pair-holds vs e = subst EachPairSound (unsome [] vs e) tt

more-pairs-hold : (key held : AsmTerm) (ps : List (AsmTerm × AsmTerm)) → Holds key → Holds held → EachPairHolds ps → EachPairHolds ((key, held) ∷ ps)
more-pairs-hold key held ps k h hs vs e =
    let f = first-every (value_pair (key, held)) (map value_pair ps) vs e in
    let z = zipped (value key) (value held) f.0 f.2 in
    subst EachPairSound f.4 ((k f.0.0 z.0, h f.0.1 z.1), hs f.1 f.3)

tuple-holds : (ts : List AsmTerm) → EachHolds ts → Holds (source.Tuple ts)
tuple-holds ts h v e =
    let m = mapped tuple (every (map value ts)) v (sym (value-Tuple ts) ∙ e) in
    subst Sound m.2 (terms-sound m.0 (h m.0 m.1))

list-holds : (ts : List AsmTerm) (tail : Option AsmTerm) → ListHolds ts tail → Holds (source.List ts tail)
list-holds ts tail h v e =
    let c = chained (λ elements. option_map (list_onto elements) (ending (option_map value tail))) (every (map value ts)) v (sym (value-List ts tail) ∙ e) in
    let m = mapped (list_onto c.0) (ending (option_map value tail)) v c.2 in
    let s = h c.0 m.0 c.1 m.1 in
    subst Sound m.2 (onto-sound c.0 m.0 s.0 s.1)

first-holds : (t : AsmTerm) (ts : List AsmTerm) (tail : Option AsmTerm) → Holds t → ListHolds ts tail → ListHolds (t ∷ ts) tail
first-holds t ts tail h hs vs end e f =
    let g = first-every (value t) (map value ts) vs e in
    let later = hs g.1 end g.3 f in
    (subst EachSound g.4 (h g.0 g.2, later.0), later.1)

no-tail-holds : ListHolds [] std.None
no-tail-holds vs end e f = (subst EachSound (unsome [] vs e) tt, subst Sound (unsome Nil end f) tt)

-- ---- maps

put-by : (o : Ordering) (k v l w : Term) (ps : Pairs) → Sound k → Sound v → AllPairsSound (Pair l w ps) → AllPairsSound (put k v ps)
    → AllPairsSound (match_ordering o (Pair k v (Pair l w ps)) (Pair k v ps) (Pair l w (put k v ps)))
put-by Less k v l w ps x y s later = (x, y, s)
put-by Equal k v l w ps x y s later = (x, y, s.2)
put-by Greater k v l w ps x y s later = (s.0, s.1, later)

put-sound : (k v : Term) (ps : Pairs) → Sound k → Sound v → AllPairsSound ps → AllPairsSound (put k v ps)
put-sound k v Empty x y s = (x, y, tt)
put-sound k v (Pair l w ps) x y s = put-by (compare k l) k v l w ps x y s (put-sound k v ps x y s.2)

put-each-sound : (ps : Pairs) (entries : List (Term × Term)) → AllPairsSound ps → EachPairSound entries → AllPairsSound (put_each ps entries)
put-each-sound ps [] s h = s
put-each-sound ps (entry ∷ entries) s h = put-each-sound (put entry.0 entry.1 ps) entries (put-sound entry.0 entry.1 ps h.0.0 h.0.1 s) h.1

put-each-rises : (ps : Pairs) (entries : List (Term × Term)) → rises ps ≡ true → rises (put_each ps entries) ≡ true
put-each-rises ps [] r = r
put-each-rises ps (entry ∷ entries) r = put-each-rises (put entry.0 entry.1 ps) entries (laws.put_rises entry.0 entry.1 ps r)

map-holds : (ps : List (AsmTerm × AsmTerm)) → EachPairHolds ps → Holds (source.Map ps)
map-holds ps h v e =
    let m = mapped (λ entries. Map (put_each Empty entries)) (every (map value_pair ps)) v (sym (value-Map ps) ∙ e) in
    subst Sound m.2 (put-each-rises Empty m.0 refl, put-each-sound Empty m.0 tt (h m.0 m.1))

-- ---- strings

character-fits : (c : ℕ) → scalar c ≡ true → has_64_bits (pos c) ≡ true
character-fits c s = elim (scalar_cases c s) [
  | inl low ↦ lt-ltb c (2 ^ 63) (omega arith)
  | inr high ↦ lt-ltb c (2 ^ 63) (omega (arith, high.1))
]

string-sound : (cs : List ℕ) → AreScalars cs → Sound (string_of cs)
string-sound [] s = tt
string-sound (c ∷ cs) s = let p = and_parts (scalar c) (all_scalars cs) s in (character-fits c p.0, string-sound cs p.1)

-- ---- what stands behind a bar

characters-values : (cs : List ℕ) → every (map value (characters_as_terms cs)) ≡ Some (map (λ c. Int (pos c)) cs)
characters-values [] = refl
characters-values (c ∷ cs) = ap (λ o. every (o ∷ map value (characters_as_terms cs))) (value-Int (pos c)) ∙ ap (option_map (◌∷◌ (Int (pos c)))) (characters-values cs)

each-character : (cs : List ℕ) → Sound (string_of cs) → EachSound (map (λ c. Int (pos c)) cs)
each-character [] s = tt
each-character (c ∷ cs) s = (s.0, each-character cs s.1)

-- a list's elements and its end, where the list's term is known
listed : (ts : List AsmTerm) (tail : Option (Option Term)) → ((v : Term) → option_and_then (λ elements. option_map (list_onto elements) (ending tail)) (every (map value ts)) ≡ Some v → Sound v)
    → (vs : List Term) (end : Term) → every (map value ts) ≡ Some vs → ending tail ≡ Some end → EachSound vs × Sound end
listed ts tail h vs end e f =
    sound-onto vs end
    (h (list_onto vs end) (ap (option_and_then (λ elements. option_map (list_onto elements) (ending tail))) e ∙ ap (option_map (list_onto vs)) f))

-- what is no list
alone-holds : (behind : AsmTerm) → Holds behind → ListHolds [] (Some behind)
alone-holds behind h vs end e f = (subst EachSound (unsome [] vs e) tt, h end f)

layer-holds : (behind : AsmTerm) (d : AsmTerm-F AsmTerm) → Holds behind → ((v : Term) → value_step (map-AsmTerm AsmTerm (Option Term) value d) ≡ Some v → Sound v)
    → ListHolds (continued_by behind d).0 (continued_by behind d).1
layer-holds behind (layer.List ts std.None) whole h = listed ts std.None h
layer-holds behind (layer.List ts (Some tail)) whole h = listed ts (Some (value tail)) h
layer-holds behind (layer.Str cs) whole h =
    λ vs end e f.
    (subst EachSound (unsome _ vs (sym (characters-values cs) ∙ e)) (each-character cs (h (string_of cs) refl)), subst Sound (unsome Nil end f) tt)
layer-holds behind (layer.Int n) whole h = alone-holds behind whole
layer-holds behind (layer.Atom name) whole h = alone-holds behind whole
layer-holds behind (layer.Tuple parts) whole h = alone-holds behind whole
layer-holds behind (layer.Map pairs) whole h = alone-holds behind whole
layer-holds behind (layer.ExtFun owner name arity) whole h = alone-holds behind whole
layer-holds behind (layer.Pid node number) whole h = alone-holds behind whole
layer-holds behind (layer.Ref node number) whole h = alone-holds behind whole
layer-holds behind (layer.Opaque spelled) whole h = alone-holds behind whole

continued-holds : (behind : AsmTerm) → Holds behind → ListHolds (continued behind).0 (continued behind).1
continued-holds behind h = layer-holds behind (out-AsmTerm behind) h (λ v e. h v (fold_out-AsmTerm (Option Term) value_step behind ∙ e))

-- ---- terms

node-fits : (n : ℕ) → nat_le n (2 ^ 32 - 1) ≡ true → nat_lt n (2 ^ 32) ≡ true
node-fits n h = let le = leb-true n (2 ^ 32 - 1) h in lt-ltb n (2 ^ 32) (omega (arith, le))

mutual
  term-sound : {ts : List Token} {t : AsmTerm} {rest : List Token} → IsTerm ts t rest → AllGood ts → Holds t × AllGood rest
  term-sound (int n rest) g = (stands (source.Int n) (Int n) (value-Int n) g.0, g.1)
  term-sound (atom name rest) g = (stands (source.Atom name) (Atom name) (value-Atom name) g.0, g.1)
  term-sound (string cs rest) g = (stands (source.Str cs) (string_of cs) (value-Str cs) (string-sound cs g.0), g.1)
  term-sound («opaque» cs rest) g = (λ v e. absurd (none-some v (sym (value-Opaque cs) ∙ e)), g.1)
  term-sound (pid n k rest) g = (stands (source.Pid n k) (Pid n k) (value-Pid n k) (node-fits n g.0.0, g.0.1), g.1)
  term-sound (reference n k rest) g = (stands (source.Ref n k) (Reference n k) (value-Ref n k) (node-fits n g.0.0, g.0.1), g.1)
  term-sound (external owner name arity rest h) g = (
    stands (source.ExtFun owner name arity) (Fun false owner name arity None) (value-ExtFun owner name arity) (record {
      external = refl;
      owner_scalars = g.1.0.0;
      name_scalars = g.1.1.1.0.0;
      owner_short = g.1.0.1;
      name_short = g.1.1.1.0.1;
      small = le-leb arity 255 h;
      no_environment = refl;
    }),
    g.1.1.1.1.1.1,
  )
  term-sound (empty_tuple rest) g = (tuple-holds [] none-hold, g.1.1)
  term-sound (filled_tuple ts first middle parts rest d ds) g =
      let one = term-sound d g.1 in
      let more = parts-sound ds one.1 in
      (tuple-holds (first ∷ parts) (more-hold first parts one.0 more.0), more.1)
  term-sound (empty_list rest) g = (list-holds [] std.None no-tail-holds, g.1.1)
  term-sound (filled_list ts first middle elements tail rest d ds) g =
      let one = term-sound d g.1 in
      let more = elements-sound ds one.1 in
      (list-holds (first ∷ elements) tail (first-holds first elements tail one.0 more.0), more.1)
  term-sound (empty_map rest) g = (map-holds [] no-pair-holds, g.1.1)
  term-sound (filled_map ts key behind held middle pairs rest d dv ds) g =
      let one = term-sound d g.1 in
      let two = term-sound dv one.1.1 in
      let more = pairs-sound ds two.1 in
      (map-holds ((key, held) ∷ pairs) (more-pairs-hold key held pairs one.0 two.0 more.0), more.1)

  parts-sound : {ts : List Token} {parts : List AsmTerm} {rest : List Token} → AreMoreParts ts parts rest → AllGood ts → EachHolds parts × AllGood rest
  parts-sound (no_part rest) g = (none-hold, g.1)
  parts-sound (part ts first middle parts rest d ds) g =
      let one = term-sound d g.1 in
      let more = parts-sound ds one.1 in
      (more-hold first parts one.0 more.0, more.1)

  elements-sound : {ts : List Token} {elements : List AsmTerm} {tail : Option AsmTerm} {rest : List Token} → AreMoreElements ts elements tail rest → AllGood ts → ListHolds elements tail × AllGood rest
  elements-sound (no_element rest) g = (no-tail-holds, g.1)
  elements-sound (element ts first middle elements tail rest d ds) g =
      let one = term-sound d g.1 in
      let more = elements-sound ds one.1 in
      (first-holds first elements tail one.0 more.0, more.1)
  elements-sound (bar ts behind rest d) g = let one = term-sound d g.1 in (continued-holds behind one.0, one.1.1)

  pairs-sound : {ts : List Token} {pairs : List (AsmTerm × AsmTerm)} {rest : List Token} → AreMorePairs ts pairs rest → AllGood ts → EachPairHolds pairs × AllGood rest
  pairs-sound (no_pair rest) g = (no-pair-holds, g.1)
  pairs-sound (pair ts key behind held middle pairs rest d dv ds) g =
      let one = term-sound d g.1 in
      let two = term-sound dv one.1.1 in
      let more = pairs-sound ds two.1 in
      (more-pairs-hold key held pairs one.0 two.0 more.0, more.1)

-- what tokens in range spell stands for a sound term
pub spelled-sound : (ts : List Token) (t : AsmTerm) (v : Term) → IsTerm ts t [] → AllGood ts → value t ≡ Some v → Sound v
spelled-sound ts t v d g e = let one = term-sound d g in one.0 v e
