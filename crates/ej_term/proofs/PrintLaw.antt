-- A source term that stands for a term prints as that.
use Rattle.std.proofs.Common.{◌≡◌, ℕ, false, List, [], ◌∷◌, ◌++◌, map, codes, Option, Some, option_map, option_and_then, refl, sym, ap, ap₂, ◌∙◌, subst, append-nil, Ordering, Less, Equal, Greater}
use Rattle.std.specs.Prelude as std
use Rattle.std.specs.Option.{option_zip}
use Rattle.std.specs.Fmt.{decimal, signed_decimal}
use Rattle.std.specs.Ordering.{match_ordering}
use Rattle.ej_term.specs.declared.asm_term.AsmTerm.{AsmTerm, fold-roll-AsmTerm}
use Rattle.ej_term.specs.declared.asm_term.AsmTerm.TheFolds.{ind-AsmTerm, map-AsmTerm}
use Rattle.ej_term.specs.declared.asm_term.AsmTerm.TheViews.{roll-AsmTerm}
use Rattle.ej_term.specs.declared.asm_term.AsmTerm.TheOpen as o
use Rattle.ej_term.specs.declared.asm_term.AsmTerm.TheOpen.{AsmTerm-F}
use Rattle.ej_term.specs.Term.{Term, Int, Atom, Reference, Fun, Pid, Map, Nil, None, Pairs, Empty, Pair, tuple, terms}
use Rattle.ej_term.specs.Order.{compare}
use Rattle.ej_term.specs.Digits.{string}
use Rattle.ej_term.specs.Lists.{list_onto}
use Rattle.ej_term.specs.Maps.{put, put_each}
use Rattle.ej_term.specs.TermPrint as term
use Rattle.ej_term.specs.AsmValue.{every, value_step, value}
use Rattle.std.specs.Bool.{⊤}
use Rattle.std.proofs.lemmas.Option.{none-some}
use Rattle.ej_term.proofs.PrintLemmas.{printed-roll}
use Rattle.ej_term.proofs.Options.{unsome, fused, mapped, chained, zipped, first-every}
use Rattle.ej_term.specs.Print.{with_commas, Printed, alone, nil, elements_onto, Part, text, compare_keys, Entry, put_entry, put_entries, entry_text, print_step, printed, PrintsItsValue}

-- p is what v prints as
pub record Shows (p : Printed) (v : Term) : Type 0 where
  pub whole : p.whole ≡ term.print v
  pub as_tail : p.as_tail ≡ term.print_tail v

abbrev part_of : AsmTerm → Part
part_of t = (t, printed t)

-- the claim of a term, and of one layer
abbrev Claim : AsmTerm → Type 0
Claim t = (v : Term) → value t ≡ Some v → Shows (printed t) v

abbrev Such : Type 0
Such = (t : AsmTerm) × Claim t

abbrev LayerClaim : AsmTerm-F AsmTerm → Type 0
LayerClaim d = (v : Term) → value_step (map-AsmTerm AsmTerm (Option Term) value d) ≡ Some v → Shows (print_step (map-AsmTerm AsmTerm Part part_of d)) v

rolled : (d : AsmTerm-F AsmTerm) → LayerClaim d → Claim (roll-AsmTerm d)
rolled d claim v e =
    subst (λ p. Shows p v) (sym (printed-roll d)) (claim v (sym (fold-roll-AsmTerm (Option Term) value_step d) ∙ e))

-- the parts' terms and texts
abbrev values_of : List Such → List (Option Term)
values_of parts = map (λ s. value s.0) parts

abbrev texts_of : List Such → List (List ℕ)
texts_of parts = map (λ s. (printed s.0).whole) parts

same_texts : (parts : List Such) (ts : List Term) → every (values_of parts) ≡ Some ts → texts_of parts ≡ map term.print ts
same_texts [] ts e = ap (map term.print) (unsome [] ts e)
same_texts (s ∷ parts) ts e =
    let f = first-every (value s.0) (values_of parts) ts e in
    ap₂ ◌∷◌ (s.1 f.0 f.2).whole (same_texts parts f.1 f.3) ∙ ap (map term.print) f.4

commas-rest : (t : Term) (ts : List Term) → with_commas (term.print t ∷ map term.print ts) ≡ term.print t ++ term.print_rest (terms ts)
commas-rest t [] = sym (append-nil (term.print t))
commas-rest t (u ∷ ts) = ap (λ rest. term.print t ++ (44 ∷ rest)) (commas-rest u ts)

commas : (ts : List Term) → with_commas (map term.print ts) ≡ term.print_parts (terms ts)
commas [] = refl
commas (t ∷ ts) = commas-rest t ts

onto : (ts : List Term) (p : Printed) (v : Term) → Shows p v → Shows (elements_onto (map term.print ts) p) (list_onto ts v)
onto [] p v shows = shows
onto (t ∷ ts) p v shows =
    let rest = onto ts p v shows in
    record {
      whole = ap (λ x. codes "[" ++ term.print t ++ x ++ codes "]") rest.as_tail;
      as_tail = ap (λ x. codes "," ++ term.print t ++ x) rest.as_tail;
    }

nil-shows : Shows nil Nil
nil-shows = record { whole = refl; as_tail = refl }

string-shows : (cs : List ℕ) → Shows (elements_onto (map decimal cs) nil) (string cs)
string-shows [] = nil-shows
string-shows (c ∷ cs) =
    let rest = string-shows cs in
    record {
      whole = ap (λ x. codes "[" ++ decimal c ++ x ++ codes "]") rest.as_tail;
      as_tail = ap (λ x. codes "," ++ decimal c ++ x) rest.as_tail;
    }

-- these parts in front of a tail
list-shows : (parts : List Such) (p : Printed) (tail : Option Term) (v : Term)
    → ((u : Term) → tail ≡ Some u → Shows p u)
    → option_and_then (λ elements. option_map (list_onto elements) tail) (every (values_of parts)) ≡ Some v
    → Shows (elements_onto (texts_of parts) p) v
list-shows parts p tail v shows e =
    let c = chained (λ elements. option_map (list_onto elements) tail) (every (values_of parts)) v e in
    let m = mapped (list_onto c.0) tail v c.2 in
    let here = onto c.0 p m.0 (shows m.0 m.1) in
    subst (λ texts. Shows (elements_onto texts p) v) (sym (same_texts parts c.0 c.1)) (subst (λ u. Shows (elements_onto (map term.print c.0) p) u) m.2 here)

-- an entry is that of a key and a value
record IsEntry (entry : Entry) (k v : Term) : Type 0 where
  key : value entry.0.0 ≡ Some k
  key_text : text entry.0 ≡ term.print k
  held_text : text entry.1 ≡ term.print v

-- entries are those of a map's pairs
abbrev AreEntries : List Entry → Pairs → Type 0
AreEntries [] Empty = ⊤
AreEntries [] (Pair key held pairs) = ⊥
AreEntries (entry ∷ entries) Empty = ⊥
AreEntries (entry ∷ entries) (Pair key held pairs) = IsEntry entry key held × AreEntries entries pairs

same-order : (a b : Entry) (k l v w : Term) → IsEntry a k v → IsEntry b l w → compare_keys a.0 b.0 ≡ compare k l
same-order a b k l v w x y = rw (x.key, y.key)

put-by : (o : Ordering) (a b : Entry) (es : List Entry) (k v l w : Term) (ps : Pairs) → IsEntry a k v → IsEntry b l w → AreEntries es ps → AreEntries (put_entry a es) (put k v ps)
    → AreEntries (match_ordering o (a ∷ b ∷ es) (a ∷ es) (b ∷ put_entry a es)) (match_ordering o (Pair k v (Pair l w ps)) (Pair k v ps) (Pair l w (put k v ps)))
put-by Less a b es k v l w ps x y z more = (x, (y, z))
put-by Equal a b es k v l w ps x y z more = (x, z)
put-by Greater a b es k v l w ps x y z more = (y, more)

put-one : (a : Entry) (es : List Entry) (k v : Term) (ps : Pairs) → IsEntry a k v → AreEntries es ps → AreEntries (put_entry a es) (put k v ps)
put-one a [] k v Empty x z = (x, tt)
put-one a [] k v (Pair l w ps) x z = absurd z
put-one a (b ∷ es) k v Empty x z = absurd z
put-one a (b ∷ es) k v (Pair l w ps) x z =
    subst (λ o. AreEntries (match_ordering o (a ∷ b ∷ es) (a ∷ es) (b ∷ put_entry a es)) (put k v (Pair l w ps))) (sym (same-order a b k l v w x z.0))
    (put-by (compare k l) a b es k v l w ps x z.0 z.1 (put-one a es k v ps x z.1))

abbrev entry_of : Such × Such → Entry
entry_of pair = (part_of pair.0.0, part_of pair.1.0)

abbrev value_of : Such × Such → Option (Term × Term)
value_of pair = option_zip (value pair.0.0) (value pair.1.0)

put-all : (pairs : List (Such × Such)) (ts : List (Term × Term)) (es : List Entry) (ps : Pairs) → every (map value_of pairs) ≡ Some ts → AreEntries es ps
    → AreEntries (put_entries es (map entry_of pairs)) (put_each ps ts)
put-all [] ts es ps e z = subst (λ x. AreEntries es (put_each ps x)) (unsome [] ts e) z
put-all (pair ∷ pairs) ts es ps e z =
    let f = first-every (value_of pair) (map value_of pairs) ts e in
    let both = zipped (value pair.0.0) (value pair.1.0) f.0 f.2 in
    let entry : IsEntry (entry_of pair) f.0.0 f.0.1 = record {
      key = both.0;
      key_text = (pair.0.1 f.0.0 both.0).whole;
      held_text = (pair.1.1 f.0.1 both.1).whole;
    } in
    subst (λ x. AreEntries (put_entries es (map entry_of (pair ∷ pairs))) (put_each ps x)) f.4
    (put-all pairs f.1 (put_entry (entry_of pair) es) (put f.0.0 f.0.1 ps) f.3 (put-one (entry_of pair) es f.0.0 f.0.1 ps entry z))

entry-shows : (a : Entry) (k v : Term) → IsEntry a k v → entry_text a ≡ term.print k ++ codes "=>" ++ term.print v
entry-shows a k v x = ap₂ (λ s t. s ++ codes "=>" ++ t) x.key_text x.held_text

more-entries : (a : Entry) (es : List Entry) (k v : Term) (ps : Pairs) → IsEntry a k v → AreEntries es ps
    → with_commas (entry_text a ∷ map entry_text es) ≡ term.print_pairs (Pair k v ps)
more-entries a [] k v Empty x z = entry-shows a k v x ∙ sym (append-nil _)
more-entries a [] k v (Pair l w ps) x z = absurd z
more-entries a (b ∷ es) k v Empty x z = absurd z
more-entries a (b ∷ es) k v (Pair l w ps) x z = ap₂ (λ s t. s ++ (44 ∷ t)) (entry-shows a k v x) (more-entries b es l w ps z.0 z.1)

entries-show : (es : List Entry) (ps : Pairs) → AreEntries es ps → with_commas (map entry_text es) ≡ term.print_pairs ps
entries-show [] Empty z = refl
entries-show [] (Pair k v ps) z = absurd z
entries-show (a ∷ es) Empty z = absurd z
entries-show (a ∷ es) (Pair k v ps) z = more-entries a es k v ps z.0 z.1

itself : (p : Printed) (u v : Term) → Some u ≡ Some v → Shows p u → Shows p v
itself p u v e shows = subst (Shows p) (unsome u v e) shows

-- what a layer holds, without the claims
part-texts : (parts : List Such) → map text (map part_of (map (λ s. s.0) parts)) ≡ texts_of parts
part-texts parts = ap (map text) (fused (λ (s : Such). s.0) part_of (λ s. part_of s.0) (λ s. refl) parts) ∙ fused (λ (s : Such). part_of s.0) text (λ s. (printed s.0).whole) (λ s. refl) parts

part-values : (parts : List Such) → values_of parts ≡ map value (map (λ s. s.0) parts)
part-values parts = sym (fused (λ (s : Such). s.0) value (λ s. value s.0) (λ s. refl) parts)

pair-entries : (pairs : List (Such × Such)) → map entry_of pairs ≡ map (λ (p : AsmTerm × AsmTerm). (part_of p.0, part_of p.1)) (map (λ (p : Such × Such). (p.0.0, p.1.0)) pairs)
pair-entries pairs = sym (fused _ _ entry_of (λ p. refl) pairs)

pair-values : (pairs : List (Such × Such)) → map value_of pairs ≡ map (λ (e : Option Term × Option Term). option_zip e.0 e.1) (map (λ (p : AsmTerm × AsmTerm). (value p.0, value p.1)) (map (λ (p : Such × Such). (p.0.0, p.1.0)) pairs))
pair-values pairs =
    sym (ap (map (λ (e : Option Term × Option Term). option_zip e.0 e.1)) (fused (λ (p : Such × Such). (p.0.0, p.1.0)) (λ (p : AsmTerm × AsmTerm). (value p.0, value p.1)) (λ p. (value p.0.0, value p.1.0)) (λ p. refl) pairs)
    ∙ fused (λ (p : Such × Such). (value p.0.0, value p.1.0)) (λ (e : Option Term × Option Term). option_zip e.0 e.1) value_of (λ p. refl) pairs)

list-layer : (parts : List Such) (p : Printed) (tail : Option Term) (v : Term)
    → ((u : Term) → tail ≡ Some u → Shows p u)
    → option_and_then (λ elements. option_map (list_onto elements) tail) (every (map value (map (λ s. s.0) parts))) ≡ Some v
    → Shows (elements_onto (map text (map part_of (map (λ s. s.0) parts))) p) v
list-layer parts p tail v shows e =
    subst (λ texts. Shows (elements_onto texts p) v) (sym (part-texts parts))
    (list-shows parts p tail v shows (ap (λ os. option_and_then (λ elements. option_map (list_onto elements) tail) (every os)) (part-values parts) ∙ e))

tuple-layer : (parts : List Such) (v : Term) → option_map tuple (every (map value (map (λ s. s.0) parts))) ≡ Some v
    → Shows (alone (codes "{" ++ with_commas (map text (map part_of (map (λ s. s.0) parts))) ++ codes "}")) v
tuple-layer parts v e =
    let m = mapped tuple (every (values_of parts)) v (ap (λ os. option_map tuple (every os)) (part-values parts) ∙ e) in
    let inner = ap with_commas (part-texts parts ∙ same_texts parts m.0 m.1) ∙ commas m.0 in
    subst (λ x. Shows (alone (codes "{" ++ x ++ codes "}")) v) (sym inner) (subst (Shows (alone (codes "{" ++ term.print_parts (terms m.0) ++ codes "}"))) m.2 record { whole = refl; as_tail = refl })

abbrev map_of : List (Term × Term) → Term
map_of entries = Map (put_each Empty entries)

map-layer : (pairs : List (Such × Such)) (v : Term)
    → option_map map_of (every (map (λ (e : Option Term × Option Term). option_zip e.0 e.1) (map (λ (p : AsmTerm × AsmTerm). (value p.0, value p.1)) (map (λ (p : Such × Such). (p.0.0, p.1.0)) pairs)))) ≡ Some v
    → Shows (alone (codes "#{" ++ with_commas (map entry_text (put_entries [] (map (λ (p : AsmTerm × AsmTerm). (part_of p.0, part_of p.1)) (map (λ (p : Such × Such). (p.0.0, p.1.0)) pairs)))) ++ codes "}")) v
map-layer pairs v e =
    let m = mapped map_of (every (map value_of pairs)) v (ap (λ os. option_map map_of (every os)) (pair-values pairs) ∙ e) in
    let inner =
    ap (λ es. with_commas (map entry_text (put_entries [] es))) (sym (pair-entries pairs))
    ∙ entries-show (put_entries [] (map entry_of pairs)) (put_each Empty m.0) (put-all pairs m.0 [] Empty m.1 tt) in
    subst (λ x. Shows (alone (codes "#{" ++ x ++ codes "}")) v) (sym inner) (subst (Shows (alone (codes "#{" ++ term.print_pairs (put_each Empty m.0) ++ codes "}"))) m.2 record { whole = refl; as_tail = refl })

layer : (y : AsmTerm-F Such) → LayerClaim (map-AsmTerm Such AsmTerm (λ s. s.0) y)
layer (o.Int n) v e = itself (alone (signed_decimal n)) (Int n) v e record { whole = refl; as_tail = refl }
layer (o.Atom name) v e = itself (alone (term.print_atom name)) (Atom name) v e record { whole = refl; as_tail = refl }
layer (o.Str characters) v e = itself (elements_onto (map decimal characters) nil) (string characters) v e (string-shows characters)
layer (o.List parts std.None) v e = list-layer parts nil (Some Nil) v (λ u q. itself nil Nil u q nil-shows) e
layer (o.List parts (Some tail)) v e = list-layer parts (printed tail.0) (value tail.0) v tail.1 e
layer (o.Tuple parts) v e = tuple-layer parts v e
layer (o.Map pairs) v e = map-layer pairs v e
layer (o.ExtFun owner name arity) v e = itself (alone (term.print_function owner name arity)) (Fun false owner name arity None) v e record { whole = refl; as_tail = refl }
layer (o.Pid node number) v e = itself (alone (codes "#Pid" ++ term.print_numbers node number)) (Pid node number) v e record { whole = refl; as_tail = refl }
layer (o.Ref node number) v e = itself (alone (codes "#Ref" ++ term.print_numbers node number)) (Reference node number) v e record { whole = refl; as_tail = refl }
layer (o.Opaque spelling) v e = absurd (none-some v e)

all : (t : AsmTerm) → Claim t
all = ind-AsmTerm Claim (λ x y is. subst (λ z. Claim (roll-AsmTerm z)) is (rolled _ (layer y)))

pub law : PrintsItsValue
law t v e = (all t v e).whole
