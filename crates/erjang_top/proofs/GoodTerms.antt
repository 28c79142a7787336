-- The terms that a text's forms are made of have names and integers in range.
use Rattle.std.proofs.Common.{◌≡◌, ℕ, ℤ, Bool, true, false, nat_lt, nat_le, List, [], ◌∷◌, map, length, Option, Some, None, if◌then◌else◌, refl, sym, ap, ◌∙◌, arith}
use Rattle.std.specs.List.{list_all}
use Rattle.std.specs.Str.{all_scalars, chars, is_utf8}
use Rattle.std.proofs.lemmas.Bool.{and_parts, and_from, ltb-true}
use Rattle.std.proofs.lemmas.Str.{scalars-chars, IsUtf8-from_is_utf8}
use Rattle.std.proofs.Math.Utf8.{scalar, low_scalar}
use Rattle.ej_term.specs.declared.asm_term.AsmTerm.{AsmTerm, fold-roll-AsmTerm}
use Rattle.ej_term.specs.declared.asm_term.AsmTerm.TheOpen as o
use Rattle.ej_term.specs.declared.asm_term.AsmTerm.TheOpen.{AsmTerm-F}
use Rattle.ej_term.specs.declared.asm_term.AsmTerm.TheVariants as v
use Rattle.asm_terms.specs.Characters.{characters}
use Rattle.asm_terms.specs.Forms.{AreFormsOf, AreForms}
use Rattle.ej_term.specs.Term.{has_64_bits}
use Rattle.asm_terms.specs.declared.token.Token.{Token}
use Rattle.asm_terms.specs.Grammar.{IsTerm, int, atom, string, «opaque», pid, reference, external, empty_tuple, filled_tuple, empty_list, filled_list, empty_map, filled_map, AreMoreParts, no_part, part, AreMoreElements, no_element, element, bar, AreMorePairs, no_pair, pair}
use Rattle.asm_module.specs.Ranges.{is_atom_name, good_step, good, Good, EachGood}
use Rattle.term_text.proofs.GoodTokens.{AllGood, AreScalars, form-left}

-- ---- terms by their kinds

all-parts : (ts : List AsmTerm) → EachGood ts → list_all (λ part. part) (map good ts) ≡ true
all-parts [] h = refl
all-parts (t ∷ ts) h = and_from (good t) (list_all (λ part. part) (map good ts)) h.0 (all-parts ts h.1)

good-Int : (n : ℤ) → has_64_bits n ≡ true → Good (v.Int n)
good-Int n h = ap good (sym (v.rolls-Int n)) ∙ fold-roll-AsmTerm Bool good_step (o.Int n) ∙ h

good-Atom : (name : List ℕ) → is_atom_name name ≡ true → Good (v.Atom name)
good-Atom name h = ap good (sym (v.rolls-Atom name)) ∙ fold-roll-AsmTerm Bool good_step (o.Atom name) ∙ h

good-Tuple : (ts : List AsmTerm) → EachGood ts → Good (v.Tuple ts)
good-Tuple ts h = ap good (sym (v.rolls-Tuple ts)) ∙ fold-roll-AsmTerm Bool good_step (o.Tuple ts) ∙ all-parts ts h

good-Str : (cs : List ℕ) → Good (v.Str cs)
good-Str cs = ap good (sym (v.rolls-Str cs)) ∙ fold-roll-AsmTerm Bool good_step (o.Str cs)

good-List : (ts : List AsmTerm) (tail : Option AsmTerm) → Good (v.List ts tail)
good-List ts None = ap good (sym (v.rolls-List ts None)) ∙ fold-roll-AsmTerm Bool good_step (o.List ts None)
good-List ts (Some tail) = ap good (sym (v.rolls-List ts (Some tail))) ∙ fold-roll-AsmTerm Bool good_step (o.List ts (Some tail))

good-Map : (ps : List (AsmTerm × AsmTerm)) → Good (v.Map ps)
good-Map ps = ap good (sym (v.rolls-Map ps)) ∙ fold-roll-AsmTerm Bool good_step (o.Map ps)

good-ExtFun : (owner name : List ℕ) (arity : ℕ) → Good (v.ExtFun owner name arity)
good-ExtFun owner name arity = ap good (sym (v.rolls-ExtFun owner name arity)) ∙ fold-roll-AsmTerm Bool good_step (o.ExtFun owner name arity)

good-Pid : (node number : ℕ) → Good (v.Pid node number)
good-Pid node number = ap good (sym (v.rolls-Pid node number)) ∙ fold-roll-AsmTerm Bool good_step (o.Pid node number)

good-Ref : (node number : ℕ) → Good (v.Ref node number)
good-Ref node number = ap good (sym (v.rolls-Ref node number)) ∙ fold-roll-AsmTerm Bool good_step (o.Ref node number)

good-Opaque : (spelled : List ℕ) → Good (v.Opaque spelled)
good-Opaque spelled = ap good (sym (v.rolls-Opaque spelled)) ∙ fold-roll-AsmTerm Bool good_step (o.Opaque spelled)

-- ---- what tokens in range spell

mutual
  term-good : {ts : List Token} {t : AsmTerm} {rest : List Token} → IsTerm ts t rest → AllGood ts → Good t × AllGood rest
  term-good (int n rest) g = (good-Int n g.0, g.1)
  term-good (atom name rest) g = (good-Atom name (and_from (all_scalars name) (nat_le (length name) 255) g.0.0 g.0.1), g.1)
  term-good (string cs rest) g = (good-Str cs, g.1)
  term-good («opaque» cs rest) g = (good-Opaque cs, g.1)
  term-good (pid n k rest) g = (good-Pid n k, g.1)
  term-good (reference n k rest) g = (good-Ref n k, g.1)
  term-good (external owner name arity rest h) g = (good-ExtFun owner name arity, g.1.1.1.1.1.1)
  term-good (empty_tuple rest) g = (good-Tuple [] tt, g.1.1)
  term-good (filled_tuple ts first middle parts rest d ds) g =
      let one = term-good d g.1 in
      let more = parts-good ds one.1 in
      (good-Tuple (first ∷ parts) (one.0, more.0), more.1)
  term-good (empty_list rest) g = (good-List [] None, g.1.1)
  term-good (filled_list ts first middle elements tail rest d ds) g = (good-List (first ∷ elements) tail, elements-good ds (term-good d g.1).1)
  term-good (empty_map rest) g = (good-Map [], g.1.1)
  term-good (filled_map ts key behind held middle pairs rest d dv ds) g =
      (good-Map ((key, held) ∷ pairs), pairs-good ds (term-good dv (term-good d g.1).1.1).1)

  parts-good : {ts : List Token} {parts : List AsmTerm} {rest : List Token} → AreMoreParts ts parts rest → AllGood ts → EachGood parts × AllGood rest
  parts-good (no_part rest) g = (tt, g.1)
  parts-good (part ts first middle parts rest d ds) g =
      let one = term-good d g.1 in
      let more = parts-good ds one.1 in
      ((one.0, more.0), more.1)

  elements-good : {ts : List Token} {elements : List AsmTerm} {tail : Option AsmTerm} {rest : List Token} → AreMoreElements ts elements tail rest → AllGood ts → AllGood rest
  elements-good (no_element rest) g = g.1
  elements-good (element ts first middle elements tail rest d ds) g = elements-good ds (term-good d g.1).1
  elements-good (bar ts behind rest d) g = (term-good d g.1).1.1

  pairs-good : {ts : List Token} {pairs : List (AsmTerm × AsmTerm)} {rest : List Token} → AreMorePairs ts pairs rest → AllGood ts → AllGood rest
  pairs-good (no_pair rest) g = g.1
  pairs-good (pair ts key behind held middle pairs rest d dv ds) g = pairs-good ds (term-good dv (term-good d g.1).1.1).1

-- ---- the forms of a text

byte-scalars : (bytes : List ℕ) → list_all (λ b. nat_lt b 256) bytes ≡ true → AreScalars bytes
byte-scalars [] h = refl
byte-scalars (b ∷ bytes) h =
    let p = and_parts (nat_lt b 256) (list_all (λ c. nat_lt c 256) bytes) h in
    let low = ltb-true b 256 p.0 in
    and_from (scalar b) (all_scalars bytes) (low_scalar b (omega (arith, low))) (byte-scalars bytes p.1)

characters-scalars : (bytes : List ℕ) → list_all (λ b. nat_lt b 256) bytes ≡ true → AreScalars (characters bytes)
characters-scalars bytes h = by (is_utf8 bytes) refl
  where
    by : (b : Bool) → is_utf8 bytes ≡ b → AreScalars (if b then chars bytes else bytes)
    by true e = scalars-chars bytes (IsUtf8-from_is_utf8 bytes e)
    by false e = byte-scalars bytes h

each-good : (text : List ℕ) (ts : List AsmTerm) → AreScalars text → AreFormsOf text ts → EachGood ts
each-good text [] s h = tt
each-good text (t ∷ ts) s h =
    let tokens = form-left text h.2.tokens h.1 s h.2.spelled in
    ((term-good h.2.is_term tokens.0).0, each-good h.1 ts tokens.1 h.3)

-- what a file's bytes are read as is in range
pub forms-good : (bytes : List ℕ) (ts : List AsmTerm) → list_all (λ b. nat_lt b 256) bytes ≡ true → AreForms bytes ts → EachGood ts
forms-good bytes ts h forms = each-good (characters bytes) ts (characters-scalars bytes h) forms
