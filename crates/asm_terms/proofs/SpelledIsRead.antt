-- What tokens spell is what reading them gives.
use Rattle.std.proofs.Common.{◌≡◌, ℕ, ◌≤◌, nat_le, Bool, true, false, if◌then◌else◌, pos, List, [], ◌∷◌, ◌++◌, Option, None, Some, option_and_then, refl, sym, ap, ◌∙◌, append_assoc, append-nil}
use Rattle.std.proofs.lemmas.Bool.{le-leb}
use Rattle.ej_term.specs.declared.asm_term.AsmTerm.{AsmTerm, out-AsmTerm}
use Rattle.ej_term.specs.declared.asm_term.AsmTerm.TheOpen as layer
use Rattle.ej_term.specs.declared.asm_term.AsmTerm.TheOpen.{AsmTerm-F}
use Rattle.ej_term.specs.declared.asm_term.AsmTerm.TheVariants as term
use Rattle.ej_term.specs.declared.asm_term.AsmTerm.TheVariants.{outs-Int, outs-Atom, outs-Str, outs-Opaque, outs-Pid, outs-Ref, outs-ExtFun, outs-List, outs-Tuple, outs-Map}
use Rattle.asm_terms.specs.declared.opened.Opened.{Opened}
use Rattle.asm_terms.specs.declared.opened.Opened.TheVariants as opened
use Rattle.asm_terms.specs.declared.opened.Last.TheVariants as last
use Rattle.asm_terms.specs.declared.token.Token.{Token}
use Rattle.asm_terms.specs.declared.token.Token.TheVariants as token
use Rattle.asm_terms.specs.Grammar.{continued, continued_by, IsTerm, int, atom, string, «opaque», pid, reference, external, empty_tuple, filled_tuple, empty_list, filled_list, empty_map, filled_map, AreMoreParts, no_part, part, AreMoreElements, no_element, element, bar, AreMorePairs, no_pair, pair}
use Rattle.asm_terms.specs.TermReader.{at, run, list_before, external_of, term_of, finish}

arity_fits : (n : ℕ) → n ≤ 255 → nat_le n 255 ≡ true
arity_fits n h = le-leb n 255 h

-- one part more, and then the others
pub one_more : {A : Type 0} (done : List A) (t : A) (parts : List A) → (done ++ t ∷ []) ++ parts ≡ done ++ t ∷ parts
one_more done t parts = append_assoc done (t ∷ []) parts

abbrev pub is_list : AsmTerm-F AsmTerm → Bool
is_list (layer.List elements tail) = true
is_list _ = false

-- a list and what is behind its bar, where that is no list
pub before_no_list : (done : List AsmTerm) (t : AsmTerm) (l : AsmTerm-F AsmTerm) → is_list l ≡ false
    → list_before done t l ≡ term.List (done ++ (continued_by t l).0) (continued_by t l).1
before_no_list done t (layer.List elements tail) h = absurd (let e : true ≡ false = h in cc)
before_no_list done t (layer.Str characters) h = refl
before_no_list done t _ h = ap (λ all. term.List all (Some t)) (sym (append-nil done))

-- a list that goes on with a list
pub whole_list : (done elements : List AsmTerm) (tail : Option AsmTerm)
    → term.List (done ++ elements) tail ≡ term.List (done ++ (continued (term.List elements tail)).0) (continued (term.List elements tail)).1
whole_list done elements tail = ap (λ l. term.List (done ++ (continued_by (term.List elements tail) l).0) (continued_by (term.List elements tail) l).1) (sym (outs-List elements tail))

-- behind such a term, and `]`
closes_tail : (done : List AsmTerm) (t : AsmTerm) (stack : List Opened) (before rest : List Token) → before ≡ token.CloseList ∷ rest
    → is_list (out-AsmTerm t) ≡ false
    → run before (at (opened.Tail done ∷ stack) (last.Term t)) ≡ run rest (at stack (last.Term (term.List (done ++ (continued t).0) (continued t).1)))
closes_tail done t stack before rest e h =
    ap (λ ts. run ts (at (opened.Tail done ∷ stack) (last.Term t))) e ∙ ap (λ l. run rest (at stack (last.Term l))) (before_no_list done t (out-AsmTerm t) h)

-- behind an opening bracket a term is read as elsewhere
pub from_bracket : {ts : List Token} {t : AsmTerm} {rest : List Token} → IsTerm ts t rest → (stack : List Opened)
    → run ts (at stack last.Bracket) ≡ run ts (at stack last.Mark)
from_bracket (int n rest) stack = refl
from_bracket (atom name rest) stack = refl
from_bracket (string cs rest) stack = refl
from_bracket («opaque» cs rest) stack = refl
from_bracket (pid n k rest) stack = refl
from_bracket (reference n k rest) stack = refl
from_bracket (external m f a rest h) stack = refl
from_bracket (empty_tuple rest) stack = refl
from_bracket (filled_tuple ts first middle parts rest d ds) stack = refl
from_bracket (empty_list rest) stack = refl
from_bracket (filled_list ts first middle elements tail rest d ds) stack = refl
from_bracket (empty_map rest) stack = refl
from_bracket (filled_map ts key behind value middle pairs rest d dv ds) stack = refl

reads_external : (m f : List ℕ) (a : ℕ) (rest : List Token) → a ≤ 255 → (stack : List Opened)
    → run (token.Fun ∷ token.Atom m ∷ token.Colon ∷ token.Atom f ∷ token.Slash ∷ token.Int (pos a) ∷ rest) (at stack last.Mark) ≡ run rest (at stack (last.Term (term.ExtFun m f a)))
reads_external m f a rest h stack = ap (λ b. option_and_then (run rest) (external_of stack m f (if b then Some a else None))) (arity_fits a h)

mutual
  pub reads_term : {ts : List Token} {t : AsmTerm} {rest : List Token} → IsTerm ts t rest → (stack : List Opened)
      → run ts (at stack last.Mark) ≡ run rest (at stack (last.Term t))
  reads_term (int n rest) stack = refl
  reads_term (atom name rest) stack = refl
  reads_term (string cs rest) stack = refl
  reads_term («opaque» cs rest) stack = refl
  reads_term (pid n k rest) stack = refl
  reads_term (reference n k rest) stack = refl
  reads_term (external m f a rest h) stack = reads_external m f a rest h stack
  reads_term (empty_tuple rest) stack = refl
  reads_term (filled_tuple ts first middle parts rest d ds) stack =
      from_bracket d (opened.Tuple [] ∷ stack) ∙ reads_term d (opened.Tuple [] ∷ stack) ∙ reads_parts ds [] first stack
  reads_term (empty_list rest) stack = refl
  reads_term (filled_list ts first middle elements tail rest d ds) stack =
      from_bracket d (opened.List [] ∷ stack) ∙ reads_term d (opened.List [] ∷ stack) ∙ reads_elements ds [] first stack
  reads_term (empty_map rest) stack = refl
  reads_term (filled_map ts key behind value middle pairs rest d dv ds) stack =
      from_bracket d (opened.Key [] ∷ stack) ∙ reads_term d (opened.Key [] ∷ stack) ∙ reads_term dv (opened.Value [] key ∷ stack) ∙ reads_pairs ds [] key value stack

  reads_parts : {ts : List Token} {parts : List AsmTerm} {rest : List Token} → AreMoreParts ts parts rest → (done : List AsmTerm) (t : AsmTerm) (stack : List Opened)
      → run ts (at (opened.Tuple done ∷ stack) (last.Term t)) ≡ run rest (at stack (last.Term (term.Tuple (done ++ t ∷ parts))))
  reads_parts (no_part rest) done t stack = refl
  reads_parts (part ts first middle parts rest d ds) done t stack =
      reads_term d (opened.Tuple (done ++ t ∷ []) ∷ stack) ∙ reads_parts ds (done ++ t ∷ []) first stack
      ∙ ap (λ all. run rest (at stack (last.Term (term.Tuple all)))) (one_more done t (first ∷ parts))

  reads_elements : {ts : List Token} {elements : List AsmTerm} {tail : Option AsmTerm} {rest : List Token} → AreMoreElements ts elements tail rest
      → (done : List AsmTerm) (t : AsmTerm) (stack : List Opened)
      → run ts (at (opened.List done ∷ stack) (last.Term t)) ≡ run rest (at stack (last.Term (term.List (done ++ t ∷ elements) tail)))
  reads_elements (no_element rest) done t stack = refl
  reads_elements (element ts first middle elements tail rest d ds) done t stack =
      reads_term d (opened.List (done ++ t ∷ []) ∷ stack) ∙ reads_elements ds (done ++ t ∷ []) first stack
      ∙ ap (λ all. run rest (at stack (last.Term (term.List all tail)))) (one_more done t (first ∷ elements))
  reads_elements (bar ts behind rest d) done t stack =
      reads_tail d rest refl (done ++ t ∷ []) stack
      ∙ ap (λ all. run rest (at stack (last.Term (term.List all (continued behind).1)))) (one_more done t (continued behind).0)

  -- what comes behind a bar, and then `]`
  reads_tail : {ts : List Token} {t : AsmTerm} {before : List Token} → IsTerm ts t before → (rest : List Token) → before ≡ token.CloseList ∷ rest
      → (done : List AsmTerm) (stack : List Opened)
      → run ts (at (opened.Tail done ∷ stack) last.Bar) ≡ run rest (at stack (last.Term (term.List (done ++ (continued t).0) (continued t).1)))
  reads_tail (int n before) rest e done stack = closes_tail done (term.Int n) stack before rest e (ap is_list (outs-Int n))
  reads_tail (atom name before) rest e done stack = closes_tail done (term.Atom name) stack before rest e (ap is_list (outs-Atom name))
  reads_tail (string cs before) rest e done stack = closes_tail done (term.Str cs) stack before rest e (ap is_list (outs-Str cs))
  reads_tail («opaque» cs before) rest e done stack = closes_tail done (term.Opaque cs) stack before rest e (ap is_list (outs-Opaque cs))
  reads_tail (pid n k before) rest e done stack = closes_tail done (term.Pid n k) stack before rest e (ap is_list (outs-Pid n k))
  reads_tail (reference n k before) rest e done stack = closes_tail done (term.Ref n k) stack before rest e (ap is_list (outs-Ref n k))
  reads_tail (external m f a before h) rest e done stack =
      reads_external m f a before h (opened.Tail done ∷ stack) ∙ closes_tail done (term.ExtFun m f a) stack before rest e (ap is_list (outs-ExtFun m f a))
  reads_tail (empty_tuple before) rest e done stack = closes_tail done (term.Tuple []) stack before rest e (ap is_list (outs-Tuple []))
  reads_tail (filled_tuple ts first middle parts before d ds) rest e done stack =
      from_bracket d (opened.Tuple [] ∷ opened.Tail done ∷ stack) ∙ reads_term d (opened.Tuple [] ∷ opened.Tail done ∷ stack)
      ∙ reads_parts ds [] first (opened.Tail done ∷ stack)
      ∙ closes_tail done (term.Tuple (first ∷ parts)) stack before rest e (ap is_list (outs-Tuple (first ∷ parts)))
  reads_tail (empty_list before) rest e done stack =
      ap (λ ts. run ts (at (opened.Joined ∷ stack) (last.Term (term.List done None)))) e ∙ ap (λ l. run rest (at stack (last.Term l))) (ap (λ all. term.List all None) (sym (append-nil done)) ∙ whole_list done [] None)
  reads_tail (filled_list ts first middle elements tail before d ds) rest e done stack =
      from_bracket d (opened.List done ∷ opened.Joined ∷ stack) ∙ reads_term d (opened.List done ∷ opened.Joined ∷ stack)
      ∙ reads_elements ds done first (opened.Joined ∷ stack)
      ∙ ap (λ ts. run ts (at (opened.Joined ∷ stack) (last.Term (term.List (done ++ first ∷ elements) tail)))) e
      ∙ ap (λ l. run rest (at stack (last.Term l))) (whole_list done (first ∷ elements) tail)
  reads_tail (empty_map before) rest e done stack = closes_tail done (term.Map []) stack before rest e (ap is_list (outs-Map []))
  reads_tail (filled_map ts key behind value middle pairs before d dv ds) rest e done stack =
      from_bracket d (opened.Key [] ∷ opened.Tail done ∷ stack) ∙ reads_term d (opened.Key [] ∷ opened.Tail done ∷ stack)
      ∙ reads_term dv (opened.Value [] key ∷ opened.Tail done ∷ stack) ∙ reads_pairs ds [] key value (opened.Tail done ∷ stack)
      ∙ closes_tail done (term.Map ((key, value) ∷ pairs)) stack before rest e (ap is_list (outs-Map ((key, value) ∷ pairs)))

  reads_pairs : {ts : List Token} {pairs : List (AsmTerm × AsmTerm)} {rest : List Token} → AreMorePairs ts pairs rest
      → (done : List (AsmTerm × AsmTerm)) (key value : AsmTerm) (stack : List Opened)
      → run ts (at (opened.Value done key ∷ stack) (last.Term value)) ≡ run rest (at stack (last.Term (term.Map (done ++ (key, value) ∷ pairs))))
  reads_pairs (no_pair rest) done key value stack = refl
  reads_pairs (pair ts next behind held middle pairs rest d dv ds) done key value stack =
      reads_term d (opened.Key (done ++ (key, value) ∷ []) ∷ stack)
      ∙ reads_term dv (opened.Value (done ++ (key, value) ∷ []) next ∷ stack)
      ∙ reads_pairs ds (done ++ (key, value) ∷ []) next held stack
      ∙ ap (λ all. run rest (at stack (last.Term (term.Map all)))) (one_more done (key, value) ((next, held) ∷ pairs))

pub spelled_is_read : (tokens : List Token) (t : AsmTerm) → IsTerm tokens t [] → term_of tokens ≡ Some t
spelled_is_read tokens t d = ap (option_and_then finish) (reads_term d [])
