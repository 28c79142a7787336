-- Tokens spell one term at most, and it ends at one place.
use Rattle.std.proofs.Common.{◌≡◌, List, [], ◌∷◌, Option, refl, sym, ap, ◌∙◌, subst}
use Rattle.ej_term.specs.declared.asm_term.AsmTerm.{AsmTerm}
use Rattle.ej_term.specs.declared.asm_term.AsmTerm.TheVariants as term
use Rattle.asm_terms.specs.declared.token.Token.{Token}
use Rattle.asm_terms.specs.Grammar.{continued, IsTerm, int, atom, string, «opaque», pid, reference, external, empty_tuple, filled_tuple, empty_list, filled_list, empty_map, filled_map, AreMoreParts, no_part, part, AreMoreElements, no_element, element, bar, AreMorePairs, no_pair, pair}

-- the tokens behind the first
abbrev behind_first : List Token → List Token
behind_first [] = []
behind_first (token ∷ tokens) = tokens

cons_equal : {A : Type 0} {x y : A} {xs ys : List A} → x ≡ y → xs ≡ ys → (x ∷ xs) ≡ (y ∷ ys)
cons_equal e es = cc

list_equal : {xs ys : List AsmTerm} {o p : Option AsmTerm} → xs ≡ ys → o ≡ p → term.List xs o ≡ term.List ys p
list_equal {xs} {ys} {o} {p} e f = ap (λ zs. term.List zs o) e ∙ ap (λ q. term.List ys q) f

pairs_equal : {k l v w : AsmTerm} {xs ys : List (AsmTerm × AsmTerm)} → k ≡ l → v ≡ w → xs ≡ ys → ((k, v) ∷ xs) ≡ ((l, w) ∷ ys)
pairs_equal {k} {l} {v} {w} {xs} {ys} e f g = ap (λ m. (m, v) ∷ xs) e ∙ ap (λ u. (l, u) ∷ xs) f ∙ ap (λ zs. (l, w) ∷ zs) g

mutual
  pub one_term : {ts : List Token} {t u : AsmTerm} {rest rest' : List Token} → IsTerm ts t rest → IsTerm ts u rest' → (t ≡ u) × (rest ≡ rest')
  one_term (int n rest) (int n' rest') = (refl, refl)
  one_term (atom name rest) (atom name' rest') = (refl, refl)
  one_term (string cs rest) (string cs' rest') = (refl, refl)
  one_term («opaque» cs rest) («opaque» cs' rest') = (refl, refl)
  one_term (pid n k rest) (pid n' k' rest') = (refl, refl)
  one_term (reference n k rest) (reference n' k' rest') = (refl, refl)
  one_term (external m f a rest h) (external m' f' a' rest' h') = (refl, refl)
  one_term (empty_tuple rest) (empty_tuple rest') = (refl, refl)
  one_term (empty_tuple rest) (filled_tuple ts first middle parts rest' d ds) = elim d [ ]
  one_term (filled_tuple ts first middle parts rest d ds) (empty_tuple rest') = elim d [ ]
  one_term (filled_tuple ts first middle parts rest d ds) (filled_tuple ts' first' middle' parts' rest' e es) =
      let one = one_term d e in
      let more = one_parts ds (subst (λ m. AreMoreParts m parts' rest') (sym one.1) es) in
      (ap term.Tuple (cons_equal one.0 more.0), more.1)
  one_term (empty_list rest) (empty_list rest') = (refl, refl)
  one_term (empty_list rest) (filled_list ts first middle elements tail rest' d ds) = elim d [ ]
  one_term (filled_list ts first middle elements tail rest d ds) (empty_list rest') = elim d [ ]
  one_term (filled_list ts first middle elements tail rest d ds) (filled_list ts' first' middle' elements' tail' rest' e es) =
      let one = one_term d e in
      let more = one_elements ds (subst (λ m. AreMoreElements m elements' tail' rest') (sym one.1) es) in
      (list_equal (cons_equal one.0 more.0) more.1, more.2)
  one_term (empty_map rest) (empty_map rest') = (refl, refl)
  one_term (empty_map rest) (filled_map ts key behind value middle pairs rest' d dv ds) = elim d [ ]
  one_term (filled_map ts key behind value middle pairs rest d dv ds) (empty_map rest') = elim d [ ]
  one_term (filled_map ts key behind value middle pairs rest d dv ds) (filled_map ts' key' behind' value' middle' pairs' rest' e ev es) =
      let one = one_term d e in
      let two = one_term dv (subst (λ b. IsTerm b value' middle') (sym (ap behind_first one.1)) ev) in
      let more = one_pairs ds (subst (λ m. AreMorePairs m pairs' rest') (sym two.1) es) in
      (ap term.Map (pairs_equal one.0 two.0 more.0), more.1)

  one_parts : {ts : List Token} {us vs : List AsmTerm} {rest rest' : List Token} → AreMoreParts ts us rest → AreMoreParts ts vs rest' → (us ≡ vs) × (rest ≡ rest')
  one_parts (no_part rest) (no_part rest') = (refl, refl)
  one_parts (part ts first middle parts rest d ds) (part ts' first' middle' parts' rest' e es) =
      let one = one_term d e in
      let more = one_parts ds (subst (λ m. AreMoreParts m parts' rest') (sym one.1) es) in
      (cons_equal one.0 more.0, more.1)

  one_elements : {ts : List Token} {us vs : List AsmTerm} {o p : Option AsmTerm} {rest rest' : List Token}
      → AreMoreElements ts us o rest → AreMoreElements ts vs p rest' → (us ≡ vs) × (o ≡ p) × (rest ≡ rest')
  one_elements (no_element rest) (no_element rest') = (refl, refl, refl)
  one_elements (element ts first middle elements tail rest d ds) (element ts' first' middle' elements' tail' rest' e es) =
      let one = one_term d e in
      let more = one_elements ds (subst (λ m. AreMoreElements m elements' tail' rest') (sym one.1) es) in
      (cons_equal one.0 more.0, more.1, more.2)
  one_elements (bar ts behind rest d) (bar ts' behind' rest' e) =
      let one = one_term d e in
      (ap (λ t. (continued t).0) one.0, ap (λ t. (continued t).1) one.0, ap behind_first one.1)

  one_pairs : {ts : List Token} {us vs : List (AsmTerm × AsmTerm)} {rest rest' : List Token} → AreMorePairs ts us rest → AreMorePairs ts vs rest' → (us ≡ vs) × (rest ≡ rest')
  one_pairs (no_pair rest) (no_pair rest') = (refl, refl)
  one_pairs (pair ts key behind value middle pairs rest d dv ds) (pair ts' key' behind' value' middle' pairs' rest' e ev es) =
      let one = one_term d e in
      let two = one_term dv (subst (λ b. IsTerm b value' middle') (sym (ap behind_first one.1)) ev) in
      let more = one_pairs ds (subst (λ m. AreMorePairs m pairs' rest') (sym two.1) es) in
      (pairs_equal one.0 two.0 more.0, more.1)
