-- Terms that are found the same are one.
use Rattle.std.specs.Prelude.{◌≡◌, ◌↔◌, IsTrue, ℕ, nat_eq, Bool, true, false, ◌&&◌, List, [], ◌∷◌, map, None, Some}
use Rattle.std.specs.Bool.{Decides}
use Rattle.std.specs.Cmp.{IsEquivalence, both_ways}
use Rattle.std.specs.Cmp.Lexicographic.{pointwise}
use Rattle.std.specs.Str.{bytes_eq}
use Rattle.std.proofs.Common.{refl, sym, ap, ap₂, ◌∙◌, subst}
use Rattle.std.proofs.lemmas.Bool.{true≢false}
use Rattle.std.proofs.lemmas.Bool.Decides.{Decides-eqb, Decides-int_eq, same_from_decides}
use Rattle.std.proofs.lemmas.Slice.Eq.{bytes_eq-Decides}
use Rattle.ej_term.specs.declared.asm_term.AsmTerm.{AsmTerm, out-AsmTerm, fold-roll-AsmTerm, roll-out-AsmTerm, out-roll-AsmTerm}
use Rattle.ej_term.specs.declared.asm_term.AsmTerm.TheFolds.{ind-AsmTerm, map-AsmTerm}
use Rattle.ej_term.specs.declared.asm_term.AsmTerm.TheOpen as o
use Rattle.ej_term.specs.declared.asm_term.AsmTerm.TheOpen.{AsmTerm-F}
use Rattle.ej_term.specs.declared.asm_term.AsmTerm.TheViews.{roll-AsmTerm}
use Rattle.ej_term.specs.Same.{IsIt, same_pair, same_step, same_within, same}

both : (a b : Bool) → (a && b) ≡ true → (a ≡ true) × (b ≡ true)
both true b h = (refl, h)
both false b h = absurd (true≢false (sym h))

together : (a b : Bool) → a ≡ true → b ≡ true → (a && b) ≡ true
together true b h k = k
together false b h k = absurd (true≢false (sym h))

texts : (xs ys : List ℕ) → bytes_eq xs ys ≡ true → xs ≡ ys
texts xs ys h = (bytes_eq-Decides xs ys).0 h

numbers : (x y : ℕ) → nat_eq x y ≡ true → x ≡ y
numbers x y h = (Decides-eqb x y).0 h

text : (xs : List ℕ) → bytes_eq xs xs ≡ true
text xs = (bytes_eq-Decides xs xs).1 refl

number : (x : ℕ) → nat_eq x x ≡ true
number x = (Decides-eqb x x).1 refl

-- What is found the same is one.

abbrev Means : AsmTerm → Type 0
Means t = (other : AsmTerm) → same t other ≡ true → t ≡ other

abbrev Meant : Type 0
Meant = (t : AsmTerm) × Means t

parts_mean : (ps : List Meant) (qs : List AsmTerm) → pointwise (λ (is_it : IsIt) (part : AsmTerm). is_it part) (map same (map (λ s. s.0) ps)) qs ≡ true → map (λ s. s.0) ps ≡ qs
parts_mean [] [] h = refl
parts_mean [] (q ∷ qs) h = absurd (true≢false (sym h))
parts_mean (p ∷ ps) [] h = absurd (true≢false (sym h))
parts_mean (p ∷ ps) (q ∷ qs) h =
    let k = both (same p.0 q) (pointwise (λ (is_it : IsIt) (part : AsmTerm). is_it part) (map same (map (λ s. s.0) ps)) qs) h in
    ap₂ ◌∷◌ (p.1 q k.0) (parts_mean ps qs k.1)

abbrev tests_of : List (Meant × Meant) → List (IsIt × IsIt)
tests_of ps = map (λ (p : AsmTerm × AsmTerm). (same p.0, same p.1)) (map (λ (p : Meant × Meant). (p.0.0, p.1.0)) ps)

pairs_mean : (ps : List (Meant × Meant)) (qs : List (AsmTerm × AsmTerm)) → pointwise same_pair (tests_of ps) qs ≡ true → map (λ (p : Meant × Meant). (p.0.0, p.1.0)) ps ≡ qs
pairs_mean [] [] h = refl
pairs_mean [] (q ∷ qs) h = absurd (true≢false (sym h))
pairs_mean (p ∷ ps) [] h = absurd (true≢false (sym h))
pairs_mean (p ∷ ps) (q ∷ qs) h =
    let k = both (same p.0.0 q.0 && same p.1.0 q.1) (pointwise same_pair (tests_of ps) qs) h in
    let e = both (same p.0.0 q.0) (same p.1.0 q.1) k.0 in
    ap₂ ◌∷◌ (ap₂ (λ (a b : AsmTerm). (a, b)) (p.0.1 q.0 e.0) (p.1.1 q.1 e.1)) (pairs_mean ps qs k.1)

layer_means : (y : AsmTerm-F Meant) (e : AsmTerm-F AsmTerm) → same_step (map-AsmTerm AsmTerm IsIt same (map-AsmTerm Meant AsmTerm (λ s. s.0) y)) e ≡ true → map-AsmTerm Meant AsmTerm (λ s. s.0) y ≡ e
layer_means (o.Int n) (o.Int m) h = ap o.Int ((Decides-int_eq n m).0 h)
layer_means (o.Atom name) (o.Atom other) h = ap o.Atom (texts name other h)
layer_means (o.Str characters) (o.Str others) h = ap o.Str (texts characters others h)
layer_means (o.List ps None) (o.List qs None) h = ap (λ l. o.List l None) (parts_mean ps qs (both _ true h).0)
layer_means (o.List ps (Some t)) (o.List qs (Some u)) h =
    let k = both (pointwise (λ (is_it : IsIt) (part : AsmTerm). is_it part) (map same (map (λ s. s.0) ps)) qs) (same t.0 u) h in
    ap₂ (λ l end. o.List l (Some end)) (parts_mean ps qs k.0) (t.1 u k.1)
layer_means (o.List ps None) (o.List qs (Some u)) h = absurd (true≢false (sym (both (pointwise (λ (is_it : IsIt) (part : AsmTerm). is_it part) (map same (map (λ s. s.0) ps)) qs) false h).1))
layer_means (o.List ps (Some t)) (o.List qs None) h = absurd (true≢false (sym (both (pointwise (λ (is_it : IsIt) (part : AsmTerm). is_it part) (map same (map (λ s. s.0) ps)) qs) false h).1))
layer_means (o.Tuple ps) (o.Tuple qs) h = ap o.Tuple (parts_mean ps qs h)
layer_means (o.Map ps) (o.Map qs) h = ap o.Map (pairs_mean ps qs h)
layer_means (o.ExtFun owner name arity) (o.ExtFun m f a) h =
    let k = both (bytes_eq owner m && bytes_eq name f) (nat_eq arity a) h in
    let l = both (bytes_eq owner m) (bytes_eq name f) k.0 in
    ap₂ (λ x y. o.ExtFun x y arity) (texts owner m l.0) (texts name f l.1) ∙ ap (o.ExtFun m f) (numbers arity a k.1)
layer_means (o.Pid node number) (o.Pid n k) h = let l = both (nat_eq node n) (nat_eq number k) h in ap₂ o.Pid (numbers node n l.0) (numbers number k l.1)
layer_means (o.Ref node number) (o.Ref n k) h = let l = both (nat_eq node n) (nat_eq number k) h in ap₂ o.Ref (numbers node n l.0) (numbers number k l.1)
layer_means (o.Opaque spelling) (o.Opaque other) h = ap o.Opaque (texts spelling other h)
layer_means _ _ h = absurd (true≢false (sym h))

rolled_means : (d : AsmTerm-F AsmTerm) → ((e : AsmTerm-F AsmTerm) → same_step (map-AsmTerm AsmTerm IsIt same d) e ≡ true → d ≡ e) → Means (roll-AsmTerm d)
rolled_means d means other h =
    ap roll-AsmTerm (means (out-AsmTerm other) (sym (ap (λ (f : IsIt). f other) (fold-roll-AsmTerm IsIt same_within d)) ∙ h)) ∙ roll-out-AsmTerm other

pub same_means : (t other : AsmTerm) → same t other ≡ true → t ≡ other
same_means = ind-AsmTerm Means (λ x y is. subst (λ z. Means (roll-AsmTerm z)) is (rolled_means _ (layer_means y)))

-- Each term is the same as itself.

abbrev Itself : AsmTerm → Type 0
Itself t = same t t ≡ true

abbrev Such : Type 0
Such = (t : AsmTerm) × Itself t

parts_themselves : (ps : List Such) → pointwise (λ (is_it : IsIt) (part : AsmTerm). is_it part) (map same (map (λ s. s.0) ps)) (map (λ s. s.0) ps) ≡ true
parts_themselves [] = refl
parts_themselves (p ∷ ps) = together (same p.0 p.0) _ p.1 (parts_themselves ps)

pairs_themselves : (ps : List (Such × Such))
    → pointwise same_pair (map (λ (p : AsmTerm × AsmTerm). (same p.0, same p.1)) (map (λ (p : Such × Such). (p.0.0, p.1.0)) ps)) (map (λ (p : Such × Such). (p.0.0, p.1.0)) ps) ≡ true
pairs_themselves [] = refl
pairs_themselves (p ∷ ps) = together (same p.0.0 p.0.0 && same p.1.0 p.1.0) _ (together (same p.0.0 p.0.0) (same p.1.0 p.1.0) p.0.1 p.1.1) (pairs_themselves ps)

layer_itself : (y : AsmTerm-F Such) → same_step (map-AsmTerm AsmTerm IsIt same (map-AsmTerm Such AsmTerm (λ s. s.0) y)) (map-AsmTerm Such AsmTerm (λ s. s.0) y) ≡ true
layer_itself (o.Int n) = (Decides-int_eq n n).1 refl
layer_itself (o.Atom name) = text name
layer_itself (o.Str characters) = text characters
layer_itself (o.List ps None) = together _ true (parts_themselves ps) refl
layer_itself (o.List ps (Some t)) = together _ (same t.0 t.0) (parts_themselves ps) t.1
layer_itself (o.Tuple ps) = parts_themselves ps
layer_itself (o.Map ps) = pairs_themselves ps
layer_itself (o.ExtFun owner name arity) = together (bytes_eq owner owner && bytes_eq name name) (nat_eq arity arity) (together (bytes_eq owner owner) (bytes_eq name name) (text owner) (text name)) (number arity)
layer_itself (o.Pid node k) = together (nat_eq node node) (nat_eq k k) (number node) (number k)
layer_itself (o.Ref node k) = together (nat_eq node node) (nat_eq k k) (number node) (number k)
layer_itself (o.Opaque spelling) = text spelling

rolled_itself : (d : AsmTerm-F AsmTerm) → same_step (map-AsmTerm AsmTerm IsIt same d) d ≡ true → Itself (roll-AsmTerm d)
rolled_itself d h = ap (λ (f : IsIt). f (roll-AsmTerm d)) (fold-roll-AsmTerm IsIt same_within d) ∙ ap (same_step (map-AsmTerm AsmTerm IsIt same d)) (out-roll-AsmTerm d) ∙ h

pub same_itself : (t : AsmTerm) → same t t ≡ true
same_itself = ind-AsmTerm Itself (λ x y is. subst (λ z. Itself (roll-AsmTerm z)) is (rolled_itself _ (layer_itself y)))

-- the test tells whether two terms are one
pub same_decides : (t other : AsmTerm) → Decides (same t other) (t ≡ other)
same_decides t other = (same_means t other, λ e. subst (λ u. same t u ≡ true) e (same_itself t))

pub same_equiv : IsEquivalence same
same_equiv = record {
  refl = same_itself;
  symm = λ x y. both_ways (same x y) (same y x) (λ e. (same_decides y x).1 (sym (same_means x y e))) (λ e. (same_decides x y).1 (sym (same_means y x e)));
  congr = λ x y z e. ap (λ v. same v z) (same_means x y e);
}

-- any test that tells so is this one
pub told_same : (t other : AsmTerm) (told : Bool) → (IsTrue told ↔ (t ≡ other)) → told ≡ same t other
told_same t other told h = same_from_decides told (same t other) h (same_decides t other)
