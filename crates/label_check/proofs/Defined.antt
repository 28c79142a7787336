-- The labels that code defines, while they are put into a set.
use Rattle.std.proofs.Common.{◌≡◌, ℕ, Bool, true, false, nat_eq, cond, ◌||◌, List, [], ◌∷◌, Option, None, Some, refl, sym, ap, ◌∙◌}
use Rattle.std.specs.Cmp.{nat_eq_equiv}
use Rattle.std.specs.List.{cons_option}
use Rattle.beam_code.specs.Opcode.{Opcode}
use Rattle.beam_code.specs.Labels.{is_in, defined_by, defined_in}

-- what the set has, and what is left, is what the whole has
abbrev pub Gathered : (ℕ → Bool) → List Opcode → List Opcode → Type 0
Gathered has left whole = (q : ℕ) → (has q || is_in (defined_in left) q) ≡ is_in (defined_in whole) q

left-of : (i : Opcode) (left more : List Opcode) (label : Option ℕ) → more ≡ i ∷ left → defined_by i ≡ label → defined_in more ≡ cons_option label (defined_in left)
left-of i left more label e is = ap defined_in e ∙ ap (λ o. cons_option o (defined_in left)) is

pub gathered-nothing : (has : ℕ → Bool) (i : Opcode) (left more whole : List Opcode) → more ≡ i ∷ left → defined_by i ≡ None → Gathered has more whole → Gathered has left whole
gathered-nothing has i left more whole e none all q = ap (λ ns. has q || is_in ns q) (sym (left-of i left more None e none)) ∙ all q

or-true : (b c : Bool) → (b || (true || c)) ≡ true
or-true true c = refl
or-true false c = refl

pub gathered-label : (has new : ℕ → Bool) (n : ℕ) (i : Opcode) (left more whole : List Opcode) → more ≡ i ∷ left → defined_by i ≡ Some n
    → ((q : ℕ) → new q ≡ cond (nat_eq n q) true (has q)) → Gathered has more whole → Gathered new left whole
gathered-label has new n i left more whole e is adds all q =
    ap (λ b. b || is_in (defined_in left) q) (adds q)
    ∙ by (nat_eq n q)
    ∙ ap (λ b. has q || (b || is_in (defined_in left) q)) (nat_eq_equiv.symm n q)
    ∙ ap (λ ns. has q || is_in ns q) (sym (left-of i left more (Some n) e is))
    ∙ all q
  where
    by : (b : Bool) → (cond b true (has q) || is_in (defined_in left) q) ≡ (has q || (b || is_in (defined_in left) q))
    by true = sym (or-true (has q) (is_in (defined_in left) q))
    by false = refl

pub gathered-none : (has : ℕ → Bool) (whole : List Opcode) → ((q : ℕ) → has q ≡ false) → Gathered has whole whole
gathered-none has whole empty q = ap (λ b. b || is_in (defined_in whole) q) (empty q)

or-false : (b : Bool) → (b || false) ≡ b
or-false true = refl
or-false false = refl

pub gathered-all : (has : ℕ → Bool) (left whole : List Opcode) → left ≡ [] → Gathered has left whole → (q : ℕ) → has q ≡ is_in (defined_in whole) q
gathered-all has left whole e all q = sym (or-false (has q)) ∙ ap (λ code. has q || is_in (defined_in code) q) (sym e) ∙ all q
