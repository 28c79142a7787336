-- The offsets of instructions, while they are put into a set.
use Rattle.std.proofs.Common.{◌≡◌, ℕ, Bool, true, false, nat_eq, cond, ◌||◌, List, [], ◌∷◌, refl, sym, ap, ◌∙◌}
use Rattle.jvm_code.specs.declared.class.Op.{Op}
use Rattle.jvm_code.specs.Verification.{is_start}

-- what the set has, and what is left, is what the whole has
abbrev pub Gathered : (ℕ → Bool) → List (ℕ × Op) → List (ℕ × Op) → Type 0
Gathered has left whole = (q : ℕ) → (has q || is_start left q) ≡ is_start whole q

or-true : (b c : Bool) → (b || (true || c)) ≡ true
or-true true c = refl
or-true false c = refl

pub gathered_more : (has new : ℕ → Bool) (i : ℕ × Op) (left more whole : List (ℕ × Op)) → more ≡ i ∷ left
    → ((q : ℕ) → new q ≡ cond (nat_eq i.0 q) true (has q)) → Gathered has more whole → Gathered new left whole
gathered_more has new i left more whole e adds all q =
    ap (λ b. b || is_start left q) (adds q) ∙ by (nat_eq i.0 q) ∙ ap (λ is. has q || is_start is q) (sym e) ∙ all q
  where
    by : (b : Bool) → (cond b true (has q) || is_start left q) ≡ (has q || (b || is_start left q))
    by true = sym (or-true (has q) (is_start left q))
    by false = refl

pub gathered_none : (has : ℕ → Bool) (whole : List (ℕ × Op)) → ((q : ℕ) → has q ≡ false) → Gathered has whole whole
gathered_none has whole empty q = ap (λ b. b || is_start whole q) (empty q)

or-false : (b : Bool) → (b || false) ≡ b
or-false true = refl
or-false false = refl

pub gathered_all : (has : ℕ → Bool) (left whole : List (ℕ × Op)) → left ≡ [] → Gathered has left whole → (q : ℕ) → has q ≡ is_start whole q
gathered_all has left whole e all q = sym (or-false (has q)) ∙ ap (λ code. has q || is_start code q) (sym e) ∙ all q
