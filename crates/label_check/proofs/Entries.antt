-- The arities by entry, while they are put into a map.
use Rattle.std.proofs.Common.{◌≡◌, ℕ, Bool, true, false, nat_eq, cond, List, [], ◌∷◌, Option, None, Some, is_some, refl, sym, ap, ◌∙◌, arith}
use Rattle.std.specs.List.{find}
use Rattle.std.specs.Option.{option_map, option_or}
use Rattle.std.proofs.lemmas.Bool.Decides.{nat_tests}
use Rattle.std.proofs.lemmas.Bool.{true≢false}
use Rattle.beam_code.specs.Code.{FunctionCode}
use Rattle.beam_code.specs.Labels.{arity_of}

same-number : (m n : ℕ) → nat_eq m n ≡ true → m ≡ n
same-number m n h = grind (arith, nat_tests)

arity-cons : (f : FunctionCode) (left : List FunctionCode) (q : ℕ) → arity_of (f ∷ left) q ≡ cond (nat_eq f.entry q) (Some f.arity) (arity_of left q)
arity-cons f left q = by (nat_eq f.entry q)
  where
    by : (b : Bool) → option_map (λ (f : FunctionCode). f.arity) (cond b (Some f) (find (λ (f : FunctionCode). nat_eq f.entry q) left)) ≡ cond b (Some f.arity) (arity_of left q)
    by true = refl
    by false = refl

-- what the map has, and else what is left, is what the whole has
abbrev pub Kept : (ℕ → Option ℕ) → List FunctionCode → List FunctionCode → Type 0
Kept has left whole = (q : ℕ) → option_or (has q) (arity_of left q) ≡ arity_of whole q

some-or : (o a b : Option ℕ) → is_some o ≡ true → option_or o a ≡ option_or o b
some-or (Some n) a b h = refl
some-or None a b h = absurd (true≢false (sym h))

none-or : (o a : Option ℕ) → is_some o ≡ false → option_or o a ≡ a
none-or None a h = refl
none-or (Some n) a h = absurd (true≢false h)

pub kept-known : (has : ℕ → Option ℕ) (f : FunctionCode) (left more whole : List FunctionCode) → more ≡ f ∷ left → is_some (has f.entry) ≡ true → Kept has more whole → Kept has left whole
kept-known has f left more whole e known kept q = by (nat_eq f.entry q) refl ∙ ap (λ fs. option_or (has q) (arity_of fs q)) (sym e) ∙ kept q
  where
    by : (b : Bool) → nat_eq f.entry q ≡ b → option_or (has q) (arity_of left q) ≡ option_or (has q) (arity_of (f ∷ left) q)
    by true h = some-or (has q) _ _ (ap (λ n. is_some (has n)) (sym (same-number f.entry q h)) ∙ known)
    by false h = ap (option_or (has q)) (sym (arity-cons f left q ∙ ap (λ b. cond b (Some f.arity) (arity_of left q)) h))

pub kept-added : (has new : ℕ → Option ℕ) (f : FunctionCode) (left more whole : List FunctionCode) → more ≡ f ∷ left → is_some (has f.entry) ≡ false
    → ((q : ℕ) → new q ≡ cond (nat_eq f.entry q) (Some f.arity) (has q)) → Kept has more whole → Kept new left whole
kept-added has new f left more whole e unknown adds kept q = by (nat_eq f.entry q) refl ∙ ap (λ fs. option_or (has q) (arity_of fs q)) (sym e) ∙ kept q
  where
    by : (b : Bool) → nat_eq f.entry q ≡ b → option_or (new q) (arity_of left q) ≡ option_or (has q) (arity_of (f ∷ left) q)
    by true h =
        ap (λ o. option_or o (arity_of left q)) (adds q ∙ ap (λ b. cond b (Some f.arity) (has q)) h)
        ∙ sym (none-or (has q) (arity_of (f ∷ left) q) (ap (λ n. is_some (has n)) (sym (same-number f.entry q h)) ∙ unknown) ∙ arity-cons f left q ∙ ap (λ b. cond b (Some f.arity) (arity_of left q)) h)
    by false h =
        ap (λ o. option_or o (arity_of left q)) (adds q ∙ ap (λ b. cond b (Some f.arity) (has q)) h)
        ∙ ap (option_or (has q)) (sym (arity-cons f left q ∙ ap (λ b. cond b (Some f.arity) (arity_of left q)) h))

pub kept-none : (has : ℕ → Option ℕ) (whole : List FunctionCode) → ((q : ℕ) → has q ≡ None) → Kept has whole whole
kept-none has whole empty q = ap (λ o. option_or o (arity_of whole q)) (empty q)

or-none : (o : Option ℕ) → option_or o None ≡ o
or-none None = refl
or-none (Some n) = refl

pub kept-all : (has : ℕ → Option ℕ) (left whole : List FunctionCode) → left ≡ [] → Kept has left whole → (q : ℕ) → has q ≡ arity_of whole q
kept-all has left whole e kept q = sym (or-none (has q)) ∙ ap (λ fs. option_or (has q) (arity_of fs q)) (sym e) ∙ kept q
