-- A list has one number of different elements, and so the constants of a module have one weight.
use Rattle.std.proofs.Common.{◌≡◌, ◌≤◌, ℕ, suc, ◌+◌, ◌*◌, List, [], ◌∷◌, length, refl, sym, ap, subst, ◌∙◌, inl, inr, arith}
use Rattle.beam_code.specs.Code.{ModuleCode}
use Rattle.beam_code.specs.Pool.{IsAmong, AllDiffer, HasDifferent, PoolWeight}
use Rattle.beam_code.specs.Weights.{saturated}

-- a list without one of its elements
abbrev without : {A : Type 0} (x : A) (ys : List A) → IsAmong x ys → List A
without x [] m = []
without x (y ∷ ys) (inl e) = ys
without x (y ∷ ys) (inr m) = y ∷ without x ys m

one-less : {A : Type 0} (x : A) (ys : List A) (m : IsAmong x ys) → suc (length (without x ys m)) ≡ length ys
one-less x [] m = absurd m
one-less x (y ∷ ys) (inl e) = refl
one-less x (y ∷ ys) (inr m) = ap suc (one-less x ys m)

still-among : {A : Type 0} (x z : A) (ys : List A) (m : IsAmong x ys) → IsAmong z ys → (z ≡ x → ⊥) → IsAmong z (without x ys m)
still-among x z [] m k other = absurd m
still-among x z (y ∷ ys) (inl e) (inl i) other = absurd (other (i ∙ sym e))
still-among x z (y ∷ ys) (inl e) (inr k) other = k
still-among x z (y ∷ ys) (inr m) (inl i) other = inl i
still-among x z (y ∷ ys) (inr m) (inr k) other = inr (still-among x z ys m k other)

-- different elements of a list are no more than it has
no-more : {A : Type 0} (xs ys : List A) → AllDiffer xs → ((x : A) → IsAmong x xs → IsAmong x ys) → length xs ≤ length ys
no-more [] ys d h = omega arith
no-more (x ∷ xs) ys d h =
    let m = h x (inl refl) in
    let rest = no-more xs (without x ys m) d.1 (λ z k. still-among x z ys m (h z (inr k)) (λ e. d.0 (subst (λ q. IsAmong q xs) e k))) in
    omega (arith, rest, one-less x ys m)

one-count : {A : Type 0} (all : List A) (v w : ℕ) → HasDifferent all v → HasDifferent all w → v ≡ w
one-count all v w p q =
    let less = no-more p.once q.once p.differ (λ x m. (q.same x).1 ((p.same x).0 m)) in
    let more = no-more q.once p.once q.differ (λ x m. (p.same x).1 ((q.same x).0 m)) in
    omega (arith, less, more, p.count, q.count)

pub one_pool_weight : (m : ModuleCode) (v w : ℕ) → PoolWeight m v → PoolWeight m w → v ≡ w
one_pool_weight m v w p q =
    let values = one-count _ p.values q.values p.values_differ q.values_differ in
    let numbers = one-count _ p.numbers q.numbers p.numbers_differ q.numbers_differ in
    let externals = one-count _ p.externals q.externals p.externals_differ q.externals_differ in
    p.sum ∙ (λ i. saturated (1024 + 6 * length m.functions + 4 * values i + 4 * numbers i + 4 * externals i)) ∙ sym q.sum
