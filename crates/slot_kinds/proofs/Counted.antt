-- The kinds that a state lists have the counts of the state.
use Rattle.std.proofs.Common.{◌≡◌, ℕ, zero, suc, ◌+◌, ◌-◌, ◌≤◌, Bool, true, false, cond, ◌||◌, List, [], ◌∷◌, length, Option, None, Some, refl, sym, ap, ◌∙◌, arith}
use Rattle.std.specs.Prelude.{not, if◌then◌else◌, option_map}
use Rattle.std.specs.List.{count_by, list_any}
use Rattle.std.specs.Option.{option_map_or}
use Rattle.std.proofs.lemmas.List.Sums.{sum_by-cons}
use Rattle.beam_code.specs.declared.kind.Kind.{Kind}
use Rattle.beam_code.specs.declared.kind.Kind.TheVariants.{Undefined}
use Rattle.beam_code.specs.declared.slot_state.SlotState.{SlotState}
use Rattle.beam_code.specs.Flow.{is_tag}
use Rattle.beam_code.specs.SlotForm.{is_undefined}
use Rattle.beam_code.specs.Slots.{listed, state_of, size}
use Rattle.beam_code.specs.Weights.{defined_among, defined_ys, defined_slots, undefined_ys, any_among, has_any_tag, is_wide_tag, has_wide_tag, if_reached}
use Rattle.beam_code.proofs.KindLists.{frame-size}
use Rattle.slot_kinds.specs.Counted.{is_defined, counts}
use Rattle.slot_kinds.specs.Walked.{counts_at}

-- one where the kind is defined
abbrev one_unless : Bool → ℕ
one_unless b = if b then 0 else 1

abbrev one : Kind → ℕ
one kind = one_unless (is_undefined kind)

one-is : (kind : Kind) → one kind ≡ cond (is_defined kind) 1 0
one-is kind = by (is_undefined kind)
  where
    by : (b : Bool) → one_unless b ≡ cond (not b) 1 0
    by true = refl
    by false = refl

-- the first of a number of kinds, and the others
defined-front : (kinds : ℕ → Kind) (n : ℕ) → defined_among kinds (suc n) ≡ one (kinds 0) + defined_among (λ i. kinds (suc i)) n
defined-front kinds zero = omega arith
defined-front kinds (suc n) = ap (λ m. m + one (kinds (suc n))) (defined-front kinds n) ∙ grouped (one (kinds 0)) (defined_among (λ i. kinds (suc i)) n) (one (kinds (suc n)))
  where
    grouped : (a b c : ℕ) → (a + b) + c ≡ a + (b + c)
    grouped a b c = omega arith

defined-count : (kinds : List Kind) (n : ℕ) → length kinds ≤ n → defined_among (listed kinds) n ≡ count_by is_defined kinds
defined-count [] zero h = refl
defined-count [] (suc n) h = ap (λ m. m + 0) (defined-count [] n (omega arith))
defined-count (kind ∷ kinds) zero h = absurd (omega arith)
defined-count (kind ∷ kinds) (suc n) h =
    defined-front (listed (kind ∷ kinds)) n
    ∙ ap (λ m. one kind + m) (defined-count kinds n (omega arith))
    ∙ ap (λ m. m + count_by is_defined kinds) (one-is kind)
    ∙ sym (sum_by-cons (λ k. cond (is_defined k) 1 0) kind kinds)

any-front : (test : Kind → Bool) (kinds : ℕ → Kind) (n : ℕ) → any_among test kinds (suc n) ≡ (test (kinds 0) || any_among test (λ i. kinds (suc i)) n)
any-front test kinds zero = or-false (test (kinds 0))
  where
    or-false : (b : Bool) → b ≡ (b || false)
    or-false true = refl
    or-false false = refl
any-front test kinds (suc n) =
    ap (λ b. b || test (kinds (suc n))) (any-front test kinds n) ∙ grouped (test (kinds 0)) (any_among test (λ i. kinds (suc i)) n) (test (kinds (suc n)))
  where
    grouped : (a b c : Bool) → ((a || b) || c) ≡ (a || (b || c))
    grouped true b c = refl
    grouped false b c = refl

any-is : (test : Kind → Bool) → test Undefined ≡ false → (kinds : List Kind) (n : ℕ) → length kinds ≤ n → any_among test (listed kinds) n ≡ list_any test kinds
any-is test u [] zero h = refl
any-is test u [] (suc n) h = ap (λ b. b || test Undefined) (any-is test u [] n (omega arith)) ∙ u
any-is test u (kind ∷ kinds) zero h = absurd (omega arith)
any-is test u (kind ∷ kinds) (suc n) h = any-front test (listed (kind ∷ kinds)) n ∙ ap (λ b. test kind || b) (any-is test u kinds n (omega arith))

module _ (s : SlotState) where
  size-is : size (state_of s) ≡ length s.ys
  size-is = frame-size s.frame (length s.ys) s.ys_fit

  pub kept-is : defined_ys (state_of s) ≡ count_by is_defined s.ys
  kept-is = defined-count s.ys (size (state_of s)) (omega (arith, size-is))

  pub slots-are : defined_slots (state_of s) ≡ count_by is_defined s.xs + count_by is_defined s.ys
  slots-are = ap (λ m. m + defined_ys (state_of s)) (defined-count s.xs 1024 s.xs_few) ∙ ap (λ m. count_by is_defined s.xs + m) kept-is

  gaps-are : undefined_ys (state_of s) ≡ length s.ys - count_by is_defined s.ys
  gaps-are = ap (λ m. m - defined_ys (state_of s)) size-is ∙ ap (λ m. length s.ys - m) kept-is

  tagged-is : has_any_tag (state_of s) ≡ list_any is_tag s.ys
  tagged-is = any-is is_tag refl s.ys (size (state_of s)) (omega (arith, size-is))

  pub wide-is : has_wide_tag (state_of s) ≡ list_any is_wide_tag s.ys
  wide-is = any-is is_wide_tag refl s.ys (size (state_of s)) (omega (arith, size-is))

-- the counts of what is listed are those of the state
pub counts-are : (before : Option SlotState) → counts_at (option_map state_of before) ≡ counts before
counts-are None = refl
counts-are (Some s) = λ i. record { slots = slots-are s i; kept = kept-is s i; gaps = gaps-are s i; tagged = tagged-is s i }

-- how many slots are defined
pub reached-slots : (o : Option SlotState) → if_reached defined_slots (option_map state_of o) ≡ option_map_or (λ (s : SlotState). count_by is_defined s.xs + count_by is_defined s.ys) o 0
reached-slots None = refl
reached-slots (Some s) = slots-are s

-- whether a tag has more than one label
pub reached-wide : (o : Option SlotState) → option_map_or has_wide_tag (option_map state_of o) false ≡ option_map_or (λ (s : SlotState). list_any is_wide_tag s.ys) o false
reached-wide None = refl
reached-wide (Some s) = wide-is s
