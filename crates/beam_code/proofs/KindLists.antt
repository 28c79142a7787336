-- Lists of kinds, while they are changed.
use Rattle.std.proofs.Common.{◌≡◌, ℕ, zero, suc, ◌+◌, ◌-◌, List, [], ◌∷◌, ◌++◌, length, get_or, refl, sym, ap, subst, ◌∙◌, arith, length-append, append_assoc, append-nil}
use Rattle.std.specs.Prelude.{nat_lt, Bool, true, false, if◌then◌else◌, Option, None, Some, MatchOption, slice_get, unwrap_or}
use Rattle.std.proofs.lemmas.Bool.Decides.{nat_tests}
use Rattle.std.proofs.lemmas.List.{get_or_past}
use Rattle.std.proofs.lemmas.Option.{unwrap_or-slice_get}
use Rattle.std.proofs.Math.Seq.{get_or-append_seam}
use Rattle.beam_code.specs.declared.kind.Kind.{Kind}
use Rattle.beam_code.specs.declared.kind.Kind.TheVariants as k
use Rattle.beam_code.specs.Flow.{tag_labels, lowest_tag}
use Rattle.beam_code.specs.Kinds.{IsFront, first_tag}
use Rattle.beam_code.specs.SlotForm.{is_undefined, ends_undefined, is_size}
use Rattle.beam_code.specs.Slots.{listed}

pub undefined-is : (kind : Kind) → is_undefined kind ≡ true → kind ≡ k.Undefined
undefined-is k.Undefined h = refl
undefined-is k.Term h = cc
undefined-is k.OptTerm h = cc
undefined-is (k.Tag labels) h = cc
undefined-is k.Trace h = cc
undefined-is k.Marker h = cc

pub behind-last : (kinds : List Kind) (last : Kind) → get_or (kinds ++ last ∷ []) (length (kinds ++ last ∷ []) - 1) k.Term ≡ last
behind-last kinds last = ap (λ n. get_or (kinds ++ last ∷ []) n k.Term) place ∙ get_or-append_seam kinds last [] k.Term
  where
    place : length (kinds ++ last ∷ []) - 1 ≡ length kinds
    place = omega (arith, length-append kinds (last ∷ []))

undefined-behind : (kinds : List Kind) (n : ℕ) → get_or (kinds ++ k.Undefined ∷ []) n k.Undefined ≡ get_or kinds n k.Undefined
undefined-behind [] zero = refl
undefined-behind [] (suc n) = refl
undefined-behind (kind ∷ kinds) zero = refl
undefined-behind (kind ∷ kinds) (suc n) = undefined-behind kinds n

-- an undefined kind at the end says nothing
pub dropped-same : (new old : List Kind) (last : Kind) → old ≡ new ++ last ∷ [] → ends_undefined old ≡ true → listed new ≡ listed old
dropped-same new old last e h = λ i n. (sym (undefined-behind new n) ∙ ap (λ l. get_or (new ++ l ∷ []) n k.Undefined) (sym is) ∙ ap (λ ks. get_or ks n k.Undefined) (sym e)) i
  where
    is : last ≡ k.Undefined
    is = sym (behind-last new last) ∙ undefined-is _ (ap (λ ks. is_undefined (get_or ks (length ks - 1) k.Term)) (sym e) ∙ h)

pub none-behind : (kinds : List Kind) (n : ℕ) → n ≡ length kinds → None ≡ slice_get kinds (n - 1) → false ≡ ends_undefined kinds
none-behind kinds n e h =
    ap (λ o. is_undefined (unwrap_or o k.Term)) h ∙ ap is_undefined (unwrap_or-slice_get kinds (n - 1) k.Term) ∙ ap (λ m. is_undefined (get_or kinds (m - 1) k.Term)) e

pub front-none : (kinds : List Kind) → IsFront kinds kinds
front-none kinds = ([], sym (append-nil kinds))

pub front-more : (new old all : List Kind) (last : Kind) → old ≡ new ++ last ∷ [] → IsFront old all → IsFront new all
front-more new old all last e f = (last ∷ f.0, f.1 ∙ ap (λ ks. ks ++ f.0) e ∙ append_assoc new (last ∷ []) f.0)

-- the last one is gone
pub trimmed-more : (r : Option Kind) (new old all : List Kind) → MatchOption r ((old ≡ []) × (new ≡ [])) (λ last. old ≡ new ++ last ∷ []) → ends_undefined old ≡ true → IsFront old all → listed old ≡ listed all
    → IsFront new all × (listed new ≡ listed all)
trimmed-more None new old all e h f s = (subst (λ ks. IsFront ks all) (e.0 ∙ sym e.1) f, ap listed (e.1 ∙ sym e.0) ∙ s)
trimmed-more (Some last) new old all e h f s = (front-more new old all last e f, dropped-same new old last e h ∙ s)

-- States of listed kinds.

pub first-tag-lowest : (kinds : List Kind) (at : ℕ) (ys : ℕ → Kind) → ((n : ℕ) → ys (at + n) ≡ get_or kinds n k.Undefined) → first_tag kinds ≡ lowest_tag ys at (length kinds)
first-tag-lowest [] at ys h = refl
first-tag-lowest (kind ∷ kinds) at ys h = by kind (first-tag-lowest kinds (at + 1) ys (λ n. ap ys (omega arith) ∙ h (suc n))) ∙ ap (λ o. unwrap_or (tag_labels o) (lowest_tag ys (at + 1) (length kinds))) (sym (ap ys (omega arith) ∙ h 0))
  where
    by : (kind : Kind) → first_tag kinds ≡ lowest_tag ys (at + 1) (length kinds) → first_tag (kind ∷ kinds) ≡ unwrap_or (tag_labels kind) (lowest_tag ys (at + 1) (length kinds))
    by (k.Tag labels) e = refl
    by k.Undefined e = e
    by k.Term e = e
    by k.OptTerm e = e
    by k.Trace e = e
    by k.Marker e = e

-- the size of the frame is the number of slots
pub frame-size : (frame : Option ℕ) (n : ℕ) → is_size frame n ≡ true → unwrap_or frame 0 ≡ n
frame-size None n h = grind (arith, nat_tests)
frame-size (Some size) n h = grind (arith, nat_tests)

pub past-end : (kinds : List Kind) (n : ℕ) → get_or kinds n k.Undefined ≡ (if nat_lt n (length kinds) then get_or kinds n k.Undefined else k.Undefined)
past-end kinds n = by (nat_lt n (length kinds)) refl
  where
    by : (b : Bool) → nat_lt n (length kinds) ≡ b → get_or kinds n k.Undefined ≡ (if b then get_or kinds n k.Undefined else k.Undefined)
    by true h = refl
    by false h = get_or_past kinds n k.Undefined (grind (arith, nat_tests))
