-- The frames by offset, while they are put into a map.
use Rattle.std.proofs.Common.{◌≡◌, ℕ, ℤ, pos, negsuc, Bool, true, false, nat_eq, nat_abs, cond, List, [], ◌∷◌, map, Option, None, Some, is_some, refl, sym, ap, ◌∙◌}
use Rattle.std.specs.List.{find}
use Rattle.std.specs.Option.{option_map, option_or}
use Rattle.std.proofs.lemmas.Bool.Decides.{Decides-int_eq, Decides-eqb, Decides-like, same_from_decides}
use Rattle.std.specs.Ordering.{int_eq}
use Rattle.std.proofs.lemmas.Bool.{true≢false}
use Rattle.jvm_code.specs.declared.types.Frame.{Frame}
use Rattle.class_verifier.specs.Targets.{frame_to}
use Rattle.stack_maps.specs.declared.frame.MapFrame.{MapFrame}
use Rattle.stack_maps.specs.Read.{seen}

same_offset : (m n : ℤ) → int_eq m n ≡ true → m ≡ n
same_offset m n h = (Decides-int_eq m n).0 h

same_test : (m n : ℕ) → int_eq (pos m) (pos n) ≡ nat_eq m n
same_test m n = same_from_decides (int_eq (pos m) (pos n)) (nat_eq m n) (Decides-int_eq (pos m) (pos n)) (Decides-like (nat_eq m n) (ap pos) (ap nat_abs) (Decides-eqb m n))

-- the frame at an offset
abbrev pub found : List MapFrame → ℤ → Option Frame
found frames q = frame_to (map seen frames) q

found_cons : (f : MapFrame) (left : List MapFrame) (q : ℤ) → found (f ∷ left) q ≡ cond (int_eq (pos f.offset) q) (Some f.frame) (found left q)
found_cons f left (negsuc n) = refl
found_cons f left (pos n) = by (nat_eq f.offset n) ∙ sym (ap (λ b. cond b (Some f.frame) (found left (pos n))) (same_test f.offset n))
  where
    by : (b : Bool) → option_map (λ (f : ℕ × Frame). f.1) (cond b (Some (seen f)) (find (λ (f : ℕ × Frame). nat_eq f.0 n) (map seen left))) ≡ cond b (Some f.frame) (found left (pos n))
    by true = refl
    by false = refl

-- what the map has, and else what is left, is what the whole has
abbrev pub Kept : (ℤ → Option Frame) → List MapFrame → List MapFrame → Type 0
Kept has left whole = (q : ℤ) → option_or (has q) (found left q) ≡ found whole q

some_or : (o a b : Option Frame) → is_some o ≡ true → option_or o a ≡ option_or o b
some_or (Some n) a b h = refl
some_or None a b h = absurd (true≢false (sym h))

none_or : (o a : Option Frame) → is_some o ≡ false → option_or o a ≡ a
none_or None a h = refl
none_or (Some n) a h = absurd (true≢false h)

pub kept_known : (has : ℤ → Option Frame) (f : MapFrame) (left more whole : List MapFrame) → more ≡ f ∷ left → is_some (has (pos f.offset)) ≡ true → Kept has more whole → Kept has left whole
kept_known has f left more whole e known kept q = by (int_eq (pos f.offset) q) refl ∙ ap (λ fs. option_or (has q) (found fs q)) (sym e) ∙ kept q
  where
    by : (b : Bool) → int_eq (pos f.offset) q ≡ b → option_or (has q) (found left q) ≡ option_or (has q) (found (f ∷ left) q)
    by true h = some_or (has q) _ _ (ap (λ n. is_some (has n)) (sym (same_offset (pos f.offset) q h)) ∙ known)
    by false h = ap (option_or (has q)) (sym (found_cons f left q ∙ ap (λ b. cond b (Some f.frame) (found left q)) h))

pub kept_added : (has new : ℤ → Option Frame) (f : MapFrame) (left more whole : List MapFrame) → more ≡ f ∷ left → is_some (has (pos f.offset)) ≡ false
    → ((q : ℤ) → new q ≡ cond (int_eq (pos f.offset) q) (Some f.frame) (has q)) → Kept has more whole → Kept new left whole
kept_added has new f left more whole e unknown adds kept q = by (int_eq (pos f.offset) q) refl ∙ ap (λ fs. option_or (has q) (found fs q)) (sym e) ∙ kept q
  where
    by : (b : Bool) → int_eq (pos f.offset) q ≡ b → option_or (new q) (found left q) ≡ option_or (has q) (found (f ∷ left) q)
    by true h =
        ap (λ o. option_or o (found left q)) (adds q ∙ ap (λ b. cond b (Some f.frame) (has q)) h)
        ∙ sym (none_or (has q) (found (f ∷ left) q) (ap (λ n. is_some (has n)) (sym (same_offset (pos f.offset) q h)) ∙ unknown) ∙ found_cons f left q ∙ ap (λ b. cond b (Some f.frame) (found left q)) h)
    by false h =
        ap (λ o. option_or o (found left q)) (adds q ∙ ap (λ b. cond b (Some f.frame) (has q)) h)
        ∙ ap (option_or (has q)) (sym (found_cons f left q ∙ ap (λ b. cond b (Some f.frame) (found left q)) h))

pub kept_none : (has : ℤ → Option Frame) (whole : List MapFrame) → ((q : ℤ) → has q ≡ None) → Kept has whole whole
kept_none has whole empty q = ap (λ o. option_or o (found whole q)) (empty q)

or_none : (o : Option Frame) → option_or o None ≡ o
or_none None = refl
or_none (Some n) = refl

found_none : (q : ℤ) → found [] q ≡ None
found_none (pos n) = refl
found_none (negsuc n) = refl

pub kept_all : (has : ℤ → Option Frame) (left whole : List MapFrame) → left ≡ [] → Kept has left whole → (q : ℤ) → has q ≡ found whole q
kept_all has left whole e kept q = sym (or_none (has q)) ∙ ap (option_or (has q)) (sym (found_none q)) ∙ ap (λ fs. option_or (has q) (found fs q)) (sym e) ∙ kept q
