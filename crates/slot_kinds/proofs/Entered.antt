-- Sets of labels, while labels are added to them.
use Rattle.std.proofs.Common.{◌≡◌, ℕ, Bool, true, false, nat_eq, ◌||◌, List, [], ◌∷◌, ◌++◌, Option, None, Some, refl, sym, ap, ◌∙◌}
use Rattle.std.specs.List.{filter}
use Rattle.std.proofs.lemmas.List.Elements.{filter-append}
use Rattle.std.proofs.lemmas.List.Folds.{list_any-append}
use Rattle.beam_code.specs.FlowSeen.{with_first}
use Rattle.beam_code.specs.Labels.{is_in}
use Rattle.slot_kinds.specs.Walked.{Adds}

or-assoc : (a b c : Bool) → ((a || b) || c) ≡ (a || (b || c))
or-assoc true b c = refl
or-assoc false b c = refl

or-false : (a : Bool) → (a || false) ≡ a
or-false true = refl
or-false false = refl

-- some labels, and then others
pub adds-then : (old mid new : ℕ → Bool) (some others : List ℕ) → Adds old mid some → Adds mid new others → Adds old new (some ++ others)
adds-then old mid new some others a b label =
    b label ∙ ap (λ c. c || is_in others label) (a label) ∙ or-assoc (old label) (is_in some label) (is_in others label)
    ∙ ap (λ c. old label || c) (sym (list_any-append (nat_eq label) some others))

pub adds-nothing : (has : ℕ → Bool) → Adds has has []
adds-nothing has label = sym (or-false (has label))

first-filtered : (seen : ℕ → Bool) (label : Option ℕ) (labels : List ℕ) → filter seen (with_first label labels) ≡ filter seen (with_first label []) ++ filter seen labels
first-filtered seen None labels = refl
first-filtered seen (Some label) labels = filter-append seen (label ∷ []) labels

-- the first label of a branch, and then those of its cases
pub adds-branches : (seen old mid new : ℕ → Bool) (label : Option ℕ) (labels : List ℕ) → Adds old mid (filter seen (with_first label [])) → Adds mid new (filter seen labels)
    → Adds old new (filter seen (with_first label labels))
adds-branches seen old mid new label labels a b q =
    adds-then old mid new (filter seen (with_first label [])) (filter seen labels) a b q
    ∙ ap (λ all. old q || is_in all q) (sym (first-filtered seen label labels))

-- the labels that are left, where one more was added
pub adds-more : (seen has new : ℕ → Bool) (label : ℕ) (labels : List ℕ) → Adds has new (filter seen (label ∷ []))
    → (q : ℕ) → (new q || is_in (filter seen labels) q) ≡ (has q || is_in (filter seen (label ∷ labels)) q)
adds-more seen has new label labels a q =
    ap (λ c. c || is_in (filter seen labels) q) (a q) ∙ or-assoc (has q) (is_in (filter seen (label ∷ [])) q) (is_in (filter seen labels) q)
    ∙ ap (λ c. has q || c) (sym (list_any-append (nat_eq q) (filter seen (label ∷ [])) (filter seen labels)))
    ∙ ap (λ all. has q || is_in all q) (sym (filter-append seen (label ∷ []) labels))

-- the numbers that are left, where some were added
pub adds-some : (has new : ℕ → Bool) (some more : List ℕ) → Adds has new some → (q : ℕ) → (new q || is_in more q) ≡ (has q || is_in (some ++ more) q)
adds-some has new some more a q =
    ap (λ c. c || is_in more q) (a q) ∙ or-assoc (has q) (is_in some q) (is_in more q) ∙ ap (λ c. has q || c) (sym (list_any-append (nat_eq q) some more))
