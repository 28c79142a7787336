-- A source's term as a list of the terms in it, and a stack that the list is worked through with from its end.
use Rattle.std.proofs.Common.{◌≡◌, ℕ, ◌+◌, ◌-◌, ◌<◌, nat_le, Bool, true, false, ◌||◌, if◌then◌else◌, List, [], ◌∷◌, ◌++◌, length, map, take, drop, Option, Some, option_map, option_and_then, refl, sym, ap, ap₂, ◌∙◌, arith}
use Rattle.std.specs.Prelude as std
use Rattle.std.specs.Prelude.{IsSome, slice_index_or}
use Rattle.std.specs.List.{list_any}
use Rattle.std.specs.Borrow.{Bor}
use Rattle.std.proofs.lemmas.Bool.{le-leb}
use Rattle.std.proofs.lemmas.List.{length-append, length-map, map-append, append_assoc, take_more}
use Rattle.std.proofs.lemmas.List.Folds.{list_any-append}
use Rattle.std.proofs.Math.Seq.{take-append_seam, drop-append_seam}
use Rattle.ej_term.specs.declared.asm_term.AsmTerm.{AsmTerm}
use Rattle.ej_term.specs.Term.{Term}
use Rattle.ej_term.specs.AsmValue.{every, value, has_opaque}
use Rattle.term_heap.specs.Preorder.{flat, inner, made_of, applied, evaluated, total, count}
use Rattle.term_heap.proofs.Layers.{value-parts, count-parts}
use Rattle.term_heap.proofs.Meanings.{length-every}

-- one list of options and another
every-append : {X : Type 0} (os ps : List (Option X)) → every (os ++ ps) ≡ option_and_then (λ xs. option_map (λ ys. xs ++ ys) (every ps)) (every os)
every-append {X = X} [] ps = whole (every ps)
  where
    whole : (o : Option (List X)) → o ≡ option_map (λ ys. [] ++ ys) o
    whole std.None = refl
    whole (Some xs) = refl
every-append (std.None ∷ os) ps = refl
every-append {X = X} (Some x ∷ os) ps = ap (option_map (◌∷◌ x)) (every-append os ps) ∙ both (every os) (every ps)
  where
    both : (o p : Option (List X)) → option_map (◌∷◌ x) (option_and_then (λ xs. option_map (λ ys. xs ++ ys) p) o) ≡ option_and_then (λ xs. option_map (λ ys. xs ++ ys) p) (option_map (◌∷◌ x) o)
    both std.None p = refl
    both (Some xs) std.None = refl
    both (Some xs) (Some ys) = refl

-- the last of a stack are the parts of a term
pub applied-seam : (t : AsmTerm) (xs ws : List Term) → length ws ≡ length (inner t) → applied t (xs ++ ws) ≡ option_map (λ v. xs ++ v ∷ []) (made_of t ws)
applied-seam t xs ws e =
    let sized = length-append xs ws in
    let within : nat_le (length (inner t)) (length (xs ++ ws)) ≡ true = le-leb (length (inner t)) (length (xs ++ ws)) (omega (arith, sized, e)) in
    let front : length (xs ++ ws) - length (inner t) ≡ length xs = omega (arith, sized, e) in
    ap (λ b. if b then option_map (λ v. take (length (xs ++ ws) - length (inner t)) (xs ++ ws) ++ v ∷ []) (made_of t (drop (length (xs ++ ws) - length (inner t)) (xs ++ ws))) else std.None) within
    ∙ ap (λ n. option_map (λ v. take n (xs ++ ws) ++ v ∷ []) (made_of t (drop n (xs ++ ws)))) front
    ∙ ap₂ (λ (fs bs : List Term). option_map (λ v. fs ++ v ∷ []) (made_of t bs)) (take-append_seam xs ws) (drop-append_seam xs ws)

-- a term applied to the values of its parts
applied-parts : (t : AsmTerm) (os : List (Option Term)) → option_and_then (applied t) (every (os ++ map value (inner t))) ≡ every (os ++ value t ∷ [])
applied-parts t os =
    ap (option_and_then (applied t)) (every-append os (map value (inner t)))
    ∙ by (every os) (every (map value (inner t))) (λ ws e. length-every (map value (inner t)) ws e ∙ length-map (inner t) value)
    ∙ sym (ap (λ (o : Option Term). every (os ++ o ∷ [])) (value-parts t) ∙ every-append os (option_and_then (made_of t) (every (map value (inner t))) ∷ []))
  where
    last : (xs : List Term) (o : Option Term) → option_map (λ v. xs ++ v ∷ []) o ≡ option_map (λ ys. xs ++ ys) (every (o ∷ []))
    last xs std.None = refl
    last xs (Some v) = refl

    by : (o p : Option (List Term)) → ((ws : List Term) → p ≡ Some ws → length ws ≡ length (inner t))
        → option_and_then (applied t) (option_and_then (λ xs. option_map (λ ys. xs ++ ys) p) o) ≡ option_and_then (λ xs. option_map (λ ys. xs ++ ys) (every (option_and_then (made_of t) p ∷ []))) o
    by std.None p sized = refl
    by (Some xs) std.None sized = refl
    by (Some xs) (Some ws) sized = applied-seam t xs ws (sized ws refl) ∙ last xs (made_of t ws)

-- one list behind another
pub evaluated-append : (xs ys : List AsmTerm) (stack : List Term) → evaluated (xs ++ ys) stack ≡ option_and_then (evaluated xs) (evaluated ys stack)
evaluated-append [] ys stack = whole (evaluated ys stack)
  where
    whole : (o : Option (List Term)) → o ≡ option_and_then (evaluated []) o
    whole std.None = refl
    whole (Some s) = refl
evaluated-append (x ∷ xs) ys stack = ap (option_and_then (applied x)) (evaluated-append xs ys stack) ∙ chain (evaluated ys stack)
  where
    chain : (o : Option (List Term)) → option_and_then (applied x) (option_and_then (evaluated xs) o) ≡ option_and_then (evaluated (x ∷ xs)) o
    chain std.None = refl
    chain (Some s) = refl

-- What the list so far makes of the values of the pending terms stays the value of the whole.

abbrev pub so_far : (order pending : List AsmTerm) → Option (List Term)
so_far order pending = option_and_then (evaluated order) (every (map value pending))

pub taken : (order new popped pending pushed : List AsmTerm) (t : AsmTerm) (whole : Option (List Term)) → so_far order pending ≡ whole → pending ≡ popped ++ t ∷ [] → pushed ≡ popped ++ inner t → new ≡ order ++ t ∷ []
    → so_far new pushed ≡ whole
taken order new popped pending pushed t whole e was now more =
    ap₂ so_far more now
    ∙ ap (λ os. option_and_then (evaluated (order ++ t ∷ [])) (every os)) (map-append value popped (inner t))
    ∙ later (every (map value popped ++ map value (inner t)))
    ∙ ap (option_and_then (evaluated order)) (applied-parts t (map value popped))
    ∙ ap (λ os. option_and_then (evaluated order) (every os)) (sym (map-append value popped (t ∷ [])))
    ∙ ap (so_far order) (sym was) ∙ e
  where
    later : (o : Option (List Term)) → option_and_then (evaluated (order ++ t ∷ [])) o ≡ option_and_then (evaluated order) (option_and_then (applied t) o)
    later std.None = refl
    later (Some s) = evaluated-append order (t ∷ []) s

-- whether an opaque token is pending
pub taken-opaque : (popped pending pushed : List AsmTerm) (t : AsmTerm) (b : Bool) → b ≡ list_any has_opaque pending → pending ≡ popped ++ t ∷ [] → pushed ≡ popped ++ inner t
    → has_opaque t ≡ list_any has_opaque (inner t) → b ≡ list_any has_opaque pushed
taken-opaque popped pending pushed t b e was now same =
    e ∙ ap (list_any has_opaque) was ∙ list_any-append has_opaque popped (t ∷ [])
    ∙ ap (λ c. list_any has_opaque popped || c) (alone (has_opaque t) ∙ same)
    ∙ sym (ap (list_any has_opaque) now ∙ list_any-append has_opaque popped (inner t))
  where
    alone : (c : Bool) → (c || false) ≡ c
    alone true = refl
    alone false = refl

-- how many terms are still to be taken
abbrev pub counts : List AsmTerm → ℕ
counts ts = total (map count ts)

counts-append : (xs ys : List AsmTerm) → counts (xs ++ ys) ≡ counts xs + counts ys
counts-append [] ys = omega arith
counts-append (x ∷ xs) ys = ap (λ n. count x + n) (counts-append xs ys) ∙ omega arith

pub taken-fewer : (popped pending pushed : List AsmTerm) (t : AsmTerm) → pending ≡ popped ++ t ∷ [] → pushed ≡ popped ++ inner t → counts pushed < counts pending
taken-fewer popped pending pushed t was now =
    let more : counts pushed ≡ counts popped + counts (inner t) = ap counts now ∙ counts-append popped (inner t) in
    let all : counts pending ≡ counts popped + (count t + 0) = ap counts was ∙ counts-append popped (t ∷ []) in
    let parts = count-parts t in
    omega (arith, more, all, parts)

-- what references stand for
abbrev pub behind : List (Bor AsmTerm) → List AsmTerm
behind refs = map (λ x. x.now) refs

pub behind-last : (refs popped : List (Bor AsmTerm)) (x : Bor AsmTerm) → refs ≡ popped ++ x ∷ [] → behind refs ≡ behind popped ++ x.now ∷ []
behind-last refs popped x e = ap behind e ∙ map-append (λ (r : Bor AsmTerm). r.now) popped (x ∷ [])

flat-append : (ps qs : List (AsmTerm × AsmTerm)) → flat (ps ++ qs) ≡ flat ps ++ flat qs
flat-append [] qs = refl
flat-append (p ∷ ps) qs = ap (λ ts. p.0 ∷ p.1 ∷ ts) (flat-append ps qs)

-- one more pair
pub flat-step : (first old mid new : List AsmTerm) (pairs : List (AsmTerm × AsmTerm)) (at : ℕ) (item : AsmTerm × AsmTerm) → at < length pairs → item ≡ slice_index_or pairs at item
    → old ≡ first ++ flat (take at pairs) → mid ≡ old ++ item.0 ∷ [] → new ≡ mid ++ item.1 ∷ [] → new ≡ first ++ flat (take (at + 1) pairs)
flat-step first old mid new pairs at item within picked is one' two =
    two ∙ ap (λ ts. ts ++ item.1 ∷ []) (one' ∙ ap (λ ts. ts ++ item.0 ∷ []) is)
    ∙ append_assoc (first ++ flat (take at pairs)) (item.0 ∷ []) (item.1 ∷ []) ∙ append_assoc first (flat (take at pairs)) (item.0 ∷ item.1 ∷ [])
    ∙ sym (ap (λ ts. first ++ flat ts) (take_more pairs at item within ∙ ap (λ (p : AsmTerm × AsmTerm). take at pairs ++ p ∷ []) (sym picked)) ∙ ap (λ ts. first ++ ts) (flat-append (take at pairs) (item ∷ [])))
