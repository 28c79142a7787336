-- Terms of a choice that are loaded.
use Rattle.std.proofs.Common.{◌≡◌, ℕ, suc, ◌+◌, ◌<◌, ◌≤◌, List, [], ◌∷◌, ◌++◌, length, map, take, get_or, Option, None, Some, option_map, refl, sym, ap, ap₂, subst, ◌∙◌, arith}
use Rattle.std.proofs.Math.Seq.{take-suc}
use Rattle.std.proofs.lemmas.List.{map_push, length-map, take_all}
use Rattle.std.proofs.lemmas.Option.{same_Some}
use Rattle.std.proofs.lemmas.List.Elements.{All-nil, All-push}
use Rattle.ej_term.specs.declared.asm_term.AsmTerm.{AsmTerm}
use Rattle.ej_term.specs.AsmValue.{value, every}
use Rattle.ej_term.specs.Term.{Term, Atom, Nil, Cons, list}
use Rattle.ej_term.specs.Lists.{list_onto}
use Rattle.ej_world.specs.declared.effect.Begin.{Begin}
use Rattle.ej_world.specs.declared.effect.Begin.TheVariants as begin
use Rattle.ej_world.specs.Lawful.{IsBegin}
use Rattle.term_heap.specs.declared.cell.TermId.{TermId}
use Rattle.term_heap.specs.declared.heap.Heap.{Heap}
use Rattle.term_heap.specs.Held.{HoldsEach, terms_at}
use Rattle.term_heap.specs.Loaded.{IsLoaded}
use Rattle.term_heap.specs.View.{Keeps, Holds, Stands, term_of}
use Rattle.term_heap.proofs.Kept.{keeps-then, kept-each, kept-terms, held, kept-term, stands-held, stands-term, still-stands}
use Rattle.proc_sched.specs.Calls.{MayBegin}
use Rattle.proc_sched.specs.Loaded.{IsList, IsCall}
use Rattle.proc_sched.proofs.NodeLaw.{same-heap}

-- ---- all values are there, one by one

pub every-push : {X : Type 0} (xs : List (Option X)) (ys : List X) (o : Option X) (x : X) → every xs ≡ Some ys → o ≡ Some x → every (xs ++ o ∷ []) ≡ Some (ys ++ x ∷ [])
every-push {X} [] ys o x e is = ap (λ (o : Option X). every (o ∷ [])) is ∙ ap (λ (ys : List X). Some (ys ++ x ∷ [])) (none ys e)
  where
    none : (ys : List X) → Some [] ≡ Some ys → [] ≡ ys
    none [] e = refl
    none (y ∷ ys) e = absurd cc
every-push (None ∷ xs) ys o x e is = absurd cc
every-push {X} (Some z ∷ xs) ys o x e is = by (every xs) refl e (λ zs is_all. every-push xs zs o x is_all is)
  where
    by : (all : Option (List X)) → every xs ≡ all → option_map (λ zs. z ∷ zs) all ≡ Some ys → ((zs : List X) → every xs ≡ Some zs → every (xs ++ o ∷ []) ≡ Some (zs ++ x ∷ [])) → option_map (λ zs. z ∷ zs) (every (xs ++ o ∷ [])) ≡ Some (ys ++ x ∷ [])
    by None is_all e rest = absurd cc
    by (Some zs) is_all e rest = ap (option_map (λ zs. z ∷ zs)) (rest zs is_all) ∙ ap (λ (o : Option (List X)). option_map (λ ys. ys ++ x ∷ []) o) e

-- ---- terms that are loaded one after the other

-- the terms before a place are loaded
pub record LoadedTo (terms : List AsmTerm) (at : ℕ) (old new : Heap) (ids : List TermId) : Type 0 where
  pub keeps : Keeps old new
  pub held : HoldsEach new ids
  pub are : every (map value (take at terms)) ≡ Some (terms_at new ids)

pub loaded-none : (terms : List AsmTerm) (heap : Heap) → LoadedTo terms 0 heap heap []
loaded-none terms heap = record { keeps = same-heap heap; held = All-nil (Holds heap); are = refl }

pub loaded-more : (terms : List AsmTerm) (at : ℕ) (old mid new : Heap) (ids : List TermId) (id : TermId) (t : AsmTerm) → at < length terms → t ≡ get_or terms at t → LoadedTo terms at old mid ids → Keeps mid new → IsLoaded new t id
    → LoadedTo terms (at + 1) old new (ids ++ id ∷ [])
loaded-more terms at old mid new ids id t lt same so_far keeps loaded = record {
  keeps = keeps-then old mid new so_far.keeps keeps;
  held = All-push (Holds new) ids id (kept-each mid new ids keeps so_far.held) loaded.0;
  are = ap (λ ts. every (map value ts)) more ∙ (ap every (map_push value (take at terms) (get_or terms at t)) ∙ (every-push (map value (take at terms)) (terms_at mid ids) (value (get_or terms at t)) (term_of new id) so_far.are (sym (ap value same) ∙ loaded.1)
      ∙ ap Some (ap (λ ts. ts ++ term_of new id ∷ []) (sym (kept-terms mid new ids keeps so_far.held)) ∙ sym (map_push (term_of new) ids id))));
}
  where
    more : take (at + 1) terms ≡ take at terms ++ get_or terms at t ∷ []
    more = let next : at + 1 ≡ suc at = omega arith in ap (λ n. take n terms) next ∙ take-suc terms at t lt

-- ---- lists and calls

onto-nil : (ts : List Term) → list_onto ts Nil ≡ list ts
onto-nil [] = refl
onto-nil (t ∷ ts) = ap (Cons t) (onto-nil ts)

pub is-list : (terms : List AsmTerm) (old with_nil new : Heap) (ids : List TermId) (nil id : TermId) → HoldsEach old ids → every (map value terms) ≡ Some (terms_at old ids) → Keeps old with_nil → Stands with_nil nil Nil
    → Stands new id (list_onto (terms_at with_nil ids) (term_of with_nil nil)) → IsList terms new id
is-list terms old with_nil new ids nil id all are keeps is_nil stands = record {
  held = stands-held new id _ stands;
  parts = terms_at old ids;
  are = are;
  is = stands-term new id _ stands ∙ (ap₂ list_onto (kept-terms old with_nil ids keeps all) (stands-term with_nil nil Nil is_nil) ∙ onto-nil (terms_at old ids));
}

pub is-call : (module' name : List ℕ) (args : List AsmTerm) (old with_module new : Heap) (m f list' : TermId) → IsList args old list' → Keeps old with_module → Stands with_module m (Atom module') → Keeps with_module new → Stands new f (Atom name)
    → IsCall module' name args new (begin.Call m f list')
is-call module' name args old with_module new m f list' is keeps is_module more is_name =
    let all = keeps-then old with_module new keeps more in
    let still = still-stands with_module new m (Atom module') more is_module in
    record {
      held = (stands-held new m (Atom module') still, stands-held new f (Atom name) is_name, held old new list' all is.held);
      parts = is.parts;
      are = is.are;
      is = ap₂ (λ (p : Term × Term) (t : Term). begin.Call p.0 p.1 t) (ap₂ (λ (a b : Term). (a, b)) (stands-term new m (Atom module') still) (stands-term new f (Atom name) is_name)) (kept-term old new list' all is.held ∙ is.is);
    }

every-length : {X : Type 0} (xs : List (Option X)) (ys : List X) → every xs ≡ Some ys → length ys ≡ length xs
every-length [] [] e = refl
every-length [] (y ∷ ys) e = absurd cc
every-length (None ∷ xs) ys e = absurd cc
every-length {X} (Some z ∷ xs) ys e = by (every xs) ys refl e (every-length xs)
  where
    by : (all : Option (List X)) (ys : List X) → every xs ≡ all → option_map (λ zs. z ∷ zs) all ≡ Some ys → ((zs : List X) → every xs ≡ Some zs → length zs ≡ length xs) → length ys ≡ suc (length xs)
    by None ys is e rest = absurd cc
    by (Some zs) [] is e rest = absurd cc
    by (Some zs) (y ∷ ys) is e rest = let same : z ∷ zs ≡ y ∷ ys = same_Some (z ∷ zs) (y ∷ ys) e in omega (arith, ap length same, rest zs is)

-- a call of at most 255 arguments is one with which a process may begin
pub may-begin : (module' name : List ℕ) (args : List AsmTerm) (heap : Heap) (how : Begin TermId) → IsCall module' name args heap how → length args ≤ 255 → MayBegin heap how
may-begin module' name args heap how is le = record {
  held = is.held;
  is_begin = subst IsBegin (sym is.is) (is.parts, refl, omega (arith, le, every-length (map value args) is.parts is.are, length-map args value));
}

-- all are loaded
pub loaded-all : (terms : List AsmTerm) (at : ℕ) (old new : Heap) (ids : List TermId) → length terms ≤ at → LoadedTo terms at old new ids → every (map value terms) ≡ Some (terms_at new ids)
loaded-all terms at old new ids le so_far = subst (λ ts. every (map value ts) ≡ Some (terms_at new ids)) (take_all at terms le) so_far.are
