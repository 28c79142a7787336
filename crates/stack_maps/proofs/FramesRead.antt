-- How the loop over frames goes on.
use Rattle.std.proofs.Common.{◌≡◌, ℕ, suc, ◌-◌, ◌<◌, List, [], ◌∷◌, ◌++◌, length, slice_get, Option, Some, refl, sym, ap, ◌∙◌, subst, append-nil, length-append, arith}
use Rattle.jvm_code.specs.declared.class.Constant.{Constant}
use Rattle.stack_maps.specs.declared.fault.MapFault.{MapFault}
use Rattle.stack_maps.specs.declared.fault.MapFault.TheVariants.{BadMap, NoMemory}
use Rattle.stack_maps.specs.declared.frame.MapFrame.{MapFrame}
use Rattle.stack_maps.specs.Gave.{Failed}
use Rattle.stack_maps.specs.Read.{Got, done, go_on, then_read, map_frame, map_frames, last}
use Rattle.stack_maps.proofs.TimesRead.{onto, onto_cons}

-- the last of items to which one is put is that one
last_at : (front : List MapFrame) (x : MapFrame) → slice_get (front ++ x ∷ []) (length front) ≡ Some x
last_at [] x = refl
last_at (f ∷ front) x = last_at front x

pub last_push : (front : List MapFrame) (x : MapFrame) → last (front ++ x ∷ []) ≡ Some x
last_push front x = ap (slice_get (front ++ x ∷ [])) (omega (arith, length-append front (x ∷ []))) ∙ last_at front x

module _ (pool : List Constant) where
  first : (left k : ℕ) (before : Option MapFrame) (rest : List ℕ) → left ≡ suc k
      → map_frames pool left before rest ≡ go_on (map_frame pool before rest) (λ x. then_read (map_frames pool k (Some x)) (λ xs. done (x ∷ xs)))
  first left k before rest e = ap (λ n. map_frames pool n before rest) e

  pub step_on : (front : List MapFrame) (left : ℕ) (rest : List ℕ) (x : MapFrame) (behind : List ℕ) → 0 < left → map_frame pool (last front) rest ≡ Some (x, behind)
      → onto front (map_frames pool left (last front) rest) ≡ onto (front ++ x ∷ []) (map_frames pool (left - 1) (last (front ++ x ∷ [])) behind)
  step_on front left rest x behind l h = ap (onto front) (first left (left - 1) (last front) rest (omega (arith, l)))
      ∙ ap (λ g. onto front (go_on g (λ x. then_read (map_frames pool (left - 1) (Some x)) (λ xs. done (x ∷ xs))))) h
      ∙ onto_cons front x (map_frames pool (left - 1) (Some x) behind)
      ∙ ap (λ b. onto (front ++ x ∷ []) (map_frames pool (left - 1) b behind)) (sym (last_push front x))

  pub stops : (front : List MapFrame) (left : ℕ) (rest : List ℕ) (fault : MapFault) (all : Got (List MapFrame)) → 0 < left
      → onto front (map_frames pool left (last front) rest) ≡ all → Failed (map_frame pool (last front) rest) fault → Failed all fault
  stops front left rest BadMap all l i h = sym i ∙ ap (onto front) (first left (left - 1) (last front) rest (omega (arith, l)))
      ∙ ap (λ g. onto front (go_on g (λ x. then_read (map_frames pool (left - 1) (Some x)) (λ xs. done (x ∷ xs))))) h
  stops front left rest NoMemory all l i h = tt

  pub at_end : (front : List MapFrame) (left : ℕ) (rest : List ℕ) (all : Got (List MapFrame)) → left ≡ 0
      → onto front (map_frames pool left (last front) rest) ≡ all → all ≡ Some (front, rest)
  at_end front left rest all l i = sym i ∙ ap (λ n. onto front (map_frames pool n (last front) rest)) l ∙ ap (λ xs. Some (xs, rest)) (append-nil front)

  -- the same, where the last one is known by its equation
  pub stopped : (front : List MapFrame) (left : ℕ) (rest : List ℕ) (fault : MapFault) (all : Got (List MapFrame)) (before : Option MapFrame) → 0 < left → before ≡ last front
      → onto front (map_frames pool left (last front) rest) ≡ all → Failed (map_frame pool before rest) fault → Failed all fault
  stopped front left rest fault all before l e i h = stops front left rest fault all l i (subst (λ b. Failed (map_frame pool b rest) fault) e h)
