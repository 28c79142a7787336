-- What a module's constants weigh by the first path's definition is no more than the whole weight of its pool.
use Rattle.std.proofs.Common.{◌≡◌, ℕ, suc, ◌+◌, ◌*◌, ◌≤◌, Bool, true, false, ◌||◌, List, [], ◌∷◌, ◌++◌, length, map, ◌⊎◌, inl, inr, refl, sym, ap, ◌∙◌, subst, arith}
use Rattle.std.specs.Prelude.{if◌then◌else◌, fold}
use Rattle.std.specs.List.{list_any, filter_map, flat_map, cons_option}
use Rattle.std.proofs.lemmas.Bool.{true≢false}
use Rattle.std.proofs.lemmas.Bool.Decides.{Decides-int_eq}
use Rattle.std.proofs.lemmas.Grind.{flat_map-append}
use Rattle.std.proofs.lemmas.List.{length-map, map-append}
use Rattle.std.proofs.lemmas.Slice.Eq.{bytes_eq-Decides}
use Rattle.beam_code.specs.declared.module.Function.{Function}
use Rattle.beam_code.specs.declared.module.Module.{Module}
use Rattle.beam_code.specs.declared.operand.Reg.{Reg}
use Rattle.beam_code.specs.declared.operand.Reg.TheVariants as register
use Rattle.beam_code.specs.declared.operand.Src.{Src}
use Rattle.beam_code.specs.declared.operand.Src.TheVariants as source
use Rattle.beam_code.specs.Code as code
use Rattle.beam_code.specs.Code.{FunctionCode, function_code, module_code}
use Rattle.beam_code.specs.Opcode as c
use Rattle.beam_code.specs.Pool.{values_in, IsAmong, AllDiffer, HasDifferent, PoolWeight}
use Rattle.beam_code.specs.Weights.{saturated}
use Rattle.erjang_top.specs.first_path.LabelRules.{opcodes}
use Rattle.erjang_top.specs.first_path.Opcode.{Value, Integer, Atom, Nil, thin, move_of}
use Rattle.erjang_top.specs.first_path.Weights.{value_in, values_of, same_value, with_value, distinct, pool_weight}
use Rattle.erjang_compile.specs.Accepted.{PoolFits, most_of_pool}
use Rattle.erjang_top.proofs.FirstPath.RulesKept.{mapped}

-- ---- a list of different elements, all among others, is no longer than those

-- what is among the first is among the second
abbrev AreAmong : {A : Type 0} → List A → List A → Type 0
AreAmong {A} xs ys = (z : A) → IsAmong z xs → IsAmong z ys

module _ {A : Type 0} where
  abbrev without : (x : A) (ys : List A) → IsAmong x ys → List A
  without x [] h = []
  without x (y ∷ ys) (inl e) = ys
  without x (y ∷ ys) (inr h) = y ∷ without x ys h

  one-less : (x : A) (ys : List A) (h : IsAmong x ys) → length ys ≡ suc (length (without x ys h))
  one-less x [] h = absurd h
  one-less x (y ∷ ys) (inl e) = refl
  one-less x (y ∷ ys) (inr h) = ap suc (one-less x ys h)

  still-among : (x : A) (ys : List A) (h : IsAmong x ys) (z : A) → (z ≡ x → ⊥) → IsAmong z ys → IsAmong z (without x ys h)
  still-among x [] h z differs among = absurd h
  still-among x (y ∷ ys) (inl e) z differs (inl f) = absurd (differs (f ∙ sym e))
  still-among x (y ∷ ys) (inl e) z differs (inr among) = among
  still-among x (y ∷ ys) (inr h) z differs (inl f) = inl f
  still-among x (y ∷ ys) (inr h) z differs (inr among) = inr (still-among x ys h z differs among)

  no-longer : (xs ys : List A) → AllDiffer xs → AreAmong xs ys → length xs ≤ length ys
  no-longer [] ys differ among = omega arith
  no-longer (x ∷ xs) ys differ among =
      let here : IsAmong x ys = among x (inl refl) in
      let rest : length xs ≤ length (without x ys here) =
      no-longer xs (without x ys here) differ.1 (λ z h. still-among x ys here z (λ e. differ.0 (subst (λ v. IsAmong v xs) e h)) (among z (inr h))) in
      let count : length ys ≡ suc (length (without x ys here)) = one-less x ys here in
      omega arith

  among-left : (x : A) (xs ys : List A) → IsAmong x xs → IsAmong x (xs ++ ys)
  among-left x [] ys h = absurd h
  among-left x (y ∷ xs) ys (inl e) = inl e
  among-left x (y ∷ xs) ys (inr h) = inr (among-left x xs ys h)

  among-right : (x : A) (xs ys : List A) → IsAmong x ys → IsAmong x (xs ++ ys)
  among-right x [] ys h = h
  among-right x (y ∷ xs) ys h = inr (among-right x xs ys h)

  among-either : (x : A) (xs ys : List A) → IsAmong x (xs ++ ys) → IsAmong x xs ⊎ IsAmong x ys
  among-either x [] ys h = inr h
  among-either x (y ∷ xs) ys (inl e) = inl (inl e)
  among-either x (y ∷ xs) ys (inr h) = by (among-either x xs ys h)
    where
      by : IsAmong x xs ⊎ IsAmong x ys → IsAmong x (y ∷ xs) ⊎ IsAmong x ys
      by (inl g) = inl (inr g)
      by (inr g) = inr g

  same-first : (x : A) (xs ys : List A) → AreAmong xs ys → AreAmong (x ∷ xs) (x ∷ ys)
  same-first x xs ys h z (inl e) = inl e
  same-first x xs ys h z (inr g) = inr (h z g)

  -- one more at the end, which is none of them
  differ-more : (xs : List A) (x : A) → AllDiffer xs → (IsAmong x xs → ⊥) → AllDiffer (xs ++ x ∷ [])
  differ-more [] x differ new = (λ h. h, tt)
  differ-more (y ∷ ys) x differ new = (λ h. by (among-either y ys (x ∷ []) h), differ-more ys x differ.1 (λ h. new (inr h)))
    where
      by : IsAmong y ys ⊎ IsAmong y (x ∷ []) → ⊥
      by (inl h) = differ.0 h
      by (inr (inl e)) = new (inl (sym e))
      by (inr (inr h)) = absurd h

-- ---- the first path's values as sources

abbrev as_source : Value → Src
as_source (Integer number) = source.Int number
as_source (Atom name) = source.Atom name
as_source Nil = source.Nil

same-source : (v w : Value) → as_source v ≡ as_source w → same_value v w ≡ true
same-source (Integer m) (Integer n) e = (Decides-int_eq m n).1 cc
same-source (Atom a) (Atom b) e = (bytes_eq-Decides a b).1 cc
same-source Nil Nil e = refl
same-source (Integer m) (Atom b) e = absurd cc
same-source (Integer m) Nil e = absurd cc
same-source (Atom a) (Integer n) e = absurd cc
same-source (Atom a) Nil e = absurd cc
same-source Nil (Integer n) e = absurd cc
same-source Nil (Atom b) e = absurd cc

-- a value that is not found is none of the sources
not-found : (v : Value) (vs : List Value) → list_any (same_value v) vs ≡ false → IsAmong (as_source v) (map as_source vs) → ⊥
not-found v [] e h = h
not-found v (w ∷ vs) e (inl same) = true≢false (sym (ap (λ b. b || list_any (same_value v) vs) (same-source v w same)) ∙ e)
not-found v (w ∷ vs) e (inr h) = by (same_value v w) e (λ f. not-found v vs f h)
  where
    by : (b : Bool) → (b || list_any (same_value v) vs) ≡ false → (list_any (same_value v) vs ≡ false → ⊥) → ⊥
    by true f later = true≢false f
    by false f later = later f

-- different values, all of them among the sources
record Gathered (all : List Src) (vs : List Value) : Type 0 where
  differ : AllDiffer (map as_source vs)
  among : AreAmong (map as_source vs) all

gathered-more : (all : List Src) (vs : List Value) (v : Value) → Gathered all vs → IsAmong (as_source v) all → Gathered all (with_value vs v)
gathered-more all vs v g here = by (list_any (same_value v) vs) refl
  where
    added : map as_source (vs ++ v ∷ []) ≡ map as_source vs ++ as_source v ∷ []
    added = map-append as_source vs (v ∷ [])

    either : (z : Src) → IsAmong z (map as_source vs) ⊎ IsAmong z (as_source v ∷ []) → IsAmong z all
    either z (inl h) = g.among z h
    either z (inr (inl e)) = subst (λ s. IsAmong s all) (sym e) here
    either z (inr (inr h)) = absurd h

    by : (b : Bool) → list_any (same_value v) vs ≡ b → Gathered all (if b then vs else vs ++ v ∷ [])
    by true e = g
    by false e = record {
      differ = subst AllDiffer (sym added) (differ-more (map as_source vs) (as_source v) g.differ (not-found v vs e));
      among = λ z h. either z (among-either z (map as_source vs) (as_source v ∷ []) (subst (IsAmong z) added h));
    }

gathered-all : (all : List Src) (more vs : List Value) → Gathered all vs → AreAmong (map as_source more) all → Gathered all (fold with_value vs more)
gathered-all all [] vs g among = g
gathered-all all (v ∷ more) vs g among =
    gathered-all all more (with_value vs v) (gathered-more all vs v g (among (as_source v) (inl refl))) (λ z h. among z (inr h))

-- ---- where they stand

-- the value of an instruction is one of its sources
move-values : (from : Src) (to : Reg) (vs : List Value) (rest : List Src) → AreAmong (map as_source vs) rest
    → AreAmong (map as_source (cons_option (value_in (move_of from to)) vs)) (values_in (c.Move from to) ++ rest)
move-values (source.Reg r) (register.X to) vs rest h = by r
  where
    by : (r : Reg) → AreAmong (map as_source (cons_option (value_in (move_of (source.Reg r) (register.X to))) vs)) rest
    by (register.X n) = h
    by (register.Y n) = h
move-values (source.Int n) (register.X to) vs rest h = same-first (source.Int n) (map as_source vs) rest h
move-values (source.Atom name) (register.X to) vs rest h = same-first (source.Atom name) (map as_source vs) rest h
move-values source.Nil (register.X to) vs rest h = same-first source.Nil (map as_source vs) rest h
move-values (source.Literal t) (register.X to) vs rest h = λ z g. inr (h z g)
move-values from (register.Y to) vs rest h = λ z g. among-right z (values_in (c.Move from (register.Y to))) rest (h z g)

code-values : (os : List c.Opcode) → AreAmong (map as_source (filter_map value_in (map thin os))) (flat_map values_in os)
code-values [] = λ z h. h
code-values (c.Move from to ∷ os) = move-values from to (filter_map value_in (map thin os)) (flat_map values_in os) (code-values os)
code-values (o ∷ os) = λ z h. among-right z (values_in o) (flat_map values_in os) (code-values os z h)

function-values : (f : Function) → AreAmong (map as_source (filter_map value_in (opcodes f))) (flat_map values_in (function_code f).code)
function-values f =
    subst (λ os. AreAmong (map as_source (filter_map value_in os)) (flat_map values_in (function_code f).code)) (mapped f.code) (code-values (map code.opcode f.code))

abbrev small_values : List Function → List Value
small_values fs = flat_map (λ f. filter_map value_in (opcodes f)) fs

abbrev whole_values : List Function → List Src
whole_values fs = flat_map values_in (flat_map (λ (f : FunctionCode). f.code) (map function_code fs))

-- what stands in the first function or in those behind it
first-or-rest : (f : Function) (fs : List Function) → AreAmong (map as_source (small_values fs)) (whole_values fs) → AreAmong (map as_source (small_values (f ∷ fs))) (whole_values (f ∷ fs))
first-or-rest f fs later z h =
    subst (IsAmong z) (sym (flat_map-append values_in code_in (flat_map (λ (g : FunctionCode). g.code) (map function_code fs))))
    (either (among-either z (map as_source values) (map as_source (small_values fs)) (subst (IsAmong z) (map-append as_source values (small_values fs)) h)))
  where
    values : List Value
    values = filter_map value_in (opcodes f)

    code_in : List c.Opcode
    code_in = (function_code f).code

    either : IsAmong z (map as_source values) ⊎ IsAmong z (map as_source (small_values fs)) → IsAmong z (flat_map values_in code_in ++ whole_values fs)
    either (inl g) = among-left z (flat_map values_in code_in) (whole_values fs) (function-values f z g)
    either (inr g) = among-right z (flat_map values_in code_in) (whole_values fs) (later z g)

functions-values : (fs : List Function) → AreAmong (map as_source (small_values fs)) (whole_values fs)
functions-values [] = λ z h. h
functions-values (f ∷ fs) = first-or-rest f fs (functions-values fs)

-- ---- the weights

-- no more different values than the whole definition has
values-count : (fs : List Function) (n : ℕ) → HasDifferent (whole_values fs) n → length (distinct (small_values fs)) ≤ n
values-count fs n d =
    let g : Gathered (whole_values fs) (distinct (small_values fs)) =
    gathered-all (whole_values fs) (small_values fs) [] (record { differ = tt; among = λ z h. absurd h }) (functions-values fs) in
    let count : length (map as_source (distinct (small_values fs))) ≤ length d.once =
    no-longer (map as_source (distinct (small_values fs))) d.once g.differ (λ z h. (d.same z).1 (g.among z h)) in
    let same : length (map as_source (distinct (small_values fs))) ≡ length (distinct (small_values fs)) = length-map (distinct (small_values fs)) as_source in
    let once : length d.once ≡ n = d.count in
    omega arith

total : (n functions few values numbers externals w : ℕ) → few ≤ values → functions ≡ n → w ≡ saturated (1024 + 6 * functions + 4 * values + 4 * numbers + 4 * externals)
    → w ≤ most_of_pool → 1024 + 6 * n + 4 * few ≤ most_of_pool
total n functions few values numbers externals w h same e most = omega arith

pub pool_fits : (m : Module) → PoolFits (module_code m) → pool_weight m ≤ most_of_pool
pool_fits m w =
    let p : PoolWeight (module_code m) w.0 = w.1 in
    total (length m.functions) (length (map function_code m.functions)) (length (distinct (values_of m))) p.values p.numbers p.externals w.0
    (values-count m.functions p.values p.values_differ) (length-map m.functions function_code) p.sum w.2
