-- The first literal that is too long, while what holds literals is gone through.
use Rattle.std.proofs.Common.{◌≡◌, ℕ, suc, ◌+◌, Bool, true, false, nat_lt, List, [], ◌∷◌, Option, None, Some, refl, sym, ap, subst, ◌∙◌, add-one}
use Rattle.std.specs.Prelude.{option_map, if◌then◌else◌}
use Rattle.std.specs.List.{All, find, filter_map, cons_option}
use Rattle.std.specs.Option.{option_or}
use Rattle.std.proofs.lemmas.List.Folds.{find-append}
use Rattle.beam_code.specs.declared.operand.Src.{Src}
use Rattle.beam_code.specs.Code.{FunctionCode, ModuleCode}
use Rattle.beam_code.specs.Opcode.{Opcode}
use Rattle.beam_code.specs.Pool.{sources_in}
use Rattle.erjang_compile.specs.declared.fault.Large.{Large}
use Rattle.erjang_compile.specs.declared.fault.Large.TheVariants as large
use Rattle.erjang_compile.specs.Accepted.{FunctionFits, PoolFits, first_long, Literal, literal_length, literal_lengths, literals_at, literals_in_code, literals_in, is_long, longest_literal}
use Rattle.erjang_compile.specs.Answers.{TellsLarge, as_large, first_over}

abbrev too_long : ℕ → Bool
too_long = nat_lt longest_literal

-- Sources.

-- one source, and then the others
pub over-cons : (s : Src) (rest : List Src) → first_over (s ∷ rest) ≡ option_or (first_over (s ∷ [])) (first_over rest)
over-cons s rest = by (literal_length s)
  where
    ahead : (b : Bool) (n : ℕ) → (if b then Some n else find too_long (filter_map literal_length rest)) ≡ option_or (if b then Some n else None) (find too_long (filter_map literal_length rest))
    ahead true n = refl
    ahead false n = refl

    by : (o : Option ℕ) → find too_long (cons_option o (filter_map literal_length rest)) ≡ option_or (find too_long (cons_option o [])) (find too_long (filter_map literal_length rest))
    by None = refl
    by (Some n) = ahead (too_long n) n

-- the first of what is left is too long
pub over-here : (s : Src) (n : ℕ) (rest left whole : List Src) → left ≡ s ∷ rest → first_over left ≡ first_over whole → Some n ≡ first_over (s ∷ []) → Some n ≡ first_over whole
over-here s n rest left whole e same is = ap (λ o. option_or o (first_over rest)) is ∙ sym (over-cons s rest) ∙ sym (ap first_over e) ∙ same

-- it is not
pub over-later : (s : Src) (rest left whole : List Src) → left ≡ s ∷ rest → first_over left ≡ first_over whole → None ≡ first_over (s ∷ []) → first_over rest ≡ first_over whole
over-later s rest left whole e same is = ap (λ o. option_or o (first_over rest)) is ∙ sym (over-cons s rest) ∙ sym (ap first_over e) ∙ same

-- Instructions.

abbrev made : ℕ → ℕ → ℕ → Literal
made func index bytes = record { func = func; index = index; bytes = bytes }

-- the first of an instruction's literals
pub long-at : (func index : ℕ) (lengths : List ℕ) → find is_long (literals_at func index lengths) ≡ option_map (made func index) (find too_long lengths)
long-at func index [] = refl
long-at func index (n ∷ lengths) = by (too_long n) (long-at func index lengths)
  where
    by : (b : Bool) → find is_long (literals_at func index lengths) ≡ option_map (made func index) (find too_long lengths)
        → (if b then Some (made func index n) else find is_long (literals_at func index lengths)) ≡ option_map (made func index) (if b then Some n else find too_long lengths)
    by true h = refl
    by false h = h

-- an instruction, and those behind it
code-step : (func index : ℕ) (o : Opcode) (rest : List Opcode) → find is_long (literals_in_code func index (o ∷ rest))
    ≡ option_or (option_map (made func index) (first_over (sources_in o))) (find is_long (literals_in_code func (suc index) rest))
code-step func index o rest =
    find-append is_long (literals_at func index (literal_lengths o)) (literals_in_code func (suc index) rest)
    ∙ ap (λ first. option_or first (find is_long (literals_in_code func (suc index) rest))) (long-at func index (literal_lengths o))

module _ (func index : ℕ) (o : Opcode) (rest left whole : List Opcode) (e : left ≡ o ∷ rest)
    (same : find is_long (literals_in_code func index left) ≡ find is_long (literals_in_code func 0 whole)) where
  told : option_or (option_map (made func index) (first_over (sources_in o))) (find is_long (literals_in_code func (suc index) rest)) ≡ find is_long (literals_in_code func 0 whole)
  told = sym (code-step func index o rest) ∙ sym (ap (λ code. find is_long (literals_in_code func index code)) e) ∙ same

  pub code-here : (n : ℕ) → Some n ≡ first_over (sources_in o) → Some (large.Literal func index n) ≡ option_map as_large (find is_long (literals_in_code func 0 whole))
  code-here n is =
      ap (λ first. option_map as_large (option_or (option_map (made func index) first) (find is_long (literals_in_code func (suc index) rest)))) is ∙ ap (option_map as_large) told

  pub code-later : None ≡ first_over (sources_in o) → find is_long (literals_in_code func (index + 1) rest) ≡ find is_long (literals_in_code func 0 whole)
  code-later is =
      ap (λ n. find is_long (literals_in_code func n rest)) (add-one index)
      ∙ ap (λ first. option_or (option_map (made func index) first) (find is_long (literals_in_code func (suc index) rest))) is
      ∙ told

pub code-end : (func index : ℕ) (left whole : List Opcode) → left ≡ [] → find is_long (literals_in_code func index left) ≡ find is_long (literals_in_code func 0 whole)
    → None ≡ option_map as_large (find is_long (literals_in_code func 0 whole))
code-end func index left whole e same = ap (option_map as_large) (sym (ap (λ code. find is_long (literals_in_code func index code)) e) ∙ same)

-- Functions.

first-told : (a b : Option Literal) (x : Large) → Some x ≡ option_map as_large a → Some x ≡ option_map as_large (option_or a b)
first-told None b x e = absurd (cc)
first-told (Some l) b x e = e

none-told : (a : Option Literal) → None ≡ option_map as_large a → a ≡ None
none-told None e = refl
none-told (Some l) e = absurd (cc)

module _ (func : ℕ) (f : FunctionCode) (rest left whole : List FunctionCode) (e : left ≡ f ∷ rest)
    (same : find is_long (literals_in func left) ≡ find is_long (literals_in 0 whole)) where
  told-all : option_or (find is_long (literals_in_code func 0 f.code)) (find is_long (literals_in (suc func) rest)) ≡ find is_long (literals_in 0 whole)
  told-all =
      sym (find-append is_long (literals_in_code func 0 f.code) (literals_in (suc func) rest)) ∙ sym (ap (λ functions. find is_long (literals_in func functions)) e) ∙ same

  pub function-here : (x : Large) → Some x ≡ option_map as_large (find is_long (literals_in_code func 0 f.code)) → Some x ≡ option_map as_large (find is_long (literals_in 0 whole))
  function-here x is = first-told _ _ x is ∙ ap (option_map as_large) told-all

  pub function-later : None ≡ option_map as_large (find is_long (literals_in_code func 0 f.code)) → find is_long (literals_in (func + 1) rest) ≡ find is_long (literals_in 0 whole)
  function-later is =
      ap (λ n. find is_long (literals_in n rest)) (add-one func)
      ∙ ap (λ first. option_or first (find is_long (literals_in (suc func) rest))) (sym (none-told _ is))
      ∙ told-all

pub function-end : (func : ℕ) (left whole : List FunctionCode) → left ≡ [] → find is_long (literals_in func left) ≡ find is_long (literals_in 0 whole)
    → None ≡ option_map as_large (find is_long (literals_in 0 whole))
function-end func left whole e same = ap (option_map as_large) (sym (ap (λ functions. find is_long (literals_in func functions)) e) ∙ same)

-- what the literals tell where functions and constants fit
pub literals-tell : (m : ModuleCode) (told : Option Large) → All FunctionFits m.functions → PoolFits m → told ≡ option_map as_large (first_long m) → TellsLarge m told
literals-tell m told functions pool is = by (first_long m) refl is
  where
    by : (o : Option Literal) → first_long m ≡ o → told ≡ option_map as_large o → TellsLarge m told
    by None e is = subst (TellsLarge m) (sym is) (record { functions = functions; pool = pool; literals = e })
    by (Some l) e is = subst (TellsLarge m) (sym is) (record { functions = functions; pool = pool; long = e })
