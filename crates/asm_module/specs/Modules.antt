-- The module that a row of forms stands for, or the first fault in it.
use Rattle.std.specs.Prelude.{◌≡◌, ℕ, ◌+◌, Bool, true, false, if◌then◌else◌, List, [], ◌∷◌, ◌++◌, codes, unwrap_or, Result, Ok, Err, Option, None, Some, option_map, option_and_then}
use Rattle.std.specs.List.{filter_map}
use Rattle.std.specs.Option.{option_zip}
use Rattle.ej_term.specs.declared.asm_term.AsmTerm.{AsmTerm}
use Rattle.beam_code.specs.declared.module.Module.{Module}
use Rattle.beam_code.specs.declared.operand.TheConstants.{LAST_COUNT}
use Rattle.beam_code.specs.Keys.{Key, is_among}
use Rattle.beam_code.specs.Parts.{Instruction, FunctionParts, ModuleParts, module_parts}
use Rattle.asm_module.specs.declared.fault.FormFault.{FormFault}
use Rattle.asm_module.specs.declared.fault.FormFault.TheVariants.{BadForm}
use Rattle.asm_module.specs.Terms.{is_word, atom, number, elements, tuple, tagged, pair, behind, each, Tagged}
use Rattle.asm_module.specs.Instructions.{instruction}

-- what a function form says: name, arity and entry label
pub record Heading : Type 0 where
  pub name : List ℕ
  pub arity : ℕ
  pub entry : ℕ

abbrev pub key_of : Heading → Key
key_of h = (h.name, h.arity)

abbrev pub heading_with : List ℕ → Option ℕ → Option ℕ → Option Heading
heading_with name (Some arity) (Some entry) = Some (record { name = name; arity = arity; entry = entry })
heading_with name _ _ = None

abbrev pub heading_of : AsmTerm → AsmTerm → AsmTerm → Option Heading
heading_of name arity entry = option_and_then (λ n. heading_with n (number 255 arity) (number LAST_COUNT entry)) (atom name)

abbrev pub heading_parts : List AsmTerm → Option Heading
heading_parts (name ∷ arity ∷ entry ∷ []) = heading_of name arity entry
heading_parts _ = None

-- a tuple that begins with the atom `function`
abbrev pub is_function_tagged : Option Tagged → Bool
is_function_tagged None = false
is_function_tagged (Some t) = is_word t.0 (codes "function")

abbrev pub is_function : AsmTerm → Bool
is_function t = is_function_tagged (tagged t)

abbrev pub heading_tagged : Tagged → Option Heading
heading_tagged t = if is_word t.0 (codes "function") then heading_parts t.1 else None

-- `{function,F,A,Entry}`
abbrev pub heading : AsmTerm → Option Heading
heading t = option_and_then heading_tagged (tagged t)

abbrev pub key_in : AsmTerm → Option Key
key_in t = option_map key_of (heading t)

-- the functions that forms begin, by their names and arities
abbrev pub keys_of : List AsmTerm → List Key
keys_of forms = filter_map key_in forms

abbrev pub or_bad : {X : Type 0} → ℕ → Option X → Result X FormFault
or_bad form None = Err (BadForm form)
or_bad form (Some x) = Ok x

infixl 10 ◌>>=◌
abbrev pub ◌>>=◌ : {X Y : Type 0} → Result X FormFault → (X → Result Y FormFault) → Result Y FormFault
(Ok x) >>= f = f x
(Err e) >>= f = Err e

-- the function that a form begins, which none before it is
abbrev pub begins_new : List Key → ℕ → Heading → Result Heading FormFault
begins_new before form h = if is_among before (key_of h) then Err (BadForm form) else Ok h

abbrev pub begins : List Key → ℕ → AsmTerm → Result Heading FormFault
begins before form t = or_bad form (heading t) >>= begins_new before form

-- the rest of the code of a function, and the functions behind it
pub record Rest : Type 0 where
  pub code : List Instruction
  pub functions : List FunctionParts

abbrev pub with_instruction : Instruction → Rest → Rest
with_instruction i rest = record rest { code = i ∷ rest.code }

abbrev pub function_with : Heading → List Instruction → FunctionParts
function_with h code = record { name = h.name; arity = h.arity; entry = h.entry; code = code }

-- the function that a form begins, without its code
abbrev pub empty_function : List Key → ℕ → AsmTerm → Result FunctionParts FormFault
empty_function before form t = begins before form t >>= λ h. Ok (function_with h [])

abbrev pub with_function : Heading → Rest → Rest
with_function h rest = record { code = []; functions = function_with h rest.code ∷ rest.functions }

abbrev pub then_rest : {X : Type 0} → (X → Rest → Rest) → (X → Result Rest FormFault) → X → Result Rest FormFault
then_rest put behind x = behind x >>= λ rest. Ok (put x rest)

-- What stands behind a function form, from that form on: instructions, and further functions. Told are the functions so
-- far, and the numbers of the function and of the next instruction in it.
abbrev pub rest_of : List Key → ℕ → ℕ → ℕ → List AsmTerm → Result Rest FormFault
rest_of before form func index [] = Ok (record { code = []; functions = [] })
rest_of before form func index (t ∷ forms) =
    if is_function t
    then begins before form t >>= then_rest with_function (λ h. rest_of (before ++ key_of h ∷ []) (form + 1) (func + 1) 0 forms)
    else instruction func index t >>= then_rest with_instruction (λ i. rest_of before (form + 1) func (index + 1) forms)

abbrev pub functions_from : List AsmTerm → Heading → Result (List FunctionParts) FormFault
functions_from forms h = rest_of (key_of h ∷ []) 5 0 0 forms >>= λ rest. Ok ((with_function h rest).functions)

-- one function or more, from the fifth form on
abbrev pub functions_of : List AsmTerm → Result (List FunctionParts) FormFault
functions_of [] = Err (BadForm 4)
functions_of (t ∷ forms) = begins [] 4 t >>= functions_from forms

-- what came of the header's forms `{exports,L}`, `{attributes,_}` and `{labels,N}`
pub record Header : Type 0 where
  pub exports : Option (List Key)
  pub attributes : Bool
  pub labels : Bool

abbrev pub nothing : Header
nothing = record { exports = None; attributes = false; labels = false }

abbrev pub export_named : AsmTerm → AsmTerm → Option Key
export_named name arity = option_zip (atom name) (number 255 arity)

abbrev pub export_parts : List AsmTerm → Option Key
export_parts (name ∷ arity ∷ []) = export_named name arity
export_parts _ = None

-- `{F,A}`
abbrev pub export_key : AsmTerm → Option Key
export_key t = option_and_then export_parts (tuple t)

abbrev pub if_function : (Key → Bool) → Key → Option Key
if_function is_one key = if is_one key then Some key else None

-- `{F,A}`, where there is such a function
unfoldable pub export : (Key → Bool) → AsmTerm → Option Key
export is_one t = option_and_then (if_function is_one) (export_key t)

unfoldable pub exports_of : (Key → Bool) → AsmTerm → Option (List Key)
exports_of is_one t = option_and_then (each (export is_one)) (elements t)

abbrev pub is_unset : Option (List Key) → Bool
is_unset None = true
is_unset (Some keys) = false

abbrev pub with_exports : (Key → Bool) → Header → AsmTerm → Option Header
with_exports is_one h t = if is_unset h.exports then option_map (λ keys. record h { exports = Some keys }) (exports_of is_one t) else None

abbrev pub with_attributes : Header → Option Header
with_attributes h = if h.attributes then None else Some (record h { attributes = true })

abbrev pub with_labels : Header → AsmTerm → Option Header
with_labels h t = if h.labels then None else option_map (λ n. record h { labels = true }) (number LAST_COUNT t)

unfoldable pub header_pair : (Key → Bool) → Header → List ℕ × AsmTerm → Option Header
header_pair is_one h p =
    if is_word p.0 (codes "exports") then with_exports is_one h p.1
    else if is_word p.0 (codes "attributes") then with_attributes h
    else if is_word p.0 (codes "labels") then with_labels h p.1
    else None

-- a form of the header that did not come yet; exports name functions that there are
unfoldable pub header_form : (Key → Bool) → Header → AsmTerm → Option Header
header_form is_one h t = option_and_then (header_pair is_one h) (pair t)

-- the header and the forms behind it
abbrev pub Headed : Type 0
Headed = Header × List AsmTerm

abbrev pub with_forms : List AsmTerm → Header → Headed
with_forms forms h = (h, forms)

-- the header with the form of that number, which is the first of those behind it
abbrev pub next_form : (Key → Bool) → ℕ → Headed → Result Headed FormFault
next_form is_one form (h, []) = Err (BadForm form)
next_form is_one form (h, t ∷ forms) = or_bad form (option_map (with_forms forms) (header_form is_one h t))

-- the three further forms of the header, in any order
unfoldable pub header_of : (Key → Bool) → List AsmTerm → Result Headed FormFault
header_of is_one forms = next_form is_one 1 (nothing, forms) >>= next_form is_one 2 >>= next_form is_one 3

abbrev pub if_named : List ℕ → Option (List ℕ)
if_named name = if is_word name [] then None else Some name

-- `{module,M}` with a name of one character at least
abbrev pub module_name : AsmTerm → Option (List ℕ)
module_name t = option_and_then if_named (option_and_then atom (behind (codes "module") t))

-- the name, the three other forms of the header, and the functions
abbrev pub reading : List AsmTerm → Result ModuleParts FormFault
reading [] = Err (BadForm 0)
reading (first ∷ forms) =
    or_bad 0 (module_name first) >>= λ name.
    header_of (is_among (keys_of forms)) forms >>= λ headed.
    functions_of headed.1 >>= λ functions.
    Ok (record { name = name; exports = unwrap_or headed.0.exports []; functions = functions })

-- the forms are those of the module
abbrev pub Stands : List AsmTerm → Module → Type 0
Stands forms m = reading forms ≡ Ok (module_parts m)

-- the forms are no module's, and this is the first fault in them
abbrev pub FirstFault : List AsmTerm → FormFault → Type 0
FirstFault forms fault = reading forms ≡ Err fault

-- the forms are those of one module at most, or have one first fault, and not both
pub record OneModule (forms : List AsmTerm) : Type 0 where
  pub same_module : (m n : Module) → Stands forms m → Stands forms n → m ≡ n
  pub same_fault : (fault other : FormFault) → FirstFault forms fault → FirstFault forms other → fault ≡ other
  pub not_both : (m : Module) (fault : FormFault) → Stands forms m → FirstFault forms fault → ⊥
