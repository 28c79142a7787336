-- The functions so far, with what stands behind them.
use Rattle.std.proofs.Common.{◌≡◌, ℕ, ◌+◌, ◌<◌, ◌≤◌, true, false, List, [], ◌∷◌, ◌++◌, append-nil, append_assoc, length, map, drop, get_or, refl, sym, ap, ◌∙◌, subst, arith}
use Rattle.std.specs.Prelude.{Result, Ok, Err, if◌then◌else◌}
use Rattle.ej_term.specs.declared.asm_term.AsmTerm.{AsmTerm}
use Rattle.beam_code.specs.Keys.{Key}
use Rattle.std.proofs.lemmas.List.{map-append, length-append}
use Rattle.beam_code.specs.declared.instr.Instr.{Instr}
use Rattle.beam_code.specs.declared.module.Function.{Function}
use Rattle.beam_code.specs.Parts.{Instruction, FunctionParts, parts_of, function_parts}
use Rattle.asm_module.specs.declared.fault.FormFault.{FormFault}
use Rattle.asm_module.specs.declared.fault.FormFault.TheVariants.{BadForm, OutsideProfile, BadInstruction, NoMemory}
use Rattle.asm_module.specs.Instructions.{instruction}
use Rattle.asm_module.specs.Modules.{Heading, Rest, is_function, begins, key_of, ◌>>=◌, then_rest, with_instruction, with_function, function_with, empty_function, rest_of, functions_from, functions_of}
use Rattle.asm_module.specs.Joined.{with_code, joined, from_here}
use Rattle.std.proofs.lemmas.List.{drop_all}
use Rattle.asm_module.specs.Seen.{Fails}
use Rattle.asm_module.proofs.ReadingLemmas.{dropped}

one-instruction : (whole : List FunctionParts) (last : FunctionParts) (i : Instruction) (r : Result Rest FormFault)
    → joined whole last (r >>= λ rest. Ok (with_instruction i rest)) ≡ joined whole (with_code last (i ∷ [])) r
one-instruction whole last i (Err e) = refl
one-instruction whole last i (Ok rest) =
    ap (λ code. let fs : List FunctionParts = whole ++ record last { code = code } ∷ rest.functions in let r : Result (List FunctionParts) FormFault = Ok fs in r)
    (sym (append_assoc last.code (i ∷ []) rest.code))

-- an instruction is put behind the last function's code
pub instruction-read : (whole : List FunctionParts) (last : FunctionParts) (before : List Key) (form func index : ℕ) (t : AsmTerm) (forms : List AsmTerm) (i : Instruction)
    → is_function t ≡ false → instruction func index t ≡ Ok i
    → joined whole last (rest_of before form func index (t ∷ forms)) ≡ joined whole (with_code last (i ∷ [])) (rest_of before (form + 1) func (index + 1) forms)
instruction-read whole last before form func index t forms i plain e =
    ap (λ b. joined whole last (if b then begins before form t >>= then_rest with_function (λ h. rest_of (before ++ key_of h ∷ []) (form + 1) (func + 1) 0 forms)
    else instruction func index t >>= then_rest with_instruction (λ j. rest_of before (form + 1) func (index + 1) forms))) plain
    ∙ ap (λ r. joined whole last (r >>= then_rest with_instruction (λ j. rest_of before (form + 1) func (index + 1) forms))) e
    ∙ one-instruction whole last i (rest_of before (form + 1) func (index + 1) forms)

-- one that is refused ends the reading
pub instruction-refused : (whole : List FunctionParts) (last : FunctionParts) (before : List Key) (form func index : ℕ) (t : AsmTerm) (forms : List AsmTerm) (fault : FormFault)
    → is_function t ≡ false → instruction func index t ≡ Err fault → joined whole last (rest_of before form func index (t ∷ forms)) ≡ Err fault
instruction-refused whole last before form func index t forms fault plain e =
    ap (λ b. joined whole last (if b then begins before form t >>= then_rest with_function (λ h. rest_of (before ++ key_of h ∷ []) (form + 1) (func + 1) 0 forms)
    else instruction func index t >>= then_rest with_instruction (λ j. rest_of before (form + 1) func (index + 1) forms))) plain
    ∙ ap (λ r. joined whole last (r >>= then_rest with_instruction (λ j. rest_of before (form + 1) func (index + 1) forms))) e

abbrev heading_back : FunctionParts → Heading
heading_back p = record { name = p.name; arity = p.arity; entry = p.entry }

ok-same : {X : Type 0} (a b : X) → ◌≡◌ {A = Result X FormFault} (Ok a) (Ok b) → a ≡ b
ok-same a b e = cc

begun : (whole : List FunctionParts) (last : FunctionParts) (behind : Heading → Result Rest FormFault) (h : Heading) (r : Result Rest FormFault)
    → joined whole last (r >>= λ rest. Ok (with_function h rest)) ≡ joined (whole ++ last ∷ []) (function_with h []) r
begun whole last behind h (Err e) = refl
begun whole last behind h (Ok rest) =
    ap (λ code. let r : Result (List FunctionParts) FormFault = Ok (whole ++ record last { code = code } ∷ function_with h rest.code ∷ rest.functions) in r) (append-nil last.code)
    ∙ ap (λ fs. let r : Result (List FunctionParts) FormFault = Ok fs in r) (sym (append_assoc whole (last ∷ []) (function_with h rest.code ∷ rest.functions)))

by-begins : (whole : List FunctionParts) (last p : FunctionParts) (behind : Heading → Result Rest FormFault) (r : Result Heading FormFault)
    → (r >>= λ h. Ok (function_with h [])) ≡ Ok p
    → joined whole last (r >>= then_rest with_function behind) ≡ joined (whole ++ last ∷ []) p (behind (heading_back p))
by-begins whole last p behind (Err e) same = absurd (cc)
by-begins whole last p behind (Ok h) same =
    begun whole last behind h (behind h) ∙ ap (λ q. joined (whole ++ last ∷ []) q (behind (heading_back q))) (ok-same (function_with h []) p same)

-- a function form begins the next function
pub function-read : (whole : List FunctionParts) (last p : FunctionParts) (before : List Key) (form func index : ℕ) (t : AsmTerm) (forms : List AsmTerm)
    → is_function t ≡ true → empty_function before form t ≡ Ok p
    → joined whole last (rest_of before form func index (t ∷ forms)) ≡ joined (whole ++ last ∷ []) p (rest_of (before ++ (p.name, p.arity) ∷ []) (form + 1) (func + 1) 0 forms)
function-read whole last p before form func index t forms named e =
    ap (λ b. joined whole last (if b then begins before form t >>= then_rest with_function (λ h. rest_of (before ++ key_of h ∷ []) (form + 1) (func + 1) 0 forms)
    else instruction func index t >>= then_rest with_instruction (λ j. rest_of before (form + 1) func (index + 1) forms))) named
    ∙ by-begins whole last p (λ h. rest_of (before ++ key_of h ∷ []) (form + 1) (func + 1) 0 forms) (begins before form t) e

by-refused : (whole : List FunctionParts) (last : FunctionParts) (behind : Heading → Result Rest FormFault) (r : Result Heading FormFault) (fault : FormFault)
    → (r >>= λ h. Ok (function_with h [])) ≡ Err fault → joined whole last (r >>= then_rest with_function behind) ≡ Err fault
by-refused whole last behind (Err e) fault same = ap (λ (f : FormFault). let r : Result (List FunctionParts) FormFault = Err f in r) (err-same e fault same)
  where
    err-same : (a b : FormFault) → ◌≡◌ {A = Result FunctionParts FormFault} (Err a) (Err b) → a ≡ b
    err-same a b e = cc
by-refused whole last behind (Ok h) fault same = absurd (cc)

pub function-refused : (whole : List FunctionParts) (last : FunctionParts) (before : List Key) (form func index : ℕ) (t : AsmTerm) (forms : List AsmTerm) (fault : FormFault)
    → is_function t ≡ true → empty_function before form t ≡ Err fault → joined whole last (rest_of before form func index (t ∷ forms)) ≡ Err fault
function-refused whole last before form func index t forms fault named e =
    ap (λ b. joined whole last (if b then begins before form t >>= then_rest with_function (λ h. rest_of (before ++ key_of h ∷ []) (form + 1) (func + 1) 0 forms)
    else instruction func index t >>= then_rest with_instruction (λ j. rest_of before (form + 1) func (index + 1) forms))) named
    ∙ by-refused whole last (λ h. rest_of (before ++ key_of h ∷ []) (form + 1) (func + 1) 0 forms) (begins before form t) fault e

-- a fault that is told of a part is told of the whole
pub fails-too : {Y Z : Type 0} (fault : FormFault) (r : Result Y FormFault) (s : Result Z FormFault) → ((f : FormFault) → r ≡ Err f → s ≡ Err f) → Fails fault r → Fails fault s
fails-too NoMemory r s h f = f
fails-too (BadForm n) r s h f = h (BadForm n) f
fails-too (OutsideProfile a b c) r s h f = h (OutsideProfile a b c) f
fails-too (BadInstruction a b) r s h f = h (BadInstruction a b) f

lengthens : {X : Type 0} (xs : List X) (x : X) → length (xs ++ x ∷ []) ≡ length xs + 1
lengthens xs x = length-append xs (x ∷ [])

-- the step over an instruction, of the code's functions
pub instruction-step : (keys : List Key) (whole : List Function) (last : Function) (form : ℕ) (t : AsmTerm) (forms : List AsmTerm) (i : Instr) (code : List Instr)
    → is_function t ≡ false → instruction (length whole) (length last.code) t ≡ Ok (parts_of i) → code ≡ last.code ++ i ∷ []
    → from_here keys whole last form (t ∷ forms) ≡ from_here keys whole (record last { code = code }) (form + 1) forms
unfolding from_here
instruction-step keys whole last form t forms i code plain e put =
    instruction-read (map function_parts whole) (function_parts last) keys form (length whole) (length last.code) t forms (parts_of i) plain e
    ∙ ap (λ is. joined (map function_parts whole) (record (function_parts last) { code = is }) (rest_of keys (form + 1) (length whole) (length last.code + 1) forms)) (sym (map-append parts_of last.code (i ∷ [])))
    ∙ ap (λ n. joined (map function_parts whole) (function_parts (record last { code = last.code ++ i ∷ [] })) (rest_of keys (form + 1) (length whole) n forms)) (sym (lengthens last.code i))
    ∙ ap (λ cs. from_here keys whole (record last { code = cs }) (form + 1) forms) (sym put)

-- the step over a function form
pub function-step : (keys keys' : List Key) (whole whole' : List Function) (last next : Function) (form : ℕ) (t : AsmTerm) (forms : List AsmTerm)
    → is_function t ≡ true → empty_function keys form t ≡ Ok (function_parts next) → length next.code ≡ 0 → whole' ≡ whole ++ last ∷ [] → keys' ≡ keys ++ (next.name, next.arity) ∷ []
    → from_here keys whole last form (t ∷ forms) ≡ from_here keys' whole' next (form + 1) forms
unfolding from_here
function-step keys keys' whole whole' last next form t forms named e none put added =
    function-read (map function_parts whole) (function_parts last) (function_parts next) keys form (length whole) (length last.code) t forms named e
    ∙ ap (λ fs. joined fs (function_parts next) (rest_of (keys ++ (next.name, next.arity) ∷ []) (form + 1) (length whole + 1) 0 forms)) (sym (map-append function_parts whole (last ∷ [])))
    ∙ ap (λ n. joined (map function_parts (whole ++ last ∷ [])) (function_parts next) (rest_of (keys ++ (next.name, next.arity) ∷ []) (form + 1) n 0 forms)) (sym (lengthens whole last))
    ∙ ap (λ n. joined (map function_parts (whole ++ last ∷ [])) (function_parts next) (rest_of (keys ++ (next.name, next.arity) ∷ []) (form + 1) (length (whole ++ last ∷ [])) n forms)) (sym none)
    ∙ ap (λ ws. from_here (keys ++ (next.name, next.arity) ∷ []) ws next (form + 1) forms) (sym put)
    ∙ ap (λ ks. from_here ks whole' next (form + 1) forms) (sym added)

-- an instruction that is refused
pub instruction-fails : (keys : List Key) (whole : List Function) (last : Function) (form func index : ℕ) (t : AsmTerm) (forms : List AsmTerm) (fault : FormFault)
    → is_function t ≡ false → func ≡ length whole → index ≡ length last.code → Fails fault (instruction func index t) → Fails fault (from_here keys whole last form (t ∷ forms))
unfolding from_here
instruction-fails keys whole last form func index t forms fault plain at place fails =
    fails-too fault (instruction (length whole) (length last.code) t) (joined (map function_parts whole) (function_parts last) (rest_of keys form (length whole) (length last.code) (t ∷ forms)))
    (λ f e. instruction-refused (map function_parts whole) (function_parts last) keys form (length whole) (length last.code) t forms f plain e)
    (subst (λ (r : Result Instruction FormFault). Fails fault r) (ap (λ n. instruction n index t) at ∙ ap (λ n. instruction (length whole) n t) place) fails)

-- a function form that is refused
pub function-fails : (keys : List Key) (whole : List Function) (last : Function) (form : ℕ) (t : AsmTerm) (forms : List AsmTerm) (fault : FormFault)
    → is_function t ≡ true → Fails fault (empty_function keys form t) → Fails fault (from_here keys whole last form (t ∷ forms))
unfolding from_here
function-fails keys whole last form t forms fault named fails =
    fails-too fault (empty_function keys form t) (joined (map function_parts whole) (function_parts last) (rest_of keys form (length whole) (length last.code) (t ∷ forms)))
    (λ f e. function-refused (map function_parts whole) (function_parts last) keys form (length whole) (length last.code) t forms f named e) fails

first-joined : (h : Heading) (r : Result Rest FormFault) → joined [] (function_with h []) r ≡ (r >>= λ rest. Ok ((with_function h rest).functions))
first-joined h (Err e) = refl
first-joined h (Ok rest) = refl

first-with : (p : FunctionParts) (forms : List AsmTerm) (r : Result Heading FormFault) → (r >>= λ h. Ok (function_with h [])) ≡ Ok p
    → joined [] p (rest_of ((p.name, p.arity) ∷ []) 5 0 0 forms) ≡ (r >>= functions_from forms)
first-with p forms (Err e) same = absurd (cc)
first-with p forms (Ok h) same =
    sym (ap (λ (q : FunctionParts). joined [] q (rest_of ((q.name, q.arity) ∷ []) 5 0 0 forms)) (ok-same (function_with h []) p same))
    ∙ first-joined h (rest_of (key_of h ∷ []) 5 0 0 forms)

-- the first function
pub first-begun : (before keys : List Key) (whole : List Function) (last : Function) (t : AsmTerm) (forms : List AsmTerm) → before ≡ []
    → empty_function before 4 t ≡ Ok (function_parts last) → last.code ≡ [] → keys ≡ before ++ (last.name, last.arity) ∷ [] → whole ≡ [] → from_here keys whole last 5 forms ≡ functions_of (t ∷ forms)
unfolding from_here
first-begun before keys whole last t forms new e none added start =
    ap (λ ws. joined (map function_parts ws) (function_parts last) (rest_of keys 5 (length ws) (length last.code) forms)) start
    ∙ ap (λ n. joined [] (function_parts last) (rest_of keys 5 0 n forms)) (ap length none)
    ∙ ap (λ ks. joined [] (function_parts last) (rest_of ks 5 0 0 forms)) (added ∙ ap (λ ks. ks ++ (last.name, last.arity) ∷ []) new)
    ∙ first-with (function_parts last) forms (begins [] 4 t) (sym (ap (λ ks. empty_function ks 4 t) new) ∙ e)

refusal-same : (a b : FormFault) → ◌≡◌ {A = Result FunctionParts FormFault} (Err a) (Err b) → a ≡ b
refusal-same a b e = cc

first-refused : (forms : List AsmTerm) (r : Result Heading FormFault) (f : FormFault) → (r >>= λ h. Ok (function_with h [])) ≡ Err f → (r >>= functions_from forms) ≡ Err f
first-refused forms (Err e) f same = ap (λ (x : FormFault). let r : Result (List FunctionParts) FormFault = Err x in r) (refusal-same e f same)
first-refused forms (Ok h) f same = absurd (cc)

-- a first function form that is refused
pub first-fails : (t : AsmTerm) (forms : List AsmTerm) (fault : FormFault) → Fails fault (empty_function [] 4 t) → Fails fault (functions_of (t ∷ forms))
first-fails t forms fault fails = fails-too fault (empty_function [] 4 t) (functions_of (t ∷ forms)) (λ f e. first-refused forms (begins [] 4 t) f e) fails

-- the next form, of all that are left
pub next-read : (keys keys' : List Key) (whole whole' : List Function) (last next : Function) (at : ℕ) (rest : List AsmTerm) (t : AsmTerm) (all : Result (List FunctionParts) FormFault)
    → at < length rest → t ≡ get_or rest at t
    → ((forms : List AsmTerm) → from_here keys whole last (at + 5) (t ∷ forms) ≡ from_here keys' whole' next (at + 5 + 1) forms)
    → from_here keys whole last (at + 5) (drop at rest) ≡ all → from_here keys' whole' next (at + 1 + 5) (drop (at + 1) rest) ≡ all
next-read keys keys' whole whole' last next at rest t all within is step so =
    ap (λ n. from_here keys' whole' next n (drop (at + 1) rest)) (omega (arith))
    ∙ sym (step (drop (at + 1) rest))
    ∙ sym (ap (λ ts. from_here keys whole last (at + 5) ts) (dropped rest at t within is))
    ∙ so

pub next-fails : (keys : List Key) (whole : List Function) (last : Function) (at : ℕ) (rest : List AsmTerm) (t : AsmTerm) (all : Result (List FunctionParts) FormFault) (fault : FormFault)
    → at < length rest → t ≡ get_or rest at t → ((forms : List AsmTerm) → Fails fault (from_here keys whole last (at + 5) (t ∷ forms)))
    → from_here keys whole last (at + 5) (drop at rest) ≡ all → Fails fault all
next-fails keys whole last at rest t all fault within is step so =
    subst (λ (r : Result (List FunctionParts) FormFault). Fails fault r) (sym (ap (λ ts. from_here keys whole last (at + 5) ts) (dropped rest at t within is)) ∙ so) (step (drop (at + 1) rest))

-- the last function is whole where no form is left
pub last-whole : (keys : List Key) (whole whole' : List Function) (last : Function) (form at : ℕ) (rest : List AsmTerm) (all : Result (List FunctionParts) FormFault)
    → length rest ≤ at → whole' ≡ whole ++ last ∷ [] → from_here keys whole last form (drop at rest) ≡ all → all ≡ Ok (map function_parts whole')
unfolding from_here
last-whole keys whole whole' last form at rest all end put so =
    sym so
    ∙ ap (λ ts. joined (map function_parts whole) (function_parts last) (rest_of keys form (length whole) (length last.code) ts)) (drop_all at rest end)
    ∙ ap (λ code. let r : Result (List FunctionParts) FormFault = Ok (map function_parts whole ++ record (function_parts last) { code = code } ∷ []) in r) (append-nil (map parts_of last.code))
    ∙ ap (λ fs. let r : Result (List FunctionParts) FormFault = Ok fs in r) (sym (map-append function_parts whole (last ∷ [])))
    ∙ ap (λ ws. let r : Result (List FunctionParts) FormFault = Ok (map function_parts ws) in r) (sym put)
