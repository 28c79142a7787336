-- Of forms whose names and integers are in range come the parts of a module whose names and integers are in range.
use Rattle.std.proofs.Common.{◌≡◌, ℕ, ◌+◌, ℤ, pos, negsuc, Bool, true, false, nat_eq, nat_le, List, [], ◌∷◌, ◌++◌, map, codes, length, Option, Some, None, IfSome, option_map, option_and_then, if◌then◌else◌, Result, Ok, Err, IfOk, refl, sym, ◌∙◌}
use Rattle.std.specs.Bool.{⊤}
use Rattle.std.specs.List.{list_all}
use Rattle.std.proofs.lemmas.Bool.{and_parts}
use Rattle.ej_term.specs.declared.asm_term.AsmTerm.{AsmTerm, out-AsmTerm, fold_out-AsmTerm}
use Rattle.ej_term.specs.declared.asm_term.AsmTerm.TheFolds.{map-AsmTerm}
use Rattle.ej_term.specs.declared.asm_term.AsmTerm.TheOpen as o
use Rattle.ej_term.specs.declared.asm_term.AsmTerm.TheOpen.{AsmTerm-F}
use Rattle.genop_table.specs.declared.part.Limit.{Limit}
use Rattle.genop_table.specs.declared.part.Part.{Part}
use Rattle.genop_table.specs.declared.part.Part.TheVariants as part
use Rattle.genop_table.specs.declared.part.Place.{Place}
use Rattle.genop_table.specs.Instructions.{Instruction as Row}
use Rattle.beam_code.specs.declared.operand.Operand.{Operand}
use Rattle.beam_code.specs.declared.operand.Operand.TheVariants as operand
use Rattle.beam_code.specs.declared.operand.Src.{Src}
use Rattle.beam_code.specs.declared.operand.Src.TheVariants as source
use Rattle.beam_code.specs.declared.operand.TheConstants.{LAST_COUNT}
use Rattle.beam_code.specs.RowFits.{fits}
use Rattle.beam_code.specs.Keys.{Key, is_among}
use Rattle.beam_code.specs.Parts.{Instruction, fitting, FunctionParts, ModuleParts}
use Rattle.ej_term.specs.Term.{has_64_bits}
use Rattle.asm_module.specs.declared.fault.FormFault.{FormFault}
use Rattle.asm_module.specs.Terms.{is_word, atom_in, atom, integer_in, integer, up_to, number, tuple_in, tuple, Tagged, tagged_parts, tagged, pair_of, pair, pair_with, behind}
use Rattle.asm_module.specs.Operands.{register_named, nil_named, value_named, source_paired, source_of, external_with, external_parts, external_tagged, operand_of, is_need, one, kept_of, operands_of}
use Rattle.asm_module.specs.Instructions as forms
use Rattle.asm_module.specs.Instructions.{Written, written_tagged, written_in, written, terms_of, row_named, has_foreign, unknown_name, row_of, number_in, bare, in_tuple, by_terms, instruction_of, or_unknown_name, or_foreign, or_no_row, or_nameless, instruction}
use Rattle.asm_module.specs.Modules.{Heading, key_of, heading_with, heading_of, heading_parts, heading_tagged, heading, keys_of, or_bad, ◌>>=◌, begins_new, begins, Rest, with_instruction, with_function, then_rest, is_function, rest_of, functions_from, functions_of, nothing, Headed, with_forms, header_form, next_form, header_of, if_named, module_name, reading}
use Rattle.asm_module.specs.Ranges.{is_atom_name, good_step, good, Good, EachGood, Name, Bits, UpTo, GoodSrc, GoodOperand, EachOperand, GoodInstruction, EachInstruction, GoodFunction, EachFunction, ModuleName, GoodParts, ReadInRange}

-- ---- options and results

either_by : {A : Type 0} (P : A → Type 0) (b : Bool) {x y : A} → (b ≡ true → P x) → (b ≡ false → P y) → P (if b then x else y)
either_by P true h k = h refl
either_by P false h k = k refl

either : {A : Type 0} (P : A → Type 0) (b : Bool) {x y : A} → P x → P y → P (if b then x else y)
either P true h k = h
either P false h k = k

if-then : {A B : Type 0} (P : A → Type 0) (Q : B → Type 0) (f : A → Option B) (m : Option A) → IfSome m P → ((a : A) → P a → IfSome (f a) Q) → IfSome (option_and_then f m) Q
if-then P Q f None h k = tt
if-then P Q f (Some a) h k = k a h

if-map : {A B : Type 0} (P : A → Type 0) (Q : B → Type 0) (f : A → B) (m : Option A) → IfSome m P → ((a : A) → P a → Q (f a)) → IfSome (option_map f m) Q
if-map P Q f None h k = tt
if-map P Q f (Some a) h k = k a h

ok-then : {A B : Type 0} (P : A → Type 0) (Q : B → Type 0) (f : A → Result B FormFault) (r : Result A FormFault) → IfOk r P → ((a : A) → P a → IfOk (f a) Q) → IfOk (r >>= f) Q
ok-then P Q f (Err e) h k = tt
ok-then P Q f (Ok a) h k = k a h

ok-some : {A : Type 0} (P : A → Type 0) (form : ℕ) (m : Option A) → IfSome m P → IfOk (or_bad form m) P
ok-some P form None h = tt
ok-some P form (Some a) h = h

-- ---- terms

parts-all : (ts : List AsmTerm) → list_all (λ part. part) (map good ts) ≡ true → EachGood ts
parts-all [] h = tt
parts-all (t ∷ ts) h = let p = and_parts (good t) (list_all (λ part. part) (map good ts)) h in (p.0, parts-all ts p.1)

opened : (t : AsmTerm) → Good t → good_step (map-AsmTerm AsmTerm Bool good (out-AsmTerm t)) ≡ true
opened t h = sym (fold_out-AsmTerm Bool good_step t) ∙ h

atom-in : (d : AsmTerm-F AsmTerm) → good_step (map-AsmTerm AsmTerm Bool good d) ≡ true → IfSome (atom_in d) Name
atom-in (o.Atom name) h = h
atom-in _ h = tt

integer-in : (d : AsmTerm-F AsmTerm) → good_step (map-AsmTerm AsmTerm Bool good d) ≡ true → IfSome (integer_in d) Bits
integer-in (o.Int n) h = h
integer-in _ h = tt

tuple-in : (d : AsmTerm-F AsmTerm) → good_step (map-AsmTerm AsmTerm Bool good d) ≡ true → IfSome (tuple_in d) EachGood
tuple-in (o.Tuple parts) h = parts-all parts h
tuple-in _ h = tt

atom-good : (t : AsmTerm) → Good t → IfSome (atom t) Name
atom-good t h = atom-in (out-AsmTerm t) (opened t h)

integer-good : (t : AsmTerm) → Good t → IfSome (integer t) Bits
integer-good t h = integer-in (out-AsmTerm t) (opened t h)

tuple-good : (t : AsmTerm) → Good t → IfSome (tuple t) EachGood
tuple-good t h = tuple-in (out-AsmTerm t) (opened t h)

up_to-good : (most : ℕ) (n : ℤ) → IfSome (up_to most n) (UpTo most)
up_to-good most (pos n) = either_by (λ m. IfSome m (UpTo most)) (nat_le n most) (λ e. e) (λ e. tt)
up_to-good most (negsuc n) = tt

number-good : (most : ℕ) (t : AsmTerm) → IfSome (number most t) (UpTo most)
number-good most t = by (integer t)
  where
    by : (m : Option ℤ) → IfSome (option_and_then (up_to most) m) (UpTo most)
    by None = tt
    by (Some n) = up_to-good most n

abbrev GoodTagged : Tagged → Type 0
GoodTagged p = Name p.0 × EachGood p.1

abbrev GoodPair : List ℕ × AsmTerm → Type 0
GoodPair p = Name p.0 × Good p.1

tagged_parts-good : (ts : List AsmTerm) → EachGood ts → IfSome (tagged_parts ts) GoodTagged
tagged_parts-good [] h = tt
tagged_parts-good (t ∷ ts) h = if-map Name GoodTagged (λ name. (name, ts)) (atom t) (atom-good t h.0) (λ name e. (e, h.1))

tagged-good : (t : AsmTerm) → Good t → IfSome (tagged t) GoodTagged
tagged-good t h = if-then EachGood GoodTagged tagged_parts (tuple t) (tuple-good t h) tagged_parts-good

pair_of-good : (p : Tagged) → GoodTagged p → IfSome (pair_of p) GoodPair
pair_of-good (name, []) h = tt
pair_of-good (name, t ∷ []) h = (h.0, h.1.0)
pair_of-good (name, t ∷ u ∷ ts) h = tt

pair-good : (t : AsmTerm) → Good t → IfSome (pair t) GoodPair
pair-good t h = if-then GoodTagged GoodPair pair_of (tagged t) (tagged-good t h) pair_of-good

behind-good : (word : List ℕ) (t : AsmTerm) → Good t → IfSome (behind word t) Good
behind-good word t h = if-then GoodPair Good (pair_with word) (pair t) (pair-good t h) (λ p k. either (λ m. IfSome m Good) (is_word p.0 word) k.1 tt)

-- ---- operands

-- what is made of anything
made : {A B : Type 0} (Q : B → Type 0) (f : A → B) → ((a : A) → Q (f a)) → (m : Option A) → IfSome (option_map f m) Q
made Q f k None = tt
made Q f k (Some a) = k a

abbrev SomeSrc : Option Src → Type 0
SomeSrc m = IfSome m GoodSrc

value-good : (p : List ℕ × AsmTerm) → GoodPair p → SomeSrc (value_named p)
value-good p h =
    either SomeSrc (is_word p.0 (codes "integer")) (if-map Bits GoodSrc source.Int (integer p.1) (integer-good p.1 h.1) (λ n e. e))
    (either SomeSrc (is_word p.0 (codes "atom")) (if-map Name GoodSrc source.Atom (atom p.1) (atom-good p.1 h.1) (λ name e. e))
    (either SomeSrc (is_word p.0 (codes "literal")) tt (made GoodSrc source.Reg (λ r. tt) (register_named p))))

nil-good : (m : Option (List ℕ)) → SomeSrc (option_and_then nil_named m)
nil-good None = tt
nil-good (Some name) = either SomeSrc (is_word name (codes "nil")) tt tt

source-good : (t : AsmTerm) → Good t → SomeSrc (source_of t)
source-good t h = by (pair t) (pair-good t h)
  where
    by : (m : Option (List ℕ × AsmTerm)) → IfSome m GoodPair → SomeSrc (source_paired t m)
    by None k = nil-good (atom t)
    by (Some p) k = value-good p k

abbrev SomeOperand : Option Operand → Type 0
SomeOperand m = IfSome m GoodOperand

external-good : (a b : Option (List ℕ)) (n : Option ℕ) → SomeOperand (external_with a b n)
external-good None b n = tt
external-good (Some a) None n = tt
external-good (Some a) (Some b) None = tt
external-good (Some a) (Some b) (Some n) = tt

external_parts-good : (ts : List AsmTerm) → SomeOperand (external_parts ts)
external_parts-good [] = tt
external_parts-good (a ∷ []) = tt
external_parts-good (a ∷ b ∷ []) = tt
external_parts-good (a ∷ b ∷ c ∷ []) = external-good (atom a) (atom b) (number 255 c)
external_parts-good (a ∷ b ∷ c ∷ d ∷ ts) = tt

external_of-good : (m : Option Tagged) → SomeOperand (option_and_then external_tagged m)
external_of-good None = tt
external_of-good (Some p) = either SomeOperand (is_word p.0 (codes "extfunc")) (external_parts-good p.1) tt

operand-good : (l : Limit) (number : ℕ) (p : Part) (t : AsmTerm) → Good t → SomeOperand (operand_of l number p t)
operand-good l number part.Src t h = if-map GoodSrc GoodOperand operand.Src (source_of t) (source-good t h) (λ s k. k)
operand-good l number part.Reg t h = made GoodOperand operand.Reg (λ x. tt) _
operand-good l number part.Label t h = made GoodOperand operand.Label (λ x. tt) _
operand-good l number part.Count t h = made GoodOperand operand.Count (λ x. tt) _
operand-good l number part.Name t h = tt
operand-good l number part.Ext t h = external_of-good (tagged t)
operand-good l number part.Srcs t h = made GoodOperand operand.Srcs (λ x. tt) _
operand-good l number part.Cases t h = made GoodOperand operand.Cases (λ x. tt) _
operand-good l number part.Arities t h = made GoodOperand operand.Cases (λ x. tt) _
operand-good l number part.Pairs t h = made GoodOperand operand.Pairs (λ x. tt) _
operand-good l number part.Gets t h = made GoodOperand operand.Gets (λ x. tt) _
operand-good l number part.Regs t h = made GoodOperand operand.Regs (λ x. tt) _
operand-good l number _ t h = tt

abbrev SomeOperands : Option (List Operand) → Type 0
SomeOperands m = IfSome m EachOperand

one-good : (m : Option Operand) → SomeOperand m → SomeOperands (option_map one m)
one-good m h = if-map GoodOperand EachOperand one m h (λ x k. (k, tt))

kept-good : (l : Limit) (number : ℕ) (p : Part) (t : AsmTerm) → Good t → SomeOperands (kept_of l number p t)
unfolding kept_of
kept-good l number part.Need t h = either SomeOperands (is_need t) tt tt
kept-good l number part.Any t h = tt
kept-good l number p t h = one-good (operand_of l number p t) (operand-good l number p t h)

joined-good : (xs ys : List Operand) → EachOperand xs → EachOperand ys → EachOperand (xs ++ ys)
joined-good [] ys h k = k
joined-good (x ∷ xs) ys h k = (h.0, joined-good xs ys h.1 k)

operands-good : (number : ℕ) (places : List Place) (ts : List AsmTerm) → EachGood ts → SomeOperands (operands_of number places ts)
operands-good number [] [] h = tt
operands-good number [] (t ∷ ts) h = tt
operands-good number (p ∷ places) [] h = tt
operands-good number (p ∷ places) (t ∷ ts) h =
    if-then EachOperand EachOperand (λ first. option_map (λ rest. first ++ rest) (operands_of number places ts)) (kept_of p.limit number p.part t) (kept-good p.limit number p.part t h.0)
    (λ first k. if-map EachOperand EachOperand (λ rest. first ++ rest) (operands_of number places ts) (operands-good number places ts h.1) (λ rest l. joined-good first rest k l))

-- ---- instructions

abbrev SomeInstruction : Option Instruction → Type 0
SomeInstruction m = IfSome m GoodInstruction

fitting-good : (row : ℕ) (operands : List Operand) → EachOperand operands → SomeInstruction (fitting row operands)
fitting-good row operands h = either SomeInstruction (fits row operands) h tt

abbrev GoodWritten : Written → Type 0
GoodWritten w = IfSome w.terms EachGood

written-good : (t : AsmTerm) → Good t → IfSome (written t) GoodWritten
written-good t h = by (atom t)
  where
    by : (m : Option (List ℕ)) → IfSome (written_in t m) GoodWritten
    by (Some name) = tt
    by None = if-map GoodTagged GoodWritten written_tagged (tagged t) (tagged-good t h) (λ p k. k.1)

by_terms-good : (row : Row) (m : Option (List AsmTerm)) → IfSome m EachGood → SomeInstruction (by_terms row m)
by_terms-good row None h = either SomeInstruction (nat_eq (length row.places) 0) (fitting-good row.entry.number [] tt) tt
by_terms-good row (Some ts) h =
    either SomeInstruction (nat_eq (length row.places) 0) tt
    (if-then EachOperand GoodInstruction (fitting row.entry.number) (operands_of (number_in row.genop ts) row.places ts) (operands-good (number_in row.genop ts) row.places ts h)
    (λ operands k. fitting-good row.entry.number operands k))

instruction_of-good : (row : Row) (w : Written) → GoodWritten w → SomeInstruction (instruction_of row w)
unfolding instruction_of
instruction_of-good row w h = by_terms-good row w.terms h

found-good : (row : Option Row) (w : Written) → GoodWritten w → SomeInstruction (option_and_then (λ r. instruction_of r w) row)
found-good None w h = tt
found-good (Some row) w h = instruction_of-good row w h

abbrev OkInstruction : Result Instruction FormFault → Type 0
OkInstruction r = IfOk r GoodInstruction

or_bad-good : (func index : ℕ) (m : Option Instruction) → SomeInstruction m → OkInstruction (forms.or_bad func index m)
or_bad-good func index None h = tt
or_bad-good func index (Some i) h = h

or_unknown_name-good : (func index : ℕ) (row : Row) (w : Written) (m : Option (List ℕ)) → GoodWritten w → OkInstruction (or_unknown_name func index row w m)
or_unknown_name-good func index row w (Some name) h = tt
or_unknown_name-good func index row w None h = or_bad-good func index (option_and_then (λ r. instruction_of r w) (row_of row (terms_of w))) (found-good (row_of row (terms_of w)) w h)

or_no_row-good : (func index : ℕ) (t : AsmTerm) (w : Written) (m : Option Row) → GoodWritten w → OkInstruction (or_no_row func index t w m)
or_no_row-good func index t w None h = tt
or_no_row-good func index t w (Some row) h = either OkInstruction (has_foreign t w) tt (or_unknown_name-good func index row w (unknown_name row.genop (terms_of w)) h)

or_nameless-good : (func index : ℕ) (t : AsmTerm) (m : Option Written) → IfSome m GoodWritten → OkInstruction (or_nameless func index t m)
or_nameless-good func index t None h = tt
or_nameless-good func index t (Some w) h = or_no_row-good func index t w (row_named w.name) h

instruction-good : (func index : ℕ) (t : AsmTerm) → Good t → OkInstruction (instruction func index t)
instruction-good func index t h = or_nameless-good func index t (written t) (written-good t h)

-- ---- functions

abbrev GoodHeading : Heading → Type 0
GoodHeading h = Name h.name × UpTo 255 h.arity × UpTo LAST_COUNT h.entry

heading_with-good : (name : List ℕ) (a e : Option ℕ) → Name name → IfSome a (UpTo 255) → IfSome e (UpTo LAST_COUNT) → IfSome (heading_with name a e) GoodHeading
heading_with-good name None e n h k = tt
heading_with-good name (Some a) None n h k = tt
heading_with-good name (Some a) (Some e) n h k = (n, h, k)

heading_of-good : (name arity entry : AsmTerm) → Good name → IfSome (heading_of name arity entry) GoodHeading
heading_of-good name arity entry h =
    if-then Name GoodHeading (λ n. heading_with n (number 255 arity) (number LAST_COUNT entry)) (atom name) (atom-good name h)
    (λ n k. heading_with-good n (number 255 arity) (number LAST_COUNT entry) k (number-good 255 arity) (number-good LAST_COUNT entry))

heading_parts-good : (ts : List AsmTerm) → EachGood ts → IfSome (heading_parts ts) GoodHeading
heading_parts-good [] h = tt
heading_parts-good (a ∷ []) h = tt
heading_parts-good (a ∷ b ∷ []) h = tt
heading_parts-good (a ∷ b ∷ c ∷ []) h = heading_of-good a b c h.0
heading_parts-good (a ∷ b ∷ c ∷ d ∷ ts) h = tt

heading-good : (t : AsmTerm) → Good t → IfSome (heading t) GoodHeading
heading-good t h =
    if-then GoodTagged GoodHeading heading_tagged (tagged t) (tagged-good t h)
    (λ p k. either (λ m. IfSome m GoodHeading) (is_word p.0 (codes "function")) (heading_parts-good p.1 k.1) tt)

begins-good : (before : List Key) (form : ℕ) (t : AsmTerm) → Good t → IfOk (begins before form t) GoodHeading
begins-good before form t h =
    ok-then GoodHeading GoodHeading (begins_new before form) (or_bad form (heading t)) (ok-some GoodHeading form (heading t) (heading-good t h))
    (λ x k. either (λ r. IfOk r GoodHeading) (is_among before (key_of x)) tt k)

abbrev GoodRest : Rest → Type 0
GoodRest rest = EachInstruction rest.code × EachFunction rest.functions

abbrev OkRest : Result Rest FormFault → Type 0
OkRest r = IfOk r GoodRest

rest-good : (before : List Key) (form func index : ℕ) (ts : List AsmTerm) → EachGood ts → OkRest (rest_of before form func index ts)
rest-good before form func index [] h = (tt, tt)
rest-good before form func index (t ∷ ts) h =
    either OkRest (is_function t)
    (ok-then GoodHeading GoodRest (then_rest with_function (λ x. rest_of (before ++ key_of x ∷ []) (form + 1) (func + 1) 0 ts)) (begins before form t) (begins-good before form t h.0)
    (λ x k. ok-then GoodRest GoodRest (λ rest. Ok (with_function x rest)) (rest_of (before ++ key_of x ∷ []) (form + 1) (func + 1) 0 ts) (rest-good (before ++ key_of x ∷ []) (form + 1) (func + 1) 0 ts h.1)
    (λ rest l. (tt, ((k, l.0), l.1)))))
    (ok-then GoodInstruction GoodRest (then_rest with_instruction (λ i. rest_of before (form + 1) func (index + 1) ts)) (instruction func index t) (instruction-good func index t h.0)
    (λ i k. ok-then GoodRest GoodRest (λ rest. Ok (with_instruction i rest)) (rest_of before (form + 1) func (index + 1) ts) (rest-good before (form + 1) func (index + 1) ts h.1)
    (λ rest l. ((k, l.0), l.1))))

functions-good : (ts : List AsmTerm) → EachGood ts → IfOk (functions_of ts) EachFunction
functions-good [] h = tt
functions-good (t ∷ ts) h =
    ok-then GoodHeading EachFunction (functions_from ts) (begins [] 4 t) (begins-good [] 4 t h.0)
    (λ x k. ok-then GoodRest EachFunction (λ rest. Ok (with_function x rest).functions) (rest_of (key_of x ∷ []) 5 0 0 ts) (rest-good (key_of x ∷ []) 5 0 0 ts h.1)
    (λ rest l. ((k, l.0), l.1)))

-- ---- modules

abbrev GoodHeaded : Headed → Type 0
GoodHeaded r = EachGood r.1

next-good : (is_one : Key → Bool) (form : ℕ) (r : Headed) → GoodHeaded r → IfOk (next_form is_one form r) GoodHeaded
next-good is_one form (h, []) g = tt
next-good is_one form (h, t ∷ ts) g = ok-some GoodHeaded form (option_map (with_forms ts) (header_form is_one h t)) (made GoodHeaded (with_forms ts) (λ x. g.1) (header_form is_one h t))

header-good : (is_one : Key → Bool) (ts : List AsmTerm) → EachGood ts → IfOk (header_of is_one ts) GoodHeaded
unfolding header_of
header-good is_one ts h =
    ok-then GoodHeaded GoodHeaded (next_form is_one 3) (next_form is_one 1 (nothing, ts) >>= next_form is_one 2)
    (ok-then GoodHeaded GoodHeaded (next_form is_one 2) (next_form is_one 1 (nothing, ts)) (next-good is_one 1 (nothing, ts) h) (next-good is_one 2))
    (next-good is_one 3)

module_name-good : (t : AsmTerm) → Good t → IfSome (module_name t) ModuleName
module_name-good t h =
    if-then Name ModuleName if_named (option_and_then atom (behind (codes "module") t)) (if-then Good Name atom (behind (codes "module") t) (behind-good (codes "module") t h) atom-good)
    (λ name k. either_by (λ m. IfSome m ModuleName) (is_word name []) (λ e. tt) (λ e. (k, e)))

-- of good forms come good parts
pub reading-good : ReadInRange
reading-good [] h = tt
reading-good (first ∷ ts) h =
    ok-then ModuleName GoodParts _ (or_bad 0 (module_name first)) (ok-some ModuleName 0 (module_name first) (module_name-good first h.0))
    (λ name n. ok-then GoodHeaded GoodParts _ (header_of (is_among (keys_of ts)) ts) (header-good (is_among (keys_of ts)) ts h.1)
    (λ headed k. ok-then EachFunction GoodParts _ (functions_of headed.1) (functions-good headed.1 k)
    (λ functions l. (n, l))))
