-- A module that keeps the label rules keeps those of a module that names no labels.
use Rattle.std.proofs.Common.{◌≡◌, ℕ, true, false, not, nat_eq, ◌&&◌, List, [], ◌∷◌, ◌++◌, map, None, refl, sym, ap, ◌∙◌}
use Rattle.std.specs.Prelude.{if◌then◌else◌}
use Rattle.std.specs.List.{list_any, list_all, filter_map, flat_map, cons_option}
use Rattle.std.specs.Str.{bytes_eq}
use Rattle.std.proofs.lemmas.Bool.{and_parts, and_from, true≢false}
use Rattle.beam_code.specs.declared.instr.Instr.{Instr}
use Rattle.beam_code.specs.declared.module.Function.{Function}
use Rattle.beam_code.specs.declared.module.Module.{Module}
use Rattle.beam_code.specs.declared.operand.Reg.{Reg}
use Rattle.beam_code.specs.declared.operand.Reg.TheVariants as register
use Rattle.beam_code.specs.declared.operand.Src.{Src}
use Rattle.beam_code.specs.declared.operand.Src.TheVariants as source
use Rattle.beam_code.specs.Code.{function_code, module_code}
use Rattle.beam_code.specs.Code as code
use Rattle.beam_code.specs.Labels as labels
use Rattle.beam_code.specs.Labels.{KeepsLabelRules, defined_by, defined_in}
use Rattle.beam_code.specs.Opcode as w
use Rattle.erjang_top.specs.first_path.LabelRules as rules
use Rattle.erjang_top.specs.first_path.LabelRules.{opcodes, defined_label, no_label_twice, labels_of, meets_label_rules}
use Rattle.erjang_top.specs.first_path.Opcode.{opcode, thin, move_of}

-- the beginning

head : (owner : List ℕ) (f : Function) (os : List w.Opcode) → labels.is_head owner (function_code f) os ≡ true → rules.is_head owner f (map thin os) ≡ true
head owner f (w.FuncInfo m name arity ∷ w.Label n ∷ os) e = e
head owner f (w.FuncInfo m name arity ∷ o ∷ os) e = absurd (true≢false (sym (and_parts (bytes_eq m owner && bytes_eq name f.name && nat_eq arity f.arity) false e).1))
head owner f [] e = absurd (true≢false (sym e))
head owner f (o ∷ []) e = absurd (true≢false (sym e))
head owner f (o ∷ x ∷ os) e = absurd (true≢false (sym e))

behind : (owner : List ℕ) (f : Function) (n : ℕ) (o : w.Opcode) (os : List w.Opcode)
    → labels.is_head owner (function_code f) (if labels.is_line o then os else o ∷ os) ≡ true → rules.is_beginning owner f (map thin (w.Label n ∷ o ∷ os)) ≡ true
behind owner f n w.Line os e = head owner f os e
behind owner f n (w.FuncInfo m name arity) os e = head owner f (w.FuncInfo m name arity ∷ os) e
behind owner f n o [] e = absurd (true≢false (sym e))
behind owner f n o (x ∷ os) e = absurd (true≢false (sym e))

beginning : (owner : List ℕ) (f : Function) (os : List w.Opcode) → labels.is_beginning owner (function_code f) os ≡ true → rules.is_beginning owner f (map thin os) ≡ true
beginning owner f [] e = absurd (true≢false (sym e))
beginning owner f (w.Label n ∷ o ∷ os) e = behind owner f n o os e
beginning owner f (o ∷ []) e = by o e
  where
    by : (o : w.Opcode) → labels.is_beginning owner (function_code f) (o ∷ []) ≡ true → rules.is_beginning owner f (map thin (o ∷ [])) ≡ true
    by (w.Label n) e = absurd (true≢false (sym e))
    by _ e = absurd (true≢false (sym e))
beginning owner f (o ∷ x ∷ os) e = absurd (true≢false (sym e))

pub mapped : (is : List Instr) → map thin (map code.opcode is) ≡ map opcode is
mapped [] = refl
mapped (i ∷ is) = ap (λ os. opcode i ∷ os) (mapped is)

begins : (owner : List ℕ) (f : Function) → labels.begins_well owner (function_code f) ≡ true → rules.begins_well owner f ≡ true
begins owner f e = ap (rules.is_beginning owner f) (sym (mapped f.code)) ∙ beginning owner f (map code.opcode f.code) e

all-begin : (owner : List ℕ) (fs : List Function) → list_all (labels.begins_well owner) (map function_code fs) ≡ true → list_all (rules.begins_well owner) fs ≡ true
all-begin owner [] e = refl
all-begin owner (f ∷ fs) e =
    let p = and_parts (labels.begins_well owner (function_code f)) (list_all (labels.begins_well owner) (map function_code fs)) e in
    and_from (rules.begins_well owner f) (list_all (rules.begins_well owner) fs) (begins owner f p.0) (all-begin owner fs p.1)

-- the labels

move-defines : (from : Src) (to : Reg) → defined_label (move_of from to) ≡ None
move-defines (source.Reg (register.X n)) (register.X to) = refl
move-defines (source.Reg (register.Y n)) (register.X to) = refl
move-defines (source.Int n) (register.X to) = refl
move-defines (source.Atom name) (register.X to) = refl
move-defines source.Nil (register.X to) = refl
move-defines (source.Literal t) (register.X to) = refl
move-defines from (register.Y to) = refl

defines : (o : w.Opcode) → defined_label (thin o) ≡ defined_by o
defines (w.Move from to) = move-defines from to
defines _ = refl

all-define : (os : List w.Opcode) → filter_map defined_label (map thin os) ≡ defined_in os
all-define [] = refl
all-define (o ∷ os) = let first = defines o in let rest = all-define os in λ k. cons_option (first k) (rest k)

function-defines : (f : Function) → filter_map defined_label (opcodes f) ≡ defined_in (function_code f).code
function-defines f = ap (filter_map defined_label) (sym (mapped f.code)) ∙ all-define (map code.opcode f.code)

same-labels : (fs : List Function) → flat_map (λ f. filter_map defined_label (opcodes f)) fs ≡ flat_map (λ (f : code.FunctionCode). defined_in f.code) (map function_code fs)
same-labels [] = refl
same-labels (f ∷ fs) = let first = function-defines f in let rest = same-labels fs in λ k. first k ++ rest k

once : (ns : List ℕ) → no_label_twice ns ≡ labels.no_label_twice ns
once [] = refl
once (n ∷ ns) = ap (λ b. not (list_any (nat_eq n) ns) && b) (once ns)

pub rules_kept : (m : Module) → KeepsLabelRules (module_code m) → meets_label_rules m ≡ true
rules_kept m k =
    and_from (list_all (rules.begins_well m.name) m.functions) (no_label_twice (labels_of m)) (all-begin m.name m.functions k.beginnings)
    (ap no_label_twice (same-labels m.functions) ∙ once (labels.labels_of (module_code m)) ∙ k.distinct)
