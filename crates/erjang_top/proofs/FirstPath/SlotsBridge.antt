-- A function of the first path's instructions that is well slotted by the whole definition is so by the first path's.
use Rattle.std.proofs.Common.{◌≡◌, ℕ, zero, suc, ◌+◌, Bool, true, false, nat_eq, nat_lt, nat_le, ◌&&◌, List, [], ◌∷◌, map, Option, None, Some, is_none, unwrap_or, refl, sym, ap, ◌∙◌, subst}
use Rattle.std.specs.Prelude.{if◌then◌else◌, MatchOption, option_map}
use Rattle.std.specs.List.{list_all}
use Rattle.std.proofs.lemmas.Bool.{true≢false}
use Rattle.beam_code.specs.declared.kind.Kind.{Kind as WholeKind}
use Rattle.beam_code.specs.declared.kind.Kind.TheVariants as k
use Rattle.beam_code.specs.declared.module.Function.{Function}
use Rattle.beam_code.specs.declared.operand.Reg.TheVariants as register
use Rattle.beam_code.specs.declared.operand.Src.{Src}
use Rattle.beam_code.specs.declared.operand.Src.TheVariants as source
use Rattle.beam_code.specs.declared.operand.TheConstants.{LAST_REGISTER}
use Rattle.beam_code.specs.Code as code
use Rattle.beam_code.specs.Code.{function_code}
use Rattle.beam_code.specs.Flow as flows
use Rattle.beam_code.specs.Flow.{flow}
use Rattle.beam_code.specs.Good as good
use Rattle.beam_code.specs.Opcode as c
use Rattle.beam_code.specs.Slots as whole
use Rattle.erjang_top.specs.first_path.Opcode.{Opcode, thin, is_known}
use Rattle.erjang_top.specs.first_path.Built.{knows}
use Rattle.erjang_top.specs.first_path.Slots.{Kind, Undefined, Term, OptTerm, Tag, Trace, Marker, State, BelowKind, Below, Assignment, GoesTo, tag_labels, lowest_tag, handlers, caught, GoToEach, IsMoved, with_x, Walk, entry_state, WellSlotted}
use Rattle.erjang_compile.specs.Accepted as accepted
use Rattle.erjang_top.proofs.FirstPath.RulesKept.{mapped}

-- ---- the same kinds and states

abbrev kind : WholeKind → Kind
kind k.Undefined = Undefined
kind k.Term = Term
kind k.OptTerm = OptTerm
kind (k.Tag labels) = Tag labels
kind k.Trace = Trace
kind k.Marker = Marker

abbrev state : whole.State → State
state s = record { frame = s.frame; xs = λ n. kind (s.xs n); ys = λ n. kind (s.ys n) }

abbrev given : good.Assignment → Assignment
given at label = option_map state (at label)

-- ---- what is below

not-true : {A : Type 0} → false ≡ true → A
not-true h = absurd (true≢false (sym h))

below-kind : (a b : WholeKind) → whole.below_kind a b ≡ true → BelowKind (kind a) (kind b)
below-kind (k.Tag few) (k.Tag many) h = h
below-kind k.Undefined k.Undefined h = tt
below-kind k.Term k.Term h = tt
below-kind k.Term k.OptTerm h = tt
below-kind k.Term k.Undefined h = tt
below-kind k.OptTerm k.OptTerm h = tt
below-kind k.OptTerm k.Undefined h = tt
below-kind k.Trace k.Trace h = tt
below-kind k.Trace k.Undefined h = tt
below-kind k.Marker k.Marker h = tt
below-kind k.Marker k.Undefined h = tt
below-kind _ _ h = not-true h

below-state : (a b : whole.State) → whole.Below a b → Below (state a) (state b)
below-state a b h = record { frame = h.frame; xs = λ n. below-kind (a.xs n) (b.xs n) (h.xs n); ys = λ n. below-kind (a.ys n) (b.ys n) (h.ys n) }

goes-to : (s : whole.State) (there : Option whole.State) → whole.BelowIfReached (Some s) there → MatchOption (option_map state there) ⊥ (Below (state s))
goes-to s None h = h
goes-to s (Some t) h = below-state s t h

-- ---- what is raised

choose : (b : Bool) (x y : WholeKind) → kind (if b then x else y) ≡ (if b then kind x else kind y)
choose true x y = refl
choose false x y = refl

same-caught : (s : whole.State) → state (flows.caught s) ≡ caught (state s)
same-caught s = let p = λ (n : ℕ). choose (nat_eq n 0) k.OptTerm k.Undefined in λ i. record { frame = s.frame; xs = λ n. p n i; ys = λ n. kind (s.ys n) }

same-tag : (x : WholeKind) → tag_labels (kind x) ≡ flows.tag_labels x
same-tag k.Undefined = refl
same-tag k.Term = refl
same-tag k.OptTerm = refl
same-tag (k.Tag labels) = refl
same-tag k.Trace = refl
same-tag k.Marker = refl

same-lowest : (ys : ℕ → WholeKind) (at left : ℕ) → lowest_tag (λ n. kind (ys n)) at left ≡ flows.lowest_tag ys at left
same-lowest ys at zero = refl
same-lowest ys at (suc left) = let first = same-tag (ys at) in let rest = same-lowest ys (at + 1) left in λ i. unwrap_or (first i) (rest i)

go-to-each : (at : good.Assignment) (s : whole.State) (labels : List ℕ) → good.GoToEach at (flows.all_ways s labels) → GoToEach (given at) (state s) labels
go-to-each at s [] h = tt
go-to-each at s (label ∷ labels) h = (goes-to s (at label) h.0, go-to-each at s labels h.1)

may-raise : (at : good.Assignment) (s : whole.State) → good.GoToEach at (flows.raised_from s) → GoToEach (given at) (caught (state s)) (handlers (state s))
may-raise at s h =
    subst (λ t. GoToEach (given at) t (handlers (state s))) (same-caught s)
    (subst (GoToEach (given at) (state (flows.caught s))) (sym (same-lowest s.ys 0 (whole.size s))) (go-to-each at (flows.caught s) (flows.handlers s) h))

-- ---- each instruction

-- what is asked of the code behind
abbrev Rest : Type 1
Rest = Option whole.State → Type 0

function-info : (at : good.Assignment) (rest : Rest) (owner name : List ℕ) (arity : ℕ) (s : whole.State) → good.Onward at rest (flow (c.FuncInfo owner name arity) s)
    → GoToEach (given at) (caught (state s)) (handlers (state s)) × rest None
unfolding flow
function-info at rest owner name arity s h = (may-raise at s h.1, h.2)

line : (at : good.Assignment) (rest : Rest) (s : whole.State) → good.Onward at rest (flow c.Line s) → rest (Some s)
unfolding flow
line at rest s h = h.2

comment : (at : good.Assignment) (rest : Rest) (s : whole.State) → good.Onward at rest (flow c.Comment s) → rest (Some s)
unfolding flow
comment at rest s h = h.2

is-none : (frame : Option ℕ) (x : WholeKind) (at : good.Assignment) (rest : Rest) → good.Onward at rest (flows.when (is_none frame && flows.is_term x) flows.leaves)
    → ((frame ≡ None) × (kind x ≡ Term)) × rest None
is-none None k.Term at rest h = ((refl, refl), h.2)
is-none None _ at rest h = absurd h
is-none (Some n) x at rest h = absurd h

return : (at : good.Assignment) (rest : Rest) (s : whole.State) → good.Onward at rest (flow c.Return s) → ((s.frame ≡ None) × (kind (s.xs 0) ≡ Term)) × rest None
unfolding flow
return at rest s h = is-none s.frame (s.xs 0) at rest h

moved-kind : (x : WholeKind) → flows.is_moved x ≡ true → IsMoved (kind x)
moved-kind k.Term h = tt
moved-kind k.Trace h = tt
moved-kind k.Marker h = tt
moved-kind _ h = not-true h

moved-on : (at : good.Assignment) (rest : Rest) (x : WholeKind) (moves fits : Bool) (t : whole.State) → flows.is_moved x ≡ moves
    → good.Onward at rest (flows.onward flows.plain moves (if fits then Some t else None)) → IsMoved (kind x) × rest (Some t)
moved-on at rest x true true t e h = (moved-kind x e, h.2)
moved-on at rest x true false t e h = absurd h
moved-on at rest x false fits t e h = absurd h

move : (at : good.Assignment) (rest : Rest) (from : Src) (to : ℕ) (s : whole.State) → good.Onward at rest (flow (c.Move from (register.X to)) s)
    → IsMoved (kind (flows.kind_of s from)) × rest (Some (whole.with_x to (flows.kind_of s from) s))
unfolding flow
move at rest from to s h = moved-on at rest (flows.kind_of s from) (flows.is_moved (flows.kind_of s from)) (nat_le to LAST_REGISTER) (whole.with_x to (flows.kind_of s from) s) refl h

same-written : (to : ℕ) (x : WholeKind) (s : whole.State) → state (whole.with_x to x s) ≡ with_x to (kind x) (state s)
same-written to x s = let p = λ (n : ℕ). choose (nat_eq n to) x (s.xs n) in λ i. record { frame = s.frame; xs = λ n. p n i; ys = λ n. kind (s.ys n) }

-- ---- the walk

-- a label is entered from before, if what is before it is reached
entered : (before there : Option whole.State) → whole.BelowIfReached before there → MatchOption (option_map state before) (Unit {0}) (λ s. MatchOption (option_map state there) ⊥ (Below s))
entered None there h = tt
entered (Some s) there h = goes-to s there h

-- the instructions behind, in the state that is written
written : (at : Assignment) (to : ℕ) (x : WholeKind) (s : whole.State) (code : List Opcode) → Walk at (Some (state (whole.with_x to x s))) code
    → Walk at (Some (with_x to (kind x) (state s))) code
written at to x s code h = subst (λ t. Walk at (Some t) code) (same-written to x s) h

walk : (at : good.Assignment) (before : Option whole.State) (os : List c.Opcode) → list_all is_known (map thin os) ≡ true → good.Walk at os before
    → Walk (given at) (option_map state before) (map thin os)
walk at before [] known h = ap (option_map state) h
walk at before (c.Label n ∷ os) known h = (entered before (at n) h.0, walk at (at n) os known h.1)
walk at None (c.Line ∷ os) known h = (tt, walk at None os known h)
walk at (Some s) (c.Line ∷ os) known h = (tt, walk at (Some s) os known (line at (good.Walk at os) s h))
walk at None (c.Comment ∷ os) known h = (tt, walk at None os known h)
walk at (Some s) (c.Comment ∷ os) known h = (tt, walk at (Some s) os known (comment at (good.Walk at os) s h))
walk at None (c.FuncInfo owner name arity ∷ os) known h = (tt, walk at None os known h)
walk at (Some s) (c.FuncInfo owner name arity ∷ os) known h =
    let p = function-info at (good.Walk at os) owner name arity s h in (p.0, walk at None os known p.1)
walk at None (c.Return ∷ os) known h = (tt, walk at None os known h)
walk at (Some s) (c.Return ∷ os) known h = let p = return at (good.Walk at os) s h in (p.0, walk at None os known p.1)
walk at None (c.Move (source.Reg (register.X n)) (register.X to) ∷ os) known h = (tt, walk at None os known h)
walk at (Some s) (c.Move (source.Reg (register.X n)) (register.X to) ∷ os) known h =
    let p = move at (good.Walk at os) (source.Reg (register.X n)) to s h in
    (p.0, written (given at) to (s.xs n) s (map thin os) (walk at (Some (whole.with_x to (s.xs n) s)) os known p.1))
walk at None (c.Move (source.Int n) (register.X to) ∷ os) known h = (tt, walk at None os known h)
walk at (Some s) (c.Move (source.Int n) (register.X to) ∷ os) known h =
    let p = move at (good.Walk at os) (source.Int n) to s h in
    (p.0, written (given at) to k.Term s (map thin os) (walk at (Some (whole.with_x to k.Term s)) os known p.1))
walk at None (c.Move (source.Atom name) (register.X to) ∷ os) known h = (tt, walk at None os known h)
walk at (Some s) (c.Move (source.Atom name) (register.X to) ∷ os) known h =
    let p = move at (good.Walk at os) (source.Atom name) to s h in
    (p.0, written (given at) to k.Term s (map thin os) (walk at (Some (whole.with_x to k.Term s)) os known p.1))
walk at None (c.Move source.Nil (register.X to) ∷ os) known h = (tt, walk at None os known h)
walk at (Some s) (c.Move source.Nil (register.X to) ∷ os) known h =
    let p = move at (good.Walk at os) source.Nil to s h in
    (p.0, written (given at) to k.Term s (map thin os) (walk at (Some (whole.with_x to k.Term s)) os known p.1))
walk at before (c.Move (source.Reg (register.Y n)) (register.X to) ∷ os) known h = not-true known
walk at before (c.Move (source.Literal t) (register.X to) ∷ os) known h = not-true known
walk at before (c.Move from (register.Y to) ∷ os) known h = not-true known
walk at before (o ∷ os) known h = not-true known

-- ---- functions

same-entry : (arity : ℕ) → state (whole.entry_state arity) ≡ entry_state arity
same-entry arity = let p = λ (n : ℕ). choose (nat_lt n arity) k.Term k.Undefined in λ i. record { frame = None; xs = λ n. p n i; ys = λ n. Undefined }

pub slots_good : (f : Function) → knows f ≡ true → accepted.WellSlotted (function_code f) → WellSlotted f
slots_good f known w = (
  given w.0,
  record {
    enters = subst (λ s. GoesTo (given w.0) s f.entry) (same-entry f.arity) (goes-to (whole.entry_state f.arity) (w.0 f.entry) w.1.enters);
    walks =
        subst (Walk (given w.0) None) (mapped f.code)
        (walk w.0 None (map code.opcode f.code) (ap (list_all is_known) (mapped f.code) ∙ known) w.1.walks);
  },
)
