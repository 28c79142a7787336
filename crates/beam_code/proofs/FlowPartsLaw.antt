-- The steps of the code come to where control goes.
use Rattle.std.proofs.Common.{◌≡◌, ℕ, Bool, true, false, nat_eq, ◌&&◌, ◌||◌, List, [], ◌∷◌, map, Option, None, Some, refl, ap, ◌∙◌}
use Rattle.std.specs.Prelude.{nat_le, if◌then◌else◌, is_some, option_and_then}
use Rattle.beam_code.specs.declared.kind.Kind.{Kind}
use Rattle.beam_code.specs.declared.kind.Kind.TheVariants as k
use Rattle.beam_code.specs.declared.operand.Reg.{Reg}
use Rattle.beam_code.specs.declared.operand.Reg.TheVariants.{X, Y}
use Rattle.beam_code.specs.declared.operand.TheConstants.{LAST_REGISTER}
use Rattle.beam_code.specs.Flow.{Flow, flow, is_moved, kind_in, kind_of, holds, reads, reads_all, reads_pairs, writes, writes_terms, live_if, on, going, raising, failing, when, onward, plain, comes_back, leaves, after_call, all_ways, raised_from, are_terms, read_by, builtin_called}
use Rattle.beam_code.specs.FlowParts.{has, has_all, allows, parts}
use Rattle.beam_code.specs.Labels.{failure}
use Rattle.beam_code.specs.Opcode as o
use Rattle.beam_code.specs.Opcode.{Opcode, Callee}
use Rattle.beam_code.specs.Slots.{State, has_slot, with_x, with_y}

-- A row that holds exactly where a write can be done.

onward-part : (f : Flow → Flow) (g : Option State → Flow) (p : Bool) (o : Option State) (w : Bool) → is_some o ≡ w → ((t : State) → f (on t) ≡ g (Some t))
    → onward f p o ≡ (if p && w then Some (g o) else None)
onward-part f g p o w e h = by p o h ∙ ap (λ b. if p && b then Some (g o) else None) e
  where
    by : (p : Bool) (o : Option State) → ((t : State) → f (on t) ≡ g (Some t)) → onward f p o ≡ (if p && is_some o then Some (g o) else None)
    by true (Some t) h = ap Some (h t)
    by true None h = refl
    by false o h = refl

there : (r : Reg) (kind : Kind) (s : State) → is_some (writes r kind s) ≡ has s r
there (X n) kind s = by (nat_le n LAST_REGISTER)
  where
    by : (b : Bool) → is_some (if b then Some (with_x n kind s) else None) ≡ b
    by true = refl
    by false = refl
there (Y n) kind s = by (has_slot s n)
  where
    by : (b : Bool) → is_some (if b then Some (with_y n kind s) else None) ≡ b
    by true = refl
    by false = refl

-- a second write, whose register is there where it was before
then-there : (second : State → Option State) (w : Bool) (r : Reg) (kind : Kind) (s : State) → ((n : ℕ) → is_some (second (with_x n kind s)) ≡ w) → ((n : ℕ) → is_some (second (with_y n kind s)) ≡ w)
    → is_some (option_and_then second (writes r kind s)) ≡ (has s r && w)
then-there second w (X n) kind s hx hy = by (nat_le n LAST_REGISTER)
  where
    by : (b : Bool) → is_some (option_and_then second (if b then Some (with_x n kind s) else None)) ≡ (b && w)
    by true = hx n
    by false = refl
then-there second w (Y n) kind s hx hy = by (has_slot s n)
  where
    by : (b : Bool) → is_some (option_and_then second (if b then Some (with_y n kind s) else None)) ≡ (b && w)
    by true = hy n
    by false = refl

same-has-x : (n : ℕ) (kind : Kind) (s : State) (r : Reg) → has (with_x n kind s) r ≡ has s r
same-has-x n kind s (X m) = refl
same-has-x n kind s (Y m) = refl

same-has-y : (n : ℕ) (kind : Kind) (s : State) (r : Reg) → has (with_y n kind s) r ≡ has s r
same-has-y n kind s (X m) = refl
same-has-y n kind s (Y m) = refl

same-all : (s t : State) → ((r : Reg) → has t r ≡ has s r) → (rs : List Reg) → has_all t rs ≡ has_all s rs
same-all s t h [] = refl
same-all s t h (r ∷ rs) = ap (λ b. b && has_all t rs) (h r) ∙ ap (λ b. has s r && b) (same-all s t h rs)

all-there : (rs : List Reg) (s : State) → is_some (writes_terms rs s) ≡ has_all s rs
all-there [] s = refl
all-there (r ∷ rs) s =
    then-there (writes_terms rs) (has_all s rs) r k.Term s
    (λ n. all-there rs (with_x n k.Term s) ∙ same-all s (with_x n k.Term s) (same-has-x n k.Term s) rs)
    (λ n. all-there rs (with_y n k.Term s) ∙ same-all s (with_y n k.Term s) (same-has-y n k.Term s) rs)

both-there : (one other : Reg) (u v : Kind) (s : State) → is_some (option_and_then (writes other u) (writes one v s)) ≡ (has s one && has s other)
both-there one other u v s =
    then-there (writes other u) (has s other) one v s
    (λ n. there other u (with_x n v s) ∙ same-has-x n v s other) (λ n. there other u (with_y n v s) ∙ same-has-y n v s other)

live-there : (m : Option ℕ) (r : Reg) (s : State) → is_some (writes r k.Term (live_if m s)) ≡ has s r
live-there m r s = there r k.Term (live_if m s) ∙ by m r
  where
    by : (m : Option ℕ) (r : Reg) → has (live_if m s) r ≡ has s r
    by None r = refl
    by (Some n) (X i) = refl
    by (Some n) (Y i) = refl

-- Ways beside it.

failing-part : (fail : ℕ) (s t : State) → failing fail s (on t) ≡ record { next = Some t; goes = all_ways s (failure fail); raised = if nat_eq fail 0 then raised_from s else [] }
failing-part fail s t = by (nat_eq fail 0)
  where
    by : (b : Bool) → (if b then raising s (on t) else going (fail ∷ []) s (on t))
        ≡ record { next = Some t; goes = all_ways s (if b then [] else fail ∷ []); raised = if b then raised_from s else [] }
    by true = refl
    by false = refl

call-part : (s : State) (b : Bool) → raising s (if b then on (after_call s) else leaves) ≡ record { next = if b then Some (after_call s) else None; goes = []; raised = raised_from s }
call-part s true = refl
call-part s false = refl

abbrev pub alone : Option State → Flow
alone n = record { next = n; goes = []; raised = [] }

abbrev pub handled : State → Option State → Flow
handled s n = record { next = n; goes = []; raised = raised_from s }

abbrev pub forked : ℕ → State → Option State → Flow
forked label s n = record { next = n; goes = all_ways s (label ∷ []); raised = [] }

abbrev pub failed : ℕ → State → Option State → Flow
failed fail s n = record { next = n; goes = all_ways s (failure fail); raised = if nat_eq fail 0 then raised_from s else [] }

writes-term : (f : Flow → Flow) (g : Option State → Flow) (p : Bool) (to : Reg) (s : State) → ((t : State) → f (on t) ≡ g (Some t))
    → onward f p (writes to k.Term s) ≡ (if p && has s to then Some (g (writes to k.Term s)) else None)
writes-term f g p to s = onward-part f g p (writes to k.Term s) (has s to) (there to k.Term s)

pub flow-parts : (o : Opcode) (s : State) → flow o s ≡ (if allows o s then Some (parts o s) else None)
unfolding flow
flow-parts (o.Label label) s = refl
flow-parts o.Line s = refl
flow-parts o.Comment s = refl
flow-parts (o.FuncInfo owner name arity) s = refl
flow-parts (o.Move from to) s = onward-part plain alone (is_moved (kind_of s from)) (writes to (kind_of s from) s) (has s to) (there to (kind_of s from) s) (λ t. refl)
flow-parts (o.Swap one other) s =
    onward-part plain alone (is_moved (kind_in s one) && is_moved (kind_in s other)) (option_and_then (writes other (kind_in s one)) (writes one (kind_in s other) s))
    (has s one && has s other) (both-there one other (kind_in s one) (kind_in s other) s) (λ t. refl)
flow-parts (o.Allocate n m) s = refl
flow-parts (o.TestHeap m) s = refl
flow-parts (o.Deallocate n) s = refl
flow-parts (o.Trim n m) s = refl
flow-parts (o.InitYregs registers) s = onward-part plain alone true (writes_terms registers s) (has_all s registers) (all-there registers s) (λ t. refl)
flow-parts (o.Call callee n o.Body) s =
    ap (when (are_terms s (read_by callee n) && (is_some s.frame || is_some (builtin_called callee)))) (call-part s (comes_back callee))
flow-parts (o.Call callee n o.Only) s = refl
flow-parts (o.Call callee n (o.Last size)) s = refl
flow-parts o.Return s = refl
flow-parts (o.MakeFun2 entry free) s = refl
flow-parts (o.MakeFun3 entry to free) s = writes-term plain alone (reads_all s free) to s (λ t. refl)
flow-parts o.Send s = refl
flow-parts (o.Bif builtin fail m arguments to) s =
    onward-part (failing fail (live_if m s)) (failed fail (live_if m s)) (reads_all s arguments) (writes to k.Term (live_if m s)) (has s to) (live-there m to s) (failing-part fail (live_if m s))
flow-parts (o.PutList head tail to) s = writes-term plain alone (reads s head && reads s tail) to s (λ t. refl)
flow-parts (o.PutTuple2 to elements) s = writes-term plain alone (reads_all s elements) to s (λ t. refl)
flow-parts (o.GetList from head tail) s =
    onward-part (raising s) (handled s) (holds s from) (writes_terms (head ∷ tail ∷ []) s) (has_all s (head ∷ tail ∷ [])) (all-there (head ∷ tail ∷ []) s) (λ t. refl)
flow-parts (o.Get piece from to) s = writes-term (raising s) (handled s) (holds s from) to s (λ t. refl)
flow-parts (o.SetTupleElement value tuple place) s = writes-term (raising s) (handled s) (reads s value && holds s tuple) tuple s (λ t. refl)
flow-parts (o.PutMap update fail from to pairs) s = writes-term (failing fail s) (failed fail s) (reads s from && reads_pairs s pairs) to s (failing-part fail s)
flow-parts (o.GetMapElements fail from gets) s =
    onward-part (going (fail ∷ []) s) (forked fail s) (reads s from && reads_all s (map (λ g. g.0) gets)) (writes_terms (map (λ g. g.1) gets) s) (has_all s (map (λ g. g.1) gets))
    (all-there (map (λ g. g.1) gets) s) (λ t. refl)
flow-parts (o.Jump label) s = refl
flow-parts (o.SelectVal value fail cases) s = refl
flow-parts (o.SelectTupleArity tuple fail cases) s = refl
flow-parts (o.Test test fail arguments) s = refl
flow-parts (o.TestArity tuple fail size) s = refl
flow-parts (o.IsTaggedTuple tuple fail size tag) s = refl
flow-parts (o.HasMapFields fail from keys) s = refl
flow-parts (o.LoopRec fail to) s = writes-term (going (fail ∷ []) s) (forked fail s) true to s (λ t. refl)
flow-parts o.RemoveMessage s = refl
flow-parts o.Timeout s = refl
flow-parts (o.LoopRecEnd label) s = refl
flow-parts (o.Wait label) s = refl
flow-parts (o.WaitTimeout label timeout) s = refl
flow-parts (o.RecvMarker (o.Reserve to)) s = onward-part plain alone true (writes to k.Marker s) (has s to) (there to k.Marker s) (λ t. refl)
flow-parts (o.RecvMarker (o.Bind marker reference)) s = refl
flow-parts (o.RecvMarker (o.Use reference)) s = refl
flow-parts (o.RecvMarker (o.Clear reference)) s = refl
flow-parts (o.Try slot handler) s = onward-part plain alone true (writes (Y slot) (k.Tag (handler ∷ [])) s) (has s (Y slot)) (there (Y slot) (k.Tag (handler ∷ [])) s) (λ t. refl)
flow-parts (o.TryEnd slot) s = refl
flow-parts (o.TryCase slot) s = refl
flow-parts (o.CatchEnd slot) s = refl
flow-parts (o.Unmatches reason value) s = refl
flow-parts o.IfEnd s = refl
flow-parts (o.Raise trace reason) s = refl
flow-parts o.RawRaise s = refl
flow-parts o.BuildStacktrace s = refl
