-- What the instructions of a function's body come to in its method.
use Rattle.std.proofs.Common.{◌≡◌, ℕ, ◌+◌, ◌<◌, ◌≤◌, Bool, true, false, ◌&&◌, nat_eq, nat_le, List, [], ◌∷◌, ◌++◌, length, None, Some, refl, sym, ap, ◌∙◌, subst, append_assoc, length-set, arith}
use Rattle.std.specs.Prelude.{slice_get, slice_set, if◌then◌else◌, pos}
use Rattle.std.specs.List.{list_any, list_all, AllByRecursion}
use Rattle.std.proofs.lemmas.Bool.{and_parts, eqb-true, eqb-false}
use Rattle.ej_term.specs.declared.class.Class3.TheVariants.{Error}
use Rattle.std.specs.Str.{all_scalars}
use Rattle.ej_term.specs.TermPrint.{print_atom}
use Rattle.ej_term.specs.Term.{Term}
use Rattle.ej_term.specs.Term as term
use Rattle.erjang_top.specs.first_path.World.{Raise}
use Rattle.erjang_top.specs.first_path.Opcode.{Source, X, Of, Integer, Atom, Nil, Opcode, Label, Line, Comment, FuncInfo, Move, Return, Unknown}
use Rattle.erjang_top.specs.first_path.Opcode as code
use Rattle.erjang_top.specs.first_path.Accepted.{is_atom_name, is_thin_source, is_register, is_thin_opcode}
use Rattle.erjang_top.specs.first_path.Weights.{same_value}
use Rattle.erjang_top.specs.first_path.ClassFile.{Op, Method, Class}
use Rattle.erjang_top.specs.first_path.ClassTurn.{Value, OfTerm, Proc, Held, literal, term_printed, Ran, Status}
use Rattle.erjang_top.specs.first_path.Flow.{Holding, with_register, is_held, flows}
use Rattle.erjang_top.specs.first_path.ModuleClass.{astore, local_of, index_of, push_source, return_ops, raise_ops, body_ops, registers}
use Rattle.erjang_top.proofs.FirstPath.ClassCode.{Stands, fuel}
use Rattle.erjang_top.proofs.FirstPath.ClassCode as run
use Rattle.erjang_top.proofs.FirstPath.AtomRead.{atom-printed}
use Rattle.erjang_top.proofs.FirstPath.ClassPool.{HasRuntime}
use Rattle.erjang_top.proofs.FirstPath.Ending.{Registers, with_term, source_term, Ending, Returned, Refused, ending, clause_atom}
use Rattle.erjang_top.proofs.FirstPath.Places.{get-written, get-other}
use Rattle.erjang_top.proofs.FirstPath.ModuleValues.{HasValue, IsAmong}

-- the first local is the process, and each register that holds a term has it in its own
pub record Kept (holding : Holding) (regs : Registers) (locals : List Value) : Type 0 where
  pub process : slice_get locals 0 ≡ Some Proc
  pub terms : (n : ℕ) → holding n ≡ true → slice_get locals (local_of n) ≡ Some (OfTerm (regs n))

-- a register is written
pub kept-written : (holding : Holding) (regs : Registers) (locals : List Value) (to : ℕ) (t : Term) → local_of to < length locals → Kept holding regs locals
    → Kept (with_register to holding) (with_term to t regs) (slice_set locals (local_of to) (OfTerm t))
kept-written holding regs locals to t within k = record {
  process = get-other locals (local_of to) 0 (OfTerm t) (λ e. omega (arith, e)) ∙ k.process;
  terms = λ n. at n (nat_eq n to) refl (k.terms n);
}
  where
    at : (n : ℕ) (b : Bool) → nat_eq n to ≡ b → (holding n ≡ true → slice_get locals (local_of n) ≡ Some (OfTerm (regs n))) → (if b then true else holding n) ≡ true
        → slice_get (slice_set locals (local_of to) (OfTerm t)) (local_of n) ≡ Some (OfTerm (if b then t else regs n))
    at n true e old held = ap (slice_get (slice_set locals (local_of to) (OfTerm t))) (ap local_of (eqb-true n to e)) ∙ get-written locals (local_of to) (OfTerm t) within
    at n false e old held = get-other locals (local_of to) (local_of n) (OfTerm t) (λ same. eqb-false n to e (omega (arith, same))) ∙ old held

-- what the process holds at a method's end, and the status
abbrev pub held_at : ℕ → Held → Ending → Held
held_at me held (Returned t) = record held { result = Some t }
held_at me held Refused = record held { pending = Some (Error, clause_atom); shown = held.shown ++ Raise me Error clause_atom ∷ [] }

abbrev pub status_at : Ending → ℕ
status_at (Returned t) = 0
status_at Refused = 4

abbrev pub finished : ℕ → Held → Ending → ℕ → Ran
finished me held end left = Status (pos (status_at end)) (held_at me held end) left

name-printed : (name : List ℕ) → is_atom_name name ≡ true → term_printed (print_atom name) ≡ Some (term.Atom name)
name-printed name thin = atom-printed name (and_parts (all_scalars name) (nat_le (length name) 255) thin).0

module _ (c : Class) (method : Method) (me : ℕ) (values : List code.Value) (runtime : HasRuntime c.pool)
    (entries : (value : code.Value) → list_any (same_value value) values ≡ true → HasValue c.pool (index_of values value) value) where
  abbrev Comes : ℕ → ℕ → List Value → List Value → Held → Ran → Type 0
  Comes = run.Comes c method me

  -- the result is given
  pub returns : (left at : ℕ) (locals : List Value) (held : Held) (t : Term) → slice_get locals 0 ≡ Some Proc → slice_get locals 2 ≡ Some (OfTerm t)
      → Stands method.code at return_ops → Comes (fuel return_ops left) at locals [] held (finished me held (Returned t) left)
  returns left at locals held t process first s =
      run.loads c method me s.0 process refl
      (run.loads c method me s.1.0 first refl
      (run.calls c method me None s.1.1.0 runtime.give refl refl refl
      (run.pushes-int c method me s.1.1.1.0
      (run.answers c method me s.1.1.1.1.0))))

  -- an error function_clause is raised
  pub refuses : (left at : ℕ) (locals : List Value) (held : Held) → slice_get locals 0 ≡ Some Proc
      → Stands method.code at raise_ops → Comes (fuel raise_ops left) at locals [] held (finished me held Refused left)
  refuses left at locals held process s =
      run.loads c method me s.0 process refl
      (run.pushes-int c method me s.1.0
      (run.pushes-text c method me s.1.1.0 runtime.clause
      (run.calls c method me (Some (OfTerm clause_atom)) s.1.1.1.0 runtime.lit refl refl refl
      (run.calls c method me None s.1.1.1.1.0 runtime.raise refl refl refl
      (run.pushes-int c method me s.1.1.1.1.1.0
      (run.answers c method me s.1.1.1.1.1.1.0))))))

  -- the term of a source is pushed, and what is behind it goes on from there
  pushes : (from : Source) (ops : List Op) (left at : ℕ) (locals : List Value) (held : Held) (ran : Ran) (holding : Holding) (regs : Registers) → is_held holding from ≡ true
      → is_thin_source from ≡ true → (to : ℕ) → IsAmong values (Move from to) → Kept holding regs locals → Stands method.code at (push_source values from ++ ops)
      → ((at' : ℕ) → Stands method.code at' ops → Comes (fuel ops left) at' locals (OfTerm (source_term regs from) ∷ []) held ran)
      → Comes (fuel (push_source values from ++ ops) left) at locals [] held ran
  pushes (X n) ops left at locals held ran holding regs is thin to among k s further =
      run.loads c method me s.0 (k.terms n is) refl (further _ s.1)
  pushes (Of (Integer number)) ops left at locals held ran holding regs is thin to among k s further =
      run.pushes-long c method me s.0 (entries (Integer number) among)
      (run.calls c method me (Some (OfTerm (term.Int number))) s.1.0 runtime.integer refl refl refl (further _ s.1.1))
  pushes (Of (Atom name)) ops left at locals held ran holding regs is thin to among k s further =
      run.pushes-text c method me s.0 (entries (Atom name) among)
      (run.calls c method me (Some (OfTerm (term.Atom name))) s.1.0 runtime.lit refl refl (ap (literal held) (name-printed name thin)) (further _ s.1.1))
  pushes (Of Nil) ops left at locals held ran holding regs is thin to among k s further =
      run.pushes-text c method me s.0 (entries Nil among)
      (run.calls c method me (Some (OfTerm term.Nil)) s.1.0 runtime.lit refl refl refl (further _ s.1.1))

  -- a body runs to its end
  pub runs-body : (code : List Opcode) (left at : ℕ) (locals : List Value) (held : Held) (holding : Holding) (regs : Registers) → flows holding code ≡ true
      → AllByRecursion (IsAmong values) code → list_all is_thin_opcode code ≡ true → registers code + 2 ≤ length locals → Kept holding regs locals
      → Stands method.code at (body_ops values code) → Comes (fuel (body_ops values code) left) at locals [] held (finished me held (ending regs code) left)
  runs-body [] left at locals held holding regs flow among thin room k s = absurd cc
  runs-body (Label n ∷ code) left at locals held holding regs flow among thin room k s =
      runs-body code left at locals held holding regs flow among.1 (and_parts (is_thin_opcode (Label n)) (list_all is_thin_opcode code) thin).1 room k s
  runs-body (Line ∷ code) left at locals held holding regs flow among thin room k s = runs-body code left at locals held holding regs flow among.1 thin room k s
  runs-body (Comment ∷ code) left at locals held holding regs flow among thin room k s = runs-body code left at locals held holding regs flow among.1 thin room k s
  runs-body (FuncInfo owner name arity ∷ code) left at locals held holding regs flow among thin room k s = refuses left at locals held k.process s
  runs-body (Return ∷ code) left at locals held holding regs flow among thin room k s = returns left at locals held (regs 0) k.process (k.terms 0 flow) s
  runs-body (Unknown ∷ code) left at locals held holding regs flow among thin room k s = absurd cc
  runs-body (Move from to ∷ code) left at locals held holding regs flow among thin room k s =
      let f = and_parts (is_held holding from) (flows (with_register to holding) code) flow in
      let all-thin = and_parts (is_thin_source from && is_register to) (list_all is_thin_opcode code) thin in
      let t = source_term regs from in
      let rest : List Op = astore (local_of to) ∷ body_ops values code in
      let same : body_ops values (Move from to ∷ code) ≡ push_source values from ++ rest = append_assoc (push_source values from) (astore (local_of to) ∷ []) (body_ops values code) in
      let within : local_of to < length locals = omega (arith, room) in
      let locals' : List Value = slice_set locals (local_of to) (OfTerm t) in
      let room' : registers code + 2 ≤ length locals' = omega (arith, room, length-set locals (local_of to) (OfTerm t)) in
      let end : Ran = finished me held (ending (with_term to t regs) code) left in
      subst (λ ops. Comes (fuel ops left) at locals [] held end) (sym same)
      (pushes from rest left at locals held end holding regs f.0 (and_parts (is_thin_source from) (is_register to) all-thin.0).0 to among.0 k (subst (Stands method.code at) same s)
      (λ at' s'. run.stores c method me s'.0 within
      (runs-body code left _ locals' held (with_register to holding) (with_term to t regs) f.1 among.1 all-thin.1 room' (kept-written holding regs locals to t within k) s'.1)))
