-- Worked rows: what slots hold before and after each kind of instruction, where it goes, and what it raises.
use Rattle.std.specs.Prelude.{◌≡◌, ℕ, pos, Bool, true, false, List, [], ◌∷◌, map, codes, Option, None, Some, option_map}
use Rattle.beam_code.specs.declared.kind.Kind.{Kind}
use Rattle.beam_code.specs.declared.kind.Kind.TheVariants as kind
use Rattle.beam_code.specs.declared.operand.Reg.TheVariants.{X, Y}
use Rattle.beam_code.specs.declared.operand.Src.{Src}
use Rattle.beam_code.specs.declared.operand.Src.TheVariants as source
use Rattle.beam_code.specs.Flow.{Way, Flow, flow}
use Rattle.beam_code.specs.Opcode as o
use Rattle.beam_code.specs.Opcode.{Opcode}
use Rattle.beam_code.specs.Slots.{State, listed, below_kind}

-- Short names: kinds, registers that are read, and values.

abbrev pub U : Kind
U = kind.Undefined

abbrev pub T : Kind
T = kind.Term

abbrev pub N : Kind
N = kind.OptTerm

abbrev pub R : Kind
R = kind.Trace

abbrev pub M : Kind
M = kind.Marker

-- tags of one and of two labels
abbrev pub G : Kind
G = kind.Tag (7 ∷ [])

abbrev pub W : Kind
W = kind.Tag (7 ∷ 8 ∷ [])

abbrev pub x : ℕ → Src
x n = source.Reg (X n)

abbrev pub y : ℕ → Src
y n = source.Reg (Y n)

abbrev pub a : Src
a = source.Atom (codes "a")

-- a state: the frame, the first four x registers, and the first two y registers
abbrev pub Slots : Type 0
Slots = Option ℕ × List Kind × List Kind

abbrev pub state : Slots → State
state s = record { frame = s.0; xs = listed s.1; ys = listed s.2 }

abbrev pub seen : State → Slots
seen s = (s.frame, map s.xs (0 ∷ 1 ∷ 2 ∷ 3 ∷ []), map s.ys (0 ∷ 1 ∷ []))

abbrev pub seen_way : Way → ℕ × Slots
seen_way w = (w.0, seen w.1)

-- what falls through, where it goes, and what it raises
abbrev pub Told : Type 0
Told = Option (Option Slots × List (ℕ × Slots) × List (ℕ × Slots))

abbrev pub told : Option Flow → Told
told None = None
told (Some f) = Some (option_map seen f.next, map seen_way f.goes, map seen_way f.raised)

-- an instruction, the state before it, and what comes of it
abbrev pub Case : Type 0
Case = Opcode × Slots × Told

abbrev pub comes : Case → Told
comes c = told (flow c.0 (state c.1))

abbrev pub wanted : Case → Told
wanted c = c.2

-- States.

-- no frame
abbrev pub bare : List Kind → Slots
bare xs = (None, xs, U ∷ U ∷ [])

-- a frame of two slots
abbrev pub two : List Kind → List Kind → Slots
two xs ys = (Some 2, xs, ys)

abbrev pub terms : List Kind
terms = T ∷ T ∷ U ∷ U ∷ []

abbrev pub one : List Kind
one = T ∷ U ∷ U ∷ U ∷ []

abbrev pub none : List Kind
none = U ∷ U ∷ U ∷ U ∷ []

abbrev pub null : List Kind
null = N ∷ U ∷ U ∷ U ∷ []

abbrev pub n : Slots
n = bare terms

-- a term in the first y register, nothing in the second
abbrev pub b : Slots
b = two terms (T ∷ U ∷ [])

-- a tag in the second
abbrev pub g : Slots
g = two terms (T ∷ G ∷ [])

-- tags in both
abbrev pub gg : Slots
gg = two terms (W ∷ kind.Tag (9 ∷ []) ∷ [])

abbrev pub caught : List (ℕ × Slots)
caught = (7, two null (T ∷ G ∷ [])) ∷ []

-- What comes of instructions.

abbrev pub refused : Told
refused = None

abbrev pub falls : Slots → Told
falls s = Some (Some s, [], [])

abbrev pub ends : Told
ends = Some (None, [], [])

-- it falls through in the one state, and goes to a label in the other
abbrev pub forks : Slots → ℕ → Slots → Told
forks s label t = Some (Some s, (label, t) ∷ [], [])

abbrev pub jumps : ℕ → Slots → Told
jumps label t = Some (None, (label, t) ∷ [], [])

-- it falls through, or what it raises is caught
abbrev pub may_raise : Slots → Told
may_raise s = Some (Some s, [], caught)

abbrev pub raises : Told
raises = Some (None, [], caught)

-- marks, moves and frames
abbrev pub frame_cases : List Case
frame_cases =
    (o.Label 5, b, falls b)
    ∷ (o.Line, b, falls b)
    ∷ (o.Comment, b, falls b)
    ∷ (o.FuncInfo [] [] 1, n, ends)
    ∷ (o.FuncInfo [] [] 1, g, raises)
    ∷ (o.FuncInfo [] [] 1, gg, Some (None, [], (7, two null (W ∷ kind.Tag (9 ∷ []) ∷ [])) ∷ (8, two null (W ∷ kind.Tag (9 ∷ []) ∷ [])) ∷ []))
    ∷ (o.Move (x 0) (Y 1), b, falls (two terms (T ∷ T ∷ [])))
    ∷ (o.Move (x 0) (Y 1), g, falls (two terms (T ∷ T ∷ [])))
    ∷ (o.Move a (X 3), n, falls (bare (T ∷ T ∷ U ∷ T ∷ [])))
    ∷ (o.Move (y 0) (X 2), b, falls (two (T ∷ T ∷ T ∷ U ∷ []) (T ∷ U ∷ [])))
    ∷ (o.Move (x 0) (X 1), bare (R ∷ U ∷ U ∷ U ∷ []), falls (bare (R ∷ R ∷ U ∷ U ∷ [])))
    ∷ (o.Move (x 0) (X 1), bare (M ∷ U ∷ U ∷ U ∷ []), falls (bare (M ∷ M ∷ U ∷ U ∷ [])))
    ∷ (o.Move (x 0) (X 1), bare null, refused)
    ∷ (o.Move (x 0) (X 1023), n, falls n)
    ∷ (o.Move (x 0) (X 1024), n, refused)
    ∷ (o.Move (x 2) (X 0), n, refused)
    ∷ (o.Move (y 1) (X 0), g, refused)
    ∷ (o.Move (y 0) (X 0), n, refused)
    ∷ (o.Move (x 0) (Y 2), b, refused)
    ∷ (o.Move (x 0) (Y 0), n, refused)
    ∷ (o.Swap (X 0) (Y 1), two (R ∷ T ∷ U ∷ U ∷ []) (T ∷ M ∷ []), falls (two (M ∷ T ∷ U ∷ U ∷ []) (T ∷ R ∷ [])))
    ∷ (o.Swap (X 0) (X 2), n, refused)
    ∷ (o.Swap (X 2) (X 0), n, refused)
    ∷ (o.Swap (X 0) (Y 1), g, refused)
    ∷ (o.Allocate 2 1, n, falls (two one (U ∷ U ∷ [])))
    ∷ (o.Allocate 0 2, n, falls (Some 0, terms, U ∷ U ∷ []))
    ∷ (o.Allocate 1024 2, n, falls (Some 1024, terms, U ∷ U ∷ []))
    ∷ (o.Allocate 1025 2, n, refused)
    ∷ (o.Allocate 2 1, b, refused)
    ∷ (o.Allocate 2 1, (Some 0, terms, []), refused)
    ∷ (o.TestHeap 1, b, falls (two one (T ∷ U ∷ [])))
    ∷ (o.Deallocate 2, g, falls n)
    ∷ (o.Deallocate 1, b, refused)
    ∷ (o.Deallocate 0, n, refused)
    ∷ (o.Trim 1 1, two terms (T ∷ M ∷ []), falls (Some 1, terms, M ∷ U ∷ []))
    ∷ (o.Trim 1 2, b, refused)
    ∷ (o.Trim 0 0, n, refused)
    ∷ (o.InitYregs (Y 1 ∷ X 3 ∷ []), g, falls (two (T ∷ T ∷ U ∷ T ∷ []) (T ∷ T ∷ [])))
    ∷ (o.InitYregs (Y 2 ∷ []), b, refused)
    ∷ []

abbrev pub local : o.Callee
local = o.Local 9

-- a builtin that comes back, one that never does, and no builtin
abbrev pub reverse : o.Callee
reverse = o.External (codes "lists") (codes "reverse") 2

abbrev pub throw : o.Callee
throw = o.External (codes "erlang") (codes "throw") 1

abbrev pub foreign : o.Callee
foreign = o.External (codes "m") (codes "reverse") 2

-- calls and funs
abbrev pub call_cases : List Case
call_cases =
    (o.Call local 2 o.Body, b, falls (two one (T ∷ U ∷ [])))
    ∷ (o.Call local 2 o.Body, g, may_raise (two one (T ∷ G ∷ [])))
    ∷ (o.Call local 3 o.Body, b, refused)
    ∷ (o.Call local 2 o.Body, n, refused)
    ∷ (o.Call foreign 2 o.Body, g, may_raise (two one (T ∷ G ∷ [])))
    ∷ (o.Call foreign 2 o.Body, n, refused)
    ∷ (o.Call reverse 2 o.Body, n, falls (bare one))
    ∷ (o.Call reverse 2 o.Body, g, may_raise (two one (T ∷ G ∷ [])))
    ∷ (o.Call reverse 2 o.Body, bare one, refused)
    ∷ (o.Call throw 1 o.Body, n, ends)
    ∷ (o.Call throw 1 o.Body, g, raises)
    ∷ (o.Call o.Fun 1 o.Body, g, may_raise (two one (T ∷ G ∷ [])))
    ∷ (o.Call o.Fun 2 o.Body, b, refused)
    ∷ (o.Call o.Fun 1 o.Body, n, refused)
    ∷ (o.Call o.Apply 0 o.Body, g, may_raise (two one (T ∷ G ∷ [])))
    ∷ (o.Call o.Apply 1 o.Body, b, refused)
    ∷ (o.Call local 2 o.Only, n, ends)
    ∷ (o.Call local 3 o.Only, n, refused)
    ∷ (o.Call local 2 o.Only, b, refused)
    ∷ (o.Call local 2 o.Only, (Some 0, terms, []), refused)
    ∷ (o.Call reverse 2 o.Only, n, ends)
    ∷ (o.Call reverse 2 o.Only, b, refused)
    ∷ (o.Call local 2 (o.Last 2), g, ends)
    ∷ (o.Call local 2 (o.Last 1), b, refused)
    ∷ (o.Call reverse 2 (o.Last 2), b, ends)
    ∷ (o.Call o.Apply 0 (o.Last 2), b, ends)
    ∷ (o.Call o.Apply 1 (o.Last 2), b, refused)
    ∷ (o.Return, n, ends)
    ∷ (o.Return, b, refused)
    ∷ (o.Return, bare null, refused)
    ∷ (o.MakeFun2 9 2, g, falls (two one (T ∷ G ∷ [])))
    ∷ (o.MakeFun2 9 0, bare none, falls (bare one))
    ∷ (o.MakeFun2 9 3, n, refused)
    ∷ (o.MakeFun3 9 (X 2) (x 0 ∷ y 0 ∷ []), g, falls (two (T ∷ T ∷ T ∷ U ∷ []) (T ∷ G ∷ [])))
    ∷ (o.MakeFun3 9 (X 2) (x 0 ∷ x 2 ∷ []), g, refused)
    ∷ (o.Send, g, may_raise (two one (T ∷ G ∷ [])))
    ∷ (o.Send, bare one, refused)
    ∷ []

abbrev pub three : List Kind
three = T ∷ T ∷ T ∷ U ∷ []

-- builtins, lists, tuples and maps
abbrev pub data_cases : List Case
data_cases =
    (o.Bif 27 0 None (x 0 ∷ []) (X 2), g, may_raise (two three (T ∷ G ∷ [])))
    ∷ (o.Bif 27 5 None (x 0 ∷ []) (X 2), g, forks (two three (T ∷ G ∷ [])) 5 g)
    ∷ (o.Bif 27 5 None (x 2 ∷ []) (X 2), g, refused)
    ∷ (o.Bif 1 0 (Some 1) (x 0 ∷ x 1 ∷ []) (X 0), g, may_raise (two one (T ∷ G ∷ [])))
    ∷ (o.Bif 1 5 (Some 0) (x 0 ∷ x 1 ∷ []) (X 1), g, forks (two (U ∷ T ∷ U ∷ U ∷ []) (T ∷ G ∷ [])) 5 (two none (T ∷ G ∷ [])))
    ∷ (o.PutList (x 0) source.Nil (X 2), g, falls (two three (T ∷ G ∷ [])))
    ∷ (o.PutList (x 2) source.Nil (X 2), g, refused)
    ∷ (o.PutList a (x 2) (X 2), g, refused)
    ∷ (o.PutTuple2 (X 2) (x 0 ∷ a ∷ []), g, falls (two three (T ∷ G ∷ [])))
    ∷ (o.PutTuple2 (X 2) (x 0 ∷ x 2 ∷ []), g, refused)
    ∷ (o.GetList (X 0) (X 2) (X 3), g, may_raise (two (T ∷ T ∷ T ∷ T ∷ []) (T ∷ G ∷ [])))
    ∷ (o.GetList (X 0) (X 0) (Y 1), g, Some (Some (two terms (T ∷ T ∷ [])), [], caught))
    ∷ (o.GetList (X 2) (X 0) (X 1), g, refused)
    ∷ (o.Get o.Head (X 0) (X 2), g, may_raise (two three (T ∷ G ∷ [])))
    ∷ (o.Get o.Tail (X 0) (X 2), g, may_raise (two three (T ∷ G ∷ [])))
    ∷ (o.Get (o.Element 1) (X 0) (X 2), g, may_raise (two three (T ∷ G ∷ [])))
    ∷ (o.Get o.Head (Y 1) (X 2), g, refused)
    ∷ (o.Get o.Tail (X 0) (Y 2), g, refused)
    ∷ (o.SetTupleElement (x 0) (X 1) 0, g, may_raise g)
    ∷ (o.SetTupleElement (x 2) (X 1) 0, g, refused)
    ∷ (o.SetTupleElement (x 0) (X 2) 0, g, refused)
    ∷ (o.PutMap o.Assoc 0 (x 0) (X 2) ((a, x 1) ∷ []), g, may_raise (two three (T ∷ G ∷ [])))
    ∷ (o.PutMap o.Exact 5 (x 0) (X 2) ((a, x 1) ∷ []), g, forks (two three (T ∷ G ∷ [])) 5 g)
    ∷ (o.PutMap o.Assoc 0 (x 2) (X 2) [], g, refused)
    ∷ (o.PutMap o.Assoc 0 (x 0) (X 2) ((a, x 2) ∷ []), g, refused)
    ∷ (o.PutMap o.Assoc 0 (x 0) (X 2) ((x 2, a) ∷ []), g, refused)
    ∷ (o.GetMapElements 5 (x 0) ((a, X 2) ∷ (x 1, X 3) ∷ []), g, forks (two (T ∷ T ∷ T ∷ T ∷ []) (T ∷ G ∷ [])) 5 g)
    ∷ (o.GetMapElements 5 (x 0) ((x 2, X 2) ∷ []), g, refused)
    ∷ (o.GetMapElements 5 (x 0) ((a, X 2) ∷ (x 2, X 3) ∷ []), g, refused)
    ∷ (o.GetMapElements 5 (x 2) [], g, refused)
    ∷ []

-- branches and receives
abbrev pub branch_cases : List Case
branch_cases =
    (o.Jump 5, g, jumps 5 g)
    ∷ (o.SelectVal (x 0) 5 ((a, 6) ∷ (source.Int (pos 1), 5) ∷ []), g, Some (None, (5, g) ∷ (6, g) ∷ (5, g) ∷ [], []))
    ∷ (o.SelectVal (x 2) 5 [], g, refused)
    ∷ (o.SelectTupleArity (x 0) 5 ((source.Int (pos 1), 6) ∷ []), g, Some (None, (5, g) ∷ (6, g) ∷ [], []))
    ∷ (o.SelectTupleArity (x 2) 5 [], g, refused)
    ∷ (o.Test 9 5 (x 0 ∷ []), g, forks g 5 g)
    ∷ (o.Test 1 5 (x 0 ∷ x 2 ∷ []), g, refused)
    ∷ (o.TestArity (x 0) 5 2, g, forks g 5 g)
    ∷ (o.TestArity (x 2) 5 2, g, refused)
    ∷ (o.IsTaggedTuple (x 0) 5 2 [], g, forks g 5 g)
    ∷ (o.IsTaggedTuple (x 2) 5 2 [], g, refused)
    ∷ (o.HasMapFields 5 (x 0) (a ∷ x 1 ∷ []), g, forks g 5 g)
    ∷ (o.HasMapFields 5 (x 0) (a ∷ x 2 ∷ []), g, refused)
    ∷ (o.HasMapFields 5 (x 2) [], g, refused)
    ∷ (o.LoopRec 5 (X 2), g, forks (two three (T ∷ G ∷ [])) 5 g)
    ∷ (o.LoopRec 5 (Y 2), g, refused)
    ∷ (o.RemoveMessage, g, falls g)
    ∷ (o.Timeout, g, falls g)
    ∷ (o.LoopRecEnd 5, g, jumps 5 g)
    ∷ (o.Wait 5, g, jumps 5 (two none (T ∷ G ∷ [])))
    ∷ (o.WaitTimeout 5 (x 0), g, Some (Some (two none (T ∷ G ∷ [])), (5, two none (T ∷ G ∷ [])) ∷ [], caught))
    ∷ (o.WaitTimeout 5 (x 2), g, refused)
    ∷ (o.RecvMarker (o.Reserve (X 2)), g, falls (two (T ∷ T ∷ M ∷ U ∷ []) (T ∷ G ∷ [])))
    ∷ (o.RecvMarker (o.Reserve (Y 2)), g, refused)
    ∷ (o.RecvMarker (o.Bind (X 2) (X 0)), two (T ∷ T ∷ M ∷ U ∷ []) (T ∷ G ∷ []), falls (two (T ∷ T ∷ M ∷ U ∷ []) (T ∷ G ∷ [])))
    ∷ (o.RecvMarker (o.Bind (X 1) (X 0)), g, refused)
    ∷ (o.RecvMarker (o.Bind (X 2) (X 3)), two (T ∷ T ∷ M ∷ U ∷ []) (T ∷ G ∷ []), refused)
    ∷ (o.RecvMarker (o.Use (X 0)), g, falls g)
    ∷ (o.RecvMarker (o.Use (X 2)), g, refused)
    ∷ (o.RecvMarker (o.Clear (X 0)), g, falls g)
    ∷ (o.RecvMarker (o.Clear (X 2)), g, refused)
    ∷ []

abbrev pub three_and_trace : List Kind
three_and_trace = T ∷ T ∷ R ∷ U ∷ []

-- exceptions
abbrev pub exception_cases : List Case
exception_cases =
    (o.Try 1 7, b, falls g)
    ∷ (o.Try 0 9, g, falls (two terms (kind.Tag (9 ∷ []) ∷ G ∷ [])))
    ∷ (o.Try 2 7, b, refused)
    ∷ (o.TryEnd 1, g, falls b)
    ∷ (o.TryEnd 0, g, refused)
    ∷ (o.TryEnd 2, g, refused)
    ∷ (o.TryCase 1, two null (T ∷ G ∷ []), falls (two three_and_trace (T ∷ U ∷ [])))
    ∷ (o.TryCase 0, two null (W ∷ G ∷ []), Some (Some (two three_and_trace (U ∷ G ∷ [])), [], (7, two null (U ∷ G ∷ [])) ∷ []))
    ∷ (o.TryCase 1, g, falls (two three_and_trace (T ∷ U ∷ [])))
    ∷ (o.TryCase 0, two null (T ∷ G ∷ []), refused)
    ∷ (o.TryCase 1, two none (T ∷ G ∷ []), refused)
    ∷ (o.CatchEnd 1, two null (T ∷ G ∷ []), falls (two one (T ∷ U ∷ [])))
    ∷ (o.CatchEnd 1, g, falls (two one (T ∷ U ∷ [])))
    ∷ (o.CatchEnd 0, two null (T ∷ G ∷ []), refused)
    ∷ (o.CatchEnd 1, two none (T ∷ G ∷ []), refused)
    ∷ (o.Unmatches o.Badmatch (x 0), g, raises)
    ∷ (o.Unmatches o.CaseEnd (x 0), n, ends)
    ∷ (o.Unmatches o.TryCaseEnd (x 2), g, refused)
    ∷ (o.IfEnd, g, raises)
    ∷ (o.Raise (X 2) (x 1), two three_and_trace (T ∷ G ∷ []), raises)
    ∷ (o.Raise (X 1) (x 1), g, refused)
    ∷ (o.Raise (X 2) (x 3), two three_and_trace (T ∷ G ∷ []), refused)
    ∷ (o.RawRaise, two three_and_trace (T ∷ G ∷ []), may_raise (two three_and_trace (T ∷ G ∷ [])))
    ∷ (o.RawRaise, two three (T ∷ G ∷ []), refused)
    ∷ (o.RawRaise, two (T ∷ U ∷ R ∷ U ∷ []) (T ∷ G ∷ []), refused)
    ∷ (o.BuildStacktrace, bare (R ∷ T ∷ U ∷ U ∷ []), falls n)
    ∷ (o.BuildStacktrace, n, refused)
    ∷ []

-- each row, with what its slots hold before and after
pub record Flows : Type 0 where
  pub frames : map comes frame_cases ≡ map wanted frame_cases
  pub calls : map comes call_cases ≡ map wanted call_cases
  pub data_rows : map comes data_cases ≡ map wanted data_cases
  pub branches : map comes branch_cases ≡ map wanted branch_cases
  pub exceptions : map comes exception_cases ≡ map wanted exception_cases

-- which kinds each kind is below: of nothing, term, term or null, trace, marker, and tags of one and of two labels
abbrev pub is_below : Kind → List Bool
is_below kind = map (below_kind kind) (U ∷ T ∷ N ∷ R ∷ M ∷ G ∷ W ∷ [])

pub record Order : Type 0 where
  pub nothing : is_below U ≡ true ∷ false ∷ false ∷ false ∷ false ∷ false ∷ false ∷ []
  pub term : is_below T ≡ true ∷ true ∷ true ∷ false ∷ false ∷ false ∷ false ∷ []
  pub optional : is_below N ≡ true ∷ false ∷ true ∷ false ∷ false ∷ false ∷ false ∷ []
  pub trace : is_below R ≡ true ∷ false ∷ false ∷ true ∷ false ∷ false ∷ false ∷ []
  pub marker : is_below M ≡ true ∷ false ∷ false ∷ false ∷ true ∷ false ∷ false ∷ []
  pub tag : is_below G ≡ false ∷ false ∷ false ∷ false ∷ false ∷ true ∷ true ∷ []
  pub tags : is_below W ≡ false ∷ false ∷ false ∷ false ∷ false ∷ false ∷ true ∷ []
