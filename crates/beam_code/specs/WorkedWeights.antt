-- Worked weights.
use Rattle.std.specs.Prelude.{◌≡◌, ℕ, ◌+◌, ◌*◌, nat_eq, if◌then◌else◌, List, [], ◌∷◌, map, codes, Option, None, Some}
use Rattle.beam_code.specs.declared.kind.Kind.{Kind}
use Rattle.beam_code.specs.declared.kind.Kind.TheVariants.{Undefined, Term, OptTerm, Tag}
use Rattle.beam_code.specs.declared.operand.Reg.TheVariants.{X, Y}
use Rattle.beam_code.specs.Code.{FunctionCode}
use Rattle.beam_code.specs.Good.{Assignment}
use Rattle.beam_code.specs.Opcode as o
use Rattle.beam_code.specs.Opcode.{Opcode}
use Rattle.beam_code.specs.Slots.{State, listed}
use Rattle.beam_code.specs.Weights.{own_weight, weight}
use Rattle.beam_code.specs.WorkedSlots.{x, y, a, local, reverse, throw, foreign}

-- an assignment of these states, and of none to other labels
abbrev pub assigned : List (ℕ × State) → Assignment
assigned [] label = None
assigned (e ∷ es) label = if nat_eq label e.0 then Some e.1 else assigned es label

abbrev pub of : Option ℕ → List Kind → List Kind → State
of frame xs ys = record { frame = frame; xs = listed xs; ys = listed ys }

-- the function f of that many arguments with the labels 1 and 2
abbrev pub function : ℕ → List Opcode → FunctionCode
function arity code = record { name = codes "f"; arity = arity; entry = 2; code = o.Label 1 ∷ o.FuncInfo (codes "m") (codes "f") arity ∷ o.Label 2 ∷ code }

-- it answers its argument
abbrev pub identity : ℕ
identity = weight (assigned ((2, of None (Term ∷ []) []) ∷ [])) (function 1 (o.Return ∷ []))

-- a jump ahead: 64 + 32 + 10 + 5 + 16
abbrev pub ahead : ℕ
ahead =
    weight (assigned ((2, of None [] []) ∷ (3, of None (Term ∷ []) []) ∷ []))
    (function 0 (o.Move a (X 0) ∷ o.Jump 3 ∷ o.Label 3 ∷ o.Return ∷ []))

-- a receive that waits so long: 264 for the instructions; the wait is charged 40 and 44, its label 44
abbrev pub waiting : ℕ
waiting =
    weight (assigned ((2, of None (Term ∷ []) []) ∷ (3, of (Some 1) [] (Term ∷ [])) ∷ (4, of (Some 1) [] (Term ∷ [])) ∷ []))
    (function 1 (o.Allocate 1 1 ∷ o.Move (x 0) (Y 0) ∷ o.Label 3 ∷ o.LoopRec 4 (X 0) ∷ o.RemoveMessage ∷ o.Deallocate 1 ∷ o.Return
    ∷ o.Label 4 ∷ o.WaitTimeout 3 (y 0) ∷ o.Timeout ∷ o.Move a (X 0) ∷ o.Deallocate 1 ∷ o.Return ∷ []))

-- a loop: 64 + 24 + 32, the test 32, the sum 40, the jump 5, and 16; the jump back is charged 32 + 16, the label 32 + 24
abbrev pub looping : ℕ
looping =
    weight (assigned ((2, of None (Term ∷ Term ∷ []) []) ∷ (3, of None (Term ∷ Term ∷ []) []) ∷ (4, of None (Term ∷ Term ∷ []) []) ∷ []))
    (function 2 (o.Label 3 ∷ o.Test 7 4 (x 0 ∷ []) ∷ o.Bif 1 0 (Some 2) (x 0 ∷ x 1 ∷ []) (X 1) ∷ o.Jump 3 ∷ o.Label 4 ∷ o.Return ∷ []))

-- A tag of two labels where two ways meet: 289 for the instructions up to the return, the call charged 8 for the
-- undefined slot of the frame; each handler 64, its `try_case` charged 48 and 8, and its label 56.
abbrev pub tag : List ℕ → Kind
tag labels = Tag labels

abbrev pub meeting : ℕ
meeting =
    weight (assigned ((2, of None [] []) ∷ (3, of (Some 2) [] (Undefined ∷ Undefined ∷ [])) ∷ (4, of (Some 2) [] (Tag (5 ∷ 6 ∷ []) ∷ Undefined ∷ []))
    ∷ (5, of (Some 2) (OptTerm ∷ []) (Tag (5 ∷ 6 ∷ []) ∷ Undefined ∷ [])) ∷ (6, of (Some 2) (OptTerm ∷ []) (Tag (5 ∷ 6 ∷ []) ∷ Undefined ∷ [])) ∷ []))
    (function 0 (o.Allocate 2 0 ∷ o.Test 9 3 (a ∷ []) ∷ o.Try 0 5 ∷ o.Jump 4 ∷ o.Label 3 ∷ o.Try 0 6 ∷ o.Label 4 ∷ o.Call (o.Local 2) 0 o.Body ∷ o.TryEnd 0 ∷ o.Deallocate 2 ∷ o.Return
    ∷ o.Label 5 ∷ o.TryCase 0 ∷ o.Deallocate 2 ∷ o.Return ∷ o.Label 6 ∷ o.TryCase 0 ∷ o.Deallocate 2 ∷ o.Return ∷ []))

-- a branch back to the label of `func_info` is not charged, nor is the label; one that is not reached is charged 32
abbrev pub unreached : ℕ
unreached =
    weight (assigned ((1, of None (Term ∷ []) []) ∷ (2, of None (Term ∷ []) []) ∷ []))
    (function 1 (o.Test 7 1 (x 0 ∷ []) ∷ o.Return ∷ o.Label 3 ∷ o.Jump 3 ∷ []))

-- an instruction, where that many y registers are not undefined
abbrev pub Weighed : Type 0
Weighed = Opcode × ℕ × ℕ

abbrev pub weighs : Weighed → ℕ
weighs w = own_weight w.0 w.1

abbrev pub wanted : Weighed → ℕ
wanted w = w.2

abbrev pub weights : List Weighed
weights =
    (o.Label 1, 2, 0) ∷ (o.Line, 2, 0) ∷ (o.Comment, 2, 0) ∷ (o.FuncInfo [] [] 1, 2, 32) ∷ (o.Move a (X 0), 2, 10) ∷ (o.Swap (X 0) (X 1), 2, 16)
    ∷ (o.Allocate 2 1, 2, 0) ∷ (o.TestHeap 1, 2, 0) ∷ (o.Deallocate 2, 2, 0) ∷ (o.Trim 1 3, 2, 24) ∷ (o.InitYregs (Y 0 ∷ Y 1 ∷ []), 2, 20)
    ∷ (o.Call local 3 o.Body, 2, 180) ∷ (o.Call foreign 3 o.Body, 2, 212) ∷ (o.Call reverse 2 o.Body, 2, 64) ∷ (o.Call throw 1 o.Body, 2, 56)
    ∷ (o.Call o.Fun 3 o.Body, 2, 212) ∷ (o.Call o.Apply 3 o.Body, 2, 212) ∷ (o.Call local 3 o.Only, 2, 100) ∷ (o.Call reverse 2 o.Only, 2, 88) ∷ (o.Call local 3 (o.Last 2), 2, 100)
    ∷ (o.Call o.Apply 3 (o.Last 2), 2, 100) ∷ (o.Return, 2, 16) ∷ (o.MakeFun2 2 3, 2, 62) ∷ (o.MakeFun3 2 (X 0) (x 0 ∷ x 1 ∷ []), 2, 52) ∷ (o.Send, 2, 40)
    ∷ (o.Bif 1 0 None (x 0 ∷ x 1 ∷ []) (X 0), 2, 40) ∷ (o.Bif 35 0 None [] (X 0), 2, 24) ∷ (o.Bif 1 0 (Some 2) (x 0 ∷ x 1 ∷ []) (X 0), 2, 40)
    ∷ (o.PutList a a (X 0), 2, 22) ∷ (o.PutTuple2 (X 0) (a ∷ a ∷ []), 2, 32) ∷ (o.GetList (X 0) (X 1) (X 2), 2, 56) ∷ (o.Get o.Head (X 0) (X 1), 2, 32) ∷ (o.Get o.Tail (X 0) (X 1), 2, 32)
    ∷ (o.Get (o.Element 1) (X 0) (X 1), 2, 40) ∷ (o.SetTupleElement a (X 0) 1, 2, 48) ∷ (o.PutMap o.Assoc 0 a (X 0) ((a, a) ∷ (a, a) ∷ []), 2, 80)
    ∷ (o.PutMap o.Exact 0 a (X 0) [], 2, 40) ∷ (o.GetMapElements 3 a ((a, X 0) ∷ []), 2, 56) ∷ (o.Jump 3, 2, 5) ∷ (o.SelectVal a 3 ((a, 3) ∷ (a, 3) ∷ []), 2, 64)
    ∷ (o.SelectTupleArity a 3 ((a, 3) ∷ []), 2, 44) ∷ (o.Test 1 3 (a ∷ a ∷ []), 2, 32) ∷ (o.TestArity a 3 1, 2, 32) ∷ (o.IsTaggedTuple a 3 1 [], 2, 32) ∷ (o.HasMapFields 3 a (a ∷ a ∷ []), 2, 56)
    ∷ (o.LoopRec 3 (X 0), 2, 24) ∷ (o.RemoveMessage, 2, 8) ∷ (o.Timeout, 2, 8) ∷ (o.LoopRecEnd 3, 2, 8) ∷ (o.Wait 3, 2, 8) ∷ (o.WaitTimeout 3 a, 2, 64) ∷ (o.RecvMarker (o.Reserve (X 0)), 2, 8)
    ∷ (o.RecvMarker (o.Bind (X 0) (X 1)), 2, 0) ∷ (o.RecvMarker (o.Use (X 0)), 2, 0) ∷ (o.RecvMarker (o.Clear (X 0)), 2, 0) ∷ (o.Try 0 3, 2, 8) ∷ (o.TryEnd 0, 2, 4) ∷ (o.TryCase 0, 2, 48)
    ∷ (o.CatchEnd 0, 2, 24) ∷ (o.Unmatches o.Badmatch a, 2, 56) ∷ (o.Unmatches o.CaseEnd a, 2, 56) ∷ (o.Unmatches o.TryCaseEnd a, 2, 56) ∷ (o.IfEnd, 2, 32) ∷ (o.Raise (X 0) a, 2, 32)
    ∷ (o.RawRaise, 2, 40) ∷ (o.BuildStacktrace, 2, 16) ∷ []

pub record Weigh : Type 0 where
  pub rows : map weighs weights ≡ map wanted weights
  pub answers : identity ≡ 124
  pub jumps : ahead ≡ 127
  pub loops : looping ≡ 64 + 24 + 32 + 32 + 40 + 5 + 16 + 48 + 56
  pub waits : waiting ≡ 264 + 40 + 44 + 44
  pub meets : meeting ≡ 289 + 8 + 2 * 64 + 2 * (48 + 8) + 2 * 56
  pub dead : unreached ≡ 64 + 12 + 32 + 32 + 16 + 5 + 32 + 32
