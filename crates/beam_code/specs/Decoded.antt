-- The instruction that a row of the table and its operands stand for (OTP 24, `genop.tab`).
use Rattle.std.specs.Prelude.{ℕ, pos, nat_le, if◌then◌else◌, List, [], ◌∷◌, Option, None, Some, option_map, option_and_then}
use Rattle.genop_table.specs.declared.genop.Genop.{Genop}
use Rattle.genop_table.specs.declared.genop.Genop.TheVariants as g
use Rattle.genop_table.specs.declared.tests.TestArguments.{TestArguments}
use Rattle.genop_table.specs.declared.tests.TestArguments.TheVariants.{SourceAndSize, SourceSizeAndTag}
use Rattle.genop_table.specs.Instructions.{Instruction, row_of}
use Rattle.genop_table.specs.Tests.{arguments_of}
use Rattle.beam_code.specs.declared.operand.Operand.{Operand}
use Rattle.beam_code.specs.declared.operand.Operand.TheVariants as operand
use Rattle.beam_code.specs.declared.operand.Reg.{Reg}
use Rattle.beam_code.specs.declared.operand.Reg.TheVariants as register
use Rattle.beam_code.specs.declared.operand.Src.{Src}
use Rattle.beam_code.specs.declared.operand.Src.TheVariants as source
use Rattle.beam_code.specs.declared.operand.TheConstants.{LAST_COUNT}
use Rattle.beam_code.specs.Opcode as o
use Rattle.beam_code.specs.Opcode.{Opcode, Callee, CallKind, Piece, MapUpdate, Marking, Unmatched}

abbrev pub Decoded : Type 0
Decoded = Option Opcode

-- Instructions of several rows: what is given tells the row.

-- without operands
abbrev pub alone : Opcode → List Operand → Decoded
alone opcode [] = Some opcode
alone opcode _ = None

abbrev pub of_count : (ℕ → Opcode) → List Operand → Decoded
of_count make (operand.Count n ∷ []) = Some (make n)
of_count make _ = None

abbrev pub of_counts : (ℕ → ℕ → Opcode) → List Operand → Decoded
of_counts make (operand.Count n ∷ operand.Count m ∷ []) = Some (make n m)
of_counts make _ = None

abbrev pub of_label : (ℕ → Opcode) → List Operand → Decoded
of_label make (operand.Label label ∷ []) = Some (make label)
of_label make _ = None

abbrev pub of_register : (Reg → Opcode) → List Operand → Decoded
of_register make (operand.Reg r ∷ []) = Some (make r)
of_register make _ = None

abbrev pub of_registers : (Reg → Reg → Opcode) → List Operand → Decoded
of_registers make (operand.Reg r ∷ operand.Reg s ∷ []) = Some (make r s)
of_registers make _ = None

abbrev pub of_slot : (ℕ → Opcode) → List Operand → Decoded
of_slot make (operand.Reg (register.Y n) ∷ []) = Some (make n)
of_slot make _ = None

abbrev pub of_source : (Src → Opcode) → List Operand → Decoded
of_source make (operand.Src s ∷ []) = Some (make s)
of_source make _ = None

abbrev pub of_cases : (Src → ℕ → List (Src × ℕ) → Opcode) → List Operand → Decoded
of_cases make (operand.Src s ∷ operand.Label fail ∷ operand.Cases cases ∷ []) = Some (make s fail cases)
of_cases make _ = None

abbrev pub local_call : CallKind → List Operand → Decoded
local_call kind (operand.Count arity ∷ operand.Label label ∷ []) = Some (o.Call (o.Local label) arity kind)
local_call kind _ = None

abbrev pub external_call : CallKind → List Operand → Decoded
external_call kind (operand.Count arity ∷ operand.Ext owner name n ∷ []) = Some (o.Call (o.External owner name n) arity kind)
external_call kind _ = None

abbrev pub put_map : MapUpdate → List Operand → Decoded
put_map update (operand.Label fail ∷ operand.Src from ∷ operand.Reg to ∷ operand.Count n ∷ operand.Pairs pairs ∷ []) =
    Some (o.PutMap update fail from to pairs)
put_map update _ = None

-- Instructions of one row.

abbrev pub func_info : List Operand → Decoded
func_info (operand.Src (source.Atom owner) ∷ operand.Src (source.Atom name) ∷ operand.Count n ∷ []) = Some (o.FuncInfo owner name n)
func_info _ = None

abbrev pub move : List Operand → Decoded
move (operand.Src from ∷ operand.Reg to ∷ []) = Some (o.Move from to)
move _ = None

abbrev pub init_yregs : List Operand → Decoded
init_yregs (operand.Regs registers ∷ []) = Some (o.InitYregs registers)
init_yregs _ = None

abbrev pub call_last : List Operand → Decoded
call_last (operand.Count arity ∷ operand.Label label ∷ operand.Count size ∷ []) = Some (o.Call (o.Local label) arity (o.Last size))
call_last _ = None

abbrev pub call_ext_last : List Operand → Decoded
call_ext_last (operand.Count arity ∷ operand.Ext owner name n ∷ operand.Count size ∷ []) =
    Some (o.Call (o.External owner name n) arity (o.Last size))
call_ext_last _ = None

abbrev pub make_fun2 : List Operand → Decoded
make_fun2 (operand.Label entry ∷ operand.Count free ∷ []) = Some (o.MakeFun2 entry free)
make_fun2 _ = None

abbrev pub make_fun3 : List Operand → Decoded
make_fun3 (operand.Label entry ∷ operand.Reg to ∷ operand.Srcs free ∷ []) = Some (o.MakeFun3 entry to free)
make_fun3 _ = None

abbrev pub bif : List Operand → Decoded
bif (operand.Name n ∷ operand.Label fail ∷ operand.Srcs arguments ∷ operand.Reg to ∷ []) = Some (o.Bif n fail None arguments to)
bif _ = None

abbrev pub gc_bif : List Operand → Decoded
gc_bif (operand.Name n ∷ operand.Label fail ∷ operand.Count live ∷ operand.Srcs arguments ∷ operand.Reg to ∷ []) =
    Some (o.Bif n fail (Some live) arguments to)
gc_bif _ = None

abbrev pub put_list : List Operand → Decoded
put_list (operand.Src head ∷ operand.Src tail ∷ operand.Reg to ∷ []) = Some (o.PutList head tail to)
put_list _ = None

abbrev pub put_tuple2 : List Operand → Decoded
put_tuple2 (operand.Reg to ∷ operand.Srcs elements ∷ []) = Some (o.PutTuple2 to elements)
put_tuple2 _ = None

abbrev pub get_list : List Operand → Decoded
get_list (operand.Reg from ∷ operand.Reg head ∷ operand.Reg tail ∷ []) = Some (o.GetList from head tail)
get_list _ = None

abbrev pub get_tuple_element : List Operand → Decoded
get_tuple_element (operand.Reg from ∷ operand.Count place ∷ operand.Reg to ∷ []) = Some (o.Get (o.Element place) from to)
get_tuple_element _ = None

abbrev pub set_tuple_element : List Operand → Decoded
set_tuple_element (operand.Src value ∷ operand.Reg tuple ∷ operand.Count place ∷ []) = Some (o.SetTupleElement value tuple place)
set_tuple_element _ = None

abbrev pub get_map_elements : List Operand → Decoded
get_map_elements (operand.Label fail ∷ operand.Src from ∷ operand.Gets gets ∷ []) = Some (o.GetMapElements fail from gets)
get_map_elements _ = None

-- a size in the arguments of a test
abbrev pub size : Src → Option ℕ
size (source.Int (pos n)) = if nat_le n LAST_COUNT then Some n else None
size _ = None

abbrev pub test_arity : ℕ → List Src → Decoded
test_arity fail (tuple ∷ n ∷ []) = option_map (λ k. o.TestArity tuple fail k) (size n)
test_arity fail _ = None

abbrev pub is_tagged_tuple : ℕ → List Src → Decoded
is_tagged_tuple fail (tuple ∷ n ∷ source.Atom tag ∷ []) = option_map (λ k. o.IsTaggedTuple tuple fail k tag) (size n)
is_tagged_tuple fail _ = None

abbrev pub test_with : ℕ → ℕ → List Src → Option TestArguments → Decoded
test_with n fail arguments None = None
test_with n fail arguments (Some SourceAndSize) = test_arity fail arguments
test_with n fail arguments (Some SourceSizeAndTag) = is_tagged_tuple fail arguments
test_with n fail arguments (Some _) = Some (o.Test n fail arguments)

abbrev pub test : List Operand → Decoded
test (operand.Name n ∷ operand.Label fail ∷ operand.Srcs arguments ∷ []) = test_with n fail arguments (arguments_of n)
test _ = None

abbrev pub has_map_fields : List Operand → Decoded
has_map_fields (operand.Label fail ∷ operand.Src from ∷ operand.Srcs keys ∷ []) = Some (o.HasMapFields fail from keys)
has_map_fields _ = None

abbrev pub loop_rec : List Operand → Decoded
loop_rec (operand.Label fail ∷ operand.Reg to ∷ []) = Some (o.LoopRec fail to)
loop_rec _ = None

abbrev pub wait_timeout : List Operand → Decoded
wait_timeout (operand.Label label ∷ operand.Src timeout ∷ []) = Some (o.WaitTimeout label timeout)
wait_timeout _ = None

abbrev pub try : List Operand → Decoded
try (operand.Reg (register.Y slot) ∷ operand.Label handler ∷ []) = Some (o.Try slot handler)
try _ = None

abbrev pub raise_by : List Src → Decoded
raise_by (source.Reg trace ∷ reason ∷ []) = Some (o.Raise trace reason)
raise_by _ = None

abbrev pub raise : List Operand → Decoded
raise (operand.Label label ∷ operand.Srcs arguments ∷ operand.Reg to ∷ []) = raise_by arguments
raise _ = None

-- Each row.
abbrev pub decoded : Genop → List Operand → Decoded
decoded g.Label = of_count o.Label
decoded g.Line = alone o.Line
decoded g.Comment = alone o.Comment
decoded g.FuncInfo = func_info
decoded g.Move = move
decoded g.Swap = of_registers o.Swap
decoded g.Allocate = of_counts o.Allocate
decoded g.AllocateHeap = of_counts o.Allocate
decoded g.TestHeap = of_count o.TestHeap
decoded g.Deallocate = of_count o.Deallocate
decoded g.Trim = of_counts o.Trim
decoded g.InitYregs = init_yregs
decoded g.Call = local_call o.Body
decoded g.CallExt = external_call o.Body
decoded g.CallFun = of_count (λ arity. o.Call o.Fun arity o.Body)
decoded g.Apply = of_count (λ arity. o.Call o.Apply arity o.Body)
decoded g.CallOnly = local_call o.Only
decoded g.CallExtOnly = external_call o.Only
decoded g.CallLast = call_last
decoded g.CallExtLast = call_ext_last
decoded g.ApplyLast = of_counts (λ arity size. o.Call o.Apply arity (o.Last size))
decoded g.Return = alone o.Return
decoded g.MakeFun2 = make_fun2
decoded g.MakeFun3 = make_fun3
decoded g.Send = alone o.Send
decoded g.Bif = bif
decoded g.GcBif = gc_bif
decoded g.PutList = put_list
decoded g.PutTuple2 = put_tuple2
decoded g.GetList = get_list
decoded g.GetHd = of_registers (o.Get o.Head)
decoded g.GetTl = of_registers (o.Get o.Tail)
decoded g.GetTupleElement = get_tuple_element
decoded g.SetTupleElement = set_tuple_element
decoded g.PutMapAssoc = put_map o.Assoc
decoded g.PutMapExact = put_map o.Exact
decoded g.GetMapElements = get_map_elements
decoded g.Jump = of_label o.Jump
decoded g.SelectVal = of_cases o.SelectVal
decoded g.SelectTupleArity = of_cases o.SelectTupleArity
decoded g.Test = test
decoded g.HasMapFields = has_map_fields
decoded g.LoopRec = loop_rec
decoded g.RemoveMessage = alone o.RemoveMessage
decoded g.Timeout = alone o.Timeout
decoded g.LoopRecEnd = of_label o.LoopRecEnd
decoded g.Wait = of_label o.Wait
decoded g.WaitTimeout = wait_timeout
decoded g.RecvMarkerReserve = of_register (λ to. o.RecvMarker (o.Reserve to))
decoded g.RecvMarkerBind = of_registers (λ marker reference. o.RecvMarker (o.Bind marker reference))
decoded g.RecvMarkerUse = of_register (λ reference. o.RecvMarker (o.Use reference))
decoded g.RecvMarkerClear = of_register (λ reference. o.RecvMarker (o.Clear reference))
decoded g.Try = try
decoded g.Catch = try
decoded g.TryEnd = of_slot o.TryEnd
decoded g.TryCase = of_slot o.TryCase
decoded g.CatchEnd = of_slot o.CatchEnd
decoded g.Badmatch = of_source (o.Unmatches o.Badmatch)
decoded g.CaseEnd = of_source (o.Unmatches o.CaseEnd)
decoded g.TryCaseEnd = of_source (o.Unmatches o.TryCaseEnd)
decoded g.IfEnd = alone o.IfEnd
decoded g.Raise = raise
decoded g.RawRaise = alone o.RawRaise
decoded g.BuildStacktrace = alone o.BuildStacktrace

-- the instruction of the row of that number, and these operands
abbrev pub decoded_row : ℕ → List Operand → Decoded
decoded_row row operands = option_and_then (λ (i : Instruction). decoded i.genop operands) (row_of row)
