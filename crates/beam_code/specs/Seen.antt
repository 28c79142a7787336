-- What the code's instructions stand for.
use Rattle.beam_code.specs.declared.opcode.Callee.{Callee}
use Rattle.beam_code.specs.declared.opcode.Callee.TheVariants as callee
use Rattle.beam_code.specs.declared.opcode.CallKind.{CallKind}
use Rattle.beam_code.specs.declared.opcode.CallKind.TheVariants as kind
use Rattle.beam_code.specs.declared.opcode.MapUpdate.{MapUpdate}
use Rattle.beam_code.specs.declared.opcode.MapUpdate.TheVariants as update
use Rattle.beam_code.specs.declared.opcode.Marking.{Marking}
use Rattle.beam_code.specs.declared.opcode.Marking.TheVariants as marking
use Rattle.beam_code.specs.declared.opcode.Opcode.{Opcode}
use Rattle.beam_code.specs.declared.opcode.Opcode.TheVariants as c
use Rattle.beam_code.specs.declared.opcode.Piece.{Piece}
use Rattle.beam_code.specs.declared.opcode.Piece.TheVariants as piece
use Rattle.beam_code.specs.declared.opcode.Unmatched.{Unmatched}
use Rattle.beam_code.specs.declared.opcode.Unmatched.TheVariants as unmatched
use Rattle.beam_code.specs.Opcode as o

abbrev pub callee_seen : Callee → o.Callee
callee_seen (callee.Local label) = o.Local label
callee_seen (callee.External owner name arity) = o.External owner.now name.now arity
callee_seen callee.Fun = o.Fun
callee_seen callee.Apply = o.Apply

abbrev pub kind_seen : CallKind → o.CallKind
kind_seen kind.Body = o.Body
kind_seen kind.Only = o.Only
kind_seen (kind.Last size) = o.Last size

abbrev pub piece_seen : Piece → o.Piece
piece_seen piece.Head = o.Head
piece_seen piece.Tail = o.Tail
piece_seen (piece.Element place) = o.Element place

abbrev pub update_seen : MapUpdate → o.MapUpdate
update_seen update.Assoc = o.Assoc
update_seen update.Exact = o.Exact

abbrev pub marking_seen : Marking → o.Marking
marking_seen (marking.Reserve to) = o.Reserve to
marking_seen (marking.Bind marker reference) = o.Bind marker reference
marking_seen (marking.Use reference) = o.Use reference
marking_seen (marking.Clear reference) = o.Clear reference

abbrev pub unmatched_seen : Unmatched → o.Unmatched
unmatched_seen unmatched.Badmatch = o.Badmatch
unmatched_seen unmatched.CaseEnd = o.CaseEnd
unmatched_seen unmatched.TryCaseEnd = o.TryCaseEnd

abbrev pub opcode_seen : Opcode → o.Opcode
opcode_seen (c.Label label) = o.Label label
opcode_seen c.Line = o.Line
opcode_seen c.Comment = o.Comment
opcode_seen (c.FuncInfo owner name arity) = o.FuncInfo owner.now name.now arity
opcode_seen (c.Move from to) = o.Move from.now to
opcode_seen (c.Swap one other) = o.Swap one other
opcode_seen (c.Allocate size live) = o.Allocate size live
opcode_seen (c.TestHeap live) = o.TestHeap live
opcode_seen (c.Deallocate size) = o.Deallocate size
opcode_seen (c.Trim dropped left) = o.Trim dropped left
opcode_seen (c.InitYregs registers) = o.InitYregs registers.now
opcode_seen (c.Call callee arity kind) = o.Call (callee_seen callee) arity (kind_seen kind)
opcode_seen c.Return = o.Return
opcode_seen (c.MakeFun2 entry free) = o.MakeFun2 entry free
opcode_seen (c.MakeFun3 entry to free) = o.MakeFun3 entry to free.now
opcode_seen c.Send = o.Send
opcode_seen (c.Bif builtin fail live arguments to) = o.Bif builtin fail live arguments.now to
opcode_seen (c.PutList head tail to) = o.PutList head.now tail.now to
opcode_seen (c.PutTuple2 to elements) = o.PutTuple2 to elements.now
opcode_seen (c.GetList from head tail) = o.GetList from head tail
opcode_seen (c.Get piece from to) = o.Get (piece_seen piece) from to
opcode_seen (c.SetTupleElement value tuple place) = o.SetTupleElement value.now tuple place
opcode_seen (c.PutMap update fail from to pairs) = o.PutMap (update_seen update) fail from.now to pairs.now
opcode_seen (c.GetMapElements fail from gets) = o.GetMapElements fail from.now gets.now
opcode_seen (c.Jump label) = o.Jump label
opcode_seen (c.SelectVal value fail cases) = o.SelectVal value.now fail cases.now
opcode_seen (c.SelectTupleArity tuple fail cases) = o.SelectTupleArity tuple.now fail cases.now
opcode_seen (c.Test test fail arguments) = o.Test test fail arguments.now
opcode_seen (c.TestArity tuple fail size) = o.TestArity tuple.now fail size
opcode_seen (c.IsTaggedTuple tuple fail size tag) = o.IsTaggedTuple tuple.now fail size tag.now
opcode_seen (c.HasMapFields fail from keys) = o.HasMapFields fail from.now keys.now
opcode_seen (c.LoopRec fail to) = o.LoopRec fail to
opcode_seen c.RemoveMessage = o.RemoveMessage
opcode_seen c.Timeout = o.Timeout
opcode_seen (c.LoopRecEnd label) = o.LoopRecEnd label
opcode_seen (c.Wait label) = o.Wait label
opcode_seen (c.WaitTimeout label timeout) = o.WaitTimeout label timeout.now
opcode_seen (c.RecvMarker marking) = o.RecvMarker (marking_seen marking)
opcode_seen (c.Try slot handler) = o.Try slot handler
opcode_seen (c.TryEnd slot) = o.TryEnd slot
opcode_seen (c.TryCase slot) = o.TryCase slot
opcode_seen (c.CatchEnd slot) = o.CatchEnd slot
opcode_seen (c.Unmatches reason value) = o.Unmatches (unmatched_seen reason) value.now
opcode_seen c.IfEnd = o.IfEnd
opcode_seen (c.Raise trace reason) = o.Raise trace reason.now
opcode_seen c.RawRaise = o.RawRaise
opcode_seen c.BuildStacktrace = o.BuildStacktrace
