-- The instructions of the profile, each with what it works on (OTP 24, `genop.tab`). Registers and sources are those of
-- the text; a slot is the number of a y register; label 0 of a failure means that it raises.
use Rattle.std.specs.Prelude.{ℕ, List, Option}
use Rattle.beam_code.specs.declared.operand.Reg.{Reg}
use Rattle.beam_code.specs.declared.operand.Src.{Src}

-- what is called
pub data Callee : Type 0 where
  -- `{f,L}`: the function of this module whose entry is the label
  Local : (label : ℕ) → Callee
  -- `{extfunc,M,F,A}`
  External : (owner name : List ℕ) (arity : ℕ) → Callee
  -- the fun in the x register behind the arguments
  Fun : Callee
  -- the module and the name in the two x registers behind the arguments
  Apply : Callee

-- how it is called
pub data CallKind : Type 0 where
  -- it comes back behind the instruction
  Body : CallKind
  -- in the place of a function without a frame
  Only : CallKind
  -- in the place of a function whose frame of that size is dropped first
  Last : (size : ℕ) → CallKind

-- which part of a list or a tuple is taken
pub data Piece : Type 0 where
  Head : Piece
  Tail : Piece
  -- of a tuple, counted from 0
  Element : (place : ℕ) → Piece

-- how a map is updated: by any keys, or by keys that it has
pub data MapUpdate : Type 0 where
  Assoc : MapUpdate
  Exact : MapUpdate

-- what is done with the marker of a receive
pub data Marking : Type 0 where
  Reserve : (to : Reg) → Marking
  Bind : (marker reference : Reg) → Marking
  Use : (reference : Reg) → Marking
  Clear : (reference : Reg) → Marking

-- which exception a value without a match raises
pub data Unmatched : Type 0 where
  Badmatch : Unmatched
  CaseEnd : Unmatched
  TryCaseEnd : Unmatched

pub data Opcode : Type 0 where
  -- `{label,n}`
  Label : (label : ℕ) → Opcode
  -- `{line,_}`
  Line : Opcode
  -- `{'%',_}`
  Comment : Opcode
  -- `{func_info,{atom,M},{atom,F},n}`
  FuncInfo : (owner name : List ℕ) (arity : ℕ) → Opcode
  -- `{move,s,d}`
  Move : (from : Src) (to : Reg) → Opcode
  -- `{swap,d,d}`
  Swap : (one other : Reg) → Opcode
  -- `{allocate,n,Live}`, `{allocate_heap,n,H,Live}`
  Allocate : (size live : ℕ) → Opcode
  -- `{test_heap,H,Live}`
  TestHeap : (live : ℕ) → Opcode
  -- `{deallocate,n}`
  Deallocate : (size : ℕ) → Opcode
  -- `{trim,n,m}`: the first n slots go, m are left
  Trim : (dropped left : ℕ) → Opcode
  -- `{init_yregs,{list,[d]}}`
  InitYregs : (registers : List Reg) → Opcode
  -- `{call,A,{f,L}}` and the eight other calls
  Call : (callee : Callee) (arity : ℕ) (kind : CallKind) → Opcode
  -- `return`
  Return : Opcode
  -- `{make_fun2,{f,L},_,_,F}`: the free variables are the first F x registers
  MakeFun2 : (entry free : ℕ) → Opcode
  -- `{make_fun3,{f,L},_,_,d,{list,[s]}}`
  MakeFun3 : (entry : ℕ) (to : Reg) (free : List Src) → Opcode
  -- `send`
  Send : Opcode
  -- `{bif,N,{f,L},[s],d}`, and with Live `{gc_bif,N,{f,L},Live,[s],d}`
  Bif : (builtin fail : ℕ) (live : Option ℕ) (arguments : List Src) (to : Reg) → Opcode
  -- `{put_list,s,s,d}`
  PutList : (head tail : Src) (to : Reg) → Opcode
  -- `{put_tuple2,d,{list,[s]}}`
  PutTuple2 : (to : Reg) (elements : List Src) → Opcode
  -- `{get_list,d,d,d}`
  GetList : (from head tail : Reg) → Opcode
  -- `{get_hd,d,d}`, `{get_tl,d,d}`, `{get_tuple_element,d,n,d}`
  Get : (piece : Piece) (from to : Reg) → Opcode
  -- `{set_tuple_element,s,d,n}`
  SetTupleElement : (value : Src) (tuple : Reg) (place : ℕ) → Opcode
  -- `{put_map_assoc,{f,L},s,d,n,{list,[s,s]}}`, `{put_map_exact,{f,L},s,d,n,{list,[s,s]}}`; the count n does nothing
  PutMap : (update : MapUpdate) (fail : ℕ) (from : Src) (to : Reg) (pairs : List (Src × Src)) → Opcode
  -- `{get_map_elements,{f,L},s,{list,[s,d]}}`
  GetMapElements : (fail : ℕ) (from : Src) (gets : List (Src × Reg)) → Opcode
  -- `{jump,{f,L}}`
  Jump : (label : ℕ) → Opcode
  -- `{select_val,s,{f,L},{list,[s,{f,L}]}}`
  SelectVal : (value : Src) (fail : ℕ) (cases : List (Src × ℕ)) → Opcode
  -- `{select_tuple_arity,s,{f,L},{list,[n,{f,L}]}}`; the sizes are integers
  SelectTupleArity : (tuple : Src) (fail : ℕ) (cases : List (Src × ℕ)) → Opcode
  -- `{test,N,{f,L},[s]}`, but for the two tests below
  Test : (test fail : ℕ) (arguments : List Src) → Opcode
  -- `{test,test_arity,{f,L},[s,n]}`
  TestArity : (tuple : Src) (fail size : ℕ) → Opcode
  -- `{test,is_tagged_tuple,{f,L},[s,n,{atom,T}]}`
  IsTaggedTuple : (tuple : Src) (fail size : ℕ) (tag : List ℕ) → Opcode
  -- `{test,has_map_fields,{f,L},s,{list,[s]}}`
  HasMapFields : (fail : ℕ) (from : Src) (keys : List Src) → Opcode
  -- `{loop_rec,{f,L},d}`
  LoopRec : (fail : ℕ) (to : Reg) → Opcode
  -- `remove_message`
  RemoveMessage : Opcode
  -- `timeout`
  Timeout : Opcode
  -- `{loop_rec_end,{f,L}}`
  LoopRecEnd : (label : ℕ) → Opcode
  -- `{wait,{f,L}}`
  Wait : (label : ℕ) → Opcode
  -- `{wait_timeout,{f,L},s}`
  WaitTimeout : (label : ℕ) (timeout : Src) → Opcode
  -- `{recv_marker_reserve,d}` and its kin
  RecvMarker : (marking : Marking) → Opcode
  -- `{'try',{y,n},{f,L}}`, `{'catch',{y,n},{f,L}}`, which do the same
  Try : (slot handler : ℕ) → Opcode
  -- `{try_end,{y,n}}`
  TryEnd : (slot : ℕ) → Opcode
  -- `{try_case,{y,n}}`
  TryCase : (slot : ℕ) → Opcode
  -- `{catch_end,{y,n}}`
  CatchEnd : (slot : ℕ) → Opcode
  -- `{badmatch,s}`, `{case_end,s}`, `{try_case_end,s}`
  Unmatches : (reason : Unmatched) (value : Src) → Opcode
  -- `if_end`
  IfEnd : Opcode
  -- `{bif,raise,{f,0},[d,s],d}`
  Raise : (trace : Reg) (reason : Src) → Opcode
  -- `raw_raise`
  RawRaise : Opcode
  -- `build_stacktrace`
  BuildStacktrace : Opcode
