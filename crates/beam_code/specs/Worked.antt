-- Worked rows: what instructions stand for, which operands fit, and what is wrong with labels first.
use Rattle.std.specs.Prelude.{◌≡◌, ℕ, pos, negsuc, Bool, true, false, List, [], ◌∷◌, map, codes, Option, None, Some}
use Rattle.std.specs.List.{list_all, list_any}
use Rattle.beam_code.specs.declared.operand.Operand.{Operand}
use Rattle.beam_code.specs.declared.operand.Operand.TheVariants as operand
use Rattle.beam_code.specs.declared.operand.Reg.{Reg}
use Rattle.beam_code.specs.declared.operand.Reg.TheVariants.{X, Y}
use Rattle.beam_code.specs.declared.operand.Src.{Src}
use Rattle.beam_code.specs.declared.operand.Src.TheVariants as source
use Rattle.beam_code.specs.Code.{FunctionCode}
use Rattle.beam_code.specs.Decoded.{decoded_row}
use Rattle.beam_code.specs.RowFits.{fits}
use Rattle.beam_code.specs.Labels.{Break, Twice, Missing, BadEntry, BadArity, first_break}
use Rattle.beam_code.specs.Opcode as o
use Rattle.beam_code.specs.Opcode.{Opcode}

-- Short names for operands.

abbrev pub n : ℕ → Operand
n count = operand.Count count

abbrev pub f : ℕ → Operand
f label = operand.Label label

abbrev pub r : Reg → Operand
r register = operand.Reg register

abbrev pub s : Src → Operand
s source = operand.Src source

abbrev pub x : ℕ → Src
x number = source.Reg (X number)

abbrev pub atom : Src
atom = source.Atom (codes "a")

abbrev pub ext : Operand
ext = operand.Ext (codes "m") (codes "g") 1

-- a row with operands, and what they stand for
abbrev pub Case : Type 0
Case = ℕ × List Operand × Option Opcode

abbrev pub stands : Case → Option Opcode
stands c = decoded_row c.0 c.1

abbrev pub wanted : Case → Option Opcode
wanted c = c.2

-- rows of frames, calls and data
abbrev pub data_cases : List Case
data_cases =
    (1, n 7 ∷ [], Some (o.Label 7))
    ∷ (1, f 7 ∷ [], None)
    ∷ (2, [], Some o.Line)
    ∷ (3, [], Some o.Comment)
    ∷ (4, s atom ∷ s (source.Atom (codes "b")) ∷ n 2 ∷ [], Some (o.FuncInfo (codes "a") (codes "b") 2))
    ∷ (5, s (x 1) ∷ r (Y 2) ∷ [], Some (o.Move (x 1) (Y 2)))
    ∷ (6, r (X 1) ∷ r (Y 2) ∷ [], Some (o.Swap (X 1) (Y 2)))
    ∷ (7, n 3 ∷ n 4 ∷ [], Some (o.Allocate 3 4))
    ∷ (8, n 3 ∷ n 4 ∷ [], Some (o.Allocate 3 4))
    ∷ (9, n 4 ∷ [], Some (o.TestHeap 4))
    ∷ (10, n 3 ∷ [], Some (o.Deallocate 3))
    ∷ (11, n 1 ∷ n 2 ∷ [], Some (o.Trim 1 2))
    ∷ (12, operand.Regs (Y 0 ∷ []) ∷ [], Some (o.InitYregs (Y 0 ∷ [])))
    ∷ (13, n 1 ∷ f 2 ∷ [], Some (o.Call (o.Local 2) 1 o.Body))
    ∷ (14, n 1 ∷ ext ∷ [], Some (o.Call (o.External (codes "m") (codes "g") 1) 1 o.Body))
    ∷ (15, n 1 ∷ [], Some (o.Call o.Fun 1 o.Body))
    ∷ (16, n 1 ∷ [], Some (o.Call o.Apply 1 o.Body))
    ∷ (17, n 1 ∷ f 2 ∷ [], Some (o.Call (o.Local 2) 1 o.Only))
    ∷ (18, n 1 ∷ ext ∷ [], Some (o.Call (o.External (codes "m") (codes "g") 1) 1 o.Only))
    ∷ (19, n 1 ∷ f 2 ∷ n 3 ∷ [], Some (o.Call (o.Local 2) 1 (o.Last 3)))
    ∷ (20, n 1 ∷ ext ∷ n 3 ∷ [], Some (o.Call (o.External (codes "m") (codes "g") 1) 1 (o.Last 3)))
    ∷ (21, n 1 ∷ n 3 ∷ [], Some (o.Call o.Apply 1 (o.Last 3)))
    ∷ (22, [], Some o.Return)
    ∷ (23, f 2 ∷ n 1 ∷ [], Some (o.MakeFun2 2 1))
    ∷ (24, f 2 ∷ r (X 1) ∷ operand.Srcs (x 0 ∷ []) ∷ [], Some (o.MakeFun3 2 (X 1) (x 0 ∷ [])))
    ∷ (25, [], Some o.Send)
    ∷ (26, operand.Name 27 ∷ f 0 ∷ operand.Srcs (x 0 ∷ []) ∷ r (X 1) ∷ [], Some (o.Bif 27 0 None (x 0 ∷ []) (X 1)))
    ∷ (27, operand.Name 1 ∷ f 3 ∷ n 2 ∷ operand.Srcs (x 0 ∷ x 1 ∷ []) ∷ r (X 1) ∷ [], Some (o.Bif 1 3 (Some 2) (x 0 ∷ x 1 ∷ []) (X 1)))
    ∷ (28, s (x 0) ∷ s source.Nil ∷ r (X 1) ∷ [], Some (o.PutList (x 0) source.Nil (X 1)))
    ∷ (29, r (X 1) ∷ operand.Srcs (x 0 ∷ []) ∷ [], Some (o.PutTuple2 (X 1) (x 0 ∷ [])))
    ∷ (30, r (X 0) ∷ r (X 1) ∷ r (X 2) ∷ [], Some (o.GetList (X 0) (X 1) (X 2)))
    ∷ (31, r (X 0) ∷ r (X 1) ∷ [], Some (o.Get o.Head (X 0) (X 1)))
    ∷ (32, r (X 0) ∷ r (X 1) ∷ [], Some (o.Get o.Tail (X 0) (X 1)))
    ∷ (33, r (X 0) ∷ n 4 ∷ r (X 1) ∷ [], Some (o.Get (o.Element 4) (X 0) (X 1)))
    ∷ (34, s (x 0) ∷ r (X 1) ∷ n 4 ∷ [], Some (o.SetTupleElement (x 0) (X 1) 4))
    ∷ (35, f 0 ∷ s (x 0) ∷ r (X 1) ∷ n 9 ∷ operand.Pairs ((atom, x 2) ∷ []) ∷ [], Some (o.PutMap o.Assoc 0 (x 0) (X 1) ((atom, x 2) ∷ [])))
    ∷ (36, f 3 ∷ s (x 0) ∷ r (X 1) ∷ n 9 ∷ operand.Pairs ((atom, x 2) ∷ []) ∷ [], Some (o.PutMap o.Exact 3 (x 0) (X 1) ((atom, x 2) ∷ [])))
    ∷ (37, f 3 ∷ s (x 0) ∷ operand.Gets ((atom, X 2) ∷ []) ∷ [], Some (o.GetMapElements 3 (x 0) ((atom, X 2) ∷ [])))
    ∷ []

-- rows of branches, tests, receives and exceptions
abbrev pub control_cases : List Case
control_cases =
    (38, f 3 ∷ [], Some (o.Jump 3))
    ∷ (39, s (x 0) ∷ f 3 ∷ operand.Cases ((atom, 4) ∷ []) ∷ [], Some (o.SelectVal (x 0) 3 ((atom, 4) ∷ [])))
    ∷ (40, s (x 0) ∷ f 3 ∷ operand.Cases ((source.Int (pos 2), 4) ∷ []) ∷ [], Some (o.SelectTupleArity (x 0) 3 ((source.Int (pos 2), 4) ∷ [])))
    ∷ (41, operand.Name 1 ∷ f 3 ∷ operand.Srcs (x 0 ∷ x 1 ∷ []) ∷ [], Some (o.Test 1 3 (x 0 ∷ x 1 ∷ [])))
    ∷ (41, operand.Name 16 ∷ f 3 ∷ operand.Srcs (x 0 ∷ source.Int (pos 2) ∷ []) ∷ [], Some (o.TestArity (x 0) 3 2))
    ∷ (41, operand.Name 16 ∷ f 3 ∷ operand.Srcs (x 0 ∷ source.Int (pos 4294967296) ∷ []) ∷ [], None)
    ∷ (41, operand.Name 21 ∷ f 3 ∷ operand.Srcs (x 0 ∷ source.Int (pos 2) ∷ atom ∷ []) ∷ [], Some (o.IsTaggedTuple (x 0) 3 2 (codes "a")))
    ∷ (41, operand.Name 26 ∷ f 3 ∷ operand.Srcs (x 0 ∷ []) ∷ [], None)
    ∷ (42, f 3 ∷ s (x 0) ∷ operand.Srcs (atom ∷ []) ∷ [], Some (o.HasMapFields 3 (x 0) (atom ∷ [])))
    ∷ (43, f 3 ∷ r (X 0) ∷ [], Some (o.LoopRec 3 (X 0)))
    ∷ (44, [], Some o.RemoveMessage)
    ∷ (45, [], Some o.Timeout)
    ∷ (46, f 3 ∷ [], Some (o.LoopRecEnd 3))
    ∷ (47, f 3 ∷ [], Some (o.Wait 3))
    ∷ (48, f 3 ∷ s (x 0) ∷ [], Some (o.WaitTimeout 3 (x 0)))
    ∷ (49, r (X 0) ∷ [], Some (o.RecvMarker (o.Reserve (X 0))))
    ∷ (50, r (X 0) ∷ r (X 1) ∷ [], Some (o.RecvMarker (o.Bind (X 0) (X 1))))
    ∷ (51, r (X 0) ∷ [], Some (o.RecvMarker (o.Use (X 0))))
    ∷ (52, r (X 0) ∷ [], Some (o.RecvMarker (o.Clear (X 0))))
    ∷ (53, r (Y 1) ∷ f 3 ∷ [], Some (o.Try 1 3))
    ∷ (54, r (Y 1) ∷ f 3 ∷ [], Some (o.Try 1 3))
    ∷ (54, r (X 1) ∷ f 3 ∷ [], None)
    ∷ (55, r (Y 1) ∷ [], Some (o.TryEnd 1))
    ∷ (56, r (Y 1) ∷ [], Some (o.TryCase 1))
    ∷ (57, r (Y 1) ∷ [], Some (o.CatchEnd 1))
    ∷ (58, s (x 0) ∷ [], Some (o.Unmatches o.Badmatch (x 0)))
    ∷ (59, s (x 0) ∷ [], Some (o.Unmatches o.CaseEnd (x 0)))
    ∷ (60, s (x 0) ∷ [], Some (o.Unmatches o.TryCaseEnd (x 0)))
    ∷ (61, [], Some o.IfEnd)
    ∷ (62, f 0 ∷ operand.Srcs (x 2 ∷ x 1 ∷ []) ∷ r (X 0) ∷ [], Some (o.Raise (X 2) (x 1)))
    ∷ (63, [], Some o.RawRaise)
    ∷ (64, [], Some o.BuildStacktrace)
    ∷ (0, [], None)
    ∷ (65, [], None)
    ∷ []

abbrev pub StandFor : Type 0
StandFor = (map stands data_cases ≡ map wanted data_cases) × (map stands control_cases ≡ map wanted control_cases)

-- operands of rows
abbrev pub Row : Type 0
Row = ℕ × List Operand

abbrev pub fits_row : Row → Bool
fits_row row = fits row.0 row.1

-- at the ends of their numbers
abbrev pub fitting : List Row
fitting =
    (5, s (x 1023) ∷ r (Y 1023) ∷ [])
    ∷ (7, n 1024 ∷ n 1024 ∷ [])
    ∷ (13, n 255 ∷ f 4294967295 ∷ [])
    ∷ (21, n 255 ∷ n 1024 ∷ [])
    ∷ (26, operand.Name 48 ∷ f 0 ∷ operand.Srcs (x 0 ∷ x 1 ∷ []) ∷ r (X 0) ∷ [])
    ∷ (27, operand.Name 1 ∷ f 0 ∷ n 1024 ∷ operand.Srcs (x 0 ∷ x 1 ∷ []) ∷ r (X 0) ∷ [])
    ∷ (33, r (X 0) ∷ n 4294967295 ∷ r (X 0) ∷ [])
    ∷ (35, f 0 ∷ s (x 0) ∷ r (X 1) ∷ n 4294967295 ∷ operand.Pairs [] ∷ [])
    ∷ (39, s (x 0) ∷ f 3 ∷ operand.Cases ((source.Int (negsuc 0), 4294967295) ∷ []) ∷ [])
    ∷ (40, s (x 0) ∷ f 3 ∷ operand.Cases ((source.Int (pos 4294967295), 4) ∷ []) ∷ [])
    ∷ (41, operand.Name 6 ∷ f 3 ∷ operand.Srcs (x 0 ∷ x 1 ∷ []) ∷ [])
    ∷ (41, operand.Name 7 ∷ f 3 ∷ operand.Srcs (x 0 ∷ []) ∷ [])
    ∷ (41, operand.Name 19 ∷ f 3 ∷ operand.Srcs (x 0 ∷ x 1 ∷ []) ∷ [])
    ∷ (53, r (Y 0) ∷ f 1 ∷ [])
    ∷ (62, f 0 ∷ operand.Srcs (x 2 ∷ x 1 ∷ []) ∷ r (X 0) ∷ [])
    ∷ []

-- one number too far, a part of another kind, one operand more or less
abbrev pub misfits : List Row
misfits =
    (0, [])
    ∷ (65, [])
    ∷ (5, s (x 1024) ∷ r (X 0) ∷ [])
    ∷ (5, s (x 0) ∷ r (Y 1024) ∷ [])
    ∷ (5, s (x 0) ∷ r (X 0) ∷ n 0 ∷ [])
    ∷ (5, s (x 0) ∷ [])
    ∷ (4, s (x 0) ∷ s atom ∷ n 0 ∷ [])
    ∷ (7, n 1025 ∷ n 0 ∷ [])
    ∷ (7, n 0 ∷ n 1025 ∷ [])
    ∷ (13, n 256 ∷ f 1 ∷ [])
    ∷ (13, n 0 ∷ f 0 ∷ [])
    ∷ (13, n 0 ∷ f 4294967296 ∷ [])
    ∷ (26, operand.Name 49 ∷ f 0 ∷ operand.Srcs (x 0 ∷ x 1 ∷ []) ∷ r (X 0) ∷ [])
    ∷ (26, operand.Name 48 ∷ f 0 ∷ operand.Srcs (x 0 ∷ []) ∷ r (X 0) ∷ [])
    ∷ (27, operand.Name 1 ∷ f 0 ∷ n 1025 ∷ operand.Srcs (x 0 ∷ x 1 ∷ []) ∷ r (X 0) ∷ [])
    ∷ (38, f 0 ∷ [])
    ∷ (39, s (x 0) ∷ f 3 ∷ operand.Cases ((source.Nil, 4) ∷ []) ∷ [])
    ∷ (39, s (x 0) ∷ f 3 ∷ operand.Cases ((atom, 0) ∷ []) ∷ [])
    ∷ (40, s (x 0) ∷ f 3 ∷ operand.Cases ((source.Int (negsuc 0), 4) ∷ []) ∷ [])
    ∷ (41, operand.Name 6 ∷ f 3 ∷ operand.Srcs (x 0 ∷ []) ∷ [])
    ∷ (41, operand.Name 7 ∷ f 3 ∷ operand.Srcs (x 0 ∷ x 1 ∷ []) ∷ [])
    ∷ (41, operand.Name 26 ∷ f 3 ∷ operand.Srcs (x 0 ∷ []) ∷ [])
    ∷ (53, r (X 0) ∷ f 1 ∷ [])
    ∷ (62, f 1 ∷ operand.Srcs (x 2 ∷ x 1 ∷ []) ∷ r (X 0) ∷ [])
    ∷ (62, f 0 ∷ operand.Srcs (atom ∷ x 1 ∷ []) ∷ r (X 0) ∷ [])
    ∷ []

abbrev pub Fit : Type 0
Fit = (list_all fits_row fitting ≡ true) × (list_any fits_row misfits ≡ false)

-- the function f/1 of the module m, with the labels 1 and 2 and that code behind them
abbrev pub function_of : List Opcode → FunctionCode
function_of code = record { name = codes "f"; arity = 1; entry = 2; code = o.Label 1 ∷ o.Line ∷ o.FuncInfo (codes "m") (codes "f") 1 ∷ o.Label 2 ∷ code }

-- the first break of a label rule in the module of that function alone
abbrev pub break_of : List Opcode → Option Break
break_of code = first_break (record { name = codes "m"; functions = function_of code ∷ [] })

-- what names a label that is not there, each kind of instruction
abbrev pub strays : List Opcode
strays =
    o.Call (o.Local 9) 1 o.Body ∷ o.Call (o.Local 1) 1 o.Only ∷ o.MakeFun2 9 0 ∷ o.MakeFun3 1 (X 0) [] ∷ o.Bif 1 9 None [] (X 0)
    ∷ o.PutMap o.Assoc 9 (x 0) (X 0) [] ∷ o.GetMapElements 9 (x 0) [] ∷ o.Jump 9 ∷ o.SelectVal (x 0) 9 [] ∷ o.SelectVal (x 0) 2 ((atom, 9) ∷ [])
    ∷ o.SelectTupleArity (x 0) 9 [] ∷ o.SelectTupleArity (x 0) 2 ((source.Int (pos 1), 9) ∷ []) ∷ o.Test 1 9 [] ∷ o.TestArity (x 0) 9 1
    ∷ o.IsTaggedTuple (x 0) 9 1 [] ∷ o.HasMapFields 9 (x 0) [] ∷ o.LoopRec 9 (X 0) ∷ o.LoopRecEnd 9 ∷ o.Wait 9 ∷ o.WaitTimeout 9 (x 0) ∷ o.Try 0 9 ∷ []

abbrev pub is_stray : Option Break → Bool
is_stray (Some (Missing func index label)) = true
is_stray _ = false

-- what names labels and entries that are there, with their arguments
abbrev pub orderly : List Opcode
orderly =
    o.Call (o.Local 2) 1 o.Body ∷ o.MakeFun2 2 1 ∷ o.MakeFun3 2 (X 0) (x 0 ∷ []) ∷ o.MakeFun2 2 0 ∷ o.Bif 1 0 None [] (X 0) ∷ o.PutMap o.Exact 0 (x 0) (X 0) []
    ∷ o.Jump 1 ∷ o.SelectVal (x 0) 1 ((atom, 2) ∷ []) ∷ o.Call (o.External (codes "m") (codes "g") 3) 3 o.Only ∷ o.Call o.Fun 9 o.Body ∷ o.Call o.Apply 9 o.Body ∷ []

-- what is called, or made a fun of, with other arguments
abbrev pub misused : List Opcode
misused =
    o.Call (o.Local 2) 0 o.Body ∷ o.Call (o.Local 2) 2 o.Only ∷ o.Call (o.Local 2) 2 (o.Last 0) ∷ o.Call (o.External (codes "m") (codes "g") 3) 2 o.Body
    ∷ o.Call (o.External (codes "m") (codes "g") 3) 2 o.Only ∷ o.Call (o.External (codes "m") (codes "g") 3) 2 (o.Last 0) ∷ o.MakeFun2 2 2 ∷ o.MakeFun3 2 (X 0) (x 0 ∷ x 0 ∷ []) ∷ []

abbrev pub is_misused : Option Break → Bool
is_misused (Some (BadArity func index)) = true
is_misused _ = false

abbrev pub alone : Opcode → List Opcode
alone code = code ∷ []

abbrev pub Breaks : Type 0
Breaks =
    (list_all (λ c. is_stray (break_of (alone c))) strays ≡ true)
    × (break_of orderly ≡ None)
    × (list_all (λ c. is_misused (break_of (alone c))) misused ≡ true)
    × (break_of (o.Label 3 ∷ o.Jump 9 ∷ o.Label 2 ∷ []) ≡ Some (Missing 0 5 9))
    × (break_of (o.Label 3 ∷ o.Label 2 ∷ o.Jump 9 ∷ []) ≡ Some (Twice 2))
    × (break_of (o.Call (o.Local 9) 7 o.Body ∷ []) ≡ Some (Missing 0 4 9))

-- the beginnings of f/1 with the entry 2
abbrev pub begin : List Opcode → Option Break
begin code = first_break (record { name = codes "m"; functions = record { name = codes "f"; arity = 1; entry = 2; code = code } ∷ [] })

abbrev pub Beginnings : Type 0
Beginnings =
    (begin [] ≡ Some (BadEntry 0))
    × (begin (o.Label 1 ∷ o.FuncInfo (codes "m") (codes "f") 1 ∷ o.Label 2 ∷ []) ≡ None)
    × (begin (o.Label 1 ∷ o.Line ∷ o.Line ∷ o.FuncInfo (codes "m") (codes "f") 1 ∷ o.Label 2 ∷ []) ≡ Some (BadEntry 0))
    × (begin (o.Label 1 ∷ o.Comment ∷ o.FuncInfo (codes "m") (codes "f") 1 ∷ o.Label 2 ∷ []) ≡ Some (BadEntry 0))
    × (begin (o.Label 1 ∷ o.FuncInfo (codes "n") (codes "f") 1 ∷ o.Label 2 ∷ []) ≡ Some (BadEntry 0))
    × (begin (o.Label 1 ∷ o.FuncInfo (codes "m") (codes "g") 1 ∷ o.Label 2 ∷ []) ≡ Some (BadEntry 0))
    × (begin (o.Label 1 ∷ o.FuncInfo (codes "m") (codes "f") 2 ∷ o.Label 2 ∷ []) ≡ Some (BadEntry 0))
    × (begin (o.Label 1 ∷ o.FuncInfo (codes "m") (codes "f") 1 ∷ o.Label 3 ∷ []) ≡ Some (BadEntry 0))
    × (begin (o.FuncInfo (codes "m") (codes "f") 1 ∷ o.Label 2 ∷ []) ≡ Some (BadEntry 0))
