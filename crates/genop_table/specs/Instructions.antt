-- The table of instructions (OTP 24, `genop.tab`).
use Rattle.std.specs.Prelude.{ℕ, suc, Bool, true, nat_eq, ◌&&◌, List, [], ◌∷◌, map, length, codes, Option}
use Rattle.std.specs.List.{filter, find}
use Rattle.std.specs.Option.{option_map, option_and_then}
use Rattle.std.specs.Str.{bytes_eq}
use Rattle.ej_tables.specs.Rows.{Entry, number_of}
use Rattle.genop_table.specs.declared.genop.Genop.{Genop}
use Rattle.genop_table.specs.declared.genop.Genop.TheVariants as g
use Rattle.genop_table.specs.declared.part.Part.{Part}
use Rattle.genop_table.specs.declared.part.Place.{Place}
use Rattle.genop_table.specs.Places.{source, atom, register, slot, target, failure, raises, count, arguments, size, need, name_of, external, sources, of_test, of_builtin, of_raise, cases, arities, pairs, gets, registers, any}

-- one spelling of an instruction: its name, how many earlier rows have that name, its number, which instruction it is,
-- and what stands behind the name
pub record Instruction : Type 0 where
  pub entry : Entry
  pub genop : Genop
  pub parts : List Part
  pub places : List Place

abbrev pub parts_of : List Place → List Part
parts_of places = map (λ (p : Place). p.part) places

abbrev pub row : ℕ → Genop → List ℕ → ℕ → List Place → Instruction
row number genop name earlier places =
    record { entry = record { name = name; arity = earlier; number = number }; genop = genop; parts = parts_of places; places = places }

abbrev pub instructions : List Instruction
instructions =
    row 1 g.Label (codes "label") 0 (count ∷ [])
    ∷ row 2 g.Line (codes "line") 0 (any ∷ [])
    ∷ row 3 g.Comment (codes "%") 0 (any ∷ [])
    ∷ row 4 g.FuncInfo (codes "func_info") 0 (atom ∷ atom ∷ count ∷ [])
    ∷ row 5 g.Move (codes "move") 0 (source ∷ register ∷ [])
    ∷ row 6 g.Swap (codes "swap") 0 (register ∷ register ∷ [])
    ∷ row 7 g.Allocate (codes "allocate") 0 (size ∷ size ∷ [])
    ∷ row 8 g.AllocateHeap (codes "allocate_heap") 0 (size ∷ need ∷ size ∷ [])
    ∷ row 9 g.TestHeap (codes "test_heap") 0 (need ∷ size ∷ [])
    ∷ row 10 g.Deallocate (codes "deallocate") 0 (size ∷ [])
    ∷ row 11 g.Trim (codes "trim") 0 (size ∷ size ∷ [])
    ∷ row 12 g.InitYregs (codes "init_yregs") 0 (registers ∷ [])
    ∷ row 13 g.Call (codes "call") 0 (arguments ∷ target ∷ [])
    ∷ row 14 g.CallExt (codes "call_ext") 0 (arguments ∷ external ∷ [])
    ∷ row 15 g.CallFun (codes "call_fun") 0 (arguments ∷ [])
    ∷ row 16 g.Apply (codes "apply") 0 (arguments ∷ [])
    ∷ row 17 g.CallOnly (codes "call_only") 0 (arguments ∷ target ∷ [])
    ∷ row 18 g.CallExtOnly (codes "call_ext_only") 0 (arguments ∷ external ∷ [])
    ∷ row 19 g.CallLast (codes "call_last") 0 (arguments ∷ target ∷ size ∷ [])
    ∷ row 20 g.CallExtLast (codes "call_ext_last") 0 (arguments ∷ external ∷ size ∷ [])
    ∷ row 21 g.ApplyLast (codes "apply_last") 0 (arguments ∷ size ∷ [])
    ∷ row 22 g.Return (codes "return") 0 []
    ∷ row 23 g.MakeFun2 (codes "make_fun2") 0 (target ∷ any ∷ any ∷ count ∷ [])
    ∷ row 24 g.MakeFun3 (codes "make_fun3") 0 (target ∷ any ∷ any ∷ register ∷ sources ∷ [])
    ∷ row 25 g.Send (codes "send") 0 []
    ∷ row 26 g.Bif (codes "bif") 0 (name_of ∷ failure ∷ of_builtin ∷ register ∷ [])
    ∷ row 27 g.GcBif (codes "gc_bif") 0 (name_of ∷ failure ∷ size ∷ of_builtin ∷ register ∷ [])
    ∷ row 28 g.PutList (codes "put_list") 0 (source ∷ source ∷ register ∷ [])
    ∷ row 29 g.PutTuple2 (codes "put_tuple2") 0 (register ∷ sources ∷ [])
    ∷ row 30 g.GetList (codes "get_list") 0 (register ∷ register ∷ register ∷ [])
    ∷ row 31 g.GetHd (codes "get_hd") 0 (register ∷ register ∷ [])
    ∷ row 32 g.GetTl (codes "get_tl") 0 (register ∷ register ∷ [])
    ∷ row 33 g.GetTupleElement (codes "get_tuple_element") 0 (register ∷ count ∷ register ∷ [])
    ∷ row 34 g.SetTupleElement (codes "set_tuple_element") 0 (source ∷ register ∷ count ∷ [])
    ∷ row 35 g.PutMapAssoc (codes "put_map_assoc") 0 (failure ∷ source ∷ register ∷ count ∷ pairs ∷ [])
    ∷ row 36 g.PutMapExact (codes "put_map_exact") 0 (failure ∷ source ∷ register ∷ count ∷ pairs ∷ [])
    ∷ row 37 g.GetMapElements (codes "get_map_elements") 0 (target ∷ source ∷ gets ∷ [])
    ∷ row 38 g.Jump (codes "jump") 0 (target ∷ [])
    ∷ row 39 g.SelectVal (codes "select_val") 0 (source ∷ target ∷ cases ∷ [])
    ∷ row 40 g.SelectTupleArity (codes "select_tuple_arity") 0 (source ∷ target ∷ arities ∷ [])
    ∷ row 41 g.Test (codes "test") 0 (name_of ∷ target ∷ of_test ∷ [])
    ∷ row 42 g.HasMapFields (codes "test") 1 (any ∷ target ∷ source ∷ sources ∷ [])
    ∷ row 43 g.LoopRec (codes "loop_rec") 0 (target ∷ register ∷ [])
    ∷ row 44 g.RemoveMessage (codes "remove_message") 0 []
    ∷ row 45 g.Timeout (codes "timeout") 0 []
    ∷ row 46 g.LoopRecEnd (codes "loop_rec_end") 0 (target ∷ [])
    ∷ row 47 g.Wait (codes "wait") 0 (target ∷ [])
    ∷ row 48 g.WaitTimeout (codes "wait_timeout") 0 (target ∷ source ∷ [])
    ∷ row 49 g.RecvMarkerReserve (codes "recv_marker_reserve") 0 (register ∷ [])
    ∷ row 50 g.RecvMarkerBind (codes "recv_marker_bind") 0 (register ∷ register ∷ [])
    ∷ row 51 g.RecvMarkerUse (codes "recv_marker_use") 0 (register ∷ [])
    ∷ row 52 g.RecvMarkerClear (codes "recv_marker_clear") 0 (register ∷ [])
    ∷ row 53 g.Try (codes "try") 0 (slot ∷ target ∷ [])
    ∷ row 54 g.Catch (codes "catch") 0 (slot ∷ target ∷ [])
    ∷ row 55 g.TryEnd (codes "try_end") 0 (slot ∷ [])
    ∷ row 56 g.TryCase (codes "try_case") 0 (slot ∷ [])
    ∷ row 57 g.CatchEnd (codes "catch_end") 0 (slot ∷ [])
    ∷ row 58 g.Badmatch (codes "badmatch") 0 (source ∷ [])
    ∷ row 59 g.CaseEnd (codes "case_end") 0 (source ∷ [])
    ∷ row 60 g.TryCaseEnd (codes "try_case_end") 0 (source ∷ [])
    ∷ row 61 g.IfEnd (codes "if_end") 0 []
    ∷ row 62 g.Raise (codes "bif") 1 (any ∷ raises ∷ of_raise ∷ register ∷ [])
    ∷ row 63 g.RawRaise (codes "raw_raise") 0 []
    ∷ row 64 g.BuildStacktrace (codes "build_stacktrace") 0 []
    ∷ []

-- the instructions by name, spelling and number
abbrev pub instruction_entries : List Entry
instruction_entries = map (λ (i : Instruction). i.entry) instructions

-- the row of that number
abbrev pub row_of : ℕ → Option Instruction
row_of number = find (λ (i : Instruction). nat_eq i.entry.number number) instructions

-- the row of that name, a text's bytes, before which so many rows have the name
unfoldable pub spelling_of : List ℕ → ℕ → Option Instruction
spelling_of name earlier = option_and_then row_of (number_of name earlier instruction_entries)

-- what stands behind the name in the row of that number
abbrev pub shape_of : ℕ → Option (List Part)
shape_of number = option_map (λ (i : Instruction). i.parts) (row_of number)

-- the rows are numbered one after the other from there on
abbrev pub are_numbered : ℕ → List Entry → Bool
are_numbered number [] = true
are_numbered number (entry ∷ entries) = nat_eq entry.number number && are_numbered (suc number) entries

-- each row tells how many rows before it, those given among them, have its name
abbrev pub count_spellings : List (List ℕ) → List Entry → Bool
count_spellings before [] = true
count_spellings before (entry ∷ entries) =
    nat_eq entry.arity (length (filter (bytes_eq entry.name) before)) && count_spellings (entry.name ∷ before) entries
