-- Operands that fit their row are those of an instruction.
use Rattle.std.proofs.Common.{◌≡◌, suc, arith, ℕ, pos, Bool, true, false, nat_eq, nat_le, ◌&&◌, List, [], ◌∷◌, length, Option, None, Some, is_some, cond, refl, sym, ap, subst, ◌∙◌}
use Rattle.std.specs.Prelude.{if◌then◌else◌, option_map, option_and_then}
use Rattle.std.specs.List.{find, AllByRecursion}
use Rattle.std.proofs.lemmas.Bool.Decides.{nat_tests}
use Rattle.std.proofs.lemmas.Bool.{and_parts, true≢false}
use Rattle.genop_table.specs.declared.part.Limit.{Limit}
use Rattle.genop_table.specs.declared.part.Limit.TheVariants as limit
use Rattle.genop_table.specs.declared.part.Part.{Part}
use Rattle.genop_table.specs.declared.part.Part.TheVariants as part
use Rattle.genop_table.specs.declared.part.Place.{Place}
use Rattle.genop_table.specs.declared.tests.TestArguments.{TestArguments}
use Rattle.genop_table.specs.declared.tests.TestArguments.TheVariants.{OneSource, TwoSources, SourceAndSize, SourceSizeAndTag}
use Rattle.genop_table.specs.Instructions.{Instruction, instructions, row_of}
use Rattle.genop_table.specs.Places.{any, arguments, arities, atom, cases, count, external, failure, gets, name_of, need, of_builtin, of_raise, of_test, pairs, raises, register, registers, size, slot, source, sources, target}
use Rattle.genop_table.specs.Tests.{arguments_of}
use Rattle.beam_code.specs.declared.opcode.Opcode.{Opcode as OpcodeCode}
use Rattle.beam_code.specs.declared.operand.Operand.{Operand}
use Rattle.beam_code.specs.declared.operand.Operand.TheVariants as operand
use Rattle.beam_code.specs.declared.operand.Reg.TheVariants as register
use Rattle.beam_code.specs.declared.operand.Src.{Src}
use Rattle.beam_code.specs.declared.operand.Src.TheVariants as source
use Rattle.beam_code.specs.declared.operand.TheConstants.{LAST_COUNT}
use Rattle.beam_code.specs.Decoded as d
use Rattle.beam_code.specs.RowFits.{fits_part, is_kept, number_behind, first_fits, fits_places, fits_found, fits, is_source, is_count, is_atom, is_target, test_takes, raise_takes}
use Rattle.beam_code.specs.Opcode as o
use Rattle.beam_code.specs.Seen.{opcode_seen}

-- An operand looks like a place's: what is told by its form alone.

abbrev looks_source : Limit → Src → Bool
looks_source limit.Atom s = is_atom s
looks_source _ s = true

abbrev looks_register : Limit → Operand → Bool
looks_register limit.Slot (operand.Reg (register.X n)) = false
looks_register _ r = true

abbrev raised_by : List Src → Bool
raised_by (source.Reg r ∷ s ∷ []) = true
raised_by _ = false

abbrev looks_sources : Limit → List Src → Bool
looks_sources limit.OfRaise ss = raised_by ss
looks_sources _ ss = true

abbrev looks : Part → Operand → Limit → Bool
looks part.Src (operand.Src s) l = looks_source l s
looks part.Reg (operand.Reg r) l = looks_register l (operand.Reg r)
looks part.Label (operand.Label n) l = true
looks part.Count (operand.Count n) l = true
looks part.Name (operand.Name n) l = true
looks part.Ext (operand.Ext owner name arity) l = true
looks part.Srcs (operand.Srcs ss) l = looks_sources l ss
looks part.Cases (operand.Cases cs) l = true
looks part.Arities (operand.Cases cs) l = true
looks part.Pairs (operand.Pairs ps) l = true
looks part.Gets (operand.Gets ps) l = true
looks part.Regs (operand.Regs rs) l = true
looks _ _ l = false

source-looks : (l : Limit) (number : ℕ) (s : Src) → fits_part number l part.Src (operand.Src s) ≡ true → looks_source l s ≡ true
source-looks limit.Atom number s e = e
source-looks _ number s e = refl

register-looks : (l : Limit) (number : ℕ) (r : Operand) → fits_part number l part.Reg r ≡ true → looks_register l r ≡ true
register-looks limit.Slot number (operand.Reg (register.X n)) e = e
register-looks _ number r e = refl

raise-looks : (ss : List Src) → raise_takes ss ≡ true → raised_by ss ≡ true
raise-looks (source.Reg r ∷ s ∷ []) e = refl
raise-looks _ e = absurd (true≢false (sym e))

sources-look : (l : Limit) (number : ℕ) (ss : List Src) → fits_part number l part.Srcs (operand.Srcs ss) ≡ true → looks_sources l ss ≡ true
sources-look limit.OfRaise number ss e = raise-looks ss e
sources-look _ number ss e = refl

part-looks : (p : Part) (x : Operand) (l : Limit) (number : ℕ) → fits_part number l p x ≡ true → looks p x l ≡ true
part-looks part.Src (operand.Src s) l number e = source-looks l number s e
part-looks part.Reg (operand.Reg r) l number e = register-looks l number (operand.Reg r) e
part-looks part.Label (operand.Label n) l number e = refl
part-looks part.Count (operand.Count n) l number e = refl
part-looks part.Name (operand.Name n) l number e = refl
part-looks part.Ext (operand.Ext owner name arity) l number e = refl
part-looks part.Srcs (operand.Srcs ss) l number e = sources-look l number ss e
part-looks part.Cases (operand.Cases cs) l number e = refl
part-looks part.Arities (operand.Cases cs) l number e = refl
part-looks part.Pairs (operand.Pairs ps) l number e = refl
part-looks part.Gets (operand.Gets ps) l number e = refl
part-looks part.Regs (operand.Regs rs) l number e = refl
part-looks _ _ l number e = absurd (true≢false (sym e))

abbrev none : List Operand → Bool
none [] = true
none (x ∷ xs) = false

abbrev first_looks : (List Operand → Bool) → Place → List Operand → Bool
first_looks behind p [] = false
first_looks behind p (x ∷ xs) = looks p.part x p.limit && behind xs

abbrev look : List Place → List Operand → Bool
look [] xs = none xs
look (p ∷ places) xs = if is_kept p.part then first_looks (look places) p xs else look places xs

same-number : (m n : ℕ) → nat_eq m n ≡ true → m ≡ n
same-number m n h = grind (arith, nat_tests)

positive : (n : ℕ) → suc n ≡ 0 → ⊥
positive n e = omega arith

none-left : (xs : List Operand) → nat_eq (length xs) 0 ≡ true → none xs ≡ true
none-left [] e = refl
none-left (x ∷ xs) e = absurd (positive (length xs) (same-number (length (x ∷ xs)) 0 e))

both : (a b c d : Bool) → (a ≡ true → c ≡ true) → (b ≡ true → d ≡ true) → (a && b) ≡ true → (c && d) ≡ true
both true true c d f g e = let p = f refl in let q = g refl in λ i. p i && q i
both true false c d f g e = absurd (true≢false (sym e))
both false b c d f g e = absurd (true≢false (sym e))

-- operands that fit look like it
fits-look : (number : ℕ) (places : List Place) (xs : List Operand) → fits_places number places xs ≡ true → look places xs ≡ true
fits-look number [] xs e = none-left xs e
fits-look number (p ∷ places) xs e = by (is_kept p.part) (λ n ys. fits-look n places ys) xs e
  where
    by : (b : Bool) → ((n : ℕ) (ys : List Operand) → fits_places n places ys ≡ true → look places ys ≡ true) → (xs : List Operand) → (if b then first_fits (λ n rest. fits_places n places rest) number p xs else fits_places number places xs) ≡ true
        → (if b then first_looks (look places) p xs else look places xs) ≡ true
    by true rest [] e = e
    by true rest (x ∷ xs) e =
        both (fits_part number p.limit p.part x) (fits_places (number_behind number x) places xs) (looks p.part x p.limit) (look places xs)
        (part-looks p.part x p.limit number) (rest (number_behind number x) xs) e
    by false rest xs e = rest number xs e

-- Each row.

known-Label : (xs : List Operand) → look (count ∷ []) xs ≡ true → is_some (d.of_count o.Label xs) ≡ true
known-Label (operand.Count n0 ∷ []) e = refl
known-Label _ e = absurd (true≢false (sym e))

known-Line : (xs : List Operand) → look [] xs ≡ true → is_some (d.alone o.Line xs) ≡ true
known-Line [] e = refl
known-Line (x ∷ xs) e = absurd (true≢false (sym e))

known-Comment : (xs : List Operand) → look [] xs ≡ true → is_some (d.alone o.Comment xs) ≡ true
known-Comment [] e = refl
known-Comment (x ∷ xs) e = absurd (true≢false (sym e))

known-FuncInfo : (xs : List Operand) → look (atom ∷ atom ∷ count ∷ []) xs ≡ true → is_some (d.func_info xs) ≡ true
known-FuncInfo (operand.Src (source.Atom a0) ∷ operand.Src (source.Atom a1) ∷ operand.Count n2 ∷ []) e = refl
known-FuncInfo _ e = absurd (true≢false (sym e))

known-Move : (xs : List Operand) → look (source ∷ register ∷ []) xs ≡ true → is_some (d.move xs) ≡ true
known-Move (operand.Src s0 ∷ operand.Reg r1 ∷ []) e = refl
known-Move _ e = absurd (true≢false (sym e))

known-Swap : (xs : List Operand) → look (register ∷ register ∷ []) xs ≡ true → is_some (d.of_registers o.Swap xs) ≡ true
known-Swap (operand.Reg r0 ∷ operand.Reg r1 ∷ []) e = refl
known-Swap _ e = absurd (true≢false (sym e))

known-Allocate : (xs : List Operand) → look (size ∷ size ∷ []) xs ≡ true → is_some (d.of_counts o.Allocate xs) ≡ true
known-Allocate (operand.Count n0 ∷ operand.Count n1 ∷ []) e = refl
known-Allocate _ e = absurd (true≢false (sym e))

known-AllocateHeap : (xs : List Operand) → look (size ∷ size ∷ []) xs ≡ true → is_some (d.of_counts o.Allocate xs) ≡ true
known-AllocateHeap (operand.Count n0 ∷ operand.Count n1 ∷ []) e = refl
known-AllocateHeap _ e = absurd (true≢false (sym e))

known-TestHeap : (xs : List Operand) → look (size ∷ []) xs ≡ true → is_some (d.of_count o.TestHeap xs) ≡ true
known-TestHeap (operand.Count n0 ∷ []) e = refl
known-TestHeap _ e = absurd (true≢false (sym e))

known-Deallocate : (xs : List Operand) → look (size ∷ []) xs ≡ true → is_some (d.of_count o.Deallocate xs) ≡ true
known-Deallocate (operand.Count n0 ∷ []) e = refl
known-Deallocate _ e = absurd (true≢false (sym e))

known-Trim : (xs : List Operand) → look (size ∷ size ∷ []) xs ≡ true → is_some (d.of_counts o.Trim xs) ≡ true
known-Trim (operand.Count n0 ∷ operand.Count n1 ∷ []) e = refl
known-Trim _ e = absurd (true≢false (sym e))

known-InitYregs : (xs : List Operand) → look (registers ∷ []) xs ≡ true → is_some (d.init_yregs xs) ≡ true
known-InitYregs (operand.Regs q0 ∷ []) e = refl
known-InitYregs _ e = absurd (true≢false (sym e))

known-Call : (xs : List Operand) → look (arguments ∷ target ∷ []) xs ≡ true → is_some (d.local_call o.Body xs) ≡ true
known-Call (operand.Count n0 ∷ operand.Label l1 ∷ []) e = refl
known-Call _ e = absurd (true≢false (sym e))

known-CallExt : (xs : List Operand) → look (arguments ∷ external ∷ []) xs ≡ true → is_some (d.external_call o.Body xs) ≡ true
known-CallExt (operand.Count n0 ∷ operand.Ext w1 x1 y1 ∷ []) e = refl
known-CallExt _ e = absurd (true≢false (sym e))

known-CallFun : (xs : List Operand) → look (arguments ∷ []) xs ≡ true → is_some (d.of_count (λ arity. o.Call o.Fun arity o.Body) xs) ≡ true
known-CallFun (operand.Count n0 ∷ []) e = refl
known-CallFun _ e = absurd (true≢false (sym e))

known-Apply : (xs : List Operand) → look (arguments ∷ []) xs ≡ true → is_some (d.of_count (λ arity. o.Call o.Apply arity o.Body) xs) ≡ true
known-Apply (operand.Count n0 ∷ []) e = refl
known-Apply _ e = absurd (true≢false (sym e))

known-CallOnly : (xs : List Operand) → look (arguments ∷ target ∷ []) xs ≡ true → is_some (d.local_call o.Only xs) ≡ true
known-CallOnly (operand.Count n0 ∷ operand.Label l1 ∷ []) e = refl
known-CallOnly _ e = absurd (true≢false (sym e))

known-CallExtOnly : (xs : List Operand) → look (arguments ∷ external ∷ []) xs ≡ true → is_some (d.external_call o.Only xs) ≡ true
known-CallExtOnly (operand.Count n0 ∷ operand.Ext w1 x1 y1 ∷ []) e = refl
known-CallExtOnly _ e = absurd (true≢false (sym e))

known-CallLast : (xs : List Operand) → look (arguments ∷ target ∷ size ∷ []) xs ≡ true → is_some (d.call_last xs) ≡ true
known-CallLast (operand.Count n0 ∷ operand.Label l1 ∷ operand.Count n2 ∷ []) e = refl
known-CallLast _ e = absurd (true≢false (sym e))

known-CallExtLast : (xs : List Operand) → look (arguments ∷ external ∷ size ∷ []) xs ≡ true → is_some (d.call_ext_last xs) ≡ true
known-CallExtLast (operand.Count n0 ∷ operand.Ext w1 x1 y1 ∷ operand.Count n2 ∷ []) e = refl
known-CallExtLast _ e = absurd (true≢false (sym e))

known-ApplyLast : (xs : List Operand) → look (arguments ∷ size ∷ []) xs ≡ true → is_some (d.of_counts (λ arity size. o.Call o.Apply arity (o.Last size)) xs) ≡ true
known-ApplyLast (operand.Count n0 ∷ operand.Count n1 ∷ []) e = refl
known-ApplyLast _ e = absurd (true≢false (sym e))

known-Return : (xs : List Operand) → look [] xs ≡ true → is_some (d.alone o.Return xs) ≡ true
known-Return [] e = refl
known-Return (x ∷ xs) e = absurd (true≢false (sym e))

known-MakeFun2 : (xs : List Operand) → look (target ∷ count ∷ []) xs ≡ true → is_some (d.make_fun2 xs) ≡ true
known-MakeFun2 (operand.Label l0 ∷ operand.Count n1 ∷ []) e = refl
known-MakeFun2 _ e = absurd (true≢false (sym e))

known-MakeFun3 : (xs : List Operand) → look (target ∷ register ∷ sources ∷ []) xs ≡ true → is_some (d.make_fun3 xs) ≡ true
known-MakeFun3 (operand.Label l0 ∷ operand.Reg r1 ∷ operand.Srcs t2 ∷ []) e = refl
known-MakeFun3 _ e = absurd (true≢false (sym e))

known-Send : (xs : List Operand) → look [] xs ≡ true → is_some (d.alone o.Send xs) ≡ true
known-Send [] e = refl
known-Send (x ∷ xs) e = absurd (true≢false (sym e))

known-Bif : (xs : List Operand) → look (name_of ∷ failure ∷ of_builtin ∷ register ∷ []) xs ≡ true → is_some (d.bif xs) ≡ true
known-Bif (operand.Name m0 ∷ operand.Label l1 ∷ operand.Srcs t2 ∷ operand.Reg r3 ∷ []) e = refl
known-Bif _ e = absurd (true≢false (sym e))

known-GcBif : (xs : List Operand) → look (name_of ∷ failure ∷ size ∷ of_builtin ∷ register ∷ []) xs ≡ true → is_some (d.gc_bif xs) ≡ true
known-GcBif (operand.Name m0 ∷ operand.Label l1 ∷ operand.Count n2 ∷ operand.Srcs t3 ∷ operand.Reg r4 ∷ []) e = refl
known-GcBif _ e = absurd (true≢false (sym e))

known-PutList : (xs : List Operand) → look (source ∷ source ∷ register ∷ []) xs ≡ true → is_some (d.put_list xs) ≡ true
known-PutList (operand.Src s0 ∷ operand.Src s1 ∷ operand.Reg r2 ∷ []) e = refl
known-PutList _ e = absurd (true≢false (sym e))

known-PutTuple2 : (xs : List Operand) → look (register ∷ sources ∷ []) xs ≡ true → is_some (d.put_tuple2 xs) ≡ true
known-PutTuple2 (operand.Reg r0 ∷ operand.Srcs t1 ∷ []) e = refl
known-PutTuple2 _ e = absurd (true≢false (sym e))

known-GetList : (xs : List Operand) → look (register ∷ register ∷ register ∷ []) xs ≡ true → is_some (d.get_list xs) ≡ true
known-GetList (operand.Reg r0 ∷ operand.Reg r1 ∷ operand.Reg r2 ∷ []) e = refl
known-GetList _ e = absurd (true≢false (sym e))

known-GetHd : (xs : List Operand) → look (register ∷ register ∷ []) xs ≡ true → is_some (d.of_registers (o.Get o.Head) xs) ≡ true
known-GetHd (operand.Reg r0 ∷ operand.Reg r1 ∷ []) e = refl
known-GetHd _ e = absurd (true≢false (sym e))

known-GetTl : (xs : List Operand) → look (register ∷ register ∷ []) xs ≡ true → is_some (d.of_registers (o.Get o.Tail) xs) ≡ true
known-GetTl (operand.Reg r0 ∷ operand.Reg r1 ∷ []) e = refl
known-GetTl _ e = absurd (true≢false (sym e))

known-GetTupleElement : (xs : List Operand) → look (register ∷ count ∷ register ∷ []) xs ≡ true → is_some (d.get_tuple_element xs) ≡ true
known-GetTupleElement (operand.Reg r0 ∷ operand.Count n1 ∷ operand.Reg r2 ∷ []) e = refl
known-GetTupleElement _ e = absurd (true≢false (sym e))

known-SetTupleElement : (xs : List Operand) → look (source ∷ register ∷ count ∷ []) xs ≡ true → is_some (d.set_tuple_element xs) ≡ true
known-SetTupleElement (operand.Src s0 ∷ operand.Reg r1 ∷ operand.Count n2 ∷ []) e = refl
known-SetTupleElement _ e = absurd (true≢false (sym e))

known-PutMapAssoc : (xs : List Operand) → look (failure ∷ source ∷ register ∷ count ∷ pairs ∷ []) xs ≡ true → is_some (d.put_map o.Assoc xs) ≡ true
known-PutMapAssoc (operand.Label l0 ∷ operand.Src s1 ∷ operand.Reg r2 ∷ operand.Count n3 ∷ operand.Pairs p4 ∷ []) e = refl
known-PutMapAssoc _ e = absurd (true≢false (sym e))

known-PutMapExact : (xs : List Operand) → look (failure ∷ source ∷ register ∷ count ∷ pairs ∷ []) xs ≡ true → is_some (d.put_map o.Exact xs) ≡ true
known-PutMapExact (operand.Label l0 ∷ operand.Src s1 ∷ operand.Reg r2 ∷ operand.Count n3 ∷ operand.Pairs p4 ∷ []) e = refl
known-PutMapExact _ e = absurd (true≢false (sym e))

known-GetMapElements : (xs : List Operand) → look (target ∷ source ∷ gets ∷ []) xs ≡ true → is_some (d.get_map_elements xs) ≡ true
known-GetMapElements (operand.Label l0 ∷ operand.Src s1 ∷ operand.Gets g2 ∷ []) e = refl
known-GetMapElements _ e = absurd (true≢false (sym e))

known-Jump : (xs : List Operand) → look (target ∷ []) xs ≡ true → is_some (d.of_label o.Jump xs) ≡ true
known-Jump (operand.Label l0 ∷ []) e = refl
known-Jump _ e = absurd (true≢false (sym e))

known-SelectVal : (xs : List Operand) → look (source ∷ target ∷ cases ∷ []) xs ≡ true → is_some (d.of_cases o.SelectVal xs) ≡ true
known-SelectVal (operand.Src s0 ∷ operand.Label l1 ∷ operand.Cases c2 ∷ []) e = refl
known-SelectVal _ e = absurd (true≢false (sym e))

known-SelectTupleArity : (xs : List Operand) → look (source ∷ target ∷ arities ∷ []) xs ≡ true → is_some (d.of_cases o.SelectTupleArity xs) ≡ true
known-SelectTupleArity (operand.Src s0 ∷ operand.Label l1 ∷ operand.Cases c2 ∷ []) e = refl
known-SelectTupleArity _ e = absurd (true≢false (sym e))

known-HasMapFields : (xs : List Operand) → look (target ∷ source ∷ sources ∷ []) xs ≡ true → is_some (d.has_map_fields xs) ≡ true
known-HasMapFields (operand.Label l0 ∷ operand.Src s1 ∷ operand.Srcs t2 ∷ []) e = refl
known-HasMapFields _ e = absurd (true≢false (sym e))

known-LoopRec : (xs : List Operand) → look (target ∷ register ∷ []) xs ≡ true → is_some (d.loop_rec xs) ≡ true
known-LoopRec (operand.Label l0 ∷ operand.Reg r1 ∷ []) e = refl
known-LoopRec _ e = absurd (true≢false (sym e))

known-RemoveMessage : (xs : List Operand) → look [] xs ≡ true → is_some (d.alone o.RemoveMessage xs) ≡ true
known-RemoveMessage [] e = refl
known-RemoveMessage (x ∷ xs) e = absurd (true≢false (sym e))

known-Timeout : (xs : List Operand) → look [] xs ≡ true → is_some (d.alone o.Timeout xs) ≡ true
known-Timeout [] e = refl
known-Timeout (x ∷ xs) e = absurd (true≢false (sym e))

known-LoopRecEnd : (xs : List Operand) → look (target ∷ []) xs ≡ true → is_some (d.of_label o.LoopRecEnd xs) ≡ true
known-LoopRecEnd (operand.Label l0 ∷ []) e = refl
known-LoopRecEnd _ e = absurd (true≢false (sym e))

known-Wait : (xs : List Operand) → look (target ∷ []) xs ≡ true → is_some (d.of_label o.Wait xs) ≡ true
known-Wait (operand.Label l0 ∷ []) e = refl
known-Wait _ e = absurd (true≢false (sym e))

known-WaitTimeout : (xs : List Operand) → look (target ∷ source ∷ []) xs ≡ true → is_some (d.wait_timeout xs) ≡ true
known-WaitTimeout (operand.Label l0 ∷ operand.Src s1 ∷ []) e = refl
known-WaitTimeout _ e = absurd (true≢false (sym e))

known-RecvMarkerReserve : (xs : List Operand) → look (register ∷ []) xs ≡ true → is_some (d.of_register (λ to. o.RecvMarker (o.Reserve to)) xs) ≡ true
known-RecvMarkerReserve (operand.Reg r0 ∷ []) e = refl
known-RecvMarkerReserve _ e = absurd (true≢false (sym e))

known-RecvMarkerBind : (xs : List Operand) → look (register ∷ register ∷ []) xs ≡ true → is_some (d.of_registers (λ marker reference. o.RecvMarker (o.Bind marker reference)) xs) ≡ true
known-RecvMarkerBind (operand.Reg r0 ∷ operand.Reg r1 ∷ []) e = refl
known-RecvMarkerBind _ e = absurd (true≢false (sym e))

known-RecvMarkerUse : (xs : List Operand) → look (register ∷ []) xs ≡ true → is_some (d.of_register (λ reference. o.RecvMarker (o.Use reference)) xs) ≡ true
known-RecvMarkerUse (operand.Reg r0 ∷ []) e = refl
known-RecvMarkerUse _ e = absurd (true≢false (sym e))

known-RecvMarkerClear : (xs : List Operand) → look (register ∷ []) xs ≡ true → is_some (d.of_register (λ reference. o.RecvMarker (o.Clear reference)) xs) ≡ true
known-RecvMarkerClear (operand.Reg r0 ∷ []) e = refl
known-RecvMarkerClear _ e = absurd (true≢false (sym e))

known-Try : (xs : List Operand) → look (slot ∷ target ∷ []) xs ≡ true → is_some (d.try xs) ≡ true
known-Try (operand.Reg (register.Y r0) ∷ operand.Label l1 ∷ []) e = refl
known-Try _ e = absurd (true≢false (sym e))

known-Catch : (xs : List Operand) → look (slot ∷ target ∷ []) xs ≡ true → is_some (d.try xs) ≡ true
known-Catch (operand.Reg (register.Y r0) ∷ operand.Label l1 ∷ []) e = refl
known-Catch _ e = absurd (true≢false (sym e))

known-TryEnd : (xs : List Operand) → look (slot ∷ []) xs ≡ true → is_some (d.of_slot o.TryEnd xs) ≡ true
known-TryEnd (operand.Reg (register.Y r0) ∷ []) e = refl
known-TryEnd _ e = absurd (true≢false (sym e))

known-TryCase : (xs : List Operand) → look (slot ∷ []) xs ≡ true → is_some (d.of_slot o.TryCase xs) ≡ true
known-TryCase (operand.Reg (register.Y r0) ∷ []) e = refl
known-TryCase _ e = absurd (true≢false (sym e))

known-CatchEnd : (xs : List Operand) → look (slot ∷ []) xs ≡ true → is_some (d.of_slot o.CatchEnd xs) ≡ true
known-CatchEnd (operand.Reg (register.Y r0) ∷ []) e = refl
known-CatchEnd _ e = absurd (true≢false (sym e))

known-Badmatch : (xs : List Operand) → look (source ∷ []) xs ≡ true → is_some (d.of_source (o.Unmatches o.Badmatch) xs) ≡ true
known-Badmatch (operand.Src s0 ∷ []) e = refl
known-Badmatch _ e = absurd (true≢false (sym e))

known-CaseEnd : (xs : List Operand) → look (source ∷ []) xs ≡ true → is_some (d.of_source (o.Unmatches o.CaseEnd) xs) ≡ true
known-CaseEnd (operand.Src s0 ∷ []) e = refl
known-CaseEnd _ e = absurd (true≢false (sym e))

known-TryCaseEnd : (xs : List Operand) → look (source ∷ []) xs ≡ true → is_some (d.of_source (o.Unmatches o.TryCaseEnd) xs) ≡ true
known-TryCaseEnd (operand.Src s0 ∷ []) e = refl
known-TryCaseEnd _ e = absurd (true≢false (sym e))

known-IfEnd : (xs : List Operand) → look [] xs ≡ true → is_some (d.alone o.IfEnd xs) ≡ true
known-IfEnd [] e = refl
known-IfEnd (x ∷ xs) e = absurd (true≢false (sym e))

known-Raise : (xs : List Operand) → look (raises ∷ of_raise ∷ register ∷ []) xs ≡ true → is_some (d.raise xs) ≡ true
known-Raise (operand.Label l0 ∷ operand.Srcs (source.Reg u1 ∷ v1 ∷ []) ∷ operand.Reg r2 ∷ []) e = refl
known-Raise _ e = absurd (true≢false (sym e))

known-RawRaise : (xs : List Operand) → look [] xs ≡ true → is_some (d.alone o.RawRaise xs) ≡ true
known-RawRaise [] e = refl
known-RawRaise (x ∷ xs) e = absurd (true≢false (sym e))

known-BuildStacktrace : (xs : List Operand) → look [] xs ≡ true → is_some (d.alone o.BuildStacktrace xs) ≡ true
known-BuildStacktrace [] e = refl
known-BuildStacktrace (x ∷ xs) e = absurd (true≢false (sym e))

size-known : (s : Src) → is_count s ≡ true → is_some (d.size s) ≡ true
size-known (source.Int (pos n)) e = by (nat_le n LAST_COUNT) e
  where
    by : (b : Bool) → b ≡ true → is_some (if b then Some n else None) ≡ true
    by true e = refl
    by false e = absurd (true≢false (sym e))
size-known _ e = absurd (true≢false (sym e))

mapped-some : {X Y : Type 0} (f : X → Y) (x : Option X) → is_some x ≡ true → is_some (option_map f x) ≡ true
mapped-some f (Some x) e = refl
mapped-some f None e = e

sized-known : (fail : ℕ) (ss : List Src) → test_takes (Some SourceAndSize) ss ≡ true → is_some (d.test_arity fail ss) ≡ true
sized-known fail (s ∷ n ∷ []) e = mapped-some (λ k. o.TestArity s fail k) (d.size n) (size-known n (and_parts (is_source s) (is_count n) e).1)
sized-known fail _ e = absurd (true≢false (sym e))

tagged-known : (fail : ℕ) (ss : List Src) → test_takes (Some SourceSizeAndTag) ss ≡ true → is_some (d.is_tagged_tuple fail ss) ≡ true
tagged-known fail (s ∷ n ∷ source.Atom tag ∷ []) e =
    mapped-some (λ k. o.IsTaggedTuple s fail k tag) (d.size n) (size-known n (and_parts (is_source s) (is_count n) (and_parts (is_source s && is_count n) true e).0).1)
tagged-known fail (s ∷ n ∷ tag ∷ []) e = absurd (true≢false (sym (and_parts (is_source s && is_count n) (is_atom tag) e).1))
tagged-known fail _ e = absurd (true≢false (sym e))

test-with-known : (takes : Option TestArguments) (n fail : ℕ) (ss : List Src) → test_takes takes ss ≡ true → is_some (d.test_with n fail ss takes) ≡ true
test-with-known None n fail ss e = e
test-with-known (Some OneSource) n fail ss e = refl
test-with-known (Some TwoSources) n fail ss e = refl
test-with-known (Some SourceAndSize) n fail ss e = sized-known fail ss e
test-with-known (Some SourceSizeAndTag) n fail ss e = tagged-known fail ss e

known-test : (xs : List Operand) → fits_places 0 (name_of ∷ target ∷ of_test ∷ []) xs ≡ true → is_some (d.test xs) ≡ true
known-test (operand.Name n ∷ operand.Label fail ∷ operand.Srcs ss ∷ []) e =
    test-with-known (arguments_of n) n fail ss (and_parts (test_takes (arguments_of n) ss) true (and_parts (is_target fail) (test_takes (arguments_of n) ss && true) e).1).0
known-test xs e = absurd (true≢false (sym (fits-look 0 (name_of ∷ target ∷ of_test ∷ []) xs e)))

-- the row's operands, where they fit it, are those of an instruction
abbrev Known : Instruction → Type 0
Known i = (xs : List Operand) → fits_places 0 i.places xs ≡ true → is_some (d.decoded i.genop xs) ≡ true

all-known : AllByRecursion Known instructions
all-known = (
  (λ xs e. known-Label xs (fits-look 0 (count ∷ []) xs e)),
  (
    (λ xs e. known-Line xs (fits-look 0 (any ∷ []) xs e)),
    (
      (λ xs e. known-Comment xs (fits-look 0 (any ∷ []) xs e)),
      (
        (λ xs e. known-FuncInfo xs (fits-look 0 (atom ∷ atom ∷ count ∷ []) xs e)),
        (
          (λ xs e. known-Move xs (fits-look 0 (source ∷ register ∷ []) xs e)),
          (
            (λ xs e. known-Swap xs (fits-look 0 (register ∷ register ∷ []) xs e)),
            (
              (λ xs e. known-Allocate xs (fits-look 0 (size ∷ size ∷ []) xs e)),
              (
                (λ xs e. known-AllocateHeap xs (fits-look 0 (size ∷ need ∷ size ∷ []) xs e)),
                (
                  (λ xs e. known-TestHeap xs (fits-look 0 (need ∷ size ∷ []) xs e)),
                  (
                    (λ xs e. known-Deallocate xs (fits-look 0 (size ∷ []) xs e)),
                    (
                      (λ xs e. known-Trim xs (fits-look 0 (size ∷ size ∷ []) xs e)),
                      (
                        (λ xs e. known-InitYregs xs (fits-look 0 (registers ∷ []) xs e)),
                        (
                          (λ xs e. known-Call xs (fits-look 0 (arguments ∷ target ∷ []) xs e)),
                          (
                            (λ xs e. known-CallExt xs (fits-look 0 (arguments ∷ external ∷ []) xs e)),
                            (
                              (λ xs e. known-CallFun xs (fits-look 0 (arguments ∷ []) xs e)),
                              (
                                (λ xs e. known-Apply xs (fits-look 0 (arguments ∷ []) xs e)),
                                (
                                  (λ xs e. known-CallOnly xs (fits-look 0 (arguments ∷ target ∷ []) xs e)),
                                  (
                                    (λ xs e. known-CallExtOnly xs (fits-look 0 (arguments ∷ external ∷ []) xs e)),
                                    (
                                      (λ xs e. known-CallLast xs (fits-look 0 (arguments ∷ target ∷ size ∷ []) xs e)),
                                      (
                                        (λ xs e. known-CallExtLast xs (fits-look 0 (arguments ∷ external ∷ size ∷ []) xs e)),
                                        (
                                          (λ xs e. known-ApplyLast xs (fits-look 0 (arguments ∷ size ∷ []) xs e)),
                                          (
                                            (λ xs e. known-Return xs (fits-look 0 ([]) xs e)),
                                            (
                                              (λ xs e. known-MakeFun2 xs (fits-look 0 (target ∷ any ∷ any ∷ count ∷ []) xs e)),
                                              (
                                                (λ xs e. known-MakeFun3 xs (fits-look 0 (target ∷ any ∷ any ∷ register ∷ sources ∷ []) xs e)),
                                                (
                                                  (λ xs e. known-Send xs (fits-look 0 ([]) xs e)),
                                                  (
                                                    (λ xs e. known-Bif xs (fits-look 0 (name_of ∷ failure ∷ of_builtin ∷ register ∷ []) xs e)),
                                                    (
                                                      (λ xs e. known-GcBif xs (fits-look 0 (name_of ∷ failure ∷ size ∷ of_builtin ∷ register ∷ []) xs e)),
                                                      (
                                                        (λ xs e. known-PutList xs (fits-look 0 (source ∷ source ∷ register ∷ []) xs e)),
                                                        (
                                                          (λ xs e. known-PutTuple2 xs (fits-look 0 (register ∷ sources ∷ []) xs e)),
                                                          (
                                                            (λ xs e. known-GetList xs (fits-look 0 (register ∷ register ∷ register ∷ []) xs e)),
                                                            (
                                                              (λ xs e. known-GetHd xs (fits-look 0 (register ∷ register ∷ []) xs e)),
                                                              (
                                                                (λ xs e. known-GetTl xs (fits-look 0 (register ∷ register ∷ []) xs e)),
                                                                (
                                                                  (λ xs e. known-GetTupleElement xs (fits-look 0 (register ∷ count ∷ register ∷ []) xs e)),
                                                                  (
                                                                    (λ xs e. known-SetTupleElement xs (fits-look 0 (source ∷ register ∷ count ∷ []) xs e)),
                                                                    (
                                                                      (λ xs e. known-PutMapAssoc xs (fits-look 0 (failure ∷ source ∷ register ∷ count ∷ pairs ∷ []) xs e)),
                                                                      (
                                                                        (λ xs e. known-PutMapExact xs (fits-look 0 (failure ∷ source ∷ register ∷ count ∷ pairs ∷ []) xs e)),
                                                                        (
                                                                          (λ xs e. known-GetMapElements xs (fits-look 0 (target ∷ source ∷ gets ∷ []) xs e)),
                                                                          (
                                                                            (λ xs e. known-Jump xs (fits-look 0 (target ∷ []) xs e)),
                                                                            (
                                                                              (λ xs e. known-SelectVal xs (fits-look 0 (source ∷ target ∷ cases ∷ []) xs e)),
                                                                              (
                                                                                (λ xs e. known-SelectTupleArity xs (fits-look 0 (source ∷ target ∷ arities ∷ []) xs e)),
                                                                                (
                                                                                  known-test,
                                                                                  (
                                                                                    (λ xs e. known-HasMapFields xs (fits-look 0 (any ∷ target ∷ source ∷ sources ∷ []) xs e)),
                                                                                    (
                                                                                      (λ xs e. known-LoopRec xs (fits-look 0 (target ∷ register ∷ []) xs e)),
                                                                                      (
                                                                                        (λ xs e. known-RemoveMessage xs (fits-look 0 ([]) xs e)),
                                                                                        (
                                                                                          (λ xs e. known-Timeout xs (fits-look 0 ([]) xs e)),
                                                                                          (
                                                                                            (λ xs e. known-LoopRecEnd xs (fits-look 0 (target ∷ []) xs e)),
                                                                                            (
                                                                                              (λ xs e. known-Wait xs (fits-look 0 (target ∷ []) xs e)),
                                                                                              (
                                                                                                (λ xs e. known-WaitTimeout xs (fits-look 0 (target ∷ source ∷ []) xs e)),
                                                                                                (
                                                                                                  (λ xs e. known-RecvMarkerReserve xs (fits-look 0 (register ∷ []) xs e)),
                                                                                                  (
                                                                                                    (λ xs e. known-RecvMarkerBind xs (fits-look 0 (register ∷ register ∷ []) xs e)),
                                                                                                    (
                                                                                                      (λ xs e. known-RecvMarkerUse xs (fits-look 0 (register ∷ []) xs e)),
                                                                                                      (
                                                                                                        (λ xs e. known-RecvMarkerClear xs (fits-look 0 (register ∷ []) xs e)),
                                                                                                        (
                                                                                                          (λ xs e. known-Try xs (fits-look 0 (slot ∷ target ∷ []) xs e)),
                                                                                                          (
                                                                                                            (λ xs e. known-Catch xs (fits-look 0 (slot ∷ target ∷ []) xs e)),
                                                                                                            (
                                                                                                              (λ xs e. known-TryEnd xs (fits-look 0 (slot ∷ []) xs e)),
                                                                                                              (
                                                                                                                (λ xs e. known-TryCase xs (fits-look 0 (slot ∷ []) xs e)),
                                                                                                                (
                                                                                                                  (λ xs e. known-CatchEnd xs (fits-look 0 (slot ∷ []) xs e)),
                                                                                                                  (
                                                                                                                    (λ xs e. known-Badmatch xs (fits-look 0 (source ∷ []) xs e)),
                                                                                                                    (
                                                                                                                      (λ xs e. known-CaseEnd xs (fits-look 0 (source ∷ []) xs e)),
                                                                                                                      (
                                                                                                                        (λ xs e. known-TryCaseEnd xs (fits-look 0 (source ∷ []) xs e)),
                                                                                                                        (
                                                                                                                          (λ xs e. known-IfEnd xs (fits-look 0 ([]) xs e)),
                                                                                                                          (
                                                                                                                            (λ xs e. known-Raise xs (fits-look 0 (any ∷ raises ∷ of_raise ∷ register ∷ []) xs e)),
                                                                                                                            (
                                                                                                                              (λ xs e. known-RawRaise xs (fits-look 0 ([]) xs e)),
                                                                                                                              (
                                                                                                                                (λ xs e. known-BuildStacktrace xs (fits-look 0 ([]) xs e)),
                                                                                                                                tt,
                                                                                                                              ),
                                                                                                                            ),
                                                                                                                          ),
                                                                                                                        ),
                                                                                                                      ),
                                                                                                                    ),
                                                                                                                  ),
                                                                                                                ),
                                                                                                              ),
                                                                                                            ),
                                                                                                          ),
                                                                                                        ),
                                                                                                      ),
                                                                                                    ),
                                                                                                  ),
                                                                                                ),
                                                                                              ),
                                                                                            ),
                                                                                          ),
                                                                                        ),
                                                                                      ),
                                                                                    ),
                                                                                  ),
                                                                                ),
                                                                              ),
                                                                            ),
                                                                          ),
                                                                        ),
                                                                      ),
                                                                    ),
                                                                  ),
                                                                ),
                                                              ),
                                                            ),
                                                          ),
                                                        ),
                                                      ),
                                                    ),
                                                  ),
                                                ),
                                              ),
                                            ),
                                          ),
                                        ),
                                      ),
                                    ),
                                  ),
                                ),
                              ),
                            ),
                          ),
                        ),
                      ),
                    ),
                  ),
                ),
              ),
            ),
          ),
        ),
      ),
    ),
  ),
)

told : (x y : Instruction) → Some x ≡ Some y → x ≡ y
told x y e = cc

-- what holds of each row holds of the one that a number has
pub holds_of_found : (P : Instruction → Type 0) (number : ℕ) (rows : List Instruction) → AllByRecursion P rows → (i : Instruction)
    → find (λ (r : Instruction). nat_eq r.entry.number number) rows ≡ Some i → P i
holds_of_found P number [] all i e = absurd (cc)
holds_of_found P number (r ∷ rows) all i e = by (nat_eq r.entry.number number) refl (holds_of_found P number rows all.1 i)
  where
    by : (b : Bool) → nat_eq r.entry.number number ≡ b → (find (λ (q : Instruction). nat_eq q.entry.number number) rows ≡ Some i → P i) → P i
    by true h rest = subst P (told r i (ap (λ c. cond c (Some r) (find (λ (q : Instruction). nat_eq q.entry.number number) rows)) (sym h) ∙ e)) all.0
    by false h rest = rest (ap (λ c. cond c (Some r) (find (λ (q : Instruction). nat_eq q.entry.number number) rows)) (sym h) ∙ e)

-- Operands that fit a row are those of an instruction.
pub known : (row : ℕ) (operands : List Operand) → fits row operands ≡ true → is_some (d.decoded_row row operands) ≡ true
known row operands fit = by (row_of row) refl fit
  where
    by : (found : Option Instruction) → row_of row ≡ found → fits_found found operands ≡ true
        → is_some (option_and_then (λ (i : Instruction). d.decoded i.genop operands) found) ≡ true
    by None is e = e
    by (Some i) is e = holds_of_found Known row instructions all-known i is operands e

-- so no answer that there is none is right
pub unknown : (row : ℕ) (operands read : List Operand) (found : Option OpcodeCode) → fits row operands ≡ true → read ≡ operands
    → option_map opcode_seen found ≡ d.decoded_row row read → found ≡ None → ⊥
unknown row operands read found fit same e is =
    true≢false (sym (known row operands fit) ∙ ap (λ xs. is_some (d.decoded_row row xs)) (sym same) ∙ ap is_some (sym e) ∙ ap (λ x. is_some (option_map opcode_seen x)) is)
