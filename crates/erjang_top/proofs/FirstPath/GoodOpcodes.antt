-- The instruction of operands that fit their row, and whose names and integers are in range, has names and numbers in range.
use Rattle.std.proofs.Common.{◌≡◌, ℕ, true, nat_le, ◌&&◌, List, [], ◌∷◌, Option, None, Some, IfSome, refl}
use Rattle.std.specs.Bool.{⊤}
use Rattle.std.specs.Prelude.{option_map, option_and_then}
use Rattle.std.specs.List.{AllByRecursion}
use Rattle.std.proofs.lemmas.Bool.{and_parts}
use Rattle.genop_table.specs.declared.tests.TestArguments.{TestArguments}
use Rattle.genop_table.specs.declared.tests.TestArguments.TheVariants.{OneSource, TwoSources, SourceAndSize, SourceSizeAndTag}
use Rattle.genop_table.specs.Instructions.{Instruction, instructions, row_of}
use Rattle.genop_table.specs.Places.{atom, count, register, source}
use Rattle.genop_table.specs.Tests.{arguments_of}
use Rattle.beam_code.specs.declared.operand.Operand.{Operand}
use Rattle.beam_code.specs.declared.operand.Operand.TheVariants as operand
use Rattle.beam_code.specs.declared.operand.Reg.{Reg}
use Rattle.beam_code.specs.declared.operand.Reg.TheVariants as register
use Rattle.beam_code.specs.declared.operand.Src.{Src}
use Rattle.beam_code.specs.declared.operand.Src.TheVariants as source
use Rattle.beam_code.specs.declared.operand.TheConstants.{LAST_COUNT}
use Rattle.beam_code.specs.Decoded as d
use Rattle.beam_code.specs.RowFits.{fits, fits_found, fits_places, is_register, is_source}
use Rattle.beam_code.specs.Opcode as o
use Rattle.beam_code.proofs.Known.{holds_of_found}
use Rattle.erjang_top.specs.first_path.Accepted.{is_atom_name}
use Rattle.asm_module.specs.Ranges.{GoodSrc, EachOperand}

-- what a label, a head or a move has in it is in range
abbrev pub GoodOpcode : o.Opcode → Type 0
GoodOpcode (o.Label n) = nat_le n LAST_COUNT ≡ true
GoodOpcode (o.FuncInfo owner name arity) = (is_atom_name owner ≡ true) × (is_atom_name name ≡ true) × (nat_le arity LAST_COUNT ≡ true)
GoodOpcode (o.Move from to) = GoodSrc from × (is_source from ≡ true) × (is_register to ≡ true)
GoodOpcode _ = ⊤

abbrev Good : Option o.Opcode → Type 0
Good d = IfSome d GoodOpcode

good-alone : (opcode : o.Opcode) → GoodOpcode opcode → (xs : List Operand) → Good (d.alone opcode xs)
good-alone opcode k ([]) = k
good-alone opcode k _ = tt

good-of_count : (make : ℕ → o.Opcode) → ((n : ℕ) → GoodOpcode (make n)) → (xs : List Operand) → Good (d.of_count make xs)
good-of_count make k (operand.Count n ∷ []) = k n
good-of_count make k _ = tt

good-of_counts : (make : ℕ → ℕ → o.Opcode) → ((n m : ℕ) → GoodOpcode (make n m)) → (xs : List Operand) → Good (d.of_counts make xs)
good-of_counts make k (operand.Count n ∷ operand.Count m ∷ []) = k n m
good-of_counts make k _ = tt

good-of_label : (make : ℕ → o.Opcode) → ((n : ℕ) → GoodOpcode (make n)) → (xs : List Operand) → Good (d.of_label make xs)
good-of_label make k (operand.Label n ∷ []) = k n
good-of_label make k _ = tt

good-of_register : (make : Reg → o.Opcode) → ((r : Reg) → GoodOpcode (make r)) → (xs : List Operand) → Good (d.of_register make xs)
good-of_register make k (operand.Reg r ∷ []) = k r
good-of_register make k _ = tt

good-of_registers : (make : Reg → Reg → o.Opcode) → ((r s : Reg) → GoodOpcode (make r s)) → (xs : List Operand) → Good (d.of_registers make xs)
good-of_registers make k (operand.Reg r ∷ operand.Reg s ∷ []) = k r s
good-of_registers make k _ = tt

good-of_slot : (make : ℕ → o.Opcode) → ((n : ℕ) → GoodOpcode (make n)) → (xs : List Operand) → Good (d.of_slot make xs)
good-of_slot make k (operand.Reg (register.Y n) ∷ []) = k n
good-of_slot make k _ = tt

good-of_source : (make : Src → o.Opcode) → ((s : Src) → GoodOpcode (make s)) → (xs : List Operand) → Good (d.of_source make xs)
good-of_source make k (operand.Src s ∷ []) = k s
good-of_source make k _ = tt

good-of_cases : (make : Src → ℕ → List (Src × ℕ) → o.Opcode) → ((s : Src) (n : ℕ) (cs : List (Src × ℕ)) → GoodOpcode (make s n cs)) → (xs : List Operand) → Good (d.of_cases make xs)
good-of_cases make k (operand.Src s ∷ operand.Label n ∷ operand.Cases cs ∷ []) = k s n cs
good-of_cases make k _ = tt

good-local_call : (kind : o.CallKind) (xs : List Operand) → Good (d.local_call kind xs)
good-local_call kind (operand.Count n ∷ operand.Label l ∷ []) = tt
good-local_call kind _ = tt

good-external_call : (kind : o.CallKind) (xs : List Operand) → Good (d.external_call kind xs)
good-external_call kind (operand.Count n ∷ operand.Ext a b c ∷ []) = tt
good-external_call kind _ = tt

good-put_map : (update : o.MapUpdate) (xs : List Operand) → Good (d.put_map update xs)
good-put_map update (operand.Label l ∷ operand.Src s ∷ operand.Reg r ∷ operand.Count n ∷ operand.Pairs ps ∷ []) = tt
good-put_map update _ = tt

good-init_yregs : (xs : List Operand) → Good (d.init_yregs xs)
good-init_yregs (operand.Regs rs ∷ []) = tt
good-init_yregs _ = tt

good-call_last : (xs : List Operand) → Good (d.call_last xs)
good-call_last (operand.Count n ∷ operand.Label l ∷ operand.Count m ∷ []) = tt
good-call_last _ = tt

good-call_ext_last : (xs : List Operand) → Good (d.call_ext_last xs)
good-call_ext_last (operand.Count n ∷ operand.Ext a b c ∷ operand.Count m ∷ []) = tt
good-call_ext_last _ = tt

good-make_fun2 : (xs : List Operand) → Good (d.make_fun2 xs)
good-make_fun2 (operand.Label l ∷ operand.Count n ∷ []) = tt
good-make_fun2 _ = tt

good-make_fun3 : (xs : List Operand) → Good (d.make_fun3 xs)
good-make_fun3 (operand.Label l ∷ operand.Reg r ∷ operand.Srcs ss ∷ []) = tt
good-make_fun3 _ = tt

good-bif : (xs : List Operand) → Good (d.bif xs)
good-bif (operand.Name n ∷ operand.Label l ∷ operand.Srcs ss ∷ operand.Reg r ∷ []) = tt
good-bif _ = tt

good-gc_bif : (xs : List Operand) → Good (d.gc_bif xs)
good-gc_bif (operand.Name n ∷ operand.Label l ∷ operand.Count m ∷ operand.Srcs ss ∷ operand.Reg r ∷ []) = tt
good-gc_bif _ = tt

good-put_list : (xs : List Operand) → Good (d.put_list xs)
good-put_list (operand.Src s ∷ operand.Src t ∷ operand.Reg r ∷ []) = tt
good-put_list _ = tt

good-put_tuple2 : (xs : List Operand) → Good (d.put_tuple2 xs)
good-put_tuple2 (operand.Reg r ∷ operand.Srcs ss ∷ []) = tt
good-put_tuple2 _ = tt

good-get_list : (xs : List Operand) → Good (d.get_list xs)
good-get_list (operand.Reg r ∷ operand.Reg s ∷ operand.Reg t ∷ []) = tt
good-get_list _ = tt

good-get_tuple_element : (xs : List Operand) → Good (d.get_tuple_element xs)
good-get_tuple_element (operand.Reg r ∷ operand.Count n ∷ operand.Reg s ∷ []) = tt
good-get_tuple_element _ = tt

good-set_tuple_element : (xs : List Operand) → Good (d.set_tuple_element xs)
good-set_tuple_element (operand.Src s ∷ operand.Reg r ∷ operand.Count n ∷ []) = tt
good-set_tuple_element _ = tt

good-get_map_elements : (xs : List Operand) → Good (d.get_map_elements xs)
good-get_map_elements (operand.Label l ∷ operand.Src s ∷ operand.Gets gs ∷ []) = tt
good-get_map_elements _ = tt

good-has_map_fields : (xs : List Operand) → Good (d.has_map_fields xs)
good-has_map_fields (operand.Label l ∷ operand.Src s ∷ operand.Srcs ss ∷ []) = tt
good-has_map_fields _ = tt

good-loop_rec : (xs : List Operand) → Good (d.loop_rec xs)
good-loop_rec (operand.Label l ∷ operand.Reg r ∷ []) = tt
good-loop_rec _ = tt

good-wait_timeout : (xs : List Operand) → Good (d.wait_timeout xs)
good-wait_timeout (operand.Label l ∷ operand.Src s ∷ []) = tt
good-wait_timeout _ = tt

good-try : (xs : List Operand) → Good (d.try xs)
good-try (operand.Reg (register.Y n) ∷ operand.Label l ∷ []) = tt
good-try _ = tt

sized : (tuple : Src) (fail : ℕ) (n : Option ℕ) → Good (option_map (λ k. o.TestArity tuple fail k) n)
sized tuple fail None = tt
sized tuple fail (Some n) = tt

tagged : (tuple : Src) (fail : ℕ) (tag : List ℕ) (n : Option ℕ) → Good (option_map (λ k. o.IsTaggedTuple tuple fail k tag) n)
tagged tuple fail tag None = tt
tagged tuple fail tag (Some n) = tt

good-test_arity : (fail : ℕ) (ss : List Src) → Good (d.test_arity fail ss)
good-test_arity fail (tuple ∷ n ∷ []) = sized tuple fail (d.size n)
good-test_arity fail _ = tt

good-is_tagged_tuple : (fail : ℕ) (ss : List Src) → Good (d.is_tagged_tuple fail ss)
good-is_tagged_tuple fail (tuple ∷ n ∷ source.Atom tag ∷ []) = tagged tuple fail tag (d.size n)
good-is_tagged_tuple fail _ = tt

good-test_with : (n fail : ℕ) (ss : List Src) (takes : Option TestArguments) → Good (d.test_with n fail ss takes)
good-test_with n fail ss None = tt
good-test_with n fail ss (Some OneSource) = tt
good-test_with n fail ss (Some TwoSources) = tt
good-test_with n fail ss (Some SourceAndSize) = good-test_arity fail ss
good-test_with n fail ss (Some SourceSizeAndTag) = good-is_tagged_tuple fail ss

good-test : (xs : List Operand) → Good (d.test xs)
good-test (operand.Name n ∷ operand.Label l ∷ operand.Srcs ss ∷ []) = good-test_with n l ss (arguments_of n)
good-test _ = tt

good-raise_by : (ss : List Src) → Good (d.raise_by ss)
good-raise_by (source.Reg r ∷ s ∷ []) = tt
good-raise_by _ = tt

good-raise : (xs : List Operand) → Good (d.raise xs)
good-raise (operand.Label l ∷ operand.Srcs ss ∷ operand.Reg r ∷ []) = good-raise_by ss
good-raise _ = tt

-- what is known of the operands of a row is known of its instruction
abbrev Keeps : Instruction → Type 0
Keeps i = (xs : List Operand) → EachOperand xs → fits_places 0 i.places xs ≡ true → Good (d.decoded i.genop xs)

keeps-label : (xs : List Operand) → EachOperand xs → fits_places 0 (count ∷ []) xs ≡ true → Good (d.of_count o.Label xs)
keeps-label (operand.Count n ∷ []) g f = (and_parts (nat_le n LAST_COUNT) true f).0
keeps-label _ g f = tt

keeps-func_info : (xs : List Operand) → EachOperand xs → fits_places 0 (atom ∷ atom ∷ count ∷ []) xs ≡ true → Good (d.func_info xs)
keeps-func_info (operand.Src (source.Atom owner) ∷ operand.Src (source.Atom name) ∷ operand.Count n ∷ []) g f = (g.0, g.1.0, (and_parts (nat_le n LAST_COUNT) true f).0)
keeps-func_info _ g f = tt

keeps-move : (xs : List Operand) → EachOperand xs → fits_places 0 (source ∷ register ∷ []) xs ≡ true → Good (d.move xs)
keeps-move (operand.Src from ∷ operand.Reg to ∷ []) g f =
    let p = and_parts (is_source from) (is_register to && true) f in
    (g.0, p.0, (and_parts (is_register to) true p.1).0)
keeps-move _ g f = tt

all-keep : AllByRecursion Keeps instructions
all-keep = (
  keeps-label,
  (
    (λ xs g f. good-alone o.Line tt xs),
    (
      (λ xs g f. good-alone o.Comment tt xs),
      (
        keeps-func_info,
        (
          keeps-move,
          (
            (λ xs g f. good-of_registers o.Swap (λ r s. tt) xs),
            (
              (λ xs g f. good-of_counts o.Allocate (λ n m. tt) xs),
              (
                (λ xs g f. good-of_counts o.Allocate (λ n m. tt) xs),
                (
                  (λ xs g f. good-of_count o.TestHeap (λ n. tt) xs),
                  (
                    (λ xs g f. good-of_count o.Deallocate (λ n. tt) xs),
                    (
                      (λ xs g f. good-of_counts o.Trim (λ n m. tt) xs),
                      (
                        (λ xs g f. good-init_yregs xs),
                        (
                          (λ xs g f. good-local_call o.Body xs),
                          (
                            (λ xs g f. good-external_call o.Body xs),
                            (
                              (λ xs g f. good-of_count (λ arity. o.Call o.Fun arity o.Body) (λ n. tt) xs),
                              (
                                (λ xs g f. good-of_count (λ arity. o.Call o.Apply arity o.Body) (λ n. tt) xs),
                                (
                                  (λ xs g f. good-local_call o.Only xs),
                                  (
                                    (λ xs g f. good-external_call o.Only xs),
                                    (
                                      (λ xs g f. good-call_last xs),
                                      (
                                        (λ xs g f. good-call_ext_last xs),
                                        (
                                          (λ xs g f. good-of_counts (λ arity size. o.Call o.Apply arity (o.Last size)) (λ n m. tt) xs),
                                          (
                                            (λ xs g f. good-alone o.Return tt xs),
                                            (
                                              (λ xs g f. good-make_fun2 xs),
                                              (
                                                (λ xs g f. good-make_fun3 xs),
                                                (
                                                  (λ xs g f. good-alone o.Send tt xs),
                                                  (
                                                    (λ xs g f. good-bif xs),
                                                    (
                                                      (λ xs g f. good-gc_bif xs),
                                                      (
                                                        (λ xs g f. good-put_list xs),
                                                        (
                                                          (λ xs g f. good-put_tuple2 xs),
                                                          (
                                                            (λ xs g f. good-get_list xs),
                                                            (
                                                              (λ xs g f. good-of_registers (o.Get o.Head) (λ r s. tt) xs),
                                                              (
                                                                (λ xs g f. good-of_registers (o.Get o.Tail) (λ r s. tt) xs),
                                                                (
                                                                  (λ xs g f. good-get_tuple_element xs),
                                                                  (
                                                                    (λ xs g f. good-set_tuple_element xs),
                                                                    (
                                                                      (λ xs g f. good-put_map o.Assoc xs),
                                                                      (
                                                                        (λ xs g f. good-put_map o.Exact xs),
                                                                        (
                                                                          (λ xs g f. good-get_map_elements xs),
                                                                          (
                                                                            (λ xs g f. good-of_label o.Jump (λ n. tt) xs),
                                                                            (
                                                                              (λ xs g f. good-of_cases o.SelectVal (λ s n cs. tt) xs),
                                                                              (
                                                                                (λ xs g f. good-of_cases o.SelectTupleArity (λ s n cs. tt) xs),
                                                                                (
                                                                                  (λ xs g f. good-test xs),
                                                                                  (
                                                                                    (λ xs g f. good-has_map_fields xs),
                                                                                    (
                                                                                      (λ xs g f. good-loop_rec xs),
                                                                                      (
                                                                                        (λ xs g f. good-alone o.RemoveMessage tt xs),
                                                                                        (
                                                                                          (λ xs g f. good-alone o.Timeout tt xs),
                                                                                          (
                                                                                            (λ xs g f. good-of_label o.LoopRecEnd (λ n. tt) xs),
                                                                                            (
                                                                                              (λ xs g f. good-of_label o.Wait (λ n. tt) xs),
                                                                                              (
                                                                                                (λ xs g f. good-wait_timeout xs),
                                                                                                (
                                                                                                  (λ xs g f. good-of_register (λ to. o.RecvMarker (o.Reserve to)) (λ r. tt) xs),
                                                                                                  (
                                                                                                    (λ xs g f. good-of_registers (λ marker reference. o.RecvMarker (o.Bind marker reference)) (λ r s. tt) xs),
                                                                                                    (
                                                                                                      (λ xs g f. good-of_register (λ reference. o.RecvMarker (o.Use reference)) (λ r. tt) xs),
                                                                                                      (
                                                                                                        (λ xs g f. good-of_register (λ reference. o.RecvMarker (o.Clear reference)) (λ r. tt) xs),
                                                                                                        (
                                                                                                          (λ xs g f. good-try xs),
                                                                                                          (
                                                                                                            (λ xs g f. good-try xs),
                                                                                                            (
                                                                                                              (λ xs g f. good-of_slot o.TryEnd (λ n. tt) xs),
                                                                                                              (
                                                                                                                (λ xs g f. good-of_slot o.TryCase (λ n. tt) xs),
                                                                                                                (
                                                                                                                  (λ xs g f. good-of_slot o.CatchEnd (λ n. tt) xs),
                                                                                                                  (
                                                                                                                    (λ xs g f. good-of_source (o.Unmatches o.Badmatch) (λ s. tt) xs),
                                                                                                                    (
                                                                                                                      (λ xs g f. good-of_source (o.Unmatches o.CaseEnd) (λ s. tt) xs),
                                                                                                                      (
                                                                                                                        (λ xs g f. good-of_source (o.Unmatches o.TryCaseEnd) (λ s. tt) xs),
                                                                                                                        (
                                                                                                                          (λ xs g f. good-alone o.IfEnd tt xs),
                                                                                                                          (
                                                                                                                            (λ xs g f. good-raise xs),
                                                                                                                            (
                                                                                                                              (λ xs g f. good-alone o.RawRaise tt xs),
                                                                                                                              (
                                                                                                                                (λ xs g f. good-alone o.BuildStacktrace tt xs),
                                                                                                                                tt,
                                                                                                                              ),
                                                                                                                            ),
                                                                                                                          ),
                                                                                                                        ),
                                                                                                                      ),
                                                                                                                    ),
                                                                                                                  ),
                                                                                                                ),
                                                                                                              ),
                                                                                                            ),
                                                                                                          ),
                                                                                                        ),
                                                                                                      ),
                                                                                                    ),
                                                                                                  ),
                                                                                                ),
                                                                                              ),
                                                                                            ),
                                                                                          ),
                                                                                        ),
                                                                                      ),
                                                                                    ),
                                                                                  ),
                                                                                ),
                                                                              ),
                                                                            ),
                                                                          ),
                                                                        ),
                                                                      ),
                                                                    ),
                                                                  ),
                                                                ),
                                                              ),
                                                            ),
                                                          ),
                                                        ),
                                                      ),
                                                    ),
                                                  ),
                                                ),
                                              ),
                                            ),
                                          ),
                                        ),
                                      ),
                                    ),
                                  ),
                                ),
                              ),
                            ),
                          ),
                        ),
                      ),
                    ),
                  ),
                ),
              ),
            ),
          ),
        ),
      ),
    ),
  ),
)

pub decoded-good : (row : ℕ) (operands : List Operand) → EachOperand operands → fits row operands ≡ true → Good (d.decoded_row row operands)
decoded-good row operands g fit = by (row_of row) refl fit
  where
    by : (found : Option Instruction) → row_of row ≡ found → fits_found found operands ≡ true → Good (option_and_then (λ (i : Instruction). d.decoded i.genop operands) found)
    by None is f = tt
    by (Some i) is f = holds_of_found Keeps row instructions all-keep i is operands g f
