-- Forms that are spelled are read.
use Rattle.std.proofs.Common.{◌≡◌, ℕ, zero, suc, ◌+◌, ◌-◌, ◌<◌, ◌≤◌, ◌^◌, nat_le, nat_lt, true, false, if◌then◌else◌, List, [], ◌∷◌, ◌++◌, length, take, Some, refl, sym, ap, ◌∙◌, append_assoc, append-nil, arith}
use Rattle.std.proofs.lemmas.Bool.Decides.{nat_tests}
use Rattle.std.specs.List.{AllByRecursion}
use Rattle.byteorder.specs.Endian.{big_bytes}
use Rattle.jvm_code.specs.declared.class.Constant.{Constant}
use Rattle.jvm_code.specs.declared.types.Frame.{Frame}
use Rattle.jvm_code.specs.declared.types.VType.{VType}
use Rattle.jvm_code.specs.StackMaps as maps
use Rattle.jvm_code.specs.StackMaps.{Form, Same, SameOne, SameOneExtended, Chop, SameExtended, Append, Full, form_bytes, IsForm, After, delta_of, info_bytes, infos_bytes, IsInfo, AreTypes, Appends}
use Rattle.stack_maps.specs.Read.{Got, done, bad, go_on, then_read, u2, counted, same, one, chop, append, full, wide, form, shape}
use Rattle.stack_maps.proofs.Taken.{u1_back, u2_back}
use Rattle.stack_maps.proofs.TypesLaw.{types_back, counted_back}

framed : (delta : ℕ) (frame : Frame) (locals stack : List VType) (rest : List ℕ) → frame.locals ≡ locals → frame.stack ≡ stack
    → Path (Got (ℕ × Frame)) (Some ((delta, record { locals = locals; stack = stack }), rest)) (Some ((delta, frame), rest))
framed delta frame locals stack rest l s =
    ap (λ l. Some ((delta, record { locals = l; stack = stack }), rest)) (sym l) ∙ ap (λ s. Some ((delta, record { locals = frame.locals; stack = s }), rest)) (sym s)

module _ (pool : List Constant) (before : Frame) where
  behind : (tag : ℕ) (tail : List ℕ) → tag < 256 → shape pool before.locals (big_bytes 1 tag ++ tail) ≡ form pool before.locals tag tail
  behind tag tail l = ap (λ g. go_on g (form pool before.locals)) (u1_back tag tail l)

  behind_delta : (tag delta : ℕ) (tail : List ℕ) → delta < 2 ^ 16 → then_read u2 (wide pool before.locals tag) (big_bytes 2 delta ++ tail) ≡ wide pool before.locals tag delta tail
  behind_delta tag delta tail l = ap (λ g. go_on g (wide pool before.locals tag)) (u2_back delta tail l)

  one_back : (delta : ℕ) (info : maps.TypeInfo) (frame : Frame) (rest : List ℕ) → IsInfo info → frame.locals ≡ before.locals → AreTypes pool (info ∷ []) frame.stack
      → one pool before.locals delta (info_bytes info ++ rest) ≡ Some ((delta, frame), rest)
  one_back delta info frame rest f l a =
      ap (λ t. one pool before.locals delta (t ++ rest)) (sym (append-nil (info_bytes info)))
      ∙ ap (λ g. go_on g (λ stack. done (delta, record { locals = before.locals; stack = stack }))) (types_back pool (info ∷ []) frame.stack rest (f, tt) a)
      ∙ framed delta frame before.locals frame.stack rest l refl

  append_back : (delta : ℕ) (infos : List maps.TypeInfo) (frame : Frame) (rest : List ℕ) → AllByRecursion IsInfo infos → Appends pool before.locals infos frame.locals → frame.stack ≡ []
      → append pool before.locals (length infos) delta (infos_bytes infos ++ rest) ≡ Some ((delta, frame), rest)
  append_back delta infos frame rest f a s =
      ap (λ g. go_on g (λ more. done (delta, record { locals = before.locals ++ more; stack = [] }))) (types_back pool infos a.types rest f a.more)
      ∙ framed delta frame (before.locals ++ a.types) [] rest a.is s

  chop_back : (count delta : ℕ) (frame : Frame) (rest : List ℕ) → count ≤ length before.locals → frame.locals ≡ take (length before.locals - count) before.locals → frame.stack ≡ []
      → chop before.locals count delta rest ≡ Some ((delta, frame), rest)
  chop_back count delta frame rest l a s =
      let c : nat_le count (length before.locals) ≡ true = grind (arith, nat_tests) in
      ap (λ c. (if c then done (delta, record { locals = take (length before.locals - count) before.locals; stack = [] }) else bad) rest) c
      ∙ framed delta frame (take (length before.locals - count) before.locals) [] rest a s

  full_back : (delta : ℕ) (locals stack : List maps.TypeInfo) (frame : Frame) (rest : List ℕ) → length locals < 2 ^ 16 → length stack < 2 ^ 16 → AllByRecursion IsInfo locals → AllByRecursion IsInfo stack
      → AreTypes pool locals frame.locals → AreTypes pool stack frame.stack
      → full pool delta (big_bytes 2 (length locals) ++ (infos_bytes locals ++ (big_bytes 2 (length stack) ++ (infos_bytes stack ++ rest)))) ≡ Some ((delta, frame), rest)
  full_back delta locals stack frame rest l m f g a b =
      ap (λ g. go_on g (λ locals. then_read (counted pool) (λ stack. done (delta, record { locals = locals; stack = stack })))) (counted_back pool locals frame.locals (big_bytes 2 (length stack) ++ (infos_bytes stack ++ rest)) l f a)
      ∙ ap (λ g. go_on g (λ stack. done (delta, record { locals = frame.locals; stack = stack }))) (counted_back pool stack frame.stack rest m g b)

  low : (delta : ℕ) (rest : List ℕ) → delta < 64 → form pool before.locals delta rest ≡ same before.locals delta rest
  low delta rest l = let c : nat_lt delta 64 ≡ true = grind (arith, nat_tests) in rw c refl

  middle : (delta : ℕ) (rest : List ℕ) → delta < 64 → form pool before.locals (64 + delta) rest ≡ one pool before.locals delta rest
  middle delta rest l =
      let c : nat_lt (64 + delta) 64 ≡ false = grind (arith, nat_tests) in
      let d : nat_lt (64 + delta) 128 ≡ true = grind (arith, nat_tests) in
      let e : 64 + delta - 64 ≡ delta = omega arith in rw (c, d) (ap (λ n. one pool before.locals n rest) e)

  full_bytes : (delta : ℕ) (locals stack : List maps.TypeInfo) (rest : List ℕ)
      → form_bytes (Full delta locals stack) ++ rest ≡ big_bytes 1 255 ++ (big_bytes 2 delta ++ (big_bytes 2 (length locals) ++ (infos_bytes locals ++ (big_bytes 2 (length stack) ++ (infos_bytes stack ++ rest)))))
  full_bytes delta locals stack rest =
      ap (λ t. big_bytes 1 255 ++ (big_bytes 2 delta ++ (big_bytes 2 (length locals) ++ t))) (append_assoc (infos_bytes locals) (big_bytes 2 (length stack) ++ infos_bytes stack) rest)

  pub form_back : (f : Form) (frame : Frame) (rest : List ℕ) → IsForm f → After pool before f frame → shape pool before.locals (form_bytes f ++ rest) ≡ Some ((delta_of f, frame), rest)
  form_back (Same delta) frame rest f a = behind delta rest (omega (arith, f)) ∙ low delta rest f ∙ framed delta frame before.locals [] rest a.0 a.1
  form_back (SameOne delta item) frame rest f a = behind (64 + delta) (info_bytes item ++ rest) (omega (arith, f.0)) ∙ middle delta (info_bytes item ++ rest) f.0 ∙ one_back delta item frame rest f.1 a.0 a.1
  form_back (SameOneExtended delta item) frame rest f a =
      behind 247 (big_bytes 2 delta ++ (info_bytes item ++ rest)) (omega arith) ∙ behind_delta 247 delta (info_bytes item ++ rest) f.0 ∙ one_back delta item frame rest f.1 a.0 a.1
  form_back (Chop zero delta) frame rest f a = absurd (omega (arith, f.0))
  form_back (Chop (suc zero) delta) frame rest f a = behind 250 (big_bytes 2 delta ++ rest) (omega arith) ∙ behind_delta 250 delta rest f.2 ∙ chop_back 1 delta frame rest a.0 a.1 a.2
  form_back (Chop (suc (suc zero)) delta) frame rest f a = behind 249 (big_bytes 2 delta ++ rest) (omega arith) ∙ behind_delta 249 delta rest f.2 ∙ chop_back 2 delta frame rest a.0 a.1 a.2
  form_back (Chop (suc (suc (suc zero))) delta) frame rest f a = behind 248 (big_bytes 2 delta ++ rest) (omega arith) ∙ behind_delta 248 delta rest f.2 ∙ chop_back 3 delta frame rest a.0 a.1 a.2
  form_back (Chop (suc (suc (suc (suc n)))) delta) frame rest f a = absurd (omega (arith, f.1))
  form_back (SameExtended delta) frame rest f a = behind 251 (big_bytes 2 delta ++ rest) (omega arith) ∙ behind_delta 251 delta rest f ∙ framed delta frame before.locals [] rest a.0 a.1
  form_back (Append delta []) frame rest f a = absurd (omega (arith, f.0))
  form_back (Append delta (i ∷ [])) frame rest f a = behind 252 (big_bytes 2 delta ++ (infos_bytes (i ∷ []) ++ rest)) (omega arith) ∙ behind_delta 252 delta (infos_bytes (i ∷ []) ++ rest) f.2 ∙ append_back delta (i ∷ []) frame rest f.3 a.0 a.1
  form_back (Append delta (i ∷ j ∷ [])) frame rest f a = behind 253 (big_bytes 2 delta ++ (infos_bytes (i ∷ j ∷ []) ++ rest)) (omega arith) ∙ behind_delta 253 delta (infos_bytes (i ∷ j ∷ []) ++ rest) f.2 ∙ append_back delta (i ∷ j ∷ []) frame rest f.3 a.0 a.1
  form_back (Append delta (i ∷ j ∷ k ∷ [])) frame rest f a = behind 254 (big_bytes 2 delta ++ (infos_bytes (i ∷ j ∷ k ∷ []) ++ rest)) (omega arith) ∙ behind_delta 254 delta (infos_bytes (i ∷ j ∷ k ∷ []) ++ rest) f.2 ∙ append_back delta (i ∷ j ∷ k ∷ []) frame rest f.3 a.0 a.1
  form_back (Append delta (i ∷ j ∷ k ∷ l ∷ is)) frame rest f a = absurd (omega (arith, f.1))
  form_back (Full delta locals stack) frame rest f a =
      ap (shape pool before.locals) (full_bytes delta locals stack rest)
      ∙ behind 255 (big_bytes 2 delta ++ (big_bytes 2 (length locals) ++ (infos_bytes locals ++ (big_bytes 2 (length stack) ++ (infos_bytes stack ++ rest))))) (omega arith)
      ∙ behind_delta 255 delta (big_bytes 2 (length locals) ++ (infos_bytes locals ++ (big_bytes 2 (length stack) ++ (infos_bytes stack ++ rest)))) f.0
      ∙ full_back delta locals stack frame rest f.1 f.2 f.3 f.4 a.0 a.1
