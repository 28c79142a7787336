-- Which methods an instruction may name: those of the same class, and those of the runtime class `erl/Rt`.
use Rattle.std.specs.Prelude.{ℕ, Bool, true, false, ◌&&◌, ◌||◌, List, [], ◌∷◌, codes, unwrap_or}
use Rattle.std.specs.Option.{option_map}
use Rattle.std.specs.List.{list_any, list_all}
use Rattle.std.specs.Str.{bytes_eq}
use Rattle.erjang_top.specs.first_path.ClassFile.{Op, Invoke, Class}
use Rattle.erjang_top.specs.first_path.ClassProfile.{Callee, callee_at, class_at, utf8_at}

-- the runtime methods that are used so far, by name and descriptor: the entered value at a place, the result, an
-- exception, an integer, and the term of a print
abbrev pub runtime_methods : List (List ℕ × List ℕ)
runtime_methods =
    (codes "take", codes "(Lerl/Proc;I)Lerl/Term;")
    ∷ (codes "give", codes "(Lerl/Proc;Lerl/Term;)V")
    ∷ (codes "raise", codes "(Lerl/Proc;ILerl/Term;)V")
    ∷ (codes "integer", codes "(J)Lerl/Term;")
    ∷ (codes "lit", codes "(Ljava/lang/String;)Lerl/Term;")
    ∷ []

abbrev pub is_runtime : Callee → Bool
is_runtime callee =
    bytes_eq callee.class (codes "erl/Rt")
    && list_any (λ row. bytes_eq row.0 callee.name && bytes_eq row.1 callee.descriptor) runtime_methods

-- the text at an index, or none of it
abbrev pub text_at : Class → ℕ → List ℕ
text_at c index = unwrap_or (utf8_at c.pool index) []

abbrev pub is_own : Class → Callee → Bool
is_own c callee =
    bytes_eq callee.class (unwrap_or (class_at c.pool c.this) [])
    && list_any (λ m. bytes_eq (text_at c m.name) callee.name && bytes_eq (text_at c m.descriptor) callee.descriptor) c.methods

abbrev pub op_linked : Class → Op → Bool
op_linked c (Invoke index) = unwrap_or (option_map (λ callee. is_runtime callee || is_own c callee) (callee_at c.pool index)) false
op_linked c _ = true

-- each `invokestatic` names a method that there is
abbrev pub linked : Class → Bool
linked c = list_all (λ m. list_all (λ p. op_linked c p.1) m.code) c.methods
