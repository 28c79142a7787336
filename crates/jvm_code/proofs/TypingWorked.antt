-- Worked rows of typing.
use Rattle.std.specs.Prelude.{◌≡◌, ℕ, pos, List, [], ◌∷◌, codes, Option, None, Some}
use Rattle.std.proofs.Common.{refl}
use Rattle.jvm_code.specs.declared.class.Class.{Class}
use Rattle.jvm_code.specs.declared.class.Constant.{Constant}
use Rattle.jvm_code.specs.declared.class.Constant.TheVariants as c
use Rattle.jvm_code.specs.declared.class.Method.{Method}
use Rattle.jvm_code.specs.declared.class.Op.{Op}
use Rattle.jvm_code.specs.declared.class.Op.TheVariants as o
use Rattle.jvm_code.specs.declared.class.Width.TheVariants as w
use Rattle.jvm_code.specs.declared.types.Frame.{Frame}
use Rattle.jvm_code.specs.declared.types.VType.TheVariants as v
use Rattle.jvm_code.specs.Verification.{CodeFault, code_fault, NotTyped, NotLinked}

-- the class `erl/m/a` with one method `f__0`, and a call of `erl/Rt.integer`
abbrev pool : List Constant
pool =
    c.Gap ∷ c.Utf8 (codes "erl/m/a") ∷ c.Class 1 ∷ c.Utf8 (codes "java/lang/Object") ∷ c.Class 3 ∷ c.Utf8 (codes "f__0") ∷ c.Utf8 (codes "(Lerl/Proc;I)I") ∷ c.Utf8 (codes "Code")
    ∷ c.Utf8 (codes "erl/Rt") ∷ c.Class 8 ∷ c.Utf8 (codes "integer") ∷ c.Utf8 (codes "(J)Lerl/Term;") ∷ c.NameAndType 10 11 ∷ c.Methodref 9 12 ∷ c.Long (pos 7) ∷ c.Gap ∷ c.Methodref 2 17
    ∷ c.NameAndType 5 6 ∷ c.NameAndType 7 6 ∷ c.Methodref 2 18 ∷ []

abbrev method : ℕ → ℕ → List (ℕ × Op) → Method
method max_stack max_locals code = record { flags = 9; name = 5; descriptor = 6; code_name = 7; max_stack = max_stack; max_locals = max_locals; code = code; maps = None }

abbrev class : List (ℕ × Op) → Class
class code = record { flags = 33; pool = pool; this = 2; above = 4; methods = method 2 2 code ∷ [] }

abbrev found : ℕ → ℕ → List (ℕ × Op) → List (ℕ × Frame) → Option CodeFault
found max_stack max_locals code frames = code_fault (class code) (method max_stack max_locals code) frames

returns : found 1 2 ((0, o.ILoad w.Short 1) ∷ (1, o.IReturn) ∷ []) [] ≡ None
returns = refl

-- a reference is no integer
reference : found 1 2 ((0, o.ILoad w.Short 0) ∷ (1, o.IReturn) ∷ []) [] ≡ Some (NotTyped 0)
reference = refl

-- a Long is two places, and a call takes both
calls : found 2 3 ((0, o.Ldc2W 14) ∷ (3, o.Invoke 13) ∷ (6, o.AStore w.Short 2) ∷ (7, o.ILoad w.Short 1) ∷ (8, o.IReturn) ∷ []) [] ≡ None
calls = refl

too_deep : found 1 3 ((0, o.Ldc2W 14) ∷ (3, o.Invoke 13) ∷ (6, o.AStore w.Short 2) ∷ (7, o.ILoad w.Short 1) ∷ (8, o.IReturn) ∷ []) [] ≡ Some (NotTyped 0)
too_deep = refl

-- a call of its own method, and of one that there is not
own : found 2 2 ((0, o.ALoad w.Short 0) ∷ (1, o.ILoad w.Short 1) ∷ (2, o.Invoke 16) ∷ (5, o.IReturn) ∷ []) [] ≡ None
own = refl

unlinked : found 2 2 ((0, o.ALoad w.Short 0) ∷ (1, o.ILoad w.Short 1) ∷ (2, o.Invoke 19) ∷ (5, o.IReturn) ∷ []) [] ≡ Some (NotLinked 2)
unlinked = refl

-- control runs off the end; too few locals
runs_off : found 1 2 ((0, o.ILoad w.Short 1) ∷ []) [] ≡ Some (NotTyped 0)
runs_off = refl

few_locals : found 1 1 ((0, o.Invoke 19) ∷ []) [] ≡ Some (NotTyped 0)
few_locals = refl

abbrev here : Frame
here = record { locals = v.Class (codes "erl/Proc") ∷ v.Integer ∷ []; stack = [] }

-- a loop, with and without its frame
loops : found 1 2 ((0, o.Goto (pos 0)) ∷ []) ((0, here) ∷ []) ≡ None
loops = refl

no_frame : found 1 2 ((0, o.Goto (pos 0)) ∷ []) [] ≡ Some (NotTyped 0)
no_frame = refl

-- behind a jump the next instruction lacks its frame
lacks : found 1 2 ((0, o.Goto (pos 3)) ∷ (3, o.ILoad w.Short 1) ∷ (4, o.IReturn) ∷ []) [] ≡ Some (NotTyped 0)
lacks = refl

jumps : found 1 2 ((0, o.Goto (pos 3)) ∷ (3, o.ILoad w.Short 1) ∷ (4, o.IReturn) ∷ []) ((3, here) ∷ []) ≡ None
jumps = refl
