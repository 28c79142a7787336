-- What the fixed entries of a module's class name: the runtime methods, and the atom of a function clause.
use Rattle.std.proofs.Common.{◌≡◌, ℕ, List, codes, Some, refl}
use Rattle.beam_code.specs.declared.module.Module.{Module}
use Rattle.erjang_top.specs.first_path.ClassFile.{Constant}
use Rattle.erjang_top.specs.first_path.ClassProfile.{Callee, callee_at, class_at, string_at}
use Rattle.erjang_top.specs.Mangle.{class_name}
use Rattle.erjang_top.specs.first_path.ModuleClass.{pool_of}

abbrev pub runtime : List ℕ → List ℕ → Callee
runtime name descriptor = record { class = codes "erl/Rt"; name = name; descriptor = descriptor }

pub record HasRuntime (pool : List Constant) : Type 0 where
  pub take : callee_at pool 12 ≡ Some (runtime (codes "take") (codes "(Lerl/Proc;I)Lerl/Term;"))
  pub give : callee_at pool 16 ≡ Some (runtime (codes "give") (codes "(Lerl/Proc;Lerl/Term;)V"))
  pub raise : callee_at pool 20 ≡ Some (runtime (codes "raise") (codes "(Lerl/Proc;ILerl/Term;)V"))
  pub integer : callee_at pool 24 ≡ Some (runtime (codes "integer") (codes "(J)Lerl/Term;"))
  pub lit : callee_at pool 28 ≡ Some (runtime (codes "lit") (codes "(Ljava/lang/String;)Lerl/Term;"))
  pub clause : string_at pool 29 ≡ Some (codes "function_clause")

pub runtime-here : (m : Module) → HasRuntime (pool_of m)
runtime-here m = record { take = refl; give = refl; raise = refl; integer = refl; lit = refl; clause = refl }

pub name-here : (m : Module) → class_at (pool_of m) 2 ≡ Some (class_name m.name)
name-here m = refl
