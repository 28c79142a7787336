-- Bytes have one class, and a class has one byte string.
use Rattle.std.proofs.Common.{◌≡◌, ℕ, List, Result, Ok, sym, ◌∙◌}
use Rattle.jvm_code.specs.declared.class.Class.{Class}
use Rattle.jvm_code.specs.Fault.{Fault}
use Rattle.jvm_code.specs.ReadClass.{ClassOf}
use Rattle.jvm_code.specs.Spelling.{class_bytes}
use Rattle.jvm_code.proofs.ToldClass.{class_told}

pub spelled : (bytes : List ℕ) (class : Class) → ClassOf bytes class → bytes ≡ class_bytes class
spelled bytes class h = class_told bytes class h.0 h.1

same_class : (one other : Class) → Path (Result Class Fault) (Ok one) (Ok other) → one ≡ other
same_class one other e = cc

pub one_class : (bytes : List ℕ) (one other : Class) → ClassOf bytes one → ClassOf bytes other → one ≡ other
one_class bytes one other h i = same_class one other (sym h.1 ∙ i.1)

pub one_string : (one other : List ℕ) (class : Class) → ClassOf one class → ClassOf other class → one ≡ other
one_string one other class h i = spelled one class h ∙ sym (spelled other class i)
