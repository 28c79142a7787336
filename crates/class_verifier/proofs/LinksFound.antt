-- What is called at an index of the pool is what was found for its entry.
use Rattle.std.proofs.Common.{◌≡◌, ℕ, Bool, true, false, is_some, if◌then◌else◌, List, slice_get, codes, Option, None, Some, option_and_then, option_map, refl, sym, ap, ◌∙◌}
use Rattle.std.specs.Borrow.{Bor}
use Rattle.std.specs.Str.{bytes_eq}
use Rattle.std.proofs.lemmas.Option.{slice_get-map}
use Rattle.ej_tables.specs.Rows.{number_of}
use Rattle.jvm_code.specs.declared.class.Class.{Class}
use Rattle.jvm_code.specs.declared.class.Constant.{Constant}
use Rattle.jvm_code.specs.Instruction.{Callee, Runtime, Own, Named, callee, callee_at, is_own, method_in, method_at}
use Rattle.jvm_code.specs.Runtime.{Runtime as Method, method_entries, method_numbered, if_described, number_by}
use Rattle.jvm_code.specs.Signature as spec
use Rattle.jvm_code.specs.Typing.{signature_of}
use Rattle.class_verifier.specs.Links.{Are, called_in, joined, signature_seen}
use Rattle.class_verifier.specs.declared.links.Signature.{Signature}

joined_seen : (x : Option (Option Signature)) → option_map signature_seen (joined x) ≡ joined (option_map (option_map signature_seen) x)
joined_seen None = refl
joined_seen (Some x) = refl

signature_in : Class → Constant → Option spec.Signature
signature_in class entry = option_and_then signature_of (called_in class entry)

joined_entry : (class : Class) (x : Option Constant)
    → joined (option_map (λ entry. option_and_then signature_of (called_in class entry)) x) ≡ option_and_then signature_of (option_and_then (callee class) (option_and_then (method_in class.pool) x))
joined_entry class None = refl
joined_entry class (Some x) = refl

at_index : (class : Class) (seen : List (Option Signature)) (index : ℕ) → Are class seen
    → option_map signature_seen (joined (slice_get seen index)) ≡ option_and_then signature_of (callee_at class index)
at_index class seen index are =
    joined_seen (slice_get seen index)
    ∙ ap joined (sym (slice_get-map (option_map signature_seen) seen index) ∙ ap (λ xs. slice_get xs index) are ∙ slice_get-map (λ entry. option_and_then signature_of (called_in class entry)) class.pool index)
    ∙ joined_entry class (slice_get class.pool index)

held : (r : Option (Bor Signature)) → option_map (λ (s : Bor Signature). signature_seen s.now) r ≡ option_map signature_seen (option_map (λ (s : Bor Signature). s.now) r)
held None = refl
held (Some s) = refl

pub found : (class : Class) (seen : List (Option Signature)) (index : ℕ) (r : Option (Bor Signature)) → Are class seen
    → option_map (λ (s : Bor Signature). s.now) r ≡ joined (slice_get seen index)
    → option_map (λ (s : Bor Signature). signature_seen s.now) r ≡ option_and_then signature_of (callee_at class index)
found class seen index r are e = held r ∙ ap (option_map signature_seen) e ∙ at_index class seen index are

-- ---- what is called has a signature

-- what is called has a signature
abbrev HasOne : Option Callee → Type 0
HasOne x = is_some (option_and_then signature_of x) ≡ is_some x

has_row : (n : ℕ) (m : Option Method) → is_some m ≡ true → method_numbered n ≡ m → HasOne (Some (Runtime n))
has_row n None some e = absurd cc
has_row n (Some m) some e = ap (λ x. is_some (option_map (λ (m : Method). m.signature) x)) e

has_numbered : (n : ℕ) (text : List ℕ) (m : Option Method) → method_numbered n ≡ m → HasOne (option_map Runtime (if_described n text m))
has_numbered n text None e = refl
has_numbered n text (Some m) e = by (bytes_eq m.descriptor text)
  where
    by : (b : Bool) → HasOne (option_map Runtime (if b then Some n else None))
    by true = has_row n (Some m) refl e
    by false = refl

has_runtime : (o : Option ℕ) (text : List ℕ) → HasOne (option_map Runtime (option_and_then (λ number. if_described number text (method_numbered number)) o))
has_runtime None text = refl
has_runtime (Some n) text = has_numbered n text (method_numbered n) refl

has_own : (name : List ℕ) (b : Bool) → HasOne (if b then Some (Own name) else None)
has_own name true = refl
has_own name false = refl

has_callee : (class : Class) (m : Named) (b : Bool) → HasOne (if b then option_map Runtime (number_by m.name m.descriptor) else if is_own class m then Some (Own m.name) else None)
has_callee class m true = has_runtime (number_of m.name 0 method_entries) m.descriptor
has_callee class m false = has_own m.name (is_own class m)

has_method : (class : Class) (m : Option Named) → HasOne (option_and_then (callee class) m)
has_method class None = refl
has_method class (Some m) = has_callee class m (bytes_eq m.class (codes "erl/Rt"))

some_held : (r : Option (Bor Signature)) → is_some r ≡ is_some (option_map (λ (s : Bor Signature). signature_seen s.now) r)
some_held None = refl
some_held (Some s) = refl

pub linked : (class : Class) (seen : List (Option Signature)) (index : ℕ) (r : Option (Bor Signature)) → Are class seen
    → option_map (λ (s : Bor Signature). s.now) r ≡ joined (slice_get seen index)
    → is_some r ≡ is_some (callee_at class index)
linked class seen index r are e = some_held r ∙ ap is_some (found class seen index r are e) ∙ has_method class (method_at class.pool index)
