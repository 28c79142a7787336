-- Whether what is read is a given value.
use Rattle.std.specs.Prelude.{◌≡◌, ℕ, Bool, true, false, nat_eq, ◌&&◌, List, [], Result, Ok, Err}
use Rattle.std.specs.Cmp.Lexicographic.{pointwise}
use Rattle.jvm_code.specs.declared.class.Class.{Class}
use Rattle.jvm_code.specs.ConstantKey.{same_constant}
use Rattle.jvm_code.specs.ReadClass.{class_of, methods, none}
use Rattle.jvm_code.specs.Reader.{Got, Reader, read_as, then_read}
use Rattle.class_file.specs.declared.again.Head.{Head}
use Rattle.class_file.specs.declared.fault.ClassFault.{ClassFault}
use Rattle.class_file.specs.Gave.{Failed}
use Rattle.class_file.specs.Place.{Place}

-- it is not read
abbrev pub IsOther : {B : Type 0} → B → Got B → Type 0
IsOther x got = (at : ℕ) (rest : List ℕ) → got ≡ Ok (x, at, rest) → ⊥

-- it is read, and the place is behind it; or it is not; or the fault is the reader's
abbrev pub Matches : {B : Type 0} → B → Got B → Result Bool ClassFault → Place → Type 0
Matches x got (Ok true) new = got ≡ Ok (x, new.at, new.rest)
Matches x got (Ok false) new = IsOther x got
Matches x got (Err fault) new = Failed got fault

-- what is read behind the count of the methods
abbrev pub behind : Head → Reader Class
behind head = read_as (class_of head.pool head.flags head.this head.above) (then_read (methods head.pool [] head.count) (λ ms. read_as (λ _. ms) none))

-- what is left to be read is behind it; or the fault is the reader's
abbrev pub Heads : Got Class → Result Head ClassFault → Place → Type 0
Heads got (Ok head) new = got ≡ behind head new.at new.rest
Heads got (Err fault) new = Failed got fault

-- the class has that head
abbrev pub is_headed : Head → Class → Bool
is_headed head class =
    ((nat_eq head.flags class.flags && pointwise same_constant head.pool class.pool) && nat_eq head.this class.this) && nat_eq head.above class.above
