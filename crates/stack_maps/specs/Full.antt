-- Frames as full forms, with the indices of their classes.
use Rattle.std.specs.Prelude.{◌≡◌, ℕ, ◌-◌, ◌<◌, ◌^◌, true, if◌then◌else◌, List, [], ◌∷◌, ◌++◌, length, map, Option, None, Some}
use Rattle.std.specs.List.{list_any, AllByRecursion}
use Rattle.std.specs.Str.{bytes_eq}
use Rattle.jvm_code.specs.declared.class.Constant.{Constant}
use Rattle.jvm_code.specs.declared.types.Frame.{Frame}
use Rattle.jvm_code.specs.declared.types.VType.{VType}
use Rattle.jvm_code.specs.declared.types.VType.TheVariants as v
use Rattle.jvm_code.specs.Spelling.{u2}
use Rattle.jvm_code.specs.StackMaps as maps
use Rattle.stack_maps.specs.declared.frame.MapFrame.{MapFrame}

-- names of classes, each with the index of its entry
abbrev pub Classes : Type 0
Classes = List (List ℕ × ℕ)

-- the index of the first of that name
abbrev pub index_of : Classes → List ℕ → ℕ
index_of [] name = 0
index_of (class ∷ classes) name = if bytes_eq class.0 name then class.1 else index_of classes name

-- a class that is named is one of them
abbrev pub IsListed : Classes → VType → Type 0
IsListed classes (v.Class name) = list_any (λ (class : List ℕ × ℕ). bytes_eq class.0 name) classes ≡ true
IsListed classes _ = Unit {0}

-- a frame that can be spelled
pub record Fits (classes : Classes) (frame : Frame) : Type 0 where
  pub locals : length frame.locals < 2 ^ 16
  pub stack : length frame.stack < 2 ^ 16
  pub locals_listed : AllByRecursion (IsListed classes) frame.locals
  pub stack_listed : AllByRecursion (IsListed classes) frame.stack

abbrev pub IsBehind : Option MapFrame → MapFrame → Type 0
IsBehind None frame = Unit {0}
IsBehind (Some before) frame = before.offset < frame.offset

-- an offset has 16 bits
abbrev pub IsWithin : MapFrame → Type 0
IsWithin frame = frame.offset < 2 ^ 16

-- offsets rise, and each frame can be spelled
abbrev pub FitEach : Classes → Option MapFrame → List MapFrame → Type 0
FitEach classes before [] = Unit {0}
FitEach classes before (frame ∷ frames) = IsBehind before frame × Fits classes frame.frame × FitEach classes (Some frame) frames

-- each index is that of a Class of that name
abbrev pub Holds : List Constant → Classes → Type 0
Holds pool classes = AllByRecursion (λ (class : List ℕ × ℕ). maps.NamesClass pool class.1 class.0) classes

abbrev pub info_of : Classes → VType → maps.TypeInfo
info_of classes v.Top = maps.Top
info_of classes v.Integer = maps.Integer
info_of classes v.Long = maps.Long
info_of classes v.Null = maps.Null
info_of classes (v.Class name) = maps.Object (index_of classes name)

abbrev pub infos_of : Classes → List VType → List maps.TypeInfo
infos_of classes types = map (info_of classes) types

abbrev pub delta_behind : Option MapFrame → ℕ → ℕ
delta_behind None offset = offset
delta_behind (Some before) offset = offset - before.offset - 1

abbrev pub full_form : Classes → Option MapFrame → MapFrame → maps.Form
full_form classes before frame = maps.Full (delta_behind before frame.offset) (infos_of classes frame.frame.locals) (infos_of classes frame.frame.stack)

abbrev pub full_forms : Classes → Option MapFrame → List MapFrame → List maps.Form
full_forms classes before [] = []
full_forms classes before (frame ∷ frames) = full_form classes before frame ∷ full_forms classes (Some frame) frames

-- types with their count before them
abbrev pub counted_bytes : Classes → List VType → List ℕ
counted_bytes classes types = u2 (length types) ++ maps.infos_bytes (infos_of classes types)
