-- What the code's places in a mangled text stand for.
use Rattle.std.specs.Prelude.{ℕ, ◌<◌, List, [], ◌∷◌, Option, None, Some}
use Rattle.jvm_code.specs.Names as spec
use Rattle.jvm_code.specs.declared.names.Place.{Place}
use Rattle.jvm_code.specs.declared.names.Place.TheVariants as code

abbrev pub place_of : Place → spec.Place
place_of code.Before = spec.Before
place_of code.Dollar = spec.Dollar
place_of (code.High digit) = spec.High digit

-- a first digit is one
abbrev pub Fits : spec.Place → Type 0
Fits spec.Before = Unit {0}
Fits spec.Dollar = Unit {0}
Fits (spec.High digit) = digit < 16

abbrev pub listed : Option ℕ → List ℕ
listed None = []
listed (Some b) = b ∷ []

abbrev pub read_of : Place × Option ℕ → spec.Place × List ℕ
read_of read = (place_of read.0, listed read.1)
