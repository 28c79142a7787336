-- The ranges of the bytes that are due, as the code keeps them.
use Rattle.std.specs.Prelude.{ℕ, List, [], ◌∷◌}
use Rattle.jvm_code.specs.declared.modified_utf8.Due.{Due}
use Rattle.jvm_code.specs.declared.modified_utf8.Due.TheVariants.{Nothing, Last, Middle}

abbrev pub due_of : Due → List (ℕ × ℕ)
due_of Nothing = []
due_of (Last low high) = (low, high) ∷ []
due_of (Middle low) = (low, 191) ∷ (128, 191) ∷ []
