-- The words of a command.
use Rattle.std.specs.Prelude.{ℕ, nat_le, Bool, true, false, ◌&&◌, if◌then◌else◌, List, [], ◌∷◌, length, codes, Option, None, Some}
use Rattle.std.specs.List.{list_all}
use Rattle.std.specs.Str.{bytes_eq}

-- `compile`: where the classes go, and the sources' names
pub record Compile : Type 0 where
  pub outdir : List ℕ
  pub files : List (List ℕ)

pub data Command : Type 0 where
  ToCompile : Compile → Command
  -- the classes' names
  ToVerify : (files : List (List ℕ)) → Command

abbrev pub is_some_word : List ℕ → Bool
is_some_word [] = false
is_some_word (c ∷ word) = true

-- 1 to 1,000 files, with no empty word
abbrev pub are_files : List (List ℕ) → Bool
are_files files = nat_le 1 (length files) && nat_le (length files) 1000 && list_all is_some_word files

-- `OUTDIR FILE...`, with no empty word
abbrev pub compile_of : List (List ℕ) → Option Command
compile_of [] = None
compile_of (outdir ∷ files) =
    if is_some_word outdir && are_files files
    then Some (ToCompile (record { outdir = outdir; files = files }))
    else None

-- `CLASS...`, with no empty word
abbrev pub verify_of : List (List ℕ) → Option Command
verify_of files = if are_files files then Some (ToVerify files) else None

-- `compile OUTDIR FILE...` or `verify CLASS...`
abbrev pub command_of : List (List ℕ) → Option Command
command_of [] = None
command_of (word ∷ words) =
    if bytes_eq word (codes "compile") then compile_of words
    else if bytes_eq word (codes "verify") then verify_of words
    else None
