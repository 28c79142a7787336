-- The characters of a file: by UTF-8 where the whole file is UTF-8 (RFC 3629), else each byte is one, by Latin-1.
use Rattle.std.specs.Prelude.{ℕ, if◌then◌else◌, List}
use Rattle.std.specs.Str.{chars, is_utf8}

abbrev pub characters : List ℕ → List ℕ
characters bytes = if is_utf8 bytes then chars bytes else bytes
