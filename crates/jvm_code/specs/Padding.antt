-- The padding of a switch (JVMS SE 7, 6.5, tableswitch): its operands begin at a multiple of 4 from the code's first byte.
use Rattle.std.specs.Prelude.{ℕ, ◌-◌, ◌%◌}

-- how many bytes are missing to it, behind so many bytes of code
abbrev pub pad : ℕ → ℕ
pad pc = (4 - pc % 4) % 4
