-- What the functions on magnitudes answer: a magnitude is the bits of an `Int128`, read as an unsigned number.
use Rattle.std.specs.Prelude.{◌≡◌, ℕ, ◌^◌, ◌≤◌, Option, Some, None}
use Rattle.int128.specs.declared.Int128.{Int128}
use Rattle.int128.specs.Value.{bits_of}

-- p holds n, or nothing where n is 2 ^ 128 or more
abbrev pub IsProduct : ℕ → Option Int128 → Type 0
IsProduct n (Some x) = bits_of x ≡ n
IsProduct n None = 2 ^ 128 ≤ n
