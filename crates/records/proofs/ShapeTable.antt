-- A row as the code looks it up: put together from a packed one. Assumes nothing.
use mathlib.Core.Path.{◌≡◌}
use Prim.Native.Nat.{ℕ, ◌/◌, ◌%◌}
use Rattle.records.specs.declared.shape.Role.{Role}
use Rattle.records.specs.Shapes.{row, role_of, row_of}
use Rattle.records.specs.Packed.{unpacked}

-- a row put together from what `packed` and `role_of` ensure
module _ (s p : ℕ) (a b c d e : Role) where
  pub assembled : unpacked p ≡ row_of s → a ≡ role_of (p / 256 % 16) → b ≡ role_of (p / 4096 % 16) → c ≡ role_of (p / 65536 % 16)
      → d ≡ role_of (p / 1048576 % 16) → e ≡ role_of (p / 16777216 % 16) → row (p % 256) a b c d e ≡ row_of s
  unfolding unpacked
  assembled t qa qb qc qd qe = rw (qa, qb, qc, qd, qe) t
