-- What the library answers of a part's bytes is what the definition says; a first byte that is not Latin tells it alone.
-- By the law of that answer, and that of a first byte. Assumes nothing.
use mathlib.Core.Path.{◌≡◌}
use Prim.Native.Nat.{◌+◌, ◌-◌}
use native.Mathlib.Omega.{arith}
use Rattle.records.specs.Words.{text_at}
use Rattle.keys.proofs.PartLaws.{first_other, latin_told}
use Rattle.keys.proofs.parts.is_ascii.Goals as goal

pub returns-then-text-p-ge128 : goal.returns-then-text-p-ge128
returns-then-text-p-ge128 c = first_other _ _ _ c.if-p-gt0.true c.requires c.if-text-p-ge128.true

pub returns : goal.returns
unfolding text_at
returns c = let z : c.args.p.offset + c.args.p.len - c.args.p.offset ≡ c.args.p.len = omega arith in
    latin_told _ _ (rw z at c.is_ascii.ensures.cases)
