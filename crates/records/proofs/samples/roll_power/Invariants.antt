-- The power of n bytes, byte by byte. The invariant: the power of the bytes passed.
-- One step of the definition at each turn. Assumes nothing.
use Rattle.std.proofs.Common.{◌≡◌, ◌<◌}
use Rattle.records.specs.Samples.{roll_power}
use Rattle.records.proofs.samples.roll_power.Given as goal

abbrev pub invariant-loop-i : goal.invariant-loop-i
invariant-loop-i l = (l.x ≡ roll_power l._i) × (l.x < 4294967291)
