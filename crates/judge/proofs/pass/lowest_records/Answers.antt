-- The lowest record that breaks a rule, and the lowest that is too deep.
-- The three lowest faults are put together by `FaultLaws`. Assumes nothing.
use mathlib.Core.Path.{refl, ◌∙◌}
use native.Mathlib.Omega.{arith}
use Rattle.judge.proofs.FaultLaws.{counts-told, lowest-equal, lowest-other, both_below, not-both}
use Rattle.judge.proofs.pass.lowest_records.Goals as goal

pub lowest_miscounted-once-requires : goal.lowest_miscounted-once-requires
lowest_miscounted-once-requires c = (omega (arith, c.pass-passed.ensures.fault.within, c.requires.0), omega (arith, c.pass-passed.ensures.fault.within, c.pass-passed.ensures.same, c.first_equal-equal.ensures.1, c.requires.2), counts-told _ _ _ _ c.requires.0 c.requires.1 c.pass-passed.ensures.fault _ c.pass-passed.ensures.known c.pass-passed.ensures.counting)

pub returns-then-equal-types : goal.returns-then-equal-types
returns-then-equal-types c = let below = both_below c.first_equal-equal.result c.leading_types-types.result c.lowest_miscounted-once.result c.if-equal-types.true in
    record { lowest = lowest-equal _ _ _ _ c.requires.0 c.requires.1 c.pass-passed.ensures.fault c.args.text.now refl _ c.leading_types-types.ensures _ _ c.lowest_miscounted-once.ensures c.first_equal-equal.ensures.0 below.0 below.1; lowest_2 = c.pass-passed.ensures.deep; scratch_len_unchanged = c.pass-passed.ensures.same ∙ c.first_equal-equal.ensures.1 }

pub returns : goal.returns
returns c = record { lowest = lowest-other _ _ _ _ c.requires.0 c.requires.1 c.pass-passed.ensures.fault c.args.text.now refl _ c.leading_types-types.ensures _ _ c.lowest_miscounted-once.ensures c.first_equal-equal.ensures.0 (not-both c.first_equal-equal.result c.leading_types-types.result c.lowest_miscounted-once.result c.if-equal-types.false); lowest_2 = c.pass-passed.ensures.deep; scratch_len_unchanged = c.pass-passed.ensures.same ∙ c.first_equal-equal.ensures.1 }
