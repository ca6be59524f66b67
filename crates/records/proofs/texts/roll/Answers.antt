-- From a digest on over a run of bytes. By the laws of that digest at each step. Assumes nothing.
use Rattle.std.proofs.Common.{arith, refl, ◌*◌, ◌/◌}
use Rattle.records.proofs.RollLaws.{RollLeft, roll_met, roll_on, roll_one, roll_end}
use Rattle.records.proofs.texts.roll.Goals.{else-n-i-ge-MIDDLE_STEP, else-n-i-ge-SHORT_STEP, then-n-i-ge-MIDDLE_STEP, then-n-i-ge-SHORT_STEP}
use Rattle.records.proofs.texts.roll.Goals as goal

pub loop-k-preserved : goal.loop-k-preserved
loop-k-preserved c = roll_met _ _ _ _ _ _ _ _ refl (omega arith) (roll_on _ _ _ _ c.requires.0 16 _ _ _ c.loop-k.invariant (omega arith) c.roll_sixteen-x.ensures)

pub loop-k-2-init : goal.loop-k-2-init
loop-k-2-init c =
    let past_long : RollLeft c.args.text.now c.args.d c.args.at c.args.n c.loop-k.x (16 * (c.args.n / 16)) = roll_met _ _ _ _ _ _ _ _ refl (omega arith) c.loop-k.invariant in
    let past_eight : RollLeft c.args.text.now c.args.d c.args.at c.args.n c.if-n-i-ge-MIDDLE_STEP.x c.if-n-i-ge-MIDDLE_STEP.i = elim c.if-n-i-ge-MIDDLE_STEP.branch [ then-n-i-ge-MIDDLE_STEP w ↦ roll_met _ _ _ _ _ _ _ _ w.x-is w.i-is (roll_on _ _ _ _ c.requires.0 8 _ _ _ past_long w.if-n-i-ge-MIDDLE_STEP.true w.roll_eight-x.ensures) | else-n-i-ge-MIDDLE_STEP w ↦ roll_met _ _ _ _ _ _ _ _ w.x-is w.i-is past_long ] in
    elim c.if-n-i-ge-SHORT_STEP.branch [ then-n-i-ge-SHORT_STEP w ↦ roll_met _ _ _ _ _ _ _ _ w.x-is w.i-is (roll_on _ _ _ _ c.requires.0 4 _ _ _ past_eight w.if-n-i-ge-SHORT_STEP.true w.roll_four-x.ensures) | else-n-i-ge-SHORT_STEP w ↦ roll_met _ _ _ _ _ _ _ _ w.x-is w.i-is past_eight ]

pub loop-k-2-preserved : goal.loop-k-2-preserved
loop-k-2-preserved c = roll_one _ _ _ _ c.requires.0 _ _ _ _ c.loop-k-2.invariant c.loop-k-2-test.true refl c.turned-x.ensures

pub returns : goal.returns
returns c = roll_end _ _ _ _ c.requires.0 _ _ c.loop-k-2.invariant c.loop-k-2-test.false
