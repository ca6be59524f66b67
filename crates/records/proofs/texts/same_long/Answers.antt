-- Eight eights at a time, then four, two and one. The laws of texts part by part. Assumes nothing.
use Rattle.std.proofs.Common.{arith, ◌∙◌, sym, ◌*◌, ◌/◌}
use Rattle.records.proofs.TextLaws.{Same, same-on, same-off, same_met}
use Rattle.records.proofs.texts.same_long.Goals.{then-n-i-ge32+else-not-same_eights-2, else-n-i-ge32, then-n-i-ge16+else-not-same_eights-3, else-n-i-ge16, then-n-i-ge8+else-not-same_eight, else-n-i-ge8}
use Rattle.records.proofs.texts.same_long.Goals as goal

pub returns-then-not-same_eights : goal.returns-then-not-same_eights
returns-then-not-same_eights c = same-off _ _ _ _ _ _ 64 _ (omega arith) c.same_eights.ensures c.if-not-same_eights.true c.loop-k.invariant

pub loop-k-preserved : goal.loop-k-preserved
loop-k-preserved c = same-on _ _ _ _ _ _ 64 _ _ (omega arith) (omega arith) c.same_eights.ensures c.if-not-same_eights.false c.loop-k.invariant

pub returns-then-not-same_eights-2 : goal.returns-then-not-same_eights-2
returns-then-not-same_eights-2 c =
    let past_long : Same c.args.s.now c.args.t.now c.args.a c.args.b c.args.n (c.args.n / 64 * 64) = same_met _ _ _ _ _ _ _ (omega arith) c.loop-k.invariant in
    same-off _ _ _ _ _ _ 32 _ c.if-n-i-ge32.true c.same_eights-then-n-i-ge32.ensures c.if-not-same_eights-2.true past_long

pub returns-then-not-same_eights-3 : goal.returns-then-not-same_eights-3
returns-then-not-same_eights-3 c =
    let past_long : Same c.args.s.now c.args.t.now c.args.a c.args.b c.args.n (c.args.n / 64 * 64) = same_met _ _ _ _ _ _ _ (omega arith) c.loop-k.invariant in
    let past_four : Same c.args.s.now c.args.t.now c.args.a c.args.b c.args.n c.if-n-i-ge32.i = elim c.if-n-i-ge32.branch [ then-n-i-ge32+else-not-same_eights-2 w ↦ same-on _ _ _ _ _ _ 32 _ _ w.i-is w.if-n-i-ge32.true w.same_eights-then-n-i-ge32.ensures w.if-not-same_eights-2.false past_long | else-n-i-ge32 w ↦ same_met _ _ _ _ _ _ _ w.i-is past_long ] in
    same-off _ _ _ _ _ _ 16 _ c.if-n-i-ge16.true c.same_eights-then-n-i-ge16.ensures c.if-not-same_eights-3.true past_four

pub returns-then-not-same_eight : goal.returns-then-not-same_eight
returns-then-not-same_eight c =
    let past_long : Same c.args.s.now c.args.t.now c.args.a c.args.b c.args.n (c.args.n / 64 * 64) = same_met _ _ _ _ _ _ _ (omega arith) c.loop-k.invariant in
    let past_four : Same c.args.s.now c.args.t.now c.args.a c.args.b c.args.n c.if-n-i-ge32.i = elim c.if-n-i-ge32.branch [ then-n-i-ge32+else-not-same_eights-2 w ↦ same-on _ _ _ _ _ _ 32 _ _ w.i-is w.if-n-i-ge32.true w.same_eights-then-n-i-ge32.ensures w.if-not-same_eights-2.false past_long | else-n-i-ge32 w ↦ same_met _ _ _ _ _ _ _ w.i-is past_long ] in
    let past_two : Same c.args.s.now c.args.t.now c.args.a c.args.b c.args.n c.if-n-i-ge16.i = elim c.if-n-i-ge16.branch [ then-n-i-ge16+else-not-same_eights-3 w ↦ same-on _ _ _ _ _ _ 16 _ _ w.i-is w.if-n-i-ge16.true w.same_eights-then-n-i-ge16.ensures w.if-not-same_eights-3.false past_four | else-n-i-ge16 w ↦ same_met _ _ _ _ _ _ _ w.i-is past_four ] in
    same-off _ _ _ _ _ _ 8 _ c.if-n-i-ge8.true c.same_eight.ensures c.if-not-same_eight.true past_two

pub returns : goal.returns
returns c =
    let past_long : Same c.args.s.now c.args.t.now c.args.a c.args.b c.args.n (c.args.n / 64 * 64) = same_met _ _ _ _ _ _ _ (omega arith) c.loop-k.invariant in
    let past_four : Same c.args.s.now c.args.t.now c.args.a c.args.b c.args.n c.if-n-i-ge32.i = elim c.if-n-i-ge32.branch [ then-n-i-ge32+else-not-same_eights-2 w ↦ same-on _ _ _ _ _ _ 32 _ _ w.i-is w.if-n-i-ge32.true w.same_eights-then-n-i-ge32.ensures w.if-not-same_eights-2.false past_long | else-n-i-ge32 w ↦ same_met _ _ _ _ _ _ _ w.i-is past_long ] in
    let past_two : Same c.args.s.now c.args.t.now c.args.a c.args.b c.args.n c.if-n-i-ge16.i = elim c.if-n-i-ge16.branch [ then-n-i-ge16+else-not-same_eights-3 w ↦ same-on _ _ _ _ _ _ 16 _ _ w.i-is w.if-n-i-ge16.true w.same_eights-then-n-i-ge16.ensures w.if-not-same_eights-3.false past_four | else-n-i-ge16 w ↦ same_met _ _ _ _ _ _ _ w.i-is past_four ] in
    let past_one : Same c.args.s.now c.args.t.now c.args.a c.args.b c.args.n c.if-n-i-ge8.i = elim c.if-n-i-ge8.branch [ then-n-i-ge8+else-not-same_eight w ↦ same-on _ _ _ _ _ _ 8 _ _ w.i-is w.if-n-i-ge8.true w.same_eight.ensures w.if-not-same_eight.false past_two | else-n-i-ge8 w ↦ same_met _ _ _ _ _ _ _ w.i-is past_two ] in
    c.same_rest.ensures ∙ sym past_one
