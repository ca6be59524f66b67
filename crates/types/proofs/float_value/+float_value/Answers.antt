-- The value of an expression record, by its kind; the record number falls, which is the measure.
-- Each answer is a case of `ValueCases`. Assumes nothing.
use Rattle.types.proofs.ValueCases.{float_is, float_unary, float_unary-out, float_binary_lem, float_right_out, float_left_out, float_other}
use Rattle.types.proofs.float_value.+float_value.Goals as goal

pub returns-then-k-eq-KIND_FLOAT : goal.returns-then-k-eq-KIND_FLOAT
returns-then-k-eq-KIND_FLOAT t c text = float_is _ text _ _ c.kind-k.ensures c.if-k-eq-KIND_FLOAT.true _ c.two_words.ensures _ c.from_bits.ensures

pub returns-then-a-r : goal.returns-then-a-r
returns-then-a-r t c text = float_unary _ text _ _ c.kind-k.ensures c.if-k-eq-KIND_UNARY.true _ c.reference-a.ensures c.if-a-r.true _ c.detail.ensures _ _ (c.float_value.ensures text) c.fold_neg.ensures

pub returns-then-k-eq-KIND_UNARY : goal.returns-then-k-eq-KIND_UNARY
returns-then-k-eq-KIND_UNARY t c text = float_unary-out _ text _ _ c.kind-k.ensures c.if-k-eq-KIND_UNARY.true _ c.reference-a.ensures c.if-a-r.false

pub returns-then-b-r : goal.returns-then-b-r
returns-then-b-r t c text = float_binary_lem _ text _ _ c.kind-k.ensures c.if-k-eq-KIND_BINARY.true _ c.reference-a-then-k-eq-KIND_BINARY.ensures _ c.reference-b.ensures c.if-a-r-2.true c.if-b-r.true _ c.detail-then-b-r.ensures _ _ _ (c.float_value-then-b-r.ensures text) (c.float_value-then-b-r-2.ensures text) c.fold_binary.ensures

pub returns-else-b-r : goal.returns-else-b-r
returns-else-b-r t c text = float_right_out _ text _ _ c.kind-k.ensures c.if-k-eq-KIND_BINARY.true _ c.reference-a-then-k-eq-KIND_BINARY.ensures _ c.reference-b.ensures c.if-b-r.false

pub returns-else-a-r-2 : goal.returns-else-a-r-2
returns-else-a-r-2 t c text = float_left_out _ text _ _ c.kind-k.ensures c.if-k-eq-KIND_BINARY.true _ c.reference-a-then-k-eq-KIND_BINARY.ensures _ c.reference-b.ensures c.if-a-r-2.false

pub returns : goal.returns
returns t c text = float_other _ text _ _ c.kind-k.ensures c.if-k-eq-KIND_FLOAT.false c.if-k-eq-KIND_UNARY.false c.if-k-eq-KIND_BINARY.false
