-- The value of an expression record, by its kind; the record number falls, which is the measure.
-- Each answer is a case of `ValueCases`. Assumes nothing.
use Rattle.types.proofs.ValueCases.{int_is, int_unary, int_unary-out, int_binary, int_right_out, int_left_out, int_other}
use Rattle.types.proofs.int_value.+int_value.Goals as goal

pub returns-then-k-eq-KIND_INT : goal.returns-then-k-eq-KIND_INT
returns-then-k-eq-KIND_INT t c text = int_is _ text _ _ c.kind-k.ensures c.if-k-eq-KIND_INT.true _ c.two_words.ensures c.from_i64_bits.result c.from_i64_bits.ensures

pub returns-then-a-r : goal.returns-then-a-r
returns-then-a-r t c text = int_unary _ text _ _ c.kind-k.ensures c.if-k-eq-KIND_UNARY.true _ c.reference-a.ensures c.if-a-r.true _ c.detail.ensures c.int_value.result c.fold_unary.result (c.int_value.ensures text) c.fold_unary.ensures

pub returns-then-k-eq-KIND_UNARY : goal.returns-then-k-eq-KIND_UNARY
returns-then-k-eq-KIND_UNARY t c text = int_unary-out _ text _ _ c.kind-k.ensures c.if-k-eq-KIND_UNARY.true _ c.reference-a.ensures c.if-a-r.false

pub returns-then-b-r : goal.returns-then-b-r
returns-then-b-r t c text = int_binary _ text _ _ c.kind-k.ensures c.if-k-eq-KIND_BINARY.true _ c.reference-a-then-k-eq-KIND_BINARY.ensures _ c.reference-b.ensures c.if-a-r-2.true c.if-b-r.true _ c.detail-then-b-r.ensures c.int_value-then-b-r.result c.int_value-then-b-r-2.result c.fold_binary.result (c.int_value-then-b-r.ensures text) (c.int_value-then-b-r-2.ensures text) c.fold_binary.ensures

pub returns-else-b-r : goal.returns-else-b-r
returns-else-b-r t c text = int_right_out _ text _ _ c.kind-k.ensures c.if-k-eq-KIND_BINARY.true _ c.reference-a-then-k-eq-KIND_BINARY.ensures _ c.reference-b.ensures c.if-b-r.false

pub returns-else-a-r-2 : goal.returns-else-a-r-2
returns-else-a-r-2 t c text = int_left_out _ text _ _ c.kind-k.ensures c.if-k-eq-KIND_BINARY.true _ c.reference-a-then-k-eq-KIND_BINARY.ensures _ c.reference-b.ensures c.if-a-r-2.false

pub returns : goal.returns
returns t c text = int_other _ text _ _ c.kind-k.ensures c.if-k-eq-KIND_INT.false c.if-k-eq-KIND_UNARY.false c.if-k-eq-KIND_BINARY.false
