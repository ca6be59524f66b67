-- Two types compared by their forms, and by their words where these are one.
-- By the laws of a first number that differs or agrees, over what the calls ensure. Assumes nothing.
use native.Mathlib.Omega.{arith}
use Rattle.sorting.proofs.KeyLaws.{forms_other, three_fit, forms_same}
use Rattle.sorting.proofs.sorted.compare_types.Goals as goal

pub returns-then-i-j : goal.returns-then-i-j
returns-then-i-j c = forms_other _ _ _ _ _ c.detail-i.ensures c.detail-j.ensures c.if-i-j.true

pub overflow_add-result : goal.overflow_add-result
overflow_add-result c = omega (arith, three_fit _ _ _ _ _ c.detail-i.ensures c.detail-j.ensures c.if-i-j.false _ _ c.compare_words-words.ensures)

pub returns : goal.returns
returns c = forms_same _ _ _ _ _ c.detail-i.ensures c.detail-j.ensures c.if-i-j.false _ _ c.compare_words-words.ensures
