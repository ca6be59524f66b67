-- The size of a type: of an array from its element, whose record number is lower, which is the measure.
-- Each answer is a case of `SizeCases`. Assumes nothing.
use Rattle.types.proofs.SizeCases.{array_in, array_out, promised}
use Rattle.types.proofs.size.+size.Goals as goal

pub returns-then-element-ty : goal.returns-then-element-ty
returns-then-element-ty t c = record {
  exact = (promised _ _ _
      (λ text. array_in _ text _ _ c.form.ensures c.if-form-eq-FORM_ARRAY.true _ c.reference-element.ensures c.if-element-ty.true _ c.two_words.ensures _ _ (c.size.ensures.exact text) c.times.ensures)).0;
  size = (promised _ _ _
      (λ text. array_in _ text _ _ c.form.ensures c.if-form-eq-FORM_ARRAY.true _ c.reference-element.ensures c.if-element-ty.true _ c.two_words.ensures _ _ (c.size.ensures.exact text) c.times.ensures)).1;
}

pub returns-then-form-eq-FORM_ARRAY : goal.returns-then-form-eq-FORM_ARRAY
returns-then-form-eq-FORM_ARRAY t c = record { exact = (promised _ _ _ (λ text. search array_out)).0; size = (promised _ _ _ (λ text. search array_out)).1 }

pub returns : goal.returns
returns t c = record { exact = (promised _ _ _ c.plain_size.ensures).0; size = (promised _ _ _ c.plain_size.ensures).1 }
