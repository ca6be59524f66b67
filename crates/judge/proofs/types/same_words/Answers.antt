-- Two types, of which the second is no Custom, are compared by detail, then by words.
-- Each return is a case of the definition, over what the calls ensure. Assumes nothing.
use mathlib.Core.Path.{sym, ◌∙◌}
use Rattle.records.proofs.TypeLaws.{type_detail, type-words}
use Rattle.judge.proofs.EqualLaws.{not_custom}
use Rattle.judge.proofs.types.same_words.Goals as goal

pub returns-then-detail : goal.returns-then-detail
returns-then-detail c text = type_detail _ text _ _ (λ e. c.if-detail.true (c.detail.ensures ∙ e ∙ sym c.detail-2.ensures))

pub returns : goal.returns
returns c text = rw (c.word-6.ensures, c.word-5.ensures, c.word-4.ensures, c.word-3.ensures, c.word-2.ensures, c.word.ensures)
    (type-words _ text _ _ (sym c.detail.ensures ∙ c.if-detail.false ∙ c.detail-2.ensures)
    (not_custom _ _ c.requires.r_value))
