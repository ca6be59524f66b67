-- The words of an answer, by the case that the match met. Assumes nothing.
use mathlib.Core.Path.{sym, ap, ◌∙◌}
use Rattle.rudderplum.specs.Boundary.{judged_words}
use Rattle.rudderplum.proofs.answer_words.Goals as goal

pub returns-in-Ok : goal.returns-in-Ok
unfolding judged_words
returns-in-Ok c = sym (ap (judged_words _) c.in-Ok.is)

pub returns-in-Err : goal.returns-in-Err
unfolding judged_words
returns-in-Err c = c.words_of.ensures ∙ sym (ap (judged_words _) c.in-Err.is)
