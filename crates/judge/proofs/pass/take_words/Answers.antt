-- The five words of a record are taken, one after the other.
-- Where three are unused they are compared with zero, which taking them would do too. Assumes nothing.
use mathlib.Core.Path.{◌∙◌}
use Rattle.judge.proofs.CapLaws.{larger-is}
use Rattle.judge.proofs.RoleCases.{all_unused}
use Rattle.judge.proofs.TakeLaws.{took-words, took_two}
use Rattle.judge.proofs.pass.take_words.Goals as goal

pub returns-then-is_unused : goal.returns-then-is_unused
returns-then-is_unused c = took_two _ _ _ _ _ c.requires.row_value.0 c.requires.row_value.1 _ _ _ _ _ _ _ c.take_word-ta.ensures c.take_word-tb.ensures (all_unused _ _ _ _ _ _ c.is_unused.ensures c.is_unused-2.ensures c.is_unused-3.ensures c.if-is_unused.true) _ (c.max-depth.ensures ∙ larger-is _ _)

pub returns : goal.returns
returns c = took-words _ _ _ _ _ c.requires.row_value.0 c.requires.row_value.1 _ _ _ _ _ _ _ c.take_word-ta.ensures c.take_word-tb.ensures _ _ _ _ _ _ _ _ _ c.take_word-tc.ensures c.take_word-td.ensures c.take_word-te.ensures _ _ _ _ (c.max-de.ensures ∙ larger-is _ _) (c.max-ce.ensures ∙ larger-is _ _) (c.max-be.ensures ∙ larger-is _ _) (c.max-depth-2.ensures ∙ larger-is _ _)
