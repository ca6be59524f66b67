-- A word that refers to nothing is judged by its role.
-- Each arm is the definition's, over what the calls ensure. Assumes nothing.
use Rattle.records.specs.Rules.{word_ok}
use Rattle.judge.proofs.RoleCases.{plain_other}
use Rattle.judge.proofs.pass.plain_ok.Goals as goal

pub returns-in-Unused : goal.returns-in-Unused
unfolding word_ok
returns-in-Unused c = λ e tree r. rw c.in-Unused.is

pub returns-in-Text : goal.returns-in-Text
unfolding word_ok
returns-in-Text c = λ e tree r. rw (c.in-Text.is, c.index.ensures, c.index-in-Text.ensures)

pub returns-in_default : goal.returns-in_default
returns-in_default c = λ e tree r. plain_other tree _ r _ _ _ c.in_default.not-Unused c.in_default.not-Text e
