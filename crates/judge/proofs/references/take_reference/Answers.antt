-- A word that refers is judged by the badge of what it refers to, and counted.
-- Each way through the code is a case of `TakeLaws` and `CountLaws`. Assumes nothing.
use Rattle.judge.proofs.CountLaws.{word_full, word_more}
use Rattle.judge.proofs.TakeLaws.{took-out, took_in}
use borrow.Author.Rules.{rules}
use native.Mathlib.Omega.{arith}
use Rattle.judge.proofs.references.take_reference.Goals as goal

pub returns-then-i-r : goal.returns-then-i-r
returns-then-i-r c = λ bytes next. took-out _ _ _ _ _ _ _ c.requires.3 _ c.index-i.ensures c.if-i-r.true _ c.none_ok.ensures

pub returns-then-count-ge2 : goal.returns-then-count-ge2
returns-then-count-ge2 c = λ bytes next. took_in _ _ _ _ _ _ _ c.requires.3 _ c.index-i.ensures c.requires.2 c.requires.0 c.if-i-r.false _ _ _ _ (c.from.ensures, search rules) c.from-2.ensures c.low_badge.ensures c.high_badge.ensures _ (word_full _ _ _ _ _ _ c.index-i.ensures c.requires.3 c.if-count-ge2.true)

pub returns : goal.returns
returns c = λ bytes next. took_in _ _ _ _ _ _ _ c.requires.3 _ c.index-i.ensures c.requires.2 c.requires.0 c.if-i-r.false _ _ _ _ (c.from.ensures, search rules) c.from-2.ensures c.low_badge.ensures c.high_badge.ensures _ (word_more _ _ _ _ _ _ c.index-i.ensures c.requires.3 (omega arith) c.if-count-ge2.false)
