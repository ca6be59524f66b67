-- THE CALL keeps its promise: it judges, and converts what the judge accepts.
-- A refusal is the judge's row; an accepted tree is good, its buffers suffice, and its conversion is the definition's. Assumes nothing.
use mathlib.Core.Path.{sym, ap, ◌∙◌}
use Rattle.judge.specs.Judge.{buffers, lengths_of}
use Rattle.judge.specs.Keeps.{placed}
use Rattle.converter.proofs.CallLaws.{rows_told, first-cleared, first-kept, first-accepted, judge_refuses, judged-good, judged_some, judged-lent, promise_kept}
use Rattle.converter.proofs.convert.Goals as goal

pub returns-then-has_place : goal.returns-then-has_place
returns-then-has_place c = let start = c in
    let b = buffers c.args.instructions.now c.args.variables.now c.args.labels.now c.args.functions.now c.args.strings.now c.args.floats.now c.args.scratch.now in
    let six = c in
    let first = first-cleared _ _ b _ _ (rows_told _ _ _ (lengths_of b) _ _ _ c.lengths_of-l.ensures (c.judge_rows-judged.ensures.value, c.judge_rows-judged.ensures.judge_keeps)) _ (c.has_place.ensures ∙ ap placed (sym c.in-Err.is)) c.if-has_place.true _ _ _ _ _ _ _ (c.clear_outputs.ensures.instructions, c.clear_outputs.ensures.variables, c.clear_outputs.ensures.labels, c.clear_outputs.ensures.functions, c.clear_outputs.ensures.strings, c.clear_outputs.ensures.floats) c.clear.ensures in
    judge_refuses _ _ b _ _ first _ (λ i. (c.shared_slice_known-1.given i).fits) _ c.in-Err.is

pub returns-else-has_place : goal.returns-else-has_place
returns-else-has_place c = let start = c in
    let b = buffers c.args.instructions.now c.args.variables.now c.args.labels.now c.args.functions.now c.args.strings.now c.args.floats.now c.args.scratch.now in
    let first = first-kept _ _ b _ _ (rows_told _ _ _ (lengths_of b) _ _ _ c.lengths_of-l.ensures (c.judge_rows-judged.ensures.value, c.judge_rows-judged.ensures.judge_keeps)) _ (c.has_place.ensures ∙ ap placed (sym c.in-Err.is)) c.if-has_place.false in
    judge_refuses _ _ b _ _ first _ (λ i. (c.shared_slice_known-1.given i).fits) _ c.in-Err.is

pub convert_good-requires : goal.convert_good-requires
convert_good-requires c = let start = c in
    let b = buffers c.args.instructions.now c.args.variables.now c.args.labels.now c.args.functions.now c.args.strings.now c.args.floats.now c.args.scratch.now in
    let q = c.in_default.is in
    let first = first-accepted _ _ b _ _ (rows_told _ _ _ (lengths_of b) _ _ _ c.lengths_of-l.ensures (c.judge_rows-judged.ensures.value, c.judge_rows-judged.ensures.judge_keeps)) q in
    record { good = (judged-good _ _ b _ _ first q, judged_some _ _ b _ _ first q); seven_long = judged-lent _ _ b _ _ first q }

pub returns : goal.returns
returns c = let start = c in
    let b = buffers c.args.instructions.now c.args.variables.now c.args.labels.now c.args.functions.now c.args.strings.now c.args.floats.now c.args.scratch.now in
    let q = c.in_default.is in
    let first = first-accepted _ _ b _ _ (rows_told _ _ _ (lengths_of b) _ _ _ c.lengths_of-l.ensures (c.judge_rows-judged.ensures.value, c.judge_rows-judged.ensures.judge_keeps)) q in
    promise_kept _ _ b _ _ first _ (λ i. (c.shared_slice_known-1.given i).fits) q _ _ c.convert_good.ensures
