-- The ways out of a call that judges first and then converts: refused by the judge, failed in conversion, converted; each is a run of the call.
-- By the rows; an accepted tree is good, its buffers are long enough, and the judge leaves scratch zero. Assumes nothing.
use mathlib.Core.Path.{◌≡◌, refl, sym, ap}
use Prim.Native.Nat.{ℕ, ◌<◌}
use mathlib.Core.Bool.{Bool}
use mathlib.Core.List.{List}
use native.Mathlib.Omega.{arith}
use lib.ListN.{length}
use Rattle.std.specs.Prelude.{Ok, Err}
use Rattle.records.specs.Words.{records}
use Rattle.records.specs.Answer.{words_of}
use Rattle.records.specs.Good.{Good}
use Rattle.records.specs.declared.convert_error.ConvertErrorKind.{ConvertErrorKind}
use Rattle.records.specs.declared.convert_error.ConvertError.{ConvertError}
use Rattle.judge.specs.Judge.{Buffers, buffers, lengths_of, at_conversion, Verdict, RefusedBy, Passed, judged_by, verdict_in, judged_in, output_after, scratch_after, verdict_leaves, judge_leaves, cleared}
use Rattle.judge.proofs.RowLaws.{Enough, enough}
use Rattle.syntax.specs.Decode.{program}
use Rattle.conversion.specs.ConvertError.{ok, err}
use Rattle.conversion.specs.Ir.{IrProgram}
use Rattle.conversion.specs.Converter.{convert}
use Rattle.conversion.specs.Written.{tables_of, counts_of}
use Rattle.demands.specs.Call.{RefusedAt, Success, visits_in, Refusal, Counted, answer_of, buffers_after, Calls}
use Rattle.demands.specs.Demands.{all_zero}
use Rattle.demands.proofs.Accepted.{judged-passed, passed-good, passed_some, passed-lent}
use Rattle.demands.proofs.Rows.{refused-first, row-conversion, row_success}
use Rattle.demands.proofs.Demands.{run_of, other-rows}

module _ (tree text : List ℕ) (needsMain : Bool) (before : Buffers) where
  -- ---- the judge refuses

  pub refused_run : (e : ConvertError) → judged_in tree text before ≡ Err e → Calls tree text needsMain before (Refusal (words_of tree e)) (judge_leaves tree text before)
  unfolding judged_in judged_by judge_leaves verdict_leaves output_after scratch_after answer_of buffers_after
  refused_run e h = go (verdict_in tree text before) refl h
    where
      go : (v : Verdict) → verdict_in tree text before ≡ v → judged_by v ≡ Err e → Calls tree text needsMain before (Refusal (words_of tree e)) (verdict_leaves (verdict_in tree text before) before)
      go (RefusedBy row f) q k =
          let z : f ≡ e = cc in
          run_of tree text needsMain before _ _ (RefusedAt row (words_of tree f)) (refused-first tree text needsMain before row f q)
          (ap (λ x. Refusal (words_of tree x)) (sym z)) (rw q refl)
      go Passed q k = let z : ◌≡◌ {A = ℕ} 0 1 = cc in absurd (omega arith)

  -- ---- the judge accepts

  module _ (accepted : judged_in tree text before ≡ Ok tt) where
    passed_in : verdict_in tree text before ≡ Passed
    unfolding judged_in
    passed_in = judged-passed (verdict_in tree text before) accepted

    pub good_in : Good tree text
    unfolding verdict_in
    good_in = passed-good tree text (lengths_of before) (length before.scratch) passed_in

    pub some_in : 0 < records tree
    unfolding verdict_in
    some_in = passed_some tree text (lengths_of before) (length before.scratch) passed_in

    pub enough_in : Enough (records tree) (lengths_of before) (length before.scratch)
    unfolding verdict_in
    enough_in = enough (records tree) (lengths_of before) (length before.scratch) (passed-lent tree text (lengths_of before) (length before.scratch) passed_in)

    -- outputs as found, scratch zero
    pub accepted-leaves : judge_leaves tree text before
        ≡ buffers before.instructions before.variables before.labels before.functions before.strings before.floats (cleared before.scratch)
    unfolding judge_leaves verdict_leaves output_after scratch_after
    accepted-leaves = rw passed_in refl

    pub failed_run : (kind : ConvertErrorKind) (place : ℕ) → convert (program tree text) needsMain ≡ err kind place
        → Calls tree text needsMain before (Refusal (words_of tree (record { kind = kind; place = place }))) (all_zero before)
    unfolding answer_of
    failed_run k r e =
        let words = words_of tree (record { kind = k; place = r }) in
        run_of tree text needsMain before _ _ (RefusedAt at_conversion words) (row-conversion tree text needsMain before passed_in k r e) refl (sym (other-rows words before).2)

    pub converted_run : (p : IrProgram) → convert (program tree text) needsMain ≡ ok p
        → Calls tree text needsMain before (Counted (counts_of p) (visits_in tree text)) (buffers_after (Success (counts_of p) (visits_in tree text) (tables_of p)) before)
    unfolding answer_of
    converted_run p e = run_of tree text needsMain before _ _ (Success (counts_of p) (visits_in tree text) (tables_of p)) (row_success tree text needsMain before passed_in p e) refl refl
