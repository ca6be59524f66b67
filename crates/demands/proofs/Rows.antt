-- The call row by row, as document 01's table has it: what each row answers, given that the rows before it are passed.
-- Each is the definition with its tests replaced by what they say. Assumes nothing.
use mathlib.Core.Path.{◌≡◌, refl, ap, ◌∙◌}
use Prim.Native.Nat.{ℕ}
use mathlib.Core.Bool.{Bool, true, false}
use mathlib.Core.List.{List}
use mathlib.Core.Option.{none as nothing, some}
use native.Mathlib.Omega.{arith}
use lib.Dec.{ltb}
use lib.ListN.{length}
use Rattle.laws.specs.Fix.{pick}
use Rattle.records.specs.Words.{records, none, span_start, span_end}
use Rattle.records.specs.Answer.{number_of, has_span, span_word, words_of}
use Rattle.records.specs.declared.convert_error.ConvertErrorKind.{ConvertErrorKind}
use Rattle.records.specs.declared.convert_error.ConvertErrorKind.TheVariants.{BadTree, TooDeep, ShortBuffer}
use Rattle.records.specs.declared.convert_error.ConvertError.{ConvertError}
use Rattle.judge.specs.Judge.{lengths_ok, buffers_ok, Buffers, lengths_of, lowest_fault, lowest_deep, TableRow, at_lengths, at_buffers, at_records, at_nesting, at_conversion, Verdict, RefusedBy, Passed, refused_by, at_lowest, records_verdict, verdict, verdict_in}
use Rattle.syntax.specs.Decode.{program}
use Rattle.conversion.specs.ConvertError.{ok, err}
use Rattle.conversion.specs.Ir.{IrProgram}
use Rattle.conversion.specs.Converter.{convert}
use Rattle.conversion.specs.Written as Written
use Rattle.conversion.specs.Written.{Counts, Tables, Conversion, Refused, Converted, conversion, tables_of, counts_of}
use Rattle.demands.specs.Demands.{spanless}
use Rattle.demands.specs.Call.{RefusedAt, Success, visits_in, conversion_row, judged_rows, call_of}

pick_same : (b : Bool) (n : ℕ) → pick b n n ≡ n
unfolding pick
pick_same true n = refl
pick_same false n = refl

no_span : (tree : List ℕ) (number place k : ℕ) → has_span number ≡ false → span_word tree number place k ≡ 0
unfolding span_word pick
no_span tree number place k h = rw h (pick_same (ltb place (records tree)) 0)

-- a refusal whose number comes with no span
spanless-words : (tree : List ℕ) (kind : ConvertErrorKind) (place : ℕ) → has_span (number_of kind) ≡ false
    → words_of tree (record { kind = kind; place = place }) ≡ spanless (number_of kind) place
unfolding words_of
spanless-words tree kind place h = rw (no_span tree (number_of kind) place span_start h, no_span tree (number_of kind) place span_end h) refl

bad_tree : (tree : List ℕ) (place : ℕ) → words_of tree (record { kind = BadTree; place = place }) ≡ spanless 24 place
unfolding has_span
bad_tree tree place = spanless-words tree BadTree place refl

module _ (tree text : List ℕ) (needsMain : Bool) where
  -- ---- conversion, in terms of the Rust's `convert`

  pub conversion-ok : (p : IrProgram) → convert (program tree text) needsMain ≡ ok p → conversion tree text needsMain ≡ Converted (counts_of p) (tables_of p)
  unfolding conversion Written.conversion_of
  conversion-ok p e = rw e refl

  pub conversion-err : (kind : ConvertErrorKind) (place : ℕ) → convert (program tree text) needsMain ≡ err kind place
      → conversion tree text needsMain ≡ Refused (words_of tree (record { kind = kind; place = place }))
  unfolding conversion Written.conversion_of
  conversion-err kind place e = rw e refl

  module _ (b : Buffers) where
    pub refused-first : (row : TableRow) (e : ConvertError) → verdict_in tree text b ≡ RefusedBy row e → call_of tree text needsMain b ≡ RefusedAt row (words_of tree e)
    unfolding call_of judged_rows
    refused-first row e v = rw v refl

    -- ---- 'lengths | 24'

    verdict-lengths : lengths_ok (length tree) ≡ false → verdict_in tree text b ≡ refused_by at_lengths BadTree none
    unfolding verdict_in verdict pick
    verdict-lengths e = rw e refl

    pub row-lengths : lengths_ok (length tree) ≡ false → call_of tree text needsMain b ≡ RefusedAt at_lengths (spanless 24 none)
    unfolding refused_by
    row-lengths e = refused-first at_lengths (record { kind = BadTree; place = none }) (verdict-lengths e) ∙ ap (RefusedAt at_lengths) (bad_tree tree none)

    module _ (whole : lengths_ok (length tree) ≡ true) where
      -- ---- 'buffers | 26'

      verdict-buffers : buffers_ok (records tree) (lengths_of b) (length b.scratch) ≡ false → verdict_in tree text b ≡ refused_by at_buffers ShortBuffer none
      unfolding verdict_in verdict pick
      verdict-buffers e = rw (whole, e) refl

      pub row-buffers : buffers_ok (records tree) (lengths_of b) (length b.scratch) ≡ false → call_of tree text needsMain b ≡ RefusedAt at_buffers (spanless 26 none)
      unfolding refused_by has_span
      row-buffers e = refused-first at_buffers (record { kind = ShortBuffer; place = none }) (verdict-buffers e) ∙ ap (RefusedAt at_buffers) (spanless-words tree ShortBuffer none refl)

      module _ (lent : buffers_ok (records tree) (lengths_of b) (length b.scratch) ≡ true) where
        verdict-rest : verdict_in tree text b ≡ records_verdict tree text
        unfolding verdict_in verdict pick
        verdict-rest = rw (whole, lent) refl

        -- ---- 'records | 24'

        pub row-records : (r : ℕ) → lowest_fault tree text ≡ some r → call_of tree text needsMain b ≡ RefusedAt at_records (spanless 24 r)
        unfolding records_verdict at_lowest refused_by
        row-records r e = refused-first at_records (record { kind = BadTree; place = r }) (verdict-rest ∙ rw e refl) ∙ ap (RefusedAt at_records) (bad_tree tree r)

        module _ (rules : lowest_fault tree text ≡ nothing) where
          -- ---- 'nesting | 25'

          pub row_nesting : (r : ℕ) → lowest_deep tree ≡ some r → call_of tree text needsMain b ≡ RefusedAt at_nesting (spanless 25 r)
          unfolding records_verdict at_lowest refused_by has_span
          row_nesting r e = refused-first at_nesting (record { kind = TooDeep; place = r }) (verdict-rest ∙ rw (rules, e) refl) ∙ ap (RefusedAt at_nesting) (spanless-words tree TooDeep r refl)

          pub all-passed : lowest_deep tree ≡ nothing → verdict_in tree text b ≡ Passed
          unfolding records_verdict at_lowest
          all-passed e = verdict-rest ∙ rw (rules, e) refl

    -- ---- 'conversion | 1 to 23', 'conversion | 27', and success

    module _ (passed : verdict_in tree text b ≡ Passed) where
      passed-converts : call_of tree text needsMain b ≡ conversion_row (visits_in tree text) (conversion tree text needsMain)
      unfolding call_of judged_rows
      passed-converts = rw passed refl

      pub row-conversion : (kind : ConvertErrorKind) (place : ℕ) → convert (program tree text) needsMain ≡ err kind place
          → call_of tree text needsMain b ≡ RefusedAt at_conversion (words_of tree (record { kind = kind; place = place }))
      unfolding conversion_row
      row-conversion kind place e = passed-converts ∙ ap (conversion_row (visits_in tree text)) (conversion-err kind place e)

      pub row_success : (p : IrProgram) → convert (program tree text) needsMain ≡ ok p → call_of tree text needsMain b ≡ Success (counts_of p) (visits_in tree text) (tables_of p)
      unfolding conversion_row
      row_success p e = passed-converts ∙ ap (conversion_row (visits_in tree text)) (conversion-ok p e)

    -- ---- what a success comes from

    pub success_from : (c : Counts) (n : ℕ) (t : Tables) → call_of tree text needsMain b ≡ Success c n t
        → (verdict_in tree text b ≡ Passed) × (conversion tree text needsMain ≡ Converted c t) × (n ≡ visits_in tree text)
    unfolding call_of judged_rows conversion_row
    success_from c n t e = go (verdict_in tree text b) (conversion tree text needsMain) e
      where
        go : (v : Verdict) (x : Conversion) → judged_rows tree v (conversion_row (visits_in tree text) x) ≡ Success c n t → (v ≡ Passed) × (x ≡ Converted c t) × (n ≡ visits_in tree text)
        go (RefusedBy row e) x h = let z : ◌≡◌ {A = ℕ} 0 1 = cc in absurd (omega arith)
        go Passed (Refused w) h = let z : ◌≡◌ {A = ℕ} 0 1 = cc in absurd (omega arith)
        go Passed (Converted d u) h = (refl, cc, cc)
