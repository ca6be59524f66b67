-- The three demands and the visits, of every run of the call; and the call's relation is a function: it has one answer and one way to leave the buffers.
-- By the rows of the call: a refusal's buffers by its row, a success's by the sizes that suffice, its runs by demand 3 on tables, its visits by what a good tree has. Assumes nothing.
use mathlib.Core.Path.{◌≡◌, refl, sym, ap, ◌∙◌, subst}
use Prim.Native.Nat.{ℕ, ◌-◌, ◌≤◌}
use mathlib.Core.Bool.{Bool, true, false}
use mathlib.Core.Option.{Option, none as nothing, some}
use mathlib.Core.List.{List}
use native.Mathlib.Omega.{arith}
use lib.ListN.{length, replicate, get_elem?, length-replicate}
use Rattle.laws.specs.All.{All}
use Rattle.laws.specs.Splice.{filled}
use Rattle.laws.proofs.Splices.{filled-length}
use Rattle.records.specs.Words.{records, none}
use Rattle.records.specs.Answer.{number_of, words_of}
use Rattle.records.specs.declared.convert_error.ConvertErrorKind.{ConvertErrorKind}
use Rattle.records.specs.declared.convert_error.ConvertErrorKind.TheVariants.{SameSignature, SameSymbol, AlreadyDeclared, UnknownVariable, UnknownFunction, AssignToConstant, ReturnWithoutType, NoValue, MissingReturn, NoMain, MainNotInteger, WrongReturnType, WrongAssignType, WrongOperands, AmbiguousCall, LiteralOutOfRange, InvalidCast, NotBool, NotInteger, BreakOutOfLoop, ContinueOutOfLoop, LatinCharInNonLibCFunction, ExternNotLatin, BadTree, TooDeep, ShortBuffer, WouldPanic}
use Rattle.records.specs.declared.convert_error.ConvertError.{ConvertError}
use Rattle.records.specs.declared.convert_error.AnswerWords.{AnswerWords}
use Rattle.judge.specs.Judge.{lengths_ok, buffers_ok, Buffers, lengths_of, lowest_fault, lowest_deep, TableRow, at_lengths, at_buffers, at_records, at_nesting, at_conversion, Verdict, RefusedBy, Passed, verdict_in, refusal_leaves}
use Rattle.judge.proofs.RowLaws.{Enough, enough}
use Rattle.syntax.specs.Decode.{program}
use Rattle.conversion.specs.ConvertError.{Result, ok, err}
use Rattle.conversion.specs.Ir.{IrProgram}
use Rattle.conversion.specs.Converter.{convert}
use Rattle.conversion.specs.Written as Written
use Rattle.conversion.specs.Written.{Counts, Tables, Converted, conversion, tables_of, counts_of}
use Rattle.conversion.proofs.Sizes.{IfOk}
use Rattle.conversion.proofs.Bytes.{Fit}
use Rattle.tables.specs.Bytes.{Byte}
use Rattle.tables.specs.Read.{Begin}
use Rattle.demands.specs.Demand3.{RunsAlike}
use Rattle.demands.specs.Call.{CallOutcome, RefusedAt, Success, visits_in, conversion_row, judged_rows, call_of, Answer, Counted, answer_of, buffers_after, Calls}
use Rattle.demands.specs.Demands.{all_zero, spanless, PastBuffers, Left, untouched, zeroed, SameLengths, Sound, InLimits, ByRows, AsTheRust, outputs_of, AllRunAlike, VisitsCounted, OfEveryCall}
use Rattle.demands.proofs.GoodLaws.{good-fits, good-visits, good-at_most}
use Rattle.demands.proofs.Demand3.{good-demand3}
use Rattle.demands.proofs.Accepted.{passed-good, passed-lent}
use Rattle.demands.proofs.Rows.{row-lengths, row-buffers, row-records, row_nesting, all-passed, row-conversion, row_success, success_from}

-- ---- the relation is a function

pub call_exists : (tree text : List ℕ) (needsMain : Bool) (before : Buffers)
    → Calls tree text needsMain before (answer_of (call_of tree text needsMain before)) (buffers_after (call_of tree text needsMain before) before)
call_exists tree text needsMain before = record { answers = refl; leaves = refl }

pub call_unique : (tree text : List ℕ) (needsMain : Bool) (before : Buffers) (a a' : Answer) (b b' : Buffers)
    → Calls tree text needsMain before a b → Calls tree text needsMain before a' b' → (a ≡ a') × (b ≡ b')
call_unique tree text needsMain before a a' b b' c d = (c.answers ∙ sym d.answers, c.leaves ∙ sym d.leaves)

-- ---- what a refusal leaves

pub rows-one_two : (words : AnswerWords) (b : Buffers) → (buffers_after (RefusedAt at_lengths words) b ≡ b) × (buffers_after (RefusedAt at_buffers words) b ≡ b)
unfolding buffers_after refusal_leaves
rows-one_two words b = (refl, refl)

pub other-rows : (words : AnswerWords) (b : Buffers)
    → (buffers_after (RefusedAt at_records words) b ≡ all_zero b) × (buffers_after (RefusedAt at_nesting words) b ≡ all_zero b) × (buffers_after (RefusedAt at_conversion words) b ≡ all_zero b)
unfolding buffers_after refusal_leaves
other-rows words b = (refl, refl, refl)

refusal-left : (row : TableRow) (words : AnswerWords) (b : Buffers) → Left b (buffers_after (RefusedAt row words) b)
refusal-left at_lengths words b = untouched (rows-one_two words b).0
refusal-left at_buffers words b = untouched (rows-one_two words b).1
refusal-left at_records words b = zeroed (other-rows words b).0
refusal-left at_nesting words b = zeroed (other-rows words b).1
refusal-left at_conversion words b = zeroed (other-rows words b).2

zero-lengths : (b : Buffers) → SameLengths b (all_zero b)
zero-lengths b = record {
  instructions = length-replicate (length b.instructions) 0;
  variables = length-replicate (length b.variables) 0;
  labels = length-replicate (length b.labels) 0;
  functions = length-replicate (length b.functions) 0;
  strings = length-replicate (length b.strings) 0;
  floats = length-replicate (length b.floats) 0;
  scratch = length-replicate (length b.scratch) 0;
}

same-lengths : (b : Buffers) → SameLengths b b
same-lengths b = record { instructions = refl; variables = refl; labels = refl; functions = refl; strings = refl; floats = refl; scratch = refl }

left-lengths : (b c : Buffers) → Left b c → SameLengths b c
left-lengths b c (untouched e) = subst (SameLengths b) (sym e) (same-lengths b)
left-lengths b c (zeroed e) = subst (SameLengths b) (sym e) (zero-lengths b)

-- ---- what a success leaves: 'These sizes always suffice'

pub tables-fit-buffers : (n : ℕ) (c : Counts) (m : ℕ) (t : Tables) (b : Buffers) → Fit n t → Enough n (lengths_of b) (length b.scratch) → SameLengths b (buffers_after (Success c m t) b)
unfolding buffers_after
tables-fit-buffers n c m t b f e = record {
  instructions = filled-length t.instructions (length b.instructions) (omega (arith, f.instructions, e.instructions));
  variables = filled-length t.variables (length b.variables) (omega (arith, f.variables, e.variables));
  labels = filled-length t.labels (length b.labels) (omega (arith, f.labels, e.labels));
  functions = filled-length t.functions (length b.functions) (omega (arith, f.functions, e.functions));
  strings = filled-length t.strings (length b.strings) (omega (arith, f.strings, e.strings));
  floats = filled-length t.floats (length b.floats) (omega (arith, f.floats, e.floats));
  scratch = length-replicate (length b.scratch) 0;
}

success_begins : (c : Counts) (m : ℕ) (t : Tables) (b : Buffers) → Begin t (outputs_of (buffers_after (Success c m t) b))
unfolding buffers_after filled
success_begins c m t b = record {
  instructions = record { rest = replicate (length b.instructions - length t.instructions) 0; same = refl };
  variables = record { rest = replicate (length b.variables - length t.variables) 0; same = refl };
  labels = record { rest = replicate (length b.labels - length t.labels) 0; same = refl };
  functions = record { rest = replicate (length b.functions - length t.functions) 0; same = refl };
  strings = record { rest = replicate (length b.strings - length t.strings) 0; same = refl };
  floats = record { rest = replicate (length b.floats - length t.floats) 0; same = refl };
}

-- ---- a refusal's number

number_range : (k : ConvertErrorKind) → (1 ≤ number_of k) × (number_of k ≤ 27)
number_range SameSignature = omega arith
number_range SameSymbol = omega arith
number_range AlreadyDeclared = omega arith
number_range UnknownVariable = omega arith
number_range UnknownFunction = omega arith
number_range AssignToConstant = omega arith
number_range ReturnWithoutType = omega arith
number_range NoValue = omega arith
number_range MissingReturn = omega arith
number_range NoMain = omega arith
number_range MainNotInteger = omega arith
number_range WrongReturnType = omega arith
number_range WrongAssignType = omega arith
number_range WrongOperands = omega arith
number_range AmbiguousCall = omega arith
number_range LiteralOutOfRange = omega arith
number_range InvalidCast = omega arith
number_range NotBool = omega arith
number_range NotInteger = omega arith
number_range BreakOutOfLoop = omega arith
number_range ContinueOutOfLoop = omega arith
number_range LatinCharInNonLibCFunction = omega arith
number_range ExternNotLatin = omega arith
number_range BadTree = omega arith
number_range TooDeep = omega arith
number_range ShortBuffer = omega arith
number_range WouldPanic = omega arith

abbrev Ranged : AnswerWords → Type 0
Ranged w = (1 ≤ w.number) × (w.number ≤ 27)

words_ranged : (tree : List ℕ) (e : ConvertError) (w : AnswerWords) → words_of tree e ≡ w → Ranged w
unfolding words_of
words_ranged tree e w h = subst (λ x. Ranged x) h (number_range e.kind)

module _ (tree text : List ℕ) (needsMain : Bool) (before : Buffers) where
  refusal_ranged : (row : TableRow) (w : AnswerWords) → call_of tree text needsMain before ≡ RefusedAt row w → Ranged w
  unfolding call_of judged_rows conversion_row conversion Written.conversion_of
  refusal_ranged row w e = go (verdict_in tree text before) (convert (program tree text) needsMain) e
    where
      go : (v : Verdict) (x : Result IrProgram) → judged_rows tree v (conversion_row (visits_in tree text) (Written.conversion_of tree x)) ≡ RefusedAt row w → Ranged w
      go (RefusedBy r f) x h = words_ranged tree f w (cc)
      go Passed (err k r) h = words_ranged tree (record { kind = k; place = r }) w (cc)
      go Passed (ok p) h = let z : ◌≡◌ {A = ℕ} 0 1 = cc in absurd (omega arith)

  -- the tables of a success have room
  success_fits : (c : Counts) (m : ℕ) (t : Tables) → call_of tree text needsMain before ≡ Success c m t → SameLengths before (buffers_after (Success c m t) before)
  unfolding verdict_in conversion Written.conversion_of
  success_fits c m t e =
      let h = success_from tree text needsMain before c m t e in
      let good = passed-good tree text (lengths_of before) (length before.scratch) h.0 in
      let lent = enough (records tree) (lengths_of before) (length before.scratch) (passed-lent tree text (lengths_of before) (length before.scratch) h.0) in
      tables-fit-buffers (records tree) c m t before (go (convert (program tree text) needsMain) (good-fits tree text good needsMain) h.1) lent
    where
      go : (x : Result IrProgram) → IfOk (λ p. Fit (records tree) (tables_of p)) x → Written.conversion_of tree x ≡ Converted c t → Fit (records tree) t
      go (ok p) f h = let z : tables_of p ≡ t = cc in subst (Fit (records tree)) z f
      go (err k r) f h = let z : ◌≡◌ {A = ℕ} 0 1 = cc in absurd (omega arith)

  -- ---- the demands

  module _ (answer : Answer) (after : Buffers) (calls : Calls tree text needsMain before answer after) where
    pub call_sound : Sound before answer after
    unfolding answer_of buffers_after
    call_sound = go (call_of tree text needsMain before) refl calls.answers calls.leaves
      where
        go : (o : CallOutcome) → call_of tree text needsMain before ≡ o → answer ≡ answer_of o → after ≡ buffers_after o before → Sound before answer after
        go (RefusedAt row w) e a l =
            let so : Left before after = subst (Left before) (sym l) (refusal-left row w before) in
            record {
              lengths = left-lengths before after so;
              numbered = λ x h. let z : w ≡ x = cc in subst (λ y. Ranged y) z (refusal_ranged row w e);
              left = λ x h. so;
              converted = λ c m h. let z : ◌≡◌ {A = ℕ} 0 1 = cc in absurd (omega arith);
            }
        go (Success c m t) e a l = record {
          lengths = subst (SameLengths before) (sym l) (success_fits c m t e);
          numbered = λ x h. let z : ◌≡◌ {A = ℕ} 0 1 = cc in absurd (omega arith);
          left = λ x h. let z : ◌≡◌ {A = ℕ} 0 1 = cc in absurd (omega arith);
          converted = λ d n h. ap (λ b. b.scratch) l;
        }

    -- the outcome is known, and so are answer and buffers
    comes-to : (o : CallOutcome) → call_of tree text needsMain before ≡ o → (answer ≡ answer_of o) × (after ≡ buffers_after o before)
    comes-to o e = (calls.answers ∙ ap answer_of e, calls.leaves ∙ ap (λ x. buffers_after x before) e)

    pub call-by-rows : ByRows tree text before answer after
    unfolding answer_of
    call-by-rows = record {
      by_lengths = λ e. let o = comes-to _ (row-lengths tree text needsMain before e) in (o.0, o.1 ∙ (rows-one_two _ before).0);
      by_buffers = λ w e. let o = comes-to _ (row-buffers tree text needsMain before w e) in (o.0, o.1 ∙ (rows-one_two _ before).1);
      by_records = λ l r e. let o = comes-to _ (row-records tree text needsMain before l.whole l.room r e) in (o.0, o.1 ∙ (other-rows _ before).0);
      by_nesting = λ l k r e. let o = comes-to _ (row_nesting tree text needsMain before l.whole l.room k r e) in (o.0, o.1 ∙ (other-rows _ before).1);
    }

    pub call_as_rust : InLimits tree text before → AsTheRust tree text needsMain before answer after
    unfolding answer_of buffers_after
    call_as_rust w =
        let passed = all-passed tree text needsMain before w.lent.whole w.lent.room w.rules w.shallow in
        record {
          bodies = λ p e. comes-to _ (row_success tree text needsMain before passed p e);
          error = λ k r e. let o = comes-to _ (row-conversion tree text needsMain before passed k r e) in (o.0, o.1 ∙ (other-rows (words_of tree (record { kind = k; place = r })) before).2);
        }

    -- DEMAND 3 of the buffers as the call leaves them: its premise is the contract's own relation
    pub call-runs-alike : (W : Type 0) → All Byte tree → (c : Counts) (m : ℕ) → answer ≡ Counted c m → AllRunAlike W tree text c after
    unfolding answer_of verdict_in
    call-runs-alike W bytes c m h i f b = go (call_of tree text needsMain before) refl calls.answers calls.leaves
      where
        go : (o : CallOutcome) → call_of tree text needsMain before ≡ o → answer ≡ answer_of o → after ≡ buffers_after o before
            → get_elem? (program tree text).functions i ≡ some f → f.body ≡ some b → RunsAlike W tree text c (outputs_of after) i f b
        go (RefusedAt row w) e a l = let z : ◌≡◌ {A = ℕ} 0 1 = cc in absurd (omega arith)
        go (Success d n t) e a l =
            let from = success_from tree text needsMain before d n t e in
            let z : d ≡ c = cc in
            good-demand3 W tree text needsMain bytes (passed-good tree text (lengths_of before) (length before.scratch) from.0) c t (outputs_of after)
            (rw z at from.1)
            (subst (λ x. Begin t (outputs_of x)) (sym l) (success_begins d n t before)) i f b

    -- VISITS: a tree that was converted is good
    pub call-visits : (c : Counts) (m : ℕ) → answer ≡ Counted c m → VisitsCounted tree text m
    unfolding answer_of verdict_in
    call-visits c m h = go (call_of tree text needsMain before) refl calls.answers
      where
        go : (o : CallOutcome) → call_of tree text needsMain before ≡ o → answer ≡ answer_of o → VisitsCounted tree text m
        go (RefusedAt row w) e a = let z : ◌≡◌ {A = ℕ} 0 1 = cc in absurd (omega arith)
        go (Success d n t) e a =
            let from = success_from tree text needsMain before d n t e in
            let good = passed-good tree text (lengths_of before) (length before.scratch) from.0 in
            let z : m ≡ n = cc in
            record {
              at_most = good-at_most tree text good;
              total = z ∙ from.2 ∙ sym (good-visits tree text good);
              typed = z ∙ from.2;
            }

-- THE DEMANDS
pub every_call : OfEveryCall
every_call W tree text needsMain before answer after calls = record {
  demand1 = (call_sound tree text needsMain before answer after calls, call-by-rows tree text needsMain before answer after calls);
  demand2 = call_as_rust tree text needsMain before answer after calls;
  demand3 = call-runs-alike tree text needsMain before answer after calls W;
  visits_counted = call-visits tree text needsMain before answer after calls;
}

-- ---- nothing is lost on the page: what keeps demands 1 and 2 is a run of the call

module _ (tree text : List ℕ) (needsMain : Bool) (before : Buffers) (answer : Answer) (after : Buffers) where
  pub run_of : (o : CallOutcome) → call_of tree text needsMain before ≡ o → answer ≡ answer_of o → after ≡ buffers_after o before → Calls tree text needsMain before answer after
  run_of o e a l = record { answers = a ∙ ap answer_of (sym e); leaves = l ∙ ap (λ x. buffers_after x before) (sym e) }

  module _ (rows : ByRows tree text before answer after) (rust : InLimits tree text before → AsTheRust tree text needsMain before answer after) where
    converts : (limits : InLimits tree text before) (x : Result IrProgram) → convert (program tree text) needsMain ≡ x → Calls tree text needsMain before answer after
    unfolding answer_of buffers_after
    converts w (ok p) e =
        let passed = all-passed tree text needsMain before w.lent.whole w.lent.room w.rules w.shallow in
        let o = (rust w).bodies p e in
        run_of (Success (counts_of p) (visits_in tree text) (tables_of p)) (row_success tree text needsMain before passed p e) o.0 o.1
    converts w (err k r) e =
        let passed = all-passed tree text needsMain before w.lent.whole w.lent.room w.rules w.shallow in
        let o = (rust w).error k r e in
        let words = words_of tree (record { kind = k; place = r }) in
        run_of (RefusedAt at_conversion words) (row-conversion tree text needsMain before passed k r e) o.0 (o.1 ∙ sym (other-rows words before).2)

    lent_run : PastBuffers tree before → (f d : Option ℕ) → lowest_fault tree text ≡ f → lowest_deep tree ≡ d → Calls tree text needsMain before answer after
    unfolding answer_of
    lent_run l (some r) d e h =
        let o = rows.by_records l r e in
        run_of (RefusedAt at_records (spanless 24 r)) (row-records tree text needsMain before l.whole l.room r e) o.0 (o.1 ∙ sym (other-rows (spanless 24 r) before).0)
    lent_run l nothing (some r) e h =
        let o = rows.by_nesting l e r h in
        run_of (RefusedAt at_nesting (spanless 25 r)) (row_nesting tree text needsMain before l.whole l.room e r h) o.0 (o.1 ∙ sym (other-rows (spanless 25 r) before).1)
    lent_run l nothing nothing e h = converts (record { lent = l; rules = e; shallow = h }) (convert (program tree text) needsMain) refl

    pub page_calls : Calls tree text needsMain before answer after
    unfolding answer_of
    page_calls = go (lengths_ok (length tree)) (buffers_ok (records tree) (lengths_of before) (length before.scratch)) refl refl
      where
        go : (a b : Bool) → lengths_ok (length tree) ≡ a → buffers_ok (records tree) (lengths_of before) (length before.scratch) ≡ b → Calls tree text needsMain before answer after
        go false b e h =
            let o = rows.by_lengths e in
            run_of (RefusedAt at_lengths (spanless 24 none)) (row-lengths tree text needsMain before e) o.0 (o.1 ∙ sym (rows-one_two (spanless 24 none) before).0)
        go true false e h =
            let o = rows.by_buffers e h in
            run_of (RefusedAt at_buffers (spanless 26 none)) (row-buffers tree text needsMain before e h) o.0 (o.1 ∙ sym (rows-one_two (spanless 26 none) before).1)
        go true true e h = lent_run (record { whole = e; room = h }) (lowest_fault tree text) (lowest_deep tree) refl refl
