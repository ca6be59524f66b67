-- The boundary that C and Rust call over: an answer as bytes in a lent buffer, and what each lent buffer holds afterwards.
-- Assumes nothing: these are definitions.
use Rattle.std.specs.Prelude.{ℕ, Bool, not, List, ◌++◌, eqb, leb, length, Ok, Err}
use Rattle.laws.specs.Fix.{pick}
use Rattle.laws.specs.Splice.{splice}
use Rattle.records.specs.Words.{none, word}
use Rattle.records.specs.Answer.{words_of}
use Rattle.records.specs.declared.convert_error.AnswerWords.{AnswerWords}
use Rattle.judge.specs.Judge.{Buffers, buffers, Judged, judged_in, judge_leaves}
use Rattle.demands.specs.Call.{Answer, Refusal, Counted, call_of, answer_of, buffers_after}

-- 'An answer is the number, place and the record's span', four words, in this order
unfoldable pub answer_bytes : AnswerWords → List ℕ
unfolding word
answer_bytes a = word a.number ++ word a.place ++ word a.start ++ word a.end

-- a judged tree in document 01's words; an accepted one has number 0, no place and no span
unfoldable pub judged_words : List ℕ → Judged → AnswerWords
unfolding words_of
judged_words tree (Ok _) = record { number = 0; place = none; start = 0; end = 0 }
judged_words tree (Err e) = words_of tree e

-- how many bytes the four words of an answer take, and the eight of a conversion's
abbrev pub four_words : ℕ
four_words = 16

abbrev pub eight_words : ℕ
eight_words = 32

-- the answer fits the buffer lent for it
unfoldable pub roomy : List ℕ → Bool
roomy answer = leb four_words (length answer)

-- what the call returns: 1 where an answer was written, else 0
unfoldable pub returned : List ℕ → ℕ
unfolding roomy pick
returned answer = pick (roomy answer) 1 0

-- the buffers that a caller lends: the seven, and one for the answer
pub record Lent : Type 0 where
  pub seven : Buffers
  pub answer : List ℕ

abbrev pub lent : List ℕ → List ℕ → List ℕ → List ℕ → List ℕ → List ℕ → List ℕ → List ℕ → Lent
lent instructions variables labels functions strings floats scratch answer =
    record { seven = buffers instructions variables labels functions strings floats scratch; answer = answer }

-- the buffers once a tree was judged: the seven as the judge leaves them, and the answer's first sixteen bytes
unfoldable pub answered_in : List ℕ → List ℕ → Lent → Lent
unfolding judge_leaves splice answer_bytes judged_words judged_in
answered_in tree text b =
    record {
      seven = judge_leaves tree text b.seven;
      answer = splice b.answer 0 (answer_bytes (judged_words tree (judged_in tree text b.seven)));
    }

-- the buffers after the call; all are as found where the answer does not fit
unfoldable pub judge_call : List ℕ → List ℕ → Lent → Lent
unfolding pick roomy answered_in
judge_call tree text b = pick (roomy b.answer) (answered_in tree text b) b

-- ---- a conversion

-- the answer is eight words: 0, the six counts in document 01's order and the seventh, the visits; or number, place, span start, span end and zeros
unfoldable pub conversion_bytes : Answer → List ℕ
unfolding word answer_bytes
conversion_bytes (Refusal a) = answer_bytes a ++ (word 0 ++ word 0 ++ word 0 ++ word 0)
conversion_bytes (Counted c seventh) =
    (word 0 ++ word c.functions ++ word c.instructions ++ word c.variables) ++ (word c.labels ++ word c.strings ++ word c.floats ++ word seventh)

-- the eight words fit the buffer lent for them
unfoldable pub roomy_for_eight : List ℕ → Bool
roomy_for_eight answer = leb eight_words (length answer)

unfoldable pub returned_eight : List ℕ → ℕ
unfolding roomy_for_eight pick
returned_eight answer = pick (roomy_for_eight answer) 1 0

-- any number but 0 asks for a `main`
unfoldable pub asks_main : ℕ → Bool
asks_main n = not (eqb n 0)

-- the buffers once a tree was converted: the seven as the call's definition says, and the answer's first 32 bytes
unfoldable pub converted_in : List ℕ → List ℕ → Bool → Lent → Lent
unfolding buffers_after call_of splice conversion_bytes answer_of
converted_in tree text needsMain b =
    record {
      seven = buffers_after (call_of tree text needsMain b.seven) b.seven;
      answer = splice b.answer 0 (conversion_bytes (answer_of (call_of tree text needsMain b.seven)));
    }

-- the buffers after the call; all are as found where the answer does not fit
unfoldable pub call_converted : List ℕ → List ℕ → Bool → Lent → Lent
unfolding pick roomy_for_eight converted_in
call_converted tree text needsMain b = pick (roomy_for_eight b.answer) (converted_in tree text needsMain b) b
