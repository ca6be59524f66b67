-- Document 01's number, place and span for each refusal. Assumes nothing: these are definitions.
use Rattle.std.specs.Prelude.{ℕ, Bool, not, ◌&&◌, List, eqb, leb, ltb}
use Rattle.laws.specs.Fix.{pick}
use Rattle.records.specs.Words.{records, word_of, span_start, span_end}
use Rattle.records.specs.declared.convert_error.ConvertErrorKind.{ConvertErrorKind}
use Rattle.records.specs.declared.convert_error.ConvertErrorKind.TheVariants.{SameSignature, SameSymbol, AlreadyDeclared, UnknownVariable, UnknownFunction, AssignToConstant, ReturnWithoutType, NoValue, MissingReturn, NoMain, MainNotInteger, WrongReturnType, WrongAssignType, WrongOperands, AmbiguousCall, LiteralOutOfRange, InvalidCast, NotBool, NotInteger, BreakOutOfLoop, ContinueOutOfLoop, LatinCharInNonLibCFunction, ExternNotLatin, BadTree, TooDeep, ShortBuffer, WouldPanic}
use Rattle.records.specs.declared.convert_error.ConvertError.{ConvertError}
use Rattle.records.specs.declared.convert_error.AnswerWords.{AnswerWords}

-- '`ConvertErrorKind` in its declared order, SameSignature 1 to ExternNotLatin 23', then the rows' own numbers
abbrev pub number_of : ConvertErrorKind → ℕ
number_of SameSignature = 1
number_of SameSymbol = 2
number_of AlreadyDeclared = 3
number_of UnknownVariable = 4
number_of UnknownFunction = 5
number_of AssignToConstant = 6
number_of ReturnWithoutType = 7
number_of NoValue = 8
number_of MissingReturn = 9
number_of NoMain = 10
number_of MainNotInteger = 11
number_of WrongReturnType = 12
number_of WrongAssignType = 13
number_of WrongOperands = 14
number_of AmbiguousCall = 15
number_of LiteralOutOfRange = 16
number_of InvalidCast = 17
number_of NotBool = 18
number_of NotInteger = 19
number_of BreakOutOfLoop = 20
number_of ContinueOutOfLoop = 21
number_of LatinCharInNonLibCFunction = 22
number_of ExternNotLatin = 23
number_of BadTree = 24
number_of TooDeep = 25
number_of ShortBuffer = 26
number_of WouldPanic = 27

-- 'the record's span (0, 0 for 24 to 26 and NoMain)': which numbers come with a span
unfoldable pub has_span : ℕ → Bool
has_span number = not (eqb number (number_of NoMain)) && not (leb (number_of BadTree) number && leb number (number_of ShortBuffer))

-- word k of the place's span, where the place is a record and the number comes with a span
unfoldable pub span_word : List ℕ → ℕ → ℕ → ℕ → ℕ
unfolding pick has_span word_of
span_word tree number place k = pick (ltb place (records tree)) (pick (has_span number) (word_of tree place k) 0) 0

-- 'An answer is the number, place and the record's span'
unfoldable pub words_of : List ℕ → ConvertError → AnswerWords
unfolding span_word
words_of tree e =
    record {
      number = number_of e.kind;
      place = e.place;
      start = span_word tree (number_of e.kind) e.place span_start;
      end = span_word tree (number_of e.kind) e.place span_end;
    }
