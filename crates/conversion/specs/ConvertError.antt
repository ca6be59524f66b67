-- convert_error.rs: what may fail. The kinds of error and their numbers are those of the record form. Assumes nothing: these are definitions.
use Rattle.std.specs.Prelude.{ℕ}
pub use Rattle.records.specs.declared.convert_error.ConvertErrorKind.{ConvertErrorKind}
pub use Rattle.records.specs.declared.convert_error.ConvertErrorKind.TheVariants.{SameSignature, SameSymbol, AlreadyDeclared, UnknownVariable, UnknownFunction, AssignToConstant, ReturnWithoutType, NoValue, MissingReturn, NoMain, MainNotInteger, WrongReturnType, WrongAssignType, WrongOperands, AmbiguousCall, LiteralOutOfRange, InvalidCast, NotBool, NotInteger, BreakOutOfLoop, ContinueOutOfLoop, LatinCharInNonLibCFunction, ExternNotLatin, WouldPanic}
pub use Rattle.records.specs.Answer.{number_of as number}

-- `Result<A, ConvertError>`: an error with the record whose span the Rust reports
pub data Result (A : Type 0) : Type 0 where
  ok : A → Result A
  err : ConvertErrorKind → ℕ → Result A

infixl 10 ◌>>=◌
-- the Rust's `?`
unfoldable pub ◌>>=◌ : {A B : Type 0} → Result A → (A → Result B) → Result B
◌>>=◌ (ok a) f = f a
◌>>=◌ (err k r) f = err k r
