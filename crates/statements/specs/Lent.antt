-- The counters are lent as words, so the code's structs and answers have none: here each stands with the counters that the words are. What everything that converts
-- owes is said of these. Assumes nothing: these are definitions.
use Rattle.std.specs.Prelude.{ℕ, List, Result, Ok, Err}
use Rattle.records.specs.declared.convert_error.ConvertError.{ConvertError}
use Rattle.ir.specs.declared.structs.Counters.{Counters}
use Rattle.ir.specs.declared.structs.Operand.{Operand}
use Rattle.ir.specs.declared.structs.VarId.{VarId}
use Rattle.ir.specs.Counted.{counted}
use Rattle.scope.specs.declared.Scope.{Scope}
use Rattle.statements.specs.declared.answers.Converter as Code-Converter
use Rattle.statements.specs.declared.answers.ForVariable as Code-ForVariable

-- ---- what everything that converts takes

pub record Converter : Type 0 where
  pub scope : Scope
  pub counters : Counters
  pub operands : ℕ
  pub turn : ℕ

-- the code's struct, beside the words k
abbrev pub at : Code-Converter.Converter → List ℕ → Converter
at c k = record { scope = c.scope; counters = counted k; operands = c.operands; turn = c.turn }

-- ---- what is answered, with how far the tables are written

pub data Converted : Type 0 where
  Is : Operand → Counters → Converted
  Refused : ConvertError → Converted

pub data ConvertedArgs : Type 0 where
  Done : ℕ → Counters → ConvertedArgs
  Refused : ConvertError → ConvertedArgs

pub data Stated : Type 0 where
  Done : Scope → Counters → Stated
  Refused : ConvertError → Stated

pub data Finished : Type 0 where
  Done : Counters → Finished
  Refused : ConvertError → Finished

pub data ForVariable : Type 0 where
  Is : VarId → Scope → Counters → ForVariable
  Refused : ConvertError → ForVariable

pub record Fitted : Type 0 where
  pub operand : Operand
  pub counters : Counters

-- the code's answer, beside the words k
abbrev pub converted : List ℕ → Result Operand ConvertError → Converted
converted k (Ok o) = Converted.Is o (counted k)
converted k (Err e) = Converted.Refused e

abbrev pub converted_args : List ℕ → Result ℕ ConvertError → ConvertedArgs
converted_args k (Ok count) = ConvertedArgs.Done count (counted k)
converted_args k (Err e) = ConvertedArgs.Refused e

abbrev pub stated : List ℕ → Result Scope ConvertError → Stated
stated k (Ok sc) = Stated.Done sc (counted k)
stated k (Err e) = Stated.Refused e

abbrev pub finished_with : List ℕ → Result (Unit {0}) ConvertError → Finished
finished_with k (Ok tt) = Finished.Done (counted k)
finished_with k (Err e) = Finished.Refused e

abbrev pub found_variable : List ℕ → Result Code-ForVariable.ForVariable ConvertError → ForVariable
found_variable k (Ok x) = ForVariable.Is x.var x.scope (counted k)
found_variable k (Err e) = ForVariable.Refused e

abbrev pub fitted : List ℕ → Operand → Fitted
fitted k o = record { operand = o; counters = counted k }
