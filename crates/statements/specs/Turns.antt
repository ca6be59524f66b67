-- Document 02, point 9, over whole statements: a statement is a turn, in which each of its expressions is typed once; what was typed, and how many visits
-- were made. Assumes nothing: these are definitions.
use Rattle.expressions.specs.Answers.{OrRefused}
use Rattle.std.specs.Prelude.{◌≡◌, ℕ, ◌+◌, ◌*◌, ◌≤◌, ◌<◌, List, [], ◌++◌, Ok}
use Rattle.records.specs.Layout as Layout
use Rattle.records.specs.Layout.{end_of, type_slots}
use Rattle.records.specs.Words.{byte_at, word_of, records, A, B, C}
use Rattle.syntax.specs.Exprs.{exprs, args_exprs}
use Rattle.syntax.specs.Places.{expr_at, args_at, statement_at, block_at}
use Rattle.conversion.specs.Visits.{typed_expr, typed_args, typed_value, typed_own, statement_visits, block_visits}
use Rattle.ir.specs.declared.structs.Counters.{Counters}
use Rattle.ir.specs.declared.structs.Operand.{Operand}
use Rattle.ir.specs.declared.structs.VarId.{VarId}
use Rattle.scope.specs.declared.Scope.{Scope}
use Rattle.scope.specs.Open.{scope_at}
use Rattle.expressions.specs.Slots.{turn_at, visits_at, Remembers, Typed}
use Rattle.statements.specs.Lent.{Converter, Converted, ConvertedArgs, Stated, Finished, ForVariable}

-- ---- between two statements, where k says how far the tables are written: no turn is later than the last instruction, and no turn had more visits than
-- there are records
pub record Turns (tree s : List ℕ) (k : Counters) : Type 0 where
  pub latest : (e : ℕ) → e < records tree → turn_at tree s e ≤ k.instructions
  pub few : visits_at tree s ≤ k.instructions * records tree

-- so it is afterwards, with v visits more
pub record Visited (tree s : List ℕ) (v : ℕ) (k : Counters) (s' : List ℕ) : Type 0 where
  pub turns : Turns tree s' k
  pub visits : visits_at tree s' ≡ visits_at tree s + v

-- a turn begins: nothing was typed in it
pub record Fresh (tree s : List ℕ) (c : Converter) : Type 0 where
  pub begun : c.turn ≤ c.counters.instructions
  pub earlier : (e : ℕ) → e < records tree → turn_at tree s e < c.turn
  pub few : visits_at tree s + records tree ≤ c.turn * records tree

-- ---- within a turn

-- what was typed in it is right in the scope at hand
abbrev pub InTurn : List ℕ → List ℕ → List ℕ → Converter → Type 0
InTurn tree text s c = Remembers tree text (scope_at tree text s c.scope) c.turn s

-- the records of the list l were typed in it
abbrev pub TypedIn : List ℕ → List ℕ → Converter → List ℕ → List ℕ → List ℕ → Type 0
TypedIn tree text c s l s' = Typed tree text (scope_at tree text s c.scope) c.turn s l s'

-- nothing was typed: the slots of the types and all from the turns on are as they were
pub record TurnsStay (tree s s' : List ℕ) : Type 0 where
  pub slots : (i : ℕ) → type_slots.from * records tree ≤ i → i < end_of type_slots * records tree → byte_at s' i ≡ byte_at s i
  pub behind : (i : ℕ) → (Layout.turns).from * records tree ≤ i → byte_at s' i ≡ byte_at s i

-- which records each function of statements.rs types at a record
abbrev pub TypesAt : Type 0
TypesAt = List ℕ → List ℕ → ℕ → List ℕ

abbrev pub no_types : TypesAt
no_types tree text r = []

-- the expression e; both sides of the Binary e, or the operand of the Unary e, once its own type is had; the call e, so; the arguments that word w opens
abbrev pub expr_types : TypesAt
expr_types tree text e = typed_expr (expr_at tree text e)

abbrev pub unary_types : TypesAt
unary_types tree text e = expr_types tree text (word_of tree e A)

abbrev pub sides_types : TypesAt
sides_types tree text e = expr_types tree text (word_of tree e A) ++ expr_types tree text (word_of tree e B)

abbrev pub common_types : TypesAt
common_types tree text e = exprs (expr_at tree text (word_of tree e A)) ++ exprs (expr_at tree text (word_of tree e B))

abbrev pub binary_types : TypesAt
binary_types tree text e = common_types tree text e ++ sides_types tree text e

abbrev pub args_types : TypesAt
args_types tree text w = typed_args (args_at tree text w)

abbrev pub call_only_types : TypesAt
call_only_types tree text e = args_types tree text (word_of tree e C)

abbrev pub call_types : TypesAt
call_types tree text e = args_exprs (args_at tree text (word_of tree e C)) ++ call_only_types tree text e

-- an expression that is typed and then converted; and the other way round
abbrev pub value_types : TypesAt
value_types tree text e = typed_value (expr_at tree text e)

abbrev pub assign_types : TypesAt
assign_types tree text r = expr_types tree text (word_of tree r C) ++ exprs (expr_at tree text (word_of tree r C))

-- the value of the Init r; of the Return, If or While r; of the Return r, once its type is had
abbrev pub init_types : TypesAt
init_types tree text r = value_types tree text (word_of tree r C)

abbrev pub head_types : TypesAt
head_types tree text r = value_types tree text (word_of tree r A)

abbrev pub return_as_types : TypesAt
return_as_types tree text r = expr_types tree text (word_of tree r A)

-- the bound e, typed
abbrev pub bound_types : TypesAt
bound_types tree text e = exprs (expr_at tree text e)

-- the bounds of the For r: typed; converted, the first and the second; both typed and then converted
abbrev pub bounds_types : TypesAt
bounds_types tree text r = bound_types tree text (word_of tree r B) ++ bound_types tree text (word_of tree r C)

abbrev pub for_begin_types : TypesAt
for_begin_types tree text r = expr_types tree text (word_of tree r B)

abbrev pub for_test_types : TypesAt
for_test_types tree text r = expr_types tree text (word_of tree r C)

abbrev pub for_types : TypesAt
for_types tree text r = bounds_types tree text r ++ (for_begin_types tree text r ++ for_test_types tree text r)

-- the statement r without its blocks
abbrev pub own_types : TypesAt
own_types tree text r = typed_own (statement_at tree text r)

-- ---- what each kind of function owes where it refuses nothing

abbrev pub ConvertsTyped : TypesAt → Converter → ℕ → List ℕ → List ℕ → List ℕ → Converted → List ℕ → Type 0
ConvertsTyped types c e tree text s a s' = (o : Operand) (k : Counters) → a ≡ Converted.Is o k → TypedIn tree text c s (types tree text e) s'

abbrev pub ArgumentsTyped : TypesAt → Converter → ℕ → List ℕ → List ℕ → List ℕ → ConvertedArgs → List ℕ → Type 0
ArgumentsTyped types c w tree text s a s' = (count : ℕ) (k : Counters) → a ≡ ConvertedArgs.Done count k → TypedIn tree text c s (types tree text w) s'

abbrev pub StatesTyped : TypesAt → Converter → ℕ → List ℕ → List ℕ → List ℕ → Stated → List ℕ → Type 0
StatesTyped types c r tree text s a s' = (sc : Scope) (k : Counters) → a ≡ Stated.Done sc k → TypedIn tree text c s (types tree text r) s'

abbrev pub FinishesTyped : TypesAt → Converter → ℕ → List ℕ → List ℕ → List ℕ → Finished → List ℕ → Type 0
FinishesTyped types c r tree text s a s' = (k : Counters) → a ≡ Finished.Done k → TypedIn tree text c s (types tree text r) s'

abbrev pub VariableTyped : Converter → List ℕ → List ℕ → List ℕ → ForVariable → List ℕ → Type 0
VariableTyped c tree text s a s' = (x : VarId) (sc : Scope) (k : Counters) → a ≡ ForVariable.Is x sc k → TypedIn tree text c s [] s'

abbrev pub ChecksTyped : TypesAt → Converter → ℕ → List ℕ → List ℕ → List ℕ → OrRefused (Unit {0}) → List ℕ → Type 0
ChecksTyped types c r tree text s a s' = a ≡ Ok tt → TypedIn tree text c s (types tree text r) s'

-- the common type of the sides of the Binary e
abbrev pub CommonTyped : Converter → ℕ → List ℕ → List ℕ → List ℕ → OrRefused ℕ → List ℕ → Type 0
CommonTyped c e tree text s a s' = (y : ℕ) → a ≡ Ok y → TypedIn tree text c s (common_types tree text e) s'

-- a whole statement, as a statement's answer and as one that leaves the scope as it was; and a block
abbrev pub StatementVisited : ℕ → List ℕ → List ℕ → List ℕ → Stated → List ℕ → Type 0
StatementVisited r tree text s a s' = (sc : Scope) (k : Counters) → a ≡ Stated.Done sc k → Visited tree s (statement_visits (records tree) (statement_at tree text r)) k s'

abbrev pub FinishedVisited : ℕ → List ℕ → List ℕ → List ℕ → Finished → List ℕ → Type 0
FinishedVisited r tree text s a s' = (k : Counters) → a ≡ Finished.Done k → Visited tree s (statement_visits (records tree) (statement_at tree text r)) k s'

abbrev pub BlockVisited : ℕ → List ℕ → List ℕ → List ℕ → Finished → List ℕ → Type 0
BlockVisited w tree text s a s' = (k : Counters) → a ≡ Finished.Done k → Visited tree s (block_visits (records tree) (block_at tree text w)) k s'
