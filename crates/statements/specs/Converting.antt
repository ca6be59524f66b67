-- What everything that converts needs of tree, tables and scratch, what it may still add, and what it leaves of the scratch.
-- Assumes nothing: these are definitions.
use Rattle.std.specs.Prelude.{◌≡◌, ℕ, ◌+◌, ◌*◌, ◌≤◌, ◌<◌, List, length}
use Rattle.std.proofs.Math.Option.{some}
use Rattle.records.specs.Layout as Layout
use Rattle.records.specs.Layout.{end_of, judging, open_names, name_slots}
use Rattle.records.specs.Words.{byte_at, word_of, records}
use Rattle.syntax.specs.Count.{under, args_under, args_values, statement_records, block_records}
use Rattle.syntax.specs.Places.{expr_at, args_at, statement_at, block_at, TypeAt, FunctionAt}
use Rattle.conversion.specs.Ir as Ir
use Rattle.conversion.specs.Ir.{OVar, OInt, OFloat, OBool, ODataAddress, ONull}
use Rattle.ir.specs.declared.structs.Counters.{Counters}
use Rattle.ir.specs.Arena.{Room}
use Rattle.ir.specs.Amounts.{Amount, amount, Affords}
use Rattle.scope.specs.Open.{open_name_at, loop_number}
use Rattle.expressions.specs.Slots.{Original, Ready}
use Rattle.statements.specs.Lent.{Converter}
use Rattle.statements.specs.Stack.{stack_entry_at, operand_at}

-- the innermost loop of a scope, where there is one, is a record of the tree
abbrev pub LoopIn : List ℕ → ℕ → Type 0
LoopIn tree w = (r : ℕ) → loop_number w ≡ some r → r < records tree

-- the functions by key and the scope stand in scratch, the tables in the arena
pub record Converting (tree text l s : List ℕ) (c : Converter) : Type 0 where
  pub ready : Ready tree text s c.scope
  pub function : FunctionAt tree c.scope.function
  pub loop : LoopIn tree c.scope.inner
  pub records_are : c.counters.records ≡ records tree
  pub room : Room c.counters l

-- the same, further on in the tables
abbrev pub with_counters : Converter → Counters → Converter
with_counters c k = record { scope = c.scope; counters = k; operands = c.operands; turn = c.turn }

-- the type of a variable is one of the tree's
unfoldable pub OperandIn : List ℕ → Ir.Operand → Type 0
OperandIn tree (OVar x) = TypeAt tree x.ty
OperandIn tree (OInt v short unsigned) = Unit {0}
OperandIn tree (OFloat i) = Unit {0}
OperandIn tree (OBool b) = Unit {0}
OperandIn tree (ODataAddress i) = Unit {0}
OperandIn tree ONull = Unit {0}

-- so for `count` entries of the stack from entry j on
abbrev pub StackIn : List ℕ → List ℕ → ℕ → ℕ → Type 0
StackIn tree s j count = (i : ℕ) → j ≤ i → i < j + count → OperandIn tree (operand_at s (records tree) i)

-- ---- what may still be added

-- the tables have room, and so much more
pub record RoomFor (k : Counters) (l : List ℕ) (n : Amount) : Type 0 where
  pub room : Room k l
  pub affords : Affords k n

-- by an expression of u records below its own
abbrev pub expr_amount : ℕ → Amount
expr_amount u = amount (4 * u + 1) (3 * u + 1) (3 * u) (u + 1) (2 * u + 1)

-- by the values of a call: v of them, with u records below their own
abbrev pub args_amount : ℕ → ℕ → Amount
args_amount u v = amount (4 * u + v) (3 * u + v) (3 * u) (u + v) (2 * u + v)

-- by a statement of n records behind its comment
abbrev pub behind_amount : ℕ → Amount
behind_amount n = amount (4 * n + 3) (3 * n + 3) (3 * n + 3) (n + 1) (2 * n + 2)

-- by the head of an If or a While whose condition has u records below its own; by a bound of a For of u; by both
abbrev pub head_amount : ℕ → Amount
head_amount u = amount (4 * u + 3) (3 * u + 1) (3 * u + 2) (u + 1) (2 * u + 1)

abbrev pub turns_amount : ℕ → Amount
turns_amount u = amount (4 * u + 7) (3 * u + 3) (3 * u + 3) (u + 1) (2 * u + 2)

abbrev pub for_head_amount : ℕ → Amount
for_head_amount u = amount (4 * u + 14) (3 * u + 6) (3 * u + 6) (u + 2) (2 * u + 4)

-- by a block of n records
abbrev pub block_amount : ℕ → Amount
block_amount n = amount (4 * n) (3 * n) (3 * n) n (2 * n)

-- by a statement of n records, which has a list cell besides: a block of n + 1
abbrev pub statement_amount : ℕ → Amount
statement_amount n = block_amount (n + 1)

-- there is room for the amount, for q operands more on the stack, and for m names more
pub record Afforded (tree : List ℕ) (c : Converter) (n : Amount) (q m : ℕ) : Type 0 where
  pub tables : Affords c.counters n
  pub stack : c.operands + q ≤ records tree
  pub names : c.scope.names + m ≤ records tree

abbrev pub ExprAfforded : List ℕ → List ℕ → Converter → ℕ → Type 0
ExprAfforded tree text c e = Afforded tree c (expr_amount (under (expr_at tree text e))) (under (expr_at tree text e)) 0

-- for the part of the For r that converts the bound in word w
abbrev pub BoundAfforded : List ℕ → List ℕ → Converter → ℕ → ℕ → Type 0
BoundAfforded tree text c r w =
    Afforded tree c (turns_amount (under (expr_at tree text (word_of tree r w)))) (under (expr_at tree text (word_of tree r w))) 0

abbrev pub ArgsAfforded : List ℕ → List ℕ → Converter → ℕ → Type 0
ArgsAfforded tree text c w =
    Afforded tree c (args_amount (args_under (args_at tree text w)) (args_values (args_at tree text w)))
    (args_under (args_at tree text w) + args_values (args_at tree text w)) 0

abbrev pub StatementAfforded : List ℕ → List ℕ → Converter → ℕ → Type 0
StatementAfforded tree text c r =
    Afforded tree c (statement_amount (statement_records (statement_at tree text r))) (statement_records (statement_at tree text r)) (statement_records (statement_at tree text r))

abbrev pub BehindAfforded : List ℕ → List ℕ → Converter → ℕ → Type 0
BehindAfforded tree text c r =
    Afforded tree c (behind_amount (statement_records (statement_at tree text r))) (statement_records (statement_at tree text r)) (statement_records (statement_at tree text r))

abbrev pub BlockAfforded : List ℕ → List ℕ → Converter → ℕ → Type 0
BlockAfforded tree text c w =
    Afforded tree c (block_amount (block_records (block_at tree text w))) (block_records (block_at tree text w)) (block_records (block_at tree text w))

-- ---- what stays of the scratch

-- the functions' records, the first `names` open names, the first `operands` of the stack, and the regions behind it up to the slots of names; each of those
-- names that its slot tells is told by it still. Only slots of types and their turns, names that were not open, slots of texts that no open name has and
-- operands that did not wait may differ
pub record Stays (tree : List ℕ) (names operands : ℕ) (s s' : List ℕ) : Type 0 where
  pub long : length s' ≡ length s
  pub listed : (i : ℕ) → i < end_of judging * records tree → byte_at s' i ≡ byte_at s i
  pub names_open : (i : ℕ) → open_names.from * records tree ≤ i → i < open_name_at (records tree) names → i < end_of open_names * records tree → byte_at s' i ≡ byte_at s i
  pub stack : (i : ℕ) → (Layout.operands).from * records tree ≤ i → i < stack_entry_at (records tree) operands → i < end_of Layout.operands * records tree → byte_at s' i ≡ byte_at s i
  pub behind : (i : ℕ) → end_of Layout.operands * records tree ≤ i → i < name_slots.from * records tree → byte_at s' i ≡ byte_at s i
  pub told : (j : ℕ) → j < names → j < records tree → Original tree s j → Original tree s' j

-- the region of the names, and each that its slot tells: an expression declares none
pub record NamesStay (tree s s' : List ℕ) : Type 0 where
  pub bytes : (i : ℕ) → open_names.from * records tree ≤ i → i < end_of open_names * records tree → byte_at s' i ≡ byte_at s i
  pub told : (j : ℕ) → j < records tree → Original tree s j → Original tree s' j

abbrev pub StaysFor : List ℕ → Converter → List ℕ → List ℕ → Type 0
StaysFor tree c s s' = Stays tree c.scope.names c.operands s s'
