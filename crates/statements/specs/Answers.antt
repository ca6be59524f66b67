-- What each answer says, as the definitions of conversion say it: a result with how far the tables are written, or a refusal's kind and place;
-- and which definition each function of statements.rs equals. Assumes nothing: these are definitions.
use Rattle.expressions.specs.declared.answers.Callee as Code-Callee
use Rattle.std.specs.Prelude.{◌≡◌, ℕ, suc, ◌+◌, ◌*◌, ◌≤◌, Bool, false, List, eqb, length, get_or, Result}
use Rattle.std.proofs.Math.Option.{none, some}
use Rattle.laws.specs.Fix.{pick}
use Rattle.records.specs.Kinds.{kind_declare, kind_init, kind_return, kind_break}
use Rattle.records.specs.Words.{kind_of, detail_of, word_of, records, A, B, C, D}
use Rattle.syntax.specs.Syntax.{unary_ops, binary_ops, BinaryOp, Neg, Or, binary_number, And}
use Rattle.syntax.specs.Decode.{program, type_at, text_of, bit, reference}
use Rattle.syntax.specs.Places.{expr_at, args_at, params_at, statement_at, block_at, function_of, TypeAt, ArgsAt, ParamsAt}
use Rattle.conversion.specs.ConvertError.{ok}
use Rattle.conversion.specs.Ir as Ir
use Rattle.conversion.specs.Ir.{M, ◌>>=◌, ◌>>◌, pure, lift}
use Rattle.conversion.specs.Scope as Def
use Rattle.conversion.specs.Scope.{with_loop}
use Rattle.conversion.specs.Expressions.{Functions, Callee, CallFunction}
use Rattle.conversion.specs.Statements.{zero_value, fit_operand, check_bound, parameter_type, value_position, expected_type, fit_args, cast_first, call_value, convert_unary, convert_and, convert_or, convert_other, convert_binary, convert_call_value, convert_expr, convert_args, convert_cond, call_function, convert_declare, convert_init, init_new, convert_assign, assign_to, convert_return, return_as, convert_call, convert_break, convert_continue, convert_if, convert_if_else, convert_while_loop, convert_for_loop, convert_statement, convert_block}
use Rattle.records.specs.declared.convert_error.ConvertError.{ConvertError}
use Rattle.records.specs.declared.convert_error.ConvertErrorKind.{ConvertErrorKind}
use Rattle.ir.specs.declared.structs.Counters.{Counters}
use Rattle.ir.specs.declared.structs.VarId.{VarId}
use Rattle.ir.specs.declared.structs.Operand.{Operand}
use Rattle.ir.specs.Instructions.{operand_of, var_of}
use Rattle.ir.specs.Amounts.{Amount, amount, both}
use Rattle.ir.specs.Arena.{Room}
use Rattle.ir.specs.Steps.{named}
use Rattle.scope.specs.declared.Scope.{Scope}
use Rattle.scope.specs.Open.{scope_at}
use Rattle.keys.specs.Keys.{all_keys}
use Rattle.expressions.specs.Slots.{Frame, Ready, common_in}
use Rattle.expressions.specs.Answers.{OrRefused, IsTyped, type_result, outcome_of, callee_of}
use Rattle.statements.specs.Lent.{Converter, Converted, ConvertedArgs, Stated, Finished, ForVariable, Fitted, at, converted, found_variable}
use Rattle.statements.specs.declared.answers.Converter as Code-Converter
use Rattle.statements.specs.declared.answers.ForVariable as Code-ForVariable
use Rattle.statements.specs.declared.answers.AtValue.{AtValue}
use Rattle.statements.specs.declared.numbers.LabelKind.{LabelKind}
use Rattle.statements.specs.Labels.{label_number}
use Rattle.statements.specs.Meets.{StepAnswer, gave, refused, Adds, AddsIn, Meets, texts_of}
use Rattle.statements.specs.Parts.{operand_type, join_and, join_or, finish_binary, count_on, if_head, while_head, for_variable, for_bounds, for_begin, for_test, for_turns, for_head, declare_init, loop_jump, pass_args, finish_call}
use Rattle.statements.specs.Stack.{stack_at}
use Rattle.syntax.specs.Count.{under, statement_records, block_records, args_under, args_values}
use Rattle.statements.specs.Converting.{Converting, Afforded, OperandIn, StackIn, StaysFor, NamesStay, expr_amount, args_amount, behind_amount, statement_amount, block_amount, head_amount, turns_amount, for_head_amount}

-- ---- answers

abbrev pub converted_of : Converted → StepAnswer Ir.Operand
converted_of (Converted.Is o k) = gave (operand_of o) k
converted_of (Converted.Refused e) = refused e

-- the values stand on the stack from entry j on, with n records
abbrev pub converted_args_of : List ℕ → ℕ → ℕ → ConvertedArgs → StepAnswer (List Ir.Operand)
converted_args_of s n j (ConvertedArgs.Done count k) = gave (stack_at s n j count) k
converted_args_of s n j (ConvertedArgs.Refused e) = refused e

abbrev pub stated_of : List ℕ → List ℕ → List ℕ → Stated → StepAnswer Def.Scope
stated_of tree text s (Stated.Done sc k) = gave (scope_at tree text s sc) k
stated_of tree text s (Stated.Refused e) = refused e

-- success stands for a
abbrev pub finished_of : {A : Type 0} → A → Finished → StepAnswer A
finished_of a (Finished.Done k) = gave a k
finished_of a (Finished.Refused e) = refused e

-- what leaves the scope as it was, as a statement's answer
abbrev pub stated_with : Scope → Finished → Stated
stated_with sc (Finished.Done k) = Stated.Done sc k
stated_with sc (Finished.Refused e) = Stated.Refused e

abbrev pub variable_of : List ℕ → List ℕ → List ℕ → ForVariable → StepAnswer (Ir.VarId × Def.Scope)
variable_of tree text s (ForVariable.Is v sc k) = gave (var_of v, scope_at tree text s sc) k
variable_of tree text s (ForVariable.Refused e) = refused e

-- ---- what each kind of function owes, of the answer, of the arena before and after and of the scratch before and after

-- an expression or a part of one
pub record Converts (tree text : List ℕ) (m : M Ir.Operand) (n : Amount) (c : Converter) (l s : List ℕ) (a : Converted) (l' s' : List ℕ) : Type 0 where
  pub meets : Meets (texts_of tree text) m n c.counters l l' (converted_of a)
  pub operand : (o : Operand) (k : Counters) → a ≡ Converted.Is o k → OperandIn tree (operand_of o)
  pub stays : StaysFor tree c s s'
  pub names : NamesStay tree s s'

-- an operand that is always had: for a leaf e in any scope, and for an operand that is fitted
pub record LeafAdds (tree text : List ℕ) (e : ℕ) (n : Amount) (k : Counters) (l : List ℕ) (r : Fitted) (l' : List ℕ) : Type 0 where
  pub adds : (S : Def.Scope) → AddsIn (texts_of tree text) (convert_expr (program tree text) (all_keys tree text) (expr_at tree text e) S) n k l (operand_of r.operand) r.counters l'
  pub operand : OperandIn tree (operand_of r.operand)
  pub long : length l' ≡ length l

pub record FitAdds (tree : List ℕ) (m : M Ir.Operand) (n : Amount) (k : Counters) (l : List ℕ) (r : Fitted) (l' : List ℕ) : Type 0 where
  pub adds : Adds m n k l (operand_of r.operand) r.counters l'
  pub operand : OperandIn tree (operand_of r.operand)

-- the last `count` operands of the stack are fitted, in place
pub record FitsArgs (tree : List ℕ) (m : M (List Ir.Operand)) (count : ℕ) (c : Converter) (l s : List ℕ) (k : Counters) (l' s' : List ℕ) : Type 0 where
  pub adds : Adds m (amount count count 0 0 count) c.counters l (stack_at s' (records tree) c.operands count) k l'
  pub stays : StaysFor tree c s s'
  pub names : NamesStay tree s s'

-- the arguments of a call, above what waits on the stack: at most q of them
pub record ConvertsArgs (tree text : List ℕ) (m : M (List Ir.Operand)) (n : Amount) (q : ℕ) (c : Converter) (l s : List ℕ) (a : ConvertedArgs) (l' s' : List ℕ) : Type 0 where
  pub meets : Meets (texts_of tree text) m n c.counters l l' (converted_args_of s' (records tree) c.operands a)
  pub operands : (count : ℕ) (k : Counters) → a ≡ ConvertedArgs.Done count k → (count ≤ q) × StackIn tree s' c.operands count
  pub stays : StaysFor tree c s s'
  pub names : NamesStay tree s s'

-- the scope that a statement leaves: at most q names more, in the same function and loop
pub record Leaves (tree text : List ℕ) (q : ℕ) (c : Converter) (s' : List ℕ) (sc : Scope) : Type 0 where
  pub ready : Ready tree text s' sc
  pub function : sc.function ≡ c.scope.function
  pub inner : sc.inner ≡ c.scope.inner
  pub least : c.scope.names ≤ sc.names
  pub most : sc.names ≤ c.scope.names + q

-- a statement
pub record States (tree text : List ℕ) (m : M Def.Scope) (n : Amount) (q : ℕ) (c : Converter) (l s : List ℕ) (a : Stated) (l' s' : List ℕ) : Type 0 where
  pub meets : Meets (texts_of tree text) m n c.counters l l' (stated_of tree text s' a)
  pub leaves : (sc : Scope) (k : Counters) → a ≡ Stated.Done sc k → Leaves tree text q c s' sc
  pub stays : StaysFor tree c s s'

-- a block, or what leaves the scope as it was: the definition's step gives x
pub record Finishes {A : Type 0} (tree text : List ℕ) (m : M A) (x : A) (n : Amount) (c : Converter) (l s : List ℕ) (a : Finished) (l' s' : List ℕ) : Type 0 where
  pub meets : Meets (texts_of tree text) m n c.counters l l' (finished_of x a)
  pub stays : StaysFor tree c s s'

-- the type that the sides of the Binary e, of type y, are fitted to
pub record OperandTyped (tree text s : List ℕ) (c : Converter) (e y : ℕ) (a : OrRefused ℕ) (s' : List ℕ) : Type 0 where
  pub frame : Frame tree s s'
  pub typed : IsTyped tree a
  pub meets : operand_type (common_in tree text (scope_at tree text s c.scope) e) y ≡ type_result a

-- the variable of a For, with the scope of its body
pub record FindsVariable (tree text : List ℕ) (m : M (Ir.VarId × Def.Scope)) (c : Converter) (l s : List ℕ) (a : ForVariable) (l' s' : List ℕ) : Type 0 where
  pub meets : Meets (texts_of tree text) m (amount 0 1 0 0 0) c.counters l l' (variable_of tree text s' a)
  pub variable : (v : VarId) (sc : Scope) (k : Counters) → a ≡ ForVariable.Is v sc k → TypeAt tree v.1 × Leaves tree text 1 c s' sc
  pub stays : StaysFor tree c s s'

-- what writes no table: it is fine, or refused
pub record Checks (tree : List ℕ) (m : M (Unit {0})) (s : List ℕ) (a : OrRefused (Unit {0})) (s' : List ℕ) : Type 0 where
  pub meets : m ≡ lift (outcome_of a)
  pub frame : Frame tree s s'

-- ---- which definition each function equals, by records

module _ (tree text s : List ℕ) (c : Converter) where
  -- the scope
  abbrev pub scope_in : Def.Scope
  scope_in = scope_at tree text s c.scope

  -- the expression e
  abbrev pub expr_steps : ℕ → M Ir.Operand
  expr_steps e = convert_expr (program tree text) (all_keys tree text) (expr_at tree text e) scope_in

  abbrev pub cond_steps : ℕ → M Ir.Operand
  cond_steps e = convert_cond (program tree text) (all_keys tree text) (expr_at tree text e) scope_in

  abbrev pub args_steps : ℕ → M (List Ir.Operand)
  args_steps w = convert_args (program tree text) (all_keys tree text) (args_at tree text w) scope_in

  -- the Unary, And or Or, any other Binary, any Binary, and call e, of type y, its sides fitted to q
  abbrev pub unary_steps : ℕ → ℕ → M Ir.Operand
  unary_steps e y = convert_unary (get_or unary_ops (detail_of tree e) Neg) y (λ st. expr_steps (word_of tree e A) st)

  abbrev pub logic_steps : ℕ → ℕ → M Ir.Operand
  logic_steps e y = pick (eqb (detail_of tree e) (binary_number And))
      (convert_and e y (λ st. expr_steps (word_of tree e A) st) (λ st. expr_steps (word_of tree e B) st))
      (convert_or e y (λ st. expr_steps (word_of tree e A) st) (λ st. expr_steps (word_of tree e B) st))

  abbrev pub other_steps : ℕ → ℕ → ℕ → M Ir.Operand
  other_steps e y q = convert_other (program tree text) (all_keys tree text) (get_or binary_ops (detail_of tree e) Or) y q
      (λ st. expr_steps (word_of tree e A) st) (λ st. expr_steps (word_of tree e B) st)

  abbrev pub binary_steps : ℕ → ℕ → M Ir.Operand
  binary_steps e y = convert_binary (program tree text) (all_keys tree text) e (get_or binary_ops (detail_of tree e) Or)
      (expr_at tree text (word_of tree e A)) (expr_at tree text (word_of tree e B)) y scope_in
      (λ st. expr_steps (word_of tree e A) st) (λ st. expr_steps (word_of tree e B) st)

  abbrev pub call_steps : ℕ → ℕ → M Ir.Operand
  call_steps e y = convert_call_value (program tree text) (all_keys tree text) e (text_of tree text e A) (args_at tree text (word_of tree e C)) y scope_in
      (λ st. args_steps (word_of tree e C) st)

  -- the statement r, and the block that word w opens, whose own scope is dropped
  abbrev pub statement_steps : ℕ → M Def.Scope
  statement_steps r = convert_statement (program tree text) (all_keys tree text) (statement_at tree text r) scope_in

  abbrev pub block_steps : ℕ → M (Unit {0})
  block_steps w = convert_block (program tree text) (all_keys tree text) (block_at tree text w) scope_in >> pure tt

  -- ---- the statement r without its comment: what `convert_block` does with it

  abbrev pub declare_steps : ℕ → M Def.Scope
  declare_steps r = convert_declare (program tree text) (all_keys tree text) r (text_of tree text r A) (word_of tree r C) scope_in

  abbrev pub init_steps : ℕ → M Def.Scope
  init_steps r = convert_init (program tree text) (all_keys tree text) r (bit 1 (detail_of tree r)) (text_of tree text r A) (expr_at tree text (word_of tree r C)) scope_in

  -- of a new name
  abbrev pub init_new_steps : ℕ → M Def.Scope
  init_new_steps r = init_new (program tree text) (all_keys tree text) r (bit 1 (detail_of tree r)) (text_of tree text r A) (expr_at tree text (word_of tree r C)) scope_in

  -- of the name of the variable v
  abbrev pub assign_steps : ℕ → VarId → Bool → M Def.Scope
  assign_steps r v constant = convert_assign (program tree text) (all_keys tree text) r (expr_at tree text (word_of tree r C))
      (record { name = text_of tree text r A; constant = constant; var_id = var_of v }) scope_in

  abbrev pub assign_to_steps : ℕ → VarId → M Def.Scope
  assign_to_steps r v = assign_to (program tree text) (all_keys tree text) r (expr_at tree text (word_of tree r C))
      (record { name = text_of tree text r A; constant = false; var_id = var_of v }) scope_in

  abbrev pub return_steps : ℕ → M Def.Scope
  return_steps r = convert_return (program tree text) (all_keys tree text) r (expr_at tree text (word_of tree r A)) scope_in

  -- of a value of type y where `expected` is the function's
  abbrev pub return_as_steps : ℕ → ℕ → ℕ → M Def.Scope
  return_as_steps r y expected = return_as (program tree text) (all_keys tree text) r (expr_at tree text (word_of tree r A)) y scope_in (some expected)

  abbrev pub call_statement_steps : ℕ → M Def.Scope
  call_statement_steps r = convert_call (program tree text) (all_keys tree text) r (expr_at tree text (word_of tree r A)) scope_in

  -- of the function f by the call e, whose result is not used
  abbrev pub call_only_steps : ℕ → ℕ → M Def.Scope
  call_only_steps e f = args_steps (word_of tree e C)
      >>= (λ os. call_function (program tree text) (all_keys tree text) none (function_of tree text f) (args_at tree text (word_of tree e C)) os >> pure scope_in)

  abbrev pub break_steps : ℕ → M Def.Scope
  break_steps r = convert_break (program tree text) (all_keys tree text) r scope_in.in_loop scope_in

  abbrev pub continue_steps : ℕ → M Def.Scope
  continue_steps r = convert_continue (program tree text) (all_keys tree text) r scope_in.in_loop scope_in

  -- the jump of either, to a label of this kind, and how it is refused
  abbrev pub loop_jump_steps : ℕ → LabelKind → ConvertErrorKind → M Def.Scope
  loop_jump_steps r kind e = loop_jump (named (label_number kind)) e r scope_in.in_loop scope_in

  abbrev pub if_steps : ℕ → M Def.Scope
  if_steps r = pick (bit 1 (detail_of tree r))
      (convert_if_else (program tree text) (all_keys tree text) r (expr_at tree text (word_of tree r A)) scope_in
      (λ st. convert_block (program tree text) (all_keys tree text) (block_at tree text (word_of tree r B)) scope_in st)
      (λ st. convert_block (program tree text) (all_keys tree text) (block_at tree text (word_of tree r C)) scope_in st))
      (convert_if (program tree text) (all_keys tree text) r (expr_at tree text (word_of tree r A)) scope_in
      (λ st. convert_block (program tree text) (all_keys tree text) (block_at tree text (word_of tree r B)) scope_in st))

  abbrev pub while_steps : ℕ → M Def.Scope
  while_steps r = convert_while_loop (program tree text) (all_keys tree text) r (expr_at tree text (word_of tree r A)) scope_in
      (λ st. convert_block (program tree text) (all_keys tree text) (block_at tree text (word_of tree r B)) (with_loop r scope_in) st)

  abbrev pub for_steps : ℕ → M Def.Scope
  for_steps r = convert_for_loop (program tree text) (all_keys tree text) r (text_of tree text (word_of tree r A) A) (reference (word_of tree (word_of tree r A) C))
      (expr_at tree text (word_of tree r B)) (expr_at tree text (word_of tree r C)) scope_in
      (λ sc1 st. convert_block (program tree text) (all_keys tree text) (block_at tree text (word_of tree r D)) (with_loop r sc1) st)

  -- a Declare, Init, Return or call statement; a Break or Continue
  abbrev pub plain_steps : ℕ → M Def.Scope
  plain_steps r = pick (eqb (kind_of tree r) kind_declare) (declare_steps r) (pick (eqb (kind_of tree r) kind_init) (init_steps r) (pick (eqb (kind_of tree r) kind_return) (return_steps r) (call_statement_steps r)))

  abbrev pub jump_steps : ℕ → M Def.Scope
  jump_steps r = pick (eqb (kind_of tree r) kind_break) (break_steps r) (continue_steps r)

  -- ---- what stands around the blocks of the If, While or For r, x being a For's variable

  abbrev pub if_head_steps : ℕ → M (Unit {0})
  if_head_steps r = if_head (program tree text) (all_keys tree text) (bit 1 (detail_of tree r)) r (expr_at tree text (word_of tree r A)) scope_in

  abbrev pub while_head_steps : ℕ → M (Unit {0})
  while_head_steps r = while_head (program tree text) (all_keys tree text) r (expr_at tree text (word_of tree r A)) scope_in

  abbrev pub for_variable_steps : ℕ → M (Ir.VarId × Def.Scope)
  for_variable_steps r = for_variable (program tree text) (all_keys tree text) r (text_of tree text (word_of tree r A) A) (reference (word_of tree (word_of tree r A) C)) scope_in

  abbrev pub bound_steps : ℕ → ℕ → M (Unit {0})
  bound_steps e y = check_bound (program tree text) (all_keys tree text) (expr_at tree text e) y scope_in

  abbrev pub for_bounds_steps : ℕ → ℕ → M (Unit {0})
  for_bounds_steps r y = for_bounds (program tree text) (all_keys tree text) y (expr_at tree text (word_of tree r B)) (expr_at tree text (word_of tree r C)) scope_in

  abbrev pub for_begin_steps : VarId → ℕ → M (Unit {0})
  for_begin_steps x r = for_begin (program tree text) (all_keys tree text) r (var_of x) (bit 16 (detail_of tree x.1)) (bit 32 (detail_of tree x.1))
      (expr_at tree text (word_of tree r B)) scope_in

  abbrev pub for_test_steps : VarId → ℕ → M (Unit {0})
  for_test_steps x r = for_test (program tree text) (all_keys tree text) r (var_of x) (expr_at tree text (word_of tree r C)) scope_in

  abbrev pub for_turns_steps : VarId → ℕ → M (Unit {0})
  for_turns_steps x r = for_turns (program tree text) (all_keys tree text) r (var_of x) (expr_at tree text (word_of tree r B)) (expr_at tree text (word_of tree r C)) scope_in

  abbrev pub for_head_steps : ℕ → M Def.Scope
  for_head_steps r = for_head (program tree text) (all_keys tree text) r (text_of tree text (word_of tree r A) A) (reference (word_of tree (word_of tree r A) C))
      (expr_at tree text (word_of tree r B)) (expr_at tree text (word_of tree r C)) scope_in

  -- the Init r of a new name behind its value src, of type y
  abbrev pub declare_init_steps : ℕ → ℕ → Operand → M Def.Scope
  declare_init_steps r y src = declare_init (program tree text) (all_keys tree text) r (bit 1 (detail_of tree r)) (text_of tree text r A) y (operand_of src) scope_in

-- what stands between the sides of the And or Or e, whose variable is dest
abbrev pub join_steps : List ℕ → ℕ → VarId → Operand → M (Unit {0})
join_steps tree e dest left =
    pick (eqb (detail_of tree e) (binary_number And)) (join_and e (var_of dest) (operand_of left)) (join_or e (var_of dest) (operand_of left))

-- where the For r counts its variable x on
abbrev pub count_on_steps : List ℕ → ℕ → VarId → M (Unit {0})
count_on_steps tree r x = count_on r (var_of x) (bit 16 (detail_of tree x.1)) (bit 32 (detail_of tree x.1))

-- ---- what each function owes, by the step that it equals: `steps` at the record r, from the scratch s and the arena l

-- what a function of statements.rs does at a record
abbrev pub StepsAt : Type 0 → Type 0
StepsAt X = List ℕ → List ℕ → List ℕ → Converter → ℕ → M X

-- steps that take something more behind the record, two such, or a For's variable before it
abbrev pub given : {X Y : Type 0} → (List ℕ → List ℕ → List ℕ → Converter → ℕ → Y → M X) → Y → StepsAt X
given steps y = λ tree text s c r. steps tree text s c r y

abbrev pub givens : {X Y Z : Type 0} → (List ℕ → List ℕ → List ℕ → Converter → ℕ → Y → Z → M X) → Y → Z → StepsAt X
givens steps y z = λ tree text s c r. steps tree text s c r y z

abbrev pub of_var : {X : Type 0} → (List ℕ → List ℕ → List ℕ → Converter → VarId → ℕ → M X) → VarId → StepsAt X
of_var steps x = λ tree text s c r. steps tree text s c x r

-- the condition or operand of the expression e
abbrev pub ConvertsAs : StepsAt Ir.Operand → Converter → ℕ → List ℕ → List ℕ → List ℕ → List ℕ → Converted → List ℕ → List ℕ → Type 0
ConvertsAs steps c e tree text l s a l' s' = Converts tree text (steps tree text s c e) (expr_amount (under (expr_at tree text e))) c l s a l' s'

-- the expression e, which has no parts, of this amount: the scratch stays as it is
abbrev pub LeafConverts : Amount → Converter → ℕ → List ℕ → List ℕ → List ℕ → List ℕ → Converted → List ℕ → Type 0
LeafConverts n c e tree text l s a l' = Converts tree text (expr_steps tree text s c e) n c l s a l' s

-- one that adds nothing, whatever the counters and the tables are; and whatever the scope and the scratch are
abbrev pub LeafStays : Code-Converter.Converter → ℕ → List ℕ → List ℕ → List ℕ → Result Operand ConvertError → Type 0
LeafStays c e tree text s a = (k l : List ℕ) → Converting tree text l s (at c k) → LeafConverts (amount 0 0 0 0 0) (at c k) e tree text l s (converted k a) l

abbrev pub LeafAnywhere : ℕ → List ℕ → List ℕ → Result Operand ConvertError → Type 0
LeafAnywhere e tree text a = (c : Code-Converter.Converter) (s : List ℕ) → LeafStays c e tree text s a

-- the operand o fitted to the type expected, whatever the text; the integer `bits`, which adds nothing
abbrev pub OperandFits : List ℕ → Ir.Operand → ℕ → Amount → Counters → List ℕ → Fitted → List ℕ → Type 0
OperandFits tree o expected n k l r l' = (text : List ℕ) → FitAdds tree (fit_operand (program tree text) o expected) n k l r l'

abbrev pub IntFits : List ℕ → Operand → ℕ → ℕ → Counters → Fitted → Type 0
IntFits tree o bits expected k r =
    (text l : List ℕ) (short unsigned : Bool) → o ≡ Operand.Int bits short unsigned → Room k l
    → FitAdds tree (fit_operand (program tree text) (operand_of o) expected) (amount 0 0 0 0 0) k l r l

-- a Binary of type y, both its sides fitted to q, with its operator, whatever the text
abbrev pub BinaryFinishes : List ℕ → BinaryOp → ℕ → ℕ → Operand → Operand → Counters → List ℕ → Fitted → List ℕ → Type 0
BinaryFinishes tree op y q left right k l r l' =
    (text : List ℕ) → FitAdds tree (finish_binary (program tree text) op y q (operand_of left) (operand_of right)) (amount 3 3 0 0 2) k l r l'

-- the zero value of the variable v that the Declare r writes, whatever the text and the functions
abbrev pub ZeroMeets : List ℕ → ℕ → VarId → Counters → List ℕ → Finished → List ℕ → Type 0
ZeroMeets tree r v k l a l' =
    (text : List ℕ) (F : Functions)
    → Meets (texts_of tree text) (zero_value (program tree text) F r (var_of v) (type_at tree text v.1)) (amount 1 0 0 0 1) k l l' (finished_of tt a)

-- the statement r behind its comment
abbrev pub StatesAs : StepsAt Def.Scope → Converter → ℕ → List ℕ → List ℕ → List ℕ → List ℕ → Stated → List ℕ → List ℕ → Type 0
StatesAs steps c r tree text l s a l' s' =
    States tree text (steps tree text s c r) (behind_amount (statement_records (statement_at tree text r))) (statement_records (statement_at tree text r)) c l s a l' s'

-- the call e alone, whose result is not used
abbrev pub CallOnlyAs : StepsAt Def.Scope → Converter → ℕ → List ℕ → List ℕ → List ℕ → List ℕ → Stated → List ℕ → List ℕ → Type 0
CallOnlyAs steps c e tree text l s a l' s' = States tree text (steps tree text s c e) (expr_amount (under (expr_at tree text e))) 0 c l s a l' s'

-- the Init r of a new name, behind its value
abbrev pub DeclaresAs : StepsAt Def.Scope → Converter → ℕ → List ℕ → List ℕ → List ℕ → List ℕ → Stated → List ℕ → List ℕ → Type 0
DeclaresAs steps c r tree text l s a l' s' = States tree text (steps tree text s c r) (amount 1 1 0 0 0) 1 c l s a l' s'

-- the variable of the For r
abbrev pub VariableAs : StepsAt (Ir.VarId × Def.Scope) → Converter → ℕ → List ℕ → List ℕ → List ℕ → List ℕ → ForVariable → List ℕ → List ℕ → Type 0
VariableAs steps c r tree text l s a l' s' = FindsVariable tree text (steps tree text s c r) c l s a l' s'

-- one that adds nothing, whatever the counters and the tables are
abbrev pub VariableStays : StepsAt (Ir.VarId × Def.Scope) → Code-Converter.Converter → ℕ → List ℕ → List ℕ → List ℕ → Result Code-ForVariable.ForVariable ConvertError → Type 0
VariableStays steps c r tree text s a = (k l : List ℕ) → Converting tree text l s (at c k) → VariableAs steps (at c k) r tree text l s (found_variable k a) l s

-- the If, While or For r behind its comment, which leaves the scope as it was
abbrev pub FinishesAs : StepsAt Def.Scope → Converter → ℕ → List ℕ → List ℕ → List ℕ → List ℕ → Finished → List ℕ → List ℕ → Type 0
FinishesAs steps c r tree text l s a l' s' =
    Finishes tree text (steps tree text s c r) (scope_in tree text s c) (behind_amount (statement_records (statement_at tree text r))) c l s a l' s'

-- the head of the If or While r, whose condition is in word A
abbrev pub HeadAs : StepsAt (Unit {0}) → Converter → ℕ → List ℕ → List ℕ → List ℕ → List ℕ → Finished → List ℕ → List ℕ → Type 0
HeadAs steps c r tree text l s a l' s' =
    Finishes tree text (steps tree text s c r) tt (head_amount (under (expr_at tree text (word_of tree r A)))) c l s a l' s'

-- the part of the For r that converts the bound in word w
abbrev pub BoundAs : StepsAt (Unit {0}) → ℕ → Converter → ℕ → List ℕ → List ℕ → List ℕ → List ℕ → Finished → List ℕ → List ℕ → Type 0
BoundAs steps w c r tree text l s a l' s' =
    Finishes tree text (steps tree text s c r) tt (turns_amount (under (expr_at tree text (word_of tree r w)))) c l s a l' s' × NamesStay tree s s'

-- the records below both bounds of the For r
abbrev pub bounds_under : List ℕ → List ℕ → ℕ → ℕ
bounds_under tree text r = under (expr_at tree text (word_of tree r B)) + under (expr_at tree text (word_of tree r C))

-- for the For r from its variable on
abbrev pub TurnsAfforded : List ℕ → List ℕ → Converter → ℕ → Type 0
TurnsAfforded tree text c r = Afforded tree c (for_head_amount (bounds_under tree text r)) (bounds_under tree text r) 0

-- the For r from its variable on, and from its beginning on, up to its body
abbrev pub TurnsAs : StepsAt (Unit {0}) → Converter → ℕ → List ℕ → List ℕ → List ℕ → List ℕ → Finished → List ℕ → List ℕ → Type 0
TurnsAs steps c r tree text l s a l' s' =
    Finishes tree text (steps tree text s c r) tt (for_head_amount (bounds_under tree text r)) c l s a l' s' × NamesStay tree s s'

abbrev pub ForHeadAs : StepsAt Def.Scope → Converter → ℕ → List ℕ → List ℕ → List ℕ → List ℕ → Stated → List ℕ → List ℕ → Type 0
ForHeadAs steps c r tree text l s a l' s' =
    States tree text (steps tree text s c r) (both (amount 0 1 0 0 0) (for_head_amount (bounds_under tree text r))) 1 c l s a l' s'

-- the statement r with its comment, and the block that word w opens
abbrev pub StatementAs : StepsAt Def.Scope → Converter → ℕ → List ℕ → List ℕ → List ℕ → List ℕ → Stated → List ℕ → List ℕ → Type 0
StatementAs steps c r tree text l s a l' s' =
    States tree text (steps tree text s c r) (statement_amount (statement_records (statement_at tree text r))) (statement_records (statement_at tree text r)) c l s a l' s'

abbrev pub BlockAs : StepsAt (Unit {0}) → Converter → ℕ → List ℕ → List ℕ → List ℕ → List ℕ → Finished → List ℕ → List ℕ → Type 0
BlockAs steps c w tree text l s a l' s' = Finishes tree text (steps tree text s c w) tt (block_amount (block_records (block_at tree text w))) c l s a l' s'

-- the values of a call, whose arguments word w opens
abbrev pub ArgsAs : StepsAt (List Ir.Operand) → Converter → ℕ → List ℕ → List ℕ → List ℕ → List ℕ → ConvertedArgs → List ℕ → List ℕ → Type 0
ArgsAs steps c w tree text l s a l' s' =
    ConvertsArgs tree text (steps tree text s c w) (args_amount (args_under (args_at tree text w)) (args_values (args_at tree text w))) (args_values (args_at tree text w)) c l s a l' s'

-- those of the call e
abbrev pub CallArgsAs : StepsAt (List Ir.Operand) → Converter → ℕ → List ℕ → List ℕ → List ℕ → List ℕ → ConvertedArgs → List ℕ → List ℕ → Type 0
CallArgsAs steps c e tree text l s a l' s' = ArgsAs steps c (word_of tree e C) tree text l s a l' s'

-- ---- what is done with the values of the call e: the `count` operands that wait on the stack

-- the first value of the list that `argument` opens goes to the parameter that r has, and those behind it stand in the list that r has: the
-- types are those that the values of the whole list take in the list that `parameter` opens
pub record FirstValue (tree text : List ℕ) (argument parameter : ℕ) (r : AtValue) : Type 0 where
  pub args : ArgsAt tree r.rest
  pub params : ParamsAt tree r.parameter
  pub first : parameter_type (params_at tree text r.parameter) 0 ≡ expected_type (params_at tree text parameter) (args_at tree text argument) 0
  pub behind : (k : ℕ) → parameter_type (params_at tree text r.parameter) (suc (value_position (args_at tree text r.rest) k))
      ≡ expected_type (params_at tree text parameter) (args_at tree text argument) (suc k)

-- p opens the parameters behind the one that `parameter` opens; behind the last the types go on
abbrev pub ParameterBehind : List ℕ → List ℕ → ℕ → ℕ → Type 0
ParameterBehind tree text parameter p =
    ParamsAt tree p × ((k : ℕ) → parameter_type (params_at tree text p) k ≡ parameter_type (params_at tree text parameter) (suc k))

abbrev pub waiting : List ℕ → List ℕ → Converter → ℕ → List Ir.Operand
waiting tree s c count = stack_at s (records tree) c.operands count

-- they are fitted to the parameters of the function f
abbrev pub FitsAs : ℕ → ℕ → ℕ → Converter → List ℕ → List ℕ → List ℕ → List ℕ → Counters → List ℕ → List ℕ → Type 0
FitsAs e f count c tree text l s k l' s' =
    FitsArgs tree (fit_args (program tree text) (waiting tree s c count) (args_at tree text (word_of tree e C)) (function_of tree text f)) count c l s k l' s'

-- they are passed to the function f: fitted, then an Arg for each
abbrev pub PassesAs : ℕ → ℕ → ℕ → Converter → List ℕ → List ℕ → List ℕ → List ℕ → Counters → List ℕ → Type 0
PassesAs e f count c tree text l s k l' =
    Adds (pass_args (program tree text) (function_of tree text f) (args_at tree text (word_of tree e C)) (waiting tree s c count)) (amount (2 * count) count 0 0 count) c.counters l tt k l'

-- the first of them is cast to dest; the scratch stays as it is
abbrev pub CastsAs : ℕ → VarId → ℕ → Converter → List ℕ → List ℕ → List ℕ → List ℕ → Converted → List ℕ → Type 0
CastsAs e dest count c tree text l s a l' = Converts tree text (cast_first e (var_of dest) (waiting tree s c count)) (amount 1 0 0 0 0) c l s a l' s

-- the function f is called with them, its result in dest
abbrev pub CallsAs : ℕ → ℕ → VarId → ℕ → Converter → List ℕ → List ℕ → List ℕ → List ℕ → Converted → List ℕ → List ℕ → Type 0
CallsAs e f dest count c tree text l s a l' s' =
    Converts tree text (call_value (program tree text) (all_keys tree text) e (var_of dest) (args_at tree text (word_of tree e C)) (waiting tree s c count) (CallFunction (function_of tree text f)))
    (amount (2 * count + 1) count 0 0 count) c l s a l' s'

-- the call, of type y, is ended with them, where its callee was found
abbrev pub CallEndsAs : ℕ → ℕ → OrRefused Code-Callee.Callee → ℕ → Converter → List ℕ → List ℕ → List ℕ → List ℕ → Converted → List ℕ → List ℕ → Type 0
CallEndsAs e y callee count c tree text l s a l' s' =
    (to : Callee) → callee_of tree text callee ≡ ok to
    → Converts tree text (finish_call (program tree text) (all_keys tree text) e y (args_at tree text (word_of tree e C)) (waiting tree s c count) to) (amount (2 * count + 1) (count + 1) 0 0 count) c l s a l' s'
