-- Instances of the theorem `demand3`: for the functions of the crate conversion's Bodies, the tree's run and the run of the body that `convert`
-- gives make the same calls and end alike. By computing both runs: each comes to what is written here. Assumes nothing.
use mathlib.Core.Path.{◌≡◌, refl}
use Prim.Native.Nat.{ℕ, zero, suc, ◌+◌}
use mathlib.Core.Bool.{Bool, true, false}
use mathlib.Core.List.{List, [], ◌∷◌}
use mathlib.Core.Option.{none, some}
use lib.Dec.{eqb, ltb}
use lib.IntN.{pos, negsuc}
use Rattle.laws.specs.Fix.{pick}
use Rattle.syntax.specs.Syntax.{BinaryOp, Or, And, BitOr, BitXor, BitAnd, Eq, NotEq, Lt, Le, Gt, Ge, Shl, Shr, Add, Sub, Mul, Div, Rem, Block, Function, bool_type}
use Rattle.conversion.specs.ConvertError.{Result, ok, err}
use Rattle.conversion.specs.Ir.{Copy, Binary, Arg, Call, Label, Jump, JumpIfNot, Comment, texts}
use Rattle.conversion.specs.Types.{on_int, on_float, is_float}
use Rattle.conversion.specs.Statements.{expected_type, as_call}
use Rattle.conversion.specs.Expressions.{Functions, get_type, common_type, unwrap_or, resolve_call}
use Rattle.conversion.specs.Functions.{get_all_functions}
use Rattle.conversion.specs.Converter.{convert}
use Rattle.conversion.proofs.Bodies.{sample_type, rate, x, y, parameter, outside, inside, ask, bound, take, ask_rate, int, guard_body, either_body, loop_body, spin_body, take_x, ratio_body, pause_body, split_body, guard, either, loop, spin, ratio, pause, split, several, put, feed, mix, half, put_half, fill_body, fill, program, converted, code_of, var, v, n}
use Rattle.runs.specs.TreeRun as Tree
use Rattle.runs.specs.Rule.{content, literal_type, read, read_all, ValueOrStop, gives, halt, holds, fails, TypedValue, CallsMade, Content, IntContent, FloatContent, BoolContent, StringContent, NullContent, Rule, comes, pending, Answers, asked, Ending, passed, returns, halted}
use Rattle.runs.specs.TreeRun.{Ran, held, tree_run, parameters_known, parameter_values, set, run_statement, bind_s, bind_o, bind_t, test_o, give_back, eval_expr, typed, typed_o, scope_of, eval_binary, eval_and, eval_or, to_bool, answered, bind_g, test, eval_other, replied, handed, fit, fit_literal, fit_computed, bare, eval_cast, call_with, fit_arguments, zero_of, store, assign, introduce, initialise, new_type, run_while, for_over, run_for_int, run_for, rounds, known_type, known_after, known_init, with_new, run_call, call_only}
use Rattle.runs.specs.BodyRun.{Vars, Spot, waits, lost, body_run, steps, step, fetch, execute, put_to, drop_to, put_reply, drop_reply, jump_to, branch_to, finish_with, operand, datum, write, one_on, label_place, is_label}
use Rattle.runs.specs.Shared.{calls_t, end_t, calls_b, end_b}
use Rattle.runs.proofs.Opens.{bit}
use Rattle.runs.proofs.Agrees.{body_of}

-- ---- a rule over numbers: a copy into Bool makes 0 or 1; `ask` answers 5 for an odd number, stops at 4, else answers 0; `bound` answers 2; a zero divisor stops

unfoldable pub number : Content → ℕ
number (IntContent (pos i)) = i
number (IntContent (negsuc i)) = 0
number (FloatContent b) = 0
number (BoolContent b) = bit b
number (StringContent t) = 0
number NullContent = 0

unfoldable pub compute : BinaryOp → ℕ → ℕ → ValueOrStop ℕ
unfolding pick
compute Gt a b = gives (bit (ltb b a))
compute Lt a b = gives (bit (ltb a b))
compute Add a b = gives (a + b)
compute Div a b = pick (eqb b 0) halt (gives 0)
compute Or a b = gives 0
compute And a b = gives 0
compute BitOr a b = gives 0
compute BitXor a b = gives 0
compute BitAnd a b = gives 0
compute Eq a b = gives 0
compute NotEq a b = gives 0
compute Le a b = gives 0
compute Ge a b = gives 0
compute Shl a b = gives 0
compute Shr a b = gives 0
compute Sub a b = gives 0
compute Mul a b = gives 0
compute Rem a b = gives 0

unfoldable pub odd : ℕ → Bool
odd zero = false
odd (suc zero) = true
odd (suc (suc i)) = odd i

unfoldable pub answer : List (TypedValue ℕ) → ValueOrStop ℕ
unfolding pick odd
answer [] = gives 2
answer (a ∷ as') = pick (eqb a.1 4) halt (gives (pick (odd a.1) 5 0))

unfoldable pub rule : Rule ℕ
unfolding number compute answer pick
rule = record {
  literal = λ c t. number c;
  copy = λ t a. gives (pick (eqb t bool_type) (bit (ltb 0 a.1)) a.1);
  zero = λ t. gives 0;
  unary = λ o t a. gives 0;
  binary = λ o t a b. compute o a.1 b.1;
  cast = λ t a. gives a.1;
  truth = λ a. pick (ltb 0 a.1) holds fails;
  return = λ t a. gives a.1;
  call = λ h f us. answer us;
}

-- ---- a rule over what was done: each value begins with a mark of what gave it and the type that it went to, then the types and values that went in

unfoldable pub shown : Content → List ℕ
shown (IntContent (pos i)) = i ∷ []
shown (IntContent (negsuc i)) = []
shown (FloatContent b) = b ∷ []
shown (BoolContent b) = bit b ∷ []
shown (StringContent t) = t
shown NullContent = []

unfoldable pub traced : Rule (List ℕ)
unfolding shown
traced = record {
  literal = λ c t. 0 ∷ t ∷ shown c;
  copy = λ t a. gives (1 ∷ t ∷ a.0 ∷ a.1);
  zero = λ t. gives (2 ∷ t ∷ []);
  unary = λ o t a. gives (3 ∷ t ∷ a.0 ∷ a.1);
  binary = λ o t a b. gives (4 ∷ t ∷ a.0 ∷ b.0 ∷ []);
  cast = λ t a. gives (5 ∷ t ∷ a.0 ∷ a.1);
  truth = λ a. holds;
  return = λ t a. gives a.1;
  call = λ h f us. gives (6 ∷ f ∷ []);
}

-- ---- one who answers by the destination: a call statement at once; a value never, and its type is seen among the calls

unfoldable pub by_destination : Answers ℕ
by_destination h f none us = (comes (gives 1), (f, us) ∷ [])
by_destination h f (some t) us = (pending, (f, us) ∷ (t, []) ∷ [])

-- ---- the two runs, as the claim takes them

unfoldable pub functions : Result Functions → Functions
functions (ok F) = F
functions (err k r) = []

-- f with the body b, called with vs
unfoldable pub tree_of : {W : Type 0} → Rule W → Answers W → Function → Block → List W → ℕ → Ran W
unfolding sample_type rate x y parameter outside inside ask bound take ask_rate int guard_body either_body loop_body spin_body take_x ratio_body pause_body split_body guard either loop spin ratio pause split several put feed mix half put_half fill_body fill program functions get_all_functions pick tree_run parameters_known parameter_values set run_statement bind_s bind_o give_back eval_expr typed scope_of Tree.known_variables eval_binary eval_and eval_or to_bool answered bind_g test eval_other replied handed fit fit_literal fit_computed read read_all literal_type content bare eval_cast call_with fit_arguments get_type common_type unwrap_or resolve_call expected_type test_o bind_t typed_o zero_of store assign introduce initialise new_type run_while for_over run_for_int run_for rounds on_int on_float is_float known_type known_after known_init with_new run_call call_only as_call
tree_of R A f b vs = tree_run program (functions (get_all_functions program.functions [])) f R A b vs

-- f, the i-th function that is made, begun with the variables' contents ρ
unfoldable pub made_of : {W : Type 0} → Rule W → Answers W → ℕ → Function → Vars W → ℕ → Spot W
unfolding sample_type rate x y parameter outside inside ask bound take ask_rate int guard_body either_body loop_body spin_body take_x ratio_body pause_body split_body guard either loop spin ratio pause split several put feed mix half put_half fill_body fill program pick converted code_of convert body_run steps step fetch execute put_to drop_to put_reply drop_reply jump_to branch_to finish_with operand datum read literal_type content write one_on label_place is_label body_of texts
made_of R A i f ρ = body_run R A (body_of f (code_of (converted (convert program false)).funcs i) (converted (convert program false))) ρ

-- the two sides of `ends` in the claim `Shared`, at the end e and the calls h: both hold
pub record BothEnd {W : Type 0} (tree : ℕ → Ran W) (body : ℕ → Spot W) (e : Ending W) (h : CallsMade W) : Type 0 where
  pub of_tree : (i : ℕ) × (end_t (tree i) ≡ some e) × (calls_t (tree i) ≡ h)
  pub of_body : (i : ℕ) × (end_b (body i) ≡ some e) × (calls_b (body i) ≡ h)

-- the parameter in place, 7 in the other variables
unfoldable pub begin : ℕ → Vars ℕ
unfolding pick
begin r i = pick (eqb i 0) r 7

-- the rule over numbers answers calls too
unfoldable pub tree_at : Function → Block → List ℕ → ℕ → Ran ℕ
unfolding tree_of rule number compute answer odd asked
tree_at = tree_of rule (asked rule)

unfoldable pub made_at : ℕ → Function → Vars ℕ → ℕ → Spot ℕ
unfolding made_of rule number compute answer odd asked
made_at = made_of rule (asked rule)

-- ---- the guard: of rate 3 `ask` is asked, and its 5 becomes a Bool's 1; of rate 0 nothing is asked; of rate 2 `ask` says no; of rate 4 `ask`
-- stops, and was called

pub guard_3 : BothEnd (tree_at guard guard_body (3 ∷ [])) (made_at 2 guard (begin 3)) (returns 1) ((50, (0, 3) ∷ []) ∷ [])
unfolding tree_at made_at begin calls_t end_t calls_b end_b
guard_3 = record { of_tree = (1, refl, refl); of_body = (10, refl, refl) }

pub guard_0 : BothEnd (tree_at guard guard_body (0 ∷ [])) (made_at 2 guard (begin 0)) (returns 0) []
unfolding tree_at made_at begin calls_t end_t calls_b end_b
guard_0 = record { of_tree = (1, refl, refl); of_body = (10, refl, refl) }

pub guard_2 : BothEnd (tree_at guard guard_body (2 ∷ [])) (made_at 2 guard (begin 2)) (returns 0) ((50, (0, 2) ∷ []) ∷ [])
unfolding tree_at made_at begin calls_t end_t calls_b end_b
guard_2 = record { of_tree = (1, refl, refl); of_body = (10, refl, refl) }

pub guard_4 : BothEnd (tree_at guard guard_body (4 ∷ [])) (made_at 2 guard (begin 4)) halted ((50, (0, 4) ∷ []) ∷ [])
unfolding tree_at made_at begin calls_t end_t calls_b end_b
guard_4 = record { of_tree = (1, refl, refl); of_body = (10, refl, refl) }

-- ---- the other way round: of rate 1 `ask` is asked, of rate 3 nothing

pub either_1 : BothEnd (tree_at either either_body (1 ∷ [])) (made_at 4 either (begin 1)) (returns 1) ((50, (0, 1) ∷ []) ∷ [])
unfolding tree_at made_at begin calls_t end_t calls_b end_b
either_1 = record { of_tree = (1, refl, refl); of_body = (12, refl, refl) }

pub either_3 : BothEnd (tree_at either either_body (3 ∷ [])) (made_at 4 either (begin 3)) (returns 1) []
unfolding tree_at made_at begin calls_t end_t calls_b end_b
either_3 = record { of_tree = (1, refl, refl); of_body = (12, refl, refl) }

-- ---- the For: the bound is asked before each turn; after turn 1 `continue` goes on with the addition; three tests, two turns

pub loop-calls : BothEnd (tree_at loop loop_body []) (made_at 3 loop (λ i. 7)) passed
    ((51, []) ∷ (50, (0, 0) ∷ []) ∷ (51, []) ∷ (51, []) ∷ (50, (0, 1) ∷ []) ∷ (51, []) ∷ [])
unfolding tree_at made_at calls_t end_t calls_b end_b
loop-calls = record { of_tree = (3, refl, refl); of_body = (60, refl, refl) }

-- out of turns a run is unfinished
pub loop_two_turns : end_t (tree_at loop loop_body [] 2) ≡ none
unfolding tree_at end_t
loop_two_turns = refl

-- ---- the While: its condition is asked before each turn, and the assignment is seen by the next

pub spin_1 : BothEnd (tree_at spin spin_body (1 ∷ [])) (made_at 6 spin (begin 1)) passed ((50, (0, 1) ∷ []) ∷ (50, (0, 2) ∷ []) ∷ [])
unfolding tree_at made_at begin calls_t end_t calls_b end_b
spin_1 = record { of_tree = (2, refl, refl); of_body = (20, refl, refl) }

-- without its last Label the run is lost once the condition fails: it does not pass
pub spin_lost : body_run rule (asked rule) (record {
  instrs = Comment 66 ∷ Label 0 ∷ Arg (v 0 0) ∷ Call (some (var 1 6)) 50 ∷ JumpIfNot (v 1 6) 1 ∷ Comment 68 ∷ Binary (var 2 0) Add (v 0 0) (n 1) ∷ Copy (var 0 0) (v 2 0) ∷ Jump 0 ∷ [];
  result = none;
  strings = [];
  floats = [];
}) (begin 2) 20 ≡ lost ((50, (0, 2) ∷ []) ∷ [])
unfolding made_at begin var v n
spin_lost = refl

-- ---- a stop between two calls: the one before it was made, the one behind it is not

pub pause_3 : BothEnd (tree_at pause pause_body (3 ∷ [])) (made_at 8 pause (begin 3)) halted ((50, (0, 3) ∷ []) ∷ [])
unfolding tree_at made_at begin calls_t end_t calls_b end_b
pause_3 = record { of_tree = (1, refl, refl); of_body = (20, refl, refl) }

-- ---- Declare, an assignment whose float is fitted to a short Float, an argument that is cast to a Float, a cast to Int

-- x as declared and as assigned
unfoldable pub zero_x : List ℕ
zero_x = 1 ∷ 5 ∷ 5 ∷ 0 ∷ 5 ∷ 0 ∷ []

unfoldable pub half_x : List ℕ
half_x = 1 ∷ 5 ∷ 5 ∷ 0 ∷ 5 ∷ 0x3FE0000000000000 ∷ []

pub ratio_calls : BothEnd (tree_of traced (asked traced) ratio ratio_body []) (made_of traced (asked traced) 7 ratio (λ i. [])) passed
    ((55, (4, 5 ∷ 4 ∷ 5 ∷ zero_x) ∷ []) ∷ (55, (4, 5 ∷ 4 ∷ 5 ∷ half_x) ∷ []) ∷ (50, (0, 1 ∷ 0 ∷ 0 ∷ 5 ∷ 0 ∷ 5 ∷ half_x) ∷ []) ∷ [])
unfolding tree_of made_of traced shown asked zero_x half_x calls_t end_t calls_b end_b
ratio_calls = record { of_tree = (1, refl, refl); of_body = (30, refl, refl) }

-- ---- a type before the value counts for its place: 0.5 is a short Float's in both calls of `put`, x keeps its type for `mix`, and is cast behind the
-- parameters of `feed`; behind the value a type changes nothing. By the Rust's way 0.5 would go to an Int and stay long, x would be cast for `mix` and not for `feed`

pub fill_calls : BothEnd (tree_of traced (asked traced) fill fill_body []) (made_of traced (asked traced) 13 fill (λ i. [])) passed
    ((60, (5, 0 ∷ 5 ∷ 0x3FE0000000000000 ∷ []) ∷ []) ∷ (60, (5, 0 ∷ 5 ∷ 0x3FE0000000000000 ∷ []) ∷ []) ∷ (62, (5, zero_x) ∷ [])
    ∷ (61, (4, 5 ∷ 4 ∷ 5 ∷ zero_x) ∷ []) ∷ (62, (4, 0 ∷ 4 ∷ 0x3FE0000000000000 ∷ []) ∷ []) ∷ [])
unfolding tree_of made_of traced shown asked zero_x calls_t end_t calls_b end_b
fill_calls = record { of_tree = (1, refl, refl); of_body = (30, refl, refl) }

-- ---- who answers is told the destination: where the parameter holds there is none; where it fails it is x, an Int, and both runs are held up

pub split_1 : BothEnd (tree_of rule by_destination split split_body (1 ∷ [])) (made_of rule by_destination 9 split (begin 1)) passed ((51, []) ∷ [])
unfolding tree_of made_of rule number begin by_destination calls_t end_t calls_b end_b
split_1 = record { of_tree = (1, refl, refl); of_body = (20, refl, refl) }

pub split_0 : (tree_of rule by_destination split split_body (0 ∷ []) 1 ≡ held ((51, []) ∷ (0, []) ∷ []))
    × (made_of rule by_destination 9 split (begin 0) 20 ≡ waits ((51, []) ∷ (0, []) ∷ []))
unfolding tree_of made_of rule number begin by_destination
split_0 = (refl, refl)
