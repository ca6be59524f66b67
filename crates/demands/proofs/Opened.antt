-- In a tree where each record is referred to at most once, a function's body meets each record that opens labels at most once.
-- Each record opens what the records that it refers to open, and itself; all is summed up twice, by the one that refers and the one referred to.
use mathlib.Core.Path.{◌≡◌, refl, sym}
use mathlib.Core.Bool.{Bool, true, false}
use mathlib.Core.List.{List, [], ◌∷◌, ◌++◌}
use mathlib.Core.Option.{Option, none as nothing, some}
use Prim.Native.Nat.{ℕ, zero, suc, ◌+◌, ◌*◌, ◌≤◌, ◌<◌}
use native.Mathlib.Decide.{dec_lt, ℕ_discrete}
use native.Mathlib.Omega.{arith}
use lib.Dec.{eqb}
use lib.ListN.{get_or, get_elem?}
use borrow.Author.Tests.{ne_eqb}
use Rattle.laws.specs.Fix.{pick}
use Rattle.laws.specs.Below.{sum_below}
use Rattle.laws.proofs.FixLaws.{below_in, below_out}
use Rattle.records.specs.Words.{kind_of, detail_of, word_of, records, A, B, C, D, E}
use Rattle.syntax.specs.Syntax.{BinaryOp, Or, And, BitOr, BitXor, BitAnd, Eq, NotEq, Lt, Le, Gt, Ge, Shl, Shr, Add, Sub, Mul, Div, Rem, Args, Block, Function, binary_ops}
use Rattle.syntax.specs.Decode as Decode
use Rattle.syntax.specs.Decode.{Node, absent, expr, value, to_type, stmt, variable, func, cell, expr_of, with_arg, args_of, with_statement, block_of, functions_in, child, expr_in, block_in, nothing_at, int_at, float_at, str_at, bool_at, name_at, null_at, size_of_at, unary_at, binary_at, call_at, list_at, value_at, type_argument_at, declare_at, init_at, return_at, call_statement_at, if_at, while_at, for_at, break_at, continue_at, variable_at, function_at, kinds, node, functions_below, program}
use Rattle.laws.proofs.Sums.{sum-le, sum-add, sum-swap, sum_times, hit, sum_hit}
use Rattle.syntax.proofs.Unfold.{node-is}
use Rattle.syntax.proofs.Held.{Leads, nowhere, leads, for_leads, leads_by_kind, mentions_by, mentions, Once}
use Rattle.runs.proofs.Opens.{bit, logic_opens, opens_e, opens_a, opens_s, opens_b, WellFormed}

-- ---- how often x, as a record that opens labels, is met below a node; a function is referred to by nobody

unfoldable opens : ℕ → Node → ℕ
unfolding opens_e opens_s
opens x absent = 0
opens x (expr e) = opens_e e x
opens x (value r e) = opens_e e x
opens x (to_type r y) = 0
opens x (stmt s) = opens_s s x
opens x (variable r t y) = 0
opens x (func f) = 0
opens x (cell i l) = opens x i + opens x l

unfoldable body_opens : ℕ → Option Block → ℕ
unfolding opens_b
body_opens x nothing = 0
body_opens x (some b) = opens_b b x

unfoldable function_opens : ℕ → Node → ℕ
unfolding body_opens
function_opens x absent = 0
function_opens x (expr e) = 0
function_opens x (value r e) = 0
function_opens x (to_type r y) = 0
function_opens x (stmt s) = 0
function_opens x (variable r t y) = 0
function_opens x (func f) = body_opens x f.body
function_opens x (cell i l) = 0

-- a record opens itself at most
unfoldable own : ℕ → ℕ → ℕ
own x r = bit (eqb x r)

expr-opens : (x : ℕ) (n : Node) → opens_e (expr_of n) x ≤ opens x n
unfolding opens expr_of opens_e
expr-opens x (expr e) = omega arith
expr-opens x absent = omega arith
expr-opens x (value r e) = omega arith
expr-opens x (to_type r y) = omega arith
expr-opens x (stmt s) = omega arith
expr-opens x (variable r t y) = omega arith
expr-opens x (func f) = omega arith
expr-opens x (cell i l) = omega arith

arg_opens : (x : ℕ) (n : Node) (l : Args) → opens_a (with_arg n l) x ≤ opens x n + opens_a l x
unfolding opens with_arg opens_e opens_a
arg_opens x absent l = omega arith
arg_opens x (expr e) l = omega arith
arg_opens x (value r e) l = omega arith
arg_opens x (to_type r y) l = omega arith
arg_opens x (stmt s) l = omega arith
arg_opens x (variable r t y) l = omega arith
arg_opens x (func f) l = omega arith
arg_opens x (cell i k) l = omega arith

args-opens : (x : ℕ) (n : Node) → opens_a (args_of n) x ≤ opens x n
unfolding opens args_of opens_e opens_a
args-opens x (cell i l) = omega (arith, arg_opens x i (args_of l), args-opens x l)
args-opens x absent = omega arith
args-opens x (expr e) = omega arith
args-opens x (value r e) = omega arith
args-opens x (to_type r y) = omega arith
args-opens x (stmt s) = omega arith
args-opens x (variable r t y) = omega arith
args-opens x (func f) = omega arith

statement_opens : (x : ℕ) (n : Node) (b : Block) → opens_b (with_statement n b) x ≤ opens x n + opens_b b x
unfolding opens with_statement opens_s opens_b
statement_opens x absent b = omega arith
statement_opens x (expr e) b = omega arith
statement_opens x (value r e) b = omega arith
statement_opens x (to_type r y) b = omega arith
statement_opens x (stmt s) b = omega arith
statement_opens x (variable r t y) b = omega arith
statement_opens x (func f) b = omega arith
statement_opens x (cell i k) b = omega arith

block_opens : (x : ℕ) (n : Node) → opens_b (block_of n) x ≤ opens x n
unfolding opens block_of opens_s opens_b
block_opens x (cell i l) = omega (arith, statement_opens x i (block_of l), block_opens x l)
block_opens x absent = omega arith
block_opens x (expr e) = omega arith
block_opens x (value r e) = omega arith
block_opens x (to_type r y) = omega arith
block_opens x (stmt s) = omega arith
block_opens x (variable r t y) = omega arith
block_opens x (func f) = omega arith

logic_opens_lem : (o : BinaryOp) (r x : ℕ) → logic_opens o r x ≤ own x r
unfolding logic_opens own
logic_opens_lem And r x = omega arith
logic_opens_lem Or r x = omega arith
logic_opens_lem BitOr r x = omega arith
logic_opens_lem BitXor r x = omega arith
logic_opens_lem BitAnd r x = omega arith
logic_opens_lem Eq r x = omega arith
logic_opens_lem NotEq r x = omega arith
logic_opens_lem Lt r x = omega arith
logic_opens_lem Le r x = omega arith
logic_opens_lem Gt r x = omega arith
logic_opens_lem Ge r x = omega arith
logic_opens_lem Shl r x = omega arith
logic_opens_lem Shr r x = omega arith
logic_opens_lem Add r x = omega arith
logic_opens_lem Sub r x = omega arith
logic_opens_lem Mul r x = omega arith
logic_opens_lem Div r x = omega arith
logic_opens_lem Rem r x = omega arith

-- ---- x is one of the first n records at most once

own-other : (x r : ℕ) → ¬ (x ≡ r) → own x r ≡ 0
unfolding own
own-other x r h = rw (ne_eqb x r h)

bit-small : (b : Bool) → bit b ≤ 1
bit-small true = omega arith
bit-small false = omega arith

own-small : (x r : ℕ) → own x r ≤ 1
unfolding own
own-small x r = bit-small (eqb x r)

own-before : (n x : ℕ) → n ≤ x → sum_below n (own x) ≡ 0
unfolding sum_below
own-before zero x h = refl
own-before (suc n) x h = omega (arith, own-before n x (omega arith), own-other x n (λ e. omega arith))

own-step : (n x : ℕ) → Dec (x ≡ n) → sum_below n (own x) ≤ 1 → sum_below n (own x) + own x n ≤ 1
own-step n x (yes e) h = omega (arith, own-before n x (omega (arith, e)), own-small x n)
own-step n x (no e) h = omega (arith, h, own-other x n e)

own-once : (n x : ℕ) → sum_below n (own x) ≤ 1
unfolding sum_below
own-once zero x = omega arith
own-once (suc n) x = own-step n x (ℕ_discrete x n) (own-once n x)

mul-le-one : (s n : ℕ) → s ≤ 1 → s * n ≤ n
mul-le-one zero n h = omega arith
mul-le-one (suc zero) n h = omega arith
mul-le-one (suc (suc s)) n h = absurd (omega arith)

module _ (tree text : List ℕ) (x : ℕ) where
  -- what the words ks of record r lead to opens
  unfoldable opened_by : (ℕ → Node) → ℕ → List ℕ → ℕ
  unfolding opens
  opened_by g r [] = 0
  opened_by g r (k ∷ ks) = opens x (child tree text g r k) + opened_by g r ks

  -- a kind's own record opens itself at most, and what it leads to
  abbrev Opening : ((ℕ → Node) → ℕ → Node) → Leads → Type 0
  Opening f w = (g : ℕ → Node) (r : ℕ) → opens x (f g r) + function_opens x (f g r) ≤ own x r + opened_by g r w.all

  AllOpening : List ((ℕ → Node) → ℕ → Node) → List Leads → Type 0
  AllOpening [] ws = Unit {0}
  AllOpening (f ∷ fs) [] = Opening f nowhere × AllOpening fs []
  AllOpening (f ∷ fs) (w ∷ ws) = Opening f w × AllOpening fs ws

  none_opening : (w : Leads) → Opening (nothing_at tree text) w
  unfolding nothing_at opens function_opens
  none_opening w g r = omega arith

  opening_at : (fs : List ((ℕ → Node) → ℕ → Node)) (ws : List Leads) → AllOpening fs ws
      → (k : ℕ) → Opening (get_or fs k (nothing_at tree text)) (get_or ws k nowhere)
  unfolding AllOpening
  opening_at [] ws a k = none_opening (get_or ws k nowhere)
  opening_at (f ∷ fs) [] a zero = a.0
  opening_at (f ∷ fs) [] a (suc k) = opening_at fs [] a.1 k
  opening_at (f ∷ fs) (w ∷ ws) a zero = a.0
  opening_at (f ∷ fs) (w ∷ ws) a (suc k) = opening_at fs ws a.1 k

  unary_opening : Opening (unary_at tree text) (leads (A ∷ []) (A ∷ []))
  unfolding unary_at expr_in opened_by opens function_opens opens_e
  unary_opening g r = omega (arith, expr-opens x (child tree text g r A))

  binary_opening : Opening (binary_at tree text) (leads (A ∷ B ∷ []) (A ∷ B ∷ []))
  unfolding binary_at expr_in opened_by opens function_opens opens_e
  binary_opening g r = omega (
    arith,
    logic_opens_lem (get_or binary_ops (detail_of tree r) Or) r x,
    expr-opens x (child tree text g r A),
    expr-opens x (child tree text g r B),
  )

  call_opening : Opening (call_at tree text) (leads (C ∷ []) [])
  unfolding call_at opened_by opens function_opens opens_e
  call_opening g r = omega (arith, args-opens x (child tree text g r C))

  list_opening : Opening (list_at tree text) (leads (A ∷ B ∷ []) [])
  unfolding list_at opened_by opens function_opens
  list_opening g r = omega arith

  value_opening : Opening (value_at tree text) (leads (A ∷ []) (A ∷ []))
  unfolding value_at expr_in opened_by opens function_opens
  value_opening g r = omega (arith, expr-opens x (child tree text g r A))

  init_opening : Opening (init_at tree text) (leads (C ∷ []) (C ∷ []))
  unfolding init_at expr_in opened_by opens function_opens opens_s
  init_opening g r = omega (arith, expr-opens x (child tree text g r C))

  return_opening : Opening (return_at tree text) (leads (A ∷ []) (A ∷ []))
  unfolding return_at expr_in opened_by opens function_opens opens_s
  return_opening g r = omega (arith, expr-opens x (child tree text g r A))

  call_statement_opening : Opening (call_statement_at tree text) (leads (A ∷ []) (A ∷ []))
  unfolding call_statement_at expr_in opened_by opens function_opens opens_s
  call_statement_opening g r = omega (arith, expr-opens x (child tree text g r A))

  pick-opens : (b : Bool) (y z : Node) (n : ℕ) → opens x y + function_opens x y ≤ n → opens x z + function_opens x z ≤ n
      → opens x (pick b y z) + function_opens x (pick b y z) ≤ n
  unfolding pick
  pick-opens true y z n h k = h
  pick-opens false y z n h k = k

  if_opening : Opening (if_at tree text) (leads (A ∷ B ∷ C ∷ []) (A ∷ []))
  unfolding if_at expr_in block_in opened_by opens function_opens opens_s own
  if_opening g r = pick-opens (Decode.bit 1 (detail_of tree r)) _ _ _
      (omega (arith, expr-opens x (child tree text g r A), block_opens x (child tree text g r B), block_opens x (child tree text g r C)))
      (omega (arith, expr-opens x (child tree text g r A), block_opens x (child tree text g r B)))

  while_opening : Opening (while_at tree text) (leads (A ∷ B ∷ []) (A ∷ []))
  unfolding while_at expr_in block_in opened_by opens function_opens opens_s own
  while_opening g r = omega (arith, expr-opens x (child tree text g r A), block_opens x (child tree text g r B))

  for_opening : Opening (for_at tree text) for_leads
  unfolding for_at expr_in block_in opened_by opens function_opens opens_s own
  for_opening g r = omega (
    arith,
    expr-opens x (child tree text g r B),
    expr-opens x (child tree text g r C),
    block_opens x (child tree text g r D),
  )

  body_opens_lem : (b : Bool) (y : Block) → body_opens x (pick b (some y) nothing) ≤ opens_b y x
  unfolding pick body_opens
  body_opens_lem true y = omega arith
  body_opens_lem false y = omega arith

  function_opening : Opening (function_at tree text) (leads (A ∷ B ∷ C ∷ E ∷ []) (A ∷ B ∷ []))
  unfolding function_at block_in opened_by opens function_opens
  function_opening g r = omega (
    arith,
    block_opens x (child tree text g r E),
    body_opens_lem (Decode.bit 4 (detail_of tree r)) (block_of (child tree text g r E)),
  )

  leaf : (f : (ℕ → Node) → ℕ → Node) → ((g : ℕ → Node) (r : ℕ) → opens x (f g r) + function_opens x (f g r) ≤ 0) → Opening f nowhere
  unfolding opened_by
  leaf f h g r = omega (arith, h g r)

  kinds_opening : AllOpening (kinds tree text) leads_by_kind
  unfolding AllOpening kinds opens function_opens opens_e opens_s int_at float_at str_at bool_at name_at null_at size_of_at type_argument_at declare_at break_at continue_at variable_at
  kinds_opening = (none_opening nowhere, (none_opening nowhere, (leaf (int_at tree text) (λ g r. omega arith), (leaf (float_at tree text) (λ g r. omega arith), (leaf (str_at tree text) (λ g r. omega arith), (leaf (bool_at tree text) (λ g r. omega arith), (leaf (name_at tree text) (λ g r. omega arith), (leaf (null_at tree text) (λ g r. omega arith), (leaf (size_of_at tree text) (λ g r. omega arith), (unary_opening, (binary_opening, (call_opening, (list_opening, (value_opening, (leaf (type_argument_at tree text) (λ g r. omega arith), (leaf (declare_at tree text) (λ g r. omega arith), (init_opening, (return_opening, (call_statement_opening, (if_opening, (while_opening, (for_opening, (leaf (break_at tree text) (λ g r. omega arith), (leaf (continue_at tree text) (λ g r. omega arith), (leaf (variable_at tree text) (λ g r. omega arith), (function_opening, tt))))))))))))))))))))))))))

  -- ---- summed up

  abbrev w : ℕ → ℕ
  w j = opens x (node tree text j)

  -- what a word leads to is lower, or nothing
  child-opens : (n r k : ℕ) → r < n → Dec (word_of tree r k < r)
      → opens x (child tree text (node tree text) r k) ≤ sum_below n (λ j. hit (word_of tree r k) j * w j)
  unfolding child opens
  child-opens n r k h (yes l) = rw (below_in (node tree text) r (word_of tree r k) absent l) (sum_hit n (word_of tree r k) w (omega (arith, h, l)))
  child-opens n r k h (no l) = rw (below_out (node tree text) r (word_of tree r k) absent (omega (arith, l))) (omega arith)

  words_open : (n r : ℕ) (ks : List ℕ) → r < n → opened_by (node tree text) r ks ≤ sum_below n (λ j. mentions_by tree text r ks j * w j)
  unfolding opened_by mentions_by
  words_open n r [] h = omega arith
  words_open n r (k ∷ ks) h = omega (
    arith,
    child-opens n r k h (dec_lt (word_of tree r k) r),
    words_open n r ks h,
    sum-add n (λ j. hit (word_of tree r k) j * w j) (λ j. mentions_by tree text r ks j * w j),
    sum-le n (λ j. hit (word_of tree r k) j * w j + mentions_by tree text r ks j * w j) (λ j. (hit (word_of tree r k) j + mentions_by tree text r ks j) * w j) (λ j l. omega arith),
  )

  record_opens : (n r : ℕ) → r < n → w r + function_opens x (node tree text r) ≤ own x r + sum_below n (λ j. mentions tree text r j * w j)
  unfolding mentions
  record_opens n r h = rw (node-is tree text r (kind_of tree r) refl)
      (omega (
        arith,
        opening_at (kinds tree text) leads_by_kind kinds_opening (kind_of tree r) (node tree text) r,
        words_open n r (get_or leads_by_kind (kind_of tree r) nowhere).all h,
      ))

  -- types and functions open nothing where they are referred to
  type-opens : (j : ℕ) → kind_of tree j ≡ 1 → w j ≡ 0
  unfolding kinds nothing_at opens
  type-opens j e = rw (node-is tree text j 1 (sym e))

  function_opens_lem : (j : ℕ) → kind_of tree j ≡ 25 → w j ≡ 0
  unfolding kinds function_at opens
  function_opens_lem j e = rw (node-is tree text j 25 (sym e))

  once-opens : (n j s : ℕ) → Dec (kind_of tree j ≡ 1) → Dec (kind_of tree j ≡ 25) → (¬ (kind_of tree j ≡ 1) → ¬ (kind_of tree j ≡ 25) → s ≤ 1) → s * w j ≤ w j
  once-opens n j s (yes e) d h = rw (type-opens j e) (omega arith)
  once-opens n j s (no e) (yes d) h = rw (function_opens_lem j d) (omega arith)
  once-opens n j s (no e) (no d) h = mul-le-one s (w j) (h e d)

  all_open : (n : ℕ) → ((j : ℕ) → j < n → Once tree text n j) → sum_below n (λ r. function_opens x (node tree text r)) ≤ 1
  all_open n o =
      let f : ℕ → ℕ = λ r. function_opens x (node tree text r) in
      let m : ℕ → ℕ → ℕ = λ r j. mentions tree text r j * w j in
      let a : sum_below n (λ r. w r + f r) ≤ sum_below n (λ r. own x r + sum_below n (λ j. m r j)) =
      sum-le n (λ r. w r + f r) (λ r. own x r + sum_below n (λ j. m r j)) (λ r h. record_opens n r h) in
      let b : sum_below n (λ j. sum_below n (λ r. m r j)) ≤ sum_below n w =
      sum-le n (λ j. sum_below n (λ r. m r j)) w (λ j h. rw (sum_times n (w j) (λ r. mentions tree text r j))
      (once-opens n j (sum_below n (λ r. mentions tree text r j)) (ℕ_discrete (kind_of tree j) 1) (ℕ_discrete (kind_of tree j) 25) (o j h))) in
      omega (arith, a, b, sum-add n w f, sum-add n (own x) (λ r. sum_below n (λ j. m r j)), own-once n x, sum-swap n n m)

  -- ---- the functions

  unfoldable all_opens : List Function → ℕ
  unfolding body_opens
  all_opens [] = 0
  all_opens (f ∷ l) = body_opens x f.body + all_opens l

  opens-append : (l m : List Function) → all_opens (l ++ m) ≡ all_opens l + all_opens m
  unfolding all_opens
  opens-append [] m = omega arith
  opens-append (f ∷ l) m = rw (opens-append l m) (omega arith)

  found-opens : (b : Bool) (y : Node) → all_opens (pick b (functions_in y) []) ≤ function_opens x y
  unfolding pick functions_in function_opens all_opens
  found-opens false y = omega arith
  found-opens true absent = omega arith
  found-opens true (expr e) = omega arith
  found-opens true (value r e) = omega arith
  found-opens true (to_type r y) = omega arith
  found-opens true (stmt s) = omega arith
  found-opens true (variable r t y) = omega arith
  found-opens true (func f) = omega arith
  found-opens true (cell i l) = omega arith

  functions_open : (n : ℕ) → all_opens (functions_below tree text n) ≤ sum_below n (λ r. function_opens x (node tree text r))
  unfolding functions_below sum_below all_opens
  functions_open zero = omega arith
  functions_open (suc n) = omega (
    arith,
    functions_open n,
    found-opens (eqb (kind_of tree n) 25) (node tree text n),
    opens-append (functions_below tree text n) (pick (eqb (kind_of tree n) 25) (functions_in (node tree text n)) []),
  )

  -- one of the functions
  one-opens : (l : List Function) (i : ℕ) (f : Function) (b : Block) → get_elem? l i ≡ some f → f.body ≡ some b → opens_b b x ≤ all_opens l
  unfolding all_opens body_opens
  one-opens [] i f b e k = let z : ◌≡◌ {A = ℕ} 0 1 = cc in absurd (omega arith)
  one-opens (g ∷ l) zero f b e k = let z : g.body ≡ some b = cc in rw z (omega arith)
  one-opens (g ∷ l) (suc i) f b e k = omega (arith, one-opens l i f b e k)

-- THE LINK: where each record is referred to at most once, no two nodes of a body that open labels have one record
pub once_well_formed : (tree text : List ℕ) → ((j : ℕ) → j < records tree → Once tree text (records tree) j) → WellFormed (program tree text)
unfolding program
once_well_formed tree text o = record {
  once = λ i f b e k x. omega (
    arith,
    one-opens tree text x (functions_below tree text (records tree)) i f b e k,
    functions_open tree text x (records tree),
    all_open tree text x (records tree) o,
  );
}
