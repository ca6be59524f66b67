-- The functions of a tree of n records are made of at most n records, and of its expression records each at most once, where each record but types and
-- functions is referred to at most once and the words that must refer to an expression, a variable or a name do.
-- Each record weighs c, one of an expression r besides v r, and adds that to what the records that it refers to hold; all that is held is summed up twice,
-- by holder and by held. Assumes nothing.
use mathlib.Core.Path.{◌≡◌, refl, sym}
use mathlib.Core.Bool.{Bool, true, false}
use mathlib.Core.List.{List, [], ◌∷◌, ◌++◌, append_assoc}
use mathlib.Core.Option.{Option, none as nothing, some}
use Prim.Native.Nat.{ℕ, zero, suc, ◌+◌, ◌*◌, ◌≤◌, ◌<◌}
use native.Mathlib.Decide.{dec_lt, ℕ_discrete}
use native.Mathlib.Omega.{arith}
use lib.Dec.{eqb}
use lib.ListN.{length, get_or, drop}
use Rattle.laws.specs.Fix.{pick}
use Rattle.laws.specs.Below.{sum_below}
use Rattle.laws.specs.Different.{total, occurs}
use Rattle.laws.proofs.FixLaws.{below_in, below_out}
use Rattle.laws.proofs.Sums.{sum-le, sum-add, sum_one, sum-swap, sum_times, hit, sum_hit, sum_hits}
use Rattle.laws.proofs.DifferentLaws.{total-append}
use Rattle.records.specs.Words.{kind_of, detail_of, word_of, A, B, C, D, E}
use Rattle.syntax.specs.Syntax.{Text, Expr, Args, Block, Param, Function}
use Rattle.syntax.specs.Count.{under, args_records, expr_records, statement_records, block_records, body_records, function_records, all_records}
use Rattle.syntax.specs.Exprs.{exprs, args_exprs, statement_exprs, block_exprs, body_exprs, all_exprs}
use Rattle.syntax.specs.Decode.{Node, absent, expr, value, to_type, stmt, variable, func, cell, expr_of, with_arg, args_of, with_statement, block_of, with_param, params_of, functions_in, bit, child, expr_in, block_in, nothing_at, int_at, float_at, str_at, bool_at, name_at, null_at, size_of_at, unary_at, binary_at, call_at, list_at, value_at, type_argument_at, declare_at, init_at, return_at, call_statement_at, if_at, while_at, for_at, break_at, continue_at, variable_at, function_at, kinds, node, functions_below}
use Rattle.syntax.proofs.Unfold.{node-is}

-- ---- nodes by what they are

pub data AnExpr : Node → Type 0 where
  an_expr_lem : (e : Expr) → AnExpr (expr e)

pub data AVariable : Node → Type 0 where
  a_variable : (r : ℕ) (t : Text) (y : Option ℕ) → AVariable (variable r t y)

-- ---- what a node holds where it is referred to; a function is referred to by nobody

module _ (c : ℕ) (v : ℕ → ℕ) where
  -- n records, of which l are expressions
  abbrev pub weight : ℕ → List ℕ → ℕ
  weight n l = c * n + total v l

  unfoldable held : Node → ℕ
  unfolding total expr_records statement_records exprs statement_exprs
  held absent = 0
  held (expr e) = weight (expr_records e) (exprs e)
  held (value r e) = c + weight (expr_records e) (exprs e)
  held (to_type r y) = c
  held (stmt s) = weight (statement_records s) (statement_exprs s)
  held (variable r t y) = c
  held (func f) = 0
  held (cell i l) = c + (held i + held l)

  unfoldable function_held : Node → ℕ
  unfolding total function_records body_exprs
  function_held absent = 0
  function_held (expr e) = 0
  function_held (value r e) = 0
  function_held (to_type r y) = 0
  function_held (stmt s) = 0
  function_held (variable r t y) = 0
  function_held (func f) = weight (function_records f) (body_exprs f.body)
  function_held (cell i l) = 0

  expr_held : {x : Node} → AnExpr x → weight (expr_records (expr_of x)) (exprs (expr_of x)) ≤ held x
  unfolding held expr_of
  expr_held (an_expr_lem e) = omega arith

  -- a function's name
  name-held : {x : Node} → AnExpr x → c ≤ held x
  unfolding held expr_records
  name-held (an_expr_lem e) = omega arith

  variable-held : {x : Node} → AVariable x → c ≤ held x
  unfolding held
  variable-held (a_variable r t y) = omega arith

  arg_held : (x : Node) (l : Args) → weight (args_records (with_arg x l)) (args_exprs (with_arg x l)) ≤ c + (held x + weight (args_records l) (args_exprs l))
  unfolding held with_arg args_records under expr_records args_exprs exprs
  arg_held (value r e) l = omega (arith, total-append v (exprs e) (args_exprs l))
  arg_held absent l = omega arith
  arg_held (expr e) l = omega arith
  arg_held (to_type r y) l = omega arith
  arg_held (stmt s) l = omega arith
  arg_held (variable r t y) l = omega arith
  arg_held (func f) l = omega arith
  arg_held (cell i k) l = omega arith

  args-held : (x : Node) → weight (args_records (args_of x)) (args_exprs (args_of x)) ≤ held x
  unfolding held args_of args_records under args_exprs exprs total
  args-held (cell i l) = omega (arith, arg_held i (args_of l), args-held l)
  args-held absent = omega arith
  args-held (expr e) = omega arith
  args-held (value r e) = omega arith
  args-held (to_type r y) = omega arith
  args-held (stmt s) = omega arith
  args-held (variable r t y) = omega arith
  args-held (func f) = omega arith

  statement_held : (x : Node) (b : Block) → weight (block_records (with_statement x b)) (block_exprs (with_statement x b))
      ≤ c + (held x + weight (block_records b) (block_exprs b))
  unfolding held with_statement block_records statement_records block_exprs statement_exprs
  statement_held (stmt s) b = omega (arith, total-append v (statement_exprs s) (block_exprs b))
  statement_held absent b = omega arith
  statement_held (expr e) b = omega arith
  statement_held (value r e) b = omega arith
  statement_held (to_type r y) b = omega arith
  statement_held (variable r t y) b = omega arith
  statement_held (func f) b = omega arith
  statement_held (cell i k) b = omega arith

  block_held : (x : Node) → weight (block_records (block_of x)) (block_exprs (block_of x)) ≤ held x
  unfolding held block_of block_records statement_records block_exprs statement_exprs total
  block_held (cell i l) = omega (arith, statement_held i (block_of l), block_held l)
  block_held absent = omega arith
  block_held (expr e) = omega arith
  block_held (value r e) = omega arith
  block_held (to_type r y) = omega arith
  block_held (stmt s) = omega arith
  block_held (variable r t y) = omega arith
  block_held (func f) = omega arith

  param_held : (x : Node) (l : List Param) → c * (2 * length (with_param x l)) ≤ c + (held x + c * (2 * length l))
  unfolding held with_param
  param_held absent l = omega arith
  param_held (expr e) l = omega arith
  param_held (value r e) l = omega arith
  param_held (to_type r y) l = omega arith
  param_held (stmt s) l = omega arith
  param_held (variable r t y) l = omega arith
  param_held (func f) l = omega arith
  param_held (cell i k) l = omega arith

  params-held : (x : Node) → c * (2 * length (params_of x)) ≤ held x
  unfolding held params_of
  params-held (cell i l) = omega (arith, param_held i (params_of l), params-held l)
  params-held absent = omega arith
  params-held (expr e) = omega arith
  params-held (value r e) = omega arith
  params-held (to_type r y) = omega arith
  params-held (stmt s) = omega arith
  params-held (variable r t y) = omega arith
  params-held (func f) = omega arith

mul-le-one : (s n : ℕ) → s ≤ 1 → s * n ≤ n
mul-le-one zero n h = omega arith
mul-le-one (suc zero) n h = omega arith
mul-le-one (suc (suc s)) n h = absurd (omega arith)

-- ---- by kind: the words that lead to records of its own, those of them that must lead to an expression, and those that must lead to a variable

pub record Leads : Type 0 where
  pub all : List ℕ
  pub must : List ℕ
  pub bound : List ℕ

abbrev pub leads : List ℕ → List ℕ → Leads
leads a m = record { all = a; must = m; bound = [] }

abbrev pub nowhere : Leads
nowhere = leads [] []

abbrev pub for_leads : Leads
for_leads = record { all = A ∷ B ∷ C ∷ D ∷ []; must = B ∷ C ∷ []; bound = A ∷ [] }

abbrev pub leads_by_kind : List Leads
leads_by_kind = nowhere ∷ nowhere ∷ nowhere ∷ nowhere ∷ nowhere ∷ nowhere ∷ nowhere ∷ nowhere ∷ nowhere
    ∷ leads (A ∷ []) (A ∷ []) ∷ leads (A ∷ B ∷ []) (A ∷ B ∷ []) ∷ leads (C ∷ []) [] ∷ leads (A ∷ B ∷ []) []
    ∷ leads (A ∷ []) (A ∷ []) ∷ nowhere ∷ nowhere ∷ leads (C ∷ []) (C ∷ []) ∷ leads (A ∷ []) (A ∷ []) ∷ leads (A ∷ []) (A ∷ [])
    ∷ leads (A ∷ B ∷ C ∷ []) (A ∷ []) ∷ leads (A ∷ B ∷ []) (A ∷ []) ∷ for_leads
    ∷ nowhere ∷ nowhere ∷ nowhere ∷ leads (A ∷ B ∷ C ∷ E ∷ []) (A ∷ B ∷ []) ∷ []

-- ---- how often record r refers to record j by words that lead to records of its own

module _ (tree text : List ℕ) where
  unfoldable pub mentions_by : ℕ → List ℕ → ℕ → ℕ
  unfolding hit
  mentions_by r [] j = 0
  mentions_by r (k ∷ ks) j = hit (word_of tree r k) j + mentions_by r ks j

  unfoldable pub mentions : ℕ → ℕ → ℕ
  unfolding mentions_by kind_of
  mentions r j = mentions_by r (get_or leads_by_kind (kind_of tree r) nowhere).all j

  -- 'Each record but types and functions is referred to exactly once'
  abbrev pub Once : ℕ → ℕ → Type 0
  Once n j = ¬ (kind_of tree j ≡ 1) → ¬ (kind_of tree j ≡ 25) → sum_below n (λ r. mentions r j) ≤ 1

  -- the words ks of record r lead to what P holds of
  abbrev pub Present : (Node → Type 0) → (ℕ → Node) → ℕ → List ℕ → Type 0
  Present P g r [] = Unit {0}
  Present P g r (k ∷ ks) = P (child tree text g r k) × Present P g r ks

  -- each word of record r leads to what it must
  abbrev pub Led : (ℕ → Node) → ℕ → Leads → Type 0
  Led g r w = Present AnExpr g r w.must × Present AVariable g r w.bound

  abbrev pub Complete : ℕ → Type 0
  Complete r = Led (node tree text) r (get_or leads_by_kind (kind_of tree r) nowhere)

module _ (tree text : List ℕ) (c : ℕ) (v : ℕ → ℕ) where
  -- what word k of record r leads to, as an expression and as a block: its expression records
  abbrev exprs_in : (ℕ → Node) → ℕ → ℕ → List ℕ
  exprs_in g r k = exprs (expr_in tree text g r k)

  abbrev blocks_in : (ℕ → Node) → ℕ → ℕ → List ℕ
  blocks_in g r k = block_exprs (block_in tree text g r k)

  -- what the words ks of record r lead to holds
  unfoldable held_by : (ℕ → Node) → ℕ → List ℕ → ℕ
  unfolding held
  held_by g r [] = 0
  held_by g r (k ∷ ks) = held c v (child tree text g r k) + held_by g r ks

  -- a kind's own record adds its weight to what it leads to
  abbrev Adds : ((ℕ → Node) → ℕ → Node) → Leads → Type 0
  Adds f w = (g : ℕ → Node) (r : ℕ) → Led tree text g r w → held c v (f g r) + function_held c v (f g r) ≤ (c + v r) + held_by g r w.all

  AllAdd : List ((ℕ → Node) → ℕ → Node) → List Leads → Type 0
  AllAdd [] ws = Unit {0}
  AllAdd (f ∷ fs) [] = Adds f nowhere × AllAdd fs []
  AllAdd (f ∷ fs) (w ∷ ws) = Adds f w × AllAdd fs ws

  none-adds : (w : Leads) → Adds (nothing_at tree text) w
  unfolding nothing_at held function_held
  none-adds w g r p = omega arith

  adds-at : (fs : List ((ℕ → Node) → ℕ → Node)) (ws : List Leads) → AllAdd fs ws
      → (k : ℕ) → Adds (get_or fs k (nothing_at tree text)) (get_or ws k nowhere)
  unfolding AllAdd
  adds-at [] ws a k = none-adds (get_or ws k nowhere)
  adds-at (f ∷ fs) [] a zero = a.0
  adds-at (f ∷ fs) [] a (suc k) = adds-at fs [] a.1 k
  adds-at (f ∷ fs) (w ∷ ws) a zero = a.0
  adds-at (f ∷ fs) (w ∷ ws) a (suc k) = adds-at fs ws a.1 k

  unary-adds : Adds (unary_at tree text) (leads (A ∷ []) (A ∷ []))
  unfolding unary_at expr_in held_by held function_held expr_records under exprs total
  unary-adds g r p = omega (arith, expr_held c v p.0.0)

  binary-adds : Adds (binary_at tree text) (leads (A ∷ B ∷ []) (A ∷ B ∷ []))
  unfolding binary_at expr_in held_by held function_held expr_records under exprs total
  binary-adds g r p = omega (arith, expr_held c v p.0.0, expr_held c v p.0.1.0, total-append v (exprs_in g r A) (exprs_in g r B))

  call-adds : Adds (call_at tree text) (leads (C ∷ []) [])
  unfolding call_at held_by held function_held expr_records under exprs total
  call-adds g r p = omega (arith, args-held c v (child tree text g r C))

  list-adds : Adds (list_at tree text) (leads (A ∷ B ∷ []) [])
  unfolding list_at held_by held function_held
  list-adds g r p = omega arith

  value-adds : Adds (value_at tree text) (leads (A ∷ []) (A ∷ []))
  unfolding value_at expr_in held_by held function_held
  value-adds g r p = omega (arith, expr_held c v p.0.0)

  init_adds : Adds (init_at tree text) (leads (C ∷ []) (C ∷ []))
  unfolding init_at expr_in held_by held function_held statement_records statement_exprs
  init_adds g r p = omega (arith, expr_held c v p.0.0)

  return-adds : Adds (return_at tree text) (leads (A ∷ []) (A ∷ []))
  unfolding return_at expr_in held_by held function_held statement_records statement_exprs
  return-adds g r p = omega (arith, expr_held c v p.0.0)

  call_statement-adds : Adds (call_statement_at tree text) (leads (A ∷ []) (A ∷ []))
  unfolding call_statement_at expr_in held_by held function_held statement_records statement_exprs
  call_statement-adds g r p = omega (arith, expr_held c v p.0.0)

  pick-held : (b : Bool) (x y : Node) (n : ℕ) → held c v x + function_held c v x ≤ n → held c v y + function_held c v y ≤ n
      → held c v (pick b x y) + function_held c v (pick b x y) ≤ n
  unfolding pick
  pick-held true x y n h k = h
  pick-held false x y n h k = k

  if-adds : Adds (if_at tree text) (leads (A ∷ B ∷ C ∷ []) (A ∷ []))
  unfolding if_at expr_in block_in held_by held function_held statement_records statement_exprs
  if-adds g r p = pick-held (bit 1 (detail_of tree r)) _ _ _
      (omega (
        arith,
        expr_held c v p.0.0,
        block_held c v (child tree text g r B),
        block_held c v (child tree text g r C),
        total-append v (exprs_in g r A) (blocks_in g r B ++ blocks_in g r C),
        total-append v (blocks_in g r B) (blocks_in g r C),
      ))
      (omega (arith, expr_held c v p.0.0, block_held c v (child tree text g r B), total-append v (exprs_in g r A) (blocks_in g r B)))

  while_adds : Adds (while_at tree text) (leads (A ∷ B ∷ []) (A ∷ []))
  unfolding while_at expr_in block_in held_by held function_held statement_records statement_exprs
  while_adds g r p = omega (arith, expr_held c v p.0.0, block_held c v (child tree text g r B), total-append v (exprs_in g r A) (blocks_in g r B))

  for_adds : Adds (for_at tree text) for_leads
  unfolding for_at expr_in block_in held_by held function_held statement_records statement_exprs
  for_adds g r p = omega (
    arith,
    variable-held c v p.1.0,
    expr_held c v p.0.0,
    expr_held c v p.0.1.0,
    block_held c v (child tree text g r D),
    total-append v (exprs_in g r B) (exprs_in g r C ++ blocks_in g r D),
    total-append v (exprs_in g r C) (blocks_in g r D),
  )

  body-held : (b : Bool) (x : Block) → weight c v (body_records (pick b (some x) nothing)) (body_exprs (pick b (some x) nothing)) ≤ weight c v (block_records x) (block_exprs x)
  unfolding pick body_records body_exprs total
  body-held true x = omega arith
  body-held false x = omega arith

  function-adds : Adds (function_at tree text) (leads (A ∷ B ∷ C ∷ E ∷ []) (A ∷ B ∷ []))
  unfolding function_at block_in held_by held function_held function_records
  function-adds g r p = omega (
    arith,
    name-held c v p.0.0,
    name-held c v p.0.1.0,
    params-held c v (child tree text g r C),
    block_held c v (child tree text g r E),
    body-held (bit 4 (detail_of tree r)) (block_of (child tree text g r E)),
  )

  leaf_adds : (f : (ℕ → Node) → ℕ → Node) → ((g : ℕ → Node) (r : ℕ) → held c v (f g r) + function_held c v (f g r) ≤ c + v r) → Adds f nowhere
  unfolding held_by
  leaf_adds f h g r p = omega (arith, h g r)

  kinds-add : AllAdd (kinds tree text) leads_by_kind
  unfolding AllAdd kinds held function_held total expr_records under statement_records exprs statement_exprs nothing_at int_at float_at str_at bool_at name_at null_at size_of_at type_argument_at declare_at break_at continue_at variable_at
  kinds-add = (
    none-adds nowhere,
    (
      none-adds nowhere,
      (
        leaf_adds (int_at tree text) (λ g r. omega arith),
        (
          leaf_adds (float_at tree text) (λ g r. omega arith),
          (
            leaf_adds (str_at tree text) (λ g r. omega arith),
            (
              leaf_adds (bool_at tree text) (λ g r. omega arith),
              (
                leaf_adds (name_at tree text) (λ g r. omega arith),
                (
                  leaf_adds (null_at tree text) (λ g r. omega arith),
                  (
                    leaf_adds (size_of_at tree text) (λ g r. omega arith),
                    (
                      unary-adds,
                      (
                        binary-adds,
                        (
                          call-adds,
                          (
                            list-adds,
                            (
                              value-adds,
                              (
                                leaf_adds (type_argument_at tree text) (λ g r. omega arith),
                                (
                                  leaf_adds (declare_at tree text) (λ g r. omega arith),
                                  (
                                    init_adds,
                                    (
                                      return-adds,
                                      (
                                        call_statement-adds,
                                        (
                                          if-adds,
                                          (
                                            while_adds,
                                            (
                                              for_adds,
                                              (leaf_adds (break_at tree text) (λ g r. omega arith), (leaf_adds (continue_at tree text) (λ g r. omega arith), (leaf_adds (variable_at tree text) (λ g r. omega arith), (function-adds, tt)))),
                                            ),
                                          ),
                                        ),
                                      ),
                                    ),
                                  ),
                                ),
                              ),
                            ),
                          ),
                        ),
                      ),
                    ),
                  ),
                ),
              ),
            ),
          ),
        ),
      ),
    ),
  )

  abbrev w : ℕ → ℕ
  w j = held c v (node tree text j)

  -- what a word leads to is lower, or nothing
  child-held : (n r k : ℕ) → r < n → Dec (word_of tree r k < r)
      → held c v (child tree text (node tree text) r k) ≤ sum_below n (λ j. hit (word_of tree r k) j * w j)
  unfolding child held
  child-held n r k h (yes l) = rw (below_in (node tree text) r (word_of tree r k) absent l) (sum_hit n (word_of tree r k) w (omega (arith, h, l)))
  child-held n r k h (no l) = rw (below_out (node tree text) r (word_of tree r k) absent (omega (arith, l))) (omega arith)

  words-held : (n r : ℕ) (ks : List ℕ) → r < n → held_by (node tree text) r ks ≤ sum_below n (λ j. mentions_by tree text r ks j * w j)
  unfolding held_by mentions_by
  words-held n r [] h = omega arith
  words-held n r (k ∷ ks) h = omega (
    arith,
    child-held n r k h (dec_lt (word_of tree r k) r),
    words-held n r ks h,
    sum-add n (λ j. hit (word_of tree r k) j * w j) (λ j. mentions_by tree text r ks j * w j),
    sum-le n (λ j. hit (word_of tree r k) j * w j + mentions_by tree text r ks j * w j) (λ j. (hit (word_of tree r k) j + mentions_by tree text r ks j) * w j) (λ j l. omega arith),
  )

  record_held : (n r : ℕ) → r < n → Complete tree text r → w r + function_held c v (node tree text r) ≤ (c + v r) + sum_below n (λ j. mentions tree text r j * w j)
  unfolding mentions
  record_held n r h c = rw (node-is tree text r (kind_of tree r) refl)
      (omega (
        arith,
        adds-at (kinds tree text) leads_by_kind kinds-add (kind_of tree r) (node tree text) r c,
        words-held n r (get_or leads_by_kind (kind_of tree r) nowhere).all h,
      ))

  -- types and functions hold nothing where they are referred to
  type-held : (j : ℕ) → kind_of tree j ≡ 1 → w j ≡ 0
  unfolding kinds nothing_at held
  type-held j e = rw (node-is tree text j 1 (sym e))

  function_held_lem : (j : ℕ) → kind_of tree j ≡ 25 → w j ≡ 0
  unfolding kinds function_at held
  function_held_lem j e = rw (node-is tree text j 25 (sym e))

  once-held : (n j s : ℕ) → Dec (kind_of tree j ≡ 1) → Dec (kind_of tree j ≡ 25) → (¬ (kind_of tree j ≡ 1) → ¬ (kind_of tree j ≡ 25) → s ≤ 1) → s * w j ≤ w j
  once-held n j s (yes e) d h = rw (type-held j e) (omega arith)
  once-held n j s (no e) (yes d) h = rw (function_held_lem j d) (omega arith)
  once-held n j s (no e) (no d) h = mul-le-one s (w j) (h e d)

  all_held_lem : (n : ℕ) → ((r : ℕ) → r < n → Complete tree text r) → ((j : ℕ) → j < n → Once tree text n j) → sum_below n (λ r. function_held c v (node tree text r)) ≤ sum_below n (λ r. c + v r)
  all_held_lem n p o =
      let f : ℕ → ℕ = λ r. function_held c v (node tree text r) in
      let m : ℕ → ℕ → ℕ = λ r j. mentions tree text r j * w j in
      let a : sum_below n (λ r. w r + f r) ≤ sum_below n (λ r. (c + v r) + sum_below n (λ j. m r j)) =
      sum-le n (λ r. w r + f r) (λ r. (c + v r) + sum_below n (λ j. m r j)) (λ r h. record_held n r h (p r h)) in
      let b : sum_below n (λ j. sum_below n (λ r. m r j)) ≤ sum_below n w =
      sum-le n (λ j. sum_below n (λ r. m r j)) w (λ j h. rw (sum_times n (w j) (λ r. mentions tree text r j))
      (once-held n j (sum_below n (λ r. mentions tree text r j)) (ℕ_discrete (kind_of tree j) 1) (ℕ_discrete (kind_of tree j) 25) (o j h))) in
      omega (arith, a, b, sum-add n w f, sum-add n (λ r. c + v r) (λ r. sum_below n (λ j. m r j)), sum-swap n n m)

  -- ---- the functions

  records-append : (l m : List Function) → all_records (l ++ m) ≡ all_records l + all_records m
  unfolding all_records
  records-append [] m = omega arith
  records-append (f ∷ l) m = rw (records-append l m) (omega arith)

  exprs-append : (l m : List Function) → all_exprs (l ++ m) ≡ all_exprs l ++ all_exprs m
  unfolding all_exprs
  exprs-append [] m = refl
  exprs-append (f ∷ l) m = rw (exprs-append l m) (sym (append_assoc (body_exprs f.body) (all_exprs l) (all_exprs m)))

  abbrev all_held : List Function → ℕ
  all_held l = weight c v (all_records l) (all_exprs l)

  held-append : (l m : List Function) → all_held (l ++ m) ≡ all_held l + all_held m
  held-append l m = rw (records-append l m, exprs-append l m, total-append v (all_exprs l) (all_exprs m)) (omega arith)

  found-held : (b : Bool) (x : Node) → all_held (pick b (functions_in x) []) ≤ function_held c v x
  unfolding pick functions_in function_held all_records all_exprs total
  found-held false x = omega arith
  found-held true (func f) = omega (arith, total-append v (body_exprs f.body) [])
  found-held true absent = omega arith
  found-held true (expr e) = omega arith
  found-held true (value r e) = omega arith
  found-held true (to_type r y) = omega arith
  found-held true (stmt s) = omega arith
  found-held true (variable r t y) = omega arith
  found-held true (cell i l) = omega arith

  functions-held : (n : ℕ) → all_held (functions_below tree text n) ≤ sum_below n (λ r. function_held c v (node tree text r))
  unfolding functions_below sum_below all_records all_exprs total
  functions-held zero = omega arith
  functions-held (suc n) = omega (
    arith,
    functions-held n,
    found-held (eqb (kind_of tree n) 25) (node tree text n),
    held-append (functions_below tree text n) (pick (eqb (kind_of tree n) 25) (functions_in (node tree text n)) []),
  )

  -- THE COUNT: what the functions among the first n records are made of weighs no more than these records
  pub functions_weigh : (n : ℕ) → ((r : ℕ) → r < n → Complete tree text r) → ((j : ℕ) → j < n → Once tree text n j)
      → weight c v (all_records (functions_below tree text n)) (all_exprs (functions_below tree text n)) ≤ sum_below n (λ r. c + v r)
  functions_weigh n p o = omega (arith, functions-held n, all_held_lem n p o)

module _ (tree text : List ℕ) where
  -- where each weighs 1: they are made of at most n records
  pub functions-records : (n : ℕ) → ((r : ℕ) → r < n → Complete tree text r) → ((j : ℕ) → j < n → Once tree text n j) → all_records (functions_below tree text n) ≤ n
  functions-records n p o = omega (arith, functions_weigh tree text 1 (λ r. 0) n p o, sum_one n)

  -- where the expression record q alone weighs: it is met at most once
  pub functions-once : (n q : ℕ) → ((r : ℕ) → r < n → Complete tree text r) → ((j : ℕ) → j < n → Once tree text n j) → occurs q (all_exprs (functions_below tree text n)) ≤ 1
  unfolding occurs hit
  functions-once n q p o = omega (
    arith,
    functions_weigh tree text 0 (hit q) n p o,
    sum-le n (λ r. 0 + hit q r) (hit q) (λ r h. omega arith),
    sum_hits n q,
  )

  -- ---- what a lower record of a kind is: what makes a record complete

  AllExprs : ℕ → List ((ℕ → Node) → ℕ → Node) → Type 0
  AllExprs zero fs = Unit {0}
  AllExprs (suc n) [] = ⊥
  AllExprs (suc n) (f ∷ fs) = ((g : ℕ → Node) (r : ℕ) → AnExpr (f g r)) × AllExprs n fs

  expr_at_lem : (n : ℕ) (fs : List ((ℕ → Node) → ℕ → Node)) → AllExprs n fs
      → (k : ℕ) → k < n → (g : ℕ → Node) (r : ℕ) → AnExpr (get_or fs k (nothing_at tree text) g r)
  unfolding AllExprs
  expr_at_lem zero fs a k h = absurd (omega arith)
  expr_at_lem (suc n) [] a k h = absurd a
  expr_at_lem (suc n) (f ∷ fs) a zero h = a.0
  expr_at_lem (suc n) (f ∷ fs) a (suc k) h = expr_at_lem n fs a.1 k (omega arith)

  kinds-exprs : (g : ℕ → Node) (r k : ℕ) → k < 10 → AnExpr (get_or (kinds tree text) (suc (suc k)) (nothing_at tree text) g r)
  unfolding AllExprs kinds int_at float_at str_at bool_at name_at null_at size_of_at unary_at binary_at call_at
  kinds-exprs g r k h = expr_at_lem 10 (drop 2 (kinds tree text))
      ((λ g r. an_expr_lem _), ((λ g r. an_expr_lem _), ((λ g r. an_expr_lem _), ((λ g r. an_expr_lem _), ((λ g r. an_expr_lem _), ((λ g r. an_expr_lem _), ((λ g r. an_expr_lem _), ((λ g r. an_expr_lem _), ((λ g r. an_expr_lem _), ((λ g r. an_expr_lem _), tt))))))))))
      k h g r

  pub expr-below : (r i k : ℕ) → word_of tree r i < r → kind_of tree (word_of tree r i) ≡ suc (suc k) → k < 10 → AnExpr (child tree text (node tree text) r i)
  unfolding child
  expr-below r i k h e l = rw (below_in (node tree text) r (word_of tree r i) absent h, node-is tree text (word_of tree r i) (suc (suc k)) (sym e))
      (kinds-exprs (node tree text) (word_of tree r i) k l)

  pub variable-below : (r i : ℕ) → word_of tree r i < r → kind_of tree (word_of tree r i) ≡ 24 → AVariable (child tree text (node tree text) r i)
  unfolding child kinds variable_at
  variable-below r i h e = rw (below_in (node tree text) r (word_of tree r i) absent h, node-is tree text (word_of tree r i) 24 (sym e)) (a_variable _ _ _)
