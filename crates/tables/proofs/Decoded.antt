-- The syntax tree of a record tree fits: record and type numbers are words, literals have 64 bits, a string is the bytes that it refers to.
-- By induction on the steps down from a record; a word of four bytes fits whatever the record says. Assumes nothing.
use mathlib.Core.Path.{refl}
use Prim.Native.Nat.{ℕ, zero, suc, ◌+◌, ◌*◌, ◌<◌, ◌^◌}
use mathlib.Core.List.{List, [], ◌∷◌}
use mathlib.Core.Option.{Option, none as nothing, some}
use native.Mathlib.Omega.{arith}
use lib.Dec.{eqb, ltb}
use lib.ListN.{get_or}
use mir.Facts.{sfits_to_z}
use Rattle.laws.specs.All.{All}
use Rattle.laws.specs.Fix.{below, fix_f, fix}
use Rattle.records.specs.Words.{kind_of, detail_of, word_of, records, none, A, B, C, D, E}
use Rattle.syntax.specs.Syntax.{Args, Block, Param}
use Rattle.syntax.specs.Decode.{Node, absent, expr, value, to_type, stmt, variable, func, cell, expr_of, with_arg, args_of, with_statement, block_of, or_zero, with_param, params_of, variable_type, functions_in, bit, reference, text_of, wide_of, child, expr_in, block_in, nothing_at, int_at, float_at, str_at, bool_at, name_at, null_at, size_of_at, unary_at, binary_at, call_at, list_at, value_at, type_argument_at, declare_at, init_at, return_at, call_statement_at, if_at, while_at, for_at, break_at, continue_at, variable_at, function_at, kinds, node_step, node, functions_below, program}
use Rattle.tables.specs.Bytes.{Byte}
use Rattle.tables.proofs.Exists.{Word}
use Rattle.tables.proofs.Numbers.{word_small}
use Rattle.tables.proofs.SyntaxFits.{OptIs, none_is, some_is, ExprFits, ArgsFit, StatementFits, BlockFits, FunctionFitsIn, TreeFits}
use Rattle.tables.proofs.Typing.{pick_is}
use Rattle.tables.proofs.Keeps.{all_append}

module _ (tree text : List ℕ) where
  abbrev NodeFits : Node → Type 0
  NodeFits absent = Unit {0}
  NodeFits (expr e) = ExprFits text e
  NodeFits (value r e) = ExprFits text e
  NodeFits (to_type r y) = Word y
  NodeFits (stmt s) = StatementFits text s
  NodeFits (variable r t y) = OptIs Word y
  NodeFits (func f) = FunctionFitsIn text f
  NodeFits (cell a b) = NodeFits a × NodeFits b

  -- ---- a node as what is expected there

  expr_of_lem : (n : Node) → NodeFits n → ExprFits text (expr_of n)
  unfolding expr_of
  expr_of_lem (expr e) h = h
  expr_of_lem absent h = tt
  expr_of_lem (value r e) h = tt
  expr_of_lem (to_type r y) h = tt
  expr_of_lem (stmt s) h = tt
  expr_of_lem (variable r t y) h = tt
  expr_of_lem (func f) h = tt
  expr_of_lem (cell a b) h = tt

  with_arg_lem : (n : Node) (l : Args) → NodeFits n → ArgsFit text l → ArgsFit text (with_arg n l)
  unfolding with_arg
  with_arg_lem (value r e) l h k = (h, k)
  with_arg_lem (to_type r y) l h k = (h, k)
  with_arg_lem absent l h k = k
  with_arg_lem (expr e) l h k = k
  with_arg_lem (stmt s) l h k = k
  with_arg_lem (variable r t y) l h k = k
  with_arg_lem (func f) l h k = k
  with_arg_lem (cell a b) l h k = k

  args_of_lem : (n : Node) → NodeFits n → ArgsFit text (args_of n)
  unfolding args_of
  args_of_lem (cell a b) h = with_arg_lem a (args_of b) h.0 (args_of_lem b h.1)
  args_of_lem absent h = tt
  args_of_lem (expr e) h = tt
  args_of_lem (value r e) h = tt
  args_of_lem (to_type r y) h = tt
  args_of_lem (stmt s) h = tt
  args_of_lem (variable r t y) h = tt
  args_of_lem (func f) h = tt

  with_statement_lem : (n : Node) (b : Block) → NodeFits n → BlockFits text b → BlockFits text (with_statement n b)
  unfolding with_statement
  with_statement_lem (stmt s) b h k = (h, k)
  with_statement_lem absent b h k = k
  with_statement_lem (expr e) b h k = k
  with_statement_lem (value r e) b h k = k
  with_statement_lem (to_type r y) b h k = k
  with_statement_lem (variable r t y) b h k = k
  with_statement_lem (func f) b h k = k
  with_statement_lem (cell a c) b h k = k

  block_of_lem : (n : Node) → NodeFits n → BlockFits text (block_of n)
  unfolding block_of
  block_of_lem (cell a b) h = with_statement_lem a (block_of b) h.0 (block_of_lem b h.1)
  block_of_lem absent h = tt
  block_of_lem (expr e) h = tt
  block_of_lem (value r e) h = tt
  block_of_lem (to_type r y) h = tt
  block_of_lem (stmt s) h = tt
  block_of_lem (variable r t y) h = tt
  block_of_lem (func f) h = tt

  or_zero_lem : {o : Option ℕ} → OptIs Word o → Word (or_zero o)
  unfolding or_zero
  or_zero_lem none_is = omega arith
  or_zero_lem (some_is h) = h

  abbrev ParamsFit : List Param → Type 0
  ParamsFit l = All (λ p. Word p.ty) l

  with_param_lem : (n : Node) (l : List Param) → NodeFits n → ParamsFit l → ParamsFit (with_param n l)
  unfolding with_param
  with_param_lem (variable r t y) l h k = (or_zero_lem h, k)
  with_param_lem absent l h k = k
  with_param_lem (expr e) l h k = k
  with_param_lem (value r e) l h k = k
  with_param_lem (to_type r y) l h k = k
  with_param_lem (stmt s) l h k = k
  with_param_lem (func f) l h k = k
  with_param_lem (cell a b) l h k = k

  params_of_lem : (n : Node) → NodeFits n → ParamsFit (params_of n)
  unfolding params_of
  params_of_lem (cell a b) h = with_param_lem a (params_of b) h.0 (params_of_lem b h.1)
  params_of_lem absent h = tt
  params_of_lem (expr e) h = tt
  params_of_lem (value r e) h = tt
  params_of_lem (to_type r y) h = tt
  params_of_lem (stmt s) h = tt
  params_of_lem (variable r t y) h = tt
  params_of_lem (func f) h = tt

  variable_type_lem : (n : Node) → NodeFits n → OptIs Word (variable_type n)
  unfolding variable_type
  variable_type_lem (variable r t y) h = h
  variable_type_lem absent h = none_is
  variable_type_lem (expr e) h = none_is
  variable_type_lem (value r e) h = none_is
  variable_type_lem (to_type r y) h = none_is
  variable_type_lem (stmt s) h = none_is
  variable_type_lem (func f) h = none_is
  variable_type_lem (cell a b) h = none_is

  functions_listed : (n : Node) → NodeFits n → All (FunctionFitsIn text) (functions_in n)
  unfolding functions_in
  functions_listed (func f) h = (h, tt)
  functions_listed absent h = tt
  functions_listed (expr e) h = tt
  functions_listed (value r e) h = tt
  functions_listed (to_type r y) h = tt
  functions_listed (stmt s) h = tt
  functions_listed (variable r t y) h = tt
  functions_listed (cell a b) h = tt

  module _ (bytes : All Byte tree) where
    word_fits : (r k : ℕ) → Word (word_of tree r k)
    unfolding word_of
    word_fits r k = word_small tree bytes (r * 32 + 4 + k * 4)

    wide_fits : (r k : ℕ) → wide_of tree text r k < 2 ^ 64
    unfolding wide_of
    wide_fits r k = omega (arith, word_fits r k, word_fits r (suc k))

    reference-fits : (r k : ℕ) → OptIs Word (reference (word_of tree r k))
    unfolding reference
    reference-fits r k = pick_is (OptIs Word) (eqb (word_of tree r k) none) nothing (some (word_of tree r k)) none_is (some_is (word_fits r k))

    -- ---- one law for each kind

    abbrev Fits : ((ℕ → Node) → ℕ → Node) → Type 0
    Fits f = (g : ℕ → Node) → ((k : ℕ) → Word k → NodeFits (g k)) → (r : ℕ) → Word r → NodeFits (f g r)

    module _ (g : ℕ → Node) (lower : (k : ℕ) → Word k → NodeFits (g k)) where
      child_fits : (r k : ℕ) → NodeFits (child tree text g r k)
      unfolding child below
      child_fits r k = pick_is NodeFits (ltb (word_of tree r k) r) (g (word_of tree r k)) absent (lower (word_of tree r k) (word_fits r k)) tt

      expr_in_lem : (r k : ℕ) → ExprFits text (expr_in tree text g r k)
      unfolding expr_in
      expr_in_lem r k = expr_of_lem (child tree text g r k) (child_fits r k)

      block_in_lem : (r k : ℕ) → BlockFits text (block_in tree text g r k)
      unfolding block_in
      block_in_lem r k = block_of_lem (child tree text g r k) (child_fits r k)

    nothing_fits : Fits (nothing_at tree text)
    unfolding nothing_at
    nothing_fits g l r w = tt

    int_fits : Fits (int_at tree text)
    unfolding int_at
    int_fits g l r w = sfits_to_z (record { fits = wide_fits r A })

    float_fits : Fits (float_at tree text)
    unfolding float_at
    float_fits g l r w = wide_fits r A

    str-fits : Fits (str_at tree text)
    unfolding str_at text_of
    str-fits g l r w = (word_fits r A, word_fits r B, refl)

    bool-fits : Fits (bool_at tree text)
    unfolding bool_at
    bool-fits g l r w = tt

    name-fits : Fits (name_at tree text)
    unfolding name_at
    name-fits g l r w = tt

    null_fits : Fits (null_at tree text)
    unfolding null_at
    null_fits g l r w = tt

    size_fits : Fits (size_of_at tree text)
    unfolding size_of_at
    size_fits g l r w = tt

    unary-fits : Fits (unary_at tree text)
    unfolding unary_at
    unary-fits g l r w = expr_in_lem g l r A

    binary-fits : Fits (binary_at tree text)
    unfolding binary_at
    binary-fits g l r w = (w, expr_in_lem g l r A, expr_in_lem g l r B)

    call_fits : Fits (call_at tree text)
    unfolding call_at
    call_fits g l r w = args_of_lem (child tree text g r C) (child_fits g l r C)

    list-fits : Fits (list_at tree text)
    unfolding list_at
    list-fits g l r w = (child_fits g l r A, child_fits g l r B)

    value-fits : Fits (value_at tree text)
    unfolding value_at
    value-fits g l r w = expr_in_lem g l r A

    type_argument_fits : Fits (type_argument_at tree text)
    unfolding type_argument_at
    type_argument_fits g l r w = word_fits r A

    declare-fits : Fits (declare_at tree text)
    unfolding declare_at
    declare-fits g l r w = (w, word_fits r C)

    init_fits : Fits (init_at tree text)
    unfolding init_at
    init_fits g l r w = (w, expr_in_lem g l r C)

    return_fits : Fits (return_at tree text)
    unfolding return_at
    return_fits g l r w = (w, expr_in_lem g l r A)

    call_statement-fits : Fits (call_statement_at tree text)
    unfolding call_statement_at
    call_statement-fits g l r w = (w, expr_in_lem g l r A)

    if-fits : Fits (if_at tree text)
    unfolding if_at
    if-fits g l r w = pick_is NodeFits (bit 1 (detail_of tree r)) _ _
        (w, expr_in_lem g l r A, block_in_lem g l r B, block_in_lem g l r C) (w, expr_in_lem g l r A, block_in_lem g l r B)

    while_fits : Fits (while_at tree text)
    unfolding while_at
    while_fits g l r w = (w, expr_in_lem g l r A, block_in_lem g l r B)

    for_fits : Fits (for_at tree text)
    unfolding for_at
    for_fits g l r w = (w, variable_type_lem (child tree text g r A) (child_fits g l r A), expr_in_lem g l r B, expr_in_lem g l r C, block_in_lem g l r D)

    break_fits : Fits (break_at tree text)
    unfolding break_at
    break_fits g l r w = w

    continue_fits : Fits (continue_at tree text)
    unfolding continue_at
    continue_fits g l r w = w

    variable-fits : Fits (variable_at tree text)
    unfolding variable_at
    variable-fits g l r w = reference-fits r C

    function-fits : Fits (function_at tree text)
    unfolding function_at
    function-fits g l r w = record {
      signature = record {
        rec_of = w;
        return_type = reference-fits r D;
        params = params_of_lem (child tree text g r C) (child_fits g l r C);
      };
      body = pick_is (OptIs (BlockFits text)) (bit 4 (detail_of tree r)) (some (block_in tree text g r E)) nothing (some_is (block_in_lem g l r E)) none_is;
    }

    fits_at_lem : (l : List ((ℕ → Node) → ℕ → Node)) (d : (ℕ → Node) → ℕ → Node) (n : ℕ) → All Fits l → Fits d → Fits (get_or l n d)
    fits_at_lem [] d n h k = k
    fits_at_lem (f ∷ l) d zero h k = h.0
    fits_at_lem (f ∷ l) d (suc n) h k = fits_at_lem l d n h.1 k

    kinds-fit : All Fits (kinds tree text)
    unfolding kinds
    kinds-fit = (
      nothing_fits,
      (
        nothing_fits,
        (
          int_fits,
          (
            float_fits,
            (
              str-fits,
              (
                bool-fits,
                (
                  name-fits,
                  (
                    null_fits,
                    (
                      size_fits,
                      (
                        unary-fits,
                        (
                          binary-fits,
                          (
                            call_fits,
                            (
                              list-fits,
                              (
                                value-fits,
                                (
                                  type_argument_fits,
                                  (
                                    declare-fits,
                                    (
                                      init_fits,
                                      (
                                        return_fits,
                                        (
                                          call_statement-fits,
                                          (if-fits, (while_fits, (for_fits, (break_fits, (continue_fits, (variable-fits, (function-fits, tt))))))),
                                        ),
                                      ),
                                    ),
                                  ),
                                ),
                              ),
                            ),
                          ),
                        ),
                      ),
                    ),
                  ),
                ),
              ),
            ),
          ),
        ),
      ),
    )

    -- ---- the whole

    steps-fit : (f r : ℕ) → Word r → NodeFits (fix_f absent (node_step tree text) f r)
    unfolding fix_f node_step
    steps-fit zero r w = tt
    steps-fit (suc f) r w = fits_at_lem (kinds tree text) (nothing_at tree text) (kind_of tree r) kinds-fit nothing_fits
        (λ k. fix_f absent (node_step tree text) f k) (λ k v. steps-fit f k v) r w

    node-fits : (r : ℕ) → Word r → NodeFits (node tree text r)
    unfolding node fix
    node-fits r w = steps-fit (suc r) r w

    functions_below_lem : (n : ℕ) → Word n → All (FunctionFitsIn text) (functions_below tree text n)
    unfolding functions_below
    functions_below_lem zero w = tt
    functions_below_lem (suc r) w = all_append (FunctionFitsIn text) (functions_below tree text r) _ (functions_below_lem r (omega arith))
        (pick_is (All (FunctionFitsIn text)) (eqb (kind_of tree r) 25) (functions_in (node tree text r)) []
        (functions_listed (node tree text r) (node-fits r (omega arith))) tt)

    pub program-fits : Word (records tree) → TreeFits text (program tree text)
    unfolding program
    program-fits w = functions_below_lem (records tree) w
