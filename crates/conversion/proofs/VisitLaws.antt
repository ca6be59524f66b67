-- Visits, statement by statement, are as many as the different records that are typed, where the functions meet no expression record twice; and in a function they
-- are at most its expression records.
-- What is typed in a part is within that part's expression records, and two parts share none. Assumes nothing.
use mathlib.Core.Path.{◌≡◌, refl, sym}
use Prim.Native.Nat.{ℕ, ◌+◌, ◌≤◌, ◌<◌}
use mathlib.Core.Bool.{true}
use mathlib.Core.List.{List, [], ◌∷◌, ◌++◌, append_assoc}
use mathlib.Core.Option.{Option, none, some}
use native.Mathlib.Omega.{arith}
use Rattle.laws.specs.All.{All}
use Rattle.laws.specs.Different.{different}
use Rattle.laws.proofs.DifferentLaws.{Within, within_none, within_again, within-left, within_parts, within_more, Single, single_left, single_right, different-le, different-none, different_parts}
use Rattle.records.specs.Words.{records}
use Rattle.records.specs.Rules.{record_ok}
use Rattle.syntax.specs.Syntax.{Expr, EInt, EFloat, EStr, EBool, EName, ENull, ESizeOf, EUnary, EBinary, ECall, Args, no_args, Value, ToType, Statement, SDeclare, SInit, SReturn, SCall, SIf, SIfElse, SWhile, SFor, SBreak, SContinue, Block, done, next, Function}
use Rattle.syntax.specs.Exprs.{exprs, args_exprs, statement_exprs, block_exprs, body_exprs, expression_records, all_exprs}
use Rattle.syntax.specs.Decode.{program}
use Rattle.syntax.proofs.Once.{judged-occurs}
use Rattle.conversion.specs.Statements.{as_call}
use Rattle.conversion.specs.Visits.{typed_expr, typed_args, typed_value, typed_own, typed_statement, typed_block, typed_body, typed_all, visits, statement_visits, block_visits, body_visits, functions_visits}

-- ---- what is typed is within the expression records

-- an expression's own type is worked out from its parts', and these are typed again
own-within : (r : ℕ) (l m : List ℕ) → Within m l → Within ((r ∷ l) ++ m) (r ∷ l)
own-within r l m f = within_again (r ∷ l) m (within_more m l r f)

mutual
  unfolding typed_expr exprs

  pub typed_expr_lem : (e : Expr) → Within (typed_expr e) (exprs e)
  typed_expr_lem (EInt r v s u) q h = within_none (r ∷ []) q h
  typed_expr_lem (EFloat r b s) q h = within_none (r ∷ []) q h
  typed_expr_lem (EStr r o n t) q h = within_none (r ∷ []) q h
  typed_expr_lem (EBool r b) q h = within_none (r ∷ []) q h
  typed_expr_lem (EName r t) q h = within_none (r ∷ []) q h
  typed_expr_lem (ENull r) q h = within_none (r ∷ []) q h
  typed_expr_lem (ESizeOf r y) q h = within_none (r ∷ []) q h
  typed_expr_lem (EUnary r o a) q h = own-within r (exprs a) (typed_expr a) (λ q h. typed_expr_lem a q h) q h
  typed_expr_lem (EBinary r o a b) q h = own-within r (exprs a ++ exprs b) ((exprs a ++ exprs b) ++ (typed_expr a ++ typed_expr b))
      (within_again (exprs a ++ exprs b) (typed_expr a ++ typed_expr b)
      (within_parts (typed_expr a) (typed_expr b) (exprs a) (exprs b) (λ q h. typed_expr_lem a q h) (λ q h. typed_expr_lem b q h))) q h
  typed_expr_lem (ECall r verb l) q h = own-within r (args_exprs l) (args_exprs l ++ typed_args l)
      (within_again (args_exprs l) (typed_args l) (λ q h. typed_args_lem l q h)) q h

  pub typed_args_lem : (l : Args) → Within (typed_args l) (args_exprs l)
  typed_args_lem no_args q h = h
  typed_args_lem (Value r e l) q h = within_parts (typed_expr e) (typed_args l) (exprs e) (args_exprs l) (λ q h. typed_expr_lem e q h) (λ q h. typed_args_lem l q h) q h
  typed_args_lem (ToType r y l) q h = typed_args_lem l q h

pub typed_value_lem : (e : Expr) → Within (typed_value e) (exprs e)
unfolding typed_value
typed_value_lem e = within_again (exprs e) (typed_expr e) (typed_expr_lem e)

-- a call statement's expression
typed_call : (r : ℕ) (e : Expr) → Within (typed_own (SCall r e)) (exprs e)
unfolding typed_own as_call exprs
typed_call r (ECall c verb l) = within_more (args_exprs l ++ typed_args l) (args_exprs l) c (within_again (args_exprs l) (typed_args l) (typed_args_lem l))
typed_call r (EInt c v s u) = λ q h. h
typed_call r (EFloat c b s) = λ q h. h
typed_call r (EStr c o n t) = λ q h. h
typed_call r (EBool c b) = λ q h. h
typed_call r (EName c t) = λ q h. h
typed_call r (ENull c) = λ q h. h
typed_call r (ESizeOf c y) = λ q h. h
typed_call r (EUnary c o a) = λ q h. h
typed_call r (EBinary c o a b) = λ q h. h

-- both bounds of a For
typed_bounds : (a b : Expr) → Within ((exprs a ++ exprs b) ++ (typed_expr a ++ typed_expr b)) (exprs a ++ exprs b)
typed_bounds a b = within_again (exprs a ++ exprs b) (typed_expr a ++ typed_expr b)
    (within_parts (typed_expr a) (typed_expr b) (exprs a) (exprs b) (typed_expr_lem a) (typed_expr_lem b))

mutual
  unfolding typed_statement statement_exprs typed_own

  pub typed_statement_lem : (t : Statement) → Within (typed_statement t) (statement_exprs t)
  typed_statement_lem (SDeclare r n y) q h = h
  typed_statement_lem (SInit r c n e) q h = typed_value_lem e q h
  typed_statement_lem (SReturn r e) q h = typed_value_lem e q h
  typed_statement_lem (SCall r e) q h = typed_call r e q h
  typed_statement_lem (SIf r e a) q h = within_parts (typed_value e) (typed_block a) (exprs e) (block_exprs a) (typed_value_lem e) (λ q h. typed_block_lem a q h) q h
  typed_statement_lem (SIfElse r e a b) q h = within_parts (typed_value e) (typed_block a ++ typed_block b) (exprs e) (block_exprs a ++ block_exprs b) (typed_value_lem e)
      (within_parts (typed_block a) (typed_block b) (block_exprs a) (block_exprs b) (λ q h. typed_block_lem a q h) (λ q h. typed_block_lem b q h)) q h
  typed_statement_lem (SWhile r e a) q h = within_parts (typed_value e) (typed_block a) (exprs e) (block_exprs a) (typed_value_lem e) (λ q h. typed_block_lem a q h) q h
  typed_statement_lem (SFor r n y a b c) q h = rw (← (append_assoc (exprs a) (exprs b) (block_exprs c)))
      (within_parts (typed_own (SFor r n y a b c)) (typed_block c) (exprs a ++ exprs b) (block_exprs c) (typed_bounds a b) (λ q h. typed_block_lem c q h) q h)
  typed_statement_lem (SBreak r) q h = h
  typed_statement_lem (SContinue r) q h = h

  pub typed_block_lem : (b : Block) → Within (typed_block b) (block_exprs b)
  typed_block_lem done q h = h
  typed_block_lem (next t b) q h = within_parts (typed_statement t) (typed_block b) (statement_exprs t) (block_exprs b) (λ q h. typed_statement_lem t q h) (λ q h. typed_block_lem b q h) q h

-- a statement without its blocks
pub typed_own_lem : (t : Statement) → Within (typed_own t) (statement_exprs t)
unfolding typed_own statement_exprs
typed_own_lem (SDeclare r n y) = λ q h. h
typed_own_lem (SInit r c n e) = typed_value_lem e
typed_own_lem (SReturn r e) = typed_value_lem e
typed_own_lem (SCall r e) = typed_call r e
typed_own_lem (SIf r e a) = within-left (typed_value e) (exprs e) (block_exprs a) (typed_value_lem e)
typed_own_lem (SIfElse r e a b) = within-left (typed_value e) (exprs e) (block_exprs a ++ block_exprs b) (typed_value_lem e)
typed_own_lem (SWhile r e a) = within-left (typed_value e) (exprs e) (block_exprs a) (typed_value_lem e)
typed_own_lem (SFor r n y a b c) = rw (← (append_assoc (exprs a) (exprs b) (block_exprs c)))
    (within-left (typed_own (SFor r n y a b c)) (exprs a ++ exprs b) (block_exprs c) (typed_bounds a b))
typed_own_lem (SBreak r) = λ q h. h
typed_own_lem (SContinue r) = λ q h. h

pub typed_body_lem : (b : Option Block) → Within (typed_body b) (body_exprs b)
unfolding typed_body body_exprs
typed_body_lem none = λ q h. h
typed_body_lem (some b) = typed_block_lem b

pub typed_all_lem : (l : List Function) → Within (typed_all l) (all_exprs l)
unfolding typed_all all_exprs
typed_all_lem [] = λ q h. h
typed_all_lem (f ∷ l) = within_parts (typed_body f.body) (typed_all l) (body_exprs f.body) (all_exprs l) (typed_body_lem f.body) (typed_all_lem l)

-- ---- visits are the different records, where no expression record is met twice

-- a For's bounds as one part
for_single : (a b c : List ℕ) → Single (a ++ (b ++ c)) → Single ((a ++ b) ++ c)
for_single a b c o = rw (append_assoc a b c) o

module _ (n : ℕ) where
  -- m visits of what is typed in one part, k of what is typed in another
  parts : (a b c d : List ℕ) (m k : ℕ) → Within a c → Within b d → Single (c ++ d) → m ≡ different n a → k ≡ different n b → m + k ≡ different n (a ++ b)
  parts a b c d m k f g o e h = rw (e, h) (sym (different_parts n a b c d f g o))

  mutual
    unfolding statement_visits typed_statement statement_exprs typed_own

    pub statement_visits_lem : (t : Statement) → Single (statement_exprs t) → statement_visits n t ≡ different n (typed_statement t)
    statement_visits_lem (SDeclare r m y) o = refl
    statement_visits_lem (SInit r c m e) o = refl
    statement_visits_lem (SReturn r e) o = refl
    statement_visits_lem (SCall r e) o = refl
    statement_visits_lem (SIf r e a) o = parts (typed_value e) (typed_block a) (exprs e) (block_exprs a) _ _ (typed_value_lem e) (typed_block_lem a) o
        refl (block_visits_lem a (single_right (exprs e) (block_exprs a) o))
    statement_visits_lem (SIfElse r e a b) o =
        let s : Single (block_exprs a ++ block_exprs b) = single_right (exprs e) (block_exprs a ++ block_exprs b) o in
        parts (typed_value e) (typed_block a ++ typed_block b) (exprs e) (block_exprs a ++ block_exprs b) _ _ (typed_value_lem e)
        (within_parts (typed_block a) (typed_block b) (block_exprs a) (block_exprs b) (typed_block_lem a) (typed_block_lem b)) o
        refl
        (parts (typed_block a) (typed_block b) (block_exprs a) (block_exprs b) _ _ (typed_block_lem a) (typed_block_lem b) s
        (block_visits_lem a (single_left (block_exprs a) (block_exprs b) s)) (block_visits_lem b (single_right (block_exprs a) (block_exprs b) s)))
    statement_visits_lem (SWhile r e a) o = parts (typed_value e) (typed_block a) (exprs e) (block_exprs a) _ _ (typed_value_lem e) (typed_block_lem a) o
        refl (block_visits_lem a (single_right (exprs e) (block_exprs a) o))
    statement_visits_lem (SFor r m y a b c) o =
        let s : Single ((exprs a ++ exprs b) ++ block_exprs c) = for_single (exprs a) (exprs b) (block_exprs c) o in
        parts (typed_own (SFor r m y a b c)) (typed_block c) (exprs a ++ exprs b) (block_exprs c) _ _ (typed_bounds a b) (typed_block_lem c) s
        refl (block_visits_lem c (single_right (exprs a ++ exprs b) (block_exprs c) s))
    statement_visits_lem (SBreak r) o = refl
    statement_visits_lem (SContinue r) o = refl

    pub block_visits_lem : (b : Block) → Single (block_exprs b) → block_visits n b ≡ different n (typed_block b)
    block_visits_lem done o = sym (different-none n)
    block_visits_lem (next t b) o = parts (typed_statement t) (typed_block b) (statement_exprs t) (block_exprs b) _ _ (typed_statement_lem t) (typed_block_lem b) o
        (statement_visits_lem t (single_left (statement_exprs t) (block_exprs b) o)) (block_visits_lem b (single_right (statement_exprs t) (block_exprs b) o))

  pub body_visits_lem : (b : Option Block) → Single (body_exprs b) → body_visits n b ≡ different n (typed_body b)
  unfolding body_visits typed_body body_exprs
  body_visits_lem none o = sym (different-none n)
  body_visits_lem (some b) o = block_visits_lem b o

  -- THE SEVENTH COUNT: the visits of all functions are the different records that they type
  pub all-visits : (l : List Function) → Single (all_exprs l) → functions_visits n l ≡ visits n l
  unfolding functions_visits visits typed_all all_exprs
  all-visits [] o = sym (different-none n)
  all-visits (f ∷ l) o = parts (typed_body f.body) (typed_all l) (body_exprs f.body) (all_exprs l) _ _ (typed_body_lem f.body) (typed_all_lem l) o
      (body_visits_lem f.body (single_left (body_exprs f.body) (all_exprs l) o)) (all-visits l (single_right (body_exprs f.body) (all_exprs l) o))

  -- 'For a function whose tree holds e such records, the visits shall be at most e'
  pub visits_at-most : (f : Function) → Single (body_exprs f.body) → body_visits n f.body ≤ expression_records n f
  unfolding expression_records
  visits_at-most f o = omega (
    arith,
    body_visits_lem f.body o,
    different-le n (typed_body f.body) (body_exprs f.body) (λ q l h. typed_body_lem f.body q h),
  )

  pub all-at_most : (l : List Function) → Single (all_exprs l) → All (λ f. body_visits n f.body ≤ expression_records n f) l
  unfolding all_exprs
  all-at_most [] o = tt
  all-at_most (f ∷ l) o =
      (visits_at-most f (single_left (body_exprs f.body) (all_exprs l) o), all-at_most l (single_right (body_exprs f.body) (all_exprs l) o))

-- ---- in a tree whose records keep the rules

module _ (tree text : List ℕ) (ok : (r : ℕ) → r < records tree → record_ok tree text r ≡ true) where
  pub judged-visits : functions_visits (records tree) (program tree text).functions ≡ visits (records tree) (program tree text).functions
  judged-visits = all-visits (records tree) (program tree text).functions (judged-occurs tree text ok)

  pub judged-at_most : All (λ f. body_visits (records tree) f.body ≤ expression_records (records tree) f) (program tree text).functions
  judged-at_most = all-at_most (records tree) (program tree text).functions (judged-occurs tree text ok)
