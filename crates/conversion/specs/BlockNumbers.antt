-- scope.rs, `Scope::new` and `generate_labels`: the numbers of the blocks, from the function down, that the Rust names a label by. The tables
-- do not need them; the names of labels do. Assumes nothing: these are definitions.
use Rattle.std.specs.Prelude.{ℕ, ◌+◌, List, [], ◌∷◌, ◌++◌, eqb}
use Rattle.std.proofs.Math.Option.{Option, none, some}
use Rattle.laws.specs.Below.{or_else}
use Rattle.laws.specs.Fix.{pick}
use Rattle.syntax.specs.Syntax.{Statement, SDeclare, SInit, SReturn, SCall, SIf, SIfElse, SWhile, SFor, SBreak, SContinue, Block, done, next, Function}

-- `block_count`: how many blocks a statement opens in the block that it stands in
unfoldable pub opens : Statement → ℕ
opens (SIf r e a) = 1
opens (SIfElse r e a b) = 2
opens (SWhile r e a) = 1
opens (SFor r n y a b c) = 1
opens (SDeclare r n y) = 0
opens (SInit r c n e) = 0
opens (SReturn r e) = 0
opens (SCall r e) = 0
opens (SBreak r) = 0
opens (SContinue r) = 0

-- 'a new block takes the next number of its parent': p are the numbers of the block around, n how many it has opened before. The answer is the
-- path of `generate_labels` for the loop or If of record r, that of the next block opened
unfoldable mutual
  unfolding pick or_else opens

  pub statement_path : Statement → List ℕ → ℕ → ℕ → Option (List ℕ)
  statement_path (SIf q e a) p n r = pick (eqb q r) (some (p ++ ((n + 1) ∷ []))) (block_path a (p ++ ((n + 1) ∷ [])) 0 r)
  statement_path (SIfElse q e a b) p n r = pick (eqb q r) (some (p ++ ((n + 1) ∷ [])))
      (or_else (block_path a (p ++ ((n + 1) ∷ [])) 0 r) (block_path b (p ++ ((n + 2) ∷ [])) 0 r))
  -- a loop's own scope, and in it the block of its body
  statement_path (SWhile q e a) p n r = pick (eqb q r) (some (p ++ ((n + 1) ∷ []))) (block_path a (p ++ ((n + 1) ∷ 1 ∷ [])) 0 r)
  statement_path (SFor q v y f u a) p n r = pick (eqb q r) (some (p ++ ((n + 1) ∷ []))) (block_path a (p ++ ((n + 1) ∷ 1 ∷ [])) 0 r)
  statement_path (SDeclare q v y) p n r = none
  statement_path (SInit q c v e) p n r = none
  statement_path (SReturn q e) p n r = none
  statement_path (SCall q e) p n r = none
  statement_path (SBreak q) p n r = none
  statement_path (SContinue q) p n r = none

  pub block_path : Block → List ℕ → ℕ → ℕ → Option (List ℕ)
  block_path done p n r = none
  block_path (next t b) p n r = or_else (statement_path t p n r) (block_path b p (n + opens t) r)

-- a function's body is the first block of its scope
unfoldable pub body_path : Option Block → ℕ → Option (List ℕ)
unfolding block_path
body_path none r = none
body_path (some b) r = block_path b (1 ∷ []) 0 r

unfoldable pub label_path : Function → ℕ → Option (List ℕ)
unfolding body_path
label_path f r = body_path f.body r
