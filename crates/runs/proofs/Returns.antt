-- With a return type the tree's run does not pass the last line: a block that always returns does not end normally.
-- By induction on the statement and the block.
use mathlib.Core.Path.{◌≡◌, refl}
use mathlib.Core.List.{List}
use mathlib.Core.Option.{Option, none, some}
use mathlib.Core.Bool.{Bool, true, false, ◌&&◌, ◌||◌}
use Prim.Native.Nat.{ℕ}
use native.Mathlib.Omega.{arith}
use Rattle.syntax.specs.Syntax.{Expr, Statement, SDeclare, SInit, SReturn, SCall, SIf, SIfElse, SWhile, SFor, SBreak, SContinue, Block, done, next, Function, Program}
use Rattle.conversion.specs.Expressions.{Functions}
use Rattle.conversion.specs.Functions.{statement_returns, always_returns}
use Rattle.runs.specs.Rule.{Truth, holds, fails, halts, CallsMade, Rule, Answers, passed}
use Rattle.runs.specs.TreeRun.{KnownName, Values, Got, value, stop, wait, Ran, normal, broke, continued, returned, stopped, held, unfinished, bind_o, bind_s, test_o, give_back, run_statement, run_block, known_after}
use Rattle.runs.specs.Shared.{end_t}

abbrev pub NotNormal : {W : Type 0} → Ran W → Type 0
NotNormal (normal σ h) = ⊥
NotNormal (broke σ h) = Unit {0}
NotNormal (continued σ h) = Unit {0}
NotNormal (returned v h) = Unit {0}
NotNormal (stopped h) = Unit {0}
NotNormal (held h) = Unit {0}
NotNormal (unfinished h) = Unit {0}

pub not-passed : {W : Type 0} (o : Ran W) → NotNormal o → end_t o ≡ some passed → ⊥
unfolding end_t
not-passed (normal σ h) n e = n
not-passed (broke σ h) n e = let z : ◌≡◌ {A = ℕ} 0 1 = cc in omega arith
not-passed (continued σ h) n e = let z : ◌≡◌ {A = ℕ} 0 1 = cc in omega arith
not-passed (returned v h) n e = let z : ◌≡◌ {A = ℕ} 0 1 = cc in omega arith
not-passed (stopped h) n e = let z : ◌≡◌ {A = ℕ} 0 1 = cc in omega arith
not-passed (held h) n e = let z : ◌≡◌ {A = ℕ} 0 1 = cc in omega arith
not-passed (unfinished h) n e = let z : ◌≡◌ {A = ℕ} 0 1 = cc in omega arith

n_bind_o : {W Y : Type 0} (r : Got W Y) (f : Y → CallsMade W → Ran W) → ((a : Y) (h : CallsMade W) → NotNormal (f a h)) → NotNormal (bind_o r f)
unfolding bind_o
n_bind_o (value a h) f H = H a h
n_bind_o (stop h) f H = tt
n_bind_o (wait h) f H = tt

n_test_o : {W : Type 0} (u : Truth) (h : CallsMade W) (a b : Ran W) → NotNormal a → NotNormal b → NotNormal (test_o u h a b)
unfolding test_o
n_test_o holds h a b x y = x
n_test_o fails h a b x y = y
n_test_o halts h a b x y = tt

n_first : {W : Type 0} (r : Ran W) (f : Values W → CallsMade W → Ran W) → NotNormal r → NotNormal (bind_s r f)
unfolding bind_s
n_first (normal σ h) f n = absurd n
n_first (broke σ h) f n = tt
n_first (continued σ h) f n = tt
n_first (returned v h) f n = tt
n_first (stopped h) f n = tt
n_first (held h) f n = tt
n_first (unfinished h) f n = tt

n_second : {W : Type 0} (r : Ran W) (f : Values W → CallsMade W → Ran W) → ((σ : Values W) (h : CallsMade W) → NotNormal (f σ h)) → NotNormal (bind_s r f)
unfolding bind_s
n_second (normal σ h) f n = n σ h
n_second (broke σ h) f n = tt
n_second (continued σ h) f n = tt
n_second (returned v h) f n = tt
n_second (stopped h) f n = tt
n_second (held h) f n = tt
n_second (unfinished h) f n = tt

both : (a b : Bool) → a && b ≡ true → (a ≡ true) × (b ≡ true)
both true b e = (refl, e)
both false b e = let z : ◌≡◌ {A = ℕ} 0 1 = cc in absurd (omega arith)

module _ {W : Type 0} (P : Program) (F : Functions) (f : Function) (R : Rule W) (A : Answers W) where
  gives_back : (o : Option ℕ) (e : Expr) (N : List KnownName) (σ : Values W) (h : CallsMade W) → NotNormal (give_back P F f R A o e N σ h)
  unfolding give_back
  gives_back none e N σ h = tt
  gives_back (some y) e N σ h = n_bind_o _ _ λ u h1. n_bind_o _ _ λ u1 h2. n_bind_o _ _ λ v h3. tt

  mutual
    unfolding statement_returns run_statement

    pub statement_returns_lem : (t : Statement) (k : ℕ) (N : List KnownName) (σ : Values W) (h : CallsMade W) → statement_returns t ≡ true → NotNormal (run_statement P F f R A t k N σ h)
    statement_returns_lem (SReturn r e) k N σ h q = gives_back f.return_type e N σ h
    statement_returns_lem (SIfElse r e a b) k N σ h q = n_bind_o _ _ λ v h1. n_test_o _ h1 _ _ (block_returns a k N σ h1 (both (always_returns a) (always_returns b) q).0) (block_returns b k N σ h1 (both (always_returns a) (always_returns b) q).1)
    statement_returns_lem (SDeclare r n y) k N σ h q = let z : ◌≡◌ {A = ℕ} 0 1 = cc in absurd (omega arith)
    statement_returns_lem (SInit r c n e) k N σ h q = let z : ◌≡◌ {A = ℕ} 0 1 = cc in absurd (omega arith)
    statement_returns_lem (SCall r e) k N σ h q = let z : ◌≡◌ {A = ℕ} 0 1 = cc in absurd (omega arith)
    statement_returns_lem (SIf r e a) k N σ h q = let z : ◌≡◌ {A = ℕ} 0 1 = cc in absurd (omega arith)
    statement_returns_lem (SWhile r e a) k N σ h q = let z : ◌≡◌ {A = ℕ} 0 1 = cc in absurd (omega arith)
    statement_returns_lem (SFor r n y a b c) k N σ h q = let z : ◌≡◌ {A = ℕ} 0 1 = cc in absurd (omega arith)
    statement_returns_lem (SBreak r) k N σ h q = let z : ◌≡◌ {A = ℕ} 0 1 = cc in absurd (omega arith)
    statement_returns_lem (SContinue r) k N σ h q = let z : ◌≡◌ {A = ℕ} 0 1 = cc in absurd (omega arith)

    pub block_returns : (b : Block) (k : ℕ) (N : List KnownName) (σ : Values W) (h : CallsMade W) → always_returns b ≡ true → NotNormal (run_block P F f R A b k N σ h)
    block_returns done k N σ h q = let z : ◌≡◌ {A = ℕ} 0 1 = cc in absurd (omega arith)
    block_returns (next t b) k N σ h q =
        either (statement_returns t) refl q (λ e. statement_returns_lem t k N σ h e) (λ e σ1 h1. block_returns b k (known_after P F f R A t N) σ1 h1 e)
      where
        either : (x : Bool) → statement_returns t ≡ x → x || always_returns b ≡ true → (statement_returns t ≡ true → NotNormal (run_statement P F f R A t k N σ h))
            → (always_returns b ≡ true → (σ1 : Values W) (h1 : CallsMade W) → NotNormal (run_block P F f R A b k (known_after P F f R A t N) σ1 h1))
            → NotNormal (bind_s (run_statement P F f R A t k N σ h) λ σ1 h1. run_block P F f R A b k (known_after P F f R A t N) σ1 h1)
        either true e z H K = n_first _ _ (H e)
        either false e z H K = n_second _ _ (K z)
