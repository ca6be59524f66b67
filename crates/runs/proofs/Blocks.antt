-- Converted statements and blocks do what the tree's run says.
-- By induction on the statement and the block.
use mathlib.Core.Path.{◌≡◌, refl, sym, ◌∙◌, subst}
use mathlib.Core.List.{List, ◌++◌, append_assoc}
use Prim.Native.Nat.{ℕ, ◌+◌}
use native.Mathlib.Nat.{le_refl}
use native.Mathlib.Omega.{arith}
use Rattle.syntax.specs.Syntax.{Statement, SDeclare, SInit, SReturn, SCall, SIf, SIfElse, SWhile, SFor, SBreak, SContinue, Block, done, next}
use Rattle.conversion.specs.Ir.{State, made, pure}
use Rattle.conversion.specs.Scope.{Scope, with_loop}
use Rattle.conversion.specs.Statements.{convert_statement, convert_block}
use Rattle.runs.specs.Rule.{CallsMade}
use Rattle.runs.specs.TreeRun.{KnownName, Values, Ran, normal, bind_s, run_statement, run_block, known_after}
use Rattle.runs.proofs.Opens.{opens_s, opens_b}
use Rattle.runs.proofs.Machine.{Code, count, count-append, placed-drop}
use Rattle.runs.proofs.Invert.{grow_refl, grow_trans, inv, inv_pure}
use Rattle.runs.proofs.Names.{known, sub_refl, sub_trans}
use Rattle.conversion.proofs.Steps.{block_steps-is}
use Rattle.runs.proofs.Sim.{Ctx, within_back, stay}
use Rattle.runs.proofs.SimS.{runs, s_bind_s, GoodS, SoundS, good_s_as}
use Rattle.runs.proofs.Stmts.{good-declare, good_init, good-return, good-call_statement}
use Rattle.runs.proofs.Branches.{good-if, good-if_else, good_break, good_continue, good_comment}
use Rattle.runs.proofs.Loops.{good_while, good_for}

module _ {W : Type 0} (X : Ctx W) where
  -- the names at the end of a block
  unfoldable pub known_end : Block → List KnownName → List KnownName
  known_end done N = N
  known_end (next t b) N = known_end b (known_after X.prog X.funs X.fun X.rule X.answers t N)

  done-made : (sc : Scope) (s : State) (x : Scope) (c : Code) (t : State) → pure sc s ≡ made x c t → GoodS X sc (λ z. 0) (known sc.variables) (λ i σ h. normal σ h) s x c t
  unfolding count
  done-made sc s x c t q =
      let p = inv_pure q in
      good_s_as X p.got p.code p.st (record {
        grow = grow_refl;
        sub = sub_refl;
        loop = refl;
        func = refl;
        knows = refl;
        scoped = λ g. g;
        once = λ w m. le_refl 0;
        sim = λ w g lvs il sb m k ρ σ h ag pl. runs ρ (stay X) ag;
      })

  next-made : {z zb : ℕ → ℕ} {N M : List KnownName} {ev evb : ℕ → Values W → CallsMade W → Ran W} {s s1 t : State} {ca cb : Code} {sc2 : Scope} (sc sc1 : Scope)
      → GoodS X sc z N ev s sc1 ca s1 → GoodS X sc1 zb M evb s1 sc2 cb t
      → GoodS X sc (λ x. z x + zb x) M (λ i σ h. bind_s (ev i σ h) λ σ1 h1. evb i σ1 h1) s sc2 (ca ++ cb) t
  next-made {s = s} {s1} {t} {ca} {cb} {sc2} sc sc1 G H = record {
    grow = grow_trans G.grow H.grow;
    sub = sub_trans G.sub H.sub;
    loop = H.loop ∙ G.loop;
    func = H.func ∙ G.func;
    knows = H.knows;
    scoped = λ g. H.scoped (G.scoped g);
    once = λ w x. simp count-append (omega (arith, G.once (within_back X H.grow w) x, H.once w x));
    sim = λ w g lvs il sb i k ρ σ h ag. rw (append_assoc ca cb k) λ pl.
        s_bind_s X _ (G.sim (within_back X H.grow w) g lvs il sb i _ ρ σ h ag pl) λ σ1 ρ1 h1 a1.
        H.sim w (G.scoped g) lvs (rw (sym G.loop) at il) (sub_trans sb G.sub) i k ρ1 σ1 h1 a1 (placed-drop X.code ca _ pl);
  }

  block_next : (t : Statement) (b : Block) (sc : Scope) (z zb : ℕ → ℕ) (ev : ℕ → Values W → CallsMade W → Ran W) (evb : ℕ → List KnownName → Values W → CallsMade W → Ran W) (N : List KnownName) → sc.function ≡ X.fun
      → SoundS X sc (λ s. convert_statement X.prog X.funs t sc s) z N ev
      → ((sc1 : Scope) → sc1.function ≡ X.fun
      → SoundS X sc1 (λ s. convert_block X.prog X.funs b sc1 s) zb (known_end b (known sc1.variables)) (λ i σ h. evb i (known sc1.variables) σ h))
      → SoundS X sc (λ s. convert_block X.prog X.funs (next t b) sc s) (λ x. z x + zb x) (known_end b N) (λ i σ h. bind_s (ev i σ h) λ σ1 h1. evb i N σ1 h1)
  block_next t b sc z zb ev evb N fe H K s x c u q =
      let i = inv (sym (block_steps-is X.prog X.funs t b sc s) ∙ q) in
      let G = H s i.got i.c1 i.st i.first in
      good_s_as X refl i.code refl (next-made sc i.got G
      (subst (λ L. GoodS X i.got zb (known_end b L) (λ j σ h. evb j L σ h) i.st x i.c2 u) G.knows (K i.got (G.func ∙ fe) i.st x i.c2 u i.rest)))

  mutual
    unfolding convert_statement run_statement opens_s known_after known_end with_loop

    pub good_s : (t : Statement) (sc : Scope) → sc.function ≡ X.fun
        → SoundS X sc (λ s. convert_statement X.prog X.funs t sc s) (opens_s t) (known_after X.prog X.funs X.fun X.rule X.answers t (known sc.variables))
        (λ i σ h. run_statement X.prog X.funs X.fun X.rule X.answers t i (known sc.variables) σ h)
    good_s (SDeclare r n y) sc fe s x c u q = good_comment X sc r _ _ _ _ (good-declare X sc r n y) s x c u q
    good_s (SInit r b n e) sc fe s x c u q = good_comment X sc r _ _ _ _ (good_init X sc r b n e) s x c u q
    good_s (SReturn r e) sc fe s x c u q = good_comment X sc r _ _ _ _ (good-return X sc r e fe) s x c u q
    good_s (SCall r e) sc fe s x c u q = good_comment X sc r _ _ _ _ (good-call_statement X sc r e) s x c u q
    good_s (SIf r e a) sc fe s x c u q = good_comment X sc r _ _ _ _
        (good-if X sc r e (λ s1. convert_block X.prog X.funs a sc s1) (opens_b a) (known_end a (known sc.variables))
        (λ i σ h. run_block X.prog X.funs X.fun X.rule X.answers a i (known sc.variables) σ h) (λ s1 x1 c1 u1 q1. good_b a sc fe s1 x1 c1 u1 q1)) s x c u q
    good_s (SIfElse r e a b) sc fe s x c u q = good_comment X sc r _ _ _ _
        (good-if_else X sc r e (λ s1. convert_block X.prog X.funs a sc s1) (λ s1. convert_block X.prog X.funs b sc s1) (opens_b a) (opens_b b)
        (known_end a (known sc.variables)) (known_end b (known sc.variables))
        (λ i σ h. run_block X.prog X.funs X.fun X.rule X.answers a i (known sc.variables) σ h)
        (λ i σ h. run_block X.prog X.funs X.fun X.rule X.answers b i (known sc.variables) σ h)
        (λ s1 x1 c1 u1 q1. good_b a sc fe s1 x1 c1 u1 q1) (λ s1 x1 c1 u1 q1. good_b b sc fe s1 x1 c1 u1 q1)) s x c u q
    good_s (SWhile r e a) sc fe s x c u q = good_comment X sc r _ _ _ _
        (good_while X sc r e (λ s1. convert_block X.prog X.funs a (with_loop r sc) s1) (opens_b a) (known_end a (known sc.variables))
        (λ i σ h. run_block X.prog X.funs X.fun X.rule X.answers a i (known sc.variables) σ h) (λ s1 x1 c1 u1 q1. good_b a (with_loop r sc) fe s1 x1 c1 u1 q1)) s x c u q
    good_s (SFor r n y from until a) sc fe s x c u q = good_comment X sc r _ _ _ _
        (good_for X (opens_b a) (λ N. known_end a N) (λ i N σ h. run_block X.prog X.funs X.fun X.rule X.answers a i N σ h) r sc n y from until
        (λ sc1 s1. convert_block X.prog X.funs a (with_loop r sc1) s1) (λ sd e s1 x1 c1 u1 q1. good_b a (with_loop r sd) (e ∙ fe) s1 x1 c1 u1 q1)) s x c u q
    good_s (SBreak r) sc fe s x c u q = good_comment X sc r _ _ _ _ (good_break X sc r) s x c u q
    good_s (SContinue r) sc fe s x c u q = good_comment X sc r _ _ _ _ (good_continue X sc r) s x c u q

    pub good_b : (b : Block) (sc : Scope) → sc.function ≡ X.fun
        → SoundS X sc (λ s. convert_block X.prog X.funs b sc s) (opens_b b) (known_end b (known sc.variables))
        (λ i σ h. run_block X.prog X.funs X.fun X.rule X.answers b i (known sc.variables) σ h)
    good_b done sc fe s x c u q = done-made sc s x c u q
    good_b (next t b) sc fe s x c u q = block_next t b sc (opens_s t) (opens_b b)
        (λ i σ h. run_statement X.prog X.funs X.fun X.rule X.answers t i (known sc.variables) σ h)
        (λ i N σ h. run_block X.prog X.funs X.fun X.rule X.answers b i N σ h)
        (known_after X.prog X.funs X.fun X.rule X.answers t (known sc.variables)) fe
        (λ s1 x1 c1 u1 q1. good_s t sc fe s1 x1 c1 u1 q1) (λ sc1 f1 s1 x1 c1 u1 q1. good_b b sc1 f1 s1 x1 c1 u1 q1) s x c u q
