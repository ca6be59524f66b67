-- The theorem at the functions of Alike: their two runs share all that is seen outside, so that the facts there are instances of it.
-- The program converts, by computing, and no two of its nodes that open labels have one record; the rest is the theorem.
use mathlib.Core.Path.{◌≡◌, refl, ◌∙◌, subst}
use mathlib.Core.Bool.{Bool, true, false}
use mathlib.Core.List.{List, [], ◌∷◌}
use mathlib.Core.Option.{none, some}
use Prim.Native.Nat.{ℕ, zero, suc, ◌≤◌}
use native.Mathlib.Omega.{arith}
use lib.Dec.{eqb}
use lib.ListN.{length, get_elem?}
use Rattle.laws.specs.Fix.{pick}
use Rattle.syntax.specs.Syntax.{Block, Function}
use Rattle.conversion.specs.ConvertError.{ok}
use Rattle.conversion.specs.Ir.{Instr, IrFunction, IrProgram}
use Rattle.conversion.specs.Expressions.{Functions}
use Rattle.conversion.specs.Functions.{get_all_functions}
use Rattle.conversion.specs.Converter.{convert}
use Rattle.runs.specs.Rule.{Rule, Answers, asked}
use Rattle.runs.specs.BodyRun.{Vars, body_run}
use Rattle.runs.specs.Shared.{Shared, InPlace}
use Rattle.runs.proofs.Opens.{bit, logic_opens, opens_e, opens_b, WellFormed}
use Rattle.runs.proofs.Agrees.{body_of}
use Rattle.conversion.proofs.Bodies.{parameter, outside, inside, ask, bound, take, ask_rate, int, guard_body, either_body, loop_body, spin_body, take_x, ratio_body, pause_body, split_body, guard, either, loop, spin, ratio, pause, split, several, put, feed, mix, half, put_half, fill_body, fill, program, converted, code_of}
use Rattle.runs.proofs.Alike.{rule, functions, tree_of, made_of, begin, tree_at, made_at}
use Rattle.runs.proofs.Machine.{Same, is, isnt, same}
use Rattle.runs.proofs.Demand3.{demand3}

-- ---- no two nodes of a body that open labels have one record

bit-small : (b : Bool) → bit b ≤ 1
bit-small true = omega arith
bit-small false = omega arith

without_body : {f g : Function} {b : Block} → some g ≡ some f → g.body ≡ none → f.body ≡ some b → ⊥
without_body e n k = let z : ◌≡◌ {A = ℕ} 0 1 = cc in omega arith

body_is : {f g : Function} {b c : Block} → some g ≡ some f → g.body ≡ some c → f.body ≡ some b → c ≡ b
body_is e n k = cc

guard_once : (i : ℕ) → opens_b guard_body i ≤ 1
unfolding guard_body ask_rate int opens_b opens_e logic_opens
guard_once i = omega (arith, bit-small (eqb i 20))

either-once : (i : ℕ) → opens_b either_body i ≤ 1
unfolding either_body ask_rate int opens_b opens_e logic_opens
either-once i = omega (arith, bit-small (eqb i 20))

loop-once : (i : ℕ) → opens_b loop_body i ≤ 1
unfolding loop_body ask_rate int opens_b opens_e logic_opens
loop-once i = go (same i 31)
  where
    go : Same i 31 → opens_b loop_body i ≤ 1
    go (is p q) = rw p (omega arith)
    go (isnt p q) = rw q (omega (arith, bit-small (eqb i 32)))

spin_once : (i : ℕ) → opens_b spin_body i ≤ 1
unfolding spin_body ask_rate int opens_b opens_e logic_opens
spin_once i = omega (arith, bit-small (eqb i 66))

ratio_once : (i : ℕ) → opens_b ratio_body i ≤ 1
unfolding ratio_body take_x opens_b opens_e logic_opens
ratio_once i = omega arith

pause_once : (i : ℕ) → opens_b pause_body i ≤ 1
unfolding pause_body ask_rate int opens_b opens_e logic_opens
pause_once i = omega arith

split_once : (i : ℕ) → opens_b split_body i ≤ 1
unfolding split_body opens_b opens_e logic_opens
split_once i = omega (arith, bit-small (eqb i 94))

fill_once : (i : ℕ) → opens_b fill_body i ≤ 1
unfolding fill_body half put_half opens_b opens_e logic_opens
fill_once i = omega arith

well_formed : WellFormed program
unfolding program outside inside ask bound take guard either loop spin ratio pause split several put feed mix fill
well_formed = record { once = once }
  where
    once : (i : ℕ) (f : Function) (b : Block) → get_elem? program.functions i ≡ some f → f.body ≡ some b → (j : ℕ) → opens_b b j ≤ 1
    once zero f b e k j = absurd (without_body e refl k)
    once (suc zero) f b e k j = absurd (without_body e refl k)
    once (suc (suc zero)) f b e k j = subst (λ c. opens_b c j ≤ 1) (body_is e refl k) (guard_once j)
    once (suc (suc (suc zero))) f b e k j = subst (λ c. opens_b c j ≤ 1) (body_is e refl k) (loop-once j)
    once (suc (suc (suc (suc zero)))) f b e k j = subst (λ c. opens_b c j ≤ 1) (body_is e refl k) (either-once j)
    once (suc (suc (suc (suc (suc zero))))) f b e k j = absurd (without_body e refl k)
    once (suc (suc (suc (suc (suc (suc zero)))))) f b e k j = subst (λ c. opens_b c j ≤ 1) (body_is e refl k) (spin_once j)
    once (suc (suc (suc (suc (suc (suc (suc zero))))))) f b e k j = subst (λ c. opens_b c j ≤ 1) (body_is e refl k) (ratio_once j)
    once (suc (suc (suc (suc (suc (suc (suc (suc zero)))))))) f b e k j = subst (λ c. opens_b c j ≤ 1) (body_is e refl k) (pause_once j)
    once (suc (suc (suc (suc (suc (suc (suc (suc (suc zero))))))))) f b e k j = subst (λ c. opens_b c j ≤ 1) (body_is e refl k) (split_once j)
    once (suc (suc (suc (suc (suc (suc (suc (suc (suc (suc zero)))))))))) f b e k j = absurd (without_body e refl k)
    once (suc (suc (suc (suc (suc (suc (suc (suc (suc (suc (suc zero))))))))))) f b e k j = absurd (without_body e refl k)
    once (suc (suc (suc (suc (suc (suc (suc (suc (suc (suc (suc (suc zero)))))))))))) f b e k j = absurd (without_body e refl k)
    once (suc (suc (suc (suc (suc (suc (suc (suc (suc (suc (suc (suc (suc zero))))))))))))) f b e k j = subst (λ c. opens_b c j ≤ 1) (body_is e refl k) (fill_once j)
    once (suc (suc (suc (suc (suc (suc (suc (suc (suc (suc (suc (suc (suc (suc i)))))))))))))) f b e k j = let z : ◌≡◌ {A = ℕ} 0 1 = cc in absurd (omega arith)

-- ---- the theorem at this program

abbrev ir : IrProgram
ir = converted (convert program false)

abbrev funs : Functions
funs = functions (get_all_functions program.functions [])

converts : convert program false ≡ ok ir
unfolding converted convert program
converts = refl

found : get_all_functions program.functions [] ≡ ok funs
unfolding functions get_all_functions program outside inside ask bound take guard either loop spin ratio pause split several put feed mix fill
found = refl

code_is : (l : List IrFunction) (i : ℕ) (g : IrFunction) (c : List Instr) → get_elem? l i ≡ some g → g.body ≡ some c → c ≡ code_of l i
unfolding code_of
code_is [] i g c e k = let z : ◌≡◌ {A = ℕ} 0 1 = cc in absurd (omega arith)
code_is (h ∷ l) zero g c e k = rw (body-of e ∙ k) refl
  where
    body-of : some h ≡ some g → h.body ≡ g.body
    body-of q = cc
code_is (h ∷ l) (suc i) g c e k = code_is l i g c e k

-- f, the i-th function of the program, with the body b: whatever rule, whoever answers
pub instance : {W : Type 0} (R : Rule W) (A : Answers W) (i : ℕ) (f : Function) (b : Block) (vs : List W) (ρ : Vars W) → get_elem? program.functions i ≡ some f → f.body ≡ some b
    → length vs ≡ length f.params → InPlace vs ρ → Shared (tree_of R A f b vs) (made_of R A i f ρ) f.return_type
unfolding tree_of made_of
instance {W} R A i f b vs ρ e k len place =
    let a = demand3 W program false ir funs well_formed converts found i f b e k in
    subst (λ c. Shared (tree_of R A f b vs) (body_run R A (body_of f c ir) ρ) f.return_type)
    (code_is ir.funcs i a.function a.code a.listed a.body) (a.shared R A vs ρ len place)

in_place : (r : ℕ) → InPlace (r ∷ []) (begin r)
unfolding begin pick
in_place r zero a e = cc
in_place r (suc i) a e = let z : ◌≡◌ {A = ℕ} 0 1 = cc in absurd (omega arith)

-- the guard of docs/GUARD.md, at every rate
pub guard_shared : (r : ℕ) → Shared (tree_at guard guard_body (r ∷ [])) (made_at 2 guard (begin r)) guard.return_type
unfolding program inside guard parameter tree_at made_at
guard_shared r = instance rule (asked rule) 2 guard guard_body (r ∷ []) (begin r) refl refl refl (in_place r)

-- types before values, under every rule
pub fill_shared : {W : Type 0} (R : Rule W) (A : Answers W) (ρ : Vars W) → Shared (tree_of R A fill fill_body []) (made_of R A 13 fill ρ) fill.return_type
unfolding program inside fill parameter
fill_shared R A ρ = instance R A 13 fill fill_body [] ρ refl refl refl (λ i a e. let z : ◌≡◌ {A = ℕ} 0 1 = cc in absurd (omega arith))
