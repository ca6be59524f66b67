-- Document 02, point 9, on small trees: the different records that are typed, the visits statement by statement, and the expression records, of each.
-- By computing, on syntax trees of at most 20 records. Assumes nothing.
use mathlib.Core.Path.{◌≡◌, refl}
use Prim.Native.Nat.{ℕ}
use mathlib.Core.Bool.{false}
use mathlib.Core.List.{List, [], ◌∷◌}
use mathlib.Core.Option.{none, some}
use lib.IntN.{pos}
use Rattle.syntax.specs.Syntax.{Text, Not, Add, And, Expr, EInt, EName, EUnary, EBinary, ECall, no_args, Value, ToType, SDeclare, SInit, SReturn, SCall, SIfElse, SFor, Block, done, next, Function}
use Rattle.syntax.specs.Exprs.{expression_records}
use Rattle.conversion.specs.Visits.{visits, functions_visits}

pub record Counted : Type 0 where
  pub typed : ℕ
  pub visited : ℕ
  pub held : ℕ

unfoldable function : Block → Function
function b = record { rec_of = 20; name = []; mangled_name = []; return_type = none; params = []; variadic = false; body = some b; external = false }

unfoldable count : Block → Counted
unfolding function visits functions_visits expression_records
count b = record { typed = visits 20 (function b ∷ []); visited = functions_visits 20 (function b ∷ []); held = expression_records 20 (function b) }

abbrev counts : ℕ → ℕ → ℕ → Counted
counts t v h = record { typed = t; visited = v; held = h }

unfoldable int : ℕ → ℕ → Expr
int r n = EInt r (pos n) false false

-- record r: f of one value, at record v
unfoldable call : ℕ → ℕ → Expr → Expr
call r v e = ECall r (102 ∷ []) (Value v e no_args)

-- (1) f(1 + 2) as a statement: 1, 2 and their sum; the call itself is resolved and not typed
unfoldable one : Block
unfolding int call
one = next (SCall 5 (call 4 3 (EBinary 2 Add (int 0 1) (int 1 2)))) done

-- (2) x = f(f(1))
unfoldable two : Block
unfolding int call
two = next (SInit 6 false (120 ∷ []) (call 5 4 (call 3 2 (int 1 1)))) done

-- (3) the statement 1 + 2, a declaration, and a value for what it declares
unfoldable ga : Text
ga = 0xEA ∷ 0xB0 ∷ 0x80 ∷ []

unfoldable three : Block
unfolding int ga
three = next (SCall 3 (EBinary 2 Add (int 0 1) (int 1 2))) (next (SDeclare 4 ga 0) (next (SInit 6 false ga (int 5 3)) done))

-- (4) p and q, returned
unfoldable four : Block
four = next (SReturn 3 (EBinary 2 And (EName 0 (112 ∷ [])) (EName 1 (113 ∷ [])))) done

-- (5) x = 1 + 1 + 1 + 1
unfoldable five : Block
unfolding int
five = next (SInit 7 false (120 ∷ []) (EBinary 6 Add (EBinary 4 Add (EBinary 2 Add (int 0 1) (int 1 1)) (int 3 1)) (int 5 1))) done

-- (6) a For from 1 + 2 until f(3): both bounds
unfoldable six : Block
unfolding int call ga
six = next (SFor 6 ga none (EBinary 2 Add (int 0 1) (int 1 2)) (call 5 4 (int 3 3)) done) done

-- (7) if not p: return 1, and behind that the statement 2 + 3; otherwise x = a cast with a type and two values, of which the second is dropped
unfoldable seven : Block
unfolding int
seven =
    next (SIfElse 17 (EUnary 1 Not (EName 0 (112 ∷ [])))
    (next (SReturn 3 (int 2 1)) (next (SCall 7 (EBinary 6 Add (int 4 2) (int 5 3))) done))
    (next (SInit 14 false (120 ∷ []) (ECall 13 (102 ∷ []) (ToType 8 0 (Value 10 (int 9 4) (Value 12 (int 11 5) no_args))))) done)) done

pub computed : List Counted
unfolding count one two three four five six seven
computed = count one ∷ count two ∷ count three ∷ count four ∷ count five ∷ count six ∷ count seven ∷ []

pub expected : List Counted
expected = counts 3 3 4 ∷ counts 3 3 3 ∷ counts 4 4 4 ∷ counts 3 3 3 ∷ counts 7 7 7 ∷ counts 5 5 5 ∷ counts 9 9 9 ∷ []

pub visits_counted_lem : computed ≡ expected
unfolding computed expected
visits_counted_lem = refl
